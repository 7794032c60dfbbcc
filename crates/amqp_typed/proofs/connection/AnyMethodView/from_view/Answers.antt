use Rattle.std.proofs.Common.{sym, ◌∙◌}
use Rattle.amqp_typed.proofs.connection.AnyMethodView.from_view.Goals as goal

pub of_view-requires : goal.of_view-requires
of_view-requires c = (c.kind_in.ensures.fit, sym c.kind_in.ensures.kind ∙ c.in-ConnectionStart.is)

pub returns-in-ConnectionStart : goal.returns-in-ConnectionStart
returns-in-ConnectionStart c = c.of_view.ensures

pub of_view-requires-in-ConnectionStartOk : goal.of_view-requires-in-ConnectionStartOk
of_view-requires-in-ConnectionStartOk c = (c.kind_in.ensures.fit, sym c.kind_in.ensures.kind ∙ c.in-ConnectionStartOk.is)

pub returns-in-ConnectionStartOk : goal.returns-in-ConnectionStartOk
returns-in-ConnectionStartOk c = c.of_view-in-ConnectionStartOk.ensures

pub of_view-requires-in-ConnectionSecure : goal.of_view-requires-in-ConnectionSecure
of_view-requires-in-ConnectionSecure c = (c.kind_in.ensures.fit, sym c.kind_in.ensures.kind ∙ c.in-ConnectionSecure.is)

pub returns-in-ConnectionSecure : goal.returns-in-ConnectionSecure
returns-in-ConnectionSecure c = c.of_view-in-ConnectionSecure.ensures

pub of_view-requires-in-ConnectionSecureOk : goal.of_view-requires-in-ConnectionSecureOk
of_view-requires-in-ConnectionSecureOk c = (c.kind_in.ensures.fit, sym c.kind_in.ensures.kind ∙ c.in-ConnectionSecureOk.is)

pub returns-in-ConnectionSecureOk : goal.returns-in-ConnectionSecureOk
returns-in-ConnectionSecureOk c = c.of_view-in-ConnectionSecureOk.ensures

pub of_view-requires-in-ConnectionTune : goal.of_view-requires-in-ConnectionTune
of_view-requires-in-ConnectionTune c = (c.kind_in.ensures.fit, sym c.kind_in.ensures.kind ∙ c.in-ConnectionTune.is)

pub returns-in-ConnectionTune : goal.returns-in-ConnectionTune
returns-in-ConnectionTune c = c.of_view-in-ConnectionTune.ensures

pub of_view-requires-in-ConnectionTuneOk : goal.of_view-requires-in-ConnectionTuneOk
of_view-requires-in-ConnectionTuneOk c = (c.kind_in.ensures.fit, sym c.kind_in.ensures.kind ∙ c.in-ConnectionTuneOk.is)

pub returns-in-ConnectionTuneOk : goal.returns-in-ConnectionTuneOk
returns-in-ConnectionTuneOk c = c.of_view-in-ConnectionTuneOk.ensures

pub of_view-requires-in-ConnectionOpen : goal.of_view-requires-in-ConnectionOpen
of_view-requires-in-ConnectionOpen c = (c.kind_in.ensures.fit, sym c.kind_in.ensures.kind ∙ c.in-ConnectionOpen.is)

pub returns-in-ConnectionOpen : goal.returns-in-ConnectionOpen
returns-in-ConnectionOpen c = c.of_view-in-ConnectionOpen.ensures

pub of_view-requires-in-ConnectionOpenOk : goal.of_view-requires-in-ConnectionOpenOk
of_view-requires-in-ConnectionOpenOk c = (c.kind_in.ensures.fit, sym c.kind_in.ensures.kind ∙ c.in-ConnectionOpenOk.is)

pub returns-in-ConnectionOpenOk : goal.returns-in-ConnectionOpenOk
returns-in-ConnectionOpenOk c = c.of_view-in-ConnectionOpenOk.ensures

pub of_view-requires-in-ConnectionClose : goal.of_view-requires-in-ConnectionClose
of_view-requires-in-ConnectionClose c = (c.kind_in.ensures.fit, sym c.kind_in.ensures.kind ∙ c.in-ConnectionClose.is)

pub returns-in-ConnectionClose : goal.returns-in-ConnectionClose
returns-in-ConnectionClose c = c.of_view-in-ConnectionClose.ensures

pub of_view-requires-in-ConnectionCloseOk : goal.of_view-requires-in-ConnectionCloseOk
of_view-requires-in-ConnectionCloseOk c = (c.kind_in.ensures.fit, sym c.kind_in.ensures.kind ∙ c.in-ConnectionCloseOk.is)

pub returns-in-ConnectionCloseOk : goal.returns-in-ConnectionCloseOk
returns-in-ConnectionCloseOk c = c.of_view-in-ConnectionCloseOk.ensures

pub of_view-requires-in-ConnectionBlocked : goal.of_view-requires-in-ConnectionBlocked
of_view-requires-in-ConnectionBlocked c = (c.kind_in.ensures.fit, sym c.kind_in.ensures.kind ∙ c.in-ConnectionBlocked.is)

pub returns-in-ConnectionBlocked : goal.returns-in-ConnectionBlocked
returns-in-ConnectionBlocked c = c.of_view-in-ConnectionBlocked.ensures

pub of_view-requires-in-ConnectionUnblocked : goal.of_view-requires-in-ConnectionUnblocked
of_view-requires-in-ConnectionUnblocked c = (c.kind_in.ensures.fit, sym c.kind_in.ensures.kind ∙ c.in-ConnectionUnblocked.is)

pub returns-in-ConnectionUnblocked : goal.returns-in-ConnectionUnblocked
returns-in-ConnectionUnblocked c = c.of_view-in-ConnectionUnblocked.ensures
