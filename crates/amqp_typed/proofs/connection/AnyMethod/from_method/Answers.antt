use Rattle.std.proofs.Common.{sym, ◌∙◌}
use Rattle.amqp_typed.proofs.connection.AnyMethod.from_method.Goals as goal

pub of_method-requires : goal.of_method-requires
of_method-requires c = sym c.kind.ensures ∙ c.in-ConnectionStart.is

pub returns-in-ConnectionStart : goal.returns-in-ConnectionStart
returns-in-ConnectionStart c = c.of_method.ensures

pub of_method-requires-in-ConnectionStartOk : goal.of_method-requires-in-ConnectionStartOk
of_method-requires-in-ConnectionStartOk c = sym c.kind.ensures ∙ c.in-ConnectionStartOk.is

pub returns-in-ConnectionStartOk : goal.returns-in-ConnectionStartOk
returns-in-ConnectionStartOk c = c.of_method-in-ConnectionStartOk.ensures

pub of_method-requires-in-ConnectionSecure : goal.of_method-requires-in-ConnectionSecure
of_method-requires-in-ConnectionSecure c = sym c.kind.ensures ∙ c.in-ConnectionSecure.is

pub returns-in-ConnectionSecure : goal.returns-in-ConnectionSecure
returns-in-ConnectionSecure c = c.of_method-in-ConnectionSecure.ensures

pub of_method-requires-in-ConnectionSecureOk : goal.of_method-requires-in-ConnectionSecureOk
of_method-requires-in-ConnectionSecureOk c = sym c.kind.ensures ∙ c.in-ConnectionSecureOk.is

pub returns-in-ConnectionSecureOk : goal.returns-in-ConnectionSecureOk
returns-in-ConnectionSecureOk c = c.of_method-in-ConnectionSecureOk.ensures

pub of_method-requires-in-ConnectionTune : goal.of_method-requires-in-ConnectionTune
of_method-requires-in-ConnectionTune c = sym c.kind.ensures ∙ c.in-ConnectionTune.is

pub returns-in-ConnectionTune : goal.returns-in-ConnectionTune
returns-in-ConnectionTune c = c.of_method-in-ConnectionTune.ensures

pub of_method-requires-in-ConnectionTuneOk : goal.of_method-requires-in-ConnectionTuneOk
of_method-requires-in-ConnectionTuneOk c = sym c.kind.ensures ∙ c.in-ConnectionTuneOk.is

pub returns-in-ConnectionTuneOk : goal.returns-in-ConnectionTuneOk
returns-in-ConnectionTuneOk c = c.of_method-in-ConnectionTuneOk.ensures

pub of_method-requires-in-ConnectionOpen : goal.of_method-requires-in-ConnectionOpen
of_method-requires-in-ConnectionOpen c = sym c.kind.ensures ∙ c.in-ConnectionOpen.is

pub returns-in-ConnectionOpen : goal.returns-in-ConnectionOpen
returns-in-ConnectionOpen c = c.of_method-in-ConnectionOpen.ensures

pub of_method-requires-in-ConnectionOpenOk : goal.of_method-requires-in-ConnectionOpenOk
of_method-requires-in-ConnectionOpenOk c = sym c.kind.ensures ∙ c.in-ConnectionOpenOk.is

pub returns-in-ConnectionOpenOk : goal.returns-in-ConnectionOpenOk
returns-in-ConnectionOpenOk c = c.of_method-in-ConnectionOpenOk.ensures

pub of_method-requires-in-ConnectionClose : goal.of_method-requires-in-ConnectionClose
of_method-requires-in-ConnectionClose c = sym c.kind.ensures ∙ c.in-ConnectionClose.is

pub returns-in-ConnectionClose : goal.returns-in-ConnectionClose
returns-in-ConnectionClose c = c.of_method-in-ConnectionClose.ensures

pub of_method-requires-in-ConnectionCloseOk : goal.of_method-requires-in-ConnectionCloseOk
of_method-requires-in-ConnectionCloseOk c = sym c.kind.ensures ∙ c.in-ConnectionCloseOk.is

pub returns-in-ConnectionCloseOk : goal.returns-in-ConnectionCloseOk
returns-in-ConnectionCloseOk c = c.of_method-in-ConnectionCloseOk.ensures

pub of_method-requires-in-ConnectionBlocked : goal.of_method-requires-in-ConnectionBlocked
of_method-requires-in-ConnectionBlocked c = sym c.kind.ensures ∙ c.in-ConnectionBlocked.is

pub returns-in-ConnectionBlocked : goal.returns-in-ConnectionBlocked
returns-in-ConnectionBlocked c = c.of_method-in-ConnectionBlocked.ensures

pub of_method-requires-in-ConnectionUnblocked : goal.of_method-requires-in-ConnectionUnblocked
of_method-requires-in-ConnectionUnblocked c = sym c.kind.ensures ∙ c.in-ConnectionUnblocked.is

pub returns-in-ConnectionUnblocked : goal.returns-in-ConnectionUnblocked
returns-in-ConnectionUnblocked c = c.of_method-in-ConnectionUnblocked.ensures
