use Rattle.std.proofs.Common.{sym, ◌∙◌}
use Rattle.amqp_typed.proofs.queue.AnyMethodView.from_view.Goals as goal

pub of_view-requires : goal.of_view-requires
of_view-requires c = (c.kind_in.ensures.fit, sym c.kind_in.ensures.kind ∙ c.in-QueueDeclare.is)

pub returns-in-QueueDeclare : goal.returns-in-QueueDeclare
returns-in-QueueDeclare c = c.of_view.ensures

pub of_view-requires-in-QueueDeclareOk : goal.of_view-requires-in-QueueDeclareOk
of_view-requires-in-QueueDeclareOk c = (c.kind_in.ensures.fit, sym c.kind_in.ensures.kind ∙ c.in-QueueDeclareOk.is)

pub returns-in-QueueDeclareOk : goal.returns-in-QueueDeclareOk
returns-in-QueueDeclareOk c = c.of_view-in-QueueDeclareOk.ensures

pub of_view-requires-in-QueueBind : goal.of_view-requires-in-QueueBind
of_view-requires-in-QueueBind c = (c.kind_in.ensures.fit, sym c.kind_in.ensures.kind ∙ c.in-QueueBind.is)

pub returns-in-QueueBind : goal.returns-in-QueueBind
returns-in-QueueBind c = c.of_view-in-QueueBind.ensures

pub of_view-requires-in-QueueBindOk : goal.of_view-requires-in-QueueBindOk
of_view-requires-in-QueueBindOk c = (c.kind_in.ensures.fit, sym c.kind_in.ensures.kind ∙ c.in-QueueBindOk.is)

pub returns-in-QueueBindOk : goal.returns-in-QueueBindOk
returns-in-QueueBindOk c = c.of_view-in-QueueBindOk.ensures

pub of_view-requires-in-QueueUnbind : goal.of_view-requires-in-QueueUnbind
of_view-requires-in-QueueUnbind c = (c.kind_in.ensures.fit, sym c.kind_in.ensures.kind ∙ c.in-QueueUnbind.is)

pub returns-in-QueueUnbind : goal.returns-in-QueueUnbind
returns-in-QueueUnbind c = c.of_view-in-QueueUnbind.ensures

pub of_view-requires-in-QueueUnbindOk : goal.of_view-requires-in-QueueUnbindOk
of_view-requires-in-QueueUnbindOk c = (c.kind_in.ensures.fit, sym c.kind_in.ensures.kind ∙ c.in-QueueUnbindOk.is)

pub returns-in-QueueUnbindOk : goal.returns-in-QueueUnbindOk
returns-in-QueueUnbindOk c = c.of_view-in-QueueUnbindOk.ensures

pub of_view-requires-in-QueuePurge : goal.of_view-requires-in-QueuePurge
of_view-requires-in-QueuePurge c = (c.kind_in.ensures.fit, sym c.kind_in.ensures.kind ∙ c.in-QueuePurge.is)

pub returns-in-QueuePurge : goal.returns-in-QueuePurge
returns-in-QueuePurge c = c.of_view-in-QueuePurge.ensures

pub of_view-requires-in-QueuePurgeOk : goal.of_view-requires-in-QueuePurgeOk
of_view-requires-in-QueuePurgeOk c = (c.kind_in.ensures.fit, sym c.kind_in.ensures.kind ∙ c.in-QueuePurgeOk.is)

pub returns-in-QueuePurgeOk : goal.returns-in-QueuePurgeOk
returns-in-QueuePurgeOk c = c.of_view-in-QueuePurgeOk.ensures

pub of_view-requires-in-QueueDelete : goal.of_view-requires-in-QueueDelete
of_view-requires-in-QueueDelete c = (c.kind_in.ensures.fit, sym c.kind_in.ensures.kind ∙ c.in-QueueDelete.is)

pub returns-in-QueueDelete : goal.returns-in-QueueDelete
returns-in-QueueDelete c = c.of_view-in-QueueDelete.ensures

pub of_view-requires-in-QueueDeleteOk : goal.of_view-requires-in-QueueDeleteOk
of_view-requires-in-QueueDeleteOk c = (c.kind_in.ensures.fit, sym c.kind_in.ensures.kind ∙ c.in-QueueDeleteOk.is)

pub returns-in-QueueDeleteOk : goal.returns-in-QueueDeleteOk
returns-in-QueueDeleteOk c = c.of_view-in-QueueDeleteOk.ensures
