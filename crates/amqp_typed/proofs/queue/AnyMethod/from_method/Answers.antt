use Rattle.std.proofs.Common.{sym, ◌∙◌}
use Rattle.amqp_typed.proofs.queue.AnyMethod.from_method.Goals as goal

pub of_method-requires : goal.of_method-requires
of_method-requires c = sym c.kind.ensures ∙ c.in-QueueDeclare.is

pub returns-in-QueueDeclare : goal.returns-in-QueueDeclare
returns-in-QueueDeclare c = c.of_method.ensures

pub of_method-requires-in-QueueDeclareOk : goal.of_method-requires-in-QueueDeclareOk
of_method-requires-in-QueueDeclareOk c = sym c.kind.ensures ∙ c.in-QueueDeclareOk.is

pub returns-in-QueueDeclareOk : goal.returns-in-QueueDeclareOk
returns-in-QueueDeclareOk c = c.of_method-in-QueueDeclareOk.ensures

pub of_method-requires-in-QueueBind : goal.of_method-requires-in-QueueBind
of_method-requires-in-QueueBind c = sym c.kind.ensures ∙ c.in-QueueBind.is

pub returns-in-QueueBind : goal.returns-in-QueueBind
returns-in-QueueBind c = c.of_method-in-QueueBind.ensures

pub of_method-requires-in-QueueBindOk : goal.of_method-requires-in-QueueBindOk
of_method-requires-in-QueueBindOk c = sym c.kind.ensures ∙ c.in-QueueBindOk.is

pub returns-in-QueueBindOk : goal.returns-in-QueueBindOk
returns-in-QueueBindOk c = c.of_method-in-QueueBindOk.ensures

pub of_method-requires-in-QueueUnbind : goal.of_method-requires-in-QueueUnbind
of_method-requires-in-QueueUnbind c = sym c.kind.ensures ∙ c.in-QueueUnbind.is

pub returns-in-QueueUnbind : goal.returns-in-QueueUnbind
returns-in-QueueUnbind c = c.of_method-in-QueueUnbind.ensures

pub of_method-requires-in-QueueUnbindOk : goal.of_method-requires-in-QueueUnbindOk
of_method-requires-in-QueueUnbindOk c = sym c.kind.ensures ∙ c.in-QueueUnbindOk.is

pub returns-in-QueueUnbindOk : goal.returns-in-QueueUnbindOk
returns-in-QueueUnbindOk c = c.of_method-in-QueueUnbindOk.ensures

pub of_method-requires-in-QueuePurge : goal.of_method-requires-in-QueuePurge
of_method-requires-in-QueuePurge c = sym c.kind.ensures ∙ c.in-QueuePurge.is

pub returns-in-QueuePurge : goal.returns-in-QueuePurge
returns-in-QueuePurge c = c.of_method-in-QueuePurge.ensures

pub of_method-requires-in-QueuePurgeOk : goal.of_method-requires-in-QueuePurgeOk
of_method-requires-in-QueuePurgeOk c = sym c.kind.ensures ∙ c.in-QueuePurgeOk.is

pub returns-in-QueuePurgeOk : goal.returns-in-QueuePurgeOk
returns-in-QueuePurgeOk c = c.of_method-in-QueuePurgeOk.ensures

pub of_method-requires-in-QueueDelete : goal.of_method-requires-in-QueueDelete
of_method-requires-in-QueueDelete c = sym c.kind.ensures ∙ c.in-QueueDelete.is

pub returns-in-QueueDelete : goal.returns-in-QueueDelete
returns-in-QueueDelete c = c.of_method-in-QueueDelete.ensures

pub of_method-requires-in-QueueDeleteOk : goal.of_method-requires-in-QueueDeleteOk
of_method-requires-in-QueueDeleteOk c = sym c.kind.ensures ∙ c.in-QueueDeleteOk.is

pub returns-in-QueueDeleteOk : goal.returns-in-QueueDeleteOk
returns-in-QueueDeleteOk c = c.of_method-in-QueueDeleteOk.ensures
