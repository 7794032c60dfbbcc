use Rattle.std.proofs.Common.{sym, ap, ◌∙◌, inl, inr}
use Rattle.amqp_model.specs.Wire.Notes.{is_client}
use Rattle.amqp_channel.specs.Roles.{role_of}
use Rattle.amqp_core.proofs.connection.Connection.allow_client.Goals as goal

pub returns-then-is_client-clause-none : goal.returns-then-is_client-clause-none
returns-then-is_client-clause-none c = inl (sym (c.is_client.ensures ∙ ap (λ s. is_client (role_of s)) c.side.ensures) ∙ c.if-is_client.true)

pub returns-then-not-holds_client-clause-none : goal.returns-then-not-holds_client-clause-none
returns-then-not-holds_client-clause-none c = inr (sym c.holds_client.ensures ∙ c.if-not-holds_client.true)

pub returns-clause-server : goal.returns-clause-server
returns-clause-server c = sym (c.is_client.ensures ∙ ap (λ s. is_client (role_of s)) c.side.ensures) ∙ c.if-is_client.false

pub returns-clause-holds : goal.returns-clause-holds
returns-clause-holds c = sym c.holds_client.ensures ∙ c.if-not-holds_client.false
