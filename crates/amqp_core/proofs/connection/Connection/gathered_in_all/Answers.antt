-- Bodies are gathered while the connection is Running.
use Rattle.std.proofs.Common.{refl, sym, ◌∙◌}
use Rattle.amqp_core.specs.Connection.View.{connection_end}
use Rattle.amqp_core.specs.declared.stage.Phase.TheVariants as name
use Rattle.amqp_core.proofs.AmountLemmas.{gathers_bodies, gathers_none}
use Rattle.amqp_core.proofs.connection.Connection.gathered_in_all.Goals as goal

pub returns-in-Running : goal.returns-in-Running
returns-in-Running c =
    gathers_bodies (connection_end c.args.self.now) c.body_octets.result c.capped.result (sym c.phase.ensures ∙ c.in-Running.is)
    (c.body_octets.ensures.sum (c.args.self.now.gathers c.requires)) c.capped.ensures

pub returns-in-Handshake : goal.returns-in-Handshake
returns-in-Handshake c = gathers_none (connection_end c.args.self.now) name.Handshake (sym c.phase.ensures ∙ c.in-Handshake.is) refl

pub returns-in-Closing : goal.returns-in-Closing
returns-in-Closing c = gathers_none (connection_end c.args.self.now) name.Closing (sym c.phase.ensures ∙ c.in-Closing.is) refl

pub returns-in-Closed : goal.returns-in-Closed
returns-in-Closed c = gathers_none (connection_end c.args.self.now) name.Closed (sym c.phase.ensures ∙ c.in-Closed.is) refl

pub returns-in-Failed : goal.returns-in-Failed
returns-in-Failed c = gathers_none (connection_end c.args.self.now) name.Failed (sym c.phase.ensures ∙ c.in-Failed.is) refl
