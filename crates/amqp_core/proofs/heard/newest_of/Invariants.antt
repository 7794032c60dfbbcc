use Rattle.std.proofs.Common.{◌≡◌, drop}
use Rattle.amqp_core.specs.Heard.View.{newest}
use Rattle.amqp_core.proofs.heard.newest_of.Given as goal

abbrev pub invariant-loop-method : goal.invariant-loop-method
invariant-loop-method l = newest l.kind (drop l.method-index l.methods) ≡ newest l.kind l.methods
