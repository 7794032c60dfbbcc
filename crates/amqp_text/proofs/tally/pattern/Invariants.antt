use Rattle.std.proofs.Common.{◌≡◌}
use Rattle.amqp_text.specs.Tallies.{body_of}
use Rattle.amqp_text.proofs.tally.pattern.Given as goal

abbrev pub invariant-loop-place : goal.invariant-loop-place
invariant-loop-place l = l.body.items ≡ body_of l.place
