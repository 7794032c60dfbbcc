-- The channels so far.
use Rattle.std.proofs.Common.{◌≡◌, map, take, replicate}
use Rattle.amqp_link.proofs.lives.nothing_counted.Given as goal

abbrev pub invariant-loop-lives : goal.invariant-loop-lives
invariant-loop-lives l = map (λ lives. lives.items) l.counts.items ≡ map (λ lives. replicate lives 0) (take l.lives-index l.begun)
