use Rattle.std.proofs.Common.{◌≡◌, ◌≤◌, ◌-◌, [], false, length}
use Rattle.amqp_calls.proofs.SplitFrames.{MorePlaces}
use Rattle.amqp_calls.proofs.splitting.split.Given as goal

abbrev pub invariant-loop-count : goal.invariant-loop-count
invariant-loop-count l =
    (length l.rest ≤ length l.piece)
    × (l.splitter.pending ≡ [])
    × (l.out.cut ≡ false)
    × MorePlaces l.initial.splitter l.piece l.initial.frames l.frames l.count l.splitter l.rest

abbrev pub decreases-loop-count : goal.decreases-loop-count
decreases-loop-count l = length l.initial.frames - l.count
