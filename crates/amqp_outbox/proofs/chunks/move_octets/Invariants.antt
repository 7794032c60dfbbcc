use Rattle.std.proofs.Common.{◌≡◌, ◌+◌, ◌≤◌, ◌++◌, length, take, drop, vec_len, vec_capacity}
use Rattle.amqp_outbox.specs.Chunks.{joined_after}
use Rattle.amqp_outbox.proofs.chunks.move_octets.Given as goal

abbrev pub invariant-loop-missing : goal.invariant-loop-missing
invariant-loop-missing l = record {
  within : l.taken ≤ length l.first.items;
  there : l.missing ≤ length (joined_after l.taken l.first.items l.later.items);
  octets : l.octets.items ++ take l.missing (joined_after l.taken l.first.items l.later.items)
      ≡ l.fn.octets.items ++ take l.count (joined_after l.before l.fn.first.items l.fn.later.items);
  left : drop l.missing (joined_after l.taken l.first.items l.later.items)
      ≡ drop l.count (joined_after l.before l.fn.first.items l.fn.later.items);
  room : vec_len l.octets + l.missing ≤ vec_capacity l.octets;
  kept : vec_capacity l.fn.octets ≤ vec_capacity l.octets;
}

abbrev pub decreases-loop-missing : goal.decreases-loop-missing
decreases-loop-missing l = l.missing + length l.later.items
