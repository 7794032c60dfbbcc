use Rattle.std.proofs.Common.{length, ◌-◌, ◌≡◌, ◌≤◌, [], take}
use Rattle.std.specs.Io.KnownBytes.{append_known}
use Rattle.amqp_io.proofs.writing.write_prefix.Given as goal

-- so far all that was written was taken, the stream has not failed, and where there is nothing to write it is as it was
abbrev pub invariant-loop-written : goal.invariant-loop-written
invariant-loop-written g l = record {
  within : l.written ≤ length l.octets;
  appended : g.S.Stream.taken l.stream ≡ append_known (g.S.Stream.taken l.initial.stream) (take l.written l.octets);
  to_give : g.S.Stream.to_give l.stream ≡ g.S.Stream.to_give l.initial.stream;
  failures : g.S.Stream.failures l.stream ≡ g.S.Stream.failures l.initial.stream;
  ends : g.S.Stream.ends l.stream ≡ g.S.Stream.ends l.initial.stream;
  untouched : l.octets ≡ [] → l.stream ≡ l.initial.stream;
}

abbrev pub decreases-loop-written : goal.decreases-loop-written
decreases-loop-written g l = length l.octets - l.written
