use Rattle.std.proofs.Common.{◌≡◌, ◌≤◌, length, take, drop, ap, arith}
use Rattle.std.proofs.lemmas.List.{length-drop}
use Rattle.std.specs.Io.KnownBytes.{append_known}
use Rattle.amqp_io.proofs.StreamLemmas.{part_to_end, appended_further}
use Rattle.amqp_io.proofs.writing.write_prefix.Goals as goal

-- A write that took octets took them after those written before, and left the mark.
pub loop-written-preserved : goal.loop-written-preserved
loop-written-preserved g c =
    let octets = c.args.octets.now in
    let m = c.loop-written.written in
    let n = c.in-Ok.count in
    let taken = g.S.Stream.taken in
    let within : n ≤ length (drop m octets) = rw (part_to_end octets m) at c.in-Ok.ensures.within in
    let more : taken c.write.new.self ≡ append_known (taken c.loop-written.stream) (take n (drop m octets))
    = rw (part_to_end octets m) at c.in-Ok.ensures.appended in
    record {
      within = omega (arith, length-drop m octets);
      appended = appended_further _ _ _ octets m n c.loop-written.invariant.appended more;
      to_give = cc c.in-Ok.ensures.to_give;
      failures = cc (c.in-Ok.ensures.failure.1 (λ e. c.if-count-eq0.false e.0));
      ends = cc c.in-Ok.ensures.no_end;
      untouched = λ e. absurd (omega (arith, ap length e));
    }
