-- The part of the output that is to be written, and how far it was written.
use Rattle.std.proofs.Common.{◌≡◌, ◌<◌, length, take, arith}
use Rattle.amqp_core.specs.Stream.View.{endpoint_of}
use Rattle.amqp_io.specs.Sessions.{due}
use Rattle.amqp_io.proofs.TurnLemmas.{length_due, marks_failure, marks_none, moves, none_due}
use Rattle.amqp_io.proofs.streaming.StreamSession.push.Goals as goal

pub returns-then-written : goal.returns-then-written
returns-then-written g c =
    let old = endpoint_of c.args.self.now.end in
    let new = endpoint_of c.wrote.new.self in
    let output = c.output-output.result.now in
    let count = c.min-count.result in
    let written = c.write_prefix-written in
    let n = written.result.octets in
    let all : length (take count output) ≡ due c.args.limit old = length_due c.args.limit count old output c.output-output.ensures.octets c.min-count.ensures in
    let part : n < length (take count output) = written.ensures.part c.if-written.true in
    let moved = moves c.args.limit count n old new output _ _ c.output-output.ensures.octets c.min-count.ensures written.ensures.within
    c.wrote.ensures.written written.ensures.appended in
    record {
      pushed = (n, (omega arith, moved));
      untouched = λ none. written.ensures.untouched (none_due c.args.limit count old output c.output-output.ensures.octets c.min-count.ensures none);
      to_give = written.ensures.to_give;
      no_end = written.ensures.no_end;
      failure = marks_failure written.result.failed _ _ c.if-written.true written.ensures.failure;
      settings = c.wrote.ensures.settings;
    }

pub returns : goal.returns
returns g c =
    let old = endpoint_of c.args.self.now.end in
    let new = endpoint_of c.wrote.new.self in
    let output = c.output-output.result.now in
    let count = c.min-count.result in
    let written = c.write_prefix-written in
    let n = written.result.octets in
    let all : length (take count output) ≡ due c.args.limit old = length_due c.args.limit count old output c.output-output.ensures.octets c.min-count.ensures in
    let whole : n ≡ length (take count output) = written.ensures.all c.if-written.false in
    let moved = moves c.args.limit count n old new output _ _ c.output-output.ensures.octets c.min-count.ensures written.ensures.within
    c.wrote.ensures.written written.ensures.appended in
    record {
      pushed = (omega arith, moved);
      untouched = λ none. written.ensures.untouched (none_due c.args.limit count old output c.output-output.ensures.octets c.min-count.ensures none);
      to_give = written.ensures.to_give;
      no_end = written.ensures.no_end;
      failure = marks_none written.result.failed n _ _ c.if-written.false written.ensures.failure;
      settings = c.wrote.ensures.settings;
    }
