-- What is written, and what was written before it, is all that is not left.
use Rattle.std.proofs.Common.{◌++◌, length, take, drop, sym, ap, ◌∙◌, arith, append_assoc, take-append-drop, eqb-true}
use Rattle.std.proofs.lemmas.List.{nil_from_length}
use Rattle.amqp_outbox.specs.LentFrames.{content_left}
use Rattle.amqp_io.specs.declared.faults.IoFault.TheVariants as io
use Rattle.amqp_io.proofs.StreamLemmas.{appended_both}
use Rattle.amqp_io.proofs.TurnLemmas.{ok_no_fault}
use Rattle.amqp_io.proofs.streaming.StreamSession.push_frames.Goals as goal

pub loop-self-preserved : goal.loop-self-preserved
loop-self-preserved g c =
    let taken = g.S.Stream.taken in
    let left = content_left c.loop-self.frames in
    let n = c.in-Ok.count in
    let before = c.loop-self.invariant.pushed in
    let gone = before.gone in
    record {
      pushed = record {
        gone = gone ++ take n left;
        parts = before.parts ∙ (ap (λ l. gone ++ l) (sym (take-append-drop n left))
            ∙ (sym (append_assoc gone (take n left) (drop n left)) ∙ ap (λ l. (gone ++ take n left) ++ l) (sym c.wrote.ensures)));
        taken = appended_both (taken c.args.self.now.stream) (taken c.loop-self.self.stream) (taken c.write_content.new.stream) gone (take n left) before.taken c.in-Ok.ensures.appended;
      };
      to_give = c.in-Ok.ensures.to_give ∙ c.loop-self.invariant.to_give;
      failures = c.in-Ok.ensures.failure.1 (λ e. absurd (omega (arith, e.0, c.if-count-gt0.true))) ∙ c.loop-self.invariant.failures;
      ends = c.in-Ok.ensures.no_end ∙ c.loop-self.invariant.ends;
      end = c.loop-self.invariant.end;
    }

pub returns : goal.returns
returns g c =
    let all = content_left c.loop-self.frames in
    let so_far = c.loop-self.invariant in
    record {
      pushed = so_far.pushed;
      all = nil_from_length all (eqb-true (length all) 0 (sym c.is_empty.ensures ∙ c.loop-self-test.false));
      to_give = so_far.to_give;
      no_end = so_far.ends;
      failure = (λ same. absurd (ok_no_fault tt io.Write same), λ other. so_far.failures);
      end = so_far.end;
    }
