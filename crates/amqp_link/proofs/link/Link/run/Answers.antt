-- Step after step.
use Rattle.std.proofs.Common.{◌+◌, Err, length, take, refl, sym, ◌∙◌, subst, arith}
use Rattle.std.proofs.lemmas.Option.{slice_get_read}
use Rattle.amqp_link.specs.LinkSteps.{Runs, Steps, nothing}
use Rattle.amqp_link.specs.LinkView.{link_view}
use Rattle.amqp_link.proofs.RunLemmas.{memory, runs-done, runs-refused}
use Rattle.amqp_link.proofs.link.Link.run.Goals as goal
use Rattle.amqp_link.proofs.link.Link.run.Goals.{in-Err+else-is_out_of_memory, in_default}

pub loop-index-init : goal.loop-index-init
loop-index-init c = record { within = omega (arith); runs = nothing; fewer = omega (arith) }

pub loop-index-preserved : goal.loop-index-preserved
loop-index-preserved c =
    let so_far = c.loop-index.invariant in
    let all = c.args.steps.now in
    let old = link_view c.args.self.now in
    elim c.match-step.branch [
      | in-Err+else-is_out_of_memory w ↦
          record {
            within = omega (arith, c.loop-index-test.true);
            runs = subst (λ n. Runs old (take (c.loop-index.index + 1) all) n (link_view c.step.new.self)) (sym w.refused-is)
                (runs-refused all c.loop-index.index c.loop-index.refused c.index-steps-index.result w.in-Err.fault old (link_view c.loop-index.self) (link_view c.step.new.self) c.loop-index-test.true c.index-steps-index.is
                (sym w.is_out_of_memory.ensures ∙ w.if-is_out_of_memory.false) so_far.runs w.in-Err.ensures.steps);
            fewer = omega (arith, so_far.fewer, w.refused-is);
          }
      | in_default w ↦
          record {
            within = omega (arith, c.loop-index-test.true);
            runs = subst (λ n. Runs old (take (c.loop-index.index + 1) all) n (link_view c.step.new.self)) (sym w.refused-is)
                (runs-done all c.loop-index.index c.loop-index.refused c.index-steps-index.result old (link_view c.loop-index.self) (link_view c.step.new.self) c.loop-index-test.true c.index-steps-index.is
                so_far.runs w.in_default.ensures.steps);
            fewer = omega (arith, so_far.fewer, w.refused-is);
          }
    ]

pub returns-then-is_out_of_memory-clause-runs : goal.returns-then-is_out_of_memory-clause-runs
returns-then-is_out_of_memory-clause-runs c =
    let so_far = c.loop-index.invariant in
    let all = c.args.steps.now in
    let then = link_view c.loop-index.self in
    let new = link_view c.step.new.self in
    record {
      step = c.index-steps-index.result;
      found = slice_get_read all (length all) c.loop-index.index c.index-steps-index.result refl c.loop-index-test.true c.index-steps-index.is;
      refused = c.loop-index.refused;
      then = then;
      runs = so_far.runs;
      stops = subst (λ f. Steps then c.index-steps-index.result (Err f) new) (memory c.in-Err.fault (sym c.is_out_of_memory.ensures ∙ c.if-is_out_of_memory.true)) c.in-Err.ensures.steps;
    }
