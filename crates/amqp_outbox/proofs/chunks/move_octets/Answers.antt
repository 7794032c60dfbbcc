use Rattle.std.proofs.Common.{rules, ◌+◌, ◌-◌, ◌≤◌, ◌++◌, length, take, drop, sym, ap, ◌∙◌, arith, append_assoc, length-append, length-drop}
use Rattle.std.proofs.lemmas.Grind.{common_steps}
use Rattle.amqp_outbox.specs.Chunks.{joined, joined_after}
use Rattle.amqp_outbox.proofs.ChunkLemmas.{run_taken, run_left}
use Rattle.amqp_outbox.proofs.chunks.move_octets.Goals as goal

pub loop-missing-preserved : goal.loop-missing-preserved
loop-missing-preserved c =
    let l = c.loop-missing in
    let first = l.first.items in
    let later = joined l.later.items in
    let run = c.min-run.result in
    let within : l.taken + run ≤ length first = search rules in
    let few : run ≤ l.missing = search rules in
    let before = length-append (drop l.taken first) later in
    let after = length-append (drop (l.taken + run) first) later in
    let there = l.invariant.there in
    record {
      within = within;
      there = omega (arith, before, after, length-drop l.taken first, length-drop (l.taken + run) first, there, within);
      octets =
          ap (λ xs. xs ++ take (l.missing - run) (joined_after (l.taken + run) first l.later.items))
          (c.append_run.ensures.octets ∙ ap (λ xs. l.octets.items ++ take run (drop l.taken xs)) c.deref.ensures.value)
          ∙ (append_assoc l.octets.items (take run (drop l.taken first)) (take (l.missing - run) (joined_after (l.taken + run) first l.later.items))
          ∙ (ap (λ xs. l.octets.items ++ xs) (sym (run_taken l.taken run l.missing first later within few)) ∙ l.invariant.octets));
      left = run_left l.taken run l.missing first later within few ∙ l.invariant.left;
      room = grind (arith, common_steps);
      kept = search rules;
    }
