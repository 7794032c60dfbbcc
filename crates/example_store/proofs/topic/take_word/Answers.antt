use Rattle.std.proofs.Common.{arith, ◌-◌, ◌+◌, ◌≡◌, ◌<◌, ℕ, List, [], Bool, get_or, length, false, ◌∙◌, ap}
use Rattle.std.proofs.lemmas.List.{length-map}
use Rattle.std.proofs.lemmas.Grind.{common_steps}
use denote.Ref.{Bor}
use Rattle.example_store.specs.Topic.{lent}
use Rattle.example_store.specs.TopicRows.{word_match}
use Rattle.example_store.proofs.TopicLemmas.{drop_lent, row_more}
use Rattle.example_store.proofs.topic.take_word.Goals as goal

pub loop-n-preserved : goal.loop-n-preserved
loop-n-preserved c = record {
  within = omega arith;
  long = grind (arith, common_steps);
  kept = λ k lt. grind (arith, common_steps, c.loop-n.invariant.kept k);
  after_is = c.loop-n.invariant.kept (c.loop-n.n - 1) (omega arith);
  done = λ ps is_row k from upto.
      let same : length (lent c.args.key.now) ≡ length c.args.key.now = length-map c.args.key.now (λ w. w.now) in
      let next : c.loop-n.n ≡ (c.loop-n.n - 1) + 1 = omega arith in
      let lt : c.loop-n.n - 1 < c.loop-n.n = omega arith in
      let d : Bor (List ℕ) = record { ref_ptr = (0, 0); now = [] } in
      let w : List ℕ = (get_or c.args.key.now (c.loop-n.n - 1) d).now in
      let match : Bool → Bool → Bool = λ here after. word_match c.args.word.now w here (get_or c.loop-n.row c.loop-n.n false) after in
      let e : c.word_matches.result ≡ match (get_or c.args.row.now (c.loop-n.n - 1) false) (get_or c.args.row.now c.loop-n.n false)
      = c.word_matches.ensures ∙ ap (λ x. match x c.loop-n.after) (c.loop-n.invariant.kept (c.loop-n.n - 1) lt)
      ∙ ap (match (get_or c.args.row.now (c.loop-n.n - 1) false)) c.loop-n.invariant.after_is in
      row_more c.args.word.now ps (lent c.args.key.now) c.args.row.now c.loop-n.row w (c.loop-n.n - 1) c.loop-n.n c.word_matches.result next (omega arith) (omega arith) is_row
      (drop_lent c.args.key.now (c.loop-n.n - 1) c.loop-n.n d next (omega arith)) e
      (λ j f u. c.loop-n.invariant.done ps is_row j f (omega arith)) k from (omega arith);
}
