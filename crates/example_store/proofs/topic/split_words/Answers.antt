use Rattle.std.proofs.Common.{rules, tests, ◌≡◌, ◌==◌, ◌∙◌, sym, subst}
use Rattle.std.specs.Prelude.{IfOk}
use Rattle.std.specs.List.{slice_split}
use Rattle.std.proofs.lemmas.Iterator.Consumers.{map_from_collect}
use Rattle.std.proofs.lemmas.Iterator.Splits.{YieldsList-from_slice_split}
use Rattle.example_store.specs.Topic.{lent}
use Rattle.example_store.proofs.TopicLemmas.{words_split}
use Rattle.example_store.proofs.topic.split_words.Goals as goal

pub returns : goal.returns
returns c =
    let parts : IfOk c.collect.result (λ v. lent v.items ≡ slice_split (λ octet. octet == 46) c.args.text.now)
    = map_from_collect _ c.collect.ensures.ran (YieldsList-from_slice_split _ _ c.args.text.now c.split.ensures.rest c.split.ensures.done c.split.ensures.closure (λ x r q k. search (rules, tests))) in
    subst (λ ws. IfOk c.collect.result (λ v. lent v.items ≡ ws)) (words_split c.args.text.now (sym c.is_empty.ensures ∙ c.if-is_empty.false)) parts
