use Rattle.std.proofs.Common.{rules, tests, ◌≡◌, ◌++◌, [], Some, sym, ap, subst, ◌∙◌}
use Rattle.std.specs.Prelude.{slice_get}
use Rattle.std.proofs.lemmas.List.{nil_from_length}
use Rattle.std.proofs.lemmas.Option.{get_or_from_slice_get, slice_get_within}
use Rattle.amqp_handle.specs.declared.gathering.Parts.{Parts}
use Rattle.amqp_handle.proofs.Places.{get_before, get_set}
use Rattle.amqp_handle.proofs.Telling.{joined_all, joined_none}
use Rattle.amqp_handle.proofs.gathering.Gathering.add_last.Goals as goal

pub returns-then-is_empty-clause-last : goal.returns-then-is_empty-clause-last
returns-then-is_empty-clause-last c =
    let between = c.turn_to.new.self in
    let put = c.in_ok-put_away.ensures.away in
    let there = c.index_mut.result.now in
    let part = c.args.part.now in
    let place = c.args.place in
    let same : there ≡ between.at_hand = c.index_mut.ensures.value ∙ get_or_from_slice_get _ place _ there put.there in
    let none : there.body.items ≡ [] = nil_from_length _ (search (rules, tests, c.is_empty.ensures, c.if-is_empty.true)) in
    record {
      between = between;
      here = c.in_ok-turn_to.ensures.here;
      there = there;
      found = get_set _ place there (slice_get_within _ place _ put.there);
      method = ap (λ (p : Parts). p.method) same;
      header_is = ap (λ (p : Parts). p.header) same;
      body = joined_all there.body.items part none ∙ ap (λ body. body ++ part) (sym none ∙ ap (λ (p : Parts). p.body.items) same);
      away = record { none = put.away.none; aside = put.away.aside; counted = put.away.counted; mark = put.away.mark };
    }

pub returns-in_err-append-clause-stays : goal.returns-in_err-append-clause-stays
returns-in_err-append-clause-stays c =
    λ at there less is. get_before _ c.args.place _ at there less
    (c.in_ok-put_away.ensures.stays at there less (subst (λ places. slice_get places.items at ≡ Some there) (sym c.in_ok-turn_to.ensures.places) is))

pub returns-clause-last : goal.returns-clause-last
returns-clause-last c =
    let between = c.turn_to.new.self in
    let put = c.in_ok-put_away.ensures.away in
    let before = c.index_mut.result.now in
    let there : Parts = record before { body = c.append.new.octets } in
    let part = c.args.part.now in
    let place = c.args.place in
    let same : before ≡ between.at_hand = c.index_mut.ensures.value ∙ get_or_from_slice_get _ place _ before put.there in
    record {
      between = between;
      here = c.in_ok-turn_to.ensures.here;
      there = there;
      found = get_set _ place there (slice_get_within _ place _ put.there);
      method = ap (λ (p : Parts). p.method) same;
      header_is = ap (λ (p : Parts). p.header) same;
      body = joined_none there.body.items ∙ c.in_ok-append.ensures ∙ ap (λ (p : Parts). p.body.items ++ part) same;
      away = record { none = put.away.none; aside = put.away.aside; counted = put.away.counted; mark = put.away.mark };
    }

pub returns-clause-stays : goal.returns-clause-stays
returns-clause-stays c =
    λ at there less is. get_before _ c.args.place _ at there less
    (c.in_ok-put_away.ensures.stays at there less (subst (λ places. slice_get places.items at ≡ Some there) (sym c.in_ok-turn_to.ensures.places) is))
