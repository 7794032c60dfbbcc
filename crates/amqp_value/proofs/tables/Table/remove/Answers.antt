use Rattle.std.proofs.Common.{◌≡◌, ℕ, ◌+◌, List, ◌++◌, None, Some, take, drop, sym, ◌∙◌, ap, subst, arith, add-one}
use Rattle.amqp_value.specs.Pairs.{value_named, without}
use Rattle.amqp_value.specs.Places.{StandsAt}
use Rattle.amqp_value.specs.View.{view, pairs_view}
use Rattle.amqp_value.proofs.Depths.{Pair}
use Rattle.amqp_value.proofs.Places.{named-here, taken-out, none-taken, without-depth}
use Rattle.amqp_value.proofs.tables.Table.remove.Goals as goal

at_own : (name : List ℕ) (pairs lent : List Pair) (place : ℕ) → lent ≡ pairs → StandsAt name lent place → StandsAt name pairs place
at_own name pairs lent place lends at = subst (λ ps. StandsAt name ps place) lends at

left : (pairs : List Pair) (place : ℕ) (d : Pair) (name : List ℕ) (now : List Pair) → StandsAt name pairs place → now ≡ take place pairs ++ drop (place + 1) pairs → pairs_view now ≡ without name (pairs_view pairs)
left pairs place d name now at is =
    ap pairs_view is ∙ ap (λ n. pairs_view (take place pairs ++ drop n pairs)) (add-one place) ∙ sym (taken-out pairs place d name at.within at.none_before (at.is_here d))

pub returns-in_err-place-clause-table : goal.returns-in_err-place-clause-table
returns-in_err-place-clause-table c =
    let items = c.args.self.now.pairs.items in
    sym (none-taken (pairs_view items) c.args.name.now (subst (λ ps. value_named c.args.name.now (pairs_view ps) ≡ None) c.deref.ensures.value c.in_err-place.ensures))

pub invariant_of-self : goal.invariant_of-self
invariant_of-self c =
    let items = c.args.self.now.pairs.items in
    let before = c.args.self.now.depth_is_bounded in
    let at = at_own c.args.name.now items c.deref.result.now c.in_ok-place.place c.deref.ensures.value c.in_ok-place.ensures in
    let is = left items c.in_ok-place.place c.remove-value.result c.args.name.now c.remove-value.new.self.items at c.remove-value.ensures.by_index.2 in
    record { depth_is_bounded = rw is (omega (arith, without-depth (pairs_view items) c.args.name.now)) }

pub returns-clause-table : goal.returns-clause-table
returns-clause-table c =
    let items = c.args.self.now.pairs.items in
    let at = at_own c.args.name.now items c.deref.result.now c.in_ok-place.place c.deref.ensures.value c.in_ok-place.ensures in
    left items c.in_ok-place.place c.remove-value.result c.args.name.now c.remove-value.new.self.items at c.remove-value.ensures.by_index.2

pub returns-clause-value : goal.returns-clause-value
returns-clause-value c =
    let items = c.args.self.now.pairs.items in
    let was = c.remove-value.result in
    let at = at_own c.args.name.now items c.deref.result.now c.in_ok-place.place c.deref.ensures.value c.in_ok-place.ensures in
    named-here items c.in_ok-place.place was c.args.name.now at.within at.none_before (at.is_here was) ∙ ap (λ (q : Pair). Some (view q.1)) (sym c.remove-value.ensures.value)
