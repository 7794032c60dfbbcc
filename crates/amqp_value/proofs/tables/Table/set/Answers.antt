use Rattle.std.proofs.Common.{◌≡◌, ◌≤◌, ◌<◌, ℕ, List, Option, Result, Err, None, Some, get_or, slice_set, sym, ◌∙◌, ap, subst, refl, arith, rules}
use Rattle.std.proofs.lemmas.Result.{err_from_is_err_and}
use Rattle.amqp_value.specs.Faults.{fault_at, out_of_memory}
use Rattle.amqp_value.specs.declared.fault.ValueFault.{ValueFault}
use Rattle.amqp_value.specs.declared.fault.ValueFaultKind.TheVariants.{OutOfMemory, TooDeep}
use Rattle.amqp_value.specs.Pairs.{value_named, with_value}
use Rattle.amqp_value.specs.Places.{StandsAt}
use Rattle.amqp_value.specs.Tables.{table_view}
use Rattle.amqp_value.specs.Values.{depth}
use Rattle.amqp_value.specs.View.{view, pairs_view}
use Rattle.amqp_value.specs.declared.values.Value.{Value}
use Rattle.amqp_value.proofs.Depths.{Pair, above_from, push_within, pairs_view-push}
use Rattle.amqp_value.proofs.Places.{named-here, replaced, with_value-depth, is-pushed}
use Rattle.amqp_value.proofs.tables.Table.set.Goals as goal

abbrev refused : ValueFault → Result (Option Value) ValueFault
refused e = Err e

err_apart : refused out_of_memory ≡ refused (fault_at 0 TooDeep) → ⊥
err_apart e =
    let same : out_of_memory ≡ fault_at 0 TooDeep = cc in
    let kinds : OutOfMemory ≡ TooDeep = ap (λ f. f.kind) same in
    cc

-- what was found among the octets of a name is found under the name
found_at : (name as_octets : List ℕ) (pairs lent : List Pair) (place : ℕ) → as_octets ≡ name → lent ≡ pairs → StandsAt as_octets lent place → StandsAt name pairs place
found_at name as_octets pairs lent place names lends at = subst (λ n. StandsAt n pairs place) names (subst (λ ps. StandsAt as_octets ps place) lends at)

not_found : (name as_octets : List ℕ) (pairs lent : List Pair) → as_octets ≡ name → lent ≡ pairs → value_named as_octets (pairs_view lent) ≡ None → value_named name (pairs_view pairs) ≡ None
not_found name as_octets pairs lent names lends none = subst (λ n. value_named n (pairs_view pairs) ≡ None) names (subst (λ ps. value_named as_octets (pairs_view ps) ≡ None) lends none)

-- the pair at its place, with another value
put_there : (pairs : List Pair) (place : ℕ) (was : Pair) (name : List ℕ) (value dest : Value) → StandsAt name pairs place → was ≡ get_or pairs place was → dest ≡ value
    → pairs_view (slice_set pairs place (was.0, dest)) ≡ with_value (pairs_view pairs) name (view value)
put_there pairs place was name value dest at here is =
    ap (λ p. pairs_view (slice_set pairs place (p, dest))) (ap (λ (q : Pair). q.0) here)
    ∙ ap (λ v. pairs_view (slice_set pairs place ((get_or pairs place was).0, v))) is
    ∙ sym (replaced pairs place was name value at.within at.none_before (at.is_here was))

pub returns-then-not-fits : goal.returns-then-not-fits
returns-then-not-fits c =
    record {
      ok = search rules;
      held = search rules;
      too_deep =
          let deep : 31 < depth (view c.args.value) = above_from c.nests_within-fits.result _ _ c.nests_within-fits.ensures c.if-not-fits.true in
          let deeper = with_value-depth (table_view c.args.self.now) c.args.name (view c.args.value) in
          (λ e. omega (arith, deeper.1), λ h. refl);
      err = search rules;
      same = search rules;
    }

pub invariant_of-self : goal.invariant_of-self
invariant_of-self c =
    let items = c.args.self.now.pairs.items in
    let fits : depth (view c.args.value) ≤ 31 = c.nests_within-fits.ensures.0 c.if-not-fits.false in
    let before = c.args.self.now.depth_is_bounded in
    let at = found_at c.args.name c.as_bytes.result.now items c.deref.result.now c.in-Some.place c.as_bytes.ensures.octets c.deref.ensures.value c.in-Some.ensures in
    let is = put_there items c.in-Some.place c.index_mut.result.now c.args.name c.args.value c.replace.new.dest at c.index_mut.ensures.value c.replace.ensures.after in
    let deeper = with_value-depth (pairs_view items) c.args.name (view c.args.value) in
    record { depth_is_bounded = rw is (omega (arith, deeper.0)) }

pub invariant_of-self-in-None : goal.invariant_of-self-in-None
invariant_of-self-in-None c =
    let fits : depth (view c.args.value) ≤ 31 = c.nests_within-fits.ensures.0 c.if-not-fits.false in
    record { depth_is_bounded = push_within c.args.self.now.pairs.items c.push.new.self.items (c.args.name, c.args.value) _ c.push.ensures.items c.args.self.now.depth_is_bounded fits }

pub returns-in_err-push-in-None : goal.returns-in_err-push-in-None
returns-in_err-push-in-None c =
    record {
      ok = search rules;
      held = search rules;
      too_deep =
          let fits : depth (view c.args.value) ≤ 31 = c.nests_within-fits.ensures.0 c.if-not-fits.false in
          let before = c.args.self.now.depth_is_bounded in
          let deeper = with_value-depth (table_view c.args.self.now) c.args.name (view c.args.value) in
          let p = err_from_is_err_and c.from_residual.result c.from_residual.ensures.1 in
          let memory : c.from_residual.result ≡ Err out_of_memory = p.1 ∙ ap (λ e. Err e) p.2 in
          (λ e. absurd (err_apart (sym memory ∙ e)), λ h. absurd (omega (arith, deeper.0)));
      err = search rules;
      same = search rules;
    }

pub returns-in-Some : goal.returns-in-Some
returns-in-Some c =
    record {
      ok =
          let items = c.args.self.now.pairs.items in
          let at = found_at c.args.name c.as_bytes.result.now items c.deref.result.now c.in-Some.place c.as_bytes.ensures.octets c.deref.ensures.value c.in-Some.ensures in
          put_there items c.in-Some.place c.index_mut.result.now c.args.name c.args.value c.replace.new.dest at c.index_mut.ensures.value c.replace.ensures.after;
      held =
          let items = c.args.self.now.pairs.items in
          let place = c.in-Some.place in
          let was = c.index_mut.result.now in
          let at = found_at c.args.name c.as_bytes.result.now items c.deref.result.now place c.as_bytes.ensures.octets c.deref.ensures.value c.in-Some.ensures in
          named-here items place was c.args.name at.within at.none_before (at.is_here was)
          ∙ ap (λ (q : Pair). Some (view q.1)) (sym c.index_mut.ensures.value)
          ∙ ap (λ v. Some (view v)) (sym c.replace.ensures.value);
      too_deep =
          let fits : depth (view c.args.value) ≤ 31 = c.nests_within-fits.ensures.0 c.if-not-fits.false in
          let before = c.args.self.now.depth_is_bounded in
          let deeper = with_value-depth (table_view c.args.self.now) c.args.name (view c.args.value) in
          (λ e. absurd cc, λ h. absurd (omega (arith, deeper.0)));
      err = search rules;
      same = search rules;
    }

pub returns-in_ok-push-in-None : goal.returns-in_ok-push-in-None
returns-in_ok-push-in-None c =
    record {
      ok =
          let items = c.args.self.now.pairs.items in
          let none = not_found c.args.name c.as_bytes.result.now items c.deref.result.now c.as_bytes.ensures.octets c.deref.ensures.value c.in-None.ensures in
          ap pairs_view c.in_ok-push-in-None.ensures.items ∙ pairs_view-push items (c.args.name, c.args.value) ∙ sym (is-pushed (pairs_view items) c.args.name (view c.args.value) none);
      held = search rules;
      too_deep =
          let fits : depth (view c.args.value) ≤ 31 = c.nests_within-fits.ensures.0 c.if-not-fits.false in
          let before = c.args.self.now.depth_is_bounded in
          let deeper = with_value-depth (table_view c.args.self.now) c.args.name (view c.args.value) in
          (λ e. absurd cc, λ h. absurd (omega (arith, deeper.0)));
      err = search rules;
      same = search rules;
    }
