use Rattle.std.proofs.Common.{◌≡◌, ◌≤◌, ◌<◌, Result, Err, sym, ◌∙◌, ap, refl, arith}
use Rattle.std.proofs.lemmas.Result.{err_from_is_err_and}
use Rattle.amqp_value.specs.Faults.{fault_at, out_of_memory}
use Rattle.amqp_value.specs.declared.fault.ValueFault.{ValueFault}
use Rattle.amqp_value.specs.declared.fault.ValueFaultKind.TheVariants.{OutOfMemory, TooDeep}
use Rattle.amqp_value.specs.Tables.{table_view}
use Rattle.amqp_value.specs.Values.{depth}
use Rattle.amqp_value.specs.View.{view, pairs_view}
use Rattle.amqp_value.proofs.Depths.{above_from, push_within, pairs_depth-with_pair, pairs_view-push}
use Rattle.amqp_value.proofs.tables.Table.push.Goals as goal

abbrev refused : ValueFault → Result (Unit {0}) ValueFault
refused e = Err e

err_apart : refused out_of_memory ≡ refused (fault_at 0 TooDeep) → ⊥
err_apart e =
    let same : out_of_memory ≡ fault_at 0 TooDeep = cc in
    let kinds : OutOfMemory ≡ TooDeep = ap (λ f. f.kind) same in
    cc

pub returns-then-not-nests_within-clause-too_deep :
    goal.returns-then-not-nests_within-clause-too_deep
returns-then-not-nests_within-clause-too_deep c =
    let deep : 31 < depth (view c.args.value) = above_from c.nests_within.result _ _ c.nests_within.ensures c.if-not-nests_within.true in
    (λ e. omega (arith, pairs_depth-with_pair (table_view c.args.self.now) c.args.name (view c.args.value)), λ h. refl)

pub invariant_of-self : goal.invariant_of-self
invariant_of-self c =
    let fits : depth (view c.args.value) ≤ 31 = c.nests_within.ensures.0 c.if-not-nests_within.false in
    record { depth_is_bounded = push_within c.args.self.now.pairs.items c.push.new.self.items (c.args.name, c.args.value) _ c.push.ensures.items c.args.self.now.depth_is_bounded fits }

pub returns-in_err-push-clause-too_deep : goal.returns-in_err-push-clause-too_deep
returns-in_err-push-clause-too_deep c =
    let fits : depth (view c.args.value) ≤ 31 = c.nests_within.ensures.0 c.if-not-nests_within.false in
    let before = c.args.self.now.depth_is_bounded in
    let p = err_from_is_err_and c.from_residual.result c.from_residual.ensures.1 in
    let memory : c.from_residual.result ≡ Err out_of_memory = p.1 ∙ ap (λ e. Err e) p.2 in
    (λ e. absurd (err_apart (sym memory ∙ e)), λ h. absurd (omega (arith, pairs_depth-with_pair (table_view c.args.self.now) c.args.name (view c.args.value))))

pub returns-clause-ok : goal.returns-clause-ok
returns-clause-ok c = ap pairs_view c.in_ok-push.ensures.items ∙ pairs_view-push c.args.self.now.pairs.items (c.args.name, c.args.value)

pub returns-clause-too_deep : goal.returns-clause-too_deep
returns-clause-too_deep c =
    let fits : depth (view c.args.value) ≤ 31 = c.nests_within.ensures.0 c.if-not-nests_within.false in
    let before = c.args.self.now.depth_is_bounded in
    (λ e. absurd cc, λ h. absurd (omega (arith, pairs_depth-with_pair (table_view c.args.self.now) c.args.name (view c.args.value))))
