use Rattle.std.proofs.Common.{◌≡◌, List, [], ◌∷◌, length, Bool, true, false, map, refl, sym, ap, subst, ◌∙◌, arith}
use Rattle.amqp_method.specs.Arguments.{FirstMisfit}
use Rattle.amqp_method.specs.Rows.{field_view}
use Rattle.amqp_method.specs.Views.{arg_view, args_view}
use Rattle.amqp_method.specs.declared.fields.Arg.{Arg}
use Rattle.amqp_method.proofs.FitLemmas.{none_met, reserved_next, argument_next, none_left, other_kind, with_rest}
use Rattle.amqp_method.proofs.methods.first_misfit.Goals as goal
use Rattle.amqp_method.proofs.methods.first_misfit.Goals.{then-not-field+in-Some+else-not-is, else-not-field}

none : (xs : List Arg) → length xs ≡ 0 → args_view xs ≡ []
none [] h = refl
none (x ∷ xs) h = absurd (omega arith)

not_both : (b : Bool) → b ≡ true → b ≡ false → ⊥
not_both b h k = cc

pub loop-field-init : goal.loop-field-init
loop-field-init c = none_met (map field_view c.schema-field-items.result.now) (args_view c.args.args.now)

pub returns-in_default : goal.returns-in_default
returns-in_default c =
    let items = c.schema-field-items.result.now in
    let args = args_view c.args.args.now in
    let m = with_rest _ _ [] (map field_view items) args c.loop-field.place (none c.loop-field.rest.now c.in_default.ensures.cases) c.loop-field.invariant in
    subst (λ fields. FirstMisfit fields args c.loop-field.place) c.schema-field-items.ensures
    (none_left items c.loop-field.field-index _ (map field_view items) args c.loop-field.place c.loop-field-test.true c.if-not-field.true m)

pub returns-then-not-is : goal.returns-then-not-is
returns-then-not-is c =
    let items = c.schema-field-items.result.now in
    let args = args_view c.args.args.now in
    let arg = arg_view c.in-Some.arg.now in
    let others = args_view c.in-Some.others.now in
    let m = with_rest _ _ (arg ∷ others) (map field_view items) args c.loop-field.place (ap args_view c.in-Some.ensures.cases.0) c.loop-field.invariant in
    subst (λ fields. FirstMisfit fields args c.loop-field.place) c.schema-field-items.ensures
    (other_kind items c.loop-field.field-index _ arg others (map field_view items) args c.loop-field.place c.loop-field-test.true c.if-not-field.true
    (λ e. not_both c.is.result (c.is.ensures.1 (c.kind.ensures ∙ e)) c.if-not-is.true) m)

pub loop-field-preserved : goal.loop-field-preserved
loop-field-preserved c =
    let items = c.schema-field-items.result.now in
    let args = args_view c.args.args.now in
    let place = c.loop-field.place in
    elim c.if-not-field.branch [
      | then-not-field+in-Some+else-not-is w ↦
          let arg = arg_view w.in-Some.arg.now in
          let others = args_view w.in-Some.others.now in
          let m = with_rest _ _ (arg ∷ others) (map field_view items) args place (ap args_view w.in-Some.ensures.cases.0) c.loop-field.invariant in
          rw (w.rest-is, w.place-is) (argument_next items c.loop-field.field-index _ arg others (map field_view items) args place c.loop-field-test.true w.if-not-field.true (sym w.kind.ensures ∙ w.is.ensures.0 w.if-not-is.false) m)
      | else-not-field w ↦
          rw (w.rest-is, w.place-is) (reserved_next items c.loop-field.field-index _ (args_view c.loop-field.rest.now) (map field_view items) args place c.loop-field-test.true w.if-not-field.false c.loop-field.invariant)
    ]
