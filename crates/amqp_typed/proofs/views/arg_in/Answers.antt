use Rattle.std.proofs.Common.{◌≡◌, Option, Some, None}
use Rattle.std.specs.Prelude.{IsSome}
use Rattle.amqp_method.specs.declared.fields.FieldKind.{FieldKind}
use Rattle.amqp_method.specs.MethodRefView.{lent_call}
use Rattle.amqp_typed.proofs.Places.{none_there, kind_there}
use Rattle.amqp_typed.proofs.views.arg_in.Goals as goal

not_some : (k : Option FieldKind) → k ≡ None → IsSome k → ⊥
not_some None e some = absurd cc
not_some (Some kind) e some = absurd cc

pub unreachable-requires : goal.unreachable-requires
unreachable-requires c =
    let none = none_there (lent_call c.args.method) c.args.place c.args-args.ensures.fit c.in_default.ensures in
    not_some _ none c.requires

pub returns-clause-kind : goal.returns-clause-kind
returns-clause-kind c = kind_there (lent_call c.args.method) c.args.place _ c.args-args.ensures.fit c.in-Some.ensures
