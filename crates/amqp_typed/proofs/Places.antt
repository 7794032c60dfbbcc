-- The arguments of a method by their place.
use Rattle.std.proofs.Common.{◌≡◌, ℕ, zero, suc, List, [], ◌∷◌, map, Option, Some, None, refl, sym, ap, ◌∙◌}
use Rattle.amqp_method.specs.Arguments.{Argument, Call, call, Fits, kind_of, wanted}
use Rattle.amqp_method.specs.Kinds.{fields_of}
use Rattle.amqp_method.specs.Places.{argument_at}
use Rattle.amqp_method.specs.Views.{arg_view, args_view}
use Rattle.amqp_method.specs.declared.fields.Arg.{Arg}
use Rattle.amqp_method.specs.declared.fields.FieldKind.{FieldKind}
use Rattle.amqp_method.specs.declared.kinds.Kind.{Kind}
use Rattle.amqp_typed.specs.Kinds.{nth_kind, kind_at}

kind_nth : (args : List Argument) (place : ℕ) (a : Argument) → argument_at place args ≡ Some a → nth_kind place (map kind_of args) ≡ Some (kind_of a)
kind_nth [] place a e = absurd cc
kind_nth (b ∷ args) zero a e = cc
kind_nth (b ∷ args) (suc n) a e = kind_nth args n a e

none_nth : (args : List Argument) (place : ℕ) → argument_at place args ≡ None → nth_kind place (map kind_of args) ≡ None
none_nth [] place e = refl
none_nth (b ∷ args) zero e = absurd cc
none_nth (b ∷ args) (suc n) e = none_nth args n e

-- the argument at a place is of the kind that the table has
pub kind_there : (c : Call) (place : ℕ) (a : Argument) → Fits c → argument_at place c.args ≡ Some a → kind_at place c ≡ Some (kind_of a)
kind_there c place a fit e = ap (nth_kind place) (sym fit) ∙ kind_nth c.args place a e

-- and where there is none, the table has none
pub none_there : (c : Call) (place : ℕ) → Fits c → argument_at place c.args ≡ None → kind_at place c ≡ None
none_there c place fit e = ap (nth_kind place) (sym fit) ∙ none_nth c.args place e

-- the kind of a place in a call of a known kind
pub at_place : (c : Call) (kind : Kind) (place : ℕ) {k : Option FieldKind} → c.kind ≡ kind
    → nth_kind place (wanted (fields_of kind)) ≡ k → kind_at place c ≡ k
at_place c kind place same e = ap (λ (k : Kind). nth_kind place (wanted (fields_of k))) same ∙ e

no_more : (args : List Argument) → map kind_of args ≡ [] → args ≡ []
no_more [] e = refl
no_more (a ∷ args) e = absurd cc

same_call : (c : Call) (kind : Kind) (args : List Argument) → c.kind ≡ kind → c.args ≡ args → call kind args ≡ c
same_call c kind args same known = sym (ap (λ (k : Kind). call k c.args) same ∙ ap (call kind) known)

kinds_of : (c : Call) (kind : Kind) → c.kind ≡ kind → Fits c → map kind_of c.args ≡ wanted (fields_of kind)
kinds_of c kind same fit = fit ∙ ap (λ (k : Kind). wanted (fields_of k)) same

-- a call without arguments
pub call_0 : (c : Call) (kind : Kind) → c.kind ≡ kind → Fits c → wanted (fields_of kind) ≡ [] → call kind [] ≡ c
call_0 c kind same fit none = same_call c kind [] same (no_more c.args (kinds_of c kind same fit ∙ none))

known_1 : {k0 : FieldKind} {v0 : Argument} (args : List Argument) → map kind_of args ≡ k0 ∷ []
    → argument_at 0 args ≡ Some v0 → args ≡ v0 ∷ []
known_1 ([]) kinds e0 = absurd cc
known_1 (x0 ∷ []) kinds e0 = cc
known_1 (x0 ∷ x1 ∷ args) kinds e0 = absurd cc

-- a call whose only argument is known
pub call_1 : (c : Call) (kind : Kind) {k0 : FieldKind} {v0 : Argument} → c.kind ≡ kind → Fits c → wanted (fields_of kind) ≡ k0 ∷ []
    → argument_at 0 c.args ≡ Some v0 → call kind (v0 ∷ []) ≡ c
call_1 c kind same fit kinds e0 = same_call c kind _ same (known_1 c.args (kinds_of c kind same fit ∙ kinds) e0)

known_2 : {k0 k1 : FieldKind} {v0 v1 : Argument} (args : List Argument) → map kind_of args ≡ k0 ∷ k1 ∷ []
    → argument_at 0 args ≡ Some v0 → argument_at 1 args ≡ Some v1 → args ≡ v0 ∷ v1 ∷ []
known_2 ([]) kinds e0 e1 = absurd cc
known_2 (x0 ∷ []) kinds e0 e1 = absurd cc
known_2 (x0 ∷ x1 ∷ []) kinds e0 e1 = cc
known_2 (x0 ∷ x1 ∷ x2 ∷ args) kinds e0 e1 = absurd cc

-- a call whose arguments, 2 in number, are known
pub call_2 : (c : Call) (kind : Kind) {k0 k1 : FieldKind} {v0 v1 : Argument} → c.kind ≡ kind → Fits c → wanted (fields_of kind) ≡ k0 ∷ k1 ∷ []
    → argument_at 0 c.args ≡ Some v0 → argument_at 1 c.args ≡ Some v1 → call kind (v0 ∷ v1 ∷ []) ≡ c
call_2 c kind same fit kinds e0 e1 = same_call c kind _ same (known_2 c.args (kinds_of c kind same fit ∙ kinds) e0 e1)

known_3 : {k0 k1 k2 : FieldKind} {v0 v1 v2 : Argument} (args : List Argument) → map kind_of args ≡ k0 ∷ k1 ∷ k2 ∷ []
    → argument_at 0 args ≡ Some v0 → argument_at 1 args ≡ Some v1 → argument_at 2 args ≡ Some v2 → args ≡ v0 ∷ v1 ∷ v2 ∷ []
known_3 ([]) kinds e0 e1 e2 = absurd cc
known_3 (x0 ∷ []) kinds e0 e1 e2 = absurd cc
known_3 (x0 ∷ x1 ∷ []) kinds e0 e1 e2 = absurd cc
known_3 (x0 ∷ x1 ∷ x2 ∷ []) kinds e0 e1 e2 = cc
known_3 (x0 ∷ x1 ∷ x2 ∷ x3 ∷ args) kinds e0 e1 e2 = absurd cc

-- a call whose arguments, 3 in number, are known
pub call_3 : (c : Call) (kind : Kind) {k0 k1 k2 : FieldKind} {v0 v1 v2 : Argument} → c.kind ≡ kind → Fits c → wanted (fields_of kind) ≡ k0 ∷ k1 ∷ k2 ∷ []
    → argument_at 0 c.args ≡ Some v0 → argument_at 1 c.args ≡ Some v1 → argument_at 2 c.args ≡ Some v2 → call kind (v0 ∷ v1 ∷ v2 ∷ []) ≡ c
call_3 c kind same fit kinds e0 e1 e2 = same_call c kind _ same (known_3 c.args (kinds_of c kind same fit ∙ kinds) e0 e1 e2)

known_4 : {k0 k1 k2 k3 : FieldKind} {v0 v1 v2 v3 : Argument} (args : List Argument) → map kind_of args ≡ k0 ∷ k1 ∷ k2 ∷ k3 ∷ []
    → argument_at 0 args ≡ Some v0 → argument_at 1 args ≡ Some v1 → argument_at 2 args ≡ Some v2 → argument_at 3 args ≡ Some v3 → args ≡ v0 ∷ v1 ∷ v2 ∷ v3 ∷ []
known_4 ([]) kinds e0 e1 e2 e3 = absurd cc
known_4 (x0 ∷ []) kinds e0 e1 e2 e3 = absurd cc
known_4 (x0 ∷ x1 ∷ []) kinds e0 e1 e2 e3 = absurd cc
known_4 (x0 ∷ x1 ∷ x2 ∷ []) kinds e0 e1 e2 e3 = absurd cc
known_4 (x0 ∷ x1 ∷ x2 ∷ x3 ∷ []) kinds e0 e1 e2 e3 = cc
known_4 (x0 ∷ x1 ∷ x2 ∷ x3 ∷ x4 ∷ args) kinds e0 e1 e2 e3 = absurd cc

-- a call whose arguments, 4 in number, are known
pub call_4 : (c : Call) (kind : Kind) {k0 k1 k2 k3 : FieldKind} {v0 v1 v2 v3 : Argument} → c.kind ≡ kind → Fits c → wanted (fields_of kind) ≡ k0 ∷ k1 ∷ k2 ∷ k3 ∷ []
    → argument_at 0 c.args ≡ Some v0 → argument_at 1 c.args ≡ Some v1 → argument_at 2 c.args ≡ Some v2 → argument_at 3 c.args ≡ Some v3 → call kind (v0 ∷ v1 ∷ v2 ∷ v3 ∷ []) ≡ c
call_4 c kind same fit kinds e0 e1 e2 e3 = same_call c kind _ same (known_4 c.args (kinds_of c kind same fit ∙ kinds) e0 e1 e2 e3)

known_5 : {k0 k1 k2 k3 k4 : FieldKind} {v0 v1 v2 v3 v4 : Argument} (args : List Argument) → map kind_of args ≡ k0 ∷ k1 ∷ k2 ∷ k3 ∷ k4 ∷ []
    → argument_at 0 args ≡ Some v0 → argument_at 1 args ≡ Some v1 → argument_at 2 args ≡ Some v2 → argument_at 3 args ≡ Some v3 → argument_at 4 args ≡ Some v4 → args ≡ v0 ∷ v1 ∷ v2 ∷ v3 ∷ v4 ∷ []
known_5 ([]) kinds e0 e1 e2 e3 e4 = absurd cc
known_5 (x0 ∷ []) kinds e0 e1 e2 e3 e4 = absurd cc
known_5 (x0 ∷ x1 ∷ []) kinds e0 e1 e2 e3 e4 = absurd cc
known_5 (x0 ∷ x1 ∷ x2 ∷ []) kinds e0 e1 e2 e3 e4 = absurd cc
known_5 (x0 ∷ x1 ∷ x2 ∷ x3 ∷ []) kinds e0 e1 e2 e3 e4 = absurd cc
known_5 (x0 ∷ x1 ∷ x2 ∷ x3 ∷ x4 ∷ []) kinds e0 e1 e2 e3 e4 = cc
known_5 (x0 ∷ x1 ∷ x2 ∷ x3 ∷ x4 ∷ x5 ∷ args) kinds e0 e1 e2 e3 e4 = absurd cc

-- a call whose arguments, 5 in number, are known
pub call_5 : (c : Call) (kind : Kind) {k0 k1 k2 k3 k4 : FieldKind} {v0 v1 v2 v3 v4 : Argument} → c.kind ≡ kind → Fits c → wanted (fields_of kind) ≡ k0 ∷ k1 ∷ k2 ∷ k3 ∷ k4 ∷ []
    → argument_at 0 c.args ≡ Some v0 → argument_at 1 c.args ≡ Some v1 → argument_at 2 c.args ≡ Some v2 → argument_at 3 c.args ≡ Some v3 → argument_at 4 c.args ≡ Some v4 → call kind (v0 ∷ v1 ∷ v2 ∷ v3 ∷ v4 ∷ []) ≡ c
call_5 c kind same fit kinds e0 e1 e2 e3 e4 = same_call c kind _ same (known_5 c.args (kinds_of c kind same fit ∙ kinds) e0 e1 e2 e3 e4)

known_6 : {k0 k1 k2 k3 k4 k5 : FieldKind} {v0 v1 v2 v3 v4 v5 : Argument} (args : List Argument) → map kind_of args ≡ k0 ∷ k1 ∷ k2 ∷ k3 ∷ k4 ∷ k5 ∷ []
    → argument_at 0 args ≡ Some v0 → argument_at 1 args ≡ Some v1 → argument_at 2 args ≡ Some v2 → argument_at 3 args ≡ Some v3 → argument_at 4 args ≡ Some v4 → argument_at 5 args ≡ Some v5 → args ≡ v0 ∷ v1 ∷ v2 ∷ v3 ∷ v4 ∷ v5 ∷ []
known_6 ([]) kinds e0 e1 e2 e3 e4 e5 = absurd cc
known_6 (x0 ∷ []) kinds e0 e1 e2 e3 e4 e5 = absurd cc
known_6 (x0 ∷ x1 ∷ []) kinds e0 e1 e2 e3 e4 e5 = absurd cc
known_6 (x0 ∷ x1 ∷ x2 ∷ []) kinds e0 e1 e2 e3 e4 e5 = absurd cc
known_6 (x0 ∷ x1 ∷ x2 ∷ x3 ∷ []) kinds e0 e1 e2 e3 e4 e5 = absurd cc
known_6 (x0 ∷ x1 ∷ x2 ∷ x3 ∷ x4 ∷ []) kinds e0 e1 e2 e3 e4 e5 = absurd cc
known_6 (x0 ∷ x1 ∷ x2 ∷ x3 ∷ x4 ∷ x5 ∷ []) kinds e0 e1 e2 e3 e4 e5 = cc
known_6 (x0 ∷ x1 ∷ x2 ∷ x3 ∷ x4 ∷ x5 ∷ x6 ∷ args) kinds e0 e1 e2 e3 e4 e5 = absurd cc

-- a call whose arguments, 6 in number, are known
pub call_6 : (c : Call) (kind : Kind) {k0 k1 k2 k3 k4 k5 : FieldKind} {v0 v1 v2 v3 v4 v5 : Argument} → c.kind ≡ kind → Fits c → wanted (fields_of kind) ≡ k0 ∷ k1 ∷ k2 ∷ k3 ∷ k4 ∷ k5 ∷ []
    → argument_at 0 c.args ≡ Some v0 → argument_at 1 c.args ≡ Some v1 → argument_at 2 c.args ≡ Some v2 → argument_at 3 c.args ≡ Some v3 → argument_at 4 c.args ≡ Some v4 → argument_at 5 c.args ≡ Some v5 → call kind (v0 ∷ v1 ∷ v2 ∷ v3 ∷ v4 ∷ v5 ∷ []) ≡ c
call_6 c kind same fit kinds e0 e1 e2 e3 e4 e5 = same_call c kind _ same (known_6 c.args (kinds_of c kind same fit ∙ kinds) e0 e1 e2 e3 e4 e5)

known_7 : {k0 k1 k2 k3 k4 k5 k6 : FieldKind} {v0 v1 v2 v3 v4 v5 v6 : Argument} (args : List Argument) → map kind_of args ≡ k0 ∷ k1 ∷ k2 ∷ k3 ∷ k4 ∷ k5 ∷ k6 ∷ []
    → argument_at 0 args ≡ Some v0 → argument_at 1 args ≡ Some v1 → argument_at 2 args ≡ Some v2 → argument_at 3 args ≡ Some v3 → argument_at 4 args ≡ Some v4 → argument_at 5 args ≡ Some v5 → argument_at 6 args ≡ Some v6 → args ≡ v0 ∷ v1 ∷ v2 ∷ v3 ∷ v4 ∷ v5 ∷ v6 ∷ []
known_7 ([]) kinds e0 e1 e2 e3 e4 e5 e6 = absurd cc
known_7 (x0 ∷ []) kinds e0 e1 e2 e3 e4 e5 e6 = absurd cc
known_7 (x0 ∷ x1 ∷ []) kinds e0 e1 e2 e3 e4 e5 e6 = absurd cc
known_7 (x0 ∷ x1 ∷ x2 ∷ []) kinds e0 e1 e2 e3 e4 e5 e6 = absurd cc
known_7 (x0 ∷ x1 ∷ x2 ∷ x3 ∷ []) kinds e0 e1 e2 e3 e4 e5 e6 = absurd cc
known_7 (x0 ∷ x1 ∷ x2 ∷ x3 ∷ x4 ∷ []) kinds e0 e1 e2 e3 e4 e5 e6 = absurd cc
known_7 (x0 ∷ x1 ∷ x2 ∷ x3 ∷ x4 ∷ x5 ∷ []) kinds e0 e1 e2 e3 e4 e5 e6 = absurd cc
known_7 (x0 ∷ x1 ∷ x2 ∷ x3 ∷ x4 ∷ x5 ∷ x6 ∷ []) kinds e0 e1 e2 e3 e4 e5 e6 = cc
known_7 (x0 ∷ x1 ∷ x2 ∷ x3 ∷ x4 ∷ x5 ∷ x6 ∷ x7 ∷ args) kinds e0 e1 e2 e3 e4 e5 e6 = absurd cc

-- a call whose arguments, 7 in number, are known
pub call_7 : (c : Call) (kind : Kind) {k0 k1 k2 k3 k4 k5 k6 : FieldKind} {v0 v1 v2 v3 v4 v5 v6 : Argument} → c.kind ≡ kind → Fits c → wanted (fields_of kind) ≡ k0 ∷ k1 ∷ k2 ∷ k3 ∷ k4 ∷ k5 ∷ k6 ∷ []
    → argument_at 0 c.args ≡ Some v0 → argument_at 1 c.args ≡ Some v1 → argument_at 2 c.args ≡ Some v2 → argument_at 3 c.args ≡ Some v3 → argument_at 4 c.args ≡ Some v4 → argument_at 5 c.args ≡ Some v5 → argument_at 6 c.args ≡ Some v6 → call kind (v0 ∷ v1 ∷ v2 ∷ v3 ∷ v4 ∷ v5 ∷ v6 ∷ []) ≡ c
call_7 c kind same fit kinds e0 e1 e2 e3 e4 e5 e6 = same_call c kind _ same (known_7 c.args (kinds_of c kind same fit ∙ kinds) e0 e1 e2 e3 e4 e5 e6)

known_8 : {k0 k1 k2 k3 k4 k5 k6 k7 : FieldKind} {v0 v1 v2 v3 v4 v5 v6 v7 : Argument} (args : List Argument) → map kind_of args ≡ k0 ∷ k1 ∷ k2 ∷ k3 ∷ k4 ∷ k5 ∷ k6 ∷ k7 ∷ []
    → argument_at 0 args ≡ Some v0 → argument_at 1 args ≡ Some v1 → argument_at 2 args ≡ Some v2 → argument_at 3 args ≡ Some v3 → argument_at 4 args ≡ Some v4 → argument_at 5 args ≡ Some v5 → argument_at 6 args ≡ Some v6 → argument_at 7 args ≡ Some v7 → args ≡ v0 ∷ v1 ∷ v2 ∷ v3 ∷ v4 ∷ v5 ∷ v6 ∷ v7 ∷ []
known_8 ([]) kinds e0 e1 e2 e3 e4 e5 e6 e7 = absurd cc
known_8 (x0 ∷ []) kinds e0 e1 e2 e3 e4 e5 e6 e7 = absurd cc
known_8 (x0 ∷ x1 ∷ []) kinds e0 e1 e2 e3 e4 e5 e6 e7 = absurd cc
known_8 (x0 ∷ x1 ∷ x2 ∷ []) kinds e0 e1 e2 e3 e4 e5 e6 e7 = absurd cc
known_8 (x0 ∷ x1 ∷ x2 ∷ x3 ∷ []) kinds e0 e1 e2 e3 e4 e5 e6 e7 = absurd cc
known_8 (x0 ∷ x1 ∷ x2 ∷ x3 ∷ x4 ∷ []) kinds e0 e1 e2 e3 e4 e5 e6 e7 = absurd cc
known_8 (x0 ∷ x1 ∷ x2 ∷ x3 ∷ x4 ∷ x5 ∷ []) kinds e0 e1 e2 e3 e4 e5 e6 e7 = absurd cc
known_8 (x0 ∷ x1 ∷ x2 ∷ x3 ∷ x4 ∷ x5 ∷ x6 ∷ []) kinds e0 e1 e2 e3 e4 e5 e6 e7 = absurd cc
known_8 (x0 ∷ x1 ∷ x2 ∷ x3 ∷ x4 ∷ x5 ∷ x6 ∷ x7 ∷ []) kinds e0 e1 e2 e3 e4 e5 e6 e7 = cc
known_8 (x0 ∷ x1 ∷ x2 ∷ x3 ∷ x4 ∷ x5 ∷ x6 ∷ x7 ∷ x8 ∷ args) kinds e0 e1 e2 e3 e4 e5 e6 e7 = absurd cc

-- a call whose arguments, 8 in number, are known
pub call_8 : (c : Call) (kind : Kind) {k0 k1 k2 k3 k4 k5 k6 k7 : FieldKind} {v0 v1 v2 v3 v4 v5 v6 v7 : Argument} → c.kind ≡ kind → Fits c → wanted (fields_of kind) ≡ k0 ∷ k1 ∷ k2 ∷ k3 ∷ k4 ∷ k5 ∷ k6 ∷ k7 ∷ []
    → argument_at 0 c.args ≡ Some v0 → argument_at 1 c.args ≡ Some v1 → argument_at 2 c.args ≡ Some v2 → argument_at 3 c.args ≡ Some v3 → argument_at 4 c.args ≡ Some v4 → argument_at 5 c.args ≡ Some v5 → argument_at 6 c.args ≡ Some v6 → argument_at 7 c.args ≡ Some v7 → call kind (v0 ∷ v1 ∷ v2 ∷ v3 ∷ v4 ∷ v5 ∷ v6 ∷ v7 ∷ []) ≡ c
call_8 c kind same fit kinds e0 e1 e2 e3 e4 e5 e6 e7 = same_call c kind _ same (known_8 c.args (kinds_of c kind same fit ∙ kinds) e0 e1 e2 e3 e4 e5 e6 e7)

-- ---- arguments taken apart

-- they are of the kinds of the table
pub kinds_in : (kind : Kind) (xs ys : List Arg) → Fits (call kind (args_view xs)) → xs ≡ ys → map kind_of (args_view ys) ≡ wanted (fields_of kind)
kinds_in kind xs ys fit same = ap (λ (zs : List Arg). map kind_of (args_view zs)) (sym same) ∙ fit

pub kind_1 : {k l : FieldKind} → k ∷ [] ≡ l ∷ [] → k ≡ l
kind_1 e = cc

same_1 : {v0 w0 : Argument} → w0 ≡ v0 → v0 ∷ [] ≡ w0 ∷ []
same_1 e0 = cc

-- and one alone is that of the call
pub made_1 : (c : Call) (kind : Kind) (xs : List Arg) {x0 : Arg} {v0 : Argument} → call kind (args_view xs) ≡ c → xs ≡ x0 ∷ []
    → arg_view x0 ≡ v0 → call kind (v0 ∷ []) ≡ c
made_1 c kind xs is same e0 = ap (call kind) (same_1 e0 ∙ ap args_view (sym same)) ∙ is

-- equal lists of 2 kinds
pub kinds_2 : {k0 k1 l0 l1 : FieldKind} → k0 ∷ k1 ∷ [] ≡ l0 ∷ l1 ∷ []
    → (k0 ≡ l0) × (k1 ≡ l1)
kinds_2 e = (cc, cc)

same_2 : {v0 v1 w0 w1 : Argument} → w0 ≡ v0 → w1 ≡ v1 → v0 ∷ v1 ∷ [] ≡ w0 ∷ w1 ∷ []
same_2 e0 e1 = cc

-- and 2 of them are those of the call
pub made_2 : (c : Call) (kind : Kind) (xs : List Arg) {x0 x1 : Arg} {v0 v1 : Argument} → call kind (args_view xs) ≡ c → xs ≡ x0 ∷ x1 ∷ []
    → arg_view x0 ≡ v0 → arg_view x1 ≡ v1 → call kind (v0 ∷ v1 ∷ []) ≡ c
made_2 c kind xs is same e0 e1 = ap (call kind) (same_2 e0 e1 ∙ ap args_view (sym same)) ∙ is

-- equal lists of 3 kinds
pub kinds_3 : {k0 k1 k2 l0 l1 l2 : FieldKind} → k0 ∷ k1 ∷ k2 ∷ [] ≡ l0 ∷ l1 ∷ l2 ∷ []
    → (k0 ≡ l0) × (k1 ≡ l1) × (k2 ≡ l2)
kinds_3 e = (cc, cc, cc)

same_3 : {v0 v1 v2 w0 w1 w2 : Argument} → w0 ≡ v0 → w1 ≡ v1 → w2 ≡ v2 → v0 ∷ v1 ∷ v2 ∷ [] ≡ w0 ∷ w1 ∷ w2 ∷ []
same_3 e0 e1 e2 = cc

-- and 3 of them are those of the call
pub made_3 : (c : Call) (kind : Kind) (xs : List Arg) {x0 x1 x2 : Arg} {v0 v1 v2 : Argument} → call kind (args_view xs) ≡ c → xs ≡ x0 ∷ x1 ∷ x2 ∷ []
    → arg_view x0 ≡ v0 → arg_view x1 ≡ v1 → arg_view x2 ≡ v2 → call kind (v0 ∷ v1 ∷ v2 ∷ []) ≡ c
made_3 c kind xs is same e0 e1 e2 = ap (call kind) (same_3 e0 e1 e2 ∙ ap args_view (sym same)) ∙ is

-- equal lists of 4 kinds
pub kinds_4 : {k0 k1 k2 k3 l0 l1 l2 l3 : FieldKind} → k0 ∷ k1 ∷ k2 ∷ k3 ∷ [] ≡ l0 ∷ l1 ∷ l2 ∷ l3 ∷ []
    → (k0 ≡ l0) × (k1 ≡ l1) × (k2 ≡ l2) × (k3 ≡ l3)
kinds_4 e = (cc, cc, cc, cc)

same_4 : {v0 v1 v2 v3 w0 w1 w2 w3 : Argument} → w0 ≡ v0 → w1 ≡ v1 → w2 ≡ v2 → w3 ≡ v3 → v0 ∷ v1 ∷ v2 ∷ v3 ∷ [] ≡ w0 ∷ w1 ∷ w2 ∷ w3 ∷ []
same_4 e0 e1 e2 e3 = cc

-- and 4 of them are those of the call
pub made_4 : (c : Call) (kind : Kind) (xs : List Arg) {x0 x1 x2 x3 : Arg} {v0 v1 v2 v3 : Argument} → call kind (args_view xs) ≡ c → xs ≡ x0 ∷ x1 ∷ x2 ∷ x3 ∷ []
    → arg_view x0 ≡ v0 → arg_view x1 ≡ v1 → arg_view x2 ≡ v2 → arg_view x3 ≡ v3 → call kind (v0 ∷ v1 ∷ v2 ∷ v3 ∷ []) ≡ c
made_4 c kind xs is same e0 e1 e2 e3 = ap (call kind) (same_4 e0 e1 e2 e3 ∙ ap args_view (sym same)) ∙ is

-- equal lists of 5 kinds
pub kinds_5 : {k0 k1 k2 k3 k4 l0 l1 l2 l3 l4 : FieldKind} → k0 ∷ k1 ∷ k2 ∷ k3 ∷ k4 ∷ [] ≡ l0 ∷ l1 ∷ l2 ∷ l3 ∷ l4 ∷ []
    → (k0 ≡ l0) × (k1 ≡ l1) × (k2 ≡ l2) × (k3 ≡ l3) × (k4 ≡ l4)
kinds_5 e = (cc, cc, cc, cc, cc)

same_5 : {v0 v1 v2 v3 v4 w0 w1 w2 w3 w4 : Argument} → w0 ≡ v0 → w1 ≡ v1 → w2 ≡ v2 → w3 ≡ v3 → w4 ≡ v4 → v0 ∷ v1 ∷ v2 ∷ v3 ∷ v4 ∷ [] ≡ w0 ∷ w1 ∷ w2 ∷ w3 ∷ w4 ∷ []
same_5 e0 e1 e2 e3 e4 = cc

-- and 5 of them are those of the call
pub made_5 : (c : Call) (kind : Kind) (xs : List Arg) {x0 x1 x2 x3 x4 : Arg} {v0 v1 v2 v3 v4 : Argument} → call kind (args_view xs) ≡ c → xs ≡ x0 ∷ x1 ∷ x2 ∷ x3 ∷ x4 ∷ []
    → arg_view x0 ≡ v0 → arg_view x1 ≡ v1 → arg_view x2 ≡ v2 → arg_view x3 ≡ v3 → arg_view x4 ≡ v4 → call kind (v0 ∷ v1 ∷ v2 ∷ v3 ∷ v4 ∷ []) ≡ c
made_5 c kind xs is same e0 e1 e2 e3 e4 = ap (call kind) (same_5 e0 e1 e2 e3 e4 ∙ ap args_view (sym same)) ∙ is

-- equal lists of 7 kinds
pub kinds_7 : {k0 k1 k2 k3 k4 k5 k6 l0 l1 l2 l3 l4 l5 l6 : FieldKind} → k0 ∷ k1 ∷ k2 ∷ k3 ∷ k4 ∷ k5 ∷ k6 ∷ [] ≡ l0 ∷ l1 ∷ l2 ∷ l3 ∷ l4 ∷ l5 ∷ l6 ∷ []
    → (k0 ≡ l0) × (k1 ≡ l1) × (k2 ≡ l2) × (k3 ≡ l3) × (k4 ≡ l4) × (k5 ≡ l5) × (k6 ≡ l6)
kinds_7 e = (cc, cc, cc, cc, cc, cc, cc)

same_7 : {v0 v1 v2 v3 v4 v5 v6 w0 w1 w2 w3 w4 w5 w6 : Argument} → w0 ≡ v0 → w1 ≡ v1 → w2 ≡ v2 → w3 ≡ v3 → w4 ≡ v4 → w5 ≡ v5 → w6 ≡ v6 → v0 ∷ v1 ∷ v2 ∷ v3 ∷ v4 ∷ v5 ∷ v6 ∷ [] ≡ w0 ∷ w1 ∷ w2 ∷ w3 ∷ w4 ∷ w5 ∷ w6 ∷ []
same_7 e0 e1 e2 e3 e4 e5 e6 = cc

-- and 7 of them are those of the call
pub made_7 : (c : Call) (kind : Kind) (xs : List Arg) {x0 x1 x2 x3 x4 x5 x6 : Arg} {v0 v1 v2 v3 v4 v5 v6 : Argument} → call kind (args_view xs) ≡ c → xs ≡ x0 ∷ x1 ∷ x2 ∷ x3 ∷ x4 ∷ x5 ∷ x6 ∷ []
    → arg_view x0 ≡ v0 → arg_view x1 ≡ v1 → arg_view x2 ≡ v2 → arg_view x3 ≡ v3 → arg_view x4 ≡ v4 → arg_view x5 ≡ v5 → arg_view x6 ≡ v6 → call kind (v0 ∷ v1 ∷ v2 ∷ v3 ∷ v4 ∷ v5 ∷ v6 ∷ []) ≡ c
made_7 c kind xs is same e0 e1 e2 e3 e4 e5 e6 = ap (call kind) (same_7 e0 e1 e2 e3 e4 e5 e6 ∙ ap args_view (sym same)) ∙ is

-- equal lists of 8 kinds
pub kinds_8 : {k0 k1 k2 k3 k4 k5 k6 k7 l0 l1 l2 l3 l4 l5 l6 l7 : FieldKind} → k0 ∷ k1 ∷ k2 ∷ k3 ∷ k4 ∷ k5 ∷ k6 ∷ k7 ∷ [] ≡ l0 ∷ l1 ∷ l2 ∷ l3 ∷ l4 ∷ l5 ∷ l6 ∷ l7 ∷ []
    → (k0 ≡ l0) × (k1 ≡ l1) × (k2 ≡ l2) × (k3 ≡ l3) × (k4 ≡ l4) × (k5 ≡ l5) × (k6 ≡ l6) × (k7 ≡ l7)
kinds_8 e = (cc, cc, cc, cc, cc, cc, cc, cc)

same_8 : {v0 v1 v2 v3 v4 v5 v6 v7 w0 w1 w2 w3 w4 w5 w6 w7 : Argument} → w0 ≡ v0 → w1 ≡ v1 → w2 ≡ v2 → w3 ≡ v3 → w4 ≡ v4 → w5 ≡ v5 → w6 ≡ v6 → w7 ≡ v7 → v0 ∷ v1 ∷ v2 ∷ v3 ∷ v4 ∷ v5 ∷ v6 ∷ v7 ∷ [] ≡ w0 ∷ w1 ∷ w2 ∷ w3 ∷ w4 ∷ w5 ∷ w6 ∷ w7 ∷ []
same_8 e0 e1 e2 e3 e4 e5 e6 e7 = cc

-- and 8 of them are those of the call
pub made_8 : (c : Call) (kind : Kind) (xs : List Arg) {x0 x1 x2 x3 x4 x5 x6 x7 : Arg} {v0 v1 v2 v3 v4 v5 v6 v7 : Argument} → call kind (args_view xs) ≡ c → xs ≡ x0 ∷ x1 ∷ x2 ∷ x3 ∷ x4 ∷ x5 ∷ x6 ∷ x7 ∷ []
    → arg_view x0 ≡ v0 → arg_view x1 ≡ v1 → arg_view x2 ≡ v2 → arg_view x3 ≡ v3 → arg_view x4 ≡ v4 → arg_view x5 ≡ v5 → arg_view x6 ≡ v6 → arg_view x7 ≡ v7 → call kind (v0 ∷ v1 ∷ v2 ∷ v3 ∷ v4 ∷ v5 ∷ v6 ∷ v7 ∷ []) ≡ c
made_8 c kind xs is same e0 e1 e2 e3 e4 e5 e6 e7 = ap (call kind) (same_8 e0 e1 e2 e3 e4 e5 e6 e7 ∙ ap args_view (sym same)) ∙ is
