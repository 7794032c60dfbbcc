-- Kinds are the same where their numbers are.
use Rattle.std.proofs.Common.{◌≡◌, ◌==◌, ◌&&◌, Bool, true, false, refl}
use Rattle.std.proofs.lemmas.Bool.{eqb-true}
use Rattle.amqp_method.proofs.KindLemmas.{ids_distinct}
use Rattle.amqp_model.specs.Wire.Methods.{MethodKind, class_of, id_of, same_kind}

both : (a b : Bool) → (a && b) ≡ true → (a ≡ true) × (b ≡ true)
both true true h = (refl, refl)
both true false h = absurd cc
both false b h = absurd cc

pub same_is : (kind other : MethodKind) → same_kind kind other ≡ true → kind ≡ other
same_is kind other h =
    let p = both (class_of kind == class_of other) (id_of kind == id_of other) h in
    ids_distinct kind other (eqb-true (class_of kind) (class_of other) p.0) (eqb-true (id_of kind) (id_of other) p.1)
