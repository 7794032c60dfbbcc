-- Fields that are known where the arguments for them are built.
use Rattle.std.specs.Prelude.{◌≡◌, List, [], ◌∷◌, Bool}
use Rattle.amqp_method.specs.Methods.{FieldRow}
use Rattle.amqp_method.specs.declared.fields.FieldKind.{FieldKind}

-- the first of the fields is of this kind, and reserved or not
abbrev pub BeginsWith : FieldKind → Bool → List FieldRow → Type 0
BeginsWith kind reserved [] = ⊥
BeginsWith kind reserved (f ∷ fields) = (kind ≡ f.kind) × (reserved ≡ f.reserved)
