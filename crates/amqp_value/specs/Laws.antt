-- What holds of all octets and all tables.
use Rattle.std.specs.Prelude.{◌≡◌, ℕ, List, ◌++◌}
use Rattle.amqp_value.specs.Encoding.{EncodesValue, EncodesTable}
use Rattle.amqp_value.specs.Values.{Datum, Pairs}

-- Octets before which a value is encoded encode no other there: no octets encode two, and no encoding begins another.
abbrev pub OneValue : Type 0
OneValue = (v w : Datum) (a b x y : List ℕ) → EncodesValue v a → EncodesValue w b → a ++ x ≡ b ++ y → (v ≡ w) × (a ≡ b)

abbrev pub OneTable : Type 0
OneTable = (s t : Pairs) (a b x y : List ℕ) → EncodesTable s a → EncodesTable t b → a ++ x ≡ b ++ y → (s ≡ t) × (a ≡ b)
