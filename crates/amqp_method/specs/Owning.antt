-- Lent values that are built with memory of their own. A short string that was read has at most 255 octets, so building
-- it fails for memory alone.
use Rattle.std.specs.Prelude.{◌≡◌, ℕ, ◌≤◌, ◌<◌, List, length, take, drop}
use Rattle.amqp_method.specs.Arguments.{Argument, short_string, kind_of}
use Rattle.amqp_method.specs.declared.fields.FieldKind.{FieldKind}

-- where it is a short string, it has at most 255 octets
abbrev pub IsShort : Argument → Type 0
IsShort (short_string text) = length text ≤ 255
IsShort other = Unit {0}

-- a value that is read of a field of a kind
pub record IsValueOf (kind : FieldKind) (value : Argument) : Type 0 where
  pub kind_is : kind_of value ≡ kind
  pub is_short : IsShort value

-- the text of a short string in the octets that it was read of: a length octet stands before it
pub record IsTextOf (octets text : List ℕ) : Type 0 where
  pub are_there : length text < length octets
  pub text_is : text ≡ take (length text) (drop 1 octets)
