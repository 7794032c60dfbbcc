-- What a text encodes as hexadecimal, line by line.
use Rattle.std.specs.Prelude.{◌≡◌, ℕ, ◌+◌, ◌==◌, ◌||◌, Bool, not, filter, List, [], ◌∷◌, ◌++◌, length, Option, Some, None, Ok, IsErr}
use Rattle.std.specs.List.{slice_split}
use Rattle.hex.specs.Hex.{decode_of}

-- a space, a tab or a carriage return
abbrev pub is_space : ℕ → Bool
is_space x = (x == 32) || (x == 9) || (x == 13)

-- a line without these
abbrev pub bare : List ℕ → List ℕ
bare line = filter (λ x. not (is_space x)) line

abbrev pub is_line_feed : ℕ → Bool
is_line_feed x = x == 10

-- the lines of a text: a line feed ends each but the last
abbrev pub lines : List ℕ → List (List ℕ)
lines text = slice_split is_line_feed text

-- the lines after a line, if a line feed ended it
abbrev pub lines_after : Option (List ℕ) → List (List ℕ)
lines_after None = []
lines_after (Some text) = lines text

-- the octets of the lines, joined in order
abbrev pub EncodeOctets : List (List ℕ) → List ℕ → Type 0
EncodeOctets [] octets = octets ≡ []
EncodeOctets (line ∷ others) octets =
    (prefix : List ℕ) × (rest : List ℕ) × (decode_of (bare line) ≡ Ok prefix) × EncodeOctets others rest
    × (octets ≡ prefix ++ rest)

-- Line n, counted from 1, encodes no octets, and each line before it does.
pub record IsFirstWrong (all : List (List ℕ)) (n : ℕ) : Type 0 where
  pub before : List (List ℕ)
  pub line : List ℕ
  pub others : List (List ℕ)
  pub lines_are : all ≡ before ++ line ∷ others
  pub number : n ≡ length before + 1
  pub octets : List ℕ
  pub encoded : EncodeOctets before octets
  pub wrong : IsErr (decode_of (bare line))

-- the octets of a line stand after the old ones
abbrev pub AppendsLine : List ℕ → List ℕ → List ℕ → Type 0
AppendsLine line old new = (octets : List ℕ) × (decode_of (bare line) ≡ Ok octets) × (new ≡ old ++ octets)
