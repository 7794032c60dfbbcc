-- Prefixes of lists.
use Rattle.std.specs.Prelude.{◌≡◌, List, ◌++◌}

-- the one list begins the other
abbrev pub IsPrefixOf : {A : Type 0} → (prefix whole : List A) → Type 0
IsPrefixOf {A} prefix whole = (rest : List A) × (whole ≡ prefix ++ rest)
