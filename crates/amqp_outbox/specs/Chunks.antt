-- Octets that lie in chunks, of which the first is taken in part.
use Rattle.std.specs.Prelude.{ℕ, List, [], ◌∷◌, ◌++◌, drop, Vec}
use Rattle.std.specs.declared.alloc.Global.{Global}

-- the octets of chunks, one chunk after another
abbrev pub joined : List (Vec ℕ Global) → List ℕ
joined [] = []
joined (chunk ∷ later) = chunk.items ++ joined later

-- what is left once so many octets of the first chunk are taken
abbrev pub joined_after : (taken : ℕ) → (first : List ℕ) → (later : List (Vec ℕ Global)) → List ℕ
joined_after taken first later = drop taken first ++ joined later
