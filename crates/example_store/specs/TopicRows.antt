-- Matching a topic as it is computed: from the last word of the pattern on, for each rest of the key.
use Rattle.std.specs.Prelude.{ℕ, List, [], ◌∷◌, ◌+◌, ◌≤◌, ◌≡◌, Bool, true, false, if◌then◌else◌, ◌&&◌, ◌||◌, length, drop, get_or}
use Rattle.std.specs.Str.{bytes_eq}

-- whether a word of the pattern and the rest of it match a key that begins with the word `first`: the rest
-- matches the key, as `here` says, and what follows `first`, as `after` says, and both match what follows, as
-- `above` says
abbrev pub word_match : List ℕ → List ℕ → Bool → Bool → Bool → Bool
word_match word first here above after = if bytes_eq word (35 ∷ []) then here || above
    else after && (bytes_eq word (42 ∷ []) || bytes_eq word first)

-- whether a word, and then what `rest` matches, makes the key
abbrev pub matches_word : List ℕ → (List (List ℕ) → Bool) → List (List ℕ) → Bool
matches_word p rest [] = rest [] && bytes_eq p (35 ∷ [])
matches_word p rest (w ∷ ws) = word_match p w (rest (w ∷ ws)) (matches_word p rest ws) (rest ws)

abbrev pub is_match : List (List ℕ) → List (List ℕ) → Bool
is_match [] [] = true
is_match [] (w ∷ ws) = false
is_match (p ∷ ps) ws = matches_word p (is_match ps) ws

-- for each rest of the key, whether these words of a pattern match it
abbrev pub IsRow : List (List ℕ) → List (List ℕ) → List Bool → Type 0
IsRow ps key row = (length row ≡ length key + 1) × ((n : ℕ) → n ≤ length key
    → get_or row n false ≡ is_match ps (drop n key))
