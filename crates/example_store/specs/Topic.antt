-- Which routing keys a topic's pattern matches, as word lists. Dots part the words.
use Rattle.std.specs.Prelude.{ℕ, List, [], ◌∷◌, ◌++◌, ◌≡◌, ◌==◌, ◌⊎◌, map}
use Rattle.std.specs.List.{slice_split}
use denote.Ref.{Bor}

-- the words of a pattern or of a routing key: an empty one has none
abbrev pub words : List ℕ → List (List ℕ)
words [] = []
words (octet ∷ octets) = slice_split (λ o. o == 46) (octet ∷ octets)

-- what a word of a pattern stands for: `#` for any number of words, `*` for one word, any other for itself
abbrev pub StandsFor : List ℕ → List (List ℕ) → Type 0
StandsFor p ws = (p ≡ 35 ∷ []) ⊎ ((w : List ℕ) × (ws ≡ w ∷ []) × ((p ≡ 42 ∷ []) ⊎ (p ≡ w)))

-- the key is what the words of the pattern stand for, in order
abbrev pub Matches : List (List ℕ) → List (List ℕ) → Type 0
Matches [] key = key ≡ []
Matches (p ∷ ps) key = (first rest : List (List ℕ)) × (key ≡ first ++ rest) × StandsFor p first × Matches ps rest

-- words as they are lent
abbrev pub lent : List (Bor (List ℕ)) → List (List ℕ)
lent ws = map (λ w. w.now) ws
