-- What is computed of a pattern and a key is what the definition says.
use Rattle.std.proofs.Common.{ℕ, zero, suc, ◌+◌, ◌<◌, ◌≤◌, List, [], ◌∷◌, ◌++◌, ◌≡◌, ◌==◌, ◌↔◌, inl, inr, Bool, true, false, ◌&&◌, ◌||◌, refl, sym, ◌∙◌, ap, ⊎_elim, length, get_or, take, drop, replicate, set, arith}
use Rattle.std.specs.Prelude.{IfOk, IsTrue, Result, Ok, Err}
use Rattle.std.specs.List.{slice_split}
use Rattle.std.specs.Str.{bytes_eq}
use Rattle.std.proofs.lemmas.Slice.Eq.{bytes_eq-Decides}
use Rattle.std.proofs.lemmas.Bool.{and_parts, and_from, or_cases, or_left, or_right, cond-true, cond-false, cases_Bool, cases_eq}
use Rattle.std.proofs.lemmas.List.{get_or-set_same, get_or-set_other, append-nil, take_all, drop_all}
use denote.Ref.{Bor}
use Rattle.example_store.specs.Topic.{StandsFor, Matches, words, lent}
use Rattle.example_store.specs.TopicRows.{word_match, matches_word, is_match, IsRow}

abbrev pub Words : Type 0
Words = List (List ℕ)

abbrev hash : List ℕ
hash = 35 ∷ []

abbrev star : List ℕ
star = 42 ∷ []

at_hash : (p w : List ℕ) (here above after : Bool) → bytes_eq p hash ≡ true → word_match p w here above after ≡ (here || above)
at_hash p w here above after h = cond-true (bytes_eq p hash) (here || above) (after && (bytes_eq p star || bytes_eq p w)) h

at_other : (p w : List ℕ) (here above after : Bool) → bytes_eq p hash ≡ false → word_match p w here above after ≡ (after && (bytes_eq p star || bytes_eq p w))
at_other p w here above after h = cond-false (bytes_eq p hash) (here || above) (after && (bytes_eq p star || bytes_eq p w)) h

-- one word more for `#`
one_more : (p : List ℕ) (ps : Words) (w : List ℕ) (ws : Words) → p ≡ hash → Matches (p ∷ ps) ws → Matches (p ∷ ps) (w ∷ ws)
one_more p ps w ws e m = (w ∷ m.0, m.1, ap (λ xs. w ∷ xs) m.2, inl e, m.4)

-- one word for one word
single : (p w : List ℕ) → (bytes_eq p star || bytes_eq p w) ≡ true → StandsFor p (w ∷ [])
single p w t = ⊎_elim (λ s. inr (w, refl, inl ((bytes_eq-Decides p star).0 s))) (λ s. inr (w, refl, inr ((bytes_eq-Decides p w).0 s))) (or_cases (bytes_eq p star) (bytes_eq p w) t)

word_sound : (p : List ℕ) (ps : Words) → ((ws : Words) → is_match ps ws ≡ true → Matches ps ws) → (ws : Words) → matches_word p (is_match ps) ws ≡ true → Matches (p ∷ ps) ws
word_sound p ps rest_sound [] t =
    let parts = and_parts (is_match ps []) (bytes_eq p hash) t in
    ([], [], refl, inl ((bytes_eq-Decides p hash).0 parts.1), rest_sound [] parts.0)
word_sound p ps rest_sound (w ∷ ws) t =
    let here : Bool = is_match ps (w ∷ ws) in
    let above : Bool = matches_word p (is_match ps) ws in
    let after : Bool = is_match ps ws in
    ⊎_elim
    (λ h. let e = (bytes_eq-Decides p hash).0 h in
    ⊎_elim (λ none. ([], w ∷ ws, refl, inl e, rest_sound (w ∷ ws) none)) (λ more. one_more p ps w ws e (word_sound p ps rest_sound ws more))
    (or_cases here above (sym (at_hash p w here above after h) ∙ t)))
    (λ h. let parts = and_parts after (bytes_eq p star || bytes_eq p w) (sym (at_other p w here above after h) ∙ t) in
    (w ∷ [], ws, refl, single p w parts.1, rest_sound ws parts.0))
    (cases_Bool (bytes_eq p hash))

pub sound : (ps ws : Words) → is_match ps ws ≡ true → Matches ps ws
sound [] [] t = refl
sound [] (w ∷ ws) t = cc
sound (p ∷ ps) ws t = word_sound p ps (sound ps) ws t

-- `#` stands for no word too
none_for_hash : (p : List ℕ) (rest : Words → Bool) (ws : Words) → bytes_eq p hash ≡ true → rest ws ≡ true → matches_word p rest ws ≡ true
none_for_hash p rest [] h r = and_from (rest []) (bytes_eq p hash) r h
none_for_hash p rest (w ∷ ws) h r =
    at_hash p w (rest (w ∷ ws)) (matches_word p rest ws) (rest ws) h ∙ or_left (rest (w ∷ ws)) (matches_word p rest ws) r

any_for_hash : (p : List ℕ) (rest : Words → Bool) (first ws : Words) → bytes_eq p hash ≡ true → rest ws ≡ true → matches_word p rest (first ++ ws) ≡ true
any_for_hash p rest [] ws h r = none_for_hash p rest ws h r
any_for_hash p rest (w ∷ first) ws h r =
    at_hash p w (rest (w ∷ (first ++ ws))) (matches_word p rest (first ++ ws)) (rest (first ++ ws)) h
    ∙ or_right (rest (w ∷ (first ++ ws))) (matches_word p rest (first ++ ws)) (any_for_hash p rest first ws h r)

one_for_one : (p w : List ℕ) (rest : Words → Bool) (ws : Words) → (bytes_eq p star || bytes_eq p w) ≡ true → rest ws ≡ true → matches_word p rest (w ∷ ws) ≡ true
one_for_one p w rest ws t r =
    let here : Bool = rest (w ∷ ws) in
    let above : Bool = matches_word p rest ws in
    ⊎_elim
    (λ h. at_hash p w here above (rest ws) h ∙ or_right here above (none_for_hash p rest ws h r))
    (λ h. at_other p w here above (rest ws) h ∙ and_from (rest ws) (bytes_eq p star || bytes_eq p w) r t)
    (cases_Bool (bytes_eq p hash))

-- the word stands for these, and the rest matches: so both do
word_complete : (p : List ℕ) (rest : Words → Bool) (first ws : Words) → StandsFor p first → rest ws ≡ true → matches_word p rest (first ++ ws) ≡ true
word_complete p rest first ws (inl e) r = any_for_hash p rest first ws ((bytes_eq-Decides p hash).1 e) r
word_complete p rest first ws (inr one) r =
    let w : List ℕ = one.0 in
    let t : (bytes_eq p star || bytes_eq p w) ≡ true
    = ⊎_elim (λ s. or_left (bytes_eq p star) (bytes_eq p w) ((bytes_eq-Decides p star).1 s)) (λ s. or_right (bytes_eq p star) (bytes_eq p w) ((bytes_eq-Decides p w).1 s)) one.2 in
    ap (λ xs. matches_word p rest (xs ++ ws)) one.1 ∙ one_for_one p w rest ws t r

pub complete : (ps ws : Words) → Matches ps ws → is_match ps ws ≡ true
complete [] ws e = ap (is_match []) e
complete (p ∷ ps) ws m =
    ap (matches_word p (is_match ps)) m.2 ∙ word_complete p (is_match ps) m.0 m.1 m.3 (complete ps m.1 m.4)

-- the contract of the whole
pub exactly : {E : Type 0} (pattern key : List ℕ) (ps ws : Words) (result : Result Bool E) → ps ≡ words pattern → ws ≡ words key → IfOk result (λ b. b ≡ is_match ps ws)
    → IfOk result (λ b. IsTrue b ↔ Matches (words pattern) (words key))
exactly pattern key ps ws (Ok b) p k e =
    let same : b ≡ is_match (words pattern) (words key) = e ∙ ap (λ x. is_match x ws) p ∙ ap (λ x. is_match (words pattern) x) k in
    ((λ t. sound (words pattern) (words key) (sym same ∙ t)), (λ m. same ∙ complete (words pattern) (words key) m))
exactly pattern key ps ws (Err x) p k e = tt

-- a text that has octets has the words that its dots part
pub words_split : (text : List ℕ) → (length text == 0) ≡ false → slice_split (λ octet. octet == 46) text ≡ words text
words_split [] e = cc
words_split (octet ∷ octets) e = refl

-- before any word is taken
start_long : (key : Words) → length (replicate (length key) false ++ true ∷ []) ≡ length key + 1
start_long [] = refl
start_long (w ∷ key) = omega (arith, start_long key)

start_at : (key : Words) (n : ℕ) → n ≤ length key → get_or (replicate (length key) false ++ true ∷ []) n false ≡ is_match [] (drop n key)
start_at [] zero le = refl
start_at [] (suc n) le = absurd (omega arith)
start_at (w ∷ key) zero le = refl
start_at (w ∷ key) (suc n) le = start_at key n (omega arith)

pub start_row : (key : Words) → IsRow [] key (replicate (length key) false ++ true ∷ [])
start_row key = (start_long key, start_at key)

-- a word that is lent, and those after it
pub drop_lent : (ws : List (Bor (List ℕ))) (n m : ℕ) (d : Bor (List ℕ)) → m ≡ n + 1 → n < length ws → drop n (lent ws) ≡ (get_or ws n d).now ∷ drop m (lent ws)
drop_lent [] n m d e lt = absurd (omega arith)
drop_lent (w ∷ ws) zero m d e lt =
    let one : m ≡ suc zero = e in
    rw one refl
drop_lent (w ∷ ws) (suc n) m d e lt =
    let more : m ≡ suc (n + 1) = omega arith in
    rw more (drop_lent ws n (n + 1) d refl (omega arith))

-- a word more is taken: the row at n
here_more : (word : List ℕ) (ps key : Words) (w : List ℕ) (n m : ℕ) (here above after b : Bool) → drop n key ≡ w ∷ drop m key → here ≡ is_match ps (drop n key) → above ≡ is_match (word ∷ ps) (drop m key) → after ≡ is_match ps (drop m key)
    → b ≡ word_match word w here above after → b ≡ is_match (word ∷ ps) (drop n key)
here_more word ps key w n m here above after b split h a f e =
    let in_parts : is_match (word ∷ ps) (drop n key) ≡ word_match word w (is_match ps (drop n key)) above after
    = ap (is_match (word ∷ ps)) split ∙ ap (λ x. word_match word w x (is_match (word ∷ ps) (drop m key)) (is_match ps (drop m key))) (ap (is_match ps) (sym split))
    ∙ ap (λ x. word_match word w (is_match ps (drop n key)) x (is_match ps (drop m key))) (sym a) ∙ ap (λ x. word_match word w (is_match ps (drop n key)) above x) (sym f) in
    e ∙ ap (λ x. word_match word w x above after) h ∙ sym in_parts

after_other : (k n m : ℕ) → m ≡ n + 1 → n ≤ k → (k ≡ n → ⊥) → m ≤ k
after_other k n m next from other = omega arith

pub row_more : (word : List ℕ) (ps key : Words) (old row : List Bool) (w : List ℕ) (n m : ℕ) (b : Bool) → m ≡ n + 1 → m ≤ length key → length row ≡ length key + 1 → IsRow ps key old → drop n key ≡ w ∷ drop m key
    → b ≡ word_match word w (get_or old n false) (get_or row m false) (get_or old m false)
    → ((k : ℕ) → m ≤ k → k ≤ length key → get_or row k false ≡ is_match (word ∷ ps) (drop k key))
    → (k : ℕ) → n ≤ k → k ≤ length key → get_or (set row n b) k false ≡ is_match (word ∷ ps) (drop k key)
row_more word ps key old row w n m b next within long is_row split b_is later k from upto =
    ⊎_elim
    (λ same. ap (λ x. get_or (set row n b) x false) same ∙ get_or-set_same row n b false (omega arith)
    ∙ here_more word ps key w n m (get_or old n false) (get_or row m false) (get_or old m false) b split (is_row.1 n (omega arith)) (later m (omega arith) within) (is_row.1 m within) b_is
    ∙ ap (λ x. is_match (word ∷ ps) (drop x key)) (sym same))
    (λ other. get_or-set_other row n k b false other ∙ later k (after_other k n m next from other) upto)
    (cases_eq k n)

-- what `take_word` wrote, in the vector
pub row_back : (len : ℕ) (new old : List Bool) → length new ≡ len → length old ≡ len → take len (new ++ drop (length new) old) ≡ new
row_back len new old n o =
    let none : drop (length new) old ≡ [] = drop_all (length new) old (omega arith) in
    ap (λ x. take len (new ++ x)) none ∙ ap (take len) (append-nil new) ∙ take_all len new (omega arith)
