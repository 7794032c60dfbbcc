-- Lists, and the messages in a list of notes with their lives.
use Rattle.std.proofs.Common.{◌≡◌, ℕ, zero, suc, List, [], ◌∷◌, ◌++◌, Some, ◌⊎◌, inl, inr, Bool}
use Rattle.std.proofs.Common.{true, false, cond, ◌&&◌, refl, ap, ◌∙◌, append_assoc, append-nil, slice_get}
use Rattle.std.proofs.Common.{◌==◌}
use Rattle.amqp_model.specs.Wire.Frame.{Frame}
use Rattle.amqp_model.specs.Wire.Notes.{Kind, is_message}
use Rattle.amqp_model.specs.Pair.Carried.{NoteInLife, At, messages}
use Rattle.amqp_model.specs.Output.Prefixes.{IsPrefixOf}

pub slice_get_front : {A : Type 0} (xs ys : List A) (i : ℕ) (x : A) → slice_get xs i ≡ Some x
    → slice_get (xs ++ ys) i ≡ Some x
slice_get_front [] ys i x e = absurd cc
slice_get_front (y ∷ xs) ys zero x e = e
slice_get_front (y ∷ xs) ys (suc i) x e = slice_get_front xs ys i x e

pub prefix_none : {A : Type 0} (xs : List A) → IsPrefixOf xs [] → xs ≡ []
prefix_none [] f = refl
prefix_none (x ∷ xs) f = absurd (let e = f.1 in cc)

pub prefix_more : {A : Type 0} (xs ys zs : List A) → IsPrefixOf xs ys → IsPrefixOf xs (ys ++ zs)
prefix_more xs ys zs f = (f.0 ++ zs, ap (λ l. l ++ zs) f.1 ∙ append_assoc xs f.0 zs)

-- where a list with one more element at its end has a given element
pub snoc_cases : {A : Type 0} (prefix : List A) (c : A) (back xs : List A) (x : A)
    → xs ++ x ∷ [] ≡ prefix ++ c ∷ back → ((back ≡ []) × (x ≡ c) × (xs ≡ prefix))
    ⊎ ((back' : List A) × (back ≡ back' ++ x ∷ []) × (xs ≡ prefix ++ c ∷ back'))
snoc_cases [] c back [] x e = inl (cc, cc, refl)
snoc_cases [] c back (y ∷ xs) x e =
    let h : back ≡ xs ++ x ∷ [] = cc in
    let k : y ≡ c = cc in
    inr (xs, h, ap (λ z. z ∷ xs) k)
snoc_cases (y ∷ []) c back [] x e = absurd (let h : [] ≡ c ∷ back = cc in cc)
snoc_cases (y ∷ z ∷ prefix) c back [] x e = absurd (let h : [] ≡ z ∷ (prefix ++ c ∷ back) = cc in cc)
snoc_cases {A} (y ∷ prefix) c back (z ∷ xs) x e = more (snoc_cases prefix c back xs x cc)
  where
    more : ((back ≡ []) × (x ≡ c) × (xs ≡ prefix)) ⊎ ((back' : List A) × (back ≡ back' ++ x ∷ [])
        × (xs ≡ prefix ++ c ∷ back')) → ((back ≡ []) × (x ≡ c) × (z ∷ xs ≡ y ∷ prefix))
        ⊎ ((back' : List A) × (back ≡ back' ++ x ∷ []) × (z ∷ xs ≡ (y ∷ prefix) ++ c ∷ back'))
    more (inl h) = inl (h.0, h.1, (let k : xs ≡ prefix = h.2 in cc))
    more (inr h) = inr (h.0, h.1, (let k : xs ≡ prefix ++ c ∷ h.0 = h.2 in cc))

pub messages-append : (life : ℕ) (xs ys : List NoteInLife)
    → messages life (xs ++ ys) ≡ messages life xs ++ messages life ys
messages-append life [] ys = refl
messages-append life (At kind n frame ∷ xs) ys = more (is_message kind && (n == life)) (messages-append life xs ys)
  where
    more : (b : Bool) → messages life (xs ++ ys) ≡ messages life xs ++ messages life ys
        → cond b (frame ∷ messages life (xs ++ ys)) (messages life (xs ++ ys))
        ≡ cond b (frame ∷ messages life xs) (messages life xs) ++ messages life ys
    more true e = ap (λ l. frame ∷ l) e
    more false e = e

-- one more note that is no message
pub messages_other : (life : ℕ) (xs : List NoteInLife) (kind : Kind) (n : ℕ) (frame : Frame)
    → is_message kind ≡ false → messages life (xs ++ At kind n frame ∷ []) ≡ messages life xs
messages_other life xs kind n frame e =
    messages-append life xs _ ∙ (ap (λ l. messages life xs ++ l) (simp e) ∙ append-nil _)

-- one more note of another life
pub messages_elsewhere : (life : ℕ) (xs : List NoteInLife) (kind : Kind) (n : ℕ) (frame : Frame)
    → (n == life) ≡ false → messages life (xs ++ At kind n frame ∷ []) ≡ messages life xs
messages_elsewhere life xs kind n frame e =
    messages-append life xs _ ∙ (ap (λ l. messages life xs ++ l) (none (is_message kind)) ∙ append-nil _)
  where
    none : (b : Bool) → cond (b && (n == life)) (frame ∷ []) [] ≡ []
    none true = simp e
    none false = refl
