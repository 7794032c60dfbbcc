-- What is pushed onto the lists of a ledger, in the words of the model.
use Rattle.std.proofs.Common.{◌≡◌, ◌<◌, ◌==◌, cond, Bool, true, false, ℕ, zero, suc, List, [], ◌∷◌, ◌++◌, map, replicate, Option, refl, ap, sym, ◌∙◌, arith}
use Rattle.std.proofs.lemmas.List.{append_assoc, map-append}
use Rattle.amqp_model.specs.Wire.Items.{Item}
use Rattle.amqp_model.specs.Wire.Notes.{Role}
use Rattle.amqp_model.specs.Stream.Traces.{IsPut, Noted, Other, telling_above, telling_at}
use Rattle.amqp_channel.specs.Roles.{role_of}
use Rattle.amqp_channel.specs.declared.side.Side.{Side}
use Rattle.amqp_core.specs.Traced.CountView.{lives_view}
use Rattle.amqp_core.specs.Traced.CountsLives.{CountsLives}
use Rattle.amqp_core.specs.Traced.LifeCounts.{LifeCount, after_word, counted_lives, count_with, no_lives}
use Rattle.amqp_core.specs.Traced.Notes.{note_view, noted_as}
use Rattle.amqp_core.specs.declared.lives.Lives.{Lives}
use Rattle.amqp_core.specs.declared.notes.Note.{Note}
use Rattle.amqp_core.proofs.LifeCountLemmas.{counted-last}

pub mapped-last : {A B : Type 0} (f : A → B) (items new : List A) (item : A) → new ≡ items ++ item ∷ [] → map f new ≡ map f items ++ f item ∷ []
mapped-last f items new item e = ap (map f) e ∙ map-append f items (item ∷ [])

count_is : (side : Side) (notes : List Note) (kept : Lives) (channel : ℕ) → CountsLives side notes kept → lives_view kept channel ≡ counted_lives (role_of side) channel (map note_view notes)
count_is side notes kept channel counts = λ i. record { lives = counts.lives channel i; waits = counts.waits channel i }

count_then : (side : Side) (notes items : List Note) (note : Note) (old new : Lives) (channel : ℕ) → CountsLives side notes old
    → lives_view new channel ≡ count_with (role_of side) channel (note_view note) (lives_view old channel) → items ≡ notes ++ note ∷ []
    → lives_view new channel ≡ counted_lives (role_of side) channel (map note_view items)
count_then side notes items note old new channel counts step items_are =
    step
    ∙ (ap (count_with (role_of side) channel (note_view note)) (count_is side notes old channel counts)
    ∙ (sym (counted-last (role_of side) channel no_lives (map note_view notes) (note_view note)) ∙ ap (counted_lives (role_of side) channel) (sym (mapped-last note_view notes items note items_are))))

-- one more note is counted
pub counts-note : (side : Side) (notes items : List Note) (note : Note) (old new : Lives) → CountsLives side notes old
    → ((channel : ℕ) → lives_view new channel ≡ count_with (role_of side) channel (note_view note) (lives_view old channel)) → items ≡ notes ++ note ∷ []
    → CountsLives side items new
counts-note side notes items note old new counts step items_are = record {
  lives = λ channel. ap (λ (c : LifeCount). c.lives) (count_then side notes items note old new channel counts (step channel) items_are);
  waits = λ channel. ap (λ (c : LifeCount). c.waits) (count_then side notes items note old new channel counts (step channel) items_are);
}

-- a frame that changes nothing of a life
other_counts : (role : Role) (count : LifeCount) (zero here : Bool) → cond here (after_word role IsPut (cond zero Other Other) count) count ≡ count
other_counts role count true true = refl
other_counts role count true false = refl
other_counts role count false true = refl
other_counts role count false false = refl

-- is noted, and nothing is counted
pub counts-other : (side : Side) (notes items : List Note) (note : Note) (number : ℕ) (kept : Lives) → CountsLives side notes kept
    → note_view note ≡ noted_as IsPut number Other → items ≡ notes ++ note ∷ [] → CountsLives side items kept
counts-other side notes items note number kept counts is items_are =
    counts-note side notes items note kept kept counts
    (λ channel. sym (ap (λ n. count_with (role_of side) channel n (lives_view kept channel)) is ∙ other_counts (role_of side) (lives_view kept channel) (number == 0) (number == channel)))
    items_are

-- so many notes, one after another
pub one-more : (count : ℕ) (before : List Noted) (note : Noted) (after all : List Noted) → after ≡ before ++ note ∷ [] → all ≡ after ++ replicate count note → all ≡ before ++ replicate (suc count) note
one-more count before note after all step rest = rest ∙ (ap (λ xs. xs ++ replicate count note) step ∙ append_assoc before (note ∷ []) (replicate count note))

-- a channel above 0
pub above-is : (channel life : ℕ) (item : Option Item) → 0 < channel → telling_above channel life item ≡ telling_at channel life item
above-is zero life item h = absurd (omega (arith, h))
above-is (suc n) life item h = refl
