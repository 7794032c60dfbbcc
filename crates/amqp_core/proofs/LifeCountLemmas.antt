-- What is counted of the notes of a history is what the lives of its channels are.
use Rattle.std.proofs.Common.{◌≡◌, ◌≤◌, ◌+◌, ◌==◌, cond, Bool, true, false, ℕ, suc, List, [], ◌∷◌, ◌++◌, length, refl, ap, ◌∙◌, arith}
use Rattle.std.proofs.lemmas.Bool.Decides.{nat_tests}
use Rattle.amqp_model.specs.Wire.Frame.{Frame}
use Rattle.amqp_model.specs.History.Histories.{Put, Took, History, closes_connection}
use Rattle.amqp_model.specs.History.Lives.{lives, waits}
use Rattle.amqp_model.specs.Laws.EndLaws.{notes_on}
use Rattle.amqp_model.specs.Wire.Notes.{Role, Kind, Note}
use Rattle.amqp_model.specs.Wire.Readings.{reading, kind_of}
use Rattle.amqp_model.specs.Pair.Sent.{life_on}
use Rattle.amqp_model.specs.Stream.Traces.{Word, Other, IsPut, IsTaken, Noted, noted, trace, word_of}
use Rattle.amqp_core.specs.Traced.LifeCounts.{LifeCount, no_lives, begins_life, after_word, count_with, counted_from, counted_lives}

-- what the notes of a channel count to, the newest first
abbrev count_of : Role → List Note → LifeCount
count_of role before = record { lives = lives role before; waits = waits before }

pub counted-last : (role : Role) (channel : ℕ) (count : LifeCount) (earlier : List Noted) (note : Noted) → counted_from role channel count (earlier ++ note ∷ []) ≡ count_with role channel note (counted_from role channel count earlier)
counted-last role channel count [] note = refl
counted-last role channel count (first ∷ earlier) note = counted-last role channel (count_with role channel first count) earlier note

put_counts : (role : Role) (kind : Kind) (frame : Frame) (before : List Note) → after_word role IsPut (word_of kind) (count_of role before) ≡ count_of role (Note.Put kind frame ∷ before)
put_counts role Kind.Open frame before = refl
put_counts role Kind.OpenOk frame before = refl
put_counts role Kind.Close frame before = refl
put_counts role Kind.CloseOk frame before = refl
put_counts role (Kind.Flow active) frame before = refl
put_counts role (Kind.FlowOk active) frame before = refl
put_counts role (Kind.Other begins) frame before = refl

taken_counts : (role : Role) (kind : Kind) (frame : Frame) (before : List Note) → after_word role IsTaken (word_of kind) (count_of role before) ≡ count_of role (Note.Took kind frame ∷ before)
taken_counts role Kind.Open frame before = refl
taken_counts role Kind.OpenOk frame before = refl
taken_counts role Kind.Close frame before = refl
taken_counts role Kind.CloseOk frame before = refl
taken_counts role (Kind.Flow active) frame before = refl
taken_counts role (Kind.FlowOk active) frame before = refl
taken_counts role (Kind.Other begins) frame before = refl

above : (channel n : ℕ) → (channel == suc n) ≡ true → (channel == 0) ≡ false
above channel n e = grind (arith, nat_tests)

word_above : (channel n : ℕ) (word : Word) → (channel == suc n) ≡ true → cond (channel == 0) Other word ≡ word
word_above channel n word e = ap (λ b. cond b Other word) (above channel n e)

-- a frame that is put, on this channel or on another one
put_here : (role : Role) (n : ℕ) (frame : Frame) (before : History) (here closes : Bool) → (frame.channel == suc n) ≡ here → closes_connection frame ≡ closes
    → count_with role (suc n) (noted IsPut frame) (count_of role (notes_on (suc n) before)) ≡ count_of role (notes_on (suc n) (Put frame ∷ before))
put_here role n frame before true closes e k =
    rw e (ap (λ w. after_word role IsPut w (count_of role (notes_on (suc n) before))) (word_above frame.channel n (word_of (kind_of (reading frame))) e) ∙ put_counts role (kind_of (reading frame)) frame (notes_on (suc n) before))
put_here role n frame before false true e k = rw (e, k) refl
put_here role n frame before false false e k = rw (e, k) refl

taken_here : (role : Role) (n : ℕ) (frame : Frame) (before : History) (here : Bool) → (frame.channel == suc n) ≡ here
    → count_with role (suc n) (noted IsTaken frame) (count_of role (notes_on (suc n) before)) ≡ count_of role (notes_on (suc n) (Took frame ∷ before))
taken_here role n frame before true e =
    rw e (ap (λ w. after_word role IsTaken w (count_of role (notes_on (suc n) before))) (word_above frame.channel n (word_of (kind_of (reading frame))) e) ∙ taken_counts role (kind_of (reading frame)) frame (notes_on (suc n) before))
taken_here role n frame before false e = rw e refl

pub counted-trace : (role : Role) (n : ℕ) (history : History) → counted_lives role (suc n) (trace history) ≡ count_of role (notes_on (suc n) history)
counted-trace role n [] = refl
counted-trace role n (Put frame ∷ before) =
    counted-last role (suc n) no_lives (trace before) (noted IsPut frame)
    ∙ (ap (count_with role (suc n) (noted IsPut frame)) (counted-trace role n before) ∙ put_here role n frame before (frame.channel == suc n) (closes_connection frame) refl refl)
counted-trace role n (Took frame ∷ before) =
    counted-last role (suc n) no_lives (trace before) (noted IsTaken frame)
    ∙ (ap (count_with role (suc n) (noted IsTaken frame)) (counted-trace role n before) ∙ taken_here role n frame before (frame.channel == suc n) refl)

-- the life of the newest note of a channel, by the notes alone
pub life-counted : (role : Role) (n : ℕ) (history : History) → (counted_lives role (suc n) (trace history)).lives ≡ life_on role (suc n) history
life-counted role n history = ap (λ (c : LifeCount). c.lives) (counted-trace role n history)

-- There are no more lives than notes.

step_most : (begins : Bool) (lives : ℕ) → cond begins (suc lives) lives ≤ suc lives
step_most true lives = omega arith
step_most false lives = omega arith

with_most : (role : Role) (channel : ℕ) (note : Noted) (count : LifeCount) (here : Bool) → (cond here (after_word role note.direction note.word count) count).lives ≤ suc count.lives
with_most role channel note count true = step_most (begins_life role note.direction note.word count.waits) count.lives
with_most role channel note count false = omega arith

most_from : (role : Role) (channel : ℕ) (count : LifeCount) (all : List Noted) (past : ℕ) → count.lives ≤ past → (counted_from role channel count all).lives ≤ past + length all
most_from role channel count [] past h = omega (arith, h)
most_from role channel count (note ∷ later) past h =
    let step = with_most role channel note count (note.channel == channel) in
    let later_most = most_from role channel (count_with role channel note count) later (suc past) (omega (arith, h, step)) in
    omega (arith, later_most)

pub lives-most : (role : Role) (channel : ℕ) (all : List Noted) → (counted_lives role channel all).lives ≤ length all
lives-most role channel all = let most = most_from role channel no_lives all 0 (omega arith) in omega (arith, most)
