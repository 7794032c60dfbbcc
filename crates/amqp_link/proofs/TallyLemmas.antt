-- The lives of a channel that a client counts in its history are those that its notes say began.
use Rattle.std.proofs.Common.{◌≡◌, ℕ, suc, ◌+◌, ◌==◌, Bool, true, false, cond, ◌&&◌, List, [], ◌∷◌, ◌++◌, refl, sym, ap, ◌∙◌, arith}
use Rattle.std.proofs.lemmas.Bool.{true≢false, eqb-true, ne_eqb}
use Rattle.amqp_model.specs.Laws.EndLaws.{notes_on}
use Rattle.amqp_model.specs.Wire.Frame.{Frame}
use Rattle.amqp_model.specs.History.Histories.{History, Put, Took, ChannelEntry, PutHere, TookHere, LeftHere, closes_connection, entries_on, notes}
use Rattle.amqp_model.specs.History.Lives.{lives}
use Rattle.amqp_model.specs.Wire.Notes as channel
use Rattle.amqp_model.specs.Wire.Notes.{Client, Kind, Note}
use Rattle.amqp_model.specs.Wire.Readings.{Reading, reading, kind_of}
use Rattle.amqp_model.specs.Stream.Traces as traces
use Rattle.amqp_model.specs.Stream.Traces.{IsPut, IsTaken, Word, noted, trace, word_of}
use Rattle.amqp_link.specs.Tallies.{is_open_word, begins_on, begun_on}
use Rattle.amqp_link.proofs.TallyCounts.{begun-push}

-- a frame that the client puts begins a life if it is an open
put-one : (kind : Kind) (frame : Frame) (before : List Note) → lives Client (channel.Put kind frame ∷ before) ≡ lives Client before + cond (is_open_word (word_of kind)) 1 0
put-one channel.Open frame before = omega arith
put-one channel.OpenOk frame before = omega arith
put-one channel.Close frame before = omega arith
put-one channel.CloseOk frame before = omega arith
put-one (channel.Flow active) frame before = omega arith
put-one (channel.FlowOk active) frame before = omega arith
put-one (channel.Other begins_content) frame before = omega arith

-- and one that it takes begins none
took-one : (kind : Kind) (frame : Frame) (before : List Note) → lives Client (channel.Took kind frame ∷ before) ≡ lives Client before
took-one channel.Open frame before = refl
took-one channel.OpenOk frame before = refl
took-one channel.Close frame before = refl
took-one channel.CloseOk frame before = refl
took-one (channel.Flow active) frame before = refl
took-one (channel.FlowOk active) frame before = refl
took-one (channel.Other begins_content) frame before = refl

-- the same of what its channel and the others see of it
put-seen : (here leaves : Bool) (says : Reading) (frame : Frame) (entries : List ChannelEntry)
    → lives Client (notes (cond here (PutHere says frame ∷ []) (cond leaves (LeftHere ∷ []) []) ++ entries))
    ≡ lives Client (notes entries) + cond (here && is_open_word (word_of (kind_of says))) 1 0
put-seen true leaves says frame entries = put-one (kind_of says) frame (notes entries)
put-seen false true says frame entries = omega arith
put-seen false false says frame entries = omega arith

took-seen : (here : Bool) (says : Reading) (frame : Frame) (entries : List ChannelEntry)
    → lives Client (notes (cond here (TookHere says frame ∷ []) [] ++ entries)) ≡ lives Client (notes entries)
took-seen true says frame entries = took-one (kind_of says) frame (notes entries)
took-seen false says frame entries = refl

and-turned : (a b : Bool) → (a && b) ≡ (b && a)
and-turned true true = refl
and-turned true false = refl
and-turned false true = refl
and-turned false false = refl

-- on a channel above 0 the note of a frame has the word that the frame calls
noted-opens : (on_zero here : Bool) (word : Word) → (here ≡ true → on_zero ≡ false) → (is_open_word (cond on_zero traces.Other word) && here) ≡ (here && is_open_word word)
noted-opens true true word apart = absurd (true≢false (apart refl))
noted-opens false true word apart = and-turned (is_open_word word) true
noted-opens true false word apart = and-turned (is_open_word traces.Other) false
noted-opens false false word apart = and-turned (is_open_word word) false

put-begins : (n : ℕ) (frame : Frame) → begins_on (suc n) (noted IsPut frame) ≡ ((frame.channel == suc n) && is_open_word (word_of (kind_of (reading frame))))
put-begins n frame =
    noted-opens (frame.channel == 0) (frame.channel == suc n) (word_of (kind_of (reading frame)))
    (λ here. ne_eqb frame.channel 0 (λ none. let same = eqb-true frame.channel (suc n) here in omega arith))

-- A client has noted as many opens of a channel above 0 as the channel has had lives.
pub begun-is-lives : (history : History) (n : ℕ) → begun_on (suc n) (trace history) ≡ lives Client (notes_on (suc n) history)
begun-is-lives [] n = refl
begun-is-lives (Put frame ∷ before) n =
    begun-push (suc n) (trace before) (noted IsPut frame)
    ∙ (ap (λ m. m + cond (begins_on (suc n) (noted IsPut frame)) 1 0) (begun-is-lives before n)
    ∙ (ap (λ b. lives Client (notes_on (suc n) before) + cond b 1 0) (put-begins n frame)
    ∙ sym (put-seen (frame.channel == suc n) (closes_connection frame) (reading frame) frame (entries_on (suc n) before))))
begun-is-lives (Took frame ∷ before) n =
    begun-push (suc n) (trace before) (noted IsTaken frame)
    ∙ (omega arith
    ∙ (begun-is-lives before n ∙ sym (took-seen (frame.channel == suc n) (reading frame) frame (entries_on (suc n) before))))
