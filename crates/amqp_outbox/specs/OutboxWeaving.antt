-- Frames that are put into a row in one pass, each after so many of the row's frames.
use Rattle.std.specs.Prelude.{◌≡◌, ℕ, ◌+◌, ◌≤◌, List, [], ◌∷◌, ◌++◌, length, map, take, drop, All}
use Rattle.amqp_frame.specs.Frame.{Frame}
use Rattle.amqp_frame.specs.Splitting.{stream}
use Rattle.amqp_model.specs.Output.Arrangement.{IsArranged, HasChannel, placed_all}
use Rattle.amqp_outbox.specs.OutboxSlots.{slot_of, slots_in}
use Rattle.amqp_outbox.specs.OutboxLaps.{laps_in, laps_of}
use Rattle.amqp_outbox.specs.declared.slots.Slot.{Slot}
use Rattle.amqp_outbox.specs.declared.slots.Waiting.{Waiting}
use Rattle.amqp_outbox.specs.declared.weaving.Coming.{Coming}
use Rattle.amqp_outbox.specs.declared.weaving.Ends.{Ends}

-- each item stands at its place among those of a row, of which these from one on are looked at
abbrev pub woven : {X : Type 0} → (from : ℕ) → (places : List ℕ) → (items row : List X) → List X
woven from [] items row = drop from row
woven from (place ∷ places) [] row = drop from row
woven from (place ∷ places) (item ∷ items) row = drop from (take place row) ++ item ∷ woven place places items row

-- places, none of them before the one before it, from one on and up to an end
abbrev pub Follow : (from end : ℕ) → (places : List ℕ) → Type 0
Follow from end [] = from ≤ end
Follow from end (place ∷ places) = (from ≤ place) × Follow place end places

-- the places of frames that are coming, their slots with their laps, and their slots alone
abbrev pub places_of : List Coming → List ℕ
places_of coming = map (λ (c : Coming). c.place) coming

abbrev pub waiting_of : List Coming → List Waiting
waiting_of coming = map (λ (c : Coming). c.waiting) coming

abbrev pub slots_of : List Coming → List Slot
slots_of coming = slots_in (waiting_of coming)

-- A row in which frames stand at their places is the one that putting one after another makes, and each has its lap.
pub record AreWoven (lap last : ℕ) (slots : List Waiting) (coming : List Coming) (frames row : List Frame) : Type 0 where
  pub row_is : placed_all last frames row ≡ woven 0 (places_of coming) frames row
  pub arranged : IsArranged last (woven 0 (places_of coming) frames row)
  pub channels : All HasChannel (woven 0 (places_of coming) frames row)
  pub laps_are :
      laps_of lap last (map slot_of (woven 0 (places_of coming) frames row))
      ≡ woven 0 (places_of coming) (laps_in (waiting_of coming)) (laps_in slots)

-- These are the first of the frames that are staged, and their places in a row.
pub record ArePlaced (lap last : ℕ) (slots staged : List Waiting) (coming : List Coming) : Type 0 where
  pub few : length coming ≤ length staged
  pub slots_are : slots_of coming ≡ take (length coming) (slots_in staged)
  pub follow : Follow 0 (length slots) (places_of coming)
  pub woven_are :
      (frames row : List Frame) → slots_in staged ≡ map slot_of frames → slots_in slots ≡ map slot_of row
      → IsArranged last row → All HasChannel row → All HasChannel frames
      → AreWoven lap last slots coming (take (length coming) frames) row

-- Frames that stand after a row are put among its own: their octets, so many in all, stand at their places, and the rest
-- of the frame that is begun still stands before the row. The octets that are written may be fewer than before.
pub record WeavesIn (old new : Ends) (row : List Waiting) (coming : List Coming) (total : ℕ)
    (octets result : List ℕ) : Type 0 where
  pub written : new.written ≤ length result
  pub begun : new.begun + old.written ≡ new.written + old.begun
  pub arranged : new.arranged + old.written ≡ new.written + (old.arranged + total)
  pub octets_are :
      (ahead after : List ℕ) (rows puts : List Frame)
      → slots_in row ≡ map slot_of rows → slots_of coming ≡ map slot_of puts → old.written + length ahead ≡ old.begun
      → drop old.written octets ≡ ahead ++ (stream rows ++ (stream puts ++ after))
      → drop new.written result ≡ ahead ++ (stream (woven 0 (places_of coming) puts rows) ++ after)
