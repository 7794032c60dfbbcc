-- What the outbox keeps of a frame beside its octets, and what of a row can be read off that alone.
use Rattle.std.specs.Prelude.{◌≡◌, ℕ, suc, ◌+◌, ◌-◌, cond, ◌==◌, nat_lt, ◌⊎◌, List, [], ◌∷◌, ◌++◌, length, map, take, drop, All}
use Rattle.amqp_frame.specs.Frame.{Frame}
use Rattle.amqp_model.specs.Output.Arrangement.{is_leaving, steps, IsArranged, HasChannel, placed}
use Rattle.amqp_outbox.specs.declared.slots.Slot.{Slot}
use Rattle.amqp_outbox.specs.declared.slots.Waiting.{Waiting}

abbrev pub slot_of : Frame → Slot
slot_of f = record { size = length f.payload; channel = f.channel; kind = f.kind; leaving = is_leaving f }

-- the slots of frames that wait
abbrev pub slots_in : List Waiting → List Slot
slots_in row = map (λ (waiting : Waiting). waiting.slot) row

-- how many octets the frame has
abbrev pub slot_length : Slot → ℕ
slot_length slot = slot.size + 8

-- how many octets frames have together
abbrev pub slots_length : List Slot → ℕ
slots_length [] = 0
slots_length (slot ∷ later) = slot_length slot + slots_length later

-- how many octets the frames of a channel have together
abbrev pub slots_length_on : (channel : ℕ) → List Slot → ℕ
slots_length_on channel [] = 0
slots_length_on channel (slot ∷ later) = cond (slot.channel == channel) (slot_length slot) 0 + slots_length_on channel later

-- the frame that octets begin with, by its slot
abbrev pub frame_in : Slot → (octets : List ℕ) → Frame
frame_in slot octets = record { kind = slot.kind; channel = slot.channel; payload = take slot.size (drop 7 octets) }

-- the frames that octets begin with, by their slots
abbrev pub frames_in : List Slot → (octets : List ℕ) → List Frame
frames_in [] octets = []
frames_in (slot ∷ later) octets = frame_in slot octets ∷ frames_in later (drop (slot_length slot) octets)

-- how long the frame waits for its turn, after LAST
abbrev pub slot_turn : (last : ℕ) → Slot → ℕ
slot_turn last slot = cond slot.leaving 65536 (cond (slot.channel == 0) 0 (steps last slot.channel))

-- LAST, once the frame is begun
abbrev pub slot_last : (last : ℕ) → Slot → ℕ
slot_last last slot = cond (slot.channel == 0) last slot.channel

-- LAST, once these frames are begun in turn
abbrev pub slots_last : (last : ℕ) → List Slot → ℕ
slots_last last [] = last
slots_last last (slot ∷ later) = slots_last (slot_last last slot) later

-- the channel of the last of these frames, begun in turn
abbrev pub slots_begun_on : (begun_on : ℕ) → List Slot → ℕ
slots_begun_on begun_on [] = begun_on
slots_begun_on begun_on (slot ∷ later) = slots_begun_on slot.channel later

-- how many frames of a row are begun, once so many of its octets are written
abbrev pub begun_by : (octets : ℕ) → List Slot → ℕ
begun_by octets [] = 0
begun_by octets (slot ∷ later) = cond (octets == 0) 0 (suc (begun_by (octets - slot_length slot) later))

-- how many slots have their turn no later than a frame, up to the first that has it later; LAST moves with them
abbrev pub turns_before : (last : ℕ) → Slot → List Slot → ℕ
turns_before last slot [] = 0
turns_before last slot (next ∷ later) = cond (nat_lt (slot_turn last slot) (slot_turn last next)) 0 (suc (turns_before (slot_last last next) slot later))

-- none of the slots, or the last of them is of the channel
abbrev pub EndsWithChannel : (channel : ℕ) → List Slot → Type 0
EndsWithChannel channel slots = (slots ≡ []) ⊎ ((before : List Slot) × (slot : Slot) × (slots ≡ before ++ slot ∷ []) × (slot.channel ≡ channel))

-- The place of a frame in a row is after so many of the others.
abbrev pub IsPlace : (last : ℕ) → Slot → List Slot → ℕ → Type 0
IsPlace last slot slots place =
    (f : Frame) (row : List Frame) → slot_of f ≡ slot → map slot_of row ≡ slots → IsArranged last row → All HasChannel row
    → placed last f row ≡ take place row ++ f ∷ drop place row

-- so many items that stand last before an end are moved up to an earlier place
abbrev pub moved_up : {X : Type 0} → (place end count : ℕ) → List X → List X
moved_up place end count items = take place items ++ (drop (end - count) (take end items) ++ (drop place (take (end - count) items) ++ drop end items))

-- So many items that stand at a place are moved before those from an earlier place on. Those from a still earlier place up
-- to there are moved down to make room, over as many items before them, which are lost.
abbrev pub moved_down : {X : Type 0} → (from place at count : ℕ) → List X → List X
moved_down from place at count items =
    take (from - count) items ++ (drop from (take place items) ++ (drop at (take (at + count) items) ++ (drop place (take at items) ++ drop (at + count) items)))
