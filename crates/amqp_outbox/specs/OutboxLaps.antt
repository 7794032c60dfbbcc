-- In which lap a frame's turn comes. The writer goes round the channels again and again, 1 to 65535, and each time is a
-- lap: within a lap the frames of a row stand in the order of their channels.
use Rattle.std.specs.Prelude.{◌≡◌, ℕ, suc, ◌+◌, ◌*◌, Bool, true, cond, ◌==◌, nat_lt, List, [], ◌∷◌, ◌++◌, map, take, drop, All}
use Rattle.amqp_frame.specs.Frame.{Frame}
use Rattle.amqp_model.specs.Output.Arrangement.{IsArranged, HasChannel}
use Rattle.amqp_outbox.specs.OutboxSlots.{slot_of, slot_last}
use Rattle.amqp_outbox.specs.declared.slots.Slot.{Slot}
use Rattle.amqp_outbox.specs.declared.slots.Waiting.{Waiting}

-- the lap of the writer once the frame is begun, where it stood in a lap at LAST: channel 0 doesn't move it
abbrev pub lap_after : (lap last : ℕ) → Slot → ℕ
lap_after lap last slot = cond (slot.channel == 0) lap (cond (nat_lt last slot.channel) lap (suc lap))

-- the lap that is kept of a frame, 0 on channel 0
abbrev pub slot_lap : (lap last : ℕ) → Slot → ℕ
slot_lap lap last slot = cond (slot.channel == 0) 0 (lap_after lap last slot)

-- the laps that are kept of frames that wait
abbrev pub laps_in : List Waiting → List ℕ
laps_in row = map (λ (waiting : Waiting). waiting.lap) row

-- what is kept for the laps of frames that are staged
abbrev pub no_laps : List Frame → List ℕ
no_laps frames = map (λ (f : Frame). 0) frames

-- the laps of the frames of a row
abbrev pub laps_of : (lap last : ℕ) → List Slot → List ℕ
laps_of lap last [] = []
laps_of lap last (slot ∷ later) = slot_lap lap last slot ∷ laps_of (lap_after lap last slot) (slot_last last slot) later

-- the lap of the writer once these frames are begun in turn
abbrev pub laps_last : (lap last : ℕ) → List Slot → ℕ
laps_last lap last [] = lap
laps_last lap last (slot ∷ later) = laps_last (lap_after lap last slot) (slot_last last slot) later

-- when a channel's turn comes in a lap: channels and laps counted on together
abbrev pub moment : (lap channel : ℕ) → ℕ
moment lap channel = lap * 65535 + channel

-- whether a frame of a row has its turn after a moment
abbrev pub is_after : (moment : ℕ) → Slot → (lap : ℕ) → Bool
is_after at slot lap = cond (slot.channel == 0) slot.leaving (nat_lt at (moment lap slot.channel))

-- how many frames of a row stand before the first that has its turn after a moment
abbrev pub count_until : (moment : ℕ) → List Slot → (laps : List ℕ) → ℕ
count_until at [] laps = 0
count_until at (slot ∷ later) [] = 0
count_until at (slot ∷ later) (lap ∷ laps) = cond (is_after at slot lap) 0 (suc (count_until at later laps))

-- all frames of a row have their turn after a moment
abbrev pub AllAfter : (moment : ℕ) → List Slot → (laps : List ℕ) → Type 0
AllAfter at [] laps = Unit {0}
AllAfter at (slot ∷ later) [] = Unit {0}
AllAfter at (slot ∷ later) (lap ∷ laps) = (is_after at slot lap ≡ true) × AllAfter at later laps

-- where a frame of a row has its turn after a moment, all later ones have
abbrev pub AreInOrder : (moment : ℕ) → List Slot → (laps : List ℕ) → Type 0
AreInOrder at [] laps = Unit {0}
AreInOrder at (slot ∷ later) [] = Unit {0}
AreInOrder at (slot ∷ later) (lap ∷ laps) =
    (is_after at slot lap ≡ true → AllAfter at later laps) × AreInOrder at later laps

-- a number is the count, in a row that is in order
abbrev pub Counts : (moment count : ℕ) → List Slot → (laps : List ℕ) → Type 0
Counts at count slots laps = AreInOrder at slots laps → count ≡ count_until at slots laps

-- a slot takes a lap at a place in a row, and the others keep theirs
abbrev pub TakesLap : (its lap last place : ℕ) → Slot → List Slot → Type 0
TakesLap its lap last place slot slots =
    laps_of lap last (take place slots ++ slot ∷ drop place slots)
    ≡ take place (laps_of lap last slots) ++ its ∷ drop place (laps_of lap last slots)

-- the lap of a frame that is put at a place in a row
abbrev pub IsLap : (lap last : ℕ) → Slot → List Slot → (place its : ℕ) → Type 0
IsLap lap last slot slots place its =
    (f : Frame) (row : List Frame) → slot_of f ≡ slot → map slot_of row ≡ slots → IsArranged last row → All HasChannel row
    → TakesLap its lap last place slot slots
