-- What the fields of an outbox stand for.
use Rattle.std.specs.Prelude.{◌≡◌, ◌+◌, ◌-◌, ◌^◌, ◌<◌, ◌≤◌, ℕ, List, ◌++◌, length, map, take, drop, vec_capacity, All}
use Rattle.amqp_frame.specs.Frame.{Frame}
use Rattle.amqp_frame.specs.Splitting.{stream}
use Rattle.amqp_model.specs.Output.Arrangement.{IsArranged, HasChannel}
use Rattle.amqp_outbox.specs.OutboxSlots.{slot_of, slots_in, frames_in}
use Rattle.amqp_outbox.specs.OutboxLaps.{laps_in, laps_of}
use Rattle.amqp_outbox.specs.OutboxView.{Outgoing}
use Rattle.amqp_outbox.specs.declared.slots.Slot.{Slot}
use Rattle.amqp_outbox.specs.declared.outbox.Outbox.TheInside.{Inside}

-- the octets: those that are staged aside stand after the others
abbrev pub all_octets : Inside → List ℕ
all_octets x = x.octets.items ++ x.aside.items

-- the slots of all frames, and their laps
abbrev pub all_slots : Inside → List Slot
all_slots x = slots_in x.slots.items

abbrev pub all_laps : Inside → List ℕ
all_laps x = laps_in x.slots.items

-- the octets and the slots of the row
abbrev pub row_octets : Inside → List ℕ
row_octets x = drop x.begun (take x.arranged (all_octets x))

abbrev pub row_slots : Inside → List Slot
row_slots x = drop x.slots_begun (take x.slots_arranged (all_slots x))

abbrev pub row_of : Inside → List Frame
row_of x = frames_in (row_slots x) (row_octets x)

-- the laps of the row
abbrev pub row_laps : Inside → List ℕ
row_laps x = drop x.slots_begun (take x.slots_arranged (all_laps x))

-- the octets and the slots that are staged
abbrev pub staged_octets : Inside → List ℕ
staged_octets x = drop x.arranged (all_octets x)

abbrev pub staged_slots : Inside → List Slot
staged_slots x = drop x.slots_arranged (all_slots x)

abbrev pub staged_of : Inside → List Frame
staged_of x = frames_in (staged_slots x) (staged_octets x)

abbrev pub outgoing_of : Inside → Outgoing
outgoing_of x = record {
  output = record { ahead = drop x.written (take x.begun (all_octets x)); begun_on = x.begun_on; last = x.last; row = row_of x };
  staged = staged_of x;
}

-- What is staged aside has room after the octets, which hold all of the row.
pub record AsideFits (x : Inside) : Type 0 where
  pub row : x.arranged ≤ length x.octets.items
  pub room : length x.octets.items + length x.aside.items ≤ vec_capacity x.octets

pub record OutboxIsSound (x : Inside) : Type 0 where
  pub written : x.written ≤ x.begun
  pub begun : x.begun ≤ x.arranged
  pub arranged : x.arranged ≤ length (all_octets x)
  pub aside : AsideFits x
  pub slots_begun : x.slots_begun ≤ x.slots_arranged
  pub slots_arranged : x.slots_arranged ≤ length x.slots.items
  pub row_encoded : stream (row_of x) ≡ row_octets x
  pub row_described : map slot_of (row_of x) ≡ row_slots x
  pub staged_encoded : stream (staged_of x) ≡ staged_octets x
  pub staged_described : map slot_of (staged_of x) ≡ staged_slots x
  pub in_turn : IsArranged x.last (row_of x)
  pub row_channels : All HasChannel (row_of x)
  pub staged_channels : All HasChannel (staged_of x)
  pub laps_are : row_laps x ≡ laps_of x.lap x.last (row_slots x)
  -- each frame that waits can have a lap of its own
  pub laps_left : x.lap + (length x.slots.items - x.slots_begun) + 1 < 2 ^ 64
