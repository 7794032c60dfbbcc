-- Frames that are staged together, after the others.
use Rattle.std.proofs.Common.{◌≡◌, ℕ, ◌+◌, ◌-◌, ◌^◌, ◌<◌, List, ◌++◌, length, map, take, drop, All, sym, ap, ap₂, ◌∙◌, arith, length-append, length-drop}
use Rattle.std.proofs.lemmas.List.{length-map, map-append}
use Rattle.std.proofs.lemmas.List.Elements.{All-append}
use Rattle.amqp_frame.specs.Frame.{Frame}
use Rattle.amqp_frame.specs.Splitting.{stream}
use Rattle.amqp_model.specs.Output.Arrangement.{HasChannel}
use Rattle.amqp_outbox.specs.OutboxSlots.{slot_of}
use Rattle.amqp_outbox.specs.OutboxLaps.{laps_of, no_laps}
use Rattle.amqp_outbox.specs.OutboxView.{Outgoing, with_staged}
use Rattle.amqp_outbox.specs.OutboxFields.{all_octets, row_laps, row_of, staged_of, outgoing_of, all_slots, all_laps, OutboxIsSound}
use Rattle.amqp_outbox.specs.declared.slots.Slot.{Slot}
use Rattle.amqp_outbox.specs.declared.outbox.Outbox.TheInside.{Inside}
use Rattle.amqp_outbox.proofs.OutboxLists.{last_of_three, last_of_four, length-second}
use Rattle.amqp_outbox.proofs.OutboxRows.{stream-append}
use Rattle.amqp_outbox.proofs.OutboxWaiting.{count-slots}
use Rattle.amqp_outbox.proofs.OutboxStates.{IsLaidOut, IsKept, IsInLaps, in_laps, laid_out, slots_within, view, outgoing}

pub frames-staged : (x y : Inside) (frames : List Frame) → OutboxIsSound x → all_octets y ≡ all_octets x ++ stream frames
    → all_slots y ≡ all_slots x ++ map slot_of frames → y.written ≡ x.written → y.begun ≡ x.begun → y.arranged ≡ x.arranged
    → y.slots_begun ≡ x.slots_begun → y.slots_arranged ≡ x.slots_arranged
    → IsLaidOut y (take x.written (all_octets x)) (drop x.written (take x.begun (all_octets x))) (take x.slots_begun (all_slots x)) (row_of x) (staged_of x ++ frames)
frames-staged x y frames s more more_slots written begun arranged slots_begun slots_arranged =
    let l = laid_out x s in
    let gone = take x.written (all_octets x) in
    let ahead = drop x.written (take x.begun (all_octets x)) in
    let row = row_of x in
    let staged = staged_of x in
    let past = take x.slots_begun (all_slots x) in
    let a = l.begun in
    let b = l.arranged in
    let c = l.slots_arranged in
    let d = stream-append staged frames in
    let e = map-append slot_of staged frames in
    record {
      octets = more ∙ (ap (λ l. l ++ stream frames) l.octets ∙ (last_of_four gone ahead (stream row) (stream staged) (stream frames) ∙ ap (λ l. gone ++ (ahead ++ (stream row ++ l))) (sym d)));
      slots = more_slots ∙ (ap (λ l. l ++ map slot_of frames) l.slots ∙ (last_of_three past (map slot_of row) (map slot_of staged) (map slot_of frames) ∙ ap (λ l. past ++ (map slot_of row ++ l)) (sym e)));
      written = written ∙ l.written;
      begun = omega arith;
      arranged = omega arith;
      slots_begun = slots_begun ∙ l.slots_begun;
      slots_arranged = omega arith;
    }

pub frames-kept : (x : Inside) (frames : List Frame) → OutboxIsSound x → All HasChannel frames → IsKept x.last (row_of x) (staged_of x ++ frames)
frames-kept x frames s channels =
    record { in_turn = s.in_turn; row_channels = s.row_channels; staged_channels = All-append HasChannel (staged_of x) frames s.staged_channels channels }

-- a lap is provided for each of them
pub frames-in_laps : (x y : Inside) (frames : List Frame) → OutboxIsSound x → all_laps y ≡ all_laps x ++ no_laps frames
    → x.lap + (length x.slots.items - x.slots_begun) + length frames + 1 < 2 ^ 64 → y.lap ≡ x.lap → y.last ≡ x.last → y.slots_begun ≡ x.slots_begun
    → IsInLaps y (take x.slots_begun (all_laps x)) (row_laps x) (drop x.slots_arranged (all_laps x) ++ no_laps frames) (row_of x) (staged_of x ++ frames)
frames-in_laps x y frames s laps left lap last begun =
    let i = in_laps x s in
    let a = s.slots_begun in
    let b = slots_within x s in
    let all = count-slots x.slots.items in
    let rest_are = i.rest_are in
    let e = ap length s.row_described in
    let e2 = length-second (all_slots x) x.slots_begun x.slots_arranged a b in
    let g = ap length s.staged_described ∙ length-drop x.slots_arranged (all_slots x) in
    let h = length-append (staged_of x) frames in
    let j = length-append (drop x.slots_arranged (all_laps x)) (no_laps frames) in
    let m : length (no_laps frames) ≡ length frames = length-map frames (λ (f : Frame). 0) in
    let k = length-map (row_of x) slot_of in
    let l = length-map (staged_of x) slot_of in
    record {
      laps = laps ∙ (ap (λ xs. xs ++ no_laps frames) i.laps ∙ last_of_three (take x.slots_begun (all_laps x)) (row_laps x) (drop x.slots_arranged (all_laps x)) (no_laps frames));
      past_are = i.past_are ∙ sym begun;
      laps_are = i.laps_are ∙ ap₂ (λ p w. laps_of p w (map slot_of (row_of x))) (sym lap) (sym last);
      rest_are = omega arith;
      left = omega arith;
    }

pub frames-view : (x y : Inside) (frames : List Frame) (gone : List ℕ) (past : List Slot) (value : Outgoing) → outgoing_of x ≡ value → y.begun_on ≡ x.begun_on → y.last ≡ x.last
    → IsLaidOut y gone (drop x.written (take x.begun (all_octets x))) past (row_of x) (staged_of x ++ frames)
    → outgoing_of y ≡ with_staged value frames
frames-view x y frames gone past value e on g l =
    let ahead = drop x.written (take x.begun (all_octets x)) in
    view y gone ahead past (row_of x) (staged_of x ++ frames) l
    ∙ (ap₂ (λ c last. outgoing ahead c last (row_of x) (staged_of x ++ frames)) on g ∙ ap (λ v. with_staged v frames) e)
