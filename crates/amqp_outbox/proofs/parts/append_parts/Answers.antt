use Rattle.std.proofs.Common.{rules, ◌≡◌, ◌<◌, [], ◌∷◌, ◌++◌, min, length, take, drop, map, List, refl, ap, sym, ◌∙◌, arith, append_assoc, append-nil, length-append}
use Rattle.std.proofs.lemmas.List.{length-take-le, nil_from_length}
use Rattle.amqp_frame.specs.Frame.{Frame, octets}
use Rattle.amqp_frame.specs.Splitting.{stream}
use Rattle.amqp_outbox.specs.OutboxFrames.{body_frame, body_frames}
use Rattle.amqp_outbox.specs.OutboxLaps.{laps_in, no_laps}
use Rattle.amqp_outbox.specs.OutboxSlots.{slot_of, slots_in}
use Rattle.amqp_outbox.proofs.BodyParts.{frames_more, frames_none, length_more}
use Rattle.amqp_outbox.proofs.OutboxRows.{length-octets}
use Rattle.amqp_outbox.proofs.OutboxWaiting.{count-slots}
use Rattle.amqp_outbox.proofs.parts.append_parts.Goals as goal

pub append_part-requires-clause-room : goal.append_part-requires-clause-room
append_part-requires-clause-room c =
    let body = c.loop-chunks.chunks in
    let size = c.min-size.result in
    let more : 0 < length body = search rules in
    let size_is : size ≡ min (length body) c.args.room = omega arith in
    let all = length_more c.args.channel c.args.room size body (drop size body) c.requires.some more size_is refl in
    let room = c.loop-chunks.invariant.room in
    omega (arith, all, room)

pub loop-chunks-preserved : goal.loop-chunks-preserved
loop-chunks-preserved c =
    let l = c.loop-chunks in
    let body = l.chunks in
    let later = c.append_part.new.chunks in
    let size = c.min-size.result in
    let more : 0 < length body = search rules in
    let size_is : size ≡ min (length body) c.args.room = omega arith in
    let frame : Frame = body_frame c.args.channel (take size body) in
    let frames : List Frame = body_frames c.args.channel c.args.room later in
    let split = frames_more c.args.channel c.args.room size body later c.requires.some more size_is c.append_part.ensures.left in
    let all = length_more c.args.channel c.args.room size body later c.requires.some more size_is c.append_part.ensures.left in
    let part = length-take-le size body (omega arith) in
    let longer = ap length c.append_part.ensures.octets ∙ length-append l.octets.items (octets frame) in
    let more_slots = ap length c.append_part.ensures.slots ∙ length-append (slots_in l.slots.items) (slot_of frame ∷ []) in
    let room = l.invariant.room in
    let slots_room = l.invariant.slots_room in
    record {
      octets = ap (λ xs. xs ++ stream frames) c.append_part.ensures.octets
          ∙ (append_assoc l.octets.items (octets frame) (stream frames)
          ∙ (ap (λ fs. l.octets.items ++ stream fs) (sym split) ∙ l.invariant.octets));
      slots = ap (λ xs. xs ++ map slot_of frames) c.append_part.ensures.slots
          ∙ (append_assoc (slots_in l.slots.items) (slot_of frame ∷ []) (map slot_of frames)
          ∙ (ap (λ fs. slots_in l.slots.items ++ map slot_of fs) (sym split) ∙ l.invariant.slots));
      laps = ap (λ xs. xs ++ no_laps frames) c.append_part.ensures.laps
          ∙ (append_assoc (laps_in l.slots.items) (0 ∷ []) (no_laps frames)
          ∙ (ap (λ fs. laps_in l.slots.items ++ no_laps fs) (sym split) ∙ l.invariant.laps));
      room = omega (arith, all, part, longer, length-octets frame, room, c.append_part.ensures.room, c.append_part.new.octets.ok.0, l.octets.ok.0);
      slots_room = omega (arith, ap length split, more_slots, count-slots l.slots.items, count-slots c.append_part.new.slots.items, slots_room, c.append_part.ensures.slots_room, c.append_part.new.slots.ok.0, l.slots.ok.0);
    }

pub returns-clause-octets : goal.returns-clause-octets
returns-clause-octets c =
    let l = c.loop-chunks in
    let empty : length l.chunks ≡ 0 = search rules in
    let ended = frames_none c.args.channel c.args.room l.chunks c.requires.some (nil_from_length l.chunks empty) in
    sym (append-nil l.octets.items) ∙ (ap (λ fs. l.octets.items ++ stream fs) (sym ended) ∙ l.invariant.octets)

pub returns-clause-slots : goal.returns-clause-slots
returns-clause-slots c =
    let l = c.loop-chunks in
    let empty : length l.chunks ≡ 0 = search rules in
    let ended = frames_none c.args.channel c.args.room l.chunks c.requires.some (nil_from_length l.chunks empty) in
    sym (append-nil (slots_in l.slots.items)) ∙ (ap (λ fs. slots_in l.slots.items ++ map slot_of fs) (sym ended) ∙ l.invariant.slots)

pub returns-clause-laps : goal.returns-clause-laps
returns-clause-laps c =
    let l = c.loop-chunks in
    let empty : length l.chunks ≡ 0 = search rules in
    let ended = frames_none c.args.channel c.args.room l.chunks c.requires.some (nil_from_length l.chunks empty) in
    sym (append-nil (laps_in l.slots.items)) ∙ (ap (λ fs. laps_in l.slots.items ++ no_laps fs) (sym ended) ∙ l.invariant.laps)
