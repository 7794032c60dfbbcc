use Rattle.std.proofs.Common.{◌≡◌, ◌++◌, length, map, refl, ap, sym, ◌∙◌, arith, eqb-true, List, length-append, vec_len}
use Rattle.amqp_frame.specs.Frame.{Frame}
use Rattle.amqp_frame.specs.Splitting.{stream}
use Rattle.amqp_model.specs.Wire.Contents.{pieces}
use Rattle.amqp_outbox.specs.OutboxFrames.{body_frames}
use Rattle.amqp_outbox.specs.OutboxLaps.{laps_in, no_laps}
use Rattle.amqp_outbox.specs.OutboxSlots.{slot_of, slots_in}
use Rattle.amqp_outbox.specs.declared.outbox.Outbox.TheInside.{Inside}
use Rattle.amqp_outbox.proofs.BodyParts.{frames_channel, frames_counted, frames_fit}
use Rattle.amqp_outbox.proofs.OutboxAside.{more-aside, more-in-front, no-length, fits-still}
use Rattle.amqp_outbox.proofs.OutboxStates.{sound, fits-alone}
use Rattle.amqp_outbox.proofs.StagedFrames.{frames-in_laps, frames-kept, frames-staged, frames-view}
use Rattle.amqp_outbox.proofs.outbox.Outbox.stage_chunks.Goals as goal

pub append_parts-requires-clause-room : goal.append_parts-requires-clause-room
append_parts-requires-clause-room c =
    let parts = c.in-Some.parts in
    let few = frames_fit c.args.channel c.args.room c.len.result parts.count parts.octets c.args.chunks.now c.len.ensures c.in-Some.ensures.0 c.in-Some.ensures.1 in
    let room = c.in_ok-reserve-2.ensures.ok in
    omega (arith, few, room)

pub append_parts-requires-clause-slots_room : goal.append_parts-requires-clause-slots_room
append_parts-requires-clause-slots_room c =
    let few = frames_counted c.args.channel c.args.room c.len.result c.in-Some.parts.count c.args.chunks.now c.len.ensures c.in-Some.ensures.0 in
    let room = c.in_ok-reserve.ensures.ok in
    omega (arith, few, room)

pub invariant_of-self-then-is_empty : goal.invariant_of-self-then-is_empty
invariant_of-self-then-is_empty c =
    let frames : List Frame = body_frames c.args.channel c.args.room c.args.chunks.now in
    let x = c.self.inside in
    let s = c.self.invariant in
    let none = no-length x.aside.items (let a : vec_len x.aside ≡ 0 = eqb-true (vec_len x.aside) 0 (sym c.is_empty.ensures ∙ c.if-is_empty.true) in let b = x.aside.ok.0 in omega arith) in
    let y : Inside = record x { octets = c.append_parts.new.octets; slots = c.append_parts.new.slots } in
    let few = frames_counted c.args.channel c.args.room c.len.result c.in-Some.parts.count c.args.chunks.now c.len.ensures c.in-Some.ensures.0 in
    let left = c.in_ok-expect_lap.ensures.left in
    let laid = frames-staged x y frames s (more-in-front x.octets.items x.aside.items _ _ none (c.append_parts.ensures.octets ∙ ap (λ xs. xs ++ stream frames) c.reserve-then-is_empty.ensures.items))
    (c.append_parts.ensures.slots ∙ ap (λ ws. slots_in ws ++ map slot_of frames) c.reserve.ensures.items) refl refl refl refl refl in
    sound y _ _ _ _ _ _ _ _ laid
    (frames-kept x frames s (frames_channel c.args.channel (pieces c.args.room c.args.chunks.now) c.ranges.channel.fits))
    (frames-in_laps x y frames s (c.append_parts.ensures.laps ∙ ap (λ ws. laps_in ws ++ no_laps frames) c.reserve.ensures.items)
    (omega (arith, few, left, c.saturating_add.ensures)) refl refl refl)
    (fits-alone y _ _ _ _ _ laid none)

pub returns-then-is_empty : goal.returns-then-is_empty
returns-then-is_empty c =
    let frames : List Frame = body_frames c.args.channel c.args.room c.args.chunks.now in
    let x = c.self.inside in
    let s = c.self.invariant in
    let none = no-length x.aside.items (let a : vec_len x.aside ≡ 0 = eqb-true (vec_len x.aside) 0 (sym c.is_empty.ensures ∙ c.if-is_empty.true) in let b = x.aside.ok.0 in omega arith) in
    let y : Inside = record x { octets = c.append_parts.new.octets; slots = c.append_parts.new.slots } in
    record {
      ok =
          frames-view x y frames _ _ c.args.self.now (c.self.view_is ∙ (c.is_between.ensures.same ∙ (c.drop_begun.ensures ∙ c.drop_written.ensures))) refl refl
          (frames-staged x y frames s (more-in-front x.octets.items x.aside.items _ _ none (c.append_parts.ensures.octets ∙ ap (λ xs. xs ++ stream frames) c.reserve-then-is_empty.ensures.items))
          (c.append_parts.ensures.slots ∙ ap (λ ws. slots_in ws ++ map slot_of frames) c.reserve.ensures.items) refl refl refl refl refl);
      taken = c.append_parts.ensures.taken;
      same = tt;
      kept = tt;
      err = tt;
    }

pub append_parts-requires-2-clause-room : goal.append_parts-requires-2-clause-room
append_parts-requires-2-clause-room c =
    let parts = c.in-Some.parts in
    let few = frames_fit c.args.channel c.args.room c.len.result parts.count parts.octets c.args.chunks.now c.len.ensures c.in-Some.ensures.0 c.in-Some.ensures.1 in
    let room = c.in_ok-reserve-4.ensures.ok in
    omega (arith, few, room)

pub append_parts-requires-2-clause-slots_room : goal.append_parts-requires-2-clause-slots_room
append_parts-requires-2-clause-slots_room c =
    let few = frames_counted c.args.channel c.args.room c.len.result c.in-Some.parts.count c.args.chunks.now c.len.ensures c.in-Some.ensures.0 in
    let room = c.in_ok-reserve.ensures.ok in
    omega (arith, few, room)

pub invariant_of-self-2 : goal.invariant_of-self-2
invariant_of-self-2 c =
    let frames : List Frame = body_frames c.args.channel c.args.room c.args.chunks.now in
    let x = c.self.inside in
    let s = c.self.invariant in
    let parts = c.in-Some.parts in
    let y : Inside = record x { octets = c.reserve-2.new.self; aside = c.append_parts-2.new.octets; slots = c.append_parts-2.new.slots } in
    let few = frames_counted c.args.channel c.args.room c.len.result c.in-Some.parts.count c.args.chunks.now c.len.ensures c.in-Some.ensures.0 in
    let fit = frames_fit c.args.channel c.args.room c.len.result parts.count parts.octets c.args.chunks.now c.len.ensures c.in-Some.ensures.0 c.in-Some.ensures.1 in
    let left = c.in_ok-expect_lap.ensures.left in
    let aside = c.append_parts-2.ensures.octets ∙ ap (λ xs. xs ++ stream frames) c.reserve-3.ensures.items in
    let size = ap length aside ∙ length-append x.aside.items (stream frames) in
    let room = c.in_ok-reserve-3.ensures.ok in
    let after = c.in-Some-checked_add.ensures in
    sound y _ _ _ _ _ _ _ _
    (frames-staged x y frames s (more-aside x.octets.items x.aside.items _ _ _ c.reserve-2.ensures.items aside)
    (c.append_parts-2.ensures.slots ∙ ap (λ ws. slots_in ws ++ map slot_of frames) c.reserve.ensures.items) refl refl refl refl refl)
    (frames-kept x frames s (frames_channel c.args.channel (pieces c.args.room c.args.chunks.now) c.ranges.channel.fits))
    (frames-in_laps x y frames s (c.append_parts-2.ensures.laps ∙ ap (λ ws. laps_in ws ++ no_laps frames) c.reserve.ensures.items)
    (omega (arith, few, left, c.saturating_add.ensures)) refl refl refl)
    (fits-still x y s.aside c.reserve-2.ensures.items c.reserve-2.ensures.capacity (omega (arith, fit, size, room, after)) refl)

pub returns : goal.returns
returns c =
    let frames : List Frame = body_frames c.args.channel c.args.room c.args.chunks.now in
    let x = c.self.inside in
    let s = c.self.invariant in
    let y : Inside = record x { octets = c.reserve-2.new.self; aside = c.append_parts-2.new.octets; slots = c.append_parts-2.new.slots } in
    record {
      ok =
          frames-view x y frames _ _ c.args.self.now (c.self.view_is ∙ (c.is_between.ensures.same ∙ (c.drop_begun.ensures ∙ c.drop_written.ensures))) refl refl
          (frames-staged x y frames s (more-aside x.octets.items x.aside.items _ _ _ c.reserve-2.ensures.items (c.append_parts-2.ensures.octets ∙ ap (λ xs. xs ++ stream frames) c.reserve-3.ensures.items))
          (c.append_parts-2.ensures.slots ∙ ap (λ ws. slots_in ws ++ map slot_of frames) c.reserve.ensures.items) refl refl refl refl refl);
      taken = c.append_parts-2.ensures.taken;
      same = tt;
      kept = tt;
      err = tt;
    }
