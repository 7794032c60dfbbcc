use Rattle.std.proofs.Common.{◌≡◌, length, refl, ap, ◌∙◌, arith, eqb-true, sym, vec_len}
use Rattle.amqp_frame.specs.Frame.{Frame}
use Rattle.amqp_model.specs.End.Controls.{heartbeat_frame}
use Rattle.amqp_outbox.specs.declared.outbox.Outbox.TheInside.{Inside}
use Rattle.amqp_outbox.proofs.OutboxAside.{more-aside, more-in-front, no-length, fits-still}
use Rattle.amqp_outbox.proofs.OutboxLapMoves.{laps-staged}
use Rattle.amqp_outbox.proofs.OutboxMoves.{frame-staged, frame-appended, length-appended, kept-staged, staged_view}
use Rattle.amqp_outbox.proofs.OutboxStates.{sound, fits-alone}
use Rattle.amqp_outbox.proofs.outbox.Outbox.stage_heartbeat.Goals as goal

pub enlist-requires-clause-room : goal.enlist-requires-clause-room
enlist-requires-clause-room c =
    let f : Frame = heartbeat_frame in
    let h = length-appended f c.self.inside.octets.items c.append_heartbeat.new.octets.items c.len-at.result (omega arith) c.in_ok-append_heartbeat.ensures.ok in
    omega arith

pub enlist-requires-clause-fits : goal.enlist-requires-clause-fits
enlist-requires-clause-fits c =
    let f : Frame = heartbeat_frame in
    let h = length-appended f c.self.inside.octets.items c.append_heartbeat.new.octets.items c.len-at.result (omega arith) c.in_ok-append_heartbeat.ensures.ok in
    omega arith

pub invariant_of-self-then-is_empty : goal.invariant_of-self-then-is_empty
invariant_of-self-then-is_empty c =
    let f : Frame = heartbeat_frame in
    let x = c.self.inside in
    let s = c.self.invariant in
    let none = no-length x.aside.items (let a : vec_len x.aside ≡ 0 = eqb-true (vec_len x.aside) 0 (sym c.is_empty.ensures ∙ c.if-is_empty.true) in let b = x.aside.ok.0 in omega arith) in
    let at = frame-appended f x.octets.items c.append_heartbeat.new.octets.items c.len-at.result (omega arith) c.in_ok-append_heartbeat.ensures.ok in
    let y : Inside = record x { octets = c.enlist.new.octets; slots = c.enlist.new.slots } in
    let laid = frame-staged x y f s (more-in-front x.octets.items x.aside.items _ _ none (c.in_ok-enlist.ensures.same ∙ c.in_ok-append_heartbeat.ensures.ok)) (c.in_ok-enlist.ensures.slot f refl refl at) refl refl refl refl refl in
    sound y _ _ _ _ _ _ _ _ laid (kept-staged x f s (omega arith))
    (laps-staged x y f s c.in_ok-enlist.ensures.laps (let m = c.in_ok-expect_lap.ensures.left in omega arith) refl refl refl)
    (fits-alone y _ _ _ _ _ laid none)

pub returns-then-is_empty-clause-ok : goal.returns-then-is_empty-clause-ok
returns-then-is_empty-clause-ok c =
    let f : Frame = heartbeat_frame in
    let x = c.self.inside in
    let s = c.self.invariant in
    let none = no-length x.aside.items (let a : vec_len x.aside ≡ 0 = eqb-true (vec_len x.aside) 0 (sym c.is_empty.ensures ∙ c.if-is_empty.true) in let b = x.aside.ok.0 in omega arith) in
    let at = frame-appended f x.octets.items c.append_heartbeat.new.octets.items c.len-at.result (omega arith) c.in_ok-append_heartbeat.ensures.ok in
    let y : Inside = record x { octets = c.enlist.new.octets; slots = c.enlist.new.slots } in
    let laid = frame-staged x y f s (more-in-front x.octets.items x.aside.items _ _ none (c.in_ok-enlist.ensures.same ∙ c.in_ok-append_heartbeat.ensures.ok)) (c.in_ok-enlist.ensures.slot f refl refl at) refl refl refl refl refl in
    staged_view x y f _ _ c.args.self.now (c.self.view_is ∙ (c.drop_begun.ensures ∙ c.drop_written.ensures)) refl refl laid

pub enlist-requires-2-clause-room : goal.enlist-requires-2-clause-room
enlist-requires-2-clause-room c =
    let f : Frame = heartbeat_frame in
    let h = length-appended f c.self.inside.aside.items c.append_heartbeat-2.new.octets.items c.len-at-2.result (omega arith) c.in_ok-append_heartbeat-2.ensures.ok in
    let k = ap length c.in_ok-keep_room.ensures.same in
    omega arith

pub enlist-requires-2-clause-fits : goal.enlist-requires-2-clause-fits
enlist-requires-2-clause-fits c =
    let f : Frame = heartbeat_frame in
    let h = length-appended f c.self.inside.aside.items c.append_heartbeat-2.new.octets.items c.len-at-2.result (omega arith) c.in_ok-append_heartbeat-2.ensures.ok in
    let k = ap length c.in_ok-keep_room.ensures.same in
    omega arith

pub invariant_of-self-2 : goal.invariant_of-self-2
invariant_of-self-2 c =
    let f : Frame = heartbeat_frame in
    let x = c.self.inside in
    let s = c.self.invariant in
    let kept = c.in_ok-keep_room.ensures.same ∙ c.in_ok-append_heartbeat-2.ensures.ok in
    let at = frame-appended f x.aside.items c.keep_room.new.aside.items c.len-at-2.result (omega arith) kept in
    let y : Inside = record x { octets = c.keep_room.new.octets; aside = c.enlist-2.new.octets; slots = c.enlist-2.new.slots } in
    let laid = frame-staged x y f s (more-aside x.octets.items x.aside.items _ _ _ c.keep_room.ensures.octets (c.in_ok-enlist-2.ensures.same ∙ kept)) (c.in_ok-enlist-2.ensures.slot f refl refl at) refl refl refl refl refl in
    let same = ap length c.in_ok-enlist-2.ensures.same in
    let room = c.in_ok-keep_room.ensures.room in
    sound y _ _ _ _ _ _ _ _ laid (kept-staged x f s (omega arith))
    (laps-staged x y f s c.in_ok-enlist-2.ensures.laps (let m = c.in_ok-expect_lap.ensures.left in omega arith) refl refl refl)
    (fits-still x y s.aside c.keep_room.ensures.octets c.keep_room.ensures.kept (omega arith) refl)

pub returns-clause-ok : goal.returns-clause-ok
returns-clause-ok c =
    let f : Frame = heartbeat_frame in
    let x = c.self.inside in
    let s = c.self.invariant in
    let kept = c.in_ok-keep_room.ensures.same ∙ c.in_ok-append_heartbeat-2.ensures.ok in
    let at = frame-appended f x.aside.items c.keep_room.new.aside.items c.len-at-2.result (omega arith) kept in
    let y : Inside = record x { octets = c.keep_room.new.octets; aside = c.enlist-2.new.octets; slots = c.enlist-2.new.slots } in
    let laid = frame-staged x y f s (more-aside x.octets.items x.aside.items _ _ _ c.keep_room.ensures.octets (c.in_ok-enlist-2.ensures.same ∙ kept)) (c.in_ok-enlist-2.ensures.slot f refl refl at) refl refl refl refl refl in
    staged_view x y f _ _ c.args.self.now (c.self.view_is ∙ (c.drop_begun.ensures ∙ c.drop_written.ensures)) refl refl laid
