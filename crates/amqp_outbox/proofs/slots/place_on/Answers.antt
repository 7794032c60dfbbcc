use Rattle.std.proofs.Common.{◌≡◌, ◌≤◌, ◌+◌, ◌∙◌, ap, ℕ, suc, length, get_or, arith}
use Rattle.std.proofs.lemmas.List.{take_rest, length-drop}
use Rattle.amqp_outbox.specs.declared.slots.Slot.{Slot}
use Rattle.amqp_outbox.proofs.OutboxTurns.{not-own-in, counted-on, lap-on, place-on}
use Rattle.amqp_outbox.specs.OutboxSlots.{slots_in}
use Rattle.amqp_outbox.specs.OutboxLaps.{laps_in}
use Rattle.amqp_outbox.proofs.OutboxWaiting.{count-slots, counts-lent, ends-before}
use Rattle.amqp_outbox.proofs.slots.place_on.Goals as goal
use Rattle.amqp_outbox.proofs.slots.place_on.Goals.{else-found-gt0-via-then-found-gt0+else-row-before, else-found-gt0-via-else-found-gt0}

within : (c : goal.Joined-else-found-gt0) → c.loop-own.own + c.count_until-found.result ≤ length c.args.row.now
within c =
    let a = c.count_until-found.ensures.within in
    let b = ap length (take_rest c.args.row.now c.loop-own.own) ∙ length-drop c.loop-own.own c.args.row.now in
    let d = c.loop-own.invariant.0 in
    omega arith

-- the frames up to the channel's last are some of the row
fits : (c : goal.Joined-else-found-gt0) → c.loop-own.own ≤ length (slots_in c.args.row.now)
fits c = let a = count-slots c.args.row.now in let b = c.loop-own.invariant.0 in omega arith

-- the last of the slots that were passed isn't of the channel
other : (c : goal.Joined-else-found-gt0) → (k : ℕ) (d : Slot) → c.count_until-found.result ≡ suc k → (get_or (slots_in c.args.row.now) (c.loop-own.own + k) d).channel ≡ c.args.slot.channel → ⊥
other c k d e same =
    elim c.else-found-gt0.branch [
      | else-found-gt0-via-then-found-gt0+else-row-before w ↦ not-own-in c.args.row.now c.loop-own.own c.count_until-found.result c.args.slot.channel _ (within c) w.if-row-before.false k d e same
      | else-found-gt0-via-else-found-gt0 w ↦ let m = w.if-found-gt0.false in absurd (omega arith)
    ]

pub returns-else-found-gt0-clause-place : goal.returns-else-found-gt0-clause-place
returns-else-found-gt0-clause-place c law =
    place-on law c.args.lap c.args.last c.loop-own.own c.next_lap-next.result c.count_until-found.result c.args.slot (slots_in c.args.row.now) c.args.slot c.requires.above (fits c) c.loop-own.invariant.1
    (counted-on (slots_in c.args.row.now) (laps_in c.args.row.now) c.args.slot c.args.lap c.args.last c.loop-own.own c.next_lap-next.result c.count_until-found.result c.requires.above (omega arith) (omega arith) c.requires.laps_are c.next_lap-next.ensures (counts-lent _ c.count_until-found.result c.loop-own.own c.args.row.now c.count_until-found.ensures.count) (other c))

pub returns-else-found-gt0-clause-lap : goal.returns-else-found-gt0-clause-lap
returns-else-found-gt0-clause-lap c =
    lap-on c.args.lap c.args.last c.loop-own.own c.next_lap-next.result c.count_until-found.result c.args.slot (slots_in c.args.row.now) (fits c)
    (counted-on (slots_in c.args.row.now) (laps_in c.args.row.now) c.args.slot c.args.lap c.args.last c.loop-own.own c.next_lap-next.result c.count_until-found.result c.requires.above (omega arith) (omega arith) c.requires.laps_are c.next_lap-next.ensures (counts-lent _ c.count_until-found.result c.loop-own.own c.args.row.now c.count_until-found.ensures.count) (other c))

pub loop-own-preserved : goal.loop-own-preserved
loop-own-preserved c =
    let a = c.count_until-found.ensures.within in
    let b = ap length (take_rest c.args.row.now c.loop-own.own) ∙ length-drop c.loop-own.own c.args.row.now in
    let d = c.loop-own.invariant.0 in
    let some = c.if-found-gt0.true in
    (omega arith, ends-before _ _ _ _ (omega arith) (omega arith) c.if-row-before.true)
