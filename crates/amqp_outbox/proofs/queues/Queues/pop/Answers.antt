use Rattle.std.proofs.Common.{refl, ap, ◌∙◌, arith, drop}
use Rattle.std.proofs.lemmas.List.Elements.{All-drop}
use Rattle.amqp_outbox.specs.PiecesQueues.{IsPlain, IsLeaving, IsTurnOf}
use Rattle.amqp_outbox.specs.declared.queues.Queues.{Queues}
use Rattle.amqp_outbox.proofs.PiecesQueueLemmas.{above-left, above-whole, above-leaves, last-leaves, nothing, turn-lent, empty-lent}
use Rattle.amqp_outbox.proofs.PiecesRoom.{room-gives}
use Rattle.amqp_outbox.proofs.queues.Queues.pop.Goals as goal

-- the turn, in the queues themselves
turn : (c : goal.After-pop_at) → IsTurnOf c.args.last c.in-Some-next_of.at c.args.self.now.channels.items
turn c = turn-lent c.args.last c.in-Some-next_of.at c.args.self.now.channels.items c.deref.result.now c.deref.ensures.value c.in-Some-next_of.ensures

pub returns-in-Some-next_of-clause-sound : goal.returns-in-Some-next_of-clause-sound
returns-in-Some-next_of-clause-sound c =
    let new : Queues = record { plain = c.pop_front.new.self; channels = c.pop_at.new.queues; leaving = c.args.self.now.leaving } in
    above-left c.in-Some-next_of.at c.args.last c.pop_at.result c.args.self.now new c.requires.sound (turn c) c.pop_at.ensures
    (rw c.pop_front.ensures.rest (All-drop IsPlain 1 c.args.self.now.plain.items c.requires.sound.plain)) refl

pub returns-in-Some-next_of-clause-whole : goal.returns-in-Some-next_of-clause-whole
returns-in-Some-next_of-clause-whole c = above-whole c.in-Some-next_of.at c.args.last c.pop_at.result c.args.self.now c.pop_at.new.queues.items c.requires.sound (turn c) c.pop_at.ensures

pub returns-in-Some-next_of-clause-row : goal.returns-in-Some-next_of-clause-row
returns-in-Some-next_of-clause-row c =
    let new : Queues = record { plain = c.pop_front.new.self; channels = c.pop_at.new.queues; leaving = c.args.self.now.leaving } in
    let z = c.in_default.ensures.cases in
    let l = c.args.self.now.plain.ok.0 in
    let m = c.pop_front.new.self.ok.0 in
    above-leaves c.one_row.ensures.one c.one_row.ensures.made c.steps_are_counted.ensures.lowest c.args.last c.in-Some-next_of.at c.args.self.now new c.pop_at.result c.ranges.last.fits c.requires.sound (turn c) c.pop_at.ensures
    (nothing c.args.self.now.plain.items (omega arith)) (nothing c.pop_front.new.self.items (omega arith)) refl

pub returns-in-Some-next_of-clause-room : goal.returns-in-Some-next_of-clause-room
returns-in-Some-next_of-clause-room c staged r =
    let new : Queues = record { plain = c.pop_front.new.self; channels = c.pop_at.new.queues; leaving = c.args.self.now.leaving } in
    let z = c.in_default.ensures.cases in
    let t = turn c in
    room-gives c.in-Some-next_of.at c.pop_at.result c.args.self.now new staged t.within c.pop_at.ensures (omega arith) c.pop_front.ensures.capacity refl r

pub returns-clause-sound : goal.returns-clause-sound
returns-clause-sound c =
    let s = c.requires.sound in
    record {
      plain = rw c.pop_front.ensures.rest (All-drop IsPlain 1 c.args.self.now.plain.items s.plain);
      channels = s.channels;
      ascends = s.ascends;
      leaving = rw c.pop_front-2.ensures.rest (All-drop IsLeaving 1 c.args.self.now.leaving.items s.leaving);
    }

pub returns-clause-row : goal.returns-clause-row
returns-clause-row c =
    let new : Queues = record { plain = c.pop_front.new.self; channels = c.args.self.now.channels; leaving = c.pop_front-2.new.self } in
    let z = c.in_default.ensures.cases in
    let l = c.args.self.now.plain.ok.0 in
    let m = c.pop_front.new.self.ok.0 in
    let n = c.args.self.now.leaving.ok.0 in
    last-leaves c.args.last c.args.self.now new c.pop_front-2.result (empty-lent c.args.self.now.channels.items c.deref.result.now c.deref.ensures.value c.in_default-next_of.ensures)
    (nothing c.args.self.now.plain.items (omega arith)) (nothing c.pop_front.new.self.items (omega arith)) refl
    c.pop_front-2.ensures.items (λ e. c.pop_front-2.ensures.rest ∙ ap (drop 1) (nothing c.args.self.now.leaving.items (omega arith))) c.pop_front-2.ensures.cases
