use Rattle.std.proofs.Common.{◌&&◌, ◌==◌, not, refl, ap₂, arith}
use Rattle.std.proofs.lemmas.List.Elements.{All-push}
use Rattle.amqp_outbox.specs.PiecesQueues.{IsPlain}
use Rattle.amqp_outbox.specs.declared.queues.Queues.{Queues}
use Rattle.amqp_outbox.proofs.PiecesQueueLemmas.{plain-put, leaving-put, above-put, above-sound}
use Rattle.amqp_outbox.proofs.PiecesRoom.{room-plain, room-leaving, room-above}
use Rattle.amqp_outbox.proofs.queues.Queues.push.Goals as goal

pub returns-then-chunk-clause-row : goal.returns-then-chunk-clause-row
returns-then-chunk-clause-row c last l =
    let new : Queues = record { plain = c.args.self.now.plain; channels = c.args.self.now.channels; leaving = c.push_back_reserved.new.self } in
    leaving-put c.put_keeps_arranged.ensures.leaving last c.args.chunk c.args.self.now new c.requires.sound (c.requires.whole, c.if-chunk.true) c.push_back_reserved.ensures.items refl refl

pub returns-then-chunk-clause-room : goal.returns-then-chunk-clause-room
returns-then-chunk-clause-room c staged r =
    room-leaving c.args.self.now _ c.args.chunk staged refl refl c.push_back_reserved.ensures.len c.push_back_reserved.ensures.capacity c.if-chunk.true r

pub returns-then-chunk-eq0-clause-sound : goal.returns-then-chunk-eq0-clause-sound
returns-then-chunk-eq0-clause-sound c =
    let s = c.requires.sound in
    record {
      plain = rw c.push_back_reserved-then-chunk-eq0.ensures.items (All-push IsPlain c.args.self.now.plain.items c.args.chunk s.plain (c.requires.whole, c.if-chunk-eq0.true, c.if-chunk.false));
      channels = s.channels;
      ascends = s.ascends;
      leaving = s.leaving;
    }

pub returns-then-chunk-eq0-clause-row : goal.returns-then-chunk-eq0-clause-row
returns-then-chunk-eq0-clause-row c last l =
    let new : Queues = record { plain = c.push_back_reserved-then-chunk-eq0.new.self; channels = c.args.self.now.channels; leaving = c.args.self.now.leaving } in
    plain-put last c.args.chunk c.args.self.now new l c.requires.sound (c.requires.whole, c.if-chunk-eq0.true, c.if-chunk.false) c.push_back_reserved-then-chunk-eq0.ensures.items refl refl

pub returns-then-chunk-eq0-clause-room : goal.returns-then-chunk-eq0-clause-room
returns-then-chunk-eq0-clause-room c staged r =
    room-plain c.args.self.now _ c.args.chunk staged refl refl c.push_back_reserved-then-chunk-eq0.ensures.len c.push_back_reserved-then-chunk-eq0.ensures.capacity
    (ap₂ (λ x y. (x == 0) && not y) c.if-chunk-eq0.true c.if-chunk.false) r

pub returns-clause-sound : goal.returns-clause-sound
returns-clause-sound c = above-sound c.args.chunk c.args.self.now _ c.requires.sound c.requires.whole c.push_on.ensures refl refl

pub returns-clause-row : goal.returns-clause-row
returns-clause-row c last l =
    let new : Queues = record { plain = c.args.self.now.plain; channels = c.push_on.new.queues; leaving = c.args.self.now.leaving } in
    above-put c.one_row.ensures.one c.one_row.ensures.made c.put_keeps_arranged.ensures.arranged last c.args.chunk c.args.self.now new l c.requires.sound c.requires.whole
    (let h = c.if-chunk-eq0.false in omega arith) c.push_on.ensures refl refl

pub returns-clause-room : goal.returns-clause-room
returns-clause-room c staged r = room-above c.args.self.now _ c.args.chunk staged refl refl c.push_on.ensures r
