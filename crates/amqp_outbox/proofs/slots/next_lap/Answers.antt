use Rattle.std.proofs.Common.{false, arith}
use Rattle.amqp_frame.specs.declared.frames.FrameKind.TheVariants.{Method}
use Rattle.amqp_outbox.specs.declared.slots.Waiting.{Waiting}
use Rattle.amqp_outbox.proofs.OutboxTurns.{next-at, next-most}
use Rattle.amqp_outbox.proofs.slots.next_lap.Goals as goal

-- what a slice gives beyond its end
default : Waiting
default = record { slot = record { size = 0; channel = 0; kind = Method; leaving = false }; lap = 0 }

pub overflow_add-result : goal.overflow_add-result
unfolding default
overflow_add-result c =
    let a = next-most c.args.own c.args.lap c.args.last c.args.row.now default (omega arith) c.requires.within c.requires.laps_are in
    omega arith

pub returns : goal.returns
returns c = next-at _ _ _ c.args.slot _ _ (omega arith) c.requires.above c.requires.laps_are c.requires.ends c.requires.within
