use Rattle.std.proofs.Common.{◌≡◌, ◌++◌, map, length}
use Rattle.amqp_model.specs.Wire.Contents.{pieces}
use Rattle.amqp_outbox.specs.OutboxFrames.{body_frame}
use Rattle.amqp_core.proofs.sending.stage_parts.Given as goal

abbrev pub invariant-loop-rest : goal.invariant-loop-rest
invariant-loop-rest l = record {
  output : l.outbox.output ≡ l.initial.outbox.output;
  frames : l.outbox.staged ++ map (body_frame l.channel) (pieces l.room l.rest) ≡ l.initial.outbox.staged ++ map (body_frame l.channel)
      (pieces l.room l.body);
}

abbrev pub decreases-loop-rest : goal.decreases-loop-rest
decreases-loop-rest l = length l.rest
