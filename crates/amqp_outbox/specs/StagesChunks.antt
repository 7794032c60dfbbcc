-- What staging a body in chunks does. Read before: what callers see of an outbox (`OutboxView`), and the frames of a
-- body that is cut (`OutboxFrames`).
use Rattle.std.specs.Prelude.{◌≡◌, ℕ, List, [], Result, IfErr, OnErr, OnOk}
use Rattle.amqp_outbox.specs.OutboxFaults.{out_of_memory}
use Rattle.amqp_outbox.specs.OutboxFrames.{body_frames}
use Rattle.amqp_outbox.specs.OutboxView.{Outgoing, with_staged}
use Rattle.amqp_outbox.specs.declared.staging.StageFault.{StageFault}

-- The chunks hold a body, which is cut into parts of so many octets, the last with what is left.
pub record StagesChunks (channel room : ℕ) (old new : Outgoing) (before after : List ℕ)
    (result : Result (Unit {0}) StageFault) : Type 0 where
  -- The frames of the body are staged after those that are.
  pub ok : OnOk result (new ≡ with_staged old (body_frames channel room before))
  -- No octet is left in the chunks then.
  pub taken : OnOk result (after ≡ [])
  -- Refused, it leaves the output and what is staged as they were.
  pub same : OnErr result (new ≡ old)
  -- It leaves the chunks as they were, too.
  pub kept : OnErr result (after ≡ before)
  -- It is refused out of memory alone.
  pub err : IfErr result (λ e. e ≡ out_of_memory)
