-- What feeding a splitter a piece does, where the frame is copied (`Feeds`) and where it is lent (`FeedsLent`). Read
-- before: what a piece does to a splitter (`Splitter`).
use Rattle.std.specs.Prelude.{◌≡◌, ◌≢◌, ◌<◌, ◌≤◌, ℕ, List, [], length, take, None, Result, IsOk, IfOk, IfErr, IfSome, IfNone}
use Rattle.amqp_frame.specs.Frame.{lent, owned}
use Rattle.amqp_frame.specs.Splitter.{Completes, Waits, Faults, LacksMemoryIfNeeded, HasFrameAtStart, after_feed}
use Rattle.amqp_frame.specs.Stream.{Stream}
use Rattle.amqp_frame.specs.declared.faults.FrameFault.{FrameFault}
use Rattle.amqp_frame.specs.declared.splitting.Fed.{Fed}
use Rattle.amqp_frame.specs.declared.splitting.FedRef.{FedRef}

-- The splitter is left as `LeavesAfter` says, once the frame is given up.
pub record FeedsLent (old : Stream) (piece : List ℕ) (result : Result FedRef FrameFault) : Type 0 where
  -- With a frame, the octets pending and taken are that frame, no longer than the limit.
  pub frame : IfOk result (λ fed. IfSome fed.frame (λ f. Completes old (take fed.taken piece) (lent f)))
  -- Without one, all was taken, and what is pending now is a rest that shows no fault.
  pub rest : IfOk result (λ fed. IfNone fed.frame (Waits old piece fed.taken))
  -- A fault is reported by the stream, at the first octet that shows it, or it is out of memory.
  pub fault : IfErr result (λ fault. Faults old.fault old piece fault)
  -- Memory is refused only where an octet has to be kept, and never in place of a fault.
  pub memory : IfErr result (λ fault. LacksMemoryIfNeeded fault.kind old piece)
  -- After a fault there is no other answer.
  pub running : IsOk result → old.fault ≡ None
  -- No more is taken than the piece has.
  pub within : IfOk result (λ fed. fed.taken ≤ length piece)
  -- Of a piece that has octets at least one is taken.
  pub progress : IfOk result (λ fed. piece ≢ [] → 0 < fed.taken)
  -- Where none is pending and a whole frame stands at the start of the piece, the answer is Ok.
  pub in_place : old.fault ≡ None → old.pending ≡ [] → HasFrameAtStart old.limit piece → IsOk result

pub record Feeds (old : Stream) (piece : List ℕ) (result : Result Fed FrameFault) (new : Stream) : Type 0 where
  -- With a frame, the octets pending and taken are that frame, no longer than the limit.
  pub frame : IfOk result (λ fed. IfSome fed.frame (λ f. Completes old (take fed.taken piece) (owned f)))
  -- Without one, all was taken, and what is pending now is a rest that shows no fault.
  pub rest : IfOk result (λ fed. IfNone fed.frame (Waits old piece fed.taken))
  -- A fault is reported by the stream, at the first octet that shows it, or it is out of memory.
  pub fault : IfErr result (λ fault. Faults old.fault old piece fault)
  -- Memory is refused only where an octet has to be kept, and never in place of a fault.
  pub memory : IfErr result (λ fault. LacksMemoryIfNeeded fault.kind old piece)
  -- After a fault there is no other answer.
  pub running : IsOk result → old.fault ≡ None
  -- No more is taken than the piece has.
  pub within : IfOk result (λ fed. fed.taken ≤ length piece)
  -- Of a piece that has octets at least one is taken.
  pub progress : IfOk result (λ fed. piece ≢ [] → 0 < fed.taken)
  -- The splitter is left as the answer says.
  pub after : new ≡ after_feed old piece result
