-- What an advance of a splitter does with a piece. Read before: what a piece does to a splitter (`Splitter`).
use Rattle.std.specs.Prelude.{◌≡◌, ◌≢◌, ◌<◌, ◌≤◌, ℕ, List, [], length, take, None, Result, IsOk, IfOk, IfErr, IfSome, IfNone}
use Rattle.amqp_frame.specs.Splitter.{Completes, Waits, Faults, LacksMemoryIfNeeded, HasFrameAtStart, OfGiven, LiesAt, after_advance}
use Rattle.amqp_frame.specs.Stream.{Stream}
use Rattle.amqp_frame.specs.declared.faults.FrameFault.{FrameFault}
use Rattle.amqp_frame.specs.declared.splitting.Advanced.{Advanced}

pub record Advances (old : Stream) (piece : List ℕ) (result : Result Advanced FrameFault)
    (new : Stream) : Type 0 where
  -- With a frame, the octets pending and taken are that frame, no longer than the limit.
  pub frame :
      IfOk result (λ advanced. IfSome advanced.place
      (λ place. OfGiven place new.given (Completes old (take advanced.taken piece))))
  -- Without one, all was taken, and what is pending now is a rest that shows no fault.
  pub rest : IfOk result (λ advanced. IfNone advanced.place (Waits old piece advanced.taken))
  -- A fault is reported by the stream, at the first octet that shows it, or it is out of memory.
  pub fault : IfErr result (λ fault. Faults old.fault old piece fault)
  -- Memory is refused only where an octet has to be kept, and never in place of a fault.
  pub memory : IfErr result (λ fault. LacksMemoryIfNeeded fault.kind old piece)
  -- After a fault there is no other answer.
  pub running : IsOk result → old.fault ≡ None
  -- No more is taken than the piece has.
  pub within : IfOk result (λ advanced. advanced.taken ≤ length piece)
  -- Of a piece that has octets at least one is taken.
  pub progress : IfOk result (λ advanced. piece ≢ [] → 0 < advanced.taken)
  -- The frame lies in the piece where no octet of it was pending, and in the buffer otherwise.
  pub lies : IfOk result (λ advanced. IfSome advanced.place (LiesAt old.pending))
  -- Where none is pending and a whole frame stands at the start of the piece, the answer is Ok.
  pub in_place : old.fault ≡ None → old.pending ≡ [] → HasFrameAtStart old.limit piece → IsOk result
  -- The splitter is left as the answer says.
  pub after : new ≡ after_advance old piece result
