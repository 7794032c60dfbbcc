-- What an advance of the messages of a channel does. Read before: what one sending after another makes of those that
-- wait (`Sends`).
use Rattle.std.specs.Prelude.{◌≡◌, ◌+◌, ℕ, length, Result, IfOk, IfErr, OnOk}
use Rattle.amqp_core.specs.declared.faults.AskFault.{AskFault}
use Rattle.amqp_turns.specs.Sends.{Advances, IsNoReasonToWait, IsRefusedFirst, Rests, Standing}

pub record SendsInTurn (old : Standing) (result : Result ℕ AskFault) (new : Standing) : Type 0 where
  -- One message after another was sent, each the oldest of those that waited.
  pub advances : Advances old new
  -- The answer is how many were sent.
  pub count : IfOk result (λ count. count + length new.waiting ≡ length old.waiting)
  -- Then none is left, or the oldest has to wait.
  pub rests : OnOk result (Rests new)
  -- With a fault, the end refuses the oldest that is left.
  pub refused : IfErr result (λ fault. IsRefusedFirst fault new)
  -- No fault is a reason to wait.
  pub no_wait : IfErr result (λ fault. IsNoReasonToWait fault)
