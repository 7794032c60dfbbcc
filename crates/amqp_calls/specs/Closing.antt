-- Closes that C asks of an end behind a handle, each for a method. Read before: what an ask of an end does (`Asked` of
-- `amqp_core`).
use Rattle.std.specs.Prelude.{◌≡◌, ℕ, if◌then◌else◌, Option, Some, None, Result, ◌⊎◌}
use Rattle.amqp_method.specs.declared.kinds.Kind.{Kind}
use Rattle.amqp_model.specs.End.Asks as asks
use Rattle.amqp_model.specs.End.Asks.{Ask}
use Rattle.amqp_model.specs.End.Closes.{cause_of}
use Rattle.amqp_core.specs.Stream.Asks.{StreamAsked}
use Rattle.amqp_core.specs.declared.faults.AskFault.{AskFault}
use Rattle.amqp_core.specs.declared.roles.Role.{Ghosts}
use Rattle.amqp_core.specs.declared.stream.StreamEnd.{StreamEnd}
use Rattle.amqp_handle.specs.declared.kept.HeldEnd.{HeldEnd}
use Rattle.amqp_handle.specs.declared.kept.Kept.{Kept}
use Rattle.amqp_calls.specs.EndAsks.{IsTooLong}
use Rattle.amqp_calls.specs.EndNumbers.{asked_status}
use Rattle.amqp_calls.specs.HeldEnds.{Does}
use Rattle.amqp_calls.specs.Messages.{unmade_status}
use Rattle.amqp_calls.specs.Writing.{kind_numbered}
use Rattle.amqp_calls.specs.declared.ends.closing.Close as code
use Rattle.amqp_calls.specs.declared.ends.closing.Close.TheVariants.{Channel, Connection}
use Rattle.amqp_calls.specs.declared.ends.closing.GivenClose.{GivenClose}
use Rattle.amqp_calls.specs.declared.ends.messages.Unmade.{Unmade}
use Rattle.amqp_calls.specs.declared.ends.messages.Unmade.TheVariants.{Unread, Misfit, OutOfMemory}

-- the ask that a close is
abbrev pub close_view : code.Close → Ask
close_view (Channel channel number text kind) = asks.CloseChannel channel number text (cause_of kind)
close_view (Connection number text kind) = asks.Close number text (cause_of kind)

-- for a method of this kind
abbrev close_by : GivenClose → Option Kind → Option Ask
close_by given None = None
close_by given (Some kind) =
    if given.connection then Some (asks.Close given.code given.text.now (cause_of kind))
    else Some (asks.CloseChannel given.channel given.code given.text.now (cause_of kind))

-- the close that C means; none, where no method has the number
abbrev pub close_given : GivenClose → Option Ask
close_given given = close_by given (kind_numbered given.method)

-- why C means no close: no method has the number, or the text is too long
abbrev pub NotClose : GivenClose → Unmade → Type 0
NotClose given (Unread fault) = ⊥
NotClose given Misfit = (close_given given ≡ None) ⊎ IsTooLong given.text.now
NotClose given OutOfMemory = Unit {0}

pub record ClosedKept {R H : Type 0} {G : Ghosts R H} (old : Kept (StreamEnd R H G)) (close : Ask) (status : ℕ)
    (new : Kept (StreamEnd R H G)) : Type 0 where
  -- the end is asked, answers this, and is left so
  pub answer : Result (Unit {0}) AskFault
  pub asked : StreamAsked old.end.value close answer new.end.value
  -- the answer is told
  pub told : status ≡ asked_status answer
  -- what is gathered stays
  pub gathering : new.gathering ≡ old.gathering

-- C means no close, and the end stays as it is; or it means one, and the end is asked it
pub data ClosesKept {R H : Type 0} {G : Ghosts R H} (old : Kept (StreamEnd R H G)) (given : GivenClose) (status : ℕ)
    (new : Kept (StreamEnd R H G)) : Type 0 where
  unmade : (fault : Unmade) → NotClose given fault → status ≡ unmade_status fault → new ≡ old
      → ClosesKept old given status new
  made : (close : Ask) → close_given given ≡ Some close → ClosedKept old close status new
      → ClosesKept old given status new

abbrev pub ClosesEnd : Option HeldEnd → GivenClose → ℕ → Option HeldEnd → Type 0
ClosesEnd old given status new = Does status (λ R H G kept now. ClosesKept kept given status now) old new
