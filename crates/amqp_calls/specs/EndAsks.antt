-- What C asks of an end behind a handle, and what comes of it. Read before: what an ask of an end does (`Asked` of
-- `amqp_core`), and what a decision does (`Controlled`).
use Rattle.std.specs.Prelude.{◌≡◌, ℕ, List, length, false, nat_eq, nat_lt, if◌then◌else◌, Option, Some}
use Rattle.std.specs.Prelude.{None, Result, Ok, Err, ◌⊎◌, unwrap_or}
use Rattle.amqp_model.specs.End.Asks.{Ask, Open, Flow, CloseChannel, Close, Blocked, Unblocked}
use Rattle.amqp_model.specs.End.Closes.{no_cause}
use Rattle.amqp_model.specs.End.Controls.{Control, Beat, Admit, Refuse, AnswerStart}
use Rattle.amqp_core.specs.Stream.Asks.{StreamAnswersNumber, StreamAsked}
use Rattle.amqp_core.specs.Stream.Controls.{StreamControlled}
use Rattle.amqp_core.specs.declared.faults.AskFault.{AskFault}
use Rattle.amqp_core.specs.declared.roles.Role.{Ghosts}
use Rattle.amqp_core.specs.declared.stream.StreamEnd.{StreamEnd}
use Rattle.amqp_handle.specs.declared.kept.HeldEnd.{HeldEnd}
use Rattle.amqp_handle.specs.declared.kept.Kept.{Kept}
use Rattle.amqp_calls.specs.EndNumbers.{asked_status, ask_status}
use Rattle.amqp_calls.specs.HeldEnds.{Does}
use Rattle.amqp_calls.specs.Messages.{unmade_status}
use Rattle.amqp_calls.specs.declared.ends.asking.GivenAsk.{GivenAsk}
use Rattle.amqp_calls.specs.declared.ends.controlling.GivenControl.{GivenControl}
use Rattle.amqp_calls.specs.declared.ends.messages.Unmade.{Unmade}
use Rattle.amqp_calls.specs.declared.ends.messages.Unmade.TheVariants.{Unread, Misfit, OutOfMemory}

-- there are more than 255 octets
abbrev pub IsTooLong : List ℕ → Type 0
IsTooLong octets = nat_lt (length octets) 256 ≡ false

-- why octets aren't a text
abbrev pub NotText : List ℕ → Unmade → Type 0
NotText octets (Unread fault) = ⊥
NotText octets Misfit = IsTooLong octets
NotText octets OutOfMemory = Unit {0}

-- ---- asks

-- the ask that C means, by its kind
abbrev pub ask_given : GivenAsk → Option Ask
ask_given given =
    if nat_eq given.kind 1 then Some Open
    else (if nat_eq given.kind 2 then Some (Flow given.channel given.active)
    else (if nat_eq given.kind 3 then Some (CloseChannel given.channel given.code given.text.now no_cause)
    else (if nat_eq given.kind 4 then Some (Close given.code given.text.now no_cause)
    else (if nat_eq given.kind 5 then Some (Blocked given.text.now)
    else (if nat_eq given.kind 6 then Some Unblocked
    else None)))))

-- why C means no ask: none has this kind, or its text is too long
abbrev pub NotAsk : GivenAsk → Unmade → Type 0
NotAsk given (Unread fault) = ⊥
NotAsk given Misfit = (ask_given given ≡ None) ⊎ IsTooLong given.text.now
NotAsk given OutOfMemory = Unit {0}

-- the channel that is answered, 0 where there is none
abbrev pub ToldAsked : Result (Option ℕ) AskFault → ℕ → ℕ → Type 0
ToldAsked (Ok number) status channel = (status ≡ 0) × (channel ≡ unwrap_or number 0)
ToldAsked (Err fault) status channel = status ≡ ask_status fault

pub record AskedKept {R H : Type 0} {G : Ghosts R H} (old : Kept (StreamEnd R H G)) (ask : Ask) (status channel : ℕ)
    (new : Kept (StreamEnd R H G)) : Type 0 where
  -- the end is asked, answers this, and is left so
  pub answer : Result (Option ℕ) AskFault
  pub asked : StreamAsked old.end.value ask answer new.end.value
  pub number : StreamAnswersNumber old.end.value ask answer
  -- the answer is told
  pub told : ToldAsked answer status channel
  -- what is gathered stays
  pub gathering : new.gathering ≡ old.gathering

-- C means no ask, and the end stays as it is; or it means one, and the end is asked it
pub data AsksOne {R H : Type 0} {G : Ghosts R H} (old : Kept (StreamEnd R H G)) (given : GivenAsk) (status channel : ℕ)
    (new : Kept (StreamEnd R H G)) : Type 0 where
  unmade : (fault : Unmade) → NotAsk given fault → status ≡ unmade_status fault → new ≡ old
      → AsksOne old given status channel new
  made : (ask : Ask) → ask_given given ≡ Some ask → AskedKept old ask status channel new
      → AsksOne old given status channel new

abbrev pub AsksEnd : Option HeldEnd → GivenAsk → ℕ → ℕ → Option HeldEnd → Type 0
AsksEnd old given status channel new = Does status (λ R H G kept now. AsksOne kept given status channel now) old new

-- ---- heartbeats, and what an application decides in the handshake

-- what C means, by its kind
abbrev pub control_given : GivenControl → Option Control
control_given given =
    if nat_eq given.kind 1 then Some Beat
    else (if nat_eq given.kind 2 then Some Admit
    else (if nat_eq given.kind 3 then Some (Refuse given.code given.text.now)
    else (if nat_eq given.kind 4 then Some (AnswerStart given.text.now given.response.now given.locale.now)
    else None)))

-- why C means none: there is none of this kind, or a text is too long
abbrev pub NotControl : GivenControl → Unmade → Type 0
NotControl given (Unread fault) = ⊥
NotControl given Misfit = (control_given given ≡ None) ⊎ (IsTooLong given.text.now ⊎ IsTooLong given.locale.now)
NotControl given OutOfMemory = Unit {0}

pub record ControlledKept {R H : Type 0} {G : Ghosts R H} (old : Kept (StreamEnd R H G)) (control : Control) (status : ℕ)
    (new : Kept (StreamEnd R H G)) : Type 0 where
  -- the end answers this, and is left so
  pub answer : Result (Unit {0}) AskFault
  pub controlled : StreamControlled old.end.value control answer new.end.value
  -- the answer is told
  pub told : status ≡ asked_status answer
  -- what is gathered stays
  pub gathering : new.gathering ≡ old.gathering

-- C means none, and the end stays as it is; or it means one, which is done
pub data ControlsOne {R H : Type 0} {G : Ghosts R H} (control : Option Control)
    (Not : Unmade → Type 0) (old : Kept (StreamEnd R H G)) (status : ℕ) (new : Kept (StreamEnd R H G)) : Type 0 where
  unmade : (fault : Unmade) → Not fault → status ≡ unmade_status fault → new ≡ old
      → ControlsOne control Not old status new
  made : (meant : Control) → control ≡ Some meant → ControlledKept old meant status new
      → ControlsOne control Not old status new

abbrev pub ControlsKept : {R H : Type 0} {G : Ghosts R H} → (old : Kept (StreamEnd R H G)) → GivenControl → ℕ
    → (new : Kept (StreamEnd R H G)) → Type 0
ControlsKept old given status new = ControlsOne (control_given given) (NotControl given) old status new

abbrev pub ControlsEnd : Option HeldEnd → GivenControl → ℕ → Option HeldEnd → Type 0
ControlsEnd old given status new = Does status (λ R H G kept now. ControlsKept kept given status now) old new
