-- Messages that C sends through an end behind a handle. Read before: what an ask of an end does (`Asked` of
-- `amqp_core`).
use Rattle.std.specs.Prelude.{◌≡◌, ◌≢◌, ℕ, List, length, Option, Result}
use Rattle.amqp_method.specs.Arguments.{Call}
use Rattle.amqp_method.specs.Encoding.{EncodesMethod}
use Rattle.amqp_method.specs.Messages.{Letter, letter_with}
use Rattle.amqp_method.specs.Properties.{ContentHeader}
use Rattle.amqp_model.specs.End.Asks.{Send}
use Rattle.amqp_channel.specs.Events.EventView.{message_of}
use Rattle.amqp_core.specs.Stream.Asks.{StreamAsked}
use Rattle.amqp_core.specs.declared.faults.AskFault.{AskFault}
use Rattle.amqp_core.specs.declared.roles.Role.{Ghosts}
use Rattle.amqp_core.specs.declared.stream.StreamEnd.{StreamEnd}
use Rattle.amqp_handle.specs.declared.kept.HeldEnd.{HeldEnd}
use Rattle.amqp_handle.specs.declared.kept.Kept.{Kept}
use Rattle.amqp_calls.specs.EndNumbers.{asked_status}
use Rattle.amqp_calls.specs.HeldEnds.{Does}
use Rattle.amqp_calls.specs.Messages.{unmade_status, IsLetter, NotContent, NotLetter}
use Rattle.amqp_calls.specs.declared.ends.messages.Unmade.{Unmade}

-- an end is asked to send a message
pub record SentKept {R H : Type 0} {G : Ghosts R H} (old : Kept (StreamEnd R H G)) (channel : ℕ) (letter : Letter) (status : ℕ)
    (new : Kept (StreamEnd R H G)) : Type 0 where
  -- it answers this, and is left so
  pub answer : Result (Unit {0}) AskFault
  pub asked : StreamAsked old.end.value (Send channel (message_of letter)) answer new.end.value
  -- the answer is told
  pub told : status ≡ asked_status answer
  -- what is gathered stays
  pub gathering : new.gathering ≡ old.gathering

-- a header that says another size than the body's is no such message's, and the end stays as it is; any other is sent
pub data SizedOne {R H : Type 0} {G : Ghosts R H} (old : Kept (StreamEnd R H G)) (channel : ℕ) (call : Call)
    (h : ContentHeader) (body : List ℕ)
    (status : ℕ) (new : Kept (StreamEnd R H G)) : Type 0 where
  other : h.body_size ≢ length body → status ≡ 9 → new ≡ old
      → SizedOne old channel call h body status new
  sized :
      h.body_size ≡ length body → SentKept old channel (letter_with call h.properties body) status new
      → SizedOne old channel call h body status new

-- the octets aren't a message, and the end stays as it is; or they are, and it is sent
pub data SendsOne {R H : Type 0} {G : Ghosts R H} (IsCall : Call → Type 0)
    (Not : Unmade → Type 0) (old : Kept (StreamEnd R H G)) (channel : ℕ) (header_octets body : List ℕ) (status : ℕ)
    (new : Kept (StreamEnd R H G)) : Type 0 where
  unmade :
      (fault : Unmade) → Not fault → status ≡ unmade_status fault → new ≡ old
      → SendsOne IsCall Not old channel header_octets body status new
  sent :
      (letter : Letter) → IsLetter IsCall header_octets body letter → SentKept old channel letter status new
      → SendsOne IsCall Not old channel header_octets body status new

-- a message with this method
abbrev pub SendsCall : {R H : Type 0} {G : Ghosts R H} → (old : Kept (StreamEnd R H G)) → ℕ → Call → (header_octets body : List ℕ)
    → ℕ → (new : Kept (StreamEnd R H G)) → Type 0
SendsCall old channel call header_octets body status new =
    SendsOne (λ (c : Call). c ≡ call) (NotContent header_octets body) old channel header_octets body status new

-- a message with the method of these octets
abbrev pub SendsKept : {R H : Type 0} {G : Ghosts R H} → (old : Kept (StreamEnd R H G)) → ℕ
    → (method_octets header_octets body : List ℕ) → ℕ → (new : Kept (StreamEnd R H G)) → Type 0
SendsKept old channel method_octets header_octets body status new =
    SendsOne (λ (c : Call). EncodesMethod c method_octets) (NotLetter method_octets header_octets body) old channel
    header_octets body status new

abbrev pub SendsEnd : Option HeldEnd → ℕ → (method_octets header_octets body : List ℕ) → ℕ
    → Option HeldEnd → Type 0
SendsEnd old channel method header body status new =
    Does status (λ R H G kept now. SendsKept kept channel method header body status now) old new
