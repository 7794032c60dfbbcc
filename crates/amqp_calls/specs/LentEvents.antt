-- What a feed of an end behind a handle does whose events lend. Read before: what a feed of such an end does (`Lends`
-- of `amqp_core`).
use Rattle.std.specs.Prelude.{◌≡◌, ◌≢◌, ◌⊎◌, ℕ, List, true, false, Option, Some, None, Result, Ok, Err}
use Rattle.amqp_method.specs.Encoding.{EncodesMethod}
use Rattle.amqp_method.specs.Properties.{header, EncodesHeader}
use Rattle.amqp_model.specs.End.Events as events
use Rattle.amqp_model.specs.Lent.Alike.{LentEvent, WithoutContent, Begins, Heads, Part, Other}
use Rattle.amqp_core.specs.Stream.Lending.{LentSeen}
use Rattle.amqp_core.specs.Stream.Lends.{Lends}
use Rattle.amqp_core.specs.Stream.StepView.{step_seen}
use Rattle.amqp_core.specs.Stream.View.{given_in}
use Rattle.amqp_core.specs.declared.faults.CoreFault.{CoreFault}
use Rattle.amqp_core.specs.declared.roles.Role.{Ghosts}
use Rattle.amqp_core.specs.declared.stream.StreamEnd.{StreamEnd}
use Rattle.amqp_handle.specs.declared.kept.HeldEnd.{HeldEnd}
use Rattle.amqp_handle.specs.declared.kept.Kept.{Kept}
use Rattle.amqp_calls.specs.EndNumbers.{core_status}
use Rattle.amqp_calls.specs.Feeding.{TellsCode}
use Rattle.amqp_calls.specs.HeldEnds.{Of}
use Rattle.amqp_calls.specs.declared.ends.events.SeenEvent.{SeenEvent}
use Rattle.amqp_calls.specs.declared.ends.feeding.FedEnd.{FedEnd}
use Rattle.amqp_calls.specs.declared.ends.lending.Lent.{Lent}

-- ---- what is told

-- the reason of the other end's close
abbrev pub TellsReason : Option events.Reason → SeenEvent → Type 0
TellsReason None out = out.holds ≡ false
TellsReason (Some reason) out = (out.holds ≡ true) × (out.code ≡ reason.code) × (out.text.now ≡ reason.text)

-- an event of which no content is a part
abbrev TellsOther : events.Event → SeenEvent → Type 0
TellsOther (events.Negotiated agreed) out =
    (out.kind ≡ 1) × (out.channel_max ≡ agreed.channel_max) × (out.frame_max ≡ agreed.frame_max)
    × (out.heartbeat ≡ agreed.heartbeat)
TellsOther (events.Opened channel) out = (out.kind ≡ 2) × (out.channel ≡ channel)
TellsOther (events.Told channel message) out = ⊥
TellsOther (events.Flow channel active) out = (out.kind ≡ 4) × (out.channel ≡ channel) × (out.holds ≡ active)
TellsOther (events.FlowOk channel active) out = (out.kind ≡ 5) × (out.channel ≡ channel) × (out.holds ≡ active)
TellsOther (events.ChannelClosed channel reason) out =
    (out.kind ≡ 6) × (out.channel ≡ channel) × TellsReason reason out
TellsOther (events.ConnectionClosed reason) out = (out.kind ≡ 7) × TellsReason reason out
TellsOther (events.Discarded channel) out = (out.kind ≡ 8) × (out.channel ≡ channel)
TellsOther (events.Blocked reason) out = (out.kind ≡ 9) × (out.text.now ≡ reason)
TellsOther events.Unblocked out = out.kind ≡ 10
TellsOther events.Quiet out = out.kind ≡ 11
TellsOther events.AnswerAsked out = out.kind ≡ 12
TellsOther events.LoginAsked out = out.kind ≡ 13
TellsOther events.OpenAsked out = out.kind ≡ 14

-- an event, with the octets as they came
abbrev pub TellsEvent : LentEvent → SeenEvent → Type 0
TellsEvent (WithoutContent channel method) out =
    (out.kind ≡ 3) × (out.channel ≡ channel) × EncodesMethod method out.method.now × (out.holds ≡ false)
TellsEvent (Begins channel method) out =
    (out.kind ≡ 15) × (out.channel ≡ channel) × EncodesMethod method out.method.now
TellsEvent (Heads channel size properties whole) out =
    (out.kind ≡ 16) × (out.channel ≡ channel) × EncodesHeader (header size properties) out.header.now
    × (out.holds ≡ whole)
TellsEvent (Part channel octets whole) out =
    (out.kind ≡ 17) × (out.channel ≡ channel) × (out.body.now ≡ octets) × (out.holds ≡ whole)
TellsEvent (Other event) out = TellsOther event out

-- the event, if there is one
abbrev pub TellsMaybe : Option LentEvent → FedEnd → SeenEvent → Type 0
TellsMaybe None fed out = fed.kind ≡ 0
TellsMaybe (Some event) fed out = (fed.kind ≡ out.kind) × TellsEvent event out

-- an answer
abbrev pub TellsLent : Result LentSeen CoreFault → ℕ → FedEnd → SeenEvent → Type 0
TellsLent (Ok seen) status fed out = (status ≡ 0) × (fed.taken ≡ seen.octets) × TellsMaybe seen.event fed out
TellsLent (Err fault) status fed out = (status ≡ core_status fault) × TellsCode fault fed.code

-- ---- what the end does

-- what is answered to a piece: what came of it, with the frame that lies in the end's buffer
abbrev pub lent_seen : {R H : Type 0} {G : Ghosts R H} → Result (Lent R H G) CoreFault → Result LentSeen CoreFault
lent_seen (Ok lent) = step_seen (Ok lent.step) (given_in lent.end.now)
lent_seen (Err fault) = Err fault

-- the end is fed the piece, answers this, and gathers nothing
pub record LendsKept {R H : Type 0} {G : Ghosts R H} (old : Kept (StreamEnd R H G)) (piece : List ℕ)
    (seen : Result LentSeen CoreFault)
    (new : Kept (StreamEnd R H G)) : Type 0 where
  pub lends : Lends old.end.value piece seen new.end.value
  pub gathering : new.gathering ≡ old.gathering

-- this is what an end answers to a piece
pub record LentAnswer {R H : Type 0} {G : Ghosts R H} (old : StreamEnd R H G) (piece : List ℕ)
    (seen : Result LentSeen CoreFault) : Type 0 where
  -- the end that is left
  pub new : StreamEnd R H G
  pub lends : Lends old piece seen new

-- the answer is told; one that gathers is fed by another call
abbrev pub FeedsOne : {R H : Type 0} {G : Ghosts R H} → Kept (StreamEnd R H G) → List ℕ → ℕ → FedEnd → SeenEvent → Type 0
FeedsOne kept piece status fed out =
    ((status ≡ 3) × (kept.gathering ≢ None))
    ⊎ ((seen : Result LentSeen CoreFault) × LentAnswer kept.end.value piece seen × TellsLent seen status fed out)

-- a handle that isn't open is refused
abbrev pub FeedsLent : Option HeldEnd → List ℕ → ℕ → FedEnd → SeenEvent → Type 0
FeedsLent held piece status fed out = Of status (λ R H G kept. FeedsOne kept piece status fed out) held
