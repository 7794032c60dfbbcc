-- A frame that lies whole in the piece, on a connection that is Running.
use Rattle.std.proofs.Common.{◌≡◌, ◌≢◌, Bool, true, false, sym, ℕ, Option, Result, Ok, Err, IfOk, refl, ap, ◌∙◌}
use Rattle.std.proofs.lemmas.Bool.{true≢false}
use Rattle.amqp_frame.specs.Frame as frames
use Rattle.amqp_channel.specs.declared.events.Agreed.{Agreed}
use Rattle.amqp_model.specs.End.Channels.{Phase, Running, Closed, Failed}
use Rattle.amqp_model.specs.Lent.Alike.{LentEvent}
use Rattle.amqp_model.specs.Stream.Pieces.{reads_frames}
use Rattle.amqp_model.specs.Wire.Notes.{Role, Client, Server}
use Rattle.amqp_core.specs.Connection.Stages.{phase_at}
use Rattle.amqp_core.specs.Stream.Lending.{LentSeen}
use Rattle.amqp_core.specs.Stream.StepView.{came_lent, step_seen}
use Rattle.amqp_core.specs.declared.faults.CoreFault.{CoreFault}
use Rattle.amqp_core.specs.declared.stage.Stage.{Stage}
use Rattle.amqp_core.specs.declared.stage.Stage.TheVariants as stages
use Rattle.amqp_core.specs.declared.step.Step.{Step}
use Rattle.amqp_core.proofs.StreamLemmas.{seen_with}

abbrev lent_seen : ℕ → Option LentEvent → Result LentSeen CoreFault
lent_seen count event = Ok (record { octets = count; event = event })

-- a step of such a frame has its octets and its event
pub step_is : (said : Result Step CoreFault) (octets : ℕ) (event : Option LentEvent) (given : Option frames.Frame)
    → IfOk said (λ step. step.octets ≡ octets)
    → IfOk said (λ step. (there : Option frames.Frame) → came_lent step.came there ≡ event)
    → step_seen said given ≡ seen_with said octets event
step_is (Ok step) octets event given counted told =
    ap (λ (n : ℕ). lent_seen n (came_lent step.came given)) counted ∙ ap (lent_seen octets) (told given)
step_is (Err fault) octets event given counted told = refl

pub if_all : {A : Type 0} (said : Result A CoreFault) (P : Type 0) → P → IfOk said (λ done. P)
if_all (Ok done) P p = p
if_all (Err fault) P p = tt

running_read : (role : Role) → reads_frames role Running ≡ true
running_read Client = refl
running_read Server = refl

-- a connection that is Running reads frames
pub running_reads : (role : Role) (stage : Stage) (agreed : Agreed) → stage ≡ stages.Running agreed
    → reads_frames role (phase_at stage) ≡ true
running_reads role stage agreed is = ap (λ (s : Stage). reads_frames role (phase_at s)) is ∙ running_read role

-- a connection that is Running is neither closed nor failed
abbrev is_running : Phase → Bool
is_running Running = true
is_running phase = false

pub phase_is : (phase : Phase) → phase ≡ Running → (phase ≢ Closed) × (phase ≢ Failed)
phase_is phase is =
    ((λ closed. true≢false (ap is_running (sym is ∙ closed))), (λ failed. true≢false (ap is_running (sym is ∙ failed))))

pub running_is : (stage : Stage) (agreed : Agreed) → stage ≡ stages.Running agreed → (phase_at stage ≢ Closed) × (phase_at stage ≢ Failed)
running_is stage agreed is = phase_is (phase_at stage) (ap phase_at is)
