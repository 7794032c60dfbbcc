-- What an end behind a handle answers of itself, as it is told, and what a write of its output does.
use Rattle.std.specs.Prelude.{Box, ◌≡◌, ◌<◌, ℕ, length, List, Option, Some, None, ◌⊎◌}
use Rattle.std.specs.Global.{Global}
use Rattle.amqp_model.specs.End.Answers.{channel_state, octets_gathered, reply_due}
use Rattle.amqp_model.specs.End.Channels.{Agreed, End}
use Rattle.amqp_model.specs.History.States.{State}
use Rattle.amqp_model.specs.Output.Outputs.{output_octets, waiting_on}
use Rattle.amqp_method.specs.declared.kinds.Kind.{Kind}
use Rattle.amqp_core.specs.End.Counted.{heartbeat_in}
use Rattle.amqp_core.specs.Connection.Stages.{phase_name}
use Rattle.amqp_core.specs.End.KeptOctets.{KeepsLent}
use Rattle.amqp_core.specs.Stream.View.{counters_of, endpoint_of}
use Rattle.amqp_core.specs.declared.roles.Role.{Ghosts}
use Rattle.amqp_core.specs.declared.stream.StreamEnd.{StreamEnd}
use Rattle.amqp_handle.specs.Gathered.{counts, more, Counts}
use Rattle.amqp_handle.specs.declared.gathering.Gathering.{Gathering}
use Rattle.amqp_handle.specs.declared.kept.HeldEnd.{HeldEnd}
use Rattle.amqp_handle.specs.declared.kept.Kept.{Kept}
use Rattle.amqp_calls.specs.EndNumbers.{phase_number}
use Rattle.amqp_calls.specs.EndWrites.{Sent}
use Rattle.amqp_calls.specs.HeldEnds.{Answers, Does, Of}
use Rattle.amqp_calls.specs.Methods.{kind_number}
use Rattle.amqp_calls.specs.declared.ends.answers.AgreedLimits.{AgreedLimits}
use Rattle.amqp_calls.specs.declared.ends.answers.ChannelTold.{ChannelTold}
use Rattle.amqp_calls.specs.declared.ends.answers.EndLook.{EndLook}

-- all are 0 before anything is agreed
abbrev pub ToldAgreed : Option Agreed → AgreedLimits → Type 0
ToldAgreed None limits = (limits.frame_max ≡ 0) × (limits.channel_max ≡ 0) × (limits.heartbeat ≡ 0)
ToldAgreed (Some agreed) limits =
    (limits.frame_max ≡ agreed.frame_max) × (limits.channel_max ≡ agreed.channel_max)
    × (limits.heartbeat ≡ agreed.heartbeat)

-- what is kept of contents that aren't whole, by an end that gathers
abbrev pub counts_in : Option (Box Gathering Global) → Counts
counts_in None = record { heads = 0; bodies = 0 }
counts_in (Some gathering) = counts gathering.value

-- so many octets are kept of a frame that isn't whole yet, and with those so many
pub record KeepsOf {R H : Type 0} {G : Ghosts R H} (kept : Kept (StreamEnd R H G)) (octets : ℕ) : Type 0 where
  pub lent : ℕ
  pub of_frames : KeepsLent kept.end.value lent
  pub in_all : octets ≡ more (more lent (counts_in kept.gathering).heads) (counts_in kept.gathering).bodies

pub record LooksAt {R H : Type 0} {G : Ghosts R H} (kept : Kept (StreamEnd R H G)) (look : EndLook) : Type 0 where
  -- the phase
  pub phase : look.phase ≡ phase_number (phase_name (endpoint_of kept.end.value).end.phase)
  -- what tune-ok settled, and the heartbeat of that
  pub agreed : ToldAgreed (endpoint_of kept.end.value).end.agreed look.agreed
  pub heartbeat : look.heartbeat ≡ heartbeat_in (endpoint_of kept.end.value).end.agreed
  -- how many octets were taken of a frame that isn't whole yet
  pub pending : look.pending ≡ length (endpoint_of kept.end.value).unfinished
  -- how many octets are kept for the peer, and how many of bodies on all channels
  pub kept_in_all : KeepsOf kept look.kept
  pub gathered : look.gathered ≡ (counts_in kept.gathering).bodies
  -- how many frames were taken, how many octets were written, and how many taken
  pub frames : look.frames_taken ≡ (counters_of kept.end.value).frames
  pub octets : look.octets_written ≡ (counters_of kept.end.value).octets
  pub taken : look.octets_taken ≡ (counters_of kept.end.value).tally.taken

abbrev pub LooksEnd : Option HeldEnd → ℕ → EndLook → Option HeldEnd → Type 0
LooksEnd old status look new = Answers status (λ R H G kept. (status ≡ 0) × LooksAt kept look) old new

abbrev pub state_told : State → ℕ
state_told State.Free = 1
state_told State.Opening = 2
state_told State.Open = 3
state_told State.Closing = 4

-- the number of a kind of method, 0 where there is none
abbrev pub kind_told : Option Kind → ℕ
kind_told None = 0
kind_told (Some kind) = kind_number kind

pub record ToldChannel (end : End) (channel : ℕ) (out : ChannelTold) : Type 0 where
  -- its state
  pub state : out.state ≡ state_told (channel_state end channel)
  -- the octets that came of a content under way
  pub gathered_octets : out.gathered ≡ octets_gathered end channel
  -- the request that is to be answered next
  pub due : out.reply_due ≡ kind_told (reply_due end channel)

abbrev pub ChannelOfEnd : Option HeldEnd → ℕ → ℕ → ChannelTold → Option HeldEnd → Type 0
ChannelOfEnd old channel status out new =
    Answers status (λ R H G kept. (status ≡ 0) × ToldChannel (endpoint_of kept.end.value).end channel out) old new

abbrev pub WaitsOnEnd : Option HeldEnd → ℕ → ℕ → ℕ → Option HeldEnd → Type 0
WaitsOnEnd old channel status out new =
    Answers status (λ R H G kept. (status ≡ 0) × (out ≡ waiting_on channel (endpoint_of kept.end.value).output)) old new

-- ---- the output

-- these octets are the output of the end
abbrev pub IsOutputOf : Option HeldEnd → List ℕ → Type 0
IsOutputOf held octets = Of 0 (λ R H G kept. octets ≡ output_octets (endpoint_of kept.end.value).output) held

abbrev pub OutputOfEnd : Option HeldEnd → ℕ → List ℕ → Type 0
OutputOfEnd held status octets =
    Of status (λ R H G kept. (status ≡ 0) × (octets ≡ output_octets (endpoint_of kept.end.value).output)) held

-- so many octets were sent, or the output has fewer, and the end stays as it is
abbrev pub WritesKept : {R H : Type 0} {G : Ghosts R H} → (old : Kept (StreamEnd R H G)) → ℕ → ℕ → (new : Kept (StreamEnd R H G)) → Type 0
WritesKept old octets status new =
    ((status ≡ 0) × Sent old.end.value octets new.end.value × (new.gathering ≡ old.gathering))
    ⊎ ((status ≡ 10) × (length (output_octets (endpoint_of old.end.value).output) < octets) × (new ≡ old))

abbrev pub WritesEnd : Option HeldEnd → ℕ → ℕ → Option HeldEnd → Type 0
WritesEnd old octets status new = Does status (λ R H G kept now. WritesKept kept octets status now) old new
