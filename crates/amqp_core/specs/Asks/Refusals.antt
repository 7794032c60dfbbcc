-- Why what is asked is refused, part by part, in the order of the refusals.
use Rattle.std.specs.Prelude.{◌≡◌, ◌<◌, ◌≤◌, Bool, not, ◌&&◌, ◌||◌, ◌+◌, nat_lt, ℕ, List, [], ◌∷◌, length, Option, Some}
use Rattle.std.specs.Prelude.{None}
use Rattle.amqp_model.specs.End.Asks.{Refusal, BadChannel, NotOpen, Paused, NotSendable, TooLarge, ReplyPending}
use Rattle.amqp_model.specs.End.Asks.{NoSuchRequest, when, first_refusal, not_running, bad_number, is_not_open}
use Rattle.amqp_model.specs.End.Asks.{is_pausable, is_sendable, channel_max}
use Rattle.amqp_model.specs.End.Channels.{Life, End, Open, Running}
use Rattle.amqp_model.specs.End.Events.{Message, Plain, Whole, method_of}
use Rattle.amqp_model.specs.End.FrameVerdict.{answers_first}
use Rattle.amqp_model.specs.Wire.Methods.{MethodKind, Method, is_request, is_reply, plain_method, plain_header}
use Rattle.amqp_model.specs.Wire.Notes.{Role, Client, Server}
use Rattle.amqp_model.specs.End.ReadingBack.{header_of}
use Rattle.amqp_core.specs.Faults.Numbers.{refusal_view}
use Rattle.amqp_core.specs.declared.faults.AskFault.{AskFault}

abbrev pub refusal_there : Option AskFault → Option Refusal
refusal_there None = None
refusal_there (Some fault) = refusal_view fault

-- the refusals of an ask that speaks of a channel: the first three, and then others
abbrev pub refused_on : End → (number : ℕ) → (later : List (Option Refusal)) → Option Refusal
refused_on end number later =
    first_refusal (not_running end ∷ when (bad_number end (Some number)) BadChannel
    ∷ when (is_not_open end (Some number)) NotOpen ∷ later)

-- the channel is Open, and there is such a channel on a connection that is Running
pub record IsOpenIn (end : End) (number : ℕ) (life : Life) : Type 0 where
  pub running : end.phase ≡ Running
  pub above : 0 < number
  pub within : number ≤ channel_max end.agreed
  pub life_is : end.channels number ≡ Open life

-- eight octets stand around the payload of a frame
abbrev pub passes : (frame_max : ℕ) → List ℕ → Bool
passes frame_max payload = nat_lt frame_max (length payload + 8)

abbrev pub is_too_large : (frame_max : ℕ) → Message → Bool
is_too_large frame_max (Plain method) = passes frame_max (plain_method method)
is_too_large frame_max (Whole content) =
    passes frame_max (plain_method content.method) || passes frame_max (plain_header (header_of content))

-- a client's request while one waits, and a server's reply that doesn't answer the oldest request
abbrev pub reply_refusal : Role → List MethodKind → Method → Option Refusal
reply_refusal Client requests method = when (is_request method && nat_lt 0 (length requests)) ReplyPending
reply_refusal Server requests method =
    when (is_reply method.kind && not (answers_first method.kind requests)) NoSuchRequest

-- why a message is refused on a channel that is Open, reason by reason, and the first of these reasons
abbrev pub by_pause : Life → Message → Option Refusal
by_pause life message = when (is_pausable message && life.paused) Paused

abbrev pub by_kind : Role → Message → Option Refusal
by_kind role message = when (not (is_sendable role (method_of message).kind)) NotSendable

abbrev pub by_size : (frame_max : ℕ) → Message → Option Refusal
by_size frame_max message = when (is_too_large frame_max message) TooLarge

abbrev pub refusal_in : Role → (frame_max : ℕ) → Life → Message → Option Refusal
refusal_in role frame_max life message =
    first_refusal
    (by_pause life message
    ∷ by_kind role message
    ∷ by_size frame_max message
    ∷ reply_refusal role life.requests (method_of message)
    ∷ [])
