-- How what an end keeps follows an entry, and the histories that what it keeps stands for.
--
-- An entry of a channel above 0 changes the record of that channel alone, and by that record and the entry alone.
use Rattle.std.specs.Prelude.{◌≡◌, ◌≤◌, Bool, true, false, cond, not, ◌&&◌, ◌||◌, ℕ, zero, suc}
use Rattle.std.specs.Prelude.{◌==◌, List, [], ◌∷◌, ◌++◌, drop, length, Option, Some, None}
use Rattle.amqp_method.specs.declared.kinds.Kind.TheVariants as kinds
use Rattle.amqp_model.specs.Wire.Frame.{Frame}
use Rattle.amqp_model.specs.Wire.Notes.{Role, Client, Server, is_client, is_server, Kind}
use Rattle.amqp_model.specs.History.Lives.{is_alive, waits, has_open_ok, is_paused, awaits_flow_ok}
use Rattle.amqp_model.specs.Wire.Methods.{MethodKind, Method, same_kind, is_reply}
use Rattle.amqp_model.specs.Wire.Gathering.{Gathering, Nothing, HeaderDue, BodyDue, step, remains}
use Rattle.amqp_model.specs.Wire.Readings.{Reading, Calls, is_call, kind_of, payload_of, reading as reading_of}
use Rattle.amqp_model.specs.History.Histories.{History, ChannelEntry, PutHere, TookHere, LeftHere, entries_on, notes}
use Rattle.amqp_model.specs.History.Histories.{under_way, entries_before_leaving}
use Rattle.amqp_model.specs.History.Replies.{asked_by, answered_by, requested, replied, unreplied}
use Rattle.amqp_model.specs.End.Channels.{Life, Channel, Free, Opening, Closing, Open, new_life, HandshakeStep}
use Rattle.amqp_model.specs.End.Channels.{AwaitsProtocolHeader, AwaitsStart, AwaitsStartOk, AwaitsTune, AwaitsTuneOk}
use Rattle.amqp_model.specs.End.Channels.{AwaitsOpen, AwaitsOpenOk, HoldsStart, HoldsLogin, HoldsOpen, Phase, Handshake}
use Rattle.amqp_model.specs.End.Channels.{Running, Closed, Failed, Agreed, End}
use Rattle.amqp_model.specs.History.Negotiation.{Config, agreed_in}
use Rattle.amqp_model.specs.End.StateFromHistory.{accepted, awaits_tune_ok, phase_from, agreed_from}
use Rattle.amqp_model.specs.End.Closes.{FrameError, Owed, frame_of}
use Rattle.amqp_model.specs.End.Events.{Peer, FrameVerdict, Faults}
use Rattle.amqp_model.specs.End.FrameVerdict.{answers_first, verdict_on, methods_put}
use Rattle.amqp_model.specs.End.EndVerdict.{facts_at}

-- What an entry leaves of each part of a life.

abbrev pub content_after : ChannelEntry → Gathering → Gathering
content_after (TookHere reading frame) kept = remains (step kept (payload_of reading)) (payload_of reading)
content_after entry kept = kept

abbrev pub paused_by : Kind → Bool → Bool
paused_by (Kind.Flow active) paused = not active
paused_by kind paused = paused

-- a flow taken pauses the end, or lets it go on
abbrev pub paused_after : ChannelEntry → Bool → Bool
paused_after (TookHere reading frame) paused = paused_by (kind_of reading) paused
paused_after entry paused = paused

abbrev pub asks_flow : Kind → Bool → Bool
asks_flow (Kind.Flow active) awaits = true
asks_flow kind awaits = awaits

abbrev pub hears_flow_ok : Kind → Bool → Bool
hears_flow_ok (Kind.FlowOk active) awaits = false
hears_flow_ok kind awaits = awaits

-- a flow put is unanswered until flow-ok is taken
abbrev pub awaits_after : ChannelEntry → Bool → Bool
awaits_after (PutHere reading frame) awaits = asks_flow (kind_of reading) awaits
awaits_after (TookHere reading frame) awaits = hears_flow_ok (kind_of reading) awaits
awaits_after LeftHere awaits = awaits

-- a reply takes the oldest request away, and a request comes last
abbrev pub with_asked : List MethodKind → List MethodKind → List MethodKind
with_asked [] requests = requests
with_asked asked requests = requests ++ asked

abbrev pub requests_after : Role → ChannelEntry → Gathering → List MethodKind → List MethodKind
requests_after role entry kept requests = with_asked (asked_by role entry) (drop (answered_by role entry kept) requests)

abbrev pub life_after : Role → ChannelEntry → Life → Life
life_after role entry life =
    record {
      content = content_after entry life.content;
      paused = paused_after entry life.paused;
      awaits = awaits_after entry life.awaits;
      requests = requests_after role entry life.content life.requests;
    }

-- What an entry leaves of a channel's record, by what the frame is to the channel.

-- an open put begins a life at a client
abbrev pub free_after_putting : Role → Kind → Channel
free_after_putting Client Kind.Open = Opening
free_after_putting role kind = Free

-- a close put waits for close-ok
abbrev pub open_after_putting : Role → ChannelEntry → Life → Kind → Channel
open_after_putting role entry life Kind.Close = Closing
open_after_putting role entry life kind = Open (life_after role entry life)

abbrev pub channel_after_put : Role → ChannelEntry → Channel → Kind → Channel
channel_after_put role entry Free kind = free_after_putting role kind
channel_after_put role entry Opening kind = Opening
channel_after_put role entry Closing kind = Closing
channel_after_put role entry (Open life) kind = open_after_putting role entry life kind

-- an open taken begins a life at a server
abbrev pub free_after_taking : Role → Kind → Channel
free_after_taking Server Kind.Open = Open new_life
free_after_taking role kind = Free

-- open-ok lets a client begin, and a close ends the life before it did
abbrev pub opening_after_taking : Role → Kind → Channel
opening_after_taking role Kind.Close = Free
opening_after_taking Client Kind.OpenOk = Open new_life
opening_after_taking role kind = Opening

-- close-ok frees the number
abbrev pub closing_after_taking : Kind → Channel
closing_after_taking Kind.CloseOk = Free
closing_after_taking kind = Closing

-- the other's close ends the life
abbrev pub open_after_taking : Role → ChannelEntry → Life → Kind → Channel
open_after_taking role entry life Kind.Close = Free
open_after_taking role entry life kind = Open (life_after role entry life)

abbrev pub after_taken : Role → ChannelEntry → Channel → Kind → Channel
after_taken role entry Free kind = free_after_taking role kind
after_taken role entry Opening kind = opening_after_taking role kind
after_taken role entry Closing kind = closing_after_taking kind
after_taken role entry (Open life) kind = open_after_taking role entry life kind

abbrev pub channel_after : Role → ChannelEntry → Channel → Channel
channel_after role (PutHere reading frame) channel = channel_after_put role (PutHere reading frame) channel (kind_of reading)
channel_after role (TookHere reading frame) channel =
    after_taken role (TookHere reading frame) channel (kind_of reading)
channel_after role LeftHere channel = channel

-- What an entry of channel 0 leaves of the phase and of what was agreed.

-- A step never goes back: what is taken or put moves the earlier ones.

abbrev pub after_start : HandshakeStep → HandshakeStep
after_start AwaitsStart = HoldsStart
after_start step = step

abbrev pub after_start_ok_put : HandshakeStep → HandshakeStep
after_start_ok_put AwaitsStart = AwaitsTune
after_start_ok_put HoldsStart = AwaitsTune
after_start_ok_put step = step

abbrev pub after_start_put : HandshakeStep → HandshakeStep
after_start_put AwaitsProtocolHeader = AwaitsStartOk
after_start_put step = step

abbrev pub after_start_ok : HandshakeStep → HandshakeStep
after_start_ok AwaitsProtocolHeader = HoldsLogin
after_start_ok AwaitsStartOk = HoldsLogin
after_start_ok step = step

abbrev pub after_tune_put : HandshakeStep → HandshakeStep
after_tune_put AwaitsProtocolHeader = AwaitsTuneOk
after_tune_put AwaitsStartOk = AwaitsTuneOk
after_tune_put HoldsLogin = AwaitsTuneOk
after_tune_put step = step

abbrev pub after_tune_ok : HandshakeStep → HandshakeStep
after_tune_ok HoldsOpen = HoldsOpen
after_tune_ok step = AwaitsOpen

-- the client's handshake goes on with start and tune, the server's with start-ok, tune-ok and open
abbrev pub step_taken : Role → Reading → HandshakeStep → HandshakeStep
step_taken Client reading step =
    cond (is_call kinds.ConnectionTune reading) AwaitsOpenOk
    (cond (is_call kinds.ConnectionStart reading) (after_start step) step)
step_taken Server reading step =
    cond (is_call kinds.ConnectionOpen reading) HoldsOpen
    (cond (is_call kinds.ConnectionTuneOk reading) (after_tune_ok step)
    (cond (is_call kinds.ConnectionStartOk reading) (after_start_ok step) step))

-- and with the answers: the client's start-ok, the server's start and tune
abbrev pub step_put : Role → Reading → HandshakeStep → HandshakeStep
step_put Client reading step = cond (is_call kinds.ConnectionStartOk reading) (after_start_ok_put step) step
step_put Server reading step =
    cond (is_call kinds.ConnectionTune reading) (after_tune_put step)
    (cond (is_call kinds.ConnectionStart reading) (after_start_put step) step)

-- open-ok ends the handshake: a client takes it, a server puts it
abbrev pub taken_ends_handshake : Role → Reading → Bool
taken_ends_handshake Client reading = is_call kinds.ConnectionOpenOk reading
taken_ends_handshake Server reading = false

abbrev pub put_ends_handshake : Role → Reading → Bool
put_ends_handshake Client reading = false
put_ends_handshake Server reading = is_call kinds.ConnectionOpenOk reading

abbrev is_any_close : Reading → Bool
is_any_close reading = is_call kinds.ConnectionClose reading || is_call kinds.ConnectionCloseOk reading

abbrev pub phase_taken : Role → Reading → Phase → Phase
phase_taken role reading (Handshake step) =
    cond (is_any_close reading) Closed (cond (taken_ends_handshake role reading) Running
    (Handshake (step_taken role reading step)))
phase_taken role reading Running = cond (is_any_close reading) Closed Running
phase_taken role reading Phase.Closing = cond (is_call kinds.ConnectionCloseOk reading) Closed Phase.Closing
phase_taken role reading phase = phase

abbrev pub phase_put : Role → Reading → Phase → Phase
phase_put role reading (Handshake step) =
    cond (is_call kinds.ConnectionClose reading) Phase.Closing
    (cond (put_ends_handshake role reading) Running (Handshake (step_put role reading step)))
phase_put role reading Running = cond (is_call kinds.ConnectionClose reading) Phase.Closing Running
phase_put role reading phase = phase

abbrev pub phase_after : Role → ChannelEntry → Phase → Phase
phase_after role (TookHere reading frame) phase = phase_taken role reading phase
phase_after role (PutHere reading frame) phase = phase_put role reading phase
phase_after role LeftHere phase = phase

-- a client settles with the tune-ok that it puts, a server with the one that it awaits
abbrev pub agreed_after : (role : Role) → Config role → Phase → ChannelEntry → Option Agreed → Option Agreed
agreed_after Client config phase (PutHere (Calls method) frame) agreed =
    cond (same_kind method.kind kinds.ConnectionTuneOk) (Some (agreed_in method)) agreed
agreed_after Server config phase (TookHere (Calls method) frame) agreed =
    cond (same_kind method.kind kinds.ConnectionTuneOk && awaits_tune_ok phase)
    (accepted config (agreed_in method)) agreed
agreed_after role config phase entry agreed = agreed

-- once the end has put connection.close, no channel changes
abbrev pub unless_leaving : Phase → Channel → Channel → Channel
unless_leaving Phase.Closing before after = before
unless_leaving phase before after = after

abbrev pub set_channel : (number : ℕ) → Channel → (ℕ → Channel) → ℕ → Channel
set_channel number channel channels other = cond (other == number) channel (channels other)

-- what an entry on this channel leaves of what an end keeps
abbrev pub end_after : (role : Role) → Config role → (number : ℕ) → ChannelEntry → End → End
end_after role config zero entry end =
    record {
      phase = phase_after role entry end.phase;
      agreed = agreed_after role config end.phase entry end.agreed;
      channels = end.channels;
    }
end_after role config (suc n) entry end =
    record {
      phase = end.phase;
      agreed = end.agreed;
      channels = set_channel (suc n) (unless_leaving end.phase (end.channels (suc n))
          (channel_after role entry (end.channels (suc n)))) end.channels;
    }

-- the methods that a verdict owes are put, each as an entry of its channel
abbrev pub end_after_owed : (role : Role) → Config role → List Owed → End → End
end_after_owed role config [] end = end
end_after_owed role config (owed ∷ later) end =
    end_after_owed role config later (end_after role config owed.channel
    (PutHere (Calls owed.method) (frame_of owed)) end)

-- the frames of an accepted ask are put, each as an entry of its channel
abbrev pub end_after_put : (role : Role) → Config role → List Frame → End → End
end_after_put role config [] end = end
end_after_put role config (frame ∷ later) end =
    end_after_put role config later (end_after role config frame.channel (PutHere (reading_of frame) frame) end)

-- an end that has failed keeps what was agreed
abbrev pub as_failed : End → End
as_failed end = record { phase = Failed; agreed = end.agreed; channels = end.channels }

abbrev pub failed_by : FrameVerdict → End → End
failed_by (Faults fault) end = as_failed end
failed_by verdict end = end

-- An end takes a frame that says this: its verdict, and what the end keeps then. An end that is closed or has failed
-- takes no frame, so this says nothing of it.
abbrev pub taken_verdict : {role : Role} → Config role → End → (number : ℕ) → Reading → FrameVerdict
taken_verdict config end number reading = verdict_on (facts_at config end number) reading

abbrev pub end_after_taken : (role : Role) → Config role → End → Reading → Frame → End
end_after_taken role config end reading frame =
    failed_by (taken_verdict config end frame.channel reading)
    (end_after_owed role config (methods_put (facts_at config end frame.channel)
    (taken_verdict config end frame.channel reading))
    (end_after role config frame.channel (TookHere reading frame) end))

-- Octets show a frame above the limit: the end closes the connection, and has failed.
abbrev pub end_after_too_large : (role : Role) → Config role → End → End
end_after_too_large role config end =
    as_failed (end_after_owed role config (methods_put (facts_at config end 0) (Faults (Peer FrameError))) end)

-- A new end, and a server that has put start.
abbrev first_step : Role → HandshakeStep
first_step Client = AwaitsStart
first_step Server = AwaitsProtocolHeader

abbrev pub new_end : Role → End
new_end role = record { phase = Handshake (first_step role); agreed = None; channels = λ number. Free }

-- a server's reply answers the oldest request that it keeps
abbrev pub answers_in_turn : Role → List MethodKind → Reading → Bool
answers_in_turn Server requests (Calls method) = not (is_reply method.kind) || answers_first method.kind requests
answers_in_turn role requests reading = true

abbrev pub is_open_method : Kind → Bool
is_open_method Kind.Open = true
is_open_method kind = false

abbrev pub is_close_ok : Kind → Bool
is_close_ok Kind.CloseOk = true
is_close_ok kind = false

-- What an end may put on a channel: a client's open where it is Free; after a close that it took, close-ok; all else
-- where it is Open, but no open, and a server's replies in the order of the requests.
abbrev pub may_put_here : Role → Channel → Reading → Bool
may_put_here role Free reading = (is_client role && is_open_method (kind_of reading)) || is_close_ok (kind_of reading)
may_put_here role Opening reading = false
may_put_here role Closing reading = is_close_ok (kind_of reading)
may_put_here role (Open life) reading = not (is_open_method (kind_of reading)) && answers_in_turn role life.requests reading

-- What a record says of the entries that it stands for.

abbrev pub IsAnswerable : Method → List MethodKind → Type 0
IsAnswerable method requests = is_reply method.kind ≡ true → answers_first method.kind requests ≡ true

-- a reply under way at a client still has its request
abbrev pub HasItsRequest : Role → Gathering → List MethodKind → Type 0
HasItsRequest Server kept requests = Unit {0}
HasItsRequest Client Nothing requests = Unit {0}
HasItsRequest Client (HeaderDue method) requests = IsAnswerable method requests
HasItsRequest Client (BodyDue method size properties body) requests = IsAnswerable method requests

-- an Open channel: its life goes on, the end does not wait for close-ok, and each part of the record is what the
-- entries count to
pub record CountsOpen (role : Role) (life : Life) (entries : List ChannelEntry) : Type 0 where
  pub alive : is_alive role (notes entries) ≡ true
  pub stays : waits (notes entries) ≡ false
  pub opened : (is_server role || has_open_ok role (notes entries)) ≡ true
  pub content : under_way entries ≡ life.content
  pub paused : is_paused role (notes entries) ≡ life.paused
  pub awaits : awaits_flow_ok role (notes entries) ≡ life.awaits
  pub requests : unreplied role entries ≡ life.requests
  pub bounded : replied role entries ≤ length (requested role entries)
  pub answerable : HasItsRequest role life.content life.requests

-- an Opening channel: its life goes on, there was no open-ok yet, and nothing else has come
pub record CountsOpening (role : Role) (entries : List ChannelEntry) : Type 0 where
  pub alive : is_alive role (notes entries) ≡ true
  pub stays : waits (notes entries) ≡ false
  pub unopened : (is_server role || has_open_ok role (notes entries)) ≡ false
  pub not_paused : is_paused role (notes entries) ≡ false
  pub no_flow : awaits_flow_ok role (notes entries) ≡ false
  pub no_request : requested role entries ≡ []
  pub no_reply : replied role entries ≡ 0

-- a Free channel has no life, and the end does not wait; a Closing one has its life, and the end waits
abbrev pub Counts : Role → Channel → List ChannelEntry → Type 0
Counts role Free entries = (is_alive role (notes entries) ≡ false) × (waits (notes entries) ≡ false)
Counts role Opening entries = CountsOpening role entries
Counts role Closing entries = (is_alive role (notes entries) ≡ true) × (waits (notes entries) ≡ true)
Counts role (Open life) entries = CountsOpen role life entries

-- the record stands for the entries of its channel
abbrev pub ChannelStandsFor : Role → Channel → List ChannelEntry → Type 0
ChannelStandsFor role channel entries = Counts role channel (entries_before_leaving entries)

-- What an end keeps stands for its history. Until the handshake is over every channel is Free. Of an end that has
-- failed no channel is looked at any more.
pub record StandsFor (role : Role) (config : Config role) (failed : Bool) (end : End) (history : History) : Type 0 where
  pub phase : phase_from role failed (entries_on 0 history) ≡ end.phase
  pub agreed : agreed_from role config (entries_on 0 history) ≡ end.agreed
  pub no_channel : end.channels 0 ≡ Free
  pub free_before : (step : HandshakeStep) → end.phase ≡ Handshake step → (n : ℕ) → end.channels n ≡ Free
  pub channels : failed ≡ false → (n : ℕ)
      → ChannelStandsFor role (end.channels (suc n)) (entries_on (suc n) history)
