-- The steps of the handshake, one by one.
use Rattle.std.proofs.Common.{◌≡◌, ◌<◌, ◌==◌, ◌&&◌, Bool, true, false, min, ℕ, [], ◌∷◌, Option, Some, None, refl, sym, arith}
use Rattle.amqp_method.specs.declared.kinds.Kind.TheVariants as kinds
use Rattle.amqp_model.specs.End.Channels as channels
use Rattle.amqp_model.specs.End.Channels.{Channel, End, Phase, Handshake, Running, Closing, Closed, Failed, HandshakeStep, AwaitsProtocolHeader, AwaitsStart, AwaitsStartOk, AwaitsTune, AwaitsTuneOk, AwaitsOpen, AwaitsOpenOk, HoldsStart, HoldsLogin, HoldsOpen, Agreed}
use Rattle.amqp_model.specs.End.Closes.{FrameError, CommandInvalid, NotImplemented, connection_close_ok}
use Rattle.amqp_model.specs.End.EndVerdict.{takes_frames}
use Rattle.amqp_model.specs.End.Events.{Event, Fault, FrameVerdict, Proceeds, Faults, Fatal, Quiet, AnswerAsked, LoginAsked, OpenAsked, Negotiated}
use Rattle.amqp_model.specs.End.FrameVerdict.{on_zero, fault, closed_by, is_awaited, verdict_on}
use Rattle.amqp_model.specs.Wire.Methods.{Method, MethodKind, same_kind, number_at}
use Rattle.amqp_model.specs.History.Negotiation.{Hello, OfClient, Config, smaller, agreed_in, tunes_too_small, connection_open_ok}
use Rattle.amqp_model.specs.Wire.Notes.{Role, Client, Server, is_client}
use Rattle.amqp_model.specs.End.StateFromHistory.{awaits_tune_ok}
use Rattle.amqp_model.specs.History.Histories.{TookHere}
use Rattle.amqp_model.specs.Wire.Readings.{Reading, Calls}
use Rattle.amqp_channel.specs.Channels.Used.{is_closing_at}
use Rattle.amqp_core.specs.Connection.View.{EndLeft, frame_at}
use Rattle.amqp_core.specs.Connection.Handshakes.{within, is_in_handshake, awaited_in, answers_at, answered_in}
use Rattle.amqp_core.specs.Connection.Owed.{answers_start, tunes, answers_tune}
use Rattle.amqp_core.specs.Connection.Stages.{leaves}
use Rattle.amqp_core.proofs.EntryLemmas.{agreed_above}
use Rattle.amqp_core.proofs.KindLemmas.{same_is}
use Rattle.std.proofs.lemmas.Bool.Decides.{nat_tests}

and_false : (b : Bool) → (b && false) ≡ false
and_false true = refl
and_false false = refl

-- an end at this phase
abbrev pub end_in : Phase → Option Agreed → (ℕ → Channel) → End
end_in phase agreed channels = record { phase = phase; agreed = agreed; channels = channels }

-- the verdict on a method on channel 0
abbrev pub verdict_0 : {role : Role} → Config role → Phase → Option Agreed → Method → FrameVerdict
verdict_0 config phase agreed method = verdict_on (record { config = config; phase = phase; agreed = agreed; number = 0; channel = channels.Free }) (Calls method)

abbrev settled_up : {role : Role} → (frame_max channel_max max_body heartbeat : ℕ) (gated : Bool) → Hello role → Config role
settled_up frame_max channel_max max_body heartbeat gated hello =
    record { frame_max = frame_max; channel_max = channel_max; max_body = max_body; heartbeat = heartbeat; gated = gated; hello = hello }

-- The other end closes the connection.

pub closed_verdict : (role : Role) (config : Config role) (phase : Phase) (agreed : Option Agreed) (method : Method) → takes_frames phase ≡ true → leaves phase ≡ false → method.kind ≡ kinds.ConnectionClose → verdict_0 config phase agreed method ≡ closed_by method
closed_verdict role config (Handshake step) agreed method takes stays e = rw e refl
closed_verdict role config Running agreed method takes stays e = rw e refl
closed_verdict role config Closing agreed method takes stays e = cc
closed_verdict role config Closed agreed method takes stays e = cc
closed_verdict role config Failed agreed method takes stays e = cc

pub closed_left : (role : Role) (config : Config role) (phase : Phase) (agreed : Option Agreed) (channels : ℕ → Channel) (method : Method) (event : Option Event) → takes_frames phase ≡ true → leaves phase ≡ false → method.kind ≡ kinds.ConnectionClose → EndLeft config 0 (Calls method) (Proceeds event (connection_close_ok ∷ [])) (end_in phase agreed channels) (end_in Closed agreed channels)
closed_left Client config (Handshake step) agreed channels method event takes stays e = λ kind payload. rw e refl
closed_left Server config (Handshake step) agreed channels method event takes stays e = λ kind payload. rw e refl
closed_left Client config Running agreed channels method event takes stays e = λ kind payload. rw e refl
closed_left Server config Running agreed channels method event takes stays e = λ kind payload. rw e refl
closed_left role config Closing agreed channels method event takes stays e = cc
closed_left role config Closed agreed channels method event takes stays e = cc
closed_left role config Failed agreed channels method event takes stays e = cc

-- A client answers start.

pub start_verdict : (role : Role) (config : Config role) (agreed : Option Agreed) (method : Method) → role ≡ Client → method.kind ≡ kinds.ConnectionStart → config.gated ≡ false → verdict_0 config (Handshake AwaitsStart) agreed method ≡ Proceeds (Some Quiet) (answers_start role config)
start_verdict Client config agreed method r e g = rw (e, g) refl
start_verdict Server config agreed method r e g = cc

start_by_hello : (frame_max channel_max max_body heartbeat : ℕ) (gated : Bool) (hello : Hello Client) (agreed : Option Agreed) (channels : ℕ → Channel) (method : Method) → method.kind ≡ kinds.ConnectionStart → EndLeft (settled_up frame_max channel_max max_body heartbeat gated hello) 0 (Calls method) (Proceeds (Some Quiet) (answers_start Client (settled_up frame_max channel_max max_body heartbeat gated hello))) (end_in (Handshake AwaitsStart) agreed channels) (end_in (Handshake AwaitsTune) agreed channels)
start_by_hello frame_max channel_max max_body heartbeat gated (OfClient properties mechanism response locale virtual_host) agreed channels method e = λ kind payload. rw e refl

pub start_left : (role : Role) (config : Config role) (agreed : Option Agreed) (channels : ℕ → Channel) (method : Method) → role ≡ Client → method.kind ≡ kinds.ConnectionStart → EndLeft config 0 (Calls method) (Proceeds (Some Quiet) (answers_start role config)) (end_in (Handshake AwaitsStart) agreed channels) (end_in (Handshake AwaitsTune) agreed channels)
start_left Client config agreed channels method r e = start_by_hello config.frame_max config.channel_max config.max_body config.heartbeat config.gated config.hello agreed channels method e
start_left Server config agreed channels method r e = cc

-- A gated client asks its application what to answer.

pub start_asks : (role : Role) (config : Config role) (agreed : Option Agreed) (method : Method) → role ≡ Client → method.kind ≡ kinds.ConnectionStart → config.gated ≡ true → verdict_0 config (Handshake AwaitsStart) agreed method ≡ Proceeds (Some AnswerAsked) []
start_asks Client config agreed method r e g = rw (e, g) refl
start_asks Server config agreed method r e g = cc

pub start_held : (role : Role) (config : Config role) (agreed : Option Agreed) (channels : ℕ → Channel) (method : Method) → role ≡ Client → method.kind ≡ kinds.ConnectionStart → EndLeft config 0 (Calls method) (Proceeds (Some AnswerAsked) []) (end_in (Handshake AwaitsStart) agreed channels) (end_in (Handshake HoldsStart) agreed channels)
start_held Client config agreed channels method r e = λ kind payload. rw e refl
start_held Server config agreed channels method r e = cc

-- A server answers start-ok with tune, or asks.

pub start_ok_verdict : (role : Role) (config : Config role) (agreed : Option Agreed) (method : Method) → role ≡ Server → method.kind ≡ kinds.ConnectionStartOk → config.gated ≡ false → verdict_0 config (Handshake AwaitsStartOk) agreed method ≡ Proceeds (Some Quiet) (tunes role config)
start_ok_verdict Server config agreed method r e g = rw (e, g) refl
start_ok_verdict Client config agreed method r e g = cc

pub start_ok_left : (role : Role) (config : Config role) (agreed : Option Agreed) (channels : ℕ → Channel) (method : Method) → role ≡ Server → method.kind ≡ kinds.ConnectionStartOk → EndLeft config 0 (Calls method) (Proceeds (Some Quiet) (tunes role config)) (end_in (Handshake AwaitsStartOk) agreed channels) (end_in (Handshake AwaitsTuneOk) agreed channels)
start_ok_left Server config agreed channels method r e = λ kind payload. rw e refl
start_ok_left Client config agreed channels method r e = cc

pub start_ok_asks : (role : Role) (config : Config role) (agreed : Option Agreed) (method : Method) → role ≡ Server → method.kind ≡ kinds.ConnectionStartOk → config.gated ≡ true → verdict_0 config (Handshake AwaitsStartOk) agreed method ≡ Proceeds (Some LoginAsked) []
start_ok_asks Server config agreed method r e g = rw (e, g) refl
start_ok_asks Client config agreed method r e g = cc

pub start_ok_held : (role : Role) (config : Config role) (agreed : Option Agreed) (channels : ℕ → Channel) (method : Method) → role ≡ Server → method.kind ≡ kinds.ConnectionStartOk → EndLeft config 0 (Calls method) (Proceeds (Some LoginAsked) []) (end_in (Handshake AwaitsStartOk) agreed channels) (end_in (Handshake HoldsLogin) agreed channels)
start_ok_held Server config agreed channels method r e = λ kind payload. rw e refl
start_ok_held Client config agreed channels method r e = cc

-- A server answers open, or asks, and a client takes open-ok.

pub open_verdict : (role : Role) (config : Config role) (agreed : Agreed) (method : Method) → role ≡ Server → method.kind ≡ kinds.ConnectionOpen → config.gated ≡ false → verdict_0 config (Handshake AwaitsOpen) (Some agreed) method ≡ Proceeds (Some (Negotiated agreed)) (on_zero connection_open_ok ∷ [])
open_verdict Server config agreed method r e g = rw (e, g) refl
open_verdict Client config agreed method r e g = cc

pub open_left : (role : Role) (config : Config role) (agreed : Agreed) (channels : ℕ → Channel) (method : Method) (event : Option Event) → role ≡ Server → method.kind ≡ kinds.ConnectionOpen → EndLeft config 0 (Calls method) (Proceeds event (on_zero connection_open_ok ∷ [])) (end_in (Handshake AwaitsOpen) (Some agreed) channels) (end_in Running (Some agreed) channels)
open_left Server config agreed channels method event r e = λ kind payload. rw e refl
open_left Client config agreed channels method event r e = cc

pub open_asks : (role : Role) (config : Config role) (agreed : Agreed) (method : Method) → role ≡ Server → method.kind ≡ kinds.ConnectionOpen → config.gated ≡ true → verdict_0 config (Handshake AwaitsOpen) (Some agreed) method ≡ Proceeds (Some OpenAsked) []
open_asks Server config agreed method r e g = rw (e, g) refl
open_asks Client config agreed method r e g = cc

pub open_held : (role : Role) (config : Config role) (agreed : Agreed) (channels : ℕ → Channel) (method : Method) → role ≡ Server → method.kind ≡ kinds.ConnectionOpen → EndLeft config 0 (Calls method) (Proceeds (Some OpenAsked) []) (end_in (Handshake AwaitsOpen) (Some agreed) channels) (end_in (Handshake HoldsOpen) (Some agreed) channels)
open_held Server config agreed channels method r e = λ kind payload. rw e refl
open_held Client config agreed channels method r e = cc

pub open_ok_verdict : (role : Role) (config : Config role) (agreed : Agreed) (method : Method) → role ≡ Client → method.kind ≡ kinds.ConnectionOpenOk → verdict_0 config (Handshake AwaitsOpenOk) (Some agreed) method ≡ Proceeds (Some (Negotiated agreed)) []
open_ok_verdict Client config agreed method r e = rw e refl
open_ok_verdict Server config agreed method r e = cc

pub open_ok_left : (role : Role) (config : Config role) (agreed : Agreed) (channels : ℕ → Channel) (method : Method) (event : Option Event) → role ≡ Client → method.kind ≡ kinds.ConnectionOpenOk → EndLeft config 0 (Calls method) (Proceeds event []) (end_in (Handshake AwaitsOpenOk) (Some agreed) channels) (end_in Running (Some agreed) channels)
open_ok_left Client config agreed channels method event r e = λ kind payload. rw e refl
open_ok_left Server config agreed channels method event r e = cc

-- A client answers tune with tune-ok and open, unless it is tuned too small.

pub tune_verdict : (role : Role) (config : Config role) (agreed : Option Agreed) (channel_max frame_max heartbeat : ℕ) (method : Method) → role ≡ Client → method.kind ≡ kinds.ConnectionTune → tunes_too_small method ≡ false → channel_max ≡ smaller config.channel_max (number_at 0 method) → frame_max ≡ smaller config.frame_max (number_at 1 method) → heartbeat ≡ min config.heartbeat (number_at 2 method) → verdict_0 config (Handshake AwaitsTune) agreed method ≡ Proceeds (Some Quiet) (answers_tune role config (record { channel_max = channel_max; frame_max = frame_max; heartbeat = heartbeat }))
tune_verdict Client config agreed channel_max frame_max heartbeat method r e small c f b = rw (c, f, b, e, small) refl
tune_verdict Server config agreed channel_max frame_max heartbeat method r e small c f b = cc

tune_by_hello : (frame_most channel_most max_body heartbeat : ℕ) (gated : Bool) (hello : Hello Client) (agreed : Option Agreed) (settled_to : Agreed) (channels : ℕ → Channel) (method : Method) → method.kind ≡ kinds.ConnectionTune → EndLeft (settled_up frame_most channel_most max_body heartbeat gated hello) 0 (Calls method) (Proceeds (Some Quiet) (answers_tune Client (settled_up frame_most channel_most max_body heartbeat gated hello) settled_to)) (end_in (Handshake AwaitsTune) agreed channels) (end_in (Handshake AwaitsOpenOk) (Some settled_to) channels)
tune_by_hello frame_most channel_most max_body heartbeat gated (OfClient properties mechanism response locale virtual_host) agreed settled_to channels method e = λ kind payload. rw e refl

pub tune_left : (role : Role) (config : Config role) (agreed : Option Agreed) (settled_to : Agreed) (channels : ℕ → Channel) (method : Method) → role ≡ Client → method.kind ≡ kinds.ConnectionTune → EndLeft config 0 (Calls method) (Proceeds (Some Quiet) (answers_tune role config settled_to)) (end_in (Handshake AwaitsTune) agreed channels) (end_in (Handshake AwaitsOpenOk) (Some settled_to) channels)
tune_left Client config agreed settled_to channels method r e = tune_by_hello config.frame_max config.channel_max config.max_body config.heartbeat config.gated config.hello agreed settled_to channels method e
tune_left Server config agreed settled_to channels method r e = cc

pub tune_fault : (role : Role) (config : Config role) (agreed : Option Agreed) (method : Method) → role ≡ Client → method.kind ≡ kinds.ConnectionTune → tunes_too_small method ≡ true → verdict_0 config (Handshake AwaitsTune) agreed method ≡ fault FrameError
tune_fault Client config agreed method r e small = rw (e, small) refl
tune_fault Server config agreed method r e small = cc

-- A server takes a tune-ok within its own limits.

pub tune_ok_verdict : (role : Role) (config : Config role) (agreed : Option Agreed) (method : Method) → role ≡ Server → method.kind ≡ kinds.ConnectionTuneOk → within config.channel_max config.frame_max (number_at 0 method) (number_at 1 method) ≡ true → verdict_0 config (Handshake AwaitsTuneOk) agreed method ≡ Proceeds (Some Quiet) []
tune_ok_verdict Server config agreed method r e w = rw (e, w) refl
tune_ok_verdict Client config agreed method r e w = cc

pub tune_ok_left : (role : Role) (config : Config role) (agreed : Option Agreed) (channels : ℕ → Channel) (method : Method) → role ≡ Server → method.kind ≡ kinds.ConnectionTuneOk → within config.channel_max config.frame_max (number_at 0 method) (number_at 1 method) ≡ true → EndLeft config 0 (Calls method) (Proceeds (Some Quiet) []) (end_in (Handshake AwaitsTuneOk) agreed channels) (end_in (Handshake AwaitsOpen) (Some (agreed_in method)) channels)
tune_ok_left Server config agreed channels method r e w = λ kind payload. rw (e, w) refl
tune_ok_left Client config agreed channels method r e w = cc

pub tune_ok_fault : (role : Role) (config : Config role) (agreed : Option Agreed) (method : Method) → role ≡ Server → method.kind ≡ kinds.ConnectionTuneOk → within config.channel_max config.frame_max (number_at 0 method) (number_at 1 method) ≡ false → verdict_0 config (Handshake AwaitsTuneOk) agreed method ≡ Faults Fatal
tune_ok_fault Server config agreed method r e w = rw (e, w) refl
tune_ok_fault Client config agreed method r e w = cc

pub tune_ok_failed : (role : Role) (config : Config role) (channels : ℕ → Channel) (method : Method) (fault : Fault) → role ≡ Server → method.kind ≡ kinds.ConnectionTuneOk → within config.channel_max config.frame_max (number_at 0 method) (number_at 1 method) ≡ false → EndLeft config 0 (Calls method) (Faults fault) (end_in (Handshake AwaitsTuneOk) None channels) (end_in (Handshake AwaitsTuneOk) None channels)
tune_ok_failed Server config channels method fault r e w = ((λ kind payload. rw (e, w) refl), refl)
tune_ok_failed Client config channels method fault r e w = cc

-- What has no place in the handshake.

above_zero : (n : ℕ) → 0 < n → (n == 0) ≡ false
above_zero n h = grind (arith, nat_tests)

pub off_channel : (role : Role) (config : Config role) (phase : Phase) (agreed : Option Agreed) (number : ℕ) (channel : Channel) (method : Method) → is_in_handshake phase ≡ true → is_closing_at channel ≡ false → 0 < number → verdict_on (record { config = config; phase = phase; agreed = agreed; number = number; channel = channel }) (Calls method) ≡ fault CommandInvalid
off_channel role config (Handshake step) agreed number channels.Free method h stays above = rw (above_zero number above) refl
off_channel role config (Handshake step) agreed number channels.Opening method h stays above = rw (above_zero number above) refl
off_channel role config (Handshake step) agreed number (channels.Open life) method h stays above = rw (above_zero number above) refl
off_channel role config (Handshake step) agreed number channels.Closing method h stays above = cc
off_channel role config Running agreed number channel method h stays above = cc
off_channel role config Closing agreed number channel method h stays above = cc
off_channel role config Closed agreed number channel method h stays above = cc
off_channel role config Failed agreed number channel method h stays above = cc

pub secure_verdict : (role : Role) (config : Config role) (phase : Phase) (agreed : Option Agreed) (method : Method) → is_in_handshake phase ≡ true → role ≡ Client → same_kind method.kind kinds.ConnectionClose ≡ false → same_kind method.kind kinds.ConnectionSecure ≡ true → verdict_0 config phase agreed method ≡ fault NotImplemented
secure_verdict Client config (Handshake step) agreed method h r close secure = rw (close, secure) refl
secure_verdict Server config phase agreed method h r close secure = cc
secure_verdict role config Running agreed method h r close secure = cc
secure_verdict role config Closing agreed method h r close secure = cc
secure_verdict role config Closed agreed method h r close secure = cc
secure_verdict role config Failed agreed method h r close secure = cc

pub order_verdict : (role : Role) (config : Config role) (phase : Phase) (agreed : Option Agreed) (method : Method) → is_in_handshake phase ≡ true → same_kind method.kind kinds.ConnectionClose ≡ false → (is_client role && same_kind method.kind kinds.ConnectionSecure) ≡ false → awaited_in phase method.kind ≡ false → verdict_0 config phase agreed method ≡ fault CommandInvalid
order_verdict role config (Handshake step) agreed method h close secure awaited = rw (close, secure, awaited) refl
order_verdict role config Running agreed method h close secure awaited = cc
order_verdict role config Closing agreed method h close secure awaited = cc
order_verdict role config Closed agreed method h close secure awaited = cc
order_verdict role config Failed agreed method h close secure awaited = cc

-- The awaited method, of a side that does not answer it, is out of order too.

pub wrong_side : (role : Role) (config : Config role) (step : HandshakeStep) (agreed : Option Agreed) (method : Method) → is_awaited step method.kind ≡ true → answers_at role step ≡ false → verdict_0 config (Handshake step) agreed method ≡ fault CommandInvalid
wrong_side Client config AwaitsStartOk agreed method awaited wrong = rw (same_is method.kind kinds.ConnectionStartOk awaited) refl
wrong_side Client config AwaitsTuneOk agreed method awaited wrong = rw (same_is method.kind kinds.ConnectionTuneOk awaited) refl
wrong_side Client config AwaitsOpen agreed method awaited wrong = rw (same_is method.kind kinds.ConnectionOpen awaited) refl
wrong_side Server config AwaitsStart agreed method awaited wrong = rw (same_is method.kind kinds.ConnectionStart awaited) refl
wrong_side Server config AwaitsTune agreed method awaited wrong = rw (same_is method.kind kinds.ConnectionTune awaited) refl
wrong_side Server config AwaitsOpenOk agreed method awaited wrong = rw (same_is method.kind kinds.ConnectionOpenOk awaited) refl
wrong_side role config AwaitsProtocolHeader agreed method awaited wrong = cc
wrong_side role config HoldsStart agreed method awaited wrong = cc
wrong_side role config HoldsLogin agreed method awaited wrong = cc
wrong_side role config HoldsOpen agreed method awaited wrong = cc
wrong_side Client config AwaitsStart agreed method awaited wrong = cc
wrong_side Client config AwaitsTune agreed method awaited wrong = cc
wrong_side Client config AwaitsOpenOk agreed method awaited wrong = cc
wrong_side Server config AwaitsStartOk agreed method awaited wrong = cc
wrong_side Server config AwaitsTuneOk agreed method awaited wrong = cc
wrong_side Server config AwaitsOpen agreed method awaited wrong = cc

-- A fault that comes with no tune-ok that is awaited leaves what was agreed.

no_tune_ok : (step : HandshakeStep) (kind : MethodKind) → is_awaited step kind ≡ false → (same_kind kind kinds.ConnectionTuneOk && awaits_tune_ok (Handshake step)) ≡ false
no_tune_ok AwaitsTuneOk kind h = rw h refl
no_tune_ok AwaitsProtocolHeader kind h = and_false (same_kind kind kinds.ConnectionTuneOk)
no_tune_ok AwaitsStart kind h = and_false (same_kind kind kinds.ConnectionTuneOk)
no_tune_ok AwaitsStartOk kind h = and_false (same_kind kind kinds.ConnectionTuneOk)
no_tune_ok AwaitsTune kind h = and_false (same_kind kind kinds.ConnectionTuneOk)
no_tune_ok AwaitsOpen kind h = and_false (same_kind kind kinds.ConnectionTuneOk)
no_tune_ok AwaitsOpenOk kind h = and_false (same_kind kind kinds.ConnectionTuneOk)
no_tune_ok HoldsStart kind h = and_false (same_kind kind kinds.ConnectionTuneOk)
no_tune_ok HoldsLogin kind h = and_false (same_kind kind kinds.ConnectionTuneOk)
no_tune_ok HoldsOpen kind h = and_false (same_kind kind kinds.ConnectionTuneOk)

pub order_left : (role : Role) (config : Config role) (phase : Phase) (agreed : Option Agreed) (channels : ℕ → Channel) (method : Method) (fault : Fault) → awaited_in phase method.kind ≡ false → EndLeft config 0 (Calls method) (Faults fault) (end_in phase agreed channels) (end_in phase agreed channels)
order_left Client config phase agreed channels method fault h = ((λ kind payload. refl), refl)
order_left Server config (Handshake step) agreed channels method fault h = ((λ kind payload. rw (no_tune_ok step method.kind h) refl), refl)
order_left Server config Running agreed channels method fault h = ((λ kind payload. rw (and_false (same_kind method.kind kinds.ConnectionTuneOk)) refl), refl)
order_left Server config Closing agreed channels method fault h = ((λ kind payload. rw (and_false (same_kind method.kind kinds.ConnectionTuneOk)) refl), refl)
order_left Server config Closed agreed channels method fault h = ((λ kind payload. rw (and_false (same_kind method.kind kinds.ConnectionTuneOk)) refl), refl)
order_left Server config Failed agreed channels method fault h = ((λ kind payload. rw (and_false (same_kind method.kind kinds.ConnectionTuneOk)) refl), refl)

pub above_left : (role : Role) (config : Config role) (number : ℕ) (reading : Reading) (end : End) (fault : Fault) → 0 < number → EndLeft config number reading (Faults fault) end end
above_left role config number reading end fault h = ((λ kind payload. sym (agreed_above role config number (TookHere reading (frame_at number kind payload)) end h)), refl)

pub wrong_verdict : (role : Role) (config : Config role) (phase : Phase) (agreed : Option Agreed) (method : Method) → is_in_handshake phase ≡ true → awaited_in phase method.kind ≡ true → answered_in role phase ≡ false → verdict_0 config phase agreed method ≡ fault CommandInvalid
wrong_verdict role config (Handshake step) agreed method h awaited wrong = wrong_side role config step agreed method awaited wrong
wrong_verdict role config Running agreed method h awaited wrong = cc
wrong_verdict role config Closing agreed method h awaited wrong = cc
wrong_verdict role config Closed agreed method h awaited wrong = cc
wrong_verdict role config Failed agreed method h awaited wrong = cc

-- a step that a server does not answer is not that of tune-ok
not_tune_ok : (phase : Phase) → answered_in Server phase ≡ false → awaits_tune_ok phase ≡ false
not_tune_ok (Handshake AwaitsTuneOk) h = cc
not_tune_ok (Handshake AwaitsProtocolHeader) h = refl
not_tune_ok (Handshake AwaitsStart) h = refl
not_tune_ok (Handshake AwaitsStartOk) h = refl
not_tune_ok (Handshake AwaitsTune) h = refl
not_tune_ok (Handshake AwaitsOpen) h = refl
not_tune_ok (Handshake AwaitsOpenOk) h = refl
not_tune_ok (Handshake HoldsStart) h = refl
not_tune_ok (Handshake HoldsLogin) h = refl
not_tune_ok (Handshake HoldsOpen) h = refl
not_tune_ok Running h = refl
not_tune_ok Closing h = refl
not_tune_ok Closed h = refl
not_tune_ok Failed h = refl

pub wrong_left : (role : Role) (config : Config role) (phase : Phase) (agreed : Option Agreed) (channels : ℕ → Channel) (method : Method) (fault : Fault) → answered_in role phase ≡ false → EndLeft config 0 (Calls method) (Faults fault) (end_in phase agreed channels) (end_in phase agreed channels)
wrong_left Client config phase agreed channels method fault h = ((λ kind payload. refl), refl)
wrong_left Server config phase agreed channels method fault h = ((λ kind payload. rw (not_tune_ok phase h, and_false (same_kind method.kind kinds.ConnectionTuneOk)) refl), refl)

-- a method of the connection that is no tune-ok leaves what was agreed
pub secure_left : (role : Role) (config : Config role) (phase : Phase) (agreed : Option Agreed) (channels : ℕ → Channel) (method : Method) (fault : Fault) → role ≡ Client → EndLeft config 0 (Calls method) (Faults fault) (end_in phase agreed channels) (end_in phase agreed channels)
secure_left Client config phase agreed channels method fault r = ((λ kind payload. refl), refl)
secure_left Server config phase agreed channels method fault r = cc
