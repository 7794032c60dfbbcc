-- Each method that a verdict puts fits its fields, its channel does, and its frame is short.
use Rattle.std.proofs.Common.{◌≡◌, ◌≢◌, ◌<◌, ◌≤◌, ◌^◌, ◌==◌, Bool, true, false, cond, not}
use Rattle.std.proofs.Common.{◌&&◌, min, ℕ, arith, List, [], ◌∷◌, ◌++◌, map, length, Option, Some, None}
use Rattle.std.proofs.Common.{refl, length-append}
use Rattle.std.specs.Prelude.{nat_lt, nat_le}
use Rattle.std.specs.Int.{bytes_high_first}
use Rattle.std.specs.List.{AllByRecursion}
use Rattle.std.proofs.lemmas.Bool.{ltb-true, ltb-false, eqb-false, false≢true, true≢false}
use Rattle.amqp_frame.specs.Frame.{frame_length}
use Rattle.amqp_method.specs.Fitting.{AreOctets, FitsShort}
use Rattle.amqp_method.specs.declared.kinds.Kind.TheVariants as kinds
use Rattle.amqp_model.specs.Wire.Notes.{Role, Client, Server, is_client, Kind, Open, OpenOk, Close, CloseOk, Flow}
use Rattle.amqp_model.specs.Wire.Notes.{FlowOk, Other}
use Rattle.amqp_model.specs.History.Verdict as lives
use Rattle.amqp_model.specs.Wire.Methods.{MethodKind, Method, ReadsBack, same_kind, sends, is_reply, is_request}
use Rattle.amqp_model.specs.Wire.Methods.{carries_content, class_of, number_at, plain_method}
use Rattle.amqp_model.specs.Wire.Gathering.{Gathering, HeaderDue, Step, Keeps, Completes, Breaks, Misfit, step}
use Rattle.amqp_model.specs.Wire.Readings.{Reading, Calls, UnknownMethod, MalformedMethod, HeaderOf, MalformedHeader}
use Rattle.amqp_model.specs.Wire.Readings.{BodyOf, Beat, is_call, kind_of, payload_of}
use Rattle.amqp_model.specs.End.Channels as channels
use Rattle.amqp_model.specs.End.Channels.{Life, Channel, Phase, Handshake, Agreed, AwaitsStart}
use Rattle.amqp_model.specs.End.Channels.{AwaitsStartOk, AwaitsTune, AwaitsTuneOk, AwaitsOpen, AwaitsOpenOk}
use Rattle.amqp_model.specs.History.Negotiation.{Hello, OfClient, Config, FRAME_MIN, start_ok, tune, settled, smaller}
use Rattle.amqp_model.specs.History.Negotiation.{tunes_too_small, tune_ok, agreed_in, in_range, connection_open}
use Rattle.amqp_model.specs.History.Negotiation.{connection_open_ok}
use Rattle.amqp_model.specs.End.Closes.{CloseCode, ContentTooLarge, FrameError, SyntaxError, CommandInvalid}
use Rattle.amqp_model.specs.End.Closes.{ChannelError, UnexpectedFrame, ResourceError, NotImplemented, number_of}
use Rattle.amqp_model.specs.End.Closes.{text_of, Cause, no_cause, close_for, Owed, AllReadBack, connection_close}
use Rattle.amqp_model.specs.End.Closes.{connection_close_ok, channel_close, reply_to, method_frame, frame_of}
use Rattle.amqp_model.specs.End.Events.{Event, AnswerAsked, LoginAsked, OpenAsked, Peer, FrameVerdict, Proceeds}
use Rattle.amqp_model.specs.End.Events.{RefusesContent, Faults}
use Rattle.amqp_model.specs.End.FrameVerdict.{Facts, on_zero, on_channel, first_of, when_over, when_leaving}
use Rattle.amqp_model.specs.End.FrameVerdict.{when_heartbeat, as_lives, lives_verdict, when_channel_closing, when_unread}
use Rattle.amqp_model.specs.End.FrameVerdict.{closed_by, is_awaited, asked_or, on_awaited, in_step, when_handshake}
use Rattle.amqp_model.specs.End.FrameVerdict.{is_no_channel, after_part, on_part, part_on, on_content, when_content}
use Rattle.amqp_model.specs.End.FrameVerdict.{on_connection, when_connection, when_misdirected, when_no_channel}
use Rattle.amqp_model.specs.End.FrameVerdict.{on_message, answers_first, MOST_REQUESTS, on_matched, on_idle}
use Rattle.amqp_model.specs.End.FrameVerdict.{is_gathering, on_open, by_state, on_method, on_rest, verdict_on}
use Rattle.amqp_model.specs.End.FrameVerdict.{methods_put}
use Rattle.amqp_model.specs.End.EndVerdict.{facts_at}
use Rattle.amqp_model.specs.End.ReadingBack.{GreetingReadsBack, AdmissionReadsBack}
use Rattle.amqp_model.specs.End.Fitting.{FRAME_MOST, HostFits, ConfigWrites, SettledFits}
use Rattle.amqp_model.specs.Laws.FittingLaws.{MethodReadsBack, OwedReadBack, CloseReadsBack, AllReadsBack}
use Rattle.amqp_model.proofs.ReadBack.{configured, open-fits, no_cause-fits, connection_close-fits, channel_close-fits}

-- what holds of each method that a verdict puts, where the frame stands on the channel of this number
pub record Sound (number : ℕ) (owed : Owed) : Type 0 where
  pub back : MethodReadsBack → ReadsBack owed.method
  pub channel : number < 2 ^ 16 → owed.channel < 2 ^ 16
  pub short : frame_length (frame_of owed) ≤ FRAME_MIN
  pub settles : same_kind owed.method.kind kinds.ConnectionTuneOk ≡ true → SettledFits (agreed_in owed.method)

abbrev pub AllSound : (number : ℕ) → List Owed → Type 0
AllSound number owed = AllByRecursion (Sound number) owed

-- ---- closes

abbrev all_small : List ℕ → Bool
all_small [] = true
all_small (octet ∷ octets) = cond (nat_lt octet 256) (all_small octets) false

octets-are : (octets : List ℕ) → all_small octets ≡ true → AreOctets octets
octets-are [] e = tt
octets-are (octet ∷ octets) e = here (nat_lt octet 256) refl e (octets-are octets)
  where
    here : (b : Bool) → nat_lt octet 256 ≡ b → cond b (all_small octets) false ≡ true
        → (all_small octets ≡ true → AreOctets octets) → AreOctets (octet ∷ octets)
    here true small e more = (ltb-true octet 256 small, more e)
    here false small e more = absurd (false≢true e)

text-fits : (code : CloseCode) → FitsShort (text_of code)
text-fits ContentTooLarge = (omega arith, octets-are (text_of ContentTooLarge) refl)
text-fits FrameError = (omega arith, octets-are (text_of FrameError) refl)
text-fits SyntaxError = (omega arith, octets-are (text_of SyntaxError) refl)
text-fits CommandInvalid = (omega arith, octets-are (text_of CommandInvalid) refl)
text-fits ChannelError = (omega arith, octets-are (text_of ChannelError) refl)
text-fits UnexpectedFrame = (omega arith, octets-are (text_of UnexpectedFrame) refl)
text-fits ResourceError = (omega arith, octets-are (text_of ResourceError) refl)
text-fits NotImplemented = (omega arith, octets-are (text_of NotImplemented) refl)

code-fits : (code : CloseCode) → number_of code < 2 ^ 16
code-fits ContentTooLarge = omega arith
code-fits FrameError = omega arith
code-fits SyntaxError = omega arith
code-fits CommandInvalid = omega arith
code-fits ChannelError = omega arith
code-fits UnexpectedFrame = omega arith
code-fits ResourceError = omega arith
code-fits NotImplemented = omega arith

-- a close with a short text has a short frame
pub connection_close-short : (channel code : ℕ) (text : List ℕ) (cause : Cause) → length text < 2 ^ 8
    → frame_length (method_frame channel (close_for kinds.ConnectionClose code text cause)) ≤ FRAME_MIN
unfolding plain_method
connection_close-short channel code text cause small =
    omega (arith, length-append text (bytes_high_first 2 cause.class_id ++ bytes_high_first 2 cause.method_id))

pub channel_close-short : (channel code : ℕ) (text : List ℕ) (cause : Cause) → length text < 2 ^ 8
    → frame_length (method_frame channel (close_for kinds.ChannelClose code text cause)) ≤ FRAME_MIN
unfolding plain_method
channel_close-short channel code text cause small =
    omega (arith, length-append text (bytes_high_first 2 cause.class_id ++ bytes_high_first 2 cause.method_id))

connection_close-sound : (number : ℕ) (code : CloseCode) → Sound number (connection_close code)
connection_close-sound number code =
    record {
      back = λ reads. reads _ (connection_close-fits (number_of code) (text_of code) no_cause (code-fits code)
          (text-fits code) no_cause-fits);
      channel = λ h. omega arith;
      short = connection_close-short 0 (number_of code) (text_of code) no_cause (text-fits code).0;
      settles = λ e. absurd (false≢true e);
    }

channel_close-sound : (number : ℕ) (code : CloseCode) → Sound number (channel_close number code)
channel_close-sound number code =
    record {
      back = λ reads.
          reads _ (channel_close-fits (number_of code) (text_of code) no_cause (code-fits code)
          (text-fits code) no_cause-fits);
      channel = λ h. h;
      short = channel_close-short number (number_of code) (text_of code) no_cause (text-fits code).0;
      settles = λ e. absurd (false≢true e);
    }

connection_close_ok-sound : (number : ℕ) → Sound number connection_close_ok
unfolding plain_method
connection_close_ok-sound number =
    record {
      back = λ reads. reads _ (record { of_kind = refl; arguments = tt });
      channel = λ h. omega arith;
      short = omega arith;
      settles = λ e. absurd (false≢true e);
    }

-- the replies to open, close and flow
replies-sound : (number : ℕ) (owed : Option Kind) → AllSound number (map (on_channel number) (reply_to owed))
unfolding plain_method
replies-sound number None = tt
replies-sound number (Some Open) = tt
replies-sound number (Some OpenOk) = (
  record {
    back = λ reads. reads _ (record { of_kind = refl; arguments = tt });
    channel = λ h. h;
    short = omega arith;
    settles = λ e. absurd (false≢true e);
  },
  tt,
)
replies-sound number (Some Close) = tt
replies-sound number (Some CloseOk) = (
  record {
    back = λ reads. reads _ (record { of_kind = refl; arguments = tt });
    channel = λ h. h;
    short = omega arith;
    settles = λ e. absurd (false≢true e);
  },
  tt,
)
replies-sound number (Some (Flow active)) = tt
replies-sound number (Some (FlowOk active)) = (
  record {
    back = λ reads. reads _ (record { of_kind = refl; arguments = (tt, tt) });
    channel = λ h. h;
    short = omega arith;
    settles = λ e. absurd (false≢true e);
  },
  tt,
)
replies-sound number (Some (Other begins)) = tt

-- ---- the handshake

start_ok-settles : (config : Config Client) → same_kind (start_ok config).kind kinds.ConnectionTuneOk ≡ true → ⊥
start_ok-settles config e = go config.hello e
  where
    go : (hello : Hello Client)
        → same_kind (start_ok (record config { hello = hello })).kind kinds.ConnectionTuneOk ≡ true → ⊥
    go (OfClient properties mechanism response locale virtual_host) e = false≢true e

connection_open-settles : (config : Config Client)
    → same_kind (connection_open config).kind kinds.ConnectionTuneOk ≡ true → ⊥
connection_open-settles config e = go config.hello e
  where
    go : (hello : Hello Client)
        → same_kind (connection_open (record config { hello = hello })).kind kinds.ConnectionTuneOk ≡ true → ⊥
    go (OfClient properties mechanism response locale virtual_host) e = false≢true e

start_ok-sound : (number : ℕ) (config : Config Client) → ConfigWrites config
    → Sound number (on_zero (start_ok config))
start_ok-sound number config fits =
    record {
      back = λ reads. fits.greeting_back;
      channel = λ h. omega arith;
      short = fits.greeting_short;
      settles = λ e. absurd (start_ok-settles config e);
    }

open-short : (a b c : ℕ) (hello : Hello Client) → HostFits hello
    → frame_length (method_frame 0 (connection_open (configured a b c hello))) ≤ FRAME_MIN
unfolding plain_method
open-short a b c (OfClient properties mechanism response locale virtual_host) fits =
    let small = fits.0 in
    omega (arith, length-append virtual_host (0 ∷ 0 ∷ []))

open-sound : (number : ℕ) (config : Config Client) → ConfigWrites config
    → Sound number (on_zero (connection_open config))
open-sound number config fits =
    record {
      back = λ reads. reads _ (open-fits config fits.host);
      channel = λ h. omega arith;
      short = open-short config.frame_max config.channel_max config.max_body config.hello fits.host;
      settles =
          λ e. absurd (connection_open-settles config e);
    }

pub open_ok-sound : (number : ℕ) → Sound number (on_zero connection_open_ok)
unfolding plain_method
open_ok-sound number =
    record {
      back = λ reads. reads _ (record { of_kind = refl; arguments = tt });
      channel = λ h. omega arith;
      short = omega arith;
      settles = λ e. absurd (false≢true e);
    }

pub tune-sound : (number : ℕ) (config : Config Server) → ConfigWrites config
    → Sound number (on_zero (tune config))
unfolding plain_method
tune-sound number config fits =
    let channels = fits.channel_most in
    let most = fits.frame_most in
    record {
      back = λ reads.
          reads _ (record { of_kind = refl; arguments = (channels, (omega arith, (fits.heartbeat_most, tt))) });
      channel =
          λ h. omega arith;
      short = omega arith;
      settles = λ e. absurd (false≢true e);
    }

smaller-below : (own others limit : ℕ) → own < limit → smaller own others < limit
smaller-below own others limit below = at (others == 0)
  where
    at : (b : Bool) → cond b own (min own others) < limit
    at true = below
    at false = omega arith

-- the smaller of two limits is no less than both, where the other's 0 means none
smaller-above : (own others limit : ℕ) → limit ≤ own → ((others == 0) ≡ false → limit ≤ others)
    → limit ≤ smaller own others
smaller-above own others limit above more = at (others == 0) refl
  where
    at : (b : Bool) → (others == 0) ≡ b → limit ≤ cond b own (min own others)
    at true e = above
    at false e = let h = more e in omega (arith, above, h)

smaller-within : (own others limit : ℕ) → own ≤ limit → smaller own others ≤ limit
smaller-within own others limit below = at (others == 0)
  where
    at : (b : Bool) → cond b own (min own others) ≤ limit
    at true = below
    at false = omega (arith, below)

not-small : (b : Bool) (n : ℕ) → (not b && nat_lt n FRAME_MIN) ≡ false → b ≡ false → FRAME_MIN ≤ n
not-small false n e z = ltb-false n FRAME_MIN e
not-small true n e z = absurd (true≢false z)

above-zero : (n : ℕ) → (n == 0) ≡ false → 1 ≤ n
above-zero n e = let some : n ≢ 0 = eqb-false n 0 e in omega (arith, some)

settled-fits : (config : Config Client) (method : Method) → tunes_too_small method ≡ false → ConfigWrites config
    → SettledFits (settled config method)
settled-fits config method large fits = record {
  channel_least = smaller-above config.channel_max (number_at 0 method) 1 fits.channel_least
      (λ e. above-zero (number_at 0 method) e);
  channel_most = smaller-below config.channel_max (number_at 0 method) (2 ^ 16) fits.channel_most;
  frame_least = smaller-above config.frame_max (number_at 1 method) FRAME_MIN fits.frame_least
      (λ e. not-small (number_at 1 method == 0) (number_at 1 method) large e);
  frame_most = smaller-within config.frame_max (number_at 1 method) FRAME_MOST fits.frame_most;
}

tune_ok-sound : (number : ℕ) (config : Config Client) (method : Method) → tunes_too_small method ≡ false
    → ConfigWrites config → Sound number (on_zero (tune_ok (settled config method)))
unfolding plain_method
tune_ok-sound number config method large fits =
    let most = fits.frame_most in
    record {
      back = λ reads.
          reads _ (record {
            of_kind = refl;
            arguments = (
              smaller-below config.channel_max (number_at 0 method) (2 ^ 16) fits.channel_most,
              (
                smaller-below config.frame_max (number_at 1 method) (2 ^ 32) (omega arith),
                (let heartbeat = fits.heartbeat_most in omega arith, tt),
              ),
            );
          });
      channel = λ h. omega arith;
      short = omega arith;
      settles = λ e. settled-fits config method large fits;
    }

-- ---- verdicts

-- the methods that go with a verdict are sound
abbrev VerdictSound : (number : ℕ) → FrameVerdict → Type 0
VerdictSound number (Proceeds event owed) = AllSound number owed
VerdictSound number RefusesContent = Unit {0}
VerdictSound number (Faults fault) = Unit {0}

abbrev RuleSound : (number : ℕ) → Option FrameVerdict → Type 0
RuleSound number None = Unit {0}
RuleSound number (Some verdict) = VerdictSound number verdict

first-sound : (number : ℕ) (rules : List (Option FrameVerdict)) (last : FrameVerdict)
    → AllByRecursion (RuleSound number) rules → VerdictSound number last
    → VerdictSound number (first_of rules last)
first-sound number [] last rules-sound last-sound = last-sound
first-sound number (Some verdict ∷ later) last rules-sound last-sound = rules-sound.0
first-sound number (None ∷ later) last rules-sound last-sound = first-sound number later last rules-sound.1 last-sound

either-sound : (number : ℕ) (b : Bool) (one other : FrameVerdict) → VerdictSound number one
    → VerdictSound number other → VerdictSound number (cond b one other)
either-sound number true one other a b = a
either-sound number false one other a b = b

rule-sound : (number : ℕ) (b : Bool) (one other : Option FrameVerdict) → RuleSound number one
    → RuleSound number other → RuleSound number (cond b one other)
rule-sound number true one other a b = a
rule-sound number false one other a b = b

over-sound : (number : ℕ) (phase : Phase) → RuleSound number (when_over phase)
over-sound number Phase.Closed = tt
over-sound number Phase.Failed = tt
over-sound number phase = tt

leaving-sound : (phase : Phase) (number : ℕ) (reading : Reading)
    → RuleSound number (when_leaving phase number reading)
leaving-sound Phase.Closing number reading =
    either-sound number ((number == 0) && is_call kinds.ConnectionClose reading) _ _
    (connection_close_ok-sound number, tt)
    (either-sound number ((number == 0) && is_call kinds.ConnectionCloseOk reading) _ _ tt tt)
leaving-sound phase number reading = tt

beat-sound : (number : ℕ) (reading : Reading) → RuleSound number (when_heartbeat number reading)
beat-sound number (Beat empty) = either-sound number ((number == 0) && empty) _ _ tt tt
beat-sound number reading = tt

lives-sound : (number : ℕ) (reading : Reading) (verdict : lives.Verdict)
    → VerdictSound number (as_lives number reading verdict)
lives-sound number reading (lives.GoesOn event owed) = replies-sound number owed
lives-sound number reading (lives.Fault code) = tt

by_lives-sound : {role : Role} (facts : Facts role) (reading : Reading) (kind : Kind)
    → VerdictSound facts.number (lives_verdict facts reading kind)
by_lives-sound facts reading kind = lives-sound facts.number reading _

closing-sound : {role : Role} (facts : Facts role) (channel : Channel) (reading : Reading)
    → RuleSound facts.number (when_channel_closing facts channel reading)
closing-sound facts channels.Closing reading = by_lives-sound facts reading (kind_of reading)
closing-sound facts channel reading = tt

unread-sound : (number : ℕ) (reading : Reading) → RuleSound number (when_unread reading)
unread-sound number UnknownMethod = tt
unread-sound number MalformedMethod = tt
unread-sound number reading = tt

closed-sound : (number : ℕ) (method : Method) → VerdictSound number (closed_by method)
closed-sound number method = (connection_close_ok-sound number, tt)

-- what is decided by a test, knowing how it came out
test-sound : (number : ℕ) (b : Bool) (one other : FrameVerdict) → (b ≡ true → VerdictSound number one)
    → (b ≡ false → VerdictSound number other) → VerdictSound number (cond b one other)
test-sound number true one other h k = h refl
test-sound number false one other h k = k refl

-- a gated end asks, and puts nothing
asked-sound : (number : ℕ) (gated : Bool) (event : Event) (at_once : FrameVerdict) → VerdictSound number at_once
    → VerdictSound number (asked_or gated event at_once)
asked-sound number true event at_once sound = tt
asked-sound number false event at_once sound = sound

awaited-sound : (number : ℕ) (role : Role) (config : Config role) (agreed : Option Agreed)
    (step : channels.HandshakeStep) (method : Method) → ConfigWrites config
    → VerdictSound number (on_awaited role config agreed step method)
awaited-sound number Client config agreed AwaitsStart method fits =
    asked-sound number config.gated AnswerAsked _ (start_ok-sound number config fits, tt)
awaited-sound number Client config agreed AwaitsTune method fits =
    test-sound number (tunes_too_small method) _ _ (λ small. tt)
    (λ large. (tune_ok-sound number config method large fits, (open-sound number config fits, tt)))
awaited-sound number Client config agreed AwaitsOpenOk method fits = tt
awaited-sound number Server config agreed AwaitsStartOk method fits =
    asked-sound number config.gated LoginAsked _ (tune-sound number config fits, tt)
awaited-sound number Server config agreed AwaitsTuneOk method fits =
    either-sound number (in_range config (agreed_in method)) _ _ tt tt
awaited-sound number Server config agreed AwaitsOpen method fits =
    asked-sound number config.gated OpenAsked _ (open_ok-sound number, tt)
awaited-sound number role config agreed step method fits = tt

step-sound : (number : ℕ) (role : Role) (config : Config role) (agreed : Option Agreed)
    (step : channels.HandshakeStep) (method : Method) → ConfigWrites config
    → VerdictSound number (in_step role config agreed step method)
step-sound number role config agreed step method fits =
    either-sound number (same_kind method.kind kinds.ConnectionClose) _ _ (closed-sound number method)
    (either-sound number (is_client role && same_kind method.kind kinds.ConnectionSecure) _ _ tt
    (either-sound number (is_awaited step method.kind) _ _
    (awaited-sound number role config agreed step method fits) tt))

handshake-sound : {role : Role} (facts : Facts role) (phase : Phase) (reading : Reading) → ConfigWrites facts.config
    → RuleSound facts.number (when_handshake facts phase reading)
handshake-sound {role} facts (Handshake step) (Calls method) fits =
    either-sound facts.number (facts.number == 0) _ _
    (step-sound facts.number role facts.config facts.agreed step method fits) tt
handshake-sound facts (Handshake step) reading fits = tt
handshake-sound facts phase reading fits = tt

part-sound : (number : ℕ) (step : Step) → VerdictSound number (after_part number step)
part-sound number (Completes content) = tt
part-sound number (Keeps kept) = tt
part-sound number (Breaks Misfit.PastSize) = tt
part-sound number (Breaks misfit) = tt

on_part-sound : {role : Role} (facts : Facts role) (kept : Gathering) (reading : Reading)
    → VerdictSound facts.number (on_part facts kept reading)
on_part-sound facts (HeaderDue method) MalformedHeader = tt
on_part-sound facts (HeaderDue method) (HeaderOf size properties) =
    either-sound facts.number (nat_lt facts.config.max_body size) _ _ tt
    (part-sound facts.number (step (HeaderDue method) (payload_of (HeaderOf size properties))))
on_part-sound facts kept reading = part-sound facts.number (step kept (payload_of reading))

part_on-sound : {role : Role} (facts : Facts role) (channel : Channel) (reading : Reading)
    → VerdictSound facts.number (part_on facts channel reading)
part_on-sound facts (channels.Open life) reading = on_part-sound facts life.content reading
part_on-sound facts channel reading = tt

on_content-sound : {role : Role} (facts : Facts role) (reading : Reading)
    → VerdictSound facts.number (on_content facts reading)
on_content-sound facts reading =
    either-sound facts.number (is_no_channel facts) _ _ tt (part_on-sound facts facts.channel reading)

content-sound : {role : Role} (facts : Facts role) (reading : Reading)
    → RuleSound facts.number (when_content facts reading)
content-sound facts (HeaderOf size properties) = on_content-sound facts (HeaderOf size properties)
content-sound facts MalformedHeader = on_content-sound facts MalformedHeader
content-sound facts (BodyOf octets) = on_content-sound facts (BodyOf octets)
content-sound facts reading = tt

on_connection-sound : (number : ℕ) (role : Role) (method : Method) → VerdictSound number (on_connection role method)
on_connection-sound number role method =
    either-sound number (same_kind method.kind kinds.ConnectionClose) _ _ (closed-sound number method)
    (either-sound number (is_client role && same_kind method.kind kinds.ConnectionSecure) _ _ tt
    (either-sound number (is_client role && same_kind method.kind kinds.ConnectionBlocked) _ _ tt
    (either-sound number (is_client role && same_kind method.kind kinds.ConnectionUnblocked) _ _ tt tt)))

connection-sound : (role : Role) (number : ℕ) (method : Method)
    → RuleSound number (when_connection role number method)
connection-sound role number method =
    rule-sound number (class_of method.kind == 10) _ _
    (either-sound number (number == 0) _ _ (on_connection-sound number role method) tt) tt

message-sound : (number : ℕ) (method : Method) → VerdictSound number (on_message number method)
message-sound number method = either-sound number (carries_content method) _ _ tt tt

matched-sound : (role : Role) (number : ℕ) (requests : List MethodKind) (method : Method)
    → VerdictSound number (on_matched role number requests method)
matched-sound Client number requests method =
    either-sound number (is_reply method.kind && not (answers_first method.kind requests)) _ _ tt
    (message-sound number method)
matched-sound Server number requests method =
    either-sound number (is_request method && nat_le MOST_REQUESTS (length requests)) _ _ tt
    (message-sound number method)

idle-sound : {role : Role} (facts : Facts role) (life : Life) (method : Method) (kind : Kind)
    → VerdictSound facts.number (on_idle facts life method kind)
idle-sound {role} facts life method (Other begins) = matched-sound role facts.number life.requests method
idle-sound facts life method kind = by_lives-sound facts (Calls method) kind

open_channel-sound : {role : Role} (facts : Facts role) (life : Life) (method : Method) (kind : Kind)
    → VerdictSound facts.number (on_open facts life method kind)
open_channel-sound facts life method Close = by_lives-sound facts (Calls method) Close
open_channel-sound facts life method kind =
    either-sound facts.number (is_gathering life.content) _ _ tt (idle-sound facts life method kind)

state-sound : {role : Role} (facts : Facts role) (channel : Channel) (method : Method)
    → VerdictSound facts.number (by_state facts channel method)
state-sound facts (channels.Open life) method = open_channel-sound facts life method (kind_of (Calls method))
state-sound facts channel method = by_lives-sound facts (Calls method) (kind_of (Calls method))

method-sound : {role : Role} (facts : Facts role) (method : Method)
    → VerdictSound facts.number (on_method facts method)
method-sound {role} facts method =
    first-sound facts.number (when_connection role facts.number method ∷ when_misdirected role method
    ∷ when_no_channel facts ∷ []) (by_state facts facts.channel method) (
      connection-sound role facts.number method,
      (
        rule-sound facts.number (sends (not (is_client role)) method.kind) _ _ tt tt,
        (rule-sound facts.number (is_no_channel facts) _ _ tt tt, tt),
      ),
    )
    (state-sound facts facts.channel method)

rest-sound : {role : Role} (facts : Facts role) (reading : Reading)
    → VerdictSound facts.number (on_rest facts reading)
rest-sound facts (Calls method) = method-sound facts method
rest-sound facts reading = tt

verdict-sound : (role : Role) (facts : Facts role) (reading : Reading) → ConfigWrites facts.config
    → VerdictSound facts.number (verdict_on facts reading)
verdict-sound role facts reading fits =
    let number = facts.number in
    first-sound number
    (when_over facts.phase
    ∷ when_leaving facts.phase number reading
    ∷ when_heartbeat number reading
    ∷ when_channel_closing facts facts.channel reading
    ∷ when_unread reading
    ∷ when_handshake facts facts.phase reading
    ∷ when_content facts reading
    ∷ [])
    (on_rest facts reading) (
      over-sound number facts.phase,
      (
        leaving-sound facts.phase number reading,
        (
          beat-sound number reading,
          (
            closing-sound facts facts.channel reading,
            (
              unread-sound number reading,
              (handshake-sound facts facts.phase reading fits, (content-sound facts reading, tt)),
            ),
          ),
        ),
      ),
    )
    (rest-sound facts reading)

-- ---- what a verdict puts

faulted-sound : {role : Role} (config : Config role) (agreed : Option Agreed) (number : ℕ) (channel : Channel)
    (code : CloseCode) (phase : Phase) (any : ℕ)
    → AllSound any
    (methods_put (let facts : Facts role = record {
      config = config;
      phase = phase;
      agreed = agreed;
      number = number;
      channel = channel;
    } in facts) (Faults (Peer code)))
faulted-sound config agreed number channel code Phase.Closing any = tt
faulted-sound config agreed number channel code phase any = (connection_close-sound any code, tt)

-- a close of the connection stands on channel 0, whatever channel the frame stands on
pub fault-sound : (role : Role) (facts : Facts role) (code : CloseCode) (any : ℕ)
    → AllSound any (methods_put facts (Faults (Peer code)))
fault-sound role facts code any =
    faulted-sound facts.config facts.agreed facts.number facts.channel code facts.phase any

put-sound : (role : Role) (facts : Facts role) (verdict : FrameVerdict) → VerdictSound facts.number verdict
    → AllSound facts.number (methods_put facts verdict)
put-sound role facts (Proceeds event owed) sound = sound
put-sound role facts RefusesContent sound = (channel_close-sound facts.number ContentTooLarge, tt)
put-sound role facts (Faults (Peer code)) sound = fault-sound role facts code facts.number
put-sound role facts (Faults fault) sound = tt

pub owed-sound : (role : Role) (facts : Facts role) (reading : Reading) → ConfigWrites facts.config
    → AllSound facts.number (methods_put facts (verdict_on facts reading))
owed-sound role facts reading fits =
    put-sound role facts (verdict_on facts reading) (verdict-sound role facts reading fits)

-- ---- the laws

all-read : MethodReadsBack → (number : ℕ) (owed : List Owed) → AllSound number owed → AllReadBack owed
all-read reads number [] sound = tt
all-read reads number (first ∷ later) sound = (sound.0.back reads, all-read reads number later sound.1)

pub owed-read : MethodReadsBack → OwedReadBack
owed-read reads role facts reading fits =
    all-read reads facts.number (methods_put facts (verdict_on facts reading)) (owed-sound role facts reading fits)

pub close-reads : MethodReadsBack → CloseReadsBack
close-reads reads role facts =
    all-read reads 0 (methods_put facts (Faults (Peer FrameError))) (fault-sound role facts FrameError 0)

greeting-back : (role : Role) (config : Config role) → ConfigWrites config → GreetingReadsBack role config
greeting-back Client config writes = tt
greeting-back Server config writes = writes.greeting_back

admission-back : MethodReadsBack → (role : Role) (config : Config role) → ConfigWrites config
    → AdmissionReadsBack role config
admission-back reads Client config writes = tt
admission-back reads Server config writes = ((tune-sound 0 config writes).back reads, (open_ok-sound 0).back reads)

pub all-reads-back : MethodReadsBack → (role : Role) (config : Config role) → AllReadsBack role config
all-reads-back reads role config writes =
    record {
      owed = λ end number reading. owed-read reads role (facts_at config end number) reading writes;
      too_large = λ end. close-reads reads role (facts_at config end 0);
      greeting = greeting-back role config writes;
      admission = admission-back reads role config writes;
    }
