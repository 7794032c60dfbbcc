-- The verdict on a frame of a channel above 0 agrees with the lives of a channel, where it lets the end go on.
use Rattle.std.proofs.Common.{◌≡◌, Bool, true, false, cond, not, ◌&&◌, ℕ, ◌==◌, nat_lt, List, []}
use Rattle.std.proofs.Common.{◌∷◌, Option, Some, None, refl, sym, ap, subst}
use Rattle.std.proofs.lemmas.Bool.{false≢true, true≢false}
use Rattle.amqp_model.specs.Wire.Notes.{Role, Client, Server, Kind, Close, Other}
use Rattle.amqp_model.specs.History.States.{State}
use Rattle.amqp_model.specs.History.Verdict as lives
use Rattle.amqp_model.specs.History.Verdict.{verdict_at}
use Rattle.amqp_model.specs.Wire.Methods.{MethodKind, Method, carries_content, is_reply}
use Rattle.amqp_model.specs.Wire.Gathering.{Gathering, HeaderDue, Step, Keeps, Completes, Breaks, Misfit, step}
use Rattle.amqp_model.specs.Wire.Readings.{Reading, Calls, HeaderOf, MalformedHeader, BodyOf, Beat, kind_of, payload_of}
use Rattle.amqp_model.specs.End.Channels.{Life, Channel, Free, Opening, Closing, state_of, Phase, Handshake, Running}
use Rattle.amqp_model.specs.End.Channels.{Agreed}
use Rattle.amqp_model.specs.End.Channels as channels
use Rattle.amqp_model.specs.History.Negotiation.{Config}
use Rattle.amqp_model.specs.End.Closes.{CloseCode, CommandInvalid, ChannelError, Owed}
use Rattle.amqp_model.specs.End.Events.{FrameVerdict, Proceeds, RefusesContent, Faults, Peer}
use Rattle.amqp_model.specs.End.FrameVerdict.{Facts, first_of, awaits_in, as_lives, lives_verdict, on_method, by_state}
use Rattle.amqp_model.specs.End.FrameVerdict.{on_open, on_idle, on_matched, on_content, on_part, after_part, on_message}
use Rattle.amqp_model.specs.End.FrameVerdict.{is_no_channel, is_gathering, answers_first, verdict_on}
use Rattle.amqp_model.specs.End.EndVerdict.{goes_on}
use Rattle.amqp_model.specs.Laws.EndLaws.{is_over, AgreesWithLives, agrees, refuses}

-- the methods that a verdict owes of itself
abbrev owed_in : FrameVerdict → List Owed
owed_in (Proceeds event owed) = owed
owed_in verdict = []

-- facts of an end that has not put connection.close
abbrev pub facts_in : {role : Role} → Config role → Phase → Option Agreed → ℕ → Channel → Facts role
facts_in config phase agreed number channel =
    record { config = config; phase = phase; agreed = agreed; number = number; channel = channel }

-- the lives' verdict, and what a frame's verdict then puts
abbrev Agrees : (role : Role) → (number : ℕ) → Channel → Reading → FrameVerdict → Type 0
Agrees role number channel reading verdict = AgreesWithLives role number channel reading verdict

as-lives-agrees : {role : Role} (facts : Facts role) (r : Reading) (v : lives.Verdict)
    → verdict_at role (state_of facts.channel) (awaits_in facts.channel) (kind_of r) ≡ v
    → goes_on (as_lives facts.number r v) ≡ true
    → Agrees role facts.number facts.channel r (as_lives facts.number r v)
as-lives-agrees facts r (lives.GoesOn event owed) e g = agrees event owed _ e refl
as-lives-agrees facts r (lives.Fault code) e g = absurd (false≢true g)

lives-agrees : {role : Role} (facts : Facts role) (r : Reading) (kind : Kind) → kind_of r ≡ kind
    → goes_on (lives_verdict facts r kind) ≡ true
    → Agrees role facts.number facts.channel r (lives_verdict facts r kind)
lives-agrees {role} facts r kind k g =
    as-lives-agrees facts r (verdict_at role (state_of facts.channel) (awaits_in facts.channel) kind)
    (ap (verdict_at role (state_of facts.channel) (awaits_in facts.channel)) k) g

-- no rule before the last has stopped the method
peel : (is_connection at_zero may_send no_channel : Bool) (on_zero last : FrameVerdict) → at_zero ≡ false
    → goes_on (first_of (cond is_connection (Some (cond at_zero on_zero (Faults (Peer CommandInvalid)))) None
    ∷ cond may_send None (Some (Faults (Peer CommandInvalid))) ∷ cond no_channel (Some (Faults (Peer ChannelError)))
    None ∷ []) last) ≡ true
    → first_of (cond is_connection (Some (cond at_zero on_zero (Faults (Peer CommandInvalid)))) None
    ∷ cond may_send None (Some (Faults (Peer CommandInvalid))) ∷ cond no_channel (Some (Faults (Peer ChannelError)))
    None ∷ []) last ≡ last
peel true true c d on_zero last e g = absurd (true≢false e)
peel true false c d on_zero last e g = absurd (false≢true g)
peel false n false d on_zero last e g = absurd (false≢true g)
peel false n true true on_zero last e g = absurd (false≢true g)
peel false n true false on_zero last e g = refl

-- what is told of a message, nothing owed
owes-nothing : {role : Role} (number : ℕ) (channel : Channel) (r : Reading) (v : FrameVerdict)
    → verdict_at role (state_of channel) (awaits_in channel) (kind_of r) ≡ lives.GoesOn lives.Acted None
    → goes_on v ≡ true → owed_in v ≡ [] → Agrees role number channel r v
owes-nothing number channel r (Proceeds event owed) e g o = agrees lives.Acted None event e (ap (Proceeds event) o)
owes-nothing number channel r RefusesContent e g o = refuses e refl
owes-nothing number channel r (Faults fault) e g o = absurd (false≢true g)

message-owes : (number : ℕ) (method : Method) (carries : Bool) (told : FrameVerdict) → owed_in told ≡ []
    → owed_in (cond carries (Proceeds None []) told) ≡ []
message-owes number method true told e = refl
message-owes number method false told e = e

matched-owes : (role : Role) (number : ℕ) (requests : List MethodKind) (method : Method)
    → owed_in (on_matched role number requests method) ≡ []
matched-owes Client number requests method =
    stopped (is_reply method.kind && not (answers_first method.kind requests))
    (message-owes number method (carries_content method) _ refl)
  where
    stopped : (b : Bool) → owed_in (on_message number method) ≡ []
        → owed_in (cond b (Faults (Peer CommandInvalid)) (on_message number method)) ≡ []
    stopped true e = refl
    stopped false e = e
matched-owes Server number requests method = stopped _ (message-owes number method (carries_content method) _ refl)
  where
    stopped : (b : Bool) → owed_in (on_message number method) ≡ []
        → owed_in (cond b (Faults (Peer CloseCode.ResourceError)) (on_message number method)) ≡ []
    stopped true e = refl
    stopped false e = e

part-owes : (number : ℕ) (s : Step) → owed_in (after_part number s) ≡ []
part-owes number (Completes content) = refl
part-owes number (Keeps kept) = refl
part-owes number (Breaks Misfit.PastSize) = refl
part-owes number (Breaks misfit) = refl

-- A method of a connection that is Running.
method-agrees : {role : Role} (config : Config role) (agreed : Option Agreed) (number : ℕ) (channel : Channel)
    (method : Method) → (number == 0) ≡ false
    → goes_on (on_method (facts_in config Running agreed number channel) method) ≡ true
    → (goes_on (by_state (facts_in config Running agreed number channel) channel method) ≡ true
    → Agrees role number channel (Calls method)
    (by_state (facts_in config Running agreed number channel) channel method))
    → Agrees role number channel (Calls method) (on_method (facts_in config Running agreed number channel) method)
method-agrees {role} config agreed number channel method above g h =
    let e = peel _ (number == 0) _ (is_no_channel (facts_in config Running agreed number channel)) _ _ above g in
    subst (Agrees role number channel (Calls method)) (sym e) (h (subst (λ v. goes_on v ≡ true) e g))

idle-agrees : {role : Role} (config : Config role) (agreed : Option Agreed) (number : ℕ) (life : Life)
    (method : Method) (kind : Kind) → kind_of (Calls method) ≡ kind
    → goes_on (on_idle (facts_in config Running agreed number (channels.Open life)) life method kind) ≡ true
    → Agrees role number (channels.Open life) (Calls method)
    (on_idle (facts_in config Running agreed number (channels.Open life)) life method kind)
idle-agrees {role} config agreed number life method (Other begins) e g =
    let acted : verdict_at role State.Open life.awaits (kind_of (Calls method)) ≡ lives.GoesOn lives.Acted None =
    ap (verdict_at role State.Open life.awaits) e in
    owes-nothing number (channels.Open life) (Calls method) (on_matched role number life.requests method) acted g
    (matched-owes role number life.requests method)
idle-agrees {role} config agreed number life method kind e g =
    lives-agrees (facts_in config Running agreed number (channels.Open life)) (Calls method) kind e g

not-inside : (b : Bool) (last : FrameVerdict) → goes_on (cond b (Faults (Peer CloseCode.UnexpectedFrame)) last)
    ≡ true → cond b (Faults (Peer CloseCode.UnexpectedFrame)) last ≡ last
not-inside true last g = absurd (false≢true g)
not-inside false last g = refl

open-agrees : {role : Role} (config : Config role) (agreed : Option Agreed) (number : ℕ) (life : Life)
    (method : Method) (kind : Kind) → kind_of (Calls method) ≡ kind
    → goes_on (on_open (facts_in config Running agreed number (channels.Open life)) life method kind) ≡ true
    → Agrees role number (channels.Open life) (Calls method)
    (on_open (facts_in config Running agreed number (channels.Open life)) life method kind)
open-agrees {role} config agreed number life method Close e g =
    lives-agrees (facts_in config Running agreed number (channels.Open life)) (Calls method) Close e g
open-agrees {role} config agreed number life method kind e g =
    let idle = on_idle (facts_in config Running agreed number (channels.Open life)) life method kind in
    let same = not-inside (is_gathering life.content) idle g in
    subst (Agrees role number (channels.Open life) (Calls method)) (sym same)
    (idle-agrees config agreed number life method kind e (subst (λ v. goes_on v ≡ true) same g))

state-agrees : {role : Role} (config : Config role) (agreed : Option Agreed) (number : ℕ) (channel : Channel)
    (method : Method) → goes_on (by_state (facts_in config Running agreed number channel) channel method) ≡ true
    → Agrees role number channel (Calls method)
    (by_state (facts_in config Running agreed number channel) channel method)
state-agrees config agreed number (channels.Open life) method g =
    open-agrees config agreed number life method (kind_of (Calls method)) refl g
state-agrees config agreed number Free method g =
    lives-agrees (facts_in config Running agreed number Free) (Calls method) (kind_of (Calls method)) refl g
state-agrees config agreed number Opening method g =
    lives-agrees (facts_in config Running agreed number Opening) (Calls method) (kind_of (Calls method)) refl g
state-agrees config agreed number Closing method g =
    lives-agrees (facts_in config Running agreed number Closing) (Calls method) (kind_of (Calls method)) refl g

-- A part of a content on an Open channel.
part-agrees : {role : Role} (config : Config role) (agreed : Option Agreed) (number : ℕ) (life : Life) (r : Reading)
    → kind_of r ≡ Other false
    → goes_on (cond (is_no_channel (facts_in config Running agreed number (channels.Open life)))
    (Faults (Peer ChannelError)) (on_part (facts_in config Running agreed number (channels.Open life)) life.content r))
    ≡ true → Agrees role number (channels.Open life) r
    (cond (is_no_channel (facts_in config Running agreed number (channels.Open life))) (Faults (Peer ChannelError))
    (on_part (facts_in config Running agreed number (channels.Open life)) life.content r))
part-agrees {role} config agreed number life r e g =
    owes-nothing number (channels.Open life) r _ (ap (verdict_at role State.Open life.awaits) e) g
    (stopped (is_no_channel (facts_in config Running agreed number (channels.Open life))) (owes life.content r))
  where
    stopped : (b : Bool)
        → owed_in (on_part (facts_in config Running agreed number (channels.Open life)) life.content r) ≡ []
        → owed_in (cond b (Faults (Peer ChannelError))
        (on_part (facts_in config Running agreed number (channels.Open life)) life.content r)) ≡ []
    stopped true h = refl
    stopped false h = h

    too_large : (b : Bool) (v : FrameVerdict) → owed_in v ≡ [] → owed_in (cond b RefusesContent v) ≡ []
    too_large true v h = refl
    too_large false v h = h

    owes : (kept : Gathering) (r : Reading)
        → owed_in (on_part (facts_in config Running agreed number (channels.Open life)) kept r) ≡ []
    owes (HeaderDue method) MalformedHeader = refl
    owes (HeaderDue method) (HeaderOf size properties) = too_large (nat_lt config.max_body size) _ (part-owes number _)
    owes kept r = part-owes number (step kept (payload_of r))

-- a part where the channel is not Open, and a heartbeat
stops : {A : Type 0} (b : Bool) (one other : CloseCode)
    → goes_on (cond b (Faults (Peer one)) (Faults (Peer other))) ≡ true → A
stops true one other g = absurd (false≢true g)
stops false one other g = absurd (false≢true g)

beat-stops : {A : Type 0} (at_zero empty : Bool) (quiet : FrameVerdict) → at_zero ≡ false
    → goes_on (cond (at_zero && empty) quiet (Faults (Peer CloseCode.FrameError))) ≡ true → A
beat-stops true empty quiet e g = absurd (true≢false e)
beat-stops false empty quiet e g = absurd (false≢true g)

content-agrees : {role : Role} (config : Config role) (agreed : Option Agreed) (number : ℕ) (channel : Channel)
    (r : Reading) → kind_of r ≡ Other false
    → goes_on (on_content (facts_in config Running agreed number channel) r) ≡ true
    → Agrees role number channel r (on_content (facts_in config Running agreed number channel) r)
content-agrees config agreed number (channels.Open life) r e g = part-agrees config agreed number life r e g
content-agrees config agreed number Free r e g =
    stops (is_no_channel (facts_in config Running agreed number Free)) ChannelError ChannelError g
content-agrees config agreed number Opening r e g =
    stops (is_no_channel (facts_in config Running agreed number Opening)) ChannelError ChannelError g
content-agrees config agreed number Closing r e g =
    stops (is_no_channel (facts_in config Running agreed number Closing)) ChannelError ChannelError g

abbrev pub is_closing : Channel → Bool
is_closing Closing = true
is_closing channel = false

-- a channel that is Closing, in the handshake and after it
closing-agrees : {role : Role} (config : Config role) (phase : Phase) (agreed : Option Agreed) (number : ℕ)
    → (number == 0) ≡ false → is_over phase ≡ false → (r : Reading)
    → goes_on (verdict_on (facts_in config phase agreed number Closing) r) ≡ true
    → Agrees role number Closing r (verdict_on (facts_in config phase agreed number Closing) r)
closing-agrees config (Handshake step) agreed number above here (Beat empty) g =
    beat-stops (number == 0) empty _ above g
closing-agrees config Running agreed number above here (Beat empty) g = beat-stops (number == 0) empty _ above g
closing-agrees config Phase.Closing agreed number above here r g = absurd (true≢false here)
closing-agrees config Phase.Closed agreed number above here r g = absurd (true≢false here)
closing-agrees config Phase.Failed agreed number above here r g = absurd (true≢false here)
closing-agrees config (Handshake step) agreed number above here r g =
    lives-agrees (facts_in config (Handshake step) agreed number Closing) r (kind_of r) refl g
closing-agrees config Running agreed number above here r g =
    lives-agrees (facts_in config Running agreed number Closing) r (kind_of r) refl g

-- an end that is Running
running-agrees : {role : Role} (config : Config role) (agreed : Option Agreed) (number : ℕ) (channel : Channel)
    → is_closing channel ≡ false → (number == 0) ≡ false → (r : Reading)
    → goes_on (verdict_on (facts_in config Running agreed number channel) r) ≡ true
    → Agrees role number channel r (verdict_on (facts_in config Running agreed number channel) r)
running-agrees config agreed number Closing c above r g = absurd (true≢false c)
running-agrees config agreed number Free c above (Calls method) g =
    method-agrees config agreed number Free method above g (state-agrees config agreed number Free method)
running-agrees config agreed number Opening c above (Calls method) g =
    method-agrees config agreed number Opening method above g (state-agrees config agreed number Opening method)
running-agrees config agreed number (channels.Open life) c above (Calls method) g =
    method-agrees config agreed number (channels.Open life) method above g
    (state-agrees config agreed number (channels.Open life) method)
running-agrees config agreed number Free c above (HeaderOf size properties) g =
    content-agrees config agreed number Free (HeaderOf size properties) refl g
running-agrees config agreed number Opening c above (HeaderOf size properties) g =
    content-agrees config agreed number Opening (HeaderOf size properties) refl g
running-agrees config agreed number (channels.Open life) c above (HeaderOf size properties) g =
    content-agrees config agreed number (channels.Open life) (HeaderOf size properties) refl g
running-agrees config agreed number Free c above MalformedHeader g =
    content-agrees config agreed number Free MalformedHeader refl g
running-agrees config agreed number Opening c above MalformedHeader g =
    content-agrees config agreed number Opening MalformedHeader refl g
running-agrees config agreed number (channels.Open life) c above MalformedHeader g =
    content-agrees config agreed number (channels.Open life) MalformedHeader refl g
running-agrees config agreed number Free c above (BodyOf octets) g =
    content-agrees config agreed number Free (BodyOf octets) refl g
running-agrees config agreed number Opening c above (BodyOf octets) g =
    content-agrees config agreed number Opening (BodyOf octets) refl g
running-agrees config agreed number (channels.Open life) c above (BodyOf octets) g =
    content-agrees config agreed number (channels.Open life) (BodyOf octets) refl g
running-agrees config agreed number Free c above (Beat empty) g = beat-stops (number == 0) empty _ above g
running-agrees config agreed number Opening c above (Beat empty) g = beat-stops (number == 0) empty _ above g
running-agrees config agreed number (channels.Open life) c above (Beat empty) g =
    beat-stops (number == 0) empty _ above g
running-agrees config agreed number Free c above r g = absurd (false≢true g)
running-agrees config agreed number Opening c above r g = absurd (false≢true g)
running-agrees config agreed number (channels.Open life) c above r g = absurd (false≢true g)

off-zero : {A : Type 0} (b : Bool) (v : FrameVerdict) → b ≡ false
    → goes_on (cond b v (Faults (Peer CommandInvalid))) ≡ true → A
off-zero true v e g = absurd (true≢false e)
off-zero false v e g = absurd (false≢true g)

-- In the handshake nothing is taken off channel 0 but on a channel that is Closing.
pub handshake-stops : {A : Type 0} {role : Role} (config : Config role) (step : channels.HandshakeStep)
    (agreed : Option Agreed) (number : ℕ) (channel : Channel) → is_closing channel ≡ false
    → (number == 0) ≡ false → (r : Reading)
    → goes_on (verdict_on (facts_in config (Handshake step) agreed number channel) r) ≡ true → A
handshake-stops config step agreed number Closing c above r g = absurd (true≢false c)
handshake-stops config step agreed number Free c above (Beat empty) g = beat-stops (number == 0) empty _ above g
handshake-stops config step agreed number Opening c above (Beat empty) g = beat-stops (number == 0) empty _ above g
handshake-stops config step agreed number (channels.Open life) c above (Beat empty) g =
    beat-stops (number == 0) empty _ above g
handshake-stops config step agreed number Free c above (Calls method) g = off-zero (number == 0) _ above g
handshake-stops config step agreed number Opening c above (Calls method) g = off-zero (number == 0) _ above g
handshake-stops config step agreed number (channels.Open life) c above (Calls method) g =
    off-zero (number == 0) _ above g
handshake-stops config step agreed number Free c above r g = absurd (false≢true g)
handshake-stops config step agreed number Opening c above r g = absurd (false≢true g)
handshake-stops config step agreed number (channels.Open life) c above r g = absurd (false≢true g)

-- an end that has not put connection.close
pub frame-agrees : {role : Role} (config : Config role) (phase : Phase) (agreed : Option Agreed) (number : ℕ)
    (channel : Channel) → is_over phase ≡ false → (number == 0) ≡ false → (r : Reading)
    → goes_on (verdict_on (facts_in config phase agreed number channel) r) ≡ true
    → Agrees role number channel r (verdict_on (facts_in config phase agreed number channel) r)
frame-agrees {role} config phase agreed number channel here above r g = cases (is_closing channel) refl
  where
    not_closing : (phase : Phase) → is_over phase ≡ false → is_closing channel ≡ false
        → goes_on (verdict_on (facts_in config phase agreed number channel) r) ≡ true
        → Agrees role number channel r (verdict_on (facts_in config phase agreed number channel) r)
    not_closing Running here c g = running-agrees config agreed number channel c above r g
    not_closing (Handshake step) here c g = handshake-stops config step agreed number channel c above r g
    not_closing Phase.Closing here c g = absurd (true≢false here)
    not_closing Phase.Closed here c g = absurd (true≢false here)
    not_closing Phase.Failed here c g = absurd (true≢false here)

    is-closing : (channel : Channel) → is_closing channel ≡ true → channel ≡ Closing
    is-closing Closing e = refl
    is-closing Free e = absurd (false≢true e)
    is-closing Opening e = absurd (false≢true e)
    is-closing (channels.Open life) e = absurd (false≢true e)

    cases : (b : Bool) → is_closing channel ≡ b
        → Agrees role number channel r (verdict_on (facts_in config phase agreed number channel) r)
    cases false c = not_closing phase here c g
    cases true c =
        let e = is-closing channel c in
        subst (λ channel. Agrees role number channel r (verdict_on (facts_in config phase agreed number channel) r))
        (sym e) (closing-agrees config phase agreed number above here r
        (subst (λ channel. goes_on (verdict_on (facts_in config phase agreed number channel) r) ≡ true) e g))
