-- A verdict that goes on says what the lives of a channel say, event included.
use Rattle.std.proofs.Common.{◌≡◌, ◌≢◌, Bool, true, false, cond, not, ◌&&◌, ℕ, ◌==◌, nat_lt}
use Rattle.std.proofs.Common.{nat_le, List, [], ◌∷◌, length, Option, Some, None, refl, sym, ap, ◌∙◌, subst}
use Rattle.std.proofs.lemmas.Bool.{false≢true, true≢false, eqb-true}
use Rattle.amqp_method.specs.declared.kinds.Kind.TheVariants as kinds
use Rattle.amqp_model.specs.Wire.Notes.{Role, Client, Server, is_client, Kind, Close, Other}
use Rattle.amqp_model.specs.History.Verdict as lives
use Rattle.amqp_model.specs.History.Verdict.{verdict_at, when_open}
use Rattle.amqp_model.specs.Wire.Methods.{Method, MethodKind, same_kind, class_of, sends, carries_content, is_request}
use Rattle.amqp_model.specs.Wire.Methods.{is_reply}
use Rattle.amqp_model.specs.Wire.Gathering.{Gathering, HeaderDue, PastSize, Step, Keeps, Completes, Breaks, step}
use Rattle.amqp_model.specs.Wire.Readings.{Reading, Calls, UnknownMethod, MalformedMethod, HeaderOf, MalformedHeader}
use Rattle.amqp_model.specs.Wire.Readings.{BodyOf, Beat, kind_of, payload_of}
use Rattle.amqp_model.specs.End.Channels.{Life, Channel, Free, Opening, Closing, Phase, Handshake, Running, Closed}
use Rattle.amqp_model.specs.End.Channels.{Failed, Agreed, state_of}
use Rattle.amqp_model.specs.End.Channels as channels
use Rattle.amqp_model.specs.History.Negotiation.{Config}
use Rattle.amqp_model.specs.End.Closes.{UnexpectedFrame, CommandInvalid, ChannelError, FrameError, ResourceError}
use Rattle.amqp_model.specs.End.Events as Events
use Rattle.amqp_model.specs.End.Events.{Event, FrameVerdict, Proceeds, RefusesContent, Faults, Peer}
use Rattle.amqp_model.specs.End.FrameVerdict.{Facts, MOST_REQUESTS, first_of, event_of, as_lives, awaits_in, after_part}
use Rattle.amqp_model.specs.End.FrameVerdict.{on_part, on_content, on_connection, on_message, answers_first, on_matched}
use Rattle.amqp_model.specs.End.FrameVerdict.{on_idle, by_state, on_open, is_gathering, is_no_channel, verdict_on}
use Rattle.amqp_model.specs.End.FrameVerdict.{event_told}
use Rattle.amqp_model.specs.End.EndVerdict.{goes_on}
use Rattle.amqp_model.specs.Wire.Items.{item_ended}
use Rattle.amqp_model.specs.Stream.Traces.{item_in_event}
use Rattle.amqp_model.specs.Laws.EndLaws.{is_over}
use Rattle.amqp_model.specs.Laws.VerdictInWords.{SaysAsLives, TellsItem, TellsItemEnded}
use Rattle.amqp_model.proofs.Agreeing.{facts_in, handshake-stops}
use Rattle.amqp_model.proofs.Going.{running}
use Rattle.amqp_model.proofs.Tracing.{last-is, no-part, no-beat, running-tells}

-- the verdict is as the lives have it
abbrev IsAsLives : {role : Role} → Config role → Phase → Option Agreed → ℕ → Channel → Reading → Type 0
IsAsLives {role} config phase agreed number channel r =
    verdict_on (facts_in config phase agreed number channel) r
    ≡ as_lives number r (verdict_at role (state_of channel) (awaits_in channel) (kind_of r))

-- what the lives say of it is no message
abbrev IsNamed : (role : Role) → Channel → Kind → Type 0
IsNamed role channel kind =
    (event : lives.ChannelEvent) × (owed : Option Kind)
    × (verdict_at role (state_of channel) (awaits_in channel) kind ≡ lives.GoesOn event owed)
    × (event ≢ lives.Acted)

open-acts : (role : Role) (awaits begins : Bool) → when_open role awaits (Other begins)
    ≡ lives.GoesOn lives.Acted None
open-acts Client awaits begins = refl
open-acts Server awaits begins = refl

-- a message is not named
no-message : {A : Type 0} (role : Role) (awaits begins : Bool) (event : lives.ChannelEvent) (owed : Option Kind)
    → when_open role awaits (Other begins) ≡ lives.GoesOn event owed → event ≢ lives.Acted → A
no-message role awaits begins event owed e other = absurd (other (same (sym e ∙ open-acts role awaits begins)))
  where
    same : lives.GoesOn event owed ≡ lives.GoesOn lives.Acted None → event ≡ lives.Acted
    same e = cc

closing-is : {role : Role} (config : Config role) (phase : Phase) (agreed : Option Agreed) (number : ℕ) (r : Reading)
    → (number == 0) ≡ false → is_over phase ≡ false
    → goes_on (verdict_on (facts_in config phase agreed number Closing) r) ≡ true
    → IsAsLives config phase agreed number Closing r
closing-is config Closed agreed number r above o g = absurd (true≢false o)
closing-is config Failed agreed number r above o g = absurd (true≢false o)
closing-is config Phase.Closing agreed number r above o g = absurd (true≢false o)
closing-is config Running agreed number (Beat empty) above o g = no-beat (number == 0) empty _ above g
closing-is config (Handshake step) agreed number (Beat empty) above o g = no-beat (number == 0) empty _ above g
closing-is config Running agreed number r above o g = refl
closing-is config (Handshake step) agreed number r above o g = refl

inside-is : (b : Bool) (last : FrameVerdict) → goes_on (cond b (Faults (Peer UnexpectedFrame)) last) ≡ true
    → cond b (Faults (Peer UnexpectedFrame)) last ≡ last
inside-is true last g = absurd (false≢true g)
inside-is false last g = refl

module _ {role : Role} (config : Config role) (agreed : Option Agreed) (number : ℕ)
    (above : (number == 0) ≡ false) where
  open-is : (life : Life) (method : Method) (kind : Kind) → IsNamed role (channels.Open life) kind
      → goes_on (on_open (running config agreed number (channels.Open life)) life method kind) ≡ true
      → on_open (running config agreed number (channels.Open life)) life method kind
      ≡ as_lives number (Calls method) (when_open role life.awaits kind)
  open-is life method Close named g = refl
  open-is life method (Other begins) named g = no-message role life.awaits begins named.0 named.1 named.2 named.3
  open-is life method kind named g = inside-is (is_gathering life.content) _ g

  part-named : {A : Type 0} (life : Life) → IsNamed role (channels.Open life) (Other false) → A
  part-named life named = no-message role life.awaits false named.0 named.1 named.2 named.3

  running-is : (channel : Channel) (r : Reading) → goes_on (verdict_on (running config agreed number channel) r)
      ≡ true → IsNamed role channel (kind_of r) → IsAsLives config Running agreed number channel r
  running-is Closing r g named = closing-is config Running agreed number r above refl g
  running-is Free (Calls method) g named =
      last-is _ (number == 0) _ (is_no_channel (running config agreed number Free)) _
      (by_state (running config agreed number Free) Free method) above g
  running-is Opening (Calls method) g named =
      last-is _ (number == 0) _ (is_no_channel (running config agreed number Opening)) _
      (by_state (running config agreed number Opening) Opening method) above g
  running-is (channels.Open life) (Calls method) g named =
      let last = last-is _ (number == 0) _ (is_no_channel (running config agreed number (channels.Open life))) _
      (by_state (running config agreed number (channels.Open life)) (channels.Open life) method) above g in
      last ∙ open-is life method (kind_of (Calls method)) named (subst (λ v. goes_on v ≡ true) last g)
  running-is Free (Beat empty) g named = no-beat (number == 0) empty _ above g
  running-is Opening (Beat empty) g named = no-beat (number == 0) empty _ above g
  running-is Free (HeaderOf size properties) g named = no-part (is_no_channel (running config agreed number Free)) g
  running-is Free MalformedHeader g named = no-part (is_no_channel (running config agreed number Free)) g
  running-is Free (BodyOf octets) g named = no-part (is_no_channel (running config agreed number Free)) g
  running-is Free UnknownMethod g named = absurd (false≢true g)
  running-is Free MalformedMethod g named = absurd (false≢true g)
  running-is Opening (HeaderOf size properties) g named =
      no-part (is_no_channel (running config agreed number Opening)) g
  running-is Opening MalformedHeader g named = no-part (is_no_channel (running config agreed number Opening)) g
  running-is Opening (BodyOf octets) g named = no-part (is_no_channel (running config agreed number Opening)) g
  running-is Opening UnknownMethod g named = absurd (false≢true g)
  running-is Opening MalformedMethod g named = absurd (false≢true g)
  running-is (channels.Open life) (Beat empty) g named = no-beat (number == 0) empty _ above g
  running-is (channels.Open life) r g named = part-named life named

  any-is : (phase : Phase) (channel : Channel) (r : Reading) → is_over phase ≡ false
      → goes_on (verdict_on (facts_in config phase agreed number channel) r) ≡ true
      → IsNamed role channel (kind_of r) → IsAsLives config phase agreed number channel r
  any-is Running channel r o g named = running-is channel r g named
  any-is (Handshake step) Closing r o g named = closing-is config (Handshake step) agreed number r above refl g
  any-is (Handshake step) Free r o g named = handshake-stops config step agreed number Free refl above r g
  any-is (Handshake step) Opening r o g named = handshake-stops config step agreed number Opening refl above r g
  any-is (Handshake step) (channels.Open life) r o g named =
      handshake-stops config step agreed number (channels.Open life) refl above r g
  any-is Phase.Closing channel r o g named = absurd (true≢false o)
  any-is Closed channel r o g named = absurd (true≢false o)
  any-is Failed channel r o g named = absurd (true≢false o)

not-0 : (number : ℕ) → number ≢ 0 → (number == 0) ≡ false
not-0 number some = cases (number == 0) refl
  where
    cases : (b : Bool) → (number == 0) ≡ b → b ≡ false
    cases true e = absurd (some (eqb-true number 0 e))
    cases false e = refl

pub says-as-lives : SaysAsLives
says-as-lives role facts reading event owed o above g e other =
    any-is facts.config facts.agreed facts.number (not-0 facts.number above) facts.phase facts.channel reading o g
    (event, owed, e, other) ∙ ap (as_lives facts.number reading) e

-- The event that tells an item tells it on the channel of the frame.

-- an event that tells an item tells it on this channel
abbrev IsOn : ℕ → Option Event → Type 0
IsOn n (Some (Event.Told channel message)) = channel ≡ n
IsOn n (Some (Event.Flow channel active)) = channel ≡ n
IsOn n (Some (Event.FlowOk channel active)) = channel ≡ n
IsOn n event = Unit {0}

named : (n : ℕ) (event : Option Event) → IsOn n event → TellsItem n (item_in_event event) event
named n None on = refl
named n (Some (Event.Told channel (Events.Plain method))) on = ap (λ c. Some (Event.Told c (Events.Plain method))) on
named n (Some (Event.Told channel (Events.Whole content))) on = ap (λ c. Some (Event.Told c (Events.Whole content))) on
named n (Some (Event.Flow channel active)) on = ap (λ c. Some (Event.Flow c active)) on
named n (Some (Event.FlowOk channel active)) on = ap (λ c. Some (Event.FlowOk c active)) on
named n (Some Event.AnswerAsked) on = refl
named n (Some Event.LoginAsked) on = refl
named n (Some Event.OpenAsked) on = refl
named n (Some (Event.Negotiated agreed)) on = refl
named n (Some (Event.Opened channel)) on = refl
named n (Some (Event.ChannelClosed channel reason)) on = refl
named n (Some (Event.ConnectionClosed reason)) on = refl
named n (Some (Event.Discarded channel)) on = refl
named n (Some (Event.Blocked reason)) on = refl
named n (Some Event.Unblocked) on = refl
named n (Some Event.Quiet) on = refl

lives-on : (n : ℕ) (r : Reading) (event : lives.ChannelEvent) → IsOn n (event_of n r event)
lives-on n r (lives.FlowAsked active) = refl
lives-on n r (lives.FlowAnswered active) = refl
lives-on n r lives.Opened = tt
lives-on n r lives.Acted = tt
lives-on n r lives.ClosedByUs = tt
lives-on n r lives.ClosedByPeer = tt
lives-on n r lives.Discarded = tt
lives-on n r lives.Quiet = tt

module _ {role : Role} (config : Config role) (agreed : Option Agreed) (number : ℕ) (life : Life) where
  abbrev here : Facts role
  here = running config agreed number (channels.Open life)

  abbrev SaysHere : FrameVerdict → Type 0
  SaysHere verdict = IsOn number (event_told here verdict)

  either : (b : Bool) (v w : FrameVerdict) → SaysHere v → SaysHere w → SaysHere (cond b v w)
  either true v w first later = first
  either false v w first later = later

  -- a rule that applies, and those after it
  by-rule : (b : Bool) (v : FrameVerdict) (later : List (Option FrameVerdict)) (last : FrameVerdict)
      → SaysHere v → SaysHere (first_of later last) → SaysHere (first_of (cond b (Some v) None ∷ later) last)
  by-rule true v later last first rest = first
  by-rule false v later last first rest = rest

  unless-rule : (b : Bool) (v : FrameVerdict) (later : List (Option FrameVerdict)) (last : FrameVerdict)
      → SaysHere v → SaysHere (first_of later last) → SaysHere (first_of (cond b None (Some v) ∷ later) last)
  unless-rule true v later last first rest = rest
  unless-rule false v later last first rest = first

  as-lives-on : (r : Reading) (verdict : lives.Verdict) → SaysHere (as_lives number r verdict)
  as-lives-on r (lives.GoesOn event owed) = lives-on number r event
  as-lives-on r (lives.Fault code) = tt

  message-on : (method : Method) → SaysHere (on_message number method)
  message-on method = either (carries_content method) (Proceeds None []) _ tt refl

  matched-on : (r : Role) (requests : List MethodKind) (method : Method)
      → SaysHere (on_matched r number requests method)
  matched-on Client requests method =
      either (is_reply method.kind && not (answers_first method.kind requests))
      (Faults (Peer CommandInvalid)) _ tt (message-on method)
  matched-on Server requests method =
      either (is_request method && nat_le MOST_REQUESTS (length requests))
      (Faults (Peer ResourceError)) _ tt (message-on method)

  idle-on : (method : Method) (kind : Kind) → SaysHere (on_idle here life method kind)
  idle-on method (Other begins) = matched-on role life.requests method
  idle-on method kind = as-lives-on (Calls method) (when_open role life.awaits kind)

  method-on : (method : Method) (kind : Kind) → SaysHere (on_open here life method kind)
  method-on method Close = as-lives-on (Calls method) (when_open role life.awaits Close)
  method-on method kind = either (is_gathering life.content) (Faults (Peer UnexpectedFrame)) _ tt (idle-on method kind)

  connection-on : (method : Method) → SaysHere (on_connection role method)
  connection-on method =
      either (same_kind method.kind kinds.ConnectionClose) _ _ tt
      (either (is_client role && same_kind method.kind kinds.ConnectionSecure) _ _ tt
      (either (is_client role && same_kind method.kind kinds.ConnectionBlocked) _ _ tt
      (either (is_client role && same_kind method.kind kinds.ConnectionUnblocked) _ _ tt tt)))

  step-on : (s : Step) → SaysHere (after_part number s)
  step-on (Completes content) = refl
  step-on (Keeps kept) = tt
  step-on (Breaks PastSize) = tt
  step-on (Breaks misfit) = tt

  part-on : (kept : Gathering) (r : Reading) → SaysHere (on_part here kept r)
  part-on (HeaderDue method) MalformedHeader = tt
  part-on (HeaderDue method) (HeaderOf size properties) =
      either (nat_lt config.max_body size) RefusesContent _ tt
      (step-on (step (HeaderDue method) (payload_of (HeaderOf size properties))))
  part-on kept r = step-on (step kept (payload_of r))

  content-on : (r : Reading) → SaysHere (on_content here r)
  content-on r = either (is_no_channel here) (Faults (Peer ChannelError)) _ tt (part-on life.content r)

  open-on : (r : Reading) → SaysHere (verdict_on here r)
  open-on (Calls method) =
      by-rule (class_of method.kind == 10) _ _ _
      (either (number == 0) (on_connection role method) (Faults (Peer CommandInvalid)) (connection-on method) tt)
      (unless-rule (sends (not (is_client role)) method.kind) (Faults (Peer CommandInvalid)) _ _ tt
      (by-rule (is_no_channel here) (Faults (Peer ChannelError)) [] _ tt (method-on method (kind_of (Calls method)))))
  open-on (Beat empty) =
      either ((number == 0) && empty) (Proceeds (Some Event.Quiet) []) (Faults (Peer FrameError)) tt tt
  open-on UnknownMethod = tt
  open-on MalformedMethod = tt
  open-on (HeaderOf size properties) = content-on (HeaderOf size properties)
  open-on MalformedHeader = content-on MalformedHeader
  open-on (BodyOf octets) = content-on (BodyOf octets)

-- what is claimed where the end is in such a phase and the channel such a one
abbrev Claim : {role : Role} → Facts role → Reading → Life → Phase → Channel → Type 0
Claim facts reading life phase channel =
    goes_on (verdict_on (facts_in facts.config phase facts.agreed facts.number channel) reading) ≡ true
    → TellsItem facts.number (item_ended life.content (payload_of reading))
    (event_told (facts_in facts.config phase facts.agreed facts.number channel)
    (verdict_on (facts_in facts.config phase facts.agreed facts.number channel) reading))

pub tells-item-ended : TellsItemEnded
tells-item-ended role facts reading life runs above opened = by-parts facts.phase runs facts.channel opened
  where
    event : Option Event
    event =
        event_told (running facts.config facts.agreed facts.number (channels.Open life))
        (verdict_on (running facts.config facts.agreed facts.number (channels.Open life)) reading)

    is-told : Claim facts reading life Running (channels.Open life)
    is-told g =
        subst (λ item. TellsItem facts.number item event) (running-tells facts.config facts.agreed facts.number
        (channels.Open life) reading (not-0 facts.number above) g)
        (named facts.number event (open-on facts.config facts.agreed facts.number life reading))

    by-parts : (phase : Phase) → phase ≡ Running → (channel : Channel) → channel ≡ channels.Open life
        → Claim facts reading life phase channel
    by-parts phase p channel c =
        subst (λ phase. Claim facts reading life phase channel) (sym p)
        (subst (λ channel. Claim facts reading life Running channel) (sym c) is-told)
