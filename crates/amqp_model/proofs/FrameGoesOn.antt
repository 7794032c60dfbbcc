-- A frame of a channel above 0 that is well put, that the lives of the channel go on with, that fits the content under
-- way and is matched with the requests kept, lets a Running end go on.
use Rattle.std.proofs.Common.{◌≡◌, ◌≤◌, Bool, true, false, cond, not, ◌&&◌, ◌||◌, ℕ, ◌==◌}
use Rattle.std.proofs.Common.{List, [], ◌∷◌, length, Option, Some, None, refl, sym, ap, ◌∙◌}
use Rattle.std.specs.Prelude.{nat_lt, nat_le}
use Rattle.std.proofs.lemmas.Bool.{false≢true, true≢false, eq-eqb, le-ltb, lt-leb}
use Rattle.amqp_method.specs.declared.kinds.Kind.TheVariants as kinds
use Rattle.amqp_model.specs.Wire.Notes.{Role, Client, Server, is_client, other_end, Kind, Open, OpenOk, Close, CloseOk}
use Rattle.amqp_model.specs.Wire.Notes.{Flow, FlowOk, Other, is_message}
use Rattle.amqp_model.specs.History.States.{State}
use Rattle.amqp_model.specs.History.Verdict as lives
use Rattle.amqp_model.specs.History.Verdict.{verdict_at}
use Rattle.amqp_model.specs.Wire.Methods.{MethodKind, Method, Properties, class_of, sends, carries_content, is_request}
use Rattle.amqp_model.specs.Wire.Methods.{is_reply}
use Rattle.amqp_model.specs.Wire.Contents.{Payload}
use Rattle.amqp_model.specs.Wire.Gathering.{Gathering, Nothing, HeaderDue, BodyDue, Step, Keeps, Completes, Breaks}
use Rattle.amqp_model.specs.Wire.Gathering.{step}
use Rattle.amqp_model.specs.Wire.Readings.{Reading, Calls, HeaderOf, BodyOf, is_call, kind_of, payload_of}
use Rattle.amqp_model.specs.End.Channels as channels
use Rattle.amqp_model.specs.End.Channels.{Life, Channel, Free, Opening, Closing, state_of, Phase, Running, Agreed}
use Rattle.amqp_model.specs.History.Negotiation.{Config}
use Rattle.amqp_model.specs.End.Closes.{CloseCode, CommandInvalid, ChannelError, connection_close_ok}
use Rattle.amqp_model.specs.End.Events.{Plain, Event, FrameVerdict, Proceeds, RefusesContent, Faults, Peer}
use Rattle.amqp_model.specs.End.FrameVerdict.{Facts, MOST_REQUESTS, first_of, awaits_in, as_lives, lives_verdict}
use Rattle.amqp_model.specs.End.FrameVerdict.{after_part, on_part, on_message, answers_first, on_matched, is_gathering}
use Rattle.amqp_model.specs.End.FrameVerdict.{on_open, when_connection, when_misdirected, on_connection, verdict_on}
use Rattle.amqp_model.specs.End.EndVerdict.{goes_on}
use Rattle.amqp_model.specs.Pair.WholeMessages.{FitsNext}
use Rattle.amqp_model.specs.Pair.WellPut.{SaysWell, calls, heads, fills, beats}
use Rattle.amqp_model.specs.Pair.NoFault.{IsMatched}
use Rattle.amqp_model.proofs.Agreeing.{facts_in}

-- the lives of a channel go on with such a frame
pub record LivesGo (role : Role) (channel : Channel) (kind : Kind) : Type 0 where
  pub event : lives.ChannelEvent
  pub owed : Option Kind
  pub is : verdict_at role (state_of channel) (awaits_in channel) kind ≡ lives.GoesOn event owed

lives-go : {role : Role} (facts : Facts role) (r : Reading) (kind : Kind) → LivesGo role facts.channel kind
    → goes_on (lives_verdict facts r kind) ≡ true
lives-go facts r kind go = ap (λ v. goes_on (as_lives facts.number r v)) go.is

-- with a close of its own put, an end goes on with anything
pub closing-goes : {role : Role} (config : Config role) (agreed : Option Agreed) (number : ℕ) (channel : Channel)
    (r : Reading) → goes_on (verdict_on (facts_in config Phase.Closing agreed number channel) r) ≡ true
closing-goes config agreed number channel r =
    either ((number == 0) && is_call kinds.ConnectionClose r) ((number == 0) && is_call kinds.ConnectionCloseOk r)
  where
    either : (a b : Bool)
        → goes_on (cond a (Proceeds (Some Event.Quiet) (connection_close_ok ∷ []))
        (cond b (Proceeds (Some (Event.ConnectionClosed None)) []) (Proceeds (Some (Event.Discarded number)) [])))
        ≡ true
    either true b = refl
    either false true = refl
    either false false = refl

-- the rules before the last
passes : (c z s n : Bool) (on_zero last : FrameVerdict) → c ≡ false → s ≡ true → n ≡ false
    → first_of (cond c (Some (cond z on_zero (Faults (Peer CommandInvalid)))) None ∷ cond s None
    (Some (Faults (Peer CommandInvalid))) ∷ cond n (Some (Faults (Peer ChannelError))) None ∷ []) last ≡ last
passes false z true false on_zero last p q r = refl
passes true z s n on_zero last p q r = absurd (true≢false p)
passes false z false n on_zero last p q r = absurd (false≢true q)
passes false z true true on_zero last p q r = absurd (true≢false r)

-- a part that fits
part-goes : (number : ℕ) (s : Step) → FitsNext s → goes_on (after_part number s) ≡ true
part-goes number (Keeps kept) fits = refl
part-goes number (Completes content) fits = refl
part-goes number (Breaks misfit) fits = absurd fits

-- nothing is under way where a method fits
idle : (kept : Gathering) (method : Method) → FitsNext (step kept (Payload.Calls method))
    → is_gathering kept ≡ false
idle Nothing method fits = refl
idle (HeaderDue other) method fits = absurd fits
idle (BodyDue other size properties body) method fits = absurd fits

message-goes : (number : ℕ) (method : Method) → goes_on (on_message number method) ≡ true
message-goes number method = either (carries_content method)
  where
    either : (b : Bool)
        → goes_on (cond b (Proceeds None []) (Proceeds (Some (Event.Told number (Plain method))) [])) ≡ true
    either true = refl
    either false = refl

matched-goes : (role : Role) (number : ℕ) (requests : List MethodKind) (method : Method)
    → IsMatched role requests method → goes_on (on_matched role number requests method) ≡ true
matched-goes Client number requests method matched =
    by (is_reply method.kind) refl (answers_first method.kind requests) refl
  where
    by : (a : Bool) → is_reply method.kind ≡ a → (b : Bool) → answers_first method.kind requests ≡ b
        → goes_on (cond (a && not b) (Faults (Peer CommandInvalid)) (on_message number method)) ≡ true
    by false e b f = message-goes number method
    by true e true f = message-goes number method
    by true e false f = absurd (true≢false (sym (matched e) ∙ f))
matched-goes Server number requests method matched =
    by (is_request method) refl (nat_le MOST_REQUESTS (length requests)) refl
  where
    by : (a : Bool) → is_request method ≡ a → (b : Bool) → nat_le MOST_REQUESTS (length requests) ≡ b
        → goes_on (cond (a && b) (Faults (Peer CloseCode.ResourceError)) (on_message number method)) ≡ true
    by false e b f = message-goes number method
    by true e false f = message-goes number method
    by true e true f = absurd (true≢false (sym f ∙ lt-leb MOST_REQUESTS (length requests) (matched e)))

unless : (b : Bool) (one other : FrameVerdict) → b ≡ false → goes_on other ≡ true
    → goes_on (cond b one other) ≡ true
unless true one other e g = absurd (true≢false e)
unless false one other e g = g

module _ (role : Role) (config : Config role) (limits : Agreed) (number : ℕ) (above : (number == 0) ≡ false)
    (below : number ≤ limits.channel_max) where
  no-number : ((number == 0) || nat_lt limits.channel_max number) ≡ false
  no-number = ap (λ b. b || nat_lt limits.channel_max number) above ∙ le-ltb limits.channel_max number below

  -- a method on an Open channel
  open-goes : (life : Life) (method : Method) (kind : Kind) → LivesGo role (channels.Open life) kind
      → (is_message kind ≡ true → FitsNext (step life.content (Payload.Calls method)))
      → IsMatched role life.requests method
      → goes_on (on_open (facts_in config Running (Some limits) number (channels.Open life)) life method kind)
      ≡ true
  open-goes life method Close go fits matched =
      lives-go (facts_in config Running (Some limits) number (channels.Open life)) (Calls method) Close go
  open-goes life method (Flow active) go fits matched =
      unless (is_gathering life.content) _ _ (idle life.content method (fits refl))
      (lives-go (facts_in config Running (Some limits) number (channels.Open life)) (Calls method) (Flow active) go)
  open-goes life method (FlowOk active) go fits matched =
      unless (is_gathering life.content) _ _ (idle life.content method (fits refl))
      (lives-go (facts_in config Running (Some limits) number (channels.Open life)) (Calls method) (FlowOk active) go)
  open-goes life method (Other begins) go fits matched =
      unless (is_gathering life.content) _ _ (idle life.content method (fits refl))
      (matched-goes role number life.requests method matched)
  open-goes life method Open go fits matched = absurd (by-role role go.is)
    where
      by-role : (role : Role) → verdict_at role State.Open life.awaits Open ≡ lives.GoesOn go.event go.owed → ⊥
      by-role Client e = cc
      by-role Server e = cc
  open-goes life method OpenOk go fits matched = absurd (by-role role go.is)
    where
      by-role : (role : Role) → verdict_at role State.Open life.awaits OpenOk ≡ lives.GoesOn go.event go.owed
          → ⊥
      by-role Client e = cc
      by-role Server e = cc
  open-goes life method CloseOk go fits matched = absurd (by-role role go.is)
    where
      by-role : (role : Role) → verdict_at role State.Open life.awaits CloseOk ≡ lives.GoesOn go.event go.owed
          → ⊥
      by-role Client e = cc
      by-role Server e = cc

  directed : (role : Role) (kind : MethodKind) → sends (is_client (other_end role)) kind ≡ true
      → sends (not (is_client role)) kind ≡ true
  directed Client kind e = e
  directed Server kind e = e

  -- a method
  calls-go : (method : Method) → sends (is_client (other_end role)) method.kind ≡ true
      → (class_of method.kind == 10) ≡ (number == 0) → (last : FrameVerdict) → goes_on last ≡ true
      → goes_on (first_of (when_connection role number method ∷ when_misdirected role method
      ∷ cond ((number == 0) || nat_lt limits.channel_max number) (Some (Faults (Peer ChannelError))) None ∷ [])
      last) ≡ true
  calls-go method sent class last g =
      ap goes_on (passes (class_of method.kind == 10) (number == 0) (sends (not (is_client role)) method.kind)
      ((number == 0) || nat_lt limits.channel_max number) (on_connection role method) last (class ∙ above)
      (directed role method.kind sent) no-number) ∙ g

  -- a header or a part of a body belongs on an Open channel
  part-lost : (role : Role) (awaits : Bool) (event : lives.ChannelEvent) (owed : Option Kind)
      → (verdict_at role State.Free awaits (Other false) ≡ lives.GoesOn event owed → ⊥)
      × (verdict_at role State.Opening awaits (Other false) ≡ lives.GoesOn event owed → ⊥)
  part-lost Client awaits event owed = ((λ e. cc), (λ e. cc))
  part-lost Server awaits event owed = ((λ e. cc), (λ e. cc))

  header-goes : (kept : Gathering) (channel : Channel) (size : ℕ) (properties : Properties)
      → FitsNext (step kept (Payload.Header size properties))
      → goes_on (on_part (facts_in config Running (Some limits) number channel) kept (HeaderOf size properties))
      ≡ true
  header-goes Nothing channel size properties fits =
      part-goes number (step Nothing (Payload.Header size properties)) fits
  header-goes (BodyDue method due others body) channel size properties fits =
      part-goes number (step (BodyDue method due others body) (Payload.Header size properties)) fits
  header-goes (HeaderDue method) channel size properties fits = either (nat_lt config.max_body size)
    where
      either : (b : Bool)
          → goes_on (cond b RefusesContent
          (after_part number (step (HeaderDue method) (Payload.Header size properties)))) ≡ true
      either true = refl
      either false = part-goes number (step (HeaderDue method) (Payload.Header size properties)) fits

  body-goes : (kept : Gathering) (channel : Channel) (octets : List ℕ) → FitsNext (step kept (Payload.Body octets))
      → goes_on (on_part (facts_in config Running (Some limits) number channel) kept (BodyOf octets)) ≡ true
  body-goes Nothing channel octets fits = part-goes number (step Nothing (Payload.Body octets)) fits
  body-goes (BodyDue method due others body) channel octets fits =
      part-goes number (step (BodyDue method due others body) (Payload.Body octets)) fits
  body-goes (HeaderDue method) channel octets fits =
      part-goes number (step (HeaderDue method) (Payload.Body octets)) fits

  pub above-goes : (channel : Channel) {r : Reading} → SaysWell (other_end role) number r
      → LivesGo role channel (kind_of r) → ((life : Life) → channel ≡ channels.Open life
      → is_message (kind_of r) ≡ true → FitsNext (step life.content (payload_of r)))
      → ((life : Life) (method : Method) → channel ≡ channels.Open life → r ≡ Calls method
      → IsMatched role life.requests method)
      → goes_on (verdict_on (facts_in config Running (Some limits) number channel) r) ≡ true
  above-goes Closing (calls method sent class) go fits matched =
      lives-go (facts_in config Running (Some limits) number Closing) (Calls method) (kind_of (Calls method)) go
  above-goes Closing (heads size properties not_zero) go fits matched =
      lives-go (facts_in config Running (Some limits) number Closing) (HeaderOf size properties) (Other false) go
  above-goes Closing (fills octets not_zero) go fits matched =
      lives-go (facts_in config Running (Some limits) number Closing) (BodyOf octets) (Other false) go
  above-goes Free (calls method sent class) go fits matched =
      calls-go method sent class _ (lives-go (facts_in config Running (Some limits) number Free) (Calls method)
      (kind_of (Calls method)) go)
  above-goes Opening (calls method sent class) go fits matched =
      calls-go method sent class _ (lives-go (facts_in config Running (Some limits) number Opening) (Calls method)
      (kind_of (Calls method)) go)
  above-goes (channels.Open life) (calls method sent class) go fits matched =
      calls-go method sent class _ (open-goes life method (kind_of (Calls method)) go (fits life refl)
      (matched life method refl refl))
  above-goes Free (heads size properties not_zero) go fits matched =
      absurd ((part-lost role false go.event go.owed).0 go.is)
  above-goes Opening (heads size properties not_zero) go fits matched =
      absurd ((part-lost role false go.event go.owed).1 go.is)
  above-goes (channels.Open life) (heads size properties not_zero) go fits matched =
      unless ((number == 0) || nat_lt limits.channel_max number) _ _ no-number
      (header-goes life.content (channels.Open life) size properties (fits life refl refl))
  above-goes Free (fills octets not_zero) go fits matched = absurd ((part-lost role false go.event go.owed).0 go.is)
  above-goes Opening (fills octets not_zero) go fits matched = absurd ((part-lost role false go.event go.owed).1 go.is)
  above-goes (channels.Open life) (fills octets not_zero) go fits matched =
      unless ((number == 0) || nat_lt limits.channel_max number) _ _ no-number
      (body-goes life.content (channels.Open life) octets (fits life refl refl))
  above-goes at (beats zero) go fits matched = absurd (true≢false (sym (eq-eqb number 0 zero) ∙ above))
