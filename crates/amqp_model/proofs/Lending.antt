-- What is lent of a frame.
use Rattle.std.proofs.Common.{◌≡◌, Bool, true, false, cond, not, ◌&&◌, nat_lt, nat_le, ℕ, ◌==◌, List}
use Rattle.std.proofs.Common.{[], ◌∷◌, length, Option, Some, None, refl, ap, subst}
use Rattle.amqp_method.specs.declared.kinds.Kind.TheVariants as kinds
use Rattle.amqp_model.specs.Wire.Notes.{Role, Client, Server, is_client, Kind, Open, OpenOk, Close, CloseOk, Flow}
use Rattle.amqp_model.specs.Wire.Notes.{FlowOk, Other}
use Rattle.amqp_model.specs.History.States.{State}
use Rattle.amqp_model.specs.History.Verdict as lives
use Rattle.amqp_model.specs.History.Verdict.{verdict_at}
use Rattle.amqp_model.specs.Wire.Methods.{Method, MethodKind, class_of, same_kind, sends, carries_content, is_request}
use Rattle.amqp_model.specs.Wire.Methods.{is_reply}
use Rattle.amqp_model.specs.Wire.Contents.{Content}
use Rattle.amqp_model.specs.Wire.Gathering.{Gathering, Nothing, HeaderDue, BodyDue, PastSize, Step, Keeps, Completes}
use Rattle.amqp_model.specs.Wire.Gathering.{Breaks, step}
use Rattle.amqp_model.specs.Wire.Readings.{Reading, Calls, UnknownMethod, MalformedMethod, HeaderOf, MalformedHeader}
use Rattle.amqp_model.specs.Wire.Readings.{BodyOf, Beat, is_call, kind_of, payload_of}
use Rattle.amqp_model.specs.End.Channels as channels
use Rattle.amqp_model.specs.End.Channels.{Life, Channel, Free, Opening, Closing, Phase, Handshake, Closed}
use Rattle.amqp_model.specs.End.Channels.{Failed, HandshakeStep, AwaitsStart, AwaitsStartOk}
use Rattle.amqp_model.specs.End.Channels.{AwaitsTune, AwaitsTuneOk, AwaitsOpen, AwaitsOpenOk, Agreed}
use Rattle.amqp_model.specs.History.Negotiation.{Config, tunes_too_small, agreed_in, in_range}
use Rattle.amqp_model.specs.End.Closes.{ChannelError, Owed}
use Rattle.amqp_model.specs.End.Events.{Event, AnswerAsked, LoginAsked, OpenAsked, Told, Plain, Whole, FrameVerdict}
use Rattle.amqp_model.specs.End.Events.{Proceeds}
use Rattle.amqp_model.specs.End.FrameVerdict.{Facts, fault, MOST_REQUESTS, first_of, when_over, when_leaving}
use Rattle.amqp_model.specs.End.FrameVerdict.{when_heartbeat, as_lives, when_channel_closing, when_unread, negotiated}
use Rattle.amqp_model.specs.End.FrameVerdict.{is_awaited, asked_or, on_awaited, when_handshake, is_no_channel}
use Rattle.amqp_model.specs.End.FrameVerdict.{after_part, on_part, part_on, when_content, when_connection}
use Rattle.amqp_model.specs.End.FrameVerdict.{when_misdirected, when_no_channel, on_message, answers_first, on_matched}
use Rattle.amqp_model.specs.End.FrameVerdict.{on_idle, is_gathering, on_open, by_state, on_method, on_rest, verdict_on}
use Rattle.amqp_model.specs.Lent.Alike.{maybe_telling, lent, LentEvent, Begins, Heads, Part, WithoutContent}
use Rattle.amqp_model.specs.Lent.Alike as alike
use Rattle.amqp_model.specs.Laws.StreamingLaws.{EachFrameLends, LastIsWhole, LendsOne, LendsLast}
use Rattle.amqp_model.proofs.Streamed.{whole-is-came}

-- a frame that may be part of a message
abbrev is_part : Reading → Bool
is_part (Calls method) = true
is_part (HeaderOf size properties) = true
is_part (BodyOf octets) = true
is_part reading = false

-- the last frame of this content, under way on the channel
record IsLast (channel : Channel) (reading : Reading) (content : Content) : Type 0 where
  life : Life
  was_open : channel ≡ channels.Open life
  whole : step life.content (payload_of reading) ≡ Completes content
  part : is_part reading ≡ true

-- only a part of a message tells nothing, and only the last part of a content a whole one
abbrev TellsSo : Channel → Reading → FrameVerdict → Type 0
TellsSo channel reading (Proceeds None owed) = is_part reading ≡ true
TellsSo channel reading (Proceeds (Some (Told number (Whole content))) owed) = IsLast channel reading content
TellsSo channel reading verdict = Unit {0}

abbrev RuleTellsSo : Channel → Reading → Option FrameVerdict → Type 0
RuleTellsSo channel reading (Some verdict) = TellsSo channel reading verdict
RuleTellsSo channel reading None = Unit {0}

module _ (c : Channel) (r : Reading) where
  either : (b : Bool) (v w : FrameVerdict) → TellsSo c r v → TellsSo c r w → TellsSo c r (cond b v w)
  either true v w p q = p
  either false v w p q = q

  either-rule : (b : Bool) (v w : Option FrameVerdict) → RuleTellsSo c r v → RuleTellsSo c r w
      → RuleTellsSo c r (cond b v w)
  either-rule true v w p q = p
  either-rule false v w p q = q

  first : (rule : Option FrameVerdict) (rules : List (Option FrameVerdict)) (last : FrameVerdict)
      → RuleTellsSo c r rule → TellsSo c r (first_of rules last) → TellsSo c r (first_of (rule ∷ rules) last)
  first None rules last p q = q
  first (Some verdict) rules last p q = p

  over-so : (phase : Phase) → RuleTellsSo c r (when_over phase)
  over-so Closed = tt
  over-so Failed = tt
  over-so phase = tt

  leaving-so : (phase : Phase) (number : ℕ) → RuleTellsSo c r (when_leaving phase number r)
  leaving-so Phase.Closing number =
      either ((number == 0) && is_call kinds.ConnectionClose r) _ _ tt
      (either ((number == 0) && is_call kinds.ConnectionCloseOk r) _ _ tt tt)
  leaving-so phase number = tt

  lives-so : (number : ℕ) (verdict : lives.Verdict)
      → (is_part r ≡ false → verdict ≡ lives.GoesOn lives.Discarded None)
      → TellsSo c r (as_lives number r verdict)
  lives-so number (lives.GoesOn lives.Opened owed) p = tt
  lives-so number (lives.GoesOn lives.Acted owed) p = by-part (is_part r) refl
    where
      by-part : (b : Bool) → is_part r ≡ b → is_part r ≡ true
      by-part true e = e
      by-part false e = absurd (let h : lives.GoesOn lives.Acted owed ≡ lives.GoesOn lives.Discarded None = p e in cc)
  lives-so number (lives.GoesOn lives.ClosedByUs owed) p = tt
  lives-so number (lives.GoesOn lives.ClosedByPeer owed) p = tt
  lives-so number (lives.GoesOn lives.Discarded owed) p = tt
  lives-so number (lives.GoesOn lives.Quiet owed) p = tt
  lives-so number (lives.GoesOn (lives.FlowAsked active) owed) p = tt
  lives-so number (lives.GoesOn (lives.FlowAnswered active) owed) p = tt
  lives-so number (lives.Fault code) p = tt

heartbeat-so : (c : Channel) (number : ℕ) (r : Reading) → RuleTellsSo c r (when_heartbeat number r)
heartbeat-so c number (Beat empty) = either c (Beat empty) ((number == 0) && empty) _ _ tt tt
heartbeat-so c number r = tt

unread-so : (c : Channel) (r : Reading) → RuleTellsSo c r (when_unread r)
unread-so c UnknownMethod = tt
unread-so c MalformedMethod = tt
unread-so c r = tt

-- what is no part of a message is dropped where the channel is closing
closing-lives : (role : Role) (awaits : Bool) (r : Reading) → is_part r ≡ false
    → verdict_at role State.Closing awaits (kind_of r) ≡ lives.GoesOn lives.Discarded None
closing-lives role awaits (Calls method) e = absurd cc
closing-lives role awaits (HeaderOf size properties) e = absurd cc
closing-lives role awaits (BodyOf octets) e = absurd cc
closing-lives role awaits r e = refl

negotiated-so : (c : Channel) (r : Reading) (agreed : Option Agreed) (owed : List Owed) → is_part r ≡ true
    → TellsSo c r (Proceeds (negotiated agreed) owed)
negotiated-so c r (Some agreed) owed p = tt
negotiated-so c r None owed p = p

asked-so : (c : Channel) (m : Method) (gated : Bool) (event : Event) (at_once : FrameVerdict)
    → TellsSo c (Calls m) (Proceeds (Some event) []) → TellsSo c (Calls m) at_once
    → TellsSo c (Calls m) (asked_or gated event at_once)
asked-so c m true event at_once asks does = asks
asked-so c m false event at_once asks does = does

awaited-so : (c : Channel) (m : Method) (role : Role) (config : Config role) (agreed : Option Agreed)
    (at : HandshakeStep) → TellsSo c (Calls m) (on_awaited role config agreed at m)
awaited-so c m Client config agreed AwaitsStart = asked-so c m config.gated AnswerAsked _ tt tt
awaited-so c m Client config agreed AwaitsTune = either c (Calls m) (tunes_too_small m) _ _ tt tt
awaited-so c m Client config agreed AwaitsOpenOk = negotiated-so c (Calls m) agreed [] refl
awaited-so c m Client config agreed at = tt
awaited-so c m Server config agreed AwaitsStartOk = asked-so c m config.gated LoginAsked _ tt tt
awaited-so c m Server config agreed AwaitsTuneOk = either c (Calls m) (in_range config (agreed_in m)) _ _ tt tt
awaited-so c m Server config agreed AwaitsOpen =
    asked-so c m config.gated OpenAsked _ tt (negotiated-so c (Calls m) agreed _ refl)
awaited-so c m Server config agreed at = tt

module _ (role : Role) (config : Config role) (phase : Phase) (agreed : Option Agreed)
    (number : ℕ) (channel : Channel) where
  abbrev facts : Facts role
  facts = record { config = config; phase = phase; agreed = agreed; number = number; channel = channel }

  handshake-so : (at : Phase) (r : Reading) → RuleTellsSo channel r (when_handshake facts at r)
  handshake-so (Handshake step) (Calls m) =
      either channel (Calls m) (number == 0) _ _
      (either channel (Calls m) (same_kind m.kind kinds.ConnectionClose) _ _ tt
      (either channel (Calls m) (is_client role && same_kind m.kind kinds.ConnectionSecure) _ _ tt
      (either channel (Calls m) (is_awaited step m.kind) _ _ (awaited-so channel m role config agreed step) tt))) tt
  handshake-so (Handshake step) r = tt
  handshake-so at r = tt

  closing-so : (c : Channel) (r : Reading)
      → RuleTellsSo c r
      (when_channel_closing (record { config = config; phase = phase; agreed = agreed; number = number; channel = c }) c r)
  closing-so Closing r =
      lives-so Closing r number (verdict_at role State.Closing false (kind_of r)) (closing-lives role false r)
  closing-so c r = tt

  connection-so : (m : Method) → RuleTellsSo channel (Calls m) (when_connection role number m)
  connection-so m =
      either-rule channel (Calls m) (class_of m.kind == 10) _ _
      (either channel (Calls m) (number == 0) _ _
      (either channel (Calls m) (same_kind m.kind kinds.ConnectionClose) _ _ tt
      (either channel (Calls m) (is_client role && same_kind m.kind kinds.ConnectionSecure) _ _ tt
      (either channel (Calls m) (is_client role && same_kind m.kind kinds.ConnectionBlocked) _ _ tt
      (either channel (Calls m) (is_client role && same_kind m.kind kinds.ConnectionUnblocked) _ _ tt tt)))) tt) tt

  misdirected-so : (m : Method) → RuleTellsSo channel (Calls m) (when_misdirected role m)
  misdirected-so m = either-rule channel (Calls m) (sends (not (is_client role)) m.kind) _ _ tt tt

  no-channel-so : (r : Reading) → RuleTellsSo channel r (when_no_channel facts)
  no-channel-so r = either-rule channel r (is_no_channel facts) _ _ tt tt

  message-so : (m : Method) → TellsSo channel (Calls m) (on_message number m)
  message-so m = either channel (Calls m) (carries_content m) _ _ refl tt

  matched-so : (role : Role) (requests : List MethodKind) (m : Method)
      → TellsSo channel (Calls m) (on_matched role number requests m)
  matched-so Client requests m =
      either channel (Calls m) (is_reply m.kind && not (answers_first m.kind requests)) _ _ tt (message-so m)
  matched-so Server requests m =
      either channel (Calls m) (is_request m && nat_le MOST_REQUESTS (length requests)) _ _ tt (message-so m)

  method-lives-so : (m : Method) (verdict : lives.Verdict)
      → TellsSo channel (Calls m) (as_lives number (Calls m) verdict)
  method-lives-so m verdict = lives-so channel (Calls m) number verdict (λ e. absurd cc)

  idle-so : (life : Life) (m : Method) (kind : Kind) → TellsSo channel (Calls m) (on_idle facts life m kind)
  idle-so life m (Other begins) = matched-so role life.requests m
  idle-so life m Open = method-lives-so m _
  idle-so life m OpenOk = method-lives-so m _
  idle-so life m Close = method-lives-so m _
  idle-so life m CloseOk = method-lives-so m _
  idle-so life m (Flow active) = method-lives-so m _
  idle-so life m (FlowOk active) = method-lives-so m _

  open-so : (life : Life) (m : Method) (kind : Kind) → TellsSo channel (Calls m) (on_open facts life m kind)
  open-so life m Close = method-lives-so m _
  open-so life m Open = either channel (Calls m) (is_gathering life.content) _ _ tt (idle-so life m Open)
  open-so life m OpenOk = either channel (Calls m) (is_gathering life.content) _ _ tt (idle-so life m OpenOk)
  open-so life m CloseOk = either channel (Calls m) (is_gathering life.content) _ _ tt (idle-so life m CloseOk)
  open-so life m (Flow active) =
      either channel (Calls m) (is_gathering life.content) _ _ tt (idle-so life m (Flow active))
  open-so life m (FlowOk active) =
      either channel (Calls m) (is_gathering life.content) _ _ tt (idle-so life m (FlowOk active))
  open-so life m (Other begins) =
      either channel (Calls m) (is_gathering life.content) _ _ tt (idle-so life m (Other begins))

  state-so : (c : Channel) (m : Method) → TellsSo channel (Calls m) (by_state facts c m)
  state-so (channels.Open life) m = open-so life m (kind_of (Calls m))
  state-so Free m = method-lives-so m _
  state-so Opening m = method-lives-so m _
  state-so Closing m = method-lives-so m _

  method-so : (m : Method) → TellsSo channel (Calls m) (on_method facts m)
  method-so m =
      first channel (Calls m) (when_connection role number m) _ _ (connection-so m)
      (first channel (Calls m) (when_misdirected role m) _ _ (misdirected-so m)
      (first channel (Calls m) (when_no_channel facts) [] _ (no-channel-so (Calls m)) (state-so channel m)))

  after-so : (life : Life) (r : Reading) → channel ≡ channels.Open life → is_part r ≡ true → (s : Step)
      → step life.content (payload_of r) ≡ s → TellsSo channel r (after_part number s)
  after-so life r is part (Completes content) e = record { life = life; was_open = is; whole = e; part = part }
  after-so life r is part (Keeps kept) e = part
  after-so life r is part (Breaks PastSize) e = tt
  after-so life r is part (Breaks misfit) e = tt

  part-so : (life : Life) (g : Gathering) (r : Reading) → channel ≡ channels.Open life → life.content ≡ g
      → is_part r ≡ true → TellsSo channel r (on_part facts g r)
  part-so life (HeaderDue method) (HeaderOf size properties) is at part =
      either channel (HeaderOf size properties) (nat_lt config.max_body size) _ _ tt
      (after-so life (HeaderOf size properties) is part
      (step (HeaderDue method) (payload_of (HeaderOf size properties)))
      (ap (λ g. step g (payload_of (HeaderOf size properties))) at))
  part-so life (HeaderDue method) (BodyOf octets) is at part =
      after-so life (BodyOf octets) is part _ (ap (λ g. step g (payload_of (BodyOf octets))) at)
  part-so life (HeaderDue method) (Calls m) is at part =
      after-so life (Calls m) is part _ (ap (λ g. step g (payload_of (Calls m))) at)
  part-so life (HeaderDue method) r is at part = absurd cc
  part-so life Nothing r is at part = after-so life r is part _ (ap (λ g. step g (payload_of r)) at)
  part-so life (BodyDue method size properties body) r is at part =
      after-so life r is part _ (ap (λ g. step g (payload_of r)) at)

  content-so : (c : Channel) (r : Reading) → channel ≡ c → is_part r ≡ true
      → TellsSo channel r (cond (is_no_channel facts) (fault ChannelError) (part_on facts c r))
  content-so (channels.Open life) r is part =
      either channel r (is_no_channel facts) _ _ tt (part-so life life.content r is refl part)
  content-so Free r is part = either channel r (is_no_channel facts) _ _ tt tt
  content-so Opening r is part = either channel r (is_no_channel facts) _ _ tt tt
  content-so Closing r is part = either channel r (is_no_channel facts) _ _ tt tt

  malformed-so : (g : Gathering) → TellsSo channel MalformedHeader (on_part facts g MalformedHeader)
  malformed-so Nothing = tt
  malformed-so (HeaderDue method) = tt
  malformed-so (BodyDue method size properties body) = tt

  malformed-content-so : (c : Channel) → TellsSo channel MalformedHeader (part_on facts c MalformedHeader)
  malformed-content-so (channels.Open life) = malformed-so life.content
  malformed-content-so Free = tt
  malformed-content-so Opening = tt
  malformed-content-so Closing = tt

  rest-so : (r : Reading) → TellsSo channel r (first_of (when_content facts r ∷ []) (on_rest facts r))
  rest-so (Calls m) = method-so m
  rest-so UnknownMethod = tt
  rest-so MalformedMethod = tt
  rest-so (HeaderOf size properties) = content-so channel (HeaderOf size properties) refl refl
  rest-so MalformedHeader = either channel MalformedHeader (is_no_channel facts) _ _ tt (malformed-content-so channel)
  rest-so (BodyOf octets) = content-so channel (BodyOf octets) refl refl
  rest-so (Beat empty) = tt

tells-so : (role : Role) (facts : Facts role) (r : Reading) → TellsSo facts.channel r (verdict_on facts r)
tells-so role facts r =
    first facts.channel r (when_over facts.phase) _ _ (over-so facts.channel r facts.phase)
    (first facts.channel r (when_leaving facts.phase facts.number r) _ _
    (leaving-so facts.channel r facts.phase facts.number)
    (first facts.channel r (when_heartbeat facts.number r) _ _ (heartbeat-so facts.channel facts.number r)
    (first facts.channel r (when_channel_closing facts facts.channel r) _ _
    (closing-so role facts.config facts.phase facts.agreed facts.number facts.channel facts.channel r)
    (first facts.channel r (when_unread r) _ _ (unread-so facts.channel r)
    (first facts.channel r (when_handshake facts facts.phase r) _ _
    (handshake-so role facts.config facts.phase facts.agreed facts.number facts.channel facts.phase r)
    (rest-so role facts.config facts.phase facts.agreed facts.number facts.channel r))))))

-- a part of a message lends something, whether a content is whole with it or not
part-lends : (number : ℕ) (r : Reading) (event : Option Event) (whole : Bool) → is_part r ≡ true
    → lent number r (maybe_telling event) ≡ alike.part_lent number r whole → LendsOne number r event
part-lends number (Calls method) event whole part e = record { told = Begins number method; lent_is = e }
part-lends number (HeaderOf size properties) event whole part e =
    record { told = Heads number size properties whole; lent_is = e }
part-lends number (BodyOf octets) event whole part e = record { told = Part number octets whole; lent_is = e }
part-lends number r event whole part e = absurd cc

lends-one : (number : ℕ) (channel : Channel) (r : Reading) (event : Option Event) (owed : List Owed)
    → TellsSo channel r (Proceeds event owed) → LendsOne number r event
lends-one number channel r None owed so = part-lends number r None false so refl
lends-one number channel r (Some (Told n (Whole content))) owed so =
    part-lends number r (Some (Told n (Whole content))) true so.part refl
lends-one number channel r (Some (Told n (Plain method))) owed so =
    record { told = WithoutContent n method; lent_is = refl }
lends-one number channel r (Some event) owed so = record { told = alike.LentEvent.Other event; lent_is = refl }

pub each-frame-lends : EachFrameLends
each-frame-lends role facts reading event owed e =
    lends-one facts.number facts.channel reading event owed
    (subst (TellsSo facts.channel reading) e (tells-so role facts reading))

pub last-is-whole : LastIsWhole
last-is-whole role facts reading number content owed e =
    last (subst (TellsSo facts.channel reading) e (tells-so role facts reading))
  where
    last : IsLast facts.channel reading content → LendsLast reading facts.channel content
    last is =
        record {
          life = is.life;
          was_open = is.was_open;
          whole = is.whole;
          body = whole-is-came is.life.content (payload_of reading) content is.whole;
        }
