-- What is blamed for a fault is what the verdict on a frame finds.
use Rattle.std.proofs.Common.{◌≡◌, Bool, true, false, cond, not, ◌&&◌, ◌==◌, nat_lt, nat_le, ℕ, List}
use Rattle.std.proofs.Common.{[], ◌∷◌, length, Option, Some, None, refl, sym, ap, ◌∙◌, subst}
use Rattle.std.proofs.lemmas.Bool.{false≢true}
use Rattle.amqp_frame.specs.declared.faults.FrameFaultKind.TheVariants as octets
use Rattle.amqp_method.specs.declared.kinds.Kind.TheVariants as kinds
use Rattle.amqp_model.specs.Wire.Notes.{Role, Client, Server, is_client, Kind, Open, OpenOk, Close, CloseOk, Flow}
use Rattle.amqp_model.specs.Wire.Notes.{FlowOk, Other}
use Rattle.amqp_model.specs.History.States.{State}
use Rattle.amqp_model.specs.History.Verdict.{verdict_at}
use Rattle.amqp_model.specs.Wire.Methods.{MethodKind, Method, class_of, same_kind, sends, is_request, is_reply}
use Rattle.amqp_model.specs.Wire.Methods.{carries_content}
use Rattle.amqp_model.specs.Wire.Gathering.{Gathering, Nothing, HeaderDue, BodyDue, Misfit, Step, Keeps, Completes}
use Rattle.amqp_model.specs.Wire.Gathering.{Breaks, step}
use Rattle.amqp_model.specs.Wire.Readings.{Reading, Calls, UnknownMethod, MalformedMethod, HeaderOf, MalformedHeader}
use Rattle.amqp_model.specs.Wire.Readings.{BodyOf, Beat, is_call, kind_of, payload_of}
use Rattle.amqp_model.specs.End.Channels as channels
use Rattle.amqp_model.specs.End.Channels.{Life, Channel, state_of, Phase, Handshake, Closed, Failed, HandshakeStep}
use Rattle.amqp_model.specs.End.Channels.{AwaitsStart, AwaitsStartOk, AwaitsTune, AwaitsTuneOk, AwaitsOpen}
use Rattle.amqp_model.specs.End.Channels.{AwaitsOpenOk, Agreed}
use Rattle.amqp_model.specs.History.Negotiation.{Config, tunes_too_small, agreed_in, in_range}
use Rattle.amqp_model.specs.End.Closes.{CloseCode, connection_close_ok}
use Rattle.amqp_model.specs.End.Events as Events
use Rattle.amqp_model.specs.End.Events.{Event, Fault, FrameVerdict, Proceeds}
use Rattle.amqp_model.specs.End.Events.{RefusesContent, Faults}
use Rattle.amqp_model.specs.End.FrameVerdict.{Facts, MOST_REQUESTS, first_of, when_over, when_leaving, when_heartbeat}
use Rattle.amqp_model.specs.End.FrameVerdict.{as_lives, lives_verdict, when_channel_closing, when_unread, is_awaited, asked_or}
use Rattle.amqp_model.specs.End.FrameVerdict.{on_awaited, when_handshake, awaits_in, is_no_channel, after_part, on_part}
use Rattle.amqp_model.specs.End.FrameVerdict.{part_on, when_content, on_connection, when_connection, when_misdirected}
use Rattle.amqp_model.specs.End.FrameVerdict.{when_no_channel, on_message, answers_first, on_matched, on_idle}
use Rattle.amqp_model.specs.End.FrameVerdict.{is_gathering, on_open, by_state, on_method, on_rest, verdict_on}
use Rattle.amqp_model.specs.End.EndVerdict.{goes_on, takes_octets}
use Rattle.amqp_model.specs.End.Blame.{Rule, fault_of, Finding, first_finding, over_finding, leaving_finding}
use Rattle.amqp_model.specs.End.Blame.{heartbeat_finding, closing_finding, unread_finding, awaited_finding}
use Rattle.amqp_model.specs.End.Blame.{handshake_finding, step_of_content_finding, part_finding, part_on_finding}
use Rattle.amqp_model.specs.End.Blame.{content_finding, connection_finding, lives_finding, lives_finding_of}
use Rattle.amqp_model.specs.End.Blame.{matched_finding, idle_finding, inside_finding, open_channel_finding}
use Rattle.amqp_model.specs.End.Blame.{state_finding, method_finding, rest_finding, blamed}
use Rattle.amqp_model.specs.Laws.BlameLaws.{BlamedIsFault, FaultIsBlamed, OctetsAreBlamed}

-- A verdict of a fault has a rule of that fault, and any other none.
abbrev pub Agree : FrameVerdict → Finding → Type 0
Agree (Faults fault) (Some rule) = fault ≡ fault_of rule
Agree (Faults fault) None = ⊥
Agree verdict (Some rule) = ⊥
Agree verdict None = Unit {0}

abbrev RulesAgree : Option FrameVerdict → Option Finding → Type 0
RulesAgree (Some verdict) (Some finding) = Agree verdict finding
RulesAgree None None = Unit {0}
RulesAgree one other = ⊥

abbrev AllAgree : List (Option FrameVerdict) → List (Option Finding) → Type 0
AllAgree [] [] = Unit {0}
AllAgree (verdict ∷ verdicts) (finding ∷ findings) = RulesAgree verdict finding × AllAgree verdicts findings
AllAgree one other = ⊥

first-agree : (verdicts : List (Option FrameVerdict)) (findings : List (Option Finding)) (last : FrameVerdict)
    (end : Finding) → AllAgree verdicts findings → Agree last end
    → Agree (first_of verdicts last) (first_finding findings end)
first-agree [] [] last end all at = at
first-agree (Some verdict ∷ verdicts) (Some finding ∷ findings) last end all at = all.0
first-agree (None ∷ verdicts) (None ∷ findings) last end all at = first-agree verdicts findings last end all.1 at
first-agree (Some verdict ∷ verdicts) (None ∷ findings) last end all at = absurd all.0
first-agree (None ∷ verdicts) (Some finding ∷ findings) last end all at = absurd all.0
first-agree [] (finding ∷ findings) last end all at = absurd all
first-agree (verdict ∷ verdicts) [] last end all at = absurd all

either : (b : Bool) (one other : FrameVerdict) (this that : Finding) → Agree one this → Agree other that
    → Agree (cond b one other) (cond b this that)
either true one other this that a c = a
either false one other this that a c = c

-- a rule that applies by a test
if-agree : (b : Bool) (verdict : FrameVerdict) (finding : Finding) → Agree verdict finding
    → RulesAgree (cond b (Some verdict) None) (cond b (Some finding) None)
if-agree true verdict finding a = a
if-agree false verdict finding a = tt

unless-agree : (b : Bool) (verdict : FrameVerdict) (finding : Finding) → Agree verdict finding
    → RulesAgree (cond b None (Some verdict)) (cond b None (Some finding))
unless-agree true verdict finding a = tt
unless-agree false verdict finding a = a

over-agree : (phase : Phase) → takes_octets phase ≡ true → RulesAgree (when_over phase) (over_finding phase)
over-agree Closed e = absurd (false≢true e)
over-agree Failed e = absurd (false≢true e)
over-agree phase e = tt

leaving-agree : (phase : Phase) (number : ℕ) (r : Reading)
    → RulesAgree (when_leaving phase number r) (leaving_finding phase)
leaving-agree Phase.Closing number r =
    by ((number == 0) && is_call kinds.ConnectionClose r) ((number == 0) && is_call kinds.ConnectionCloseOk r)
  where
    by : (a b : Bool)
        → Agree (cond a (Proceeds (Some Event.Quiet) (connection_close_ok ∷ []))
        (cond b (Proceeds (Some (Event.ConnectionClosed None)) []) (Proceeds (Some (Event.Discarded number)) []))) None
    by true b = tt
    by false true = tt
    by false false = tt
leaving-agree phase number r = tt

heartbeat-agree : (number : ℕ) (r : Reading) → RulesAgree (when_heartbeat number r) (heartbeat_finding number r)
heartbeat-agree number (Beat empty) = by (number == 0) empty
  where
    by : (a b : Bool)
        → Agree (cond (a && b) (Proceeds (Some Event.Quiet) []) (Faults (Fault.Peer CloseCode.FrameError)))
        (cond a (cond b None (Some Rule.HeartbeatNotEmpty)) (Some Rule.HeartbeatOffZero))
    by true true = tt
    by true false = refl
    by false b = refl
heartbeat-agree number r = tt

-- the lives of a channel
lives-agree : (role : Role) (number : ℕ) (r : Reading) (state : State) (awaits : Bool) (kind : Kind)
    → Agree (as_lives number r (verdict_at role state awaits kind)) (lives_finding role state awaits kind)
lives-agree role number r State.Closing awaits Close = tt
lives-agree role number r State.Closing awaits CloseOk = tt
lives-agree role number r State.Closing awaits kind = tt
lives-agree Client number r State.Free awaits Open = refl
lives-agree Server number r State.Free awaits Open = tt
lives-agree Server number r State.Free awaits OpenOk = refl
lives-agree Client number r State.Free awaits kind = refl
lives-agree Server number r State.Free awaits kind = refl
lives-agree Client number r State.Opening awaits Close = tt
lives-agree Server number r State.Opening awaits Close = tt
lives-agree Client number r State.Opening awaits OpenOk = tt
lives-agree Server number r State.Opening awaits OpenOk = refl
lives-agree Client number r State.Opening awaits Open = refl
lives-agree Client number r State.Opening awaits kind = refl
lives-agree Server number r State.Opening awaits kind = refl
lives-agree Client number r State.Open awaits Close = tt
lives-agree Server number r State.Open awaits Close = tt
lives-agree Client number r State.Open awaits (Flow active) = tt
lives-agree Server number r State.Open awaits (Flow active) = tt
lives-agree Client number r State.Open true (FlowOk active) = tt
lives-agree Client number r State.Open false (FlowOk active) = refl
lives-agree Server number r State.Open true (FlowOk active) = tt
lives-agree Server number r State.Open false (FlowOk active) = refl
lives-agree Client number r State.Open awaits (Other begins) = tt
lives-agree Server number r State.Open awaits (Other begins) = tt
lives-agree Client number r State.Open awaits Open = refl
lives-agree Server number r State.Open awaits Open = refl
lives-agree Client number r State.Open awaits kind = refl
lives-agree Server number r State.Open awaits kind = refl

verdict-agrees : {role : Role} (facts : Facts role) (r : Reading) (kind : Kind)
    → Agree (lives_verdict facts r kind) (lives_finding_of facts kind)
verdict-agrees {role} facts r kind =
    lives-agree role facts.number r (state_of facts.channel) (awaits_in facts.channel) kind

closing-agree : {role : Role} (facts : Facts role) (channel : Channel) (r : Reading) → facts.channel ≡ channel
    → RulesAgree (when_channel_closing facts channel r) (closing_finding channel)
closing-agree {role} facts channels.Closing r e =
    subst (λ c. Agree (as_lives facts.number r (verdict_at role (state_of c) (awaits_in c) (kind_of r))) None) (sym e)
    (lives-agree role facts.number r State.Closing false (kind_of r))
closing-agree facts channel r e = tt

unread-agree : (r : Reading) → RulesAgree (when_unread r) (unread_finding r)
unread-agree UnknownMethod = refl
unread-agree MalformedMethod = refl
unread-agree r = tt

-- The handshake.
asked-agree : (gated : Bool) (event : Event) (at_once : FrameVerdict) → Agree at_once None
    → Agree (asked_or gated event at_once) None
asked-agree true event at_once a = tt
asked-agree false event at_once a = a

awaited-agree : (role : Role) (config : Config role) (agreed : Option Agreed) (step : HandshakeStep) (method : Method)
    → Agree (on_awaited role config agreed step method) (awaited_finding role config step method)
awaited-agree Client config agreed AwaitsStart method = asked-agree config.gated _ _ tt
awaited-agree Client config agreed AwaitsTune method = either (tunes_too_small method) _ _ _ _ refl tt
awaited-agree Client config agreed AwaitsOpenOk method = tt
awaited-agree Server config agreed AwaitsStartOk method = asked-agree config.gated _ _ tt
awaited-agree Server config agreed AwaitsTuneOk method = either (in_range config (agreed_in method)) _ _ _ _ tt refl
awaited-agree Server config agreed AwaitsOpen method = asked-agree config.gated _ _ tt
awaited-agree Client config agreed step method = refl
awaited-agree Server config agreed step method = refl

handshake-agree : {role : Role} (facts : Facts role) (phase : Phase) (r : Reading)
    → RulesAgree (when_handshake facts phase r) (handshake_finding facts phase r)
handshake-agree {role} facts (Handshake step) (Calls method) =
    either (facts.number == 0) _ _ _ _
    (either (same_kind method.kind kinds.ConnectionClose) _ _ _ _ tt
    (either (is_client role && same_kind method.kind kinds.ConnectionSecure) _ _ _ _ refl
    (either (is_awaited step method.kind) _ _ _ _ (awaited-agree role facts.config facts.agreed step method) refl)))
    refl
handshake-agree facts (Handshake step) r = refl
handshake-agree facts phase r = tt

-- A part of a content.
after-agree : (number : ℕ) (s : Step) → Agree (after_part number s) (step_of_content_finding s)
after-agree number (Completes content) = tt
after-agree number (Keeps kept) = tt
after-agree number (Breaks Misfit.PastSize) = refl
after-agree number (Breaks misfit) = refl

part-agree : {role : Role} (facts : Facts role) (kept : Gathering) (r : Reading)
    → Agree (on_part facts kept r) (part_finding facts kept r)
part-agree facts (HeaderDue method) MalformedHeader = refl
part-agree facts (HeaderDue method) (HeaderOf size properties) =
    either (nat_lt facts.config.max_body size) _ _ _ _ tt
    (after-agree facts.number (step (HeaderDue method) (payload_of (HeaderOf size properties))))
part-agree facts kept r = after-agree facts.number (step kept (payload_of r))

part-on-agree : {role : Role} (facts : Facts role) (channel : Channel) (r : Reading)
    → Agree (part_on facts channel r) (part_on_finding facts channel r)
part-on-agree facts (channels.Open life) r = part-agree facts life.content r
part-on-agree facts channel r = refl

content-agree : {role : Role} (facts : Facts role) (r : Reading)
    → RulesAgree (when_content facts r) (content_finding facts r)
content-agree facts (HeaderOf size properties) =
    either (is_no_channel facts) _ _ _ _ refl (part-on-agree facts facts.channel (HeaderOf size properties))
content-agree facts MalformedHeader =
    either (is_no_channel facts) _ _ _ _ refl (part-on-agree facts facts.channel MalformedHeader)
content-agree facts (BodyOf octets) =
    either (is_no_channel facts) _ _ _ _ refl (part-on-agree facts facts.channel (BodyOf octets))
content-agree facts r = tt

-- A method.
connection-agree : (role : Role) (method : Method)
    → Agree (on_connection role method) (connection_finding role method)
connection-agree role method =
    either (same_kind method.kind kinds.ConnectionClose) _ _ _ _ tt
    (either (is_client role && same_kind method.kind kinds.ConnectionSecure) _ _ _ _ refl
    (either (is_client role && same_kind method.kind kinds.ConnectionBlocked) _ _ _ _ tt
    (either (is_client role && same_kind method.kind kinds.ConnectionUnblocked) _ _ _ _ tt refl)))

message-agree : (number : ℕ) (method : Method) → Agree (on_message number method) None
message-agree number method = by (carries_content method)
  where
    by : (b : Bool)
        → Agree (cond b (Proceeds None []) (Proceeds (Some (Event.Told number (Events.Plain method))) [])) None
    by true = tt
    by false = tt

matched-agree : (role : Role) (number : ℕ) (requests : List MethodKind) (method : Method)
    → Agree (on_matched role number requests method) (matched_finding role requests method)
matched-agree Client number requests method =
    either (is_reply method.kind && not (answers_first method.kind requests)) _ _ _ _ refl (message-agree number method)
matched-agree Server number requests method =
    either (is_request method && nat_le MOST_REQUESTS (length requests)) _ _ _ _ refl (message-agree number method)

idle-agree : {role : Role} (facts : Facts role) (life : Life) (method : Method) (kind : Kind)
    → Agree (on_idle facts life method kind) (idle_finding facts life method kind)
idle-agree {role} facts life method (Other begins) = matched-agree role facts.number life.requests method
idle-agree facts life method kind = verdict-agrees facts (Calls method) kind

inside-agree : {role : Role} (facts : Facts role) (life : Life) (method : Method) (kind : Kind) (kept : Gathering)
    → Agree (cond (is_gathering kept) (Faults (Fault.Peer CloseCode.UnexpectedFrame))
    (on_idle facts life method kind)) (inside_finding facts life method kind kept)
inside-agree facts life method kind Nothing = idle-agree facts life method kind
inside-agree facts life method kind (HeaderDue begun) = refl
inside-agree facts life method kind (BodyDue begun size properties body) = refl

open-agree : {role : Role} (facts : Facts role) (life : Life) (method : Method) (kind : Kind)
    → Agree (on_open facts life method kind) (open_channel_finding facts life method kind)
open-agree facts life method Close = verdict-agrees facts (Calls method) Close
open-agree facts life method kind = inside-agree facts life method kind life.content

state-agree : {role : Role} (facts : Facts role) (channel : Channel) (method : Method)
    → Agree (by_state facts channel method) (state_finding facts channel method)
state-agree facts (channels.Open life) method = open-agree facts life method (kind_of (Calls method))
state-agree facts channel method = verdict-agrees facts (Calls method) (kind_of (Calls method))

method-agree : {role : Role} (facts : Facts role) (method : Method)
    → Agree (on_method facts method) (method_finding facts method)
method-agree {role} facts method =
    first-agree (when_connection role facts.number method ∷ when_misdirected role method
    ∷ when_no_channel facts ∷ [])
    (cond (class_of method.kind == 10)
    (Some (cond (facts.number == 0) (connection_finding role method) (Some Rule.ConnectionOffZero))) None
    ∷ cond (sends (not (is_client role)) method.kind) None (Some (Some Rule.MethodMisdirected))
    ∷ cond (is_no_channel facts) (Some (Some Rule.MethodOffChannel)) None
    ∷ [])
    (by_state facts facts.channel method) (state_finding facts facts.channel method) (
      if-agree (class_of method.kind == 10) _ _
          (either (facts.number == 0) _ _ _ _ (connection-agree role method) refl),
      (unless-agree (sends (not (is_client role)) method.kind) _ _ refl, (if-agree (is_no_channel facts) _ _ refl, tt)),
    )
    (state-agree facts facts.channel method)

rest-agree : {role : Role} (facts : Facts role) (r : Reading) → Agree (on_rest facts r) (rest_finding facts r)
rest-agree facts (Calls method) = method-agree facts method
rest-agree facts r = refl

pub agree : {role : Role} (facts : Facts role) (r : Reading) → takes_octets facts.phase ≡ true
    → Agree (verdict_on facts r) (blamed facts r)
agree facts r e =
    first-agree
    (when_over facts.phase
    ∷ when_leaving facts.phase facts.number r
    ∷ when_heartbeat facts.number r
    ∷ when_channel_closing facts facts.channel r
    ∷ when_unread r
    ∷ when_handshake facts facts.phase r
    ∷ when_content facts r
    ∷ [])
    (over_finding facts.phase
    ∷ leaving_finding facts.phase
    ∷ heartbeat_finding facts.number r
    ∷ closing_finding facts.channel
    ∷ unread_finding r
    ∷ handshake_finding facts facts.phase r
    ∷ content_finding facts r
    ∷ [])
    (on_rest facts r) (rest_finding facts r) (
      over-agree facts.phase e,
      (
        leaving-agree facts.phase facts.number r,
        (
          heartbeat-agree facts.number r,
          (
            closing-agree facts facts.channel r refl,
            (unread-agree r, (handshake-agree facts facts.phase r, (content-agree facts r, tt))),
          ),
        ),
      ),
    )
    (rest-agree facts r)

-- The laws.

rule-faults : (verdict : FrameVerdict) (rule : Rule) → Agree verdict (Some rule)
    → verdict ≡ Faults (fault_of rule)
rule-faults (Faults fault) rule a = ap Faults a
rule-faults (Proceeds event owed) rule a = absurd a
rule-faults RefusesContent rule a = absurd a

none-goes : (verdict : FrameVerdict) → Agree verdict None → goes_on verdict ≡ true
none-goes (Faults fault) a = absurd a
none-goes (Proceeds event owed) a = refl
none-goes RefusesContent a = refl

pub blamed-is-fault : BlamedIsFault
blamed-is-fault role facts r rule e = by-phase facts.phase refl
  where
    not_over : takes_octets facts.phase ≡ true → verdict_on facts r ≡ Faults (fault_of rule)
    not_over t = rule-faults (verdict_on facts r) rule (subst (λ b. Agree (verdict_on facts r) b) e (agree facts r t))

    over_none : (phase : Phase) → facts.phase ≡ phase → over_finding phase ≡ Some None
        → verdict_on facts r ≡ Faults (fault_of rule)
    over_none phase p none =
        absurd (let h : None
        ≡ Some rule =
        sym (ap (λ f. first_finding (f ∷ leaving_finding facts.phase ∷ heartbeat_finding facts.number r
        ∷ closing_finding facts.channel ∷ unread_finding r ∷ handshake_finding facts facts.phase r
        ∷ content_finding facts r ∷ []) (rest_finding facts r)) (ap over_finding p ∙ none)) ∙ e in cc)

    by-phase : (phase : Phase) → facts.phase ≡ phase → verdict_on facts r ≡ Faults (fault_of rule)
    by-phase Closed p = over_none Closed p refl
    by-phase Failed p = over_none Failed p refl
    by-phase (Handshake step) p = not_over (ap takes_octets p)
    by-phase channels.Running p = not_over (ap takes_octets p)
    by-phase Phase.Closing p = not_over (ap takes_octets p)

pub fault-is-blamed : FaultIsBlamed
fault-is-blamed role facts r t e =
    none-goes (verdict_on facts r) (subst (λ b. Agree (verdict_on facts r) b) e (agree facts r t))

pub octets-are-blamed : OctetsAreBlamed
octets-are-blamed octets.TooLarge rule e =
    ap fault_of (let h : Some Rule.FrameTooLarge ≡ Some rule = e in
    let same : rule ≡ Rule.FrameTooLarge = cc in same)
octets-are-blamed octets.UnknownType rule e =
    ap fault_of (let h : Some Rule.FrameTypeUnknown ≡ Some rule = e in
    let same : rule ≡ Rule.FrameTypeUnknown = cc in same)
octets-are-blamed octets.BadEnd rule e =
    ap fault_of (let h : Some Rule.FrameEndWrong ≡ Some rule = e in
    let same : rule ≡ Rule.FrameEndWrong = cc in same)
octets-are-blamed octets.OutOfMemory rule e = absurd cc
octets-are-blamed octets.Failed rule e = absurd cc
