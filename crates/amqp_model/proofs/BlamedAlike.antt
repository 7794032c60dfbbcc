-- Alike ends blame the same for a fault.
use Rattle.std.proofs.Common.{◌≡◌, Bool, cond, not, ◌==◌, nat_lt, ℕ, List, [], ◌∷◌, Option, Some}
use Rattle.std.proofs.Common.{None, refl, sym, ap, ◌∙◌}
use Rattle.amqp_model.specs.Wire.Notes.{Role, is_client, Kind, Open, OpenOk, Close, CloseOk, Flow, FlowOk, Other}
use Rattle.amqp_model.specs.Wire.Methods.{MethodKind, Method, class_of, sends}
use Rattle.amqp_model.specs.Wire.Gathering.{Gathering, Nothing, HeaderDue, BodyDue, Step, Keeps, Completes, Breaks}
use Rattle.amqp_model.specs.Wire.Gathering.{step}
use Rattle.amqp_model.specs.Lent.Streaming.{Streams, GoesOn, Ends, Stops, stream_step, streamed, streamed_step}
use Rattle.amqp_model.specs.Wire.Readings.{Reading, Calls, UnknownMethod, MalformedMethod, HeaderOf, MalformedHeader}
use Rattle.amqp_model.specs.Wire.Readings.{BodyOf, Beat, kind_of, payload_of}
use Rattle.amqp_model.specs.End.Channels as channels
use Rattle.amqp_model.specs.End.Channels.{Life, Channel, Free, Opening, Closing, Phase, Handshake, Running, Closed}
use Rattle.amqp_model.specs.End.Channels.{Failed, Agreed}
use Rattle.amqp_model.specs.History.Negotiation.{Config}
use Rattle.amqp_model.specs.End.FrameVerdict.{Facts, is_no_channel}
use Rattle.amqp_model.specs.End.EndVerdict.{facts_at}
use Rattle.amqp_model.specs.Lent.Alike.{AlikeChannels}
use Rattle.amqp_model.specs.End.Blame.{Rule, Finding, first_finding, over_finding, leaving_finding, heartbeat_finding}
use Rattle.amqp_model.specs.End.Blame.{unread_finding, handshake_finding, rule_of_misfit, step_of_content_finding}
use Rattle.amqp_model.specs.End.Blame.{part_finding, content_on_finding, content_finding, connection_finding}
use Rattle.amqp_model.specs.End.Blame.{idle_finding, inside_finding, open_channel_finding, state_finding}
use Rattle.amqp_model.specs.End.Blame.{method_finding, rest_finding, blamed}
use Rattle.amqp_model.specs.Laws.BlameLaws.{BlamedAlike}
use Rattle.amqp_model.proofs.Streamed.{steps-alike}
use Rattle.amqp_model.proofs.AlikeVerdicts.{life-with, alike-end, facts_with, life_of, open_with}

-- what is found of a part, by what is known of the content
abbrev stops_finding : Streams → Finding
stops_finding (GoesOn streaming) = None
stops_finding (Ends kind) = None
stops_finding (Stops misfit) = Some (rule_of_misfit misfit)

stops-finding : (s : Step) → step_of_content_finding s ≡ stops_finding (streamed_step s)
stops-finding (Keeps gathering) = refl
stops-finding (Completes content) = refl
stops-finding (Breaks misfit) = refl

step-same : (g h : Gathering) (r : Reading) → streamed g ≡ streamed h
    → step_of_content_finding (step g (payload_of r)) ≡ step_of_content_finding (step h (payload_of r))
step-same g h r e =
    stops-finding (step g (payload_of r))
    ∙ (ap stops_finding (sym (steps-alike g (payload_of r))
    ∙ (ap (λ s. stream_step s (payload_of r)) e ∙ steps-alike h (payload_of r)))
    ∙ sym (stops-finding (step h (payload_of r))))

-- a rule that finds the same before rules that come to the same
same-found : (rule : Option Finding) (rules others : List (Option Finding)) (last end : Finding)
    → first_finding rules last ≡ first_finding others end → first_finding (rule ∷ rules) last
    ≡ first_finding (rule ∷ others) end
same-found None rules others last end e = e
same-found (Some finding) rules others last end e = refl

module _ (role : Role) (config : Config role) (phase : Phase) (agreed : Option Agreed) (number : ℕ)
    (paused awaits : Bool) (requests : List MethodKind) where
  abbrev here : Gathering → Facts role
  here content = open_with role config phase agreed number paused awaits requests content

  abbrev life : Gathering → Life
  life content = life_of role config phase agreed number paused awaits requests content

  part-same : (g h : Gathering) (r : Reading) → streamed g ≡ streamed h
      → part_finding (here g) g r ≡ part_finding (here h) h r
  part-same Nothing Nothing r e = refl
  part-same Nothing (HeaderDue method) r e = absurd cc
  part-same Nothing (BodyDue method size properties body) r e = absurd cc
  part-same (HeaderDue method) Nothing r e = absurd cc
  part-same (HeaderDue method) (BodyDue others size properties body) r e = absurd cc
  part-same (HeaderDue method) (HeaderDue others) MalformedHeader e = refl
  part-same (HeaderDue method) (HeaderDue others) (HeaderOf size properties) e =
      ap (λ f. cond (nat_lt config.max_body size) None f)
      (step-same (HeaderDue method) (HeaderDue others) (HeaderOf size properties) e)
  part-same (HeaderDue method) (HeaderDue others) (Calls m) e = refl
  part-same (HeaderDue method) (HeaderDue others) UnknownMethod e = refl
  part-same (HeaderDue method) (HeaderDue others) MalformedMethod e = refl
  part-same (HeaderDue method) (HeaderDue others) (BodyOf octets) e = refl
  part-same (HeaderDue method) (HeaderDue others) (Beat empty) e = refl
  part-same (BodyDue method size properties body) Nothing r e = absurd cc
  part-same (BodyDue method size properties body) (HeaderDue others) r e = absurd cc
  part-same (BodyDue method size properties body) (BodyDue others again more octets) r e =
      step-same (BodyDue method size properties body) (BodyDue others again more octets) r e

  content-same : (g h : Gathering) (r : Reading) → streamed g ≡ streamed h
      → content_on_finding (here g) r ≡ content_on_finding (here h) r
  content-same g h r e = ap (λ f. cond (is_no_channel (here g)) (Some Rule.ContentOffChannel) f) (part-same g h r e)

  idle-same : (g h : Gathering) (method : Method) (kind : Kind) → idle_finding (here g) (life g) method kind
      ≡ idle_finding (here h) (life h) method kind
  idle-same g h method Open = refl
  idle-same g h method OpenOk = refl
  idle-same g h method Close = refl
  idle-same g h method CloseOk = refl
  idle-same g h method (Flow active) = refl
  idle-same g h method (FlowOk active) = refl
  idle-same g h method (Other begins) = refl

  inside-same : (g h : Gathering) (method : Method) (kind : Kind) → streamed g ≡ streamed h
      → inside_finding (here g) (life g) method kind g ≡ inside_finding (here h) (life h) method kind h
  inside-same Nothing Nothing method kind e = refl
  inside-same Nothing (HeaderDue m) method kind e = absurd cc
  inside-same Nothing (BodyDue m size properties body) method kind e = absurd cc
  inside-same (HeaderDue m) Nothing method kind e = absurd cc
  inside-same (HeaderDue m) (HeaderDue others) method kind e = refl
  inside-same (HeaderDue m) (BodyDue others size properties body) method kind e = absurd cc
  inside-same (BodyDue m size properties body) Nothing method kind e = absurd cc
  inside-same (BodyDue m size properties body) (HeaderDue others) method kind e = absurd cc
  inside-same (BodyDue m size properties body) (BodyDue others again more octets) method kind e = refl

  open-same : (g h : Gathering) (method : Method) (kind : Kind) → streamed g ≡ streamed h
      → open_channel_finding (here g) (life g) method kind ≡ open_channel_finding (here h) (life h) method kind
  open-same g h method Close e = refl
  open-same g h method Open e = inside-same g h method Open e
  open-same g h method OpenOk e = inside-same g h method OpenOk e
  open-same g h method CloseOk e = inside-same g h method CloseOk e
  open-same g h method (Flow active) e = inside-same g h method (Flow active) e
  open-same g h method (FlowOk active) e = inside-same g h method (FlowOk active) e
  open-same g h method (Other begins) e = inside-same g h method (Other begins) e

  method-same : (g h : Gathering) (method : Method) → streamed g ≡ streamed h
      → method_finding (here g) method ≡ method_finding (here h) method
  method-same g h method e =
      let connection : Option Finding =
      cond (class_of method.kind == 10)
      (Some (cond (number == 0) (connection_finding role method) (Some Rule.ConnectionOffZero))) None in
      let misdirected : Option Finding = cond (sends (not (is_client role)) method.kind) None
      (Some (Some Rule.MethodMisdirected)) in
      let off : Option Finding = cond (is_no_channel (here g)) (Some (Some Rule.MethodOffChannel)) None in
      let mine = state_finding (here g) (here g).channel method in
      let theirs = state_finding (here h) (here h).channel method in
      same-found connection (misdirected ∷ off ∷ []) (misdirected ∷ off ∷ []) mine theirs
      (same-found misdirected (off ∷ []) (off ∷ []) mine theirs
      (same-found off [] [] mine theirs (open-same g h method (kind_of (Calls method)) e)))

  later-same : (g h : Gathering) (r : Reading) → streamed g ≡ streamed h
      → first_finding (content_finding (here g) r ∷ []) (rest_finding (here g) r)
      ≡ first_finding (content_finding (here h) r ∷ []) (rest_finding (here h) r)
  later-same g h (Calls method) e = method-same g h method e
  later-same g h UnknownMethod e = refl
  later-same g h MalformedMethod e = refl
  later-same g h (HeaderOf size properties) e = content-same g h (HeaderOf size properties) e
  later-same g h MalformedHeader e = content-same g h MalformedHeader e
  later-same g h (BodyOf octets) e = content-same g h (BodyOf octets) e
  later-same g h (Beat empty) e = refl

handshake-same : (role : Role) (config : Config role) (phase at : Phase) (agreed : Option Agreed) (number : ℕ)
    (one other : Channel) (r : Reading) → handshake_finding (facts_with role config phase agreed number one) at r
    ≡ handshake_finding (facts_with role config phase agreed number other) at r
handshake-same role config phase (Handshake step) agreed number one other (Calls method) = refl
handshake-same role config phase (Handshake step) agreed number one other UnknownMethod = refl
handshake-same role config phase (Handshake step) agreed number one other MalformedMethod = refl
handshake-same role config phase (Handshake step) agreed number one other (HeaderOf size properties) = refl
handshake-same role config phase (Handshake step) agreed number one other MalformedHeader = refl
handshake-same role config phase (Handshake step) agreed number one other (BodyOf octets) = refl
handshake-same role config phase (Handshake step) agreed number one other (Beat empty) = refl
handshake-same role config phase Running agreed number one other r = refl
handshake-same role config phase Phase.Closing agreed number one other r = refl
handshake-same role config phase Closed agreed number one other r = refl
handshake-same role config phase Failed agreed number one other r = refl

life-same : (role : Role) (config : Config role) (phase : Phase) (agreed : Option Agreed) (number : ℕ) (one : Life)
    (content : Gathering) (r : Reading) → streamed one.content ≡ streamed content
    → blamed (facts_with role config phase agreed number (channels.Open one)) r
    ≡ blamed (open_with role config phase agreed number one.paused one.awaits one.requests content) r
life-same role config phase agreed number one content r e =
    let mine : Facts role = facts_with role config phase agreed number (channels.Open one) in
    let theirs : Facts role = open_with role config phase agreed number one.paused one.awaits one.requests content in
    same-found (over_finding phase) _ _ _ _
    (same-found (leaving_finding phase) _ _ _ _
    (same-found (heartbeat_finding number r) _ _ _ _
    (same-found (unread_finding r) _ _ _ _
    (ap (λ rule. first_finding (rule ∷ content_finding mine r ∷ []) (rest_finding mine r))
    (handshake-same role config phase phase agreed number mine.channel theirs.channel r)
    ∙ same-found (handshake_finding theirs phase r) _ _ _ _
    (later-same role config phase agreed number one.paused one.awaits one.requests one.content content r e)))))

channels-same : (role : Role) (config : Config role) (phase : Phase) (agreed : Option Agreed) (number : ℕ)
    (one other : Channel) (r : Reading) → AlikeChannels one other
    → blamed (facts_with role config phase agreed number one) r
    ≡ blamed (facts_with role config phase agreed number other) r
channels-same role config phase agreed number Free Free r a = refl
channels-same role config phase agreed number Opening Opening r a = refl
channels-same role config phase agreed number Closing Closing r a = refl
channels-same role config phase agreed number (channels.Open one) (channels.Open other) r a =
    life-with one other a (λ life. blamed (facts_with role config phase agreed number (channels.Open one)) r
    ≡ blamed (facts_with role config phase agreed number (channels.Open life)) r)
    (life-same role config phase agreed number one other.content r a.content)
channels-same role config phase agreed number one other r a = absurd a

pub blamed-alike : BlamedAlike
blamed-alike role config one other number r a =
    alike-end one other a (λ end. blamed (facts_at config one number) r ≡ blamed (facts_at config end number) r)
    (channels-same role config one.phase one.agreed number (one.channels number)
    (other.channels number) r (a.channels number))
