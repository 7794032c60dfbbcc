-- The verdict on a frame is the same at alike ends, but for the content told.
use Rattle.std.proofs.Common.{◌≡◌, Bool, true, false, cond, nat_lt, ℕ, List, [], ◌∷◌, Option, Some, None}
use Rattle.std.proofs.Common.{refl, sym, ap, ◌∙◌, subst}
use Rattle.amqp_model.specs.Wire.Notes.{Role, Kind, Open, OpenOk, Close, CloseOk, Flow, FlowOk, Other}
use Rattle.amqp_model.specs.Wire.Methods.{MethodKind, Method}
use Rattle.amqp_model.specs.Wire.Contents.{Header}
use Rattle.amqp_model.specs.Wire.Gathering.{Gathering, Nothing, HeaderDue, BodyDue, NothingBegun, HeaderAwaited}
use Rattle.amqp_model.specs.Wire.Gathering.{BodyAwaited, PastSize, MethodInside, NotRead, Step, Keeps, Completes}
use Rattle.amqp_model.specs.Wire.Gathering.{Breaks, step}
use Rattle.amqp_model.specs.Lent.Streaming.{Streams, GoesOn, Ends, Stops, stream_step, is_streaming, streamed}
use Rattle.amqp_model.specs.Lent.Streaming.{streamed_step}
use Rattle.amqp_model.specs.Wire.Readings.{Reading, Calls, UnknownMethod, MalformedMethod, HeaderOf, MalformedHeader}
use Rattle.amqp_model.specs.Wire.Readings.{BodyOf, Beat, kind_of, payload_of}
use Rattle.amqp_model.specs.End.Channels as channels
use Rattle.amqp_model.specs.End.Channels.{Life, Channel, Free, Opening, Closing, Phase, Handshake, Running, Closed}
use Rattle.amqp_model.specs.End.Channels.{Failed, Agreed, End}
use Rattle.amqp_model.specs.History.Negotiation.{Config}
use Rattle.amqp_model.specs.End.Closes.{CloseCode, FrameError, ChannelError, UnexpectedFrame, ContentTooLarge, Owed}
use Rattle.amqp_model.specs.End.Closes.{channel_close}
use Rattle.amqp_model.specs.End.Events.{Peer, Fatal, WrongProtocolHeader, AlreadyClosed, AlreadyFailed, FrameVerdict}
use Rattle.amqp_model.specs.End.Events.{Proceeds, RefusesContent, Faults}
use Rattle.amqp_model.specs.End.FrameVerdict.{Facts, fault, first_of, when_over, when_leaving, when_heartbeat}
use Rattle.amqp_model.specs.End.FrameVerdict.{when_unread, when_handshake, when_content, on_content, is_no_channel}
use Rattle.amqp_model.specs.End.FrameVerdict.{on_part, part_on, after_part, is_gathering, on_idle, on_open}
use Rattle.amqp_model.specs.End.FrameVerdict.{when_connection, when_misdirected, when_no_channel, on_method, on_rest}
use Rattle.amqp_model.specs.End.FrameVerdict.{verdict_on, methods_put}
use Rattle.amqp_model.specs.End.EndVerdict.{facts_at}
use Rattle.amqp_model.specs.End.Machine.{taken_verdict}
use Rattle.amqp_model.specs.Lent.Alike.{AlikeLives, AlikeChannels, AlikeEnds, TellsWhole, VerdictTelling, Proceeding}
use Rattle.amqp_model.specs.Lent.Alike.{Refusing, Faulting, verdict_telling}
use Rattle.amqp_model.specs.Laws.StreamingLaws.{VerdictsAlike, PutsAlike}
use Rattle.amqp_model.proofs.Streamed.{steps-alike}

-- A part of a content.

-- what a verdict on a part says, by what is known of the content
after_streams : (number : ℕ) → Streams → VerdictTelling
after_streams number (GoesOn streaming) = Proceeding None []
after_streams number (Ends kind) = Proceeding (Some (TellsWhole number)) []
after_streams number (Stops PastSize) = Faulting (Peer FrameError)
after_streams number (Stops misfit) = Faulting (Peer UnexpectedFrame)

after-streams : (number : ℕ) (s : Step) → verdict_telling (after_part number s)
    ≡ after_streams number (streamed_step s)
unfolding after_streams
after-streams number (Keeps gathering) = refl
after-streams number (Completes content) = refl
after-streams number (Breaks NothingBegun) = refl
after-streams number (Breaks HeaderAwaited) = refl
after-streams number (Breaks BodyAwaited) = refl
after-streams number (Breaks PastSize) = refl
after-streams number (Breaks MethodInside) = refl
after-streams number (Breaks NotRead) = refl

-- a part where such contents are under way, of which as much is known
after-alike : (number : ℕ) (g h : Gathering) (reading : Reading) → streamed g ≡ streamed h
    → verdict_telling (after_part number (step g (payload_of reading)))
    ≡ verdict_telling (after_part number (step h (payload_of reading)))
after-alike number g h reading e =
    after-streams number (step g (payload_of reading))
    ∙ (ap (after_streams number) (sym (steps-alike g (payload_of reading))
    ∙ (ap (λ s. stream_step s (payload_of reading)) e ∙ steps-alike h (payload_of reading)))
    ∙ sym (after-streams number (step h (payload_of reading))))

-- the verdicts on a part on channels that differ in the content under way
module _ (role : Role) (one other : Facts role) (same_number : one.number ≡ other.number)
    (same_config : one.config ≡ other.config) where
  after-both : (g h : Gathering) (reading : Reading) → streamed g ≡ streamed h
      → verdict_telling (after_part one.number (step g (payload_of reading)))
      ≡ verdict_telling (after_part other.number (step h (payload_of reading)))
  after-both g h reading e =
      after-alike one.number g h reading e
      ∙ ap (λ n. verdict_telling (after_part n (step h (payload_of reading)))) same_number

  refused-or : (b : Bool) (v w : FrameVerdict) → verdict_telling v ≡ verdict_telling w
      → verdict_telling (cond b RefusesContent v) ≡ verdict_telling (cond b RefusesContent w)
  refused-or true v w e = refl
  refused-or false v w e = e

  part-alike : (g h : Gathering) (reading : Reading) → streamed g ≡ streamed h
      → verdict_telling (on_part one g reading) ≡ verdict_telling (on_part other h reading)
  part-alike Nothing Nothing reading e = after-both Nothing Nothing reading e
  part-alike Nothing (HeaderDue method) reading e = absurd cc
  part-alike Nothing (BodyDue method size properties body) reading e = absurd cc
  part-alike (HeaderDue method) Nothing reading e = absurd cc
  part-alike (HeaderDue method) (BodyDue others size properties body) reading e = absurd cc
  part-alike (HeaderDue method) (HeaderDue others) MalformedHeader e = refl
  part-alike (HeaderDue method) (HeaderDue others) (HeaderOf size properties) e =
      refused-or (nat_lt one.config.max_body size) _ _
      (after-both (HeaderDue method) (HeaderDue others) (HeaderOf size properties) e)
      ∙ ap (λ c.
      verdict_telling
      (cond (nat_lt c.max_body size) RefusesContent
      (after_part other.number (step (HeaderDue others) (Header size properties))))) same_config
  part-alike (HeaderDue method) (HeaderDue others) (Calls m) e =
      after-both (HeaderDue method) (HeaderDue others) (Calls m) e
  part-alike (HeaderDue method) (HeaderDue others) UnknownMethod e =
      after-both (HeaderDue method) (HeaderDue others) UnknownMethod e
  part-alike (HeaderDue method) (HeaderDue others) MalformedMethod e =
      after-both (HeaderDue method) (HeaderDue others) MalformedMethod e
  part-alike (HeaderDue method) (HeaderDue others) (BodyOf octets) e =
      after-both (HeaderDue method) (HeaderDue others) (BodyOf octets) e
  part-alike (HeaderDue method) (HeaderDue others) (Beat empty) e =
      after-both (HeaderDue method) (HeaderDue others) (Beat empty) e
  part-alike (BodyDue method size properties body) Nothing reading e = absurd cc
  part-alike (BodyDue method size properties body) (HeaderDue others) reading e = absurd cc
  part-alike (BodyDue method size properties body) (BodyDue others again more octets) reading e =
      after-both (BodyDue method size properties body) (BodyDue others again more octets) reading e

-- A frame on an Open channel.

gathering-alike : (g h : Gathering) → streamed g ≡ streamed h → is_gathering g ≡ is_gathering h
gathering-alike g h e = says g ∙ (ap is_streaming e ∙ sym (says h))
  where
    says : (g : Gathering) → is_gathering g ≡ is_streaming (streamed g)
    says Nothing = refl
    says (HeaderDue method) = refl
    says (BodyDue method size properties body) = refl

-- a rule that is the same before rules that come to the same
same-first : (rule : Option FrameVerdict) (rules others : List (Option FrameVerdict)) (last end : FrameVerdict)
    → verdict_telling (first_of rules last) ≡ verdict_telling (first_of others end)
    → verdict_telling (first_of (rule ∷ rules) last) ≡ verdict_telling (first_of (rule ∷ others) end)
same-first None rules others last end e = e
same-first (Some verdict) rules others last end e = refl

module _ (role : Role) (config : Config role) (phase : Phase) (agreed : Option Agreed) (number : ℕ)
    (paused awaits : Bool) (requests : List MethodKind) where
  abbrev pub life_of : Gathering → Life
  life_of content = record { content = content; paused = paused; awaits = awaits; requests = requests }

  abbrev pub facts_of : Channel → Facts role
  facts_of channel = record { config = config; phase = phase; agreed = agreed; number = number; channel = channel }

  abbrev pub open_with : Gathering → Facts role
  open_with content = facts_of (channels.Open (life_of content))

  idle-same : (g h : Gathering) (method : Method) (kind : Kind) → on_idle (open_with g) (life_of g) method kind
      ≡ on_idle (open_with h) (life_of h) method kind
  idle-same g h method Open = refl
  idle-same g h method OpenOk = refl
  idle-same g h method Close = refl
  idle-same g h method CloseOk = refl
  idle-same g h method (Flow active) = refl
  idle-same g h method (FlowOk active) = refl
  idle-same g h method (Other begins) = refl

  busy-alike : (g h : Gathering) (method : Method) (kind : Kind) → streamed g ≡ streamed h
      → cond (is_gathering g) (fault UnexpectedFrame) (on_idle (open_with g) (life_of g) method kind)
      ≡ cond (is_gathering h) (fault UnexpectedFrame) (on_idle (open_with h) (life_of h) method kind)
  busy-alike g h method kind e =
      ap (λ b. cond b (fault UnexpectedFrame) (on_idle (open_with g) (life_of g) method kind)) (gathering-alike g h e)
      ∙ ap (λ v. cond (is_gathering h) (fault UnexpectedFrame) v) (idle-same g h method kind)

  open-alike : (g h : Gathering) (method : Method) (kind : Kind) → streamed g ≡ streamed h
      → on_open (open_with g) (life_of g) method kind ≡ on_open (open_with h) (life_of h) method kind
  open-alike g h method Open e = busy-alike g h method Open e
  open-alike g h method OpenOk e = busy-alike g h method OpenOk e
  open-alike g h method Close e = refl
  open-alike g h method CloseOk e = busy-alike g h method CloseOk e
  open-alike g h method (Flow active) e = busy-alike g h method (Flow active) e
  open-alike g h method (FlowOk active) e = busy-alike g h method (FlowOk active) e
  open-alike g h method (Other begins) e = busy-alike g h method (Other begins) e

  method-alike : (g h : Gathering) (method : Method) → streamed g ≡ streamed h
      → verdict_telling (on_method (open_with g) method) ≡ verdict_telling (on_method (open_with h) method)
  method-alike g h method e =
      same-first (when_connection role number method) _ _ _ _
      (same-first (when_misdirected role method) _ _ _ _
      (same-first (when_no_channel (open_with g)) [] [] _ _
      (ap verdict_telling (open-alike g h method (kind_of (Calls method)) e))))

  content-alike : (g h : Gathering) (reading : Reading) → streamed g ≡ streamed h
      → verdict_telling (on_content (open_with g) reading) ≡ verdict_telling (on_content (open_with h) reading)
  content-alike g h reading e = tests (is_no_channel (open_with g))
    where
      tests : (b : Bool)
          → verdict_telling (cond b (fault ChannelError) (part_on (open_with g) (channels.Open (life_of g)) reading))
          ≡ verdict_telling (cond b (fault ChannelError) (part_on (open_with h) (channels.Open (life_of h)) reading))
      tests true = refl
      tests false = part-alike role (open_with g) (open_with h) refl refl g h reading e

  rest-alike : (g h : Gathering) (reading : Reading) → streamed g ≡ streamed h
      → verdict_telling (first_of (when_content (open_with g) reading ∷ []) (on_rest (open_with g) reading))
      ≡ verdict_telling (first_of (when_content (open_with h) reading ∷ []) (on_rest (open_with h) reading))
  rest-alike g h (Calls method) e = method-alike g h method e
  rest-alike g h UnknownMethod e = refl
  rest-alike g h MalformedMethod e = refl
  rest-alike g h (HeaderOf size properties) e = content-alike g h (HeaderOf size properties) e
  rest-alike g h MalformedHeader e = content-alike g h MalformedHeader e
  rest-alike g h (BodyOf octets) e = content-alike g h (BodyOf octets) e
  rest-alike g h (Beat empty) e = refl

handshake-same : (role : Role) (config : Config role) (phase at : Phase) (agreed : Option Agreed) (number : ℕ)
    (one other : Channel) (reading : Reading)
    → when_handshake (record { config = config; phase = phase; agreed = agreed; number = number; channel = one }) at
    reading ≡ when_handshake (record {
      config = config;
      phase = phase;
      agreed = agreed;
      number = number;
      channel = other;
    }) at reading
handshake-same role config phase (Handshake step) agreed number one other (Calls method) = refl
handshake-same role config phase (Handshake step) agreed number one other UnknownMethod = refl
handshake-same role config phase (Handshake step) agreed number one other MalformedMethod = refl
handshake-same role config phase (Handshake step) agreed number one other (HeaderOf size properties) = refl
handshake-same role config phase (Handshake step) agreed number one other MalformedHeader = refl
handshake-same role config phase (Handshake step) agreed number one other (BodyOf octets) = refl
handshake-same role config phase (Handshake step) agreed number one other (Beat empty) = refl
handshake-same role config phase Running agreed number one other reading = refl
handshake-same role config phase Phase.Closing agreed number one other reading = refl
handshake-same role config phase Closed agreed number one other reading = refl
handshake-same role config phase Failed agreed number one other reading = refl

abbrev pub facts_with : (role : Role) → Config role → Phase → Option Agreed → ℕ → Channel → Facts role
facts_with role config phase agreed number channel =
    record { config = config; phase = phase; agreed = agreed; number = number; channel = channel }

-- an Open channel with such a content under way, or with another of which as much is known
life-alike : (role : Role) (config : Config role) (phase : Phase) (agreed : Option Agreed) (number : ℕ) (one : Life)
    (content : Gathering) (reading : Reading) → streamed one.content ≡ streamed content
    → verdict_telling (verdict_on (facts_with role config phase agreed number (channels.Open one)) reading)
    ≡ verdict_telling
    (verdict_on (facts_with role config phase agreed number
    (channels.Open (life_of role config phase agreed number one.paused one.awaits one.requests content))) reading)
life-alike role config phase agreed number one content reading e =
    let here : Facts role = facts_with role config phase agreed number (channels.Open one) in
    let there : Facts role = open_with role config phase agreed number one.paused one.awaits one.requests content in
    same-first (when_over phase) _ _ _ _
    (same-first (when_leaving phase number reading) _ _ _ _
    (same-first (when_heartbeat number reading) _ _ _ _
    (same-first (when_unread reading) _ _ _ _
    (ap (λ rule. verdict_telling (first_of (rule ∷ when_content here reading ∷ []) (on_rest here reading)))
    (handshake-same role config phase phase agreed number here.channel there.channel reading)
    ∙ same-first (when_handshake there phase reading) _ _ _ _
    (rest-alike role config phase agreed number one.paused one.awaits one.requests one.content content reading e)))))

-- an alike life is the same with another content
pub life-with : (one other : Life) → AlikeLives one other → (P : Life → Type 0)
    → P (record { content = other.content; paused = one.paused; awaits = one.awaits; requests = one.requests })
    → P other
life-with one other a P p =
    subst (λ requests. P (record {
      content = other.content;
      paused = other.paused;
      awaits = other.awaits;
      requests = requests;
    })) a.requests
    (subst (λ awaits.
    P (record { content = other.content; paused = other.paused; awaits = awaits; requests = one.requests })) a.awaits
    (subst (λ paused.
    P (record { content = other.content; paused = paused; awaits = one.awaits; requests = one.requests })) a.paused p))

pub channels-alike : (role : Role) (config : Config role) (phase : Phase) (agreed : Option Agreed) (number : ℕ)
    (one other : Channel) (reading : Reading) → AlikeChannels one other
    → verdict_telling (verdict_on (facts_with role config phase agreed number one) reading)
    ≡ verdict_telling (verdict_on (facts_with role config phase agreed number other) reading)
channels-alike role config phase agreed number Free Free reading a = refl
channels-alike role config phase agreed number Opening Opening reading a = refl
channels-alike role config phase agreed number Closing Closing reading a = refl
channels-alike role config phase agreed number (channels.Open one) (channels.Open other) reading a =
    life-with one other a
    (λ life. verdict_telling (verdict_on (facts_with role config phase agreed number (channels.Open one)) reading)
    ≡ verdict_telling (verdict_on (facts_with role config phase agreed number (channels.Open life)) reading))
    (life-alike role config phase agreed number one other.content reading a.content)
channels-alike role config phase agreed number one other reading a = absurd a

-- what holds of an end with the same phase, the same agreed and these channels holds of the alike end
pub alike-end : (one other : End) → AlikeEnds one other → (P : End → Type 0)
    → P (record { phase = one.phase; agreed = one.agreed; channels = other.channels }) → P other
alike-end one other a P p =
    subst (λ agreed. P (record { phase = other.phase; agreed = agreed; channels = other.channels })) a.agreed
    (subst (λ phase. P (record { phase = phase; agreed = one.agreed; channels = other.channels })) a.phase p)

pub verdicts-alike : VerdictsAlike
verdicts-alike role config one other number reading a =
    alike-end one other a (λ end. verdict_telling (taken_verdict config one number reading)
    ≡ verdict_telling (taken_verdict config end number reading))
    (channels-alike role config one.phase one.agreed number (one.channels number) (other.channels number)
    reading (a.channels number))

-- what a verdict puts, but for the content that it tells
pub puts_of : (closes : CloseCode → List Owed) (number : ℕ) → VerdictTelling → List Owed
puts_of closes number (Proceeding event owed) = owed
puts_of closes number Refusing = channel_close number ContentTooLarge ∷ []
puts_of closes number (Faulting (Peer code)) = closes code
puts_of closes number (Faulting fault) = []

pub puts-are : (role : Role) (facts : Facts role) (verdict : FrameVerdict)
    → methods_put facts verdict ≡ puts_of (λ code. methods_put facts (Faults (Peer code)))
    facts.number (verdict_telling verdict)
unfolding puts_of
puts-are role facts (Proceeds event owed) = refl
puts-are role facts RefusesContent = refl
puts-are role facts (Faults (Peer code)) = refl
puts-are role facts (Faults Fatal) = refl
puts-are role facts (Faults WrongProtocolHeader) = refl
puts-are role facts (Faults AlreadyClosed) = refl
puts-are role facts (Faults AlreadyFailed) = refl

pub puts-alike : PutsAlike
puts-alike role config one other number reading a =
    alike-end one other a (λ end. methods_put (facts_at config one number) (taken_verdict config one number reading)
    ≡ methods_put (facts_at config end number) (taken_verdict config end number reading))
    (puts-are role (facts_at config one number) (taken_verdict config one number reading)
    ∙ (ap (puts_of (λ code. methods_put (facts_at config one number) (Faults (Peer code))) number)
    (channels-alike role config one.phase one.agreed number (one.channels number) (other.channels number)
    reading (a.channels number))
    ∙ sym (puts-are role (facts_with role config one.phase one.agreed number (other.channels number))
    (verdict_on (facts_with role config one.phase one.agreed number (other.channels number)) reading))))
