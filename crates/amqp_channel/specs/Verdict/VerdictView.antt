-- What the rules say of a frame on a channel, in the words of the model, and the channel that they leave.
-- AMQP 0-9-1 specification, sections 2.2.5 and 4.2.6. Read before: `Leaving`, and the model's `End.FrameVerdict`.
use Rattle.std.specs.Prelude.{◌≡◌, ◌==◌, ◌<◌, ◌≤◌, ◌+◌, ◌++◌, length, Bool, true, false, not, ℕ, drop, List, [], map, Option, Some, None}
use Rattle.amqp_method.specs.declared.kinds.Kind.TheVariants as kinds
use Rattle.amqp_model.specs.End.Channels.{Agreed, Life, Channel, Free, Closing, Open, new_life}
use Rattle.amqp_model.specs.End.Closes.{reply_to}
use Rattle.amqp_model.specs.Wire.Contents.{Content, Body}
use Rattle.amqp_model.specs.End.Events as events
use Rattle.amqp_model.specs.End.Events.{Event, Plain, Whole, Reason, reason_in, Peer, FrameVerdict}
use Rattle.amqp_model.specs.Wire.Frame.{Frame}
use Rattle.amqp_model.specs.End.FrameVerdict.{on_channel, on_matched, by_state, verdict_on}
use Rattle.amqp_model.specs.Wire.Gathering.{Gathering, Nothing, HeaderDue, BodyDue, Step, Keeps, Completes, Breaks, step}
use Rattle.amqp_model.specs.End.Machine.{with_asked}
use Rattle.amqp_model.specs.Wire.Methods.{MethodKind, Method, class_of, is_reply, carries_content}
use Rattle.amqp_model.specs.History.Negotiation.{Config}
use Rattle.amqp_model.specs.Wire.Notes as notes
use Rattle.amqp_model.specs.Wire.Notes.{Role, Client, Server}
use Rattle.amqp_model.specs.Wire.Readings as model
use Rattle.amqp_model.specs.Wire.Readings.{Calls, HeaderOf, BodyOf, payload_of}
use Rattle.amqp_model.specs.History.Replies.{one_if, request_made}
use Rattle.amqp_channel.specs.Events.Closes.{code_view}
use Rattle.amqp_channel.specs.Verdict.Leaving.{LeavesAfter, facts_here}
use Rattle.amqp_channel.specs.Roles.{role_of, taken_by}
use Rattle.amqp_channel.specs.declared.site.Site.{Site}
use Rattle.amqp_channel.specs.declared.verdict.Reply.{Reply}
use Rattle.amqp_channel.specs.declared.verdict.Reply.TheVariants as reply
use Rattle.amqp_channel.specs.declared.verdict.Told.{Told}
use Rattle.amqp_channel.specs.declared.verdict.Told.TheVariants as told
use Rattle.amqp_channel.specs.declared.verdict.Verdict.{Verdict}
use Rattle.amqp_channel.specs.declared.verdict.Verdict.TheVariants.{Proceeds, RefusesContent, Faults}

-- Events.

-- the method that a frame calls, told on its channel
abbrev method_told : (number : ℕ) → model.Reading → Option Event
method_told number (Calls method) = Some (events.Told number (Plain method))
method_told number reading = None

-- the content that is whole, told on its channel
abbrev content_told : (number : ℕ) → Option Content → Option Event
content_told number (Some content) = Some (events.Told number (Whole content))
content_told number None = None

-- the reason in a close that a frame calls
abbrev pub reason_read : model.Reading → Option Reason
reason_read (Calls method) = Some (reason_in method)
reason_read reading = None

-- the event that is told, of a frame that says this and makes this content whole, if any
abbrev pub event_told : (number : ℕ) → model.Reading → Option Content → Told → Option Event
event_told number reading content told.Method = method_told number reading
event_told number reading content told.Begun = None
event_told number reading content told.Headed = None
event_told number reading content told.Continued = None
event_told number reading content told.Completed = content_told number content
event_told number reading content told.Opened = Some (events.Opened number)
event_told number reading content (told.Flow active) = Some (events.Flow number active)
event_told number reading content (told.FlowOk active) = Some (events.FlowOk number active)
event_told number reading content told.ClosedByPeer = Some (events.ChannelClosed number (reason_read reading))
event_told number reading content told.ClosedByUs = Some (events.ChannelClosed number None)
event_told number reading content told.Discarded = Some (events.Discarded number)
event_told number reading content told.Quiet = Some events.Quiet

-- the kind of the reply that is owed, if any is
abbrev pub reply_kind : Reply → notes.Kind
reply_kind reply.OpenOk = notes.OpenOk
reply_kind reply.CloseOk = notes.CloseOk
reply_kind (reply.FlowOk active) = notes.FlowOk active

abbrev pub reply_there : Option Reply → Option notes.Kind
reply_there None = None
reply_there (Some owed) = Some (reply_kind owed)

-- the verdict, of a frame that says this and makes this content whole, if any
abbrev pub verdict_view : (number : ℕ) → model.Reading → Option Content → Verdict → FrameVerdict
verdict_view number reading content (Proceeds told owed) =
    events.Proceeds (event_told number reading content told) (map (on_channel number) (reply_to (reply_there owed)))
verdict_view number reading content RefusesContent = events.RefusesContent
verdict_view number reading content (Faults code) = events.Faults (Peer (code_view code))

-- The content that is whole with a frame.

-- the content that a step makes whole
abbrev whole_in : Step → Option Content
whole_in (Completes content) = Some content
whole_in (Keeps gathering) = None
whole_in (Breaks misfit) = None

-- the content that a part of its body makes whole
abbrev pub whole_with : Gathering → (octets : List ℕ) → Option Content
whole_with gathering octets = whole_in (step gathering (Body octets))

-- the content that a frame makes whole
abbrev pub whole_at : Gathering → model.Reading → Option Content
whole_at gathering reading = whole_in (step gathering (payload_of reading))

-- the content that a frame makes whole on this channel
abbrev pub whole_now : Channel → model.Reading → Option Content
whole_now (Open life) reading = whole_at life.content reading
whole_now channel reading = None

-- the content that a frame makes whole of which this is told
abbrev pub whole_of : Told → Option Content → Option Content
whole_of told.Completed whole = whole
whole_of told whole = None

-- the content that a verdict hands out
abbrev pub handed_out : Channel → model.Reading → Verdict → Option Content
handed_out channel reading (Proceeds told owed) = whole_of told (whole_now channel reading)
handed_out channel reading said = None

-- What is left.

-- the life with this content under way; with these requests
abbrev pub with_content : Life → Gathering → Life
with_content life content =
    record { content = content; paused = life.paused; awaits = life.awaits; requests = life.requests }

abbrev with_requests : Life → List MethodKind → Life
with_requests life requests =
    record { content = life.content; paused = life.paused; awaits = life.awaits; requests = requests }

-- a client's reply takes its request away, a server keeps a request
abbrev requests_with : Role → model.Reading → Life → Life
requests_with Client (Calls method) life = with_requests life (drop (one_if (is_reply method.kind)) life.requests)
requests_with Server reading life = with_requests life (with_asked (request_made reading) life.requests)
requests_with role reading life = life

-- a server keeps the request that begins a content
abbrev pub asked_with : Role → model.Reading → Life → Life
asked_with Server reading life = with_requests life (with_asked (request_made reading) life.requests)
asked_with Client reading life = life

-- the life with the content that a method begins
abbrev begun_with : model.Reading → Life → Life
begun_with (Calls method) life = with_content life (HeaderDue method)
begun_with reading life = life

-- the content with its header
abbrev pub headed_with : model.Reading → Gathering → Gathering
headed_with (HeaderOf size properties) (HeaderDue method) = BodyDue method size properties []
headed_with reading content = content

-- the content with one part more of its body
abbrev pub continued_with : model.Reading → Gathering → Gathering
continued_with (BodyOf octets) (BodyDue method size properties body) = BodyDue method size properties (body ++ octets)
continued_with reading content = content

-- the method of the content is a reply
abbrev pub replies_in : Gathering → Bool
replies_in Nothing = false
replies_in (HeaderDue method) = is_reply method.kind
replies_in (BodyDue method size properties body) = is_reply method.kind

-- a client's reply that is a content takes its request away once it is whole
abbrev completed_with : Role → Life → Life
completed_with Client life = record {
  content = Nothing;
  paused = life.paused;
  awaits = life.awaits;
  requests = drop (one_if (replies_in life.content)) life.requests;
}
completed_with Server life = with_content life Nothing

-- the life after a frame of which this is told
abbrev pub told_in : Role → model.Reading → Told → Life → Life
told_in role reading told.Method life = requests_with role reading life
told_in role reading told.Begun life = begun_with reading (asked_with role reading life)
told_in role reading told.Headed life = with_content life (headed_with reading life.content)
told_in role reading told.Continued life = with_content life (continued_with reading life.content)
told_in role reading told.Completed life = completed_with role life
told_in role reading (told.Flow active) life =
    record { content = life.content; paused = not active; awaits = life.awaits; requests = life.requests }
told_in role reading (told.FlowOk active) life =
    record { content = life.content; paused = life.paused; awaits = false; requests = life.requests }
told_in role reading told life = life

-- an Open channel goes on, and another stays
abbrev pub goes_on : Role → model.Reading → Told → Channel → Channel
goes_on role reading told (Open life) = Open (told_in role reading told life)
goes_on role reading told channel = channel

-- the channel after a frame of which this is told
abbrev pub told_on : Role → model.Reading → Told → Channel → Channel
told_on role reading told.Opened channel = Open new_life
told_on role reading told.ClosedByPeer channel = Free
told_on role reading told.ClosedByUs channel = Free
told_on role reading told channel = goes_on role reading told channel

-- the channel that a verdict leaves; of an end that has found fault no channel is looked at any more
abbrev pub left_by : Role → model.Reading → Verdict → Channel → Channel
left_by role reading (Proceeds told owed) channel = told_on role reading told channel
left_by role reading RefusesContent channel = Closing
left_by role reading (Faults code) channel = channel

-- what is told fits what the frame says and what is under way

-- a method that no content follows
abbrev StandsAlone : model.Reading → Type 0
StandsAlone (Calls method) = carries_content method ≡ false
StandsAlone reading = ⊥

-- a close of the channel
abbrev ClosesChannel : model.Reading → Type 0
ClosesChannel (Calls method) = method.kind ≡ kinds.ChannelClose
ClosesChannel reading = ⊥

-- a method that a content follows
abbrev BeginsContent : model.Reading → Type 0
BeginsContent (Calls method) = carries_content method ≡ true
BeginsContent reading = ⊥

-- a header; a part of a body
abbrev IsHeader : model.Reading → Type 0
IsHeader (HeaderOf size properties) = Unit {0}
IsHeader reading = ⊥

abbrev IsBody : model.Reading → Type 0
IsBody (BodyOf octets) = Unit {0}
IsBody reading = ⊥

-- a content is made whole
abbrev pub IsWhole : Option Content → Type 0
IsWhole (Some content) = Unit {0}
IsWhole None = ⊥

-- the header of a content is due
abbrev pub IsHeaderDue : Gathering → Type 0
IsHeaderDue (HeaderDue method) = Unit {0}
IsHeaderDue gathering = ⊥

-- a header comes, and is due
abbrev HeadsContent : Channel → model.Reading → Type 0
HeadsContent (Open life) reading = IsHeaderDue life.content × IsHeader reading
HeadsContent channel reading = ⊥

-- so many octets of a body have come, and more are due after these
abbrev pub LeavesDue : Gathering → model.Reading → Type 0
LeavesDue (BodyDue method size properties body) (BodyOf octets) = length body + length octets < size
LeavesDue gathering reading = ⊥

-- a part of a body comes, and is not the last
abbrev ContinuesContent : Channel → model.Reading → Type 0
ContinuesContent (Open life) reading = LeavesDue life.content reading × IsBody reading
ContinuesContent channel reading = ⊥

-- what is told fits what the frame says and what is under way
abbrev pub FitsTold : Channel → model.Reading → Told → Type 0
FitsTold channel reading told.Method = StandsAlone reading
FitsTold channel reading told.Begun = BeginsContent reading
FitsTold channel reading told.Headed = HeadsContent channel reading
FitsTold channel reading told.Continued = ContinuesContent channel reading
FitsTold channel reading told.Completed = IsWhole (whole_now channel reading)
FitsTold channel reading told.ClosedByPeer = ClosesChannel reading
FitsTold channel reading told = Unit {0}

-- what is told fits what the frame says, as far as its event goes
abbrev pub FitsEvent : model.Reading → Told → Type 0
FitsEvent reading told.Method = StandsAlone reading
FitsEvent reading told.ClosedByPeer = ClosesChannel reading
FitsEvent reading told = Unit {0}

-- so does the verdict
abbrev pub Fits : Channel → model.Reading → Verdict → Type 0
Fits channel reading (Proceeds told owed) = FitsTold channel reading told
Fits channel reading said = Unit {0}

-- a message that is told is not answered
abbrev pub IsUnanswered : Verdict → Type 0
IsUnanswered (Proceeds told.Method owed) = owed ≡ None
IsUnanswered (Proceeds told.Completed owed) = owed ≡ None
IsUnanswered said = Unit {0}

-- What the rules say of a frame on this channel, on a connection that is Running: the verdict of the definitions, and
-- the channel that the frame and the answer leave.
pub record Rules (site : Site) (channel : Channel) (reading : model.Reading) (said : Verdict) : Type 0 where
  pub verdict :
      (config : Config (role_of site.side)) (limits : Agreed) → config.max_body ≡ site.max_body
      → verdict_view site.number reading (whole_now channel reading) said
      ≡ verdict_on (facts_here site config limits channel) reading
  pub leaves :
      (frame : Frame)
      → LeavesAfter (role_of site.side) site.number frame reading
      (verdict_view site.number reading (whole_now channel reading) said) channel
      (left_by (role_of site.side) reading said channel)
  pub fits : Fits channel reading said
  pub unanswered : IsUnanswered said

-- the method may come on the channel: it is not of the class connection, the other end may send it, and the number is
-- that of a channel
pub record SentOnChannel (site : Site) (method : Method) : Type 0 where
  pub above : 0 < site.number
  pub within : site.number ≤ site.channel_max
  pub not_of_connection : (class_of method.kind == 10) ≡ false
  pub by_other : taken_by (role_of site.side) method.kind ≡ true

-- a verdict that is the verdict of the channel's state, where no earlier rule applies
pub record RulesByState (site : Site) (channel : Channel) (method : Method) (said : Verdict) : Type 0 where
  pub verdict :
      (config : Config (role_of site.side)) (limits : Agreed)
      → verdict_view site.number (Calls method) (whole_now channel (Calls method)) said
      ≡ by_state (facts_here site config limits channel) channel method
  pub leaves :
      (frame : Frame)
      → LeavesAfter (role_of site.side) site.number frame (Calls method)
      (verdict_view site.number (Calls method) (whole_now channel (Calls method)) said) channel
      (left_by (role_of site.side) (Calls method) said channel)
  pub fits : Fits channel (Calls method) said
  pub unanswered : IsUnanswered said

-- a verdict on a message, where no content is under way: replies are matched, and requests are kept
abbrev pub MessageRules : Role → Life → Method → Verdict → Type 0
MessageRules role life method said =
    (number : ℕ) → verdict_view number (Calls method) None said ≡ on_matched role number life.requests method

-- a verdict that tells a message says whether a content follows
abbrev pub TellsMessage : Method → Verdict → Type 0
TellsMessage method (Proceeds told.Begun None) = carries_content method ≡ true
TellsMessage method (Proceeds told.Method None) = carries_content method ≡ false
TellsMessage method (Faults code) = Unit {0}
TellsMessage method said = ⊥

-- a flow, or the answer to one
abbrev pub IsFlow : Told → Type 0
IsFlow (told.Flow active) = Unit {0}
IsFlow (told.FlowOk active) = Unit {0}
IsFlow told = ⊥

-- Frames that are dropped.

-- a part of a content, or a header that can't be read
abbrev pub IsPart : model.Reading → Type 0
IsPart (HeaderOf size properties) = Unit {0}
IsPart model.MalformedHeader = Unit {0}
IsPart (BodyOf octets) = Unit {0}
IsPart reading = ⊥

-- that the frame is dropped is told
abbrev pub IsDiscarded : Told → Type 0
IsDiscarded told.Discarded = Unit {0}
IsDiscarded told = ⊥

-- the frame is dropped, and nothing is answered
abbrev pub Drops : Verdict → Type 0
Drops (Proceeds told None) = IsDiscarded told
Drops said = ⊥
