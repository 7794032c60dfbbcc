-- What a frame adds to what an end writes down.
use Rattle.std.proofs.Common.{◌≡◌, Bool, true, false, cond, not, ◌&&◌, ℕ, ◌==◌, nat_lt, nat_le, arith}
use Rattle.std.proofs.Common.{List, [], ◌∷◌, map, length, Option, Some, None, refl, sym, ap, ◌∙◌, subst}
use Rattle.std.proofs.Common.{append_assoc, append-nil}
use Rattle.std.proofs.lemmas.Bool.{false≢true, true≢false, ltb-true, eqb-true, eq-eqb, ne_eqb}
use Rattle.amqp_method.specs.Arguments.{Argument}
use Rattle.amqp_method.specs.declared.kinds.Kind.TheVariants as kinds
use Rattle.amqp_model.specs.Wire.Frame.{Frame}
use Rattle.amqp_model.specs.Wire.Notes.{Role, Client, Server, Kind, Open, OpenOk, Close, CloseOk, Flow, FlowOk, Other}
use Rattle.amqp_model.specs.Wire.Notes.{is_message}
use Rattle.amqp_model.specs.History.Verdict as lives
use Rattle.amqp_model.specs.History.Verdict.{when_free, when_opening, when_closing, when_open}
use Rattle.amqp_model.specs.Wire.Methods.{MethodKind, Method, Properties, carries_content, begins_content, sort_by}
use Rattle.amqp_model.specs.Wire.Methods.{bit_at, is_request, is_reply}
use Rattle.amqp_model.specs.Wire.Contents.{Payload}
use Rattle.amqp_model.specs.Wire.Gathering.{Gathering, Nothing, HeaderDue, BodyDue, Step, Keeps, Completes, Breaks}
use Rattle.amqp_model.specs.Wire.Gathering.{Misfit, step}
use Rattle.amqp_model.specs.Wire.Items.{Item, PlainMethod, FlowItem, FlowOkItem, item_of, completed, item_ended}
use Rattle.amqp_model.specs.Wire.Readings.{Reading, Calls, UnknownMethod, MalformedMethod, HeaderOf, MalformedHeader}
use Rattle.amqp_model.specs.Wire.Readings.{BodyOf, Beat, reading, kind_of, kind_of_method, payload_of}
use Rattle.amqp_model.specs.History.Histories.{Put, Took, History}
use Rattle.amqp_model.specs.End.Channels.{Life, Channel, Free, Opening, Closing}
use Rattle.amqp_model.specs.End.Channels.{Phase, Running, Agreed}
use Rattle.amqp_model.specs.End.Channels as channels
use Rattle.amqp_model.specs.History.Negotiation.{Config}
use Rattle.amqp_model.specs.End.Closes.{CommandInvalid, ChannelError, ResourceError, UnexpectedFrame, FrameError}
use Rattle.amqp_model.specs.End.Events as Events
use Rattle.amqp_model.specs.End.Events.{Event, FrameVerdict, Proceeds, RefusesContent, Faults, Fault, Peer}
use Rattle.amqp_model.specs.End.FrameVerdict.{Facts, first_of, as_lives, after_part, on_part, by_state, on_open}
use Rattle.amqp_model.specs.End.FrameVerdict.{on_idle, on_matched, on_message, is_gathering, is_no_channel}
use Rattle.amqp_model.specs.End.FrameVerdict.{MOST_REQUESTS, answers_first, verdict_on, event_told}
use Rattle.amqp_model.specs.End.EndVerdict.{goes_on, end_puts}
use Rattle.amqp_model.specs.End.LawfulHistories.{end_of}
use Rattle.amqp_model.specs.Stream.Traces.{Word, word_of, is_word_of, NotesFrame, noted, IsPut, IsTaken, trace}
use Rattle.amqp_model.specs.Stream.Traces.{TracePuts, TraceTakes, item_in_event}
use Rattle.amqp_model.proofs.Agreeing.{is_closing}
use Rattle.amqp_model.proofs.Going.{running}
use Rattle.amqp_model.proofs.SentTelling.{no-item}

-- the word of what is read is the one that it calls
word-called : (r : Reading) → is_word_of (word_of (kind_of r)) r ≡ true
word-called (Calls method) = by-kind method.kind (bit_at 0 method) method.args
  where
    by-kind : (kind : MethodKind) (active : Bool) (args : List Argument)
        → is_word_of (word_of (kind_of_method kind active)) (Calls (record { kind = kind; args = args })) ≡ true
    by-kind kinds.ChannelOpen active args = refl
    by-kind kinds.ChannelOpenOk active args = refl
    by-kind kinds.ChannelClose active args = refl
    by-kind kinds.ChannelCloseOk active args = refl
    by-kind kinds.ChannelFlow active args = refl
    by-kind kinds.ChannelFlowOk active args = refl
    by-kind kind active args = refl
word-called r = refl

pub notes-frame : NotesFrame
notes-frame direction frame = record {
  same_channel = refl;
  same_direction = refl;
  on_zero = λ e. ap (λ b. cond b Word.Other (word_of (kind_of (reading frame)))) (eq-eqb frame.channel 0 e);
  above_zero = λ n. ap (λ b. is_word_of (cond b Word.Other (word_of (kind_of (reading frame)))) (reading frame))
      (ne_eqb frame.channel 0 n) ∙ word-called (reading frame);
}

pub trace-puts : (frames : List Frame) (history : History) → TracePuts frames history
trace-puts [] history = sym (append-nil (trace history))
trace-puts (frame ∷ later) history =
    trace-puts later (Put frame ∷ history)
    ∙ append_assoc (trace history) (noted IsPut frame ∷ []) (map (noted IsPut) later)

pub trace-takes : TraceTakes
trace-takes role config history frame =
    trace-puts (end_puts config (end_of config history) frame) (Took frame ∷ history)
    ∙ append_assoc (trace history) (noted IsTaken frame ∷ []) _

-- The item of an event, by what the channel keeps.

-- the item that a frame ends, where the end acts on it
abbrev pub item_due : Phase → Channel → Reading → Option Item
item_due Running (channels.Open life) r = item_ended life.content (payload_of r)
item_due phase channel r = None

-- of a frame that the end goes on after, the event has that item
abbrev Tells : {role : Role} → Facts role → Reading → FrameVerdict → Type 0
Tells facts r v = goes_on v ≡ true → item_in_event (event_told facts v) ≡ item_due facts.phase facts.channel r

-- a lives' event that is no flow, and no message
abbrev is_bare : lives.Verdict → Bool
is_bare (lives.GoesOn (lives.FlowAsked active) owed) = false
is_bare (lives.GoesOn (lives.FlowAnswered active) owed) = false
is_bare verdict = true

bare-tells : {role : Role} (facts : Facts role) (r : Reading) (v : lives.Verdict) → is_bare v ≡ true
    → goes_on (as_lives facts.number r v) ≡ true
    → item_in_event (event_told facts (as_lives facts.number r v)) ≡ None
bare-tells facts r (lives.GoesOn lives.Opened owed) b g = refl
bare-tells facts r (lives.GoesOn lives.Acted owed) b g = refl
bare-tells facts r (lives.GoesOn lives.ClosedByUs owed) b g = refl
bare-tells facts r (lives.GoesOn lives.ClosedByPeer owed) b g = refl
bare-tells facts r (lives.GoesOn lives.Discarded owed) b g = refl
bare-tells facts r (lives.GoesOn lives.Quiet owed) b g = refl
bare-tells facts r (lives.GoesOn (lives.FlowAsked active) owed) b g = absurd (false≢true b)
bare-tells facts r (lives.GoesOn (lives.FlowAnswered active) owed) b g = absurd (false≢true b)
bare-tells facts r (lives.Fault code) b g = absurd (false≢true g)

bare-free : (role : Role) (kind : Kind) → is_bare (when_free role kind) ≡ true
bare-free Server Open = refl
bare-free Server OpenOk = refl
bare-free Client Open = refl
bare-free Client kind = refl
bare-free Server kind = refl

bare-opening : (role : Role) (kind : Kind) → is_bare (when_opening role kind) ≡ true
bare-opening Client OpenOk = refl
bare-opening Client Open = refl
bare-opening Server OpenOk = refl
bare-opening Client Close = refl
bare-opening Server Close = refl
bare-opening Client kind = refl
bare-opening Server kind = refl

bare-closing : (kind : Kind) → is_bare (when_closing kind) ≡ true
bare-closing Close = refl
bare-closing CloseOk = refl
bare-closing kind = refl

-- Parts of a content, on an Open channel.

part-tells : {role : Role} (facts : Facts role) (s : Step) → goes_on (after_part facts.number s) ≡ true
    → item_in_event (event_told facts (after_part facts.number s)) ≡ completed s
part-tells facts (Completes content) g = refl
part-tells facts (Keeps kept) g = refl
part-tells facts (Breaks Misfit.PastSize) g = absurd (false≢true g)
part-tells facts (Breaks misfit) g = absurd (false≢true g)

-- a header that is refused ends no content
refused-ends : (method : Method) (max size : ℕ) (properties : Properties) → nat_lt max size ≡ true
    → completed (step (HeaderDue method) (Payload.Header size properties)) ≡ None
refused-ends method max size properties large = by-size (0 == size) refl
  where
    short : (b : Bool)
        → completed (cond b (Keeps (BodyDue method size properties [])) (Breaks Misfit.PastSize)) ≡ None
    short true = refl
    short false = refl

    by-size : (b : Bool) → (0 == size) ≡ b
        → completed (cond b (Completes (record { method = method; properties = properties; body = [] }))
        (cond (nat_lt 0 size) (Keeps (BodyDue method size properties [])) (Breaks Misfit.PastSize))) ≡ None
    by-size true e =
        absurd (let zero_is = eqb-true 0 size e in let some = ltb-true max size large in absurd (omega arith))
    by-size false e = short (nat_lt 0 size)

open-part : {role : Role} (config : Config role) (agreed : Option Agreed) (number : ℕ) (life : Life) (r : Reading)
    (no_channel : Bool) → (kept : Gathering)
    → item_ended kept (payload_of r) ≡ completed (step kept (payload_of r))
    → goes_on (cond no_channel (Faults (Peer ChannelError))
    (on_part (running config agreed number (channels.Open life)) kept r)) ≡ true
    → item_in_event (event_told (running config agreed number (channels.Open life))
    (cond no_channel (Faults (Peer ChannelError)) (on_part (running config agreed number (channels.Open life)) kept r)))
    ≡ item_ended kept (payload_of r)
open-part config agreed number life r true kept e g = absurd (false≢true g)
open-part config agreed number life MalformedHeader false (HeaderDue method) e g = absurd (false≢true g)
open-part config agreed number life (HeaderOf size properties) false (HeaderDue method) e g =
    by-size (nat_lt config.max_body size) refl g
  where
    by-size : (b : Bool) → nat_lt config.max_body size ≡ b
        → goes_on (cond b RefusesContent
        (after_part number (step (HeaderDue method) (Payload.Header size properties)))) ≡ true
        → item_in_event (event_told (running config agreed number (channels.Open life))
        (cond b RefusesContent (after_part number (step (HeaderDue method) (Payload.Header size properties)))))
        ≡ completed (step (HeaderDue method) (Payload.Header size properties))
    by-size true large g = sym (refused-ends method config.max_body size properties large)
    by-size false small g =
        part-tells (running config agreed number (channels.Open life))
        (step (HeaderDue method) (Payload.Header size properties)) g
open-part config agreed number life r false Nothing e g =
    part-tells (running config agreed number (channels.Open life)) (step Nothing (payload_of r)) g ∙ sym e
open-part config agreed number life r false (BodyDue method size properties body) e g =
    part-tells (running config agreed number (channels.Open life))
    (step (BodyDue method size properties body) (payload_of r)) g ∙ sym e
open-part config agreed number life (Calls other) false (HeaderDue method) e g =
    part-tells (running config agreed number (channels.Open life))
    (step (HeaderDue method) (payload_of (Calls other))) g ∙ sym e
open-part config agreed number life UnknownMethod false (HeaderDue method) e g =
    part-tells (running config agreed number (channels.Open life))
    (step (HeaderDue method) (payload_of UnknownMethod)) g ∙ sym e
open-part config agreed number life MalformedMethod false (HeaderDue method) e g =
    part-tells (running config agreed number (channels.Open life))
    (step (HeaderDue method) (payload_of MalformedMethod)) g ∙ sym e
open-part config agreed number life (BodyOf octets) false (HeaderDue method) e g =
    part-tells (running config agreed number (channels.Open life))
    (step (HeaderDue method) (payload_of (BodyOf octets))) g ∙ sym e
open-part config agreed number life (Beat empty) false (HeaderDue method) e g =
    part-tells (running config agreed number (channels.Open life)) (step (HeaderDue method) (payload_of (Beat empty))) g
    ∙ sym e

-- A method on an Open channel.

-- what a method of no class of its own is by itself
pub other-item : (method : Method) (kind : MethodKind) (active begins : Bool)
    → kind_of_method kind active ≡ Other begins → item_of method (sort_by kind active)
    ≡ cond (begins_content (sort_by kind active)) None (Some (PlainMethod method))
other-item method kinds.ChannelOpen active begins e = absurd cc
other-item method kinds.ChannelOpenOk active begins e = absurd cc
other-item method kinds.ChannelClose active begins e = absurd cc
other-item method kinds.ChannelCloseOk active begins e = absurd cc
other-item method kinds.ChannelFlow active begins e = absurd cc
other-item method kinds.ChannelFlowOk active begins e = absurd cc
other-item method kind active begins e = refl

flow-item : (method : Method) (kind : MethodKind) (active bit : Bool) → kind_of_method kind active ≡ Flow bit
    → item_of method (sort_by kind active) ≡ Some (FlowItem bit)
flow-item method kinds.ChannelFlow active bit e = cc
flow-item method kind active bit e = absurd cc

flow-ok-item : (method : Method) (kind : MethodKind) (active bit : Bool) → kind_of_method kind active ≡ FlowOk bit
    → item_of method (sort_by kind active) ≡ Some (FlowOkItem bit)
flow-ok-item method kinds.ChannelFlowOk active bit e = cc
flow-ok-item method kind active bit e = absurd cc

-- a method that no rule before the last has stopped
pub last-is : (is_connection at_zero may_send no_channel : Bool) (on_zero last : FrameVerdict) → at_zero ≡ false
    → goes_on (first_of (cond is_connection (Some (cond at_zero on_zero (Faults (Peer CommandInvalid)))) None
    ∷ cond may_send None (Some (Faults (Peer CommandInvalid))) ∷ cond no_channel (Some (Faults (Peer ChannelError)))
    None ∷ []) last) ≡ true
    → first_of (cond is_connection (Some (cond at_zero on_zero (Faults (Peer CommandInvalid)))) None
    ∷ cond may_send None (Some (Faults (Peer CommandInvalid))) ∷ cond no_channel (Some (Faults (Peer ChannelError)))
    None ∷ []) last ≡ last
last-is true true c d on_zero last e g = absurd (true≢false e)
last-is true false c d on_zero last e g = absurd (false≢true g)
last-is false n false d on_zero last e g = absurd (false≢true g)
last-is false n true true on_zero last e g = absurd (false≢true g)
last-is false n true false on_zero last e g = refl

-- a message that is no content by itself is told at once
message-tells : {role : Role} (facts : Facts role) (method : Method) (carries : Bool)
    → item_in_event
    (event_told facts
    (cond carries (Proceeds None []) (Proceeds (Some (Event.Told facts.number (Events.Plain method))) [])))
    ≡ cond carries None (Some (PlainMethod method))
message-tells facts method true = refl
message-tells facts method false = refl

matched-tells : (role : Role) (facts : Facts role) (requests : List MethodKind) (method : Method)
    → goes_on (on_matched role facts.number requests method) ≡ true
    → item_in_event (event_told facts (on_matched role facts.number requests method))
    ≡ cond (carries_content method) None (Some (PlainMethod method))
matched-tells Client facts requests method g =
    by-reply (is_reply method.kind && not (answers_first method.kind requests)) g
  where
    by-reply : (b : Bool) → goes_on (cond b (Faults (Peer CommandInvalid)) (on_message facts.number method)) ≡ true
        → item_in_event (event_told facts (cond b (Faults (Peer CommandInvalid)) (on_message facts.number method)))
        ≡ cond (carries_content method) None (Some (PlainMethod method))
    by-reply true g = absurd (false≢true g)
    by-reply false g = message-tells facts method (carries_content method)
matched-tells Server facts requests method g = by-room (is_request method && nat_le MOST_REQUESTS (length requests)) g
  where
    by-room : (b : Bool) → goes_on (cond b (Faults (Peer ResourceError)) (on_message facts.number method)) ≡ true
        → item_in_event (event_told facts (cond b (Faults (Peer ResourceError)) (on_message facts.number method)))
        ≡ cond (carries_content method) None (Some (PlainMethod method))
    by-room true g = absurd (false≢true g)
    by-room false g = message-tells facts method (carries_content method)

bare-open : (role : Role) (awaits : Bool) (kind : Kind) → is_message kind ≡ false
    → is_bare (when_open role awaits kind) ≡ true
bare-open Client awaits Open m = refl
bare-open Server awaits Open m = refl
bare-open Client awaits OpenOk m = refl
bare-open Server awaits OpenOk m = refl
bare-open Client awaits Close m = refl
bare-open Server awaits Close m = refl
bare-open Client awaits CloseOk m = refl
bare-open Server awaits CloseOk m = refl
bare-open role awaits kind m = absurd (true≢false m)

idle : (kept : Gathering) → is_gathering kept ≡ false → kept ≡ Nothing
idle Nothing e = refl
idle (HeaderDue method) e = absurd (true≢false e)
idle (BodyDue method size properties body) e = absurd (true≢false e)

module _ {role : Role} (config : Config role) (agreed : Option Agreed) (number : ℕ)
    (life : Life) (method : Method) where
  abbrev here : Facts role
  here = running config agreed number (channels.Open life)

  flow-tells : (r : Role) (active : Bool)
      → item_in_event (event_told here (as_lives number (Calls method) (when_open r life.awaits (Flow active))))
      ≡ Some (FlowItem active)
  flow-tells Client active = refl
  flow-tells Server active = refl

  flow-ok-tells : (r : Role) (awaits active : Bool)
      → goes_on (as_lives number (Calls method) (when_open r awaits (FlowOk active))) ≡ true
      → item_in_event (event_told here (as_lives number (Calls method) (when_open r awaits (FlowOk active))))
      ≡ Some (FlowOkItem active)
  flow-ok-tells Client true active g = refl
  flow-ok-tells Server true active g = refl
  flow-ok-tells Client false active g = absurd (false≢true g)
  flow-ok-tells Server false active g = absurd (false≢true g)

  bare-here : (kind : Kind) → kind_of (Calls method) ≡ kind → is_message kind ≡ false
      → goes_on (as_lives number (Calls method) (when_open role life.awaits kind)) ≡ true
      → item_in_event (event_told here (as_lives number (Calls method) (when_open role life.awaits kind)))
      ≡ item_of method (sort_by method.kind (bit_at 0 method))
  bare-here kind e m g =
      bare-tells here (Calls method) (when_open role life.awaits kind) (bare-open role life.awaits kind m) g
      ∙ sym (no-item Nothing (Calls method) (ap is_message e ∙ m))

  idle-tells : (kind : Kind) → kind_of (Calls method) ≡ kind → goes_on (on_idle here life method kind) ≡ true
      → item_in_event (event_told here (on_idle here life method kind))
      ≡ item_of method (sort_by method.kind (bit_at 0 method))
  idle-tells (Other begins) e g =
      matched-tells role here life.requests method g ∙ sym (other-item method method.kind (bit_at 0 method) begins e)
  idle-tells (Flow active) e g =
      flow-tells role active ∙ sym (flow-item method method.kind (bit_at 0 method) active e)
  idle-tells (FlowOk active) e g =
      flow-ok-tells role life.awaits active g ∙ sym (flow-ok-item method method.kind (bit_at 0 method) active e)
  idle-tells kind e g = bare-here kind e refl g

  inside : (b : Bool) (last : FrameVerdict) (item : Option Item)
      → (b ≡ false → goes_on last ≡ true → item_in_event (event_told here last) ≡ item)
      → goes_on (cond b (Faults (Peer UnexpectedFrame)) last) ≡ true
      → item_in_event (event_told here (cond b (Faults (Peer UnexpectedFrame)) last)) ≡ item
  inside true last item h g = absurd (false≢true g)
  inside false last item h g = h refl g

  open-tells : (kind : Kind) → kind_of (Calls method) ≡ kind → goes_on (on_open here life method kind) ≡ true
      → item_in_event (event_told here (on_open here life method kind))
      ≡ item_of method (sort_by method.kind (bit_at 0 method))
  open-tells Close e g = bare-here Close e refl g
  open-tells kind e g =
      inside (is_gathering life.content) (on_idle here life method kind) _ (λ none more. idle-tells kind e more) g

-- a method on any channel but one that is Closing
state-tells : {role : Role} (config : Config role) (agreed : Option Agreed) (number : ℕ) (channel : Channel)
    (method : Method) → is_closing channel ≡ false
    → goes_on (by_state (running config agreed number channel) channel method) ≡ true
    → item_in_event
    (event_told (running config agreed number channel) (by_state (running config agreed number channel) channel method))
    ≡ item_due Running channel (Calls method)
state-tells {role} config agreed number Free method c g =
    bare-tells (running config agreed number Free) (Calls method) (when_free role (kind_of (Calls method)))
    (bare-free role (kind_of (Calls method))) g
state-tells {role} config agreed number Opening method c g =
    bare-tells (running config agreed number Opening) (Calls method) (when_opening role (kind_of (Calls method)))
    (bare-opening role (kind_of (Calls method))) g
state-tells config agreed number Closing method c g = absurd (true≢false c)
state-tells config agreed number (channels.Open life) method c g =
    open-tells config agreed number life method (kind_of (Calls method)) refl g

-- a channel above 0, of a Running end
pub no-part : {A : Type 0} (b : Bool)
    → goes_on (cond b (Faults (Peer ChannelError)) (Faults (Peer ChannelError))) ≡ true → A
no-part true g = absurd (false≢true g)
no-part false g = absurd (false≢true g)

pub no-beat : {A : Type 0} (at_zero empty : Bool) (quiet : FrameVerdict) → at_zero ≡ false
    → goes_on (cond (at_zero && empty) quiet (Faults (Peer FrameError))) ≡ true → A
no-beat true empty quiet e g = absurd (true≢false e)
no-beat false empty quiet e g = absurd (false≢true g)

pub running-tells : {role : Role} (config : Config role) (agreed : Option Agreed) (number : ℕ) (channel : Channel)
    (r : Reading) → (number == 0) ≡ false → goes_on (verdict_on (running config agreed number channel) r) ≡ true
    → item_in_event
    (event_told (running config agreed number channel) (verdict_on (running config agreed number channel) r))
    ≡ item_due Running channel r
running-tells config agreed number channel (Beat empty) above g = no-beat (number == 0) empty _ above g
running-tells config agreed number Closing r above g = by-reading r g
  where
    by-reading : (r : Reading) → goes_on (verdict_on (running config agreed number Closing) r) ≡ true
        → item_in_event
        (event_told (running config agreed number Closing) (verdict_on (running config agreed number Closing) r))
        ≡ None
    by-reading (Beat empty) g = no-beat (number == 0) empty _ above g
    by-reading r g =
        bare-tells (running config agreed number Closing) r (when_closing (kind_of r)) (bare-closing (kind_of r)) g
running-tells config agreed number Free (Calls method) above g =
    let last = last-is _ (number == 0) _ (is_no_channel (running config agreed number Free)) _
    (by_state (running config agreed number Free) Free method) above g in
    ap (λ v. item_in_event (event_told (running config agreed number Free) v)) last
    ∙ state-tells config agreed number Free method refl (subst (λ v. goes_on v ≡ true) last g)
running-tells config agreed number Opening (Calls method) above g =
    let last = last-is _ (number == 0) _ (is_no_channel (running config agreed number Opening)) _
    (by_state (running config agreed number Opening) Opening method) above g in
    ap (λ v. item_in_event (event_told (running config agreed number Opening) v)) last
    ∙ state-tells config agreed number Opening method refl (subst (λ v. goes_on v ≡ true) last g)
running-tells config agreed number (channels.Open life) (Calls method) above g =
    let last = last-is _ (number == 0) _ (is_no_channel (running config agreed number (channels.Open life))) _
    (by_state (running config agreed number (channels.Open life)) (channels.Open life) method) above g in
    ap (λ v. item_in_event (event_told (running config agreed number (channels.Open life)) v)) last
    ∙ state-tells config agreed number (channels.Open life) method refl (subst (λ v. goes_on v ≡ true) last g)
running-tells config agreed number (channels.Open life) (HeaderOf size properties) above g =
    open-part config agreed number life (HeaderOf size properties)
    (is_no_channel (running config agreed number (channels.Open life))) life.content refl g
running-tells config agreed number (channels.Open life) MalformedHeader above g =
    open-part config agreed number life MalformedHeader
    (is_no_channel (running config agreed number (channels.Open life))) life.content refl g
running-tells config agreed number (channels.Open life) (BodyOf octets) above g =
    open-part config agreed number life (BodyOf octets)
    (is_no_channel (running config agreed number (channels.Open life))) life.content refl g
running-tells config agreed number Free (HeaderOf size properties) above g =
    no-part (is_no_channel (running config agreed number Free)) g
running-tells config agreed number Free MalformedHeader above g =
    no-part (is_no_channel (running config agreed number Free)) g
running-tells config agreed number Free (BodyOf octets) above g =
    no-part (is_no_channel (running config agreed number Free)) g
running-tells config agreed number Opening (HeaderOf size properties) above g =
    no-part (is_no_channel (running config agreed number Opening)) g
running-tells config agreed number Opening MalformedHeader above g =
    no-part (is_no_channel (running config agreed number Opening)) g
running-tells config agreed number Opening (BodyOf octets) above g =
    no-part (is_no_channel (running config agreed number Opening)) g
running-tells config agreed number channel UnknownMethod above g = by-channel channel g
  where
    by-channel : (channel : Channel) → goes_on (verdict_on (running config agreed number channel) UnknownMethod)
        ≡ true → item_in_event
        (event_told (running config agreed number channel)
        (verdict_on (running config agreed number channel) UnknownMethod)) ≡ item_due Running channel UnknownMethod
    by-channel Closing g = refl
    by-channel channel g = absurd (false≢true g)
running-tells config agreed number channel MalformedMethod above g = by-channel channel g
  where
    by-channel : (channel : Channel) → goes_on (verdict_on (running config agreed number channel) MalformedMethod)
        ≡ true → item_in_event
        (event_told (running config agreed number channel)
        (verdict_on (running config agreed number channel) MalformedMethod))
        ≡ item_due Running channel MalformedMethod
    by-channel Closing g = refl
    by-channel channel g = absurd (false≢true g)
