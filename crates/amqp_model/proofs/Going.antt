-- What a frame has to be, where the verdict on it lets the end go on.
use Rattle.std.proofs.Common.{◌≡◌, ◌≤◌, ◌⊎◌, inl, inr, Bool, true, false, cond, not, ◌&&◌, ℕ}
use Rattle.std.proofs.Common.{◌==◌, arith, List, [], ◌∷◌, ◌++◌, drop, length, Option, Some, None, refl}
use Rattle.std.proofs.Common.{sym, ap, ◌∙◌, subst}
use Rattle.std.proofs.lemmas.Bool.{false≢true, true≢false}
use Rattle.amqp_model.specs.Wire.Frame.{Frame}
use Rattle.amqp_model.specs.Wire.Notes.{Role, Client, Server, is_client, Kind, Open, OpenOk, Close, CloseOk, Flow}
use Rattle.amqp_model.specs.Wire.Notes.{FlowOk, Other, is_message}
use Rattle.amqp_model.specs.History.Verdict.{when_free, when_opening, when_open}
use Rattle.amqp_model.specs.Wire.Methods.{MethodKind, Method, Properties, carries_content, is_reply, bit_at}
use Rattle.amqp_model.specs.Wire.Contents.{Payload}
use Rattle.amqp_model.specs.Wire.Gathering.{Gathering, Nothing, HeaderDue, BodyDue, Step, Keeps, Completes, Breaks}
use Rattle.amqp_model.specs.Wire.Gathering.{Misfit, step, remains}
use Rattle.amqp_model.specs.Wire.Readings.{Reading, Calls, UnknownMethod, MalformedMethod, HeaderOf, MalformedHeader}
use Rattle.amqp_model.specs.Wire.Readings.{BodyOf, Beat, kind_of, payload_of}
use Rattle.amqp_model.specs.History.Histories.{TookHere}
use Rattle.amqp_model.specs.History.Replies.{one_if, completes_reply}
use Rattle.amqp_model.specs.End.Channels.{Life, Channel, Free, Opening, Running, Agreed}
use Rattle.amqp_model.specs.End.Channels as channels
use Rattle.amqp_model.specs.History.Negotiation.{Config}
use Rattle.amqp_model.specs.End.Closes.{CloseCode, CommandInvalid, ChannelError}
use Rattle.amqp_model.specs.End.Events.{FrameVerdict, Faults, Peer}
use Rattle.amqp_model.specs.End.FrameVerdict.{Facts, first_of, as_lives, on_method, by_state, on_open, on_idle}
use Rattle.amqp_model.specs.End.FrameVerdict.{on_matched, is_no_channel, answers_first, is_gathering, verdict_on}
use Rattle.amqp_model.specs.End.EndVerdict.{goes_on}
use Rattle.amqp_model.specs.End.Machine.{HasItsRequest, IsAnswerable}
use Rattle.amqp_model.proofs.ClassMethods.{is_class_kind, class-plain}
use Rattle.amqp_model.proofs.ChannelSteps.{Matches}

abbrev pub is_close : Kind → Bool
is_close Close = true
is_close kind = false

-- what a Running end knows of a frame's channel
abbrev pub running : {role : Role} → Config role → Option Agreed → ℕ → Channel → Facts role
running config agreed number channel =
    record { config = config; phase = Running; agreed = agreed; number = number; channel = channel }

fails : {A : Type 0} → goes_on (Faults (Peer CommandInvalid)) ≡ true → A
fails e = absurd (false≢true e)

-- a method off channel 0 that no rule before the last has stopped
peel : (is_connection at_zero may_send no_channel : Bool) (on_zero last : FrameVerdict) → at_zero ≡ false
    → goes_on (first_of (cond is_connection (Some (cond at_zero on_zero (Faults (Peer CommandInvalid)))) None
    ∷ cond may_send None (Some (Faults (Peer CommandInvalid))) ∷ cond no_channel (Some (Faults (Peer ChannelError)))
    None ∷ []) last) ≡ true → goes_on last ≡ true
peel true true c d on_zero last e g = absurd (true≢false e)
peel true false c d on_zero last e g = absurd (false≢true g)
peel false n false d on_zero last e g = absurd (false≢true g)
peel false n true true on_zero last e g = absurd (false≢true g)
peel false n true false on_zero last e g = g

pub method-goes : {role : Role} (config : Config role) (agreed : Option Agreed) (number : ℕ) (channel : Channel)
    (method : Method) → (number == 0) ≡ false → goes_on (on_method (running config agreed number channel) method)
    ≡ true → goes_on (by_state (running config agreed number channel) channel method) ≡ true
method-goes {role} config agreed number channel method above g =
    peel _ (number == 0) _ (is_no_channel (running config agreed number channel)) _ _ above g

-- a heartbeat off channel 0
beat-stops : (at_zero empty : Bool) (quiet : FrameVerdict) → at_zero ≡ false
    → goes_on (cond (at_zero && empty) quiet (Faults (Peer CloseCode.FrameError))) ≡ true → ⊥
beat-stops true empty quiet e g = true≢false e
beat-stops false empty quiet e g = false≢true g

-- a part of a content where the channel is not Open
part-stops : (no_channel : Bool)
    → goes_on (cond no_channel (Faults (Peer ChannelError)) (Faults (Peer ChannelError))) ≡ true → ⊥
part-stops true g = false≢true g
part-stops false g = false≢true g

-- Free: a server takes an open.
free-goes : (role : Role) (kind : Kind) (number : ℕ) (reading : Reading)
    → goes_on (as_lives number reading (when_free role kind)) ≡ true → (role ≡ Server) × (kind ≡ Open)
free-goes Server Open number reading g = (refl, refl)
free-goes Client Open number reading g = absurd (false≢true g)
free-goes Server OpenOk number reading g = absurd (false≢true g)
free-goes role kind number reading g = absurd (false≢true g)

pub running-free : {role : Role} (config : Config role) (agreed : Option Agreed) (number : ℕ)
    → (number == 0) ≡ false → (reading : Reading)
    → goes_on (verdict_on (running config agreed number Free) reading) ≡ true → (method : Method)
    × (reading ≡ Calls method) × (role ≡ Server) × (kind_of (Calls method) ≡ Open)
running-free {role} config agreed number above (Calls method) g =
    let h = free-goes role (kind_of (Calls method)) number (Calls method)
    (method-goes config agreed number Free method above g) in
    (method, refl, h.0, h.1)
running-free config agreed number above (Beat empty) g = absurd (beat-stops (number == 0) empty _ above g)
running-free config agreed number above (HeaderOf size properties) g =
    absurd (part-stops (is_no_channel (running config agreed number Free)) g)
running-free config agreed number above MalformedHeader g =
    absurd (part-stops (is_no_channel (running config agreed number Free)) g)
running-free config agreed number above (BodyOf octets) g =
    absurd (part-stops (is_no_channel (running config agreed number Free)) g)
running-free config agreed number above UnknownMethod g = absurd (false≢true g)
running-free config agreed number above MalformedMethod g = absurd (false≢true g)

-- Opening: open-ok, or a close.
opening-goes : (kind : Kind) (number : ℕ) (reading : Reading)
    → goes_on (as_lives number reading (when_opening Client kind)) ≡ true → (kind ≡ OpenOk) ⊎ (kind ≡ Close)
opening-goes OpenOk number reading g = inl refl
opening-goes Close number reading g = inr refl
opening-goes kind number reading g = absurd (false≢true g)

pub running-opening : (config : Config Client) (agreed : Option Agreed) (number : ℕ) → (number == 0) ≡ false
    → (reading : Reading) → goes_on (verdict_on (running config agreed number Opening) reading) ≡ true
    → (method : Method) × (reading ≡ Calls method)
    × ((kind_of (Calls method) ≡ OpenOk) ⊎ (kind_of (Calls method) ≡ Close))
running-opening config agreed number above (Calls method) g = (
  method,
  refl,
  opening-goes (kind_of (Calls method)) number (Calls method)
      (method-goes config agreed number Opening method above g),
)
running-opening config agreed number above (Beat empty) g = absurd (beat-stops (number == 0) empty _ above g)
running-opening config agreed number above (HeaderOf size properties) g =
    absurd (part-stops (is_no_channel (running config agreed number Opening)) g)
running-opening config agreed number above MalformedHeader g =
    absurd (part-stops (is_no_channel (running config agreed number Opening)) g)
running-opening config agreed number above (BodyOf octets) g =
    absurd (part-stops (is_no_channel (running config agreed number Opening)) g)
running-opening config agreed number above UnknownMethod g = absurd (false≢true g)
running-opening config agreed number above MalformedMethod g = absurd (false≢true g)

-- Open: a close, or what the life goes on with.

-- the requests have room for a reply that answers the oldest of them
room-for : (kind : MethodKind) (requests : List MethodKind) (b : Bool) → is_reply kind ≡ b
    → (is_reply kind ≡ true → answers_first kind requests ≡ true) → one_if b ≤ length requests
room-for kind requests false e answerable = omega arith
room-for kind [] true e answerable = absurd (false≢true (answerable e))
room-for kind (request ∷ requests) true e answerable = omega arith

room-plain : (kind : MethodKind) (requests : List MethodKind) (b carries : Bool) → is_reply kind ≡ b
    → (is_reply kind ≡ true → answers_first kind requests ≡ true)
    → one_if (b && not carries) ≤ length requests
room-plain kind requests false carries e answerable = omega arith
room-plain kind requests true true e answerable = omega arith
room-plain kind requests true false e answerable = room-for kind requests true e answerable

-- a client takes a payload that is no method: what it does to what is kept
abbrev Kept : Step → Payload → List MethodKind → Type 0
Kept step payload requests =
    (one_if (completes_reply step) ≤ length requests)
    × HasItsRequest Client (remains step payload) (drop (one_if (completes_reply step)) requests)

abbrev is_part : Payload → Bool
is_part (Payload.Calls method) = false
is_part payload = true

broken : (misfit : Misfit) (payload : Payload) (requests : List MethodKind) → is_part payload ≡ true
    → Kept (Breaks misfit) payload requests
broken misfit (Payload.Calls method) requests e = absurd (false≢true e)
broken misfit payload requests e = (omega arith, tt)

whole-or-more : (method : Method) (size : ℕ) (properties : Properties) (body : List ℕ) (payload : Payload)
    (requests : List MethodKind) → is_part payload ≡ true → IsAnswerable method requests → (whole short : Bool)
    → Kept (cond whole (Completes (record { method = method; properties = properties; body = body }))
    (cond short (Keeps (BodyDue method size properties body)) (Breaks Misfit.PastSize))) payload requests
whole-or-more method size properties body payload requests e answerable true short =
    (room-for method.kind requests (is_reply method.kind) refl answerable, tt)
whole-or-more method size properties body payload requests e answerable false true = (omega arith, answerable)
whole-or-more method size properties body payload requests e answerable false false =
    broken Misfit.PastSize payload requests e

part-kept : (kept : Gathering) (payload : Payload) (requests : List MethodKind) → is_part payload ≡ true
    → HasItsRequest Client kept requests → Kept (step kept payload) payload requests
part-kept kept (Payload.Calls method) requests e h = absurd (false≢true e)
part-kept kept Payload.Unread requests e h = broken Misfit.NotRead Payload.Unread requests refl
part-kept Nothing (Payload.Header size properties) requests e h =
    broken Misfit.NothingBegun (Payload.Header size properties) requests refl
part-kept Nothing (Payload.Body octets) requests e h = broken Misfit.NothingBegun (Payload.Body octets) requests refl
part-kept (HeaderDue method) (Payload.Header size properties) requests e h =
    whole-or-more method size properties [] (Payload.Header size properties) requests refl h _ _
part-kept (HeaderDue method) (Payload.Body octets) requests e h =
    broken Misfit.HeaderAwaited (Payload.Body octets) requests refl
part-kept (BodyDue method size properties body) (Payload.Header again others) requests e h =
    broken Misfit.BodyAwaited (Payload.Header again others) requests refl
part-kept (BodyDue method size properties body) (Payload.Body octets) requests e h =
    whole-or-more method size properties (body ++ octets) (Payload.Body octets) requests refl h _ _

-- what is no method never leaves a reply without its request
part-matches : (role : Role) (kept : Gathering) (requests : List MethodKind) (reading : Reading) (frame : Frame)
    → is_part (payload_of reading) ≡ true → HasItsRequest role kept requests
    → Matches role kept requests (TookHere reading frame)
part-matches Server kept requests reading frame e h = record { room = omega arith; answerable = tt }
part-matches Client kept requests (Calls method) frame e h = absurd (false≢true e)
part-matches Client kept requests reading frame e h =
    let k = part-kept kept (payload_of reading) requests e h in
    record { room = k.0; answerable = k.1 }

-- a method, with nothing under way
begun-answerable : (method : Method) (requests : List MethodKind) (replies carries : Bool)
    → IsAnswerable method requests
    → HasItsRequest Client (cond carries (HeaderDue method) Nothing) (drop (one_if (replies && not carries)) requests)
begun-answerable method requests replies false answerable = tt
begun-answerable method requests true true answerable = answerable
begun-answerable method requests false true answerable = answerable

call-matches : (role : Role) (requests : List MethodKind) (method : Method) (frame : Frame)
    → (role ≡ Client → IsAnswerable method requests)
    → Matches role Nothing requests (TookHere (Calls method) frame)
call-matches Server requests method frame answerable = record { room = omega arith; answerable = tt }
call-matches Client requests method frame answerable =
    record {
      room = room-plain method.kind requests (is_reply method.kind) (carries_content method) refl (answerable refl);
      answerable = begun-answerable method requests (is_reply method.kind) (carries_content method) (answerable refl);
    }

-- what an Open channel takes
abbrev pub OpenTakes : Role → Gathering → List MethodKind → Reading → Type 0
OpenTakes role kept requests reading =
    (kind_of reading ≡ Close)
    ⊎ ((is_message (kind_of reading) ≡ true)
    × ((frame : Frame) → Matches role kept requests (TookHere reading frame)))

unanswerable : (b c : Bool) (last : FrameVerdict) → goes_on (cond (b && not c) (Faults (Peer CommandInvalid)) last)
    ≡ true → b ≡ true → c ≡ true
unanswerable true true last g e = refl
unanswerable true false last g e = absurd (false≢true g)
unanswerable false c last g e = absurd (false≢true e)

pub matched-goes : (role : Role) (number : ℕ) (requests : List MethodKind) (method : Method)
    → goes_on (on_matched role number requests method) ≡ true → role ≡ Client → IsAnswerable method requests
matched-goes Client number requests method g e =
    unanswerable (is_reply method.kind) (answers_first method.kind requests) _ g
matched-goes Server number requests method g e = absurd (false≢true (ap is_client e))

-- flow and flow-ok are no replies
pub class-answerable : (method : Method) (requests : List MethodKind) → is_class_kind (kind_of (Calls method))
    ≡ true → IsAnswerable method requests
class-answerable method requests e h = absurd (true≢false (sym h ∙ (class-plain method.kind (bit_at 0 method) e).1))

pub no-more-opening : (role : Role) (awaits : Bool) (number : ℕ) (reading : Reading) (kind : Kind)
    → is_message kind ≡ false → is_close kind ≡ false
    → goes_on (as_lives number reading (when_open role awaits kind)) ≡ true → ⊥
no-more-opening role awaits number reading Close e f g = true≢false f
no-more-opening Client awaits number reading Open e f g = false≢true g
no-more-opening Server awaits number reading Open e f g = false≢true g
no-more-opening role awaits number reading OpenOk e f g = false≢true g
no-more-opening role awaits number reading CloseOk e f g = false≢true g
no-more-opening role awaits number reading kind e f g = true≢false e

idle-goes : {role : Role} (config : Config role) (agreed : Option Agreed) (number : ℕ) (life : Life) (method : Method)
    (kind : Kind) → kind_of (Calls method) ≡ kind → is_close kind ≡ false
    → goes_on (on_idle (running config agreed number (channels.Open life)) life method kind) ≡ true
    → OpenTakes role Nothing life.requests (Calls method)
idle-goes {role} config agreed number life method (Other begins) e f g =
    inr (
      ap is_message e,
      λ frame. call-matches role life.requests method frame
          (matched-goes role number life.requests method g),
    )
idle-goes {role} config agreed number life method (Flow active) e f g =
    inr (
      ap is_message e,
      λ frame. call-matches role life.requests method frame
          (λ _. class-answerable method life.requests (ap is_class_kind e)),
    )
idle-goes {role} config agreed number life method (FlowOk active) e f g =
    inr (
      ap is_message e,
      λ frame. call-matches role life.requests method frame
          (λ _. class-answerable method life.requests (ap is_class_kind e)),
    )
idle-goes {role} config agreed number life method Close e f g = absurd (true≢false f)
idle-goes {role} config agreed number life method kind e f g =
    absurd (no-more-opening role life.awaits number (Calls method) kind refl refl g)

idle : (kept : Gathering) → is_gathering kept ≡ false → kept ≡ Nothing
idle Nothing e = refl
idle (HeaderDue method) e = absurd (true≢false e)
idle (BodyDue method size properties body) e = absurd (true≢false e)

pub not-inside : (b : Bool) (last : FrameVerdict) → goes_on (cond b (Faults (Peer CloseCode.UnexpectedFrame)) last)
    ≡ true → (b ≡ false) × (goes_on last ≡ true)
not-inside true last g = absurd (false≢true g)
not-inside false last g = (refl, g)

open-goes : {role : Role} (config : Config role) (agreed : Option Agreed) (number : ℕ) (life : Life) (method : Method)
    (kind : Kind) → kind_of (Calls method) ≡ kind
    → goes_on (on_open (running config agreed number (channels.Open life)) life method kind) ≡ true
    → OpenTakes role life.content life.requests (Calls method)
open-goes {role} config agreed number life method Close e g = inl e
open-goes {role} config agreed number life method kind e g =
    let h = not-inside (is_gathering life.content)
    (on_idle (running config agreed number (channels.Open life)) life method kind) g in
    subst (λ kept. OpenTakes role kept life.requests (Calls method)) (sym (idle life.content h.0))
    (idle-goes config agreed number life method kind e refl h.1)

pub running-open : {role : Role} (config : Config role) (agreed : Option Agreed) (number : ℕ) (life : Life)
    → (number == 0) ≡ false → HasItsRequest role life.content life.requests → (reading : Reading)
    → goes_on (verdict_on (running config agreed number (channels.Open life)) reading) ≡ true
    → OpenTakes role life.content life.requests reading
running-open {role} config agreed number life above h (Calls method) g =
    open-goes config agreed number life method (kind_of (Calls method)) refl
    (method-goes config agreed number (channels.Open life) method above g)
running-open {role} config agreed number life above h reading g =
    inr (refl, λ frame. part-matches role life.content life.requests reading frame refl h)
