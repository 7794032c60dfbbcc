-- What an end keeps of a channel follows each entry of the channel, and no entry of another.
use Rattle.std.proofs.Common.{◌≡◌, ◌≢◌, ◌≤◌, ◌⊎◌, inl, inr, Bool, true, false, not, ◌&&◌}
use Rattle.std.proofs.Common.{◌||◌, ℕ, ◌==◌, arith, List, [], ◌∷◌, ◌++◌, length, Option, refl, sym}
use Rattle.std.proofs.Common.{ap, ◌∙◌, subst}
use Rattle.std.proofs.lemmas.Bool.{false≢true, true≢false, and_parts, not-true, eqb-true}
use Rattle.amqp_model.specs.Wire.Frame.{Frame}
use Rattle.amqp_model.specs.Wire.Notes.{Role, Client, Server, is_client, Kind, Open, OpenOk, Close, CloseOk, Flow}
use Rattle.amqp_model.specs.Wire.Notes.{FlowOk, Other, is_message}
use Rattle.amqp_model.specs.History.Lives.{has_left}
use Rattle.amqp_model.specs.Wire.Methods.{MethodKind, Method, is_reply}
use Rattle.amqp_model.specs.Wire.Gathering.{Gathering, Nothing, HeaderDue, BodyDue}
use Rattle.amqp_model.specs.Wire.Readings.{Reading, Calls, kind_of}
use Rattle.amqp_model.specs.History.Histories.{Entry, Put, Took, channel_of, History, ChannelEntry, PutHere, TookHere}
use Rattle.amqp_model.specs.History.Histories.{LeftHere, entries_on, notes, entries_before_leaving}
use Rattle.amqp_model.specs.History.Replies.{one_if}
use Rattle.amqp_model.specs.End.Channels.{Life, Channel, Free, Opening, Closing, Running, Agreed, new_life}
use Rattle.amqp_model.specs.End.Channels as channels
use Rattle.amqp_model.specs.History.Negotiation.{Config}
use Rattle.amqp_model.specs.End.FrameVerdict.{Facts, answers_first, verdict_on}
use Rattle.amqp_model.specs.End.EndVerdict.{goes_on}
use Rattle.amqp_model.specs.End.Machine.{with_asked, is_open_method, is_close_ok, free_after_putting, life_after}
use Rattle.amqp_model.specs.End.Machine.{free_after_taking, opening_after_taking, open_after_taking, open_after_putting}
use Rattle.amqp_model.specs.End.Machine.{channel_after, answers_in_turn, may_put_here, IsAnswerable, HasItsRequest}
use Rattle.amqp_model.specs.End.Machine.{CountsOpen, Counts, ChannelStandsFor}
use Rattle.amqp_model.proofs.ChannelSteps.{Matches, stays_open, took-stays_open, put-stays_open, took-open, put-open}
use Rattle.amqp_model.proofs.ChannelSteps.{took-open_ok, took-close, took-closing, put-close, put-close_ok-free}
use Rattle.amqp_model.proofs.ChannelSteps.{put-close_ok-closing}
use Rattle.amqp_model.proofs.Going.{running, running-free, running-opening, running-open, OpenTakes}

-- An end takes a frame on the channel, and goes on.

free-takes : (role : Role) (config : Config role) (agreed : Option Agreed) (number : ℕ) → (number == 0) ≡ false
    → (r : Reading) (frame : Frame) (entries : List ChannelEntry) → Counts role Free entries
    → goes_on (verdict_on (running config agreed number Free) r) ≡ true
    → Counts role (channel_after role (TookHere r frame) Free) (TookHere r frame ∷ entries)
free-takes Client config agreed number above r frame entries c g =
    absurd (let h = running-free config agreed number above r g in let e : Client ≡ Server = h.2 in
    true≢false (ap is_client e))
free-takes Server config agreed number above r frame entries c g =
    let h = running-free config agreed number above r g in
    let opened : CountsOpen Server new_life (TookHere (Calls h.0) frame ∷ entries) =
    took-open h.0 frame entries c.1 h.3 in
    subst (λ r. Counts Server (channel_after Server (TookHere r frame) Free) (TookHere r frame ∷ entries)) (sym h.1)
    (subst (λ k. Counts Server (free_after_taking Server k) (TookHere (Calls h.0) frame ∷ entries)) (sym h.3) opened)

opening-takes : (role : Role) (config : Config role) (agreed : Option Agreed) (number : ℕ) → (number == 0) ≡ false
    → (r : Reading) (frame : Frame) (entries : List ChannelEntry) → Counts role Opening entries
    → goes_on (verdict_on (running config agreed number Opening) r) ≡ true
    → Counts role (channel_after role (TookHere r frame) Opening) (TookHere r frame ∷ entries)
opening-takes Server config agreed number above r frame entries c g = absurd (true≢false c.unopened)
opening-takes Client config agreed number above r frame entries c g =
    let h = running-opening config agreed number above r g in
    subst (λ r. Counts Client (channel_after Client (TookHere r frame) Opening) (TookHere r frame ∷ entries))
    (sym h.1) (go h.0 h.2)
  where
    go : (method : Method) → (kind_of (Calls method) ≡ OpenOk) ⊎ (kind_of (Calls method) ≡ Close)
        → Counts Client (opening_after_taking Client (kind_of (Calls method)))
        (TookHere (Calls method) frame ∷ entries)
    go method (inl e) =
        let opened : CountsOpen Client new_life (TookHere (Calls method) frame ∷ entries) =
        took-open_ok method frame entries c e in
        subst (λ k. Counts Client (opening_after_taking Client k) (TookHere (Calls method) frame ∷ entries))
        (sym e) opened
    go method (inr e) =
        let closed : Counts Client Free (TookHere (Calls method) frame ∷ entries) =
        took-close Client (Calls method) frame entries c.stays e in
        subst (λ k. Counts Client (opening_after_taking Client k) (TookHere (Calls method) frame ∷ entries))
        (sym e) closed

-- a message leaves the channel Open
message-stays : (role : Role) (entry : ChannelEntry) (life : Life) (kind : Kind) → is_message kind ≡ true
    → open_after_taking role entry life kind ≡ channels.Open (life_after role entry life)
message-stays role entry life Close e = absurd (false≢true e)
message-stays role entry life kind e = refl

open-takes : (role : Role) (config : Config role) (agreed : Option Agreed) (number : ℕ) (life : Life)
    → (number == 0) ≡ false → (r : Reading) (frame : Frame) (entries : List ChannelEntry)
    → CountsOpen role life entries → goes_on (verdict_on (running config agreed number (channels.Open life)) r)
    ≡ true → Counts role (channel_after role (TookHere r frame) (channels.Open life)) (TookHere r frame ∷ entries)
open-takes role config agreed number life above r frame entries c g =
    go (running-open config agreed number life above c.answerable r g)
  where
    go : OpenTakes role life.content life.requests r
        → Counts role (channel_after role (TookHere r frame) (channels.Open life)) (TookHere r frame ∷ entries)
    go (inl e) =
        let closed : Counts role Free (TookHere r frame ∷ entries) = took-close role r frame entries c.stays e in
        subst (λ k. Counts role (open_after_taking role (TookHere r frame) life k) (TookHere r frame ∷ entries))
        (sym e) closed
    go (inr h) =
        let stays : CountsOpen role (life_after role (TookHere r frame) life) (TookHere r frame ∷ entries) =
        took-stays_open role life r frame entries c h.0 (h.1 frame) in
        subst (λ channel. Counts role channel (TookHere r frame ∷ entries))
        (sym (message-stays role (TookHere r frame) life (kind_of r) h.0)) stays

pub takes-counted : (role : Role) (config : Config role) (agreed : Option Agreed) (number : ℕ) (channel : Channel)
    → (number == 0) ≡ false → (r : Reading) (frame : Frame) (entries : List ChannelEntry)
    → Counts role channel entries → goes_on (verdict_on (running config agreed number channel) r) ≡ true
    → Counts role (channel_after role (TookHere r frame) channel) (TookHere r frame ∷ entries)
takes-counted role config agreed number Free above r frame entries c g =
    free-takes role config agreed number above r frame entries c g
takes-counted role config agreed number Opening above r frame entries c g =
    opening-takes role config agreed number above r frame entries c g
takes-counted role config agreed number Closing above r frame entries c g = took-closing role r frame entries c
takes-counted role config agreed number (channels.Open life) above r frame entries c g =
    open-takes role config agreed number life above r frame entries c g

-- An end puts a frame on the channel.

answerable-append : (method : Method) (requests more : List MethodKind) → IsAnswerable method requests
    → IsAnswerable method (requests ++ more)
answerable-append method [] more h e = absurd (false≢true (h e))
answerable-append method (request ∷ requests) more h e = h e

has-request-with : (kept : Gathering) (asked requests : List MethodKind) → HasItsRequest Client kept requests
    → HasItsRequest Client kept (with_asked asked requests)
has-request-with kept [] requests h = h
has-request-with Nothing (kind ∷ more) requests h = tt
has-request-with (HeaderDue method) (kind ∷ more) requests h = answerable-append method requests (kind ∷ more) h
has-request-with (BodyDue method size properties body) (kind ∷ more) requests h =
    answerable-append method requests (kind ∷ more) h

room-in-turn : (kind : MethodKind) (requests : List MethodKind) (b : Bool) → (not b || answers_first kind requests)
    ≡ true → one_if b ≤ length requests
room-in-turn kind requests false e = omega arith
room-in-turn kind [] true e = absurd (false≢true e)
room-in-turn kind (request ∷ requests) true e = omega arith

put-matches : (role : Role) (kept : Gathering) (requests : List MethodKind) (r : Reading) (frame : Frame)
    → answers_in_turn role requests r ≡ true → HasItsRequest role kept requests
    → Matches role kept requests (PutHere r frame)
put-matches Client kept requests r frame e h =
    record { room = omega arith; answerable = has-request-with kept _ requests h }
put-matches Server kept requests (Calls method) frame e h =
    record { room = room-in-turn method.kind requests (is_reply method.kind) e; answerable = tt }
put-matches Server kept requests r frame e h = record { room = omega arith; answerable = tt }

open-puts : (role : Role) (life : Life) (r : Reading) (frame : Frame) (entries : List ChannelEntry)
    → CountsOpen role life entries → may_put_here role (channels.Open life) r ≡ true
    → Counts role (channel_after role (PutHere r frame) (channels.Open life)) (PutHere r frame ∷ entries)
open-puts role life r frame entries c may = go (kind_of r) refl (and_parts _ _ may)
  where
    stays : (answers_in_turn role life.requests r ≡ true) → stays_open (kind_of r) ≡ true
        → CountsOpen role (life_after role (PutHere r frame) life) (PutHere r frame ∷ entries)
    stays in_turn e =
        put-stays_open role life r frame entries c e
        (put-matches role life.content life.requests r frame in_turn c.answerable)

    go : (k : Kind) → kind_of r ≡ k → (not (is_open_method (kind_of r)) ≡ true)
        × (answers_in_turn role life.requests r ≡ true)
        → Counts role (open_after_putting role (PutHere r frame) life k) (PutHere r frame ∷ entries)
    go Open e h = absurd (true≢false (sym (ap is_open_method e) ∙ not-true _ h.0))
    go Close e h = put-close role r frame entries c.alive e
    go OpenOk e h = stays h.1 (ap stays_open e)
    go CloseOk e h = stays h.1 (ap stays_open e)
    go (Flow active) e h = stays h.1 (ap stays_open e)
    go (FlowOk active) e h = stays h.1 (ap stays_open e)
    go (Other begins) e h = stays h.1 (ap stays_open e)

free-puts : (role : Role) (r : Reading) (frame : Frame) (entries : List ChannelEntry) → Counts role Free entries
    → may_put_here role Free r ≡ true
    → Counts role (channel_after role (PutHere r frame) Free) (PutHere r frame ∷ entries)
free-puts role r frame entries c may = go role (kind_of r) refl c may
  where
    go : (role : Role) (k : Kind) → kind_of r ≡ k → Counts role Free entries → may_put_here role Free r ≡ true
        → Counts role (free_after_putting role k) (PutHere r frame ∷ entries)
    go Client Open e c may = put-open r frame entries c.1 e
    go role CloseOk e c may = put-close_ok-free role r frame entries e c
    go Server Open e c may = absurd (false≢true (sym (ap (λ k. (false && is_open_method k) || is_close_ok k) e) ∙ may))
    go role k e c may =
        absurd (false≢true (sym (ap (λ k. (is_client role && is_open_method k) || is_close_ok k) e) ∙ may))

closing-puts : (role : Role) (r : Reading) (frame : Frame) (entries : List ChannelEntry) → Counts role Closing entries
    → is_close_ok (kind_of r) ≡ true → Counts role Closing (PutHere r frame ∷ entries)
closing-puts role r frame entries c may = go (kind_of r) refl
  where
    go : (k : Kind) → kind_of r ≡ k → Counts role Closing (PutHere r frame ∷ entries)
    go CloseOk e = put-close_ok-closing role r frame entries e c
    go k e = absurd (false≢true (sym (ap is_close_ok e) ∙ may))

puts-counted : (role : Role) (channel : Channel) (r : Reading) (frame : Frame) (entries : List ChannelEntry)
    → Counts role channel entries → may_put_here role channel r ≡ true
    → Counts role (channel_after role (PutHere r frame) channel) (PutHere r frame ∷ entries)
puts-counted role Free r frame entries c may = free-puts role r frame entries c may
puts-counted role Opening r frame entries c may = absurd (false≢true may)
puts-counted role Closing r frame entries c may = closing-puts role r frame entries c may
puts-counted role (channels.Open life) r frame entries c may = open-puts role life r frame entries c may

-- What stands after the end's connection.close, and what before.

pub all-before : (entries : List ChannelEntry) → has_left (notes entries) ≡ false
    → entries_before_leaving entries ≡ entries
all-before [] e = refl
all-before (LeftHere ∷ before) e = absurd (true≢false e)
all-before (PutHere r frame ∷ before) e = simp e
all-before (TookHere r frame ∷ before) e = simp e

-- the law for a frame that a Running end takes
pub follows-taken : (role : Role) (facts : Facts role) (r : Reading) (frame : Frame) (entries : List ChannelEntry)
    → facts.phase ≡ Running → facts.number ≢ 0 → has_left (notes entries) ≡ false
    → ChannelStandsFor role facts.channel entries → goes_on (verdict_on facts r) ≡ true
    → ChannelStandsFor role (channel_after role (TookHere r frame) facts.channel) (TookHere r frame ∷ entries)
follows-taken role facts r frame entries is_running above stays stands g =
    subst (Counts role (channel_after role (TookHere r frame) facts.channel))
    (sym (all-before (TookHere r frame ∷ entries) stays))
    (takes-counted role facts.config facts.agreed facts.number facts.channel (not_zero (facts.number == 0) refl) r frame
    entries (subst (Counts role facts.channel) (all-before entries stays) stands)
    (subst (λ p. goes_on (verdict_on (record facts { phase = p }) r) ≡ true) is_running g))
  where
    not_zero : (b : Bool) → (facts.number == 0) ≡ b → b ≡ false
    not_zero true e = absurd (above (eqb-true facts.number 0 e))
    not_zero false e = refl

-- the law for a frame that an end puts
pub follows-put : (role : Role) (channel : Channel) (r : Reading) (frame : Frame) (entries : List ChannelEntry)
    → has_left (notes entries) ≡ false → ChannelStandsFor role channel entries
    → may_put_here role channel r ≡ true → ChannelStandsFor role (channel_after role (PutHere r frame) channel)
    (PutHere r frame ∷ entries)
follows-put role channel r frame entries stays stands may =
    subst (Counts role (channel_after role (PutHere r frame) channel))
    (sym (all-before (PutHere r frame ∷ entries) stays))
    (puts-counted role channel r frame entries (subst (Counts role channel) (all-before entries stays) stands) may)

-- what follows the end's connection.close moves nothing
pub follows-leaving : (role : Role) (channel : Channel) (entry : ChannelEntry) (entries : List ChannelEntry)
    → has_left (notes entries) ≡ true → ChannelStandsFor role channel entries
    → ChannelStandsFor role channel (entry ∷ entries)
follows-leaving role channel (PutHere r frame) entries left stands =
    subst (Counts role channel) (let e : entries_before_leaving (PutHere r frame ∷ entries)
    ≡ entries_before_leaving entries = simp left in sym e) stands
follows-leaving role channel (TookHere r frame) entries left stands =
    subst (Counts role channel) (let e : entries_before_leaving (TookHere r frame ∷ entries)
    ≡ entries_before_leaving entries = simp left in sym e) stands
follows-leaving role channel LeftHere entries left stands = stands

-- An entry of another channel above 0.

differ : (m n : ℕ) → m ≢ n → (b : Bool) → (m == n) ≡ b → b ≡ false
differ m n apart true e = absurd (apart (eqb-true m n e))
differ m n apart false e = refl

pub elsewhere : (entry : Entry) (history : History) (channel : ℕ) → (channel_of entry ≢ 0)
    → (channel_of entry ≢ channel) → entries_on channel (entry ∷ history) ≡ entries_on channel history
elsewhere (Put frame) history channel above apart =
    let e : (frame.channel == channel) ≡ false = differ frame.channel channel apart _ refl in
    let z : (frame.channel == 0) ≡ false = differ frame.channel 0 above _ refl in
    simp (e, z)
elsewhere (Took frame) history channel above apart =
    let e : (frame.channel == channel) ≡ false = differ frame.channel channel apart _ refl in
    simp e
