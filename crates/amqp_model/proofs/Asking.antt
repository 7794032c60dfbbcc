-- What an accepted ask puts acts on each channel above 0 as the lives of a channel allow.
use Rattle.std.proofs.Common.{◌≡◌, Bool, true, false, not, ◌&&◌, ◌||◌, ℕ, zero, suc, ◌==◌, arith}
use Rattle.std.proofs.Common.{List, [], ◌∷◌, map, length, Option, Some, None, refl, sym, ap, ◌∙◌, subst}
use Rattle.std.proofs.lemmas.Bool.{false≢true, true≢false, eqb-true, ne_eqb, not-true}
use Rattle.amqp_method.specs.declared.kinds.Kind.TheVariants as kinds
use Rattle.amqp_model.specs.Wire.Frame.{Frame}
use Rattle.amqp_model.specs.Wire.Notes.{Role, Client, Server, is_client, Kind, Other, Note}
use Rattle.amqp_model.specs.History.States.{State}
use Rattle.amqp_model.specs.History.Lives.{has_left, state_by, state, is_paused, awaits_flow_ok}
use Rattle.amqp_model.specs.Pair.Runs.{Acts, asks, leaves, may_put}
use Rattle.amqp_method.specs.Arguments.{short_string}
use Rattle.amqp_model.specs.Wire.Methods.{MethodKind, Method, ReadsBack, class_of, same_kind, begins_content, sort_by}
use Rattle.amqp_model.specs.Wire.Methods.{carries_content, sends, bit_at, header_at}
use Rattle.amqp_model.specs.Wire.Methods as methods
use Rattle.amqp_model.specs.Wire.Contents.{Payload, pieces, room_in}
use Rattle.amqp_model.specs.Wire.Readings.{Calls, reading, header_reading, is_call, kind_of, kind_of_method}
use Rattle.amqp_model.specs.History.Histories.{Put, History, ChannelEntry, PutHere, LeftHere, closes_connection}
use Rattle.amqp_model.specs.History.Histories.{entries_on, notes, entries_before_leaving}
use Rattle.amqp_model.specs.End.Channels.{Life, Channel, Phase, Handshake, Running, End}
use Rattle.amqp_model.specs.End.Channels as channels
use Rattle.amqp_model.specs.History.Negotiation.{Config}
use Rattle.amqp_model.specs.End.StateFromHistory.{has_put, is_closed, is_negotiated, step_from, life_from, channel_in}
use Rattle.amqp_model.specs.End.StateFromHistory.{channel_from, end_from}
use Rattle.amqp_model.specs.End.Closes.{Owed, method_frame, without_arguments, flow_as, Cause, close_for}
use Rattle.amqp_model.specs.End.Events.{Message, Plain, Whole, method_of}
use Rattle.amqp_model.specs.End.Asks.{Ask, Refusal, method_asked, channel_max, opens_on, is_made, is_running, life_of}
use Rattle.amqp_model.specs.End.Asks.{lacks_life, in_life, is_free, first_free, lowest_free, when, first_refusal}
use Rattle.amqp_model.specs.End.Asks.{is_pausable, refused_or_put, refusal, frames_asked, Puts, payload_frame}
use Rattle.amqp_model.specs.End.Asks.{message_payloads, not_running, bad_channel, not_open, paused, not_sendable}
use Rattle.amqp_model.specs.End.Asks.{too_large, flow_pending, no_free_channel, reply_pending, no_such_request}
use Rattle.amqp_model.specs.End.LawfulHistories.{then_put}
use Rattle.amqp_model.specs.Laws.EndLaws.{is_over, ActsOn, rests, acts, AsksActs}
use Rattle.amqp_model.proofs.Ends.{before_leaving_all}
use Rattle.amqp_model.proofs.Standing.{state-reads}
use Rattle.amqp_model.proofs.Following.{all-before}
use Rattle.amqp_model.proofs.Acting.{left-noted, not-left, seen-put, reads-back}
use Rattle.amqp_model.proofs.Elsewhere.{entries-away}

-- No refusal applies.

pub none-first : (rule : Option Refusal) (later : List (Option Refusal)) → first_refusal (rule ∷ later) ≡ None
    → (rule ≡ None) × (first_refusal later ≡ None)
none-first None later e = (refl, e)
none-first (Some r) later e = absurd cc

pub not-when : (b : Bool) (r : Refusal) → when b r ≡ None → b ≡ false
not-when true r e = absurd cc
not-when false r e = refl

pub accepted-none : (r : Option Refusal) (frames put : List Frame) → refused_or_put r frames ≡ Puts put
    → (r ≡ None) × (frames ≡ put)
accepted-none None frames put e = (refl, cc)
accepted-none (Some r) frames put e = absurd cc

-- what an accepted ask was not refused for
pub record Accepted (role : Role) (end : End) (ask : Ask) : Type 0 where
  pub runs : not_running end ≡ None
  pub numbered : bad_channel end ask ≡ None
  pub opened : not_open end ask ≡ None
  pub unpaused : paused end ask ≡ None
  pub sendable : not_sendable role ask ≡ None
  pub short : too_large end ask ≡ None
  pub unanswered : flow_pending end ask ≡ None
  pub free : no_free_channel end ask ≡ None
  pub unasked : reply_pending role end ask ≡ None
  pub in_turn : no_such_request role end ask ≡ None

pub accepted : (role : Role) (end : End) (ask : Ask) → refusal role end ask ≡ None → Accepted role end ask
accepted role end ask e =
    let a = none-first (not_running end) _ e in
    let b = none-first (bad_channel end ask) _ a.1 in
    let c = none-first (not_open end ask) _ b.1 in
    let d = none-first (paused end ask) _ c.1 in
    let f = none-first (not_sendable role ask) _ d.1 in
    let g = none-first (too_large end ask) _ f.1 in
    let h = none-first (flow_pending end ask) _ g.1 in
    let i = none-first (no_free_channel end ask) _ h.1 in
    let k = none-first (reply_pending role end ask) _ i.1 in
    let l = none-first (no_such_request role end ask) _ k.1 in
    record {
      runs = a.0;
      numbered = b.0;
      opened = c.0;
      unpaused = d.0;
      sendable = f.0;
      short = g.0;
      unanswered = h.0;
      free = i.0;
      unasked = k.0;
      in_turn = l.0;
    }

-- What an Open channel's entries count to.

pub open-reads : (role : Role) (entries : List ChannelEntry) (life : Life) → has_left (notes entries) ≡ false
    → channel_from role entries ≡ channels.Open life → (state role (notes entries) ≡ State.Open)
    × (is_paused role (notes entries) ≡ life.paused) × (awaits_flow_ok role (notes entries) ≡ life.awaits)
open-reads role entries life stays e =
    let lives-same = by-word (state_by role (notes (entries_before_leaving entries)))
    (life_from role (entries_before_leaving entries)) e in
    let same = all-before entries stays in (
      sym (state-reads role entries) ∙ ap channels.state_of e,
      ap (λ l. is_paused role (notes l)) (sym same) ∙ ap (λ l. l.paused) lives-same,
      ap (λ l. awaits_flow_ok role (notes l)) (sym same) ∙ ap (λ l. l.awaits) lives-same,
    )
  where
    by-word : (word : State) (old : Life) → channel_in word old ≡ channels.Open life → old ≡ life
    by-word State.Open old e = cc
    by-word State.Free old e = absurd cc
    by-word State.Opening old e = absurd cc
    by-word State.Closing old e = absurd cc

pub has-life : (channel : Channel) → lacks_life (life_of channel) ≡ false
    → (life : Life) × (channel ≡ channels.Open life)
has-life (channels.Open life) e = (life, refl)
has-life channels.Free e = absurd (true≢false e)
has-life channels.Opening e = absurd (true≢false e)
has-life channels.Closing e = absurd (true≢false e)

-- an end that is Running has not put connection.close
pub running-stays : (role : Role) (config : Config role) (history : History) (n : ℕ)
    → not_running (end_from role config false history) ≡ None
    → has_left (notes (entries_on (suc n) history)) ≡ false
running-stays role config history n e =
    left-noted history n
    ∙ not-left (is_closed (entries_on 0 history)) (has_put kinds.ConnectionClose (entries_on 0 history))
    (is_negotiated role (entries_on 0 history)) (step_from role (entries_on 0 history))
    (here (end_from role config false history).phase (not-when _ Refusal.NotRunning e))
  where
    here : (phase : Phase) → not (is_running phase) ≡ false → is_over phase ≡ false
    here Running e = refl
    here (Handshake step) e = absurd (true≢false e)
    here phase e = absurd (true≢false e)

-- One method put on the channel, or on another.

one-away : (role : Role) (theirs : List Note) (history : History) (n c : ℕ) (method : Method) → ReadsBack method
    → (c == suc n) ≡ false → same_kind method.kind kinds.ConnectionClose ≡ false
    → ActsOn role theirs (notes (entries_on (suc n) history))
    (notes (entries_on (suc n) (Put (method_frame c method) ∷ history)))
one-away role theirs history n c method writes apart quiet =
    let owed : Owed = record { channel = c; method = method } in
    subst (λ l. ActsOn role theirs (notes (entries_on (suc n) history)) (notes l))
    (sym (entries-away n (owed ∷ []) history (writes, tt) ((apart, quiet), tt))) rests

one-here : (role : Role) (theirs : List Note) (history : History) (n : ℕ) (method : Method) → ReadsBack method
    → may_put role (notes (entries_on (suc n) history)) (kind_of (Calls method)) ≡ true
    → ActsOn role theirs (notes (entries_on (suc n) history))
    (notes (entries_on (suc n) (Put (method_frame (suc n) method) ∷ history)))
one-here role theirs history n method writes may =
    let f = method_frame (suc n) method in
    let es = entries_on (suc n) history in
    subst (λ l. ActsOn role theirs (notes es) (notes l)) (sym (seen-put f history n refl))
    (subst (λ r. ActsOn role theirs (notes es) (Note.Put (kind_of r) f ∷ notes es))
    (sym (reads-back (suc n) method writes)) (acts (asks (kind_of (Calls method)) f may) rests))

one-method : (role : Role) (theirs : List Note) (history : History) (n c : ℕ) (method : Method) → ReadsBack method
    → same_kind method.kind kinds.ConnectionClose ≡ false
    → (c ≡ suc n → may_put role (notes (entries_on (suc n) history)) (kind_of (Calls method)) ≡ true)
    → ActsOn role theirs (notes (entries_on (suc n) history))
    (notes (entries_on (suc n) (Put (method_frame c method) ∷ history)))
one-method role theirs history n c method writes quiet may = cases (c == suc n) refl
  where
    cases : (b : Bool) → (c == suc n) ≡ b
        → ActsOn role theirs (notes (entries_on (suc n) history))
        (notes (entries_on (suc n) (Put (method_frame c method) ∷ history)))
    cases false apart = one-away role theirs history n c method writes apart quiet
    cases true same =
        let e = eqb-true c (suc n) same in
        subst (λ c. ActsOn role theirs (notes (entries_on (suc n) history))
        (notes (entries_on (suc n) (Put (method_frame c method) ∷ history)))) (sym e)
        (one-here role theirs history n method writes (may e))

-- The ask for a channel.

pub free-found : (channels : ℕ → Channel) (many from k : ℕ) → first_free channels many from ≡ Some k
    → is_free (channels k) ≡ true
free-found channels zero from k e = absurd cc
free-found channels (suc many) from k e = at (is_free (channels from)) refl e (free-found channels many (suc from) k)
  where
    at : (b : Bool) → is_free (channels from) ≡ b
        → (elim b [ true ↦ Some from | false ↦ first_free channels many (suc from) ]) ≡ Some k
        → (first_free channels many (suc from) ≡ Some k → is_free (channels k) ≡ true)
        → is_free (channels k) ≡ true
    at true free e more = let same : from ≡ k = cc in subst (λ k. is_free (channels k) ≡ true) same free
    at false free e more = more e

pub is-free : (channel : Channel) → is_free channel ≡ true → channel ≡ channels.Free
is-free channels.Free e = refl
is-free channels.Opening e = absurd (false≢true e)
is-free channels.Closing e = absurd (false≢true e)
is-free (channels.Open life) e = absurd (false≢true e)

-- a client opens the lowest Free number
open-acts : (role : Role) (config : Config role) (history : History) (n : ℕ) (theirs : List Note)
    → ReadsBack (without_arguments kinds.ChannelOpen) → Accepted role (end_from role config false history) Ask.Open
    → (free : Option ℕ) → lowest_free (end_from role config false history) ≡ free
    → ActsOn role theirs (notes (entries_on (suc n) history))
    (notes (entries_on (suc n) (then_put (opens_on free) history)))
open-acts role config history n theirs writes a None e = rests
open-acts Server config history n theirs writes a (Some k) e = absurd (let h = a.sendable in cc)
open-acts Client config history n theirs writes a (Some k) e =
    one-method Client theirs history n k (without_arguments kinds.ChannelOpen) writes refl (λ same. may same)
  where
    end : End
    end = end_from Client config false history

    may : k ≡ suc n → may_put Client (notes (entries_on (suc n) history)) Kind.Open ≡ true
    may same =
        let free : is_free (end.channels (suc n)) ≡ true = subst (λ c. is_free (end.channels c) ≡ true) same
        (free-found end.channels (channel_max end.agreed) 1 k e) in
        let stays = running-stays Client config history n a.runs in
        let word : state Client (notes (entries_on (suc n) history)) ≡ State.Free =
        sym (state-reads Client (entries_on (suc n) history))
        ∙ ap channels.state_of (is-free (end.channels (suc n)) free) in
        simp (stays, word)

-- what an accepted ask of a channel finds there
found-open : (role : Role) (config : Config role) (history : History) (n c : ℕ) → c ≡ suc n
    → not_running (end_from role config false history) ≡ None
    → lacks_life (life_of ((end_from role config false history).channels c)) ≡ false
    → (life : Life) × ((end_from role config false history).channels c ≡ channels.Open life)
    × (has_left (notes (entries_on (suc n) history)) ≡ false)
    × (state role (notes (entries_on (suc n) history)) ≡ State.Open)
    × (is_paused role (notes (entries_on (suc n) history)) ≡ life.paused)
    × (awaits_flow_ok role (notes (entries_on (suc n) history)) ≡ life.awaits)
found-open role config history n c same runs has =
    let life = has-life ((end_from role config false history).channels c) has in
    let stays = running-stays role config history n runs in
    let here : channel_from role (entries_on (suc n) history) ≡ channels.Open life.0 =
    subst (λ c. (end_from role config false history).channels c ≡ channels.Open life.0) same life.1 in
    let words = open-reads role (entries_on (suc n) history) life.0 stays here in
    (life.0, life.1, stays, words.0, words.1, words.2)

flow-acts : (role : Role) (config : Config role) (history : History) (n : ℕ) (theirs : List Note) (c : ℕ)
    (active : Bool) → ReadsBack (flow_as kinds.ChannelFlow active)
    → Accepted role (end_from role config false history) (Ask.Flow c active)
    → ActsOn role theirs (notes (entries_on (suc n) history))
    (notes (entries_on (suc n) (Put (method_frame c (flow_as kinds.ChannelFlow active)) ∷ history)))
flow-acts role config history n theirs c active writes a =
    one-method role theirs history n c (flow_as kinds.ChannelFlow active) writes refl may
  where
    may : c ≡ suc n → may_put role (notes (entries_on (suc n) history)) (Kind.Flow active) ≡ true
    may same =
        let found = found-open role config history n c same a.runs (not-when _ Refusal.NotOpen a.opened) in
        let answered : in_life (life_of ((end_from role config false history).channels c)) (λ life. life.awaits)
        ≡ false = not-when _ Refusal.FlowPending a.unanswered in
        let none : found.0.awaits ≡ false =
        sym (ap (λ channel. in_life (life_of channel) (λ life. life.awaits)) found.1) ∙ answered in
        let awaits : awaits_flow_ok role (notes (entries_on (suc n) history)) ≡ false = found.5 ∙ none in
        simp (found.2, found.3, awaits)

close-acts : (role : Role) (config : Config role) (history : History) (n : ℕ) (theirs : List Note) (c code : ℕ)
    (text : List ℕ) (cause : Cause) → ReadsBack (close_for kinds.ChannelClose code text cause)
    → Accepted role (end_from role config false history) (Ask.CloseChannel c code text cause)
    → ActsOn role theirs (notes (entries_on (suc n) history))
    (notes (entries_on (suc n) (Put (method_frame c (close_for kinds.ChannelClose code text cause)) ∷ history)))
close-acts role config history n theirs c code text cause writes a =
    one-method role theirs history n c (close_for kinds.ChannelClose code text cause) writes refl may
  where
    may : c ≡ suc n → may_put role (notes (entries_on (suc n) history)) Kind.Close ≡ true
    may same =
        let found = found-open role config history n c same a.runs (not-when _ Refusal.NotOpen a.opened) in
        simp (found.2, found.3)

-- connection.close is noted on every channel
pub leave-acts : (role : Role) (theirs : List Note) (history : History) (n code : ℕ) (text : List ℕ) (cause : Cause)
    → ReadsBack (close_for kinds.ConnectionClose code text cause)
    → ActsOn role theirs (notes (entries_on (suc n) history))
    (notes (entries_on (suc n) (Put (method_frame 0 (close_for kinds.ConnectionClose code text cause)) ∷ history)))
leave-acts role theirs history n code text cause writes =
    let f = method_frame 0 (close_for kinds.ConnectionClose code text cause) in
    let elsewhere : (0 == suc n) ≡ false = ne_eqb 0 (suc n) (λ e. let h : 0 ≡ suc n = e in omega arith) in
    let closes : closes_connection f ≡ true =
    ap (is_call kinds.ConnectionClose) (reads-back 0 (close_for kinds.ConnectionClose code text cause) writes) in
    let seen : entries_on (suc n) (Put f ∷ history) ≡ LeftHere ∷ entries_on (suc n) history =
    simp (elsewhere, closes) in
    subst (λ l. ActsOn role theirs (notes (entries_on (suc n) history)) (notes l)) (sym seen) (acts leaves rests)

-- a method on channel 0 that does not close the connection
pub zero-acts : (role : Role) (theirs : List Note) (history : History) (n : ℕ) (method : Method) → ReadsBack method
    → same_kind method.kind kinds.ConnectionClose ≡ false
    → ActsOn role theirs (notes (entries_on (suc n) history))
    (notes (entries_on (suc n) (Put (method_frame 0 method) ∷ history)))
zero-acts role theirs history n method writes quiet =
    one-away role theirs history n 0 method writes (ne_eqb 0 (suc n) (λ e. let h : 0 ≡ suc n = e in
    omega arith)) quiet

-- A message: its method, and for a content the parts after it.

-- no paused end begins a content
may-send : (role : Role) (ns : List Note) (begins : Bool) → has_left ns ≡ false → state role ns ≡ State.Open
    → (is_paused role ns && begins) ≡ false → may_put role ns (Other begins) ≡ true
may-send role ns begins stays word e = simp (stays, word, e)

put-keeps : (role : Role) (begins : Bool) (frame : Frame) (ns : List Note) → has_left ns ≡ false
    → state role (Note.Put (Other begins) frame ∷ ns) ≡ state role ns
put-keeps role begins frame ns stays = simp stays (ap (state_by role) (sym (before_leaving_all ns stays)))

and-false : (b : Bool) → (b && false) ≡ false
and-false true = refl
and-false false = refl

-- the parts of a content are no methods
abbrev pub IsPart : Payload → Type 0
IsPart (Payload.Calls method) = ⊥
IsPart payload = Unit {0}

abbrev pub AllParts : List Payload → Type 0
AllParts [] = Unit {0}
AllParts (payload ∷ later) = IsPart payload × AllParts later

header-kind : (header : Option methods.Header) → kind_of (header_reading header) ≡ Other false
header-kind None = refl
header-kind (Some header) = refl

pub part-kind : (c : ℕ) (payload : Payload) → IsPart payload
    → kind_of (reading (payload_frame c payload)) ≡ Other false
part-kind c (Payload.Calls method) p = absurd p
part-kind c (Payload.Header size properties) p =
    header-kind (header_at (payload_frame c (Payload.Header size properties)).payload)
part-kind c (Payload.Body octets) p = refl
part-kind c Payload.Unread p = refl

pub frame-channel : (c : ℕ) (payload : Payload) → (payload_frame c payload).channel ≡ c
frame-channel c (Payload.Calls method) = refl
frame-channel c (Payload.Header size properties) = refl
frame-channel c (Payload.Body octets) = refl
frame-channel c Payload.Unread = refl

parts-act : (role : Role) (theirs : List Note) (n : ℕ) (payloads : List Payload) (history : History)
    → AllParts payloads → has_left (notes (entries_on (suc n) history)) ≡ false
    → state role (notes (entries_on (suc n) history)) ≡ State.Open
    → ActsOn role theirs (notes (entries_on (suc n) history))
    (notes (entries_on (suc n) (then_put (map (payload_frame (suc n)) payloads) history)))
parts-act role theirs n [] history parts stays word = rests
parts-act role theirs n (payload ∷ later) history parts stays word =
    go (parts-act role theirs n later (Put f ∷ history) parts.1)
  where
    f : Frame
    f = payload_frame (suc n) payload

    es : List ChannelEntry
    es = entries_on (suc n) history

    seen : entries_on (suc n) (Put f ∷ history) ≡ PutHere (reading f) f ∷ es
    seen = seen-put f history n (frame-channel (suc n) payload)

    said : notes (entries_on (suc n) (Put f ∷ history)) ≡ Note.Put (Other false) f ∷ notes es
    said = ap notes seen ∙ ap (λ k. Note.Put k f ∷ notes es) (part-kind (suc n) payload parts.0)

    go : (has_left (notes (entries_on (suc n) (Put f ∷ history))) ≡ false
        → state role (notes (entries_on (suc n) (Put f ∷ history))) ≡ State.Open
        → ActsOn role theirs (notes (entries_on (suc n) (Put f ∷ history)))
        (notes (entries_on (suc n) (then_put (map (payload_frame (suc n)) later) (Put f ∷ history)))))
        → ActsOn role theirs (notes es)
        (notes (entries_on (suc n) (then_put (map (payload_frame (suc n)) later) (Put f ∷ history))))
    go more =
        let first : Acts role theirs (notes es) (Note.Put (Other false) f ∷ notes es) =
        asks (Other false) f (may-send role (notes es) false stays word (and-false (is_paused role (notes es)))) in
        let then = more (ap has_left said ∙ stays) (ap (state role) said
        ∙ (put-keeps role false f (notes es) stays ∙ word)) in
        acts (subst (Acts role theirs (notes es)) (sym said) first) then

-- frames of another channel above 0
parts-away : (n c : ℕ) (payloads : List Payload) (history : History) → (c == suc n) ≡ false → (c == 0) ≡ false
    → entries_on (suc n) (then_put (map (payload_frame c) payloads) history) ≡ entries_on (suc n) history
parts-away n c [] history apart above = refl
parts-away n c (payload ∷ later) history apart above =
    parts-away n c later (Put (payload_frame c payload) ∷ history) apart above ∙ unseen
  where
    unseen : entries_on (suc n) (Put (payload_frame c payload) ∷ history) ≡ entries_on (suc n) history
    unseen =
        let e : ((payload_frame c payload).channel == suc n) ≡ false =
        ap (λ c. c == suc n) (frame-channel c payload) ∙ apart in
        let z : ((payload_frame c payload).channel == 0) ≡ false =
        ap (λ c. c == 0) (frame-channel c payload) ∙ above in
        simp (e, z)

pub bodies-are-parts : (parts : List (List ℕ)) → AllParts (map Payload.Body parts)
bodies-are-parts [] = tt
bodies-are-parts (part ∷ parts) = (tt, bodies-are-parts parts)

-- what a method that may be sent is to its channel
pub sent-kind : (kind : MethodKind) (active : Bool) → (class_of kind == 20) ≡ false
    → kind_of_method kind active
    ≡ Other (begins_content (sort_by kind active) && not (same_kind kind kinds.BasicGetOk))
sent-kind kinds.ChannelOpen active e = absurd (true≢false e)
sent-kind kinds.ChannelOpenOk active e = absurd (true≢false e)
sent-kind kinds.ChannelClose active e = absurd (true≢false e)
sent-kind kinds.ChannelCloseOk active e = absurd (true≢false e)
sent-kind kinds.ChannelFlow active e = absurd (true≢false e)
sent-kind kinds.ChannelFlowOk active e = absurd (true≢false e)
sent-kind kind active e = refl

-- the method frame, then the parts
message-acts : (role : Role) (theirs : List Note) (n : ℕ) (method : Method) (payloads : List Payload)
    (history : History) → ReadsBack method → AllParts payloads → (begins : Bool)
    → kind_of (Calls method) ≡ Other begins → has_left (notes (entries_on (suc n) history)) ≡ false
    → state role (notes (entries_on (suc n) history)) ≡ State.Open
    → (is_paused role (notes (entries_on (suc n) history)) && begins) ≡ false
    → ActsOn role theirs (notes (entries_on (suc n) history))
    (notes (entries_on (suc n) (then_put (map (payload_frame (suc n)) (Payload.Calls method ∷ payloads)) history)))
message-acts role theirs n method payloads history writes parts begins k stays word may =
    acts (subst (Acts role theirs (notes es)) (sym said) first)
    (parts-act role theirs n payloads (Put f ∷ history) parts (ap has_left said ∙ stays) (ap (state role) said
    ∙ (put-keeps role begins f (notes es) stays ∙ word)))
  where
    f : Frame
    f = method_frame (suc n) method

    es : List ChannelEntry
    es = entries_on (suc n) history

    said : notes (entries_on (suc n) (Put f ∷ history)) ≡ Note.Put (Other begins) f ∷ notes es
    said =
        ap notes (seen-put f history n refl)
        ∙ ap (λ k. Note.Put k f ∷ notes es) (ap kind_of (reads-back (suc n) method writes) ∙ k)

    first : Acts role theirs (notes es) (Note.Put (Other begins) f ∷ notes es)
    first = asks (Other begins) f (may-send role (notes es) begins stays word may)

third : (a b c : Bool) → (a && b && c) ≡ true → c ≡ true
third true true c e = e
third true false c e = absurd (false≢true e)
third false b c e = absurd (false≢true e)

pub first-false : (a b : Bool) → (a || b) ≡ false → a ≡ false
first-false true b e = absurd (true≢false e)
first-false false b e = refl

begins-unpaused : (p carries pausable : Bool) → (pausable && p) ≡ false → (p && (carries && pausable)) ≡ false
begins-unpaused false carries pausable e = refl
begins-unpaused true false pausable e = refl
begins-unpaused true true true e = absurd (true≢false e)
begins-unpaused true true false e = refl

begins-none : (p carries other : Bool) → not carries ≡ true → (p && (carries && other)) ≡ false
begins-none p true other e = absurd (false≢true e)
begins-none true false other e = refl
begins-none false false other e = refl

-- a message that may be sent is no method of the class channel
pub message-class : (role : Role) (c : ℕ) (message : Message) → not_sendable role (Ask.Send c message) ≡ None
    → (class_of (method_of message).kind == 20) ≡ false
message-class role c message e =
    not-true _ (third (sends (is_client role) (method_of message).kind) (not (class_of (method_of message).kind == 10))
    (not (class_of (method_of message).kind == 20)) (not-false _ (not-when _ Refusal.NotSendable e)))
  where
    not-false : (b : Bool) → not b ≡ false → b ≡ true
    not-false true e = refl
    not-false false e = absurd (true≢false e)

-- a message on its channel
send-here : (role : Role) (history : History) (n c max : ℕ) (theirs : List Note) (message : Message) (p : Bool)
    → ReadsBack (method_of message) → is_made (Ask.Send c message) ≡ true
    → (class_of (method_of message).kind == 20) ≡ false → has_left (notes (entries_on (suc n) history)) ≡ false
    → state role (notes (entries_on (suc n) history)) ≡ State.Open
    → is_paused role (notes (entries_on (suc n) history)) ≡ p → (is_pausable message && p) ≡ false
    → ActsOn role theirs (notes (entries_on (suc n) history))
    (notes (entries_on (suc n) (then_put (map (payload_frame (suc n)) (message_payloads max message)) history)))
send-here role history n c max theirs (Plain method) p writes made class stays word paused unpaused =
    message-acts role theirs n method [] history writes tt
    (carries_content method && not (same_kind method.kind kinds.BasicGetOk))
    (sent-kind method.kind (bit_at 0 method) class) stays word (begins-none _ (carries_content method) _ made)
send-here role history n c max theirs (Whole content) p writes made class stays word paused unpaused =
    message-acts role theirs n content.method (Payload.Header (length content.body) content.properties
    ∷ map Payload.Body (pieces (room_in max) content.body)) history writes
    (tt, bodies-are-parts (pieces (room_in max) content.body))
    (carries_content content.method && not (same_kind content.method.kind kinds.BasicGetOk))
    (sent-kind content.method.kind (bit_at 0 content.method) class) stays word
    (subst (λ p. (p && (carries_content content.method && not (same_kind content.method.kind kinds.BasicGetOk)))
    ≡ false) (sym paused)
    (begins-unpaused p (carries_content content.method)
    (not (same_kind content.method.kind kinds.BasicGetOk)) unpaused))

send-acts : (role : Role) (config : Config role) (history : History) (n : ℕ) (theirs : List Note) (c max : ℕ)
    (message : Message) → ReadsBack (method_of message) → is_made (Ask.Send c message) ≡ true
    → Accepted role (end_from role config false history) (Ask.Send c message)
    → ActsOn role theirs (notes (entries_on (suc n) history))
    (notes (entries_on (suc n) (then_put (map (payload_frame c) (message_payloads max message)) history)))
send-acts role config history n theirs c max message writes made a = cases (c == suc n) refl
  where
    es : List ChannelEntry
    es = entries_on (suc n) history

    here : c ≡ suc n
        → ActsOn role theirs (notes es)
        (notes (entries_on (suc n) (then_put (map (payload_frame (suc n)) (message_payloads max message)) history)))
    here same =
        let found = found-open role config history n c same a.runs (not-when _ Refusal.NotOpen a.opened) in
        let unpaused : (is_pausable message && found.0.paused) ≡ false =
        sym (ap (λ channel. is_pausable message && in_life (life_of channel) (λ life. life.paused)) found.1)
        ∙ not-when _ Refusal.Paused a.unpaused in
        send-here role history n c max theirs message found.0.paused writes made
        (message-class role c message a.sendable) found.2 found.3 found.4 unpaused

    cases : (b : Bool) → (c == suc n) ≡ b
        → ActsOn role theirs (notes es)
        (notes (entries_on (suc n) (then_put (map (payload_frame c) (message_payloads max message)) history)))
    cases false apart =
        let above : (c == 0) ≡ false = first-false (c == 0) _ (not-when _ Refusal.BadChannel a.numbered) in
        subst (λ l. ActsOn role theirs (notes es) (notes l))
        (sym (parts-away n c (message_payloads max message) history apart above)) rests
    cases true same =
        let e = eqb-true c (suc n) same in
        subst (λ c.
        ActsOn role theirs (notes es)
        (notes (entries_on (suc n) (then_put (map (payload_frame c) (message_payloads max message)) history))))
        (sym e) (here e)

-- what an accepted ask puts, by cases of the ask
ask-acts : (role : Role) (config : Config role) (history : History) (ask : Ask) (n : ℕ) (theirs : List Note)
    → ReadsBack (method_asked ask) → is_made ask ≡ true → Accepted role (end_from role config false history) ask
    → ActsOn role theirs (notes (entries_on (suc n) history))
    (notes (entries_on (suc n) (then_put (frames_asked (end_from role config false history) ask) history)))
ask-acts role config history Ask.Open n theirs writes made a =
    open-acts role config history n theirs writes a (lowest_free (end_from role config false history)) refl
ask-acts role config history (Ask.Send c message) n theirs writes made a =
    send-acts role config history n theirs c _ message writes made a
ask-acts role config history (Ask.Flow c active) n theirs writes made a =
    flow-acts role config history n theirs c active writes a
ask-acts role config history (Ask.CloseChannel c code text cause) n theirs writes made a =
    close-acts role config history n theirs c code text cause writes a
ask-acts role config history (Ask.Close code text cause) n theirs writes made a =
    leave-acts role theirs history n code text cause writes
ask-acts role config history (Ask.Blocked reason) n theirs writes made a =
    zero-acts role theirs history n
    (record { kind = kinds.ConnectionBlocked; args = short_string reason ∷ [] }) writes refl
ask-acts role config history Ask.Unblocked n theirs writes made a =
    zero-acts role theirs history n (without_arguments kinds.ConnectionUnblocked) writes refl

pub asks-act : AsksActs
asks-act role config history ask frames n theirs writes made e =
    let parts = accepted-none (refusal role (end_from role config false history) ask)
    (frames_asked (end_from role config false history) ask) frames e in
    subst (λ frames. ActsOn role theirs (notes (entries_on (suc n) history))
    (notes (entries_on (suc n) (then_put frames history)))) parts.1
    (ask-acts role config history ask n theirs writes made
    (accepted role (end_from role config false history) ask parts.0))
