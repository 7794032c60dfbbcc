-- An entry moves what an end keeps of its channel just as it moves what the entries count to.
use Rattle.std.proofs.Common.{◌≡◌, ◌≤◌, Bool, true, false, ◌||◌, ℕ, zero, suc, ◌+◌, ◌-◌}
use Rattle.std.proofs.Common.{arith, List, [], ◌∷◌, ◌++◌, drop, length, refl, sym, ap, ◌∙◌, subst}
use Rattle.std.proofs.Common.{append-nil}
use Rattle.std.proofs.lemmas.Bool.{false≢true, true≢false}
use Rattle.std.proofs.lemmas.List.{drop-append-le, drop-drop, length-append, length-drop}
use Rattle.amqp_model.specs.Wire.Frame.{Frame}
use Rattle.amqp_model.specs.Wire.Notes.{Role, Client, Server, is_server, Kind, Open, OpenOk, Close, CloseOk, Flow}
use Rattle.amqp_model.specs.Wire.Notes.{FlowOk, Other, Note, Put, Took, is_message}
use Rattle.amqp_model.specs.History.Lives.{is_alive, waits, has_open_ok, is_paused, awaits_flow_ok, is_opening, counts}
use Rattle.amqp_model.specs.Wire.Methods.{MethodKind, Method, carries_content, is_reply, wants, Never, bit_at}
use Rattle.amqp_model.specs.Wire.Contents.{Payload}
use Rattle.amqp_model.specs.Wire.Gathering.{Gathering, Nothing, HeaderDue, BodyDue, step, remains}
use Rattle.amqp_model.specs.Wire.Readings.{Reading, Calls, kind_of}
use Rattle.amqp_model.specs.History.Histories.{ChannelEntry, PutHere, TookHere, LeftHere, note_of, notes, under_way}
use Rattle.amqp_model.specs.History.Replies.{asked_by, answered_by, requested, replied}
use Rattle.amqp_model.specs.End.Channels.{Life, Free, Closing, new_life}
use Rattle.amqp_model.specs.End.Machine.{paused_by, asks_flow, hears_flow_ok, content_after, paused_after, awaits_after}
use Rattle.amqp_model.specs.End.Machine.{with_asked, requests_after, life_after, after_taken, channel_after}
use Rattle.amqp_model.specs.End.Machine.{HasItsRequest, CountsOpen, CountsOpening, Counts}
use Rattle.amqp_model.proofs.ClassMethods.{is_class_kind, class-plain}

-- what a note does to an Open channel that stays Open
pub record Moves (role : Role) (note : Note) (before : List Note) (p a : Bool) : Type 0 where
  pub opens_none : is_opening role note before ≡ false
  pub counts_here : counts note before ≡ true
  pub alive : is_alive role (note ∷ before) ≡ true
  pub stays : waits (note ∷ before) ≡ false
  pub opened : (is_server role || has_open_ok role (note ∷ before)) ≡ true
  pub paused : is_paused role (note ∷ before) ≡ p
  pub awaits : awaits_flow_ok role (note ∷ before) ≡ a

-- the entry answers no more requests than there are, and a reply that is under way then has its request
pub record Matches (role : Role) (kept : Gathering) (requests : List MethodKind) (entry : ChannelEntry) : Type 0 where
  pub room : answered_by role entry kept ≤ length requests
  pub answerable : HasItsRequest role (content_after entry kept) (requests_after role entry kept requests)

pub with-asked : (asked requests : List MethodKind) → with_asked asked requests ≡ requests ++ asked
with-asked [] requests = sym (append-nil requests)
with-asked (kind ∷ later) requests = refl

content-moves : (entry : ChannelEntry) (entries : List ChannelEntry)
    → under_way (entry ∷ entries) ≡ content_after entry (under_way entries)
content-moves (PutHere reading frame) entries = refl
content-moves (TookHere reading frame) entries = refl
content-moves LeftHere entries = refl

pub stays-open : (role : Role) (life : Life) (entry : ChannelEntry) (entries : List ChannelEntry)
    → CountsOpen role life entries → Moves role (note_of entry) (notes entries) (paused_after entry life.paused)
    (awaits_after entry life.awaits) → Matches role life.content life.requests entry
    → CountsOpen role (life_after role entry life) (entry ∷ entries)
stays-open role life entry entries c m r =
    record {
      alive = m.alive;
      stays = m.stays;
      opened = m.opened;
      content = content-moves entry entries ∙ ap (content_after entry) c.content;
      paused = m.paused;
      awaits = m.awaits;
      requests = ap (λ n. drop n (requested role (entry ∷ entries))) replied-is
          ∙ (ap (drop (n + j)) requested-is ∙ moved);
      bounded = subst (λ k. k ≤ length (requested role (entry ∷ entries))) (sym replied-is)
          (subst (λ l. n + j ≤ length l) (sym requested-is) fits);
      answerable = r.answerable;
    }
  where
    n : ℕ
    n = replied role entries

    xs : List MethodKind
    xs = requested role entries

    ys : List MethodKind
    ys = asked_by role entry

    j : ℕ
    j = answered_by role entry life.content

    replied-is : replied role (entry ∷ entries) ≡ n + j
    replied-is = simp (m.opens_none, m.counts_here, c.content)

    requested-is : requested role (entry ∷ entries) ≡ xs ++ ys
    requested-is = simp (m.opens_none, m.counts_here)

    enough : n + j ≤ length xs
    enough =
        let bound : n ≤ length xs = c.bounded in
        let room : j ≤ length xs - n = subst (λ k. j ≤ k) (ap length (sym c.requests)
        ∙ length-drop n xs) r.room in
        omega arith

    fits : n + j ≤ length (xs ++ ys)
    fits =
        let e : length (xs ++ ys) ≡ length xs + length ys = length-append xs ys in
        let h : n + j ≤ length xs = enough in
        omega arith

    moved : drop (n + j) (xs ++ ys) ≡ requests_after role entry life.content life.requests
    moved =
        drop-append-le (n + j) xs ys enough ∙ (ap (λ l. l ++ ys) (sym (drop-drop j n xs) ∙ ap (drop j) c.requests)
        ∙ sym (with-asked ys (drop j life.requests)))

-- a message that an Open channel takes
took-moves : (role : Role) (kind : Kind) (frame : Frame) (ns : List Note) (paused awaits : Bool)
    → is_message kind ≡ true → is_alive role ns ≡ true → waits ns ≡ false
    → (is_server role || has_open_ok role ns) ≡ true → is_paused role ns ≡ paused
    → awaits_flow_ok role ns ≡ awaits
    → Moves role (Took kind frame) ns (paused_by kind paused) (hears_flow_ok kind awaits)
took-moves role (Flow false) frame ns paused awaits e alive stays opened p a =
    record {
      opens_none = refl;
      counts_here = simp stays;
      alive = alive;
      stays = stays;
      opened = opened;
      paused = simp stays;
      awaits = a;
    }
took-moves role (Flow true) frame ns paused awaits e alive stays opened p a =
    record {
      opens_none = refl;
      counts_here = simp stays;
      alive = alive;
      stays = stays;
      opened = opened;
      paused = simp stays;
      awaits = a;
    }
took-moves role (FlowOk active) frame ns paused awaits e alive stays opened p a =
    record {
      opens_none = refl;
      counts_here = simp stays;
      alive = alive;
      stays = stays;
      opened = opened;
      paused = p;
      awaits = simp stays;
    }
took-moves role (Other begins) frame ns paused awaits e alive stays opened p a =
    record {
      opens_none = refl;
      counts_here = simp stays;
      alive = alive;
      stays = stays;
      opened = opened;
      paused = p;
      awaits = a;
    }
took-moves role kind frame ns paused awaits e alive stays opened p a = absurd (false≢true e)

-- a message or a reply that an Open channel puts
abbrev pub stays_open : Kind → Bool
stays_open Open = false
stays_open Close = false
stays_open kind = true

put-moves : (role : Role) (kind : Kind) (frame : Frame) (ns : List Note) (paused awaits : Bool)
    → stays_open kind ≡ true → is_alive role ns ≡ true → waits ns ≡ false
    → (is_server role || has_open_ok role ns) ≡ true → is_paused role ns ≡ paused
    → awaits_flow_ok role ns ≡ awaits → Moves role (Put kind frame) ns paused (asks_flow kind awaits)
put-moves role Open frame ns paused awaits e alive stays opened p a = absurd (false≢true e)
put-moves role Close frame ns paused awaits e alive stays opened p a = absurd (false≢true e)
put-moves role (Flow active) frame ns paused awaits e alive stays opened p a =
    record {
      opens_none = refl;
      counts_here = refl;
      alive = alive;
      stays = stays;
      opened = opened;
      paused = p;
      awaits = refl;
    }
put-moves role kind frame ns paused awaits e alive stays opened p a =
    record {
      opens_none = refl;
      counts_here = refl;
      alive = alive;
      stays = stays;
      opened = opened;
      paused = p;
      awaits = a;
    }

pub took-stays_open : (role : Role) (life : Life) (reading : Reading) (frame : Frame) (entries : List ChannelEntry)
    → CountsOpen role life entries → is_message (kind_of reading) ≡ true
    → Matches role life.content life.requests (TookHere reading frame)
    → CountsOpen role (life_after role (TookHere reading frame) life) (TookHere reading frame ∷ entries)
took-stays_open role life reading frame entries c e matches =
    stays-open role life (TookHere reading frame) entries c
    (took-moves role (kind_of reading) frame (notes entries) life.paused life.awaits e c.alive c.stays c.opened
    c.paused c.awaits) matches

pub put-stays_open : (role : Role) (life : Life) (reading : Reading) (frame : Frame) (entries : List ChannelEntry)
    → CountsOpen role life entries → stays_open (kind_of reading) ≡ true
    → Matches role life.content life.requests (PutHere reading frame)
    → CountsOpen role (life_after role (PutHere reading frame) life) (PutHere reading frame ∷ entries)
put-stays_open role life reading frame entries c e matches =
    stays-open role life (PutHere reading frame) entries c
    (put-moves role (kind_of reading) frame (notes entries) life.paused life.awaits e c.alive c.stays c.opened
    c.paused c.awaits) matches

-- The other steps of a channel.

fresh : (kept : Gathering) (method : Method) → carries_content method ≡ false
    → remains (step kept (Payload.Calls method)) (Payload.Calls method) ≡ Nothing
fresh Nothing method e = simp e
fresh (HeaderDue begun) method e = simp e
fresh (BodyDue begun size properties body) method e = simp e

-- a server takes an open
opens-server : (frame : Frame) (ns : List Note) → waits ns ≡ false
    → (is_opening Server (Took Open frame) ns ≡ true) × (is_alive Server (Took Open frame ∷ ns) ≡ true)
    × (is_paused Server (Took Open frame ∷ ns) ≡ false)
    × (awaits_flow_ok Server (Took Open frame ∷ ns) ≡ false)
opens-server frame ns e = (simp e, simp e, simp e, simp e)

pub took-open : (method : Method) (frame : Frame) (entries : List ChannelEntry) → waits (notes entries) ≡ false
    → kind_of (Calls method) ≡ Open → CountsOpen Server new_life (TookHere (Calls method) frame ∷ entries)
took-open method frame entries e k =
    record {
      alive = subst (λ k. is_alive Server (Took k frame ∷ notes entries) ≡ true) (sym k) words.1;
      stays = subst (λ k. waits (Took k frame ∷ notes entries) ≡ false) (sym k) e;
      opened = refl;
      content = fresh (under_way entries) method plain;
      paused = subst (λ k. is_paused Server (Took k frame ∷ notes entries) ≡ false) (sym k) words.2;
      awaits = subst (λ k. awaits_flow_ok Server (Took k frame ∷ notes entries) ≡ false) (sym k) words.3;
      requests = simp opening;
      bounded = simp opening (omega arith);
      answerable = tt;
    }
  where
    words : (is_opening Server (Took Open frame) (notes entries) ≡ true)
        × (is_alive Server (Took Open frame ∷ notes entries) ≡ true)
        × (is_paused Server (Took Open frame ∷ notes entries) ≡ false)
        × (awaits_flow_ok Server (Took Open frame ∷ notes entries) ≡ false)
    words = opens-server frame (notes entries) e

    opening : is_opening Server (Took (kind_of (Calls method)) frame) (notes entries) ≡ true
    opening = subst (λ k. is_opening Server (Took k frame) (notes entries) ≡ true) (sym k) words.0

    plain : carries_content method ≡ false
    plain = (class-plain method.kind (bit_at 0 method) (ap is_class_kind k)).0

-- a client puts an open
pub put-open : (reading : Reading) (frame : Frame) (entries : List ChannelEntry) → waits (notes entries) ≡ false
    → kind_of reading ≡ Open → CountsOpening Client (PutHere reading frame ∷ entries)
put-open reading frame entries e k =
    record {
      alive = subst (λ k. is_alive Client (Put k frame ∷ notes entries) ≡ true) (sym k) refl;
      stays = subst (λ k. waits (Put k frame ∷ notes entries) ≡ false) (sym k) e;
      unopened = subst (λ k. has_open_ok Client (Put k frame ∷ notes entries) ≡ false) (sym k) refl;
      not_paused = subst (λ k. is_paused Client (Put k frame ∷ notes entries) ≡ false) (sym k) refl;
      no_flow = subst (λ k. awaits_flow_ok Client (Put k frame ∷ notes entries) ≡ false) (sym k) refl;
      no_request = simp opening;
      no_reply = simp opening;
    }
  where
    opening : is_opening Client (Put (kind_of reading) frame) (notes entries) ≡ true
    opening = subst (λ k. is_opening Client (Put k frame) (notes entries) ≡ true) (sym k) refl

-- a client takes open-ok
pub took-open_ok : (method : Method) (frame : Frame) (entries : List ChannelEntry) → CountsOpening Client entries
    → kind_of (Calls method) ≡ OpenOk → CountsOpen Client new_life (TookHere (Calls method) frame ∷ entries)
took-open_ok method frame entries c k =
    record {
      alive = subst (λ k. is_alive Client (Took k frame ∷ notes entries) ≡ true) (sym k) c.alive;
      stays = subst (λ k. waits (Took k frame ∷ notes entries) ≡ false) (sym k) c.stays;
      opened = subst (λ k. has_open_ok Client (Took k frame ∷ notes entries) ≡ true) (sym k) (simp c.stays);
      content = fresh (under_way entries) method plain.0;
      paused = subst (λ k. is_paused Client (Took k frame ∷ notes entries) ≡ false) (sym k) c.not_paused;
      awaits = subst (λ k. awaits_flow_ok Client (Took k frame ∷ notes entries) ≡ false) (sym k) c.no_flow;
      requests = ap (λ l. drop (replied Client (TookHere (Calls method) frame ∷ entries)) l) none
          ∙ drop_none (replied Client (TookHere (Calls method) frame ∷ entries));
      bounded = subst (λ n. n ≤ length (requested Client (TookHere (Calls method) frame ∷ entries)))
          (sym no_reply) (omega arith);
      answerable = tt;
    }
  where
    plain : (carries_content method ≡ false) × (is_reply method.kind ≡ false) × (wants method.kind ≡ Never)
    plain = class-plain method.kind (bit_at 0 method) (ap is_class_kind k)

    opens_none : is_opening Client (Took (kind_of (Calls method)) frame) (notes entries) ≡ false
    opens_none = subst (λ k. is_opening Client (Took k frame) (notes entries) ≡ false) (sym k) refl

    counts_here : counts (Took (kind_of (Calls method)) frame) (notes entries) ≡ true
    counts_here = subst (λ k. counts (Took k frame) (notes entries) ≡ true) (sym k) (simp c.stays)

    none : requested Client (TookHere (Calls method) frame ∷ entries) ≡ []
    none = simp (opens_none, counts_here, c.no_request)

    no_reply : replied Client (TookHere (Calls method) frame ∷ entries) ≡ 0
    no_reply = simp (opens_none, counts_here, c.no_reply, plain.1)

    drop_none : (n : ℕ) → drop {A = MethodKind} n [] ≡ []
    drop_none zero = refl
    drop_none (suc n) = refl

-- the other's close ends a life, where the end does not wait
pub took-close : (role : Role) (reading : Reading) (frame : Frame) (entries : List ChannelEntry)
    → waits (notes entries) ≡ false → kind_of reading ≡ Close
    → Counts role Free (TookHere reading frame ∷ entries)
took-close role reading frame entries e k = (
  subst (λ k. is_alive role (Took k frame ∷ notes entries) ≡ false) (sym k) (simp e),
  subst
      (λ k. waits (Took k frame ∷ notes entries) ≡ false) (sym k) e,
)

-- close-ok frees the number
freed : (role : Role) (frame : Frame) (ns : List Note) → waits ns ≡ true
    → (is_alive role (Took CloseOk frame ∷ ns) ≡ false) × (waits (Took CloseOk frame ∷ ns) ≡ false)
freed role frame ns e = (simp e, refl)

abbrev is_close_ok : Kind → Bool
is_close_ok CloseOk = true
is_close_ok kind = false

-- all else leaves the channel Closing
still-closing : (role : Role) (kind : Kind) (frame : Frame) (ns : List Note) → is_close_ok kind ≡ false
    → is_alive role ns ≡ true → waits ns ≡ true → (is_alive role (Took kind frame ∷ ns) ≡ true)
    × (waits (Took kind frame ∷ ns) ≡ true)
still-closing role CloseOk frame ns e alive w = absurd (true≢false e)
still-closing Client Open frame ns e alive w = (alive, w)
still-closing Server Open frame ns e alive w = (simp (w, alive), w)
still-closing role Close frame ns e alive w = (simp (w, alive), w)
still-closing role kind frame ns e alive w = (alive, w)

pub took-closing : (role : Role) (reading : Reading) (frame : Frame) (entries : List ChannelEntry)
    → Counts role Closing entries
    → Counts role (channel_after role (TookHere reading frame) Closing) (TookHere reading frame ∷ entries)
took-closing role reading frame entries c = go (kind_of reading) refl
  where
    stays : (k : Kind) → kind_of reading ≡ k → is_close_ok k ≡ false
        → Counts role Closing (TookHere reading frame ∷ entries)
    stays k e other = (still-closing role (kind_of reading) frame (notes entries) (ap is_close_ok e ∙ other) c.0 c.1)

    go : (k : Kind) → kind_of reading ≡ k
        → Counts role (after_taken role (TookHere reading frame) Closing k) (TookHere reading frame ∷ entries)
    go CloseOk e =
        let w = freed role frame (notes entries) c.1 in (
          subst (λ k. is_alive role (Took k frame ∷ notes entries) ≡ false) (sym e) w.0,
          subst
              (λ k. waits (Took k frame ∷ notes entries) ≡ false) (sym e) w.1,
        )
    go Open e = stays Open e refl
    go OpenOk e = stays OpenOk e refl
    go Close e = stays Close e refl
    go (Flow active) e = stays (Flow active) e refl
    go (FlowOk active) e = stays (FlowOk active) e refl
    go (Other begins) e = stays (Other begins) e refl

-- the end's own close
pub put-close : (role : Role) (reading : Reading) (frame : Frame) (entries : List ChannelEntry)
    → is_alive role (notes entries) ≡ true → kind_of reading ≡ Close
    → Counts role Closing (PutHere reading frame ∷ entries)
put-close role reading frame entries alive k = (
  subst (λ k. is_alive role (Put k frame ∷ notes entries) ≡ true) (sym k) alive,
  subst
      (λ k. waits (Put k frame ∷ notes entries) ≡ true) (sym k) refl,
)

-- close-ok put moves nothing
pub put-close_ok-free : (role : Role) (reading : Reading) (frame : Frame) (entries : List ChannelEntry)
    → kind_of reading ≡ CloseOk → Counts role Free entries
    → Counts role Free (PutHere reading frame ∷ entries)
put-close_ok-free role reading frame entries k c = (
  subst (λ k. is_alive role (Put k frame ∷ notes entries) ≡ false) (sym k) c.0,
  subst
      (λ k. waits (Put k frame ∷ notes entries) ≡ false) (sym k) c.1,
)

pub put-close_ok-closing : (role : Role) (reading : Reading) (frame : Frame) (entries : List ChannelEntry)
    → kind_of reading ≡ CloseOk → Counts role Closing entries
    → Counts role Closing (PutHere reading frame ∷ entries)
put-close_ok-closing role reading frame entries k c = (
  subst (λ k. is_alive role (Put k frame ∷ notes entries) ≡ true) (sym k) c.0,
  subst
      (λ k. waits (Put k frame ∷ notes entries) ≡ true) (sym k) c.1,
)
