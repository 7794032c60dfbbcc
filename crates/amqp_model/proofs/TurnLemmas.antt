-- Replies and the requests that they answer, as lists; and what a frame adds to them.
use Rattle.std.proofs.Common.{◌≡◌, ◌≤◌, Bool, true, false, cond, not, ◌&&◌, ◌||◌, ℕ, arith, List}
use Rattle.std.proofs.Common.{[], ◌∷◌, ◌++◌, map, reverse, drop, length, refl, sym, ap, ◌∙◌, subst}
use Rattle.std.proofs.Common.{append-nil, append_assoc, length-append}
use Rattle.std.specs.Option.{option_to_list}
use Rattle.std.proofs.lemmas.Bool.{false≢true, true≢false}
use Rattle.std.proofs.lemmas.List.{map-append, drop-append-le, drop-drop}
use Rattle.amqp_method.specs.declared.kinds.Kind.TheVariants as kinds
use Rattle.amqp_model.specs.Wire.Frame.{Frame}
use Rattle.amqp_model.specs.Wire.Notes.{Client, Kind, Other, is_message}
use Rattle.amqp_model.specs.Wire.Methods.{MethodKind, Method, Properties, begins_content, sort_by, bit_at, wants}
use Rattle.amqp_model.specs.Wire.Methods.{is_wanted, is_reply}
use Rattle.amqp_model.specs.Wire.Contents.{Payload}
use Rattle.amqp_model.specs.Wire.Gathering.{Gathering, Nothing, HeaderDue, BodyDue, Step, Keeps, Completes, Breaks}
use Rattle.amqp_model.specs.Wire.Gathering.{Misfit, step, gathering}
use Rattle.amqp_model.specs.Wire.Items.{Item, item_of, completed, item_ended, items}
use Rattle.amqp_model.specs.Wire.Readings.{Reading, Calls, UnknownMethod, MalformedMethod, HeaderOf, MalformedHeader}
use Rattle.amqp_model.specs.Wire.Readings.{BodyOf, Beat, reading, kind_of, payload_of}
use Rattle.amqp_model.specs.History.Histories.{TookHere}
use Rattle.amqp_model.specs.History.Replies.{request_made, begins_reply, completes_reply, answered_by, one_if}
use Rattle.amqp_model.specs.End.FrameVerdict.{answers_first}
use Rattle.amqp_model.specs.End.Machine.{IsAnswerable, HasItsRequest}
use Rattle.amqp_model.specs.Pair.Sent.{payload_in, items_in}
use Rattle.amqp_model.specs.Pair.InTurn.{request_in, reply_in, requests_in, replies_in, InTurn}
use Rattle.amqp_model.proofs.ItemLemmas.{items-more}
use Rattle.amqp_model.proofs.ClassMethods.{is_class_kind, class-plain}

-- The lists.

pub in-turn-asked : (replies requests more : List MethodKind) → InTurn replies requests
    → InTurn replies (requests ++ more)
in-turn-asked [] requests more h = tt
in-turn-asked (reply ∷ later) [] more h = absurd h
in-turn-asked (reply ∷ later) (request ∷ others) more h = (h.0, in-turn-asked later others more h.1)

-- one reply at most, and that to the first of these requests
abbrev pub IsFirst : (new requests : List MethodKind) → Type 0
IsFirst [] requests = Unit {0}
IsFirst (reply ∷ []) requests = answers_first reply requests ≡ true
IsFirst (reply ∷ other ∷ later) requests = ⊥

pub in-turn-answered : (replies requests new : List MethodKind) → InTurn replies requests
    → IsFirst new (drop (length replies) requests) → InTurn (replies ++ new) requests
in-turn-answered [] requests [] h first = tt
in-turn-answered [] [] (reply ∷ []) h first = absurd (false≢true first)
in-turn-answered [] (request ∷ others) (reply ∷ []) h first = (first, tt)
in-turn-answered [] requests (reply ∷ other ∷ later) h first = absurd first
in-turn-answered (reply ∷ later) [] new h first = absurd h
in-turn-answered (reply ∷ later) (request ∷ others) new h first = (h.0, in-turn-answered later others new h.1 first)

pub in-turn-length : (replies requests : List MethodKind) → InTurn replies requests
    → length replies ≤ length requests
in-turn-length [] requests h = omega arith
in-turn-length (reply ∷ later) [] h = absurd h
in-turn-length (reply ∷ later) (request ∷ others) h = let more = in-turn-length later others h.1 in omega arith

pub in-turn-prefix : (replies more requests : List MethodKind) → InTurn (replies ++ more) requests
    → InTurn replies requests
in-turn-prefix [] more requests h = tt
in-turn-prefix (reply ∷ later) more [] h = absurd h
in-turn-prefix (reply ∷ later) more (request ∷ others) h = (h.0, in-turn-prefix later more others h.1)

-- what is left of the requests after replies, and after requests
pub left-answered : (replies requests new : List MethodKind) → drop (length (replies ++ new)) requests
    ≡ drop (length new) (drop (length replies) requests)
left-answered replies requests new =
    ap (λ n. drop n requests) (length-append replies new) ∙ sym (drop-drop (length new) (length replies) requests)

pub left-asked : (replies requests more : List MethodKind) → InTurn replies requests
    → drop (length replies) (requests ++ more) ≡ drop (length replies) requests ++ more
left-asked replies requests more h = drop-append-le (length replies) requests more (in-turn-length replies requests h)

pub requests-append : (xs ys : List Item) → requests_in (xs ++ ys) ≡ requests_in xs ++ requests_in ys
requests-append [] ys = refl
requests-append (x ∷ xs) ys =
    ap (λ l. request_in x ++ l) (requests-append xs ys)
    ∙ sym (append_assoc (request_in x) (requests_in xs) (requests_in ys))

pub replies-append : (xs ys : List Item) → replies_in (xs ++ ys) ≡ replies_in xs ++ replies_in ys
replies-append [] ys = refl
replies-append (x ∷ xs) ys =
    ap (λ l. reply_in x ++ l) (replies-append xs ys)
    ∙ sym (append_assoc (reply_in x) (replies_in xs) (replies_in ys))

-- What a frame adds.

items-snoc : (xs : List Frame) (frame : Frame)
    → items_in (xs ++ frame ∷ []) ≡ items_in xs ++ option_to_list
    (item_ended (gathering (reverse (map payload_in xs))) (payload_in frame))
items-snoc xs frame =
    ap items (map-append payload_in xs (frame ∷ [])) ∙ items-more (map payload_in xs) (payload_in frame)

-- the request that an item is, by the frame that ends it
plain-request : (method : Method) (kind : MethodKind) (active : Bool) → method.kind ≡ kind
    → requests_in (option_to_list (item_of method (sort_by kind active)))
    ≡ cond (is_wanted method (wants kind)) (method.kind ∷ []) []
plain-request method kinds.BasicPublish active e = refl
plain-request method kinds.BasicReturn active e = refl
plain-request method kinds.BasicDeliver active e = refl
plain-request method kinds.BasicGetOk active e = refl
plain-request method kinds.ChannelOpen active e = refl
plain-request method kinds.ChannelOpenOk active e = refl
plain-request method kinds.ChannelClose active e = refl
plain-request method kinds.ChannelCloseOk active e = refl
plain-request method kinds.ChannelFlow active e = refl
plain-request method kinds.ChannelFlowOk active e = refl
plain-request method kind active e =
    append-nil _ ∙ ap (λ kind. cond (is_wanted method (wants kind)) (method.kind ∷ []) []) e

part-request : (s : Step) → requests_in (option_to_list (completed s)) ≡ []
part-request (Keeps kept) = refl
part-request (Breaks misfit) = refl
part-request (Completes content) = refl

requests-ended : (kept : Gathering) (r : Reading)
    → requests_in (option_to_list (item_ended kept (payload_of r))) ≡ request_made r
requests-ended kept (Calls method) = plain-request method method.kind (bit_at 0 method) refl
requests-ended kept (HeaderOf size properties) = part-request (step kept (Payload.Header size properties))
requests-ended kept (BodyOf octets) = part-request (step kept (Payload.Body octets))
requests-ended kept UnknownMethod = refl
requests-ended kept MalformedMethod = refl
requests-ended kept MalformedHeader = refl
requests-ended kept (Beat empty) = refl

pub requests-more : (xs : List Frame) (frame : Frame) (b : Bool)
    → requests_in (items_in (xs ++ cond b (frame ∷ []) [])) ≡ requests_in (items_in xs)
    ++ cond b (request_made (reading frame)) []
requests-more xs frame true =
    ap requests_in (items-snoc xs frame)
    ∙ (requests-append (items_in xs) _
    ∙ ap (λ l. requests_in (items_in xs) ++ l)
    (requests-ended (gathering (reverse (map payload_in xs))) (reading frame)))
requests-more xs frame false = ap (λ l. requests_in (items_in l)) (append-nil xs) ∙ sym (append-nil _)

-- the reply that an item is
abbrev pub reply_told : Gathering → Reading → List MethodKind
reply_told kept r = replies_in (option_to_list (item_ended kept (payload_of r)))

pub replies-more : (xs : List Frame) (frame : Frame) (b : Bool)
    → replies_in (items_in (xs ++ cond b (frame ∷ []) [])) ≡ replies_in (items_in xs)
    ++ cond b (reply_told (gathering (reverse (map payload_in xs))) (reading frame)) []
replies-more xs frame true = ap replies_in (items-snoc xs frame) ∙ replies-append (items_in xs) _
replies-more xs frame false = ap (λ l. replies_in (items_in l)) (append-nil xs) ∙ sym (append-nil _)

-- the reply that a method frame begins
abbrev pub begun_by : Reading → List MethodKind
begun_by (Calls method) = cond (is_reply method.kind) (method.kind ∷ []) []
begun_by r = []

abbrev pub begun_in : List Frame → List MethodKind
begun_in [] = []
begun_in (frame ∷ later) = begun_by (reading frame) ++ begun_in later

begun-append : (xs ys : List Frame) → begun_in (xs ++ ys) ≡ begun_in xs ++ begun_in ys
begun-append [] ys = refl
begun-append (x ∷ xs) ys =
    ap (λ l. begun_by (reading x) ++ l) (begun-append xs ys)
    ∙ sym (append_assoc (begun_by (reading x)) (begun_in xs) (begun_in ys))

pub begun-more : (xs : List Frame) (frame : Frame) (b : Bool) → begun_in (xs ++ cond b (frame ∷ []) [])
    ≡ begun_in xs ++ cond b (begun_by (reading frame)) []
begun-more xs frame true = begun-append xs (frame ∷ []) ∙ ap (λ l. begun_in xs ++ l) (append-nil _)
begun-more xs frame false = ap begun_in (append-nil xs) ∙ sym (append-nil _)

pub begun-length : (r : Reading) → length (begun_by r) ≡ one_if (begins_reply r)
begun-length (Calls method) = cases (is_reply method.kind)
  where
    cases : (b : Bool) → length (cond b (method.kind ∷ []) []) ≡ one_if b
    cases true = refl
    cases false = refl
begun-length r = refl

-- a server's reply is to the first of the requests
pub begun-first : (r : Reading) (requests : List MethodKind)
    → ((method : Method) → r ≡ Calls method → (not (is_reply method.kind) || answers_first method.kind requests)
    ≡ true) → IsFirst (begun_by r) requests
begun-first (Calls method) requests in_turn = cases (is_reply method.kind) (in_turn method refl)
  where
    cases : (b : Bool) → (not b || answers_first method.kind requests) ≡ true
        → IsFirst (cond b (method.kind ∷ []) []) requests
    cases true e = e
    cases false e = tt
begun-first r requests in_turn = tt

-- What a client is told.

pub plain-reply : (method : Method) (kind : MethodKind) (active : Bool) → method.kind ≡ kind
    → replies_in (option_to_list (item_of method (sort_by kind active)))
    ≡ cond (is_reply kind && not (begins_content (sort_by kind active))) (method.kind ∷ []) []
plain-reply method kinds.BasicPublish active e = refl
plain-reply method kinds.BasicReturn active e = refl
plain-reply method kinds.BasicDeliver active e = refl
plain-reply method kinds.BasicGetOk active e = refl
plain-reply method kinds.ChannelOpen active e = refl
plain-reply method kinds.ChannelOpenOk active e = refl
plain-reply method kinds.ChannelClose active e = refl
plain-reply method kinds.ChannelCloseOk active e = refl
plain-reply method kinds.ChannelFlow active e = refl
plain-reply method kinds.ChannelFlowOk active e = refl
plain-reply method kind active e =
    append-nil _ ∙ (ap (λ kind. cond (is_reply kind) (method.kind ∷ []) []) e
    ∙ ap (λ b. cond b (method.kind ∷ []) []) (sym (with-true (is_reply kind))))
  where
    with-true : (b : Bool) → (b && true) ≡ b
    with-true true = refl
    with-true false = refl

one-kind : (b : Bool) (kind : MethodKind) → length (cond b (kind ∷ []) []) ≡ one_if b
one-kind true kind = refl
one-kind false kind = refl

part-length : (s : Step) → length (replies_in (option_to_list (completed s))) ≡ one_if (completes_reply s)
part-length (Keeps kept) = refl
part-length (Breaks misfit) = refl
part-length (Completes content) =
    ap length (append-nil _) ∙ one-kind (is_reply content.method.kind) content.method.kind

pub told-length : (kept : Gathering) (r : Reading) (frame : Frame)
    → length (reply_told kept r) ≡ answered_by Client (TookHere r frame) kept
told-length kept (Calls method) frame =
    ap length (plain-reply method method.kind (bit_at 0 method) refl) ∙ one-kind _ method.kind
told-length kept (HeaderOf size properties) frame = part-length (step kept (Payload.Header size properties))
told-length kept (BodyOf octets) frame = part-length (step kept (Payload.Body octets))
told-length kept UnknownMethod frame = refl
told-length kept MalformedMethod frame = refl
told-length kept MalformedHeader frame = refl
told-length kept (Beat empty) frame = refl

-- the first of these requests waits for such a reply
first-one : (kind : MethodKind) (requests : List MethodKind) (b : Bool)
    → (b ≡ true → answers_first kind requests ≡ true) → IsFirst (cond b (kind ∷ []) []) requests
first-one kind requests true h = h refl
first-one kind requests false h = tt

first-gathered : (method : Method) (size : ℕ) (properties : Properties) (body : List ℕ) (requests : List MethodKind)
    → IsAnswerable method requests → (whole short : Bool)
    → IsFirst (replies_in
    (option_to_list
    (completed (cond whole (Completes (record { method = method; properties = properties; body = body }))
    (cond short (Keeps (BodyDue method size properties body)) (Breaks Misfit.PastSize)))))) requests
first-gathered method size properties body requests h true short =
    subst (λ l. IsFirst l requests) (sym (append-nil _)) (first-one method.kind requests (is_reply method.kind) h)
first-gathered method size properties body requests h false true = tt
first-gathered method size properties body requests h false false = tt

pub told-first : (kept : Gathering) (r : Reading) (requests : List MethodKind) → HasItsRequest Client kept requests
    → ((method : Method) → r ≡ Calls method → IsAnswerable method requests)
    → IsFirst (reply_told kept r) requests
told-first kept (Calls method) requests h answerable =
    subst (λ l. IsFirst l requests) (sym (plain-reply method method.kind (bit_at 0 method) refl))
    (first-one method.kind requests _ (λ e. answerable method refl (left (is_reply method.kind) _ e)))
  where
    left : (a b : Bool) → (a && b) ≡ true → a ≡ true
    left true b e = refl
    left false b e = e
told-first Nothing (HeaderOf size properties) requests h answerable = tt
told-first Nothing (BodyOf octets) requests h answerable = tt
told-first (HeaderDue method) (HeaderOf size properties) requests h answerable =
    first-gathered method size properties [] requests h _ _
told-first (HeaderDue method) (BodyOf octets) requests h answerable = tt
told-first (BodyDue method size properties body) (HeaderOf again others) requests h answerable = tt
told-first (BodyDue method size properties body) (BodyOf octets) requests h answerable =
    first-gathered method size properties (body ++ octets) requests h _ _
told-first kept UnknownMethod requests h answerable = tt
told-first kept MalformedMethod requests h answerable = tt
told-first kept MalformedHeader requests h answerable = tt
told-first kept (Beat empty) requests h answerable = tt

-- Frames that are no messages ask and answer nothing.

class-kind : (kind : Kind) → is_message kind ≡ false → is_class_kind kind ≡ true
class-kind (Other begins) e = absurd (true≢false e)
class-kind kind e = refl

pub no-message-asks : (r : Reading) → is_message (kind_of r) ≡ false → request_made r ≡ []
no-message-asks (Calls method) e =
    let plain = class-plain method.kind (bit_at 0 method) (class-kind (kind_of (Calls method)) e) in
    ap (λ wanted. cond (is_wanted method wanted) (method.kind ∷ []) []) plain.2
no-message-asks r e = absurd (true≢false e)

pub no-message-begins : (r : Reading) → is_message (kind_of r) ≡ false → begun_by r ≡ []
no-message-begins (Calls method) e =
    let plain = class-plain method.kind (bit_at 0 method) (class-kind (kind_of (Calls method)) e) in
    ap (λ b. cond b (method.kind ∷ []) []) plain.1
no-message-begins r e = absurd (true≢false e)
