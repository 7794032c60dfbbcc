-- What an end says grows by the item of each message that it puts, and by nothing else.
use Rattle.std.proofs.Common.{◌≡◌, ◌≤◌, ◌⊎◌, inl, inr, Bool, true, false, cond, ℕ, zero, suc}
use Rattle.std.proofs.Common.{◌+◌, ◌==◌, nat_lt, arith, List, [], ◌∷◌, ◌++◌, map, reverse, length}
use Rattle.std.proofs.Common.{Option, Some, None, refl, sym, ap, ◌∙◌, append_assoc, append-nil}
use Rattle.std.specs.Option.{option_to_list}
use Rattle.std.proofs.lemmas.Bool.{true≢false, eq-eqb, ltb-false, not-true}
use Rattle.std.proofs.lemmas.List.{map-append, reverse-append}
use Rattle.amqp_model.specs.Wire.Frame.{Frame}
use Rattle.amqp_model.specs.Wire.Notes.{Role, Other, is_message}
use Rattle.amqp_model.specs.Wire.Notes as notes_of
use Rattle.amqp_model.specs.History.Lives.{lives}
use Rattle.amqp_model.specs.Pair.Carried.{puts, sent}
use Rattle.amqp_method.specs.declared.kinds.Kind.TheVariants as kinds
use Rattle.amqp_model.specs.Wire.Methods.{Method, ReadsBack, carries_content, sort_of, bit_at, class_of, plain_method}
use Rattle.amqp_model.specs.Wire.Contents.{Payload, cut}
use Rattle.amqp_model.specs.Wire.Gathering.{Gathering, Nothing, step, remains, gathering}
use Rattle.amqp_model.specs.Wire.Items.{Item, PlainMethod, item_of, item_ended, items}
use Rattle.amqp_model.specs.Wire.Readings.{Calls, reading, kind_of, payload_of}
use Rattle.amqp_model.specs.History.Histories.{Put, History, notes}
use Rattle.amqp_model.specs.End.Channels.{End}
use Rattle.amqp_model.specs.History.Negotiation.{Config}
use Rattle.amqp_model.specs.End.Closes.{method_frame, without_arguments, flow_as}
use Rattle.amqp_model.specs.End.Events.{Message, Plain, Whole, method_of}
use Rattle.amqp_model.specs.End.Asks.{Ask, Send, is_made, Refusal, frame_max, payload_frame, message_payloads, refusal}
use Rattle.amqp_model.specs.End.Asks.{frames_asked, opens_on, Puts, ask_verdict}
use Rattle.amqp_model.specs.End.ReadingBack.{AskReadsBack}
use Rattle.amqp_model.specs.End.LawfulHistories.{end_of, then_put}
use Rattle.amqp_model.specs.Laws.EndLaws.{notes_on}
use Rattle.amqp_model.specs.Pair.Sent.{payload_in, life_on, Telling, ended_by, said_at, said}
use Rattle.amqp_model.specs.Pair.WholeMessages.{FitAfter, AreWholeMessages}
use Rattle.amqp_model.specs.Stream.Traces.{telling_at, SaysMethod, item_of_message, SaysMessage, SaysAsk}
use Rattle.amqp_model.specs.Stream.Traces.{TakenSaysNothing}
use Rattle.amqp_model.proofs.Acting.{seen-put, reads-back}
use Rattle.amqp_model.proofs.Asking.{Accepted, accepted, accepted-none, not-when, first-false, frame-channel, sent-kind}
use Rattle.amqp_model.proofs.Asking.{message-class}
use Rattle.amqp_model.proofs.CutLemmas.{cut-content}
use Rattle.amqp_model.proofs.ItemLemmas.{items-content}
use Rattle.amqp_model.proofs.SentTelling.{no-item}
use Rattle.amqp_model.proofs.Lists.{messages-append}
use Rattle.amqp_model.proofs.Tracing.{other-item}
use Rattle.amqp_model.proofs.Turning.{message-lives}
use Rattle.amqp_model.proofs.TurnLaws.{ended_after, items-are}
use Rattle.amqp_model.proofs.WholeMessages.{kept_after, gathering-after, some-octets, AllSay, content-says}
use Rattle.amqp_model.proofs.WholeMessages.{puts-whole-messages}

pub taken-says-nothing : TakenSaysNothing
taken-says-nothing role frame history = refl

-- what a frame put on a channel above 0 adds, as it stands in the definition
said-here : (role : Role) (m : ℕ) (frame : Frame) (history : History) → frame.channel ≡ suc m
    → said role (Put frame ∷ history) ≡ said role history ++ ended_by (suc m)
    (life_on role (suc m) (Put frame ∷ history)) (sent role (life_on role (suc m) (Put frame ∷ history))
    (notes_on (suc m) history)) frame
said-here role m frame history here = ap (λ c. said role history ++ said_at role c frame history) here

life-put : (role : Role) (m : ℕ) (frame : Frame) (history : History) → frame.channel ≡ suc m
    → is_message (kind_of (reading frame)) ≡ true → life_on role (suc m) (Put frame ∷ history)
    ≡ life_on role (suc m) history
life-put role m frame history here e =
    ap (λ entries. lives role (notes entries)) (seen-put frame history m here)
    ∙ (message-lives role (kind_of (reading frame)) frame (notes_on (suc m) history) e).0

pub says-method : (role : Role) (channel : ℕ) (method : Method) (history : History)
    → SaysMethod role channel method history
says-method role zero method history back = refl
says-method role (suc m) method history back =
    said-here role m (method_frame (suc m) method) history refl
    ∙ ap (λ l. said role history ++ l) (by-message (is_message (kind_of (Calls method))) refl)
  where
    said_is : reading (method_frame (suc m) method) ≡ Calls method
    said_is = reads-back (suc m) method back

    by-message : (b : Bool) → is_message (kind_of (Calls method)) ≡ b
        → ended_by (suc m) (life_on role (suc m) (Put (method_frame (suc m) method) ∷ history))
        (sent role (life_on role (suc m) (Put (method_frame (suc m) method) ∷ history)) (notes_on (suc m) history))
        (method_frame (suc m) method) ≡ telling_at (suc m) (life_on role (suc m) history)
        (item_of method (sort_of method))
    by-message true e =
        ap (λ r. telling_at (suc m) (life_on role (suc m) (Put (method_frame (suc m) method) ∷ history))
        (item_ended (gathering
        (reverse (map payload_in (sent role (life_on role (suc m) (Put (method_frame (suc m) method) ∷ history))
        (notes_on (suc m) history))))) (payload_of r))) said_is
        ∙ ap (λ life. telling_at (suc m) life (item_of method (sort_of method)))
        (life-put role m (method_frame (suc m) method) history refl (ap (λ r. is_message (kind_of r)) said_is ∙ e))
    by-message false e =
        ap (λ r. telling_at (suc m) (life_on role (suc m) (Put (method_frame (suc m) method) ∷ history))
        (item_ended (gathering
        (reverse (map payload_in (sent role (life_on role (suc m) (Put (method_frame (suc m) method) ∷ history))
        (notes_on (suc m) history))))) (payload_of r))) said_is
        ∙ (ap (telling_at (suc m) (life_on role (suc m) (Put (method_frame (suc m) method) ∷ history)))
        (no-item Nothing (Calls method) e)
        ∙ ap (telling_at (suc m) (life_on role (suc m) history)) (sym (no-item Nothing (Calls method) e)))

-- The frames of a message, put together.

-- items with their channel and life
abbrev tellings : (channel life : ℕ) → List Item → List Telling
tellings channel life items = map (λ item. record { channel = channel; life = life; item = item }) items

-- what was sent in a life, with one frame more of it
sent-snoc : (role : Role) (m : ℕ) (frame : Frame) (history : History) (begins : Bool) → frame.channel ≡ suc m
    → kind_of (reading frame) ≡ Other begins
    → sent role (life_on role (suc m) history) (notes_on (suc m) (Put frame ∷ history))
    ≡ sent role (life_on role (suc m) history) (notes_on (suc m) history) ++ frame ∷ []
sent-snoc role m frame history begins here k =
    ap (λ entries. sent role (life_on role (suc m) history) (notes entries)) (seen-put frame history m here)
    ∙ (ap (λ kind. sent role (life_on role (suc m) history) (notes_of.Put kind frame ∷ notes_on (suc m) history)) k
    ∙ (messages-append (life_on role (suc m) history) (puts role (notes_on (suc m) history)) _
    ∙ ap (λ b. sent role (life_on role (suc m) history) (notes_on (suc m) history) ++ cond b (frame ∷ []) [])
    (eq-eqb (life_on role (suc m) history) (life_on role (suc m) history) refl)))

parts-said : (role : Role) (m : ℕ) (payloads : List Payload) (history : History) → AllSay m payloads
    → said role (then_put (map (payload_frame (suc m)) payloads) history) ≡ said role history ++ tellings (suc m)
    (life_on role (suc m) history)
    (ended_after
    (gathering (reverse (map payload_in (sent role (life_on role (suc m) history) (notes_on (suc m) history)))))
    payloads)
parts-said role m [] history all = sym (append-nil (said role history))
parts-said role m (payload ∷ later) history all =
    parts-said role m later (Put f ∷ history) all.1
    ∙ (ap (λ life. said role (Put f ∷ history) ++ tellings (suc m) life
    (ended_after (gathering (reverse (map payload_in (sent role life (notes_on (suc m) (Put f ∷ history)))))) later))
    same_life
    ∙ (ap (λ kept. said role (Put f ∷ history) ++ tellings (suc m) (life_on role (suc m) history)
    (ended_after kept later)) kept_is
    ∙ (ap (λ l. l ++ tellings (suc m) (life_on role (suc m) history)
    (ended_after (remains (step kept payload) payload) later)) first
    ∙ (append_assoc (said role history) _ _
    ∙ ap (λ l. said role history ++ l)
    (sym (map-append (λ item. record { channel = suc m; life = life_on role (suc m) history; item = item })
    (option_to_list (item_ended kept payload)) _))))))
  where
    f : Frame
    f = payload_frame (suc m) payload

    here : f.channel ≡ suc m
    here = frame-channel (suc m) payload

    message : is_message (kind_of (reading f)) ≡ true
    message = ap is_message all.0.1.1

    same_life : life_on role (suc m) (Put f ∷ history) ≡ life_on role (suc m) history
    same_life = life-put role m f history here message

    kept : Gathering
    kept = gathering (reverse (map payload_in (sent role (life_on role (suc m) history) (notes_on (suc m) history))))

    kept_is : gathering
        (reverse (map payload_in (sent role (life_on role (suc m) history) (notes_on (suc m) (Put f ∷ history)))))
        ≡ remains (step kept payload) payload
    kept_is =
        ap (λ l. gathering (reverse (map payload_in l))) (sent-snoc role m f history all.0.1.0 here all.0.1.1)
        ∙ (ap (λ l. gathering (reverse l))
        (map-append payload_in (sent role (life_on role (suc m) history) (notes_on (suc m) history)) (f ∷ []))
        ∙ (ap gathering
        (reverse-append (map payload_in (sent role (life_on role (suc m) history) (notes_on (suc m) history)))
        (payload_in f ∷ []))
        ∙ ap (λ p. remains (step kept p) p) all.0.0))

    first : said role (Put f ∷ history) ≡ said role history ++ tellings (suc m) (life_on role (suc m) history)
        (option_to_list (item_ended kept payload))
    first =
        said-here role m f history here
        ∙ (ap (λ life. said role history ++ ended_by (suc m) life (sent role life (notes_on (suc m) history)) f)
        same_life
        ∙ ap (λ p. said role history ++ tellings (suc m) (life_on role (suc m) history)
        (option_to_list (item_ended kept p))) all.0.0)

-- after whole messages nothing is under way
nothing-after : (kept : Gathering) (payloads : List Payload) → FitAfter kept payloads
    → kept_after kept payloads ≡ Nothing
nothing-after kept [] fit = fit
nothing-after kept (payload ∷ later) fit = nothing-after (remains (step kept payload) payload) later fit.1

none-under-way : (payloads : List Payload) → AreWholeMessages payloads → gathering (reverse payloads) ≡ Nothing
none-under-way payloads whole =
    sym (gathering-after payloads [] ∙ ap gathering (append-nil (reverse payloads)))
    ∙ nothing-after Nothing payloads whole

-- the item of a message's payloads
message-ends : (end : End) (c : ℕ) (message : Message) → is_made (Send c message) ≡ true
    → Accepted Role.Client end (Send c message) ⊎ Accepted Role.Server end (Send c message)
    → (class_of (method_of message).kind == 20) ≡ false
    → ended_after Nothing (message_payloads (frame_max end.agreed) message) ≡ item_of_message message ∷ []
message-ends end c (Plain method) made a class =
    append-nil _
    ∙ ap option_to_list
    (other-item method method.kind (bit_at 0 method) _ (sent-kind method.kind (bit_at 0 method) class)
    ∙ ap (λ b. cond b None (Some (PlainMethod method))) (not-true (carries_content method) made))
message-ends end c (Whole content) made a class =
    sym (items-are (cut (frame_max end.agreed) content))
    ∙ items-content [] (cut (frame_max end.agreed) content) content (let some = some-octets content.method in
    cut-content (frame_max end.agreed) content (omega (arith, short a)) made)
  where
    fits : {role : Role} → Accepted role end (Send c (Whole content))
        → length (plain_method content.method) + 8 ≤ frame_max end.agreed
    fits a =
        ltb-false (frame_max end.agreed) (length (plain_method content.method) + 8)
        (first-false (nat_lt (frame_max end.agreed) (length (plain_method content.method) + 8)) _
        (not-when _ Refusal.TooLarge a.short))

    short : Accepted Role.Client end (Send c (Whole content)) ⊎ Accepted Role.Server end (Send c (Whole content))
        → length (plain_method content.method) + 8 ≤ frame_max end.agreed
    short (inl a) = fits a
    short (inr a) = fits a

either-role : (role : Role) (end : End) (ask : Ask) → Accepted role end ask → Accepted Role.Client end ask
    ⊎ Accepted Role.Server end ask
either-role Role.Client end ask a = inl a
either-role Role.Server end ask a = inr a

-- each frame of a message says its payload
message-says : (m max : ℕ) (message : Message) → AskReadsBack (Send (suc m) message)
    → (class_of (method_of message).kind == 20) ≡ false → AllSay m (message_payloads max message)
message-says m max (Plain method) read class =
    let said_is = reads-back (suc m) method read.method in
    ((ap payload_of said_is, (_, ap kind_of said_is ∙ sent-kind method.kind (bit_at 0 method) class)), tt)
message-says m max (Whole content) read class = content-says m max content read.method read.header class

pub says-message : SaysMessage
says-message role config history zero message frames back lawful made read v =
    let parts = accepted-none (refusal role (end_of config history) (Send zero message))
    (frames_asked (end_of config history) (Send zero message)) frames v in
    let a = accepted role (end_of config history) (Send zero message) parts.0 in
    absurd (true≢false (not-when _ Refusal.BadChannel a.numbered))
says-message role config history (suc m) message frames back lawful made read v =
    ap (λ frames. said role (then_put frames history)) (sym parts.1)
    ∙ (parts-said role m (message_payloads (frame_max (end_of config history).agreed) message) history
    (message-says m (frame_max (end_of config history).agreed) message read class)
    ∙ (ap (λ kept. said role history ++ tellings (suc m) (life_on role (suc m) history)
    (ended_after kept (message_payloads (frame_max (end_of config history).agreed) message)))
    (none-under-way (map payload_in (sent role (life_on role (suc m) history) (notes_on (suc m) history)))
    (puts-whole-messages role config false history m (life_on role (suc m) history) back lawful))
    ∙ ap (λ items. said role history ++ tellings (suc m) (life_on role (suc m) history) items)
    (message-ends (end_of config history) (suc m) message made
    (either-role role (end_of config history) (Send (suc m) message) taken) class)))
  where
    parts : (refusal role (end_of config history) (Send (suc m) message) ≡ None)
        × (frames_asked (end_of config history) (Send (suc m) message) ≡ frames)
    parts =
        accepted-none (refusal role (end_of config history) (Send (suc m) message))
        (frames_asked (end_of config history) (Send (suc m) message)) frames v

    taken : Accepted role (end_of config history) (Send (suc m) message)
    taken = accepted role (end_of config history) (Send (suc m) message) parts.0

    class : (class_of (method_of message).kind == 20) ≡ false
    class = message-class role (suc m) message taken.sendable

-- The other asks put one method, or none.

-- a method that ends no item adds nothing
quiet-says : (role : Role) (channel : ℕ) (method : Method) (history : History) → ReadsBack method
    → item_of method (sort_of method) ≡ None
    → said role (Put (method_frame channel method) ∷ history) ≡ said role history ++ []
quiet-says role zero method history back none = refl
quiet-says role (suc m) method history back none =
    says-method role (suc m) method history back
    ∙ ap (λ item. said role history ++ telling_at (suc m) (life_on role (suc m) history) item) none

open-says : (role : Role) (history : History) (free : Option ℕ) → ReadsBack (without_arguments kinds.ChannelOpen)
    → said role (then_put (opens_on free) history) ≡ said role history ++ []
open-says role history None back = sym (append-nil (said role history))
open-says role history (Some k) back = quiet-says role k (without_arguments kinds.ChannelOpen) history back refl

-- what was put is what the ask puts
as-asked : (role : Role) (end : End) (history : History) (ask : Ask) (frames : List Frame) (all : List Telling)
    → ask_verdict role end ask ≡ Puts frames → said role (then_put (frames_asked end ask) history) ≡ all
    → said role (then_put frames history) ≡ all
as-asked role end history ask frames all v e =
    let parts = accepted-none (refusal role end ask) (frames_asked end ask) frames v in
    ap (λ frames. said role (then_put frames history)) (sym parts.1) ∙ e

pub says-ask : (role : Role) (config : Config role) (history : History) (ask : Ask) (frames : List Frame)
    → SaysAsk role config history ask frames
says-ask role config history (Send channel message) frames back lawful made read v =
    says-message role config history channel message frames back lawful made read v
says-ask role config history (Ask.Flow zero active) frames back lawful made read v =
    let parts = accepted-none (refusal role (end_of config history) (Ask.Flow zero active))
    (frames_asked (end_of config history) (Ask.Flow zero active)) frames v in
    let a = accepted role (end_of config history) (Ask.Flow zero active) parts.0 in
    absurd (true≢false (not-when _ Refusal.BadChannel a.numbered))
says-ask role config history (Ask.Flow (suc m) active) frames back lawful made read v =
    as-asked role (end_of config history) history (Ask.Flow (suc m) active) frames _ v
    (says-method role (suc m) (flow_as kinds.ChannelFlow active) history read.method)
says-ask role config history Ask.Open frames back lawful made read v =
    as-asked role (end_of config history) history Ask.Open frames _ v (open-says role history _ read.method)
says-ask role config history (Ask.CloseChannel channel code text cause) frames back lawful made read v =
    as-asked role (end_of config history) history (Ask.CloseChannel channel code text cause) frames _ v
    (quiet-says role channel _ history read.method refl)
says-ask role config history (Ask.Close code text cause) frames back lawful made read v =
    as-asked role (end_of config history) history (Ask.Close code text cause) frames _ v refl
says-ask role config history (Ask.Blocked reason) frames back lawful made read v =
    as-asked role (end_of config history) history (Ask.Blocked reason) frames _ v refl
says-ask role config history Ask.Unblocked frames back lawful made read v =
    as-asked role (end_of config history) history Ask.Unblocked frames _ v refl
