-- What an end puts on a channel in a life is whole messages.
use Rattle.std.proofs.Common.{◌≡◌, ◌<◌, ◌≤◌, Bool, true, false, cond, ◌&&◌, ℕ, suc, ◌+◌}
use Rattle.std.proofs.Common.{◌==◌, nat_lt, arith, List, [], ◌∷◌, ◌++◌, map, length, reverse, Option}
use Rattle.std.proofs.Common.{Some, None, refl, sym, ap, ◌∙◌, subst, append-nil, append_assoc, length-append}
use Rattle.std.specs.List.{concat}
use Rattle.std.proofs.lemmas.Bool.{true≢false, eqb-true, eq-eqb, ne_eqb, not-true, ltb-false, lt-ltb, cond-true}
use Rattle.std.proofs.lemmas.Bool.{cond-false}
use Rattle.std.proofs.lemmas.List.{map-append, reverse-append}
use Rattle.amqp_method.specs.declared.kinds.Kind.TheVariants as kinds
use Rattle.amqp_model.specs.Wire.Frame.{Frame}
use Rattle.amqp_model.specs.Wire.Notes.{Role, Server, Kind, Other, Note, is_message}
use Rattle.amqp_model.specs.History.Lives.{lives}
use Rattle.amqp_model.specs.Pair.Carried.{puts, sent}
use Rattle.amqp_model.specs.Wire.Methods.{Method, Properties, ReadsBack, carries_content, bit_at, header_at}
use Rattle.amqp_model.specs.Wire.Methods.{plain_method, plain_header, class_of}
use Rattle.amqp_model.specs.Wire.Contents.{Payload, Content, EndsFull, IsContent, cut, pieces, room_in}
use Rattle.amqp_model.specs.Wire.Gathering.{Gathering, Nothing, HeaderDue, BodyDue, Keeps, Completes}
use Rattle.amqp_model.specs.Wire.Gathering.{gathered, step, remains, gathering}
use Rattle.amqp_model.specs.Wire.Readings.{Reading, HeaderOf, reading, header_reading, kind_of, payload_of}
use Rattle.amqp_model.specs.History.Histories.{Put, Took, History, TookHere, closes_connection, entries_on, notes}
use Rattle.amqp_model.specs.End.Closes.{close_as, FrameError, Owed, AllReadBack, method_frame, frame_of}
use Rattle.amqp_model.specs.End.Channels.{Phase, Handshake, Running, Closed, Failed, End}
use Rattle.amqp_model.specs.History.Negotiation.{Config, Hello, OfServer}
use Rattle.amqp_model.specs.History.Negotiation as negotiation
use Rattle.amqp_model.specs.End.StateFromHistory.{end_from}
use Rattle.amqp_model.specs.End.Events.{Plain, Whole, FrameVerdict, Proceeds, RefusesContent, Faults, Fault, Peer}
use Rattle.amqp_model.specs.End.FrameVerdict.{Facts, verdict_on, methods_put}
use Rattle.amqp_model.specs.End.Asks.{Ask, Refusal, is_made, frame_max, lowest_free, opens_on, method_asked}
use Rattle.amqp_model.specs.End.Asks.{payload_frame, refusal, frames_asked}
use Rattle.amqp_model.specs.End.EndVerdict.{facts_at, end_verdict, goes_on}
use Rattle.amqp_model.specs.End.ReadingBack.{header_of, AskReadsBack, WritesReadBack}
use Rattle.amqp_model.specs.End.LawfulHistories.{then_put, Goes, greets, takes, faults, meets_too_large, fails, asks}
use Rattle.amqp_model.specs.End.LawfulHistories.{controls, Lawful, begun, goes}
use Rattle.amqp_model.specs.Laws.EndLaws.{notes_on}
use Rattle.amqp_model.specs.Pair.Sent.{payload_in}
use Rattle.amqp_model.specs.Wire.Gathering as contents
use Rattle.amqp_model.specs.Pair.WholeMessages.{FitsNext, FitAfter, AreWholeMessages, EachFitsNext, PutsWholeMessages}
use Rattle.amqp_model.proofs.Lists.{messages-append}
use Rattle.amqp_model.proofs.Acting.{seen-put, reads-back}
use Rattle.amqp_model.proofs.Asking.{Accepted, accepted, accepted-none, not-when, first-false, frame-channel, sent-kind}
use Rattle.amqp_model.proofs.Asking.{message-class}
use Rattle.amqp_model.proofs.CutLemmas.{cut-content}
use Rattle.amqp_model.proofs.Controlling.{OneAtZero, one, at_beat, at_method, at_close, beat-away, puts-at-zero}
use Rattle.amqp_model.proofs.Elsewhere.{Each, each-owed}

-- whole messages after whole messages
whole-append : (kept : Gathering) (xs ys : List Payload) → FitAfter kept xs → AreWholeMessages ys
    → FitAfter kept (xs ++ ys)
whole-append kept [] ys a b = subst (λ k. FitAfter k ys) (sym a) b
whole-append kept (x ∷ xs) ys a b = (a.0, whole-append (remains (step kept x) x) xs ys a.1 b)

-- what is kept after payloads in their order
abbrev pub kept_after : Gathering → List Payload → Gathering
kept_after kept [] = kept
kept_after kept (payload ∷ later) = kept_after (remains (step kept payload) payload) later

kept-snoc : (kept : Gathering) (xs : List Payload) (p : Payload)
    → kept_after kept (xs ++ p ∷ []) ≡ remains (step (kept_after kept xs) p) p
kept-snoc kept [] p = refl
kept-snoc kept (x ∷ xs) p = kept-snoc (remains (step kept x) x) xs p

-- a method without content is a message by itself
whole-method : (method : Method) → carries_content method ≡ false → AreWholeMessages (Payload.Calls method ∷ [])
whole-method method plain = (tt, cond-false (carries_content method) (HeaderDue method) Nothing plain)

-- the parts of a body, where so much of it is there
full-some : (part : List ℕ) (parts : List (List ℕ)) → EndsFull (part ∷ parts)
    → 0 < length (concat (part ∷ parts))
full-some [] [] full = absurd (full refl)
full-some (octet ∷ part) [] full = omega arith
full-some part (next ∷ parts) full =
    let more = full-some next parts full in
    let l = length-append part (concat (next ∷ parts)) in
    omega arith

parts-fit : (method : Method) (size : ℕ) (properties : Properties) (body : List ℕ) (part : List ℕ)
    (parts : List (List ℕ)) → EndsFull (part ∷ parts) → length body + length (concat (part ∷ parts)) ≡ size
    → FitAfter (BodyDue method size properties body) (map Payload.Body (part ∷ parts))
parts-fit method size properties body part [] full e = last
  where
    here : (length (body ++ part) == size) ≡ true
    here =
        eq-eqb (length (body ++ part)) size (let l = length-append body part in
        let m = length-append part [] in omega (arith, e))

    whole : gathered method size properties (body ++ part)
        ≡ Completes (record { method = method; properties = properties; body = body ++ part })
    whole = cond-true (length (body ++ part) == size) _ _ here

    last : FitsNext (gathered method size properties (body ++ part))
        × (remains (gathered method size properties (body ++ part)) (Payload.Body part) ≡ Nothing)
    last = subst (λ s. FitsNext s × (remains s (Payload.Body part) ≡ Nothing)) (sym whole) (tt, refl)
parts-fit method size properties body part (next ∷ parts) full e =
    subst (λ s. FitsNext s × FitAfter (remains s (Payload.Body part)) (map Payload.Body (next ∷ parts))) (sym keeps)
    (tt, parts-fit method size properties (body ++ part) next parts full rest)
  where
    rest : length (body ++ part) + length (concat (next ∷ parts)) ≡ size
    rest = let l = length-append body part in let m = length-append part (concat (next ∷ parts)) in omega (arith, e)

    less : length (body ++ part) < size
    less = let some = full-some next parts full in omega (arith, rest)

    keeps : gathered method size properties (body ++ part) ≡ Keeps (BodyDue method size properties (body ++ part))
    keeps =
        cond-false (length (body ++ part) == size) _ _
        (ne_eqb (length (body ++ part)) size (λ same. absurd (omega (arith, same, less))))
        ∙ cond-true (nat_lt (length (body ++ part)) size) _ _ (lt-ltb (length (body ++ part)) size less)

-- a content that is one
whole-content : (content : Content) (parts : List (List ℕ)) → carries_content content.method ≡ true
    → EndsFull parts → concat parts ≡ content.body
    → AreWholeMessages (Payload.Calls content.method ∷ Payload.Header (length content.body) content.properties
    ∷ map Payload.Body parts)
whole-content content parts carries full joined = (
  tt,
  subst (λ k. FitAfter k (Payload.Header (length content.body) content.properties ∷ map Payload.Body parts))
      (sym due) (by-parts parts full joined),
)
  where
    due : contents.begun content.method ≡ HeaderDue content.method
    due = cond-true (carries_content content.method) _ _ carries

    by-parts : (parts : List (List ℕ)) → EndsFull parts → concat parts ≡ content.body
        → FitAfter (HeaderDue content.method) (Payload.Header (length content.body) content.properties
        ∷ map Payload.Body parts)
    by-parts [] full joined =
        let none : (0 == length content.body) ≡ true = eq-eqb 0 (length content.body) (ap length joined) in
        let whole : gathered content.method (length content.body) content.properties []
        ≡ Completes (record { method = content.method; properties = content.properties; body = [] }) =
        cond-true (0 == length content.body) _ _ none in
        subst (λ s. FitsNext s × (remains s (Payload.Header (length content.body) content.properties) ≡ Nothing))
        (sym whole) (tt, refl)
    by-parts (part ∷ parts) full joined =
        let some : 0 < length content.body = subst (λ l. 0 < length l) joined (full-some part parts full) in
        let keeps : gathered content.method (length content.body) content.properties []
        ≡ Keeps (BodyDue content.method (length content.body) content.properties []) =
        cond-false (0 == length content.body) _ _
        (ne_eqb 0 (length content.body) (λ same. absurd (omega (arith, same, some))))
        ∙ cond-true (nat_lt 0 (length content.body)) _ _ (lt-ltb 0 (length content.body) some) in
        subst (λ s. FitsNext s × FitAfter (remains s (Payload.Header (length content.body) content.properties))
        (map Payload.Body (part ∷ parts))) (sym keeps) (
          tt,
          parts-fit content.method (length content.body) content.properties [] part parts full
              (let j = ap length joined in omega (arith, j)),
        )

pub whole-is : (content : Content) (payloads : List Payload) → IsContent content payloads
    → AreWholeMessages payloads
whole-is content payloads is =
    subst AreWholeMessages (sym is.payloads_are) (whole-content content is.parts is.carries is.ends_full is.joined)

-- what fits after what is kept fits after what was taken
pub gathering-after : (prefix taken : List Payload) → kept_after (gathering taken) prefix
    ≡ gathering (reverse prefix ++ taken)
gathering-after [] taken = refl
gathering-after (p ∷ prefix) taken =
    gathering-after prefix (p ∷ taken) ∙ ap gathering (sym (append_assoc (reverse prefix) (p ∷ []) taken)
    ∙ ap (λ l. l ++ taken) (sym (reverse-append (p ∷ []) prefix)))

fits-at : (kept : Gathering) (prefix : List Payload) (payload : Payload) (later : List Payload)
    → FitAfter kept (prefix ++ payload ∷ later) → FitsNext (step (kept_after kept prefix) payload)
fits-at kept [] payload later fit = fit.0
fits-at kept (p ∷ prefix) payload later fit = fits-at (remains (step kept p) p) prefix payload later fit.1

pub each-fits-next : EachFitsNext
each-fits-next prefix payload later whole =
    subst (λ k. FitsNext (step k payload)) (gathering-after prefix [] ∙ ap gathering (append-nil (reverse prefix)))
    (fits-at Nothing prefix payload later whole)

-- a method has octets
pub some-octets : (method : Method) → 4 ≤ length (plain_method method)
unfolding plain_method
some-octets method = omega arith

-- What a put adds to what was sent in a life.

-- what one more frame of this channel adds
abbrev added : Kind → (at_life life : ℕ) → Frame → List Frame
added kind at_life life frame = cond (is_message kind && (at_life == life)) (frame ∷ []) []

sent-more : (role : Role) (life n : ℕ) (frame : Frame) (history : History) → frame.channel ≡ suc n
    → sent role life (notes_on (suc n) (Put frame ∷ history)) ≡ sent role life (notes_on (suc n) history)
    ++ added (kind_of (reading frame))
    (lives role (Note.Put (kind_of (reading frame)) frame ∷ notes_on (suc n) history)) life frame
sent-more role life n frame history here =
    ap (λ l. sent role life (notes l)) (seen-put frame history n here)
    ∙ messages-append life (puts role (notes_on (suc n) history)) _

-- a frame of another channel adds nothing
sent-away : (role : Role) (life n : ℕ) (frame : Frame) (history : History) → (frame.channel == suc n) ≡ false
    → sent role life (notes_on (suc n) (Put frame ∷ history)) ≡ sent role life (notes_on (suc n) history)
sent-away role life n frame history apart = cases (closes_connection frame) refl
  where
    cases : (b : Bool) → closes_connection frame ≡ b → sent role life (notes_on (suc n) (Put frame ∷ history))
        ≡ sent role life (notes_on (suc n) history)
    cases true c =
        ap (λ l. sent role life (notes (l ++ entries_on (suc n) history)))
        (cond-false (frame.channel == suc n) _ _ apart ∙ cond-true (closes_connection frame) _ _ c)
    cases false c =
        ap (λ l. sent role life (notes (l ++ entries_on (suc n) history)))
        (cond-false (frame.channel == suc n) _ _ apart ∙ cond-false (closes_connection frame) _ _ c)

sent-took : (role : Role) (life n : ℕ) (frame : Frame) (history : History)
    → sent role life (notes_on (suc n) (Took frame ∷ history)) ≡ sent role life (notes_on (suc n) history)
sent-took role life n frame history = cases (frame.channel == suc n)
  where
    cases : (b : Bool)
        → sent role life (notes (cond b (TookHere (reading frame) frame ∷ []) [] ++ entries_on (suc n) history))
        ≡ sent role life (notes_on (suc n) history)
    cases true = refl
    cases false = refl

-- whole messages were sent in each life of the channel
abbrev SentWhole : Role → (n : ℕ) → History → Type 0
SentWhole role n history =
    (life : ℕ) → AreWholeMessages (map payload_in (sent role life (notes_on (suc n) history)))

took-whole : (role : Role) (n : ℕ) (frame : Frame) (history : History) → SentWhole role n history
    → SentWhole role n (Took frame ∷ history)
took-whole role n frame history whole life =
    subst (λ l. AreWholeMessages (map payload_in l)) (sym (sent-took role life n frame history)) (whole life)

away-whole : (role : Role) (n : ℕ) (frame : Frame) (history : History) → (frame.channel == suc n) ≡ false
    → SentWhole role n history → SentWhole role n (Put frame ∷ history)
away-whole role n frame history apart whole life =
    subst (λ l. AreWholeMessages (map payload_in l)) (sym (sent-away role life n frame history apart)) (whole life)

-- one method without content
method-whole : (role : Role) (n c : ℕ) (method : Method) (history : History) → ReadsBack method
    → carries_content method ≡ false → SentWhole role n history
    → SentWhole role n (Put (method_frame c method) ∷ history)
method-whole role n c method history back plain whole = cases (c == suc n) refl
  where
    said : payload_in (method_frame c method) ≡ Payload.Calls method
    said = ap payload_of (reads-back c method back)

    here : c ≡ suc n → SentWhole role n (Put (method_frame c method) ∷ history)
    here e life =
        subst (λ l. AreWholeMessages (map payload_in l))
        (sym (sent-more role life n (method_frame c method) history e))
        (subst AreWholeMessages (sym (map-append payload_in (sent role life (notes_on (suc n) history)) _))
        (whole-append Nothing _ _ (whole life)
        (one (is_message (kind_of (reading (method_frame c method)))
        && (lives role (Note.Put (kind_of (reading (method_frame c method))) (method_frame c method)
        ∷ notes_on (suc n) history) == life)))))
      where
        one : (b : Bool) → AreWholeMessages (map payload_in (cond b (method_frame c method ∷ []) []))
        one true = subst (λ p. AreWholeMessages (p ∷ [])) (sym said) (whole-method method plain)
        one false = refl

    cases : (b : Bool) → (c == suc n) ≡ b → SentWhole role n (Put (method_frame c method) ∷ history)
    cases true e = here (eqb-true c (suc n) e)
    cases false e = away-whole role n (method_frame c method) history e whole

owed-whole : (role : Role) (n : ℕ) (owed : List Owed) (history : History) → AllReadBack owed
    → Each (λ owed. carries_content owed.method ≡ false) owed → SentWhole role n history
    → SentWhole role n (then_put (map frame_of owed) history)
owed-whole role n [] history back plain whole = whole
owed-whole role n (owed ∷ later) history back plain whole =
    owed-whole role n later (Put (frame_of owed) ∷ history) back.1 plain.1
    (method-whole role n owed.channel owed.method history back.0 plain.0 whole)

-- The frames of a content, put together.

parts-away-whole : (role : Role) (n c : ℕ) (payloads : List Payload) (history : History) → (c == suc n) ≡ false
    → SentWhole role n history → SentWhole role n (then_put (map (payload_frame c) payloads) history)
parts-away-whole role n c [] history apart whole = whole
parts-away-whole role n c (payload ∷ later) history apart whole =
    parts-away-whole role n c later (Put (payload_frame c payload) ∷ history) apart
    (away-whole role n (payload_frame c payload) history
    (ap (λ c. c == suc n) (frame-channel c payload) ∙ apart) whole)

-- each says its payload, and is a message that opens nothing
abbrev pub SaysPart : (n : ℕ) → Payload → Type 0
SaysPart n payload =
    (payload_in (payload_frame (suc n) payload) ≡ payload)
    × ((begins : Bool) × (kind_of (reading (payload_frame (suc n) payload)) ≡ Other begins))

abbrev pub AllSay : (n : ℕ) → List Payload → Type 0
AllSay n [] = Unit {0}
AllSay n (payload ∷ later) = SaysPart n payload × AllSay n later

-- they are sent in the life that the channel has
abbrev in_life : (at_life life : ℕ) → List Payload → List Payload
in_life at_life life payloads = cond (at_life == life) payloads []

parts-sent : (role : Role) (n life : ℕ) (payloads : List Payload) (history : History) → AllSay n payloads
    → map payload_in (sent role life (notes_on (suc n) (then_put (map (payload_frame (suc n)) payloads) history)))
    ≡ map payload_in (sent role life (notes_on (suc n) history))
    ++ in_life (lives role (notes_on (suc n) history)) life payloads
parts-sent role n life [] history all =
    sym (append-nil _) ∙ ap (λ l. map payload_in (sent role life (notes_on (suc n) history)) ++ l)
    (sym (none (lives role (notes_on (suc n) history) == life)))
  where
    none : (b : Bool) → cond {A = List Payload} b [] [] ≡ []
    none true = refl
    none false = refl
parts-sent role n life (payload ∷ later) history all =
    parts-sent role n life later (Put f ∷ history) all.1
    ∙ (ap (λ l. map payload_in (sent role life (notes_on (suc n) (Put f ∷ history)))
    ++ in_life l life later) same_life
    ∙ (ap (λ l. map payload_in l ++ in_life (lives role (notes_on (suc n) history)) life later)
    (sent-more role life n f history here)
    ∙ (ap (λ l. l ++ in_life (lives role (notes_on (suc n) history)) life later)
    (map-append payload_in (sent role life (notes_on (suc n) history)) _)
    ∙ (append_assoc (map payload_in (sent role life (notes_on (suc n) history))) _ _
    ∙ ap (λ l. map payload_in (sent role life (notes_on (suc n) history)) ++ l) (joined all.0.1.0 all.0.1.1)))))
  where
    f : Frame
    f = payload_frame (suc n) payload

    here : f.channel ≡ suc n
    here = frame-channel (suc n) payload

    seen : notes_on (suc n) (Put f ∷ history) ≡ Note.Put (kind_of (reading f)) f ∷ notes_on (suc n) history
    seen = ap notes (seen-put f history n here)

    other-life : (begins : Bool) → kind_of (reading f) ≡ Other begins
        → lives role (Note.Put (kind_of (reading f)) f ∷ notes_on (suc n) history)
        ≡ lives role (notes_on (suc n) history)
    other-life begins k = ap (λ k. lives role (Note.Put k f ∷ notes_on (suc n) history)) k

    same_life : lives role (notes_on (suc n) (Put f ∷ history)) ≡ lives role (notes_on (suc n) history)
    same_life = ap (lives role) seen ∙ other-life all.0.1.0 all.0.1.1

    joined : (begins : Bool) → kind_of (reading f) ≡ Other begins
        → map payload_in
        (added (kind_of (reading f)) (lives role (Note.Put (kind_of (reading f)) f ∷ notes_on (suc n) history)) life
        f) ++ in_life (lives role (notes_on (suc n) history)) life later
        ≡ in_life (lives role (notes_on (suc n) history)) life (payload ∷ later)
    joined begins k =
        ap (λ b. map payload_in (cond b (f ∷ []) []) ++ in_life (lives role (notes_on (suc n) history)) life later)
        (ap (λ k. is_message k && (lives role (Note.Put (kind_of (reading f)) f ∷ notes_on (suc n) history) == life))
        k ∙ ap (λ l. l == life) (other-life begins k))
        ∙ by-life (lives role (notes_on (suc n) history) == life)
      where
        by-life : (b : Bool) → map payload_in (cond b (f ∷ []) []) ++ cond b later []
            ≡ cond b (payload ∷ later) []
        by-life true = ap (λ p. p ∷ later) all.0.0
        by-life false = refl

parts-whole : (role : Role) (n : ℕ) (payloads : List Payload) (history : History) → AllSay n payloads
    → AreWholeMessages payloads → SentWhole role n history
    → SentWhole role n (then_put (map (payload_frame (suc n)) payloads) history)
parts-whole role n payloads history all whole sent_whole life =
    subst AreWholeMessages (sym (parts-sent role n life payloads history all))
    (whole-append Nothing _ _ (sent_whole life) (by-life (lives role (notes_on (suc n) history) == life)))
  where
    by-life : (b : Bool) → AreWholeMessages (cond b payloads [])
    by-life true = whole
    by-life false = refl

-- Any steps.

-- what verdicts owe carries no content
owed-plain : {role : Role} (facts : Facts role) (r : Reading) → goes_on (verdict_on facts r) ≡ true
    → Each (λ owed. carries_content owed.method ≡ false) (methods_put facts (verdict_on facts r))
owed-plain facts r g =
    each-owed facts (λ owed. carries_content owed.method ≡ false) (λ method mild. mild.2) (λ method mild. mild.2)
    r (λ zero closes. refl) g

-- so do the closes at a fault
fault-plain : {role : Role} (facts : Facts role) (v : FrameVerdict) → goes_on v ≡ false
    → Each (λ owed. carries_content owed.method ≡ false) (methods_put facts v)
fault-plain facts (Proceeds event owed) g = absurd (true≢false g)
fault-plain facts RefusesContent g = absurd (true≢false g)
fault-plain facts (Faults (Peer code)) g = by-phase facts.phase refl
  where
    by-phase : (phase : Phase) → facts.phase ≡ phase
        → Each (λ owed. carries_content owed.method ≡ false) (methods_put facts (Faults (Peer code)))
    by-phase Phase.Closing p = simp p tt
    by-phase Running p = simp p (refl, tt)
    by-phase (Handshake step) p = simp p (refl, tt)
    by-phase Closed p = simp p (refl, tt)
    by-phase Failed p = simp p (refl, tt)
fault-plain facts (Faults Fault.Fatal) g = tt
fault-plain facts (Faults Fault.WrongProtocolHeader) g = tt
fault-plain facts (Faults Fault.AlreadyClosed) g = tt
fault-plain facts (Faults Fault.AlreadyFailed) g = tt

-- the frames of a content that an ask puts
bodies-say : (n : ℕ) (parts : List (List ℕ)) → AllSay n (map Payload.Body parts)
bodies-say n [] = tt
bodies-say n (part ∷ parts) = ((refl, (false, refl)), bodies-say n parts)

pub content-says : (n max : ℕ) (content : Content) → ReadsBack content.method
    → header_at (plain_header (header_of content)) ≡ Some (header_of content)
    → (class_of content.method.kind == 20) ≡ false → AllSay n (cut max content)
content-says n max content back header class =
    let said = reads-back (suc n) content.method back in
    let read : reading (payload_frame (suc n) (Payload.Header (length content.body) content.properties))
    ≡ HeaderOf (length content.body) content.properties = ap header_reading header in (
      (ap payload_of said, (_, ap kind_of said ∙ sent-kind content.method.kind (bit_at 0 content.method) class)),
      ((ap payload_of read, (false, ap kind_of read)), bodies-say n (pieces (room_in max) content.body)),
    )

asked-whole : (role : Role) (end : End) (n : ℕ) (history : History) (ask : Ask) → AskReadsBack ask
    → is_made ask ≡ true → Accepted role end ask → SentWhole role n history
    → SentWhole role n (then_put (frames_asked end ask) history)
asked-whole role end n history Ask.Open read made a whole = by-free (lowest_free end)
  where
    by-free : (free : Option ℕ) → SentWhole role n (then_put (opens_on free) history)
    by-free None = whole
    by-free (Some c) = method-whole role n c (method_asked Ask.Open) history read.method refl whole
asked-whole role end n history (Ask.Send c (Plain method)) read made a whole =
    method-whole role n c method history read.method (not-true (carries_content method) made) whole
asked-whole role end n history (Ask.Send c (Whole content)) read made a whole = cases (c == suc n) refl
  where
    short : length (plain_method content.method) + 8 ≤ frame_max end.agreed
    short =
        ltb-false (frame_max end.agreed) (length (plain_method content.method) + 8)
        (first-false (nat_lt (frame_max end.agreed) (length (plain_method content.method) + 8)) _
        (not-when _ Refusal.TooLarge a.short))

    one : AreWholeMessages (cut (frame_max end.agreed) content)
    one =
        let some = some-octets content.method in
        whole-is content (cut (frame_max end.agreed) content)
        (cut-content (frame_max end.agreed) content (omega (arith, short)) made)

    here : c ≡ suc n
        → SentWhole role n (then_put (map (payload_frame c) (cut (frame_max end.agreed) content)) history)
    here e =
        subst (λ c. SentWhole role n (then_put (map (payload_frame c) (cut (frame_max end.agreed) content)) history))
        (sym e) (parts-whole role n (cut (frame_max end.agreed) content) history
        (content-says n (frame_max end.agreed) content read.method read.header
        (message-class role c (Whole content) a.sendable)) one whole)

    cases : (b : Bool) → (c == suc n) ≡ b
        → SentWhole role n (then_put (map (payload_frame c) (cut (frame_max end.agreed) content)) history)
    cases true e = here (eqb-true c (suc n) e)
    cases false e = parts-away-whole role n c (cut (frame_max end.agreed) content) history e whole
asked-whole role end n history (Ask.Flow c active) read made a whole =
    method-whole role n c (method_asked (Ask.Flow c active)) history read.method refl whole
asked-whole role end n history (Ask.CloseChannel c code text cause) read made a whole =
    method-whole role n c (method_asked (Ask.CloseChannel c code text cause)) history read.method refl whole
asked-whole role end n history (Ask.Close code text cause) read made a whole =
    method-whole role n 0 (method_asked (Ask.Close code text cause)) history read.method refl whole
asked-whole role end n history (Ask.Blocked reason) read made a whole =
    method-whole role n 0 (method_asked (Ask.Blocked reason)) history read.method refl whole
asked-whole role end n history Ask.Unblocked read made a whole =
    method-whole role n 0 (method_asked Ask.Unblocked) history read.method refl whole

control-whole : (role : Role) (n : ℕ) (history : History) (frames : List Frame) → OneAtZero frames
    → SentWhole role n history → SentWhole role n (then_put frames history)
control-whole role n history frames (one frame at_beat) whole =
    λ life. subst (λ l. AreWholeMessages (map payload_in (sent role life (notes l))))
    (sym (beat-away n history)) (whole life)
control-whole role n history frames (one frame (at_method method back a b c plain)) whole =
    method-whole role n 0 method history back plain whole
control-whole role n history frames (one frame (at_close code text back fits)) whole =
    method-whole role n 0 (close_as kinds.ConnectionClose code text) history back refl whole

start-plain : (config : Config Server) → carries_content (negotiation.start config) ≡ false
start-plain config = go config.hello
  where
    go : (hello : Hello Server) → carries_content (negotiation.start (record config { hello = hello })) ≡ false
    go (OfServer properties mechanisms locales) = refl

none-sent : (role : Role) (n : ℕ) → SentWhole role n []
none-sent role n life = refl

goes-whole : (role : Role) (config : Config role) (n : ℕ) (before : History) (taken : Option Frame) (failed : Bool)
    (after : History) → WritesReadBack role config → SentWhole role n before
    → Goes role config before taken failed after → SentWhole role n after
goes-whole role config n before taken failed after back whole greets =
    method-whole Server n 0 (negotiation.start config) [] back.greeting (start-plain config) (none-sent Server n)
goes-whole role config n before taken failed after back whole (takes frame p g) =
    owed-whole role n _ (Took frame ∷ before) (back.owed (end_from role config false before) frame.channel
    (reading frame)) (owed-plain (facts_at config (end_from role config false before) frame.channel) (reading frame) g)
    (took-whole role n frame before whole)
goes-whole role config n before taken failed after back whole (faults frame p g) =
    owed-whole role n _ (Took frame ∷ before) (back.owed (end_from role config false before) frame.channel
    (reading frame)) (fault-plain (facts_at config (end_from role config false before) frame.channel)
    (end_verdict config (end_from role config false before) frame) g) (took-whole role n frame before whole)
goes-whole role config n before taken failed after back whole (meets_too_large p) =
    owed-whole role n _ before (back.too_large (end_from role config false before))
    (fault-plain (facts_at config (end_from role config false before) 0) (Faults (Peer FrameError)) refl) whole
goes-whole role config n before taken failed after back whole (fails p) = whole
goes-whole role config n before taken failed after back whole (asks ask frames made read e) =
    let parts = accepted-none (refusal role (end_from role config false before) ask)
    (frames_asked (end_from role config false before) ask) frames e in
    subst (λ frames. SentWhole role n (then_put frames before)) parts.1
    (asked-whole role (end_from role config false before) n before ask read made
    (accepted role (end_from role config false before) ask parts.0) whole)
goes-whole role config n before taken failed after back whole (controls control frames read e) =
    control-whole role n before frames
    (puts-at-zero role config (end_from role config false before) control frames back read e) whole

lawful-whole : (role : Role) (config : Config role) (failed : Bool) (history : History) (n : ℕ)
    → WritesReadBack role config → Lawful role config failed history → SentWhole role n history
lawful-whole role config failed history n back begun = none-sent role n
lawful-whole role config failed history n back (goes {before = before} {taken = taken} lawful step) =
    goes-whole role config n before taken failed history back (lawful-whole role config false before n back lawful) step

pub puts-whole-messages : PutsWholeMessages
puts-whole-messages role config failed history n life back lawful =
    lawful-whole role config failed history n back lawful life
