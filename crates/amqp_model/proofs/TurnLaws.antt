-- The laws of requests and replies, from those of each channel's entries.
use Rattle.std.proofs.Common.{◌≡◌, Bool, true, false, cond, not, ◌&&◌, ℕ, suc, List, [], ◌∷◌}
use Rattle.std.proofs.Common.{◌++◌, map, reverse, drop, length, refl, sym, ap, ◌∙◌, subst, append-nil}
use Rattle.std.proofs.Common.{append_assoc}
use Rattle.std.specs.Option.{option_to_list}
use Rattle.std.proofs.lemmas.Bool.{true≢false}
use Rattle.std.proofs.lemmas.List.{reverse-append}
use Rattle.amqp_model.specs.Wire.Frame.{Frame}
use Rattle.amqp_model.specs.Wire.Notes.{Role, Client, Server}
use Rattle.amqp_model.specs.History.Lives.{lives}
use Rattle.amqp_model.specs.Pair.Carried.{sent}
use Rattle.amqp_model.specs.Wire.Methods.{MethodKind, Method, Properties, carries_content, sort_by, bit_at, is_reply}
use Rattle.amqp_model.specs.Wire.Contents.{Payload}
use Rattle.amqp_model.specs.Wire.Gathering.{Gathering, Nothing, HeaderDue, BodyDue, Keeps, Completes, Breaks, Misfit}
use Rattle.amqp_model.specs.Wire.Gathering.{step, remains, gathering}
use Rattle.amqp_model.specs.Wire.Items.{Item, item_of, completed, item_ended, items_taken, items}
use Rattle.amqp_model.specs.Wire.Readings.{Reading, Calls, UnknownMethod, MalformedMethod, HeaderOf, MalformedHeader}
use Rattle.amqp_model.specs.Wire.Readings.{BodyOf, Beat, reading, payload_of}
use Rattle.amqp_model.specs.History.Histories.{History, entries_on, notes, entries_before_leaving}
use Rattle.amqp_model.specs.End.Channels.{Life, Open, Phase, Handshake, Running, Closing, Closed, Failed, End}
use Rattle.amqp_model.specs.History.Negotiation.{Config}
use Rattle.amqp_model.specs.End.Answers.{first_request, due_by, reply_due}
use Rattle.amqp_model.specs.End.EndVerdict.{takes_octets}
use Rattle.amqp_model.specs.End.ReadingBack.{WritesReadBack}
use Rattle.amqp_model.specs.End.LawfulHistories.{Lawful}
use Rattle.amqp_model.specs.End.Machine.{ChannelStandsFor}
use Rattle.amqp_model.specs.Laws.EndLaws.{notes_on}
use Rattle.amqp_model.specs.Output.Prefixes.{IsPrefixOf}
use Rattle.amqp_model.specs.Pair.Sent.{payload_in, items_in, items_sent, items_acted}
use Rattle.amqp_model.specs.Pair.Pairs.{PairAt}
use Rattle.amqp_model.specs.Pair.WholeMessages.{FitsNext, FitAfter, AreWholeMessages}
use Rattle.amqp_model.specs.Pair.InTurn.{requests_in, replies_in, InTurn, requests_at, replies_at, unanswered_at}
use Rattle.amqp_model.specs.Pair.InTurn.{AnswersInTurn, AsksOneAtATime, KeepsUnanswered, DueIsFirst, PairAnswersInTurn}
use Rattle.amqp_model.proofs.Standing.{notes-before}
use Rattle.amqp_model.proofs.WholeMessages.{puts-whole-messages}
use Rattle.amqp_model.proofs.Pairing.{pair-lawful}
use Rattle.amqp_model.proofs.Sent.{acts-on-prefix}
use Rattle.amqp_model.proofs.ChannelWalks.{channel-walk, lawful-walks}
use Rattle.amqp_model.proofs.TurnLemmas.{in-turn-asked, in-turn-prefix, requests-append, replies-append, begun_by}
use Rattle.amqp_model.proofs.TurnLemmas.{begun_in, plain-reply}
use Rattle.amqp_model.proofs.Turning.{requests, replies, Matched}
use Rattle.amqp_model.proofs.Turned.{matched}

-- In whole messages the replies that begin are the replies that are items.

-- the reply that is under way
abbrev pub under_way : Gathering → List MethodKind
under_way Nothing = []
under_way (HeaderDue method) = cond (is_reply method.kind) (method.kind ∷ []) []
under_way (BodyDue method size properties body) = cond (is_reply method.kind) (method.kind ∷ []) []

-- the items that payloads end, after what is kept
abbrev pub ended_after : Gathering → List Payload → List Item
ended_after kept [] = []
ended_after kept (payload ∷ later) =
    option_to_list (item_ended kept payload) ++ ended_after (remains (step kept payload) payload) later

items-after : (payloads taken : List Payload) → items_taken (reverse payloads ++ taken) ≡ items_taken taken
    ++ ended_after (gathering taken) payloads
items-after [] taken = sym (append-nil (items_taken taken))
items-after (payload ∷ later) taken =
    ap items_taken (ap (λ l. l ++ taken) (reverse-append (payload ∷ []) later)
    ∙ append_assoc (reverse later) (payload ∷ []) taken)
    ∙ (items-after later (payload ∷ taken)
    ∙ append_assoc (items_taken taken) (option_to_list (item_ended (gathering taken) payload)) _)

pub items-are : (payloads : List Payload) → items payloads ≡ ended_after Nothing payloads
items-are payloads = ap items_taken (sym (append-nil (reverse payloads))) ∙ items-after payloads []

-- a reading that begins no reply has a payload that ends none
pub replies-from : (kept : Gathering) (payload : Payload) (later : List Payload)
    → replies_in (ended_after kept (payload ∷ later)) ≡ replies_in (option_to_list (item_ended kept payload))
    ++ replies_in (ended_after (remains (step kept payload) payload) later)
replies-from kept payload later = replies-append (option_to_list (item_ended kept payload)) _

-- a method that stands by itself, or begins a content: its reply is told now, or is under way
begins-reply : (method : Method) (reply begins : Bool)
    → replies_in (option_to_list (item_of method (sort_by method.kind (bit_at 0 method))))
    ≡ cond (reply && not begins) (method.kind ∷ []) [] → is_reply method.kind ≡ reply
    → cond reply (method.kind ∷ []) []
    ≡ replies_in (option_to_list (item_of method (sort_by method.kind (bit_at 0 method))))
    ++ under_way (cond begins (HeaderDue method) Nothing)
begins-reply method true true e r =
    sym (ap (λ l. l ++ cond (is_reply method.kind) (method.kind ∷ []) []) e
    ∙ ap (λ b. cond b (method.kind ∷ []) []) r)
begins-reply method true false e r = sym (append-nil _ ∙ e)
begins-reply method false true e r =
    sym (ap (λ l. l ++ cond (is_reply method.kind) (method.kind ∷ []) []) e
    ∙ ap (λ b. cond b (method.kind ∷ []) []) r)
begins-reply method false false e r = sym (append-nil _ ∙ e)

-- a part of a content that fits: its reply is told now, or stays under way
part-reply : (method : Method) (size : ℕ) (properties : Properties) (body : List ℕ) (payload : Payload)
    (whole short : Bool)
    → FitsNext (cond whole (Completes (record { method = method; properties = properties; body = body }))
    (cond short (Keeps (BodyDue method size properties body)) (Breaks Misfit.PastSize)))
    → cond (is_reply method.kind) (method.kind ∷ []) []
    ≡ replies_in
    (option_to_list
    (completed (cond whole (Completes (record { method = method; properties = properties; body = body }))
    (cond short (Keeps (BodyDue method size properties body)) (Breaks Misfit.PastSize)))))
    ++ under_way
    (remains (cond whole (Completes (record { method = method; properties = properties; body = body }))
    (cond short (Keeps (BodyDue method size properties body)) (Breaks Misfit.PastSize))) payload)
part-reply method size properties body payload true short fit = sym (append-nil _ ∙ append-nil _)
part-reply method size properties body payload false true fit = refl
part-reply method size properties body payload false false fit = absurd fit

-- one payload that fits: what it begins goes to what it ends and what it leaves under way
pub payload-reply : (kept : Gathering) (r : Reading) → FitsNext (step kept (payload_of r))
    → under_way kept ++ begun_by r ≡ replies_in (option_to_list (item_ended kept (payload_of r)))
    ++ under_way (remains (step kept (payload_of r)) (payload_of r))
payload-reply Nothing (Calls method) fit =
    begins-reply method (is_reply method.kind) (carries_content method)
    (plain-reply method method.kind (bit_at 0 method) refl) refl
payload-reply (HeaderDue other) (Calls method) fit = absurd fit
payload-reply (BodyDue other size properties body) (Calls method) fit = absurd fit
payload-reply Nothing (HeaderOf size properties) fit = absurd fit
payload-reply (HeaderDue method) (HeaderOf size properties) fit =
    append-nil _ ∙ part-reply method size properties [] (Payload.Header size properties) _ _ fit
payload-reply (BodyDue method size properties body) (HeaderOf again others) fit = absurd fit
payload-reply Nothing (BodyOf octets) fit = absurd fit
payload-reply (HeaderDue method) (BodyOf octets) fit = absurd fit
payload-reply (BodyDue method size properties body) (BodyOf octets) fit =
    append-nil _ ∙ part-reply method size properties (body ++ octets) (Payload.Body octets) _ _ fit
payload-reply kept UnknownMethod fit = absurd fit
payload-reply kept MalformedMethod fit = absurd fit
payload-reply kept MalformedHeader fit = absurd fit
payload-reply kept (Beat empty) fit = absurd fit

whole-replies : (kept : Gathering) (frames : List Frame) → FitAfter kept (map payload_in frames)
    → under_way kept ++ begun_in frames ≡ replies_in (ended_after kept (map payload_in frames))
whole-replies kept [] fit = append-nil (under_way kept) ∙ ap under_way fit
whole-replies kept (frame ∷ later) fit =
    sym (append_assoc (under_way kept) (begun_by (reading frame)) (begun_in later))
    ∙ (ap (λ l. l ++ begun_in later) (payload-reply kept (reading frame) fit.0)
    ∙ (append_assoc (replies_in (option_to_list (item_ended kept (payload_in frame)))) _ (begun_in later)
    ∙ (ap (λ l. replies_in (option_to_list (item_ended kept (payload_in frame))) ++ l)
    (whole-replies (remains (step kept (payload_in frame)) (payload_in frame)) later fit.1)
    ∙ sym (replies-from kept (payload_in frame) (map payload_in later)))))

pub begun-are-replies : (frames : List Frame) → AreWholeMessages (map payload_in frames)
    → begun_in frames ≡ replies_in (items_in frames)
begun-are-replies frames whole =
    whole-replies Nothing frames whole ∙ ap replies_in (sym (items-are (map payload_in frames)))

-- One end.

module _ (role : Role) (config : Config role) (history : History) (n : ℕ) (back : WritesReadBack role config)
    (lawful : Lawful role config false history) where
  all-matched : Matched role (entries_on (suc n) history)
  all-matched =
      matched role config (entries_on (suc n) history)
      (channel-walk role config n history (lawful-walks role config false history refl back lawful).walks)

  replies-are : (life : ℕ) → replies role life (notes_on (suc n) history) ≡ replies_at role (suc n) life history
  replies-are life = by-role role config back lawful
    where
      by-role : (role : Role) (config : Config role) → WritesReadBack role config → Lawful role config false history
          → replies role life (notes_on (suc n) history) ≡ replies_at role (suc n) life history
      by-role Client config back lawful = refl
      by-role Server config back lawful =
          begun-are-replies (sent Server life (notes_on (suc n) history))
          (puts-whole-messages Server config false history n life back lawful)

  requests-are : (life : ℕ) → requests role life (notes_on (suc n) history)
      ≡ requests_at role (suc n) life history
  requests-are life = by-role role
    where
      by-role : (role : Role) → requests role life (notes_on (suc n) history)
          ≡ requests_at role (suc n) life history
      by-role Client = refl
      by-role Server = refl

pub answers-in-turn : AnswersInTurn
answers-in-turn role config history n life back lawful =
    subst (λ l. InTurn l (requests_at role (suc n) life history)) (replies-are role config history n back lawful life)
    (subst (InTurn (replies role life (notes_on (suc n) history))) (requests-are role config history n back lawful life)
    ((all-matched role config history n back lawful).in_turn life))

pub asks-one-at-a-time : AsksOneAtATime
asks-one-at-a-time config history n life back lawful = (all-matched Client config history n back lawful).one_more life

pub keeps-unanswered : KeepsUnanswered
keeps-unanswered role config end history n life back lawful stands opened =
    let channel_stands = subst (λ channel. ChannelStandsFor role channel (entries_on (suc n) history)) opened
    (stands.channels refl n) in
    let keeps = (all-matched role config history n back lawful).keeps (Open life) channel_stands in
    let number = lives role (notes (entries_before_leaving (entries_on (suc n) history))) in
    keeps.requests
    ∙ (ap (λ l. drop (length l) (requests role number (notes_on (suc n) history)))
    (replies-are role config history n back lawful number)
    ∙ (ap (drop (length (replies_at role (suc n) number history)))
    (requests-are role config history n back lawful number)
    ∙ ap (λ l. unanswered_at role (suc n) (lives role l) history) (notes-before (entries_on (suc n) history))))

pub due-is-first : (role : Role) (config : Config role) (end : End) (history : History) (n : ℕ) (life : Life)
    → DueIsFirst role config end history n life
due-is-first role config end history n life back lawful stands opened takes =
    by-phase end.phase takes ∙ ap first_request (keeps-unanswered role config end history n life back lawful stands opened)
  where
    by-phase : (phase : Phase) → takes_octets phase ≡ true
        → reply_due (record { phase = phase; agreed = end.agreed; channels = end.channels })
        (suc n) ≡ due_by (Open life)
    by-phase Closed e = absurd (true≢false (sym e))
    by-phase Failed e = absurd (true≢false (sym e))
    by-phase (Handshake step) e = ap due_by opened
    by-phase Running e = ap due_by opened
    by-phase Closing e = ap due_by opened

-- Two ends.

-- more requests, and fewer replies
fewer-replies : (fewer more : List Item) (asked : List MethodKind) → IsPrefixOf fewer more
    → InTurn (replies_in more) asked → InTurn (replies_in fewer) asked
fewer-replies fewer more asked prefix h =
    in-turn-prefix (replies_in fewer) (replies_in prefix.0) asked (subst (λ l. InTurn l asked) (ap replies_in prefix.1
    ∙ replies-append fewer prefix.0) h)

more-requests : (answers : List MethodKind) (fewer more : List Item) → IsPrefixOf fewer more
    → InTurn answers (requests_in fewer) → InTurn answers (requests_in more)
more-requests answers fewer more prefix h =
    subst (InTurn answers) (sym (ap requests_in prefix.1 ∙ requests-append fewer prefix.0))
    (in-turn-asked answers (requests_in fewer) (requests_in prefix.0) h)

pub pair-answers-in-turn : PairAnswersInTurn
pair-answers-in-turn client_config server_config client server n life at =
    let lawful = pair-lawful client_config server_config client server at.pair in
    let theirs : PairAt Server client_config server_config server client =
    record { client_writes = at.client_writes; server_writes = at.server_writes; pair = at.pair } in
    let told = acts-on-prefix Client client_config server_config client server n at life in
    let heard = acts-on-prefix Server client_config server_config server client n theirs life in
    let by_client = answers-in-turn Client client_config client n life at.client_writes lawful.0 in
    let by_server = answers-in-turn Server server_config server n life at.server_writes lawful.1 in
    record {
      sent_sent = more-requests _ (items_acted Server (suc n) life server)
          (items_sent Client (suc n) life client) heard by_server;
      sent_acted = by_server;
      acted_sent = by_client;
      acted_acted = fewer-replies (items_acted Client (suc n) life client)
          (items_sent Server (suc n) life server) _ told by_server;
    }
