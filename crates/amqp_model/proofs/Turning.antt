-- Replies are in turn to the requests, entry by entry of a channel.
use Rattle.std.proofs.Common.{◌≡◌, ◌≤◌, ◌<◌, Bool, true, false, cond, ◌&&◌, ◌||◌, ℕ, suc}
use Rattle.std.proofs.Common.{◌==◌, arith, List, [], ◌∷◌, ◌++◌, map, reverse, drop, length, Option, refl}
use Rattle.std.proofs.Common.{sym, ap, ◌∙◌, subst, append-nil, length-append}
use Rattle.std.proofs.lemmas.Bool.{false≢true, true≢false, eqb-true, eq-eqb, ne_eqb, and_parts, not-true}
use Rattle.std.proofs.lemmas.List.{length-drop, map-append, reverse-append}
use Rattle.amqp_model.specs.Wire.Frame.{Frame}
use Rattle.amqp_model.specs.Wire.Notes.{Role, Client, Server, is_client, Kind, Open, Close, CloseOk, Flow, FlowOk}
use Rattle.amqp_model.specs.Wire.Notes.{Other, Note, Put, Took, Leaving, is_message}
use Rattle.amqp_model.specs.History.Lives.{lives, is_opening}
use Rattle.amqp_model.specs.Pair.Carried.{At, puts as puts_of, acts_next, acted_takes, messages, sent, acted}
use Rattle.amqp_model.specs.Wire.Methods.{MethodKind, Method, is_request}
use Rattle.amqp_model.specs.Wire.Gathering.{step, remains, gathering}
use Rattle.amqp_model.specs.Wire.Readings.{Reading, Calls, reading, kind_of}
use Rattle.amqp_model.specs.History.Replies.{request_made}
use Rattle.amqp_model.specs.History.Histories.{ChannelEntry, PutHere, TookHere, notes, entries_before_leaving}
use Rattle.amqp_model.specs.End.Channels.{Life, Channel, Free, Opening, Closing, Agreed}
use Rattle.amqp_model.specs.End.Channels as channels
use Rattle.amqp_model.specs.History.Negotiation.{Config}
use Rattle.amqp_model.specs.End.FrameVerdict.{on_open, on_idle, is_gathering, verdict_on}
use Rattle.amqp_model.specs.End.EndVerdict.{goes_on}
use Rattle.amqp_model.specs.End.Machine.{is_open_method, is_close_ok, requests_after, life_after, channel_after_put, answers_in_turn}
use Rattle.amqp_model.specs.End.Machine.{may_put_here, IsAnswerable, ChannelStandsFor}
use Rattle.amqp_model.specs.Pair.Sent.{payload_in, items_in}
use Rattle.amqp_model.specs.Pair.InTurn.{requests_in, replies_in, InTurn}
use Rattle.amqp_model.proofs.Lists.{messages-append, messages_other, messages_elsewhere}
use Rattle.amqp_model.proofs.Standing.{counted}
use Rattle.amqp_model.proofs.ChannelSteps.{with-asked}
use Rattle.amqp_model.proofs.Going.{running, method-goes, matched-goes, class-answerable, not-inside}
use Rattle.amqp_model.proofs.ClassMethods.{is_class_kind}
use Rattle.amqp_model.proofs.Walking.{is_none, may_ask_here}
use Rattle.amqp_model.proofs.TurnLemmas.{in-turn-asked, IsFirst, in-turn-answered, left-answered, left-asked}
use Rattle.amqp_model.proofs.TurnLemmas.{requests-more, reply_told, replies-more, begun_by, begun_in, begun-more}
use Rattle.amqp_model.proofs.TurnLemmas.{begun-length, begun-first, told-length, no-message-asks, no-message-begins}

-- The requests and replies of a life, in the channel's notes. A server's reply counts here as its method frame is put.

abbrev pub requests : Role → (life : ℕ) → List Note → List MethodKind
requests Client life history = requests_in (items_in (sent Client life history))
requests Server life history = requests_in (items_in (acted Server life history))

abbrev pub replies : Role → (life : ℕ) → List Note → List MethodKind
replies Client life history = replies_in (items_in (acted Client life history))
replies Server life history = begun_in (sent Server life history)

-- what an Open channel keeps is of the frames of its life
pub record KeepsOpen (role : Role) (life : Life) (number : ℕ) (history : List Note) : Type 0 where
  pub requests : life.requests ≡ drop (length (replies role number history)) (requests role number history)
  pub content : gathering (reverse (map payload_in (acted role number history))) ≡ life.content

-- of an Opening one there are none yet
abbrev pub Keeps : Role → Channel → (number : ℕ) → List Note → Type 0
Keeps role (channels.Open life) number history = KeepsOpen role life number history
Keeps role Opening number history = (sent role number history ≡ []) × (acted role number history ≡ [])
Keeps role channel number history = Unit {0}

-- a client has made one request more than it has replies, at most
abbrev pub OneMore : Role → (life : ℕ) → List Note → Type 0
OneMore Client life history = length (requests Client life history) ≤ suc (length (replies Client life history))
OneMore Server life history = Unit {0}

pub record Matched (role : Role) (entries : List ChannelEntry) : Type 0 where
  pub in_turn : (life : ℕ) → InTurn (replies role life (notes entries)) (requests role life (notes entries))
  pub one_more : (life : ℕ) → OneMore role life (notes entries)
  pub keeps : (channel : Channel) → ChannelStandsFor role channel entries
      → Keeps role channel (lives role (notes (entries_before_leaving entries))) (notes entries)

-- Lives, and what a note adds.

-- nothing is put or taken in a life that has not begun
pub later-none : (role : Role) (history : List Note) (life : ℕ) → lives role history < life
    → (sent role life history ≡ []) × (acted role life history ≡ [])
later-none role [] life later = (refl, refl)
later-none role (Leaving ∷ before) life later = later-none role before life later
later-none role (Put kind frame ∷ before) life later =
    let less : lives role before < life = before-less (is_opening role (Put kind frame) before) later in
    let rest = later-none role before life less in (
      messages_elsewhere life (puts_of role before) kind _ frame
          (ne_eqb _ life (λ e. absurd (omega (arith, e, later))))
          ∙ rest.0,
      rest.1,
    )
  where
    before-less : (b : Bool) → cond b (suc (lives role before)) (lives role before) < life
        → lives role before < life
    before-less true h = omega arith
    before-less false h = h
later-none role (Took kind frame ∷ before) life later =
    let rest = later-none role before life (before-less (is_opening role (Took kind frame) before) later) in
    (rest.0, by-acting (acts_next role before) rest.1)
  where
    before-less : (b : Bool) → cond b (suc (lives role before)) (lives role before) < life
        → lives role before < life
    before-less true h = omega arith
    before-less false h = h

    by-acting : (b : Bool) → acted role life before ≡ []
        → messages life (cond b (acted_takes role before ++ At kind (lives role (Took kind frame ∷ before)) frame
        ∷ []) (acted_takes role before)) ≡ []
    by-acting true rest =
        messages_elsewhere life (acted_takes role before) kind _ frame
        (ne_eqb _ life (λ e. absurd (omega (arith, e, later)))) ∙ rest
    by-acting false rest = rest

-- a message opens no life
pub message-lives : (role : Role) (kind : Kind) (frame : Frame) (history : List Note) → is_message kind ≡ true
    → (lives role (Put kind frame ∷ history) ≡ lives role history)
    × (lives role (Took kind frame ∷ history) ≡ lives role history)
message-lives role (Flow active) frame history e = (refl, refl)
message-lives role (FlowOk active) frame history e = (refl, refl)
message-lives role (Other begins) frame history e = (refl, refl)
message-lives role kind frame history e = absurd (false≢true e)

-- whether a message of this life is one of that life
abbrev is_of : Kind → (at_life life : ℕ) → Bool
is_of kind at_life life = is_message kind && (at_life == life)

sent-more : (role : Role) (life : ℕ) (kind : Kind) (frame : Frame) (history : List Note)
    → sent role life (Put kind frame ∷ history) ≡ sent role life history
    ++ cond (is_of kind (lives role (Put kind frame ∷ history)) life) (frame ∷ []) []
sent-more role life kind frame history = messages-append life (puts_of role history) _

acted-more : (role : Role) (life : ℕ) (kind : Kind) (frame : Frame) (history : List Note)
    → acts_next role history ≡ true → acted role life (Took kind frame ∷ history) ≡ acted role life history
    ++ cond (is_of kind (lives role (Took kind frame ∷ history)) life) (frame ∷ []) []
acted-more role life kind frame history acts = simp acts (messages-append life (acted_takes role history) _)

pub acted-same : (role : Role) (life : ℕ) (kind : Kind) (frame : Frame) (history : List Note)
    → acts_next role history ≡ false → acted role life (Took kind frame ∷ history) ≡ acted role life history
acted-same role life kind frame history rests = simp rests

-- a message is of its own life
is-here : (kind : Kind) (at_life : ℕ) → is_of kind at_life at_life ≡ is_message kind
is-here kind at_life =
    let same = eq-eqb at_life at_life refl in
    ap (λ b. is_message kind && b) same ∙ with-true (is_message kind)
  where
    with-true : (b : Bool) → (b && true) ≡ b
    with-true true = refl
    with-true false = refl

-- one record alone stands for entries
pub one-record : (role : Role) (a b : Channel) (entries : List ChannelEntry) → ChannelStandsFor role a entries
    → ChannelStandsFor role b entries → a ≡ b
one-record role a b entries mine other =
    sym (counted role a (entries_before_leaving entries) mine) ∙ counted role b (entries_before_leaving entries) other

more-in-turn : (b : Bool) (old new asked : List MethodKind) → InTurn old asked
    → (b ≡ true → IsFirst new (drop (length old) asked)) → InTurn (old ++ cond b new []) asked
more-in-turn true old new asked h first = in-turn-answered old asked new h (first refl)
more-in-turn false old new asked h first = subst (λ l. InTurn l asked) (sym (append-nil old)) h

quiet : (b : Bool) (l : List MethodKind) → (b ≡ false → l ≡ []) → cond b l [] ≡ l
quiet true l none = refl
quiet false l none = sym (none refl)

-- A frame put.

no-message-free : (role : Role) (kind : Kind) → is_message kind ≡ true
    → ((is_client role && is_open_method kind) || is_close_ok kind) ≡ true → ⊥
no-message-free Client (Flow active) m e = false≢true e
no-message-free Client (FlowOk active) m e = false≢true e
no-message-free Client (Other begins) m e = false≢true e
no-message-free Server (Flow active) m e = false≢true e
no-message-free Server (FlowOk active) m e = false≢true e
no-message-free Server (Other begins) m e = false≢true e
no-message-free role kind m e = false≢true m

no-message-closing : (kind : Kind) → is_message kind ≡ true → is_close_ok kind ≡ true → ⊥
no-message-closing CloseOk m e = false≢true m
no-message-closing kind m e = false≢true e

-- a message is put on an Open channel, and a server's reply is in turn
message-open : (role : Role) (channel : Channel) (r : Reading) → may_put_here role channel r ≡ true
    → is_message (kind_of r) ≡ true → (life : Life) × (channel ≡ channels.Open life)
    × (answers_in_turn role life.requests r ≡ true)
message-open role Free r may m = absurd (no-message-free role (kind_of r) m may)
message-open role Opening r may m = absurd (false≢true may)
message-open role Closing r may m = absurd (no-message-closing (kind_of r) m may)
message-open role (channels.Open life) r may m = (life, refl, (and_parts _ _ may).1)

one-request : (r : Reading) → length (request_made r) ≤ 1
one-request (Calls method) = cases (is_request method)
  where
    cases : (b : Bool) → length (cond b (method.kind ∷ []) []) ≤ 1
    cases true = omega arith
    cases false = omega arith
one-request r = omega arith

module _ (frame : Frame) (history : List Note) where
  abbrev put_note : List Note
  put_note = Put (kind_of (reading frame)) frame ∷ history

  put-requests : (life : ℕ) → requests Client life put_note ≡ requests Client life history
      ++ cond (is_of (kind_of (reading frame)) (lives Client put_note) life) (request_made (reading frame)) []
  put-requests life =
      ap (λ l. requests_in (items_in l)) (sent-more Client life (kind_of (reading frame)) frame history)
      ∙ requests-more (sent Client life history) frame _

  put-replies : (life : ℕ) → replies Server life put_note ≡ replies Server life history
      ++ cond (is_of (kind_of (reading frame)) (lives Server put_note) life) (begun_by (reading frame)) []
  put-replies life =
      ap begun_in (sent-more Server life (kind_of (reading frame)) frame history)
      ∙ begun-more (sent Server life history) frame _

  -- a message put is of the life that the channel is in
  put-life : (role : Role) (life : ℕ) → is_of (kind_of (reading frame)) (lives role put_note) life ≡ true
      → (is_message (kind_of (reading frame)) ≡ true) × (lives role history ≡ life)
  put-life role life b =
      let parts = and_parts _ _ b in
      (parts.0, sym (message-lives role (kind_of (reading frame)) frame history parts.0).0 ∙ eqb-true _ life parts.1)

  pub put-in-turn : (role : Role) (channel : Channel) → may_put_here role channel (reading frame) ≡ true
      → Keeps role channel (lives role history) history → (life : ℕ)
      → InTurn (replies role life history) (requests role life history)
      → InTurn (replies role life put_note) (requests role life put_note)
  put-in-turn Client channel may keeps life turn =
      subst (InTurn (replies Client life history)) (sym (put-requests life))
      (in-turn-asked (replies Client life history) (requests Client life history) _ turn)
  put-in-turn Server channel may keeps life turn =
      subst (λ l. InTurn l (requests Server life history)) (sym (put-replies life))
      (more-in-turn _ (replies Server life history) (begun_by (reading frame))
      (requests Server life history) turn first)
    where
      first : is_of (kind_of (reading frame)) (lives Server put_note) life ≡ true
          → IsFirst (begun_by (reading frame))
          (drop (length (replies Server life history)) (requests Server life history))
      first b =
          let here = put-life Server life b in
          let found = message-open Server channel (reading frame) may here.0 in
          let same : found.0.requests ≡ drop (length (replies Server life history)) (requests Server life history) =
          subst (λ n. found.0.requests ≡ drop (length (replies Server n history)) (requests Server n history)) here.1
          (subst (λ channel. Keeps Server channel (lives Server history) history) found.1 keeps).requests in
          subst (IsFirst (begun_by (reading frame))) same
          (begun-first (reading frame) found.0.requests
          (λ method e. subst (λ r. answers_in_turn Server found.0.requests r ≡ true) e found.2))

  pub put-one-more : (role : Role) (channel : Channel) → may_put_here role channel (reading frame) ≡ true
      → may_ask_here role channel (reading frame) ≡ true → Keeps role channel (lives role history) history
      → (life : ℕ) → OneMore role life history → OneMore role life put_note
  put-one-more Server channel may asks keeps life more = tt
  put-one-more Client channel may asks keeps life more =
      subst (λ l. length l ≤ suc (length (replies Client life history))) (sym (put-requests life))
      (by-life (is_of (kind_of (reading frame)) (lives Client put_note) life) refl)
    where
      none-waits : (old : List MethodKind)
          → old ≡ drop (length (replies Client life history)) (requests Client life history)
          → (is_none (request_made (reading frame)) || is_none old) ≡ true
          → length (requests Client life history ++ request_made (reading frame))
          ≤ suc (length (replies Client life history))
      none-waits [] e h =
          let l = ap length e ∙ length-drop (length (replies Client life history)) (requests Client life history) in
          let one = one-request (reading frame) in
          let whole = length-append (requests Client life history) (request_made (reading frame)) in
          omega arith
      none-waits (request ∷ later) e h = by-asked (request_made (reading frame)) h
        where
          by-asked : (asked : List MethodKind) → (is_none asked || false) ≡ true
              → length (requests Client life history ++ asked) ≤ suc (length (replies Client life history))
          by-asked [] h =
              subst (λ l. length l ≤ suc (length (replies Client life history)))
              (sym (append-nil (requests Client life history))) more
          by-asked (kind ∷ others) h = absurd (false≢true h)

      by-life : (b : Bool) → is_of (kind_of (reading frame)) (lives Client put_note) life ≡ b
          → length (requests Client life history ++ cond b (request_made (reading frame)) [])
          ≤ suc (length (replies Client life history))
      by-life false b =
          subst (λ l. length l ≤ suc (length (replies Client life history)))
          (sym (append-nil (requests Client life history))) more
      by-life true b =
          let here = put-life Client life b in
          let found = message-open Client channel (reading frame) may here.0 in
          none-waits found.0.requests
          (subst (λ n. found.0.requests ≡ drop (length (replies Client n history)) (requests Client n history))
          here.1 (subst (λ channel. Keeps Client channel (lives Client history) history) found.1 keeps).requests)
          (subst (λ channel. may_ask_here Client channel (reading frame) ≡ true) found.1 asks)

  -- what an Open channel keeps then, in the life that it is in
  put-keeps-open : (role : Role) (life : Life) → lives role put_note ≡ lives role history
      → InTurn (replies role (lives role history) history) (requests role (lives role history) history)
      → KeepsOpen role life (lives role history) history
      → KeepsOpen role (life_after role (PutHere (reading frame) frame) life) (lives role history) put_note
  put-keeps-open Client life same turn keeps =
      let n = lives Client history in
      let asked : requests Client n put_note ≡ requests Client n history ++ request_made (reading frame) =
      put-requests n
      ∙ ap (λ l. requests Client n history ++ l)
      (ap (λ at_life. cond (is_of (kind_of (reading frame)) at_life n) (request_made (reading frame)) []) same
      ∙ (ap (λ b. cond b (request_made (reading frame)) []) (is-here (kind_of (reading frame)) n)
      ∙ quiet (is_message (kind_of (reading frame))) (request_made (reading frame))
      (no-message-asks (reading frame)))) in
      record {
        requests = with-asked (request_made (reading frame)) life.requests
            ∙ (ap (λ l. l ++ request_made (reading frame)) keeps.requests
            ∙ (sym (left-asked (replies Client n history) (requests Client n history)
            (request_made (reading frame)) turn)
            ∙ ap (drop (length (replies Client n history))) (sym asked)));
        content = keeps.content;
      }
  put-keeps-open Server life same turn keeps =
      let n = lives Server history in
      let answered : replies Server n put_note ≡ replies Server n history ++ begun_by (reading frame) = put-replies n
      ∙ ap (λ l. replies Server n history ++ l)
      (ap (λ at_life. cond (is_of (kind_of (reading frame)) at_life n) (begun_by (reading frame)) []) same
      ∙ (ap (λ b. cond b (begun_by (reading frame)) []) (is-here (kind_of (reading frame)) n)
      ∙ quiet (is_message (kind_of (reading frame))) (begun_by (reading frame))
      (no-message-begins (reading frame)))) in
      record {
        requests = ap (λ n. drop n life.requests) (sym (begun-length (reading frame)))
            ∙ (ap (drop (length (begun_by (reading frame)))) keeps.requests
            ∙ (sym (left-answered (replies Server n history) (requests Server n history) (begun_by (reading frame)))
            ∙ ap (λ l. drop (length l) (requests Server n history)) (sym answered)));
        content = keeps.content;
      }

  pub put-keeps : (role : Role) (channel : Channel) (kind : Kind) → kind_of (reading frame) ≡ kind
      → may_put_here role channel (reading frame) ≡ true
      → InTurn (replies role (lives role history) history) (requests role (lives role history) history)
      → Keeps role channel (lives role history) history
      → Keeps role (channel_after_put role (PutHere (reading frame) frame) channel kind) (lives role put_note) put_note
  put-keeps Client Free Open e may turn keeps = (
    ap (λ l. sent Client (lives Client put_note) (Put l frame ∷ history)) e
        ∙ (messages_other (lives Client put_note) (puts_of Client history) Open _ frame refl ∙ none.0),
    none.1,
  )
    where
      none : (sent Client (lives Client put_note) history ≡ [])
          × (acted Client (lives Client put_note) history ≡ [])
      none =
          later-none Client history (lives Client put_note)
          (let l = ap (λ kind. lives Client (Put kind frame ∷ history)) e in omega arith)
  put-keeps role Free kind e may turn keeps = tt
  put-keeps role Opening kind e may turn keeps = absurd (false≢true may)
  put-keeps role Closing kind e may turn keeps = tt
  put-keeps role (channels.Open life) Open e may turn keeps =
      absurd (true≢false (sym (ap is_open_method e) ∙ not-true _ (and_parts _ _ may).0))
  put-keeps role (channels.Open life) Close e may turn keeps = tt
  put-keeps role (channels.Open life) kind e may turn keeps =
      let same : lives role put_note ≡ lives role history = ap (λ kind. lives role (Put kind frame ∷ history)) e in
      subst (λ n. KeepsOpen role (life_after role (PutHere (reading frame) frame) life) n put_note) (sym same)
      (put-keeps-open role life same turn keeps)

-- A frame taken.

-- a client takes no method but one that answers the first of the requests, if it is a reply
pub open-answers : (config : Config Client) (agreed : Option Agreed) (number : ℕ) (life : Life) (method : Method)
    → (number == 0) ≡ false
    → goes_on (verdict_on (running config agreed number (channels.Open life)) (Calls method)) ≡ true
    → is_message (kind_of (Calls method)) ≡ true → IsAnswerable method life.requests
open-answers config agreed number life method above g m =
    by-kind (kind_of (Calls method)) refl (method-goes config agreed number (channels.Open life) method above g) m
  where
    by-idle : (kind : Kind) → kind_of (Calls method) ≡ kind → is_message kind ≡ true
        → goes_on (on_idle (running config agreed number (channels.Open life)) life method kind) ≡ true
        → IsAnswerable method life.requests
    by-idle (Other begins) e m g = matched-goes Client number life.requests method g refl
    by-idle (Flow active) e m g = class-answerable method life.requests (ap is_class_kind e)
    by-idle (FlowOk active) e m g = class-answerable method life.requests (ap is_class_kind e)
    by-idle kind e m g = absurd (false≢true m)

    by-kind : (kind : Kind) → kind_of (Calls method) ≡ kind
        → goes_on (on_open (running config agreed number (channels.Open life)) life method kind) ≡ true
        → is_message kind ≡ true → IsAnswerable method life.requests
    by-kind Close e g m = absurd (false≢true m)
    by-kind kind e g m = by-idle kind e m (not-inside (is_gathering life.content) _ g).1

module _ (frame : Frame) (history : List Note) where
  abbrev took_note : List Note
  took_note = Took (kind_of (reading frame)) frame ∷ history

  took-life : (role : Role) (life : ℕ) → is_of (kind_of (reading frame)) (lives role took_note) life ≡ true
      → (is_message (kind_of (reading frame)) ≡ true) × (lives role history ≡ life)
  took-life role life b =
      let parts = and_parts _ _ b in
      (parts.0, sym (message-lives role (kind_of (reading frame)) frame history parts.0).1 ∙ eqb-true _ life parts.1)

  -- an end that does not act
  module _ (role : Role) (rests : acts_next role history ≡ false) where
    pub rest-requests : (life : ℕ) → requests role life took_note ≡ requests role life history
    rest-requests life = by-role role rests
      where
        by-role : (role : Role) → acts_next role history ≡ false
            → requests role life took_note ≡ requests role life history
        by-role Client rests = refl
        by-role Server rests =
            ap (λ l. requests_in (items_in l)) (acted-same Server life (kind_of (reading frame)) frame history rests)

    pub rest-replies : (life : ℕ) → replies role life took_note ≡ replies role life history
    rest-replies life = by-role role rests
      where
        by-role : (role : Role) → acts_next role history ≡ false
            → replies role life took_note ≡ replies role life history
        by-role Client rests =
            ap (λ l. replies_in (items_in l)) (acted-same Client life (kind_of (reading frame)) frame history rests)
        by-role Server rests = refl

    pub rest-in-turn : (life : ℕ) → InTurn (replies role life history) (requests role life history)
        → InTurn (replies role life took_note) (requests role life took_note)
    rest-in-turn life turn =
        subst (λ l. InTurn l (requests role life took_note)) (sym (rest-replies life))
        (subst (InTurn (replies role life history)) (sym (rest-requests life)) turn)

    pub rest-one-more : (life : ℕ) → OneMore role life history → OneMore role life took_note
    rest-one-more life more = by-role role rests more
      where
        by-role : (role : Role) → acts_next role history ≡ false → OneMore role life history
            → OneMore role life took_note
        by-role Client rests more =
            subst (λ l. length (requests Client life history) ≤ suc (length l))
            (sym (ap (λ l. replies_in (items_in l))
            (acted-same Client life (kind_of (reading frame)) frame history rests))) more
        by-role Server rests more = tt

  -- an Open channel
  took-requests : (life : ℕ) → acts_next Server history ≡ true
      → requests Server life took_note ≡ requests Server life history
      ++ cond (is_of (kind_of (reading frame)) (lives Server took_note) life) (request_made (reading frame)) []
  took-requests life acts =
      ap (λ l. requests_in (items_in l)) (acted-more Server life (kind_of (reading frame)) frame history acts)
      ∙ requests-more (acted Server life history) frame _

  took-replies : (life : ℕ) → acts_next Client history ≡ true
      → replies Client life took_note ≡ replies Client life history
      ++ cond (is_of (kind_of (reading frame)) (lives Client took_note) life)
      (reply_told (gathering (reverse (map payload_in (acted Client life history)))) (reading frame)) []
  took-replies life acts =
      ap (λ l. replies_in (items_in l)) (acted-more Client life (kind_of (reading frame)) frame history acts)
      ∙ replies-more (acted Client life history) frame _

  -- what a client takes on an Open channel answers the first of its requests, if it is a reply that is whole now
  abbrev pub Answers : Role → Life → Type 0
  Answers Client life =
      is_message (kind_of (reading frame)) ≡ true → IsFirst (reply_told life.content (reading frame)) life.requests
  Answers Server life = Unit {0}

  pub took-in-turn : (role : Role) (open_life : Life) → acts_next role history ≡ true → Answers role open_life
      → KeepsOpen role open_life (lives role history) history → (life : ℕ)
      → InTurn (replies role life history) (requests role life history)
      → InTurn (replies role life took_note) (requests role life took_note)
  took-in-turn Server open_life acts answers keeps life turn =
      subst (InTurn (replies Server life history)) (sym (took-requests life acts))
      (in-turn-asked (replies Server life history) (requests Server life history) _ turn)
  took-in-turn Client open_life acts answers keeps life turn =
      subst (λ l. InTurn l (requests Client life history)) (sym (took-replies life acts))
      (more-in-turn _ (replies Client life history)
      (reply_told (gathering (reverse (map payload_in (acted Client life history)))) (reading frame))
      (requests Client life history) turn first)
    where
      first : is_of (kind_of (reading frame)) (lives Client took_note) life ≡ true
          → IsFirst (reply_told (gathering (reverse (map payload_in (acted Client life history)))) (reading frame))
          (drop (length (replies Client life history)) (requests Client life history))
      first b =
          let here = took-life Client life b in
          let content : open_life.content ≡ gathering (reverse (map payload_in (acted Client life history))) =
          sym (subst (λ n. gathering (reverse (map payload_in (acted Client n history)))
          ≡ open_life.content) here.1 keeps.content) in
          let same = subst (λ n. open_life.requests ≡ drop (length (replies Client n history))
          (requests Client n history)) here.1 keeps.requests in
          subst (λ kept. IsFirst (reply_told kept (reading frame))
          (drop (length (replies Client life history)) (requests Client life history))) content
          (subst (IsFirst (reply_told open_life.content (reading frame))) same (answers here.0))

  pub took-one-more : (role : Role) → acts_next role history ≡ true → (life : ℕ) → OneMore role life history
      → OneMore role life took_note
  took-one-more Server acts life more = tt
  took-one-more Client acts life more =
      subst (λ l. length (requests Client life history) ≤ suc (length l)) (sym (took-replies life acts))
      (let l = length-append (replies Client life history)
      (cond (is_of (kind_of (reading frame)) (lives Client took_note) life)
      (reply_told (gathering (reverse (map payload_in (acted Client life history)))) (reading frame)) []) in
      omega arith)

  -- what is kept of a message
  pub took-keeps-open : (role : Role) (life : Life) → acts_next role history ≡ true
      → is_message (kind_of (reading frame)) ≡ true
      → InTurn (replies role (lives role history) history) (requests role (lives role history) history)
      → KeepsOpen role life (lives role history) history
      → KeepsOpen role (life_after role (TookHere (reading frame) frame) life) (lives role history) took_note
  took-keeps-open role life acts m turn keeps =
      record { requests = by-role role life acts m turn keeps; content = content }
    where
      here : (role : Role) → is_of (kind_of (reading frame)) (lives role took_note) (lives role history) ≡ true
      here role =
          ap (λ n. is_of (kind_of (reading frame)) n (lives role history))
          (message-lives role (kind_of (reading frame)) frame history m).1
          ∙ (is-here (kind_of (reading frame)) (lives role history) ∙ m)

      more : acted role (lives role history) took_note ≡ acted role (lives role history) history ++ frame ∷ []
      more =
          acted-more role (lives role history) (kind_of (reading frame)) frame history acts
          ∙ ap (λ b. acted role (lives role history) history ++ cond b (frame ∷ []) []) (here role)

      content : gathering (reverse (map payload_in (acted role (lives role history) took_note)))
          ≡ remains (step life.content (payload_in frame)) (payload_in frame)
      content =
          ap (λ l. gathering (reverse (map payload_in l))) more
          ∙ (ap (λ l. gathering (reverse l))
          (map-append payload_in (acted role (lives role history) history) (frame ∷ []))
          ∙ (ap gathering (reverse-append (map payload_in (acted role (lives role history) history))
          (payload_in frame ∷ []))
          ∙ ap (λ kept. remains (step kept (payload_in frame)) (payload_in frame)) keeps.content))

      by-role : (role : Role) (life : Life) → acts_next role history ≡ true → is_message (kind_of (reading frame))
          ≡ true → InTurn (replies role (lives role history) history) (requests role (lives role history) history)
          → KeepsOpen role life (lives role history) history
          → requests_after role (TookHere (reading frame) frame) life.content life.requests
          ≡ drop (length (replies role (lives role history) took_note)) (requests role (lives role history) took_note)
      by-role Server life acts m turn keeps =
          let n = lives Server history in
          let asked : requests Server n took_note ≡ requests Server n history ++ request_made (reading frame) =
          took-requests n acts
          ∙ ap (λ b. requests Server n history ++ cond b (request_made (reading frame)) []) (here Server) in
          with-asked (request_made (reading frame)) life.requests
          ∙ (ap (λ l. l ++ request_made (reading frame)) keeps.requests
          ∙ (sym (left-asked (replies Server n history) (requests Server n history) (request_made (reading frame))
          turn) ∙ ap (drop (length (replies Server n history))) (sym asked)))
      by-role Client life acts m turn keeps =
          let n = lives Client history in
          let answered : replies Client n took_note ≡ replies Client n history ++ reply_told life.content
          (reading frame) = took-replies n acts
          ∙ (ap (λ b. replies Client n history
          ++ cond b (reply_told (gathering (reverse (map payload_in (acted Client n history)))) (reading frame)) [])
          (here Client) ∙ ap (λ kept. replies Client n history ++ reply_told kept (reading frame)) keeps.content) in
          ap (λ n. drop n life.requests) (sym (told-length life.content (reading frame) frame))
          ∙ (ap (drop (length (reply_told life.content (reading frame)))) keeps.requests
          ∙ (sym (left-answered (replies Client n history) (requests Client n history)
          (reply_told life.content (reading frame)))
          ∙ ap (λ l. drop (length l) (requests Client n history)) (sym answered)))
