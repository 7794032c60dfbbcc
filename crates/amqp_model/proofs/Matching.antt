-- A method that comes next is matched with the requests that an end keeps.
use Rattle.std.proofs.Common.{◌≡◌, ◌<◌, ◌+◌, Bool, true, false, not, ℕ, suc, arith, List, [], ◌∷◌}
use Rattle.std.proofs.Common.{◌++◌, map, drop, length, inr, refl, sym, ap, ◌∙◌, subst, append_assoc}
use Rattle.std.proofs.Common.{append-nil, length-append, length-drop}
use Rattle.std.specs.Option.{option_to_list}
use Rattle.std.proofs.lemmas.Bool.{false≢true, cond-true}
use Rattle.std.proofs.lemmas.List.{map-append}
use Rattle.amqp_method.specs.declared.kinds.Kind.TheVariants as kinds
use Rattle.amqp_model.specs.Wire.Frame.{Frame}
use Rattle.amqp_model.specs.Wire.Notes.{Role, Client, Server, is_message}
use Rattle.amqp_model.specs.History.Lives.{lives}
use Rattle.amqp_model.specs.Pair.Carried.{sent, acted, message_frames}
use Rattle.amqp_model.specs.Wire.Methods.{MethodKind, Method, is_reply, bit_at}
use Rattle.amqp_model.specs.Wire.Gathering.{Gathering, Nothing, HeaderDue, BodyDue, step, remains}
use Rattle.amqp_model.specs.Wire.Contents.{Payload}
use Rattle.amqp_model.specs.Wire.Items.{item_ended}
use Rattle.amqp_model.specs.Wire.Readings.{Calls, reading, payload_of, kind_of, kind_of_method}
use Rattle.amqp_model.specs.History.Histories.{History, entries_on}
use Rattle.amqp_model.specs.End.Channels.{Life, Open, Running}
use Rattle.amqp_model.specs.History.Negotiation.{Config}
use Rattle.amqp_model.specs.End.StateFromHistory.{end_from}
use Rattle.amqp_model.specs.End.FrameVerdict.{MOST_REQUESTS, answers_first}
use Rattle.amqp_model.specs.End.Asks.{is_running, when, NotRunning}
use Rattle.amqp_model.specs.Laws.EndLaws.{notes_on}
use Rattle.amqp_model.specs.Laws.FittingLaws.{MethodReadsBack}
use Rattle.amqp_model.specs.Pair.Pairs.{ComesNext, PairAt}
use Rattle.amqp_model.specs.Laws.CarryingLaws.{as_carried}
use Rattle.amqp_model.specs.Pair.Sent.{payload_in, items_sent, items_acted}
use Rattle.amqp_model.specs.Pair.WholeMessages.{FitsNext, FitAfter}
use Rattle.amqp_model.specs.Pair.InTurn.{requests_in, replies_in, InTurn, requests_at, replies_at, unanswered_at}
use Rattle.amqp_model.specs.Pair.InTurn.{life_here}
use Rattle.amqp_model.specs.Pair.Agreement.{PairWrites}
use Rattle.amqp_model.specs.Pair.NoFault.{NextIsMatched, TakesWhatComesNext}
use Rattle.amqp_model.proofs.Ends.{before_leaving_all}
use Rattle.amqp_model.proofs.Laws.{sent_so_far}
use Rattle.amqp_model.proofs.Asking.{running-stays, open-reads}
use Rattle.amqp_model.proofs.Carrying.{next-noted}
use Rattle.amqp_model.proofs.Lawfulness.{lawful-stands}
use Rattle.amqp_model.proofs.Pairing.{pair-lawful}
use Rattle.amqp_model.proofs.Sent.{pair-runs_at, acts-on-prefix}
use Rattle.amqp_model.proofs.WholeMessages.{puts-whole-messages}
use Rattle.amqp_model.proofs.TurnLemmas.{begun_by, begun_in, replies-append, requests-append}
use Rattle.amqp_model.proofs.TurnLaws.{under_way, ended_after, items-are, payload-reply, replies-from}
use Rattle.amqp_model.proofs.TurnLaws.{begun-are-replies, keeps-unanswered, asks-one-at-a-time, pair-answers-in-turn}
use Rattle.amqp_model.proofs.NoFault.{pair-at, finds-no-fault}

-- Before a method that fits, the replies begun are the replies that are whole.
idle-before : (kept : Gathering) (method : Method) → FitsNext (step kept (Payload.Calls method))
    → under_way kept ≡ []
idle-before Nothing method fits = refl
idle-before (HeaderDue other) method fits = absurd fits
idle-before (BodyDue other size properties body) method fits = absurd fits

whole-before : (kept : Gathering) (front : List Frame) (frame : Frame) (later : List Payload) (method : Method)
    → reading frame ≡ Calls method → FitAfter kept (map payload_in front ++ payload_in frame ∷ later)
    → under_way kept ++ begun_in front ≡ replies_in (ended_after kept (map payload_in front))
whole-before kept [] frame later method says fit =
    append-nil (under_way kept)
    ∙ idle-before kept method (subst (λ r. FitsNext (step kept (payload_of r))) says fit.0)
whole-before kept (first ∷ front) frame later method says fit =
    sym (append_assoc (under_way kept) (begun_by (reading first)) (begun_in front))
    ∙ (ap (λ l. l ++ begun_in front) (payload-reply kept (reading first) fit.0)
    ∙ (append_assoc (replies_in (option_to_list (item_ended kept (payload_in first))))
    (under_way (remains (step kept (payload_in first)) (payload_in first))) (begun_in front)
    ∙ (ap (λ l. replies_in (option_to_list (item_ended kept (payload_in first))) ++ l)
    (whole-before (remains (step kept (payload_in first)) (payload_in first)) front frame later method says fit.1)
    ∙ sym (replies-from kept (payload_in first) (map payload_in front)))))

begun-append : (xs ys : List Frame) → begun_in (xs ++ ys) ≡ begun_in xs ++ begun_in ys
begun-append [] ys = refl
begun-append (x ∷ xs) ys =
    ap (λ l. begun_by (reading x) ++ l) (begun-append xs ys)
    ∙ sym (append_assoc (begun_by (reading x)) (begun_in xs) (begun_in ys))

-- the reply after these answers the request after as many
in-turn-next : (replies : List MethodKind) (reply : MethodKind) (more requests : List MethodKind)
    → InTurn (replies ++ reply ∷ more) requests → answers_first reply (drop (length replies) requests) ≡ true
in-turn-next [] reply more [] h = absurd h
in-turn-next [] reply more (request ∷ later) h = h.0
in-turn-next (first ∷ replies) reply more [] h = absurd h
in-turn-next (first ∷ replies) reply more (request ∷ later) h = in-turn-next replies reply more later h.1

-- a reply is a message
reply-message : (kind : MethodKind) (active : Bool) → is_reply kind ≡ true
    → is_message (kind_of_method kind active) ≡ true
reply-message kinds.ChannelOpen active e = absurd (false≢true e)
reply-message kinds.ChannelOpenOk active e = absurd (false≢true e)
reply-message kinds.ChannelClose active e = absurd (false≢true e)
reply-message kinds.ChannelCloseOk active e = absurd (false≢true e)
reply-message kind active e = refl

module _ (reads : MethodReadsBack) (client_config : Config Client) (server_config : Config Server) (n : ℕ)
    (frame : Frame) (life : Life) (method : Method) (here : frame.channel ≡ suc n)
    (says : reading frame ≡ Calls method) where
  client-matched : (client server : History) → PairWrites Client client_config server_config client server
      → ComesNext server client frame → (end_from Client client_config false client).phase ≡ Running
      → (end_from Client client_config false client).channels (suc n) ≡ Open life → is_reply method.kind ≡ true
      → answers_first method.kind life.requests ≡ true
  client-matched client server p next runs opened reply =
      let at = pair-at reads Client client_config server_config client server p in
      let lawful = pair-lawful client_config server_config client server p.pair in
      let ns = notes_on (suc n) client in
      let number = lives Client ns in
      let stays = running-stays Client client_config client n
      (ap (λ phase. when (not (is_running phase)) NotRunning) runs) in
      let coming = next-noted server client frame n next here in
      let is_open = (open-reads Client (entries_on (suc n) client) life stays opened).0 in
      let message : is_message (kind_of (reading frame)) ≡ true =
      subst (λ r. is_message (kind_of r) ≡ true) (sym says) (reply-message method.kind (bit_at 0 method) reply) in
      let heard = acted Client number ns in
      let more = message_frames coming.0 in
      let way : sent Server number (notes_on (suc n) server) ≡ heard ++ frame ∷ more =
      sent_so_far Client ns (notes_on (suc n) server)
      (pair-runs_at Client client_config server_config client server n at) (as_carried frame ∷ coming.0)
      (record { stays = stays; state_is = inr is_open }) coming.1
      ∙ ap (λ l. heard ++ l) (cond-true (is_message (kind_of (reading frame))) (frame ∷ more) more message) in
      let whole = puts-whole-messages Server server_config false server n number at.server_writes lawful.1 in
      let here_begun : begun_by (reading frame) ≡ method.kind ∷ [] = ap begun_by says
      ∙ cond-true (is_reply method.kind) (method.kind ∷ []) [] reply in
      let all_begun : replies_in (items_sent Server (suc n) number server)
      ≡ begun_in heard ++ method.kind ∷ begun_in more =
      sym (begun-are-replies (sent Server number (notes_on (suc n) server)) whole)
      ∙ (ap begun_in way
      ∙ (begun-append heard (frame ∷ more)
      ∙ ap (λ l. begun_in heard ++ (l ++ begun_in more)) here_begun)) in
      let begun_are : begun_in heard ≡ replies_at Client (suc n) number client =
      whole-before Nothing heard frame (map payload_in more) method says
      (subst (FitAfter Nothing) (ap (map payload_in) way ∙ map-append payload_in heard (frame ∷ more)) whole)
      ∙ ap replies_in (sym (items-are (map payload_in heard))) in
      let keeps : life.requests ≡ unanswered_at Client (suc n) number client =
      keeps-unanswered Client client_config (end_from Client client_config false client) client n life at.client_writes
      lawful.0 (lawful-stands Client client_config false client at.client_writes lawful.0) opened
      ∙ ap (λ l. unanswered_at Client (suc n) (lives Client l) client) (before_leaving_all ns stays) in
      let answer = in-turn-next (begun_in heard) method.kind (begun_in more) (requests_at Client (suc n) number client)
      (subst (λ l. InTurn l (requests_at Client (suc n) number client)) all_begun
      (pair-answers-in-turn client_config server_config client server n number at).sent_sent) in
      subst (λ l. answers_first method.kind l ≡ true) (sym keeps)
      (subst (λ l. answers_first method.kind (drop (length l) (requests_at Client (suc n) number client))
      ≡ true) begun_are answer)

  -- a client has one request at a time
  server-matched : (server client : History) → PairWrites Server client_config server_config server client
      → (end_from Server server_config false server).channels (suc n) ≡ Open life
      → length life.requests < MOST_REQUESTS
  server-matched server client p opened =
      let at = pair-at reads Server client_config server_config server client p in
      let theirs : PairAt Client client_config server_config client server =
      record { client_writes = at.client_writes; server_writes = at.server_writes; pair = p.pair } in
      let lawful = pair-lawful client_config server_config client server p.pair in
      let number = life_here Server (suc n) server in
      let keeps = keeps-unanswered Server server_config (end_from Server server_config false server) server n life
      at.server_writes lawful.1 (lawful-stands Server server_config false server at.server_writes lawful.1) opened in
      let one = asks-one-at-a-time client_config client n number at.client_writes lawful.0 in
      let heard = acts-on-prefix Server client_config server_config server client n at number in
      let told = acts-on-prefix Client client_config server_config client server n theirs number in
      let asked : length (requests_at Client (suc n) number client)
      ≡ length (requests_at Server (suc n) number server) + length (requests_in heard.0) =
      ap (λ l. length (requests_in l)) heard.1
      ∙ (ap length (requests-append (items_acted Server (suc n) number server) heard.0)
      ∙ length-append (requests_at Server (suc n) number server) (requests_in heard.0)) in
      let answered : length (replies_at Server (suc n) number server)
      ≡ length (replies_at Client (suc n) number client) + length (replies_in told.0) =
      ap (λ l. length (replies_in l)) told.1
      ∙ (ap length (replies-append (items_acted Client (suc n) number client) told.0)
      ∙ length-append (replies_at Client (suc n) number client) (replies_in told.0)) in
      let left = length-drop (length (replies_at Server (suc n) number server))
      (requests_at Server (suc n) number server) in
      subst (λ l. length l < MOST_REQUESTS) (sym keeps) (rw left (omega arith))

pub next-is-matched : (reads : MethodReadsBack) (role : Role) (client_config : Config Client)
    (server_config : Config Server) (mine theirs : History) (frame : Frame)
    → NextIsMatched role client_config server_config mine theirs frame
next-is-matched reads Client client_config server_config mine theirs frame p next runs n life method here says opened =
    λ reply. client-matched reads client_config server_config n frame life method here says mine
    theirs p next runs opened reply
next-is-matched reads Server client_config server_config mine theirs frame p next runs n life method here says opened =
    λ request. server-matched reads client_config server_config n frame life method here says mine theirs p opened

pub takes-what-comes-next : (reads : MethodReadsBack) (role : Role) (client_config : Config Client)
    (server_config : Config Server) (mine theirs : History) (frame : Frame)
    → TakesWhatComesNext role client_config server_config mine theirs frame
takes-what-comes-next reads role client_config server_config mine theirs frame =
    finds-no-fault reads role client_config server_config mine theirs frame
    (next-is-matched reads role client_config server_config mine theirs frame)
