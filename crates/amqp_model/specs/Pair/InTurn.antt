-- Requests and replies among the items of a channel: each reply answers its request. `amqp0-9-1.xml`: the methods with
-- a response; that they are answered in their order is this profile's rule.
use Rattle.std.specs.Prelude.{◌≡◌, ◌≤◌, true, false, cond, ℕ, suc, List, [], ◌∷◌, ◌++◌, drop}
use Rattle.std.specs.Prelude.{length}
use Rattle.amqp_model.specs.Wire.Notes.{Role, Client, Server}
use Rattle.amqp_model.specs.History.Lives.{lives, before_leaving}
use Rattle.amqp_model.specs.Wire.Methods.{MethodKind, is_request, is_reply, answers}
use Rattle.amqp_model.specs.Wire.Items.{Item, PlainMethod, WholeContent}
use Rattle.amqp_model.specs.History.Histories.{History}
use Rattle.amqp_model.specs.End.Channels.{Life, Open, End}
use Rattle.amqp_model.specs.History.Negotiation.{Config}
use Rattle.amqp_model.specs.End.Answers.{first_request, reply_due}
use Rattle.amqp_model.specs.End.EndVerdict.{takes_octets}
use Rattle.amqp_model.specs.End.ReadingBack.{WritesReadBack}
use Rattle.amqp_model.specs.End.LawfulHistories.{Lawful}
use Rattle.amqp_model.specs.End.Machine.{StandsFor}
use Rattle.amqp_model.specs.Laws.EndLaws.{notes_on}
use Rattle.amqp_model.specs.Pair.Sent.{items_sent, items_acted}
use Rattle.amqp_model.specs.Pair.Pairs.{PairAt}

-- the request that an item is, if it is one
abbrev pub request_in : Item → List MethodKind
request_in (PlainMethod method) = cond (is_request method) (method.kind ∷ []) []
request_in item = []

-- the reply that an item is, if it is one
abbrev pub reply_in : Item → List MethodKind
reply_in (PlainMethod method) = cond (is_reply method.kind) (method.kind ∷ []) []
reply_in (WholeContent content) = cond (is_reply content.method.kind) (content.method.kind ∷ []) []
reply_in item = []

abbrev pub requests_in : List Item → List MethodKind
requests_in [] = []
requests_in (item ∷ later) = request_in item ++ requests_in later

abbrev pub replies_in : List Item → List MethodKind
replies_in [] = []
replies_in (item ∷ later) = reply_in item ++ replies_in later

-- the first reply answers the first request, the second the second and so on, and there are no more replies than
-- requests
abbrev pub InTurn : (replies requests : List MethodKind) → Type 0
InTurn [] requests = Unit {0}
InTurn (reply ∷ later) [] = ⊥
InTurn (reply ∷ later) (request ∷ others) = (answers reply request ≡ true) × InTurn later others

-- The requests and replies of a life at one end. A client sends requests and acts on replies, a server acts on requests
-- and sends replies.

abbrev pub requests_at : Role → (channel life : ℕ) → History → List MethodKind
requests_at Client channel life history = requests_in (items_sent Client channel life history)
requests_at Server channel life history = requests_in (items_acted Server channel life history)

abbrev pub replies_at : Role → (channel life : ℕ) → History → List MethodKind
replies_at Client channel life history = replies_in (items_acted Client channel life history)
replies_at Server channel life history = replies_in (items_sent Server channel life history)

-- the requests of a life after those that have their replies
abbrev pub unanswered_at : Role → (channel life : ℕ) → History → List MethodKind
unanswered_at role channel life history =
    drop (length (replies_at role channel life history)) (requests_at role channel life history)

-- the life that a channel is in, as its end counts, up to where it put connection.close
abbrev pub life_here : Role → (channel : ℕ) → History → ℕ
life_here role channel history = lives role (before_leaving (notes_on channel history))

-- Of one end.

-- in each life the n-th reply answers the n-th request
abbrev pub AnswersInTurn : Type 0
AnswersInTurn =
    (role : Role) (config : Config role) (history : History) (n life : ℕ)
    → WritesReadBack role config → Lawful role config false history
    → InTurn (replies_at role (suc n) life history) (requests_at role (suc n) life history)

-- a client has sent at most one request more than it has replies
abbrev pub AsksOneAtATime : Type 0
AsksOneAtATime =
    (config : Config Client) (history : History) (n life : ℕ)
    → WritesReadBack Client config → Lawful Client config false history
    → length (requests_at Client (suc n) life history) ≤ suc (length (replies_at Client (suc n) life history))

-- an Open channel keeps the requests of its life that have no reply, in order
abbrev pub KeepsUnanswered : Type 0
KeepsUnanswered =
    (role : Role) (config : Config role) (end : End) (history : History) (n : ℕ) (life : Life)
    → WritesReadBack role config → Lawful role config false history → StandsFor role config false end history
    → end.channels (suc n) ≡ Open life
    → life.requests ≡ unanswered_at role (suc n) (life_here role (suc n) history) history

-- and the reply that is due is to the first of them
abbrev pub DueIsFirst : (role : Role) → Config role → End → History → (n : ℕ) → Life → Type 0
DueIsFirst role config end history n life =
    WritesReadBack role config → Lawful role config false history → StandsFor role config false end history
    → end.channels (suc n) ≡ Open life → takes_octets end.phase ≡ true
    → reply_due end (suc n) ≡ first_request (unanswered_at role (suc n) (life_here role (suc n) history) history)

-- The reply that is due is to the first request without one.
abbrev pub EveryDueIsFirst : Type 0
EveryDueIsFirst =
    (role : Role) (config : Config role) (end : End) (history : History) (n : ℕ) (life : Life)
    → DueIsFirst role config end history n life

-- Of two ends: the replies that the server sent, and those of them that the client acted on, answer in turn the
-- requests that the client sent, and those of them that the server acted on.
pub record AllInTurn (channel life : ℕ) (client server : History) : Type 0 where
  pub sent_sent :
      InTurn (replies_in (items_sent Server channel life server)) (requests_in (items_sent Client channel life client))
  pub sent_acted :
      InTurn (replies_in (items_sent Server channel life server)) (requests_in (items_acted Server channel life server))
  pub acted_sent :
      InTurn (replies_in (items_acted Client channel life client)) (requests_in (items_sent Client channel life client))
  pub acted_acted :
      InTurn (replies_in (items_acted Client channel life client))
      (requests_in (items_acted Server channel life server))

-- Between two ends the replies of the life of a channel answer its requests in turn.
abbrev pub PairAnswersInTurn : Type 0
PairAnswersInTurn =
    (client_config : Config Client) (server_config : Config Server) (client server : History) (n life : ℕ)
    → PairAt Client client_config server_config client server → AllInTurn (suc n) life client server
