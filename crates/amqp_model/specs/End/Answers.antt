-- What an end answers of its channels.
use Rattle.std.specs.Prelude.{cond, ◌||◌, ℕ, ◌==◌, nat_lt, List, [], ◌∷◌, length, Option, Some, None}
use Rattle.amqp_model.specs.History.States.{State}
use Rattle.amqp_model.specs.Wire.Methods.{MethodKind}
use Rattle.amqp_model.specs.Wire.Gathering.{kept}
use Rattle.amqp_model.specs.End.Channels.{Channel, Open, Phase, Running, Closed, Failed, End, state_of}
use Rattle.amqp_model.specs.End.Asks.{channel_max}

-- a connection that is closed, or an end that has failed, has no channel that is not Free
abbrev pub state_in : Phase → Channel → State
state_in Closed channel = State.Free
state_in Failed channel = State.Free
state_in phase channel = state_of channel

-- the state of a channel; that of 0, and of a number above the agreed maximum, is Free
abbrev pub channel_state : End → (number : ℕ) → State
channel_state end number =
    cond ((number == 0) || nat_lt (channel_max end.agreed) number) State.Free (state_in end.phase (end.channels number))

abbrev pub kept_by : Channel → List ℕ
kept_by (Open life) = kept life.content
kept_by channel = []

abbrev pub kept_in : Phase → Channel → List ℕ
kept_in Running channel = kept_by channel
kept_in phase channel = []

-- how many octets of a body are kept of the content under way, while the connection is Running
abbrev pub octets_gathered : End → (number : ℕ) → ℕ
octets_gathered end number = length (kept_in end.phase (end.channels number))

abbrev pub first_request : List MethodKind → Option MethodKind
first_request [] = None
first_request (request ∷ later) = Some request

abbrev pub due_by : Channel → Option MethodKind
due_by (Open life) = first_request life.requests
due_by channel = None

abbrev pub due_in : Phase → Channel → Option MethodKind
due_in Closed channel = None
due_in Failed channel = None
due_in phase channel = due_by channel

-- the request that waits for its reply: at a client the one that it sent, at a server the oldest that it took
abbrev pub reply_due : End → (number : ℕ) → Option MethodKind
reply_due end number = due_in end.phase (end.channels number)
