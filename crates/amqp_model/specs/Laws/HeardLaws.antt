-- What holds of what the other end said in the handshake: the statements that the public laws carry.
use Rattle.std.specs.Prelude.{◌≡◌, ◌↔◌, Bool, true, false, List, [], ◌∷◌, ◌++◌, Option, Some}
use Rattle.std.specs.Prelude.{None}
use Rattle.amqp_method.specs.declared.kinds.Kind.TheVariants as kinds
use Rattle.amqp_model.specs.Wire.Frame.{Frame}
use Rattle.amqp_model.specs.Wire.Notes.{Role, Client, Server}
use Rattle.amqp_model.specs.Wire.Methods.{MethodKind, Method, same_kind}
use Rattle.amqp_model.specs.Wire.Readings.{Calls, reading}
use Rattle.amqp_model.specs.History.Histories.{Entry, Put, Took, History}
use Rattle.amqp_model.specs.End.Channels.{HandshakeStep, Handshake, End}
use Rattle.amqp_model.specs.History.Negotiation.{Config}
use Rattle.amqp_model.specs.End.StateFromHistory.{end_from}
use Rattle.amqp_model.specs.End.FrameVerdict.{is_awaited}
use Rattle.amqp_model.specs.End.EndVerdict.{end_verdict, goes_on}
use Rattle.amqp_model.specs.End.LawfulHistories.{Goes, Lawful, then_put, then_taken, end_of}
use Rattle.amqp_model.specs.End.ReadingBack.{WritesReadBack}
use Rattle.amqp_model.specs.End.Machine.{StandsFor}
use Rattle.amqp_model.specs.Lent.Alike.{AlikeEnds}
use Rattle.amqp_model.specs.End.Heard.{hears, heard, Heard, nothing_heard, heard_after}

-- What is kept is what was heard, of each kind.
pub record KeepsHeard (role : Role) (config : Config role) (kept : Heard) (history : History) : Type 0 where
  pub start : kept.start ≡ heard role config kinds.ConnectionStart history
  pub start_ok : kept.start_ok ≡ heard role config kinds.ConnectionStartOk history
  pub tune : kept.tune ≡ heard role config kinds.ConnectionTune history
  pub tune_ok : kept.tune_ok ≡ heard role config kinds.ConnectionTuneOk history
  pub connection_open : kept.connection_open ≡ heard role config kinds.ConnectionOpen history

-- At the beginning nothing was heard, and nothing is kept.
abbrev pub HeardBegins : Type 0
HeardBegins =
    (role : Role) (config : Config role)
    → KeepsHeard role config nothing_heard []

-- What is kept is what was heard still after each frame that is taken, whether the end goes on with it or not.
abbrev pub HeardFollows : Type 0
HeardFollows =
    (role : Role) (config : Config role) (end : End) (history : History) (frame : Frame) (kept : Heard)
    → StandsFor role config false end history → KeepsHeard role config kept history
    → KeepsHeard role config (heard_after (hears config end frame) kept) (then_taken config end frame history)

-- Frames that are put leave what was heard.
abbrev pub HeardStays : Type 0
HeardStays =
    (role : Role) (config : Config role) (history : History) (frames : List Frame) (kept : Heard)
    → KeepsHeard role config kept history → KeepsHeard role config kept (then_put frames history)

-- so with each step of an end
abbrev heard_then : {role : Role} → Config role → End → (taken : Option Frame) → Heard → Heard
heard_then config end (Some frame) kept = heard_after (hears config end frame) kept
heard_then config end None kept = kept

-- What is kept is what was heard still after each step of an end.
abbrev pub StepKeepsHeard : Type 0
StepKeepsHeard =
    (role : Role) (config : Config role) (before : History) (taken : Option Frame) (failed : Bool) (after : History)
    (kept : Heard)
    → WritesReadBack role config → Lawful role config false before → Goes role config before taken failed after
    → KeepsHeard role config kept before
    → KeepsHeard role config (heard_then config (end_of config before) taken kept) after

-- Alike ends hear the same.
abbrev pub HearsAlike : Type 0
HearsAlike =
    (role : Role) (config : Config role) (one other : End) (frame : Frame) → AlikeEnds one other
    → hears config one frame ≡ hears config other frame

-- What was heard was taken on channel 0, awaited in the handshake, and gone on with; and no such method came since.

-- the end hears a method of this kind
abbrev pub is_of : MethodKind → Option Method → Bool
is_of kind (Some method) = same_kind method.kind kind
is_of kind None = false

abbrev pub is_heard : (role : Role) → Config role → MethodKind → Entry → (before : History) → Bool
is_heard role config kind (Took frame) before = is_of kind (hears config (end_from role config false before) frame)
is_heard role config kind (Put frame) before = false

abbrev pub NoneHeard : (role : Role) → Config role → MethodKind → (later before : History) → Type 0
NoneHeard role config kind [] before = Unit {0}
NoneHeard role config kind (entry ∷ later) before =
    (is_heard role config kind entry (later ++ before) ≡ false) × NoneHeard role config kind later before

pub record WasHeard (role : Role) (config : Config role) (kind : MethodKind) (history : History)
    (method : Method) : Type 0 where
  pub later : History
  pub frame : Frame
  pub before : History
  pub history_is : history ≡ later ++ Took frame ∷ before
  pub on_zero : frame.channel ≡ 0
  pub says : reading frame ≡ Calls method
  pub of_kind : same_kind method.kind kind ≡ true
  pub step : HandshakeStep
  pub in_step : (end_from role config false before).phase ≡ Handshake step
  pub awaited : is_awaited step method.kind ≡ true
  pub goes : goes_on (end_verdict config (end_from role config false before) frame) ≡ true
  pub last : NoneHeard role config kind later (Took frame ∷ before)

-- A method is heard in a history exactly when it was taken on channel 0, awaited in the handshake and gone on with, and
-- no other of its kind was heard since.
abbrev pub HeardReads : Type 0
HeardReads =
    (role : Role) (config : Config role) (kind : MethodKind) (history : History) (method : Method)
    → (heard role config kind history ≡ Some method) ↔ WasHeard role config kind history method

-- A client hears none of what a server does, and a server none of what a client does.
pub record HearsNoneElse (client_config : Config Client) (server_config : Config Server)
    (history : History) : Type 0 where
  pub start_ok : heard Client client_config kinds.ConnectionStartOk history ≡ None
  pub tune_ok : heard Client client_config kinds.ConnectionTuneOk history ≡ None
  pub connection_open : heard Client client_config kinds.ConnectionOpen history ≡ None
  pub start : heard Server server_config kinds.ConnectionStart history ≡ None
  pub tune : heard Server server_config kinds.ConnectionTune history ≡ None

-- A client hears nothing of what only a client says in the handshake, and a server nothing of what only a server says.
abbrev pub EachHearsItsOwn : Type 0
EachHearsItsOwn =
    (client_config : Config Client) (server_config : Config Server) (history : History)
    → HearsNoneElse client_config server_config history
