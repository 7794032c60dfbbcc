-- What is done with a link: its steps, one by one and one after another.
use Rattle.std.specs.Prelude.{◌≡◌, ◌≢◌, ◌≤◌, ℕ, suc, List, [], ◌∷◌, ◌++◌, length, take, Option, Some, None, Result, Ok, Err, slice_get, slice_set}
use Rattle.std.specs.Option.{option_or}
use Rattle.amqp_model.specs.End.Fitting.{config_fault}
use Rattle.amqp_model.specs.End.Fitting as model
use Rattle.amqp_model.specs.History.Negotiation.{Config}
use Rattle.amqp_model.specs.Wire.Notes.{Role}
use Rattle.amqp_core.specs.Asks.View.{ask_view}
use Rattle.amqp_core.specs.Faults.Numbers.{config_fault_view}
use Rattle.amqp_core.specs.Roles.{role_of}
use Rattle.amqp_core.specs.declared.faults.ConfigFault.{ConfigFault}
use Rattle.amqp_link.specs.ConnectionSteps.{ConnectionAsked, ConnectionCarries, ConnectionControlled, ConnectionDrops, IsNewConnection}
use Rattle.amqp_link.specs.ControlView.{control_view}
use Rattle.amqp_link.specs.SeatSteps.{Answer}
use Rattle.amqp_link.specs.Seats.{Joint}
use Rattle.amqp_link.specs.declared.faults.LinkFault.{LinkFault}
use Rattle.amqp_link.specs.declared.faults.LinkFault.TheVariants as faults
use Rattle.amqp_link.specs.declared.steps.Step.{Step}
use Rattle.amqp_link.specs.declared.steps.Step.TheVariants as steps

-- A link: what its clients and servers are set up with, and its connections, the oldest first.
pub record Linked : Type 0 where
  pub client : (role : Role) × Config role
  pub server : (role : Role) × Config role
  pub connections : List Joint

-- a link with these connections
abbrev pub with_connections : Linked → List Joint → Linked
with_connections link connections = record { client = link.client; server = link.server; connections = connections }

-- a new connection, after the others
pub record BeginsOne (old new : Linked) : Type 0 where
  pub joint : Joint
  pub is_new : IsNewConnection old.client old.server joint
  pub last : new ≡ with_connections old (old.connections ++ joint ∷ [])

-- a connection begins, unless memory is refused
abbrev pub Begins : (old : Linked) → Answer → (new : Linked) → Type 0
Begins old (Ok done) new = BeginsOne old new
Begins old (Err faults.OutOfMemory) new = new ≡ old
Begins old (Err fault) new = ⊥

-- something is done with one connection, and the others stay as they are
pub record DoesAt (does : Joint → Joint → Type 0) (index : ℕ) (old new : Linked) : Type 0 where
  pub here : Joint
  pub there : Joint
  pub found : slice_get old.connections index ≡ Some here
  pub done : does here there
  pub others : new ≡ with_connections old (slice_set old.connections index there)

-- It is done with this connection, or no connection with this number has begun.
pub data DoneAt (does : Joint → Answer → Joint → Type 0) (index : ℕ) (old : Linked) (answer : Answer)
    (new : Linked) : Type 0 where
  missing : length old.connections ≤ index → answer ≡ Err faults.NoSuchConnection → new ≡ old
      → DoneAt does index old answer new
  done : DoesAt (λ here there. does here answer there) index old new → DoneAt does index old answer new

-- a step, with its answer
abbrev pub Steps : (old : Linked) → Step → Answer → (new : Linked) → Type 0
Steps old steps.Begin answer new = Begins old answer new
Steps old (steps.Ask index side ask) answer new = DoneAt
    (ConnectionAsked (role_of side) (ask_view ask)) index old answer new
Steps old (steps.Control index side control) answer new = DoneAt
    (ConnectionControlled (role_of side) (control_view control)) index old answer new
Steps old (steps.Carry index direction octets) answer new = DoneAt
    (ConnectionCarries direction octets) index old answer new
Steps old (steps.Drop index side) answer new = DoneAt (ConnectionDrops (role_of side)) index old answer new

-- Steps one after another, of which so many were refused for another reason than being out of memory.
pub data Runs (old : Linked) : List Step → (refused : ℕ) → (new : Linked) → Type 0 where
  nothing : Runs old [] 0 old
  does : {before : List Step} {refused : ℕ} {then new : Linked} (step : Step) → Runs old before refused then → Steps
      then step (Ok (tt {0})) new
      → Runs old (before ++ step ∷ []) refused new
  refuses : {before : List Step} {refused : ℕ} {then new : Linked} (step : Step) (fault : LinkFault)
      → Runs old before refused then
      → fault ≢ faults.OutOfMemory → Steps then step (Err fault) new → Runs old (before ++ step ∷ []) (suc refused) new

-- Memory was refused at the step with this index, and the steps after it weren't done.
pub record StopsAt (index : ℕ) (old : Linked) (all : List Step) (new : Linked) : Type 0 where
  pub step : Step
  pub found : slice_get all index ≡ Some step
  pub refused : ℕ
  pub then : Linked
  pub runs : Runs old (take index all) refused then
  pub stops : Steps then step (Err faults.OutOfMemory) new

abbrev pub RunsTo : (old : Linked) → List Step → Result ℕ ℕ → (new : Linked) → Type 0
RunsTo old all (Ok refused) new = Runs old all refused new
RunsTo old all (Err index) new = StopsAt index old all new

-- Setting up.

-- why an end can't be set up so, if it can't
abbrev fault_in : (set_up : (role : Role) × Config role) → Option model.ConfigFault
fault_in set_up = config_fault set_up.0 set_up.1

-- an end can be set up so
abbrev pub Fits : (set_up : (role : Role) × Config role) → Type 0
Fits set_up = fault_in set_up ≡ None

-- A link of no connection, of two ends that can be set up so.
pub record IsNewLink (client server : (role : Role) × Config role) (link : Linked) : Type 0 where
  pub client_fits : Fits client
  pub server_fits : Fits server
  pub empty : link ≡ record { client = client; server = server; connections = [] }

-- Why an end isn't set up so: the fault that applies. Out of memory, none does.
abbrev pub IsFaultOf : (set_up : (role : Role) × Config role) → ConfigFault → Type 0
IsFaultOf set_up fault = config_fault_view fault ≡ fault_in set_up

-- Why no link is made: the client's fault, or else the server's. Out of memory, neither has one.
abbrev pub FitsNot : (client server : (role : Role) × Config role) → ConfigFault → Type 0
FitsNot client server fault = config_fault_view fault ≡ option_or (fault_in client) (fault_in server)
