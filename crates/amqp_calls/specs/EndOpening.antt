-- A handle opened with an end: what C says of it, what the end is then set up with, and why it isn't opened.
use Rattle.std.specs.Prelude.{Box, Bool, true, false, ◌≡◌, ℕ, [], Option, Some}
use Rattle.std.specs.Prelude.{None, ◌⊎◌}
use Rattle.std.specs.Global.{Global}
use Rattle.amqp_value.specs.Whole.{table_encoded}
use Rattle.amqp_model.specs.End.Fitting.{config_fault}
use Rattle.amqp_model.specs.History.Negotiation as model
use Rattle.amqp_model.specs.Wire.Notes.{Role}
use Rattle.amqp_core.specs.End.Beginning.{IsNewEnd}
use Rattle.amqp_core.specs.Config.Configs.{set_up_as}
use Rattle.amqp_core.specs.Faults.Numbers.{config_fault_view}
use Rattle.amqp_core.specs.Stream.Turning.{TurnsLending}
use Rattle.amqp_core.specs.declared.end.End.{End}
use Rattle.amqp_core.specs.declared.roles.Role.{Ghosts}
use Rattle.amqp_core.specs.declared.settings.Settings.{Settings}
use Rattle.amqp_core.specs.declared.stream.StreamEnd.{StreamEnd}
use Rattle.amqp_handle.specs.Gathered.{coming, counts}
use Rattle.amqp_handle.specs.declared.gathering.Gathering.{Gathering}
use Rattle.amqp_handle.specs.declared.kept.HeldEnd.{HeldEnd}
use Rattle.amqp_handle.specs.declared.kept.HeldEnd.TheVariants.{Client, Server}
use Rattle.amqp_handle.specs.declared.kept.Kept.{Kept}
use Rattle.amqp_calls.specs.CodecStatuses.{value_status}
use Rattle.amqp_calls.specs.EndNumbers.{config_status}
use Rattle.amqp_calls.specs.Writing.{NotCounted, NotTable}
use Rattle.amqp_calls.specs.declared.codec.owned.ArgFault.{ArgFault}
use Rattle.amqp_calls.specs.declared.codec.owned.ArgFault.TheVariants as arg
use Rattle.amqp_calls.specs.declared.ends.opening.ClientSettings.{ClientSettings}
use Rattle.amqp_calls.specs.declared.ends.opening.ServerSettings.{ServerSettings}
use Rattle.amqp_calls.specs.declared.ends.opening.OpenFault.{OpenFault}
use Rattle.amqp_calls.specs.declared.ends.opening.OpenFault.TheVariants.{Given, Config}

-- what a client says of itself, and what it is set up with
abbrev pub client_said : ClientSettings → model.Hello Role.Client
client_said given =
    model.OfClient (table_encoded given.properties.now) given.mechanism.now given.response.now
    given.locale.now given.virtual_host.now

abbrev pub client_set_up : ClientSettings → (role : Role) × model.Config role
client_set_up given = (
  Role.Client,
  record {
    frame_max = given.frame_max;
    channel_max = given.channel_max;
    max_body = given.max_body;
    heartbeat = given.heartbeat;
    gated = given.gated;
    hello = client_said given;
  },
)

-- the same of a server
abbrev pub server_said : ServerSettings → model.Hello Role.Server
server_said given = model.OfServer (table_encoded given.properties.now) given.mechanisms.now given.locales.now

abbrev pub server_set_up : ServerSettings → (role : Role) × model.Config role
server_set_up given = (
  Role.Server,
  record {
    frame_max = given.frame_max;
    channel_max = given.channel_max;
    max_body = given.max_body;
    heartbeat = given.heartbeat;
    gated = given.gated;
    hello = server_said given;
  },
)

-- a new end, in the words of the model
pub record BeginsAs {R H : Type 0} {G : Ghosts R H} (set_up : (role : Role) × model.Config role)
    (end : End R H G) : Type 0 where
  -- its settings are what it is set up with
  pub settings : Settings
  pub set_up_is : set_up_as settings ≡ set_up
  -- and it begins with them
  pub begins : IsNewEnd settings end

-- nothing is gathered yet
abbrev pub IsEmpty : Gathering → Type 0
IsEmpty gathering =
    (gathering.places.items ≡ []) × ((channel : ℕ) → coming gathering channel ≡ None) × (counts gathering ≡ record { heads = 0; bodies = 0 })
    × (gathering.is_lost ≡ false)

-- what is kept beside an end: nothing where it lends, else what it gathers
abbrev pub GathersAs : (lends : Bool) → Option (Box Gathering Global) → Type 0
GathersAs true gathering = gathering ≡ None
GathersAs false None = ⊥
GathersAs false (Some gathering) = IsEmpty gathering.value

-- an end that one which begins so turns into, and what it gathers
pub record Holds {R H : Type 0} {G : Ghosts R H} (set_up : (role : Role) × model.Config role) (lends : Bool)
    (kept : Kept (StreamEnd R H G)) : Type 0 where
  pub end : End R H G
  pub begins : BeginsAs set_up end
  pub turns : TurnsLending end kept.end.value
  pub gathers : GathersAs lends kept.gathering

-- why nothing is made of what is given: the properties aren't a table, or a text is longer than 255 octets
abbrev pub NotClientHello : ClientSettings → ArgFault → Type 0
NotClientHello given fault =
    (NotTable given.properties.now fault ⊎ NotCounted 256 given.mechanism.now fault)
    ⊎ (NotCounted 256 given.locale.now fault ⊎ NotCounted 256 given.virtual_host.now fault)

abbrev pub NotServerHello : ServerSettings → ArgFault → Type 0
NotServerHello given fault = NotTable given.properties.now fault

-- why an end isn't made: nothing is made of what is given, or it can't be set up so
abbrev pub NotClient : ClientSettings → OpenFault → Type 0
NotClient given (Given fault) = NotClientHello given fault
NotClient given (Config fault) = config_fault_view fault ≡ config_fault Role.Client (client_set_up given).1

abbrev pub NotServer : ServerSettings → OpenFault → Type 0
NotServer given (Given fault) = NotServerHello given fault
NotServer given (Config fault) = config_fault_view fault ≡ config_fault Role.Server (server_set_up given).1

abbrev pub open_status : OpenFault → ℕ
open_status (Given arg.Misfit) = 9
open_status (Given (arg.Inside fault)) = value_status fault.kind
open_status (Given arg.OutOfMemory) = 4
open_status (Config fault) = config_status fault

-- it stays closed: memory is refused, or there is a fault
abbrev StaysClosed : (OpenFault → Type 0) → ℕ → Type 0
StaysClosed Not status = (status ≡ 4) ⊎ ((fault : OpenFault) × Not fault × (status ≡ open_status fault))

-- what a client that is set up so is held as
abbrev pub HoldsClient : ClientSettings → HeldEnd → Type 0
HoldsClient given (Client kept) = Holds (client_set_up given) given.lends kept
HoldsClient given (Server kept) = ⊥

abbrev pub HoldsServer : ServerSettings → HeldEnd → Type 0
HoldsServer given (Server kept) = Holds (server_set_up given) given.lends kept
HoldsServer given (Client kept) = ⊥

-- a closed handle is opened with this, or stays closed; an open one stays as it is
abbrev Opens : (HeldEnd → Type 0) → (OpenFault → Type 0) → (old : Option HeldEnd) → ℕ
    → (new : Option HeldEnd) → Type 0
Opens Holds Not None status (Some held) = (status ≡ 0) × Holds held
Opens Holds Not None status None = StaysClosed Not status
Opens Holds Not (Some held) status new = (status ≡ 2) × (new ≡ Some held)

abbrev pub OpensClient : Option HeldEnd → ClientSettings → ℕ → Option HeldEnd → Type 0
OpensClient old given status new = Opens (HoldsClient given) (NotClient given) old status new

abbrev pub OpensServer : Option HeldEnd → ServerSettings → ℕ → Option HeldEnd → Type 0
OpensServer old given status new = Opens (HoldsServer given) (NotServer given) old status new
