-- An end as it begins: nothing was put or taken, fed or written.
use Rattle.std.specs.Prelude.{◌≡◌, None, []}
use Rattle.amqp_model.specs.End.Fitting.{ConfigWrites, config_fault}
use Rattle.amqp_model.specs.Laws.OctetLaws.{EndpointStandsFor}
use Rattle.amqp_model.specs.End.ReadingBack.{WritesReadBack}
use Rattle.amqp_model.specs.Stream.Endpoint.{new_endpoint}
use Rattle.amqp_core.specs.Config.Settings.{config_view, role_for}
use Rattle.amqp_core.specs.End.Counters.{nothing_counted}
use Rattle.amqp_core.specs.End.View.{config_at, counters_of, endpoint_of, heard_in, role_played, settings_at}
use Rattle.amqp_core.specs.Faults.Numbers.{config_fault_view}
use Rattle.amqp_core.specs.Heard.View.{nothing_said}
use Rattle.amqp_core.specs.declared.end.End.{End}
use Rattle.amqp_core.specs.declared.faults.ConfigFault.{ConfigFault}
use Rattle.amqp_core.specs.declared.roles.Role.{Ghosts}
use Rattle.amqp_core.specs.declared.settings.Settings.{Settings}

pub record BeginsHistory {R H : Type 0} {G : Ghosts R H} (end : End R H G) : Type 0 where
  -- It stands for the empty history, with nothing fed and nothing written.
  pub stands : EndpointStandsFor (role_played end) (config_at end) (endpoint_of end) [] [] []
  -- What its configuration says of it can be written.
  pub writes : ∥ ConfigWrites (config_at end) ∥₁
  -- All that the end writes of itself reads back.
  pub reads_back : ∥ WritesReadBack (role_played end) (config_at end) ∥₁

-- A new end, of these settings.
pub record IsNewEnd {R H : Type 0} {G : Ghosts R H} (settings : Settings) (end : End R H G) : Type 0 where
  -- It is a new endpoint of the definitions.
  pub endpoint : endpoint_of end ≡ new_endpoint (role_played end)
  -- It is set up with the settings.
  pub settings_are : settings_at end ≡ settings
  -- They have no fault.
  pub faultless : config_fault (role_played end) (config_at end) ≡ None
  -- It stands for the empty history, and what it writes of itself reads back.
  pub history : BeginsHistory end
  -- It has counted nothing.
  pub counters : counters_of end ≡ nothing_counted
  -- It has heard nothing.
  pub heard : heard_in end ≡ nothing_said

-- Why no end is made of these settings: the fault that is in them. Out of memory, none is.
abbrev pub IsFaultIn : Settings → ConfigFault → Type 0
IsFaultIn settings fault = config_fault_view fault ≡ config_fault (role_for settings) (config_view settings)
