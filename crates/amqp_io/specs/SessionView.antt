-- What callers see of a session: its end, its stream, and what it keeps between two calls.
use Rattle.std.specs.Prelude.{ℕ, List}
use Rattle.amqp_model.specs.History.Negotiation.{Config}
use Rattle.amqp_model.specs.Wire.Notes.{Role}
use Rattle.amqp_core.specs.End.View.{config_at, endpoint_of, role_played, settings_at}
use Rattle.amqp_core.specs.declared.end.End.{End}
use Rattle.amqp_core.specs.Events.{Event}
use Rattle.amqp_core.specs.declared.roles.Role.{Ghosts}
use Rattle.amqp_core.specs.declared.settings.Settings.{Settings}
use Rattle.amqp_io.specs.Intakes.{Intake}
use Rattle.amqp_io.specs.declared.session.Session.{Session}

abbrev pub end_of : {R H S : Type 0} {G : Ghosts R H} → Session R S H G → End R H G
end_of session = session.end

abbrev pub stream_of : {R H S : Type 0} {G : Ghosts R H} → Session R S H G → S
stream_of session = session.stream

-- the octets that were read and not fed
abbrev pub unfed_in : {R H S : Type 0} {G : Ghosts R H} → Session R S H G → List ℕ
unfed_in session = session.unfed.octets

-- how many octets a read takes at most
abbrev pub room_in : {R H S : Type 0} {G : Ghosts R H} → Session R S H G → ℕ
room_in session = session.unfed.room

-- the events that were not handed out, oldest first
abbrev pub events_in : {R H S : Type 0} {G : Ghosts R H} → Session R S H G → List Event
events_in session = session.events.items

abbrev pub intake_of : {R H S : Type 0} {G : Ghosts R H} → Session R S H G → Intake
intake_of session = record {
  endpoint = endpoint_of session.end;
  octets = session.unfed.octets;
  events = session.events.items;
}

-- what the end is set up with
abbrev pub settings_in : {R H S : Type 0} {G : Ghosts R H} → Session R S H G → Settings
settings_in session = settings_at session.end

abbrev pub role_in : {R H S : Type 0} {G : Ghosts R H} → Session R S H G → Role
role_in session = role_played session.end

abbrev pub config_in : {R H S : Type 0} {G : Ghosts R H} → (session : Session R S H G) → Config (role_in session)
config_in session = config_at session.end
