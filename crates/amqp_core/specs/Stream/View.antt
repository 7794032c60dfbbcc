-- What callers see of an end whose events lend: an endpoint of the model, of a role and with a configuration. Of a
-- content under way it keeps how far it has come, and no octet that could be looked at.
use Rattle.std.specs.Prelude.{Option, Result, Ok, Err}
use Rattle.amqp_frame.specs.Frame as frames
use Rattle.amqp_model.specs.Stream.Endpoint.{Endpoint}
use Rattle.amqp_model.specs.History.Negotiation.{Config}
use Rattle.amqp_model.specs.Wire.Notes.{Role}
use Rattle.amqp_core.specs.Faults.Blamed.{tally_view}
use Rattle.amqp_core.specs.End.Counters.{Counters}
use Rattle.amqp_core.specs.End.EndpointView.{endpoint_view}
use Rattle.amqp_core.specs.Stream.EventRefView.{event_ref_there}
use Rattle.amqp_core.specs.Heard.View.{Said, heard_view}
use Rattle.amqp_core.specs.Stream.Lending.{LentSeen}
use Rattle.amqp_core.specs.Config.Settings.{config_view, role_for}
use Rattle.amqp_core.specs.declared.faults.CoreFault.{CoreFault}
use Rattle.amqp_core.specs.declared.roles.Role.{Ghosts}
use Rattle.amqp_core.specs.declared.settings.Settings.{Settings}
use Rattle.amqp_core.specs.declared.stream.StreamEnd.{StreamEnd}
use Rattle.amqp_core.specs.declared.taken.TakenRef.{TakenRef}

-- what it is set up with
abbrev pub settings_at : {R H : Type 0} {G : Ghosts R H} → StreamEnd R H G → Settings
settings_at end = end.inner.connection.settings

abbrev pub role_played : {R H : Type 0} {G : Ghosts R H} → StreamEnd R H G → Role
role_played end = role_for (settings_at end)

abbrev pub config_at : {R H : Type 0} {G : Ghosts R H} → (end : StreamEnd R H G) → Config (role_played end)
config_at end = config_view (settings_at end)

-- what it keeps, the octets that are no whole frame yet, and what it has to write
abbrev pub endpoint_of : {R H : Type 0} {G : Ghosts R H} → StreamEnd R H G → Endpoint
endpoint_of end = endpoint_view end.inner

-- what it has counted
abbrev pub counters_of : {R H : Type 0} {G : Ghosts R H} → StreamEnd R H G → Counters
counters_of end = record { frames = end.frames_taken; octets = end.octets_written; tally = tally_view end.inner.tally }

-- what it keeps of the other end's words
abbrev pub heard_in : {R H : Type 0} {G : Ghosts R H} → StreamEnd R H G → Said
heard_in end = heard_view end.heard

-- the frame that the last call gave by way of the buffer
abbrev pub given_in : {R H : Type 0} {G : Ghosts R H} → StreamEnd R H G → Option frames.Frame
given_in end = end.inner.splitter.given

-- what is answered to a piece
abbrev taken_lent : TakenRef → LentSeen
taken_lent taken = record { octets = taken.octets; event = event_ref_there taken.event }

abbrev pub taken_seen : Result TakenRef CoreFault → Result LentSeen CoreFault
taken_seen (Ok taken) = Ok (taken_lent taken)
taken_seen (Err fault) = Err fault
