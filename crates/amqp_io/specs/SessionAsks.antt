-- What an ask of a session does, and what its application decides: what it does of the end, and nothing else.
use Rattle.std.specs.Prelude.{◌≡◌, Result}
use Rattle.amqp_model.specs.End.Asks.{Ask}
use Rattle.amqp_model.specs.End.Controls.{Control}
use Rattle.amqp_core.specs.End.Asks as ends
use Rattle.amqp_core.specs.End.Controls as controls
use Rattle.amqp_core.specs.declared.faults.AskFault.{AskFault}
use Rattle.amqp_core.specs.declared.roles.Role.{Ghosts}
use Rattle.amqp_io.specs.SessionView.{end_of, events_in, room_in, stream_of, unfed_in}
use Rattle.amqp_io.specs.declared.session.Session.{Session}

pub record Asked {A R H S : Type 0} {G : Ghosts R H} (old : Session R S H G) (ask : Ask) (result : Result A AskFault)
    (new : Session R S H G) : Type 0 where
  -- The end does it, or refuses.
  pub asked : ends.Asked (end_of old) ask result (end_of new)
  -- Nothing is read or written.
  pub stream : stream_of new ≡ stream_of old
  -- What was read and not fed stays, and so do the events.
  pub unfed : unfed_in new ≡ unfed_in old
  pub events : events_in new ≡ events_in old
  pub room : room_in new ≡ room_in old

pub record Controlled {A R H S : Type 0} {G : Ghosts R H} (old : Session R S H G) (control : Control)
    (result : Result A AskFault) (new : Session R S H G) : Type 0 where
  -- The end does it, or refuses.
  pub controlled : controls.Controlled (end_of old) control result (end_of new)
  -- Nothing is read or written.
  pub stream : stream_of new ≡ stream_of old
  -- What was read and not fed stays, and so do the events.
  pub unfed : unfed_in new ≡ unfed_in old
  pub events : events_in new ≡ events_in old
  pub room : room_in new ≡ room_in old
