-- What each call of a session does that reads, writes or hands out an event: a record a call. Read before: what a pull,
-- a push and a turn make of octets and events (`Sessions`), and when a stream's marks change (`Streams`).
use Rattle.std.specs.Prelude.{◌≡◌, ◌⊎◌, ℕ, ◌++◌, [], option_to_list, Option, None, Result, Err}
use Rattle.amqp_core.specs.End.View.{endpoint_of}
use Rattle.amqp_core.specs.Events.{Event}
use Rattle.amqp_core.specs.declared.end.End.{End}
use Rattle.amqp_core.specs.declared.roles.Role.{Ghosts}
use Rattle.amqp_io.specs.SessionView.{config_in, end_of, events_in, intake_of, role_in, room_in, settings_in, stream_of, unfed_in}
use Rattle.amqp_io.specs.Sessions.{due, Pulls, Pushes, Turns}
use Rattle.amqp_io.specs.Streams.{Marks}
use Rattle.amqp_io.specs.declared.faults.IoFault.{IoFault}
use Rattle.amqp_io.specs.declared.faults.IoFault.TheVariants as io
use Rattle.amqp_io.specs.declared.session.Session.{Session}
use Rattle.amqp_io.specs.declared.stream.Stream as stream

-- As it begins.
pub record Began {R H S : Type 0} {G : Ghosts R H} (room : ℕ) (end : End R H G) (over : S)
    (session : Session R S H G) : Type 0 where
  pub end_is : end_of session ≡ end
  pub stream_is : stream_of session ≡ over
  -- Nothing is read, and no event waits.
  pub unfed : unfed_in session ≡ []
  pub events : events_in session ≡ []
  -- so many octets are read at once, at most
  pub room_is : room_in session ≡ room

-- An event is handed out.
pub record Handed {R H S : Type 0} {G : Ghosts R H} (old : Session R S H G) (event : Option Event)
    (new : Session R S H G) : Type 0 where
  -- It is the oldest, and the others stay.
  pub first : events_in old ≡ option_to_list event ++ events_in new
  -- None is handed out only where there is none.
  pub none : event ≡ None → events_in old ≡ []
  -- Nothing else changes.
  pub end_stays : end_of new ≡ end_of old
  pub stream_stays : stream_of new ≡ stream_of old
  pub unfed : unfed_in new ≡ unfed_in old
  pub room : room_in new ≡ room_in old

-- Octets of the output are written.
pub record Pushed {R H S : Type 0} {G : Ghosts R H} (of : stream.Ghosts S) (limit : ℕ) (old : Session R S H G)
    (result : Result ℕ IoFault) (new : Session R S H G) : Type 0 where
  -- The stream takes a prefix of the output, which counts as written: all that is due, or less where it fails.
  pub pushed : Pushes limit result (endpoint_of (end_of old)) (endpoint_of (end_of new)) (of.taken (stream_of old))
      (of.taken (stream_of new))
  -- Where nothing is due the stream isn't touched.
  pub untouched : due limit (endpoint_of (end_of old)) ≡ 0 → stream_of new ≡ stream_of old
  -- Nothing is read.
  pub to_give : of.to_give (stream_of new) ≡ of.to_give (stream_of old)
  pub no_end : of.ends (stream_of new) ≡ of.ends (stream_of old)
  -- It fails exactly when a write does.
  pub failure : Marks (result ≡ Err io.Write) (of.failures (stream_of old)) (of.failures (stream_of new))
  -- The end's settings, what was read and not fed, and the events stay.
  pub settings : settings_in new ≡ settings_in old
  pub unfed : unfed_in new ≡ unfed_in old
  pub events : events_in new ≡ events_in old
  pub room : room_in new ≡ room_in old

-- Octets are read and fed.
pub record Pulled {R H S : Type 0} {G : Ghosts R H} (of : stream.Ghosts S) (old : Session R S H G)
    (result : Result ℕ IoFault) (new : Session R S H G) : Type 0 where
  -- What was kept is fed, and then what one read gives.
  pub pulled : Pulls (room_in old) (role_in old) (config_in old) result (intake_of old) (intake_of new)
      (of.to_give (stream_of old)) (of.to_give (stream_of new))
  -- Nothing is written.
  pub taken : of.taken (stream_of new) ≡ of.taken (stream_of old)
  -- It answers that a read failed, or that the input ended, exactly when that is so.
  pub failure : Marks (result ≡ Err io.Read) (of.failures (stream_of old)) (of.failures (stream_of new))
  pub end : Marks (result ≡ Err io.EndOfInput) (of.ends (stream_of old)) (of.ends (stream_of new))
  -- The end's settings stay.
  pub settings : settings_in new ≡ settings_in old
  pub room : room_in new ≡ room_in old

-- A pull, and then a push of the whole output.
pub record Turned {A R H S : Type 0} {G : Ghosts R H} (of : stream.Ghosts S) (old : Session R S H G)
    (result : Result A IoFault) (new : Session R S H G) : Type 0 where
  pub turned : Turns (room_in old) (role_in old) (config_in old) result (intake_of old) (intake_of new)
      (of.to_give (stream_of old)) (of.to_give (stream_of new)) (of.taken (stream_of old)) (of.taken (stream_of new))
  -- It fails as the pull or the push does.
  pub failure : Marks ((result ≡ Err io.Read) ⊎ (result ≡ Err io.Write)) (of.failures (stream_of old))
      (of.failures (stream_of new))
  pub end : Marks (result ≡ Err io.EndOfInput) (of.ends (stream_of old)) (of.ends (stream_of new))
  -- The end's settings stay.
  pub settings : settings_in new ≡ settings_in old
  pub room : room_in new ≡ room_in old
