use Rattle.std.proofs.Common.{◌≡◌, length}
use Rattle.amqp_io.specs.Intakes.{FeedsOn}
use Rattle.amqp_io.specs.SessionView.{intake_of, settings_in, role_in, config_in, room_in, stream_of}
use Rattle.amqp_io.proofs.session.Session.feed_all.Given as goal

-- so far octets were fed, each feed was answered Ok, and the stream was left alone
abbrev pub invariant-loop-self : goal.invariant-loop-self
invariant-loop-self g l = record {
  fed : FeedsOn (role_in l.initial.self) (config_in l.initial.self) (intake_of l.initial.self) (intake_of l.self);
  settings : settings_in l.self ≡ settings_in l.initial.self;
  stream : stream_of l.self ≡ stream_of l.initial.self;
  room : room_in l.self ≡ room_in l.initial.self;
}

abbrev pub decreases-loop-self : goal.decreases-loop-self
decreases-loop-self g l = length l.self.unfed.octets
