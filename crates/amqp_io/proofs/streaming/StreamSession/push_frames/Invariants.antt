use Rattle.std.proofs.Common.{◌≡◌, length}
use Rattle.amqp_outbox.specs.LentFrames.{content_left}
use Rattle.amqp_io.specs.StreamSessions.{PushesFrames}
use Rattle.amqp_io.proofs.streaming.StreamSession.push_frames.Given as goal

-- so far all that is not left was taken, and the stream has not failed
abbrev pub invariant-loop-self : goal.invariant-loop-self
invariant-loop-self g l = record {
  pushed : PushesFrames (content_left l.fn.frames) (content_left l.frames) (g.S.Stream.taken l.fn.self.stream) (g.S.Stream.taken l.self.stream);
  to_give : g.S.Stream.to_give l.self.stream ≡ g.S.Stream.to_give l.fn.self.stream;
  failures : g.S.Stream.failures l.self.stream ≡ g.S.Stream.failures l.fn.self.stream;
  ends : g.S.Stream.ends l.self.stream ≡ g.S.Stream.ends l.fn.self.stream;
  end : l.self.end ≡ l.fn.self.end;
}

abbrev pub decreases-loop-self : goal.decreases-loop-self
decreases-loop-self g l = length (content_left l.frames)
