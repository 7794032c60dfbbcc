-- What the fields of a splitter stand for.
use Rattle.std.specs.Prelude.{◌≡◌, ◌≤◌, ℕ, Option, Some, None}
use Rattle.amqp_frame.specs.Stream.{Stream}
use Rattle.amqp_frame.specs.Judging.{IsBegun, IsWholeIfGiven, pending_of, given_of}
use Rattle.amqp_frame.specs.declared.judging.Held.{Held}
use Rattle.amqp_frame.specs.declared.judging.Held.TheVariants.{Spent}
use Rattle.amqp_frame.specs.declared.splitting.Splitter.TheInside.{Inside}

abbrev pub stream_of : Inside → Stream
stream_of s =
    record {
      pending = pending_of s.held s.buffer.items;
      limit = s.limit;
      taken = s.taken;
      fault = s.fault;
      taken_to_fault = s.taken_to_fault;
      given = given_of s.held s.buffer.items;
    }

-- After a fault the buffer is spent.
abbrev pub IsSpentAt : Option ℕ → Held → Type 0
IsSpentAt None held = Unit {0}
IsSpentAt (Some place) held = held ≡ Spent

pub record SplitterIsSound (s : Inside) : Type 0 where
  pub begun : IsBegun s.limit (pending_of s.held s.buffer.items)
  pub room : 8 ≤ s.limit
  pub failed : IsSpentAt s.fault s.held
  pub whole : IsWholeIfGiven s.held s.buffer.items
