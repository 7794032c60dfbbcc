-- A splitter as it begins. Read before: what callers see of a splitter (`Stream`).
use Rattle.std.specs.Prelude.{◌≡◌, ℕ, [], None}
use Rattle.amqp_frame.specs.Stream.{Stream}

-- A splitter at the beginning of a stream, with this limit.
pub record IsNewSplitter (most : ℕ) (splitter : Stream) : Type 0 where
  -- No octet is pending.
  pub pending : splitter.pending ≡ []
  -- The limit is the one given.
  pub limit : splitter.limit ≡ most
  -- No octet of the stream was taken.
  pub taken : splitter.taken ≡ 0
  -- No fault was told.
  pub fault : splitter.fault ≡ None
  -- So none was taken up to a fault.
  pub taken_to_fault : splitter.taken_to_fault ≡ 0
  -- No frame was given.
  pub given : splitter.given ≡ None
