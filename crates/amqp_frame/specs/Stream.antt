-- What callers see of a splitter, apart from the frames that it gives in the piece.
use Rattle.std.specs.Prelude.{ℕ, List, Option}
use Rattle.amqp_frame.specs.Frame.{Frame}

pub record Stream : Type 0 where
  -- the octets taken of a frame that isn't whole
  pub pending : List ℕ
  -- how many octets a frame may have
  pub limit : ℕ
  -- how many octets of the stream were taken, up to the greatest of 64 bits
  pub taken : ℕ
  -- the place of the fault, once one was told
  pub fault : Option ℕ
  -- how many octets of its piece were taken up to the octet that showed the fault, that octet included; 0 before any
  -- fault
  pub taken_to_fault : ℕ
  -- the frame that the last call gave by way of the buffer, until the next call that is to take octets
  pub given : Option Frame
