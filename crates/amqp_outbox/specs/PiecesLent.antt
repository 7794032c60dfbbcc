-- What is still to be lent of an output.
use Rattle.std.specs.Prelude.{ℕ, List, ◌++◌, drop, All}
use Rattle.amqp_frame.specs.Splitting.{stream}
use Rattle.amqp_outbox.specs.PiecesQueues.{frames_of, IsChunk}
use Rattle.amqp_outbox.specs.PiecesRing.{row_in, IsRound}
use Rattle.amqp_outbox.specs.declared.lending.Line.{Line}
use Rattle.amqp_outbox.specs.declared.lending.Pieces.TheInside.{Inside}

-- the octets that are left of a queue
abbrev pub left_in : Line → List ℕ
left_in line = stream (frames_of (drop line.lent line.frames.now.items))

abbrev pub octets_left : Inside → List ℕ
octets_left x = x.ahead.now ++ (left_in x.plain ++ (stream (row_in x.channels) ++ left_in x.leaving))

pub record IsLeft (x : Inside) : Type 0 where
  pub plain : All IsChunk x.plain.frames.now.items
  pub channels : IsRound x.channels
  pub leaving : All IsChunk x.leaving.frames.now.items
