-- What the laws of the output promise in one: of a put (`PutKeepsArranged`), of a write (`WriteKeepsArranged`), and of
-- both from the beginning on (`OutputFollows`). Read before: the statements themselves (`ArrangementLaws`).
use Rattle.amqp_model.specs.Laws.ArrangementLaws.{AheadIsOfBegun, LeavingIsPutLast, LeftIsArranged, NothingWritten}
use Rattle.amqp_model.specs.Laws.ArrangementLaws.{OneIsLeft, OutputAfterPut, OutputAfterPuts, OutputAfterWrite}
use Rattle.amqp_model.specs.Laws.ArrangementLaws.{OutputBegins, OutputFollowsRules, PlaceIsAfterItsQueue, PutArranges}
use Rattle.amqp_model.specs.Laws.ArrangementLaws.{PutExtendsChannels, PutLeavesBegun, PutMovesNone, WriteLeaves}
use Rattle.amqp_model.specs.Laws.ArrangementLaws.{WrittenThenLeft}

pub record PutKeepsArranged : Type 0 where
  -- A put into the row of the frames that wait makes the row of those and the new one.
  pub arranged : PutArranges
  -- It moves no other frame.
  pub others : PutMovesNone
  -- Each channel above 0 has its frames as before, and after them the new one.
  pub channels : PutExtendsChannels
  -- A connection.close or close-ok is put after every frame that waits.
  pub leaving : LeavingIsPutLast
  -- The place of a frame is found after the last one of its queue.
  pub place : PlaceIsAfterItsQueue
  -- What is begun stays, and so does LAST.
  pub begun : PutLeavesBegun

pub record WriteKeepsArranged : Type 0 where
  -- As many octets of an output can be written as it has.
  pub leaves : WriteLeaves
  -- There is exactly one output that is left.
  pub one : OneIsLeft
  -- Where nothing is written nothing changes.
  pub nothing : NothingWritten
  -- The octets written and those of the output left are those of the output before.
  pub octets : WrittenThenLeft
  -- What is left ahead is what is left of the frames begun.
  pub ahead : AheadIsOfBegun
  -- The row that is left is arranged from the new LAST.
  pub arranged : LeftIsArranged

pub record OutputFollows : Type 0 where
  -- An output begins with the protocol header or with nothing.
  pub begins : OutputBegins
  -- After a put it is that of the frames put before, and of this one after them.
  pub put : OutputAfterPut
  -- After several puts it is that of the frames put before, and of these after them.
  pub puts : OutputAfterPuts
  -- After a write it is that of the same frames, and the octets written have left it.
  pub write : OutputAfterWrite
  -- Its row follows the rules.
  pub rules : OutputFollowsRules
