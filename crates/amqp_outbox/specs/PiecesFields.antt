-- What the fields of an output in pieces stand for.
use Rattle.std.specs.Prelude.{◌≡◌, ◌+◌, ◌^◌, ◌<◌, ◌≤◌, length, drop, All}
use Rattle.amqp_frame.specs.Splitting.{stream}
use Rattle.amqp_model.specs.Output.Outputs.{output_octets}
use Rattle.amqp_outbox.specs.OutboxView.{Outgoing}
use Rattle.amqp_outbox.specs.PiecesQueues.{frames_of, IsChunk, AreSound, HaveRoom, row_of_queues}
use Rattle.amqp_outbox.specs.declared.send_queue.SendQueue.TheInside.{Inside}

abbrev pub outgoing_in : Inside → Outgoing
outgoing_in x = record {
  output = record { ahead = drop x.written x.ahead.items; begun_on = x.begun_on; last = x.last; row = row_of_queues x.last x.queues };
  staged = frames_of x.staged.items;
}

pub record IsWhole (x : Inside) : Type 0 where
  pub written : x.written ≤ length x.ahead.items
  pub queues : AreSound x.queues
  pub staged : All IsChunk x.staged.items
  pub room : HaveRoom x.queues x.staged.items
  pub waiting : x.waiting ≡ length (output_octets (outgoing_in x).output)
  pub coming : x.coming ≡ length (stream (frames_of x.staged.items))
  pub fits : x.waiting + x.coming < 2 ^ 64
