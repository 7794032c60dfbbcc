-- Whose a frame is, and what the rules say of it.
use Rattle.amqp_channel.specs.declared.verdict.Verdict as channel
use Rattle.amqp_core.specs.declared.verdict.Verdict.{Verdict}

pub data Ruling : Type 0 where
  -- it is its channel's
  OnChannel : channel.Verdict → Ruling
  -- it is the connection's
  OnConnection : Verdict → Ruling
