-- An end may go to another thread.
use denote.RattleType.{RattleType}
use denote.Param.Send.{IsSend, sendable}
use Rattle.std.proofs.Crossing.{crosses}
use Rattle.amqp_core.specs.contracts.end.End as end
use Rattle.amqp_core.specs.contracts.stream.StreamEnd as stream_end
use Rattle.amqp_core.specs.declared.roles.Role.{Ghosts}
use Rattle.amqp_handle.proofs.Crossing.Ends.{endpoint_field_sent, heard_field_sent}

pub end_sent : (R H : RattleType) (g : Ghosts R.Denot H.Denot) → IsSend R → IsSend (end.the_row R H g)
end_sent R H g r = search (endpoint_field_sent, heard_field_sent, sendable, crosses) depth 20

pub stream_end_sent : (R H : RattleType) (g : Ghosts R.Denot H.Denot) → IsSend R → IsSend (stream_end.the_row R H g)
stream_end_sent R H g r = search (endpoint_field_sent, heard_field_sent, sendable, crosses) depth 20
