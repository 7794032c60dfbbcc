-- What an end's handle holds may go to another thread.
use denote.RattleType.{RattleType}
use denote.Param.Send.{IsSend, sendable}
use Rattle.std.proofs.Crossing.{crosses}
use Rattle.indexmap.proofs.map.IndexMap.TheSendSync as map_sent
use Rattle.amqp_handle.specs.contracts.gathering.Gathering as gathering
use Rattle.amqp_handle.specs.contracts.gathering.Parts as parts
use Rattle.amqp_handle.specs.contracts.kept.HeldEnd as held
use Rattle.amqp_handle.specs.contracts.kept.Kept as kept
use Rattle.amqp_handle.proofs.Crossing.Ends.{endpoint_field_sent, heard_field_sent}

pub parts_field_sent : IsSend parts.the_field.row
parts_field_sent = search (sendable, crosses) depth 20 fits 5000

pub parts_sent : IsSend parts.the_row
parts_sent = search (parts_field_sent, sendable) depth 5

pub gathering_field_sent : IsSend gathering.the_field.row
gathering_field_sent = search (parts_sent, parts_field_sent, map_sent.the_send, sendable, crosses) depth 20 fits 10000

pub gathering_sent : IsSend gathering.the_row
gathering_sent = search (gathering_field_sent, sendable) depth 5

pub kept_field_sent : (E : RattleType) → IsSend E → IsSend (kept.the_field E).row
kept_field_sent E e = search (gathering_sent, sendable, crosses) depth 20 fits 5000

pub held_sent : IsSend held.the_row
held_sent = search (kept_field_sent, endpoint_field_sent, heard_field_sent, sendable, crosses) depth 20 fits 10000
