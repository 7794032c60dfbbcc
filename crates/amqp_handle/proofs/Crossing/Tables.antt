-- A table may go to another thread.
use denote.Param.Send.{IsSend, sendable}
use Rattle.std.proofs.Crossing.{crosses}
use Rattle.amqp_value.specs.contracts.tables.Table as table
use Rattle.amqp_value.specs.contracts.values.Value as value
use Rattle.amqp_value.proofs.short_str.ShortStr.TheSendSync as text_sent
use Rattle.amqp_value.proofs.octets.Octets.TheSendSync as octets_sent
use Rattle.amqp_value.proofs.values.Value.TheLaws.TheKnot.{send-Value}

pub value_sent : IsSend value.the_row
value_sent = search (send-Value, text_sent.the_send, octets_sent.the_send, sendable, crosses) depth 20 fits 5000

-- where a table is a field
pub table_field_sent : IsSend table.the_field.row
table_field_sent = search (value_sent, text_sent.the_send, sendable, crosses) depth 20 fits 5000

pub table_sent : IsSend table.the_row
table_sent = search (table_field_sent, sendable) depth 5
