-- A message may go to another thread.
use denote.Param.Send.{IsSend, sendable}
use Rattle.std.proofs.Crossing.{crosses}
use Rattle.amqp_value.proofs.short_str.ShortStr.TheSendSync as text_sent
use Rattle.amqp_method.specs.contracts.contents.Carrier as carrier
use Rattle.amqp_method.specs.contracts.contents.Content as content
use Rattle.amqp_method.specs.contracts.fields.Arg as arg
use Rattle.amqp_method.specs.contracts.headers.Header as header
use Rattle.amqp_method.specs.contracts.headers.Properties as properties
use Rattle.amqp_method.specs.contracts.messages.Form as form
use Rattle.amqp_method.specs.contracts.messages.Message as message
use Rattle.amqp_method.specs.contracts.methods.Method as method
use Rattle.amqp_method.proofs.maybe_boxed.MaybeBoxed.TheSendSync as boxed_sent
use Rattle.amqp_method.proofs.kind_word.KindWord.TheSendSync as kind_sent
use Rattle.amqp_handle.proofs.Crossing.Tables.{table_sent, table_field_sent}

pub arg_field_sent : IsSend arg.the_field.row
arg_field_sent = search (table_field_sent, text_sent.the_send, sendable, crosses) depth 20 fits 5000

pub arg_sent : IsSend arg.the_row
arg_sent = search (arg_field_sent, sendable) depth 5

pub method_field_sent : IsSend method.the_field.row
method_field_sent = search (arg_sent, kind_sent.the_send, sendable, crosses) depth 20

pub method_sent : IsSend method.the_row
method_sent = search (method_field_sent, sendable) depth 5

pub properties_field_sent : IsSend properties.the_field.row
properties_field_sent = search (table_sent, text_sent.the_send, sendable) depth 60 fits 20000

pub properties_sent : IsSend properties.the_row
properties_sent = search (properties_field_sent, sendable) depth 5

pub header_field_sent : IsSend header.the_field.row
header_field_sent = search (properties_field_sent, sendable) depth 10

pub header_sent : IsSend header.the_row
header_sent = search (header_field_sent, sendable) depth 5

pub carrier_field_sent : IsSend carrier.the_field.row
carrier_field_sent = search (method_field_sent, sendable) depth 10

pub content_field_sent : IsSend content.the_field.row
content_field_sent = search (carrier_field_sent, header_field_sent, sendable, crosses) depth 20

pub content_sent : IsSend content.the_row
content_sent = search (content_field_sent, sendable) depth 5

pub form_field_sent : IsSend form.the_field.row
form_field_sent = search (method_field_sent, content_sent, boxed_sent.the_field_send, sendable, crosses) depth 20 fits 5000

pub message_field_sent : IsSend message.the_field.row
message_field_sent = search (form_field_sent, sendable) depth 10

pub message_sent : IsSend message.the_row
message_sent = search (message_field_sent, sendable) depth 5
