-- What an end keeps may go to another thread.
use denote.Param.Send.{IsSend, sendable}
use Rattle.std.proofs.Crossing.{crosses}
use Rattle.amqp_value.proofs.short_str.ShortStr.TheSendSync as text_sent
use Rattle.amqp_frame.proofs.splitting.Splitter.TheSendSync as splitter_sent
use Rattle.amqp_outbox.proofs.outbox.Outbox.TheSendSync as outbox_sent
use Rattle.amqp_core.specs.contracts.connection.Connection as connection
use Rattle.amqp_core.specs.contracts.endpoint.Endpoint as endpoint
use Rattle.amqp_core.specs.contracts.heard.Heard as heard
use Rattle.amqp_core.specs.contracts.kept_hello.Kept as kept
use Rattle.amqp_core.specs.contracts.kept_hello.KeptHello as kept_hello
use Rattle.amqp_core.specs.contracts.settings.ClientHello as client_hello
use Rattle.amqp_core.specs.contracts.settings.ServerHello as server_hello
use Rattle.amqp_core.specs.contracts.settings.Settings as settings
use Rattle.amqp_core.proofs.heard.Cause.TheSendSync as cause_sent
use Rattle.amqp_core.proofs.stage.Stage.TheSendSync as stage_sent
use Rattle.amqp_core.proofs.tally.Tally.TheSendSync as tally_sent
use Rattle.amqp_handle.proofs.Crossing.Tables.{table_field_sent}
use Rattle.amqp_handle.proofs.Crossing.Messages.{method_sent}
use Rattle.amqp_handle.proofs.Crossing.Channels.{channels_field_sent}

pub client_hello_field_sent : IsSend client_hello.the_field.row
client_hello_field_sent = search (table_field_sent, text_sent.the_send, sendable, crosses) depth 20 fits 5000

pub server_hello_field_sent : IsSend server_hello.the_field.row
server_hello_field_sent = search (table_field_sent, sendable, crosses) depth 20 fits 5000

pub client_hello_sent : IsSend client_hello.the_row
client_hello_sent = search (client_hello_field_sent, sendable) depth 5

pub kept_field_sent : IsSend kept.the_field.row
kept_field_sent = search (client_hello_sent, server_hello_field_sent, sendable, crosses) depth 20

pub kept_hello_field_sent : IsSend kept_hello.the_field.row
kept_hello_field_sent = search (kept_field_sent, sendable) depth 20

pub settings_field_sent : IsSend settings.the_field.row
settings_field_sent = search (kept_hello_field_sent, sendable) depth 20

pub connection_field_sent : IsSend connection.the_field.row
connection_field_sent = search (settings_field_sent, stage_sent.the_field_send, channels_field_sent, sendable, crosses) depth 20

pub endpoint_field_sent : IsSend endpoint.the_field.row
endpoint_field_sent = search (connection_field_sent, splitter_sent.the_send, outbox_sent.the_send, tally_sent.the_field_send, sendable) depth 20

pub heard_field_sent : IsSend heard.the_field.row
heard_field_sent = search (method_sent, cause_sent.the_send, sendable, crosses) depth 20 fits 5000
