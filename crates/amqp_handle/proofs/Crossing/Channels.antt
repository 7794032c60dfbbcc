-- The channels in use may go to another thread.
use denote.Param.Send.{IsSend, sendable}
use Rattle.std.proofs.Crossing.{crosses}
use Rattle.indexmap.proofs.map.IndexMap.TheSendSync as map_sent
use Rattle.amqp_channel.specs.contracts.channel.Channel as channel
use Rattle.amqp_channel.specs.contracts.channels.Channels as channels
use Rattle.amqp_channel.specs.contracts.deferred.Deferred as deferred
use Rattle.amqp_channel.specs.contracts.gathering.Gathering as gathering
use Rattle.amqp_channel.specs.contracts.life.Life as life
use Rattle.amqp_channel.proofs.amounts.Amounts.TheSendSync as amounts_sent
use Rattle.amqp_channel.proofs.free_numbers.FreeNumbers.TheSendSync as numbers_sent
use Rattle.amqp_channel.proofs.standing.Standing.TheSendSync as standing_sent
use Rattle.amqp_method.proofs.kinds.Kind.TheSendSync as kind_sent
use Rattle.amqp_handle.proofs.Crossing.Messages.{content_sent}

pub deferred_field_sent : IsSend deferred.the_field.row
deferred_field_sent = search (content_sent, sendable, crosses) depth 20

pub deferred_sent : IsSend deferred.the_row
deferred_sent = search (deferred_field_sent, sendable) depth 5

pub gathering_field_sent : IsSend gathering.the_field.row
gathering_field_sent = search (content_sent, deferred_sent, sendable, crosses) depth 20

pub life_field_sent : IsSend life.the_field.row
life_field_sent = search (gathering_field_sent, standing_sent.the_field_send, sendable) depth 20

pub channel_field_sent : IsSend channel.the_field.row
channel_field_sent = search (life_field_sent, standing_sent.the_field_send, kind_sent.the_field_send, sendable) depth 20 fits 5000

pub channel_sent : IsSend channel.the_row
channel_sent = search (channel_field_sent, sendable) depth 5

pub channels_field_sent : IsSend channels.the_field.row
channels_field_sent = search (channel_sent, map_sent.the_send, numbers_sent.the_field_send, amounts_sent.the_field_send, sendable, crosses) depth 20 fits 5000
