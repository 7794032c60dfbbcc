use Rattle.std.proofs.Common.{◌≡◌, ◌∙◌, arith}
use Rattle.amqp_method.specs.HeaderRefView.{lent_header, property_at}
use Rattle.amqp_method.specs.Properties.{property_kinds}
use Rattle.amqp_calls.specs.Values.{argument_there}
use Rattle.amqp_calls.proofs.LentHeaders.{as_many, at_kind, listed, text_told, table_told, octet_told, long_long_told}
use Rattle.amqp_calls.proofs.codec.headers.properties.Goals as goal

pub returns : goal.returns
returns c =
    let all = (lent_header c.args.header).properties in
    let is_0 : argument_there c.text.result ≡ property_at 0 all = c.text.ensures ∙ text_told (property_at 0 all) (at_kind all 0 c.requires (omega arith)) c.content_type.result c.content_type.ensures in
    let is_1 : argument_there c.text-2.result ≡ property_at 1 all = c.text-2.ensures ∙ text_told (property_at 1 all) (at_kind all 1 c.requires (omega arith)) c.content_encoding.result c.content_encoding.ensures in
    let is_2 : argument_there c.table.result ≡ property_at 2 all = c.table.ensures ∙ table_told (property_at 2 all) (at_kind all 2 c.requires (omega arith)) c.headers.result c.headers.ensures in
    let is_3 : argument_there c.octet.result ≡ property_at 3 all = c.octet.ensures ∙ octet_told (property_at 3 all) (at_kind all 3 c.requires (omega arith)) c.delivery_mode.result c.delivery_mode.ensures in
    let is_4 : argument_there c.octet-2.result ≡ property_at 4 all = c.octet-2.ensures ∙ octet_told (property_at 4 all) (at_kind all 4 c.requires (omega arith)) c.priority.result c.priority.ensures in
    let is_5 : argument_there c.text-3.result ≡ property_at 5 all = c.text-3.ensures ∙ text_told (property_at 5 all) (at_kind all 5 c.requires (omega arith)) c.correlation_id.result c.correlation_id.ensures in
    let is_6 : argument_there c.text-4.result ≡ property_at 6 all = c.text-4.ensures ∙ text_told (property_at 6 all) (at_kind all 6 c.requires (omega arith)) c.reply_to.result c.reply_to.ensures in
    let is_7 : argument_there c.text-5.result ≡ property_at 7 all = c.text-5.ensures ∙ text_told (property_at 7 all) (at_kind all 7 c.requires (omega arith)) c.expiration.result c.expiration.ensures in
    let is_8 : argument_there c.text-6.result ≡ property_at 8 all = c.text-6.ensures ∙ text_told (property_at 8 all) (at_kind all 8 c.requires (omega arith)) c.message_id.result c.message_id.ensures in
    let is_9 : argument_there c.long_long.result ≡ property_at 9 all = c.long_long.ensures ∙ long_long_told (property_at 9 all) (at_kind all 9 c.requires (omega arith)) c.timestamp.result c.timestamp.ensures in
    let is_10 : argument_there c.text-7.result ≡ property_at 10 all = c.text-7.ensures ∙ text_told (property_at 10 all) (at_kind all 10 c.requires (omega arith)) c.type_name.result c.type_name.ensures in
    let is_11 : argument_there c.text-8.result ≡ property_at 11 all = c.text-8.ensures ∙ text_told (property_at 11 all) (at_kind all 11 c.requires (omega arith)) c.user_id.result c.user_id.ensures in
    let is_12 : argument_there c.text-9.result ≡ property_at 12 all = c.text-9.ensures ∙ text_told (property_at 12 all) (at_kind all 12 c.requires (omega arith)) c.app_id.result c.app_id.ensures in
    let is_13 : argument_there c.text-10.result ≡ property_at 13 all = c.text-10.ensures ∙ text_told (property_at 13 all) (at_kind all 13 c.requires (omega arith)) c.cluster_id.result c.cluster_id.ensures in
    rw (is_0, is_1, is_2, is_3, is_4, is_5, is_6, is_7, is_8, is_9, is_10, is_11, is_12, is_13) (listed all (as_many all property_kinds c.requires))
