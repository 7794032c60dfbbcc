-- The properties in two parts, as they are read: the first five, and the others.
use Rattle.std.specs.Prelude.{List, [], ◌∷◌, Option}
use Rattle.amqp_method.specs.Arguments.{Argument, octet, long_long, short_string}
use Rattle.amqp_method.specs.HeaderView.{present, table_argument}
use Rattle.amqp_method.specs.declared.fields.FieldKind.{FieldKind}
use Rattle.amqp_method.specs.declared.fields.FieldKind.TheVariants.{ShortStr, LongLong}
use Rattle.amqp_method.specs.declared.headers.Properties.{Properties}

abbrev pub earlier_view : Properties → List (Option Argument)
earlier_view p =
    present short_string p.content_type ∷
    present short_string p.content_encoding ∷
    present table_argument p.headers ∷
    present octet p.delivery_mode ∷
    present octet p.priority ∷ []

abbrev pub later_view : Properties → List (Option Argument)
later_view p =
    present short_string p.correlation_id ∷
    present short_string p.reply_to ∷
    present short_string p.expiration ∷
    present short_string p.message_id ∷
    present long_long p.timestamp ∷
    present short_string p.type_name ∷
    present short_string p.user_id ∷
    present short_string p.app_id ∷
    present short_string p.cluster_id ∷ []

-- the later ones in two parts
abbrev pub middle_view : Properties → List (Option Argument)
middle_view p =
    present short_string p.correlation_id ∷
    present short_string p.reply_to ∷
    present short_string p.expiration ∷
    present short_string p.message_id ∷
    present long_long p.timestamp ∷ []

abbrev pub last_view : Properties → List (Option Argument)
last_view p =
    present short_string p.type_name ∷
    present short_string p.user_id ∷
    present short_string p.app_id ∷
    present short_string p.cluster_id ∷ []

abbrev pub later_kinds : List FieldKind
later_kinds = ShortStr ∷ ShortStr ∷ ShortStr ∷ ShortStr ∷ LongLong ∷ ShortStr ∷ ShortStr ∷ ShortStr ∷ ShortStr ∷ []
