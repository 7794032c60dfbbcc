-- What the code's properties and headers stand for.
use Rattle.std.specs.Prelude.{ℕ, zero, suc, List, [], ◌∷◌, Option, Some, None, replicate}
use Rattle.amqp_value.specs.Tables.{table_view}
use Rattle.amqp_value.specs.declared.tables.Table.{Table}
use Rattle.amqp_method.specs.Arguments.{Argument, octet, long_long, short_string, table}
use Rattle.amqp_method.specs.Properties.{ContentHeader, header}
use Rattle.amqp_method.specs.declared.headers.Header.{Header}
use Rattle.amqp_method.specs.declared.headers.Properties.{Properties}

-- a value, if it is there
abbrev pub present : {A : Type 0} → (A → Argument) → Option A → Option Argument
present make None = None
present make (Some x) = Some (make x)

abbrev pub table_argument : Table → Argument
table_argument t = table (table_view t)

abbrev pub properties_view : Properties → List (Option Argument)
properties_view p =
    present short_string p.content_type ∷
    present short_string p.content_encoding ∷
    present table_argument p.headers ∷
    present octet p.delivery_mode ∷
    present octet p.priority ∷
    present short_string p.correlation_id ∷
    present short_string p.reply_to ∷
    present short_string p.expiration ∷
    present short_string p.message_id ∷
    present long_long p.timestamp ∷
    present short_string p.type_name ∷
    present short_string p.user_id ∷
    present short_string p.app_id ∷
    present short_string p.cluster_id ∷ []

-- the properties of a header that has a table of headers and no other property, or none at all
abbrev pub headers_alone : Option Table → List (Option Argument)
headers_alone headers = None ∷ None ∷ present table_argument headers ∷ replicate 11 None

-- the properties, with this one at a place
abbrev pub with_property : ℕ → Argument → List (Option Argument) → List (Option Argument)
with_property place value [] = []
with_property zero value (property ∷ later) = Some value ∷ later
with_property (suc n) value (property ∷ later) = property ∷ with_property n value later

abbrev pub header_view : Header → ContentHeader
header_view h = header h.body_size (properties_view h.properties)
