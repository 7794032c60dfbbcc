-- What a frame says, in the words of the model: a method, a header, a part of a body, a heartbeat, or what can't be
-- read. AMQP 0-9-1 specification, sections 2.3.5 and 4.2.4 to 4.2.7. Read before: the model's `Wire.Readings`.
use Rattle.std.specs.Prelude.{Bool, true, false, ℕ, length}
use Rattle.amqp_value.specs.Lengths.{capped}
use Rattle.amqp_method.specs.HeaderRefView.{lent_header}
use Rattle.amqp_method.specs.HeaderView.{properties_view}
use Rattle.amqp_method.specs.MethodRefView.{lent_call}
use Rattle.amqp_method.specs.declared.header_ref.HeaderRef.{HeaderRef}
use Rattle.amqp_method.specs.declared.headers.Header.{Header}
use Rattle.amqp_model.specs.End.Closes.{CloseCode, NotImplemented, SyntaxError}
use Rattle.amqp_model.specs.Wire.Methods.{plain_header}
use Rattle.amqp_model.specs.Wire.Readings as model
use Rattle.amqp_model.specs.Wire.Readings.{Calls, UnknownMethod, MalformedMethod, HeaderOf, MalformedHeader, BodyOf, Beat, is_empty}
use Rattle.amqp_channel.specs.declared.reading.Reading.{Reading}
use Rattle.amqp_channel.specs.declared.reading.Reading.TheVariants as read
use Rattle.amqp_channel.specs.declared.reading.Unread.{Unread}
use Rattle.amqp_channel.specs.declared.reading.Unread.TheVariants as unread

-- what a header says that lies in its frame
abbrev pub header_said : HeaderRef → model.Reading
header_said header = HeaderOf (lent_header header).body_size (lent_header header).properties

-- how many octets it has: every encoding of it has as many
abbrev pub length_said : HeaderRef → ℕ
length_said header = capped (length (plain_header (lent_header header)))

-- what a frame says that was read
abbrev pub reading_view : Reading → model.Reading
reading_view (read.Method method) = Calls (lent_call method)
reading_view read.UnknownMethod = UnknownMethod
reading_view read.MalformedMethod = MalformedMethod
reading_view (read.Header header) = HeaderOf (lent_header header).body_size (lent_header header).properties
reading_view read.MalformedHeader = MalformedHeader
reading_view (read.Body octets) = BodyOf octets.now
reading_view (read.Heartbeat octets) = Beat (is_empty octets.now)

-- a header that was read, or the payload that is none
abbrev pub header_seen : Bool → Header → model.Reading
header_seen true header = HeaderOf header.body_size (properties_view header.properties)
header_seen false header = MalformedHeader

-- a method that can't be read
abbrev pub unread_view : Unread → model.Reading
unread_view unread.UnknownMethod = UnknownMethod
unread_view unread.MalformedMethod = MalformedMethod

-- the code with which a method that can't be read is answered
abbrev pub unread_code : Unread → CloseCode
unread_code unread.UnknownMethod = NotImplemented
unread_code unread.MalformedMethod = SyntaxError
