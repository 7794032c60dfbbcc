-- Methods and content headers, in the words of contents, histories and verdicts: what a kind is to a channel, which
-- methods are requests and replies, and what octets say as a payload. What is said of a kind is said by the crate of
-- methods, beside its one table.
use Rattle.std.specs.Prelude.{◌≡◌, List, Option, Some, None, ℕ, Result, Ok, Err}
use Rattle.amqp_method.specs.Arguments.{Argument, Call}
use Rattle.amqp_method.specs.HeaderReading as header_reading
use Rattle.amqp_method.specs.Plain as plain
use Rattle.amqp_method.specs.Properties.{ContentHeader}
use Rattle.amqp_method.specs.Reading as reading
use Rattle.amqp_method.specs.declared.faults.MethodFault.{MethodFault}
use Rattle.amqp_method.specs.declared.faults.MethodFaultKind.{MethodFaultKind}
use Rattle.amqp_method.specs.declared.faults.MethodFaultKind.TheVariants as faults
use Rattle.amqp_method.specs.declared.kinds.Kind.{Kind}
pub use Rattle.amqp_method.specs.Kinds.{class_of, id_of, same_kind, sends}
pub use Rattle.amqp_method.specs.Places.{argument_at, bit_at, number_at, octets_at}
pub use Rattle.amqp_method.specs.Methods.{Wanted, Always, Never, UnlessNoWait}
pub use Rattle.amqp_method.specs.Requests.{wants, is_wanted, is_request, answered, is_reply, answers}
pub use Rattle.amqp_method.specs.Sorts.{Sort, BeginsContent, OpensOrCloses, Plain, AsksFlow, AnswersFlow, sort_by}
pub use Rattle.amqp_method.specs.Sorts.{sort_of, begins_content, carries_content}

-- a method with its arguments
abbrev pub Method : Type 0
Method = Call

-- the properties of a content header, in the order of their flags
abbrev pub Properties : Type 0
Properties = List (Option Argument)

abbrev pub MethodKind : Type 0
MethodKind = Kind

-- What octets say as the payload of a method frame: a method, no method that there is, or what doesn't parse.
pub data MethodRead : Type 0 where
  Reads : Method → MethodRead
  NoSuchMethod DoesNotParse : MethodRead

abbrev fault_read : MethodFaultKind → MethodRead
fault_read faults.UnknownMethod = NoSuchMethod
fault_read kind = DoesNotParse

abbrev pub method_read : Result Call MethodFault → MethodRead
method_read (Ok call) = Reads call
method_read (Err fault) = fault_read fault.kind

unfoldable pub method_at : List ℕ → MethodRead
method_at payload = method_read (reading.method_at payload)

-- a content header: the class, the size of the body, and the properties
abbrev pub Header : Type 0
Header = ContentHeader

abbrev pub header_read : Result ContentHeader MethodFault → Option Header
header_read (Ok header) = Some header
header_read (Err fault) = None

-- a content header, where the octets are one
unfoldable pub header_at : List ℕ → Option Header
header_at payload = header_read (header_reading.header_at payload)

-- the plain encoding, which an end writes
unfoldable pub plain_method : Method → List ℕ
plain_method method = plain.plain_method method

unfoldable pub plain_header : Header → List ℕ
plain_header header = plain.plain_header header

-- What is written of the method reads as the method. It does where the arguments fit the kind and their fields: the law
-- of the crate of methods.
abbrev pub ReadsBack : Method → Type 0
ReadsBack method = method_at (plain_method method) ≡ Reads method
