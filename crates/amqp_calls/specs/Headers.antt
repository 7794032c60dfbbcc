-- What is told of a content header that is read.
use Rattle.std.specs.Prelude.{◌≡◌, ℕ, ◌<◌, List, length, map, take, drop, Option, Some, None, Result, Ok}
use Rattle.std.specs.Prelude.{Err, ◌⊎◌}
use Rattle.std.specs.Borrow.{Bor}
use Rattle.amqp_value.specs.Lent.{table_ref_view}
use Rattle.amqp_value.specs.declared.table_ref.TableRef.{TableRef}
use Rattle.amqp_method.specs.Arguments.{Argument, octet, long_long, short_string, table}
use Rattle.amqp_method.specs.HeaderReading.{header_at}
use Rattle.amqp_method.specs.Properties.{ContentHeader, flags_of}
use Rattle.amqp_method.specs.declared.faults.MethodFault.{MethodFault}
use Rattle.amqp_calls.specs.CodecStatuses.{method_status}
use Rattle.amqp_calls.specs.Values.{argument_there}
use Rattle.amqp_calls.specs.declared.codec.headers.HeaderRead.{HeaderRead}
use Rattle.amqp_calls.specs.declared.codec.values.Value.{Value}

-- a property of each kind, if it is there
abbrev pub text_there : Option (Bor (List ℕ)) → Option Argument
text_there (Some text) = Some (short_string text.now)
text_there None = None

abbrev pub table_there : Option TableRef → Option Argument
table_there (Some t) = Some (table (table_ref_view t))
table_there None = None

abbrev pub octet_there : Option ℕ → Option Argument
octet_there (Some number) = Some (octet number)
octet_there None = None

abbrev pub long_long_there : Option ℕ → Option Argument
long_long_there (Some number) = Some (long_long number)
long_long_there None = None

-- each property in its place, and nothing behind them is changed; or there are too few places
abbrev ToldHeader : Result ContentHeader MethodFault → List Value → ℕ → List Value → HeaderRead → Type 0
ToldHeader (Ok h) old status new out =
    (out.body_size ≡ h.body_size) × (out.flags ≡ flags_of h.properties)
    × (((status ≡ 0) × (map argument_there (take 14 new) ≡ h.properties) × (drop 14 new ≡ drop 14 old))
    ⊎ ((status ≡ 7) × (length old < 14)))
ToldHeader (Err e) old status new out = (status ≡ method_status e.kind) × (out.at ≡ e.at) × (new ≡ old)

abbrev pub ReadsHeader : List ℕ → List Value → ℕ → List Value → HeaderRead → Type 0
ReadsHeader payload old status new out = ToldHeader (header_at payload) old status new out
