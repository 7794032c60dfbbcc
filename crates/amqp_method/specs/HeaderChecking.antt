-- Checking a content header: what is read of it is not kept, only where its properties end.
use Rattle.std.specs.Prelude.{◌≡◌, ℕ, ◌≤◌, ◌%◌, List, length, drop, get_or, Result, Ok, Err}
use Rattle.amqp_method.specs.HeaderReading.{with_properties_at, header_at}
use Rattle.amqp_method.specs.Properties.{ContentHeader, property_kinds}
use Rattle.amqp_method.specs.declared.faults.MethodFault.{MethodFault}
use Rattle.amqp_method.specs.declared.fields.FieldKind.{FieldKind}
use Rattle.amqp_method.specs.declared.fields.FieldKind.TheVariants.{Octet}

-- the size of the body of the header that is read
abbrev pub size_read : Result ContentHeader MethodFault → Result ℕ MethodFault
size_read (Ok h) = Ok h.body_size
size_read (Err e) = Err e

-- the kind of the property at a place
abbrev pub kind_at : ℕ → FieldKind
kind_at place = get_or property_kinds place Octet

-- what stands before the properties was read: they begin at 14, and the rest of the reading is theirs
pub record Starts (payload : List ℕ) (body_size flags : ℕ) : Type 0 where
  pub long : 14 ≤ length payload
  pub clear : flags % 4 ≡ 0
  pub reads : header_at payload ≡ with_properties_at body_size flags (length payload) (drop 14 payload)
