-- What a content header that lies in its payload stands for.
use Rattle.std.specs.Prelude.{ℕ, zero, suc, List, [], ◌∷◌, Option, Some, None, Result, Ok, Err}
use Rattle.amqp_method.specs.Arguments.{Argument}
use Rattle.amqp_method.specs.ArgRefView.{arg_ref_view}
use Rattle.amqp_method.specs.HeaderReading.{header_at}
use Rattle.amqp_method.specs.Properties.{ContentHeader, header}
use Rattle.amqp_method.specs.declared.arg_ref.ArgRef.{ArgRef}
use Rattle.amqp_method.specs.declared.faults.MethodFault.{MethodFault}
use Rattle.amqp_method.specs.declared.header_ref.HeaderRef.{HeaderRef}

-- the properties that are read, of octets that are read without a fault
abbrev pub properties_read : Result ContentHeader MethodFault → List (Option Argument)
properties_read (Ok h) = h.properties
properties_read (Err e) = []

abbrev pub lent_header : HeaderRef → ContentHeader
lent_header h = header h.body_size (properties_read (header_at h.payload.now))

abbrev pub lent_header_payload : HeaderRef → List ℕ
lent_header_payload h = h.payload.now

-- what stands at a place of the properties, if it is there
abbrev pub property_at : ℕ → List (Option Argument) → Option Argument
property_at place [] = None
property_at zero (property ∷ later) = property
property_at (suc n) (property ∷ later) = property_at n later

-- a property that lies in the payload, if it is there
abbrev pub property_ref_view : Option ArgRef → Option Argument
property_ref_view None = None
property_ref_view (Some arg) = Some (arg_ref_view arg)
