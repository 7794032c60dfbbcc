-- The properties of a content header that lies in its payload, read one after another.
use Rattle.std.specs.Prelude.{◌≡◌, ℕ, ◌+◌, ◌≤◌, List, [], ◌∷◌, length, drop, Option, Ok}
use Rattle.amqp_method.specs.Arguments.{Argument}
use Rattle.amqp_method.specs.HeaderReading.{properties_at}
use Rattle.amqp_method.specs.HeaderRefView.{lent_header, lent_header_payload}
use Rattle.amqp_method.specs.Properties.{property_kinds}
use Rattle.amqp_method.specs.declared.header_ref.HeaderRef.{HeaderRef}

-- these octets are those of the properties from a place on
pub record PropertiesLeft (h : HeaderRef) (place : ℕ) (octets : List ℕ) : Type 0 where
  pub within : length octets ≤ length (lent_header_payload h)
  pub reads : properties_at (drop place property_kinds) h.flags (length (lent_header_payload h)) octets
      ≡ Ok (drop place (lent_header h).properties, [])

-- this is the property at a place, and after it stand the octets of the others
pub record ReadsProperty (h : HeaderRef) (place : ℕ) (property : Option Argument) (after : List ℕ) : Type 0 where
  pub is : drop place (lent_header h).properties ≡ property ∷ drop (place + 1) (lent_header h).properties
  pub left : PropertiesLeft h (place + 1) after
