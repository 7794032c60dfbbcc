-- What is kept of a content whose header is kept as its octets: the properties that they encode, and the size that they
-- say. AMQP 0-9-1 specification, section 4.2.6.1. Read before: the model's `Wire.Readings`.
use Rattle.std.specs.Prelude.{◌≡◌, ℕ, List, [], Bool, true, false}
use Rattle.amqp_model.specs.Wire.Methods.{Properties, header_at}
use Rattle.amqp_model.specs.Wire.Readings.{Reading, HeaderOf, header_reading}

-- what a payload says is a header; the size of the body that it says; the properties
abbrev is_header : Reading → Bool
is_header (HeaderOf size properties) = true
is_header reading = false

abbrev size_said : Reading → ℕ
size_said (HeaderOf size properties) = size
size_said reading = 0

abbrev properties_said : Reading → Properties
properties_said (HeaderOf size properties) = properties
properties_said reading = []

-- the properties that the octets of a header encode
abbrev pub properties_of : List ℕ → Properties
properties_of octets = properties_said (header_reading (header_at octets))

-- the octets are those of a header, and it says a body of this size
abbrev pub IsHeaderOf : (size : ℕ) → List ℕ → Type 0
IsHeaderOf size octets =
    (is_header (header_reading (header_at octets)) ≡ true) × (size_said (header_reading (header_at octets)) ≡ size)
