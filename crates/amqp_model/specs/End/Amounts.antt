-- How many octets an end keeps for its peer: of each channel the header of the content under way and what has come of
-- its body, and what has come of a frame that isn't whole. AMQP 0-9-1 has no such words; they are this profile's.
use Rattle.std.specs.Prelude.{◌≡◌, ◌≤◌, ℕ, zero, suc, ◌+◌, List, length}
use Rattle.amqp_value.specs.Lengths.{capped}
use Rattle.amqp_method.specs.Properties.{EncodesHeader}
use Rattle.amqp_model.specs.Wire.Gathering.{Gathering, Nothing, HeaderDue, BodyDue}
use Rattle.amqp_model.specs.Wire.Methods.{Header, plain_header}
use Rattle.amqp_model.specs.End.Answers.{octets_gathered, kept_by}
use Rattle.amqp_model.specs.End.Channels.{Channel, Open, End}
use Rattle.amqp_model.specs.Stream.Endpoint.{Endpoint}

-- the octets of the header of the content under way: every encoding of it has as many
abbrev pub header_octets : Gathering → ℕ
header_octets Nothing = 0
header_octets (HeaderDue method) = 0
header_octets (BodyDue method size properties body) =
    capped (length (plain_header (record { body_size = size; properties = properties })))

abbrev pub header_octets_on : Channel → ℕ
header_octets_on (Open life) = header_octets life.content
header_octets_on channel = 0

abbrev pub body_octets_on : Channel → ℕ
body_octets_on channel = length (kept_by channel)

-- the sum of what is counted of the channels 1 to most
abbrev pub sum_to : (most : ℕ) → (octets : ℕ → ℕ) → ℕ
sum_to zero octets = 0
sum_to (suc n) octets = sum_to n octets + octets (suc n)

-- The sum of what is counted of all channels. The number of a channel is at most 65,535, and those above it are Free.
abbrev pub IsSum : (octets : ℕ → ℕ) → (sum : ℕ) → Type 0
IsSum octets sum = (most : ℕ) → 65535 ≤ most → sum ≡ sum_to most octets

-- what an end keeps of the contents under way on its channels up to this number
abbrev pub contents_kept : (most : ℕ) → End → ℕ
contents_kept most end =
    sum_to most (λ number. header_octets_on (end.channels number))
    + sum_to most (λ number. body_octets_on (end.channels number))

-- and of a frame that isn't whole
abbrev octets_kept : (most : ℕ) → Endpoint → ℕ
octets_kept most endpoint = contents_kept most endpoint.end + length endpoint.unfinished

-- so many octets are kept in all
abbrev pub KeepsOctets : Endpoint → (count : ℕ) → Type 0
KeepsOctets endpoint count = (most : ℕ) → 65535 ≤ most → count ≡ capped (octets_kept most endpoint)

-- so many octets of bodies are gathered on all channels
abbrev pub GathersOctets : End → (count : ℕ) → Type 0
GathersOctets end count = (most : ℕ) → 65535 ≤ most → count ≡ capped (sum_to most (octets_gathered end))

-- every encoding of a header has as many octets as the plain one
abbrev pub OneHeaderLength : Type 0
OneHeaderLength =
    (header : Header) (octets : List ℕ) → EncodesHeader header octets
    → length octets ≡ length (plain_header header)
