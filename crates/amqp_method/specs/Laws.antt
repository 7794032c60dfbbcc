-- The laws of methods and headers, as statements.
use Rattle.std.specs.Prelude.{◌≡◌, ◌<◌, ◌^◌, ℕ, List, true, false, Ok, ◌⊎◌}
use Rattle.amqp_method.specs.Arguments.{Call, Fits}
use Rattle.amqp_method.specs.Fitting.{ArgumentsFit, PropertiesFit}
use Rattle.amqp_method.specs.HeaderReading.{header_at}
use Rattle.amqp_method.specs.Kinds.{sends, has_content}
use Rattle.amqp_method.specs.Methods.{row}
use Rattle.amqp_method.specs.Plain.{plain_method, plain_header}
use Rattle.amqp_method.specs.Properties.{ContentHeader, EncodesHeader, HaveKinds, property_kinds}
use Rattle.amqp_method.specs.Reading.{method_at}
use Rattle.amqp_method.specs.Requests.{wants, wanted_in_table}
use Rattle.amqp_method.specs.Encoding.{EncodesMethod}
use Rattle.amqp_method.specs.declared.kinds.Kind.{Kind}
use Rattle.amqp_method.specs.declared.kinds.Kind.TheVariants.{ConnectionOpen, ChannelOpen, BasicPublish, BasicReturn, BasicDeliver, BasicGetOk}

-- no octets encode two methods
abbrev pub OneMethod : Type 0
OneMethod = (c d : Call) (octets : List ℕ) → EncodesMethod c octets → EncodesMethod d octets → c ≡ d

-- no octets encode two headers
abbrev pub OneHeader : Type 0
OneHeader = (h g : ContentHeader) (octets : List ℕ) → EncodesHeader h octets → EncodesHeader g octets → h ≡ g

-- octets that encode a method are read as it
abbrev pub MethodIsRead : Type 0
MethodIsRead = (c : Call) (octets : List ℕ) → EncodesMethod c octets → method_at octets ≡ Ok c

-- octets that encode a header are read as it
abbrev pub HeaderIsRead : Type 0
HeaderIsRead = (h : ContentHeader) (octets : List ℕ) → EncodesHeader h octets → header_at octets ≡ Ok h

-- what is written of a method encodes it, where its arguments are those of its kind, and fit their fields
abbrev pub MethodIsEncoded : Type 0
MethodIsEncoded = (c : Call) → Fits c → ArgumentsFit c.args → EncodesMethod c (plain_method c)

-- what is written of a header encodes it, where the body's size and the properties fit their fields, and the properties
-- are of the kinds that their flags say
abbrev pub HeaderIsEncoded : Type 0
HeaderIsEncoded =
    (h : ContentHeader) → h.body_size < 2 ^ 64 → HaveKinds h.properties property_kinds → PropertiesFit h.properties
    → EncodesHeader h (plain_header h)

-- no two kinds have the same class id and method id
abbrev pub DistinctIds : Type 0
DistinctIds = (k l : Kind) → (row k).class ≡ (row l).class → (row k).id ≡ (row l).id → k ≡ l

-- only the client opens a connection or a channel
pub record OnlyClientOpens : Type 0 where
  pub connection : sends false ConnectionOpen ≡ false
  pub channel : sends false ChannelOpen ≡ false

-- each kind is sent by the client or by the server
abbrev pub EachIsSent : Type 0
EachIsSent = (k : Kind) → (sends true k ≡ true) ⊎ (sends false k ≡ true)

-- the kinds that a content follows
abbrev pub ContentKinds : Type 0
ContentKinds = (k : Kind) → has_content k ≡ true → (k ≡ BasicPublish) ⊎ (k ≡ BasicReturn) ⊎ (k ≡ BasicDeliver)
    ⊎ (k ≡ BasicGetOk)

-- what a kind asks for is what the table says
abbrev pub WantsAsTable : Type 0
WantsAsTable = (k : Kind) → wants k ≡ wanted_in_table k
