-- Contents: messages that carry a body. AMQP 0-9-1 specification, section 4.2.6, "Content Framing": a method that
-- carries a content is followed, on its channel, by a content header frame and then by as many body frames as there
-- are. Between them the channel carries nothing else.
--
-- All is said of payloads: what the frames of one channel say, once they are read. A list of payloads is in their
-- order, the oldest first, but for `taken` and `since`, which are histories, the newest first.
use Rattle.std.specs.Prelude.{◌≡◌, ◌≢◌, true, ℕ, zero, suc, ◌+◌, ◌-◌, ◌/◌, List, []}
use Rattle.std.specs.Prelude.{◌∷◌, ◌++◌, length, take, drop, map, reverse}
use Rattle.std.specs.List.{concat}
use Rattle.amqp_model.specs.Wire.Methods.{Method, Properties, carries_content}

-- What a payload says: it calls a method, it is a content header with the size of the body that follows, or it is a
-- part of a body. `Unread` is none of these, or doesn't parse.
pub data Payload : Type 0 where
  Calls : Method → Payload
  Header : (size : ℕ) → Properties → Payload
  Body : (octets : List ℕ) → Payload
  Unread : Payload

pub record Content : Type 0 where
  pub method : Method
  pub properties : Properties
  pub body : List ℕ

-- the last part, if there is one, is not empty
abbrev pub EndsFull : List (List ℕ) → Type 0
EndsFull [] = Unit {0}
EndsFull (last ∷ []) = last ≢ []
EndsFull (part ∷ next ∷ later) = EndsFull (next ∷ later)

-- The payloads are just this content: its method, a header with its properties and the length of its body, and body
-- parts that join to the body. The last part is not empty, so that an empty body has no part. Empty parts before the
-- last are allowed, which is this profile's choice.
pub record IsContent (content : Content) (payloads : List Payload) : Type 0 where
  pub carries : carries_content content.method ≡ true
  pub parts : List (List ℕ)
  pub joined : concat parts ≡ content.body
  pub ends_full : EndsFull parts
  pub payloads_are : payloads ≡ Calls content.method ∷ Header (length content.body) content.properties
      ∷ map Body parts

-- the first so many pieces of octets, each as long as there is room, the last with what is left
abbrev pub first_pieces : (pieces room : ℕ) → List ℕ → List (List ℕ)
first_pieces zero room octets = []
first_pieces (suc n) room octets = take room octets ∷ first_pieces n room (drop room octets)

-- as many pieces as the octets fill, the last perhaps in part
abbrev pub pieces : (room : ℕ) → List ℕ → List (List ℕ)
pieces room octets = first_pieces ((length octets + room - 1) / room) room octets

-- the room for octets of a body in a frame of at most `max` octets: eight stand around a payload, as the AMQP 0-9-1
-- specification, section 4.2.3, "General Frame Format", has it
abbrev pub room_in : (max : ℕ) → ℕ
room_in max = max - 8

-- the payloads of a content as this profile writes it, in frames of at most `max` octets: each part as long as fits
abbrev pub cut : (max : ℕ) → Content → List Payload
cut max content =
    Calls content.method ∷ Header (length content.body) content.properties
    ∷ map Body (pieces (room_in max) content.body)

-- A content is under way: of the payloads taken, `since` are the newest; there are some, and they are a prefix of a
-- content's payloads, but not all of them.
pub record UnderWay (taken since : List Payload) : Type 0 where
  pub before : List Payload
  pub taken_is : taken ≡ since ++ before
  pub begun : since ≢ []
  pub content : Content
  pub next : Payload
  pub later : List Payload
  pub content_is : IsContent content (reverse since ++ next ∷ later)

-- the newest of the payloads taken are just this content
pub record EndsContent (taken : List Payload) (content : Content) : Type 0 where
  pub since : List Payload
  pub before : List Payload
  pub taken_is : taken ≡ since ++ before
  pub content_is : IsContent content (reverse since)

-- the octets of the body parts among such payloads, joined in the order in which they were taken
abbrev pub body_octets : (since : List Payload) → List ℕ
body_octets [] = []
body_octets (Body octets ∷ before) = body_octets before ++ octets
body_octets (_ ∷ before) = body_octets before

-- what the next payload of a content under way has to be
pub data Due : Type 0 where
  DueHeader DueBody : Due

-- after the method comes the header, and then body
abbrev pub due : (since : List Payload) → Due
due (Calls method ∷ before) = DueHeader
due _ = DueBody

abbrev pub IsDue : Due → Payload → Type 0
IsDue DueHeader payload = (size : ℕ) × (properties : Properties) × (payload ≡ Header size properties)
IsDue DueBody payload = (octets : List ℕ) × (payload ≡ Body octets)
