-- What the payloads of one channel encode: methods that are messages of their own, whole contents, flows and flow-oks.
-- What opens and closes the channel gives nothing, nor does a content that isn't whole. The words are this profile's;
-- which frames make up a message is said in the AMQP 0-9-1 specification, section 4.2.6, "Content Framing".
use Rattle.std.specs.Prelude.{◌≡◌, Bool, List, [], ◌∷◌, ◌++◌, reverse, Option, Some, None}
use Rattle.std.specs.Option.{option_to_list}
use Rattle.amqp_model.specs.Wire.Methods.{Method, Sort, BeginsContent, OpensOrCloses, Plain, AsksFlow, AnswersFlow}
use Rattle.amqp_model.specs.Wire.Methods.{sort_of}
use Rattle.amqp_model.specs.Wire.Contents.{Payload, Calls, Header, Body, Unread, Content, EndsContent}
use Rattle.amqp_model.specs.Wire.Gathering.{Gathering, Step, Completes, step, gathering}

-- what the frames of a channel tell the application: a method, a whole content, a flow or a flow-ok
pub data Item : Type 0 where
  PlainMethod : Method → Item
  WholeContent : Content → Item
  FlowItem FlowOkItem : (active : Bool) → Item

-- the newest payload calls a method of this sort
abbrev pub CallsLast : (taken : List Payload) → Method → Sort → Type 0
CallsLast taken method sort =
    (before : List Payload) × (taken ≡ Calls method ∷ before) × (sort_of method ≡ sort)

-- the newest payload is the last of this item
abbrev pub EndsItem : (taken : List Payload) → Item → Type 0
EndsItem taken (PlainMethod method) = CallsLast taken method Plain
EndsItem taken (WholeContent content) = EndsContent taken content
EndsItem taken (FlowItem active) = (method : Method) × CallsLast taken method (AsksFlow active)
EndsItem taken (FlowOkItem active) = (method : Method) × CallsLast taken method (AnswersFlow active)

-- the items that payloads encode, in order: at each payload the item that it ends, if it ends one
pub data Encodes : (taken : List Payload) → List Item → Type 0 where
  nothing : Encodes [] []
  with_item :
      {payload : Payload} {before : List Payload} {items : List Item} (item : Item) → Encodes before items
      → EndsItem (payload ∷ before) item
      → Encodes (payload ∷ before) (items ++ item ∷ [])
  without :
      {payload : Payload} {before : List Payload} {items : List Item} → Encodes before items
      → ((item : Item) → EndsItem (payload ∷ before) item → ⊥) → Encodes (payload ∷ before) items

-- the item that a method is by itself
abbrev pub item_of : Method → Sort → Option Item
item_of method BeginsContent = None
item_of method OpensOrCloses = None
item_of method Plain = Some (PlainMethod method)
item_of method (AsksFlow active) = Some (FlowItem active)
item_of method (AnswersFlow active) = Some (FlowOkItem active)

-- the content that is now whole
abbrev pub completed : Step → Option Item
completed (Completes content) = Some (WholeContent content)
completed _ = None

-- the item that a payload ends, by what was kept before it
abbrev pub item_ended : Gathering → Payload → Option Item
item_ended kept (Calls method) = item_of method (sort_of method)
item_ended kept (Header size properties) = completed (step kept (Header size properties))
item_ended kept (Body octets) = completed (step kept (Body octets))
item_ended kept Unread = None

-- the items that payloads taken encode, by the machine
abbrev pub items_taken : (taken : List Payload) → List Item
items_taken [] = []
items_taken (payload ∷ before) = items_taken before ++ option_to_list (item_ended (gathering before) payload)

-- the items that payloads encode, where these stand in their order
abbrev pub items : List Payload → List Item
items payloads = items_taken (reverse payloads)
