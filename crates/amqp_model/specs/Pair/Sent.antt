-- What an end sent in a life of a channel, and what it acted on in it: the items that its frames of that life encode.
use Rattle.std.specs.Prelude.{Bool, false, cond, ◌&&◌, ◌==◌, ℕ, zero, suc, List, [], ◌∷◌, ◌++◌, map}
use Rattle.std.specs.Prelude.{filter, reverse}
use Rattle.std.specs.Option.{option_to_list}
use Rattle.amqp_model.specs.Wire.Frame.{Frame}
use Rattle.amqp_model.specs.Wire.Notes.{Role}
use Rattle.amqp_model.specs.History.Lives.{lives}
use Rattle.amqp_model.specs.Pair.Carried.{acts_next, sent, acted}
use Rattle.amqp_model.specs.Wire.Contents.{Payload}
use Rattle.amqp_model.specs.Wire.Gathering.{gathering}
use Rattle.amqp_model.specs.Wire.Items.{Item, item_ended, items}
use Rattle.amqp_model.specs.Wire.Readings.{reading, payload_of}
use Rattle.amqp_model.specs.History.Histories.{Put, Took, History}
use Rattle.amqp_model.specs.History.Negotiation.{Config}
use Rattle.amqp_model.specs.End.StateFromHistory.{end_from}
use Rattle.amqp_model.specs.End.EndVerdict.{goes_on, end_verdict}
use Rattle.amqp_model.specs.Laws.EndLaws.{notes_on}

-- what a frame is to the contents of its channel
abbrev pub payload_in : Frame → Payload
payload_in frame = payload_of (reading frame)

-- the items that frames of one channel encode, in order
abbrev pub items_in : List Frame → List Item
items_in frames = items (map payload_in frames)

-- the items that the end sent in a life of a channel, in order
abbrev pub items_sent : Role → (channel life : ℕ) → History → List Item
items_sent role channel life history = items_in (sent role life (notes_on channel history))

-- the items that the end acted on in a life of a channel, in order; `told` leaves out that of a frame that it found
-- fault with, where there is one
abbrev pub items_acted : Role → (channel life : ℕ) → History → List Item
items_acted role channel life history = items_in (acted role life (notes_on channel history))

-- the life of the newest note of a channel, as the end counts
abbrev pub life_on : Role → (channel : ℕ) → History → ℕ
life_on role channel history = lives role (notes_on channel history)

-- an item sent or acted on, with its channel and its life
pub record Telling : Type 0 where
  pub channel : ℕ
  pub life : ℕ
  pub item : Item

-- the item that a frame ends after the earlier ones of its channel and its life, if it ends one
abbrev pub ended_by : (channel life : ℕ) → (earlier : List Frame) → Frame → List Telling
ended_by channel life earlier frame =
    map (λ item. record { channel = channel; life = life; item = item })
    (option_to_list (item_ended (gathering (reverse (map payload_in earlier))) (payload_in frame)))

-- the item that a frame taken in this life ends
abbrev ended_by_taken : Role → (channel life : ℕ) → Frame → (before : History) → List Telling
ended_by_taken role channel life frame before = ended_by channel life (acted role life (notes_on channel before)) frame

-- the item that a frame put in this life ends
abbrev ended_by_put : Role → (channel life : ℕ) → Frame → (before : History) → List Telling
ended_by_put role channel life frame before = ended_by channel life (sent role life (notes_on channel before)) frame

-- the item that a frame taken on a channel above 0 ends, where the end acts on it
abbrev pub told_at : Role → (channel : ℕ) → Frame → (before : History) → List Telling
told_at role zero frame before = []
told_at role (suc n) frame before =
    cond (acts_next role (notes_on (suc n) before))
    (ended_by_taken role (suc n) (life_on role (suc n) (Took frame ∷ before)) frame before)
    []

-- the item that a frame put on a channel above 0 ends
abbrev pub said_at : Role → (channel : ℕ) → Frame → (before : History) → List Telling
said_at role zero frame before = []
said_at role (suc n) frame before = ended_by_put role (suc n) (life_on role (suc n) (Put frame ∷ before)) frame before

-- the end goes on with the frame that it takes after such a history
abbrev pub goes_on_with : (role : Role) → Config role → Frame → (before : History) → Bool
goes_on_with role config frame before = goes_on (end_verdict config (end_from role config false before) frame)

-- all the items that the end told, in the order of their last frames: of those that it acted on, a frame that it found
-- fault with is none
abbrev pub told : (role : Role) → Config role → History → List Telling
told role config [] = []
told role config (Took frame ∷ before) =
    told role config before ++ cond (goes_on_with role config frame before) (told_at role frame.channel frame before) []
told role config (Put frame ∷ before) = told role config before

-- all the items that the end sent, in the order of their last frames
abbrev pub said : Role → History → List Telling
said role [] = []
said role (Put frame ∷ before) = said role before ++ said_at role frame.channel frame before
said role (Took frame ∷ before) = said role before

-- the items of one channel and life, in order
abbrev pub items_of : (channel life : ℕ) → List Telling → List Item
items_of channel life tellings =
    map (λ telling. telling.item)
    (filter (λ telling. (telling.channel == channel) && (telling.life == life)) tellings)
