-- The items that frames encode, by the relations of contents: which payloads are a content, and which items payloads
-- encode.
use Rattle.std.specs.Prelude.{◌≡◌, List, map, reverse}
use Rattle.amqp_model.specs.Wire.Frame.{Frame}
use Rattle.amqp_model.specs.Wire.Items.{Item, Encodes}
use Rattle.amqp_model.specs.Pair.Sent.{payload_in}

-- The frames of one channel, in their order, encode these items, and no others: methods that are messages of their own,
-- whole contents, flows and flow-oks. A content is whole where its method, its header and body parts that join to its
-- body were there, and one that is still under way is no item.
pub record AreItemsOf (frames : List Frame) (items : List Item) : Type 0 where
  pub encoded : Encodes (reverse (map payload_in frames)) items
  pub only : (others : List Item) → Encodes (reverse (map payload_in frames)) others → others ≡ items
