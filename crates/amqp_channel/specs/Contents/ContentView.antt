-- What the contents of the code stand for in the model: a method, its properties and its body.
-- AMQP 0-9-1 specification, section 4.2.6, "Content Framing". Read before: the model's `Wire.Contents`.
use Rattle.std.specs.Global.{Global}
use Rattle.std.specs.Prelude.{Box, Option, Some, None}
use Rattle.amqp_method.specs.CarrierView.{carrier_view}
use Rattle.amqp_method.specs.HeaderView.{properties_view}
use Rattle.amqp_method.specs.declared.contents.Content.{Content}
use Rattle.amqp_model.specs.Wire.Contents as contents

-- a content that is whole
abbrev pub content_view : Content → contents.Content
content_view content = record {
  method = carrier_view content.method;
  properties = properties_view content.header.properties;
  body = content.body.items;
}

-- a content, if one is handed out
abbrev pub content_there : Option (Box Content Global) → Option contents.Content
content_there None = None
content_there (Some content) = Some (content_view content.value)
