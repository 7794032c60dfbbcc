-- A content whose parts are gathered as they come.
use Rattle.std.specs.Prelude.{Bool, true, false, ℕ, List, [], ◌++◌, Option, Some, None, replicate}
use Rattle.amqp_method.specs.CarrierView.{carrier_view}
use Rattle.amqp_method.specs.HeaderView.{properties_view}
use Rattle.amqp_model.specs.End.Asks.{Ask, Send}
use Rattle.amqp_model.specs.End.Events.{Whole}
use Rattle.amqp_model.specs.Wire.Contents as contents
use Rattle.amqp_model.specs.Wire.Methods.{Method, Properties}
use Rattle.example_loop.specs.declared.contents.Coming.{Coming}
use Rattle.example_loop.specs.declared.contents.Content.{Content}

-- In the words of the model: a content, one that is there, and what is there of one that is coming.
abbrev pub content_view : Content → contents.Content
content_view content = record {
  method = carrier_view content.method;
  properties = properties_view content.header.value.properties;
  body = content.body;
}

abbrev pub content_there : Option Content → Option contents.Content
content_there (Some content) = Some (content_view content)
content_there None = None

abbrev pub gathered : Coming → Option contents.Content
gathered coming = content_there coming.content

-- the ask that sends it
abbrev pub sent_on : (channel : ℕ) → Content → Ask
sent_on channel content = Send channel (Whole (content_view content))

-- the content that a method begins: nothing but the method is there
abbrev pub begun : Method → Option contents.Content
begun method = Some (record { method = method; properties = replicate 14 None; body = [] })

-- its properties are there
abbrev pub with_properties : Properties → Option contents.Content → Option contents.Content
with_properties properties (Some content) =
    Some (record { method = content.method; properties = properties; body = content.body })
with_properties properties None = None

-- one more part of its body is there
abbrev pub with_part : List ℕ → Option contents.Content → Option contents.Content
with_part octets (Some content) =
    Some (record { method = content.method; properties = content.properties; body = content.body ++ octets })
with_part octets None = None

-- once it is whole it is taken
abbrev pub whole_of : (whole : Bool) → Option contents.Content → Option contents.Content
whole_of true content = content
whole_of false content = None

-- and is no longer coming
abbrev pub left : (whole : Bool) → Option contents.Content → Option contents.Content
left true content = None
left false content = content
