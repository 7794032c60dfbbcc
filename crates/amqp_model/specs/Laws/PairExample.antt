-- A connection of two ends, from its first frame to its last: they settle on the client's limit of channels and on the
-- server's size of a frame, each sends a content, the server pauses the client, a request has its reply, and the closes
-- of the channel and of the connection cross.
use Rattle.std.specs.Prelude.{◌≡◌, false, List, [], ◌∷◌, codes, length, Option, Some, None}
use Rattle.amqp_value.specs.Values.{no_pairs}
use Rattle.amqp_method.specs.declared.kinds.Kind.TheVariants as kinds
use Rattle.amqp_method.specs.Arguments.{Argument, bit, long_long, short_string}
use Rattle.amqp_model.specs.Wire.Frame.{Frame}
use Rattle.amqp_model.specs.Wire.Notes.{Client, Server}
use Rattle.amqp_model.specs.Wire.Methods.{Method}
use Rattle.amqp_model.specs.Wire.Contents.{Content, Header, Body}
use Rattle.amqp_model.specs.Wire.Items.{PlainMethod, WholeContent, FlowItem, FlowOkItem}
use Rattle.amqp_model.specs.History.Histories.{Put, Took, History}
use Rattle.amqp_model.specs.End.Channels.{Closed, Agreed}
use Rattle.amqp_model.specs.History.Negotiation.{Config, OfClient, OfServer, start, start_ok, tune, tune_ok}
use Rattle.amqp_model.specs.History.Negotiation.{connection_open, connection_open_ok}
use Rattle.amqp_model.specs.End.Closes.{method_frame, without_arguments, flow_as, close_as}
use Rattle.amqp_model.specs.End.Asks.{payload_frame}
use Rattle.amqp_model.specs.End.LawfulHistories.{end_of}
use Rattle.amqp_model.specs.End.Fitting.{ConfigFits}
use Rattle.amqp_model.specs.Pair.Pairs.{Pair}
use Rattle.amqp_model.specs.Pair.Sent.{items_acted}

abbrev pub example_client : Config Client
example_client =
    record {
      frame_max = 131072;
      channel_max = 3;
      max_body = 1000;
      heartbeat = 0;
      gated = false;
      hello = OfClient no_pairs (codes "PLAIN") [] (codes "en_US") (codes "/");
    }

abbrev pub example_server : Config Server
example_server =
    record {
      frame_max = 4096;
      channel_max = 2047;
      max_body = 1000;
      heartbeat = 0;
      gated = false;
      hello = OfServer no_pairs (codes "PLAIN") (codes "en_US");
    }

-- what they settle
abbrev pub settled_example : Agreed
settled_example = record { channel_max = 3; frame_max = 4096; heartbeat = 0 }

-- the frame of a method on channel 0, and on channel 1
abbrev pub zero : Method → Frame
zero method = method_frame 0 method

abbrev pub one : Method → Frame
one method = method_frame 1 method

abbrev pub channel_open : Method
channel_open = without_arguments kinds.ChannelOpen

abbrev pub channel_open_ok : Method
channel_open_ok = without_arguments kinds.ChannelOpenOk

abbrev pub channel_close_ok : Method
channel_close_ok = without_arguments kinds.ChannelCloseOk

abbrev pub close_ok : Method
close_ok = without_arguments kinds.ConnectionCloseOk

abbrev pub select : Method
select = without_arguments kinds.TxSelect

abbrev pub select_ok : Method
select_ok = without_arguments kinds.TxSelectOk

abbrev no_properties : List (Option Argument)
no_properties =
    None ∷ None ∷ None ∷ None ∷ None ∷ None ∷ None ∷ None ∷ None ∷ None ∷ None
    ∷ None ∷ None ∷ None ∷ []

abbrev publish : Method
publish =
    record {
      kind = kinds.BasicPublish;
      args = short_string [] ∷ short_string (codes "q")
          ∷ bit false ∷ bit false ∷ [];
    }

abbrev deliver : Method
deliver =
    record {
      kind = kinds.BasicDeliver;
      args = short_string (codes "t") ∷ long_long 1 ∷ bit false ∷ short_string []
          ∷ short_string (codes "q") ∷ [];
    }

-- the content that the client sends, and the one that the server does
abbrev pub published : Content
published = record { method = publish; properties = no_properties; body = codes "abc" }

abbrev pub delivered : Content
delivered = record { method = deliver; properties = no_properties; body = codes "xy" }

-- the frames of a content after the first
abbrev pub header_frame : Content → Frame
header_frame content = payload_frame 1 (Header (length content.body) content.properties)

abbrev pub body_frame : Content → Frame
body_frame content = payload_frame 1 (Body content.body)

-- what each of the two put and took, the newest first
abbrev pub client_history : History
client_history =
    Took (zero close_ok)
    ∷ Put (zero close_ok)
    ∷ Took (zero (close_as kinds.ConnectionClose 320 []))
    ∷ Put (zero (close_as kinds.ConnectionClose 200 []))
    ∷ Took (one channel_close_ok)
    ∷ Put (one channel_close_ok)
    ∷ Took (one (close_as kinds.ChannelClose 404 []))
    ∷ Put (one (close_as kinds.ChannelClose 200 []))
    ∷ Took (one select_ok)
    ∷ Put (one select)
    ∷ Put (one (flow_as kinds.ChannelFlowOk false))
    ∷ Took (one (flow_as kinds.ChannelFlow false))
    ∷ Took (body_frame delivered)
    ∷ Took (header_frame delivered)
    ∷ Took (one delivered.method)
    ∷ Put (body_frame published)
    ∷ Put (header_frame published)
    ∷ Put (one published.method)
    ∷ Took (one channel_open_ok)
    ∷ Put (one channel_open)
    ∷ Took (zero connection_open_ok)
    ∷ Put (zero (connection_open example_client))
    ∷ Put (zero (tune_ok settled_example))
    ∷ Took (zero (tune example_server))
    ∷ Put (zero (start_ok example_client))
    ∷ Took (zero (start example_server))
    ∷ []

abbrev pub server_history : History
server_history =
    Took (zero close_ok)
    ∷ Put (zero close_ok)
    ∷ Took (zero (close_as kinds.ConnectionClose 200 []))
    ∷ Put (zero (close_as kinds.ConnectionClose 320 []))
    ∷ Took (one channel_close_ok)
    ∷ Put (one channel_close_ok)
    ∷ Took (one (close_as kinds.ChannelClose 200 []))
    ∷ Put (one (close_as kinds.ChannelClose 404 []))
    ∷ Put (one select_ok)
    ∷ Took (one select)
    ∷ Took (one (flow_as kinds.ChannelFlowOk false))
    ∷ Put (one (flow_as kinds.ChannelFlow false))
    ∷ Put (body_frame delivered)
    ∷ Put (header_frame delivered)
    ∷ Put (one delivered.method)
    ∷ Took (body_frame published)
    ∷ Took (header_frame published)
    ∷ Took (one published.method)
    ∷ Put (one channel_open_ok)
    ∷ Took (one channel_open)
    ∷ Put (zero connection_open_ok)
    ∷ Took (zero (connection_open example_client))
    ∷ Took (zero (tune_ok settled_example))
    ∷ Put (zero (tune example_server))
    ∷ Took (zero (start_ok example_client))
    ∷ Put (zero (start example_server))
    ∷ []

-- Two ends come to these histories; both are closed then, and have agreed to the smaller limits.
pub record ExampleIsPair : Type 0 where
  pub client_fits : ConfigFits example_client
  pub server_fits : ConfigFits example_server
  pub pair : Pair example_client example_server client_history server_history
  pub client_closed : (end_of example_client client_history).phase ≡ Closed
  pub server_closed : (end_of example_server server_history).phase ≡ Closed
  pub client_agreed : (end_of example_client client_history).agreed ≡ Some settled_example
  pub server_agreed : (end_of example_server server_history).agreed ≡ Some settled_example
  -- what each acted on in the one life of channel 1
  pub by_server :
      items_acted Server 1 1 server_history ≡ WholeContent published ∷ FlowOkItem false
      ∷ PlainMethod select ∷ []
  pub by_client :
      items_acted Client 1 1 client_history ≡ WholeContent delivered ∷ FlowItem false
      ∷ PlainMethod select_ok ∷ []
