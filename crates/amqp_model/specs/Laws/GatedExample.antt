-- Two gated ends: a client that chooses its mechanism once it has seen start, and a server whose application decides.
-- A login and an open are admitted, each end beats, and the server closes while a heartbeat is on its way to it; and
-- a login is refused. `amqp0-9-1.xml`, class connection; AMQP 0-9-1 specification, section 4.2.7.
use Rattle.std.specs.Prelude.{◌≡◌, true, [], ◌∷◌, codes, Some, None}
use Rattle.amqp_value.specs.Values.{no_pairs}
use Rattle.amqp_method.specs.declared.kinds.Kind.TheVariants as kinds
use Rattle.amqp_model.specs.Wire.Frame.{Frame}
use Rattle.amqp_model.specs.Wire.Notes.{Client, Server}
use Rattle.amqp_model.specs.Wire.Methods.{Method}
use Rattle.amqp_model.specs.History.Histories.{Put, Took, History}
use Rattle.amqp_model.specs.End.Channels.{Closed, Agreed}
use Rattle.amqp_model.specs.History.Negotiation.{Config, OfClient, OfServer, start, start_ok_choosing, tune, tune_ok}
use Rattle.amqp_model.specs.History.Negotiation.{connection_open, connection_open_ok}
use Rattle.amqp_model.specs.End.Closes.{method_frame, close_as}
use Rattle.amqp_model.specs.End.Controls.{heartbeat_frame}
use Rattle.amqp_model.specs.End.LawfulHistories.{end_of}
use Rattle.amqp_model.specs.End.Fitting.{ConfigFits}
use Rattle.amqp_model.specs.Pair.Pairs.{Pair}
use Rattle.amqp_model.specs.Laws.PairExample.{close_ok}

-- the client wants a heartbeat of ten seconds, the server of a minute
abbrev pub gated_client : Config Client
gated_client =
    record {
      frame_max = 131072;
      channel_max = 3;
      max_body = 1000;
      heartbeat = 10;
      gated = true;
      hello = OfClient no_pairs [] [] [] (codes "/");
    }

abbrev pub gated_server : Config Server
gated_server =
    record {
      frame_max = 4096;
      channel_max = 2047;
      max_body = 1000;
      heartbeat = 60;
      gated = true;
      hello = OfServer no_pairs (codes "PLAIN EXTERNAL") (codes "en_US");
    }

-- what they settle
abbrev pub settled_by_gated : Agreed
settled_by_gated = record { channel_max = 3; frame_max = 4096; heartbeat = 10 }

-- the frame of a method on channel 0
abbrev pub frame_on_zero : Method → Frame
frame_on_zero method = method_frame 0 method

-- the client's answer to start
abbrev pub chosen : Method
chosen = start_ok_choosing gated_client (codes "EXTERNAL") [] (codes "en_US")

abbrev pub closing : Method
closing = close_as kinds.ConnectionClose 320 (codes "bye")

abbrev pub refusing : Method
refusing = close_as kinds.ConnectionClose 403 (codes "ACCESS_REFUSED")

-- what each of the two put and took, the newest first
abbrev pub admitted_client : History
admitted_client =
    Put (frame_on_zero close_ok)
    ∷ Took (frame_on_zero closing)
    ∷ Took heartbeat_frame
    ∷ Put heartbeat_frame
    ∷ Took (frame_on_zero connection_open_ok)
    ∷ Put (frame_on_zero (connection_open gated_client))
    ∷ Put (frame_on_zero (tune_ok settled_by_gated))
    ∷ Took (frame_on_zero (tune gated_server))
    ∷ Put (frame_on_zero chosen)
    ∷ Took (frame_on_zero (start gated_server))
    ∷ []

abbrev pub admitting_server : History
admitting_server =
    Took (frame_on_zero close_ok)
    ∷ Took heartbeat_frame
    ∷ Put (frame_on_zero closing)
    ∷ Put heartbeat_frame
    ∷ Put (frame_on_zero connection_open_ok)
    ∷ Took (frame_on_zero (connection_open gated_client))
    ∷ Took (frame_on_zero (tune_ok settled_by_gated))
    ∷ Put (frame_on_zero (tune gated_server))
    ∷ Took (frame_on_zero chosen)
    ∷ Put (frame_on_zero (start gated_server))
    ∷ []

abbrev pub refused_client : History
refused_client =
    Put (frame_on_zero close_ok) ∷ Took (frame_on_zero refusing) ∷ Put (frame_on_zero chosen)
    ∷ Took (frame_on_zero (start gated_server)) ∷ []

abbrev pub refusing_server : History
refusing_server =
    Took (frame_on_zero close_ok) ∷ Put (frame_on_zero refusing) ∷ Took (frame_on_zero chosen)
    ∷ Put (frame_on_zero (start gated_server)) ∷ []

-- Two ends come to these histories. Both are closed then; where the login was admitted they have agreed, and where it
-- was refused they have not.
pub record GatedExamplesArePairs : Type 0 where
  pub client_fits : ConfigFits gated_client
  pub server_fits : ConfigFits gated_server
  pub admitted : Pair gated_client gated_server admitted_client admitting_server
  pub client_closed : (end_of gated_client admitted_client).phase ≡ Closed
  pub server_closed : (end_of gated_server admitting_server).phase ≡ Closed
  pub client_agreed : (end_of gated_client admitted_client).agreed ≡ Some settled_by_gated
  pub server_agreed : (end_of gated_server admitting_server).agreed ≡ Some settled_by_gated
  pub refused : Pair gated_client gated_server refused_client refusing_server
  pub client_turned_away : (end_of gated_client refused_client).phase ≡ Closed
  pub server_turned_away : (end_of gated_server refusing_server).phase ≡ Closed
  pub client_has_none : (end_of gated_client refused_client).agreed ≡ None
  pub server_has_none : (end_of gated_server refusing_server).agreed ≡ None
