-- The state of an end, read off its history by counting: its phase, what was agreed, and each channel's record.
--
-- That an end has failed is no function of a history, since a wrong end octet or out of memory leaves it as it was:
-- a mark stands beside the history and is looked at first.
use Rattle.std.specs.Prelude.{Bool, true, false, cond, not, ◌&&◌, ◌||◌, ℕ, zero, suc, List, [], ◌∷◌}
use Rattle.std.specs.Prelude.{Option, Some, None}
use Rattle.amqp_method.specs.declared.kinds.Kind.TheVariants as kinds
use Rattle.amqp_model.specs.Wire.Notes.{Role, Client, Server}
use Rattle.amqp_model.specs.History.States.{State}
use Rattle.amqp_model.specs.History.Lives.{state_by, is_paused, awaits_flow_ok}
use Rattle.amqp_model.specs.Wire.Methods.{MethodKind, same_kind}
use Rattle.amqp_model.specs.Wire.Readings.{Calls, is_call}
use Rattle.amqp_model.specs.History.Histories.{History, ChannelEntry, PutHere, TookHere, entries_on, notes, under_way}
use Rattle.amqp_model.specs.History.Histories.{entries_before_leaving}
use Rattle.amqp_model.specs.History.Replies.{unreplied}
use Rattle.amqp_model.specs.End.Channels.{Life, Channel, Free, Opening, Closing, Open, HandshakeStep}
use Rattle.amqp_model.specs.End.Channels.{AwaitsProtocolHeader, AwaitsStart, AwaitsStartOk, AwaitsTune, AwaitsTuneOk}
use Rattle.amqp_model.specs.End.Channels.{AwaitsOpen, AwaitsOpenOk, HoldsStart, HoldsLogin, HoldsOpen, Phase, Handshake}
use Rattle.amqp_model.specs.End.Channels.{Running, Closed, Failed, Agreed, End}
use Rattle.amqp_model.specs.History.Negotiation.{Config, agreed_in, in_range}

-- Channel 0: the connection itself.

-- the end put such a method
abbrev pub has_put : MethodKind → List ChannelEntry → Bool
has_put kind [] = false
has_put kind (PutHere reading frame ∷ before) = is_call kind reading || has_put kind before
has_put kind (_ ∷ before) = has_put kind before

-- the end took such a method
abbrev pub has_taken : MethodKind → List ChannelEntry → Bool
has_taken kind [] = false
has_taken kind (TookHere reading frame ∷ before) = is_call kind reading || has_taken kind before
has_taken kind (_ ∷ before) = has_taken kind before

-- the end took connection.close, and had not put one before
abbrev pub closed_by_peer : List ChannelEntry → Bool
closed_by_peer [] = false
closed_by_peer (TookHere reading frame ∷ before) =
    (is_call kinds.ConnectionClose reading && not (has_put kinds.ConnectionClose before)) || closed_by_peer before
closed_by_peer (_ ∷ before) = closed_by_peer before

-- the other end closed the connection, or answered this end's close
abbrev pub is_closed : List ChannelEntry → Bool
is_closed entries = closed_by_peer entries || has_taken kinds.ConnectionCloseOk entries

-- the handshake is over: the client took open-ok, the server put it
abbrev pub is_negotiated : Role → List ChannelEntry → Bool
is_negotiated Client entries = has_taken kinds.ConnectionOpenOk entries
is_negotiated Server entries = has_put kinds.ConnectionOpenOk entries

-- the next step of the handshake, by what has been done of it
abbrev pub step_from : Role → List ChannelEntry → HandshakeStep
step_from Client entries =
    cond (has_taken kinds.ConnectionTune entries) AwaitsOpenOk
    (cond (has_put kinds.ConnectionStartOk entries) AwaitsTune
    (cond (has_taken kinds.ConnectionStart entries) HoldsStart AwaitsStart))
step_from Server entries =
    cond (has_taken kinds.ConnectionOpen entries) HoldsOpen
    (cond (has_taken kinds.ConnectionTuneOk entries) AwaitsOpen
    (cond (has_put kinds.ConnectionTune entries) AwaitsTuneOk
    (cond (has_taken kinds.ConnectionStartOk entries) HoldsLogin
    (cond (has_put kinds.ConnectionStart entries) AwaitsStartOk AwaitsProtocolHeader))))

abbrev pub phase_from : Role → (failed : Bool) → List ChannelEntry → Phase
phase_from role failed entries =
    cond failed Failed
    (cond (is_closed entries) Closed
    (cond (has_put kinds.ConnectionClose entries) Phase.Closing
    (cond (is_negotiated role entries) Running (Handshake (step_from role entries)))))

abbrev pub accepted : Config Server → Agreed → Option Agreed
accepted config agreed = cond (in_range config agreed) (Some agreed) None

-- the server awaits tune-ok
abbrev pub awaits_tune_ok : Phase → Bool
awaits_tune_ok (Handshake AwaitsTuneOk) = true
awaits_tune_ok phase = false

-- what the tune-ok says that the client put, or that the server awaited, took and accepted
abbrev pub agreed_from : (role : Role) → Config role → List ChannelEntry → Option Agreed
agreed_from role config [] = None
agreed_from Client config (PutHere (Calls method) frame ∷ before) =
    cond (same_kind method.kind kinds.ConnectionTuneOk) (Some (agreed_in method)) (agreed_from Client config before)
agreed_from Server config (TookHere (Calls method) frame ∷ before) =
    cond (same_kind method.kind kinds.ConnectionTuneOk && awaits_tune_ok (phase_from Server false before))
    (accepted config (agreed_in method)) (agreed_from Server config before)
agreed_from role config (_ ∷ before) = agreed_from role config before

-- The channels above 0.

-- what stands beside the state of an Open channel
abbrev pub life_from : Role → List ChannelEntry → Life
life_from role entries =
    record {
      content = under_way entries;
      paused = is_paused role (notes entries);
      awaits = awaits_flow_ok role (notes entries);
      requests = unreplied role entries;
    }

abbrev pub channel_in : State → Life → Channel
channel_in State.Free life = Free
channel_in State.Opening life = Opening
channel_in State.Closing life = Closing
channel_in State.Open life = Open life

-- a channel of which all these entries count
abbrev pub channel_by : Role → List ChannelEntry → Channel
channel_by role entries = channel_in (state_by role (notes entries)) (life_from role entries)

-- what follows the end's connection.close does not change a channel
abbrev pub channel_from : Role → List ChannelEntry → Channel
channel_from role entries = channel_by role (entries_before_leaving entries)

-- channel 0 is no channel that opens
abbrev pub channel_at : Role → History → ℕ → Channel
channel_at role history zero = Free
channel_at role history (suc n) = channel_from role (entries_on (suc n) history)

abbrev pub end_from : (role : Role) → Config role → (failed : Bool) → History → End
end_from role config failed history =
    record {
      phase = phase_from role failed (entries_on 0 history);
      agreed = agreed_from role config (entries_on 0 history);
      channels = channel_at role history;
    }
