-- What holds of heartbeats and of what an application decides in the handshake: the statements that the public laws
-- carry. That the two ends of a connection go on with them, and agree, is among the laws of two ends: they are steps
-- as asks are.
use Rattle.std.specs.Prelude.{◌≡◌, Bool, true, false, cond, ◌||◌, ◌==◌, ℕ, min, suc, List, []}
use Rattle.std.specs.Prelude.{◌∷◌, Option, Some}
use Rattle.amqp_frame.specs.Splitting.{AllFit}
use Rattle.amqp_model.specs.Wire.Frame.{Frame}
use Rattle.amqp_model.specs.Wire.Notes.{Role, Client, Server, Note}
use Rattle.amqp_model.specs.Wire.Methods.{Method}
use Rattle.amqp_model.specs.History.Histories.{History, entries_on, notes}
use Rattle.amqp_model.specs.End.Channels.{Agreed, AwaitsStart, AwaitsStartOk, AwaitsTune, AwaitsTuneOk, AwaitsOpen}
use Rattle.amqp_model.specs.End.Channels.{HoldsStart, HoldsLogin, HoldsOpen, Phase, Handshake, Running, End}
use Rattle.amqp_model.specs.History.Negotiation.{Config, FRAME_MIN, start_ok, tune, settled, connection_open_ok}
use Rattle.amqp_model.specs.End.StateFromHistory.{end_from}
use Rattle.amqp_model.specs.End.Events.{Quiet, Proceeds}
use Rattle.amqp_model.specs.End.FrameVerdict.{on_zero, negotiated, on_awaited}
use Rattle.amqp_model.specs.End.Asks.{Refusal, Refused, Puts}
use Rattle.amqp_model.specs.End.Controls.{Control, Beat, Admit, Refuse, AnswerStart, control_verdict}
use Rattle.amqp_model.specs.End.ReadingBack.{ControlReadsBack, WritesReadBack}
use Rattle.amqp_model.specs.End.LawfulHistories.{Lawful, then_put, end_of}
use Rattle.amqp_model.specs.End.Machine.{end_after_put, StandsFor}
use Rattle.amqp_model.specs.Laws.EndLaws.{ActsOn}
use Rattle.amqp_model.specs.End.Bounds.{EndIsWithin}
use Rattle.amqp_model.specs.End.Fitting.{ConfigFits, ConfigWrites, ControlFits}
use Rattle.amqp_model.specs.Laws.FittingLaws.{AllWithin}
use Rattle.amqp_model.specs.Pair.Sent.{said}
use Rattle.amqp_model.specs.Lent.Alike.{AlikeEnds, AlikeEndpoints}
use Rattle.amqp_model.specs.Stream.Endpoint.{Endpoint, after_control}
use Rattle.amqp_model.specs.Laws.OctetLaws.{EndpointStandsFor}
use Rattle.amqp_model.specs.Stream.Pieces.{HoldsUnfinished}
use Rattle.amqp_model.specs.Pair.Pairs.{config_of}
use Rattle.amqp_model.specs.Pair.Agreement.{PairWrites}
use Rattle.amqp_model.specs.Pair.EndsTogether.{StandTogether}

-- One end.

-- what comes of a control is what the end's history gives
abbrev pub ControlOfHistory : (role : Role) → Config role → (failed : Bool) → End
    → History → Control → Type 0
ControlOfHistory role config failed end history control =
    StandsFor role config failed end history
    → control_verdict role config end control
    ≡ control_verdict role config (end_from role config failed history) control

-- What comes of a heartbeat or a decision is what the end's history gives.
abbrev pub EveryControlIsOfHistory : Type 0
EveryControlIsOfHistory =
    (role : Role) (config : Config role) (failed : Bool) (end : End) (history : History) (control : Control)
    → ControlOfHistory role config failed end history control

-- one frame is put, on channel 0
pub record PutsOneOnZero (frames : List Frame) : Type 0 where
  pub frame : Frame
  pub is : frames ≡ frame ∷ []
  pub on_zero : frame.channel ≡ 0

-- An accepted control puts exactly one frame, on channel 0.
abbrev pub ControlPutsOne : Type 0
ControlPutsOne =
    (role : Role) (config : Config role) (end : End) (control : Control) (frames : List Frame)
    → control_verdict role config end control ≡ Puts frames → PutsOneOnZero frames

-- An end accepts a control: what it keeps then stands for its history with the frame put.
abbrev pub ControlFollows : Type 0
ControlFollows =
    (role : Role) (config : Config role) (end : End) (history : History) (control : Control) (frames : List Frame)
    → WritesReadBack role config → StandsFor role config false end history → ControlReadsBack role config control
    → control_verdict role config end control ≡ Puts frames
    → StandsFor role config false (end_after_put role config frames end) (then_put frames history)

-- An admitted login awaits tune-ok, an admitted open ends the handshake, a refusal closes the connection, an answer
-- to start awaits tune, and a heartbeat leaves the phase.
abbrev pub phase_after_control : Phase → Control → Phase
phase_after_control phase Beat = phase
phase_after_control (Handshake HoldsOpen) Admit = Running
phase_after_control phase Admit = Handshake AwaitsTuneOk
phase_after_control phase (Refuse code text) = Phase.Closing
phase_after_control phase (AnswerStart mechanism response locale) = Handshake AwaitsTune

-- After an accepted control the end is in the phase that the control leads to.
abbrev pub ControlMovesPhase : Type 0
ControlMovesPhase =
    (role : Role) (config : Config role) (end : End) (control : Control) (frames : List Frame)
    → WritesReadBack role config → ControlReadsBack role config control
    → control_verdict role config end control ≡ Puts frames
    → (end_after_put role config frames end).phase ≡ phase_after_control end.phase control

-- no channel changes, nor what was agreed, nor how much is kept
pub record LeavesRest (role : Role) (config : Config role) (end after : End) : Type 0 where
  pub channels : (n : ℕ) → after.channels n ≡ end.channels n
  pub agreed : after.agreed ≡ end.agreed
  pub within : EndIsWithin role config end → EndIsWithin role config after

-- An accepted control changes no channel, nor what was agreed, and keeps the end within its bounds.
abbrev pub ControlLeavesRest : Type 0
ControlLeavesRest =
    (role : Role) (config : Config role) (end : End) (control : Control) (frames : List Frame)
    → WritesReadBack role config → ControlReadsBack role config control
    → control_verdict role config end control ≡ Puts frames
    → LeavesRest role config end (end_after_put role config frames end)

-- On each channel above 0 the end acts as the lives of a channel allow: it leaves, where it refuses, and else does
-- nothing.
abbrev pub ControlsAct : Type 0
ControlsAct =
    (role : Role) (config : Config role) (history : History) (control : Control) (frames : List Frame) (n : ℕ)
    (theirs : List Note)
    → WritesReadBack role config → ControlReadsBack role config control
    → control_verdict role config (end_from role config false history) control ≡ Puts frames
    → ActsOn role theirs (notes (entries_on (suc n) history)) (notes (entries_on (suc n) (then_put frames history)))

-- An accepted control says no message.
abbrev pub ControlSaysNothing : Type 0
ControlSaysNothing =
    (role : Role) (config : Config role) (end : End) (history : History) (control : Control) (frames : List Frame)
    → control_verdict role config end control ≡ Puts frames
    → said role (then_put frames history) ≡ said role history

-- What is written.

-- what is written for a control reads back where it fits its fields
abbrev pub ControlledReadsBack : Type 0
ControlledReadsBack =
    (role : Role) (config : Config role) (control : Control)
    → ConfigFits config → ControlFits control → ControlReadsBack role config control

-- the frame fits its fields, and has at most 4096 octets
pub record FitsAndIsShort (frames : List Frame) : Type 0 where
  pub fit : AllFit frames
  pub short : AllWithin FRAME_MIN frames

-- The frame that an accepted control puts fits its fields, and has at most 4096 octets.
abbrev pub ControlledFits : Type 0
ControlledFits =
    (role : Role) (config : Config role) (end : End) (control : Control) (frames : List Frame)
    → ConfigWrites config → ControlReadsBack role config control
    → control_verdict role config end control ≡ Puts frames
    → FitsAndIsShort frames

-- Octet by octet.

-- a control is accepted: the end stands for its history with the frame put
abbrev pub ControlAcceptedFollows : (role : Role) → Config role → Endpoint → History
    → (fed written : List ℕ) → Control → List Frame → Type 0
ControlAcceptedFollows role config endpoint history fed written control frames =
    EndpointStandsFor role config endpoint history fed written
    → ConfigWrites config → WritesReadBack role config → ControlReadsBack role config control
    → control_verdict role config endpoint.end control ≡ Puts frames
    → EndpointStandsFor role config (after_control role config endpoint control) (then_put frames history) fed written

-- After an accepted heartbeat or decision an end stands for its history with the frames put.
abbrev pub EveryAcceptedControlFollows : Type 0
EveryAcceptedControlFollows =
    (role : Role) (config : Config role) (endpoint : Endpoint) (history : History) (fed written : List ℕ)
    (control : Control) (frames : List Frame)
    → ControlAcceptedFollows role config endpoint history fed written control frames

-- A control that is refused changes nothing.
abbrev pub ControlRefusedStays : Type 0
ControlRefusedStays =
    (role : Role) (config : Config role) (endpoint : Endpoint) (control : Control) (refusal : Refusal)
    → control_verdict role config endpoint.end control ≡ Refused refusal
    → after_control role config endpoint control ≡ endpoint

-- The unfinished octets are held on after a control.
abbrev pub ControlHolds : Type 0
ControlHolds =
    (role : Role) (config : Config role) (endpoint : Endpoint) (control : Control)
    → HoldsUnfinished role endpoint → WritesReadBack role config → ControlReadsBack role config control
    → HoldsUnfinished role (after_control role config endpoint control)

-- Alike ends accept the same controls, put the same for them, and refuse the others for the same reason.
abbrev pub ControlsAlike : Type 0
ControlsAlike =
    (role : Role) (config : Config role) (one other : End) (control : Control)
    → AlikeEnds one other → control_verdict role config one control ≡ control_verdict role config other control

-- Alike endpoints stay alike after a control.
abbrev pub ControllingLeavesAlike : Type 0
ControllingLeavesAlike =
    (role : Role) (config : Config role) (one other : Endpoint) (control : Control) → AlikeEndpoints one other
    → AlikeEndpoints (after_control role config one control) (after_control role config other control)

-- Two ends.

-- two endpoints that stand together do so when one of them accepts a control
abbrev pub ControlStandsTogether : Type 0
ControlStandsTogether =
    (role : Role) (client_config : Config Client) (server_config : Config Server) (mine theirs : Endpoint)
    (control : Control)
    (frames : List Frame)
    → StandTogether role client_config server_config mine theirs
    → ControlReadsBack role (config_of role client_config server_config) control
    → control_verdict role (config_of role client_config server_config) mine.end control ≡ Puts frames
    → StandTogether role client_config server_config
    (after_control role (config_of role client_config server_config) mine control) theirs

-- The same of the histories themselves.
abbrev pub ControlledStaysPair : Role → Config Client → Config Server
    → (mine theirs : History) → End → Control → List Frame → Type 0
ControlledStaysPair role client_config server_config mine theirs end control frames =
    PairWrites role client_config server_config mine theirs
    → StandsFor role (config_of role client_config server_config) false end mine
    → ControlReadsBack role (config_of role client_config server_config) control
    → control_verdict role (config_of role client_config server_config) end control ≡ Puts frames
    → PairWrites role client_config server_config (then_put frames mine) theirs

-- After the frames of an accepted heartbeat or decision two histories are a pair still.
abbrev pub EveryControlStaysPair : Type 0
EveryControlStaysPair =
    (role : Role) (client_config : Config Client) (server_config : Config Server) (mine theirs : History) (end : End)
    (control : Control) (frames : List Frame)
    → ControlledStaysPair role client_config server_config mine theirs end control frames

-- An end that is not gated, and one that wants no heartbeat.

-- an end that is not gated answers start, start-ok and open at once
pub record AnswersAtOnce (client_config : Config Client) (server_config : Config Server) (agreed : Option Agreed)
    (method : Method) : Type 0 where
  pub at_start :
      on_awaited Client client_config agreed AwaitsStart method
      ≡ Proceeds (Some Quiet) (on_zero (start_ok client_config) ∷ [])
  pub at_login :
      on_awaited Server server_config agreed AwaitsStartOk method
      ≡ Proceeds (Some Quiet) (on_zero (tune server_config) ∷ [])
  pub at_open :
      on_awaited Server server_config agreed AwaitsOpen method
      ≡ Proceeds (negotiated agreed) (on_zero connection_open_ok ∷ [])

-- An end that is not gated answers start, start-ok and open at once, without its application.
abbrev pub UngatedAnswersAtOnce : Type 0
UngatedAnswersAtOnce =
    (client_config : Config Client) (server_config : Config Server) (agreed : Option Agreed) (method : Method)
    → client_config.gated ≡ false → server_config.gated ≡ false
    → AnswersAtOnce client_config server_config agreed method

-- an end that waits for its application
abbrev pub holds : Phase → Bool
holds (Handshake HoldsStart) = true
holds (Handshake HoldsLogin) = true
holds (Handshake HoldsOpen) = true
holds phase = false

-- An end that is not gated never waits for its application, after whatever lawful steps.
abbrev pub UngatedNeverHolds : Type 0
UngatedNeverHolds =
    (role : Role) (config : Config role) (history : History)
    → WritesReadBack role config → Lawful role config false history → config.gated ≡ false
    → holds (end_of config history).phase ≡ false

-- two ends settle on no heartbeat where either wants none, and else on the smaller
abbrev pub SettlesHeartbeat : Type 0
SettlesHeartbeat =
    (client_config : Config Client) (server_config : Config Server)
    → (settled client_config (tune server_config)).heartbeat
    ≡ cond (client_config.heartbeat == 0 || server_config.heartbeat == 0) 0
    (min client_config.heartbeat server_config.heartbeat)
