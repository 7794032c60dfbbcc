-- What an application does with the connection itself, besides its asks: it puts a heartbeat, and at an end that is
-- gated it answers start, admits a login or an open, or refuses it. AMQP 0-9-1 specification, sections 2.2.4 and
-- 4.2.7, and `amqp0-9-1.xml`, connection.start-ok, tune, open-ok and close. That an end waits for its application is
-- this profile's.
use Rattle.std.specs.Prelude.{Bool, true, false, ℕ, nat_lt, List, [], ◌∷◌}
use Rattle.amqp_frame.specs.declared.frames.FrameKind.{FrameKind}
use Rattle.amqp_frame.specs.Frame.{frame_length}
use Rattle.amqp_method.specs.declared.kinds.Kind.TheVariants as kinds
use Rattle.amqp_model.specs.Wire.Frame.{Frame}
use Rattle.amqp_model.specs.Wire.Notes.{Role, Client, Server}
use Rattle.amqp_model.specs.Wire.Methods.{Method}
use Rattle.amqp_model.specs.End.Channels.{HoldsStart, HoldsLogin, HoldsOpen, Phase, Handshake, Running, End}
use Rattle.amqp_model.specs.History.Negotiation.{Config, FRAME_MIN, start_ok_choosing, tune, connection_open_ok}
use Rattle.amqp_model.specs.End.Closes.{close_as, method_frame}
use Rattle.amqp_model.specs.End.Asks.{NotRunning, TooLarge, NotAwaited, AskVerdict, Refused, Puts}

pub data Control : Type 0 where
  -- a heartbeat
  Beat : Control
  -- the login or the open that was asked for is granted, or refused with the code and the text of a close
  Admit : Control
  Refuse : (code : ℕ) (text : List ℕ) → Control
  -- the client's answer to start
  AnswerStart : (mechanism response locale : List ℕ) → Control

-- a heartbeat is empty, on channel 0
abbrev pub heartbeat_frame : Frame
heartbeat_frame = record { kind = FrameKind.Heartbeat; channel = 0; payload = [] }

abbrev puts_on_zero : Method → AskVerdict
puts_on_zero method = Puts (method_frame 0 method ∷ [])

-- a Running end puts a heartbeat
abbrev pub beats_in : Phase → AskVerdict
beats_in Running = Puts (heartbeat_frame ∷ [])
beats_in phase = Refused NotRunning

-- a server that holds a login puts tune, and one that holds an open open-ok
abbrev pub admits_in : (role : Role) → Config role → Phase → AskVerdict
admits_in Server config (Handshake HoldsLogin) = puts_on_zero (tune config)
admits_in Server config (Handshake HoldsOpen) = puts_on_zero connection_open_ok
admits_in role config phase = Refused NotAwaited

-- a server that holds either puts connection.close
abbrev pub refuses_in : Role → Phase → (code : ℕ) (text : List ℕ) → AskVerdict
refuses_in Server (Handshake HoldsLogin) code text = puts_on_zero (close_as kinds.ConnectionClose code text)
refuses_in Server (Handshake HoldsOpen) code text = puts_on_zero (close_as kinds.ConnectionClose code text)
refuses_in role phase code text = Refused NotAwaited

-- no frame of the handshake is longer than 4096 octets
abbrev pub unless_long : (is_long : Bool) → Frame → AskVerdict
unless_long true frame = Refused TooLarge
unless_long false frame = Puts (frame ∷ [])

abbrev pub puts_short : Frame → AskVerdict
puts_short frame = unless_long (nat_lt FRAME_MIN (frame_length frame)) frame

-- a client that holds start puts start-ok, with its own properties
abbrev pub answers_in : (role : Role) → Config role → Phase
    → (mechanism response locale : List ℕ) → AskVerdict
answers_in Client config (Handshake HoldsStart) mechanism response locale =
    puts_short (method_frame 0 (start_ok_choosing config mechanism response locale))
answers_in role config phase mechanism response locale = Refused NotAwaited

-- what comes of it in a phase, and so at an end
abbrev pub control_in : (role : Role) → Config role → Phase → Control → AskVerdict
control_in role config phase Beat = beats_in phase
control_in role config phase Admit = admits_in role config phase
control_in role config phase (Refuse code text) = refuses_in role phase code text
control_in role config phase (AnswerStart mechanism response locale) =
    answers_in role config phase mechanism response locale

abbrev pub control_verdict : (role : Role) → Config role → End → Control → AskVerdict
control_verdict role config end control = control_in role config end.phase control
