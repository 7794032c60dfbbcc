-- What an end does with a frame that it takes on a channel: one function by cases of role, state, awaited flow and
-- kind.
--
-- The discarding and the answers are those of `amqp0-9-1.xml`, channel.open, flow and close; the codes are the
-- standard's, and which of them a frame earns is this profile's choice.
use Rattle.std.specs.Prelude.{Bool, cond, ℕ, List, Option, Some, None}
use Rattle.amqp_model.specs.Wire.Notes.{Role, Client, Server, Kind, Open, OpenOk, Close, CloseOk, Flow, FlowOk, Other}
use Rattle.amqp_model.specs.Wire.Notes.{Note}
use Rattle.amqp_model.specs.History.States.{State, Free, Opening, Closing}
use Rattle.amqp_model.specs.History.Lives.{state, awaits_flow_ok, has_left}

-- What comes of a frame. `Acted` is a message that counts: a method without content is told at once, the frames of a
-- content together, with its last. `Quiet` is a close that crosses the end's own
pub data ChannelEvent : Type 0 where
  Opened Acted ClosedByUs ClosedByPeer Discarded Quiet : ChannelEvent
  FlowAsked FlowAnswered : (active : Bool) → ChannelEvent

-- the end goes on, with an event and the frame that it owes in reply, or it closes the connection with a code
pub data Verdict : Type 0 where
  GoesOn : (event : ChannelEvent) (owed : Option Kind) → Verdict
  Fault : (code : ℕ) → Verdict

-- the codes that a frame can earn here: `amqp0-9-1.xml`, command-invalid and channel-error
abbrev command_invalid : ℕ
command_invalid = 503

abbrev pub channel_error : ℕ
channel_error = 504

-- The end has put close and waits for close-ok: it answers a close that crosses its own, and drops all else.
abbrev pub when_closing : Kind → Verdict
when_closing Close = GoesOn Quiet (Some CloseOk)
when_closing CloseOk = GoesOn ClosedByUs None
when_closing kind = GoesOn Discarded None

-- The number is free: only an open begins a life, and only the client puts one. An open or an open-ok in the wrong
-- direction is command-invalid, all else channel-error.
abbrev pub when_free : Role → Kind → Verdict
when_free Server Open = GoesOn Opened (Some OpenOk)
when_free Server OpenOk = Fault command_invalid
when_free Client Open = Fault command_invalid
when_free role kind = Fault channel_error

-- The client has put open and awaits open-ok, which the server may have let a close follow. A server has no such
-- channel.
abbrev pub when_opening : Role → Kind → Verdict
when_opening role Close = GoesOn ClosedByPeer (Some CloseOk)
when_opening Client OpenOk = GoesOn Opened None
when_opening Server OpenOk = Fault command_invalid
when_opening Client Open = Fault command_invalid
when_opening role kind = Fault channel_error

-- The channel is open: a close ends the life, a flow is answered with its own bit.
abbrev pub when_open : Role → Bool → Kind → Verdict
when_open role awaits Close = GoesOn ClosedByPeer (Some CloseOk)
when_open role awaits (Flow active) = GoesOn (FlowAsked active) (Some (FlowOk active))
when_open role awaits (FlowOk active) = cond awaits (GoesOn (FlowAnswered active) None) (Fault command_invalid)
when_open role awaits (Other begins_content) = GoesOn Acted None
when_open Server awaits Open = Fault channel_error
when_open role awaits kind = Fault command_invalid

-- the verdict on a note, where the end has not put connection.close
abbrev pub verdict_at : Role → State → Bool → Kind → Verdict
verdict_at role Closing awaits kind = when_closing kind
verdict_at role Free awaits kind = when_free role kind
verdict_at role Opening awaits kind = when_opening role kind
verdict_at role State.Open awaits kind = when_open role awaits kind

-- the verdict on the next note: an end that has put connection.close drops whatever comes on a channel
abbrev pub verdict : Role → List Note → Kind → Verdict
verdict role history kind =
    cond (has_left history) (GoesOn Discarded None)
    (verdict_at role (state role history) (awaits_flow_ok role history) kind)
