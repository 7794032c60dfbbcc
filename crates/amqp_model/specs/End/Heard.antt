-- What the other end said in the handshake: a server hears start-ok, tune-ok and open, a client start and tune. Who
-- the other end is, what it can do and which heartbeat it wants stands in their arguments: `amqp0-9-1.xml`,
-- connection.start, start-ok, tune, tune-ok and open. AMQP 0-9-1 specification, section 2.2.4.
use Rattle.std.specs.Prelude.{false, cond, ◌&&◌, ◌==◌, [], ◌∷◌, Option, Some, None}
use Rattle.amqp_method.specs.declared.kinds.Kind.TheVariants as kinds
use Rattle.amqp_model.specs.Wire.Frame.{Frame}
use Rattle.amqp_model.specs.Wire.Notes.{Role}
use Rattle.amqp_model.specs.Wire.Methods.{MethodKind, Method, same_kind}
use Rattle.amqp_model.specs.Wire.Readings.{Reading, Calls, reading}
use Rattle.amqp_model.specs.History.Histories.{Put, Took, History}
use Rattle.amqp_model.specs.End.Channels.{Phase, Handshake, End}
use Rattle.amqp_model.specs.History.Negotiation.{Config}
use Rattle.amqp_model.specs.End.StateFromHistory.{end_from}
use Rattle.amqp_model.specs.End.FrameVerdict.{is_awaited}
use Rattle.amqp_model.specs.End.EndVerdict.{end_verdict, goes_on}

-- the method that an end awaits in this phase, where it is called
abbrev pub awaited_by : Phase → Reading → Option Method
awaited_by (Handshake step) (Calls method) = cond (is_awaited step method.kind) (Some method) None
awaited_by phase reading = None

-- An end hears the method that it awaits in the handshake, on channel 0, if it goes on with it: no tune with a frame
-- size too small, and no tune-ok out of range.
abbrev pub hears : {role : Role} → Config role → End → Frame → Option Method
hears config end frame =
    cond ((frame.channel == 0) && goes_on (end_verdict config end frame)) (awaited_by end.phase (reading frame)) None

-- a method of this kind that is heard now, or the one from before
abbrev pub or_earlier : MethodKind → (now earlier : Option Method) → Option Method
or_earlier kind (Some method) earlier = cond (same_kind method.kind kind) (Some method) earlier
or_earlier kind None earlier = earlier

-- the last method of this kind that the end heard
abbrev pub heard : (role : Role) → Config role → MethodKind → History → Option Method
heard role config kind [] = None
heard role config kind (Took frame ∷ before) =
    or_earlier kind (hears config (end_from role config false before) frame) (heard role config kind before)
heard role config kind (Put frame ∷ before) = heard role config kind before

-- What an end keeps of it: the last method of each kind.
pub record Heard : Type 0 where
  pub start : Option Method
  pub start_ok : Option Method
  pub tune : Option Method
  pub tune_ok : Option Method
  pub connection_open : Option Method

-- a new end has heard nothing
abbrev pub nothing_heard : Heard
nothing_heard = record { start = None; start_ok = None; tune = None; tune_ok = None; connection_open = None }

-- what a method that is heard, or none, makes of it
abbrev pub heard_after : Option Method → Heard → Heard
heard_after now kept =
    record {
      start = or_earlier kinds.ConnectionStart now kept.start;
      start_ok = or_earlier kinds.ConnectionStartOk now kept.start_ok;
      tune = or_earlier kinds.ConnectionTune now kept.tune;
      tune_ok = or_earlier kinds.ConnectionTuneOk now kept.tune_ok;
      connection_open = or_earlier kinds.ConnectionOpen now kept.connection_open;
    }
