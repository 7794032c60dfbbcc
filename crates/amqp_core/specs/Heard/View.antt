-- What an end keeps of what the other end said, in the words of the model: the last method of each kind that it heard
-- in the handshake, and what the last close was about that it told of.
use Rattle.std.specs.Prelude.{◌&&◌, ◌==◌, Bool, true, false, cond, ℕ, List, [], ◌∷◌, Option, Some, None}
use Rattle.amqp_method.specs.MethodView.{method_view}
use Rattle.amqp_method.specs.declared.kinds.Kind.TheVariants as kinds
use Rattle.amqp_method.specs.declared.methods.Method as code
use Rattle.amqp_model.specs.End.Channels.{End, Phase}
use Rattle.amqp_model.specs.End.Closes.{Cause}
use Rattle.amqp_model.specs.End.Heard as model
use Rattle.amqp_model.specs.End.Heard.{heard_after, hears, nothing_heard, or_earlier}
use Rattle.amqp_model.specs.History.Negotiation.{Config}
use Rattle.amqp_model.specs.Laws.OctetLaws.{event_of_frame}
use Rattle.amqp_model.specs.Wire.Frame.{Frame}
use Rattle.amqp_model.specs.Wire.Methods.{Method, MethodKind}
use Rattle.amqp_model.specs.Wire.Notes.{Role}
use Rattle.amqp_model.specs.Wire.Readings.{Reading, Calls, reading as says}
use Rattle.amqp_channel.specs.declared.verdict.Told.{Told}
use Rattle.amqp_channel.specs.declared.verdict.Told.TheVariants as told
use Rattle.amqp_channel.specs.declared.verdict.Verdict.TheVariants as ruled
use Rattle.amqp_core.specs.Heard.Causes.{cause_in, cause_told, or_before}
use Rattle.amqp_core.specs.Connection.Handshakes.{awaited_in}
use Rattle.amqp_core.specs.Connection.Rulings.{Ruling, OnChannel, OnConnection}
use Rattle.amqp_core.specs.declared.heard.Cause as code_cause
use Rattle.amqp_core.specs.declared.heard.Heard.{Heard}
use Rattle.amqp_core.specs.declared.verdict.Notice.{Notice}
use Rattle.amqp_core.specs.declared.verdict.Notice.TheVariants as notice
use Rattle.amqp_core.specs.declared.verdict.Verdict.TheVariants.{Proceeds, Faults}

abbrev pub method_there : Option code.Method → Option Method
method_there None = None
method_there (Some method) = Some (method_view method)

abbrev pub cause_view : code_cause.Cause → Cause
cause_view cause = record { class_id = cause.class_id; method_id = cause.method_id }

abbrev pub cause_there : Option code_cause.Cause → Option Cause
cause_there None = None
cause_there (Some cause) = Some (cause_view cause)

pub record Said : Type 0 where
  -- the last method of each kind
  pub methods : model.Heard
  -- what the last close was about
  pub cause : Option Cause

-- what methods come to that were heard one after the other, the newest first
abbrev pub said_in : List code.Method → model.Heard
said_in [] = nothing_heard
said_in (method ∷ earlier) = heard_after (Some (method_view method)) (said_in earlier)

-- the newest of them that is of this kind
abbrev pub newest : MethodKind → List code.Method → Option Method
newest kind [] = None
newest kind (method ∷ earlier) = or_earlier kind (Some (method_view method)) (newest kind earlier)

-- of the handshake
abbrev pub methods_view : Heard → model.Heard
methods_view heard = said_in heard.methods.items

abbrev pub heard_view : Heard → Said
heard_view heard = record { methods = methods_view heard; cause = cause_there heard.closed_for }

-- a new end has heard nothing
abbrev pub nothing_said : Said
nothing_said = record { methods = nothing_heard; cause = None }

-- what is kept of this kind; of others nothing is
abbrev pub kept_of_kind : MethodKind → model.Heard → Option Method
kept_of_kind kinds.ConnectionStart heard = heard.start
kept_of_kind kinds.ConnectionStartOk heard = heard.start_ok
kept_of_kind kinds.ConnectionTune heard = heard.tune
kept_of_kind kinds.ConnectionTuneOk heard = heard.tune_ok
kept_of_kind kinds.ConnectionOpen heard = heard.connection_open
kept_of_kind kind heard = None

-- What a frame that is taken makes of it.
abbrev pub said_after : {role : Role} → Config role → End → Frame → Said → Said
said_after config end frame before =
    record {
      methods = heard_after (hears config end frame) before.methods;
      cause = or_before (cause_told (event_of_frame config end frame) (says frame)) before.cause;
    }

-- The same by the verdict.

-- the end goes on with a frame of this verdict
abbrev pub goes_by : Ruling → Bool
goes_by (OnChannel (ruled.Proceeds said answer)) = true
goes_by (OnChannel ruled.RefusesContent) = true
goes_by (OnChannel (ruled.Faults code)) = false
goes_by (OnConnection (Proceeds said stage due)) = true
goes_by (OnConnection (Faults fault)) = false

abbrev pub told_closes : Told → Bool
told_closes told.ClosedByPeer = true
told_closes said = false

abbrev pub notice_closes : Notice → Bool
notice_closes notice.ClosedByPeer = true
notice_closes said = false

-- the frame is a close of the other end, of which is told
abbrev pub closes_by : Ruling → Bool
closes_by (OnChannel (ruled.Proceeds said answer)) = told_closes said
closes_by (OnChannel said) = false
closes_by (OnConnection (Proceeds said stage due)) = notice_closes said
closes_by (OnConnection (Faults fault)) = false

-- the method that is heard, where the end goes on
abbrev pub heard_here : Phase → (number : ℕ) → Reading → (goes : Bool) → Option Method
heard_here phase number (Calls method) goes =
    cond (awaited_in phase method.kind && (number == 0) && goes) (Some method) None
heard_here phase number reading goes = None

-- what the frame closes for, where it does
abbrev pub cause_here : Reading → (closes : Bool) → Option Cause
cause_here (Calls method) closes = cond closes (Some (cause_in method)) None
cause_here reading closes = None

abbrev pub said_by : Phase → (number : ℕ) → Reading → Ruling → Said → Said
said_by phase number reading verdict before =
    record {
      methods = heard_after (heard_here phase number reading (goes_by verdict)) before.methods;
      cause = or_before (cause_here reading (closes_by verdict)) before.cause;
    }
