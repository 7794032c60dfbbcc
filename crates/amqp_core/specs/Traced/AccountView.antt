-- What came of a piece beside the answer to it, in the words of the model.
use Rattle.std.specs.Prelude.{◌≡◌, true, ℕ, List, [], Option, Some, None, Result}
use Rattle.amqp_frame.specs.declared.faults.FrameFaultKind.{FrameFaultKind}
use Rattle.amqp_model.specs.End.Channels.{End}
use Rattle.amqp_model.specs.End.Closes.{Owed}
use Rattle.amqp_model.specs.End.EndVerdict.{end_verdict, facts_at, takes_frames}
use Rattle.amqp_model.specs.Stream.Endpoint.{Endpoint, Feeding, Outcome, Unfinished, Finished, Found, awaits_opening}
use Rattle.amqp_model.specs.Stream.Endpoint.{owed_at_start, outcome_of, owed_at_fault}
use Rattle.amqp_model.specs.End.Events.{Quiet, WrongProtocolHeader}
use Rattle.amqp_model.specs.Wire.Frame.{Frame}
use Rattle.amqp_model.specs.End.FrameVerdict.{methods_put}
use Rattle.amqp_model.specs.Wire.Items.{Item}
use Rattle.amqp_model.specs.History.Negotiation.{Config}
use Rattle.amqp_model.specs.Wire.Notes.{Role}
use Rattle.amqp_model.specs.Laws.OctetLaws.{CompletesFrame, ShowsFault}
use Rattle.amqp_model.specs.Stream.Traces.{Noted, IsTaken, noted, item_in_event}
use Rattle.amqp_model.specs.End.Events as events
use Rattle.amqp_channel.specs.Events.PartsView.{parts_there}
use Rattle.amqp_core.specs.End.Feeding.{Seen, taken_with}
use Rattle.amqp_core.specs.Traced.Notes.{note_view}
use Rattle.amqp_core.specs.Connection.Owed.{owed_view}
use Rattle.amqp_core.specs.declared.account.Account.{Account}
use Rattle.amqp_core.specs.declared.faults.CoreFault.{CoreFault}
use Rattle.amqp_core.specs.declared.notes.Note.{Note}
use Rattle.amqp_core.specs.declared.owed.Owed.TheVariants as owed
use Rattle.amqp_core.specs.declared.settings.Settings.{Settings}

abbrev pub note_there : Option Note → Option Noted
note_there None = None
note_there (Some note) = Some (note_view note)

-- nothing came yet
pub record IsFresh (account : Account) : Type 0 where
  pub octets : account.octets ≡ 0
  pub took : account.took ≡ None
  pub parts : account.parts ≡ None
  pub owed : account.owed ≡ owed.Nothing

-- the item of what came
abbrev pub item_in_outcome : Outcome → Option Item
item_in_outcome (Finished event) = item_in_event event
item_in_outcome outcome = None

-- What a piece came to: the frame that was taken, as it is noted, the item that it told, and the methods that were put.
pub record Came : Type 0 where
  pub took : Option Noted
  pub item : Option Item
  pub owed : List Owed

-- what an account says, of a piece that told this event
abbrev pub came_by : Settings → Account → Option events.Event → Came
came_by settings account event =
    record { took = note_there account.took; item = item_in_event event; owed = owed_view settings account.owed }

-- no frame, and these methods put
abbrev pub puts_alone : List Owed → Came
puts_alone owed = record { took = None; item = None; owed = owed }

-- a frame taken
abbrev pub came_of_frame : {role : Role} → Config role → End → Frame → Came
came_of_frame config end frame = record {
  took = Some (noted IsTaken frame);
  item = item_in_outcome (outcome_of (facts_at config end frame.channel) (end_verdict config end frame));
  owed = methods_put (facts_at config end frame.channel) (end_verdict config end frame);
}

-- The account of a piece: how many octets were taken, and what they came to.
pub record IsAccount (role : Role) (config : Config role) (old : Endpoint) (piece : List ℕ) (fed : Feeding) (octets : ℕ)
    (came : Came) : Type 0 where
  pub octets_are : octets ≡ fed.taken
  pub waits : fed.outcome ≡ Unfinished → came ≡ puts_alone []
  pub greets :
      awaits_opening role old.end.phase ≡ true → fed.outcome ≡ Finished (Some Quiet)
      → came ≡ puts_alone (owed_at_start role config)
  pub takes :
      (frame : Frame) → takes_frames old.end.phase ≡ true → CompletesFrame old piece fed frame
      → came ≡ came_of_frame config old.end frame
  pub tells :
      (kind : FrameFaultKind) → takes_frames old.end.phase ≡ true → ShowsFault old piece fed kind
      → came ≡ puts_alone (owed_at_fault config old.end kind)
  pub differs :
      awaits_opening role old.end.phase ≡ true → fed.outcome ≡ Found WrongProtocolHeader → came ≡ puts_alone []

-- what is answered to a piece that came to this
abbrev pub taken_by : {A : Type 0} → Result A CoreFault → Account → Result Seen CoreFault
taken_by answer account = taken_with answer account.octets (parts_there account.parts)
