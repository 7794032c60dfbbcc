-- What an end does with a frame that it takes, where it gathers contents (`Receives`) and where it lends them
-- (`ReceivesLent`). Read before: the answer to a frame (`Answering`), what
-- the definitions leave of an end (`end_after_taken`), and what a piece came to (`AccountView`).
use Rattle.std.specs.Prelude.{◌≡◌, false, [], Option, Some, Result, IsOk, OnErr, OnOk}
use Rattle.amqp_frame.specs.Frame.{Frame}
use Rattle.amqp_model.specs.End.EndVerdict.{end_puts, end_verdict, facts_at}
use Rattle.amqp_model.specs.End.FrameVerdict.{methods_put}
use Rattle.amqp_model.specs.End.Machine.{end_after_taken}
use Rattle.amqp_model.specs.Laws.OctetLaws.{event_of_frame}
use Rattle.amqp_model.specs.Lent.Alike.{LentEvent, lent, maybe_telling}
use Rattle.amqp_model.specs.Output.Outputs.{Output, after_puts}
use Rattle.amqp_model.specs.Stream.Endpoint.{outcome_of}
use Rattle.amqp_model.specs.Stream.Traces.{IsTaken, noted}
use Rattle.amqp_model.specs.Wire.Readings.{reading as says}
use Rattle.amqp_outbox.specs.OutboxView.{Outgoing}
use Rattle.amqp_channel.specs.Channels.ChannelsView.{channels_view}
use Rattle.amqp_channel.specs.Events.PartsView.{parts_there}
use Rattle.amqp_core.specs.Config.Settings.{config_view, role_for}
use Rattle.amqp_core.specs.Connection.Dropping.{IsDropped}
use Rattle.amqp_core.specs.Connection.Owed.{owed_view}
use Rattle.amqp_core.specs.Connection.Stages.{phase_at}
use Rattle.amqp_core.specs.Connection.View.{connection_end}
use Rattle.amqp_core.specs.End.Feeding.{IsMessage, SameButChannels}
use Rattle.amqp_core.specs.Faults.Answering.{answer_with, ran_out, AnswersFrame, EndsAs, PutsAs}
use Rattle.amqp_core.specs.Heard.View.{heard_view, said_after}
use Rattle.amqp_core.specs.Stream.Lending.{EndsAlike}
use Rattle.amqp_core.specs.Traced.AccountView.{note_there}
use Rattle.amqp_core.specs.declared.account.Account.{Account}
use Rattle.amqp_core.specs.declared.connection.Connection.{Connection}
use Rattle.amqp_core.specs.declared.faults.CoreFault.{CoreFault}
use Rattle.amqp_core.specs.declared.heard.Heard.{Heard}

pub record Receives {A : Type 0} (old : Connection) (waits : Output) (before : Account) (kept : Heard) (frame : Frame)
    (result : Result A CoreFault) (new : Connection) (outbox : Outgoing) (after : Account) (heard_now : Heard) : Type 0 where
  -- The answer is what the definitions say of the frame.
  pub said :
      AnswersFrame (answer_with result (parts_there after.parts))
      (outcome_of (facts_at (config_view old.settings) (connection_end old) frame.channel)
      (end_verdict (config_view old.settings) (connection_end old) frame))
  -- The end is what it is then; out of memory, it has failed.
  pub end :
      EndsAs result (connection_end old)
      (end_after_taken (role_for old.settings) (config_view old.settings) (connection_end old) (says frame) frame)
      (connection_end new)
  -- What it owes is put; out of memory, nothing is.
  pub output :
      PutsAs result waits (after_puts (end_puts (config_view old.settings) (connection_end old) frame) waits) outbox
  -- A frame that is dropped takes no memory.
  pub alone :
      IsDropped (phase_at old.stage) (channels_view old.channels frame.channel) frame.channel frame.kind frame.payload
      → IsOk result
  -- A message that is told is not answered, and leaves all but its channel as it was.
  pub message :
      OnOk result (IsMessage (parts_there after.parts)
      → SameButChannels (record { end = connection_end old; unfinished = []; output = waits })
      (record { end = connection_end new; unfinished = []; output = outbox.output }))
  -- The octets that were taken are not counted here.
  pub octets : after.octets ≡ before.octets
  -- The frame is noted.
  pub took : note_there after.took ≡ Some (noted IsTaken frame)
  -- So is what was put.
  pub owed :
      ran_out result ≡ false
      → owed_view old.settings after.owed
      ≡ methods_put (facts_at (config_view old.settings) (connection_end old) frame.channel)
      (end_verdict (config_view old.settings) (connection_end old) frame)
  -- What may be asked for later is kept, but of a frame with which fault is found.
  pub heard :
      ran_out result ≡ false
      → heard_view heard_now ≡ said_after (config_view old.settings) (connection_end old) frame (heard_view kept)
  pub at_fault : ran_out result ≡ false → OnErr result (heard_view heard_now ≡ heard_view kept)
  pub settings : new.settings ≡ old.settings

-- The same where contents are lent: the end is alike to what it is then, and nothing is noted.
pub record ReceivesLent {A : Type 0} (old : Connection) (waits : Output) (kept : Heard) (frame : Frame)
    (result : Result A CoreFault) (new : Connection) (outbox : Outgoing) (heard_now : Heard) : Type 0 where
  -- The answer is what the definitions say of the frame.
  pub said :
      AnswersFrame (answer_with result (event_of_frame (config_view old.settings) (connection_end old) frame))
      (outcome_of (facts_at (config_view old.settings) (connection_end old) frame.channel)
      (end_verdict (config_view old.settings) (connection_end old) frame))
  -- The end is alike to what it is then; out of memory, it has failed.
  pub end :
      EndsAlike result (connection_end old)
      (end_after_taken (role_for old.settings) (config_view old.settings) (connection_end old) (says frame) frame)
      (connection_end new)
  -- What it owes is put; out of memory, nothing is.
  pub output :
      PutsAs result waits (after_puts (end_puts (config_view old.settings) (connection_end old) frame) waits) outbox
  -- A frame that is dropped takes no memory.
  pub alone :
      IsDropped (phase_at old.stage) (channels_view old.channels frame.channel) frame.channel frame.kind frame.payload
      → IsOk result
  -- What may be asked for later is kept, but of a frame with which fault is found.
  pub heard :
      ran_out result ≡ false
      → heard_view heard_now ≡ said_after (config_view old.settings) (connection_end old) frame (heard_view kept)
  pub at_fault : ran_out result ≡ false → OnErr result (heard_view heard_now ≡ heard_view kept)
  pub settings : new.settings ≡ old.settings

-- what is lent of a frame, as the definitions tell it
abbrev pub lent_by : Connection → Frame → Option LentEvent
lent_by old frame =
    lent frame.channel (says frame) (maybe_telling (event_of_frame (config_view old.settings) (connection_end old) frame))
