-- What comes of a verdict: the event, what is put, and what the end is then.
use Rattle.std.specs.Prelude.{◌≡◌, ◌≢◌, Bool, cond, ℕ, List, [], ◌∷◌, Some}
use Rattle.amqp_model.specs.End.Channels.{End, Failed}
use Rattle.amqp_model.specs.End.Closes.{Owed, ContentTooLarge, channel_close, connection_close}
use Rattle.amqp_model.specs.Stream.Endpoint.{Outcome, Finished, Found}
use Rattle.amqp_model.specs.End.Events.{Discarded, Fault, Peer, FrameVerdict, Proceeds, RefusesContent, Faults}
use Rattle.amqp_model.specs.End.Machine.{as_failed}

-- connection.close is put once
abbrev pub owed_for : (closing : Bool) → Fault → List Owed
owed_for closing (Peer code) = cond closing [] (connection_close code ∷ [])
owed_for closing fault = []

abbrev pub owed_by : (closing : Bool) (number : ℕ) → FrameVerdict → List Owed
owed_by closing number (Proceeds event owed) = owed
owed_by closing number RefusesContent = channel_close number ContentTooLarge ∷ []
owed_by closing number (Faults fault) = owed_for closing fault

abbrev pub told_by : (number : ℕ) → FrameVerdict → Outcome
told_by number (Proceeds event owed) = Finished event
told_by number RefusesContent = Finished (Some (Discarded number))
told_by number (Faults fault) = Found fault

abbrev pub ended_by : FrameVerdict → End → End
ended_by (Faults fault) end = as_failed end
ended_by verdict end = end

-- The same end, to all who look: of one that has failed only its phase, what was agreed and channel 0 are looked at.
pub record SameEnd (one other : End) : Type 0 where
  pub phase : one.phase ≡ other.phase
  pub agreed : one.agreed ≡ other.agreed
  pub no_channel : one.channels 0 ≡ other.channels 0
  pub channels : one.phase ≢ Failed → one.channels ≡ other.channels
