-- What a frame leaves of its channel, and what the verdict on it rests on. Read before: `Roles`, and the model's
-- `End.FrameVerdict` and `End.Machine`.
use Rattle.std.specs.Prelude.{◌≡◌, ℕ, List, [], ◌∷◌, Some}
use Rattle.amqp_model.specs.End.Channels.{Agreed, Channel, Running}
use Rattle.amqp_model.specs.End.Closes.{Owed, ContentTooLarge, channel_close, frame_of}
use Rattle.amqp_model.specs.End.Events.{FrameVerdict, Proceeds, RefusesContent, Faults}
use Rattle.amqp_model.specs.Wire.Frame.{Frame}
use Rattle.amqp_model.specs.End.FrameVerdict.{Facts}
use Rattle.amqp_model.specs.History.Histories.{PutHere, TookHere}
use Rattle.amqp_model.specs.End.Machine.{channel_after}
use Rattle.amqp_model.specs.History.Negotiation.{Config}
use Rattle.amqp_model.specs.Wire.Notes.{Role}
use Rattle.amqp_model.specs.Wire.Readings.{Reading, Calls}
use Rattle.amqp_channel.specs.Roles.{role_of}
use Rattle.amqp_channel.specs.declared.site.Site.{Site}

-- the channel after the methods that are owed on it
abbrev pub after_owed : Role → List Owed → Channel → Channel
after_owed role [] channel = channel
after_owed role (owed ∷ later) channel =
    after_owed role later (channel_after role (PutHere (Calls owed.method) (frame_of owed)) channel)

-- Where the end goes on, the channel is left as the frame taken and the methods owed leave it. Of an end that has found
-- fault no channel is looked at any more.
abbrev pub LeavesAfter : Role → (number : ℕ) → Frame → Reading → FrameVerdict → (before after : Channel) → Type 0
LeavesAfter role number frame reading (Proceeds event owed) before after =
    after ≡ after_owed role owed (channel_after role (TookHere reading frame) before)
LeavesAfter role number frame reading RefusesContent before after =
    after
    ≡ after_owed role (channel_close number ContentTooLarge ∷ []) (channel_after role (TookHere reading frame) before)
LeavesAfter role number frame reading (Faults fault) before after = Unit {0}

-- The verdict on a frame of this channel, on a connection that is Running, whatever else was agreed and configured.
abbrev pub facts_here : (site : Site) → Config (role_of site.side) → (limits : Agreed) → Channel
    → Facts (role_of site.side)
facts_here site config limits channel =
    record {
      config = config;
      phase = Running;
      agreed = Some (record limits { channel_max = site.channel_max });
      number = site.number;
      channel = channel;
    }
