-- What the code keeps of an Open channel stands for this in the model: the content under way, and what stands beside
-- it. Read before: `StandingView`, and what is kept of a content (`Contents.GatheringView`).
use Rattle.std.specs.Prelude.{◌≡◌}
use Rattle.amqp_model.specs.End.Channels as model
use Rattle.amqp_model.specs.Wire.Gathering as gathering
use Rattle.amqp_model.specs.Wire.Notes.{Kind, Other}
use Rattle.amqp_channel.specs.Contents.GatheringView.{gathering_view}
use Rattle.amqp_channel.specs.Channel.StandingView.{awaits_in, paused_in, requests_in}
use Rattle.amqp_channel.specs.declared.life.Life.{Life}
use Rattle.amqp_channel.specs.declared.standing.Standing.{Standing}

-- what is kept of a channel that is Open
abbrev pub life_view : Life → model.Life
life_view life = record {
  content = gathering_view life.content;
  paused = paused_in life.standing;
  awaits = awaits_in life.standing;
  requests = requests_in life.standing;
}

-- an Open channel with this content under way, where all else stands so
abbrev pub life_on : gathering.Gathering → Standing → model.Life
life_on content standing =
    record {
      content = content;
      paused = paused_in standing;
      awaits = awaits_in standing;
      requests = requests_in standing;
    }

-- no content is under way
abbrev pub IsIdle : Life → Type 0
IsIdle life = gathering_view life.content ≡ gathering.Nothing

-- neither opens nor closes the channel, nor asks for a flow or answers one
abbrev pub IsOther : Kind → Type 0
IsOther (Other begins_content) = Unit {0}
IsOther kind = ⊥
