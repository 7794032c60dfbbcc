-- What was sent and acted on in a life of a channel, over a link.
use Rattle.std.specs.Prelude.{◌≡◌, ◌<◌, ◌≤◌, ℕ, List, [], flat_map, length, Option, Some, None, slice_get}
use Rattle.std.specs.List.{enumerate_from}
use Rattle.amqp_model.specs.Wire.Items.{Item}
use Rattle.amqp_model.specs.Pair.Sent.{Telling, items_of}
use Rattle.amqp_link.specs.ConnectionSteps.{reader_in, writer_in}
use Rattle.amqp_link.specs.LinkSteps.{Linked}
use Rattle.amqp_link.specs.SeatSteps.{to_write}
use Rattle.amqp_link.specs.Seats.{Joint}
use Rattle.amqp_link.specs.Tallies.{Tallied, begun_on, tallies_of}
use Rattle.amqp_link.specs.declared.lives.Life.{Life}
use Rattle.amqp_link.specs.declared.steps.Direction.{Direction}

-- what the end that writes said, in any life; nothing where no such connection has begun
abbrev pub said_at : Direction → Option Joint → List Telling
said_at direction None = []
said_at direction (Some joint) = (writer_in direction joint).kept.said

-- what the end that reads was told
abbrev pub told_at : Direction → Option Joint → List Telling
told_at direction None = []
told_at direction (Some joint) = (reader_in direction joint).kept.told

-- the items sent in a life, in order
abbrev pub sent_in : Linked → Life → Direction → List Item
sent_in link life direction = items_of life.channel life.number
    (said_at direction (slice_get link.connections life.connection))

-- the items acted on in it
abbrev pub acted_in : Linked → Life → Direction → List Item
acted_in link life direction = items_of life.channel life.number
    (told_at direction (slice_get link.connections life.connection))

-- how many lives of a channel began, as the client noted; none where no such connection has begun
abbrev pub begun_at : (channel : ℕ) → Option Joint → ℕ
begun_at channel None = 0
begun_at channel (Some joint) = begun_on channel joint.client.kept.notes

-- the life began: channels and lives are counted from 1
pub record HasBegun (link : Linked) (life : Life) : Type 0 where
  pub on_channel : 0 < life.channel
  pub least : 0 < life.number
  pub most : life.number ≤ begun_at life.channel (slice_get link.connections life.connection)

-- how many octets the end that writes has to write
abbrev waiting_at : Direction → Option Joint → ℕ
waiting_at direction None = 0
waiting_at direction (Some joint) = length (to_write (writer_in direction joint))

abbrev pub waiting_in : Linked → (connection : ℕ) → Direction → ℕ
waiting_in link connection direction = waiting_at direction (slice_get link.connections connection)

-- the tallies of a connection
abbrev pub tallies_at : (index : ℕ) → Joint → List Tallied
tallies_at index joint =
    tallies_of index joint.client.kept.notes joint.client.kept.said
    joint.server.kept.told joint.server.kept.said joint.client.kept.told

-- those of all connections, in the order in which they began
abbrev pub tally_in : Linked → List Tallied
tally_in link = flat_map (λ entry. tallies_at entry.0 entry.1) (enumerate_from 0 link.connections)

-- the two counts of a life and a direction are the lengths of what was sent in it and of what was acted on
abbrev pub CountsItems : Linked → Life × Direction × ℕ × ℕ → Type 0
CountsItems link tally = (tally.2 ≡ length (sent_in link tally.0 tally.1))
    × (tally.3 ≡ length (acted_in link tally.0 tally.1))
