-- What the payloads that an end puts leave of a channel: one method, or a content's method, header and parts.
-- AMQP 0-9-1 specification, section 4.2.6, "Content Framing". Read before: the model's `End.Asks`.
use Rattle.std.specs.Prelude.{ℕ, true, List, [], ◌∷◌}
use Rattle.amqp_model.specs.End.Asks.{payload_frame}
use Rattle.amqp_model.specs.End.Channels.{Channel}
use Rattle.amqp_model.specs.Wire.Contents as contents
use Rattle.amqp_model.specs.Wire.Contents.{Payload, Unread}
use Rattle.amqp_model.specs.History.Histories.{PutHere}
use Rattle.amqp_model.specs.End.Machine.{channel_after}
use Rattle.amqp_model.specs.Wire.Notes.{Role}
use Rattle.amqp_model.specs.Wire.Readings.{Reading, Calls, HeaderOf, BodyOf, Beat}

-- what the frame of a payload says
abbrev pub reading_as : Payload → Reading
reading_as (contents.Calls method) = Calls method
reading_as (contents.Header size properties) = HeaderOf size properties
reading_as (contents.Body octets) = BodyOf octets
reading_as Unread = Beat true

-- the channel after these are put, the oldest first
abbrev pub after_payloads : Role → (number : ℕ) → List Payload → Channel → Channel
after_payloads role number [] channel = channel
after_payloads role number (payload ∷ later) channel =
    after_payloads role number later
    (channel_after role (PutHere (reading_as payload) (payload_frame number payload)) channel)
