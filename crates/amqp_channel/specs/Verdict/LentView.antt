-- What a frame leaves of an Open channel whose contents are lent: how far the content under way has come, and what
-- stands beside it. AMQP 0-9-1 specification, section 4.2.6, "Content Framing". Read before: `VerdictView`.
use Rattle.std.specs.Prelude.{◌≡◌, ◌+◌, ◌<◌, length}
use Rattle.amqp_model.specs.End.Channels.{Life, Channel, Open}
use Rattle.amqp_model.specs.Lent.Streaming.{Streaming, NoContent, AwaitsHeader, AwaitsBody, gathered_as}
use Rattle.amqp_model.specs.Wire.Gathering.{Gathering, Nothing, HeaderDue}
use Rattle.amqp_model.specs.Wire.Notes.{Role}
use Rattle.amqp_model.specs.Wire.Readings as model
use Rattle.amqp_model.specs.Wire.Readings.{Calls, HeaderOf, BodyOf}
use Rattle.amqp_channel.specs.Channel.StandingView.{awaits_in, paused_in, requests_in}
use Rattle.amqp_channel.specs.Verdict.VerdictView.{continued_with, headed_with, told_in, with_content}
use Rattle.amqp_channel.specs.declared.standing.Standing.{Standing}
use Rattle.amqp_channel.specs.declared.verdict.Told.{Told}
use Rattle.amqp_channel.specs.declared.verdict.Told.TheVariants as told

-- a channel stands as in this life, whatever content is under way
pub record StandsAs (life : Life) (standing : Standing) : Type 0 where
  pub paused : paused_in standing ≡ life.paused
  pub awaits : awaits_in standing ≡ life.awaits
  pub requests : requests_in standing ≡ life.requests

-- a method begins a content
abbrev begun_of : model.Reading → Gathering → Gathering
begun_of (Calls method) content = HeaderDue method
begun_of reading content = content

-- the content under way after a frame of which this is told
abbrev pub content_with : model.Reading → Told → Gathering → Gathering
content_with reading told.Begun content = begun_of reading content
content_with reading told.Headed content = headed_with reading content
content_with reading told.Continued content = continued_with reading content
content_with reading told.Completed content = Nothing
content_with reading told content = content

-- how far it has come then; after its header; after a part of its body
abbrev begins_with : model.Reading → Streaming → Streaming
begins_with (Calls method) progress = AwaitsHeader method.kind
begins_with reading progress = progress

abbrev heads_with : model.Reading → Streaming → Streaming
heads_with (HeaderOf size properties) (AwaitsHeader kind) = AwaitsBody kind size 0
heads_with reading progress = progress

abbrev comes_with : model.Reading → Streaming → Streaming
comes_with (BodyOf octets) (AwaitsBody kind size came) = AwaitsBody kind size (came + length octets)
comes_with reading progress = progress

-- how far it has come then
abbrev pub progress_with : model.Reading → Told → Streaming → Streaming
progress_with reading told.Begun progress = begins_with reading progress
progress_with reading told.Headed progress = heads_with reading progress
progress_with reading told.Continued progress = comes_with reading progress
progress_with reading told.Completed progress = NoContent
progress_with reading told progress = progress

-- more octets of the body are due after these
abbrev pub FitsProgress : model.Reading → Told → Streaming → Type 0
FitsProgress (BodyOf octets) told.Continued (AwaitsBody kind size came) = came + length octets < size
FitsProgress reading told progress = Unit {0}

-- the channel after that frame, with the content as it was
abbrev pub stands_on : Role → model.Reading → Told → Channel → Channel
stands_on role reading told (Open life) = Open (with_content (told_in role reading told life) life.content)
stands_on role reading told channel = channel

-- the channel, of whose content only so much is known
abbrev pub known_on : Streaming → Channel → Channel
known_on progress (Open life) = Open (with_content life (gathered_as progress))
known_on progress channel = channel
