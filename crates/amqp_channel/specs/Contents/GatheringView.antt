-- What the code keeps of a content under way, in the words of the model, where it is gathered and where it is lent; and
-- how octets fill a body. AMQP 0-9-1 specification, section 4.2.6, "Content Framing". Read before: `ContentView`,
-- `DeferredView`, and the model's `Wire.Gathering` and `Lent.Streaming`.
use Rattle.std.specs.Global.{Global}
use Rattle.std.specs.Prelude.{◌≡◌, ℕ, ◌==◌, nat_lt, cond, length, Box}
use Rattle.amqp_method.specs.BegunView.{begun_view}
use Rattle.amqp_method.specs.CarrierView.{carrier_view}
use Rattle.amqp_method.specs.declared.contents.Content.{Content}
use Rattle.amqp_model.specs.Lent.Streaming.{Streaming, NoContent, AwaitsHeader, AwaitsBody}
use Rattle.amqp_model.specs.Wire.Gathering as model
use Rattle.amqp_channel.specs.Contents.ContentView.{content_view}
use Rattle.amqp_channel.specs.Contents.DeferredView.{properties_of}
use Rattle.amqp_channel.specs.declared.gathering.Filling.{Filling}
use Rattle.amqp_channel.specs.declared.gathering.Filling.TheVariants.{Short, Full, Past}
use Rattle.amqp_channel.specs.declared.gathering.Gathering.{Gathering}
use Rattle.amqp_channel.specs.declared.gathering.Gathering.TheVariants.{Nothing, HeaderDue, BodyDue, Deferred}
use Rattle.amqp_channel.specs.declared.progress.Progress.{Progress}
use Rattle.amqp_channel.specs.declared.progress.Progress.TheVariants as code

-- what is kept of a content that is gathered
abbrev pub gathering_view : Gathering → model.Gathering
gathering_view Nothing = model.Nothing
gathering_view (HeaderDue begun) = model.HeaderDue (begun_view begun)
gathering_view (BodyDue header content) =
    model.BodyDue (content_view content.value).method content.value.header.body_size
    (content_view content.value).properties (content_view content.value).body
gathering_view (Deferred deferred) =
    model.BodyDue (carrier_view deferred.value.content.value.method) deferred.value.size
    (properties_of deferred.value.header.items) deferred.value.content.value.body.items

-- how many octets are kept as those of its header
abbrev pub header_kept : Gathering → ℕ
header_kept Nothing = 0
header_kept (HeaderDue begun) = 0
header_kept (BodyDue header content) = header
header_kept (Deferred deferred) = length deferred.value.header.items

-- its header was taken, and its body is due
abbrev pub IsBodyDue : Gathering → Type 0
IsBodyDue Nothing = ⊥
IsBodyDue (HeaderDue begun) = ⊥
IsBodyDue (BodyDue header content) = Unit {0}
IsBodyDue (Deferred deferred) = Unit {0}

-- the same, and its header was read
abbrev pub IsRead : Gathering → Type 0
IsRead (BodyDue header content) = Unit {0}
IsRead gathering = ⊥

-- all of this content is kept
abbrev pub IsKeptIn : Gathering → Box Content Global → Type 0
IsKeptIn Nothing content = ⊥
IsKeptIn (HeaderDue begun) content = ⊥
IsKeptIn (BodyDue header kept) content = content_view content.value ≡ content_view kept.value
IsKeptIn (Deferred kept) content = content_view content.value ≡ content_view kept.value.content.value

-- how the octets that have come fill a body of this size
abbrev pub filling_of : (size octets : ℕ) → Filling
filling_of size octets = cond (octets == size) Full (cond (nat_lt octets size) Short Past)

-- how far a content has come
abbrev pub progress_view : Progress → Streaming
progress_view code.NoContent = NoContent
progress_view (code.AwaitsHeader kind) = AwaitsHeader kind
progress_view (code.AwaitsBody kind size came) = AwaitsBody kind size came
