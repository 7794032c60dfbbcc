-- Channels whose contents are lent: what a frame leaves is alike to what it leaves where contents are gathered.
use Rattle.std.proofs.Common.{◌≡◌, ℕ, ◌+◌, ◌<◌, List, length, refl, ap, sym, ◌∙◌}
use Rattle.std.proofs.lemmas.List.{length-replicate, length-append}
use Rattle.amqp_model.specs.End.Channels.{Life, Channel, Free, Opening, Closing, Open}
use Rattle.amqp_model.specs.Lent.Alike.{AlikeChannels}
use Rattle.amqp_model.specs.Lent.Streaming.{Streaming, NoContent, AwaitsHeader, AwaitsBody, gathered_as, streamed}
use Rattle.amqp_model.specs.Wire.Methods.{MethodKind}
use Rattle.amqp_model.specs.Wire.Gathering.{Gathering, Nothing, HeaderDue, BodyDue}
use Rattle.amqp_model.specs.Wire.Notes.{Role, Client, Server}
use Rattle.amqp_model.specs.Wire.Readings.{Reading, Calls, HeaderOf, BodyOf}
use Rattle.amqp_channel.specs.Channel.ChannelView.{content_on}
use Rattle.amqp_channel.specs.Verdict.LentView.{content_with, known_on, progress_with, stands_on, FitsProgress}
use Rattle.amqp_channel.specs.Verdict.VerdictView.{goes_on, told_in, FitsTold, LeavesDue}
use Rattle.amqp_channel.specs.declared.verdict.Told.{Told}
use Rattle.amqp_channel.specs.declared.verdict.Told.TheVariants as told

-- as much is known of a content that is known only so far
pub as_known : (progress : Streaming) → streamed (gathered_as progress) ≡ progress
as_known NoContent = refl
as_known (AwaitsHeader kind) = refl
as_known (AwaitsBody kind size came) = ap (AwaitsBody kind size) (length-replicate came 0)

-- of a body that is known only so far, more than the next part is due
pub came_fits : (kind : MethodKind) (size came : ℕ) (octets : List ℕ)
    → FitsProgress (BodyOf octets) told.Continued (streamed (gathered_as (AwaitsBody kind size came)))
    → came + length octets < size
came_fits kind size came octets fits = rw (length-replicate {A = ℕ} came 0) at fits

-- the content of a channel that is lent, after a frame, as it is known
pub known_so_far : (reading : Reading) (said : Told) (progress : Streaming)
    → gathered_as (progress_with reading said (streamed (gathered_as progress)))
    ≡ gathered_as (progress_with reading said progress)
known_so_far reading said progress =
    ap (λ (known : Streaming). gathered_as (progress_with reading said known)) (as_known progress)

-- the content after a frame
pub told_content : (role : Role) (reading : Reading) (said : Told) (life : Life)
    → (told_in role reading said life).content ≡ content_with reading said life.content
told_content Client (Calls method) told.Method life = refl
told_content Server (Calls method) told.Method life = refl
told_content Client reading told.Method life = refl
told_content Server reading told.Method life = refl
told_content Client (Calls method) told.Begun life = refl
told_content Server (Calls method) told.Begun life = refl
told_content Client reading told.Begun life = refl
told_content Server reading told.Begun life = refl
told_content Client reading told.Completed life = refl
told_content Server reading told.Completed life = refl
told_content role reading (told.Flow active) life = refl
told_content role reading (told.FlowOk active) life = refl
told_content role reading said life = refl

headed : (reading : Reading) (content : Gathering)
    → streamed (content_with reading told.Headed content) ≡ progress_with reading told.Headed (streamed content)
headed (HeaderOf size properties) Nothing = refl
headed (HeaderOf size properties) (HeaderDue method) = refl
headed (HeaderOf size properties) (BodyDue method most before body) = refl
headed reading content = refl

continued : (reading : Reading) (content : Gathering)
    → streamed (content_with reading told.Continued content) ≡ progress_with reading told.Continued (streamed content)
continued (BodyOf octets) Nothing = refl
continued (BodyOf octets) (HeaderDue method) = refl
continued (BodyOf octets) (BodyDue method size properties body) = ap (AwaitsBody method.kind size) (length-append body octets)
continued reading content = refl

begun : (reading : Reading) (content : Gathering)
    → streamed (content_with reading told.Begun content) ≡ progress_with reading told.Begun (streamed content)
begun (Calls method) content = refl
begun reading content = refl

-- how far the content has come then
goes_far : (reading : Reading) (said : Told) (content : Gathering)
    → streamed (content_with reading said content) ≡ progress_with reading said (streamed content)
goes_far reading told.Begun content = begun reading content
goes_far reading told.Headed content = headed reading content
goes_far reading told.Continued content = continued reading content
goes_far reading told.Completed content = refl
goes_far reading said content = refl

-- the channel is alike, if the content is kept as far as it has come
known_alike : (role : Role) (reading : Reading) (said : Told) (before : Channel) (progress : Streaming)
    → progress ≡ progress_with reading said (streamed (content_on before))
    → AlikeChannels (goes_on role reading said before) (known_on progress (stands_on role reading said before))
known_alike role reading said Free progress come = tt
known_alike role reading said Opening progress come = tt
known_alike role reading said Closing progress come = tt
known_alike role reading said (Open life) progress come =
    record {
      content =
          ap streamed (told_content role reading said life)
          ∙ (goes_far reading said life.content ∙ (sym come ∙ sym (as_known progress)));
      paused = refl;
      awaits = refl;
      requests = refl;
    }

pub lent_alike : (role : Role) (reading : Reading) (said : Told) (before standing after : Channel) (progress : Streaming)
    → progress ≡ progress_with reading said (streamed (content_on before)) → standing ≡ stands_on role reading said before
    → after ≡ known_on progress standing → AlikeChannels (goes_on role reading said before) after
lent_alike role reading said before standing after progress come stands known =
    rw (known, stands) (known_alike role reading said before progress come)

-- what keeps the content as it is
abbrev pub KeepsContent : Told → Type 0
KeepsContent told.Begun = ⊥
KeepsContent told.Headed = ⊥
KeepsContent told.Continued = ⊥
KeepsContent told.Completed = ⊥
KeepsContent said = Unit {0}

content_stays : (reading : Reading) (said : Told) (content : Gathering) → KeepsContent said → content_with reading said content ≡ content
content_stays reading told.Begun content keeps = absurd keeps
content_stays reading told.Headed content keeps = absurd keeps
content_stays reading told.Continued content keeps = absurd keeps
content_stays reading told.Completed content keeps = absurd keeps
content_stays reading said content keeps = refl

stands_alike : (role : Role) (reading : Reading) (said : Told) (before : Channel) → KeepsContent said
    → AlikeChannels (goes_on role reading said before) (stands_on role reading said before)
stands_alike role reading said Free keeps = tt
stands_alike role reading said Opening keeps = tt
stands_alike role reading said Closing keeps = tt
stands_alike role reading said (Open life) keeps =
    record {
      content = ap streamed (told_content role reading said life ∙ content_stays reading said life.content keeps);
      paused = refl;
      awaits = refl;
      requests = refl;
    }

pub standing_alike : (role : Role) (reading : Reading) (said : Told) (before after : Channel) → KeepsContent said
    → after ≡ stands_on role reading said before → AlikeChannels (goes_on role reading said before) after
standing_alike role reading said before after keeps stands = rw stands (stands_alike role reading said before keeps)

-- a channel is alike to itself
pub alike_itself : (channel : Channel) → AlikeChannels channel channel
alike_itself Free = tt
alike_itself Opening = tt
alike_itself Closing = tt
alike_itself (Open life) = record { content = refl; paused = refl; awaits = refl; requests = refl }

pub alike_same : (channel other : Channel) → channel ≡ other → AlikeChannels other channel
alike_same channel other same = rw (sym same) (alike_itself channel)

-- a part that fits the content under way fits how far it has come
body_due : (octets : List ℕ) (content : Gathering) → LeavesDue content (BodyOf octets)
    → FitsProgress (BodyOf octets) told.Continued (streamed content)
body_due octets (BodyDue method size properties body) due = due
body_due octets content due = absurd due

body_fits : (octets : List ℕ) (channel : Channel) → FitsTold channel (BodyOf octets) told.Continued
    → FitsProgress (BodyOf octets) told.Continued (streamed (content_on channel))
body_fits octets (Open life) fits = body_due octets life.content fits.0
body_fits octets channel fits = tt

pub progress_fits : (channel : Channel) (reading : Reading) (said : Told) (progress : Streaming)
    → progress ≡ streamed (content_on channel) → FitsTold channel reading said → FitsProgress reading said progress
progress_fits channel (BodyOf octets) told.Continued progress known fits = rw known (body_fits octets channel fits)
progress_fits channel reading said progress known fits = tt

-- what stands beside the content is no part of it
stands_content : (role : Role) (reading : Reading) (said : Told) (before : Channel)
    → content_on (stands_on role reading said before) ≡ content_on before
stands_content role reading said Free = refl
stands_content role reading said Opening = refl
stands_content role reading said Closing = refl
stands_content role reading said (Open life) = refl

pub standing_fits : (role : Role) (reading : Reading) (said : Told) (before standing : Channel)
    → standing ≡ stands_on role reading said before → FitsTold before reading said
    → FitsProgress reading said (streamed (content_on standing))
standing_fits role reading said before standing stands fits =
    progress_fits before reading said (streamed (content_on standing))
    (ap (λ (channel : Channel). streamed (content_on channel)) stands ∙ ap streamed (stands_content role reading said before))
    fits

-- the channel is alike, if first what stands beside the content changes, and then the content
pub advanced_alike : (role : Role) (reading : Reading) (said : Told) (before standing after : Channel)
    → standing ≡ stands_on role reading said before
    → after ≡ known_on (progress_with reading said (streamed (content_on standing))) standing
    → AlikeChannels (goes_on role reading said before) after
advanced_alike role reading said before standing after stands known =
    lent_alike role reading said before standing after (progress_with reading said (streamed (content_on standing)))
    (ap (λ (channel : Channel). progress_with reading said (streamed (content_on channel))) stands
    ∙ ap (λ (content : Gathering). progress_with reading said (streamed content)) (stands_content role reading said before))
    stands known
