-- An end that turns into one whose events lend, or back, keeps what it has.
use Rattle.std.proofs.Common.{◌≡◌, Bool, true, false, cond, ℕ, List, refl, ap, sym, ◌∙◌, subst}
use Rattle.std.proofs.lemmas.Bool.{true≢false, false≢true}
use Rattle.amqp_model.specs.End.Channels as channels
use Rattle.amqp_model.specs.End.Channels.{Channel, End, Free, Opening, Closing}
use Rattle.amqp_model.specs.End.FrameVerdict.{is_gathering}
use Rattle.amqp_model.specs.History.Histories.{History}
use Rattle.amqp_model.specs.History.Negotiation.{Config}
use Rattle.amqp_model.specs.Laws.OctetLaws.{EndpointStandsFor}
use Rattle.amqp_model.specs.Laws.StreamingLaws.{StreamStandsFor}
use Rattle.amqp_model.specs.Lent.Alike.{AlikeChannels, AlikeEndpoints}
use Rattle.amqp_model.specs.Lent.Streaming.{Streaming, NoContent, streamed}
use Rattle.amqp_model.specs.Stream.Endpoint as model
use Rattle.amqp_model.specs.Stream.Pieces.{HoldsUnfinished}
use Rattle.amqp_model.specs.Wire.Gathering.{Gathering, Nothing, HeaderDue, BodyDue}
use Rattle.amqp_model.specs.Wire.Notes.{Role}
use Rattle.amqp_channel.specs.Channel.ChannelView.{content_on}
use Rattle.amqp_core.specs.End.Bounded.{IsBounded}
use Rattle.amqp_core.specs.Connection.View.{connection_end}
use Rattle.amqp_core.specs.End.EndpointView.{FieldsFit, EndpointIsSound, unfinished_of}
use Rattle.amqp_core.specs.Config.Settings.{config_view, role_for}
use Rattle.amqp_core.specs.declared.endpoint.Endpoint.{Endpoint}
use Rattle.amqp_core.specs.declared.settings.Settings.{Settings}
use Rattle.amqp_core.proofs.FeedLemmas.{sound_with}
use Rattle.amqp_core.proofs.StreamLemmas.{end_itself}

-- with the same settings but for whether it lends
pub turned_sound : (lends : Bool) (old new : Endpoint) → EndpointIsSound old → new.connection.settings ≡ record old.connection.settings { lends = lends }
    → connection_end new.connection ≡ connection_end old.connection → new.heard ≡ old.heard → new.splitter ≡ old.splitter → new.outbox ≡ old.outbox → EndpointIsSound new
turned_sound lends old new sound settings end heard splitter outbox =
    let old_settings = old.connection.settings in
    let role = role_for old_settings in
    sound_with (record old_settings { lends = lends }) new settings sound.writes (ap (λ o. o.staged) outbox ∙ sound.staged)
    (subst (λ (e : End). FieldsFit role e new.heard new.splitter) (sym end)
    (subst (λ h. FieldsFit role (connection_end old.connection) h new.splitter) (sym heard)
    (subst (λ s. FieldsFit role (connection_end old.connection) old.heard s) (sym splitter) sound.fields)))
    (subst (λ (e : model.Endpoint). HoldsUnfinished role e) (λ i. record { end = sym end i; unfinished = unfinished_of (sym heard i) (sym splitter i).pending; output = (sym outbox i).output }) sound.holds)
    (subst (λ (e : End). IsBounded role (config_view old_settings) e) (sym end) sound.bounded)

-- An end with no content under way is the only one to which it is alike.

nothing_there : (gathering : Gathering) → is_gathering gathering ≡ false → gathering ≡ Nothing
nothing_there Nothing e = refl
nothing_there (HeaderDue method) e = absurd (true≢false e)
nothing_there (BodyDue method size properties body) e = absurd (true≢false e)

abbrev is_none : Streaming → Bool
is_none NoContent = true
is_none streaming = false

none_streamed : (gathering : Gathering) → streamed gathering ≡ NoContent → gathering ≡ Nothing
none_streamed Nothing e = refl
none_streamed (HeaderDue method) e = absurd (false≢true (ap is_none e))
none_streamed (BodyDue method size properties body) e = absurd (false≢true (ap is_none e))

same_channel : (one other : Channel) → AlikeChannels one other → is_gathering (content_on other) ≡ false → one ≡ other
same_channel Free Free a none = refl
same_channel Opening Opening a none = refl
same_channel Closing Closing a none = refl
same_channel (channels.Open one) (channels.Open other) a none =
    let nothing : other.content ≡ Nothing = nothing_there other.content none in
    let content : one.content ≡ other.content = none_streamed one.content (a.content ∙ ap streamed nothing) ∙ sym nothing in
    λ i. channels.Open (record { content = content i; paused = a.paused i; awaits = a.awaits i; requests = a.requests i })
same_channel one other a none = absurd a

pub none_alike : (one other : model.Endpoint) → AlikeEndpoints one other → ((number : ℕ) → is_gathering (content_on (other.end.channels number)) ≡ false) → one ≡ other
none_alike one other a none = λ i. record {
  end = record { phase = a.end.phase i; agreed = a.end.agreed i; channels = λ n. same_channel (one.end.channels n) (other.end.channels n) (a.end.channels n) (none n) i };
  unfinished = a.unfinished i;
  output = a.output i;
}

pub turns_lending : (role : Role) (config : Config role) (old new : model.Endpoint) (history : History) (fed written : List ℕ) → new ≡ old → EndpointStandsFor role config old history fed written → StreamStandsFor role config new history fed written
turns_lending role config old new history fed written is stands = record {
  gathers = old;
  stands = stands;
  alike = subst (λ (e : model.Endpoint). AlikeEndpoints old e) (sym is) (record { end = end_itself old.end; unfinished = refl; output = refl });
}

pub turns_back : (role : Role) (config : Config role) (old new : model.Endpoint) (history : History) (fed written : List ℕ) → new ≡ old → ((number : ℕ) → is_gathering (content_on (old.end.channels number)) ≡ false)
    → StreamStandsFor role config old history fed written → EndpointStandsFor role config new history fed written
turns_back role config old new history fed written is none s =
    subst (λ (e : model.Endpoint). EndpointStandsFor role config e history fed written) (none_alike s.gathers old s.alike none ∙ sym is) s.stands

pub turned_by : (b : Bool) (old new : Endpoint) → EndpointIsSound old → new.connection.settings ≡ cond b (record old.connection.settings { lends = false }) old.connection.settings
    → connection_end new.connection ≡ connection_end old.connection → new.heard ≡ old.heard → new.splitter ≡ old.splitter → new.outbox ≡ old.outbox → EndpointIsSound new
turned_by true old new sound settings end heard splitter outbox = turned_sound false old new sound settings end heard splitter outbox
turned_by false old new sound settings end heard splitter outbox = turned_sound old.connection.settings.lends old new sound settings end heard splitter outbox

pub same_role : (b : Bool) (old new : Settings) → new ≡ cond b (record old { lends = false }) old → role_for new ≡ role_for old
same_role true old new e = ap (λ (s : Settings). role_for s) e
same_role false old new e = ap (λ (s : Settings). role_for s) e

pub gathers_then : (b : Bool) (old new : Settings) → new ≡ cond b (record old { lends = false }) old → b ≡ true → new.lends ≡ false
gathers_then true old new e is = ap (λ (s : Settings). s.lends) e
gathers_then false old new e is = absurd (false≢true is)

pub lends_still : (b : Bool) (old new : Settings) → new ≡ cond b (record old { lends = false }) old → b ≡ false → new.lends ≡ old.lends
lends_still true old new e is = absurd (true≢false is)
lends_still false old new e is = ap (λ (s : Settings). s.lends) e
