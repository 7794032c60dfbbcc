-- Frames that pass where contents are gathered: what they leave of the channel, and what is kept of the channels.
use Rattle.std.proofs.Common.{◌≡◌, ◌≢◌, ◌<◌, ◌^◌, length, Box, slice_get, false, ℕ, suc, Option, Some, Result, Ok, Err, OnOk, OnErr, refl, ap, subst, sym, ◌∙◌}
use Rattle.indexmap.specs.IndexMap.{with_value_at}
use Rattle.std.specs.Global.{Global}
use Rattle.std.specs.HashMap.{values}
use Rattle.amqp_method.specs.declared.contents.Content.{Content}
use Rattle.amqp_model.specs.End.Amounts.{body_octets_on, header_octets, header_octets_on, IsSum}
use Rattle.amqp_model.specs.End.Asks.{is_free}
use Rattle.amqp_model.specs.End.Channels as model
use Rattle.amqp_model.specs.Wire.Gathering.{Gathering, Nothing, HeaderDue, BodyDue, kept}
use Rattle.amqp_model.specs.Wire.Methods.{Properties}
use Rattle.amqp_model.specs.Wire.Notes.{Role}
use Rattle.amqp_model.specs.Wire.Readings.{Reading, HeaderOf}
use Rattle.amqp_channel.specs.Channel.ChannelView.{channel_view, contained, content_on, gathered_view, is_lent, IsGathered, IsIdleOpen}
use Rattle.amqp_channel.specs.Channels.AmountView.{ChangesBy, IsPartOf}
use Rattle.amqp_channel.specs.Channels.Applies.{PassesGathered}
use Rattle.amqp_channel.specs.Channels.ChannelsView.{channels_view, OnlyAt}
use Rattle.amqp_channel.specs.Contents.ContentView.{content_there}
use Rattle.amqp_channel.specs.Channels.Passed.{IsPassed, PassedAreTaken}
use Rattle.amqp_channel.specs.Channels.Used.{Used, body_octets_at, header_octets_at, used_gathered, used_view, BodiesFit, KeepsEntriesAt, KeepsOthersAt, KeptAt, NoneKeptFree, PutAt, WritesAt}
use Rattle.amqp_channel.specs.Roles.{role_of}
use Rattle.amqp_channel.specs.Verdict.LentView.{content_with, stands_on}
use Rattle.amqp_channel.specs.Verdict.Passing.{Passes}
use Rattle.amqp_channel.specs.Verdict.VerdictView.{goes_on, told_in, told_on, whole_at, whole_now, whole_of, FitsTold, IsHeaderDue, IsWhole}
use Rattle.amqp_channel.specs.declared.amounts.Amount.{Amount}
use Rattle.amqp_channel.specs.declared.amounts.Amounts.{Amounts}
use Rattle.amqp_channel.specs.declared.channel.Channel.{Channel}
use Rattle.amqp_channel.specs.declared.channel.Channel.TheVariants.{Open}
use Rattle.amqp_channel.specs.declared.channels.Channels.{Channels}
use Rattle.amqp_channel.specs.declared.free_numbers.FreeNumbers.{FreeNumbers}
use Rattle.amqp_channel.specs.declared.site.Site.{Site}
use Rattle.amqp_channel.specs.declared.verdict.Told.{Told}
use Rattle.amqp_channel.specs.declared.verdict.Told.TheVariants as told
use Rattle.amqp_channel.proofs.AmountLemmas.{bodies_written, fit_written, headers_written, is_part, now_here, views_same}
use Rattle.amqp_channel.proofs.FreeLemmas.{still_passed}
use Rattle.amqp_channel.proofs.LentLemmas.{told_content}
use Rattle.amqp_channel.proofs.OneWayLemmas.{goes}
use Rattle.amqp_channel.proofs.PlaceLemmas.{none_written}

-- where nothing changes beside the content, the content alone is another
goes_contained : (role : Role) (reading : Reading) (said : Told) (channel : model.Channel)
    → stands_on role reading said channel ≡ channel
    → goes_on role reading said channel ≡ contained (content_with reading said (content_on channel)) channel
goes_contained role reading said model.Free stands = refl
goes_contained role reading said model.Opening stands = refl
goes_contained role reading said model.Closing stands = refl
goes_contained role reading said (model.Open life) stands =
    ap (contained (told_in role reading said life).content) stands
    ∙ ap (λ content. contained content (model.Open life)) (told_content role reading said life)

pub passes_contained : (site : Site) (channel after : model.Channel) (reading : Reading) (said : Told)
    → Passes site channel reading said → after ≡ contained (content_with reading said (content_on channel)) channel
    → after ≡ told_on (role_of site.side) reading said channel
passes_contained site channel after reading said passes left =
    left
    ∙ (sym (goes_contained (role_of site.side) reading said channel passes.stands)
    ∙ sym (goes (role_of site.side) reading said channel passes.message))

pub contained_same : (channel : model.Channel) → contained (content_on channel) channel ≡ channel
contained_same model.Free = refl
contained_same model.Opening = refl
contained_same model.Closing = refl
contained_same (model.Open life) = refl

-- a method without content leaves its channel as it was
pub passes_same : (site : Site) (channel : model.Channel) (reading : Reading) → Passes site channel reading told.Method
    → channel ≡ told_on (role_of site.side) reading told.Method channel
passes_same site channel reading passes =
    passes_contained site channel channel reading told.Method passes (sym (contained_same channel))

-- a channel that is Open is in use, and is not lent
pub gathered_taken : (channel : Channel) → IsGathered channel → is_free (channel_view channel) ≡ false
gathered_taken (Open life) held = refl
gathered_taken channel held = absurd held

pub gathered_kept : (channel : Channel) → IsGathered channel → is_lent channel ≡ false
gathered_kept (Open life) held = refl
gathered_kept channel held = absurd held

pub gathered_all : (channel : Channel) → IsGathered channel → gathered_view channel ≡ channel_view channel
gathered_all (Open life) held = refl
gathered_all channel held = absurd held

-- the content before a frame that passes

pub idle_content : (before : Channel) → IsIdleOpen before → content_on (channel_view before) ≡ Nothing
idle_content (Open life) idle = idle
idle_content before idle = absurd idle

due_within : (content : Gathering) (size : ℕ) (properties : Properties) → IsWhole (whole_at content (HeaderOf size properties))
    → IsHeaderDue content
due_within (HeaderDue method) size properties whole = tt
due_within Nothing size properties whole = absurd whole
due_within (BodyDue method most others body) size properties whole = absurd whole

pub due_whole : (channel : model.Channel) (size : ℕ) (properties : Properties)
    → IsWhole (whole_now channel (HeaderOf size properties)) → IsHeaderDue (content_on channel)
due_whole (model.Open life) size properties whole = due_within life.content size properties whole
due_whole channel size properties whole = absurd whole

pub due_headed : (channel : model.Channel) (reading : Reading) → FitsTold channel reading told.Headed
    → IsHeaderDue (content_on channel)
due_headed (model.Open life) reading fits = fits.0
due_headed channel reading fits = absurd fits

-- how much is kept of it, and how much after the frame

pub due_headers : (content : Gathering) → IsHeaderDue content → header_octets content ≡ 0
due_headers (HeaderDue method) due = refl
due_headers content due = absurd due

pub due_bodies : (content : Gathering) → IsHeaderDue content → length (kept content) ≡ 0
due_bodies (HeaderDue method) due = refl
due_bodies content due = absurd due

pub was_headers : (before : Channel) → IsGathered before
    → header_octets_on (gathered_view before) ≡ header_octets (content_on (channel_view before))
was_headers (Open life) was = refl
was_headers before was = absurd was

pub was_bodies : (before : Channel) → IsGathered before
    → body_octets_on (gathered_view before) ≡ length (kept (content_on (channel_view before)))
was_bodies (Open life) was = refl
was_bodies before was = absurd was

pub now_headers : (before channel : Channel) (content : Gathering) → IsGathered before → IsGathered channel
    → channel_view channel ≡ contained content (channel_view before)
    → header_octets_on (gathered_view channel) ≡ header_octets content
now_headers (Open life) channel content was held same = ap header_octets_on (gathered_all channel held ∙ same)
now_headers before channel content was held same = absurd was

pub now_bodies : (before channel : Channel) (content : Gathering) → IsGathered before → IsGathered channel
    → channel_view channel ≡ contained content (channel_view before)
    → body_octets_on (gathered_view channel) ≡ length (kept content)
now_bodies (Open life) channel content was held same = ap body_octets_on (gathered_all channel held ∙ same)
now_bodies before channel content was held same = absurd was

pub same_view : (before channel : Channel) → IsGathered before → IsGathered channel
    → channel_view channel ≡ channel_view before → gathered_view channel ≡ gathered_view before
same_view before channel was held same = gathered_all channel held ∙ (same ∙ sym (gathered_all before was))

-- the channel at a place is looked at twice
same_there : (used : Used) (place : ℕ) (one other : Channel) → slice_get (values used) place ≡ Some one
    → slice_get (values used) place ≡ Some other → one ≡ other
same_there used place one other first again = cc

pub moved : (P : Channel → Type 0) (used : Used) (place : ℕ) (one other : Channel) → slice_get (values used) place ≡ Some one
    → slice_get (values used) place ≡ Some other → P one → P other
moved P used place one other first again at = subst P (same_there used place one other first again) at

pub passes_here : (used : Used) (place : ℕ) (one other : Channel) (site : Site) (reading : Reading) (said is : Told)
    → slice_get (values used) place ≡ Some one → slice_get (values used) place ≡ Some other → said ≡ is
    → Passes site (channel_view one) reading said → Passes site (channel_view other) reading is
passes_here used place one other site reading said is first again same passes =
    subst (λ (s : Told). Passes site (channel_view other) reading s) same
    (moved (λ (channel : Channel). Passes site (channel_view channel) reading said) used place one other first again passes)

-- what a frame does that passes
pub passes_gathered : (site : Site) (reading : Reading) (old new : Channels) (said is : Told) (whole : Option (Box Content Global))
    (before channel : Channel) → said ≡ is → channels_view old site.number ≡ channel_view before
    → channels_view new site.number ≡ channel_view channel → OnlyAt site.number (channels_view old) (channels_view new)
    → Passes site (channel_view before) reading is
    → channel_view channel ≡ contained (content_with reading is (content_on (channel_view before))) (channel_view before)
    → content_there whole ≡ whole_of is (whole_now (channel_view before) reading)
    → PassesGathered site reading old said whole new
passes_gathered site reading old new said is whole before channel same at_old at_new others passes left content =
    subst (λ (s : Told). PassesGathered site reading old s whole new) (sym same)
    (record {
      passes = subst (λ (c : model.Channel). Passes site c reading is) (sym at_old) passes;
      left =
          at_new
          ∙ (passes_contained site (channel_view before) (channel_view channel) reading is passes left
          ∙ ap (told_on (role_of site.side) reading is) (sym at_old));
      content = content ∙ ap (λ (c : model.Channel). whole_of is (whole_now c reading)) (sym at_old);
      others = others;
    })

-- what is known of the channels in use
pub record Keeps (used : Used) (amounts : Amounts) (numbers : FreeNumbers) : Type 0 where
  pub passed : PassedAreTaken used numbers
  pub free : NoneKeptFree used
  pub headers : IsSum (header_octets_at used) amounts.headers
  pub bodies : IsSum (body_octets_at used) amounts.bodies
  pub fit : BodiesFit used

-- where a channel that is Open is written at its place
module _ (self : Channels) (place number : ℕ) (above : 0 < number) (within : number < 65536) (written : WritesAt self.used place number)
    (at : KeptAt self.used place number) (put : PutAt self.used place number) (others : KeepsOthersAt self.used place number)
    (entries : KeepsEntriesAt self.used place number) (before : Channel) (there : slice_get (values self.used) place ≡ Some before)
    (was : Amount) (header_was : was.header ≡ header_octets_on (gathered_view before))
    (body_was : was.body ≡ body_octets_on (gathered_view before)) where
  here : used_gathered self.used number ≡ gathered_view before
  here = now_here self.used number above before (at before there)

  header_counted : was.header ≡ header_octets_at self.used number
  header_counted = header_was ∙ sym (ap header_octets_on here)

  body_counted : was.body ≡ body_octets_at self.used number
  body_counted = body_was ∙ sym (ap body_octets_on here)

  pub counted : IsPartOf self.amounts was
  counted =
      is_part self.used self.amounts self.counts_headers self.counts_bodies self.bodies_fit number above within was header_counted
      body_counted

  pub keeps : (channel : Channel) (left : Amount) (after : Amounts) → IsGathered channel
      → left.header ≡ header_octets_on (gathered_view channel) → left.body ≡ body_octets_on (gathered_view channel)
      → left.body < 2 ^ 64 → ChangesBy was left self.amounts after → Keeps (with_value_at self.used place channel) after self.numbers
  keeps channel left after held header_is body_is small changes =
      let used = with_value_at self.used place channel in
      let taken = gathered_taken channel held in
      let rest : (j : ℕ) → IsPassed self.numbers (suc j) → suc j ≢ number → is_free (used_view used (suc j)) ≡ false =
      λ j passed apart. ap is_free (others channel (suc j) apart) ∙ self.passed_are_taken j passed in
      record {
        passed = still_passed used self.numbers number rest (ap is_free (written channel) ∙ taken);
        free = none_written self.used used number channel above self.none_free (entries channel) (put channel) taken;
        headers =
            headers_written self.used used self.amounts after self.counts_headers self.counts_bodies self.bodies_fit number above within
            was left channel header_counted body_counted (views_same self.used used number (entries channel))
            (now_here used number above channel (put channel)) header_is body_is small changes;
        bodies =
            bodies_written self.used used self.amounts after self.counts_headers self.counts_bodies self.bodies_fit number above within
            was left channel header_counted body_counted (views_same self.used used number (entries channel))
            (now_here used number above channel (put channel)) header_is body_is small changes;
        fit =
            fit_written self.used used self.amounts after self.counts_headers self.counts_bodies self.bodies_fit number above within
            was left channel header_counted body_counted (views_same self.used used number (entries channel))
            (now_here used number above channel (put channel)) header_is body_is small changes;
      }

-- and as many octets are kept of its content as were
module _ (self : Channels) (place number : ℕ) (above : 0 < number) (within : number < 65536) (written : WritesAt self.used place number)
    (at : KeptAt self.used place number) (put : PutAt self.used place number) (others : KeepsOthersAt self.used place number)
    (entries : KeepsEntriesAt self.used place number) (before : Channel) (there : slice_get (values self.used) place ≡ Some before) where
  pub keeps_same : (channel : Channel) → IsGathered channel
      → header_octets_on (gathered_view channel) ≡ header_octets_on (gathered_view before)
      → body_octets_on (gathered_view channel) ≡ body_octets_on (gathered_view before)
      → Keeps (with_value_at self.used place channel) self.amounts self.numbers
  keeps_same channel held header_is body_is =
      let was : Amount = record { header = header_octets_on (gathered_view before); body = body_octets_on (gathered_view before) } in
      let counted : body_octets_on (gathered_view before) < 2 ^ 64 =
      subst (λ n. n < 2 ^ 64) (ap body_octets_on (now_here self.used number above before (at before there))) (self.bodies_fit number) in
      keeps self place number above within written at put others entries before there was refl refl channel was self.amounts held
      (sym header_is) (sym body_is) counted (record { headers = refl; bodies = refl })

-- where nothing is kept of the content before or after, and where memory runs out
same_headers : {A : Type 0} {E : Type 0} (answer : Result A E) (before channel : Channel) (content : Gathering)
    → OnOk answer (channel_view channel ≡ contained content (channel_view before))
    → OnErr answer (channel_view channel ≡ channel_view before) → IsGathered before → IsGathered channel
    → header_octets content ≡ header_octets (content_on (channel_view before))
    → header_octets_on (gathered_view channel) ≡ header_octets_on (gathered_view before)
same_headers (Ok done) before channel content ok err was held same =
    now_headers before channel content was held ok ∙ (same ∙ sym (was_headers before was))
same_headers (Err fault) before channel content ok err was held same = ap header_octets_on (same_view before channel was held err)

same_bodies : {A : Type 0} {E : Type 0} (answer : Result A E) (before channel : Channel) (content : Gathering)
    → OnOk answer (channel_view channel ≡ contained content (channel_view before))
    → OnErr answer (channel_view channel ≡ channel_view before) → IsGathered before → IsGathered channel
    → length (kept content) ≡ length (kept (content_on (channel_view before)))
    → body_octets_on (gathered_view channel) ≡ body_octets_on (gathered_view before)
same_bodies (Ok done) before channel content ok err was held same =
    now_bodies before channel content was held ok ∙ (same ∙ sym (was_bodies before was))
same_bodies (Err fault) before channel content ok err was held same = ap body_octets_on (same_view before channel was held err)

module _ (self : Channels) (place number : ℕ) (above : 0 < number) (within : number < 65536) (written : WritesAt self.used place number)
    (at : KeptAt self.used place number) (put : PutAt self.used place number) (others : KeepsOthersAt self.used place number)
    (entries : KeepsEntriesAt self.used place number) (before : Channel) (there : slice_get (values self.used) place ≡ Some before) where
  pub keeps_answered : {A : Type 0} {E : Type 0} (answer : Result A E) (channel : Channel) (content : Gathering)
      → OnOk answer (channel_view channel ≡ contained content (channel_view before))
      → OnErr answer (channel_view channel ≡ channel_view before) → IsGathered before → IsGathered channel
      → header_octets content ≡ header_octets (content_on (channel_view before))
      → length (kept content) ≡ length (kept (content_on (channel_view before)))
      → Keeps (with_value_at self.used place channel) self.amounts self.numbers
  keeps_answered answer channel content ok err was held header_is body_is =
      keeps_same self place number above within written at put others entries before there channel held
      (same_headers answer before channel content ok err was held header_is)
      (same_bodies answer before channel content ok err was held body_is)
