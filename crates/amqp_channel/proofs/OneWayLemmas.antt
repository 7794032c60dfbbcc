-- Methods that have nothing to do with requests: no rule on requests applies to them, and none is kept or taken away.
use Rattle.std.proofs.Common.{◌≡◌, ◌<◌, ◌≤◌, ◌==◌, ◌&&◌, ℕ, Bool, true, false, not, nat_lt, cond, List, Option, None, Some, IfSome, Result, Ok, Err, OnOk, OnErr, refl, ap, arith, sym, ◌∙◌}
use Rattle.std.proofs.lemmas.Bool.{true≢false, and_parts}
use Rattle.std.proofs.lemmas.Bool.Decides.{nat_tests}
use Rattle.amqp_method.specs.Methods.{Wanted, Always, Never, UnlessNoWait}
use Rattle.amqp_method.specs.Requests.{is_never, is_one_way, is_wanted, wants}
use Rattle.amqp_method.specs.declared.kinds.Kind.TheVariants as kinds
use Rattle.amqp_model.specs.End.Asks.{is_free}
use Rattle.amqp_model.specs.Lent.Alike.{AlikeChannels}
use Rattle.amqp_model.specs.Lent.Streaming.{Streaming, streamed}
use Rattle.amqp_channel.specs.Channel.ChannelView.{content_on}
use Rattle.amqp_channel.proofs.LentLemmas.{advanced_alike, standing_alike, standing_fits}
use Rattle.amqp_model.specs.End.Channels.{Channel, Free, Opening, Closing, Open, Life}
use Rattle.amqp_model.specs.End.FrameVerdict.{on_matched, on_message}
use Rattle.amqp_model.specs.Wire.Methods.{Method, MethodKind, class_of, is_reply, is_request, sends}
use Rattle.amqp_model.specs.Wire.Notes.{Role, Client, Server, is_client}
use Rattle.amqp_model.specs.Wire.Readings.{Reading, Calls, kind_of, kind_of_method}
use Rattle.amqp_channel.specs.Channel.LifeView.{IsOther}
use Rattle.amqp_channel.specs.Channels.Used.{is_closing_at}
use Rattle.amqp_channel.specs.Verdict.LentView.{known_on, progress_with, stands_on, FitsProgress}
use Rattle.amqp_channel.specs.Verdict.Passing.{IsOfContent, IsOfMessage, Passes}
use Rattle.amqp_channel.specs.Verdict.VerdictView.{goes_on, replies_in, told_on, FitsTold, IsPart, Rules, RulesByState, SentOnChannel, TellsMessage}
use Rattle.amqp_channel.specs.Roles.{role_of}
use Rattle.amqp_channel.specs.declared.site.Site.{Site}
use Rattle.amqp_channel.specs.declared.verdict.Verdict.{Verdict}
use Rattle.amqp_channel.specs.declared.verdict.Verdict.TheVariants.{Proceeds}
use Rattle.amqp_channel.proofs.VerdictLemmas.{state_rules}
use Rattle.amqp_channel.specs.declared.verdict.Told.{Told}
use Rattle.amqp_channel.specs.declared.verdict.Told.TheVariants as told

-- it is of a class above channel
other_kind : (client : Bool) (kind : MethodKind) (active : Bool) → is_one_way client kind ≡ true → IsOther (kind_of_method kind active)
other_kind client kinds.ChannelOpen active way = absurd (true≢false (sym way))
other_kind client kinds.ChannelOpenOk active way = absurd (true≢false (sym way))
other_kind client kinds.ChannelClose active way = absurd (true≢false (sym way))
other_kind client kinds.ChannelCloseOk active way = absurd (true≢false (sym way))
other_kind client kinds.ChannelFlow active way = absurd (true≢false (sym way))
other_kind client kinds.ChannelFlowOk active way = absurd (true≢false (sym way))
other_kind client kinds.BasicPublish active way = tt
other_kind client kinds.BasicReturn active way = tt
other_kind client kinds.BasicDeliver active way = tt
other_kind client kind active way = tt

pub is_other : (client : Bool) (method : Method) → is_one_way client method.kind ≡ true → IsOther (kind_of (Calls method))
is_other client method way = other_kind client method.kind _ way

-- the server answers none of the kind
never_wanted : (method : Method) (wanted : Wanted) → is_never wanted ≡ true → is_wanted method wanted ≡ false
never_wanted method Always never = absurd (true≢false (sym never))
never_wanted method Never never = refl
never_wanted method (UnlessNoWait place) never = absurd (true≢false (sym never))

pub no_request : (method : Method) → is_one_way true method.kind ≡ true → is_request method ≡ false
no_request method way =
    never_wanted method (wants method.kind)
    (and_parts (nat_lt 20 (class_of method.kind) && sends true method.kind) (is_never (wants method.kind)) way).1

not_a_reply : (reply : Bool) → not reply ≡ true → reply ≡ false
not_a_reply true way = sym way
not_a_reply false way = refl

pub no_reply : (kind : MethodKind) → is_one_way false kind ≡ true → is_reply kind ≡ false
no_reply kind way =
    not_a_reply (is_reply kind) (and_parts (nat_lt 20 (class_of kind) && sends false kind) (not (is_reply kind)) way).1

-- so it is told by itself
pub unmatched : (role : Role) (number : ℕ) (requests : List MethodKind) (method : Method)
    → is_one_way (not (is_client role)) method.kind ≡ true → on_message number method ≡ on_matched role number requests method
unmatched Client number requests method way = rw (no_reply method.kind way) refl
unmatched Server number requests method way = rw (no_request method way) refl

-- and nothing that stands beside the content changes
pub stands_told : (role : Role) (method : Method) (channel : Channel) → is_one_way (not (is_client role)) method.kind ≡ true
    → stands_on role (Calls method) told.Method channel ≡ channel
stands_told role method Free way = refl
stands_told role method Opening way = refl
stands_told role method Closing way = refl
stands_told Client method (Open life) way = rw (no_reply method.kind way) refl
stands_told Server method (Open life) way = rw (no_request method way) refl

pub stands_begun : (role : Role) (method : Method) (channel : Channel) → is_one_way (not (is_client role)) method.kind ≡ true
    → stands_on role (Calls method) told.Begun channel ≡ channel
stands_begun role method Free way = refl
stands_begun role method Opening way = refl
stands_begun role method Closing way = refl
stands_begun Client method (Open life) way = refl
stands_begun Server method (Open life) way = rw (no_request method way) refl

stands_content : (role : Role) (reading : Reading) (said : Told) (life : Life) → IsOfContent said
    → (said ≡ told.Completed → role ≡ Client → replies_in life.content ≡ false)
    → stands_on role reading said (Open life) ≡ Open life
stands_content role reading told.Headed life of none = refl
stands_content role reading told.Continued life of none = refl
stands_content Client reading told.Completed life of none = rw (none refl refl) refl
stands_content Server reading told.Completed life of none = refl
stands_content role reading said life of none = absurd of

of_message : (said : Told) → IsOfContent said → IsOfMessage said
of_message told.Headed of = tt
of_message told.Continued of = tt
of_message told.Completed of = tt
of_message said of = absurd of

-- a frame of a content that answers no request with it
pub passes_content : (site : Site) (reading : Reading) (said : Told) (life : Life) (verdict : Verdict)
    → verdict ≡ Proceeds said None → IsOfContent said
    → (said ≡ told.Completed → role_of site.side ≡ Client → replies_in life.content ≡ false)
    → Rules site (Open life) reading verdict → Passes site (Open life) reading said
passes_content site reading said life verdict same of none rules =
    record {
      rules = rw same at rules;
      message = of_message said of;
      stands = stands_content (role_of site.side) reading said life of none;
    }

pub all_of_content : (site : Site) (reading : Reading) (life : Life) (verdict : Verdict) (said : Option Told)
    → IfSome said (λ it. verdict ≡ Proceeds it None) → IfSome said IsOfContent
    → IfSome said (λ it. it ≡ told.Completed → role_of site.side ≡ Client → replies_in life.content ≡ false)
    → Rules site (Open life) reading verdict → IfSome said (Passes site (Open life) reading)
all_of_content site reading life verdict None same of none rules = tt
all_of_content site reading life verdict (Some said) same of none rules =
    passes_content site reading said life verdict same of none rules

-- it may come on the channel
not_ten : (class : ℕ) → nat_lt 20 class ≡ true → (class == 10) ≡ false
not_ten class above = grind (arith, nat_tests)

sent_on : (site : Site) (method : Method) → 0 < site.number → site.number ≤ site.channel_max
    → is_one_way (not (is_client (role_of site.side))) method.kind ≡ true → SentOnChannel site method
sent_on site method above within way =
    let kind = method.kind in
    let client = not (is_client (role_of site.side)) in
    let may : (nat_lt 20 (class_of kind) && sends client kind) ≡ true =
    (and_parts (nat_lt 20 (class_of kind) && sends client kind) (cond client (is_never (wants kind)) (not (is_reply kind))) way).0 in
    let both = and_parts (nat_lt 20 (class_of kind)) (sends client kind) may in
    record {
      above = above;
      within = within;
      not_of_connection = not_ten (class_of kind) both.0;
      by_other = both.1;
    }

-- a method that has nothing to do with requests
pub passes_method : (site : Site) (life : Life) (method : Method) (said : Told) → 0 < site.number
    → site.number ≤ site.channel_max → is_one_way (not (is_client (role_of site.side))) method.kind ≡ true
    → TellsMessage method (Proceeds said None) → RulesByState site (Open life) method (Proceeds said None)
    → Passes site (Open life) (Calls method) said
passes_method site life method told.Begun above within way tells rules =
    record {
      rules = state_rules site (Open life) method (Proceeds told.Begun None) (sent_on site method above within way) tt rules;
      message = tt;
      stands = stands_begun (role_of site.side) method (Open life) way;
    }
passes_method site life method told.Method above within way tells rules =
    record {
      rules = state_rules site (Open life) method (Proceeds told.Method None) (sent_on site method above within way) tt rules;
      message = tt;
      stands = stands_told (role_of site.side) method (Open life) way;
    }
passes_method site life method said above within way tells rules = absurd tells

pub all_methods : (site : Site) (life : Life) (method : Method) (said : Option Told) → 0 < site.number
    → site.number ≤ site.channel_max
    → IfSome said (λ it. is_one_way (not (is_client (role_of site.side))) method.kind ≡ true)
    → IfSome said (λ it. TellsMessage method (Proceeds it None))
    → IfSome said (λ it. RulesByState site (Open life) method (Proceeds it None))
    → IfSome said (Passes site (Open life) (Calls method))
all_methods site life method None above within way tells rules = tt
all_methods site life method (Some said) above within way tells rules =
    passes_method site life method said above within way tells rules

-- What a frame leaves that passes.

pub passes_fits : (site : Site) (channel : Channel) (reading : Reading) (said : Told) → Passes site channel reading said
    → FitsProgress reading said (streamed (content_on channel))
passes_fits site channel reading said passes =
    standing_fits (role_of site.side) reading said channel channel (sym passes.stands) passes.rules.fits

pub goes : (role : Role) (reading : Reading) (said : Told) (channel : Channel) → IsOfMessage said
    → told_on role reading said channel ≡ goes_on role reading said channel
goes role reading told.Method channel of = refl
goes role reading told.Begun channel of = refl
goes role reading told.Headed channel of = refl
goes role reading told.Continued channel of = refl
goes role reading told.Completed channel of = refl
goes role reading said channel of = absurd of

pub passes_left : (site : Site) (channel after : Channel) (reading : Reading) (said : Told) → Passes site channel reading said
    → after ≡ known_on (progress_with reading said (streamed (content_on channel))) channel
    → AlikeChannels (told_on (role_of site.side) reading said channel) after
passes_left site channel after reading said passes known =
    rw (goes (role_of site.side) reading said channel passes.message)
    (advanced_alike (role_of site.side) reading said channel channel after (sym passes.stands) known)

-- a method without content leaves its channel as it was
pub passes_kept : (site : Site) (channel : Channel) (reading : Reading) → Passes site channel reading told.Method
    → AlikeChannels (told_on (role_of site.side) reading told.Method channel) channel
passes_kept site channel reading passes =
    standing_alike (role_of site.side) reading told.Method channel channel tt (sym passes.stands)

-- a channel is in use still where more of its content is known
pub known_taken : (progress : Streaming) (channel : Channel) → is_free (known_on progress channel) ≡ is_free channel
known_taken progress Free = refl
known_taken progress Opening = refl
known_taken progress Closing = refl
known_taken progress (Open life) = refl

-- a channel is in use still where its content goes on
goes_taken : (role : Role) (reading : Reading) (said : Told) (channel : Channel)
    → is_free (goes_on role reading said channel) ≡ is_free channel
goes_taken role reading said Free = refl
goes_taken role reading said Opening = refl
goes_taken role reading said Closing = refl
goes_taken role reading said (Open life) = refl

pub applied_taken : {A : Type 0} {E : Type 0} (role : Role) (reading : Reading) (said : Told) (channel after : Channel) (answer : Result A E)
    → OnOk answer (after ≡ goes_on role reading said channel) → OnErr answer (after ≡ channel) → is_free channel ≡ false
    → is_free after ≡ false
applied_taken role reading said channel after (Ok done) ok err taken = ap is_free ok ∙ (goes_taken role reading said channel ∙ taken)
applied_taken role reading said channel after (Err fault) ok err taken = ap is_free err ∙ taken

-- a part of a content doesn't pass on a channel that this end has closed
part_fits : (channel : Channel) (reading : Reading) (said : Told) → IsOfMessage said → FitsTold channel reading said
    → is_closing_at channel ≡ true → IsPart reading → ⊥
part_fits channel (Calls method) said of fits closing part = part
part_fits channel reading told.Method of fits closing part = fits
part_fits channel reading told.Begun of fits closing part = fits
part_fits Closing reading told.Headed of fits closing part = fits
part_fits Closing reading told.Continued of fits closing part = fits
part_fits Closing reading told.Completed of fits closing part = fits
part_fits Free reading said of fits closing part = true≢false (sym closing)
part_fits Opening reading said of fits closing part = true≢false (sym closing)
part_fits (Open life) reading said of fits closing part = true≢false (sym closing)
part_fits channel reading said of fits closing part = of

pub none_dropped : (site : Site) (channel : Channel) (reading : Reading) (said : Told) → Passes site channel reading said
    → is_closing_at channel ≡ true → IsPart reading → ⊥
none_dropped site channel reading said passes closing part =
    part_fits channel reading said passes.message passes.rules.fits closing part
