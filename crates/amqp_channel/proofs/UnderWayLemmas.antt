-- Channels with no content under way, and channels of which none is lent.
use Rattle.std.proofs.Common.{◌≡◌, ◌≢◌, ◌<◌, ◌+◌, nat_eq, eqb, Bool, true, false, ℕ, zero, suc, length, slice_get, IfSome, Option, Some, None, refl, ap, subst, sym, ◌∙◌, arith}
use Rattle.std.proofs.lemmas.Bool.{eqb-true, eqb-false, false≢true}
use Rattle.std.proofs.lemmas.Map.Entries.{hash_map_get_place, place_from_lookup}
use Rattle.std.proofs.lemmas.Option.{slice_get_within}
use Rattle.std.specs.Cmp.{nat_eq_equiv}
use Rattle.std.specs.HashMap.{get}
use Rattle.indexmap.specs.IndexMap.{with_value_at, IsUnique}
use Rattle.amqp_model.specs.End.FrameVerdict.{is_gathering}
use Rattle.amqp_channel.specs.Channel.ChannelView.{channel_view, is_lent, content_on}
use Rattle.amqp_channel.specs.Channels.Used.{Used, is_lent_there, kept_at, used_view, IsIdleAt, KeepsEntriesAt, NoneLentIn, PutAt}
use Rattle.amqp_channel.specs.declared.channel.Channel.{Channel}
use Rattle.amqp_channel.specs.declared.channel.Channel.TheVariants.{Free, Opening, Closing, Open, LentHeader, LentBody}
use Rattle.amqp_channel.proofs.UsedLemmas.{at_used}

-- where the entries of the other numbers stay, and none that is lent is put here
pub none_lent : (used written : Used) (number : ℕ)
    → ((other : ℕ) → other ≢ number → get nat_eq written other ≡ get nat_eq used other)
    → is_lent_there (get nat_eq written number) ≡ false → NoneLentIn used → NoneLentIn written
none_lent used written number others here none other above = by (eqb other number) refl
  where
    by : (b : Bool) → eqb other number ≡ b → is_lent_there (get nat_eq written other) ≡ false
    by true e = ap (λ n. is_lent_there (get nat_eq written n)) (eqb-true other number e) ∙ here
    by false e = ap is_lent_there (others other (eqb-false other number e)) ∙ none other above

pub none_lent_put : (used : Used) (place number : ℕ) (channel : Channel) → KeepsEntriesAt used place number → PutAt used place number
    → is_lent channel ≡ false → NoneLentIn used → NoneLentIn (with_value_at used place channel)
none_lent_put used place number channel others put gathers none =
    none_lent used (with_value_at used place channel) number (others channel) (ap is_lent_there (put channel) ∙ gathers) none

-- a channel that is kept at a number is not lent
pub kept_gathers : (used : Used) (number : ℕ) (channel : Channel) → 0 < number → NoneLentIn used → get nat_eq used number ≡ Some channel
    → is_lent channel ≡ false
kept_gathers used number channel above none kept = sym (ap is_lent_there kept) ∙ none number above

-- The channel at a place.

abbrev is_busy : Channel → Bool
is_busy channel = is_gathering (content_on (channel_view channel))

abbrev IsIdleEntry : ℕ × Channel → Type 0
IsIdleEntry entry = 0 < entry.0 → is_busy entry.1 ≡ false

pub idle_at : (used : Used) (place number : ℕ) (channel : Channel) → slice_get used.entries place ≡ Some (number, channel)
    → is_gathering (content_on (channel_view channel)) ≡ false → IsIdleAt used place
idle_at used place number channel here idle other kept there above =
    subst (λ o. IfSome o IsIdleEntry) (sym here ∙ there) (λ first. idle) above

pub idle_zero : (used : Used) (place number : ℕ) (channel : Channel) → slice_get used.entries place ≡ Some (number, channel)
    → number ≡ 0 → IsIdleAt used place
idle_zero used place number channel here none other kept there above =
    subst (λ o. IfSome o IsIdleEntry) (sym here ∙ there) (λ first. absurd (omega arith)) above

pub idle_past : (used : Used) (place : ℕ) → slice_get used.entries place ≡ None → IsIdleAt used place
idle_past used place past other kept there above = subst (λ o. IfSome o IsIdleEntry) (sym past ∙ there) tt above

pub busy_at : (used : Used) (place number : ℕ) (channel : Channel) → 0 < number → IsUnique nat_eq used
    → slice_get used.entries place ≡ Some (number, channel) → is_gathering (content_on (channel_view channel)) ≡ true
    → ((other : ℕ) → is_gathering (content_on (used_view used other)) ≡ false) → ⊥
busy_at used place number channel above unique here busy idle =
    false≢true
    (sym (idle number)
    ∙ (ap (λ c. is_gathering (content_on c))
    (at_used used number above ∙ ap kept_at (hash_map_get_place nat_eq_equiv used place number channel unique here))
    ∙ busy))

pub one_more_idle : (used : Used) (places : ℕ) → ((at : ℕ) → at < places → IsIdleAt used at) → IsIdleAt used places
    → (at : ℕ) → at < places + 1 → IsIdleAt used at
one_more_idle used places before here at below = by (eqb at places) refl
  where
    by : (b : Bool) → eqb at places ≡ b → IsIdleAt used at
    by true e = subst (IsIdleAt used) (sym (eqb-true at places e)) here
    by false e = let apart : at ≢ places = eqb-false at places e in before at (omega arith)

-- The channels, where each place is idle.

idle_kept : (used : Used) (number : ℕ) (kept : Option Channel) → get nat_eq used number ≡ kept → 0 < number
    → ((at : ℕ) → at < length used.entries → IsIdleAt used at) → is_gathering (content_on (kept_at kept)) ≡ false
idle_kept used number None found above idle = refl
idle_kept used number (Some channel) found above idle =
    let place = place_from_lookup (nat_eq number) used.entries channel found in
    let key : number ≡ place.1 = eqb-true number place.1 place.3 in
    idle place.0 (slice_get_within used.entries place.0 (place.1, channel) place.2) place.1 channel place.2 (subst (λ n. 0 < n) key above)

pub idle_channels : (used : Used) → ((at : ℕ) → at < length used.entries → IsIdleAt used at)
    → (number : ℕ) → is_gathering (content_on (used_view used number)) ≡ false
idle_channels used idle zero = refl
idle_channels used idle (suc n) = idle_kept used (suc n) (get nat_eq used (suc n)) refl (omega arith) idle

idle_gathers : (channel : Channel) → is_gathering (content_on (channel_view channel)) ≡ false → is_lent channel ≡ false
idle_gathers Free idle = refl
idle_gathers Opening idle = refl
idle_gathers Closing idle = refl
idle_gathers (Open life) idle = refl
idle_gathers (LentHeader kind standing) idle = idle
idle_gathers (LentBody kind size came standing) idle = idle

gathers_there : (kept : Option Channel) → is_gathering (content_on (kept_at kept)) ≡ false → is_lent_there kept ≡ false
gathers_there None idle = refl
gathers_there (Some channel) idle = idle_gathers channel idle

pub idle_none_lent : (used : Used) → ((number : ℕ) → is_gathering (content_on (used_view used number)) ≡ false) → NoneLentIn used
idle_none_lent used idle number above =
    gathers_there (get nat_eq used number) (ap (λ c. is_gathering (content_on c)) (sym (at_used used number above)) ∙ idle number)
