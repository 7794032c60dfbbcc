-- The channel that stands at a place among those in use.
use Rattle.std.proofs.Common.{◌≡◌, ◌≢◌, ◌<◌, nat_eq, eqb, Bool, true, false, ℕ, zero, suc, slice_get, Some, option_map, refl, ap, sym, ◌∙◌}
use Rattle.std.proofs.lemmas.Bool.{ne_eqb, eqb-true, eqb-false}
use Rattle.std.proofs.lemmas.Map.Entries.{hash_map_get_place}
use Rattle.std.proofs.lemmas.Option.{slice_get-map}
use Rattle.std.specs.Cmp.{nat_eq_equiv}
use Rattle.std.specs.HashMap.{get}
use Rattle.indexmap.specs.IndexMap.{with_value_at, IsUnique}
use Rattle.indexmap.proofs.CallerLemmas.{updates-with_value_at}
use Rattle.amqp_model.specs.End.Asks.{is_free}
use Rattle.amqp_channel.specs.Channel.ChannelView.{channel_view}
use Rattle.amqp_channel.specs.Channels.Used.{Used, kept_at, used_view, HoldsAt, KeepsEntriesAt, KeepsOthersAt, KeptAt, NoneElseFree, NoneFreeBelow, NoneKeptFree, PutAt, WritesAt}
use Rattle.amqp_channel.specs.declared.channel.Channel.{Channel}
use Rattle.amqp_channel.proofs.UsedLemmas.{at_used}

module _ (used : Used) (place number : ℕ) (channel : Channel) (above : 0 < number) (unique : IsUnique nat_eq used) (at : slice_get used.entries place ≡ Some (number, channel)) where
  pub holds_at : HoldsAt used place number
  holds_at other value =
      let here : Some channel ≡ Some other = sym (ap (λ o. option_map (λ e. e.1) o) at) ∙ (sym (slice_get-map (λ e. e.1) used.entries place) ∙ value) in
      at_used used number above ∙ ap kept_at (hash_map_get_place nat_eq_equiv used place number channel unique at ∙ here)

  pub writes_at : WritesAt used place number
  writes_at written =
      let updates = updates-with_value_at used place written nat_eq_equiv unique number channel at in
      at_used (with_value_at used place written) number above ∙ ap kept_at updates.1

  pub kept_at_place : KeptAt used place number
  kept_at_place other value =
      let here : Some channel ≡ Some other = sym (ap (λ o. option_map (λ e. e.1) o) at) ∙ (sym (slice_get-map (λ e. e.1) used.entries place) ∙ value) in
      hash_map_get_place nat_eq_equiv used place number channel unique at ∙ here

  pub put_at_place : PutAt used place number
  put_at_place written = (updates-with_value_at used place written nat_eq_equiv unique number channel at).1

  pub keeps_entries_at : KeepsEntriesAt used place number
  keeps_entries_at written other apart =
      let updates = updates-with_value_at used place written nat_eq_equiv unique number channel at in
      updates.2 other (ne_eqb number other (λ e. apart (sym e)))

  pub taken_at_place : NoneKeptFree used → is_free (used_view used number) ≡ false
  taken_at_place none =
      let here : get nat_eq used number ≡ Some channel = hash_map_get_place nat_eq_equiv used place number channel unique at in
      ap is_free (at_used used number above ∙ ap kept_at here) ∙ none number channel here

  pub keeps_others_at : KeepsOthersAt used place number
  keeps_others_at written zero apart = refl
  keeps_others_at written (suc n) apart =
      let updates = updates-with_value_at used place written nat_eq_equiv unique number channel at in
      ap kept_at (updates.2 (suc n) (ne_eqb number (suc n) (λ e. apart (sym e))))

-- the channels of the other numbers are taken still
pub others_taken : (used : Used) (place number low : ℕ) (channel : Channel) → KeepsOthersAt used place number → NoneFreeBelow used low
    → (j : ℕ) → suc j < low → suc j ≢ number → is_free (used_view (with_value_at used place channel) (suc j)) ≡ false
others_taken used place number low channel others taken j below apart = ap is_free (others channel (suc j) apart) ∙ taken j below

-- and so is this one, where it is as it was
pub all_taken : (used : Used) (place number low : ℕ) (channel : Channel) → KeepsOthersAt used place number → NoneFreeBelow used low
    → used_view (with_value_at used place channel) number ≡ used_view used number → NoneFreeBelow (with_value_at used place channel) low
all_taken used place number low channel others taken same j below = by (eqb (suc j) number) refl
  where
    by : (b : Bool) → eqb (suc j) number ≡ b → is_free (used_view (with_value_at used place channel) (suc j)) ≡ false
    by true e = ap is_free (ap (used_view (with_value_at used place channel)) (eqb-true (suc j) number e) ∙ (same ∙ ap (used_view used) (sym (eqb-true (suc j) number e)))) ∙ taken j below
    by false e = others_taken used place number low channel others taken j below (eqb-false (suc j) number e)

-- no channel of another number is Free, where one was written
pub none_else : (used : Used) (place number : ℕ) (channel : Channel) → KeepsEntriesAt used place number → NoneKeptFree used
    → NoneElseFree (with_value_at used place channel) number
none_else used place number channel entries none other kept apart here = none other kept (sym (entries channel other apart) ∙ here)

-- nor is this one
pub none_kept : (used : Used) (number : ℕ) → 0 < number → NoneElseFree used number → is_free (used_view used number) ≡ false → NoneKeptFree used
none_kept used number above others here other channel kept = by (eqb other number) refl
  where
    by : (b : Bool) → eqb other number ≡ b → is_free (channel_view channel) ≡ false
    by true e = ap is_free (sym (at_used used number above ∙ ap kept_at (ap (get nat_eq used) (sym (eqb-true other number e)) ∙ kept))) ∙ here
    by false e = others other channel (eqb-false other number e) kept

-- where the channel written is as it was
pub all_kept : (used : Used) (place number : ℕ) (channel : Channel) → 0 < number → KeepsEntriesAt used place number → NoneKeptFree used
    → is_free (used_view used number) ≡ false → used_view (with_value_at used place channel) number ≡ used_view used number
    → NoneKeptFree (with_value_at used place channel)
all_kept used place number channel above entries none taken same =
    none_kept (with_value_at used place channel) number above (none_else used place number channel entries none) (ap is_free same ∙ taken)

-- where one was written through a reference
pub none_written : (used written : Used) (number : ℕ) (channel : Channel) → 0 < number → NoneKeptFree used
    → ((other : ℕ) → other ≢ number → get nat_eq written other ≡ get nat_eq used other) → get nat_eq written number ≡ Some channel
    → is_free (channel_view channel) ≡ false → NoneKeptFree written
none_written used written number channel above none others here taken =
    none_kept written number above (λ other kept apart e. none other kept (sym (others other apart) ∙ e))
    (ap is_free (at_used written number above ∙ ap kept_at here) ∙ taken)
