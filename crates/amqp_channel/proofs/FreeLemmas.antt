-- The lowest channel that is free.
use Rattle.std.proofs.Common.{◌≡◌, ◌≢◌, ◌<◌, ◌≤◌, ◌+◌, Bool, true, false, eqb, nat_eq, ℕ, zero, suc, Option, Some, None, IfSome, unwrap_or, refl, ap, subst, sym, ◌∙◌, arith, inl, inr, ◌⊎◌}
use Rattle.std.proofs.lemmas.Bool.{cases_lt, false≢true, eqb-true, eqb-false, ne_eqb}
use Rattle.amqp_model.specs.End.Asks.{is_free, first_free}
use Rattle.amqp_model.specs.End.Channels.{Channel, Free, Opening, Closing, Open}
use Rattle.std.proofs.lemmas.Option.{none-some}
use Rattle.std.specs.HashMap.{get, IsUnchanged, UpdatesBy}
use Rattle.std.specs.Map.{lookup}
use Rattle.amqp_channel.specs.Channel.ChannelView.{channel_view}
use Rattle.amqp_channel.specs.Channels.Passed.{IsPassed, PassedAreTaken}
use Rattle.amqp_channel.specs.Channels.Used.{Used, kept_at, used_view, IsTakenOut, NoneElseFree, NoneFreeBelow, NoneKeptFree}
use Rattle.amqp_channel.specs.declared.free_numbers.FreeNumbers.{FreeNumbers}
use Rattle.amqp_channel.proofs.UsedLemmas.{at_used}

-- a number that is free stands at the end, one that is taken before it
same_or_below : (from n : ℕ) → from ≤ n → (from < n → ⊥) → from ≡ n
same_or_below from n least none = omega arith

below_or_same : (from n : ℕ) → from ≤ n → from ≢ n → from < n
below_or_same from n least other = omega arith

first_is : (channels : ℕ → Channel) (from n : ℕ) → from ≤ n → ((j : ℕ) → from ≤ j → j < n → is_free (channels j) ≡ false) → is_free (channels from) ≡ true
    → from ≡ n
first_is channels from n least taken here = same_or_below from n least (λ below. false≢true (sym (taken from (omega arith) below) ∙ here))

before : (channels : ℕ → Channel) (from n : ℕ) → from ≤ n → is_free (channels n) ≡ true → is_free (channels from) ≡ false → from < n
before channels from n least free here = below_or_same from n least (λ e. false≢true (sym here ∙ (ap (λ k. is_free (channels k)) e ∙ free)))

first_by : (b : Bool) (channels : ℕ → Channel) (many from n : ℕ) → from ≤ n → n < from + suc many
    → ((j : ℕ) → from ≤ j → j < n → is_free (channels j) ≡ false) → is_free (channels n) ≡ true → is_free (channels from) ≡ b
    → (from < n → first_free channels many (suc from) ≡ Some n) → first_free channels (suc many) from ≡ Some n
first_by true channels many from n least most taken free here later = rw (here, first_free) (ap Some (first_is channels from n least taken here))
first_by false channels many from n least most taken free here later = rw (here, first_free) (later (before channels from n least free here))

-- all before it are taken
pub first_at : (channels : ℕ → Channel) (many from n : ℕ) → from ≤ n → n < from + many → ((j : ℕ) → from ≤ j → j < n → is_free (channels j) ≡ false)
    → is_free (channels n) ≡ true → first_free channels many from ≡ Some n
first_at channels zero from n least most taken free = absurd (omega arith)
first_at channels (suc many) from n least most taken free =
    first_by (is_free (channels from)) channels many from n least most taken free refl
    (λ after. first_at channels many (suc from) n (omega arith) (omega arith) (λ j from_is below. taken j (omega arith) below) free)

-- all are taken
pub none_first : (channels : ℕ → Channel) (many from : ℕ) → ((j : ℕ) → from ≤ j → j < from + many → is_free (channels j) ≡ false)
    → first_free channels many from ≡ None
none_first channels zero from taken = refl
none_first channels (suc many) from taken = rw (taken from (omega arith) (omega arith), first_free)
    (none_first channels many (suc from) (λ j least most. taken j (omega arith) (omega arith)))

-- the same of the channels in use
from_one : (used : Used) (n j : ℕ) → NoneFreeBelow used n → 1 ≤ j → j < n → is_free (used_view used j) ≡ false
from_one used n zero taken least below = absurd (omega arith)
from_one used n (suc j) taken least below = taken j below

pub lowest_is : (used : Used) (most n : ℕ) → NoneFreeBelow used n → 0 < n → n ≤ most → is_free (used_view used n) ≡ true
    → Some n ≡ first_free (used_view used) most 1
lowest_is used most n taken above within free = sym (first_at (used_view used) most 1 n (omega arith) (omega arith)
    (λ j least below. from_one used n j taken least below) free)

pub none_is : (used : Used) (most n : ℕ) → NoneFreeBelow used n → most < n → None ≡ first_free (used_view used) most 1
none_is used most n taken past = sym (none_first (used_view used) most 1 (λ j least below. from_one used n j taken least (omega arith)))

-- a channel that is no longer as it was is taken still
taken_at : (b : Bool) (used : Used) (j number : ℕ) → eqb (suc j) number ≡ b → (suc j ≢ number → is_free (used_view used (suc j)) ≡ false)
    → is_free (used_view used number) ≡ false → is_free (used_view used (suc j)) ≡ false
taken_at true used j number e others here = ap (λ n. is_free (used_view used n)) (eqb-true (suc j) number e) ∙ here
taken_at false used j number e others here = others (eqb-false (suc j) number e)

pub still_taken : (used : Used) (low number : ℕ) → ((j : ℕ) → suc j < low → suc j ≢ number → is_free (used_view used (suc j)) ≡ false)
    → is_free (used_view used number) ≡ false → NoneFreeBelow used low
still_taken used low number others here = λ j below. taken_at (eqb (suc j) number) used j number refl (others j below) here

-- one more
pub one_more : (used : Used) (n : ℕ) → NoneFreeBelow used n → is_free (used_view used n) ≡ false → NoneFreeBelow used (n + 1)
one_more used n taken here = still_taken used (n + 1) n (λ j below other. taken j (below_or_same (suc j) n (omega arith) other)) here

-- a channel that is free
pub free_is : (channel : Channel) → is_free channel ≡ true → channel ≡ Free
free_is Free h = refl
free_is Opening h = absurd (false≢true h)
free_is Closing h = absurd (false≢true h)
free_is (Open life) h = absurd (false≢true h)

-- The numbers that were passed.

-- those of the other channels are taken still, and so is this one
pub still_passed : (used : Used) (numbers : FreeNumbers) (number : ℕ)
    → ((j : ℕ) → IsPassed numbers (suc j) → suc j ≢ number → is_free (used_view used (suc j)) ≡ false)
    → is_free (used_view used number) ≡ false → PassedAreTaken used numbers
still_passed used numbers number others here = λ j passed. taken_at (eqb (suc j) number) used j number refl (others j passed) here

-- below a number all are taken, and so they are passed
pub all_passed : (used : Used) (old new : FreeNumbers) (number : ℕ) → PassedAreTaken used old → NoneFreeBelow used number
    → ((other : ℕ) → number ≤ other → IsPassed new other → IsPassed old other) → PassedAreTaken used new
all_passed used old new number taken below passed j here = by (cases_lt (suc j) number)
  where
    by : (suc j < number) ⊎ (number ≤ suc j) → is_free (used_view used (suc j)) ≡ false
    by (inl before) = below j before
    by (inr from) = taken j (passed (suc j) from here)

-- up to the number that was found, or to the greatest
pub below_found : (used : Used) (found : Option ℕ) (most : ℕ) → IfSome found (λ number. (0 < number) × NoneFreeBelow used number)
    → (found ≡ None → NoneFreeBelow used (most + 1)) → NoneFreeBelow used (unwrap_or found most)
below_found used (Some number) most some none = some.1
below_found used None most some none = λ j below. none refl j (omega arith)

-- A channel that was taken out.

pub takes_out : (old between new : Used) (number : ℕ) → UpdatesBy nat_eq (nat_eq number) old between None → IsUnchanged between new → IsTakenOut old number new
takes_out old between new number updates same = record {
  here = ap (λ entries. lookup (nat_eq number) entries) same ∙ updates.1;
  others = λ other apart. ap (λ entries. lookup (nat_eq other) entries) same ∙ updates.2 other (ne_eqb number other (λ e. apart (sym e)));
}

view_apart : (used new : Used) (number : ℕ) → IsTakenOut used number new → (other : ℕ) → other ≢ number → used_view new other ≡ used_view used other
view_apart used new number out zero apart = refl
view_apart used new number out (suc n) apart = ap kept_at (out.others (suc n) apart)

-- it was Free, so all are as they were
pub views_after : (used new : Used) (number : ℕ) → 0 < number → is_free (used_view used number) ≡ true → IsTakenOut used number new
    → (other : ℕ) → used_view new other ≡ used_view used other
views_after used new number above free out other = by (eqb other number) refl
  where
    by : (b : Bool) → eqb other number ≡ b → used_view new other ≡ used_view used other
    by true e =
        let is : other ≡ number = eqb-true other number e in
        ap (used_view new) is
        ∙ (at_used new number above ∙ (ap kept_at out.here ∙ (sym (free_is (used_view used number) free) ∙ sym (ap (used_view used) is))))
    by false e = view_apart used new number out other (eqb-false other number e)

-- and no channel that is left is Free
pub none_left : (used new : Used) (number : ℕ) → IsTakenOut used number new → NoneElseFree used number → NoneKeptFree new
none_left used new number out none other channel kept = by (eqb other number) refl
  where
    by : (b : Bool) → eqb other number ≡ b → is_free (channel_view channel) ≡ false
    by true e = absurd (none-some channel (sym out.here ∙ (ap (get nat_eq new) (sym (eqb-true other number e)) ∙ kept)))
    by false e = none other channel (eqb-false other number e) (sym (out.others other (eqb-false other number e)) ∙ kept)

-- the number is passed no longer
pub passed_after : (used new : Used) (old left : FreeNumbers) (number : ℕ)
    → ((j : ℕ) → IsPassed old (suc j) → suc j ≢ number → is_free (used_view used (suc j)) ≡ false)
    → ((other : ℕ) → used_view new other ≡ used_view used other) → ((j : ℕ) → IsPassed left (suc j) → IsPassed old (suc j))
    → (IsPassed left number → ⊥) → PassedAreTaken new left
passed_after used new old left number taken same passed here j at =
    ap is_free (same (suc j)) ∙ taken j (passed j at) (λ is. here (subst (IsPassed left) is at))
