-- How many octets are kept of the contents under way.
use Rattle.std.proofs.Common.{nat_eq, None, Some, ◌≡◌, ◌≢◌, ◌<◌, ◌^◌, Bool, true, false, eqb, ℕ, zero, suc, Option, refl, ap, sym, ◌∙◌, arith}
use Rattle.std.proofs.lemmas.Bool.{eqb-true, eqb-false, true≢false}
use Rattle.amqp_model.specs.End.Amounts.{body_octets_on, header_octets, header_octets_on, IsSum}
use Rattle.amqp_model.specs.End.Asks.{is_free}
use Rattle.amqp_model.specs.End.Channels as model
use Rattle.amqp_model.specs.Wire.Gathering.{Gathering, Nothing, HeaderDue, BodyDue}
use Rattle.std.specs.HashMap.{get, IsEmpty, IsUnchanged}
use Rattle.std.specs.Map.{lookup}
use Rattle.amqp_channel.specs.Channels.AmountView.{ChangesBy, IsPartOf}
use Rattle.amqp_channel.specs.Channels.Used.{Used, body_octets_at, gathered_there, header_octets_at, is_lent_there, kept_at, used_gathered, used_view, BodiesFit, NoneLentIn}
use Rattle.amqp_channel.specs.Channel.ChannelView.{channel_view, gathered_view, is_lent}
use Rattle.amqp_channel.specs.declared.channel.Channel.{Channel}
use Rattle.amqp_channel.specs.declared.channel.Channel.TheVariants.{Free, Opening, Closing, Open, LentHeader, LentBody}
use Rattle.amqp_channel.proofs.UsedLemmas.{at_gathered, at_used}
use Rattle.amqp_channel.specs.declared.amounts.Amount.{Amount}
use Rattle.amqp_channel.specs.declared.amounts.Amounts.{Amounts}
use Rattle.amqp_channel.proofs.SumLemmas.{part_of_sum, sum_after, sum_is_small, sum_same}

-- no header is counted above 64 bits
pub headers_fit : (used : Used) (number : ℕ) → header_octets_at used number < 2 ^ 64
headers_fit used number = by (used_gathered used number)
  where
    by : (channel : model.Channel) → header_octets_on channel < 2 ^ 64
    by model.Free = omega arith
    by model.Opening = omega arith
    by model.Closing = omega arith
    by (model.Open life) = content life.content
      where
        content : (gathering : Gathering) → header_octets gathering < 2 ^ 64
        content Nothing = omega arith
        content (HeaderDue method) = omega arith
        content (BodyDue method size properties body) = omega arith

-- where none is used, none is kept
pub none_used : (used : Used) → IsEmpty used → (number : ℕ) → used_gathered used number ≡ model.Free
none_used used empty zero = refl
none_used used empty (suc n) = ap (λ entries. gathered_there (lookup (nat_eq (suc n)) entries)) empty

-- where the entries are the same, so are the channels
pub view_unchanged : (old new : Used) → IsUnchanged old new → (number : ℕ) → used_view new number ≡ used_view old number
view_unchanged old new same zero = refl
view_unchanged old new same (suc n) = ap (λ entries. kept_at (lookup (nat_eq (suc n)) entries)) same

pub gathered_unchanged : (old new : Used) → IsUnchanged old new → (number : ℕ) → used_gathered new number ≡ used_gathered old number
gathered_unchanged old new same zero = refl
gathered_unchanged old new same (suc n) = ap (λ entries. gathered_there (lookup (nat_eq (suc n)) entries)) same

-- the channels of the other numbers are as they were, where their entries are
pub views_same : (old new : Used) (number : ℕ) → ((other : ℕ) → other ≢ number → get nat_eq new other ≡ get nat_eq old other)
    → (other : ℕ) → other ≢ number → used_gathered new other ≡ used_gathered old other
views_same old new number same zero apart = refl
views_same old new number same (suc n) apart = ap gathered_there (same (suc n) apart)

-- of a channel that is free nothing is kept
free_gathered : (channel : Channel) → is_free (channel_view channel) ≡ true → gathered_view channel ≡ model.Free
free_gathered Free free = refl
free_gathered Opening free = refl
free_gathered Closing free = refl
free_gathered (Open life) free = absurd (true≢false (sym free))
free_gathered (LentHeader kind standing) free = refl
free_gathered (LentBody kind size came standing) free = refl

free_there : (at : Option Channel) → is_free (kept_at at) ≡ true → gathered_there at ≡ model.Free
free_there None free = refl
free_there (Some channel) free = free_gathered channel free

pub free_kept : (used : Used) (number : ℕ) → 0 < number → is_free (used_view used number) ≡ true → used_gathered used number ≡ model.Free
free_kept used number above free =
    at_gathered used number above ∙ free_there (get nat_eq used number) (sym (ap is_free (at_used used number above)) ∙ free)

-- one that is taken out was free
pub taken_out : (used new : Used) (number : ℕ) → 0 < number → is_free (used_view used number) ≡ true → get nat_eq new number ≡ None
    → ((other : ℕ) → other ≢ number → get nat_eq new other ≡ get nat_eq used other) → (other : ℕ) → used_gathered new other ≡ used_gathered used other
taken_out used new number above free gone others other = by (eqb other number) refl
  where
    by : (b : Bool) → eqb other number ≡ b → used_gathered new other ≡ used_gathered used other
    by true e =
        let is : other ≡ number = eqb-true other number e in
        ap (used_gathered new) is ∙ (at_gathered new number above ∙ (ap gathered_there gone ∙ (sym (free_kept used number above free) ∙ sym (ap (used_gathered used) is))))
    by false e = views_same used new number others other (eqb-false other number e)

-- Where no content is lent, all that is under way is kept.

gathered_all : (channel : Channel) → is_lent channel ≡ false
    → (header_octets_on (gathered_view channel) ≡ header_octets_on (channel_view channel)) × (body_octets_on (gathered_view channel) ≡ body_octets_on (channel_view channel))
gathered_all Free none = (refl, refl)
gathered_all Opening none = (refl, refl)
gathered_all Closing none = (refl, refl)
gathered_all (Open life) none = (refl, refl)
gathered_all (LentHeader kind standing) none = absurd (true≢false none)
gathered_all (LentBody kind size came standing) none = absurd (true≢false none)

all_there : (at : Option Channel) → is_lent_there at ≡ false
    → (header_octets_on (gathered_there at) ≡ header_octets_on (kept_at at)) × (body_octets_on (gathered_there at) ≡ body_octets_on (kept_at at))
all_there None none = (refl, refl)
all_there (Some channel) none = gathered_all channel none

all_at : (used : Used) → NoneLentIn used → (number : ℕ)
    → (header_octets_at used number ≡ header_octets_on (used_view used number)) × (body_octets_at used number ≡ body_octets_on (used_view used number))
all_at used none zero = (refl, refl)
all_at used none (suc n) = all_there (get nat_eq used (suc n)) (none (suc n) (omega arith))

pub all_headers : (used : Used) (sum : ℕ) → NoneLentIn used → IsSum (header_octets_at used) sum → IsSum (λ number. header_octets_on (used_view used number)) sum
all_headers used sum none is = sum_same sum (header_octets_at used) (λ number. header_octets_on (used_view used number)) (λ n. sym (all_at used none n).0) is

pub all_bodies : (used : Used) (sum : ℕ) → NoneLentIn used → IsSum (body_octets_at used) sum → IsSum (λ number. body_octets_on (used_view used number)) sum
all_bodies used sum none is = sum_same sum (body_octets_at used) (λ number. body_octets_on (used_view used number)) (λ n. sym (all_at used none n).1) is

-- What is counted of the channel of a number, before it is written.
module _ (used : Used) (amounts : Amounts) (headers : IsSum (header_octets_at used) amounts.headers) (bodies : IsSum (body_octets_at used) amounts.bodies)
    (fit : BodiesFit used) (number : ℕ) (above : 0 < number) (within : number < 65536) (before : Amount)
    (header_was : before.header ≡ header_octets_at used number) (body_was : before.body ≡ body_octets_at used number) where
  pub is_part : IsPartOf amounts before
  is_part = record {
    header = let part = part_of_sum amounts.headers number (header_octets_at used) headers above within in omega (arith, part, header_was);
    body = let part = part_of_sum amounts.bodies number (body_octets_at used) bodies above within in omega (arith, part, body_was);
    headers = sum_is_small amounts.headers (header_octets_at used) headers (headers_fit used);
    bodies = sum_is_small amounts.bodies (body_octets_at used) bodies fit;
  }

  pub headers_after : (new : Used) (after : Amounts) (left : Amount) → ChangesBy before left amounts after
      → ((other : ℕ) → other ≢ number → used_gathered new other ≡ used_gathered used other) → left.header ≡ header_octets_at new number
      → IsSum (header_octets_at new) after.headers
  headers_after new after left changes others is =
      sum_after amounts.headers after.headers number before.header left.header (header_octets_at used) (header_octets_at new) above within
      (λ other apart. ap header_octets_on (others other apart)) header_was is changes.headers headers

  pub bodies_after : (new : Used) (after : Amounts) (left : Amount) → ChangesBy before left amounts after
      → ((other : ℕ) → other ≢ number → used_gathered new other ≡ used_gathered used other) → left.body ≡ body_octets_at new number
      → IsSum (body_octets_at new) after.bodies
  bodies_after new after left changes others is =
      sum_after amounts.bodies after.bodies number before.body left.body (body_octets_at used) (body_octets_at new) above within
      (λ other apart. ap body_octets_on (others other apart)) body_was is changes.bodies bodies

-- the bodies fit still, where one has changed
pub bodies_fit_after : (old new : Used) (number left : ℕ) → ((other : ℕ) → other ≢ number → used_gathered new other ≡ used_gathered old other)
    → left ≡ body_octets_at new number → left < 2 ^ 64 → BodiesFit old → BodiesFit new
bodies_fit_after old new number left others is small fit n = by (eqb n number) refl
  where
    by : (b : Bool) → eqb n number ≡ b → body_octets_at new n < 2 ^ 64
    by true e = let at : body_octets_at new n ≡ body_octets_at new number = ap (body_octets_at new) (eqb-true n number e) in omega (arith, at, is, small)
    by false e = let same : body_octets_at new n ≡ body_octets_at old n = ap body_octets_on (others n (eqb-false n number e)) in omega (arith, same, fit n)

-- What is counted of a channel that is kept at a number.
module _ (used : Used) (number : ℕ) (above : 0 < number) (channel : Channel) (there : get nat_eq used number ≡ Some channel) where
  pub now_here : used_gathered used number ≡ gathered_view channel
  now_here = at_gathered used number above ∙ ap gathered_there there

-- The facts of channels of which one is written.
module _ (used new : Used) (amounts after : Amounts) (headers : IsSum (header_octets_at used) amounts.headers) (bodies : IsSum (body_octets_at used) amounts.bodies)
    (fit : BodiesFit used) (number : ℕ) (above : 0 < number) (within : number < 65536) (before left : Amount) (channel : Channel)
    (header_was : before.header ≡ header_octets_at used number) (body_was : before.body ≡ body_octets_at used number)
    (others : (other : ℕ) → other ≢ number → used_gathered new other ≡ used_gathered used other) (here : used_gathered new number ≡ gathered_view channel)
    (header_is : left.header ≡ header_octets_on (gathered_view channel)) (body_is : left.body ≡ body_octets_on (gathered_view channel)) (small : left.body < 2 ^ 64)
    (changes : ChangesBy before left amounts after) where
  pub headers_written : IsSum (header_octets_at new) after.headers
  headers_written =
      headers_after used amounts headers bodies fit number above within before header_was body_was new after left changes others
      (header_is ∙ sym (ap header_octets_on here))

  pub bodies_written : IsSum (body_octets_at new) after.bodies
  bodies_written =
      bodies_after used amounts headers bodies fit number above within before header_was body_was new after left changes others
      (body_is ∙ sym (ap body_octets_on here))

  pub fit_written : BodiesFit new
  fit_written = bodies_fit_after used new number left.body others (body_is ∙ sym (ap body_octets_on here)) small fit
