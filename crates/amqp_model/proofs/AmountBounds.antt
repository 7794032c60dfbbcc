-- How much an end keeps of contents, at most.
use Rattle.std.proofs.Common.{◌≡◌, ◌<◌, ◌≤◌, ◌+◌, ◌*◌, Bool, true, false, ℕ, zero, suc}
use Rattle.std.proofs.Common.{nat_le, arith, List, ◌++◌, length, refl, sym, ap, subst, All}
use Rattle.std.proofs.Math.Nat.{mul-le-mul_right}
use Rattle.std.proofs.lemmas.Bool.{leb-true, leb-false}
use Rattle.amqp_frame.specs.Splitting.{stream}
use Rattle.amqp_model.specs.Wire.Gathering.{kept, Gathering, Nothing, HeaderDue, BodyDue}
use Rattle.amqp_model.specs.Wire.Notes.{Role}
use Rattle.amqp_model.specs.History.Histories.{History}
use Rattle.amqp_model.specs.History.Negotiation.{Config, frame_limit}
use Rattle.amqp_model.specs.End.Amounts.{body_octets_on, contents_kept, header_octets_on, sum_to}
use Rattle.amqp_model.specs.End.Asks.{channel_max}
use Rattle.amqp_model.specs.End.Bounds.{ChannelIsWithin, EndIsWithin, KeepsPart}
use Rattle.amqp_model.specs.End.Channels.{Channel, Free, Opening, Closing, End}
use Rattle.amqp_model.specs.End.Channels as channels
use Rattle.amqp_model.specs.End.Numbers.{NoneAbove}
use Rattle.amqp_model.specs.Laws.AmountLaws.{most_contents, ContentsAreWithin}
use Rattle.amqp_model.specs.Laws.OctetLaws.{IsOctet}
use Rattle.amqp_model.specs.Stream.Octets.{frames_taken, opening_read, FedAs, in_opening, in_frames}
use Rattle.amqp_model.proofs.Bounding.{stands-within}
use Rattle.amqp_model.proofs.HeaderBounds.{first-all, later-all, stands-headers, took-octets, HeadersAreWithin}
use Rattle.amqp_model.proofs.HeaderBounds.{TookOctets}
use Rattle.amqp_model.proofs.Numbering.{stands-numbered}

-- A sum of which the parts above a number are 0.

sum-below : (n bound : ℕ) (octets : ℕ → ℕ) → ((k : ℕ) → octets k ≤ bound)
    → sum_to n octets ≤ n * bound
sum-below zero bound octets each = omega arith
sum-below (suc n) bound octets each =
    let before = sum-below n bound octets each in
    let here = each (suc n) in
    omega (arith, before, here)

sum-within : (n most bound : ℕ) (octets : ℕ → ℕ) → ((k : ℕ) → octets k ≤ bound)
    → ((k : ℕ) → most < k → octets k ≡ 0) → sum_to n octets ≤ most * bound
sum-within zero most bound octets each none = omega arith
sum-within (suc n) most bound octets each none =
    by (sum-within n most bound octets each none) (nat_le (suc n) most) refl
  where
    by : sum_to n octets ≤ most * bound → (b : Bool) → nat_le (suc n) most ≡ b
        → sum_to (suc n) octets ≤ most * bound
    by before true e =
        let below : suc n ≤ most = leb-true (suc n) most e in
        let all = sum-below (suc n) bound octets each in
        let more : suc n * bound ≤ most * bound = mul-le-mul_right bound below in
        omega (arith, all, more)
    by before false e =
        let above : most < suc n = leb-false (suc n) most e in
        let here = none (suc n) above in
        omega (arith, before, here)

times-both : (m a b : ℕ) → m * (a + b) ≡ m * a + m * b
times-both zero a b = omega arith
times-both (suc m) a b = let before = times-both m a b in omega (arith, before)

-- What is kept of one channel's body.

body-within : (role : Role) (max_body : ℕ) (channel : Channel) → ChannelIsWithin role max_body channel
    → body_octets_on channel ≤ max_body
body-within role max_body Free w = omega arith
body-within role max_body Opening w = omega arith
body-within role max_body Closing w = omega arith
body-within role max_body (channels.Open life) w = by life.content w.content
  where
    by : (content : Gathering) → KeepsPart max_body content → length (kept content) ≤ max_body
    by Nothing k = omega arith
    by (HeaderDue method) k = omega arith
    by (BodyDue method size properties body) k = let less = k.0 in let most = k.1 in omega (arith, less, most)

sums-within : (role : Role) (config : Config role) (end : End) → EndIsWithin role config end
    → HeadersAreWithin end → NoneAbove end → (most : ℕ) → contents_kept most end ≤ most_contents config end
sums-within role config end bodies headers none most =
    let header_sum = sum-within most (channel_max end.agreed) (frame_limit end.agreed)
    (λ n. header_octets_on (end.channels n)) headers (λ k above. ap header_octets_on (none k above)) in
    let body_sum = sum-within most (channel_max end.agreed) config.max_body (λ n. body_octets_on (end.channels n))
    (λ n. body-within role config.max_body (end.channels n) (bodies n))
    (λ k above. ap body_octets_on (none k above)) in
    let both : channel_max end.agreed * (config.max_body + frame_limit end.agreed)
    ≡ channel_max end.agreed * config.max_body + channel_max end.agreed * frame_limit end.agreed =
    times-both (channel_max end.agreed) config.max_body (frame_limit end.agreed) in
    omega (arith, header_sum, body_sum, both)

-- the frames that were taken are octets
fed-octets : (role : Role) (limit : ℕ) (history : History) (fed unfinished : List ℕ) → All IsOctet fed
    → FedAs role limit history fed unfinished → TookOctets history
fed-octets role limit history fed unfinished all (in_opening missing some opening none same) =
    subst TookOctets (sym none) tt
fed-octets role limit history fed unfinished all (in_frames opened fed_is fit rest) =
    took-octets history (first-all (stream (frames_taken history)) unfinished
    (later-all (opening_read role) (stream (frames_taken history) ++ unfinished) (subst (All IsOctet) fed_is all)))

pub contents-within : ContentsAreWithin
contents-within role config endpoint history fed written back stands most =
    sums-within role config endpoint.end
    (stands-within role config endpoint.end history back stands.lawful stands.stands)
    (stands-headers role config endpoint.end history back stands.lawful stands.stands
    (fed-octets role (frame_limit endpoint.end.agreed) history fed endpoint.unfinished stands.are_octets stands.read))
    (stands-numbered role config endpoint.end history back stands.lawful stands.stands) most
