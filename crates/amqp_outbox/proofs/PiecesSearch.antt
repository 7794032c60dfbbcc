-- Queues in the order of their channels: searches among them.
use Rattle.std.proofs.Common.{◌≡◌, ℕ, zero, suc, ◌+◌, ◌-◌, ◌<◌, ◌≤◌, ◌⊎◌, inl, inr, List, [], ◌∷◌, length, take, drop, All, get_or, ap, ◌∙◌, subst, arith, length-drop}
use Rattle.std.specs.Prelude.{Option, None, Some, MatchOption}
use Rattle.std.proofs.lemmas.Bool.{cases_lt}
use Rattle.std.proofs.lemmas.List.{get_or-take, get_or-drop, length-take-le, get_or_default}
use Rattle.std.proofs.lemmas.List.Elements.{All-nil}
use Rattle.amqp_outbox.specs.PiecesQueues.{Ascends, IsUpTo, IsAfter, IsEmpty, AllEmpty, IsFirstWaiting, IsNoLater, IsTurnOf, HasQueue}
use Rattle.amqp_outbox.specs.declared.queues.Queue.{Queue}

pub ascends-at : (queues : List Queue) (i j : ℕ) (d : Queue) → Ascends queues → i < j → j < length queues → (get_or queues i d).channel < (get_or queues j d).channel
ascends-at [] i j d a h k = absurd (omega arith)
ascends-at (q ∷ later) zero zero d a h k = absurd (omega arith)
ascends-at (q ∷ later) zero (suc j) d a h k = a.0 j d (omega arith)
ascends-at (q ∷ later) (suc i) zero d a h k = absurd (omega arith)
ascends-at (q ∷ later) (suc i) (suc j) d a h k = ascends-at later i j d a.1 (omega arith) (omega arith)

pub no-lower : (queues : List Queue) (i j : ℕ) (d : Queue) → Ascends queues → i ≤ j → j < length queues → (get_or queues i d).channel ≤ (get_or queues j d).channel
no-lower queues i j d a h k = by (cases_lt i j)
  where
    by : (i < j) ⊎ (j ≤ i) → (get_or queues i d).channel ≤ (get_or queues j d).channel
    by (inl l) = let z = ascends-at queues i j d a l k in omega arith
    by (inr l) = let e : i ≡ j = omega arith in subst (λ (n : ℕ). (get_or queues i d).channel ≤ (get_or queues n d).channel) e (omega arith)

-- a count of the queues up to a channel, on its way
pub record Counting (channel low high : ℕ) (queues : List Queue) : Type 0 where
  pub order : low ≤ high
  pub within : high ≤ length queues
  pub up_to : All (IsUpTo channel) (take low queues)
  pub after : All (IsAfter channel) (drop high queues)

pub count-begun : (channel : ℕ) (queues : List Queue) → Counting channel 0 (length queues) queues
count-begun channel queues = record {
  order = omega arith;
  within = omega arith;
  up_to = All-nil (IsUpTo channel);
  after = λ k d h. let l = length-drop (length queues) queues in absurd (omega arith);
}

pub count-up : (channel low high middle : ℕ) (queues : List Queue) (d : Queue) → Ascends queues → Counting channel low high queues → low ≤ middle → middle < high → (get_or queues middle d).channel ≤ channel
    → Counting channel (middle + 1) high queues
count-up channel low high middle queues d a c l h e =
    let w = c.within in
    record {
      order = omega arith;
      within = c.within;
      up_to = λ k f in_part.
          let n = length-take-le (middle + 1) queues (omega arith) in
          let at : get_or (take (middle + 1) queues) k f ≡ get_or queues k d = get_or-take (middle + 1) queues k f (omega arith) ∙ get_or_default queues k f d (omega arith) in
          let m = no-lower queues k middle d a (omega arith) (omega arith) in
          let same = ap (λ (q : Queue). q.channel) at in
          omega arith;
      after = c.after;
    }

pub count-down : (channel low high middle : ℕ) (queues : List Queue) (d : Queue) → Ascends queues → Counting channel low high queues → low ≤ middle → middle < high → channel < (get_or queues middle d).channel
    → Counting channel low middle queues
count-down channel low high middle queues d a c l h e =
    let w = c.within in
    record {
      order = omega arith;
      within = omega arith;
      up_to = c.up_to;
      after = λ k f in_part.
          let n = length-drop middle queues in
          let at : get_or (drop middle queues) k f ≡ get_or queues (middle + k) d = get_or-drop middle queues k f ∙ get_or_default queues (middle + k) f d (omega arith) in
          let m = no-lower queues middle (middle + k) d a (omega arith) (omega arith) in
          let same = ap (λ (q : Queue). q.channel) at in
          omega arith;
    }

pub counted : (channel low high : ℕ) (queues : List Queue) → Counting channel low high queues → high ≤ low → All (IsAfter channel) (drop low queues)
counted channel low high queues c e = let o = c.order in let same : high ≡ low = omega arith in subst (λ (n : ℕ). All (IsAfter channel) (drop n queues)) same c.after

-- the queues before the place of a count, and from there on
pub up-to-at : (channel n k : ℕ) (queues : List Queue) (d : Queue) → n ≤ length queues → All (IsUpTo channel) (take n queues) → k < n → (get_or queues k d).channel ≤ channel
up-to-at channel n k queues d w a h =
    let l = length-take-le n queues w in
    let e = ap (λ (q : Queue). q.channel) (get_or-take n queues k d h) in
    let m = a k d (omega arith) in
    omega arith

pub after-at : (channel n k : ℕ) (queues : List Queue) (d : Queue) → All (IsAfter channel) (drop n queues) → n ≤ k → k < length queues → channel < (get_or queues k d).channel
after-at channel n k queues d a h w =
    let l = length-drop n queues in
    let e = ap (λ (q : Queue). q.channel) (get_or-drop n queues (k - n) d) in
    let same : n + (k - n) ≡ k = omega arith in
    let m = a (k - n) d (omega arith) in
    subst (λ (i : ℕ). channel < (get_or queues i d).channel) same (omega arith)

-- the turn of the first queue after LAST of which a frame waits
pub turn-later : (last n at : ℕ) (queues : List Queue) → Ascends queues → n ≤ length queues → All (IsUpTo last) (take n queues) → All (IsAfter last) (drop n queues)
    → IsFirstWaiting n (length queues) at queues → IsTurnOf last at queues
turn-later last n at queues a w up after f =
    record { within = f.within; waits = f.waits; first = λ d. λ k e h. compare d k e h (cases_lt k n) (cases_lt k at) }
  where
    above : (d : Queue) → last < (get_or queues at d).channel
    above d = after-at last n at queues d after f.before f.within

    compare : (d : Queue) (k : ℕ) (e : Queue) → k < length queues → (k < n) ⊎ (n ≤ k) → (k < at) ⊎ (at ≤ k) → IsNoLater last (get_or queues at d).channel (get_or queues k e)
    compare d k e h (inl l) m = let x = up-to-at last n k queues e w up l in let y = above d in inr (inl (y, λ z. absurd (omega arith)))
    compare d k e h (inr l) (inl m) = inl (f.empty k e l m)
    compare d k e h (inr l) (inr m) =
        let y = above d in
        let x = no-lower queues at k e a m h in
        let s = ap (λ (q : Queue). q.channel) (get_or_default queues at d e f.within) in
        inr (inl (y, λ z. omega arith))

-- or else of the first of all
pub turn-earlier : (last n at : ℕ) (queues : List Queue) → Ascends queues → n ≤ length queues → All (IsUpTo last) (take n queues)
    → AllEmpty n (length queues) queues → IsFirstWaiting 0 n at queues → IsTurnOf last at queues
turn-earlier last n at queues a w up none f =
    let in_all = f.within in
    record { within = omega arith; waits = f.waits; first = λ d. λ k e h. compare d k e h (cases_lt k n) (cases_lt k at) }
  where
    compare : (d : Queue) (k : ℕ) (e : Queue) → k < length queues → (k < n) ⊎ (n ≤ k) → (k < at) ⊎ (at ≤ k) → IsNoLater last (get_or queues at d).channel (get_or queues k e)
    compare d k e h l (inl m) = inl (f.empty k e (omega arith) m)
    compare d k e h (inr l) (inr m) = inl (none k e l h)
    compare d k e h (inl l) (inr m) =
        let y = up-to-at last n k queues e w up l in
        let x = no-lower queues at k e a m h in
        let in_all = f.within in
        let s = ap (λ (q : Queue). q.channel) (get_or_default queues at d e (omega arith)) in
        inr (inr (omega arith, omega arith))

pub none-waits : (n : ℕ) (queues : List Queue) → AllEmpty n (length queues) queues → AllEmpty 0 n queues → All IsEmpty queues
none-waits n queues a b k d h = by (cases_lt k n)
  where
    by : (k < n) ⊎ (n ≤ k) → IsEmpty (get_or queues k d)
    by (inl l) = b k d (omega arith) l
    by (inr l) = a k d l h

pub turn-last : (last n : ℕ) (queues : List Queue) (result : Option ℕ) → Ascends queues → n ≤ length queues → All (IsUpTo last) (take n queues)
    → AllEmpty n (length queues) queues → MatchOption result (AllEmpty 0 n queues) (λ at. IsFirstWaiting 0 n at queues)
    → MatchOption result (All IsEmpty queues) (λ at. IsTurnOf last at queues)
turn-last last n queues None a w up none empty = none-waits n queues none empty
turn-last last n queues (Some at) a w up none first = turn-earlier last n at queues a w up none first

-- where the queue of a channel stands
pub has-at : (channel : ℕ) (queues : List Queue) → 0 < channel → HasQueue channel queues → (k : ℕ) × (k < length queues) × ((d : Queue) → (get_or queues k d).channel ≡ channel)
has-at channel [] above e = absurd (omega arith)
has-at channel (q ∷ later) above (inl e) = (0, omega arith, λ d. e)
has-at channel (q ∷ later) above (inr h) = let r = has-at channel later above h in let k = r.0 in let l = r.1 in (suc k, omega arith, r.2)

pub found-at : (channel n : ℕ) (queues : List Queue) (d : Queue) → 0 < channel → HasQueue channel queues → Ascends queues → n ≤ length queues → All (IsUpTo channel) (take n queues) → All (IsAfter channel) (drop n queues)
    → (1 ≤ n) × ((get_or queues (n - 1) d).channel ≡ channel)
found-at channel n queues d above has a w up after =
    let r = has-at channel queues above has in
    let e = r.2 d in
    let in_all = r.1 in
    let below : r.0 < n = by r.0 in_all e (cases_lt r.0 n) in
    let x = no-lower queues r.0 (n - 1) d a (omega arith) (omega arith) in
    let y = up-to-at channel n (n - 1) queues d w up (omega arith) in
    (omega arith, omega arith)
  where
    by : (k : ℕ) → k < length queues → (get_or queues k d).channel ≡ channel → (k < n) ⊎ (n ≤ k) → k < n
    by k h e (inl l) = l
    by k h e (inr l) = let z = after-at channel n k queues d after l h in absurd (omega arith)

-- the same of queues that are lent
pub found-in : (channel n : ℕ) (queues lent : List Queue) → lent ≡ queues → 0 < channel → HasQueue channel queues → Ascends queues → n ≤ length lent → All (IsUpTo channel) (take n lent) → All (IsAfter channel) (drop n lent)
    → (1 ≤ n) × ((n - 1 < length queues) × ((d : Queue) → (get_or queues (n - 1) d).channel ≡ channel))
found-in channel n queues lent e above has a w up after =
    let w2 : n ≤ length queues = subst (λ (l : List Queue). n ≤ length l) e w in
    let up2 : All (IsUpTo channel) (take n queues) = subst (λ (l : List Queue). All (IsUpTo channel) (take n l)) e up in
    let after2 : All (IsAfter channel) (drop n queues) = subst (λ (l : List Queue). All (IsAfter channel) (drop n l)) e after in
    let r = has-at channel queues above has in
    let some : 1 ≤ n = by r.0 r.1 r.2 (cases_lt 0 n) after2 in
    (some, (omega arith, λ d. (found-at channel n queues d above has a w2 up2 after2).1))
  where
    by : (k : ℕ) → k < length queues → ((d : Queue) → (get_or queues k d).channel ≡ channel) → (0 < n) ⊎ (n ≤ 0) → All (IsAfter channel) (drop n queues) → 1 ≤ n
    by k h e (inl l) after = l
    by k h e (inr l) after = absurd (first queues h e after)
      where
        first : (queues : List Queue) → k < length queues → ((d : Queue) → (get_or queues k d).channel ≡ channel) → All (IsAfter channel) (drop n queues) → ⊥
        first [] h e after = absurd (omega arith)
        first (q ∷ later) h e after = let x = after-at channel n k (q ∷ later) q after (omega arith) h in let y = e q in omega arith
