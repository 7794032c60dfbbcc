-- What is told of a piece by an end that gathers, each in its place.
use Rattle.std.proofs.Common.{◌≡◌, ◌≢◌, ℕ, ◌+◌, ◌<◌, ◌≤◌, zero, suc, add-one, List, [], ◌∷◌, ◌++◌, length, take, drop, slice_set, inl, inr, Bool, true, false, ◌&&◌, nat_eq, cond, Option, Some, None, Ok, Err, refl, sym, subst, ap, ◌∙◌, arith}
use native.Mathlib.Numerals.{unary_clauses}
use Rattle.std.specs.Prelude.{slice_get}
use Rattle.std.proofs.lemmas.List.{append-nil, drop-set-lt, length-set, length-take, take_more_set}
use Rattle.amqp_model.specs.End.Events as events
use Rattle.amqp_model.specs.Lent.Alike.{LentEvent, WithoutContent, Begins, Heads, Part, Other}
use Rattle.amqp_core.specs.Stream.Lends.{Lends}
use Rattle.amqp_core.specs.Stream.StepView.{came_lent}
use Rattle.amqp_core.specs.Stream.View.{given_in}
use Rattle.amqp_core.specs.declared.roles.Role.{Ghosts}
use Rattle.amqp_core.specs.declared.step.Step.{Step}
use Rattle.amqp_core.specs.declared.stream.StreamEnd.{StreamEnd}
use Rattle.amqp_handle.specs.Gathered.{joined, told_at, IsThere, StaysBefore, TellsMaybe, Told, Nothing, AsLent, Whole}
use Rattle.amqp_handle.specs.declared.gathering.Gathered.{Gathered}
use Rattle.amqp_handle.specs.declared.gathering.Gathered.TheVariants as code
use Rattle.amqp_handle.specs.declared.gathering.Gathering.{Gathering}
use Rattle.amqp_handle.specs.declared.gathering.Parts.{Parts}
use Rattle.amqp_calls.specs.GatheredBatches.{is_told, is_whole, told_in, BatchStops, over, apart, fails, CompletesAll, CompletesAt, CompletesEach, Fed, GathersAt, GathersBatch, GathersEach, GathersFrames, GathersLast, GathersNext, HalfShows, HalfShowsEach, HalfShowsFed, Placed, Refuses, Shows, ShowsAt, ShowsEach, ShowsIf}
use Rattle.amqp_calls.specs.LentEvents.{TellsEvent}
use Rattle.amqp_calls.specs.declared.ends.batching.EventPlace.{EventPlace}
use Rattle.amqp_calls.specs.declared.ends.events.SeenEvent.{SeenEvent}
use Rattle.amqp_calls.specs.declared.ends.feeding.FedEnd.{FedEnd}
use Rattle.amqp_calls.proofs.SplitFrames.{later}

false_is_true : false ≡ true → ⊥
false_is_true is = cc

-- ---- feeds

-- one feed more
pub gathers_one_more : {R H : Type 0} {G : Ghosts R H} (feds : List Fed) (all : ℕ) (old : StreamEnd R H G) (before : Gathering) (octets : List ℕ)
    (left : StreamEnd R H G) (kept : Gathering) (rest : List ℕ) (fed : Fed) (new : StreamEnd R H G) (after : Gathering) (more : List ℕ)
    → GathersEach all old before octets feds left kept rest → GathersAt all left kept rest fed new after more
    → GathersEach all old before octets (feds ++ fed ∷ []) new after more
gathers_one_more [] all old before octets left kept rest fed new after more (left_is, kept_is, rest_is) at =
    let first = subst (λ end. GathersAt all end kept rest fed new after more) left_is at in
    let second = subst (λ gathering. GathersAt all old gathering rest fed new after more) kept_is first in
    (new, after, more, subst (λ r. GathersAt all old before r fed new after more) rest_is second, (refl, refl, refl))
gathers_one_more (first ∷ feds) all old before octets left kept rest fed new after more (next, between, further, at_first, others) at =
    (next, between, further, at_first, gathers_one_more feds all next between further left kept rest fed new after more others at)

told_next : (told : Bool) (first : Fed) (xs ys zs : List Fed) → zs ≡ xs ++ ys → cond told (first ∷ zs) zs ≡ cond told (first ∷ xs) xs ++ ys
told_next true first xs ys zs is = ap (λ (l : List Fed). first ∷ l) is
told_next false first xs ys zs is = is

-- what is told of it comes last
pub told_in_more : (feds : List Fed) (fed : Fed) → told_in (feds ++ fed ∷ []) ≡ told_in feds ++ told_in (fed ∷ [])
told_in_more [] fed = refl
told_in_more (first ∷ feds) fed =
    told_next (is_told first.told) first (told_in feds) (told_in (fed ∷ [])) (told_in (feds ++ fed ∷ [])) (told_in_more feds fed)

pub one_more_is_one : (feds : List Fed) (fed : Fed) → (feds ++ fed ∷ []) ≢ []
one_more_is_one [] fed = λ is. absurd cc
one_more_is_one (first ∷ feds) fed = λ is. absurd cc

-- ---- places

kept_false : (x y : Bool) → y ≡ false → (x && y) ≡ false
kept_false true y is = is
kept_false false y is = refl

-- an event that is lent is no content that is whole
not_whole : (event : LentEvent) (out : SeenEvent) → TellsEvent event out → is_whole out ≡ false
not_whole (WithoutContent channel method) out tells = kept_false (nat_eq out.kind 3) out.holds tells.3
not_whole (Begins channel method) out tells = rw tells.0 refl
not_whole (Heads channel size properties whole) out tells = rw tells.0 refl
not_whole (Part channel octets whole) out tells = rw tells.0 refl
not_whole (Other (events.Negotiated agreed)) out tells = rw tells.0 refl
not_whole (Other (events.Opened channel)) out tells = rw tells.0 refl
not_whole (Other (events.Told channel message)) out tells = absurd tells
not_whole (Other (events.Flow channel active)) out tells = rw tells.0 refl
not_whole (Other (events.FlowOk channel active)) out tells = rw tells.0 refl
not_whole (Other (events.ChannelClosed channel reason)) out tells = rw tells.0 refl
not_whole (Other (events.ConnectionClosed reason)) out tells = rw tells.0 refl
not_whole (Other (events.Discarded channel)) out tells = rw tells.0 refl
not_whole (Other (events.Blocked reason)) out tells = rw tells.0 refl
not_whole (Other events.Unblocked) out tells = rw tells refl
not_whole (Other events.Quiet) out tells = rw tells refl
not_whole (Other events.AnswerAsked) out tells = rw tells refl
not_whole (Other events.LoginAsked) out tells = rw tells refl
not_whole (Other events.OpenAsked) out tells = rw tells refl

-- what stands at a place that stays is shown as before
half_of : (told : Told) (there now : Option Parts) (out : SeenEvent) → ((parts : Parts) → there ≡ Some parts → now ≡ Some parts)
    → HalfShows told there out → HalfShows told now out
half_of Nothing there now out stays shows = absurd shows
half_of (AsLent event) there now out stays shows = shows
half_of (Whole channel method header body) None now out stays shows = absurd shows
half_of (Whole channel method header body) (Some parts) now out stays shows =
    subst (λ there. HalfShows (Whole channel method header body) there out) (sym (stays parts refl)) shows

pub half_stays : (feds : List Fed) (places : List EventPlace) (old new : List Parts) (count at : ℕ) → StaysBefore count old new
    → at + length places ≤ count → HalfShowsEach old at feds places → HalfShowsEach new at feds places
half_stays [] [] old new count at stays less shows = tt
half_stays [] (place ∷ places) old new count at stays less shows = absurd shows
half_stays (fed ∷ feds) [] old new count at stays less shows = absurd shows
half_stays (fed ∷ feds) (place ∷ places) old new count at stays less ((first, taken), others) = (
  (half_of fed.told (slice_get old at) (slice_get new at) place.seen (λ parts is. stays at parts (omega (arith, less)) is) first, taken),
  half_stays feds places old new count (at + 1) stays (omega (arith, less)) others,
)

from_zero : {m n : ℕ} → m ≡ n → n ≡ 0 + m
from_zero is = omega (arith, is)

sum_is : (at n : ℕ) → at + suc n ≡ (at + 1) + n
sum_is at n = omega arith

-- one place more
half_one_more : (feds : List Fed) (places : List EventPlace) (parts : List Parts) (at : ℕ) (fed : Fed) (place : EventPlace)
    → HalfShowsEach parts at feds places → HalfShowsFed fed (slice_get parts (at + length places)) place
    → HalfShowsEach parts at (feds ++ fed ∷ []) (places ++ place ∷ [])
half_one_more [] [] parts at fed place shows last =
    (subst (λ n. HalfShowsFed fed (slice_get parts n) place) (omega arith) last, tt)
half_one_more [] (first ∷ places) parts at fed place shows last = absurd shows
half_one_more (before ∷ feds) [] parts at fed place shows last = absurd shows
half_one_more (before ∷ feds) (first ∷ places) parts at fed place (shown, others) last = (
  shown,
  half_one_more feds places parts (at + 1) fed place others
      (subst (λ n. HalfShowsFed fed (slice_get parts n) place) (sum_is at (length places)) last),
)

-- what is told of an event, shown in its place
half_told : (told : Gathered) (there : Option Parts) (taken : ℕ) (old : EventPlace) (shown : Bool) (new : EventPlace) → IsThere told there → ShowsAt told taken old shown new
    → (fed : Fed) → fed ≡ record { told = told_at told there; taken = taken } → shown ≡ true → HalfShowsFed fed there new
half_told code.Nothing there taken old shown new content shows fed is truly = absurd cc
half_told (code.Event event) there taken old shown new content shows fed is truly =
    subst (λ f. HalfShowsFed f there new) (sym is) (shows.1, shows.2)
half_told (code.Whole channel last) None taken old shown new content shows fed is truly = absurd content
half_told (code.Whole channel last) (Some parts) taken old shown new content shows fed is truly =
    subst (λ f. HalfShowsFed f (Some parts) new) (sym is)
    ((shows.1, shows.2, shows.3, refl, refl, ap (λ octets. joined parts.body.items octets) shows.4), shows.5)

-- something is told just where it is shown
told_is : (told : Gathered) (there : Option Parts) (taken : ℕ) (old : EventPlace) (shown : Bool) (new : EventPlace) → ShowsAt told taken old shown new
    → is_told (told_at told there) ≡ shown
told_is code.Nothing there taken old shown new shows = sym shows.0
told_is (code.Event event) there taken old shown new shows = sym shows.0
told_is (code.Whole channel last) there taken old shown new shows = sym shows.0

-- nothing changes where nothing is shown
same_is : (told : Gathered) (taken : ℕ) (old : EventPlace) (shown : Bool) (new : EventPlace) → ShowsAt told taken old shown new → shown ≡ false → new ≡ old
same_is code.Nothing taken old shown new shows is = shows.1
same_is (code.Event event) taken old shown new shows is = absurd cc
same_is (code.Whole channel last) taken old shown new shows is = absurd cc

set_same : {A : Type 0} (xs : List A) (place : ℕ) (x : A) → slice_get xs place ≡ Some x → slice_set xs place x ≡ xs
set_same [] place x is = absurd cc
set_same (first ∷ xs) zero x is = cc
set_same (first ∷ xs) (suc place) x is = ap (λ (l : List _). first ∷ l) (set_same xs place x is)

length_taken : {A : Type 0} (xs : List A) (count : ℕ) → count < length xs → length (take count xs) ≡ count
length_taken [] count less = absurd (omega arith)
length_taken (first ∷ xs) zero less = refl
length_taken (first ∷ xs) (suc count) less = ap suc (length_taken xs count (omega (arith, less)))

-- the places with what is told of one feed more, of which something is told or isn't
step_shown : (shown : Bool) (parts : List Parts) (feds : List Fed) (fed : Fed) (places now old : List EventPlace) (there place : EventPlace) (count next : ℕ)
    → is_told fed.told ≡ shown → (shown ≡ true → HalfShowsFed fed (slice_get parts count) place) → (shown ≡ false → place ≡ there)
    → slice_get places count ≡ Some there → now ≡ slice_set places count place → next ≡ cond shown (count + 1) count
    → count < length places → drop count places ≡ drop count old → HalfShowsEach parts 0 (told_in feds) (take count places)
    → HalfShowsEach parts 0 (told_in (feds ++ fed ∷ [])) (take next now) × (drop next now ≡ drop next old) × (next ≤ length places)
step_shown true parts feds fed places now old there place count next is half same found now_is next_is room others shows =
    let told : told_in (feds ++ fed ∷ []) ≡ told_in feds ++ fed ∷ [] =
    told_in_more feds fed ∙ ap (λ (b : Bool). told_in feds ++ cond b (fed ∷ []) []) is in
    let taken : take next now ≡ take count places ++ place ∷ [] =
    ap (λ n. take n now) next_is ∙ ap (λ l. take (count + 1) l) now_is ∙ take_more_set places count place room in
    let last : HalfShowsFed fed (slice_get parts (0 + length (take count places))) place =
    subst (λ n. HalfShowsFed fed (slice_get parts n) place) (from_zero (length_taken places count room)) (half refl) in
    let each = half_one_more (told_in feds) (take count places) parts 0 fed place shows last in (
      rw (told, taken) each,
      rw (next_is, now_is) (drop-set-lt (count + 1) places count place (omega arith) ∙ later count places old others),
      omega (arith, next_is, room),
    )
step_shown false parts feds fed places now old there place count next is half same found now_is next_is room others shows =
    let told : told_in (feds ++ fed ∷ []) ≡ told_in feds =
    told_in_more feds fed ∙ ap (λ (b : Bool). told_in feds ++ cond b (fed ∷ []) []) is ∙ append-nil (told_in feds) in
    let stays : now ≡ places =
    now_is ∙ ap (λ p. slice_set places count p) (same refl) ∙ set_same places count there found in (
      rw (told, next_is, stays) shows,
      rw (next_is, stays) others,
      omega (arith, next_is, room),
    )

-- a feed of which this is told
abbrev pub fed_by : Gathered → List Parts → (place taken : ℕ) → Fed
fed_by told parts place taken = record { told = told_at told (slice_get parts place); taken = taken }

-- one feed more, with what is told of it in its place
pub one_placed : {R H : Type 0} {G : Ghosts R H} (all : ℕ) (old : StreamEnd R H G) (before : Gathering) (piece : List ℕ) (places : List EventPlace)
    (feds : List Fed) (left : StreamEnd R H G) (kept : Gathering) (rest : List ℕ) (count : ℕ) (now : List EventPlace) (event : Option LentEvent) (octets taken : ℕ)
    (new : StreamEnd R H G) (after : Gathering) (next : ℕ) (filled : List EventPlace)
    → Placed all old before piece places feds left kept rest kept.places.items count now → count < length places
    → Lends left rest (Ok (record { octets = octets; event = event })) new → (gathers : GathersNext kept event taken now count after filled next)
    → StaysBefore count kept.places.items after.places.items → taken + length (drop octets rest) ≡ all
    → Placed all old before piece places (feds ++ fed_by gathers.told after.places.items count taken ∷ []) new after (drop octets rest) after.places.items next filled
one_placed all old before piece places feds left kept rest count now event octets taken new after next filled placed room lends gathers stays taken_is =
    let fed : Fed = fed_by gathers.told after.places.items count taken in
    let there = slice_get after.places.items count in
    let inside : count < length now = omega (arith, placed.as_many, room) in
    let shows = half_stays (told_in feds) (take count now) kept.places.items after.places.items count 0 stays
    (omega (arith, length_taken now count inside)) placed.shows in
    let at : GathersAt all left kept rest fed new after (drop octets rest) =
    record { event = event; taken = octets; lends = lends; tells = gathers.tells; rest_is = refl; taken_is = taken_is } in
    let step = step_shown gathers.is_shown after.places.items feds fed now filled places gathers.there gathers.place count next
    (told_is gathers.told there taken gathers.there gathers.is_shown gathers.place gathers.shows)
    (half_told gathers.told there taken gathers.there gathers.is_shown gathers.place gathers.content gathers.shows fed refl)
    (same_is gathers.told taken gathers.there gathers.is_shown gathers.place gathers.shows)
    gathers.found gathers.now_is gathers.count_is inside placed.others shows in
    record {
      within = omega (arith, step.2, placed.as_many);
      as_many = ap length gathers.now_is ∙ length-set now count gathers.place ∙ placed.as_many;
      others = step.1;
      each = gathers_one_more feds all old before piece left kept rest fed new after (drop octets rest) placed.each at;
      shows = step.0;
    }

pub placed_with : {R H : Type 0} {G : Ghosts R H} {all : ℕ} {old : StreamEnd R H G} {before : Gathering} {piece : List ℕ} {places : List EventPlace}
    {feds : List Fed} {left : StreamEnd R H G} {kept : Gathering} {rest more : List ℕ} {parts : List Parts} {count : ℕ} {now : List EventPlace}
    → rest ≡ more → Placed all old before piece places feds left kept rest parts count now
    → Placed all old before piece places feds left kept more parts count now
placed_with {all = all} {old = old} {before = before} {piece = piece} {places = places} {feds = feds} {left = left} {kept = kept} {parts = parts} {count = count} {now = now} is placed =
    subst (λ r. Placed all old before piece places feds left kept r parts count now) is placed

-- ---- once all is fed

-- a content is shown whole
shown_of : (told : Told) (parts : Parts) (whole : Bool) (before after : SeenEvent) → is_whole before ≡ whole → ShowsIf whole parts before after
    → HalfShows told (Some parts) before → Shows told after
shown_of Nothing parts whole before after is completes shows = absurd shows
shown_of (AsLent event) parts true before after is completes shows = absurd (false_is_true (sym (not_whole event before shows) ∙ is))
shown_of (AsLent event) parts false before after is completes shows = subst (λ out. TellsEvent event out) (sym completes) shows
shown_of (Whole channel method header body) parts true before after is completes shows = (
  completes.kind ∙ shows.0,
  completes.holds ∙ shows.1,
  completes.channel ∙ shows.2,
  completes.method ∙ shows.3,
  completes.header ∙ shows.4,
  completes.body ∙ shows.5,
)
shown_of (Whole channel method header body) parts false before after is completes shows =
    absurd (false_is_true (sym is ∙ rw (shows.0, shows.1) refl))

shown_at : (told : Told) (there : Option Parts) (taken : ℕ) (before after : EventPlace) → CompletesAt there before after
    → HalfShows told there before.seen × (before.taken ≡ taken) → Shows told after.seen × (after.taken ≡ taken)
shown_at Nothing there taken before after completes (shows, taken_is) = absurd shows
shown_at (AsLent event) None taken before after completes (shows, taken_is) = subst (λ place. TellsEvent event place.seen × (place.taken ≡ taken)) (sym completes) (shows, taken_is)
shown_at (Whole channel method header body) None taken before after completes (shows, taken_is) = absurd shows
shown_at told (Some parts) taken before after (completes, same) (shows, taken_is) =
    (shown_of told parts (is_whole before.seen) before.seen after.seen refl completes shows, same ∙ taken_is)

pub shown_each : (feds : List Fed) (before after : List EventPlace) (parts : List Parts) (at : ℕ) → CompletesAll parts at before after
    → HalfShowsEach parts at feds before → ShowsEach feds after
shown_each [] [] [] parts at completes shows = tt
shown_each [] [] (new ∷ after) parts at completes shows = absurd completes
shown_each [] (old ∷ before) after parts at completes shows = absurd shows
shown_each (fed ∷ feds) [] after parts at completes shows = absurd shows
shown_each (fed ∷ feds) (old ∷ before) [] parts at completes shows = absurd completes
shown_each (fed ∷ feds) (old ∷ before) (new ∷ after) parts at (first, completes) (shown, shows) =
    (shown_at fed.told (slice_get parts at) fed.taken old new first shown, shown_each feds before after parts (at + 1) completes shows)

-- ---- one place after the other

get_dropped : {A : Type 0} (xs : List A) (at : ℕ) → slice_get xs at ≡ slice_get (drop at xs) 0
get_dropped [] zero = refl
get_dropped [] (suc at) = refl
get_dropped (first ∷ xs) zero = refl
get_dropped (first ∷ xs) (suc at) = get_dropped xs at

take_more : {A : Type 0} (xs : List A) (at : ℕ) (x : A) → take (at + 1) xs ≡ take at xs ++ x ∷ [] → take (suc at) xs ≡ take at xs ++ x ∷ []
take_more xs at x is = rw (← add-one) is

take_next : {A : Type 0} (xs : List A) (at : ℕ) (x : A) → slice_get xs at ≡ Some x → take (at + 1) xs ≡ take at xs ++ x ∷ []
take_next [] at x is = absurd cc
take_next (first ∷ xs) zero x is = cc
take_next (first ∷ xs) (suc at) x is = simp unary_clauses (ap (λ (l : List _). first ∷ l) (take_more xs at x (take_next xs at x is)))

completes_one_more : (old new : List EventPlace) (parts : List Parts) (at : ℕ) (before after : EventPlace) → CompletesAll parts at old new
    → CompletesAt (slice_get parts (at + length old)) before after → CompletesAll parts at (old ++ before ∷ []) (new ++ after ∷ [])
completes_one_more [] [] parts at before after completes last =
    (subst (λ n. CompletesAt (slice_get parts n) before after) (omega arith) last, tt)
completes_one_more [] (second ∷ new) parts at before after completes last = absurd completes
completes_one_more (first ∷ old) [] parts at before after completes last = absurd completes
completes_one_more (first ∷ old) (second ∷ new) parts at before after (completes, others) last = (
  completes,
  completes_one_more old new parts (at + 1) before after others
      (subst (λ n. CompletesAt (slice_get parts n) before after) (sum_is at (length old)) last),
)

-- one more is shown whole
pub one_completed : (parts : List Parts) (places now : List EventPlace) (at : ℕ) (before after : EventPlace) → at < length now → length now ≡ length places
    → slice_get now at ≡ Some before → drop at now ≡ drop at places → CompletesAll parts 0 (take at places) (take at now)
    → CompletesAt (slice_get parts at) before after
    → CompletesAll parts 0 (take (at + 1) places) (take (at + 1) (slice_set now at after)) × (drop (at + 1) (slice_set now at after) ≡ drop (at + 1) places)
one_completed parts places now at before after room same found others each completes =
    let there : slice_get places at ≡ Some before =
    get_dropped places at ∙ ap (λ l. slice_get l 0) (sym others) ∙ sym (get_dropped now at) ∙ found in
    let last : CompletesAt (slice_get parts (0 + length (take at places))) before after =
    subst (λ n. CompletesAt (slice_get parts n) before after) (from_zero (length_taken places at (omega (arith, room, same)))) completes in (
      rw (take_next places at before there, take_more_set now at after room) (completes_one_more (take at places) (take at now) parts 0 before after each last),
      drop-set-lt (at + 1) now at after (omega arith) ∙ later at now places others,
    )

-- ---- the batch

-- the same, where memory is refused for what came after
pub placed_after : {R H : Type 0} {G : Ghosts R H} (all : ℕ) (old : StreamEnd R H G) (before : Gathering) (piece : List ℕ) (places : List EventPlace)
    (feds : List Fed) (left : StreamEnd R H G) (kept : Gathering) (rest : List ℕ) (count : ℕ) (now : List EventPlace) (after : Gathering) (next : ℕ)
    (filled : List EventPlace) → Placed all old before piece places feds left kept rest kept.places.items count now
    → StaysBefore count kept.places.items after.places.items → Refuses now count after filled next
    → Placed all old before piece places feds left kept rest after.places.items next filled
placed_after all old before piece places feds left kept rest count now after next filled placed stays refuses =
    let shows = half_stays (told_in feds) (take count now) kept.places.items after.places.items count 0 stays
    (omega (arith, length-take count now)) placed.shows in
    rw (refuses.count_is, refuses.same)
    (record { within = placed.within; as_many = placed.as_many; others = placed.others; each = placed.each; shows = shows })

batch_of : {R H : Type 0} {G : Ghosts R H} (old : StreamEnd R H G) (before : Gathering) (piece : List ℕ) (places : List EventPlace) (feds last : List Fed)
    (left : StreamEnd R H G) (kept : Gathering) (rest more : List ℕ) (parts : List Parts) (status count : ℕ) (fed : FedEnd) (filled final : List EventPlace)
    (end new : StreamEnd R H G) (gathering after : Gathering) → before.is_lost ≡ false
    → GathersEach (length piece) old before piece feds left kept rest
    → Placed (length piece) old before piece places (feds ++ last) end gathering more parts count filled → CompletesEach parts count filled final
    → BatchStops old before (length piece) left kept rest feds last count (length places) status fed new after
    → GathersBatch old before piece places status fed count final new after
batch_of old before piece places feds last left kept rest more parts status count fed filled final end new gathering after well each placed completes stops =
    record {
      left = left;
      kept = kept;
      rest = rest;
      feds = feds;
      last = last;
      each = each;
      stops = stops;
      after_loss = λ is. absurd (false_is_true (sym well ∙ is));
      shows = shown_each (told_in (feds ++ last)) (take count filled) (take count final) parts 0 completes.each placed.shows;
      as_many = completes.as_many ∙ placed.as_many;
      others = completes.others ∙ placed.others;
    }

-- nothing came after the frames in the piece
pub batch_over : {R H : Type 0} {G : Ghosts R H} (old : StreamEnd R H G) (before : Gathering) (piece : List ℕ) (places : List EventPlace) (fed : FedEnd)
    (count : ℕ) (now final : List EventPlace) (new : StreamEnd R H G) (after : Gathering) → before.is_lost ≡ false → GathersFrames old before piece places (Ok None) fed count now new after
    → CompletesEach after.places.items count now final → GathersBatch old before piece places 0 fed count final new after
batch_over old before piece places fed count now final new after well frames completes =
    let (why, taken_is, new_is, after_is) = frames.stops in
    let placed = subst (λ f. Placed (length piece) old before piece places f frames.left frames.kept frames.rest after.places.items count now) (sym (append-nil frames.feds)) frames.placed in
    batch_of old before piece places frames.feds [] frames.left frames.kept frames.rest frames.rest after.places.items 0 count fed now final frames.left new frames.kept after
    well frames.placed.each placed completes (over refl refl why taken_is new_is after_is)

-- something went wrong
pub batch_fails : {R H : Type 0} {G : Ghosts R H} (old : StreamEnd R H G) (before : Gathering) (piece : List ℕ) (places : List EventPlace) (status : ℕ) (fed : FedEnd)
    (count : ℕ) (now final : List EventPlace) (new : StreamEnd R H G) (after : Gathering) → before.is_lost ≡ false → GathersFrames old before piece places (Err status) fed count now new after
    → CompletesEach after.places.items count now final → GathersBatch old before piece places status fed count final new after
batch_fails old before piece places status fed count now final new after well frames completes =
    let placed = subst (λ f. Placed (length piece) old before piece places f frames.left frames.kept frames.rest after.places.items count now) (sym (append-nil frames.feds)) frames.placed in
    batch_of old before piece places frames.feds [] frames.left frames.kept frames.rest frames.rest after.places.items status count fed now final frames.left new frames.kept after
    well frames.placed.each placed completes (fails refl frames.stops)

-- a frame that doesn't lie in the piece
pub batch_apart : {R H : Type 0} {G : Ghosts R H} (old : StreamEnd R H G) (before : Gathering) (piece : List ℕ) (places : List EventPlace) (step : Step) (fed : FedEnd)
    (count : ℕ) (now : List EventPlace) (new : StreamEnd R H G) (gathering after : Gathering) (status next : ℕ) (filled final : List EventPlace)
    → before.is_lost ≡ false → GathersFrames old before piece places (Ok (Some step)) fed count now new gathering
    → GathersLast gathering (came_lent step.came (given_in new)) fed.taken now count status after filled next
    → StaysBefore count gathering.places.items after.places.items → CompletesEach after.places.items next filled final
    → GathersBatch old before piece places status fed next final new after
batch_apart old before piece places step fed count now new gathering after status next filled final well frames (inl (status_is, gathers)) stays completes =
    let (room, lends, none, taken_is, gathering_is) = frames.stops in
    let left = frames.left in
    let rest = frames.rest in
    let feds = frames.feds in
    let placed_before = subst (λ k. Placed (length piece) old before piece places feds left k rest gathering.places.items count now) (sym gathering_is) frames.placed in
    let placed = one_placed (length piece) old before piece places feds left gathering rest count now (came_lent step.came (given_in new)) step.octets fed.taken new after next filled
    placed_before room lends gathers stays taken_is in
    let tells = subst (λ k. TellsMaybe (came_lent step.came (given_in new)) k (told_at gathers.told (slice_get after.places.items count)) after) gathering_is gathers.tells in
    batch_of old before piece places feds (fed_by gathers.told after.places.items count fed.taken ∷ []) left frames.kept rest (drop step.octets rest) after.places.items status next fed filled
    final new new after after well frames.placed.each placed completes
    (apart status_is step none lends (told_at gathers.told (slice_get after.places.items count)) refl tells taken_is)
batch_apart old before piece places step fed count now new gathering after status next filled final well frames (inr (status_is, refuses)) stays completes =
    let (room, lends, none, taken_is, gathering_is) = frames.stops in
    let left = frames.left in
    let rest = frames.rest in
    let feds = frames.feds in
    let placed_before = subst (λ k. Placed (length piece) old before piece places feds left k rest gathering.places.items count now) (sym gathering_is) frames.placed in
    let placed = placed_after (length piece) old before piece places feds left gathering rest count now after next filled placed_before stays refuses in
    let placed_more = subst (λ f. Placed (length piece) old before piece places f left gathering rest after.places.items next filled) (sym (append-nil feds)) placed in
    batch_of old before piece places feds [] left frames.kept rest rest after.places.items status next fed filled final left new gathering after
    well frames.placed.each placed_more completes (fails refl (inr (record { octets = step.octets; event = came_lent step.came (given_in new) }, lends, status_is, refuses.lost, taken_is)))
