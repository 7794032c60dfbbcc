-- Counting lives and their items, one note and one telling at a time.
use Rattle.std.proofs.Common.{◌≡◌, ◌≢◌, ℕ, zero, suc, ◌+◌, ◌-◌, ◌<◌, ◌≤◌, ◌==◌, max, Bool, true, false, cond, ◌&&◌, List, [], ◌∷◌, ◌++◌, map, length, take, get_or, set, replicate, refl, sym, ap, ◌∙◌, subst, inl, inr, ◌⊎◌, arith, Vec, Global}
use Rattle.std.specs.List.{count_by, filter, flat_map, range_with_len, enumerate_from}
use Rattle.std.proofs.lemmas.Bool.Decides.{nat_tests}
use Rattle.std.proofs.lemmas.Bool.{cases_eq, ne_eqb, eq-eqb}
use Rattle.std.proofs.lemmas.List.{take_more, map_push, map-set, map-id, flat_map_more, length-take, length-map, length-set, ext_get_or, same_lists, get_or-map, get_or-set_same, get_or-set_other, length-replicate, get_or-replicate}
use Rattle.std.proofs.lemmas.List.FromFn.{length-map-range_with_len, get_or-map-range_with_len, length-enumerate_from, get_or-enumerate_from, map-range_with_len_more}
use Rattle.std.proofs.lemmas.List.Sums.{length-filter, count_by-le-length, sum_by_push}
use Rattle.amqp_model.specs.Pair.Sent.{Telling}
use Rattle.amqp_model.specs.Stream.Traces.{Noted}
use Rattle.amqp_core.specs.Traced.Notes.{note_view, telling_view}
use Rattle.amqp_core.specs.declared.notes.Note.{Note}
use Rattle.amqp_core.specs.declared.tellings.Telling.{Telling as Said}
use Rattle.amqp_link.specs.Tallies.{begins, begins_on, begun_on, last_begun, count_in, numbers_to, two_entries, tallies_in, tallies_on}
use Rattle.amqp_link.specs.TallyView.{begun_to, counts_in, counts_of, tallies_by}

-- what was seen, and one more
pub seen-more : {X Y : Type 0} (f : X → Y) (xs : List X) (i : ℕ) (d : X) → i < length xs → map f (take (i + 1) xs) ≡ map f (take i xs) ++ f (get_or xs i d) ∷ []
seen-more f xs i d h = ap (map f) (take_more xs i d h) ∙ map_push f (take i xs) (get_or xs i d)

-- One more note.

last-step : (b c : Bool) (x y r s : ℕ) → s ≡ cond c (max r y) r → cond b (max x s) s ≡ cond c (max (cond b (max x r) r) y) (cond b (max x r) r)
last-step true true x y r s e = omega arith
last-step true false x y r s e = omega arith
last-step false true x y r s e = e
last-step false false x y r s e = e

pub last-push : (seen : List Noted) (one : Noted) → last_begun (seen ++ one ∷ []) ≡ cond (begins one) (max (last_begun seen) one.channel) (last_begun seen)
last-push [] one = ap (λ n. cond (begins one) n 0) (omega arith)
last-push (note ∷ later) one = last-step (begins note) (begins one) note.channel one.channel (last_begun later) (last_begun (later ++ one ∷ [])) (last-push later one)

-- the greatest channel so far, and the next note's
pub last-more : (notes : List Note) (i last now : ℕ) (d : Note) → i < length notes → last ≡ last_begun (map note_view (take i notes))
    → now ≡ cond (begins (note_view (get_or notes i d))) (max last (get_or notes i d).channel) last
    → now ≡ last_begun (map note_view (take (i + 1) notes))
last-more notes i last now d h is next =
    let one = note_view (get_or notes i d) in
    next
    ∙ (ap (λ n. cond (begins one) (max n one.channel) n) is
    ∙ (sym (last-push (map note_view (take i notes)) one) ∙ ap last_begun (sym (seen-more note_view notes i d h))))

pub begun-push : (channel : ℕ) (seen : List Noted) (one : Noted) → begun_on channel (seen ++ one ∷ []) ≡ begun_on channel seen + cond (begins_on channel one) 1 0
begun-push channel seen one = sum_by_push (λ note. cond (begins_on channel note) 1 0) seen one

pub begun-within : (channel : ℕ) (notes : List Noted) → begun_on channel notes ≤ length notes
begun-within channel notes = count_by-le-length (begins_on channel) notes

-- One more telling.

-- it is of this life
abbrev pub is_of : (channel life : ℕ) → Telling → Bool
is_of channel life telling = (telling.channel == channel) && (telling.life == life)

count-is : (channel life : ℕ) (tellings : List Telling) → count_in channel life tellings ≡ count_by (is_of channel life) tellings
count-is channel life tellings = length-map (filter (is_of channel life) tellings) (λ telling. telling.item) ∙ length-filter (is_of channel life) tellings

pub count-push : (channel life : ℕ) (seen : List Telling) (one : Telling) → count_in channel life (seen ++ one ∷ []) ≡ count_in channel life seen + cond (is_of channel life one) 1 0
count-push channel life seen one =
    count-is channel life (seen ++ one ∷ [])
    ∙ (sum_by_push (λ telling. cond (is_of channel life telling) 1 0) seen one
    ∙ ap (λ n. n + cond (is_of channel life one) 1 0) (sym (count-is channel life seen)))

pub count-within : (channel life : ℕ) (tellings : List Telling) → count_in channel life tellings ≤ length tellings
count-within channel life tellings = subst (λ n. n ≤ length tellings) (sym (count-is channel life tellings)) (count_by-le-length (is_of channel life) tellings)

same-test : (a b : ℕ) → (a == b) ≡ (b == a)
same-test a b = grind (arith, nat_tests)

none-more : (b : Bool) (old new : ℕ) → b ≡ false → new ≡ old + cond b 1 0 → new ≡ old
none-more b old new none is = is ∙ (ap (λ c. old + cond c 1 0) none ∙ omega arith)

-- Values at the numbers from 1 on.

pub at-number : (f : ℕ → ℕ) (n k : ℕ) → k < n → get_or (map f (numbers_to n)) k 0 ≡ f (k + 1)
at-number f n k h = get_or-map-range_with_len f 1 n k (k + 1) 0 h (omega arith)

pub by-number : (f : ℕ → ℕ) (n : ℕ) (xs : List ℕ) → length xs ≡ n → ((k : ℕ) → k < n → get_or xs k 0 ≡ f (k + 1)) → xs ≡ map f (numbers_to n)
by-number f n xs len each =
    ext_get_or 0 xs (map f (numbers_to n)) (len ∙ sym (length-map-range_with_len f 1 n))
    (λ k h. let here : k < n = omega arith in each k here ∙ sym (at-number f n k here))

-- one more was counted at a number
pub counted : (f g : ℕ → ℕ) (n number : ℕ) (old new : List ℕ) → old ≡ map f (numbers_to n) → length new ≡ length old
    → ((k : ℕ) → k < length old → get_or new k 0 ≡ get_or old k 0 + cond (k + 1 == number) 1 0)
    → ((k : ℕ) → g (k + 1) ≡ f (k + 1) + cond (k + 1 == number) 1 0)
    → new ≡ map g (numbers_to n)
counted f g n number old new is len each more =
    let long : length old ≡ n = ap length is ∙ length-map-range_with_len f 1 n in
    by-number g n new (len ∙ long)
    (λ k h.
    each k (omega arith)
    ∙ (ap (λ xs. get_or xs k 0 + cond (k + 1 == number) 1 0) is
    ∙ (ap (λ m. m + cond (k + 1 == number) 1 0) (at-number f n k h) ∙ sym (more k))))

-- nothing was
pub not-counted : (f g : ℕ → ℕ) (n : ℕ) (xs : List ℕ) → xs ≡ map f (numbers_to n) → ((k : ℕ) → k < n → g (k + 1) ≡ f (k + 1)) → xs ≡ map g (numbers_to n)
not-counted f g n xs is same =
    by-number g n xs (ap length is ∙ length-map-range_with_len f 1 n)
    (λ k h. ap (λ ys. get_or ys k 0) is ∙ (at-number f n k h ∙ sym (same k h)))

-- The lives of channels.

pub begun-none : (last : ℕ) → replicate last 0 ≡ begun_to last []
begun-none last = by-number (λ channel. begun_on channel []) last (replicate last 0) (simp length-replicate) (λ k h. get_or-replicate last k 0 0 h)

-- there are no more of them than notes
pub begun-bound : (last i : ℕ) (notes : List Note) (xs : List ℕ) (k : ℕ) → xs ≡ begun_to last (map note_view (take i notes)) → k < length xs → get_or xs k 0 ≤ i
begun-bound last i notes xs k is h =
    let long : length xs ≡ last = ap length is ∙ length-map-range_with_len (λ channel. begun_on channel (map note_view (take i notes))) 1 last in
    let here : get_or xs k 0 ≡ begun_on (k + 1) (map note_view (take i notes)) =
    ap (λ ys. get_or ys k 0) is ∙ at-number (λ channel. begun_on channel (map note_view (take i notes))) last k (omega arith) in
    omega (arith, here, begun-within (k + 1) (map note_view (take i notes)), length-map (take i notes) note_view, length-take i notes)

-- a note of an open is counted at its channel
pub begun-more : (last : ℕ) (seen : List Noted) (one : Noted) (old new : List ℕ) → begins one ≡ true → old ≡ begun_to last seen → length new ≡ length old
    → ((k : ℕ) → k < length old → get_or new k 0 ≡ get_or old k 0 + cond (k + 1 == one.channel) 1 0)
    → new ≡ begun_to last (seen ++ one ∷ [])
begun-more last seen one old new opens is len each =
    counted (λ channel. begun_on channel seen) (λ channel. begun_on channel (seen ++ one ∷ [])) last one.channel old new is len each
    (λ k. begun-push (k + 1) seen one ∙ ap (λ b. begun_on (k + 1) seen + cond b 1 0) (ap (λ b. b && (one.channel == k + 1)) opens ∙ same-test one.channel (k + 1)))

-- and no other
pub begun-same : (last : ℕ) (seen : List Noted) (one : Noted) (xs : List ℕ) → begins one ≡ false → xs ≡ begun_to last seen → xs ≡ begun_to last (seen ++ one ∷ [])
begun-same last seen one xs none is =
    not-counted (λ channel. begun_on channel seen) (λ channel. begun_on channel (seen ++ one ∷ [])) last xs is
    (λ k h.
    none-more (begins_on (k + 1) one) (begun_on (k + 1) seen) (begun_on (k + 1) (seen ++ one ∷ [])) (ap (λ b. b && (one.channel == k + 1)) none)
    (begun-push (k + 1) seen one))

-- the next note
pub begun-next : (last i : ℕ) (notes : List Note) (d : Note) (old new : List ℕ) → i < length notes → begins (note_view (get_or notes i d)) ≡ true
    → old ≡ begun_to last (map note_view (take i notes)) → length new ≡ length old
    → ((k : ℕ) → k < length old → get_or new k 0 ≡ get_or old k 0 + cond (k + 1 == (get_or notes i d).channel) 1 0)
    → new ≡ begun_to last (map note_view (take (i + 1) notes))
begun-next last i notes d old new h opens is len each =
    begun-more last (map note_view (take i notes)) (note_view (get_or notes i d)) old new opens is len each
    ∙ ap (λ seen. begun_to last seen) (sym (seen-more note_view notes i d h))

pub begun-stays : (last i : ℕ) (notes : List Note) (d : Note) (xs : List ℕ) → i < length notes → begins (note_view (get_or notes i d)) ≡ false
    → xs ≡ begun_to last (map note_view (take i notes)) → xs ≡ begun_to last (map note_view (take (i + 1) notes))
begun-stays last i notes d xs h none is =
    begun-same last (map note_view (take i notes)) (note_view (get_or notes i d)) xs none is
    ∙ ap (λ seen. begun_to last seen) (sym (seen-more note_view notes i d h))

-- The items of the lives of channels.

length-counts : (begun : List ℕ) (tellings : List Telling) → length (counts_of begun tellings) ≡ length begun
length-counts begun tellings = length-map (enumerate_from 1 begun) (λ (entry : ℕ × ℕ). counts_in entry.0 entry.1 tellings) ∙ length-enumerate_from 1 begun

pub counts-at : (begun : List ℕ) (tellings : List Telling) (k : ℕ) (d : List ℕ) → k < length begun → get_or (counts_of begun tellings) k d ≡ counts_in (k + 1) (get_or begun k 0) tellings
counts-at begun tellings k d h =
    let long = length-enumerate_from 1 begun in
    get_or-map (λ (entry : ℕ × ℕ). counts_in entry.0 entry.1 tellings) (enumerate_from 1 begun) k (0, 0) d (omega arith)
    ∙ (ap (λ (entry : ℕ × ℕ). counts_in entry.0 entry.1 tellings) (get_or-enumerate_from 1 begun k (0, 0) h)
    ∙ ap (λ n. counts_in n (get_or begun k 0) tellings) (omega arith))

pub counts-none : (begun : List ℕ) → map (λ lives. replicate lives 0) begun ≡ counts_of begun []
counts-none begun =
    same_lists (map (λ lives. replicate lives 0) begun) (counts_of begun []) (length-map begun (λ lives. replicate lives 0) ∙ sym (length-counts begun []))
    (λ k d h.
    let here : k < length begun = subst (λ n. k < n) (length-map begun (λ lives. replicate lives 0)) h in
    get_or-map (λ lives. replicate lives 0) begun k 0 d here
    ∙ (none (k + 1) (get_or begun k 0) ∙ sym (counts-at begun [] k d here)))
  where
    none : (channel lives : ℕ) → replicate lives 0 ≡ counts_in channel lives []
    none channel lives = by-number (λ life. count_in channel life []) lives (replicate lives 0) (length-replicate lives 0) (λ k h. get_or-replicate lives k 0 0 h)

-- the same of a channel that it is not of
counts-other : (channel lives : ℕ) (seen : List Telling) (one : Telling) → channel ≢ one.channel → counts_in channel lives seen ≡ counts_in channel lives (seen ++ one ∷ [])
counts-other channel lives seen one other =
    not-counted (λ life. count_in channel life seen) (λ life. count_in channel life (seen ++ one ∷ [])) lives (counts_in channel lives seen) refl
    (λ k h.
    none-more (is_of channel (k + 1) one) (count_in channel (k + 1) seen) (count_in channel (k + 1) (seen ++ one ∷ []))
    (ap (λ b. b && (one.life == k + 1)) (ne_eqb one.channel channel (λ same. other (sym same))))
    (count-push channel (k + 1) seen one))

-- an item is counted in its life
counts-here : (lives : ℕ) (seen : List Telling) (one : Telling) (old new : List ℕ) → old ≡ counts_in one.channel lives seen → length new ≡ length old
    → ((k : ℕ) → k < length old → get_or new k 0 ≡ get_or old k 0 + cond (k + 1 == one.life) 1 0)
    → new ≡ counts_in one.channel lives (seen ++ one ∷ [])
counts-here lives seen one old new is len each =
    counted (λ life. count_in one.channel life seen) (λ life. count_in one.channel life (seen ++ one ∷ [])) lives one.life old new is len each
    (λ k.
    count-push one.channel (k + 1) seen one
    ∙ ap (λ b. count_in one.channel (k + 1) seen + cond b 1 0) (ap (λ b. b && (one.life == k + 1)) (eq-eqb one.channel one.channel refl) ∙ same-test one.life (k + 1)))

-- of a telling of a channel from 1 to the last, the counts of that channel change
pub counts-more : (begun : List ℕ) (seen : List Telling) (one : Telling) (i : ℕ) (d now : List ℕ) (old new : List (List ℕ)) → i + 1 ≡ one.channel → i < length begun
    → old ≡ counts_of begun seen → new ≡ set old i now → length now ≡ length (get_or old i d)
    → ((k : ℕ) → k < length (get_or old i d) → get_or now k 0 ≡ get_or (get_or old i d) k 0 + cond (k + 1 == one.life) 1 0)
    → new ≡ counts_of begun (seen ++ one ∷ [])
counts-more begun seen one i d now old new channel within is set-is len each =
    same_lists new (counts_of begun (seen ++ one ∷ [])) (all ∙ sym (length-counts begun (seen ++ one ∷ [])))
    (λ k e h.
    let here : k < length begun = omega (arith, all) in
    ap (λ xs. get_or xs k e) set-is ∙ (at k e here (cases_eq k i) ∙ sym (counts-at begun (seen ++ one ∷ []) k e here)))
  where
    long : length old ≡ length begun
    long = ap length is ∙ length-counts begun seen

    all : length new ≡ length begun
    all = ap length set-is ∙ (length-set old i now ∙ long)

    was : (k : ℕ) (e : List ℕ) → k < length begun → get_or old k e ≡ counts_in (k + 1) (get_or begun k 0) seen
    was k e h = ap (λ xs. get_or xs k e) is ∙ counts-at begun seen k e h

    changed : now ≡ counts_in (i + 1) (get_or begun i 0) (seen ++ one ∷ [])
    changed =
        let before : get_or old i d ≡ counts_in one.channel (get_or begun i 0) seen = was i d within ∙ ap (λ n. counts_in n (get_or begun i 0) seen) channel in
        counts-here (get_or begun i 0) seen one (get_or old i d) now before len each
        ∙ ap (λ n. counts_in n (get_or begun i 0) (seen ++ one ∷ [])) (sym channel)

    at : (k : ℕ) (e : List ℕ) → k < length begun → (k ≡ i) ⊎ (k ≡ i → ⊥) → get_or (set old i now) k e ≡ counts_in (k + 1) (get_or begun k 0) (seen ++ one ∷ [])
    at k e h (inl same) =
        ap (λ n. get_or (set old i now) n e) same
        ∙ (get_or-set_same old i now e (omega (arith, long))
        ∙ (changed ∙ ap (λ n. counts_in (n + 1) (get_or begun n 0) (seen ++ one ∷ [])) (sym same)))
    at k e h (inr other) =
        get_or-set_other old i k now e other
        ∙ (was k e h ∙ counts-other (k + 1) (get_or begun k 0) seen one (λ same. other (omega arith)))

-- of any other none do
pub counts-same : (begun : List ℕ) (seen : List Telling) (one : Telling) (old : List (List ℕ)) → ((k : ℕ) → k < length begun → k + 1 ≢ one.channel)
    → old ≡ counts_of begun seen → old ≡ counts_of begun (seen ++ one ∷ [])
counts-same begun seen one old other is =
    is
    ∙ same_lists (counts_of begun seen) (counts_of begun (seen ++ one ∷ [])) (length-counts begun seen ∙ sym (length-counts begun (seen ++ one ∷ [])))
    (λ k e h.
    let long = length-counts begun seen in
    let here : k < length begun = omega arith in
    counts-at begun seen k e here
    ∙ (counts-other (k + 1) (get_or begun k 0) seen one (other k here) ∙ sym (counts-at begun (seen ++ one ∷ []) k e here)))

-- The same as the code keeps them: of each channel a vector.

abbrev Counts : Type 0
Counts = Vec ℕ Global

abbrev pub lists : List Counts → List (List ℕ)
lists vectors = map (λ (counts : Counts). counts.items) vectors

long-lists : (begun : List ℕ) (tellings : List Telling) (vectors : List Counts) → lists vectors ≡ counts_of begun tellings → length vectors ≡ length begun
long-lists begun tellings vectors is = sym (length-map vectors (λ (counts : Counts). counts.items)) ∙ (ap length is ∙ length-counts begun tellings)

list-at : (begun : List ℕ) (tellings : List Telling) (vectors : List Counts) (k : ℕ) (d : Counts) → lists vectors ≡ counts_of begun tellings → k < length vectors
    → (get_or vectors k d).items ≡ counts_in (k + 1) (get_or begun k 0) tellings
list-at begun tellings vectors k d is h =
    sym (get_or-map (λ (counts : Counts). counts.items) vectors k d [] h)
    ∙ (ap (λ l. get_or l k []) is ∙ counts-at begun tellings k [] (subst (λ n. k < n) (long-lists begun tellings vectors is) h))

-- no count is above the number of tellings
pub counts-bound : (begun : List ℕ) (i : ℕ) (tellings : List Said) (vectors : List Counts) (place : ℕ) (one : Counts) (k : ℕ)
    → lists vectors ≡ counts_of begun (map telling_view (take i tellings)) → place < length vectors → one ≡ get_or vectors place one
    → k < length one.items → get_or one.items k 0 ≤ i
counts-bound begun i tellings vectors place one k is h read within =
    let seen = map telling_view (take i tellings) in
    let f : ℕ → ℕ = λ life. count_in (place + 1) life seen in
    let lives = get_or begun place 0 in
    let here : one.items ≡ map f (numbers_to lives) = ap (λ (counts : Counts). counts.items) read ∙ list-at begun seen vectors place one is h in
    let long : length one.items ≡ lives = ap length here ∙ length-map-range_with_len f 1 lives in
    let there : get_or one.items k 0 ≡ f (k + 1) = ap (λ l. get_or l k 0) here ∙ at-number f lives k (omega (arith, long)) in
    omega (arith, there, count-within (place + 1) (k + 1) seen, length-map (take i tellings) telling_view, length-take i tellings)

seen-and : (tellings : List Said) (i : ℕ) (one : Said) → i < length tellings → one ≡ get_or tellings i one
    → map telling_view (take i tellings) ++ telling_view one ∷ [] ≡ map telling_view (take (i + 1) tellings)
seen-and tellings i one h read =
    ap (λ (telling : Said). map telling_view (take i tellings) ++ telling_view telling ∷ []) read ∙ sym (seen-more telling_view tellings i one h)

-- the next telling
pub counts-next : (begun : List ℕ) (i : ℕ) (tellings : List Said) (one : Said) (old new : List Counts) (place : ℕ) (was now : Counts)
    → i < length tellings → one ≡ get_or tellings i one → place + 1 ≡ one.channel → place < length old
    → lists old ≡ counts_of begun (map telling_view (take i tellings)) → was ≡ get_or old place was → new ≡ set old place now
    → length now.items ≡ length was.items
    → ((k : ℕ) → k < length was.items → get_or now.items k 0 ≡ get_or was.items k 0 + cond (k + 1 == one.life) 1 0)
    → lists new ≡ counts_of begun (map telling_view (take (i + 1) tellings))
counts-next begun i tellings one old new place was now h read channel within is place-read set-is len each =
    let seen = map telling_view (take i tellings) in
    let this : get_or (lists old) place [] ≡ was.items = get_or-map (λ (counts : Counts). counts.items) old place was [] within ∙ ap (λ (counts : Counts). counts.items) (sym place-read) in
    counts-more begun seen (telling_view one) place [] now.items (lists old) (lists new) channel
    (subst (λ n. place < n) (long-lists begun seen old is) within) is
    (ap lists set-is ∙ map-set (λ (counts : Counts). counts.items) old place now)
    (len ∙ ap length (sym this))
    (λ k below.
    each k (subst (λ l. k < length l) this below)
    ∙ ap (λ l. get_or l k 0 + cond (k + 1 == one.life) 1 0) (sym this))
    ∙ ap (λ l. counts_of begun l) (seen-and tellings i one h read)

-- a telling of no channel of these
pub counts-stay : (begun : List ℕ) (i : ℕ) (tellings : List Said) (one : Said) (vectors : List Counts)
    → i < length tellings → one ≡ get_or tellings i one → ((k : ℕ) → k < length vectors → k + 1 ≢ one.channel)
    → lists vectors ≡ counts_of begun (map telling_view (take i tellings))
    → lists vectors ≡ counts_of begun (map telling_view (take (i + 1) tellings))
counts-stay begun i tellings one vectors h read other is =
    let seen = map telling_view (take i tellings) in
    counts-same begun seen (telling_view one) (lists vectors) (λ k below. other k (subst (λ n. k < n) (sym (long-lists begun seen vectors is)) below)) is
    ∙ ap (λ l. counts_of begun l) (seen-and tellings i one h read)

-- The entries.

numbers-more : (n : ℕ) → numbers_to (n + 1) ≡ numbers_to n ++ (n + 1) ∷ []
numbers-more n =
    sym (map-id (numbers_to (n + 1)))
    ∙ (map-range_with_len_more (λ (k : ℕ). k) 1 n (n + 1) (omega arith) ∙ ap (λ l. l ++ (n + 1) ∷ []) (map-id (numbers_to n)))

-- the entries of one more number
pub flat-more : {A : Type 0} (f : ℕ → List A) (n : ℕ) (first all more : List A) → all ≡ first ++ flat_map f (numbers_to n) → more ≡ all ++ f (n + 1)
    → more ≡ first ++ flat_map f (numbers_to (n + 1))
flat-more f n first all more is next =
    next
    ∙ (ap (λ l. l ++ f (n + 1)) is
    ∙ (flat_map_more f first (numbers_to n) (n + 1) ∙ ap (λ l. first ++ flat_map f l) (sym (numbers-more n))))

flat-agree : {A : Type 0} (f g : ℕ → List A) (a n : ℕ) → ((k : ℕ) → k < n → f (a + k) ≡ g (a + k)) → flat_map f (range_with_len a n) ≡ flat_map g (range_with_len a n)
flat-agree f g a zero same = refl
flat-agree f g a (suc n) same =
    let first : a ≡ a + 0 = omega arith in
    let here : f a ≡ g a = ap f first ∙ (same 0 (omega arith) ∙ ap g (sym first)) in
    let later = flat-agree f g (a + 1) n (λ k h. let next : a + 1 + k ≡ a + (k + 1) = omega arith in ap f next ∙ (same (k + 1) (omega arith) ∙ ap g (sym next))) in
    ap (λ l. l ++ flat_map f (range_with_len (a + 1) n)) here ∙ ap (λ l. g a ++ l) later

-- the entries by the counts of a channel are those by what was said and told
pub tallies-are : (connection channel lives : ℕ) (client_said server_told server_said client_told : List Telling) (a b c d : List ℕ)
    → a ≡ counts_in channel lives client_said → b ≡ counts_in channel lives server_told → c ≡ counts_in channel lives server_said → d ≡ counts_in channel lives client_told
    → tallies_by connection channel (length a) a b c d ≡ tallies_on connection channel lives client_said server_told server_said client_told
tallies-are connection channel lives client_said server_told server_said client_told a b c d is-a is-b is-c is-d =
    ap (λ n. tallies_by connection channel n a b c d) (ap length is-a ∙ length-map-range_with_len (λ life. count_in channel life client_said) 1 lives)
    ∙ flat-agree (λ life. two_entries connection channel life (get_or a (life - 1) 0) (get_or b (life - 1) 0) (get_or c (life - 1) 0) (get_or d (life - 1) 0))
    (λ life. tallies_in connection channel life client_said server_told server_said client_told) 1 lives
    (λ k h.
    two-agree connection channel (1 + k)
    (one-is client_said a k is-a h) (one-is server_told b k is-b h) (one-is server_said c k is-c h) (one-is client_told d k is-d h))
  where
    one-is : (tellings : List Telling) (xs : List ℕ) (k : ℕ) → xs ≡ counts_in channel lives tellings → k < lives → get_or xs (1 + k - 1) 0 ≡ count_in channel (1 + k) tellings
    one-is tellings xs k is h =
        ap (λ n. get_or xs n 0) (omega arith)
        ∙ (ap (λ l. get_or l k 0) is ∙ (at-number (λ life. count_in channel life tellings) lives k h ∙ ap (λ n. count_in channel n tellings) (omega arith)))

    two-agree : (connection channel life : ℕ) {e f g h e' f' g' h' : ℕ} → e ≡ e' → f ≡ f' → g ≡ g' → h ≡ h'
        → two_entries connection channel life e f g h ≡ two_entries connection channel life e' f' g' h'
    two-agree connection channel life p q r s = cc

-- there are counts of each of these channels
pub vectors-long : (last : ℕ) (notes : List Noted) (tellings : List Telling) (begun : List ℕ) (vectors : List Counts)
    → begun ≡ begun_to last notes → lists vectors ≡ counts_of begun tellings → length vectors ≡ last
vectors-long last notes tellings begun vectors begun-is is =
    long-lists begun tellings vectors is ∙ (ap length begun-is ∙ length-map-range_with_len (λ channel. begun_on channel notes) 1 last)

-- the counts of a channel from 1 to the last
pub channel-is : (last : ℕ) (notes : List Noted) (tellings : List Telling) (begun : List ℕ) (vectors : List Counts) (k : ℕ) (one : Counts)
    → begun ≡ begun_to last notes → lists vectors ≡ counts_of begun tellings → k < last → one ≡ get_or vectors k one
    → one.items ≡ counts_in (k + 1) (begun_on (k + 1) notes) tellings
channel-is last notes tellings begun vectors k one begun-is is h read =
    ap (λ (counts : Counts). counts.items) read
    ∙ (list-at begun tellings vectors k one is (subst (λ n. k < n) (sym (vectors-long last notes tellings begun vectors begun-is is)) h)
    ∙ ap (λ n. counts_in (k + 1) n tellings) (ap (λ l. get_or l k 0) begun-is ∙ at-number (λ channel. begun_on channel notes) last k h))

-- counts of the same lives are as many
pub same-length : (channel lives : ℕ) (one other : List Telling) (a b : List ℕ) → a ≡ counts_in channel lives one → b ≡ counts_in channel lives other → length b ≡ length a
same-length channel lives one other a b is-a is-b =
    ap length is-b
    ∙ (length-map-range_with_len (λ life. count_in channel life other) 1 lives
    ∙ sym (ap length is-a ∙ length-map-range_with_len (λ life. count_in channel life one) 1 lives))
