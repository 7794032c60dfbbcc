-- Weaving a row from its beginning, while it moves down.
use Rattle.std.proofs.Common.{◌≡◌, ℕ, suc, ◌+◌, ◌-◌, ◌<◌, ◌≤◌, List, [], ◌∷◌, ◌++◌, length, map, take, drop, get_or, refl, sym, ap, ap₂, ◌∙◌, subst, arith, append_assoc, length-append, length-drop, take-append-drop}
use Rattle.std.proofs.Math.Seq.{drop-cons}
use Rattle.std.proofs.lemmas.List.{take_at, drop_at, length-map, get_or-map, length-take-le, take-take, drop_all, take-map, drop-map, drop-take, drop-drop}
use Rattle.amqp_frame.specs.Frame.{Frame, octets}
use Rattle.amqp_frame.specs.Splitting.{stream}
use Rattle.amqp_outbox.specs.OutboxSlots.{slot_of, slot_length, slots_length, slots_in, frame_in}
use Rattle.amqp_outbox.specs.OutboxWeaving.{woven, Follow, places_of, waiting_of, slots_of}
use Rattle.amqp_outbox.specs.declared.slots.Waiting.{Waiting}
use Rattle.amqp_outbox.specs.declared.weaving.Coming.{Coming}
use Rattle.amqp_outbox.proofs.OutboxRows.{stream-append, length-octets, slots_length-row}
use Rattle.amqp_outbox.proofs.OutboxSlots.{slots_length-part}
use Rattle.amqp_outbox.proofs.OutboxWaiting.{count-slots, slots-before, slots-after}
use Rattle.amqp_outbox.proofs.Woven.{from_on, follow_within}

-- a part of a list is pasted over an earlier place: what stands up to its end then, and what stands later
pub record Pasted (n later : ℕ) (xs part new : List ℕ) (to : ℕ) : Type 0 where
  pub count : length new ≡ length xs
  pub up_to : take n new ≡ take to xs ++ part
  pub from : drop later new ≡ drop later xs

pub pasted : (xs part new : List ℕ) (to n later : ℕ) → n ≡ to + length part → n ≤ later → n ≤ length xs → new ≡ (take to xs ++ part) ++ drop n xs → Pasted n later xs part new to
pasted xs part new to n later e h w new_is =
    let size = length-take-le to xs (omega arith) in
    let size2 = length-append (take to xs) part in
    let size3 = length-drop n xs in
    let size4 = ap length new_is ∙ length-append (take to xs ++ part) (drop n xs) in
    let rest : drop n new ≡ drop n xs = ap (drop n) new_is ∙ drop_at (take to xs ++ part) (drop n xs) n (omega arith) in
    let on : n + (later - n) ≡ later = omega arith in
    record {
      count = omega arith;
      up_to = ap (take n) new_is ∙ take_at (take to xs ++ part) (drop n xs) n (omega arith);
      from =
          ap (λ m. drop m new) (sym on)
          ∙ (sym (drop-drop (later - n) n new)
          ∙ (ap (drop (later - n)) rest ∙ (drop-drop (later - n) n xs ∙ ap (λ m. drop m xs) on)));
    }

-- what moved down, and what was copied after it
pub record Settled (xs new : List ℕ) (from end room : ℕ) (part : List ℕ) : Type 0 where
  pub count_is : length new ≡ length xs
  pub settled : take (end - room + length part) new ≡ take (from - room) xs ++ (drop from (take end xs) ++ part)
  pub rest : drop end new ≡ drop end xs

pub settled-is : (xs one s part copied new : List ℕ) (from end room len : ℕ) → from ≤ end → room ≤ from → length part ≤ room → end ≤ length xs
    → one ≡ (take (from - room) xs ++ take (end - from) (drop from xs)) ++ drop ((from - room) + (end - from)) xs
    → s ≡ one → len ≡ length one → copied ≡ part
    → new ≡ take len ((take (end - room) s ++ (copied ++ drop (end - room + length part - (end - room)) (drop (end - room) s))) ++ drop (length (take (end - room) s ++ (copied ++ drop (end - room + length part - (end - room)) (drop (end - room) s)))) one)
    → Settled xs new from end room part
settled-is xs one s part copied new from end room len order fits few there one_is s_is len_is copied_is new_is =
    let run = drop from (take end xs) in
    let end_is : from + (end - from) ≡ end = omega arith in
    let run_is : take (end - from) (drop from xs) ≡ run = sym (drop-take from (end - from) xs) ∙ ap (λ n. drop from (take n xs)) end_is in
    let to_is : (from - room) + (end - from) ≡ end - room = omega arith in
    let to = end - room in
    let size = length-take-le end xs there in
    let size2 = length-drop from (take end xs) in
    let b = pasted xs run one (from - room) to end (omega arith) (omega arith) (omega arith) (one_is ∙ ap₂ (λ ys n. (take (from - room) xs ++ ys) ++ drop n xs) run_is to_is) in
    let many = b.count in
    let gap_is : to + length part - to ≡ length part = omega arith in
    let rest_is : drop (to + length part - to) (drop to s) ≡ drop (to + length part) one =
    ap₂ (λ n ys. drop n (drop to ys)) gap_is s_is ∙ drop-drop (length part) to one in
    let inner = take to s ++ (copied ++ drop (to + length part - to) (drop to s)) in
    let inner_is : inner ≡ (take to one ++ part) ++ drop (to + length part) one =
    ap₂ (λ ys zs. take to ys ++ zs) s_is (ap₂ (λ ys zs. ys ++ zs) copied_is rest_is) ∙ sym (append_assoc (take to one) part (drop (to + length part) one)) in
    let size3 = length-take-le to one (omega arith) in
    let size4 = length-append (take to one) part in
    let size5 = length-append (take to one ++ part) (drop (to + length part) one) in
    let size6 = length-drop (to + length part) one in
    let size7 = ap length inner_is in
    let whole : take len (inner ++ drop (length inner) one) ≡ inner = take_at inner (drop (length inner) one) len (omega arith) in
    let c = pasted one part new to (to + length part) end refl (omega arith) (omega arith) (new_is ∙ (whole ∙ inner_is)) in
    record {
      count_is = c.count ∙ b.count;
      settled = c.up_to ∙ (ap (λ ys. ys ++ part) b.up_to ∙ append_assoc (take (from - room) xs) run part);
      rest = c.from ∙ b.from;
    }

-- what is known while a row moves down from its beginning, and frames are put among its own
pub record Settling (before after : List ℕ) (places : List ℕ) (puts rows : List Frame) (i place from : ℕ) (left now : List ℕ) : Type 0 where
  pub left_is : left ≡ stream (drop i puts)
  pub rest_is : drop from now ≡ stream (drop place rows) ++ after
  pub done_is : before ++ stream (woven 0 places puts rows) ≡ take (from - length left) now ++ stream (woven place (drop i places) (drop i puts) rows)

pub settling-more : (before after places : List ℕ) (puts rows : List Frame) (i place from p end count : ℕ) (f : Frame) (left part later now new : List ℕ)
    → drop i places ≡ p ∷ drop (i + 1) places → drop i puts ≡ f ∷ drop (i + 1) puts
    → place ≤ p → p ≤ length rows → end ≡ from + length (stream (drop place (take p rows))) → count ≡ length (octets f) → length left ≤ from
    → part ≡ take count left → later ≡ drop count left
    → take (end - length left + length part) new ≡ take (from - length left) now ++ (drop from (take end now) ++ part) → drop end new ≡ drop end now
    → Settling before after places puts rows i place from left now
    → Settling before after places puts rows (i + 1) p end later new
settling-more before after places puts rows i place from p end count f left part later now new places_are puts_are order within end_is count_is fits part_is later_is settled rest s =
    let run = drop place (take p rows) in
    let others = drop (i + 1) puts in
    let rows_are : stream (drop place rows) ≡ stream run ++ stream (drop p rows) = ap stream (from_on rows place p order within) ∙ stream-append run (drop p rows) in
    let left_parts : left ≡ octets f ++ stream others = s.left_is ∙ ap stream puts_are in
    let size = ap length left_parts ∙ length-append (octets f) (stream others) in
    let part_f : part ≡ octets f = part_is ∙ (ap (take count) left_parts ∙ take_at (octets f) (stream others) count (sym count_is)) in
    let later_f : later ≡ stream others = later_is ∙ (ap (drop count) left_parts ∙ drop_at (octets f) (stream others) count (sym count_is)) in
    let size2 = ap length part_f in
    let size3 = ap length later_f in
    let whole : drop from now ≡ stream run ++ (stream (drop p rows) ++ after) = s.rest_is ∙ (ap (λ ys. ys ++ after) rows_are ∙ append_assoc (stream run) (stream (drop p rows)) after) in
    let end_from : from + (end - from) ≡ end = omega arith in
    let moved : drop from (take end now) ≡ stream run =
    ap (λ n. drop from (take n now)) (sym end_from)
    ∙ (drop-take from (end - from) now ∙ (ap (take (end - from)) whole ∙ take_at (stream run) (stream (drop p rows) ++ after) (end - from) (omega arith))) in
    let to_is : end - length later ≡ end - length left + length part = omega arith in
    let rest_woven = woven p (drop (i + 1) places) others rows in
    let woven_is : woven place (drop i places) (drop i puts) rows ≡ run ++ f ∷ rest_woven = ap₂ (λ ps fs. woven place ps fs rows) places_are puts_are in
    let parts : stream (woven place (drop i places) (drop i puts) rows) ≡ (stream run ++ octets f) ++ stream rest_woven =
    ap stream woven_is ∙ (stream-append run (f ∷ rest_woven) ∙ sym (append_assoc (stream run) (octets f) (stream rest_woven))) in
    let now_is : take (end - length later) new ≡ take (from - length left) now ++ (stream run ++ octets f) = ap (λ n. take n new) to_is ∙ (settled ∙ ap₂ (λ ys zs. take (from - length left) now ++ (ys ++ zs)) moved part_f) in
    record {
      left_is = later_f;
      rest_is = rest ∙ (ap (λ n. drop n now) (sym end_from) ∙ (sym (drop-drop (end - from) from now) ∙ (ap (drop (end - from)) whole ∙ drop_at (stream run) (stream (drop p rows) ++ after) (end - from) (omega arith))));
      done_is =
          s.done_is
          ∙ (ap (λ ys. take (from - length left) now ++ ys) parts
          ∙ (sym (append_assoc (take (from - length left) now) (stream run ++ octets f) (stream rest_woven)) ∙ ap (λ ys. ys ++ stream rest_woven) (sym now_is)));
    }

pub settling-done : (before after places : List ℕ) (puts rows : List Frame) (i place from : ℕ) (left now : List ℕ) → length places ≤ i → length puts ≤ i
    → Settling before after places puts rows i place from left now → now ≡ before ++ (stream (woven 0 places puts rows) ++ after)
settling-done before after places puts rows i place from left now all all2 s =
    let none : drop i places ≡ [] = drop_all i places all in
    let none2 : drop i puts ≡ [] = drop_all i puts all2 in
    let rest : woven place (drop i places) (drop i puts) rows ≡ drop place rows = ap₂ (λ ps fs. woven place ps fs rows) none none2 in
    let left_is : length left ≡ 0 = ap length (s.left_is ∙ ap stream none2) in
    let from_is : from - length left ≡ from = omega arith in
    let done : before ++ stream (woven 0 places puts rows) ≡ take from now ++ stream (drop place rows) = s.done_is ∙ ap₂ (λ n fs. take n now ++ stream fs) from_is rest in
    sym (take-append-drop from now)
    ∙ (ap (λ ys. take from now ++ ys) s.rest_is
    ∙ (sym (append_assoc (take from now) (stream (drop place rows)) after)
    ∙ (ap (λ ys. ys ++ after) (sym done) ∙ append_assoc before (stream (woven 0 places puts rows)) after)))

-- how far a row has moved down: so many frames are put, it moved up to a place, and so many octets are left to put
pub record Down (begun : ℕ) (row : List Waiting) (coming : List Coming) (i place from room : ℕ) : Type 0 where
  pub within : place ≤ length row
  pub follow : Follow place (length row) (drop i (places_of coming))
  pub from_is : from ≡ begun + slots_length (take place (slots_in row))
  pub room_is : room ≡ slots_length (drop i (slots_of coming))

-- one frame more is put
pub record DownNext (begun : ℕ) (row : List Waiting) (coming : List Coming) (i place from room run count : ℕ) (next : Coming) : Type 0 where
  pub order : place ≤ next.place
  pub within : next.place ≤ length row
  pub places_are : drop i (places_of coming) ≡ next.place ∷ drop (i + 1) (places_of coming)
  pub fits : count ≤ room
  pub few : room ≤ slots_length (slots_of coming)
  pub begun_at : begun ≤ from
  pub end_is : from + run ≡ begun + slots_length (take next.place (slots_in row))
  pub end_within : from + run ≤ begun + slots_length (slots_in row)
  pub after : Down begun row coming (i + 1) next.place (from + run) (room - count)

run-on : (row : List Waiting) (place p : ℕ) → place ≤ p → slots_length (take place (slots_in row)) + slots_length (slots_in (take (p - place) (drop place row))) ≡ slots_length (take p (slots_in row))
run-on row place p h =
    let slots = slots_in row in
    let on : place + (p - place) ≡ p = omega arith in
    let lent : slots_in (take (p - place) (drop place row)) ≡ drop place (take p slots) =
    slots-before (p - place) (drop place row)
    ∙ (ap (take (p - place)) (slots-after place row) ∙ (sym (drop-take place (p - place) slots) ∙ ap (λ n. drop place (take n slots)) on)) in
    let a = ap slots_length lent in
    let b = slots_length-part (take p slots) place in
    let c = ap slots_length (take-take place p slots h) in
    omega arith

pub down-next : (begun : ℕ) (row : List Waiting) (coming : List Coming) (i place from room run count : ℕ) (d : Coming) → i < length coming
    → run ≡ slots_length (slots_in (take ((get_or coming i d).place - place) (drop place row))) → count ≡ slot_length (get_or coming i d).waiting.slot
    → Down begun row coming i place from room → DownNext begun row coming i place from room run count (get_or coming i d)
down-next begun row coming i place from room run count d h run_is count_is o =
    let next = get_or coming i d in
    let places = places_of coming in
    let many = length-map coming (λ (c : Coming). c.place) in
    let many2 = length-map coming (λ (c : Coming). c.waiting) in
    let many3 = count-slots (waiting_of coming) in
    let suc_is : suc i ≡ i + 1 = omega arith in
    let place_is : get_or places i next.place ≡ next.place = get_or-map (λ (c : Coming). c.place) coming i d next.place h in
    let places_are : drop i places ≡ next.place ∷ drop (i + 1) places = drop-cons places i next.place (omega arith) ∙ ap₂ (λ p n. p ∷ drop n places) place_is suc_is in
    let follow : Follow place (length row) (next.place ∷ drop (i + 1) places) = subst (λ (ps : List ℕ). Follow place (length row) ps) places_are o.follow in
    let order : place ≤ next.place = follow.0 in
    let later : Follow next.place (length row) (drop (i + 1) places) = follow.1 in
    let within = follow_within next.place (length row) (drop (i + 1) places) later in
    let slot_is : get_or (slots_of coming) i d.waiting.slot ≡ next.waiting.slot = get_or-map (λ (w : Waiting). w.slot) (waiting_of coming) i d.waiting d.waiting.slot (omega arith) ∙ ap (λ (w : Waiting). w.slot) (get_or-map (λ (c : Coming). c.waiting) coming i d d.waiting h) in
    let slots_are : drop i (slots_of coming) ≡ next.waiting.slot ∷ drop (i + 1) (slots_of coming) = drop-cons (slots_of coming) i d.waiting.slot (omega arith) ∙ ap₂ (λ s n. s ∷ drop n (slots_of coming)) slot_is suc_is in
    let size = ap slots_length slots_are in
    let part = slots_length-part (slots_of coming) i in
    let run2 = run-on row place next.place order in
    let part2 = slots_length-part (slots_in row) next.place in
    let a = o.from_is in
    let b = o.room_is in
    record {
      order = order;
      within = within;
      places_are = places_are;
      fits = omega arith;
      few = omega arith;
      begun_at = omega arith;
      end_is = omega arith;
      end_within = omega arith;
      after = record { within = within; follow = later; from_is = omega arith; room_is = omega arith };
    }

-- before any frame is put
pub down-begun : (begun total : ℕ) (row : List Waiting) (coming : List Coming) → Follow 0 (length row) (places_of coming) → total ≡ slots_length (slots_of coming) → Down begun row coming 0 0 begun total
down-begun begun total row coming follow e = record { within = omega arith; follow = follow; from_is = omega arith; room_is = e }

pub settling-begun : (begun : ℕ) (coming : List Coming) (frames now after : List ℕ) (rows puts : List Frame) → frames ≡ stream puts → drop begun now ≡ stream rows ++ after
    → Settling (take (begun - length frames) now) after (places_of coming) puts rows 0 0 begun frames now
settling-begun begun coming frames now after rows puts frames_are now_is = record { left_is = frames_are; rest_is = now_is; done_is = refl }

-- what the octets are once a frame more is put
pub octets-settled : (begun : ℕ) (row : List Waiting) (coming : List Coming) (i place from run count : ℕ) (d : Coming) (before after left part later now new : List ℕ) (rows puts : List Frame) → i < length coming
    → run ≡ slots_length (slots_in (take ((get_or coming i d).place - place) (drop place row))) → count ≡ slot_length (get_or coming i d).waiting.slot
    → Down begun row coming i place from (length left) → slots_in row ≡ map slot_of rows → slots_of coming ≡ map slot_of puts → length left ≤ from
    → part ≡ take count left → later ≡ drop count left
    → take (from + run - length left + length part) new ≡ take (from - length left) now ++ (drop from (take (from + run) now) ++ part) → drop (from + run) new ≡ drop (from + run) now
    → Settling before after (places_of coming) puts rows i place from left now
    → Settling before after (places_of coming) puts rows (i + 1) (get_or coming i d).place (from + run) later new
octets-settled begun row coming i place from run count d before after left part later now new rows puts h run_is count_is o rows_are puts_are fits part_is later_is settled rest s =
    let next = get_or coming i d in
    let n = down-next begun row coming i place from (length left) run count d h run_is count_is o in
    let many = length-map coming (λ (c : Coming). c.waiting) in
    let many2 = count-slots (waiting_of coming) in
    let many3 = ap length puts_are ∙ length-map puts slot_of in
    let rows_many : length row ≡ length rows = sym (count-slots row) ∙ (ap length rows_are ∙ length-map rows slot_of) in
    let within : i < length puts = omega arith in
    let none = frame_in next.waiting.slot [] in
    let f = get_or puts i none in
    let suc_is : suc i ≡ i + 1 = omega arith in
    let dropped : drop i puts ≡ f ∷ drop (i + 1) puts = drop-cons puts i none within ∙ ap (λ m. f ∷ drop m puts) suc_is in
    let slot_is : next.waiting.slot ≡ slot_of f =
    sym (get_or-map (λ (x : Waiting). x.slot) (waiting_of coming) i d.waiting d.waiting.slot (omega arith) ∙ ap (λ (x : Waiting). x.slot) (get_or-map (λ (c : Coming). c.waiting) coming i d d.waiting h))
    ∙ (ap (λ xs. get_or xs i d.waiting.slot) puts_are ∙ get_or-map slot_of puts i none d.waiting.slot within) in
    let count2 : count ≡ length (octets f) = count_is ∙ (ap slot_length slot_is ∙ sym (length-octets f)) in
    let lengths : slots_length (drop place (take next.place (slots_in row))) ≡ length (stream (drop place (take next.place rows))) =
    ap (λ xs. slots_length (drop place (take next.place xs))) rows_are
    ∙ (ap (λ xs. slots_length (drop place xs)) (take-map slot_of next.place rows) ∙ (ap slots_length (drop-map slot_of place (take next.place rows)) ∙ slots_length-row (drop place (take next.place rows)))) in
    let run2 = run-on row place next.place n.order in
    let part2 = slots_length-part (take next.place (slots_in row)) place in
    let part3 = ap slots_length (take-take place next.place (slots_in row) n.order) in
    let end_is : from + run ≡ from + length (stream (drop place (take next.place rows))) = omega arith in
    let within2 = n.within in
    settling-more before after (places_of coming) puts rows i place from next.place (from + run) count f left part later now new n.places_are dropped n.order (omega arith) end_is count2 fits part_is later_is settled rest s

-- once all are put
pub octets-down : (row : List Waiting) (coming : List Coming) (before after left now : List ℕ) (rows puts : List Frame) (i place from : ℕ) → i ≡ length coming → slots_of coming ≡ map slot_of puts
    → Settling before after (places_of coming) puts rows i place from left now → now ≡ before ++ (stream (woven 0 (places_of coming) puts rows) ++ after)
octets-down row coming before after left now rows puts i place from e puts_are s =
    let many = length-map coming (λ (c : Coming). c.waiting) in
    let many2 = count-slots (waiting_of coming) in
    let many3 = ap length puts_are ∙ length-map puts slot_of in
    let many4 = length-map coming (λ (c : Coming). c.place) in
    settling-done before after (places_of coming) puts rows i place from left now (omega arith) (omega arith) s
