-- The places of frames that are put into a row, found from the first to the last.
use Rattle.std.proofs.Common.{◌≡◌, ℕ, zero, suc, ◌+◌, ◌-◌, ◌<◌, ◌≤◌, List, [], ◌∷◌, ◌++◌, length, map, take, drop, All, get_or, refl, sym, ap, ap₂, ◌∙◌, subst, arith, append_assoc, length-append, length-drop}
use Rattle.std.proofs.lemmas.List.{drop_at, take_at, length-map, length-take-le, map-append, take-map, drop-map, drop-take, drop-drop, take_more, get_or_at}
use Rattle.std.proofs.lemmas.List.Elements.{All-nil, All-append, All-take, All-drop, All-cons}
use Rattle.amqp_frame.specs.Frame.{Frame}
use Rattle.amqp_model.specs.Output.Arrangement.{FramesOn, HasChannel, IsChannel, IsArranged, last_after_all, placed, placed_all}
use Rattle.amqp_model.specs.Laws.ArrangementLaws.{PlaceIsAfterItsQueue, PutArranges}
use Rattle.amqp_outbox.specs.OutboxSlots.{slot_of, slots_in, slot_last, slots_last, IsPlace}
use Rattle.amqp_outbox.specs.OutboxLaps.{laps_in, laps_of, laps_last, lap_after, slot_lap, IsLap}
use Rattle.amqp_outbox.specs.OutboxWeaving.{woven, Follow, places_of, waiting_of, slots_of, AreWoven, ArePlaced}
use Rattle.amqp_outbox.specs.declared.slots.Slot.{Slot}
use Rattle.amqp_outbox.specs.declared.slots.Waiting.{Waiting}
use Rattle.amqp_outbox.specs.declared.weaving.Coming.{Coming}
use Rattle.amqp_outbox.proofs.OutboxLaps.{laps-append, laps-at, laps-from, laps_last-append, laps-most, length-laps}
use Rattle.amqp_outbox.proofs.OutboxPlaces.{last-of, in_queue}
use Rattle.amqp_outbox.proofs.OutboxHanding.{has-frame}
use Rattle.amqp_outbox.proofs.OutboxRows.{slots_last-row}
use Rattle.amqp_outbox.proofs.OutboxWaiting.{count-slots, count-laps, slot-at, slots-rest, laps-rest}
use Rattle.amqp_outbox.proofs.OutboxWrites.{arranged-from}
use Rattle.amqp_outbox.proofs.Woven.{follow_push, follow_upper, woven_push, woven_until}

-- a frame with this slot, and with a lap and a place
abbrev pub coming_at : (slot : Slot) → (its place : ℕ) → Coming
coming_at slot its place = record { waiting = record { slot = slot; lap = its }; place = place }

-- the laps of the first frames of a row
laps-until : (k lap last : ℕ) (slots : List Slot) → take k (laps_of lap last slots) ≡ laps_of lap last (take k slots)
laps-until zero lap last slots = refl
laps-until (suc k) lap last [] = refl
laps-until (suc k) lap last (s ∷ slots) = ap (λ ls. slot_lap lap last s ∷ ls) (laps-until k (lap_after lap last s) (slot_last last s) slots)

placed_all-more : (last : ℕ) (frames : List Frame) (f : Frame) (row : List Frame) → placed_all last (frames ++ f ∷ []) row ≡ placed last f (placed_all last frames row)
placed_all-more last [] f row = refl
placed_all-more last (g ∷ frames) f row = placed_all-more last frames f (placed last g row)

-- the laps of a frame, and of those after it, once it has a lap at a place
pub record TookLap (now then its before : ℕ) (slot : Slot) (slots : List Slot) : Type 0 where
  pub up_to : laps_of now then (take before slots ++ slot ∷ []) ≡ take before (laps_of now then slots) ++ its ∷ []
  pub lap_is : laps_last now then (take before slots ++ slot ∷ []) ≡ its
  pub last_is : slots_last then (take before slots ++ slot ∷ []) ≡ slot.channel
  pub after : laps_of its slot.channel (drop before slots) ≡ drop before (laps_of now then slots)
  pub most : its ≤ now + suc before

took-lap : (now then its before : ℕ) (slot : Slot) (slots : List Slot) → 0 < slot.channel → before ≤ length slots
    → laps_of now then (take before slots ++ slot ∷ drop before slots) ≡ take before (laps_of now then slots) ++ its ∷ drop before (laps_of now then slots)
    → TookLap now then its before slot slots
took-lap now then its before slot slots above few e =
    let laps = laps_of now then slots in
    let all = take before slots ++ slot ∷ drop before slots in
    let size = length-take-le before slots few in
    let size2 = length-take-le before laps (let n = length-laps now then slots in omega arith) in
    let parted : all ≡ (take before slots ++ slot ∷ []) ++ drop before slots = sym (append_assoc (take before slots) (slot ∷ []) (drop before slots)) in
    let parted2 : take before laps ++ its ∷ drop before laps ≡ (take before laps ++ its ∷ []) ++ drop before laps = sym (append_assoc (take before laps) (its ∷ []) (drop before laps)) in
    let one = length-append (take before slots) (slot ∷ []) in
    let two = length-append (take before laps) (its ∷ []) in
    let three = length-append (take before slots) (slot ∷ drop before slots) in
    let taken : take (suc before) all ≡ take before slots ++ slot ∷ [] = ap (take (suc before)) parted ∙ take_at (take before slots ++ slot ∷ []) (drop before slots) (suc before) (omega arith) in
    let dropped : drop (suc before) all ≡ drop before slots = ap (drop (suc before)) parted ∙ drop_at (take before slots ++ slot ∷ []) (drop before slots) (suc before) (omega arith) in
    let here : get_or all before slot ≡ slot = get_or_at (take before slots) slot (drop before slots) slot before size in
    let at = laps-at before now then all slot (omega arith) (subst (λ (s : Slot). 0 < s.channel) (sym here) above) in
    let lap_here : get_or (laps_of now then all) before 0 ≡ its = ap (λ ls. get_or ls before 0) e ∙ get_or_at (take before laps) its (drop before laps) 0 before size2 in
    let lap_is : laps_last now then (take before slots ++ slot ∷ []) ≡ its = ap (laps_last now then) (sym taken) ∙ (at.1 ∙ lap_here) in
    let last_is : slots_last then (take before slots ++ slot ∷ []) ≡ slot.channel = ap (slots_last then) (sym taken) ∙ (at.0 ∙ ap (λ (s : Slot). s.channel) here) in
    let most = laps-most before now then all in
    record {
      up_to =
          ap (laps_of now then) (sym taken)
          ∙ (sym (laps-until (suc before) now then all)
          ∙ (ap (take (suc before)) (e ∙ parted2) ∙ take_at (take before laps ++ its ∷ []) (drop before laps) (suc before) (omega arith)));
      lap_is = lap_is;
      last_is = last_is;
      after =
          ap₂ (λ l w. laps_of l w (drop before slots)) (sym lap_is ∙ ap (laps_last now then) (sym taken)) (sym last_is ∙ ap (slots_last then) (sym taken))
          ∙ (ap (laps_of (laps_last now then (take (suc before) all)) (slots_last then (take (suc before) all))) (sym dropped)
          ∙ (sym (laps-from (suc before) now then all)
          ∙ (ap (drop (suc before)) (e ∙ parted2) ∙ drop_at (take before laps ++ its ∷ []) (drop before laps) (suc before) (omega arith))));
      most = omega arith;
    }

-- what is known of a row while places are found: of the frames up to the last place, and of what stands after it
pub record Searching (lap last channel : ℕ) (coming : List Coming) (from now then : ℕ) (frames row : List Frame) (laps : List ℕ) : Type 0 where
  pub head : List Frame
  pub head_is : woven 0 (places_of coming) frames (take from row) ≡ head
  pub follow : Follow 0 from (places_of coming)
  pub count : length frames ≡ length coming
  pub row_is : placed_all last frames row ≡ head ++ drop from row
  pub arranged : IsArranged last (head ++ drop from row)
  pub channels : All HasChannel (head ++ drop from row)
  pub last_is : last_after_all last head ≡ then
  pub lap_is : laps_last lap last (map slot_of head) ≡ now
  pub head_laps : laps_of lap last (map slot_of head) ≡ woven 0 (places_of coming) (laps_in (waiting_of coming)) (take from laps)
  pub rest_laps : laps_of now then (map slot_of (drop from row)) ≡ drop from laps
  pub goes_on : (f : Frame) → f.channel ≡ channel → placed last f (head ++ drop from row) ≡ head ++ placed then f (drop from row)

pub searching-begun : (lap last channel : ℕ) (row : List Frame) (laps : List ℕ) → IsArranged last row → All HasChannel row → laps ≡ laps_of lap last (map slot_of row) → Searching lap last channel [] 0 lap last [] row laps
searching-begun lap last channel row laps arranged channels e = record {
  head = [];
  head_is = refl;
  follow = omega arith;
  count = refl;
  row_is = refl;
  arranged = arranged;
  channels = channels;
  last_is = refl;
  lap_is = refl;
  head_laps = refl;
  rest_laps = sym e;
  goes_on = λ f c. refl;
}

-- what stands after the last place
pub record Rest (then from : ℕ) (row : List Frame) : Type 0 where
  pub arranged : IsArranged then (drop from row)
  pub channels : All HasChannel (drop from row)

pub rest-is : (lap last channel : ℕ) (coming : List Coming) (from now then : ℕ) (frames row : List Frame) (laps : List ℕ) → Searching lap last channel coming from now then frames row laps → Rest then from row
rest-is lap last channel coming from now then frames row laps s =
    let rest = drop from row in
    let n = length s.head in
    let front : take n (s.head ++ rest) ≡ s.head = take_at s.head rest n refl in
    let back : drop n (s.head ++ rest) ≡ rest = drop_at s.head rest n refl in
    let arranged = arranged-from n last (s.head ++ rest) s.arranged in
    let then_is : last_after_all last (take n (s.head ++ rest)) ≡ then = ap (last_after_all last) front ∙ s.last_is in
    record {
      arranged = subst (λ (w : ℕ). IsArranged w rest) then_is (subst (λ (fs : List Frame). IsArranged (last_after_all last (take n (s.head ++ rest))) fs) back arranged);
      channels = subst (All HasChannel) back (All-drop HasChannel n (s.head ++ rest) s.channels);
    }

-- the lap of the next frame
pub next-took : (lap last channel : ℕ) (coming : List Coming) (from now then before its : ℕ) (frames row : List Frame) (laps : List ℕ) (f : Frame) (slot : Slot) (slots : List Slot)
    → slot_of f ≡ slot → slots ≡ map slot_of (drop from row) → 0 < slot.channel → before ≤ length slots → IsLap now then slot slots before its
    → Searching lap last channel coming from now then frames row laps → TookLap now then its before slot slots
next-took lap last channel coming from now then before its frames row laps f slot slots e g above few takes s =
    let r = rest-is lap last channel coming from now then frames row laps s in
    took-lap now then its before slot slots above few (takes f (drop from row) e (sym g) r.arranged r.channels)

pub searching-more : (law : PutArranges) (after_queue : PlaceIsAfterItsQueue) (lap last channel : ℕ) (coming : List Coming) (from now then before its place : ℕ) (frames row : List Frame) (laps : List ℕ) (f : Frame) (slot : Slot) (slots : List Slot)
    → IsChannel last → 0 < channel → HasChannel f → slot_of f ≡ slot → slot.channel ≡ channel → slots ≡ map slot_of (drop from row) → before ≤ length slots → place ≡ from + before
    → length laps ≡ length row → from ≤ length row
    → IsPlace then slot slots before → IsLap now then slot slots before its
    → Searching lap last channel coming from now then frames row laps
    → Searching lap last channel (coming ++ coming_at slot its place ∷ []) place its channel (frames ++ f ∷ []) row laps
searching-more law after_queue lap last channel coming from now then before its place frames row laps f slot slots small above fc e on g few place_is as_many within is_place takes s =
    let c : Coming = coming_at slot its place in
    let w : Waiting = c.waiting in
    let rest = drop from row in
    let r = rest-is lap last channel coming from now then frames row laps s in
    let places = places_of coming in
    let its_laps = laps_in (waiting_of coming) in
    let f_channel : f.channel ≡ channel = ap (λ (x : Slot). x.channel) e ∙ on in
    let size = length-map rest slot_of in
    let size2 = length-drop from row in
    let size3 = ap length g in
    let t = next-took lap last channel coming from now then before its frames row laps f slot slots e g (rw on above) few takes s in
    let put : placed then f rest ≡ take before rest ++ f ∷ drop before rest = is_place f rest e (sym g) r.arranged r.channels in
    let taken : take before rest ≡ drop from (take place row) = sym (ap (λ n. drop from (take n row)) place_is ∙ drop-take from before row) in
    let dropped : drop before rest ≡ drop place row = drop-drop before from row ∙ ap (λ n. drop n row) (sym place_is) in
    let head = s.head ++ (take before rest ++ f ∷ []) in
    let prefix = s.head ++ take before rest in
    let grouped : head ≡ prefix ++ f ∷ [] = sym (append_assoc s.head (take before rest) (f ∷ [])) in
    let goes : placed last f (s.head ++ rest) ≡ head ++ drop place row =
    s.goes_on f f_channel
    ∙ (ap (λ fs. s.head ++ fs) (put ∙ (sym (append_assoc (take before rest) (f ∷ []) (drop before rest)) ∙ ap (λ fs. (take before rest ++ f ∷ []) ++ fs) dropped))
    ∙ sym (append_assoc s.head (take before rest ++ f ∷ []) (drop place row))) in
    let arranges = law last f (s.head ++ rest) (s.head ++ rest) small fc s.channels (record { arranged = s.arranged; queues = λ queue. refl }) in
    let arranged : IsArranged last (head ++ drop place row) = subst (λ (fs : List Frame). IsArranged last fs) goes arranges.arranged in
    let head_channels : All HasChannel s.head = subst (All HasChannel) (take_at s.head rest (length s.head) refl) (All-take HasChannel (length s.head) (s.head ++ rest) s.channels) in
    let channels : All HasChannel (head ++ drop place row) =
    All-append HasChannel head (drop place row)
    (All-append HasChannel s.head (take before rest ++ f ∷ []) head_channels (All-append HasChannel (take before rest) (f ∷ []) (All-take HasChannel before rest r.channels) (All-cons HasChannel f [] fc (All-nil HasChannel))))
    (subst (All HasChannel) dropped (All-drop HasChannel before rest r.channels)) in
    let slots_taken : map slot_of (take before rest ++ f ∷ []) ≡ take before slots ++ slot ∷ [] =
    map-append slot_of (take before rest) (f ∷ []) ∙ ap₂ (λ xs x. xs ++ x ∷ []) (sym (take-map slot_of before rest) ∙ ap (take before) (sym g)) e in
    let head_slots : map slot_of head ≡ map slot_of s.head ++ (take before slots ++ slot ∷ []) = map-append slot_of s.head (take before rest ++ f ∷ []) ∙ ap (λ xs. map slot_of s.head ++ xs) slots_taken in
    let then_is : slots_last last (map slot_of s.head) ≡ then = slots_last-row last s.head ∙ s.last_is in
    let laps_rest : laps_of now then slots ≡ drop from laps = ap (laps_of now then) g ∙ s.rest_laps in
    let laps_taken : take before (drop from laps) ≡ drop from (take place laps) = sym (ap (λ n. drop from (take n laps)) place_is ∙ drop-take from before laps) in
    let places_are : places_of (coming ++ c ∷ []) ≡ places ++ place ∷ [] = map-append (λ (x : Coming). x.place) coming (c ∷ []) in
    let waiting_are : waiting_of (coming ++ c ∷ []) ≡ waiting_of coming ++ w ∷ [] = map-append (λ (x : Coming). x.waiting) coming (c ∷ []) in
    let laps_are : laps_in (waiting_of (coming ++ c ∷ [])) ≡ its_laps ++ its ∷ [] = ap laps_in waiting_are ∙ map-append (λ (v : Waiting). v.lap) (waiting_of coming) (w ∷ []) in
    let many = length-map coming (λ (x : Coming). x.place) in
    let many2 = length-map coming (λ (x : Coming). x.waiting) in
    let many3 = length-map (waiting_of coming) (λ (w : Waiting). w.lap) in
    let so_many = s.count in
    let ends : placed last f (s.head ++ rest) ≡ prefix ++ f ∷ drop place row = goes ∙ (ap (λ fs. fs ++ drop place row) grouped ∙ append_assoc prefix (f ∷ []) (drop place row)) in
    let arranged2 : IsArranged last (prefix ++ f ∷ drop place row) = subst (λ (fs : List Frame). IsArranged last fs) ends arranges.arranged in
    let last_here : last_after_all last (prefix ++ f ∷ []) ≡ channel = last-of last prefix f (rw f_channel above) ∙ f_channel in
    let same : head ++ drop place row ≡ prefix ++ f ∷ drop place row = ap (λ fs. fs ++ drop place row) grouped ∙ append_assoc prefix (f ∷ []) (drop place row) in
    record {
      head = head;
      head_is =
          ap (λ ps. woven 0 ps (frames ++ f ∷ []) (take place row)) places_are
          ∙ (woven_push 0 from place places frames row f (omega arith) s.follow (omega arith) (omega arith)
          ∙ ap₂ (λ xs ys. xs ++ (ys ++ f ∷ [])) s.head_is (sym taken));
      follow = subst (λ (ps : List ℕ). Follow 0 place ps) (sym places_are) (follow_push 0 from place places s.follow (omega arith));
      count = let a = length-append frames (f ∷ []) in let b = length-append coming (c ∷ []) in omega arith;
      row_is = placed_all-more last frames f row ∙ (ap (placed last f) s.row_is ∙ goes);
      arranged = arranged;
      channels = channels;
      last_is = ap (last_after_all last) grouped ∙ last_here;
      lap_is =
          ap (laps_last lap last) head_slots
          ∙ (laps_last-append lap last (map slot_of s.head) (take before slots ++ slot ∷ [])
          ∙ (ap₂ (λ l w. laps_last l w (take before slots ++ slot ∷ [])) s.lap_is then_is ∙ t.lap_is));
      head_laps =
          ap (laps_of lap last) head_slots
          ∙ (laps-append lap last (map slot_of s.head) (take before slots ++ slot ∷ [])
          ∙ (ap₂ (λ xs ys. xs ++ ys) s.head_laps (ap₂ (λ l w. laps_of l w (take before slots ++ slot ∷ [])) s.lap_is then_is ∙ (t.up_to ∙ ap (λ xs. xs ++ its ∷ []) (ap (take before) laps_rest ∙ laps_taken)))
          ∙ (sym (woven_push 0 from place places its_laps laps its (omega arith) s.follow (omega arith) (omega arith))
          ∙ ap₂ (λ ps ls. woven 0 ps ls (take place laps)) (sym places_are) (sym laps_are))));
      rest_laps =
          ap₂ (λ w xs. laps_of its w xs) (sym on) (sym (ap (drop before) g ∙ (drop-map slot_of before rest ∙ ap (map slot_of) dropped)))
          ∙ (t.after ∙ (ap (drop before) laps_rest ∙ (drop-drop before from laps ∙ ap (λ n. drop n laps) (sym place_is))));
      goes_on = λ h h_channel.
          ap (placed last h) same
          ∙ (after_queue last h f prefix (drop place row) (FramesOn channel) arranged2 (in_queue channel h above h_channel) (in_queue channel f above f_channel)
          ∙ (ap (λ w. prefix ++ f ∷ placed w h (drop place row)) last_here
          ∙ sym (ap (λ fs. fs ++ placed channel h (drop place row)) grouped ∙ append_assoc prefix (f ∷ []) (placed channel h (drop place row)))));
    }

-- what was found of all
pub found-all : (lap last channel : ℕ) (coming : List Coming) (from now then : ℕ) (frames row : List Frame) (slots : List Waiting) → from ≤ length row → length (laps_in slots) ≡ length row
    → Searching lap last channel coming from now then frames row (laps_in slots) → AreWoven lap last slots coming frames row
found-all lap last channel coming from now then frames row slots within as_many s =
    let rest = drop from row in
    let laps = laps_in slots in
    let places = places_of coming in
    let all : woven 0 places frames row ≡ s.head ++ rest = woven_until 0 from places frames row s.follow within ∙ ap (λ fs. fs ++ rest) s.head_is in
    let then_is : slots_last last (map slot_of s.head) ≡ then = slots_last-row last s.head ∙ s.last_is in
    record {
      row_is = s.row_is ∙ sym all;
      arranged = subst (λ (fs : List Frame). IsArranged last fs) (sym all) s.arranged;
      channels = subst (All HasChannel) (sym all) s.channels;
      laps_are =
          ap (λ fs. laps_of lap last (map slot_of fs)) all
          ∙ (ap (laps_of lap last) (map-append slot_of s.head rest)
          ∙ (laps-append lap last (map slot_of s.head) (map slot_of rest)
          ∙ (ap₂ (λ xs ys. xs ++ ys) s.head_laps (ap₂ (λ l w. laps_of l w (map slot_of rest)) s.lap_is then_is ∙ s.rest_laps)
          ∙ sym (woven_until 0 from places (laps_in (waiting_of coming)) laps s.follow (omega arith)))));
    }

-- the rest of a row, as it is lent
pub rest-lent : (row : List Waiting) (from : ℕ) (rows : List Frame) → slots_in row ≡ map slot_of rows → slots_in (take (length row - from) (drop from row)) ≡ map slot_of (drop from rows)
rest-lent row from rows e = slots-rest from row ∙ (ap (drop from) e ∙ drop-map slot_of from rows)

pub rest-laps_lent : (lap last channel : ℕ) (coming : List Coming) (from now then : ℕ) (frames rows : List Frame) (row : List Waiting) → slots_in row ≡ map slot_of rows
    → Searching lap last channel coming from now then frames rows (laps_in row) → laps_in (take (length row - from) (drop from row)) ≡ laps_of now then (slots_in (take (length row - from) (drop from row)))
rest-laps_lent lap last channel coming from now then frames rows row e s =
    laps-rest from row ∙ (sym s.rest_laps ∙ ap (laps_of now then) (sym (rest-lent row from rows e)))

-- the next of the frames that are staged has its place
pub found-next : (law : PutArranges) (after_queue : PlaceIsAfterItsQueue) (lap last channel : ℕ) (row staged : List Waiting) (coming : List Coming) (i from now then before its place : ℕ) (frames rows : List Frame) (slot : Slot) (d : Waiting)
    → IsChannel last → 0 < channel → slots_in staged ≡ map slot_of frames → slots_in row ≡ map slot_of rows → All HasChannel frames → i < length staged → slot ≡ (get_or staged i d).slot → slot.channel ≡ channel → from ≤ length row
    → before ≤ length (take (length row - from) (drop from row)) → place ≡ from + before
    → IsPlace then slot (slots_in (take (length row - from) (drop from row))) before → IsLap now then slot (slots_in (take (length row - from) (drop from row))) before its
    → Searching lap last channel coming from now then (take i frames) rows (laps_in row)
    → Searching lap last channel (coming ++ coming_at slot its place ∷ []) place its channel (take (i + 1) frames) rows (laps_in row)
found-next law after_queue lap last channel row staged coming i from now then before its place frames rows slot d small above e g channels h slot_is on within few place_is is_place takes s =
    let f = has-frame staged frames i d e h in
    let lent = take (length row - from) (drop from row) in
    let many = count-slots lent in
    let many2 = count-laps row in
    let many3 = count-slots row in
    let many4 = ap length g ∙ length-map rows slot_of in
    subst (λ (fs : List Frame). Searching lap last channel (coming ++ coming_at slot its place ∷ []) place its channel fs rows (laps_in row)) (sym f.past)
    (searching-more law after_queue lap last channel coming from now then before its place (take i frames) rows (laps_in row) f.frame slot (slots_in lent) small above (f.channel channels) (sym (slot_is ∙ f.slot)) on (rest-lent row from rows g) (omega arith) place_is (omega arith) (omega arith) is_place takes s)

-- its lap
pub found-lap : (lap last channel : ℕ) (row staged : List Waiting) (coming : List Coming) (i from now then before its : ℕ) (frames rows : List Frame) (slot : Slot) (d : Waiting)
    → 0 < channel → slots_in staged ≡ map slot_of frames → slots_in row ≡ map slot_of rows → i < length staged → slot ≡ (get_or staged i d).slot → slot.channel ≡ channel
    → before ≤ length (take (length row - from) (drop from row)) → IsLap now then slot (slots_in (take (length row - from) (drop from row))) before its
    → Searching lap last channel coming from now then (take i frames) rows (laps_in row) → its ≤ now + suc before
found-lap lap last channel row staged coming i from now then before its frames rows slot d above e g h slot_is on few takes s =
    let f = has-frame staged frames i d e h in
    let lent = take (length row - from) (drop from row) in
    let many = count-slots lent in
    (next-took lap last channel coming from now then before its (take i frames) rows (laps_in row) f.frame slot (slots_in lent) (sym (slot_is ∙ f.slot)) (rest-lent row from rows g) (rw on above) (omega arith) takes s).most

-- one slot more was found
pub slots-found : (coming : List Coming) (staged : List Waiting) (i : ℕ) (next : Coming) (d : Waiting) → i < length staged → next.waiting.slot ≡ (get_or staged i d).slot → slots_of coming ≡ take i (slots_in staged)
    → slots_of (coming ++ next ∷ []) ≡ take (i + 1) (slots_in staged)
slots-found coming staged i next d h e slots =
    let n = count-slots staged in
    ap slots_in (map-append (λ (c : Coming). c.waiting) coming (next ∷ []))
    ∙ (map-append (λ (w : Waiting). w.slot) (waiting_of coming) (next.waiting ∷ [])
    ∙ (ap₂ (λ xs x. xs ++ x ∷ []) slots (e ∙ sym (slot-at staged i d h)) ∙ sym (take_more (slots_in staged) i d.slot (omega arith))))

-- the places of all that was found
pub found-places : (lap last channel : ℕ) (row staged : List Waiting) (coming : List Coming) (i from now then : ℕ)
    → ((rows : List Frame) × (slots_in row ≡ map slot_of rows) × IsArranged last rows × All HasChannel rows)
    → ((frames : List Frame) × (slots_in staged ≡ map slot_of frames) × All HasChannel frames)
    → length coming ≡ i → i ≤ length staged → slots_of coming ≡ take i (slots_in staged) → from ≤ length row
    → ((frames rows : List Frame) → slots_in staged ≡ map slot_of frames → slots_in row ≡ map slot_of rows → IsArranged last rows → All HasChannel rows → All HasChannel frames
    → Searching lap last channel coming from now then (take i frames) rows (laps_in row))
    → ArePlaced lap last row staged coming
found-places lap last channel row staged coming i from now then (rows, rows_are, arranged, channels) (frames, frames_are, frames_channels) count few slots within found =
    let s = found frames rows frames_are rows_are arranged channels frames_channels in
    let many = count-laps row in
    let many2 = count-slots row in
    record {
      few = omega arith;
      slots_are = slots ∙ ap (λ n. take n (slots_in staged)) (sym count);
      follow = follow_upper 0 from (length row) (places_of coming) s.follow within;
      woven_are = λ fs rs fs_are rs_are a b c.
          let m = ap length rs_are ∙ length-map rs slot_of in
          subst (λ (n : ℕ). AreWoven lap last row coming (take n fs) rs) (sym count) (found-all lap last channel coming from now then (take i fs) rs row (omega arith) (omega arith) (found fs rs fs_are rs_are a b c));
    }
