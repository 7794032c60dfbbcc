-- Frames that are staged, put among those of the row in one pass.
use Rattle.std.proofs.Common.{◌≡◌, ℕ, ◌+◌, ◌-◌, ◌≤◌, List, [], ◌∷◌, ◌++◌, length, map, take, drop, refl, sym, ap, ap₂, ◌∙◌, subst, arith, length-append, length-drop, take-append-drop}
use Rattle.std.proofs.lemmas.List.{take_at, drop_at, length-map, length-take-le, take-map, drop-map, map-append, drop-take, drop-drop}
use Rattle.std.proofs.lemmas.List.Elements.{All-drop}
use Rattle.amqp_frame.specs.Frame.{Frame}
use Rattle.amqp_frame.specs.Splitting.{stream}
use Rattle.amqp_model.specs.Output.Arrangement.{HasChannel, placed, placed_all}
use Rattle.amqp_model.specs.Output.Outputs.{Output, after_put, after_puts}
use Rattle.amqp_outbox.specs.OutboxSlots.{slot_of, slots_in, slots_length}
use Rattle.amqp_outbox.specs.OutboxLaps.{laps_in, laps_of}
use Rattle.amqp_outbox.specs.OutboxView.{Outgoing, only, all_put}
use Rattle.amqp_outbox.specs.OutboxWeaving.{woven, Follow, places_of, waiting_of, slots_of, AreWoven, ArePlaced, WeavesIn}
use Rattle.amqp_outbox.specs.OutboxFields.{all_octets, row_of, row_laps, row_slots, staged_of, outgoing_of, all_slots, all_laps, OutboxIsSound}
use Rattle.amqp_outbox.specs.declared.slots.Slot.{Slot}
use Rattle.amqp_outbox.specs.declared.slots.Waiting.{Waiting}
use Rattle.amqp_outbox.specs.declared.weaving.Coming.{Coming}
use Rattle.amqp_outbox.specs.declared.weaving.Ends.{Ends}
use Rattle.amqp_outbox.specs.declared.outbox.Outbox.TheInside.{Inside}
use Rattle.amqp_outbox.proofs.OutboxAside.{none-aside}
use Rattle.amqp_outbox.proofs.OutboxLists.{four, length-second}
use Rattle.amqp_outbox.proofs.OutboxRows.{stream-append, slots_length-row}
use Rattle.amqp_outbox.proofs.OutboxStates.{IsLaidOut, IsKept, IsInLaps, laid_out, in_laps, sound, fits-alone, view, outgoing}
use Rattle.amqp_outbox.proofs.OutboxWaiting.{count-slots, slots-rest, slots-after, slots-before, laps-after, laps-before}
use Rattle.amqp_outbox.proofs.Woven.{woven_map, woven_length}
use Rattle.amqp_outbox.proofs.WovenSides.{stream_woven}

-- the slots that are staged, as they are lent
pub staged-lent : (x : Inside) (items : List Waiting) → OutboxIsSound x → items ≡ x.slots.items → slots_in (take (length items - x.slots_arranged) (drop x.slots_arranged items)) ≡ map slot_of (staged_of x)
staged-lent x items s e =
    slots-rest x.slots_arranged items ∙ (ap (λ ws. drop x.slots_arranged (slots_in ws)) e ∙ sym s.staged_described)

-- the laps of the row, as they are lent
pub row_laps-lent : (x : Inside) (items : List Waiting) → OutboxIsSound x → items ≡ x.slots.items → laps_in (take (x.slots_arranged - x.slots_begun) (drop x.slots_begun items)) ≡ row_laps x
row_laps-lent x items s e =
    let a = s.slots_begun in
    ap (λ ss. laps_in (take (x.slots_arranged - x.slots_begun) (drop x.slots_begun ss))) e
    ∙ (laps-before (x.slots_arranged - x.slots_begun) (drop x.slots_begun x.slots.items)
    ∙ (ap (take (x.slots_arranged - x.slots_begun)) (laps-after x.slots_begun x.slots.items)
    ∙ (sym (drop-take x.slots_begun (x.slots_arranged - x.slots_begun) (all_laps x)) ∙ ap (λ n. drop x.slots_begun (take n (all_laps x))) (omega arith))))

-- the octets of the frames that are coming
pub record AreStaged (x : Inside) (coming : List Coming) (octets : ℕ) : Type 0 where
  pub slots_are : slots_of coming ≡ map slot_of (take (length coming) (staged_of x))
  pub few : length coming ≤ length (staged_of x)
  pub octets_are : take octets (drop x.arranged (all_octets x)) ≡ stream (take (length coming) (staged_of x))
  pub length_is : octets ≡ length (stream (take (length coming) (staged_of x)))
  pub within : x.arranged + octets ≤ length (all_octets x)
  pub slots_within : x.slots_arranged + length coming ≤ length x.slots.items

pub are-staged : (x : Inside) (rows staged : List Waiting) (coming : List Coming) (octets : ℕ) → OutboxIsSound x → slots_in staged ≡ map slot_of (staged_of x) → ArePlaced x.lap x.last rows staged coming → octets ≡ slots_length (slots_of coming) → AreStaged x coming octets
are-staged x rows staged coming octets s e p count =
    let m = length coming in
    let fs = take m (staged_of x) in
    let slots : slots_of coming ≡ map slot_of fs = p.slots_are ∙ (ap (take m) e ∙ take-map slot_of m (staged_of x)) in
    let size = count ∙ (ap slots_length slots ∙ slots_length-row fs) in
    let split : stream (staged_of x) ≡ stream fs ++ stream (drop m (staged_of x)) = ap stream (sym (take-append-drop m (staged_of x))) ∙ stream-append fs (drop m (staged_of x)) in
    let whole : drop x.arranged (all_octets x) ≡ stream fs ++ stream (drop m (staged_of x)) = sym s.staged_encoded ∙ split in
    let a = ap length whole ∙ length-append (stream fs) (stream (drop m (staged_of x))) in
    let b = length-drop x.arranged (all_octets x) in
    let c = s.arranged in
    let d = ap length e ∙ length-map (staged_of x) slot_of in
    let f = count-slots staged in
    let g = p.few in
    let h = ap length s.staged_described ∙ length-drop x.slots_arranged (all_slots x) in
    let i = length-map (staged_of x) slot_of in
    let j = count-slots x.slots.items in
    let k = s.slots_arranged in
    record {
      slots_are = slots;
      few = omega arith;
      octets_are = ap (take octets) whole ∙ take_at (stream fs) (stream (drop m (staged_of x))) octets (sym size);
      length_is = size;
      within = omega arith;
      slots_within = omega arith;
    }

-- what the octets and the slots become, part by part
pub record IsPutBetween (x y : Inside) (coming : List Coming) (octets : ℕ) : Type 0 where
  pub octets_are : drop y.written (all_octets y) ≡ drop x.written (take x.begun (all_octets x)) ++ (stream (woven 0 (places_of coming) (take (length coming) (staged_of x)) (row_of x)) ++ stream (drop (length coming) (staged_of x)))
  pub written : y.written ≤ length (all_octets y)
  pub begun : y.begun + x.written ≡ y.written + x.begun
  pub arranged : y.arranged + x.written ≡ y.written + (x.arranged + octets)
  pub slots_are : (before row dropped after : List Waiting) → length before ≡ x.slots_begun → x.slots_begun + length row ≡ x.slots_arranged → length dropped ≡ length coming
      → x.slots.items ≡ before ++ (row ++ (dropped ++ after)) → y.slots.items ≡ before ++ (woven 0 (places_of coming) (waiting_of coming) row ++ after)
  pub slots_begun : y.slots_begun ≡ x.slots_begun
  pub slots_arranged : y.slots_arranged ≡ x.slots_arranged + length coming

-- the slots and their laps
pub record SlotsBetween (x y : Inside) (coming : List Coming) : Type 0 where
  pub slots_are : all_slots y ≡ take x.slots_begun (all_slots x) ++ (woven 0 (places_of coming) (slots_of coming) (row_slots x) ++ drop (x.slots_arranged + length coming) (all_slots x))
  pub laps_are : all_laps y ≡ take x.slots_begun (all_laps x) ++ (woven 0 (places_of coming) (laps_in (waiting_of coming)) (row_laps x) ++ drop (x.slots_arranged + length coming) (all_laps x))

slots-between : (x y : Inside) (coming : List Coming) (octets : ℕ) → OutboxIsSound x → AreStaged x coming octets → IsPutBetween x y coming octets → SlotsBetween x y coming
slots-between x y coming octets s a p =
    let items = x.slots.items in
    let m = length coming in
    let before = take x.slots_begun items in
    let row = drop x.slots_begun (take x.slots_arranged items) in
    let dropped = drop x.slots_arranged (take (x.slots_arranged + m) items) in
    let after = drop (x.slots_arranged + m) items in
    let h = s.slots_begun in
    let i = s.slots_arranged in
    let j = a.slots_within in
    let size = length-take-le x.slots_begun items (omega arith) in
    let size2 = length-second items x.slots_begun x.slots_arranged h i in
    let size3 = length-second items x.slots_arranged (x.slots_arranged + m) (omega arith) j in
    let new = p.slots_are before row dropped after size (omega arith) (omega arith) (four items x.slots_begun x.slots_arranged (x.slots_arranged + m) h (omega arith) j) in
    let parts = woven 0 (places_of coming) (waiting_of coming) row in
    let its = λ (w : Waiting). w.slot in
    let lap = λ (w : Waiting). w.lap in
    let row_is : slots_in row ≡ row_slots x = slots-after x.slots_begun (take x.slots_arranged items) ∙ ap (drop x.slots_begun) (slots-before x.slots_arranged items) in
    let row_is2 : laps_in row ≡ row_laps x = laps-after x.slots_begun (take x.slots_arranged items) ∙ ap (drop x.slots_begun) (laps-before x.slots_arranged items) in
    record {
      slots_are =
          ap slots_in new
          ∙ (map-append its before (parts ++ after)
          ∙ ap₂ (λ xs ys. xs ++ ys) (slots-before x.slots_begun items)
          (map-append its parts after ∙ ap₂ (λ xs ys. xs ++ ys) (woven_map its 0 (places_of coming) (waiting_of coming) row ∙ ap (λ xs. woven 0 (places_of coming) (slots_of coming) xs) row_is) (slots-after (x.slots_arranged + m) items)));
      laps_are =
          ap laps_in new
          ∙ (map-append lap before (parts ++ after)
          ∙ ap₂ (λ xs ys. xs ++ ys) (laps-before x.slots_begun items)
          (map-append lap parts after ∙ ap₂ (λ xs ys. xs ++ ys) (woven_map lap 0 (places_of coming) (waiting_of coming) row ∙ ap (λ xs. woven 0 (places_of coming) (laps_in (waiting_of coming)) xs) row_is2) (laps-after (x.slots_arranged + m) items)));
    }

pub between-laid_out : (x y : Inside) (coming : List Coming) (octets : ℕ) → OutboxIsSound x → Follow 0 (length (row_of x)) (places_of coming) → AreStaged x coming octets → IsPutBetween x y coming octets
    → IsLaidOut y (take y.written (all_octets y)) (drop x.written (take x.begun (all_octets x))) (take x.slots_begun (all_slots x)) (woven 0 (places_of coming) (take (length coming) (staged_of x)) (row_of x)) (drop (length coming) (staged_of x))
between-laid_out x y coming octets s follow a p =
    let l = laid_out x s in
    let m = length coming in
    let fs = take m (staged_of x) in
    let later = drop m (staged_of x) in
    let row = row_of x in
    let both = woven 0 (places_of coming) fs row in
    let b = slots-between x y coming octets s a p in
    let rest : drop (x.slots_arranged + m) (all_slots x) ≡ map slot_of later =
    sym (drop-drop m x.slots_arranged (all_slots x)) ∙ (ap (drop m) (sym s.staged_described) ∙ drop-map slot_of m (staged_of x)) in
    let slots : woven 0 (places_of coming) (slots_of coming) (row_slots x) ≡ map slot_of both =
    ap₂ (λ xs ys. woven 0 (places_of coming) xs ys) a.slots_are (sym s.row_described) ∙ sym (woven_map slot_of 0 (places_of coming) fs row) in
    let few = length-take-le m (staged_of x) a.few in
    let many = length-map coming (λ (c : Coming). c.place) in
    let frames = woven_length 0 (places_of coming) fs row (omega arith) follow in
    let size = a.length_is in
    let size2 = stream_woven 0 (places_of coming) fs row (omega arith) follow in
    let none : length (stream (take 0 row)) ≡ 0 = refl in
    let c = p.written in
    let d = p.begun in
    let e = p.arranged in
    let f = p.slots_begun in
    let g = p.slots_arranged in
    let lb = l.begun in
    let la = l.arranged in
    let lsb = l.slots_begun in
    let lsa = l.slots_arranged in
    record {
      octets = sym (take-append-drop y.written (all_octets y)) ∙ ap (λ os. take y.written (all_octets y) ++ os) p.octets_are;
      slots = b.slots_are ∙ ap₂ (λ xs ys. take x.slots_begun (all_slots x) ++ (xs ++ ys)) slots rest;
      written = sym (length-take-le y.written (all_octets y) c);
      begun = omega arith;
      arranged = omega arith;
      slots_begun = f ∙ lsb;
      slots_arranged = omega arith;
    }

pub between-kept : (x : Inside) (rows : List Waiting) (coming : List Coming) → OutboxIsSound x → AreWoven x.lap x.last rows coming (take (length coming) (staged_of x)) (row_of x)
    → IsKept x.last (woven 0 (places_of coming) (take (length coming) (staged_of x)) (row_of x)) (drop (length coming) (staged_of x))
between-kept x rows coming s w = record { in_turn = w.arranged; row_channels = w.channels; staged_channels = All-drop HasChannel (length coming) (staged_of x) s.staged_channels }

pub between-laps : (x y : Inside) (rows : List Waiting) (coming : List Coming) (octets : ℕ) → OutboxIsSound x → Follow 0 (length (row_of x)) (places_of coming) → AreStaged x coming octets → IsPutBetween x y coming octets
    → laps_in rows ≡ row_laps x → AreWoven x.lap x.last rows coming (take (length coming) (staged_of x)) (row_of x) → y.lap ≡ x.lap → y.last ≡ x.last
    → IsInLaps y (take x.slots_begun (all_laps x)) (woven 0 (places_of coming) (laps_in (waiting_of coming)) (row_laps x)) (drop (x.slots_arranged + length coming) (all_laps x)) (woven 0 (places_of coming) (take (length coming) (staged_of x)) (row_of x)) (drop (length coming) (staged_of x))
between-laps x y rows coming octets s follow a p rows_are w lap last =
    let i = in_laps x s in
    let m = length coming in
    let fs = take m (staged_of x) in
    let later = drop m (staged_of x) in
    let row = row_of x in
    let both = woven 0 (places_of coming) fs row in
    let b = slots-between x y coming octets s a p in
    let few = length-take-le m (staged_of x) a.few in
    let many = length-map coming (λ (c : Coming). c.place) in
    let frames = woven_length 0 (places_of coming) fs row (omega arith) follow in
    let few2 = a.few in
    let rest = length-drop m (staged_of x) in
    let rest2 = length-drop (x.slots_arranged + m) (all_laps x) in
    let rest3 = length-drop x.slots_arranged (all_laps x) in
    let rest_are = i.rest_are in
    let left = i.left in
    record {
      laps = b.laps_are;
      past_are = i.past_are ∙ sym p.slots_begun;
      laps_are =
          ap (λ ls. woven 0 (places_of coming) (laps_in (waiting_of coming)) ls) (sym rows_are)
          ∙ (sym w.laps_are ∙ ap₂ (λ l v. laps_of l v (map slot_of both)) (sym lap) (sym last));
      rest_are = omega arith;
      left = omega arith;
    }

-- putting frames one after another makes the row of all of them
pub puts-row : (frames : List Frame) (o : Output) → after_puts frames o ≡ record { ahead = o.ahead; begun_on = o.begun_on; last = o.last; row = placed_all o.last frames o.row }
puts-row [] o = refl
puts-row (f ∷ frames) o = puts-row frames (after_put f o)

puts-more : (frames later : List Frame) (o : Output) → after_puts (frames ++ later) o ≡ after_puts later (after_puts frames o)
puts-more [] later o = refl
puts-more (f ∷ frames) later o = puts-more frames later (after_put f o)

-- what is put then is what was to be put
pub between-view : (x y : Inside) (rows : List Waiting) (coming : List Coming) (gone : List ℕ) (past : List Slot) (value : Outgoing) → outgoing_of x ≡ value → y.begun_on ≡ x.begun_on → y.last ≡ x.last
    → AreWoven x.lap x.last rows coming (take (length coming) (staged_of x)) (row_of x)
    → IsLaidOut y gone (drop x.written (take x.begun (all_octets x))) past (woven 0 (places_of coming) (take (length coming) (staged_of x)) (row_of x)) (drop (length coming) (staged_of x))
    → all_put (outgoing_of y) ≡ all_put value
between-view x y rows coming gone past value e on last w l =
    let m = length coming in
    let fs = take m (staged_of x) in
    let later = drop m (staged_of x) in
    let ahead = drop x.written (take x.begun (all_octets x)) in
    let o : Output = (outgoing_of x).output in
    ap all_put (view y gone ahead past (woven 0 (places_of coming) fs (row_of x)) later l)
    ∙ (ap₂ (λ c v. all_put (outgoing ahead c v (woven 0 (places_of coming) fs (row_of x)) later)) on last
    ∙ (ap (λ r. all_put (outgoing ahead x.begun_on x.last r later)) (sym w.row_is)
    ∙ (ap (λ (v : Output). only (after_puts later v)) (sym (puts-row fs o))
    ∙ (ap only (sym (puts-more fs later o) ∙ ap (λ frames. after_puts frames o) (take-append-drop m (staged_of x)))
    ∙ ap all_put e))))

-- what the calls say of lists that are lent, said of these lists
pub is-put-between : (x y : Inside) (rows : List Waiting) (lent lent2 coming : List Coming) (aside : List ℕ) (new : Ends) (octets : ℕ) → OutboxIsSound x → AreStaged x coming octets → slots_in rows ≡ map slot_of (row_of x) → lent ≡ coming → lent2 ≡ coming → aside ≡ x.aside.items → y.aside.items ≡ []
    → WeavesIn (record { written = x.written; begun = x.begun; arranged = x.arranged }) new rows lent octets (x.octets.items ++ aside) y.octets.items
    → ((before row dropped after : List Waiting) → length before ≡ x.slots_begun → x.slots_begun + length row ≡ x.slots_arranged → length dropped ≡ length lent2
    → x.slots.items ≡ before ++ (row ++ (dropped ++ after)) → y.slots.items ≡ before ++ (woven 0 (places_of lent2) (waiting_of lent2) row ++ after))
    → y.written ≡ new.written → y.begun ≡ new.begun → y.arranged ≡ new.arranged → y.slots_begun ≡ x.slots_begun → y.slots_arranged ≡ x.slots_arranged + length coming
    → IsPutBetween x y coming octets
is-put-between x y rows lent lent2 coming aside new octets s a rows_are is is2 aside_is none w slots_said written begun arranged slots_begun slots_arranged =
    let l = laid_out x s in
    let ahead = drop x.written (take x.begun (all_octets x)) in
    let m = length coming in
    let fs = take m (staged_of x) in
    let later = drop m (staged_of x) in
    let split : stream (staged_of x) ≡ stream fs ++ stream later = ap stream (sym (take-append-drop m (staged_of x))) ∙ stream-append fs later in
    let whole : drop x.written (all_octets x) ≡ ahead ++ (stream (row_of x) ++ (stream fs ++ stream later)) =
    ap (drop x.written) l.octets
    ∙ (drop_at (take x.written (all_octets x)) (ahead ++ (stream (row_of x) ++ stream (staged_of x))) x.written (sym l.written)
    ∙ ap (λ os. ahead ++ (stream (row_of x) ++ os)) split) in
    let within = w.written in
    let b = w.begun in
    let c = w.arranged in
    let alone : all_octets y ≡ y.octets.items = none-aside y.octets.items y.aside.items none in
    let size = ap length alone in
    record {
      octets_are =
          ap₂ (λ n os. drop n os) written alone
          ∙ (w.octets_are ahead (stream later) (row_of x) fs rows_are (ap slots_of is ∙ a.slots_are) (sym l.begun) (ap (λ os. drop x.written (x.octets.items ++ os)) aside_is ∙ whole)
          ∙ ap (λ (cs : List Coming). ahead ++ (stream (woven 0 (places_of cs) fs (row_of x)) ++ stream later)) is);
      written = omega arith;
      begun = omega arith;
      arranged = omega arith;
      slots_are = λ before row dropped after size all many now.
          slots_said before row dropped after size all (many ∙ ap length (sym is2)) now
          ∙ ap (λ (cs : List Coming). before ++ (woven 0 (places_of cs) (waiting_of cs) row ++ after)) is2;
      slots_begun = slots_begun;
      slots_arranged = slots_arranged;
    }

-- so the fields are sound, and stand for what they stood for, once all is put
pub put-between : (x y : Inside) (rows staged : List Waiting) (coming : List Coming) (octets : ℕ) (value : Outgoing) → OutboxIsSound x → outgoing_of x ≡ value
    → slots_in rows ≡ map slot_of (row_of x) → laps_in rows ≡ row_laps x → slots_in staged ≡ map slot_of (staged_of x)
    → ArePlaced x.lap x.last rows staged coming → AreStaged x coming octets → IsPutBetween x y coming octets → y.aside.items ≡ [] → y.lap ≡ x.lap → y.last ≡ x.last → y.begun_on ≡ x.begun_on
    → OutboxIsSound y × (all_put (outgoing_of y) ≡ all_put value)
put-between x y rows staged coming octets value s view_is rows_are laps_are staged_are placed a p none lap last on =
    let fs = take (length coming) (staged_of x) in
    let later = drop (length coming) (staged_of x) in
    let both = woven 0 (places_of coming) fs (row_of x) in
    let size : length rows ≡ length (row_of x) = sym (count-slots rows) ∙ (ap length rows_are ∙ length-map (row_of x) slot_of) in
    let follow : Follow 0 (length (row_of x)) (places_of coming) = subst (λ (n : ℕ). Follow 0 n (places_of coming)) size placed.follow in
    let w = placed.woven_are (staged_of x) (row_of x) staged_are rows_are s.in_turn s.row_channels s.staged_channels in
    let laid = between-laid_out x y coming octets s follow a p in
    let kept : IsKept y.last both later = subst (λ (n : ℕ). IsKept n both later) (sym last) (between-kept x rows coming s w) in (
      sound y _ _ _ _ _ _ _ _ laid kept (between-laps x y rows coming octets s follow a p laps_are w lap last) (fits-alone y _ _ _ _ _ laid none),
      between-view x y rows coming _ _ value view_is on last w laid,
    )
