-- Weaving a row from its end, item by item.
use Rattle.std.proofs.Common.{false, ◌≡◌, ℕ, suc, ◌+◌, ◌-◌, ◌<◌, ◌≤◌, List, [], ◌∷◌, ◌++◌, length, map, take, drop, get_or, refl, sym, ap, ap₂, ◌∙◌, subst, arith, append-nil, length-append, take-append-drop}
use Rattle.std.proofs.Math.Seq.{drop-cons, take-suc}
use Rattle.std.proofs.lemmas.List.{length-map, get_or-map, length-take-le, take_all, drop_all, take-take, take_at, drop_at, take-map, map-append}
use Rattle.amqp_frame.specs.Frame.{Frame, octets}
use Rattle.amqp_frame.specs.Splitting.{stream}
use Rattle.amqp_frame.specs.declared.frames.FrameKind.TheVariants.{Method}
use Rattle.amqp_outbox.specs.OutboxSlots.{slot_of, slot_length, slots_length, slots_in, frame_in}
use Rattle.amqp_outbox.specs.OutboxWeaving.{woven, Follow, places_of, waiting_of, slots_of}
use Rattle.amqp_outbox.specs.declared.slots.Waiting.{Waiting}
use Rattle.amqp_outbox.specs.declared.weaving.Coming.{Coming}
use Rattle.amqp_outbox.proofs.OutboxRows.{stream-append, length-octets, slots_length-row}
use Rattle.amqp_outbox.proofs.OutboxSlots.{slots_length-append, slots_length-part}
use Rattle.amqp_outbox.proofs.OutboxWaiting.{count-slots, length-next, length-most}
use Rattle.amqp_outbox.proofs.Woven.{Weaving, weaving_begun, weaving_more, weaving_done, follow_last, follow_lower, follow_within}

-- what a slice gives beyond its end
abbrev pub no_coming : Coming
no_coming = record { waiting = record { slot = record { size = 0; channel = 0; kind = Method; leaving = false }; lap = 0 }; place = 0 }

-- which frames are still to be put, and up to where the row is left
pub record IsLeft (coming : List Coming) (left end all : ℕ) : Type 0 where
  pub few : left ≤ length coming
  pub before : Follow 0 end (take left (places_of coming))
  pub after : Follow end all (drop left (places_of coming))

pub left-begun : (coming : List Coming) (left end : ℕ) → left ≡ length coming → Follow 0 end (places_of coming) → IsLeft coming left end end
left-begun coming left end e follow =
    let n = length-map coming (λ (c : Coming). c.place) in
    record {
      few = omega arith;
      before = subst (λ (ps : List ℕ). Follow 0 end ps) (sym (take_all left (places_of coming) (omega arith))) follow;
      after = subst (λ (ps : List ℕ). Follow end end ps) (sym (drop_all left (places_of coming) (omega arith))) (let h : end ≤ end = omega arith in h);
    }

-- the last of the frames that are left
pub record LastLeft (coming : List Coming) (left k end all : ℕ) (next : Coming) : Type 0 where
  pub within : next.place ≤ end
  pub end_within : end ≤ all
  pub places_are : drop k (places_of coming) ≡ next.place ∷ drop left (places_of coming)
  pub taken : take left coming ≡ take k coming ++ next ∷ []
  pub dropped : drop k coming ≡ next ∷ drop left coming
  pub after : IsLeft coming k next.place all

pub last-left : (coming : List Coming) (left k end all : ℕ) (next d : Coming) → left ≡ k + 1 → next ≡ get_or coming k d → IsLeft coming left end all → LastLeft coming left k end all next
last-left coming left k end all next d e next_is l =
    let few = l.few in
    let within : k < length coming = omega arith in
    let left_is : left ≡ suc k = omega arith in
    let places = places_of coming in
    let many = length-map coming (λ (c : Coming). c.place) in
    let place_is : get_or places k next.place ≡ next.place = get_or-map (λ (c : Coming). c.place) coming k d next.place within ∙ ap (λ (c : Coming). c.place) (sym next_is) in
    let f = follow_last k 0 end places next.place (omega arith) (subst (λ (n : ℕ). Follow 0 end (take n places)) left_is l.before) in
    let there : next.place ≤ end = subst (λ (n : ℕ). n ≤ end) place_is f.1 in
    let before : Follow 0 next.place (take k places) = subst (λ (n : ℕ). Follow 0 n (take k places)) place_is f.0 in
    let places_are : drop k places ≡ next.place ∷ drop left places = drop-cons places k next.place (omega arith) ∙ ap₂ (λ p n. p ∷ drop n places) place_is (sym left_is) in
    let later : Follow next.place all (drop left places) = follow_lower next.place end all (drop left places) there l.after in
    record {
      within = there;
      end_within = follow_within end all (drop left places) l.after;
      places_are = places_are;
      taken = ap (λ n. take n coming) left_is ∙ (take-suc coming k d within ∙ ap (λ c. take k coming ++ c ∷ []) (sym next_is));
      dropped = drop-cons coming k d within ∙ ap₂ (λ c n. c ∷ drop n coming) (sym next_is) (sym left_is);
      after = record {
        few = omega arith;
        before = before;
        after = subst (λ (ps : List ℕ). Follow next.place all ps) (sym places_are) (let h : next.place ≤ next.place = omega arith in (h, later));
      };
    }

-- the octets of a row, of which these are left, and those of the frames that are left
pub record Octets (begun : ℕ) (row : List Waiting) (coming : List Coming) (row_end left end hole : ℕ) : Type 0 where
  pub left_is : IsLeft coming left row_end (length row)
  pub end_is : end ≡ begun + slots_length (take row_end (slots_in row))
  pub hole_is : hole ≡ slots_length (take left (slots_of coming))

pub octets-begun : (begun : ℕ) (row : List Waiting) (coming : List Coming) (row_end left end hole : ℕ) → left ≡ length coming → row_end ≡ length row → Follow 0 (length row) (places_of coming)
    → end ≡ begun + slots_length (slots_in row) → hole ≡ slots_length (slots_of coming) → Octets begun row coming row_end left end hole
octets-begun begun row coming row_end left end hole e f follow g h =
    let n = count-slots row in
    let m = count-slots (waiting_of coming) in
    let m2 = length-map coming (λ (c : Coming). c.waiting) in
    let b = left-begun coming left (length row) e follow in
    record {
      left_is = subst (λ (k : ℕ). IsLeft coming left k (length row)) (sym f) b;
      end_is = g ∙ ap (λ xs. begun + slots_length xs) (sym (take_all row_end (slots_in row) (omega arith)));
      hole_is = h ∙ ap slots_length (sym (take_all left (slots_of coming) (omega arith)));
    }

-- a frame less is left
pub record OctetsNext (begun : ℕ) (row : List Waiting) (coming : List Coming) (row_end left k end hole count moved : ℕ) (next : Coming) : Type 0 where
  pub last : LastLeft coming left k row_end (length row) next
  pub total : end - begun ≡ slots_length (take row_end (slots_in row))
  pub moved_within : moved ≤ end - begun
  pub fits : count ≤ hole
  pub place_is : end - moved ≡ begun + slots_length (take next.place (slots_in row))
  pub after : Octets begun row coming next.place k (end - moved) (hole - count)

slots-taken_coming : (coming : List Coming) (n : ℕ) → slots_of (take n coming) ≡ take n (slots_of coming)
slots-taken_coming coming n = ap slots_in (sym (take-map (λ (c : Coming). c.waiting) n coming)) ∙ sym (take-map (λ (w : Waiting). w.slot) n (waiting_of coming))

-- the length of what moves, where the row ends at a place
pub run-length : (row : List Waiting) (p end moved : ℕ) → p ≤ end → moved ≡ slots_length (drop p (slots_in (take end row))) → slots_length (take p (slots_in row)) + moved ≡ slots_length (take end (slots_in row))
run-length row p end moved h e =
    let slots = slots_in row in
    let taken : slots_in (take end row) ≡ take end slots = sym (take-map (λ (w : Waiting). w.slot) end row) in
    let a = ap (λ xs. slots_length (drop p xs)) taken in
    let b = slots_length-part (take end slots) p in
    let c = ap slots_length (take-take p end slots h) in
    omega arith

pub octets-next : (begun : ℕ) (row : List Waiting) (coming : List Coming) (row_end left k end hole count moved : ℕ) (next d : Coming) → left ≡ k + 1 → next ≡ get_or coming k d → count ≡ slot_length next.waiting.slot
    → moved ≡ slots_length (drop next.place (slots_in (take row_end row))) → Octets begun row coming row_end left end hole → OctetsNext begun row coming row_end left k end hole count moved next
octets-next begun row coming row_end left k end hole count moved next d e next_is count_is moved_is o =
    let l = last-left coming left k row_end (length row) next d e next_is o.left_is in
    let r = run-length row next.place row_end moved l.within moved_is in
    let a = o.end_is in
    let b = o.hole_is in
    let parted : take left (slots_of coming) ≡ take k (slots_of coming) ++ next.waiting.slot ∷ [] =
    sym (slots-taken_coming coming left)
    ∙ (ap slots_of l.taken
    ∙ (ap slots_in (map-append (λ (c : Coming). c.waiting) (take k coming) (next ∷ []))
    ∙ (map-append (λ (w : Waiting). w.slot) (waiting_of (take k coming)) (next.waiting ∷ [])
    ∙ ap (λ xs. xs ++ next.waiting.slot ∷ []) (slots-taken_coming coming k)))) in
    let s = ap slots_length parted ∙ slots_length-append (take k (slots_of coming)) (next.waiting.slot ∷ []) in
    let one : slots_length (next.waiting.slot ∷ []) ≡ slot_length next.waiting.slot = omega arith in
    let place_is : end - moved ≡ begun + slots_length (take next.place (slots_in row)) = omega arith in
    record {
      last = l;
      total = omega arith;
      moved_within = omega arith;
      fits = omega arith;
      place_is = place_is;
      after = record { left_is = l.after; end_is = place_is; hole_is = omega arith };
    }

one-frame : (f : Frame) → stream (f ∷ []) ≡ octets f
one-frame f = append-nil (octets f)

-- what the octets are by then
pub octets-woven : (begun : ℕ) (row : List Waiting) (coming : List Coming) (row_end left k end hole count moved : ℕ) (next d : Coming) (frames now new part before after : List ℕ) (rows puts : List Frame)
    → left ≡ k + 1 → next ≡ get_or coming k d → count ≡ slot_length next.waiting.slot → moved ≡ slots_length (drop next.place (slots_in (take row_end row)))
    → Octets begun row coming row_end left end hole
    → slots_in row ≡ map slot_of rows → slots_of coming ≡ map slot_of puts → frames ≡ stream puts → length before ≡ begun
    → part ≡ take (hole - (hole - count)) (drop (hole - count) frames)
    → take (end - moved) new ≡ take (end - moved) now → drop (end - moved + hole - length part) new ≡ part ++ (drop (end - moved) (take end now) ++ drop (end + hole) now)
    → Weaving stream before after (places_of coming) puts rows left row_end end hole now
    → Weaving stream before after (places_of coming) puts rows k next.place (end - moved) (hole - count) new
octets-woven begun row coming row_end left k end hole count moved next d frames now new part before after rows puts e next_is count_is moved_is o rows_are puts_are frames_are size part_is kept opened w =
    let n = octets-next begun row coming row_end left k end hole count moved next d e next_is count_is moved_is o in
    let l = n.last in
    let few = o.left_is.few in
    let many : length coming ≡ length puts = sym (length-map coming (λ (c : Coming). c.waiting)) ∙ (sym (count-slots (waiting_of coming)) ∙ (ap length puts_are ∙ length-map puts slot_of)) in
    let none = frame_in next.waiting.slot [] in
    let within : k < length puts = omega arith in
    let f = get_or puts k none in
    let left_is : left ≡ suc k = omega arith in
    let dropped : drop k puts ≡ f ∷ drop left puts = drop-cons puts k none within ∙ ap (λ m. f ∷ drop m puts) (sym left_is) in
    let taken : take left puts ≡ take k puts ++ f ∷ [] = ap (λ m. take m puts) left_is ∙ take-suc puts k none within in
    let holes : hole ≡ length (stream (take left puts)) = w.hole_is in
    let s = ap length (ap stream taken ∙ stream-append (take k puts) (f ∷ [])) ∙ length-append (stream (take k puts)) (stream (f ∷ [])) in
    let one = ap length (one-frame f) ∙ length-octets f in
    let slot_is : next.waiting.slot ≡ slot_of f =
    ap (λ (c : Coming). c.waiting.slot) next_is
    ∙ (sym (get_or-map (λ (x : Waiting). x.slot) (waiting_of coming) k d.waiting d.waiting.slot (let m = length-map coming (λ (c : Coming). c.waiting) in omega arith) ∙ ap (λ (x : Waiting). x.slot) (get_or-map (λ (c : Coming). c.waiting) coming k d d.waiting (omega arith)))
    ∙ (ap (λ xs. get_or xs k d.waiting.slot) puts_are ∙ get_or-map slot_of puts k none d.waiting.slot within)) in
    let count2 : count ≡ length (octets f) = count_is ∙ (ap slot_length slot_is ∙ sym (length-octets f)) in
    let hole_left : hole - count ≡ length (stream (take k puts)) = let len = length-octets f in omega arith in
    let whole : frames ≡ stream (take k puts) ++ (octets f ++ stream (drop left puts)) =
    frames_are
    ∙ (ap stream (sym (take-append-drop k puts)) ∙ (stream-append (take k puts) (drop k puts) ∙ ap (λ fs. stream (take k puts) ++ stream fs) dropped)) in
    let part_is2 : part ≡ octets f =
    part_is
    ∙ (ap (take (hole - (hole - count))) (ap (drop (hole - count)) whole ∙ drop_at (stream (take k puts)) (octets f ++ stream (drop left puts)) (hole - count) (sym hole_left))
    ∙ take_at (octets f) (stream (drop left puts)) (hole - (hole - count)) (let h = n.fits in omega arith)) in
    let part_length : length part ≡ count = ap length part_is2 ∙ sym count2 in
    let rows_length : slots_length (take next.place (slots_in row)) ≡ length (stream (take next.place rows)) =
    ap (λ xs. slots_length (take next.place xs)) rows_are ∙ (ap slots_length (take-map slot_of next.place rows) ∙ slots_length-row (take next.place rows)) in
    let place_is : end - moved ≡ length before + length (stream (take next.place rows)) = let h = n.place_is in omega arith in
    let rows_many : length row ≡ length rows = sym (count-slots row) ∙ (ap length rows_are ∙ length-map rows slot_of) in
    let follow : Follow row_end (length rows) (drop left (places_of coming)) = subst (λ (m : ℕ). Follow row_end m (drop left (places_of coming))) rows_many o.left_is.after in
    let done = weaving_more stream refl stream-append before after (places_of coming) puts rows left row_end end hole k next.place (end - moved) now new part f
    e l.places_are dropped taken l.within follow (one-frame f ∙ sym part_is2) place_is kept opened w in
    subst (λ (m : ℕ). Weaving stream before after (places_of coming) puts rows k next.place (end - moved) (hole - m) new) part_length done

-- before any frame is put
pub octets-start : (row : List Waiting) (coming : List Coming) (begun row_end left end hole : ℕ) (frames now before dropped after : List ℕ) (rows puts : List Frame)
    → left ≡ length coming → row_end ≡ length row → end ≡ begun + slots_length (slots_in row) → hole ≡ length frames
    → slots_in row ≡ map slot_of rows → slots_of coming ≡ map slot_of puts → frames ≡ stream puts → length before ≡ begun → length dropped ≡ length frames
    → now ≡ before ++ (stream rows ++ (dropped ++ after))
    → Weaving stream before after (places_of coming) puts rows left row_end end hole now
octets-start row coming begun row_end left end hole frames now before dropped after rows puts e f g h rows_are puts_are frames_are size dropped_size now_is =
    let many : length coming ≡ length puts = sym (length-map coming (λ (c : Coming). c.waiting)) ∙ (sym (count-slots (waiting_of coming)) ∙ (ap length puts_are ∙ length-map puts slot_of)) in
    let many2 = length-map coming (λ (c : Coming). c.place) in
    let rows_many : length row ≡ length rows = sym (count-slots row) ∙ (ap length rows_are ∙ length-map rows slot_of) in
    let rows_length = ap slots_length rows_are ∙ slots_length-row rows in
    let frames_length = ap length frames_are in
    weaving_begun stream refl before after dropped (places_of coming) puts rows left row_end end hole now (omega arith) (omega arith) (omega arith) (omega arith) (omega arith) (omega arith) now_is

-- once all are put
pub octets-end : (row : List Waiting) (coming : List Coming) (begun row_end left end hole : ℕ) (now before after : List ℕ) (rows puts : List Frame)
    → left ≡ 0 → slots_in row ≡ map slot_of rows → Octets begun row coming row_end left end hole
    → Weaving stream before after (places_of coming) puts rows left row_end end hole now
    → now ≡ before ++ (stream (woven 0 (places_of coming) puts rows) ++ after)
octets-end row coming begun row_end left end hole now before after rows puts e rows_are o w =
    let rows_many : length row ≡ length rows = sym (count-slots row) ∙ (ap length rows_are ∙ length-map rows slot_of) in
    let follow : Follow row_end (length rows) (drop 0 (places_of coming)) = subst (λ (n : ℕ). Follow row_end (length rows) (drop n (places_of coming))) e (subst (λ (m : ℕ). Follow row_end m (drop left (places_of coming))) rows_many o.left_is.after) in
    weaving_done stream refl stream-append before after (places_of coming) puts rows row_end end hole now follow (subst (λ (n : ℕ). Weaving stream before after (places_of coming) puts rows n row_end end hole now) e w)

-- slots are items themselves
abbrev pub themselves : List Waiting → List Waiting
themselves slots = slots

pub slots-start : (coming : List Coming) (begun arranged left end : ℕ) (now before row dropped after : List Waiting) → left ≡ length coming → end ≡ arranged → length before ≡ begun → begun + length row ≡ arranged
    → length dropped ≡ length coming → now ≡ before ++ (row ++ (dropped ++ after)) → Weaving themselves before after (places_of coming) (waiting_of coming) row left (end - begun) end left now
slots-start coming begun arranged left end now before row dropped after e f g h i now_is =
    let many = length-map coming (λ (c : Coming). c.waiting) in
    let many2 = length-map coming (λ (c : Coming). c.place) in
    let size : length (themselves row) ≡ length row = refl in
    let size2 : length (themselves (waiting_of coming)) ≡ length (waiting_of coming) = refl in
    weaving_begun themselves refl before after dropped (places_of coming) (waiting_of coming) row left (end - begun) end left now (omega arith) (omega arith) (omega arith) (omega arith) (omega arith) (omega arith) now_is

pub slots-woven : (coming : List Coming) (begun arranged left k end : ℕ) (next d : Coming) (now new part before row after : List Waiting) → left ≡ k + 1 → next ≡ get_or coming k d → length before ≡ begun → begun + length row ≡ arranged → begun ≤ end
    → IsLeft coming left (end - begun) (arranged - begun) → part ≡ next.waiting ∷ []
    → take (begun + next.place) new ≡ take (begun + next.place) now
    → drop (begun + next.place + left - length part) new ≡ part ++ (drop (begun + next.place) (take end now) ++ drop (end + left) now)
    → Weaving themselves before after (places_of coming) (waiting_of coming) row left (end - begun) end left now
    → Weaving themselves before after (places_of coming) (waiting_of coming) row k (begun + next.place - begun) (begun + next.place) k new
slots-woven coming begun arranged left k end next d now new part before row after e next_is size whole order l part_is kept opened w =
    let n = last-left coming left k (end - begun) (arranged - begun) next d e next_is l in
    let items = waiting_of coming in
    let few = l.few in
    let many = length-map coming (λ (c : Coming). c.waiting) in
    let item : get_or items k d.waiting ≡ next.waiting = get_or-map (λ (c : Coming). c.waiting) coming k d d.waiting (omega arith) ∙ ap (λ (c : Coming). c.waiting) (sym next_is) in
    let left_is : left ≡ suc k = omega arith in
    let dropped : drop k items ≡ next.waiting ∷ drop left items = drop-cons items k d.waiting (omega arith) ∙ ap₂ (λ x m. x ∷ drop m items) item (sym left_is) in
    let taken : take left items ≡ take k items ++ next.waiting ∷ [] = ap (λ m. take m items) left_is ∙ (take-suc items k d.waiting (omega arith) ∙ ap (λ x. take k items ++ x ∷ []) item) in
    let rest : arranged - begun ≡ length row = omega arith in
    let follow : Follow (end - begun) (length row) (drop left (places_of coming)) = subst (λ (m : ℕ). Follow (end - begun) m (drop left (places_of coming))) rest l.after in
    let within = n.within in
    let end_within = n.end_within in
    let short : length (themselves (take next.place row)) ≡ next.place = length-take-le next.place row (omega arith) in
    let done = weaving_more themselves refl (λ xs ys. refl) before after (places_of coming) items row left (end - begun) end left k next.place (begun + next.place) now new part next.waiting
    e n.places_are dropped taken within follow (sym part_is) (omega arith) kept opened w in
    let one = ap length part_is in
    let k_is : left - length part ≡ k = omega arith in
    let place_is : next.place ≡ begun + next.place - begun = omega arith in
    subst (λ (m : ℕ). Weaving themselves before after (places_of coming) items row k m (begun + next.place) k new) place_is
    (subst (λ (m : ℕ). Weaving themselves before after (places_of coming) items row k next.place (begun + next.place) m new) k_is done)

pub slots-end : (coming : List Coming) (begun arranged left end : ℕ) (now before row after : List Waiting) → left ≡ 0 → length before ≡ begun → begun + length row ≡ arranged → IsLeft coming left (end - begun) (arranged - begun)
    → Weaving themselves before after (places_of coming) (waiting_of coming) row left (end - begun) end left now
    → now ≡ before ++ (woven 0 (places_of coming) (waiting_of coming) row ++ after)
slots-end coming begun arranged left end now before row after e size whole l w =
    let rest : arranged - begun ≡ length row = omega arith in
    let follow : Follow (end - begun) (length row) (drop 0 (places_of coming)) = subst (λ (n : ℕ). Follow (end - begun) (length row) (drop n (places_of coming))) e (subst (λ (m : ℕ). Follow (end - begun) m (drop left (places_of coming))) rest l.after) in
    weaving_done themselves refl (λ xs ys. refl) before after (places_of coming) (waiting_of coming) row (end - begun) end left now follow (subst (λ (n : ℕ). Weaving themselves before after (places_of coming) (waiting_of coming) row n (end - begun) end left now) e w)

-- the lengths of frames that are coming, one frame on
coming-slot : (coming : List Coming) (i : ℕ) (d : Coming) → i < length coming → get_or (waiting_of coming) i d.waiting ≡ (get_or coming i d).waiting
coming-slot coming i d h = get_or-map (λ (c : Coming). c.waiting) coming i d d.waiting h

pub coming-next : (coming : List Coming) (i total n : ℕ) (d : Coming) → i < length coming → total ≡ slots_length (take i (slots_of coming)) → n ≡ slot_length (get_or coming i d).waiting.slot → total + n ≡ slots_length (take (i + 1) (slots_of coming))
coming-next coming i total n d h e f =
    let m = length-map coming (λ (c : Coming). c.waiting) in
    length-next (waiting_of coming) i total n d.waiting (omega arith) e (f ∙ ap (λ (w : Waiting). slot_length w.slot) (sym (coming-slot coming i d h)))

pub coming-most : (coming : List Coming) (i total n : ℕ) (d : Coming) → i < length coming → total ≡ slots_length (take i (slots_of coming)) → n ≡ slot_length (get_or coming i d).waiting.slot → total + n ≤ slots_length (slots_of coming)
coming-most coming i total n d h e f =
    let m = length-map coming (λ (c : Coming). c.waiting) in
    length-most (waiting_of coming) i total n d.waiting (omega arith) e (f ∙ ap (λ (w : Waiting). slot_length w.slot) (sym (coming-slot coming i d h)))

-- what is left is some of all
pub octets-within : (begun : ℕ) (row : List Waiting) (coming : List Coming) (row_end left end hole : ℕ) → Octets begun row coming row_end left end hole
    → (hole ≤ slots_length (slots_of coming)) × (end ≤ begun + slots_length (slots_in row)) × (row_end ≤ length row)
octets-within begun row coming row_end left end hole o =
    let a = slots_length-part (slots_of coming) left in
    let b = slots_length-part (slots_in row) row_end in
    let c = o.end_is in
    let d = o.hole_is in
    (omega arith, omega arith, follow_within row_end (length row) (drop left (places_of coming)) o.left_is.after)

-- counted from where the row begins
pub place-left : (coming : List Coming) (left place begun all : ℕ) → IsLeft coming left place all → IsLeft coming left (begun + place - begun) all
place-left coming left place begun all l = let e : place ≡ begun + place - begun = omega arith in subst (λ (n : ℕ). IsLeft coming left n all) e l
