-- Items that are put among those of a row.
use Rattle.std.proofs.Common.{◌≡◌, ℕ, zero, suc, ◌+◌, ◌-◌, ◌<◌, ◌≤◌, List, [], ◌∷◌, ◌++◌, length, map, take, drop, get_or, sym, ap, ap₂, ◌∙◌, arith, append_assoc, length-append, length-drop, take-append-drop}
use Rattle.std.proofs.lemmas.List.{take_at, drop_at, length-take-le, take-take, take_all, drop_all, take-map, drop-map, map-append, drop-take}
use Rattle.amqp_outbox.specs.OutboxWeaving.{woven, Follow}

-- a part of a list, in two
pub between : {X : Type 0} (xs : List X) (n e m : ℕ) → n ≤ e → e ≤ m → m ≤ length xs → drop n (take m xs) ≡ drop n (take e xs) ++ drop e (take m xs)
between xs n e m h i j =
    let ys = take m xs in
    let size = length-take-le m xs j in
    let short : take e ys ≡ take e xs = take-take e m xs i in
    let size2 = length-take-le e ys (omega arith) in
    let size3 = length-take-le n (take e ys) (omega arith) in
    let whole : ys ≡ take n (take e ys) ++ (drop n (take e ys) ++ drop e ys) =
    sym (take-append-drop e ys) ∙ (ap (λ zs. zs ++ drop e ys) (sym (take-append-drop n (take e ys))) ∙ append_assoc (take n (take e ys)) (drop n (take e ys)) (drop e ys)) in
    ap (drop n) whole ∙ (drop_at (take n (take e ys)) (drop n (take e ys) ++ drop e ys) n size3 ∙ ap (λ zs. drop n zs ++ drop e ys) short)

pub from_on : {X : Type 0} (xs : List X) (n e : ℕ) → n ≤ e → e ≤ length xs → drop n xs ≡ drop n (take e xs) ++ drop e xs
from_on xs n e h i =
    let all : take (length xs) xs ≡ xs = take_all (length xs) xs (omega arith) in
    let b = between xs n e (length xs) h i (omega arith) in
    sym (ap (drop n) all) ∙ (b ∙ ap (λ ys. drop n (take e xs) ++ drop e ys) all)

pub none_between : {X : Type 0} (xs : List X) (n : ℕ) → n ≤ length xs → drop n (take n xs) ≡ []
none_between xs n h = drop_all n (take n xs) (let s = length-take-le n xs h in omega arith)

pub follow_within : (from end : ℕ) (places : List ℕ) → Follow from end places → from ≤ end
follow_within from end [] h = h
follow_within from end (p ∷ ps) h = let a = follow_within p end ps h.1 in let b = h.0 in omega arith

pub follow_lower : (from e end : ℕ) (places : List ℕ) → from ≤ e → Follow e end places → Follow from end places
follow_lower from e end [] l h = omega arith
follow_lower from e end (p ∷ ps) l h = let a = h.0 in (omega arith, h.1)

pub follow_push : (from at place : ℕ) (places : List ℕ) → Follow from at places → at ≤ place → Follow from place (places ++ place ∷ [])
follow_push from at place [] h l = (omega arith, omega arith)
follow_push from at place (p ∷ ps) h l = (h.0, follow_push p at place ps h.1 l)

pub follow_upper : (from at end : ℕ) (places : List ℕ) → Follow from at places → at ≤ end → Follow from end places
follow_upper from at end [] h l = omega arith
follow_upper from at end (p ∷ ps) h l = (h.0, follow_upper p at end ps h.1 l)

-- the last of some places
pub follow_last : (k from end : ℕ) (places : List ℕ) (d : ℕ) → k < length places → Follow from end (take (suc k) places) → Follow from (get_or places k d) (take k places) × (get_or places k d ≤ end)
follow_last k from end [] d h f = absurd (omega arith)
follow_last zero from end (p ∷ ps) d h f = f
follow_last (suc k) from end (p ∷ ps) d h f =
    let r = follow_last k p end ps d (omega arith) f.1 in
    ((f.0, r.0), r.1)

-- what stands before a later place is the row's
pub woven_from : {X : Type 0} (from e : ℕ) (places : List ℕ) (items row : List X) → from ≤ e → Follow e (length row) places → woven from places items row ≡ drop from (take e row) ++ woven e places items row
woven_from from e [] items row l h = from_on row from e l h
woven_from from e (p ∷ ps) [] row l h = let w = follow_within p (length row) ps h.1 in let a = h.0 in from_on row from e l (omega arith)
woven_from from e (p ∷ ps) (x ∷ xs) row l h =
    let w = follow_within p (length row) ps h.1 in
    ap (λ ys. ys ++ x ∷ woven p ps xs row) (between row from e p l h.0 w) ∙ append_assoc (drop from (take e row)) (drop e (take p row)) (x ∷ woven p ps xs row)

-- what stands after all places is the row's
pub woven_until : {X : Type 0} (from at : ℕ) (places : List ℕ) (items row : List X) → Follow from at places → at ≤ length row → woven from places items row ≡ woven from places items (take at row) ++ drop at row
woven_until from at [] items row h l = from_on row from at h l
woven_until from at (p ∷ ps) [] row h l = let w = follow_within p at ps h.1 in let a = h.0 in from_on row from at (omega arith) l
woven_until from at (p ∷ ps) (x ∷ xs) row h l =
    let w = follow_within p at ps h.1 in
    let same : take p (take at row) ≡ take p row = take-take p at row w in
    ap₂ (λ ys zs. drop from ys ++ x ∷ zs) (sym same) (woven_until p at ps xs row h.1 l)
    ∙ sym (append_assoc (drop from (take p (take at row))) (x ∷ woven p ps xs (take at row)) (drop at row))

-- one item more, after the others
pub woven_push : {X : Type 0} (from at place : ℕ) (places : List ℕ) (items row : List X) (x : X) → length items ≡ length places → Follow from at places → at ≤ place → place ≤ length row
    → woven from (places ++ place ∷ []) (items ++ x ∷ []) (take place row) ≡ woven from places items (take at row) ++ (drop at (take place row) ++ x ∷ [])
woven_push from at place [] [] row x e h l w =
    let same : take place (take place row) ≡ take place row = take-take place place row (omega arith) in
    ap₂ (λ ys zs. drop from ys ++ x ∷ zs) same (none_between row place w)
    ∙ (ap (λ ys. ys ++ x ∷ []) (between row from at place h l w) ∙ append_assoc (drop from (take at row)) (drop at (take place row)) (x ∷ []))
woven_push from at place [] (y ∷ ys) row x e h l w = absurd (omega arith)
woven_push from at place (p ∷ ps) [] row x e h l w = absurd (omega arith)
woven_push from at place (p ∷ ps) (y ∷ ys) row x e h l w =
    let v = follow_within p at ps h.1 in
    let same : take p (take place row) ≡ take p (take at row) = take-take p place row (omega arith) ∙ sym (take-take p at row v) in
    ap₂ (λ zs ws. drop from zs ++ y ∷ ws) same (woven_push p at place ps ys row x (omega arith) h.1 l w)
    ∙ sym (append_assoc (drop from (take p (take at row))) (y ∷ woven p ps ys (take at row)) (drop at (take place row) ++ x ∷ []))

pub woven_map : {X Y : Type 0} (g : X → Y) (from : ℕ) (places : List ℕ) (items row : List X) → map g (woven from places items row) ≡ woven from places (map g items) (map g row)
woven_map g from [] items row = sym (drop-map g from row)
woven_map g from (p ∷ ps) [] row = sym (drop-map g from row)
woven_map g from (p ∷ ps) (x ∷ xs) row =
    map-append g (drop from (take p row)) (x ∷ woven p ps xs row)
    ∙ ap₂ (λ ys zs. ys ++ g x ∷ zs) (sym (drop-map g from (take p row)) ∙ ap (drop from) (sym (take-map g p row))) (woven_map g p ps xs row)

pub woven_length : {X : Type 0} (from : ℕ) (places : List ℕ) (items row : List X) → length items ≡ length places → Follow from (length row) places → from + length (woven from places items row) ≡ length row + length items
woven_length from [] [] row e h = let d = length-drop from row in omega arith
woven_length from [] (x ∷ xs) row e h = absurd (omega arith)
woven_length from (p ∷ ps) [] row e h = absurd (omega arith)
woven_length from (p ∷ ps) (x ∷ xs) row e h =
    let w = follow_within p (length row) ps h.1 in
    let a = h.0 in
    let n = woven_length p ps xs row (omega arith) h.1 in
    let t = length-take-le p row w in
    let d = length-drop from (take p row) in
    let s = length-append (drop from (take p row)) (x ∷ woven p ps xs row) in
    omega arith

-- what is known while a row is woven from its end, and its parts are the items of lists
pub record Weaving {X Y : Type 0} (parts : List X → List Y) (before after : List Y) (places : List ℕ) (items row : List X) (left end to hole : ℕ) (now : List Y) : Type 0 where
  pub to_is : to ≡ length before + length (parts (take end row))
  pub hole_is : hole ≡ length (parts (take left items))
  pub before_is : take to now ≡ before ++ parts (take end row)
  pub after_is : drop (to + hole) now ≡ parts (woven end (drop left places) (drop left items) row) ++ after

pub weaving_begun : {X Y : Type 0} (parts : List X → List Y) → parts [] ≡ []
    → (before after dropped : List Y) (places : List ℕ) (items row : List X) (left end to hole : ℕ) (now : List Y) → left ≡ length items → left ≡ length places → end ≡ length row
    → to ≡ length before + length (parts row) → hole ≡ length (parts items) → hole ≡ length dropped → now ≡ before ++ (parts row ++ (dropped ++ after))
    → Weaving parts before after places items row left end to hole now
weaving_begun parts none before after dropped places items row left end to hole now a b c d e f now_is =
    let all : take end row ≡ row = take_all end row (omega arith) in
    let all2 : take left items ≡ items = take_all left items (omega arith) in
    let size = length-append before (parts row) in
    let size2 = length-append (before ++ parts row) dropped in
    let grouped : now ≡ (before ++ parts row) ++ (dropped ++ after) = now_is ∙ sym (append_assoc before (parts row) (dropped ++ after)) in
    let grouped2 : now ≡ ((before ++ parts row) ++ dropped) ++ after = grouped ∙ sym (append_assoc (before ++ parts row) dropped after) in
    let none_left : woven end (drop left places) (drop left items) row ≡ [] = ap (λ ps. woven end ps (drop left items) row) (drop_all left places (omega arith)) ∙ drop_all end row (omega arith) in
    record {
      to_is = d ∙ ap (λ ys. length before + length (parts ys)) (sym all);
      hole_is = e ∙ ap (λ ys. length (parts ys)) (sym all2);
      before_is = ap (take to) grouped ∙ (take_at (before ++ parts row) (dropped ++ after) to (omega arith) ∙ ap (λ ys. before ++ parts ys) (sym all));
      after_is = ap (drop (to + hole)) grouped2 ∙ (drop_at ((before ++ parts row) ++ dropped) after (to + hole) (omega arith) ∙ ap (λ ys. ys ++ after) (sym (ap parts none_left ∙ none)));
    }

-- the items of the row from a place on move up, and the last item that is left is put before them
pub weaving_more : {X Y : Type 0} (parts : List X → List Y) → parts [] ≡ [] → ((xs ys : List X) → parts (xs ++ ys) ≡ parts xs ++ parts ys)
    → (before after : List Y) (places : List ℕ) (items row : List X) (left end to hole k p place : ℕ) (now new part : List Y) (x : X)
    → left ≡ k + 1 → drop k places ≡ p ∷ drop left places → drop k items ≡ x ∷ drop left items → take left items ≡ take k items ++ x ∷ []
    → p ≤ end → Follow end (length row) (drop left places) → parts (x ∷ []) ≡ part → place ≡ length before + length (parts (take p row))
    → take place new ≡ take place now → drop (place + hole - length part) new ≡ part ++ (drop place (take to now) ++ drop (to + hole) now)
    → Weaving parts before after places items row left end to hole now
    → Weaving parts before after places items row k p place (hole - length part) new
weaving_more parts none app before after places items row left end to hole k p place now new part x left_is places_are items_are taken l follow part_is place_is kept opened w =
    let within = follow_within end (length row) (drop left places) follow in
    let run = drop p (take end row) in
    let short : take p (take end row) ≡ take p row = take-take p end row l in
    let parted : take end row ≡ take p row ++ run = sym (take-append-drop p (take end row)) ∙ ap (λ ys. ys ++ run) short in
    let octets : parts (take end row) ≡ parts (take p row) ++ parts run = ap parts parted ∙ app (take p row) run in
    let size = ap length octets ∙ length-append (parts (take p row)) (parts run) in
    let holes = ap length (ap parts taken ∙ app (take k items) (x ∷ [])) ∙ length-append (parts (take k items)) (parts (x ∷ [])) in
    let one = ap length part_is in
    let a = w.to_is in
    let b = w.hole_is in
    let size2 = length-append before (parts (take p row)) in
    let prefix : take to now ≡ (before ++ parts (take p row)) ++ parts run = w.before_is ∙ (ap (λ ys. before ++ ys) octets ∙ sym (append_assoc before (parts (take p row)) (parts run))) in
    let moved : drop place (take to now) ≡ parts run = ap (drop place) prefix ∙ drop_at (before ++ parts (take p row)) (parts run) place (omega arith) in
    let rest = woven end (drop left places) (drop left items) row in
    let done : woven p (drop k places) (drop k items) row ≡ x ∷ (run ++ rest) =
    ap₂ (λ ps xs. woven p ps xs row) places_are items_are
    ∙ (ap (λ ys. ys ++ x ∷ woven p (drop left places) (drop left items) row) (none_between row p (omega arith))
    ∙ ap (λ ys. x ∷ ys) (woven_from p end (drop left places) (drop left items) row l follow)) in
    let done_octets : parts (woven p (drop k places) (drop k items) row) ≡ part ++ (parts run ++ parts rest) =
    ap parts done ∙ (app (x ∷ []) (run ++ rest) ∙ ap₂ (λ ys zs. ys ++ zs) part_is (app run rest)) in
    let from : place + (hole - length part) ≡ place + hole - length part = omega arith in
    let shorter : take place (take to now) ≡ take place now = take-take place to now (omega arith) in
    record {
      to_is = place_is;
      hole_is = omega arith;
      before_is = kept ∙ (sym shorter ∙ (ap (take place) prefix ∙ take_at (before ++ parts (take p row)) (parts run) place (omega arith)));
      after_is =
          ap (λ n. drop n new) from
          ∙ (opened
          ∙ (ap₂ (λ ys zs. part ++ (ys ++ zs)) moved w.after_is
          ∙ (ap (λ ys. part ++ ys) (sym (append_assoc (parts run) (parts rest) after))
          ∙ (sym (append_assoc part (parts run ++ parts rest) after) ∙ ap (λ ys. ys ++ after) (sym done_octets)))));
    }

pub weaving_done : {X Y : Type 0} (parts : List X → List Y) → parts [] ≡ [] → ((xs ys : List X) → parts (xs ++ ys) ≡ parts xs ++ parts ys)
    → (before after : List Y) (places : List ℕ) (items row : List X) (end to hole : ℕ) (now : List Y) → Follow end (length row) places
    → Weaving parts before after places items row 0 end to hole now → now ≡ before ++ (parts (woven 0 places items row) ++ after)
weaving_done parts none app before after places items row end to hole now follow w =
    let h : to + hole ≡ to = let a = w.hole_is ∙ ap length none in omega arith in
    let all : woven 0 places items row ≡ take end row ++ woven end places items row = woven_from 0 end places items row (omega arith) follow in
    sym (take-append-drop to now)
    ∙ (ap₂ (λ ys zs. ys ++ zs) w.before_is (ap (λ n. drop n now) (sym h) ∙ w.after_is)
    ∙ (append_assoc before (parts (take end row)) (parts (woven end places items row) ++ after)
    ∙ ap (λ ys. before ++ ys) (sym (append_assoc (parts (take end row)) (parts (woven end places items row)) after) ∙ ap (λ ys. ys ++ after) (sym (ap parts all ∙ app (take end row) (woven end places items row))))))

-- what stands from a place to an end is moved up over a hole, and a part is copied to the end of what is left of that
spliced-at : {X : Type 0} (xs one s part copied : List X) (place end hole len to gap : ℕ) → to + length part ≡ place + hole → gap ≡ length part → s ≡ one → len ≡ length one → place ≤ end → end + hole ≤ length xs → copied ≡ part
    → one ≡ take (place + hole) xs ++ take (end - place) (drop place xs) ++ drop ((place + hole) + (end - place)) xs
    → drop to (take len ((take to s ++ (copied ++ drop gap (drop to s))) ++ drop (length (take to s ++ (copied ++ drop gap (drop to s)))) one))
    ≡ part ++ (drop place (take end xs) ++ drop (end + hole) xs)
spliced-at xs one s part copied place end hole len to gap t u e l order room c moved =
    let pre = take (place + hole) xs in
    let run = drop place (take end xs) in
    let rest = drop (end + hole) xs in
    let tail = run ++ rest in
    let size = length-take-le (place + hole) xs (omega arith) in
    let end_is : place + (end - place) ≡ end = omega arith in
    let after_is : (place + hole) + (end - place) ≡ end + hole = omega arith in
    let run_is : take (end - place) (drop place xs) ≡ run = sym (drop-take place (end - place) xs) ∙ ap (λ n. drop place (take n xs)) end_is in
    let one_is : one ≡ pre ++ tail = moved ∙ (ap₂ (λ ys n. (pre ++ ys) ++ drop n xs) run_is after_is ∙ append_assoc pre run rest) in
    let front = take to pre in
    let back = drop to pre in
    let size2 = length-take-le to pre (omega arith) in
    let size3 = length-drop to pre in
    let s_is : s ≡ front ++ (back ++ tail) = e ∙ (one_is ∙ (ap (λ ys. ys ++ tail) (sym (take-append-drop to pre)) ∙ append_assoc front back tail)) in
    let taken : take to s ≡ front = ap (take to) s_is ∙ take_at front (back ++ tail) to size2 in
    let dropped : drop to s ≡ back ++ tail = ap (drop to) s_is ∙ drop_at front (back ++ tail) to size2 in
    let after : drop gap (drop to s) ≡ tail = ap (drop gap) dropped ∙ drop_at back tail gap (omega arith) in
    let new = take to s ++ (copied ++ drop gap (drop to s)) in
    let whole : new ≡ front ++ (part ++ tail) = ap₂ (λ ys zs. ys ++ zs) taken (ap₂ (λ ys zs. ys ++ zs) c after) in
    let sizes = ap length whole ∙ length-append front (part ++ tail) in
    let sizes2 = length-append part tail in
    let sizes3 = l ∙ (ap length one_is ∙ length-append pre tail) in
    ap (drop to) (take_at new (drop (length new) one) len (omega arith) ∙ whole) ∙ drop_at front (part ++ tail) to size2

pub spliced : {X : Type 0} (xs one s part copied : List X) (place end hole len : ℕ) → s ≡ one → len ≡ length one → place ≤ end → end + hole ≤ length xs → length part ≤ hole → copied ≡ part
    → one ≡ take (place + hole) xs ++ take (end - place) (drop place xs) ++ drop ((place + hole) + (end - place)) xs
    → drop (place + hole - length part) (take len ((take (place + hole - length part) s ++ (copied ++ drop (place + hole - (place + hole - length part)) (drop (place + hole - length part) s))) ++ drop (length (take (place + hole - length part) s ++ (copied ++ drop (place + hole - (place + hole - length part)) (drop (place + hole - length part) s)))) one))
    ≡ part ++ (drop place (take end xs) ++ drop (end + hole) xs)
spliced xs one s part copied place end hole len e l order room few c moved =
    spliced-at xs one s part copied place end hole len (place + hole - length part) (place + hole - (place + hole - length part)) (omega arith) (omega arith) e l order room c moved
