-- What a write leaves of an output.
use Rattle.std.proofs.Common.{◌≡◌, ℕ, ◌+◌, ◌-◌, ◌<◌, ◌≤◌, Bool, true, false, cond, ◌==◌}
use Rattle.std.proofs.Common.{nat_lt, List, [], ◌∷◌, ◌++◌, length, take, drop, refl, sym, ap, ap₂}
use Rattle.std.proofs.Common.{◌∙◌, subst, arith, append_assoc, append-nil, length-append, drop-drop}
use Rattle.std.proofs.Common.{take-append-drop, ltb-true, ltb-false, eqb-true}
use Rattle.std.proofs.lemmas.Bool.{eqb-false}
use Rattle.std.proofs.lemmas.List.{append_cancel_left, append_cancel_right, drop_at, drop-append-le, drop_all}
use Rattle.amqp_frame.specs.Frame.{Frame, octets, frame_length}
use Rattle.amqp_frame.specs.Splitting.{stream}
use Rattle.amqp_model.specs.Output.Arrangement.{last_after, last_after_all, IsArranged}
use Rattle.amqp_model.specs.Output.Outputs.{Output, output_octets, begun_on_after, Writes, row_after_writing}
use Rattle.amqp_model.specs.Output.Outputs.{after_writing}
use Rattle.amqp_model.proofs.Rows.{begun-arranged}

pub length-octets : (f : Frame) → length (octets f) ≡ frame_length f
unfolding octets
length-octets f = simp length-append (omega arith)

pub stream-append : (xs ys : List Frame) → stream (xs ++ ys) ≡ stream xs ++ stream ys
stream-append [] ys = refl
stream-append (f ∷ xs) ys =
    ap (λ l. octets f ++ l) (stream-append xs ys) ∙ sym (append_assoc (octets f) (stream xs) (stream ys))

-- an output of which no frame is begun
abbrev pub waiting : (begun_on last : ℕ) → List Frame → Output
waiting begun_on last row = record { ahead = []; begun_on = begun_on; last = last; row = row }

pub nothing-before : {A : Type 0} (before later : List A) (x : A) → [] ≡ before ++ x ∷ later → ⊥
nothing-before [] later x e = cc
nothing-before (y ∷ before) later x e = cc

row-writes : (n on last : ℕ) (row : List Frame) → n ≤ length (stream row)
    → Writes n (waiting on last row) (row_after_writing n on last row)
row-writes n on last [] l = record {
  begun = [];
  row_is = refl;
  all_begun = λ before later f e. absurd (nothing-before before later f e);
  no_more_begun = l;
  begun_on_is = refl;
  last_is = refl;
  octets_are = sym (drop_all n [] (omega arith));
}
row-writes n on last (f ∷ later) l =
    cases (n == 0) refl (nat_lt n (frame_length f)) refl
    (row-writes (n - frame_length f) f.channel (last_after last f) later)
  where
    size : length (octets f ++ stream later) ≡ frame_length f + length (stream later)
    size = length-append (octets f) (stream later) ∙ ap (λ m. m + length (stream later)) (length-octets f)

    none : n ≡ 0 → Writes n (waiting on last (f ∷ later)) (waiting on last (f ∷ later))
    none z = record {
      begun = [];
      row_is = refl;
      all_begun = λ before rest g e. absurd (nothing-before before rest g e);
      no_more_begun = omega arith;
      begun_on_is = refl;
      last_is = refl;
      octets_are = sym (ap (λ m. drop m (octets f ++ stream later)) z);
    }

    first : (before rest : List Frame) (g : Frame) → 0 < n → f ∷ [] ≡ before ++ g ∷ rest
        → length (stream before) < n
    first [] rest g p e = p
    first (h ∷ before) rest g p e =
        absurd (nothing-before before rest g (let k : [] ≡ before ++ g ∷ rest = cc in k))

    part : 0 < n → n < frame_length f
        → Writes n (waiting on last (f ∷ later)) (record {
          ahead = drop n (octets f);
          begun_on = f.channel;
          last = last_after last f;
          row = later;
        })
    part p h = record {
      begun = f ∷ [];
      row_is = refl;
      all_begun = λ before rest g e. first before rest g p e;
      no_more_begun = let s = length-octets f in rw append-nil (omega arith);
      begun_on_is = refl;
      last_is = refl;
      octets_are = let s = length-octets f in sym (drop-append-le n (octets f) (stream later) (omega arith));
    }

    after : (begun before rest : List Frame) (g : Frame) → 0 < n → frame_length f ≤ n
        → ((before rest : List Frame) (g : Frame) → begun ≡ before ++ g ∷ rest
        → length (stream before) < n - frame_length f) → f ∷ begun ≡ before ++ g ∷ rest
        → length (stream before) < n
    after begun [] rest g p h all e = p
    after begun (x ∷ before) rest g p h all e =
        let k : begun ≡ before ++ g ∷ rest = cc in
        let same : f ≡ x = cc in
        let short = all before rest g k in
        let s = length-append (octets x) (stream before) in
        let t = length-octets f in
        let u : length (octets x) ≡ length (octets f) = ap (λ y. length (octets y)) (sym same) in
        omega arith

    more : 0 < n → frame_length f ≤ n
        → (n - frame_length f ≤ length (stream later)
        → Writes (n - frame_length f) (waiting f.channel (last_after last f) later)
        (row_after_writing (n - frame_length f) f.channel (last_after last f) later))
        → Writes n (waiting on last (f ∷ later))
        (row_after_writing (n - frame_length f) f.channel (last_after last f) later)
    more p h rest =
        let w = rest (let s = size in omega arith) in
        let m = n - frame_length f in
        let s = length-octets f in
        record {
          begun = f ∷ w.begun;
          row_is = ap (λ l. f ∷ l) w.row_is;
          all_begun = λ before rest g e. after w.begun before rest g p h w.all_begun e;
          no_more_begun =
              let few = w.no_more_begun in
              let t = length-append (octets f) (stream w.begun) in
              omega arith;
          begun_on_is = w.begun_on_is;
          last_is = w.last_is;
          octets_are =
              w.octets_are
              ∙ (sym (ap (drop m) (drop_at (octets f) (stream later) (frame_length f) s))
              ∙ (drop-drop m (frame_length f) (octets f ++ stream later)
              ∙ ap (λ k. drop k (octets f ++ stream later)) (omega arith)));
        }

    cases : (none_written : Bool) → (n == 0) ≡ none_written → (inside : Bool)
        → nat_lt n (frame_length f) ≡ inside
        → (n - frame_length f ≤ length (stream later)
        → Writes (n - frame_length f) (waiting f.channel (last_after last f) later)
        (row_after_writing (n - frame_length f) f.channel (last_after last f) later))
        → Writes n (waiting on last (f ∷ later))
        (cond none_written (waiting on last (f ∷ later))
        (cond inside (record { ahead = drop n (octets f); begun_on = f.channel; last = last_after last f; row = later })
        (row_after_writing (n - frame_length f) f.channel (last_after last f) later)))
    cases true z inside i rest = none (eqb-true n 0 z)
    cases false z true i rest = let a = eqb-false n 0 z in part (omega arith) (ltb-true n (frame_length f) i)
    cases false z false i rest = let a = eqb-false n 0 z in more (omega arith) (ltb-false n (frame_length f) i) rest

-- n octets of an output are written, where it has as many
pub writes : (n : ℕ) (o : Output) → n ≤ length (output_octets o) → Writes n o (after_writing n o)
writes n o l = cases (nat_lt n (length o.ahead)) refl
  where
    size : length (output_octets o) ≡ length o.ahead + length (stream o.row)
    size = length-append o.ahead (stream o.row)

    ahead : n < length o.ahead
        → Writes n o (record { ahead = drop n o.ahead; begun_on = o.begun_on; last = o.last; row = o.row })
    ahead h = record {
      begun = [];
      row_is = refl;
      all_begun = λ before rest g e. absurd (nothing-before before rest g e);
      no_more_begun = rw append-nil (omega arith);
      begun_on_is = refl;
      last_is = refl;
      octets_are = sym (drop-append-le n o.ahead (stream o.row) (omega arith));
    }

    row : length o.ahead ≤ n → Writes n o (row_after_writing (n - length o.ahead) o.begun_on o.last o.row)
    row h =
        let w = row-writes (n - length o.ahead) o.begun_on o.last o.row (let s = size in omega arith) in
        let m = n - length o.ahead in
        record {
          begun = w.begun;
          row_is = w.row_is;
          all_begun = λ before rest g e. (let s = length-append o.ahead (stream before) in
              let few = w.all_begun before rest g e in omega arith);
          no_more_begun = (let s = length-append o.ahead (stream w.begun) in let few = w.no_more_begun in omega arith);
          begun_on_is = w.begun_on_is;
          last_is = w.last_is;
          octets_are =
              w.octets_are
              ∙ (sym (ap (drop m) (drop_at o.ahead (stream o.row) (length o.ahead) refl))
              ∙ (drop-drop m (length o.ahead) (output_octets o)
              ∙ ap (λ k. drop k (output_octets o)) (omega arith)));
        }

    cases : (inside : Bool) → nat_lt n (length o.ahead) ≡ inside
        → Writes n o
        (cond inside (record { ahead = drop n o.ahead; begun_on = o.begun_on; last = o.last; row = o.row })
        (row_after_writing (n - length o.ahead) o.begun_on o.last o.row))
    cases true i = ahead (ltb-true n (length o.ahead) i)
    cases false i = row (ltb-false n (length o.ahead) i)

-- a write leaves an arranged row
pub writes-arranged : (n : ℕ) (old new : Output) → Writes n old new → IsArranged old.last old.row
    → IsArranged new.last new.row
writes-arranged n old new w arranged =
    subst (λ last. IsArranged last new.row) (sym w.last_is)
    (begun-arranged old.last w.begun new.row (subst (IsArranged old.last) w.row_is arranged))

-- what is written and what is left are what was there
pub writes-octets : (n : ℕ) (old new : Output) → Writes n old new
    → take n (output_octets old) ++ output_octets new ≡ output_octets old
writes-octets n old new w =
    ap (λ l. take n (output_octets old) ++ l) w.octets_are ∙ take-append-drop n (output_octets old)

-- the frames that a write begins: no fewer, and no more
same-begun : (n : ℕ) (ahead : List ℕ) (begun others row rest : List Frame) → begun ++ row ≡ others ++ rest
    → ((before later : List Frame) (f : Frame) → begun ≡ before ++ f ∷ later
    → length (ahead ++ stream before) < n) → n ≤ length (ahead ++ stream begun)
    → ((before later : List Frame) (f : Frame) → others ≡ before ++ f ∷ later
    → length (ahead ++ stream before) < n) → n ≤ length (ahead ++ stream others) → begun ≡ others
same-begun n ahead [] [] row rest e all few all' few' = refl
same-begun n ahead [] (g ∷ others) row rest e all few all' few' =
    let k = all' [] others g refl in
    absurd (omega arith)
same-begun n ahead (f ∷ begun) [] row rest e all few all' few' = let k = all [] begun f refl in absurd (omega arith)
same-begun n ahead (f ∷ begun) (g ∷ others) row rest e all few all' few' =
    let first : f ≡ g = cc in
    let later : begun ++ row ≡ others ++ rest = cc in
    let same =
    same-begun n (ahead ++ octets f) begun others row rest later
    (λ before later x h. subst (λ l. length l < n) (sym (append_assoc ahead (octets f) (stream before)))
    (all (f ∷ before) later x (ap (λ l. f ∷ l) h)))
    (subst (λ l. n ≤ length l) (sym (append_assoc ahead (octets f) (stream begun))) few)
    (λ before later x h. subst (λ l. length l < n) (sym (append_assoc ahead (octets f) (stream before)))
    (all' (f ∷ before) later x (ap₂ (λ y l. y ∷ l) (sym first) h)))
    (subst (λ l. n ≤ length l) (sym (append_assoc ahead (octets f) (stream others)))
    (subst (λ y. n ≤ length (ahead ++ (octets y ++ stream others))) (sym first) few')) in
    cc

made : List ℕ → ℕ → ℕ → List Frame → Output
made ahead begun_on last row = record { ahead = ahead; begun_on = begun_on; last = last; row = row }

made-parts : (o : Output) → o ≡ made o.ahead o.begun_on o.last o.row
unfolding made
made-parts o = refl

-- a write leaves one output only
pub one-written : (n : ℕ) (old new other : Output) → Writes n old new → Writes n old other → new ≡ other
one-written n old new other w v =
    let begun : w.begun ≡ v.begun = same-begun n old.ahead w.begun v.begun new.row other.row (sym w.row_is
    ∙ v.row_is) w.all_begun w.no_more_begun v.all_begun v.no_more_begun in
    let rows : new.row ≡ other.row = append_cancel_left w.begun new.row other.row (sym w.row_is
    ∙ (v.row_is ∙ ap (λ l. l ++ other.row) (sym begun))) in
    let ons : new.begun_on ≡ other.begun_on = w.begun_on_is
    ∙ (ap (begun_on_after old.begun_on) begun ∙ sym v.begun_on_is) in
    let lasts : new.last ≡ other.last = w.last_is ∙ (ap (last_after_all old.last) begun ∙ sym v.last_is) in
    let aheads : new.ahead ≡ other.ahead = append_cancel_right new.ahead other.ahead (stream other.row)
    (ap (λ l. new.ahead ++ stream l) (sym rows) ∙ (w.octets_are ∙ sym v.octets_are)) in
    let parts : made new.ahead new.begun_on new.last new.row ≡ made other.ahead other.begun_on other.last other.row =
    cc in
    made-parts new ∙ (parts ∙ sym (made-parts other))

-- a write of nothing changes nothing
pub writes-none : (old new : Output) → Writes 0 old new → new ≡ old
writes-none old new w = one-written 0 old new old w none
  where
    none : Writes 0 old old
    none = record {
      begun = [];
      row_is = refl;
      all_begun = λ before rest g e. absurd (nothing-before before rest g e);
      no_more_begun = omega arith;
      begun_on_is = refl;
      last_is = refl;
      octets_are = refl;
    }

-- what is left ahead is what is left of the frames begun
pub writes-ahead : (n : ℕ) (old new : Output) (w : Writes n old new)
    → new.ahead ≡ drop n (old.ahead ++ stream w.begun)
writes-ahead n old new w =
    append_cancel_right new.ahead (drop n (old.ahead ++ stream w.begun)) (stream new.row)
    (w.octets_are
    ∙ (ap (drop n) (ap (λ l. old.ahead ++ l) (ap stream w.row_is ∙ stream-append w.begun new.row)
    ∙ sym (append_assoc old.ahead (stream w.begun) (stream new.row)))
    ∙ drop-append-le n (old.ahead ++ stream w.begun) (stream new.row) w.no_more_begun))
