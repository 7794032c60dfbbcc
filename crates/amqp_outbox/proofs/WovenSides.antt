-- The two ways of putting frames among those of a row: what waits before them moves down, or what waits after them up.
use Rattle.std.proofs.Common.{◌≡◌, ℕ, zero, suc, ◌+◌, ◌-◌, ◌<◌, ◌≤◌, List, [], ◌∷◌, ◌++◌, length, map, take, drop, get_or, refl, sym, ap, ap₂, ◌∙◌, subst, arith, append_assoc, append-nil, length-append, length-drop, take-append-drop}
use Rattle.std.proofs.lemmas.List.{take_at, drop_at, length-map, get_or-map, length-take-le, take-take, take-append-le, drop-append-le, drop-take, drop-drop}
use Rattle.amqp_frame.specs.Frame.{Frame, octets}
use Rattle.amqp_frame.specs.Splitting.{stream}
use Rattle.amqp_outbox.specs.OutboxSlots.{slot_of, slots_in, slots_length}
use Rattle.amqp_outbox.specs.OutboxWeaving.{woven, Follow, places_of, waiting_of, slots_of, WeavesIn}
use Rattle.amqp_outbox.specs.declared.slots.Waiting.{Waiting}
use Rattle.amqp_outbox.specs.declared.weaving.Coming.{Coming}
use Rattle.amqp_outbox.specs.declared.weaving.Ends.{Ends}
use Rattle.amqp_outbox.proofs.OutboxRows.{stream-append, slots_length-row}
use Rattle.amqp_outbox.proofs.OutboxSlots.{slots_length-part}
use Rattle.amqp_outbox.proofs.OutboxWaiting.{count-slots}
use Rattle.amqp_outbox.proofs.Woven.{follow_within}

-- each place is within the row
follow_at : (i from end : ℕ) (places : List ℕ) (d : ℕ) → i < length places → Follow from end places → get_or places i d ≤ end
follow_at i from end [] d h f = absurd (omega arith)
follow_at zero from end (p ∷ ps) d h f = follow_within p end ps f.1
follow_at (suc i) from end (p ∷ ps) d h f = follow_at i p end ps d (omega arith) f.1

pub place-within : (coming : List Coming) (i all : ℕ) (d : Coming) → i < length coming → Follow 0 all (places_of coming) → (get_or coming i d).place ≤ all
place-within coming i all d h f =
    let many = length-map coming (λ (c : Coming). c.place) in
    let e : get_or (places_of coming) i d.place ≡ (get_or coming i d).place = get_or-map (λ (c : Coming). c.place) coming i d d.place h in
    subst (λ (n : ℕ). n ≤ all) e (follow_at i 0 all (places_of coming) d.place (omega arith) f)

-- how many octets a row has in which frames stand at their places
pub stream_woven : (from : ℕ) (places : List ℕ) (items row : List Frame) → length items ≡ length places → Follow from (length row) places
    → length (stream (take from row)) + length (stream (woven from places items row)) ≡ length (stream row) + length (stream items)
stream_woven from [] [] row e h =
    let a = ap length (ap stream (sym (take-append-drop from row)) ∙ stream-append (take from row) (drop from row)) ∙ length-append (stream (take from row)) (stream (drop from row)) in
    let none : length (stream []) ≡ 0 = refl in
    omega arith
stream_woven from [] (x ∷ xs) row e h = absurd (omega arith)
stream_woven from (p ∷ ps) [] row e h = absurd (omega arith)
stream_woven from (p ∷ ps) (x ∷ xs) row e h =
    let n = stream_woven p ps xs row (omega arith) h.1 in
    let run = drop from (take p row) in
    let later = woven p ps xs row in
    let parted : take p row ≡ take from row ++ run = sym (take-append-drop from (take p row)) ∙ ap (λ ys. ys ++ run) (take-take from p row h.0) in
    let a = ap length (ap stream parted ∙ stream-append (take from row) run) ∙ length-append (stream (take from row)) (stream run) in
    let b = ap length (stream-append run (x ∷ later)) ∙ length-append (stream run) (stream (x ∷ later)) in
    let c = length-append (octets x) (stream later) in
    let d = length-append (octets x) (stream xs) in
    omega arith

-- of octets from those written on, the frame that is begun, and what stands after it
pub record Begins (octets ahead rest : List ℕ) (written begun : ℕ) : Type 0 where
  pub ahead_is : drop written (take begun octets) ≡ ahead
  pub rest_is : drop begun octets ≡ rest

pub begins-with : (octets ahead rest : List ℕ) (written begun : ℕ) → written + length ahead ≡ begun → drop written octets ≡ ahead ++ rest → Begins octets ahead rest written begun
begins-with octets ahead rest written begun e whole = record {
  ahead_is = ap (λ n. drop written (take n octets)) (sym e) ∙ (drop-take written (length ahead) octets ∙ (ap (take (length ahead)) whole ∙ take_at ahead rest (length ahead) refl));
  rest_is = ap (λ n. drop n octets) (sym e) ∙ (sym (drop-drop (length ahead) written octets) ∙ (ap (drop (length ahead)) whole ∙ drop_at ahead rest (length ahead) refl));
}

-- how many octets the row has then
pub lengths : (row : List Waiting) (coming : List Coming) (total : ℕ) (rows puts : List Frame) → slots_in row ≡ map slot_of rows → slots_of coming ≡ map slot_of puts → total ≡ slots_length (slots_of coming) → Follow 0 (length row) (places_of coming)
    → (length (stream (woven 0 (places_of coming) puts rows)) ≡ slots_length (slots_in row) + total) × (slots_length (slots_in row) ≡ length (stream rows)) × (total ≡ length (stream puts))
lengths row coming total rows puts rows_are puts_are total_is follow =
    let a = ap slots_length rows_are ∙ slots_length-row rows in
    let b = total_is ∙ (ap slots_length puts_are ∙ slots_length-row puts) in
    let rows_many : length row ≡ length rows = sym (count-slots row) ∙ (ap length rows_are ∙ length-map rows slot_of) in
    let many = length-map coming (λ (c : Coming). c.waiting) in
    let many2 = count-slots (waiting_of coming) in
    let many3 = ap length puts_are ∙ length-map puts slot_of in
    let many4 = length-map coming (λ (c : Coming). c.place) in
    let n = stream_woven 0 (places_of coming) puts rows (omega arith) (subst (λ (m : ℕ). Follow 0 m (places_of coming)) rows_many follow) in
    let none : length (stream (take 0 rows)) ≡ 0 = refl in
    (omega arith, a, b)

-- what octets and those that stand aside are, part by part
pub record Apart (octets aside ahead after : List ℕ) (rows puts : List Frame) (written begun : ℕ) : Type 0 where
  pub ahead_is : drop written (take begun octets) ≡ ahead
  pub row_is : drop begun octets ≡ stream rows
  pub aside_is : aside ≡ stream puts ++ after

pub apart : (octets aside ahead after : List ℕ) (rows puts : List Frame) (written begun : ℕ) → written + length ahead ≡ begun → length octets ≡ begun + length (stream rows)
    → drop written (octets ++ aside) ≡ ahead ++ (stream rows ++ (stream puts ++ after)) → Apart octets aside ahead after rows puts written begun
apart octets aside ahead after rows puts written begun e size whole =
    let f = begins-with (octets ++ aside) ahead (stream rows ++ (stream puts ++ after)) written begun e whole in
    let n = length (stream rows) in
    let left = length-drop begun octets in
    let parted : drop begun octets ++ aside ≡ stream rows ++ (stream puts ++ after) = sym (drop-append-le begun octets aside (omega arith)) ∙ f.rest_is in
    record {
      ahead_is = ap (drop written) (sym (take-append-le begun octets aside (omega arith))) ∙ f.ahead_is;
      row_is = sym (take_at (drop begun octets) aside n (omega arith)) ∙ (ap (take n) parted ∙ take_at (stream rows) (stream puts ++ after) n refl);
      aside_is = sym (drop_at (drop begun octets) aside n (omega arith)) ∙ (ap (drop n) parted ∙ drop_at (stream rows) (stream puts ++ after) n refl);
    }

pub down-weaves : (old new : Ends) (row : List Waiting) (coming : List Coming) (total : ℕ) (octets aside frames later a b c : List ℕ) → new.written ≡ old.written - total → new.begun ≡ old.begun - total → new.arranged ≡ old.arranged
    → total ≤ old.written → old.written ≤ old.begun → old.arranged ≡ old.begun + slots_length (slots_in row) → total ≡ slots_length (slots_of coming) → length octets ≡ old.arranged → Follow 0 (length row) (places_of coming)
    → frames ≡ take total aside → later ≡ drop total aside → length frames ≡ total
    → take (old.begun - total + 0) a ≡ take (old.written - total) octets ++ (drop old.written (take old.begun octets) ++ []) → drop old.begun a ≡ drop old.begun octets
    → length b ≡ length octets
    → ((after : List ℕ) (rows puts : List Frame) → slots_in row ≡ map slot_of rows → slots_of coming ≡ map slot_of puts → frames ≡ stream puts → drop old.begun a ≡ stream rows ++ after
    → b ≡ take (old.begun - length frames) a ++ (stream (woven 0 (places_of coming) puts rows) ++ after))
    → c ≡ b ++ later
    → WeavesIn old new row coming total (octets ++ aside) c
down-weaves old new row coming total octets aside frames later a b c written begun arranged room order arranged_is total_is all follow frames_are later_is frames_count settled kept count woven_is c_is =
    let size = ap length c_is ∙ length-append b later in
    record {
      written = omega arith;
      begun = omega arith;
      arranged = omega arith;
      octets_are = λ ahead after rows puts rows_are puts_are ahead_is whole.
          let n = lengths row coming total rows puts rows_are puts_are total_is follow in
          let n1 = n.1 in
          let n2 = n.2 in
          let f = apart octets aside ahead after rows puts old.written old.begun ahead_is (omega arith) whole in
          let frames_stream : frames ≡ stream puts = frames_are ∙ (ap (take total) f.aside_is ∙ take_at (stream puts) after total (sym n2)) in
          let later_after : later ≡ after = later_is ∙ (ap (drop total) f.aside_is ∙ drop_at (stream puts) after total (sym n2)) in
          let both = stream (woven 0 (places_of coming) puts rows) in
          let pre = take (old.written - total) octets in
          let size2 = length-take-le (old.written - total) octets (omega arith) in
          let same : old.begun - length frames ≡ old.begun - total + 0 = omega arith in
          let pre_is : take (old.begun - length frames) a ≡ pre ++ ahead = ap (λ n. take n a) same ∙ (settled ∙ (ap (λ ys. pre ++ (ys ++ [])) f.ahead_is ∙ ap (λ ys. pre ++ ys) (append-nil ahead))) in
          let b_is : b ≡ (pre ++ ahead) ++ both =
          woven_is [] rows puts rows_are puts_are frames_stream (kept ∙ (f.row_is ∙ sym (append-nil (stream rows))))
          ∙ ap₂ (λ ys zs. ys ++ zs) pre_is (append-nil both) in
          let all_is : c ≡ pre ++ (ahead ++ (both ++ after)) =
          c_is ∙ (ap₂ (λ ys zs. ys ++ zs) b_is later_after ∙ (append_assoc (pre ++ ahead) both after ∙ append_assoc pre ahead (both ++ after))) in
          ap (drop new.written) all_is ∙ drop_at pre (ahead ++ (both ++ after)) new.written (omega arith);
    }

pub up-weaves : (old new : Ends) (row : List Waiting) (coming : List Coming) (total : ℕ) (octets aside frames later hole a b result : List ℕ) → new.written ≡ old.written → new.begun ≡ old.begun → new.arranged ≡ old.arranged + total
    → old.written ≤ old.begun → old.arranged ≡ old.begun + slots_length (slots_in row) → total ≡ slots_length (slots_of coming) → length octets ≡ old.arranged → Follow 0 (length row) (places_of coming)
    → frames ≡ take total aside → later ≡ drop total aside → length frames ≡ total
    → a ≡ octets ++ hole → length octets + length hole ≡ old.arranged + total → b ≡ a ++ later → length result ≡ length b
    → ((before dropped after : List ℕ) (rows puts : List Frame) → slots_in row ≡ map slot_of rows → slots_of coming ≡ map slot_of puts → frames ≡ stream puts → length before ≡ old.begun → length dropped ≡ length frames
    → b ≡ before ++ (stream rows ++ (dropped ++ after)) → result ≡ before ++ (stream (woven 0 (places_of coming) puts rows) ++ after))
    → WeavesIn old new row coming total (octets ++ aside) result
up-weaves old new row coming total octets aside frames later hole a b result written begun arranged order arranged_is total_is all follow frames_are later_is frames_count a_is hole_count b_is count woven_is =
    let b_parts : b ≡ octets ++ (hole ++ later) = b_is ∙ (ap (λ ys. ys ++ later) a_is ∙ append_assoc octets hole later) in
    let size = ap length b_parts ∙ length-append octets (hole ++ later) in
    record {
      written = omega arith;
      begun = omega arith;
      arranged = omega arith;
      octets_are = λ ahead after rows puts rows_are puts_are ahead_is whole.
          let n = lengths row coming total rows puts rows_are puts_are total_is follow in
          let n1 = n.1 in
          let n2 = n.2 in
          let f = apart octets aside ahead after rows puts old.written old.begun ahead_is (omega arith) whole in
          let frames_stream : frames ≡ stream puts = frames_are ∙ (ap (take total) f.aside_is ∙ take_at (stream puts) after total (sym n2)) in
          let later_after : later ≡ after = later_is ∙ (ap (drop total) f.aside_is ∙ drop_at (stream puts) after total (sym n2)) in
          let both = stream (woven 0 (places_of coming) puts rows) in
          let front = take old.begun octets in
          let size2 = length-take-le old.begun octets (omega arith) in
          let size3 = length-take-le old.written octets (omega arith) in
          let parted : front ≡ take old.written octets ++ ahead = sym (take-append-drop old.written front) ∙ ap₂ (λ ys zs. ys ++ zs) (take-take old.written old.begun octets order) f.ahead_is in
          let octets_parts : octets ≡ front ++ stream rows = sym (take-append-drop old.begun octets) ∙ ap (λ ys. front ++ ys) f.row_is in
          let b_rows : b ≡ front ++ (stream rows ++ (hole ++ later)) = b_parts ∙ (ap (λ ys. ys ++ (hole ++ later)) octets_parts ∙ append_assoc front (stream rows) (hole ++ later)) in
          let new_is = woven_is front hole later rows puts rows_are puts_are frames_stream size2 (omega arith) b_rows in
          let all_is : result ≡ take old.written octets ++ (ahead ++ (both ++ after)) =
          new_is ∙ (ap₂ (λ ys zs. ys ++ (both ++ zs)) parted later_after ∙ append_assoc (take old.written octets) ahead (both ++ after)) in
          ap (drop new.written) all_is ∙ drop_at (take old.written octets) (ahead ++ (both ++ after)) new.written (omega arith);
    }

-- what stands from a place of a row on is some of all
pub part-within : (row : List Waiting) (place : ℕ) → slots_length (drop place (slots_in row)) ≤ slots_length (slots_in row)
part-within row place = let a = slots_length-part (slots_in row) place in omega arith
