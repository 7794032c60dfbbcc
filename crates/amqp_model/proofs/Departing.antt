-- In which order the frames leave that an end puts.
use Rattle.std.proofs.Common.{◌≡◌, ℕ, ◌+◌, ◌<◌, ◌≤◌, Bool, true, false, ◌⊎◌, inl, inr, List}
use Rattle.std.proofs.Common.{[], ◌∷◌, ◌++◌, All, length, take, refl, sym, ap, ◌∙◌, subst, subst₂}
use Rattle.std.proofs.Common.{arith, append_assoc, append-nil, length-append, length-take-le, ap₂}
use Rattle.std.proofs.lemmas.Bool.{cases_lt}
use Rattle.std.proofs.lemmas.List.{append_cancel_right}
use Rattle.std.proofs.lemmas.List.Elements.{All-nil, All-cons, All-head, All-tail, All-push, filter-append}
use Rattle.amqp_frame.specs.Frame.{Frame, Fits}
use Rattle.amqp_frame.specs.Splitting.{stream, AllFit}
use Rattle.amqp_model.specs.Output.Arrangement.{is_leaving, Queue, LeavingFrames, is_in, queued, last_after}
use Rattle.amqp_model.specs.Output.Arrangement.{last_after_all, HasChannel, Gains, placed}
use Rattle.amqp_model.specs.Output.Outputs.{Output, output_octets, after_put, after_puts, begun_on_after, Writes}
use Rattle.amqp_model.specs.Output.Departures.{before_close, KeepsOrder, IsOutputOf, PutInOrder}
use Rattle.amqp_model.specs.Output.Prefixes.{IsPrefixOf}
use Rattle.amqp_model.proofs.Turns.{last-channel, turn-leaves, turn-most}
use Rattle.amqp_model.proofs.Rows.{Place, goes_before, goes_after, place, placed-after, placed-arranged, placed-gains}
use Rattle.amqp_model.proofs.Rows.{gains-queued, same-queues-all}
use Rattle.amqp_model.specs.Output.ArrangementRules.{FollowsRules}
use Rattle.amqp_model.proofs.Rules.{arranged-rules}
use Rattle.amqp_model.proofs.Writing.{nothing-before, stream-append, writes-arranged, writes-octets}
use Rattle.amqp_model.proofs.Closes.{begins-itself, begins-through, closes_in, closes-leaving, closes-other, before-few}
use Rattle.amqp_model.proofs.Closes.{before-append, before-at, gains-before}

-- a frame that leaves the connection is placed after all others
pub placed-leaves : (last : ℕ) (f : Frame) (row : List Frame) → is_leaving f ≡ true → All HasChannel row
    → placed last f row ≡ row ++ f ∷ []
placed-leaves last f [] l cs = refl
placed-leaves last f (g ∷ rest) l cs =
    cases (place last f g) (placed-leaves (last_after last g) f rest l (All-tail HasChannel g rest cs))
  where
    cases : Place last f g → placed (last_after last g) f rest ≡ rest ++ f ∷ []
        → placed last f (g ∷ rest) ≡ g ∷ (rest ++ f ∷ [])
    cases (goes_before e h) _ =
        let a = turn-leaves last f l in
        let b = turn-most last g (All-head HasChannel g rest cs) in
        absurd (omega arith)
    cases (goes_after e h) more = placed-after last f g rest e ∙ ap (λ m. g ∷ m) more

pub gains-whole : (begun : List Frame) (f : Frame) (row more : List Frame) → Gains f row more
    → Gains f (begun ++ row) (begun ++ more)
gains-whole begun f row more gains = record {
  prefix = begun ++ gains.prefix;
  back = gains.back;
  row_is = ap (λ l. begun ++ l) gains.row_is ∙ sym (append_assoc begun gains.prefix gains.back);
  more_is = ap (λ l. begun ++ l) gains.more_is ∙ sym (append_assoc begun gains.prefix (f ∷ gains.back));
  newest = gains.newest;
}

closes-more : (put : List Frame) (f : Frame) → closes_in (put ++ f ∷ []) ≡ closes_in put + closes_in (f ∷ [])
closes-more put f =
    ap length (filter-append is_leaving put (f ∷ []))
    ∙ length-append (queued LeavingFrames put) (queued LeavingFrames (f ∷ []))

-- Frames keep their order when one more is put: it joins its queue, and after all others if it leaves the connection.
pub put-order : (f : Frame) (put old new : List Frame) → Gains f old new
    → (is_leaving f ≡ true → new ≡ old ++ f ∷ []) → KeepsOrder put old → KeepsOrder (put ++ f ∷ []) new
put-order f put old new gains leaving order =
    record {
      queues = queues;
      closes = λ k queue. cases k queue (cases_lt k (closes_in (put ++ f ∷ []))) (is_leaving f) refl;
    }
  where
    queues : (queue : Queue) → queued queue new ≡ queued queue (put ++ f ∷ [])
    queues queue =
        gains-queued f old new gains queue
        ∙ (filter-append (is_in queue) old (f ∷ [])
        ∙ (ap (λ l. l ++ queued queue (f ∷ [])) (order.queues queue)
        ∙ sym (filter-append (is_in queue) put (f ∷ []))))

    all : (k : ℕ) (queue : Queue) → closes_in (put ++ f ∷ []) ≤ k
        → IsPrefixOf (queued queue (before_close k (put ++ f ∷ []))) (queued queue (before_close k new))
    all k queue few =
        let same : closes_in new ≡ closes_in (put ++ f ∷ []) = ap length (queues LeavingFrames) in
        begins-itself _ _ (ap (queued queue) (before-few k new (omega arith))
        ∙ (queues queue ∙ sym (ap (queued queue) (before-few k (put ++ f ∷ []) few))))

    other : (k : ℕ) (queue : Queue) → k < closes_in put
        → IsPrefixOf (queued queue (before_close k old)) (queued queue (before_close k new))
        → IsPrefixOf (queued queue (before_close k (put ++ f ∷ []))) (queued queue (before_close k new))
    other k queue many begins =
        subst (λ l. IsPrefixOf (queued queue l) (queued queue (before_close k new)))
        (sym (before-append k put (f ∷ []) many))
        (begins-through (queued queue (before_close k new)) (queued queue (before_close k old))
        (queued queue (before_close k put)) begins (order.closes k queue))

    closing : (k : ℕ) (queue : Queue) → k ≤ closes_in put → is_leaving f ≡ true
        → IsPrefixOf (queued queue (before_close k (put ++ f ∷ []))) (queued queue (before_close k new))
    closing k queue few l = cases (cases_lt k (closes_in put))
      where
        cases : (k < closes_in put) ⊎ (closes_in put ≤ k)
            → IsPrefixOf (queued queue (before_close k (put ++ f ∷ []))) (queued queue (before_close k new))
        cases (inl h) =
            let same : closes_in old ≡ closes_in put = ap length (order.queues LeavingFrames) in
            other k queue h
            (begins-itself _ _ (ap (queued queue) (ap (before_close k) (leaving l)
            ∙ before-append k old (f ∷ []) (omega arith))))
        cases (inr h) =
            let same : closes_in old ≡ closes_in put = ap length (order.queues LeavingFrames) in
            begins-itself _ _ (ap (queued queue) (ap (before_close k) (leaving l)
            ∙ before-at k old [] f l (omega arith))
            ∙ (order.queues queue ∙ sym (ap (queued queue) (before-at k put [] f l (omega arith)))))

    cases : (k : ℕ) (queue : Queue) → (k < closes_in (put ++ f ∷ [])) ⊎ (closes_in (put ++ f ∷ []) ≤ k)
        → (b : Bool) → is_leaving f ≡ b
        → IsPrefixOf (queued queue (before_close k (put ++ f ∷ []))) (queued queue (before_close k new))
    cases k queue (inr few) b l = all k queue few
    cases k queue (inl many) true l =
        let m = closes-more put f in
        let one = closes-leaving f [] l in
        closing k queue (omega arith) l
    cases k queue (inl many) false l =
        let m = closes-more put f in
        let none = closes-other f [] l in
        other k queue (omega arith)
        (subst₂ (λ xs ys. IsPrefixOf (queued queue (before_close k ys)) (queued queue (before_close k xs)))
        (sym gains.more_is) (sym gains.row_is) (gains-before k queue f gains.prefix gains.back l (gains.newest queue)))

-- frames that fit, in the words of either crate
fit-all : (frames : List Frame) → AllFit frames → All Fits frames
fit-all [] fit = All-nil Fits
fit-all (f ∷ frames) fit = All-cons Fits f frames fit.0 (fit-all frames fit.1)

all-fit : (frames : List Frame) → All Fits frames → AllFit frames
all-fit [] fit = tt
all-fit (f ∷ frames) fit = (All-head Fits f frames fit, all-fit frames (All-tail Fits f frames fit))

fit-channels : (begun row : List Frame) → AllFit (begun ++ row) → All HasChannel row
fit-channels (f ∷ begun) row fit = fit-channels begun row fit.1
fit-channels [] [] fit = All-nil HasChannel
fit-channels [] (f ∷ row) fit = All-cons HasChannel f row fit.0.channel (fit-channels [] row fit.1)

last-fits : (last : ℕ) (begun row : List Frame) → last < 65536 → AllFit (begun ++ row)
    → last_after_all last begun < 65536
last-fits last [] row l fit = l
last-fits last (f ∷ begun) row l fit =
    last-fits (last_after last f) begun row (last-channel last f l fit.0.channel) fit.1

last-append : (last : ℕ) (begun more : List Frame) → last_after_all last (begun ++ more)
    ≡ last_after_all (last_after_all last begun) more
last-append last [] more = refl
last-append last (f ∷ begun) more = last-append (last_after last f) begun more

begun-append : (begun_on : ℕ) (begun more : List Frame) → begun_on_after begun_on (begun ++ more)
    ≡ begun_on_after (begun_on_after begun_on begun) more
begun-append begun_on [] more = refl
begun-append begun_on (f ∷ begun) more = begun-append f.channel begun more

-- an end begins, with the protocol header or with nothing
pub output-begins : (opening : List ℕ)
    → IsOutputOf opening [] [] (record { ahead = opening; begun_on = 0; last = 0; row = [] })
output-begins opening = record {
  begun = [];
  all_begun = λ before later f e. absurd (nothing-before before later f e);
  octets_are = sym (append-nil opening);
  begun_on_is = refl;
  last_is = refl;
  arranged = tt;
  fit = tt;
  order = record { queues = λ queue. refl; closes = λ k queue. ([], refl) };
}

output-last : (opening : List ℕ) (put : List Frame) (written : List ℕ) (o : Output)
    → IsOutputOf opening put written o → o.last < 65536
output-last opening put written o out =
    subst (λ l. l < 65536) (sym out.last_is) (last-fits 0 out.begun o.row (omega arith) out.fit)

-- a put
pub output-put : (opening : List ℕ) (put : List Frame) (written : List ℕ) (o : Output) (f : Frame)
    → IsOutputOf opening put written o → Fits f → IsOutputOf opening (put ++ f ∷ []) written (after_put f o)
output-put opening put written o f out fits =
    let channels = fit-channels out.begun o.row out.fit in
    let last = output-last opening put written o out in
    let gains = gains-whole out.begun f o.row (placed o.last f o.row) (placed-gains o.last f o.row out.arranged) in
    record {
      begun = out.begun;
      all_begun = out.all_begun;
      octets_are = out.octets_are;
      begun_on_is = out.begun_on_is;
      last_is = out.last_is;
      arranged = placed-arranged o.last f o.row last fits.channel channels out.arranged;
      fit =
          all-fit (out.begun ++ placed o.last f o.row)
          (same-queues-all Fits (out.begun ++ placed o.last f o.row) ((out.begun ++ o.row) ++ f ∷ [])
          (gains-queued f (out.begun ++ o.row) (out.begun ++ placed o.last f o.row) gains)
          (All-push Fits (out.begun ++ o.row) f (fit-all (out.begun ++ o.row) out.fit) fits));
      order =
          put-order f put (out.begun ++ o.row) (out.begun ++ placed o.last f o.row) gains
          (λ l. ap (λ m. out.begun ++ m) (placed-leaves o.last f o.row l channels)
          ∙ sym (append_assoc out.begun o.row (f ∷ [])))
          out.order;
    }

-- frames that are put one after another
pub output-puts : (opening : List ℕ) (frames put : List Frame) (written : List ℕ) (o : Output)
    → IsOutputOf opening put written o → AllFit frames
    → IsOutputOf opening (put ++ frames) written (after_puts frames o)
output-puts opening [] put written o out fit = subst (λ l. IsOutputOf opening l written o) (sym (append-nil put)) out
output-puts opening (f ∷ frames) put written o out fit =
    subst (λ l. IsOutputOf opening l written (after_puts frames (after_put f o))) (append_assoc put (f ∷ []) frames)
    (output-puts opening frames (put ++ f ∷ []) written (after_put f o)
    (output-put opening put written o f out fit.0) fit.1)

-- where one of two lists that are joined has an element
data InOne {A : Type 0} (xs ys before later : List A) (x : A) : Type 0 where
  in_first : (rest : List A) → xs ≡ before ++ x ∷ rest → InOne xs ys before later x
  in_second : (rest : List A) → before ≡ xs ++ rest → ys ≡ rest ++ x ∷ later → InOne xs ys before later x

split-append : {A : Type 0} (xs ys before later : List A) (x : A) → xs ++ ys ≡ before ++ x ∷ later
    → InOne xs ys before later x
split-append [] ys before later x e = in_second before refl e
split-append (y ∷ xs) ys [] later x e = in_first xs (let h : y ≡ x = cc in ap (λ z. z ∷ xs) h)
split-append {A} (y ∷ xs) ys (z ∷ before) later x e = more (split-append xs ys before later x cc)
  where
    same : y ≡ z
    same = cc

    more : InOne xs ys before later x → InOne (y ∷ xs) ys (z ∷ before) later x
    more (in_first rest h) = in_first rest (ap₂ (λ u l. u ∷ l) same h)
    more (in_second rest h k) = in_second rest (ap₂ (λ u l. u ∷ l) (sym same) h) k

-- the frames begun before a write and by it
write-begun : (opening : List ℕ) (put : List Frame) (written : List ℕ) (n : ℕ) (old new : Output)
    (out : IsOutputOf opening put written old) (w : Writes n old new) (before later : List Frame) (f : Frame)
    → InOne out.begun w.begun before later f
    → length (opening ++ stream before) < length (written ++ take n (output_octets old))
write-begun opening put written n old new out w before later f at = cases at
  where
    size : length (written ++ take n (output_octets old)) ≡ length written + length (take n (output_octets old))
    size = length-append written (take n (output_octets old))

    enough : n ≤ length (output_octets old)
    enough =
        let few = w.no_more_begun in
        let a = length-append old.ahead (stream w.begun) in
        let b = length-append old.ahead (stream old.row) in
        let c = length-append (stream w.begun) (stream new.row) in
        let d : length (stream old.row) ≡ length (stream w.begun ++ stream new.row) =
        ap length (ap stream w.row_is ∙ stream-append w.begun new.row) in
        omega arith

    taken : length (take n (output_octets old)) ≡ n
    taken = length-take-le n (output_octets old) enough

    cases : InOne out.begun w.begun before later f
        → length (opening ++ stream before) < length (written ++ take n (output_octets old))
    cases (in_first rest e) = let h = out.all_begun before rest f e in omega (arith, size)
    cases (in_second rest e k) =
        let h = w.all_begun rest later f k in
        let a = length-append opening (stream before) in
        let b = length-append opening (stream out.begun) in
        let c = length-append written old.ahead in
        let d = length-append old.ahead (stream rest) in
        let s : length (stream before) ≡ length (stream out.begun ++ stream rest) =
        ap length (ap stream e ∙ stream-append out.begun rest) in
        let t = length-append (stream out.begun) (stream rest) in
        let u : length (written ++ old.ahead) ≡ length (opening ++ stream out.begun) = ap length out.octets_are in
        omega (arith, size, taken)

-- a write
pub output-write : (opening : List ℕ) (put : List Frame) (written : List ℕ) (n : ℕ) (old new : Output)
    → IsOutputOf opening put written old → Writes n old new
    → IsOutputOf opening put (written ++ take n (output_octets old)) new
output-write opening put written n old new out w =
    let whole : out.begun ++ old.row ≡ (out.begun ++ w.begun) ++ new.row = ap (λ l. out.begun ++ l) w.row_is
    ∙ sym (append_assoc out.begun w.begun new.row) in
    record {
      begun = out.begun ++ w.begun;
      all_begun = λ before later f e. write-begun opening put written n old new out w before later f
          (split-append out.begun w.begun before later f e);
      octets_are =
          append_cancel_right ((written ++ take n (output_octets old)) ++ new.ahead)
          (opening ++ stream (out.begun ++ w.begun)) (stream new.row)
          (append_assoc (written ++ take n (output_octets old)) new.ahead (stream new.row)
          ∙ (append_assoc written (take n (output_octets old)) (output_octets new)
          ∙ (ap (λ l. written ++ l) (writes-octets n old new w)
          ∙ (sym (append_assoc written old.ahead (stream old.row))
          ∙ (ap (λ l. l ++ stream old.row) out.octets_are
          ∙ (append_assoc opening (stream out.begun) (stream old.row)
          ∙ (ap (λ l. opening ++ l) (sym (stream-append out.begun old.row)
          ∙ (ap stream whole ∙ stream-append (out.begun ++ w.begun) new.row))
          ∙ sym (append_assoc opening (stream (out.begun ++ w.begun)) (stream new.row)))))))));
      begun_on_is = w.begun_on_is ∙ (ap (λ c. begun_on_after c w.begun) out.begun_on_is
          ∙ sym (begun-append 0 out.begun w.begun));
      last_is = w.last_is ∙ (ap (λ l. last_after_all l w.begun) out.last_is
          ∙ sym (last-append 0 out.begun w.begun));
      arranged = writes-arranged n old new w out.arranged;
      fit = subst AllFit whole out.fit;
      order = subst (KeepsOrder put) whole out.order;
    }

output-octets : (opening : List ℕ) (put : List Frame) (written : List ℕ) (o : Output)
    (out : IsOutputOf opening put written o) → written ++ output_octets o ≡ opening ++ stream (out.begun ++ o.row)
output-octets opening put written o out =
    sym (append_assoc written o.ahead (stream o.row))
    ∙ (ap (λ l. l ++ stream o.row) out.octets_are
    ∙ (append_assoc opening (stream out.begun) (stream o.row)
    ∙ ap (λ l. opening ++ l) (sym (stream-append out.begun o.row))))

-- all octets of an end
pub output-in-order : (opening : List ℕ) (put : List Frame) (written : List ℕ) (o : Output)
    → IsOutputOf opening put written o → PutInOrder opening (written ++ output_octets o) put
output-in-order opening put written o out =
    record {
      departing = out.begun ++ o.row;
      octets_are = output-octets opening put written o out;
      fit = out.fit;
      order = out.order;
    }

-- of each queue, what was put is begun, or it waits
pub output-queues : (opening : List ℕ) (put : List Frame) (written : List ℕ) (o : Output)
    (out : IsOutputOf opening put written o) (queue : Queue)
    → queued queue put ≡ queued queue out.begun ++ queued queue o.row
output-queues opening put written o out queue =
    sym (out.order.queues queue) ∙ filter-append (is_in queue) out.begun o.row

pub output-rules : (opening : List ℕ) (put : List Frame) (written : List ℕ) (o : Output)
    → IsOutputOf opening put written o → FollowsRules o.last o.row
output-rules opening put written o out =
    arranged-rules o.last o.row (output-last opening put written o out)
    (fit-channels out.begun o.row out.fit) out.arranged
