-- Where an end puts nothing after a connection.close or close-ok but these, nothing else leaves after one.
use Rattle.std.proofs.Common.{◌≡◌, ℕ, zero, suc, ◌+◌, ◌<◌, Bool, true, false, not, ◌&&◌, ◌==◌}
use Rattle.std.proofs.Common.{List, [], ◌∷◌, ◌++◌, All, filter, length, refl, sym, ap, ap₂, ◌∙◌}
use Rattle.std.proofs.Common.{subst, subst₂, arith, append_assoc, length-append, lt-ltb, eq-eqb, ne_eqb}
use Rattle.std.proofs.lemmas.Bool.{true≢false, not-true, cond-true, cond-false, and_parts, and_from, not_from_false}
use Rattle.std.proofs.lemmas.List.{append_cancel_left, nil_from_length}
use Rattle.std.proofs.lemmas.List.Elements.{All-nil, All-cons, All-head, All-tail, filter-append, filter_passes}
use Rattle.amqp_frame.specs.Frame.{Frame}
use Rattle.amqp_model.specs.Output.Arrangement.{is_leaving, Queue, PlainFrames, FramesOn, LeavingFrames, is_in, queued}
use Rattle.amqp_model.specs.Output.Arrangement.{on}
use Rattle.amqp_model.specs.Output.Departures.{before_close, KeepsOrder, LeavesLast, PutInOrder, PutAs, LeavesAfter}
use Rattle.amqp_model.specs.Output.Prefixes.{IsPrefixOf}
use Rattle.amqp_model.proofs.Turns.{Rank, plain, in_turn, leaves, rank, in-channel}
use Rattle.amqp_model.proofs.Rows.{from-queued}
use Rattle.amqp_model.proofs.Closes.{closes_in, closes-leaving, closes-other, before-at}

-- the frame that leaves the connection after which k such stand
record CloseAt (k : ℕ) (frames : List Frame) : Type 0 where
  prefix : List Frame
  f : Frame
  after : List Frame
  frames_are : frames ≡ prefix ++ f ∷ after
  leaving : is_leaving f ≡ true
  count : closes_in prefix ≡ k

close-after : (k m : ℕ) (g : Frame) (frames : List Frame) → (c : CloseAt k frames)
    → closes_in (g ∷ c.prefix) ≡ m → CloseAt m (g ∷ frames)
close-after k m g frames c e =
    record {
      prefix = g ∷ c.prefix;
      f = c.f;
      after = c.after;
      frames_are = ap (λ l. g ∷ l) c.frames_are;
      leaving = c.leaving;
      count = e;
    }

close-at : (k : ℕ) (frames : List Frame) → k < closes_in frames → CloseAt k frames
close-at k [] h = absurd (omega arith)
close-at zero (g ∷ frames) h = cases (is_leaving g) refl (close-at zero frames)
  where
    cases : (b : Bool) → is_leaving g ≡ b → (0 < closes_in frames → CloseAt 0 frames)
        → CloseAt 0 (g ∷ frames)
    cases true l _ = record { prefix = []; f = g; after = frames; frames_are = refl; leaving = l; count = refl }
    cases false l more =
        let c = closes-other g frames l in
        let there = more (omega arith) in
        close-after 0 0 g frames there (closes-other g there.prefix l ∙ there.count)
close-at (suc k) (g ∷ frames) h = cases (is_leaving g) refl (close-at k frames) (close-at (suc k) frames)
  where
    cases : (b : Bool) → is_leaving g ≡ b → (k < closes_in frames → CloseAt k frames)
        → (suc k < closes_in frames → CloseAt (suc k) frames) → CloseAt (suc k) (g ∷ frames)
    cases true l more _ =
        let c = closes-leaving g frames l in
        let there = more (omega arith) in
        close-after k (suc k) g frames there (closes-leaving g there.prefix l ∙ ap suc there.count)
    cases false l _ more =
        let c = closes-other g frames l in
        let there = more (omega arith) in
        close-after (suc k) (suc k) g frames there (closes-other g there.prefix l ∙ there.count)

-- the queues but the last
data IsOther : Queue → Type 0 where
  plain_one : IsOther PlainFrames
  of_channel : (c : ℕ) → IsOther (FramesOn c)

not-in-other : (queue : Queue) → IsOther queue → (f : Frame) → is_leaving f ≡ true → is_in queue f ≡ false
not-in-other PlainFrames plain_one f l = cases (is_in PlainFrames f) refl
  where
    cases : (b : Bool) → is_in PlainFrames f ≡ b → is_in PlainFrames f ≡ false
    cases false e = e
    cases true e = absurd (true≢false (sym l ∙ not-true (is_leaving f) (and_parts (f.channel == 0) _ e).1))
not-in-other (FramesOn c) (of_channel _) f l = cases (is_in (FramesOn c) f) refl
  where
    cases : (b : Bool) → is_in (FramesOn c) f ≡ b → is_in (FramesOn c) f ≡ false
    cases false e = e
    cases true e = absurd (true≢false (sym l ∙ (in-channel c f e).2))
not-in-other LeavingFrames other f l = elim other [ ]

none-in-other : (queue : Queue) → IsOther queue → (frames : List Frame) → All (λ f. is_leaving f ≡ true) frames
    → queued queue frames ≡ []
none-in-other queue other [] l = refl
none-in-other queue other (f ∷ frames) l =
    cond-false (is_in queue f) _ _ (not-in-other queue other f (All-head (λ g. is_leaving g ≡ true) f frames l))
    ∙ none-in-other queue other frames (All-tail (λ g. is_leaving g ≡ true) f frames l)

all-leave : (frames : List Frame) → ((queue : Queue) → IsOther queue → queued queue frames ≡ [])
    → All (λ f. is_leaving f ≡ true) frames
all-leave frames none = from-queued (λ f. is_leaving f ≡ true) frames each
  where
    empty : (queue : Queue) → IsOther queue → All (λ f. is_leaving f ≡ true) (queued queue frames)
    empty queue other =
        subst (All (λ f. is_leaving f ≡ true)) (sym (none queue other)) (All-nil (λ f. is_leaving f ≡ true))

    each : (queue : Queue) → All (λ f. is_leaving f ≡ true) (queued queue frames)
    each PlainFrames = empty PlainFrames plain_one
    each (FramesOn c) = empty (FramesOn c) (of_channel c)
    each LeavingFrames = filter_passes is_leaving frames

back-none : {A : Type 0} (xs ys : List A) → xs ++ ys ≡ [] → ys ≡ []
back-none [] ys e = e
back-none (x ∷ xs) ys e = absurd cc

pub leaves-last : (put departing : List Frame) → KeepsOrder put departing → LeavesLast put → LeavesLast departing
leaves-last put departing order last prefix after f e l =
    All-tail (λ g. is_leaving g ≡ true) f after (all-leave (f ∷ after) none)
  where
    many : closes_in prefix < closes_in put
    many =
        let c = closes-leaving f after l in
        let joined : closes_in departing ≡ closes_in prefix + closes_in (f ∷ after) = ap closes_in e
        ∙ (ap length (filter-append is_leaving prefix (f ∷ after))
        ∙ length-append (queued LeavingFrames prefix) (queued LeavingFrames (f ∷ after))) in
        let same : closes_in departing ≡ closes_in put = ap length (order.queues LeavingFrames) in
        omega arith

    there : CloseAt (closes_in prefix) put
    there = close-at (closes_in prefix) put many

    none-by : (c : CloseAt (closes_in prefix) put) (queue : Queue) → IsOther queue
        → queued queue (f ∷ after) ≡ []
    none-by c queue other =
        let k = closes_in prefix in
        let before_put : before_close k put ≡ c.prefix = ap (before_close k) c.frames_are
        ∙ before-at k c.prefix c.after c.f c.leaving c.count in
        let before_here : before_close k departing ≡ prefix = ap (before_close k) e
        ∙ before-at k prefix after f l refl in
        let begins = order.closes k queue in
        let rest = begins.0 in
        let prefix_is : queued queue prefix ≡ queued queue c.prefix ++ rest = sym (ap (queued queue) before_here)
        ∙ (begins.1 ∙ ap (λ m. queued queue m ++ rest) before_put) in
        let last_ones : All (λ g. is_leaving g ≡ true) (c.f ∷ c.after) =
        All-cons (λ g. is_leaving g ≡ true) c.f c.after c.leaving
        (last c.prefix c.after c.f c.frames_are c.leaving) in
        let put_is : queued queue put ≡ queued queue c.prefix ++ [] =
        ap (queued queue) c.frames_are ∙ (filter-append (is_in queue) c.prefix (c.f ∷ c.after)
        ∙ ap (λ m. queued queue c.prefix ++ m) (none-in-other queue other (c.f ∷ c.after) last_ones)) in
        let here_is : queued queue departing ≡ queued queue c.prefix ++ (rest ++ queued queue (f ∷ after)) =
        ap (queued queue) e ∙ (filter-append (is_in queue) prefix (f ∷ after)
        ∙ (ap (λ m. m ++ queued queue (f ∷ after)) prefix_is
        ∙ append_assoc (queued queue c.prefix) rest (queued queue (f ∷ after)))) in
        back-none rest (queued queue (f ∷ after)) (append_cancel_left (queued queue c.prefix) _ [] (sym here_is
        ∙ (order.queues queue ∙ put_is)))

    none : (queue : Queue) → IsOther queue → queued queue (f ∷ after) ≡ []
    none queue other = none-by there queue other

-- the frames of a channel above 0 are its queue
pub on-above : (channel : ℕ) (frames : List Frame) → 0 < channel
    → on channel frames ≡ queued (FramesOn channel) frames
on-above channel frames h =
    subst (λ b. on channel frames ≡ filter (λ f. b && (f.channel == channel)) frames)
    (sym (lt-ltb 0 channel h)) refl

rest-last : (f : Frame) (frames : List Frame) → LeavesLast (f ∷ frames) → LeavesLast frames
rest-last f frames last prefix after g e l = last (f ∷ prefix) after g (ap (λ m. f ∷ m) e) l

-- and those of channel 0 are its plain ones and then those that leave the connection, where these come last
pub on-zero : (frames : List Frame) → LeavesLast frames
    → on 0 frames ≡ queued PlainFrames frames ++ queued LeavingFrames frames
on-zero [] last = refl
on-zero (f ∷ frames) last = cases (rank f) (on-zero frames (rest-last f frames last))
  where
    on_0 : f.channel ≡ 0 → on 0 (f ∷ frames) ≡ f ∷ on 0 frames
    on_0 z = cond-true (f.channel == 0) _ _ (eq-eqb f.channel 0 z)

    cases : Rank f → on 0 frames ≡ queued PlainFrames frames ++ queued LeavingFrames frames
        → on 0 (f ∷ frames) ≡ queued PlainFrames (f ∷ frames) ++ queued LeavingFrames (f ∷ frames)
    cases (plain z l) more =
        on_0 z
        ∙ (ap (λ m. f ∷ m) more
        ∙ sym (ap₂ (λ m n. m ++ n)
        (cond-true (is_in PlainFrames f) _ _ (and_from (f.channel == 0) _ (eq-eqb f.channel 0 z) (not_from_false _ l)))
        (cond-false (is_leaving f) _ _ l)))
    cases (in_turn z l) more =
        let off : (f.channel == 0) ≡ false = ne_eqb f.channel 0 (λ e. omega arith) in
        cond-false (f.channel == 0) _ _ off
        ∙ (more
        ∙ sym (ap₂ (λ m n. m ++ n) (cond-false (is_in PlainFrames f) _ _ (ap (λ b. b && not (is_leaving f)) off))
        (cond-false (is_leaving f) _ _ l)))
    cases (leaves z l) more =
        let none : queued PlainFrames (f ∷ frames) ≡ [] = none-in-other PlainFrames plain_one (f ∷ frames)
        (All-cons (λ g. is_leaving g ≡ true) f frames l (last [] frames f refl l)) in
        let later : queued PlainFrames frames ≡ [] =
        none-in-other PlainFrames plain_one frames (last [] frames f refl l) in
        on_0 z
        ∙ (ap (λ m. f ∷ m) (more ∙ ap (λ m. m ++ queued LeavingFrames frames) later)
        ∙ sym (ap₂ (λ m n. m ++ n) none (cond-true (is_leaving f) _ _ l)))

pub each-channel : (put departing : List Frame) → KeepsOrder put departing → LeavesLast put → (channel : ℕ)
    → on channel departing ≡ on channel put
each-channel put departing order last zero =
    on-zero departing (leaves-last put departing order last)
    ∙ (ap₂ (λ m n. m ++ n) (order.queues PlainFrames) (order.queues LeavingFrames)
    ∙ sym (on-zero put last))
each-channel put departing order last (suc c) =
    on-above (suc c) departing (omega arith)
    ∙ (order.queues (FramesOn (suc c)) ∙ sym (on-above (suc c) put (omega arith)))

pub put-as : (opening octets : List ℕ) (put : List Frame) → PutInOrder opening octets put → LeavesLast put
    → PutAs opening octets put
put-as opening octets put out last = record {
  departing = out.departing;
  octets_are = out.octets_are;
  fit = out.fit;
  each_channel = each-channel put out.departing out.order last;
  closes_last =
      λ prefix after f e l channel h. on-above channel after h
      ∙ none-in-other (FramesOn channel) (of_channel channel) after
      (leaves-last put out.departing out.order last prefix after f e l);
}

none-more : {A : Type 0} (xs ys zs : List A) → length xs ≡ length ys → ys ≡ xs ++ zs → zs ≡ []
none-more xs ys zs e f = nil_from_length zs (let s = ap length f ∙ length-append xs zs in omega arith)

-- What leaves after a close was put after it.
pub close-split : (put departing : List Frame) → KeepsOrder put departing
    → (earlier later prefix after : List Frame) (f g : Frame) → put ≡ earlier ++ f ∷ later
    → departing ≡ prefix ++ g ∷ after → is_leaving f ≡ true → is_leaving g ≡ true
    → closes_in earlier ≡ closes_in prefix
    → (f ≡ g) × ((queue : Queue) → LeavesAfter earlier later prefix after queue)
close-split put departing order earlier later prefix after f g p d lf lg count = (first, each)
  where
    begins : (queue : Queue) → IsPrefixOf (queued queue earlier) (queued queue prefix)
    begins queue =
        let here = before-at (closes_in earlier) earlier later f lf refl in
        let there = before-at (closes_in earlier) prefix after g lg (sym count) in
        subst₂ (λ xs ys. IsPrefixOf (queued queue ys) (queued queue xs)) (ap (before_close (closes_in earlier)) d
        ∙ there) (ap (before_close (closes_in earlier)) p ∙ here) (order.closes (closes_in earlier) queue)

    -- of each queue, what is not at the start on either side
    rests : (queue : Queue) (rest : List Frame) → queued queue prefix ≡ queued queue earlier ++ rest
        → rest ++ queued queue (g ∷ after) ≡ queued queue (f ∷ later)
    rests queue rest e =
        append_cancel_left (queued queue earlier) (rest ++ queued queue (g ∷ after)) (queued queue (f ∷ later))
        (sym (append_assoc (queued queue earlier) rest (queued queue (g ∷ after)))
        ∙ (ap (λ m. m ++ queued queue (g ∷ after)) (sym e)
        ∙ (sym (filter-append (is_in queue) prefix (g ∷ after))
        ∙ (sym (ap (queued queue) d)
        ∙ (order.queues queue
        ∙ (ap (queued queue) p
        ∙ filter-append (is_in queue) earlier (f ∷ later)))))))

    leave : (rest : List Frame) → queued LeavingFrames prefix ≡ queued LeavingFrames earlier ++ rest
        → (rest ≡ []) × (g ∷ queued LeavingFrames after ≡ f ∷ queued LeavingFrames later)
    leave rest e =
        let none = none-more (queued LeavingFrames earlier) (queued LeavingFrames prefix) rest count e in (
          none,
          sym (cond-true (is_leaving g) _ _ lg) ∙ (ap (λ m. m ++ queued LeavingFrames (g ∷ after)) (sym none)
              ∙ (rests LeavingFrames rest e ∙ cond-true (is_leaving f) _ _ lf)),
        )

    first : f ≡ g
    first = let b = begins LeavingFrames in let h = (leave b.0 b.1).1 in cc

    other : (queue : Queue) → IsOther queue → LeavesAfter earlier later prefix after queue
    other queue o =
        let b = begins queue in
        record {
          overtaking = b.0;
          before_is = b.1;
          later_is =
              sym (cond-false (is_in queue f) _ _ (not-in-other queue o f lf))
              ∙ (sym (rests queue b.0 b.1)
              ∙ ap (λ m. b.0 ++ m) (cond-false (is_in queue g) _ _ (not-in-other queue o g lg)));
        }

    leaving : LeavesAfter earlier later prefix after LeavingFrames
    leaving =
        let b = begins LeavingFrames in
        let h = leave b.0 b.1 in
        let none = h.0 in
        let same : queued LeavingFrames after ≡ queued LeavingFrames later = let e = h.1 in cc in
        record {
          overtaking = b.0;
          before_is = b.1;
          later_is = sym same
              ∙ ap (λ m. m ++ queued LeavingFrames after) (sym none);
        }

    each : (queue : Queue) → LeavesAfter earlier later prefix after queue
    each PlainFrames = other PlainFrames plain_one
    each (FramesOn c) = other (FramesOn c) (of_channel c)
    each LeavingFrames = leaving
