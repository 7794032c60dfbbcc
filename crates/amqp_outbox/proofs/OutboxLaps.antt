-- Laps, and the place of a frame by them.
use Rattle.std.proofs.Common.{◌≡◌, ℕ, zero, suc, ◌+◌, ◌-◌, ◌*◌, ◌<◌, ◌≤◌, Bool, true, false, cond, ◌==◌, nat_lt, ◌⊎◌, inl, inr, List, [], ◌∷◌, ◌++◌, length, map, take, drop, All, get_or, refl, sym, ap, ap₂, ◌∙◌, subst, arith, lt-ltb, le-ltb, eq-eqb, ne_eqb, eqb-true, ltb-true}
use Rattle.std.proofs.lemmas.Bool.{eqb-false, cond-true, cond-false, and_parts, and_left, cases_lt, cases_eq, both_ways, false_from_ne_true}
use Rattle.std.proofs.lemmas.List.{take_more, get_or_default}
use Rattle.std.proofs.lemmas.List.Elements.{All-nil, All-cons, All-head, All-tail, All-weaker}
use Rattle.amqp_frame.specs.Frame.{Frame}
use Rattle.amqp_model.specs.Output.Arrangement.{is_leaving, steps, turn, IsArranged, HasFirstTurn, HasChannel}
use Rattle.amqp_outbox.specs.OutboxSlots.{slot_of, slot_last, slots_last, turns_before}
use Rattle.amqp_outbox.specs.OutboxLaps.{lap_after, slot_lap, laps_of, laps_last, moment, is_after, count_until, AllAfter, AreInOrder, TakesLap}
use Rattle.amqp_outbox.specs.declared.slots.Slot.{Slot}

-- a frame of channel 0, which moves neither LAST nor the lap
pub record Stays (lap last : ℕ) (f : Frame) : Type 0 where
  pub zero : f.channel ≡ 0
  pub its : slot_lap lap last (slot_of f) ≡ 0
  pub lap_is : lap_after lap last (slot_of f) ≡ lap
  pub last_is : slot_last last (slot_of f) ≡ last
  pub after_is : (at its : ℕ) → is_after at (slot_of f) its ≡ is_leaving f

-- a frame of a channel above 0
pub record Moves (lap last : ℕ) (f : Frame) : Type 0 where
  pub above : 0 < f.channel
  pub stays : is_leaving f ≡ false
  pub its : slot_lap lap last (slot_of f) ≡ lap_after lap last (slot_of f)
  pub last_is : slot_last last (slot_of f) ≡ f.channel
  pub turn_is : turn last f ≡ steps last f.channel
  pub some : 0 < steps last f.channel
  pub most : steps last f.channel ≤ 65535
  pub moment_is : moment (lap_after lap last (slot_of f)) f.channel ≡ moment lap last + steps last f.channel
  pub after_is : (at its : ℕ) → is_after at (slot_of f) its ≡ nat_lt at (moment its f.channel)

stays : (lap last : ℕ) (f : Frame) → f.channel ≡ 0 → Stays lap last f
stays lap last f z =
    let t : (f.channel == 0) ≡ true = eq-eqb f.channel 0 z in
    record {
      zero = z;
      its = cond-true (f.channel == 0) _ _ t;
      lap_is = cond-true (f.channel == 0) _ _ t;
      last_is = cond-true (f.channel == 0) _ _ t;
      after_is = λ at its. cond-true (f.channel == 0) _ _ t;
    }

pub moves : (lap last : ℕ) (f : Frame) → 0 < f.channel → HasChannel f → last < 65536 → Moves lap last f
moves lap last f above h l =
    let t : (f.channel == 0) ≡ false = ne_eqb f.channel 0 (λ e. omega arith) in
    let n : is_leaving f ≡ false = and_left (f.channel == 0) _ t in
    let lap_is : lap_after lap last (slot_of f) ≡ cond (nat_lt last f.channel) lap (suc lap) = cond-false (f.channel == 0) _ _ t in
    let met = cases (lap_after lap last (slot_of f)) lap_is (cases_lt last f.channel) in
    record {
      above = above;
      stays = n;
      its = cond-false (f.channel == 0) _ _ t;
      last_is = cond-false (f.channel == 0) _ _ t;
      turn_is = cond-false (is_leaving f) _ _ n ∙ cond-false (f.channel == 0) _ _ t;
      some = met.0;
      most = met.1;
      moment_is = met.2;
      after_is = λ at its. cond-false (f.channel == 0) _ _ t;
    }
  where
    cases : (now : ℕ) → now ≡ cond (nat_lt last f.channel) lap (suc lap) → (last < f.channel) ⊎ (f.channel ≤ last)
        → (0 < steps last f.channel) × (steps last f.channel ≤ 65535) × (now * 65535 + f.channel ≡ (lap * 65535 + last) + steps last f.channel)
    cases now e (inl k) =
        let a : steps last f.channel ≡ f.channel - last = cond-true (nat_lt last f.channel) _ _ (lt-ltb last f.channel k) in
        let b : now ≡ lap = e ∙ cond-true (nat_lt last f.channel) _ _ (lt-ltb last f.channel k) in
        (omega arith, omega arith, omega arith)
    cases now e (inr k) =
        let a : steps last f.channel ≡ (f.channel + 65535) - last = cond-false (nat_lt last f.channel) _ _ (le-ltb last f.channel k) in
        let b : now ≡ suc lap = e ∙ cond-false (nat_lt last f.channel) _ _ (le-ltb last f.channel k) in
        (omega arith, omega arith, omega arith)

-- a channel that is met on the way to another one parts the way
pub steps-parted : (from a b : ℕ) → from < 65536 → 0 < a → a < 65536 → b < 65536 → 0 < b → steps from a ≤ steps from b → (a ≡ b → ⊥) → steps a b + steps from a ≡ steps from b
steps-parted from a b h a0 a1 b1 b0 l other = cases (cases_lt from a) (cases_lt from b) (cases_lt a b)
  where
    up : (x y : ℕ) → x < y → steps x y ≡ y - x
    up x y k = cond-true (nat_lt x y) _ _ (lt-ltb x y k)

    round : (x y : ℕ) → y ≤ x → steps x y ≡ (y + 65535) - x
    round x y k = cond-false (nat_lt x y) _ _ (le-ltb x y k)

    cases : (from < a) ⊎ (a ≤ from) → (from < b) ⊎ (b ≤ from) → (a < b) ⊎ (b ≤ a) → steps a b + steps from a ≡ steps from b
    cases (inl s) (inl t) (inl u) = omega (arith, up from a s, up from b t, up a b u)
    cases (inl s) (inl t) (inr u) = omega (arith, up from a s, up from b t, round a b u)
    cases (inl s) (inr t) (inl u) = omega (arith, up from a s, round from b t, up a b u)
    cases (inl s) (inr t) (inr u) = omega (arith, up from a s, round from b t, round a b u)
    cases (inr s) (inl t) (inl u) = omega (arith, round from a s, up from b t, up a b u)
    cases (inr s) (inl t) (inr u) = omega (arith, round from a s, up from b t, round a b u)
    cases (inr s) (inr t) (inl u) = omega (arith, round from a s, round from b t, up a b u)
    cases (inr s) (inr t) (inr u) = omega (arith, round from a s, round from b t, round a b u)

-- which of the three rules a frame leaves by
pub data Rule (lap last : ℕ) (f : Frame) : Type 0 where
  plain : Stays lap last f → is_leaving f ≡ false → turn last f ≡ 0 → Rule lap last f
  in_turn : Moves lap last f → Rule lap last f
  leaves : Stays lap last f → is_leaving f ≡ true → turn last f ≡ 65536 → Rule lap last f

pub rule_of : (lap last : ℕ) (f : Frame) → HasChannel f → last < 65536 → Rule lap last f
rule_of lap last f h l = cases (is_leaving f) refl (f.channel == 0) refl
  where
    cases : (leaving : Bool) → is_leaving f ≡ leaving → (on_0 : Bool) → (f.channel == 0) ≡ on_0 → Rule lap last f
    cases true e on_0 z = leaves (stays lap last f (eqb-true f.channel 0 (and_parts (f.channel == 0) _ e).0)) e (cond-true (is_leaving f) _ _ e)
    cases false e true z = plain (stays lap last f (eqb-true f.channel 0 z)) e (cond-false (is_leaving f) _ _ e ∙ cond-true (f.channel == 0) _ _ z)
    cases false e false z = let k = eqb-false f.channel 0 z in in_turn (moves lap last f (omega arith) h l)

-- LAST is a channel still
last-next : (lap last : ℕ) (f : Frame) → HasChannel f → last < 65536 → slot_last last (slot_of f) < 65536
last-next lap last f h l = cases (rule_of lap last f h l)
  where
    cases : Rule lap last f → slot_last last (slot_of f) < 65536
    cases (plain s n t) = rw s.last_is l
    cases (leaves s n t) = rw s.last_is l
    cases (in_turn m) = rw m.last_is h

-- a frame that isn't a plain one of channel 0
abbrev pub Waits : Frame → Type 0
Waits f = (is_leaving f ≡ true) ⊎ (0 < f.channel)

waits : (last : ℕ) (f : Frame) → 0 < turn last f → Waits f
waits last f h = cases (is_leaving f) refl (f.channel == 0) refl
  where
    cases : (leaving : Bool) → is_leaving f ≡ leaving → (on_0 : Bool) → (f.channel == 0) ≡ on_0 → Waits f
    cases true e on_0 z = inl e
    cases false e false z = let k = eqb-false f.channel 0 z in inr (omega arith)
    cases false e true z = let t : turn last f ≡ 0 = cond-false (is_leaving f) _ _ e ∙ cond-true (f.channel == 0) _ _ z in absurd (omega arith)

all_wait : (last : ℕ) (f : Frame) (later : List Frame) → 0 < turn last f → HasFirstTurn last f later → All Waits later
all_wait last f later h n = All-weaker (λ other. turn last f ≤ turn last other) Waits (λ other l. waits last other (omega arith)) later n

-- what stands in a row from a moment on has its turn after it, but for plain frames of channel 0
pub all_after : (at lap last : ℕ) (row : List Frame) → last < 65536 → at ≤ moment lap last → All Waits row → All HasChannel row → AllAfter at (map slot_of row) (laps_of lap last (map slot_of row))
all_after at lap last [] l m w c = tt
all_after at lap last (g ∷ later) l m w c =
    cases (λ n. all_after at (lap_after lap last (slot_of g)) (slot_last last (slot_of g)) later (last-next lap last g h l) n (All-tail Waits g later w) (All-tail HasChannel g later c)) (rule_of lap last g h l)
  where
    h : HasChannel g
    h = All-head HasChannel g later c

    not_plain : Waits g → g.channel ≡ 0 → is_leaving g ≡ true
    not_plain (inl e) z = e
    not_plain (inr k) z = absurd (omega arith)

    cases : (at ≤ moment (lap_after lap last (slot_of g)) (slot_last last (slot_of g)) → AllAfter at (map slot_of later) (laps_of (lap_after lap last (slot_of g)) (slot_last last (slot_of g)) (map slot_of later)))
        → Rule lap last g → AllAfter at (map slot_of (g ∷ later)) (laps_of lap last (map slot_of (g ∷ later)))
    cases rest (plain s n t) = absurd (both_ways (is_leaving g) n (not_plain (All-head Waits g later w) s.zero))
    cases rest (leaves s n t) =
        let a = s.lap_is in
        let b = s.last_is in
        (s.after_is at _ ∙ n, rest (omega arith))
    cases rest (in_turn k) =
        let a = k.its in
        let b = k.last_is in
        let d = k.moment_is in
        let e = k.some in
        (k.after_is at _ ∙ lt-ltb at _ (omega arith), rest (omega arith))

abbrev pub Leaves : Frame → Type 0
Leaves f = is_leaving f ≡ true

-- frames that leave the connection have their turn after each moment
all_leave : (at lap last : ℕ) (row : List Frame) → All Leaves row → AllAfter at (map slot_of row) (laps_of lap last (map slot_of row))
all_leave at lap last [] h = tt
all_leave at lap last (g ∷ later) h =
    let e : is_leaving g ≡ true = All-head Leaves g later h in
    let s = stays lap last g (eqb-true g.channel 0 (and_parts (g.channel == 0) _ e).0) in
    (s.after_is at _ ∙ e, all_leave at (lap_after lap last (slot_of g)) (slot_last last (slot_of g)) later (All-tail Leaves g later h))

-- a frame has its turn after each channel
abbrev pub IsLast : (last : ℕ) → Frame → Type 0
IsLast last other = 65536 ≤ turn last other

-- after one that leaves the connection stand only such
leaves_after : (last : ℕ) (later : List Frame) → last < 65536 → All (IsLast last) later → All HasChannel later → All Leaves later
leaves_after last [] l n c = All-nil Leaves
leaves_after last (g ∷ later) l n c =
    All-cons Leaves g later (one (All-head (IsLast last) g later n) (rule_of 0 last g (All-head HasChannel g later c) l)) (leaves_after last later l (All-tail (IsLast last) g later n) (All-tail HasChannel g later c))
  where
    one : 65536 ≤ turn last g → Rule 0 last g → is_leaving g ≡ true
    one m (plain _ _ u) = absurd (omega arith)
    one m (leaves _ e u) = e
    one m (in_turn v) =
        let a = v.turn_is in
        let b = v.most in
        absurd (omega arith)

-- the frames of a row are in order
pub in_order : (at lap last : ℕ) (row : List Frame) → last < 65536 → IsArranged last row → All HasChannel row → AreInOrder at (map slot_of row) (laps_of lap last (map slot_of row))
in_order at lap last [] l r c = tt
in_order at lap last (g ∷ later) l r c = (λ after. first after (rule_of lap last g h l), in_order at (lap_after lap last (slot_of g)) (slot_last last (slot_of g)) later (last-next lap last g h l) r.1 rest)
  where
    h : HasChannel g
    h = All-head HasChannel g later c

    rest : All HasChannel later
    rest = All-tail HasChannel g later c

    first : is_after at (slot_of g) (slot_lap lap last (slot_of g)) ≡ true → Rule lap last g → AllAfter at (map slot_of later) (laps_of (lap_after lap last (slot_of g)) (slot_last last (slot_of g)) (map slot_of later))
    first after (plain s n t) = absurd (both_ways (is_leaving g) n (sym (s.after_is at _) ∙ after))
    first after (leaves s n t) = all_leave at (lap_after lap last (slot_of g)) (slot_last last (slot_of g)) later (leaves_after last later l (All-weaker (λ other. turn last g ≤ turn last other) (IsLast last) (λ other m. omega arith) later r.0) rest)
    first after (in_turn k) =
        let a = k.its in
        let b = k.last_is in
        let d = k.moment_is in
        let e = k.some in
        let t = k.turn_is in
        let m = ltb-true at _ (sym (k.after_is at _) ∙ after) in
        all_after at (lap_after lap last (slot_of g)) (slot_last last (slot_of g)) later (last-next lap last g h l) (omega arith) (all_wait last g later (omega arith) r.0) rest

-- none of such a row stands before the first after the moment
count-none : (at : ℕ) (slots : List Slot) (laps : List ℕ) → AllAfter at slots laps → count_until at slots laps ≡ 0
count-none at [] laps h = refl
count-none at (s ∷ slots) [] h = refl
count-none at (s ∷ slots) (lap ∷ laps) h = cond-true (is_after at s lap) _ _ h.0

-- what is said of a row below
abbrev pub Goes : (at lap last : ℕ) → Frame → List Frame → Type 0
Goes at lap last f row =
    at ≡ moment lap last + steps last f.channel
    → ((k : ℕ) (d : Slot) → count_until at (map slot_of row) (laps_of lap last (map slot_of row)) ≡ suc k → (get_or (map slot_of row) k d).channel ≡ f.channel → ⊥)
    → turns_before last (slot_of f) (map slot_of row) ≡ count_until at (map slot_of row) (laps_of lap last (map slot_of row))

-- So many frames of a row have their turn no later than one that is put, as stand before its channel's turn, unless the last of these is of
-- its channel.
pub turns-counted : (at lap last : ℕ) (f : Frame) (row : List Frame) → 0 < f.channel → HasChannel f → last < 65536 → IsArranged last row → All HasChannel row → Goes at lap last f row
turns-counted at lap last f [] above fc l r c m own = refl
turns-counted at lap last f (g ∷ later) above fc l r c m own =
    cases (λ e o. turns-counted at (lap_after lap last (slot_of g)) (slot_last last (slot_of g)) f later above fc (last-next lap last g h l) r.1 rest e o) (rule_of lap last g h l)
  where
    h : HasChannel g
    h = All-head HasChannel g later c

    rest : All HasChannel later
    rest = All-tail HasChannel g later c

    mine : Moves lap last f
    mine = moves lap last f above fc l

    goes_on : Goes at (lap_after lap last (slot_of g)) (slot_last last (slot_of g)) f later → turn last g ≤ turn last f → is_after at (slot_of g) (slot_lap lap last (slot_of g)) ≡ false → at ≡ moment (lap_after lap last (slot_of g)) (slot_last last (slot_of g)) + steps (slot_last last (slot_of g)) f.channel
        → turns_before last (slot_of f) (map slot_of (g ∷ later)) ≡ count_until at (map slot_of (g ∷ later)) (laps_of lap last (map slot_of (g ∷ later)))
    goes_on ih t n e =
        let counted : count_until at (map slot_of (g ∷ later)) (laps_of lap last (map slot_of (g ∷ later))) ≡ suc (count_until at (map slot_of later) (laps_of (lap_after lap last (slot_of g)) (slot_last last (slot_of g)) (map slot_of later))) = cond-false (is_after at (slot_of g) (slot_lap lap last (slot_of g))) _ _ n in
        cond-false (nat_lt (turn last f) (turn last g)) _ _ (le-ltb (turn last f) (turn last g) t) ∙ (ap suc (ih e (λ k d z. own (suc k) d (counted ∙ ap suc z))) ∙ sym counted)

    stops : turn last f < turn last g → is_after at (slot_of g) (slot_lap lap last (slot_of g)) ≡ true
        → turns_before last (slot_of f) (map slot_of (g ∷ later)) ≡ count_until at (map slot_of (g ∷ later)) (laps_of lap last (map slot_of (g ∷ later)))
    stops t n = cond-true (nat_lt (turn last f) (turn last g)) _ _ (lt-ltb (turn last f) (turn last g) t) ∙ sym (cond-true (is_after at (slot_of g) (slot_lap lap last (slot_of g))) _ _ n)

    on_channel : Goes at (lap_after lap last (slot_of g)) (slot_last last (slot_of g)) f later → Moves lap last g → (steps last f.channel < steps last g.channel) ⊎ (steps last g.channel ≤ steps last f.channel) → (g.channel ≡ f.channel) ⊎ (g.channel ≡ f.channel → ⊥)
        → turns_before last (slot_of f) (map slot_of (g ∷ later)) ≡ count_until at (map slot_of (g ∷ later)) (laps_of lap last (map slot_of (g ∷ later)))
    on_channel ih k (inl s) same =
        let a = k.its in
        let d = k.moment_is in
        let t = k.turn_is in
        let u = mine.turn_is in
        stops (omega arith) (k.after_is at _ ∙ lt-ltb at _ (omega arith))
    on_channel ih k (inr s) (inl same) =
        let a = k.its in
        let b = k.last_is in
        let d = k.moment_is in
        let t = k.turn_is in
        let u = k.some in
        let e = ap (steps last) same in
        let n : is_after at (slot_of g) (slot_lap lap last (slot_of g)) ≡ false = k.after_is at _ ∙ le-ltb at _ (omega arith) in
        let none = count-none at (map slot_of later) (laps_of (lap_after lap last (slot_of g)) (slot_last last (slot_of g)) (map slot_of later)) (all_after at (lap_after lap last (slot_of g)) (slot_last last (slot_of g)) later (last-next lap last g h l) (omega arith) (all_wait last g later (omega arith) r.0) rest) in
        absurd (own 0 (slot_of g) (cond-false (is_after at (slot_of g) (slot_lap lap last (slot_of g))) _ _ n ∙ ap suc none) same)
    on_channel ih k (inr s) (inr other) =
        let a = k.its in
        let b = k.last_is in
        let d = k.moment_is in
        let t = k.turn_is in
        let u = mine.turn_is in
        let e = ap (λ w. steps w f.channel) b in
        let p = steps-parted last g.channel f.channel l k.above h fc above s other in
        goes_on ih (omega arith) (k.after_is at _ ∙ le-ltb at _ (omega arith)) (omega arith)

    cases : Goes at (lap_after lap last (slot_of g)) (slot_last last (slot_of g)) f later → Rule lap last g → turns_before last (slot_of f) (map slot_of (g ∷ later)) ≡ count_until at (map slot_of (g ∷ later)) (laps_of lap last (map slot_of (g ∷ later)))
    cases ih (plain s n t) =
        let a = s.lap_is in
        let b = s.last_is in
        let e = ap (λ w. steps w f.channel) b in
        goes_on ih (omega arith) (s.after_is at _ ∙ n) (omega arith)
    cases ih (leaves s n t) =
        let a = mine.turn_is in
        let b = mine.most in
        stops (omega arith) (s.after_is at _ ∙ n)
    cases ih (in_turn k) = on_channel ih k (cases_lt (steps last f.channel) (steps last g.channel)) (cases_eq g.channel f.channel)

-- Where only frames wait that leave the connection, the laps don't depend on where the writer stands.
leaving-laps : (lap last then now : ℕ) (row : List Frame) → All Leaves row → laps_of lap last (map slot_of row) ≡ laps_of now then (map slot_of row)
leaving-laps lap last then now [] h = refl
leaving-laps lap last then now (g ∷ later) h =
    let e : is_leaving g ≡ true = All-head Leaves g later h in
    let z = eqb-true g.channel 0 (and_parts (g.channel == 0) _ e).0 in
    let a = (stays lap last g z).its in
    let b = (stays now then g z).its in
    ap₂ (λ x xs. x ∷ xs) (a ∙ sym b) (leaving-laps (lap_after lap last (slot_of g)) (slot_last last (slot_of g)) (slot_last then (slot_of g)) (lap_after now then (slot_of g)) later (All-tail Leaves g later h))

-- what is said of a row below
abbrev pub Takes : (at its lap last : ℕ) → Frame → List Frame → ℕ → Type 0
Takes at its lap last f row n = TakesLap its lap last n (slot_of f) (map slot_of row)

abbrev pub GoesIn : (at its lap last : ℕ) → Frame → List Frame → Type 0
GoesIn at its lap last f row =
    at ≡ moment lap last + steps last f.channel
    → ((k : ℕ) (d : Slot) → count_until at (map slot_of row) (laps_of lap last (map slot_of row)) ≡ suc k → (get_or (map slot_of row) k d).channel ≡ f.channel → ⊥)
    → Takes at its lap last f row (count_until at (map slot_of row) (laps_of lap last (map slot_of row)))

-- There a frame that is put takes the lap of its channel's turn, and the others keep theirs.
pub laps-in : (at its lap last : ℕ) (f : Frame) (row : List Frame) → 0 < f.channel → HasChannel f → last < 65536 → IsArranged last row → All HasChannel row → at ≡ moment its f.channel → GoesIn at its lap last f row
laps-in at its lap last f [] above fc l r c i m own =
    let k = moves lap last f above fc l in
    let a = k.moment_is in
    let b : lap_after lap last (slot_of f) ≡ its = omega arith in
    ap (λ x. x ∷ []) (k.its ∙ b)
laps-in at its lap last f (g ∷ later) above fc l r c i m own =
    cases (λ e o. laps-in at its (lap_after lap last (slot_of g)) (slot_last last (slot_of g)) f later above fc (last-next lap last g h l) r.1 rest i e o) (rule_of lap last g h l)
  where
    h : HasChannel g
    h = All-head HasChannel g later c

    rest : All HasChannel later
    rest = All-tail HasChannel g later c

    mine : Moves lap last f
    mine = moves lap last f above fc l

    its_is : lap_after lap last (slot_of f) ≡ its
    its_is = let a = mine.moment_is in omega arith

    goes_on : GoesIn at its (lap_after lap last (slot_of g)) (slot_last last (slot_of g)) f later → is_after at (slot_of g) (slot_lap lap last (slot_of g)) ≡ false
        → at ≡ moment (lap_after lap last (slot_of g)) (slot_last last (slot_of g)) + steps (slot_last last (slot_of g)) f.channel
        → Takes at its lap last f (g ∷ later) (count_until at (map slot_of (g ∷ later)) (laps_of lap last (map slot_of (g ∷ later))))
    goes_on ih n e =
        let counted : count_until at (map slot_of (g ∷ later)) (laps_of lap last (map slot_of (g ∷ later))) ≡ suc (count_until at (map slot_of later) (laps_of (lap_after lap last (slot_of g)) (slot_last last (slot_of g)) (map slot_of later))) = cond-false (is_after at (slot_of g) (slot_lap lap last (slot_of g))) _ _ n in
        subst (Takes at its lap last f (g ∷ later)) (sym counted) (ap (λ xs. slot_lap lap last (slot_of g) ∷ xs) (ih e (λ k d z. own (suc k) d (counted ∙ ap suc z))))

    stops : is_after at (slot_of g) (slot_lap lap last (slot_of g)) ≡ true → laps_of its f.channel (map slot_of (g ∷ later)) ≡ laps_of lap last (map slot_of (g ∷ later))
        → Takes at its lap last f (g ∷ later) (count_until at (map slot_of (g ∷ later)) (laps_of lap last (map slot_of (g ∷ later))))
    stops n e =
        let counted : count_until at (map slot_of (g ∷ later)) (laps_of lap last (map slot_of (g ∷ later))) ≡ 0 = cond-true (is_after at (slot_of g) (slot_lap lap last (slot_of g))) _ _ n in
        subst (Takes at its lap last f (g ∷ later)) (sym counted)
        (ap₂ (λ x xs. x ∷ xs) (mine.its ∙ its_is) (ap₂ (λ p w. laps_of p w (map slot_of (g ∷ later))) its_is mine.last_is ∙ e))

    on_channel : GoesIn at its (lap_after lap last (slot_of g)) (slot_last last (slot_of g)) f later → Moves lap last g → Moves its f.channel g
        → (steps last f.channel < steps last g.channel) ⊎ (steps last g.channel ≤ steps last f.channel) → (g.channel ≡ f.channel) ⊎ (g.channel ≡ f.channel → ⊥)
        → Takes at its lap last f (g ∷ later) (count_until at (map slot_of (g ∷ later)) (laps_of lap last (map slot_of (g ∷ later))))
    on_channel ih k then (inl s) (inl same) = let e = ap (steps last) same in absurd (omega arith)
    on_channel ih k then (inl s) (inr other) =
        let a = k.its in
        let d = k.moment_is in
        let p = steps-parted last f.channel g.channel l above fc h k.above (omega arith) (λ e. other (sym e)) in
        let b = then.moment_is in
        let q : lap_after its f.channel (slot_of g) ≡ lap_after lap last (slot_of g) = omega arith in
        let first : slot_lap its f.channel (slot_of g) ≡ slot_lap lap last (slot_of g) = then.its ∙ (q ∙ sym a) in
        stops (k.after_is at _ ∙ lt-ltb at _ (omega arith))
        (ap₂ (λ x xs. x ∷ xs) first (ap₂ (λ p w. laps_of p w (map slot_of later)) q (then.last_is ∙ sym k.last_is)))
    on_channel ih k then (inr s) (inl same) =
        let a = k.its in
        let b = k.last_is in
        let d = k.moment_is in
        let t = k.turn_is in
        let u = k.some in
        let e = ap (steps last) same in
        let n : is_after at (slot_of g) (slot_lap lap last (slot_of g)) ≡ false = k.after_is at _ ∙ le-ltb at _ (omega arith) in
        let none = count-none at (map slot_of later) (laps_of (lap_after lap last (slot_of g)) (slot_last last (slot_of g)) (map slot_of later)) (all_after at (lap_after lap last (slot_of g)) (slot_last last (slot_of g)) later (last-next lap last g h l) (omega arith) (all_wait last g later (omega arith) r.0) rest) in
        absurd (own 0 (slot_of g) (cond-false (is_after at (slot_of g) (slot_lap lap last (slot_of g))) _ _ n ∙ ap suc none) same)
    on_channel ih k then (inr s) (inr other) =
        let a = k.its in
        let b = k.last_is in
        let d = k.moment_is in
        let e = ap (λ w. steps w f.channel) b in
        let p = steps-parted last g.channel f.channel l k.above h fc above s other in
        goes_on ih (k.after_is at _ ∙ le-ltb at _ (omega arith)) (omega arith)

    cases : GoesIn at its (lap_after lap last (slot_of g)) (slot_last last (slot_of g)) f later → Rule lap last g
        → Takes at its lap last f (g ∷ later) (count_until at (map slot_of (g ∷ later)) (laps_of lap last (map slot_of (g ∷ later))))
    cases ih (plain s n t) =
        let a = s.lap_is in
        let b = s.last_is in
        let e = ap (λ w. steps w f.channel) b in
        goes_on ih (s.after_is at _ ∙ n) (omega arith)
    cases ih (leaves s n t) =
        stops (s.after_is at _ ∙ n)
        (leaving-laps its f.channel last lap (g ∷ later) (All-cons Leaves g later n (leaves_after last later l (All-weaker (λ other. turn last g ≤ turn last other) (IsLast last) (λ other m. omega arith) later r.0) rest)))
    cases ih (in_turn k) = on_channel ih k (moves its f.channel g k.above h fc) (cases_lt (steps last f.channel) (steps last g.channel)) (cases_eq g.channel f.channel)

-- a frame of channel 0 that is put has the lap 0, wherever it stands, and the others keep theirs
pub zero-in : (n lap last : ℕ) (f : Frame) (slots : List Slot) → f.channel ≡ 0 → laps_of lap last (take n slots ++ slot_of f ∷ drop n slots) ≡ take n (laps_of lap last slots) ++ 0 ∷ drop n (laps_of lap last slots)
zero-in zero lap last f slots z =
    let s = stays lap last f z in
    ap₂ (λ x xs. x ∷ xs) s.its (ap₂ (λ p w. laps_of p w slots) s.lap_is s.last_is)
zero-in (suc n) lap last f [] z = ap (λ x. x ∷ []) (stays lap last f z).its
zero-in (suc n) lap last f (s ∷ slots) z = ap (λ xs. slot_lap lap last s ∷ xs) (zero-in n (lap_after lap last s) (slot_last last s) f slots z)

-- a plain frame of channel 0 stands before all that have their turn after the writer's moment
pub plain-counted : (lap last : ℕ) (f : Frame) (row : List Frame) → f.channel ≡ 0 → is_leaving f ≡ false → last < 65536 → All HasChannel row
    → turns_before last (slot_of f) (map slot_of row) ≡ count_until (moment lap last) (map slot_of row) (laps_of lap last (map slot_of row))
plain-counted lap last f [] z n l c = refl
plain-counted lap last f (g ∷ later) z n l c = cases (plain-counted lap last f later z n l (All-tail HasChannel g later c)) (rule_of lap last g (All-head HasChannel g later c) l)
  where
    none : turn last f ≡ 0
    none = cond-false (is_leaving f) _ _ n ∙ cond-true (f.channel == 0) _ _ (eq-eqb f.channel 0 z)

    stops : turn last f < turn last g → is_after (moment lap last) (slot_of g) (slot_lap lap last (slot_of g)) ≡ true
        → turns_before last (slot_of f) (map slot_of (g ∷ later)) ≡ count_until (moment lap last) (map slot_of (g ∷ later)) (laps_of lap last (map slot_of (g ∷ later)))
    stops t e = cond-true (nat_lt (turn last f) (turn last g)) _ _ (lt-ltb (turn last f) (turn last g) t) ∙ sym (cond-true (is_after (moment lap last) (slot_of g) (slot_lap lap last (slot_of g))) _ _ e)

    cases : turns_before last (slot_of f) (map slot_of later) ≡ count_until (moment lap last) (map slot_of later) (laps_of lap last (map slot_of later)) → Rule lap last g
        → turns_before last (slot_of f) (map slot_of (g ∷ later)) ≡ count_until (moment lap last) (map slot_of (g ∷ later)) (laps_of lap last (map slot_of (g ∷ later)))
    cases ih (plain s e t) =
        cond-false (nat_lt (turn last f) (turn last g)) _ _ (le-ltb (turn last f) (turn last g) (omega (arith, none)))
        ∙ (ap suc (ap (λ w. turns_before w (slot_of f) (map slot_of later)) s.last_is ∙ (ih ∙ ap₂ (λ p w. count_until (moment lap last) (map slot_of later) (laps_of p w (map slot_of later))) (sym s.lap_is) (sym s.last_is)))
        ∙ sym (cond-false (is_after (moment lap last) (slot_of g) (slot_lap lap last (slot_of g))) _ _ (s.after_is (moment lap last) _ ∙ e)))
    cases ih (leaves s e t) = stops (omega (arith, none)) (s.after_is (moment lap last) _ ∙ e)
    cases ih (in_turn k) =
        let a = k.turn_is in
        let b = k.some in
        let d = k.its in
        let e = k.moment_is in
        stops (omega (arith, none)) (k.after_is (moment lap last) _ ∙ lt-ltb (moment lap last) _ (omega arith))

after-at : (at : ℕ) (slots : List Slot) (laps : List ℕ) (k : ℕ) (d : Slot) → AllAfter at slots laps → k < length slots → length slots ≡ length laps → is_after at (get_or slots k d) (get_or laps k 0) ≡ true
after-at at [] laps k d h m e = absurd (omega arith)
after-at at (s ∷ slots) [] k d h m e = absurd (omega arith)
after-at at (s ∷ slots) (lap ∷ laps) zero d h m e = h.0
after-at at (s ∷ slots) (lap ∷ laps) (suc k) d h m e = after-at at slots laps k d h.1 (omega arith) (omega arith)

-- The count is found where neither the frame before it has its turn after the moment, nor the one at it before.
pub count-found : (at : ℕ) (slots : List Slot) (laps : List ℕ) (n : ℕ) (d : Slot) → AreInOrder at slots laps → length slots ≡ length laps → n ≤ length slots
    → ((k : ℕ) → n ≡ suc k → is_after at (get_or slots k d) (get_or laps k 0) ≡ false)
    → (n < length slots → is_after at (get_or slots n d) (get_or laps n 0) ≡ true)
    → n ≡ count_until at slots laps
count-found at [] laps n d o e m before after = omega arith
count-found at (s ∷ slots) [] n d o e m before after = absurd (omega arith)
count-found at (s ∷ slots) (lap ∷ laps) zero d o e m before after = sym (cond-true (is_after at s lap) _ _ (after (omega arith)))
count-found at (s ∷ slots) (lap ∷ laps) (suc n) d o e m before after =
    let sooner : is_after at s lap ≡ false = false_from_ne_true (is_after at s lap) (λ t. first t (o.0 t) n (omega arith) (before n refl)) in
    let ih = count-found at slots laps n d o.1 (omega arith) (omega arith) (λ k z. before (suc k) (ap suc z)) (λ l. after (omega arith)) in
    ap suc ih ∙ sym (cond-false (is_after at s lap) _ _ sooner)
  where
    first : is_after at s lap ≡ true → AllAfter at slots laps → (k : ℕ) → k ≤ length slots → is_after at (get_or (s ∷ slots) k d) (get_or (lap ∷ laps) k 0) ≡ false → ⊥
    first t h zero m f = both_ways (is_after at s lap) f t
    first t h (suc k) m f = both_ways _ f (after-at at slots laps k d h (omega arith) (omega arith))

pub length-laps : (lap last : ℕ) (slots : List Slot) → length (laps_of lap last slots) ≡ length slots
length-laps lap last [] = refl
length-laps lap last (s ∷ slots) = ap suc (length-laps (lap_after lap last s) (slot_last last s) slots)

-- the laps from one of the frames on
pub laps-from : (k lap last : ℕ) (slots : List Slot) → drop k (laps_of lap last slots) ≡ laps_of (laps_last lap last (take k slots)) (slots_last last (take k slots)) (drop k slots)
laps-from zero lap last slots = refl
laps-from (suc k) lap last [] = refl
laps-from (suc k) lap last (s ∷ slots) = laps-from k (lap_after lap last s) (slot_last last s) slots

-- the laps of two rows, one after the other
pub laps-append : (lap last : ℕ) (xs ys : List Slot) → laps_of lap last (xs ++ ys) ≡ laps_of lap last xs ++ laps_of (laps_last lap last xs) (slots_last last xs) ys
laps-append lap last [] ys = refl
laps-append lap last (x ∷ xs) ys = ap (λ l. slot_lap lap last x ∷ l) (laps-append (lap_after lap last x) (slot_last last x) xs ys)

-- where the writer stands once a frame of a channel above 0 is begun
pub laps-at : (k lap last : ℕ) (slots : List Slot) (d : Slot) → k < length slots → 0 < (get_or slots k d).channel
    → (slots_last last (take (suc k) slots) ≡ (get_or slots k d).channel) × (laps_last lap last (take (suc k) slots) ≡ get_or (laps_of lap last slots) k 0)
laps-at k lap last [] d h a = absurd (omega arith)
laps-at zero lap last (s ∷ slots) d h a =
    let t : (s.channel == 0) ≡ false = ne_eqb s.channel 0 (λ e. omega arith) in
    (cond-false (s.channel == 0) _ _ t, sym (cond-false (s.channel == 0) _ _ t))
laps-at (suc k) lap last (s ∷ slots) d h a = laps-at k (lap_after lap last s) (slot_last last s) slots d (omega arith) a

-- a lap is at most one after the one before
pub lap-most : (lap last : ℕ) (s : Slot) → lap_after lap last s ≤ suc lap
lap-most lap last s = cases (s.channel == 0) (nat_lt last s.channel)
  where
    cases : (a b : Bool) → cond a lap (cond b lap (suc lap)) ≤ suc lap
    cases true b = omega arith
    cases false true = omega arith
    cases false false = omega arith

pub laps-most : (k lap last : ℕ) (slots : List Slot) → get_or (laps_of lap last slots) k 0 ≤ lap + suc k
laps-most k lap last [] = omega arith
laps-most zero lap last (s ∷ slots) = cases (s.channel == 0)
  where
    cases : (a : Bool) → cond a 0 (lap_after lap last s) ≤ lap + 1
    cases true = omega arith
    cases false = let m = lap-most lap last s in omega arith
laps-most (suc k) lap last (s ∷ slots) =
    let m = lap-most lap last s in
    let n = laps-most k (lap_after lap last s) (slot_last last s) slots in
    omega arith

pub laps_last-most : (lap last : ℕ) (slots : List Slot) → laps_last lap last slots ≤ lap + length slots
laps_last-most lap last [] = omega arith
laps_last-most lap last (s ∷ slots) =
    let m = lap-most lap last s in
    let n = laps_last-most (lap_after lap last s) (slot_last last s) slots in
    omega arith

pub laps_last-append : (lap last : ℕ) (xs ys : List Slot) → laps_last lap last (xs ++ ys) ≡ laps_last (laps_last lap last xs) (slots_last last xs) ys
laps_last-append lap last [] ys = refl
laps_last-append lap last (x ∷ xs) ys = laps_last-append (lap_after lap last x) (slot_last last x) xs ys

pub laps_last-more : (lap last : ℕ) (xs : List Slot) (i : ℕ) (d : Slot) → i < length xs → laps_last lap last (take (i + 1) xs) ≡ lap_after (laps_last lap last (take i xs)) (slots_last last (take i xs)) (get_or xs i d)
laps_last-more lap last xs i d h = ap (laps_last lap last) (take_more xs i d h) ∙ laps_last-append lap last (take i xs) (get_or xs i d ∷ [])

-- what a search for the count knows
pub record Searched (at : ℕ) (slots : List Slot) (laps : List ℕ) (low high : ℕ) : Type 0 where
  pub order : low ≤ high
  pub within : high ≤ length slots
  pub before : (k : ℕ) (d : Slot) → low ≡ suc k → is_after at (get_or slots k d) (get_or laps k 0) ≡ false
  pub after : (d : Slot) → high < length slots → is_after at (get_or slots high d) (get_or laps high 0) ≡ true

pub search-begun : (at : ℕ) (slots : List Slot) (laps : List ℕ) → Searched at slots laps 0 (length slots)
search-begun at slots laps = record {
  order = omega arith;
  within = omega arith;
  before = λ k d e. absurd (omega arith);
  after = λ d h. absurd (omega arith);
}

pub search-lower : (at : ℕ) (slots : List Slot) (laps : List ℕ) (low high middle : ℕ) (d : Slot) → Searched at slots laps low high → low ≤ middle → middle < high
    → is_after at (get_or slots middle d) (get_or laps middle 0) ≡ true → Searched at slots laps low middle
search-lower at slots laps low high middle d s l h e =
    let w = s.within in
    record {
      order = l;
      within = omega arith;
      before = s.before;
      after = λ d2 m. ap (λ x. is_after at x (get_or laps middle 0)) (get_or_default slots middle d2 d (omega arith)) ∙ e;
    }

pub search-higher : (at : ℕ) (slots : List Slot) (laps : List ℕ) (low high middle : ℕ) (d : Slot) → Searched at slots laps low high → low ≤ middle → middle < high
    → is_after at (get_or slots middle d) (get_or laps middle 0) ≡ false → Searched at slots laps (middle + 1) high
search-higher at slots laps low high middle d s l h e =
    let w = s.within in
    record {
      order = omega arith;
      within = w;
      before = λ k d2 z.
          let same : k ≡ middle = omega arith in
          ap (λ i. is_after at (get_or slots i d2) (get_or laps i 0)) same
          ∙ (ap (λ x. is_after at x (get_or laps middle 0)) (get_or_default slots middle d2 d (omega arith)) ∙ e);
      after = s.after;
    }

pub search-ended : (at : ℕ) (slots : List Slot) (laps : List ℕ) (low high : ℕ) → Searched at slots laps low high → high ≤ low → length slots ≡ length laps → AreInOrder at slots laps → low ≡ count_until at slots laps
search-ended at slots laps low high s h e o = cases slots s o e refl
  where
    cases : (xs : List Slot) → Searched at xs laps low high → AreInOrder at xs laps → length xs ≡ length laps → slots ≡ xs → low ≡ count_until at xs laps
    cases [] s o e same = let w = s.within in let r = s.order in omega arith
    cases (x ∷ xs) s o e same =
        let w = s.within in
        let r = s.order in
        let here : low ≡ high = omega arith in
        count-found at (x ∷ xs) laps low x o e (omega arith) (λ k z. s.before k x z)
        (λ l. ap (λ i. is_after at (get_or (x ∷ xs) i x) (get_or laps i 0)) here ∙ s.after x (omega arith))

-- one frame more is begun
pub lap-begun : (lap last i its now more : ℕ) (xs : List Slot) (d : Slot) → i < length xs → its ≡ laps_last lap last (take i xs) → now ≡ slots_last last (take i xs) → more ≡ lap_after its now (get_or xs i d)
    → more ≡ laps_last lap last (take (i + 1) xs)
lap-begun lap last i its now more xs d h e f g = g ∙ (ap₂ (λ p w. lap_after p w (get_or xs i d)) e f ∙ sym (laps_last-more lap last xs i d h))

-- where the last frame of a row hasn't its turn after the moment, none has
pub search-all : (at : ℕ) (slots : List Slot) (laps : List ℕ) (n : ℕ) (d : Slot) → n ≡ length slots → 0 < n → is_after at (get_or slots (n - 1) d) (get_or laps (n - 1) 0) ≡ false → length slots ≡ length laps → AreInOrder at slots laps → n ≡ count_until at slots laps
search-all at slots laps n d e some h m o =
    let s = search-higher at slots laps 0 (length slots) (n - 1) d (search-begun at slots laps) (omega arith) (omega arith) h in
    let k : n - 1 + 1 ≡ n = omega arith in
    sym k ∙ search-ended at slots laps (n - 1 + 1) (length slots) s (omega arith) m o
