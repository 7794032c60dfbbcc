-- Parts of a list that is made of parts.
use Rattle.std.proofs.Common.{◌≡◌, ℕ, ◌+◌, ◌-◌, ◌≤◌, List, ◌++◌, length, take, drop, refl, sym, ap, ap₂, ◌∙◌, arith, append_assoc, length-append, take-append-drop, length-drop}
use Rattle.std.proofs.lemmas.List.{take_at, drop_at, length-take-le, take-take, take-append-le, take_all}
use Rattle.std.proofs.Math.Seq.{take-append-add, drop-append-add}
use Rattle.amqp_outbox.specs.OutboxSlots.{moved_up, moved_down}

-- the second of three parts
pub second : {X : Type 0} (a b c : List X) (n m : ℕ) → n ≡ length a → m ≡ n + length b → drop n (take m (a ++ (b ++ c))) ≡ b
second a b c n m e f =
    let g : length (a ++ b) ≡ m = length-append a b ∙ omega arith in
    let h : take m (a ++ (b ++ c)) ≡ a ++ b = ap (take m) (sym (append_assoc a b c)) ∙ take_at (a ++ b) c m g in
    ap (drop n) h ∙ drop_at a b n (sym e)

-- a list is made of what stands before a place, from there up to another, and after that
pub three : {X : Type 0} (xs : List X) (n m : ℕ) → n ≤ m → m ≤ length xs → xs ≡ take n xs ++ (drop n (take m xs) ++ drop m xs)
three xs n m h k =
    sym (take-append-drop m xs)
    ∙ (ap (λ ys. ys ++ drop m xs) (sym (take-append-drop n (take m xs)) ∙ ap (λ ys. ys ++ drop n (take m xs)) (shorter n m xs h))
    ∙ append_assoc (take n xs) (drop n (take m xs)) (drop m xs))
  where
    shorter : {X : Type 0} (n m : ℕ) (xs : List X) → n ≤ m → take n (take m xs) ≡ take n xs
    shorter n m xs h = take-take n m xs h

-- how long the middle part is
pub length-second : {X : Type 0} (xs : List X) (n m : ℕ) → n ≤ m → m ≤ length xs → length (drop n (take m xs)) + n ≡ m
length-second xs n m h k =
    let a = length-drop n (take m xs) in
    let b = length-take-le m xs k in
    omega arith

-- a list in four parts
pub four : {X : Type 0} (xs : List X) (n m k : ℕ) → n ≤ m → m ≤ k → k ≤ length xs → xs ≡ take n xs ++ (drop n (take m xs) ++ (drop m (take k xs) ++ drop k xs))
four xs n m k h i j =
    let whole = three xs m k i j in
    let front : take m xs ≡ take n xs ++ drop n (take m xs) = sym (take-append-drop n (take m xs)) ∙ ap (λ ys. ys ++ drop n (take m xs)) (take-take n m xs h) in
    whole ∙ (ap (λ ys. ys ++ (drop m (take k xs) ++ drop k xs)) front ∙ append_assoc (take n xs) (drop n (take m xs)) (drop m (take k xs) ++ drop k xs))

-- the third of four parts, moved before the second
pub moved_up-is : {X : Type 0} (a b c d : List X) (place end count : ℕ) → place ≡ length a → end ≡ place + (length b + count) → count ≡ length c → moved_up place end count (a ++ (b ++ (c ++ d))) ≡ a ++ (c ++ (b ++ d))
moved_up-is a b c d place end count e f g =
    let ab = length-append a b in
    let bc = length-append b c in
    let one : take place (a ++ (b ++ (c ++ d))) ≡ a = take_at a (b ++ (c ++ d)) place (sym e) in
    let whole : a ++ (b ++ (c ++ d)) ≡ (a ++ b) ++ (c ++ d) = sym (append_assoc a b (c ++ d)) in
    let two : drop (end - count) (take end (a ++ (b ++ (c ++ d)))) ≡ c = ap (λ xs. drop (end - count) (take end xs)) whole ∙ second (a ++ b) c d (end - count) end (omega arith) (omega arith) in
    let three_is : drop place (take (end - count) (a ++ (b ++ (c ++ d)))) ≡ b = second a b (c ++ d) place (end - count) e (omega arith) in
    let all : a ++ (b ++ (c ++ d)) ≡ (a ++ (b ++ c)) ++ d = ap (λ xs. a ++ xs) (sym (append_assoc b c d)) ∙ sym (append_assoc a (b ++ c) d) in
    let abc = length-append a (b ++ c) in
    let four_is : drop end (a ++ (b ++ (c ++ d))) ≡ d = ap (drop end) all ∙ drop_at (a ++ (b ++ c)) d end (omega arith) in
    cc (one, two, three_is, four_is)

-- what is appended to parts is appended to the last
pub last_of_three : {X : Type 0} (a b c d : List X) → (a ++ (b ++ c)) ++ d ≡ a ++ (b ++ (c ++ d))
last_of_three a b c d = append_assoc a (b ++ c) d ∙ ap (λ xs. a ++ xs) (append_assoc b c d)

pub last_of_four : {X : Type 0} (a b c d e : List X) → (a ++ (b ++ (c ++ d))) ++ e ≡ a ++ (b ++ (c ++ (d ++ e)))
last_of_four a b c d e = append_assoc a (b ++ (c ++ d)) e ∙ ap (λ xs. a ++ xs) (last_of_three b c d e)

-- a part of a list, as it is rotated in its place
pub rotated : {X : Type 0} (xs s rot : List X) (place end count len : ℕ) → s ≡ xs → len ≡ length xs → place + count ≤ end → end ≤ length xs
    → rot ≡ drop (length (take (end - place) (drop place s)) - count) (take (end - place) (drop place s)) ++ take (length (take (end - place) (drop place s)) - count) (take (end - place) (drop place s))
    → take len ((take place s ++ (rot ++ drop (end - place) (drop place s))) ++ drop (length (take place s ++ (rot ++ drop (end - place) (drop place s)))) xs) ≡ moved_up place end count xs
rotated xs s rot place end count len e l room within turned =
    let a = take place xs in
    let b = drop place (take (end - count) xs) in
    let c = drop (end - count) (take end xs) in
    let d = drop end xs in
    let whole : xs ≡ a ++ (b ++ (c ++ d)) = four xs place (end - count) end (omega arith) (omega arith) within in
    let size_a : length a ≡ place = length-take-le place xs (omega arith) in
    let size_b = length-second xs place (end - count) (omega arith) (omega arith) in
    let size_c = length-second xs (end - count) end (omega arith) within in
    let size_d = length-drop end xs in
    let rest : drop place s ≡ b ++ (c ++ d) = ap (drop place) (e ∙ whole) ∙ drop_at a (b ++ (c ++ d)) place size_a in
    let bc = length-append b c in
    let rest2 : drop place s ≡ (b ++ c) ++ d = rest ∙ sym (append_assoc b c d) in
    let mid : take (end - place) (drop place s) ≡ b ++ c = ap (take (end - place)) rest2 ∙ take_at (b ++ c) d (end - place) (omega arith) in
    let post : drop (end - place) (drop place s) ≡ d = ap (drop (end - place)) rest2 ∙ drop_at (b ++ c) d (end - place) (omega arith) in
    let left : length (take (end - place) (drop place s)) - count ≡ length b = let m = ap length mid in omega arith in
    let turned2 : rot ≡ c ++ b = turned ∙ (ap₂ (λ n ys. drop n ys ++ take n ys) left mid ∙ ap₂ (λ ys zs. ys ++ zs) (drop_at b c (length b) refl) (take_at b c (length b) refl)) in
    let front : take place s ≡ a = ap (take place) e in
    let parts : take place s ++ (rot ++ drop (end - place) (drop place s)) ≡ a ++ (c ++ (b ++ d)) = cc (front, turned2, post, append_assoc c b d) in
    let bd = length-append b d in
    let cbd = length-append c (b ++ d) in
    let acbd = length-append a (c ++ (b ++ d)) in
    let long : length (take place s ++ (rot ++ drop (end - place) (drop place s))) ≡ len = ap length parts ∙ omega arith in
    take_at (take place s ++ (rot ++ drop (end - place) (drop place s))) (drop (length (take place s ++ (rot ++ drop (end - place) (drop place s)))) xs) len long ∙ parts

-- parts of a list from beyond its first part on
pub take_past : {X : Type 0} (p q : List X) (n m : ℕ) → length p ≡ n → take (n + m) (p ++ q) ≡ p ++ take m q
take_past p q n m e = rw (sym e) (take-append-add p q m)

pub drop_past : {X : Type 0} (p q : List X) (n m : ℕ) → length p ≡ n → drop (n + m) (p ++ q) ≡ drop m q
drop_past p q n m e = rw (sym e) (drop-append-add p q m)

-- items that are copied over as many others
pub pasted : {X : Type 0} (p q rest s src : List X) (dest n : ℕ) → dest ≡ length p → n ≡ length q → take n src ≡ s → take dest (p ++ (q ++ rest)) ++ take n src ++ drop (dest + n) (p ++ (q ++ rest)) ≡ p ++ (s ++ rest)
pasted p q rest s src dest n e f g =
    let pq = length-append p q in
    let a : take dest (p ++ (q ++ rest)) ≡ p = take_at p (q ++ rest) dest (sym e) in
    let b : drop (dest + n) (p ++ (q ++ rest)) ≡ rest = ap (drop (dest + n)) (sym (append_assoc p q rest)) ∙ drop_at (p ++ q) rest (dest + n) (omega arith) in
    cc (a, g, b, append_assoc p s rest)

-- the fourth of five parts, moved before the third; the second is moved into the first, of which so much is lost
pub moved_down-is : {X : Type 0} (a b c d e : List X) (from place at count : ℕ) → from ≡ length a → place ≡ from + length b → at ≡ place + length c → count ≡ length d → count ≤ from
    → moved_down from place at count (a ++ (b ++ (c ++ (d ++ e)))) ≡ take (from - count) a ++ (b ++ (d ++ (c ++ e)))
moved_down-is a b c d e from place at count f g h i j =
    let ab = length-append a b in
    let abc = length-append (a ++ b) c in
    let one : take (from - count) (a ++ (b ++ (c ++ (d ++ e)))) ≡ take (from - count) a = take-append-le (from - count) a (b ++ (c ++ (d ++ e))) (omega arith) in
    let two : drop from (take place (a ++ (b ++ (c ++ (d ++ e))))) ≡ b = second a b (c ++ (d ++ e)) from place f g in
    let grouped : a ++ (b ++ (c ++ (d ++ e))) ≡ (a ++ b) ++ (c ++ (d ++ e)) = sym (append_assoc a b (c ++ (d ++ e))) in
    let three_is : drop place (take at (a ++ (b ++ (c ++ (d ++ e))))) ≡ c = ap (λ xs. drop place (take at xs)) grouped ∙ second (a ++ b) c (d ++ e) place at (omega arith) h in
    let grouped2 : a ++ (b ++ (c ++ (d ++ e))) ≡ ((a ++ b) ++ c) ++ (d ++ e) = grouped ∙ sym (append_assoc (a ++ b) c (d ++ e)) in
    let four_is : drop at (take (at + count) (a ++ (b ++ (c ++ (d ++ e))))) ≡ d = ap (λ xs. drop at (take (at + count) xs)) grouped2 ∙ second ((a ++ b) ++ c) d e at (at + count) (omega arith) (omega arith) in
    let grouped3 : a ++ (b ++ (c ++ (d ++ e))) ≡ (((a ++ b) ++ c) ++ d) ++ e = grouped2 ∙ sym (append_assoc ((a ++ b) ++ c) d e) in
    let abcd = length-append ((a ++ b) ++ c) d in
    let five : drop (at + count) (a ++ (b ++ (c ++ (d ++ e)))) ≡ e = ap (drop (at + count)) grouped3 ∙ drop_at (((a ++ b) ++ c) ++ d) e (at + count) (omega arith) in
    cc (one, two, three_is, four_is, five)

-- what stands from a place on is the part up to another place, and what stands from there on
drop_part : {X : Type 0} (xs : List X) (n m : ℕ) → n ≤ m → m ≤ length xs → drop n (take m xs) ++ drop m xs ≡ drop n xs
drop_part xs n m h k =
    let a = length-take-le n xs (omega arith) in
    sym (ap (drop n) (three xs n m h k) ∙ drop_at (take n xs) (drop n (take m xs) ++ drop m xs) n a)

-- the same by three copies: what is before the place, then the part, and then what stands after it
pub copied_down : {X : Type 0} (xs one two three_ four_ : List X) (from place at count len : ℕ) → len ≡ length xs → count ≤ from → from ≤ place → place ≤ at → at + count ≤ len
    → one ≡ take (from - count) xs ++ take (place - from) (drop from xs) ++ drop ((from - count) + (place - from)) xs
    → two ≡ take (place - count) one ++ take ((at + count) - at) (drop at one) ++ drop ((place - count) + ((at + count) - at)) one
    → three_ ≡ take at two ++ take (len - (at + count)) (drop (at + count) two) ++ drop (at + (len - (at + count))) two
    → four_ ≡ take (len - count) three_
    → four_ ≡ moved_down from place at count xs
copied_down xs one two three_ four_ from place at count len l h0 h1 h2 h3 e1 e2 e3 e4 =
    let g0 = take (from - count) xs in
    let g1 = drop (from - count) (take from xs) in
    let b = drop from (take place xs) in
    let c = drop place (take at xs) in
    let d = drop at (take (at + count) xs) in
    let e = drop (at + count) xs in
    let rest = c ++ (d ++ e) in
    let size_g0 : length g0 ≡ from - count = length-take-le (from - count) xs (omega arith) in
    let size_g1 : length g1 ≡ count = let k = length-second xs (from - count) from (omega arith) (omega arith) in omega arith in
    let size_b : length b ≡ place - from = let k = length-second xs from place h1 (omega arith) in omega arith in
    let size_c : length c ≡ at - place = let k = length-second xs place at h2 (omega arith) in omega arith in
    let size_d : length d ≡ count = let k = length-second xs at (at + count) (omega arith) (omega arith) in omega arith in
    let size_e : length e ≡ len - (at + count) = length-drop (at + count) xs ∙ ap (λ n. n - (at + count)) (sym l) in
    let after_place : drop place xs ≡ rest = sym (drop_part xs place at h2 (omega arith)) ∙ ap (λ ys. c ++ ys) (sym (drop_part xs at (at + count) (omega arith) (omega arith))) in
    let after_from : drop from xs ≡ b ++ rest = sym (drop_part xs from place h1 (omega arith)) ∙ ap (λ ys. b ++ ys) after_place in
    let whole : xs ≡ g0 ++ (g1 ++ (b ++ rest)) = sym (take-append-drop (from - count) xs) ∙ ap (λ ys. g0 ++ ys) (sym (drop_part xs (from - count) from (omega arith) (omega arith)) ∙ ap (λ ys. g1 ++ ys) after_from) in
    let q = take (place - from) (g1 ++ b) in
    let hole = drop (place - from) (g1 ++ b) in
    let gb = length-append g1 b in
    let size_q : length q ≡ place - from = length-take-le (place - from) (g1 ++ b) (omega arith) in
    let size_hole : length hole ≡ count = length-drop (place - from) (g1 ++ b) ∙ omega arith in
    let split : g1 ++ (b ++ rest) ≡ q ++ (hole ++ rest) = sym (append_assoc g1 b rest) ∙ (ap (λ ys. ys ++ rest) (sym (take-append-drop (place - from) (g1 ++ b))) ∙ append_assoc q hole rest) in
    let whole2 : xs ≡ g0 ++ (q ++ (hole ++ rest)) = whole ∙ ap (λ ys. g0 ++ ys) split in
    let b_is : take (place - from) (drop from xs) ≡ b = ap (take (place - from)) after_from ∙ take_at b rest (place - from) size_b in
    let one_is : one ≡ (g0 ++ b) ++ (hole ++ rest) =
    e1
    ∙ (ap (λ ys. take (from - count) ys ++ take (place - from) (drop from xs) ++ drop ((from - count) + (place - from)) ys) whole2
    ∙ (pasted g0 q (hole ++ rest) b (drop from xs) (from - count) (place - from) (sym size_g0) (sym size_q) b_is ∙ sym (append_assoc g0 b (hole ++ rest)))) in
    let size_g0b = length-append g0 b in
    let before_d : one ≡ (((g0 ++ b) ++ hole) ++ c) ++ (d ++ e) = one_is ∙ (sym (append_assoc (g0 ++ b) hole rest) ∙ sym (append_assoc ((g0 ++ b) ++ hole) c (d ++ e))) in
    let size_h = length-append (g0 ++ b) hole in
    let size_hc = length-append ((g0 ++ b) ++ hole) c in
    let d_is : take ((at + count) - at) (drop at one) ≡ d = ap (take ((at + count) - at)) (ap (drop at) before_d ∙ drop_at (((g0 ++ b) ++ hole) ++ c) (d ++ e) at (omega arith)) ∙ take_at d e ((at + count) - at) (omega arith) in
    let two_is : two ≡ ((g0 ++ b) ++ d) ++ rest =
    e2
    ∙ (ap (λ ys. take (place - count) ys ++ take ((at + count) - at) (drop at one) ++ drop ((place - count) + ((at + count) - at)) ys) one_is
    ∙ (pasted (g0 ++ b) hole rest d (drop at one) (place - count) ((at + count) - at) (omega arith) (omega arith) d_is ∙ sym (append_assoc (g0 ++ b) d rest))) in
    let size_gbd = length-append (g0 ++ b) d in
    let p = ((g0 ++ b) ++ d) ++ c in
    let size_p = length-append ((g0 ++ b) ++ d) c in
    let de = length-append d e in
    let q2 = take (len - (at + count)) (d ++ e) in
    let left = drop (len - (at + count)) (d ++ e) in
    let size_q2 : length q2 ≡ len - (at + count) = length-take-le (len - (at + count)) (d ++ e) (omega arith) in
    let two_split : two ≡ p ++ (q2 ++ left) = two_is ∙ (sym (append_assoc ((g0 ++ b) ++ d) c (d ++ e)) ∙ ap (λ ys. p ++ ys) (sym (take-append-drop (len - (at + count)) (d ++ e)))) in
    let before_e : two ≡ (p ++ d) ++ e = two_is ∙ (sym (append_assoc ((g0 ++ b) ++ d) c (d ++ e)) ∙ sym (append_assoc p d e)) in
    let size_pd = length-append p d in
    let e_is : take (len - (at + count)) (drop (at + count) two) ≡ e = ap (take (len - (at + count))) (ap (drop (at + count)) before_e ∙ drop_at (p ++ d) e (at + count) (omega arith)) ∙ take_all (len - (at + count)) e (omega arith) in
    let three_is : three_ ≡ p ++ (e ++ left) =
    e3
    ∙ (ap (λ ys. take at ys ++ take (len - (at + count)) (drop (at + count) two) ++ drop (at + (len - (at + count))) ys) two_split
    ∙ pasted p q2 left e (drop (at + count) two) at (len - (at + count)) (omega arith) (sym size_q2) e_is) in
    let size_pe = length-append p e in
    let four_is : four_ ≡ p ++ e = e4 ∙ (ap (take (len - count)) (three_is ∙ sym (append_assoc p e left)) ∙ take_at (p ++ e) left (len - count) (omega arith)) in
    four_is ∙ (append_assoc ((g0 ++ b) ++ d) c e ∙ (append_assoc (g0 ++ b) d (c ++ e) ∙ append_assoc g0 b (d ++ (c ++ e))))
