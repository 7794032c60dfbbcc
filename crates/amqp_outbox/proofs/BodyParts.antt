-- A body that is cut: how many parts it has, and how many octets their frames.
use Rattle.std.proofs.Common.{◌≡◌, ◌<◌, ◌≤◌, ◌+◌, ◌-◌, ◌*◌, ◌/◌, ◌%◌, ◌^◌, nat_lt, Bool, true, false, ℕ, zero, suc, min, List, [], ◌∷◌, ◌++◌, map, length, take, drop, All, length-append, length-drop, take-append-drop, refl, ap, sym, ◌∙◌, arith, append_assoc, subst}
use Rattle.std.proofs.Math.Nat.{add-div_right, div-eq_of_lt}
use Rattle.std.proofs.lemmas.Bool.Decides.{nat_tests}
use Rattle.std.proofs.lemmas.List.{length-take-le, take_min}
use Rattle.std.proofs.lemmas.List.Elements.{All-nil, All-cons}
use Rattle.std.proofs.lemmas.Nat.{div-add-mod', le-div}
use Rattle.byteorder.specs.Endian.{big_bytes}
use Rattle.amqp_frame.specs.Frame.{header, octets, type_octet, END}
use Rattle.amqp_frame.specs.declared.frames.FrameKind.TheVariants.{Body}
use Rattle.amqp_frame.specs.Splitting.{stream}
use Rattle.amqp_model.specs.Output.Arrangement.{HasChannel}
use Rattle.amqp_model.specs.Wire.Contents.{first_pieces, pieces}
use Rattle.amqp_outbox.specs.OutboxFrames.{body_frame, body_frames}
use Rattle.amqp_outbox.proofs.OutboxRows.{length-octets}

first_count : (a room n : ℕ) → 0 < room → n ≡ suc a → (n + room - 1) / room ≡ suc (a / room)
first_count a room n some e =
    let before : n + room - 1 ≡ a + room = omega arith in
    ap (λ k. k / room) before ∙ (add-div_right a some ∙ omega arith)

left_long : (a room n : ℕ) → 0 < room → n ≡ suc a → room ≤ n → a / room ≡ (n - room + room - 1) / room
left_long a room n some e long = let before : a ≡ n - room + room - 1 = omega arith in ap (λ k. k / room) before

left_short : (a room n : ℕ) → 0 < room → n ≡ suc a → n < room → a / room ≡ (n - room + room - 1) / room
left_short a room n some e short =
    let none : a < room = omega arith in
    let rest : n - room + room - 1 < room = omega arith in
    div-eq_of_lt none ∙ sym (div-eq_of_lt rest)

is_short : (n room : ℕ) → nat_lt n room ≡ true → n < room
is_short n room h = grind (arith, nat_tests)

is_long : (n room : ℕ) → nat_lt n room ≡ false → room ≤ n
is_long n room h = grind (arith, nat_tests)

left_by : (b : Bool) (a room n : ℕ) → nat_lt n room ≡ b → 0 < room → n ≡ suc a → a / room ≡ (n - room + room - 1) / room
left_by true a room n short some e = left_short a room n some e (is_short n room short)
left_by false a room n long some e = left_long a room n some e (is_long n room long)

left : (a room n : ℕ) → 0 < room → n ≡ suc a → a / room ≡ (n - room + room - 1) / room
left a room n some e = left_by (nat_lt n room) a room n refl some e

pub counted : (room n : ℕ) → 0 < room → 0 < n → (n + room - 1) / room ≡ suc ((n - room + room - 1) / room)
counted room zero some more = absurd (omega arith)
counted room (suc a) some more = first_count a room (suc a) some refl ∙ ap suc (left a room (suc a) some refl)

-- octets that are not empty: the first part, and the parts of the rest
pub pieces_more : (octets : List ℕ) (room : ℕ) → 0 < room → 0 < length octets → pieces room octets ≡ take room octets ∷ pieces room (drop room octets)
pieces_more octets room some more =
    ap (λ n. first_pieces n room octets) (counted room (length octets) some more)
    ∙ ap (λ k. take room octets ∷ first_pieces ((k + room - 1) / room) room (drop room octets)) (sym (length-drop room octets))

pub pieces_none : (room : ℕ) → 0 < room → pieces room [] ≡ []
pieces_none room some = let none : 0 + room - 1 < room = omega arith in ap (λ n. first_pieces n room []) (div-eq_of_lt none)

pub same_drop : (rest : List ℕ) (room : ℕ) → drop (min room (length rest)) rest ≡ drop room rest
same_drop [] zero = refl
same_drop [] (suc room) = let none : min (suc room) 0 ≡ 0 = omega arith in ap (λ n. drop n []) none
same_drop (x ∷ rest) zero = let none : min 0 (length (x ∷ rest)) ≡ 0 = omega arith in ap (λ n. drop n (x ∷ rest)) none
same_drop (x ∷ rest) (suc room) =
    let less : min (suc room) (length (x ∷ rest)) ≡ suc (min room (length rest)) = omega arith in
    ap (λ n. drop n (x ∷ rest)) less ∙ same_drop rest room

-- the first part, and the parts of the rest, by how long the first is
pub cut_once : (room size : ℕ) (rest : List ℕ) → 0 < room → 0 < length rest → size ≡ min (length rest) room
    → pieces room rest ≡ take size rest ∷ pieces room (drop size rest)
cut_once room size rest some more e =
    let size_is : size ≡ min room (length rest) = omega arith in
    pieces_more rest room some more
    ∙ (ap (λ p. p ∷ pieces room (drop room rest)) (sym (ap (λ n. take n rest) size_is ∙ take_min room rest))
    ∙ ap (λ l. take size rest ∷ pieces room l) (sym (ap (λ n. drop n rest) size_is ∙ same_drop rest room)))

-- How much room the parts take.

at_most : (p q n : ℕ) → p + q ≡ n → p ≤ suc n
at_most p q n e = omega arith

no_fewer : (room a : ℕ) → 0 < room → a / room ≤ suc a / room
no_fewer room a some = le-div (a / room) (suc a) room some (at_most (a / room * room) (a % room) a (div-add-mod' a room))

-- no more parts than this
pub parts_most : (room n : ℕ) → 0 < room → (n + room - 1) / room ≤ n / room + 1
parts_most room zero some =
    let none : 0 + room - 1 < room = omega arith in
    let e : (0 + room - 1) / room ≡ 0 = div-eq_of_lt none in
    omega arith
parts_most room (suc a) some =
    let e = first_count a room (suc a) some refl in
    let h = no_fewer room a some in
    omega arith

-- as many frames as parts
pub frames_count : (channel n room : ℕ) (body : List ℕ) → length (map (body_frame channel) (first_pieces n room body)) ≡ n
frames_count channel zero room body = refl
frames_count channel (suc n) room body = ap suc (frames_count channel n room (drop room body))

-- no more octets than the body and eight for each part
pub frames_length : (channel n room : ℕ) (body : List ℕ)
    → length (stream (map (body_frame channel) (first_pieces n room body))) ≤ length body + 8 * n
frames_length channel zero room body = omega arith
frames_length channel (suc n) room body =
    let later = stream (map (body_frame channel) (first_pieces n room (drop room body))) in
    let a = length-append (octets (body_frame channel (take room body))) later in
    let b = length-octets (body_frame channel (take room body)) in
    let c = frames_length channel n room (drop room body) in
    let d = length-append (take room body) (drop room body) in
    let e = ap length (take-append-drop room body) in
    omega arith

-- each has its channel
pub frames_channel : (channel : ℕ) (parts : List (List ℕ)) → channel < 2 ^ 16 → All HasChannel (map (body_frame channel) parts)
frames_channel channel [] fits = All-nil HasChannel
frames_channel channel (part ∷ parts) fits =
    All-cons HasChannel (body_frame channel part) (map (body_frame channel) parts) fits (frames_channel channel parts fits)

-- the frames of octets that are not empty: that of the first part, and those of what is left
pub frames_more : (channel room size : ℕ) (body later : List ℕ) → 0 < room → 0 < length body → size ≡ min (length body) room → later ≡ drop size body
    → body_frames channel room body ≡ body_frame channel (take size body) ∷ body_frames channel room later
frames_more channel room size body later some more size_is later_is =
    ap (map (body_frame channel)) (cut_once room size body some more size_is)
    ∙ ap (λ l. body_frame channel (take size body) ∷ body_frames channel room l) (sym later_is)

pub length_more : (channel room size : ℕ) (body later : List ℕ) → 0 < room → 0 < length body → size ≡ min (length body) room → later ≡ drop size body
    → length (stream (body_frames channel room body)) ≡ (size + 8) + length (stream (body_frames channel room later))
length_more channel room size body later some more size_is later_is =
    let frame = body_frame channel (take size body) in
    let whole = length-append (octets frame) (stream (body_frames channel room later)) in
    let here = length-octets frame in
    let part = length-take-le size body (omega arith) in
    ap (λ frames. length (stream frames)) (frames_more channel room size body later some more size_is later_is) ∙ omega (arith, whole, here, part)

pub frames_none : (channel room : ℕ) (body : List ℕ) → 0 < room → body ≡ [] → body_frames channel room body ≡ []
frames_none channel room body some none = ap (body_frames channel room) none ∙ ap (map (body_frame channel)) (pieces_none room some)

-- They fit where there is room for as many parts, and for the body with eight octets around each.
sized : (room size count : ℕ) (body : List ℕ) → size ≡ length body → (size + room - 1) / room ≤ count → (length body + room - 1) / room ≤ count
sized room size count body size_is few = let P : ℕ → Type 0 = λ s. (s + room - 1) / room ≤ count in subst P size_is few

pub frames_fit : (channel room size count all : ℕ) (body : List ℕ) → size ≡ length body → (size + room - 1) / room ≤ count → all ≡ size + 8 * count
    → length (stream (body_frames channel room body)) ≤ all
frames_fit channel room size count all body size_is few all_is =
    let parts = (length body + room - 1) / room in
    let h : parts ≤ count = sized room size count body size_is few in
    let k = frames_length channel parts room body in
    omega (arith, h, k)

pub frames_counted : (channel room size count : ℕ) (body : List ℕ) → size ≡ length body → (size + room - 1) / room ≤ count
    → length (body_frames channel room body) ≤ count
frames_counted channel room size count body size_is few =
    let parts = (length body + room - 1) / room in
    let h : parts ≤ count = sized room size count body size_is few in
    let k = frames_count channel parts room body in
    omega (arith, h, k)

-- The frame of a part is appended: what stands before its payload, the payload, and the end octet.
pub part_appended : (channel size : ℕ) (part old started : List ℕ) → length part ≡ size → started ≡ old ++ header Body channel size
    → (started ++ part) ++ END ∷ [] ≡ old ++ octets (body_frame channel part)
unfolding octets
part_appended channel size part old started size_is started_is =
    let tail = part ++ END ∷ [] in
    append_assoc started part (END ∷ [])
    ∙ (ap (λ l. l ++ tail) started_is
    ∙ (append_assoc old (header Body channel size) tail
    ∙ ap (λ l. old ++ type_octet Body ∷ l)
    (append_assoc (big_bytes 2 channel) (big_bytes 4 size) tail ∙ ap (λ n. big_bytes 2 channel ++ (big_bytes 4 n ++ tail)) (sym size_is))))
