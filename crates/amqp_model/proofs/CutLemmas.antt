-- What is written of a content is that content, each part as long as fits.
use Rattle.std.proofs.Common.{◌≡◌, ℕ, zero, suc, ◌+◌, ◌-◌, ◌*◌, ◌/◌, ◌<◌, ◌≤◌, min}
use Rattle.std.proofs.Common.{All, slice_get, Some, List, [], ◌∷◌, ◌++◌, length, map, take, drop, refl, sym}
use Rattle.std.proofs.Common.{ap, ◌∙◌, subst, arith, length-append, length-drop}
use Rattle.std.specs.List.{concat}
use Rattle.std.proofs.Math.Nat.{lt_of_mul-lt-mul_left}
use Rattle.std.proofs.lemmas.List.{nil_from_length, length-take, length-map, take-append-drop, drop-drop}
use Rattle.std.proofs.lemmas.List.Elements.{All-cons}
use Rattle.amqp_model.specs.Wire.Contents.{Calls, Header, Body, Content, EndsFull, first_pieces, pieces, room_in, cut}
use Rattle.amqp_model.specs.Laws.ContentLaws.{BodyFits, CutIsContent, CutFits, CutIsShortest, PartsInPlace, CutsTo}
use Rattle.amqp_model.specs.Laws.ContentLaws.{body_lengths}

-- the count of pieces: their octets are enough, and without the last they are not
enough : (n room : ℕ) → 0 < room → n ≤ (n + room - 1) / room * room
enough n room some = omega arith

not-more : (n room : ℕ) → 0 < room → (n + room - 1) / room * room < n + room
not-more n room some = omega arith

pieces-join : (n room : ℕ) (octets : List ℕ) → length octets ≤ n * room
    → concat (first_pieces n room octets) ≡ octets
pieces-join zero room octets fits = sym (nil_from_length octets (omega arith))
pieces-join (suc n) room octets fits =
    let rest : length (drop room octets) ≤ n * room = omega (arith, fits, length-drop room octets) in
    ap (λ l. take room octets ++ l) (pieces-join n room (drop room octets) rest) ∙ take-append-drop room octets

pieces-full : (n room : ℕ) (octets : List ℕ) → 0 < room → n * room < length octets + room
    → EndsFull (first_pieces n room octets)
pieces-full zero room octets some short = tt
pieces-full (suc zero) room octets some short =
    λ none. absurd (let h : length (take room octets) ≡ 0 = ap length none in
    omega (arith, h, length-take room octets))
pieces-full (suc (suc n)) room octets some short =
    pieces-full (suc n) room (drop room octets) some (omega (arith, length-drop room octets))

-- the lengths of pieces, by the length of the whole
abbrev piece_lengths : (pieces room octets : ℕ) → List ℕ
piece_lengths zero room n = []
piece_lengths (suc pieces) room n = min room n ∷ piece_lengths pieces room (n - room)

lengths-of-pieces : (n room : ℕ) (octets : List ℕ) → body_lengths (map Body (first_pieces n room octets))
    ≡ piece_lengths n room (length octets)
lengths-of-pieces zero room octets = refl
lengths-of-pieces (suc n) room octets =
    let rest = lengths-of-pieces n room (drop room octets) ∙ ap (piece_lengths n room) (length-drop room octets) in
    cc (length-take room octets)

pub cuts-to : (max n : ℕ) (content : Content) → length content.body ≡ n
    → body_lengths (cut max content) ≡ piece_lengths ((n + room_in max - 1) / room_in max) (room_in max) n
cuts-to max n content e =
    lengths-of-pieces ((length content.body + room_in max - 1) / room_in max) (room_in max) content.body
    ∙ ap (λ n. piece_lengths ((n + room_in max - 1) / room_in max) (room_in max) n) e

pub row-above : CutsTo 4096 4089 (4088 ∷ 1 ∷ [])
row-above content e = cuts-to 4096 4089 content e

pub row-full : CutsTo 4096 4088 (4088 ∷ [])
row-full content e = cuts-to 4096 4088 content e

pub row-empty : CutsTo 4096 0 []
row-empty content e = cuts-to 4096 0 content e

pub cut-content : CutIsContent
cut-content max content above carries =
    let room : 0 < room_in max = omega arith in
    let count = (length content.body + room_in max - 1) / room_in max in
    record {
      carries = carries;
      parts = pieces (room_in max) content.body;
      joined = pieces-join count (room_in max) content.body (enough (length content.body) (room_in max) room);
      ends_full = pieces-full count (room_in max) content.body room (not-more (length content.body) (room_in max) room);
      payloads_are = refl;
    }

pieces-fit : (max : ℕ) → 8 < max → (n : ℕ) (octets : List ℕ)
    → All (BodyFits max) (map Body (first_pieces n (room_in max) octets))
pieces-fit max above zero octets = λ k d h. absurd (omega arith)
pieces-fit max above (suc n) octets =
    All-cons (BodyFits max) (Body (take (room_in max) octets))
    (map Body (first_pieces n (room_in max) (drop (room_in max) octets)))
    (λ channel. omega (arith, length-take (room_in max) octets)) (pieces-fit max above n (drop (room_in max) octets))

pub cut-fits : CutFits
cut-fits max content above =
    let bodies = map Body (pieces (room_in max) content.body) in
    let header = Header (length content.body) content.properties in
    All-cons (BodyFits max) (Calls content.method) (header ∷ bodies) tt
    (All-cons (BodyFits max) header bodies tt
    (pieces-fit max above ((length content.body + room_in max - 1) / room_in max) content.body))

parts-bound : (max : ℕ) (parts : List (List ℕ)) → 8 < max → All (BodyFits max) (map Body parts)
    → length (concat parts) ≤ length parts * room_in max
parts-bound max [] above fit = omega arith
parts-bound max (part ∷ parts) above fit =
    let rest = parts-bound max parts above (λ k d h. fit (suc k) d (omega arith)) in
    let first : length part + 8 ≤ max = fit 0 (Body part) (omega arith) 0 in
    omega (arith, length-append part (concat parts))

count-of-pieces : (n room : ℕ) (octets : List ℕ) → length (first_pieces n room octets) ≡ n
count-of-pieces zero room octets = refl
count-of-pieces (suc n) room octets = ap suc (count-of-pieces n room (drop room octets))

pub cut-shortest : CutIsShortest
cut-shortest max content payloads above is fit =
    let room : 0 < room_in max = omega arith in
    let count : ℕ = (length content.body + room_in max - 1) / room_in max in
    let fit' : All (BodyFits max) (map Body is.parts) = λ k d h. subst (All (BodyFits max)) is.payloads_are fit
    (suc (suc k)) d (omega arith) in
    let bound = parts-bound max is.parts above fit' in
    let short = not-more (length content.body) (room_in max) room in
    let octets = ap length is.joined in
    let fewer = lt_of_mul-lt-mul_left (room_in max) {m = count} {n = length is.parts + 1} (omega arith) in
    let written = length-map (first_pieces count (room_in max) content.body) Body in
    let others = ap length is.payloads_are in
    omega (arith, count-of-pieces count (room_in max) content.body, length-map is.parts Body)

pub parts-in-place : PartsInPlace
parts-in-place room octets place below =
    at-place ((length octets + room - 1) / room) octets place
    (omega (arith, count-of-pieces ((length octets + room - 1) / room) room octets))
  where
    at-place : (n : ℕ) (octets : List ℕ) (place : ℕ) → place < n
        → slice_get (first_pieces n room octets) place ≡ Some (take room (drop (place * room) octets))
    at-place zero octets place below = absurd (omega arith)
    at-place (suc n) octets zero below =
        let start : 0 * room ≡ 0 = omega arith in
        ap (λ k. Some (take room (drop k octets))) (sym start)
    at-place (suc n) octets (suc place) below =
        let start : room + place * room ≡ suc place * room = omega arith in
        at-place n (drop room octets) place (omega arith)
        ∙ ap (λ l. Some (take room l)) (drop-drop (place * room) room octets ∙ ap (λ k. drop k octets) start)
