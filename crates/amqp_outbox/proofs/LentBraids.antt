-- A body in parts, and what stands around them, lent in turn.
use Rattle.std.proofs.Common.{◌≡◌, ℕ, zero, suc, ◌+◌, ◌-◌, ◌<◌, ◌≤◌, min, List, [], ◌∷◌, ◌++◌, length, map, take, drop, refl, sym, ap, ap₂, ◌∙◌, arith, append_assoc, length-append, length-drop, take-append-drop}
use Rattle.std.proofs.lemmas.List.{length-take-le, take_at, drop_at, take_min}
use Rattle.amqp_frame.specs.Frame.{header, octets, END}
use Rattle.amqp_frame.specs.Splitting.{stream}
use Rattle.amqp_frame.specs.declared.frames.FrameKind.TheVariants.{Body}
use Rattle.amqp_model.specs.Wire.Contents.{pieces}
use Rattle.amqp_outbox.specs.LentContent.{around, braided}
use Rattle.amqp_outbox.specs.LentFrames.{content_left}
use Rattle.amqp_outbox.specs.OutboxFrames.{body_frame}
use Rattle.amqp_outbox.specs.declared.lent.ContentFrames.{ContentFrames}
use Rattle.amqp_outbox.proofs.BodyParts.{cut_once, pieces_none, same_drop, part_appended}

-- What stands before the next part is passed.
pub passes : (before k room size : ℕ) (between body : List ℕ) → 0 < room → k ≡ min before (length between) → size ≡ min room (length body)
    → braided before between (pieces room body) ≡ take k between ++ (take size body ++ braided 8 (drop k between) (pieces room (drop size body)))
passes before k room size between [] some k_is size_is =
    let zero_is : 0 ≡ size = omega (arith, size_is) in
    ap (braided before between) (pieces_none room some)
    ∙ (sym (take-append-drop k between)
    ∙ (ap (λ ps. take k between ++ braided 8 (drop k between) ps) (sym (pieces_none room some))
    ∙ ap (λ n. take k between ++ (take n [] ++ braided 8 (drop k between) (pieces room (drop n [])))) zero_is))
passes before k room size between (x ∷ body) some k_is size_is =
    let more : 0 < length (x ∷ body) = omega arith in
    let least : size ≡ min (length (x ∷ body)) room = omega (arith, size_is) in
    let later = pieces room (drop size (x ∷ body)) in
    ap (braided before between) (cut_once room size (x ∷ body) some more least)
    ∙ ap₂ (λ t d. t ++ (take size (x ∷ body) ++ braided 8 d later))
    (sym (ap (λ n. take n between) k_is ∙ take_min before between))
    (sym (ap (λ n. drop n between) k_is ∙ same_drop between before))

braided-length : (k before room : ℕ) (between body : List ℕ) → 0 < room → length body ≤ k
    → length (braided before between (pieces room body)) ≡ length between + length body
braided-length k before room between [] some most =
    let e = ap length (ap (braided before between) (pieces_none room some)) in
    omega (arith, e)
braided-length zero before room between (x ∷ body) some most = absurd (omega arith)
braided-length (suc k) before room between (x ∷ body) some most =
    let here = min before (length between) in
    let size = min room (length (x ∷ body)) in
    let rest = drop size (x ∷ body) in
    let later = braided 8 (drop here between) (pieces room rest) in
    let fewer : length rest ≤ k = let d = length-drop size (x ∷ body) in omega arith in
    let e = ap length (passes before here room size between (x ∷ body) some refl refl) in
    let a = length-append (take here between) (take size (x ∷ body) ++ later) in
    let b = length-append (take size (x ∷ body)) later in
    let c = length-take-le here between (omega arith) in
    let d = length-take-le size (x ∷ body) (omega arith) in
    let f = braided-length k 8 room (drop here between) rest some fewer in
    let g = length-drop here between in
    let h = length-drop size (x ∷ body) in
    omega arith

-- how many octets are left
pub length-left : (x : ContentFrames) → 0 < x.room
    → length (content_left x) ≡ length x.begun.now + (length x.part.now + (length x.between.now + length x.body.now))
length-left x some =
    let left = braided x.before x.between.now (pieces x.room x.body.now) in
    let a = length-append x.begun.now (x.part.now ++ left) in
    let b = length-append x.part.now left in
    let c = braided-length (length x.body.now) x.before x.room x.between.now x.body.now some (omega arith) in
    omega arith

-- Nothing is left of frames without octets.
pub none-left : (x : ContentFrames) → 0 < x.room → x.begun.now ≡ [] → x.part.now ≡ [] → x.between.now ≡ [] → x.body.now ≡ [] → content_left x ≡ []
none-left x some begun part between body =
    ap₂ (λ b p. b ++ (p ++ braided x.before x.between.now (pieces x.room x.body.now))) begun part
    ∙ (ap₂ (λ b o. braided x.before b (pieces x.room o)) between body
    ∙ ap (braided x.before []) (pieces_none x.room some))

-- what is left where no piece is begun and no part is next
pub left-between : (x : ContentFrames) → x.begun.now ≡ [] → x.part.now ≡ [] → content_left x ≡ braided x.before x.between.now (pieces x.room x.body.now)
left-between x begun part = ap₂ (λ b p. b ++ (p ++ braided x.before x.between.now (pieces x.room x.body.now))) begun part

-- octets from a place on
pub drop-past : (xs ys : List ℕ) (n : ℕ) → length xs ≤ n → drop n (xs ++ ys) ≡ drop (n - length xs) ys
drop-past [] ys n h = let e : n ≡ n - 0 = omega arith in ap (λ k. drop k ys) e
drop-past (x ∷ xs) ys zero h = absurd (omega arith)
drop-past (x ∷ xs) ys (suc n) h =
    let e : n - length xs ≡ suc n - length (x ∷ xs) = omega arith in
    drop-past xs ys n (omega arith) ∙ ap (λ k. drop k ys) e

pub drop-within : (xs ys : List ℕ) (n : ℕ) → n ≤ length xs → drop n (xs ++ ys) ≡ drop n xs ++ ys
drop-within xs ys zero h = refl
drop-within [] ys (suc n) h = absurd (omega arith)
drop-within (x ∷ xs) ys (suc n) h = drop-within xs ys n (omega arith)

-- What stands around the parts, with the parts in it, is their frames.
pub whole : (channel ahead : ℕ) (lead : List ℕ) (parts : List (List ℕ)) → ahead ≡ length lead
    → braided (ahead + 7) (lead ++ around channel parts) parts ≡ lead ++ stream (map (body_frame channel) parts)
whole channel ahead lead [] ahead_is = refl
whole channel ahead lead (part ∷ parts) ahead_is =
    let start = header Body channel (length part) in
    let later = END ∷ around channel parts in
    let seven : length start ≡ 7 = refl in
    let n_is : ahead + 7 ≡ length (lead ++ start) = let a = length-append lead start in omega arith in
    let grouped : lead ++ (start ++ later) ≡ (lead ++ start) ++ later = sym (append_assoc lead start later) in
    let rest = stream (map (body_frame channel) parts) in
    ap₂ (λ t d. t ++ (part ++ braided 8 d parts))
    (ap (take (ahead + 7)) grouped ∙ take_at (lead ++ start) later (ahead + 7) (sym n_is))
    (ap (drop (ahead + 7)) grouped ∙ drop_at (lead ++ start) later (ahead + 7) (sym n_is))
    ∙ (ap (λ l. (lead ++ start) ++ (part ++ l)) (whole channel 1 (END ∷ []) parts refl)
    ∙ (sym (append_assoc (lead ++ start) part (END ∷ rest))
    ∙ (sym (append_assoc ((lead ++ start) ++ part) (END ∷ []) rest)
    ∙ (ap (λ l. l ++ rest) (part_appended channel (length part) part lead (lead ++ start) refl refl)
    ∙ append_assoc lead (octets (body_frame channel part)) rest))))
