-- Payloads are one content at most, and no content is the prefix of another.
use Rattle.std.proofs.Common.{◌≡◌, ◌≢◌, ℕ, zero, suc, ◌<◌, List, [], ◌∷◌, ◌++◌, length, map}
use Rattle.std.proofs.Common.{refl, sym, ap, ◌∙◌, subst, arith, append_assoc, append-nil, length-append}
use Rattle.std.specs.List.{concat}
use Rattle.std.proofs.lemmas.List.{nil_from_length}
use Rattle.amqp_model.specs.Wire.Methods.{Method, Properties}
use Rattle.amqp_model.specs.Wire.Contents.{Payload, Calls, Header, Body, Content, EndsFull}
use Rattle.amqp_model.specs.Laws.ContentLaws.{IsAtMostOneContent, NoContentAtStart}

pub concat-append : (prefix back : List (List ℕ)) → concat (prefix ++ back) ≡ concat prefix ++ concat back
concat-append [] back = refl
concat-append (part ∷ prefix) back =
    ap (λ l. part ++ l) (concat-append prefix back) ∙ sym (append_assoc part (concat prefix) (concat back))

append-none : (xs ys : List ℕ) → xs ++ ys ≡ [] → ys ≡ []
append-none [] ys e = e
append-none (x ∷ xs) ys e = absurd cc

-- parts that join to nothing, the last of them not empty, are none
pub full-none : (parts : List (List ℕ)) → EndsFull parts → concat parts ≡ [] → parts ≡ []
full-none [] full e = refl
full-none (last ∷ []) full e = absurd (full (sym (append-nil last) ∙ e))
full-none (part ∷ next ∷ later) full e =
    absurd (let none = full-none (next ∷ later) full (append-none part (concat (next ∷ later)) e) in cc)

pub full-after : (prefix : List (List ℕ)) (part : List ℕ) (later : List (List ℕ))
    → EndsFull (prefix ++ part ∷ later) → EndsFull (part ∷ later)
full-after [] part later full = full
full-after (first ∷ []) part later full = full
full-after (first ∷ second ∷ prefix) part later full = full-after (second ∷ prefix) part later full

pub full-snoc : (prefix : List (List ℕ)) (last : List ℕ) → last ≢ [] → EndsFull (prefix ++ last ∷ [])
full-snoc [] last full = full
full-snoc (first ∷ []) last full = full
full-snoc (first ∷ second ∷ prefix) last full = full-snoc (second ∷ prefix) last full

-- some parts, the last of them not empty, have octets
pub full-some : (part : List ℕ) (later : List (List ℕ)) → EndsFull (part ∷ later)
    → 0 < length (concat (part ∷ later))
full-some part later full = some (length (concat (part ∷ later))) refl
  where
    some : (n : ℕ) → length (concat (part ∷ later)) ≡ n → 0 < n
    some zero e =
        absurd (let none = full-none (part ∷ later) full (nil_from_length (concat (part ∷ later)) e) in cc)
    some (suc n) e = omega arith

pub bodies-same : (parts others : List (List ℕ)) → map Body parts ≡ map Body others → parts ≡ others
bodies-same [] [] e = refl
bodies-same [] (other ∷ others) e = absurd cc
bodies-same (part ∷ parts) [] e = absurd cc
bodies-same (part ∷ parts) (other ∷ others) e =
    let first : part ≡ other = cc in
    let rest = bodies-same parts others cc in
    cc

-- payloads before others among body parts are body parts
pub data BodiesPrefix (prefix : List Payload) (next : Payload) (later : List Payload)
    (parts : List (List ℕ)) : Type 0 where
  bodies_prefix : (before : List (List ℕ)) (part : List ℕ) (more : List (List ℕ)) → prefix ≡ map Body before
      → parts ≡ before ++ part ∷ more → next ≡ Body part → later ≡ map Body more
      → BodiesPrefix prefix next later parts

pub bodies-prefix : (prefix : List Payload) (parts : List (List ℕ)) (next : Payload) (later : List Payload)
    → prefix ++ next ∷ later ≡ map Body parts → BodiesPrefix prefix next later parts
bodies-prefix [] [] next later e = absurd cc
bodies-prefix [] (part ∷ parts) next later e =
    let first : next ≡ Body part = cc in
    let rest : later ≡ map Body parts = cc in
    bodies_prefix [] part parts refl refl first rest
bodies-prefix (first ∷ prefix) [] next later e = absurd cc
bodies-prefix (first ∷ prefix) (part ∷ parts) next later e = more (bodies-prefix prefix parts next later cc)
  where
    same : first ≡ Body part
    same = cc

    more : BodiesPrefix prefix next later parts → BodiesPrefix (first ∷ prefix) next later (part ∷ parts)
    more (bodies_prefix before p ps prefix_is parts_are next_is later_is) =
        let prefix_is' : first ∷ prefix ≡ map Body (part ∷ before) = cc in
        bodies_prefix (part ∷ before) p ps prefix_is' (ap (λ l. part ∷ l) parts_are) next_is later_is

abbrev pub content-of : Method → Properties → List ℕ → Content
content-of method properties body = record { method = method; properties = properties; body = body }

pub same-content : {method method' : Method} {properties properties' : Properties} {body body' : List ℕ}
    → method ≡ method' → properties ≡ properties' → body ≡ body'
    → content-of method properties body ≡ content-of method' properties' body'
same-content m p b = cc

pub one-content : IsAtMostOneContent
one-content payloads one other is_one is_other =
    let e : Calls one.method ∷ Header (length one.body) one.properties ∷ map Body is_one.parts
    ≡ Calls other.method ∷ Header (length other.body) other.properties ∷ map Body is_other.parts =
    sym is_one.payloads_are ∙ is_other.payloads_are in
    let method : one.method ≡ other.method = cc in
    let properties : one.properties ≡ other.properties = cc in
    let parts : is_one.parts ≡ is_other.parts = bodies-same is_one.parts is_other.parts cc in
    let body : one.body ≡ other.body = sym is_one.joined ∙ (ap concat parts ∙ is_other.joined) in
    same-content method properties body

pub no-prefix : NoContentAtStart
no-prefix payloads one other next later is_one is_other =
    go (bodies-prefix (map Body is_one.parts) is_other.parts next later cc)
  where
    e : Calls one.method ∷ Header (length one.body) one.properties ∷ map Body is_one.parts ++ next ∷ later
        ≡ Calls other.method ∷ Header (length other.body) other.properties ∷ map Body is_other.parts
    e = sym (ap (λ l. l ++ next ∷ later) is_one.payloads_are) ∙ is_other.payloads_are

    go : BodiesPrefix (map Body is_one.parts) next later is_other.parts → ⊥
    go (bodies_prefix before part more prefix_is parts_are next_is later_is) =
        let size : length one.body ≡ length other.body = cc in
        let same = bodies-same is_one.parts before prefix_is in
        let full = full-after before part more (subst EndsFull parts_are is_other.ends_full) in
        let some = full-some part more full in
        let prefix = ap concat (sym same) ∙ is_one.joined in
        let joined = sym is_other.joined
        ∙ (ap concat parts_are
        ∙ (concat-append before (part ∷ more) ∙ ap (λ l. l ++ concat (part ∷ more)) prefix)) in
        let longer_by = ap length joined ∙ length-append one.body (concat (part ∷ more)) in
        omega arith
