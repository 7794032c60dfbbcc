-- What the machine keeps is what is under way.
use Rattle.std.proofs.Common.{◌≡◌, Bool, true, false, cond, ℕ, ◌<◌, ltb, eqb, List, [], ◌∷◌, ◌++◌}
use Rattle.std.proofs.Common.{length, map, reverse, refl, sym, ap, ◌∙◌, subst, arith}
use Rattle.std.specs.List.{concat}
use Rattle.std.proofs.lemmas.List.{reverse-append, reverse-reverse}
use Rattle.std.proofs.lemmas.Bool.Decides.{nat_tests}
use Rattle.amqp_model.specs.Wire.Methods.{Method, Properties, carries_content}
use Rattle.amqp_model.specs.Wire.Contents.{Payload, Calls, Header, Body, Unread, UnderWay, body_octets, due, IsDue}
use Rattle.amqp_model.specs.Wire.Gathering.{Gathering, Nothing, HeaderDue, BodyDue, Step, Keeps, Completes, Breaks}
use Rattle.amqp_model.specs.Wire.Gathering.{PastSize, begun, gathered, step, remains, gathering, kept, Gathers}
use Rattle.amqp_model.specs.Laws.ContentLaws.{OneUnderWay, GoesOnAsDue, KeepsUnderWay, KeepsItsOctets, GathersAfresh}
use Rattle.amqp_model.specs.Laws.ContentLaws.{NothingAfterMethod}
use Rattle.amqp_model.proofs.ContentLemmas.{bodies-same}
use Rattle.amqp_model.proofs.UnderWayLemmas.{Grows, has_method, has_header, has_more, grown-kept, grown-prefix}
use Rattle.amqp_model.proofs.UnderWayLemmas.{Prefixes, method_prefix, body_prefix, prefix-under_way, Growing, growing}
use Rattle.amqp_model.proofs.UnderWayLemmas.{under_way-grows, ContentPrefix, its_method, its_body, content-prefix}

-- what is kept has grown from the newest of the payloads taken
pub data Grown (taken : List Payload) (state : Gathering) : Type 0 where
  grown : (since before : List Payload) → taken ≡ since ++ before → Grows since state → Grown taken state

-- what the test of a body's length says
pub data Lengths (method : Method) (size : ℕ) (properties : Properties) (body : List ℕ) : Step → Type 0 where
  is_whole : length body ≡ size
      → Lengths method size properties body
      (Completes (record { method = method; properties = properties; body = body }))
  is_short : length body < size → Lengths method size properties body (Keeps (BodyDue method size properties body))
  is_past : size < length body → Lengths method size properties body (Breaks PastSize)

pub lengths : (method : Method) (size : ℕ) (properties : Properties) (body : List ℕ)
    → Lengths method size properties body (gathered method size properties body)
lengths method size properties body = tests (eqb (length body) size) refl (ltb (length body) size) refl
  where
    tests : (b : Bool) → eqb (length body) size ≡ b → (c : Bool) → ltb (length body) size ≡ c
        → Lengths method size properties body
        (cond b (Completes (record { method = method; properties = properties; body = body }))
        (cond c (Keeps (BodyDue method size properties body)) (Breaks PastSize)))
    tests true e c h = is_whole (grind (arith, nat_tests))
    tests false e true h = is_short (grind (arith, nat_tests))
    tests false e false h = is_past (grind (arith, nat_tests))

-- a method leaves what it begins, whatever was kept
calls-remain : (state : Gathering) (method : Method)
    → remains (step state (Calls method)) (Calls method) ≡ begun method
calls-remain Nothing method = refl
calls-remain (HeaderDue _) method = refl
calls-remain (BodyDue _ _ _ _) method = refl

-- some content is under way in this state
abbrev pub IsSome : Gathering → Type 0
IsSome Nothing = ⊥
IsSome _ = Unit {0}

begun-grown : (method : Method) (before : List Payload) (b : Bool) → carries_content method ≡ b
    → (state : Gathering) → cond b (HeaderDue method) Nothing ≡ state → IsSome state
    → Grown (Calls method ∷ before) state
begun-grown method before true carries state e some =
    subst (Grown (Calls method ∷ before)) e (grown (Calls method ∷ []) before refl (has_method carries))
begun-grown method before false carries state e some = absurd (subst IsSome (sym e) some)

after-grown : (payload : Payload) (before : List Payload) (state : Gathering) → gathering before ≡ state
    → (IsSome state → Grown before state) → IsSome (remains (step state payload) payload)
    → Grown (payload ∷ before) (remains (step state payload) payload)
after-grown (Calls method) before state e old some =
    begun-grown method before (carries_content method) refl (remains (step state (Calls method)) (Calls method))
    (sym (calls-remain state method)) some
after-grown (Header size properties) before Nothing e old some = absurd some
after-grown (Header size properties) before (HeaderDue method) e old some =
    test (lengths method size properties []) some
  where
    from : Grown before (HeaderDue method) → 0 < size
        → Grown (Header size properties ∷ before) (BodyDue method size properties [])
    from (grown since older e' (has_method carries)) more =
        grown (Header size properties ∷ Calls method ∷ []) older (ap (λ l. Header size properties ∷ l) e')
        (has_header carries more)

    test : {s : Step} → Lengths method size properties [] s → IsSome (remains s (Header size properties))
        → Grown (Header size properties ∷ before) (remains s (Header size properties))
    test (is_whole e) some = absurd some
    test (is_short more) some = from (old tt) more
    test (is_past more) some = absurd some
after-grown (Header size properties) before (BodyDue _ _ _ _) e old some = absurd some
after-grown (Body octets) before Nothing e old some = absurd some
after-grown (Body octets) before (HeaderDue method) e old some = absurd some
after-grown (Body octets) before (BodyDue method size properties body) e old some =
    test (lengths method size properties (body ++ octets)) some
  where
    from : Grown before (BodyDue method size properties body) → length (body ++ octets) < size
        → Grown (Body octets ∷ before) (BodyDue method size properties (body ++ octets))
    from (grown since older e' grows) more =
        grown (Body octets ∷ since) older (ap (λ l. Body octets ∷ l) e') (has_more grows more)

    test : {s : Step} → Lengths method size properties (body ++ octets) s → IsSome (remains s (Body octets))
        → Grown (Body octets ∷ before) (remains s (Body octets))
    test (is_whole e) some = absurd some
    test (is_short more) some = from (old tt) more
    test (is_past more) some = absurd some
after-grown Unread before Nothing e old some = absurd some
after-grown Unread before (HeaderDue _) e old some = absurd some
after-grown Unread before (BodyDue _ _ _ _) e old some = absurd some

pub kept-grown : (taken : List Payload) → IsSome (gathering taken) → Grown taken (gathering taken)
kept-grown [] some = absurd some
kept-grown (payload ∷ before) some = after-grown payload before (gathering before) refl (kept-grown before) some

grows-some : {since : List Payload} {state : Gathering} → Grows since state → IsSome state
grows-some (has_method carries) = tt
grows-some (has_header carries more) = tt
grows-some (has_more grows more) = tt

-- a content under way, and the state that is kept of it
pub data KeptOf (taken since : List Payload) : Type 0 where
  kept_of : {state : Gathering} → Grows since state → gathering taken ≡ state → KeptOf taken since

pub kept-of : {taken since : List Payload} → UnderWay taken since → KeptOf taken since
kept-of {taken} {since} under = from (under_way-grows under)
  where
    from : Growing since → KeptOf taken since
    from (growing grows) = kept_of grows (ap gathering under.taken_is ∙ grown-kept grows under.before)

grown-under_way : {taken : List Payload} {state : Gathering} (since before : List Payload) → taken ≡ since ++ before
    → Grows since state → UnderWay taken since
grown-under_way since before e grows =
    subst (λ l. UnderWay l since) (sym e) (prefix-under_way before (grown-prefix grows))

-- some state kept is a content under way
pub data SomeUnderWay (taken : List Payload) : Type 0 where
  some_under_way : {since : List Payload} → UnderWay taken since → SomeUnderWay taken

grown-some : {taken : List Payload} {state : Gathering} → Grown taken state → SomeUnderWay taken
grown-some (grown since before e grows) = some_under_way (grown-under_way since before e grows)

pub kept-some : (taken : List Payload) (state : Gathering) → gathering taken ≡ state
    → IsSome state → SomeUnderWay taken
kept-some taken state e some = grown-some (kept-grown taken (subst IsSome (sym e) some))

body-since : (method : Method) (size : ℕ) (properties : Properties) (parts : List (List ℕ)) (since : List Payload)
    → reverse since ≡ Calls method ∷ Header size properties ∷ map Body parts
    → since ≡ reverse (map Body parts) ++ Header size properties ∷ Calls method ∷ []
body-since method size properties parts since prefix =
    sym (reverse-reverse since)
    ∙ (ap reverse prefix ∙ reverse-append (Calls method ∷ Header size properties ∷ []) (map Body parts))

since-body : (method : Method) (size : ℕ) (properties : Properties) (parts : List (List ℕ))
    → reverse (reverse (map Body parts) ++ Header size properties ∷ Calls method ∷ [])
    ≡ Calls method ∷ Header size properties ∷ map Body parts
since-body method size properties parts =
    reverse-append (reverse (map Body parts)) (Header size properties ∷ Calls method ∷ [])
    ∙ ap (λ l. Calls method ∷ Header size properties ∷ l) (reverse-reverse (map Body parts))

kept-gathers : (taken : List Payload) (state : Gathering) → gathering taken ≡ state → Gathers taken state
kept-gathers taken Nothing e = λ since under. none (kept-of under)
  where
    none : {since : List Payload} → KeptOf taken since → ⊥
    none (kept_of grows kept) = subst IsSome (sym kept ∙ e) (grows-some grows)
kept-gathers taken (HeaderDue method) e = from (subst (Grown taken) e (kept-grown taken (subst IsSome (sym e) tt)))
  where
    from : Grown taken (HeaderDue method) → UnderWay taken (Calls method ∷ [])
    from (grown since before e' (has_method carries)) =
        grown-under_way (Calls method ∷ []) before e' (has_method carries)
kept-gathers taken (BodyDue method size properties body) e =
    from (subst (Grown taken) e (kept-grown taken (subst IsSome (sym e) tt)))
  where
    with_prefix : {since : List Payload} → UnderWay taken since
        → Prefixes since (BodyDue method size properties body) → Gathers taken (BodyDue method size properties body)
    with_prefix {since} under (body_prefix parts carries prefix joined short) =
        (parts, subst (UnderWay taken) (body-since method size properties parts since prefix) under, joined)

    from : Grown taken (BodyDue method size properties body) → Gathers taken (BodyDue method size properties body)
    from (grown since before e' grows) = with_prefix (grown-under_way since before e' grows) (grown-prefix grows)

gathers-kept : (taken : List Payload) (state : Gathering) → Gathers taken state → gathering taken ≡ state
gathers-kept taken Nothing none = cases (gathering taken) refl
  where
    from : SomeUnderWay taken → ⊥
    from (some_under_way under) = none _ under

    cases : (state : Gathering) → gathering taken ≡ state → state ≡ Nothing
    cases Nothing e = refl
    cases (HeaderDue method) e = absurd (from (kept-some taken _ e tt))
    cases (BodyDue method size properties body) e = absurd (from (kept-some taken _ e tt))
gathers-kept taken (HeaderDue method) under = from (kept-of under)
  where
    from : KeptOf taken (Calls method ∷ []) → gathering taken ≡ HeaderDue method
    from (kept_of (has_method carries) kept) = kept
gathers-kept taken (BodyDue method size properties body) (parts, under, joined) = from (kept-of under)
  where
    since : List Payload
    since = reverse (map Body parts) ++ Header size properties ∷ Calls method ∷ []

    prefix : {state : Gathering} → Prefixes since state → state ≡ BodyDue method size properties body
    prefix (method_prefix carries e) = absurd (let h = sym (since-body method size properties parts) ∙ e in cc)
    prefix (body_prefix parts' carries e joined' short) =
        let h = sym (since-body method size properties parts) ∙ e in
        let same = bodies-same parts parts' cc in
        let body' = sym joined ∙ (ap concat same ∙ joined') in
        cc

    from : KeptOf taken since → gathering taken ≡ BodyDue method size properties body
    from (kept_of grows kept) = kept ∙ prefix (grown-prefix grows)

pub keeps-under_way : KeepsUnderWay
keeps-under_way taken state = (kept-gathers taken state, gathers-kept taken state)

same-since : {since others : List Payload} {state other : Gathering} (before earlier : List Payload)
    → Grows since state → Grows others other → since ++ before ≡ others ++ earlier → since ≡ others
same-since before earlier (has_method _) (has_method _) e = cc
same-since before earlier (has_method _) (has_header _ _) e = absurd cc
same-since before earlier (has_method _) (has_more _ _) e = absurd cc
same-since before earlier (has_header _ _) (has_method _) e = absurd cc
same-since before earlier (has_header _ _) (has_header _ _) e = cc
same-since before earlier (has_header _ _) (has_more _ _) e = absurd cc
same-since before earlier (has_more _ _) (has_method _) e = absurd cc
same-since before earlier (has_more _ _) (has_header _ _) e = absurd cc
same-since before earlier (has_more {since = since} grows _) (has_more {since = others} grows' _) e =
    let rest = same-since before earlier grows grows' cc in
    cc

pub one-under_way : OneUnderWay
one-under_way taken since others one other = from (under_way-grows one) (under_way-grows other)
  where
    from : Growing since → Growing others → since ≡ others
    from (growing grows) (growing grows') =
        same-since one.before other.before grows grows' (sym one.taken_is ∙ other.taken_is)

grown-octets : {since : List Payload} {state : Gathering} → Grows since state → kept state ≡ body_octets since
grown-octets (has_method carries) = refl
grown-octets (has_header carries more) = refl
grown-octets (has_more {octets = octets} grows more) = ap (λ l. l ++ octets) (grown-octets grows)

pub keeps-octets : KeepsItsOctets
keeps-octets taken since under = from (kept-of under)
  where
    from : KeptOf taken since → kept (gathering taken) ≡ body_octets since
    from (kept_of grows e) = ap kept e ∙ grown-octets grows

pub goes-on-as-due : GoesOnAsDue
goes-on-as-due taken since content next later under is = from (under_way-grows under)
  where
    cases : {l : List Payload} {state : Gathering} → Grows l state
        → ContentPrefix content l next later → IsDue (due l) next
    cases (has_method _) (its_method _ header) = (length content.body, content.properties, header)
    cases (has_method _) (its_body parts part more e body joined_is rest full) =
        absurd (let h = ap reverse e ∙ since-body content.method (length content.body) content.properties parts in cc)
    cases (has_header _ _) (its_method e header) = absurd cc
    cases (has_header _ _) (its_body parts part more e body joined_is rest full) = (part, body)
    cases (has_more _ _) (its_method e header) = absurd cc
    cases (has_more _ _) (its_body parts part more e body joined_is rest full) = (part, body)

    from : Growing since → IsDue (due since) next
    from (growing grows) = cases grows (content-prefix content since next later under.begun is)

pub gathers-afresh : GathersAfresh
gathers-afresh [] before none = gathers-kept before Nothing none
gathers-afresh (payload ∷ later) before none =
    ap (λ state. remains (step state payload) payload) (gathers-afresh later before none)

pub nothing-after_method : NothingAfterMethod
nothing-after_method before method none =
    kept-gathers (Calls method ∷ before) Nothing (calls-remain (gathering before) method ∙ simp none)
