-- What the machine answers to a payload: a content that is whole, or why the payload doesn't fit.
use Rattle.std.proofs.Common.{◌≡◌, ◌≢◌, true, ℕ, ◌<◌, List, [], ◌∷◌, ◌++◌, length, reverse}
use Rattle.std.proofs.Common.{refl, sym, ap, ◌∙◌, subst, arith, append-nil, length-append}
use Rattle.std.specs.List.{concat}
use Rattle.std.proofs.lemmas.List.{reverse-append}
use Rattle.amqp_model.specs.Wire.Methods.{Method, Properties, carries_content}
use Rattle.amqp_model.specs.Wire.Contents.{Payload, Calls, Header, Body, Unread, Content, IsContent, UnderWay}
use Rattle.amqp_model.specs.Wire.Contents.{EndsContent}
use Rattle.amqp_model.specs.Wire.Gathering.{Gathering, Nothing, HeaderDue, BodyDue, Step, Completes, Breaks, Misfit}
use Rattle.amqp_model.specs.Wire.Gathering.{NothingBegun, HeaderAwaited, BodyAwaited, PastSize, MethodInside, NotRead}
use Rattle.amqp_model.specs.Wire.Gathering.{gathered, step, remains, gathering, DoesNotFit, header_first, body_first}
use Rattle.amqp_model.specs.Wire.Gathering.{body_early, header_again, past_size, method_inside, not_read}
use Rattle.amqp_model.specs.Laws.ContentLaws.{TellsWhole, TellsMisfits, StepsUnderWay, NothingAfterContent}
use Rattle.amqp_model.specs.Laws.ContentLaws.{IsToldAtHeader, IsToldAtLastPart, IsRefusedPastSize}
use Rattle.amqp_model.proofs.ContentLemmas.{content-of, same-content, bodies-same, full-snoc}
use Rattle.amqp_model.proofs.UnderWayLemmas.{Grows, has_method, has_header, has_more, grown-kept, grown-prefix}
use Rattle.amqp_model.proofs.UnderWayLemmas.{Prefixes, body_prefix, map-snoc, concat-snoc, ContentPrefix, its_method}
use Rattle.amqp_model.proofs.UnderWayLemmas.{its_body, content-prefix}
use Rattle.amqp_model.proofs.GatheringLemmas.{Grown, grown, kept-grown, IsSome, KeptOf, kept_of, kept-of, SomeUnderWay}
use Rattle.amqp_model.proofs.GatheringLemmas.{some_under_way, kept-some, Lengths, is_whole, is_short, is_past, lengths}
use Rattle.amqp_model.proofs.GatheringLemmas.{keeps-under_way}

-- the newest payloads, and one more, are a content where its body is then all there
ends-with-header : {method : Method} {size : ℕ} {properties : Properties} {before : List Payload}
    → Grown before (HeaderDue method) → 0 ≡ size
    → EndsContent (Header size properties ∷ before) (content-of method properties [])
ends-with-header {method} {size} {properties} (grown since older e (has_method carries)) empty = record {
  since = Header size properties ∷ Calls method ∷ [];
  before = older;
  taken_is = ap (λ l. Header size properties ∷ l) e;
  content_is = record {
    carries = carries;
    parts = [];
    joined = refl;
    ends_full = tt;
    payloads_are = (let h = sym empty in cc);
  };
}

ends-with-body : {method : Method} {size : ℕ} {properties : Properties} {body octets : List ℕ}
    {before : List Payload} → Grown before (BodyDue method size properties body) → length (body ++ octets) ≡ size
    → EndsContent (Body octets ∷ before) (content-of method properties (body ++ octets))
ends-with-body {method} {size} {properties} {body} {octets} {before} (grown since older e grows) whole =
    from (grown-prefix grows)
  where
    from : Prefixes since (BodyDue method size properties body)
        → EndsContent (Body octets ∷ before) (content-of method properties (body ++ octets))
    from (body_prefix parts carries prefix joined short) = record {
      since = Body octets ∷ since;
      before = older;
      taken_is = ap (λ l. Body octets ∷ l) e;
      content_is = record {
        carries = carries;
        parts = parts ++ octets ∷ [];
        joined = concat-snoc parts octets ∙ ap (λ l. l ++ octets) joined;
        ends_full = full-snoc parts octets (λ none. absurd (let h : length octets ≡ 0 = ap length none in
            omega (arith, length-append body octets)));
        payloads_are = reverse-append (Body octets ∷ []) since
            ∙ (ap (λ l. l ++ Body octets ∷ []) prefix ∙ cc (sym whole, map-snoc parts octets));
      };
    }

tells-whole : (before : List Payload) (payload : Payload) (content : Content) (state : Gathering)
    → (IsSome state → Grown before state) → step state payload ≡ Completes content
    → EndsContent (payload ∷ before) content
tells-whole before Unread content state old e = absurd (unread state e)
  where
    unread : (state : Gathering) → step state Unread ≡ Completes content → ⊥
    unread Nothing e = cc
    unread (HeaderDue _) e = cc
    unread (BodyDue _ _ _ _) e = cc
tells-whole before (Calls method) content Nothing old e = absurd cc
tells-whole before (Calls method) content (HeaderDue _) old e = absurd cc
tells-whole before (Calls method) content (BodyDue _ _ _ _) old e = absurd cc
tells-whole before (Header size properties) content Nothing old e = absurd cc
tells-whole before (Header size properties) content (HeaderDue method) old e =
    test (lengths method size properties []) e
  where
    test : {s : Step} → Lengths method size properties [] s → s ≡ Completes content
        → EndsContent (Header size properties ∷ before) content
    test (is_whole empty) e =
        subst (EndsContent (Header size properties ∷ before)) (let h : content-of method properties []
        ≡ content = cc in h) (ends-with-header (old tt) empty)
    test (is_short _) e = absurd cc
    test (is_past _) e = absurd cc
tells-whole before (Header size properties) content (BodyDue _ _ _ _) old e = absurd cc
tells-whole before (Body octets) content Nothing old e = absurd cc
tells-whole before (Body octets) content (HeaderDue _) old e = absurd cc
tells-whole before (Body octets) content (BodyDue method size properties body) old e =
    test (lengths method size properties (body ++ octets)) e
  where
    test : {s : Step} → Lengths method size properties (body ++ octets) s → s ≡ Completes content
        → EndsContent (Body octets ∷ before) content
    test (is_whole whole) e =
        subst (EndsContent (Body octets ∷ before)) (let h : content-of method properties (body ++ octets)
        ≡ content = cc in h) (ends-with-body (old tt) whole)
    test (is_short _) e = absurd cc
    test (is_past _) e = absurd cc

gathered-whole : (method : Method) (size : ℕ) (properties : Properties) (body : List ℕ) → length body ≡ size
    → gathered method size properties body ≡ Completes (content-of method properties body)
gathered-whole method size properties body whole = test (lengths method size properties body)
  where
    test : {s : Step} → Lengths method size properties body s → s ≡ Completes (content-of method properties body)
    test (is_whole _) = refl
    test (is_short short) = absurd (omega arith)
    test (is_past past) = absurd (omega arith)

-- a content that is whole, but for its last payload
is-told : (before : List Payload) (payload : Payload) (content : Content) → EndsContent (payload ∷ before) content
    → step (gathering before) payload ≡ Completes content
is-told before payload content ends = go ends.since refl
  where
    go : (since : List Payload) → ends.since ≡ since → step (gathering before) payload ≡ Completes content
    go [] e = absurd (let h = sym (ap reverse e) ∙ ends.content_is.payloads_are in cc)
    go (newest ∷ since) e = from (content-prefix content since payload [] some whole)
      where
        taken : payload ∷ before ≡ newest ∷ (since ++ ends.before)
        taken = ends.taken_is ∙ ap (λ l. l ++ ends.before) e

        first : newest ≡ payload
        first = cc taken

        whole : IsContent content (reverse since ++ payload ∷ [])
        whole =
            subst (IsContent content) (ap reverse e
            ∙ (reverse-append (newest ∷ []) since ∙ ap (λ p. reverse since ++ p ∷ []) first)) ends.content_is

        some : since ≢ []
        some none = absurd (let h = sym (ap (λ l. reverse l ++ payload ∷ []) none) ∙ whole.payloads_are in cc)

        under : UnderWay before since
        under =
            record {
              before = ends.before;
              taken_is = cc taken;
              begun = some;
              content = content;
              next = payload;
              later = [];
              content_is = whole;
            }

        from : ContentPrefix content since payload [] → step (gathering before) payload ≡ Completes content
        from (its_method since_is header) =
            let kept = (keeps-under_way before (HeaderDue content.method)).1 (subst (UnderWay before) since_is under) in
            let payloads = sym (ap (λ l. reverse l ++ payload ∷ []) since_is) ∙ whole.payloads_are in
            let none = bodies-same whole.parts [] cc in
            let body : [] ≡ content.body = sym (ap concat none) ∙ whole.joined in
            ap (λ state. step state payload) kept
            ∙ (ap (step (HeaderDue content.method)) header
            ∙ (gathered-whole content.method (length content.body) content.properties [] (ap length body)
            ∙ ap Completes (same-content refl refl body)))
        from (its_body parts part more since_is body later_is joined full) =
            let kept = (keeps-under_way before (BodyDue content.method (length content.body) content.properties
            (concat parts))).1 (parts, subst (UnderWay before) since_is under, refl) in
            let none = bodies-same more [] (sym later_is) in
            let joined' : concat parts ++ part ≡ content.body = ap (λ l. concat parts ++ l) (sym (append-nil part)
            ∙ ap (λ l. part ++ concat l) (sym none)) ∙ joined in
            ap (λ state. step state payload) kept
            ∙ (ap (step (BodyDue content.method (length content.body) content.properties (concat parts))) body
            ∙ (gathered-whole content.method (length content.body) content.properties (concat parts ++ part)
            (ap length joined') ∙ ap Completes (same-content refl refl joined')))

pub tells-whole_lem : TellsWhole
tells-whole_lem before payload content =
    (tells-whole before payload content (gathering before) (kept-grown before), is-told before payload content)

pub nothing-after_content : NothingAfterContent
nothing-after_content [] content ends = absurd (empty ends.since refl)
  where
    empty : (since : List Payload) → ends.since ≡ since → ⊥
    empty [] e = let h = sym (ap reverse e) ∙ ends.content_is.payloads_are in cc
    empty (newest ∷ since) e = let h = ends.taken_is ∙ ap (λ l. l ++ ends.before) e in cc
nothing-after_content (payload ∷ before) content ends =
    (keeps-under_way (payload ∷ before) Nothing).0
    (ap (λ s. remains s payload) (is-told before payload content ends))

-- the reason for which a payload doesn't fit
tells-misfit : (before : List Payload) (payload : Payload) (misfit : Misfit) (state : Gathering)
    → gathering before ≡ state → step state payload ≡ Breaks misfit → DoesNotFit before payload misfit
tells-misfit before Unread misfit state kept e = subst (DoesNotFit before Unread) (unread state e) not_read
  where
    unread : (state : Gathering) → step state Unread ≡ Breaks misfit → NotRead ≡ misfit
    unread Nothing e = cc
    unread (HeaderDue _) e = cc
    unread (BodyDue _ _ _ _) e = cc
tells-misfit before (Calls method) misfit Nothing kept e = absurd cc
tells-misfit before (Calls method) misfit (HeaderDue other) kept e =
    subst (DoesNotFit before (Calls method)) (let h : MethodInside ≡ misfit = cc in
    h) (inside (kept-some before (HeaderDue other) kept tt))
  where
    inside : SomeUnderWay before → DoesNotFit before (Calls method) MethodInside
    inside (some_under_way under) = method_inside under
tells-misfit before (Calls method) misfit (BodyDue other size properties body) kept e =
    subst (DoesNotFit before (Calls method)) (let h : MethodInside ≡ misfit = cc in
    h) (inside (kept-some before (BodyDue other size properties body) kept tt))
  where
    inside : SomeUnderWay before → DoesNotFit before (Calls method) MethodInside
    inside (some_under_way under) = method_inside under
tells-misfit before (Header size properties) misfit Nothing kept e =
    subst (DoesNotFit before (Header size properties)) (let h : NothingBegun ≡ misfit = cc in
    h) (header_first ((keeps-under_way before Nothing).0 kept))
tells-misfit before (Header size properties) misfit (HeaderDue method) kept e =
    test (lengths method size properties []) e
  where
    test : {s : Step} → Lengths method size properties [] s → s ≡ Breaks misfit
        → DoesNotFit before (Header size properties) misfit
    test (is_whole _) e = absurd cc
    test (is_short _) e = absurd cc
    test (is_past past) e = absurd (omega arith)
tells-misfit before (Header again others) misfit (BodyDue method size properties body) kept e =
    subst (DoesNotFit before (Header again others)) (let h : BodyAwaited ≡ misfit = cc in
    h) (header_again ((keeps-under_way before (BodyDue method size properties body)).0 kept))
tells-misfit before (Body octets) misfit Nothing kept e =
    subst (DoesNotFit before (Body octets)) (let h : NothingBegun ≡ misfit = cc in
    h) (body_first ((keeps-under_way before Nothing).0 kept))
tells-misfit before (Body octets) misfit (HeaderDue method) kept e =
    subst (DoesNotFit before (Body octets)) (let h : HeaderAwaited ≡ misfit = cc in
    h) (body_early ((keeps-under_way before (HeaderDue method)).0 kept))
tells-misfit before (Body octets) misfit (BodyDue method size properties body) kept e =
    test (lengths method size properties (body ++ octets)) e
  where
    test : {s : Step} → Lengths method size properties (body ++ octets) s → s ≡ Breaks misfit
        → DoesNotFit before (Body octets) misfit
    test (is_whole _) e = absurd cc
    test (is_short _) e = absurd cc
    test (is_past past) e =
        subst (DoesNotFit before (Body octets)) (let h : PastSize ≡ misfit = cc in
        h) (past_size ((keeps-under_way before (BodyDue method size properties body)).0 kept)
        (omega (arith, length-append body octets)))

misfit-told : (before : List Payload) (payload : Payload) (misfit : Misfit) → DoesNotFit before payload misfit
    → step (gathering before) payload ≡ Breaks misfit
misfit-told before payload misfit (header_first {size} {properties} none) =
    ap (λ state. step state (Header size properties)) ((keeps-under_way before Nothing).1 none)
misfit-told before payload misfit (body_first {octets} none) =
    ap (λ state. step state (Body octets)) ((keeps-under_way before Nothing).1 none)
misfit-told before payload misfit (body_early {method} {octets} gathers) =
    ap (λ state. step state (Body octets)) ((keeps-under_way before (HeaderDue method)).1 gathers)
misfit-told before payload misfit (header_again {method} {size} {again} {properties} {others} {body} gathers) =
    ap (λ state. step state (Header again others))
    ((keeps-under_way before (BodyDue method size properties body)).1 gathers)
misfit-told before payload misfit (past_size {method} {size} {properties} {body} {octets} gathers past) =
    ap (λ state. step state (Body octets)) ((keeps-under_way before (BodyDue method size properties body)).1 gathers)
    ∙ test (lengths method size properties (body ++ octets))
  where
    test : {s : Step} → Lengths method size properties (body ++ octets) s → s ≡ Breaks PastSize
    test (is_whole e) = absurd (omega (arith, length-append body octets))
    test (is_short e) = absurd (omega (arith, length-append body octets))
    test (is_past e) = refl
misfit-told before payload misfit (method_inside {method} {since} under) = from (kept-of under)
  where
    inside : {since : List Payload} {state : Gathering} → Grows since state
        → step state (Calls method) ≡ Breaks MethodInside
    inside (has_method _) = refl
    inside (has_header _ _) = refl
    inside (has_more _ _) = refl

    from : KeptOf before since → step (gathering before) (Calls method) ≡ Breaks MethodInside
    from (kept_of grows kept) = ap (λ state. step state (Calls method)) kept ∙ inside grows
misfit-told before payload misfit not_read = unread (gathering before)
  where
    unread : (state : Gathering) → step state Unread ≡ Breaks NotRead
    unread Nothing = refl
    unread (HeaderDue _) = refl
    unread (BodyDue _ _ _ _) = refl

pub tells-misfits : TellsMisfits
tells-misfits before payload misfit =
    (tells-misfit before payload misfit (gathering before) refl, misfit-told before payload misfit)

pub goes-on-with : StepsUnderWay
goes-on-with before payload state e = (keeps-under_way (payload ∷ before) state).0 (ap (λ s. remains s payload) e)

method-due : (method : Method) (before : List Payload) → carries_content method ≡ true
    → gathering (Calls method ∷ before) ≡ HeaderDue method
method-due method before carries = grown-kept (has_method carries) before

header-due : (method : Method) (size : ℕ) (properties : Properties) (before : List Payload)
    → carries_content method ≡ true → 0 < size → gathering (Header size properties ∷ Calls method ∷ before)
    ≡ BodyDue method size properties []
header-due method size properties before carries some = grown-kept (has_header carries some) before

pub told-at-header : IsToldAtHeader
told-at-header method properties before carries =
    ap (λ state. step state (Header 0 properties)) (method-due method before carries)

pub told-at-last_part : IsToldAtLastPart
told-at-last_part method properties before carries = (
  ap (λ state. remains (step (remains (step state (Body (104 ∷ []))) (Body (104 ∷ []))) (Body [])) (Body []))
      (header-due method 2 properties before carries (omega arith)),
  refl,
)

pub refused-past_size : IsRefusedPastSize
refused-past_size method properties before carries =
    ap (λ state. step (remains (step state (Body (104 ∷ []))) (Body (104 ∷ []))) (Body (105 ∷ 33 ∷ [])))
    (header-due method 2 properties before carries (omega arith))
