-- The items that payloads encode.
use Rattle.std.proofs.Common.{◌≡◌, ◌≢◌, true, List, [], ◌∷◌, ◌++◌, reverse, Option, Some, None}
use Rattle.std.proofs.Common.{refl, sym, ap, ◌∙◌, subst, append_assoc, append-nil}
use Rattle.std.specs.Option.{option_to_list}
use Rattle.std.proofs.lemmas.Bool.{false≢true}
use Rattle.std.proofs.lemmas.List.{reverse-append, reverse-reverse}
use Rattle.amqp_model.specs.Wire.Methods.{Method, Sort, BeginsContent, OpensOrCloses, Plain, AsksFlow, AnswersFlow}
use Rattle.amqp_model.specs.Wire.Methods.{sort_of, begins_content}
use Rattle.amqp_model.specs.Wire.Contents.{Payload, Calls, Header, Body, Unread, Content, IsContent, UnderWay}
use Rattle.amqp_model.specs.Wire.Contents.{EndsContent}
use Rattle.amqp_model.specs.Wire.Gathering.{Gathering, Nothing, HeaderDue, BodyDue, Step, Keeps, Completes, Breaks}
use Rattle.amqp_model.specs.Wire.Gathering.{step, gathering, Gathers}
use Rattle.amqp_model.specs.Wire.Items.{Item, PlainMethod, WholeContent, FlowItem, FlowOkItem, CallsLast, EndsItem}
use Rattle.amqp_model.specs.Wire.Items.{Encodes, nothing, with_item, without, item_of, completed, item_ended}
use Rattle.amqp_model.specs.Wire.Items.{items_taken, items}
use Rattle.amqp_model.specs.Output.Prefixes.{IsPrefixOf}
use Rattle.amqp_model.specs.Laws.ContentLaws.{TellsItems, ItemsAreEncoded, ItemsOfPrefix, OneMoreEncoded, EncodedAfresh}
use Rattle.amqp_model.specs.Laws.ContentLaws.{MethodStandsAlone, ContentEncodedAfter, UnfinishedEncodesNothing}
use Rattle.amqp_model.proofs.UnderWayLemmas.{Grows, has_method, has_header, has_more, gathered-more, grown-kept}
use Rattle.amqp_model.proofs.UnderWayLemmas.{Growing, growing, under_way-grows}
use Rattle.amqp_model.proofs.GatheringLemmas.{gathers-afresh, nothing-after_method}
use Rattle.amqp_model.proofs.StepLemmas.{tells-whole_lem}

-- an item that is told has its last payload here
method-ends : (before : List Payload) (method : Method) (item : Item) (sort : Sort) → sort_of method ≡ sort
    → item_of method sort ≡ Some item → EndsItem (Calls method ∷ before) item
method-ends before method item BeginsContent is e = absurd cc
method-ends before method item OpensOrCloses is e = absurd cc
method-ends before method item Plain is e =
    subst (EndsItem (Calls method ∷ before)) (let h : PlainMethod method ≡ item = cc in h) (before, refl, is)
method-ends before method item (AsksFlow active) is e =
    subst (EndsItem (Calls method ∷ before)) (let h : FlowItem active ≡ item = cc in h) (method, (before, refl, is))
method-ends before method item (AnswersFlow active) is e =
    subst (EndsItem (Calls method ∷ before)) (let h : FlowOkItem active ≡ item = cc in
    h) (method, (before, refl, is))

content-ends : (before : List Payload) (payload : Payload) (item : Item) (s : Step)
    → step (gathering before) payload ≡ s → completed s ≡ Some item → EndsItem (payload ∷ before) item
content-ends before payload item (Keeps _) is e = absurd cc
content-ends before payload item (Breaks _) is e = absurd cc
content-ends before payload item (Completes content) is e =
    subst (EndsItem (payload ∷ before)) (let h : WholeContent content ≡ item = cc in
    h) ((tells-whole_lem before payload content).0 is)

item-ends : (before : List Payload) (payload : Payload) (item : Item) → item_ended (gathering before) payload
    ≡ Some item → EndsItem (payload ∷ before) item
item-ends before (Calls method) item e = method-ends before method item (sort_of method) refl e
item-ends before (Header size properties) item e =
    content-ends before (Header size properties) item (step (gathering before) (Header size properties)) refl e
item-ends before (Body octets) item e =
    content-ends before (Body octets) item (step (gathering before) (Body octets)) refl e
item-ends before Unread item e = absurd cc

method-tells : (before : List Payload) (payload : Payload) (item : Item) (method : Method) (sort : Sort)
    → CallsLast (payload ∷ before) method sort → item_of method sort ≡ Some item
    → item_ended (gathering before) payload ≡ Some item
method-tells before payload item method sort last e =
    ap (item_ended (gathering before)) (let h : payload ≡ Calls method = cc (last.1) in h)
    ∙ (ap (item_of method) last.2 ∙ e)

content-tells : (payload : Payload) (content : Content) (state : Gathering) → step state payload ≡ Completes content
    → item_ended state payload ≡ Some (WholeContent content)
content-tells (Header size properties) content state e = ap completed e
content-tells (Body octets) content state e = ap completed e
content-tells (Calls method) content Nothing e = absurd cc
content-tells (Calls method) content (HeaderDue _) e = absurd cc
content-tells (Calls method) content (BodyDue _ _ _ _) e = absurd cc
content-tells Unread content Nothing e = absurd cc
content-tells Unread content (HeaderDue _) e = absurd cc
content-tells Unread content (BodyDue _ _ _ _) e = absurd cc

item-tells : (before : List Payload) (payload : Payload) (item : Item) → EndsItem (payload ∷ before) item
    → item_ended (gathering before) payload ≡ Some item
item-tells before payload (PlainMethod method) ends =
    method-tells before payload (PlainMethod method) method Plain ends refl
item-tells before payload (WholeContent content) ends =
    content-tells payload content (gathering before) ((tells-whole_lem before payload content).1 ends)
item-tells before payload (FlowItem active) ends =
    method-tells before payload (FlowItem active) ends.0 (AsksFlow active) ends.1 refl
item-tells before payload (FlowOkItem active) ends =
    method-tells before payload (FlowOkItem active) ends.0 (AnswersFlow active) ends.1 refl

pub tells-items : TellsItems
tells-items before payload item = (item-ends before payload item, item-tells before payload item)

encoded : (taken : List Payload) → Encodes taken (items_taken taken)
encoded [] = nothing
encoded (payload ∷ before) = cases (item_ended (gathering before) payload) refl (encoded before)
  where
    cases : (o : Option Item) → item_ended (gathering before) payload ≡ o → Encodes before (items_taken before)
        → Encodes (payload ∷ before) (items_taken before ++ option_to_list o)
    cases (Some item) e old = with_item item old (item-ends before payload item e)
    cases None e old =
        subst (Encodes (payload ∷ before)) (sym (append-nil (items_taken before)))
        (without old (λ item ends. absurd (let h = sym e ∙ item-tells before payload item ends in cc)))

only-encoded : {taken : List Payload} {list : List Item} → Encodes taken list → items_taken taken ≡ list
only-encoded nothing = refl
only-encoded (with_item {payload} {before} {items} item old ends) =
    ap (λ l. l ++ option_to_list (item_ended (gathering before) payload)) (only-encoded old)
    ∙ ap (λ o. items ++ option_to_list o) (item-tells before payload item ends)
only-encoded (without {payload} {before} {items} old none) =
    cases (item_ended (gathering before) payload) refl (only-encoded old)
  where
    cases : (o : Option Item) → item_ended (gathering before) payload ≡ o → items_taken before ≡ items
        → items_taken before ++ option_to_list o ≡ items
    cases (Some item) e old = absurd (none item (item-ends before payload item e))
    cases None e old = append-nil (items_taken before) ∙ old

pub items-are-encoded : (taken : List Payload) (list : List Item) → ItemsAreEncoded taken list
items-are-encoded taken list = ((λ e. subst (Encodes taken) e (encoded taken)), only-encoded)

prefix-later : (later before : List Payload) → IsPrefixOf (items_taken before) (items_taken (later ++ before))
prefix-later [] before = ([], sym (append-nil (items_taken before)))
prefix-later (payload ∷ later) before = more (prefix-later later before)
  where
    last : List Item
    last = option_to_list (item_ended (gathering (later ++ before)) payload)

    more : IsPrefixOf (items_taken before) (items_taken (later ++ before))
        → IsPrefixOf (items_taken before) (items_taken (later ++ before) ++ last)
    more f = (f.0 ++ last, ap (λ l. l ++ last) f.1 ∙ append_assoc (items_taken before) f.0 last)

pub items-prefix : ItemsOfPrefix
items-prefix prefix whole f =
    subst (λ l. IsPrefixOf (items prefix) (items_taken l)) (sym (ap reverse f.1 ∙ reverse-append prefix f.0))
    (prefix-later (reverse f.0) (reverse prefix))

-- one more payload, by what was kept before it
pub items-more : OneMoreEncoded
items-more prefix payload = ap items_taken (reverse-append prefix (payload ∷ []))

-- what is under way encodes nothing yet
no-item : (method : Method) (sort : Sort) → begins_content sort ≡ true → item_of method sort ≡ None
no-item method BeginsContent e = refl
no-item method OpensOrCloses e = absurd (false≢true e)
no-item method Plain e = absurd (false≢true e)
no-item method (AsksFlow _) e = absurd (false≢true e)
no-item method (AnswersFlow _) e = absurd (false≢true e)

quiet-more : (payload : Payload) (before : List Payload) → item_ended (gathering before) payload ≡ None
    → items_taken (payload ∷ before) ≡ items_taken before
quiet-more payload before none =
    ap (λ o. items_taken before ++ option_to_list o) none ∙ append-nil (items_taken before)

grown-quiet : {since : List Payload} {state : Gathering} → Grows since state → (before : List Payload)
    → items_taken (since ++ before) ≡ items_taken before
grown-quiet (has_method {method} carries) before =
    quiet-more (Calls method) before (no-item method (sort_of method) carries)
grown-quiet (has_header {method} {size} {properties} carries some) before =
    let kept = grown-kept (has_method carries) before in
    let none = ap (λ state. item_ended state (Header size properties)) kept
    ∙ ap completed (gathered-more method size properties [] some) in
    quiet-more (Header size properties) (Calls method ∷ before) none
    ∙ quiet-more (Calls method) before (no-item method (sort_of method) carries)
grown-quiet (has_more {method} {size} {properties} {body} {since} {octets} grows short) before =
    let none = ap (λ state. item_ended state (Body octets)) (grown-kept grows before)
    ∙ ap completed (gathered-more method size properties (body ++ octets) short) in
    quiet-more (Body octets) (since ++ before) none ∙ grown-quiet grows before

pub items-unfinished : UnfinishedEncodesNothing
items-unfinished taken since under = from (under_way-grows under)
  where
    from : Growing since → items_taken taken ≡ items_taken under.before
    from (growing grows) = ap items_taken under.taken_is ∙ grown-quiet grows under.before

-- a content, after any payloads
content-after : (before : List Payload) (payloads : List Payload) (content : Content) → IsContent content payloads
    → items_taken (reverse payloads ++ before) ≡ items_taken before ++ WholeContent content ∷ []
content-after before payloads content is = go (reverse payloads) refl
  where
    go : (backwards : List Payload) → reverse payloads ≡ backwards
        → items_taken (backwards ++ before) ≡ items_taken before ++ WholeContent content ∷ []
    go [] e = absurd (let h = sym (sym (reverse-reverse payloads) ∙ ap reverse e) ∙ is.payloads_are in cc)
    go (newest ∷ since) e = from (under_way-grows under)
      where
        whole : IsContent content (reverse since ++ newest ∷ [])
        whole =
            subst (IsContent content) (sym (reverse-reverse payloads)
            ∙ (ap reverse e ∙ reverse-append (newest ∷ []) since)) is

        some : since ≢ []
        some none = absurd (let h = sym (ap (λ l. reverse l ++ newest ∷ []) none) ∙ whole.payloads_are in cc)

        under : UnderWay (since ++ before) since
        under =
            record {
              before = before;
              taken_is = refl;
              begun = some;
              content = content;
              next = newest;
              later = [];
              content_is = whole;
            }

        ends : EndsContent (newest ∷ (since ++ before)) content
        ends =
            record {
              since = newest ∷ since;
              before = before;
              taken_is = refl;
              content_is = subst (IsContent content) (sym (reverse-append (newest ∷ []) since)) whole;
            }

        from : Growing since → items_taken (newest ∷ (since ++ before)) ≡ items_taken before
            ++ WholeContent content ∷ []
        from (growing grows) =
            ap (λ o. items_taken (since ++ before) ++ option_to_list o)
            (item-tells (since ++ before) newest (WholeContent content) ends)
            ∙ ap (λ l. l ++ WholeContent content ∷ []) (grown-quiet grows before)

pub items-content : ContentEncodedAfter
items-content prefix payloads content is =
    ap items_taken (reverse-append prefix payloads) ∙ content-after (reverse prefix) payloads content is

items-afresh : (later before : List Payload) → Gathers before Nothing
    → items_taken (later ++ before) ≡ items_taken before ++ items_taken later
items-afresh [] before none = sym (append-nil (items_taken before))
items-afresh (payload ∷ later) before none =
    let kept = ap (λ state. option_to_list (item_ended state payload)) (gathers-afresh later before none) in
    ap (λ l. l ++ option_to_list (item_ended (gathering (later ++ before)) payload)) (items-afresh later before none)
    ∙ (append_assoc (items_taken before) (items_taken later)
    (option_to_list (item_ended (gathering (later ++ before)) payload))
    ∙ ap (λ l. items_taken before ++ (items_taken later ++ l)) kept)

pub items-apart : EncodedAfresh
items-apart prefix later none =
    ap items_taken (reverse-append prefix later) ∙ items-afresh (reverse later) (reverse prefix) none

pub items-method : MethodStandsAlone
items-method prefix method later none =
    ap items_taken (reverse-append prefix (Calls method ∷ later)
    ∙ (ap (λ l. l ++ reverse prefix) (reverse-append (Calls method ∷ []) later)
    ∙ append_assoc (reverse later) (Calls method ∷ []) (reverse prefix)))
    ∙ items-afresh (reverse later) (Calls method ∷ reverse prefix)
    (nothing-after_method (reverse prefix) method none)
