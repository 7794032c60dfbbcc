-- What is under way, step by step, and that it is what the machine keeps.
use Rattle.std.proofs.Common.{◌≡◌, ◌≢◌, true, false, ℕ, ◌-◌, ◌<◌, ltb, eqb, List, [], ◌∷◌}
use Rattle.std.proofs.Common.{◌++◌, length, map, reverse, replicate, refl, sym, ap, ◌∙◌, subst, arith}
use Rattle.std.proofs.Common.{append_assoc, append-nil, length-append}
use Rattle.std.specs.List.{concat}
use Rattle.std.proofs.lemmas.List.{reverse-append, reverse-reverse, length-replicate}
use Rattle.std.proofs.lemmas.Bool.Decides.{nat_tests}
use Rattle.amqp_model.specs.Wire.Methods.{Method, Properties, carries_content}
use Rattle.amqp_model.specs.Wire.Contents.{Payload, Calls, Header, Body, Content, EndsFull, IsContent, UnderWay}
use Rattle.amqp_model.specs.Wire.Gathering.{Gathering, Nothing, HeaderDue, BodyDue, Keeps, begun, gathered, step}
use Rattle.amqp_model.specs.Wire.Gathering.{gathering, remains}
use Rattle.amqp_model.proofs.ContentLemmas.{concat-append, full-after, full-snoc, full-some, BodiesPrefix}
use Rattle.amqp_model.proofs.ContentLemmas.{bodies_prefix, bodies-prefix}

-- `since` are the payloads of a content under way, the newest first, and so much there is of it
pub data Grows : (since : List Payload) → Gathering → Type 0 where
  has_method : {method : Method} → carries_content method ≡ true → Grows (Calls method ∷ []) (HeaderDue method)
  has_header : {method : Method} {size : ℕ} {properties : Properties} → carries_content method ≡ true → 0 < size
      → Grows (Header size properties ∷ Calls method ∷ []) (BodyDue method size properties [])
  has_more : {method : Method} {size : ℕ} {properties : Properties} {body : List ℕ} {since : List Payload}
      {octets : List ℕ} → Grows since (BodyDue method size properties body) → length (body ++ octets) < size
      → Grows (Body octets ∷ since) (BodyDue method size properties (body ++ octets))

-- one more step of the machine
pub gathered-more : (method : Method) (size : ℕ) (properties : Properties) (body : List ℕ) → length body < size
    → gathered method size properties body ≡ Keeps (BodyDue method size properties body)
gathered-more method size properties body short = simp (apart, below)
  where
    apart : eqb (length body) size ≡ false
    apart = grind (arith, nat_tests)

    below : ltb (length body) size ≡ true
    below = grind (arith, nat_tests)

method-kept : (method : Method) → carries_content method ≡ true → (before : List Payload)
    → gathering (Calls method ∷ before) ≡ HeaderDue method
method-kept method carries before = begins (gathering before)
  where
    begins : (state : Gathering) → remains (step state (Calls method)) (Calls method) ≡ HeaderDue method
    begins Nothing = simp carries
    begins (HeaderDue _) = simp carries
    begins (BodyDue _ _ _ _) = simp carries

pub grown-kept : {since : List Payload} {state : Gathering} → Grows since state → (before : List Payload)
    → gathering (since ++ before) ≡ state
grown-kept (has_method {method} carries) before = method-kept method carries before
grown-kept (has_header {method} {size} {properties} carries some) before =
    ap (λ state. remains (step state (Header size properties)) (Header size properties))
    (method-kept method carries before)
    ∙ ap (λ s. remains s (Header size properties)) (gathered-more method size properties [] some)
grown-kept (has_more {method} {size} {properties} {body} {since} {octets} grows short) before =
    ap (λ state. remains (step state (Body octets)) (Body octets)) (grown-kept grows before)
    ∙ ap (λ s. remains s (Body octets)) (gathered-more method size properties (body ++ octets) short)

-- in order, what is under way is the prefix of a content, with so many octets of its body
pub data Prefixes (since : List Payload) : Gathering → Type 0 where
  method_prefix : {method : Method} → carries_content method ≡ true → reverse since ≡ Calls method ∷ []
      → Prefixes since (HeaderDue method)
  body_prefix : {method : Method} {size : ℕ} {properties : Properties} {body : List ℕ} (parts : List (List ℕ))
      → carries_content method ≡ true → reverse since ≡ Calls method ∷ Header size properties
      ∷ map Body parts → concat parts ≡ body → length body < size
      → Prefixes since (BodyDue method size properties body)

pub map-snoc : (parts : List (List ℕ)) (part : List ℕ)
    → map Body (parts ++ part ∷ []) ≡ map Body parts ++ Body part ∷ []
map-snoc [] part = refl
map-snoc (first ∷ parts) part = ap (λ l. Body first ∷ l) (map-snoc parts part)

pub concat-snoc : (parts : List (List ℕ)) (part : List ℕ) → concat (parts ++ part ∷ []) ≡ concat parts ++ part
concat-snoc parts part = concat-append parts (part ∷ []) ∙ ap (λ l. concat parts ++ l) (append-nil part)

pub grown-prefix : {since : List Payload} {state : Gathering} → Grows since state → Prefixes since state
grown-prefix (has_method carries) = method_prefix carries refl
grown-prefix (has_header carries some) = body_prefix [] carries refl refl some
grown-prefix (has_more {method} {size} {properties} {body} {since} {octets} grows short) = more (grown-prefix grows)
  where
    more : Prefixes since (BodyDue method size properties body)
        → Prefixes (Body octets ∷ since) (BodyDue method size properties (body ++ octets))
    more (body_prefix parts carries prefix joined fewer) =
        let prefix' : reverse (Body octets ∷ since) ≡ Calls method ∷ Header size properties
        ∷ map Body (parts ++ octets ∷ []) = reverse-append (Body octets ∷ []) since
        ∙ (ap (λ l. l ++ Body octets ∷ []) prefix ∙ ap (λ l. Calls method ∷ Header size properties ∷ l)
        (sym (map-snoc parts octets))) in
        body_prefix (parts ++ octets ∷ []) carries prefix' (concat-snoc parts octets
        ∙ ap (λ l. l ++ octets) joined) short

-- what grows is under way
pub prefix-under_way : {since : List Payload} {state : Gathering} (before : List Payload) → Prefixes since state
    → UnderWay (since ++ before) since
prefix-under_way {since} before (method_prefix {method} carries prefix) = record {
  before = before;
  taken_is = refl;
  begun = λ none. absurd (let h = ap reverse none in cc);
  content = record { method = method; properties = []; body = [] };
  next = Header 0 [];
  later = [];
  content_is = record {
    carries = carries;
    parts = [];
    joined = refl;
    ends_full = tt;
    payloads_are = ap (λ l. l ++ Header 0 [] ∷ []) prefix;
  };
}
prefix-under_way {since} before (body_prefix {method} {size} {properties} {body} parts carries prefix joined short) =
    record {
      before = before;
      taken_is = refl;
      begun = λ none. absurd (let h = ap reverse none in cc);
      content = whole;
      next = Body rest;
      later = [];
      content_is = record {
        carries = carries;
        parts = parts ++ rest ∷ [];
        joined = concat-snoc parts rest
            ∙ ap (λ l. l ++ rest) joined;
        ends_full = full-snoc parts rest some;
        payloads_are =
            ap (λ l. l ++ Body rest ∷ []) prefix ∙ same;
      };
    }
  where
    rest : List ℕ
    rest = replicate (size - length body) 0

    whole : Content
    whole = record { method = method; properties = properties; body = body ++ rest }

    rest-length : length rest ≡ size - length body
    rest-length = length-replicate (size - length body) 0

    some : rest ≢ []
    some none = absurd (let h : length rest ≡ 0 = ap length none in omega (arith, rest-length))

    size-is : length (body ++ rest) ≡ size
    size-is = omega (arith, rest-length, length-append body rest)

    same : Calls method ∷ Header size properties ∷ (map Body parts ++ Body rest ∷ [])
        ≡ Calls method ∷ Header (length (body ++ rest)) properties ∷ map Body (parts ++ rest ∷ [])
    same = cc (size-is, map-snoc parts rest)

-- some state grows from such payloads
pub data Growing (since : List Payload) : Type 0 where
  growing : {state : Gathering} → Grows since state → Growing since

grow-bodies : {method : Method} {size : ℕ} {properties : Properties} {body : List ℕ} {since : List Payload}
    (parts : List (List ℕ)) → Grows since (BodyDue method size properties body)
    → length (body ++ concat parts) < size
    → Grows (reverse (map Body parts) ++ since) (BodyDue method size properties (body ++ concat parts))
grow-bodies {method} {size} {properties} {body} {since} [] grows short =
    subst (λ b. Grows since (BodyDue method size properties b)) (sym (append-nil body)) grows
grow-bodies {method} {size} {properties} {body} {since} (part ∷ parts) grows short =
    let assoc = append_assoc body part (concat parts) in
    let fewer : length (body ++ part) < size =
    omega (arith, short, length-append (body ++ part) (concat parts), ap length assoc) in
    let more = grow-bodies parts (has_more {octets = part} grows fewer)
    (subst (λ b. length b < size) (sym assoc) short) in
    let backwards : reverse (map Body (part ∷ parts)) ++ since ≡ reverse (map Body parts) ++ Body part ∷ since =
    ap (λ l. l ++ since) (reverse-append (Body part ∷ []) (map Body parts))
    ∙ append_assoc (reverse (map Body parts)) (Body part ∷ []) since in
    subst (λ l. Grows l (BodyDue method size properties (body ++ (part ++ concat parts)))) (sym backwards)
    (subst (λ b. Grows (reverse (map Body parts) ++ Body part ∷ since) (BodyDue method size properties b))
    assoc more)

-- the method, the header and these body parts, some octets short of the size
pub grow-content : {method : Method} {size : ℕ} {properties : Properties} (parts : List (List ℕ))
    → carries_content method ≡ true → length (concat parts) < size
    → Grows (reverse (map Body parts) ++ Header size properties ∷ Calls method ∷ [])
    (BodyDue method size properties (concat parts))
grow-content {method} {size} {properties} parts carries short =
    grow-bodies parts (has_header {properties = properties} carries (omega arith)) short

-- a prefix of a content, though not all of it
pub data ContentPrefix (content : Content) (since : List Payload) (next : Payload) (later : List Payload) : Type 0 where
  its_method : since ≡ Calls content.method ∷ [] → next ≡ Header (length content.body) content.properties
      → ContentPrefix content since next later
  its_body : (parts : List (List ℕ)) (part : List ℕ) (more : List (List ℕ))
      → since ≡ reverse (map Body parts) ++ Header (length content.body) content.properties ∷ Calls content.method
      ∷ [] → next ≡ Body part → later ≡ map Body more → concat parts ++ concat (part ∷ more)
      ≡ content.body → EndsFull (part ∷ more) → ContentPrefix content since next later

pub content-prefix : (content : Content) (since : List Payload) (next : Payload) (later : List Payload) → since ≢ []
    → IsContent content (reverse since ++ next ∷ later) → ContentPrefix content since next later
content-prefix content since next later begun is = go (reverse since) (reverse-reverse since) is.payloads_are
  where
    go : (prefix : List Payload) → reverse prefix ≡ since
        → prefix ++ next ∷ later ≡ Calls content.method ∷ Header (length content.body) content.properties
        ∷ map Body is.parts → ContentPrefix content since next later
    go [] back e = absurd (begun (sym back))
    go (first ∷ []) back e =
        let method : first ≡ Calls content.method = cc in
        its_method (sym back ∙ ap (λ x. x ∷ []) method) cc
    go (first ∷ second ∷ prefix) back e = with_body (bodies-prefix prefix is.parts next later cc)
      where
        with_body : BodiesPrefix prefix next later is.parts → ContentPrefix content since next later
        with_body (bodies_prefix parts part more prefix_is parts_are next_is later_is) =
            let method : first ≡ Calls content.method = cc in
            let header : second ≡ Header (length content.body) content.properties = cc in
            let since_is : since ≡ reverse (Calls content.method ∷ Header (length content.body) content.properties
            ∷ map Body parts) = sym back
            ∙ ap reverse (let h : first ∷ second ∷ prefix ≡ Calls content.method
            ∷ Header (length content.body) content.properties ∷ map Body parts = cc in h) in
            its_body parts part more (since_is
            ∙ reverse-append (Calls content.method ∷ Header (length content.body) content.properties ∷ [])
            (map Body parts)) next_is later_is (sym (concat-append parts (part ∷ more))
            ∙ (ap concat (sym parts_are) ∙ is.joined))
            (full-after parts part more (subst EndsFull parts_are is.ends_full))

pub under_way-grows : {taken since : List Payload} → UnderWay taken since → Growing since
under_way-grows {taken} {since} under =
    go (content-prefix under.content since under.next under.later under.begun under.content_is)
  where
    go : ContentPrefix under.content since under.next under.later → Growing since
    go (its_method since_is next_is) =
        growing (subst (λ l. Grows l (HeaderDue under.content.method)) (sym since_is)
        (has_method under.content_is.carries))
    go (its_body parts part more since_is next_is later_is joined full) =
        let some = full-some part more full in
        let short : length (concat parts) < length under.content.body =
        omega (arith, length-append (concat parts) (concat (part ∷ more)), ap length joined) in
        growing (subst
        (λ l. Grows l (BodyDue under.content.method (length under.content.body) under.content.properties
        (concat parts))) (sym since_is) (grow-content parts under.content_is.carries short))
