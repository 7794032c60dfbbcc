-- What is kept of a content that is lent.
use Rattle.std.proofs.Common.{◌≡◌, Bool, true, false, cond, ℕ, eqb, ltb, List, [], ◌∷◌, ◌++◌, length}
use Rattle.std.proofs.Common.{refl, sym, ap, ◌∙◌, length-append}
use Rattle.std.proofs.lemmas.List.{length-replicate}
use Rattle.amqp_model.specs.Wire.Methods.{Method, Properties, carries_content}
use Rattle.amqp_model.specs.Wire.Contents.{Payload, Calls, Header, Body, Unread, Content}
use Rattle.amqp_model.specs.Wire.Gathering.{Gathering, Nothing, HeaderDue, BodyDue, Step, Keeps, Completes, Breaks}
use Rattle.amqp_model.specs.Wire.Gathering.{PastSize, begun, gathered, step, remains, gathering, kept}
use Rattle.amqp_model.specs.Lent.Streaming.{NoContent, AwaitsHeader, AwaitsBody, GoesOn, Ends, Stops, stream_begun}
use Rattle.amqp_model.specs.Lent.Streaming.{stream_came, stream_step, stream_remains, streamed, streamed_step}
use Rattle.amqp_model.specs.Laws.StreamingLaws.{StepsAlike, RemainsAlike, GathersAlike, CameIsKept, WholeIsCame}
use Rattle.amqp_model.specs.Laws.StreamingLaws.{KeptIsCame, EachIsGathered}

pub begun-streamed : (method : Method) → stream_begun method ≡ streamed (begun method)
begun-streamed method = tests (carries_content method)
  where
    tests : (b : Bool) → cond b (AwaitsHeader method.kind) NoContent ≡ streamed (cond b (HeaderDue method) Nothing)
    tests true = refl
    tests false = refl

gathered-streamed : (method : Method) (size : ℕ) (properties : Properties) (body : List ℕ)
    → stream_came method.kind size (length body) ≡ streamed_step (gathered method size properties body)
gathered-streamed method size properties body = tests (eqb (length body) size) (ltb (length body) size)
  where
    tests : (b c : Bool)
        → cond b (Ends method.kind) (cond c (GoesOn (AwaitsBody method.kind size (length body))) (Stops PastSize))
        ≡ streamed_step (cond b (Completes (record { method = method; properties = properties; body = body }))
        (cond c (Keeps (BodyDue method size properties body)) (Breaks PastSize)))
    tests true c = refl
    tests false true = refl
    tests false false = refl

pub steps-alike : StepsAlike
steps-alike Nothing Unread = refl
steps-alike (HeaderDue method) Unread = refl
steps-alike (BodyDue method size properties body) Unread = refl
steps-alike Nothing (Calls method) = ap GoesOn (begun-streamed method)
steps-alike Nothing (Header size properties) = refl
steps-alike Nothing (Body octets) = refl
steps-alike (HeaderDue method) (Header size properties) = gathered-streamed method size properties []
steps-alike (HeaderDue method) (Body octets) = refl
steps-alike (HeaderDue method) (Calls other) = refl
steps-alike (BodyDue method size properties body) (Body octets) =
    ap (stream_came method.kind size) (sym (length-append body octets))
    ∙ gathered-streamed method size properties (body ++ octets)
steps-alike (BodyDue method size properties body) (Header again others) = refl
steps-alike (BodyDue method size properties body) (Calls other) = refl

remains-streamed : (s : Step) (payload : Payload) → stream_remains (streamed_step s) payload
    ≡ streamed (remains s payload)
remains-streamed (Keeps gathering) payload = refl
remains-streamed (Completes content) payload = refl
remains-streamed (Breaks misfit) (Calls method) = begun-streamed method
remains-streamed (Breaks misfit) (Header size properties) = refl
remains-streamed (Breaks misfit) (Body octets) = refl
remains-streamed (Breaks misfit) Unread = refl

pub remains-alike : RemainsAlike
remains-alike gathering payload =
    ap (λ s. stream_remains s payload) (steps-alike gathering payload)
    ∙ remains-streamed (step gathering payload) payload

pub gathers-alike : GathersAlike
gathers-alike [] = refl
gathers-alike (payload ∷ before) =
    ap (λ s. stream_remains (stream_step s payload) payload) (gathers-alike before)
    ∙ remains-alike (gathering before) payload

pub came-is-kept : CameIsKept
came-is-kept Nothing = refl
came-is-kept (HeaderDue method) = refl
came-is-kept (BodyDue method size properties body) = refl

-- what a step that has so many octets of a body keeps, or completes
has-octets : (method : Method) (size : ℕ) (properties : Properties) (body : List ℕ) (content : Content)
    → gathered method size properties body ≡ Completes content → content.body ≡ body
has-octets method size properties body content e = tests (eqb (length body) size) (ltb (length body) size) e
  where
    tests : (b c : Bool) → cond b (Completes (record { method = method; properties = properties; body = body }))
        (cond c (Keeps (BodyDue method size properties body)) (Breaks PastSize)) ≡ Completes content
        → content.body ≡ body
    tests true c e = sym (ap body_in e)
      where
        body_in : Step → List ℕ
        body_in (Completes whole) = whole.body
        body_in (Keeps kept) = []
        body_in (Breaks misfit) = []
    tests false true e = absurd cc
    tests false false e = absurd cc

keeps-octets : (method : Method) (size : ℕ) (properties : Properties) (body : List ℕ) (next : Gathering)
    → gathered method size properties body ≡ Keeps next → kept next ≡ body
keeps-octets method size properties body next e = tests (eqb (length body) size) (ltb (length body) size) e
  where
    tests : (b c : Bool) → cond b (Completes (record { method = method; properties = properties; body = body }))
        (cond c (Keeps (BodyDue method size properties body)) (Breaks PastSize)) ≡ Keeps next → kept next ≡ body
    tests true c e = absurd cc
    tests false true e = sym (ap kept_in e)
      where
        kept_in : Step → List ℕ
        kept_in (Keeps gathering) = kept gathering
        kept_in (Completes content) = []
        kept_in (Breaks misfit) = []
    tests false false e = absurd cc

pub whole-is-came : WholeIsCame
whole-is-came Nothing (Calls method) content e = absurd cc
whole-is-came Nothing (Header size properties) content e = absurd cc
whole-is-came Nothing (Body octets) content e = absurd cc
whole-is-came Nothing Unread content e = absurd cc
whole-is-came (HeaderDue method) (Calls other) content e = absurd cc
whole-is-came (HeaderDue method) (Header size properties) content e = has-octets method size properties [] content e
whole-is-came (HeaderDue method) (Body octets) content e = absurd cc
whole-is-came (HeaderDue method) Unread content e = absurd cc
whole-is-came (BodyDue method size properties body) (Calls other) content e = absurd cc
whole-is-came (BodyDue method size properties body) (Header again others) content e = absurd cc
whole-is-came (BodyDue method size properties body) (Body octets) content e =
    has-octets method size properties (body ++ octets) content e
whole-is-came (BodyDue method size properties body) Unread content e = absurd cc

begun-kept : (method : Method) → kept (begun method) ≡ []
begun-kept method = tests (carries_content method)
  where
    tests : (b : Bool) → kept (cond b (HeaderDue method) Nothing) ≡ []
    tests true = refl
    tests false = refl

keeps-is : (next other : Gathering) → Keeps other ≡ Keeps next → kept next ≡ kept other
keeps-is next other e = sym (ap kept_in e)
  where
    kept_in : Step → List ℕ
    kept_in (Keeps gathering) = kept gathering
    kept_in (Completes content) = []
    kept_in (Breaks misfit) = []

pub kept-is-came : KeptIsCame
kept-is-came Nothing next (Calls method) e = keeps-is next (begun method) e ∙ begun-kept method
kept-is-came Nothing next (Header size properties) e = absurd cc
kept-is-came Nothing next (Body octets) e = absurd cc
kept-is-came Nothing next Unread e = absurd cc
kept-is-came (HeaderDue method) next (Calls other) e = absurd cc
kept-is-came (HeaderDue method) next (Header size properties) e = keeps-octets method size properties [] next e
kept-is-came (HeaderDue method) next (Body octets) e = absurd cc
kept-is-came (HeaderDue method) next Unread e = absurd cc
kept-is-came (BodyDue method size properties body) next (Calls other) e = absurd cc
kept-is-came (BodyDue method size properties body) next (Header again others) e = absurd cc
kept-is-came (BodyDue method size properties body) next (Body octets) e =
    keeps-octets method size properties (body ++ octets) next e
kept-is-came (BodyDue method size properties body) next Unread e = absurd cc

pub each-is-gathered : EachIsGathered
each-is-gathered NoContent = refl
each-is-gathered (AwaitsHeader kind) = refl
each-is-gathered (AwaitsBody kind size octets) = ap (AwaitsBody kind size) (length-replicate octets 0)
