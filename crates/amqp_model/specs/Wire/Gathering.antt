-- What an end keeps of a content that it takes, payload by payload: a machine of three states. Its laws, in
-- `ContentLaws`, say that it keeps what the definitions of `Contents` speak of.
use Rattle.std.specs.Prelude.{◌≡◌, cond, nat_lt, ℕ, ◌+◌, ◌<◌, List, [], ◌∷◌, ◌++◌, length}
use Rattle.std.specs.Prelude.{map, reverse, ◌==◌}
use Rattle.std.specs.List.{concat}
use Rattle.amqp_model.specs.Wire.Methods.{Method, Properties, carries_content}
use Rattle.amqp_model.specs.Wire.Contents.{Payload, Calls, Header, Body, Unread, Content, UnderWay}

-- Nothing is under way; or a method was taken, and the header is due; or the header was taken too, and of a body of
-- so many octets these are there.
pub data Gathering : Type 0 where
  Nothing : Gathering
  HeaderDue : Method → Gathering
  BodyDue : Method → (size : ℕ) → Properties → (body : List ℕ) → Gathering

-- Why a payload can't come next: a part of a content where none is under way, body where the header is due, a header
-- where body is due, body past its size, a method inside a content, and what is none of these.
pub data Misfit : Type 0 where
  NothingBegun HeaderAwaited BodyAwaited PastSize MethodInside NotRead : Misfit

-- what a payload does to what is kept
pub data Step : Type 0 where
  Keeps : Gathering → Step
  Completes : Content → Step
  Breaks : Misfit → Step

-- a method that carries a content begins one
abbrev pub begun : Method → Gathering
begun method = cond (carries_content method) (HeaderDue method) Nothing

-- a content whose header and these octets of its body are there: it is whole, or more is due, or it has too many
abbrev pub gathered : Method → ℕ → Properties → List ℕ → Step
gathered method size properties body =
    cond (length body == size)
    (Completes (record { method = method; properties = properties; body = body }))
    (cond (nat_lt (length body) size) (Keeps (BodyDue method size properties body)) (Breaks PastSize))

-- what a payload does where such is kept
abbrev pub step : Gathering → Payload → Step
step gathering Unread = Breaks NotRead
step Nothing (Calls method) = Keeps (begun method)
step Nothing (Header size properties) = Breaks NothingBegun
step Nothing (Body octets) = Breaks NothingBegun
step (HeaderDue method) (Header size properties) = gathered method size properties []
step (HeaderDue method) (Body octets) = Breaks HeaderAwaited
step (BodyDue method size properties body) (Body octets) = gathered method size properties (body ++ octets)
step (BodyDue method size properties body) (Header again others) = Breaks BodyAwaited
step gathering (Calls method) = Breaks MethodInside

-- a content that is whole is kept no more; a payload that doesn't fit ends the content, and may begin another
abbrev pub remains : Step → Payload → Gathering
remains (Keeps gathering) payload = gathering
remains (Completes content) payload = Nothing
remains (Breaks misfit) (Calls method) = begun method
remains (Breaks misfit) payload = Nothing

-- what is kept after these payloads
abbrev pub gathering : (taken : List Payload) → Gathering
gathering [] = Nothing
gathering (payload ∷ before) = remains (step (gathering before) payload) payload

-- the octets kept
abbrev pub kept : Gathering → List ℕ
kept Nothing = []
kept (HeaderDue method) = []
kept (BodyDue method size properties body) = body

-- the same in the words of `Contents`: what these payloads leave under way, and what there is of it
abbrev pub Gathers : (taken : List Payload) → Gathering → Type 0
Gathers taken Nothing = (since : List Payload) → UnderWay taken since → ⊥
Gathers taken (HeaderDue method) = UnderWay taken (Calls method ∷ [])
Gathers taken (BodyDue method size properties body) =
    (parts : List (List ℕ))
    × UnderWay taken (reverse (map Body parts) ++ Header size properties ∷ Calls method ∷ [])
    × (concat parts ≡ body)

-- why a payload can't come next, in the words of `Contents`
pub data DoesNotFit (before : List Payload) : Payload → Misfit → Type 0 where
  header_first :
      {size : ℕ} {properties : Properties} → Gathers before Nothing
      → DoesNotFit before (Header size properties) NothingBegun
  body_first : {octets : List ℕ} → Gathers before Nothing → DoesNotFit before (Body octets) NothingBegun
  body_early :
      {method : Method} {octets : List ℕ} → Gathers before (HeaderDue method)
      → DoesNotFit before (Body octets) HeaderAwaited
  header_again :
      {method : Method} {size again : ℕ} {properties others : Properties} {body : List ℕ}
      → Gathers before (BodyDue method size properties body) → DoesNotFit before (Header again others) BodyAwaited
  past_size :
      {method : Method} {size : ℕ} {properties : Properties} {body octets : List ℕ}
      → Gathers before (BodyDue method size properties body)
      → size < length body + length octets → DoesNotFit before (Body octets) PastSize
  method_inside :
      {method : Method} {since : List Payload} → UnderWay before since
      → DoesNotFit before (Calls method) MethodInside
  not_read : DoesNotFit before Unread NotRead
