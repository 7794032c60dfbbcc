-- Where no life began, nothing was sent and nothing acted on.
use Rattle.std.proofs.Common.{◌≡◌, ◌⊎◌, inl, inr, Bool, true, false, cond, ◌&&◌, ◌==◌, ℕ, zero, suc, ◌<◌, ◌≤◌, List, [], ◌∷◌, ◌++◌, length, map, Some, slice_get, refl, sym, ap, ◌∙◌, subst, arith}
use Rattle.std.proofs.lemmas.Bool.{ne_eqb}
use Rattle.std.proofs.lemmas.Option.{none-some}
use Rattle.amqp_model.specs.Pair.Carried.{At, NoteInLife, life_noted, messages, puts, takes}
use Rattle.amqp_model.specs.Laws.EndLaws.{notes_on}
use Rattle.amqp_model.specs.Wire.Frame.{Frame}
use Rattle.amqp_model.specs.History.Histories.{History}
use Rattle.amqp_model.specs.Wire.Items.{Item}
use Rattle.amqp_model.specs.Laws.LifeLaws.{SidesAgree}
use Rattle.amqp_model.specs.History.Lives.{lives}
use Rattle.amqp_model.specs.Wire.Notes as channel
use Rattle.amqp_model.specs.Wire.Notes.{Role, Client, Server, Kind, Note, is_message}
use Rattle.amqp_model.specs.Output.Prefixes.{IsPrefixOf}
use Rattle.amqp_model.specs.Pair.Sent.{items_in, items_sent}

-- no entry is of a life above this one
abbrev pub Below : ℕ → List NoteInLife → Type 0
Below most [] = Unit {0}
Below most (entry ∷ later) = (life_noted entry ≤ most) × Below most later

below-more : (few many : ℕ) (entries : List NoteInLife) → few ≤ many → Below few entries → Below many entries
below-more few many [] fewer below = tt {0}
below-more few many (entry ∷ later) fewer below = (omega (arith, fewer, below.0), below-more few many later fewer below.1)

below-push : (most : ℕ) (entries : List NoteInLife) (entry : NoteInLife) → Below most entries → life_noted entry ≤ most → Below most (entries ++ entry ∷ [])
below-push most [] entry below last = (last, tt {0})
below-push most (first ∷ later) entry below last = (below.0, below-push most later entry below.1 last)

grows : (one_more : Bool) (n : ℕ) → n ≤ cond one_more (suc n) n
grows true n = omega arith
grows false n = omega arith

-- each note put is of a life that has begun by the last note
pub puts-below : (role : Role) (notes : List Note) → Below (lives role notes) (puts role notes)
puts-below role [] = tt {0}
puts-below role (channel.Put kind frame ∷ before) =
    below-push _ (puts role before) (At kind (lives role (channel.Put kind frame ∷ before)) frame)
    (below-more (lives role before) (lives role (channel.Put kind frame ∷ before)) (puts role before) (grows _ (lives role before)) (puts-below role before)) (omega arith)
puts-below role (channel.Took kind frame ∷ before) =
    below-more (lives role before) (lives role (channel.Took kind frame ∷ before)) (puts role before) (grows _ (lives role before)) (puts-below role before)
puts-below role (channel.Leaving ∷ before) = puts-below role before

-- nothing is of a life above these
messages-above : (most life : ℕ) (entries : List NoteInLife) → most < life → Below most entries → messages life entries ≡ []
messages-above most life [] above below = refl
messages-above most life (At kind n frame ∷ later) above below =
    other (is_message kind) (n == life) (ne_eqb n life (λ same. let within : n ≤ most = below.0 in omega (arith, above, same))) (messages-above most life later above below.1)
  where
    other : (message here : Bool) → here ≡ false → messages life later ≡ [] → cond (message && here) (frame ∷ messages life later) (messages life later) ≡ []
    other true here elsewhere none = ap (λ b. cond b (frame ∷ messages life later) (messages life later)) elsewhere ∙ none
    other false here elsewhere none = none

-- an end sends nothing in a life that has not begun there
pub nothing-sent : (role : Role) (n life : ℕ) (history : History) → lives role (notes_on (suc n) history) < life → items_sent role (suc n) life history ≡ []
nothing-sent role n life history above =
    ap items_in (messages-above (lives role (notes_on (suc n) history)) life (puts role (notes_on (suc n) history)) above (puts-below role (notes_on (suc n) history)))

-- The lives that a server counts are at most those that its client counts.

at-end : (entries : List NoteInLife) (entry : NoteInLife) → slice_get (map life_noted (entries ++ entry ∷ [])) (length entries) ≡ Some (life_noted entry)
at-end [] entry = refl
at-end (first ∷ later) entry = at-end later entry

read-below : (most : ℕ) (entries : List NoteInLife) (i life : ℕ) → Below most entries → slice_get (map life_noted entries) i ≡ Some life → life ≤ most
read-below most [] i life below found = absurd (none-some life found)
read-below most (entry ∷ later) zero life below found = let same : life_noted entry ≡ life = cc in omega (arith, below.0, same)
read-below most (entry ∷ later) (suc i) life below found = read-below most later i life below.1 found

server-puts : (kind : Kind) (frame : Frame) (before : List Note) → lives Server (channel.Put kind frame ∷ before) ≡ lives Server before
server-puts channel.Open frame before = refl
server-puts channel.OpenOk frame before = refl
server-puts channel.Close frame before = refl
server-puts channel.CloseOk frame before = refl
server-puts (channel.Flow active) frame before = refl
server-puts (channel.FlowOk active) frame before = refl
server-puts (channel.Other begins_content) frame before = refl

-- a server that has counted a life has taken a note of its last one
abbrev LastTaken : List Note → ℕ → Type 0
LastTaken notes last = (last ≡ 0) ⊎ ((i : ℕ) × (slice_get (map life_noted (takes Server notes)) i ≡ Some last))

last-taken : (notes : List Note) → LastTaken notes (lives Server notes)
last-taken [] = inl refl
last-taken (channel.Put kind frame ∷ before) = subst (λ n. LastTaken before n) (sym (server-puts kind frame before)) (last-taken before)
last-taken (channel.Took kind frame ∷ before) =
    inr (length (takes Server before), at-end (takes Server before) (At kind (lives Server (channel.Took kind frame ∷ before)) frame))
last-taken (channel.Leaving ∷ before) = last-taken before

pub server-within : (server client : List Note) → SidesAgree Server server client → lives Server server ≤ lives Client client
server-within server client agree = go (last-taken server)
  where
    go : LastTaken server (lives Server server) → lives Server server ≤ lives Client client
    go (inl none) = omega (arith, none)
    go (inr taken) = read-below (lives Client client) (puts Client client) taken.0 (lives Server server) (puts-below Client client) (agree taken.0 (lives Server server) taken.1)

-- what is a prefix of nothing is nothing
pub prefix-none : (prefix whole : List Item) → IsPrefixOf prefix whole → whole ≡ [] → prefix ≡ []
prefix-none [] whole is none = refl
prefix-none (item ∷ later) whole is none = absurd (let e : [] ≡ item ∷ (later ++ is.0) = sym none ∙ is.1 in cc)
