-- The counts of a tally are the numbers of the items sent and acted on.
use Rattle.std.proofs.Common.{◌≡◌, Bool, true, false, ℕ, zero, suc, ◌+◌, List, [], ◌∷◌, ◌++◌, map, flat_map, Some, slice_get, sym, ap, ◌∙◌, subst, arith}
use Rattle.std.specs.List.{All, enumerate_from}
use Rattle.amqp_link.specs.Items.{CountsItems, said_at, tallies_at, tally_in, told_at}
use Rattle.amqp_link.specs.LinkSteps.{Linked}
use Rattle.amqp_link.specs.Seats.{Joint}
use Rattle.amqp_link.specs.Tallies.{Tallied, begun_on, count_in, last_begun, numbers_to, tallies_in, tallies_on}
use Rattle.amqp_link.specs.TallyView.{tally_view}
use Rattle.amqp_link.specs.declared.lives.Life.{Life}
use Rattle.amqp_link.specs.declared.steps.Direction.{Direction}
use Rattle.amqp_link.specs.declared.steps.Direction.TheVariants.{ToServer, ToClient}

abbrev Each : {A : Type 0} → (A → Type 0) → List A → Type 0
Each P [] = Unit {0}
Each P (x ∷ xs) = P x × Each P xs

each-append : {A : Type 0} (P : A → Type 0) (xs ys : List A) → Each P xs → Each P ys → Each P (xs ++ ys)
each-append P [] ys left right = right
each-append P (x ∷ xs) ys left right = (left.0, each-append P xs ys left.1 right)

each-flat : {A B : Type 0} (P : B → Type 0) (f : A → List B) → ((x : A) → Each P (f x)) → (xs : List A) → Each P (flat_map f xs)
each-flat P f every [] = tt {0}
each-flat P f every (x ∷ xs) = each-append P (f x) (flat_map f xs) (every x) (each-flat P f every xs)

each-map : {A B : Type 0} (P : B → Type 0) (f : A → B) (xs : List A) → Each P (map f xs) → Each (λ x. P (f x)) xs
each-map P f [] each = tt {0}
each-map P f (x ∷ xs) each = (each.0, each-map P f xs each.1)

each-all : {A : Type 0} (P Q : A → Type 0) → ((x : A) → P x → Q x) → (xs : List A) → Each P xs → All Q xs
each-all P Q also [] each k d within = absurd (omega (arith, within))
each-all P Q also (x ∷ xs) each zero d within = also x each.0
each-all P Q also (x ∷ xs) each (suc k) d within = each-all P Q also xs each.1 k d (omega (arith, within))

abbrev way : Bool → Direction
way true = ToServer
way false = ToClient

-- the same of an entry
record Counted (link : Linked) (tallied : Tallied) : Type 0 where
  sent_is : tallied.sent ≡ count_in tallied.channel tallied.life (said_at (way tallied.to_server) (slice_get link.connections tallied.connection))
  acted_is : tallied.acted ≡ count_in tallied.channel tallied.life (told_at (way tallied.to_server) (slice_get link.connections tallied.connection))

in-life : (link : Linked) (index : ℕ) (joint : Joint) (channel life : ℕ) → slice_get link.connections index ≡ Some joint
    → Each (Counted link) (tallies_in index channel life joint.client.kept.said joint.server.kept.told joint.server.kept.said joint.client.kept.told)
in-life link index joint channel life found =
    let said : (direction : Direction) → count_in channel life (said_at direction (Some joint)) ≡ count_in channel life (said_at direction (slice_get link.connections index))
    = λ direction. ap (λ there. count_in channel life (said_at direction there)) (sym found) in
    let told : (direction : Direction) → count_in channel life (told_at direction (Some joint)) ≡ count_in channel life (told_at direction (slice_get link.connections index))
    = λ direction. ap (λ there. count_in channel life (told_at direction there)) (sym found) in
    (record { sent_is = said ToServer; acted_is = told ToServer }, (record { sent_is = said ToClient; acted_is = told ToClient }, tt {0}))

on-connection : (link : Linked) (index : ℕ) (joint : Joint) → slice_get link.connections index ≡ Some joint → Each (Counted link) (tallies_at index joint)
on-connection link index joint found =
    each-flat (Counted link) (λ channel. tallies_on index channel (begun_on channel joint.client.kept.notes) joint.client.kept.said joint.server.kept.told joint.server.kept.said joint.client.kept.told)
    (λ channel. each-flat (Counted link) (λ life. tallies_in index channel life joint.client.kept.said joint.server.kept.told joint.server.kept.said joint.client.kept.told)
    (λ life. in-life link index joint channel life found) (numbers_to (begun_on channel joint.client.kept.notes)))
    (numbers_to (last_begun joint.client.kept.notes))

from : (link : Linked) (index : ℕ) (joints : List Joint) → ((i : ℕ) → slice_get link.connections (index + i) ≡ slice_get joints i)
    → Each (Counted link) (flat_map (λ entry. tallies_at entry.0 entry.1) (enumerate_from index joints))
from link index [] there = tt {0}
from link index (joint ∷ later) there =
    each-append (Counted link) (tallies_at index joint) (flat_map (λ entry. tallies_at entry.0 entry.1) (enumerate_from (index + 1) later))
    (on-connection link index joint (ap (λ i. slice_get link.connections i) (here index) ∙ there 0))
    (from link (index + 1) later (λ i. ap (λ k. slice_get link.connections k) (after index i) ∙ there (suc i)))
  where
    here : (n : ℕ) → n ≡ n + 0
    here n = omega arith

    after : (n i : ℕ) → n + 1 + i ≡ n + suc i
    after n i = omega arith

all-counted : (link : Linked) → Each (Counted link) (tally_in link)
all-counted link = from link 0 link.connections (λ i. ap (λ k. slice_get link.connections k) (from_zero i))
  where
    from_zero : (i : ℕ) → 0 + i ≡ i
    from_zero i = omega arith

counts-items : (link : Linked) (life : Life) (direction : Direction) (sent acted : ℕ) → Counted link (tally_view (life, direction, sent, acted)) → CountsItems link (life, direction, sent, acted)
counts-items link life ToServer sent acted counted = (counted.sent_is, counted.acted_is)
counts-items link life ToClient sent acted counted = (counted.sent_is, counted.acted_is)

pub all-count : (link : Linked) (tallies : List (Life × Direction × ℕ × ℕ)) → map tally_view tallies ≡ tally_in link → All (CountsItems link) tallies
all-count link tallies is =
    each-all (λ tally. Counted link (tally_view tally)) (CountsItems link) (λ tally counted. counts-items link tally.0 tally.1 tally.2 tally.3 counted) tallies
    (each-map (Counted link) tally_view tallies (subst (λ l. Each (Counted link) l) (sym is) (all-counted link)))
