-- One step more.
use Rattle.std.proofs.Common.{◌≡◌, ◌<◌, ◌+◌, true, false, ℕ, suc, List, [], ◌∷◌, ◌++◌, length, take, get_or, Ok, Err, refl, ap, sym, ◌∙◌, subst, arith}
use Rattle.std.proofs.lemmas.List.{take_more}
use Rattle.std.proofs.lemmas.Bool.{true≢false, false≢true}
use Rattle.amqp_link.specs.FaultView.{is_of_memory}
use Rattle.amqp_link.specs.LinkSteps.{Linked, Runs, Steps, does, refuses}
use Rattle.amqp_link.specs.declared.faults.LinkFault.{LinkFault}
use Rattle.amqp_link.specs.declared.faults.LinkFault.TheVariants as faults
use Rattle.amqp_link.specs.declared.steps.Step.{Step}

pub memory : (fault : LinkFault) → is_of_memory fault ≡ true → fault ≡ faults.OutOfMemory
memory faults.OutOfMemory is = refl
memory faults.NoSuchConnection is = absurd (false≢true is)
memory faults.Dropped is = absurd (false≢true is)
memory (faults.Ask fault) is = absurd (false≢true is)
memory faults.NotSoMany is = absurd (false≢true is)

other : (fault : LinkFault) → is_of_memory fault ≡ false → fault ≡ faults.OutOfMemory → ⊥
other fault never is = true≢false (subst (λ f. is_of_memory f ≡ false) is never)

-- the steps with this one
more : (all : List Step) (index : ℕ) (step : Step) → index < length all → step ≡ get_or all index step → take index all ++ step ∷ [] ≡ take (index + 1) all
more all index step within is = ap (λ s. take index all ++ s ∷ []) is ∙ sym (take_more all index step within)

pub runs-done : (all : List Step) (index refused : ℕ) (step : Step) (old then new : Linked) → index < length all → step ≡ get_or all index step → Runs old (take index all) refused then → Steps then step (Ok (tt {0})) new
    → Runs old (take (index + 1) all) refused new
runs-done all index refused step old then new within is runs steps = subst (λ l. Runs old l refused new) (more all index step within is) (does step runs steps)

pub runs-refused : (all : List Step) (index refused : ℕ) (step : Step) (fault : LinkFault) (old then new : Linked) → index < length all → step ≡ get_or all index step → is_of_memory fault ≡ false
    → Runs old (take index all) refused then → Steps then step (Err fault) new → Runs old (take (index + 1) all) (refused + 1) new
runs-refused all index refused step fault old then new within is never runs steps =
    subst (λ n. Runs old (take (index + 1) all) n new) (suc-add refused) (subst (λ l. Runs old l (suc refused) new) (more all index step within is) (refuses step fault runs (other fault never) steps))
  where
    suc-add : (n : ℕ) → suc n ≡ n + 1
    suc-add n = omega (arith)
