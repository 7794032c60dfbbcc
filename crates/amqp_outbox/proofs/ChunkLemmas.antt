-- Octets that are taken off chunks.
use Rattle.std.proofs.Common.{◌≡◌, ◌+◌, ◌-◌, ◌<◌, ◌≤◌, ℕ, List, [], ◌∷◌, ◌++◌, length, take, drop, sym, ap, ap₂, ◌∙◌, arith, append_assoc, append-nil, length-drop, take-append-drop}
use Rattle.std.proofs.lemmas.List.{take-append-le, drop_all, drop-append-le, drop-drop, take-take, drop-take}
use Rattle.std.specs.Prelude.{Vec}
use Rattle.std.specs.declared.alloc.Global.{Global}
use Rattle.amqp_outbox.specs.Chunks.{joined, joined_after}

-- a chunk after the others
joined-push : (later : List (Vec ℕ Global)) (chunk : Vec ℕ Global) → joined (later ++ chunk ∷ []) ≡ joined later ++ chunk.items
joined-push [] chunk = append-nil chunk.items
joined-push (next ∷ later) chunk = ap (λ l. next.items ++ l) (joined-push later chunk) ∙ sym (append_assoc next.items (joined later) chunk.items)

pub left-push : (taken : ℕ) (first : List ℕ) (later : List (Vec ℕ Global)) (chunk : Vec ℕ Global)
    → joined_after taken first (later ++ chunk ∷ []) ≡ joined_after taken first later ++ chunk.items
left-push taken first later chunk =
    ap (λ l. drop taken first ++ l) (joined-push later chunk) ∙ sym (append_assoc (drop taken first) (joined later) chunk.items)

-- nothing is left of a first chunk of which all is taken
pub used_up : (taken : ℕ) (first : List ℕ) (later : List (Vec ℕ Global)) → taken ≡ length first → joined_after taken first later ≡ joined later
used_up taken first later all = ap (λ l. l ++ joined later) (drop_all taken first (omega arith))

pub some_later : (later : List (Vec ℕ Global)) → 0 < length (joined later) → 0 < length later
some_later [] some = some
some_later (next ∷ later) some = omega arith

-- so many octets, and then those after them
in_two : (run most : ℕ) (xs : List ℕ) → run ≤ most → take most xs ≡ take run xs ++ take (most - run) (drop run xs)
in_two run most xs within =
    let split : most ≡ run + (most - run) = omega arith in
    sym (take-append-drop run (take most xs))
    ∙ ap₂ (λ a b. a ++ b) (take-take run most xs within) (ap (λ n. drop run (take n xs)) split ∙ drop-take run (most - run) xs)

after_run : (taken run : ℕ) (first rest : List ℕ) → taken + run ≤ length first → drop run (drop taken first ++ rest) ≡ drop (taken + run) first ++ rest
after_run taken run first rest within =
    let left = length-drop taken first in
    drop-append-le run (drop taken first) rest (omega arith) ∙ ap (λ l. l ++ rest) (drop-drop run taken first)

-- a run of the first chunk is taken, and then the octets after it
pub run_taken : (taken run most : ℕ) (first rest : List ℕ) → taken + run ≤ length first → run ≤ most
    → take most (drop taken first ++ rest) ≡ take run (drop taken first) ++ take (most - run) (drop (taken + run) first ++ rest)
run_taken taken run most first rest within few =
    let left = length-drop taken first in
    in_two run most (drop taken first ++ rest) few
    ∙ ap₂ (λ a b. a ++ take (most - run) b) (take-append-le run (drop taken first) rest (omega arith)) (after_run taken run first rest within)

pub run_left : (taken run most : ℕ) (first rest : List ℕ) → taken + run ≤ length first → run ≤ most
    → drop (most - run) (drop (taken + run) first ++ rest) ≡ drop most (drop taken first ++ rest)
run_left taken run most first rest within few =
    ap (drop (most - run)) (sym (after_run taken run first rest within))
    ∙ (drop-drop (most - run) run (drop taken first ++ rest) ∙ ap (λ n. drop n (drop taken first ++ rest)) (omega arith))
