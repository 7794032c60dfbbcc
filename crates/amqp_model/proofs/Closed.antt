-- After its own close an end acts on nothing of the life that it closed, and after connection.close on nothing.
use Rattle.std.proofs.Common.{◌≡◌, ◌<◌, Bool, true, false, ℕ, Option, List, [], ◌∷◌, ◌++◌, refl}
use Rattle.std.proofs.Common.{sym, ap, ◌∙◌, subst, arith}
use Rattle.std.proofs.lemmas.Bool.{ne_eqb, true≢false, false≢true}
use Rattle.amqp_model.specs.Wire.Frame.{Frame}
use Rattle.amqp_model.specs.Wire.Notes.{Role, Kind, Close, Note, Put, Took, Leaving}
use Rattle.amqp_model.specs.History.States.{State, Free, Opening, Closing}
use Rattle.amqp_model.specs.History.Lives.{lives, has_left}
use Rattle.amqp_model.specs.Pair.Carried.{state_is_open, acts_next, acted_takes, acted}
use Rattle.amqp_model.specs.Pair.Runs.{RunAt}
use Rattle.amqp_model.specs.Laws.LifeLaws.{ActsOnNothingAfterItsClose, ActsOnNothingAfterLeaving}
use Rattle.amqp_model.proofs.Lists.{messages_elsewhere}
use Rattle.amqp_model.proofs.Ends.{Is, Lawful, has_asked, has_replied, has_taken, has_left_now, lawful_lives, opens}
use Rattle.amqp_model.proofs.Ends.{closes, flows, sends, Taking, ends, pauses, hears, acts}
use Rattle.amqp_model.proofs.Runs.{Linked, linked, run_at_linked}
use Rattle.amqp_model.proofs.Acted.{acts_here, acts_left, acted_dropped, acted_here}
use Rattle.amqp_model.proofs.Ended.{IsPast, closing, past_opens, past_closes, past_taken, open_beyond}

-- a channel that is Open keeps its life as it takes a note
open_stays : {role : Role} {word word' : State} {n n' : ℕ} {a a' : Bool} {kind : Kind} {owed : Option Kind}
    → Taking role (Is word n a) kind owed (Is word' n' a') → state_is_open word ≡ true → n' ≡ n
open_stays ends e = refl
open_stays pauses e = refl
open_stays hears e = refl
open_stays acts e = refl
open_stays _ e = absurd (false≢true e)

past_open : {n m : ℕ} (word : State) → IsPast n word m → state_is_open word ≡ true → n < m
past_open State.Open past e = open_beyond past
past_open Free past e = absurd (false≢true e)
past_open Opening past e = absurd (false≢true e)
past_open Closing past e = absurd (false≢true e)

-- what an end takes once it is past a life, it does not act on in that life
past_acted : {role : Role} {history : List Note} {word word' : State} {n m m' : ℕ} {a a' : Bool} {kind : Kind}
    {owed : Option Kind} (frame : Frame) → Lawful role history (Is word m a)
    → Taking role (Is word m a) kind owed (Is word' m' a') → IsPast n word m
    → acted role n (Took kind frame ∷ history) ≡ acted role n history
past_acted {role} {history} {word} {word'} {n} {m} {m'} {kind = kind} frame lawful taking past =
    cases (has_left history) refl (acts_next role history) refl
  where
    life : lives role (Took kind frame ∷ history) ≡ m'
    life = lawful_lives (has_taken frame lawful taking)

    elsewhere : state_is_open word ≡ true → lives role (Took kind frame ∷ history) ≡ n → ⊥
    elsewhere e same =
        let lt = past_open word past e in
        let stays = open_stays taking e in
        omega (arith, life, same, lt, stays)

    cases : (left : Bool) → has_left history ≡ left → (b : Bool) → acts_next role history ≡ b
        → acted role n (Took kind frame ∷ history) ≡ acted role n history
    cases left h false e = acted_dropped role history kind frame n e
    cases true h true e = absurd (true≢false (sym e ∙ acts_left role history h))
    cases false h true e =
        acted_here role history kind frame n e ∙ messages_elsewhere n (acted_takes role history) kind _ frame
        (ne_eqb _ n (elsewhere (sym (acts_here lawful h) ∙ e)))

-- after its close an end is past the life
record Closed (role : Role) (before history : List Note) (word : State) (m : ℕ) : Type 0 where
  past : IsPast (lives role before) word m
  nothing : acted role (lives role before) history ≡ acted role (lives role before) before

lawful_closed : {role : Role} (later : List Note) (frame : Frame) (before : List Note) {word : State} {m : ℕ}
    {a : Bool} → Lawful role (later ++ Put Close frame ∷ before) (Is word m a)
    → Closed role before (later ++ Put Close frame ∷ before) word m
lawful_closed [] frame before (has_asked frame' here lawful closes) =
    record { past = closing (lawful_lives lawful); nothing = refl }
lawful_closed [] frame before (has_replied frame' lawful is_reply) = elim is_reply [ ]
lawful_closed (x ∷ later) frame before (has_asked frame' here lawful opens) =
    let old = lawful_closed later frame before lawful in
    record { past = past_opens old.past; nothing = old.nothing }
lawful_closed (x ∷ later) frame before (has_asked frame' here lawful closes) =
    let old = lawful_closed later frame before lawful in
    record { past = past_closes old.past; nothing = old.nothing }
lawful_closed (x ∷ later) frame before (has_asked frame' here lawful flows) =
    let old = lawful_closed later frame before lawful in
    record { past = old.past; nothing = old.nothing }
lawful_closed (x ∷ later) frame before (has_asked frame' here lawful sends) =
    let old = lawful_closed later frame before lawful in
    record { past = old.past; nothing = old.nothing }
lawful_closed (x ∷ later) frame before (has_replied frame' lawful is_reply) =
    let old = lawful_closed later frame before lawful in
    record { past = old.past; nothing = old.nothing }
lawful_closed (x ∷ later) frame before (has_left_now lawful) =
    let old = lawful_closed later frame before lawful in
    record { past = old.past; nothing = old.nothing }
lawful_closed (x ∷ later) frame before (has_taken {before = Is word n a} frame' lawful taking) =
    let old = lawful_closed later frame before lawful in
    record { past = past_taken taking old.past; nothing = past_acted frame' lawful taking old.past ∙ old.nothing }

pub nothing_after_close : (role : Role) (mine theirs : List Note) → RunAt role mine theirs
    → ActsOnNothingAfterItsClose role mine
nothing_after_close role mine theirs run later frame before e = go (run_at_linked role mine theirs run)
  where
    go : Linked role mine theirs → acted role (lives role before) mine ≡ acted role (lives role before) before
    go (linked {word = word} {n = n} {a = a} q r owed owed' s s' e' e'' w w' joint) =
        ap (acted role (lives role before)) e
        ∙ (lawful_closed later frame before (subst (λ h. Lawful role h (Is word n a)) e s)).nothing

left_since : (later before : List Note) → has_left (later ++ Leaving ∷ before) ≡ true
left_since [] before = refl
left_since (Put kind frame ∷ later) before = left_since later before
left_since (Took kind frame ∷ later) before = left_since later before
left_since (Leaving ∷ later) before = refl

nothing_since : (role : Role) (life : ℕ) (later before : List Note) → acted role life (later ++ Leaving ∷ before)
    ≡ acted role life before
nothing_since role life [] before = refl
nothing_since role life (Put kind frame ∷ later) before = nothing_since role life later before
nothing_since role life (Took kind frame ∷ later) before =
    acted_dropped role (later ++ Leaving ∷ before) kind frame life
    (acts_left role (later ++ Leaving ∷ before) (left_since later before)) ∙ nothing_since role life later before
nothing_since role life (Leaving ∷ later) before = nothing_since role life later before

pub nothing_after_leaving : ActsOnNothingAfterLeaving
nothing_after_leaving role mine life later before e = ap (acted role life) e ∙ nothing_since role life later before
