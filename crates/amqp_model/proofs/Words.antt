-- The words of `Lives` are the sentences said of the whole history.
use Rattle.std.proofs.Common.{◌≡◌, ◌⊎◌, inl, inr, ◌↔◌, Bool, true, false, cond, ◌||◌, suc}
use Rattle.std.proofs.Common.{◌+◌, arith, List, [], ◌∷◌, ◌++◌, refl, sym, ap, ◌∙◌, subst}
use Rattle.std.proofs.lemmas.Bool.{true≢false, false≢true}
use Rattle.std.proofs.lemmas.List.Sums.{sum_by-cons}
use Rattle.amqp_model.specs.Wire.Notes.{Role, Client, Server, is_client, is_server, Note, Put, Took, Leaving}
use Rattle.amqp_model.specs.History.States.{State, Free, Opening, Closing}
use Rattle.amqp_model.specs.History.Lives.{Test, since, how_many, is_alive, waits, has_open_ok, has_left}
use Rattle.amqp_model.specs.History.Lives.{before_leaving, state_word, state_by}
use Rattle.amqp_model.specs.Pair.Sentences.{NoneSo, HasSince, Place, places, places_with, Waits, IsAlive, HasOpenOk}
use Rattle.amqp_model.specs.Pair.Sentences.{IsInState, HasLeft, IsBeforeLeaving, never_left, left_once}
use Rattle.amqp_model.proofs.Ends.{before_leaving_all}

since_says : (such so : Test) (history : List Note) → since such so history ≡ true → HasSince such so history
since_says such so [] e = absurd (false≢true e)
since_says such so (note ∷ before) e =
    at_note (such note before) refl (so note before) refl e (since_says such so before)
  where
    at_note : (b : Bool) → such note before ≡ b → (b' : Bool) → so note before ≡ b'
        → cond b true (cond b' false (since such so before)) ≡ true
        → (since such so before ≡ true → HasSince such so before) → HasSince such so (note ∷ before)
    at_note true is_such b' _ _ _ =
        record { later = []; note = note; before = before; history_is = refl; is_such = is_such; none_since = tt }
    at_note false _ true _ e _ = absurd (false≢true e)
    at_note false _ false passes e more =
        let old = more e in
        record {
          later = note ∷ old.later;
          note = old.note;
          before = old.before;
          history_is = ap (λ l. note ∷ l) old.history_is;
          is_such = old.is_such;
          none_since =
              (subst (λ l. so note l ≡ false) old.history_is passes, old.none_since);
        }

says_since : (such so : Test) (later : List Note) (note : Note) (before : List Note) → such note before ≡ true
    → NoneSo so later (note ∷ before) → since such so (later ++ note ∷ before) ≡ true
says_since such so [] note before is_such none = simp is_such
says_since such so (x ∷ later) note before is_such none =
    at_note (such x (later ++ note ∷ before)) (says_since such so later note before is_such none.1)
  where
    at_note : (b : Bool) → since such so (later ++ note ∷ before) ≡ true
        → cond b true (cond (so x (later ++ note ∷ before)) false (since such so (later ++ note ∷ before)))
        ≡ true
    at_note true e = refl
    at_note false e = simp none.0 e

pub since_reads : (such so : Test) (history : List Note) → (since such so history ≡ true)
    ↔ HasSince such so history
since_reads such so history = (
  since_says such so history,
  λ h. subst (λ l. since such so l ≡ true) (sym h.history_is)
      (says_since such so h.later h.note h.before h.is_such h.none_since),
)

pub how_many_reads : (such : Test) (history : List Note) → how_many such history ≡ places_with such history
how_many_reads such [] = refl
how_many_reads such (note ∷ before) =
    one_more (such note before) ∙ (ap (λ n. cond (such note before) 1 0 + n) (how_many_reads such before)
    ∙ sym (sum_by-cons (λ (place : Place). cond (such place.note place.before) 1 0)
    (record { note = note; before = before }) (places before)))
  where
    one_more : (b : Bool) → cond b (suc (how_many such before)) (how_many such before)
        ≡ cond b 1 0 + how_many such before
    one_more true = omega arith
    one_more false = omega arith

-- a test that does not hold
denied : (b : Bool) (P : Type 0) → ((b ≡ true) ↔ P) → (b ≡ false) ↔ (P → ⊥)
denied true P reads = ((λ e. absurd (true≢false e)), (λ apart. absurd (apart (reads.0 refl))))
denied false P reads = ((λ _ p. false≢true (reads.1 p)), λ _. refl)

-- the cases of a state, by the tests
abbrev StateTests : Role → (alive waiting ok : Bool) → State → Type 0
StateTests role alive waiting ok Free = alive ≡ false
StateTests role alive waiting ok Closing = (alive ≡ true) × (waiting ≡ true)
StateTests role alive waiting ok Opening =
    (alive ≡ true) × (waiting ≡ false) × (is_client role ≡ true) × (ok ≡ false)
StateTests role alive waiting ok State.Open =
    (alive ≡ true) × (waiting ≡ false) × ((is_server role ≡ true) ⊎ (ok ≡ true))

tests_state : (role : Role) (alive waiting ok : Bool)
    → StateTests role alive waiting ok (state_word alive waiting (is_server role || ok))
tests_state role false waiting ok = refl
tests_state role true true ok = (refl, refl)
tests_state Client true false true = (refl, refl, inr refl)
tests_state Client true false false = (refl, refl, refl, refl)
tests_state Server true false ok = (refl, refl, inl refl)

state_tests : (role : Role) (alive waiting ok : Bool) (word : State) → StateTests role alive waiting ok word
    → state_word alive waiting (is_server role || ok) ≡ word
state_tests role alive waiting ok Free h = simp h
state_tests role alive waiting ok Closing h = simp (h.0, h.1)
state_tests Client alive waiting ok Opening h = simp (h.0, h.1, h.3)
state_tests Server alive waiting ok Opening h = absurd (false≢true h.2)
state_tests role alive waiting ok State.Open h = opened role h.2
  where
    opened : (role : Role) → (is_server role ≡ true) ⊎ (ok ≡ true)
        → state_word alive waiting (is_server role || ok) ≡ State.Open
    opened Server e = simp (h.0, h.1)
    opened Client (inr e) = simp (h.0, h.1, e)
    opened Client (inl e) = absurd (false≢true e)

tests_say : (role : Role) (notes : List Note) (word : State)
    → StateTests role (is_alive role notes) (waits notes) (has_open_ok role notes) word ↔ IsInState role notes word
tests_say role notes word = by_cases word
  where
    alive : (is_alive role notes ≡ true) ↔ IsAlive role notes
    alive = since_reads _ _ notes

    waiting : (waits notes ≡ true) ↔ Waits notes
    waiting = since_reads _ _ notes

    ok : (has_open_ok role notes ≡ true) ↔ HasOpenOk role notes
    ok = since_reads _ _ notes

    not_alive : (is_alive role notes ≡ false) ↔ (IsAlive role notes → ⊥)
    not_alive = denied _ _ alive

    not_waiting : (waits notes ≡ false) ↔ (Waits notes → ⊥)
    not_waiting = denied _ _ waiting

    not_ok : (has_open_ok role notes ≡ false) ↔ (HasOpenOk role notes → ⊥)
    not_ok = denied _ _ ok

    either_to : (is_server role ≡ true) ⊎ (has_open_ok role notes ≡ true)
        → (is_server role ≡ true) ⊎ HasOpenOk role notes
    either_to (inl e) = inl e
    either_to (inr e) = inr (ok.0 e)

    either_from : (is_server role ≡ true) ⊎ HasOpenOk role notes → (is_server role ≡ true)
        ⊎ (has_open_ok role notes ≡ true)
    either_from (inl e) = inl e
    either_from (inr h) = inr (ok.1 h)

    by_cases : (word : State) → StateTests role (is_alive role notes) (waits notes) (has_open_ok role notes) word
        ↔ IsInState role notes word
    by_cases Free = not_alive
    by_cases Closing = ((λ h. (alive.0 h.0, waiting.0 h.1)), (λ h. (alive.1 h.0, waiting.1 h.1)))
    by_cases Opening = (
      (λ h. (alive.0 h.0, not_waiting.0 h.1, h.2, not_ok.0 h.3)),
      (λ h. (alive.1 h.0, not_waiting.1 h.1, h.2, not_ok.1 h.3)),
    )
    by_cases State.Open = (
      (λ h. (alive.0 h.0, not_waiting.0 h.1, either_to h.2)),
      (λ h. (alive.1 h.0, not_waiting.1 h.1, either_from h.2)),
    )

pub state_reads : (role : Role) (notes : List Note) (word : State) → (state_by role notes ≡ word)
    ↔ IsInState role notes word
state_reads role notes word = (
  (λ e. (tests_say role notes word).0
      (subst (StateTests role (is_alive role notes) (waits notes) (has_open_ok role notes)) e
      (tests_state role (is_alive role notes) (waits notes) (has_open_ok role notes)))),
  (λ h. state_tests role (is_alive role notes) (waits notes) (has_open_ok role notes) word
      ((tests_say role notes word).1 h)),
)

-- where no connection.close was put
never_leaving : (history : List Note) → has_left history ≡ false → (later before : List Note)
    → history ≡ later ++ Leaving ∷ before → ⊥
never_leaving history stays [] before e = true≢false (sym (ap has_left e) ∙ stays)
never_leaving [] stays (y ∷ later) before e = absurd cc
never_leaving (x ∷ history) stays (y ∷ later) before e =
    never_leaving history (stays_before x stays) later before cc
  where
    stays_before : (x : Note) → has_left (x ∷ history) ≡ false → has_left history ≡ false
    stays_before (Put kind frame) h = h
    stays_before (Took kind frame) h = h
    stays_before Leaving h = absurd (true≢false h)

-- where connection.close was put
data LeftAt (history : List Note) : Type 0 where
  left_at : (later : List Note) → history ≡ later ++ Leaving ∷ before_leaving history
      → has_left (before_leaving history) ≡ false → LeftAt history

left_later : (note : Note) (before : List Note) → before_leaving (note ∷ before) ≡ before_leaving before
    → LeftAt before → LeftAt (note ∷ before)
left_later note before same (left_at later e first) =
    left_at (note ∷ later) (ap (λ l. note ∷ l) e ∙ ap (λ l. note ∷ (later ++ Leaving ∷ l)) (sym same))
    (ap has_left same ∙ first)

left_first : (before : List Note) → has_left before ≡ false → LeftAt (Leaving ∷ before)
left_first before stays =
    let same = before_leaving_all before stays in
    left_at [] (ap (λ l. Leaving ∷ l) (sym same)) (ap has_left same ∙ stays)

where_left : (history : List Note) → has_left history ≡ true → LeftAt history
where_left [] left = absurd (false≢true left)
where_left (Put kind frame ∷ before) left = left_later (Put kind frame) before (simp left) (where_left before left)
where_left (Took kind frame ∷ before) left = left_later (Took kind frame) before (simp left) (where_left before left)
where_left (Leaving ∷ before) left = cases (has_left before) refl (where_left before)
  where
    cases : (b : Bool) → has_left before ≡ b → (has_left before ≡ true → LeftAt before)
        → LeftAt (Leaving ∷ before)
    cases true e again = left_later Leaving before refl (again e)
    cases false e again = left_first before e

pub before_leaving_reads : (history : List Note) → IsBeforeLeaving history (before_leaving history)
before_leaving_reads history = cases (has_left history) refl
  where
    from : LeftAt history → IsBeforeLeaving history (before_leaving history)
    from (left_at later e first) = left_once later e (λ h. never_leaving (before_leaving history) first h.0 h.1 h.2)

    cases : (b : Bool) → has_left history ≡ b → IsBeforeLeaving history (before_leaving history)
    cases true left = from (where_left history left)
    cases false stays =
        subst (IsBeforeLeaving history) (sym (before_leaving_all history stays))
        (never_left (λ h. never_leaving history stays h.0 h.1 h.2))

pub has_left_reads : (history : List Note) → (has_left history ≡ true) ↔ HasLeft history
has_left_reads history = ((λ left. from (where_left history left)), λ h. back h (has_left history) refl)
  where
    from : LeftAt history → HasLeft history
    from (left_at later e first) = (later, before_leaving history, e)

    back : HasLeft history → (b : Bool) → has_left history ≡ b → has_left history ≡ true
    back h true e = e
    back h false e = absurd (never_leaving history e h.0 h.1 h.2)
