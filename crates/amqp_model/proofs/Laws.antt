-- The laws of every run, from the cases that its two ends keep to.
use Rattle.std.proofs.Common.{◌==◌, ◌&&◌, ◌≡◌, ◌⊎◌, inl, inr, Bool, true, false, cond, ℕ, List}
use Rattle.std.proofs.Common.{[], ◌∷◌, ◌++◌, map, All, Option, Some, None, refl, sym, ap, ◌∙◌, subst}
use Rattle.std.proofs.Common.{append_assoc, append-nil, slice_get}
use Rattle.std.proofs.lemmas.Bool.{eq-eqb, true≢false}
use Rattle.std.proofs.lemmas.List.{map-append, append_cancel_left}
use Rattle.std.proofs.lemmas.List.Elements.{All-nil, All-cons}
use Rattle.amqp_model.specs.Wire.Frame.{Frame}
use Rattle.amqp_model.specs.Wire.Notes.{is_message, Role, other_end, Kind, Close, Note, Put, Took, Leaving}
use Rattle.amqp_model.specs.History.States.{State, Opening}
use Rattle.amqp_model.specs.History.Lives.{lives, has_left}
use Rattle.amqp_model.specs.History.Verdict.{Discarded}
use Rattle.amqp_model.specs.Pair.Carried.{message_frames, taken_by, NoteInLife, At, life_noted, puts, takes, acts_next}
use Rattle.amqp_model.specs.Pair.Carried.{acted_takes, messages, sent, acted}
use Rattle.amqp_model.specs.Pair.Runs.{RunAt}
use Rattle.amqp_model.specs.Laws.LifeLaws.{SidesAgree, GoesOnWith, FindsNoFault, ActsOnPrefix, IsLive}
use Rattle.amqp_model.specs.Laws.LifeLaws.{OnItsWayIsOfItsLife, SentIsActedOnOrOnItsWay, AllActedOnAtClose}
use Rattle.amqp_model.specs.Laws.LifeLaws.{AllActedOnAtConnectionClose}
use Rattle.amqp_model.specs.Output.Prefixes.{IsPrefixOf}
use Rattle.amqp_model.proofs.Lists.{slice_get_front, messages-append, prefix_more, prefix_none}
use Rattle.amqp_model.proofs.Ends.{Standing, Is, Lawful, lawful_stands, lawful_lives, here_state, here_verdict}
use Rattle.amqp_model.proofs.Ends.{left_verdict, has_asked, has_replied, has_taken, has_left_now, Taking}
use Rattle.amqp_model.proofs.Ends.{taking_verdict}
use Rattle.amqp_model.proofs.Joint.{Row, done, with_flow, with_flow_ok, with_other, opened, opened_closed, ready}
use Rattle.amqp_model.proofs.Joint.{server_closes, client_closes, opening, reopening, JointAt, at_client, at_server}
use Rattle.amqp_model.proofs.Joint.{Taken, quietly, answering, joint_take}
use Rattle.amqp_model.proofs.Pauses.{pact_joint}
use Rattle.amqp_model.proofs.Runs.{carried, carried_rest, Linked, linked, run_at_linked, NextOf, next_of, next_entry}
use Rattle.amqp_model.proofs.Acted.{is_live, acted_other, lawful_heard}
use Rattle.amqp_model.proofs.Ended.{lawful_ended}

-- all that was taken is, in order and with its life, a prefix of what was put
pub takes_prefix : (role : Role) (mine theirs : List Note) → RunAt role mine theirs
    → IsPrefixOf (takes role mine) (puts (other_end role) theirs)
takes_prefix role mine theirs run = go (run_at_linked role mine theirs run)
  where
    go : Linked role mine theirs → IsPrefixOf (takes role mine) (puts (other_end role) theirs)
    go (linked q r owed owed' s s' e e' w w' joint) = (r, e')

pub sides_agree : (role : Role) (mine theirs : List Note) → RunAt role mine theirs → SidesAgree role mine theirs
sides_agree role mine theirs run i life e =
    let prefix = takes_prefix role mine theirs run in
    let lives_are = ap (map life_noted) prefix.1 ∙ map-append life_noted (takes role mine) prefix.0 in
    subst (λ l. slice_get l i ≡ Some life) (sym lives_are) (slice_get_front _ _ i life e)

pub no_fault : (role : Role) (mine theirs : List Note) → RunAt role mine theirs → FindsNoFault role mine theirs
no_fault role mine theirs run kind frame next = go (run_at_linked role mine theirs run)
  where
    here : {word : State} {n : ℕ} {a : Bool} {owed : Option Kind} {after : Standing}
        → Lawful role mine (Is word n a) → Taking role (Is word n a) kind owed after → has_left mine ≡ false
        → GoesOnWith role mine kind
    here {owed = owed} s taking stays =
        let t = taking_verdict taking in
        (t.0, owed, here_verdict mine kind stays (lawful_stands s) ∙ t.1)

    cases : (left : Bool) → has_left mine ≡ left → (has_left mine ≡ false → GoesOnWith role mine kind)
        → GoesOnWith role mine kind
    cases true left stays = (Discarded, None, left_verdict role mine kind left)
    cases false stay stays = stays stay

    taken : {word word' : State} {n n' life : ℕ} {a a' : Bool} {q r : List NoteInLife}
        → Lawful role mine (Is word n a) → Taken role (Is word n a) (Is word' n' a') q r kind life
        → GoesOnWith role mine kind
    taken s (quietly taking after) = cases (has_left mine) refl (here s taking)
    taken s (answering taking is_reply after) = cases (has_left mine) refl (here s taking)

    first : {word word' : State} {n n' : ℕ} {a a' : Bool} (q r owed' : List NoteInLife)
        → Lawful role mine (Is word n a) → NextOf kind frame r
        → JointAt role (Is word n a) (Is word' n' a') q (r ++ owed') → GoesOnWith role mine kind
    first {word} {word'} {n} {n'} {a} {a'} q r owed' s (next_of life rest e) joint =
        taken s (joint_take (subst (λ r. JointAt role (Is word n a) (Is word' n' a') q (r ++ owed')) e joint))

    go : Linked role mine theirs → GoesOnWith role mine kind
    go (linked q r owed owed' s s' e e' w w' joint) =
        first (q ++ owed) r owed' s (next_entry role mine theirs e' next) (pact_joint joint)

-- what an end acted on in a life is a prefix of what the other sent in it
pub acts_prefix : (role : Role) (mine theirs : List Note) → RunAt role mine theirs → ActsOnPrefix role mine theirs
acts_prefix role mine theirs run life = go (run_at_linked role mine theirs run)
  where
    go : Linked role mine theirs → IsPrefixOf (acted role life mine) (sent (other_end role) life theirs)
    go (linked q r owed owed' s s' e e' w w' joint) =
        let whole = ap (messages life) e' ∙ messages-append life (takes role mine) r in
        subst (λ l. IsPrefixOf (acted role life mine) l) (sym whole)
        (prefix_more _ _ (messages life r) (lawful_heard life s).prefix)

abbrev HasLife : ℕ → NoteInLife → Type 0
HasLife n entry = life_noted entry ≡ n

-- each has the life n
abbrev Own : ℕ → List NoteInLife → Type 0
Own n [] = Unit {0}
Own n (entry ∷ later) = HasLife n entry × Own n later

own_all : (n : ℕ) (xs : List NoteInLife) → Own n xs → All (HasLife n) xs
own_all n [] own = All-nil (HasLife n)
own_all n (x ∷ xs) own = All-cons (HasLife n) x xs own.0 (own_all n xs own.1)

own_prefix : (n : ℕ) (xs ys : List NoteInLife) → Own n (xs ++ ys) → Own n xs
own_prefix n [] ys own = tt
own_prefix n (x ∷ xs) ys own = (own.0, own_prefix n xs ys own.1)

row_own : {n : ℕ} {tail : List NoteInLife} {i j : ℕ} {row : List NoteInLife} → Row n tail i j row
    → Own n tail → Own n row
row_own done own = own
row_own (with_flow row) own = (refl, row_own row own)
row_own (with_flow_ok row) own = (refl, row_own row own)
row_own (with_other row) own = (refl, row_own row own)

-- all that comes to a live end is of its life
joint_own : {role : Role} {word : State} {n : ℕ} {a : Bool} {there : Standing} {q r : List NoteInLife}
    → JointAt role (Is word n a) there q r → is_live word ≡ true → Own n r
joint_own (at_client opening) live = tt
joint_own (at_client (reopening q)) live = tt
joint_own (at_client (opened r le)) live = (refl, row_own r tt)
joint_own (at_client (opened_closed r le)) live = (refl, row_own r (refl, tt))
joint_own (at_client (ready q r le me)) live = row_own r tt
joint_own (at_client (server_closes q r le me)) live = row_own r (refl, tt)
joint_own (at_server (opened r le)) live = tt
joint_own (at_server (ready q r le me)) live = row_own q tt
joint_own (at_server (client_closes q r le me)) live = row_own q (refl, tt)
joint_own _ live = absurd (true≢false (sym live))

live_word : {role : Role} {history : List Note} {word : State} {n : ℕ} {a : Bool}
    → Lawful role history (Is word n a) → IsLive role history → is_live word ≡ true
live_word {history = history} lawful live = go (here_state history live.stays (lawful_stands lawful)) live.state_is
  where
    go : {word : State} {shown : State} → shown ≡ word → (shown ≡ Opening) ⊎ (shown ≡ State.Open)
        → is_live word ≡ true
    go e (inl h) = ap is_live (sym e ∙ h)
    go e (inr h) = ap is_live (sym e ∙ h)

pub in_flight : (role : Role) (mine theirs : List Note) → RunAt role mine theirs
    → OnItsWayIsOfItsLife role mine theirs
in_flight role mine theirs run rest live way = go (run_at_linked role mine theirs run)
  where
    go : Linked role mine theirs → All (λ entry. life_noted entry ≡ lives role mine) rest
    go (linked q r owed owed' s s' e e' w w' joint) =
        let own = own_all _ r (own_prefix _ r owed' (joint_own (pact_joint joint) (live_word s live))) in
        let same : r ≡ rest = append_cancel_left (takes role mine) r rest (sym e' ∙ way) in
        subst (λ l. All (λ entry. life_noted entry ≡ lives role mine) l) same
        (subst (λ n. All (HasLife n) r) (sym (lawful_lives s)) own)

-- the messages of a row of one life, with their lives or without
own_messages : (n : ℕ) (xs : List NoteInLife) → Own n xs → messages n xs ≡ message_frames (map carried xs)
own_messages n [] own = refl
own_messages n (At kind life frame ∷ xs) own = same (is_message kind) (eq-eqb life n own.0) (own_messages n xs own.1)
  where
    same : (b : Bool) → (life == n) ≡ true → messages n xs ≡ message_frames (map carried xs)
        → cond (b && (life == n)) (frame ∷ messages n xs) (messages n xs)
        ≡ cond b (frame ∷ message_frames (map carried xs)) (message_frames (map carried xs))
    same true e rest = simp e (ap (λ l. frame ∷ l) rest)
    same false e rest = rest

pub sent_so_far : (role : Role) (mine theirs : List Note) → RunAt role mine theirs
    → SentIsActedOnOrOnItsWay role mine theirs
sent_so_far role mine theirs run rest live way = go (run_at_linked role mine theirs run)
  where
    n : ℕ
    n = lives role mine

    go : Linked role mine theirs → sent (other_end role) (lives role mine) theirs
        ≡ acted role (lives role mine) mine ++ message_frames rest
    go (linked {n = life} q r owed owed' s s' e e' w w' joint) =
        let all = (lawful_heard n s).all live.stays (live_word s live) (lawful_lives s) in
        let own = subst (λ n. Own n r) (sym (lawful_lives s))
        (own_prefix life r owed' (joint_own (pact_joint joint) (live_word s live))) in
        let same = append_cancel_left (taken_by mine) (map carried r) rest
        (sym (carried_rest role mine theirs r e') ∙ way) in
        let flying = own_messages n r own ∙ ap message_frames same in
        ap (messages n) e'
        ∙ (messages-append n (takes role mine) r
        ∙ (ap (λ l. l ++ messages n r) (sym all) ∙ ap (λ l. acted role n mine ++ l) flying))

-- what stands before a note of a lawful history is lawful
data LawfulAt (role : Role) (history : List Note) : Type 0 where
  lawful_at : {word : State} {n : ℕ} {a : Bool} → Lawful role history (Is word n a) → LawfulAt role history

lawful_before : {role : Role} (later before : List Note) {word : State} {n : ℕ} {a : Bool}
    → Lawful role (later ++ before) (Is word n a) → LawfulAt role before
lawful_before [] before lawful = lawful_at lawful
lawful_before (x ∷ later) before (has_asked {before = Is word n a} frame here lawful asking) =
    lawful_before later before lawful
lawful_before (x ∷ later) before (has_replied frame lawful is_reply) = lawful_before later before lawful
lawful_before (x ∷ later) before (has_taken {before = Is word n a} frame lawful taking) =
    lawful_before later before lawful
lawful_before (x ∷ later) before (has_left_now lawful) = lawful_before later before lawful

lawful_first : {role : Role} (history : List Note) (kind : Kind) (frame : Frame)
    → LawfulAt role (Took kind frame ∷ history) → LawfulAt role history
lawful_first history kind frame (lawful_at (has_taken {before = Is word n a} frame' lawful taking)) = lawful_at lawful

regroup : (xs : List NoteInLife) (x : NoteInLife) (ys zs : List NoteInLife)
    → ((xs ++ x ∷ []) ++ ys) ++ zs ≡ xs ++ x ∷ (ys ++ zs)
regroup xs x ys zs = simp append_assoc

takes_later : (role : Role) (later before : List Note) → IsPrefixOf (takes role before) (takes role (later ++ before))
takes_later role [] before = ([], sym (append-nil _))
takes_later role (Took kind frame ∷ later) before = prefix_more _ _ _ (takes_later role later before)
takes_later role (Put kind frame ∷ later) before = takes_later role later before
takes_later role (Leaving ∷ later) before = takes_later role later before

acted_later : (role : Role) (later before : List Note)
    → IsPrefixOf (acted_takes role before) (acted_takes role (later ++ before))
acted_later role [] before = ([], sym (append-nil _))
acted_later role (Took kind frame ∷ later) before =
    more (acts_next role (later ++ before)) (acted_later role later before)
  where
    more : (b : Bool) → IsPrefixOf (acted_takes role before) (acted_takes role (later ++ before))
        → IsPrefixOf (acted_takes role before)
        (cond b (acted_takes role (later ++ before) ++ At kind (lives role (Took kind frame ∷ (later ++ before)))
        frame ∷ []) (acted_takes role (later ++ before)))
    more true prefix = prefix_more _ _ _ prefix
    more false prefix = prefix
acted_later role (Put kind frame ∷ later) before = acted_later role later before
acted_later role (Leaving ∷ later) before = acted_later role later before

messages_prefix : (life : ℕ) (xs ys : List NoteInLife) → IsPrefixOf xs ys
    → IsPrefixOf (messages life xs) (messages life ys)
messages_prefix life xs ys prefix =
    (messages life prefix.0, ap (messages life) prefix.1 ∙ messages-append life xs prefix.0)

-- a list that begins with one that begins with it
prefix_same : {A : Type 0} (xs ys : List A) → IsPrefixOf xs ys → IsPrefixOf ys xs → xs ≡ ys
prefix_same xs ys f g =
    let e = append_cancel_left xs [] (f.0 ++ g.0) (append-nil xs
    ∙ (g.1 ∙ (ap (λ l. l ++ g.0) f.1 ∙ append_assoc xs f.0 g.0))) in
    sym (append-nil xs) ∙ (ap (λ l. xs ++ l) (sym (prefix_none f.0 (g.0, e))) ∙ sym f.1)

pub all_acted : (role : Role) (mine theirs : List Note) → RunAt role mine theirs
    → AllActedOnAtClose role mine theirs
all_acted role mine theirs run life closed = go (run_at_linked role mine theirs run)
  where
    at_close : List Note
    at_close = Took Close closed.frame ∷ closed.before

    -- what was taken in the life up to the close was acted on
    before_it : LawfulAt role closed.before
        → acted role life closed.before ≡ messages life (takes role closed.before)
    before_it (lawful_at s) =
        (lawful_heard life s).all closed.live.stays (live_word s closed.live) (sym closed.life_is ∙ lawful_lives s)

    took : IsPrefixOf (takes role at_close) (takes role mine)
    took =
        subst (λ h. IsPrefixOf (takes role at_close) (takes role h)) (sym closed.history_is)
        (takes_later role closed.later at_close)

    acted_more : IsPrefixOf (acted role life closed.before) (acted role life mine)
    acted_more =
        subst (λ l. IsPrefixOf l (acted role life mine)) (acted_other role closed.before Close closed.frame life refl)
        (subst (λ h. IsPrefixOf (acted role life at_close) (acted role life h)) (sym closed.history_is)
        (messages_prefix life _ _ (acted_later role closed.later at_close)))

    -- where the close stands in what the other put
    place : (r : List NoteInLife) → puts (other_end role) theirs ≡ takes role mine ++ r
        → puts (other_end role) theirs ≡ takes role closed.before ++ At Close life closed.frame ∷ (took.0 ++ r)
    place r e =
        e ∙ (ap (λ l. l ++ r) took.1
        ∙ (regroup (takes role closed.before) _ took.0 r
        ∙ ap (λ n. takes role closed.before ++ At Close n closed.frame ∷ (took.0 ++ r)) closed.life_is))

    go : Linked role mine theirs → acted role life mine ≡ sent (other_end role) life theirs
    go (linked {word = word} {n = n} {a = a} q r owed owed' s s' e e' w w' joint) =
        let ended = lawful_ended life (takes role closed.before) (took.0 ++ r) closed.frame s' (place r e') in
        let sent_is = ap (messages life) (place r e') ∙ (messages-append life (takes role closed.before) _
        ∙ (ap (λ l. messages life (takes role closed.before) ++ l) ended.silent ∙ append-nil _)) in
        let lawful = subst (λ h. Lawful role h (Is word n a)) closed.history_is s in
        let all = before_it
        (lawful_first closed.before Close closed.frame (lawful_before closed.later at_close lawful)) in
        let back = subst (λ l. IsPrefixOf (acted role life mine) l) (sent_is ∙ sym all)
        (acts_prefix role mine theirs run life) in
        sym (prefix_same _ _ acted_more back) ∙ (all ∙ sym sent_is)

pub all_acted_connection : (role : Role) (mine theirs : List Note) → RunAt role mine theirs
    → AllActedOnAtConnectionClose role mine theirs
all_acted_connection role mine theirs run live all =
    sym (sent_so_far role mine theirs run [] live (all ∙ sym (append-nil _)) ∙ append-nil _)
