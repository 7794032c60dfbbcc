-- Every run keeps its two ends in one of the cases of `Joint`.
use Rattle.std.proofs.Common.{◌≡◌, Bool, true, false, ℕ, List, [], ◌∷◌, ◌++◌, Some, None, refl, sym}
use Rattle.std.proofs.Common.{ap, ◌∙◌, subst, map, append_assoc, append-nil}
use Rattle.std.proofs.lemmas.Bool.{true≢false}
use Rattle.std.proofs.lemmas.List.{append_cancel_left, map-append}
use Rattle.amqp_model.specs.Wire.Frame.{Frame}
use Rattle.amqp_model.specs.Wire.Notes.{Role, Client, Server, other_end, Kind, Note, Put, Took, Leaving}
use Rattle.amqp_model.specs.History.States.{State}
use Rattle.amqp_model.specs.History.Lives.{has_left, lives, is_paused}
use Rattle.amqp_model.specs.History.Verdict.{ChannelEvent, GoesOn, verdict}
use Rattle.amqp_model.specs.Pair.Carried.{Carried, Carry, put_by, taken_by, NoteInLife, At, puts, takes}
use Rattle.amqp_model.specs.Pair.Runs.{may_ask, may_put, IsNext, Acts, asks, leaves, takes as takes_quietly, replies}
use Rattle.amqp_model.specs.Pair.Runs.{Run, start, client_acts, server_acts, RunAt}
use Rattle.amqp_model.proofs.Ends.{Is, IsReply, Taking, Lawful, begun, has_asked, has_replied, has_taken, has_left_now}
use Rattle.amqp_model.proofs.Ends.{lawful_stands, lawful_lives, here_owed, left_owed, Asked, asked, may_asked}
use Rattle.amqp_model.proofs.Ends.{may_put_parts, may_content}
use Rattle.amqp_model.proofs.Joint.{free, at_client, at_server}
use Rattle.amqp_model.proofs.Pauses.{fresh, Pact, pact, pact_ask, pact_reply, pact_leave, Kept, kept_quietly}
use Rattle.amqp_model.proofs.Pauses.{kept_answering, pact_take}

-- a note with its life, without it
abbrev pub carried : NoteInLife → Carried
carried (At kind life frame) = Carry kind frame

puts-carried : (role : Role) (history : List Note) → map carried (puts role history) ≡ put_by history
puts-carried role [] = refl
puts-carried role (Put kind frame ∷ before) =
    map-append carried (puts role before) _ ∙ ap (λ l. l ++ Carry kind frame ∷ []) (puts-carried role before)
puts-carried role (Took kind frame ∷ before) = puts-carried role before
puts-carried role (Leaving ∷ before) = puts-carried role before

takes-carried : (role : Role) (history : List Note) → map carried (takes role history) ≡ taken_by history
takes-carried role [] = refl
takes-carried role (Took kind frame ∷ before) =
    map-append carried (takes role before) _ ∙ ap (λ l. l ++ Carry kind frame ∷ []) (takes-carried role before)
takes-carried role (Put kind frame ∷ before) = takes-carried role before
takes-carried role (Leaving ∷ before) = takes-carried role before

-- what is in flight, with the lives and without
pub carried_rest : (role : Role) (mine theirs : List Note) (r : List NoteInLife)
    → puts (other_end role) theirs ≡ takes role mine ++ r → put_by theirs ≡ taken_by mine ++ map carried r
carried_rest role mine theirs r e =
    sym (puts-carried (other_end role) theirs)
    ∙ (ap (map carried) e
    ∙ (map-append carried (takes role mine) r ∙ ap (λ l. l ++ map carried r) (takes-carried role mine)))

-- Two ends, what is in flight between them, and what an end that left owes and never puts: it replies no more,
-- and nobody can tell, so that the cases go on as if it did.
pub data Linked (role : Role) (mine theirs : List Note) : Type 0 where
  linked : {word word' : State} {n n' : ℕ} {a a' : Bool} (q r owed owed' : List NoteInLife)
      → Lawful role mine (Is word n a) → Lawful (other_end role) theirs (Is word' n' a')
      → puts role mine ≡ takes (other_end role) theirs ++ q
      → puts (other_end role) theirs ≡ takes role mine ++ r → (has_left mine ≡ false → owed ≡ [])
      → (has_left theirs ≡ false → owed' ≡ [])
      → Pact role mine theirs (Is word n a) (Is word' n' a') (q ++ owed) (r ++ owed') → Linked role mine theirs

pub turned : (role : Role) {mine theirs : List Note} → Linked role mine theirs → Linked (other_end role) theirs mine
turned Client (linked q r owed owed' s s' e e' w w' (pact (at_client joint) i they)) =
    linked r q owed' owed s' s e' e w' w (pact (at_server joint) they i)
turned Server (linked q r owed owed' s s' e e' w w' (pact (at_server joint) i they)) =
    linked r q owed' owed s' s e' e w' w (pact (at_client joint) they i)

-- the next note of what is in flight, with its life
pub data NextOf (kind : Kind) (frame : Frame) (r : List NoteInLife) : Type 0 where
  next_of : (n : ℕ) (rest : List NoteInLife) → r ≡ At kind n frame ∷ rest → NextOf kind frame r

first_of : {kind : Kind} {frame : Frame} {later : List Carried} (r : List NoteInLife)
    → map carried r ≡ Carry kind frame ∷ later → NextOf kind frame r
first_of [] e = absurd cc
first_of (At kind n frame ∷ rest) e = next_of n rest cc

pub next_entry : (role : Role) (mine theirs : List Note) {r : List NoteInLife} {kind : Kind} {frame : Frame}
    → puts (other_end role) theirs ≡ takes role mine ++ r → IsNext theirs mine (Carry kind frame)
    → NextOf kind frame r
next_entry role mine theirs {r} e next =
    first_of r (append_cancel_left (taken_by mine) _ _ (sym (carried_rest role mine theirs r e) ∙ next.1))

-- one more note put or taken, with its life
put_at : (role : Role) (mine : List Note) (q x : List NoteInLife) (kind : Kind) (frame : Frame) {n : ℕ}
    → puts role mine ≡ x ++ q → lives role (Put kind frame ∷ mine) ≡ n → puts role (Put kind frame ∷ mine)
    ≡ x ++ (q ++ At kind n frame ∷ [])
put_at role mine q x kind frame e l =
    ap (λ p. p ++ At kind (lives role (Put kind frame ∷ mine)) frame ∷ []) e
    ∙ (append_assoc x q _ ∙ ap (λ n. x ++ (q ++ At kind n frame ∷ [])) l)

take_at : (role : Role) (mine : List Note) {r rest x : List NoteInLife} (kind : Kind) (frame : Frame) {n : ℕ}
    → x ≡ takes role mine ++ r → r ≡ At kind n frame ∷ rest → lives role (Took kind frame ∷ mine) ≡ n
    → x ≡ takes role (Took kind frame ∷ mine) ++ rest
take_at role mine {r} {rest} kind frame e first l =
    e ∙ (ap (λ r. takes role mine ++ r) first ∙ (ap (λ n. takes role mine ++ At kind n frame ∷ rest) (sym l)
    ∙ sym (append_assoc (takes role mine) (At kind (lives role (Took kind frame ∷ mine)) frame ∷ []) rest)))

-- an end that puts what its application asks
asks_linked : {role : Role} {mine theirs : List Note} (kind : Kind) (frame : Frame) → may_put role mine kind ≡ true
    → Linked role mine theirs → Linked role (Put kind frame ∷ mine) theirs
asks_linked {role} {mine} {theirs} kind frame ok
    (linked {word} {word'} {n} {n'} {a} {a'} q r owed owed' s s' e e' w w' agreed) =
    put (may_asked role word n a _ kind may.1) (w may.0)
  where
    may : (has_left mine ≡ false) × (may_ask role word a (is_paused role mine) kind ≡ true)
    may = may_put_parts mine kind (lawful_stands s) ok

    put : Asked role (Is word n a) kind → owed ≡ [] → Linked role (Put kind frame ∷ mine) theirs
    put (asked {word = word''} {n = life} {a = a''} asking) none =
        let asked_s = has_asked frame may.0 s asking in
        let plain = subst (λ l. Pact role mine theirs (Is word n a) (Is word' n' a') l (r ++ owed'))
        (ap (λ o. q ++ o) none ∙ append-nil q) agreed in
        let after = pact_ask asking (may_content role word a (is_paused role mine) kind may.1) plain frame in
        let q' = q ++ At kind life frame ∷ [] in
        linked q' r [] owed' asked_s s' (put_at role mine q (takes (other_end role) theirs) kind frame e
        (lawful_lives asked_s)) e' (λ h. refl) w'
        (subst (λ l. Pact role (Put kind frame ∷ mine) theirs (Is word'' life a'') (Is word' n' a') l (r ++ owed'))
        (sym (append-nil q')) after)

-- an end that takes the next note and puts nothing: none is owed, or it has left
takes_linked : {role : Role} {mine theirs : List Note} (kind : Kind) (frame : Frame) (event : ChannelEvent)
    → IsNext theirs mine (Carry kind frame) → verdict role mine kind ≡ GoesOn event None
    → Linked role mine theirs → Linked role (Took kind frame ∷ mine) theirs
takes_linked {role} {mine} {theirs} kind frame event next ok
    (linked {word} {word'} {n} {n'} {a} {a'} q r owed owed' s s' e e' w w' agreed) =
    go (next_entry role mine theirs e' next)
  where
    taken : (life : ℕ) (rest : List NoteInLife) → r ≡ At kind life frame ∷ rest → (left : Bool)
        → has_left mine ≡ left
        → Kept role mine theirs (Is word n a) (Is word' n' a') (q ++ owed) (rest ++ owed') kind frame life
        → Linked role (Took kind frame ∷ mine) theirs
    taken life rest first left h (kept_quietly taking after) =
        let took_s = has_taken frame s taking in
        linked q rest owed owed' took_s s' e (take_at role mine kind frame e' first (lawful_lives took_s)) w w' after
    taken life rest first true h (kept_answering {word = word''} {a = a''} {reply = reply} taking is_reply after) =
        let took_s = has_taken frame s taking in
        let owes = At reply life frame ∷ [] in
        linked q rest (owed ++ owes) owed' took_s s' e (take_at role mine kind frame e' first (lawful_lives took_s))
        (λ here. absurd (true≢false (sym h ∙ here))) w'
        (subst (λ l. Pact role (Took kind frame ∷ mine) theirs (Is word'' life a'') (Is word' n' a') l
        (rest ++ owed')) (append_assoc q owed owes) (after frame))
    taken life rest first false h (kept_answering taking is_reply after) =
        let o = here_owed mine h (lawful_stands s) taking ok in
        absurd cc

    go : NextOf kind frame r → Linked role (Took kind frame ∷ mine) theirs
    go (next_of life rest first) =
        taken life rest first (has_left mine) refl
        (pact_take s s'
        (subst (λ r. Pact role mine theirs (Is word n a) (Is word' n' a') (q ++ owed) (r ++ owed')) first agreed))

-- an end that takes the next note and puts its reply: it has not left, and owes just that
replies_linked : {role : Role} {mine theirs : List Note} (kind : Kind) (frame : Frame) (event : ChannelEvent)
    (reply : Kind) (answer : Frame) → IsNext theirs mine (Carry kind frame)
    → verdict role mine kind ≡ GoesOn event (Some reply) → Linked role mine theirs
    → Linked role (Put reply answer ∷ Took kind frame ∷ mine) theirs
replies_linked {role} {mine} {theirs} kind frame event reply answer next ok
    (linked {word} {word'} {n} {n'} {a} {a'} q r owed owed' s s' e e' w w' agreed) =
    go (next_entry role mine theirs e' next)
  where
    put : (life : ℕ) (rest : List NoteInLife) → r ≡ At kind life frame ∷ rest → (word'' : State) (a'' : Bool)
        → owed ≡ [] → IsReply reply word'' → Taking role (Is word n a) kind (Some reply) (Is word'' life a'')
        → Pact role (Took kind frame ∷ mine) theirs (Is word'' life a'') (Is word' n' a')
        ((q ++ owed) ++ At reply life answer ∷ []) (rest ++ owed')
        → Linked role (Put reply answer ∷ Took kind frame ∷ mine) theirs
    put life rest first word'' a'' none is_reply taking after =
        let took_s = has_taken frame s taking in
        let put_s = has_replied answer took_s is_reply in
        let q' = q ++ At reply life answer ∷ [] in
        let there = Pact role (Put reply answer ∷ Took kind frame ∷ mine) theirs
        (Is word'' life a'') (Is word' n' a') in
        let plain = subst (λ l. there (l ++ At reply life answer ∷ []) (rest ++ owed')) (ap (λ o. q ++ o) none
        ∙ append-nil q) (pact_reply is_reply answer after) in
        linked q' rest [] owed' put_s s' (put_at role (Took kind frame ∷ mine) q (takes (other_end role) theirs) reply
        answer e (lawful_lives put_s)) (take_at role mine kind frame e' first (lawful_lives took_s)) (λ h. refl) w'
        (subst (λ l. there l (rest ++ owed')) (sym (append-nil q')) plain)

    taken : (life : ℕ) (rest : List NoteInLife) → r ≡ At kind life frame ∷ rest → (left : Bool)
        → has_left mine ≡ left
        → Kept role mine theirs (Is word n a) (Is word' n' a') (q ++ owed) (rest ++ owed') kind frame life
        → Linked role (Put reply answer ∷ Took kind frame ∷ mine) theirs
    taken life rest first true h _ = let o = left_owed role mine kind h ok in absurd cc
    taken life rest first false h (kept_quietly taking after) =
        let o = here_owed mine h (lawful_stands s) taking ok in
        absurd cc
    taken life rest first false h (kept_answering {word = word''} {a = a''} {reply = reply'} taking is_reply after) =
        let same : reply' ≡ reply = let o = here_owed mine h (lawful_stands s) taking ok in cc in
        put life rest first word'' a'' (w h) (subst (λ k. IsReply k word'') same is_reply)
        (subst (λ k. Taking role (Is word n a) kind (Some k) (Is word'' life a'')) same taking)
        (subst (λ k. Pact role (Took kind frame ∷ mine) theirs (Is word'' life a'') (Is word' n' a')
        ((q ++ owed) ++ At k life answer ∷ []) (rest ++ owed')) same (after answer))

    go : NextOf kind frame r → Linked role (Put reply answer ∷ Took kind frame ∷ mine) theirs
    go (next_of life rest first) =
        taken life rest first (has_left mine) refl
        (pact_take s s'
        (subst (λ r. Pact role mine theirs (Is word n a) (Is word' n' a') (q ++ owed) (r ++ owed')) first agreed))

leaves_linked : {role : Role} {mine theirs : List Note} → Linked role mine theirs
    → Linked role (Leaving ∷ mine) theirs
leaves_linked (linked q r owed owed' s s' e e' w w' agreed) =
    linked q r owed owed' (has_left_now s) s' e e' (λ h. absurd (true≢false h)) w' (pact_leave agreed)

-- each act keeps to the cases
pub act_linked : {role : Role} {mine theirs after : List Note} → Acts role theirs mine after
    → Linked role mine theirs → Linked role after theirs
act_linked (asks kind frame ok) link = asks_linked kind frame ok link
act_linked leaves link = leaves_linked link
act_linked (takes_quietly kind frame event next ok) link = takes_linked kind frame event next ok link
act_linked (replies kind frame event reply answer next ok) link =
    replies_linked kind frame event reply answer next ok link

-- each run keeps to the cases
pub run_linked : {client server : List Note} → Run client server → Linked Client client server
run_linked start =
    linked [] [] [] [] begun begun refl refl (λ h. refl) (λ h. refl) (pact (at_client free) fresh fresh)
run_linked (client_acts run act) = act_linked act (run_linked run)
run_linked (server_acts run act) = turned Server (act_linked act (turned Client (run_linked run)))

pub run_at_linked : (role : Role) (mine theirs : List Note) → RunAt role mine theirs → Linked role mine theirs
run_at_linked Client mine theirs run = run_linked run
run_at_linked Server mine theirs run = turned Client (run_linked run)
