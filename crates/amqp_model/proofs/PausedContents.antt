-- No content comes to an end that has paused the other.
use Rattle.std.proofs.Common.{◌≡◌, Bool, true, false, ℕ, List, [], ◌∷◌, ◌++◌, sym, ap, ◌∙◌}
use Rattle.std.proofs.Common.{subst}
use Rattle.std.proofs.lemmas.Bool.{true≢false, false≢true}
use Rattle.amqp_model.specs.Wire.Frame.{Frame}
use Rattle.amqp_model.specs.Wire.Notes.{Role, Client, Server, Kind, Other, Note, Put, Took, Leaving, is_content}
use Rattle.amqp_model.specs.History.States.{State}
use Rattle.amqp_model.specs.History.Lives.{pauses_other}
use Rattle.amqp_model.specs.Pair.Carried.{Carry, NoteInLife, At}
use Rattle.amqp_model.specs.Pair.Runs.{IsNext, Acts, asks, leaves, takes as takes_quietly, replies, Run, start}
use Rattle.amqp_model.specs.Pair.Runs.{client_acts, server_acts, RunAt}
use Rattle.amqp_model.specs.Laws.LifeLaws.{TakesNoContentPaused, NoPauseBeforeContent}
use Rattle.amqp_model.proofs.Ends.{Standing}
use Rattle.amqp_model.proofs.Pauses.{Scan, scan_content_free, Hush, hush, Pact, pact}
use Rattle.amqp_model.proofs.Runs.{Linked, linked, turned, run_linked, NextOf, next_of, next_entry}
use Rattle.amqp_model.proofs.Words.{since_reads}

-- no content was taken while the end had paused the other
abbrev NoneTaken : Role → List Note → Type 0
NoneTaken role [] = Unit {0}
NoneTaken role (Took kind frame ∷ before) =
    (is_content kind ≡ true → pauses_other role before ≡ false) × NoneTaken role before
NoneTaken role (_ ∷ before) = NoneTaken role before

hush_free : {n m life : ℕ} {held paused : Bool} {word : State} {q r : List NoteInLife} (kind : Kind) {frame : Frame}
    → Hush n held word m paused q (At kind life frame ∷ r) → is_content kind ≡ true → held ≡ false
hush_free (Other begins_content) (hush scan silenced) content = scan_content_free scan content
hush_free kind old content = absurd (false≢true content)

-- what comes next is no content, where the end has paused the other
next_free : {role : Role} {mine theirs : List Note} (kind : Kind) (frame : Frame) → Linked role mine theirs
    → IsNext theirs mine (Carry kind frame) → is_content kind ≡ true → pauses_other role mine ≡ false
next_free {role} {mine} {theirs} kind frame
    (linked {word} {word'} {n} {n'} {a} {a'} q r owed owed' s s' e e' w w' agreed) next content =
    go (next_entry role mine theirs e' next)
  where
    hushed : (life : ℕ) (rest : List NoteInLife) {here there : Standing} {q r : List NoteInLife}
        → r ≡ At kind life frame ∷ rest → Pact role mine theirs here there q r
        → pauses_other role mine ≡ false
    hushed life rest first (pact joint (hush {out} scan silenced) they) =
        hush_free kind (hush (subst (λ r. Scan (pauses_other role mine) r out) first scan) silenced) content

    go : NextOf kind frame r → pauses_other role mine ≡ false
    go (next_of life rest first) = hushed life (rest ++ owed') (ap (λ l. l ++ owed') first) agreed

act_free : {role : Role} {mine theirs after : List Note} → Acts role theirs mine after → Linked role mine theirs
    → NoneTaken role mine → NoneTaken role after
act_free (asks kind frame ok) link free = free
act_free leaves link free = free
act_free (takes_quietly kind frame event next ok) link free = (next_free kind frame link next, free)
act_free (replies kind frame event reply answer next ok) link free = (next_free kind frame link next, free)

run_free : {client server : List Note} → Run client server → NoneTaken Client client × NoneTaken Server server
run_free start = (tt, tt)
run_free (client_acts run act) = (act_free act (run_linked run) (run_free run).0, (run_free run).1)
run_free (server_acts run act) = ((run_free run).0, act_free act (turned Client (run_linked run)) (run_free run).1)

none_taken : (role : Role) (mine theirs : List Note) → RunAt role mine theirs → NoneTaken role mine
none_taken Client mine theirs run = (run_free run).0
none_taken Server mine theirs run = (run_free run).1

free_at : (role : Role) (later : List Note) (kind : Kind) (frame : Frame) (before : List Note)
    → NoneTaken role (later ++ Took kind frame ∷ before) → is_content kind ≡ true
    → pauses_other role before ≡ false
free_at role [] kind frame before free content = free.0 content
free_at role (Put kind' frame' ∷ later) kind frame before free content =
    free_at role later kind frame before free content
free_at role (Took kind' frame' ∷ later) kind frame before free content =
    free_at role later kind frame before free.1 content
free_at role (Leaving ∷ later) kind frame before free content = free_at role later kind frame before free content

pub no_content : (role : Role) (mine theirs : List Note) → RunAt role mine theirs
    → TakesNoContentPaused role mine theirs
no_content role mine theirs run later kind frame before e content =
    free_at role later kind frame before (subst (NoneTaken role) e (none_taken role mine theirs run)) content

pub no_pause : (role : Role) (mine theirs : List Note) → RunAt role mine theirs
    → NoPauseBeforeContent role mine theirs
no_pause role mine theirs run later kind frame before e content pause =
    true≢false (sym ((since_reads _ _ before).1 pause)
    ∙ no_content role mine theirs run later kind frame before e content)
