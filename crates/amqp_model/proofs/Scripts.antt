-- Every script plays a run, and what the scripts come to.
use Rattle.std.proofs.Common.{◌≡◌, Bool, true, false, cond, ℕ, zero, suc, List, [], ◌∷◌, ◌++◌, map}
use Rattle.std.proofs.Common.{length, drop, Some, None, refl, sym, ap, ◌∙◌, subst}
use Rattle.std.proofs.Math.Seq.{drop-append_seam}
use Rattle.amqp_model.specs.Wire.Frame.{Frame}
use Rattle.amqp_model.specs.Wire.Notes.{Role, Client, Server, Kind, Note, Put}
use Rattle.amqp_model.specs.History.Verdict.{Verdict, GoesOn, Fault, verdict}
use Rattle.amqp_model.specs.Pair.Carried.{Carried, Carry, put_by, taken_by}
use Rattle.amqp_model.specs.Pair.Runs.{may_put, IsNext, Acts, asks, leaves, takes, replies, Run, start, client_acts}
use Rattle.amqp_model.specs.Pair.Runs.{server_acts, RunAt}
use Rattle.amqp_model.specs.Output.Prefixes.{IsPrefixOf}
use Rattle.amqp_model.specs.Laws.Scripts.{ScriptStep, Ask, Take, Leave, World, with_reply, take_first, take_one}
use Rattle.amqp_model.specs.Laws.Scripts.{take_many, notes_at, other_notes, stepped, refused_step, after, play, replay}
use Rattle.amqp_model.specs.Laws.Scripts.{CrossingCloses, ClosedAndReopened, ClosedAtOnce, DiscardedContents}
use Rattle.amqp_model.specs.Laws.Scripts.{PausedServer, RestartedServer, MessageThenClose, DroppedClient, ServerLeaves}
use Rattle.amqp_model.proofs.Runs.{carried, carried_rest}
use Rattle.amqp_model.proofs.Laws.{takes_prefix}

-- an act of an end, of a run as that end sees it
acts_at : (role : Role) {mine theirs after : List Note} → RunAt role mine theirs → Acts role theirs mine after
    → RunAt role after theirs
acts_at Client run act = client_acts run act
acts_at Server run act = server_acts run act

-- what is in flight to an end
flying : (role : Role) (mine theirs : List Note) → RunAt role mine theirs
    → IsPrefixOf (taken_by mine) (put_by theirs)
flying role mine theirs run =
    let prefix = takes_prefix role mine theirs run in
    (map carried prefix.0, carried_rest role mine theirs prefix.0 prefix.1)

run_take_next : (role : Role) (mine theirs : List Note) (kind : Kind) (frame : Frame)
    → IsNext theirs mine (Carry kind frame) → RunAt role mine theirs → (v : Verdict)
    → verdict role mine kind ≡ v → RunAt role (with_reply v kind frame mine) theirs
run_take_next role mine theirs kind frame next run (GoesOn event None) ok =
    acts_at role run (takes kind frame event next ok)
run_take_next role mine theirs kind frame next run (GoesOn event (Some reply)) ok =
    acts_at role run (replies kind frame event reply frame next ok)
run_take_next role mine theirs kind frame next run (Fault code) ok = run

run_take_one : (role : Role) (mine theirs : List Note) → RunAt role mine theirs
    → RunAt role (take_one role theirs mine) theirs
run_take_one role mine theirs run = go (flying role mine theirs run)
  where
    first : (rest : List Carried) → put_by theirs ≡ taken_by mine ++ rest
        → RunAt role (take_first role rest mine) theirs
    first [] e = run
    first (Carry kind frame ∷ later) e =
        run_take_next role mine theirs kind frame (later, e) run (verdict role mine kind) refl

    go : IsPrefixOf (taken_by mine) (put_by theirs) → RunAt role (take_one role theirs mine) theirs
    go prefix =
        let rest = ap (drop (length (taken_by mine))) prefix.1 ∙ drop-append_seam (taken_by mine) prefix.0 in
        subst (λ l. RunAt role (take_first role l mine) theirs) (sym rest) (first prefix.0 prefix.1)

run_take_many : (n : ℕ) (role : Role) (mine theirs : List Note) → RunAt role mine theirs
    → RunAt role (take_many n role theirs mine) theirs
run_take_many zero role mine theirs run = run
run_take_many (suc n) role mine theirs run =
    run_take_many n role (take_one role theirs mine) theirs (run_take_one role mine theirs run)

run_at : (role : Role) (w : World) → Run w.client w.server → RunAt role (notes_at role w) (other_notes role w)
run_at Client w run = run
run_at Server w run = run

run_stepped : (role : Role) (w : World) (notes : List Note) → RunAt role notes (other_notes role w)
    → Run (stepped role notes w).client (stepped role notes w).server
run_stepped Client w notes run = run
run_stepped Server w notes run = run

run_after : (w : World) (step : ScriptStep) → Run w.client w.server
    → Run (after w step).client (after w step).server
run_after w (Ask role kind frame) run = cases (may_put role (notes_at role w) kind) refl
  where
    cases : (b : Bool) → may_put role (notes_at role w) kind ≡ b
        → Run (cond b (stepped role (Put kind frame ∷ notes_at role w) w) (refused_step w)).client
        (cond b (stepped role (Put kind frame ∷ notes_at role w) w) (refused_step w)).server
    cases true ok = run_stepped role w _ (acts_at role (run_at role w run) (asks kind frame ok))
    cases false ok = run
run_after w (Take role notes) run =
    run_stepped role w _ (run_take_many notes role (notes_at role w) (other_notes role w) (run_at role w run))
run_after w (Leave role) run = run_stepped role w _ (acts_at role (run_at role w run) leaves)

play_runs : (w : World) (steps : List ScriptStep) → Run w.client w.server
    → Run (play w steps).client (play w steps).server
play_runs w [] run = run
play_runs w (step ∷ steps) run = play_runs (after w step) steps (run_after w step run)

pub replay_runs : (steps : List ScriptStep) → Run (replay steps).client (replay steps).server
replay_runs steps = play_runs _ steps start

pub crossing : (f : ℕ → Frame) → CrossingCloses f
crossing f =
    record {
      refused = refl;
      lives_of_client = refl;
      lives_of_server = refl;
      client_is = refl;
      server_is = refl;
      client_took = refl;
      server_took = refl;
      to_server = λ life. (refl, refl);
      to_client = λ life. (refl, refl);
    }

pub reopened : (f : ℕ → Frame) → ClosedAndReopened f
reopened f = record { refused = refl; client_took = refl; server_took = refl }

pub closed_early : (f : ℕ → Frame) → ClosedAtOnce f
closed_early f =
    record {
      refused = refl;
      client_took = refl;
      lives_of_client = refl;
      lives_of_server = refl;
      to_server = λ life. (refl, refl);
      to_client = λ life. (refl, refl);
    }

pub discarded : (f : ℕ → Frame) → DiscardedContents f
discarded f =
    record {
      refused = refl;
      client_took = refl;
      client_is = refl;
      server_is = refl;
      sent_to_client = refl;
      acted_by_client = refl;
      sent_to_server = refl;
      acted_by_server = refl;
    }

pub paused : (f : ℕ → Frame) → PausedServer f
paused f =
    record {
      refused = refl;
      server_took = refl;
      client_took = refl;
      sent_to_server = refl;
      acted_by_server = refl;
      sent_to_client = refl;
      acted_by_client = refl;
      client_holds = refl;
      server_is = refl;
    }

pub restarted : (f : ℕ → Frame) → RestartedServer f
restarted f =
    record { refused = refl; client_took = refl; acted_by_client = refl; client_holds = refl; server_is = refl }

pub closed_after_message : (f : ℕ → Frame) → MessageThenClose f
closed_after_message f = record { client_took = refl; sent_to_client = refl; acted_by_client = refl }

pub dropped : (f : ℕ → Frame) → DroppedClient f
dropped f = record { sent_to_server = refl; first_alone = refl; all_come = refl }

pub server_left : (f : ℕ → Frame) → ServerLeaves f
server_left f =
    record {
      refused = refl;
      server_took = refl;
      sent_to_server = refl;
      acted_by_server = refl;
      server_is = refl;
      client_is = refl;
    }
