-- What a connection does is, on each of its channels, what a channel does.
use Rattle.std.proofs.Common.{◌≡◌, Bool, true, false, cond, ℕ, List, [], ◌∷◌, Some, None, ◌==◌, refl}
use Rattle.std.proofs.Common.{sym, subst}
use Rattle.std.proofs.lemmas.Bool.{eqb-true}
use Rattle.amqp_model.specs.Wire.Frame.{Frame}
use Rattle.amqp_model.specs.Wire.Notes.{Open, OpenOk, Role, Client, Server, Note, Put, Took}
use Rattle.amqp_model.specs.History.Verdict.{Opened, GoesOn, verdict}
use Rattle.amqp_model.specs.Pair.Carried.{Carry}
use Rattle.amqp_model.specs.Pair.Runs.{may_put, IsNext, Acts, asks, leaves, takes, replies, Run, start, client_acts}
use Rattle.amqp_model.specs.Pair.Runs.{server_acts}
use Rattle.amqp_model.specs.Pair.Connections.{ConnectionNote, notes_of, ConnectionActs, asks_on, leaves_all, takes_on}
use Rattle.amqp_model.specs.Pair.Connections.{replies_on, ConnectionRun, nothing, client_does, server_does}
use Rattle.amqp_model.specs.Pair.Connections.{overtaken_client, overtaking_server}

-- the notes of a channel after an act: after an act on it, or as they were
data ActsOrNot (role : Role) (theirs mine after : List Note) : Type 0 where
  acts : Acts role theirs mine after → ActsOrNot role theirs mine after
  does_not : after ≡ mine → ActsOrNot role theirs mine after

on_channel : {role : Role} {theirs mine after : List ConnectionNote} (channel : ℕ)
    → ConnectionActs role theirs mine after
    → ActsOrNot role (notes_of channel theirs) (notes_of channel mine) (notes_of channel after)
on_channel channel leaves_all = acts leaves
on_channel {role} {theirs} {mine} channel (asks_on other kind frame ok) = cases (other == channel) refl
  where
    cases : (b : Bool) → (other == channel) ≡ b
        → ActsOrNot role (notes_of channel theirs) (notes_of channel mine)
        (cond b (Put kind frame ∷ notes_of channel mine) (notes_of channel mine))
    cases true e =
        acts (asks kind frame (subst (λ c. may_put role (notes_of c mine) kind ≡ true)
        (eqb-true other channel e) ok))
    cases false e = does_not refl
on_channel {role} {theirs} {mine} channel (takes_on other kind frame event next ok) = cases (other == channel) refl
  where
    cases : (b : Bool) → (other == channel) ≡ b
        → ActsOrNot role (notes_of channel theirs) (notes_of channel mine)
        (cond b (Took kind frame ∷ notes_of channel mine) (notes_of channel mine))
    cases true e =
        let same = eqb-true other channel e in
        acts (takes kind frame event (subst (λ c. IsNext (notes_of c theirs) (notes_of c mine) (Carry kind frame)) same
        next) (subst (λ c. verdict role (notes_of c mine) kind ≡ GoesOn event None) same ok))
    cases false e = does_not refl
on_channel {role} {theirs} {mine} channel (replies_on other kind frame event reply answer next ok) =
    cases (other == channel) refl
  where
    cases : (b : Bool) → (other == channel) ≡ b
        → ActsOrNot role (notes_of channel theirs) (notes_of channel mine)
        (cond b (Put reply answer ∷ cond b (Took kind frame ∷ notes_of channel mine) (notes_of channel mine))
        (cond b (Took kind frame ∷ notes_of channel mine) (notes_of channel mine)))
    cases true e =
        let same = eqb-true other channel e in
        acts (replies kind frame event reply answer
        (subst (λ c. IsNext (notes_of c theirs) (notes_of c mine) (Carry kind frame)) same next)
        (subst (λ c. verdict role (notes_of c mine) kind ≡ GoesOn event (Some reply)) same ok))
    cases false e = does_not refl

client_then : {client server after : List Note} → Run client server
    → ActsOrNot Client server client after → Run after server
client_then run (acts act) = client_acts run act
client_then {server = server} run (does_not e) = subst (λ l. Run l server) (sym e) run

server_then : {client server after : List Note} → Run client server
    → ActsOrNot Server client server after → Run client after
server_then run (acts act) = server_acts run act
server_then {client} run (does_not e) = subst (λ l. Run client l) (sym e) run

pub channel_runs : {client server : List ConnectionNote} → ConnectionRun client server → (channel : ℕ)
    → Run (notes_of channel client) (notes_of channel server)
channel_runs nothing channel = start
channel_runs (client_does run act) channel = client_then (channel_runs run channel) (on_channel channel act)
channel_runs (server_does run act) channel = server_then (channel_runs run channel) (on_channel channel act)

-- frames of different channels may overtake each other
pub overtaking : (f : ℕ → Frame) → ConnectionRun (overtaken_client f) (overtaking_server f)
overtaking f =
    let asked = client_does (client_does nothing (asks_on 1 Open (f 1) refl)) (asks_on 2 Open (f 2) refl) in
    let second = server_does asked (replies_on 2 Open (f 2) Opened OpenOk (f 2) ([], refl) refl) in
    server_does second (replies_on 1 Open (f 1) Opened OpenOk (f 1) ([], refl) refl)
