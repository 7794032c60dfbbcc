-- The two ends of every pair are together on channel 0, whichever goes: what a server begins with, what the
-- applications decide in the handshake, and any step of either.
use Rattle.std.proofs.Common.{◌≡◌, ◌⊎◌, inl, inr, Bool, true, false, ◌||◌, ℕ, suc, List, []}
use Rattle.std.proofs.Common.{◌∷◌, ◌++◌, Option, refl, sym, ap, ◌∙◌, subst}
use Rattle.std.proofs.lemmas.Bool.{false≢true}
use Rattle.amqp_method.specs.Arguments.{Argument}
use Rattle.amqp_model.specs.Wire.Frame.{Frame}
use Rattle.amqp_model.specs.Wire.Notes.{Role, Client, Server}
use Rattle.amqp_model.specs.Output.Arrangement.{on}
use Rattle.amqp_model.specs.Wire.Methods.{ReadsBack}
use Rattle.amqp_model.specs.Wire.Readings.{Calls}
use Rattle.amqp_model.specs.History.Histories.{Put, History, PutHere}
use Rattle.amqp_model.specs.End.Channels as channels
use Rattle.amqp_model.specs.End.Channels.{Phase, Handshake, Running, End, HandshakeStep}
use Rattle.amqp_model.specs.End.Channels.{AwaitsTune, AwaitsTuneOk}
use Rattle.amqp_model.specs.End.Channels.{HoldsStart, HoldsLogin, HoldsOpen}
use Rattle.amqp_model.specs.History.Negotiation.{Config}
use Rattle.amqp_model.specs.History.Negotiation as negotiation
use Rattle.amqp_model.specs.End.StateFromHistory.{end_from}
use Rattle.amqp_model.specs.End.Closes.{Cause, method_frame}
use Rattle.amqp_model.specs.End.ReadingBack.{WritesReadBack}
use Rattle.amqp_model.specs.End.LawfulHistories.{then_put, Goes, greets, takes, asks, controls}
use Rattle.amqp_model.specs.End.Machine.{end_after, new_end, StandsFor}
use Rattle.amqp_model.specs.End.Fitting.{ConfigWrites}
use Rattle.amqp_model.specs.Stream.Octets.{frames_taken}
use Rattle.amqp_model.specs.Pair.Pairs.{AllComeNext, Pair, both_begin, client_goes, server_goes}
use Rattle.amqp_model.proofs.Acting.{reads-back}
use Rattle.amqp_model.proofs.Standing.{end-stands}
use Rattle.amqp_model.proofs.EndSteps.{end-follows, new-end-stands}
use Rattle.amqp_model.proofs.Lawfulness.{lawful-stands}
use Rattle.amqp_model.proofs.Pairing.{pair-lawful}
use Rattle.amqp_model.proofs.Footings.{Footing, footing_of}
use Rattle.amqp_model.proofs.Together.{Word, Start, StartOk, Tune, OpenOk, Close, said, spoken, Signal, Says}
use Rattle.amqp_model.proofs.Together.{none, at, Together}
use Rattle.amqp_model.proofs.Together.{new, answered, start_held, login_held, open_held, tuned, login_refused}
use Rattle.amqp_model.proofs.Together.{open_refused, opened}
use Rattle.amqp_model.proofs.Hearing.{is_shut, shakes_hands, is_none, is_early}
use Rattle.amqp_model.proofs.Hearing.{start-is}
use Rattle.amqp_model.proofs.ZeroSteps.{asked, Decided, beaten, starts}
use Rattle.amqp_model.proofs.ZeroSteps.{logs_in, opens, turns_away, decided}
use Rattle.amqp_model.proofs.BothEnds.{Joined, all-read-join, asks-joined, beats-joined, more-sent, none-more}
use Rattle.amqp_model.proofs.BothEnds.{server-greets, speaks-joined, takes-joined, theirs_of, turned, turned-back}

-- a server puts start
greets-joined : (client_config : Config Client) (server_config : Config Server) → WritesReadBack Server server_config
    → (theirs : History) → Joined Server client_config server_config [] theirs
    → Joined Server client_config server_config (Put (method_frame 0 (negotiation.start server_config)) ∷ []) theirs
greets-joined client_config server_config back theirs j = record {
  due = j.due;
  sent = j.sent ++ Says word ∷ [];
  together = subst
      (λ f. Together client_config server_config
      (footing_of (theirs_of Server client_config server_config theirs)) f j.due
      (j.sent ++ Says word ∷ [])) (sym (ap footing_of end_is))
      (server-greets client_config server_config j.together refl
      (negotiation.start server_config).args);
  due_is = j.due_is;
  sent_is = ap (λ f. on 0 (f ∷ [])) same ∙ more-sent [] (frames_taken theirs) j.sent (Says word ∷ []) j.sent_is;
  due_read = j.due_read;
  sent_read = all-read-join j.sent (Says word ∷ []) j.sent_read (reads-back 0 (said word) read, tt);
  early = λ e n. let old = j.early (inl refl) n in
      record {
        mine_none = ap (λ f. on (suc n) (f ∷ [])) same ∙ none-more n [] (Says word ∷ []);
        theirs_none = old.theirs_none;
        mine_free = ap (λ (e : End). e.channels n) end_is;
        theirs_free = old.theirs_free;
      };
  mine_over = λ e. absurd (false≢true (sym (ap (λ (e : End). is_shut e.phase) end_is) ∙ e));
  theirs_over = λ e n. ap (λ f. on (suc n) (f ∷ [])) same
      ∙ (none-more n [] (Says word ∷ []) ∙ j.theirs_over e n);
}
  where
    word : Word
    word = Start (negotiation.start server_config).args

    same : method_frame 0 (negotiation.start server_config) ≡ spoken (Start (negotiation.start server_config).args)
    same = ap (method_frame 0) (start-is server_config)

    read : ReadsBack (said (Start (negotiation.start server_config).args))
    read = subst ReadsBack (start-is server_config) back.greeting

    end_is : end_from Server server_config false (Put (method_frame 0 (negotiation.start server_config)) ∷ [])
        ≡ end_after Server server_config 0 (PutHere (Calls (said (Start (negotiation.start server_config).args)))
        (method_frame 0 (negotiation.start server_config))) (new_end Server)
    end_is =
        end-stands Server server_config _ _ (end-follows Server server_config (new_end Server) []
        (Put (method_frame 0 (negotiation.start server_config))) (new-end-stands Server server_config) (inl refl))
        ∙ ap (λ r. end_after Server server_config 0 (PutHere r (method_frame 0 (negotiation.start server_config)))
        (new_end Server)) (reads-back 0 (negotiation.start server_config) back.greeting
        ∙ ap Calls (start-is server_config))

-- what an application decides in the handshake

abbrev holds_start : Phase → Bool
holds_start (Handshake HoldsStart) = true
holds_start phase = false

abbrev holds_login : Phase → Bool
holds_login (Handshake HoldsLogin) = true
holds_login phase = false

abbrev holds_open : Phase → Bool
holds_open (Handshake HoldsOpen) = true
holds_open phase = false

client-answers : (client_config : Config Client) (server_config : Config Server) {client server : Footing}
    {to_server to_client : List Signal} → Together client_config server_config client server to_server to_client
    → holds_start client.phase ≡ true → (args : List Argument) → (is_shut server.phase ≡ false)
    × Together client_config server_config (at (Handshake AwaitsTune) client.agreed) server
    (to_server ++ Says (StartOk args) ∷ []) to_client
client-answers client_config server_config start_held e args = (refl, answered args)
client-answers client_config server_config together e args = absurd (false≢true e)

server-admits : (client_config : Config Client) (server_config : Config Server) {client server : Footing}
    {to_server to_client : List Signal} → Together client_config server_config client server to_server to_client
    → holds_login server.phase ≡ true → (is_shut client.phase ≡ false)
    × Together client_config server_config client (at (Handshake AwaitsTuneOk) server.agreed) to_server
    (to_client ++ Says (Tune server_config.channel_max server_config.frame_max server_config.heartbeat) ∷ [])
server-admits client_config server_config (login_held gate) e = (refl, tuned)
server-admits client_config server_config together e = absurd (false≢true e)

-- at an open the client is early
server-opens : (client_config : Config Client) (server_config : Config Server) {client server : Footing}
    {to_server to_client : List Signal} → Together client_config server_config client server to_server to_client
    → holds_open server.phase ≡ true → (is_shut client.phase ≡ false)
    × Together client_config server_config client (at Running server.agreed) to_server
    (to_client ++ Says OpenOk ∷ [])
server-opens client_config server_config open_held e = (refl, opened none)
server-opens client_config server_config together e = absurd (false≢true e)

server-refuses : (client_config : Config Client) (server_config : Config Server) {client server : Footing}
    {to_server to_client : List Signal} → Together client_config server_config client server to_server to_client
    → (holds_login server.phase || holds_open server.phase) ≡ true
    → (code : ℕ) (text : List ℕ) (cause : Cause) → (is_shut client.phase ≡ false)
    × Together client_config server_config client (at Phase.Closing server.agreed) to_server
    (to_client ++ Says (Close code text cause) ∷ [])
server-refuses client_config server_config (login_held gate) e code text cause =
    (refl, login_refused gate code text cause)
server-refuses client_config server_config open_held e code text cause = (refl, open_refused code text cause)
server-refuses client_config server_config together e code text cause = absurd (false≢true e)

shaking-early : (f : Footing) (step : HandshakeStep) → f.phase ≡ Handshake step → is_early f ≡ true
shaking-early f step e = ap (λ p. shakes_hands p || is_none f.agreed) e

client-decides : (client_config : Config Client) (server_config : Config Server) → ConfigWrites client_config
    → ConfigWrites server_config → WritesReadBack Client client_config
    → (client server : History) (frames : List Frame)
    → StandsFor Client client_config false (end_from Client client_config false client) client
    → Joined Client client_config server_config client server
    → Decided Client client_config client (then_put frames client)
    → Joined Client client_config server_config (then_put frames client) server
client-decides client_config server_config client_writes server_writes back client server frames stands j
    (beaten runs x) =
    beats-joined Client client_config server_config client_writes server_writes back client
    server stands j frames runs x
client-decides client_config server_config client_writes server_writes back client server frames
    stands j (starts args holds x) =
    let t = client-answers client_config server_config j.together (ap holds_start holds) args in
    speaks-joined Client client_config server_config client_writes server_writes back client server stands j frames
    (Says (StartOk args)) _ x
    (λ e. inl (shaking-early (footing_of (end_from Client client_config false client)) HoldsStart holds)) refl t.0 t.1

server-decides : (client_config : Config Client) (server_config : Config Server) → ConfigWrites client_config
    → ConfigWrites server_config → WritesReadBack Server server_config
    → (server client : History) (frames : List Frame)
    → StandsFor Server server_config false (end_from Server server_config false server) server
    → Joined Server client_config server_config server client
    → Decided Server server_config server (then_put frames server)
    → Joined Server client_config server_config (then_put frames server) client
server-decides client_config server_config client_writes server_writes back server client frames stands j
    (beaten runs x) =
    beats-joined Server client_config server_config client_writes server_writes back server
    client stands j frames runs x
server-decides client_config server_config client_writes server_writes back server client frames
    stands j (logs_in holds x) =
    let t = server-admits client_config server_config j.together (ap holds_login holds) in
    speaks-joined Server client_config server_config client_writes server_writes back server client stands j frames
    (Says (Tune server_config.channel_max server_config.frame_max server_config.heartbeat)) _ x
    (λ e. inl (shaking-early (footing_of (end_from Server server_config false server)) HoldsLogin holds)) refl t.0 t.1
server-decides client_config server_config client_writes server_writes back server client frames
    stands j (opens holds x) =
    let t = server-opens client_config server_config j.together (ap holds_open holds) in
    speaks-joined Server client_config server_config client_writes server_writes back server client stands j frames
    (Says OpenOk) _ x
    (λ e. inl (shaking-early (footing_of (end_from Server server_config false server)) HoldsOpen holds)) refl t.0 t.1
server-decides client_config server_config client_writes server_writes back server client frames stands j
    (turns_away code text cause holds x) =
    let t = server-refuses client_config server_config j.together (either holds) code text cause in
    speaks-joined Server client_config server_config client_writes server_writes back server client stands j frames
    (Says (Close code text cause)) _ x (λ e. inl (early holds)) refl t.0 t.1
  where
    either : {phase : Phase} → (phase ≡ Handshake HoldsLogin) ⊎ (phase ≡ Handshake HoldsOpen)
        → (holds_login phase || holds_open phase) ≡ true
    either (inl e) = ap (λ p. holds_login p || holds_open p) e
    either (inr e) = ap (λ p. holds_login p || holds_open p) e

    early : ((end_from Server server_config false server).phase ≡ Handshake HoldsLogin)
        ⊎ ((end_from Server server_config false server).phase ≡ Handshake HoldsOpen)
        → is_early (footing_of (end_from Server server_config false server)) ≡ true
    early (inl e) = shaking-early (footing_of (end_from Server server_config false server)) HoldsLogin e
    early (inr e) = shaking-early (footing_of (end_from Server server_config false server)) HoldsOpen e

-- any step
client-goes-joined : (client_config : Config Client) (server_config : Config Server) → ConfigWrites client_config
    → ConfigWrites server_config → WritesReadBack Client client_config
    → (client server : History) (taken : Option Frame) (after : History)
    → StandsFor Client client_config false (end_from Client client_config false client) client
    → Joined Client client_config server_config client server → AllComeNext server client taken
    → Goes Client client_config client taken false after → Joined Client client_config server_config after server
client-goes-joined client_config server_config client_writes server_writes back client server taken after stands j next
    (takes frame can g) =
    takes-joined Client client_config server_config client_writes server_writes back client server stands j frame next g
client-goes-joined client_config server_config client_writes server_writes back client server taken after stands j next
    (asks ask frames made read e) =
    let x = asked Client client_config client stands ask frames made read.method e in
    asks-joined Client client_config server_config client_writes server_writes back client
    server stands j frames x.0 x.1
client-goes-joined client_config server_config client_writes server_writes back client server taken after stands j next
    (controls control frames read e) =
    client-decides client_config server_config client_writes server_writes back client server frames stands j
    (decided Client client_config client control frames stands back read e)

server-goes-joined : (client_config : Config Client) (server_config : Config Server) → ConfigWrites client_config
    → ConfigWrites server_config → WritesReadBack Server server_config
    → (server client : History) (taken : Option Frame) (after : History)
    → StandsFor Server server_config false (end_from Server server_config false server) server
    → Joined Server client_config server_config server client → AllComeNext client server taken
    → Goes Server server_config server taken false after → Joined Server client_config server_config after client
server-goes-joined client_config server_config client_writes server_writes back server client taken after stands j next
    greets =
    greets-joined client_config server_config back client j
server-goes-joined client_config server_config client_writes server_writes back server client taken after stands j next
    (takes frame can g) =
    takes-joined Server client_config server_config client_writes server_writes back server client stands j frame next g
server-goes-joined client_config server_config client_writes server_writes back server client taken after stands j next
    (asks ask frames made read e) =
    let x = asked Server server_config server stands ask frames made read.method e in
    asks-joined Server client_config server_config client_writes server_writes back server
    client stands j frames x.0 x.1
server-goes-joined client_config server_config client_writes server_writes back server client taken after stands j next
    (controls control frames read e) =
    server-decides client_config server_config client_writes server_writes back server client frames stands j
    (decided Server server_config server control frames stands back read e)

-- two new ends
new-joined : (client_config : Config Client) (server_config : Config Server)
    → Joined Client client_config server_config [] []
new-joined client_config server_config = record {
  due = [];
  sent = [];
  together = new;
  due_is = refl;
  sent_is = refl;
  due_read = tt;
  sent_read = tt;
  early = λ e n. record {
    mine_none = refl;
    theirs_none = refl;
    mine_free = free Client client_config n;
    theirs_free = free Server server_config n;
  };
  mine_over = λ e. absurd (false≢true e);
  theirs_over = λ e. absurd (false≢true e);
}
  where
    free : (role : Role) (config : Config role) (n : ℕ)
        → (end_from role config false []).channels n ≡ channels.Free
    free role config n =
        ap (λ (e : End). e.channels n) (end-stands role config (new_end role) [] (new-end-stands role config))

pub pair-joined : (client_config : Config Client) (server_config : Config Server) → ConfigWrites client_config
    → ConfigWrites server_config → WritesReadBack Client client_config → WritesReadBack Server server_config
    → (client server : History) → Pair client_config server_config client server
    → Joined Client client_config server_config client server
pair-joined client_config server_config client_writes server_writes client_back server_back client server both_begin =
    new-joined client_config server_config
pair-joined client_config server_config client_writes server_writes client_back server_back after server
    (client_goes {client = client} {taken = taken} pair next step) =
    client-goes-joined client_config server_config client_writes server_writes client_back client server taken after
    (lawful-stands Client client_config false client client_back
    (pair-lawful client_config server_config client server pair).0)
    (pair-joined client_config server_config client_writes server_writes client_back server_back client server pair)
    next step
pair-joined client_config server_config client_writes server_writes client_back server_back client after
    (server_goes {server = server} {taken = taken} pair next step) =
    let before =
    turned client_config server_config client server
    (pair-joined client_config server_config client_writes server_writes client_back server_back client server pair) in
    turned-back client_config server_config client after
    (server-goes-joined client_config server_config client_writes server_writes server_back server client taken after
    (lawful-stands Server server_config false server server_back
    (pair-lawful client_config server_config client server pair).1) before next step)
