-- Two sides that are joined stay so, whatever is done with them.
use Rattle.std.proofs.Common.{◌≡◌, ◌≢◌, ◌≤◌, ◌<◌, ◌+◌, true, false, ℕ, List, [], ◌++◌, All, length, take, drop, Option, Ok, Err, inl, inr, sym, ap, ◌∙◌, subst, arith, length-append}
use Rattle.std.proofs.Math.Logic.{∥∥₁_elim, ∥∥₁_map, ∥∥₁_map₂, ∥∥₁_prop}
use Rattle.std.proofs.lemmas.Bool.{true≢false}
use Rattle.std.proofs.lemmas.List.{length-take-le, take-append-drop, take-append-le}
use Rattle.amqp_model.specs.Laws.ArrangementLaws.{OutputAfterWrite, WriteLeaves, WrittenThenLeft}
use Rattle.amqp_model.specs.End.Asks.{Ask, Refusal, frames_asked, refused_or_put}
use Rattle.amqp_model.specs.End.Channels.{End, Failed}
use Rattle.amqp_model.specs.End.Controls.{Control}
use Rattle.amqp_model.specs.Output.Departures.{IsOutputOf, PutAs}
use Rattle.amqp_model.specs.Pair.EndsTogether.{AskedStaysPair}
use Rattle.amqp_model.specs.Stream.Endpoint.{Endpoint, Feeding, Found, Outcome, after_feed, after_wrote, new_endpoint}
use Rattle.amqp_model.specs.End.Events.{Fault}
use Rattle.amqp_model.specs.End.Fitting.{ConfigWrites}
use Rattle.amqp_model.specs.Wire.Frame.{Frame}
use Rattle.amqp_model.specs.History.Histories.{History}
use Rattle.amqp_model.specs.End.LawfulHistories.{then_put}
use Rattle.amqp_model.specs.History.Negotiation.{Config}
use Rattle.amqp_model.specs.Wire.Notes.{Role, Client, Server, other_end}
use Rattle.amqp_model.specs.Laws.ControlLaws.{ControlledStaysPair}
use Rattle.amqp_model.specs.Laws.OctetLaws.{EndpointStandsFor, IsOctet, NewStands, WroteFollows}
use Rattle.amqp_model.specs.Stream.Octets.{frames_put, opening_read, opening_written}
use Rattle.amqp_model.specs.Pair.OctetsInFlight.{IsFedNext}
use Rattle.amqp_model.specs.Output.Outputs.{output_octets}
use Rattle.amqp_model.specs.Pair.Pairs.{NewEndsPair, config_of}
use Rattle.amqp_core.specs.Faults.Answering.{Reports, is_out_of_memory}
use Rattle.amqp_core.specs.Asks.Controlled.{frames_by, refusal_by}
use Rattle.amqp_core.specs.Asks.Controlling.{verdict_at}
use Rattle.amqp_core.specs.End.Feeding.{IsFed}
use Rattle.amqp_core.specs.Traced.Tracing.{IsTraceOf, Kept, SameLists, TraceGrows}
use Rattle.amqp_core.specs.declared.taken.Taken.{Taken}
use Rattle.amqp_core.specs.declared.faults.CoreFault.{CoreFault}
use Rattle.amqp_core.specs.declared.faults.CoreFault.TheVariants as core
use Rattle.amqp_link.specs.JoinLaws.{JoinLaws, BothJoinLaws}
use Rattle.amqp_link.specs.Joined.{AreJoined, IsJoinedTo, StandsAt}
use Rattle.amqp_link.specs.SeatSteps.{AcceptsBy, AcceptsControlBy, Answer, FedBy, HandsOver, IsNew, SideAccepts, SideAcceptsControl, SideAnswers, SideAsked, SideControlled, SideDropped, SideDrops, SideFed, WroteBy, feeding_of, piece_of, refusal_at, to_write, verdict_by}
use Rattle.amqp_link.specs.Seats.{Seated}
use Rattle.amqp_link.specs.declared.faults.LinkFault.TheVariants as faults

-- the configuration of an end can be written
writes-of : (role : Role) (client_config : Config Client) (server_config : Config Server) → ConfigWrites client_config → ConfigWrites server_config → ConfigWrites (config_of role client_config server_config)
writes-of Client client_config server_config client server = client
writes-of Server client_config server_config client server = server

-- what is fed next of what the other has to write
pub fed-next : (role : Role) (client_config : Config Client) (server_config : Config Server) (mine theirs : Seated) (piece rest : List ℕ) → JoinLaws role client_config server_config
    → (j : AreJoined role client_config server_config mine theirs) → mine.dropped ≡ false → output_octets theirs.kept.endpoint.output ≡ piece ++ rest → piece ≢ [] → All IsOctet piece
    → IsFedNext role client_config server_config j.my_history j.their_history mine.kept.endpoint mine.kept.fed mine.kept.written piece rest
fed-next role client_config server_config mine theirs piece rest laws j there output some are_octets =
    let writes = writes-of (other_end role) client_config server_config j.pair.client_writes j.pair.server_writes in
    let put : PutAs (opening_written (other_end role)) (theirs.kept.written ++ output_octets theirs.kept.endpoint.output) (frames_put j.their_history) =
    laws.put_as j.their_history (opening_written (other_end role)) theirs.kept.written theirs.kept.endpoint.output (laws.reads_back writes) j.theirs_stands.lawful j.theirs_stands.output in
    let here : PutAs (opening_read role) (mine.kept.fed ++ (piece ++ rest)) (frames_put j.their_history) =
    subst (λ l. PutAs l (mine.kept.fed ++ (piece ++ rest)) (frames_put j.their_history)) laws.openings
    (subst (λ l. PutAs (opening_written (other_end role)) l (frames_put j.their_history)) (ap (λ l. l ++ output_octets theirs.kept.endpoint.output) (sym j.to_mine) ∙ ap (λ l. mine.kept.fed ++ l) output) put) in
    record { pair = j.pair; stands = j.mine_stands.stands there; put_as = here; are_octets = are_octets; some = some }

-- so many octets of a side's output were written
stands-wrote : (role : Role) (config : Config role) (old new : Seated) (history : History) (count : ℕ)
    → ((endpoint : Endpoint) (fed written : List ℕ) → WroteFollows role config endpoint history fed written count) → OutputAfterWrite → WriteLeaves
    → WroteBy (role, config) count old new → count ≤ length (to_write old) → StandsAt role config old history
    → StandsAt role config new history
stands-wrote role config old new history count wrote output leaves is within stands =
    let written = leaves count old.kept.endpoint.output within in
    let out = output (opening_written role) (frames_put history) old.kept.written count old.kept.endpoint.output _ stands.output written in
    record {
      lawful = stands.lawful;
      trace = is.history history stands.trace;
      output = subst (λ (e : Endpoint). IsOutputOf (opening_written role) (frames_put history) new.kept.written e.output) (sym is.endpoint)
          (subst (λ w. IsOutputOf (opening_written role) (frames_put history) w (after_wrote count old.kept.endpoint).output) (sym is.written) out);
      stands = λ there.
          subst (λ (e : Endpoint). EndpointStandsFor role config e history new.kept.fed new.kept.written) (sym is.endpoint)
          (subst (λ f. EndpointStandsFor role config (after_wrote count old.kept.endpoint) history f new.kept.written) (sym is.fed)
          (subst (λ w. EndpointStandsFor role config (after_wrote count old.kept.endpoint) history old.kept.fed w) (sym is.written)
          (wrote old.kept.endpoint old.kept.fed old.kept.written (stands.stands (sym is.dropped ∙ there)) within)));
    }

-- what is left to write, by its length
pub left-to-write : (set_up : (role : Role) × Config role) (count : ℕ) (old new : Seated) → WriteLeaves → WrittenThenLeft → count ≤ length (to_write old) → WroteBy set_up count old new
    → length (to_write new) + count ≡ length (to_write old)
left-to-write set_up count old new leaves left within is =
    let parts : take count (to_write old) ++ to_write new ≡ to_write old =
    ap (λ (e : Endpoint). take count (to_write old) ++ output_octets e.output) is.endpoint
    ∙ left count old.kept.endpoint.output _ (leaves count old.kept.endpoint.output within) in
    let lengths = sym (length-append (take count (to_write old)) (to_write new)) ∙ ap length parts in
    let front = length-take-le count (to_write old) within in
    omega (arith, lengths, front)

-- A piece was fed to one side, which took octets of it, and the other has written these.
joined-fed : (role : Role) (client_config : Config Client) (server_config : Config Server) (octets : ℕ) (taken : Taken) (theirs mine wrote new : Seated) → JoinLaws role client_config server_config
    → (j : AreJoined role client_config server_config mine theirs) → mine.dropped ≡ false → new.dropped ≡ false → 0 < octets → octets ≤ length (to_write theirs) → All IsOctet (piece_of octets theirs)
    → FedBy (role, config_of role client_config server_config) (piece_of octets theirs) (Ok taken) mine new
    → WroteBy (other_end role, config_of (other_end role) client_config server_config) taken.octets theirs wrote
    → ∥ AreJoined role client_config server_config new wrote ∥₁
joined-fed role client_config server_config octets taken theirs mine wrote new laws j was_there is_there many within are_octets reads is =
    ∥∥₁_map (reads.history j.my_history j.mine_stands.trace) then
  where
    config : Config role
    config = config_of role client_config server_config

    piece : List ℕ
    piece = piece_of octets theirs

    rest : List ℕ
    rest = drop octets (to_write theirs)

    output : to_write theirs ≡ piece ++ rest
    output = sym (take-append-drop octets (to_write theirs))

    some : piece ≢ []
    some none =
        let long = length-take-le octets (to_write theirs) within in
        let short = ap length none in
        omega (arith, long, short, many)

    feeding : Feeding
    feeding = after_feed role config mine.kept.endpoint piece

    next : IsFedNext role client_config server_config j.my_history j.their_history mine.kept.endpoint mine.kept.fed mine.kept.written piece rest
    next = fed-next role client_config server_config mine theirs piece rest laws j was_there output some are_octets

    count : taken.octets ≡ feeding.taken
    count = reads.fed.taken

    running : new.kept.endpoint.end.phase ≢ Failed
    running failed =
        let on = laws.feeds j.my_history j.their_history mine.kept.endpoint mine.kept.fed mine.kept.written piece rest next in
        laws.not_yet feeding.endpoint.end on.after on.stands.stands (reads.fed.left.end.phase ∙ failed)

    enough : taken.octets ≤ length (to_write theirs)
    enough =
        let most = laws.within mine.kept.endpoint piece in
        let all : length (to_write theirs) ≡ length piece + length rest = ap length output ∙ length-append piece rest in
        omega (arith, most, all, count)

    same : take taken.octets (to_write theirs) ≡ take feeding.taken piece
    same = ap (λ l. take taken.octets l) output ∙ (ap (λ n. take n (piece ++ rest)) count ∙ take-append-le feeding.taken piece rest (laws.within mine.kept.endpoint piece))

    then : TraceGrows role config mine.kept.endpoint piece feeding j.my_history new.kept → AreJoined role client_config server_config new wrote
    then grown =
        let stands = laws.stand new.kept grown.after grown.trace running in
        record {
          my_history = grown.after;
          their_history = j.their_history;
          pair = laws.grown j.my_history j.their_history mine.kept.endpoint mine.kept.fed mine.kept.written piece rest grown.after next grown.grows;
          mine_stands = record { lawful = stands.lawful; trace = grown.trace; output = stands.out; stands = λ e. stands };
          theirs_stands = stands-wrote (other_end role) (config_of (other_end role) client_config server_config) theirs wrote j.their_history taken.octets
              (λ endpoint f w. laws.wrote endpoint j.their_history f w taken.octets) laws.output laws.leaves is enough j.theirs_stands;
          to_mine = reads.octets_are.0 ∙ (ap (λ l. l ++ take feeding.taken piece) j.to_mine ∙ (ap (λ l. theirs.kept.written ++ l) (sym same) ∙ sym is.written));
          to_theirs = is.fed ∙ (j.to_theirs ∙ sym reads.octets_are.1);
        }

-- Memory was refused to the reader, which is dropped.
joined-out : (role : Role) (client_config : Config Client) (server_config : Config Server) (octets : ℕ) (theirs mine new : Seated)
    → (j : AreJoined role client_config server_config mine theirs) → new.dropped ≡ true
    → FedBy (role, config_of role client_config server_config) (piece_of octets theirs) (Err core.OutOfMemory) mine new
    → ∥ AreJoined role client_config server_config new theirs ∥₁
joined-out role client_config server_config octets theirs mine new j dropped reads =
    let lists : SameLists mine.kept new.kept = reads.octets_are in
    ∥∥₁_map (reads.history j.my_history j.mine_stands.trace) (λ trace. record {
      my_history = j.my_history;
      their_history = j.their_history;
      pair = j.pair;
      mine_stands = record {
        lawful = j.mine_stands.lawful;
        trace = trace;
        output = subst (λ w. IsOutputOf (opening_written role) (frames_put j.my_history) w new.kept.endpoint.output) lists.written
            (subst (λ o. IsOutputOf (opening_written role) (frames_put j.my_history) mine.kept.written o) reads.fed.left.output j.mine_stands.output);
        stands = λ there. absurd (true≢false (sym dropped ∙ there));
      };
      theirs_stands = j.theirs_stands;
      to_mine = sym lists.fed ∙ j.to_mine;
      to_theirs = j.to_theirs ∙ lists.written;
    })

-- so much was handed over
pub handed : (role : Role) (octets count : ℕ) (writer reader writer_after reader_after : Seated) → BothJoinLaws → All IsOctet (piece_of octets writer) → 0 < octets → octets ≤ length (to_write writer)
    → IsJoinedTo role reader writer → HandsOver octets count writer reader writer_after reader_after → ∥ IsJoinedTo role reader_after writer_after ∥₁
handed role octets count writer reader writer_after reader_after laws are_octets many within j hands =
    let cc = j.client_config in
    let sc = j.server_config in
    let reads = subst (λ s. FedBy s (piece_of octets writer) (Ok hands.taken) reader reader_after) j.mine_is hands.reads in
    let writes = subst (λ s. WroteBy s hands.taken.octets writer writer_after) j.theirs_is (subst (λ n. WroteBy writer.set_up n writer writer_after) (sym hands.counted) hands.writes) in
    ∥∥₁_map (joined-fed role cc sc octets hands.taken writer reader writer_after reader_after (laws role cc sc) j.joined hands.was_there hands.is_there many within are_octets reads writes)
    (λ joined. record {
      client_config = cc;
      server_config = sc;
      mine_is = hands.reads.set_up_same ∙ j.mine_is;
      theirs_is = hands.writes.set_up_same ∙ j.theirs_is;
      joined = joined;
    })

pub ran-out : (role : Role) (octets : ℕ) (writer reader reader_after : Seated) → IsJoinedTo role reader writer → SideFed octets (Err core.OutOfMemory) writer reader reader_after → reader_after.dropped ≡ true → ∥ IsJoinedTo role reader_after writer ∥₁
ran-out role octets writer reader reader_after j fed dropped =
    let cc = j.client_config in
    let sc = j.server_config in
    let reads = subst (λ s. FedBy s (piece_of octets writer) (Err core.OutOfMemory) reader reader_after) j.mine_is fed in
    ∥∥₁_map (joined-out role cc sc octets writer reader reader_after j.joined dropped reads)
    (λ joined. record {
      client_config = cc;
      server_config = sc;
      mine_is = fed.set_up_same ∙ j.mine_is;
      theirs_is = j.theirs_is;
      joined = joined;
    })

-- A reader of a pair has no fault but that memory ran out.

no-report : (outcome : Outcome) (fault : CoreFault) → ((found : Fault) → outcome ≢ Found found) → is_out_of_memory fault ≡ false → Reports fault outcome → ⊥
no-report outcome (core.Peer code) none memory reports = none _ reports
no-report outcome core.Fatal none memory (inl reports) = none _ reports
no-report outcome core.Fatal none memory (inr reports) = none _ reports
no-report outcome core.OutOfMemory none memory reports = true≢false memory
no-report outcome core.Failed none memory reports = none _ reports
no-report outcome core.Closed none memory reports = none _ reports

pub no-fault : (role : Role) (octets : ℕ) (writer reader : Seated) (fault : CoreFault) (new : Endpoint) → BothJoinLaws → All IsOctet (piece_of octets writer) → 0 < octets → octets ≤ length (to_write writer) → reader.dropped ≡ false
    → IsJoinedTo role reader writer → IsFed (Err fault) reader.kept.endpoint (feeding_of reader.set_up (piece_of octets writer) reader) new → is_out_of_memory fault ≡ false → ⊥
no-fault role octets writer reader fault new laws are_octets many within there j fed memory =
    let cc = j.client_config in
    let sc = j.server_config in
    let piece = piece_of octets writer in
    let rest = drop octets (to_write writer) in
    let law = laws role cc sc in
    let output : to_write writer ≡ piece ++ rest = sym (take-append-drop octets (to_write writer)) in
    let long = length-take-le octets (to_write writer) within in
    let some : piece ≢ [] = λ none. omega (arith, long, ap length none, many) in
    let next = fed-next role cc sc reader writer piece rest law j.joined there output some are_octets in
    let found = law.none j.joined.my_history j.joined.their_history reader.kept.endpoint reader.kept.fed reader.kept.written piece rest next in
    let there = subst (λ (s : (role : Role) × Config role). IsFed (Err fault) reader.kept.endpoint (feeding_of s (piece_of octets writer) reader) new) j.mine_is fed in
    no-report (feeding_of (role, config_of role cc sc) (piece_of octets writer) reader).outcome fault found memory there.answer

-- The other way round.

turned-as : (role : Role) (client_config : Config Client) (server_config : Config Server) (mine theirs : Seated)
    → mine.set_up ≡ (role, config_of role client_config server_config) → theirs.set_up ≡ (other_end role, config_of (other_end role) client_config server_config)
    → AreJoined role client_config server_config mine theirs → IsJoinedTo (other_end role) theirs mine
turned-as Client client_config server_config mine theirs mine_is theirs_is j = record {
  client_config = client_config;
  server_config = server_config;
  mine_is = theirs_is;
  theirs_is = mine_is;
  joined = record {
    my_history = j.their_history;
    their_history = j.my_history;
    pair = record { client_writes = j.pair.client_writes; server_writes = j.pair.server_writes; pair = j.pair.pair };
    mine_stands = j.theirs_stands;
    theirs_stands = j.mine_stands;
    to_mine = j.to_theirs;
    to_theirs = j.to_mine;
  };
}
turned-as Server client_config server_config mine theirs mine_is theirs_is j = record {
  client_config = client_config;
  server_config = server_config;
  mine_is = theirs_is;
  theirs_is = mine_is;
  joined = record {
    my_history = j.their_history;
    their_history = j.my_history;
    pair = record { client_writes = j.pair.client_writes; server_writes = j.pair.server_writes; pair = j.pair.pair };
    mine_stands = j.theirs_stands;
    theirs_stands = j.mine_stands;
    to_mine = j.to_theirs;
    to_theirs = j.to_mine;
  };
}

pub turned : (role : Role) (mine theirs : Seated) → IsJoinedTo role mine theirs → IsJoinedTo (other_end role) theirs mine
turned role mine theirs j = turned-as role j.client_config j.server_config mine theirs j.mine_is j.theirs_is j.joined

pub turned-there : (role : Role) (mine theirs : Seated) → ∥ IsJoinedTo role mine theirs ∥₁ → ∥ IsJoinedTo (other_end role) theirs mine ∥₁
turned-there role mine theirs there = ∥∥₁_map there (λ j. turned role mine theirs j)

-- An ask.

joined-accepts : (role : Role) (client_config : Config Client) (server_config : Config Server) (ask : Ask) (mine theirs new : Seated)
    → ((mine theirs : History) (end : End) (frames : List Frame) → AskedStaysPair role client_config server_config mine theirs end ask frames)
    → (j : AreJoined role client_config server_config mine theirs) → AcceptsBy (role, config_of role client_config server_config) ask mine new
    → ∥ AreJoined role client_config server_config new theirs ∥₁
joined-accepts role client_config server_config ask mine theirs new stays j accepts =
    let end = mine.kept.endpoint.end in
    let frames = frames_asked end ask in
    let stood = j.mine_stands.stands accepts.was_there in
    let follows = accepts.accepts.follows j.my_history mine.kept.fed mine.kept.written stood in
    let stands : EndpointStandsFor role (config_of role client_config server_config) new.kept.endpoint (then_put frames j.my_history) new.kept.fed new.kept.written =
    subst (λ f. EndpointStandsFor role (config_of role client_config server_config) new.kept.endpoint (then_put frames j.my_history) f new.kept.written) (sym accepts.fed)
    (subst (λ w. EndpointStandsFor role (config_of role client_config server_config) new.kept.endpoint (then_put frames j.my_history) mine.kept.fed w) (sym accepts.written) follows) in
    ∥∥₁_map (accepts.history j.my_history j.mine_stands.trace) (λ trace. record {
      my_history = then_put frames j.my_history;
      their_history = j.their_history;
      pair = stays j.my_history j.their_history end frames j.pair stood.stands accepts.accepts.reads_back accepts.accepts.made (ap (λ r. refused_or_put r frames) accepts.accepts.allowed);
      mine_stands = record { lawful = stands.lawful; trace = trace; output = stands.out; stands = λ e. stands };
      theirs_stands = j.theirs_stands;
      to_mine = accepts.fed ∙ j.to_mine;
      to_theirs = j.to_theirs ∙ sym accepts.written;
    })

abbrev pub AskLaw : Type 0
AskLaw = (role : Role) (client_config : Config Client) (server_config : Config Server) (mine theirs : History) (end : End) (ask : Ask) (frames : List Frame) → AskedStaysPair role client_config server_config mine theirs end ask frames

accepted : (role : Role) (ask : Ask) (mine theirs new : Seated) → AskLaw → IsJoinedTo role mine theirs → SideAccepts ask mine new → ∥ IsJoinedTo role new theirs ∥₁
accepted role ask mine theirs new law j accepts =
    let cc = j.client_config in
    let sc = j.server_config in
    ∥∥₁_map (joined-accepts role cc sc ask mine theirs new (λ m t e f. law role cc sc m t e ask f) j.joined (subst (λ s. AcceptsBy s ask mine new) j.mine_is accepts))
    (λ joined. record {
      client_config = cc;
      server_config = sc;
      mine_is = accepts.set_up_same ∙ j.mine_is;
      theirs_is = j.theirs_is;
      joined = joined;
    })

same : (role : Role) (mine theirs new : Seated) → IsJoinedTo role mine theirs → new ≡ mine → ∥ IsJoinedTo role new theirs ∥₁
same role mine theirs new j e = ∣ subst (λ s. IsJoinedTo role s theirs) (sym e) j ∣₁

-- by the answer
answered : (role : Role) (refused : Option Refusal) (Accepts : Type 0) (mine theirs new : Seated) (result : Answer) → (Accepts → ∥ IsJoinedTo role new theirs ∥₁) → IsJoinedTo role mine theirs
    → SideAnswers refused Accepts mine result new → ∥ IsJoinedTo role new theirs ∥₁
answered role refused Accepts mine theirs new (Ok done) goes j is = goes is
answered role refused Accepts mine theirs new (Err faults.Dropped) goes j is = same role mine theirs new j is.1
answered role refused Accepts mine theirs new (Err (faults.Ask fault)) goes j is = same role mine theirs new j is.3
answered role refused Accepts mine theirs new (Err faults.OutOfMemory) goes j is = same role mine theirs new j is.2
answered role refused Accepts mine theirs new (Err faults.NoSuchConnection) goes j is = absurd is
answered role refused Accepts mine theirs new (Err faults.NotSoMany) goes j is = absurd is

pub asked : (role : Role) (ask : Ask) (mine theirs new : Seated) (result : Answer) → AskLaw → ∥ IsJoinedTo role mine theirs ∥₁ → SideAsked ask mine result new → ∥ IsJoinedTo role new theirs ∥₁
asked role ask mine theirs new result law joined is =
    ∥∥₁_elim joined ∥∥₁_prop (λ j. answered role (refusal_at mine ask) (SideAccepts ask mine new) mine theirs new result (λ a. accepted role ask mine theirs new law j a) j is)

-- A heartbeat, and what is decided in the handshake.

joined-controls : (role : Role) (client_config : Config Client) (server_config : Config Server) (control : Control) (mine theirs new : Seated)
    → ((mine theirs : History) (end : End) (frames : List Frame) → ControlledStaysPair role client_config server_config mine theirs end control frames)
    → (j : AreJoined role client_config server_config mine theirs) → AcceptsControlBy (role, config_of role client_config server_config) control mine new
    → ∥ AreJoined role client_config server_config new theirs ∥₁
joined-controls role client_config server_config control mine theirs new stays j accepts =
    ∥∥₁_map₂ (accepts.accepts.follows j.my_history mine.kept.fed mine.kept.written stood) (accepts.history j.my_history j.mine_stands.trace) then
  where
    config : Config role
    config = config_of role client_config server_config

    frames : List Frame
    frames = frames_by (verdict_at role config control mine.kept.endpoint)

    after : History
    after = then_put frames j.my_history

    stood : EndpointStandsFor role config mine.kept.endpoint j.my_history mine.kept.fed mine.kept.written
    stood = j.mine_stands.stands accepts.was_there

    then : EndpointStandsFor role config new.kept.endpoint after mine.kept.fed mine.kept.written → IsTraceOf role config new.kept after → AreJoined role client_config server_config new theirs
    then follows trace =
        let stands : EndpointStandsFor role config new.kept.endpoint after new.kept.fed new.kept.written =
        subst (λ f. EndpointStandsFor role config new.kept.endpoint after f new.kept.written) (sym accepts.fed)
        (subst (λ w. EndpointStandsFor role config new.kept.endpoint after mine.kept.fed w) (sym accepts.written) follows) in
        record {
          my_history = after;
          their_history = j.their_history;
          pair = stays j.my_history j.their_history mine.kept.endpoint.end frames j.pair stood.stands accepts.accepts.reads_back accepts.accepts.puts;
          mine_stands = record { lawful = stands.lawful; trace = trace; output = stands.out; stands = λ e. stands };
          theirs_stands = j.theirs_stands;
          to_mine = accepts.fed ∙ j.to_mine;
          to_theirs = j.to_theirs ∙ sym accepts.written;
        }

abbrev pub ControlLaw : Type 0
ControlLaw = (role : Role) (client_config : Config Client) (server_config : Config Server) (mine theirs : History) (end : End) (control : Control) (frames : List Frame)
    → ControlledStaysPair role client_config server_config mine theirs end control frames

control-accepted : (role : Role) (control : Control) (mine theirs new : Seated) → ControlLaw → IsJoinedTo role mine theirs → SideAcceptsControl control mine new → ∥ IsJoinedTo role new theirs ∥₁
control-accepted role control mine theirs new law j accepts =
    let cc = j.client_config in
    let sc = j.server_config in
    ∥∥₁_map (joined-controls role cc sc control mine theirs new (λ m t e f. law role cc sc m t e control f) j.joined (subst (λ s. AcceptsControlBy s control mine new) j.mine_is accepts))
    (λ joined. record {
      client_config = cc;
      server_config = sc;
      mine_is = accepts.set_up_same ∙ j.mine_is;
      theirs_is = j.theirs_is;
      joined = joined;
    })

pub controlled : (role : Role) (control : Control) (mine theirs new : Seated) (result : Answer) → ControlLaw → ∥ IsJoinedTo role mine theirs ∥₁ → SideControlled control mine result new → ∥ IsJoinedTo role new theirs ∥₁
controlled role control mine theirs new result law joined is =
    ∥∥₁_elim joined ∥∥₁_prop (λ j. answered role (refusal_by (verdict_by mine.set_up mine control)) (SideAcceptsControl control mine new) mine theirs new result (λ a. control-accepted role control mine theirs new law j a) j is)

-- A drop.

drops : (role : Role) (mine theirs new : Seated) → IsJoinedTo role mine theirs → SideDrops mine new → IsJoinedTo role new theirs
drops role mine theirs new j is = record {
  client_config = j.client_config;
  server_config = j.server_config;
  mine_is = is.set_up ∙ j.mine_is;
  theirs_is = j.theirs_is;
  joined = record {
    my_history = j.joined.my_history;
    their_history = j.joined.their_history;
    pair = j.joined.pair;
    mine_stands = record {
      lawful = j.joined.mine_stands.lawful;
      trace = subst (λ k. IsTraceOf role (config_of role j.client_config j.server_config) k j.joined.my_history) (sym is.kept) j.joined.mine_stands.trace;
      output = subst (λ (k : Kept). IsOutputOf (opening_written role) (frames_put j.joined.my_history) k.written k.endpoint.output) (sym is.kept) j.joined.mine_stands.output;
      stands = λ there. absurd (true≢false (sym is.is_dropped ∙ there));
    };
    theirs_stands = j.joined.theirs_stands;
    to_mine = ap (λ (k : Kept). k.fed) is.kept ∙ j.joined.to_mine;
    to_theirs = j.joined.to_theirs ∙ sym (ap (λ (k : Kept). k.written) is.kept);
  };
}

dropped-as : (role : Role) (mine theirs new : Seated) (result : Answer) → IsJoinedTo role mine theirs → SideDropped mine result new → ∥ IsJoinedTo role new theirs ∥₁
dropped-as role mine theirs new (Ok done) j is = ∣ drops role mine theirs new j is ∣₁
dropped-as role mine theirs new (Err faults.Dropped) j is = same role mine theirs new j is.1
dropped-as role mine theirs new (Err (faults.Ask fault)) j is = absurd is
dropped-as role mine theirs new (Err faults.OutOfMemory) j is = absurd is
dropped-as role mine theirs new (Err faults.NoSuchConnection) j is = absurd is
dropped-as role mine theirs new (Err faults.NotSoMany) j is = absurd is

pub dropped : (role : Role) (mine theirs new : Seated) (result : Answer) → ∥ IsJoinedTo role mine theirs ∥₁ → SideDropped mine result new → ∥ IsJoinedTo role new theirs ∥₁
dropped role mine theirs new result joined is = ∥∥₁_elim joined ∥∥₁_prop (λ j. dropped-as role mine theirs new result j is)

-- Two new sides.

new-stands : (role : Role) (config : Config role) (seated : Seated) → NewStands role config → IsNew (role, config) seated → StandsAt role config seated []
new-stands role config seated stands is =
    let stood : EndpointStandsFor role config seated.kept.endpoint [] seated.kept.fed seated.kept.written =
    subst (λ e. EndpointStandsFor role config e [] seated.kept.fed seated.kept.written) (sym is.endpoint)
    (subst (λ f. EndpointStandsFor role config (new_endpoint role) [] f seated.kept.written) (sym is.fed)
    (subst (λ w. EndpointStandsFor role config (new_endpoint role) [] [] w) (sym is.written) stands)) in
    record { lawful = stood.lawful; trace = is.trace; output = stood.out; stands = λ e. stood }

pub new-joined : (client_config : Config Client) (server_config : Config Server) (client server : Seated)
    → NewStands Client client_config → NewStands Server server_config → NewEndsPair Client client_config server_config
    → IsNew (Client, client_config) client → IsNew (Server, server_config) server → ∥ ConfigWrites client.set_up.1 ∥₁ → ∥ ConfigWrites server.set_up.1 ∥₁
    → ∥ IsJoinedTo Client client server ∥₁
new-joined client_config server_config client server client_stands server_stands pair client_is server_is client_writes server_writes =
    ∥∥₁_map₂ client_writes server_writes (λ c s. record {
      client_config = client_config;
      server_config = server_config;
      mine_is = client_is.set_up_so;
      theirs_is = server_is.set_up_so;
      joined = record {
        my_history = [];
        their_history = [];
        pair = record {
          client_writes = subst (λ (u : (role : Role) × Config role). ConfigWrites u.1) client_is.set_up_so c;
          server_writes = subst (λ (u : (role : Role) × Config role). ConfigWrites u.1) server_is.set_up_so s;
          pair = pair;
        };
        mine_stands = new-stands Client client_config client client_stands client_is;
        theirs_stands = new-stands Server server_config server server_stands server_is;
        to_mine = client_is.fed ∙ sym server_is.written;
        to_theirs = server_is.fed ∙ sym client_is.written;
      };
    })
