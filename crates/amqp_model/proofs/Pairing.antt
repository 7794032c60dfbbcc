-- Two ends that do as their histories say run on each channel.
use Rattle.std.proofs.Common.{◌≡◌, false, ℕ, suc, List, [], Option, refl}
use Rattle.std.proofs.lemmas.Bool.{ne_eqb}
use Rattle.amqp_method.specs.declared.kinds.Kind.TheVariants as kinds
use Rattle.amqp_model.specs.Wire.Notes.{Role, Client, Server, Note}
use Rattle.amqp_model.specs.Wire.Frame.{Frame}
use Rattle.amqp_model.specs.Pair.Runs.{Acts, RunAt, start, client_acts, server_acts}
use Rattle.amqp_model.specs.Wire.Methods.{same_kind}
use Rattle.amqp_model.specs.History.Histories.{History}
use Rattle.amqp_model.specs.History.Negotiation.{Config, OfServer, Hello}
use Rattle.amqp_model.specs.History.Negotiation as negotiation
use Rattle.amqp_model.specs.End.ReadingBack.{WritesReadBack}
use Rattle.amqp_model.specs.End.LawfulHistories.{Goes, greets, takes, asks, controls, begun, goes}
use Rattle.amqp_model.specs.Laws.EndLaws.{notes_on, ActsOn, rests, acts, VerdictAgrees}
use Rattle.amqp_model.specs.Pair.Pairs.{AllComeNext, both_begin, client_goes, server_goes, NewEndsPair, StepStaysPair}
use Rattle.amqp_model.specs.Pair.Pairs.{BothLawful, RunsOnEach}
use Rattle.amqp_model.proofs.Carrying.{next-noted}
use Rattle.amqp_model.proofs.Agreeing.{frame-agrees}
use Rattle.amqp_model.proofs.Taking.{takes-acts}
use Rattle.amqp_model.specs.End.StateFromHistory.{end_from}
use Rattle.amqp_model.proofs.Asking.{asks-act, zero-acts}
use Rattle.amqp_model.proofs.Controlling.{control-acts, puts-at-zero}

act-at : (role : Role) {mine theirs after : List Note} → RunAt role mine theirs → Acts role theirs mine after
    → RunAt role after theirs
act-at Client run act = client_acts run act
act-at Server run act = server_acts run act

acts-at : (role : Role) {theirs mine after : List Note} → RunAt role mine theirs → ActsOn role theirs mine after
    → RunAt role after theirs
acts-at role run rests = run
acts-at role run (acts act later) = acts-at role (act-at role run act) later

start-quiet : (config : Config Server) → same_kind (negotiation.start config).kind kinds.ConnectionClose ≡ false
start-quiet config = go config.hello
  where
    go : (hello : Hello Server)
        → same_kind (negotiation.start (record config { hello = hello })).kind kinds.ConnectionClose ≡ false
    go (OfServer properties mechanisms locales) = refl

goes-run : {role : Role} {config : Config role} {before after : History} {taken : Option Frame} (theirs : History)
    (n : ℕ) → WritesReadBack role config → AllComeNext theirs before taken
    → Goes role config before taken false after → RunAt role (notes_on (suc n) before) (notes_on (suc n) theirs)
    → RunAt role (notes_on (suc n) after) (notes_on (suc n) theirs)
goes-run {config} theirs n back next greets run =
    acts-at Server run
    (zero-acts Server (notes_on (suc n) theirs) [] n (negotiation.start config) back.greeting (start-quiet config))
goes-run {role} {config} {before} theirs n back next (takes frame p g) run =
    acts-at role run (takes-acts role config before frame n (notes_on (suc n) theirs) back g
    (next-noted theirs before frame n next))
goes-run {role} {config} {before} theirs n back next (asks ask frames made read e) run =
    acts-at role run (asks-act role config before ask frames n (notes_on (suc n) theirs) read.method made e)
goes-run {role} {config} {before} theirs n back next (controls control frames read e) run =
    acts-at role run (control-acts role (notes_on (suc n) theirs) before n frames
    (puts-at-zero role config (end_from role config false before) control frames back read e))

pub pair-runs : RunsOnEach
pair-runs client_config server_config client server mine theirs both_begin n = start
pair-runs client_config server_config after server mine theirs (client_goes {client = client} pair next step) n =
    goes-run server n mine next step (pair-runs client_config server_config client server mine theirs pair n)
pair-runs client_config server_config client after mine theirs (server_goes {server = server} pair next step) n =
    goes-run client n theirs next step (pair-runs client_config server_config client server mine theirs pair n)

pub new-ends-pair : (role : Role) (client_config : Config Client) (server_config : Config Server)
    → NewEndsPair role client_config server_config
new-ends-pair Client client_config server_config = both_begin
new-ends-pair Server client_config server_config = both_begin

pub step-stays-pair : StepStaysPair
step-stays-pair Client client_config server_config mine theirs taken after pair next step = client_goes pair next step
step-stays-pair Server client_config server_config mine theirs taken after pair next step = server_goes pair next step

-- each of the two histories is lawful
pub pair-lawful : BothLawful
pair-lawful client_config server_config client server both_begin = (begun, begun)
pair-lawful client_config server_config after server (client_goes {client = client} pair next step) =
    let both = pair-lawful client_config server_config client server pair in
    (goes both.0 step, both.1)
pair-lawful client_config server_config client after (server_goes {server = server} pair next step) =
    let both = pair-lawful client_config server_config client server pair in
    (both.0, goes both.1 step)

-- the verdict on a frame of a channel above 0 agrees with the lives
pub agrees-with-lives : VerdictAgrees
agrees-with-lives role facts reading stays above g =
    frame-agrees facts.config facts.phase facts.agreed facts.number facts.channel stays
    (ne_eqb facts.number 0 above) reading g
