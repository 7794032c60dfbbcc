-- Two endpoints of one connection stand together, whatever their applications ask and however their octets are cut.
use Rattle.std.proofs.Common.{◌≡◌, ◌≤◌, ◌+◌, false, arith, List, [], ◌++◌, take, length, Option}
use Rattle.std.proofs.Common.{Some, None, refl, sym, ap, ◌∙◌, subst, length-append}
use Rattle.std.proofs.lemmas.List.{take-append-le}
use Rattle.amqp_model.specs.Wire.Frame.{Frame}
use Rattle.amqp_model.specs.Wire.Notes.{Role, Client, Server, other_end}
use Rattle.amqp_model.specs.Output.Departures.{PutAs}
use Rattle.amqp_model.specs.Output.Outputs.{output_octets}
use Rattle.amqp_model.specs.End.Channels.{Agreed, End}
use Rattle.amqp_model.specs.History.Negotiation.{Config}
use Rattle.amqp_model.specs.End.Asks.{Ask}
use Rattle.amqp_model.specs.End.Fitting.{AgreedFits, IfAgreedFits}
use Rattle.amqp_model.specs.Laws.FittingLaws.{MethodReadsBack}
use Rattle.amqp_model.specs.Stream.Octets.{frames_put, opening_read, opening_written}
use Rattle.amqp_model.specs.Pair.Pairs.{config_of}
use Rattle.amqp_model.specs.Stream.Endpoint.{after_feed}
use Rattle.amqp_model.specs.Pair.OctetsInFlight.{IsFedNext}
use Rattle.amqp_model.specs.Pair.EndsTogether.{NewStandTogether, StandTogetherTurned, CarryStandsTogether}
use Rattle.amqp_model.specs.Pair.EndsTogether.{AskStandsTogether, AskedStaysPair}
use Rattle.amqp_model.specs.History.Histories.{History}
use Rattle.amqp_model.proofs.Standing.{end-stands}
use Rattle.amqp_model.proofs.Lawfulness.{end-steps}
use Rattle.amqp_model.proofs.Pairing.{new-ends-pair, step-stays-pair}
use Rattle.amqp_model.proofs.Carrying.{openings-meet}
use Rattle.amqp_model.proofs.PutLast.{octets-put-as}
use Rattle.amqp_model.proofs.OctetAsks.{accepted-follows, wrote-follows, new-stands}
use Rattle.amqp_model.proofs.OctetCuts.{feed-within}
use Rattle.amqp_model.proofs.ReadBackOwed.{all-reads-back}
use Rattle.amqp_model.proofs.ReadBackSizes.{asked-fit}
use Rattle.amqp_model.proofs.Settling.{agreed-within}
use Rattle.amqp_model.proofs.WellPutPairs.{writes-of}
use Rattle.amqp_model.proofs.OctetsInFlight.{finds-no-fault-with-octets, feed-stays-pair}

pub new-stand-together : NewStandTogether
new-stand-together role client_config server_config client server = record {
  my_history = [];
  their_history = [];
  my_fed = [];
  my_written = [];
  their_fed = [];
  their_written = [];
  pair = record {
    client_writes = client;
    server_writes = server;
    pair = new-ends-pair role client_config server_config;
  };
  mine_stands = new-stands role (config_of role client_config server_config);
  theirs_stands = new-stands (other_end role) (config_of (other_end role) client_config server_config);
  to_mine = refl;
  to_theirs = refl;
}

pub stand-together-turned : StandTogetherTurned
stand-together-turned Client client_config server_config mine theirs s = record {
  my_history = s.their_history;
  their_history = s.my_history;
  my_fed = s.their_fed;
  my_written = s.their_written;
  their_fed = s.my_fed;
  their_written = s.my_written;
  pair = record { client_writes = s.pair.client_writes; server_writes = s.pair.server_writes; pair = s.pair.pair };
  mine_stands = s.theirs_stands;
  theirs_stands = s.mine_stands;
  to_mine = s.to_theirs;
  to_theirs = s.to_mine;
}
stand-together-turned Server client_config server_config mine theirs s = record {
  my_history = s.their_history;
  their_history = s.my_history;
  my_fed = s.their_fed;
  my_written = s.their_written;
  their_fed = s.my_fed;
  their_written = s.my_written;
  pair = record { client_writes = s.pair.client_writes; server_writes = s.pair.server_writes; pair = s.pair.pair };
  mine_stands = s.theirs_stands;
  theirs_stands = s.mine_stands;
  to_mine = s.to_theirs;
  to_theirs = s.to_mine;
}

-- what was agreed fits its fields
agreed-fits : (agreed : Option Agreed) → IfAgreedFits agreed → AgreedFits agreed
agreed-fits None fits = record { channel_most = omega arith; frame_most = omega arith }
agreed-fits (Some agreed) fits = record { channel_most = fits.channel_most; frame_most = fits.frame_most }

pub ask-stands-together : (reads : MethodReadsBack) → AskStandsTogether
ask-stands-together reads role client_config server_config mine theirs ask frames s back made e =
    let config = config_of role client_config server_config in
    let writes = writes-of role client_config server_config s.pair.client_writes s.pair.server_writes in
    let same = end-stands role config mine.end s.my_history s.mine_stands.stands in
    let fits = agreed-fits mine.end.agreed
    (subst (λ (x : End). IfAgreedFits x.agreed) same
    (agreed-within reads role config false s.my_history writes s.mine_stands.lawful)) in
    let fit = asked-fit role mine.end ask frames back fits e in
    let step = (end-steps role config mine.end s.my_history s.mine_stands.stands).asks ask frames made back e in
    record {
      my_history = _;
      their_history = s.their_history;
      my_fed = s.my_fed;
      my_written = s.my_written;
      their_fed = s.their_fed;
      their_written = s.their_written;
      pair = record {
        client_writes = s.pair.client_writes;
        server_writes = s.pair.server_writes;
        pair = step-stays-pair role client_config server_config s.my_history s.their_history None _ s.pair.pair tt step;
      };
      mine_stands = accepted-follows role config mine s.my_history s.my_fed s.my_written ask frames s.mine_stands
          (record { reads_back = back; fit = fit }) made e;
      theirs_stands = s.theirs_stands;
      to_mine = s.to_mine;
      to_theirs = s.to_theirs;
    }

pub carry-stands-together : (reads : MethodReadsBack) → CarryStandsTogether
carry-stands-together reads role client_config server_config mine theirs piece rest s output some are_octets =
    let config = config_of role client_config server_config in
    let others = config_of (other_end role) client_config server_config in
    let their_writes =
    writes-of (other_end role) client_config server_config s.pair.client_writes s.pair.server_writes in
    let put : PutAs (opening_written (other_end role)) (s.their_written ++ output_octets theirs.output)
    (frames_put s.their_history) =
    octets-put-as (other_end role) others false s.their_history (opening_written (other_end role)) s.their_written
    theirs.output (all-reads-back reads (other_end role) others their_writes)
    s.theirs_stands.lawful s.theirs_stands.out in
    let put_here : PutAs (opening_read role) (s.my_fed ++ (piece ++ rest)) (frames_put s.their_history) =
    subst (λ l. PutAs l (s.my_fed ++ (piece ++ rest)) (frames_put s.their_history)) (openings-meet role)
    (subst (λ l. PutAs (opening_written (other_end role)) l (frames_put s.their_history))
    (ap (λ l. l ++ output_octets theirs.output) (sym s.to_mine) ∙ ap (λ l. s.my_fed ++ l) output) put) in
    let next : IsFedNext role client_config server_config s.my_history s.their_history mine s.my_fed s.my_written piece
    rest = record { pair = s.pair; stands = s.mine_stands; put_as = put_here; are_octets = are_octets; some = some } in
    let on = feed-stays-pair reads role client_config server_config s.my_history s.their_history mine s.my_fed
    s.my_written piece rest next in
    let n = (after_feed role config mine piece).taken in
    let within : n ≤ length piece = feed-within role config mine piece in
    let all : length (output_octets theirs.output) ≡ length piece + length rest = ap length output
    ∙ length-append piece rest in
    let wrote = wrote-follows (other_end role) others theirs s.their_history s.their_fed s.their_written n
    s.theirs_stands (omega arith) in
    record {
      none = finds-no-fault-with-octets reads role client_config server_config s.my_history s.their_history mine
          s.my_fed s.my_written piece rest next;
      together =
          record {
            my_history = on.after;
            their_history = s.their_history;
            my_fed = s.my_fed ++ take n piece;
            my_written = s.my_written;
            their_fed = s.their_fed;
            their_written = s.their_written ++ take n (output_octets theirs.output);
            pair = record {
              client_writes = s.pair.client_writes;
              server_writes = s.pair.server_writes;
              pair = on.pair;
            };
            mine_stands = on.stands;
            theirs_stands = wrote;
            to_mine = ap (λ l. l ++ take n piece) s.to_mine
                ∙ ap (λ l. s.their_written ++ l) (sym (ap (take n) output ∙ take-append-le n piece rest within));
            to_theirs = s.to_theirs;
          };
    }

-- An ask that is accepted, of the histories alone.
pub asked-stays-pair : (role : Role) (client_config : Config Client) (server_config : Config Server)
    (mine theirs : History) (end : End) (ask : Ask) (frames : List Frame)
    → AskedStaysPair role client_config server_config mine theirs end ask frames
asked-stays-pair role client_config server_config mine theirs end ask frames p stands back made e =
    let step = (end-steps role (config_of role client_config server_config) end mine stands).asks
    ask frames made back e in
    record {
      client_writes = p.client_writes;
      server_writes = p.server_writes;
      pair = step-stays-pair role client_config server_config mine theirs None _ p.pair tt step;
    }
