-- What is left of an end that runs out of memory.
use Rattle.std.proofs.Common.{ℕ, List, refl}
use Rattle.amqp_model.specs.Wire.Notes.{Role}
use Rattle.amqp_model.specs.History.Histories.{History}
use Rattle.amqp_model.specs.History.Negotiation.{Config}
use Rattle.amqp_model.specs.Output.Outputs.{after_writing}
use Rattle.amqp_model.specs.End.LawfulHistories.{goes}
use Rattle.amqp_model.specs.Stream.Octets.{frames_put, opening_written}
use Rattle.amqp_model.specs.Stream.Endpoint.{Endpoint}
use Rattle.amqp_model.specs.Stream.RunningOut.{RunsOut, RanOutWrites, RanOutStays}
use Rattle.amqp_model.proofs.Departing.{output-write}
use Rattle.amqp_model.proofs.Failing.{any-fails}
use Rattle.amqp_model.proofs.Lawfulness.{end-steps}
use Rattle.amqp_model.proofs.OctetCuts.{stays-failed}
use Rattle.amqp_model.proofs.Writing.{writes}

pub runs-out : (role : Role) (config : Config role) (endpoint : Endpoint) (history : History) (fed written : List ℕ)
    → RunsOut role config endpoint history fed written
runs-out role config endpoint history fed written s takes = record {
  failed = refl;
  lawful = goes s.lawful ((end-steps role config endpoint.end history s.stands).fails takes);
  stands = any-fails role config endpoint.end history s.stands;
  read = s.read;
  out = s.out;
}

pub ran-out-writes : (role : Role) (config : Config role) (endpoint : Endpoint) (history : History)
    (fed written : List ℕ) (n : ℕ) → RanOutWrites role config endpoint history fed written n
ran-out-writes role config endpoint history fed written n r within = record {
  failed = r.failed;
  lawful = r.lawful;
  stands = r.stands;
  read = r.read;
  out = output-write (opening_written role) (frames_put history) written n endpoint.output
      (after_writing n endpoint.output) r.out (writes n endpoint.output within);
}

pub ran-out-stays : RanOutStays
ran-out-stays role config endpoint history fed written piece r = stays-failed role config endpoint piece r.failed
