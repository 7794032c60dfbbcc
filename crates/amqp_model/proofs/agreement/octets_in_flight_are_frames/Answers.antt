-- Each clause is a lemma on pairs and octets.
use Rattle.amqp_model.proofs.OctetsInFlight.{in-flight, items-waiting}
use Rattle.amqp_model.proofs.agreement.octets_in_flight_are_frames.Goals as goal

pub returns-clause-frames : goal.returns-clause-frames
returns-clause-frames c = in-flight

pub returns-clause-items : goal.returns-clause-items
returns-clause-items c = items-waiting c.written_reads_back.ensures.method
