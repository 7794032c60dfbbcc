-- What it keeps stays.
use Rattle.std.proofs.Common.{refl}
use Rattle.amqp_core.specs.End.EndpointView.{unfinished_of}
use Rattle.amqp_core.proofs.TurningLemmas.{turned_by}
use Rattle.amqp_core.proofs.endpoint.Endpoint.gather.Goals as goal

pub returns-clause-view : goal.returns-clause-view
returns-clause-view c = λ i. record { end = c.gather.ensures.end i; unfinished = unfinished_of c.args.self.now.heard c.args.self.now.splitter.pending; output = c.args.self.now.outbox.output }

pub returns-clause-sound : goal.returns-clause-sound
returns-clause-sound c =
    let old = c.args.self.now in
    turned_by c.gather.result old (record { connection = c.gather.new.self; splitter = old.splitter; heard = old.heard; outbox = old.outbox; tally = old.tally }) c.requires c.gather.ensures.settings c.gather.ensures.end refl refl refl
