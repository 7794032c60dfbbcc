-- What it keeps stays.
use Rattle.std.proofs.Common.{true, refl}
use Rattle.amqp_core.specs.End.EndpointView.{unfinished_of}
use Rattle.amqp_core.proofs.TurningLemmas.{turned_sound}
use Rattle.amqp_core.proofs.endpoint.Endpoint.lend.Goals as goal

pub returns-clause-view : goal.returns-clause-view
returns-clause-view c = λ i. record { end = c.lend.ensures.end i; unfinished = unfinished_of c.args.self.now.heard c.args.self.now.splitter.pending; output = c.args.self.now.outbox.output }

pub returns-clause-sound : goal.returns-clause-sound
returns-clause-sound c =
    let old = c.args.self.now in
    turned_sound true old (record { connection = c.lend.new.self; splitter = old.splitter; heard = old.heard; outbox = old.outbox; tally = old.tally }) c.requires c.lend.ensures.settings c.lend.ensures.end refl refl refl
