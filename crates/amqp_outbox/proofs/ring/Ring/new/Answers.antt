use Rattle.std.proofs.Common.{refl}
use Rattle.std.proofs.lemmas.List.{take_rest}
use Rattle.amqp_outbox.proofs.PiecesBegun.{round-begun, row-begun}
use Rattle.amqp_outbox.proofs.ring.Ring.new.Goals as goal

pub returns-clause-round : goal.returns-clause-round
returns-clause-round c =
    round-begun c.args.last c.count_up_to-first.result c.args.queues.now _ (take_rest c.args.queues.now c.count_up_to-first.result) refl refl refl refl refl
    c.ranges.last.fits c.requires.sound c.requires.ascends c.count_up_to-first.ensures.up_to c.count_up_to-first.ensures.after

pub returns-clause-row : goal.returns-clause-row
returns-clause-row c =
    row-begun c.one_row.ensures.one c.one_row.ensures.made c.args.last c.count_up_to-first.result c.args.queues.now _ _ (take_rest c.args.queues.now c.count_up_to-first.result) refl
    c.ranges.last.fits c.requires.sound c.count_up_to-first.ensures.up_to c.count_up_to-first.ensures.after
