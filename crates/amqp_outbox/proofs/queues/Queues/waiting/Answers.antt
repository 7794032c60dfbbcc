use Rattle.std.proofs.Common.{List, length, sym, ap, ◌∙◌, arith}
use Rattle.amqp_frame.specs.Splitting.{stream}
use Rattle.amqp_outbox.specs.PiecesQueues.{on_channels, row_of_queues}
use Rattle.amqp_outbox.specs.declared.queues.Queue.{Queue}
use Rattle.amqp_outbox.proofs.PiecesWaiting.{octets_on, waiting-zero, waiting-above, row-length}
use Rattle.amqp_outbox.proofs.queues.Queues.waiting.Goals as goal

pub length_of-requires-clause-fits : goal.length_of-requires-clause-fits
length_of-requires-clause-fits c =
    let r = row-length c.requires.fits.0 c.args.self.now in
    let f = c.requires.fits.1 in
    omega arith

pub length_of-requires-then-channel-eq0-clause-fits : goal.length_of-requires-then-channel-eq0-clause-fits
length_of-requires-then-channel-eq0-clause-fits c =
    let r = row-length c.requires.fits.0 c.args.self.now in
    let f = c.requires.fits.1 in
    omega arith

pub overflow_add-result : goal.overflow_add-result
overflow_add-result c =
    let r = row-length c.requires.fits.0 c.args.self.now in
    let f = c.requires.fits.1 in
    let a = c.length_of.ensures in
    let b = c.length_of-then-channel-eq0.ensures in
    omega arith

pub returns-then-channel-eq0 : goal.returns-then-channel-eq0
returns-then-channel-eq0 c last =
    let w = waiting-zero last c.args.self.now c.requires.sound in
    let e = ap (λ n. octets_on n (row_of_queues last c.args.self.now)) c.if-channel-eq0.true in
    let a = c.length_of.ensures in
    let b = c.length_of-then-channel-eq0.ensures in
    omega arith

pub length_on-requires-clause-fits : goal.length_on-requires-clause-fits
length_on-requires-clause-fits c =
    let r = row-length c.requires.fits.0 c.args.self.now in
    let f = c.requires.fits.1 in
    let e = ap (λ (qs : List Queue). length (stream (on_channels qs))) c.deref.ensures.value in
    omega arith

pub returns : goal.returns
returns c last =
    let other = c.if-channel-eq0.false in
    c.length_on.ensures ∙ (ap (λ (qs : List Queue). octets_on c.args.channel (on_channels qs)) c.deref.ensures.value ∙ sym (waiting-above c.args.channel last c.args.self.now c.requires.sound (omega arith)))
