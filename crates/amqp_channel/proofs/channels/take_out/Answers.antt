-- What is taken out was Free, so all channels are as they were.
use Rattle.std.proofs.Common.{ap}
use Rattle.amqp_channel.specs.Channels.Used.{is_lent_there}
use Rattle.amqp_channel.proofs.AmountLemmas.{taken_out}
use Rattle.amqp_channel.proofs.FreeLemmas.{none_left, passed_after, views_after}
use Rattle.amqp_channel.proofs.UnderWayLemmas.{none_lent}
use Rattle.amqp_channel.proofs.channels.take_out.Goals as goal

pub returns-clause-same : goal.returns-clause-same
returns-clause-same c = views_after c.args.used.now c.remove.new.used c.args.number c.requires.above c.requires.free c.remove.ensures

pub returns-clause-gathered : goal.returns-clause-gathered
returns-clause-gathered c =
    taken_out c.args.used.now c.remove.new.used c.args.number c.requires.above c.requires.free c.remove.ensures.here c.remove.ensures.others

pub returns-clause-taken : goal.returns-clause-taken
returns-clause-taken c =
    passed_after c.args.used.now c.remove.new.used c.args.numbers.now c.free.new.self c.args.number c.requires.taken
    (views_after c.args.used.now c.remove.new.used c.args.number c.requires.above c.requires.free c.remove.ensures) c.free.ensures.passed
    c.free.ensures.here

pub returns-clause-none : goal.returns-clause-none
returns-clause-none c = none_left c.args.used.now c.remove.new.used c.args.number c.remove.ensures c.requires.none

pub returns-clause-gathers : goal.returns-clause-gathers
returns-clause-gathers c =
    none_lent c.args.used.now c.remove.new.used c.args.number c.remove.ensures.others (ap is_lent_there c.remove.ensures.here)
