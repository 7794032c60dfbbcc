use Rattle.std.proofs.Common.{rules, ◌≡◌, true, false, arith}
use Rattle.amqp_model.specs.End.Asks.{is_free}
use Rattle.amqp_channel.specs.Channels.Used.{used_view}
use Rattle.amqp_channel.proofs.FreeLemmas.{lowest_is, none_is, one_more}
use Rattle.amqp_channel.proofs.channels.Channels.find_free.Goals as goal

pub loop-number-init : goal.loop-number-init
loop-number-init c = λ j below. c.args.self.now.passed_are_taken j (c.lowest-start.ensures.passed j below)

pub returns-then-not-is_taken-clause-lowest : goal.returns-then-not-is_taken-clause-lowest
returns-then-not-is_taken-clause-lowest c =
    let free : is_free (used_view c.args.self.now.used c.loop-number.number) ≡ true = search rules in
    lowest_is c.args.self.now.used c.args.most c.loop-number.number c.loop-number.invariant (omega arith) (omega arith) free

pub returns-clause-lowest : goal.returns-clause-lowest
returns-clause-lowest c = none_is c.args.self.now.used c.args.most c.loop-number.number c.loop-number.invariant (omega arith)

pub returns-else-not-is_taken-clause-lowest : goal.returns-else-not-is_taken-clause-lowest
returns-else-not-is_taken-clause-lowest c =
    let taken : is_free (used_view c.args.self.now.used c.loop-number.number) ≡ false = search rules in
    none_is c.args.self.now.used c.args.most _ (one_more c.args.self.now.used c.loop-number.number c.loop-number.invariant taken) (omega arith)
