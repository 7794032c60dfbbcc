use Rattle.amqp_method.proofs.PlaceLemmas.{argument_got}
use Rattle.amqp_method.proofs.methods.Method.arg_at.Goals as goal

pub returns : goal.returns
returns c = argument_got c.args.self.now.args.items c.args-2.result.now c.args.place c.get.result c.args-2.ensures.args c.get.ensures.lookup
