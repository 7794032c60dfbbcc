use Rattle.std.proofs.Common.{map, ◌∙◌}
use Rattle.amqp_method.specs.MethodRefView.{lent_call}
use Rattle.amqp_method.specs.Rows.{field_view}
use Rattle.amqp_method.proofs.MethodLemmas.{method_at-fits}
use Rattle.amqp_method.proofs.RefLemmas.{call_read, lent_args, args_lent, is_read, values_are}
use Rattle.amqp_method.proofs.method_ref.MethodRef.lent_args.Goals as goal

pub split_at-requires : goal.split_at-requires
split_at-requires c = (lent_args c.args.self.payload.now c.args.self.kind c.args.self.reads).long

pub new-requires-clause-reads : goal.new-requires-clause-reads
new-requires-clause-reads c = is_read _ _ (args_lent c.args.self.payload.now c.split_at.result.1.now c.args.self.kind (map field_view c.schema.result.now) c.args.self.reads c.schema.ensures c.split_at.ensures.back)

pub returns-clause-args : goal.returns-clause-args
returns-clause-args c = c.new.ensures.args ∙ values_are _ _ (args_lent c.args.self.payload.now c.split_at.result.1.now c.args.self.kind (map field_view c.schema.result.now) c.args.self.reads c.schema.ensures c.split_at.ensures.back)

pub returns-clause-fit : goal.returns-clause-fit
returns-clause-fit c = method_at-fits c.args.self.payload.now (lent_call c.args.self) c.args.self.below (call_read c.args.self.payload.now c.args.self.kind c.args.self.reads)
