use Rattle.amqp_method.specs.ArgRefView.{arg_ref_view}
use Rattle.amqp_method.specs.MethodRefs.{args_left}
use Rattle.amqp_method.specs.Views.{args_view}
use Rattle.amqp_method.proofs.OwningLemmas.{built_more}
use Rattle.amqp_method.proofs.args_ref.ArgsRef.own_kind.Goals as goal

pub returns : goal.returns
returns c = record {
  added =
      built_more (args_view c.args.args.now.items) (args_view c.keep_owned.new.args.items) (args_left c.first_value.result.1) (args_left c.args.self)
      c.args.field.now.reserved (arg_ref_view c.first_value.result.0) c.first_value.ensures.value c.in_ok-keep_owned.ensures;
  left = c.first_value.ensures.left;
}
