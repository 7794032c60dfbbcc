use Rattle.std.proofs.Common.{sym, ◌∙◌}
use denote.Enum.Bare.{same_true, true_same}
use Rattle.amqp_method.specs.contracts.kinds.Kind.{the_type}
use Rattle.amqp_typed.proofs.args.is_same.Goals as goal

pub returns : goal.returns
returns c = (
  λ h. same_true the_type tt _ _ (sym c.eq.ensures ∙ h),
  λ h. c.eq.ensures ∙ true_same the_type _ _ h,
)
