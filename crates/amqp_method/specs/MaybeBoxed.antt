-- The value that lies in a box, or not.
use Rattle.amqp_method.specs.declared.maybe_boxed.MaybeBoxed.{MaybeBoxed}
use Rattle.amqp_method.specs.declared.maybe_boxed.MaybeBoxed.TheVariants.{Here, Boxed}

abbrev pub boxed_value : {X : Type 0} → MaybeBoxed X → X
boxed_value (Here x) = x
boxed_value (Boxed boxed) = boxed.value.value
