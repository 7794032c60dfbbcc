-- Properties of which none is there.
use Rattle.std.specs.Prelude.{List, [], ◌∷◌, Bool, true, false, Option, Some, None}
use Rattle.amqp_method.specs.Arguments.{Argument}

abbrev pub are_none : List (Option Argument) → Bool
are_none [] = true
are_none (None ∷ properties) = are_none properties
are_none (Some value ∷ properties) = false
