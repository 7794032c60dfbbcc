-- Contents of which the method alone came.
use Rattle.std.proofs.Common.{◌≡◌, List, [], ◌∷◌, length, true, Option, Some, None, refl, ap}
use Rattle.std.specs.Prelude.{replicate}
use Rattle.amqp_value.specs.declared.tables.Table.{Table}
use Rattle.amqp_method.specs.Arguments.{Argument}
use Rattle.amqp_method.specs.Blank.{are_none}
use Rattle.amqp_method.specs.HeaderView.{headers_alone, present, table_argument}

-- where no property is there, each place is empty
pub no_property : (properties : List (Option Argument)) → are_none properties ≡ true → properties ≡ replicate (length properties) None
no_property [] none = refl
no_property (None ∷ properties) none = ap (λ (others : List (Option Argument)). None ∷ others) (no_property properties none)
no_property (Some value ∷ properties) none = absurd cc

pub none_there : (properties : List (Option Argument)) → properties ≡ replicate 14 None → are_none properties ≡ true
none_there properties none = ap are_none none

-- the properties with this one in the third place
abbrev pub with_third : Option Argument → List (Option Argument) → List (Option Argument)
with_third property [] = []
with_third property (first ∷ []) = first ∷ []
with_third property (first ∷ second ∷ []) = first ∷ second ∷ []
with_third property (first ∷ second ∷ third ∷ others) = first ∷ second ∷ property ∷ others

-- a table of headers in its place, where no property was
pub third_alone : (headers : Option Table) (properties : List (Option Argument)) → properties ≡ replicate 14 None
    → with_third (present table_argument headers) properties ≡ headers_alone headers
third_alone headers properties none = ap (with_third (present table_argument headers)) none
