-- What a checker answers of what reading gives: the octets after it, how many it has, or the fault. No memory is taken.
use Rattle.std.specs.Prelude.{◌≡◌, ℕ, List, Option, Some, None, Result, Ok, Err}
use Rattle.amqp_value.specs.Reading.{◌>>=◌, Read}
use Rattle.amqp_value.specs.declared.fault.ValueFault.{ValueFault}

-- What a call returned, seen by view, equals what reading gives.
abbrev pub Equals : {X Y : Type 0} → (X → Y) → Result X ValueFault → Result Y ValueFault → Type 0
Equals view (Ok x) read = read ≡ Ok (view x)
Equals view (Err e) read = read ≡ Err e

-- the octets after what is read
abbrev pub skipped : {X : Type 0} → Read X → Result (List ℕ) ValueFault
skipped read = read >>= λ x. Ok x.1

-- how many octets the table that is read has
abbrev pub measured : {X : Type 0} → Result (X × ℕ) ValueFault → Result ℕ ValueFault
measured read = read >>= λ x. Ok x.1

-- the fault, if there is one
abbrev pub fault_in : {X : Type 0} → Result X ValueFault → Option ValueFault
fault_in (Ok x) = None
fault_in (Err e) = Some e
