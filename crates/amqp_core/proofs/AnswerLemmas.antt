-- What a relation on an answer says once the answer is known.
use Rattle.std.proofs.Common.{◌≡◌, Result, Ok, Err, OnOk, IfErr, subst}
use Rattle.amqp_core.specs.declared.faults.AskFault.{AskFault}

pub in_ok : {A : Type 0} (result : Result A AskFault) (value : A) (P : Type 0) → result ≡ Ok value → OnOk result P → P
in_ok result value P is holds = subst (λ r. OnOk r P) is holds

pub in_err : {A : Type 0} (result : Result A AskFault) (fault : AskFault) (P : AskFault → Type 0) → result ≡ Err fault → IfErr result P → P fault
in_err result fault P is holds = subst (λ r. IfErr r P) is holds
