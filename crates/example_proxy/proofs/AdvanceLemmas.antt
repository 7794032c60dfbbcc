-- What one ask more, or a refusal, says of the asks that wait.
use Rattle.std.proofs.Common.{◌≡◌, ◌≢◌, List, ◌∷◌, map, Option, None, Result, Ok, Err, OnOk, IfErr, sym, ◌∙◌, ap, subst}
use Rattle.amqp_model.specs.End.Asks.{Ask, Refusal, refusal}
use Rattle.amqp_model.specs.Stream.Endpoint.{Endpoint}
use Rattle.amqp_core.specs.Faults.Numbers.{refusal_view}
use Rattle.amqp_core.specs.Config.Settings.{role_for}
use Rattle.amqp_core.specs.declared.faults.AskFault.{AskFault}
use Rattle.amqp_core.specs.declared.settings.Settings.{Settings}
use Rattle.example_proxy.specs.Advancing.{Standing, Accepts, Advances, none_sent, sends_next, HasToWait, Rests}

-- one ask more is accepted
pub sends_one : (old before : Standing) (ask : Ask) (rest : List Ask) (settings : Settings) (endpoint : Endpoint)
    → Advances old before → before.waiting ≡ ask ∷ rest → settings ≡ before.settings → Accepts before ask endpoint
    → Advances old (record { settings = settings; waiting = rest; endpoint = endpoint })
sends_one old before ask rest settings endpoint advances first set accepted =
    subst (λ (s : Settings). Advances old (record { settings = s; waiting = rest; endpoint = endpoint })) (sym set)
    (sends_next before ask rest endpoint advances first accepted)

-- an end that is set up as before and has not changed, and the same asks wait
pub same_standing : (before : Standing) (settings : Settings) (waiting : List Ask) (endpoint : Endpoint)
    → settings ≡ before.settings → before.waiting ≡ waiting → endpoint ≡ before.endpoint
    → before ≡ record { settings = settings; waiting = waiting; endpoint = endpoint }
same_standing before settings waiting endpoint set same e =
    λ i. record { settings = sym set i; waiting = same i; endpoint = sym e i }

-- the oldest ask is put back as it was
pub put_back : {A : Type 0} (view : A → Ask) (old rest : List A) (first again : A)
    → old ≡ first ∷ rest → view again ≡ view first → map view old ≡ map view (again ∷ rest)
put_back view old rest first again is same = ap (map view) is ∙ ap (λ ask. ask ∷ map view rest) (sym same)

-- the oldest ask is refused
pub rests_first : (standing : Standing) (ask : Ask) (rest : List Ask) → standing.waiting ≡ ask ∷ rest
    → refusal (role_for standing.settings) standing.endpoint.end ask ≢ None → Rests standing
rests_first standing ask rest first refused = subst (HasToWait standing) (sym first) refused

-- a refusal that has a reason
pub refused_for : (fault : AskFault) (refused : Option Refusal) → refusal_view fault ≢ None → refusal_view fault ≡ refused → refused ≢ None
refused_for fault refused reason e = λ none. reason (e ∙ none)

-- some are accepted, and then others
pub advances_on : (old between new : Standing) → Advances old between → Advances between new → Advances old new
advances_on old between new first none_sent = first
advances_on old between new first (sends_next middle ask rest endpoint later next accepted) =
    sends_next middle ask rest endpoint (advances_on old between middle first later) next accepted

-- what a relation on an answer says once the answer is known
pub asked_ok : {A : Type 0} (result : Result A AskFault) (value : A) (P : Type 0) → result ≡ Ok value → OnOk result P → P
asked_ok result value P is holds = subst (λ r. OnOk r P) is holds

pub asked_err : {A : Type 0} (result : Result A AskFault) (fault : AskFault) (P : AskFault → Type 0)
    → result ≡ Err fault → IfErr result P → P fault
asked_err result fault P is holds = subst (λ r. IfErr r P) is holds
