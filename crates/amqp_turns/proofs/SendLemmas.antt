-- What one sending more, or a refusal, says of the messages that wait.
use Rattle.std.proofs.Common.{◌≡◌, ◌⊎◌, ◌<◌, List, [], ◌∷◌, length, drop, slice_index_or, Some, Result, Ok, Err, OnOk, IfErr, inl, inr, sym, ◌∙◌, ap, subst, arith}
use Rattle.amqp_model.specs.End.Asks.{Send, Paused, ReplyPending}
use Rattle.amqp_model.specs.Stream.Endpoint.{Endpoint}
use Rattle.amqp_model.specs.End.Events.{Message}
use Rattle.amqp_core.specs.Asks.Effects.{RefusesAsk}
use Rattle.amqp_core.specs.Faults.Numbers.{refusal_view}
use Rattle.amqp_core.specs.Config.Settings.{role_for}
use Rattle.amqp_core.specs.declared.faults.AskFault.{AskFault}
use Rattle.amqp_core.specs.declared.settings.Settings.{Settings}
use Rattle.amqp_turns.specs.Sends.{Standing, Accepts, Advances, none_sent, sends_next, HasToWait, IsReasonToWait, IsRefusedAmong, IsRefusedFirst, Rests, refused_first}

-- the element at place 0 is the first
pub first_is : {A : Type 0} (xs : List A) (x : A) → 0 < length xs → x ≡ slice_index_or xs 0 x → xs ≡ x ∷ drop 1 xs
first_is [] x some e = absurd (omega arith)
first_is (y ∷ ys) x some e = ap (λ z. z ∷ ys) (sym e)

-- an end that is set up as before and has not changed
pub same_standing : (before : Standing) (settings : Settings) (endpoint : Endpoint)
    → settings ≡ before.settings → endpoint ≡ before.endpoint
    → before ≡ record { settings = settings; channel = before.channel; waiting = before.waiting; endpoint = endpoint }
same_standing before settings endpoint set e =
    λ i. record { settings = sym set i; channel = before.channel; waiting = before.waiting; endpoint = sym e i }

-- the oldest message is refused since it has to wait
pub rests_first : (standing : Standing) (message : Message) (rest : List Message) → standing.waiting ≡ message ∷ rest
    → (refused_first standing message ≡ Some ReplyPending) ⊎ (refused_first standing message ≡ Some Paused) → Rests standing
rests_first standing message rest first waits = subst (HasToWait standing) (sym first) waits

-- a refusal that is a reason to wait
pub waits_for : (standing : Standing) (message : Message) (fault : AskFault) → IsReasonToWait fault
    → refusal_view fault ≡ refused_first standing message
    → (refused_first standing message ≡ Some ReplyPending) ⊎ (refused_first standing message ≡ Some Paused)
waits_for standing message fault (inl pending) refused = inl (sym refused ∙ ap refusal_view pending)
waits_for standing message fault (inr paused) refused = inr (sym refused ∙ ap refusal_view paused)

-- the oldest message is refused
pub refused_among : (standing : Standing) (message : Message) (rest : List Message) (fault : AskFault) (next : Endpoint)
    → standing.waiting ≡ message ∷ rest
    → RefusesAsk (role_for standing.settings) (Send standing.channel message) fault standing.endpoint next → IsRefusedFirst fault standing
refused_among standing message rest fault next first refused =
    subst (IsRefusedAmong fault standing) (sym first)
    (subst (λ (new : Endpoint). RefusesAsk (role_for standing.settings) (Send standing.channel message) fault standing.endpoint new) refused.same refused)

-- one message is sent
pub sends_one : (before : Standing) (message : Message) (rest : List Message) (settings : Settings) (endpoint : Endpoint)
    → before.waiting ≡ message ∷ rest → settings ≡ before.settings → Accepts before message endpoint
    → Advances before (record { settings = settings; channel = before.channel; waiting = rest; endpoint = endpoint })
sends_one before message rest settings endpoint first set accepted =
    subst (λ (s : Settings). Advances before (record { settings = s; channel = before.channel; waiting = rest; endpoint = endpoint })) (sym set)
    (sends_next before message rest endpoint none_sent first accepted)

-- some are sent, and then others
pub advances_on : (old between new : Standing) → Advances old between → Advances between new → Advances old new
advances_on old between new first none_sent = first
advances_on old between new first (sends_next middle message rest endpoint later next accepted) =
    sends_next middle message rest endpoint (advances_on old between middle first later) next accepted

-- what a relation on an answer says once the answer is known
pub sent_ok : {A : Type 0} (result : Result A AskFault) (value : A) (P : Type 0) → result ≡ Ok value → OnOk result P → P
sent_ok result value P is holds = subst (λ r. OnOk r P) is holds

pub sent_err : {A : Type 0} (result : Result A AskFault) (fault : AskFault) (P : AskFault → Type 0) → result ≡ Err fault → IfErr result P → P fault
sent_err result fault P is holds = subst (λ r. IfErr r P) is holds
