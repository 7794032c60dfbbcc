-- What two ends agree on, and what each goes on with on channel 0: the laws.
use Rattle.std.proofs.Common.{◌≡◌, ◌⊎◌, inl, inr, Bool, true, false, ◌||◌, min, ℕ, zero, suc, arith}
use Rattle.std.proofs.Common.{List, [], ◌∷◌, ◌++◌, map, Option, Some, None, refl, sym, ap, ap₂, ◌∙◌}
use Rattle.std.proofs.Common.{subst, append-nil}
use Rattle.std.proofs.lemmas.Bool.{false≢true, true≢false}
use Rattle.std.proofs.lemmas.List.{append_cancel_left}
use Rattle.amqp_model.specs.Wire.Frame.{Frame}
use Rattle.amqp_model.specs.Wire.Notes.{Role, Client, Server}
use Rattle.amqp_model.specs.Output.Arrangement.{on}
use Rattle.amqp_model.specs.History.Histories.{History}
use Rattle.amqp_model.specs.End.Channels.{HandshakeStep, Phase, Handshake, Running, Closed, Failed, Agreed}
use Rattle.amqp_model.specs.History.Negotiation.{Config}
use Rattle.amqp_model.specs.End.FrameVerdict.{verdict_on}
use Rattle.amqp_model.specs.End.EndVerdict.{facts_at, goes_on}
use Rattle.amqp_model.specs.End.Fitting.{ConfigWrites}
use Rattle.amqp_model.specs.Laws.FittingLaws.{MethodReadsBack}
use Rattle.amqp_model.specs.Stream.Octets.{frames_put, frames_taken}
use Rattle.amqp_model.specs.Pair.Pairs.{config_of}
use Rattle.amqp_model.specs.Laws.EndLaws.{is_over}
use Rattle.amqp_model.specs.Pair.Agreement.{PairWrites, end_in, smaller_limits, AgreesOnSmaller, LoginWasRefused}
use Rattle.amqp_model.specs.Pair.Agreement.{AgreesPastHandshake, AgreesRunning, AgreesUngated, EndGoesOn, GoesOnAtZero}
use Rattle.amqp_model.specs.Pair.Agreement.{RunsWhereNextIsAbove, ClosedHasTakenAll}
use Rattle.amqp_model.proofs.ReadBackOwed.{all-reads-back}
use Rattle.amqp_model.proofs.Footings.{Footing, footing_of}
use Rattle.amqp_model.proofs.Together.{Signal, passing, AllRead, at, both_settle, Settles, settles, refused, Together}
use Rattle.amqp_model.proofs.Together.{new, greeted, start_held, answered, login_held, tuned, settled_once}
use Rattle.amqp_model.proofs.Together.{login_refused, both_closed, client_closed, server_closed, smaller-is}
use Rattle.amqp_model.proofs.Hearing.{is_shut, shakes_hands, is_none, is_early}
use Rattle.amqp_model.proofs.ZeroSteps.{passing-zero}
use Rattle.amqp_model.proofs.BothEnds.{TogetherAs, hears-as, mine_of, theirs_of, Joined, turned}
use Rattle.amqp_model.proofs.PairsTogether.{pair-joined}

module _ (reads : MethodReadsBack) where
  pub joined : (role : Role) (client_config : Config Client) (server_config : Config Server) (mine theirs : History)
      → PairWrites role client_config server_config mine theirs
      → Joined role client_config server_config mine theirs
  joined Client client_config server_config mine theirs p =
      pair-joined client_config server_config p.client_writes p.server_writes
      (all-reads-back reads Client client_config p.client_writes)
      (all-reads-back reads Server server_config p.server_writes) mine theirs p.pair
  joined Server client_config server_config mine theirs p =
      turned client_config server_config theirs mine
      (pair-joined client_config server_config p.client_writes p.server_writes
      (all-reads-back reads Client client_config p.client_writes)
      (all-reads-back reads Server server_config p.server_writes) theirs mine p.pair)

-- The limits.

settled-smaller : (client_config : Config Client) (server_config : Config Server) → ConfigWrites server_config
    → both_settle client_config server_config ≡ smaller_limits client_config server_config
settled-smaller client_config server_config writes =
    let c = smaller-is client_config.channel_max server_config.channel_max writes.channel_least in
    let f = smaller-is client_config.frame_max server_config.frame_max (let h = writes.frame_least in omega arith) in
    λ i. record { channel_max = c i; frame_max = f i; heartbeat = min client_config.heartbeat server_config.heartbeat }

-- nothing is agreed, in the handshake or where the login was refused, or this
data Settling (server_config : Config Server) (agreed : Agreed) (footing : Footing) : Type 0 where
  shaking : footing.agreed ≡ None → shakes_hands footing.phase ≡ true → Settling server_config agreed footing
  turned_away : footing.agreed ≡ None → server_config.gated ≡ true → is_over footing.phase ≡ true
      → Settling server_config agreed footing
  has_settled : footing.agreed ≡ Some agreed → Settling server_config agreed footing

closed-settling : (client_config : Config Client) (server_config : Config Server) {agreed : Option Agreed}
    (phase : Phase) → is_over phase ≡ true → Settles client_config server_config agreed
    → Settling server_config (both_settle client_config server_config) (at phase agreed)
closed-settling client_config server_config phase over settles = has_settled refl
closed-settling client_config server_config phase over (refused gate) = turned_away refl gate over

client-settling : (client_config : Config Client) (server_config : Config Server) {client server : Footing}
    {to_server to_client : List Signal} → Together client_config server_config client server to_server to_client
    → Settling server_config (both_settle client_config server_config) client
client-settling client_config server_config new = shaking refl refl
client-settling client_config server_config (greeted args) = shaking refl refl
client-settling client_config server_config start_held = shaking refl refl
client-settling client_config server_config (answered args) = shaking refl refl
client-settling client_config server_config (login_held gate) = shaking refl refl
client-settling client_config server_config tuned = shaking refl refl
client-settling client_config server_config (login_refused gate code text cause) = shaking refl refl
client-settling client_config server_config (client_closed s d) =
    closed-settling client_config server_config Closed refl s
client-settling client_config server_config (both_closed s) = closed-settling client_config server_config Closed refl s
client-settling client_config server_config together = has_settled refl

server-settling : (client_config : Config Client) (server_config : Config Server) {client server : Footing}
    {to_server to_client : List Signal} → Together client_config server_config client server to_server to_client
    → Settling server_config (both_settle client_config server_config) server
server-settling client_config server_config new = shaking refl refl
server-settling client_config server_config (greeted args) = shaking refl refl
server-settling client_config server_config start_held = shaking refl refl
server-settling client_config server_config (answered args) = shaking refl refl
server-settling client_config server_config (login_held gate) = shaking refl refl
server-settling client_config server_config tuned = shaking refl refl
server-settling client_config server_config (settled_once args) = shaking refl refl
server-settling client_config server_config (login_refused gate code text cause) = turned_away refl gate refl
server-settling client_config server_config (client_closed s d) =
    closed-settling client_config server_config Phase.Closing refl s
server-settling client_config server_config (both_closed s) = closed-settling client_config server_config Closed refl s
server-settling client_config server_config together = has_settled refl

settling : (role : Role) (client_config : Config Client) (server_config : Config Server) (mine theirs : Footing)
    (due sent : List Signal) → TogetherAs role client_config server_config mine theirs due sent
    → Settling server_config (both_settle client_config server_config) mine
settling Client client_config server_config mine theirs due sent together =
    client-settling client_config server_config together
settling Server client_config server_config mine theirs due sent together =
    server-settling client_config server_config together

settling-of : (reads : MethodReadsBack) (role : Role) (client_config : Config Client) (server_config : Config Server)
    (mine theirs : History) → PairWrites role client_config server_config mine theirs
    → Settling server_config (smaller_limits client_config server_config)
    (footing_of (end_in role client_config server_config mine))
settling-of reads role client_config server_config mine theirs p =
    let j = joined reads role client_config server_config mine theirs p in
    subst (λ a. Settling server_config a (footing_of (end_in role client_config server_config mine)))
    (settled-smaller client_config server_config p.server_writes)
    (settling role client_config server_config (footing_of (mine_of role client_config server_config mine))
    (footing_of (theirs_of role client_config server_config theirs)) j.due j.sent j.together)

pub agrees-on-smaller : (reads : MethodReadsBack) → AgreesOnSmaller
agrees-on-smaller reads role client_config server_config mine theirs agreed p e =
    cases (settling-of reads role client_config server_config mine theirs p)
  where
    cases : Settling server_config (smaller_limits client_config server_config)
        (footing_of (end_in role client_config server_config mine))
        → agreed ≡ smaller_limits client_config server_config
    cases (shaking none shakes) = absurd (let h : None ≡ Some agreed = sym none ∙ e in cc)
    cases (turned_away none gate over) = absurd (let h : None ≡ Some agreed = sym none ∙ e in cc)
    cases (has_settled s) =
        let h : Some agreed ≡ Some (smaller_limits client_config server_config) = sym e ∙ s in
        cc

pub agrees-past-handshake : (reads : MethodReadsBack) → AgreesPastHandshake
agrees-past-handshake reads role client_config server_config mine theirs p past =
    cases (settling-of reads role client_config server_config mine theirs p)
  where
    step-of : (phase : Phase) → shakes_hands phase ≡ true → (step : HandshakeStep) × (phase ≡ Handshake step)
    step-of (Handshake step) e = (step, refl)
    step-of Running e = absurd (false≢true e)
    step-of Phase.Closing e = absurd (false≢true e)
    step-of Closed e = absurd (false≢true e)
    step-of Failed e = absurd (false≢true e)

    early : (f : Footing) → f.agreed ≡ None → is_early f ≡ true
    early f e = ap (λ a. shakes_hands f.phase || is_none a) e ∙ or-true (shakes_hands f.phase)
      where
        or-true : (b : Bool) → (b || true) ≡ true
        or-true true = refl
        or-true false = refl

    cases : Settling server_config (smaller_limits client_config server_config)
        (footing_of (end_in role client_config server_config mine))
        → ((end_in role client_config server_config mine).agreed
        ≡ Some (smaller_limits client_config server_config))
        ⊎ LoginWasRefused role client_config server_config mine theirs
    cases (shaking none shakes) =
        let step = step-of (end_in role client_config server_config mine).phase shakes in
        absurd (past step.0 step.1)
    cases (turned_away none gate over) =
        let j = joined reads role client_config server_config mine theirs p in
        let quiet = j.early (inl (early (footing_of (mine_of role client_config server_config mine)) none)) in
        inr (record {
          gated = gate;
          over = over;
          none = none;
          mine_put = λ n. (quiet n).mine_none;
          theirs_put = λ n. (quiet n).theirs_none;
        })
    cases (has_settled s) = inl s

not-handshake : (step : HandshakeStep) → Running ≡ Handshake step → ⊥
not-handshake step e = cc

pub agrees-running : (reads : MethodReadsBack) → AgreesRunning
agrees-running reads role client_config server_config mine theirs p runs =
    cases (agrees-past-handshake reads role client_config server_config mine theirs p
    (λ step q. not-handshake step (sym runs ∙ q)))
  where
    cases : ((end_in role client_config server_config mine).agreed
        ≡ Some (smaller_limits client_config server_config))
        ⊎ LoginWasRefused role client_config server_config mine theirs
        → (end_in role client_config server_config mine).agreed ≡ Some (smaller_limits client_config server_config)
    cases (inl e) = e
    cases (inr r) = absurd (false≢true (sym (ap is_over runs) ∙ r.over))

pub agrees-ungated : (reads : MethodReadsBack) → AgreesUngated
agrees-ungated reads role client_config server_config mine theirs p none past =
    cases (agrees-past-handshake reads role client_config server_config mine theirs p past)
  where
    cases : ((end_in role client_config server_config mine).agreed
        ≡ Some (smaller_limits client_config server_config))
        ⊎ LoginWasRefused role client_config server_config mine theirs
        → (end_in role client_config server_config mine).agreed ≡ Some (smaller_limits client_config server_config)
    cases (inl e) = e
    cases (inr r) = absurd (false≢true (sym none ∙ r.gated))

-- What comes next.

-- of all that is in flight the first
zero-next : (role : Role) (client_config : Config Client) (server_config : Config Server) → ConfigWrites client_config
    → ConfigWrites server_config → (mine theirs : History) (sent : List Signal) (frame : Frame) (later : List Frame)
    (due : List Signal)
    → TogetherAs role client_config server_config (footing_of (mine_of role client_config server_config mine))
    (footing_of (theirs_of role client_config server_config theirs)) due sent → AllRead due
    → map passing due ≡ frame ∷ later → EndGoesOn role client_config server_config mine frame
zero-next role client_config server_config client_writes server_writes mine theirs sent frame later [] together read e =
    absurd cc
zero-next role client_config server_config client_writes server_writes mine theirs sent frame later
    (signal ∷ due) together read e =
    let h = hears-as role client_config server_config client_writes server_writes due sent signal together in
    let same : passing signal ≡ frame = (let h : passing signal ∷ map passing due ≡ frame ∷ later = e in cc) in
    subst (λ f. EndGoesOn role client_config server_config mine f) same
    (record {
      in_phase = h.hears.takes;
      goes = ap₂
          (λ c r. goes_on
          (verdict_on (facts_at (config_of role client_config server_config)
          (end_in role client_config server_config mine) c)
          r)) (passing-zero signal) read.0 ∙ h.hears.goes;
    })

pub goes-on-at-zero : (reads : MethodReadsBack) → GoesOnAtZero
goes-on-at-zero reads role client_config server_config mine theirs frame p next here =
    let j = joined reads role client_config server_config mine theirs p in
    let there = subst (λ c. on c (frames_put theirs) ≡ on c (frames_taken mine) ++ frame
    ∷ next.later) here next.next in
    zero-next role client_config server_config p.client_writes p.server_writes mine theirs j.sent frame next.later j.due
    j.together j.due_read (append_cancel_left (on 0 (frames_taken mine)) (map passing j.due)
    (frame ∷ next.later) (sym j.due_is ∙ there))

-- no end has failed
abbrev has_failed : Phase → Bool
has_failed Failed = true
has_failed phase = false

client-goes-on : (client_config : Config Client) (server_config : Config Server) {client server : Footing}
    {to_server to_client : List Signal} → Together client_config server_config client server to_server to_client
    → has_failed client.phase ≡ false
client-goes-on client_config server_config new = refl
client-goes-on client_config server_config together = refl

server-goes-on : (client_config : Config Client) (server_config : Config Server) {client server : Footing}
    {to_server to_client : List Signal} → Together client_config server_config client server to_server to_client
    → has_failed server.phase ≡ false
server-goes-on client_config server_config new = refl
server-goes-on client_config server_config together = refl

none-failed : (role : Role) (client_config : Config Client) (server_config : Config Server) (mine theirs : Footing)
    (due sent : List Signal) → TogetherAs role client_config server_config mine theirs due sent
    → has_failed mine.phase ≡ false
none-failed Client client_config server_config mine theirs due sent together =
    client-goes-on client_config server_config together
none-failed Server client_config server_config mine theirs due sent together =
    server-goes-on client_config server_config together

-- nothing comes after all
none-after : (xs : List Frame) (frame : Frame) (later : List Frame) → xs ≡ xs ++ frame ∷ later → ⊥
none-after [] frame later e = cc
none-after (x ∷ xs) frame later e =
    none-after xs frame later (let h : x ∷ xs ≡ x ∷ (xs ++ frame ∷ later) = e in cc)

none-before : (xs : List Frame) (frame : Frame) (later : List Frame) → [] ≡ xs ++ frame ∷ later → ⊥
none-before [] frame later e = cc
none-before (x ∷ xs) frame later e = cc

pub runs-where-next-is-above : (reads : MethodReadsBack) → RunsWhereNextIsAbove
runs-where-next-is-above reads role client_config server_config mine theirs frame p next above =
    by-channel frame.channel refl
  where
    j : Joined role client_config server_config mine theirs
    j = joined reads role client_config server_config mine theirs p

    by-phase : (m : ℕ) → on (suc m) (frames_put theirs) ≡ on (suc m) (frames_taken mine) ++ frame ∷ next.later
        → (phase : Phase) → (end_in role client_config server_config mine).phase ≡ phase → (phase ≡ Running)
        ⊎ (phase ≡ Phase.Closing)
    by-phase m there Running e = inl refl
    by-phase m there Phase.Closing e = inr refl
    by-phase m there (Handshake step) e =
        absurd (none-before (on (suc m) (frames_taken mine)) frame next.later
        (sym (j.early
        (inl (ap (λ p. shakes_hands p || is_none (end_in role client_config server_config mine).agreed) e))
        m).theirs_none ∙ there))
    by-phase m there Closed e =
        absurd (none-after (on (suc m) (frames_taken mine)) frame next.later
        (sym (j.mine_over (ap is_shut e) m) ∙ there))
    by-phase m there Failed e =
        absurd (true≢false (sym (ap has_failed e)
        ∙ none-failed role client_config server_config (footing_of (mine_of role client_config server_config mine))
        (footing_of (theirs_of role client_config server_config theirs)) j.due j.sent j.together))

    by-channel : (c : ℕ) → frame.channel ≡ c
        → ((end_in role client_config server_config mine).phase ≡ Running)
        ⊎ ((end_in role client_config server_config mine).phase ≡ Phase.Closing)
    by-channel zero here = absurd (above here)
    by-channel (suc m) here =
        by-phase m (subst (λ c. on c (frames_put theirs) ≡ on c (frames_taken mine) ++ frame ∷ next.later) here
        next.next) (end_in role client_config server_config mine).phase refl

-- nothing is in flight to an end that is closed
client-over : (client_config : Config Client) (server_config : Config Server) {client server : Footing}
    {to_server to_client : List Signal} → Together client_config server_config client server to_server to_client
    → is_shut client.phase ≡ true → to_client ≡ []
client-over client_config server_config (client_closed s d) e = refl
client-over client_config server_config (both_closed s) e = refl
client-over client_config server_config together e = absurd (false≢true e)

server-over : (client_config : Config Client) (server_config : Config Server) {client server : Footing}
    {to_server to_client : List Signal} → Together client_config server_config client server to_server to_client
    → is_shut server.phase ≡ true → to_server ≡ []
server-over client_config server_config (server_closed b) e = refl
server-over client_config server_config (both_closed s) e = refl
server-over client_config server_config together e = absurd (false≢true e)

none-due : (role : Role) (client_config : Config Client) (server_config : Config Server) (mine theirs : Footing)
    (due sent : List Signal) → TogetherAs role client_config server_config mine theirs due sent
    → is_shut mine.phase ≡ true → due ≡ []
none-due Client client_config server_config mine theirs due sent together e =
    client-over client_config server_config together e
none-due Server client_config server_config mine theirs due sent together e =
    server-over client_config server_config together e

pub closed-has-taken-all : (reads : MethodReadsBack) → ClosedHasTakenAll
closed-has-taken-all reads role client_config server_config mine theirs zero p e =
    let j = joined reads role client_config server_config mine theirs p in
    let none = none-due role client_config server_config (footing_of (mine_of role client_config server_config mine))
    (footing_of (theirs_of role client_config server_config theirs)) j.due j.sent j.together (ap is_shut e) in
    j.due_is ∙ (ap (λ l. on 0 (frames_taken mine) ++ map passing l) none ∙ append-nil (on 0 (frames_taken mine)))
closed-has-taken-all reads role client_config server_config mine theirs (suc m) p e =
    (joined reads role client_config server_config mine theirs p).mine_over (ap is_shut e) m
