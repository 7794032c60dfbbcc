-- A fault that octets show leaves an end that has failed.
use Rattle.std.proofs.Common.{◌≡◌, inl, inr, Bool, true, false, cond, ℕ, List, [], ◌∷◌, ◌++◌, Result, Ok, Err, IfErr, IfOk, IsOk, refl, sym, ap, ◌∙◌, subst}
use Rattle.std.proofs.lemmas.Bool.{true≢false, false≢true}
use Rattle.amqp_model.specs.End.Channels as channels
use Rattle.amqp_model.specs.End.Channels.{End}
use Rattle.amqp_model.specs.End.EndVerdict.{facts_at, end_verdict, takes_octets}
use Rattle.amqp_model.specs.Stream.Endpoint.{Begun, Comparison, Differs, Endpoint, Feeding, Finished, Found, Judgement, Outcome, Prefix, Same, Unfinished, Whole, Wrong, after_feed, after_judged, after_octet, after_octets, after_opening, awaits_opening, compared, fault_told, fed_after, judged, outcome_of, refusal_in, unless_over}
use Rattle.amqp_model.specs.End.Events as events
use Rattle.amqp_model.specs.End.Events.{FrameVerdict}
use Rattle.amqp_model.specs.End.FrameVerdict.{Facts}
use Rattle.amqp_model.specs.End.Machine.{failed_by}
use Rattle.amqp_model.specs.History.Negotiation.{Config, frame_limit}
use Rattle.amqp_model.specs.Wire.Notes.{Role}
use Rattle.amqp_model.specs.Laws.OctetLaws.{FeedStaysClosed, FeedStaysFailed, nothing_taken}
use Rattle.amqp_model.specs.Stream.Octets.{opening_read}
use Rattle.amqp_core.specs.Faults.Answering.{Reports, ran_out, is_out_of_memory}
use Rattle.amqp_core.specs.End.Counted.{is_failed}
use Rattle.amqp_core.specs.Faults.FeedFaults.{FeedFaults, TakesNothing, FailsAfter}
use Rattle.amqp_core.specs.Stream.Lending.{AnswersLent, IsLent, LentSeen}
use Rattle.amqp_core.specs.End.Feeding.{AnswersPiece, IsFed, seen, SameEndpoint, ran_out_of}
use Rattle.amqp_core.specs.Faults.Overs.{IsOver}
use Rattle.amqp_core.specs.declared.faults.CoreFault.{CoreFault}
use Rattle.amqp_core.specs.declared.faults.CoreFault.TheVariants as core
use Rattle.amqp_core.specs.declared.taken.Taken.{Taken}

-- where a fault is found, but that of a closed end, the end has failed
abbrev FailsFound : events.Fault → channels.Phase → Type 0
FailsFound events.AlreadyClosed phase = Unit {0}
FailsFound fault phase = phase ≡ channels.Failed

abbrev FailsWith : Outcome → channels.Phase → Type 0
FailsWith (Found fault) phase = FailsFound fault phase
FailsWith outcome phase = Unit {0}

by_fault : (fault : events.Fault) → FailsFound fault channels.Failed
by_fault (events.Peer code) = refl
by_fault events.Fatal = refl
by_fault events.WrongProtocolHeader = refl
by_fault events.AlreadyClosed = tt
by_fault events.AlreadyFailed = refl

by_verdict : {role : Role} (facts : Facts role) (verdict : FrameVerdict) (end : End) → FailsWith (outcome_of facts verdict) (failed_by verdict end).phase
by_verdict facts (events.Proceeds event owed) end = tt
by_verdict facts events.RefusesContent end = tt
by_verdict facts (events.Faults fault) end = by_fault fault

by_judgement : (role : Role) (config : Config role) (endpoint : Endpoint) (octets : List ℕ) (judgement : Judgement) →
    FailsWith (after_judged role config endpoint octets judgement).outcome (after_judged role config endpoint octets judgement).endpoint.end.phase
by_judgement role config endpoint octets Begun = tt
by_judgement role config endpoint octets (Whole frame) = by_verdict (facts_at config endpoint.end frame.channel) (end_verdict config endpoint.end frame) _
by_judgement role config endpoint octets (Wrong kind) = by_fault (fault_told kind)

by_comparison : (role : Role) (config : Config role) (endpoint : Endpoint) (octets : List ℕ) (comparison : Comparison) →
    FailsWith (after_opening role config endpoint octets comparison).outcome (after_opening role config endpoint octets comparison).endpoint.end.phase
by_comparison role config endpoint octets Prefix = tt
by_comparison role config endpoint octets Same = tt
by_comparison role config endpoint octets Differs = refl

by_opening : (role : Role) (config : Config role) (endpoint : Endpoint) (octets : List ℕ) (awaits : Bool) →
    FailsWith (after_octets role config endpoint octets awaits).outcome (after_octets role config endpoint octets awaits).endpoint.end.phase
by_opening role config endpoint octets true = by_comparison role config endpoint octets (compared octets (opening_read role))
by_opening role config endpoint octets false = by_judgement role config endpoint octets (judged (frame_limit endpoint.end.agreed) octets)

-- an end that takes no octets says why
by_phase : (endpoint : Endpoint) (phase : channels.Phase) (feeding : Feeding) → endpoint.end.phase ≡ phase → FailsWith feeding.outcome feeding.endpoint.end.phase →
    FailsWith (unless_over endpoint (refusal_in phase) feeding).outcome (unless_over endpoint (refusal_in phase) feeding).endpoint.end.phase
by_phase endpoint (channels.Handshake step) feeding e fails = fails
by_phase endpoint channels.Running feeding e fails = fails
by_phase endpoint channels.Phase.Closing feeding e fails = fails
by_phase endpoint channels.Closed feeding e fails = tt
by_phase endpoint channels.Failed feeding e fails = e

octet_fails : (role : Role) (config : Config role) (endpoint : Endpoint) (octet : ℕ) → FailsWith (after_octet role config endpoint octet).outcome (after_octet role config endpoint octet).endpoint.end.phase
octet_fails role config endpoint octet =
    by_phase endpoint endpoint.end.phase (after_octets role config endpoint (endpoint.unfinished ++ octet ∷ []) (awaits_opening role endpoint.end.phase)) refl
    (by_opening role config endpoint (endpoint.unfinished ++ octet ∷ []) (awaits_opening role endpoint.end.phase))

by_first : (first later : Feeding) (outcome : Outcome) → FailsWith first.outcome first.endpoint.end.phase → FailsWith later.outcome later.endpoint.end.phase →
    FailsWith (fed_after first outcome later).outcome (fed_after first outcome later).endpoint.end.phase
by_first first later Unfinished one other = other
by_first first later (Finished event) one other = one
by_first first later (Found fault) one other = one

feed_fails : (role : Role) (config : Config role) (endpoint : Endpoint) (piece : List ℕ) → FailsWith (after_feed role config endpoint piece).outcome (after_feed role config endpoint piece).endpoint.end.phase
feed_fails role config endpoint [] = by_phase endpoint endpoint.end.phase (record { endpoint = endpoint; taken = 0; outcome = Unfinished }) refl tt
feed_fails role config endpoint (octet ∷ later) =
    by_first (after_octet role config endpoint octet) (after_feed role config (after_octet role config endpoint octet).endpoint later) (after_octet role config endpoint octet).outcome
    (octet_fails role config endpoint octet) (feed_fails role config (after_octet role config endpoint octet).endpoint later)

-- So it is of what is answered.

told_failed : (fault : CoreFault) (old : Endpoint) (fed : Feeding) (phase : channels.Phase) → Reports fault fed.outcome → (cond (is_out_of_memory fault) (ran_out_of old) fed.endpoint).end.phase ≡ phase
    → FailsWith fed.outcome fed.endpoint.end.phase → FailsAfter fault phase
told_failed (core.Peer code) old fed phase reports e fails = sym e ∙ subst (λ (o : Outcome). FailsWith o fed.endpoint.end.phase) reports fails
told_failed core.Fatal old fed phase (inl reports) e fails = sym e ∙ subst (λ (o : Outcome). FailsWith o fed.endpoint.end.phase) reports fails
told_failed core.Fatal old fed phase (inr reports) e fails = sym e ∙ subst (λ (o : Outcome). FailsWith o fed.endpoint.end.phase) reports fails
told_failed core.OutOfMemory old fed phase reports e fails = sym e
told_failed core.Failed old fed phase reports e fails = sym e ∙ subst (λ (o : Outcome). FailsWith o fed.endpoint.end.phase) reports fails
told_failed core.Closed old fed phase reports e fails = tt

fails_told : (result : Result Taken CoreFault) (old new : Endpoint) (fed : Feeding) → IsFed (seen result) old fed new → FailsWith fed.outcome fed.endpoint.end.phase → IfErr result (λ fault. FailsAfter fault new.end.phase)
fails_told (Ok taken) old new fed is fails = tt
fails_told (Err fault) old new fed is fails = told_failed fault old fed new.end.phase is.answer is.left.end.phase fails

-- An end that is over.

abbrev is_closed_fault : events.Fault → Bool
is_closed_fault events.AlreadyClosed = true
is_closed_fault fault = false

abbrev is_failed_fault : events.Fault → Bool
is_failed_fault events.AlreadyFailed = true
is_failed_fault fault = false

abbrev found_by : (events.Fault → Bool) → Outcome → Bool
found_by test (Found fault) = test fault
found_by test outcome = false

over_answer : (fault : events.Fault) (answer : CoreFault) (result : Result Taken CoreFault) (outcome : Outcome) → AnswersPiece (seen result) outcome → outcome ≡ Found fault
    → ((told : CoreFault) → Reports told (Found fault) → is_out_of_memory told ≡ false → told ≡ answer) → ran_out result ≡ false → result ≡ Err answer
over_answer fault answer (Ok taken) outcome answers is by lasts = absurd (subst (λ (o : Outcome). AnswersPiece (seen (Ok taken)) o) is answers)
over_answer fault answer (Err told) outcome answers is by lasts = ap Err (by told (subst (λ (o : Outcome). AnswersPiece (Err told) o) is answers) lasts)

closed_told : (told : CoreFault) → Reports told (Found events.AlreadyClosed) → is_out_of_memory told ≡ false → told ≡ core.Closed
closed_told (core.Peer code) reports lasts = absurd (true≢false (ap (found_by is_closed_fault) reports))
closed_told core.Fatal (inl reports) lasts = absurd (true≢false (ap (found_by is_closed_fault) reports))
closed_told core.Fatal (inr reports) lasts = absurd (true≢false (ap (found_by is_closed_fault) reports))
closed_told core.OutOfMemory reports lasts = absurd (true≢false lasts)
closed_told core.Failed reports lasts = absurd (true≢false (ap (found_by is_closed_fault) reports))
closed_told core.Closed reports lasts = refl

failed_told : (told : CoreFault) → Reports told (Found events.AlreadyFailed) → is_out_of_memory told ≡ false → told ≡ core.Failed
failed_told (core.Peer code) reports lasts = absurd (true≢false (ap (found_by is_failed_fault) reports))
failed_told core.Fatal (inl reports) lasts = absurd (true≢false (ap (found_by is_failed_fault) reports))
failed_told core.Fatal (inr reports) lasts = absurd (true≢false (ap (found_by is_failed_fault) reports))
failed_told core.OutOfMemory reports lasts = absurd (true≢false lasts)
failed_told core.Failed reports lasts = refl
failed_told core.Closed reports lasts = absurd (true≢false (ap (found_by is_failed_fault) reports))

-- where memory was refused, octets are taken
kept_memory : (b : Bool) (phase : channels.Phase) → (b ≡ true → takes_octets phase ≡ true) → takes_octets phase ≡ false → b ≡ false
kept_memory true phase memory over = absurd (true≢false (sym (memory refl) ∙ over))
kept_memory false phase memory over = refl

same_left : (b : Bool) (old new : Endpoint) (fed : Feeding) → b ≡ false → fed.endpoint ≡ old → SameEndpoint (cond b (ran_out_of old) fed.endpoint) new → SameEndpoint old new
same_left true old new fed lasts is same = absurd (true≢false lasts)
same_left false old new fed lasts is same = subst (λ (e : Endpoint). SameEndpoint e new) is same

pub ran_seen : (result : Result Taken CoreFault) → ran_out (seen result) ≡ ran_out result
ran_seen (Ok taken) = refl
ran_seen (Err fault) = refl

refused : (fault : events.Fault) (answer : CoreFault) (result : Result Taken CoreFault) (old new : Endpoint) (fed : Feeding) → IsFed (seen result) old fed new → fed ≡ nothing_taken old fault
    → ((told : CoreFault) → Reports told (Found fault) → is_out_of_memory told ≡ false → told ≡ answer) → ran_out result ≡ false → TakesNothing answer result old new
refused fault answer result old new fed is nothing by lasts = record {
  answer = over_answer fault answer result fed.outcome is.answer (ap (λ (f : Feeding). f.outcome) nothing) by lasts;
  same = same_left (ran_out (seen result)) old new fed (ran_seen result ∙ lasts) (ap (λ (f : Feeding). f.endpoint) nothing) is.left;
}

pub feed_faults : (role : Role) (config : Config role) (result : Result Taken CoreFault) (old new : Endpoint) (piece : List ℕ) → IsFed (seen result) old (after_feed role config old piece) new
    → FeedStaysClosed role config old piece → FeedStaysFailed role config old piece → (ran_out result ≡ true → takes_octets old.end.phase ≡ true) → FeedFaults result old new
feed_faults role config result old new piece is closed failed memory = record {
  fails = fails_told result old new (after_feed role config old piece) is (feed_fails role config old piece);
  closed = λ e. refused events.AlreadyClosed core.Closed result old new (after_feed role config old piece) is (closed e) closed_told (kept_memory (ran_out result) old.end.phase memory (ap takes_octets e));
  failed = λ e. refused events.AlreadyFailed core.Failed result old new (after_feed role config old piece) is (failed e) failed_told (kept_memory (ran_out result) old.end.phase memory (ap takes_octets e));
}

-- an end that takes no octets does not answer that it ran out of memory
pub over_memory : (phase : channels.Phase) (code : CoreFault) → IsOver phase code → is_out_of_memory code ≡ true → takes_octets phase ≡ true
over_memory phase core.Closed over ran = absurd (false≢true ran)
over_memory phase core.Failed over ran = absurd (false≢true ran)
over_memory phase (core.Peer reason) over ran = absurd over
over_memory phase core.Fatal over ran = absurd over
over_memory phase core.OutOfMemory over ran = absurd over

-- an end that is over takes no octets
pub over_takes : (phase : channels.Phase) (code : CoreFault) → IsOver phase code → takes_octets phase ≡ true → ⊥
over_takes phase core.Closed over takes = false≢true (sym (ap takes_octets over) ∙ takes)
over_takes phase core.Failed over takes = false≢true (sym (ap takes_octets over) ∙ takes)
over_takes phase (core.Peer reason) over takes = over
over_takes phase core.Fatal over takes = over
over_takes phase core.OutOfMemory over takes = over

-- and one that takes octets has not failed
pub takes_unfailed : (phase : channels.Phase) → takes_octets phase ≡ true → is_failed phase ≡ false
takes_unfailed channels.Failed takes = absurd (false≢true takes)
takes_unfailed phase takes = refl

-- what is seen of an answer holds of the answer
pub ok_seen : (result : Result Taken CoreFault) → IsOk (seen result) → IsOk result
ok_seen (Ok taken) ok = ok
ok_seen (Err fault) ok = ok

pub count_seen : (result : Result Taken CoreFault) (P : ℕ → Type 0) → IfOk (seen result) (λ taken. P taken.octets) → IfOk result (λ taken. P taken.octets)
count_seen (Ok taken) P holds = holds
count_seen (Err fault) P holds = holds

-- So it is where events lend.

over_lent : (fault : events.Fault) (answer : CoreFault) (result : Result LentSeen CoreFault) (outcome : Outcome) → AnswersLent result outcome → outcome ≡ Found fault
    → ((told : CoreFault) → Reports told (Found fault) → is_out_of_memory told ≡ false → told ≡ answer) → ran_out result ≡ false → result ≡ Err answer
over_lent fault answer (Ok seen) outcome answers is by lasts = absurd (subst (λ (o : Outcome). AnswersLent (Ok seen) o) is answers)
over_lent fault answer (Err told) outcome answers is by lasts = ap Err (by told (subst (λ (o : Outcome). AnswersLent (Err told) o) is answers) lasts)

fails_lent : (role : Role) (config : Config role) (result : Result LentSeen CoreFault) (old new : Endpoint) (piece : List ℕ) (fed : Feeding) → IsLent role config result old piece fed new → FailsWith fed.outcome fed.endpoint.end.phase → IfErr result (λ fault. FailsAfter fault new.end.phase)
fails_lent role config (Ok seen) old new piece fed is fails = tt
fails_lent role config (Err fault) old new piece fed is fails = told_failed fault old fed new.end.phase is.answer is.left.end.phase fails

stays_same : (old new : Endpoint) → new ≡ old → SameEndpoint old new
stays_same old new e = subst (λ (x : Endpoint). SameEndpoint old x) (sym e) (record { end = record { phase = refl; agreed = refl; no_channel = refl; channels = λ running. refl }; unfinished = refl; output = refl })

pub lent_faults : (role : Role) (config : Config role) (result : Result LentSeen CoreFault) (old new : Endpoint) (piece : List ℕ) → IsLent role config result old piece (after_feed role config old piece) new
    → FeedStaysClosed role config old piece → FeedStaysFailed role config old piece → (ran_out result ≡ true → takes_octets old.end.phase ≡ true) → (takes_octets old.end.phase ≡ false → new ≡ old) → FeedFaults result old new
lent_faults role config result old new piece is closed failed memory over = record {
  fails = fails_lent role config result old new piece (after_feed role config old piece) is (feed_fails role config old piece);
  closed = λ e.
      let stays = closed e in
      record {
        answer = over_lent events.AlreadyClosed core.Closed result (after_feed role config old piece).outcome is.answer (ap (λ (f : Feeding). f.outcome) stays) closed_told (kept_memory (ran_out result) old.end.phase memory (ap takes_octets e));
        same = stays_same old new (over (ap takes_octets e));
      };
  failed = λ e.
      let stays = failed e in
      record {
        answer = over_lent events.AlreadyFailed core.Failed result (after_feed role config old piece).outcome is.answer (ap (λ (f : Feeding). f.outcome) stays) failed_told (kept_memory (ran_out result) old.end.phase memory (ap takes_octets e));
        same = stays_same old new (over (ap takes_octets e));
      };
}
