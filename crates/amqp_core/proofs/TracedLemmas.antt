-- An end that is kept with its history: what a feed and a write make of it.
use Rattle.std.proofs.Common.{◌≡◌, ◌≤◌, ◌+◌, arith, Result, Ok, Err, OnOk, OnErr, IfErr, is_err, cond, Bool, true, false, ℕ, List, [], ◌++◌, length, take, Option, Some, refl, ap, sym, ◌∙◌, subst}
use Rattle.std.proofs.Math.Logic.{∥∥₁_elim, ∥∥₁_map, ∥∥₁_map₂, ∥∥₁_prop}
use Rattle.std.proofs.lemmas.Bool.{false≢true}
use Rattle.std.proofs.lemmas.List.{append-nil}
use Rattle.amqp_model.specs.End.Channels.{End, Phase, Closed}
use Rattle.amqp_model.specs.Laws.EndLaws.{FailedIsRead, VerdictOfHistory}
use Rattle.amqp_model.specs.End.EndVerdict.{takes_octets}
use Rattle.amqp_model.specs.End.Asks.{Ask}
use Rattle.amqp_model.specs.Stream.Endpoint.{Endpoint, Feeding, after_feed, after_wrote, new_endpoint, refusal_in}
use Rattle.amqp_model.specs.End.Events.{Fault, AlreadyClosed, AlreadyFailed}
use Rattle.amqp_model.specs.End.Fitting.{ConfigWrites}
use Rattle.amqp_model.specs.Laws.FittingLaws.{AllReadsBack}
use Rattle.amqp_model.specs.Wire.Frame.{Frame}
use Rattle.amqp_model.specs.Wire.Methods.{Method}
use Rattle.amqp_model.specs.History.Histories.{History}
use Rattle.amqp_model.specs.Wire.Items.{Item}
use Rattle.amqp_model.specs.History.Negotiation.{Config}
use Rattle.amqp_model.specs.Wire.Notes.{Role}
use Rattle.amqp_model.specs.Laws.OctetLaws.{EndpointStandsFor, FeedStaysClosed, FeedStaysFailed, Follows, NewStands, WroteFollows, FailedWrites, nothing_taken}
use Rattle.amqp_model.specs.Output.Outputs.{output_octets}
use Rattle.amqp_model.specs.Stream.RunningOut.{RunsOut, RanOutWrites}
use Rattle.amqp_model.specs.Stream.Traces.{Noted, PutsTellNothing, SaysMethod, TellsEvent, TracePuts}
use Rattle.amqp_core.specs.Traced.AccountView.{IsAccount}
use Rattle.amqp_core.specs.Asks.Effects.{RefusesAsk}
use Rattle.amqp_core.specs.Faults.Answering.{Reports, is_out_of_memory, ran_out}
use Rattle.amqp_core.specs.End.Following.{GoesOn}
use Rattle.amqp_core.specs.End.Feeding.{IsFed, SameButChannels, SameEndpoint, ran_out_of, Seen}
use Rattle.amqp_core.specs.Connection.Outcomes.{SameEnd}
use Rattle.amqp_core.specs.Faults.Overs.{IsOver}
use Rattle.amqp_core.specs.Connection.Owed.{owed_view}
use Rattle.amqp_core.specs.Config.Settings.{config_view, role_for}
use Rattle.amqp_core.specs.Traced.Tracing as tracing
use Rattle.amqp_model.specs.Stream.Grown as grown
use Rattle.amqp_core.specs.Traced.Tracing.{FedGrows, Kept, IsTraceOf, Stands, SameLists, TraceGoesOn, TraceGrows}
use Rattle.amqp_core.specs.declared.faults.AskFault.{AskFault}
use Rattle.amqp_core.specs.declared.faults.CoreFault.{CoreFault}
use Rattle.amqp_core.specs.declared.faults.CoreFault.TheVariants as core
use Rattle.amqp_core.specs.declared.owed.Owed.{Owed}
use Rattle.amqp_core.specs.declared.settings.Settings.{Settings}
use Rattle.amqp_core.proofs.FollowTrace.{ListsGrow, TraceLaws, follow-trace, stood}
use Rattle.amqp_core.proofs.OfHistoryLemmas.{ReadsEach}
use Rattle.amqp_core.proofs.StandingLemmas.{failed_takes, stands-out, stands-wrote}

-- the same end, with the same lists
pub same-kept : (one other : Kept) → other.endpoint ≡ one.endpoint → other.notes ≡ one.notes → other.told ≡ one.told → other.said ≡ one.said → other.fed ≡ one.fed → other.written ≡ one.written → other ≡ one
same-kept one other endpoint notes told said fed written = λ i. record { endpoint = endpoint i; notes = notes i; told = told i; said = said i; fed = fed i; written = written i }

-- lists that were the same before the octets were fed
pub fed-grows : (out_of_memory : Bool) (piece : List ℕ) (fed : Feeding) (old ready new : Kept) → SameLists old ready → FedGrows out_of_memory piece fed ready new → FedGrows out_of_memory piece fed old new
fed-grows true piece fed old ready new same lists = record {
  notes = same.notes ∙ lists.notes;
  told = same.told ∙ lists.told;
  said = same.said ∙ lists.said;
  fed = same.fed ∙ lists.fed;
  written = same.written ∙ lists.written;
}
fed-grows false piece fed old ready new same grows = (grows.0 ∙ ap (λ l. l ++ take fed.taken piece) (sym same.fed), grows.1 ∙ sym same.written)

closed_takes : (phase : Phase) → phase ≡ Closed → takes_octets phase ≡ true → ⊥
closed_takes phase e t = false≢true (sym (ap takes_octets e) ∙ t)

by_standing : (settings : Settings) (old new : Kept) (piece : List ℕ) (fed : Feeding) (count : ℕ) (took : Option Noted) (item : Option Item) (owed : Owed) (history : History)
    → ∥ TraceLaws (role_for settings) (config_view settings) ∥₁ → takes_octets old.endpoint.end.phase ≡ true
    → ListsGrow (role_for settings) old new took item owed
    → IsAccount (role_for settings) (config_view settings) old.endpoint piece fed count (record { took = took; item = item; owed = owed_view settings owed })
    → new.fed ≡ old.fed ++ take fed.taken piece → new.written ≡ old.written
    → (EndpointStandsFor (role_for settings) (config_view settings) old.endpoint history old.fed old.written → ∥ Follows (role_for settings) (config_view settings) old.endpoint history old.fed old.written piece (record { endpoint = new.endpoint; taken = fed.taken; outcome = fed.outcome }) ∥₁)
    → IsTraceOf (role_for settings) (config_view settings) old history → Stands (role_for settings) (config_view settings) old history
    → ∥ TraceGrows (role_for settings) (config_view settings) old.endpoint piece fed history new ∥₁
by_standing settings old new piece fed count took item owed history laws octets grow account f w follows traced (tracing.stands stands) =
    ∥∥₁_map₂ laws (follows stands) (λ l then. follow-trace settings old new piece fed count took item owed history l grow account f w traced stands (λ closed. closed_takes old.endpoint.end.phase closed octets) then)
by_standing settings old new piece fed count took item owed history laws octets grow account f w follows traced (tracing.failed limit opening opens failed shown) =
    absurd (failed_takes old.endpoint.end.phase (sym failed.stands.phase) octets)
by_standing settings old new piece fed count took item owed history laws octets grow account f w follows traced (tracing.ran_out unfinished out) =
    absurd (failed_takes old.endpoint.end.phase out.failed octets)

-- A piece came to this, and the lists have grown by it.
pub traced-feed : (settings : Settings) (old new : Kept) (piece : List ℕ) (fed : Feeding) (count : ℕ) (took : Option Noted) (item : Option Item) (owed : Owed) (history : History)
    → ∥ TraceLaws (role_for settings) (config_view settings) ∥₁ → takes_octets old.endpoint.end.phase ≡ true
    → ListsGrow (role_for settings) old new took item owed
    → IsAccount (role_for settings) (config_view settings) old.endpoint piece fed count (record { took = took; item = item; owed = owed_view settings owed })
    → new.fed ≡ old.fed ++ take fed.taken piece → new.written ≡ old.written
    → (EndpointStandsFor (role_for settings) (config_view settings) old.endpoint history old.fed old.written → ∥ Follows (role_for settings) (config_view settings) old.endpoint history old.fed old.written piece (record { endpoint = new.endpoint; taken = fed.taken; outcome = fed.outcome }) ∥₁)
    → IsTraceOf (role_for settings) (config_view settings) old history
    → ∥ TraceGrows (role_for settings) (config_view settings) old.endpoint piece fed history new ∥₁
traced-feed settings old new piece fed count took item owed history laws octets grow account f w follows traced =
    by_standing settings old new piece fed count took item owed history laws octets grow account f w follows traced traced.stands

-- Out of memory.
pub traced-out : (role : Role) (config : Config role) (old new : Kept) (history : History)
    → ((end next : End) → FailedIsRead role config end next history) → RunsOut role config old.endpoint history old.fed old.written
    → takes_octets old.endpoint.end.phase ≡ true → SameEndpoint (ran_out_of old.endpoint) new.endpoint → SameLists old new
    → IsTraceOf role config old history → IsTraceOf role config new history
traced-out role config old new history law runs octets same lists traced = record {
  noted = sym lists.notes ∙ traced.noted;
  told = sym lists.told ∙ traced.told;
  said = sym lists.said ∙ traced.said;
  stands = stands-out role config old new history law runs octets same (sym lists.fed) (sym lists.written) traced.stands;
}

-- where there is none to keep a message that was told, all else is as it was
pub out-kept : (old mid new : Endpoint) → SameButChannels old mid → SameEndpoint (ran_out_of mid) new → SameEndpoint (ran_out_of old) new
out-kept old mid new same out = record {
  end = record { phase = out.end.phase; agreed = same.agreed ∙ out.end.agreed; no_channel = same.no_channel ∙ out.end.no_channel; channels = λ running. absurd (running refl) };
  unfinished = out.unfinished;
  output = same.output ∙ out.output;
}

-- the same, of what a feed answers
pub traced-ran-out : (role : Role) (config : Config role) (b : Bool) (old new : Kept) (piece : List ℕ) (fed : Feeding) (history : History) → b ≡ true
    → ((end next : End) → FailedIsRead role config end next history) → RunsOut role config old.endpoint history old.fed old.written
    → takes_octets old.endpoint.end.phase ≡ true → SameEndpoint (cond b (ran_out_of old.endpoint) fed.endpoint) new.endpoint → SameLists old new
    → IsTraceOf role config old history → ∥ TraceGoesOn role config b old.endpoint piece fed history new ∥₁
traced-ran-out role config true old new piece fed history e law runs octets same lists traced = ∣ traced-out role config old new history law runs octets same lists traced ∣₁
traced-ran-out role config false old new piece fed history e law runs octets same lists traced = absurd (false≢true e)

-- the lists of an end, of which the code knows the role by its side
pub lists-grow : (side role : Role) (old new : Kept) (took : Option Noted) (item : Option Item) (owed : Owed) → side ≡ role → ListsGrow side old new took item owed → ListsGrow role old new took item owed
lists-grow side role old new took item owed e grow = subst (λ r. ListsGrow r old new took item owed) e grow

-- and what a feed makes of them that didn't run out of memory
pub traced-took : (settings : Settings) (b : Bool) (old new : Kept) (piece : List ℕ) (fed : Feeding) (count : ℕ) (took : Option Noted) (item : Option Item) (owed : Owed) (history : History) → b ≡ false
    → ∥ TraceLaws (role_for settings) (config_view settings) ∥₁ → takes_octets old.endpoint.end.phase ≡ true
    → ListsGrow (role_for settings) old new took item owed
    → IsAccount (role_for settings) (config_view settings) old.endpoint piece fed count (record { took = took; item = item; owed = owed_view settings owed })
    → new.fed ≡ old.fed ++ take count piece → new.written ≡ old.written
    → (EndpointStandsFor (role_for settings) (config_view settings) old.endpoint history old.fed old.written → ∥ GoesOn (role_for settings) (config_view settings) b old.endpoint history old.fed old.written piece fed new.endpoint ∥₁)
    → IsTraceOf (role_for settings) (config_view settings) old history
    → ∥ TraceGoesOn (role_for settings) (config_view settings) b old.endpoint piece fed history new ∥₁
traced-took settings true old new piece fed count took item owed history e laws octets grow account f w follows traced = absurd (false≢true (sym e))
traced-took settings false old new piece fed count took item owed history e laws octets grow account f w follows traced =
    traced-feed settings old new piece fed count took item owed history laws octets grow account (f ∙ ap (λ n. old.fed ++ take n piece) account.octets_are) w follows traced

-- A feed of an end that is closed or has failed.
pub traced-over : (role : Role) (config : Config role) (kept : Kept) (piece : List ℕ) (fed : Feeding) (history : History) (fault : Fault)
    → refusal_in kept.endpoint.end.phase ≡ Some fault → fed ≡ nothing_taken kept.endpoint fault → IsTraceOf role config kept history
    → TraceGrows role config kept.endpoint piece fed history kept
traced-over role config kept piece fed history fault over is traced = record { after = history; grows = grown.refuses fault over is; trace = traced }

-- A write.
pub traced-wrote : (role : Role) (config : Config role) (old new : Kept) (history : History) (n : ℕ)
    → ((endpoint : Endpoint) → WroteFollows role config endpoint history old.fed old.written n)
    → ((limit : ℕ) (opening : List ℕ) → FailedWrites role config limit opening history old.fed old.written old.endpoint n)
    → ((endpoint : Endpoint) → RanOutWrites role config endpoint history old.fed old.written n)
    → n ≤ length (output_octets old.endpoint.output)
    → new.endpoint ≡ after_wrote n old.endpoint → new.notes ≡ old.notes → new.told ≡ old.told → new.said ≡ old.said → new.fed ≡ old.fed
    → new.written ≡ old.written ++ take n (output_octets old.endpoint.output)
    → IsTraceOf role config old history → IsTraceOf role config new history
traced-wrote role config old new history n wrote failed out within endpoint_is notes_are told_are said_are fed_is written_is traced = record {
  noted = notes_are ∙ traced.noted;
  told = told_are ∙ traced.told;
  said = said_are ∙ traced.said;
  stands = stands-wrote role config old new history n wrote failed out within endpoint_is fed_is written_is traced.stands;
}

-- Whatever comes of a piece, the end is a trace of some history then.

trace_after : (role : Role) (config : Config role) (b : Bool) (old : Endpoint) (piece : List ℕ) (fed : Feeding) (history : History) (new : Kept)
    → TraceGoesOn role config b old piece fed history new → (after : History) × IsTraceOf role config new after
trace_after role config true old piece fed history new trace = (history, trace)
trace_after role config false old piece fed history new grows = (grows.after, grows.trace)

pub traces-on : (role : Role) (config : Config role) (b : Bool) (old new : Kept) (piece : List ℕ) (fed : Feeding)
    → ∥ ((history : History) × IsTraceOf role config old history) ∥₁
    → ((history : History) → IsTraceOf role config old history → ∥ TraceGoesOn role config b old.endpoint piece fed history new ∥₁)
    → ∥ ((history : History) × IsTraceOf role config new history) ∥₁
traces-on role config b old new piece fed there on =
    ∥∥₁_elim there ∥∥₁_prop (λ t. ∥∥₁_map (on t.0 t.1) (λ next. trace_after role config b old.endpoint piece fed t.0 new next))

pub traces-same : (role : Role) (config : Config role) (old new : Kept) → ((history : History) → IsTraceOf role config old history → IsTraceOf role config new history)
    → ∥ ((history : History) × IsTraceOf role config old history) ∥₁ → ∥ ((history : History) × IsTraceOf role config new history) ∥₁
traces-same role config old new on there = ∥∥₁_map there (λ t. (t.0, on t.0 t.1))

-- the laws that the lists go by
pub trace-laws : (role : Role) (config : Config role)
    → ((frames : List Frame) (history : History) → TracePuts frames history) → ((history : History) (frame : Frame) → TellsEvent role config history frame)
    → ((frames : List Frame) (history : History) → PutsTellNothing role config frames history) → ((channel : ℕ) (method : Method) (history : History) → SaysMethod role channel method history)
    → ((end : End) (history : History) (frame : Frame) → VerdictOfHistory role config false end history frame) → ((end : End) (history : History) → ReadsEach role end history) → AllReadsBack role config → ∥ ConfigWrites config ∥₁ → ∥ TraceLaws role config ∥₁
trace-laws role config puts tells puts_tell says verdict reads back writes =
    ∥∥₁_map writes (λ w. record { puts = puts; tells = tells; puts_tell = puts_tell; says = says; verdict = verdict; reads = reads; writes = back w })

-- What stays between two calls.

-- nothing that is kept has changed
pub traced-same : (role : Role) (config : Config role) (old new : Kept) (history : History) → new.endpoint ≡ old.endpoint → SameLists old new → IsTraceOf role config old history → IsTraceOf role config new history
traced-same role config old new history endpoint lists traced =
    let same : new ≡ old = λ i. record { endpoint = endpoint i; notes = sym lists.notes i; told = sym lists.told i; said = sym lists.said i; fed = sym lists.fed i; written = sym lists.written i } in
    subst (λ (k : Kept). IsTraceOf role config k history) (sym same) traced

pub same-then : (one two three : Kept) → SameLists one two → SameLists two three → SameLists one three
same-then one two three first second = record {
  notes = first.notes ∙ second.notes;
  told = first.told ∙ second.told;
  said = first.said ∙ second.said;
  fed = first.fed ∙ second.fed;
  written = first.written ∙ second.written;
}

-- what an end is set up with stays
pub traces-kept : (one other : Settings) (kept : Kept) → other ≡ one → ∥ ((history : History) × IsTraceOf (role_for one) (config_view one) kept history) ∥₁
    → ∥ ((history : History) × IsTraceOf (role_for other) (config_view other) kept history) ∥₁
traces-kept one other kept e there = subst (λ (s : Settings). ∥ ((history : History) × IsTraceOf (role_for s) (config_view s) kept history) ∥₁) (sym e) there

pub trace-kept : (one other : Settings) (kept : Kept) (history : History) → other ≡ one → IsTraceOf (role_for one) (config_view one) kept history → IsTraceOf (role_for other) (config_view other) kept history
trace-kept one other kept history e traced = subst (λ (s : Settings). IsTraceOf (role_for s) (config_view s) kept history) (sym e) traced

-- An end as it begins.
pub traced-new : (role : Role) (config : Config role) (kept : Kept) → NewStands role config → kept.endpoint ≡ new_endpoint role → kept.notes ≡ [] → kept.told ≡ [] → kept.said ≡ [] → kept.fed ≡ [] → kept.written ≡ []
    → IsTraceOf role config kept []
traced-new role config kept law endpoint notes told said fed written = record {
  noted = notes;
  told = told;
  said = said;
  stands = stood role config kept [] [] [] fed written (subst (λ (e : Endpoint). EndpointStandsFor role config e [] [] []) (sym endpoint) law);
}

-- Asks.

pub put-room : {A : Type 0} (result : Result A AskFault) (role : Role) (ask : Ask) (old new : Endpoint) (most written capacity : ℕ)
    → OnOk result (length (output_octets new.output) ≤ length (output_octets old.output) + most) → IfErr result (λ fault. RefusesAsk role ask fault old new)
    → written + (length (output_octets old.output) + most) ≤ capacity → written + length (output_octets new.output) ≤ capacity
put-room (Ok value) role ask old new most written capacity grows refused fits = omega (arith, grows, fits)
put-room (Err fault) role ask old new most written capacity grows refused fits =
    let same : length (output_octets new.output) ≡ length (output_octets old.output) = ap (λ (e : Endpoint). length (output_octets e.output)) refused.same in
    omega (arith, same, fits)

-- whether the ask is accepted or refused, the end is a trace of some history
pub put-traces : {A : Type 0} (result : Result A AskFault) (role : Role) (config : Config role) (ask : Ask) (old new : Kept) (after : History → History)
    → OnOk result ((history : History) → IsTraceOf role config old history → ∥ IsTraceOf role config new (after history) ∥₁)
    → OnErr result (SameLists old new) → IfErr result (λ fault. RefusesAsk role ask fault old.endpoint new.endpoint)
    → ∥ ((history : History) × IsTraceOf role config old history) ∥₁ → ∥ ((history : History) × IsTraceOf role config new history) ∥₁
put-traces (Ok value) role config ask old new after follows same refused there =
    ∥∥₁_elim there ∥∥₁_prop (λ t. ∥∥₁_map (follows t.0 t.1) (λ next. (after t.0, next)))
put-traces (Err fault) role config ask old new after follows same refused there =
    traces-same role config old new (λ history traced. traced-same role config old new history refused.same same traced) there

-- room was made before
pub asked-after : {A : Type 0} (result : Result A AskFault) (role : Role) (config : Config role) (old ready new : Kept) (after : History → History) → ready.endpoint ≡ old.endpoint → SameLists old ready
    → OnOk result ((history : History) → IsTraceOf role config ready history → ∥ IsTraceOf role config new (after history) ∥₁)
    → OnOk result ((history : History) → IsTraceOf role config old history → ∥ IsTraceOf role config new (after history) ∥₁)
asked-after (Ok value) role config old ready new after endpoint same follows = λ history traced. follows history (traced-same role config old ready history endpoint same traced)
asked-after (Err fault) role config old ready new after endpoint same follows = tt

pub refused-after : {A : Type 0} (result : Result A AskFault) (old ready new : Kept) → SameLists old ready → OnErr result (SameLists ready new) → OnErr result (SameLists old new)
refused-after (Ok value) old ready new first second = tt
refused-after (Err fault) old ready new first second = same-then old ready new first second

-- A feed of an end that is closed or has failed.

-- what comes of it: a fault, and nothing else
pub record OverFeed (role : Role) (config : Config role) (kept : Kept) (piece : List ℕ) (fed : Feeding) (answer : Result Seen CoreFault) : Type 0 where
  pub is_fed : IsFed answer kept.endpoint fed kept.endpoint
  pub octets : FedGrows (ran_out answer) piece fed kept kept
  pub history : (history : History) → IsTraceOf role config kept history → ∥ TraceGoesOn role config (ran_out answer) kept.endpoint piece fed history kept ∥₁

same_end : (end : End) → SameEnd end end
same_end end = record { phase = refl; agreed = refl; no_channel = refl; channels = λ running. refl }

left_over : (endpoint : Endpoint) (fed : Feeding) (fault : Fault) → fed ≡ nothing_taken endpoint fault → SameEndpoint fed.endpoint endpoint
left_over endpoint fed fault e = subst (λ (x : Feeding). SameEndpoint x.endpoint endpoint) (sym e) (record { end = same_end endpoint.end; unfinished = refl; output = refl })

by_fault : (role : Role) (config : Config role) (kept : Kept) (piece : List ℕ) (fed : Feeding) (fault : Fault) (code : CoreFault) → refusal_in kept.endpoint.end.phase ≡ Some fault → fed ≡ nothing_taken kept.endpoint fault
    → is_out_of_memory code ≡ false → Reports code fed.outcome → OverFeed role config kept piece fed (Err code)
by_fault role config kept piece fed fault code over e kept_going reports =
    let none : fed.taken ≡ 0 = ap (λ (f : Feeding). f.taken) e in
    record {
      is_fed = record { answer = reports; taken = tt; left = subst (λ b. SameEndpoint (cond b (ran_out_of kept.endpoint) fed.endpoint) kept.endpoint) (sym kept_going) (left_over kept.endpoint fed fault e) };
      octets = subst (λ b. FedGrows b piece fed kept kept) (sym kept_going) (sym (ap (λ n. kept.fed ++ take n piece) none ∙ append-nil kept.fed), refl);
      history = λ history traced. subst (λ b. ∥ TraceGoesOn role config b kept.endpoint piece fed history kept ∥₁) (sym kept_going) ∣ traced-over role config kept piece fed history fault over e traced ∣₁;
    }

pub over-feed : (role : Role) (config : Config role) (kept : Kept) (piece : List ℕ) (code : CoreFault) → FeedStaysClosed role config kept.endpoint piece → FeedStaysFailed role config kept.endpoint piece → IsOver kept.endpoint.end.phase code → OverFeed role config kept piece (after_feed role config kept.endpoint piece) (Err code)
over-feed role config kept piece core.Closed closed failed over =
    by_fault role config kept piece (after_feed role config kept.endpoint piece) AlreadyClosed core.Closed (ap refusal_in over) (closed over) refl (ap (λ (f : Feeding). f.outcome) (closed over))
over-feed role config kept piece core.Failed closed failed over =
    by_fault role config kept piece (after_feed role config kept.endpoint piece) AlreadyFailed core.Failed (ap refusal_in over) (failed over) refl (ap (λ (f : Feeding). f.outcome) (failed over))
over-feed role config kept piece (core.Peer reason) closed failed over = absurd over
over-feed role config kept piece core.Fatal closed failed over = absurd over
over-feed role config kept piece core.OutOfMemory closed failed over = absurd over

-- there is room
pub not-err : {A E : Type 0} {P : Type 0} (result : Result A E) → is_err result ≡ false → OnOk result P → P
not-err (Ok value) e p = p
not-err (Err fault) e p = absurd (false≢true (sym e))
