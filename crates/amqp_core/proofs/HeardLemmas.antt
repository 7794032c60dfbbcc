-- What is kept of the other end's words is what the definitions say.
use Rattle.std.proofs.Common.{◌≡◌, ◌&&◌, ◌==◌, ◌+◌, ◌<◌, ◌≤◌, Bool, true, false, cond, ℕ, List, [], ◌∷◌, ◌++◌, length, get_or, take, drop, insert, Option, Some, None, Result, Ok, Err, OnErr, OnOk, IsOk, refl, sym, ap, ◌∙◌, subst, add-one, drop-cons}
use Rattle.std.proofs.lemmas.Bool.{false≢true}
use Rattle.std.proofs.lemmas.List.{drop_all}
use Rattle.amqp_frame.specs.Frame as frames
use Rattle.amqp_frame.specs.Splitting.{IsRest}
use Rattle.amqp_frame.specs.declared.frames.FrameKind.{FrameKind}
use Rattle.amqp_method.specs.MethodView.{method_view}
use Rattle.amqp_method.specs.declared.kinds.Kind.TheVariants as kinds
use Rattle.amqp_method.specs.declared.methods.Method as code
use Rattle.amqp_model.specs.End.Closes.{Cause}
use Rattle.amqp_model.specs.End.Channels.{End, Phase, Handshake, Running, Closing, Closed, Failed}
use Rattle.amqp_model.specs.End.EndVerdict.{goes_on}
use Rattle.amqp_model.specs.End.Events as events
use Rattle.amqp_model.specs.End.FrameVerdict.{is_awaited}
use Rattle.amqp_model.specs.End.Heard as model
use Rattle.amqp_model.specs.End.Heard.{awaited_by, heard_after, hears, or_earlier}
use Rattle.amqp_model.specs.End.Machine.{taken_verdict}
use Rattle.amqp_model.specs.History.Negotiation.{Config, frame_limit}
use Rattle.amqp_model.specs.Laws.OctetLaws.{IsWhole, OneIsSaid, event_of_frame}
use Rattle.amqp_model.specs.Stream.Endpoint.{Endpoint, Feeding, Begun, Whole, after_judged, awaits_opening, holds_octets}
use Rattle.amqp_model.specs.Stream.Pieces.{reads_frames, with_taken}
use Rattle.amqp_model.specs.Wire.Contents.{Content}
use Rattle.amqp_model.specs.Wire.Frame.{Frame}
use Rattle.amqp_model.specs.Wire.Methods.{Method, MethodKind, same_kind}
use Rattle.amqp_model.specs.Wire.Notes.{Role}
use Rattle.amqp_model.specs.Wire.Readings.{Reading, Calls, reading as says}
use Rattle.amqp_channel.specs.Events.Closes.{IsClose}
use Rattle.amqp_channel.specs.Verdict.VerdictView.{event_told as channel_told, whole_now}
use Rattle.amqp_channel.specs.declared.verdict.Told.{Told}
use Rattle.amqp_channel.specs.declared.verdict.Told.TheVariants as told
use Rattle.amqp_channel.specs.declared.verdict.Verdict.TheVariants as ruled
use Rattle.amqp_core.specs.Faults.Answering.{is_out_of_memory, ran_out}
use Rattle.amqp_core.specs.Heard.Causes.{cause_told, or_before}
use Rattle.amqp_core.specs.Connection.View.{frame_at}
use Rattle.amqp_core.specs.End.Feeding.{seen, taken_with}
use Rattle.amqp_core.specs.Connection.Handshakes.{awaited_in}
use Rattle.amqp_core.specs.Heard.Hearing.{Hears, HearsFrame}
use Rattle.amqp_core.specs.Heard.View.{Said, cause_here, closes_by, goes_by, heard_here, newest, notice_closes, said_after, said_by, said_in, told_closes}
use Rattle.amqp_core.specs.Config.Settings.{config_view}
use Rattle.amqp_core.specs.Stream.StepView.{seen_by, step_seen}
use Rattle.amqp_core.specs.Connection.Verdicts.{FitsEventOf, FrameRules, event_by, noticed, verdict_here}
use Rattle.amqp_core.specs.declared.faults.CoreFault.{CoreFault}
use Rattle.amqp_core.specs.declared.settings.Settings.{Settings}
use Rattle.amqp_core.specs.declared.step.Report.{Report}
use Rattle.amqp_core.specs.declared.step.Step.{Step}
use Rattle.amqp_core.specs.declared.taken.Taken.{Taken}
use Rattle.amqp_core.specs.declared.verdict.Notice.{Notice}
use Rattle.amqp_core.specs.declared.verdict.Notice.TheVariants as notice
use Rattle.amqp_core.specs.Connection.Rulings.{Ruling, OnChannel, OnConnection}
use Rattle.amqp_core.specs.declared.verdict.Verdict.TheVariants.{Proceeds, Faults}
use Rattle.amqp_core.proofs.AccountLemmas.{awaits_none, ends_frame, frame_or, is_begun, no_frames}
use Rattle.amqp_core.proofs.KindLemmas.{same_is}
use Rattle.amqp_core.proofs.LendLemmas.{event_is}

-- The slot of the method that a step awaits.

abbrev with_kind : MethodKind → Method → model.Heard → model.Heard
with_kind kind method kept =
    record {
      start = cond (same_kind kind kinds.ConnectionStart) (Some method) kept.start;
      start_ok = cond (same_kind kind kinds.ConnectionStartOk) (Some method) kept.start_ok;
      tune = cond (same_kind kind kinds.ConnectionTune) (Some method) kept.tune;
      tune_ok = cond (same_kind kind kinds.ConnectionTuneOk) (Some method) kept.tune_ok;
      connection_open = cond (same_kind kind kinds.ConnectionOpen) (Some method) kept.connection_open;
    }

kept_as : (method : Method) (kept : model.Heard) (kind : MethodKind) → same_kind method.kind kind ≡ true
    → heard_after (Some method) kept ≡ with_kind kind method kept
kept_as method kept kind e = ap (λ k. with_kind k method kept) (same_is method.kind kind e)

-- open-ok is kept nowhere
pub kept_nowhere : (method : Method) (kept : model.Heard) → same_kind method.kind kinds.ConnectionOpenOk ≡ true
    → heard_after (Some method) kept ≡ kept
kept_nowhere method kept e = kept_as method kept kinds.ConnectionOpenOk e

-- a method that is kept before others
pub kept_first : (method : code.Method) (before : List code.Method) → said_in (insert before 0 method) ≡ heard_after (Some (method_view method)) (said_in before)
kept_first method [] = refl
kept_first method (one ∷ before) = refl

pub ruleset kept_in_step = (kept_first, kept_nowhere)

-- What is kept of a kind is the newest of the methods.

pub newest_start : (methods : List code.Method) → newest kinds.ConnectionStart methods ≡ (said_in methods).start
newest_start [] = refl
newest_start (method ∷ earlier) = ap (or_earlier kinds.ConnectionStart (Some (method_view method))) (newest_start earlier)

pub newest_start_ok : (methods : List code.Method) → newest kinds.ConnectionStartOk methods ≡ (said_in methods).start_ok
newest_start_ok [] = refl
newest_start_ok (method ∷ earlier) = ap (or_earlier kinds.ConnectionStartOk (Some (method_view method))) (newest_start_ok earlier)

pub newest_tune : (methods : List code.Method) → newest kinds.ConnectionTune methods ≡ (said_in methods).tune
newest_tune [] = refl
newest_tune (method ∷ earlier) = ap (or_earlier kinds.ConnectionTune (Some (method_view method))) (newest_tune earlier)

pub newest_tune_ok : (methods : List code.Method) → newest kinds.ConnectionTuneOk methods ≡ (said_in methods).tune_ok
newest_tune_ok [] = refl
newest_tune_ok (method ∷ earlier) = ap (or_earlier kinds.ConnectionTuneOk (Some (method_view method))) (newest_tune_ok earlier)

pub newest_open : (methods : List code.Method) → newest kinds.ConnectionOpen methods ≡ (said_in methods).connection_open
newest_open [] = refl
newest_open (method ∷ earlier) = ap (or_earlier kinds.ConnectionOpen (Some (method_view method))) (newest_open earlier)

pub ruleset newest_kept = (newest_start, newest_start_ok, newest_tune, newest_tune_ok, newest_open)

-- among those from a place on
pub newest_at : (kind : MethodKind) (methods : List code.Method) (i : ℕ) (d : code.Method) → i < length methods
    → newest kind (drop i methods) ≡ or_earlier kind (Some (method_view (get_or methods i d))) (newest kind (drop (i + 1) methods))
newest_at kind methods i d h = rw (add-one, drop-cons methods i d) refl

pub newest_here : (kind : MethodKind) (methods : List code.Method) (i : ℕ) (method d : code.Method) → i < length methods
    → method ≡ get_or methods i d → same_kind (method_view method).kind kind ≡ true → newest kind (drop i methods) ≡ Some (method_view method)
newest_here kind methods i method d h is same =
    let later = newest kind (drop (i + 1) methods) in
    newest_at kind methods i d h
    ∙ (ap (λ (m : code.Method). or_earlier kind (Some (method_view m)) later) (sym is)
    ∙ ap (λ (b : Bool). cond b (Some (method_view method)) later) same)

pub newest_later : (kind : MethodKind) (methods : List code.Method) (i : ℕ) (method d : code.Method) → i < length methods
    → method ≡ get_or methods i d → same_kind (method_view method).kind kind ≡ false
    → newest kind (drop i methods) ≡ newest kind (drop (i + 1) methods)
newest_later kind methods i method d h is other =
    let later = newest kind (drop (i + 1) methods) in
    newest_at kind methods i d h
    ∙ (ap (λ (m : code.Method). or_earlier kind (Some (method_view m)) later) (sym is)
    ∙ ap (λ (b : Bool). cond b (Some (method_view method)) later) other)

pub newest_past : (kind : MethodKind) (methods : List code.Method) (i : ℕ) → length methods ≤ i → newest kind (drop i methods) ≡ None
newest_past kind methods i h = rw (drop_all i methods h) refl

pub ruleset newest_from = (newest_at, newest_past)

-- The method that is awaited, on channel 0, where the end goes on.

none_either : (b : Bool) → ◌≡◌ {A = Option Method} None (cond b None None)
none_either true = refl
none_either false = refl

chosen : (awaited here goes : Bool) (method : Method)
    → cond (awaited && here && goes) (Some method) None ≡ cond (here && goes) (cond awaited (Some method) None) None
chosen true true true method = refl
chosen true true false method = refl
chosen true false goes method = refl
chosen false here goes method = none_either (here && goes)

awaited_heard : (phase : Phase) (number : ℕ) (reading : Reading) (goes : Bool)
    → heard_here phase number reading goes ≡ cond ((number == 0) && goes) (awaited_by phase reading) None
awaited_heard (Handshake step) number (Calls method) goes = chosen (is_awaited step method.kind) (number == 0) goes method
awaited_heard Running number (Calls method) goes = none_either ((number == 0) && goes)
awaited_heard Closing number (Calls method) goes = none_either ((number == 0) && goes)
awaited_heard Closed number (Calls method) goes = none_either ((number == 0) && goes)
awaited_heard Failed number (Calls method) goes = none_either ((number == 0) && goes)
awaited_heard (Handshake step) number reading goes = none_either ((number == 0) && goes)
awaited_heard Running number reading goes = none_either ((number == 0) && goes)
awaited_heard Closing number reading goes = none_either ((number == 0) && goes)
awaited_heard Closed number reading goes = none_either ((number == 0) && goes)
awaited_heard Failed number reading goes = none_either ((number == 0) && goes)

goes_is : (settings : Settings) (end : End) (number : ℕ) (reading : Reading) (verdict : Ruling)
    → goes_by verdict ≡ goes_on (verdict_here settings end number reading verdict)
goes_is settings end number reading (OnChannel (ruled.Proceeds said answer)) = refl
goes_is settings end number reading (OnChannel ruled.RefusesContent) = refl
goes_is settings end number reading (OnChannel (ruled.Faults code)) = refl
goes_is settings end number reading (OnConnection (Proceeds notice stage owed)) = refl
goes_is settings end number reading (OnConnection (Faults fault)) = refl

-- What a close is about.

cause_of_whole : (number : ℕ) (whole : Option Content) (reading : Reading)
    → cause_here reading false ≡ cause_told (channel_told number reading whole told.Completed) reading
cause_of_whole number (Some content) (Calls method) = refl
cause_of_whole number None (Calls method) = refl
cause_of_whole number (Some content) reading = refl
cause_of_whole number None reading = refl

cause_of_told : (number : ℕ) (whole : Option Content) (reading : Reading) (said : Told)
    → cause_here reading (told_closes said) ≡ cause_told (channel_told number reading whole said) reading
cause_of_told number whole reading told.Completed = cause_of_whole number whole reading
cause_of_told number whole (Calls method) told.Method = refl
cause_of_told number whole (Calls method) told.Begun = refl
cause_of_told number whole (Calls method) told.Headed = refl
cause_of_told number whole (Calls method) told.Continued = refl
cause_of_told number whole (Calls method) told.Opened = refl
cause_of_told number whole (Calls method) (told.Flow active) = refl
cause_of_told number whole (Calls method) (told.FlowOk active) = refl
cause_of_told number whole (Calls method) told.ClosedByPeer = refl
cause_of_told number whole (Calls method) told.ClosedByUs = refl
cause_of_told number whole (Calls method) told.Discarded = refl
cause_of_told number whole (Calls method) told.Quiet = refl
cause_of_told number whole reading told.Method = refl
cause_of_told number whole reading told.Begun = refl
cause_of_told number whole reading told.Headed = refl
cause_of_told number whole reading told.Continued = refl
cause_of_told number whole reading told.Opened = refl
cause_of_told number whole reading (told.Flow active) = refl
cause_of_told number whole reading (told.FlowOk active) = refl
cause_of_told number whole reading told.ClosedByPeer = refl
cause_of_told number whole reading told.ClosedByUs = refl
cause_of_told number whole reading told.Discarded = refl
cause_of_told number whole reading told.Quiet = refl

cause_of_notice : (number : ℕ) (reading : Reading) (said : Notice)
    → cause_here reading (notice_closes said) ≡ cause_told (noticed number reading said) reading
cause_of_notice number (Calls method) notice.Quiet = refl
cause_of_notice number (Calls method) notice.Discarded = refl
cause_of_notice number (Calls method) notice.AnswerAsked = refl
cause_of_notice number (Calls method) notice.LoginAsked = refl
cause_of_notice number (Calls method) notice.OpenAsked = refl
cause_of_notice number (Calls method) (notice.Negotiated agreed) = refl
cause_of_notice number (Calls method) notice.ClosedByPeer = refl
cause_of_notice number (Calls method) notice.ClosedByUs = refl
cause_of_notice number (Calls method) notice.Blocked = refl
cause_of_notice number (Calls method) notice.Unblocked = refl
cause_of_notice number reading notice.Quiet = refl
cause_of_notice number reading notice.Discarded = refl
cause_of_notice number reading notice.AnswerAsked = refl
cause_of_notice number reading notice.LoginAsked = refl
cause_of_notice number reading notice.OpenAsked = refl
cause_of_notice number reading (notice.Negotiated agreed) = refl
cause_of_notice number reading notice.ClosedByPeer = refl
cause_of_notice number reading notice.ClosedByUs = refl
cause_of_notice number reading notice.Blocked = refl
cause_of_notice number reading notice.Unblocked = refl

none_closes : (reading : Reading) → cause_here reading false ≡ None
none_closes (Calls method) = refl
none_closes reading = refl

cause_is : (settings : Settings) (end : End) (number : ℕ) (reading : Reading) (verdict : Ruling)
    → cause_here reading (closes_by verdict) ≡ cause_told (event_by number (verdict_here settings end number reading verdict)) reading
cause_is settings end number reading (OnChannel (ruled.Proceeds said answer)) =
    cause_of_told number (whole_now (end.channels number) reading) reading said
cause_is settings end number reading (OnChannel ruled.RefusesContent) = none_closes reading
cause_is settings end number reading (OnChannel (ruled.Faults code)) = none_closes reading
cause_is settings end number reading (OnConnection (Proceeds notice stage owed)) = cause_of_notice number reading notice
cause_is settings end number reading (OnConnection (Faults fault)) = none_closes reading

-- the frame is a close where its verdict says so
pub is_close : (verdict : Ruling) (method : Method) → FitsEventOf (Calls method) verdict → closes_by verdict ≡ true → IsClose method.kind
is_close (OnChannel (ruled.Proceeds told.ClosedByPeer answer)) method fits e = subst (λ k. IsClose k) (sym fits) tt
is_close (OnChannel (ruled.Proceeds told.Method answer)) method fits e = absurd (false≢true e)
is_close (OnChannel (ruled.Proceeds told.Begun answer)) method fits e = absurd (false≢true e)
is_close (OnChannel (ruled.Proceeds told.Headed answer)) method fits e = absurd (false≢true e)
is_close (OnChannel (ruled.Proceeds told.Continued answer)) method fits e = absurd (false≢true e)
is_close (OnChannel (ruled.Proceeds told.Completed answer)) method fits e = absurd (false≢true e)
is_close (OnChannel (ruled.Proceeds told.Opened answer)) method fits e = absurd (false≢true e)
is_close (OnChannel (ruled.Proceeds (told.Flow active) answer)) method fits e = absurd (false≢true e)
is_close (OnChannel (ruled.Proceeds (told.FlowOk active) answer)) method fits e = absurd (false≢true e)
is_close (OnChannel (ruled.Proceeds told.ClosedByUs answer)) method fits e = absurd (false≢true e)
is_close (OnChannel (ruled.Proceeds told.Discarded answer)) method fits e = absurd (false≢true e)
is_close (OnChannel (ruled.Proceeds told.Quiet answer)) method fits e = absurd (false≢true e)
is_close (OnChannel ruled.RefusesContent) method fits e = absurd (false≢true e)
is_close (OnChannel (ruled.Faults code)) method fits e = absurd (false≢true e)
is_close (OnConnection (Proceeds notice.ClosedByPeer stage owed)) method fits e = subst (λ k. IsClose k) (sym fits) tt
is_close (OnConnection (Proceeds notice.Quiet stage owed)) method fits e = absurd (false≢true e)
is_close (OnConnection (Proceeds notice.Discarded stage owed)) method fits e = absurd (false≢true e)
is_close (OnConnection (Proceeds notice.AnswerAsked stage owed)) method fits e = absurd (false≢true e)
is_close (OnConnection (Proceeds notice.LoginAsked stage owed)) method fits e = absurd (false≢true e)
is_close (OnConnection (Proceeds notice.OpenAsked stage owed)) method fits e = absurd (false≢true e)
is_close (OnConnection (Proceeds (notice.Negotiated agreed) stage owed)) method fits e = absurd (false≢true e)
is_close (OnConnection (Proceeds notice.ClosedByUs stage owed)) method fits e = absurd (false≢true e)
is_close (OnConnection (Proceeds notice.Blocked stage owed)) method fits e = absurd (false≢true e)
is_close (OnConnection (Proceeds notice.Unblocked stage owed)) method fits e = absurd (false≢true e)
is_close (OnConnection (Faults fault)) method fits e = absurd (false≢true e)

-- What is kept of a frame.

pub said_is :
    (settings : Settings) (end : End) (number : ℕ) (kind : FrameKind) (payload : List ℕ) (reading : Reading)
    (verdict : Ruling) (before : Said)
    → FrameRules settings end number reading verdict → reading ≡ says (frame_at number kind payload)
    → said_by end.phase number reading verdict before
    ≡ said_after (config_view settings) end (frame_at number kind payload) before
said_is settings end number kind payload reading verdict before rules read =
    let heard : heard_here end.phase number reading (goes_by verdict)
    ≡ hears (config_view settings) end (frame_at number kind payload) =
    awaited_heard end.phase number reading (goes_by verdict)
    ∙ (ap (λ b. cond ((number == 0) && b) (awaited_by end.phase reading) None)
    (goes_is settings end number reading verdict ∙ ap goes_on rules.verdict)
    ∙ ap (λ r. cond ((number == 0) && goes_on (taken_verdict (config_view settings) end number r)) (awaited_by end.phase r) None) read) in
    let cause : cause_here reading (closes_by verdict)
    ≡ cause_told (event_of_frame (config_view settings) end (frame_at number kind payload)) (says (frame_at number kind payload)) =
    cause_is settings end number reading verdict
    ∙ (ap (λ e. cause_told e reading) (event_is settings end number kind payload reading verdict rules read)
    ∙ ap (λ r. cause_told (event_of_frame (config_view settings) end (frame_at number kind payload)) r) read) in
    λ i. record { methods = heard_after (heard i) before.methods; cause = or_before (cause i) before.cause }

none_goes : (awaited here : Bool) (method : Method) → ◌≡◌ {A = Option Method} (cond (awaited && here && false) (Some method) None) None
none_goes true true method = refl
none_goes true false method = refl
none_goes false here method = refl

unheard : (phase : Phase) (number : ℕ) (reading : Reading) → heard_here phase number reading false ≡ None
unheard phase number (Calls method) = none_goes (awaited_in phase method.kind) (number == 0) method
unheard phase number reading = refl

fault_closes : (verdict : Ruling) → goes_by verdict ≡ false → closes_by verdict ≡ false
fault_closes (OnChannel (ruled.Proceeds said answer)) e = absurd (false≢true (sym e))
fault_closes (OnChannel ruled.RefusesContent) e = refl
fault_closes (OnChannel (ruled.Faults code)) e = refl
fault_closes (OnConnection (Proceeds notice stage owed)) e = absurd (false≢true (sym e))
fault_closes (OnConnection (Faults fault)) e = refl

-- nothing is, where a fault is found with it
fault_keeps : (phase : Phase) (number : ℕ) (reading : Reading) (verdict : Ruling) (before : Said) → goes_by verdict ≡ false
    → said_by phase number reading verdict before ≡ before
fault_keeps phase number reading verdict before e =
    let heard : heard_here phase number reading (goes_by verdict) ≡ None =
    ap (heard_here phase number reading) e ∙ unheard phase number reading in
    let cause : cause_here reading (closes_by verdict) ≡ None =
    ap (cause_here reading) (fault_closes verdict e) ∙ none_closes reading in
    λ i. record { methods = heard_after (heard i) before.methods; cause = or_before (cause i) before.cause }

either_way : {A : Type 0} (result : Result A CoreFault) (goes : Bool) (P : Type 0) → (goes ≡ true → IsOk result) → (goes ≡ false → P) → OnErr result P
either_way (Ok value) goes P ok keeps = tt
either_way (Err fault) true P ok keeps = absurd (false≢true (ok refl))
either_way (Err fault) false P ok keeps = keeps refl

pub fault_unheard : {A : Type 0} (result : Result A CoreFault) (phase : Phase) (number : ℕ) (reading : Reading) (verdict : Ruling) (before after : Said)
    → (goes_by verdict ≡ true → IsOk result) → after ≡ said_by phase number reading verdict before
    → OnErr result (after ≡ before)
fault_unheard result phase number reading verdict before after ok is =
    either_way result (goes_by verdict) (after ≡ before) ok (λ e. is ∙ fault_keeps phase number reading verdict before e)

-- On a connection that is Running no method is awaited, so only what a close is about is kept.

none_awaited : (number : ℕ) (reading : Reading) (goes : Bool) → heard_here Running number reading goes ≡ None
none_awaited number (Calls method) goes = refl
none_awaited number reading goes = refl

pub said_on : (number : ℕ) (reading : Reading) (verdict : Ruling) (now : Option Cause) (before after : Said)
    → now ≡ cause_here reading (closes_by verdict) → after ≡ record { methods = before.methods; cause = or_before now before.cause }
    → after ≡ said_by Running number reading verdict before
said_on number reading verdict now before after now_is is =
    is ∙ (λ i. record { methods = heard_after (sym (none_awaited number reading (goes_by verdict)) i) before.methods; cause = or_before (now_is i) before.cause })

-- What is kept of a piece.

when_ok : {A : Type 0} (result : Result A CoreFault) (P : Type 0) → (ran_out result ≡ false → P) → OnOk result P
when_ok (Ok value) P p = p refl
when_ok (Err fault) P p = tt

when_err : {A : Type 0} {P : Type 0} (result : Result A CoreFault) → P → OnErr result P
when_err (Ok value) p = tt
when_err (Err fault) p = p

pub frame_heard : {A : Type 0} (role : Role) (config : Config role) (result : Result A CoreFault) (old : Endpoint) (piece : List ℕ) (fed : Feeding) (count : ℕ) (frame : Frame) (before after : Said)
    → OneIsSaid → reads_frames role old.end.phase ≡ true
    → fed ≡ with_taken count (after_judged role config old (old.unfinished ++ take count piece) (Whole frame))
    → IsWhole (frame_limit old.end.agreed) (old.unfinished ++ take count piece) frame
    → (ran_out result ≡ false → after ≡ said_after config old.end frame before)
    → (ran_out result ≡ false → OnErr result (after ≡ before))
    → Hears role config result old piece fed before after
frame_heard role config result old piece fed count frame before after one r is whole heard fault = record {
  hears = when_ok result _ (λ ran. subst (λ f. HearsFrame role config old piece f before after) (sym is)
      (record {
        waits = λ e. absurd (ends_frame config old.end frame e);
        greets = λ awaits. absurd (awaits_none role old.end.phase r awaits);
        takes = λ other phase completes.
            heard ran ∙ ap (λ f. said_after config old.end f before) (ap (frame_or frame) (one (frame_limit old.end.agreed) (old.unfinished ++ take count piece) (Whole frame) (Whole other) whole completes));
      }));
  at_fault = fault;
}

pub rest_heard : {A : Type 0} (role : Role) (config : Config role) (result : Result A CoreFault) (old : Endpoint) (piece : List ℕ) (fed : Feeding) (count : ℕ) (kept : Said)
    → OneIsSaid → reads_frames role old.end.phase ≡ true
    → fed ≡ with_taken count (holds_octets old (old.unfinished ++ piece)) → old.unfinished ++ piece ≡ old.unfinished ++ take count piece
    → IsRest (frame_limit old.end.agreed) (old.unfinished ++ piece)
    → Hears role config result old piece fed kept kept
rest_heard role config result old piece fed count kept one r is there rest =
    let begun : IsRest (frame_limit old.end.agreed) (old.unfinished ++ take count piece) = subst (λ xs. IsRest (frame_limit old.end.agreed) xs) there rest in
    record {
      hears = when_ok result _ (λ ran. subst (λ f. HearsFrame role config old piece f kept kept) (sym is)
          (record {
            waits = λ e. refl;
            greets = λ awaits. refl;
            takes = λ other phase completes. absurd (false≢true (sym (ap is_begun (one (frame_limit old.end.agreed) (old.unfinished ++ take count piece) Begun (Whole other) begun completes))));
          }));
      at_fault = λ ran. when_err result refl;
    }

-- a fault in octets that are no whole frame, or an end that is closed or has failed
pub fault_heard : {A : Type 0} (role : Role) (config : Config role) (fault : CoreFault) (old : Endpoint) (piece : List ℕ) (fed : Feeding) (kept : Said)
    → Hears {A = A} role config (Err fault) old piece fed kept kept
fault_heard role config fault old piece fed kept = record { hears = tt; at_fault = λ ran. refl }

-- octets of the protocol header
pub opening_heard : {A : Type 0} (role : Role) (config : Config role) (result : Result A CoreFault) (old : Endpoint) (piece : List ℕ) (fed : Feeding) (kept : Said)
    → awaits_opening role old.end.phase ≡ true → Hears role config result old piece fed kept kept
opening_heard role config result old piece fed kept awaits = record {
  hears = when_ok result _ (λ ran. record {
    waits = λ e. refl;
    greets = λ opens. refl;
    takes = λ frame phase completes. absurd (no_frames role old.end.phase awaits phase);
  });
  at_fault = λ ran. when_err result refl;
}

-- The same of what is answered otherwise.

abbrev is_ok : {A : Type 0} → Result A CoreFault → Bool
is_ok (Ok value) = true
is_ok (Err fault) = false

abbrev fault_or : {A : Type 0} → CoreFault → Result A CoreFault → CoreFault
fault_or other (Ok value) = other
fault_or other (Err fault) = fault

-- it is no fault, or the same
other_heard : {A B : Type 0} (one : Result A CoreFault) (other : Result B CoreFault) (role : Role) (config : Config role) (old : Endpoint) (piece : List ℕ) (fed : Feeding) (before after : Said)
    → is_ok other ≡ is_ok one → ((f : CoreFault) → fault_or f other ≡ fault_or f one)
    → Hears role config one old piece fed before after → Hears role config other old piece fed before after
other_heard (Ok x) (Ok y) role config old piece fed before after same fault heard = record { hears = heard.hears; at_fault = λ ran. tt }
other_heard (Ok x) (Err f) role config old piece fed before after same fault heard = absurd (false≢true same)
other_heard (Err f) (Ok y) role config old piece fed before after same fault heard = absurd (false≢true (sym same))
other_heard (Err f) (Err g) role config old piece fed before after same fault heard = record {
  hears = tt;
  at_fault = λ ran. heard.at_fault (ap is_out_of_memory (sym (fault f)) ∙ ran);
}

seen_ok : (given : Option frames.Frame) (answer : Result Report CoreFault) (result : Result Step CoreFault) (octets number : ℕ) (read : Option Reading)
    → step_seen result given ≡ seen_by answer octets number read → is_ok result ≡ is_ok answer
seen_ok given (Ok report) (Ok step) octets number read e = refl
seen_ok given (Ok report) (Err fault) octets number read e = ap is_ok e
seen_ok given (Err fault) (Ok step) octets number read e = ap is_ok e
seen_ok given (Err fault) (Err other) octets number read e = refl

seen_fault : (given : Option frames.Frame) (answer : Result Report CoreFault) (result : Result Step CoreFault) (octets number : ℕ) (read : Option Reading)
    → step_seen result given ≡ seen_by answer octets number read → (f : CoreFault) → fault_or f result ≡ fault_or f answer
seen_fault given (Ok report) (Ok step) octets number read e f = refl
seen_fault given (Ok report) (Err fault) octets number read e f = ap (fault_or f) e
seen_fault given (Err fault) (Ok step) octets number read e f = ap (fault_or f) e
seen_fault given (Err fault) (Err other) octets number read e f = ap (fault_or f) e

pub step_heard : (given : Option frames.Frame) (answer : Result Report CoreFault) (result : Result Step CoreFault) (octets number : ℕ) (read : Option Reading)
    → step_seen result given ≡ seen_by answer octets number read
    → (role : Role) (config : Config role) (old : Endpoint) (piece : List ℕ) (fed : Feeding) (before after : Said)
    → Hears role config answer old piece fed before after → Hears role config result old piece fed before after
step_heard given answer result octets number read e role config old piece fed before after heard =
    other_heard answer result role config old piece fed before after (seen_ok given answer result octets number read e) (seen_fault given answer result octets number read e) heard

lent_ok : (result : Result Step CoreFault) (given : Option frames.Frame) → is_ok (step_seen result given) ≡ is_ok result
lent_ok (Ok step) given = refl
lent_ok (Err fault) given = refl

lent_fault : (result : Result Step CoreFault) (given : Option frames.Frame) (f : CoreFault) → fault_or f (step_seen result given) ≡ fault_or f result
lent_fault (Ok step) given f = refl
lent_fault (Err fault) given f = refl

pub lent_heard : (result : Result Step CoreFault) (given : Option frames.Frame) (role : Role) (config : Config role) (old : Endpoint) (piece : List ℕ) (fed : Feeding) (before after : Said)
    → Hears role config result old piece fed before after → Hears role config (step_seen result given) old piece fed before after
lent_heard result given role config old piece fed before after heard =
    other_heard result (step_seen result given) role config old piece fed before after (lent_ok result given) (lent_fault result given) heard

taken_ok : (result : Result Taken CoreFault) (answer : Result Unit CoreFault) (octets : ℕ) (event : Option events.Event)
    → seen result ≡ taken_with answer octets event → is_ok result ≡ is_ok answer
taken_ok (Ok taken) (Ok done) octets event e = refl
taken_ok (Ok taken) (Err fault) octets event e = ap is_ok e
taken_ok (Err fault) (Ok done) octets event e = ap is_ok e
taken_ok (Err fault) (Err other) octets event e = refl

taken_fault : (result : Result Taken CoreFault) (answer : Result Unit CoreFault) (octets : ℕ) (event : Option events.Event)
    → seen result ≡ taken_with answer octets event → (f : CoreFault) → fault_or f result ≡ fault_or f answer
taken_fault (Ok taken) (Ok done) octets event e f = refl
taken_fault (Ok taken) (Err fault) octets event e f = ap (fault_or f) e
taken_fault (Err fault) (Ok done) octets event e f = ap (fault_or f) e
taken_fault (Err fault) (Err other) octets event e f = ap (fault_or f) e

pub taken_heard : (result : Result Taken CoreFault) (answer : Result Unit CoreFault) (octets : ℕ) (event : Option events.Event) → seen result ≡ taken_with answer octets event
    → (role : Role) (config : Config role) (old : Endpoint) (piece : List ℕ) (fed : Feeding) (before after : Said)
    → Hears role config answer old piece fed before after → Hears role config result old piece fed before after
taken_heard result answer octets event e role config old piece fed before after heard =
    other_heard answer result role config old piece fed before after (taken_ok result answer octets event e) (taken_fault result answer octets event e) heard
