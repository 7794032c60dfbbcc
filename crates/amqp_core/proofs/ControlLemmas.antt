-- What a heartbeat, or a decision in the handshake, makes of an end, and what holds of it then.
use Rattle.std.proofs.Common.{◌≡◌, Bool, true, false, ℕ, List, Result, Ok, Err, IfErr, refl, sym, ap, ◌∙◌, subst}
use Rattle.std.proofs.Math.Logic.{∥∥₁_map}
use Rattle.std.proofs.lemmas.Bool.{true≢false}
use Rattle.amqp_frame.specs.Stream.{Stream}
use Rattle.amqp_model.specs.End.Asks.{Puts, Refusal, Refused, is_running}
use Rattle.amqp_model.specs.End.Bounds.{ChannelIsWithin}
use Rattle.amqp_model.specs.End.Channels.{Channel, End, Phase, Handshake, AwaitsProtocolHeader, AwaitsStart, AwaitsStartOk, AwaitsTune, AwaitsTuneOk, AwaitsOpen, AwaitsOpenOk, HoldsStart, HoldsLogin, HoldsOpen, Running, Closing, Closed, Failed}
use Rattle.amqp_model.specs.Laws.ControlLaws.{ControlAcceptedFollows, ControlOfHistory}
use Rattle.amqp_model.specs.End.Controls.{Control, Beat, Admit, Refuse, AnswerStart, control_in, control_verdict}
use Rattle.amqp_model.specs.End.EndVerdict.{takes_octets}
use Rattle.amqp_model.specs.Stream.Endpoint as model
use Rattle.amqp_model.specs.Stream.Endpoint.{after_answer, after_control, awaits_opening}
use Rattle.amqp_model.specs.End.Fitting.{ConfigWrites, IfAgreedFits}
use Rattle.amqp_model.specs.Laws.FittingLaws.{AllReadsBack}
use Rattle.amqp_model.specs.Wire.Frame.{Frame}
use Rattle.amqp_model.specs.History.Histories.{History}
use Rattle.amqp_model.specs.End.LawfulHistories.{then_put}
use Rattle.amqp_model.specs.History.Negotiation.{Config, frame_limit}
use Rattle.amqp_model.specs.Wire.Notes.{Role}
use Rattle.amqp_model.specs.Laws.OctetLaws.{EndpointStandsFor}
use Rattle.amqp_model.specs.Output.Outputs.{Output, after_puts}
use Rattle.amqp_model.specs.Stream.Pieces.{AreBegun, HoldsUnfinished, reads_frames}
use Rattle.amqp_outbox.specs.OutboxView.{Outgoing}
use Rattle.amqp_core.specs.End.Bounded.{IsBounded}
use Rattle.amqp_core.specs.Connection.View.{connection_end}
use Rattle.amqp_core.specs.Asks.Controlled.{frames_by, refusal_by, verdict_for, IsControlled, IsRefusedControl}
use Rattle.amqp_core.specs.Asks.Controlling.{AcceptsControl, RefusesControl, verdict_at}
use Rattle.amqp_core.specs.Connection.Decisions.{holds_client, holds_start}
use Rattle.amqp_core.specs.Faults.Numbers.{refusal_view}
use Rattle.amqp_core.specs.End.EndpointView.{FieldsFit, EndpointIsSound, endpoint_view, is_opened, role_at, unfinished_of}
use Rattle.amqp_core.specs.Config.Settings.{config_view, role_for}
use Rattle.amqp_core.specs.declared.endpoint.Endpoint.{Endpoint}
use Rattle.amqp_core.specs.declared.faults.AskFault.{AskFault}
use Rattle.amqp_core.specs.declared.settings.Settings.{Settings}
use Rattle.amqp_core.proofs.AskedLemmas.{never_both}
use Rattle.amqp_core.proofs.DecisionLemmas.{admits_none, answers_none, beats_none, refuses_none}
use Rattle.amqp_core.proofs.FeedLemmas.{sound_with}
use Rattle.amqp_core.proofs.OpenedLemmas.{asked_opened, asked_takes}

-- An end that accepts a control reads frames.

pub record ReadsFrames (role : Role) (phase : Phase) : Type 0 where
  pub opened : is_opened phase ≡ true
  pub takes : takes_octets phase ≡ true
  pub past : awaits_opening role phase ≡ false

not_both : (b : Bool) → (b ≡ true → ⊥) → b ≡ false
not_both true h = absurd (h refl)
not_both false h = refl

reads_in : (role : Role) (phase : Phase) → is_opened phase ≡ true → takes_octets phase ≡ true → ReadsFrames role phase
reads_in role phase opened takes =
    record { opened = opened; takes = takes; past = not_both (awaits_opening role phase) (never_both role phase opened) }

refused_puts : (refusal : Refusal) (frames : List Frame) → Refused refusal ≡ Puts frames → ⊥
refused_puts refusal frames e = cc

-- an end that neither runs nor holds anything accepts nothing
accepts_none : (role : Role) (config : Config role) (phase : Phase) (control : Control) (frames : List Frame)
    → is_running phase ≡ false → holds_client phase ≡ false → holds_start phase ≡ false → control_in role config phase control ≡ Puts frames → ⊥
accepts_none role config phase Beat frames idle none nothing e = refused_puts _ frames (sym (beats_none phase idle) ∙ e)
accepts_none role config phase Admit frames idle none nothing e = refused_puts _ frames (sym (admits_none role config phase none) ∙ e)
accepts_none role config phase (Refuse code text) frames idle none nothing e = refused_puts _ frames (sym (refuses_none role phase code text none) ∙ e)
accepts_none role config phase (AnswerStart mechanism response locale) frames idle none nothing e =
    refused_puts _ frames (sym (answers_none role config phase mechanism response locale nothing) ∙ e)

pub accepts_in : (role : Role) (config : Config role) (phase : Phase) (control : Control) (frames : List Frame) → control_in role config phase control ≡ Puts frames
    → ReadsFrames role phase
accepts_in role config (Handshake AwaitsProtocolHeader) control frames e = absurd (accepts_none role config (Handshake AwaitsProtocolHeader) control frames refl refl refl e)
accepts_in role config (Handshake AwaitsStart) control frames e = reads_in role (Handshake AwaitsStart) refl refl
accepts_in role config (Handshake AwaitsStartOk) control frames e = reads_in role (Handshake AwaitsStartOk) refl refl
accepts_in role config (Handshake AwaitsTune) control frames e = reads_in role (Handshake AwaitsTune) refl refl
accepts_in role config (Handshake AwaitsTuneOk) control frames e = reads_in role (Handshake AwaitsTuneOk) refl refl
accepts_in role config (Handshake AwaitsOpen) control frames e = reads_in role (Handshake AwaitsOpen) refl refl
accepts_in role config (Handshake AwaitsOpenOk) control frames e = reads_in role (Handshake AwaitsOpenOk) refl refl
accepts_in role config (Handshake HoldsStart) control frames e = reads_in role (Handshake HoldsStart) refl refl
accepts_in role config (Handshake HoldsLogin) control frames e = reads_in role (Handshake HoldsLogin) refl refl
accepts_in role config (Handshake HoldsOpen) control frames e = reads_in role (Handshake HoldsOpen) refl refl
accepts_in role config Running control frames e = reads_in role Running refl refl
accepts_in role config Closing control frames e = reads_in role Closing refl refl
accepts_in role config Closed control frames e = absurd (accepts_none role config Closed control frames refl refl refl e)
accepts_in role config Failed control frames e = absurd (accepts_none role config Failed control frames refl refl refl e)

-- What is left is what the definitions say.

left_is : (role : Role) (config : Config role) (old : model.Endpoint) (control : Control) (frames : List Frame) (end : End) (output : Output)
    → control_verdict role config old.end control ≡ Puts frames
    → end ≡ (after_answer role config old (Puts frames)).end → output ≡ after_puts frames old.output
    → ◌≡◌ {A = model.Endpoint} (record { end = end; unfinished = old.unfinished; output = output }) (after_control role config old control)
left_is role config old control frames end output puts ends outs =
    let there : ◌≡◌ {A = model.Endpoint} (record { end = end; unfinished = old.unfinished; output = output }) (after_answer role config old (Puts frames)) =
    λ i. record { end = ends i; unfinished = old.unfinished; output = outs i } in
    there ∙ sym (ap (after_answer role config old) puts)

pub accepts : (settings : Settings) (control : Control) (old : model.Endpoint) (after : End) (before new : Outgoing)
    → IsControlled settings control old.end after before new → old.output ≡ before.output
    → ∥ ConfigWrites (config_view settings) ∥₁
    → AllReadsBack (role_for settings) (config_view settings)
    → ((history : History) (fed written : List ℕ)
    → ControlAcceptedFollows (role_for settings) (config_view settings) old history fed written control (frames_by (verdict_for settings old.end control)))
    → ((history : History) → ControlOfHistory (role_for settings) (config_view settings) false old.end history control)
    → AcceptsControl (role_for settings) (config_view settings) control old (record { end = after; unfinished = old.unfinished; output = new.output })
accepts settings control old after before new is out writes back law counted =
    let frames : List Frame = frames_by (verdict_for settings old.end control) in
    let left = left_is (role_for settings) (config_view settings) old control frames after new.output is.puts is.end_is
    (ap (λ (o : Outgoing). o.output) is.output_is ∙ ap (after_puts frames) (sym out)) in
    record {
      puts = is.puts;
      left = left;
      reads_back = is.reads_back;
      follows = λ history fed written stands.
          ∥∥₁_map writes
          (λ (w : ConfigWrites (config_view settings)).
          subst (λ (e : model.Endpoint). EndpointStandsFor (role_for settings) (config_view settings) e (then_put frames history) fed written) (sym left)
          (law history fed written stands w (back w) is.reads_back is.puts));
      of_history = λ history fed written stands. sym (counted history stands.stands);
    }

-- What holds of the end holds on.

fields_moved : (role : Role) (old new : End) (heard : ℕ) (stream : Stream) → ReadsFrames role old.phase → FieldsFit role old heard stream
    → new.agreed ≡ old.agreed → is_opened new.phase ≡ true → takes_octets new.phase ≡ true → FieldsFit role new heard stream
fields_moved role old new heard stream reads fit agreed opened takes = record {
  agreed = subst IfAgreedFits (sym agreed) fit.agreed;
  opening = λ e. absurd (never_both role new.phase opened e);
  opened = λ e. fit.opened reads.past;
  awaited = λ e. opened;
  within = fit.within;
  over = λ over. absurd (true≢false (sym takes ∙ over));
  ready = λ e. record { running = (fit.ready reads.takes).running; limit_is = (fit.ready reads.takes).limit_is ∙ ap frame_limit (sym agreed) };
}

reads_there : (role : Role) (phase : Phase) → ReadsFrames role phase → reads_frames role phase ≡ true
reads_there role phase reads = rw (reads.takes, reads.past) refl

holds_moved : (role : Role) (old new : model.Endpoint) → ReadsFrames role old.end.phase → new.end.agreed ≡ old.end.agreed → new.unfinished ≡ old.unfinished
    → is_opened new.end.phase ≡ true → HoldsUnfinished role old → HoldsUnfinished role new
holds_moved role old new reads agreed unfinished opened holds =
    let begun : AreBegun (frame_limit old.end.agreed) old.unfinished = holds.of_frame (reads_there role old.end.phase reads) in
    record {
      of_opening = λ e. absurd (never_both role new.end.phase opened e);
      of_frame = λ e.
          subst (λ (a : List ℕ). AreBegun (frame_limit new.end.agreed) a) (sym unfinished)
          (subst (λ limit. AreBegun limit old.unfinished) (ap frame_limit (sym agreed)) begun);
    }

unfinished_same : (old new : Endpoint) → new.splitter ≡ old.splitter → new.heard ≡ old.heard
    → (endpoint_view new).unfinished ≡ (endpoint_view old).unfinished
unfinished_same old new splitter heard =
    ap (λ h. unfinished_of h new.splitter.pending) heard ∙ ap (λ (s : Stream). unfinished_of old.heard s.pending) splitter

pub accepted_sound : (control : Control) (old new : Endpoint) → EndpointIsSound old → new.connection.settings ≡ old.connection.settings → new.splitter ≡ old.splitter
    → new.heard ≡ old.heard
    → IsControlled old.connection.settings control (connection_end old.connection) (connection_end new.connection) old.outbox new.outbox
    → EndpointIsSound new
accepted_sound control old new sound settings splitter heard is =
    let role = role_at old in
    let config = config_view old.connection.settings in
    let before = connection_end old.connection in
    let after = connection_end new.connection in
    let frames : List Frame = frames_by (verdict_for old.connection.settings before control) in
    let reads : ReadsFrames role before.phase = accepts_in role config before.phase control frames is.puts in
    let opened : is_opened after.phase ≡ true = ap (λ (e : End). is_opened e.phase) is.end_is ∙ asked_opened role config frames before reads.opened in
    let takes : takes_octets after.phase ≡ true = ap (λ (e : End). takes_octets e.phase) is.end_is ∙ asked_takes role config frames before reads.takes in
    let fields : FieldsFit role after old.heard old.splitter =
    fields_moved role before after old.heard old.splitter reads sound.fields is.agreed_same opened takes in
    sound_with old.connection.settings new settings sound.writes (ap (λ (o : Outgoing). o.staged) is.output_is)
    (subst (λ h. FieldsFit role after h new.splitter) (sym heard) (subst (λ (s : Stream). FieldsFit role after old.heard s) (sym splitter) fields))
    (holds_moved role (endpoint_view old) (endpoint_view new) reads is.agreed_same (unfinished_same old new splitter heard) opened sound.holds)
    (λ taking. ∥∥₁_map (sound.bounded reads.takes) (λ within. subst (λ (cs : ℕ → Channel). (n : ℕ) → ChannelIsWithin role config.max_body (cs n)) (sym is.channels_same) within))

-- One that is refused changes nothing.

pub refuses : (settings : Settings) (control : Control) (fault : AskFault) (old : model.Endpoint) (after : End) (before new : Outgoing)
    → IsRefusedControl settings control fault old.end after before new → old.output ≡ before.output
    → ((history : History) → ControlOfHistory (role_for settings) (config_view settings) false old.end history control)
    → RefusesControl (role_for settings) (config_view settings) control fault old (record { end = after; unfinished = old.unfinished; output = new.output })
refuses settings control fault old after before new is out counted =
    let output : new.output ≡ old.output = ap (λ (o : Outgoing). o.output) is.output_same ∙ sym out in
    let end : after ≡ old.end = is.end_same in
    record {
      refused = is.refused;
      same = λ i. record { end = end i; unfinished = old.unfinished; output = output i };
      of_history = λ history fed written stands. sym (counted history stands.stands);
    }

pub refused_sound : (control : Control) (fault : AskFault) (old new : Endpoint) → EndpointIsSound old → new.connection.settings ≡ old.connection.settings
    → new.splitter ≡ old.splitter → new.heard ≡ old.heard
    → IsRefusedControl old.connection.settings control fault (connection_end old.connection) (connection_end new.connection) old.outbox new.outbox
    → RefusesControl (role_at old) (config_view old.connection.settings) control fault (endpoint_view old) (endpoint_view new) → EndpointIsSound new
refused_sound control fault old new sound settings splitter heard is refuses_it =
    sound_with old.connection.settings new settings sound.writes (ap (λ (o : Outgoing). o.staged) is.output_same ∙ sound.staged)
    (subst (λ h. FieldsFit (role_at old) (connection_end new.connection) h new.splitter) (sym heard)
    (subst (λ (s : Stream). FieldsFit (role_at old) (connection_end new.connection) old.heard s) (sym splitter)
    (subst (λ (e : End). FieldsFit (role_at old) e old.heard old.splitter) (sym is.end_same) sound.fields)))
    (subst (λ (e : model.Endpoint). HoldsUnfinished (role_at old) e) (sym refuses_it.same) sound.holds)
    (subst (λ (e : End). IsBounded (role_at old) (config_view old.connection.settings) e) (sym is.end_same) sound.bounded)

pub refused_at_once : {A : Type 0} (role : Role) (config : Config role) (control : Control) (result : Result A AskFault) (endpoint : model.Endpoint)
    → IfErr result (λ fault. refusal_view fault ≡ refusal_by (verdict_at role config control endpoint))
    → ((history : History) → ControlOfHistory role config false endpoint.end history control)
    → IfErr result (λ fault. RefusesControl role config control fault endpoint endpoint)
refused_at_once role config control (Ok value) endpoint refused counted = tt
refused_at_once role config control (Err fault) endpoint refused counted =
    record { refused = refused; same = refl; of_history = λ history fed written stands. sym (counted history stands.stands) }
