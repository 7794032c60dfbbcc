-- A heartbeat, or a decision in the handshake, of an end that is kept with its history.
use Rattle.std.specs.Coded.{le_prop}
use Rattle.std.proofs.Common.{◌≡◌, ◌≤◌, ◌+◌, ◌==◌, ◌++◌, cond, ℕ, List, [], ◌∷◌, length, map, Result, Ok, Err, OnOk, OnErr, IfErr, refl, ap, sym, ◌∙◌, arith}
use Rattle.std.proofs.Math.Logic.{∥∥₁_elim, ∥∥₁_map, ∥∥₁_prop}
use Rattle.amqp_model.specs.End.Asks.{AskVerdict}
use Rattle.amqp_model.specs.Laws.ControlLaws.{ControlPutsOne, ControlSaysNothing, ControlledFits, PutsOneOnZero}
use Rattle.amqp_model.specs.End.Controls.{Control}
use Rattle.amqp_model.specs.Stream.Endpoint.{Endpoint, after_answer}
use Rattle.amqp_model.specs.End.Fitting.{ConfigWrites}
use Rattle.amqp_model.specs.Wire.Frame.{Frame}
use Rattle.amqp_model.specs.History.Histories.{History}
use Rattle.amqp_model.specs.End.LawfulHistories.{then_put}
use Rattle.amqp_model.specs.History.Negotiation.{Config, FRAME_MIN}
use Rattle.amqp_model.specs.Wire.Notes.{Role}
use Rattle.amqp_model.specs.Laws.OctetLaws.{EndpointStandsFor}
use Rattle.amqp_model.specs.Output.Outputs.{after_puts, output_octets}
use Rattle.amqp_model.specs.Wire.Readings.{kind_of, reading}
use Rattle.amqp_model.specs.Stream.Traces.{IsPut, Noted, Other, PutsTellNothing, TracePuts, noted, trace, word_of}
use Rattle.amqp_core.specs.Traced.NotedAsks.{GrowsByFrames}
use Rattle.amqp_core.specs.Asks.Controlled.{frames_by}
use Rattle.amqp_core.specs.Asks.Controlling.{AcceptsControl, RefusesControl, verdict_at}
use Rattle.amqp_core.specs.Traced.Notes.{noted_as}
use Rattle.amqp_core.specs.Traced.Tracing as tracing
use Rattle.amqp_core.specs.Traced.Tracing.{IsTraceOf, Kept, SameLists, Stands}
use Rattle.amqp_core.specs.declared.faults.AskFault.{AskFault}
use Rattle.amqp_core.proofs.AskNotingLemmas.{asked-grows}
use Rattle.amqp_core.proofs.ControlLemmas.{ReadsFrames, accepts_in}
use Rattle.amqp_core.proofs.FollowTrace.{stood}
use Rattle.amqp_core.proofs.StandingLemmas.{failed_takes}
use Rattle.amqp_core.proofs.TracedLemmas.{traced-same, traces-same}

abbrev frames_of : (role : Role) → Config role → Control → Endpoint → List Frame
frames_of role config control endpoint = frames_by (verdict_at role config control endpoint)

-- the laws of what a control adds
pub record ControlTraceLaws (role : Role) (config : Config role) : Type 0 where
  pub puts : (frames : List Frame) (history : History) → TracePuts frames history
  pub puts_tell : (frames : List Frame) (history : History) → PutsTellNothing role config frames history
  pub one : ControlPutsOne
  pub says : ControlSaysNothing

-- what the lists of the end and the end itself come to by a control that is accepted
pub record ControlKept (role : Role) (config : Config role) (control : Control) (old new : Kept) : Type 0 where
  pub accepts : AcceptsControl role config control old.endpoint new.endpoint
  pub notes : new.notes ≡ old.notes ++ noted_as IsPut 0 Other ∷ []
  pub told : new.told ≡ old.told
  pub said : new.said ≡ old.said
  pub fed : new.fed ≡ old.fed
  pub written : new.written ≡ old.written

-- the note of its frame
zero_noted : (frame : Frame) → frame.channel ≡ 0 → noted IsPut frame ≡ noted_as IsPut 0 Other
zero_noted frame zero =
    let note : ℕ → Noted = λ channel. record { channel = channel; direction = IsPut; word = cond (channel == 0) Other (word_of (kind_of (reading frame))) } in
    ap note zero

control_noted : (frames : List Frame) → PutsOneOnZero frames → map (noted IsPut) frames ≡ noted_as IsPut 0 Other ∷ []
control_noted frames one = ap (map (noted IsPut)) one.is ∙ ap (λ (note : Noted). note ∷ []) (zero_noted one.frame one.on_zero)

controlled : (role : Role) (config : Config role) (control : Control) (old new : Kept) (history : History) → ControlTraceLaws role config
    → ControlKept role config control old new → IsTraceOf role config old history
    → EndpointStandsFor role config new.endpoint (then_put (frames_of role config control old.endpoint) history) old.fed old.written
    → IsTraceOf role config new (then_put (frames_of role config control old.endpoint) history)
controlled role config control old new history laws kept traced stands =
    let frames = frames_of role config control old.endpoint in
    let notes = control_noted frames (laws.one role config old.endpoint.end control frames kept.accepts.puts) in
    record {
      noted =
          kept.notes
          ∙ (ap (λ ns. ns ++ noted_as IsPut 0 Other ∷ []) traced.noted
          ∙ (ap (λ ns. trace history ++ ns) (sym notes) ∙ sym (laws.puts frames history)));
      told = kept.told ∙ (traced.told ∙ sym (laws.puts_tell frames history));
      said = kept.said ∙ (traced.said ∙ sym (laws.says role config old.endpoint.end history control frames kept.accepts.puts));
      stands = stood role config new (then_put frames history) old.fed old.written kept.fed kept.written stands;
    }

by_standing : (role : Role) (config : Config role) (control : Control) (old new : Kept) (history : History) → ControlTraceLaws role config
    → ControlKept role config control old new → IsTraceOf role config old history → Stands role config old history
    → ∥ IsTraceOf role config new (then_put (frames_of role config control old.endpoint) history) ∥₁
by_standing role config control old new history laws kept traced (tracing.stands stands) =
    ∥∥₁_map (kept.accepts.follows history old.fed old.written stands) (λ there. controlled role config control old new history laws kept traced there)
by_standing role config control old new history laws kept traced (tracing.failed limit opening opens failed shown) =
    let reads : ReadsFrames role old.endpoint.end.phase = accepts_in role config old.endpoint.end.phase control _ kept.accepts.puts in
    absurd (failed_takes old.endpoint.end.phase (sym failed.stands.phase) reads.takes)
by_standing role config control old new history laws kept traced (tracing.ran_out unfinished out) =
    let reads : ReadsFrames role old.endpoint.end.phase = accepts_in role config old.endpoint.end.phase control _ kept.accepts.puts in
    absurd (failed_takes old.endpoint.end.phase out.failed reads.takes)

-- A control that is accepted.
pub traced-controlled : (role : Role) (config : Config role) (control : Control) (old new : Kept) (history : History) → ControlTraceLaws role config
    → ControlKept role config control old new → IsTraceOf role config old history
    → ∥ IsTraceOf role config new (then_put (frames_of role config control old.endpoint) history) ∥₁
traced-controlled role config control old new history laws kept traced =
    by_standing role config control old new history laws kept traced traced.stands

-- how much longer the output gets
pub controlled-grows : (role : Role) (config : Config role) (control : Control) (old new : Endpoint) → ∥ ConfigWrites config ∥₁ → ControlledFits → ControlPutsOne
    → AcceptsControl role config control old new → GrowsByFrames 1 FRAME_MIN old.output new.output
controlled-grows role config control old new writes fits one accepts =
    let frames = frames_of role config control old in
    let output : new.output ≡ after_puts frames old.output =
    ap (λ (e : Endpoint). e.output) accepts.left ∙ ap (λ (v : AskVerdict). (after_answer role config old v).output) accepts.puts in
    ∥∥₁_elim writes le_prop
    (λ (w : ConfigWrites config).
    asked-grows frames 1 FRAME_MIN (noted_as IsPut 0 Other) old.output new.output
    (control_noted frames (one role config old.end control frames accepts.puts))
    (fits role config old.end control frames w accepts.reads_back accepts.puts).short output)

-- At an end that is kept with its history.

pub same_lists : (kept : Kept) → SameLists kept kept
same_lists kept = record { notes = refl; told = refl; said = refl; fed = refl; written = refl }

pub control-room : {A : Type 0} (result : Result A AskFault) (role : Role) (config : Config role) (control : Control) (old new : Endpoint) (most written capacity : ℕ)
    → OnOk result (length (output_octets new.output) ≤ length (output_octets old.output) + most) → IfErr result (λ fault. RefusesControl role config control fault old new)
    → written + (length (output_octets old.output) + most) ≤ capacity → written + length (output_octets new.output) ≤ capacity
control-room (Ok value) role config control old new most written capacity grows refused fits = omega (arith, grows, fits)
control-room (Err fault) role config control old new most written capacity grows refused fits =
    let same : length (output_octets new.output) ≡ length (output_octets old.output) = ap (λ (e : Endpoint). length (output_octets e.output)) refused.same in
    omega (arith, same, fits)

pub control-traces : {A : Type 0} (result : Result A AskFault) (role : Role) (config : Config role) (control : Control) (old new : Kept) (after : History → History)
    → OnOk result ((history : History) → IsTraceOf role config old history → ∥ IsTraceOf role config new (after history) ∥₁)
    → OnErr result (SameLists old new) → IfErr result (λ fault. RefusesControl role config control fault old.endpoint new.endpoint)
    → ∥ ((history : History) × IsTraceOf role config old history) ∥₁ → ∥ ((history : History) × IsTraceOf role config new history) ∥₁
control-traces (Ok value) role config control old new after follows same refused there =
    ∥∥₁_elim there ∥∥₁_prop (λ t. ∥∥₁_map (follows t.0 t.1) (λ next. (after t.0, next)))
control-traces (Err fault) role config control old new after follows same refused there =
    traces-same role config old new (λ history traced. traced-same role config old new history refused.same same traced) there
