-- Heartbeats, and what an application decides in the handshake: the laws.
use Rattle.std.proofs.Common.{◌≡◌, ◌≤◌, Bool, true, false, cond, not, ◌||◌, ◌==◌, min, ℕ, arith}
use Rattle.std.proofs.Common.{List, ◌++◌, None, refl, sym, ap, ap₂, ◌∙◌, subst, append-nil}
use Rattle.std.proofs.lemmas.Bool.{true≢false, eqb-true}
use Rattle.amqp_frame.specs.Frame.{Fits, frame_length}
use Rattle.amqp_frame.specs.Splitting.{stream, AllFit, IsRest}
use Rattle.amqp_method.specs.Fitting.{FitsShort, FitsLong}
use Rattle.amqp_model.specs.Wire.Frame.{Frame}
use Rattle.amqp_model.specs.Wire.Notes.{Role, Client, Server}
use Rattle.amqp_method.specs.declared.kinds.Kind.TheVariants as kinds
use Rattle.amqp_model.specs.Wire.Methods.{ReadsBack}
use Rattle.amqp_model.specs.Wire.Readings.{Reading, Calls, reading}
use Rattle.amqp_model.specs.History.Histories.{History, PutHere}
use Rattle.amqp_model.specs.End.Channels.{Phase, End}
use Rattle.amqp_model.specs.History.Negotiation.{Config, Hello, OfClient, FRAME_MIN, frame_limit, start_ok_choosing}
use Rattle.amqp_model.specs.History.Negotiation.{tune, connection_open_ok}
use Rattle.amqp_model.specs.End.StateFromHistory.{end_from}
use Rattle.amqp_model.specs.End.Closes.{close_as, no_cause}
use Rattle.amqp_model.specs.End.Asks.{Refused, Puts, AskVerdict}
use Rattle.amqp_model.specs.Output.Outputs.{after_puts}
use Rattle.amqp_model.specs.Output.Departures.{IsOutputOf}
use Rattle.amqp_model.specs.End.Controls.{Control, Beat, Admit, Refuse, AnswerStart, control_in, control_verdict}
use Rattle.amqp_model.specs.End.ReadingBack.{ControlReadsBack, WritesReadBack}
use Rattle.amqp_model.specs.End.LawfulHistories.{then_put, goes}
use Rattle.amqp_model.specs.End.Machine.{phase_put, end_after, end_after_put}
use Rattle.amqp_model.specs.End.Bounds.{ChannelIsWithin}
use Rattle.amqp_model.specs.End.Fitting.{ConfigWrites, HelloFits}
use Rattle.amqp_model.specs.Laws.FittingLaws.{MethodReadsBack}
use Rattle.amqp_model.specs.Stream.Octets.{frames_put, opening_read, opening_written, has_opened, FedAs}
use Rattle.amqp_model.specs.Stream.Endpoint.{Endpoint, awaits_opening, after_answer}
use Rattle.amqp_model.specs.Laws.OctetLaws.{EndpointStandsFor}
use Rattle.amqp_model.specs.Pair.Pairs.{config_of}
use Rattle.amqp_model.specs.Laws.ControlLaws.{ControlOfHistory, ControlPutsOne, ControlFollows, phase_after_control}
use Rattle.amqp_model.specs.Laws.ControlLaws.{ControlMovesPhase, ControlLeavesRest, ControlsAct, ControlSaysNothing}
use Rattle.amqp_model.specs.Laws.ControlLaws.{ControlledReadsBack, FitsAndIsShort, ControlledFits}
use Rattle.amqp_model.specs.Laws.ControlLaws.{ControlAcceptedFollows, ControlRefusedStays, ControlHolds, ControlsAlike}
use Rattle.amqp_model.specs.Laws.ControlLaws.{ControllingLeavesAlike, ControlStandsTogether, ControlledStaysPair}
use Rattle.amqp_model.specs.Laws.ControlLaws.{UngatedAnswersAtOnce, SettlesHeartbeat}
use Rattle.amqp_model.proofs.Walking.{Stands, stands-kept}
use Rattle.amqp_model.proofs.Acting.{reads-back}
use Rattle.amqp_model.proofs.Hearing.{choosing-is}
use Rattle.amqp_model.proofs.Controlling.{Controlled, beats, admits_login, admits_open, refuses_login, refuses_open}
use Rattle.amqp_model.proofs.Controlling.{answers, control-puts, OneAtZero, puts-at-zero, control-kept, control-acts}
use Rattle.amqp_model.proofs.Controlling.{control-channels, control-opened}
use Rattle.amqp_model.proofs.Lawfulness.{end-steps}
use Rattle.amqp_model.proofs.Pairing.{step-stays-pair}
use Rattle.amqp_model.proofs.ReadBack.{no_cause-fits, connection_close-fits}
use Rattle.amqp_model.proofs.ReadBackOwed.{tune-sound, open_ok-sound, connection_close-short, all-reads-back}
use Rattle.amqp_model.proofs.OctetAsks.{all-keep, control-keeps}
use Rattle.amqp_model.proofs.WellPutPairs.{writes-of}
use Rattle.amqp_model.proofs.OctetHistories.{frames-put, frames-taken, stays-opened, IsOpened, puts-opened}
use Rattle.amqp_model.proofs.OctetSteps.{is-opened, ReadsFrames, reads as in_frames, reads-frames}
use Rattle.amqp_model.proofs.Departing.{output-puts}
use Rattle.amqp_model.proofs.HoldingPieces.{puts-opened as frames-opened}
use Rattle.amqp_model.proofs.AlikeEndpoints.{answer-alike}
use Rattle.amqp_model.specs.Lent.Alike.{AlikeEndpoints}
use Rattle.amqp_model.specs.End.Events.{Event, FrameVerdict}
use Rattle.amqp_model.specs.End.FrameVerdict.{asked_or}
use Rattle.amqp_model.specs.Stream.Pieces.{reads_frames, AreBegun, HoldsUnfinished}
use Rattle.amqp_model.specs.Pair.Sent.{said_at, said}

pub control-of-history : (role : Role) (config : Config role) (failed : Bool) (end : End) (history : History)
    (control : Control) → ControlOfHistory role config failed end history control
control-of-history role config failed end history control stands =
    ap (λ phase. control_in role config phase control) (sym stands.phase)

controlled-zero : {role : Role} {config : Config role} {phase : Phase} {control : Control} {frame : Frame}
    → Controlled role config phase control frame → frame.channel ≡ 0
controlled-zero beats = refl
controlled-zero admits_login = refl
controlled-zero admits_open = refl
controlled-zero (refuses_login code text) = refl
controlled-zero (refuses_open code text) = refl
controlled-zero (answers mechanism response locale short) = refl

pub control-puts-one : ControlPutsOne
control-puts-one role config end control frames e =
    let p = control-puts role config end.phase control frames e in
    record { frame = p.frame; is = p.is; on_zero = controlled-zero p.controlled }

pub control-follows : ControlFollows
control-follows role config end history control frames back stands reads e =
    control-kept Stands stands-kept.puts role config end history frames stands
    (puts-at-zero role config end control frames back reads e)

control-moves : {role : Role} {config : Config role} {control : Control} {frame : Frame} (end : End) (phase : Phase)
    → WritesReadBack role config → ControlReadsBack role config control → end.phase ≡ phase
    → Controlled role config phase control frame
    → (end_after role config frame.channel (PutHere (reading frame) frame) end).phase
    ≡ phase_after_control phase control
control-moves {role = role} end phase back reads p beats = ap (phase_put role (Reading.Beat true)) p
control-moves {config = config} end phase back reads p admits_login =
    ap₂ (λ r phase. phase_put Server r phase) (reads-back 0 (tune config) back.admission.0) p
control-moves end phase back reads p admits_open =
    ap₂ (λ r phase. phase_put Server r phase) (reads-back 0 connection_open_ok back.admission.1) p
control-moves end phase back reads p (refuses_login code text) =
    ap₂ (λ r phase. phase_put Server r phase) (reads-back 0 (close_as kinds.ConnectionClose code text) reads.0) p
control-moves end phase back reads p (refuses_open code text) =
    ap₂ (λ r phase. phase_put Server r phase) (reads-back 0 (close_as kinds.ConnectionClose code text) reads.0) p
control-moves {config = config} end phase back reads p (answers mechanism response locale short) =
    ap₂ (λ r phase. phase_put Client r phase)
    (reads-back 0 (start_ok_choosing config mechanism response locale) reads
    ∙ ap Calls (choosing-is config mechanism response locale)) p

pub control-moves-phase : ControlMovesPhase
control-moves-phase role config end control frames back reads e =
    let p = control-puts role config end.phase control frames e in
    subst (λ frames. (end_after_put role config frames end).phase ≡ phase_after_control end.phase control) (sym p.is)
    (control-moves end end.phase back reads refl p.controlled)

pub control-leaves-rest : ControlLeavesRest
control-leaves-rest role config end control frames back reads e =
    let at = puts-at-zero role config end control frames back reads e in
    let same = control-channels role config frames end at in
    record {
      channels = λ n. ap (λ all. all n) same;
      agreed = all-keep role config frames end (control-keeps role config frames at);
      within = λ w n. subst (λ all. ChannelIsWithin role config.max_body (all n)) (sym same) (w n);
    }

pub controls-act : ControlsAct
controls-act role config history control frames n theirs back reads e =
    control-acts role theirs history n frames
    (puts-at-zero role config (end_from role config false history) control frames back reads e)

pub control-says-nothing : ControlSaysNothing
control-says-nothing role config end history control frames e =
    let p = control-puts role config end.phase control frames e in
    subst (λ frames. said role (then_put frames history) ≡ said role history) (sym p.is)
    (ap (λ c. said role history ++ said_at role c p.frame history) (controlled-zero p.controlled)
    ∙ append-nil (said role history))

-- What is written.

controlled-short : {role : Role} {config : Config role} {phase : Phase} {control : Control} {frame : Frame}
    → ConfigWrites config → ControlReadsBack role config control → Controlled role config phase control frame
    → frame_length frame ≤ FRAME_MIN
controlled-short writes reads beats = omega arith
controlled-short {config = config} writes reads admits_login = (tune-sound 0 config writes).short
controlled-short writes reads admits_open = (open_ok-sound 0).short
controlled-short writes reads (refuses_login code text) = connection_close-short 0 code text no_cause reads.1.0
controlled-short writes reads (refuses_open code text) = connection_close-short 0 code text no_cause reads.1.0
controlled-short writes reads (answers mechanism response locale short) = short

short-fits : (frame : Frame) → frame.channel ≡ 0 → frame_length frame ≤ FRAME_MIN → Fits frame
short-fits frame at short = record { channel = omega arith; size = omega arith }

pub controlled-fits : ControlledFits
controlled-fits role config end control frames writes reads e =
    let p = control-puts role config end.phase control frames e in
    let short = controlled-short writes reads p.controlled in
    subst FitsAndIsShort (sym p.is)
    (record { fit = (short-fits p.frame (controlled-zero p.controlled) short, tt); short = (short, tt) })

choosing-fits : MethodReadsBack → (config : Config Client) (mechanism response locale : List ℕ)
    → HelloFits config.hello → FitsShort mechanism → FitsLong response → FitsShort locale
    → ReadsBack (start_ok_choosing config mechanism response locale)
choosing-fits methods config mechanism response locale = go config.hello
  where
    go : (hello : Hello Client) → HelloFits hello → FitsShort mechanism → FitsLong response → FitsShort locale
        → ReadsBack (start_ok_choosing (record config { hello = hello }) mechanism response locale)
    go (OfClient properties own_mechanism own_response own_locale virtual_host) hello m r l =
        methods _ (record { of_kind = refl; arguments = (hello.0, (m, (r, (l, tt)))) })

pub controlled-reads-back : MethodReadsBack → ControlledReadsBack
controlled-reads-back methods Client config Beat fits c = tt
controlled-reads-back methods Server config Beat fits c = tt
controlled-reads-back methods Client config Admit fits c = tt
controlled-reads-back methods Server config Admit fits c = tt
controlled-reads-back methods role config (Refuse code text) fits c =
    (methods _ (connection_close-fits code text no_cause c.0 c.1 no_cause-fits), c.1)
controlled-reads-back methods Client config (AnswerStart mechanism response locale) fits c =
    choosing-fits methods config mechanism response locale fits.hello c.0 c.1 c.2
controlled-reads-back methods Server config (AnswerStart mechanism response locale) fits c = tt

-- Octet by octet.

pub control-accepted-follows : (role : Role) (config : Config role) (endpoint : Endpoint) (history : History)
    (fed written : List ℕ) (control : Control) (frames : List Frame)
    → ControlAcceptedFollows role config endpoint history fed written control frames
control-accepted-follows role config endpoint history fed written control frames s writes back read e =
    subst (λ answer. EndpointStandsFor role config (after_answer role config endpoint answer) (then_put frames history)
    fed written) (sym e)
    (by-reading (reads-frames role (frame_limit endpoint.end.agreed) history fed endpoint.unfinished opened s.read))
  where
    at : OneAtZero frames
    at = puts-at-zero role config endpoint.end control frames back read e

    awaits_none : awaits_opening role endpoint.end.phase ≡ false
    awaits_none = control-opened role config endpoint.end control frames e

    opened : has_opened role history ≡ true
    opened = is-opened _ _ s.opens awaits_none

    agreed : (end_after_put role config frames endpoint.end).agreed ≡ endpoint.end.agreed
    agreed = all-keep role config frames endpoint.end (control-keeps role config frames at)

    by-reading : ReadsFrames role (frame_limit endpoint.end.agreed) history fed endpoint.unfinished
        → EndpointStandsFor role config (after_answer role config endpoint (Puts frames))
        (then_put frames history) fed written
    by-reading (in_frames opened whole fit rest) =
        let stands = control-kept Stands stands-kept.puts role config endpoint.end history frames s.stands at in
        let opens = stays-opened role frames history opened in
        let still : IsOpened role (then_put frames history) =
        puts-opened role frames history (ap (awaits_opening role) s.stands.phase ∙ awaits_none) in
        let same = frames-taken frames history in
        record {
          lawful = goes s.lawful ((end-steps role config endpoint.end history s.stands).controls control frames read e);
          stands = stands;
          opens = ap (awaits_opening role) (sym stands.phase) ∙ (still ∙ ap not (sym opens));
          are_octets = s.are_octets;
          read = FedAs.in_frames opens (whole ∙ ap (λ l. opening_read role ++ (stream l ++ endpoint.unfinished))
              (sym same)) (subst AllFit (sym same) fit)
              (subst (λ agreed. IsRest (frame_limit agreed) endpoint.unfinished) (sym agreed) rest);
          out = subst (λ put. IsOutputOf (opening_written role) put written (after_puts frames endpoint.output))
              (sym (frames-put frames history))
              (output-puts (opening_written role) frames (frames_put history) written endpoint.output s.out
              (controlled-fits role config endpoint.end control frames writes read e).fit);
        }

pub control-refused-stays : ControlRefusedStays
control-refused-stays role config endpoint control refusal e = ap (after_answer role config endpoint) e

-- an end that accepts a control reads frames
reads-in : {role : Role} {config : Config role} {phase : Phase} {control : Control} {frame : Frame}
    → Controlled role config phase control frame → reads_frames role phase ≡ true
reads-in {role = Client} beats = refl
reads-in {role = Server} beats = refl
reads-in admits_login = refl
reads-in admits_open = refl
reads-in (refuses_login code text) = refl
reads-in (refuses_open code text) = refl
reads-in (answers mechanism response locale short) = refl

pub control-holds : ControlHolds
control-holds role config endpoint control holds back read =
    cases (control_verdict role config endpoint.end control) refl
  where
    cases : (verdict : AskVerdict) → control_verdict role config endpoint.end control ≡ verdict
        → HoldsUnfinished role (after_answer role config endpoint verdict)
    cases (Refused why) e = holds
    cases (Puts frames) e =
        let at = puts-at-zero role config endpoint.end control frames back read e in
        let p = control-puts role config endpoint.end.phase control frames e in
        let agreed = all-keep role config frames endpoint.end (control-keeps role config frames at) in
        record {
          of_opening =
              λ a. absurd
              (true≢false (sym a
              ∙ frames-opened role config frames endpoint.end
              (control-opened role config endpoint.end control frames e)));
          of_frame = λ r. subst (λ agreed. AreBegun (frame_limit agreed) endpoint.unfinished) (sym agreed)
              (holds.of_frame (reads-in p.controlled));
        }

pub controls-alike : ControlsAlike
controls-alike role config one other control a = ap (λ phase. control_in role config phase control) a.phase

pub controlling-leaves-alike : ControllingLeavesAlike
controlling-leaves-alike role config one other control a =
    subst (λ verdict. AlikeEndpoints (after_answer role config one (control_verdict role config one.end control))
    (after_answer role config other verdict)) (controls-alike role config one.end other.end control a.end)
    (answer-alike role config one other (control_verdict role config one.end control) a)

-- Two ends.

pub controlled-stays-pair : (role : Role) (client_config : Config Client) (server_config : Config Server)
    (mine theirs : History) (end : End) (control : Control) (frames : List Frame)
    → ControlledStaysPair role client_config server_config mine theirs end control frames
controlled-stays-pair role client_config server_config mine theirs end control frames p stands read e =
    let step = (end-steps role (config_of role client_config server_config) end mine stands).controls
    control frames read e in
    record {
      client_writes = p.client_writes;
      server_writes = p.server_writes;
      pair = step-stays-pair role client_config server_config mine theirs None _ p.pair tt step;
    }

pub control-stands-together : (methods : MethodReadsBack) → ControlStandsTogether
control-stands-together methods role client_config server_config mine theirs control frames s read e =
    let config = config_of role client_config server_config in
    let writes = writes-of role client_config server_config s.pair.client_writes s.pair.server_writes in
    record {
      my_history = _;
      their_history = s.their_history;
      my_fed = s.my_fed;
      my_written = s.my_written;
      their_fed = s.their_fed;
      their_written = s.their_written;
      pair = controlled-stays-pair role client_config server_config s.my_history s.their_history mine.end control frames
          s.pair s.mine_stands.stands read e;
      mine_stands = control-accepted-follows role config mine s.my_history s.my_fed s.my_written control frames
          s.mine_stands writes (all-reads-back methods role config writes) read e;
      theirs_stands = s.theirs_stands;
      to_mine = s.to_mine;
      to_theirs = s.to_theirs;
    }

-- An end that is not gated, and one that wants no heartbeat.

at-once : (gated : Bool) (event : Event) (does : FrameVerdict) → gated ≡ false
    → asked_or gated event does ≡ does
at-once false event does e = refl
at-once true event does e = absurd (true≢false e)

pub ungated-answers : UngatedAnswersAtOnce
ungated-answers client_config server_config agreed method client server = record {
  at_start = at-once client_config.gated _ _ client;
  at_login = at-once server_config.gated _ _ server;
  at_open = at-once server_config.gated _ _ server;
}

pub settles-heartbeat : SettlesHeartbeat
settles-heartbeat client_config server_config =
    by client_config.heartbeat server_config.heartbeat (client_config.heartbeat == 0) refl
    (server_config.heartbeat == 0) refl
  where
    by : (a b : ℕ) (x : Bool) → (a == 0) ≡ x → (y : Bool) → (b == 0) ≡ y
        → min a b ≡ cond (x || y) 0 (min a b)
    by a b true e y f = let none : a ≡ 0 = eqb-true a 0 e in omega (arith, none)
    by a b false e true f = let none : b ≡ 0 = eqb-true b 0 f in omega (arith, none)
    by a b false e false f = refl
