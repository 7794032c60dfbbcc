-- An end that is not gated never waits for its application.
use Rattle.std.proofs.Common.{◌≡◌, inl, Bool, true, false, cond, ◌&&◌, ◌||◌, ℕ, zero, suc, List, []}
use Rattle.std.proofs.Common.{◌∷◌, Option, Some, refl, sym, ap, ◌∙◌, subst}
use Rattle.std.proofs.lemmas.Bool.{false≢true, true≢false}
use Rattle.amqp_method.specs.Arguments.{Argument}
use Rattle.amqp_method.specs.declared.kinds.Kind.TheVariants as kinds
use Rattle.amqp_model.specs.Wire.Frame.{Frame}
use Rattle.amqp_model.specs.Wire.Notes.{Role, Client, Server, is_client}
use Rattle.amqp_model.specs.Wire.Methods.{MethodKind, Method, same_kind}
use Rattle.amqp_model.specs.Wire.Readings.{Reading, Calls, Beat, is_call, reading}
use Rattle.amqp_model.specs.History.Histories.{Put, History, PutHere, TookHere}
use Rattle.amqp_model.specs.End.Channels.{Channel, Free, HandshakeStep, AwaitsProtocolHeader, AwaitsStart}
use Rattle.amqp_model.specs.End.Channels.{AwaitsStartOk, AwaitsTune, AwaitsTuneOk, AwaitsOpen, AwaitsOpenOk, HoldsStart}
use Rattle.amqp_model.specs.End.Channels.{Phase, Handshake, Running, Closed, Failed, Agreed, End}
use Rattle.amqp_model.specs.History.Negotiation.{Config, start, start_ok, tune, settled, tune_ok, connection_open}
use Rattle.amqp_model.specs.History.Negotiation.{connection_open_ok, tunes_too_small, agreed_in, in_range}
use Rattle.amqp_model.specs.End.StateFromHistory.{end_from}
use Rattle.amqp_model.specs.End.Closes.{FrameError, CommandInvalid, NotImplemented, Owed, connection_close_ok, frame_of}
use Rattle.amqp_model.specs.End.Closes.{method_frame}
use Rattle.amqp_model.specs.End.Events.{Quiet, AnswerAsked, LoginAsked, OpenAsked, Peer, Fatal, FrameVerdict, Proceeds}
use Rattle.amqp_model.specs.End.Events.{Faults}
use Rattle.amqp_model.specs.End.FrameVerdict.{on_zero, verdict_on, methods_put, negotiated, on_awaited, asked_or}
use Rattle.amqp_model.specs.End.FrameVerdict.{is_awaited, closed_by}
use Rattle.amqp_model.specs.End.EndVerdict.{facts_at, end_verdict, goes_on}
use Rattle.amqp_model.specs.End.ReadingBack.{WritesReadBack}
use Rattle.amqp_model.specs.End.LawfulHistories.{Goes, greets, takes, faults, meets_too_large, fails, asks, controls}
use Rattle.amqp_model.specs.End.LawfulHistories.{Lawful, begun, goes, then_taken, end_of}
use Rattle.amqp_model.specs.End.Machine.{taken_ends_handshake, step_taken, phase_taken, phase_put, end_after}
use Rattle.amqp_model.specs.End.Machine.{end_after_owed, end_after_taken, StandsFor}
use Rattle.amqp_model.specs.Laws.ControlLaws.{holds, UngatedNeverHolds}
use Rattle.amqp_model.proofs.Acting.{reads-back}
use Rattle.amqp_model.proofs.Agreeing.{facts_in}
use Rattle.amqp_model.proofs.FrameSteps.{not-failed, frame-follows}
use Rattle.amqp_model.proofs.EndSteps.{end-follows}
use Rattle.amqp_model.proofs.Standing.{end-stands}
use Rattle.amqp_model.proofs.Lawfulness.{lawful-stands}
use Rattle.amqp_model.proofs.Footings.{Footing}
use Rattle.amqp_model.proofs.Together.{OpenAsked}
use Rattle.amqp_model.proofs.Hearing.{shakes_hands, start_ok-is, open-is, start-is}
use Rattle.amqp_model.proofs.ZeroSteps.{taken-above, asked, Asked, above, closes, says, decided, Decided, beaten}
use Rattle.amqp_model.proofs.ZeroSteps.{starts, logs_in, opens, turns_away}

-- past the handshake there is no way back

two-ways : (b : Bool) (one other : Phase) → shakes_hands one ≡ false → shakes_hands other ≡ false
    → shakes_hands (cond b one other) ≡ false
two-ways true one other e f = e
two-ways false one other e f = f

past-taken : (role : Role) (r : Reading) (phase : Phase) → shakes_hands phase ≡ false
    → shakes_hands (phase_taken role r phase) ≡ false
past-taken role r (Handshake step) e = absurd (true≢false e)
past-taken role r Running e = two-ways _ Closed Running refl refl
past-taken role r Phase.Closing e = two-ways _ Closed Phase.Closing refl refl
past-taken role r Closed e = refl
past-taken role r Failed e = refl

past-put : (role : Role) (r : Reading) (phase : Phase) → shakes_hands phase ≡ false
    → shakes_hands (phase_put role r phase) ≡ false
past-put role r (Handshake step) e = absurd (true≢false e)
past-put role r Running e = two-ways _ Phase.Closing Running refl refl
past-put role r Phase.Closing e = refl
past-put role r Closed e = refl
past-put role r Failed e = refl

past-owed : (role : Role) (config : Config role) (owed : List Owed) (end : End) → shakes_hands end.phase ≡ false
    → shakes_hands (end_after_owed role config owed end).phase ≡ false
past-owed role config [] end e = e
past-owed role config (owed ∷ later) end e = past-owed role config later _ (one owed.channel)
  where
    one : (c : ℕ)
        → shakes_hands (end_after role config c (PutHere (Calls owed.method) (frame_of owed)) end).phase ≡ false
    one zero = past-put role (Calls owed.method) end.phase e
    one (suc n) = e

past-holds : (phase : Phase) → shakes_hands phase ≡ false → holds phase ≡ false
past-holds (Handshake step) e = absurd (true≢false e)
past-holds Running e = refl
past-holds Phase.Closing e = refl
past-holds Closed e = refl
past-holds Failed e = refl

-- the phase of an end in the handshake that has taken a method and put what is owed
abbrev PhaseThen : (role : Role) → Config role → Option Agreed → (ℕ → Channel) → HandshakeStep → Reading
    → Frame → FrameVerdict → Phase
PhaseThen role config agreed all step r frame verdict =
    (end_after_owed role config (methods_put (facts_in config (Handshake step) agreed 0 Free) verdict)
    (end_after role config 0 (TookHere r frame) (record {
      phase = Handshake step;
      agreed = agreed;
      channels = all;
    }))).phase

-- the method that a step awaits
module _ (agreed : Option Agreed) (all : ℕ → Channel) (frame : Frame) (args : List Argument) where
  client-start : (config : Config Client) → config.gated ≡ false → (kind : MethodKind)
      → is_awaited AwaitsStart kind ≡ true
      → holds (PhaseThen Client config agreed all AwaitsStart (Calls (record { kind = kind; args = args })) frame
      (on_awaited Client config agreed AwaitsStart (record { kind = kind; args = args }))) ≡ false
  client-start config ungated kinds.ConnectionStart a =
      subst (λ g.
      holds (PhaseThen Client config agreed all AwaitsStart (Calls (record {
        kind = kinds.ConnectionStart;
        args = args;
      })) frame (asked_or g AnswerAsked (Proceeds (Some Quiet) (on_zero (start_ok config) ∷ [])))) ≡ false)
      (sym ungated)
      (subst (λ m. holds (phase_put Client (Calls m) (Handshake HoldsStart)) ≡ false)
      (sym (start_ok-is config)) refl)
  client-start config ungated kind a = absurd (false≢true a)

  client-tune : (config : Config Client) (kind : MethodKind) → is_awaited AwaitsTune kind ≡ true
      → goes_on (on_awaited Client config agreed AwaitsTune (record { kind = kind; args = args })) ≡ true
      → holds (PhaseThen Client config agreed all AwaitsTune (Calls (record { kind = kind; args = args })) frame
      (on_awaited Client config agreed AwaitsTune (record { kind = kind; args = args }))) ≡ false
  client-tune config kinds.ConnectionTune a g =
      by (tunes_too_small (record { kind = kinds.ConnectionTune; args = args })) g
    where
      by : (b : Bool)
          → goes_on (cond b (Faults (Peer FrameError))
          (Proceeds (Some Quiet)
          (on_zero (tune_ok (settled config (record { kind = kinds.ConnectionTune; args = args })))
          ∷ on_zero (connection_open config) ∷ []))) ≡ true
          → holds (PhaseThen Client config agreed all AwaitsTune
          (Calls (record { kind = kinds.ConnectionTune; args = args })) frame
          (cond b (Faults (Peer FrameError))
          (Proceeds (Some Quiet)
          (on_zero (tune_ok (settled config (record { kind = kinds.ConnectionTune; args = args })))
          ∷ on_zero (connection_open config) ∷ [])))) ≡ false
      by true g = absurd (false≢true g)
      by false g =
          subst (λ m. holds (phase_put Client (Calls m) (Handshake AwaitsOpenOk)) ≡ false)
          (sym (open-is config)) refl
  client-tune config kind a g = absurd (false≢true a)

  client-open_ok : (config : Config Client) (kind : MethodKind) → is_awaited AwaitsOpenOk kind ≡ true
      → holds (PhaseThen Client config agreed all AwaitsOpenOk (Calls (record { kind = kind; args = args })) frame
      (on_awaited Client config agreed AwaitsOpenOk (record { kind = kind; args = args }))) ≡ false
  client-open_ok config kinds.ConnectionOpenOk a = refl
  client-open_ok config kind a = absurd (false≢true a)

  server-login : (config : Config Server) → config.gated ≡ false → (kind : MethodKind)
      → is_awaited AwaitsStartOk kind ≡ true
      → holds (PhaseThen Server config agreed all AwaitsStartOk (Calls (record { kind = kind; args = args })) frame
      (on_awaited Server config agreed AwaitsStartOk (record { kind = kind; args = args }))) ≡ false
  server-login config ungated kinds.ConnectionStartOk a =
      subst (λ g.
      holds (PhaseThen Server config agreed all AwaitsStartOk
      (Calls (record { kind = kinds.ConnectionStartOk; args = args })) frame
      (asked_or g LoginAsked (Proceeds (Some Quiet) (on_zero (tune config) ∷ [])))) ≡ false) (sym ungated) refl
  server-login config ungated kind a = absurd (false≢true a)

  server-tune_ok : (config : Config Server) (kind : MethodKind) → is_awaited AwaitsTuneOk kind ≡ true
      → goes_on (on_awaited Server config agreed AwaitsTuneOk (record { kind = kind; args = args })) ≡ true
      → holds (PhaseThen Server config agreed all AwaitsTuneOk (Calls (record { kind = kind; args = args })) frame
      (on_awaited Server config agreed AwaitsTuneOk (record { kind = kind; args = args }))) ≡ false
  server-tune_ok config kinds.ConnectionTuneOk a g =
      by (in_range config (agreed_in (record { kind = kinds.ConnectionTuneOk; args = args }))) g
    where
      by : (b : Bool) → goes_on (cond b (Proceeds (Some Quiet) []) (Faults Fatal)) ≡ true
          → holds (PhaseThen Server config agreed all AwaitsTuneOk
          (Calls (record { kind = kinds.ConnectionTuneOk; args = args })) frame
          (cond b (Proceeds (Some Quiet) []) (Faults Fatal))) ≡ false
      by true g = refl
      by false g = absurd (false≢true g)
  server-tune_ok config kind a g = absurd (false≢true a)

  server-open : (config : Config Server) → config.gated ≡ false → (kind : MethodKind)
      → is_awaited AwaitsOpen kind ≡ true
      → holds (PhaseThen Server config agreed all AwaitsOpen (Calls (record { kind = kind; args = args })) frame
      (on_awaited Server config agreed AwaitsOpen (record { kind = kind; args = args }))) ≡ false
  server-open config ungated kinds.ConnectionOpen a =
      subst (λ g.
      holds (PhaseThen Server config agreed all AwaitsOpen (Calls (record { kind = kinds.ConnectionOpen; args = args }))
      frame (asked_or g OpenAsked (Proceeds (negotiated agreed) (on_zero connection_open_ok ∷ []))))
      ≡ false) (sym ungated) refl
  server-open config ungated kind a = absurd (false≢true a)

awaited-holds : (role : Role) (config : Config role) → config.gated ≡ false
    → (agreed : Option Agreed) (all : ℕ → Channel) (step : HandshakeStep) (method : Method) (frame : Frame)
    → is_awaited step method.kind ≡ true → goes_on (on_awaited role config agreed step method) ≡ true
    → holds (PhaseThen role config agreed all step (Calls method) frame (on_awaited role config agreed step method))
    ≡ false
awaited-holds Client config u agreed all AwaitsStart method frame a g =
    client-start agreed all frame method.args config u method.kind a
awaited-holds Client config u agreed all AwaitsTune method frame a g =
    client-tune agreed all frame method.args config method.kind a g
awaited-holds Client config u agreed all AwaitsOpenOk method frame a g =
    client-open_ok agreed all frame method.args config method.kind a
awaited-holds Client config u agreed all step method frame a g = absurd (false≢true g)
awaited-holds Server config u agreed all AwaitsStartOk method frame a g =
    server-login agreed all frame method.args config u method.kind a
awaited-holds Server config u agreed all AwaitsTuneOk method frame a g =
    server-tune_ok agreed all frame method.args config method.kind a g
awaited-holds Server config u agreed all AwaitsOpen method frame a g =
    server-open agreed all frame method.args config u method.kind a
awaited-holds Server config u agreed all step method frame a g = absurd (false≢true g)

handshake-holds : (role : Role) (config : Config role) → config.gated ≡ false
    → (agreed : Option Agreed) (all : ℕ → Channel) (step : HandshakeStep) (r : Reading) (frame : Frame)
    → holds (Handshake step) ≡ false → goes_on (verdict_on (facts_in config (Handshake step) agreed 0 Free) r)
    ≡ true → holds
    (PhaseThen role config agreed all step r frame (verdict_on (facts_in config (Handshake step) agreed 0 Free) r))
    ≡ false
handshake-holds Client config u agreed all step (Beat true) frame h g = h
handshake-holds Server config u agreed all step (Beat true) frame h g = h
handshake-holds role config u agreed all step (Calls method) frame h g =
    by (same_kind method.kind kinds.ConnectionClose) refl
    (is_client role && same_kind method.kind kinds.ConnectionSecure) (is_awaited step method.kind) refl g
  where
    chain : (c s w : Bool) → FrameVerdict
    chain c s w =
        cond c (closed_by method)
        (cond s (Faults (Peer NotImplemented))
        (cond w (on_awaited role config agreed step method) (Faults (Peer CommandInvalid))))

    by : (c : Bool) → same_kind method.kind kinds.ConnectionClose ≡ c → (s w : Bool)
        → is_awaited step method.kind ≡ w → goes_on (chain c s w) ≡ true
        → holds (PhaseThen role config agreed all step (Calls method) frame (chain c s w)) ≡ false
    by true c s w a g =
        past-holds _
        (past-owed role config (connection_close_ok ∷ []) (end_after role config 0 (TookHere (Calls method) frame)
        (record { phase = Handshake step; agreed = agreed; channels = all }))
        (ap (λ b. shakes_hands (cond (b || is_call kinds.ConnectionCloseOk (Calls method)) Closed
        (cond (taken_ends_handshake role (Calls method)) Running (Handshake (step_taken role (Calls method) step)))))
        c))
    by false c true w a g = absurd (false≢true g)
    by false c false true a g = awaited-holds role config u agreed all step method frame a g
    by false c false false a g = absurd (false≢true g)
handshake-holds role config u agreed all step r frame h g = absurd (false≢true g)

-- a frame is taken
takes-holds : (role : Role) (config : Config role) → config.gated ≡ false → WritesReadBack role config
    → (before : History) → StandsFor role config false (end_of config before) before → (frame : Frame)
    → goes_on (end_verdict config (end_of config before) frame) ≡ true → holds (end_of config before).phase
    ≡ false → holds (end_of config (then_taken config (end_of config before) frame before)).phase ≡ false
takes-holds role config u back before stands frame g h = by-channel frame.channel refl
  where
    end : End
    end = end_of config before

    end_is : end_of config (then_taken config end frame before)
        ≡ end_after_owed role config (methods_put (facts_at config end frame.channel) (end_verdict config end frame))
        (end_after role config frame.channel (TookHere (reading frame) frame) end)
    end_is =
        end-stands role config (end_after_taken role config end (reading frame) frame) _
        (frame-follows role config end before frame back stands g) ∙ not-failed (end_verdict config end frame) _ g

    by-phase : (phase : Phase) → holds phase ≡ false → (agreed : Option Agreed) (all : ℕ → Channel)
        → goes_on (verdict_on (facts_in config phase agreed 0 Free) (reading frame)) ≡ true
        → holds (end_after_owed role config
        (methods_put (facts_in config phase agreed 0 Free)
        (verdict_on (facts_in config phase agreed 0 Free) (reading frame)))
        (end_after role config 0 (TookHere (reading frame) frame)
        (record { phase = phase; agreed = agreed; channels = all }))).phase ≡ false
    by-phase (Handshake step) h agreed all g = handshake-holds role config u agreed all step (reading frame) frame h g
    by-phase Running h agreed all g =
        past-holds _
        (past-owed role config (methods_put (facts_in config Running agreed 0 Free)
        (verdict_on (facts_in config Running agreed 0 Free) (reading frame)))
        (end_after role config 0 (TookHere (reading frame) frame)
        (record { phase = Running; agreed = agreed; channels = all })) (past-taken role (reading frame) Running refl))
    by-phase Phase.Closing h agreed all g =
        past-holds _
        (past-owed role config (methods_put (facts_in config Phase.Closing agreed 0 Free)
        (verdict_on (facts_in config Phase.Closing agreed 0 Free) (reading frame)))
        (end_after role config 0 (TookHere (reading frame) frame) (record {
          phase = Phase.Closing;
          agreed = agreed;
          channels = all;
        })) (past-taken role (reading frame) Phase.Closing refl))
    by-phase Closed h agreed all g = absurd (false≢true g)
    by-phase Failed h agreed all g = absurd (false≢true g)

    at-zero : goes_on (verdict_on (facts_at config end 0) (reading frame)) ≡ true
        → holds (end_after_owed role config
        (methods_put (facts_at config end 0) (verdict_on (facts_at config end 0) (reading frame)))
        (end_after role config 0 (TookHere (reading frame) frame) end)).phase ≡ false
    at-zero g =
        subst (λ c. goes_on (verdict_on (facts_in config end.phase end.agreed 0 c) (reading frame)) ≡ true
        → holds (end_after_owed role config (methods_put (facts_in config end.phase end.agreed 0 c)
        (verdict_on (facts_in config end.phase end.agreed 0 c) (reading frame)))
        (end_after role config 0 (TookHere (reading frame) frame) end)).phase ≡ false) (sym stands.no_channel)
        (by-phase end.phase h end.agreed end.channels) g

    by-channel : (c : ℕ) → frame.channel ≡ c
        → holds (end_of config (then_taken config end frame before)).phase ≡ false
    by-channel zero here =
        ap (λ (e : End). holds e.phase) end_is
        ∙ subst (λ c. goes_on (verdict_on (facts_at config end c) (reading frame)) ≡ true
        → holds (end_after_owed role config
        (methods_put (facts_at config end c) (verdict_on (facts_at config end c) (reading frame)))
        (end_after role config c (TookHere (reading frame) frame) end)).phase ≡ false) (sym here) at-zero g
    by-channel (suc m) here =
        ap (λ (f : Footing). holds f.phase) (taken-above role config back before stands frame m here g).footing ∙ h

-- a step
goes-holds : (role : Role) (config : Config role) (before : History) (taken : Option Frame) (failed : Bool)
    (after : History) → failed ≡ false → config.gated ≡ false → WritesReadBack role config
    → StandsFor role config false (end_of config before) before → holds (end_of config before).phase ≡ false
    → Goes role config before taken failed after → holds (end_of config after).phase ≡ false
goes-holds role config before taken failed after e u back stands h greets =
    ap (λ (e : End). holds e.phase)
    (end-stands Server config _ after
    (end-follows Server config (end_of config []) [] (Put (method_frame 0 (start config))) stands (inl refl)))
    ∙ subst (λ r. holds (phase_put Server r (Handshake AwaitsProtocolHeader)) ≡ false)
    (sym (reads-back 0 (start config) back.greeting ∙ ap Calls (start-is config))) refl
goes-holds role config before taken failed after e u back stands h (takes frame can g) =
    takes-holds role config u back before stands frame g h
goes-holds role config before taken failed after e u back stands h (asks ask frames made read v) =
    by-ask (asked role config before stands ask frames made read.method v)
  where
    by-ask : ((end_from role config false before).phase ≡ Running) × Asked role config before after
        → holds (end_of config after).phase ≡ false
    by-ask x = by x.1
      where
        by : Asked role config before after → holds (end_of config after).phase ≡ false
        by (above footing put from) = ap (λ (f : Footing). holds f.phase) footing ∙ ap holds x.0
        by (closes code text cause s) = ap (λ (f : Footing). holds f.phase) s.footing
        by (says signal block r s) = ap (λ (f : Footing). holds f.phase) s.footing ∙ ap holds x.0
goes-holds role config before taken failed after e u back stands h (controls control frames read v) =
    by (decided role config before control frames stands back read v)
  where
    by : {role : Role} {config : Config role} {before after : History} → Decided role config before after
        → holds (end_of config after).phase ≡ false
    by (beaten runs s) = ap (λ (f : Footing). holds f.phase) s.footing ∙ ap holds runs
    by (starts args p s) = ap (λ (f : Footing). holds f.phase) s.footing
    by (logs_in p s) = ap (λ (f : Footing). holds f.phase) s.footing
    by (opens p s) = ap (λ (f : Footing). holds f.phase) s.footing
    by (turns_away code text cause p s) = ap (λ (f : Footing). holds f.phase) s.footing
goes-holds role config before taken failed after e u back stands h (faults frame can g) = absurd (true≢false e)
goes-holds role config before taken failed after e u back stands h (meets_too_large p) = absurd (true≢false e)
goes-holds role config before taken failed after e u back stands h (fails p) = absurd (true≢false e)

never-holds : (role : Role) (config : Config role) (failed : Bool) (history : History) → failed ≡ false
    → config.gated ≡ false → WritesReadBack role config → Lawful role config failed history
    → holds (end_of config history).phase ≡ false
never-holds Client config failed history e u back begun = refl
never-holds Server config failed history e u back begun = refl
never-holds role config failed history e u back (goes {before = before} {taken = taken} lawful step) =
    goes-holds role config before taken failed history e u back (lawful-stands role config false before back lawful)
    (never-holds role config false before refl u back lawful) step

pub ungated-never-holds : UngatedNeverHolds
ungated-never-holds role config history back lawful u = never-holds role config false history refl u back lawful
