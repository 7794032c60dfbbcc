-- An end that fails: its phase and what was agreed follow each entry, whatever it finds.
use Rattle.std.proofs.Common.{◌≡◌, Bool, true, false, ℕ, zero, suc, ◌==◌, List, [], ◌∷◌, map, refl}
use Rattle.std.proofs.Common.{sym, ap, ap₂, ◌∙◌, subst}
use Rattle.std.proofs.lemmas.Bool.{true≢false}
use Rattle.amqp_model.specs.Wire.Frame.{Frame}
use Rattle.amqp_model.specs.Wire.Notes.{Role}
use Rattle.amqp_model.specs.Wire.Readings.{reading}
use Rattle.amqp_model.specs.History.Histories.{Put, Took, History, PutHere, TookHere, entries_on}
use Rattle.amqp_model.specs.End.Channels.{Free, HandshakeStep, Phase, Handshake, Failed, End}
use Rattle.amqp_model.specs.History.Negotiation.{Config}
use Rattle.amqp_model.specs.End.StateFromHistory.{phase_from, agreed_from}
use Rattle.amqp_model.specs.End.Closes.{FrameError, Owed, AllReadBack, frame_of}
use Rattle.amqp_model.specs.End.Events.{Peer, FrameVerdict, Proceeds, RefusesContent, Faults}
use Rattle.amqp_model.specs.End.FrameVerdict.{verdict_on, methods_put}
use Rattle.amqp_model.specs.End.EndVerdict.{facts_at, goes_on}
use Rattle.amqp_model.specs.End.LawfulHistories.{then_put}
use Rattle.amqp_model.specs.End.Machine.{phase_after, agreed_after, end_after, end_after_owed, as_failed, failed_by}
use Rattle.amqp_model.specs.End.Machine.{StandsFor}
use Rattle.amqp_model.specs.Laws.EndLaws.{FrameFails, TooLargeFails, AnyFails, FailedIsRead}
use Rattle.amqp_model.proofs.Acting.{reads-back}
use Rattle.amqp_model.proofs.EndSteps.{not-zero, zero-took, zero-put, agreed-taken, agreed-put, zero-took-others}
use Rattle.amqp_model.proofs.EndSteps.{zero-put-others, set-zero}
use Rattle.amqp_model.proofs.Phases.{phase-taken, phase-put}

-- what an end keeps of channel 0 is what the history counts to
record StandsOnZero (role : Role) (config : Config role) (end : End) (history : History) : Type 0 where
  phase : phase_from role false (entries_on 0 history) ≡ end.phase
  agreed : agreed_from role config (entries_on 0 history) ≡ end.agreed
  no_channel : end.channels 0 ≡ Free

on-zero : (role : Role) (config : Config role) (end : End) (history : History)
    → StandsFor role config false end history → StandsOnZero role config end history
on-zero role config end history stands =
    record { phase = stands.phase; agreed = stands.agreed; no_channel = stands.no_channel }

-- it follows each entry, fitting or not
took-on-zero : (role : Role) (config : Config role) (end : End) (history : History) (frame : Frame)
    → StandsOnZero role config end history
    → StandsOnZero role config (end_after role config frame.channel (TookHere (reading frame) frame) end)
    (Took frame ∷ history)
took-on-zero role config end history frame s = by-channel frame.channel refl
  where
    by-channel : (c : ℕ) → frame.channel ≡ c
        → StandsOnZero role config (end_after role config c (TookHere (reading frame) frame) end)
        (Took frame ∷ history)
    by-channel zero e = record {
      phase = ap (phase_from role false) (zero-took frame history e)
          ∙ (phase-taken role (reading frame) frame (entries_on 0 history)
          ∙ ap (phase_after role (TookHere (reading frame) frame)) s.phase);
      agreed = ap (agreed_from role config) (zero-took frame history e)
          ∙ (agreed-taken role config (reading frame) frame (entries_on 0 history)
          ∙ ap₂ (λ phase agreed. agreed_after role config phase (TookHere (reading frame) frame) agreed)
          s.phase s.agreed);
      no_channel = s.no_channel;
    }
    by-channel (suc m) e = record {
      phase = ap (phase_from role false) (zero-took-others frame history (above e)) ∙ s.phase;
      agreed = ap (agreed_from role config) (zero-took-others frame history (above e)) ∙ s.agreed;
      no_channel = set-zero m _ end.channels s.no_channel;
    }
      where
        above : frame.channel ≡ suc m → (frame.channel == 0) ≡ false
        above e = ap (λ c. c == 0) e ∙ not-zero m

put-on-zero : (role : Role) (config : Config role) (end : End) (history : History) (frame : Frame)
    → StandsOnZero role config end history
    → StandsOnZero role config (end_after role config frame.channel (PutHere (reading frame) frame) end)
    (Put frame ∷ history)
put-on-zero role config end history frame s = by-channel frame.channel refl
  where
    by-channel : (c : ℕ) → frame.channel ≡ c
        → StandsOnZero role config (end_after role config c (PutHere (reading frame) frame) end)
        (Put frame ∷ history)
    by-channel zero e = record {
      phase = ap (phase_from role false) (zero-put frame history e)
          ∙ (phase-put role (reading frame) frame (entries_on 0 history)
          ∙ ap (phase_after role (PutHere (reading frame) frame)) s.phase);
      agreed = ap (agreed_from role config) (zero-put frame history e)
          ∙ (agreed-put role config (reading frame) frame (entries_on 0 history)
          ∙ ap₂ (λ phase agreed. agreed_after role config phase (PutHere (reading frame) frame) agreed)
          s.phase s.agreed);
      no_channel = s.no_channel;
    }
    by-channel (suc m) e = record {
      phase = ap (phase_from role false) (zero-put-others frame history (above e)) ∙ s.phase;
      agreed = ap (agreed_from role config) (zero-put-others frame history (above e)) ∙ s.agreed;
      no_channel = set-zero m _ end.channels s.no_channel;
    }
      where
        above : frame.channel ≡ suc m → (frame.channel == 0) ≡ false
        above e = ap (λ c. c == 0) e ∙ not-zero m

owed-on-zero : (role : Role) (config : Config role) (owed : List Owed) (end : End) (history : History)
    → AllReadBack owed → StandsOnZero role config end history
    → StandsOnZero role config (end_after_owed role config owed end) (then_put (map frame_of owed) history)
owed-on-zero role config [] end history back s = s
owed-on-zero role config (owed ∷ later) end history back s =
    owed-on-zero role config later _ (Put (frame_of owed) ∷ history) back.1
    (subst (λ r. StandsOnZero role config (end_after role config owed.channel (PutHere r (frame_of owed)) end)
    (Put (frame_of owed) ∷ history)) (reads-back owed.channel owed.method back.0)
    (put-on-zero role config end history (frame_of owed) s))

abbrev is_failed : Phase → Bool
is_failed Failed = true
is_failed phase = false

failed-no-step : (step : HandshakeStep) → Failed ≡ Handshake step → ⊥
failed-no-step step p = true≢false (ap is_failed p)

-- an end that has failed stands for what it put and took
stands-failed : (role : Role) (config : Config role) (end : End) (history : History)
    → StandsOnZero role config end history → StandsFor role config true (as_failed end) history
stands-failed role config end history s = record {
  phase = refl;
  agreed = s.agreed;
  no_channel = s.no_channel;
  free_before = λ step p. absurd (failed-no-step step p);
  channels = λ e. absurd (true≢false e);
}

by-fault : (v : FrameVerdict) (end : End) → goes_on v ≡ false → failed_by v end ≡ as_failed end
by-fault (Faults fault) end g = refl
by-fault (Proceeds event owed) end g = absurd (true≢false g)
by-fault RefusesContent end g = absurd (true≢false g)

pub frame-fails : FrameFails
frame-fails role config end history frame back stands g =
    let v = verdict_on (facts_at config end frame.channel) (reading frame) in
    let s = owed-on-zero role config (methods_put (facts_at config end frame.channel) v) _ (Took frame ∷ history)
    (back.owed end frame.channel (reading frame))
    (took-on-zero role config end history frame (on-zero role config end history stands)) in
    subst (λ after.
    StandsFor role config true after (then_put (map frame_of (methods_put (facts_at config end frame.channel) v))
    (Took frame ∷ history))) (sym (by-fault v _ g)) (stands-failed role config _ _ s)

pub too-large-fails : TooLargeFails
too-large-fails role config end history back stands =
    stands-failed role config _ _
    (owed-on-zero role config (methods_put (facts_at config end 0) (Faults (Peer FrameError))) end history
    (back.too_large end) (on-zero role config end history stands))

pub any-fails : AnyFails
any-fails role config end history stands =
    stands-failed role config end history (on-zero role config end history stands)

pub failed-is-read : (role : Role) (config : Config role) (end next : End) (history : History)
    → FailedIsRead role config end next history
failed-is-read role config end next history stands p a free = record {
  phase = stands.phase ∙ sym p;
  agreed = stands.agreed ∙ sym a;
  no_channel = free;
  free_before = λ step at. absurd (failed-no-step step (stands.phase ∙ sym p ∙ at));
  channels = λ e. absurd (true≢false e);
}
