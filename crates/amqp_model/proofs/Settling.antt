-- What was agreed is within the limits, whatever an end did.
use Rattle.std.proofs.Common.{◌≡◌, Bool, true, false, cond, ◌&&◌, ℕ, zero, suc, nat_le, arith, List, []}
use Rattle.std.proofs.Common.{◌∷◌, Option, Some, None, refl, sym, subst}
use Rattle.std.proofs.lemmas.Bool.{and_parts, ltb-true, leb-true}
use Rattle.amqp_method.specs.declared.kinds.Kind.TheVariants as kinds
use Rattle.amqp_model.specs.Wire.Frame.{Frame}
use Rattle.amqp_model.specs.Wire.Notes.{Role, Client, Server}
use Rattle.amqp_model.specs.Wire.Methods.{same_kind}
use Rattle.amqp_model.specs.Wire.Readings.{Reading, Calls, UnknownMethod, MalformedMethod, HeaderOf, MalformedHeader}
use Rattle.amqp_model.specs.Wire.Readings.{BodyOf, Beat, reading}
use Rattle.amqp_model.specs.History.Histories.{History, PutHere, TookHere, entries_on}
use Rattle.amqp_model.specs.End.Channels.{Phase, Agreed, End}
use Rattle.amqp_model.specs.History.Negotiation.{Config, FRAME_MIN, agreed_in, in_range}
use Rattle.amqp_model.specs.End.StateFromHistory.{accepted, awaits_tune_ok, agreed_from, end_from}
use Rattle.amqp_model.specs.End.Closes.{FrameError, Owed, frame_of}
use Rattle.amqp_model.specs.End.Events.{FrameVerdict, Proceeds, RefusesContent, Faults, Peer}
use Rattle.amqp_model.specs.End.FrameVerdict.{methods_put}
use Rattle.amqp_model.specs.End.Asks.{Ask, refusal, frames_asked}
use Rattle.amqp_model.specs.End.EndVerdict.{facts_at, end_verdict}
use Rattle.amqp_model.specs.End.LawfulHistories.{Goes, greets, takes, faults, meets_too_large, fails, asks, controls}
use Rattle.amqp_model.specs.End.LawfulHistories.{begun, goes}
use Rattle.amqp_model.specs.End.Machine.{agreed_after, end_after, end_after_owed, failed_by, StandsFor}
use Rattle.amqp_model.specs.End.Fitting.{ConfigWrites, IfAgreedFits}
use Rattle.amqp_model.specs.Laws.FittingLaws.{MethodReadsBack, AgreedIsWithin, AgreedStaysWithin, AskKeepsAgreed}
use Rattle.amqp_model.proofs.Asking.{accepted as accepted-ask, accepted-none}
use Rattle.amqp_model.proofs.FrameSteps.{frame-follows}
use Rattle.amqp_model.proofs.Failing.{frame-fails, too-large-fails}
use Rattle.amqp_model.proofs.AskSteps.{asks-follow}
use Rattle.amqp_model.proofs.Walking.{Stands, stands-kept}
use Rattle.amqp_model.proofs.Controlling.{control-kept, puts-at-zero}
use Rattle.amqp_model.proofs.Lawfulness.{lawful-stands}
use Rattle.amqp_model.proofs.ReadBackOwed.{AllSound, owed-sound, fault-sound, all-reads-back}
use Rattle.amqp_model.proofs.OctetAsks.{AllKeep, all-keep, ask-keeps, control-keeps}

-- what a server accepts is within its own limits
accepted-fits : (config : Config Server) (agreed : Agreed) → ConfigWrites config
    → IfAgreedFits (accepted config agreed)
accepted-fits config agreed writes = cases (in_range config agreed) refl
  where
    cases : (b : Bool) → in_range config agreed ≡ b → IfAgreedFits (cond b (Some agreed) None)
    cases false e = tt
    cases true e =
        let d = and_parts _ (nat_le agreed.frame_max config.frame_max) e in
        let c = and_parts _ (nat_le FRAME_MIN agreed.frame_max) d.0 in
        let b = and_parts _ (nat_le agreed.channel_max config.channel_max) c.0 in
        let least = ltb-true 0 agreed.channel_max b.0 in
        let most = leb-true agreed.channel_max config.channel_max b.1 in
        let frame = leb-true FRAME_MIN agreed.frame_max c.1 in
        let frames = leb-true agreed.frame_max config.frame_max d.1 in
        record {
          channel_least = least;
          channel_most = omega (arith, most, writes.channel_most);
          frame_least = frame;
          frame_most = omega (arith, frames, writes.frame_most);
        }

either-fits : (b : Bool) (one other : Option Agreed) → IfAgreedFits one → IfAgreedFits other
    → IfAgreedFits (cond b one other)
either-fits true one other h k = h
either-fits false one other h k = k

taken-fits : (role : Role) (config : Config role) (phase : Phase) (r : Reading) (frame : Frame) (agreed : Option Agreed)
    → ConfigWrites config → IfAgreedFits agreed
    → IfAgreedFits (agreed_after role config phase (TookHere r frame) agreed)
taken-fits Client config phase r frame agreed writes fits = fits
taken-fits Server config phase (Calls method) frame agreed writes fits =
    either-fits (same_kind method.kind kinds.ConnectionTuneOk && awaits_tune_ok phase) _ _
    (accepted-fits config (agreed_in method) writes) fits
taken-fits Server config phase UnknownMethod frame agreed writes fits = fits
taken-fits Server config phase MalformedMethod frame agreed writes fits = fits
taken-fits Server config phase (HeaderOf size properties) frame agreed writes fits = fits
taken-fits Server config phase MalformedHeader frame agreed writes fits = fits
taken-fits Server config phase (BodyOf octets) frame agreed writes fits = fits
taken-fits Server config phase (Beat empty) frame agreed writes fits = fits

after-taken : (role : Role) (config : Config role) (c : ℕ) (r : Reading) (frame : Frame) (end : End)
    → ConfigWrites config → IfAgreedFits end.agreed
    → IfAgreedFits (end_after role config c (TookHere r frame) end).agreed
after-taken role config zero r frame end writes fits = taken-fits role config end.phase r frame end.agreed writes fits
after-taken role config (suc m) r frame end writes fits = fits

after-owed : (role : Role) (config : Config role) (number : ℕ) (owed : List Owed) (end : End) → AllSound number owed
    → IfAgreedFits end.agreed → IfAgreedFits (end_after_owed role config owed end).agreed
after-owed role config number [] end sound fits = fits
after-owed role config number (owed ∷ later) end sound fits =
    after-owed role config number later _ sound.1 (one role config owed.channel)
  where
    settled : (b : Bool) → same_kind owed.method.kind kinds.ConnectionTuneOk ≡ b
        → IfAgreedFits (cond b (Some (agreed_in owed.method)) end.agreed)
    settled true e = sound.0.settles e
    settled false e = fits

    one : (role : Role) (config : Config role) (c : ℕ)
        → IfAgreedFits (end_after role config c (PutHere (Calls owed.method) (frame_of owed)) end).agreed
    one Client config zero = settled (same_kind owed.method.kind kinds.ConnectionTuneOk) refl
    one Server config zero = fits
    one role config (suc m) = fits

by-verdict : (v : FrameVerdict) (end : End) → IfAgreedFits end.agreed → IfAgreedFits (failed_by v end).agreed
by-verdict (Proceeds event owed) end fits = fits
by-verdict RefusesContent end fits = fits
by-verdict (Faults fault) end fits = fits

goes-within : MethodReadsBack → (role : Role) (config : Config role) (before : History) (taken : Option Frame)
    (failed : Bool) (after : History) → ConfigWrites config
    → StandsFor role config false (end_from role config false before) before
    → IfAgreedFits (agreed_from role config (entries_on 0 before)) → Goes role config before taken failed after
    → IfAgreedFits (agreed_from role config (entries_on 0 after))
goes-within reads role config before taken failed after writes stands fits greets = tt
goes-within reads role config before taken failed after writes stands fits (takes frame p g) =
    let end = end_from role config false before in
    let follows = frame-follows role config end before frame (all-reads-back reads role config writes) stands g in
    subst IfAgreedFits (sym follows.agreed)
    (by-verdict (end_verdict config end frame) _
    (after-owed role config frame.channel
    (methods_put (facts_at config end frame.channel) (end_verdict config end frame)) _
    (owed-sound role (facts_at config end frame.channel) (reading frame) writes)
    (after-taken role config frame.channel (reading frame) frame end writes fits)))
goes-within reads role config before taken failed after writes stands fits (faults frame p g) =
    let end = end_from role config false before in
    let follows = frame-fails role config end before frame (all-reads-back reads role config writes) stands g in
    subst IfAgreedFits (sym follows.agreed)
    (by-verdict (end_verdict config end frame) _
    (after-owed role config frame.channel
    (methods_put (facts_at config end frame.channel) (end_verdict config end frame)) _
    (owed-sound role (facts_at config end frame.channel) (reading frame) writes)
    (after-taken role config frame.channel (reading frame) frame end writes fits)))
goes-within reads role config before taken failed after writes stands fits (meets_too_large p) =
    let end = end_from role config false before in
    let follows = too-large-fails role config end before (all-reads-back reads role config writes) stands in
    subst IfAgreedFits (sym follows.agreed)
    (after-owed role config 0 (methods_put (facts_at config end 0) (Faults (Peer FrameError))) end
    (fault-sound role (facts_at config end 0) FrameError 0) fits)
goes-within reads role config before taken failed after writes stands fits (fails p) = fits
goes-within reads role config before taken failed after writes stands fits (asks ask frames made read e) =
    let end = end_from role config false before in
    let parts = accepted-none (refusal role end ask) (frames_asked end ask) frames e in
    let follows = asks-follow role config end before ask frames stands read.method made e in
    let keeps = all-keep role config frames end
    (subst (AllKeep role config) parts.1
    (ask-keeps role config end ask read.method (accepted-ask role end ask parts.0))) in
    subst IfAgreedFits (sym follows.agreed) (subst IfAgreedFits (sym keeps) fits)
goes-within reads role config before taken failed after writes stands fits (controls control frames read e) =
    let end = end_from role config false before in
    let at = puts-at-zero role config end control frames (all-reads-back reads role config writes) read e in
    let follows = control-kept Stands stands-kept.puts role config end before frames stands at in
    let keeps = all-keep role config frames end (control-keeps role config frames at) in
    subst IfAgreedFits (sym follows.agreed) (subst IfAgreedFits (sym keeps) fits)

pub agreed-within : MethodReadsBack → AgreedIsWithin
agreed-within reads role config failed history writes begun = tt
agreed-within reads role config failed history writes (goes {before = before} {taken = taken} lawful step) =
    goes-within reads role config before taken failed history writes
    (lawful-stands role config false before (all-reads-back reads role config writes) lawful)
    (agreed-within reads role config false before writes lawful) step

pub agreed-stays : (role : Role) (config : Config role) (end : End) (frame : Frame)
    → AgreedStaysWithin role config end frame
agreed-stays role config end frame writes fits =
    by-verdict (end_verdict config end frame) _
    (after-owed role config frame.channel
    (methods_put (facts_at config end frame.channel) (end_verdict config end frame)) _
    (owed-sound role (facts_at config end frame.channel) (reading frame) writes)
    (after-taken role config frame.channel (reading frame) frame end writes fits))

pub ask-keeps-agreed : (role : Role) (config : Config role) (end : End) (ask : Ask) (frames : List Frame)
    → AskKeepsAgreed role config end ask frames
ask-keeps-agreed role config end ask frames back e =
    let parts = accepted-none (refusal role end ask) (frames_asked end ask) frames e in
    all-keep role config frames end
    (subst (AllKeep role config) parts.1 (ask-keeps role config end ask back (accepted-ask role end ask parts.0)))
