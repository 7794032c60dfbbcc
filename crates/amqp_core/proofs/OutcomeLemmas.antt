-- From a verdict to what the definitions say of the end that takes the frame.
use Rattle.std.proofs.Common.{◌≡◌, ◌==◌, Bool, true, false, ℕ, zero, suc, List, Option, refl, ap, sym, ◌∙◌, subst, arith}
use Rattle.std.proofs.lemmas.Bool.Decides.{nat_tests}
use Rattle.amqp_frame.specs.declared.frames.FrameKind.{FrameKind}
use Rattle.amqp_model.specs.End.Channels.{Channel, End, Phase, Handshake, Running, Closing, Closed, Failed, Agreed}
use Rattle.amqp_model.specs.End.EndVerdict.{facts_at}
use Rattle.amqp_model.specs.Stream.Endpoint.{outcome_of}
use Rattle.amqp_model.specs.End.Events.{Fault, Peer, Fatal, WrongProtocolHeader, AlreadyClosed, AlreadyFailed, FrameVerdict, Proceeds, RefusesContent, Faults}
use Rattle.amqp_model.specs.End.FrameVerdict.{methods_put}
use Rattle.amqp_model.specs.History.Histories.{ChannelEntry, TookHere}
use Rattle.amqp_model.specs.End.Machine.{end_after, end_after_owed, end_after_taken, taken_verdict, failed_by}
use Rattle.amqp_model.specs.History.Negotiation.{Config}
use Rattle.amqp_model.specs.Wire.Notes.{Role, Client, Server}
use Rattle.amqp_model.specs.Wire.Readings.{Reading}
use Rattle.amqp_core.specs.Connection.View.{EndLeft, frame_at}
use Rattle.amqp_core.specs.Connection.Outcomes.{owed_for, owed_by, told_by, ended_by, SameEnd}
use Rattle.amqp_core.specs.Connection.Stages.{leaves}

fault_puts : (role : Role) (config : Config role) (phase : Phase) (agreed : Option Agreed) (number : ℕ) (channel : Channel) (fault : Fault) → methods_put (record { config = config; phase = phase; agreed = agreed; number = number; channel = channel }) (Faults fault) ≡ owed_for (leaves phase) fault
fault_puts role config (Handshake step) agreed number channel (Peer code) = refl
fault_puts role config Running agreed number channel (Peer code) = refl
fault_puts role config Closing agreed number channel (Peer code) = refl
fault_puts role config Closed agreed number channel (Peer code) = refl
fault_puts role config Failed agreed number channel (Peer code) = refl
fault_puts role config phase agreed number channel Fatal = refl
fault_puts role config phase agreed number channel WrongProtocolHeader = refl
fault_puts role config phase agreed number channel AlreadyClosed = refl
fault_puts role config phase agreed number channel AlreadyFailed = refl

pub owed_is : (role : Role) (config : Config role) (end : End) (number : ℕ) (verdict : FrameVerdict) → owed_by (leaves end.phase) number verdict ≡ methods_put (facts_at config end number) verdict
owed_is role config end number (Proceeds event owed) = refl
owed_is role config end number RefusesContent = refl
owed_is role config end number (Faults fault) = sym (fault_puts role config end.phase end.agreed number (end.channels number) fault)

pub told_is : (role : Role) (config : Config role) (end : End) (number : ℕ) (verdict : FrameVerdict) → told_by number verdict ≡ outcome_of (facts_at config end number) verdict
told_is role config end number (Proceeds event owed) = refl
told_is role config end number RefusesContent = refl
told_is role config end number (Faults fault) = refl

same_end : (one other : End) → one ≡ other → SameEnd one other
same_end one other e = record { phase = ap (λ (x : End). x.phase) e; agreed = ap (λ (x : End). x.agreed) e; no_channel = ap (λ (x : End). x.channels 0) e; channels = λ running. ap (λ (x : End). x.channels) e }

-- the close that an end puts leaves what was agreed, and the channels
pub close_agreed : (role : Role) (config : Config role) (closing : Bool) (fault : Fault) (end : End) → (end_after_owed role config (owed_for closing fault) end).agreed ≡ end.agreed
close_agreed Client config true (Peer code) end = refl
close_agreed Client config false (Peer code) end = refl
close_agreed Server config true (Peer code) end = refl
close_agreed Server config false (Peer code) end = refl
close_agreed role config closing Fatal end = refl
close_agreed role config closing WrongProtocolHeader end = refl
close_agreed role config closing AlreadyClosed end = refl
close_agreed role config closing AlreadyFailed end = refl

pub close_channels : (role : Role) (config : Config role) (closing : Bool) (fault : Fault) (end : End) → (end_after_owed role config (owed_for closing fault) end).channels ≡ end.channels
close_channels role config true (Peer code) end = refl
close_channels role config false (Peer code) end = refl
close_channels role config closing Fatal end = refl
close_channels role config closing WrongProtocolHeader end = refl
close_channels role config closing AlreadyClosed end = refl
close_channels role config closing AlreadyFailed end = refl

zero_no : (n : ℕ) → (0 == suc n) ≡ false
zero_no n = grind (arith, nat_tests)

zero_stays : (role : Role) (config : Config role) (number : ℕ) (entry : ChannelEntry) (end : End) → (end_after role config number entry end).channels 0 ≡ end.channels 0
zero_stays role config zero entry end = refl
zero_stays role config (suc n) entry end = rw (zero_no n) refl

ends_by : (role : Role) (config : Config role) (before mid : End) (number : ℕ) (reading : Reading) (verdict : FrameVerdict) (kind : FrameKind) (payload : List ℕ) → EndLeft config number reading verdict before mid → SameEnd (failed_by verdict (end_after_owed role config (owed_by (leaves before.phase) number verdict) (end_after role config number (TookHere reading (frame_at number kind payload)) before))) (ended_by verdict mid)
ends_by role config before mid number reading (Proceeds event owed) kind payload left = same_end _ _ (sym (left kind payload))
ends_by role config before mid number reading RefusesContent kind payload left = same_end _ _ (sym (left kind payload))
ends_by role config before mid number reading (Faults fault) kind payload left =
    let taken : End = end_after role config number (TookHere reading (frame_at number kind payload)) before in
    record {
      phase = refl;
      agreed = close_agreed role config (leaves before.phase) fault taken ∙ sym (left.0 kind payload);
      no_channel = ap (λ (c : ℕ → Channel). c 0) (close_channels role config (leaves before.phase) fault taken) ∙ (zero_stays role config number (TookHere reading (frame_at number kind payload)) before ∙ sym left.1);
      channels = λ running. absurd (running refl);
    }

pub end_is : (role : Role) (config : Config role) (before mid : End) (number : ℕ) (reading : Reading) (verdict : FrameVerdict) (kind : FrameKind) (payload : List ℕ) → verdict ≡ taken_verdict config before number reading → EndLeft config number reading verdict before mid → SameEnd (end_after_taken role config before reading (frame_at number kind payload)) (ended_by verdict mid)
end_is role config before mid number reading verdict kind payload e left =
    let taken : End = end_after role config number (TookHere reading (frame_at number kind payload)) before in
    let same : failed_by verdict (end_after_owed role config (owed_by (leaves before.phase) number verdict) taken) ≡ end_after_taken role config before reading (frame_at number kind payload) =
    ap (λ o. failed_by verdict (end_after_owed role config o taken)) (owed_is role config before number verdict)
    ∙ ap (λ v. failed_by v (end_after_owed role config (methods_put (facts_at config before number) v) taken)) e in
    subst (λ (x : End). SameEnd x (ended_by verdict mid)) same (ends_by role config before mid number reading verdict kind payload left)
