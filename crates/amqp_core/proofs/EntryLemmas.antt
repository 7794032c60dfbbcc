-- What an entry of a frame leaves of an end.
use Rattle.std.proofs.Common.{◌≡◌, ◌<◌, ◌==◌, Bool, true, false, cond, ℕ, zero, suc, List, [], ◌∷◌, map, Option, refl, ap, sym, ◌∙◌, arith}
use Rattle.std.proofs.lemmas.Bool.{eq-eqb, eqb-true}
use Rattle.amqp_method.specs.declared.kinds.Kind.TheVariants as kinds
use Rattle.amqp_model.specs.End.Channels.{Channel, End, Phase, Handshake, Running, Closing, Closed, Failed, Agreed}
use Rattle.amqp_model.specs.End.Closes.{frame_of}
use Rattle.amqp_model.specs.End.FrameVerdict.{on_channel}
use Rattle.amqp_model.specs.History.Histories.{ChannelEntry, PutHere, TookHere}
use Rattle.amqp_model.specs.End.Machine.{set_channel, channel_after, unless_leaving, end_after, end_after_owed, phase_taken, agreed_after}
use Rattle.amqp_model.specs.Wire.Methods.{Method, MethodKind}
use Rattle.amqp_model.specs.History.Negotiation.{Config}
use Rattle.amqp_model.specs.Wire.Notes.{Role, Client, Server}
use Rattle.amqp_model.specs.Wire.Frame.{Frame}
use Rattle.amqp_model.specs.Wire.Readings.{Reading, Calls, UnknownMethod, MalformedMethod, HeaderOf, MalformedHeader, BodyOf, Beat, is_call}
use Rattle.amqp_channel.specs.Verdict.Leaving.{after_owed}
use Rattle.amqp_core.specs.Connection.Stages.{leaves}

-- the end with this channel set
abbrev pub with_channel : (number : ℕ) → Channel → End → End
with_channel number channel end = record { phase = end.phase; agreed = end.agreed; channels = set_channel number channel end.channels }

same_number : (n : ℕ) → (n == n) ≡ true
same_number n = eq-eqb n n refl

pub set_here : (number : ℕ) (channel : Channel) (channels : ℕ → Channel) → set_channel number channel channels number ≡ channel
set_here number channel channels = rw (same_number number) refl

set_once : (b : Bool) (first second before : Channel) → cond b second (cond b first before) ≡ cond b second before
set_once true first second before = refl
set_once false first second before = refl

pub set_twice : (number : ℕ) (first second : Channel) (channels : ℕ → Channel) → set_channel number second (set_channel number first channels) ≡ set_channel number second channels
set_twice number first second channels = λ i other. set_once (other == number) first second (channels other) i

same_at : (b : Bool) (number other : ℕ) (channels : ℕ → Channel) → (other == number) ≡ b → cond b (channels number) (channels other) ≡ channels other
same_at true number other channels e = ap channels (sym (eqb-true other number e))
same_at false number other channels e = refl

-- a channel that is set to what it is
pub set_same : (number : ℕ) (channels : ℕ → Channel) → set_channel number (channels number) channels ≡ channels
set_same number channels = λ i other. same_at (other == number) number other channels refl i

unless_stays : (phase : Phase) (before after : Channel) → leaves phase ≡ false → unless_leaving phase before after ≡ after
unless_stays (Handshake step) before after h = refl
unless_stays Running before after h = refl
unless_stays Closing before after h = cc
unless_stays Closed before after h = refl
unless_stays Failed before after h = refl

unless_leaves : (phase : Phase) (before after : Channel) → leaves phase ≡ true → unless_leaving phase before after ≡ before
unless_leaves (Handshake step) before after h = cc
unless_leaves Running before after h = cc
unless_leaves Closing before after h = refl
unless_leaves Closed before after h = cc
unless_leaves Failed before after h = cc

-- an entry of a channel above 0 sets that channel
pub entry_above : (role : Role) (config : Config role) (number : ℕ) (entry : ChannelEntry) (end : End) → 0 < number → leaves end.phase ≡ false → end_after role config number entry end ≡ with_channel number (channel_after role entry (end.channels number)) end
entry_above role config zero entry end h stays = absurd (omega arith)
entry_above role config (suc n) entry end h stays = ap (λ c. with_channel (suc n) c end) (unless_stays end.phase (end.channels (suc n)) (channel_after role entry (end.channels (suc n))) stays)

-- once the end has put connection.close, it leaves all as it is
pub entry_leaving : (role : Role) (config : Config role) (number : ℕ) (entry : ChannelEntry) (end : End) → 0 < number → leaves end.phase ≡ true → end_after role config number entry end ≡ end
entry_leaving role config zero entry end h leaving = absurd (omega arith)
entry_leaving role config (suc n) entry end h leaving =
    ap (λ c. with_channel (suc n) c end) (unless_leaves end.phase (end.channels (suc n)) (channel_after role entry (end.channels (suc n))) leaving)
    ∙ ap (λ c. record { phase = end.phase; agreed = end.agreed; channels = c }) (set_same (suc n) end.channels)

-- methods that are owed on a channel above 0
pub owed_above : (role : Role) (config : Config role) (number : ℕ) (methods : List Method) (channel : Channel) (end : End) → 0 < number → leaves end.phase ≡ false → end_after_owed role config (map (on_channel number) methods) (with_channel number channel end) ≡ with_channel number (after_owed role (map (on_channel number) methods) channel) end
owed_above role config number [] channel end h stays = refl
owed_above role config number (method ∷ methods) channel end h stays =
    let entry : ChannelEntry = PutHere (Calls method) (frame_of (on_channel number method)) in
    let once : end_after role config number entry (with_channel number channel end) ≡ with_channel number (channel_after role entry channel) end =
    entry_above role config number entry (with_channel number channel end) h stays
    ∙ (rw (set_here number channel end.channels, set_twice number channel (channel_after role entry channel) end.channels) refl) in
    ap (end_after_owed role config (map (on_channel number) methods)) once
    ∙ owed_above role config number methods (channel_after role entry channel) end h stays

-- a frame taken on a channel above 0, and the methods that are owed there
pub taken_above : (role : Role) (config : Config role) (number : ℕ) (entry : ChannelEntry) (methods : List Method) (end : End) → 0 < number → leaves end.phase ≡ false → end_after_owed role config (map (on_channel number) methods) (end_after role config number entry end) ≡ with_channel number (after_owed role (map (on_channel number) methods) (channel_after role entry (end.channels number))) end
taken_above role config number entry methods end h stays =
    ap (end_after_owed role config (map (on_channel number) methods)) (entry_above role config number entry end h stays)
    ∙ owed_above role config number methods (channel_after role entry (end.channels number)) end h stays

-- What is no method leaves the connection as it is.

abbrev pub IsNoCall : Reading → Type 0
IsNoCall (Calls method) = ⊥
IsNoCall reading = Unit {0}

pub no_call : (kind : MethodKind) (reading : Reading) → IsNoCall reading → is_call kind reading ≡ false
no_call kind (Calls method) h = absurd h
no_call kind UnknownMethod h = refl
no_call kind MalformedMethod h = refl
no_call kind (HeaderOf size properties) h = refl
no_call kind MalformedHeader h = refl
no_call kind (BodyOf octets) h = refl
no_call kind (Beat empty) h = refl

phase_stays : (role : Role) (reading : Reading) (phase : Phase) → IsNoCall reading → phase_taken role reading phase ≡ phase
phase_stays Client reading (Handshake step) h = rw (no_call kinds.ConnectionClose reading h, no_call kinds.ConnectionCloseOk reading h, no_call kinds.ConnectionOpenOk reading h, no_call kinds.ConnectionTune reading h, no_call kinds.ConnectionStart reading h) refl
phase_stays Server reading (Handshake step) h = rw (no_call kinds.ConnectionClose reading h, no_call kinds.ConnectionCloseOk reading h, no_call kinds.ConnectionOpen reading h, no_call kinds.ConnectionTuneOk reading h, no_call kinds.ConnectionStartOk reading h) refl
phase_stays role reading Running h = rw (no_call kinds.ConnectionClose reading h, no_call kinds.ConnectionCloseOk reading h) refl
phase_stays role reading Closing h = rw (no_call kinds.ConnectionCloseOk reading h) refl
phase_stays role reading Closed h = refl
phase_stays role reading Failed h = refl

pub agreed_stays : (role : Role) (config : Config role) (reading : Reading) (frame : Frame) (phase : Phase) (agreed : Option Agreed) → IsNoCall reading → agreed_after role config phase (TookHere reading frame) agreed ≡ agreed
agreed_stays Client config reading frame phase agreed h = refl
agreed_stays Server config (Calls method) frame phase agreed h = absurd h
agreed_stays Server config UnknownMethod frame phase agreed h = refl
agreed_stays Server config MalformedMethod frame phase agreed h = refl
agreed_stays Server config (HeaderOf size properties) frame phase agreed h = refl
agreed_stays Server config MalformedHeader frame phase agreed h = refl
agreed_stays Server config (BodyOf octets) frame phase agreed h = refl
agreed_stays Server config (Beat empty) frame phase agreed h = refl

-- on channel 0
pub nothing_stays : (role : Role) (config : Config role) (reading : Reading) (frame : Frame) (end : End) → IsNoCall reading → end_after role config 0 (TookHere reading frame) end ≡ end
nothing_stays role config reading frame end h =
    ap (λ p. record { phase = p; agreed = agreed_after role config end.phase (TookHere reading frame) end.agreed; channels = end.channels }) (phase_stays role reading end.phase h)
    ∙ ap (λ a. record { phase = end.phase; agreed = a; channels = end.channels }) (agreed_stays role config reading frame end.phase end.agreed h)

-- what was agreed is no matter of a channel above 0
pub agreed_above : (role : Role) (config : Config role) (number : ℕ) (entry : ChannelEntry) (end : End) → 0 < number → (end_after role config number entry end).agreed ≡ end.agreed
agreed_above role config zero entry end h = absurd (omega arith)
agreed_above role config (suc n) entry end h = refl
