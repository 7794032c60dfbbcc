-- The verdict of an end on a frame that it drops, or that is no method, and what it is left as.
use Rattle.std.proofs.Common.{◌≡◌, ◌<◌, ◌==◌, ◌&&◌, Bool, true, false, cond, ℕ, zero, suc, [], Option, Some, refl, ap, sym, ◌∙◌, arith}
use Rattle.std.proofs.lemmas.Bool.{eqb-true, eqb-false}
use Rattle.std.proofs.lemmas.Bool.Decides.{nat_tests}
use Rattle.amqp_method.specs.declared.kinds.Kind.TheVariants as kinds
use Rattle.amqp_model.specs.End.Channels.{Channel, End, Phase, Handshake, Running, Closing, Closed, Failed, Agreed}
use Rattle.amqp_model.specs.End.Closes.{FrameError}
use Rattle.amqp_model.specs.End.EndVerdict.{takes_frames}
use Rattle.amqp_model.specs.End.Events.{Fault, Proceeds, Faults, Discarded, Quiet}
use Rattle.amqp_model.specs.End.FrameVerdict.{fault, leaving_on, verdict_on}
use Rattle.amqp_model.specs.History.Histories.{TookHere}
use Rattle.amqp_model.specs.End.Machine.{set_channel, taken_verdict, end_after}
use Rattle.amqp_model.specs.History.Negotiation.{Config}
use Rattle.amqp_model.specs.Wire.Frame.{Frame}
use Rattle.amqp_model.specs.Wire.Notes.{Role}
use Rattle.amqp_model.specs.Wire.Readings.{Reading, Beat}
use Rattle.amqp_channel.specs.Channels.ChannelsView.{OnlyAt}
use Rattle.amqp_core.specs.Connection.View.{EndLeft, frame_at}
use Rattle.amqp_core.specs.Connection.Stages.{leaves}
use Rattle.amqp_core.proofs.EntryLemmas.{entry_leaving, nothing_stays, no_call, IsNoCall}

-- One channel alone changes.

only_at : (b : Bool) (number other : ℕ) (old new : ℕ → Channel) → (other == number) ≡ b → OnlyAt number old new → new other ≡ cond b (new number) (old other)
only_at true number other old new e h = ap new (eqb-true other number e)
only_at false number other old new e h = h other (eqb-false other number e)

pub set_only : (number : ℕ) (old new : ℕ → Channel) → OnlyAt number old new → new ≡ set_channel number (new number) old
set_only number old new h = λ i other. only_at (other == number) number other old new refl h i

-- The channel that may have changed did not, so none did.
same_at : (b : Bool) (number other : ℕ) (old new : ℕ → Channel) → (other == number) ≡ b → OnlyAt number old new → new number ≡ old number → new other ≡ old other
same_at true number other old new e others here = ap new (eqb-true other number e) ∙ (here ∙ ap old (sym (eqb-true other number e)))
same_at false number other old new e others here = others other (eqb-false other number e)

pub none_changed : (number : ℕ) (old new : ℕ → Channel) → OnlyAt number old new → new number ≡ old number → new ≡ old
none_changed number old new others here = λ i other. same_at (other == number) number other old new refl others here i

-- Frames that are dropped.

and_false : (b : Bool) → (b && false) ≡ false
and_false true = refl
and_false false = refl

above_zero : (n : ℕ) → 0 < n → (n == 0) ≡ false
above_zero n h = grind (arith, nat_tests)

leaving_unread : (number : ℕ) (reading : Reading) → IsNoCall reading → leaving_on number reading ≡ Proceeds (Some (Discarded number)) []
leaving_unread number reading h = rw (no_call kinds.ConnectionClose reading h, no_call kinds.ConnectionCloseOk reading h, and_false (number == 0)) refl

leaving_above : (number : ℕ) (reading : Reading) → 0 < number → leaving_on number reading ≡ Proceeds (Some (Discarded number)) []
leaving_above number reading h = rw (above_zero number h) refl

by_phase : (role : Role) (config : Config role) (phase : Phase) (agreed : Option Agreed) (number : ℕ) (channel : Channel) (reading : Reading) → leaves phase ≡ true → verdict_on (record { config = config; phase = phase; agreed = agreed; number = number; channel = channel }) reading ≡ leaving_on number reading
by_phase role config (Handshake step) agreed number channel reading h = cc
by_phase role config Running agreed number channel reading h = cc
by_phase role config Closing agreed number channel reading h = refl
by_phase role config Closed agreed number channel reading h = cc
by_phase role config Failed agreed number channel reading h = cc

pub leaving_verdict : (role : Role) (config : Config role) (end : End) (number : ℕ) (reading : Reading) → leaves end.phase ≡ true → taken_verdict config end number reading ≡ leaving_on number reading
leaving_verdict role config end number reading h = by_phase role config end.phase end.agreed number (end.channels number) reading h

-- an end that has put connection.close drops what is no method, and what stands on another channel than 0
pub drops_unread : (role : Role) (config : Config role) (end : End) (number : ℕ) (reading : Reading) → leaves end.phase ≡ true → IsNoCall reading → taken_verdict config end number reading ≡ Proceeds (Some (Discarded number)) []
drops_unread role config end number reading h unread = leaving_verdict role config end number reading h ∙ leaving_unread number reading unread

pub drops_above : (role : Role) (config : Config role) (end : End) (number : ℕ) (reading : Reading) → leaves end.phase ≡ true → 0 < number → taken_verdict config end number reading ≡ Proceeds (Some (Discarded number)) []
drops_above role config end number reading h above = leaving_verdict role config end number reading h ∙ leaving_above number reading above

pub unread_stays : (role : Role) (config : Config role) (end : End) (number : ℕ) (reading : Reading) → leaves end.phase ≡ true → IsNoCall reading → EndLeft config number reading (Proceeds (Some (Discarded number)) []) end end
unread_stays role config end zero reading h unread = λ kind payload. sym (nothing_stays role config reading (frame_at 0 kind payload) end unread)
unread_stays role config end (suc n) reading h unread = λ kind payload. sym (entry_leaving role config (suc n) (TookHere reading (frame_at (suc n) kind payload)) end (omega arith) h)

pub above_stays : (role : Role) (config : Config role) (end : End) (number : ℕ) (reading : Reading) → leaves end.phase ≡ true → 0 < number → EndLeft config number reading (Proceeds (Some (Discarded number)) []) end end
above_stays role config end number reading h above = λ kind payload. sym (entry_leaving role config number (TookHere reading (frame_at number kind payload)) end above h)

-- Heartbeats.

beat_by : (role : Role) (config : Config role) (phase : Phase) (agreed : Option Agreed) (number : ℕ) (channel : Channel) (empty : Bool) → takes_frames phase ≡ true → leaves phase ≡ false → verdict_on (record { config = config; phase = phase; agreed = agreed; number = number; channel = channel }) (Beat empty) ≡ cond ((number == 0) && empty) (Proceeds (Some Quiet) []) (fault FrameError)
beat_by role config (Handshake step) agreed number channel empty takes stays = refl
beat_by role config Running agreed number channel empty takes stays = refl
beat_by role config Closing agreed number channel empty takes stays = cc
beat_by role config Closed agreed number channel empty takes stays = cc
beat_by role config Failed agreed number channel empty takes stays = cc

pub beat_verdict : (role : Role) (config : Config role) (end : End) (number : ℕ) (empty : Bool) → takes_frames end.phase ≡ true → leaves end.phase ≡ false → taken_verdict config end number (Beat empty) ≡ cond ((number == 0) && empty) (Proceeds (Some Quiet) []) (fault FrameError)
beat_verdict role config end number empty takes stays = beat_by role config end.phase end.agreed number (end.channels number) empty takes stays

-- A frame with no method that the end finds fault with.

unread_agreed : (role : Role) (config : Config role) (number : ℕ) (reading : Reading) (frame : Frame) (end : End) → IsNoCall reading → end.agreed ≡ (end_after role config number (TookHere reading frame) end).agreed
unread_agreed role config zero reading frame end h = sym (ap (λ (e : End). e.agreed) (nothing_stays role config reading frame end h))
unread_agreed role config (suc n) reading frame end h = refl

pub unread_faults : (role : Role) (config : Config role) (number : ℕ) (reading : Reading) (end : End) (fault : Fault) → IsNoCall reading → EndLeft config number reading (Faults fault) end end
unread_faults role config number reading end fault h = ((λ kind payload. unread_agreed role config number reading (frame_at number kind payload) end h), refl)
