-- How much an end keeps stays within its bounds.
use Rattle.std.proofs.Common.{◌≡◌, ◌≢◌, ◌≤◌, Bool, true, false, cond, ℕ, refl, sym, ap, ◌∙◌, subst, arith}
use Rattle.std.proofs.Math.Logic.{∥∥₁_map, ∥∥₁_elim}
use Rattle.std.proofs.lemmas.Bool.{true≢false, false≢true}
use Rattle.std.specs.Coded.{le_prop}
use Rattle.amqp_model.specs.End.Answers.{octets_gathered}
use Rattle.amqp_model.specs.End.Bounds.{ChannelIsWithin, EndIsWithin, FrameStaysWithin, GatheredIsWithin}
use Rattle.amqp_model.specs.End.Channels.{Channel, End, Phase, Handshake, Running, Closing, Closed, Failed}
use Rattle.amqp_model.specs.End.EndVerdict.{end_verdict, goes_on, takes_octets}
use Rattle.amqp_model.specs.End.Events.{FrameVerdict, Proceeds, RefusesContent, Faults}
use Rattle.amqp_model.specs.Wire.Frame.{Frame}
use Rattle.amqp_model.specs.End.Machine.{as_failed, end_after_taken, failed_by}
use Rattle.amqp_model.specs.History.Negotiation.{Config}
use Rattle.amqp_model.specs.Wire.Notes.{Role}
use Rattle.amqp_model.specs.Wire.Readings.{reading}
use Rattle.amqp_core.specs.End.Bounded.{IsBounded}
use Rattle.amqp_core.specs.Connection.Outcomes.{SameEnd}

not_taking : (phase : Phase) → Failed ≡ phase → takes_octets phase ≡ false
not_taking phase e = ap takes_octets (sym e)

pub bounded_failed : (role : Role) (config : Config role) (end : End) → Failed ≡ end.phase → IsBounded role config end
bounded_failed role config end e = λ takes. absurd (false≢true (sym (not_taking end.phase e) ∙ takes))

within_same : (role : Role) (config : Config role) (one other : End) → one.channels ≡ other.channels → EndIsWithin role config one → EndIsWithin role config other
within_same role config one other e within = λ n. subst (λ (channels : ℕ → Channel). ChannelIsWithin role config.max_body (channels n)) e (within n)

pub bounded_same : (role : Role) (config : Config role) (one other : End) → one.channels ≡ other.channels → takes_octets one.phase ≡ true → IsBounded role config one → IsBounded role config other
bounded_same role config one other e takes bounded = λ more. ∥∥₁_map (bounded takes) (within_same role config one other e)

failed_then : (verdict : FrameVerdict) (end : End) → goes_on verdict ≡ false → Failed ≡ (failed_by verdict end).phase
failed_then (Proceeds event owed) end e = absurd (true≢false e)
failed_then RefusesContent end e = absurd (true≢false e)
failed_then (Faults fault) end e = refl

after_frame : (role : Role) (config : Config role) (old new : End) (frame : Frame) (g : Bool) → goes_on (end_verdict config old frame) ≡ g → FrameStaysWithin role config old frame → takes_octets old.phase ≡ true → IsBounded role config old → SameEnd (end_after_taken role config old (reading frame) frame) new → IsBounded role config new
after_frame role config old new frame true e law takes bounded same = λ more.
    let running : (end_after_taken role config old (reading frame) frame).phase ≢ Failed = λ failed. true≢false (sym more ∙ ap takes_octets (sym same.phase ∙ failed)) in
    ∥∥₁_map (bounded takes) (λ within. within_same role config (end_after_taken role config old (reading frame) frame) new (same.channels running) (law within e))
after_frame role config old new frame false e law takes bounded same = bounded_failed role config new (failed_then (end_verdict config old frame) _ e ∙ same.phase)

pub bounded_frame : (role : Role) (config : Config role) (old new : End) (frame : Frame) (b : Bool) → FrameStaysWithin role config old frame → takes_octets old.phase ≡ true → IsBounded role config old → SameEnd (cond b (as_failed old) (end_after_taken role config old (reading frame) frame)) new → IsBounded role config new
bounded_frame role config old new frame true law takes bounded same = bounded_failed role config new same.phase
bounded_frame role config old new frame false law takes bounded same = after_frame role config old new frame (goes_on (end_verdict config old frame)) refl law takes bounded same

by_phase : (role : Role) (config : Config role) (end : End) (n : ℕ) (phase : Phase) → end.phase ≡ phase → GatheredIsWithin role config end n → IsBounded role config end → octets_gathered end n ≤ config.max_body
by_phase role config end n (Handshake step) e law bounded = ∥∥₁_elim (bounded (ap takes_octets e)) le_prop law
by_phase role config end n Running e law bounded = ∥∥₁_elim (bounded (ap takes_octets e)) le_prop law
by_phase role config end n Closing e law bounded = ∥∥₁_elim (bounded (ap takes_octets e)) le_prop law
by_phase role config end n Closed e law bounded = rw e (omega arith)
by_phase role config end n Failed e law bounded = rw e (omega arith)

-- no more of a body is gathered than the end takes
pub gathered_within : (role : Role) (config : Config role) (end : End) (n : ℕ) → GatheredIsWithin role config end n → IsBounded role config end → octets_gathered end n ≤ config.max_body
gathered_within role config end n law bounded = by_phase role config end n end.phase refl law bounded
