-- What is known of an end between two calls, in both forms.
use Rattle.std.proofs.Common.{◌≡◌, ◌<◌, ◌≤◌, ◌+◌, Bool, true, false, Option, Some, None, ℕ, List, [], ◌∷◌, length, refl, sym, ap, subst, arith}
use Rattle.std.proofs.lemmas.Bool.{true≢false}
use Rattle.amqp_frame.specs.Stream.{Stream}
use Rattle.amqp_model.specs.End.Channels.{Agreed, End, Phase, Handshake, Running, Closing, Closed, Failed}
use Rattle.amqp_model.specs.End.EndVerdict.{takes_octets}
use Rattle.amqp_model.specs.Stream.Endpoint.{awaits_opening}
use Rattle.amqp_model.specs.End.Fitting.{IfAgreedFits}
use Rattle.amqp_model.specs.History.Negotiation.{frame_limit}
use Rattle.amqp_model.specs.Wire.Notes.{Role, Client, Server}
use Rattle.amqp_model.specs.Output.Outputs.{Output}
use Rattle.amqp_model.specs.Stream.Pieces.{AreBegun, HoldsUnfinished, reads_frames}
use Rattle.amqp_core.specs.Connection.View.{connection_end}
use Rattle.amqp_core.specs.End.EndpointView.{FieldsFit, EndpointIsSound, role_at, unfinished_of}
use Rattle.amqp_core.specs.End.Kept.{IsKept}
use Rattle.amqp_core.specs.declared.endpoint.Endpoint.{Endpoint}
use Rattle.amqp_core.proofs.FeedLemmas.{reads, unfinished_is}
use Rattle.amqp_core.proofs.HearLemmas.{begun, heard_is}

none_there : {A : Type 0} → (xs : List A) → length xs ≡ 0 → xs ≡ []
none_there [] e = refl
none_there (x ∷ xs) e = absurd (omega (arith, e))

holds_of : (role : Role) (end : End) (heard : ℕ) (stream : Stream) (output : Output) → FieldsFit role end heard stream → (reads_frames role end.phase ≡ true → AreBegun (frame_limit end.agreed) stream.pending) → HoldsUnfinished role (record { end = end; unfinished = unfinished_of heard stream.pending; output = output })
holds_of role end heard stream output fit frame = record {
  of_opening = λ e. begun role end.phase heard (unfinished_of heard stream.pending) e fit.within (heard_is heard stream.pending (fit.opening e));
  of_frame = λ r. subst (λ (xs : List ℕ). AreBegun (frame_limit end.agreed) xs) (sym (unfinished_is heard stream.pending (fit.opened (reads role end.phase r).opened))) (frame r);
}

pub kept_sound : (end : Endpoint) → IsKept end → EndpointIsSound end
kept_sound end kept = record {
  writes = kept.writes;
  staged = none_there end.outbox.staged kept.staged;
  fields = kept.fields;
  holds = holds_of (role_at end) (connection_end end.connection) end.heard end.splitter end.outbox.output kept.fields kept.begun;
  bounded = kept.bounded;
}

pub sound_kept : (end : Endpoint) → EndpointIsSound end → IsKept end
sound_kept end sound = record {
  writes = sound.writes;
  staged = ap (λ xs. length xs) sound.staged;
  fields = sound.fields;
  begun = λ r. subst (λ (xs : List ℕ). AreBegun (frame_limit (connection_end end.connection).agreed) xs) (unfinished_is end.heard end.splitter.pending (sound.fields.opened (reads (role_at end) (connection_end end.connection).phase r).opened)) (sound.holds.of_frame r);
  bounded = sound.bounded;
}

-- Fewer octets are pending than a frame may have.

least : (agreed : Option Agreed) → IfAgreedFits agreed → 8 ≤ frame_limit agreed
least None fits = omega arith
least (Some agreed) fits = omega (arith, fits.frame_least)

below_by : (b : Bool) (role : Role) (end : End) (heard pending : ℕ) (stream : Stream) → awaits_opening role end.phase ≡ b → FieldsFit role end heard stream → takes_octets end.phase ≡ true → pending ≡ length stream.pending → pending < stream.limit → heard + pending < frame_limit end.agreed
below_by true role end heard pending stream e fit takes count below =
    let none : length stream.pending ≡ 0 = ap (λ (xs : List ℕ). length xs) (fit.opening e) in
    omega (arith, fit.within, count, none, least end.agreed fit.agreed)
below_by false role end heard pending stream e fit takes count below =
    omega (arith, fit.opened e, below, (fit.ready takes).limit_is)

pending_below : (role : Role) (end : End) (heard pending : ℕ) (stream : Stream) → FieldsFit role end heard stream → takes_octets end.phase ≡ true → pending ≡ length stream.pending → pending < stream.limit → heard + pending < frame_limit end.agreed
pending_below role end heard pending stream fit takes count below = below_by (awaits_opening role end.phase) role end heard pending stream refl fit takes count below

-- and none, where the end takes no octets

over_phase : (phase : Phase) → takes_octets phase ≡ false → awaits_opening Server phase ≡ false
over_phase (Handshake step) e = absurd (true≢false e)
over_phase Running e = refl
over_phase Closing e = refl
over_phase Closed e = refl
over_phase Failed e = refl

over_reads : (role : Role) (end : End) → takes_octets end.phase ≡ false → awaits_opening role end.phase ≡ false
over_reads Client end e = refl
over_reads Server end e = over_phase end.phase e

pub pending_over : (role : Role) (end : End) (heard pending : ℕ) (stream : Stream) → FieldsFit role end heard stream → pending ≡ length stream.pending → takes_octets end.phase ≡ false → heard + pending ≡ 0
pending_over role end heard pending stream fit count over =
    let none : length stream.pending ≡ 0 = ap (λ (xs : List ℕ). length xs) (fit.over over) in
    omega (arith, fit.opened (over_reads role end over), count, none)

-- so fewer are pending than a frame may have in every phase
any_below : (b : Bool) (role : Role) (end : End) (heard pending : ℕ) (stream : Stream) → takes_octets end.phase ≡ b → FieldsFit role end heard stream → pending ≡ length stream.pending → pending < stream.limit → heard + pending < frame_limit end.agreed
any_below true role end heard pending stream e fit count below = pending_below role end heard pending stream fit e count below
any_below false role end heard pending stream e fit count below = omega (arith, pending_over role end heard pending stream fit count e, least end.agreed fit.agreed)

pub pending_within : (role : Role) (end : End) (heard pending : ℕ) (stream : Stream) → FieldsFit role end heard stream → pending ≡ length stream.pending → pending < stream.limit → heard + pending < frame_limit end.agreed
pending_within role end heard pending stream fit count below = any_below (takes_octets end.phase) role end heard pending stream refl fit count below
