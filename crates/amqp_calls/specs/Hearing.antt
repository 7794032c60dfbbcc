-- What an end behind a handle heard, as it is told: the methods of the handshake, and what a close was about.
use Rattle.std.specs.Prelude.{◌≡◌, ℕ, List, Option, Some, None, Result}
use Rattle.amqp_method.specs.Arguments.{Call}
use Rattle.amqp_method.specs.Plain.{plain_method, CountsAllFit}
use Rattle.amqp_method.specs.declared.kinds.Kind.{Kind}
use Rattle.amqp_model.specs.End.Closes.{Cause}
use Rattle.amqp_model.specs.End.Heard.{Heard}
use Rattle.amqp_core.specs.Heard.View.{kept_of_kind}
use Rattle.amqp_core.specs.Stream.View.{heard_in}
use Rattle.amqp_core.specs.declared.roles.Role.{Ghosts}
use Rattle.amqp_core.specs.declared.stream.StreamEnd.{StreamEnd}
use Rattle.amqp_handle.specs.declared.kept.HeldEnd.{HeldEnd}
use Rattle.amqp_handle.specs.declared.kept.Kept.{Kept}
use Rattle.amqp_calls.specs.EndWrites.{Forgot}
use Rattle.amqp_calls.specs.HeldEnds.{Answers, Does}
use Rattle.amqp_calls.specs.Writing.{kind_numbered, ToldWrite, Writes}
use Rattle.amqp_calls.specs.declared.codec.writing.WriteFault.{WriteFault}
use Rattle.amqp_calls.specs.declared.codec.writing.Written.{Written}
use Rattle.amqp_calls.specs.declared.ends.hearing.CauseTold.{CauseTold}

-- the payload of a method is put into the room, or the room stays
abbrev pub WritesCall : Call → List ℕ → Result ℕ WriteFault → List ℕ → Type 0
WritesCall call old written new =
    Writes (λ octets. octets ≡ plain_method call) (CountsAllFit call.args → ⊥) (λ fault. ⊥) old written new

-- what is kept of a kind is written, if something is
abbrev pub WritesHeard : Option Call → List ℕ → ℕ → Written → List ℕ → Type 0
WritesHeard None old status out new = (status ≡ 8) × (new ≡ old)
WritesHeard (Some call) old status out new =
    (written : Result ℕ WriteFault) × WritesCall call old written new × ToldWrite written status out

-- of the kind that is asked for, if there is that kind
abbrev pub WritesKind : Option Kind → Heard → List ℕ → ℕ → Written → List ℕ → Type 0
WritesKind None heard old status out new = (status ≡ 201) × (new ≡ old)
WritesKind (Some kind) heard old status out new = WritesHeard (kept_of_kind kind heard) old status out new

-- of the end of an open handle, which stays as it is
abbrev pub HearsEnd : Option HeldEnd → (kind : ℕ) → List ℕ → ℕ → Written → List ℕ
    → Option HeldEnd → Type 0
HearsEnd old kind room status out now new =
    Answers status (λ R H G kept. WritesKind (kind_numbered kind) (heard_in kept.end.value).methods room status out now) old new
    × (old ≡ None → now ≡ room)

-- what was heard in the handshake is forgotten, and the events stay
abbrev pub Forgets : {R H : Type 0} {G : Ghosts R H} → (old new : Kept (StreamEnd R H G)) → Type 0
Forgets old new = Forgot old.end.value new.end.value × (new.gathering ≡ old.gathering)

abbrev pub ForgetsEnd : Option HeldEnd → ℕ → Option HeldEnd → Type 0
ForgetsEnd old status new = Does status (λ R H G kept now. (status ≡ 0) × Forgets kept now) old new

-- what the last close was about, if there was one
abbrev pub TellsCause : Option Cause → ℕ → CauseTold → Type 0
TellsCause None status out = status ≡ 8
TellsCause (Some cause) status out =
    (status ≡ 0) × (out.class_id ≡ cause.class_id) × (out.method_id ≡ cause.method_id)

-- of the end of an open handle, which stays as it is
abbrev pub CausesEnd : Option HeldEnd → ℕ → CauseTold → Option HeldEnd → Type 0
CausesEnd old status out new = Answers status (λ R H G kept. TellsCause (heard_in kept.end.value).cause status out) old new
