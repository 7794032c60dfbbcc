-- How the octets of a frame come about, and its slot.
use Rattle.std.proofs.Common.{◌≡◌, ℕ, ◌-◌, Bool, true, false, ◌&&◌, ◌==◌, List, [], ◌∷◌, ◌++◌, length, take, drop, refl, sym, ap, ap₂, ◌∙◌, arith, append_assoc, ne_eqb, ◌⊎◌, inl, inr}
use Rattle.std.proofs.lemmas.Bool.{and_left}
use Rattle.std.proofs.lemmas.List.{take_at}
use Rattle.amqp_frame.specs.declared.frames.FrameKind.{FrameKind}
use Rattle.amqp_frame.specs.declared.frames.FrameKind.TheVariants.{Method, Header, Body, Heartbeat}
use Rattle.amqp_frame.specs.Frame.{Frame, header, octets, END}
use Rattle.amqp_model.specs.Output.Arrangement.{is_leaving, is_method, names_leaving}
use Rattle.amqp_frame.specs.Writing.{FinishesFrame}
use Rattle.amqp_outbox.specs.OutboxSlots.{slot_of}
use Rattle.amqp_outbox.proofs.OutboxRows.{length-octets}

-- a frame that was begun, and of which the payload was appended, is whole once it is finished
pub finished-is : (f : Frame) (old mid new : List ℕ) (at : ℕ) → at ≡ length old → mid ≡ (old ++ header f.kind f.channel 0) ++ f.payload
    → FinishesFrame at mid new → new ≡ old ++ octets f
finished-is f old mid new at e g finishes = finishes old f (sym e) (g ∙ append_assoc old (header f.kind f.channel 0) f.payload)

-- the payload of a whole frame
pub payload-is : (f : Frame) (frame : List ℕ) → frame ≡ octets f → take (length frame - 1 - 7) (drop 7 frame) ≡ f.payload
unfolding octets
payload-is f frame e =
    let n = ap length e ∙ length-octets f in
    ap₂ (λ k xs. take k (drop 7 xs)) (omega arith) e ∙ take_at f.payload (END ∷ []) (length f.payload) refl

-- a slot with the parts of a frame is that of the frame
pub slot-is : (f : Frame) (size channel : ℕ) (kind : FrameKind) (leaving : Bool) → size ≡ length f.payload → channel ≡ f.channel → kind ≡ f.kind → leaving ≡ is_leaving f
    → record { size = size; channel = channel; kind = kind; leaving = leaving } ≡ slot_of f
slot-is f size channel kind leaving e g h k = cc

-- whether a frame leaves the connection: a method of channel 0 does as its payload says
pub leaves-at_0 : (f : Frame) (leaving : Bool) → f.channel ≡ 0 → f.kind ≡ Method → leaving ≡ names_leaving f.payload → leaving ≡ is_leaving f
leaves-at_0 f leaving z k e = e ∙ sym (ap₂ (λ c l. (c == 0) && (is_method l && names_leaving f.payload)) z k)

-- one of another channel doesn't
pub leaves-above : (f : Frame) (leaving : Bool) → (f.channel ≡ 0 → ⊥) → leaving ≡ (f.channel == 0) → leaving ≡ is_leaving f
leaves-above f leaving z e =
    let n = ne_eqb f.channel 0 z in
    e ∙ (n ∙ sym (and_left (f.channel == 0) (is_method f.kind && names_leaving f.payload) n))

-- nor does one that is no method
pub leaves-other : (f : Frame) (leaving : Bool) → (f.kind ≡ Header) ⊎ ((f.kind ≡ Body) ⊎ (f.kind ≡ Heartbeat)) → leaving ≡ false → leaving ≡ is_leaving f
leaves-other f leaving kinds e = e ∙ sym (not_method (other kinds))
  where
    other : (f.kind ≡ Header) ⊎ ((f.kind ≡ Body) ⊎ (f.kind ≡ Heartbeat)) → is_method f.kind ≡ false
    other (inl k) = ap is_method k
    other (inr (inl k)) = ap is_method k
    other (inr (inr k)) = ap is_method k

    never : (b : Bool) → (b && false) ≡ false
    never true = refl
    never false = refl

    not_method : is_method f.kind ≡ false → is_leaving f ≡ false
    not_method k = ap (λ m. (f.channel == 0) && (m && names_leaving f.payload)) k ∙ never (f.channel == 0)
