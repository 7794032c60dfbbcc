-- Where the parts of a frame stand among its octets, and back.
use Rattle.std.proofs.Common.{◌≡◌, ℕ, ◌+◌, ◌-◌, List, [], ◌∷◌, ◌++◌, length, take, drop, get_or, refl, sym, ap, ◌∙◌, arith, append_assoc, length-append, inl, inr}
use Rattle.std.proofs.lemmas.List.{take_at, drop_at, get_or_at, append_cancel_left}
use Rattle.byteorder.specs.Endian.{big_bytes, big_number}
use Rattle.byteorder.specs.Numbers.{big_number-reads_back}
use Rattle.amqp_frame.specs.Frame.{Frame, octets, Fits, END, type_octet, header, frame_length}
use Rattle.amqp_frame.specs.Splitting.{IsTypeOctet, size_of}
use Rattle.amqp_frame.specs.declared.frames.FrameKind.{FrameKind}
use Rattle.amqp_frame.specs.declared.frames.FrameKind.TheVariants.{Method, Header, Body, Heartbeat}

-- how many octets a frame has
pub length-octets : (f : Frame) → length (octets f) ≡ frame_length f
unfolding octets
length-octets f = simp length-append (omega arith)

-- each type octet is one
pub type_octet-is : (kind : FrameKind) → IsTypeOctet (type_octet kind)
type_octet-is Method = inl refl
type_octet-is Header = inr (inl refl)
type_octet-is Body = inr (inr (inl refl))
type_octet-is Heartbeat = inr (inr (inr refl))

-- a type octet stands for one kind
pub one_kind : (k l : FrameKind) → type_octet k ≡ type_octet l → k ≡ l
one_kind Method Method e = refl
one_kind Header Header e = refl
one_kind Body Body e = refl
one_kind Heartbeat Heartbeat e = refl
one_kind _ _ e = absurd (omega arith)

-- the type octet stands first
pub type-at_start : (f : Frame) (tail : List ℕ) → get_or (octets f ++ tail) 0 0 ≡ type_octet f.kind
unfolding octets
type-at_start f tail = refl

-- the channel stands in the second and the third octet
pub channel-at_start : (f : Frame) (tail : List ℕ) → Fits f → big_number 2 (drop 1 (octets f ++ tail)) ≡ f.channel
unfolding octets
channel-at_start f tail fits =
    big_number-reads_back 2 f.channel (big_bytes 4 (length f.payload) ++ (f.payload ++ END ∷ []) ++ tail) fits.channel

-- the size stands in the fourth to the seventh
pub size-at_start : (f : Frame) (tail : List ℕ) → Fits f → size_of (octets f ++ tail) ≡ length f.payload
unfolding octets
size-at_start f tail fits =
    big_number-reads_back 4 (length f.payload) ((f.payload ++ END ∷ []) ++ tail) fits.size

-- the payload stands after the seventh
pub payload-at_start : (f : Frame) (tail : List ℕ) → take (length f.payload) (drop 7 (octets f ++ tail)) ≡ f.payload
unfolding octets
payload-at_start f tail =
    rw (append_assoc f.payload (END ∷ []) tail) (take_at f.payload (END ∷ tail) (length f.payload) refl)

-- the end octet stands last
pub end-at_start : (f : Frame) (tail : List ℕ) → get_or (octets f ++ tail) (length f.payload + 7) 0 ≡ END
unfolding octets
end-at_start f tail =
    rw (append_assoc f.payload (END ∷ []) tail) (get_or_at (type_octet f.kind ∷ (big_bytes 2 f.channel ++ (big_bytes 4 (length f.payload) ++ f.payload))) END tail 0 (length f.payload + 7) (omega arith))

-- a frame of its parts
pub made : FrameKind → ℕ → List ℕ → Frame
made kind channel payload = record { kind = kind; channel = channel; payload = payload }

made-parts : (f : Frame) → f ≡ made f.kind f.channel f.payload
unfolding made
made-parts f = refl

-- frames with equal parts are equal
pub same_frame : (f g : Frame) → f.kind ≡ g.kind → f.channel ≡ g.channel → f.payload ≡ g.payload → f ≡ g
same_frame f g kinds channels payloads =
    let parts : made f.kind f.channel f.payload ≡ made g.kind g.channel g.payload = cc in
    made-parts f ∙ parts ∙ sym (made-parts g)

-- Octets that begin with two frames begin with the same one, and the same octets follow it.
pub one_frame : (f g : Frame) (xs ys : List ℕ) → Fits f → Fits g → octets f ++ xs ≡ octets g ++ ys → (f ≡ g) × (xs ≡ ys)
one_frame f g xs ys f_fits g_fits e =
    let kinds : f.kind ≡ g.kind = one_kind f.kind g.kind (sym (type-at_start f xs) ∙ ap (λ (zs : List ℕ). get_or zs 0 0) e ∙ type-at_start g ys) in
    let channels : f.channel ≡ g.channel = sym (channel-at_start f xs f_fits) ∙ ap (λ (zs : List ℕ). big_number 2 (drop 1 zs)) e ∙ channel-at_start g ys g_fits in
    let sizes : length f.payload ≡ length g.payload = sym (size-at_start f xs f_fits) ∙ ap size_of e ∙ size-at_start g ys g_fits in
    let payloads : f.payload ≡ g.payload =
    sym (payload-at_start f xs) ∙ rw sizes (ap (λ (zs : List ℕ). take (length g.payload) (drop 7 zs)) e ∙ payload-at_start g ys) in
    let same = same_frame f g kinds channels payloads in
    (same, append_cancel_left (octets g) xs ys (rw same at e))

-- the parts of a frame, appended in turn
pub written : (f : Frame) (out header payload : List ℕ) → header ≡ type_octet f.kind ∷ (big_bytes 2 f.channel ++ big_bytes 4 (length f.payload)) → payload ≡ f.payload
    → ((out ++ header) ++ payload) ++ END ∷ [] ≡ out ++ octets f
unfolding octets
written f out header payload header_is payload_is =
    rw (header_is, payload_is)
    (append_assoc (out ++ (type_octet f.kind ∷ (big_bytes 2 f.channel ++ big_bytes 4 (length f.payload)))) f.payload (END ∷ [])
    ∙ append_assoc out (type_octet f.kind ∷ (big_bytes 2 f.channel ++ big_bytes 4 (length f.payload))) (f.payload ++ END ∷ []))

-- the type and the channel, which stand before the size
before_size : Frame → List ℕ
before_size f = type_octet f.kind ∷ big_bytes 2 f.channel

-- the end octet appended, and the size filled in
pub finished : (before old pushed new : List ℕ) (f : Frame) (start size : ℕ)
    → length before ≡ start → old ≡ before ++ (header f.kind f.channel 0 ++ f.payload) → pushed ≡ old ++ END ∷ [] → size ≡ length f.payload
    → new ≡ take (start + 3) pushed ++ (big_bytes 4 size ++ drop (start + 3 + 4) pushed)
    → new ≡ before ++ octets f
unfolding octets before_size
finished before old pushed new f start size at old_is pushed_is size_is new_is =
    let parts : pushed ≡ (before ++ before_size f) ++ (big_bytes 4 0 ++ (f.payload ++ END ∷ [])) = rw (pushed_is, old_is) (simp append_assoc) in
    let more : pushed ≡ ((before ++ before_size f) ++ big_bytes 4 0) ++ (f.payload ++ END ∷ []) = parts ∙ sym (append_assoc (before ++ before_size f) (big_bytes 4 0) (f.payload ++ END ∷ [])) in
    let three : length (before ++ before_size f) ≡ start + 3 = length-append before (before_size f) ∙ omega arith in
    let seven : length ((before ++ before_size f) ++ big_bytes 4 0) ≡ start + 3 + 4 = length-append (before ++ before_size f) (big_bytes 4 0) ∙ omega arith in
    let first : take (start + 3) pushed ≡ before ++ before_size f = ap (take (start + 3)) parts ∙ take_at (before ++ before_size f) (big_bytes 4 0 ++ (f.payload ++ END ∷ [])) (start + 3) three in
    let last : drop (start + 3 + 4) pushed ≡ f.payload ++ END ∷ [] = ap (drop (start + 3 + 4)) more ∙ drop_at ((before ++ before_size f) ++ big_bytes 4 0) (f.payload ++ END ∷ []) (start + 3 + 4) seven in
    new_is ∙ rw (first, last, size_is) (append_assoc before (before_size f) (big_bytes 4 (length f.payload) ++ (f.payload ++ END ∷ [])))

-- what stands after a header is as long as the output without it
pub payload_size : (before old : List ℕ) (f : Frame) (start : ℕ) → length before ≡ start → old ≡ before ++ (header f.kind f.channel 0 ++ f.payload) → length old - start - 7 ≡ length f.payload
payload_size before old f start at old_is =
    let long : length old ≡ length before + (7 + length f.payload) = ap length old_is ∙ length-append before (header f.kind f.channel 0 ++ f.payload) ∙ omega arith in
    omega arith
