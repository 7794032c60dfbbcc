-- A row that is handed over, frame by frame.
use Rattle.std.proofs.Common.{◌≡◌, ℕ, suc, ◌+◌, ◌-◌, ◌<◌, ◌≤◌, List, [], ◌∷◌, ◌++◌, length, map, take, drop, get_or, All, sym, ap, ◌∙◌, arith, append_assoc, length-append, length-drop}
use Rattle.std.proofs.Math.Seq.{drop-cons, take-suc}
use Rattle.std.proofs.lemmas.List.{length-map, get_or-map, take_at, drop_at, drop-take, length-take-le}
use Rattle.amqp_frame.specs.Frame.{Frame, octets}
use Rattle.amqp_frame.specs.Splitting.{stream}
use Rattle.amqp_model.specs.Output.Arrangement.{HasChannel}
use Rattle.amqp_outbox.specs.OutboxSlots.{slot_of, slot_length, slots_in, frame_in}
use Rattle.amqp_outbox.specs.OutboxFields.{all_octets, row_of, outgoing_of, OutboxIsSound}
use Rattle.amqp_outbox.specs.OutboxView.{Outgoing, with_staged}
use Rattle.amqp_outbox.specs.declared.outbox.Outbox.TheInside.{Inside}
use Rattle.amqp_outbox.specs.declared.slots.Waiting.{Waiting}
use Rattle.amqp_outbox.proofs.OutboxAside.{in-front}
use Rattle.amqp_outbox.proofs.OutboxRows.{length-octets}
use Rattle.amqp_outbox.proofs.OutboxWaiting.{count-slots, slot-at}
use Rattle.amqp_outbox.proofs.PiecesWrites.{nothing-left}

-- the frame whose slot stands at a place
pub record HasFrame (row : List Waiting) (frames : List Frame) (i : ℕ) (d : Waiting) : Type 0 where
  pub frame : Frame
  pub slot : (get_or row i d).slot ≡ slot_of frame
  pub rest : drop i frames ≡ frame ∷ drop (i + 1) frames
  pub past : take (i + 1) frames ≡ take i frames ++ frame ∷ []
  pub channel : All HasChannel frames → HasChannel frame

pub has-frame : (row : List Waiting) (frames : List Frame) (i : ℕ) (d : Waiting) → slots_in row ≡ map slot_of frames → i < length row → HasFrame row frames i d
has-frame row frames i d e h =
    let none = frame_in d.slot [] in
    let n = count-slots row in
    let m = ap length e ∙ length-map frames slot_of in
    let within : i < length frames = omega arith in
    let same : suc i ≡ i + 1 = omega arith in
    record {
      frame = get_or frames i none;
      slot = sym (slot-at row i d h) ∙ (ap (λ xs. get_or xs i d.slot) e ∙ get_or-map slot_of frames i none d.slot within);
      rest = drop-cons frames i none within ∙ ap (λ n. get_or frames i none ∷ drop n frames) same;
      past = ap (λ n. take n frames) (sym same) ∙ take-suc frames i none within;
      channel = λ a. a i none within;
    }

-- so many octets are those of the frame
pub frame-within : (row : List Waiting) (frames : List Frame) (i count : ℕ) (d : Waiting) (rest : List ℕ) → slots_in row ≡ map slot_of frames → i < length row → rest ≡ stream (drop i frames)
    → count ≡ slot_length (get_or row i d).slot → count ≤ length rest
frame-within row frames i count d rest e h is size =
    let f = has-frame row frames i d e h in
    let l = ap length (is ∙ ap stream f.rest) ∙ length-append (octets f.frame) (stream (drop (i + 1) frames)) in
    let o = length-octets f.frame in
    let s = size ∙ ap slot_length f.slot in
    omega arith

pub front-is : (row : List Waiting) (frames : List Frame) (i count : ℕ) (d : Waiting) (rest front : List ℕ) (e : slots_in row ≡ map slot_of frames) (h : i < length row) → rest ≡ stream (drop i frames)
    → count ≡ slot_length (get_or row i d).slot → front ≡ take count rest → front ≡ octets (has-frame row frames i d e h).frame
front-is row frames i count d rest front e h is size t =
    let f = has-frame row frames i d e h in
    let o = length-octets f.frame in
    let s = size ∙ ap slot_length f.slot in
    t ∙ (ap (take count) (is ∙ ap stream f.rest) ∙ take_at (octets f.frame) (stream (drop (i + 1) frames)) count (omega arith))

pub back-is : (row : List Waiting) (frames : List Frame) (i count : ℕ) (d : Waiting) (rest back : List ℕ) → slots_in row ≡ map slot_of frames → i < length row → rest ≡ stream (drop i frames)
    → count ≡ slot_length (get_or row i d).slot → back ≡ drop count rest → back ≡ stream (drop (i + 1) frames)
back-is row frames i count d rest back e h is size t =
    let f = has-frame row frames i d e h in
    let o = length-octets f.frame in
    let s = size ∙ ap slot_length f.slot in
    t ∙ (ap (drop count) (is ∙ ap stream f.rest) ∙ drop_at (octets f.frame) (stream (drop (i + 1) frames)) count (omega arith))

-- the next frame, by its slot and its octets
pub next-frame : (row : List Waiting) (frames : List Frame) (i count : ℕ) (d : Waiting) (rest front : List ℕ) → slots_in row ≡ map slot_of frames → i < length row → rest ≡ stream (drop i frames)
    → count ≡ slot_length (get_or row i d).slot → front ≡ take count rest → All HasChannel frames → (f : Frame) × ((get_or row i d).slot ≡ slot_of f) × (front ≡ octets f) × HasChannel f
next-frame row frames i count d rest front e h is size t a =
    let f = has-frame row frames i d e h in
    (f.frame, f.slot, front-is row frames i count d rest front e h is size t, f.channel a)

-- it is staged
pub frame-adds : (first now after : Outgoing) (row : List Waiting) (frames : List Frame) (i count : ℕ) (d : Waiting) (rest front : List ℕ) → slots_in row ≡ map slot_of frames → i < length row → rest ≡ stream (drop i frames)
    → count ≡ slot_length (get_or row i d).slot → front ≡ take count rest → now ≡ with_staged first (take i frames)
    → ((f : Frame) → (get_or row i d).slot ≡ slot_of f → front ≡ octets f → after ≡ with_staged now (f ∷ [])) → after ≡ with_staged first (take (i + 1) frames)
frame-adds first now after row frames i count d rest front e h is size t n staged =
    let f = has-frame row frames i d e h in
    staged f.frame f.slot (front-is row frames i count d rest front e h is size t)
    ∙ (ap (λ (o : Outgoing). with_staged o (f.frame ∷ [])) n
    ∙ ap (λ fs. record { output = first.output; staged = fs }) (append_assoc first.staged (take i frames) (f.frame ∷ []) ∙ ap (λ fs. first.staged ++ fs) (sym f.past)))

-- the octets of the row, as they are lent
pub octets-lent : (x : Inside) (items : List ℕ) → OutboxIsSound x → items ≡ x.octets.items → take (x.arranged - x.begun) (drop x.begun items) ≡ stream (row_of x)
octets-lent x items s e =
    let a = s.begun in
    ap (λ os. take (x.arranged - x.begun) (drop x.begun os)) e
    ∙ (in-front x.octets.items x.aside.items x.begun x.arranged a s.aside.row
    ∙ (sym (drop-take x.begun (x.arranged - x.begun) (all_octets x))
    ∙ (ap (λ n. drop x.begun (take n (all_octets x))) (omega arith) ∙ sym s.row_encoded)))

-- nothing is begun, or something is
pub none-ahead : (x : Inside) (value : Outgoing) → OutboxIsSound x → outgoing_of x ≡ value → x.begun ≤ x.written → value.output.ahead ≡ []
none-ahead x value s e h =
    let a = s.begun in
    let b = s.arranged in
    let l = length-take-le x.begun (all_octets x) (omega arith) in
    sym (ap (λ (o : Outgoing). o.output.ahead) e) ∙ nothing-left x.written (take x.begun (all_octets x)) (omega arith)

pub some-ahead : (x : Inside) (value : Outgoing) → OutboxIsSound x → outgoing_of x ≡ value → x.written < x.begun → value.output.ahead ≡ [] → ⊥
some-ahead x value s e h none =
    let a = s.begun in
    let b = s.arranged in
    let l = length-take-le x.begun (all_octets x) (omega arith) in
    let d = length-drop x.written (take x.begun (all_octets x)) in
    let z = ap length (ap (λ (o : Outgoing). o.output.ahead) e ∙ none) in
    omega arith
