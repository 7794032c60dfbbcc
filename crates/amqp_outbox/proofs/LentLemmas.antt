-- Frames of one channel that are put where nothing waits and written at once, and a content whose body is lent.
use Rattle.std.proofs.Common.{◌≡◌, ℕ, ◌-◌, ◌<◌, ◌≤◌, cond, nat_lt, List, [], ◌∷◌, ◌++◌, length, drop, refl, sym, ap, ap₂, ◌∙◌, arith, append_assoc, append-nil, length-append, le-ltb, ne_eqb}
use Rattle.std.proofs.lemmas.List.{nil_from_length}
use Rattle.std.proofs.lemmas.List.Elements.{All-nil, All-cons, All-head, All-tail, All-append}
use Rattle.amqp_frame.specs.Frame.{Frame, octets, frame_length}
use Rattle.amqp_frame.specs.Splitting.{stream}
use Rattle.amqp_model.specs.Output.Arrangement.{steps, turn, last_after, placed, placed_all}
use Rattle.amqp_model.specs.Output.Outputs.{Output, output_octets, after_puts, row_after_writing}
use Rattle.amqp_outbox.specs.LentContent.{AllOn, all_written}
use Rattle.amqp_outbox.proofs.OutboxRows.{length-octets}
use Rattle.amqp_outbox.proofs.OutboxWoven.{puts-row}
use Rattle.amqp_outbox.proofs.PiecesRows.{turn-above, last-above}

-- a frame of the channel goes last among frames of it
placed-last : (channel last : ℕ) (f : Frame) (row : List Frame) → 0 < channel → f.channel ≡ channel → AllOn channel row → placed last f row ≡ row ++ f ∷ []
placed-last channel last f [] some e all = refl
placed-last channel last f (g ∷ row) some e all =
    let P : Frame → Type 0 = λ (x : Frame). x.channel ≡ channel in
    let on : g.channel ≡ channel = All-head P g row all in
    let a = turn-above last f (omega arith) in
    let b = turn-above last g (omega arith) in
    let same : steps last f.channel ≡ steps last g.channel = ap (steps last) (e ∙ sym on) in
    let later : turn last g ≤ turn last f = omega arith in
    ap (λ sooner. cond sooner (f ∷ g ∷ row) (g ∷ placed (last_after last g) f row)) (le-ltb (turn last f) (turn last g) later)
    ∙ ap (λ (r : List Frame). g ∷ r) (placed-last channel (last_after last g) f row some e (All-tail P g row all))

placed-behind : (channel last : ℕ) (frames row : List Frame) → 0 < channel → AllOn channel frames → AllOn channel row → placed_all last frames row ≡ row ++ frames
placed-behind channel last [] row some all on = sym (append-nil row)
placed-behind channel last (f ∷ frames) row some all on =
    let P : Frame → Type 0 = λ (x : Frame). x.channel ≡ channel in
    let e : f.channel ≡ channel = All-head P f frames all in
    ap (placed_all last frames) (placed-last channel last f row some e on)
    ∙ (placed-behind channel last frames (row ++ f ∷ []) some (All-tail P f frames all) (All-append P row (f ∷ []) on (All-cons P f [] e (All-nil P)))
    ∙ append_assoc row (f ∷ []) frames)

-- an output of which nothing is left, on the channel
abbrev pub nothing_on : ℕ → Output
nothing_on channel = record { ahead = []; begun_on = channel; last = channel; row = [] }

written-one : (n on last : ℕ) (f : Frame) (later : List Frame) → n ≡ length (stream (f ∷ later))
    → row_after_writing n on last (f ∷ later) ≡ row_after_writing (n - frame_length f) f.channel (last_after last f) later
written-one n on last f later n_is =
    let all = length-append (octets f) (stream later) in
    let one = length-octets f in
    let long : frame_length f ≤ n = omega arith in
    let some : (n ≡ 0) → ⊥ = λ e. omega arith in
    let rest = row_after_writing (n - frame_length f) f.channel (last_after last f) later in
    let begun : Output = record { ahead = drop n (octets f); begun_on = f.channel; last = last_after last f; row = later } in
    let none : Output = record { ahead = []; begun_on = on; last = last; row = f ∷ later } in
    ap (λ b. cond b none (cond (nat_lt n (frame_length f)) begun rest)) (ne_eqb n 0 some)
    ∙ ap (λ b. cond b begun rest) (le-ltb n (frame_length f) long)

written-row : (channel n on last : ℕ) (f : Frame) (later : List Frame) → 0 < channel → AllOn channel (f ∷ later) → n ≡ length (stream (f ∷ later))
    → row_after_writing n on last (f ∷ later) ≡ nothing_on channel
written-row channel n on last f [] some all n_is =
    let P : Frame → Type 0 = λ (x : Frame). x.channel ≡ channel in
    let e : f.channel ≡ channel = All-head P f [] all in
    let l : last_after last f ≡ channel = last-above last f (omega arith) ∙ e in
    written-one n on last f [] n_is
    ∙ ap₂ (λ c d. record { ahead = []; begun_on = c; last = d; row = [] }) e l
written-row channel n on last f (g ∷ later) some all n_is =
    let P : Frame → Type 0 = λ (x : Frame). x.channel ≡ channel in
    let all_octets = length-append (octets f) (stream (g ∷ later)) in
    let one = length-octets f in
    let left : n - frame_length f ≡ length (stream (g ∷ later)) = omega arith in
    written-one n on last f (g ∷ later) n_is
    ∙ written-row channel (n - frame_length f) f.channel (last_after last f) g later some (All-tail P f (g ∷ later) all) left

-- no octets, no frames
pub no-frames : (row : List Frame) → stream row ≡ [] → row ≡ []
no-frames [] e = refl
no-frames (f ∷ row) e =
    let all = length-append (octets f) (stream row) in
    let one = length-octets f in
    let none = ap length e in
    absurd (omega arith)

pub nothing-ahead : (o : Output) → output_octets o ≡ [] → o.ahead ≡ []
nothing-ahead o e =
    let all = length-append o.ahead (stream o.row) in
    let none = ap length e in
    nil_from_length o.ahead (omega arith)

pub nothing-waits : (o : Output) → output_octets o ≡ [] → o.row ≡ []
nothing-waits o e =
    let all = length-append o.ahead (stream o.row) in
    let none = ap length e in
    no-frames o.row (nil_from_length (stream o.row) (omega arith))

-- what is put where nothing waits, on one channel
pub put_alone : (channel : ℕ) (frames : List Frame) (o : Output) → 0 < channel → AllOn channel frames → output_octets o ≡ []
    → after_puts frames o ≡ record { ahead = []; begun_on = o.begun_on; last = o.last; row = frames }
put_alone channel frames o some all none =
    let P : Frame → Type 0 = λ (x : Frame). x.channel ≡ channel in
    let row : placed_all o.last frames o.row ≡ frames =
    ap (placed_all o.last frames) (nothing-waits o none) ∙ placed-behind channel o.last frames [] some all (All-nil P) in
    puts-row frames o ∙ ap₂ (λ a r. record { ahead = a; begun_on = o.begun_on; last = o.last; row = r }) (nothing-ahead o none) row

-- the same, and written
pub passed : (channel : ℕ) (f : Frame) (later : List Frame) (o : Output) → 0 < channel → AllOn channel (f ∷ later) → output_octets o ≡ []
    → all_written (after_puts (f ∷ later) o) ≡ nothing_on channel
passed channel f later o some all none =
    let n = length (stream (f ∷ later)) in
    let written : Output = row_after_writing (n - 0) o.begun_on o.last (f ∷ later) in
    let left : Output = record { ahead = drop n []; begun_on = o.begun_on; last = o.last; row = f ∷ later } in
    ap all_written (put_alone channel (f ∷ later) o some all none)
    ∙ (ap (λ b. cond b left written) (le-ltb n 0 (omega arith))
    ∙ written-row channel (n - 0) o.begun_on o.last f later some all (omega arith))
