-- How many octets wait, and how many are staged.
use Rattle.std.proofs.Common.{◌≡◌, ℕ, ◌+◌, Bool, true, false, cond, nat_lt, List, [], ◌∷◌, ◌++◌, length, ap, ◌∙◌, arith, length-append}
use Rattle.std.proofs.lemmas.List.{map-append}
use Rattle.amqp_frame.specs.Frame.{Frame, octets}
use Rattle.amqp_frame.specs.Splitting.{stream}
use Rattle.amqp_model.specs.Output.Arrangement.{turn, last_after, placed}
use Rattle.amqp_outbox.specs.PiecesQueues.{frame_of, frames_of, IsChunk}
use Rattle.amqp_outbox.specs.declared.queues.Chunk.{Chunk}
use Rattle.amqp_outbox.proofs.OutboxRows.{stream-append}

-- a frame that is put adds its octets
pub length-placed : (last : ℕ) (f : Frame) (row : List Frame) → length (stream (placed last f row)) ≡ length (octets f) + length (stream row)
length-placed last f [] = let a = length-append (octets f) [] in a
length-placed last f (g ∷ later) = by (nat_lt (turn last f) (turn last g)) (length-placed (last_after last g) f later)
  where
    by : (sooner : Bool) → length (stream (placed (last_after last g) f later)) ≡ length (octets f) + length (stream later)
        → length (stream (cond sooner (f ∷ g ∷ later) (g ∷ placed (last_after last g) f later))) ≡ length (octets f) + length (octets g ++ stream later)
    by true e = length-append (octets f) (octets g ++ stream later)
    by false e =
        let a = length-append (octets g) (stream (placed (last_after last g) f later)) in
        let b = length-append (octets g) (stream later) in
        omega arith

pub waiting-put : (waiting last : ℕ) (ahead : List ℕ) (chunk : Chunk) (old new : List Frame) → IsChunk chunk → waiting ≡ length (ahead ++ stream old) → new ≡ placed last (frame_of chunk) old
    → waiting + length chunk.octets.items ≡ length (ahead ++ stream new)
waiting-put waiting last ahead chunk old new whole e is =
    let a = length-append ahead (stream old) in
    let b = length-append ahead (stream new) in
    let c = ap (λ r. length (stream r)) is ∙ length-placed last (frame_of chunk) old in
    let d = ap length whole.encoded in
    omega arith

pub coming-first : (chunk : Chunk) (later items : List Chunk) → IsChunk chunk → items ≡ chunk ∷ later → length (stream (frames_of items)) ≡ length chunk.octets.items + length (stream (frames_of later))
coming-first chunk later items whole e =
    ap (λ xs. length (stream (frames_of xs))) e ∙ (length-append (octets (frame_of chunk)) (stream (frames_of later)) ∙ ap (λ n. n + length (stream (frames_of later))) (ap length whole.encoded))

pub coming-last : (chunk : Chunk) (old items : List Chunk) → IsChunk chunk → items ≡ old ++ chunk ∷ [] → length (stream (frames_of items)) ≡ length (stream (frames_of old)) + length chunk.octets.items
coming-last chunk old items whole e =
    let a : stream (frames_of items) ≡ stream (frames_of old) ++ (octets (frame_of chunk) ++ []) = ap (λ xs. stream (frames_of xs)) e ∙ (ap stream (map-append frame_of old (chunk ∷ [])) ∙ stream-append (frames_of old) (frame_of chunk ∷ [])) in
    let b = ap length a ∙ length-append (stream (frames_of old)) (octets (frame_of chunk) ++ []) in
    let c = length-append (octets (frame_of chunk)) [] in
    let d = ap length whole.encoded in
    omega arith
