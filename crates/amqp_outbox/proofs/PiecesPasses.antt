-- What comes of a ring as the turn passes a queue.
use Rattle.std.proofs.Common.{◌≡◌, ℕ, ◌+◌, ◌-◌, ◌<◌, ◌≤◌, ◌∷◌, ◌++◌, length, get_or, drop, All, sym, ap, ◌∙◌, subst, arith}
use Rattle.std.specs.VecDeque.{deque_len}
use Rattle.amqp_model.specs.Output.Arrangement.{arranged}
use Rattle.amqp_model.specs.Laws.ArrangementLaws.{OneRow, PutsMakeRow}
use Rattle.amqp_outbox.specs.PiecesQueues.{frame_of, IsChunk, IsQueue}
use Rattle.amqp_outbox.specs.PiecesRing.{line_of, flat, IsRing, IsIdle, lines_at, queues_in, row_in, IsRound}
use Rattle.amqp_outbox.specs.declared.queues.Chunk.{Chunk}
use Rattle.amqp_outbox.specs.declared.queues.Queue.{Queue}
use Rattle.amqp_outbox.specs.declared.ring.Ring.{Ring}
use Rattle.amqp_outbox.proofs.PiecesTurns.{head}
use Rattle.amqp_outbox.proofs.PiecesRounds.{row-passes, ring-passes, idle-passes, none-idle, frame-lent, none-lent}

-- the ring once the turn has passed a queue
abbrev pub after_queue : Ring → Queue → (idle : ℕ) → Ring
after_queue ring queue idle = record ring { at = ring.at + 1; idle = idle; last = queue.channel }

pub round-passes : (ring : Ring) (queue : Queue) (idle : ℕ) → IsRound ring → ring.at < length (queues_in ring) → queue ≡ get_or (queues_in ring) ring.at queue
    → idle ≤ length (queues_in ring) → All IsIdle (drop (length (queues_in ring) - idle) (lines_at ring.round (ring.at + 1) (queues_in ring))) → IsRound (after_queue ring queue idle)
round-passes ring queue idle r h is few none =
    let q = r.queues ring.at queue h in
    let c = ap (λ (x : Queue). x.channel) is in
    let fits = q.channel in
    record {
      queues = r.queues;
      at = omega arith;
      in_turn = subst (λ (x : Queue). IsRing x.channel (lines_at ring.round (ring.at + 1) (queues_in ring))) (sym is) (ring-passes ring.last ring.round ring.at (queues_in ring) queue r.last h r.in_turn);
      last = omega arith;
      idle = few;
      none = none;
    }

pub round-lends : (ring : Ring) (queue : Queue) → IsRound ring → ring.at < length (queues_in ring) → queue ≡ get_or (queues_in ring) ring.at queue → IsRound (after_queue ring queue 0)
round-lends ring queue r h is = round-passes ring queue 0 r h is (omega arith) (none-idle ring.round (ring.at + 1) (queues_in ring) (omega arith))

idle-line : (ring : Ring) (queue : Queue) → queue ≡ get_or (queues_in ring) ring.at queue → deque_len queue.frames ≤ ring.round → IsIdle (line_of ring.round (get_or (queues_in ring) ring.at queue))
idle-line ring queue is h = subst (λ (x : Queue). IsIdle (line_of ring.round x)) is (none-lent ring.round queue h)

pub round-idles : (ring : Ring) (queue : Queue) → IsRound ring → ring.at < length (queues_in ring) → ring.idle < length (queues_in ring) → queue ≡ get_or (queues_in ring) ring.at queue → deque_len queue.frames ≤ ring.round
    → IsRound (after_queue ring queue (ring.idle + 1))
round-idles ring queue r h few is none =
    round-passes ring queue (ring.idle + 1) r h is (omega arith) (idle-passes ring.round ring.at ring.idle (queues_in ring) queue h few (idle-line ring queue is none) r.none)

row-after : OneRow → PutsMakeRow → (ring : Ring) (queue : Queue) (idle : ℕ) → IsRound ring → ring.at < length (queues_in ring) → queue ≡ get_or (queues_in ring) ring.at queue
    → row_in ring ≡ head (line_of ring.round queue).frames ++ row_in (after_queue ring queue idle)
row-after one made ring queue idle r h is =
    subst (λ (x : Queue). row_in ring ≡ head (line_of ring.round x).frames ++ arranged x.channel (flat (lines_at ring.round (ring.at + 1) (queues_in ring)))) (sym is)
    (row-passes one made ring.last ring.round ring.at (queues_in ring) queue r.last h r.in_turn)

pub row-lends : OneRow → PutsMakeRow → (ring : Ring) (queue : Queue) (chunk : Chunk) → IsRound ring → ring.at < length (queues_in ring) → queue ≡ get_or (queues_in ring) ring.at queue
    → ring.round < deque_len queue.frames → chunk ≡ get_or queue.frames.items ring.round chunk → (row_in ring ≡ frame_of chunk ∷ row_in (after_queue ring queue 0)) × IsChunk chunk
row-lends one made ring queue chunk r h is some here =
    let q = subst IsQueue (sym is) (r.queues ring.at queue h) in
    let l = queue.frames.ok.0 in
    let on = q.chunks ring.round chunk (omega arith) in
    (row-after one made ring queue 0 r h is ∙ ap (λ x. x ++ row_in (after_queue ring queue 0)) (frame-lent ring.round queue chunk some here), subst IsChunk (sym here) on.0)

pub row-idles : OneRow → PutsMakeRow → (ring : Ring) (queue : Queue) (idle : ℕ) → IsRound ring → ring.at < length (queues_in ring) → queue ≡ get_or (queues_in ring) ring.at queue
    → deque_len queue.frames ≤ ring.round → row_in ring ≡ row_in (after_queue ring queue idle)
row-idles one made ring queue idle r h is none =
    row-after one made ring queue idle r h is ∙ ap (λ x. head x ++ row_in (after_queue ring queue idle)) (none-lent ring.round queue none)

pub not-less : (a b : ℕ) → (a < b → ⊥) → b ≤ a
not-less a b h = omega arith
