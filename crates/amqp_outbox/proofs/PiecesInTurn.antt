-- The row that waits in queues follows the rules.
use Rattle.std.proofs.Common.{ℕ, ◌++◌, All}
use Rattle.std.proofs.lemmas.List.Elements.{All-append, All-map, All-weaker}
use Rattle.amqp_model.specs.Output.Arrangement.{IsChannel, HasChannel, arranged}
use Rattle.amqp_model.specs.Output.ArrangementRules.{FollowsRules}
use Rattle.amqp_model.specs.Laws.ArrangementLaws.{ArrangedByRules, PutsMakeRow}
use Rattle.amqp_outbox.specs.PiecesQueues.{frame_of, frames_of, IsPlain, IsLeaving, AreSound, on_channels, row_of_queues}
use Rattle.amqp_outbox.specs.declared.queues.Chunk.{Chunk}
use Rattle.amqp_outbox.specs.declared.queues.Queues.{Queues}
use Rattle.amqp_outbox.proofs.PiecesMoves.{plain-frames, leaving-frames, all-above, above-channels}
use Rattle.amqp_outbox.proofs.PiecesRows.{arranged-keeps, in-turn}

row-channels : (last : ℕ) (queues : Queues) → AreSound queues → All HasChannel (row_of_queues last queues)
row-channels last queues s =
    let waiting = on_channels queues.channels.items in
    All-append HasChannel (frames_of queues.plain.items) (arranged last waiting ++ frames_of queues.leaving.items)
    (All-map HasChannel frame_of queues.plain.items (All-weaker IsPlain (λ (c : Chunk). HasChannel (frame_of c)) (λ c p. p.0.channel) queues.plain.items s.plain))
    (All-append HasChannel (arranged last waiting) (frames_of queues.leaving.items)
    (arranged-keeps HasChannel last waiting (above-channels waiting (all-above queues.channels.items s.channels)))
    (All-map HasChannel frame_of queues.leaving.items (All-weaker IsLeaving (λ (c : Chunk). HasChannel (frame_of c)) (λ c p. p.0.channel) queues.leaving.items s.leaving)))

pub row-rules : PutsMakeRow → ArrangedByRules → (last : ℕ) (queues : Queues) → IsChannel last → AreSound queues → FollowsRules last (row_of_queues last queues)
row-rules made rules last queues l s =
    (rules last (row_of_queues last queues) l (row-channels last queues s)).0
    (in-turn made last (frames_of queues.plain.items) (on_channels queues.channels.items) (frames_of queues.leaving.items) l (plain-frames queues.plain.items s.plain) (all-above queues.channels.items s.channels) (leaving-frames queues.leaving.items s.leaving))
