-- A queue of which nothing is left.
use Rattle.std.proofs.Common.{◌≡◌, List, [], ◌∷◌, length, drop, refl, sym, ap, ◌∙◌, arith, length-append}
use Rattle.amqp_frame.specs.Frame.{Frame, octets}
use Rattle.amqp_frame.specs.Splitting.{stream}
use Rattle.amqp_outbox.specs.PiecesFields.{outgoing_in, IsWhole}
use Rattle.amqp_outbox.specs.PiecesQueues.{frames_of, row_of_queues}
use Rattle.amqp_outbox.specs.declared.send_queue.SendQueue.TheInside.{Inside}
use Rattle.amqp_outbox.proofs.OutboxRows.{length-octets}
use Rattle.amqp_outbox.proofs.OutboxStates.{outgoing}

none-left : (row : List Frame) → length (stream row) ≡ 0 → row ≡ []
none-left [] h = refl
none-left (f ∷ row) h =
    let l = length-append (octets f) (stream row) in
    let o = length-octets f in
    absurd (omega arith)

pub nothing : {X : Type 0} (items : List X) → length items ≡ 0 → items ≡ []
nothing [] h = refl
nothing (x ∷ items) h = absurd (omega arith)

-- what the fields of a queue are, once their room is given back
pub record IsGivenBack (x y : Inside) : Type 0 where
  pub ahead : y.ahead.items ≡ []
  pub written : y.written ≡ 0
  pub row : row_of_queues x.last y.queues ≡ []
  pub staged : y.staged.items ≡ []
  pub begun_on : y.begun_on ≡ x.begun_on
  pub last : y.last ≡ x.last

pub given-back-view : (x y : Inside) → IsWhole x → x.waiting ≡ 0 → x.staged.items ≡ [] → IsGivenBack x y → outgoing_in y ≡ outgoing_in x
given-back-view x y w none staged g =
    let row = row_of_queues x.last x.queues in
    let ahead = drop x.written x.ahead.items in
    let l = length-append ahead (stream row) in
    let k = w.waiting in
    let no_row : row ≡ [] = none-left row (omega arith) in
    let no_ahead : ahead ≡ [] = nothing ahead (omega arith) in
    let same_ahead : drop y.written y.ahead.items ≡ ahead = ap (drop y.written) g.ahead ∙ (ap (λ n. drop n []) g.written ∙ sym no_ahead) in
    let same_row : row_of_queues y.last y.queues ≡ row = ap (λ n. row_of_queues n y.queues) g.last ∙ (g.row ∙ sym no_row) in
    let same_staged = g.staged ∙ sym staged in
    ap (λ a. outgoing a y.begun_on y.last (row_of_queues y.last y.queues) (frames_of y.staged.items)) same_ahead
    ∙ (ap (λ r. outgoing ahead y.begun_on y.last r (frames_of y.staged.items)) same_row
    ∙ (ap (λ s. outgoing ahead y.begun_on y.last row (frames_of s)) same_staged
    ∙ (ap (λ n. outgoing ahead n y.last row (frames_of x.staged.items)) g.begun_on
    ∙ ap (λ n. outgoing ahead x.begun_on n row (frames_of x.staged.items)) g.last)))
