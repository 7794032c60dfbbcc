use Rattle.std.proofs.Common.{◌≡◌, ◌+◌, ◌++◌, length, List, ℕ, ap, ◌∙◌, append_assoc, arith}
use Rattle.amqp_frame.specs.Frame.{octets}
use Rattle.amqp_frame.specs.Splitting.{stream}
use Rattle.amqp_method.specs.HeaderView.{properties_view}
use Rattle.amqp_method.specs.MethodView.{method_view}
use Rattle.amqp_method.specs.Properties.{header}
use Rattle.amqp_model.specs.End.Closes.{method_frame}
use Rattle.amqp_model.specs.Wire.Contents.{pieces}
use Rattle.amqp_outbox.specs.LentContent.{around, braided}
use Rattle.amqp_outbox.specs.OutboxFrames.{header_frame, body_frames}
use Rattle.amqp_outbox.proofs.LentBraids.{whole}
use Rattle.amqp_outbox.proofs.lent.ContentFrames.new.Goals as goal

pub returns-clause-ok : goal.returns-clause-ok
returns-clause-ok c =
    let channel = c.args.channel in
    let method : List ℕ = octets (method_frame channel (method_view c.args.method.now)) in
    let start : List ℕ = octets (header_frame channel (header (length c.args.body.now) (properties_view c.args.properties.now))) in
    let parts = pieces c.args.room c.args.body.now in
    let lead : c.append_header.new.octets.items ≡ method ++ start =
    c.in_ok-append_header.ensures.ok ∙ ap (λ xs. xs ++ start) (c.in_ok-append_method.ensures.ok ∙ ap (λ xs. xs ++ method) c.clear.ensures.items) in
    let items : c.deref.result.now ≡ (method ++ start) ++ around channel parts =
    c.deref.ensures.value ∙ (c.in_ok-append_around.ensures.ok ∙ ap (λ xs. xs ++ around channel parts) lead) in
    let ahead : c.len-ahead.result ≡ length (method ++ start) = let a = ap length lead in omega (arith, a, c.len-ahead.ensures, c.append_header.new.octets.ok.0) in
    ap (λ xs. braided (c.len-ahead.result + 7) xs parts) items
    ∙ (whole channel c.len-ahead.result (method ++ start) parts ahead
    ∙ append_assoc method start (stream (body_frames channel c.args.room c.args.body.now)))
