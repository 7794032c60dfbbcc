use Rattle.std.proofs.Common.{◌++◌, ◌-◌, length, List, ap, ◌∙◌}
use Rattle.amqp_frame.specs.Frame.{Frame, octets}
use Rattle.amqp_frame.specs.Splitting.{stream}
use Rattle.amqp_method.specs.HeaderView.{properties_view}
use Rattle.amqp_method.specs.MethodView.{method_view}
use Rattle.amqp_method.specs.Properties.{header}
use Rattle.amqp_model.specs.End.Closes.{method_frame}
use Rattle.amqp_model.specs.Wire.Contents.{pieces}
use Rattle.amqp_outbox.specs.OutboxFrames.{header_frame}
use Rattle.amqp_core.proofs.PieceLemmas.{bodies_framed}
use Rattle.amqp_core.proofs.sending.lend_frames.Goals as goal

pub returns-in-Ok : goal.returns-in-Ok
returns-in-Ok c =
    let channel = c.args.channel in
    let body = c.args.body.now in
    let method : Frame = method_frame channel (method_view c.args.method.now) in
    let start : Frame = header_frame channel (header (length body) (properties_view c.args.properties.now)) in
    record {
      ok = c.in-Ok.ensures.ok
          ∙ ap (λ (frames : List Frame). octets method ++ (octets start ++ stream frames)) (bodies_framed channel (pieces (c.args.frame_max - 8) body));
      reads_back = record { method = c.in-Ok.ensures.method; header = c.in-Ok.ensures.header; text = tt };
      err = tt;
    }
