use Rattle.std.proofs.Common.{◌++◌, ◌-◌, ℕ, List, ap₂, sym, ◌∙◌, subst}
use Rattle.amqp_frame.specs.Frame.{Frame, octets}
use Rattle.amqp_frame.specs.Splitting.{stream}
use Rattle.amqp_method.specs.HeaderView.{properties_view}
use Rattle.amqp_method.specs.MethodView.{method_view}
use Rattle.amqp_method.specs.Properties.{header}
use Rattle.amqp_model.specs.End.Closes.{method_frame}
use Rattle.amqp_model.specs.Wire.Contents.{pieces}
use Rattle.amqp_outbox.specs.OutboxFrames.{header_frame, HeaderReadsBack}
use Rattle.amqp_core.proofs.PieceLemmas.{bodies_framed}
use Rattle.amqp_core.proofs.sending.begin_frames.Goals as goal

pub returns-in-Ok : goal.returns-in-Ok
returns-in-Ok c =
    let channel = c.args.channel in
    let properties = properties_view c.args.properties.now in
    let before = c.args.octets.now.items in
    let method : Frame = method_frame channel (method_view c.args.method.now) in
    record {
      ok = λ body sized.
          c.in-Ok.ensures.ok body sized
          ∙ ap₂ (λ (n : ℕ) (frames : List Frame). before ++ (octets method ++ (octets (header_frame channel (header n properties)) ++ stream frames)))
          (sym sized) (bodies_framed channel (pieces (c.args.frame_max - 8) body));
      left = c.in-Ok.ensures.left;
      reads_back = λ body sized. record {
        method = c.in-Ok.ensures.method;
        header = subst (λ (n : ℕ). HeaderReadsBack (header n properties)) (sym sized) c.in-Ok.ensures.header;
        text = tt;
      };
      err = tt;
      same = tt;
      stays = c.begin.ensures.stays;
    }
