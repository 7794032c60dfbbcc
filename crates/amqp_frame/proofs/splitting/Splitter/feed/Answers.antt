use Rattle.std.proofs.Common.{rules}
use Rattle.amqp_frame.specs.Frame.{lent}
use Rattle.amqp_frame.specs.SplitterFields.{stream_of}
use Rattle.amqp_frame.proofs.SplitterLemmas.{lacks_at_frame}
use Rattle.amqp_frame.proofs.splitting.Splitter.feed.Goals as goal

pub returns : goal.returns
returns c =
    let completes = rw c.in-Some.is at c.in_ok-fed.ensures.feeds.frame in
    record {
      frame = search rules;
      rest = search rules;
      fault = search rules;
      memory = rw (← c.self.view_is) (lacks_at_frame (stream_of c.self.inside) c.args.piece.now c.in_ok-fed.fed.taken (lent c.in-Some.frame) c.self.invariant.begun c.in_ok-fed.ensures.feeds.within (rw (← c.self.view_is) at completes));
      running = search rules;
      within = search rules;
      progress = search rules;
      after = search rules;
    }
