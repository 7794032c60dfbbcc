use Rattle.std.proofs.lemmas.List.{take_rest}
use Rattle.amqp_text.proofs.ListingLemmas.{listed_frame}
use Rattle.amqp_text.proofs.listing.list.Goals as goal

pub loop-rest-preserved : goal.loop-rest-preserved
loop-rest-preserved c =
    let fed = rw c.in-Some.is at c.in-Ok.ensures in
    listed_frame c.args.octets.now c.loop-rest.rest.now _ c.loop-rest.frames.items c.push.new.self.items c.loop-rest.splitter c.feed.new.self c.in-Ok.fed.taken c.in-Some.frame
    c.loop-rest.invariant fed.within fed.frame fed.after c.in_ok-push.ensures.items (take_rest c.loop-rest.rest.now c.in-Ok.fed.taken)
