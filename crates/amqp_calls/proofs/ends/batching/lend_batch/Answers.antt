use Rattle.std.proofs.Common.{refl}
use Rattle.amqp_calls.specs.LentBatches.{step_of, LendsBatch}
use Rattle.amqp_calls.proofs.KeptBatches.{lends_kept}
use Rattle.amqp_calls.proofs.LentPlaces.{told_by}
use Rattle.amqp_calls.proofs.ends.batching.lend_batch.Goals as goal

pub returns : goal.returns
returns g c =
    let kept = c.args.kept.now in
    let piece = c.args.piece.now in
    let places = c.args.places.now in
    let answer = c.lend_rest-answer.result in
    let n = c.lend_rest-answer.new in
    let new = c.lend_rest-answer.follows.lender-at-none in
    let rest = c.lend_rest-answer.follows.holds-at-none in
    let t = c.tell_rest in
    let batch : LendsBatch kept.end.value piece places t.result t.new.fed t.new.count t.new.places new.end.value =
    record {
      taken = n.fed.taken;
      shown = n.count;
      filled = n.places;
      answer = step_of answer;
      frames = rest.lends.frames;
      told = told_by answer new.end.value n.fed.taken n.count n.places t.result t.new.fed t.new.count t.new.places rest.lends.lent t.ensures;
    } in
    let leaves = lends_kept kept piece places t.result t.new.fed t.new.count t.new.places new c.requires rest.gathering batch in
    ((refl, λ _. tt, leaves), record { answers = record { new = new; leaves = leaves }; after = tt })
