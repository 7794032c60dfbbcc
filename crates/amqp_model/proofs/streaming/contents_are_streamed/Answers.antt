-- Each clause is a lemma on what is kept.
use Rattle.amqp_model.proofs.Streamed.{steps-alike, remains-alike, gathers-alike, came-is-kept, each-is-gathered}
use Rattle.amqp_model.proofs.streaming.contents_are_streamed.Goals as goal

pub returns : goal.returns
returns c =
    record {
      step = steps-alike;
      remains = remains-alike;
      taken = gathers-alike;
      came = came-is-kept;
      each = each-is-gathered;
    }
