-- Each clause is a lemma on two endpoints.
use Rattle.amqp_model.proofs.EndsTogether.{new-stand-together, stand-together-turned, carry-stands-together}
use Rattle.amqp_model.proofs.EndsTogether.{ask-stands-together, asked-stays-pair}
use Rattle.amqp_model.proofs.agreement.ends_stand_together.Goals as goal

pub returns : goal.returns
returns c =
    record {
      new = new-stand-together;
      turned = stand-together-turned;
      carried = carry-stands-together c.written_reads_back.ensures.method;
      asked = ask-stands-together c.written_reads_back.ensures.method;
      pair = asked-stays-pair;
    }
