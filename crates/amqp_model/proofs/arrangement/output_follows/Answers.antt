-- The clauses are lemmas on outputs.
use Rattle.amqp_model.proofs.Departing.{output-begins, output-put, output-puts, output-rules, output-write}
use Rattle.amqp_model.proofs.arrangement.output_follows.Goals as goal

pub returns : goal.returns
returns c =
    record {
      begins = output-begins;
      put = output-put;
      puts = output-puts;
      write = output-write;
      rules = output-rules;
    }
