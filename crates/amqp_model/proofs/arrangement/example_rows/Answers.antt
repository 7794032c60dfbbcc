-- The rows compute. In the last of them header 1 would stand before publish 2.
use Rattle.std.proofs.Common.{◌≤◌, refl, arith}
use Rattle.amqp_frame.specs.Frame.{octets}
use Rattle.amqp_model.specs.Laws.ArrangementExamples.{close}
use Rattle.amqp_model.proofs.arrangement.example_rows.Goals as goal

pub returns-clause-long_and_short : goal.returns-clause-long_and_short
returns-clause-long_and_short c =
    λ most rest most_is rest_is. (
      refl,
      rw (most_is, rest_is) refl,
      λ arranged. let sooner : 65535
          ≤ 1 = arranged.1.0 2 close (omega arith) in omega arith,
    )

pub returns-clause-begun_and_put : goal.returns-clause-begun_and_put
unfolding octets
returns-clause-begun_and_put c = (refl, refl, refl)
