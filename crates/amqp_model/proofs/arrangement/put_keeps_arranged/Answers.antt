-- The clauses are lemmas on rows.
use Rattle.std.proofs.Common.{refl, sym, ◌∷◌, [], ◌++◌, ◌==◌, ◌∙◌}
use Rattle.std.proofs.lemmas.List.Elements.{filter-append}
use Rattle.amqp_model.specs.Output.Arrangement.{FramesOn, placed}
use Rattle.amqp_model.proofs.Rows.{placed-arranges, placed-gains, placed-after-queue, gains-queued}
use Rattle.amqp_model.proofs.Departing.{placed-leaves}
use Rattle.amqp_model.proofs.LeavingLast.{on-above}
use Rattle.amqp_model.proofs.arrangement.put_keeps_arranged.Goals as goal

pub returns : goal.returns
returns c =
    record {
      arranged = placed-arranges;
      others = placed-gains;
      channels = λ last f row channel arranged h. on-above channel (placed last f row) h
          ∙ (gains-queued f row (placed last f row) (placed-gains last f row arranged) (FramesOn channel)
          ∙ (sym (on-above channel (row ++ f ∷ []) h)
          ∙ filter-append (λ g. g.channel == channel) row (f ∷ [])));
      leaving = placed-leaves;
      place = placed-after-queue;
      begun = λ f o. (refl, refl);
    }
