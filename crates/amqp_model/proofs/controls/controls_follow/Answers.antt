-- Each clause is a lemma on one end.
use Rattle.amqp_model.proofs.ControlLaws.{control-of-history, control-puts-one, control-follows, control-moves-phase}
use Rattle.amqp_model.proofs.ControlLaws.{control-leaves-rest, controls-act, control-says-nothing}
use Rattle.amqp_model.proofs.controls.controls_follow.Goals as goal

pub returns : goal.returns
returns c =
    record {
      history = control-of-history;
      one = control-puts-one;
      follows = control-follows;
      phase = control-moves-phase;
      rest = control-leaves-rest;
      acts = controls-act;
      says = control-says-nothing;
    }
