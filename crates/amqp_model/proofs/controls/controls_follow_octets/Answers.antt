-- Each clause is a lemma on one endpoint.
use Rattle.amqp_model.proofs.ControlLaws.{control-accepted-follows, control-refused-stays, control-holds}
use Rattle.amqp_model.proofs.ControlLaws.{controls-alike, controlling-leaves-alike}
use Rattle.amqp_model.proofs.controls.controls_follow_octets.Goals as goal

pub returns : goal.returns
returns c =
    record {
      accepted = control-accepted-follows;
      refused = control-refused-stays;
      held = control-holds;
      answer = controls-alike;
      alike = controlling-leaves-alike;
    }
