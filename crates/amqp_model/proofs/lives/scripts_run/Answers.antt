-- The scripts compute.
use Rattle.amqp_model.specs.Laws.Scripts.{crossing_steps}
use Rattle.amqp_model.proofs.Scripts.{replay_runs, crossing, reopened, closed_early, discarded, paused, restarted}
use Rattle.amqp_model.proofs.Scripts.{closed_after_message, dropped, server_left}
use Rattle.amqp_model.proofs.lives.scripts_run.Goals as goal

pub returns : goal.returns
returns c =
    record {
      runs = replay_runs;
      crossing_run = λ f. replay_runs (crossing_steps f);
      crossing_closes = crossing;
      closed_and_reopened = reopened;
      closed_at_once = closed_early;
      discarded_contents = discarded;
      paused_server = paused;
      restarted_server = restarted;
      message_then_close = closed_after_message;
      dropped_client = dropped;
      server_leaves = server_left;
    }
