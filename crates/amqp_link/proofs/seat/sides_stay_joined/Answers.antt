-- Each of these laws is one of the definitions.
use Rattle.amqp_model.specs.Wire.Notes.{other_end}
use Rattle.amqp_model.specs.Pair.Pairs.{config_of}
use Rattle.amqp_link.proofs.seat.sides_stay_joined.Goals as goal

pub returns : goal.returns
returns c = λ role client_config server_config. record {
  none = c.no_fault_over_octets.ensures.none role client_config server_config;
  feeds = c.no_fault_over_octets.ensures.pair role client_config server_config;
  grown = c.no_fault_over_octets.ensures.grown role client_config server_config;
  put_as = λ history opening written output. c.closes_are_put_last.ensures.octets (other_end role) (config_of (other_end role) client_config server_config) _ history opening written output;
  reads_back = c.owed_read_back.ensures.all (other_end role) (config_of (other_end role) client_config server_config);
  openings = c.octets_carry_channels.ensures.opening role;
  stand = λ kept history. c.unfailed_traces_stand.ensures role (config_of role client_config server_config) kept history;
  not_yet = λ end history. c.failed_follows.ensures.not_yet role (config_of role client_config server_config) end history;
  wrote = λ endpoint history fed written n. c.octets_follow.ensures.wrote (other_end role) (config_of (other_end role) client_config server_config) endpoint history fed written n;
  output = c.output_follows.ensures.write;
  leaves = c.write_keeps_arranged.ensures.leaves;
  within = λ endpoint piece. c.cut_changes_nothing.ensures.within role (config_of role client_config server_config) endpoint piece;
}
