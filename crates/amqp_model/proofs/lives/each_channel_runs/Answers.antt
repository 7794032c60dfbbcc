-- The clauses are a lemma on connections, and a connection.
use Rattle.amqp_model.proofs.Channels.{channel_runs, overtaking}
use Rattle.amqp_model.proofs.lives.each_channel_runs.Goals as goal

pub returns-clause-each : goal.returns-clause-each
returns-clause-each c = λ client server run channel. channel_runs run channel

pub returns-clause-overtaking : goal.returns-clause-overtaking
returns-clause-overtaking c = overtaking
