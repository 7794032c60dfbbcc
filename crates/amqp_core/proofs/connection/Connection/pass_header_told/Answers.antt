use Rattle.amqp_core.proofs.connection.Connection.pass_header_told.Goals as goal

pub returns-clause-left : goal.returns-clause-left
returns-clause-left c = c.in_ok-header.ensures.left

pub returns-clause-heard : goal.returns-clause-heard
returns-clause-heard c = c.keep_cause.ensures c.args.number
