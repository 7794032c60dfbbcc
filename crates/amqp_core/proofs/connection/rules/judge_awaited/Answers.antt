use Rattle.amqp_core.proofs.connection.rules.judge_awaited.Goals as goal

pub returns-in-AwaitsStart : goal.returns-in-AwaitsStart
returns-in-AwaitsStart c = rw c.in-AwaitsStart.is c.judge_start.ensures

pub returns-in-AwaitsStartOk : goal.returns-in-AwaitsStartOk
returns-in-AwaitsStartOk c = rw c.in-AwaitsStartOk.is c.judge_start_ok.ensures

pub returns-in-AwaitsTune : goal.returns-in-AwaitsTune
returns-in-AwaitsTune c = rw c.in-AwaitsTune.is c.judge_tune.ensures

pub returns-in-AwaitsTuneOk : goal.returns-in-AwaitsTuneOk
returns-in-AwaitsTuneOk c = rw c.in-AwaitsTuneOk.is c.judge_tune_ok.ensures

pub returns-in-AwaitsOpen : goal.returns-in-AwaitsOpen
returns-in-AwaitsOpen c = rw c.in-AwaitsOpen.is c.judge_open.ensures

pub returns-in-AwaitsOpenOk : goal.returns-in-AwaitsOpenOk
returns-in-AwaitsOpenOk c = rw c.in-AwaitsOpenOk.is c.judge_open_ok.ensures
