use Rattle.std.proofs.lemmas.Result.{err_from_is_err_and}
use Rattle.amqp_core.proofs.connection.Connection.ask.Goals as goal

pub returns-in_err-number-in-Open-clause-refused : goal.returns-in_err-number-in-Open-clause-refused
returns-in_err-number-in-Open-clause-refused c =
    let p = err_from_is_err_and c.from_residual.result c.from_residual.ensures.1 in
    rw (p.1, p.2, c.in-Open.is) c.in_err-number-in-Open.ensures.refused

pub returns-in_err-send-in-Send-clause-refused : goal.returns-in_err-send-in-Send-clause-refused
returns-in_err-send-in-Send-clause-refused c =
    let p = err_from_is_err_and c.from_residual-in_err-send-in-Send.result c.from_residual-in_err-send-in-Send.ensures.1 in
    rw (p.1, p.2, c.in-Send.is) c.in_err-send-in-Send.ensures.refused

pub returns-in_err-flow-in-Flow-clause-refused : goal.returns-in_err-flow-in-Flow-clause-refused
returns-in_err-flow-in-Flow-clause-refused c =
    let p = err_from_is_err_and c.from_residual-in_err-flow-in-Flow.result c.from_residual-in_err-flow-in-Flow.ensures.1 in
    rw (p.1, p.2, c.in-Flow.is) c.in_err-flow-in-Flow.ensures.refused

pub returns-in_err-close_channel-in-CloseChannel-clause-refused : goal.returns-in_err-close_channel-in-CloseChannel-clause-refused
returns-in_err-close_channel-in-CloseChannel-clause-refused c =
    let p = err_from_is_err_and c.from_residual-in_err-close_channel-in-CloseChannel.result c.from_residual-in_err-close_channel-in-CloseChannel.ensures.1
    in
    rw (p.1, p.2, c.in-CloseChannel.is) c.in_err-close_channel-in-CloseChannel.ensures.refused

pub returns-in_err-close-in-Close-clause-refused : goal.returns-in_err-close-in-Close-clause-refused
returns-in_err-close-in-Close-clause-refused c =
    let p = err_from_is_err_and c.from_residual-in_err-close-in-Close.result c.from_residual-in_err-close-in-Close.ensures.1 in
    rw (p.1, p.2, c.in-Close.is) c.in_err-close-in-Close.ensures.refused

pub returns-in_err-blocked-in-Blocked-clause-refused : goal.returns-in_err-blocked-in-Blocked-clause-refused
returns-in_err-blocked-in-Blocked-clause-refused c =
    let p = err_from_is_err_and c.from_residual-in_err-blocked-in-Blocked.result c.from_residual-in_err-blocked-in-Blocked.ensures.1 in
    rw (p.1, p.2, c.in-Blocked.is) c.in_err-blocked-in-Blocked.ensures.refused

pub returns-in_err-unblocked-in-Unblocked-clause-refused : goal.returns-in_err-unblocked-in-Unblocked-clause-refused
returns-in_err-unblocked-in-Unblocked-clause-refused c =
    let p = err_from_is_err_and c.from_residual-in_err-unblocked-in-Unblocked.result c.from_residual-in_err-unblocked-in-Unblocked.ensures.1 in
    rw (p.1, p.2, c.in-Unblocked.is) c.in_err-unblocked-in-Unblocked.ensures.refused

pub returns-in_ok-send-in-Send-clause-accepted : goal.returns-in_ok-send-in-Send-clause-accepted
returns-in_ok-send-in-Send-clause-accepted c = rw c.in-Send.is c.in_ok-send-in-Send.ensures.accepted

pub returns-in_ok-flow-in-Flow-clause-accepted : goal.returns-in_ok-flow-in-Flow-clause-accepted
returns-in_ok-flow-in-Flow-clause-accepted c = rw c.in-Flow.is c.in_ok-flow-in-Flow.ensures.accepted

pub returns-in_ok-close_channel-in-CloseChannel-clause-accepted : goal.returns-in_ok-close_channel-in-CloseChannel-clause-accepted
returns-in_ok-close_channel-in-CloseChannel-clause-accepted c = rw c.in-CloseChannel.is c.in_ok-close_channel-in-CloseChannel.ensures.accepted

pub returns-in_ok-close-in-Close-clause-accepted : goal.returns-in_ok-close-in-Close-clause-accepted
returns-in_ok-close-in-Close-clause-accepted c = rw c.in-Close.is c.in_ok-close-in-Close.ensures.accepted

pub returns-in_ok-blocked-in-Blocked-clause-accepted : goal.returns-in_ok-blocked-in-Blocked-clause-accepted
returns-in_ok-blocked-in-Blocked-clause-accepted c = rw c.in-Blocked.is c.in_ok-blocked-in-Blocked.ensures.accepted

pub returns-in_ok-unblocked-in-Unblocked-clause-accepted : goal.returns-in_ok-unblocked-in-Unblocked-clause-accepted
returns-in_ok-unblocked-in-Unblocked-clause-accepted c = rw c.in-Unblocked.is c.in_ok-unblocked-in-Unblocked.ensures.accepted
