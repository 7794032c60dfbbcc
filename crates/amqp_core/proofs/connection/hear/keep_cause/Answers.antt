-- On a connection that is Running only what a close is about is kept.
use Rattle.std.proofs.Common.{sym, ap}
use Rattle.amqp_channel.specs.ReadingView.{reading_view}
use Rattle.amqp_core.specs.Heard.Causes.{or_before}
use Rattle.amqp_core.specs.Heard.View.{cause_there, heard_view, Said}
use Rattle.amqp_core.specs.Connection.Rulings.{OnChannel}
use Rattle.amqp_core.proofs.HeardLemmas.{said_on}
use Rattle.amqp_core.proofs.connection.hear.keep_cause.Goals as goal

pub returns-in-Some : goal.returns-in-Some
returns-in-Some c = λ number.
    let before : Said = heard_view c.args.heard.now in
    said_on number (reading_view c.args.reading) (OnChannel c.args.verdict) (cause_there c.cause_on.result) before _ c.cause_on.ensures
    (ap (λ r. record { methods = before.methods; cause = or_before (cause_there r) before.cause }) (sym c.in-Some.is))

pub returns-in_default : goal.returns-in_default
returns-in_default c = λ number.
    let before : Said = heard_view c.args.heard.now in
    said_on number (reading_view c.args.reading) (OnChannel c.args.verdict) (cause_there c.cause_on.result) before before c.cause_on.ensures
    (ap (λ r. record { methods = before.methods; cause = or_before (cause_there r) before.cause }) (sym c.in_default.is))
