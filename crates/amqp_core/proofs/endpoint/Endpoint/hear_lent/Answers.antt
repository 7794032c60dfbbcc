-- Of the protocol header an end tells that it came, and nothing else.
use Rattle.std.proofs.Common.{Result, sym, subst}
use Rattle.amqp_model.specs.Stream.Endpoint.{after_feed}
use Rattle.amqp_channel.specs.Events.PartsView.{parts_there}
use Rattle.amqp_core.specs.End.EndpointView.{endpoint_view, role_at}
use Rattle.amqp_core.specs.Stream.Lending.{IsLent, LentSeen}
use Rattle.amqp_core.specs.Config.Settings.{config_view}
use Rattle.amqp_core.specs.declared.faults.CoreFault.{CoreFault}
use Rattle.amqp_core.proofs.BlameLemmas.{blames_as}
use Rattle.amqp_core.proofs.StreamLemmas.{heard_lent}
use Rattle.amqp_core.proofs.endpoint.Endpoint.hear_lent.Goals as goal

pub returns-clause-lent : goal.returns-clause-lent
returns-clause-lent c =
    let old = c.args.self.now in
    let role = role_at old in
    let config = config_view old.connection.settings in
    let piece = c.args.piece.now in
    let fed = after_feed role config (endpoint_view old) piece in
    let account = c.hear-answer.new.account in
    let new = endpoint_view c.hear-answer.new.self in
    subst (λ (r : Result LentSeen CoreFault). IsLent role config r (endpoint_view old) piece fed new) (sym (c.step_heard.ensures.seen c.hear-answer.new.self.splitter.given))
    (heard_lent role config c.hear-answer.result account.octets (parts_there account.parts) (endpoint_view old) piece fed new c.requires.awaits c.hear-answer.ensures.fed)

pub returns-clause-tally : goal.returns-clause-tally
returns-clause-tally c =
    let old = c.args.self.now in
    blames_as (role_at old) c.hear-answer.result c.step_heard.result (endpoint_view old) c.args.piece.now _ _ _ c.step_heard.ensures.code c.step_heard.ensures.memory c.hear-answer.ensures.tally
