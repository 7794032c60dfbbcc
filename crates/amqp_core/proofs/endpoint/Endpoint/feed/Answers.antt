-- A piece that has octets loses one.
use Rattle.std.proofs.Common.{◌≢◌, refl, sym, ap, ◌∙◌}
use Rattle.std.proofs.lemmas.Bool.{false≢true, true≢false}
use Rattle.amqp_model.specs.End.Channels.{Failed}
use Rattle.amqp_model.specs.End.EndVerdict.{takes_octets}
use Rattle.amqp_model.specs.Stream.Endpoint.{after_feed}
use Rattle.amqp_core.specs.Traced.AccountView.{taken_by}
use Rattle.amqp_core.specs.Connection.View.{connection_end}
use Rattle.amqp_core.specs.End.EndpointView.{endpoint_view, role_at}
use Rattle.amqp_core.specs.Config.Settings.{config_view}
use Rattle.amqp_core.proofs.BlameLemmas.{blames_nothing}
use Rattle.amqp_core.proofs.HeardLemmas.{fault_heard, opening_heard}
use Rattle.amqp_core.proofs.DropLemmas.{takes_some}
use Rattle.amqp_core.proofs.WholeLemmas.{running_is}
use Rattle.amqp_core.proofs.endpoint.Endpoint.feed.Goals as goal

pub returns-clause-progress : goal.returns-clause-progress
returns-clause-progress c =
    let old = c.args.self.now in
    let running : (connection_end old.connection).phase ≢ Failed = λ failed. true≢false (sym (c.if-is_failed.ensures.takes refl (c.if-is_closed.ensures.not refl)) ∙ ap takes_octets failed) in
    takes_some (taken_by c.read-answer.result c.read-answer.new.account) (endpoint_view old) (after_feed (role_at old) (config_view old.connection.settings) (endpoint_view old) c.args.piece.now) _ c.args.piece.now c.read-answer.ensures.fed
    (c.cut_changes_nothing.ensures.progress (role_at old) (config_view old.connection.settings) (endpoint_view old) c.args.piece.now (c.if-is_closed.ensures.not refl) running)

pub returns-in-Some-clause-progress : goal.returns-in-Some-clause-progress
returns-in-Some-clause-progress c =
    let old = c.args.self.now in
    let is = running_is old.connection.stage c.in-Some.agreed c.in-Some.ensures.running in
    takes_some (taken_by c.read_running.result c.read_running.new.account) (endpoint_view old) (after_feed (role_at old) (config_view old.connection.settings) (endpoint_view old) c.args.piece.now) _ c.args.piece.now c.read_running.ensures.fed
    (c.cut_changes_nothing.ensures.progress (role_at old) (config_view old.connection.settings) (endpoint_view old) c.args.piece.now is.0 is.1)

pub returns-then-awaits_header-clause-progress : goal.returns-then-awaits_header-clause-progress
returns-then-awaits_header-clause-progress c =
    let old = c.args.self.now in
    let running : (connection_end old.connection).phase ≢ Failed = λ failed. true≢false (sym (c.if-is_failed.ensures.takes refl (c.if-is_closed.ensures.not refl)) ∙ ap takes_octets failed) in
    takes_some (taken_by c.hear.result c.hear.new.account) (endpoint_view old) (after_feed (role_at old) (config_view old.connection.settings) (endpoint_view old) c.args.piece.now) _ c.args.piece.now c.hear.ensures.fed
    (c.cut_changes_nothing.ensures.progress (role_at old) (config_view old.connection.settings) (endpoint_view old) c.args.piece.now (c.if-is_closed.ensures.not refl) running)

-- What is counted and blamed.

pub returns-then-is_closed-clause-tally : goal.returns-then-is_closed-clause-tally
returns-then-is_closed-clause-tally c =
    let old = c.args.self.now in
    blames_nothing (role_at old) _ (endpoint_view old) c.args.piece.now _ _ refl (λ takes ran. false≢true (sym (ap takes_octets (c.if-is_closed.ensures.closed refl)) ∙ takes))

pub returns-then-is_failed-clause-tally : goal.returns-then-is_failed-clause-tally
returns-then-is_failed-clause-tally c =
    let old = c.args.self.now in
    blames_nothing (role_at old) _ (endpoint_view old) c.args.piece.now _ _ refl (λ takes ran. false≢true (sym (ap takes_octets (c.if-is_failed.ensures.failed refl)) ∙ takes))

pub returns-then-is_closed-clause-heard : goal.returns-then-is_closed-clause-heard
returns-then-is_closed-clause-heard c =
    let old = c.args.self.now in
    fault_heard (role_at old) (config_view old.connection.settings) _ (endpoint_view old) c.args.piece.now _ _

pub returns-then-is_failed-clause-heard : goal.returns-then-is_failed-clause-heard
returns-then-is_failed-clause-heard c =
    let old = c.args.self.now in
    fault_heard (role_at old) (config_view old.connection.settings) _ (endpoint_view old) c.args.piece.now _ _

pub returns-then-awaits_header-clause-heard : goal.returns-then-awaits_header-clause-heard
returns-then-awaits_header-clause-heard c =
    let old = c.args.self.now in
    opening_heard (role_at old) (config_view old.connection.settings) _ (endpoint_view old) c.args.piece.now _ _ (sym c.awaits_header.ensures ∙ c.if-awaits_header.true)
