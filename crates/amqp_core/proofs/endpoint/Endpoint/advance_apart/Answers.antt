-- An end that is closed, or has failed, takes nothing. A piece that has octets loses one.
use Rattle.std.proofs.Common.{◌≢◌, ◌≤◌, length, refl, sym, ap, ◌∙◌}
use Rattle.std.proofs.lemmas.Bool.{false≢true, true≢false}
use Rattle.amqp_model.specs.End.Channels.{Failed}
use Rattle.amqp_model.specs.End.EndVerdict.{takes_octets}
use Rattle.amqp_core.specs.Connection.View.{connection_end}
use Rattle.amqp_core.specs.End.EndpointView.{endpoint_view, role_at}
use Rattle.amqp_core.specs.Config.Settings.{config_view}
use Rattle.amqp_core.proofs.HeardLemmas.{fault_heard, opening_heard}
use Rattle.amqp_core.proofs.BlameLemmas.{blames_nothing}
use Rattle.amqp_core.proofs.StreamLemmas.{closed_lent, failed_lent, lent_some, lent_within, step_count, step_some}
use Rattle.amqp_core.proofs.endpoint.Endpoint.advance_apart.Goals as goal

pub returns-then-is_closed-clause-lent : goal.returns-then-is_closed-clause-lent
returns-then-is_closed-clause-lent c =
    let old = c.args.self.now in
    closed_lent (role_at old) (config_view old.connection.settings) (endpoint_view old) c.args.piece.now
    (c.cut_changes_nothing.ensures.closed (role_at old) (config_view old.connection.settings) (endpoint_view old) c.args.piece.now (c.if-is_closed.ensures.closed refl))

pub returns-then-is_failed-clause-lent : goal.returns-then-is_failed-clause-lent
returns-then-is_failed-clause-lent c =
    let old = c.args.self.now in
    failed_lent (role_at old) (config_view old.connection.settings) (endpoint_view old) c.args.piece.now
    (c.cut_changes_nothing.ensures.failed (role_at old) (config_view old.connection.settings) (endpoint_view old) c.args.piece.now (c.if-is_failed.ensures.failed refl))

pub returns-then-awaits_header-clause-memory : goal.returns-then-awaits_header-clause-memory
returns-then-awaits_header-clause-memory c = λ ran. c.if-is_failed.ensures.takes refl (c.if-is_closed.ensures.not refl)

pub returns-clause-memory : goal.returns-clause-memory
returns-clause-memory c = λ ran. c.if-is_failed.ensures.takes refl (c.if-is_closed.ensures.not refl)

pub returns-then-awaits_header-clause-over : goal.returns-then-awaits_header-clause-over
returns-then-awaits_header-clause-over c = λ over. absurd (true≢false (sym (c.if-is_failed.ensures.takes refl (c.if-is_closed.ensures.not refl)) ∙ over))

pub returns-clause-over : goal.returns-clause-over
returns-clause-over c = λ over. absurd (true≢false (sym (c.if-is_failed.ensures.takes refl (c.if-is_closed.ensures.not refl)) ∙ over))

pub returns-then-awaits_header-clause-within : goal.returns-then-awaits_header-clause-within
returns-then-awaits_header-clause-within c =
    let old = c.args.self.now in
    step_count c.hear_lent.result c.hear_lent.new.self.splitter.given (λ n. n ≤ length c.args.piece.now)
    (lent_within (role_at old) (config_view old.connection.settings) _ (endpoint_view old) c.args.piece.now _ _ (λ n. n ≤ length c.args.piece.now) c.hear_lent.ensures.lent
    (c.cut_changes_nothing.ensures.within (role_at old) (config_view old.connection.settings) (endpoint_view old) c.args.piece.now))

pub returns-clause-within : goal.returns-clause-within
returns-clause-within c =
    let old = c.args.self.now in
    step_count c.read_any.result c.read_any.new.self.splitter.given (λ n. n ≤ length c.args.piece.now)
    (lent_within (role_at old) (config_view old.connection.settings) _ (endpoint_view old) c.args.piece.now _ _ (λ n. n ≤ length c.args.piece.now) c.read_any.ensures.lent
    (c.cut_changes_nothing.ensures.within (role_at old) (config_view old.connection.settings) (endpoint_view old) c.args.piece.now))

pub returns-then-awaits_header-clause-progress : goal.returns-then-awaits_header-clause-progress
returns-then-awaits_header-clause-progress c =
    let old = c.args.self.now in
    let running : (connection_end old.connection).phase ≢ Failed = λ failed. true≢false (sym (c.if-is_failed.ensures.takes refl (c.if-is_closed.ensures.not refl)) ∙ ap takes_octets failed) in
    step_some c.hear_lent.result c.hear_lent.new.self.splitter.given c.args.piece.now
    (lent_some (role_at old) (config_view old.connection.settings) _ (endpoint_view old) c.args.piece.now _ _ c.hear_lent.ensures.lent
    (c.cut_changes_nothing.ensures.progress (role_at old) (config_view old.connection.settings) (endpoint_view old) c.args.piece.now (c.if-is_closed.ensures.not refl) running))

pub returns-clause-progress : goal.returns-clause-progress
returns-clause-progress c =
    let old = c.args.self.now in
    let running : (connection_end old.connection).phase ≢ Failed = λ failed. true≢false (sym (c.if-is_failed.ensures.takes refl (c.if-is_closed.ensures.not refl)) ∙ ap takes_octets failed) in
    step_some c.read_any.result c.read_any.new.self.splitter.given c.args.piece.now
    (lent_some (role_at old) (config_view old.connection.settings) _ (endpoint_view old) c.args.piece.now _ _ c.read_any.ensures.lent
    (c.cut_changes_nothing.ensures.progress (role_at old) (config_view old.connection.settings) (endpoint_view old) c.args.piece.now (c.if-is_closed.ensures.not refl) running))

-- What is counted and blamed.

pub returns-then-is_closed-clause-tally : goal.returns-then-is_closed-clause-tally
returns-then-is_closed-clause-tally c =
    let old = c.args.self.now in
    blames_nothing (role_at old) _ (endpoint_view old) c.args.piece.now _ _ refl (λ takes ran. false≢true (sym (ap takes_octets (c.if-is_closed.ensures.closed refl)) ∙ takes))

pub returns-then-is_failed-clause-tally : goal.returns-then-is_failed-clause-tally
returns-then-is_failed-clause-tally c =
    let old = c.args.self.now in
    blames_nothing (role_at old) _ (endpoint_view old) c.args.piece.now _ _ refl (λ takes ran. false≢true (sym (ap takes_octets (c.if-is_failed.ensures.failed refl)) ∙ takes))

pub returns-then-is_closed-clause-heard : goal.returns-then-is_closed-clause-heard
returns-then-is_closed-clause-heard c =
    let old = c.args.self.now in
    fault_heard (role_at old) (config_view old.connection.settings) _ (endpoint_view old) c.args.piece.now _ _

pub returns-then-is_failed-clause-heard : goal.returns-then-is_failed-clause-heard
returns-then-is_failed-clause-heard c =
    let old = c.args.self.now in
    fault_heard (role_at old) (config_view old.connection.settings) _ (endpoint_view old) c.args.piece.now _ _

pub returns-then-awaits_header-clause-heard : goal.returns-then-awaits_header-clause-heard
returns-then-awaits_header-clause-heard c =
    let old = c.args.self.now in
    opening_heard (role_at old) (config_view old.connection.settings) _ (endpoint_view old) c.args.piece.now _ _ (sym c.awaits_header.ensures ∙ c.if-awaits_header.true)
