-- A frame that lies whole in the piece of an end that is Running: some octets are taken, and none past the piece. Without
-- one the end is as it was, and takes the octets otherwise.
use Rattle.std.proofs.Common.{◌≡◌, ◌≤◌, false, length, refl, subst, sym, ap, ◌∙◌}
use Rattle.std.proofs.lemmas.Bool.{true≢false}
use Rattle.amqp_model.specs.End.EndVerdict.{takes_octets}
use Rattle.amqp_model.specs.Stream.Endpoint.{after_feed}
use Rattle.amqp_core.specs.Config.Settings.{config_view}
use Rattle.amqp_core.specs.Connection.Stages.{phase_at}
use Rattle.amqp_core.specs.End.EndpointView.{endpoint_view, role_at}
use Rattle.amqp_core.specs.Faults.Blamed.{tally_view, Blames}
use Rattle.amqp_core.specs.Stream.Lending.{IsLent}
use Rattle.amqp_core.specs.Stream.StepView.{step_seen}
use Rattle.amqp_core.specs.declared.endpoint.Endpoint.{Endpoint}
use Rattle.amqp_core.proofs.StreamLemmas.{lent_some, lent_within, step_count, step_some}
use Rattle.amqp_core.proofs.WholeLemmas.{phase_is}
use Rattle.amqp_core.proofs.endpoint.Endpoint.advance.Goals as goal

pub returns-in-Some-clause-memory : goal.returns-in-Some-clause-memory
returns-in-Some-clause-memory c = λ ran. ap takes_octets c.in-Some.ensures.running

pub returns-in-Some-clause-over : goal.returns-in-Some-clause-over
returns-in-Some-clause-over c = λ over. absurd (true≢false (sym (ap takes_octets c.in-Some.ensures.running) ∙ over))

pub returns-in-Some-clause-within : goal.returns-in-Some-clause-within
returns-in-Some-clause-within c =
    let old = c.args.self.now in
    step_count c.in-Some.answer c.read_lent.new.self.splitter.given (λ n. n ≤ length c.args.piece.now)
    (lent_within (role_at old) (config_view old.connection.settings) _ (endpoint_view old) c.args.piece.now _ _ (λ n. n ≤ length c.args.piece.now) c.in-Some.ensures.lent
    (c.cut_changes_nothing.ensures.within (role_at old) (config_view old.connection.settings) (endpoint_view old) c.args.piece.now))

pub returns-in-Some-clause-progress : goal.returns-in-Some-clause-progress
returns-in-Some-clause-progress c =
    let old = c.args.self.now in
    let stands = phase_is (phase_at old.connection.stage) c.in-Some.ensures.running in
    step_some c.in-Some.answer c.read_lent.new.self.splitter.given c.args.piece.now
    (lent_some (role_at old) (config_view old.connection.settings) _ (endpoint_view old) c.args.piece.now _ _ c.in-Some.ensures.lent
    (c.cut_changes_nothing.ensures.progress (role_at old) (config_view old.connection.settings) (endpoint_view old) c.args.piece.now stands.0 stands.1))

-- Where no frame lies so.

pub returns-clause-lent : goal.returns-clause-lent
returns-clause-lent c =
    let piece = c.args.piece.now in
    let after = c.advance_apart-answer in
    subst (λ (s : Endpoint). IsLent (role_at s) (config_view s.connection.settings) (step_seen after.result after.new.self.splitter.given) (endpoint_view s) piece
    (after_feed (role_at s) (config_view s.connection.settings) (endpoint_view s) piece) (endpoint_view after.new.self))
    (c.in_default.ensures.none refl) after.ensures.lent

pub returns-clause-over : goal.returns-clause-over
returns-clause-over c =
    let after = c.advance_apart-answer in
    subst (λ (s : Endpoint). takes_octets (phase_at s.connection.stage) ≡ false → endpoint_view after.new.self ≡ endpoint_view s)
    (c.in_default.ensures.none refl) after.ensures.over

pub returns-clause-tally : goal.returns-clause-tally
returns-clause-tally c =
    let piece = c.args.piece.now in
    let after = c.advance_apart-answer in
    subst (λ (s : Endpoint). Blames (role_at s) after.result (endpoint_view s) piece
    (after_feed (role_at s) (config_view s.connection.settings) (endpoint_view s) piece) (tally_view s.tally) (tally_view after.new.self.tally))
    (c.in_default.ensures.none refl) after.ensures.tally
