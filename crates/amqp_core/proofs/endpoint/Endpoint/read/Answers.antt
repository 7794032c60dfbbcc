-- Each answer of the splitter is a law on pieces.
use Rattle.std.proofs.Common.{ℕ, List, length, ◌≡◌, ◌<◌, ◌^◌, Option, None, [], ◌++◌, refl, take, IfSome, IfNone, IsOk, sym, ap, ◌∙◌, subst, arith}
use Rattle.std.proofs.lemmas.Bool.{false≢true}
use Rattle.std.proofs.Math.Seq.{take-length}
use Rattle.amqp_frame.specs.Frame.{lent}
use Rattle.amqp_frame.specs.Splitter.{Completes, Waits, after_feed_ref, place_after}
use Rattle.amqp_frame.specs.Stream.{Stream}
use Rattle.amqp_model.specs.End.EndVerdict.{end_verdict, facts_at}
use Rattle.amqp_model.specs.Stream.Endpoint.{outcome_of}
use Rattle.amqp_model.specs.Wire.Readings.{reading}
use Rattle.amqp_outbox.specs.OutboxView.{Outgoing}
use Rattle.amqp_channel.specs.Events.PartsView.{parts_there}
use Rattle.amqp_channel.specs.declared.parts.EventParts.{EventParts}
use Rattle.amqp_core.specs.Traced.AccountView.{note_there}
use Rattle.amqp_core.specs.Faults.Answering.{is_out_of_memory, ran_out}
use Rattle.amqp_core.specs.Faults.Blamed.{blames_octets, code_told, tally_view}
use Rattle.amqp_core.specs.Connection.View.{connection_end}
use Rattle.amqp_core.specs.End.EndpointView.{endpoint_view, role_at, unfinished_of}
use Rattle.amqp_core.specs.End.Feeding.{IsMessage}
use Rattle.amqp_core.specs.Config.Settings.{config_view}
use Rattle.amqp_core.proofs.AccountLemmas.{account_of_frame, account_of_rest, account_of_stop, came_fresh, item_is, rest_of, whole_of}
use Rattle.amqp_core.proofs.GrowthLemmas.{frame_grows, stop_grows}
use Rattle.amqp_core.proofs.BlameLemmas.{blames_of_fault, blames_of_frame, blames_of_rest, framing_broken}
use Rattle.amqp_core.proofs.HeardLemmas.{fault_heard, frame_heard, rest_heard}
use Rattle.amqp_core.proofs.BoundLemmas.{bounded_failed, bounded_frame}
use Rattle.amqp_core.proofs.DropLemmas.{none_pending, frame_there, given_dropped}
use Rattle.amqp_core.proofs.FeedLemmas.{sound_with, reads, takes, fed_by, frame_fed, rest_fed, fault_fed, first_fault, alone_in, stop_leaves, fed_holds, after_rest, after_frame, after_stop, fields_rest, fields_frame, fields_failed, frame_leaves, rest_unfinished, none_unfinished, unfinished_is}
use Rattle.amqp_core.proofs.endpoint.Endpoint.read.Goals as goal

pub receive_by_rules-answer-requires-clause-taking : goal.receive_by_rules-answer-requires-clause-taking
receive_by_rules-answer-requires-clause-taking c = takes (role_at c.args.self.now) (connection_end c.args.self.now.connection) c.args.self.now.heard c.args.self.now.splitter c.requires.sound.fields c.requires.reads

pub tune-requires-clause-fits : goal.tune-requires-clause-fits
tune-requires-clause-fits c =
    let old = c.args.self.now in
    let r = reads (role_at old) (connection_end old.connection).phase c.requires.reads in
    let left = frame_leaves (role_at old) (config_view old.connection.settings) (connection_end old.connection) (connection_end c.receive_by_rules-answer.new.self) (lent c.in-Some.frame) (ran_out c.receive_by_rules-answer.result) c.requires.sound.writes (c.agreed_is_within.ensures.frame (role_at old) (config_view old.connection.settings) (connection_end old.connection) (lent c.in-Some.frame)) (c.requires.sound.fields.awaited r.opened) c.requires.sound.fields.agreed c.receive_by_rules-answer.ensures.receives.end in
    left.0

pub returns-in_default-clause-fed : goal.returns-in_default-clause-fed
returns-in_default-clause-fed c =
    let old = c.args.self.now in
    let none : old.heard ≡ 0 = c.requires.sound.fields.opened (reads (role_at old) (connection_end old.connection).phase c.requires.reads).opened in
    let by = fed_by (role_at old) (connection_end old.connection) old.heard old.splitter old.outbox.output c.args.piece.now c.requires.reads c.requires.sound.fields c.requires.sound.holds (λ i. omega (arith, c.type_inv.piece i)) in
    let after = after_rest old.splitter c.args.piece.now c.feed_ref.result c.in-Ok.fed c.feed_ref.follows.lender-at-none c.feed_ref.follows.holds-at-none c.in-Ok.is c.in_default.is in
    let waits : Waits old.splitter c.args.piece.now c.in-Ok.fed.taken = subst (λ o. IfNone o (Waits old.splitter c.args.piece.now c.in-Ok.fed.taken)) c.in_default.is c.in-Ok.ensures.feeds.rest in
    rest_fed (role_at old) (config_view old.connection.settings) (endpoint_view old) old.splitter c.args.piece.now c.in-Ok.fed.taken (parts_there c.args.account.now.parts) (unfinished_of old.heard c.feed_ref.follows.lender-at-none.pending) (c.pieces_are_split.ensures.rest (role_at old) (config_view old.connection.settings) (endpoint_view old) old.splitter c.args.piece.now c.in-Ok.fed.taken) by waits
    (rest_unfinished old.heard (place_after old.splitter.taken c.in-Ok.fed.taken) old.splitter c.feed_ref.follows.lender-at-none c.args.piece.now none after) (ap parts_there c.requires.fresh.parts)

pub returns-in_default-clause-sound : goal.returns-in_default-clause-sound
returns-in_default-clause-sound c =
    let old = c.args.self.now in
    let by = fed_by (role_at old) (connection_end old.connection) old.heard old.splitter old.outbox.output c.args.piece.now c.requires.reads c.requires.sound.fields c.requires.sound.holds (λ i. omega (arith, c.type_inv.piece i)) in
    let after = after_rest old.splitter c.args.piece.now c.feed_ref.result c.in-Ok.fed c.feed_ref.follows.lender-at-none c.feed_ref.follows.holds-at-none c.in-Ok.is c.in_default.is in
    record {
      writes = c.requires.sound.writes;
      staged = c.requires.sound.staged;
      fields = fields_rest (role_at old) (connection_end old.connection) old.heard (place_after old.splitter.taken c.in-Ok.fed.taken) (old.splitter.pending ++ c.args.piece.now) old.splitter c.feed_ref.follows.lender-at-none c.requires.reads c.requires.sound.fields after;
      holds = fed_holds (role_at old) (config_view old.connection.settings) (endpoint_view old) _ old.splitter c.args.piece.now _ (c.unfinished_is_held.ensures.feed (role_at old) (config_view old.connection.settings) (endpoint_view old) c.args.piece.now) by (returns-in_default-clause-fed c);
      bounded = c.requires.sound.bounded;
    }

pub returns-clause-fed : goal.returns-clause-fed
returns-clause-fed c =
    let old = c.args.self.now in
    let none : old.heard ≡ 0 = c.requires.sound.fields.opened (reads (role_at old) (connection_end old.connection).phase c.requires.reads).opened in
    let by = fed_by (role_at old) (connection_end old.connection) old.heard old.splitter old.outbox.output c.args.piece.now c.requires.reads c.requires.sound.fields c.requires.sound.holds (λ i. omega (arith, c.type_inv.piece i)) in
    let after = after_frame old.splitter c.args.piece.now c.feed_ref.result c.in-Ok.fed c.in-Some.frame c.feed_ref.follows.lender-at-none c.feed_ref.follows.holds-at-none c.in-Ok.is c.in-Some.is in
    let completes : Completes old.splitter (take c.in-Ok.fed.taken c.args.piece.now) (lent c.in-Some.frame) = subst (λ o. IfSome o (λ f. Completes old.splitter (take c.in-Ok.fed.taken c.args.piece.now) (lent f))) c.in-Some.is c.in-Ok.ensures.feeds.frame in
    let pending : c.tune.new.splitter.pending ≡ [] = ap (λ (s : Stream). s.pending) c.tune.ensures ∙ ap (λ (s : Stream). s.pending) after in
    frame_fed (role_at old) (config_view old.connection.settings) (endpoint_view old) old.splitter c.args.piece.now c.in-Ok.fed.taken c.receive_by_rules-answer.new.account.octets (lent c.in-Some.frame) c.receive_by_rules-answer.result (parts_there c.receive_by_rules-answer.new.account.parts) (connection_end c.receive_by_rules-answer.new.self) (unfinished_of old.heard c.tune.new.splitter.pending) c.receive_by_rules-answer.new.outbox
    (c.pieces_are_split.ensures.frame (role_at old) (config_view old.connection.settings) (endpoint_view old) old.splitter c.args.piece.now c.in-Ok.fed.taken (lent c.in-Some.frame)) by c.in-Ok.ensures.feeds.within completes c.receive_by_rules-answer.ensures.receives.octets c.receive_by_rules-answer.ensures.receives.said c.receive_by_rules-answer.ensures.receives.end (none_unfinished old.heard c.tune.new.splitter.pending none pending) c.receive_by_rules-answer.ensures.receives.output

pub returns-clause-sound : goal.returns-clause-sound
returns-clause-sound c =
    let old = c.args.self.now in
    let r = reads (role_at old) (connection_end old.connection).phase c.requires.reads in
    let by = fed_by (role_at old) (connection_end old.connection) old.heard old.splitter old.outbox.output c.args.piece.now c.requires.reads c.requires.sound.fields c.requires.sound.holds (λ i. omega (arith, c.type_inv.piece i)) in
    let after = after_frame old.splitter c.args.piece.now c.feed_ref.result c.in-Ok.fed c.in-Some.frame c.feed_ref.follows.lender-at-none c.feed_ref.follows.holds-at-none c.in-Ok.is c.in-Some.is in
    let left = frame_leaves (role_at old) (config_view old.connection.settings) (connection_end old.connection) (connection_end c.receive_by_rules-answer.new.self) (lent c.in-Some.frame) (ran_out c.receive_by_rules-answer.result) c.requires.sound.writes (c.agreed_is_within.ensures.frame (role_at old) (config_view old.connection.settings) (connection_end old.connection) (lent c.in-Some.frame)) (c.requires.sound.fields.awaited r.opened) c.requires.sound.fields.agreed c.receive_by_rules-answer.ensures.receives.end in
    sound_with old.connection.settings (record { connection = c.receive_by_rules-answer.new.self; splitter = c.tune.new.splitter; heard = old.heard; outbox = c.receive_by_rules-answer.new.outbox; tally = c.receive_by_rules-answer.new.tally }) c.receive_by_rules-answer.ensures.receives.settings c.requires.sound.writes (ap (λ (o : Outgoing). o.staged) c.receive_by_rules-answer.ensures.receives.output)
    (fields_frame (role_at old) (connection_end old.connection) (connection_end c.receive_by_rules-answer.new.self) old.heard old.splitter c.feed_ref.follows.lender-at-none c.tune.new.splitter (place_after old.splitter.taken c.in-Ok.fed.taken) c.requires.reads c.requires.sound.fields after c.tune.ensures left.0 left.1)
    (fed_holds (role_at old) (config_view old.connection.settings) (endpoint_view old) _ old.splitter c.args.piece.now _ (c.unfinished_is_held.ensures.feed (role_at old) (config_view old.connection.settings) (endpoint_view old) c.args.piece.now) by (returns-clause-fed c))
    (bounded_frame (role_at old) (config_view old.connection.settings) (connection_end old.connection) (connection_end c.receive_by_rules-answer.new.self) (lent c.in-Some.frame) (ran_out c.receive_by_rules-answer.result) (c.ends_are_bounded.ensures.frame (role_at old) (config_view old.connection.settings) (connection_end old.connection) (lent c.in-Some.frame)) r.octets c.requires.sound.bounded c.receive_by_rules-answer.ensures.receives.end)

pub returns-in-Err-clause-fed : goal.returns-in-Err-clause-fed
returns-in-Err-clause-fed c =
    let old = c.args.self.now in
    let r = reads (role_at old) (connection_end old.connection).phase c.requires.reads in
    let none : old.heard ≡ 0 = c.requires.sound.fields.opened r.opened in
    let by = fed_by (role_at old) (connection_end old.connection) old.heard old.splitter old.outbox.output c.args.piece.now c.requires.reads c.requires.sound.fields c.requires.sound.holds (λ i. omega (arith, c.type_inv.piece i)) in
    let pending = after_stop old.splitter c.args.piece.now c.feed_ref.result c.in-Err.fault c.feed_ref.follows.lender-at-none c.feed_ref.follows.holds-at-none c.in-Err.is in
    fault_fed (role_at old) (config_view old.connection.settings) (endpoint_view old) old.splitter c.args.piece.now c.in-Err.fault.kind c.in-Err.fault.at c.stop-answer.result (connection_end c.stop-answer.new.self) (unfinished_of old.heard c.feed_ref.follows.lender-at-none.pending) c.stop-answer.new.outbox
    (c.pieces_are_split.ensures.fault (role_at old) (config_view old.connection.settings) (endpoint_view old) old.splitter c.args.piece.now c.in-Err.fault.kind c.in-Err.fault.at) by
    (first_fault old.splitter c.args.piece.now c.in-Err.fault (c.requires.sound.fields.ready r.octets).running c.in-Err.ensures.feeds.fault) c.stop-answer.ensures.memory c.stop-answer.ensures.said c.stop-answer.ensures.end (none_unfinished old.heard c.feed_ref.follows.lender-at-none.pending none pending) c.stop-answer.ensures.output

pub returns-in-Err-clause-sound : goal.returns-in-Err-clause-sound
returns-in-Err-clause-sound c =
    let old = c.args.self.now in
    let r = reads (role_at old) (connection_end old.connection).phase c.requires.reads in
    let by = fed_by (role_at old) (connection_end old.connection) old.heard old.splitter old.outbox.output c.args.piece.now c.requires.reads c.requires.sound.fields c.requires.sound.holds (λ i. omega (arith, c.type_inv.piece i)) in
    let left = stop_leaves (role_at old) (config_view old.connection.settings) (connection_end old.connection) (connection_end c.stop-answer.new.self) c.in-Err.fault.kind (is_out_of_memory c.stop-answer.result) c.stop-answer.ensures.end c.requires.sound.fields.agreed in
    sound_with old.connection.settings (record { connection = c.stop-answer.new.self; splitter = c.feed_ref.follows.lender-at-none; heard = old.heard; outbox = c.stop-answer.new.outbox; tally = c.blame_octets.new.self }) c.stop-answer.ensures.settings c.requires.sound.writes (ap (λ (o : Outgoing). o.staged) c.stop-answer.ensures.output)
    (fields_failed (role_at old) (connection_end c.stop-answer.new.self) old.heard c.feed_ref.follows.lender-at-none left.0 left.1 (c.requires.sound.fields.opened r.opened)
    (after_stop old.splitter c.args.piece.now c.feed_ref.result c.in-Err.fault c.feed_ref.follows.lender-at-none c.feed_ref.follows.holds-at-none c.in-Err.is))
    (fed_holds (role_at old) (config_view old.connection.settings) (endpoint_view old) _ old.splitter c.args.piece.now _ (c.unfinished_is_held.ensures.feed (role_at old) (config_view old.connection.settings) (endpoint_view old) c.args.piece.now) by (returns-in-Err-clause-fed c))
    (bounded_failed (role_at old) (config_view old.connection.settings) (connection_end c.stop-answer.new.self) left.0)

pub returns-clause-in_place : goal.returns-clause-in_place
returns-clause-in_place c = λ drops.
    let old = c.args.self.now in
    let completes : Completes old.splitter (take c.in-Ok.fed.taken c.args.piece.now) (lent c.in-Some.frame) = subst (λ o. IfSome o (λ f. Completes old.splitter (take c.in-Ok.fed.taken c.args.piece.now) (lent f))) c.in-Some.is c.in-Ok.ensures.feeds.frame in
    let none = none_pending (role_at old) (connection_end old.connection) old.heard old.splitter old.outbox.output c.args.piece.now c.requires.sound.fields drops in
    c.receive_by_rules-answer.ensures.receives.alone (given_dropped (role_at old) (endpoint_view old) old.splitter c.args.piece.now c.in-Ok.fed.taken (lent c.in-Some.frame) c.one_frame_at_start.ensures drops none completes)

pub returns-in-Err-clause-in_place : goal.returns-in-Err-clause-in_place
returns-in-Err-clause-in_place c = λ drops.
    let old = c.args.self.now in
    let none = none_pending (role_at old) (connection_end old.connection) old.heard old.splitter old.outbox.output c.args.piece.now c.requires.sound.fields drops in
    let running = (c.requires.sound.fields.ready (reads (role_at old) (connection_end old.connection).phase c.requires.reads).octets).running in
    absurd (false≢true (subst (λ r. IsOk r) c.in-Err.is (c.feed_ref.ensures.feeds.in_place running none (frame_there (role_at old) (connection_end old.connection) old.heard old.splitter old.outbox.output c.args.piece.now c.requires.sound.fields drops))))

pub returns-in_default-clause-account : goal.returns-in_default-clause-account
returns-in_default-clause-account c = λ ran.
    let old = c.args.self.now in
    let by = fed_by (role_at old) (connection_end old.connection) old.heard old.splitter old.outbox.output c.args.piece.now c.requires.reads c.requires.sound.fields c.requires.sound.holds (λ i. omega (arith, c.type_inv.piece i)) in
    let waits : Waits old.splitter c.args.piece.now c.in-Ok.fed.taken = subst (λ o. IfNone o (Waits old.splitter c.args.piece.now c.in-Ok.fed.taken)) c.in_default.is c.in-Ok.ensures.feeds.rest in
    account_of_rest (role_at old) (config_view old.connection.settings) (endpoint_view old) c.args.piece.now _ c.in-Ok.fed.taken _ _ c.judged_is_said.ensures.one c.requires.reads
    (c.pieces_are_split.ensures.rest (role_at old) (config_view old.connection.settings) (endpoint_view old) old.splitter c.args.piece.now c.in-Ok.fed.taken by waits) waits.all
    (rest_of old.splitter (endpoint_view old) c.args.piece.now c.in-Ok.fed.taken by.splits waits) refl (came_fresh old.connection.settings c.args.account.now (parts_there c.args.account.now.parts) c.requires.fresh (ap parts_there c.requires.fresh.parts))

pub returns-clause-account : goal.returns-clause-account
returns-clause-account c = λ ran.
    let old = c.args.self.now in
    let by = fed_by (role_at old) (connection_end old.connection) old.heard old.splitter old.outbox.output c.args.piece.now c.requires.reads c.requires.sound.fields c.requires.sound.holds (λ i. omega (arith, c.type_inv.piece i)) in
    let completes : Completes old.splitter (take c.in-Ok.fed.taken c.args.piece.now) (lent c.in-Some.frame) = subst (λ o. IfSome o (λ f. Completes old.splitter (take c.in-Ok.fed.taken c.args.piece.now) (lent f))) c.in-Some.is c.in-Ok.ensures.feeds.frame in
    let item = item_is c.receive_by_rules-answer.result c.receive_by_rules-answer.new.account.octets (parts_there c.receive_by_rules-answer.new.account.parts)
    (outcome_of (facts_at (config_view old.connection.settings) (connection_end old.connection) (lent c.in-Some.frame).channel) (end_verdict (config_view old.connection.settings) (connection_end old.connection) (lent c.in-Some.frame)))
    c.receive_by_rules-answer.ensures.receives.said ran in
    account_of_frame (role_at old) (config_view old.connection.settings) (endpoint_view old) c.args.piece.now _ c.in-Ok.fed.taken _ (lent c.in-Some.frame) _ c.judged_is_said.ensures.one c.requires.reads
    (c.pieces_are_split.ensures.frame (role_at old) (config_view old.connection.settings) (endpoint_view old) old.splitter c.args.piece.now c.in-Ok.fed.taken (lent c.in-Some.frame) by c.in-Ok.ensures.feeds.within completes)
    (whole_of old.splitter (endpoint_view old) (take c.in-Ok.fed.taken c.args.piece.now) (lent c.in-Some.frame) by.splits completes) c.receive_by_rules-answer.ensures.receives.octets
    (λ i. record { took = c.receive_by_rules-answer.ensures.receives.took i; item = item i; owed = c.receive_by_rules-answer.ensures.receives.owed ran i })

pub returns-clause-grows : goal.returns-clause-grows
returns-clause-grows c =
    let old = c.args.self.now in
    frame_grows old.connection.settings (connection_end old.connection) (lent c.in-Some.frame) c.receive_by_rules-answer.result c.receive_by_rules-answer.new.account.owed old.outbox.output c.receive_by_rules-answer.new.outbox c.requires.sound.writes
    (c.frames_are_within.ensures.verdict (role_at old) (facts_at (config_view old.connection.settings) (connection_end old.connection) (lent c.in-Some.frame).channel) (reading (lent c.in-Some.frame))) c.receive_by_rules-answer.ensures.receives.owed c.receive_by_rules-answer.ensures.receives.output

pub returns-in-Err-clause-account : goal.returns-in-Err-clause-account
returns-in-Err-clause-account c = λ ran.
    let old = c.args.self.now in
    let r = reads (role_at old) (connection_end old.connection).phase c.requires.reads in
    let by = fed_by (role_at old) (connection_end old.connection) old.heard old.splitter old.outbox.output c.args.piece.now c.requires.reads c.requires.sound.fields c.requires.sound.holds (λ i. omega (arith, c.type_inv.piece i)) in
    let short : c.stop-answer.new.account.octets < 2 ^ 64 = omega (arith, c.stop-answer.ensures.octets, c.taken_to_fault-octets.type_inv) in
    let after = ap (λ (s : Stream). s.taken_to_fault) (c.feed_ref.follows.holds-at-none ∙ ap (after_feed_ref old.splitter c.args.piece.now) c.in-Err.is) in
    account_of_stop (role_at old) (config_view old.connection.settings) (endpoint_view old) old.splitter c.args.piece.now c.in-Err.fault.kind c.in-Err.fault.at _ _ c.judged_is_said.ensures.one
    (c.pieces_are_split.ensures.fault (role_at old) (config_view old.connection.settings) (endpoint_view old) (record old.splitter { taken = 0 }) c.args.piece.now) c.faults_are_judged.ensures.judged by short (λ e. false≢true (sym ran ∙ c.stop-answer.ensures.memory e))
    (first_fault old.splitter c.args.piece.now c.in-Err.fault (c.requires.sound.fields.ready r.octets).running c.in-Err.ensures.feeds.fault) (c.stop-answer.ensures.octets ∙ (c.taken_to_fault-octets.ensures ∙ after))
    (λ i. record { took = (ap note_there c.stop-answer.ensures.took ∙ ap note_there c.requires.fresh.took) i; item = None; owed = c.stop-answer.ensures.owed ran i })

pub returns-in-Err-clause-grows : goal.returns-in-Err-clause-grows
returns-in-Err-clause-grows c =
    let old = c.args.self.now in
    stop_grows old.connection.settings (connection_end old.connection) c.in-Err.fault.kind c.stop-answer.result c.stop-answer.new.account.owed old.outbox.output c.stop-answer.new.outbox
    (c.frames_are_within.ensures.too_large (role_at old) (facts_at (config_view old.connection.settings) (connection_end old.connection) 0)) c.stop-answer.ensures.owed c.stop-answer.ensures.output

pub returns-in_default-clause-message : goal.returns-in_default-clause-message
returns-in_default-clause-message c = λ is. absurd (subst (λ (e : Option EventParts). IsMessage (parts_there e)) c.requires.fresh.parts is)

pub returns-clause-message : goal.returns-clause-message
returns-clause-message c =
    let old = c.args.self.now in
    alone_in c.receive_by_rules-answer.result (IsMessage (parts_there c.receive_by_rules-answer.new.account.parts)) (connection_end old.connection) (connection_end c.receive_by_rules-answer.new.self) [] []
    (unfinished_of old.heard old.splitter.pending) (unfinished_of old.heard c.tune.new.splitter.pending) old.outbox.output c.receive_by_rules-answer.new.outbox.output c.receive_by_rules-answer.ensures.receives.message

-- What is counted and blamed.

pub returns-in_default-clause-tally : goal.returns-in_default-clause-tally
returns-in_default-clause-tally c =
    let old = c.args.self.now in
    let by = fed_by (role_at old) (connection_end old.connection) old.heard old.splitter old.outbox.output c.args.piece.now c.requires.reads c.requires.sound.fields c.requires.sound.holds (λ i. omega (arith, c.type_inv.piece i)) in
    let waits : Waits old.splitter c.args.piece.now c.in-Ok.fed.taken = subst (λ o. IfNone o (Waits old.splitter c.args.piece.now c.in-Ok.fed.taken)) c.in_default.is c.in-Ok.ensures.feeds.rest in
    blames_of_rest (role_at old) _ (endpoint_view old) c.args.piece.now _ c.in-Ok.fed.taken _ _ c.judged_is_said.ensures.one c.requires.reads
    (c.pieces_are_split.ensures.rest (role_at old) (config_view old.connection.settings) (endpoint_view old) old.splitter c.args.piece.now c.in-Ok.fed.taken by waits) waits.all
    (rest_of old.splitter (endpoint_view old) c.args.piece.now c.in-Ok.fed.taken by.splits waits) refl c.count.ensures

pub returns-clause-tally : goal.returns-clause-tally
returns-clause-tally c =
    let old = c.args.self.now in
    let by = fed_by (role_at old) (connection_end old.connection) old.heard old.splitter old.outbox.output c.args.piece.now c.requires.reads c.requires.sound.fields c.requires.sound.holds (λ i. omega (arith, c.type_inv.piece i)) in
    let completes : Completes old.splitter (take c.in-Ok.fed.taken c.args.piece.now) (lent c.in-Some.frame) = subst (λ o. IfSome o (λ f. Completes old.splitter (take c.in-Ok.fed.taken c.args.piece.now) (lent f))) c.in-Some.is c.in-Ok.ensures.feeds.frame in
    blames_of_frame (role_at old) (config_view old.connection.settings) c.receive_by_rules-answer.result (endpoint_view old) c.args.piece.now _ c.in-Ok.fed.taken (lent c.in-Some.frame) _ _ _ c.judged_is_said.ensures.one c.requires.reads
    (c.pieces_are_split.ensures.frame (role_at old) (config_view old.connection.settings) (endpoint_view old) old.splitter c.args.piece.now c.in-Ok.fed.taken (lent c.in-Some.frame) by c.in-Ok.ensures.feeds.within completes)
    (whole_of old.splitter (endpoint_view old) (take c.in-Ok.fed.taken c.args.piece.now) (lent c.in-Some.frame) by.splits completes) c.count.ensures c.receive_by_rules-answer.ensures.tally

pub blame_octets-requires : goal.blame_octets-requires
blame_octets-requires c = framing_broken c.in-Err.fault.kind c.stop-answer.result c.stop-answer.ensures.said

pub returns-in-Err-clause-tally : goal.returns-in-Err-clause-tally
returns-in-Err-clause-tally c =
    let old = c.args.self.now in
    let none : old.heard ≡ 0 = c.requires.sound.fields.opened (reads (role_at old) (connection_end old.connection).phase c.requires.reads).opened in
    blames_of_fault (role_at old) (config_view old.connection.settings) c.stop-answer.result (endpoint_view old) c.args.piece.now _ _ c.pending-pending.result _ _ _ c.requires.reads (returns-in-Err-clause-account c)
    (ap note_there c.stop-answer.ensures.took ∙ ap note_there c.requires.fresh.took)
    (c.pending-pending.ensures.value ∙ ap (λ (xs : List ℕ). length xs) (sym (unfinished_is old.heard old.splitter.pending none)))
    (c.blame_octets.ensures ∙ ap (λ n. blames_octets (code_told c.stop-answer.result) c.pending-pending.result n (tally_view old.tally)) (sym c.stop-answer.ensures.octets))

pub returns-clause-heard : goal.returns-clause-heard
returns-clause-heard c =
    let old = c.args.self.now in
    let role = role_at old in
    let config = config_view old.connection.settings in
    let piece = c.args.piece.now in
    let octets = c.in-Ok.fed.taken in
    let frame = lent c.in-Some.frame in
    let by = fed_by role (connection_end old.connection) old.heard old.splitter old.outbox.output piece c.requires.reads c.requires.sound.fields c.requires.sound.holds (λ i. omega (arith, c.type_inv.piece i)) in
    let completes : Completes old.splitter (take octets piece) frame = subst (λ o. IfSome o (λ f. Completes old.splitter (take octets piece) (lent f))) c.in-Some.is c.in-Ok.ensures.feeds.frame in
    frame_heard role config c.receive_by_rules-answer.result (endpoint_view old) piece _ octets frame _ _ c.judged_is_said.ensures.one c.requires.reads
    (c.pieces_are_split.ensures.frame role config (endpoint_view old) old.splitter piece octets frame by c.in-Ok.ensures.feeds.within completes)
    (whole_of old.splitter (endpoint_view old) (take octets piece) frame by.splits completes)
    c.receive_by_rules-answer.ensures.receives.heard c.receive_by_rules-answer.ensures.receives.at_fault

pub returns-in_default-clause-heard : goal.returns-in_default-clause-heard
returns-in_default-clause-heard c =
    let old = c.args.self.now in
    let role = role_at old in
    let config = config_view old.connection.settings in
    let piece = c.args.piece.now in
    let octets = c.in-Ok.fed.taken in
    let by = fed_by role (connection_end old.connection) old.heard old.splitter old.outbox.output piece c.requires.reads c.requires.sound.fields c.requires.sound.holds (λ i. omega (arith, c.type_inv.piece i)) in
    let waits : Waits old.splitter piece octets = subst (λ o. IfNone o (Waits old.splitter piece octets)) c.in_default.is c.in-Ok.ensures.feeds.rest in
    rest_heard role config _ (endpoint_view old) piece _ octets _ c.judged_is_said.ensures.one c.requires.reads
    (c.pieces_are_split.ensures.rest role config (endpoint_view old) old.splitter piece octets by waits)
    (ap (λ xs. (endpoint_view old).unfinished ++ xs) (sym (ap (λ n. take n piece) waits.all ∙ take-length piece)))
    (rest_of old.splitter (endpoint_view old) piece octets by.splits waits)

pub returns-in-Err-clause-heard : goal.returns-in-Err-clause-heard
returns-in-Err-clause-heard c =
    let old = c.args.self.now in
    fault_heard (role_at old) (config_view old.connection.settings) c.stop-answer.result (endpoint_view old) c.args.piece.now _ _
