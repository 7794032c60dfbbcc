-- A frame that lies whole in the piece is that of the law on pieces.
use Rattle.std.proofs.Common.{true, false, Some, ◌≡◌, [], take, ap, ◌∙◌, subst, arith}
use Rattle.amqp_frame.specs.Frame.{lent}
use Rattle.amqp_frame.specs.Splitter.{Completes, after_taking, place_after}
use Rattle.amqp_frame.specs.Stream.{Stream}
use Rattle.amqp_model.specs.End.EndVerdict.{end_verdict, facts_at}
use Rattle.amqp_model.specs.Stream.Endpoint.{outcome_of}
use Rattle.amqp_model.specs.Wire.Readings.{reading}
use Rattle.amqp_outbox.specs.OutboxView.{Outgoing}
use Rattle.amqp_channel.specs.Events.PartsView.{parts_there}
use Rattle.amqp_core.specs.Faults.Answering.{ran_out}
use Rattle.amqp_core.specs.Faults.Blamed.{tally_view}
use Rattle.amqp_core.specs.Connection.View.{connection_end}
use Rattle.amqp_core.specs.End.EndpointView.{endpoint_view, role_at, unfinished_of}
use Rattle.amqp_core.specs.End.Feeding.{IsMessage}
use Rattle.amqp_core.specs.Config.Settings.{config_view}
use Rattle.amqp_frame.specs.Frame.{frame_length}
use Rattle.amqp_frame.specs.declared.splitting.Place.TheVariants.{Piece}
use Rattle.amqp_model.specs.Stream.Endpoint.{after_feed}
use Rattle.amqp_model.specs.Stream.Pieces.{reads_frames}
use Rattle.amqp_core.specs.Connection.Stages.{phase_at}
use Rattle.amqp_core.specs.Faults.Blamed.{Blames}
use Rattle.amqp_core.specs.End.Feeding.{event_in, IsFed}
use Rattle.amqp_core.specs.Heard.Hearing.{Hears}
use Rattle.amqp_core.specs.Heard.View.{heard_view}
use Rattle.amqp_core.specs.Traced.AccountView.{IsAccount, came_by, taken_by}
use Rattle.amqp_core.proofs.WholeLemmas.{running_reads}
use Rattle.amqp_core.proofs.AccountLemmas.{account_of_frame, item_is, whole_of}
use Rattle.amqp_core.proofs.GrowthLemmas.{frame_grows}
use Rattle.amqp_core.proofs.BlameLemmas.{blames_of_frame}
use Rattle.amqp_core.proofs.HeardLemmas.{frame_heard}
use Rattle.amqp_core.proofs.BoundLemmas.{bounded_frame}
use Rattle.amqp_core.proofs.DropLemmas.{none_pending, given_dropped}
use Rattle.amqp_core.proofs.FeedLemmas.{sound_with, reads, takes, fed_by, frame_fed, alone_in, fed_holds, fields_frame, frame_leaves, none_unfinished}
use Rattle.amqp_core.proofs.endpoint.Endpoint.read_running.Goals as goal

pub read-answer-requires-clause-reads : goal.read-answer-requires-clause-reads
read-answer-requires-clause-reads c =
    let old = c.args.self.now in
    running_reads (role_at old) old.connection.stage c.args.agreed c.requires.running

pub receive-answer-requires-clause-taking : goal.receive-answer-requires-clause-taking
receive-answer-requires-clause-taking c =
    let old = c.args.self.now in
    takes (role_at old) (connection_end old.connection) old.heard old.splitter c.requires.sound.fields
    (running_reads (role_at old) old.connection.stage c.args.agreed c.requires.running)

pub tune-requires-clause-fits : goal.tune-requires-clause-fits
tune-requires-clause-fits c =
    let old = c.args.self.now in
    let role = role_at old in
    let config = config_view old.connection.settings in
    let frame = lent c.in-Some.frame in
    let said = c.receive-answer.result in
    let running : reads_frames role (phase_at old.connection.stage) ≡ true = running_reads role old.connection.stage c.args.agreed c.requires.running in
    let r = reads role (connection_end old.connection).phase running in
    let left = frame_leaves role config (connection_end old.connection) (connection_end c.receive-answer.new.self) frame (ran_out said) c.requires.sound.writes
    (c.agreed_is_within.ensures.frame role config (connection_end old.connection) frame) (c.requires.sound.fields.awaited r.opened) c.requires.sound.fields.agreed c.receive-answer.ensures.receives.end in
    left.0

pub tune-requires-clause-pending : goal.tune-requires-clause-pending
tune-requires-clause-pending c =
    ap (λ (s : Stream). s.pending) c.in-Some.ensures.whole.after

pub returns-clause-fed : goal.returns-clause-fed
returns-clause-fed c =
    let old = c.args.self.now in
    let role = role_at old in
    let config = config_view old.connection.settings in
    let piece = c.args.piece.now in
    let frame = lent c.in-Some.frame in
    let octets = frame_length frame in
    let said = c.receive-answer.result in
    let whole = c.in-Some.ensures.whole in
    let running : reads_frames role (phase_at old.connection.stage) ≡ true = running_reads role old.connection.stage c.args.agreed c.requires.running in
    let r = reads role (connection_end old.connection).phase running in
    let none : old.heard ≡ 0 = c.requires.sound.fields.opened r.opened in
    let by = fed_by role (connection_end old.connection) old.heard old.splitter old.outbox.output piece running c.requires.sound.fields c.requires.sound.holds (λ i. omega (arith, c.type_inv.piece i)) in
    let completes : Completes old.splitter (take octets piece) frame = whole.frame in
    let law = c.pieces_are_split.ensures.frame role config (endpoint_view old) old.splitter piece octets frame in
    let after : c.take_whole.new.self ≡ after_taking old.splitter piece octets (Some (Piece c.in-Some.frame)) = whole.after in
    let pending : c.tune.new.splitter.pending ≡ [] = ap (λ (s : Stream). s.pending) c.tune.ensures ∙ ap (λ (s : Stream). s.pending) after in
    frame_fed role config (endpoint_view old) old.splitter piece octets c.receive-answer.new.account.octets frame said (parts_there c.receive-answer.new.account.parts) (connection_end c.receive-answer.new.self) (unfinished_of old.heard c.tune.new.splitter.pending) c.receive-answer.new.outbox
    law by whole.within completes c.receive-answer.ensures.receives.octets c.receive-answer.ensures.receives.said c.receive-answer.ensures.receives.end (none_unfinished old.heard c.tune.new.splitter.pending none pending) c.receive-answer.ensures.receives.output

pub returns-clause-sound : goal.returns-clause-sound
returns-clause-sound c =
    let old = c.args.self.now in
    let role = role_at old in
    let config = config_view old.connection.settings in
    let piece = c.args.piece.now in
    let frame = lent c.in-Some.frame in
    let octets = frame_length frame in
    let said = c.receive-answer.result in
    let whole = c.in-Some.ensures.whole in
    let running : reads_frames role (phase_at old.connection.stage) ≡ true = running_reads role old.connection.stage c.args.agreed c.requires.running in
    let r = reads role (connection_end old.connection).phase running in
    let by = fed_by role (connection_end old.connection) old.heard old.splitter old.outbox.output piece running c.requires.sound.fields c.requires.sound.holds (λ i. omega (arith, c.type_inv.piece i)) in
    let after : c.take_whole.new.self ≡ after_taking old.splitter piece octets (Some (Piece c.in-Some.frame)) = whole.after in
    let left = frame_leaves role config (connection_end old.connection) (connection_end c.receive-answer.new.self) frame (ran_out said) c.requires.sound.writes
    (c.agreed_is_within.ensures.frame role config (connection_end old.connection) frame) (c.requires.sound.fields.awaited r.opened) c.requires.sound.fields.agreed c.receive-answer.ensures.receives.end in
    sound_with old.connection.settings (record { connection = c.receive-answer.new.self; splitter = c.tune.new.splitter; heard = old.heard; outbox = c.receive-answer.new.outbox; tally = c.receive-answer.new.tally }) c.receive-answer.ensures.receives.settings c.requires.sound.writes (ap (λ (o : Outgoing). o.staged) c.receive-answer.ensures.receives.output)
    (fields_frame role (connection_end old.connection) (connection_end c.receive-answer.new.self) old.heard old.splitter c.take_whole.new.self c.tune.new.splitter (place_after old.splitter.taken octets) running c.requires.sound.fields after c.tune.ensures left.0 left.1)
    (fed_holds role config (endpoint_view old) _ old.splitter piece _ (c.unfinished_is_held.ensures.feed role config (endpoint_view old) piece) by (returns-clause-fed c))
    (bounded_frame role config (connection_end old.connection) (connection_end c.receive-answer.new.self) frame (ran_out said) (c.ends_are_bounded.ensures.frame role config (connection_end old.connection) frame) r.octets c.requires.sound.bounded c.receive-answer.ensures.receives.end)

pub returns-clause-in_place : goal.returns-clause-in_place
returns-clause-in_place c = λ drops.
    let old = c.args.self.now in
    let role = role_at old in
    let piece = c.args.piece.now in
    let frame = lent c.in-Some.frame in
    let octets = frame_length frame in
    let whole = c.in-Some.ensures.whole in
    let completes : Completes old.splitter (take octets piece) frame = whole.frame in
    let starts = none_pending role (connection_end old.connection) old.heard old.splitter old.outbox.output piece c.requires.sound.fields drops in
    c.receive-answer.ensures.receives.alone (given_dropped role (endpoint_view old) old.splitter piece octets frame c.one_frame_at_start.ensures drops starts completes)

pub returns-clause-account : goal.returns-clause-account
returns-clause-account c = λ ran.
    let old = c.args.self.now in
    let role = role_at old in
    let config = config_view old.connection.settings in
    let piece = c.args.piece.now in
    let frame = lent c.in-Some.frame in
    let octets = frame_length frame in
    let said = c.receive-answer.result in
    let whole = c.in-Some.ensures.whole in
    let running : reads_frames role (phase_at old.connection.stage) ≡ true = running_reads role old.connection.stage c.args.agreed c.requires.running in
    let by = fed_by role (connection_end old.connection) old.heard old.splitter old.outbox.output piece running c.requires.sound.fields c.requires.sound.holds (λ i. omega (arith, c.type_inv.piece i)) in
    let completes : Completes old.splitter (take octets piece) frame = whole.frame in
    let law = c.pieces_are_split.ensures.frame role config (endpoint_view old) old.splitter piece octets frame in
    let item = item_is said c.receive-answer.new.account.octets (parts_there c.receive-answer.new.account.parts)
    (outcome_of (facts_at config (connection_end old.connection) frame.channel) (end_verdict config (connection_end old.connection) frame))
    c.receive-answer.ensures.receives.said ran in
    account_of_frame role config (endpoint_view old) piece _ octets _ frame _ c.judged_is_said.ensures.one running
    (law by whole.within completes)
    (whole_of old.splitter (endpoint_view old) (take octets piece) frame by.splits completes) c.receive-answer.ensures.receives.octets
    (λ i. record { took = c.receive-answer.ensures.receives.took i; item = item i; owed = c.receive-answer.ensures.receives.owed ran i })

pub returns-clause-grows : goal.returns-clause-grows
returns-clause-grows c =
    let old = c.args.self.now in
    let role = role_at old in
    let config = config_view old.connection.settings in
    let frame = lent c.in-Some.frame in
    let said = c.receive-answer.result in
    frame_grows old.connection.settings (connection_end old.connection) frame said c.receive-answer.new.account.owed old.outbox.output c.receive-answer.new.outbox c.requires.sound.writes
    (c.frames_are_within.ensures.verdict role (facts_at config (connection_end old.connection) frame.channel) (reading frame)) c.receive-answer.ensures.receives.owed c.receive-answer.ensures.receives.output

pub returns-clause-message : goal.returns-clause-message
returns-clause-message c =
    let old = c.args.self.now in
    alone_in c.receive-answer.result (IsMessage (parts_there c.receive-answer.new.account.parts)) (connection_end old.connection) (connection_end c.receive-answer.new.self) [] []
    (unfinished_of old.heard old.splitter.pending) (unfinished_of old.heard c.tune.new.splitter.pending) old.outbox.output c.receive-answer.new.outbox.output c.receive-answer.ensures.receives.message

pub returns-clause-tally : goal.returns-clause-tally
returns-clause-tally c =
    let old = c.args.self.now in
    let role = role_at old in
    let config = config_view old.connection.settings in
    let piece = c.args.piece.now in
    let frame = lent c.in-Some.frame in
    let octets = frame_length frame in
    let said = c.receive-answer.result in
    let whole = c.in-Some.ensures.whole in
    let running : reads_frames role (phase_at old.connection.stage) ≡ true = running_reads role old.connection.stage c.args.agreed c.requires.running in
    let by = fed_by role (connection_end old.connection) old.heard old.splitter old.outbox.output piece running c.requires.sound.fields c.requires.sound.holds (λ i. omega (arith, c.type_inv.piece i)) in
    let completes : Completes old.splitter (take octets piece) frame = whole.frame in
    let law = c.pieces_are_split.ensures.frame role config (endpoint_view old) old.splitter piece octets frame in
    blames_of_frame role config said (endpoint_view old) piece _ octets frame _ _ _ c.judged_is_said.ensures.one running
    (law by whole.within completes)
    (whole_of old.splitter (endpoint_view old) (take octets piece) frame by.splits completes) c.count.ensures c.receive-answer.ensures.tally

pub returns-clause-heard : goal.returns-clause-heard
returns-clause-heard c =
    let old = c.args.self.now in
    let role = role_at old in
    let config = config_view old.connection.settings in
    let piece = c.args.piece.now in
    let frame = lent c.in-Some.frame in
    let octets = frame_length frame in
    let said = c.receive-answer.result in
    let whole = c.in-Some.ensures.whole in
    let running : reads_frames role (phase_at old.connection.stage) ≡ true = running_reads role old.connection.stage c.args.agreed c.requires.running in
    let by = fed_by role (connection_end old.connection) old.heard old.splitter old.outbox.output piece running c.requires.sound.fields c.requires.sound.holds (λ i. omega (arith, c.type_inv.piece i)) in
    let completes : Completes old.splitter (take octets piece) frame = whole.frame in
    let law = c.pieces_are_split.ensures.frame role config (endpoint_view old) old.splitter piece octets frame in
    frame_heard role config said (endpoint_view old) piece _ octets frame _ _ c.judged_is_said.ensures.one running
    (law by whole.within completes)
    (whole_of old.splitter (endpoint_view old) (take octets piece) frame by.splits completes)
    c.receive-answer.ensures.receives.heard c.receive-answer.ensures.receives.at_fault

-- Otherwise nothing was taken yet.

pub returns-in_default-clause-fed : goal.returns-in_default-clause-fed
returns-in_default-clause-fed c =
    let old = c.args.self.now in
    let role = role_at old in
    let config = config_view old.connection.settings in
    let piece = c.args.piece.now in
    let answer = c.read-answer in
    subst (λ (s : Stream). IsFed (taken_by answer.result answer.new.account) (endpoint_view (record old { splitter = s }))
    (after_feed role config (endpoint_view (record old { splitter = s })) piece) (endpoint_view answer.new.self))
    c.in_default.ensures.stays answer.ensures.fed

pub returns-in_default-clause-account : goal.returns-in_default-clause-account
returns-in_default-clause-account c =
    let old = c.args.self.now in
    let role = role_at old in
    let config = config_view old.connection.settings in
    let piece = c.args.piece.now in
    let answer = c.read-answer in
    subst (λ (s : Stream). ran_out answer.result ≡ false → IsAccount role config (endpoint_view (record old { splitter = s })) piece
    (after_feed role config (endpoint_view (record old { splitter = s })) piece) answer.new.account.octets
    (came_by old.connection.settings answer.new.account (event_in (taken_by answer.result answer.new.account))))
    c.in_default.ensures.stays answer.ensures.account

pub returns-in_default-clause-heard : goal.returns-in_default-clause-heard
returns-in_default-clause-heard c =
    let old = c.args.self.now in
    let role = role_at old in
    let config = config_view old.connection.settings in
    let piece = c.args.piece.now in
    let answer = c.read-answer in
    subst (λ (s : Stream). Hears role config answer.result (endpoint_view (record old { splitter = s })) piece
    (after_feed role config (endpoint_view (record old { splitter = s })) piece) (heard_view c.args.heard.now) (heard_view answer.new.heard))
    c.in_default.ensures.stays answer.ensures.heard

pub returns-in_default-clause-tally : goal.returns-in_default-clause-tally
returns-in_default-clause-tally c =
    let old = c.args.self.now in
    let role = role_at old in
    let config = config_view old.connection.settings in
    let piece = c.args.piece.now in
    let answer = c.read-answer in
    subst (λ (s : Stream). Blames role answer.result (endpoint_view (record old { splitter = s })) piece
    (after_feed role config (endpoint_view (record old { splitter = s })) piece) (tally_view old.tally) (tally_view answer.new.self.tally))
    c.in_default.ensures.stays answer.ensures.tally
