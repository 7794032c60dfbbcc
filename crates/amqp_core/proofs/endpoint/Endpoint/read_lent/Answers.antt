-- A frame that lies whole in the piece is that of the law on pieces, and what is left of it is alike to what the definitions leave.
use Rattle.std.proofs.Common.{true, ◌≡◌, Some, Result, [], refl, take, sym, ap, ◌∙◌, subst, arith}
use Rattle.amqp_frame.specs.Frame.{frame_length, lent}
use Rattle.amqp_frame.specs.Splitter.{Completes, after_taking}
use Rattle.amqp_frame.specs.Stream.{Stream}
use Rattle.amqp_frame.specs.declared.splitting.Place.TheVariants.{Piece}
use Rattle.amqp_model.specs.Laws.OctetLaws.{event_of_frame}
use Rattle.amqp_model.specs.Lent.Alike.{lent as lent_of, maybe_telling}
use Rattle.amqp_model.specs.Stream.Endpoint.{Endpoint, after_feed}
use Rattle.amqp_model.specs.Stream.Pieces.{reads_frames}
use Rattle.amqp_model.specs.Wire.Readings.{reading}
use Rattle.amqp_core.specs.Connection.Stages.{phase_at}
use Rattle.amqp_core.specs.Faults.Answering.{ran_out}
use Rattle.amqp_core.specs.Connection.View.{connection_end}
use Rattle.amqp_core.specs.End.EndpointView.{endpoint_view, role_at, unfinished_of}
use Rattle.amqp_core.specs.Stream.Lending.{IsLent, LendsOf, LentSeen}
use Rattle.amqp_core.specs.Config.Settings.{config_view}
use Rattle.amqp_core.specs.declared.faults.CoreFault.{CoreFault}
use Rattle.amqp_core.proofs.AccountLemmas.{whole_of}
use Rattle.amqp_core.proofs.BlameLemmas.{blames_of_frame}
use Rattle.amqp_core.proofs.DropLemmas.{given_dropped, none_pending}
use Rattle.amqp_core.proofs.FeedLemmas.{fed_by, frame_leaves, none_unfinished, reads}
use Rattle.amqp_core.proofs.HeardLemmas.{frame_heard}
use Rattle.amqp_core.proofs.StreamLemmas.{frame_lent, frame_sound, frame_stands, lends_of_frame, standing_in, stands_in, left_by_frame}
use Rattle.amqp_core.proofs.WholeLemmas.{if_all, running_reads, step_is}
use Rattle.amqp_core.proofs.endpoint.Endpoint.read_lent.Goals as goal

pub returns-clause-lent : goal.returns-clause-lent
returns-clause-lent c =
    let old = c.args.self.now in
    let role = role_at old in
    let config = config_view old.connection.settings in
    let piece = c.args.piece.now in
    let frame = lent c.in_ok-frame.frame in
    let octets = frame_length frame in
    let said = c.take_frame-answer.result in
    let whole = c.in_ok-frame.ensures.whole in
    let running : reads_frames role (phase_at old.connection.stage) ≡ true = running_reads role old.connection.stage c.in_ok-agreed.agreed c.in_ok-agreed.ensures.running in
    let r = reads role (connection_end old.connection).phase running in
    let none : old.heard ≡ 0 = c.requires.sound.fields.opened r.opened in
    let by = fed_by role (connection_end old.connection) old.heard old.splitter old.outbox.output piece running c.requires.sound.fields c.requires.sound.holds (λ i. omega (arith, c.type_inv.piece i)) in
    let completes : Completes old.splitter (take octets piece) frame = whole.frame in
    let law = c.pieces_are_split.ensures.frame role config (endpoint_view old) old.splitter piece octets frame in
    let left = c.take_frame-answer.new.self in
    let after : left.splitter ≡ after_taking old.splitter piece octets (Some (Piece c.in_ok-frame.frame)) = c.take_frame-answer.ensures.splitter ∙ whole.after in
    let still : left.heard ≡ 0 = c.take_frame-answer.ensures.opening ∙ none in
    let pending : c.tune.new.splitter.pending ≡ [] = ap (λ (s : Stream). s.pending) c.tune.ensures ∙ ap (λ (s : Stream). s.pending) after in
    let empty = none_unfinished left.heard c.tune.new.splitter.pending still pending in
    let event = lent_of frame.channel (reading frame) (maybe_telling (event_of_frame config (connection_end old.connection) frame)) in
    let fed = after_feed role config (endpoint_view old) piece in
    let new : Endpoint = record { end = connection_end left.connection; unfinished = unfinished_of left.heard c.tune.new.splitter.pending; output = left.outbox.output } in
    subst (λ (a : Result LentSeen CoreFault). IsLent role config a (endpoint_view old) piece fed new)
    (sym (step_is said octets event c.tune.new.splitter.given c.take_frame-answer.ensures.octets c.take_frame-answer.ensures.told))
    (frame_lent role config (endpoint_view old) old.splitter piece octets frame said event (connection_end left.connection) (unfinished_of left.heard c.tune.new.splitter.pending) left.outbox
    law by whole.within completes c.take_frame-answer.ensures.receives.said c.take_frame-answer.ensures.receives.end empty c.take_frame-answer.ensures.receives.output
    (if_all said (LendsOf role config (endpoint_view old) piece fed event)
    (lends_of_frame role config (endpoint_view old) piece fed octets frame event c.judged_is_said.ensures.one running (law by whole.within completes)
    (whole_of old.splitter (endpoint_view old) (take octets piece) frame by.splits completes) refl)))

pub returns-clause-sound : goal.returns-clause-sound
returns-clause-sound c =
    let old = c.args.self.now in
    let role = role_at old in
    let config = config_view old.connection.settings in
    let piece = c.args.piece.now in
    let frame = lent c.in_ok-frame.frame in
    let octets = frame_length frame in
    let said = c.take_frame-answer.result in
    let whole = c.in_ok-frame.ensures.whole in
    let running : reads_frames role (phase_at old.connection.stage) ≡ true = running_reads role old.connection.stage c.in_ok-agreed.agreed c.in_ok-agreed.ensures.running in
    let r = reads role (connection_end old.connection).phase running in
    let none : old.heard ≡ 0 = c.requires.sound.fields.opened r.opened in
    let by = fed_by role (connection_end old.connection) old.heard old.splitter old.outbox.output piece running c.requires.sound.fields c.requires.sound.holds (λ i. omega (arith, c.type_inv.piece i)) in
    let completes : Completes old.splitter (take octets piece) frame = whole.frame in
    let law = c.pieces_are_split.ensures.frame role config (endpoint_view old) old.splitter piece octets frame in
    let left = c.take_frame-answer.new.self in
    let after : left.splitter ≡ after_taking old.splitter piece octets (Some (Piece c.in_ok-frame.frame)) = c.take_frame-answer.ensures.splitter ∙ whole.after in
    let still : left.heard ≡ 0 = c.take_frame-answer.ensures.opening ∙ none in
    let pending : c.tune.new.splitter.pending ≡ [] = ap (λ (s : Stream). s.pending) c.tune.ensures ∙ ap (λ (s : Stream). s.pending) after in
    let empty = none_unfinished left.heard c.tune.new.splitter.pending still pending in
    frame_sound old (record { connection = left.connection; splitter = c.tune.new.splitter; heard = left.heard; outbox = left.outbox; tally = left.tally }) piece octets frame said left.splitter
    c.requires.sound running c.take_frame-answer.ensures.receives.settings c.take_frame-answer.ensures.opening
    (c.agreed_is_within.ensures.frame role config (connection_end old.connection) frame) (c.unfinished_is_held.ensures.feed role config (endpoint_view old) piece) (c.ends_are_bounded.ensures.frame role config (connection_end old.connection) frame)
    by (ap (λ (s : Stream). s.pending) after) (ap (λ (s : Stream). s.fault) after) c.tune.ensures c.take_frame-answer.ensures.receives.end c.take_frame-answer.ensures.receives.output
    (frame_stands role config (endpoint_view old) old.splitter piece octets frame said (connection_end left.connection) (unfinished_of left.heard c.tune.new.splitter.pending) left.outbox
    law by whole.within completes c.take_frame-answer.ensures.receives.said c.take_frame-answer.ensures.receives.end empty c.take_frame-answer.ensures.receives.output)

pub returns-clause-in_place : goal.returns-clause-in_place
returns-clause-in_place c = λ drops.
    let old = c.args.self.now in
    let role = role_at old in
    let piece = c.args.piece.now in
    let frame = lent c.in_ok-frame.frame in
    let octets = frame_length frame in
    let whole = c.in_ok-frame.ensures.whole in
    let completes : Completes old.splitter (take octets piece) frame = whole.frame in
    let starts = none_pending role (connection_end old.connection) old.heard old.splitter old.outbox.output piece c.requires.sound.fields drops in
    c.take_frame-answer.ensures.receives.alone (given_dropped role (endpoint_view old) old.splitter piece octets frame c.one_frame_at_start.ensures drops starts completes)

pub take_frame-answer-requires-clause-lends : goal.take_frame-answer-requires-clause-lends
take_frame-answer-requires-clause-lends c = c.requires.lends

pub take_frame-answer-requires-clause-staged : goal.take_frame-answer-requires-clause-staged
take_frame-answer-requires-clause-staged c = c.requires.sound.staged

pub tune-requires-clause-fits : goal.tune-requires-clause-fits
tune-requires-clause-fits c =
    let old = c.args.self.now in
    let role = role_at old in
    let config = config_view old.connection.settings in
    let frame = lent c.in_ok-frame.frame in
    let said = c.take_frame-answer.result in
    let running : reads_frames role (phase_at old.connection.stage) ≡ true = running_reads role old.connection.stage c.in_ok-agreed.agreed c.in_ok-agreed.ensures.running in
    let r = reads role (connection_end old.connection).phase running in
    let next = left_by_frame role config said (connection_end old.connection) frame in
    let left = connection_end c.take_frame-answer.new.self.connection in
    (frame_leaves role config (connection_end old.connection) (standing_in next left) frame (ran_out said) c.requires.sound.writes
    (c.agreed_is_within.ensures.frame role config (connection_end old.connection) frame) (c.requires.sound.fields.awaited r.opened) c.requires.sound.fields.agreed (stands_in next left c.take_frame-answer.ensures.receives.end)).0

pub tune-requires-clause-pending : goal.tune-requires-clause-pending
tune-requires-clause-pending c =
    ap (λ (s : Stream). s.pending) (c.take_frame-answer.ensures.splitter ∙ c.in_ok-frame.ensures.whole.after)

pub returns-clause-tally : goal.returns-clause-tally
returns-clause-tally c =
    let old = c.args.self.now in
    let role = role_at old in
    let config = config_view old.connection.settings in
    let piece = c.args.piece.now in
    let frame = lent c.in_ok-frame.frame in
    let octets = frame_length frame in
    let said = c.take_frame-answer.result in
    let whole = c.in_ok-frame.ensures.whole in
    let running : reads_frames role (phase_at old.connection.stage) ≡ true = running_reads role old.connection.stage c.in_ok-agreed.agreed c.in_ok-agreed.ensures.running in
    let by = fed_by role (connection_end old.connection) old.heard old.splitter old.outbox.output piece running c.requires.sound.fields c.requires.sound.holds (λ i. omega (arith, c.type_inv.piece i)) in
    let completes : Completes old.splitter (take octets piece) frame = whole.frame in
    let law = c.pieces_are_split.ensures.frame role config (endpoint_view old) old.splitter piece octets frame in
    blames_of_frame role config said (endpoint_view old) piece _ octets frame _ _ _ c.judged_is_said.ensures.one running
    (law by whole.within completes)
    (whole_of old.splitter (endpoint_view old) (take octets piece) frame by.splits completes) c.count.ensures c.take_frame-answer.ensures.tally

pub returns-clause-heard : goal.returns-clause-heard
returns-clause-heard c =
    let old = c.args.self.now in
    let role = role_at old in
    let config = config_view old.connection.settings in
    let piece = c.args.piece.now in
    let frame = lent c.in_ok-frame.frame in
    let octets = frame_length frame in
    let said = c.take_frame-answer.result in
    let whole = c.in_ok-frame.ensures.whole in
    let running : reads_frames role (phase_at old.connection.stage) ≡ true = running_reads role old.connection.stage c.in_ok-agreed.agreed c.in_ok-agreed.ensures.running in
    let by = fed_by role (connection_end old.connection) old.heard old.splitter old.outbox.output piece running c.requires.sound.fields c.requires.sound.holds (λ i. omega (arith, c.type_inv.piece i)) in
    let completes : Completes old.splitter (take octets piece) frame = whole.frame in
    let law = c.pieces_are_split.ensures.frame role config (endpoint_view old) old.splitter piece octets frame in
    frame_heard role config said (endpoint_view old) piece _ octets frame _ _ c.judged_is_said.ensures.one running
    (law by whole.within completes)
    (whole_of old.splitter (endpoint_view old) (take octets piece) frame by.splits completes)
    c.take_frame-answer.ensures.receives.heard c.take_frame-answer.ensures.receives.at_fault
