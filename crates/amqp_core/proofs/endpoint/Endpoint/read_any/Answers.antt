-- Each answer of the splitter is a law on pieces. What is left of a frame is alike to what the definitions leave.
use Rattle.std.proofs.Common.{ℕ, List, length, false, ◌<◌, ◌^◌, ◌≡◌, Some, None, Ok, Err, Result, [], ◌++◌, refl, take, IfSome, IfNone, IsOk, sym, ap, ◌∙◌, subst, arith}
use Rattle.std.proofs.Math.Seq.{take-length}
use Rattle.std.proofs.lemmas.Bool.{false≢true}
use Rattle.amqp_frame.specs.Frame.{lent}
use Rattle.amqp_frame.specs.Splitter.{Completes, OfGiven, Waits, after_advance}
use Rattle.amqp_frame.specs.Stream.{Stream}
use Rattle.amqp_model.specs.Stream.Endpoint.{Endpoint, after_feed, owed_at_fault}
use Rattle.amqp_model.specs.Wire.Readings.{reading}
use Rattle.amqp_channel.specs.ReadingView.{reading_view}
use Rattle.amqp_outbox.specs.OutboxView.{Outgoing}
use Rattle.amqp_core.specs.Traced.AccountView.{puts_alone}
use Rattle.amqp_core.specs.Faults.Answering.{is_out_of_memory, ran_out}
use Rattle.amqp_core.specs.Connection.View.{connection_end}
use Rattle.amqp_core.specs.End.EndpointView.{endpoint_view, role_at, unfinished_of}
use Rattle.amqp_core.specs.Stream.Lending.{IsLent, LendsOf, LentSeen}
use Rattle.amqp_core.specs.Config.Settings.{config_view}
use Rattle.amqp_core.specs.Stream.StepView.{told_of, read_in}
use Rattle.amqp_core.specs.declared.faults.CoreFault.{CoreFault}
use Rattle.amqp_core.specs.declared.step.Report.{Report}
use Rattle.amqp_core.proofs.AccountLemmas.{account_of_stop, rest_of, whole_of}
use Rattle.amqp_core.proofs.BlameLemmas.{blames_as, blames_of_fault, blames_of_frame, blames_of_rest, framing_broken}
use Rattle.amqp_core.proofs.BoundLemmas.{bounded_failed}
use Rattle.amqp_core.proofs.DropLemmas.{frame_there, given_dropped, none_pending}
use Rattle.amqp_core.proofs.FeedLemmas.{fault_fed, fed_by, fed_holds, fields_failed, first_fault, frame_leaves, none_unfinished, reads, rest_fed, sound_with, stop_leaves, takes, unfinished_is}
use Rattle.amqp_core.proofs.HeardLemmas.{fault_heard, frame_heard, rest_heard, step_heard}
use Rattle.amqp_core.proofs.StreamLemmas.{after_place, after_waiting, after_wrong, endpoint_itself, fields_waiting, frame_lent, frame_sound, frame_stands, given_place, if_told, lent_by, lends_of_frame, lends_of_rest, lent_of_fed, none_given, piece_place, standing_in, stands_in, left_by_frame}
use Rattle.amqp_core.proofs.endpoint.Endpoint.read_any.Goals as goal

-- The splitter reports a fault.

pub returns-in-Err-clause-lent : goal.returns-in-Err-clause-lent
returns-in-Err-clause-lent c =
    let old = c.args.self.now in
    let role = role_at old in
    let config = config_view old.connection.settings in
    let r = reads role (connection_end old.connection).phase c.requires.reads in
    let none : old.heard ≡ 0 = c.requires.sound.fields.opened r.opened in
    let by = fed_by role (connection_end old.connection) old.heard old.splitter old.outbox.output c.args.piece.now c.requires.reads c.requires.sound.fields c.requires.sound.holds (λ i. omega (arith, c.type_inv.piece i)) in
    let pending = after_wrong old.splitter c.args.piece.now c.advance.result c.in-Err.fault c.advance.new.self c.advance.ensures.after c.in-Err.is in
    lent_of_fed {A = Report} role config (Err c.stop_lent-answer.result) 0 None None (endpoint_view old) c.args.piece.now (after_feed role config (endpoint_view old) c.args.piece.now) _ _
    (fault_fed role config (endpoint_view old) old.splitter c.args.piece.now c.in-Err.fault.kind c.in-Err.fault.at c.stop_lent-answer.result (connection_end c.stop_lent-answer.new.self) (unfinished_of old.heard c.advance.new.self.pending) c.stop_lent-answer.new.outbox
    (c.pieces_are_split.ensures.fault role config (endpoint_view old) old.splitter c.args.piece.now c.in-Err.fault.kind c.in-Err.fault.at) by
    (first_fault old.splitter c.args.piece.now c.in-Err.fault (c.requires.sound.fields.ready r.octets).running c.in-Err.ensures.fault) c.stop_lent-answer.ensures.memory c.stop_lent-answer.ensures.said c.stop_lent-answer.ensures.end (none_unfinished old.heard c.advance.new.self.pending none pending) c.stop_lent-answer.ensures.output)
    (endpoint_itself _) tt

pub returns-in-Err-clause-sound : goal.returns-in-Err-clause-sound
returns-in-Err-clause-sound c =
    let old = c.args.self.now in
    let role = role_at old in
    let config = config_view old.connection.settings in
    let r = reads role (connection_end old.connection).phase c.requires.reads in
    let none : old.heard ≡ 0 = c.requires.sound.fields.opened r.opened in
    let by = fed_by role (connection_end old.connection) old.heard old.splitter old.outbox.output c.args.piece.now c.requires.reads c.requires.sound.fields c.requires.sound.holds (λ i. omega (arith, c.type_inv.piece i)) in
    let pending = after_wrong old.splitter c.args.piece.now c.advance.result c.in-Err.fault c.advance.new.self c.advance.ensures.after c.in-Err.is in
    let fed = fault_fed role config (endpoint_view old) old.splitter c.args.piece.now c.in-Err.fault.kind c.in-Err.fault.at c.stop_lent-answer.result (connection_end c.stop_lent-answer.new.self) (unfinished_of old.heard c.advance.new.self.pending) c.stop_lent-answer.new.outbox
    (c.pieces_are_split.ensures.fault role config (endpoint_view old) old.splitter c.args.piece.now c.in-Err.fault.kind c.in-Err.fault.at) by
    (first_fault old.splitter c.args.piece.now c.in-Err.fault (c.requires.sound.fields.ready r.octets).running c.in-Err.ensures.fault) c.stop_lent-answer.ensures.memory c.stop_lent-answer.ensures.said c.stop_lent-answer.ensures.end (none_unfinished old.heard c.advance.new.self.pending none pending) c.stop_lent-answer.ensures.output in
    let left = stop_leaves role config (connection_end old.connection) (connection_end c.stop_lent-answer.new.self) c.in-Err.fault.kind (is_out_of_memory c.stop_lent-answer.result) c.stop_lent-answer.ensures.end c.requires.sound.fields.agreed in
    sound_with old.connection.settings (record { connection = c.stop_lent-answer.new.self; splitter = c.advance.new.self; heard = old.heard; outbox = c.stop_lent-answer.new.outbox; tally = c.blame_octets.new.self }) c.stop_lent-answer.ensures.settings c.requires.sound.writes (ap (λ (o : Outgoing). o.staged) c.stop_lent-answer.ensures.output)
    (fields_failed role (connection_end c.stop_lent-answer.new.self) old.heard c.advance.new.self left.0 left.1 none pending)
    (fed_holds role config (endpoint_view old) _ old.splitter c.args.piece.now _ (c.unfinished_is_held.ensures.feed role config (endpoint_view old) c.args.piece.now) by fed)
    (bounded_failed role config (connection_end c.stop_lent-answer.new.self) left.0)

pub returns-in-Err-clause-in_place : goal.returns-in-Err-clause-in_place
returns-in-Err-clause-in_place c = λ drops.
    let old = c.args.self.now in
    let none = none_pending (role_at old) (connection_end old.connection) old.heard old.splitter old.outbox.output c.args.piece.now c.requires.sound.fields drops in
    let running = (c.requires.sound.fields.ready (reads (role_at old) (connection_end old.connection).phase c.requires.reads).octets).running in
    absurd (false≢true (subst (λ r. IsOk r) c.in-Err.is (c.advance.ensures.in_place running none (frame_there (role_at old) (connection_end old.connection) old.heard old.splitter old.outbox.output c.args.piece.now c.requires.sound.fields drops))))

-- It gives no frame.

pub returns-in_default-clause-lent : goal.returns-in_default-clause-lent
returns-in_default-clause-lent c =
    let old = c.args.self.now in
    let role = role_at old in
    let config = config_view old.connection.settings in
    let none : old.heard ≡ 0 = c.requires.sound.fields.opened (reads role (connection_end old.connection).phase c.requires.reads).opened in
    let by = fed_by role (connection_end old.connection) old.heard old.splitter old.outbox.output c.args.piece.now c.requires.reads c.requires.sound.fields c.requires.sound.holds (λ i. omega (arith, c.type_inv.piece i)) in
    let after = after_waiting old.splitter c.args.piece.now c.advance.result c.in-Ok.advanced c.advance.new.self c.advance.ensures.after c.in-Ok.is c.in_default.is in
    let waits : Waits old.splitter c.args.piece.now c.in-Ok.advanced.taken = subst (λ o. IfNone o (Waits old.splitter c.args.piece.now c.in-Ok.advanced.taken)) c.in_default.is c.in-Ok.ensures.rest in
    let law = c.pieces_are_split.ensures.rest role config (endpoint_view old) old.splitter c.args.piece.now c.in-Ok.advanced.taken in
    let unfinished = ap (λ us. us ++ c.args.piece.now) (unfinished_is old.heard old.splitter.pending none) ∙ (sym (ap (λ (s : Stream). s.pending) after) ∙ sym (unfinished_is old.heard c.advance.new.self.pending none)) in
    lent_of_fed {A = ℕ} role config (Ok 0) c.in-Ok.advanced.taken None None (endpoint_view old) c.args.piece.now (after_feed role config (endpoint_view old) c.args.piece.now) _ _
    (rest_fed role config (endpoint_view old) old.splitter c.args.piece.now c.in-Ok.advanced.taken None (unfinished_of old.heard c.advance.new.self.pending) law by waits unfinished refl)
    (endpoint_itself _)
    (lends_of_rest role config (endpoint_view old) c.args.piece.now _ c.in-Ok.advanced.taken c.judged_is_said.ensures.one c.requires.reads (law by waits)
    (ap (λ xs. (endpoint_view old).unfinished ++ xs) (sym (ap (λ n. take n c.args.piece.now) waits.all ∙ take-length c.args.piece.now)))
    (rest_of old.splitter (endpoint_view old) c.args.piece.now c.in-Ok.advanced.taken by.splits waits))

pub returns-in_default-clause-sound : goal.returns-in_default-clause-sound
returns-in_default-clause-sound c =
    let old = c.args.self.now in
    let role = role_at old in
    let config = config_view old.connection.settings in
    let none : old.heard ≡ 0 = c.requires.sound.fields.opened (reads role (connection_end old.connection).phase c.requires.reads).opened in
    let by = fed_by role (connection_end old.connection) old.heard old.splitter old.outbox.output c.args.piece.now c.requires.reads c.requires.sound.fields c.requires.sound.holds (λ i. omega (arith, c.type_inv.piece i)) in
    let after = after_waiting old.splitter c.args.piece.now c.advance.result c.in-Ok.advanced c.advance.new.self c.advance.ensures.after c.in-Ok.is c.in_default.is in
    let waits : Waits old.splitter c.args.piece.now c.in-Ok.advanced.taken = subst (λ o. IfNone o (Waits old.splitter c.args.piece.now c.in-Ok.advanced.taken)) c.in_default.is c.in-Ok.ensures.rest in
    let law = c.pieces_are_split.ensures.rest role config (endpoint_view old) old.splitter c.args.piece.now c.in-Ok.advanced.taken in
    let unfinished = ap (λ us. us ++ c.args.piece.now) (unfinished_is old.heard old.splitter.pending none) ∙ (sym (ap (λ (s : Stream). s.pending) after) ∙ sym (unfinished_is old.heard c.advance.new.self.pending none)) in
    record {
      writes = c.requires.sound.writes;
      staged = c.requires.sound.staged;
      fields = fields_waiting role (connection_end old.connection) old.heard old.splitter c.advance.new.self c.requires.reads c.requires.sound.fields (ap (λ (s : Stream). s.fault) after) (ap (λ (s : Stream). s.limit) after);
      holds = fed_holds role config (endpoint_view old) _ old.splitter c.args.piece.now _ (c.unfinished_is_held.ensures.feed role config (endpoint_view old) c.args.piece.now) by
          (rest_fed role config (endpoint_view old) old.splitter c.args.piece.now c.in-Ok.advanced.taken None (unfinished_of old.heard c.advance.new.self.pending) law by waits unfinished refl);
      bounded = c.requires.sound.bounded;
    }

-- It says that a frame lies in the piece.

pub returns-in-Piece-clause-lent : goal.returns-in-Piece-clause-lent
returns-in-Piece-clause-lent c =
    let old = c.args.self.now in
    let role = role_at old in
    let config = config_view old.connection.settings in
    let piece = c.args.piece.now in
    let octets = c.in-Ok.advanced.taken in
    let frame = lent c.in-Piece.frame in
    let said = c.receive_lent-answer.result in
    let r = reads role (connection_end old.connection).phase c.requires.reads in
    let none : old.heard ≡ 0 = c.requires.sound.fields.opened r.opened in
    let by = fed_by role (connection_end old.connection) old.heard old.splitter old.outbox.output piece c.requires.reads c.requires.sound.fields c.requires.sound.holds (λ i. omega (arith, c.type_inv.piece i)) in
    let after = after_place old.splitter piece c.advance.result c.in-Ok.advanced c.in-Some.place c.advance.new.self c.advance.ensures.after c.in-Ok.is c.in-Some.is in
    let completes : Completes old.splitter (take octets piece) frame = piece_place c.in-Some.place c.advance.new.self.given c.in-Piece.frame (Completes old.splitter (take octets piece)) c.in-Piece.is (subst (λ o. IfSome o (λ p. OfGiven p c.advance.new.self.given (Completes old.splitter (take octets piece)))) c.in-Some.is c.in-Ok.ensures.frame) in
    let pending : c.tune.new.splitter.pending ≡ [] = ap (λ (s : Stream). s.pending) c.tune.ensures ∙ ap (λ (s : Stream). s.pending) after in
    let law = c.pieces_are_split.ensures.frame role config (endpoint_view old) old.splitter piece octets frame in
    let there : Some (reading_view c.of-reading.result) ≡ Some (reading frame) = ap (λ r. Some r) c.of-reading.ensures in
    let fed = after_feed role config (endpoint_view old) piece in
    let new : Endpoint = record { end = connection_end c.receive_lent-answer.new.self; unfinished = unfinished_of old.heard c.tune.new.splitter.pending; output = c.receive_lent-answer.new.outbox.output } in
    subst (λ (a : Result LentSeen CoreFault). IsLent role config a (endpoint_view old) piece fed new) (sym (c.step_of.ensures.seen c.tune.new.splitter.given))
    (lent_by role config said octets frame.channel (Some (reading_view c.of-reading.result)) (endpoint_view old) piece fed new
    (λ seen lends. frame_lent role config (endpoint_view old) old.splitter piece octets frame said seen (connection_end c.receive_lent-answer.new.self) (unfinished_of old.heard c.tune.new.splitter.pending) c.receive_lent-answer.new.outbox
    law by c.in-Ok.ensures.within completes c.receive_lent-answer.ensures.receives.said c.receive_lent-answer.ensures.receives.end (none_unfinished old.heard c.tune.new.splitter.pending none pending) c.receive_lent-answer.ensures.receives.output lends)
    (if_told said _ (λ report. LendsOf role config (endpoint_view old) piece fed (told_of frame.channel (Some (reading_view c.of-reading.result)) report))
    (λ report told. lends_of_frame role config (endpoint_view old) piece fed octets frame (told_of frame.channel (Some (reading_view c.of-reading.result)) report) c.judged_is_said.ensures.one c.requires.reads (law by c.in-Ok.ensures.within completes)
    (whole_of old.splitter (endpoint_view old) (take octets piece) frame by.splits completes)
    (ap (λ r. told_of frame.channel r report) there ∙ told))
    c.receive_lent-answer.ensures.told))

pub returns-in-Piece-clause-sound : goal.returns-in-Piece-clause-sound
returns-in-Piece-clause-sound c =
    let old = c.args.self.now in
    let role = role_at old in
    let config = config_view old.connection.settings in
    let piece = c.args.piece.now in
    let octets = c.in-Ok.advanced.taken in
    let frame = lent c.in-Piece.frame in
    let said = c.receive_lent-answer.result in
    let r = reads role (connection_end old.connection).phase c.requires.reads in
    let none : old.heard ≡ 0 = c.requires.sound.fields.opened r.opened in
    let by = fed_by role (connection_end old.connection) old.heard old.splitter old.outbox.output piece c.requires.reads c.requires.sound.fields c.requires.sound.holds (λ i. omega (arith, c.type_inv.piece i)) in
    let after = after_place old.splitter piece c.advance.result c.in-Ok.advanced c.in-Some.place c.advance.new.self c.advance.ensures.after c.in-Ok.is c.in-Some.is in
    let completes : Completes old.splitter (take octets piece) frame = piece_place c.in-Some.place c.advance.new.self.given c.in-Piece.frame (Completes old.splitter (take octets piece)) c.in-Piece.is (subst (λ o. IfSome o (λ p. OfGiven p c.advance.new.self.given (Completes old.splitter (take octets piece)))) c.in-Some.is c.in-Ok.ensures.frame) in
    let pending : c.tune.new.splitter.pending ≡ [] = ap (λ (s : Stream). s.pending) c.tune.ensures ∙ ap (λ (s : Stream). s.pending) after in
    let law = c.pieces_are_split.ensures.frame role config (endpoint_view old) old.splitter piece octets frame in
    frame_sound old (record { connection = c.receive_lent-answer.new.self; splitter = c.tune.new.splitter; heard = old.heard; outbox = c.receive_lent-answer.new.outbox; tally = c.receive_lent-answer.new.tally }) piece octets frame said c.advance.new.self
    c.requires.sound c.requires.reads c.receive_lent-answer.ensures.receives.settings refl
    (c.agreed_is_within.ensures.frame role config (connection_end old.connection) frame) (c.unfinished_is_held.ensures.feed role config (endpoint_view old) piece) (c.ends_are_bounded.ensures.frame role config (connection_end old.connection) frame)
    by (ap (λ (s : Stream). s.pending) after) (ap (λ (s : Stream). s.fault) after) c.tune.ensures c.receive_lent-answer.ensures.receives.end c.receive_lent-answer.ensures.receives.output
    (frame_stands role config (endpoint_view old) old.splitter piece octets frame said (connection_end c.receive_lent-answer.new.self) (unfinished_of old.heard c.tune.new.splitter.pending) c.receive_lent-answer.new.outbox
    law by c.in-Ok.ensures.within completes c.receive_lent-answer.ensures.receives.said c.receive_lent-answer.ensures.receives.end (none_unfinished old.heard c.tune.new.splitter.pending none pending) c.receive_lent-answer.ensures.receives.output)

pub returns-in-Piece-clause-in_place : goal.returns-in-Piece-clause-in_place
returns-in-Piece-clause-in_place c = λ drops.
    let old = c.args.self.now in
    let role = role_at old in
    let config = config_view old.connection.settings in
    let piece = c.args.piece.now in
    let octets = c.in-Ok.advanced.taken in
    let frame = lent c.in-Piece.frame in
    let said = c.receive_lent-answer.result in
    let r = reads role (connection_end old.connection).phase c.requires.reads in
    let none : old.heard ≡ 0 = c.requires.sound.fields.opened r.opened in
    let by = fed_by role (connection_end old.connection) old.heard old.splitter old.outbox.output piece c.requires.reads c.requires.sound.fields c.requires.sound.holds (λ i. omega (arith, c.type_inv.piece i)) in
    let after = after_place old.splitter piece c.advance.result c.in-Ok.advanced c.in-Some.place c.advance.new.self c.advance.ensures.after c.in-Ok.is c.in-Some.is in
    let completes : Completes old.splitter (take octets piece) frame = piece_place c.in-Some.place c.advance.new.self.given c.in-Piece.frame (Completes old.splitter (take octets piece)) c.in-Piece.is (subst (λ o. IfSome o (λ p. OfGiven p c.advance.new.self.given (Completes old.splitter (take octets piece)))) c.in-Some.is c.in-Ok.ensures.frame) in
    let starts = none_pending role (connection_end old.connection) old.heard old.splitter old.outbox.output piece c.requires.sound.fields drops in
    c.step_of.ensures.ok
    (c.receive_lent-answer.ensures.receives.alone (given_dropped role (endpoint_view old) old.splitter piece octets frame c.one_frame_at_start.ensures drops starts completes))

pub receive_lent-answer-requires-clause-taking : goal.receive_lent-answer-requires-clause-taking
receive_lent-answer-requires-clause-taking c = takes (role_at c.args.self.now) (connection_end c.args.self.now.connection) c.args.self.now.heard c.args.self.now.splitter c.requires.sound.fields c.requires.reads

pub receive_lent-answer-requires-clause-says : goal.receive_lent-answer-requires-clause-says
receive_lent-answer-requires-clause-says c = c.of-reading.ensures

pub receive_lent-answer-requires-clause-lends : goal.receive_lent-answer-requires-clause-lends
receive_lent-answer-requires-clause-lends c = c.requires.lends

pub receive_lent-answer-requires-clause-staged : goal.receive_lent-answer-requires-clause-staged
receive_lent-answer-requires-clause-staged c = c.requires.sound.staged

pub tune-requires-clause-fits : goal.tune-requires-clause-fits
tune-requires-clause-fits c =
    let old = c.args.self.now in
    let role = role_at old in
    let config = config_view old.connection.settings in
    let piece = c.args.piece.now in
    let octets = c.in-Ok.advanced.taken in
    let frame = lent c.in-Piece.frame in
    let said = c.receive_lent-answer.result in
    let r = reads role (connection_end old.connection).phase c.requires.reads in
    let none : old.heard ≡ 0 = c.requires.sound.fields.opened r.opened in
    let by = fed_by role (connection_end old.connection) old.heard old.splitter old.outbox.output piece c.requires.reads c.requires.sound.fields c.requires.sound.holds (λ i. omega (arith, c.type_inv.piece i)) in
    let after = after_place old.splitter piece c.advance.result c.in-Ok.advanced c.in-Some.place c.advance.new.self c.advance.ensures.after c.in-Ok.is c.in-Some.is in
    let completes : Completes old.splitter (take octets piece) frame = piece_place c.in-Some.place c.advance.new.self.given c.in-Piece.frame (Completes old.splitter (take octets piece)) c.in-Piece.is (subst (λ o. IfSome o (λ p. OfGiven p c.advance.new.self.given (Completes old.splitter (take octets piece)))) c.in-Some.is c.in-Ok.ensures.frame) in
    let next = left_by_frame role config said (connection_end old.connection) frame in
    let left = connection_end c.receive_lent-answer.new.self in
    (frame_leaves role config (connection_end old.connection) (standing_in next left) frame (ran_out said) c.requires.sound.writes
    (c.agreed_is_within.ensures.frame role config (connection_end old.connection) frame) (c.requires.sound.fields.awaited r.opened) c.requires.sound.fields.agreed (stands_in next left c.receive_lent-answer.ensures.receives.end)).0

pub tune-requires-clause-pending : goal.tune-requires-clause-pending
tune-requires-clause-pending c =
    let old = c.args.self.now in
    ap (λ (s : Stream). s.pending) (after_place old.splitter c.args.piece.now c.advance.result c.in-Ok.advanced c.in-Some.place c.advance.new.self c.advance.ensures.after c.in-Ok.is c.in-Some.is)

-- It says that one lies in the buffer.

pub returns-in-Buffer-clause-lent : goal.returns-in-Buffer-clause-lent
returns-in-Buffer-clause-lent c =
    let old = c.args.self.now in
    let role = role_at old in
    let config = config_view old.connection.settings in
    let piece = c.args.piece.now in
    let octets = c.in-Ok.advanced.taken in
    let frame = lent c.buffered_frame-frame.result in
    let said = c.receive_lent-answer-in-Buffer.result in
    let r = reads role (connection_end old.connection).phase c.requires.reads in
    let none : old.heard ≡ 0 = c.requires.sound.fields.opened r.opened in
    let by = fed_by role (connection_end old.connection) old.heard old.splitter old.outbox.output piece c.requires.reads c.requires.sound.fields c.requires.sound.holds (λ i. omega (arith, c.type_inv.piece i)) in
    let after = after_place old.splitter piece c.advance.result c.in-Ok.advanced c.in-Some.place c.advance.new.self c.advance.ensures.after c.in-Ok.is c.in-Some.is in
    let completes : Completes old.splitter (take octets piece) frame = given_place c.in-Some.place c.advance.new.self.given (lent c.buffered_frame-frame.result) (Completes old.splitter (take octets piece)) c.in-Buffer.is c.buffered_frame-frame.ensures (subst (λ o. IfSome o (λ p. OfGiven p c.advance.new.self.given (Completes old.splitter (take octets piece)))) c.in-Some.is c.in-Ok.ensures.frame) in
    let pending : c.tune-in-Buffer.new.splitter.pending ≡ [] = ap (λ (s : Stream). s.pending) c.tune-in-Buffer.ensures ∙ ap (λ (s : Stream). s.pending) after in
    let law = c.pieces_are_split.ensures.frame role config (endpoint_view old) old.splitter piece octets frame in
    let given : c.tune-in-Buffer.new.splitter.given ≡ Some frame = ap (λ (s : Stream). s.given) c.tune-in-Buffer.ensures ∙ c.buffered_frame-frame.ensures in
    let there : read_in c.tune-in-Buffer.new.splitter.given ≡ Some (reading frame) = ap read_in given in
    let fed = after_feed role config (endpoint_view old) piece in
    let new : Endpoint = record { end = connection_end c.receive_lent-answer-in-Buffer.new.self; unfinished = unfinished_of old.heard c.tune-in-Buffer.new.splitter.pending; output = c.receive_lent-answer-in-Buffer.new.outbox.output } in
    subst (λ (a : Result LentSeen CoreFault). IsLent role config a (endpoint_view old) piece fed new) (sym (c.step_buffered.ensures.seen c.tune-in-Buffer.new.splitter.given))
    (lent_by role config said octets frame.channel (read_in c.tune-in-Buffer.new.splitter.given) (endpoint_view old) piece fed new
    (λ seen lends. frame_lent role config (endpoint_view old) old.splitter piece octets frame said seen (connection_end c.receive_lent-answer-in-Buffer.new.self) (unfinished_of old.heard c.tune-in-Buffer.new.splitter.pending) c.receive_lent-answer-in-Buffer.new.outbox
    law by c.in-Ok.ensures.within completes c.receive_lent-answer-in-Buffer.ensures.receives.said c.receive_lent-answer-in-Buffer.ensures.receives.end (none_unfinished old.heard c.tune-in-Buffer.new.splitter.pending none pending) c.receive_lent-answer-in-Buffer.ensures.receives.output lends)
    (if_told said _ (λ report. LendsOf role config (endpoint_view old) piece fed (told_of frame.channel (read_in c.tune-in-Buffer.new.splitter.given) report))
    (λ report told. lends_of_frame role config (endpoint_view old) piece fed octets frame (told_of frame.channel (read_in c.tune-in-Buffer.new.splitter.given) report) c.judged_is_said.ensures.one c.requires.reads (law by c.in-Ok.ensures.within completes)
    (whole_of old.splitter (endpoint_view old) (take octets piece) frame by.splits completes)
    (ap (λ r. told_of frame.channel r report) there ∙ told))
    c.receive_lent-answer-in-Buffer.ensures.told))

pub returns-in-Buffer-clause-sound : goal.returns-in-Buffer-clause-sound
returns-in-Buffer-clause-sound c =
    let old = c.args.self.now in
    let role = role_at old in
    let config = config_view old.connection.settings in
    let piece = c.args.piece.now in
    let octets = c.in-Ok.advanced.taken in
    let frame = lent c.buffered_frame-frame.result in
    let said = c.receive_lent-answer-in-Buffer.result in
    let r = reads role (connection_end old.connection).phase c.requires.reads in
    let none : old.heard ≡ 0 = c.requires.sound.fields.opened r.opened in
    let by = fed_by role (connection_end old.connection) old.heard old.splitter old.outbox.output piece c.requires.reads c.requires.sound.fields c.requires.sound.holds (λ i. omega (arith, c.type_inv.piece i)) in
    let after = after_place old.splitter piece c.advance.result c.in-Ok.advanced c.in-Some.place c.advance.new.self c.advance.ensures.after c.in-Ok.is c.in-Some.is in
    let completes : Completes old.splitter (take octets piece) frame = given_place c.in-Some.place c.advance.new.self.given (lent c.buffered_frame-frame.result) (Completes old.splitter (take octets piece)) c.in-Buffer.is c.buffered_frame-frame.ensures (subst (λ o. IfSome o (λ p. OfGiven p c.advance.new.self.given (Completes old.splitter (take octets piece)))) c.in-Some.is c.in-Ok.ensures.frame) in
    let pending : c.tune-in-Buffer.new.splitter.pending ≡ [] = ap (λ (s : Stream). s.pending) c.tune-in-Buffer.ensures ∙ ap (λ (s : Stream). s.pending) after in
    let law = c.pieces_are_split.ensures.frame role config (endpoint_view old) old.splitter piece octets frame in
    frame_sound old (record { connection = c.receive_lent-answer-in-Buffer.new.self; splitter = c.tune-in-Buffer.new.splitter; heard = old.heard; outbox = c.receive_lent-answer-in-Buffer.new.outbox; tally = c.receive_lent-answer-in-Buffer.new.tally }) piece octets frame said c.advance.new.self
    c.requires.sound c.requires.reads c.receive_lent-answer-in-Buffer.ensures.receives.settings refl
    (c.agreed_is_within.ensures.frame role config (connection_end old.connection) frame) (c.unfinished_is_held.ensures.feed role config (endpoint_view old) piece) (c.ends_are_bounded.ensures.frame role config (connection_end old.connection) frame)
    by (ap (λ (s : Stream). s.pending) after) (ap (λ (s : Stream). s.fault) after) c.tune-in-Buffer.ensures c.receive_lent-answer-in-Buffer.ensures.receives.end c.receive_lent-answer-in-Buffer.ensures.receives.output
    (frame_stands role config (endpoint_view old) old.splitter piece octets frame said (connection_end c.receive_lent-answer-in-Buffer.new.self) (unfinished_of old.heard c.tune-in-Buffer.new.splitter.pending) c.receive_lent-answer-in-Buffer.new.outbox
    law by c.in-Ok.ensures.within completes c.receive_lent-answer-in-Buffer.ensures.receives.said c.receive_lent-answer-in-Buffer.ensures.receives.end (none_unfinished old.heard c.tune-in-Buffer.new.splitter.pending none pending) c.receive_lent-answer-in-Buffer.ensures.receives.output)

pub returns-in-Buffer-clause-in_place : goal.returns-in-Buffer-clause-in_place
returns-in-Buffer-clause-in_place c = λ drops.
    let old = c.args.self.now in
    let role = role_at old in
    let config = config_view old.connection.settings in
    let piece = c.args.piece.now in
    let octets = c.in-Ok.advanced.taken in
    let frame = lent c.buffered_frame-frame.result in
    let said = c.receive_lent-answer-in-Buffer.result in
    let r = reads role (connection_end old.connection).phase c.requires.reads in
    let none : old.heard ≡ 0 = c.requires.sound.fields.opened r.opened in
    let by = fed_by role (connection_end old.connection) old.heard old.splitter old.outbox.output piece c.requires.reads c.requires.sound.fields c.requires.sound.holds (λ i. omega (arith, c.type_inv.piece i)) in
    let after = after_place old.splitter piece c.advance.result c.in-Ok.advanced c.in-Some.place c.advance.new.self c.advance.ensures.after c.in-Ok.is c.in-Some.is in
    let completes : Completes old.splitter (take octets piece) frame = given_place c.in-Some.place c.advance.new.self.given (lent c.buffered_frame-frame.result) (Completes old.splitter (take octets piece)) c.in-Buffer.is c.buffered_frame-frame.ensures (subst (λ o. IfSome o (λ p. OfGiven p c.advance.new.self.given (Completes old.splitter (take octets piece)))) c.in-Some.is c.in-Ok.ensures.frame) in
    let starts = none_pending role (connection_end old.connection) old.heard old.splitter old.outbox.output piece c.requires.sound.fields drops in
    c.step_buffered.ensures.ok
    (c.receive_lent-answer-in-Buffer.ensures.receives.alone (given_dropped role (endpoint_view old) old.splitter piece octets frame c.one_frame_at_start.ensures drops starts completes))

pub receive_lent-answer-requires-in-Buffer-clause-taking : goal.receive_lent-answer-requires-in-Buffer-clause-taking
receive_lent-answer-requires-in-Buffer-clause-taking c = takes (role_at c.args.self.now) (connection_end c.args.self.now.connection) c.args.self.now.heard c.args.self.now.splitter c.requires.sound.fields c.requires.reads

pub receive_lent-answer-requires-in-Buffer-clause-says : goal.receive_lent-answer-requires-in-Buffer-clause-says
receive_lent-answer-requires-in-Buffer-clause-says c = c.of-reading-in-Buffer.ensures

pub receive_lent-answer-requires-in-Buffer-clause-lends : goal.receive_lent-answer-requires-in-Buffer-clause-lends
receive_lent-answer-requires-in-Buffer-clause-lends c = c.requires.lends

pub receive_lent-answer-requires-in-Buffer-clause-staged : goal.receive_lent-answer-requires-in-Buffer-clause-staged
receive_lent-answer-requires-in-Buffer-clause-staged c = c.requires.sound.staged

pub tune-requires-in-Buffer-clause-fits : goal.tune-requires-in-Buffer-clause-fits
tune-requires-in-Buffer-clause-fits c =
    let old = c.args.self.now in
    let role = role_at old in
    let config = config_view old.connection.settings in
    let piece = c.args.piece.now in
    let octets = c.in-Ok.advanced.taken in
    let frame = lent c.buffered_frame-frame.result in
    let said = c.receive_lent-answer-in-Buffer.result in
    let r = reads role (connection_end old.connection).phase c.requires.reads in
    let none : old.heard ≡ 0 = c.requires.sound.fields.opened r.opened in
    let by = fed_by role (connection_end old.connection) old.heard old.splitter old.outbox.output piece c.requires.reads c.requires.sound.fields c.requires.sound.holds (λ i. omega (arith, c.type_inv.piece i)) in
    let after = after_place old.splitter piece c.advance.result c.in-Ok.advanced c.in-Some.place c.advance.new.self c.advance.ensures.after c.in-Ok.is c.in-Some.is in
    let completes : Completes old.splitter (take octets piece) frame = given_place c.in-Some.place c.advance.new.self.given (lent c.buffered_frame-frame.result) (Completes old.splitter (take octets piece)) c.in-Buffer.is c.buffered_frame-frame.ensures (subst (λ o. IfSome o (λ p. OfGiven p c.advance.new.self.given (Completes old.splitter (take octets piece)))) c.in-Some.is c.in-Ok.ensures.frame) in
    let next = left_by_frame role config said (connection_end old.connection) frame in
    let left = connection_end c.receive_lent-answer-in-Buffer.new.self in
    (frame_leaves role config (connection_end old.connection) (standing_in next left) frame (ran_out said) c.requires.sound.writes
    (c.agreed_is_within.ensures.frame role config (connection_end old.connection) frame) (c.requires.sound.fields.awaited r.opened) c.requires.sound.fields.agreed (stands_in next left c.receive_lent-answer-in-Buffer.ensures.receives.end)).0

pub tune-requires-in-Buffer-clause-pending : goal.tune-requires-in-Buffer-clause-pending
tune-requires-in-Buffer-clause-pending c =
    let old = c.args.self.now in
    ap (λ (s : Stream). s.pending) (after_place old.splitter c.args.piece.now c.advance.result c.in-Ok.advanced c.in-Some.place c.advance.new.self c.advance.ensures.after c.in-Ok.is c.in-Some.is)

pub buffered_frame-frame-requires : goal.buffered_frame-frame-requires
buffered_frame-frame-requires c =
    let old = c.args.self.now in
    let piece = c.args.piece.now in
    let octets = c.in-Ok.advanced.taken in
    λ none. none_given c.in-Some.place (Completes old.splitter (take octets piece)) c.in-Buffer.is
    (subst (λ g. OfGiven c.in-Some.place g (Completes old.splitter (take octets piece))) none
    (subst (λ o. IfSome o (λ p. OfGiven p c.advance.new.self.given (Completes old.splitter (take octets piece)))) c.in-Some.is c.in-Ok.ensures.frame))

-- What is counted and blamed.

pub returns-in_default-clause-tally : goal.returns-in_default-clause-tally
returns-in_default-clause-tally c =
    let old = c.args.self.now in
    let role = role_at old in
    let piece = c.args.piece.now in
    let octets = c.in-Ok.advanced.taken in
    let by = fed_by role (connection_end old.connection) old.heard old.splitter old.outbox.output piece c.requires.reads c.requires.sound.fields c.requires.sound.holds (λ i. omega (arith, c.type_inv.piece i)) in
    let waits : Waits old.splitter piece octets = subst (λ o. IfNone o (Waits old.splitter piece octets)) c.in_default.is c.in-Ok.ensures.rest in
    blames_of_rest role _ (endpoint_view old) piece _ octets _ _ c.judged_is_said.ensures.one c.requires.reads
    (c.pieces_are_split.ensures.rest role (config_view old.connection.settings) (endpoint_view old) old.splitter piece octets by waits) waits.all
    (rest_of old.splitter (endpoint_view old) piece octets by.splits waits) refl c.count.ensures

pub returns-in-Piece-clause-tally : goal.returns-in-Piece-clause-tally
returns-in-Piece-clause-tally c =
    let old = c.args.self.now in
    let role = role_at old in
    let config = config_view old.connection.settings in
    let piece = c.args.piece.now in
    let octets = c.in-Ok.advanced.taken in
    let frame = lent c.in-Piece.frame in
    let by = fed_by role (connection_end old.connection) old.heard old.splitter old.outbox.output piece c.requires.reads c.requires.sound.fields c.requires.sound.holds (λ i. omega (arith, c.type_inv.piece i)) in
    let completes : Completes old.splitter (take octets piece) frame = piece_place c.in-Some.place c.advance.new.self.given c.in-Piece.frame (Completes old.splitter (take octets piece)) c.in-Piece.is (subst (λ o. IfSome o (λ p. OfGiven p c.advance.new.self.given (Completes old.splitter (take octets piece)))) c.in-Some.is c.in-Ok.ensures.frame) in
    blames_as role c.receive_lent-answer.result c.step_of.result (endpoint_view old) piece _ _ _ c.step_of.ensures.code c.step_of.ensures.memory
    (blames_of_frame role config c.receive_lent-answer.result (endpoint_view old) piece _ octets frame _ _ _ c.judged_is_said.ensures.one c.requires.reads
    (c.pieces_are_split.ensures.frame role config (endpoint_view old) old.splitter piece octets frame by c.in-Ok.ensures.within completes)
    (whole_of old.splitter (endpoint_view old) (take octets piece) frame by.splits completes) c.count.ensures c.receive_lent-answer.ensures.tally)

pub returns-in-Buffer-clause-tally : goal.returns-in-Buffer-clause-tally
returns-in-Buffer-clause-tally c =
    let old = c.args.self.now in
    let role = role_at old in
    let config = config_view old.connection.settings in
    let piece = c.args.piece.now in
    let octets = c.in-Ok.advanced.taken in
    let frame = lent c.buffered_frame-frame.result in
    let by = fed_by role (connection_end old.connection) old.heard old.splitter old.outbox.output piece c.requires.reads c.requires.sound.fields c.requires.sound.holds (λ i. omega (arith, c.type_inv.piece i)) in
    let completes : Completes old.splitter (take octets piece) frame = given_place c.in-Some.place c.advance.new.self.given (lent c.buffered_frame-frame.result) (Completes old.splitter (take octets piece)) c.in-Buffer.is c.buffered_frame-frame.ensures (subst (λ o. IfSome o (λ p. OfGiven p c.advance.new.self.given (Completes old.splitter (take octets piece)))) c.in-Some.is c.in-Ok.ensures.frame) in
    blames_as role c.receive_lent-answer-in-Buffer.result c.step_buffered.result (endpoint_view old) piece _ _ _ c.step_buffered.ensures.code c.step_buffered.ensures.memory
    (blames_of_frame role config c.receive_lent-answer-in-Buffer.result (endpoint_view old) piece _ octets frame _ _ _ c.judged_is_said.ensures.one c.requires.reads
    (c.pieces_are_split.ensures.frame role config (endpoint_view old) old.splitter piece octets frame by c.in-Ok.ensures.within completes)
    (whole_of old.splitter (endpoint_view old) (take octets piece) frame by.splits completes) c.count.ensures c.receive_lent-answer-in-Buffer.ensures.tally)

pub blame_octets-requires : goal.blame_octets-requires
blame_octets-requires c = framing_broken c.in-Err.fault.kind c.stop_lent-answer.result c.stop_lent-answer.ensures.said

pub returns-in-Err-clause-tally : goal.returns-in-Err-clause-tally
returns-in-Err-clause-tally c =
    let old = c.args.self.now in
    let role = role_at old in
    let config = config_view old.connection.settings in
    let piece = c.args.piece.now in
    let kind = c.in-Err.fault.kind in
    let r = reads role (connection_end old.connection).phase c.requires.reads in
    let none : old.heard ≡ 0 = c.requires.sound.fields.opened r.opened in
    let by = fed_by role (connection_end old.connection) old.heard old.splitter old.outbox.output piece c.requires.reads c.requires.sound.fields c.requires.sound.holds (λ i. omega (arith, c.type_inv.piece i)) in
    let short : c.taken_to_fault-octets.result < 2 ^ 64 = omega (arith, c.taken_to_fault-octets.type_inv) in
    let after = ap (λ (s : Stream). s.taken_to_fault) (c.advance.ensures.after ∙ ap (after_advance old.splitter piece) c.in-Err.is) in
    let owed = puts_alone (owed_at_fault config (connection_end old.connection) kind) in
    let account = λ (ran : is_out_of_memory c.stop_lent-answer.result ≡ false).
    account_of_stop role config (endpoint_view old) old.splitter piece kind c.in-Err.fault.at c.taken_to_fault-octets.result owed c.judged_is_said.ensures.one
    (c.pieces_are_split.ensures.fault role config (endpoint_view old) (record old.splitter { taken = 0 }) piece) c.faults_are_judged.ensures.judged by short
    (λ e. false≢true (sym ran ∙ c.stop_lent-answer.ensures.memory e))
    (first_fault old.splitter piece c.in-Err.fault (c.requires.sound.fields.ready r.octets).running c.in-Err.ensures.fault) (c.taken_to_fault-octets.ensures ∙ after) refl in
    blames_of_fault role config c.stop_lent-answer.result (endpoint_view old) piece _ _ c.pending-pending.result owed _ _ c.requires.reads account refl
    (c.pending-pending.ensures.value ∙ ap (λ (xs : List ℕ). length xs) (sym (unfinished_is old.heard old.splitter.pending none))) c.blame_octets.ensures

-- What is heard.

pub returns-in-Err-clause-heard : goal.returns-in-Err-clause-heard
returns-in-Err-clause-heard c =
    let old = c.args.self.now in
    fault_heard (role_at old) (config_view old.connection.settings) c.stop_lent-answer.result (endpoint_view old) c.args.piece.now _ _

pub returns-in_default-clause-heard : goal.returns-in_default-clause-heard
returns-in_default-clause-heard c =
    let old = c.args.self.now in
    let role = role_at old in
    let config = config_view old.connection.settings in
    let piece = c.args.piece.now in
    let octets = c.in-Ok.advanced.taken in
    let by = fed_by role (connection_end old.connection) old.heard old.splitter old.outbox.output piece c.requires.reads c.requires.sound.fields c.requires.sound.holds (λ i. omega (arith, c.type_inv.piece i)) in
    let waits : Waits old.splitter piece octets = subst (λ o. IfNone o (Waits old.splitter piece octets)) c.in_default.is c.in-Ok.ensures.rest in
    rest_heard role config _ (endpoint_view old) piece _ octets _ c.judged_is_said.ensures.one c.requires.reads
    (c.pieces_are_split.ensures.rest role config (endpoint_view old) old.splitter piece octets by waits)
    (ap (λ xs. (endpoint_view old).unfinished ++ xs) (sym (ap (λ n. take n piece) waits.all ∙ take-length piece)))
    (rest_of old.splitter (endpoint_view old) piece octets by.splits waits)

pub returns-in-Piece-clause-heard : goal.returns-in-Piece-clause-heard
returns-in-Piece-clause-heard c =
    let old = c.args.self.now in
    let role = role_at old in
    let config = config_view old.connection.settings in
    let piece = c.args.piece.now in
    let octets = c.in-Ok.advanced.taken in
    let frame = lent c.in-Piece.frame in
    let by = fed_by role (connection_end old.connection) old.heard old.splitter old.outbox.output piece c.requires.reads c.requires.sound.fields c.requires.sound.holds (λ i. omega (arith, c.type_inv.piece i)) in
    let completes : Completes old.splitter (take octets piece) frame = piece_place c.in-Some.place c.advance.new.self.given c.in-Piece.frame (Completes old.splitter (take octets piece)) c.in-Piece.is (subst (λ o. IfSome o (λ p. OfGiven p c.advance.new.self.given (Completes old.splitter (take octets piece)))) c.in-Some.is c.in-Ok.ensures.frame) in
    step_heard None c.receive_lent-answer.result c.step_of.result _ _ _ (c.step_of.ensures.seen None) role config (endpoint_view old) piece _ _ _
    (frame_heard role config c.receive_lent-answer.result (endpoint_view old) piece _ octets frame _ _ c.judged_is_said.ensures.one c.requires.reads
    (c.pieces_are_split.ensures.frame role config (endpoint_view old) old.splitter piece octets frame by c.in-Ok.ensures.within completes)
    (whole_of old.splitter (endpoint_view old) (take octets piece) frame by.splits completes)
    c.receive_lent-answer.ensures.receives.heard c.receive_lent-answer.ensures.receives.at_fault)

pub returns-in-Buffer-clause-heard : goal.returns-in-Buffer-clause-heard
returns-in-Buffer-clause-heard c =
    let old = c.args.self.now in
    let role = role_at old in
    let config = config_view old.connection.settings in
    let piece = c.args.piece.now in
    let octets = c.in-Ok.advanced.taken in
    let frame = lent c.buffered_frame-frame.result in
    let by = fed_by role (connection_end old.connection) old.heard old.splitter old.outbox.output piece c.requires.reads c.requires.sound.fields c.requires.sound.holds (λ i. omega (arith, c.type_inv.piece i)) in
    let completes : Completes old.splitter (take octets piece) frame = given_place c.in-Some.place c.advance.new.self.given (lent c.buffered_frame-frame.result) (Completes old.splitter (take octets piece)) c.in-Buffer.is c.buffered_frame-frame.ensures (subst (λ o. IfSome o (λ p. OfGiven p c.advance.new.self.given (Completes old.splitter (take octets piece)))) c.in-Some.is c.in-Ok.ensures.frame) in
    step_heard None c.receive_lent-answer-in-Buffer.result c.step_buffered.result _ _ _ (c.step_buffered.ensures.seen None) role config (endpoint_view old) piece _ _ _
    (frame_heard role config c.receive_lent-answer-in-Buffer.result (endpoint_view old) piece _ octets frame _ _ c.judged_is_said.ensures.one c.requires.reads
    (c.pieces_are_split.ensures.frame role config (endpoint_view old) old.splitter piece octets frame by c.in-Ok.ensures.within completes)
    (whole_of old.splitter (endpoint_view old) (take octets piece) frame by.splits completes)
    c.receive_lent-answer-in-Buffer.ensures.receives.heard c.receive_lent-answer-in-Buffer.ensures.receives.at_fault)
