-- Octets of the protocol header are compared with it.
use Rattle.std.proofs.Common.{◌≡◌, ◌+◌, ◌-◌, ◌<◌, length, Option, Some, None, refl, sym, ap, ◌∙◌, subst, arith}
use Rattle.std.proofs.lemmas.Bool.{true≢false}
use Rattle.amqp_model.specs.End.Channels.{End}
use Rattle.amqp_model.specs.End.Fitting.{IfAgreedFits}
use Rattle.amqp_outbox.specs.OutboxView.{Outgoing}
use Rattle.amqp_channel.specs.Channels.ChannelsView.{channels_view}
use Rattle.amqp_channel.specs.Events.PartsView.{parts_there}
use Rattle.amqp_channel.specs.declared.parts.EventParts.{EventParts}
use Rattle.amqp_core.specs.Faults.Blamed.{Tally, counted, octets_blamed}
use Rattle.amqp_core.specs.Connection.View.{connection_end}
use Rattle.amqp_core.specs.End.EndpointView.{endpoint_view, role_at}
use Rattle.amqp_core.specs.End.Feeding.{IsMessage}
use Rattle.amqp_core.specs.Config.Settings.{config_view}
use Rattle.amqp_core.specs.declared.owed.Owed.TheVariants as owed
use Rattle.amqp_core.proofs.AccountLemmas.{account_of_other, account_of_part, account_of_whole, came_fresh, came_owed}
use Rattle.amqp_core.proofs.GrowthLemmas.{greeting_grows}
use Rattle.amqp_core.proofs.BlameLemmas.{blames_nothing, blames_of_opening}
use Rattle.amqp_core.proofs.BoundLemmas.{bounded_failed, bounded_same}
use Rattle.amqp_core.proofs.FeedLemmas.{sound_with, fields_failed}
use Rattle.amqp_core.proofs.HearLemmas.{awaits_octets, heard_length, whole_fed, part_fed, other_fed, other_taken, piece_holds, fields_part, fields_greeted}
use Rattle.amqp_core.proofs.OpeningLemmas.{greets, nothing_agreed}
use Rattle.amqp_core.proofs.endpoint.Endpoint.hear.Goals as goal

pub returns-then-self-same-eq8-clause-fed : goal.returns-then-self-same-eq8-clause-fed
returns-then-self-same-eq8-clause-fed c =
    let old = c.args.self.now in
    whole_fed (role_at old) (config_view old.connection.settings) (parts_there c.put_in.new.place) (connection_end old.connection) (connection_end c.greet.new.self) old.heard c.going_on-same.result old.splitter.pending c.args.piece.now old.outbox.output c.greet.new.outbox.output
    (c.pieces_are_compared.ensures.ends (role_at old) (config_view old.connection.settings) (endpoint_view old) c.args.piece.now c.going_on-same.result) c.requires.awaits c.requires.sound.holds (c.requires.sound.fields.opening c.requires.awaits) c.going_on-same.ensures.within c.if-self-same-eq8.true c.going_on-same.ensures.same c.in-Ok.ensures.end (ap (λ (o : Outgoing). o.output) c.in-Ok.ensures.output) (ap parts_there c.put_in.ensures)

pub returns-then-self-same-eq8-clause-sound : goal.returns-then-self-same-eq8-clause-sound
returns-then-self-same-eq8-clause-sound c =
    let old = c.args.self.now in
    sound_with old.connection.settings (record { connection = c.greet.new.self; splitter = old.splitter; heard = 0; outbox = c.greet.new.outbox; tally = c.count.new.self }) c.greet.ensures.settings c.requires.sound.writes (ap (λ (o : Outgoing). o.staged) c.in-Ok.ensures.output)
    (fields_greeted (role_at old) (connection_end old.connection) (connection_end c.greet.new.self) (channels_view old.connection.channels) old.heard old.splitter c.requires.awaits (awaits_octets (role_at old) (connection_end old.connection).phase c.requires.awaits) (nothing_agreed (role_at old) old.connection.stage c.requires.awaits) c.requires.sound.fields
    (c.in-Ok.ensures.end ∙ greets (role_at old) (config_view old.connection.settings) old.connection.stage (channels_view old.connection.channels) c.requires.awaits))
    (piece_holds (role_at old) (config_view old.connection.settings) (endpoint_view old) _ c.args.piece.now _ (c.unfinished_is_held.ensures.feed (role_at old) (config_view old.connection.settings) (endpoint_view old) c.args.piece.now) c.requires.sound.holds (λ i. omega (arith, c.type_inv.piece i)) (returns-then-self-same-eq8-clause-fed c))
    (bounded_same (role_at old) (config_view old.connection.settings) (connection_end old.connection) (connection_end c.greet.new.self) (sym (ap (λ (e : End). e.channels) (c.in-Ok.ensures.end ∙ greets (role_at old) (config_view old.connection.settings) old.connection.stage (channels_view old.connection.channels) c.requires.awaits))) (awaits_octets (role_at old) (connection_end old.connection).phase c.requires.awaits) c.requires.sound.bounded)

pub returns-then-same-piece-clause-fed : goal.returns-then-same-piece-clause-fed
returns-then-same-piece-clause-fed c =
    let old = c.args.self.now in
    part_fed (role_at old) (config_view old.connection.settings) (parts_there c.args.account.now.parts) (connection_end old.connection) old.heard c.going_on-same.result old.splitter.pending c.args.piece.now old.outbox.output
    (c.pieces_are_compared.ensures.begins (role_at old) (config_view old.connection.settings) (endpoint_view old) c.args.piece.now) c.requires.awaits (c.requires.sound.fields.opening c.requires.awaits) c.if-same-piece.true (omega (arith, c.going_on-same.ensures.room, c.if-self-same-eq8.false)) c.going_on-same.ensures.same (ap parts_there c.requires.fresh.parts)

pub returns-then-same-piece-clause-sound : goal.returns-then-same-piece-clause-sound
returns-then-same-piece-clause-sound c =
    let old = c.args.self.now in
    record {
      writes = c.requires.sound.writes;
      staged = c.requires.sound.staged;
      fields = fields_part (role_at old) (connection_end old.connection) old.heard (old.heard + c.going_on-same.result) old.splitter c.requires.awaits c.requires.sound.fields (omega (arith, c.going_on-same.ensures.room, c.if-self-same-eq8.false));
      holds = piece_holds (role_at old) (config_view old.connection.settings) (endpoint_view old) _ c.args.piece.now _ (c.unfinished_is_held.ensures.feed (role_at old) (config_view old.connection.settings) (endpoint_view old) c.args.piece.now) c.requires.sound.holds (λ i. omega (arith, c.type_inv.piece i)) (returns-then-same-piece-clause-fed c);
      bounded = c.requires.sound.bounded;
    }

pub returns-clause-fed : goal.returns-clause-fed
returns-clause-fed c =
    let old = c.args.self.now in
    let room : old.heard + c.going_on-same.result < 8 = omega (arith, c.going_on-same.ensures.room, c.if-self-same-eq8.false) in
    let within : c.going_on-same.result < length c.args.piece.now = omega (arith, c.going_on-same.ensures.within, c.if-same-piece.false) in
    other_fed (role_at old) (config_view old.connection.settings) (connection_end old.connection) (connection_end c.fail.new.self) old.heard c.going_on-same.result old.splitter.pending c.args.piece.now old.outbox.output c.begin_with.new.self.output
    (c.pieces_are_compared.ensures.leaves (role_at old) (config_view old.connection.settings) (endpoint_view old) c.args.piece.now c.going_on-same.result) c.requires.awaits (c.requires.sound.fields.opening c.requires.awaits) c.requires.sound.fields.within within room c.going_on-same.ensures.same (c.going_on-same.ensures.differs within room) c.fail.ensures.end (ap (λ (o : Outgoing). o.output) c.in-Ok-begin_with.ensures.ok)

pub returns-clause-sound : goal.returns-clause-sound
returns-clause-sound c =
    let old = c.args.self.now in
    sound_with old.connection.settings (record { connection = c.fail.new.self; splitter = old.splitter; heard = 0; outbox = c.begin_with.new.self; tally = c.blame_octets.new.self }) c.fail.ensures.settings c.requires.sound.writes (ap (λ (o : Outgoing). o.staged) c.in-Ok-begin_with.ensures.ok)
    (fields_failed (role_at old) (connection_end c.fail.new.self) 0 old.splitter (sym (ap (λ (e : End). e.phase) c.fail.ensures.end)) (subst IfAgreedFits (sym (ap (λ (e : End). e.agreed) c.fail.ensures.end)) c.requires.sound.fields.agreed) refl (c.requires.sound.fields.opening c.requires.awaits))
    (piece_holds (role_at old) (config_view old.connection.settings) (endpoint_view old) _ c.args.piece.now _ (c.unfinished_is_held.ensures.feed (role_at old) (config_view old.connection.settings) (endpoint_view old) c.args.piece.now) c.requires.sound.holds (λ i. omega (arith, c.type_inv.piece i)) (returns-clause-fed c))
    (bounded_failed (role_at old) (config_view old.connection.settings) (connection_end c.fail.new.self) (sym (ap (λ (e : End). e.phase) c.fail.ensures.end)))

pub returns-then-self-same-eq8-clause-grows : goal.returns-then-self-same-eq8-clause-grows
returns-then-self-same-eq8-clause-grows c =
    let old = c.args.self.now in
    greeting_grows (role_at old) (config_view old.connection.settings) old.outbox.output c.greet.new.outbox c.requires.sound.writes c.in-Ok.ensures.output

pub returns-then-same-piece-clause-account : goal.returns-then-same-piece-clause-account
returns-then-same-piece-clause-account c = λ ran.
    let old = c.args.self.now in
    account_of_part (role_at old) (config_view old.connection.settings) (parts_there c.args.account.now.parts) (endpoint_view old) _ c.args.piece.now c.going_on-same.result _ _ c.requires.awaits (ap parts_there c.requires.fresh.parts) (returns-then-same-piece-clause-fed c) refl
    (came_fresh old.connection.settings c.args.account.now (parts_there c.args.account.now.parts) c.requires.fresh (ap parts_there c.requires.fresh.parts))

pub returns-then-self-same-eq8-clause-account : goal.returns-then-self-same-eq8-clause-account
returns-then-self-same-eq8-clause-account c = λ ran.
    let old = c.args.self.now in
    account_of_whole (role_at old) (config_view old.connection.settings) (parts_there c.put_in.new.place) (endpoint_view old) _ c.args.piece.now c.going_on-same.result _ _ c.requires.awaits (ap parts_there c.put_in.ensures) (returns-then-self-same-eq8-clause-fed c) refl
    (came_owed old.connection.settings c.args.account.now (record { octets = c.going_on-same.result; took = c.args.account.now.took; owed = owed.Start; parts = c.put_in.new.place }) owed.Start (parts_there c.put_in.new.place) c.requires.fresh refl refl (ap parts_there c.put_in.ensures))

pub returns-then-self-same-eq8-clause-message : goal.returns-then-self-same-eq8-clause-message
returns-then-self-same-eq8-clause-message c = λ is. absurd (subst (λ (e : Option EventParts). IsMessage (parts_there e)) c.put_in.ensures is)

pub returns-then-same-piece-clause-message : goal.returns-then-same-piece-clause-message
returns-then-same-piece-clause-message c = λ is. absurd (subst (λ (e : Option EventParts). IsMessage (parts_there e)) c.requires.fresh.parts is)

pub returns-clause-account : goal.returns-clause-account
returns-clause-account c = λ ran.
    let old = c.args.self.now in
    let within : c.going_on-same.result < length c.args.piece.now = omega (arith, c.going_on-same.ensures.within, c.if-same-piece.false) in
    let room : old.heard + c.going_on-same.result < 8 = omega (arith, c.going_on-same.ensures.room, c.if-self-same-eq8.false) in
    account_of_other (role_at old) (config_view old.connection.settings) (endpoint_view old) _ c.args.piece.now _ _ c.requires.awaits (returns-clause-fed c)
    (sym (other_taken (role_at old) (config_view old.connection.settings) (connection_end old.connection) old.heard c.going_on-same.result old.splitter.pending c.args.piece.now old.outbox.output
    (c.pieces_are_compared.ensures.leaves (role_at old) (config_view old.connection.settings) (endpoint_view old) c.args.piece.now c.going_on-same.result) c.requires.awaits (c.requires.sound.fields.opening c.requires.awaits) c.requires.sound.fields.within within room c.going_on-same.ensures.same (c.going_on-same.ensures.differs within room)))
    (came_fresh old.connection.settings c.args.account.now None c.requires.fresh refl)

-- What is counted and blamed.

pub returns-then-self-same-eq8-clause-tally : goal.returns-then-self-same-eq8-clause-tally
returns-then-self-same-eq8-clause-tally c =
    let old = c.args.self.now in
    blames_of_opening (role_at old) _ (endpoint_view old) c.args.piece.now _ _ _ c.requires.awaits
    (λ ran. ap (λ (t : Tally). t.taken) c.count.ensures ∙ ap (λ n. counted old.tally.octets n) (returns-then-self-same-eq8-clause-account c ran).octets_are)
    (ap (λ (t : Tally). t.blame) c.count.ensures)

pub returns-then-same-piece-clause-tally : goal.returns-then-same-piece-clause-tally
returns-then-same-piece-clause-tally c =
    let old = c.args.self.now in
    blames_of_opening (role_at old) _ (endpoint_view old) c.args.piece.now _ _ _ c.requires.awaits
    (λ ran. ap (λ (t : Tally). t.taken) c.count-then-same-piece.ensures ∙ ap (λ n. counted old.tally.octets n) (returns-then-same-piece-clause-account c ran).octets_are)
    (ap (λ (t : Tally). t.blame) c.count-then-same-piece.ensures)

pub returns-clause-tally : goal.returns-clause-tally
returns-clause-tally c =
    let old = c.args.self.now in
    let many : old.heard ≡ length (endpoint_view old).unfinished = sym (heard_length old.heard old.splitter.pending (c.requires.sound.fields.opening c.requires.awaits) c.requires.sound.fields.within) in
    blames_of_opening (role_at old) _ (endpoint_view old) c.args.piece.now _ _ _ c.requires.awaits
    (λ ran. ap (λ (t : Tally). t.taken) c.blame_octets.ensures ∙ ap (λ n. counted old.tally.octets n) (returns-clause-account c ran).octets_are)
    (ap (λ (t : Tally). t.blame) c.blame_octets.ensures ∙ ap (λ n. Some (octets_blamed (old.tally.octets - n) None)) many)

pub returns-in_default-clause-tally : goal.returns-in_default-clause-tally
returns-in_default-clause-tally c =
    let old = c.args.self.now in
    blames_nothing (role_at old) _ (endpoint_view old) c.args.piece.now _ _ refl (λ takes ran. true≢false ran)

pub returns-in_default-begin_with-clause-tally : goal.returns-in_default-begin_with-clause-tally
returns-in_default-begin_with-clause-tally c =
    let old = c.args.self.now in
    blames_nothing (role_at old) _ (endpoint_view old) c.args.piece.now _ _ refl (λ takes ran. true≢false ran)
