-- What is decided at the connection is decided at the end.
use Rattle.std.proofs.Common.{false, refl}
use Rattle.amqp_core.specs.Connection.View.{connection_end}
use Rattle.amqp_core.specs.Asks.ControlView.{control_view}
use Rattle.amqp_core.specs.Asks.Controlled.{frames_by, verdict_for}
use Rattle.amqp_core.specs.End.EndpointView.{endpoint_view, role_at}
use Rattle.amqp_core.specs.Config.Settings.{config_view}
use Rattle.amqp_core.proofs.ControlLemmas.{accepts, accepted_sound, refuses, refused_sound}
use Rattle.amqp_core.proofs.endpoint.Endpoint.control.Goals as goal

pub returns-in-Ok-clause-accepted : goal.returns-in-Ok-clause-accepted
returns-in-Ok-clause-accepted c =
    let old = c.args.self.now in
    let role = role_at old in
    let config = config_view old.connection.settings in
    let said = control_view c.args.control in
    let frames = frames_by (verdict_for old.connection.settings (connection_end old.connection) said) in
    accepts old.connection.settings said (endpoint_view old) (connection_end c.control.new.self) old.outbox c.control.new.outbox c.in-Ok.ensures.accepted refl
    c.requires.writes (c.owed_read_back.ensures.all role config)
    (λ history fed written. c.controls_follow_octets.ensures.accepted role config (endpoint_view old) history fed written said frames)
    (λ history. c.controls_follow.ensures.history role config false (connection_end old.connection) history said)

pub returns-in-Ok-clause-sound : goal.returns-in-Ok-clause-sound
returns-in-Ok-clause-sound c =
    let old = c.args.self.now in
    accepted_sound (control_view c.args.control) old (record { connection = c.control.new.self; splitter = old.splitter; heard = old.heard; outbox = c.control.new.outbox; tally = old.tally })
    c.requires c.control.ensures.settings refl refl c.in-Ok.ensures.accepted

pub returns-in-Err-clause-refused : goal.returns-in-Err-clause-refused
returns-in-Err-clause-refused c =
    let old = c.args.self.now in
    refuses old.connection.settings (control_view c.args.control) c.in-Err.fault (endpoint_view old) (connection_end c.control.new.self) old.outbox c.control.new.outbox
    c.in-Err.ensures.refused refl
    (λ history. c.controls_follow.ensures.history (role_at old) (config_view old.connection.settings) false (connection_end old.connection) history (control_view c.args.control))

pub returns-in-Err-clause-sound : goal.returns-in-Err-clause-sound
returns-in-Err-clause-sound c =
    let old = c.args.self.now in
    refused_sound (control_view c.args.control) c.in-Err.fault old
    (record { connection = c.control.new.self; splitter = old.splitter; heard = old.heard; outbox = c.control.new.outbox; tally = old.tally })
    c.requires c.control.ensures.settings refl refl c.in-Err.ensures.refused (returns-in-Err-clause-refused c)
