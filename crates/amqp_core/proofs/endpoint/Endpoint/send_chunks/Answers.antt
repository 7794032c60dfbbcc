-- What is asked of the connection is asked of the end.
use Rattle.std.proofs.Common.{false, refl}
use Rattle.amqp_method.specs.HeaderView.{properties_view}
use Rattle.amqp_method.specs.MethodView.{method_view}
use Rattle.amqp_core.specs.Asks.Outcomes.{content_asked}
use Rattle.amqp_core.specs.Connection.View.{connection_end}
use Rattle.amqp_core.specs.End.EndpointView.{endpoint_view, role_at}
use Rattle.amqp_core.specs.Config.Settings.{config_view}
use Rattle.amqp_model.specs.End.Asks.{frames_asked}
use Rattle.amqp_core.proofs.AskedLemmas.{accepts, accepted_sound, refuses, refused_sound}
use Rattle.amqp_core.proofs.endpoint.Endpoint.send_chunks.Goals as goal

pub returns-in-Ok-clause-accepted : goal.returns-in-Ok-clause-accepted
returns-in-Ok-clause-accepted c =
    let old = c.args.self.now in
    let asked = content_asked c.args.number (method_view c.args.method.now) (properties_view c.args.properties.now) c.args.chunks.now in
    accepts old.connection.settings asked (endpoint_view old) (connection_end c.send_chunks.new.self) old.outbox c.send_chunks.new.outbox c.in-Ok.ensures.accepted refl c.requires.sound.fields.agreed
    (c.frames_fit.ensures.asked (role_at old) (connection_end old.connection) asked (frames_asked (connection_end old.connection) asked))
    (λ history fed written. c.octets_follow.ensures.accepted (role_at old) (config_view old.connection.settings) (endpoint_view old) history fed written asked (frames_asked (connection_end old.connection) asked))
    (λ history. c.ask_is_of_history.ensures (role_at old) (config_view old.connection.settings) false (connection_end old.connection) history asked)

pub returns-in-Ok-clause-sound : goal.returns-in-Ok-clause-sound
returns-in-Ok-clause-sound c =
    let old = c.args.self.now in
    let asked = content_asked c.args.number (method_view c.args.method.now) (properties_view c.args.properties.now) c.args.chunks.now in
    accepted_sound asked old (record { connection = c.send_chunks.new.self; splitter = old.splitter; heard = old.heard; outbox = c.send_chunks.new.outbox; tally = old.tally }) c.requires.sound c.send_chunks.ensures.settings refl refl c.in-Ok.ensures.accepted
    (c.unfinished_is_held.ensures.ask (role_at old) (config_view old.connection.settings) (endpoint_view old) asked)
    (c.agreed_is_within.ensures.ask (role_at old) (config_view old.connection.settings) (connection_end old.connection) asked (frames_asked (connection_end old.connection) asked))
    (returns-in-Ok-clause-accepted c)
    (c.ends_are_bounded.ensures.ask (role_at old) (config_view old.connection.settings) (connection_end old.connection) asked (frames_asked (connection_end old.connection) asked))

pub returns-in-Err-clause-refused : goal.returns-in-Err-clause-refused
returns-in-Err-clause-refused c =
    let old = c.args.self.now in
    let asked = content_asked c.args.number (method_view c.args.method.now) (properties_view c.args.properties.now) c.args.chunks.now in
    refuses old.connection.settings asked c.in-Err.fault (endpoint_view old) (connection_end c.send_chunks.new.self) old.outbox c.send_chunks.new.outbox c.in-Err.ensures.refused refl
    (λ config history. c.ask_is_of_history.ensures (role_at old) config false (connection_end old.connection) history asked)

pub returns-in-Err-clause-sound : goal.returns-in-Err-clause-sound
returns-in-Err-clause-sound c =
    let old = c.args.self.now in
    let asked = content_asked c.args.number (method_view c.args.method.now) (properties_view c.args.properties.now) c.args.chunks.now in
    refused_sound asked c.in-Err.fault old (record { connection = c.send_chunks.new.self; splitter = old.splitter; heard = old.heard; outbox = c.send_chunks.new.outbox; tally = old.tally }) c.requires.sound c.send_chunks.ensures.settings refl refl c.in-Err.ensures.refused (returns-in-Err-clause-refused c)
