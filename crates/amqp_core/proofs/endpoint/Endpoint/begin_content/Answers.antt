-- What is asked of the connection is asked of the end, and its output is passed.
use Rattle.std.proofs.Common.{◌≡◌, false, ℕ, [], ◌∷◌, ◌++◌, map, length, replicate, List, refl, sym, ap, ◌∙◌, subst}
use Rattle.std.proofs.lemmas.List.{length-replicate}
use Rattle.amqp_method.specs.HeaderView.{properties_view}
use Rattle.amqp_method.specs.MethodView.{method_view}
use Rattle.amqp_model.specs.End.Asks.{Ask, frame_max, frames_asked, payload_frame}
use Rattle.amqp_model.specs.Output.Outputs.{after_puts, output_octets}
use Rattle.amqp_model.specs.Stream.Endpoint as model
use Rattle.amqp_model.specs.Wire.Contents as contents
use Rattle.amqp_model.specs.Wire.Contents.{Payload, pieces, room_in}
use Rattle.amqp_outbox.specs.LentContent.{all_written}
use Rattle.amqp_outbox.specs.OutboxView.{Outgoing, only, with_output}
use Rattle.amqp_core.specs.Asks.Effects.{AcceptsAsk}
use Rattle.amqp_core.specs.Asks.Lent.{all_wrote}
use Rattle.amqp_core.specs.Asks.Outcomes.{content_asked, IsAccepted}
use Rattle.amqp_core.specs.Connection.View.{connection_end}
use Rattle.amqp_core.specs.End.EndpointView.{EndpointIsSound, endpoint_view, role_at}
use Rattle.amqp_core.specs.Config.Settings.{config_view}
use Rattle.amqp_core.specs.declared.endpoint.Endpoint.{Endpoint}
use Rattle.amqp_core.proofs.AskLemmas.{carries_if}
use Rattle.amqp_core.proofs.AskedLemmas.{accepts, accepted_sound, refuses, refused_sound}
use Rattle.amqp_core.proofs.LendingLemmas.{frames_on}
use Rattle.amqp_core.proofs.endpoint.Endpoint.begin_content.Goals as goal
use Rattle.amqp_core.proofs.endpoint.Endpoint.begin_content.Goals.{After-pass}

-- what is asked, with this body
abbrev pub asked_in : After-pass → (body : List ℕ) → Ask
asked_in c body = content_asked c.args.number (method_view c.args.method.now) (properties_view c.args.properties.now) body

-- The end between the ask and the write.

abbrev put_in : After-pass → (body : List ℕ) → Outgoing
put_in c body = only (after_puts (frames_asked (connection_end c.args.self.now.connection) (asked_in c body)) c.args.self.now.outbox.output)

abbrev between : After-pass → (body : List ℕ) → Endpoint
between c body = record { connection = c.begin_content.new.self; splitter = c.args.self.now.splitter; heard = c.args.self.now.heard; outbox = put_in c body; tally = c.args.self.now.tally }

accepted : (c : After-pass) (body : List ℕ) → length body ≡ c.args.size
    → IsAccepted c.args.self.now.connection.settings (asked_in c body) (connection_end c.args.self.now.connection) (connection_end c.begin_content.new.self) c.args.self.now.outbox (put_in c body)
accepted c body sized = record {
  allowed = c.in-Ok.ensures.allowed body sized;
  end_is = c.in-Ok.ensures.end body sized;
  output_is = refl;
  reads_back = c.in-Ok.ensures.reads_back body sized;
  made = carries_if (method_view c.args.method.now) c.requires.content;
}

accepts_it : (c : After-pass) (body : List ℕ) → length body ≡ c.args.size
    → AcceptsAsk (role_at c.args.self.now) (config_view c.args.self.now.connection.settings) (asked_in c body) (endpoint_view c.args.self.now) (endpoint_view (between c body))
accepts_it c body sized =
    let old = c.args.self.now in
    let asked = asked_in c body in
    accepts old.connection.settings asked (endpoint_view old) (connection_end c.begin_content.new.self) old.outbox (put_in c body) (accepted c body sized) refl c.requires.sound.fields.agreed
    (c.frames_fit.ensures.asked (role_at old) (connection_end old.connection) asked (frames_asked (connection_end old.connection) asked))
    (λ history fed written. c.octets_follow.ensures.accepted (role_at old) (config_view old.connection.settings) (endpoint_view old) history fed written asked (frames_asked (connection_end old.connection) asked))
    (λ history. c.ask_is_of_history.ensures (role_at old) (config_view old.connection.settings) false (connection_end old.connection) history asked)

-- The frames are of the channel, and the first is the method's.

abbrev later_in : After-pass → (body : List ℕ) → List Payload
later_in c body =
    contents.Header (length body) (properties_view c.args.properties.now)
    ∷ map contents.Body (pieces (room_in (frame_max (connection_end c.args.self.now.connection).agreed)) body)

abbrev first_in : After-pass → Payload
first_in c = contents.Calls (method_view c.args.method.now)

written : (c : After-pass) (body : List ℕ) → c.pass.new.self ≡ with_output c.args.self.now.outbox (all_written (put_in c body).output)
written c body =
    c.pass.ensures.written (payload_frame c.args.number (first_in c)) (map (payload_frame c.args.number) (later_in c body)) (frames_on c.args.number (first_in c ∷ later_in c body))

pub returns-in-Ok-clause-accepted : goal.returns-in-Ok-clause-accepted
returns-in-Ok-clause-accepted c = λ body sized.
    let old = c.args.self.now in
    let it = accepts_it c body sized in
    subst (λ (e : model.Endpoint). AcceptsAsk (role_at old) (config_view old.connection.settings) (asked_in c body) (endpoint_view old) e) it.left it

pub returns-in-Ok-clause-written : goal.returns-in-Ok-clause-written
returns-in-Ok-clause-written c = λ body sized.
    let there : model.Endpoint = endpoint_view (between c body) in
    let here : ◌≡◌ {A = model.Endpoint} (record { end = there.end; unfinished = there.unfinished; output = c.pass.new.self.output }) (all_wrote there) =
    ap (λ (v : Outgoing). record { end = there.end; unfinished = there.unfinished; output = v.output }) (written c body) in
    here ∙ ap all_wrote (accepts_it c body sized).left

pub returns-in-Ok-clause-begun : goal.returns-in-Ok-clause-begun
returns-in-Ok-clause-begun c = λ body sized.
    let frames = map (payload_frame c.args.number) (first_in c ∷ later_in c body) in
    c.in-Ok.ensures.begun body sized
    ∙ ap (λ l. c.args.octets.now.items ++ l)
    (sym (c.pass.ensures.order frames (frames_on c.args.number (first_in c ∷ later_in c body)))
    ∙ ap (λ (e : model.Endpoint). output_octets e.output) (accepts_it c body sized).left)

pub returns-in-Ok-clause-sound : goal.returns-in-Ok-clause-sound
returns-in-Ok-clause-sound c =
    let old = c.args.self.now in
    -- any body of the size, as all leave the end alike
    let body = replicate c.args.size 0 in
    let sized : length body ≡ c.args.size = length-replicate c.args.size 0 in
    let asked = asked_in c body in
    let role = role_at old in
    let config = config_view old.connection.settings in
    let sound : EndpointIsSound (between c body) =
    accepted_sound asked old (between c body) c.requires.sound c.begin_content.ensures.settings refl refl (accepted c body sized)
    (c.unfinished_is_held.ensures.ask role config (endpoint_view old) asked)
    (c.agreed_is_within.ensures.ask role config (connection_end old.connection) asked (frames_asked (connection_end old.connection) asked))
    (accepts_it c body sized)
    (c.ends_are_bounded.ensures.ask role config (connection_end old.connection) asked (frames_asked (connection_end old.connection) asked)) in
    record {
      writes = sound.writes;
      staged = ap (λ (v : Outgoing). v.staged) (written c body) ∙ c.requires.sound.staged;
      fields = sound.fields;
      holds = record { of_opening = sound.holds.of_opening; of_frame = sound.holds.of_frame };
      bounded = sound.bounded;
    }

pub returns-in-Err-clause-refused : goal.returns-in-Err-clause-refused
returns-in-Err-clause-refused c = λ body.
    let old = c.args.self.now in
    let asked = content_asked c.args.number (method_view c.args.method.now) (properties_view c.args.properties.now) body in
    refuses old.connection.settings asked c.in-Err.fault (endpoint_view old) (connection_end c.begin_content.new.self) old.outbox old.outbox
    (record { refused = c.in-Err.ensures.refused body; end_same = c.in-Err.ensures.same; output_same = refl }) refl
    (λ config history. c.ask_is_of_history.ensures (role_at old) config false (connection_end old.connection) history asked)

pub returns-in-Err-clause-sound : goal.returns-in-Err-clause-sound
returns-in-Err-clause-sound c =
    let old = c.args.self.now in
    let asked = content_asked c.args.number (method_view c.args.method.now) (properties_view c.args.properties.now) [] in
    refused_sound asked c.in-Err.fault old (record { connection = c.begin_content.new.self; splitter = old.splitter; heard = old.heard; outbox = old.outbox; tally = old.tally }) c.requires.sound c.begin_content.ensures.settings refl refl
    (record { refused = c.in-Err.ensures.refused []; end_same = c.in-Err.ensures.same; output_same = refl }) (returns-in-Err-clause-refused c [])
