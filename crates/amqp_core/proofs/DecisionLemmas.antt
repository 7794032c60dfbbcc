-- What is decided in the handshake, step by step: what is put, and what that leaves.
use Rattle.std.proofs.Common.{◌≡◌, true, false, ℕ, nat_lt, [], ◌∷◌, List, Option, Some, None, Result, Ok, Err, IfErr, IfOk, OnOk, refl, sym, ap, ◌∙◌, subst, inl, inr}
use Rattle.std.proofs.lemmas.Bool.{true≢false, false≢true}
use Rattle.amqp_frame.specs.Frame.{frame_length}
use Rattle.amqp_method.specs.Fitting.{FitsShort}
use Rattle.amqp_method.specs.declared.kinds.Kind.TheVariants as kinds
use Rattle.amqp_model.specs.End.Asks.{AskVerdict, Puts, Refused, Refusal, NotAwaited, NotRunning, is_running}
use Rattle.amqp_model.specs.End.Channels as model
use Rattle.amqp_model.specs.End.Channels.{Channel, End, Phase, Handshake, Running, Closing, Closed, Failed, AwaitsProtocolHeader, AwaitsStart, AwaitsStartOk, AwaitsTune, AwaitsTuneOk, AwaitsOpen, AwaitsOpenOk, HoldsStart, HoldsLogin, HoldsOpen}
use Rattle.amqp_model.specs.End.Closes.{close_as, method_frame}
use Rattle.amqp_model.specs.End.Controls.{Control, Admit, Refuse, AnswerStart, admits_in, answers_in, beats_in, heartbeat_frame, puts_short, refuses_in, unless_long}
use Rattle.amqp_model.specs.Wire.Frame.{Frame}
use Rattle.amqp_model.specs.History.Histories.{ChannelEntry, PutHere}
use Rattle.amqp_model.specs.End.Machine.{end_after, end_after_put, phase_put}
use Rattle.amqp_model.specs.Wire.Methods.{Method, MethodRead, ReadsBack}
use Rattle.amqp_model.specs.Wire.Readings.{Beat, Calls, method_reading}
use Rattle.amqp_model.specs.History.Negotiation as negotiation
use Rattle.amqp_model.specs.History.Negotiation.{Config, FRAME_MIN, connection_open_ok, start_ok_choosing}
use Rattle.amqp_model.specs.Wire.Notes.{Role, Client, Server, is_client}
use Rattle.amqp_value.specs.Tables.{table_view}
use Rattle.amqp_value.specs.Values.{Pairs}
use Rattle.amqp_channel.specs.Events.EventView.{agreed_there}
use Rattle.amqp_channel.specs.declared.events.Agreed as code_agreed
use Rattle.amqp_outbox.specs.OutboxView.{Outgoing}
use Rattle.amqp_core.specs.Asks.Controlled.{frames_by, refusal_by, IsControlled, IsRefusedControl, PutsFrames, RefusesFirst}
use Rattle.amqp_core.specs.Connection.Decisions.{holds_client, holds_start, HoldsNone, DecidesIn, Decides}
use Rattle.amqp_core.specs.Faults.Numbers.{refusal_view}
use Rattle.amqp_core.specs.Connection.HandshakeMethods.{IsTune, start_ok_with, start_ok_saying}
use Rattle.amqp_core.specs.Config.Settings.{config_view, role_for, role_in}
use Rattle.amqp_core.specs.Connection.Stages.{agreed_at, phase_at}
use Rattle.amqp_core.specs.declared.faults.AskFault.{AskFault}
use Rattle.amqp_core.specs.declared.settings.ClientHello.{ClientHello}
use Rattle.amqp_core.specs.declared.settings.ServerHello.{ServerHello}
use Rattle.amqp_core.specs.declared.settings.Hello.{Hello}
use Rattle.amqp_core.specs.declared.settings.Hello.TheVariants as code
use Rattle.amqp_core.specs.declared.settings.Settings.{Settings}
use Rattle.amqp_core.specs.declared.stage.Stage.{Stage}
use Rattle.amqp_core.specs.declared.stage.Stage.TheVariants as stages
use Rattle.amqp_core.proofs.AskLemmas.{end_at, IsPutOf}
use Rattle.amqp_core.proofs.SettingsLemmas.{by_hello, config_with}

-- the refusal of a verdict that is one
pub refused_by : (verdict : AskVerdict) (refusal : Refusal) → verdict ≡ Refused refusal → Some refusal ≡ refusal_by verdict
refused_by verdict refusal is = sym (ap refusal_by is)

-- Nothing is awaited: a client admits and refuses nothing, nor does a server that holds no client; and a server answers no
-- start, nor does a client that holds none.

pub admits_none : (role : Role) (config : Config role) (phase : Phase) → holds_client phase ≡ false
    → admits_in role config phase ≡ Refused NotAwaited
admits_none Client config phase h = refl
admits_none Server config (Handshake HoldsLogin) h = absurd (true≢false h)
admits_none Server config (Handshake HoldsOpen) h = absurd (true≢false h)
admits_none Server config (Handshake HoldsStart) h = refl
admits_none Server config (Handshake AwaitsProtocolHeader) h = refl
admits_none Server config (Handshake AwaitsStart) h = refl
admits_none Server config (Handshake AwaitsStartOk) h = refl
admits_none Server config (Handshake AwaitsTune) h = refl
admits_none Server config (Handshake AwaitsTuneOk) h = refl
admits_none Server config (Handshake AwaitsOpen) h = refl
admits_none Server config (Handshake AwaitsOpenOk) h = refl
admits_none Server config Running h = refl
admits_none Server config Closing h = refl
admits_none Server config Closed h = refl
admits_none Server config Failed h = refl

pub client_admits_none : (role : Role) (config : Config role) (phase : Phase) → is_client role ≡ true → admits_in role config phase ≡ Refused NotAwaited
client_admits_none Client config phase c = refl
client_admits_none Server config phase c = absurd (false≢true c)

pub refuses_none : (role : Role) (phase : Phase) (number : ℕ) (text : List ℕ) → holds_client phase ≡ false
    → refuses_in role phase number text ≡ Refused NotAwaited
refuses_none Client phase number text h = refl
refuses_none Server (Handshake HoldsLogin) number text h = absurd (true≢false h)
refuses_none Server (Handshake HoldsOpen) number text h = absurd (true≢false h)
refuses_none Server (Handshake HoldsStart) number text h = refl
refuses_none Server (Handshake AwaitsProtocolHeader) number text h = refl
refuses_none Server (Handshake AwaitsStart) number text h = refl
refuses_none Server (Handshake AwaitsStartOk) number text h = refl
refuses_none Server (Handshake AwaitsTune) number text h = refl
refuses_none Server (Handshake AwaitsTuneOk) number text h = refl
refuses_none Server (Handshake AwaitsOpen) number text h = refl
refuses_none Server (Handshake AwaitsOpenOk) number text h = refl
refuses_none Server Running number text h = refl
refuses_none Server Closing number text h = refl
refuses_none Server Closed number text h = refl
refuses_none Server Failed number text h = refl

pub client_refuses_none : (role : Role) (phase : Phase) (number : ℕ) (text : List ℕ) → is_client role ≡ true
    → refuses_in role phase number text ≡ Refused NotAwaited
client_refuses_none Client phase number text c = refl
client_refuses_none Server phase number text c = absurd (false≢true c)

pub answers_none : (role : Role) (config : Config role) (phase : Phase) (mechanism response locale : List ℕ) → holds_start phase ≡ false
    → answers_in role config phase mechanism response locale ≡ Refused NotAwaited
answers_none Server config phase mechanism response locale h = refl
answers_none Client config (Handshake HoldsStart) mechanism response locale h = absurd (true≢false h)
answers_none Client config (Handshake HoldsLogin) mechanism response locale h = refl
answers_none Client config (Handshake HoldsOpen) mechanism response locale h = refl
answers_none Client config (Handshake AwaitsProtocolHeader) mechanism response locale h = refl
answers_none Client config (Handshake AwaitsStart) mechanism response locale h = refl
answers_none Client config (Handshake AwaitsStartOk) mechanism response locale h = refl
answers_none Client config (Handshake AwaitsTune) mechanism response locale h = refl
answers_none Client config (Handshake AwaitsTuneOk) mechanism response locale h = refl
answers_none Client config (Handshake AwaitsOpen) mechanism response locale h = refl
answers_none Client config (Handshake AwaitsOpenOk) mechanism response locale h = refl
answers_none Client config Running mechanism response locale h = refl
answers_none Client config Closing mechanism response locale h = refl
answers_none Client config Closed mechanism response locale h = refl
answers_none Client config Failed mechanism response locale h = refl

pub server_answers_none : (settings : Settings) (hello : ServerHello) (phase : Phase) (mechanism response locale : List ℕ) → settings.hello ≡ code.Server hello
    → answers_in (role_for settings) (config_view settings) phase mechanism response locale ≡ Refused NotAwaited
server_answers_none settings hello phase mechanism response locale is =
    by_hello (λ role config. answers_in role config phase mechanism response locale ≡ Refused NotAwaited) settings (code.Server hello) is refl

-- so it is where none is held
pub none_admitted : (role : Role) (config : Config role) (phase : Phase) → HoldsNone role phase → admits_in role config phase ≡ Refused NotAwaited
none_admitted role config phase (inl client) = client_admits_none role config phase client
none_admitted role config phase (inr none) = admits_none role config phase none

pub none_refused : (role : Role) (phase : Phase) (number : ℕ) (text : List ℕ) → HoldsNone role phase
    → refuses_in role phase number text ≡ Refused NotAwaited
none_refused role phase number text (inl client) = client_refuses_none role phase number text client
none_refused role phase number text (inr none) = refuses_none role phase number text none

-- and where one is, nothing is refused
pub some_admitted : (role : Role) (config : Config role) (phase : Phase) → is_client role ≡ false → holds_client phase ≡ true
    → refusal_by (admits_in role config phase) ≡ None
some_admitted Client config phase c h = absurd (true≢false c)
some_admitted Server config (Handshake HoldsLogin) c h = refl
some_admitted Server config (Handshake HoldsOpen) c h = refl
some_admitted Server config (Handshake HoldsStart) c h = absurd (false≢true h)
some_admitted Server config (Handshake AwaitsProtocolHeader) c h = absurd (false≢true h)
some_admitted Server config (Handshake AwaitsStart) c h = absurd (false≢true h)
some_admitted Server config (Handshake AwaitsStartOk) c h = absurd (false≢true h)
some_admitted Server config (Handshake AwaitsTune) c h = absurd (false≢true h)
some_admitted Server config (Handshake AwaitsTuneOk) c h = absurd (false≢true h)
some_admitted Server config (Handshake AwaitsOpen) c h = absurd (false≢true h)
some_admitted Server config (Handshake AwaitsOpenOk) c h = absurd (false≢true h)
some_admitted Server config Running c h = absurd (false≢true h)
some_admitted Server config Closing c h = absurd (false≢true h)
some_admitted Server config Closed c h = absurd (false≢true h)
some_admitted Server config Failed c h = absurd (false≢true h)

-- nor is a beat of a connection that is Running
pub beat_allowed : (phase : Phase) → phase ≡ Running → refusal_by (beats_in phase) ≡ None
beat_allowed phase is = ap (λ p. refusal_by (beats_in p)) is

-- settings of a side that is no client have a server's hello

served_by : (hello : Hello) → is_client (role_in hello) ≡ false → (server : ServerHello) × (hello ≡ code.Server server)
served_by (code.Server server) c = (server, refl)
served_by (code.Client client) c = absurd (true≢false c)

pub served : (settings : Settings) → is_client (role_for settings) ≡ false → (server : ServerHello) × (settings.hello ≡ code.Server server)
served settings c = served_by settings.hello c

-- A server admits.

server_admits_login : (config : Config Server) (method : Method) → method ≡ negotiation.tune config
    → DecidesIn Server config Admit stages.HoldsLogin stages.AwaitsTuneOk method
server_admits_login config method is =
    subst (λ (m : Method). DecidesIn Server config Admit stages.HoldsLogin stages.AwaitsTuneOk m) (sym is)
    (record { puts = refl; leaves = λ channels frame. refl; agreed_same = refl; reads_back = λ reads. tt })

pub admits_login : (settings : Settings) (hello : ServerHello) (method : Method) → settings.hello ≡ code.Server hello
    → IsTune settings.channel_max settings.frame_max settings.heartbeat method
    → Decides settings Admit stages.HoldsLogin stages.AwaitsTuneOk method
admits_login settings hello method is said =
    let config : Config Server = config_with settings (code.Server hello) in
    by_hello (λ role config. DecidesIn role config Admit stages.HoldsLogin stages.AwaitsTuneOk method) settings (code.Server hello) is
    (server_admits_login config method (said config refl refl refl))

server_admits_open : (config : Config Server) (agreed : code_agreed.Agreed) (method : Method) → method ≡ connection_open_ok
    → DecidesIn Server config Admit (stages.HoldsOpen agreed) (stages.Running agreed) method
server_admits_open config agreed method is =
    subst (λ (m : Method). DecidesIn Server config Admit (stages.HoldsOpen agreed) (stages.Running agreed) m) (sym is)
    (record { puts = refl; leaves = λ channels frame. refl; agreed_same = refl; reads_back = λ reads. tt })

pub admits_open : (settings : Settings) (hello : ServerHello) (agreed : code_agreed.Agreed) (method : Method) → settings.hello ≡ code.Server hello
    → method ≡ connection_open_ok → Decides settings Admit (stages.HoldsOpen agreed) (stages.Running agreed) method
admits_open settings hello agreed method is said =
    by_hello (λ role config. DecidesIn role config Admit (stages.HoldsOpen agreed) (stages.Running agreed) method) settings (code.Server hello) is
    (server_admits_open (config_with settings (code.Server hello)) agreed method said)

-- It refuses.

server_closes : (config : Config Server) (stage : Stage) (agreed : Option code_agreed.Agreed) (number : ℕ) (text : List ℕ) → holds_client (phase_at stage) ≡ true
    → agreed_there agreed ≡ agreed_at stage → FitsShort text
    → DecidesIn Server config (Refuse number text) stage (stages.Closing agreed) (close_as kinds.ConnectionClose number text)
server_closes config stages.HoldsLogin agreed number text h same short = record {
  puts = refl;
  leaves = λ channels frame. ap (λ (a : Option model.Agreed). record { phase = Phase.Closing; agreed = a; channels = channels }) (sym same);
  agreed_same = same;
  reads_back = λ reads. (reads, short);
}
server_closes config (stages.HoldsOpen held) agreed number text h same short = record {
  puts = refl;
  leaves = λ channels frame. ap (λ (a : Option model.Agreed). record { phase = Phase.Closing; agreed = a; channels = channels }) (sym same);
  agreed_same = same;
  reads_back = λ reads. (reads, short);
}
server_closes config stages.HoldsStart agreed number text h same short = absurd (false≢true h)
server_closes config stages.AwaitsProtocolHeader agreed number text h same short = absurd (false≢true h)
server_closes config stages.AwaitsStart agreed number text h same short = absurd (false≢true h)
server_closes config stages.AwaitsStartOk agreed number text h same short = absurd (false≢true h)
server_closes config stages.AwaitsTune agreed number text h same short = absurd (false≢true h)
server_closes config stages.AwaitsTuneOk agreed number text h same short = absurd (false≢true h)
server_closes config (stages.AwaitsOpen held) agreed number text h same short = absurd (false≢true h)
server_closes config (stages.AwaitsOpenOk held) agreed number text h same short = absurd (false≢true h)
server_closes config (stages.Running held) agreed number text h same short = absurd (false≢true h)
server_closes config (stages.Closing held) agreed number text h same short = absurd (false≢true h)
server_closes config (stages.Closed held) agreed number text h same short = absurd (false≢true h)
server_closes config (stages.Failed held) agreed number text h same short = absurd (false≢true h)

pub refuses_client : (settings : Settings) (hello : ServerHello) (stage : Stage) (agreed : Option code_agreed.Agreed) (number : ℕ) (text : List ℕ) (method : Method)
    → settings.hello ≡ code.Server hello → holds_client (phase_at stage) ≡ true → agreed_there agreed ≡ agreed_at stage → FitsShort text
    → method ≡ close_as kinds.ConnectionClose number text → Decides settings (Refuse number text) stage (stages.Closing agreed) method
refuses_client settings hello stage agreed number text method is holds same short said =
    by_hello (λ role config. DecidesIn role config (Refuse number text) stage (stages.Closing agreed) method) settings (code.Server hello) is
    (subst (λ (m : Method). DecidesIn Server (config_with settings (code.Server hello)) (Refuse number text) stage (stages.Closing agreed) m) (sym said)
    (server_closes (config_with settings (code.Server hello)) stage agreed number text holds same short))

-- where memory is refused, it was to be refused
refusal_lost_at : (phase : Phase) (number : ℕ) (text : List ℕ) → holds_client phase ≡ true → None ≡ refusal_by (refuses_in Server phase number text)
refusal_lost_at (Handshake HoldsLogin) number text h = refl
refusal_lost_at (Handshake HoldsOpen) number text h = refl
refusal_lost_at (Handshake HoldsStart) number text h = absurd (false≢true h)
refusal_lost_at (Handshake AwaitsProtocolHeader) number text h = absurd (false≢true h)
refusal_lost_at (Handshake AwaitsStart) number text h = absurd (false≢true h)
refusal_lost_at (Handshake AwaitsStartOk) number text h = absurd (false≢true h)
refusal_lost_at (Handshake AwaitsTune) number text h = absurd (false≢true h)
refusal_lost_at (Handshake AwaitsTuneOk) number text h = absurd (false≢true h)
refusal_lost_at (Handshake AwaitsOpen) number text h = absurd (false≢true h)
refusal_lost_at (Handshake AwaitsOpenOk) number text h = absurd (false≢true h)
refusal_lost_at Running number text h = absurd (false≢true h)
refusal_lost_at Closing number text h = absurd (false≢true h)
refusal_lost_at Closed number text h = absurd (false≢true h)
refusal_lost_at Failed number text h = absurd (false≢true h)

pub refusal_lost : (role : Role) (phase : Phase) (number : ℕ) (text : List ℕ) → is_client role ≡ false → holds_client phase ≡ true
    → None ≡ refusal_by (refuses_in role phase number text)
refusal_lost Client phase number text c h = absurd (true≢false c)
refusal_lost Server phase number text c h = refusal_lost_at phase number text h

-- A client answers start.

client_answers : (config : Config Client) (properties : Pairs) (mechanism response locale : List ℕ)
    → start_ok_choosing config mechanism response locale ≡ start_ok_saying properties mechanism response locale
    → nat_lt FRAME_MIN (frame_length (method_frame 0 (start_ok_saying properties mechanism response locale))) ≡ false
    → DecidesIn Client config (AnswerStart mechanism response locale) stages.HoldsStart stages.AwaitsTune
    (start_ok_saying properties mechanism response locale)
client_answers config properties mechanism response locale says short = record {
  puts =
      ap (λ (m : Method). puts_short (method_frame 0 m)) says
      ∙ ap (λ long. unless_long long (method_frame 0 (start_ok_saying properties mechanism response locale))) short;
  leaves = λ channels frame. refl;
  agreed_same = refl;
  reads_back = λ reads. subst ReadsBack (sym says) reads;
}

pub answers_start : (settings : Settings) (hello : ClientHello) (mechanism response locale : List ℕ) (method : Method) → settings.hello ≡ code.Client hello
    → nat_lt FRAME_MIN (frame_length (method_frame 0 (start_ok_with hello mechanism response locale))) ≡ false
    → method ≡ start_ok_with hello mechanism response locale
    → Decides settings (AnswerStart mechanism response locale) stages.HoldsStart stages.AwaitsTune method
answers_start settings hello mechanism response locale method is short said =
    let config : Config Client = config_with settings (code.Client hello) in
    by_hello (λ role config. DecidesIn role config (AnswerStart mechanism response locale) stages.HoldsStart stages.AwaitsTune method) settings
    (code.Client hello) is
    (subst (λ (m : Method). DecidesIn Client config (AnswerStart mechanism response locale) stages.HoldsStart stages.AwaitsTune m) (sym said)
    (client_answers config (table_view hello.properties) mechanism response locale refl short))

-- what comes of an answer is what its length says
pub answers_in_by : (settings : Settings) (hello : ClientHello) (mechanism response locale : List ℕ) → settings.hello ≡ code.Client hello
    → answers_in (role_for settings) (config_view settings) (Handshake HoldsStart) mechanism response locale
    ≡ puts_short (method_frame 0 (start_ok_with hello mechanism response locale))
answers_in_by settings hello mechanism response locale is =
    by_hello
    (λ role config. answers_in role config (Handshake HoldsStart) mechanism response locale
    ≡ puts_short (method_frame 0 (start_ok_with hello mechanism response locale)))
    settings (code.Client hello) is refl

-- a frame that is no longer than 4096 octets is not refused
pub fits_short : (frame : Frame) → nat_lt FRAME_MIN (frame_length frame) ≡ false → None ≡ refusal_by (puts_short frame)
fits_short frame short = sym (ap (λ long. refusal_by (unless_long long frame)) short)

pub answer_fits : (settings : Settings) (hello : ClientHello) (mechanism response locale : List ℕ) → settings.hello ≡ code.Client hello
    → nat_lt FRAME_MIN (frame_length (method_frame 0 (start_ok_with hello mechanism response locale))) ≡ false
    → refusal_by (answers_in (role_for settings) (config_view settings) (Handshake HoldsStart) mechanism response locale) ≡ None
answer_fits settings hello mechanism response locale is short =
    ap refusal_by (answers_in_by settings hello mechanism response locale is)
    ∙ sym (fits_short (method_frame 0 (start_ok_with hello mechanism response locale)) short)

pub both_ok : {A E : Type 0} (result : Result A E) (P R : A → Type 0) (Q : Type 0) → ((a : A) → P a → Q → R a) → IfOk result P → OnOk result Q → IfOk result R
both_ok (Ok a) P R Q f p q = f a p q
both_ok (Err e) P R Q f p q = tt

pub if_err_weaker : {A E : Type 0} (result : Result A E) (P R : E → Type 0) → ((e : E) → P e → R e) → IfErr result P → IfErr result R
if_err_weaker (Ok a) P R f p = tt
if_err_weaker (Err e) P R f p = f e p

-- What was decided is put.

-- the frames are these
abbrev PutsThese : Settings → Control → (before after : End) (old new : Outgoing) → List Frame → Type 0
PutsThese settings control before after old new frames = PutsFrames settings control frames before after old new

pub is_controlled : (settings : Settings) (control : Control) (frames : List Frame) (before after : End) (old new : Outgoing)
    → PutsFrames settings control frames before after old new → IsControlled settings control before after old new
is_controlled settings control frames before after old new puts =
    subst (PutsThese settings control before after old new) (sym (ap frames_by puts.puts)) puts

-- the frame of a method on channel 0 that reads back leaves what the method does
zero_end : (role : Role) (config : Config role) (method : Method) (end after : End) → ReadsBack method
    → ((frame : Frame) → end_after role config 0 (PutHere (Calls method) frame) end ≡ after)
    → after ≡ end_after_put role config (method_frame 0 method ∷ []) end
zero_end role config method end after reads left =
    let entry : MethodRead → ChannelEntry = λ r. PutHere (method_reading r) (method_frame 0 method) in
    sym (ap (λ r. end_after role config 0 (entry r) end) reads ∙ left (method_frame 0 method))

pub decision_put : (settings : Settings) (control : Control) (stage then : Stage) (method : Method) (channels : ℕ → Channel) (old new : Outgoing)
    → Decides settings control stage then method → ReadsBack method → IsPutOf (method_frame 0 method ∷ []) old new
    → IsControlled settings control (end_at stage channels) (end_at then channels) old new
decision_put settings control stage then method channels old new decides reads put =
    is_controlled settings control (method_frame 0 method ∷ []) (end_at stage channels) (end_at then channels) old new
    (record {
      puts = decides.puts;
      end_is = zero_end (role_for settings) (config_view settings) method (end_at stage channels) (end_at then channels) reads (decides.leaves channels);
      agreed_same = decides.agreed_same;
      channels_same = refl;
      output_is = put;
      reads_back = decides.reads_back reads;
    })

-- a refusal changes nothing
pub refused_control : (settings : Settings) (control : Control) (fault : AskFault) (end : End) (outgoing : Outgoing) → RefusesFirst settings control end fault
    → IsRefusedControl settings control fault end end outgoing outgoing
refused_control settings control fault end outgoing refused = record { refused = refused; end_same = refl; output_same = refl }

-- nor does memory that is refused, where it was decided
pub decision_lost : (settings : Settings) (control : Control) (stage then : Stage) (method : Method) (channels : ℕ → Channel) (fault : AskFault)
    (after : End) (old new : Outgoing) → Decides settings control stage then method → refusal_view fault ≡ None → after ≡ end_at stage channels → new ≡ old
    → IsRefusedControl settings control fault (end_at stage channels) after old new
decision_lost settings control stage then method channels fault after old new decides none same output =
    record { refused = none ∙ sym (ap refusal_by decides.puts); end_same = same; output_same = output }

-- Heartbeats.

pub beats_running : (phase : Phase) → phase ≡ Running → beats_in phase ≡ Puts (heartbeat_frame ∷ [])
beats_running phase is = ap beats_in is

pub beats_none : (phase : Phase) → is_running phase ≡ false → beats_in phase ≡ Refused NotRunning
beats_none Running h = absurd (true≢false h)
beats_none (Handshake step) h = refl
beats_none Closing h = refl
beats_none Closed h = refl
beats_none Failed h = refl

beat_leaves : (role : Role) (config : Config role) (end : End) → end.phase ≡ Running → end ≡ end_after_put role config (heartbeat_frame ∷ []) end
beat_leaves Client config end is = λ i. record { phase = there i; agreed = end.agreed; channels = end.channels }
  where
    there : end.phase ≡ phase_put Client (Beat true) end.phase
    there = is ∙ sym (ap (phase_put Client (Beat true)) is)
beat_leaves Server config end is = λ i. record { phase = there i; agreed = end.agreed; channels = end.channels }
  where
    there : end.phase ≡ phase_put Server (Beat true) end.phase
    there = is ∙ sym (ap (phase_put Server (Beat true)) is)

pub beat_put : (settings : Settings) (end : End) (old new : Outgoing) → end.phase ≡ Running → IsPutOf (heartbeat_frame ∷ []) old new
    → IsControlled settings Control.Beat end end old new
beat_put settings end old new running put =
    is_controlled settings Control.Beat (heartbeat_frame ∷ []) end end old new
    (record {
      puts = beats_running end.phase running;
      end_is = beat_leaves (role_for settings) (config_view settings) end running;
      agreed_same = refl;
      channels_same = refl;
      output_is = put;
      reads_back = tt;
    })

pub beat_lost : (settings : Settings) (fault : AskFault) (end : End) (old new : Outgoing) → end.phase ≡ Running → refusal_view fault ≡ None → new ≡ old
    → IsRefusedControl settings Control.Beat fault end end old new
beat_lost settings fault end old new running none output =
    record { refused = none ∙ sym (ap refusal_by (beats_running end.phase running)); end_same = refl; output_same = output }
