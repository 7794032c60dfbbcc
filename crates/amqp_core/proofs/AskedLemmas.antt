-- What an ask makes of an end, and what holds of it then.
use Rattle.std.proofs.Common.{◌≡◌, Bool, true, false, not, ℕ, List, ◌∷◌, Option, Some, None, Result, Ok, Err, IfErr, refl, sym, ap, ◌∙◌, subst, arith}
use Rattle.std.proofs.Math.Logic.{∥∥₁_map}
use Rattle.std.proofs.lemmas.Bool.{true≢false, false≢true}
use Rattle.amqp_frame.specs.Stream.{Stream}
use Rattle.amqp_model.specs.End.Asks.{Ask, Refusal, ask_verdict, first_refusal, frames_asked, is_running, refusal, refused_or_put, when, NotRunning, Puts, Refused}
use Rattle.amqp_model.specs.End.Bounds.{AskStaysWithin, EndIsWithin}
use Rattle.amqp_model.specs.End.Channels.{Agreed, End, Phase, Handshake, AwaitsProtocolHeader, AwaitsStart, AwaitsStartOk, AwaitsTune, AwaitsTuneOk, AwaitsOpen, AwaitsOpenOk, HoldsStart, HoldsLogin, HoldsOpen, Running, Closing, Closed, Failed}
use Rattle.amqp_model.specs.Laws.EndLaws.{AskOfHistory}
use Rattle.amqp_model.specs.End.EndVerdict.{takes_octets}
use Rattle.amqp_model.specs.Stream.Endpoint as model
use Rattle.amqp_model.specs.Stream.Endpoint.{after_answer, after_ask, awaits_opening}
use Rattle.amqp_model.specs.End.Fitting.{AgreedFits, IfAgreedFits}
use Rattle.amqp_model.specs.Laws.FittingLaws.{AskKeepsAgreed, AskedFit}
use Rattle.amqp_model.specs.History.Histories.{History}
use Rattle.amqp_model.specs.End.LawfulHistories.{then_put}
use Rattle.amqp_model.specs.End.Machine.{end_after_put}
use Rattle.amqp_model.specs.History.Negotiation.{Config, frame_limit}
use Rattle.amqp_model.specs.Wire.Notes.{Role, Client, Server}
use Rattle.amqp_model.specs.Laws.OctetLaws.{AcceptedFollows, EndpointStandsFor}
use Rattle.amqp_model.specs.Output.Outputs.{Output, after_puts}
use Rattle.amqp_model.specs.Stream.Pieces.{AskHolds, HoldsUnfinished}
use Rattle.amqp_outbox.specs.OutboxView.{Outgoing}
use Rattle.amqp_core.specs.Asks.Outcomes.{IsAccepted, IsRefused}
use Rattle.amqp_core.specs.Asks.Effects.{AcceptsAsk, AskIsOfHistory, RefusesAsk}
use Rattle.amqp_core.specs.End.Bounded.{IsBounded}
use Rattle.amqp_core.specs.Connection.View.{connection_end}
use Rattle.amqp_core.specs.Faults.Numbers.{refusal_view}
use Rattle.amqp_core.specs.End.EndpointView.{FieldsFit, EndpointIsSound, endpoint_view, is_opened, role_at}
use Rattle.amqp_core.specs.Config.Settings.{config_view, role_for}
use Rattle.amqp_core.specs.declared.endpoint.Endpoint.{Endpoint}
use Rattle.amqp_core.specs.declared.faults.AskFault.{AskFault}
use Rattle.amqp_core.specs.declared.settings.Settings.{Settings}
use Rattle.amqp_core.proofs.FeedLemmas.{sound_with}
use Rattle.amqp_core.proofs.OpenedLemmas.{asked_opened, asked_takes}

-- An ask is accepted by an end alone whose connection is Running.

abbrev some_there : {A : Type 0} → Option A → Bool
some_there (Some a) = true
some_there None = false

running_only : (phase : Phase) (later : List (Option Refusal)) → first_refusal (when (not (is_running phase)) NotRunning ∷ later) ≡ None → phase ≡ Running
running_only (Handshake step) later e = absurd (true≢false (ap some_there e))
running_only Running later e = refl
running_only Closing later e = absurd (true≢false (ap some_there e))
running_only Closed later e = absurd (true≢false (ap some_there e))
running_only Failed later e = absurd (true≢false (ap some_there e))

pub is_running_then : (role : Role) (end : End) (ask : Ask) → refusal role end ask ≡ None → end.phase ≡ Running
is_running_then role end ask e = running_only end.phase _ e

not_awaited : (role : Role) (phase : Phase) → phase ≡ Running → awaits_opening role phase ≡ false
not_awaited Client phase e = refl
not_awaited Server phase e = ap (awaits_opening Server) e

pub never_both : (role : Role) (phase : Phase) → is_opened phase ≡ true → awaits_opening role phase ≡ true → ⊥
never_both Client phase o e = false≢true e
never_both Server (Handshake AwaitsProtocolHeader) o e = false≢true o
never_both Server (Handshake AwaitsStart) o e = false≢true e
never_both Server (Handshake AwaitsStartOk) o e = false≢true e
never_both Server (Handshake AwaitsTune) o e = false≢true e
never_both Server (Handshake AwaitsTuneOk) o e = false≢true e
never_both Server (Handshake AwaitsOpen) o e = false≢true e
never_both Server (Handshake AwaitsOpenOk) o e = false≢true e
never_both Server (Handshake HoldsStart) o e = false≢true e
never_both Server (Handshake HoldsLogin) o e = false≢true e
never_both Server (Handshake HoldsOpen) o e = false≢true e
never_both Server Running o e = false≢true e
never_both Server Closing o e = false≢true e
never_both Server Closed o e = false≢true e
never_both Server Failed o e = false≢true e

fields_asked : (role : Role) (old new : End) (heard : ℕ) (stream : Stream) → old.phase ≡ Running → FieldsFit role old heard stream → new.agreed ≡ old.agreed → is_opened new.phase ≡ true → takes_octets new.phase ≡ true → FieldsFit role new heard stream
fields_asked role old new heard stream running fit agreed reads takes = record {
  agreed = subst IfAgreedFits (sym agreed) fit.agreed;
  opening = λ e. absurd (never_both role new.phase reads e);
  opened = λ e. fit.opened (not_awaited role old.phase running);
  awaited = λ e. reads;
  within = fit.within;
  over = λ over. absurd (true≢false (sym takes ∙ over));
  ready = λ e. record { running = (fit.ready (ap takes_octets running)).running; limit_is = (fit.ready (ap takes_octets running)).limit_is ∙ ap frame_limit (sym agreed) };
}

-- what is left is what the definitions say
left_is : (role : Role) (config : Config role) (old : model.Endpoint) (ask : Ask) (end : End) (output : Output) → refusal role old.end ask ≡ None → end ≡ end_after_put role config (frames_asked old.end ask) old.end → output ≡ after_puts (frames_asked old.end ask) old.output → ◌≡◌ {A = model.Endpoint} (record { end = end; unfinished = old.unfinished; output = output }) (after_ask role config old ask)
left_is role config old ask end output allowed ends puts =
    let there : ◌≡◌ {A = model.Endpoint} (record { end = end; unfinished = old.unfinished; output = output }) (after_answer role config old (Puts (frames_asked old.end ask))) = λ i. record { end = ends i; unfinished = old.unfinished; output = puts i } in
    there ∙ sym (ap (λ r. after_answer role config old (refused_or_put r (frames_asked old.end ask))) allowed)

pub agreed_fits : (agreed : Option Agreed) → IfAgreedFits agreed → AgreedFits agreed
agreed_fits None fits = record { channel_most = omega arith; frame_most = omega arith }
agreed_fits (Some agreed) fits = record { channel_most = fits.channel_most; frame_most = fits.frame_most }

pub accepts : (settings : Settings) (ask : Ask) (old : model.Endpoint) (after : End) (before new : Outgoing) → IsAccepted settings ask old.end after before new → old.output ≡ before.output → IfAgreedFits old.end.agreed
    → AskedFit (role_for settings) old.end ask (frames_asked old.end ask)
    → ((history : History) (fed written : List ℕ) → AcceptedFollows (role_for settings) (config_view settings) old history fed written ask (frames_asked old.end ask))
    → ((history : History) → AskOfHistory (role_for settings) (config_view settings) false old.end history ask)
    → AcceptsAsk (role_for settings) (config_view settings) ask old (record { end = after; unfinished = old.unfinished; output = new.output })
accepts settings ask old after before new is out fits asked law counted =
    let left = left_is (role_for settings) (config_view settings) old ask after new.output is.allowed is.end_is (ap (λ (o : Outgoing). o.output) is.output_is ∙ ap (after_puts (frames_asked old.end ask)) (sym out)) in
    let verdict : ask_verdict (role_for settings) old.end ask ≡ Puts (frames_asked old.end ask) = ap (λ r. refused_or_put r (frames_asked old.end ask)) is.allowed in
    let fit = asked is.reads_back (agreed_fits old.end.agreed fits) verdict in
    record {
      allowed = is.allowed;
      left = left;
      reads_back = is.reads_back;
      made = is.made;
      follows = λ history fed written stands. subst (λ (e : model.Endpoint). EndpointStandsFor (role_for settings) (config_view settings) e (then_put (frames_asked old.end ask) history) fed written) (sym left)
          (law history fed written stands (record { reads_back = is.reads_back; fit = fit }) is.made verdict);
      of_history = λ history fed written stands. sym (counted history stands.stands) ∙ verdict;
    }

pub accepted_sound : (ask : Ask) (old new : Endpoint) → EndpointIsSound old → new.connection.settings ≡ old.connection.settings → new.splitter ≡ old.splitter → new.heard ≡ old.heard → IsAccepted old.connection.settings ask (connection_end old.connection) (connection_end new.connection) old.outbox new.outbox
    → AskHolds (role_at old) (config_view old.connection.settings) (endpoint_view old) ask
    → AskKeepsAgreed (role_at old) (config_view old.connection.settings) (connection_end old.connection) ask (frames_asked (connection_end old.connection) ask)
    → AcceptsAsk (role_at old) (config_view old.connection.settings) ask (endpoint_view old) (endpoint_view new)
    → AskStaysWithin (role_at old) (config_view old.connection.settings) (connection_end old.connection) ask (frames_asked (connection_end old.connection) ask)
    → EndpointIsSound new
accepted_sound ask old new sound settings splitter heard is holds keeps accepts_it stays =
    let verdict : ask_verdict (role_at old) (connection_end old.connection) ask ≡ Puts (frames_asked (connection_end old.connection) ask) = ap (λ r. refused_or_put r (frames_asked (connection_end old.connection) ask)) is.allowed in
    let running = is_running_then (role_at old) (connection_end old.connection) ask is.allowed in
    let agreed : (connection_end new.connection).agreed ≡ (connection_end old.connection).agreed = ap (λ (e : End). e.agreed) is.end_is ∙ keeps is.reads_back.method verdict in
    let reads : is_opened (connection_end new.connection).phase ≡ true = ap (λ (e : End). is_opened e.phase) is.end_is ∙ asked_opened (role_at old) (config_view old.connection.settings) (frames_asked (connection_end old.connection) ask) (connection_end old.connection) (ap is_opened running) in
    let takes : takes_octets (connection_end new.connection).phase ≡ true = ap (λ (e : End). takes_octets e.phase) is.end_is ∙ asked_takes (role_at old) (config_view old.connection.settings) (frames_asked (connection_end old.connection) ask) (connection_end old.connection) (ap takes_octets running) in
    let fields : FieldsFit (role_at old) (connection_end new.connection) old.heard old.splitter = fields_asked (role_at old) (connection_end old.connection) (connection_end new.connection) old.heard old.splitter running sound.fields agreed reads takes in
    sound_with old.connection.settings new settings sound.writes (ap (λ (o : Outgoing). o.staged) is.output_is)
    (subst (λ h. FieldsFit (role_at old) (connection_end new.connection) h new.splitter) (sym heard) (subst (λ (s : Stream). FieldsFit (role_at old) (connection_end new.connection) old.heard s) (sym splitter) fields))
    (subst (λ (e : model.Endpoint). HoldsUnfinished (role_at old) e) (sym accepts_it.left) (holds sound.holds is.reads_back))
    (λ takes. ∥∥₁_map (sound.bounded (ap takes_octets running)) (λ within. subst (λ (e : End). EndIsWithin (role_at old) (config_view old.connection.settings) e) (sym is.end_is) (stays within is.reads_back.method is.made verdict)))

-- A refused ask changes nothing.

-- what comes of the ask is what every history gives for which the end stands
abbrev pub AskCounted : (role : Role) → Ask → model.Endpoint → Type 0
AskCounted role ask old = (config : Config role) (history : History) → AskOfHistory role config false old.end history ask

refused_so : (role : Role) (ask : Ask) (fault : AskFault) (old : model.Endpoint) → refusal_view fault ≡ refusal role old.end ask → AskCounted role ask old
    → (config : Config role) (reason : Refusal) → refusal_view fault ≡ Some reason → AskIsOfHistory role config ask old (Refused reason)
refused_so role ask fault old refused counted config reason some history fed written stands =
    sym (counted config history stands.stands) ∙ ap (λ r. refused_or_put r (frames_asked old.end ask)) (sym refused ∙ some)

pub refuses : (settings : Settings) (ask : Ask) (fault : AskFault) (old : model.Endpoint) (after : End) (before new : Outgoing) → IsRefused settings ask fault old.end after before new → old.output ≡ before.output → AskCounted (role_for settings) ask old
    → RefusesAsk (role_for settings) ask fault old (record { end = after; unfinished = old.unfinished; output = new.output })
refuses settings ask fault old after before new is out counted =
    let output : new.output ≡ old.output = ap (λ (o : Outgoing). o.output) is.output_same ∙ sym out in
    let end : after ≡ old.end = is.end_same in
    record {
      refused = is.refused;
      same = λ i. record { end = end i; unfinished = old.unfinished; output = output i };
      of_history = refused_so (role_for settings) ask fault old is.refused counted;
    }

pub refused_sound : (ask : Ask) (fault : AskFault) (old new : Endpoint) → EndpointIsSound old → new.connection.settings ≡ old.connection.settings → new.splitter ≡ old.splitter → new.heard ≡ old.heard → IsRefused old.connection.settings ask fault (connection_end old.connection) (connection_end new.connection) old.outbox new.outbox → RefusesAsk (role_at old) ask fault (endpoint_view old) (endpoint_view new) → EndpointIsSound new
refused_sound ask fault old new sound settings splitter heard is refuses_it =
    sound_with old.connection.settings new settings sound.writes (ap (λ (o : Outgoing). o.staged) is.output_same ∙ sound.staged)
    (subst (λ h. FieldsFit (role_at old) (connection_end new.connection) h new.splitter) (sym heard)
    (subst (λ (s : Stream). FieldsFit (role_at old) (connection_end new.connection) old.heard s) (sym splitter)
    (subst (λ (e : End). FieldsFit (role_at old) e old.heard old.splitter) (sym is.end_same) sound.fields)))
    (subst (λ (e : model.Endpoint). HoldsUnfinished (role_at old) e) (sym refuses_it.same) sound.holds)
    (subst (λ (e : End). IsBounded (role_at old) (config_view old.connection.settings) e) (sym is.end_same) sound.bounded)

-- An ask that is refused before anything is done.
pub refused_at_once : {A : Type 0} (role : Role) (ask : Ask) (result : Result A AskFault) (endpoint : model.Endpoint) → IfErr result (λ fault. refusal_view fault ≡ refusal role endpoint.end ask) → AskCounted role ask endpoint → IfErr result (λ fault. RefusesAsk role ask fault endpoint endpoint)
refused_at_once role ask (Ok value) endpoint refused counted = tt
refused_at_once role ask (Err fault) endpoint refused counted = record { refused = refused; same = refl; of_history = refused_so role ask fault endpoint refused counted }
