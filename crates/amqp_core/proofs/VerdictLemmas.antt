-- The rules for a frame, one by one: the verdict is the one of the definitions, and it says what the frame leaves.
use Rattle.std.proofs.lemmas.Bool.{false≢true}
use Rattle.std.proofs.lemmas.Bool.Decides.{nat_tests}
use Rattle.std.proofs.Common.{◌≡◌, ◌<◌, ◌==◌, ◌&&◌, Bool, true, false, cond, min, ℕ, zero, suc, List, [], ◌∷◌, Option, Some, None, refl, ap, sym, ◌∙◌, subst, arith}
use Rattle.amqp_frame.specs.declared.frames.FrameKind.{FrameKind}
use Rattle.amqp_method.specs.declared.kinds.Kind.TheVariants as kinds
use Rattle.amqp_model.specs.End.Channels as model
use Rattle.amqp_model.specs.End.Asks.{is_free}
use Rattle.amqp_model.specs.End.Closes.{connection_close_ok, CloseCode, CommandInvalid, ContentTooLarge, FrameError, NotImplemented, SyntaxError, close_as, number_of, text_of, reply_to}
use Rattle.amqp_model.specs.End.EndVerdict.{takes_frames}
use Rattle.amqp_model.specs.End.Events as events
use Rattle.amqp_model.specs.End.FrameVerdict.{fault, verdict_on}
use Rattle.amqp_model.specs.History.Histories.{TookHere}
use Rattle.amqp_model.specs.End.Machine.{taken_verdict}
use Rattle.amqp_model.specs.Wire.Methods.{Method, Properties, number_at, same_kind}
use Rattle.amqp_model.specs.History.Negotiation as negotiation
use Rattle.amqp_model.specs.History.Negotiation.{Config, agreed_in, tunes_too_small}
use Rattle.amqp_model.specs.Wire.Notes.{Role, is_client}
use Rattle.amqp_model.specs.Wire.Readings.{Reading, Calls, UnknownMethod, MalformedMethod, HeaderOf, MalformedHeader, BodyOf, Beat}
use Rattle.amqp_channel.specs.Channels.ChannelsView.{channels_view}
use Rattle.amqp_channel.specs.Events.Closes.{code_view}
use Rattle.amqp_channel.specs.Events.EventView.{agreed_view}
use Rattle.amqp_channel.specs.Roles.{role_of}
use Rattle.amqp_channel.specs.Verdict.VerdictView.{left_by, reply_there, verdict_view, whole_now, Rules}
use Rattle.amqp_channel.specs.Channels.Used.{is_closing_at}
use Rattle.amqp_channel.specs.Verdict.Leaving.{LeavesAfter}
use Rattle.amqp_channel.specs.declared.channels.Channels.{Channels}
use Rattle.amqp_channel.specs.declared.codes.CloseCode as code_codes
use Rattle.amqp_channel.specs.declared.codes.CloseCode.TheVariants as codes
use Rattle.amqp_channel.specs.declared.events.Agreed as code_agreed
use Rattle.amqp_channel.specs.declared.verdict.Verdict as channel_verdict
use Rattle.amqp_channel.specs.declared.verdict.Verdict.TheVariants as ruled
use Rattle.amqp_channel.specs.declared.side.Side.TheVariants as side
use Rattle.amqp_channel.specs.declared.site.Site.{Site}
use Rattle.amqp_core.specs.Connection.View.{EndLeft, frame_at, site_at}
use Rattle.amqp_core.specs.Connection.Handshakes.{answered_in, awaited_in, is_in_handshake, within}
use Rattle.amqp_core.specs.Config.Settings.{config_view, role_for, side_in}
use Rattle.amqp_core.specs.Connection.Stages.{leaves, phase_at, agreed_at}
use Rattle.amqp_core.specs.Connection.Verdicts.{end_at, FrameRules}
use Rattle.amqp_core.specs.declared.verdict.Fault.TheVariants as faults
use Rattle.amqp_core.specs.declared.owed.Owed.TheVariants as owed
use Rattle.amqp_core.specs.declared.settings.Settings.{Settings}
use Rattle.amqp_core.specs.declared.stage.Stage.{Stage}
use Rattle.amqp_core.specs.declared.stage.Stage.TheVariants as stages
use Rattle.amqp_core.specs.declared.verdict.Notice.TheVariants as notice
use Rattle.amqp_core.specs.Connection.Rulings.{OnChannel, OnConnection}
use Rattle.amqp_core.specs.declared.verdict.Verdict.TheVariants.{Proceeds, Faults}
use Rattle.amqp_core.proofs.ConnectionLemmas.{above_stays, beat_verdict, drops_above, drops_unread, unread_faults, unread_stays}
use Rattle.amqp_core.proofs.EntryLemmas.{with_channel, taken_above, agreed_above, nothing_stays, IsNoCall}
use Rattle.amqp_core.proofs.HandshakeLemmas as steps
use Rattle.amqp_core.proofs.LeavingLemmas.{close_verdict, close_ok_verdict, other_verdict, crossing_close, close_answered, dropped_call}

-- This end has put connection.close.

pub crossing_rules :
    (settings : Settings) (agreed : Option code_agreed.Agreed) (channels : Channels) (method : Method)
    → same_kind method.kind kinds.ConnectionClose ≡ true
    → FrameRules settings (end_at (stages.Closing agreed) channels) 0 (Calls method)
    (OnConnection (Proceeds notice.Quiet (stages.Closing agreed) owed.CloseOk))
crossing_rules settings agreed channels method e =
    record {
      verdict = sym (close_verdict (role_for settings) (config_view settings) (end_at (stages.Closing agreed) channels) method refl e);
      leaves = crossing_close (role_for settings) (config_view settings) (end_at (stages.Closing agreed) channels) method refl e;
      fits = (tt, λ e. e);
    }

pub answered_rules :
    (settings : Settings) (agreed : Option code_agreed.Agreed) (channels : Channels) (method : Method)
    → same_kind method.kind kinds.ConnectionClose ≡ false → same_kind method.kind kinds.ConnectionCloseOk ≡ true
    → FrameRules settings (end_at (stages.Closing agreed) channels) 0 (Calls method)
    (OnConnection (Proceeds notice.ClosedByUs (stages.Closed agreed) owed.Nothing))
answered_rules settings agreed channels method e f =
    record {
      verdict = sym (close_ok_verdict (role_for settings) (config_view settings) (end_at (stages.Closing agreed) channels) method refl e f);
      leaves = close_answered (role_for settings) (config_view settings) (end_at (stages.Closing agreed) channels) method refl f;
      fits = (tt, λ e. e);
    }

pub dropped_rules :
    (settings : Settings) (agreed : Option code_agreed.Agreed) (channels : Channels) (method : Method)
    → same_kind method.kind kinds.ConnectionClose ≡ false → same_kind method.kind kinds.ConnectionCloseOk ≡ false
    → FrameRules settings (end_at (stages.Closing agreed) channels) 0 (Calls method)
    (OnConnection (Proceeds notice.Discarded (stages.Closing agreed) owed.Nothing))
dropped_rules settings agreed channels method e f =
    record {
      verdict = sym (other_verdict (role_for settings) (config_view settings) (end_at (stages.Closing agreed) channels) method refl e f);
      leaves = dropped_call (role_for settings) (config_view settings) (end_at (stages.Closing agreed) channels) method refl f;
      fits = (tt, λ e. e);
    }

pub ruleset leaving_rules = (crossing_rules, answered_rules, dropped_rules)

pub above_rules :
    (settings : Settings) (agreed : Option code_agreed.Agreed) (channels : Channels) (number : ℕ) (reading : Reading) → 0 < number
    → FrameRules settings (end_at (stages.Closing agreed) channels) number reading
    (OnConnection (Proceeds notice.Discarded (stages.Closing agreed) owed.Nothing))
above_rules settings agreed channels number reading above =
    record {
      verdict = sym (drops_above (role_for settings) (config_view settings) (end_at (stages.Closing agreed) channels) number reading refl above);
      leaves = above_stays (role_for settings) (config_view settings) (end_at (stages.Closing agreed) channels) number reading refl above;
      fits = (tt, λ e. e);
    }

pub unread_rules :
    (settings : Settings) (agreed : Option code_agreed.Agreed) (channels : Channels) (number : ℕ) (reading : Reading) → IsNoCall reading
    → FrameRules settings (end_at (stages.Closing agreed) channels) number reading
    (OnConnection (Proceeds notice.Discarded (stages.Closing agreed) owed.Nothing))
unread_rules settings agreed channels number reading h =
    record {
      verdict = sym (drops_unread (role_for settings) (config_view settings) (end_at (stages.Closing agreed) channels) number reading refl h);
      leaves = unread_stays (role_for settings) (config_view settings) (end_at (stages.Closing agreed) channels) number reading refl h;
      fits = (tt, λ e. e);
    }

pub ruleset dropping_rules = (above_rules, unread_rules)

-- The handshake.

agreed_closed : (stage : Stage) (agreed : Option code_agreed.Agreed) → agreed_at (stages.Closed agreed) ≡ agreed_at stage
    → (channels : Channels) → steps.end_in model.Closed (agreed_at stage) (channels_view channels) ≡ end_at (stages.Closed agreed) channels
agreed_closed stage agreed e channels = ap (λ a. steps.end_in model.Closed a (channels_view channels)) (sym e)

pub close_rules :
    (settings : Settings) (stage : Stage) (agreed : Option code_agreed.Agreed) (channels : Channels) (method : Method)
    → leaves (phase_at stage) ≡ false → takes_frames (phase_at stage) ≡ true → method.kind ≡ kinds.ConnectionClose
    → agreed_at (stages.Closed agreed) ≡ agreed_at stage
    → FrameRules settings (end_at stage channels) 0 (Calls method) (OnConnection (Proceeds notice.ClosedByPeer (stages.Closed agreed) owed.CloseOk))
close_rules settings stage agreed channels method stays going close same =
    record {
      verdict = sym (steps.closed_verdict (role_for settings) (config_view settings) (phase_at stage) (agreed_at stage) method going stays close);
      leaves =
          subst (λ (end : model.End). EndLeft (config_view settings) 0 (Calls method) (events.Proceeds (Some (events.ConnectionClosed (Some (events.reason_in method)))) (connection_close_ok ∷ [])) (end_at stage channels) end)
          (agreed_closed stage agreed same channels)
          (steps.closed_left (role_for settings) (config_view settings) (phase_at stage) (agreed_at stage) (channels_view channels) method (Some (events.ConnectionClosed (Some (events.reason_in method)))) going stays close);
      fits = (close, λ e. absurd (false≢true e));
    }

pub start_rules :
    (settings : Settings) (channels : Channels) (method : Method)
    → side_in settings.hello ≡ side.Client → method.kind ≡ kinds.ConnectionStart → settings.gated ≡ false
    → FrameRules settings (end_at stages.AwaitsStart channels) 0 (Calls method) (OnConnection (Proceeds notice.Quiet stages.AwaitsTune owed.StartOk))
start_rules settings channels method s k g =
    record {
      verdict = sym (steps.start_verdict (role_for settings) (config_view settings) None method (ap role_of s) k g);
      leaves = steps.start_left (role_for settings) (config_view settings) None (channels_view channels) method (ap role_of s) k;
      fits = (tt, λ e. refl);
    }

pub start_asked_rules :
    (settings : Settings) (channels : Channels) (method : Method)
    → side_in settings.hello ≡ side.Client → method.kind ≡ kinds.ConnectionStart → settings.gated ≡ true
    → FrameRules settings (end_at stages.AwaitsStart channels) 0 (Calls method) (OnConnection (Proceeds notice.AnswerAsked stages.HoldsStart owed.Nothing))
start_asked_rules settings channels method s k g =
    record {
      verdict = sym (steps.start_asks (role_for settings) (config_view settings) None method (ap role_of s) k g);
      leaves = steps.start_held (role_for settings) (config_view settings) None (channels_view channels) method (ap role_of s) k;
      fits = (tt, λ e. refl);
    }

pub start_ok_rules :
    (settings : Settings) (channels : Channels) (method : Method)
    → side_in settings.hello ≡ side.Server → method.kind ≡ kinds.ConnectionStartOk → settings.gated ≡ false
    → FrameRules settings (end_at stages.AwaitsStartOk channels) 0 (Calls method) (OnConnection (Proceeds notice.Quiet stages.AwaitsTuneOk owed.Tune))
start_ok_rules settings channels method s k g =
    record {
      verdict = sym (steps.start_ok_verdict (role_for settings) (config_view settings) None method (ap role_of s) k g);
      leaves = steps.start_ok_left (role_for settings) (config_view settings) None (channels_view channels) method (ap role_of s) k;
      fits = (tt, λ e. refl);
    }

pub login_asked_rules :
    (settings : Settings) (channels : Channels) (method : Method)
    → side_in settings.hello ≡ side.Server → method.kind ≡ kinds.ConnectionStartOk → settings.gated ≡ true
    → FrameRules settings (end_at stages.AwaitsStartOk channels) 0 (Calls method) (OnConnection (Proceeds notice.LoginAsked stages.HoldsLogin owed.Nothing))
login_asked_rules settings channels method s k g =
    record {
      verdict = sym (steps.start_ok_asks (role_for settings) (config_view settings) None method (ap role_of s) k g);
      leaves = steps.start_ok_held (role_for settings) (config_view settings) None (channels_view channels) method (ap role_of s) k;
      fits = (tt, λ e. refl);
    }

pub open_rules :
    (settings : Settings) (agreed : code_agreed.Agreed) (channels : Channels) (method : Method)
    → side_in settings.hello ≡ side.Server → method.kind ≡ kinds.ConnectionOpen → settings.gated ≡ false
    → FrameRules settings (end_at (stages.AwaitsOpen agreed) channels) 0 (Calls method)
    (OnConnection (Proceeds (notice.Negotiated agreed) (stages.Running agreed) owed.OpenOk))
open_rules settings agreed channels method s k g =
    record {
      verdict = sym (steps.open_verdict (role_for settings) (config_view settings) (agreed_view agreed) method (ap role_of s) k g);
      leaves = steps.open_left (role_for settings) (config_view settings) (agreed_view agreed) (channels_view channels) method (Some (events.Negotiated (agreed_view agreed))) (ap role_of s) k;
      fits = (tt, λ e. absurd (false≢true e));
    }

pub open_asked_rules :
    (settings : Settings) (agreed : code_agreed.Agreed) (channels : Channels) (method : Method)
    → side_in settings.hello ≡ side.Server → method.kind ≡ kinds.ConnectionOpen → settings.gated ≡ true
    → FrameRules settings (end_at (stages.AwaitsOpen agreed) channels) 0 (Calls method)
    (OnConnection (Proceeds notice.OpenAsked (stages.HoldsOpen agreed) owed.Nothing))
open_asked_rules settings agreed channels method s k g =
    record {
      verdict = sym (steps.open_asks (role_for settings) (config_view settings) (agreed_view agreed) method (ap role_of s) k g);
      leaves = steps.open_held (role_for settings) (config_view settings) (agreed_view agreed) (channels_view channels) method (ap role_of s) k;
      fits = (tt, λ e. refl);
    }

pub open_ok_rules :
    (settings : Settings) (agreed : code_agreed.Agreed) (channels : Channels) (method : Method)
    → side_in settings.hello ≡ side.Client → method.kind ≡ kinds.ConnectionOpenOk
    → FrameRules settings (end_at (stages.AwaitsOpenOk agreed) channels) 0 (Calls method)
    (OnConnection (Proceeds (notice.Negotiated agreed) (stages.Running agreed) owed.Nothing))
open_ok_rules settings agreed channels method s k =
    record {
      verdict = sym (steps.open_ok_verdict (role_for settings) (config_view settings) (agreed_view agreed) method (ap role_of s) k);
      leaves = steps.open_ok_left (role_for settings) (config_view settings) (agreed_view agreed) (channels_view channels) method (Some (events.Negotiated (agreed_view agreed))) (ap role_of s) k;
      fits = (tt, λ e. absurd (false≢true e));
    }

-- a tune that settles these limits and this heartbeat
pub settled_rules :
    (settings : Settings) (agreed : code_agreed.Agreed) (channels : Channels) (method : Method)
    → side_in settings.hello ≡ side.Client → method.kind ≡ kinds.ConnectionTune → tunes_too_small method ≡ false
    → agreed.channel_max ≡ negotiation.smaller settings.channel_max (number_at 0 method)
    → agreed.frame_max ≡ negotiation.smaller settings.frame_max (number_at 1 method)
    → agreed.heartbeat ≡ min settings.heartbeat (number_at 2 method)
    → FrameRules settings (end_at stages.AwaitsTune channels) 0 (Calls method)
    (OnConnection (Proceeds notice.Quiet (stages.AwaitsOpenOk agreed) (owed.TuneOkAndOpen agreed)))
settled_rules settings agreed channels method s k small c f b =
    record {
      verdict = sym (steps.tune_verdict (role_for settings) (config_view settings) None agreed.channel_max agreed.frame_max agreed.heartbeat method (ap role_of s) k small c f b);
      leaves = steps.tune_left (role_for settings) (config_view settings) None (agreed_view agreed) (channels_view channels) method (ap role_of s) k;
      fits = (tt, λ e. refl);
    }

pub small_rules :
    (settings : Settings) (channels : Channels) (method : Method)
    → side_in settings.hello ≡ side.Client → method.kind ≡ kinds.ConnectionTune → tunes_too_small method ≡ true
    → FrameRules settings (end_at stages.AwaitsTune channels) 0 (Calls method) (OnConnection (Faults (faults.Peer codes.FrameError)))
small_rules settings channels method s k small =
    record {
      verdict = sym (steps.tune_fault (role_for settings) (config_view settings) None method (ap role_of s) k small);
      leaves = steps.secure_left (role_for settings) (config_view settings) (phase_at stages.AwaitsTune) None (channels_view channels) method (events.Peer FrameError) (ap role_of s);
      fits = tt;
    }

pub ruleset tune_rules = (settled_rules, small_rules)

pub within_rules :
    (settings : Settings) (agreed : code_agreed.Agreed) (channels : Channels) (method : Method)
    → side_in settings.hello ≡ side.Server → method.kind ≡ kinds.ConnectionTuneOk → agreed_in method ≡ agreed_view agreed
    → within settings.channel_max settings.frame_max (number_at 0 method) (number_at 1 method) ≡ true
    → FrameRules settings (end_at stages.AwaitsTuneOk channels) 0 (Calls method)
    (OnConnection (Proceeds notice.Quiet (stages.AwaitsOpen agreed) owed.Nothing))
within_rules settings agreed channels method s k same w =
    record {
      verdict = sym (steps.tune_ok_verdict (role_for settings) (config_view settings) None method (ap role_of s) k w);
      leaves =
          subst (λ (a : model.Agreed). EndLeft (config_view settings) 0 (Calls method) (events.Proceeds (Some events.Quiet) []) (end_at stages.AwaitsTuneOk channels) (steps.end_in (model.Handshake model.AwaitsOpen) (Some a) (channels_view channels)))
          same (steps.tune_ok_left (role_for settings) (config_view settings) None (channels_view channels) method (ap role_of s) k w);
      fits = (tt, λ e. refl);
    }

pub past_rules :
    (settings : Settings) (channels : Channels) (method : Method)
    → side_in settings.hello ≡ side.Server → method.kind ≡ kinds.ConnectionTuneOk
    → within settings.channel_max settings.frame_max (number_at 0 method) (number_at 1 method) ≡ false
    → FrameRules settings (end_at stages.AwaitsTuneOk channels) 0 (Calls method) (OnConnection (Faults faults.Fatal))
past_rules settings channels method s k w =
    record {
      verdict = sym (steps.tune_ok_fault (role_for settings) (config_view settings) None method (ap role_of s) k w);
      leaves = steps.tune_ok_failed (role_for settings) (config_view settings) (channels_view channels) method events.Fatal (ap role_of s) k w;
      fits = tt;
    }

pub ruleset tune_ok_rules = (within_rules, past_rules)

-- A method that is out of place in the handshake.

client_is : (role : Role) → is_client role ≡ true → role ≡ Role.Client
client_is Role.Client h = refl
client_is Role.Server h = cc

pub secure_rules :
    (settings : Settings) (stage : Stage) (channels : Channels) (method : Method) → is_in_handshake (phase_at stage) ≡ true
    → is_client (role_for settings) ≡ true → same_kind method.kind kinds.ConnectionClose ≡ false
    → same_kind method.kind kinds.ConnectionSecure ≡ true
    → FrameRules settings (end_at stage channels) 0 (Calls method) (OnConnection (Faults (faults.Peer codes.NotImplemented)))
secure_rules settings stage channels method h c close secure =
    let client : role_for settings ≡ Role.Client = client_is (role_for settings) c in
    record {
      verdict = sym (steps.secure_verdict (role_for settings) (config_view settings) (phase_at stage) (agreed_at stage) method h client close secure);
      leaves = steps.secure_left (role_for settings) (config_view settings) (phase_at stage) (agreed_at stage) (channels_view channels) method (events.Peer NotImplemented) client;
      fits = tt;
    }

pub order_rules :
    (settings : Settings) (stage : Stage) (channels : Channels) (method : Method) → is_in_handshake (phase_at stage) ≡ true
    → same_kind method.kind kinds.ConnectionClose ≡ false
    → (is_client (role_for settings) && same_kind method.kind kinds.ConnectionSecure) ≡ false
    → awaited_in (phase_at stage) method.kind ≡ false
    → FrameRules settings (end_at stage channels) 0 (Calls method) (OnConnection (Faults (faults.Peer codes.CommandInvalid)))
order_rules settings stage channels method h close secure awaited =
    record {
      verdict = sym (steps.order_verdict (role_for settings) (config_view settings) (phase_at stage) (agreed_at stage) method h close secure awaited);
      leaves = steps.order_left (role_for settings) (config_view settings) (phase_at stage) (agreed_at stage) (channels_view channels) method (events.Peer CommandInvalid) awaited;
      fits = tt;
    }

pub wrong_rules :
    (settings : Settings) (stage : Stage) (channels : Channels) (method : Method) → is_in_handshake (phase_at stage) ≡ true
    → awaited_in (phase_at stage) method.kind ≡ true → answered_in (role_for settings) (phase_at stage) ≡ false
    → FrameRules settings (end_at stage channels) 0 (Calls method) (OnConnection (Faults (faults.Peer codes.CommandInvalid)))
wrong_rules settings stage channels method h awaited wrong =
    record {
      verdict = sym (steps.wrong_verdict (role_for settings) (config_view settings) (phase_at stage) (agreed_at stage) method h awaited wrong);
      leaves = steps.wrong_left (role_for settings) (config_view settings) (phase_at stage) (agreed_at stage) (channels_view channels) method (events.Peer CommandInvalid) wrong;
      fits = tt;
    }

pub ruleset step_rules = (secure_rules, order_rules, wrong_rules)

-- Heartbeats.

pub quiet_rules :
    (settings : Settings) (stage : Stage) (channels : Channels) → takes_frames (phase_at stage) ≡ true → leaves (phase_at stage) ≡ false
    → FrameRules settings (end_at stage channels) 0 (Beat true) (OnConnection (Proceeds notice.Quiet stage owed.Nothing))
quiet_rules settings stage channels takes stays =
    record {
      verdict = sym (beat_verdict (role_for settings) (config_view settings) (end_at stage channels) 0 true takes stays);
      leaves = λ kind payload. sym (nothing_stays (role_for settings) (config_view settings) (Beat true) (frame_at 0 kind payload) (end_at stage channels) tt);
      fits = (tt, λ e. e);
    }

pub bad_beat_rules :
    (settings : Settings) (stage : Stage) (channels : Channels) (number : ℕ) (empty : Bool)
    → takes_frames (phase_at stage) ≡ true → leaves (phase_at stage) ≡ false → ((number == 0) && empty) ≡ false
    → FrameRules settings (end_at stage channels) number (Beat empty) (OnConnection (Faults (faults.Peer codes.FrameError)))
bad_beat_rules settings stage channels number empty takes stays bad =
    record {
      verdict =
          sym (beat_verdict (role_for settings) (config_view settings) (end_at stage channels) number empty takes stays
          ∙ ap (λ b. cond b (events.Proceeds (Some events.Quiet) []) (fault FrameError)) bad);
      leaves = unread_faults (role_for settings) (config_view settings) number (Beat empty) (end_at stage channels) (events.Peer FrameError) tt;
      fits = tt;
    }

pub ruleset beat_rules = (quiet_rules, bad_beat_rules)

-- What is no method, until the handshake is over.

abbrev code_in_handshake : Reading → CloseCode
code_in_handshake UnknownMethod = NotImplemented
code_in_handshake MalformedMethod = SyntaxError
code_in_handshake reading = CommandInvalid

abbrev IsNoBeat : Reading → Type 0
IsNoBeat (Calls method) = ⊥
IsNoBeat (Beat empty) = ⊥
IsNoBeat reading = Unit {0}

early : (role : Role) (config : Config role) (phase : model.Phase) (agreed : Option model.Agreed) (number : ℕ) (channel : model.Channel) (reading : Reading)
    → is_in_handshake phase ≡ true → is_free channel ≡ true → IsNoBeat reading
    → verdict_on (record { config = config; phase = phase; agreed = agreed; number = number; channel = channel }) reading ≡ fault (code_in_handshake reading)
early role config (model.Handshake step) agreed number model.Free UnknownMethod h free other = refl
early role config (model.Handshake step) agreed number model.Free MalformedMethod h free other = refl
early role config (model.Handshake step) agreed number model.Free (HeaderOf size properties) h free other = refl
early role config (model.Handshake step) agreed number model.Free MalformedHeader h free other = refl
early role config (model.Handshake step) agreed number model.Free (BodyOf octets) h free other = refl
early role config (model.Handshake step) agreed number model.Free (Calls method) h free other = absurd other
early role config (model.Handshake step) agreed number model.Free (Beat empty) h free other = absurd other
early role config (model.Handshake step) agreed number model.Opening reading h free other = cc
early role config (model.Handshake step) agreed number model.Closing reading h free other = cc
early role config (model.Handshake step) agreed number (model.Open life) reading h free other = cc
early role config model.Running agreed number channel reading h free other = cc
early role config model.Closing agreed number channel reading h free other = cc
early role config model.Closed agreed number channel reading h free other = cc
early role config model.Failed agreed number channel reading h free other = cc

early_rules :
    (settings : Settings) (stage : Stage) (channels : Channels) (number : ℕ) (reading : Reading) (code : code_codes.CloseCode)
    → is_in_handshake (phase_at stage) ≡ true → is_free (channels_view channels number) ≡ true → IsNoBeat reading → IsNoCall reading
    → code_view code ≡ code_in_handshake reading
    → FrameRules settings (end_at stage channels) number reading (OnConnection (Faults (faults.Peer code)))
early_rules settings stage channels number reading code h free other none same =
    record {
      verdict =
          ap (λ c. fault c) same
          ∙ sym (early (role_for settings) (config_view settings) (phase_at stage) (agreed_at stage) number (channels_view channels number) reading h free other);
      leaves = unread_faults (role_for settings) (config_view settings) number reading (end_at stage channels) (events.Peer (code_view code)) none;
      fits = tt;
    }

pub early_unknown :
    (settings : Settings) (stage : Stage) (channels : Channels) (number : ℕ) → is_in_handshake (phase_at stage) ≡ true → is_free (channels_view channels number) ≡ true
    → FrameRules settings (end_at stage channels) number UnknownMethod (OnConnection (Faults (faults.Peer codes.NotImplemented)))
early_unknown settings stage channels number h free = early_rules settings stage channels number UnknownMethod codes.NotImplemented h free tt tt refl

pub early_malformed :
    (settings : Settings) (stage : Stage) (channels : Channels) (number : ℕ) → is_in_handshake (phase_at stage) ≡ true → is_free (channels_view channels number) ≡ true
    → FrameRules settings (end_at stage channels) number MalformedMethod (OnConnection (Faults (faults.Peer codes.SyntaxError)))
early_malformed settings stage channels number h free = early_rules settings stage channels number MalformedMethod codes.SyntaxError h free tt tt refl

pub early_header :
    (settings : Settings) (stage : Stage) (channels : Channels) (number size : ℕ) (properties : Properties) → is_in_handshake (phase_at stage) ≡ true → is_free (channels_view channels number) ≡ true
    → FrameRules settings (end_at stage channels) number (HeaderOf size properties) (OnConnection (Faults (faults.Peer codes.CommandInvalid)))
early_header settings stage channels number size properties h free = early_rules settings stage channels number (HeaderOf size properties) codes.CommandInvalid h free tt tt refl

pub early_bad_header :
    (settings : Settings) (stage : Stage) (channels : Channels) (number : ℕ) → is_in_handshake (phase_at stage) ≡ true → is_free (channels_view channels number) ≡ true
    → FrameRules settings (end_at stage channels) number MalformedHeader (OnConnection (Faults (faults.Peer codes.CommandInvalid)))
early_bad_header settings stage channels number h free = early_rules settings stage channels number MalformedHeader codes.CommandInvalid h free tt tt refl

pub early_body :
    (settings : Settings) (stage : Stage) (channels : Channels) (number : ℕ) (octets : List ℕ) → is_in_handshake (phase_at stage) ≡ true → is_free (channels_view channels number) ≡ true
    → FrameRules settings (end_at stage channels) number (BodyOf octets) (OnConnection (Faults (faults.Peer codes.CommandInvalid)))
early_body settings stage channels number octets h free = early_rules settings stage channels number (BodyOf octets) codes.CommandInvalid h free tt tt refl

pub free_stays : (channel : model.Channel) → is_free channel ≡ true → is_closing_at channel ≡ false
free_stays model.Free h = refl
free_stays model.Opening h = cc
free_stays model.Closing h = cc
free_stays (model.Open life) h = cc

-- a method on another channel than 0
pub early_call :
    (settings : Settings) (stage : Stage) (channels : Channels) (number : ℕ) (method : Method) → is_in_handshake (phase_at stage) ≡ true
    → is_free (channels_view channels number) ≡ true → 0 < number
    → FrameRules settings (end_at stage channels) number (Calls method) (OnConnection (Faults (faults.Peer codes.CommandInvalid)))
early_call settings stage channels number method h free above =
    record {
      verdict =
          sym (steps.off_channel (role_for settings) (config_view settings) (phase_at stage) (agreed_at stage) number (channels_view channels number) method h
          (free_stays (channels_view channels number) free) above);
      leaves = steps.above_left (role_for settings) (config_view settings) number (Calls method) (end_at stage channels) (events.Peer CommandInvalid) above;
      fits = tt;
    }

handshake_stays : (phase : model.Phase) → is_in_handshake phase ≡ true → leaves phase ≡ false
handshake_stays (model.Handshake step) h = refl
handshake_stays model.Running h = cc
handshake_stays model.Closing h = cc
handshake_stays model.Closed h = cc
handshake_stays model.Failed h = cc

pub stage_stays : (stage : Stage) → is_in_handshake (phase_at stage) ≡ true → leaves (phase_at stage) ≡ false
stage_stays stage h = handshake_stays (phase_at stage) h

pub ruleset handshake_rules = (early_unknown, early_malformed, early_header, early_bad_header, early_body, early_call, stage_stays, free_stays)

-- What is no method, on channel 0 of a connection that is Running.

zero_fault :
    (settings : Settings) (agreed : code_agreed.Agreed) (channels : Channels) (reading : Reading) (code : code_codes.CloseCode) → IsNoCall reading
    → fault (code_view code) ≡ taken_verdict (config_view settings) (end_at (stages.Running agreed) channels) 0 reading
    → FrameRules settings (end_at (stages.Running agreed) channels) 0 reading (OnConnection (Faults (faults.Peer code)))
zero_fault settings agreed channels reading code none same =
    record {
      verdict = same;
      leaves = unread_faults (role_for settings) (config_view settings) 0 reading (end_at (stages.Running agreed) channels) (events.Peer (code_view code)) none;
      fits = tt;
    }

pub zero_unknown :
    (settings : Settings) (agreed : code_agreed.Agreed) (channels : Channels)
    → FrameRules settings (end_at (stages.Running agreed) channels) 0 UnknownMethod (OnConnection (Faults (faults.Peer codes.NotImplemented)))
zero_unknown settings agreed channels = zero_fault settings agreed channels UnknownMethod codes.NotImplemented tt refl

pub zero_malformed :
    (settings : Settings) (agreed : code_agreed.Agreed) (channels : Channels)
    → FrameRules settings (end_at (stages.Running agreed) channels) 0 MalformedMethod (OnConnection (Faults (faults.Peer codes.SyntaxError)))
zero_malformed settings agreed channels = zero_fault settings agreed channels MalformedMethod codes.SyntaxError tt refl

pub zero_header :
    (settings : Settings) (agreed : code_agreed.Agreed) (channels : Channels) (size : ℕ) (properties : Properties)
    → FrameRules settings (end_at (stages.Running agreed) channels) 0 (HeaderOf size properties) (OnConnection (Faults (faults.Peer codes.ChannelError)))
zero_header settings agreed channels size properties = zero_fault settings agreed channels (HeaderOf size properties) codes.ChannelError tt refl

pub zero_bad_header :
    (settings : Settings) (agreed : code_agreed.Agreed) (channels : Channels)
    → FrameRules settings (end_at (stages.Running agreed) channels) 0 MalformedHeader (OnConnection (Faults (faults.Peer codes.ChannelError)))
zero_bad_header settings agreed channels = zero_fault settings agreed channels MalformedHeader codes.ChannelError tt refl

pub zero_body :
    (settings : Settings) (agreed : code_agreed.Agreed) (channels : Channels) (octets : List ℕ)
    → FrameRules settings (end_at (stages.Running agreed) channels) 0 (BodyOf octets) (OnConnection (Faults (faults.Peer codes.ChannelError)))
zero_body settings agreed channels octets = zero_fault settings agreed channels (BodyOf octets) codes.ChannelError tt refl

pub ruleset zero_rules = (zero_unknown, zero_malformed, zero_header, zero_bad_header, zero_body)

-- A channel's verdict.

zero_no : (n : ℕ) → (0 == suc n) ≡ false
zero_no n = grind (arith, nat_tests)

zero_stays : (number : ℕ) (channel : model.Channel) (end : model.End) → 0 < number → (with_channel number channel end).channels 0 ≡ end.channels 0
zero_stays zero channel end above = absurd (omega arith)
zero_stays (suc n) channel end above = rw (zero_no n) refl

ruled_left :
    (role : Role) (config : Config role) (number : ℕ) (reading : Reading) (said : channel_verdict.Verdict) (end : model.End) → 0 < number
    → leaves end.phase ≡ false
    → ((kind : FrameKind) (payload : List ℕ) → LeavesAfter role number (frame_at number kind payload) reading
    (verdict_view number reading (whole_now (end.channels number) reading) said) (end.channels number)
    (left_by role reading said (end.channels number)))
    → EndLeft config number reading (verdict_view number reading (whole_now (end.channels number) reading) said) end
    (with_channel number (left_by role reading said (end.channels number)) end)
ruled_left role config number reading (ruled.Proceeds told due) end above stays left = λ kind payload.
    ap (λ c. with_channel number c end) (left kind payload)
    ∙ sym (taken_above role config number (TookHere reading (frame_at number kind payload)) (reply_to (reply_there due)) end above stays)
ruled_left role config number reading ruled.RefusesContent end above stays left = λ kind payload.
    ap (λ c. with_channel number c end) (left kind payload)
    ∙ sym (taken_above role config number (TookHere reading (frame_at number kind payload)) (close_as kinds.ChannelClose (number_of ContentTooLarge) (text_of ContentTooLarge) ∷ []) end above stays)
ruled_left role config number reading (ruled.Faults code) end above stays left =
    ((λ kind payload. sym (agreed_above role config number (TookHere reading (frame_at number kind payload)) end above)), zero_stays number _ end above)

pub channel_rules :
    (settings : Settings) (agreed : code_agreed.Agreed) (channels : Channels) (number : ℕ) (site : Site) (reading : Reading) (said : channel_verdict.Verdict)
    → site ≡ site_at settings number agreed.channel_max → 0 < number
    → Rules site (channels_view channels site.number) reading said
    → FrameRules settings (end_at (stages.Running agreed) channels) number reading (OnChannel said)
channel_rules settings agreed channels number site reading said site_is above rules =
    let P : Site → Type 0 = λ s. Rules s (channels_view channels s.number) reading said in
    let here : P (site_at settings number agreed.channel_max) = subst P site_is rules in
    record {
      verdict = here.verdict (config_view settings) (agreed_view agreed) refl;
      leaves =
          ruled_left (role_for settings) (config_view settings) number reading said (end_at (stages.Running agreed) channels) above refl
          (λ kind payload. here.leaves (frame_at number kind payload));
      fits = (above, refl, here.fits, here.unanswered);
    }
