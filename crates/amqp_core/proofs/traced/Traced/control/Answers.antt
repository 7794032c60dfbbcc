-- The lists go on with the frame that is put; where a control is refused they stay.
use Rattle.std.proofs.Common.{◌+◌, ◌≤◌, length, vec_len, vec_capacity, false, refl, ap, sym, ◌∙◌, subst, arith}
use Rattle.std.proofs.lemmas.Result.{err_from_is_err_and}
use Rattle.amqp_model.specs.End.LawfulHistories.{then_put}
use Rattle.amqp_model.specs.Output.Outputs.{output_octets}
use Rattle.amqp_channel.specs.Roles.{role_of}
use Rattle.amqp_core.specs.Asks.ControlView.{control_view}
use Rattle.amqp_core.specs.Asks.Controlled.{frames_by}
use Rattle.amqp_core.specs.Asks.Controlling.{verdict_at}
use Rattle.amqp_core.specs.End.View.{config_at, endpoint_of, role_played, settings_at}
use Rattle.amqp_core.specs.Config.Settings.{role_for}
use Rattle.amqp_core.specs.Traced.Fields.{kept_of}
use Rattle.amqp_core.specs.declared.settings.Settings.{Settings}
use Rattle.amqp_core.proofs.ControlTrace.{control-room, control-traces, same_lists}
use Rattle.amqp_core.proofs.TracedLemmas.{asked-after, refused-after, traced-same, traces-kept, traces-same}
use Rattle.amqp_core.proofs.traced.Traced.control.Goals as goal

-- it is refused
pub returns-in_err-allow_control : goal.returns-in_err-allow_control
returns-in_err-allow_control g c =
    let p = err_from_is_err_and c.from_residual.result c.from_residual.ensures.1 in
    rw (p.1, p.2) (record {
      accepted = tt;
      refused = c.in_err-allow_control.ensures.refused;
      same = same_lists (kept_of c.args.self.now.end c.args.self.now.ledger);
      history = tt;
      fed = refl;
      written = refl;
      settings = refl;
      heard = refl;
    })

-- there was no room
pub returns-in_default : goal.returns-in_default
returns-in_default g c =
    let end = c.args.self.now.end in
    record {
      accepted = tt;
      refused = record {
        refused = sym c.in_ok-allow_control.ensures.allowed;
        same = refl;
        of_history = λ history fed written stands.
            sym (c.controls_follow.ensures.history (role_played end) (config_at end) false (endpoint_of end).end history (control_view c.args.control) stands.stands);
      };
      same = c.make_room.ensures.same;
      history = tt;
      fed = sym c.make_room.ensures.same.fed;
      written = sym c.make_room.ensures.same.written;
      settings = refl;
      heard = refl;
    }

pub returns : goal.returns
returns g c =
    let end = c.args.self.now.end in
    let role = role_played end in
    let config = config_at end in
    let old = kept_of end c.args.self.now.ledger in
    let ready = kept_of end c.make_room.new.ledger in
    let new = kept_of c.put_control.new.end c.put_control.new.ledger in
    record {
      accepted = c.put_control.ensures.accepted;
      refused = c.put_control.ensures.refused;
      same = refused-after c.put_control.result old ready new c.make_room.ensures.same c.put_control.ensures.same;
      history =
          asked-after c.put_control.result role config old ready new
          (λ history. then_put (frames_by (verdict_at role config (control_view c.args.control) (endpoint_of end))) history) refl c.make_room.ensures.same
          c.put_control.ensures.history;
      fed = (λ i. (c.put_control.ensures.fed i).items) ∙ sym c.make_room.ensures.same.fed;
      written = (λ i. (c.put_control.ensures.written i).items) ∙ sym c.make_room.ensures.same.written;
      settings = c.put_control.ensures.settings;
      heard = c.put_control.ensures.heard;
    }

pub invariant_of-self : goal.invariant_of-self
invariant_of-self g c =
    let self = c.args.self.now in
    let end = self.end in
    let ready = kept_of end c.make_room.new.ledger in
    record {
      plays = ap role_of c.make_room.ensures.side ∙ self.plays;
      room = omega (arith, c.make_room.ensures.kept, c.make_room.ensures.capacity, self.room);
      traces = traces-same (role_played end) (config_at end) (kept_of end self.ledger) ready
          (λ history traced. traced-same (role_played end) (config_at end) (kept_of end self.ledger) ready history refl c.make_room.ensures.same traced) self.traces;
    }

pub invariant_of-self-2 : goal.invariant_of-self-2
invariant_of-self-2 g c =
    let self = c.args.self.now in
    let end = self.end in
    let role = role_played end in
    let config = config_at end in
    let control = control_view c.args.control in
    let ready = kept_of end c.make_room.new.ledger in
    let new = kept_of c.put_control.new.end c.put_control.new.ledger in
    let there = traces-same role config (kept_of end self.ledger) ready (λ history traced. traced-same role config (kept_of end self.ledger) ready history refl c.make_room.ensures.same traced) self.traces in
    record {
      plays = ap role_of (c.put_control.ensures.side ∙ c.make_room.ensures.side) ∙ (self.plays ∙ sym (ap (λ (s : Settings). role_for s) c.put_control.ensures.settings));
      room = subst (λ w. vec_len w + length (output_octets (endpoint_of c.put_control.new.end).output) ≤ vec_capacity w) (sym c.put_control.ensures.written)
          (control-room c.put_control.result role config control (endpoint_of end) (endpoint_of c.put_control.new.end) 4096 (vec_len c.make_room.new.ledger.written) (vec_capacity c.make_room.new.ledger.written)
          c.put_control.ensures.grows c.put_control.ensures.refused c.in-Ok.ensures.written);
      traces = traces-kept (settings_at end) (settings_at c.put_control.new.end) new c.put_control.ensures.settings
          (control-traces c.put_control.result role config control ready new (λ history. then_put (frames_by (verdict_at role config control (endpoint_of end))) history) c.put_control.ensures.history c.put_control.ensures.same c.put_control.ensures.refused there);
    }
