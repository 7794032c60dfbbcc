-- The lists go on with the frames that are put; a refused ask leaves them.
use Rattle.std.proofs.Common.{◌+◌, ◌*◌, ◌≤◌, length, vec_len, vec_capacity, refl, ap, sym, ◌∙◌, subst, arith, rules}
use Rattle.std.proofs.lemmas.Result.{err_from_is_err_and}
use Rattle.amqp_model.specs.End.Asks.{frames_asked}
use Rattle.amqp_model.specs.End.LawfulHistories.{then_put}
use Rattle.amqp_model.specs.Output.Outputs.{output_octets}
use Rattle.amqp_channel.specs.Roles.{role_of}
use Rattle.amqp_core.specs.Traced.NotedAsks.{count_asked}
use Rattle.amqp_core.specs.Asks.View.{lent_view}
use Rattle.amqp_core.specs.End.View.{config_at, endpoint_of, role_played, settings_at}
use Rattle.amqp_core.specs.Config.Settings.{role_for}
use Rattle.amqp_core.specs.Traced.Fields.{kept_of}
use Rattle.amqp_core.specs.declared.settings.Settings.{Settings}
use Rattle.amqp_core.proofs.ControlTrace.{same_lists}
use Rattle.amqp_core.proofs.TracedLemmas.{asked-after, put-room, put-traces, refused-after, traced-same, traces-kept, traces-same}
use Rattle.amqp_core.proofs.traced.Traced.ask_lent.Goals as goal

-- it is refused
pub returns-in_err-place-clause-asked : goal.returns-in_err-place-clause-asked
returns-in_err-place-clause-asked g c =
    let p = err_from_is_err_and c.from_residual.result c.from_residual.ensures.1 in
    rw (p.1, p.2) (record {
      accepted = tt;
      refused = c.in_err-place.ensures.refused;
      history = tt;
      same = same_lists (kept_of c.args.self.now.end c.args.self.now.ledger);
      fed = refl;
      written = refl;
      settings = refl;
      heard = refl;
    })

pub returns-in_default-clause-asked : goal.returns-in_default-clause-asked
returns-in_default-clause-asked g c = record {
  accepted = tt;
  refused = search rules;
  history = tt;
  same = c.room_for_ask.ensures.same;
  fed = sym c.room_for_ask.ensures.same.fed;
  written = sym c.room_for_ask.ensures.same.written;
  settings = refl;
  heard = refl;
}

pub returns-clause-asked : goal.returns-clause-asked
returns-clause-asked g c =
    let end = c.args.self.now.end in
    let old = kept_of end c.args.self.now.ledger in
    let ready = kept_of end c.room_for_ask.new.ledger in
    let new = kept_of c.put.new.end c.put.new.ledger in
    let lists = c.room_for_ask.ensures.same in
    record {
      accepted = c.put.ensures.accepted;
      refused = c.put.ensures.refused;
      history =
          asked-after c.put.result (role_played end) (config_at end) old ready new
          (λ history. then_put (frames_asked (endpoint_of end).end (lent_view c.args.ask)) history) refl lists c.put.ensures.history;
      same = refused-after c.put.result old ready new lists c.put.ensures.same;
      fed = (λ i. (c.put.ensures.fed i).items) ∙ sym lists.fed;
      written = (λ i. (c.put.ensures.written i).items) ∙ sym lists.written;
      settings = c.put.ensures.settings;
      heard = c.put.ensures.heard;
    }

-- there was no room
pub invariant_of-self : goal.invariant_of-self
invariant_of-self g c =
    let self = c.args.self.now in
    let end = self.end in
    let ready = kept_of end c.room_for_ask.new.ledger in
    record {
      plays = ap role_of c.room_for_ask.ensures.side ∙ self.plays;
      room = omega (arith, c.room_for_ask.ensures.kept, c.room_for_ask.ensures.capacity, self.room);
      traces = traces-same (role_played end) (config_at end) (kept_of end self.ledger) ready
          (λ history traced. traced-same (role_played end) (config_at end) (kept_of end self.ledger) ready history refl c.room_for_ask.ensures.same traced) self.traces;
    }

pub invariant_of-self-2 : goal.invariant_of-self-2
invariant_of-self-2 g c =
    let self = c.args.self.now in
    let end = self.end in
    let role = role_played end in
    let config = config_at end in
    let ask = lent_view c.args.ask in
    let ready = kept_of end c.room_for_ask.new.ledger in
    let new = kept_of c.put.new.end c.put.new.ledger in
    let there = traces-same role config (kept_of end self.ledger) ready (λ history traced. traced-same role config (kept_of end self.ledger) ready history refl c.room_for_ask.ensures.same traced) self.traces in
    record {
      plays = ap role_of (c.put.ensures.side ∙ c.room_for_ask.ensures.side) ∙ (self.plays ∙ sym (ap (λ (s : Settings). role_for s) c.put.ensures.settings));
      room = subst (λ w. vec_len w + length (output_octets (endpoint_of c.put.new.end).output) ≤ vec_capacity w) (sym c.put.ensures.written)
          (put-room c.put.result role ask (endpoint_of end) (endpoint_of c.put.new.end) (count_asked c.in_ok-place.place.frame_max ask * c.in_ok-place.place.frame_max) (vec_len c.room_for_ask.new.ledger.written) (vec_capacity c.room_for_ask.new.ledger.written)
          c.put.ensures.grows c.put.ensures.refused c.in-Ok.ensures.written);
      traces = traces-kept (settings_at end) (settings_at c.put.new.end) new c.put.ensures.settings
          (put-traces c.put.result role config ask ready new (λ history. then_put (frames_asked (endpoint_of end).end ask) history) c.put.ensures.history c.put.ensures.same c.put.ensures.refused there);
    }
