-- What is written of the output goes to what was written before.
use Rattle.std.proofs.Common.{◌≡◌, ◌+◌, ◌-◌, ◌≤◌, ◌++◌, length, map, drop, take, vec_len, ap, sym, ◌∙◌, subst, arith, rules}
use Rattle.std.proofs.lemmas.List.{length-drop, length-take-le}
use Rattle.amqp_model.specs.Stream.Endpoint.{Endpoint}
use Rattle.amqp_model.specs.Output.Outputs.{output_octets}
use Rattle.amqp_channel.specs.Roles.{role_of}
use Rattle.amqp_core.specs.End.View.{config_at, endpoint_of, role_played, settings_at}
use Rattle.amqp_core.specs.Traced.Notes.{note_view, telling_view}
use Rattle.amqp_core.specs.Config.Settings.{role_for}
use Rattle.amqp_core.specs.Traced.Fields.{kept_of}
use Rattle.amqp_core.specs.declared.settings.Settings.{Settings}
use Rattle.amqp_core.proofs.TracedLemmas.{trace-kept, traced-wrote, traces-kept, traces-same}
use Rattle.amqp_core.proofs.traced.Traced.wrote.Goals as goal

pub returns : goal.returns
returns g c =
    let end = c.args.self.now.end in
    let role = role_played end in
    let config = config_at end in
    let old = kept_of end c.args.self.now.ledger in
    let new = kept_of c.wrote.new.self c.write.new.self in
    record {
      endpoint = c.wrote.ensures.written;
      written = c.write.ensures.written ∙ ap (λ octets. old.written ++ take c.args.octets octets) c.output.ensures.octets;
      history = λ history traced.
          trace-kept (settings_at end) (settings_at c.wrote.new.self) new history c.wrote.ensures.settings
          (traced-wrote role config old new history c.args.octets
          (λ endpoint. c.octets_follow.ensures.wrote role config endpoint history old.fed old.written c.args.octets)
          (λ limit opening. c.octets_follow.ensures.wrote_failed role config limit opening history old.fed old.written (endpoint_of end) c.args.octets)
          (λ endpoint. c.memory_runs_out.ensures.wrote role config endpoint history old.fed old.written c.args.octets)
          c.requires c.wrote.ensures.written (λ i. map note_view (c.write.ensures.notes_same i).items) (λ i. map telling_view (c.write.ensures.told_same i).items)
          (λ i. map telling_view (c.write.ensures.said_same i).items) (λ i. (c.write.ensures.fed_same i).items)
          (c.write.ensures.written ∙ ap (λ octets. old.written ++ take c.args.octets octets) c.output.ensures.octets) traced);
      fed = λ i. (c.write.ensures.fed_same i).items;
      settings = c.wrote.ensures.settings;
      heard = search rules;
    }

pub invariant_of-self : goal.invariant_of-self
invariant_of-self g c =
    let end = c.args.self.now.end in
    let ledger = c.args.self.now.ledger in
    let role = role_played end in
    let config = config_at end in
    let old = kept_of end ledger in
    let new = kept_of c.wrote.new.self c.write.new.self in
    let left : output_octets (endpoint_of c.wrote.new.self).output ≡ drop c.args.octets (output_octets (endpoint_of end).output) =
    ap (λ (e : Endpoint). output_octets e.output) c.wrote.ensures.written ∙ (c.write_keeps_arranged.ensures.leaves c.args.octets (endpoint_of end).output c.requires).octets_are in
    let fewer : length (output_octets (endpoint_of c.wrote.new.self).output) ≡ length (output_octets (endpoint_of end).output) - c.args.octets = ap length left ∙ length-drop c.args.octets (output_octets (endpoint_of end).output) in
    let there = length-take-le c.args.octets c.output.result.now (subst (λ octets. c.args.octets ≤ length octets) (sym c.output.ensures.octets) c.requires) in
    let moved : vec_len c.write.new.self.written ≡ vec_len ledger.written + c.args.octets = c.write.ensures.len ∙ ap (λ n. vec_len ledger.written + n) there in
    record {
      plays = ap role_of c.write.ensures.side ∙ (c.args.self.now.plays ∙ sym (ap (λ (s : Settings). role_for s) c.wrote.ensures.settings));
      room = omega (arith, fewer, moved, c.write.ensures.capacity, c.args.self.now.room, c.requires);
      traces = traces-kept (settings_at end) (settings_at c.wrote.new.self) new c.wrote.ensures.settings
          (traces-same role config old new (λ history traced. (traced-wrote role config old new history c.args.octets
          (λ endpoint. c.octets_follow.ensures.wrote role config endpoint history old.fed old.written c.args.octets)
          (λ limit opening. c.octets_follow.ensures.wrote_failed role config limit opening history old.fed old.written (endpoint_of end) c.args.octets)
          (λ endpoint. c.memory_runs_out.ensures.wrote role config endpoint history old.fed old.written c.args.octets)
          c.requires c.wrote.ensures.written (λ i. map note_view (c.write.ensures.notes_same i).items) (λ i. map telling_view (c.write.ensures.told_same i).items)
          (λ i. map telling_view (c.write.ensures.said_same i).items) (λ i. (c.write.ensures.fed_same i).items)
          (c.write.ensures.written ∙ ap (λ octets. old.written ++ take c.args.octets octets) c.output.ensures.octets) traced)) c.args.self.now.traces);
    }
