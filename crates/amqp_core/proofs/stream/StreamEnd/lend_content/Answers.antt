-- What holds of the end holds of its endpoint, and the histories go on by the ask and then by the write.
use Rattle.std.proofs.Common.{◌≡◌, ◌<◌, ◌≤◌, [], length, ap, ap₂, ◌∙◌, false, refl, arith, List, ℕ}
use Rattle.std.proofs.lemmas.List.{nil_from_length}
use Rattle.amqp_method.specs.HeaderView.{properties_view}
use Rattle.amqp_method.specs.MethodView.{method_view}
use Rattle.amqp_model.specs.End.Asks.{frames_asked}
use Rattle.amqp_model.specs.Output.Outputs.{output_octets}
use Rattle.amqp_outbox.specs.LentFrames.{content_left}
use Rattle.amqp_core.specs.Asks.Outcomes.{content_asked}
use Rattle.amqp_core.specs.End.EndpointView.{endpoint_view}
use Rattle.amqp_core.specs.Config.Settings.{role_for}
use Rattle.amqp_core.specs.Stream.LentAsks.{asked_of}
use Rattle.amqp_core.specs.Stream.View.{config_at, endpoint_of, role_played}
use Rattle.amqp_core.specs.declared.settings.Settings.{Settings}
use Rattle.amqp_core.specs.Faults.Blamed.{Tally, counted}
use Rattle.amqp_core.proofs.KeptLemmas.{kept_sound, sound_kept}
use Rattle.amqp_core.proofs.StreamHistoryLemmas.{stream_ask_goes_on, stream_ask_is_of_history, stream_wrote_goes_on}
use Rattle.amqp_core.proofs.stream.StreamEnd.lend_content.Goals as goal

-- What waits, by how many octets it is.

none_waits : (waiting : ℕ) (octets : List ℕ) → waiting ≡ length octets → waiting ≤ 0 → octets ≡ []
none_waits waiting octets e none = nil_from_length octets (omega arith)

some_wait : (waiting : ℕ) (octets : List ℕ) → waiting ≡ length octets → 0 < waiting → octets ≡ [] → ⊥
some_wait waiting octets e some empty = let a = ap length empty in absurd (omega arith)

all_of_it : (n : ℕ) → n ≤ n
all_of_it n = omega arith

counted_all : (before lent n result : ℕ) → result ≡ counted before lent → lent ≡ n → result ≡ counted before n
counted_all before lent n result e same = e ∙ ap (counted before) same

pub lend_content-requires-clause-nothing : goal.lend_content-requires-clause-nothing
lend_content-requires-clause-nothing g c = none_waits c.waiting_in_all.result (output_octets c.args.self.now.inner.outbox.output) c.waiting_in_all.ensures c.if-waiting_in_all-gt0.false

pub lend_content-requires-clause-sound : goal.lend_content-requires-clause-sound
lend_content-requires-clause-sound g c = kept_sound c.args.self.now.inner c.args.self.now.kept

pub invariant_of-self : goal.invariant_of-self
invariant_of-self g c = record {
  kept = sound_kept c.lend_content.new.self c.lend_content.ensures.sound;
  plays = ap (λ (s : Settings). role_for s) c.lend_content.ensures.settings ∙ c.args.self.now.plays;
  lends = ap (λ (s : Settings). s.lends) c.lend_content.ensures.settings ∙ c.args.self.now.lends;
}

pub invariant_of-self-in-Err-1 : goal.invariant_of-self-in-Err-1
invariant_of-self-in-Err-1 g c = record {
  kept = sound_kept c.lend_content.new.self c.lend_content.ensures.sound;
  plays = ap (λ (s : Settings). role_for s) c.lend_content.ensures.settings ∙ c.args.self.now.plays;
  lends = ap (λ (s : Settings). s.lends) c.lend_content.ensures.settings ∙ c.args.self.now.lends;
}

pub returns-then-waiting_in_all-gt0-clause-lends : goal.returns-then-waiting_in_all-gt0-clause-lends
returns-then-waiting_in_all-gt0-clause-lends g c = λ content.
    let old = c.args.self.now in
    let asked = content_asked c.args.channel (method_view c.args.method.now) (properties_view c.args.properties.now) c.args.body.now in
    record {
      accepted = tt;
      written = tt;
      alone = tt;
      lent = tt;
      refused = some_wait c.waiting_in_all.result (output_octets old.inner.outbox.output) c.waiting_in_all.ensures c.if-waiting_in_all-gt0.true;
      same = refl;
      history = tt;
      history_written = tt;
      of_history = stream_ask_is_of_history (role_played old) (config_at old) asked (endpoint_of old)
          (λ end history. c.ask_is_of_history.ensures (role_played old) (config_at old) false end history asked) c.alike_ends_ask_alike.ensures.answer;
      counters = tt;
      counters_same = refl;
      heard = refl;
      settings = refl;
    }

pub returns-in-Ok-clause-lends : goal.returns-in-Ok-clause-lends
returns-in-Ok-clause-lends g c = λ content.
    let old = c.args.self.now in
    let role = role_played old in
    let config = config_at old in
    let asked = content_asked c.args.channel (method_view c.args.method.now) (properties_view c.args.properties.now) c.args.body.now in
    let between = asked_of old asked in
    let n = length (output_octets between.output) in
    let new = endpoint_view c.lend_content.new.self in
    record {
      accepted = c.in-Ok.ensures.accepted;
      written = c.in-Ok.ensures.written;
      alone = none_waits c.waiting_in_all.result (output_octets old.inner.outbox.output) c.waiting_in_all.ensures c.if-waiting_in_all-gt0.false;
      lent = c.in-Ok.ensures.lent;
      refused = tt;
      same = tt;
      history = stream_ask_goes_on role config asked (endpoint_of old) between c.in-Ok.ensures.accepted old.kept.fields.agreed
          (c.frames_fit.ensures.asked role (endpoint_of old).end asked (frames_asked (endpoint_of old).end asked))
          (λ endpoint history fed written. c.octets_follow.ensures.accepted role config endpoint history fed written asked (frames_asked (endpoint_of old).end asked))
          c.alike_ends_ask_alike.ensures.answer c.alike_endpoints_stay_alike.ensures.asked;
      history_written = stream_wrote_goes_on role config n between new c.in-Ok.ensures.written (all_of_it n)
          (λ endpoint history fed written. c.octets_follow.ensures.wrote role config endpoint history fed written n)
          c.alike_endpoints_stay_alike.ensures.written;
      of_history = stream_ask_is_of_history role config asked (endpoint_of old)
          (λ end history. c.ask_is_of_history.ensures role config false end history asked) c.alike_ends_ask_alike.ensures.answer;
      counters = ap₂ (λ (o : ℕ) (t : Tally). record { frames = old.frames_taken; octets = o; tally = t })
          (counted_all old.octets_written (length (content_left c.in-Ok.frames)) n c.add_to-self.result c.add_to-self.ensures (ap length c.in-Ok.ensures.lent))
          c.lend_content.ensures.tally;
      counters_same = tt;
      heard = refl;
      settings = c.lend_content.ensures.settings;
    }

pub returns-in-Err-clause-lends : goal.returns-in-Err-clause-lends
returns-in-Err-clause-lends g c = λ content.
    let old = c.args.self.now in
    let role = role_played old in
    let config = config_at old in
    let asked = content_asked c.args.channel (method_view c.args.method.now) (properties_view c.args.properties.now) c.args.body.now in
    record {
      accepted = tt;
      written = tt;
      alone = tt;
      lent = tt;
      refused = c.in-Err.ensures.refused;
      same = c.in-Err.ensures.refused.same;
      history = tt;
      history_written = tt;
      of_history = stream_ask_is_of_history role config asked (endpoint_of old)
          (λ end history. c.ask_is_of_history.ensures role config false end history asked) c.alike_ends_ask_alike.ensures.answer;
      counters = tt;
      counters_same = ap (λ (t : Tally). record { frames = old.frames_taken; octets = old.octets_written; tally = t }) c.lend_content.ensures.tally;
      heard = refl;
      settings = c.lend_content.ensures.settings;
    }
