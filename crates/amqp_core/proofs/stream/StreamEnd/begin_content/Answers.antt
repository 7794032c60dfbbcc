-- What holds of the end holds of its endpoint, and the histories go on by the ask and then by the write.
use Rattle.std.proofs.Common.{◌≡◌, ◌<◌, ◌≤◌, ◌+◌, ◌-◌, ◌++◌, [], min, take, drop, length, length-append, take-append-drop, ap, ap₂, ◌∙◌, false, refl, sym, arith, List, ℕ}
use Rattle.std.proofs.lemmas.List.{nil_from_length}
use Rattle.amqp_method.specs.HeaderView.{properties_view}
use Rattle.amqp_method.specs.MethodView.{method_view}
use Rattle.amqp_model.specs.End.Asks.{frames_asked}
use Rattle.amqp_model.specs.Output.Outputs.{output_octets}
use Rattle.amqp_outbox.specs.BodyToCome.{still_to_write}
use Rattle.amqp_core.specs.Asks.Outcomes.{content_asked}
use Rattle.amqp_core.specs.End.EndpointView.{endpoint_view}
use Rattle.amqp_core.specs.Config.Settings.{role_for}
use Rattle.amqp_core.specs.Stream.LentAsks.{asked_of}
use Rattle.amqp_core.specs.Stream.View.{config_at, endpoint_of, role_played}
use Rattle.amqp_core.specs.declared.settings.Settings.{Settings}
use Rattle.amqp_core.specs.Faults.Blamed.{Tally}
use Rattle.amqp_core.proofs.KeptLemmas.{kept_sound, sound_kept}
use Rattle.amqp_core.proofs.StreamHistoryLemmas.{stream_ask_goes_on, stream_ask_is_of_history, stream_wrote_goes_on}
use Rattle.amqp_core.proofs.stream.StreamEnd.begin_content.Goals as goal

-- What waits, by how many octets it is.

none_waits : (waiting : ℕ) (octets : List ℕ) → waiting ≡ length octets → waiting ≤ 0 → octets ≡ []
none_waits waiting octets e none = nil_from_length octets (omega arith)

some_wait : (waiting : ℕ) (octets : List ℕ) → waiting ≡ length octets → 0 < waiting → octets ≡ [] → ⊥
some_wait waiting octets e some empty = let a = ap length empty in absurd (omega arith)

all_of_it : (n : ℕ) → n ≤ n
all_of_it n = omega arith

-- What is appended now, and what is still to be written, are all octets of the frames.

is_after : (before after : List ℕ) → take (length before) after ≡ before → length before ≤ length after
is_after before after e =
    let a = ap length e in
    let b = ap length (take-append-drop (length before) after) in
    let c = length-append (take (length before) after) (drop (length before) after) in
    omega arith

sized_in_all : (before after later lent : List ℕ) → after ++ later ≡ before ++ lent → length after + length later ≡ length before + length lent
sized_in_all before after later lent e = let a = ap length e in let b = length-append after later in let c = length-append before lent in omega arith

counted_sum : (most old ahead later n before after count result : ℕ)
    → count ≡ min (old + ahead) most → ahead ≡ after - before → before ≤ after → after + later ≡ before + n → result ≡ min (count + later) most
    → result ≡ min (old + n) most
counted_sum most old ahead later n before after count result a b c d e = omega arith

pub begin_content-requires-clause-nothing : goal.begin_content-requires-clause-nothing
begin_content-requires-clause-nothing g c = none_waits c.waiting_in_all.result (output_octets c.args.self.now.inner.outbox.output) c.waiting_in_all.ensures c.if-waiting_in_all-gt0.false

pub begin_content-requires-clause-sound : goal.begin_content-requires-clause-sound
begin_content-requires-clause-sound g c = kept_sound c.args.self.now.inner c.args.self.now.kept

pub invariant_of-self : goal.invariant_of-self
invariant_of-self g c = record {
  kept = sound_kept c.begin_content.new.self c.begin_content.ensures.sound;
  plays = ap (λ (s : Settings). role_for s) c.begin_content.ensures.settings ∙ c.args.self.now.plays;
  lends = ap (λ (s : Settings). s.lends) c.begin_content.ensures.settings ∙ c.args.self.now.lends;
}

pub invariant_of-self-in-Err-1 : goal.invariant_of-self-in-Err-1
invariant_of-self-in-Err-1 g c = record {
  kept = sound_kept c.begin_content.new.self c.begin_content.ensures.sound;
  plays = ap (λ (s : Settings). role_for s) c.begin_content.ensures.settings ∙ c.args.self.now.plays;
  lends = ap (λ (s : Settings). s.lends) c.begin_content.ensures.settings ∙ c.args.self.now.lends;
}

pub returns-then-waiting_in_all-gt0-clause-begins : goal.returns-then-waiting_in_all-gt0-clause-begins
returns-then-waiting_in_all-gt0-clause-begins g c = λ content body sized.
    let old = c.args.self.now in
    let asked = content_asked c.args.channel (method_view c.args.method.now) (properties_view c.args.properties.now) body in
    record {
      accepted = tt;
      written = tt;
      alone = tt;
      lent = tt;
      refused = some_wait c.waiting_in_all.result (output_octets old.inner.outbox.output) c.waiting_in_all.ensures c.if-waiting_in_all-gt0.true;
      same = refl;
      history = tt;
      history_written = tt;
      of_history = stream_ask_is_of_history (role_played old) (config_at old) asked (endpoint_of old)
          (λ end history. c.ask_is_of_history.ensures (role_played old) (config_at old) false end history asked) c.alike_ends_ask_alike.ensures.answer;
      counters = tt;
      counters_same = refl;
      heard = refl;
      settings = refl;
    }

pub returns-in-Ok-clause-begins : goal.returns-in-Ok-clause-begins
returns-in-Ok-clause-begins g c = λ content body sized.
    let old = c.args.self.now in
    let role = role_played old in
    let config = config_at old in
    let asked = content_asked c.args.channel (method_view c.args.method.now) (properties_view c.args.properties.now) body in
    let between = asked_of old asked in
    let n = length (output_octets between.output) in
    let new = endpoint_view c.begin_content.new.self in
    let before = c.args.octets.now.items in
    let after = c.begin_content.new.octets.items in
    let later = still_to_write c.in-Ok.writer body in
    let ahead = c.len.result - c.len-before.result in
    let ahead_is : ahead ≡ length after - length before = omega (arith, c.len.ensures, c.len-before.ensures, c.args.octets.now.ok.0, c.begin_content.new.octets.ok.0) in
    record {
      accepted = c.in-Ok.ensures.accepted body sized;
      written = c.in-Ok.ensures.written body sized;
      alone = none_waits c.waiting_in_all.result (output_octets old.inner.outbox.output) c.waiting_in_all.ensures c.if-waiting_in_all-gt0.false;
      lent = c.in-Ok.ensures.begun body sized;
      refused = tt;
      same = tt;
      history = stream_ask_goes_on role config asked (endpoint_of old) between (c.in-Ok.ensures.accepted body sized) old.kept.fields.agreed
          (c.frames_fit.ensures.asked role (endpoint_of old).end asked (frames_asked (endpoint_of old).end asked))
          (λ endpoint history fed written. c.octets_follow.ensures.accepted role config endpoint history fed written asked (frames_asked (endpoint_of old).end asked))
          c.alike_ends_ask_alike.ensures.answer c.alike_endpoints_stay_alike.ensures.asked;
      history_written = stream_wrote_goes_on role config n between new (c.in-Ok.ensures.written body sized) (all_of_it n)
          (λ endpoint history fed written. c.octets_follow.ensures.wrote role config endpoint history fed written n)
          c.alike_endpoints_stay_alike.ensures.written;
      of_history = stream_ask_is_of_history role config asked (endpoint_of old)
          (λ end history. c.ask_is_of_history.ensures role config false end history asked) c.alike_ends_ask_alike.ensures.answer;
      counters = ap₂ (λ (o : ℕ) (t : Tally). record { frames = old.frames_taken; octets = o; tally = t })
          (counted_sum 18446744073709551615 old.octets_written ahead (length later) n (length before) (length after) c.saturating_add.result c.add_to-self.result
          c.saturating_add.ensures ahead_is (is_after before after c.begin_content.ensures.stays)
          (sized_in_all before after later (output_octets between.output) (c.in-Ok.ensures.begun body sized)) (c.add_to-self.ensures body (sized ∙ sym c.in-Ok.ensures.left)))
          c.begin_content.ensures.tally;
      counters_same = tt;
      heard = refl;
      settings = c.begin_content.ensures.settings;
    }

pub returns-in-Err-clause-begins : goal.returns-in-Err-clause-begins
returns-in-Err-clause-begins g c = λ content body sized.
    let old = c.args.self.now in
    let role = role_played old in
    let config = config_at old in
    let asked = content_asked c.args.channel (method_view c.args.method.now) (properties_view c.args.properties.now) body in
    record {
      accepted = tt;
      written = tt;
      alone = tt;
      lent = tt;
      refused = c.in-Err.ensures.refused body;
      same = (c.in-Err.ensures.refused body).same;
      history = tt;
      history_written = tt;
      of_history = stream_ask_is_of_history role config asked (endpoint_of old)
          (λ end history. c.ask_is_of_history.ensures role config false end history asked) c.alike_ends_ask_alike.ensures.answer;
      counters = tt;
      counters_same = ap (λ (t : Tally). record { frames = old.frames_taken; octets = old.octets_written; tally = t }) c.begin_content.ensures.tally;
      heard = refl;
      settings = c.begin_content.ensures.settings;
    }
