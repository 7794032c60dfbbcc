-- An ask of an end that is kept with its history.
use Rattle.std.proofs.Common.{◌≡◌, ◌≤◌, false, ℕ, List, ◌++◌, map, Option, Some, None, ap, sym, ◌∙◌, subst}
use Rattle.std.proofs.Math.Logic.{∥∥₁_map}
use Rattle.amqp_model.specs.End.Asks.{Ask, AskVerdict, Puts, ask_verdict, frame_max, frames_asked, refused_or_put}
use Rattle.amqp_model.specs.End.Channels.{Agreed, End}
use Rattle.amqp_model.specs.Laws.EndLaws.{AskOfHistory}
use Rattle.amqp_model.specs.End.EndVerdict.{takes_octets}
use Rattle.amqp_model.specs.Stream.Endpoint.{Endpoint, after_answer}
use Rattle.amqp_model.specs.Laws.FittingLaws.{AllWithin, AskedAreWithin}
use Rattle.amqp_model.specs.Wire.Frame.{Frame}
use Rattle.amqp_model.specs.History.Histories.{History}
use Rattle.amqp_model.specs.Wire.Items.{Item}
use Rattle.amqp_model.specs.End.LawfulHistories.{end_of, then_put}
use Rattle.amqp_model.specs.History.Negotiation.{Config, FRAME_MIN}
use Rattle.amqp_model.specs.Wire.Notes.{Role}
use Rattle.amqp_model.specs.Laws.OctetLaws.{EndpointStandsFor}
use Rattle.amqp_model.specs.Output.Outputs.{after_puts}
use Rattle.amqp_model.specs.End.ReadingBack.{WritesReadBack}
use Rattle.amqp_model.specs.Pair.Sent.{told, said}
use Rattle.amqp_model.specs.Stream.Traces.{IsPut, SaysAsk, PutsTellNothing, TracePuts, noted, telling_at, trace}
use Rattle.amqp_core.specs.Traced.NotedAsks.{GrowsByFrames, IsChannelOf, IsSizeOf, count_asked, item_asked, notes_asked, word_asked}
use Rattle.amqp_core.specs.Asks.Effects.{AcceptsAsk}
use Rattle.amqp_core.specs.Traced.Notes.{noted_as}
use Rattle.amqp_core.specs.Traced.Noting.{lives_in}
use Rattle.amqp_core.specs.Traced.Tracing as tracing
use Rattle.amqp_core.specs.Traced.Tracing.{Kept, IsTraceOf, Stands}
use Rattle.amqp_core.proofs.AskedLemmas.{is_running_then}
use Rattle.amqp_core.proofs.AskNotingLemmas.{asked-grows, asked-noted, asked-said}
use Rattle.amqp_core.proofs.FollowTrace.{stood}
use Rattle.amqp_core.proofs.StandingLemmas.{failed_takes}

-- the laws of what asks add
pub record AskLaws (role : Role) (config : Config role) : Type 0 where
  pub puts : (frames : List Frame) (history : History) → TracePuts frames history
  pub puts_tell : (frames : List Frame) (history : History) → PutsTellNothing role config frames history
  pub says : (history : History) (ask : Ask) (frames : List Frame) → SaysAsk role config history ask frames
  pub verdict : (end : End) (history : History) (ask : Ask) → AskOfHistory role config false end history ask

-- what the lists of the end and the end itself come to by an ask that is accepted
pub record AskKept (role : Role) (config : Config role) (ask : Ask) (channel : ℕ) (old new : Kept) : Type 0 where
  pub accepts : AcceptsAsk role config ask old.endpoint new.endpoint
  pub place : IsChannelOf old.endpoint.end ask channel
  pub notes : new.notes ≡ old.notes ++ notes_asked (frame_max old.endpoint.end.agreed) channel ask
  pub told : new.told ≡ old.told
  pub said : new.said ≡ old.said ++ telling_at channel (lives_in role old.notes channel) (item_asked ask)
  pub fed : new.fed ≡ old.fed
  pub written : new.written ≡ old.written

asked : (role : Role) (config : Config role) (ask : Ask) (channel : ℕ) (old new : Kept) (history : History) → AskLaws role config → WritesReadBack role config → AskKept role config ask channel old new
    → IsTraceOf role config old history → EndpointStandsFor role config old.endpoint history old.fed old.written
    → IsTraceOf role config new (then_put (frames_asked old.endpoint.end ask) history)
asked role config ask channel old new history laws writes kept traced stands =
    let end = old.endpoint.end in
    let frames = frames_asked end ask in
    let allowed = kept.accepts.allowed in
    let verdict : ask_verdict role end ask ≡ Puts frames = ap (λ r. refused_or_put r frames) allowed in
    let there : ask_verdict role (end_of config history) ask ≡ Puts frames = sym (laws.verdict end history ask stands.stands) ∙ verdict in
    let says = laws.says history ask frames writes stands.lawful kept.accepts.made kept.accepts.reads_back there in
    let notes = asked-noted role end ask channel allowed kept.accepts.reads_back kept.place in
    let item = asked-said role end ask channel old.notes history traced.noted allowed kept.place in
    record {
      noted = kept.notes ∙ (ap (λ ns. ns ++ notes_asked (frame_max end.agreed) channel ask) traced.noted ∙ (ap (λ ns. trace history ++ ns) (sym notes) ∙ sym (laws.puts frames history)));
      told = kept.told ∙ (traced.told ∙ sym (laws.puts_tell frames history));
      said = kept.said ∙ (ap (λ ts. ts ++ telling_at channel (lives_in role old.notes channel) (item_asked ask)) traced.said ∙ (ap (λ ts. said role history ++ ts) (sym item) ∙ sym says));
      stands = stood role config new (then_put frames history) old.fed old.written kept.fed kept.written (kept.accepts.follows history old.fed old.written stands);
    }

by_standing : (role : Role) (config : Config role) (ask : Ask) (channel : ℕ) (old new : Kept) (history : History) → AskLaws role config → WritesReadBack role config → AskKept role config ask channel old new
    → IsTraceOf role config old history → Stands role config old history
    → IsTraceOf role config new (then_put (frames_asked old.endpoint.end ask) history)
by_standing role config ask channel old new history laws writes kept traced (tracing.stands stands) = asked role config ask channel old new history laws writes kept traced stands
by_standing role config ask channel old new history laws writes kept traced (tracing.failed limit opening opens failed shown) =
    absurd (failed_takes old.endpoint.end.phase (sym failed.stands.phase) (ap takes_octets (is_running_then role old.endpoint.end ask kept.accepts.allowed)))
by_standing role config ask channel old new history laws writes kept traced (tracing.ran_out unfinished out) =
    absurd (failed_takes old.endpoint.end.phase out.failed (ap takes_octets (is_running_then role old.endpoint.end ask kept.accepts.allowed)))

-- An ask that is accepted.
pub traced-asked : (role : Role) (config : Config role) (ask : Ask) (channel : ℕ) (old new : Kept) (history : History) → AskLaws role config → ∥ WritesReadBack role config ∥₁ → AskKept role config ask channel old new
    → IsTraceOf role config old history → ∥ IsTraceOf role config new (then_put (frames_asked old.endpoint.end ask) history) ∥₁
traced-asked role config ask channel old new history laws writes kept traced =
    ∥∥₁_map writes (λ w. by_standing role config ask channel old new history laws w kept traced traced.stands)

-- the agreed frame size
pub size-is : (agreed : Option Agreed) (max : ℕ) → IsSizeOf agreed max → frame_max agreed ≡ max
size-is None max e = absurd e
size-is (Some agreed) max e = e

-- what the code keeps of an ask that is accepted
pub ask-kept : (side role : Role) (config : Config role) (ask lent : Ask) (channel max : ℕ) (old new : Kept) (item : Option Item) → side ≡ role → lent ≡ ask
    → IsSizeOf old.endpoint.end.agreed max → item ≡ item_asked ask → AcceptsAsk role config ask old.endpoint new.endpoint → IsChannelOf old.endpoint.end ask channel
    → new.notes ≡ old.notes ++ notes_asked max channel lent → new.told ≡ old.told → new.said ≡ old.said ++ telling_at channel (lives_in side old.notes channel) item
    → new.fed ≡ old.fed → new.written ≡ old.written → AskKept role config ask channel old new
ask-kept side role config ask lent channel max old new item role_is ask_is size item_is accepts place notes told said fed written = record {
  accepts = accepts;
  place = place;
  notes = notes ∙ (ap (λ a. old.notes ++ notes_asked max channel a) ask_is ∙ ap (λ m. old.notes ++ notes_asked m channel ask) (sym (size-is old.endpoint.end.agreed max size)));
  told = told;
  said = said ∙ (ap (λ r. old.said ++ telling_at channel (lives_in r old.notes channel) item) role_is ∙ ap (λ i. old.said ++ telling_at channel (lives_in role old.notes channel) i) item_is);
  fed = fed;
  written = written;
}

-- how much longer the output gets
pub accepted-grows : (role : Role) (config : Config role) (ask : Ask) (channel max : ℕ) (old new : Endpoint) → AcceptsAsk role config ask old new → IsChannelOf old.end ask channel
    → IsSizeOf old.end.agreed max → FRAME_MIN ≤ max → AskedAreWithin role old.end ask (frames_asked old.end ask)
    → GrowsByFrames (count_asked max ask) max old.output new.output
accepted-grows role config ask channel max old new accepts place size least law =
    let frames = frames_asked old.end ask in
    let size_is = size-is old.end.agreed max size in
    let verdict : ask_verdict role old.end ask ≡ Puts frames = ap (λ r. refused_or_put r frames) accepts.allowed in
    let within = law accepts.reads_back (subst (λ m. FRAME_MIN ≤ m) (sym size_is) least) verdict in
    let output : new.output ≡ after_puts frames old.output = ap (λ (e : Endpoint). e.output) accepts.left ∙ ap (λ (v : AskVerdict). (after_answer role config old v).output) verdict in
    asked-grows frames (count_asked max ask) max (noted_as IsPut channel (word_asked ask)) old.output new.output
    (subst (λ m. map (noted IsPut) frames ≡ notes_asked m channel ask) size_is (asked-noted role old.end ask channel accepts.allowed accepts.reads_back place))
    (subst (λ m. AllWithin m frames) size_is within) output
