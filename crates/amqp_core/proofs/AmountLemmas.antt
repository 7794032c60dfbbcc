-- How many octets an end keeps of bodies, by its phase.
use Rattle.std.proofs.Common.{◌≡◌, ◌<◌, ◌≤◌, ◌+◌, Bool, true, false, ℕ, zero, suc, List, length, refl, ap, sym, ◌∙◌, arith}
use Rattle.std.proofs.Math.Logic.{∥∥₁_elim}
use Rattle.std.proofs.lemmas.Bool.{true≢false}
use Rattle.std.specs.Coded.{le_prop}
use Rattle.amqp_value.specs.Lengths.{capped}
use Rattle.amqp_model.specs.End.Amounts.{body_octets_on, contents_kept, sum_to, GathersOctets, IsSum, KeepsOctets}
use Rattle.amqp_model.specs.End.Answers.{octets_gathered, kept_in}
use Rattle.amqp_model.specs.End.Channels.{End, Phase, Handshake, Running, Closed, Failed}
use Rattle.amqp_model.specs.End.Fitting.{ConfigWrites}
use Rattle.amqp_model.specs.History.Histories.{History}
use Rattle.amqp_model.specs.History.Negotiation.{Config, frame_limit}
use Rattle.amqp_model.specs.Laws.AmountLaws.{most_contents, ContentsAreWithin}
use Rattle.amqp_model.specs.Laws.FittingLaws.{AllReadsBack}
use Rattle.amqp_model.specs.Laws.OctetLaws.{EndpointStandsFor}
use Rattle.amqp_model.specs.Stream.Endpoint.{Endpoint}
use Rattle.amqp_model.specs.Wire.Notes.{Role}
use Rattle.amqp_core.specs.Connection.Stages.{phase_name}
use Rattle.amqp_core.specs.declared.stage.Phase.{Phase as Name}
use Rattle.amqp_core.specs.declared.stage.Phase.TheVariants as name

sums_alike : (most : ℕ) (one other : ℕ → ℕ) → ((n : ℕ) → one n ≡ other n) → sum_to most one ≡ sum_to most other
sums_alike zero one other same = refl
sums_alike (suc n) one other same =
    let before = sums_alike n one other same in
    let here = same (suc n) in
    omega (arith, before, here)

sum_of_none : (most : ℕ) (octets : ℕ → ℕ) → ((n : ℕ) → octets n ≡ 0) → sum_to most octets ≡ 0
sum_of_none zero octets none = refl
sum_of_none (suc n) octets none =
    let before = sum_of_none n octets none in
    let here = none (suc n) in
    omega (arith, before, here)

abbrev is_running : Name → Bool
is_running name.Running = true
is_running name = false

in_phase : (end : End) (phase : Phase) → end.phase ≡ phase → (n : ℕ) → octets_gathered end n ≡ length (kept_in phase (end.channels n))
in_phase end phase e n = ap (λ p. length (kept_in p (end.channels n))) e

-- all that is kept of bodies, while the connection is Running
pub gathers_bodies : (end : End) (bodies count : ℕ) → phase_name end.phase ≡ name.Running → IsSum (λ number. body_octets_on (end.channels number)) bodies
    → count ≡ capped bodies → GathersOctets end count
gathers_bodies end bodies count running sum is = by end.phase refl
  where
    over : (phase : Phase) → end.phase ≡ phase → is_running (phase_name phase) ≡ false → GathersOctets end count
    over phase e not_running = absurd (true≢false (sym (ap is_running (sym (ap phase_name e) ∙ running)) ∙ not_running))

    by : (phase : Phase) → end.phase ≡ phase → GathersOctets end count
    by (Handshake step) e = over (Handshake step) e refl
    by Running e = λ most least. is ∙ ap capped (sum most least ∙ sym (sums_alike most (octets_gathered end) (λ number. body_octets_on (end.channels number)) (in_phase end Running e)))
    by Phase.Closing e = over Phase.Closing e refl
    by Closed e = over Closed e refl
    by Failed e = over Failed e refl

-- and nothing in every other phase
pub gathers_none : (end : End) (phase : Name) → phase_name end.phase ≡ phase → is_running phase ≡ false → GathersOctets end 0
gathers_none end name e not_running most least = ap capped (sym (sum_of_none most (octets_gathered end) (by end.phase refl)))
  where
    by : (phase : Phase) → end.phase ≡ phase → (n : ℕ) → octets_gathered end n ≡ 0
    by (Handshake step) p n = in_phase end (Handshake step) p n
    by Running p n = absurd (true≢false (ap is_running (sym (ap phase_name p) ∙ e) ∙ not_running))
    by Phase.Closing p n = in_phase end Phase.Closing p n
    by Closed p n = in_phase end Closed p n
    by Failed p n = in_phase end Failed p n

-- A body and a frame for each channel, and one frame more.

capped_below : (count kept more most frame : ℕ) → count ≡ capped (kept + more) → kept ≤ most → more < frame → count ≤ most + frame
capped_below count kept more most frame is within below = omega (arith, is, within, below)

pub kept_within : (role : Role) (config : Config role) (endpoint : Endpoint) (history : History) (fed written : List ℕ) (count : ℕ)
    → ContentsAreWithin → AllReadsBack role config → ∥ ConfigWrites config ∥₁ → EndpointStandsFor role config endpoint history fed written
    → KeepsOctets endpoint count → length endpoint.unfinished < frame_limit endpoint.end.agreed
    → count ≤ most_contents config endpoint.end + frame_limit endpoint.end.agreed
kept_within role config endpoint history fed written count law back writes stands keeps below =
    ∥∥₁_elim writes le_prop (λ w.
    capped_below count (contents_kept 65535 endpoint.end) (length endpoint.unfinished) (most_contents config endpoint.end)
    (frame_limit endpoint.end.agreed) (keeps 65535 (omega arith)) (law role config endpoint history fed written (back w) stands 65535) below)
