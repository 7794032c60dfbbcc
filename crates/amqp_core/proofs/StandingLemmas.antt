-- What becomes of the standing of an end that is kept with its history: of its octets, as it writes, and out of memory.
use Rattle.std.proofs.Common.{◌≡◌, ◌≤◌, true, ℕ, List, ◌++◌, length, take, refl, ap, sym, ◌∙◌, subst}
use Rattle.std.proofs.lemmas.Bool.{false≢true}
use Rattle.amqp_model.specs.End.Channels.{End, Phase, Failed}
use Rattle.amqp_model.specs.Output.Departures.{IsOutputOf}
use Rattle.amqp_model.specs.Laws.EndLaws.{FailedIsRead}
use Rattle.amqp_model.specs.Stream.Endpoint.{Endpoint, after_wrote}
use Rattle.amqp_model.specs.End.EndVerdict.{takes_octets}
use Rattle.amqp_model.specs.History.Histories.{History}
use Rattle.amqp_model.specs.End.Machine.{as_failed}
use Rattle.amqp_model.specs.History.Negotiation.{Config, frame_limit}
use Rattle.amqp_model.specs.Wire.Notes.{Role}
use Rattle.amqp_model.specs.Laws.OctetLaws.{EndpointStandsFor, HasFailed, WroteFollows, FailedWrites}
use Rattle.amqp_model.specs.Stream.Octets.{FedAs, frames_put, opening_written}
use Rattle.amqp_model.specs.Output.Outputs.{Output, output_octets}
use Rattle.amqp_model.specs.Stream.RunningOut.{RanOut, RunsOut, RanOutWrites, out_of_memory}
use Rattle.amqp_core.specs.Faults.FaultShown.{EndsInFault}
use Rattle.amqp_core.specs.End.Feeding.{SameEndpoint, ran_out_of}
use Rattle.amqp_core.specs.Traced.Tracing as tracing
use Rattle.amqp_core.specs.Traced.Tracing.{Kept, Stands, ran_out, with_unfinished}

pub failed_takes : (phase : Phase) → phase ≡ Failed → takes_octets phase ≡ true → ⊥
failed_takes phase e t = false≢true (sym (ap takes_octets e) ∙ t)

-- what is written of the output goes to what was written before
pub stands-wrote : (role : Role) (config : Config role) (old new : Kept) (history : History) (n : ℕ)
    → ((endpoint : Endpoint) → WroteFollows role config endpoint history old.fed old.written n)
    → ((limit : ℕ) (opening : List ℕ) → FailedWrites role config limit opening history old.fed old.written old.endpoint n)
    → ((endpoint : Endpoint) → RanOutWrites role config endpoint history old.fed old.written n)
    → n ≤ length (output_octets old.endpoint.output)
    → new.endpoint ≡ after_wrote n old.endpoint → new.fed ≡ old.fed → new.written ≡ old.written ++ take n (output_octets old.endpoint.output)
    → Stands role config old history → Stands role config new history
stands-wrote role config old new history n wrote failed out within endpoint_is fed_is written_is (tracing.stands stands) =
    tracing.stands (subst (λ (e : Endpoint). EndpointStandsFor role config e history new.fed new.written) (sym endpoint_is)
    (subst (λ f. EndpointStandsFor role config (after_wrote n old.endpoint) history f new.written) (sym fed_is)
    (subst (λ w. EndpointStandsFor role config (after_wrote n old.endpoint) history old.fed w) (sym written_is) (wrote old.endpoint stands within))))
stands-wrote role config old new history n wrote failed out within endpoint_is fed_is written_is (tracing.failed limit opening opens stands shown) =
    tracing.failed limit opening opens (subst (λ (e : Endpoint). HasFailed role config limit opening history new.fed new.written e) (sym endpoint_is)
    (subst (λ f. HasFailed role config limit opening history f new.written (after_wrote n old.endpoint)) (sym fed_is)
    (subst (λ w. HasFailed role config limit opening history old.fed w (after_wrote n old.endpoint)) (sym written_is) (failed limit opening stands within))))
    (subst (λ f. EndsInFault role config limit history f) (sym fed_is) shown)
stands-wrote role config old new history n wrote failed out within endpoint_is fed_is written_is (ran_out unfinished stands) =
    ran_out unfinished (subst (λ (e : Endpoint). RanOut role config (with_unfinished e unfinished) history new.fed new.written) (sym endpoint_is)
    (subst (λ f. RanOut role config (with_unfinished (after_wrote n old.endpoint) unfinished) history f new.written) (sym fed_is)
    (subst (λ w. RanOut role config (with_unfinished (after_wrote n old.endpoint) unfinished) history old.fed w) (sym written_is) (out (with_unfinished old.endpoint unfinished) stands within))))

-- out of memory: the lists stay, and what was unfinished is remembered no more
run_out_reads : (role : Role) (config : Config role) (old new : Endpoint) (history : History) (fed written : List ℕ)
    → FailedIsRead role config (as_failed old.end) new.end history → SameEndpoint (ran_out_of old) new
    → RanOut role config (out_of_memory old) history fed written → RanOut role config (with_unfinished new old.unfinished) history fed written
run_out_reads role config old new history fed written law same ran = record {
  failed = sym same.end.phase ∙ refl;
  lawful = ran.lawful;
  stands = law ran.stands (sym same.end.phase) (sym same.end.agreed) (sym same.end.no_channel ∙ ran.stands.no_channel);
  read = subst (λ a. FedAs role (frame_limit a) history fed old.unfinished) same.end.agreed ran.read;
  out = subst (λ (o : Output). IsOutputOf (opening_written role) (frames_put history) written o) same.output ran.out;
}

pub stands-out : (role : Role) (config : Config role) (old new : Kept) (history : History)
    → ((end next : End) → FailedIsRead role config end next history) → RunsOut role config old.endpoint history old.fed old.written
    → takes_octets old.endpoint.end.phase ≡ true → SameEndpoint (ran_out_of old.endpoint) new.endpoint → new.fed ≡ old.fed → new.written ≡ old.written
    → Stands role config old history → Stands role config new history
stands-out role config old new history law runs octets same fed_is written_is (tracing.stands stands) =
    ran_out old.endpoint.unfinished
    (subst (λ f. RanOut role config (with_unfinished new.endpoint old.endpoint.unfinished) history f new.written) (sym fed_is)
    (subst (λ w. RanOut role config (with_unfinished new.endpoint old.endpoint.unfinished) history old.fed w) (sym written_is)
    (run_out_reads role config old.endpoint new.endpoint history old.fed old.written (law (as_failed old.endpoint.end) new.endpoint.end) same (runs stands octets))))
stands-out role config old new history law runs octets same fed_is written_is (tracing.failed limit opening opens stands shown) =
    absurd (failed_takes old.endpoint.end.phase (sym stands.stands.phase) octets)
stands-out role config old new history law runs octets same fed_is written_is (ran_out unfinished stands) =
    absurd (failed_takes old.endpoint.end.phase stands.failed octets)
