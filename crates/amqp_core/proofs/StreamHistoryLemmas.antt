-- What a piece, an ask and a write make of each history that a lending end stands for, and what such an end answers of
-- itself: by the end that gathers, to which it is alike.
use Rattle.std.proofs.Common.{◌≡◌, ◌≤◌, ◌<◌, Bool, true, false, ℕ, List, ◌++◌, length, take, get_or, Result, Ok, Err, OnOk, refl, ap, sym, ◌∙◌, subst}
use Rattle.std.proofs.Math.Logic.{∥∥₁_map}
use Rattle.amqp_model.specs.End.Answers.{octets_gathered, kept_by, kept_in}
use Rattle.amqp_model.specs.End.Asks.{Ask, Puts, ask_verdict, frames_asked, refused_or_put}
use Rattle.amqp_model.specs.End.Channels as channels
use Rattle.amqp_model.specs.End.Channels.{Channel, End, Phase, Handshake, Running, Closed, Failed, Free, Opening, Closing}
use Rattle.amqp_model.specs.End.Controls.{Control}
use Rattle.amqp_model.specs.End.EndVerdict.{takes_octets}
use Rattle.amqp_model.specs.End.Fitting.{ConfigWrites, IfAgreedFits}
use Rattle.amqp_model.specs.History.Histories.{History}
use Rattle.amqp_model.specs.History.Negotiation.{Config}
use Rattle.amqp_model.specs.Laws.ControlLaws.{ControlAcceptedFollows, ControlOfHistory, ControllingLeavesAlike, ControlsAlike}
use Rattle.amqp_model.specs.Laws.EndLaws.{AskOfHistory, FailedIsRead}
use Rattle.amqp_model.specs.Laws.FittingLaws.{AllReadsBack, AskedFit}
use Rattle.amqp_model.specs.Laws.OctetLaws.{AcceptedFollows, EndpointStandsFor, FeedFollows, WroteFollows}
use Rattle.amqp_model.specs.Laws.StreamingLaws.{AskingLeavesAlike, AsksAlike, CameIsKept, FeedsAlike, StreamStandsFor, WritingLeavesAlike}
use Rattle.amqp_model.specs.Lent.Alike.{AlikeChannels, AlikeEndpoints, AlikeEnds}
use Rattle.amqp_model.specs.Lent.Streaming.{came}
use Rattle.amqp_model.specs.Output.Outputs.{output_octets}
use Rattle.amqp_model.specs.Stream.Endpoint.{Endpoint, after_ask, after_control, after_feed, after_wrote}
use Rattle.amqp_model.specs.Stream.RunningOut.{RunsOut}
use Rattle.amqp_model.specs.Wire.Notes.{Role}
use Rattle.amqp_core.specs.Faults.Answering.{ran_out}
use Rattle.amqp_core.specs.Asks.Effects.{AcceptsAsk}
use Rattle.amqp_core.specs.Asks.Controlled.{frames_by}
use Rattle.amqp_core.specs.Asks.Controlling.{AcceptsControl, verdict_at}
use Rattle.amqp_core.specs.End.Feeding.{SameEndpoint, ran_out_of}
use Rattle.amqp_core.specs.Stream.Lending.{AlikeEndpoint, IsLent, LentSeen}
use Rattle.amqp_core.specs.Stream.History.{StreamAskGoesOn, StreamAskIsOfHistory, StreamControlGoesOn, StreamControlIsOfHistory, StreamGoesOn, StreamWroteGoesOn, gathered_then}
use Rattle.amqp_core.specs.declared.faults.CoreFault.{CoreFault}
use Rattle.amqp_core.proofs.AskedLemmas.{agreed_fits}
use Rattle.amqp_core.proofs.FeedLemmas.{are_octets}
use Rattle.amqp_core.proofs.FollowLemmas.{by_memory}
use Rattle.amqp_core.proofs.StreamLemmas.{alike_endpoint, endpoint_onwards}

-- Asks.

pub ok_map : {A B : Type 0} (result : Result A B) (P Q : Type 0) → (P → Q) → OnOk result P → OnOk result Q
ok_map (Ok value) P Q f p = f p
ok_map (Err fault) P Q f p = tt

pub stream_ask_goes_on : (role : Role) (config : Config role) (ask : Ask) (old new : Endpoint) → AcceptsAsk role config ask old new → IfAgreedFits old.end.agreed
    → AskedFit role old.end ask (frames_asked old.end ask)
    → ((endpoint : Endpoint) (history : History) (fed written : List ℕ) → AcceptedFollows role config endpoint history fed written ask (frames_asked old.end ask))
    → AsksAlike → AskingLeavesAlike → StreamAskGoesOn role config ask old new
stream_ask_goes_on role config ask old new accepts fits asked law asks asking = λ history fed written s.
    let verdict : ask_verdict role old.end ask ≡ Puts (frames_asked old.end ask) = ap (λ r. refused_or_put r (frames_asked old.end ask)) accepts.allowed in
    let there : ask_verdict role s.gathers.end ask ≡ Puts (frames_asked old.end ask) = asks role s.gathers.end old.end ask s.alike.end ∙ verdict in
    record {
      gathers = after_ask role config s.gathers ask;
      stands = law s.gathers history fed written s.stands (record { reads_back = accepts.reads_back; fit = asked accepts.reads_back (agreed_fits old.end.agreed fits) verdict }) accepts.made there;
      alike = subst (λ (e : Endpoint). AlikeEndpoints (after_ask role config s.gathers ask) e) (sym accepts.left) (asking role config s.gathers old ask s.alike);
    }

pub stream_ask_is_of_history : (role : Role) (config : Config role) (ask : Ask) (old : Endpoint) → ((end : End) (history : History) → AskOfHistory role config false end history ask) → AsksAlike → StreamAskIsOfHistory role config ask old
stream_ask_is_of_history role config ask old counted asks = λ history fed written s.
    sym (counted s.gathers.end history s.stands.stands) ∙ asks role s.gathers.end old.end ask s.alike.end

-- Heartbeats and decisions.

pub stream_control_goes_on : (role : Role) (config : Config role) (control : Control) (old new : Endpoint) → AcceptsControl role config control old new
    → ∥ ConfigWrites config ∥₁ → AllReadsBack role config
    → ((endpoint : Endpoint) (history : History) (fed written : List ℕ) → ControlAcceptedFollows role config endpoint history fed written control (frames_by (verdict_at role config control old)))
    → ControlsAlike → ControllingLeavesAlike → StreamControlGoesOn role config control old new
stream_control_goes_on role config control old new accepts writes back law same leaves = λ history fed written s.
    ∥∥₁_map writes
    (λ (w : ConfigWrites config).
    record {
      gathers = after_control role config s.gathers control;
      stands = law s.gathers history fed written s.stands w (back w) accepts.reads_back (same role config s.gathers.end old.end control s.alike.end ∙ accepts.puts);
      alike = subst (λ (e : Endpoint). AlikeEndpoints (after_control role config s.gathers control) e) (sym accepts.left) (leaves role config s.gathers old control s.alike);
    })

pub stream_control_is_of_history : (role : Role) (config : Config role) (control : Control) (old : Endpoint)
    → ((end : End) (history : History) → ControlOfHistory role config false end history control) → ControlsAlike → StreamControlIsOfHistory role config control old
stream_control_is_of_history role config control old counted same = λ history fed written s.
    sym (counted s.gathers.end history s.stands.stands) ∙ same role config s.gathers.end old.end control s.alike.end

-- Writes.

pub stream_wrote_goes_on : (role : Role) (config : Config role) (octets : ℕ) (old new : Endpoint) → new ≡ after_wrote octets old → octets ≤ length (output_octets old.output)
    → ((endpoint : Endpoint) (history : History) (fed written : List ℕ) → WroteFollows role config endpoint history fed written octets)
    → WritingLeavesAlike → StreamWroteGoesOn role config octets old new
stream_wrote_goes_on role config octets old new is within law writing = λ history fed written s.
    let same : output_octets s.gathers.output ≡ output_octets old.output = ap output_octets s.alike.output in
    record {
      gathers = after_wrote octets s.gathers;
      stands = subst (λ xs. EndpointStandsFor role config (after_wrote octets s.gathers) history fed (written ++ take octets xs)) same
          (law s.gathers history fed written s.stands (subst (λ xs. octets ≤ length xs) (sym same) within));
      alike = subst (λ (e : Endpoint). AlikeEndpoints (after_wrote octets s.gathers) e) (sym is) (writing octets s.gathers old s.alike);
    }

-- Pieces.

failed_alike : (one other : Endpoint) → AlikeEndpoints one other → AlikeEndpoint (ran_out_of one) (ran_out_of other)
failed_alike one other a = record {
  end = record { phase = refl; agreed = a.end.agreed; no_channel = a.end.channels 0; channels = λ running n. a.end.channels n };
  unfinished = refl;
  output = a.output;
}

then_alike : (role : Role) (config : Config role) (b : Bool) (one other : Endpoint) (piece : List ℕ) → FeedsAlike → AlikeEndpoints one other
    → AlikeEndpoint (gathered_then role config b one piece) (gathered_then role config b other piece)
then_alike role config true one other piece feeds a = failed_alike one other a
then_alike role config false one other piece feeds a = alike_endpoint _ _ (feeds role config one other piece a).endpoint

pub same_itself : (endpoint : Endpoint) → SameEndpoint endpoint endpoint
same_itself endpoint = record { end = record { phase = refl; agreed = refl; no_channel = refl; channels = λ running. refl }; unfinished = refl; output = refl }

pub stream_goes_on : (role : Role) (config : Config role) (result : Result LentSeen CoreFault) (old new : Endpoint) (history : History) (fed written piece : List ℕ)
    → ((end next : End) (h : History) → FailedIsRead role config end next h)
    → ((endpoint : Endpoint) → RunsOut role config endpoint history fed written)
    → ((endpoint : Endpoint) → FeedFollows role config endpoint history fed written piece)
    → ((i : ℕ) → get_or piece i 0 < 256) → ∥ ConfigWrites config ∥₁ → (ran_out result ≡ true → takes_octets old.end.phase ≡ true) → FeedsAlike
    → IsLent role config result old piece (after_feed role config old piece) new → StreamStandsFor role config old history fed written
    → ∥ StreamGoesOn role config (ran_out result) old history fed written piece new ∥₁
stream_goes_on role config result old new history fed written piece law runs follows octets writes taking feeds is s =
    ∥∥₁_map writes (λ w. record {
      gathers = s.gathers;
      stands = s.stands;
      alike = s.alike;
      goes_on = by_memory role config (ran_out result) s.gathers (gathered_then role config (ran_out result) s.gathers piece) history fed written piece law (runs s.gathers) (follows s.gathers) (are_octets piece octets) w
          (λ ran. ap takes_octets s.alike.end.phase ∙ taking ran) s.stands (same_itself _);
      left = endpoint_onwards _ _ new (then_alike role config (ran_out result) s.gathers old piece feeds s.alike) is.left;
    })

-- How many octets of a body have come.

kept_alike : (one other : Channel) → CameIsKept → AlikeChannels one other → length (kept_by one) ≡ length (kept_by other)
kept_alike (channels.Open one) (channels.Open other) law a = sym (law one.content) ∙ (ap came a.content ∙ law other.content)
kept_alike Free Free law a = refl
kept_alike Opening Opening law a = refl
kept_alike Closing Closing law a = refl
kept_alike one other law a = absurd a

in_phase : (phase : Phase) (one other : Channel) → CameIsKept → AlikeChannels one other → length (kept_in phase one) ≡ length (kept_in phase other)
in_phase Running one other law a = kept_alike one other law a
in_phase (Handshake step) one other law a = refl
in_phase channels.Phase.Closing one other law a = refl
in_phase Closed one other law a = refl
in_phase Failed one other law a = refl

pub gathered_alike : (one other : End) (number : ℕ) → CameIsKept → AlikeEnds one other → octets_gathered other number ≡ octets_gathered one number
gathered_alike one other number law a =
    sym (in_phase one.phase (one.channels number) (other.channels number) law (a.channels number) ∙ ap (λ p. length (kept_in p (other.channels number))) a.phase)
