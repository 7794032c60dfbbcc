-- A piece makes of each history what the definitions say, whatever a failed end keeps of its channels.
use Rattle.std.proofs.Common.{◌≡◌, ◌≢◌, ◌<◌, Bool, true, false, cond, ℕ, List, get_or, All, Result, refl, sym, ap, ◌∙◌, subst}
use Rattle.std.proofs.Math.Logic.{∥∥₁_map}
use Rattle.std.proofs.lemmas.Bool.{true≢false}
use Rattle.amqp_method.specs.declared.kinds.Kind.TheVariants as kinds
use Rattle.amqp_model.specs.End.Channels.{End, Phase, Handshake, Running, Closing, Closed, Failed}
use Rattle.amqp_model.specs.Output.Departures.{IsOutputOf}
use Rattle.amqp_model.specs.Laws.EndLaws.{FailedIsRead}
use Rattle.amqp_model.specs.End.EndVerdict.{takes_octets}
use Rattle.amqp_model.specs.Stream.Endpoint.{Endpoint, Feeding, Found, after_feed}
use Rattle.amqp_model.specs.End.Events.{AlreadyClosed}
use Rattle.amqp_model.specs.End.Fitting.{ConfigWrites}
use Rattle.amqp_model.specs.History.Histories.{History, ChannelEntry, entries_on}
use Rattle.amqp_model.specs.History.Negotiation.{Config}
use Rattle.amqp_model.specs.Wire.Notes.{Role}
use Rattle.amqp_model.specs.Laws.OctetLaws.{IsOctet, EndpointStandsFor, FeedFollows, Follows, HasFailed, waits, greets, takes, faults, tells, differs, refuses}
use Rattle.amqp_model.specs.Stream.Octets.{frames_put, opening_written}
use Rattle.amqp_model.specs.Output.Outputs.{Output}
use Rattle.amqp_model.specs.Stream.RunningOut.{RunsOut}
use Rattle.amqp_model.specs.End.StateFromHistory.{has_put, is_closed, is_negotiated, phase_from, step_from}
use Rattle.amqp_core.specs.Faults.Answering.{ran_out}
use Rattle.amqp_core.specs.End.Feeding.{IsFed, SameEndpoint, ran_out_of, Seen}
use Rattle.amqp_core.specs.End.Following.{GoesOn, KeepsHistory}
use Rattle.amqp_core.specs.Connection.Outcomes.{SameEnd}
use Rattle.amqp_core.specs.declared.faults.CoreFault.{CoreFault}
use Rattle.amqp_core.proofs.FeedLemmas.{are_octets}

abbrev is_failed : Phase → Bool
is_failed Failed = true
is_failed phase = false

-- An end that stands for a history that hasn't failed hasn't failed.

either : (b : Bool) (one other : Phase) → is_failed one ≡ false → is_failed other ≡ false → is_failed (cond b one other) ≡ false
either true one other p q = p
either false one other p q = q

goes : (role : Role) (entries : List ChannelEntry) → is_failed (phase_from role false entries) ≡ false
goes role entries =
    either (is_closed entries) Closed (cond (has_put kinds.ConnectionClose entries) Closing (cond (is_negotiated role entries) Running (Handshake (step_from role entries)))) refl
    (either (has_put kinds.ConnectionClose entries) Closing (cond (is_negotiated role entries) Running (Handshake (step_from role entries))) refl (either (is_negotiated role entries) Running (Handshake (step_from role entries)) refl refl))

not_failed : (role : Role) (config : Config role) (endpoint : Endpoint) (history : History) (fed written : List ℕ) → EndpointStandsFor role config endpoint history fed written → endpoint.end.phase ≢ Failed
not_failed role config endpoint history fed written stands e =
    true≢false (sym (ap is_failed (stands.stands.phase ∙ e)) ∙ goes role (entries_on 0 history))

end_is : (one other : End) → SameEnd one other → one.phase ≢ Failed → one ≡ other
end_is one other same running = λ i. record { phase = same.phase i; agreed = same.agreed i; channels = same.channels running i }

endpoint_is : (one other : Endpoint) → SameEndpoint one other → one.end.phase ≢ Failed → one ≡ other
endpoint_is one other same running = λ i. record { end = end_is one.end other.end same.end running i; unfinished = same.unfinished i; output = same.output i }

stands_same : (role : Role) (config : Config role) (one other : Endpoint) (history : History) (fed written : List ℕ) → SameEndpoint one other → EndpointStandsFor role config one history fed written → EndpointStandsFor role config other history fed written
stands_same role config one other history fed written same stands =
    subst (λ (e : Endpoint). EndpointStandsFor role config e history fed written) (endpoint_is one other same (not_failed role config one history fed written stands)) stands

failed_same : (role : Role) (config : Config role) (limit : ℕ) (opening : List ℕ) (one other : Endpoint) (history : History) (fed written : List ℕ) → FailedIsRead role config one.end other.end history → SameEndpoint one other → HasFailed role config limit opening history fed written one → HasFailed role config limit opening history fed written other
failed_same role config limit opening one other history fed written law same failed = record {
  lawful = failed.lawful;
  stands = law failed.stands (sym same.end.phase) (sym same.end.agreed) (sym same.end.no_channel ∙ failed.stands.no_channel);
  read = failed.read;
  out = subst (λ (o : Output). IsOutputOf opening (frames_put history) written o) same.output failed.out;
}

closed_stays : (old new : Endpoint) (feeding : Feeding) → old.end.phase ≡ Closed → SameEndpoint feeding.endpoint new → feeding ≡ record { endpoint = old; taken = 0; outcome = Found AlreadyClosed } → ◌≡◌ {A = Feeding} (record { endpoint = new; taken = feeding.taken; outcome = feeding.outcome }) (record { endpoint = old; taken = 0; outcome = Found AlreadyClosed })
closed_stays old new feeding closed same e =
    let there : feeding.endpoint ≡ old = ap (λ (f : Feeding). f.endpoint) e in
    let running : feeding.endpoint.end.phase ≢ Failed = λ failed. true≢false (sym (ap is_failed failed) ∙ ap is_failed (ap (λ (x : Endpoint). x.end.phase) there ∙ closed)) in
    let stays : new ≡ old = sym (endpoint_is feeding.endpoint new same running) ∙ there in
    let count : feeding.taken ≡ 0 = ap (λ (f : Feeding). f.taken) e in
    let came : feeding.outcome ≡ Found AlreadyClosed = ap (λ (f : Feeding). f.outcome) e in
    λ i. record { endpoint = stays i; taken = count i; outcome = came i }

follows_same : (role : Role) (config : Config role) (old new : Endpoint) (history : History) (fed written piece : List ℕ) (feeding : Feeding) → ((end next : End) (h : History) → FailedIsRead role config end next h) → SameEndpoint feeding.endpoint new → Follows role config old history fed written piece feeding → Follows role config old history fed written piece (record { endpoint = new; taken = feeding.taken; outcome = feeding.outcome })
follows_same role config old new history fed written piece feeding law same (waits outcome stands) = waits outcome (stands_same role config feeding.endpoint new _ _ written same stands)
follows_same role config old new history fed written piece feeding law same (greets awaits none outcome stands) = greets awaits none outcome (stands_same role config feeding.endpoint new _ _ written same stands)
follows_same role config old new history fed written piece feeding law same (takes frame phase whole on outcome stands) = takes frame phase whole on outcome (stands_same role config feeding.endpoint new _ _ written same stands)
follows_same role config old new history fed written piece feeding law same (faults frame fault phase whole verdict outcome failed) = faults frame fault phase whole verdict outcome (failed_same role config _ _ feeding.endpoint new _ _ written (law _ _ _) same failed)
follows_same role config old new history fed written piece feeding law same (tells kind phase told outcome failed) = tells kind phase told outcome (failed_same role config _ _ feeding.endpoint new _ _ written (law _ _ _) same failed)
follows_same role config old new history fed written piece feeding law same (differs awaits outcome failed) = differs awaits outcome (failed_same role config _ _ feeding.endpoint new _ _ written (law _ _ _) same failed)
follows_same role config old new history fed written piece feeding law same (refuses closed is) = refuses closed (closed_stays old new feeding closed same is)

keeps : (role : Role) (config : Config role) (old new : Endpoint) (history : History) (fed written : List ℕ) → FailedIsRead role config (ran_out_of old).end new.end history → RunsOut role config old history fed written → EndpointStandsFor role config old history fed written → takes_octets old.end.phase ≡ true → SameEndpoint (ran_out_of old) new → KeepsHistory role config new history written
keeps role config old new history fed written law runs stands octets same =
    let ran = runs stands octets in
    record {
      lawful = ran.lawful;
      stands = law ran.stands (sym same.end.phase) (sym same.end.agreed) (sym same.end.no_channel ∙ ran.stands.no_channel);
      out = subst (λ (o : Output). IsOutputOf (opening_written role) (frames_put history) written o) same.output ran.out;
    }

pub by_memory : (role : Role) (config : Config role) (b : Bool) (old new : Endpoint) (history : History) (fed written piece : List ℕ) → ((end next : End) (h : History) → FailedIsRead role config end next h) → RunsOut role config old history fed written → FeedFollows role config old history fed written piece → All IsOctet piece → ConfigWrites config → (b ≡ true → takes_octets old.end.phase ≡ true) → EndpointStandsFor role config old history fed written
    → SameEndpoint (cond b (ran_out_of old) (after_feed role config old piece).endpoint) new → GoesOn role config b old history fed written piece (after_feed role config old piece) new
by_memory role config true old new history fed written piece law runs follows octets writes taking stands same = keeps role config old new history fed written (law _ _ history) runs stands (taking refl) same
by_memory role config false old new history fed written piece law runs follows octets writes taking stands same =
    follows_same role config old new history fed written piece (after_feed role config old piece) law same (follows stands octets writes)

pub piece_goes_on : (role : Role) (config : Config role) (result : Result Seen CoreFault) (old new : Endpoint) (history : History) (fed written piece : List ℕ) → ((end next : End) (h : History) → FailedIsRead role config end next h) → RunsOut role config old history fed written → FeedFollows role config old history fed written piece → ((i : ℕ) → get_or piece i 0 < 256) → ∥ ConfigWrites config ∥₁ → (ran_out result ≡ true → takes_octets old.end.phase ≡ true) → IsFed result old (after_feed role config old piece) new → EndpointStandsFor role config old history fed written
    → ∥ GoesOn role config (ran_out result) old history fed written piece (after_feed role config old piece) new ∥₁
piece_goes_on role config result old new history fed written piece law runs follows octets writes taking is stands =
    ∥∥₁_map writes (λ w. by_memory role config (ran_out result) old new history fed written piece law runs follows (are_octets piece octets) w taking stands is.left)
