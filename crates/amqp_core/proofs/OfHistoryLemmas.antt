-- What a verdict rests on is what the history counts.
use Rattle.std.proofs.Common.{◌≡◌, false, ℕ, zero, suc, map, refl, sym, ap}
use Rattle.amqp_model.specs.End.Channels.{End}
use Rattle.amqp_model.specs.End.Closes.{frame_of}
use Rattle.amqp_model.specs.Stream.Endpoint.{fault_told}
use Rattle.amqp_model.specs.Laws.EndLaws.{ReadsChannel}
use Rattle.amqp_model.specs.End.EndVerdict.{end_puts, facts_at}
use Rattle.amqp_model.specs.End.Events.{Faults}
use Rattle.amqp_model.specs.End.FrameVerdict.{Facts, event_told, methods_put, verdict_on}
use Rattle.amqp_model.specs.Wire.Frame.{Frame}
use Rattle.amqp_model.specs.History.Histories.{History, entries_on}
use Rattle.amqp_model.specs.End.LawfulHistories.{end_of}
use Rattle.amqp_model.specs.End.Machine.{StandsFor}
use Rattle.amqp_model.specs.History.Negotiation.{Config}
use Rattle.amqp_model.specs.Wire.Notes.{Role}
use Rattle.amqp_model.specs.Wire.Readings.{reading}
use Rattle.amqp_model.specs.End.StateFromHistory.{channel_at}
use Rattle.amqp_core.specs.End.OfHistory.{VerdictsAreOf}

-- the record of each channel is what the channel's entries count to
abbrev pub ReadsEach : Role → End → History → Type 0
ReadsEach role end history = (n : ℕ) → ReadsChannel role (end.channels (suc n)) (entries_on (suc n) history)

channel_same : (role : Role) (config : Config role) (end : End) (history : History) (number : ℕ) → ReadsEach role end history → StandsFor role config false end history → end.channels number ≡ channel_at role history number
channel_same role config end history zero reads stands = stands.no_channel
channel_same role config end history (suc n) reads stands = sym (reads n (stands.channels refl n))

pub facts_same : (role : Role) (config : Config role) (end : End) (history : History) (number : ℕ) → ReadsEach role end history → StandsFor role config false end history → facts_at config end number ≡ facts_at config (end_of config history) number
facts_same role config end history number reads stands =
    let phase = sym stands.phase in
    let agreed = sym stands.agreed in
    let channel = channel_same role config end history number reads stands in
    λ i. record { config = config; phase = phase i; agreed = agreed i; number = number; channel = channel i }

pub puts_same : (role : Role) (config : Config role) (end : End) (history : History) (frame : Frame) → ReadsEach role end history → StandsFor role config false end history → end_puts config end frame ≡ end_puts config (end_of config history) frame
puts_same role config end history frame reads stands = ap (λ (facts : Facts role). map frame_of (methods_put facts (verdict_on facts (reading frame)))) (facts_same role config end history frame.channel reads stands)

pub verdicts_are : (role : Role) (config : Config role) (end : End) (history : History) → ReadsEach role end history → StandsFor role config false end history → VerdictsAreOf role config end history
verdicts_are role config end history reads stands = record {
  verdict = λ frame. ap (λ (facts : Facts role). verdict_on facts (reading frame)) (facts_same role config end history frame.channel reads stands);
  event = λ frame. ap (λ (facts : Facts role). event_told facts (verdict_on facts (reading frame))) (facts_same role config end history frame.channel reads stands);
  puts = λ frame. puts_same role config end history frame reads stands;
  at_fault = λ kind. ap (λ (facts : Facts role). methods_put facts (Faults (fault_told kind))) (facts_same role config end history 0 reads stands);
}
