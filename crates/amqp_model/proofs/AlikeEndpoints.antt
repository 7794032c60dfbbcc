-- Alike endpoints do alike with octets, asks and writes, and stay alike.
use Rattle.std.proofs.Common.{◌≡◌, Bool, true, false, ℕ, suc, List, [], ◌∷◌, ◌++◌, map, Option, Some}
use Rattle.std.proofs.Common.{None, refl, sym, ap, ◌∙◌, subst}
use Rattle.amqp_model.specs.Wire.Notes.{Role}
use Rattle.amqp_model.specs.Wire.Frame.{Frame}
use Rattle.amqp_model.specs.Wire.Readings.{reading}
use Rattle.amqp_model.specs.End.Channels as channels
use Rattle.amqp_model.specs.End.Channels.{Channel, Free, Opening, Closing}
use Rattle.amqp_model.specs.End.Channels.{End}
use Rattle.amqp_model.specs.History.Negotiation.{Config, frame_limit}
use Rattle.amqp_model.specs.End.Closes.{frame_of}
use Rattle.amqp_model.specs.End.Events.{Quiet, Fault, FrameVerdict, Proceeds, RefusesContent, Faults}
use Rattle.amqp_model.specs.End.Events.{WrongProtocolHeader}
use Rattle.amqp_model.specs.End.FrameVerdict.{Facts, methods_put, event_told}
use Rattle.amqp_model.specs.End.Asks.{Puts, Refused, AskVerdict, ask_verdict}
use Rattle.amqp_model.specs.Output.Outputs.{after_puts, after_writing}
use Rattle.amqp_model.specs.End.EndVerdict.{facts_at, end_verdict}
use Rattle.amqp_model.specs.Stream.Octets.{opening_read}
use Rattle.amqp_model.specs.Stream.Endpoint.{Endpoint, Feeding, Outcome, Unfinished, Finished, Found, Comparison}
use Rattle.amqp_model.specs.Stream.Endpoint.{Prefix, Same, Differs, Judgement, Begun, Whole, Wrong, judged, compared}
use Rattle.amqp_model.specs.Stream.Endpoint.{awaits_opening, refusal_in, unless_over, holds_octets, comes_to, owed_at_start}
use Rattle.amqp_model.specs.Stream.Endpoint.{after_opening, outcome_of, fault_told, owed_at_fault, after_judged}
use Rattle.amqp_model.specs.Stream.Endpoint.{after_octets, after_octet, fed_after, after_feed, after_answer, after_ask}
use Rattle.amqp_model.specs.End.Machine.{end_after_owed}
use Rattle.amqp_model.specs.Lent.Alike.{AlikeChannels, AlikeEnds, AlikeEndpoints, AlikeFeedings, maybe_telling}
use Rattle.amqp_model.specs.Lent.Alike.{VerdictTelling, Proceeding, Refusing, Faulting, verdict_telling, OutcomeTelling}
use Rattle.amqp_model.specs.Lent.Alike.{Came, Failing, outcome_telling}
use Rattle.amqp_model.specs.History.Histories.{History}
use Rattle.amqp_model.specs.Laws.OctetLaws.{FeedFollows}
use Rattle.amqp_model.specs.Laws.StreamingLaws.{AlikeIsEquality, FeedsAlike, AskingLeavesAlike, WritingLeavesAlike}
use Rattle.amqp_model.specs.Laws.StreamingLaws.{StreamFeedFollows}
use Rattle.amqp_model.proofs.AlikeVerdicts.{alike-end, verdicts-alike, puts-are, puts-alike}
use Rattle.amqp_model.proofs.AlikeEntries.{channel-itself, puts-leave-alike, putting-leaves-alike, failed-alike}
use Rattle.amqp_model.proofs.AlikeEntries.{taking-leaves-alike}
use Rattle.amqp_model.proofs.AlikeAsks.{asks-alike}

-- Likeness is an equality.

end-itself : (end : End) → AlikeEnds end end
end-itself end = record { phase = refl; agreed = refl; channels = λ n. channel-itself (end.channels n) }

channel-back : (one other : Channel) → AlikeChannels one other → AlikeChannels other one
channel-back Free Free a = tt
channel-back Opening Opening a = tt
channel-back Closing Closing a = tt
channel-back (channels.Open one) (channels.Open other) a =
    record { content = sym a.content; paused = sym a.paused; awaits = sym a.awaits; requests = sym a.requests }
channel-back one other a = absurd a

channel-onwards : (one other third : Channel) → AlikeChannels one other → AlikeChannels other third
    → AlikeChannels one third
channel-onwards Free Free third a b = b
channel-onwards Opening Opening third a b = b
channel-onwards Closing Closing third a b = b
channel-onwards (channels.Open one) (channels.Open other) (channels.Open third) a b =
    record {
      content = a.content ∙ b.content;
      paused = a.paused ∙ b.paused;
      awaits = a.awaits ∙ b.awaits;
      requests = a.requests ∙ b.requests;
    }
channel-onwards (channels.Open one) (channels.Open other) third a b = absurd b
channel-onwards one other third a b = absurd a

pub alike-is-equality : AlikeIsEquality
alike-is-equality =
    record {
      itself = λ endpoint. record { end = end-itself endpoint.end; unfinished = refl; output = refl };
      both_ways = λ one other a. record {
        end = record {
          phase = sym a.end.phase;
          agreed = sym a.end.agreed;
          channels = λ n. channel-back (one.end.channels n) (other.end.channels n) (a.end.channels n);
        };
        unfinished = sym a.unfinished;
        output = sym a.output;
      };
      onwards = λ one other third a b. record {
        end = record {
          phase = a.end.phase ∙ b.end.phase;
          agreed = a.end.agreed ∙ b.end.agreed;
          channels = λ n. channel-onwards (one.end.channels n) (other.end.channels n) (third.end.channels n)
              (a.end.channels n) (b.end.channels n);
        };
        unfinished = a.unfinished ∙ b.unfinished;
        output = a.output ∙ b.output;
      };
    }

-- A verdict's outcome.

outcome_in : (refused : OutcomeTelling) → VerdictTelling → OutcomeTelling
outcome_in refused (Proceeding event owed) = Came event
outcome_in refused Refusing = refused
outcome_in refused (Faulting fault) = Failing fault

outcome-in : (role : Role) (facts : Facts role) (verdict : FrameVerdict) → outcome_telling (outcome_of facts verdict)
    ≡ outcome_in (Came (maybe_telling (event_told facts RefusesContent))) (verdict_telling verdict)
unfolding outcome_in
outcome-in role facts (Proceeds event owed) = refl
outcome-in role facts RefusesContent = refl
outcome-in role facts (Faults fault) = refl

-- What holds of an endpoint with these channels holds of the alike endpoint.

abbrev with_channels : Endpoint → (ℕ → Channel) → Endpoint
with_channels one others =
    record {
      end = record { phase = one.end.phase; agreed = one.end.agreed; channels = others };
      unfinished = one.unfinished;
      output = one.output;
    }

alike-endpoint : (one other : Endpoint) → AlikeEndpoints one other → (P : Endpoint → Type 0)
    → P (with_channels one other.end.channels) → P other
alike-endpoint one other a P p =
    alike-end one.end other.end a.end
    (λ end. P (record { end = end; unfinished = other.unfinished; output = other.output }))
    (subst (λ output. P (record {
      end = (with_channels one other.end.channels).end;
      unfinished = other.unfinished;
      output = output;
    })) a.output
    (subst (λ unfinished. P (record {
      end = (with_channels one other.end.channels).end;
      unfinished = unfinished;
      output = one.output;
    })) a.unfinished p))

-- Octets.

-- alike channels at an end and at one with these channels
abbrev Each : Endpoint → (ℕ → Channel) → Type 0
Each one others = (n : ℕ) → AlikeChannels (one.end.channels n) (others n)

ends-alike : (one : Endpoint) (others : ℕ → Channel) → Each one others
    → AlikeEnds one.end (with_channels one others).end
ends-alike one others a = record { phase = refl; agreed = refl; channels = a }

comes-alike : (one other : Endpoint) (this that : End) (put puts : List Frame) (outcome others : Outcome)
    → one.output ≡ other.output → AlikeEnds this that → put ≡ puts
    → outcome_telling outcome ≡ outcome_telling others
    → AlikeFeedings (comes_to one this put outcome) (comes_to other that puts others)
comes-alike one other this that put puts outcome others out a same e =
    record {
      endpoint = record {
        end = a;
        unfinished = refl;
        output = ap (λ frames. after_puts frames one.output) same
            ∙ ap (after_puts puts) out;
      };
      taken = refl;
      outcome = e;
    }

module _ (role : Role) (config : Config role) (one : Endpoint) (others : ℕ → Channel) (each : Each one others) where
  goes-alike : (octets : List ℕ)
      → AlikeFeedings (holds_octets one octets) (holds_octets (with_channels one others) octets)
  goes-alike octets =
      record {
        endpoint = record { end = ends-alike one others each; unfinished = refl; output = refl };
        taken = refl;
        outcome = refl;
      }

  opening-alike : (octets : List ℕ) (c : Comparison)
      → AlikeFeedings (after_opening role config one octets c)
      (after_opening role config (with_channels one others) octets c)
  opening-alike octets Prefix = goes-alike octets
  opening-alike octets Same =
      comes-alike one (with_channels one others) _ _ (map frame_of (owed_at_start role config))
      (map frame_of (owed_at_start role config)) (Finished (Some Quiet)) (Finished (Some Quiet)) refl
      (puts-leave-alike role config one.end (with_channels one others).end (owed_at_start role config)
      (ends-alike one others each)) refl refl
  opening-alike octets Differs =
      record {
        endpoint = record {
          end = failed-alike (Faults WrongProtocolHeader) (Faults WrongProtocolHeader) one.end
              (with_channels one others).end refl (ends-alike one others each);
          unfinished = refl;
          output = refl;
        };
        taken = refl;
        outcome = refl;
      }

  outcome-alike : (frame : Frame)
      → outcome_telling (outcome_of (facts_at config one.end frame.channel) (end_verdict config one.end frame))
      ≡ outcome_telling (outcome_of (facts_at config (with_channels one others).end frame.channel)
      (end_verdict config (with_channels one others).end frame))
  outcome-alike frame =
      outcome-in role (facts_at config one.end frame.channel) (end_verdict config one.end frame)
      ∙ (ap (outcome_in (Came (maybe_telling (event_told (facts_at config one.end frame.channel) RefusesContent))))
      (verdicts-alike role config one.end (with_channels one others).end frame.channel (reading frame)
      (ends-alike one others each))
      ∙ sym (outcome-in role (facts_at config (with_channels one others).end frame.channel)
      (end_verdict config (with_channels one others).end frame)))

  fault-same : (fault : Fault) → methods_put (facts_at config one.end 0) (Faults fault)
      ≡ methods_put (facts_at config (with_channels one others).end 0) (Faults fault)
  fault-same fault =
      puts-are role (facts_at config one.end 0) (Faults fault)
      ∙ sym (puts-are role (facts_at config (with_channels one others).end 0) (Faults fault))

  judged-alike : (octets : List ℕ) (j : Judgement)
      → AlikeFeedings (after_judged role config one octets j)
      (after_judged role config (with_channels one others) octets j)
  judged-alike octets Begun = goes-alike octets
  judged-alike octets (Whole frame) =
      comes-alike one (with_channels one others) _ _ _ _ _ _ refl
      (taking-leaves-alike role config one.end (with_channels one others).end (reading frame) frame
      (ends-alike one others each))
      (ap (map frame_of) (puts-alike role config one.end (with_channels one others).end frame.channel (reading frame)
      (ends-alike one others each))) (outcome-alike frame)
  judged-alike octets (Wrong kind) =
      comes-alike one (with_channels one others) _ _ _ _ _ _ refl
      (failed-alike (Faults (fault_told kind)) (Faults (fault_told kind)) _ _ refl
      (subst (λ owed. AlikeEnds (end_after_owed role config (owed_at_fault config one.end kind) one.end)
      (end_after_owed role config owed (with_channels one others).end)) (fault-same (fault_told kind))
      (puts-leave-alike role config one.end (with_channels one others).end (owed_at_fault config one.end kind)
      (ends-alike one others each))))
      (ap (map frame_of) (fault-same (fault_told kind))) refl

  octets-alike : (octets : List ℕ) (awaits : Bool)
      → AlikeFeedings (after_octets role config one octets awaits)
      (after_octets role config (with_channels one others) octets awaits)
  octets-alike octets true = opening-alike octets (compared octets (opening_read role))
  octets-alike octets false = judged-alike octets (judged (frame_limit one.end.agreed) octets)

unless-alike : (over : Option Fault) (one other : Endpoint) (this that : Feeding) → AlikeEndpoints one other
    → AlikeFeedings this that → AlikeFeedings (unless_over one over this) (unless_over other over that)
unless-alike (Some fault) one other this that a f = record { endpoint = a; taken = refl; outcome = refl }
unless-alike None one other this that a f = f

with-itself : (one : Endpoint) (others : ℕ → Channel) → Each one others
    → AlikeEndpoints one (with_channels one others)
with-itself one others each = record { end = ends-alike one others each; unfinished = refl; output = refl }

octet-alike : (role : Role) (config : Config role) (octet : ℕ) (one other : Endpoint) → AlikeEndpoints one other
    → AlikeFeedings (after_octet role config one octet) (after_octet role config other octet)
octet-alike role config octet one other a =
    alike-endpoint one other a (λ endpoint. AlikeFeedings (after_octet role config one octet)
    (after_octet role config endpoint octet))
    (unless-alike (refusal_in one.end.phase) one (with_channels one other.end.channels) _ _
    (with-itself one other.end.channels a.end.channels)
    (octets-alike role config one other.end.channels a.end.channels (one.unfinished ++ octet ∷ [])
    (awaits_opening role one.end.phase)))

fed-after-alike : (first others later next : Feeding) (o p : Outcome) → outcome_telling o ≡ outcome_telling p
    → AlikeFeedings first others → AlikeFeedings later next
    → AlikeFeedings (fed_after first o later) (fed_after others p next)
fed-after-alike first others later next Unfinished Unfinished e a b =
    record { endpoint = b.endpoint; taken = ap suc b.taken; outcome = b.outcome }
fed-after-alike first others later next Unfinished (Finished event) e a b = absurd cc
fed-after-alike first others later next Unfinished (Found fault) e a b = absurd cc
fed-after-alike first others later next (Finished event) Unfinished e a b = absurd cc
fed-after-alike first others later next (Finished event) (Finished told) e a b = a
fed-after-alike first others later next (Finished event) (Found fault) e a b = a
fed-after-alike first others later next (Found fault) Unfinished e a b = absurd cc
fed-after-alike first others later next (Found fault) (Finished event) e a b = a
fed-after-alike first others later next (Found fault) (Found told) e a b = a

feeding-alike : (role : Role) (config : Config role) (piece : List ℕ) (one other : Endpoint)
    → AlikeEndpoints one other
    → AlikeFeedings (after_feed role config one piece) (after_feed role config other piece)
feeding-alike role config [] one other a =
    alike-endpoint one other a (λ endpoint. AlikeFeedings (after_feed role config one [])
    (after_feed role config endpoint []))
    (unless-alike (refusal_in one.end.phase) one (with_channels one other.end.channels) _ _
    (with-itself one other.end.channels a.end.channels)
    (record { endpoint = with-itself one other.end.channels a.end.channels; taken = refl; outcome = refl }))
feeding-alike role config (octet ∷ later) one other a =
    let first = octet-alike role config octet one other a in
    fed-after-alike (after_octet role config one octet) (after_octet role config other octet) _ _
    (after_octet role config one octet).outcome (after_octet role config other octet).outcome first.outcome first
    (feeding-alike role config later (after_octet role config one octet).endpoint
    (after_octet role config other octet).endpoint first.endpoint)

pub feeds-alike : FeedsAlike
feeds-alike role config one other piece a = feeding-alike role config piece one other a

-- Asks and writes.

pub answer-alike : (role : Role) (config : Config role) (one other : Endpoint) (verdict : AskVerdict)
    → AlikeEndpoints one other
    → AlikeEndpoints (after_answer role config one verdict) (after_answer role config other verdict)
answer-alike role config one other (Refused refusal) a = a
answer-alike role config one other (Puts frames) a =
    record {
      end = putting-leaves-alike role config one.end other.end frames a.end;
      unfinished = a.unfinished;
      output = ap (after_puts frames) a.output;
    }

pub asking-leaves-alike : AskingLeavesAlike
asking-leaves-alike role config one other ask a =
    subst (λ verdict. AlikeEndpoints (after_ask role config one ask) (after_answer role config other verdict))
    (asks-alike role one.end other.end ask a.end)
    (answer-alike role config one other (ask_verdict role one.end ask) a)

pub writing-leaves-alike : WritingLeavesAlike
writing-leaves-alike n one other a =
    record { end = a.end; unfinished = a.unfinished; output = ap (after_writing n) a.output }

-- What an end stands for that lends.

-- a piece fed to an end that gathers follows its history
abbrev pub FeedFollowsAnywhere : Type 0
FeedFollowsAnywhere =
    (role : Role) (config : Config role) (endpoint : Endpoint) (history : History) (fed written piece : List ℕ)
    → FeedFollows role config endpoint history fed written piece

pub stream-feed-follows : FeedFollowsAnywhere → StreamFeedFollows
stream-feed-follows law role config endpoint history fed written piece stands octets writes =
    record {
      gathers = stands.gathers;
      stands = stands.stands;
      follows = law role config stands.gathers history fed written piece stands.stands octets writes;
      alike = feeds-alike role config stands.gathers endpoint piece stands.alike;
    }
