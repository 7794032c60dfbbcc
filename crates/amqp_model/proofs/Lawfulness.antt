-- Every lawful history is one for which an end stands.
use Rattle.std.proofs.Common.{◌≡◌, Bool, true, false, [], Option, inl, refl, sym, ap, subst}
use Rattle.std.proofs.lemmas.Bool.{true≢false}
use Rattle.amqp_model.specs.Wire.Frame.{Frame}
use Rattle.amqp_model.specs.Wire.Notes.{Role, Server}
use Rattle.amqp_model.specs.History.Histories.{Put, History}
use Rattle.amqp_model.specs.End.Channels.{HandshakeStep, Phase, Handshake, Failed, End}
use Rattle.amqp_model.specs.History.Negotiation.{Config}
use Rattle.amqp_model.specs.History.Negotiation as negotiation
use Rattle.amqp_model.specs.End.StateFromHistory.{end_from}
use Rattle.amqp_model.specs.End.Closes.{method_frame}
use Rattle.amqp_model.specs.End.Asks.{Puts, ask_verdict}
use Rattle.amqp_model.specs.Wire.Readings.{reading}
use Rattle.amqp_model.specs.End.EndVerdict.{end_verdict, goes_on, too_large_puts}
use Rattle.amqp_model.specs.End.ReadingBack.{WritesReadBack}
use Rattle.amqp_model.specs.End.LawfulHistories.{then_put, then_taken, Goes, greets, takes, faults, meets_too_large}
use Rattle.amqp_model.specs.End.LawfulHistories.{fails, asks, controls, begun, goes}
use Rattle.amqp_model.specs.End.Machine.{end_after_taken, end_after_too_large, end_after_put, as_failed, new_end}
use Rattle.amqp_model.specs.End.Machine.{StandsFor}
use Rattle.amqp_model.specs.Laws.EndLaws.{LawfulStands, StepFollows, StepsOfEnd, EndSteps}
use Rattle.amqp_model.proofs.EndSteps.{end-follows, new-end-stands}
use Rattle.amqp_model.proofs.FrameSteps.{frame-follows}
use Rattle.amqp_model.proofs.AskSteps.{asks-follow}
use Rattle.amqp_model.proofs.Walking.{Stands as Stood, stands-kept}
use Rattle.amqp_model.proofs.Controlling.{control-kept, puts-at-zero}
use Rattle.amqp_model.proofs.Failing.{frame-fails, too-large-fails, any-fails}
use Rattle.amqp_model.proofs.Standing.{end-stands}

-- what is read off a history stands for it, where anything does
abbrev is_failed : Phase → Bool
is_failed Failed = true
is_failed phase = false

failed-no-step : (step : HandshakeStep) → Failed ≡ Handshake step → ⊥
failed-no-step step p = true≢false (ap is_failed p)

stands-itself : (role : Role) (config : Config role) (failed : Bool) (end : End) (history : History)
    → StandsFor role config failed end history
    → StandsFor role config failed (end_from role config failed history) history
stands-itself role config false end history stands =
    subst (λ end. StandsFor role config false end history) (sym (end-stands role config end history stands)) stands
stands-itself role config true end history stands = record {
  phase = refl;
  agreed = refl;
  no_channel = refl;
  free_before = λ step p. absurd (failed-no-step step p);
  channels = λ e. absurd (true≢false e);
}

-- one step
abbrev Stands : (role : Role) → Config role → (failed : Bool) → History → Type 0
Stands role config failed history = (end : End) × StandsFor role config failed end history

goes-stand : {role : Role} {config : Config role} {before after : History} {taken : Option Frame} {failed : Bool}
    → WritesReadBack role config → (end : End) → end_from role config false before ≡ end
    → StandsFor role config false end before → Goes role config before taken failed after
    → Stands role config failed after
goes-stand {config} back end e stands greets =
    (_, end-follows Server config end [] (Put (method_frame 0 (negotiation.start config))) stands (inl refl))
goes-stand {role} {config} {before} back end e stands (takes frame p g) =
    subst (λ x. Stands role config false (then_taken config x frame before)) (sym e) (
      end_after_taken role config end (reading frame) frame,
      frame-follows role config end before frame back stands
          (subst (λ x. goes_on (end_verdict config x frame) ≡ true) e g),
    )
goes-stand {role} {config} {before} back end e stands (faults frame p g) =
    subst (λ x. Stands role config true (then_taken config x frame before)) (sym e) (
      end_after_taken role config end (reading frame) frame,
      frame-fails role config end before frame back stands
          (subst (λ x. goes_on (end_verdict config x frame) ≡ false) e g),
    )
goes-stand {role} {config} {before} back end e stands (meets_too_large p) =
    subst (λ x. Stands role config true (then_put (too_large_puts config x) before)) (sym e)
    (end_after_too_large role config end, too-large-fails role config end before back stands)
goes-stand {role} {config} {before} back end e stands (fails p) =
    (as_failed end, any-fails role config end before stands)
goes-stand {role} {config} {before} back end e stands (asks ask frames made read v) = (
  end_after_put role config frames end,
  asks-follow role config end before ask frames stands read.method made
      (subst (λ x. ask_verdict role x ask ≡ Puts frames) e v),
)
goes-stand {role} {config} {before} back end e stands (controls control frames read v) = (
  end_after_put role config frames end,
  control-kept Stood stands-kept.puts role config end before frames stands
      (puts-at-zero role config (end_from role config false before) control frames back read v),
)

pub lawful-stands : LawfulStands
lawful-stands role config failed history back begun =
    stands-itself role config false (new_end role) [] (new-end-stands role config)
lawful-stands role config failed history back (goes {before = before} lawful step) =
    let after = goes-stand back (end_from role config false before) refl
    (lawful-stands role config false before back lawful) step in
    stands-itself role config failed after.0 history after.1

pub step-follows : StepFollows
step-follows role config end before taken failed after back stands step =
    goes-stand back end (end-stands role config end before stands) stands step

-- the steps of an end, by what it keeps
pub end-steps : EndSteps
end-steps role config end history stands =
    subst (λ e. StepsOfEnd role config e history) (end-stands role config end history stands)
    (record {
      takes = λ frame can g. takes frame can g;
      faults = λ frame can g. faults frame can g;
      too_large = λ p. meets_too_large p;
      fails = λ p. fails p;
      asks = λ ask frames made read v. asks ask frames made read v;
      controls = λ control frames read v. controls control frames read v;
    })
