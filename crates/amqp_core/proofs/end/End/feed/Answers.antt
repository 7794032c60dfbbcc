-- What came of the piece is answered.
use Rattle.std.proofs.Common.{◌≡◌, ◌≢◌, ◌<◌, ◌≤◌, Bool, [], length, suc, Result, IfOk, IsOk, ap, sym, ◌∙◌, subst}
use Rattle.std.proofs.Math.Logic.{∥∥₁_map}
use Rattle.amqp_model.specs.History.Histories.{entries_on}
use Rattle.amqp_channel.specs.Events.PartsView.{parts_there}
use Rattle.amqp_core.specs.Faults.Answering.{ran_out}
use Rattle.amqp_core.specs.End.View.{config_at, endpoint_of, heard_in, role_played}
use Rattle.amqp_core.specs.End.Feeding.{IsFed, Seen, seen}
use Rattle.amqp_core.specs.End.Feeds.{fed_to}
use Rattle.amqp_core.specs.End.Following.{GoesOn}
use Rattle.amqp_core.specs.declared.faults.CoreFault.{CoreFault}
use Rattle.amqp_core.proofs.BlameLemmas.{blames_as, code_taken}
use Rattle.amqp_core.proofs.CounterLemmas.{frame_counted}
use Rattle.amqp_core.proofs.FeedFaultLemmas.{count_seen, feed_faults, ok_seen, ran_seen}
use Rattle.amqp_core.proofs.FeedLemmas.{ok_with, ran_with}
use Rattle.amqp_core.proofs.HeardLemmas.{taken_heard}
use Rattle.amqp_core.proofs.HearingLemmas.{by_taken, hears_on}
use Rattle.amqp_core.proofs.OfHistoryLemmas.{verdicts_are}
use Rattle.amqp_core.proofs.end.End.feed.Goals as goal

pub returns : goal.returns
returns g c =
    let old = c.args.self.now in
    let new = c.advance-answer.new.self in
    let role = role_played old in
    let config = config_at old in
    let piece = c.args.piece.now in
    let account = c.advance-answer.new.account in
    let result = c.taken.result in
    let ran : ran_out result ≡ ran_out c.advance-answer.result =
    sym (ran_seen result) ∙ (ap ran_out c.taken.ensures ∙ ran_with c.advance-answer.result account.octets (parts_there account.parts)) in
    let fed : IsFed (seen result) (endpoint_of old) (fed_to old piece) (endpoint_of new) =
    subst (λ (r : Result Seen CoreFault). IsFed r (endpoint_of old) (fed_to old piece) (endpoint_of new)) (sym c.taken.ensures) c.advance-answer.ensures.fed in
    let heard = taken_heard result c.advance-answer.result account.octets (parts_there account.parts) c.taken.ensures role config (endpoint_of old) piece (fed_to old piece) (heard_in old) (heard_in new) c.advance-answer.ensures.heard in
    record {
      fed = fed;
      within = count_seen result (λ n. n ≤ length piece)
          (subst (λ (r : Result Seen CoreFault). IfOk r (λ taken. taken.octets ≤ length piece)) (sym c.taken.ensures)
          c.advance-answer.ensures.within);
      progress = count_seen result (λ n. piece ≢ [] → 0 < n)
          (subst (λ (r : Result Seen CoreFault). IfOk r (λ taken. piece ≢ [] → 0 < taken.octets)) (sym c.taken.ensures)
          c.advance-answer.ensures.progress);
      in_place = λ drops. ok_seen result (subst (λ (r : Result Seen CoreFault). IsOk r) (sym c.taken.ensures)
          (ok_with c.advance-answer.result account.octets (parts_there account.parts) (c.advance-answer.ensures.in_place drops)));
      history = λ history octets written stands.
          subst (λ (b : Bool). ∥ GoesOn role config b (endpoint_of old) history octets written piece (fed_to old piece) (endpoint_of new) ∥₁) (sym ran)
          (c.advance-answer.ensures.history history octets written stands);
      memory = λ out. c.advance-answer.ensures.memory (sym ran ∙ out);
      faults = feed_faults role config result (endpoint_of old) (endpoint_of new) piece fed
          (c.cut_changes_nothing.ensures.closed role config (endpoint_of old) piece) (c.cut_changes_nothing.ensures.failed role config (endpoint_of old) piece)
          (λ out. c.advance-answer.ensures.memory (sym ran ∙ out));
      verdicts = λ history octets written stands.
          let kept = (endpoint_of old).end in
          verdicts_are role config kept history (λ n. c.record_reads.ensures.channel role (kept.channels (suc n)) (entries_on (suc n) history)) stands.stands;
      frames = λ takes lasts.
          frame_counted role config (endpoint_of old) piece (fed_to old piece) account.octets _ _ _
          (c.advance-answer.ensures.account takes (sym ran ∙ lasts)) c.advance-answer.ensures.frames;
      octets = c.advance-answer.ensures.octets;
      blames = blames_as role c.advance-answer.result result (endpoint_of old) piece _ _ _ (code_taken c.advance-answer.result result account.octets (parts_there account.parts) c.taken.ensures) ran c.advance-answer.ensures.tally;
      heard = heard;
      hearing = λ takes out history octets written stands kept.
          ∥∥₁_map (subst (λ (b : Bool). ∥ GoesOn role config b (endpoint_of old) history octets written piece (fed_to old piece) (endpoint_of new) ∥₁) (sym ran ∙ out)
          (c.advance-answer.ensures.history history octets written stands))
          (λ follows. hears_on role config (endpoint_of old) history octets written piece (record (fed_to old piece) { endpoint = endpoint_of new }) _ _
          c.heard_is_kept.ensures.follows c.heard_is_kept.ensures.stays takes stands kept
          (by_taken role config result (endpoint_of old) piece (fed_to old piece) (endpoint_of new) (heard_in old) (heard_in new) out fed.answer heard) follows);
      settings = c.advance-answer.ensures.settings;
    }
