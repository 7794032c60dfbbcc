-- What is told of a frame is what is lent where the definitions tell it, and what is left is alike to theirs.
use Rattle.std.proofs.Common.{rules, refl, ap, sym, ◌∙◌, ◌≡◌, subst, None, Option}
use Rattle.amqp_frame.specs.Frame.{lent}
use Rattle.amqp_model.specs.End.Events as events
use Rattle.amqp_model.specs.Laws.OctetLaws.{event_of_frame}
use Rattle.amqp_model.specs.Lent.Alike.{lent as lent_of, maybe_telling}
use Rattle.amqp_model.specs.Stream.Endpoint.{Outcome}
use Rattle.amqp_model.specs.Wire.Readings.{Reading}
use Rattle.amqp_outbox.specs.OutboxView.{only}
use Rattle.amqp_channel.specs.ReadingView.{reading_view}
use Rattle.amqp_channel.specs.declared.verdict.Verdict.TheVariants.{Proceeds}
use Rattle.amqp_core.specs.Config.Settings.{config_view}
use Rattle.amqp_core.specs.Connection.Rulings.{OnChannel}
use Rattle.amqp_core.specs.Connection.Verdicts.{event_by, fault_by, outcome_with, verdict_here}
use Rattle.amqp_core.specs.Connection.View.{connection_end}
use Rattle.amqp_core.specs.Faults.Answering.{answer_with, AnswersFrame}
use Rattle.amqp_core.specs.Heard.View.{heard_view, said_by}
use Rattle.amqp_core.specs.Stream.EventRefView.{channel_lent}
use Rattle.amqp_core.specs.Stream.StepView.{reported}
use Rattle.amqp_core.proofs.HeardLemmas.{said_is as heard_is}
use Rattle.amqp_core.proofs.LendLemmas.{event_is, left_alike, told_lends}
use Rattle.amqp_core.proofs.ReceiveLemmas.{put_is, said_is}
use Rattle.amqp_core.proofs.connection.Connection.pass_lent.Goals as goal

pub returns-in-Some-clause-receives : goal.returns-in-Some-clause-receives
returns-in-Some-clause-receives c = record {
  said =
      let old = c.args.self.now in
      let reading = reading_view c.args.reading in
      let number = c.args.frame.channel in
      let told = c.in-Some.told in
      let verdict = OnChannel (Proceeds told None) in
      let event = event_by number (verdict_here old.settings (connection_end old) number reading verdict) in
      let fault = fault_by (verdict_here old.settings (connection_end old) number reading verdict) in
      subst (λ (o : Outcome). AnswersFrame (answer_with (reported told) (event_of_frame (config_view old.settings) (connection_end old) (lent c.args.frame))) o)
      (said_is old.settings (connection_end old) number c.args.frame.kind c.args.frame.payload.now reading verdict
      event fault c.in-Some.ensures.rules c.requires.says refl refl)
      (subst (λ (e : Option events.Event). AnswersFrame (answer_with (reported told) e) (outcome_with event fault))
      (event_is old.settings (connection_end old) number c.args.frame.kind c.args.frame.payload.now reading verdict c.in-Some.ensures.rules c.requires.says)
      refl);
  end =
      let old = c.args.self.now in
      let after = connection_end c.pass_on_lent.new.self in
      left_alike old.settings (connection_end old) after after c.args.frame.channel c.args.frame.kind
      c.args.frame.payload.now (reading_view c.args.reading) (OnChannel (Proceeds c.in-Some.told None)) None c.in-Some.ensures.rules c.requires.says
      c.in-Some.ensures.left refl refl;
  output =
      let old = c.args.self.now in
      let reading = reading_view c.args.reading in
      let output = c.args.outbox.now.output in
      let verdict = OnChannel (Proceeds c.in-Some.told None) in
      let alone : c.args.outbox.now ≡ only output = search rules in
      alone
      ∙ ap only (put_is old.settings (connection_end old) c.args.frame.channel c.args.frame.kind c.args.frame.payload.now reading
      verdict output c.in-Some.ensures.rules c.requires.says);
  alone = search rules;
  heard =
      λ ran.
      let old = c.args.self.now in
      let verdict = OnChannel (Proceeds c.in-Some.told None) in
      c.keep_cause.ensures c.args.frame.channel
      ∙ ap (λ p. said_by p c.args.frame.channel (reading_view c.args.reading) verdict (heard_view c.args.heard.now)) (sym c.in-Some.ensures.rules.fits.1)
      ∙ heard_is old.settings (connection_end old) c.args.frame.channel c.args.frame.kind c.args.frame.payload.now (reading_view c.args.reading)
      verdict (heard_view c.args.heard.now) c.in-Some.ensures.rules c.requires.says;
  at_fault = search rules;
  settings = search rules;
}

pub returns-in-Some-clause-told : goal.returns-in-Some-clause-told
returns-in-Some-clause-told c =
    let old = c.args.self.now in
    let reading = reading_view c.args.reading in
    let number = c.args.frame.channel in
    let told = c.in-Some.told in
    let event = event_of_frame (config_view old.settings) (connection_end old) (lent c.args.frame) in
    subst (λ (r : Reading). channel_lent number r told ≡ lent_of number r (maybe_telling event)) c.requires.says
    (told_lends old.settings (connection_end old) number reading told None c.in-Some.ensures.rules.fits
    ∙ ap (λ e. lent_of number reading (maybe_telling e))
    (event_is old.settings (connection_end old) number c.args.frame.kind c.args.frame.payload.now reading (OnChannel (Proceeds told None)) c.in-Some.ensures.rules c.requires.says))
