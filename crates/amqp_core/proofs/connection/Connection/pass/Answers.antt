-- What a frame leaves that passes is what the definitions say, since its verdict is theirs.
use Rattle.std.proofs.Common.{rules, ◌≡◌, None, Option, Result, IfSome, IsOk, refl, ap, sym, ◌∙◌, subst}
use Rattle.std.proofs.lemmas.Bool.{false≢true}
use Rattle.amqp_channel.specs.Channels.ChannelsView.{channels_view}
use Rattle.amqp_channel.specs.ReadingView.{reading_view}
use Rattle.amqp_channel.specs.declared.verdict.Told.{Told}
use Rattle.amqp_channel.specs.declared.verdict.Verdict.TheVariants.{Proceeds}
use Rattle.amqp_model.specs.End.Channels.{Phase, Running}
use Rattle.amqp_model.specs.Wire.Readings.{Reading}
use Rattle.amqp_core.specs.Config.Settings.{role_for}
use Rattle.amqp_core.specs.Connection.Rulings.{OnChannel}
use Rattle.amqp_core.specs.Connection.Dropping.{DropsReading}
use Rattle.amqp_core.specs.Connection.Stages.{agreed_at, phase_at}
use Rattle.amqp_core.specs.Connection.Verdicts.{end_left, FrameRules}
use Rattle.amqp_core.specs.Connection.View.{connection_end}
use Rattle.amqp_core.specs.Heard.View.{heard_view, said_by}
use Rattle.amqp_core.proofs.HeardLemmas.{said_is as heard_is}
use Rattle.amqp_core.specs.declared.faults.OutOfMemory.{OutOfMemory}
use Rattle.amqp_core.proofs.ReceiveLemmas.{drops_reading, dropped_part, left_is}
use Rattle.amqp_core.proofs.connection.Connection.pass.Goals as goal

pub returns-in-Ok-Some-clause-receives : goal.returns-in-Ok-Some-clause-receives
returns-in-Ok-Some-clause-receives c = record {
  said = search rules;
  end =
      let old = c.args.self.now in
      let reading = reading_view c.args.reading in
      let number = c.args.frame.channel in
      let told = c.in-Ok-Some.field-0-0 in
      let after = connection_end c.pass_told.new.self in
      let ruled : FrameRules old.settings (connection_end old) number reading (OnChannel (Proceeds told None)) =
      subst (λ (p : Option Told). IfSome p (λ it. FrameRules old.settings (connection_end old) number reading (OnChannel (Proceeds it None))))
      c.in-Ok-Some.field-0-is c.in-Ok-Some.ensures.rules in
      let left : after ≡ end_left (role_for old.settings) number reading (OnChannel (Proceeds told None)) (connection_end old) =
      subst (λ (p : Option Told). IfSome p (λ it. after ≡ end_left (role_for old.settings) number reading (OnChannel (Proceeds it None)) (connection_end old)))
      c.in-Ok-Some.field-0-is c.in-Ok-Some.ensures.left in
      left_is old.settings (connection_end old) after after number c.args.frame.kind c.args.frame.payload.now reading (OnChannel (Proceeds told None)) None
      ruled c.requires.says left refl refl;
  output = search rules;
  alone = search rules;
  message = search rules;
  octets = search rules;
  took = search rules;
  owed = search rules;
  heard =
      λ ran.
      let old = c.args.self.now in
      let reading = reading_view c.args.reading in
      let number = c.args.frame.channel in
      let told = c.in-Ok-Some.field-0-0 in
      let verdict = OnChannel (Proceeds told None) in
      let before = heard_view c.args.heard.now in
      let after = heard_view c.pass_told.new.heard in
      let ruled : FrameRules old.settings (connection_end old) number reading verdict =
      subst (λ (p : Option Told). IfSome p (λ it. FrameRules old.settings (connection_end old) number reading (OnChannel (Proceeds it None))))
      c.in-Ok-Some.field-0-is c.in-Ok-Some.ensures.rules in
      let heard : after ≡ said_by Running number reading verdict before =
      subst (λ (p : Option Told). IfSome p (λ it. after ≡ said_by Running number reading (OnChannel (Proceeds it None)) before))
      c.in-Ok-Some.field-0-is c.in-Ok-Some.ensures.heard in
      heard
      ∙ ap (λ p. said_by p number reading verdict before) (sym ruled.fits.1)
      ∙ heard_is old.settings (connection_end old) number c.args.frame.kind c.args.frame.payload.now reading verdict before ruled c.requires.says;
  at_fault = search rules;
  settings = search rules;
}

pub returns-in-Err-clause-receives : goal.returns-in-Err-clause-receives
returns-in-Err-clause-receives c = record {
  said = search rules;
  end =
      c.fail_at.ensures.end (connection_end c.args.self.now) (ap agreed_at (sym c.pass_told.ensures.stage)) refl;
  output = search rules;
  alone =
      λ dropped.
      let old = c.args.self.now in
      let number = c.args.frame.channel in
      let channel = channels_view old.channels number in
      let running : phase_at old.stage ≡ Running = ap phase_at c.in-Some.ensures.running in
      let drops : DropsReading Running channel number (reading_view c.args.reading) =
      subst (λ (p : Phase). DropsReading p channel number (reading_view c.args.reading)) running
      (subst (λ (r : Reading). DropsReading (phase_at old.stage) channel number r) (sym c.requires.says)
      (drops_reading (phase_at old.stage) channel number c.args.frame.kind c.args.frame.payload.now dropped)) in
      let part = dropped_part channel number (reading_view c.args.reading) drops c.in-Some.ensures.above in
      absurd (false≢true (subst (λ (r : Result (Option Told) OutOfMemory). IsOk r) c.in-Err.is (c.pass_told.ensures.drops part.0 part.1)));
  message = search rules;
  octets = search rules;
  took = search rules;
  owed = search rules;
  heard = search rules;
  at_fault = search rules;
  settings = search rules;
}
