-- What is told of a frame is what is lent where the definitions tell it, and what is left is alike to theirs.
use Rattle.std.proofs.Common.{rules, Bool, cond, map, refl, ap, sym, ◌∙◌, ◌≡◌, subst, Option}
use Rattle.std.proofs.lemmas.Bool.{false≢true}
use Rattle.amqp_frame.specs.Frame.{lent}
use Rattle.amqp_model.specs.End.Channels.{End, Running}
use Rattle.amqp_model.specs.End.Closes.{frame_of}
use Rattle.amqp_model.specs.End.EndVerdict.{end_puts}
use Rattle.amqp_model.specs.End.Events as events
use Rattle.amqp_model.specs.End.Events.{FrameVerdict}
use Rattle.amqp_model.specs.End.Machine.{as_failed, end_after_taken}
use Rattle.amqp_model.specs.Laws.OctetLaws.{event_of_frame}
use Rattle.amqp_model.specs.Lent.Alike.{lent as lent_of, maybe_telling}
use Rattle.amqp_model.specs.Output.Outputs.{Output, after_puts}
use Rattle.amqp_model.specs.Stream.Endpoint.{Outcome}
use Rattle.amqp_model.specs.Wire.Readings.{Reading, reading as says}
use Rattle.amqp_outbox.specs.OutboxView.{only}
use Rattle.amqp_channel.specs.Channels.ChannelsView.{channels_view}
use Rattle.amqp_channel.specs.ReadingView.{reading_view}
use Rattle.amqp_channel.specs.Verdict.VerdictView.{whole_now}
use Rattle.amqp_core.specs.Faults.Answering.{answer_with, AnswersFrame}
use Rattle.amqp_core.specs.Faults.Blamed.{blames_frame, code_by, code_found, tally_view}
use Rattle.amqp_core.specs.Connection.View.{connection_end}
use Rattle.amqp_core.specs.Connection.Dropping.{DropsReading}
use Rattle.amqp_core.specs.Stream.EventRefView.{report_lent}
use Rattle.amqp_core.specs.Heard.View.{heard_view, said_by}
use Rattle.amqp_core.specs.Stream.Lending.{AlikeLeft}
use Rattle.amqp_core.specs.Connection.Outcomes.{owed_by}
use Rattle.amqp_core.specs.Connection.Rulings.{OnChannel}
use Rattle.amqp_core.specs.Config.Settings.{config_view, role_for}
use Rattle.amqp_core.specs.Connection.Stages.{agreed_at, leaves, phase_at}
use Rattle.amqp_core.specs.Connection.Verdicts.{event_by, fault_by, fault_there, outcome_with, verdict_here}
use Rattle.amqp_core.proofs.HeardLemmas.{fault_unheard, said_is as heard_is}
use Rattle.amqp_core.proofs.LendLemmas.{event_is, if_ok_map, left_alike}
use Rattle.amqp_core.proofs.ReceiveLemmas.{drops_reading, put_is, said_is}
use Rattle.amqp_core.proofs.StreamLemmas.{same_left}
use Rattle.amqp_core.proofs.connection.Connection.receive_lent.Goals as goal

pub returns-in_default-carry_out_on_lent-clause-receives : goal.returns-in_default-carry_out_on_lent-clause-receives
returns-in_default-carry_out_on_lent-clause-receives c = record {
  said = search rules;
  end =
      let old = c.args.self.now in
      same_left (as_failed (connection_end old)) (connection_end c.fail_at.new.self) (c.fail_at.ensures.end (connection_end old) (ap agreed_at (sym c.carry_out_on_lent.ensures.stage)) refl);
  output = search rules;
  alone =
      let phase = phase_at c.args.self.now.stage in
      let number = c.args.frame.channel in
      let channel = channels_view c.args.self.now.channels number in
      λ dropped.
      let drops = subst (λ (r : Reading). DropsReading phase channel number r) (sym c.requires.says)
      (drops_reading phase channel number c.args.frame.kind c.args.frame.payload.now dropped) in
      absurd (false≢true (c.in_default-carry_out_on_lent.ensures.light (c.judge_on-verdict.ensures.light drops)));
  heard = search rules;
  at_fault = search rules;
  settings = search rules;
}

pub returns-clause-receives : goal.returns-clause-receives
returns-clause-receives c = record {
  said =
      let old = c.args.self.now in
      let reading = reading_view c.args.reading in
      let number = c.args.frame.channel in
      let whole = whole_now (channels_view old.channels number) reading in
      let event = event_by number (verdict_here old.settings (connection_end old) number reading (OnChannel c.judge_on-verdict.result)) in
      let fault = fault_by (verdict_here old.settings (connection_end old) number reading (OnChannel c.judge_on-verdict.result)) in
      subst (λ (o : Outcome). AnswersFrame (answer_with c.report_on.result (event_of_frame (config_view old.settings) (connection_end old) (lent c.args.frame))) o)
      (said_is old.settings (connection_end old) number c.args.frame.kind c.args.frame.payload.now reading (OnChannel c.judge_on-verdict.result)
      event fault c.judge_on-verdict.ensures.rules c.requires.says refl refl)
      (subst (λ (e : Option events.Event). AnswersFrame (answer_with c.report_on.result e) (outcome_with event fault))
      (event_is old.settings (connection_end old) number c.args.frame.kind c.args.frame.payload.now reading (OnChannel c.judge_on-verdict.result) c.judge_on-verdict.ensures.rules c.requires.says)
      (c.report_on.ensures.says old.settings number reading whole));
  end =
      let old = c.args.self.now in
      let reading = reading_view c.args.reading in
      let number = c.args.frame.channel in
      let frame = lent c.args.frame in
      let next : End = end_after_taken (role_for old.settings) (config_view old.settings) (connection_end old) (says frame) frame in
      subst (λ (b : Bool). AlikeLeft (cond b (as_failed (connection_end old)) next) (connection_end c.fail_by.new.self)) (sym c.report_on.ensures.memory)
      (left_alike old.settings (connection_end old) (connection_end c.carry_out_on_lent.new.self) (connection_end c.fail_by.new.self) number c.args.frame.kind
      c.args.frame.payload.now reading (OnChannel c.judge_on-verdict.result) (fault_there c.fault_on-fault.result) c.judge_on-verdict.ensures.rules c.requires.says
      c.in-Ok.ensures.left (c.fault_on-fault.ensures.fault old.settings number reading (whole_now (channels_view old.channels number) reading))
      c.fail_by.ensures.end);
  output =
      let old = c.args.self.now in
      let reading = reading_view c.args.reading in
      let output = c.args.outbox.now.output in
      let next : Output = after_puts (end_puts (config_view old.settings) (connection_end old) (lent c.args.frame)) output in
      let said : FrameVerdict = verdict_here old.settings (connection_end old) c.args.frame.channel reading (OnChannel c.judge_on-verdict.result) in
      c.in-Ok.ensures.put
      ∙ (ap (λ b. only (after_puts (map frame_of (owed_by b c.args.frame.channel said)) output)) (sym (ap leaves c.judge_on-verdict.ensures.rules.fits.1))
      ∙ (ap only (put_is old.settings (connection_end old) c.args.frame.channel c.args.frame.kind c.args.frame.payload.now reading
      (OnChannel c.judge_on-verdict.result) output c.judge_on-verdict.ensures.rules c.requires.says)
      ∙ ap (λ b. only (cond b output next)) (sym c.report_on.ensures.memory)));
  alone =
      let phase = phase_at c.args.self.now.stage in
      let number = c.args.frame.channel in
      let channel = channels_view c.args.self.now.channels number in
      λ dropped.
      let light = c.judge_on-verdict.ensures.light
      (subst (λ (r : Reading). DropsReading phase channel number r) (sym c.requires.says)
      (drops_reading phase channel number c.args.frame.kind c.args.frame.payload.now dropped)) in
      c.report_on.ensures.light channel light;
  heard =
      λ ran.
      let old = c.args.self.now in
      c.in-Ok.ensures.heard
      ∙ ap (λ p. said_by p c.args.frame.channel (reading_view c.args.reading) (OnChannel c.judge_on-verdict.result) (heard_view c.args.heard.now)) (sym c.judge_on-verdict.ensures.rules.fits.1)
      ∙ heard_is old.settings (connection_end old) c.args.frame.channel c.args.frame.kind c.args.frame.payload.now (reading_view c.args.reading)
      (OnChannel c.judge_on-verdict.result) (heard_view c.args.heard.now) c.judge_on-verdict.ensures.rules c.requires.says;
  at_fault =
      λ ran.
      fault_unheard c.report_on.result Running c.args.frame.channel (reading_view c.args.reading) (OnChannel c.judge_on-verdict.result)
      (heard_view c.args.heard.now) _ c.report_on.ensures.goes c.in-Ok.ensures.heard;
  settings = search rules;
}

pub returns-clause-told : goal.returns-clause-told
returns-clause-told c =
    let old = c.args.self.now in
    let reading = reading_view c.args.reading in
    let number = c.args.frame.channel in
    let event = event_of_frame (config_view old.settings) (connection_end old) (lent c.args.frame) in
    if_ok_map c.report_on.result _ _
    (λ report told.
    subst (λ (r : Reading). report_lent number r report ≡ lent_of number r (maybe_telling event)) c.requires.says
    (told old.settings (connection_end old) number reading c.judge_on-verdict.ensures.rules.fits
    ∙ ap (λ e. lent_of number reading (maybe_telling e))
    (event_is old.settings (connection_end old) number c.args.frame.kind c.args.frame.payload.now reading (OnChannel c.judge_on-verdict.result) c.judge_on-verdict.ensures.rules c.requires.says)))
    c.report_on.ensures.told

pub returns-clause-tally : goal.returns-clause-tally
returns-clause-tally c =
    let old = c.args.self.now in
    let reading = reading_view c.args.reading in
    let number = c.args.frame.channel in
    let whole = whole_now (channels_view old.channels number) reading in
    let codes : code_by (fault_there c.fault_on-fault.result) ≡ code_found c.report_on.result =
    ap code_by (c.fault_on-fault.ensures.fault old.settings number reading whole) ∙ sym (c.report_on.ensures.code old.settings number reading whole) in
    c.fail_by.ensures.tally ∙ ap (λ k. blames_frame k (lent c.args.frame) (tally_view c.args.tally.now)) codes
