-- What a header leaves that passes is what the definitions say, since its verdict is theirs.
use Rattle.std.proofs.Common.{rules, ◌≡◌, None, refl, ap, sym, ◌∙◌}
use Rattle.amqp_channel.specs.ReadingView.{header_said}
use Rattle.amqp_channel.specs.declared.verdict.Told.TheVariants.{Headed}
use Rattle.amqp_channel.specs.declared.verdict.Verdict.TheVariants.{Proceeds}
use Rattle.amqp_frame.specs.declared.frames.FrameKind.{FrameKind}
use Rattle.amqp_model.specs.Wire.Readings.{reading as says}
use Rattle.amqp_core.specs.Connection.Rulings.{OnChannel}
use Rattle.amqp_core.specs.Connection.Verdicts.{FrameRules}
use Rattle.amqp_core.specs.Connection.View.{connection_end, frame_at}
use Rattle.amqp_core.specs.Heard.View.{heard_view, said_by}
use Rattle.amqp_core.proofs.HeardLemmas.{said_is as heard_is}
use Rattle.amqp_core.proofs.ReceiveLemmas.{left_is}
use Rattle.amqp_core.proofs.connection.Connection.pass_header.Goals as goal

pub returns-clause-receives : goal.returns-clause-receives
returns-clause-receives c =
    let old = c.args.self.now in
    let number = c.args.frame.channel in
    let kind = c.args.frame.kind in
    let payload = c.args.frame.payload.now in
    let reading = header_said c.in_ok-pass_header_told.field-0 in
    let verdict = OnChannel (Proceeds Headed None) in
    let told = c.in_ok-pass_header_told.ensures in
    let after = connection_end c.pass_header_told.new.self in
    let read : reading ≡ says (frame_at number kind payload) =
    told.says ∙ ap (λ (k : FrameKind). says (frame_at number k payload)) (sym c.in-Header.is) in
    let ruled : FrameRules old.settings (connection_end old) number reading verdict = told.rules in
    record {
      said = search rules;
      end = left_is old.settings (connection_end old) after after number kind payload reading verdict None ruled read told.left refl refl;
      output = search rules;
      alone = search rules;
      message = search rules;
      octets = search rules;
      took = search rules;
      owed = search rules;
      heard =
          λ ran.
          let before = heard_view c.args.heard.now in
          told.heard
          ∙ ap (λ p. said_by p number reading verdict before) (sym ruled.fits.1)
          ∙ heard_is old.settings (connection_end old) number kind payload reading verdict before ruled read;
      at_fault = search rules;
      settings = search rules;
    }
