use Rattle.std.proofs.Common.{◌++◌, sym, ap, ap₂, ◌∙◌, drop}
use Rattle.amqp_model.specs.Wire.Contents.{pieces}
use Rattle.amqp_outbox.specs.LentContent.{braided}
use Rattle.amqp_outbox.proofs.LentBraids.{left-between, passes}
use Rattle.amqp_outbox.proofs.lent.ContentFrames.pass_between.Goals as goal

pub returns-clause-lent : goal.returns-clause-lent
returns-clause-lent c =
    let x = c.args.self.now in
    let k = c.min.result in
    let size = c.min-2.result in
    let between = c.split_at.ensures in
    let body = c.split_at-2.ensures in
    left-between x c.requires.begun c.requires.part
    ∙ (passes x.before k x.room size x.between.now x.body.now x.cuts c.min.ensures c.min-2.ensures
    ∙ (ap₂ (λ t p. t ++ (p ++ braided 8 (drop k x.between.now) (pieces x.room (drop size x.body.now)))) (sym between.front) (sym body.front)
    ∙ (ap₂ (λ d o. c.split_at.result.0.now ++ (c.split_at-2.result.0.now ++ braided 8 d (pieces x.room o))) (sym between.back) (sym body.back)
    ∙ sym (ap (λ b. c.split_at.result.0.now ++ (b ++ (c.split_at-2.result.0.now ++ braided 8 c.split_at.result.1.now (pieces x.room c.split_at-2.result.1.now)))) c.requires.begun))))
