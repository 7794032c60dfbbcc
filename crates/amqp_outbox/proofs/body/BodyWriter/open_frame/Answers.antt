use Rattle.std.proofs.Common.{◌≡◌, min, ◌++◌, ap, sym, ◌∙◌, arith, rules}
use Rattle.amqp_frame.specs.Frame.{header}
use Rattle.amqp_frame.specs.declared.frames.FrameKind.TheVariants.{Body}
use Rattle.amqp_outbox.specs.BodyToCome.{rest_framed}
use Rattle.amqp_outbox.proofs.BodyToCome.{opened}
use Rattle.amqp_outbox.proofs.body.BodyWriter.open_frame.Goals as goal

pub returns-in_ok-extend_from_slice-clause-written : goal.returns-in_ok-extend_from_slice-clause-written
returns-in_ok-extend_from_slice-clause-written c =
    let old = c.args.self.now in
    let before = c.args.octets.now.items in
    let size = c.min-size.result in
    let some = c.requires in
    let cuts = old.cuts in
    let none : old.begun ≡ 0 = search rules in
    let a = c.min-size.ensures in
    let b = c.from.ensures in
    let least : size ≡ min old.left old.room = omega arith in
    let added : c.extend_from_slice.new.self.items ≡ before ++ header Body old.channel size =
    c.in_ok-extend_from_slice.ensures.items ∙ ap (λ s. before ++ s) c.start_of.ensures in
    record {
      framed = λ later sized.
          ap (λ xs. xs ++ rest_framed old.channel old.room size later) added
          ∙ (opened old.channel old.room size later before cuts (omega arith) (omega arith)
          ∙ ap (λ n. before ++ rest_framed old.channel old.room n later) (sym none));
      fewer = omega arith;
    }
