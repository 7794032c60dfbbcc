use Rattle.std.proofs.Common.{[], ◌++◌, take-append-drop, refl, sym, ap₂, ◌∙◌}
use Rattle.amqp_outbox.proofs.BodyToCome.{goes_once, longer}
use Rattle.amqp_outbox.proofs.body.BodyWriter.append.Goals as goal

pub returns-in_err-fill_frame-clause-stays : goal.returns-in_err-fill_frame-clause-stays
returns-in_err-fill_frame-clause-stays c =
    let before = c.args.octets.now.items in
    let opened = longer before c.loop-rest.octets.items c.open_frame.new.octets.items c.open_frame.ensures.stays c.loop-rest.invariant.kept in
    longer before c.open_frame.new.octets.items c.fill_frame.new.octets.items c.fill_frame.ensures.stays opened

pub loop-rest-preserved : goal.loop-rest-preserved
loop-rest-preserved c =
    let first = c.args.self.now in
    let before = c.args.octets.now.items in
    let part = c.args.part.now in
    let rest = c.loop-rest.rest.now in
    let front = c.split_at.result.0.now in
    let back = c.split_at.result.1.now in
    let opened = goes_once first c.loop-rest.self c.open_frame.new.self before c.loop-rest.octets.items c.open_frame.new.octets.items part rest [] rest c.loop-rest.invariant
    c.in_ok-open_frame.ensures.written c.open_frame.ensures.stays c.open_frame.ensures.channel c.open_frame.ensures.room refl in
    goes_once first c.open_frame.new.self c.fill_frame.new.self before c.open_frame.new.octets.items c.fill_frame.new.octets.items part rest front back opened
    c.in_ok-fill_frame.ensures.written c.fill_frame.ensures.stays c.fill_frame.ensures.channel c.fill_frame.ensures.room
    (sym (take-append-drop c.min.result rest) ∙ ap₂ (λ t d. t ++ d) (sym c.split_at.ensures.front) (sym c.split_at.ensures.back))
