use Rattle.std.proofs.Common.{◌≡◌, ◌-◌, ◌∷◌, [], ◌++◌, length, arith}
use Rattle.amqp_frame.specs.Frame.{END}
use Rattle.amqp_frame.proofs.FrameLemmas.{finished, payload_size}
use Rattle.amqp_frame.proofs.frames.finish_frame.Goals as goal

pub returns-clause-ok : goal.returns-clause-ok
returns-clause-ok c = λ before f at old_is.
    let old = c.args.out.now.items in
    let pushed : c.push.new.self.items ≡ old ++ END ∷ [] = cc (c.in_ok-push.ensures.items) in
    let size : c.len.result - c.args.start - 7 ≡ length f.payload = omega (arith, c.len.ensures, payload_size before old f c.args.start at old_is) in
    finished before old c.push.new.self.items c.fill_size.new.out.items f c.args.start (c.len.result - c.args.start - 7) at old_is pushed size c.fill_size.ensures
