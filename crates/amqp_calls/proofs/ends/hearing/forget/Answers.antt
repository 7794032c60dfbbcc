use Rattle.std.proofs.Common.{refl, subst}
use Rattle.amqp_calls.specs.EndWrites.{Forgot}
use Rattle.amqp_calls.proofs.ends.hearing.forget.Goals as goal

pub returns : goal.returns
returns g c =
    let e = c.forget_heard.ensures in
    let forgot : Forgot c.deref_mut.result.now c.forget_heard.new.self = record { heard = e.heard; end = e.same; counters = e.counters; settings = e.settings } in
    (subst (λ end. Forgot end c.forget_heard.new.self) c.deref_mut.ensures.value forgot, refl)
