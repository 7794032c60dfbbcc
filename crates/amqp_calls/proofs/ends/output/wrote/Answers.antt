use Rattle.std.proofs.Common.{◌≤◌, length, refl, inl, ap, subst, ◌∙◌}
use Rattle.amqp_model.specs.Output.Outputs.{output_octets}
use Rattle.amqp_core.specs.Stream.View.{endpoint_of}
use Rattle.amqp_core.specs.Stream.Writes.{StreamWrote}
use Rattle.amqp_calls.proofs.ends.output.wrote.Goals as goal

pub returns : goal.returns
returns g c =
    let octets = c.args.octets in
    let wrote = subst (λ end. StreamWrote end octets c.wrote.new.self) c.deref_mut.ensures.value c.wrote.ensures in
    let output = c.output.ensures.octets ∙ ap (λ end. output_octets (endpoint_of end).output) c.deref.ensures in
    inl (refl, record { there = subst (λ output. octets ≤ length output) output c.if-octets-output.false; wrote = wrote }, refl)
