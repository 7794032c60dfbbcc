use Rattle.std.proofs.Common.{◌≡◌, false, ap, sym, ◌∙◌}
use Rattle.amqp_core.specs.Asks.LentLetter.{lent_letter}
use Rattle.amqp_model.specs.Wire.Methods.{plain_method}
use Rattle.amqp_core.specs.Asks.Refusals.{passes}
use Rattle.amqp_core.proofs.RefusalLemmas.{too_large_by}
use Rattle.amqp_core.proofs.refusing.is_too_large.Goals as goal

pub returns-in-Some : goal.returns-in-Some
returns-in-Some c =
    let message = lent_letter c.args.message in
    let fits : passes c.args.frame_max (plain_method message.call) ≡ false = ap (λ m. passes c.args.frame_max (plain_method m)) (sym c.method.ensures)
    ∙ (sym c.method_passes.ensures ∙ c.if-method_passes.false) in
    c.header_passes.ensures _ ∙ sym (too_large_by c.args.frame_max message.call message.properties message.body _ c.in-Some.ensures.0 fits)
