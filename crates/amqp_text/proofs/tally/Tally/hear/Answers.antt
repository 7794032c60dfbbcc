-- A message is heard.
use Rattle.std.proofs.Common.{◌∷◌, sym, subst}
use Rattle.amqp_text.specs.Tallies.{Heard}
use Rattle.amqp_text.proofs.TallyLemmas.{heard-message}
use Rattle.amqp_text.proofs.tally.Tally.hear.Goals as goal

pub returns-clause-counted : goal.returns-clause-counted
returns-clause-counted c =
    λ events heard.
    let new = c.hear_message.new.self in
    let hears = c.hear_message.ensures in
    subst (λ event. Heard new (event ∷ events)) (sym c.in-Told.is)
    (heard-message c.args.self.now new c.in-Told.field-0 c.in-Told.message events heard hears.content hears.other hears.body)
