use Rattle.std.proofs.Common.{◌-◌, ◌++◌, replicate, ap₂, ◌∙◌}
use Rattle.std.proofs.lemmas.List.{take_all}
use Rattle.amqp_outbox.proofs.weaving.open.Goals as goal

pub returns-clause-opened : goal.returns-clause-opened
returns-clause-opened c =
    let items = c.args.octets.now.items in
    let size = c.args.octets.now.ok.0 in
    c.in-Ok.ensures.items
    ∙ ap₂ (λ xs n. xs ++ replicate (c.args.count - n) 0) (take_all c.args.count items c.requires.more) size
