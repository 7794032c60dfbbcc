use Rattle.std.proofs.Common.{rules, ◌<◌, ap, sym, ◌∙◌, slice_get}
use Rattle.amqp_channel.proofs.UnderWayLemmas.{busy_at}
use Rattle.amqp_channel.proofs.channels.Channels.is_under_way_at.Goals as goal

pub returns-clause-busy : goal.returns-clause-busy
returns-clause-busy c =
    let used = c.args.self.now.used in
    let above : 0 < c.in-Some.number.now = search rules in
    λ busy idle.
    busy_at used c.args.place c.in-Some.number.now c.in-Some.channel.now above c.as_slice.ensures.unique
    (ap (λ entries. slice_get entries c.args.place) (sym c.as_slice.ensures.entries) ∙ sym c.in-Some.ensures.entry)
    (sym c.is_under_way.ensures ∙ busy) idle
