use Rattle.std.proofs.Common.{rules, sym, ◌∙◌}
use Rattle.amqp_channel.specs.Channel.ChannelView.{channel_view}
use Rattle.amqp_channel.specs.ReadingView.{header_said}
use Rattle.amqp_channel.specs.declared.verdict.Told.TheVariants as told
use Rattle.amqp_channel.proofs.PassLemmas.{counted, due_bodies, due_headed, due_headers, keeps, passes_here, was_bodies, was_headers}
use Rattle.amqp_channel.proofs.channels.Channels.head_at.Goals as goal

pub after-self-requires : goal.after-self-requires
after-self-requires c =
    let before = c.index_mut-channel.result.now in
    let passes = passes_here c.args.self.now.used c.args.place c.index.result.now before c.args.site (header_said c.args.header) c.in-Some-Headed.field-0 told.Headed c.index.ensures c.index_mut-channel.ensures.value c.in-Some-Headed.field-0-is c.in-Some-Headed.ensures in
    let due = due_headed (channel_view before) (header_said c.args.header) passes.rules.fits in
    counted c.args.self.now c.args.place c.args.site.number c.requires.above (search rules) c.requires.written c.requires.kept c.requires.put c.requires.others c.requires.entries before c.index_mut-channel.ensures.value c.none.result
    (c.none.ensures.header ∙ sym (was_headers before c.head_with.ensures.was ∙ due_headers _ due))
    (c.none.ensures.body ∙ sym (was_bodies before c.head_with.ensures.was ∙ due_bodies _ due))

pub invariant_of-self : goal.invariant_of-self
invariant_of-self c =
    let before = c.index_mut-channel.result.now in
    let passes = passes_here c.args.self.now.used c.args.place c.index.result.now before c.args.site (header_said c.args.header) c.in-Some-Headed.field-0 told.Headed c.index.ensures c.index_mut-channel.ensures.value c.in-Some-Headed.field-0-is c.in-Some-Headed.ensures in
    let due = due_headed (channel_view before) (header_said c.args.header) passes.rules.fits in
    let all = keeps c.args.self.now c.args.place c.args.site.number c.requires.above (search rules) c.requires.written c.requires.kept c.requires.put c.requires.others c.requires.entries before c.index_mut-channel.ensures.value c.none.result
    (c.none.ensures.header ∙ sym (was_headers before c.head_with.ensures.was ∙ due_headers _ due))
    (c.none.ensures.body ∙ sym (was_bodies before c.head_with.ensures.was ∙ due_bodies _ due))
    c.head_with.new.self c.amount-left.result c.after-self.result c.head_with.ensures.gathers c.amount-left.ensures.header c.amount-left.ensures.body
    (search rules) c.after-self.ensures in
    record { passed_are_taken = all.passed; none_free = all.free; counts_headers = all.headers; counts_bodies = all.bodies; bodies_fit = all.fit }
