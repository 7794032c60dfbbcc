use Rattle.std.proofs.Common.{rules, refl, subst, sym, ◌∙◌}
use Rattle.amqp_method.specs.HeaderRefView.{lent_header}
use Rattle.amqp_model.specs.Wire.Gathering.{Nothing}
use Rattle.amqp_channel.specs.Channel.ChannelView.{channel_view}
use Rattle.amqp_channel.specs.Channels.ChannelsView.{channels_view}
use Rattle.amqp_channel.specs.ReadingView.{header_said}
use Rattle.amqp_channel.specs.Verdict.Passing.{Passes}
use Rattle.amqp_channel.specs.declared.verdict.Told.TheVariants as told
use Rattle.amqp_channel.proofs.OneWayLemmas.{none_dropped}
use Rattle.amqp_channel.proofs.PassLemmas.{counted, due_bodies, due_headed, due_headers, due_whole, gathered_kept, keeps, keeps_answered, passes_gathered, passes_here, was_bodies, was_headers}
use Rattle.amqp_channel.proofs.UnderWayLemmas.{kept_gathers, none_lent_put}
use Rattle.amqp_channel.proofs.channels.Channels.pass_header_at.Goals as goal

pub finish_header_one_way-whole-requires-clause-gathers : goal.finish_header_one_way-whole-requires-clause-gathers
finish_header_one_way-whole-requires-clause-gathers c =
    kept_gathers c.args.self.now.used c.args.site.number c.index_mut.result.now c.requires.above c.requires.gathers (c.requires.kept c.index_mut.result.now c.index_mut.ensures.value)

pub finish_header_one_way-whole-requires-clause-whole : goal.finish_header_one_way-whole-requires-clause-whole
finish_header_one_way-whole-requires-clause-whole c =
    (passes_here c.args.self.now.used c.args.place c.index.result.now c.index_mut.result.now c.args.site (header_said c.args.header) c.in-Some.told told.Completed c.index.ensures c.index_mut.ensures.value c.in-Completed.is c.in-Some.ensures).rules.fits

pub head_one_way-headed-requires-clause-gathers : goal.head_one_way-headed-requires-clause-gathers
head_one_way-headed-requires-clause-gathers c =
    kept_gathers c.args.self.now.used c.args.site.number c.index_mut-channel.result.now c.requires.above c.requires.gathers (c.requires.kept c.index_mut-channel.result.now c.index_mut-channel.ensures.value)

pub head_one_way-headed-requires-clause-due : goal.head_one_way-headed-requires-clause-due
head_one_way-headed-requires-clause-due c =
    due_headed (channel_view c.index_mut-channel.result.now) (header_said c.args.header)
    (passes_here c.args.self.now.used c.args.place c.index.result.now c.index_mut-channel.result.now c.args.site (header_said c.args.header) c.in-Some.told told.Headed c.index.ensures c.index_mut-channel.ensures.value c.in-Headed.is c.in-Some.ensures).rules.fits

pub invariant_of-self : goal.invariant_of-self
invariant_of-self c =
    let before = c.index_mut.result.now in
    let due = due_whole (channel_view before) (lent_header c.args.header).body_size (lent_header c.args.header).properties
    (passes_here c.args.self.now.used c.args.place c.index.result.now c.index_mut.result.now c.args.site (header_said c.args.header) c.in-Some.told told.Completed c.index.ensures c.index_mut.ensures.value c.in-Completed.is c.in-Some.ensures).rules.fits in
    let all = keeps_answered c.args.self.now c.args.place c.args.site.number c.requires.above (search rules) c.requires.written c.requires.kept c.requires.put c.requires.others c.requires.entries before c.index_mut.ensures.value
    c.finish_header_one_way-whole.result c.finish_header_one_way-whole.new.self Nothing c.finish_header_one_way-whole.ensures.ok
    c.finish_header_one_way-whole.ensures.err c.finish_header_one_way-whole.ensures.was c.finish_header_one_way-whole.ensures.gathers
    (sym (due_headers _ due)) (sym (due_bodies _ due)) in
    record { passed_are_taken = all.passed; none_free = all.free; counts_headers = all.headers; counts_bodies = all.bodies; bodies_fit = all.fit }

pub after-self-requires : goal.after-self-requires
after-self-requires c =
    counted c.args.self.now c.args.place c.args.site.number c.requires.above (search rules) c.requires.written c.requires.kept c.requires.put c.requires.others c.requires.entries c.index_mut-channel.result.now c.index_mut-channel.ensures.value c.none.result
    (c.none.ensures.header ∙ sym (was_headers c.index_mut-channel.result.now c.head_one_way-headed.ensures.was ∙ due_headers _ (due_headed (channel_view c.index_mut-channel.result.now) (header_said c.args.header) (passes_here c.args.self.now.used c.args.place c.index.result.now c.index_mut-channel.result.now c.args.site (header_said c.args.header) c.in-Some.told told.Headed c.index.ensures c.index_mut-channel.ensures.value c.in-Headed.is c.in-Some.ensures).rules.fits))) (c.none.ensures.body ∙ sym (was_bodies c.index_mut-channel.result.now c.head_one_way-headed.ensures.was ∙ due_bodies _ (due_headed (channel_view c.index_mut-channel.result.now) (header_said c.args.header) (passes_here c.args.self.now.used c.args.place c.index.result.now c.index_mut-channel.result.now c.args.site (header_said c.args.header) c.in-Some.told told.Headed c.index.ensures c.index_mut-channel.ensures.value c.in-Headed.is c.in-Some.ensures).rules.fits)))

pub invariant_of-self-in-Headed : goal.invariant_of-self-in-Headed
invariant_of-self-in-Headed c =
    let all = keeps c.args.self.now c.args.place c.args.site.number c.requires.above (search rules) c.requires.written c.requires.kept c.requires.put c.requires.others c.requires.entries c.index_mut-channel.result.now c.index_mut-channel.ensures.value c.none.result
    (c.none.ensures.header ∙ sym (was_headers c.index_mut-channel.result.now c.head_one_way-headed.ensures.was ∙ due_headers _ (due_headed (channel_view c.index_mut-channel.result.now) (header_said c.args.header) (passes_here c.args.self.now.used c.args.place c.index.result.now c.index_mut-channel.result.now c.args.site (header_said c.args.header) c.in-Some.told told.Headed c.index.ensures c.index_mut-channel.ensures.value c.in-Headed.is c.in-Some.ensures).rules.fits))) (c.none.ensures.body ∙ sym (was_bodies c.index_mut-channel.result.now c.head_one_way-headed.ensures.was ∙ due_bodies _ (due_headed (channel_view c.index_mut-channel.result.now) (header_said c.args.header) (passes_here c.args.self.now.used c.args.place c.index.result.now c.index_mut-channel.result.now c.args.site (header_said c.args.header) c.in-Some.told told.Headed c.index.ensures c.index_mut-channel.ensures.value c.in-Headed.is c.in-Some.ensures).rules.fits))) c.head_one_way-headed.new.self c.amount-left.result c.after-self.result c.head_one_way-headed.ensures.gathers c.amount-left.ensures.header c.amount-left.ensures.body
    (search rules) c.after-self.ensures in
    record { passed_are_taken = all.passed; none_free = all.free; counts_headers = all.headers; counts_bodies = all.bodies; bodies_fit = all.fit }

pub returns-in-Ok-clause-passes : goal.returns-in-Ok-clause-passes
returns-in-Ok-clause-passes c =
    passes_gathered c.args.site (header_said c.args.header) c.args.self.now _ c.in-Some.told told.Completed _ c.index_mut.result.now c.finish_header_one_way-whole.new.self c.in-Completed.is
    (c.requires.holds c.index_mut.result.now c.index_mut.ensures.value) (c.requires.written c.finish_header_one_way-whole.new.self) (c.requires.others c.finish_header_one_way-whole.new.self)
    (passes_here c.args.self.now.used c.args.place c.index.result.now c.index_mut.result.now c.args.site (header_said c.args.header) c.in-Some.told told.Completed c.index.ensures c.index_mut.ensures.value c.in-Completed.is c.in-Some.ensures)
    c.in-Ok.ensures.ok (sym c.in-Ok.ensures.whole)

pub returns-in-Ok-clause-gathers : goal.returns-in-Ok-clause-gathers
returns-in-Ok-clause-gathers c =
    none_lent_put c.args.self.now.used c.args.place c.args.site.number c.finish_header_one_way-whole.new.self c.requires.entries c.requires.put
    (gathered_kept c.finish_header_one_way-whole.new.self c.finish_header_one_way-whole.ensures.gathers) c.requires.gathers

pub returns-in-Err-clause-gathers : goal.returns-in-Err-clause-gathers
returns-in-Err-clause-gathers c =
    none_lent_put c.args.self.now.used c.args.place c.args.site.number c.finish_header_one_way-whole.new.self c.requires.entries c.requires.put
    (gathered_kept c.finish_header_one_way-whole.new.self c.finish_header_one_way-whole.ensures.gathers) c.requires.gathers

pub returns-in-Err-clause-drops : goal.returns-in-Err-clause-drops
returns-in-Err-clause-drops c =
    λ closing. absurd (none_dropped c.args.site (channels_view c.args.self.now c.args.site.number) (header_said c.args.header) c.in-Some.told
    (subst (λ (channel : _). Passes c.args.site channel (header_said c.args.header) c.in-Some.told) (sym (c.requires.holds c.index.result.now c.index.ensures)) c.in-Some.ensures) closing tt)

pub returns-in-Ok-headed-clause-passes : goal.returns-in-Ok-headed-clause-passes
returns-in-Ok-headed-clause-passes c =
    passes_gathered c.args.site (header_said c.args.header) c.args.self.now _ c.in-Some.told told.Headed _ c.index_mut-channel.result.now c.head_one_way-headed.new.self c.in-Headed.is
    (c.requires.holds c.index_mut-channel.result.now c.index_mut-channel.ensures.value) (c.requires.written c.head_one_way-headed.new.self) (c.requires.others c.head_one_way-headed.new.self)
    (passes_here c.args.self.now.used c.args.place c.index.result.now c.index_mut-channel.result.now c.args.site (header_said c.args.header) c.in-Some.told told.Headed c.index.ensures c.index_mut-channel.ensures.value c.in-Headed.is c.in-Some.ensures)
    c.in-Ok-headed.ensures.ok refl

pub returns-in-Ok-headed-clause-gathers : goal.returns-in-Ok-headed-clause-gathers
returns-in-Ok-headed-clause-gathers c =
    none_lent_put c.args.self.now.used c.args.place c.args.site.number c.head_one_way-headed.new.self c.requires.entries c.requires.put
    (gathered_kept c.head_one_way-headed.new.self c.head_one_way-headed.ensures.gathers) c.requires.gathers

pub returns-in-Err-headed-clause-gathers : goal.returns-in-Err-headed-clause-gathers
returns-in-Err-headed-clause-gathers c =
    none_lent_put c.args.self.now.used c.args.place c.args.site.number c.head_one_way-headed.new.self c.requires.entries c.requires.put
    (gathered_kept c.head_one_way-headed.new.self c.head_one_way-headed.ensures.gathers) c.requires.gathers

pub returns-in-Err-headed-clause-drops : goal.returns-in-Err-headed-clause-drops
returns-in-Err-headed-clause-drops c =
    λ closing. absurd (none_dropped c.args.site (channels_view c.args.self.now c.args.site.number) (header_said c.args.header) c.in-Some.told
    (subst (λ (channel : _). Passes c.args.site channel (header_said c.args.header) c.in-Some.told) (sym (c.requires.holds c.index.result.now c.index.ensures)) c.in-Some.ensures) closing tt)
