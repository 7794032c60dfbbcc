use Rattle.std.proofs.Common.{rules, refl, subst, sym}
use Rattle.amqp_model.specs.Wire.Readings.{BodyOf}
use Rattle.amqp_channel.specs.Channel.ChannelView.{IsReadOpen}
use Rattle.amqp_channel.specs.Channels.ChannelsView.{channels_view}
use Rattle.amqp_channel.specs.Verdict.Passing.{Passes}
use Rattle.amqp_channel.specs.declared.verdict.Told.TheVariants as told
use Rattle.amqp_channel.proofs.OneWayLemmas.{none_dropped}
use Rattle.amqp_channel.proofs.PassLemmas.{counted, gathered_kept, keeps, moved, passes_gathered, passes_here}
use Rattle.amqp_channel.proofs.UnderWayLemmas.{none_lent_put}
use Rattle.amqp_channel.proofs.channels.Channels.pass_body_at.Goals as goal

pub finish_one_way-whole-requires-clause-read : goal.finish_one_way-whole-requires-clause-read
finish_one_way-whole-requires-clause-read c =
    moved IsReadOpen c.args.self.now.used c.args.place c.index.result.now c.index_mut-channel.result.now c.index.ensures c.index_mut-channel.ensures.value c.in-Some.ensures.read

pub finish_one_way-whole-requires-clause-whole : goal.finish_one_way-whole-requires-clause-whole
finish_one_way-whole-requires-clause-whole c =
    (passes_here c.args.self.now.used c.args.place c.index.result.now c.index_mut-channel.result.now c.args.site (BodyOf c.args.octets.now) c.in-Some.told told.Completed c.index.ensures c.index_mut-channel.ensures.value c.in-Completed.is c.in-Some.ensures.passes).rules.fits

pub fill_one_way-more-requires : goal.fill_one_way-more-requires
fill_one_way-more-requires c =
    moved IsReadOpen c.args.self.now.used c.args.place c.index.result.now c.index_mut-filled.result.now c.index.ensures c.index_mut-filled.ensures.value c.in-Some.ensures.read

pub after-self-requires : goal.after-self-requires
after-self-requires c =
    counted c.args.self.now c.args.place c.args.site.number c.requires.above (search rules) c.requires.written c.requires.kept c.requires.put c.requires.others c.requires.entries c.index_mut-channel.result.now c.index_mut-channel.ensures.value c.amount-was.result
    (c.amount-was.ensures.header) (c.amount-was.ensures.body)

pub after-self-requires-in-Continued : goal.after-self-requires-in-Continued
after-self-requires-in-Continued c =
    counted c.args.self.now c.args.place c.args.site.number c.requires.above (search rules) c.requires.written c.requires.kept c.requires.put c.requires.others c.requires.entries c.index_mut-filled.result.now c.index_mut-filled.ensures.value c.amount-before.result
    (c.amount-before.ensures.header) (c.amount-before.ensures.body)

pub invariant_of-self : goal.invariant_of-self
invariant_of-self c =
    let all = keeps c.args.self.now c.args.place c.args.site.number c.requires.above (search rules) c.requires.written c.requires.kept c.requires.put c.requires.others c.requires.entries c.index_mut-channel.result.now c.index_mut-channel.ensures.value c.amount-was.result
    (c.amount-was.ensures.header) (c.amount-was.ensures.body) c.finish_one_way-whole.new.self c.amount-left.result c.after-self.result c.finish_one_way-whole.ensures.gathers c.amount-left.ensures.header c.amount-left.ensures.body
    (search rules) c.after-self.ensures in
    record { passed_are_taken = all.passed; none_free = all.free; counts_headers = all.headers; counts_bodies = all.bodies; bodies_fit = all.fit }

pub invariant_of-self-in-Continued : goal.invariant_of-self-in-Continued
invariant_of-self-in-Continued c =
    let all = keeps c.args.self.now c.args.place c.args.site.number c.requires.above (search rules) c.requires.written c.requires.kept c.requires.put c.requires.others c.requires.entries c.index_mut-filled.result.now c.index_mut-filled.ensures.value c.amount-before.result
    (c.amount-before.ensures.header) (c.amount-before.ensures.body) c.fill_one_way-more.new.self c.amount-now.result c.after-self-in-Continued.result c.fill_one_way-more.ensures.gathers c.amount-now.ensures.header c.amount-now.ensures.body
    (search rules) c.after-self-in-Continued.ensures in
    record { passed_are_taken = all.passed; none_free = all.free; counts_headers = all.headers; counts_bodies = all.bodies; bodies_fit = all.fit }

pub returns-in-Ok-clause-passes : goal.returns-in-Ok-clause-passes
returns-in-Ok-clause-passes c =
    passes_gathered c.args.site (BodyOf c.args.octets.now) c.args.self.now _ c.in-Some.told told.Completed _ c.index_mut-channel.result.now c.finish_one_way-whole.new.self c.in-Completed.is
    (c.requires.holds c.index_mut-channel.result.now c.index_mut-channel.ensures.value) (c.requires.written c.finish_one_way-whole.new.self) (c.requires.others c.finish_one_way-whole.new.self)
    (passes_here c.args.self.now.used c.args.place c.index.result.now c.index_mut-channel.result.now c.args.site (BodyOf c.args.octets.now) c.in-Some.told told.Completed c.index.ensures c.index_mut-channel.ensures.value c.in-Completed.is c.in-Some.ensures.passes)
    c.in-Ok.ensures.ok (sym c.in-Ok.ensures.whole)

pub returns-in-Ok-clause-gathers : goal.returns-in-Ok-clause-gathers
returns-in-Ok-clause-gathers c =
    none_lent_put c.args.self.now.used c.args.place c.args.site.number c.finish_one_way-whole.new.self c.requires.entries c.requires.put
    (gathered_kept c.finish_one_way-whole.new.self c.finish_one_way-whole.ensures.gathers) c.requires.gathers

pub returns-in-Err-clause-gathers : goal.returns-in-Err-clause-gathers
returns-in-Err-clause-gathers c =
    none_lent_put c.args.self.now.used c.args.place c.args.site.number c.finish_one_way-whole.new.self c.requires.entries c.requires.put
    (gathered_kept c.finish_one_way-whole.new.self c.finish_one_way-whole.ensures.gathers) c.requires.gathers

pub returns-in-Err-clause-drops : goal.returns-in-Err-clause-drops
returns-in-Err-clause-drops c =
    λ closing. absurd (none_dropped c.args.site (channels_view c.args.self.now c.args.site.number) (BodyOf c.args.octets.now) c.in-Some.told
    (subst (λ (channel : _). Passes c.args.site channel (BodyOf c.args.octets.now) c.in-Some.told) (sym (c.requires.holds c.index.result.now c.index.ensures)) c.in-Some.ensures.passes) closing tt)

pub returns-in-Ok-more-clause-passes : goal.returns-in-Ok-more-clause-passes
returns-in-Ok-more-clause-passes c =
    passes_gathered c.args.site (BodyOf c.args.octets.now) c.args.self.now _ c.in-Some.told told.Continued _ c.index_mut-filled.result.now c.fill_one_way-more.new.self c.in-Continued.is
    (c.requires.holds c.index_mut-filled.result.now c.index_mut-filled.ensures.value) (c.requires.written c.fill_one_way-more.new.self) (c.requires.others c.fill_one_way-more.new.self)
    (passes_here c.args.self.now.used c.args.place c.index.result.now c.index_mut-filled.result.now c.args.site (BodyOf c.args.octets.now) c.in-Some.told told.Continued c.index.ensures c.index_mut-filled.ensures.value c.in-Continued.is c.in-Some.ensures.passes)
    c.in-Ok-more.ensures.ok refl

pub returns-in-Ok-more-clause-gathers : goal.returns-in-Ok-more-clause-gathers
returns-in-Ok-more-clause-gathers c =
    none_lent_put c.args.self.now.used c.args.place c.args.site.number c.fill_one_way-more.new.self c.requires.entries c.requires.put
    (gathered_kept c.fill_one_way-more.new.self c.fill_one_way-more.ensures.gathers) c.requires.gathers

pub returns-in-Err-more-clause-gathers : goal.returns-in-Err-more-clause-gathers
returns-in-Err-more-clause-gathers c =
    none_lent_put c.args.self.now.used c.args.place c.args.site.number c.fill_one_way-more.new.self c.requires.entries c.requires.put
    (gathered_kept c.fill_one_way-more.new.self c.fill_one_way-more.ensures.gathers) c.requires.gathers

pub returns-in-Err-more-clause-drops : goal.returns-in-Err-more-clause-drops
returns-in-Err-more-clause-drops c =
    λ closing. absurd (none_dropped c.args.site (channels_view c.args.self.now c.args.site.number) (BodyOf c.args.octets.now) c.in-Some.told
    (subst (λ (channel : _). Passes c.args.site channel (BodyOf c.args.octets.now) c.in-Some.told) (sym (c.requires.holds c.index.result.now c.index.ensures)) c.in-Some.ensures.passes) closing tt)
