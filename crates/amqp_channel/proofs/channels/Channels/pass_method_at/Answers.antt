use Rattle.std.proofs.Common.{rules, refl, ap, subst, sym, length}
use Rattle.amqp_method.specs.MethodRefView.{lent_call}
use Rattle.amqp_model.specs.Wire.Gathering.{Gathering, HeaderDue, kept}
use Rattle.amqp_model.specs.End.Amounts.{header_octets}
use Rattle.amqp_model.specs.Wire.Readings.{Calls}
use Rattle.amqp_channel.specs.Channel.ChannelView.{channel_view, IsIdleOpen}
use Rattle.amqp_channel.specs.Verdict.Passing.{Passes}
use Rattle.amqp_channel.specs.declared.verdict.Told.{Told}
use Rattle.amqp_channel.specs.declared.verdict.Told.TheVariants as told
use Rattle.amqp_channel.proofs.PassLemmas.{contained_same, gathered_kept, idle_content, keeps_answered, moved, passes_gathered, passes_here}
use Rattle.amqp_channel.proofs.UnderWayLemmas.{none_lent_put}
use Rattle.amqp_channel.proofs.channels.Channels.pass_method_at.Goals as goal

pub begin_one_way-begun-requires-clause-idle : goal.begin_one_way-begun-requires-clause-idle
begin_one_way-begun-requires-clause-idle c =
    moved IsIdleOpen c.args.self.now.used c.args.place c.index.result.now c.index_mut.result.now c.index.ensures c.index_mut.ensures.value c.in-Some.ensures.idle

pub begin_one_way-begun-requires-clause-follows : goal.begin_one_way-begun-requires-clause-follows
begin_one_way-begun-requires-clause-follows c =
    (passes_here c.args.self.now.used c.args.place c.index.result.now c.index_mut.result.now c.args.site (Calls (lent_call c.args.method)) c.in-Some.told told.Begun c.index.ensures c.index_mut.ensures.value c.in-Begun.is c.in-Some.ensures.passes).rules.fits

pub invariant_of-self-in-Begun : goal.invariant_of-self-in-Begun
invariant_of-self-in-Begun c =
    let before = c.index_mut.result.now in
    let idle : IsIdleOpen before =
    moved IsIdleOpen c.args.self.now.used c.args.place c.index.result.now before c.index.ensures c.index_mut.ensures.value c.in-Some.ensures.idle in
    let none = idle_content before idle in
    let all = keeps_answered c.args.self.now c.args.place c.args.site.number c.requires.above (search rules) c.requires.written c.requires.kept c.requires.put c.requires.others c.requires.entries before c.index_mut.ensures.value
    c.begin_one_way-begun.result c.begin_one_way-begun.new.self (HeaderDue (lent_call c.args.method)) c.begin_one_way-begun.ensures.ok
    c.begin_one_way-begun.ensures.err c.begin_one_way-begun.ensures.was c.begin_one_way-begun.ensures.gathers
    (sym (ap header_octets none)) (sym (ap (λ (content : Gathering). length (kept content)) none)) in
    record { passed_are_taken = all.passed; none_free = all.free; counts_headers = all.headers; counts_bodies = all.bodies; bodies_fit = all.fit }

pub returns-in-Method-clause-passes : goal.returns-in-Method-clause-passes
returns-in-Method-clause-passes c =
    passes_gathered c.args.site (Calls (lent_call c.args.method)) c.args.self.now _ c.in-Some.told told.Method _ c.index.result.now c.index.result.now c.in-Method.is
    (c.requires.holds c.index.result.now c.index.ensures) (c.requires.holds c.index.result.now c.index.ensures) (λ other apart. refl)
    (subst (λ (said : Told). Passes c.args.site (channel_view c.index.result.now) (Calls (lent_call c.args.method)) said) c.in-Method.is c.in-Some.ensures.passes)
    (sym (contained_same (channel_view c.index.result.now))) refl

pub returns-in-Ok-clause-passes : goal.returns-in-Ok-clause-passes
returns-in-Ok-clause-passes c =
    passes_gathered c.args.site (Calls (lent_call c.args.method)) c.args.self.now _ c.in-Some.told told.Begun _ c.index_mut.result.now c.begin_one_way-begun.new.self c.in-Begun.is
    (c.requires.holds c.index_mut.result.now c.index_mut.ensures.value) (c.requires.written c.begin_one_way-begun.new.self) (c.requires.others c.begin_one_way-begun.new.self)
    (passes_here c.args.self.now.used c.args.place c.index.result.now c.index_mut.result.now c.args.site (Calls (lent_call c.args.method)) c.in-Some.told told.Begun c.index.ensures c.index_mut.ensures.value c.in-Begun.is c.in-Some.ensures.passes)
    c.in-Ok.ensures.ok refl

pub returns-in-Ok-clause-gathers : goal.returns-in-Ok-clause-gathers
returns-in-Ok-clause-gathers c =
    none_lent_put c.args.self.now.used c.args.place c.args.site.number c.begin_one_way-begun.new.self c.requires.entries c.requires.put
    (gathered_kept c.begin_one_way-begun.new.self c.begin_one_way-begun.ensures.gathers) c.requires.gathers

pub returns-in-Err-clause-gathers : goal.returns-in-Err-clause-gathers
returns-in-Err-clause-gathers c =
    none_lent_put c.args.self.now.used c.args.place c.args.site.number c.begin_one_way-begun.new.self c.requires.entries c.requires.put
    (gathered_kept c.begin_one_way-begun.new.self c.begin_one_way-begun.ensures.gathers) c.requires.gathers
