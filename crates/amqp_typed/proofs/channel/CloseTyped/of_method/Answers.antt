use Rattle.std.proofs.Common.{refl, arith}
use Rattle.amqp_typed.proofs.Places.{kinds_4, kinds_in, made_4}
use Rattle.amqp_method.specs.declared.kinds.Kind.TheVariants.{ChannelClose}
use Rattle.amqp_typed.proofs.channel.CloseTyped.of_method.Goals as goal

pub own_args-requires : goal.own_args-requires
own_args-requires c = (omega arith, (c.requires, refl))

pub short-requires : goal.short-requires
short-requires c = (kinds_4 (kinds_in ChannelClose c.own_args.result _ c.own_args.ensures.fit c.four-taken.ensures)).0

pub short_str-requires : goal.short_str-requires
short_str-requires c = (kinds_4 (kinds_in ChannelClose c.own_args.result _ c.own_args.ensures.fit c.four-taken.ensures)).1

pub short-requires-2 : goal.short-requires-2
short-requires-2 c = (kinds_4 (kinds_in ChannelClose c.own_args.result _ c.own_args.ensures.fit c.four-taken.ensures)).2

pub short-requires-3 : goal.short-requires-3
short-requires-3 c = (kinds_4 (kinds_in ChannelClose c.own_args.result _ c.own_args.ensures.fit c.four-taken.ensures)).3

pub returns : goal.returns
returns c =
    made_4 _ ChannelClose c.own_args.result c.own_args.ensures.args c.four-taken.ensures
    c.short.ensures c.short_str.ensures c.short-2.ensures c.short-3.ensures
