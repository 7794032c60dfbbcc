use Rattle.std.proofs.Common.{rules, ap, sym, ◌∙◌}
use Rattle.std.proofs.lemmas.Result.{on_ok_weaker}
use Rattle.amqp_method.specs.declared.kinds.Kind.TheVariants as kinds
use Rattle.amqp_model.specs.End.Closes.{without_arguments}
use Rattle.amqp_model.specs.History.Histories.{PutHere}
use Rattle.amqp_model.specs.End.Machine.{channel_after}
use Rattle.amqp_model.specs.Wire.Notes.{Client}
use Rattle.amqp_model.specs.Wire.Readings.{Calls}
use Rattle.amqp_channel.specs.Channels.ChannelsView.{channels_view}
use Rattle.amqp_channel.proofs.FreeLemmas.{free_is}
use Rattle.amqp_channel.proofs.channels.Channels.put_open.Goals as goal

pub returns : goal.returns
returns c =
    let before = free_is (channels_view c.args.self.now c.args.number) c.requires.free in
    record {
      at =
          on_ok_weaker c.set.result
          (λ at frame.
          at
          ∙ (c.put_open.ensures.after frame
          ∙ ap (channel_after Client (PutHere (Calls (without_arguments kinds.ChannelOpen)) frame)) (sym before)))
          c.set.ensures.at;
      others = c.set.ensures.others;
      err = c.set.ensures.err;
      gathers = search rules;
    }
