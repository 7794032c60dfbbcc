-- What holds of the end holds of its endpoint.
use Rattle.amqp_core.proofs.KeptLemmas.{kept_sound}
use Rattle.amqp_core.proofs.end.End.put_channel_close.Goals as goal

pub ask-requires : goal.ask-requires
ask-requires g c = kept_sound c.args.self.now.inner c.args.self.now.kept
