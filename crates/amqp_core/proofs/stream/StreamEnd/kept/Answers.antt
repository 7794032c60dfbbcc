-- What holds of the end holds of its endpoint.
use Rattle.amqp_core.proofs.KeptLemmas.{kept_sound}
use Rattle.amqp_core.proofs.stream.StreamEnd.kept.Goals as goal

pub kept-requires : goal.kept-requires
kept-requires g c = kept_sound c.args.self.now.inner c.args.self.now.kept
