-- What holds of the end holds of its endpoint, and a lawful history bounds what is kept.
use Rattle.amqp_core.specs.End.View.{config_at, endpoint_of, role_played}
use Rattle.amqp_core.proofs.AmountLemmas.{kept_within}
use Rattle.amqp_core.proofs.KeptLemmas.{kept_sound}
use Rattle.amqp_core.proofs.end.End.kept.Goals as goal

pub kept-requires : goal.kept-requires
kept-requires g c = kept_sound c.args.self.now.inner c.args.self.now.kept

pub returns-clause-most : goal.returns-clause-most
returns-clause-most g c = λ history fed written stands.
    let end = c.args.self.now in
    kept_within (role_played end) (config_at end) (endpoint_of end) history fed written c.kept.result c.contents_are_bounded.ensures
    (c.owed_read_back.ensures.all (role_played end) (config_at end)) end.kept.writes stands (c.kept.ensures.gathered end.gathers) c.kept.ensures.unfinished
