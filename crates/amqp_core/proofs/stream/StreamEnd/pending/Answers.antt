-- What holds of the end holds of its endpoint.
use Rattle.std.proofs.Common.{List, ℕ, length, sym, ap, ◌∙◌}
use Rattle.amqp_core.specs.Stream.View.{config_at, role_played}
use Rattle.amqp_core.proofs.KeptLemmas.{kept_sound}
use Rattle.amqp_core.proofs.QueryLemmas.{pending_is}
use Rattle.amqp_core.proofs.stream.StreamEnd.pending.Goals as goal

pub pending-requires : goal.pending-requires
pending-requires g c = kept_sound c.args.self.now.inner c.args.self.now.kept

pub returns-clause-history : goal.returns-clause-history
returns-clause-history g c = λ history fed written s.
    let end = c.args.self.now in
    pending_is (role_played end) (config_at end) s.gathers history fed written c.pending.result s.stands (c.pending.ensures.count ∙ ap (λ (xs : List ℕ). length xs) (sym s.alike.unfinished))
