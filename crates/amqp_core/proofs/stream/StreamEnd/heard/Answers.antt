-- What is kept of a kind is the last that was heard of it.
use Rattle.std.proofs.Common.{◌∙◌}
use Rattle.amqp_core.specs.Stream.View.{config_at, heard_in, role_played}
use Rattle.amqp_core.proofs.HearingLemmas.{kept_is_heard}
use Rattle.amqp_core.proofs.stream.StreamEnd.heard.Goals as goal

pub returns-clause-history : goal.returns-clause-history
returns-clause-history g c = λ history keeps is.
    let end = c.args.self.now in
    c.of.ensures ∙ kept_is_heard (role_played end) (config_at end) (heard_in end).methods history c.args.kind keeps is
