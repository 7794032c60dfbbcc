use Rattle.std.proofs.Common.{[], ◌∙◌}
use Rattle.std.proofs.lemmas.List.{append-nil}
use Rattle.amqp_frame.specs.Frame.{octets}
use Rattle.amqp_frame.proofs.SplittingLemmas.{begun_prefix_tells_none}
use Rattle.amqp_frame.proofs.laws.prefix_has_no_fault.Goals as goal

pub returns : goal.returns
returns c limit f prefix tail kind fits within e told =
    begun_prefix_tells_none limit f prefix tail [] kind fits within (append-nil (octets f) ∙ e) told
