-- The frame is there.
use Rattle.std.proofs.Common.{ap, sym, ◌∙◌}
use Rattle.amqp_frame.specs.Judging.{lent_of}
use Rattle.amqp_core.proofs.advance.buffered_frame.Goals as goal

pub returns : goal.returns
returns c = sym c.buffered.ensures ∙ ap lent_of c.in-Some.is

pub unreachable-requires : goal.unreachable-requires
unreachable-requires c = c.requires (sym c.buffered.ensures ∙ ap lent_of c.in-None.is)
