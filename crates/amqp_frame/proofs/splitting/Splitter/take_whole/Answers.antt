use Rattle.amqp_frame.proofs.SplitterLemmas.{begun_without_frame, told_without_frame}
use Rattle.amqp_frame.proofs.splitting.Splitter.take_whole.Goals as goal

pub returns-in-Wrong-clause-none : goal.returns-in-Wrong-clause-none
returns-in-Wrong-clause-none c = λ none empty here. told_without_frame _ c.args.piece.now c.in-Wrong.field-0 c.in-Wrong.field-1 c.in-Wrong.ensures.is (rw (← c.self.view_is) at here)

pub returns-in-Begun-clause-none : goal.returns-in-Begun-clause-none
returns-in-Begun-clause-none c = λ none empty here. begun_without_frame _ c.args.piece.now c.in-Begun.ensures.is (rw (← c.self.view_is) at here)
