-- Each turn of the loop asks one more, and the last none.
use Rattle.example_proxy.specs.Advancing.{none_sent}
use Rattle.example_proxy.proofs.AdvanceLemmas.{advances_on}
use Rattle.example_proxy.proofs.asking.Channel.advance.Goals as goal

pub asks-init : goal.asks-init
asks-init g c = none_sent

pub returns-in_err-ask_next-clause-advances : goal.returns-in_err-ask_next-clause-advances
returns-in_err-ask_next-clause-advances g c = advances_on _ _ _ c.asks.invariant c.ask_next.ensures.advances

pub asks-preserved : goal.asks-preserved
asks-preserved g c = advances_on _ _ _ c.asks.invariant c.ask_next.ensures.advances

pub returns-clause-advances : goal.returns-clause-advances
returns-clause-advances g c = advances_on _ _ _ c.asks.invariant c.ask_next.ensures.advances
