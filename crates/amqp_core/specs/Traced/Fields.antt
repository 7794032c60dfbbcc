-- An end and what is kept beside it.
use Rattle.amqp_core.specs.End.View.{endpoint_of}
use Rattle.amqp_core.specs.Traced.LedgerView.{notes_in, tells_in, told_in}
use Rattle.amqp_core.specs.Traced.Tracing.{Kept}
use Rattle.amqp_core.specs.declared.end.End.{End}
use Rattle.amqp_core.specs.declared.ledger.Ledger.{Ledger}
use Rattle.amqp_core.specs.declared.roles.Role.{Ghosts}

abbrev pub kept_of : {R H : Type 0} {G : Ghosts R H} → End R H G → Ledger → Kept
kept_of end ledger = record {
  endpoint = endpoint_of end;
  notes = notes_in ledger;
  told = told_in ledger;
  said = tells_in ledger;
  fed = ledger.fed.items;
  written = ledger.written.items;
}
