-- Why an end refuses what is asked, as a fault of the link.
use Rattle.std.specs.Prelude.{Bool, true, false, ℕ}
use Rattle.amqp_core.specs.declared.faults.AskFault.{AskFault}
use Rattle.amqp_core.specs.declared.faults.AskFault.TheVariants as ends
use Rattle.amqp_link.specs.declared.faults.LinkFault.{LinkFault}
use Rattle.amqp_link.specs.declared.faults.LinkFault.TheVariants as links

-- memory that is refused is the link's own fault, wherever it is refused
abbrev pub fault_of : AskFault → LinkFault
fault_of ends.OutOfMemory = links.OutOfMemory
fault_of fault = links.Ask fault

abbrev pub is_of_memory : LinkFault → Bool
is_of_memory links.OutOfMemory = true
is_of_memory fault = false

abbrev pub link_fault_number : LinkFault → ℕ
link_fault_number links.NoSuchConnection = 1
link_fault_number links.Dropped = 2
link_fault_number (links.Ask fault) = 3
link_fault_number links.NotSoMany = 4
link_fault_number links.OutOfMemory = 5
