-- The numbers of what ends answer: statuses and phases.
use Rattle.std.specs.Prelude.{ℕ, ◌+◌, Result, Ok, Err}
use Rattle.amqp_core.specs.Faults.Numbers.{ask_fault_number, config_fault_number, core_fault_number}
use Rattle.amqp_core.specs.declared.faults.AskFault.{AskFault}
use Rattle.amqp_core.specs.declared.faults.ConfigFault.{ConfigFault}
use Rattle.amqp_core.specs.declared.faults.CoreFault.{CoreFault}
use Rattle.amqp_core.specs.declared.stage.Phase.{Phase}
use Rattle.amqp_core.specs.declared.stage.Phase.TheVariants as phases

-- 401 to 405
abbrev pub core_status : CoreFault → ℕ
core_status fault = 400 + core_fault_number fault

-- 501 to 504
abbrev pub config_status : ConfigFault → ℕ
config_status fault = 500 + config_fault_number fault

-- 601 to 612
abbrev pub ask_status : AskFault → ℕ
ask_status fault = 600 + ask_fault_number fault

-- 0 where an ask is accepted
abbrev pub asked_status : {A : Type 0} → Result A AskFault → ℕ
asked_status (Ok done) = 0
asked_status (Err fault) = ask_status fault

abbrev pub phase_number : Phase → ℕ
phase_number phases.Handshake = 1
phase_number phases.Running = 2
phase_number phases.Closing = 3
phase_number phases.Closed = 4
phase_number phases.Failed = 5
