-- The faults and the refusals of the code, in the words of the model, and their numbers.
use Rattle.std.specs.Prelude.{ℕ, Option, Some, None}
use Rattle.amqp_model.specs.End.Asks as asks
use Rattle.amqp_model.specs.End.Asks.{Refusal, refusal_number}
use Rattle.amqp_model.specs.End.Fitting as fitting
use Rattle.amqp_core.specs.declared.faults.CoreFault.{CoreFault}
use Rattle.amqp_core.specs.declared.faults.CoreFault.TheVariants as core
use Rattle.amqp_core.specs.declared.faults.ConfigFault.{ConfigFault}
use Rattle.amqp_core.specs.declared.faults.ConfigFault.TheVariants as config
use Rattle.amqp_core.specs.declared.faults.AskFault.{AskFault}
use Rattle.amqp_core.specs.declared.faults.AskFault.TheVariants as ask

abbrev pub core_fault_number : CoreFault → ℕ
core_fault_number (core.Peer code) = 1
core_fault_number core.Fatal = 2
core_fault_number core.OutOfMemory = 3
core_fault_number core.Failed = 4
core_fault_number core.Closed = 5

abbrev pub config_fault_number : ConfigFault → ℕ
config_fault_number config.FrameMax = 1
config_fault_number config.ChannelMax = 2
config_fault_number config.HelloTooLong = 3
config_fault_number config.OutOfMemory = 4

-- what applies of a configuration; being out of memory is none of it
abbrev pub config_fault_view : ConfigFault → Option fitting.ConfigFault
config_fault_view config.FrameMax = Some fitting.FrameMax
config_fault_view config.ChannelMax = Some fitting.ChannelMax
config_fault_view config.HelloTooLong = Some fitting.HelloTooLong
config_fault_view config.OutOfMemory = None

-- which refusal it is; being out of memory is none
abbrev pub refusal_view : AskFault → Option Refusal
refusal_view ask.NotRunning = Some asks.NotRunning
refusal_view ask.BadChannel = Some asks.BadChannel
refusal_view ask.NotOpen = Some asks.NotOpen
refusal_view ask.Paused = Some asks.Paused
refusal_view ask.NotSendable = Some asks.NotSendable
refusal_view ask.TooLarge = Some asks.TooLarge
refusal_view ask.FlowPending = Some asks.FlowPending
refusal_view ask.NoFreeChannel = Some asks.NoFreeChannel
refusal_view ask.OutOfMemory = None
refusal_view ask.ReplyPending = Some asks.ReplyPending
refusal_view ask.NoSuchRequest = Some asks.NoSuchRequest
refusal_view ask.NotAwaited = Some asks.NotAwaited

abbrev number_by : Option Refusal → ℕ
number_by (Some refusal) = refusal_number refusal
number_by None = 9

abbrev pub ask_fault_number : AskFault → ℕ
ask_fault_number fault = number_by (refusal_view fault)
