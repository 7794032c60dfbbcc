-- What octets that show a fault leave of an end: the close that it puts changes neither what was agreed nor any channel.
use Rattle.std.proofs.Common.{◌≡◌, ℕ, List, ap, sym, ◌∙◌}
use Rattle.amqp_frame.specs.declared.faults.FrameFaultKind.{FrameFaultKind}
use Rattle.amqp_model.specs.End.Channels.{Channel, End}
use Rattle.amqp_model.specs.End.Closes.{Owed}
use Rattle.amqp_model.specs.Stream.Endpoint.{fault_told, owed_at_fault}
use Rattle.amqp_model.specs.End.Events.{Faults}
use Rattle.amqp_model.specs.End.Machine.{end_after_owed}
use Rattle.amqp_model.specs.History.Negotiation.{Config}
use Rattle.amqp_model.specs.Wire.Notes.{Role}
use Rattle.amqp_core.specs.Connection.Outcomes.{owed_for}
use Rattle.amqp_core.specs.Connection.Stages.{leaves}
use Rattle.amqp_core.proofs.OutcomeLemmas.{owed_is, close_agreed, close_channels}

owed_there : (role : Role) (config : Config role) (end : End) (kind : FrameFaultKind) → owed_at_fault config end kind ≡ owed_for (leaves end.phase) (fault_told kind)
owed_there role config end kind = sym (owed_is role config end 0 (Faults (fault_told kind)))

pub stopped_agreed : (role : Role) (config : Config role) (end : End) (kind : FrameFaultKind) → (end_after_owed role config (owed_at_fault config end kind) end).agreed ≡ end.agreed
stopped_agreed role config end kind =
    ap (λ (owed : List Owed). (end_after_owed role config owed end).agreed) (owed_there role config end kind) ∙ close_agreed role config (leaves end.phase) (fault_told kind) end

pub stopped_channel : (role : Role) (config : Config role) (end : End) (kind : FrameFaultKind) → (end_after_owed role config (owed_at_fault config end kind) end).channels 0 ≡ end.channels 0
stopped_channel role config end kind =
    ap (λ (owed : List Owed). (end_after_owed role config owed end).channels 0) (owed_there role config end kind) ∙ ap (λ (channels : ℕ → Channel). channels 0) (close_channels role config (leaves end.phase) (fault_told kind) end)
