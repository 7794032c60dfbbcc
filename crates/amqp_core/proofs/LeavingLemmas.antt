-- What an end that has put connection.close does with a method on channel 0.
use Rattle.std.proofs.Common.{◌≡◌, ◌&&◌, Bool, true, false, ℕ, [], ◌∷◌, Option, Some, None, refl, ◌∙◌}
use Rattle.amqp_method.specs.declared.kinds.Kind.TheVariants as kinds
use Rattle.amqp_model.specs.End.Channels.{Channel, End, Phase, Handshake, Running, Closing, Closed, Failed, Agreed}
use Rattle.amqp_model.specs.End.Closes.{connection_close_ok}
use Rattle.amqp_model.specs.End.Events.{Proceeds, Quiet, ConnectionClosed, Discarded}
use Rattle.amqp_model.specs.End.Machine.{taken_verdict}
use Rattle.amqp_model.specs.Wire.Methods.{Method, same_kind}
use Rattle.amqp_model.specs.History.Negotiation.{Config}
use Rattle.amqp_model.specs.Wire.Notes.{Role, Client, Server}
use Rattle.amqp_model.specs.Wire.Readings.{Calls}
use Rattle.amqp_core.specs.Connection.View.{EndLeft}
use Rattle.amqp_core.specs.Connection.Stages.{leaves}
use Rattle.amqp_core.proofs.ConnectionLemmas.{leaving_verdict}
use Rattle.amqp_core.proofs.KindLemmas.{same_is}

and_false : (b : Bool) → (b && false) ≡ false
and_false true = refl
and_false false = refl

pub close_verdict : (role : Role) (config : Config role) (end : End) (method : Method) → leaves end.phase ≡ true → same_kind method.kind kinds.ConnectionClose ≡ true → taken_verdict config end 0 (Calls method) ≡ Proceeds (Some Quiet) (connection_close_ok ∷ [])
close_verdict role config end method h e = leaving_verdict role config end 0 (Calls method) h ∙ rw e refl

pub close_ok_verdict : (role : Role) (config : Config role) (end : End) (method : Method) → leaves end.phase ≡ true → same_kind method.kind kinds.ConnectionClose ≡ false → same_kind method.kind kinds.ConnectionCloseOk ≡ true → taken_verdict config end 0 (Calls method) ≡ Proceeds (Some (ConnectionClosed None)) []
close_ok_verdict role config end method h e f = leaving_verdict role config end 0 (Calls method) h ∙ rw (e, f) refl

pub other_verdict : (role : Role) (config : Config role) (end : End) (method : Method) → leaves end.phase ≡ true → same_kind method.kind kinds.ConnectionClose ≡ false → same_kind method.kind kinds.ConnectionCloseOk ≡ false → taken_verdict config end 0 (Calls method) ≡ Proceeds (Some (Discarded 0)) []
other_verdict role config end method h e f = leaving_verdict role config end 0 (Calls method) h ∙ rw (e, f) refl

crossing : (role : Role) (config : Config role) (phase : Phase) (agreed : Option Agreed) (channels : ℕ → Channel) (method : Method) → leaves phase ≡ true → method.kind ≡ kinds.ConnectionClose → EndLeft config 0 (Calls method) (Proceeds (Some Quiet) (connection_close_ok ∷ [])) (record { phase = phase; agreed = agreed; channels = channels }) (record { phase = phase; agreed = agreed; channels = channels })
crossing Client config Closing agreed channels method h e = λ kind payload. rw e refl
crossing Server config Closing agreed channels method h e = λ kind payload. rw e refl
crossing role config (Handshake step) agreed channels method h e = cc
crossing role config Running agreed channels method h e = cc
crossing role config Closed agreed channels method h e = cc
crossing role config Failed agreed channels method h e = cc

pub crossing_close : (role : Role) (config : Config role) (end : End) (method : Method) → leaves end.phase ≡ true → same_kind method.kind kinds.ConnectionClose ≡ true → EndLeft config 0 (Calls method) (Proceeds (Some Quiet) (connection_close_ok ∷ [])) end end
crossing_close role config end method h e = crossing role config end.phase end.agreed end.channels method h (same_is method.kind kinds.ConnectionClose e)

answered : (role : Role) (config : Config role) (phase : Phase) (agreed : Option Agreed) (channels : ℕ → Channel) (method : Method) → leaves phase ≡ true → same_kind method.kind kinds.ConnectionCloseOk ≡ true → EndLeft config 0 (Calls method) (Proceeds (Some (ConnectionClosed None)) []) (record { phase = phase; agreed = agreed; channels = channels }) (record { phase = Closed; agreed = agreed; channels = channels })
answered Client config Closing agreed channels method h e = λ kind payload. rw e refl
answered Server config Closing agreed channels method h e = λ kind payload. rw (e, and_false (same_kind method.kind kinds.ConnectionTuneOk)) refl
answered role config (Handshake step) agreed channels method h e = cc
answered role config Running agreed channels method h e = cc
answered role config Closed agreed channels method h e = cc
answered role config Failed agreed channels method h e = cc

pub close_answered : (role : Role) (config : Config role) (end : End) (method : Method) → leaves end.phase ≡ true → same_kind method.kind kinds.ConnectionCloseOk ≡ true → EndLeft config 0 (Calls method) (Proceeds (Some (ConnectionClosed None)) []) end (record { phase = Closed; agreed = end.agreed; channels = end.channels })
close_answered role config end method h e = answered role config end.phase end.agreed end.channels method h e

dropped : (role : Role) (config : Config role) (phase : Phase) (agreed : Option Agreed) (channels : ℕ → Channel) (method : Method) → leaves phase ≡ true → same_kind method.kind kinds.ConnectionCloseOk ≡ false → EndLeft config 0 (Calls method) (Proceeds (Some (Discarded 0)) []) (record { phase = phase; agreed = agreed; channels = channels }) (record { phase = phase; agreed = agreed; channels = channels })
dropped Client config Closing agreed channels method h e = λ kind payload. rw e refl
dropped Server config Closing agreed channels method h e = λ kind payload. rw (e, and_false (same_kind method.kind kinds.ConnectionTuneOk)) refl
dropped role config (Handshake step) agreed channels method h e = cc
dropped role config Running agreed channels method h e = cc
dropped role config Closed agreed channels method h e = cc
dropped role config Failed agreed channels method h e = cc

pub dropped_call : (role : Role) (config : Config role) (end : End) (method : Method) → leaves end.phase ≡ true → same_kind method.kind kinds.ConnectionCloseOk ≡ false → EndLeft config 0 (Calls method) (Proceeds (Some (Discarded 0)) []) end end
dropped_call role config end method h e = dropped role config end.phase end.agreed end.channels method h e
