-- A server that has read the protocol header.
use Rattle.std.proofs.Common.{◌≡◌, ◌≢◌, ◌<◌, ◌≤◌, ◌+◌, ◌-◌, Bool, true, ℕ, List, ◌++◌, take, drop, length, slice_index, Option, None, refl, ap, sym, ◌∙◌, subst, arith}
use Rattle.std.proofs.Math.Seq.{take-add}
use Rattle.std.proofs.lemmas.List.{length-drop, get_or-drop, take_all}
use Rattle.std.proofs.lemmas.Bool.{false≢true}
use Rattle.amqp_model.specs.End.Channels.{Channel, Phase, Handshake, Running, Closing, Closed, Failed, AwaitsProtocolHeader, AwaitsStart, AwaitsStartOk, AwaitsTune, AwaitsTuneOk, AwaitsOpen, AwaitsOpenOk, HoldsStart, HoldsLogin, HoldsOpen, Agreed}
use Rattle.amqp_model.specs.Stream.Endpoint.{awaits_opening, owed_at_start}
use Rattle.amqp_model.specs.End.Machine.{end_after_owed}
use Rattle.amqp_model.specs.History.Negotiation.{Config, Hello, OfServer, PROTOCOL_HEADER}
use Rattle.amqp_model.specs.Wire.Notes.{Role, Client, Server}
use Rattle.amqp_core.specs.Connection.Stages.{phase_at, agreed_at}
use Rattle.amqp_core.specs.declared.stage.Stage.{Stage}
use Rattle.amqp_core.specs.declared.stage.Stage.TheVariants as code

pub nothing_agreed : (role : Role) (stage : Stage) → awaits_opening role (phase_at stage) ≡ true → agreed_at stage ≡ None
nothing_agreed Client stage e = absurd (false≢true e)
nothing_agreed Server code.AwaitsProtocolHeader e = refl
nothing_agreed Server code.AwaitsStart e = refl
nothing_agreed Server code.AwaitsStartOk e = refl
nothing_agreed Server code.AwaitsTune e = refl
nothing_agreed Server code.AwaitsTuneOk e = refl
nothing_agreed Server (code.AwaitsOpen agreed) e = absurd (false≢true e)
nothing_agreed Server (code.AwaitsOpenOk agreed) e = absurd (false≢true e)
nothing_agreed Server code.HoldsStart e = refl
nothing_agreed Server code.HoldsLogin e = refl
nothing_agreed Server (code.HoldsOpen agreed) e = absurd (false≢true e)
nothing_agreed Server (code.Running agreed) e = absurd (false≢true e)
nothing_agreed Server (code.Closing agreed) e = absurd (false≢true e)
nothing_agreed Server (code.Closed agreed) e = absurd (false≢true e)
nothing_agreed Server (code.Failed agreed) e = absurd (false≢true e)

started : (frame_max channel_max max_body heartbeat : ℕ) (gated : Bool) (hello : Hello Server) (agreed : Option Agreed) (channels : ℕ → Channel) →
    let config : Config Server = record { frame_max = frame_max; channel_max = channel_max; max_body = max_body; heartbeat = heartbeat; gated = gated; hello = hello } in
    end_after_owed Server config (owed_at_start Server config) (record { phase = Handshake AwaitsProtocolHeader; agreed = agreed; channels = channels }) ≡ record { phase = Handshake AwaitsStartOk; agreed = agreed; channels = channels }
started frame_max channel_max max_body heartbeat gated (OfServer properties mechanisms locales) agreed channels = refl

greeted : (role : Role) (config : Config role) (phase : Phase) (agreed : Option Agreed) (channels : ℕ → Channel) → awaits_opening role phase ≡ true → end_after_owed role config (owed_at_start role config) (record { phase = phase; agreed = agreed; channels = channels }) ≡ record { phase = Handshake AwaitsStartOk; agreed = agreed; channels = channels }
greeted Client config phase agreed channels e = absurd (false≢true e)
greeted Server config (Handshake AwaitsProtocolHeader) agreed channels e = started config.frame_max config.channel_max config.max_body config.heartbeat config.gated config.hello agreed channels
greeted Server config (Handshake AwaitsStart) agreed channels e = absurd (false≢true e)
greeted Server config (Handshake AwaitsStartOk) agreed channels e = absurd (false≢true e)
greeted Server config (Handshake AwaitsTune) agreed channels e = absurd (false≢true e)
greeted Server config (Handshake AwaitsTuneOk) agreed channels e = absurd (false≢true e)
greeted Server config (Handshake AwaitsOpen) agreed channels e = absurd (false≢true e)
greeted Server config (Handshake AwaitsOpenOk) agreed channels e = absurd (false≢true e)
greeted Server config (Handshake HoldsStart) agreed channels e = absurd (false≢true e)
greeted Server config (Handshake HoldsLogin) agreed channels e = absurd (false≢true e)
greeted Server config (Handshake HoldsOpen) agreed channels e = absurd (false≢true e)
greeted Server config Running agreed channels e = absurd (false≢true e)
greeted Server config Closing agreed channels e = absurd (false≢true e)
greeted Server config Closed agreed channels e = absurd (false≢true e)
greeted Server config Failed agreed channels e = absurd (false≢true e)

-- it awaits start-ok next
pub greets : (role : Role) (config : Config role) (stage : Stage) (channels : ℕ → Channel) → awaits_opening role (phase_at stage) ≡ true → end_after_owed role config (owed_at_start role config) (record { phase = phase_at stage; agreed = agreed_at stage; channels = channels }) ≡ record { phase = Handshake AwaitsStartOk; agreed = None; channels = channels }
greets role config stage channels e =
    rw (nothing_agreed role stage e) (greeted role config (phase_at stage) None channels e)

-- Octets that go on with the protocol header.

rest_is : (heard : ℕ) → take (8 - heard) (drop heard PROTOCOL_HEADER) ≡ drop heard PROTOCOL_HEADER
rest_is heard = take_all (8 - heard) (drop heard PROTOCOL_HEADER) (subst (λ n. n ≤ 8 - heard) (sym (length-drop heard PROTOCOL_HEADER)) (omega arith))

pub goes_on : (heard count : ℕ) (octets : List ℕ) → take count octets ≡ take count (take (8 - heard) (drop heard PROTOCOL_HEADER)) → take heard PROTOCOL_HEADER ++ take count octets ≡ take (heard + count) PROTOCOL_HEADER
goes_on heard count octets e =
    ap (λ (ys : List ℕ). take heard PROTOCOL_HEADER ++ ys) (e ∙ ap (take count) (rest_is heard)) ∙ sym (take-add heard count PROTOCOL_HEADER)

pub differs_there : (heard count : ℕ) (octets : List ℕ) → (count < length octets → count < length (take (8 - heard) (drop heard PROTOCOL_HEADER)) → slice_index octets count ≢ slice_index (take (8 - heard) (drop heard PROTOCOL_HEADER)) count) → count < length octets → heard + count < 8 → slice_index octets count ≢ slice_index PROTOCOL_HEADER (heard + count)
differs_there heard count octets h within room e =
    let room_there : count < length (take (8 - heard) (drop heard PROTOCOL_HEADER)) = subst (λ (xs : List ℕ). count < length xs) (sym (rest_is heard)) (subst (λ n. count < n) (sym (length-drop heard PROTOCOL_HEADER)) (omega (arith, room))) in
    h within room_there (e ∙ sym (ap (λ (xs : List ℕ). slice_index xs count) (rest_is heard) ∙ get_or-drop heard PROTOCOL_HEADER count 0))
