-- The phase, and what was agreed, follow each entry of channel 0.
use Rattle.std.proofs.Common.{◌≡◌, Bool, true, false, cond, not, ◌&&◌, ◌||◌, List, ◌∷◌, refl, ap}
use Rattle.std.proofs.Common.{◌∙◌}
use Rattle.amqp_method.specs.declared.kinds.Kind.TheVariants as kinds
use Rattle.amqp_model.specs.Wire.Frame.{Frame}
use Rattle.amqp_model.specs.Wire.Notes.{Role, Client, Server}
use Rattle.amqp_model.specs.Wire.Readings.{Reading, is_call}
use Rattle.amqp_model.specs.History.Histories.{ChannelEntry, PutHere, TookHere}
use Rattle.amqp_model.specs.End.Channels.{HandshakeStep, AwaitsProtocolHeader, AwaitsStart, AwaitsStartOk, AwaitsTune}
use Rattle.amqp_model.specs.End.Channels.{AwaitsTuneOk, AwaitsOpen, AwaitsOpenOk, HoldsStart, HoldsLogin, HoldsOpen}
use Rattle.amqp_model.specs.End.Channels.{Phase, Handshake, Running, Closed}
use Rattle.amqp_model.specs.End.StateFromHistory.{has_put, has_taken, closed_by_peer, is_closed, is_negotiated}
use Rattle.amqp_model.specs.End.StateFromHistory.{step_from, phase_from}
use Rattle.amqp_model.specs.End.Machine.{taken_ends_handshake, put_ends_handshake, after_start, after_start_ok}
use Rattle.amqp_model.specs.End.Machine.{after_start_ok_put, after_start_put, after_tune_put, after_tune_ok, step_taken}
use Rattle.amqp_model.specs.End.Machine.{step_put, phase_taken, phase_put, phase_after}

-- the phase by the words that are counted
abbrev word : (closed put over : Bool) → HandshakeStep → Phase
word closed put over step = cond closed Closed (cond put Phase.Closing (cond over Running (Handshake step)))

-- a frame taken that closes, or answers a close, or ends the handshake
took-closed : (c put co b over : Bool) (step : HandshakeStep)
    → word (((c && not put) || true) || (co || b)) put over step ≡ Closed
took-closed false put co b over step = refl
took-closed true true co b over step = refl
took-closed true false co b over step = refl

took-answered : (c put co over : Bool) (step : HandshakeStep)
    → word (((c && not put) || false) || (co || true)) put over step ≡ Closed
took-answered true true true over step = refl
took-answered true true false over step = refl
took-answered true false co over step = refl
took-answered false put true over step = refl
took-answered false put false over step = refl

took-closing : (c co over : Bool) (step : HandshakeStep)
    → word (((c && false) || false) || (co || false)) true over step ≡ cond co Closed Phase.Closing
took-closing true true over step = refl
took-closing true false over step = refl
took-closing false true over step = refl
took-closing false false over step = refl

took-running : (c co e : Bool) (step : HandshakeStep)
    → word (((c && true) || false) || (co || false)) false (e || true) step ≡ cond (c || co) Closed Running
took-running true co e step = refl
took-running false true e step = refl
took-running false false true step = refl
took-running false false false step = refl

took-handshake : (c co e : Bool) (step : HandshakeStep)
    → word (((c && true) || false) || (co || false)) false (e || false) step
    ≡ cond (c || co) Closed (cond e Running (Handshake step))
took-handshake true co e step = refl
took-handshake false true e step = refl
took-handshake false false true step = refl
took-handshake false false false step = refl

-- the step by the words that are counted
abbrev client_word : (tuned answered started : Bool) → HandshakeStep
client_word tuned answered started =
    cond tuned AwaitsOpenOk (cond answered AwaitsTune (cond started HoldsStart AwaitsStart))

abbrev server_word : (opened settled admitted logged greeted : Bool) → HandshakeStep
server_word opened settled admitted logged greeted =
    cond opened HoldsOpen
    (cond settled AwaitsOpen
    (cond admitted AwaitsTuneOk (cond logged HoldsLogin (cond greeted AwaitsStartOk AwaitsProtocolHeader))))

client-step : (t s tuned answered started : Bool) → client_word (t || tuned) answered (s || started)
    ≡ cond t AwaitsOpenOk (cond s (after_start (client_word tuned answered started))
    (client_word tuned answered started))
client-step true s tuned answered started = refl
client-step false true true answered started = refl
client-step false true false true started = refl
client-step false true false false true = refl
client-step false true false false false = refl
client-step false false tuned answered started = refl

server-step : (o t s opened settled admitted logged greeted : Bool)
    → server_word (o || opened) (t || settled) admitted (s || logged) greeted
    ≡ cond o HoldsOpen (cond t (after_tune_ok (server_word opened settled admitted logged greeted))
    (cond s (after_start_ok (server_word opened settled admitted logged greeted))
    (server_word opened settled admitted logged greeted)))
server-step true t s opened settled admitted logged greeted = refl
server-step false true s true settled admitted logged greeted = refl
server-step false true s false true admitted logged greeted = refl
server-step false true s false false true logged greeted = refl
server-step false true s false false false true greeted = refl
server-step false true s false false false false true = refl
server-step false true s false false false false false = refl
server-step false false true true settled admitted logged greeted = refl
server-step false false true false true admitted logged greeted = refl
server-step false false true false false true logged greeted = refl
server-step false false true false false false true greeted = refl
server-step false false true false false false false true = refl
server-step false false true false false false false false = refl
server-step false false false opened settled admitted logged greeted = refl

took : (role : Role) (r : Reading) (a b put over : Bool) (old new : HandshakeStep) → new ≡ step_taken role r old
    → word (((is_call kinds.ConnectionClose r && not put) || a) || (is_call kinds.ConnectionCloseOk r || b)) put
    (taken_ends_handshake role r || over) new ≡ phase_taken role r (word (a || b) put over old)
took role r true b put over old new s =
    took-closed (is_call kinds.ConnectionClose r) put (is_call kinds.ConnectionCloseOk r) b
    (taken_ends_handshake role r || over) new
took role r false true put over old new s =
    took-answered (is_call kinds.ConnectionClose r) put (is_call kinds.ConnectionCloseOk r)
    (taken_ends_handshake role r || over) new
took role r false false true over old new s =
    took-closing (is_call kinds.ConnectionClose r) (is_call kinds.ConnectionCloseOk r)
    (taken_ends_handshake role r || over) new
took role r false false false true old new s =
    took-running (is_call kinds.ConnectionClose r) (is_call kinds.ConnectionCloseOk r) (taken_ends_handshake role r) new
took role r false false false false old new s =
    took-handshake (is_call kinds.ConnectionClose r) (is_call kinds.ConnectionCloseOk r) (taken_ends_handshake role r)
    new ∙ ap (λ step. cond (is_call kinds.ConnectionClose r || is_call kinds.ConnectionCloseOk r) Closed
    (cond (taken_ends_handshake role r) Running (Handshake step))) s

-- a frame put
put-closing : (c over : Bool) (step : HandshakeStep) → word false (c || true) over step ≡ Phase.Closing
put-closing true over step = refl
put-closing false over step = refl

put-running : (c e : Bool) (step : HandshakeStep) → word false (c || false) (e || true) step
    ≡ cond c Phase.Closing Running
put-running true e step = refl
put-running false true step = refl
put-running false false step = refl

put-handshake : (c e : Bool) (step : HandshakeStep) → word false (c || false) (e || false) step
    ≡ cond c Phase.Closing (cond e Running (Handshake step))
put-handshake true e step = refl
put-handshake false true step = refl
put-handshake false false step = refl

put-client-step : (a tuned answered started : Bool) → client_word tuned (a || answered) started
    ≡ cond a (after_start_ok_put (client_word tuned answered started)) (client_word tuned answered started)
put-client-step true true answered started = refl
put-client-step true false true started = refl
put-client-step true false false true = refl
put-client-step true false false false = refl
put-client-step false tuned answered started = refl

put-server-step : (p g opened settled admitted logged greeted : Bool)
    → server_word opened settled (p || admitted) logged (g || greeted)
    ≡ cond p (after_tune_put (server_word opened settled admitted logged greeted))
    (cond g (after_start_put (server_word opened settled admitted logged greeted))
    (server_word opened settled admitted logged greeted))
put-server-step true g true settled admitted logged greeted = refl
put-server-step true g false true admitted logged greeted = refl
put-server-step true g false false true logged greeted = refl
put-server-step true g false false false true greeted = refl
put-server-step true g false false false false true = refl
put-server-step true g false false false false false = refl
put-server-step false true true settled admitted logged greeted = refl
put-server-step false true false true admitted logged greeted = refl
put-server-step false true false false true logged greeted = refl
put-server-step false true false false false true greeted = refl
put-server-step false true false false false false true = refl
put-server-step false true false false false false false = refl
put-server-step false false opened settled admitted logged greeted = refl

puts : (role : Role) (r : Reading) (closed put over : Bool) (old new : HandshakeStep) → new ≡ step_put role r old
    → word closed (is_call kinds.ConnectionClose r || put) (put_ends_handshake role r || over) new
    ≡ phase_put role r (word closed put over old)
puts role r true put over old new s = refl
puts role r false true over old new s =
    put-closing (is_call kinds.ConnectionClose r) (put_ends_handshake role r || over) new
puts role r false false true old new s = put-running (is_call kinds.ConnectionClose r) (put_ends_handshake role r) new
puts role r false false false old new s =
    put-handshake (is_call kinds.ConnectionClose r) (put_ends_handshake role r) new
    ∙ ap (λ step. cond (is_call kinds.ConnectionClose r) Phase.Closing
    (cond (put_ends_handshake role r) Running (Handshake step))) s

pub phase-taken : (role : Role) (r : Reading) (frame : Frame) (entries : List ChannelEntry)
    → phase_from role false (TookHere r frame ∷ entries) ≡ phase_after role (TookHere r frame)
    (phase_from role false entries)
phase-taken Client r frame es =
    took Client r (closed_by_peer es) (has_taken kinds.ConnectionCloseOk es) (has_put kinds.ConnectionClose es)
    (is_negotiated Client es) (step_from Client es) (step_from Client (TookHere r frame ∷ es))
    (client-step (is_call kinds.ConnectionTune r) (is_call kinds.ConnectionStart r) (has_taken kinds.ConnectionTune es)
    (has_put kinds.ConnectionStartOk es) (has_taken kinds.ConnectionStart es))
phase-taken Server r frame es =
    took Server r (closed_by_peer es) (has_taken kinds.ConnectionCloseOk es) (has_put kinds.ConnectionClose es)
    (is_negotiated Server es) (step_from Server es) (step_from Server (TookHere r frame ∷ es))
    (server-step (is_call kinds.ConnectionOpen r) (is_call kinds.ConnectionTuneOk r) (is_call kinds.ConnectionStartOk r)
    (has_taken kinds.ConnectionOpen es) (has_taken kinds.ConnectionTuneOk es) (has_put kinds.ConnectionTune es)
    (has_taken kinds.ConnectionStartOk es) (has_put kinds.ConnectionStart es))

pub phase-put : (role : Role) (r : Reading) (frame : Frame) (entries : List ChannelEntry)
    → phase_from role false (PutHere r frame ∷ entries) ≡ phase_after role (PutHere r frame)
    (phase_from role false entries)
phase-put Client r frame es =
    puts Client r (is_closed es) (has_put kinds.ConnectionClose es) (is_negotiated Client es) (step_from Client es)
    (step_from Client (PutHere r frame ∷ es)) (put-client-step (is_call kinds.ConnectionStartOk r)
    (has_taken kinds.ConnectionTune es) (has_put kinds.ConnectionStartOk es) (has_taken kinds.ConnectionStart es))
phase-put Server r frame es =
    puts Server r (is_closed es) (has_put kinds.ConnectionClose es) (is_negotiated Server es) (step_from Server es)
    (step_from Server (PutHere r frame ∷ es))
    (put-server-step (is_call kinds.ConnectionTune r) (is_call kinds.ConnectionStart r)
    (has_taken kinds.ConnectionOpen es) (has_taken kinds.ConnectionTuneOk es) (has_put kinds.ConnectionTune es)
    (has_taken kinds.ConnectionStartOk es) (has_put kinds.ConnectionStart es))
