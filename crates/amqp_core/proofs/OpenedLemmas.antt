-- An end that reads frames reads the protocol header no more, whatever it takes and puts.
use Rattle.std.proofs.Common.{◌≡◌, Bool, true, false, cond, ℕ, zero, suc, List, [], ◌∷◌, refl}
use Rattle.std.proofs.lemmas.Bool.{false≢true}
use Rattle.amqp_method.specs.declared.kinds.Kind.TheVariants as kinds
use Rattle.amqp_model.specs.End.Channels.{End, Phase, Handshake, Running, Closing, Closed, Failed, HandshakeStep, AwaitsProtocolHeader, AwaitsStart, AwaitsStartOk, AwaitsTune, AwaitsTuneOk, AwaitsOpen, AwaitsOpenOk, HoldsStart, HoldsLogin, HoldsOpen}
use Rattle.amqp_model.specs.End.Closes.{Owed, frame_of}
use Rattle.amqp_model.specs.End.EndVerdict.{facts_at, takes_octets}
use Rattle.amqp_model.specs.End.Events.{FrameVerdict, Proceeds, RefusesContent, Faults}
use Rattle.amqp_model.specs.Wire.Frame.{Frame}
use Rattle.amqp_model.specs.End.FrameVerdict.{methods_put}
use Rattle.amqp_model.specs.History.Histories.{PutHere, TookHere}
use Rattle.amqp_model.specs.End.Machine.{after_start, after_start_ok, after_start_ok_put, after_start_put, after_tune_ok, after_tune_put, end_after, end_after_owed, end_after_put, end_after_taken, failed_by, phase_put, phase_taken, step_put, step_taken, taken_verdict, taken_ends_handshake, put_ends_handshake}
use Rattle.amqp_model.specs.History.Negotiation.{Config}
use Rattle.amqp_model.specs.Wire.Notes.{Role, Client, Server}
use Rattle.amqp_model.specs.Wire.Readings.{Reading, Calls, is_call, reading as reading_of}
use Rattle.amqp_core.specs.End.EndpointView.{is_opened}

either : (b : Bool) (one other : Phase) → is_opened one ≡ true → is_opened other ≡ true → is_opened (cond b one other) ≡ true
either true one other p q = p
either false one other p q = q

either_step : (b : Bool) (one other : HandshakeStep) → is_opened (Handshake one) ≡ true → is_opened (Handshake other) ≡ true → is_opened (Handshake (cond b one other)) ≡ true
either_step true one other p q = p
either_step false one other p q = q

starts : (step : HandshakeStep) → is_opened (Handshake step) ≡ true → is_opened (Handshake (after_start step)) ≡ true
starts AwaitsProtocolHeader o = absurd (false≢true o)
starts AwaitsStart o = refl
starts AwaitsStartOk o = refl
starts AwaitsTune o = refl
starts AwaitsTuneOk o = refl
starts AwaitsOpen o = refl
starts AwaitsOpenOk o = refl
starts HoldsStart o = refl
starts HoldsLogin o = refl
starts HoldsOpen o = refl

starts_ok : (step : HandshakeStep) → is_opened (Handshake step) ≡ true → is_opened (Handshake (after_start_ok step)) ≡ true
starts_ok AwaitsProtocolHeader o = absurd (false≢true o)
starts_ok AwaitsStart o = refl
starts_ok AwaitsStartOk o = refl
starts_ok AwaitsTune o = refl
starts_ok AwaitsTuneOk o = refl
starts_ok AwaitsOpen o = refl
starts_ok AwaitsOpenOk o = refl
starts_ok HoldsStart o = refl
starts_ok HoldsLogin o = refl
starts_ok HoldsOpen o = refl

starts_put : (step : HandshakeStep) → is_opened (Handshake step) ≡ true → is_opened (Handshake (after_start_put step)) ≡ true
starts_put AwaitsProtocolHeader o = absurd (false≢true o)
starts_put AwaitsStart o = refl
starts_put AwaitsStartOk o = refl
starts_put AwaitsTune o = refl
starts_put AwaitsTuneOk o = refl
starts_put AwaitsOpen o = refl
starts_put AwaitsOpenOk o = refl
starts_put HoldsStart o = refl
starts_put HoldsLogin o = refl
starts_put HoldsOpen o = refl

starts_ok_put : (step : HandshakeStep) → is_opened (Handshake step) ≡ true → is_opened (Handshake (after_start_ok_put step)) ≡ true
starts_ok_put AwaitsProtocolHeader o = absurd (false≢true o)
starts_ok_put AwaitsStart o = refl
starts_ok_put AwaitsStartOk o = refl
starts_ok_put AwaitsTune o = refl
starts_ok_put AwaitsTuneOk o = refl
starts_ok_put AwaitsOpen o = refl
starts_ok_put AwaitsOpenOk o = refl
starts_ok_put HoldsStart o = refl
starts_ok_put HoldsLogin o = refl
starts_ok_put HoldsOpen o = refl

tunes_put : (step : HandshakeStep) → is_opened (Handshake step) ≡ true → is_opened (Handshake (after_tune_put step)) ≡ true
tunes_put AwaitsProtocolHeader o = absurd (false≢true o)
tunes_put AwaitsStart o = refl
tunes_put AwaitsStartOk o = refl
tunes_put AwaitsTune o = refl
tunes_put AwaitsTuneOk o = refl
tunes_put AwaitsOpen o = refl
tunes_put AwaitsOpenOk o = refl
tunes_put HoldsStart o = refl
tunes_put HoldsLogin o = refl
tunes_put HoldsOpen o = refl

tunes_ok : (step : HandshakeStep) → is_opened (Handshake step) ≡ true → is_opened (Handshake (after_tune_ok step)) ≡ true
tunes_ok AwaitsProtocolHeader o = absurd (false≢true o)
tunes_ok AwaitsStart o = refl
tunes_ok AwaitsStartOk o = refl
tunes_ok AwaitsTune o = refl
tunes_ok AwaitsTuneOk o = refl
tunes_ok AwaitsOpen o = refl
tunes_ok AwaitsOpenOk o = refl
tunes_ok HoldsStart o = refl
tunes_ok HoldsLogin o = refl
tunes_ok HoldsOpen o = refl

taken_step : (role : Role) (r : Reading) (step : HandshakeStep) → is_opened (Handshake step) ≡ true → is_opened (Handshake (step_taken role r step)) ≡ true
taken_step Client r step o = either_step (is_call kinds.ConnectionTune r) _ _ refl (either_step (is_call kinds.ConnectionStart r) _ _ (starts step o) o)
taken_step Server r step o =
    either_step (is_call kinds.ConnectionOpen r) _ _ refl
    (either_step (is_call kinds.ConnectionTuneOk r) _ _ (tunes_ok step o) (either_step (is_call kinds.ConnectionStartOk r) _ _ (starts_ok step o) o))

put_step : (role : Role) (r : Reading) (step : HandshakeStep) → is_opened (Handshake step) ≡ true → is_opened (Handshake (step_put role r step)) ≡ true
put_step Client r step o = either_step (is_call kinds.ConnectionStartOk r) _ _ (starts_ok_put step o) o
put_step Server r step o =
    either_step (is_call kinds.ConnectionTune r) _ _ (tunes_put step o) (either_step (is_call kinds.ConnectionStart r) _ _ (starts_put step o) o)

phase_after_taken : (role : Role) (r : Reading) (phase : Phase) → is_opened phase ≡ true → is_opened (phase_taken role r phase) ≡ true
phase_after_taken role r (Handshake step) o = either _ Closed _ refl (either (taken_ends_handshake role r) Running _ refl (taken_step role r step o))
phase_after_taken role r Running o = either _ Closed Running refl refl
phase_after_taken role r Closing o = either _ Closed Closing refl refl
phase_after_taken role r Closed o = refl
phase_after_taken role r Failed o = refl

phase_after_put : (role : Role) (r : Reading) (phase : Phase) → is_opened phase ≡ true → is_opened (phase_put role r phase) ≡ true
phase_after_put role r (Handshake step) o = either _ Closing _ refl (either (put_ends_handshake role r) Running _ refl (put_step role r step o))
phase_after_put role r Running o = either _ Closing Running refl refl
phase_after_put role r Closing o = refl
phase_after_put role r Closed o = refl
phase_after_put role r Failed o = refl

pub put_opened : (role : Role) (config : Config role) (number : ℕ) (r : Reading) (frame : Frame) (end : End) → is_opened end.phase ≡ true → is_opened (end_after role config number (PutHere r frame) end).phase ≡ true
put_opened role config zero r frame end o = phase_after_put role r end.phase o
put_opened role config (suc n) r frame end o = o

taken_opened : (role : Role) (config : Config role) (number : ℕ) (r : Reading) (frame : Frame) (end : End) → is_opened end.phase ≡ true → is_opened (end_after role config number (TookHere r frame) end).phase ≡ true
taken_opened role config zero r frame end o = phase_after_taken role r end.phase o
taken_opened role config (suc n) r frame end o = o

owed_opened : (role : Role) (config : Config role) (owed : List Owed) (end : End) → is_opened end.phase ≡ true → is_opened (end_after_owed role config owed end).phase ≡ true
owed_opened role config [] end o = o
owed_opened role config (owed ∷ later) end o = owed_opened role config later _ (put_opened role config owed.channel (Calls owed.method) (frame_of owed) end o)

by_verdict : (verdict : FrameVerdict) (end : End) → is_opened end.phase ≡ true → is_opened (failed_by verdict end).phase ≡ true
by_verdict (Proceeds event owed) end o = o
by_verdict RefusesContent end o = o
by_verdict (Faults fault) end o = refl

-- after a frame
pub frame_opened : (role : Role) (config : Config role) (end : End) (r : Reading) (frame : Frame) → is_opened end.phase ≡ true → is_opened (end_after_taken role config end r frame).phase ≡ true
frame_opened role config end r frame o =
    by_verdict (taken_verdict config end frame.channel r) _ (owed_opened role config (methods_put (facts_at config end frame.channel) (taken_verdict config end frame.channel r)) _ (taken_opened role config frame.channel r frame end o))

-- after what an application asks
pub asked_opened : (role : Role) (config : Config role) (frames : List Frame) (end : End) → is_opened end.phase ≡ true → is_opened (end_after_put role config frames end).phase ≡ true
asked_opened role config [] end o = o
asked_opened role config (frame ∷ later) end o = asked_opened role config later _ (put_opened role config frame.channel (reading_of frame) frame end o)

-- What an end puts as it is asked lets it take octets as before.

either_takes : (b : Bool) (one other : Phase) → takes_octets one ≡ true → takes_octets other ≡ true → takes_octets (cond b one other) ≡ true
either_takes true one other p q = p
either_takes false one other p q = q

phase_takes : (role : Role) (r : Reading) (phase : Phase) → takes_octets phase ≡ true → takes_octets (phase_put role r phase) ≡ true
phase_takes role r (Handshake step) t = either_takes _ Closing _ refl (either_takes (put_ends_handshake role r) Running _ refl refl)
phase_takes role r Running t = either_takes _ Closing Running refl refl
phase_takes role r Closing t = refl
phase_takes role r Closed t = t
phase_takes role r Failed t = t

put_takes : (role : Role) (config : Config role) (number : ℕ) (r : Reading) (frame : Frame) (end : End) → takes_octets end.phase ≡ true → takes_octets (end_after role config number (PutHere r frame) end).phase ≡ true
put_takes role config zero r frame end t = phase_takes role r end.phase t
put_takes role config (suc n) r frame end t = t

pub asked_takes : (role : Role) (config : Config role) (frames : List Frame) (end : End) → takes_octets end.phase ≡ true → takes_octets (end_after_put role config frames end).phase ≡ true
asked_takes role config [] end t = t
asked_takes role config (frame ∷ later) end t = asked_takes role config later _ (put_takes role config frame.channel (reading_of frame) frame end t)
