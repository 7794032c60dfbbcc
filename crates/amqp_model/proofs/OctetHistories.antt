-- What an end took and put, and whether it has read what stands before the frames, after more entries.
use Rattle.std.proofs.Common.{◌≡◌, Bool, true, false, cond, ◌&&◌, ◌==◌, ℕ, List, [], ◌∷◌}
use Rattle.std.proofs.Common.{◌++◌, All, length, None, refl, sym, ap, ◌∙◌, subst, append_assoc, append-nil}
use Rattle.std.proofs.lemmas.Bool.{true≢false, eq-eqb}
use Rattle.std.proofs.lemmas.List.{drop_at}
use Rattle.std.proofs.lemmas.List.Elements.{All-drop, All-take}
use Rattle.amqp_method.specs.declared.kinds.Kind.TheVariants as kinds
use Rattle.amqp_frame.specs.Frame.{octets, Fits}
use Rattle.amqp_frame.specs.Splitting.{AllFit}
use Rattle.amqp_frame.proofs.FrameLemmas.{payload-at_start}
use Rattle.amqp_model.specs.Wire.Frame.{Frame}
use Rattle.amqp_model.specs.Wire.Notes.{Role, Client, Server}
use Rattle.amqp_model.specs.Wire.Readings.{Reading, reading, is_call}
use Rattle.amqp_model.specs.History.Histories.{Entry, Put, Took, History, ChannelEntry, PutHere, TookHere, LeftHere}
use Rattle.amqp_model.specs.History.Histories.{entries_on}
use Rattle.amqp_model.specs.End.Channels.{HandshakeStep, AwaitsProtocolHeader, AwaitsStart, AwaitsStartOk, AwaitsTune}
use Rattle.amqp_model.specs.End.Channels.{AwaitsTuneOk, AwaitsOpen, AwaitsOpenOk, HoldsStart, HoldsLogin, HoldsOpen}
use Rattle.amqp_model.specs.End.Channels.{Phase, Handshake, Running, Closing, Closed, Failed}
use Rattle.amqp_model.specs.End.StateFromHistory.{has_put, has_taken, is_closed, is_negotiated, phase_from}
use Rattle.amqp_model.specs.End.EndVerdict.{takes_frames}
use Rattle.amqp_model.specs.End.LawfulHistories.{then_put}
use Rattle.amqp_model.specs.End.Machine.{after_start_ok, after_start_put, after_tune_put, after_tune_ok, phase_after}
use Rattle.amqp_model.specs.Stream.Octets.{frames_taken, frames_put, has_opened}
use Rattle.amqp_model.specs.Stream.Endpoint.{Differs, compared, refusal_in, awaits_opening}
use Rattle.amqp_model.specs.Laws.OctetLaws.{IsOctet}
use Rattle.amqp_model.proofs.Phases.{phase-taken, phase-put}

-- Frames put after a history.

pub frames-put : (frames : List Frame) (history : History) → frames_put (then_put frames history)
    ≡ frames_put history ++ frames
frames-put [] history = sym (append-nil (frames_put history))
frames-put (frame ∷ later) history =
    frames-put later (Put frame ∷ history) ∙ append_assoc (frames_put history) (frame ∷ []) later

pub frames-taken : (frames : List Frame) (history : History)
    → frames_taken (then_put frames history) ≡ frames_taken history
frames-taken [] history = refl
frames-taken (frame ∷ later) history = frames-taken later (Put frame ∷ history)

entry-opens : (role : Role) (entry : Entry) (history : History) → has_opened role (entry ∷ history) ≡ true
entry-opens Client entry history = refl
entry-opens Server entry history = refl

pub stays-opened : (role : Role) (frames : List Frame) (history : History) → has_opened role history ≡ true
    → has_opened role (then_put frames history) ≡ true
stays-opened role [] history e = e
stays-opened role (frame ∷ later) history e =
    stays-opened role later (Put frame ∷ history) (entry-opens role (Put frame) history)

pub taken-opens : (role : Role) (frames : List Frame) (frame : Frame) (history : History)
    → has_opened role (then_put frames (Took frame ∷ history)) ≡ true
taken-opens role frames frame history =
    stays-opened role frames (Took frame ∷ history) (entry-opens role (Took frame) history)

pub all-fit-push : (frames : List Frame) (frame : Frame) → AllFit frames → Fits frame
    → AllFit (frames ++ frame ∷ [])
all-fit-push [] frame all fits = (fits, tt)
all-fit-push (other ∷ frames) frame all fits = (all.0, all-fit-push frames frame all.1 fits)

-- An end that does not await the protocol header never does so again.

after_tune_ok-opened : (step : HandshakeStep) → awaits_opening Server (Handshake step) ≡ false
    → awaits_opening Server (Handshake (after_tune_ok step)) ≡ false
after_tune_ok-opened AwaitsProtocolHeader e = refl
after_tune_ok-opened AwaitsStart e = refl
after_tune_ok-opened AwaitsStartOk e = refl
after_tune_ok-opened AwaitsTune e = refl
after_tune_ok-opened AwaitsTuneOk e = refl
after_tune_ok-opened AwaitsOpen e = refl
after_tune_ok-opened AwaitsOpenOk e = refl
after_tune_ok-opened HoldsStart e = refl
after_tune_ok-opened HoldsLogin e = refl
after_tune_ok-opened HoldsOpen e = refl

after_start_ok-opened : (step : HandshakeStep) → awaits_opening Server (Handshake step) ≡ false
    → awaits_opening Server (Handshake (after_start_ok step)) ≡ false
after_start_ok-opened AwaitsProtocolHeader e = refl
after_start_ok-opened AwaitsStart e = refl
after_start_ok-opened AwaitsStartOk e = refl
after_start_ok-opened AwaitsTune e = refl
after_start_ok-opened AwaitsTuneOk e = refl
after_start_ok-opened AwaitsOpen e = refl
after_start_ok-opened AwaitsOpenOk e = refl
after_start_ok-opened HoldsStart e = refl
after_start_ok-opened HoldsLogin e = refl
after_start_ok-opened HoldsOpen e = refl

after_tune_put-opened : (step : HandshakeStep) → awaits_opening Server (Handshake step) ≡ false
    → awaits_opening Server (Handshake (after_tune_put step)) ≡ false
after_tune_put-opened AwaitsProtocolHeader e = refl
after_tune_put-opened AwaitsStart e = refl
after_tune_put-opened AwaitsStartOk e = refl
after_tune_put-opened AwaitsTune e = refl
after_tune_put-opened AwaitsTuneOk e = refl
after_tune_put-opened AwaitsOpen e = refl
after_tune_put-opened AwaitsOpenOk e = refl
after_tune_put-opened HoldsStart e = refl
after_tune_put-opened HoldsLogin e = refl
after_tune_put-opened HoldsOpen e = refl

after_start_put-opened : (step : HandshakeStep) → awaits_opening Server (Handshake step) ≡ false
    → awaits_opening Server (Handshake (after_start_put step)) ≡ false
after_start_put-opened AwaitsProtocolHeader e = refl
after_start_put-opened AwaitsStart e = refl
after_start_put-opened AwaitsStartOk e = refl
after_start_put-opened AwaitsTune e = refl
after_start_put-opened AwaitsTuneOk e = refl
after_start_put-opened AwaitsOpen e = refl
after_start_put-opened AwaitsOpenOk e = refl
after_start_put-opened HoldsStart e = refl
after_start_put-opened HoldsLogin e = refl
after_start_put-opened HoldsOpen e = refl

took-opened : (close opens tunes starts : Bool) (step : HandshakeStep) → awaits_opening Server (Handshake step)
    ≡ false → awaits_opening Server
    (cond close Closed
    (cond false Running
    (Handshake (cond opens HoldsOpen (cond tunes (after_tune_ok step) (cond starts (after_start_ok step) step))))))
    ≡ false
took-opened true opens tunes starts step e = refl
took-opened false true tunes starts step e = refl
took-opened false false true starts step e = after_tune_ok-opened step e
took-opened false false false true step e = after_start_ok-opened step e
took-opened false false false false step e = e

put-opened : (close ended tunes starts : Bool) (step : HandshakeStep) → awaits_opening Server (Handshake step)
    ≡ false → awaits_opening Server
    (cond close Closing
    (cond ended Running (Handshake (cond tunes (after_tune_put step) (cond starts (after_start_put step) step)))))
    ≡ false
put-opened true ended tunes starts step e = refl
put-opened false true tunes starts step e = refl
put-opened false false true starts step e = after_tune_put-opened step e
put-opened false false false true step e = after_start_put-opened step e
put-opened false false false false step e = e

two-ways : (a : Bool) (one other : Phase) → awaits_opening Server one ≡ false
    → awaits_opening Server other ≡ false → awaits_opening Server (cond a one other) ≡ false
two-ways true one other e f = e
two-ways false one other e f = f

phase-took-opened : (role : Role) (r : Reading) (frame : Frame) (phase : Phase) → awaits_opening role phase ≡ false
    → awaits_opening role (phase_after role (TookHere r frame) phase) ≡ false
phase-took-opened Client r frame phase e = refl
phase-took-opened Server r frame (Handshake step) e =
    took-opened _ (is_call kinds.ConnectionOpen r) (is_call kinds.ConnectionTuneOk r)
    (is_call kinds.ConnectionStartOk r) step e
phase-took-opened Server r frame Running e = two-ways _ Closed Running refl refl
phase-took-opened Server r frame Closing e = two-ways _ Closed Closing refl refl
phase-took-opened Server r frame Closed e = refl
phase-took-opened Server r frame Failed e = refl

pub phase-put-opened : (role : Role) (r : Reading) (frame : Frame) (phase : Phase)
    → awaits_opening role phase ≡ false → awaits_opening role (phase_after role (PutHere r frame) phase) ≡ false
phase-put-opened Client r frame phase e = refl
phase-put-opened Server r frame (Handshake step) e =
    put-opened (is_call kinds.ConnectionClose r) (is_call kinds.ConnectionOpenOk r) (is_call kinds.ConnectionTune r)
    (is_call kinds.ConnectionStart r) step e
phase-put-opened Server r frame Running e = two-ways (is_call kinds.ConnectionClose r) Closing Running refl refl
phase-put-opened Server r frame Closing e = refl
phase-put-opened Server r frame Closed e = refl
phase-put-opened Server r frame Failed e = refl

-- it does not await the protocol header, as its history has it
abbrev pub IsOpened : Role → History → Type 0
IsOpened role history = awaits_opening role (phase_from role false (entries_on 0 history)) ≡ false

entry-opened : (role : Role) (entry : Entry) (history : History) → IsOpened role history
    → IsOpened role (entry ∷ history)
entry-opened role (Took frame) history e = cases (frame.channel == 0)
  where
    cases : (here : Bool)
        → awaits_opening role
        (phase_from role false (cond here (TookHere (reading frame) frame ∷ []) [] ++ entries_on 0 history)) ≡ false
    cases true =
        ap (awaits_opening role) (phase-taken role (reading frame) frame (entries_on 0 history))
        ∙ phase-took-opened role (reading frame) frame (phase_from role false (entries_on 0 history)) e
    cases false = e
entry-opened role (Put frame) history e = cases (frame.channel == 0)
  where
    cases : (here : Bool)
        → awaits_opening role
        (phase_from role false
        (cond here (PutHere (reading frame) frame ∷ []) (cond (here && is_call kinds.ConnectionClose (reading frame))
        (LeftHere ∷ []) []) ++ entries_on 0 history)) ≡ false
    cases true =
        ap (awaits_opening role) (phase-put role (reading frame) frame (entries_on 0 history))
        ∙ phase-put-opened role (reading frame) frame (phase_from role false (entries_on 0 history)) e
    cases false = e

pub puts-opened : (role : Role) (frames : List Frame) (history : History) → IsOpened role history
    → IsOpened role (then_put frames history)
puts-opened role [] history e = e
puts-opened role (frame ∷ later) history e =
    puts-opened role later (Put frame ∷ history) (entry-opened role (Put frame) history e)

pub taken-opened : (role : Role) (frames : List Frame) (frame : Frame) (history : History) → IsOpened role history
    → IsOpened role (then_put frames (Took frame ∷ history))
taken-opened role frames frame history e =
    puts-opened role frames (Took frame ∷ history) (entry-opened role (Took frame) history e)

-- An end that takes octets, and does not await the protocol header, takes frames.

client-takes : (closed put over tuned answered started : Bool) → let step : HandshakeStep =
    cond tuned AwaitsOpenOk (cond answered AwaitsTune (cond started HoldsStart AwaitsStart)) in
    refusal_in (cond closed Closed (cond put Closing (cond over Running (Handshake step)))) ≡ None
    → takes_frames (cond closed Closed (cond put Closing (cond over Running (Handshake step)))) ≡ true
client-takes true put over tuned answered started e = absurd cc
client-takes false true over tuned answered started e = refl
client-takes false false true tuned answered started e = refl
client-takes false false false true answered started e = refl
client-takes false false false false true started e = refl
client-takes false false false false false true e = refl
client-takes false false false false false false e = refl

server-takes : (phase : Phase) → refusal_in phase ≡ None → awaits_opening Server phase ≡ false
    → takes_frames phase ≡ true
server-takes (Handshake AwaitsProtocolHeader) r e = absurd (true≢false e)
server-takes (Handshake AwaitsStart) r e = refl
server-takes (Handshake AwaitsStartOk) r e = refl
server-takes (Handshake AwaitsTune) r e = refl
server-takes (Handshake AwaitsTuneOk) r e = refl
server-takes (Handshake AwaitsOpen) r e = refl
server-takes (Handshake AwaitsOpenOk) r e = refl
server-takes (Handshake HoldsStart) r e = refl
server-takes (Handshake HoldsLogin) r e = refl
server-takes (Handshake HoldsOpen) r e = refl
server-takes Running r e = refl
server-takes Closing r e = refl
server-takes Closed r e = absurd cc
server-takes Failed r e = absurd cc

pub takes-frames : (role : Role) (entries : List ChannelEntry) (phase : Phase)
    → phase_from role false entries ≡ phase → refusal_in phase ≡ None → awaits_opening role phase ≡ false
    → takes_frames phase ≡ true
takes-frames Client entries phase p r e =
    subst (λ phase. takes_frames phase ≡ true) p
    (client-takes (is_closed entries) (has_put kinds.ConnectionClose entries) (is_negotiated Client entries)
    (has_taken kinds.ConnectionTune entries) (has_put kinds.ConnectionStartOk entries)
    (has_taken kinds.ConnectionStart entries) (ap refusal_in p ∙ r))
takes-frames Server entries phase p r e = server-takes phase r e

-- an end whose phase is that of its history has not failed
pub not-failed : (role : Role) (entries : List ChannelEntry) (phase : Phase) → phase_from role false entries ≡ phase
    → phase ≡ Failed → ⊥
not-failed role entries phase p f =
    cases (is_closed entries) (has_put kinds.ConnectionClose entries) (is_negotiated role entries) _ (p ∙ f)
  where
    cases : (closed put over : Bool) (step : HandshakeStep)
        → cond closed Closed (cond put Closing (cond over Running (Handshake step))) ≡ Failed → ⊥
    cases true put over step e = cc
    cases false true over step e = cc
    cases false false true step e = cc
    cases false false false step e = cc

-- Octets.

pub back-octets : (prefix back : List ℕ) → All IsOctet (prefix ++ back) → All IsOctet back
back-octets prefix back all =
    subst (All IsOctet) (drop_at prefix back (length prefix) refl)
    (All-drop IsOctet (length prefix) (prefix ++ back) all)

pub payload-octets : (frame : Frame) → Fits frame → All IsOctet (octets frame) → All IsOctet frame.payload
payload-octets frame fits all =
    subst (All IsOctet) (payload-at_start frame [])
    (All-take IsOctet (length frame.payload) _
    (All-drop IsOctet 7 _ (subst (All IsOctet) (sym (append-nil (octets frame))) all)))

-- octets that agree with those wanted up to the last
pub compared-last : (prefix : List ℕ) (octet wanted : ℕ) (later : List ℕ)
    → compared (prefix ++ octet ∷ []) (prefix ++ wanted ∷ later)
    ≡ cond (octet == wanted) (compared [] later) Differs
compared-last [] octet wanted later = refl
compared-last (x ∷ prefix) octet wanted later =
    let same : (x == x) ≡ true = eq-eqb x x refl in
    simp same (compared-last prefix octet wanted later)
