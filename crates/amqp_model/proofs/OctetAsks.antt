-- What becomes of an end that stands for a history, by an ask and by a write; and a new end.
use Rattle.std.proofs.Common.{◌≡◌, true, false, not, ◌==◌, ℕ, zero, suc, List, [], ◌∷◌, ◌++◌, map}
use Rattle.std.proofs.Common.{Option, Some, None, refl, sym, ap, ◌∙◌, subst}
use Rattle.std.proofs.lemmas.Bool.{true≢false, eq-eqb}
use Rattle.std.proofs.lemmas.List.Elements.{All-nil}
use Rattle.amqp_method.specs.declared.kinds.Kind.TheVariants as kinds
use Rattle.amqp_frame.specs.Splitting.{stream, AllFit, IsRest}
use Rattle.amqp_model.specs.Wire.Frame.{Frame}
use Rattle.amqp_model.specs.Wire.Notes.{Role, Client, Server}
use Rattle.amqp_model.specs.Wire.Methods.{Method, ReadsBack, same_kind}
use Rattle.amqp_model.specs.Wire.Contents.{Payload}
use Rattle.amqp_model.specs.Wire.Readings.{Calls, reading}
use Rattle.amqp_model.specs.History.Histories.{History, PutHere}
use Rattle.amqp_model.specs.End.Channels.{Phase, Handshake, Running, Closing, Closed, Failed, Agreed, End}
use Rattle.amqp_model.specs.History.Negotiation.{Config, PROTOCOL_HEADER, frame_limit}
use Rattle.amqp_model.specs.End.Closes.{method_frame, without_arguments, flow_as, close_as, close_for}
use Rattle.amqp_model.specs.End.Asks.{Ask, Refusal, is_running, frame_max, lowest_free, opens_on, method_asked}
use Rattle.amqp_model.specs.End.Asks.{payload_frame, message_payloads, refusal, frames_asked, Puts}
use Rattle.amqp_model.specs.Output.Outputs.{after_puts, after_writing}
use Rattle.amqp_model.specs.Output.Departures.{IsOutputOf}
use Rattle.amqp_model.specs.End.LawfulHistories.{then_put, begun, goes}
use Rattle.amqp_model.proofs.Lawfulness.{end-steps}
use Rattle.amqp_model.specs.End.Machine.{agreed_after, end_after, end_after_put}
use Rattle.amqp_model.specs.Stream.Octets.{frames_put, opening_read, opening_written, has_opened, FedAs}
use Rattle.amqp_model.specs.Stream.Endpoint.{Endpoint, awaits_opening, after_answer}
use Rattle.amqp_model.specs.Laws.OctetLaws.{IsOctet, EndpointStandsFor, NewStands, AcceptedFollows, RefusedStays}
use Rattle.amqp_model.specs.Laws.OctetLaws.{WroteFollows, FailedWrites}
use Rattle.amqp_model.proofs.Acting.{reads-back}
use Rattle.amqp_model.proofs.Asking.{Accepted, accepted, accepted-none, not-when, first-false, frame-channel}
use Rattle.amqp_model.proofs.AskSteps.{asks-follow}
use Rattle.amqp_model.proofs.Controlling.{OneAtZero, one, at_beat, at_method, at_close}
use Rattle.amqp_model.proofs.EndSteps.{new-end-stands}
use Rattle.amqp_model.proofs.Writing.{writes}
use Rattle.amqp_model.proofs.Departing.{output-begins, output-puts, output-write}
use Rattle.amqp_model.proofs.OctetHistories.{frames-put, frames-taken, stays-opened, IsOpened, puts-opened}
use Rattle.amqp_model.proofs.OctetSteps.{no-octets, is-opened, ReadsFrames, reads, reads-frames}

-- No ask changes what was agreed.

-- a frame put leaves what was agreed
abbrev pub Keeps : (role : Role) → Config role → Frame → Type 0
Keeps role config frame =
    (end : End) → (end_after role config frame.channel (PutHere (reading frame) frame) end).agreed ≡ end.agreed

abbrev pub AllKeep : (role : Role) → Config role → List Frame → Type 0
AllKeep role config [] = Unit {0}
AllKeep role config (frame ∷ later) = Keeps role config frame × AllKeep role config later

pub all-keep : (role : Role) (config : Config role) (frames : List Frame) (end : End) → AllKeep role config frames
    → (end_after_put role config frames end).agreed ≡ end.agreed
all-keep role config [] end keep = refl
all-keep role config (frame ∷ later) end keep =
    all-keep role config later (end_after role config frame.channel (PutHere (reading frame) frame) end) keep.1
    ∙ keep.0 end

agreed-quiet : (role : Role) (config : Config role) (method : Method) (frame : Frame) (phase : Phase)
    (agreed : Option Agreed) → same_kind method.kind kinds.ConnectionTuneOk ≡ false
    → agreed_after role config phase (PutHere (Calls method) frame) agreed ≡ agreed
agreed-quiet Client config method frame phase agreed quiet = simp quiet
agreed-quiet Server config method frame phase agreed quiet = refl

method-keeps : (role : Role) (config : Config role) (c : ℕ) (method : Method) → ReadsBack method
    → same_kind method.kind kinds.ConnectionTuneOk ≡ false → Keeps role config (method_frame c method)
method-keeps role config zero method back quiet end =
    ap (λ r. agreed_after role config end.phase (PutHere r (method_frame 0 method)) end.agreed)
    (reads-back 0 method back) ∙ agreed-quiet role config method (method_frame 0 method) end.phase end.agreed quiet
method-keeps role config (suc m) method back quiet end = refl

above-keeps : (role : Role) (config : Config role) (m : ℕ) (frame : Frame) → frame.channel ≡ suc m
    → Keeps role config frame
above-keeps role config m frame e end =
    ap (λ c. (end_after role config c (PutHere (reading frame) frame) end).agreed) e

parts-keep : (role : Role) (config : Config role) (c m : ℕ) → c ≡ suc m → (payloads : List Payload)
    → AllKeep role config (map (payload_frame c) payloads)
parts-keep role config c m e [] = tt
parts-keep role config c m e (payload ∷ later) = (
  above-keeps role config m (payload_frame c payload) (frame-channel c payload
      ∙ e),
  parts-keep role config c m e later,
)

open-keeps : (role : Role) (config : Config role) (free : Option ℕ)
    → ReadsBack (without_arguments kinds.ChannelOpen) → AllKeep role config (opens_on free)
open-keeps role config None back = tt
open-keeps role config (Some k) back = (method-keeps role config k (without_arguments kinds.ChannelOpen) back refl, tt)

pub ask-keeps : (role : Role) (config : Config role) (end : End) (ask : Ask) → ReadsBack (method_asked ask)
    → Accepted role end ask → AllKeep role config (frames_asked end ask)
ask-keeps role config end Ask.Open back a = open-keeps role config (lowest_free end) back
ask-keeps role config end (Ask.Send c message) back a = by-channel c refl
  where
    by-channel : (d : ℕ) → c ≡ d
        → AllKeep role config (map (payload_frame c) (message_payloads (frame_max end.agreed) message))
    by-channel zero e =
        absurd (let bad : (c == 0) ≡ false = first-false (c == 0) _ (not-when _ Refusal.BadChannel a.numbered) in
        true≢false (sym (eq-eqb c 0 e) ∙ bad))
    by-channel (suc m) e = parts-keep role config c m e (message_payloads (frame_max end.agreed) message)
ask-keeps role config end (Ask.Flow c active) back a =
    (method-keeps role config c (flow_as kinds.ChannelFlow active) back refl, tt)
ask-keeps role config end (Ask.CloseChannel c code text cause) back a =
    (method-keeps role config c (close_for kinds.ChannelClose code text cause) back refl, tt)
ask-keeps role config end (Ask.Close code text cause) back a =
    (method-keeps role config 0 (close_for kinds.ConnectionClose code text cause) back refl, tt)
ask-keeps role config end (Ask.Blocked reason) back a =
    (method-keeps role config 0 (method_asked (Ask.Blocked reason)) back refl, tt)
ask-keeps role config end Ask.Unblocked back a = (method-keeps role config 0 (method_asked Ask.Unblocked) back refl, tt)

-- nor does what else an application does with the connection
pub control-keeps : (role : Role) (config : Config role) (frames : List Frame) → OneAtZero frames
    → AllKeep role config frames
control-keeps Client config frames (one frame at_beat) = (λ end. refl, tt)
control-keeps Server config frames (one frame at_beat) = (λ end. refl, tt)
control-keeps role config frames (one frame (at_method method back a b quiet c)) =
    (method-keeps role config 0 method back quiet, tt)
control-keeps role config frames (one frame (at_close code text back fits)) =
    (method-keeps role config 0 (close_as kinds.ConnectionClose code text) back refl, tt)

-- An end that accepts an ask is Running, and so awaits no protocol header.
pub running-opened : (role : Role) (phase : Phase) → not (is_running phase) ≡ false
    → awaits_opening role phase ≡ false
running-opened Client phase e = refl
running-opened Server Running e = refl
running-opened Server (Handshake step) e = absurd (true≢false e)
running-opened Server Closing e = absurd (true≢false e)
running-opened Server Closed e = absurd (true≢false e)
running-opened Server Failed e = absurd (true≢false e)

pub accepted-follows : (role : Role) (config : Config role) (endpoint : Endpoint) (history : History)
    (fed written : List ℕ) (ask : Ask) (frames : List Frame)
    → AcceptedFollows role config endpoint history fed written ask frames
accepted-follows role config endpoint history fed written ask frames s fits made e =
    subst (λ answer. EndpointStandsFor role config (after_answer role config endpoint answer) (then_put frames history)
    fed written) (sym e)
    (by-reading (reads-frames role (frame_limit endpoint.end.agreed) history fed endpoint.unfinished opened s.read))
  where
    parts : (refusal role endpoint.end ask ≡ None) × (frames_asked endpoint.end ask ≡ frames)
    parts = accepted-none (refusal role endpoint.end ask) (frames_asked endpoint.end ask) frames e

    taken : Accepted role endpoint.end ask
    taken = accepted role endpoint.end ask parts.0

    awaits_none : awaits_opening role endpoint.end.phase ≡ false
    awaits_none = running-opened role endpoint.end.phase (not-when _ Refusal.NotRunning taken.runs)

    opened : has_opened role history ≡ true
    opened = is-opened _ _ s.opens awaits_none

    agreed : (end_after_put role config frames endpoint.end).agreed ≡ endpoint.end.agreed
    agreed =
        all-keep role config frames endpoint.end
        (subst (AllKeep role config) parts.1 (ask-keeps role config endpoint.end ask fits.reads_back.method taken))

    by-reading : ReadsFrames role (frame_limit endpoint.end.agreed) history fed endpoint.unfinished
        → EndpointStandsFor role config (after_answer role config endpoint (Puts frames))
        (then_put frames history) fed written
    by-reading (reads opened whole fit rest) =
        let stands = asks-follow role config endpoint.end history ask frames s.stands fits.reads_back.method made e in
        let opens = stays-opened role frames history opened in
        let still : IsOpened role (then_put frames history) =
        puts-opened role frames history (ap (awaits_opening role) s.stands.phase ∙ awaits_none) in
        let same = frames-taken frames history in
        record {
          lawful = goes s.lawful
              ((end-steps role config endpoint.end history s.stands).asks ask frames made fits.reads_back e);
          stands = stands;
          opens = ap (awaits_opening role) (sym stands.phase) ∙ (still ∙ ap not (sym opens));
          are_octets = s.are_octets;
          read = FedAs.in_frames opens (whole ∙ ap (λ l. opening_read role ++ (stream l ++ endpoint.unfinished))
              (sym same)) (subst AllFit (sym same) fit)
              (subst (λ agreed. IsRest (frame_limit agreed) endpoint.unfinished) (sym agreed) rest);
          out = subst (λ put. IsOutputOf (opening_written role) put written (after_puts frames endpoint.output))
              (sym (frames-put frames history))
              (output-puts (opening_written role) frames (frames_put history) written endpoint.output s.out fits.fit);
        }

pub refused-stays : RefusedStays
refused-stays role config endpoint ask refusal e = ap (after_answer role config endpoint) e

pub wrote-follows : (role : Role) (config : Config role) (endpoint : Endpoint) (history : History)
    (fed written : List ℕ) (n : ℕ) → WroteFollows role config endpoint history fed written n
wrote-follows role config endpoint history fed written n s within = record {
  lawful = s.lawful;
  stands = s.stands;
  opens = s.opens;
  are_octets = s.are_octets;
  read = s.read;
  out = output-write (opening_written role) (frames_put history) written n endpoint.output
      (after_writing n endpoint.output) s.out (writes n endpoint.output within);
}

pub failed-writes : (role : Role) (config : Config role) (limit : ℕ) (opening : List ℕ) (history : History)
    (fed written : List ℕ) (endpoint : Endpoint) (n : ℕ)
    → FailedWrites role config limit opening history fed written endpoint n
failed-writes role config limit opening history fed written endpoint n f within =
    record {
      lawful = f.lawful;
      stands = f.stands;
      read = f.read;
      out = output-write opening (frames_put history) written n endpoint.output (after_writing n endpoint.output) f.out
          (writes n endpoint.output within);
    }

pub new-stands : (role : Role) (config : Config role) → NewStands role config
new-stands Client config = record {
  lawful = begun;
  stands = new-end-stands Client config;
  opens = refl;
  are_octets = All-nil IsOctet;
  read = FedAs.in_frames refl refl tt (no-octets (frame_limit None));
  out = output-begins PROTOCOL_HEADER;
}
new-stands Server config = record {
  lawful = begun;
  stands = new-end-stands Server config;
  opens = refl;
  are_octets = All-nil IsOctet;
  read = FedAs.in_opening PROTOCOL_HEADER (λ none. absurd cc) refl refl refl;
  out = output-begins [];
}
