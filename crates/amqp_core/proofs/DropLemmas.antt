-- A whole frame that is dropped stands at the start of a piece: it is the frame that the splitter gives.
use Rattle.std.proofs.Common.{◌≡◌, ◌≢◌, ◌<◌, ◌≤◌, IfOk, false, ℕ, List, [], ◌++◌, take, drop, Result, Ok, Err, sym, ap, ◌∙◌, subst}
use Rattle.std.proofs.lemmas.List.{take-append-drop}
use Rattle.amqp_frame.specs.Frame.{frame_length, octets}
use Rattle.amqp_frame.specs.Laws.{OneFrameAtStart}
use Rattle.amqp_frame.specs.Splitter.{Completes, HasFrameAtStart}
use Rattle.amqp_frame.specs.Stream.{Stream}
use Rattle.amqp_model.specs.End.Channels.{End, Phase, Closed, Failed}
use Rattle.amqp_model.specs.Stream.Endpoint as model
use Rattle.amqp_model.specs.Stream.Endpoint.{Feeding}
use Rattle.amqp_model.specs.Wire.Frame.{Frame}
use Rattle.amqp_model.specs.Wire.Notes.{Role, Client, Server}
use Rattle.amqp_model.specs.Output.Outputs.{Output}
use Rattle.amqp_model.specs.Stream.Pieces.{reads_frames}
use Rattle.amqp_core.specs.Connection.Dropping.{DropsInPlace, IsDropped}
use Rattle.amqp_core.specs.End.EndpointView.{FieldsFit, unfinished_of}
use Rattle.amqp_core.specs.End.Feeding.{IsFed, Seen}
use Rattle.amqp_core.specs.declared.faults.CoreFault.{CoreFault}
use Rattle.amqp_core.proofs.FeedLemmas.{reads, unfinished_is}

-- nothing is pending, and the frame stands at the start
pub none_pending : (role : Role) (end : End) (heard : ℕ) (stream : Stream) (output : Output) (piece : List ℕ) → FieldsFit role end heard stream → DropsInPlace role (record { end = end; unfinished = unfinished_of heard stream.pending; output = output }) piece → stream.pending ≡ []
none_pending role end heard stream output piece fit drops = sym (unfinished_is heard stream.pending (fit.opened (reads role end.phase drops.reads).opened)) ∙ drops.none

pub frame_there : (role : Role) (end : End) (heard : ℕ) (stream : Stream) (output : Output) (piece : List ℕ) → FieldsFit role end heard stream → DropsInPlace role (record { end = end; unfinished = unfinished_of heard stream.pending; output = output }) piece → HasFrameAtStart stream.limit piece
frame_there role end heard stream output piece fit drops = record {
  f = drops.frame;
  tail = drops.later;
  fits = drops.fits;
  within = subst (λ limit. frame_length drops.frame ≤ limit) (sym (fit.ready (reads role end.phase drops.reads).octets).limit_is) drops.within;
  at_start = drops.at_start;
}

-- the frame that is given is that frame
pub given_dropped : (role : Role) (endpoint : model.Endpoint) (stream : Stream) (piece : List ℕ) (taken : ℕ) (frame : Frame) → OneFrameAtStart → DropsInPlace role endpoint piece → stream.pending ≡ [] → Completes stream (take taken piece) frame → IsDropped endpoint.end.phase (endpoint.end.channels frame.channel) frame.channel frame.kind frame.payload
given_dropped role endpoint stream piece taken frame law drops none completes =
    let given : take taken piece ≡ octets frame = sym (ap (λ (xs : List ℕ). xs ++ take taken piece) none) ∙ completes.is_frame in
    let same : octets drops.frame ++ drops.later ≡ octets frame ++ drop taken piece = sym drops.at_start ∙ (sym (take-append-drop taken piece) ∙ ap (λ (xs : List ℕ). xs ++ drop taken piece) given) in
    subst (λ (f : Frame). IsDropped endpoint.end.phase (endpoint.end.channels f.channel) f.channel f.kind f.payload) (law drops.frame frame drops.later (drop taken piece) drops.fits completes.fits same).0 drops.dropped

-- an end that is closed, has failed or awaits the protocol header reads no frames
pub closed_reads : (role : Role) (phase : Phase) → phase ≡ Closed → reads_frames role phase ≡ false
closed_reads Client phase e = ap (reads_frames Client) e
closed_reads Server phase e = ap (reads_frames Server) e

pub failed_reads : (role : Role) (phase : Phase) → phase ≡ Failed → reads_frames role phase ≡ false
failed_reads Client phase e = ap (reads_frames Client) e
failed_reads Server phase e = ap (reads_frames Server) e

-- what is answered of a piece, by what is taken of it
pub takes_within : (result : Result Seen CoreFault) (old : model.Endpoint) (feeding : Feeding) (new : model.Endpoint) (most : ℕ) → IsFed result old feeding new → feeding.taken ≤ most → IfOk result (λ taken. taken.octets ≤ most)
takes_within (Ok taken) old feeding new most fed within = subst (λ n. n ≤ most) (sym fed.taken) within
takes_within (Err fault) old feeding new most fed within = tt

pub takes_some : (result : Result Seen CoreFault) (old : model.Endpoint) (feeding : Feeding) (new : model.Endpoint) (piece : List ℕ) → IsFed result old feeding new → (piece ≢ [] → 0 < feeding.taken) → IfOk result (λ taken. piece ≢ [] → 0 < taken.octets)
takes_some (Ok taken) old feeding new piece fed some = λ there. subst (λ n. 0 < n) (sym fed.taken) (some there)
takes_some (Err fault) old feeding new piece fed some = tt
