-- What becomes of an end that stands for a history, by an octet, a piece, an ask and a write.
use Rattle.std.proofs.Common.{◌≡◌, ◌≢◌, ◌≤◌, inl, Bool, true, false, cond, not, ◌==◌, ℕ, suc}
use Rattle.std.proofs.Common.{List, [], ◌∷◌, ◌++◌, All, map, length, take, Option, Some, None, refl, sym, ap}
use Rattle.std.proofs.Common.{◌∙◌, subst, arith, append_assoc, append-nil}
use Rattle.std.proofs.lemmas.Bool.{false≢true, true≢false, eqb-false, eqb-true}
use Rattle.std.proofs.lemmas.List.Elements.{All-nil, All-head, All-tail, All-push}
use Rattle.amqp_method.specs.declared.kinds.Kind.TheVariants as kinds
use Rattle.amqp_frame.specs.declared.faults.FrameFaultKind.{FrameFaultKind}
use Rattle.amqp_frame.specs.declared.faults.FrameFaultKind.TheVariants as frame_faults
use Rattle.amqp_frame.specs.Frame.{octets, Fits, frame_length}
use Rattle.amqp_frame.specs.Splitting.{stream, AllFit, IsRest}
use Rattle.amqp_frame.proofs.SplittingLemmas.{begun_is_rest}
use Rattle.amqp_model.specs.Wire.Frame.{Frame}
use Rattle.amqp_model.specs.Wire.Notes.{Role, Client, Server}
use Rattle.amqp_model.specs.Wire.Methods.{same_kind, plain_method}
use Rattle.amqp_model.specs.Wire.Readings.{reading}
use Rattle.amqp_model.specs.History.Histories.{Put, Took, History, PutHere, entries_on}
use Rattle.amqp_model.specs.End.Channels.{Phase, Handshake, Running, Closing, Closed, Failed, AwaitsProtocolHeader}
use Rattle.amqp_model.specs.End.Channels.{AwaitsStartOk, AwaitsTuneOk, End}
use Rattle.amqp_model.specs.History.Negotiation.{Config, Hello, OfServer, PROTOCOL_HEADER, frame_limit, start}
use Rattle.amqp_model.specs.End.Closes.{FrameError, Owed, AllReadBack, connection_close, frame_of, method_frame}
use Rattle.amqp_model.specs.End.Events.{Fault, Peer, AlreadyClosed, FrameVerdict, Proceeds, RefusesContent, Faults}
use Rattle.amqp_model.specs.End.Events.{Quiet}
use Rattle.amqp_model.specs.End.FrameVerdict.{methods_put, event_told}
use Rattle.amqp_model.specs.Output.Outputs.{Output, after_puts}
use Rattle.amqp_model.specs.Output.Departures.{IsOutputOf}
use Rattle.amqp_model.specs.End.EndVerdict.{facts_at, end_verdict, end_puts, goes_on, takes_frames, takes_octets}
use Rattle.amqp_model.specs.End.EndVerdict.{CanTake}
use Rattle.amqp_model.specs.End.ReadingBack.{WritesReadBack}
use Rattle.amqp_model.specs.End.LawfulHistories.{then_put, then_taken, Goes, goes}
use Rattle.amqp_model.specs.End.LawfulHistories as lawful
use Rattle.amqp_model.specs.End.Fitting.{ConfigWrites}
use Rattle.amqp_model.specs.Laws.FittingLaws.{MethodReadsBack}
use Rattle.amqp_model.specs.End.Machine.{end_after, end_after_owed, end_after_taken, failed_by, StandsFor}
use Rattle.amqp_model.specs.Stream.Octets.{frames_taken, frames_put, opening_read, opening_written, has_opened, FedAs}
use Rattle.amqp_model.specs.Stream.Octets.{FailedAt}
use Rattle.amqp_model.specs.Stream.Endpoint.{Judgement, Begun, Whole, Wrong, judged, Prefix, Same, Differs, compared}
use Rattle.amqp_model.specs.Stream.Endpoint.{Endpoint, Feeding, Outcome, Unfinished, Finished, Found, output_of}
use Rattle.amqp_model.specs.Stream.Endpoint.{refusal_in, unless_over, holds_octets, comes_to, awaits_opening, owed_at_start}
use Rattle.amqp_model.specs.Stream.Endpoint.{after_opening, outcome_of, fault_told, owed_at_fault, after_judged}
use Rattle.amqp_model.specs.Stream.Endpoint.{after_octets, after_octet, fed_after, after_feed}
use Rattle.amqp_model.specs.Laws.OctetLaws.{IsOctet, IsWhole, TellsLast, IsJudgedWell, EndpointStandsFor, HasFailed}
use Rattle.amqp_model.specs.Laws.OctetLaws.{Follows, waits, greets, takes, faults, tells, differs, refuses}
use Rattle.amqp_model.specs.Laws.OctetLaws.{OctetFollows, FeedFollows}
use Rattle.amqp_model.proofs.Rows.{same-queues-all}
use Rattle.amqp_model.proofs.Closes.{prefix-none}
use Rattle.amqp_model.proofs.Writing.{stream-append}
use Rattle.amqp_model.proofs.Departing.{output-begins, output-puts}
use Rattle.amqp_model.proofs.Acting.{reads-back}
use Rattle.amqp_model.proofs.EndSteps.{end-follows}
use Rattle.amqp_model.proofs.FrameSteps.{frame-follows}
use Rattle.amqp_model.proofs.Failing.{frame-fails, too-large-fails, any-fails}
use Rattle.amqp_model.proofs.Lawfulness.{end-steps}
use Rattle.amqp_model.proofs.ReadBackOwed.{owed-read, all-reads-back}
use Rattle.amqp_model.proofs.ReadBackSizes.{start-fits_frame, owed-fit}
use Rattle.amqp_model.proofs.OctetJudging.{judged-well}
use Rattle.amqp_model.proofs.OctetCuts.{stays-closed}
use Rattle.amqp_model.proofs.OctetHistories.{frames-put, frames-taken, stays-opened, taken-opens, all-fit-push}
use Rattle.amqp_model.proofs.OctetHistories.{IsOpened, taken-opened, takes-frames, not-failed, back-octets}
use Rattle.amqp_model.proofs.OctetHistories.{payload-octets, compared-last}

-- What an end puts of itself.

-- what is written of these methods reads as they are, and their frames fit their fields
record AreWritable (owed : List Owed) : Type 0 where
  read_back : AllReadBack owed
  fit : AllFit (map frame_of owed)

-- a frame that octets encode, no longer than the limit
record CanCome (limit : ℕ) (frame : Frame) : Type 0 where
  fits : Fits frame
  within : frame_length frame ≤ limit
  payload : All IsOctet frame.payload

-- a server's start is writable, and so is what any frame that can come next makes the end put
record PutsFit (role : Role) (config : Config role) (end : End) : Type 0 where
  back : WritesReadBack role config
  greets : AreWritable (owed_at_start role config)
  owes : (frame : Frame) → CanCome (frame_limit end.agreed) frame
      → AreWritable (methods_put (facts_at config end frame.channel) (end_verdict config end frame))

greeting-writable : MethodReadsBack → (role : Role) (config : Config role) → ConfigWrites config
    → AreWritable (owed_at_start role config)
greeting-writable reads Client config writes = record { read_back = tt; fit = tt }
greeting-writable reads Server config writes =
    record { read_back = (writes.greeting_back, tt); fit = (start-fits_frame config writes, tt) }

puts-fit : MethodReadsBack → (role : Role) (config : Config role) (end : End) → ConfigWrites config
    → PutsFit role config end
puts-fit reads role config end writes = record {
  back = all-reads-back reads role config writes;
  greets = greeting-writable reads role config writes;
  owes =
      λ frame can. record {
        read_back = owed-read reads role (facts_at config end frame.channel) (reading frame) writes;
        fit = owed-fit role (facts_at config end frame.channel) (reading frame) writes can.fits.channel;
      };
}

-- a close at a frame above the limit fits a frame
close-size : length (plain_method (connection_close FrameError).method) ≡ 22
unfolding plain_method
close-size = refl

close-fits : Fits (frame_of (connection_close FrameError))
close-fits = let size = close-size in record { channel = omega arith; size = omega arith }

fault-fits : {role : Role} (config : Config role) (end : End) (kind : FrameFaultKind)
    → AllFit (map frame_of (owed_at_fault config end kind))
fault-fits {role} config end frame_faults.TooLarge = by-phase end.phase
  where
    by-phase : (phase : Phase)
        → AllFit (map frame_of
        (methods_put {role = role} (record {
          config = config;
          phase = phase;
          agreed = end.agreed;
          number = 0;
          channel = end.channels 0;
        }) (Faults (Peer FrameError))))
    by-phase Closing = tt
    by-phase (Handshake step) = (close-fits, tt)
    by-phase Running = (close-fits, tt)
    by-phase Closed = (close-fits, tt)
    by-phase Failed = (close-fits, tt)
fault-fits config end frame_faults.UnknownType = tt
fault-fits config end frame_faults.BadEnd = tt
fault-fits config end frame_faults.OutOfMemory = tt
fault-fits config end frame_faults.Failed = tt

-- no octets are a rest, under any limit
pub no-octets : (limit : ℕ) → IsRest limit []
no-octets limit =
    begun_is_rest limit [] (record {
      typed = λ some. absurd (omega arith);
      sized = λ seven. absurd (omega arith);
      short = λ seven. absurd (omega arith);
    })

-- An end that began with nothing to write and has put nothing has written nothing.
no-frames : (frames : List Frame) → All (λ frame. ⊥) frames → frames ≡ []
no-frames [] none = refl
no-frames (frame ∷ frames) none = absurd (All-head (λ frame. ⊥) frame frames none)

nothing-written : (written : List ℕ) (o : Output) → IsOutputOf [] [] written o → written ≡ []
nothing-written written o out =
    let none : out.begun ++ o.row ≡ [] =
    no-frames (out.begun ++ o.row) (same-queues-all (λ frame. ⊥) (out.begun ++ o.row) [] out.order.queues
    (All-nil (λ frame. ⊥))) in
    prefix-none written o.ahead (out.octets_are ∙ ap stream (prefix-none out.begun o.row none))

-- The protocol header at a server.

start-kind : (config : Config Server) → (start config).kind ≡ kinds.ConnectionStart
start-kind config = go config.hello
  where
    go : (hello : Hello Server) → (start (record config { hello = hello })).kind ≡ kinds.ConnectionStart
    go (OfServer properties mechanisms locales) = refl

-- a server that has read all of it, and puts start
module _ (config : Config Server) (old : Endpoint) (fed written : List ℕ) (octet : ℕ)
    (s : EndpointStandsFor Server config old [] fed written) (small : IsOctet octet)
    (fits : PutsFit Server config old.end) (whole : PROTOCOL_HEADER ≡ fed ++ octet ∷ []) where
  greeted-stands : StandsFor Server config false (end_after_owed Server config (owed_at_start Server config) old.end)
      (Put (method_frame 0 (start config)) ∷ [])
  greeted-stands =
      subst (λ r.
      StandsFor Server config false (end_after Server config 0 (PutHere r (method_frame 0 (start config))) old.end)
      (Put (method_frame 0 (start config)) ∷ [])) (reads-back 0 (start config) fits.greets.read_back.0)
      (end-follows Server config old.end [] (Put (method_frame 0 (start config))) s.stands (inl refl))

  greeted-opened : awaits_opening Server (end_after_owed Server config (owed_at_start Server config) old.end).phase ≡ false
  greeted-opened =
      subst (λ phase.
      awaits_opening Server (end_after_owed Server config (owed_at_start Server config)
      (record { phase = phase; agreed = old.end.agreed; channels = old.end.channels })).phase ≡ false) s.stands.phase
      (subst (λ kind.
      awaits_opening Server (cond (same_kind kind kinds.ConnectionClose) Closing
      (cond (same_kind kind kinds.ConnectionOpenOk) Running
      (Handshake (cond (same_kind kind kinds.ConnectionTune) AwaitsTuneOk
      (cond (same_kind kind kinds.ConnectionStart) AwaitsStartOk AwaitsProtocolHeader))))) ≡ false)
      (sym (start-kind config)) refl)

  greeted : EndpointStandsFor Server config
      (comes_to old (end_after_owed Server config (owed_at_start Server config) old.end)
      (map frame_of (owed_at_start Server config)) (Finished (Some Quiet))).endpoint
      (Put (method_frame 0 (start config)) ∷ []) (fed ++ octet ∷ []) written
  greeted = record {
    lawful = goes s.lawful lawful.greets;
    stands = greeted-stands;
    opens = greeted-opened;
    are_octets = All-push IsOctet fed octet s.are_octets small;
    read = FedAs.in_frames refl (sym whole) tt
        (no-octets (frame_limit (end_after_owed Server config (owed_at_start Server config) old.end).agreed));
    out = output-puts [] (method_frame 0 (start config) ∷ []) [] written old.output s.out fits.greets.fit;
  }

-- What comes of an octet.

abbrev is_unfinished : Outcome → Bool
is_unfinished Unfinished = true
is_unfinished outcome = false

-- nothing comes of it, or something does, whatever octets stand after it
data Steps (role : Role) (config : Config role) (old : Endpoint) (history : History) (fed written : List ℕ)
    (octet : ℕ) : Feeding → Type 0 where
  kept : EndpointStandsFor role config (holds_octets old (old.unfinished ++ octet ∷ [])).endpoint history
      (fed ++ octet ∷ []) written
      → Steps role config old history fed written octet (holds_octets old (old.unfinished ++ octet ∷ []))
  come : (new : Feeding) → is_unfinished new.outcome ≡ false
      → ((later : List ℕ) → Follows role config old history fed written (octet ∷ later) new)
      → Steps role config old history fed written octet new

-- the end awaits no protocol header: it has read what stands before the frames
pub data ReadsFrames (role : Role) (limit : ℕ) (history : History) (fed unfinished : List ℕ) : Type 0 where
  reads : has_opened role history ≡ true
      → fed ≡ opening_read role ++ (stream (frames_taken history) ++ unfinished) → AllFit (frames_taken history)
      → IsRest limit unfinished → ReadsFrames role limit history fed unfinished

-- or it is still to read some of that
data ReadsOpening (role : Role) (history : History) (fed unfinished : List ℕ) : Type 0 where
  awaits : (wanted : ℕ) (later : List ℕ) → opening_read role ≡ fed ++ wanted ∷ later → history ≡ []
      → unfinished ≡ fed → ReadsOpening role history fed unfinished

not-opened : (a b : Bool) → a ≡ not b → a ≡ true → b ≡ false
not-opened a true e t = absurd (false≢true (sym e ∙ t))
not-opened a false e t = refl

pub is-opened : (a b : Bool) → a ≡ not b → a ≡ false → b ≡ true
is-opened a true e f = refl
is-opened a false e f = absurd (true≢false (sym e ∙ f))

unopened-none : (role : Role) (fed missing : List ℕ) (history : History) → has_opened role history ≡ true
    → history ≡ [] → missing ≢ [] → opening_read role ≡ fed ++ missing → ⊥
unopened-none Client [] missing history o h some e = some (sym e)
unopened-none Client (x ∷ fed) missing history o h some e = cc
unopened-none Server fed missing history o h some e = false≢true (ap (has_opened Server) (sym h) ∙ o)

pub reads-frames : (role : Role) (limit : ℕ) (history : History) (fed unfinished : List ℕ)
    → has_opened role history ≡ true → FedAs role limit history fed unfinished
    → ReadsFrames role limit history fed unfinished
reads-frames role limit history fed unfinished o (FedAs.in_opening missing some e h u) =
    absurd (unopened-none role fed missing history o h some e)
reads-frames role limit history fed unfinished o (FedAs.in_frames opened whole fit rest) = reads opened whole fit rest

reads-opening : (role : Role) (limit : ℕ) (history : History) (fed unfinished : List ℕ)
    → has_opened role history ≡ false → FedAs role limit history fed unfinished
    → ReadsOpening role history fed unfinished
reads-opening role limit history fed unfinished o (FedAs.in_opening [] some e h u) = absurd (some refl)
reads-opening role limit history fed unfinished o (FedAs.in_opening (wanted ∷ later) some e h u) =
    awaits wanted later e h u
reads-opening role limit history fed unfinished o (FedAs.in_frames opened whole fit rest) =
    absurd (true≢false (sym opened ∙ o))

-- An octet where the protocol header is awaited.

-- the octets agree so far, and there are more to come
header-prefix : (role : Role) (config : Config role) (old : Endpoint) (history : History) (fed written : List ℕ)
    (octet : ℕ) → EndpointStandsFor role config old history fed written → IsOctet octet → history ≡ []
    → old.unfinished ≡ fed → (next : ℕ) (later : List ℕ)
    → opening_read role ≡ (fed ++ octet ∷ []) ++ next ∷ later
    → Steps role config old history fed written octet
    (after_opening role config old (old.unfinished ++ octet ∷ []) Prefix)
header-prefix role config old history fed written octet s small h u next later e =
    kept (record {
      lawful = s.lawful;
      stands = s.stands;
      opens = s.opens;
      are_octets = All-push IsOctet fed octet s.are_octets small;
      read = FedAs.in_opening (next ∷ later) (λ none. absurd cc) e h (ap (λ l. l ++ octet ∷ []) u);
      out = s.out;
    })

-- the protocol header is whole
header-whole : (role : Role) (config : Config role) (old : Endpoint) (history : History) (fed written : List ℕ)
    (octet : ℕ) → EndpointStandsFor role config old history fed written → IsOctet octet
    → PutsFit role config old.end → awaits_opening role old.end.phase ≡ true → history ≡ []
    → opening_read role ≡ fed ++ octet ∷ []
    → Steps role config old history fed written octet
    (after_opening role config old (old.unfinished ++ octet ∷ []) Same)
header-whole Client config old history fed written octet s small fits a h e = absurd (false≢true a)
header-whole Server config old history fed written octet s small fits a h e =
    come _ refl (λ later.
    greets a h refl
    (subst (λ history.
    EndpointStandsFor Server config (comes_to old (end_after_owed Server config (owed_at_start Server config) old.end)
    (map frame_of (owed_at_start Server config)) (Finished (Some Quiet))).endpoint
    (then_put (map frame_of (owed_at_start Server config)) history) (fed ++ octet ∷ []) written) (sym h)
    (greeted config old fed written octet
    (subst (λ history. EndpointStandsFor Server config old history fed written) h s) small fits e)))

-- an end that awaits the protocol header takes octets
awaiting-takes : (phase : Phase) → awaits_opening Server phase ≡ true → takes_octets phase ≡ true
awaiting-takes (Handshake step) a = refl
awaiting-takes Running a = refl
awaiting-takes Closing a = refl
awaiting-takes Closed a = absurd (false≢true a)
awaiting-takes Failed a = absurd (false≢true a)

-- so does one that takes frames
frames-octets : (phase : Phase) → takes_frames phase ≡ true → takes_octets phase ≡ true
frames-octets (Handshake step) t = refl
frames-octets Running t = refl
frames-octets Closing t = refl
frames-octets Closed t = absurd (false≢true t)
frames-octets Failed t = absurd (false≢true t)

-- the octet is another
header-differs : (role : Role) (config : Config role) (old : Endpoint) (history : History) (fed written : List ℕ)
    (octet : ℕ) → EndpointStandsFor role config old history fed written
    → awaits_opening role old.end.phase ≡ true → history ≡ [] → (wanted : ℕ) (later : List ℕ)
    → opening_read role ≡ fed ++ wanted ∷ later → octet ≢ wanted
    → Steps role config old history fed written octet
    (after_opening role config old (old.unfinished ++ octet ∷ []) Differs)
header-differs Client config old history fed written octet s a h wanted later e apart = absurd (false≢true a)
header-differs Server config old history fed written octet s a h wanted later e apart =
    come _ refl (λ after.
    differs a refl
    (record {
      lawful = goes s.lawful ((end-steps Server config old.end history s.stands).fails
          (awaiting-takes old.end.phase a));
      stands = any-fails Server config old.end history s.stands;
      read = FailedAt.off_opening fed later octet wanted e refl apart h;
      out = out;
    }))
  where
    none : written ≡ []
    none =
        nothing-written written old.output
        (subst (λ history. IsOutputOf [] (frames_put history) written old.output) h s.out)

    out : IsOutputOf PROTOCOL_HEADER (frames_put history) written (output_of PROTOCOL_HEADER)
    out =
        subst (λ history. IsOutputOf PROTOCOL_HEADER (frames_put history) written (output_of PROTOCOL_HEADER)) (sym h)
        (subst (λ written. IsOutputOf PROTOCOL_HEADER [] written (output_of PROTOCOL_HEADER)) (sym none)
        (output-begins PROTOCOL_HEADER))

opening-steps : (role : Role) (config : Config role) (old : Endpoint) (history : History) (fed written : List ℕ)
    (octet : ℕ) → EndpointStandsFor role config old history fed written → IsOctet octet
    → PutsFit role config old.end → awaits_opening role old.end.phase ≡ true
    → Steps role config old history fed written octet
    (after_octets role config old (old.unfinished ++ octet ∷ []) true)
opening-steps role config old history fed written octet s small fits a =
    by-reading (reads-opening role (frame_limit old.end.agreed) history fed old.unfinished
    (not-opened _ _ s.opens a) s.read)
  where
    by-reading : ReadsOpening role history fed old.unfinished
        → Steps role config old history fed written octet
        (after_octets role config old (old.unfinished ++ octet ∷ []) true)
    by-reading (awaits wanted later e h u) =
        subst (λ comparison. Steps role config old history fed written octet
        (after_opening role config old (old.unfinished ++ octet ∷ []) comparison))
        (sym (ap (λ l. compared (l ++ octet ∷ []) (opening_read role)) u
        ∙ (ap (compared (fed ++ octet ∷ [])) e ∙ compared-last fed octet wanted later)))
        (by-octet (octet == wanted) refl later e)
      where
        by-octet : (b : Bool) → (octet == wanted) ≡ b → (later : List ℕ)
            → opening_read role ≡ fed ++ wanted ∷ later
            → Steps role config old history fed written octet
            (after_opening role config old (old.unfinished ++ octet ∷ []) (cond b (compared [] later) Differs))
        by-octet false apart later e =
            header-differs role config old history fed written octet s a h wanted later e (eqb-false octet wanted apart)
        by-octet true same [] e =
            header-whole role config old history fed written octet s small fits a h (e
            ∙ ap (λ x. fed ++ x ∷ []) (sym (eqb-true octet wanted same)))
        by-octet true same (next ∷ later) e =
            header-prefix role config old history fed written octet s small h u next later (e
            ∙ (ap (λ x. fed ++ x ∷ next ∷ later) (sym (eqb-true octet wanted same))
            ∙ sym (append_assoc fed (octet ∷ []) (next ∷ later))))

-- An octet of a frame.
module _ (role : Role) (config : Config role) (old : Endpoint) (history : History) (fed written : List ℕ)
    (octet : ℕ) (s : EndpointStandsFor role config old history fed written) (small : IsOctet octet)
    (fits : PutsFit role config old.end) (a : awaits_opening role old.end.phase ≡ false)
    (taking : takes_frames old.end.phase ≡ true) (opened : has_opened role history ≡ true)
    (fed_is : fed ++ octet ∷ [] ≡ opening_read role
    ++ (stream (frames_taken history) ++ (old.unfinished ++ octet ∷ []))) (fit : AllFit (frames_taken history)) where
  all-fed : All IsOctet (fed ++ octet ∷ [])
  all-fed = All-push IsOctet fed octet s.are_octets small

  all-unfinished : All IsOctet (old.unfinished ++ octet ∷ [])
  all-unfinished =
      back-octets (stream (frames_taken history)) (old.unfinished ++ octet ∷ [])
      (back-octets (opening_read role) (stream (frames_taken history) ++ (old.unfinished ++ octet ∷ []))
      (subst (All IsOctet) fed_is all-fed))

  -- the frame that they are is taken
  taken-is : (frame : Frame) → frames_taken (then_taken config old.end frame history)
      ≡ frames_taken history ++ frame ∷ []
  taken-is frame = frames-taken (end_puts config old.end frame) (Took frame ∷ history)

  fed-whole : (frame : Frame) → old.unfinished ++ octet ∷ [] ≡ octets frame
      → fed ++ octet ∷ [] ≡ opening_read role ++ stream (frames_taken (then_taken config old.end frame history))
  fed-whole frame e =
      fed_is
      ∙ ap (λ l. opening_read role ++ l)
      (ap (λ l. stream (frames_taken history) ++ l) (e ∙ sym (append-nil (octets frame)))
      ∙ (sym (stream-append (frames_taken history) (frame ∷ [])) ∙ ap stream (sym (taken-is frame))))

  taken-fit : (frame : Frame) → Fits frame → AllFit (frames_taken (then_taken config old.end frame history))
  taken-fit frame f = subst AllFit (sym (taken-is frame)) (all-fit-push (frames_taken history) frame fit f)

  can-come : (frame : Frame) → IsWhole (frame_limit old.end.agreed) (old.unfinished ++ octet ∷ []) frame
      → CanCome (frame_limit old.end.agreed) frame
  can-come frame w =
      record {
        fits = w.fits;
        within = w.within;
        payload = payload-octets frame w.fits (subst (All IsOctet) w.is_frame all-unfinished);
      }

  taken-out : (frame : Frame) → IsWhole (frame_limit old.end.agreed) (old.unfinished ++ octet ∷ []) frame
      → IsOutputOf (opening_written role) (frames_put (then_taken config old.end frame history)) written
      (after_puts (end_puts config old.end frame) old.output)
  taken-out frame w =
      subst (λ put. IsOutputOf (opening_written role) put written
      (after_puts (end_puts config old.end frame) old.output))
      (sym (frames-put (end_puts config old.end frame) (Took frame ∷ history)))
      (output-puts (opening_written role) (end_puts config old.end frame) (frames_put history) written old.output s.out
      (fits.owes frame (can-come frame w)).fit)

  can-take : (frame : Frame) → IsWhole (frame_limit old.end.agreed) (old.unfinished ++ octet ∷ []) frame
      → CanTake old.end frame
  can-take frame w = record { in_phase = taking; fits = w.fits; within = w.within }

  -- the end goes on with it
  goes-on-stands : (frame : Frame) → IsWhole (frame_limit old.end.agreed) (old.unfinished ++ octet ∷ []) frame
      → goes_on (end_verdict config old.end frame) ≡ true → (outcome : Outcome)
      → EndpointStandsFor role config (comes_to old (end_after_taken role config old.end (reading frame) frame)
      (end_puts config old.end frame) outcome).endpoint (then_taken config old.end frame history)
      (fed ++ octet ∷ []) written
  goes-on-stands frame w g outcome =
      let stands = frame-follows role config old.end history frame fits.back s.stands g in
      let opens = taken-opens role (end_puts config old.end frame) frame history in
      let still : IsOpened role (then_taken config old.end frame history) =
      taken-opened role (end_puts config old.end frame) frame history (ap (awaits_opening role) s.stands.phase ∙ a) in
      record {
        lawful = goes s.lawful ((end-steps role config old.end history s.stands).takes frame (can-take frame w) g);
        stands = stands;
        opens = ap (awaits_opening role) (sym stands.phase) ∙ (still ∙ ap not (sym opens));
        are_octets = all-fed;
        read = FedAs.in_frames opens (fed-whole frame w.is_frame
            ∙ ap (λ l. opening_read role ++ l)
            (sym (append-nil (stream (frames_taken (then_taken config old.end frame history))))))
            (taken-fit frame w.fits)
            (no-octets (frame_limit (end_after_taken role config old.end (reading frame) frame).agreed));
        out = taken-out frame w;
      }

  whole-steps : (frame : Frame) → IsWhole (frame_limit old.end.agreed) (old.unfinished ++ octet ∷ []) frame
      → Steps role config old history fed written octet
      (after_judged role config old (old.unfinished ++ octet ∷ []) (Whole frame))
  whole-steps frame w = by-verdict (end_verdict config old.end frame) refl
    where
      by-verdict : (v : FrameVerdict) → end_verdict config old.end frame ≡ v
          → Steps role config old history fed written octet
          (comes_to old (end_after_taken role config old.end (reading frame) frame) (end_puts config old.end frame)
          (outcome_of (facts_at config old.end frame.channel) v))
      by-verdict (Proceeds event owed) e =
          come _ refl (λ later. takes frame taking w (ap goes_on e)
          (ap (λ v. Finished (event_told (facts_at config old.end frame.channel) v)) (sym e))
          (goes-on-stands frame w (ap goes_on e) (Finished event)))
      by-verdict RefusesContent e =
          come _ refl (λ later. takes frame taking w (ap goes_on e)
          (ap (λ v. Finished (event_told (facts_at config old.end frame.channel) v)) (sym e))
          (goes-on-stands frame w (ap goes_on e) Unfinished))
      by-verdict (Faults fault) e =
          come _ refl (λ later.
          faults frame fault taking w e refl
          (record {
            lawful = goes s.lawful ((end-steps role config old.end history s.stands).faults frame
                (can-take frame w) (ap goes_on e));
            stands = frame-fails role config old.end history frame fits.back s.stands
                (ap goes_on e);
            read = FailedAt.at_frame (frames_taken history) frame (taken-is frame)
                (taken-opens role (end_puts config old.end frame) frame history) (fed-whole frame w.is_frame)
                (taken-fit frame w.fits);
            out = taken-out frame w;
          }))

  -- the octets show a fault
  fault-goes : (kind : FrameFaultKind)
      → Goes role config history None true (then_put (map frame_of (owed_at_fault config old.end kind)) history)
  fault-goes frame_faults.TooLarge = (end-steps role config old.end history s.stands).too_large taking
  fault-goes frame_faults.UnknownType =
      (end-steps role config old.end history s.stands).fails (frames-octets old.end.phase taking)
  fault-goes frame_faults.BadEnd =
      (end-steps role config old.end history s.stands).fails (frames-octets old.end.phase taking)
  fault-goes frame_faults.OutOfMemory =
      (end-steps role config old.end history s.stands).fails (frames-octets old.end.phase taking)
  fault-goes frame_faults.Failed =
      (end-steps role config old.end history s.stands).fails (frames-octets old.end.phase taking)

  fault-stands : (kind : FrameFaultKind)
      → StandsFor role config true
      (failed_by (Faults (fault_told kind)) (end_after_owed role config (owed_at_fault config old.end kind) old.end))
      (then_put (map frame_of (owed_at_fault config old.end kind)) history)
  fault-stands frame_faults.TooLarge = too-large-fails role config old.end history fits.back s.stands
  fault-stands frame_faults.UnknownType = any-fails role config old.end history s.stands
  fault-stands frame_faults.BadEnd = any-fails role config old.end history s.stands
  fault-stands frame_faults.OutOfMemory = any-fails role config old.end history s.stands
  fault-stands frame_faults.Failed = any-fails role config old.end history s.stands

  wrong-steps : (kind : FrameFaultKind) → TellsLast (frame_limit old.end.agreed) (old.unfinished ++ octet ∷ []) kind
      → Steps role config old history fed written octet
      (after_judged role config old (old.unfinished ++ octet ∷ []) (Wrong kind))
  wrong-steps kind told =
      let put = map frame_of (owed_at_fault config old.end kind) in
      let same = frames-taken put history in
      come _ refl (λ later. tells kind taking told refl (record {
        lawful = goes s.lawful (fault-goes kind);
        stands = fault-stands kind;
        read = FailedAt.in_rest (old.unfinished ++ octet ∷ []) told.place kind (stays-opened role put history opened)
            (fed_is ∙ ap (λ l. opening_read role ++ (stream l ++ (old.unfinished ++ octet ∷ []))) (sym same))
            (subst AllFit (sym same) fit) told.last told.told;
        out = subst (λ frames. IsOutputOf (opening_written role) frames written (after_puts put old.output))
            (sym (frames-put put history))
            (output-puts (opening_written role) put (frames_put history) written old.output
            s.out (fault-fits config old.end kind));
      }))

  judged-steps : (j : Judgement) → IsJudgedWell (frame_limit old.end.agreed) (old.unfinished ++ octet ∷ []) j
      → Steps role config old history fed written octet
      (after_judged role config old (old.unfinished ++ octet ∷ []) j)
  judged-steps Begun rest =
      kept (record {
        lawful = s.lawful;
        stands = s.stands;
        opens = s.opens;
        are_octets = all-fed;
        read = FedAs.in_frames opened fed_is fit rest;
        out = s.out;
      })
  judged-steps (Whole frame) w = whole-steps frame w
  judged-steps (Wrong kind) told = wrong-steps kind told

frames-steps : (role : Role) (config : Config role) (old : Endpoint) (history : History) (fed written : List ℕ)
    (octet : ℕ) → EndpointStandsFor role config old history fed written → IsOctet octet
    → PutsFit role config old.end → refusal_in old.end.phase ≡ None
    → awaits_opening role old.end.phase ≡ false
    → Steps role config old history fed written octet
    (after_octets role config old (old.unfinished ++ octet ∷ []) false)
frames-steps role config old history fed written octet s small fits r a =
    by-reading (reads-frames role (frame_limit old.end.agreed) history fed old.unfinished
    (is-opened _ _ s.opens a) s.read)
  where
    taking : takes_frames old.end.phase ≡ true
    taking = takes-frames role (entries_on 0 history) old.end.phase s.stands.phase r a

    by-reading : ReadsFrames role (frame_limit old.end.agreed) history fed old.unfinished
        → Steps role config old history fed written octet
        (after_octets role config old (old.unfinished ++ octet ∷ []) false)
    by-reading (reads opened whole fit rest) =
        let fed_is : fed ++ octet ∷ [] ≡ opening_read role
        ++ (stream (frames_taken history) ++ (old.unfinished ++ octet ∷ [])) =
        ap (λ l. l ++ octet ∷ []) whole
        ∙ (append_assoc (opening_read role) (stream (frames_taken history) ++ old.unfinished) (octet ∷ [])
        ∙ ap (λ l. opening_read role ++ l)
        (append_assoc (stream (frames_taken history)) old.unfinished (octet ∷ []))) in
        judged-steps role config old history fed written octet s small fits a taking opened fed_is fit
        (judged (frame_limit old.end.agreed) (old.unfinished ++ octet ∷ []))
        (judged-well (frame_limit old.end.agreed) old.unfinished octet
        (all-unfinished role config old history fed written octet s small fits a taking opened fed_is fit) rest)

-- an end that takes nothing is closed, since it has not failed
refused-closed : (role : Role) (config : Config role) (old : Endpoint) (history : History) (fed written : List ℕ)
    → EndpointStandsFor role config old history fed written → (fault : Fault)
    → refusal_in old.end.phase ≡ Some fault → (old.end.phase ≡ Closed) × (fault ≡ AlreadyClosed)
refused-closed role config old history fed written s fault r = by-phase old.end.phase refl r
  where
    by-phase : (phase : Phase) → old.end.phase ≡ phase → refusal_in phase ≡ Some fault
        → (old.end.phase ≡ Closed) × (fault ≡ AlreadyClosed)
    by-phase Closed p r = (p, cc)
    by-phase Failed p r = absurd (not-failed role (entries_on 0 history) old.end.phase s.stands.phase p)
    by-phase (Handshake step) p r = absurd cc
    by-phase Running p r = absurd cc
    by-phase Closing p r = absurd cc

octet-steps : (role : Role) (config : Config role) (old : Endpoint) (history : History) (fed written : List ℕ)
    (octet : ℕ) → EndpointStandsFor role config old history fed written → IsOctet octet
    → PutsFit role config old.end
    → Steps role config old history fed written octet (after_octet role config old octet)
octet-steps role config old history fed written octet s small fits = by-refusal (refusal_in old.end.phase) refl
  where
    by-refusal : (refusal : Option Fault) → refusal_in old.end.phase ≡ refusal
        → Steps role config old history fed written octet
        (unless_over old refusal (after_octets role config old (old.unfinished ++ octet ∷ [])
        (awaits_opening role old.end.phase)))
    by-refusal None r = by-opening (awaits_opening role old.end.phase) refl
      where
        by-opening : (awaits : Bool) → awaits_opening role old.end.phase ≡ awaits
            → Steps role config old history fed written octet
            (after_octets role config old (old.unfinished ++ octet ∷ []) awaits)
        by-opening true a = opening-steps role config old history fed written octet s small fits a
        by-opening false a = frames-steps role config old history fed written octet s small fits r a
    by-refusal (Some fault) r =
        let closed = refused-closed role config old history fed written s fault r in
        come _ refl (λ later.
        refuses closed.0 (ap (λ fault. record { endpoint = old; taken = 0; outcome = Found fault }) closed.1))

pub octet-follows : MethodReadsBack → OctetFollows
octet-follows law role config endpoint history fed written octet s small writes =
    by-steps (after_octet role config endpoint octet)
    (octet-steps role config endpoint history fed written octet s small (puts-fit law role config endpoint.end writes))
  where
    by-steps : (new : Feeding) → Steps role config endpoint history fed written octet new
        → Follows role config endpoint history fed written (octet ∷ []) new
    by-steps new (kept more) = waits refl more
    by-steps new (come other over follows) = follows []

-- A piece.

unless-over : (new later : Feeding) (outcome : Outcome) → is_unfinished outcome ≡ false
    → fed_after new outcome later ≡ new
unless-over new later Unfinished e = absurd (true≢false e)
unless-over new later (Finished event) e = refl
unless-over new later (Found fault) e = refl

-- what comes of the octets after the first comes of the piece
after-first : (role : Role) (config : Config role) (old : Endpoint) (history : History) (fed written : List ℕ)
    (octet : ℕ) (later : List ℕ) (new : Feeding) → refusal_in old.end.phase ≡ None
    → Follows role config (holds_octets old (old.unfinished ++ octet ∷ [])).endpoint history
    (fed ++ octet ∷ []) written later new
    → Follows role config old history fed written (octet ∷ later)
    (record { endpoint = new.endpoint; taken = suc new.taken; outcome = new.outcome })
after-first role config old history fed written octet later new r (waits o s) =
    waits o (subst (λ fed. EndpointStandsFor role config new.endpoint history fed written)
    (append_assoc fed (octet ∷ []) (take new.taken later)) s)
after-first role config old history fed written octet later new r (greets a h o s) =
    greets a h o
    (subst (λ fed. EndpointStandsFor role config new.endpoint (then_put (map frame_of (owed_at_start role config)) history)
    fed written) (append_assoc fed (octet ∷ []) (take new.taken later)) s)
after-first role config old history fed written octet later new r (takes frame t w g o s) =
    takes frame t (subst (λ rest. IsWhole (frame_limit old.end.agreed) rest frame)
    (append_assoc old.unfinished (octet ∷ []) (take new.taken later)) w) g o
    (subst (λ fed. EndpointStandsFor role config new.endpoint (then_taken config old.end frame history) fed written)
    (append_assoc fed (octet ∷ []) (take new.taken later)) s)
after-first role config old history fed written octet later new r (faults frame fault t w v o f) =
    faults frame fault t (subst (λ rest. IsWhole (frame_limit old.end.agreed) rest frame)
    (append_assoc old.unfinished (octet ∷ []) (take new.taken later)) w) v o
    (subst (λ fed. HasFailed role config (frame_limit old.end.agreed) (opening_written role)
    (then_taken config old.end frame history) fed written new.endpoint)
    (append_assoc fed (octet ∷ []) (take new.taken later)) f)
after-first role config old history fed written octet later new r (tells kind t told o f) =
    tells kind t (subst (λ rest. TellsLast (frame_limit old.end.agreed) rest kind)
    (append_assoc old.unfinished (octet ∷ []) (take new.taken later)) told) o
    (subst (λ fed. HasFailed role config (frame_limit old.end.agreed) (opening_written role)
    (then_put (map frame_of (owed_at_fault config old.end kind)) history) fed written new.endpoint)
    (append_assoc fed (octet ∷ []) (take new.taken later)) f)
after-first role config old history fed written octet later new r (differs a o f) =
    differs a o (subst (λ fed. HasFailed role config (frame_limit old.end.agreed) PROTOCOL_HEADER history fed written
    new.endpoint) (append_assoc fed (octet ∷ []) (take new.taken later)) f)
after-first role config old history fed written octet later new r (refuses closed e) =
    absurd (none (sym (ap refusal_in closed) ∙ r))
  where
    none : Some AlreadyClosed ≡ None → ⊥
    none e = cc

first-steps : (role : Role) (config : Config role) (old : Endpoint) (history : History) (fed written : List ℕ)
    (octet : ℕ) (later : List ℕ) (first : Feeding) → refusal_in old.end.phase ≡ None
    → Steps role config old history fed written octet first
    → (EndpointStandsFor role config (holds_octets old (old.unfinished ++ octet ∷ [])).endpoint history
    (fed ++ octet ∷ []) written
    → Follows role config (holds_octets old (old.unfinished ++ octet ∷ [])).endpoint history
    (fed ++ octet ∷ []) written later
    (after_feed role config (holds_octets old (old.unfinished ++ octet ∷ [])).endpoint later))
    → Follows role config old history fed written (octet ∷ later)
    (fed_after first first.outcome (after_feed role config first.endpoint later))
first-steps role config old history fed written octet later first r (kept s) more =
    after-first role config old history fed written octet later _ r (more s)
first-steps role config old history fed written octet later first r (come new over follows) more =
    subst (Follows role config old history fed written (octet ∷ later))
    (sym (unless-over new (after_feed role config new.endpoint later) new.outcome over)) (follows later)

pub feed-follows : MethodReadsBack → (role : Role) (config : Config role) (endpoint : Endpoint) (history : History)
    (fed written piece : List ℕ) → FeedFollows role config endpoint history fed written piece
feed-follows law role config endpoint history fed written [] s all writes =
    by-refusal (refusal_in endpoint.end.phase) refl
  where
    by-refusal : (refusal : Option Fault) → refusal_in endpoint.end.phase ≡ refusal
        → Follows role config endpoint history fed written []
        (unless_over endpoint refusal (record { endpoint = endpoint; taken = 0; outcome = Unfinished }))
    by-refusal None r =
        waits refl (subst (λ fed. EndpointStandsFor role config endpoint history fed written) (sym (append-nil fed)) s)
    by-refusal (Some fault) r =
        let closed = refused-closed role config endpoint history fed written s fault r in
        refuses closed.0 (ap (λ fault. record { endpoint = endpoint; taken = 0; outcome = Found fault }) closed.1)
feed-follows law role config endpoint history fed written (octet ∷ later) s all writes =
    by-refusal (refusal_in endpoint.end.phase) refl
    (λ more. feed-follows law role config (holds_octets endpoint (endpoint.unfinished ++ octet ∷ [])).endpoint
    history (fed ++ octet ∷ []) written later more (All-tail IsOctet octet later all) writes)
  where
    by-refusal : (refusal : Option Fault) → refusal_in endpoint.end.phase ≡ refusal
        → (EndpointStandsFor role config (holds_octets endpoint (endpoint.unfinished ++ octet ∷ [])).endpoint
        history (fed ++ octet ∷ []) written
        → Follows role config (holds_octets endpoint (endpoint.unfinished ++ octet ∷ [])).endpoint history
        (fed ++ octet ∷ []) written later
        (after_feed role config (holds_octets endpoint (endpoint.unfinished ++ octet ∷ [])).endpoint later))
        → Follows role config endpoint history fed written (octet ∷ later)
        (after_feed role config endpoint (octet ∷ later))
    by-refusal None r more =
        first-steps role config endpoint history fed written octet later (after_octet role config endpoint octet) r
        (octet-steps role config endpoint history fed written octet s (All-head IsOctet octet later all)
        (puts-fit law role config endpoint.end writes)) more
    by-refusal (Some fault) r more =
        let closed = refused-closed role config endpoint history fed written s fault r in
        refuses closed.0 (stays-closed role config endpoint (octet ∷ later) closed.0)
