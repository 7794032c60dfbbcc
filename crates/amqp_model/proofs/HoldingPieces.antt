-- What is unfinished at an end stays what may be unfinished, by each piece, ask and write.
use Rattle.std.proofs.Common.{◌≡◌, Bool, true, false, cond, not, ◌==◌, ℕ, zero, suc, List, [], ◌∷◌}
use Rattle.std.proofs.Common.{◌++◌, All, Option, Some, None, refl, sym, ap, ◌∙◌, subst}
use Rattle.std.proofs.lemmas.Bool.{true≢false, false≢true, eqb-true}
use Rattle.std.proofs.lemmas.List.Elements.{All-nil, All-head, All-tail, All-push}
use Rattle.amqp_frame.specs.Splitting.{stream}
use Rattle.amqp_model.specs.Wire.Frame.{Frame}
use Rattle.amqp_model.specs.Wire.Notes.{Role, Client, Server}
use Rattle.amqp_model.specs.Wire.Readings.{reading}
use Rattle.amqp_model.specs.History.Histories.{PutHere}
use Rattle.amqp_model.specs.End.Channels.{Phase, Handshake, Running, Closing, Closed, Failed, End}
use Rattle.amqp_model.specs.History.Negotiation.{Config, frame_limit}
use Rattle.amqp_model.specs.End.Events.{Fault}
use Rattle.amqp_model.specs.End.Asks.{Ask, Refusal, is_running, frames_asked, refusal, refused_or_put}
use Rattle.amqp_model.specs.End.Machine.{end_after, end_after_put}
use Rattle.amqp_model.specs.Stream.Octets.{frames_taken, opening_read, FedAs}
use Rattle.amqp_model.specs.Stream.Endpoint.{Judgement, Begun, Whole, Wrong, judged, Comparison, Prefix, Same, Differs}
use Rattle.amqp_model.specs.Stream.Endpoint.{compared, Endpoint, Outcome, Unfinished, Finished, Found, refusal_in}
use Rattle.amqp_model.specs.Stream.Endpoint.{unless_over, awaits_opening, after_opening, after_judged, after_octets}
use Rattle.amqp_model.specs.Stream.Endpoint.{after_octet, fed_after, after_feed, after_answer}
use Rattle.amqp_model.specs.Laws.OctetLaws.{IsOctet, IsJudgedWell}
use Rattle.amqp_model.specs.Stream.Pieces.{IsProperPrefixOf, reads_frames, AreBegun, HoldsUnfinished, NewHolds}
use Rattle.amqp_model.specs.Stream.Pieces.{StandsHolds, FeedHolds, AskHolds, WroteHolds}
use Rattle.amqp_model.proofs.Asking.{Accepted, accepted, not-when}
use Rattle.amqp_model.proofs.OctetJudging.{judged-well}
use Rattle.amqp_model.proofs.OctetHistories.{back-octets, phase-put-opened}
use Rattle.amqp_model.proofs.OctetAsks.{all-keep, ask-keeps, running-opened}
use Rattle.amqp_model.proofs.OctetSteps.{no-octets, is-opened, ReadsFrames, reads, reads-frames}
use Rattle.amqp_model.proofs.FeedingPieces.{reads-none}

-- where nothing is unfinished
none-holds : (role : Role) (endpoint : Endpoint) → endpoint.unfinished ≡ [] → HoldsUnfinished role endpoint
none-holds role endpoint e = record {
  of_opening = begins role endpoint.end.phase;
  of_frame = λ reads. subst (AreBegun (frame_limit endpoint.end.agreed)) (sym e)
      (record { are_octets = All-nil IsOctet; rest = no-octets (frame_limit endpoint.end.agreed) });
}
  where
    begins : (role : Role) (phase : Phase) → awaits_opening role phase ≡ true
        → IsProperPrefixOf endpoint.unfinished (opening_read role)
    begins Client phase a = absurd (true≢false (sym a))
    begins Server phase a = (opening_read Server, (λ n. cc), ap (λ l. l ++ opening_read Server) (sym e))

pub new-holds : NewHolds
new-holds Client = none-holds Client _ refl
new-holds Server = none-holds Server _ refl

-- what begins the header and is not all of it
proper-of : (xs whole : List ℕ) → compared xs whole ≡ Prefix → IsProperPrefixOf xs whole
proper-of [] [] e = absurd cc
proper-of [] (next ∷ later) e = (next ∷ later, (λ n. cc), refl)
proper-of (x ∷ xs) [] e = absurd cc
proper-of (x ∷ xs) (next ∷ later) e = cases (x == next) refl e (proper-of xs later)
  where
    cases : (b : Bool) → (x == next) ≡ b → cond b (compared xs later) Differs ≡ Prefix
        → (compared xs later ≡ Prefix → IsProperPrefixOf xs later)
        → IsProperPrefixOf (x ∷ xs) (next ∷ later)
    cases true s e more =
        let proper = more e in (
          proper.0,
          proper.1,
          ap (λ l. next ∷ l) proper.2
              ∙ ap (λ first. first ∷ (xs ++ proper.0)) (sym (eqb-true x next s)),
        )
    cases false s e more = absurd cc

-- An octet more.

octet-holds : (role : Role) (config : Config role) (endpoint : Endpoint) (octet : ℕ) → HoldsUnfinished role endpoint
    → IsOctet octet → HoldsUnfinished role (after_octet role config endpoint octet).endpoint
octet-holds role config endpoint octet holds small = by-refusal (refusal_in endpoint.end.phase) refl
  where
    so_far : List ℕ
    so_far = endpoint.unfinished ++ octet ∷ []

    by-comparison : (c : Comparison) → awaits_opening role endpoint.end.phase ≡ true
        → compared so_far (opening_read role) ≡ c
        → HoldsUnfinished role (after_opening role config endpoint so_far c).endpoint
    by-comparison Prefix a e =
        record {
          of_opening = λ b. proper-of so_far (opening_read role) e;
          of_frame = λ reads. absurd (true≢false (sym a ∙ (reads-none role endpoint.end.phase reads).1));
        }
    by-comparison Same a e = none-holds role _ refl
    by-comparison Differs a e = none-holds role _ refl

    by-judgement : (j : Judgement) → awaits_opening role endpoint.end.phase ≡ false
        → (reads_frames role endpoint.end.phase ≡ true → IsJudgedWell (frame_limit endpoint.end.agreed) so_far j)
        → HoldsUnfinished role (after_judged role config endpoint so_far j).endpoint
    by-judgement Begun a well = record {
      of_opening = λ b. absurd (true≢false (sym b ∙ a));
      of_frame = λ reads.
          record {
            are_octets = All-push IsOctet endpoint.unfinished octet (holds.of_frame reads).are_octets small;
            rest = well reads;
          };
    }
    by-judgement (Whole frame) a well = none-holds role _ refl
    by-judgement (Wrong kind) a well = none-holds role _ refl

    by-opening : (awaits : Bool) → awaits_opening role endpoint.end.phase ≡ awaits
        → HoldsUnfinished role (after_octets role config endpoint so_far awaits).endpoint
    by-opening true a = by-comparison (compared so_far (opening_read role)) a refl
    by-opening false a =
        by-judgement (judged (frame_limit endpoint.end.agreed) so_far) a
        (λ reads. let begun = holds.of_frame reads in
        judged-well (frame_limit endpoint.end.agreed) endpoint.unfinished octet
        (All-push IsOctet endpoint.unfinished octet begun.are_octets small) begun.rest)

    by-refusal : (refusal : Option Fault) → refusal_in endpoint.end.phase ≡ refusal
        → HoldsUnfinished role
        (unless_over endpoint refusal
        (after_octets role config endpoint so_far (awaits_opening role endpoint.end.phase))).endpoint
    by-refusal None r = by-opening (awaits_opening role endpoint.end.phase) refl
    by-refusal (Some fault) r = holds

pub feed-holds : (role : Role) (config : Config role) (endpoint : Endpoint) (piece : List ℕ)
    → FeedHolds role config endpoint piece
feed-holds role config endpoint [] holds all = cases (refusal_in endpoint.end.phase)
  where
    cases : (refusal : Option Fault)
        → HoldsUnfinished role
        (unless_over endpoint refusal (record { endpoint = endpoint; taken = 0; outcome = Unfinished })).endpoint
    cases None = holds
    cases (Some fault) = holds
feed-holds role config endpoint (octet ∷ later) holds all =
    cases (after_octet role config endpoint octet).outcome
    (feed-holds role config (after_octet role config endpoint octet).endpoint later here
    (All-tail IsOctet octet later all))
  where
    here : HoldsUnfinished role (after_octet role config endpoint octet).endpoint
    here = octet-holds role config endpoint octet holds (All-head IsOctet octet later all)

    cases : (outcome : Outcome)
        → HoldsUnfinished role
        (after_feed role config (after_octet role config endpoint octet).endpoint later).endpoint
        → HoldsUnfinished role (fed_after (after_octet role config endpoint octet) outcome
        (after_feed role config (after_octet role config endpoint octet).endpoint later)).endpoint
    cases Unfinished more = more
    cases (Finished event) more = here
    cases (Found fault) more = here

-- An ask, and a write.

-- an end that awaits no protocol header awaits none after what it puts
entry-opened : (role : Role) (config : Config role) (number : ℕ) (frame : Frame) (end : End)
    → awaits_opening role end.phase ≡ false
    → awaits_opening role (end_after role config number (PutHere (reading frame) frame) end).phase ≡ false
entry-opened role config zero frame end a = phase-put-opened role (reading frame) frame end.phase a
entry-opened role config (suc n) frame end a = a

pub puts-opened : (role : Role) (config : Config role) (frames : List Frame) (end : End)
    → awaits_opening role end.phase ≡ false
    → awaits_opening role (end_after_put role config frames end).phase ≡ false
puts-opened role config [] end a = a
puts-opened role config (frame ∷ later) end a =
    puts-opened role config later (end_after role config frame.channel (PutHere (reading frame) frame) end)
    (entry-opened role config frame.channel frame end a)

-- a Running end reads frames
running-reads : (role : Role) (phase : Phase) → not (is_running phase) ≡ false → reads_frames role phase ≡ true
running-reads Client Running e = refl
running-reads Server Running e = refl
running-reads role (Handshake step) e = absurd (true≢false e)
running-reads role Closing e = absurd (true≢false e)
running-reads role Closed e = absurd (true≢false e)
running-reads role Failed e = absurd (true≢false e)

pub ask-holds : (role : Role) (config : Config role) (endpoint : Endpoint) (ask : Ask)
    → AskHolds role config endpoint ask
ask-holds role config endpoint ask holds back = cases (refusal role endpoint.end ask) refl
  where
    cases : (refused : Option Refusal) → refusal role endpoint.end ask ≡ refused
        → HoldsUnfinished role
        (after_answer role config endpoint (refused_or_put refused (frames_asked endpoint.end ask)))
    cases (Some why) e = holds
    cases None e =
        let taken : Accepted role endpoint.end ask = accepted role endpoint.end ask e in
        let runs = not-when _ Refusal.NotRunning taken.runs in
        let frames = frames_asked endpoint.end ask in
        let agreed =
        all-keep role config frames endpoint.end (ask-keeps role config endpoint.end ask back.method taken) in
        record {
          of_opening =
              λ a. absurd
              (true≢false (sym a
              ∙ puts-opened role config frames endpoint.end (running-opened role endpoint.end.phase runs)));
          of_frame = λ reads. subst (λ agreed. AreBegun (frame_limit agreed) endpoint.unfinished) (sym agreed)
              (holds.of_frame (running-reads role endpoint.end.phase runs));
        }

pub wrote-holds : WroteHolds
wrote-holds role endpoint n holds = record { of_opening = holds.of_opening; of_frame = holds.of_frame }

-- An end that stands for a history.

pub stands-holds : StandsHolds
stands-holds role config endpoint history fed written s =
    record { of_opening = λ a. by-opening s.read a; of_frame = λ r. by-frames r }
  where
    by-opening : FedAs role (frame_limit endpoint.end.agreed) history fed endpoint.unfinished
        → awaits_opening role endpoint.end.phase ≡ true → IsProperPrefixOf endpoint.unfinished (opening_read role)
    by-opening (FedAs.in_opening missing some e h u) a = (missing, some, e ∙ ap (λ l. l ++ missing) (sym u))
    by-opening (FedAs.in_frames opened whole fit rest) a =
        absurd (false≢true (sym (ap not opened) ∙ (sym s.opens ∙ a)))

    by-frames : reads_frames role endpoint.end.phase ≡ true
        → AreBegun (frame_limit endpoint.end.agreed) endpoint.unfinished
    by-frames r =
        by-reading (reads-frames role (frame_limit endpoint.end.agreed) history fed endpoint.unfinished
        (is-opened _ _ s.opens (reads-none role endpoint.end.phase r).1) s.read)
      where
        by-reading : ReadsFrames role (frame_limit endpoint.end.agreed) history fed endpoint.unfinished
            → AreBegun (frame_limit endpoint.end.agreed) endpoint.unfinished
        by-reading (reads opened whole fit rest) = record {
          are_octets = back-octets (stream (frames_taken history)) endpoint.unfinished
              (back-octets (opening_read role) (stream (frames_taken history) ++ endpoint.unfinished)
              (subst (All IsOctet) whole s.are_octets));
          rest = rest;
        }
