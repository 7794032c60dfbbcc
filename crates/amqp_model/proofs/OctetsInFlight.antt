-- Two whole ends over octets.
use Rattle.std.proofs.Common.{◌≡◌, ◌≢◌, ◌≤◌, ◌+◌, Bool, true, false, not, ℕ, suc, ◌==◌}
use Rattle.std.proofs.Common.{arith, List, [], ◌∷◌, ◌++◌, map, take, drop, length, Some, None, refl, sym, ap}
use Rattle.std.proofs.Common.{◌∙◌, subst, append_assoc, append-nil, take-append-drop}
use Rattle.std.proofs.lemmas.Bool.{false≢true, true≢false, cond-true, eq-eqb}
use Rattle.std.proofs.lemmas.List.{map-append, append_cancel_left, take_all}
use Rattle.std.proofs.lemmas.List.Elements.{filter-append}
use Rattle.amqp_frame.specs.declared.faults.FrameFaultKind.{FrameFaultKind}
use Rattle.amqp_frame.specs.Frame.{octets, frame_length}
use Rattle.amqp_frame.specs.Splitting.{stream, AllFit, IsRest, Tells}
use Rattle.amqp_frame.proofs.SplittingLemmas.{begun_prefix_tells_none}
use Rattle.amqp_model.specs.Wire.Frame.{Frame}
use Rattle.amqp_model.specs.Wire.Notes.{Role, Client, Server}
use Rattle.amqp_model.specs.Output.Arrangement.{on}
use Rattle.amqp_model.specs.History.Histories.{History}
use Rattle.amqp_model.specs.End.Channels.{Phase, Handshake, Running, Closed, Failed, AwaitsProtocolHeader, AwaitsStart}
use Rattle.amqp_model.specs.End.Channels.{AwaitsStartOk, AwaitsTune, AwaitsTuneOk, AwaitsOpen, AwaitsOpenOk, HoldsStart}
use Rattle.amqp_model.specs.End.Channels.{HoldsLogin, HoldsOpen, End}
use Rattle.amqp_model.specs.History.Negotiation.{Config, frame_limit}
use Rattle.amqp_model.specs.End.StateFromHistory.{end_from}
use Rattle.amqp_model.specs.End.Closes.{frame_of}
use Rattle.amqp_model.specs.End.Events.{Fault, Faults, WrongProtocolHeader}
use Rattle.amqp_model.specs.End.EndVerdict.{CanTake, end_verdict, goes_on, takes_frames}
use Rattle.amqp_model.specs.Laws.FittingLaws.{MethodReadsBack}
use Rattle.amqp_model.specs.End.LawfulHistories.{then_put, greets}
use Rattle.amqp_model.specs.Stream.Octets.{frames_taken, frames_put, opening_read, has_opened, FedAs, FailedAt}
use Rattle.amqp_model.specs.Pair.Pairs.{ComesNext, PairOf, server_goes, config_of}
use Rattle.amqp_model.specs.Stream.Endpoint.{Endpoint, Feeding, Unfinished, Found, awaits_opening, fault_told, owed_at_start}
use Rattle.amqp_model.specs.Stream.Endpoint.{after_feed}
use Rattle.amqp_model.specs.Stream.Grown.{Grows}
use Rattle.amqp_model.specs.Laws.OctetLaws.{IsWhole, TellsLast, EndpointStandsFor, Follows, waits}
use Rattle.amqp_model.specs.Laws.OctetLaws.{greets as greets_then, takes, faults, tells, differs, refuses}
use Rattle.amqp_model.specs.Laws.CarryingLaws.{as_carried, Carries}
use Rattle.amqp_model.specs.Pair.NoFault.{TakesWithoutFault}
use Rattle.amqp_model.specs.Pair.OctetsInFlight.{IsFedNext, FindsNoFaultWithOctets, FeedStaysPair, GrownStaysPair}
use Rattle.amqp_model.specs.Pair.OctetsInFlight.{NothingWaitsForClosed, InFlight, OctetsInFlightAreFrames}
use Rattle.amqp_model.specs.Pair.OctetsInFlight.{ItemsSentAreActedOnOrWaiting}
use Rattle.amqp_model.proofs.Standing.{end-stands}
use Rattle.amqp_model.proofs.Lawfulness.{end-steps}
use Rattle.amqp_model.proofs.Pairing.{step-stays-pair}
use Rattle.amqp_model.proofs.Carrying.{taken-first, completed-comes-next, notes-of-frames}
use Rattle.amqp_model.proofs.OctetSteps.{feed-follows}
use Rattle.amqp_model.proofs.Sent.{sent-is-acted-or-coming}
use Rattle.amqp_model.proofs.Agreements.{closed-has-taken-all}
use Rattle.amqp_model.proofs.WellPutPairs.{writes-of}
use Rattle.amqp_model.proofs.NoFault.{pair-at}
use Rattle.amqp_model.proofs.Matching.{takes-what-comes-next}

-- Frames that wait.

-- an end whose opening is not read has not read it
not-opened : (role : Role) (history : History) (fed missing : List ℕ) → missing ≢ []
    → opening_read role ≡ fed ++ missing → history ≡ [] → has_opened role history ≡ true → ⊥
not-opened Client history [] missing some e none opened = some (sym e)
not-opened Client history (x ∷ fed) missing some e none opened = absurd cc
not-opened Server history fed missing some e none opened = false≢true (sym (ap (has_opened Server) none) ∙ opened)

pub in-flight : (role : Role) (limit : ℕ) (mine theirs : History) (put fed unfinished rest : List ℕ)
    → OctetsInFlightAreFrames role limit mine theirs put fed unfinished rest
in-flight role limit mine theirs put fed unfinished rest carries opened = go carries.fed_as
  where
    go : FedAs role limit mine fed unfinished → InFlight mine theirs unfinished rest
    go (FedAs.in_opening missing some opening none is) =
        absurd (not-opened role mine fed missing some opening none opened)
    go (FedAs.in_frames has fed_is fits is_rest) =
        let p = carries.put_as in
        let there = taken-first role p.departing put fed unfinished rest mine p.octets_are p.fit
        carries.put_is fed_is fits in
        record {
          waiting = there.later;
          fit = there.fit;
          octets_are = sym there.rest_is;
          each_channel = λ channel. sym (p.each_channel channel)
              ∙ (ap (on channel) there.departing_is
              ∙ filter-append (λ g. g.channel == channel) (frames_taken mine) there.later);
        }

pub items-waiting : (reads : MethodReadsBack) (role : Role) (client_config : Config Client)
    (server_config : Config Server) (mine theirs : History) (unfinished rest : List ℕ) (n : ℕ)
    → ItemsSentAreActedOnOrWaiting role client_config server_config mine theirs unfinished rest n
items-waiting reads role client_config server_config mine theirs unfinished rest n p flight live =
    sent-is-acted-or-coming role client_config server_config mine theirs n
    (pair-at reads role client_config server_config mine theirs p) (map as_carried (on (suc n) flight.waiting)) live
    ((notes-of-frames (suc n) theirs).0
    ∙ (ap (map as_carried) (flight.each_channel (suc n))
    ∙ (map-append as_carried (on (suc n) (frames_taken mine)) (on (suc n) flight.waiting)
    ∙ ap (λ l. l ++ map as_carried (on (suc n) flight.waiting)) (sym (notes-of-frames (suc n) mine).1))))

-- An end that is closed.

-- no frame stands on any channel
none-on : (frames : List Frame) → ((channel : ℕ) → on channel frames ≡ []) → frames ≡ []
none-on [] none = refl
none-on (f ∷ later) none =
    absurd (let h : f ∷ on f.channel later
    ≡ [] = sym (cond-true (f.channel == f.channel) _ _ (eq-eqb f.channel f.channel refl)) ∙ none f.channel in cc)

none-more : (xs ys zs : List Frame) → zs ≡ xs → zs ≡ xs ++ ys → ys ≡ []
none-more xs ys zs same more = append_cancel_left xs ys [] (sym more ∙ (same ∙ sym (append-nil xs)))

both-none : (xs ys : List ℕ) → xs ++ ys ≡ [] → (xs ≡ []) × (ys ≡ [])
both-none [] ys e = (refl, e)
both-none (x ∷ xs) ys e = absurd cc

abbrev is_shut : Phase → Bool
is_shut Closed = true
is_shut phase = false

-- an end that is closed has read what stands before the frames
closed-opened : (role : Role) (config : Config role) (history : History) → (end_from role config false history).phase
    ≡ Closed → has_opened role history ≡ true
closed-opened Client config history e = refl
closed-opened Server config [] e = absurd (false≢true (ap is_shut e))
closed-opened Server config (entry ∷ before) e = refl

pub nothing-waits-for-closed : (reads : MethodReadsBack) (role : Role) (client_config : Config Client)
    (server_config : Config Server) (mine theirs : History) (limit : ℕ) (put fed unfinished rest : List ℕ)
    → NothingWaitsForClosed role client_config server_config mine theirs limit put fed unfinished rest
nothing-waits-for-closed reads role client_config server_config mine theirs limit put fed
    unfinished rest p carries closed =
    let flight = in-flight role limit mine theirs put fed unfinished rest carries
    (closed-opened role (config_of role client_config server_config) mine closed) in
    let none = none-on flight.waiting (λ channel. none-more (on channel (frames_taken mine))
    (on channel flight.waiting) (on channel (frames_put theirs))
    (closed-has-taken-all reads role client_config server_config mine theirs channel p closed)
    (flight.each_channel channel)) in
    both-none unfinished rest (flight.octets_are ∙ ap stream none)

-- Octets that come next.

-- of two ways to cut octets in two, one cuts first
data CutFirst (xs ys us vs : List ℕ) : Type 0 where
  left : (p : List ℕ) → us ≡ xs ++ p → ys ≡ p ++ vs → CutFirst xs ys us vs
  right : (p : List ℕ) → xs ≡ us ++ p → vs ≡ p ++ ys → CutFirst xs ys us vs

cut-first : (xs ys us vs : List ℕ) → xs ++ ys ≡ us ++ vs → CutFirst xs ys us vs
cut-first [] ys us vs e = left us refl e
cut-first (x ∷ xs) ys [] vs e = right (x ∷ xs) refl (sym e)
cut-first (x ∷ xs) ys (u ∷ us) vs e =
    more (cut-first xs ys us vs (let h : x ∷ (xs ++ ys) ≡ u ∷ (us ++ vs) = e in cc)) (let h : x ∷ (xs ++ ys)
    ≡ u ∷ (us ++ vs) = e in cc)
  where
    more : CutFirst xs ys us vs → x ≡ u → CutFirst (x ∷ xs) ys (u ∷ us) vs
    more (left p is rest) same = left p (let h : us ≡ xs ++ p = is in cc) rest
    more (right p is rest) same = right p (let h : xs ≡ us ++ p = is in cc) rest

take-all : (n : ℕ) (xs : List ℕ) → length xs ≡ n → take n xs ≡ xs
take-all n xs e = take_all n xs (omega arith)

-- what comes of a piece without a fault
record IsWell (role : Role) (client_config : Config Client) (server_config : Config Server) (theirs : History)
    (fed written piece : List ℕ) (new : Feeding) : Type 0 where
  none : (fault : Fault) → new.outcome ≢ Found fault
  after : History
  pair : PairOf role client_config server_config after theirs
  stands : EndpointStandsFor role (config_of role client_config server_config) new.endpoint after
      (fed ++ take new.taken piece) written

-- an end that takes frames has read what stands before them
takes-opened : (role : Role) (phase : Phase) (opened : Bool) → takes_frames phase ≡ true
    → awaits_opening role phase ≡ not opened → opened ≡ true
takes-opened role phase true t e = refl
takes-opened Client phase false t e = absurd (false≢true e)
takes-opened Server (Handshake AwaitsProtocolHeader) false t e = absurd (false≢true t)
takes-opened Server (Handshake AwaitsStart) false t e = absurd (false≢true e)
takes-opened Server (Handshake AwaitsStartOk) false t e = absurd (false≢true e)
takes-opened Server (Handshake AwaitsTune) false t e = absurd (false≢true e)
takes-opened Server (Handshake AwaitsTuneOk) false t e = absurd (false≢true e)
takes-opened Server (Handshake AwaitsOpen) false t e = absurd (false≢true e)
takes-opened Server (Handshake AwaitsOpenOk) false t e = absurd (false≢true e)
takes-opened Server (Handshake HoldsStart) false t e = absurd (false≢true e)
takes-opened Server (Handshake HoldsLogin) false t e = absurd (false≢true e)
takes-opened Server (Handshake HoldsOpen) false t e = absurd (false≢true e)
takes-opened Server Running false t e = absurd (false≢true e)
takes-opened Server Phase.Closing false t e = absurd (false≢true e)
takes-opened Server Closed false t e = absurd (false≢true t)
takes-opened Server Failed false t e = absurd (false≢true t)

greets-pair : (role : Role) (client_config : Config Client) (server_config : Config Server) (mine theirs : History)
    (phase : Phase) → awaits_opening role phase ≡ true → mine ≡ []
    → PairOf role client_config server_config mine theirs
    → PairOf role client_config server_config
    (then_put (map frame_of (owed_at_start role (config_of role client_config server_config))) mine) theirs
greets-pair Client client_config server_config mine theirs phase awaits none pair = absurd (false≢true awaits)
greets-pair Server client_config server_config mine theirs phase awaits none pair =
    subst (λ h. PairOf Server client_config server_config (then_put (map frame_of (owed_at_start Server server_config)) h)
    theirs) (sym none)
    (server_goes {taken = None} (subst (λ h. PairOf Server client_config server_config h theirs) none pair) tt greets)

module _ (reads : MethodReadsBack) (role : Role) (client_config : Config Client) (server_config : Config Server)
    (mine theirs : History) (endpoint : Endpoint) (fed written piece later : List ℕ)
    (next : IsFedNext role client_config server_config mine theirs endpoint fed written piece later) where
  -- a frame that is whole comes next, and is taken
  whole-taken : (n : ℕ) (frame : Frame)
      → IsWhole (frame_limit endpoint.end.agreed) (endpoint.unfinished ++ take n piece) frame
      → ComesNext theirs mine frame × TakesWithoutFault role client_config server_config mine frame
  whole-taken n frame whole =
      let carried : Carries role (frame_limit endpoint.end.agreed) mine theirs (fed ++ (piece ++ later)) fed
      endpoint.unfinished (piece ++ later) =
      record { put_as = next.put_as; fed_as = next.stands.read; put_is = refl } in
      let comes = completed-comes-next role (frame_limit endpoint.end.agreed) mine theirs (fed ++ (piece ++ later)) fed
      endpoint.unfinished (piece ++ later) frame (take n piece) (drop n piece ++ later) carried
      (ap (λ l. l ++ later) (sym (take-append-drop n piece)) ∙ append_assoc (take n piece) (drop n piece) later)
      whole.is_frame whole.fits in
      (comes, takes-what-comes-next reads role client_config server_config mine theirs frame next.pair comes)

  no-verdict : (frame : Frame) (fault : Fault) → TakesWithoutFault role client_config server_config mine frame
      → end_verdict (config_of role client_config server_config) endpoint.end frame ≡ Faults fault → ⊥
  no-verdict frame fault well e =
      let same = end-stands role (config_of role client_config server_config) endpoint.end mine next.stands.stands in
      true≢false (sym well.goes
      ∙ (ap (λ x. goes_on (end_verdict (config_of role client_config server_config) x frame)) same ∙ ap goes_on e))

  -- what waits begins with a frame that can be taken, so no octets of it show a fault
  by-waiting : (n : ℕ) (kind : FrameFaultKind)
      → TellsLast (frame_limit endpoint.end.agreed) (endpoint.unfinished ++ take n piece) kind
      → IsRest (frame_limit endpoint.end.agreed) endpoint.unfinished → (waiting : List Frame) → AllFit waiting
      → endpoint.unfinished ++ (piece ++ later) ≡ stream waiting → ⊥
  by-waiting n kind told rest [] fit e = next.some (none-left endpoint.unfinished e)
    where
      none-left : (xs : List ℕ) → xs ++ (piece ++ later) ≡ [] → piece ≡ []
      none-left xs e = (both-none piece later (both-none xs (piece ++ later) e).1).0
  by-waiting n kind told rest (f ∷ more) fit e =
      by-cut (cut-first (octets f) (stream more) endpoint.unfinished (piece ++ later) (sym e))
    where
      all : Tells (frame_limit endpoint.end.agreed) (endpoint.unfinished ++ take n piece) kind
      all =
          subst (λ xs. Tells (frame_limit endpoint.end.agreed) xs kind)
          (take-all (told.place + 1) (endpoint.unfinished ++ take n piece) told.last) told.told.told

      by-cut : CutFirst (octets f) (stream more) endpoint.unfinished (piece ++ later) → ⊥
      by-cut (left p is over) = rest.no_frame (f, p, fit.0, is)
      by-cut (right p is over) =
          let carried : Carries role (frame_limit endpoint.end.agreed) mine theirs (fed ++ (piece ++ later)) fed
          endpoint.unfinished (piece ++ later) =
          record { put_as = next.put_as; fed_as = next.stands.read; put_is = refl } in
          let comes = completed-comes-next role (frame_limit endpoint.end.agreed) mine theirs (fed ++ (piece ++ later))
          fed endpoint.unfinished (piece ++ later) f p (stream more) carried over (sym is) fit.0 in
          let well = takes-what-comes-next reads role client_config server_config mine theirs f next.pair comes in
          let same = end-stands role (config_of role client_config server_config) endpoint.end
          mine next.stands.stands in
          let within : frame_length f ≤ frame_limit endpoint.end.agreed =
          subst (λ (x : End). frame_length f ≤ frame_limit x.agreed) same well.can.within in
          begun_prefix_tells_none (frame_limit endpoint.end.agreed) f (endpoint.unfinished ++ take n piece)
          (drop n piece ++ later) (stream more) kind fit.0 within
          (sym e ∙ (ap (λ l. endpoint.unfinished ++ l) (ap (λ l. l ++ later) (sym (take-append-drop n piece))
          ∙ append_assoc (take n piece) (drop n piece) later)
          ∙ sym (append_assoc endpoint.unfinished (take n piece) (drop n piece ++ later)))) all

  no-tell : (n : ℕ) (kind : FrameFaultKind) → takes_frames endpoint.end.phase ≡ true
      → TellsLast (frame_limit endpoint.end.agreed) (endpoint.unfinished ++ take n piece) kind → ⊥
  no-tell n kind phase told =
      let opened = takes-opened role endpoint.end.phase (has_opened role mine) phase next.stands.opens in
      let carried : Carries role (frame_limit endpoint.end.agreed) mine theirs (fed ++ (piece ++ later)) fed
      endpoint.unfinished (piece ++ later) =
      record { put_as = next.put_as; fed_as = next.stands.read; put_is = refl } in
      let flight = in-flight role (frame_limit endpoint.end.agreed) mine theirs (fed ++ (piece ++ later)) fed
      endpoint.unfinished (piece ++ later) carried opened in
      by-waiting n kind told (rest-of next.stands.read opened) flight.waiting flight.fit flight.octets_are
    where
      rest-of : FedAs role (frame_limit endpoint.end.agreed) mine fed endpoint.unfinished
          → has_opened role mine ≡ true → IsRest (frame_limit endpoint.end.agreed) endpoint.unfinished
      rest-of (FedAs.in_frames has fed_is fits is_rest) opened = is_rest
      rest-of (FedAs.in_opening missing some opening none is) opened =
          absurd (not-opened role mine fed missing some opening none opened)

  -- the octets of the opening are those that the other puts
  no-difference : (n : ℕ) (limit : ℕ) → awaits_opening role endpoint.end.phase ≡ true
      → FailedAt role limit mine (fed ++ take n piece) → ⊥
  no-difference n limit awaits (FailedAt.off_opening prefix more octet wanted opening fed_is apart none) =
      let whole : (prefix ++ octet ∷ []) ++ (drop n piece ++ later) ≡ (prefix ++ wanted ∷ more)
      ++ stream next.put_as.departing =
      ap (λ l. l ++ (drop n piece ++ later)) (sym fed_is)
      ∙ (append_assoc fed (take n piece) (drop n piece ++ later)
      ∙ (ap (λ l. fed ++ l) (sym (ap (λ l. l ++ later) (sym (take-append-drop n piece))
      ∙ append_assoc (take n piece) (drop n piece) later))
      ∙ (next.put_as.octets_are
      ∙ ap (λ l. l ++ stream next.put_as.departing) opening))) in
      let tails : octet ∷ (drop n piece ++ later) ≡ wanted ∷ (more ++ stream next.put_as.departing) =
      append_cancel_left prefix _ _ (sym (append_assoc prefix (octet ∷ []) (drop n piece ++ later))
      ∙ (whole ∙ append_assoc prefix (wanted ∷ more) (stream next.put_as.departing))) in
      apart cc
  no-difference n limit awaits (FailedAt.at_frame earlier last is opened fed_is fit) =
      true≢false (sym awaits ∙ (next.stands.opens ∙ ap not opened))
  no-difference n limit awaits (FailedAt.in_rest rest place kind opened fed_is fit long told) =
      true≢false (sym awaits ∙ (next.stands.opens ∙ ap not opened))

  by-follows : (new : Feeding)
      → Follows role (config_of role client_config server_config) endpoint mine fed written piece new
      → IsWell role client_config server_config theirs fed written piece new
  by-follows new (waits outcome stands) =
      record {
        none = λ fault e. let h : Unfinished ≡ Found fault = sym outcome ∙ e in
            cc;
        after = mine;
        pair = next.pair.pair;
        stands = stands;
      }
  by-follows new (greets_then awaits none outcome stands) =
      record {
        none = λ fault e. let h = sym outcome ∙ e in
            cc;
        after = _;
        pair = greets-pair role client_config server_config mine theirs endpoint.end.phase awaits none
            next.pair.pair;
        stands = stands;
      }
  by-follows new (takes frame phase whole goes outcome stands) =
      let well = whole-taken new.taken frame whole in
      let same = end-stands role (config_of role client_config server_config) endpoint.end mine next.stands.stands in
      let step = (end-steps role (config_of role client_config server_config) endpoint.end mine
      next.stands.stands).takes frame (subst (λ x. CanTake x frame) same well.1.can) goes in
      record {
        none = λ fault e. let h = sym outcome ∙ e in
            cc;
        after = _;
        pair = step-stays-pair role client_config server_config mine theirs (Some frame) _ next.pair.pair
            well.0 step;
        stands = stands;
      }
  by-follows new (faults frame fault phase whole verdict outcome failed) =
      absurd (no-verdict frame fault (whole-taken new.taken frame whole).1 verdict)
  by-follows new (tells kind phase told outcome failed) = absurd (no-tell new.taken kind phase told)
  by-follows new (differs awaits outcome failed) =
      absurd (no-difference new.taken (frame_limit endpoint.end.agreed) awaits failed.read)
  by-follows new (refuses closed is) =
      let same = end-stands role (config_of role client_config server_config) endpoint.end mine next.stands.stands in
      let none = nothing-waits-for-closed reads role client_config server_config mine theirs
      (frame_limit endpoint.end.agreed) (fed ++ (piece ++ later)) fed endpoint.unfinished (piece ++ later) next.pair
      (record { put_as = next.put_as; fed_as = next.stands.read; put_is = refl })
      (ap (λ (x : End). x.phase) same ∙ closed) in
      absurd (next.some (both-none piece later none.1).0)

  fed-well : IsWell role client_config server_config theirs fed written piece
      (after_feed role (config_of role client_config server_config) endpoint piece)
  fed-well =
      by-follows (after_feed role (config_of role client_config server_config) endpoint piece)
      (feed-follows reads role (config_of role client_config server_config) endpoint mine fed written piece next.stands
      next.are_octets (writes-of role client_config server_config next.pair.client_writes next.pair.server_writes))

pub finds-no-fault-with-octets : (reads : MethodReadsBack) (role : Role) (client_config : Config Client)
    (server_config : Config Server) (mine theirs : History) (endpoint : Endpoint) (fed written piece later : List ℕ)
    → FindsNoFaultWithOctets role client_config server_config mine theirs endpoint fed written piece later
finds-no-fault-with-octets reads role client_config server_config mine theirs endpoint fed written piece later next =
    (fed-well reads role client_config server_config mine theirs endpoint fed written piece later next).none

pub feed-stays-pair : (reads : MethodReadsBack) (role : Role) (client_config : Config Client)
    (server_config : Config Server) (mine theirs : History) (endpoint : Endpoint) (fed written piece later : List ℕ)
    → FeedStaysPair role client_config server_config mine theirs endpoint fed written piece later
feed-stays-pair reads role client_config server_config mine theirs endpoint fed written piece later next =
    let well = fed-well reads role client_config server_config mine theirs endpoint fed written piece later next in
    record { after = well.after; pair = well.pair; stands = well.stands }

-- Whatever history follows.
pub grown-stays-pair : (reads : MethodReadsBack) (role : Role) (client_config : Config Client)
    (server_config : Config Server) (mine theirs : History) (endpoint : Endpoint) (fed written piece later : List ℕ)
    (after : History)
    → GrownStaysPair role client_config server_config mine theirs endpoint fed written piece later after
grown-stays-pair reads role client_config server_config mine theirs endpoint fed written piece later after next grows =
    record { client_writes = next.pair.client_writes; server_writes = next.pair.server_writes; pair = go after grows }
  where
    config : Config role
    config = config_of role client_config server_config

    never : (fault : Fault) → (after_feed role config endpoint piece).outcome ≡ Found fault → ⊥
    never fault e =
        finds-no-fault-with-octets reads role client_config server_config mine theirs endpoint fed
        written piece later next fault e

    go : (then : History) → Grows role config endpoint piece (after_feed role config endpoint piece) mine then
        → PairOf role client_config server_config then theirs
    go then (Grows.waits outcome) = next.pair.pair
    go then (Grows.greets awaits none outcome) =
        greets-pair role client_config server_config mine theirs endpoint.end.phase awaits none next.pair.pair
    go then (Grows.takes frame phase whole goes outcome) =
        let well = whole-taken reads role client_config server_config mine theirs endpoint fed written piece later next
        (after_feed role config endpoint piece).taken frame whole in
        let same = end-stands role config endpoint.end mine next.stands.stands in
        let step = (end-steps role config endpoint.end mine next.stands.stands).takes frame
        (subst (λ x. CanTake x frame) same well.1.can) goes in
        step-stays-pair role client_config server_config mine theirs (Some frame) _ next.pair.pair well.0 step
    go then (Grows.faults frame fault phase whole verdict outcome) = absurd (never fault outcome)
    go then (Grows.tells kind phase shows outcome) = absurd (never (fault_told kind) outcome)
    go then (Grows.differs awaits outcome) = absurd (never WrongProtocolHeader outcome)
    go then (Grows.refuses fault over is) = absurd (never fault (ap (λ (f : Feeding). f.outcome) is))
