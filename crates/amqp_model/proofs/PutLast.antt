-- After a connection.close or close-ok an end puts only these.
use Rattle.std.proofs.Common.{◌≡◌, Bool, true, false, cond, ◌&&◌, ◌||◌, ℕ, zero, suc, ◌==◌, List}
use Rattle.std.proofs.Common.{[], ◌∷◌, ◌++◌, All, map, Option, Some, None, refl, sym, ap, ◌∙◌, subst}
use Rattle.std.proofs.Common.{append_assoc, append-nil}
use Rattle.std.proofs.lemmas.Bool.{false≢true, true≢false, and_parts, eqb-true}
use Rattle.std.proofs.lemmas.List.Elements.{All-nil, All-cons}
use Rattle.amqp_method.specs.Arguments.{Argument}
use Rattle.amqp_method.specs.declared.kinds.Kind.TheVariants as kinds
use Rattle.amqp_model.specs.Wire.Frame.{Frame}
use Rattle.amqp_model.specs.Wire.Notes.{Role, Server}
use Rattle.amqp_model.specs.Output.Arrangement.{is_leaving}
use Rattle.amqp_model.specs.Output.Outputs.{Output}
use Rattle.amqp_model.specs.Output.Departures.{LeavesLast}
use Rattle.amqp_model.specs.Wire.Methods.{MethodKind, Method, ReadsBack, same_kind}
use Rattle.amqp_model.specs.Wire.Contents.{Payload}
use Rattle.amqp_model.specs.Wire.Readings.{Reading, Calls, reading, is_call}
use Rattle.amqp_model.specs.History.Histories.{Put, Took, History, PutHere, TookHere}
use Rattle.amqp_model.specs.End.Channels.{Channel, Free, Phase, Handshake, Running, Closed, Failed, Agreed, End}
use Rattle.amqp_model.specs.History.Negotiation.{Config, Hello, OfServer}
use Rattle.amqp_model.specs.History.Negotiation as negotiation
use Rattle.amqp_model.specs.End.StateFromHistory.{end_from}
use Rattle.amqp_model.specs.End.Closes.{close_as, FrameError, Owed, method_frame, frame_of, connection_close}
use Rattle.amqp_model.specs.End.Closes.{connection_close_ok}
use Rattle.amqp_model.specs.End.Events.{Event, FrameVerdict, Proceeds, RefusesContent, Faults, Fault, Peer}
use Rattle.amqp_model.specs.End.FrameVerdict.{Facts, verdict_on, methods_put}
use Rattle.amqp_model.specs.End.Asks.{Ask, Refusal, lowest_free, opens_on, payload_frame, message_payloads, frame_max}
use Rattle.amqp_model.specs.End.Asks.{frames_asked, method_asked, refusal, Puts}
use Rattle.amqp_model.specs.End.EndVerdict.{facts_at, end_verdict, goes_on, takes_frames, CanTake}
use Rattle.amqp_model.specs.End.ReadingBack.{WritesReadBack}
use Rattle.amqp_model.specs.End.LawfulHistories.{then_put, then_taken, Goes, greets, takes, faults, meets_too_large}
use Rattle.amqp_model.specs.End.LawfulHistories.{fails, asks, controls, Lawful, begun, goes}
use Rattle.amqp_model.specs.End.Machine.{phase_taken, phase_put, end_after, end_after_owed, end_after_put, StandsFor}
use Rattle.amqp_model.specs.Laws.EndLaws.{is_over}
use Rattle.amqp_model.specs.Stream.Octets.{frames_put}
use Rattle.amqp_model.specs.Laws.LeavingLaws.{ClosesArePutLast, OctetsArePutAs}
use Rattle.amqp_model.proofs.Acting.{reads-back}
use Rattle.amqp_model.proofs.Agreeing.{facts_in}
use Rattle.amqp_model.proofs.Elsewhere.{Each, IsMild, each-owed}
use Rattle.amqp_model.proofs.Asking.{Accepted, accepted, accepted-none, not-when, first-false, frame-channel}
use Rattle.amqp_model.proofs.FrameSteps.{not-failed, frame-follows}
use Rattle.amqp_model.proofs.AskSteps.{is-running, asks-follow}
use Rattle.amqp_model.proofs.Walking.{Stands, stands-kept}
use Rattle.amqp_model.proofs.Controlling.{OneAtZero, one, at_beat, at_method, at_close, control-kept, control-goes}
use Rattle.amqp_model.proofs.Controlling.{puts-at-zero}
use Rattle.amqp_model.proofs.Lawfulness.{lawful-stands}
use Rattle.amqp_model.proofs.Departing.{output-in-order}
use Rattle.amqp_model.proofs.LeavingLast.{put-as}
use Rattle.amqp_model.proofs.Departures.{is_departure, names-departure}

abbrev NoneLeave : List Frame → Type 0
NoneLeave [] = Unit {0}
NoneLeave (f ∷ later) = (is_leaving f ≡ false) × NoneLeave later

abbrev AllLeave : List Frame → Type 0
AllLeave [] = Unit {0}
AllLeave (f ∷ later) = (is_leaving f ≡ true) × AllLeave later

none-append : (xs ys : List Frame) → NoneLeave xs → NoneLeave ys → NoneLeave (xs ++ ys)
none-append [] ys a b = b
none-append (x ∷ xs) ys a b = (a.0, none-append xs ys a.1 b)

all-append : (xs ys : List Frame) → AllLeave xs → AllLeave ys → AllLeave (xs ++ ys)
all-append [] ys a b = b
all-append (x ∷ xs) ys a b = (a.0, all-append xs ys a.1 b)

-- frames that don't leave, and after them frames that do
record Parted (frames : List Frame) : Type 0 where
  plain : List Frame
  leaving : List Frame
  frames_are : frames ≡ plain ++ leaving
  none : NoneLeave plain
  all : AllLeave leaving

parted-none : (frames : List Frame) → NoneLeave frames → Parted frames
parted-none frames none =
    record { plain = frames; leaving = []; frames_are = sym (append-nil frames); none = none; all = tt }

parted-more : (frames more : List Frame) → Parted frames → AllLeave more → Parted (frames ++ more)
parted-more frames more p all = record {
  plain = p.plain;
  leaving = p.leaving ++ more;
  frames_are = ap (λ l. l ++ more) p.frames_are ∙ append_assoc p.plain p.leaving more;
  none = p.none;
  all = all-append p.leaving more p.all all;
}

all-of : (frames : List Frame) → AllLeave frames → All (λ g. is_leaving g ≡ true) frames
all-of [] all = All-nil (λ g. is_leaving g ≡ true)
all-of (f ∷ later) all = All-cons (λ g. is_leaving g ≡ true) f later all.0 (all-of later all.1)

all-after : (f : Frame) (beyond before leaving : List Frame) → AllLeave leaving
    → leaving ≡ before ++ f ∷ beyond → AllLeave beyond
all-after f beyond [] leaving all e = (subst AllLeave e all).1
all-after f beyond (y ∷ before) [] all e = absurd cc
all-after f beyond (y ∷ before) (z ∷ leaving) all e =
    all-after f beyond before leaving all.1 (let h : z ∷ leaving ≡ y ∷ (before ++ f ∷ beyond) = e in cc)

parted-last : (frames : List Frame) → Parted frames → LeavesLast frames
parted-last frames p before beyond f e l = all-of beyond (go p.plain p.none before (sym p.frames_are ∙ e))
  where
    go : (plain : List Frame) → NoneLeave plain → (before : List Frame)
        → plain ++ p.leaving ≡ before ++ f ∷ beyond → AllLeave beyond
    go [] none before e = all-after f beyond before p.leaving p.all e
    go (x ∷ plain) none [] e =
        absurd (let same : x ≡ f = (let h : x ∷ (plain ++ p.leaving) ≡ f ∷ beyond = e in cc) in
        true≢false (sym l ∙ (ap is_leaving (sym same) ∙ none.0)))
    go (x ∷ plain) none (y ∷ before) e =
        go plain none.1 before (let h : x ∷ (plain ++ p.leaving) ≡ y ∷ (before ++ f ∷ beyond) = e in cc)

-- frames put one after another
pub put-then : (frames : List Frame) (history : History) → frames_put (then_put frames history)
    ≡ frames_put history ++ frames
put-then [] history = sym (append-nil (frames_put history))
put-then (f ∷ later) history =
    put-then later (Put f ∷ history) ∙ append_assoc (frames_put history) (f ∷ []) later

pub leaving-is : (channel : ℕ) (method : Method) → is_leaving (method_frame channel method)
    ≡ ((channel == 0) && is_departure method.kind)
leaving-is channel method = ap (λ b. (channel == 0) && b) (names-departure method.kind method.args)

never : (b : Bool) → (b && false) ≡ false
never true = refl
never false = refl

mild-stays : (channel : ℕ) (method : Method) → is_departure method.kind ≡ false
    → is_leaving (method_frame channel method) ≡ false
mild-stays channel method e = leaving-is channel method ∙ (ap (λ b. (channel == 0) && b) e ∙ never (channel == 0))

is-mild : (method : Method) → IsMild method → is_departure method.kind ≡ false
is-mild method mild = ap (λ b. b || same_kind method.kind kinds.ConnectionCloseOk) mild.0 ∙ mild.1

-- a frame of a channel above 0
above-stays : (f : Frame) → (f.channel == 0) ≡ false → is_leaving f ≡ false
above-stays f e = simp e

-- The phases after a close.
over-taken : (role : Role) (r : Reading) (phase : Phase) → is_over phase ≡ true
    → is_over (phase_taken role r phase) ≡ true
over-taken role r Phase.Closing o = either (is_call kinds.ConnectionCloseOk r)
  where
    either : (b : Bool) → is_over (cond b Closed Phase.Closing) ≡ true
    either true = refl
    either false = refl
over-taken role r Closed o = refl
over-taken role r Failed o = refl
over-taken role r Running o = absurd (false≢true o)
over-taken role r (Handshake step) o = absurd (false≢true o)

over-put : (role : Role) (r : Reading) (phase : Phase) → is_over phase ≡ true
    → is_over (phase_put role r phase) ≡ true
over-put role r Phase.Closing o = refl
over-put role r Closed o = refl
over-put role r Failed o = refl
over-put role r Running o = absurd (false≢true o)
over-put role r (Handshake step) o = absurd (false≢true o)

over-after-taken : (role : Role) (config : Config role) (c : ℕ) (r : Reading) (frame : Frame) (end : End)
    → is_over end.phase ≡ true → is_over (end_after role config c (TookHere r frame) end).phase ≡ true
over-after-taken role config zero r frame end o = over-taken role r end.phase o
over-after-taken role config (suc m) r frame end o = o

over-after-put : (role : Role) (config : Config role) (c : ℕ) (r : Reading) (frame : Frame) (end : End)
    → is_over end.phase ≡ true → is_over (end_after role config c (PutHere r frame) end).phase ≡ true
over-after-put role config zero r frame end o = over-put role r end.phase o
over-after-put role config (suc m) r frame end o = o

over-owed : (role : Role) (config : Config role) (owed : List Owed) (end : End) → is_over end.phase ≡ true
    → is_over (end_after_owed role config owed end).phase ≡ true
over-owed role config [] end o = o
over-owed role config (owed ∷ later) end o =
    over-owed role config later _ (over-after-put role config owed.channel (Calls owed.method) (frame_of owed) end o)

-- What an end puts as it takes a frame.

abbrev Stays : Owed → Type 0
Stays owed = ((owed.channel == 0) && is_departure owed.method.kind) ≡ false

owed-stay : (owed : List Owed) → Each Stays owed → NoneLeave (map frame_of owed)
owed-stay [] each = tt
owed-stay (owed ∷ later) each = (leaving-is owed.channel owed.method ∙ each.0, owed-stay later each.1)

-- after its own close it answers with close-ok alone
closing-leaves : {role : Role} (config : Config role) (agreed : Option Agreed) (number : ℕ) (channel : Channel)
    (r : Reading)
    → AllLeave
    (map frame_of (methods_put (facts_in config Phase.Closing agreed number channel)
    (verdict_on (facts_in config Phase.Closing agreed number channel) r)))
closing-leaves config agreed number channel r =
    either ((number == 0) && is_call kinds.ConnectionClose r) ((number == 0) && is_call kinds.ConnectionCloseOk r)
  where
    either : (a b : Bool)
        → AllLeave
        (map frame_of (methods_put (facts_in config Phase.Closing agreed number channel)
        (cond a (Proceeds (Some Event.Quiet) (connection_close_ok ∷ []))
        (cond b (Proceeds (Some (Event.ConnectionClosed None)) []) (Proceeds (Some (Event.Discarded number)) [])))))
    either true b = (leaving-is 0 connection_close_ok.method, tt)
    either false true = tt
    either false false = tt

-- a fault costs the connection
fault-leaves : {role : Role} (facts : Facts role) (v : FrameVerdict) → goes_on v ≡ false
    → AllLeave (map frame_of (methods_put facts v))
fault-leaves facts (Proceeds event owed) g = absurd (true≢false g)
fault-leaves facts RefusesContent g = absurd (true≢false g)
fault-leaves facts (Faults (Peer code)) g = by-phase facts.phase refl
  where
    close : is_leaving (frame_of (connection_close code)) ≡ true
    close = leaving-is 0 (connection_close code).method

    by-phase : (phase : Phase) → facts.phase ≡ phase
        → AllLeave (map frame_of (methods_put facts (Faults (Peer code))))
    by-phase Phase.Closing p = simp p tt
    by-phase Running p = simp p (close, tt)
    by-phase (Handshake step) p = simp p (close, tt)
    by-phase Closed p = simp p (close, tt)
    by-phase Failed p = simp p (close, tt)
fault-leaves facts (Faults Fault.Fatal) g = tt
fault-leaves facts (Faults Fault.WrongProtocolHeader) g = tt
fault-leaves facts (Faults Fault.AlreadyClosed) g = tt
fault-leaves facts (Faults Fault.AlreadyFailed) g = tt

-- the other's close is answered with close-ok
pub kind-closes : (kind : MethodKind) → same_kind kind kinds.ConnectionClose ≡ true
    → kind ≡ kinds.ConnectionClose
kind-closes kinds.ConnectionClose e = refl
kind-closes kind e = absurd (false≢true e)

close-leaves : {role : Role} (config : Config role) (phase : Phase) (agreed : Option Agreed) (args : List Argument)
    → is_over phase ≡ false
    → AllLeave
    (map frame_of
    (methods_put (facts_in config phase agreed 0 Free)
    (verdict_on (facts_in config phase agreed 0 Free) (Calls (record { kind = kinds.ConnectionClose; args = args })))))
close-leaves config (Handshake step) agreed args o = (leaving-is 0 connection_close_ok.method, tt)
close-leaves config Running agreed args o = (leaving-is 0 connection_close_ok.method, tt)
close-leaves config Phase.Closing agreed args o = absurd (true≢false o)
close-leaves config Closed agreed args o = absurd (true≢false o)
close-leaves config Failed agreed args o = absurd (true≢false o)

close-ends : (role : Role) (phase : Phase) (args : List Argument) → is_over phase ≡ false
    → is_over (phase_taken role (Calls (record { kind = kinds.ConnectionClose; args = args })) phase) ≡ true
close-ends role (Handshake step) args o = refl
close-ends role Running args o = refl
close-ends role Phase.Closing args o = absurd (true≢false o)
close-ends role Closed args o = absurd (true≢false o)
close-ends role Failed args o = absurd (true≢false o)

-- the frames put part, and none leaves while the connection goes on
record Departs (role : Role) (config : Config role) (failed : Bool) (history : History) : Type 0 where
  parted : Parted (frames_put history)
  calm : failed ≡ false → is_over (end_from role config false history).phase ≡ false
      → NoneLeave (frames_put history)

-- some frames more, by what they are
leave-more : (role : Role) (config : Config role) (failed : Bool) (before history : History) (frames : List Frame)
    → Parted (frames_put before) → AllLeave frames → frames_put history ≡ frames_put before ++ frames
    → (failed ≡ false → is_over (end_from role config false history).phase ≡ true)
    → Departs role config failed history
leave-more role config failed before history frames p all e over = record {
  parted = subst Parted (sym e) (parted-more (frames_put before) frames p all);
  calm = λ goes o. absurd (true≢false (sym (over goes) ∙ o));
}

stay-more : (role : Role) (config : Config role) (failed : Bool) (before history : History) (frames : List Frame)
    → NoneLeave (frames_put before) → NoneLeave frames → frames_put history ≡ frames_put before ++ frames
    → Departs role config failed history
stay-more role config failed before history frames none mild e =
    let all = subst NoneLeave (sym e) (none-append (frames_put before) frames none mild) in
    record { parted = parted-none (frames_put history) all; calm = λ goes o. all }

-- A frame is taken, and the end goes on.
module _ (role : Role) (config : Config role) (back : WritesReadBack role config) (before : History)
    (stands : StandsFor role config false (end_from role config false before) before) (frame : Frame)
    (p : CanTake (end_from role config false before) frame)
    (g : goes_on (end_verdict config (end_from role config false before) frame) ≡ true)
    (departs : Departs role config false before) where
  put-is : frames_put (then_taken config (end_from role config false before) frame before) ≡ frames_put before
      ++ map frame_of (methods_put (facts_at config (end_from role config false before) frame.channel)
      (end_verdict config (end_from role config false before) frame))
  put-is =
      put-then (map frame_of (methods_put (facts_at config (end_from role config false before) frame.channel)
      (end_verdict config (end_from role config false before) frame))) (Took frame ∷ before)

  -- the phase then is over where it is after the frame
  over-then : is_over (end_after role config frame.channel (TookHere (reading frame) frame)
      (end_from role config false before)).phase ≡ true
      → is_over (end_from role config false
      (then_taken config (end_from role config false before) frame before)).phase ≡ true
  over-then o =
      let follows = frame-follows role config (end_from role config false before) before frame back stands g in
      let same = not-failed (end_verdict config (end_from role config false before) frame)
      (end_after_owed role config (methods_put (facts_at config (end_from role config false before) frame.channel)
      (end_verdict config (end_from role config false before) frame))
      (end_after role config frame.channel (TookHere (reading frame) frame) (end_from role config false before))) g in
      ap is_over follows.phase
      ∙ (ap (λ (e : End). is_over e.phase) same
      ∙ over-owed role config (methods_put (facts_at config (end_from role config false before) frame.channel)
      (end_verdict config (end_from role config false before) frame))
      (end_after role config frame.channel (TookHere (reading frame) frame) (end_from role config false before)) o)

  -- the end has left before
  when-over : (phase : Phase) → (end_from role config false before).phase ≡ phase → is_over phase ≡ true
      → Departs role config false (then_taken config (end_from role config false before) frame before)
  when-over Phase.Closing e o =
      leave-more role config false before _ _ departs.parted
      (subst (λ phase.
      AllLeave (map frame_of
      (methods_put (facts_in config phase (end_from role config false before).agreed frame.channel
      ((end_from role config false before).channels frame.channel))
      (verdict_on (facts_in config phase (end_from role config false before).agreed frame.channel
      ((end_from role config false before).channels frame.channel)) (reading frame))))) (sym e)
      (closing-leaves config (end_from role config false before).agreed frame.channel
      ((end_from role config false before).channels frame.channel) (reading frame)))
      put-is (λ goes.
      over-then (over-after-taken role config frame.channel (reading frame) frame
      (end_from role config false before) (ap is_over e)))
  when-over Closed e o = absurd (false≢true (sym (ap takes_frames e) ∙ p.in_phase))
  when-over Failed e o = absurd (false≢true (sym (ap takes_frames e) ∙ p.in_phase))
  when-over Running e o = absurd (false≢true o)
  when-over (Handshake step) e o = absurd (false≢true o)

  -- a frame that is no close
  when-other : NoneLeave (frames_put before) → ((frame.channel == 0) && is_call kinds.ConnectionClose (reading frame))
      ≡ false → Departs role config false (then_taken config (end_from role config false before) frame before)
  when-other none other =
      let each = each-owed (facts_at config (end_from role config false before) frame.channel) Stays (λ method mild.
      is-mild method mild) (λ method mild. ap (λ b. (frame.channel == 0) && b) (is-mild method mild)
      ∙ never (frame.channel == 0)) (reading frame) (λ zero closes.
      absurd (true≢false (sym (both (frame.channel == 0) _ zero closes) ∙ other))) g in
      stay-more role config false before _ _ none (owed-stay _ each) put-is
    where
      both : (a b : Bool) → a ≡ true → b ≡ true → (a && b) ≡ true
      both true true x y = refl
      both true false x y = absurd (false≢true y)
      both false b x y = absurd (false≢true x)

  -- a close
  when-close : is_over (end_from role config false before).phase ≡ false → frame.channel ≡ 0 → (r : Reading)
      → reading frame ≡ r → is_call kinds.ConnectionClose r ≡ true
      → Departs role config false (then_taken config (end_from role config false before) frame before)
  when-close o at_zero (Calls method) e closes =
      let said : reading frame ≡ Calls (record { kind = kinds.ConnectionClose; args = method.args }) = e
      ∙ ap (λ kind. Calls (record { kind = kind; args = method.args })) (kind-closes method.kind closes) in
      leave-more role config false before _ _ departs.parted
      (subst (λ r.
      AllLeave (map frame_of (methods_put (facts_at config (end_from role config false before) frame.channel)
      (verdict_on (facts_at config (end_from role config false before) frame.channel) r)))) (sym said)
      (subst (λ c.
      AllLeave (map frame_of (methods_put (facts_at config (end_from role config false before) c)
      (verdict_on (facts_at config (end_from role config false before) c)
      (Calls (record { kind = kinds.ConnectionClose; args = method.args })))))) (sym at_zero)
      (close-leaves config (end_from role config false before).phase
      (end_from role config false before).agreed method.args o)))
      put-is (λ goes.
      over-then (subst
      (λ c. is_over (end_after role config c (TookHere (reading frame) frame)
      (end_from role config false before)).phase ≡ true) (sym at_zero)
      (subst (λ r. is_over (phase_taken role r (end_from role config false before).phase) ≡ true) (sym said)
      (close-ends role (end_from role config false before).phase method.args o))))
  when-close o at_zero r e closes = absurd (false≢true closes)

  takes-departs : Departs role config false (then_taken config (end_from role config false before) frame before)
  takes-departs = by-over (is_over (end_from role config false before).phase) refl
    where
      by-close : is_over (end_from role config false before).phase ≡ false → (b : Bool)
          → ((frame.channel == 0) && is_call kinds.ConnectionClose (reading frame)) ≡ b
          → Departs role config false (then_taken config (end_from role config false before) frame before)
      by-close o false e = when-other (departs.calm refl o) e
      by-close o true e =
          when-close o (eqb-true frame.channel 0 (and_parts (frame.channel == 0) _ e).0) (reading frame) refl
          (and_parts (frame.channel == 0) _ e).1

      by-over : (b : Bool) → is_over (end_from role config false before).phase ≡ b
          → Departs role config false (then_taken config (end_from role config false before) frame before)
      by-over true o = when-over (end_from role config false before).phase refl o
      by-over false o = by-close o _ refl

-- An ask is accepted.

away : (c : ℕ) (payloads : List Payload) → (c == 0) ≡ false → NoneLeave (map (payload_frame c) payloads)
away c [] e = tt
away c (payload ∷ later) e =
    (above-stays (payload_frame c payload) (ap (λ n. n == 0) (frame-channel c payload) ∙ e), away c later e)

one-opens : (free : Option ℕ) → NoneLeave (opens_on free)
one-opens None = tt
one-opens (Some c) = (mild-stays c (method_asked Ask.Open) refl, tt)

asked-departs : (role : Role) (config : Config role) (back : WritesReadBack role config) (before : History)
    → StandsFor role config false (end_from role config false before) before → (ask : Ask)
    → ReadsBack (method_asked ask) → Accepted role (end_from role config false before) ask
    → StandsFor role config false (end_after_put role config (frames_asked (end_from role config false before) ask)
    (end_from role config false before)) (then_put (frames_asked (end_from role config false before) ask) before)
    → Departs role config false before
    → Departs role config false (then_put (frames_asked (end_from role config false before) ask) before)
asked-departs role config back before stands ask read a after departs = by-ask ask read a after
  where
    running : (ask : Ask) → Accepted role (end_from role config false before) ask
        → (end_from role config false before).phase ≡ Running
    running ask a = is-running (end_from role config false before).phase (not-when _ Refusal.NotRunning a.runs)

    none : (ask : Ask) → Accepted role (end_from role config false before) ask → NoneLeave (frames_put before)
    none ask a = departs.calm refl (ap is_over (running ask a))

    stay : (ask : Ask) → Accepted role (end_from role config false before) ask
        → NoneLeave (frames_asked (end_from role config false before) ask)
        → Departs role config false (then_put (frames_asked (end_from role config false before) ask) before)
    stay ask a mild =
        stay-more role config false before _ _ (none ask a) mild
        (put-then (frames_asked (end_from role config false before) ask) before)

    by-ask : (ask : Ask) → ReadsBack (method_asked ask) → Accepted role (end_from role config false before) ask
        → StandsFor role config false
        (end_after_put role config (frames_asked (end_from role config false before) ask)
        (end_from role config false before)) (then_put (frames_asked (end_from role config false before) ask) before)
        → Departs role config false (then_put (frames_asked (end_from role config false before) ask) before)
    by-ask Ask.Open read a after = stay Ask.Open a (one-opens (lowest_free (end_from role config false before)))
    by-ask (Ask.Send c message) read a after =
        stay (Ask.Send c message) a
        (away c (message_payloads (frame_max (end_from role config false before).agreed) message)
        (first-false (c == 0) _ (not-when _ Refusal.BadChannel a.numbered)))
    by-ask (Ask.Flow c active) read a after =
        stay (Ask.Flow c active) a (mild-stays c (method_asked (Ask.Flow c active)) refl, tt)
    by-ask (Ask.CloseChannel c code text cause) read a after =
        stay (Ask.CloseChannel c code text cause) a
        (mild-stays c (method_asked (Ask.CloseChannel c code text cause)) refl, tt)
    by-ask (Ask.Blocked reason) read a after =
        stay (Ask.Blocked reason) a (mild-stays 0 (method_asked (Ask.Blocked reason)) refl, tt)
    by-ask Ask.Unblocked read a after = stay Ask.Unblocked a (mild-stays 0 (method_asked Ask.Unblocked) refl, tt)
    by-ask (Ask.Close code text cause) read a after =
        leave-more role config false before _ _ departs.parted
        (leaving-is 0 (method_asked (Ask.Close code text cause)), tt)
        (put-then (frames_asked (end_from role config false before) (Ask.Close code text cause)) before)
        (λ goes. ap is_over after.phase
        ∙ subst (λ phase.
        is_over (phase_put role (reading (method_frame 0 (method_asked (Ask.Close code text cause)))) phase) ≡ true)
        (sym (running (Ask.Close code text cause) a)) (subst (λ r. is_over (phase_put role r Running) ≡ true)
        (sym (reads-back 0 (method_asked (Ask.Close code text cause)) read)) refl))

-- What else an application does with the connection is accepted.

close-over : (role : Role) (phase : Phase) (code : ℕ) (text : List ℕ) → is_over phase ≡ false
    → is_over (phase_put role (Calls (close_as kinds.ConnectionClose code text)) phase) ≡ true
close-over role (Handshake step) code text o = refl
close-over role Running code text o = refl
close-over role phase code text o = absurd (true≢false o)

controls-depart : (role : Role) (config : Config role) (before : History) (frames : List Frame)
    → is_over (end_from role config false before).phase ≡ false → OneAtZero frames
    → StandsFor role config false (end_after_put role config frames (end_from role config false before))
    (then_put frames before) → Departs role config false before → Departs role config false (then_put frames before)
controls-depart role config before frames o (one frame at_beat) after departs =
    stay-more role config false before _ _ (departs.calm refl o) (refl, tt) (put-then frames before)
controls-depart role config before frames o (one frame (at_method method back close answer a b)) after departs =
    stay-more role config false before _ _ (departs.calm refl o)
    (mild-stays 0 method (ap (λ b. b || same_kind method.kind kinds.ConnectionCloseOk) close ∙ answer), tt)
    (put-then frames before)
controls-depart role config before frames o (one frame (at_close code text back fits)) after departs =
    leave-more role config false before _ _ departs.parted (leaving-is 0 (close_as kinds.ConnectionClose code text), tt)
    (put-then frames before)
    (λ goes. ap is_over after.phase
    ∙ subst (λ r. is_over (phase_put role r (end_from role config false before).phase) ≡ true)
    (sym (reads-back 0 (close_as kinds.ConnectionClose code text) back))
    (close-over role (end_from role config false before).phase code text o))

start-mild : (config : Config Server) → is_departure (negotiation.start config).kind ≡ false
start-mild config = go config.hello
  where
    go : (hello : Hello Server) → is_departure (negotiation.start (record config { hello = hello })).kind ≡ false
    go (OfServer properties mechanisms locales) = refl

-- any step
goes-departs : (role : Role) (config : Config role) (before : History) (taken : Option Frame) (failed : Bool)
    (after : History) → WritesReadBack role config
    → StandsFor role config false (end_from role config false before) before → Departs role config false before
    → Goes role config before taken failed after → Departs role config failed after
goes-departs role config before taken failed after back stands departs (greets) =
    stay-more Server config false [] _ (method_frame 0 (negotiation.start config) ∷ []) tt
    (mild-stays 0 (negotiation.start config) (start-mild config), tt) refl
goes-departs role config before taken failed after back stands departs (takes frame p g) =
    takes-departs role config back before stands frame p g departs
goes-departs role config before taken failed after back stands departs (faults frame p g) =
    leave-more role config true before _ _ departs.parted
    (fault-leaves (facts_at config (end_from role config false before) frame.channel)
    (end_verdict config (end_from role config false before) frame) g) (put-then _ (Took frame ∷ before))
    (λ e. absurd (true≢false e))
goes-departs role config before taken failed after back stands departs (meets_too_large p) =
    leave-more role config true before _ _ departs.parted
    (fault-leaves (facts_at config (end_from role config false before) 0) (Faults (Peer FrameError)) refl)
    (put-then _ before) (λ e. absurd (true≢false e))
goes-departs role config before taken failed after back stands departs (fails p) =
    record { parted = departs.parted; calm = λ e. absurd (true≢false e) }
goes-departs role config before taken failed after back stands departs (asks ask frames made read e) =
    let parts = accepted-none (refusal role (end_from role config false before) ask)
    (frames_asked (end_from role config false before) ask) frames e in
    let follows = asks-follow role config (end_from role config false before) before ask
    (frames_asked (end_from role config false before) ask) stands read.method made (e ∙ ap Puts (sym parts.1)) in
    subst (λ frames. Departs role config false (then_put frames before)) parts.1
    (asked-departs role config back before stands ask read.method
    (accepted role (end_from role config false before) ask parts.0) follows departs)
goes-departs role config before taken failed after back stands departs (controls control frames read e) =
    let at = puts-at-zero role config (end_from role config false before) control frames back read e in
    controls-depart role config before frames
    (control-goes role config (end_from role config false before) control frames e) at
    (control-kept Stands stands-kept.puts role config (end_from role config false before) before frames stands at)
    departs

lawful-departs : (role : Role) (config : Config role) (failed : Bool) (history : History) → WritesReadBack role config
    → Lawful role config failed history → Departs role config failed history
lawful-departs role config failed history back begun = record { parted = parted-none [] tt; calm = λ goes o. tt }
lawful-departs role config failed history back (goes {before = before} {taken = taken} lawful step) =
    goes-departs role config before taken failed history back (lawful-stands role config false before back lawful)
    (lawful-departs role config false before back lawful) step

pub closes-put-last : (role : Role) (config : Config role) (failed : Bool) (history : History)
    → ClosesArePutLast role config failed history
closes-put-last role config failed history back lawful =
    parted-last (frames_put history) (lawful-departs role config failed history back lawful).parted

pub octets-put-as : (role : Role) (config : Config role) (failed : Bool) (history : History)
    (opening written : List ℕ) (output : Output) → OctetsArePutAs role config failed history opening written output
octets-put-as role config failed history opening written output back lawful out =
    put-as opening _ (frames_put history) (output-in-order opening (frames_put history) written output out)
    (closes-put-last role config failed history back lawful)
