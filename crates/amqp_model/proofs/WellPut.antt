-- What a step of one end puts is well put.
use Rattle.std.proofs.Common.{◌≡◌, ◌≢◌, ◌≤◌, Bool, true, false, not, ◌&&◌, ◌||◌, ℕ, suc}
use Rattle.std.proofs.Common.{◌==◌, arith, List, [], ◌∷◌, ◌++◌, map, length, Option, Some, None, refl}
use Rattle.std.proofs.Common.{sym, ap, ◌∙◌, subst, cond}
use Rattle.std.specs.Prelude.{nat_lt}
use Rattle.std.specs.List.{AllByRecursion}
use Rattle.std.proofs.lemmas.Bool.{false≢true, true≢false, ne_eqb, eqb-false, ltb-false}
use Rattle.amqp_frame.specs.Frame.{frame_length}
use Rattle.amqp_method.specs.declared.kinds.Kind.TheVariants as kinds
use Rattle.amqp_model.specs.Wire.Frame.{Frame}
use Rattle.amqp_model.specs.Wire.Notes.{Role, Client, Server, is_client, Kind, Open, OpenOk, Close, Flow, FlowOk, Other}
use Rattle.amqp_model.specs.History.States.{State}
use Rattle.amqp_model.specs.History.Verdict as lives
use Rattle.amqp_model.specs.History.Verdict.{verdict_at}
use Rattle.amqp_model.specs.Output.Arrangement.{on}
use Rattle.amqp_model.specs.Wire.Methods.{Method, ReadsBack, class_of, sends}
use Rattle.amqp_model.specs.Wire.Contents as contents
use Rattle.amqp_model.specs.Wire.Contents.{Payload, pieces, room_in}
use Rattle.amqp_model.specs.Wire.Readings.{Reading, header_reading, reading}
use Rattle.amqp_model.specs.History.Histories.{History}
use Rattle.amqp_model.specs.End.Channels.{Phase, Handshake, Running, Closed, Failed, Agreed, End}
use Rattle.amqp_model.specs.History.Negotiation.{Config, FRAME_MIN, start_ok_choosing}
use Rattle.amqp_model.specs.End.StateFromHistory.{end_from}
use Rattle.amqp_model.specs.End.Closes.{ContentTooLarge, no_cause, Owed, AllReadBack, method_frame, frame_of, reply_to}
use Rattle.amqp_model.specs.End.Closes.{channel_close}
use Rattle.amqp_model.specs.End.Events.{Message, Plain, Whole, method_of, FrameVerdict}
use Rattle.amqp_model.specs.End.FrameVerdict.{on_channel, verdict_on, methods_put}
use Rattle.amqp_model.specs.End.Asks.{Ask, Refusal, channel_max, frame_max, lowest_free, opens_on, payload_frame}
use Rattle.amqp_model.specs.End.Asks.{message_payloads, method_asked, frames_asked, refusal, Puts, ask_verdict}
use Rattle.amqp_model.specs.End.EndVerdict.{facts_at, end_verdict, end_puts, goes_on}
use Rattle.amqp_model.specs.End.Controls.{Control, heartbeat_frame, control_verdict}
use Rattle.amqp_model.specs.End.ReadingBack.{AskReadsBack, HeaderAskedReadsBack, ControlReadsBack, WritesReadBack}
use Rattle.amqp_model.specs.End.Machine.{StandsFor}
use Rattle.amqp_model.specs.Laws.EndLaws.{is_over, AgreesWithLives, agrees, refuses, FindsLowest}
use Rattle.amqp_model.specs.End.Fitting.{ConfigWrites}
use Rattle.amqp_model.specs.Laws.FittingLaws.{AllWithin}
use Rattle.amqp_model.specs.Pair.WellPut.{SaysWell, calls, heads, fills, beats, IsWellPut}
use Rattle.amqp_model.proofs.Acting.{reads-back}
use Rattle.amqp_model.proofs.Agreeing.{facts_in, is_closing, handshake-stops, frame-agrees}
use Rattle.amqp_model.proofs.Taking.{puts-none}
use Rattle.amqp_model.proofs.Asking.{Accepted, accepted, accepted-none, not-when, frame-channel}
use Rattle.amqp_model.proofs.EndSteps.{not-zero}
use Rattle.amqp_model.proofs.Lowest.{finds-lowest}
use Rattle.amqp_model.proofs.ReadBackOwed.{AllSound, owed-sound, tune-sound, open_ok-sound, connection_close-short}
use Rattle.amqp_model.proofs.ReadBackSizes.{asked-are-within, blocked-short, unblocked-short}
use Rattle.amqp_model.proofs.Footings.{Footing, footing_of}
use Rattle.amqp_model.proofs.Together.{Word, Start, StartOk, OpenAsked, Tune, TuneOk, OpenOk as SaysOpenOk}
use Rattle.amqp_model.proofs.Together.{CloseOk as SaysCloseOk, Unblocked, Close as SaysClose, Blocked, said, owes}
use Rattle.amqp_model.proofs.Together.{spoken, Signal, passing, IsRead}
use Rattle.amqp_model.proofs.Hearing.{AllSent, Hears, choosing-is}
use Rattle.amqp_model.proofs.ZeroSteps.{passing-zero}
use Rattle.amqp_model.proofs.Controlling.{Controlled, beats as puts_beat, admits_login, admits_open, refuses_login}
use Rattle.amqp_model.proofs.Controlling.{refuses_open, answers, control-puts}

abbrev pub AllWell : Role → Agreed → List Frame → Type 0
AllWell role limits frames = AllByRecursion (λ frame. IsWellPut role limits frame) frames

pub all-well-join : (role : Role) (limits : Agreed) (xs ys : List Frame) → AllWell role limits xs
    → AllWell role limits ys → AllWell role limits (xs ++ ys)
all-well-join role limits [] ys a b = b
all-well-join role limits (x ∷ xs) ys a b = (a.0, all-well-join role limits xs ys a.1 b)

-- of the frames of a channel each is one of all
pub all-well-on : (role : Role) (limits : Agreed) (channel : ℕ) (frames : List Frame) → AllWell role limits frames
    → AllWell role limits (on channel frames)
all-well-on role limits channel [] all = tt
all-well-on role limits channel (frame ∷ later) all =
    here (frame.channel == channel) (all-well-on role limits channel later all.1)
  where
    here : (b : Bool) → AllWell role limits (on channel later)
        → AllWell role limits (cond b (frame ∷ on channel later) (on channel later))
    here true more = (all.0, more)
    here false more = more

pub well-at : (role : Role) (limits : Agreed) (before : List Frame) (frame : Frame) (later : List Frame)
    → AllWell role limits (before ++ frame ∷ later) → IsWellPut role limits frame
well-at role limits [] frame later all = all.0
well-at role limits (x ∷ before) frame later all = well-at role limits before frame later all.1

-- ---- words of channel 0

word-class : (word : Word) → (class_of (said word).kind == 10) ≡ true
word-class (Start args) = refl
word-class (StartOk args) = refl
word-class (OpenAsked args) = refl
word-class (Tune channel_max frame_max heartbeat) = refl
word-class (TuneOk agreed) = refl
word-class SaysOpenOk = refl
word-class SaysCloseOk = refl
word-class Unblocked = refl
word-class (SaysClose code text cause) = refl
word-class (Blocked reason) = refl

pub word-well : (role : Role) (limits : Agreed) (word : Word) → ReadsBack (said word)
    → sends (is_client role) (said word).kind ≡ true → frame_length (spoken word) ≤ FRAME_MIN
    → FRAME_MIN ≤ limits.frame_max → IsWellPut role limits (spoken word)
word-well role limits word read sent short least = record {
  says = subst (SaysWell role 0) (sym (reads-back 0 (said word) read)) (calls (said word) sent (word-class word));
  at_zero = λ e. short;
  numbered = omega arith;
  within = omega arith;
}

words-well : (role : Role) (limits : Agreed) → FRAME_MIN ≤ limits.frame_max → (words : List Word)
    → AllReadBack (map owes words) → AllSent role words → AllSound 0 (map owes words)
    → AllWell role limits (map frame_of (map owes words))
words-well role limits least [] read sent sound = tt
words-well role limits least (word ∷ later) read sent sound = (
  word-well role limits word read.0 sent.0 sound.0.short least,
  words-well role limits least
      later read.1 sent.1 sound.1,
)

-- what an end puts where it hears a signal
pub heard-well : (role : Role) (config : Config role) (limits : Agreed) → ConfigWrites config
    → WritesReadBack role config → FRAME_MIN ≤ limits.frame_max
    → (before : History) (signal : Signal) (next : Footing) (words : List Word)
    → Hears role config (footing_of (end_from role config false before)) signal next words → IsRead signal
    → AllWell role limits (end_puts config (end_from role config false before) (passing signal))
heard-well role config limits writes back least before signal next words hears read =
    let end = end_from role config false before in
    let zero : methods_put (facts_at config end 0) (verdict_on (facts_at config end 0) (reading (passing signal)))
    ≡ map owes words = ap (λ r. methods_put (facts_at config end 0) (verdict_on (facts_at config end 0) r)) read
    ∙ hears.puts in
    let owed : methods_put (facts_at config end (passing signal).channel) (end_verdict config end (passing signal))
    ≡ map owes words =
    ap (λ c. methods_put (facts_at config end c) (verdict_on (facts_at config end c) (reading (passing signal))))
    (passing-zero signal) ∙ zero in
    subst (λ l. AllWell role limits (map frame_of l)) (sym owed)
    (words-well role limits least words (subst AllReadBack zero (back.owed end 0 (reading (passing signal)))) hears.sent
    (subst (AllSound 0) zero (owed-sound role (facts_at config end 0) (reading (passing signal)) writes)))

-- ---- methods of a channel above 0

-- methods that the end may send there
abbrev AllMaySay : Role → List Method → Type 0
AllMaySay role methods =
    AllByRecursion (λ (method : Method). (sends (is_client role) method.kind ≡ true)
    × ((class_of method.kind == 10) ≡ false)) methods

methods-well : (role : Role) (limits : Agreed) → FRAME_MIN ≤ limits.frame_max → (m : ℕ)
    → suc m ≤ limits.channel_max → (methods : List Method) → AllMaySay role methods
    → AllReadBack (map (on_channel (suc m)) methods) → AllSound (suc m) (map (on_channel (suc m)) methods)
    → AllWell role limits (map frame_of (map (on_channel (suc m)) methods))
methods-well role limits least m below [] say read sound = tt
methods-well role limits least m below (method ∷ later) say read sound =
    (here, methods-well role limits least m below later say.1 read.1 sound.1)
  where
    here : IsWellPut role limits (method_frame (suc m) method)
    here = record {
      says = subst (SaysWell role (suc m)) (sym (reads-back (suc m) method read.0))
          (calls method say.0.0 (say.0.1 ∙ sym (not-zero m)));
      at_zero = λ e. sound.0.short;
      numbered = below;
      within = let short = sound.0.short in omega arith;
    }

-- the replies to open, flow and close
abbrev RepliesSay : Role → lives.Verdict → Type 0
RepliesSay role (lives.GoesOn event owed) = AllMaySay role (reply_to owed)
RepliesSay role (lives.Fault code) = Unit {0}

replies-say : (role : Role) (state : State) (awaits : Bool) (kind : Kind)
    → RepliesSay role (verdict_at role state awaits kind)
replies-say Client State.Closing awaits Close = ((refl, refl), tt)
replies-say Server State.Closing awaits Close = ((refl, refl), tt)
replies-say role State.Closing awaits kind = tt
replies-say Server State.Free awaits Open = ((refl, refl), tt)
replies-say Server State.Free awaits OpenOk = tt
replies-say Server State.Free awaits kind = tt
replies-say Client State.Free awaits Open = tt
replies-say Client State.Free awaits kind = tt
replies-say Client State.Opening awaits Close = ((refl, refl), tt)
replies-say Server State.Opening awaits Close = ((refl, refl), tt)
replies-say Client State.Opening awaits OpenOk = tt
replies-say Client State.Opening awaits Open = tt
replies-say Client State.Opening awaits kind = tt
replies-say Server State.Opening awaits OpenOk = tt
replies-say Server State.Opening awaits kind = tt
replies-say Client State.Open awaits Close = ((refl, refl), tt)
replies-say Server State.Open awaits Close = ((refl, refl), tt)
replies-say Client State.Open awaits (Flow active) = ((refl, refl), tt)
replies-say Server State.Open awaits (Flow active) = ((refl, refl), tt)
replies-say role State.Open true (FlowOk active) = tt
replies-say role State.Open false (FlowOk active) = tt
replies-say role State.Open awaits (Other begins) = tt
replies-say Server State.Open awaits Open = tt
replies-say role State.Open awaits kind = tt

record SaysHere (role : Role) (number : ℕ) (owed : List Owed) : Type 0 where
  methods : List Method
  are : owed ≡ map (on_channel number) methods
  say : AllMaySay role methods

says-here : {role : Role} (config : Config role) (end : End) (number : ℕ) (r : Reading) (v : FrameVerdict)
    → AgreesWithLives role number (end.channels number) r v
    → SaysHere role number (methods_put (facts_at config end number) v)
says-here {role} config end number r v (agrees event owed told e is) =
    record {
      methods = reply_to owed;
      are = ap (methods_put (facts_at config end number)) is;
      say = subst (RepliesSay role) e (replies-say role _ _ _);
    }
says-here {role} config end number r v (refuses e is) =
    record {
      methods = (channel_close number ContentTooLarge).method ∷ [];
      are = ap (methods_put (facts_at config end number)) is;
      say = (both role, tt);
    }
  where
    both : (role : Role) → (sends (is_client role) kinds.ChannelClose ≡ true)
        × ((class_of kinds.ChannelClose == 10) ≡ false)
    both Client = (refl, refl)
    both Server = (refl, refl)

-- what an end puts where it takes a frame of a channel up to the agreed maximum
pub taken-well : (role : Role) (config : Config role) (limits : Agreed) → ConfigWrites config
    → WritesReadBack role config → FRAME_MIN ≤ limits.frame_max → (before : History)
    → StandsFor role config false (end_from role config false before) before → (frame : Frame) (m : ℕ)
    → frame.channel ≡ suc m → frame.channel ≤ limits.channel_max
    → goes_on (end_verdict config (end_from role config false before) frame) ≡ true
    → AllWell role limits (end_puts config (end_from role config false before) frame)
taken-well role config limits writes back least before stands frame m here below goes = by-phase end.phase refl
  where
    end : End
    end = end_from role config false before

    facts_put : ℕ → List Owed
    facts_put c = methods_put (facts_at config end c) (verdict_on (facts_at config end c) (reading frame))

    not_zero : (frame.channel == 0) ≡ false
    not_zero = ap (λ c. c == 0) here ∙ not-zero m

    stops : (phase : Phase) → end.phase ≡ phase
        → goes_on (verdict_on (facts_in config phase end.agreed frame.channel (end.channels frame.channel))
        (reading frame)) ≡ true
    stops phase p =
        subst (λ p. goes_on (verdict_on (facts_in config p end.agreed frame.channel (end.channels frame.channel))
        (reading frame)) ≡ true) p goes

    by-says : SaysHere role (suc m)
        (methods_put (facts_at config end (suc m)) (verdict_on (facts_at config end (suc m)) (reading frame)))
        → AllWell role limits
        (map frame_of
        (methods_put (facts_at config end (suc m)) (verdict_on (facts_at config end (suc m)) (reading frame))))
    by-says s =
        subst (λ l. AllWell role limits (map frame_of l)) (sym s.are)
        (methods-well role limits least m (subst (λ c. c ≤ limits.channel_max) here below) s.methods s.say
        (subst AllReadBack s.are (back.owed end (suc m) (reading frame)))
        (subst (AllSound (suc m)) s.are (owed-sound role (facts_at config end (suc m)) (reading frame) writes)))

    by-phase : (phase : Phase) → end.phase ≡ phase → AllWell role limits (end_puts config end frame)
    by-phase Running p =
        subst (λ c.
        AllWell role limits
        (map frame_of (methods_put (facts_at config end c) (verdict_on (facts_at config end c) (reading frame)))))
        (sym here)
        (by-says (subst
        (λ c. SaysHere role c
        (methods_put (facts_at config end c) (verdict_on (facts_at config end c) (reading frame)))) here
        (says-here config end frame.channel (reading frame) (end_verdict config end frame)
        (frame-agrees config end.phase end.agreed frame.channel (end.channels frame.channel)
        (ap is_over p) not_zero (reading frame) goes))))
    by-phase Phase.Closing p =
        let none : methods_put (facts_at config end (suc m)) (verdict_on (facts_at config end (suc m)) (reading frame))
        ≡ [] = subst (λ p. methods_put (facts_in config p end.agreed (suc m) (end.channels (suc m)))
        (verdict_on (facts_in config p end.agreed (suc m) (end.channels (suc m))) (reading frame)) ≡ []) (sym p)
        (puts-none config end.agreed m (end.channels (suc m)) (reading frame)) in
        subst (λ c.
        AllWell role limits
        (map frame_of (methods_put (facts_at config end c) (verdict_on (facts_at config end c) (reading frame)))))
        (sym here) (by-says (record { methods = []; are = none; say = tt }))
    by-phase (Handshake step) p =
        handshake-stops config step end.agreed frame.channel (end.channels frame.channel)
        (ap is_closing (stands.free_before step p frame.channel)) not_zero (reading frame) (stops (Handshake step) p)
    by-phase Closed p = absurd (false≢true (stops Closed p))
    by-phase Failed p = absurd (false≢true (stops Failed p))

-- ---- asks

-- a number that was not refused
abbrev IsNumber : Agreed → ℕ → Type 0
IsNumber limits c = (c ≢ 0) × (c ≤ limits.channel_max)

number-is : (limits : Agreed) (c : ℕ) → ((c == 0) || nat_lt limits.channel_max c) ≡ false → IsNumber limits c
number-is limits c e = by (c == 0) refl (nat_lt limits.channel_max c) refl e
  where
    by : (a : Bool) → (c == 0) ≡ a → (b : Bool) → nat_lt limits.channel_max c ≡ b
        → (a || b) ≡ false → IsNumber limits c
    by true a b l e = absurd (true≢false e)
    by false a true l e = absurd (true≢false e)
    by false a false l e = (eqb-false c 0 a, ltb-false limits.channel_max c l)

-- the payload says well what it is
abbrev SaysPayload : Role → (channel : ℕ) → Payload → Type 0
SaysPayload role channel payload = SaysWell role channel (reading (payload_frame channel payload))

payloads-well : (role : Role) (limits : Agreed) (c : ℕ) → IsNumber limits c → (payloads : List Payload)
    → AllByRecursion (SaysPayload role c) payloads → AllWithin limits.frame_max (map (payload_frame c) payloads)
    → AllWell role limits (map (payload_frame c) payloads)
payloads-well role limits c number [] say within = tt
payloads-well role limits c number (payload ∷ later) say within =
    let at = frame-channel c payload in (
      record {
        says = subst (λ n. SaysWell role n (reading (payload_frame c payload))) (sym at) say.0;
        at_zero = λ e. absurd (number.0 (sym at ∙ e));
        numbered =
            subst (λ n. n ≤ limits.channel_max) (sym at) number.1;
        within = within.0;
      },
      payloads-well role limits c
          number later say.1 within.1,
    )

bodies-say : (role : Role) (c : ℕ) → c ≢ 0 → (parts : List (List ℕ))
    → AllByRecursion (SaysPayload role c) (map contents.Body parts)
bodies-say role c above [] = tt
bodies-say role c above (part ∷ later) = (fills part above, bodies-say role c above later)

-- one method above channel 0
one-well : (role : Role) (limits : Agreed) (c : ℕ) (method : Method) → IsNumber limits c → ReadsBack method
    → sends (is_client role) method.kind ≡ true → (class_of method.kind == 10) ≡ false
    → AllWithin limits.frame_max (method_frame c method ∷ []) → AllWell role limits (method_frame c method ∷ [])
one-well role limits c method number read sent class within = (
  record {
    says = subst (SaysWell role c) (sym (reads-back c method read))
        (calls method sent (class ∙ sym (ne_eqb c 0 number.0)));
    at_zero = λ e. absurd (number.0 e);
    numbered =
        number.1;
    within = within.0;
  },
  tt,
)

three : (a b c : Bool) → (a && not b && not c) ≡ true → (a ≡ true) × (b ≡ false)
three true false false e = (refl, refl)
three true false true e = absurd (false≢true e)
three true true c e = absurd (false≢true e)
three false b c e = absurd (false≢true e)

not-false : (b : Bool) → not b ≡ false → b ≡ true
not-false true e = refl
not-false false e = absurd (true≢false e)

both-send : (role : Role) → (sends (is_client role) kinds.ChannelFlow ≡ true)
    × (sends (is_client role) kinds.ChannelClose ≡ true) × (sends (is_client role) kinds.ConnectionClose ≡ true)
both-send Client = (refl, refl, refl)
both-send Server = (refl, refl, refl)

module _ (role : Role) (limits : Agreed) (end : End) (agreed : end.agreed ≡ Some limits)
    (least : FRAME_MIN ≤ limits.frame_max) where
  number-of : (c : ℕ) → ((c == 0) || nat_lt (channel_max end.agreed) c) ≡ false → IsNumber limits c
  number-of c e = number-is limits c (subst (λ a. ((c == 0) || nat_lt (channel_max a) c) ≡ false) agreed e)

  within-of : (frames : List Frame) → AllWithin (frame_max end.agreed) frames → AllWithin limits.frame_max frames
  within-of frames within = subst (λ a. AllWithin (frame_max a) frames) agreed within

  opens-well : (role : Role) → role ≡ Client → (free : Option ℕ) → ReadsBack (method_asked Ask.Open)
      → FindsLowest end.channels (channel_max end.agreed) 1 free → AllWithin limits.frame_max (opens_on free)
      → AllWell role limits (opens_on free)
  opens-well role is None read found within = tt
  opens-well Server is (Some c) read found within = absurd cc
  opens-well Client is (Some c) read found within =
      let most : c ≤ channel_max end.agreed = (let below = found.below_end in omega arith) in
      one-well Client limits c (method_asked Ask.Open) (
        (λ e. let least = found.at_least in let h : c ≡ 0 = e in
            absurd (omega arith)),
        subst (λ a. c ≤ channel_max a) agreed most,
      ) read refl refl within

  by-ask : (ask : Ask) → AskReadsBack ask → Accepted role end ask
      → AllWithin limits.frame_max (frames_asked end ask) → AllWell role limits (frames_asked end ask)
  by-ask Ask.Open back a within =
      opens-well role (opener role a) (lowest_free end) back.method
      (finds-lowest end.channels (channel_max end.agreed) 1) within
    where
      opener : (role : Role) → Accepted role end Ask.Open → role ≡ Client
      opener Client a = refl
      opener Server a = absurd (let h = a.sendable in cc)
  by-ask (Ask.Send c message) back a within =
      payloads-well role limits c number (message_payloads (frame_max end.agreed) message)
      (say message back.method back.header sendable.0 sendable.1) within
    where
      number : IsNumber limits c
      number = number-of c (not-when _ Refusal.BadChannel a.numbered)

      sendable : (sends (is_client role) (method_of message).kind ≡ true)
          × ((class_of (method_of message).kind == 10) ≡ false)
      sendable =
          three (sends (is_client role) (method_of message).kind) (class_of (method_of message).kind == 10)
          (class_of (method_of message).kind == 20) (not-false _ (not-when _ Refusal.NotSendable a.sendable))

      calls-it : (method : Method) → ReadsBack method → sends (is_client role) method.kind ≡ true
          → (class_of method.kind == 10) ≡ false → SaysPayload role c (contents.Calls method)
      calls-it method read sent class =
          subst (SaysWell role c) (sym (reads-back c method read))
          (calls method sent (class ∙ sym (ne_eqb c 0 number.0)))

      say : (message : Message) → ReadsBack (method_of message) → HeaderAskedReadsBack (Ask.Send c message)
          → sends (is_client role) (method_of message).kind ≡ true → (class_of (method_of message).kind == 10)
          ≡ false → AllByRecursion (SaysPayload role c) (message_payloads (frame_max end.agreed) message)
      say (Plain method) read header sent class = (calls-it method read sent class, tt)
      say (Whole content) read header sent class = (
        calls-it content.method read sent class,
        (
          subst (λ h. SaysWell role c (header_reading h)) (sym header)
              (heads (length content.body) content.properties number.0),
          bodies-say role c number.0
              (pieces (room_in (frame_max end.agreed)) content.body),
        ),
      )
  by-ask (Ask.Flow c active) back a within =
      one-well role limits c (method_asked (Ask.Flow c active)) (number-of c (not-when _ Refusal.BadChannel a.numbered))
      back.method (both-send role).0 refl within
  by-ask (Ask.CloseChannel c code text cause) back a within =
      one-well role limits c (method_asked (Ask.CloseChannel c code text cause))
      (number-of c (not-when _ Refusal.BadChannel a.numbered)) back.method (both-send role).1 refl within
  by-ask (Ask.Close code text cause) back a within = (
    word-well role limits (SaysClose code text cause) back.method (both-send role).2
        (connection_close-short 0 code text cause back.text.0) least,
    tt,
  )
  by-ask (Ask.Blocked reason) back a within =
      (word-well role limits (Blocked reason) back.method (server role a) (blocked-short reason back.text.0) least, tt)
    where
      server : (role : Role) → Accepted role end (Ask.Blocked reason)
          → sends (is_client role) kinds.ConnectionBlocked ≡ true
      server Server a = refl
      server Client a = absurd (let h = a.sendable in cc)
  by-ask Ask.Unblocked back a within =
      (word-well role limits Unblocked back.method (server role a) unblocked-short least, tt)
    where
      server : (role : Role) → Accepted role end Ask.Unblocked
          → sends (is_client role) kinds.ConnectionUnblocked ≡ true
      server Server a = refl
      server Client a = absurd (let h = a.sendable in cc)

  pub asked-well : (ask : Ask) (frames : List Frame) → AskReadsBack ask → ask_verdict role end ask ≡ Puts frames
      → AllWell role limits frames
  asked-well ask frames back e =
      let parts = accepted-none (refusal role end ask) (frames_asked end ask) frames e in
      let within =
      asked-are-within role end ask frames back (subst (λ a. FRAME_MIN ≤ frame_max a) (sym agreed) least) e in
      subst (AllWell role limits) parts.1
      (by-ask ask back (accepted role end ask parts.0)
      (within-of (frames_asked end ask) (subst (AllWithin (frame_max end.agreed)) (sym parts.1) within)))

-- ---- what else an application does with the connection

beat-well : (role : Role) (limits : Agreed) → FRAME_MIN ≤ limits.frame_max → IsWellPut role limits heartbeat_frame
beat-well role limits least =
    record { says = beats refl; at_zero = λ e. omega arith; numbered = omega arith; within = omega arith }

controlled-well : {role : Role} {config : Config role} {phase : Phase} {control : Control} {frame : Frame}
    (limits : Agreed) → FRAME_MIN ≤ limits.frame_max → ConfigWrites config → WritesReadBack role config
    → ControlReadsBack role config control → Controlled role config phase control frame
    → IsWellPut role limits frame
controlled-well {role = role} limits least writes back reads puts_beat = beat-well role limits least
controlled-well {config = config} limits least writes back reads admits_login =
    word-well Server limits (Tune config.channel_max config.frame_max config.heartbeat) back.admission.0 refl
    (tune-sound 0 config writes).short least
controlled-well limits least writes back reads admits_open =
    word-well Server limits SaysOpenOk back.admission.1 refl (open_ok-sound 0).short least
controlled-well limits least writes back reads (refuses_login code text) =
    word-well Server limits (SaysClose code text no_cause) reads.0 refl
    (connection_close-short 0 code text no_cause reads.1.0) least
controlled-well limits least writes back reads (refuses_open code text) =
    word-well Server limits (SaysClose code text no_cause) reads.0 refl
    (connection_close-short 0 code text no_cause reads.1.0) least
controlled-well {config = config} limits least writes back reads (answers mechanism response locale short) =
    let is = choosing-is config mechanism response locale in
    subst (λ m. IsWellPut Client limits (method_frame 0 m)) (sym is)
    (word-well Client limits (StartOk (start_ok_choosing config mechanism response locale).args)
    (subst ReadsBack is reads) refl (subst (λ m. frame_length (method_frame 0 m) ≤ FRAME_MIN) is short) least)

pub control-well : (role : Role) (config : Config role) (limits : Agreed) (end : End) (control : Control)
    (frames : List Frame) → FRAME_MIN ≤ limits.frame_max → ConfigWrites config → WritesReadBack role config
    → ControlReadsBack role config control → control_verdict role config end control ≡ Puts frames
    → AllWell role limits frames
control-well role config limits end control frames least writes back reads e =
    let p = control-puts role config end.phase control frames e in
    subst (AllWell role limits) (sym p.is) (controlled-well limits least writes back reads p.controlled, tt)
