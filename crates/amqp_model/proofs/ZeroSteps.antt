-- What a step of one end is to channel 0: how it moves the end's footing, and what it puts there.
use Rattle.std.proofs.Common.{◌≡◌, ◌⊎◌, inl, inr, true, false, ℕ, zero, suc, ◌==◌, ◌≤◌, arith}
use Rattle.std.proofs.Common.{List, [], ◌∷◌, ◌++◌, map, Option, Some, None, refl, sym, ap, ap₂, ◌∙◌}
use Rattle.std.proofs.Common.{subst, append-nil}
use Rattle.std.proofs.lemmas.Bool.{false≢true, true≢false, ne_eqb, cond-true, cond-false}
use Rattle.std.proofs.lemmas.List.Elements.{filter-append}
use Rattle.amqp_model.specs.Wire.Frame.{Frame}
use Rattle.amqp_model.specs.Wire.Notes.{Role, Client, Server}
use Rattle.amqp_model.specs.Output.Arrangement.{on}
use Rattle.amqp_model.specs.Wire.Methods.{Method, ReadsBack}
use Rattle.amqp_model.specs.Wire.Contents.{Payload}
use Rattle.amqp_model.specs.Wire.Readings.{Reading, Calls, reading}
use Rattle.amqp_model.specs.History.Histories.{Put, Took, History, TookHere, PutHere}
use Rattle.amqp_model.specs.End.Channels as channels
use Rattle.amqp_model.specs.End.Channels.{Life, HandshakeStep, AwaitsTune, AwaitsTuneOk, HoldsStart, HoldsLogin}
use Rattle.amqp_model.specs.End.Channels.{HoldsOpen, Phase, Handshake, Running, Closed, Failed, End}
use Rattle.amqp_method.specs.Arguments.{Argument}
use Rattle.amqp_model.specs.History.Negotiation.{Config, start_ok_choosing}
use Rattle.amqp_model.specs.End.StateFromHistory.{end_from}
use Rattle.amqp_model.specs.End.Closes.{ContentTooLarge, Cause, no_cause, Owed, AllReadBack, method_frame, frame_of}
use Rattle.amqp_model.specs.End.Closes.{reply_to, channel_close}
use Rattle.amqp_model.specs.End.Events.{FrameVerdict}
use Rattle.amqp_model.specs.End.FrameVerdict.{on_channel, verdict_on, methods_put}
use Rattle.amqp_model.specs.End.Asks.{Ask, is_made, Refusal, channel_max, lowest_free, opens_on, payload_frame}
use Rattle.amqp_model.specs.End.Asks.{message_payloads, method_asked, frame_max, frames_asked, refusal, Puts}
use Rattle.amqp_model.specs.End.Asks.{ask_verdict}
use Rattle.amqp_model.specs.End.EndVerdict.{facts_at, end_verdict, goes_on}
use Rattle.amqp_model.specs.End.Controls.{Control, control_verdict}
use Rattle.amqp_model.specs.End.ReadingBack.{WritesReadBack, ControlReadsBack}
use Rattle.amqp_model.specs.End.LawfulHistories.{then_put, then_taken}
use Rattle.amqp_model.specs.End.Machine.{end_after, end_after_owed, end_after_put, end_after_taken, StandsFor}
use Rattle.amqp_model.specs.Laws.EndLaws.{is_over, AgreesWithLives, agrees, refuses, FindsLowest}
use Rattle.amqp_model.specs.Stream.Octets.{frames_put, frames_taken}
use Rattle.amqp_model.proofs.Standing.{end-stands}
use Rattle.amqp_model.proofs.Acting.{reads-back}
use Rattle.amqp_model.proofs.Agreeing.{facts_in, is_closing, handshake-stops, frame-agrees}
use Rattle.amqp_model.proofs.Taking.{puts-none}
use Rattle.amqp_model.proofs.Elsewhere.{Each}
use Rattle.amqp_model.proofs.Asking.{Accepted, accepted, accepted-none, not-when, first-false, frame-channel, has-life}
use Rattle.amqp_model.proofs.AskSteps.{is-running, asks-follow}
use Rattle.amqp_model.proofs.Lowest.{finds-lowest}
use Rattle.amqp_model.proofs.FrameSteps.{not-failed, frame-follows}
use Rattle.amqp_model.proofs.EndSteps.{not-zero}
use Rattle.amqp_model.proofs.PutLast.{put-then}
use Rattle.amqp_model.proofs.Footings.{Footing, footing_of, footing_after, footing_owed, footing_put, owed-footing}
use Rattle.amqp_model.proofs.Footings.{put-footing, zero-channels, verdict_of}
use Rattle.amqp_model.proofs.Together.{Word, StartOk, Tune, OpenOk, Close, Blocked, Unblocked, said, owes, spoken}
use Rattle.amqp_model.proofs.Together.{Signal, Says, Beats, passing, tells, IsRead, AllRead, IsBlock, blocks, unblocks}
use Rattle.amqp_model.proofs.Together.{at}
use Rattle.amqp_model.proofs.Hearing.{Hears, choosing-is}
use Rattle.amqp_model.proofs.Walking.{Stands, stands-kept}
use Rattle.amqp_model.proofs.Controlling.{Controlled, beats, admits_login, admits_open, refuses_login, refuses_open}
use Rattle.amqp_model.proofs.Controlling.{answers, control-puts, puts-at-zero, control-kept}

-- The frames of a channel.

pub on-join : (channel : ℕ) (xs ys : List Frame) → on channel (xs ++ ys) ≡ on channel xs ++ on channel ys
on-join channel xs ys = filter-append (λ f. f.channel == channel) xs ys

pub zero-apart : (n : ℕ) → (0 == suc n) ≡ false
zero-apart n = ne_eqb 0 (suc n) (λ e. let h : 0 ≡ suc n = e in omega arith)

pub passing-zero : (signal : Signal) → (passing signal).channel ≡ 0
passing-zero (Says word) = refl
passing-zero Beats = refl

pub signals-on-zero : (signals : List Signal) → on 0 (map passing signals) ≡ map passing signals
signals-on-zero [] = refl
signals-on-zero (signal ∷ later) =
    cond-true ((passing signal).channel == 0) _ _ (ap (λ c. c == 0) (passing-zero signal))
    ∙ ap (λ l. passing signal ∷ l) (signals-on-zero later)

pub signals-above : (n : ℕ) (signals : List Signal) → on (suc n) (map passing signals) ≡ []
signals-above n [] = refl
signals-above n (signal ∷ later) =
    cond-false ((passing signal).channel == suc n) _ _ (ap (λ c. c == suc n) (passing-zero signal) ∙ zero-apart n)
    ∙ signals-above n later

-- frames of channels above 0
abbrev pub AllAbove : List Frame → Type 0
AllAbove [] = Unit {0}
AllAbove (frame ∷ later) = ((frame.channel == 0) ≡ false) × AllAbove later

pub above-not-zero : (frames : List Frame) → AllAbove frames → on 0 frames ≡ []
above-not-zero [] all = refl
above-not-zero (frame ∷ later) all = cond-false (frame.channel == 0) _ _ all.0 ∙ above-not-zero later all.1

pub taken-still : (frames : List Frame) (history : History)
    → frames_taken (then_put frames history) ≡ frames_taken history
taken-still [] history = refl
taken-still (frame ∷ later) history = taken-still later (Put frame ∷ history)

words-frames : (words : List Word) → map frame_of (map owes words) ≡ map passing (map Says words)
words-frames [] = refl
words-frames (word ∷ later) = ap (λ l. spoken word ∷ l) (words-frames later)

all-zero : (words : List Word) → Each (λ owed. owed.channel ≡ 0) (map owes words)
all-zero [] = tt
all-zero (word ∷ later) = (refl, all-zero later)

all-read : (words : List Word) → AllReadBack (map owes words) → AllRead (map Says words)
all-read [] back = tt
all-read (word ∷ later) back = (reads-back 0 (said word) back.0, all-read later back.1)

-- A signal is heard.
pub record Heard (role : Role) (config : Config role) (before after : History) (signal : Signal) (next : Footing)
    (words : List Word) : Type 0 where
  pub footing : footing_of (end_from role config false after) ≡ next
  pub put : frames_put after ≡ frames_put before ++ map passing (map Says words)
  pub taken : frames_taken after ≡ frames_taken before ++ passing signal ∷ []
  pub channels : (n : ℕ) → (end_from role config false after).channels n
      ≡ (end_from role config false before).channels n
  pub read : AllRead (map Says words)

-- A frame of a channel above 0 is taken.
pub record TakenAbove (role : Role) (config : Config role) (before after : History) : Type 0 where
  pub footing : footing_of (end_from role config false after) ≡ footing_of (end_from role config false before)
  pub put : on 0 (frames_put after) ≡ on 0 (frames_put before)
  pub taken : on 0 (frames_taken after) ≡ on 0 (frames_taken before)
  -- a Running end may put frames there, and a Closing one puts none
  pub phase : ((end_from role config false before).phase ≡ Running)
      ⊎ (((end_from role config false before).phase ≡ Phase.Closing) × (frames_put after ≡ frames_put before))

module _ (role : Role) (config : Config role) (back : WritesReadBack role config) (before : History)
    (stands : StandsFor role config false (end_from role config false before) before) where
  pub heard : (signal : Signal) (next : Footing) (words : List Word)
      → Hears role config (footing_of (end_from role config false before)) signal next words → IsRead signal
      → Heard role config before (then_taken config (end_from role config false before) (passing signal) before)
      signal next words
  heard signal next words hears says = record {
    footing = ap footing_of end_is
        ∙ (owed-footing role config (map owes words) _
        ∙ (ap (λ l.
        footing_owed role config l
        (footing_of (end_after role config 0 (TookHere (tells signal) (passing signal)) end)))
        (sym hears.puts) ∙ hears.heard));
    put = put-then
        (map frame_of (methods_put (facts_at config end (passing signal).channel)
        (end_verdict config end (passing signal)))) (Took (passing signal) ∷ before)
        ∙ ap (λ l. frames_put before ++ l) (ap (map frame_of) owed ∙ words-frames words);
    taken = taken-still
        (map frame_of (methods_put (facts_at config end (passing signal).channel)
        (end_verdict config end (passing signal)))) (Took (passing signal) ∷ before);
    channels = λ n. ap (λ (e : End). e.channels n) end_is
        ∙ zero-channels role config (map owes words) _ n (all-zero words);
    read = all-read words (subst AllReadBack owed (back.owed end (passing signal).channel (reading (passing signal))));
  }
    where
      end : End
      end = end_from role config false before

      verdict_is : end_verdict config end (passing signal) ≡ verdict_of config (footing_of end) (tells signal)
      verdict_is = ap₂ (λ c r. verdict_on (facts_at config end c) r) (passing-zero signal) says

      goes : goes_on (end_verdict config end (passing signal)) ≡ true
      goes = ap goes_on verdict_is ∙ hears.goes

      owed : methods_put (facts_at config end (passing signal).channel) (end_verdict config end (passing signal))
          ≡ map owes words
      owed = ap₂ (λ c v. methods_put (facts_at config end c) v) (passing-zero signal) verdict_is ∙ hears.puts

      end_is : end_from role config false (then_taken config end (passing signal) before)
          ≡ end_after_owed role config (map owes words)
          (end_after role config 0 (TookHere (tells signal) (passing signal)) end)
      end_is =
          end-stands role config (end_after_taken role config end (reading (passing signal)) (passing signal)) _
          (frame-follows role config end before (passing signal) back stands goes)
          ∙ (not-failed (end_verdict config end (passing signal)) _ goes
          ∙ (ap (λ l.
          end_after_owed role config l
          (end_after role config (passing signal).channel (TookHere (reading (passing signal)) (passing signal)) end))
          owed
          ∙ ap₂ (λ c r. end_after_owed role config (map owes words)
          (end_after role config c (TookHere r (passing signal)) end)) (passing-zero signal) says))

-- ---- a frame of a channel above 0

-- methods owed on such a channel leave the footing, and put nothing on channel 0
owed-stays : (role : Role) (config : Config role) (m : ℕ) (methods : List Method) (footing : Footing)
    → footing_owed role config (map (on_channel (suc m)) methods) footing ≡ footing
owed-stays role config m [] footing = refl
owed-stays role config m (method ∷ later) footing = owed-stays role config m later footing

owed-above : (m : ℕ) (methods : List Method) → AllAbove (map frame_of (map (on_channel (suc m)) methods))
owed-above m [] = tt
owed-above m (method ∷ later) = (not-zero m, owed-above m later)

-- what the verdict of a Running end puts stands on the frame's channel
record OwedHere (number : ℕ) (owed : List Owed) : Type 0 where
  methods : List Method
  are : owed ≡ map (on_channel number) methods

owed-here : {role : Role} (config : Config role) (end : End) (number : ℕ) (r : Reading) (v : FrameVerdict)
    → AgreesWithLives role number (end.channels number) r v
    → OwedHere number (methods_put (facts_at config end number) v)
owed-here config end number r v (agrees event owed told e is) =
    record { methods = reply_to owed; are = ap (methods_put (facts_at config end number)) is }
owed-here config end number r v (refuses e is) =
    record {
      methods = (channel_close number ContentTooLarge).method ∷ [];
      are = ap (methods_put (facts_at config end number)) is;
    }

module _ (role : Role) (config : Config role) (back : WritesReadBack role config) (before : History)
    (stands : StandsFor role config false (end_from role config false before) before) (frame : Frame) (m : ℕ)
    (here : frame.channel ≡ suc m) (goes : goes_on (end_verdict config (end_from role config false before) frame)
    ≡ true) where
  not_zero : (frame.channel == 0) ≡ false
  not_zero = ap (λ c. c == 0) here ∙ not-zero m

  end-then : end_from role config false (then_taken config (end_from role config false before) frame before)
      ≡ end_after_owed role config (methods_put (facts_at config (end_from role config false before) frame.channel)
      (end_verdict config (end_from role config false before) frame))
      (end_after role config frame.channel (TookHere (reading frame) frame) (end_from role config false before))
  end-then =
      end-stands role config (end_after_taken role config (end_from role config false before) (reading frame) frame) _
      (frame-follows role config (end_from role config false before) before frame back stands goes)
      ∙ not-failed (end_verdict config (end_from role config false before) frame) _ goes

  after-here : (end : End) → footing_of (end_after role config frame.channel (TookHere (reading frame) frame) end)
      ≡ footing_of end
  after-here end =
      subst (λ c. footing_of (end_after role config c (TookHere (reading frame) frame) end)
      ≡ footing_of end) (sym here) refl

  -- where what is owed stands on the frame's channel
  by-owed : OwedHere frame.channel (methods_put (facts_at config (end_from role config false before) frame.channel)
      (end_verdict config (end_from role config false before) frame))
      → (((end_from role config false before).phase ≡ Running)
      ⊎ (((end_from role config false before).phase ≡ Phase.Closing)
      × (frames_put (then_taken config (end_from role config false before) frame before) ≡ frames_put before)))
      → TakenAbove role config before (then_taken config (end_from role config false before) frame before)
  by-owed o phase = record {
    footing =
        ap footing_of end-then
        ∙ (owed-footing role config (methods_put (facts_at config (end_from role config false before) frame.channel)
        (end_verdict config (end_from role config false before) frame))
        (end_after role config frame.channel (TookHere (reading frame) frame) (end_from role config false before))
        ∙ (ap₂ (λ l f. footing_owed role config l f) (o.are ∙ ap (λ c. map (on_channel c) o.methods) here)
        (after-here (end_from role config false before))
        ∙ owed-stays role config m o.methods (footing_of (end_from role config false before))));
    put =
        ap (on 0) (put-then
        (map frame_of (methods_put (facts_at config (end_from role config false before) frame.channel)
        (end_verdict config (end_from role config false before) frame))) (Took frame ∷ before))
        ∙ (on-join 0 (frames_put before) _
        ∙ (ap (λ l. on 0 (frames_put before) ++ l)
        (ap (λ l. on 0 (map frame_of l)) (o.are ∙ ap (λ c. map (on_channel c) o.methods) here)
        ∙ above-not-zero _ (owed-above m o.methods))
        ∙ append-nil (on 0 (frames_put before))));
    taken =
        ap (on 0) (taken-still
        (map frame_of (methods_put (facts_at config (end_from role config false before) frame.channel)
        (end_verdict config (end_from role config false before) frame))) (Took frame ∷ before))
        ∙ (on-join 0 (frames_taken before) (frame ∷ [])
        ∙ (ap (λ l. on 0 (frames_taken before) ++ l) (cond-false (frame.channel == 0) _ _ not_zero)
        ∙ append-nil (on 0 (frames_taken before))));
    phase = phase;
  }

  pub taken-above : TakenAbove role config before (then_taken config (end_from role config false before) frame before)
  taken-above = by-phase (end_from role config false before).phase refl
    where
      stops : (phase : Phase) → (end_from role config false before).phase ≡ phase
          → goes_on (verdict_on (facts_in config phase (end_from role config false before).agreed frame.channel
          ((end_from role config false before).channels frame.channel)) (reading frame)) ≡ true
      stops phase p =
          subst (λ p.
          goes_on (verdict_on (facts_in config p (end_from role config false before).agreed frame.channel
          ((end_from role config false before).channels frame.channel)) (reading frame)) ≡ true) p goes

      by-phase : (phase : Phase) → (end_from role config false before).phase ≡ phase
          → TakenAbove role config before (then_taken config (end_from role config false before) frame before)
      by-phase Running p =
          by-owed (owed-here config (end_from role config false before) frame.channel (reading frame)
          (end_verdict config (end_from role config false before) frame)
          (frame-agrees config (end_from role config false before).phase (end_from role config false before).agreed
          frame.channel ((end_from role config false before).channels frame.channel) (ap is_over p) not_zero
          (reading frame) goes)) (inl p)
      by-phase Phase.Closing p =
          let none : methods_put (facts_at config (end_from role config false before) frame.channel)
          (end_verdict config (end_from role config false before) frame) ≡ [] =
          subst (λ c. methods_put (facts_at config (end_from role config false before) c)
          (verdict_on (facts_at config (end_from role config false before) c) (reading frame)) ≡ []) (sym here)
          (subst (λ p.
          methods_put (facts_in config p (end_from role config false before).agreed (suc m)
          ((end_from role config false before).channels (suc m)))
          (verdict_on (facts_in config p (end_from role config false before).agreed (suc m)
          ((end_from role config false before).channels (suc m))) (reading frame)) ≡ []) (sym p)
          (puts-none config (end_from role config false before).agreed m
          ((end_from role config false before).channels (suc m)) (reading frame))) in
          by-owed (record { methods = []; are = none })
          (inr (
            p,
            put-then
                (map frame_of (methods_put (facts_at config (end_from role config false before) frame.channel)
                (end_verdict config (end_from role config false before) frame))) (Took frame ∷ before)
                ∙ (ap (λ l. frames_put before ++ map frame_of l) none ∙ append-nil (frames_put before)),
          ))
      by-phase (Handshake step) p =
          handshake-stops config step (end_from role config false before).agreed frame.channel
          ((end_from role config false before).channels frame.channel)
          (ap is_closing (stands.free_before step p frame.channel)) not_zero (reading frame) (stops (Handshake step) p)
      by-phase Closed p = absurd (false≢true (stops Closed p))
      by-phase Failed p = absurd (false≢true (stops Failed p))

-- ---- an ask that is accepted

-- one signal is put
pub record Speaks (role : Role) (config : Config role) (before after : History) (signal : Signal)
    (next : Footing) : Type 0 where
  pub footing : footing_of (end_from role config false after) ≡ next
  pub put : frames_put after ≡ frames_put before ++ passing signal ∷ []
  pub channels : (n : ℕ) → (end_from role config false after).channels n
      ≡ (end_from role config false before).channels n
  pub read : IsRead signal

pub data Asked (role : Role) (config : Config role) (before after : History) : Type 0 where
  -- frames of channels above 0: by a client, or on a channel that is Open
  above : footing_of (end_from role config false after) ≡ footing_of (end_from role config false before)
      → on 0 (frames_put after) ≡ on 0 (frames_put before)
      → ((role ≡ Client)
      ⊎ ((c : ℕ) × ((life : Life) × ((end_from role config false before).channels c ≡ channels.Open life))))
      → Asked role config before after
  closes : (code : ℕ) (text : List ℕ) (cause : Cause)
      → Speaks role config before after (Says (Close code text cause))
      (at Phase.Closing (end_from role config false before).agreed) → Asked role config before after
  says : (signal : Signal) → IsBlock signal → role ≡ Server
      → Speaks role config before after signal (footing_of (end_from role config false before))
      → Asked role config before after

put-stays : (role : Role) (config : Config role) (frames : List Frame) (footing : Footing) → AllAbove frames
    → footing_put role config frames footing ≡ footing
put-stays role config [] footing all = refl
put-stays role config (frame ∷ later) footing all =
    ap (footing_put role config later) (one frame.channel all.0) ∙ put-stays role config later footing all.1
  where
    one : (c : ℕ) → (c == 0) ≡ false
        → footing_after role config c (PutHere (reading frame) frame) footing ≡ footing
    one zero e = absurd (true≢false e)
    one (suc n) e = refl

module _ (role : Role) (config : Config role) (before : History)
    (stands : StandsFor role config false (end_from role config false before) before) where
  -- frames of channels above 0
  ask-above : (frames : List Frame) → AllAbove frames
      → StandsFor role config false (end_after_put role config frames (end_from role config false before))
      (then_put frames before)
      → ((role ≡ Client)
      ⊎ ((c : ℕ) × ((life : Life) × ((end_from role config false before).channels c ≡ channels.Open life))))
      → Asked role config before (then_put frames before)
  ask-above frames all follows from =
      above
      (ap footing_of (end-stands role config (end_after_put role config frames (end_from role config false before))
      (then_put frames before) follows) ∙ (put-footing role config frames (end_from role config false before)
      ∙ put-stays role config frames _ all))
      (ap (on 0) (put-then frames before)
      ∙ (on-join 0 (frames_put before) frames
      ∙ (ap (λ l. on 0 (frames_put before) ++ l) (above-not-zero frames all)
      ∙ append-nil (on 0 (frames_put before)))))
      from

  -- a signal
  pub signals : (signal : Signal) (next : Footing) → IsRead signal
      → StandsFor role config false
      (end_after_put role config (passing signal ∷ []) (end_from role config false before))
      (then_put (passing signal ∷ []) before)
      → footing_after role config 0 (PutHere (tells signal) (passing signal))
      (footing_of (end_from role config false before)) ≡ next
      → Speaks role config before (then_put (passing signal ∷ []) before) signal next
  signals signal next read follows moves =
      let is = end-stands role config
      (end_after_put role config (passing signal ∷ []) (end_from role config false before))
      (then_put (passing signal ∷ []) before) follows in
      let put : (end_after_put role config (passing signal ∷ []) (end_from role config false before))
      ≡ end_after role config 0 (PutHere (tells signal) (passing signal)) (end_from role config false before) =
      ap₂ (λ c r. end_after role config c (PutHere r (passing signal)) (end_from role config false before))
      (passing-zero signal) read in
      record {
        footing = ap footing_of is ∙ (ap footing_of put ∙ moves);
        put = refl;
        channels = λ n. ap (λ (e : End). e.channels n) (is ∙ put);
        read = read;
      }

  -- a word
  ask-says : (word : Word) (next : Footing) → ReadsBack (said word)
      → StandsFor role config false
      (end_after_put role config (spoken word ∷ []) (end_from role config false before))
      (then_put (spoken word ∷ []) before) → footing_after role config 0 (PutHere (Calls (said word)) (spoken word))
      (footing_of (end_from role config false before)) ≡ next
      → Speaks role config before (then_put (spoken word ∷ []) before) (Says word) next
  ask-says word next read follows moves = signals (Says word) next (reads-back 0 (said word) read) follows moves

  payloads-above : (c : ℕ) (payloads : List Payload) → (c == 0) ≡ false
      → AllAbove (map (payload_frame c) payloads)
  payloads-above c [] e = tt
  payloads-above c (payload ∷ later) e = (ap (λ n. n == 0) (frame-channel c payload) ∙ e, payloads-above c later e)

  opens-above : (free : Option ℕ)
      → FindsLowest (end_from role config false before).channels
      (channel_max (end_from role config false before).agreed) 1 free → AllAbove (opens_on free)
  opens-above None found = tt
  opens-above (Some k) found =
      (let least : 1 ≤ k = found.at_least in ne_eqb k 0 (λ e. let h : k ≡ 0 = e in omega arith), tt)

  by-ask : (ask : Ask) → ReadsBack (method_asked ask) → Accepted role (end_from role config false before) ask
      → StandsFor role config false (end_after_put role config (frames_asked (end_from role config false before) ask)
      (end_from role config false before)) (then_put (frames_asked (end_from role config false before) ask) before)
      → Asked role config before (then_put (frames_asked (end_from role config false before) ask) before)
  by-ask Ask.Open read a follows =
      ask-above (frames_asked (end_from role config false before) Ask.Open)
      (opens-above (lowest_free (end_from role config false before))
      (finds-lowest (end_from role config false before).channels
      (channel_max (end_from role config false before).agreed) 1)) follows (inl (opener role a))
    where
      opener : (role : Role) {end : End} → Accepted role end Ask.Open → role ≡ Client
      opener Client a = refl
      opener Server a = absurd (let h = a.sendable in cc)
  by-ask (Ask.Send c message) read a follows =
      ask-above (frames_asked (end_from role config false before) (Ask.Send c message))
      (payloads-above c (message_payloads (frame_max (end_from role config false before).agreed) message)
      (first-false (c == 0) _ (not-when _ Refusal.BadChannel a.numbered))) follows
      (inr (c, has-life ((end_from role config false before).channels c) (not-when _ Refusal.NotOpen a.opened)))
  by-ask (Ask.Flow c active) read a follows =
      ask-above (frames_asked (end_from role config false before) (Ask.Flow c active))
      (first-false (c == 0) _ (not-when _ Refusal.BadChannel a.numbered), tt) follows
      (inr (c, has-life ((end_from role config false before).channels c) (not-when _ Refusal.NotOpen a.opened)))
  by-ask (Ask.CloseChannel c code text cause) read a follows =
      ask-above (frames_asked (end_from role config false before) (Ask.CloseChannel c code text cause))
      (first-false (c == 0) _ (not-when _ Refusal.BadChannel a.numbered), tt) follows
      (inr (c, has-life ((end_from role config false before).channels c) (not-when _ Refusal.NotOpen a.opened)))
  by-ask (Ask.Close code text cause) read a follows =
      closes code text cause
      (ask-says (Close code text cause) _ read follows
      (moves role config (footing_of (end_from role config false before))
      (is-running (end_from role config false before).phase (not-when _ Refusal.NotRunning a.runs))))
    where
      moves : (role : Role) (config : Config role) (f : Footing) → f.phase ≡ Running
          → footing_after role config 0
          (PutHere (Calls (said (Close code text cause))) (spoken (Close code text cause))) f
          ≡ at Phase.Closing f.agreed
      moves Client config f p = simp p
      moves Server config f p = simp p
  by-ask (Ask.Blocked reason) read a follows =
      says (Says (Blocked reason)) (blocks reason) (is_server role a)
      (ask-says (Blocked reason) _ read follows (moves role config (footing_of (end_from role config false before))
      (is-running (end_from role config false before).phase (not-when _ Refusal.NotRunning a.runs))))
    where
      is_server : (role : Role) {end : End} → Accepted role end (Ask.Blocked reason) → role ≡ Server
      is_server Server a = refl
      is_server Client a = absurd (let h = a.sendable in cc)

      moves : (role : Role) (config : Config role) (f : Footing) → f.phase ≡ Running
          → footing_after role config 0 (PutHere (Calls (said (Blocked reason))) (spoken (Blocked reason))) f ≡ f
      moves Client config f p =
          ap (λ q. footing_after Client config 0 (PutHere (Calls (said (Blocked reason))) (spoken (Blocked reason)))
          (at q f.agreed)) p ∙ ap (λ q. at q f.agreed) (sym p)
      moves Server config f p =
          ap (λ q. footing_after Server config 0 (PutHere (Calls (said (Blocked reason))) (spoken (Blocked reason)))
          (at q f.agreed)) p ∙ ap (λ q. at q f.agreed) (sym p)
  by-ask Ask.Unblocked read a follows =
      says (Says Unblocked) unblocks (is_server role a)
      (ask-says Unblocked _ read follows (moves role config (footing_of (end_from role config false before))
      (is-running (end_from role config false before).phase (not-when _ Refusal.NotRunning a.runs))))
    where
      is_server : (role : Role) {end : End} → Accepted role end Ask.Unblocked → role ≡ Server
      is_server Server a = refl
      is_server Client a = absurd (let h = a.sendable in cc)

      moves : (role : Role) (config : Config role) (f : Footing) → f.phase ≡ Running
          → footing_after role config 0 (PutHere (Calls (said Unblocked)) (spoken Unblocked)) f ≡ f
      moves Client config f p =
          ap (λ q. footing_after Client config 0 (PutHere (Calls (said Unblocked)) (spoken Unblocked)) (at q f.agreed))
          p ∙ ap (λ q. at q f.agreed) (sym p)
      moves Server config f p =
          ap (λ q. footing_after Server config 0 (PutHere (Calls (said Unblocked)) (spoken Unblocked)) (at q f.agreed))
          p ∙ ap (λ q. at q f.agreed) (sym p)

  pub asked : (ask : Ask) (frames : List Frame) → is_made ask ≡ true → ReadsBack (method_asked ask)
      → ask_verdict role (end_from role config false before) ask ≡ Puts frames
      → ((end_from role config false before).phase ≡ Running) × Asked role config before (then_put frames before)
  asked ask frames made read e =
      let parts = accepted-none (refusal role (end_from role config false before) ask)
      (frames_asked (end_from role config false before) ask) frames e in
      let a = accepted role (end_from role config false before) ask parts.0 in
      let follows = asks-follow role config (end_from role config false before) before ask
      (frames_asked (end_from role config false before) ask) stands read made (e ∙ ap Puts (sym parts.1)) in (
        is-running (end_from role config false before).phase (not-when _ Refusal.NotRunning a.runs),
        subst
            (λ frames. Asked role config before (then_put frames before)) parts.1 (by-ask ask read a follows),
      )

-- ---- what else an application does with the connection is accepted

-- a heartbeat, an answer to start, a login or an open that is admitted, or one that is refused
pub data Decided : (role : Role) → Config role → (before after : History) → Type 0 where
  beaten : {role : Role} {config : Config role} {before after : History} → (end_from role config false before).phase
      ≡ Running → Speaks role config before after Beats (footing_of (end_from role config false before))
      → Decided role config before after
  starts : {config : Config Client} {before after : History} (args : List Argument)
      → (end_from Client config false before).phase ≡ Handshake HoldsStart
      → Speaks Client config before after (Says (StartOk args))
      (at (Handshake AwaitsTune) (end_from Client config false before).agreed) → Decided Client config before after
  logs_in : {config : Config Server} {before after : History} → (end_from Server config false before).phase
      ≡ Handshake HoldsLogin
      → Speaks Server config before after (Says (Tune config.channel_max config.frame_max config.heartbeat))
      (at (Handshake AwaitsTuneOk) (end_from Server config false before).agreed) → Decided Server config before after
  opens : {config : Config Server} {before after : History} → (end_from Server config false before).phase
      ≡ Handshake HoldsOpen
      → Speaks Server config before after (Says OpenOk) (at Running (end_from Server config false before).agreed)
      → Decided Server config before after
  turns_away : {config : Config Server} {before after : History} (code : ℕ) (text : List ℕ) (cause : Cause)
      → ((end_from Server config false before).phase ≡ Handshake HoldsLogin)
      ⊎ ((end_from Server config false before).phase ≡ Handshake HoldsOpen)
      → Speaks Server config before after (Says (Close code text cause))
      (at Phase.Closing (end_from Server config false before).agreed) → Decided Server config before after

beat-moves : (role : Role) (config : Config role) (f : Footing) → f.phase ≡ Running
    → footing_after role config 0 (PutHere (tells Beats) (passing Beats)) f ≡ f
beat-moves Client config f p =
    ap (λ q. footing_after Client config 0 (PutHere (tells Beats) (passing Beats)) (at q f.agreed)) p
    ∙ ap (λ q. at q f.agreed) (sym p)
beat-moves Server config f p =
    ap (λ q. footing_after Server config 0 (PutHere (tells Beats) (passing Beats)) (at q f.agreed)) p
    ∙ ap (λ q. at q f.agreed) (sym p)

starts-moves : (config : Config Client) (args : List Argument) (f : Footing) → f.phase ≡ Handshake HoldsStart
    → footing_after Client config 0 (PutHere (Calls (said (StartOk args))) (spoken (StartOk args))) f
    ≡ at (Handshake AwaitsTune) f.agreed
starts-moves config args f p = simp p

logs-moves : (config : Config Server) (a b c : ℕ) (f : Footing) → f.phase ≡ Handshake HoldsLogin
    → footing_after Server config 0 (PutHere (Calls (said (Tune a b c))) (spoken (Tune a b c))) f
    ≡ at (Handshake AwaitsTuneOk) f.agreed
logs-moves config a b c f p = simp p

opens-moves : (config : Config Server) (f : Footing) → f.phase ≡ Handshake HoldsOpen
    → footing_after Server config 0 (PutHere (Calls (said OpenOk)) (spoken OpenOk)) f ≡ at Running f.agreed
opens-moves config f p = simp p

away-moves : (config : Config Server) (code : ℕ) (text : List ℕ) (cause : Cause) (f : Footing)
    (step : HandshakeStep) → f.phase ≡ Handshake step
    → footing_after Server config 0 (PutHere (Calls (said (Close code text cause))) (spoken (Close code text cause)))
    f ≡ at Phase.Closing f.agreed
away-moves config code text cause f step p = simp p

-- its frame is put, by the phase
decide : {role : Role} {config : Config role} (before : History) (phase : Phase) {control : Control} {frame : Frame}
    → StandsFor role config false (end_from role config false before) before → WritesReadBack role config
    → ControlReadsBack role config control → (end_from role config false before).phase ≡ phase
    → Controlled role config phase control frame
    → StandsFor role config false (end_after_put role config (frame ∷ []) (end_from role config false before))
    (then_put (frame ∷ []) before) → Decided role config before (then_put (frame ∷ []) before)
decide {role} {config} before phase stands back reads p beats follows =
    beaten p (signals role config before stands Beats _ refl follows
    (beat-moves role config (footing_of (end_from role config false before)) p))
decide {config = config} before phase stands back reads p admits_login follows =
    logs_in p (ask-says Server config before stands (Tune config.channel_max config.frame_max config.heartbeat) _
    back.admission.0 follows (logs-moves config config.channel_max config.frame_max config.heartbeat
    (footing_of (end_from Server config false before)) p))
decide {config = config} before phase stands back reads p admits_open follows =
    opens p (ask-says Server config before stands OpenOk _ back.admission.1 follows
    (opens-moves config (footing_of (end_from Server config false before)) p))
decide {config = config} before phase stands back reads p (refuses_login code text) follows =
    turns_away code text no_cause (inl p)
    (ask-says Server config before stands (Close code text no_cause) _ reads.0 follows
    (away-moves config code text no_cause (footing_of (end_from Server config false before)) HoldsLogin p))
decide {config = config} before phase stands back reads p (refuses_open code text) follows =
    turns_away code text no_cause (inr p)
    (ask-says Server config before stands (Close code text no_cause) _ reads.0 follows
    (away-moves config code text no_cause (footing_of (end_from Server config false before)) HoldsOpen p))
decide {config = config} before phase stands back reads p (answers mechanism response locale short) follows =
    subst (λ frame.
    StandsFor Client config false (end_after_put Client config (frame ∷ []) (end_from Client config false before))
    (then_put (frame ∷ []) before) → Decided Client config before (then_put (frame ∷ []) before))
    (ap (method_frame 0) (sym (choosing-is config mechanism response locale)))
    (λ follows. starts (start_ok_choosing config mechanism response locale).args p
    (ask-says Client config before stands (StartOk (start_ok_choosing config mechanism response locale).args) _
    (subst ReadsBack (choosing-is config mechanism response locale) reads) follows
    (starts-moves config (start_ok_choosing config mechanism response locale).args
    (footing_of (end_from Client config false before)) p)))
    follows

pub decided : (role : Role) (config : Config role) (before : History) (control : Control) (frames : List Frame)
    → StandsFor role config false (end_from role config false before) before → WritesReadBack role config
    → ControlReadsBack role config control → control_verdict role config (end_from role config false before) control
    ≡ Puts frames → Decided role config before (then_put frames before)
decided role config before control frames stands back reads e =
    let p = control-puts role config (end_from role config false before).phase control frames e in
    let follows = control-kept Stands stands-kept.puts role config (end_from role config false before) before frames
    stands (puts-at-zero role config (end_from role config false before) control frames back reads e) in
    subst (λ frames. Decided role config before (then_put frames before)) (sym p.is)
    (decide before (end_from role config false before).phase stands back reads refl p.controlled
    (subst (λ frames.
    StandsFor role config false (end_after_put role config frames (end_from role config false before))
    (then_put frames before)) p.is follows))
