-- No channel above the agreed maximum is kept.
use Rattle.std.proofs.Common.{◌≡◌, ◌<◌, ◌≤◌, inl, Bool, true, false, cond, not, ◌&&◌, ◌||◌, ℕ}
use Rattle.std.proofs.Common.{zero, suc, ◌==◌, arith, List, [], ◌∷◌, map, Option, Some, None, refl, sym, ap}
use Rattle.std.proofs.Common.{◌∙◌, subst}
use Rattle.std.proofs.lemmas.Bool.{false≢true, true≢false, eqb-true, ltb-false, ne_eqb}
use Rattle.amqp_method.specs.declared.kinds.Kind.TheVariants as kinds
use Rattle.amqp_model.specs.Wire.Frame.{Frame}
use Rattle.amqp_model.specs.Wire.Notes.{Role, Client, Server, is_client, Kind}
use Rattle.amqp_model.specs.Wire.Methods.{Method, ReadsBack, same_kind, class_of, sends}
use Rattle.amqp_model.specs.Wire.Contents.{Payload}
use Rattle.amqp_model.specs.Wire.Readings.{Reading, Calls, is_call, Beat, reading}
use Rattle.amqp_model.specs.History.Histories.{History, PutHere, TookHere}
use Rattle.amqp_model.specs.End.Channels.{Channel, Free, HandshakeStep, Phase, Handshake, Running, Closed, Failed}
use Rattle.amqp_model.specs.End.Channels.{Agreed, End}
use Rattle.amqp_model.specs.History.Negotiation.{Config, agreed_in}
use Rattle.amqp_model.specs.End.StateFromHistory.{accepted}
use Rattle.amqp_model.specs.End.Closes.{Owed, CommandInvalid, ChannelError, reply_to, frame_of}
use Rattle.amqp_model.specs.End.Events.{FrameVerdict, Faults, Peer}
use Rattle.amqp_model.specs.End.FrameVerdict.{Facts, first_of, channel_limit, on_channel, on_connection, by_state}
use Rattle.amqp_model.specs.End.FrameVerdict.{is_no_channel, verdict_on, methods_put}
use Rattle.amqp_model.specs.End.EndVerdict.{facts_at, end_verdict, goes_on}
use Rattle.amqp_model.specs.End.Asks.{Ask, Refusal, channel_max, bad_number, frame_max, lowest_free, opens_on}
use Rattle.amqp_model.specs.End.Asks.{method_asked, payload_frame, message_payloads, refusal, frames_asked, Puts}
use Rattle.amqp_model.specs.End.Asks.{ask_verdict}
use Rattle.amqp_model.specs.End.ReadingBack.{WritesReadBack}
use Rattle.amqp_model.specs.End.LawfulHistories.{end_of, Goes, greets, takes, faults, meets_too_large, fails, asks}
use Rattle.amqp_model.specs.End.LawfulHistories.{controls, Lawful, begun, goes}
use Rattle.amqp_model.specs.End.Numbers.{NoneAbove, StandsNumbered}
use Rattle.amqp_model.specs.End.Machine.{agreed_after, set_channel, new_end, end_after, end_after_owed, end_after_taken}
use Rattle.amqp_model.specs.End.Machine.{end_after_put, failed_by, StandsFor}
use Rattle.amqp_model.specs.Laws.EndLaws.{is_over, AgreesWithLives, agrees, refuses, FindsLowest}
use Rattle.amqp_model.proofs.Agreeing.{facts_in, frame-agrees, handshake-stops, is_closing}
use Rattle.amqp_model.proofs.Elsewhere.{Each, verdict-zero}
use Rattle.amqp_model.proofs.EndSteps.{not-zero, new-end-stands}
use Rattle.amqp_model.proofs.Standing.{end-stands}
use Rattle.amqp_model.proofs.FrameSteps.{not-failed, frame-follows}
use Rattle.amqp_model.proofs.AskSteps.{asks-follow}
use Rattle.amqp_model.proofs.Asking.{Accepted, accepted as accepted-ask, accepted-none, not-when, frame-channel}
use Rattle.amqp_model.proofs.OctetAsks.{all-keep, ask-keeps, control-keeps}
use Rattle.amqp_model.proofs.Lowest.{finds-lowest}
use Rattle.amqp_model.proofs.Taking.{puts-none}
use Rattle.amqp_model.proofs.ChannelWalks.{lawful-walks}
use Rattle.amqp_model.proofs.Walking.{Stands, stands-kept}
use Rattle.amqp_model.proofs.Controlling.{control-kept, control-channels, puts-at-zero}
use Rattle.amqp_model.proofs.Going.{running, running-free}

-- Frames of one channel leave the others, and those of a channel above 0 leave what was agreed.

set-elsewhere : (m n : ℕ) (new : Channel) (channels : ℕ → Channel) → (n == suc m) ≡ false
    → set_channel (suc m) new channels n ≡ channels n
set-elsewhere m n new channels apart = simp apart

pub owed-elsewhere : (role : Role) (config : Config role) (m : ℕ) (owed : List Owed) (end : End)
    → Each (λ owed. owed.channel ≡ suc m) owed → ((end_after_owed role config owed end).agreed ≡ end.agreed)
    × ((n : ℕ) → (n == suc m) ≡ false → (end_after_owed role config owed end).channels n ≡ end.channels n)
owed-elsewhere role config m [] end here = (refl, λ n apart. refl)
owed-elsewhere role config m (owed ∷ later) end here =
    let next = end_after role config owed.channel (PutHere (Calls owed.method) (frame_of owed)) end in
    let more = owed-elsewhere role config m later next here.1 in
    let step = one owed.channel here.0 in
    (more.0 ∙ step.0, λ n apart. more.1 n apart ∙ step.1 n apart)
  where
    one : (c : ℕ) → c ≡ suc m
        → ((end_after role config c (PutHere (Calls owed.method) (frame_of owed)) end).agreed ≡ end.agreed)
        × ((n : ℕ) → (n == suc m) ≡ false
        → (end_after role config c (PutHere (Calls owed.method) (frame_of owed)) end).channels n ≡ end.channels n)
    one zero e = absurd (let h : 0 ≡ suc m = e in omega arith)
    one (suc k) e = (refl, λ n apart. set-elsewhere k n _ end.channels (ap (λ c. n == c) e ∙ apart))

-- those of channel 0 leave all channels, and what was agreed where none is tune-ok

pub owed-zero : (role : Role) (config : Config role) (owed : List Owed) (end : End)
    → Each (λ owed. owed.channel ≡ 0) owed → (n : ℕ)
    → (end_after_owed role config owed end).channels n ≡ end.channels n
owed-zero role config [] end zeros n = refl
owed-zero role config (owed ∷ later) end zeros n =
    owed-zero role config later _ zeros.1 n
    ∙ ap (λ c. (end_after role config c (PutHere (Calls owed.method) (frame_of owed)) end).channels n) zeros.0

pub owed-settles-none : (role : Role) (config : Config role) (owed : List Owed) (end : End)
    → Each (λ owed. (owed.channel ≡ 0) × (same_kind owed.method.kind kinds.ConnectionTuneOk ≡ false)) owed
    → (end_after_owed role config owed end).agreed ≡ end.agreed
owed-settles-none role config [] end quiet = refl
owed-settles-none role config (owed ∷ later) end quiet =
    owed-settles-none role config later _ quiet.1
    ∙ (ap (λ c. (end_after role config c (PutHere (Calls owed.method) (frame_of owed)) end).agreed) quiet.0.0
    ∙ one role config)
  where
    one : (role : Role) (config : Config role)
        → agreed_after role config end.phase (PutHere (Calls owed.method) (frame_of owed)) end.agreed ≡ end.agreed
    one Client config = let none = quiet.0.1 in simp none
    one Server config = refl

-- Channel 0, once the handshake is over.

abbrev pub QuietZero : Owed → Type 0
QuietZero owed = (owed.channel ≡ 0) × (same_kind owed.method.kind kinds.ConnectionTuneOk ≡ false)

module _ {role : Role} (config : Config role) (phase : Phase) (agreed : Option Agreed) where
  abbrev on_0 : Facts role
  on_0 = record { config = config; phase = phase; agreed = agreed; number = 0; channel = Free }

  abbrev OwesQuiet : FrameVerdict → Type 0
  OwesQuiet v = goes_on v ≡ true → Each QuietZero (methods_put on_0 v)

  either : (b : Bool) (one other : FrameVerdict) → OwesQuiet one → OwesQuiet other → OwesQuiet (cond b one other)
  either true one other h k = h
  either false one other h k = k

  connection-quiet : (method : Method) → OwesQuiet (on_connection role method)
  connection-quiet method =
      either (same_kind method.kind kinds.ConnectionClose) _ _ (λ g. ((refl, refl), tt))
      (either (is_client role && same_kind method.kind kinds.ConnectionSecure) _ _ (λ g. absurd (false≢true g))
      (either (is_client role && same_kind method.kind kinds.ConnectionBlocked) _ _ (λ g. tt)
      (either (is_client role && same_kind method.kind kinds.ConnectionUnblocked) _ _ (λ g. tt)
      (λ g. absurd (false≢true g)))))

abbrev pub in_handshake : Phase → Bool
in_handshake (Handshake step) = true
in_handshake phase = false

pub zero-quiet : {role : Role} (config : Config role) (phase : Phase) (agreed : Option Agreed) (r : Reading)
    → in_handshake phase ≡ false
    → OwesQuiet config phase agreed (verdict_on (facts_in config phase agreed 0 Free) r)
zero-quiet config Closed agreed r h g = absurd (false≢true g)
zero-quiet config Failed agreed r h g = absurd (false≢true g)
zero-quiet config (Handshake step) agreed r h g = absurd (true≢false h)
zero-quiet config Phase.Closing agreed r h g =
    either config Phase.Closing agreed (is_call kinds.ConnectionClose r) _ _ (λ g. ((refl, refl), tt))
    (either config Phase.Closing agreed (is_call kinds.ConnectionCloseOk r) _ _ (λ g. tt) (λ g. tt)) g
zero-quiet config Running agreed (Beat empty) h g =
    either config Running agreed empty _ _ (λ g. tt) (λ g. absurd (false≢true g)) g
zero-quiet {role} config Running agreed (Calls method) h g =
    by-class (class_of method.kind == 10) (sends (not (is_client role)) method.kind) g
  where
    by-class : (connection may_send : Bool)
        → OwesQuiet config Running agreed
        (first_of (cond connection (Some (on_connection role method)) None ∷ cond may_send None
        (Some (Faults (Peer CommandInvalid))) ∷ Some (Faults (Peer ChannelError)) ∷ [])
        (by_state (facts_in config Running agreed 0 Free) Free method))
    by-class true may_send g = connection-quiet config Running agreed method g
    by-class false true g = absurd (false≢true g)
    by-class false false g = absurd (false≢true g)
zero-quiet config Running agreed r h g = absurd (false≢true g)

-- a server settles only with the tune-ok that it awaits
pub took-settles-none : (role : Role) (config : Config role) (phase : Phase) (r : Reading) (frame : Frame)
    (agreed : Option Agreed) → in_handshake phase ≡ false
    → agreed_after role config phase (TookHere r frame) agreed ≡ agreed
took-settles-none Client config phase r frame agreed h = refl
took-settles-none Server config (Handshake step) r frame agreed h = absurd (true≢false h)
took-settles-none Server config Running (Calls method) frame agreed h =
    none (same_kind method.kind kinds.ConnectionTuneOk)
  where
    none : (b : Bool) → cond (b && false) (accepted config (agreed_in method)) agreed ≡ agreed
    none true = refl
    none false = refl
took-settles-none Server config Phase.Closing (Calls method) frame agreed h =
    none (same_kind method.kind kinds.ConnectionTuneOk)
  where
    none : (b : Bool) → cond (b && false) (accepted config (agreed_in method)) agreed ≡ agreed
    none true = refl
    none false = refl
took-settles-none Server config Closed (Calls method) frame agreed h =
    none (same_kind method.kind kinds.ConnectionTuneOk)
  where
    none : (b : Bool) → cond (b && false) (accepted config (agreed_in method)) agreed ≡ agreed
    none true = refl
    none false = refl
took-settles-none Server config Failed (Calls method) frame agreed h =
    none (same_kind method.kind kinds.ConnectionTuneOk)
  where
    none : (b : Bool) → cond (b && false) (accepted config (agreed_in method)) agreed ≡ agreed
    none true = refl
    none false = refl
took-settles-none Server config phase r frame agreed h = refl

-- A channel above 0.

-- a method that opens a channel has a number that is one
numbered : (is_connection at_zero may_send no_channel : Bool) (on_zero last : FrameVerdict) → at_zero ≡ false
    → goes_on (first_of (cond is_connection (Some (cond at_zero on_zero (Faults (Peer CommandInvalid)))) None
    ∷ cond may_send None (Some (Faults (Peer CommandInvalid))) ∷ cond no_channel (Some (Faults (Peer ChannelError)))
    None ∷ []) last) ≡ true → no_channel ≡ false
numbered true true c d on_zero last e g = absurd (true≢false e)
numbered true false c d on_zero last e g = absurd (false≢true g)
numbered false n false d on_zero last e g = absurd (false≢true g)
numbered false n true true on_zero last e g = absurd (false≢true g)
numbered false n true false on_zero last e g = refl

same-limit : (agreed : Option Agreed) → channel_limit agreed ≡ channel_max agreed
same-limit None = refl
same-limit (Some agreed) = refl

-- nothing is taken on a Free channel above the agreed maximum
none-taken : {role : Role} (config : Config role) (agreed : Option Agreed) (m : ℕ) (r : Reading)
    → channel_max agreed < suc m → goes_on (verdict_on (running config agreed (suc m) Free) r) ≡ true → ⊥
none-taken config agreed m r above g =
    let opens = running-free config agreed (suc m) (not-zero m) r g in
    let free = numbered _ (suc m == 0) _ (is_no_channel (running config agreed (suc m) Free)) _
    (by_state (running config agreed (suc m) Free) Free opens.0) (not-zero m)
    (subst (λ r. goes_on (verdict_on (running config agreed (suc m) Free) r) ≡ true) opens.1 g) in
    let below = ltb-false (channel_limit agreed) (suc m) (second (suc m == 0) _ free) in
    let same = same-limit agreed in
    absurd (omega arith)
  where
    second : (a b : Bool) → (a || b) ≡ false → b ≡ false
    second true b e = absurd (true≢false e)
    second false b e = e

replies-here : (number : ℕ) (owed : Option Kind)
    → Each (λ owed. owed.channel ≡ number) (map (on_channel number) (reply_to owed))
replies-here number None = tt
replies-here number (Some Kind.OpenOk) = (refl, tt)
replies-here number (Some Kind.CloseOk) = (refl, tt)
replies-here number (Some (Kind.FlowOk active)) = (refl, tt)
replies-here number (Some kind) = tt

pub owed-here : {role : Role} (facts : Facts role) (channel : Channel) (r : Reading) (v : FrameVerdict)
    → AgreesWithLives role facts.number channel r v
    → Each (λ owed. owed.channel ≡ facts.number) (methods_put facts v)
owed-here facts channel r v (agrees event owed told e is) =
    subst (λ v. Each (λ owed. owed.channel ≡ facts.number) (methods_put facts v)) (sym is)
    (replies-here facts.number owed)
owed-here facts channel r v (refuses e is) =
    subst (λ v. Each (λ owed. owed.channel ≡ facts.number) (methods_put facts v)) (sym is) (refl, tt)

-- A frame that the end goes on after.
module _ (role : Role) (config : Config role) (end : End) (frame : Frame) (w : NoneAbove end)
    (no_channel : end.channels 0 ≡ Free) (free_before : (step : HandshakeStep) → end.phase ≡ Handshake step
    → (n : ℕ) → end.channels n ≡ Free) where
  zero-numbered : (phase : Phase) → end.phase ≡ phase
      → goes_on (verdict_on (facts_at config end 0) (reading frame)) ≡ true
      → NoneAbove
      (end_after_owed role config
      (methods_put (facts_at config end 0) (verdict_on (facts_at config end 0) (reading frame)))
      (end_after role config 0 (TookHere (reading frame) frame) end))
  zero-numbered phase p g n above =
      owed-zero role config _ _ (verdict-zero (facts_at config end 0) refl (reading frame) g) n ∙ by-phase phase p
    where
      settled : in_handshake end.phase ≡ false
          → (end_after_owed role config
          (methods_put (facts_at config end 0) (verdict_on (facts_at config end 0) (reading frame)))
          (end_after role config 0 (TookHere (reading frame) frame) end)).agreed ≡ end.agreed
      settled h =
          owed-settles-none role config _ _
          (subst (λ channel.
          Each QuietZero (methods_put (facts_in config end.phase end.agreed 0 channel)
          (verdict_on (facts_in config end.phase end.agreed 0 channel) (reading frame)))) (sym no_channel)
          (zero-quiet config end.phase end.agreed (reading frame) h
          (subst (λ channel. goes_on (verdict_on (facts_in config end.phase end.agreed 0 channel) (reading frame))
          ≡ true) no_channel g)))
          ∙ took-settles-none role config end.phase (reading frame) frame end.agreed h

      stays : in_handshake end.phase ≡ false → end.channels n ≡ Free
      stays h = w n (subst (λ agreed. channel_max agreed < n) (settled h) above)

      by-phase : (phase : Phase) → end.phase ≡ phase → end.channels n ≡ Free
      by-phase (Handshake step) p = free_before step p n
      by-phase Running p = stays (ap in_handshake p)
      by-phase Phase.Closing p = stays (ap in_handshake p)
      by-phase Closed p = stays (ap in_handshake p)
      by-phase Failed p = stays (ap in_handshake p)

  running-numbered : (m : ℕ) → end.phase ≡ Running
      → goes_on (verdict_on (facts_at config end (suc m)) (reading frame)) ≡ true
      → NoneAbove
      (end_after_owed role config
      (methods_put (facts_at config end (suc m)) (verdict_on (facts_at config end (suc m)) (reading frame)))
      (end_after role config (suc m) (TookHere (reading frame) frame) end))
  running-numbered m p g n above = cases (n == suc m) refl
    where
      here : Each (λ owed. owed.channel ≡ suc m)
          (methods_put (facts_at config end (suc m)) (verdict_on (facts_at config end (suc m)) (reading frame)))
      here =
          owed-here (facts_at config end (suc m)) (end.channels (suc m)) (reading frame) _
          (frame-agrees config end.phase end.agreed (suc m) (end.channels (suc m)) (ap is_over p)
          (not-zero m) (reading frame) g)

      other : ((end_after_owed role config
          (methods_put (facts_at config end (suc m)) (verdict_on (facts_at config end (suc m)) (reading frame)))
          (end_after role config (suc m) (TookHere (reading frame) frame) end)).agreed ≡ end.agreed)
          × ((n : ℕ) → (n == suc m) ≡ false
          → (end_after_owed role config
          (methods_put (facts_at config end (suc m)) (verdict_on (facts_at config end (suc m)) (reading frame)))
          (end_after role config (suc m) (TookHere (reading frame) frame) end)).channels n
          ≡ (end_after role config (suc m) (TookHere (reading frame) frame) end).channels n)
      other = owed-elsewhere role config m _ (end_after role config (suc m) (TookHere (reading frame) frame) end) here

      above_old : channel_max end.agreed < n
      above_old = subst (λ agreed. channel_max agreed < n) other.0 above

      none : n ≡ suc m → ⊥
      none e =
          let above_m : channel_max end.agreed < suc m = subst (λ n. channel_max end.agreed < n) e above_old in
          none-taken config end.agreed m (reading frame) above_m
          (subst (λ channel. goes_on (verdict_on (facts_in config Running end.agreed (suc m) channel) (reading frame))
          ≡ true) (w (suc m) above_m)
          (subst (λ phase.
          goes_on (verdict_on (facts_in config phase end.agreed (suc m) (end.channels (suc m))) (reading frame))
          ≡ true) p g))

      cases : (b : Bool) → (n == suc m) ≡ b
          → (end_after_owed role config
          (methods_put (facts_at config end (suc m)) (verdict_on (facts_at config end (suc m)) (reading frame)))
          (end_after role config (suc m) (TookHere (reading frame) frame) end)).channels n ≡ Free
      cases false apart = other.1 n apart ∙ (set-elsewhere m n _ end.channels apart ∙ w n above_old)
      cases true same = absurd (none (eqb-true n (suc m) same))

leaving-numbered : (role : Role) (config : Config role) (agreed : Option Agreed) (all : ℕ → Channel) (m : ℕ)
    (frame : Frame) → NoneAbove (record { phase = Phase.Closing; agreed = agreed; channels = all })
    → NoneAbove
    (end_after_owed role config (methods_put (facts_in config Phase.Closing agreed (suc m) (all (suc m)))
    (verdict_on (facts_in config Phase.Closing agreed (suc m) (all (suc m))) (reading frame)))
    (end_after role config (suc m) (TookHere (reading frame) frame)
    (record { phase = Phase.Closing; agreed = agreed; channels = all })))
leaving-numbered role config agreed all m frame w =
    subst (λ owed.
    NoneAbove (end_after_owed role config owed (end_after role config (suc m) (TookHere (reading frame) frame)
    (record { phase = Phase.Closing; agreed = agreed; channels = all }))))
    (sym (puts-none config agreed m (all (suc m)) (reading frame))) (λ n above. cases n above (n == suc m) refl)
  where
    cases : (n : ℕ) → channel_max agreed < n → (b : Bool) → (n == suc m) ≡ b
        → cond b (all (suc m)) (all n) ≡ Free
    cases n above true e = ap all (sym (eqb-true n (suc m) e)) ∙ w n above
    cases n above false e = w n above

frame-numbered : (role : Role) (config : Config role) (end : End) (history : History) (frame : Frame)
    → StandsFor role config false end history → NoneAbove end → goes_on (end_verdict config end frame) ≡ true
    → NoneAbove (end_after_taken role config end (reading frame) frame)
frame-numbered role config end history frame s w g = by-channel frame.channel g
  where
    by-phase : (m : ℕ) (phase : Phase) → end.phase ≡ phase
        → goes_on (verdict_on (facts_at config end (suc m)) (reading frame)) ≡ true
        → NoneAbove
        (end_after_owed role config
        (methods_put (facts_at config end (suc m)) (verdict_on (facts_at config end (suc m)) (reading frame)))
        (end_after role config (suc m) (TookHere (reading frame) frame) end))
    by-phase m Running p g = running-numbered role config end frame w s.no_channel s.free_before m p g
    by-phase m Phase.Closing p g =
        subst (λ phase.
        NoneAbove (end_after_owed role config
        (methods_put (facts_in config phase end.agreed (suc m) (end.channels (suc m)))
        (verdict_on (facts_in config phase end.agreed (suc m) (end.channels (suc m))) (reading frame)))
        (end_after role config (suc m) (TookHere (reading frame) frame) (record {
          phase = phase;
          agreed = end.agreed;
          channels = end.channels;
        })))) (sym p) (leaving-numbered role config end.agreed end.channels m frame w)
    by-phase m (Handshake step) p g =
        handshake-stops config step end.agreed (suc m) (end.channels (suc m))
        (ap is_closing (s.free_before step p (suc m))) (not-zero m) (reading frame)
        (subst (λ p. goes_on (verdict_on (facts_in config p end.agreed (suc m) (end.channels (suc m))) (reading frame))
        ≡ true) p g)
    by-phase m Closed p g =
        absurd (false≢true
        (subst (λ p. goes_on (verdict_on (facts_in config p end.agreed (suc m) (end.channels (suc m))) (reading frame))
        ≡ true) p g))
    by-phase m Failed p g =
        absurd (false≢true
        (subst (λ p. goes_on (verdict_on (facts_in config p end.agreed (suc m) (end.channels (suc m))) (reading frame))
        ≡ true) p g))

    by-channel : (c : ℕ) → goes_on (verdict_on (facts_at config end c) (reading frame)) ≡ true
        → NoneAbove (failed_by (verdict_on (facts_at config end c) (reading frame))
        (end_after_owed role config
        (methods_put (facts_at config end c) (verdict_on (facts_at config end c) (reading frame)))
        (end_after role config c (TookHere (reading frame) frame) end)))
    by-channel zero g =
        subst NoneAbove (sym (not-failed (verdict_on (facts_at config end 0) (reading frame)) _ g))
        (zero-numbered role config end frame w s.no_channel s.free_before end.phase refl g)
    by-channel (suc m) g =
        subst NoneAbove (sym (not-failed (verdict_on (facts_at config end (suc m)) (reading frame)) _ g))
        (by-phase m end.phase refl g)

-- An ask.

abbrev AllOn : ℕ → List Frame → Type 0
AllOn c [] = Unit {0}
AllOn c (frame ∷ later) = (frame.channel ≡ c) × AllOn c later

put-elsewhere : (role : Role) (config : Config role) (c : ℕ) (frames : List Frame) (end : End) → AllOn c frames
    → (n : ℕ) → (n == c) ≡ false → (end_after_put role config frames end).channels n ≡ end.channels n
put-elsewhere role config c [] end on n apart = refl
put-elsewhere role config c (frame ∷ later) end on n apart =
    put-elsewhere role config c later _ on.1 n apart ∙ one frame.channel on.0
  where
    one : (k : ℕ) → k ≡ c
        → (end_after role config k (PutHere (reading frame) frame) end).channels n ≡ end.channels n
    one zero e = refl
    one (suc k) e = set-elsewhere k n _ end.channels (ap (λ c. n == c) e ∙ apart)

parts-on : (c : ℕ) (payloads : List Payload) → AllOn c (map (payload_frame c) payloads)
parts-on c [] = tt
parts-on c (payload ∷ later) = (frame-channel c payload, parts-on c later)

-- the channel of an ask is one
is-numbered : (end : End) (c : ℕ) → bad_number end (Some c) ≡ false → c ≤ channel_max end.agreed
is-numbered end c e = ltb-false (channel_max end.agreed) c (second (c == 0) _ e)
  where
    second : (a b : Bool) → (a || b) ≡ false → b ≡ false
    second true b e = absurd (true≢false e)
    second false b e = e

-- a frame of a channel up to the maximum leaves those above
below-elsewhere : (role : Role) (config : Config role) (c : ℕ) (frames : List Frame) (end : End) → AllOn c frames
    → c ≤ channel_max end.agreed → NoneAbove end → (n : ℕ) → channel_max end.agreed < n
    → (end_after_put role config frames end).channels n ≡ Free
below-elsewhere role config c frames end on below w n above =
    put-elsewhere role config c frames end on n (ne_eqb n c (λ e. absurd (omega (arith, e, above, below))))
    ∙ w n above

ask-channels : (role : Role) (config : Config role) (end : End) (ask : Ask) → Accepted role end ask → NoneAbove end
    → (n : ℕ) → channel_max end.agreed < n
    → (end_after_put role config (frames_asked end ask) end).channels n ≡ Free
ask-channels role config end Ask.Open a w n above =
    by-free (lowest_free end) (finds-lowest end.channels (channel_max end.agreed) 1)
  where
    by-free : (free : Option ℕ) → FindsLowest end.channels (channel_max end.agreed) 1 free
        → (end_after_put role config (opens_on free) end).channels n ≡ Free
    by-free None found = w n above
    by-free (Some k) found =
        below-elsewhere role config k (opens_on (Some k)) end (refl, tt) (let below = found.below_end in
        omega arith) w n above
ask-channels role config end (Ask.Send c message) a w n above =
    below-elsewhere role config c (frames_asked end (Ask.Send c message)) end
    (parts-on c (message_payloads (frame_max end.agreed) message))
    (is-numbered end c (not-when _ Refusal.BadChannel a.numbered)) w n above
ask-channels role config end (Ask.Flow c active) a w n above =
    below-elsewhere role config c (frames_asked end (Ask.Flow c active)) end (refl, tt)
    (is-numbered end c (not-when _ Refusal.BadChannel a.numbered)) w n above
ask-channels role config end (Ask.CloseChannel c code text cause) a w n above =
    below-elsewhere role config c (frames_asked end (Ask.CloseChannel c code text cause)) end (refl, tt)
    (is-numbered end c (not-when _ Refusal.BadChannel a.numbered)) w n above
ask-channels role config end (Ask.Close code text cause) a w n above =
    below-elsewhere role config 0 (frames_asked end (Ask.Close code text cause)) end (refl, tt) (omega arith) w n above
ask-channels role config end (Ask.Blocked reason) a w n above =
    below-elsewhere role config 0 (frames_asked end (Ask.Blocked reason)) end (refl, tt) (omega arith) w n above
ask-channels role config end Ask.Unblocked a w n above =
    below-elsewhere role config 0 (frames_asked end Ask.Unblocked) end (refl, tt) (omega arith) w n above

ask-numbered : (role : Role) (config : Config role) (end : End) (ask : Ask) (frames : List Frame) → NoneAbove end
    → ReadsBack (method_asked ask) → ask_verdict role end ask ≡ Puts frames
    → NoneAbove (end_after_put role config frames end)
ask-numbered role config end ask frames w back e =
    subst (λ frames. NoneAbove (end_after_put role config frames end)) parts.1
    (λ n above. ask-channels role config end ask a w n
    (subst (λ agreed. channel_max agreed < n)
    (all-keep role config (frames_asked end ask) end (ask-keeps role config end ask back a)) above))
  where
    parts : (refusal role end ask ≡ None) × (frames_asked end ask ≡ frames)
    parts = accepted-none (refusal role end ask) (frames_asked end ask) frames e

    a : Accepted role end ask
    a = accepted-ask role end ask parts.0

-- Lawful histories.

goes-numbered : (role : Role) (config : Config role) (before : History) (taken : Option Frame) (failed : Bool)
    (after : History) → failed ≡ false → WritesReadBack role config
    → StandsFor role config false (end_of config before) before → NoneAbove (end_of config before)
    → Goes role config before taken failed after → NoneAbove (end_of config after)
goes-numbered role config before taken failed after e back stands w greets =
    subst NoneAbove
    (sym (end-stands role config _ after (stands-kept.puts.put role config (end_of config []) [] _ stands (inl refl))))
    w
goes-numbered role config before taken failed after e back stands w (takes frame can g) =
    subst NoneAbove
    (sym (end-stands role config _ after (frame-follows role config (end_of config before) before frame back stands g)))
    (frame-numbered role config (end_of config before) before frame stands w g)
goes-numbered role config before taken failed after e back stands w (asks ask frames made read v) =
    subst NoneAbove
    (sym (end-stands role config _ after
    (asks-follow role config (end_of config before) before ask frames stands read.method made v)))
    (ask-numbered role config (end_of config before) ask frames w read.method v)
goes-numbered role config before taken failed after e back stands w (controls control frames read v) =
    let at = puts-at-zero role config (end_of config before) control frames back read v in
    let stood = control-kept Stands stands-kept.puts role config (end_of config before) before frames stands at in
    let same = all-keep role config frames (end_of config before) (control-keeps role config frames at) in
    subst NoneAbove (sym (end-stands role config _ after stood))
    (λ n above. subst (λ all. all n ≡ Free) (sym (control-channels role config frames (end_of config before) at))
    (w n (subst (λ agreed. channel_max agreed < n) same above)))
goes-numbered role config before taken failed after e back stands w (faults frame can g) = absurd (true≢false e)
goes-numbered role config before taken failed after e back stands w (meets_too_large p) = absurd (true≢false e)
goes-numbered role config before taken failed after e back stands w (fails p) = absurd (true≢false e)

lawful-numbered : (role : Role) (config : Config role) (failed : Bool) (history : History) → failed ≡ false
    → WritesReadBack role config → Lawful role config failed history → NoneAbove (end_of config history)
lawful-numbered role config failed history e back begun =
    subst NoneAbove (sym (end-stands role config (new_end role) [] (new-end-stands role config))) (λ n above. refl)
lawful-numbered role config failed history e back (goes {before = before} {taken = taken} lawful step) =
    goes-numbered role config before taken failed history e back
    (lawful-walks role config false before refl back lawful).stands
    (lawful-numbered role config false before refl back lawful) step

pub stands-numbered : StandsNumbered
stands-numbered role config end history back lawful stands =
    subst NoneAbove (end-stands role config end history stands)
    (lawful-numbered role config false history refl back lawful)
