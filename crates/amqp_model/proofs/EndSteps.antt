-- What an end keeps follows each entry of its history.
use Rattle.std.proofs.Common.{◌≡◌, ◌⊎◌, inl, inr, Bool, true, false, cond, ◌||◌, ℕ, zero, suc}
use Rattle.std.proofs.Common.{◌==◌, arith, List, ◌∷◌, refl, sym, ap, ◌∙◌, ap₂, subst}
use Rattle.std.proofs.lemmas.Bool.{false≢true, true≢false, eqb-true, eq-eqb, ne_eqb}
use Rattle.amqp_method.specs.declared.kinds.Kind.TheVariants as kinds
use Rattle.amqp_model.specs.Wire.Frame.{Frame}
use Rattle.amqp_model.specs.Wire.Notes.{Role, Client, Server}
use Rattle.amqp_model.specs.History.Lives.{has_left}
use Rattle.amqp_model.specs.Wire.Readings.{Reading, Calls, reading, is_call}
use Rattle.amqp_model.specs.History.Histories.{Put, Took, History, ChannelEntry, PutHere, TookHere, LeftHere}
use Rattle.amqp_model.specs.History.Histories.{closes_connection, entries_on, notes}
use Rattle.amqp_model.specs.End.Channels.{Channel, Free, HandshakeStep, Phase, Handshake, Running, Closed, Failed, End}
use Rattle.amqp_model.specs.History.Negotiation.{Config}
use Rattle.amqp_model.specs.End.StateFromHistory.{has_put, is_closed, is_negotiated, step_from, phase_from, agreed_from}
use Rattle.amqp_model.specs.End.FrameVerdict.{verdict_on}
use Rattle.amqp_model.specs.End.EndVerdict.{facts_at, goes_on}
use Rattle.amqp_model.specs.End.Machine.{phase_taken, phase_put, phase_after, agreed_after, set_channel, unless_leaving}
use Rattle.amqp_model.specs.End.Machine.{channel_after, may_put_here, end_after, ChannelStandsFor, StandsFor}
use Rattle.amqp_model.specs.Laws.EndLaws.{is_over, EndFollows, NewEndStands}
use Rattle.amqp_model.proofs.Phases.{phase-taken, phase-put}
use Rattle.amqp_model.proofs.Following.{follows-taken, follows-put, follows-leaving}
use Rattle.amqp_model.proofs.Agreeing.{facts_in, is_closing, handshake-stops}
use Rattle.amqp_model.proofs.Acting.{left-noted, not-left, seen-took, seen-put}
use Rattle.amqp_model.proofs.Taking.{has-left}

pub not-zero : (n : ℕ) → (suc n == 0) ≡ false
not-zero n = ne_eqb (suc n) 0 (λ e. let h : suc n ≡ 0 = e in omega arith)

zero-not : (n : ℕ) → (0 == suc n) ≡ false
zero-not n = ne_eqb 0 (suc n) (λ e. let h : 0 ≡ suc n = e in omega arith)

-- Channel 0.

pub zero-took : (frame : Frame) (history : History) → frame.channel ≡ 0 → entries_on 0 (Took frame ∷ history)
    ≡ TookHere (reading frame) frame ∷ entries_on 0 history
zero-took frame history e = let here : (frame.channel == 0) ≡ true = eq-eqb frame.channel 0 e in simp here

pub zero-put : (frame : Frame) (history : History) → frame.channel ≡ 0 → entries_on 0 (Put frame ∷ history)
    ≡ PutHere (reading frame) frame ∷ entries_on 0 history
zero-put frame history e = let here : (frame.channel == 0) ≡ true = eq-eqb frame.channel 0 e in simp here

pub agreed-taken : (role : Role) (config : Config role) (r : Reading) (frame : Frame) (entries : List ChannelEntry)
    → agreed_from role config (TookHere r frame ∷ entries)
    ≡ agreed_after role config (phase_from role false entries) (TookHere r frame) (agreed_from role config entries)
agreed-taken Client config r frame entries = refl
agreed-taken Server config (Calls method) frame entries = refl
agreed-taken Server config r frame entries = refl

pub agreed-put : (role : Role) (config : Config role) (r : Reading) (frame : Frame) (entries : List ChannelEntry)
    → agreed_from role config (PutHere r frame ∷ entries)
    ≡ agreed_after role config (phase_from role false entries) (PutHere r frame) (agreed_from role config entries)
agreed-put Server config r frame entries = refl
agreed-put Client config (Calls method) frame entries = refl
agreed-put Client config r frame entries = refl

-- the handshake goes on only where it was going on
abbrev in_handshake : Phase → Bool
in_handshake (Handshake step) = true
in_handshake phase = false

still-taken : (role : Role) (r : Reading) (phase : Phase) → in_handshake (phase_taken role r phase) ≡ true
    → in_handshake phase ≡ true
still-taken role r (Handshake step) e = refl
still-taken role r Running e = absurd (ended (is_call kinds.ConnectionClose r || is_call kinds.ConnectionCloseOk r) e)
  where
    ended : (b : Bool) → in_handshake (cond b Closed Running) ≡ true → ⊥
    ended true e = false≢true e
    ended false e = false≢true e
still-taken role r Phase.Closing e = absurd (ended (is_call kinds.ConnectionCloseOk r) e)
  where
    ended : (b : Bool) → in_handshake (cond b Closed Phase.Closing) ≡ true → ⊥
    ended true e = false≢true e
    ended false e = false≢true e
still-taken role r Closed e = e
still-taken role r Failed e = e

still-put : (role : Role) (r : Reading) (phase : Phase) → in_handshake (phase_put role r phase) ≡ true
    → in_handshake phase ≡ true
still-put role r (Handshake step) e = refl
still-put role r Running e = absurd (ended (is_call kinds.ConnectionClose r) e)
  where
    ended : (b : Bool) → in_handshake (cond b Phase.Closing Running) ≡ true → ⊥
    ended true e = false≢true e
    ended false e = false≢true e
still-put role r Phase.Closing e = e
still-put role r Closed e = e
still-put role r Failed e = e

free-still : (end : End) → ((step : HandshakeStep) → end.phase ≡ Handshake step → (n : ℕ)
    → end.channels n ≡ Free) → in_handshake end.phase ≡ true → (n : ℕ) → end.channels n ≡ Free
free-still end free e = by-phase end.phase refl e
  where
    by-phase : (phase : Phase) → end.phase ≡ phase → in_handshake phase ≡ true → (n : ℕ)
        → end.channels n ≡ Free
    by-phase (Handshake step) p e = free step p
    by-phase Running p e = absurd (false≢true e)
    by-phase phase p e = absurd (false≢true e)

-- an entry of channel 0 leaves the channels, but for the mark of connection.close
zero-leaves-took : (frame : Frame) (history : History) (n : ℕ) → frame.channel ≡ 0
    → entries_on (suc n) (Took frame ∷ history) ≡ entries_on (suc n) history
zero-leaves-took frame history n e =
    let apart : (frame.channel == suc n) ≡ false = ap (λ c. c == suc n) e ∙ zero-not n in
    simp apart

zero-leaves-put : (role : Role) (channel : Channel) (frame : Frame) (history : History) (n : ℕ)
    → frame.channel ≡ 0 → ChannelStandsFor role channel (entries_on (suc n) history)
    → ChannelStandsFor role channel (entries_on (suc n) (Put frame ∷ history))
zero-leaves-put role channel frame history n e stands = cases (closes_connection frame) refl
  where
    apart : (frame.channel == suc n) ≡ false
    apart = ap (λ c. c == suc n) e ∙ zero-not n

    cases : (b : Bool) → closes_connection frame ≡ b
        → ChannelStandsFor role channel (entries_on (suc n) (Put frame ∷ history))
    cases true k =
        let seen : entries_on (suc n) (Put frame ∷ history) ≡ LeftHere ∷ entries_on (suc n) history =
        simp (apart, k) in
        subst (ChannelStandsFor role channel) (sym seen) stands
    cases false k =
        let seen : entries_on (suc n) (Put frame ∷ history) ≡ entries_on (suc n) history = simp (apart, k) in
        subst (ChannelStandsFor role channel) (sym seen) stands

took-zero : (role : Role) (config : Config role) (end : End) (history : History) (frame : Frame) → frame.channel ≡ 0
    → StandsFor role config false end history
    → StandsFor role config false (end_after role config 0 (TookHere (reading frame) frame) end)
    (Took frame ∷ history)
took-zero role config end history frame e stands =
    record {
      phase = ap (phase_from role false) (zero-took frame history e)
          ∙ (phase-taken role (reading frame) frame (entries_on 0 history)
          ∙ ap (phase_after role (TookHere (reading frame) frame)) stands.phase);
      agreed = ap (agreed_from role config) (zero-took frame history e)
          ∙ (agreed-taken role config (reading frame) frame (entries_on 0 history)
          ∙ ap₂ (λ phase agreed. agreed_after role config phase (TookHere (reading frame) frame) agreed)
          stands.phase stands.agreed);
      no_channel = stands.no_channel;
      free_before =
          λ step p. free-still end stands.free_before (still-taken role (reading frame) end.phase (ap in_handshake p));
      channels = λ goes n. subst (ChannelStandsFor role (end.channels (suc n)))
          (sym (zero-leaves-took frame history n e)) (stands.channels goes n);
    }

put-zero : (role : Role) (config : Config role) (end : End) (history : History) (frame : Frame) → frame.channel ≡ 0
    → StandsFor role config false end history
    → StandsFor role config false (end_after role config 0 (PutHere (reading frame) frame) end)
    (Put frame ∷ history)
put-zero role config end history frame e stands =
    record {
      phase = ap (phase_from role false) (zero-put frame history e)
          ∙ (phase-put role (reading frame) frame (entries_on 0 history)
          ∙ ap (phase_after role (PutHere (reading frame) frame)) stands.phase);
      agreed = ap (agreed_from role config) (zero-put frame history e)
          ∙ (agreed-put role config (reading frame) frame (entries_on 0 history)
          ∙ ap₂ (λ phase agreed. agreed_after role config phase (PutHere (reading frame) frame) agreed)
          stands.phase stands.agreed);
      no_channel = stands.no_channel;
      free_before =
          λ step p. free-still end stands.free_before (still-put role (reading frame) end.phase (ap in_handshake p));
      channels = λ goes n. zero-leaves-put role (end.channels (suc n)) frame history n e (stands.channels goes n);
    }

-- A channel above 0.

-- entries of another channel
others-took : (frame : Frame) (history : History) (n : ℕ) → (frame.channel == suc n) ≡ false
    → entries_on (suc n) (Took frame ∷ history) ≡ entries_on (suc n) history
others-took frame history n apart = simp apart

others-put : (frame : Frame) (history : History) (n : ℕ) → (frame.channel == 0) ≡ false
    → (frame.channel == suc n) ≡ false → entries_on (suc n) (Put frame ∷ history) ≡ entries_on (suc n) history
others-put frame history n above apart = simp (above, apart)

pub zero-took-others : (frame : Frame) (history : History) → (frame.channel == 0) ≡ false
    → entries_on 0 (Took frame ∷ history) ≡ entries_on 0 history
zero-took-others frame history above = simp above

pub zero-put-others : (frame : Frame) (history : History) → (frame.channel == 0) ≡ false
    → entries_on 0 (Put frame ∷ history) ≡ entries_on 0 history
zero-put-others frame history above = simp above

-- the channel of the entry, and the others
set-stands : (role : Role) (m : ℕ) (after : Channel) (channels : ℕ → Channel) (before now : History)
    → ChannelStandsFor role after (entries_on (suc m) now)
    → ((n : ℕ) → (suc m == suc n) ≡ false → entries_on (suc n) now ≡ entries_on (suc n) before)
    → ((n : ℕ) → ChannelStandsFor role (channels (suc n)) (entries_on (suc n) before)) → (n : ℕ)
    → ChannelStandsFor role (set_channel (suc m) after channels (suc n)) (entries_on (suc n) now)
set-stands role m after channels before now here others stand n = cases (suc n == suc m) refl
  where
    cases : (b : Bool) → (suc n == suc m) ≡ b
        → ChannelStandsFor role (cond b after (channels (suc n))) (entries_on (suc n) now)
    cases true e = subst (λ c. ChannelStandsFor role after (entries_on c now)) (sym (eqb-true (suc n) (suc m) e)) here
    cases false e =
        let apart : (suc m == suc n) ≡ false =
        ne_eqb (suc m) (suc n) (λ same. let h : (suc n == suc m) ≡ true = eq-eqb (suc n) (suc m) (sym same) in
        true≢false (sym h ∙ e)) in
        subst (ChannelStandsFor role (channels (suc n))) (sym (others n apart)) (stand n)

pub set-zero : (m : ℕ) (after : Channel) (channels : ℕ → Channel) → channels 0 ≡ Free
    → set_channel (suc m) after channels 0 ≡ Free
set-zero m after channels e = let apart : (0 == suc m) ≡ false = zero-not m in simp apart e

-- the words that say whether the end has put connection.close
closed-words : (role : Role) (config : Config role) (end : End) (history : History)
    → StandsFor role config false end history → (phase : Phase) → end.phase ≡ phase
    → cond (is_closed (entries_on 0 history)) Closed
    (cond (has_put kinds.ConnectionClose (entries_on 0 history)) Phase.Closing
    (cond (is_negotiated role (entries_on 0 history)) Running (Handshake (step_from role (entries_on 0 history)))))
    ≡ phase
closed-words role config end history stands phase p = stands.phase ∙ p

pub stays-here : (role : Role) (config : Config role) (end : End) (history : History) (m : ℕ)
    → StandsFor role config false end history → end.phase ≡ Running
    → has_left (notes (entries_on (suc m) history)) ≡ false
stays-here role config end history m stands p =
    left-noted history m
    ∙ not-left (is_closed (entries_on 0 history)) (has_put kinds.ConnectionClose (entries_on 0 history))
    (is_negotiated role (entries_on 0 history)) (step_from role (entries_on 0 history))
    (ap is_over (closed-words role config end history stands Running p))

pub left-here : (role : Role) (config : Config role) (end : End) (history : History) (m : ℕ)
    → StandsFor role config false end history → end.phase ≡ Phase.Closing
    → has_left (notes (entries_on (suc m) history)) ≡ true
left-here role config end history m stands p =
    left-noted history m
    ∙ has-left (is_closed (entries_on 0 history)) (has_put kinds.ConnectionClose (entries_on 0 history))
    (is_negotiated role (entries_on 0 history)) (step_from role (entries_on 0 history))
    (closed-words role config end history stands Phase.Closing p)

-- the channel of a frame taken
took-here : (role : Role) (config : Config role) (end : End) (history : History) (frame : Frame) (m : ℕ)
    → frame.channel ≡ suc m → StandsFor role config false end history
    → goes_on (verdict_on (facts_at config end (suc m)) (reading frame)) ≡ true → (phase : Phase)
    → end.phase ≡ phase
    → ChannelStandsFor role
    (unless_leaving phase (end.channels (suc m)) (channel_after role (TookHere (reading frame) frame)
    (end.channels (suc m)))) (entries_on (suc m) (Took frame ∷ history))
took-here role config end history frame m e stands g Running p =
    subst (ChannelStandsFor role (channel_after role (TookHere (reading frame) frame) (end.channels (suc m))))
    (sym (seen-took frame history m e)) (follows-taken role (facts_at config end (suc m)) (reading frame) frame
    (entries_on (suc m) history) p (λ z. let h : suc m ≡ 0 = z in
    omega arith) (stays-here role config end history m stands p) (stands.channels refl m) g)
took-here role config end history frame m e stands g Phase.Closing p =
    subst (ChannelStandsFor role (end.channels (suc m))) (sym (seen-took frame history m e))
    (follows-leaving role (end.channels (suc m)) (TookHere (reading frame) frame) (entries_on (suc m) history)
    (left-here role config end history m stands p) (stands.channels refl m))
took-here role config end history frame m e stands g (Handshake step) p =
    handshake-stops config step end.agreed (suc m) (end.channels (suc m))
    (ap is_closing (stands.free_before step p (suc m))) (not-zero m) (reading frame)
    (subst (λ p. goes_on (verdict_on (facts_in config p end.agreed (suc m) (end.channels (suc m))) (reading frame))
    ≡ true) p g)
took-here role config end history frame m e stands g Closed p =
    absurd (false≢true
    (subst (λ p. goes_on (verdict_on (facts_in config p end.agreed (suc m) (end.channels (suc m))) (reading frame))
    ≡ true) p g))
took-here role config end history frame m e stands g Failed p =
    absurd (false≢true
    (subst (λ p. goes_on (verdict_on (facts_in config p end.agreed (suc m) (end.channels (suc m))) (reading frame))
    ≡ true) p g))

-- nothing is taken off channel 0 in the handshake
no-handshake : (role : Role) (config : Config role) (end : End) (history : History) (frame : Frame) (m : ℕ)
    → StandsFor role config false end history → goes_on (verdict_on (facts_at config end (suc m)) (reading frame))
    ≡ true → (step : HandshakeStep) → end.phase ≡ Handshake step → ⊥
no-handshake role config end history frame m stands g step p =
    handshake-stops config step end.agreed (suc m) (end.channels (suc m))
    (ap is_closing (stands.free_before step p (suc m))) (not-zero m) (reading frame)
    (subst (λ p. goes_on (verdict_on (facts_in config p end.agreed (suc m) (end.channels (suc m))) (reading frame))
    ≡ true) p g)

took-above : (role : Role) (config : Config role) (end : End) (history : History) (frame : Frame) (m : ℕ)
    → frame.channel ≡ suc m → StandsFor role config false end history
    → goes_on (verdict_on (facts_at config end (suc m)) (reading frame)) ≡ true
    → StandsFor role config false (end_after role config (suc m) (TookHere (reading frame) frame) end)
    (Took frame ∷ history)
took-above role config end history frame m e stands g =
    record {
      phase = ap (phase_from role false) (zero-took-others frame history above) ∙ stands.phase;
      agreed = ap (agreed_from role config) (zero-took-others frame history above) ∙ stands.agreed;
      no_channel = set-zero m _ end.channels stands.no_channel;
      free_before = λ step p. absurd (no-handshake role config end history frame m stands g step p);
      channels = λ goes. set-stands role m _ end.channels history (Took frame ∷ history)
          (took-here role config end history frame m e stands g end.phase refl)
          (λ n apart. others-took frame history n (ap (λ c. c == suc n) e ∙ apart)) (stands.channels goes);
    }
  where
    above : (frame.channel == 0) ≡ false
    above = ap (λ c. c == 0) e ∙ not-zero m

put-above : (role : Role) (config : Config role) (end : End) (history : History) (frame : Frame) (m : ℕ)
    → frame.channel ≡ suc m → StandsFor role config false end history → end.phase ≡ Running
    → may_put_here role (end.channels (suc m)) (reading frame) ≡ true
    → StandsFor role config false (end_after role config (suc m) (PutHere (reading frame) frame) end)
    (Put frame ∷ history)
put-above role config end history frame m e stands p may =
    record {
      phase = ap (phase_from role false) (zero-put-others frame history above) ∙ stands.phase;
      agreed = ap (agreed_from role config) (zero-put-others frame history above) ∙ stands.agreed;
      no_channel = set-zero m _ end.channels stands.no_channel;
      free_before = λ step q. absurd (false≢true (ap in_handshake (sym p ∙ q)));
      channels = λ goes. set-stands role m _ end.channels history (Put frame ∷ history) here
          (λ n apart. others-put frame history n above (ap (λ c. c == suc n) e ∙ apart)) (stands.channels goes);
    }
  where
    above : (frame.channel == 0) ≡ false
    above = ap (λ c. c == 0) e ∙ not-zero m

    here : ChannelStandsFor role
        (unless_leaving end.phase (end.channels (suc m))
        (channel_after role (PutHere (reading frame) frame) (end.channels (suc m))))
        (entries_on (suc m) (Put frame ∷ history))
    here =
        subst (λ q.
        ChannelStandsFor role
        (unless_leaving q (end.channels (suc m))
        (channel_after role (PutHere (reading frame) frame) (end.channels (suc m))))
        (entries_on (suc m) (Put frame ∷ history))) (sym p)
        (subst (ChannelStandsFor role (channel_after role (PutHere (reading frame) frame) (end.channels (suc m))))
        (sym (seen-put frame history m e)) (follows-put role (end.channels (suc m)) (reading frame) frame
        (entries_on (suc m) history) (stays-here role config end history m stands p) (stands.channels refl m) may))

pub end-follows : EndFollows
end-follows role config end history (Took frame) stands g = by-channel frame.channel refl g
  where
    by-channel : (c : ℕ) → frame.channel ≡ c → goes_on (verdict_on (facts_at config end c) (reading frame))
        ≡ true → StandsFor role config false (end_after role config c (TookHere (reading frame) frame) end)
        (Took frame ∷ history)
    by-channel zero e g = took-zero role config end history frame e stands
    by-channel (suc m) e g = took-above role config end history frame m e stands g
end-follows role config end history (Put frame) stands fits = by-channel frame.channel refl fits
  where
    by-channel : (c : ℕ) → frame.channel ≡ c
        → (c ≡ 0) ⊎ ((end.phase ≡ Running) × (may_put_here role (end.channels c) (reading frame) ≡ true))
        → StandsFor role config false (end_after role config c (PutHere (reading frame) frame) end)
        (Put frame ∷ history)
    by-channel zero e fits = put-zero role config end history frame e stands
    by-channel (suc m) e (inl z) = absurd (let h : suc m ≡ 0 = z in omega arith)
    by-channel (suc m) e (inr fits) = put-above role config end history frame m e stands fits.0 fits.1

pub new-end-stands : NewEndStands
new-end-stands Client config =
    record {
      phase = refl;
      agreed = refl;
      no_channel = refl;
      free_before = λ step p n. refl;
      channels = λ goes n. (refl, refl);
    }
new-end-stands Server config =
    record {
      phase = refl;
      agreed = refl;
      no_channel = refl;
      free_before = λ step p n. refl;
      channels = λ goes n. (refl, refl);
    }
