-- What an end keeps follows each frame that it takes, with the frames that it owes.
use Rattle.std.proofs.Common.{◌≡◌, inl, inr, Bool, true, false, ℕ, zero, suc, ◌==◌, List, [], ◌∷◌}
use Rattle.std.proofs.Common.{map, Option, Some, None, refl, sym, ap, subst}
use Rattle.std.proofs.lemmas.Bool.{false≢true, eq-eqb}
use Rattle.amqp_method.specs.declared.kinds.Kind.TheVariants as kinds
use Rattle.amqp_model.specs.Wire.Frame.{Frame}
use Rattle.amqp_model.specs.Wire.Notes.{Role, Client, Server, Kind, Open, OpenOk, Close, CloseOk, Flow, FlowOk, Other}
use Rattle.amqp_model.specs.History.States.{State}
use Rattle.amqp_model.specs.History.Verdict as lives
use Rattle.amqp_model.specs.History.Verdict.{verdict_at}
use Rattle.amqp_model.specs.Wire.Methods.{Method, ReadsBack}
use Rattle.amqp_model.specs.Wire.Readings.{Calls, reading, kind_of}
use Rattle.amqp_model.specs.History.Histories.{Put, Took, History, ChannelEntry, PutHere, TookHere}
use Rattle.amqp_model.specs.End.Channels.{Channel, Free, Opening, Closing, Phase, Handshake, Running, Closed}
use Rattle.amqp_model.specs.End.Channels.{Failed, End, state_of}
use Rattle.amqp_model.specs.End.Channels as channels
use Rattle.amqp_model.specs.History.Negotiation.{Config}
use Rattle.amqp_model.specs.End.Closes.{ContentTooLarge, Owed, AllReadBack, frame_of, reply_to, channel_close}
use Rattle.amqp_model.specs.End.Closes.{without_arguments, flow_as}
use Rattle.amqp_model.specs.End.Events.{FrameVerdict, Proceeds, RefusesContent, Faults}
use Rattle.amqp_model.specs.End.FrameVerdict.{on_channel, awaits_in, verdict_on, methods_put}
use Rattle.amqp_model.specs.End.EndVerdict.{facts_at, end_verdict, goes_on}
use Rattle.amqp_model.specs.End.LawfulHistories.{then_put, then_taken}
use Rattle.amqp_model.specs.End.ReadingBack.{WritesReadBack}
use Rattle.amqp_model.specs.History.Replies.{request_made}
use Rattle.amqp_model.specs.End.Machine.{after_taken, may_put_here, end_after, end_after_owed, end_after_taken}
use Rattle.amqp_model.specs.End.Machine.{failed_by}
use Rattle.amqp_model.specs.Laws.EndLaws.{is_over, AgreesWithLives, agrees, refuses, FrameFollows}
use Rattle.amqp_model.proofs.Agreeing.{facts_in, is_closing, handshake-stops, frame-agrees}
use Rattle.amqp_model.proofs.Acting.{reads-back, is_other, is_acted, acted-open}
use Rattle.amqp_model.proofs.Elsewhere.{Each, verdict-zero}
use Rattle.amqp_model.proofs.Taking.{puts-none}
use Rattle.amqp_model.proofs.EndSteps.{not-zero}
use Rattle.amqp_model.proofs.Walking.{MayPut, IsKeptByPuts, IsKept, quiet-asks, Stands, stands-kept}

module _ (P : (role : Role) → Config role → End → History → Type 0) (k : IsKeptByPuts P) where
  -- one method owed
  owed-follows : (role : Role) (config : Config role) (end : End) (history : History) (owed : Owed)
      → P role config end history → ReadsBack owed.method → MayPut role end owed.channel (Calls owed.method)
      → P role config (end_after role config owed.channel (PutHere (Calls owed.method) (frame_of owed)) end)
      (Put (frame_of owed) ∷ history)
  owed-follows role config end history owed stands back fits =
      let said = reads-back owed.channel owed.method back in
      subst (λ r. P role config (end_after role config owed.channel (PutHere r (frame_of owed)) end)
      (Put (frame_of owed) ∷ history)) said (k.put role config end history (frame_of owed) stands
      (subst (MayPut role end owed.channel) (sym said) fits))

  -- methods owed on channel 0
  zero-follow : (role : Role) (config : Config role) (owed : List Owed) (end : End) (history : History)
      → Each (λ owed. owed.channel ≡ 0) owed → AllReadBack owed → P role config end history
      → P role config (end_after_owed role config owed end) (then_put (map frame_of owed) history)
  zero-follow role config [] end history zeros back stands = stands
  zero-follow role config (owed ∷ later) end history zeros back stands =
      zero-follow role config later (end_after role config owed.channel (PutHere (Calls owed.method) (frame_of owed))
      end) (Put (frame_of owed) ∷ history) zeros.1 back.1
      (owed-follows role config end history owed stands back.0 (inl zeros.0))

-- a verdict that goes on leaves the end as it is
pub not-failed : (v : FrameVerdict) (end : End) → goes_on v ≡ true → failed_by v end ≡ end
not-failed (Proceeds event owed) end g = refl
not-failed RefusesContent end g = refl
not-failed (Faults fault) end g = absurd (false≢true g)

-- what the lives owe may be put on the channel as it is then
abbrev MayReply : Role → Channel → lives.Verdict → Type 0
MayReply role channel (lives.GoesOn event (Some OpenOk)) =
    may_put_here role channel (Calls (without_arguments kinds.ChannelOpenOk)) ≡ true
MayReply role channel (lives.GoesOn event (Some CloseOk)) =
    may_put_here role channel (Calls (without_arguments kinds.ChannelCloseOk)) ≡ true
MayReply role channel (lives.GoesOn event (Some (FlowOk active))) =
    may_put_here role channel (Calls (flow_as kinds.ChannelFlowOk active)) ≡ true
MayReply role channel v = Unit {0}

may-reply : (role : Role) (entry : ChannelEntry) (channel : Channel) (awaits : Bool) (kind : Kind)
    → MayReply role (after_taken role entry channel kind) (verdict_at role (state_of channel) awaits kind)
may-reply Client entry Closing awaits Close = refl
may-reply Server entry Closing awaits Close = refl
may-reply Client entry Closing awaits CloseOk = tt
may-reply Server entry Closing awaits CloseOk = tt
may-reply Client entry Closing awaits kind = tt
may-reply Server entry Closing awaits kind = tt
may-reply Server entry Free awaits Open = refl
may-reply Server entry Free awaits OpenOk = tt
may-reply Client entry Free awaits Open = tt
may-reply Client entry Free awaits kind = tt
may-reply Server entry Free awaits kind = tt
may-reply Client entry Opening awaits Close = refl
may-reply Server entry Opening awaits Close = refl
may-reply Client entry Opening awaits OpenOk = tt
may-reply Client entry Opening awaits Open = tt
may-reply Client entry Opening awaits kind = tt
may-reply Server entry Opening awaits OpenOk = tt
may-reply Server entry Opening awaits kind = tt
may-reply Client entry (channels.Open life) awaits Close = refl
may-reply Server entry (channels.Open life) awaits Close = refl
may-reply Client entry (channels.Open life) awaits (Flow active) = refl
may-reply Server entry (channels.Open life) awaits (Flow active) = refl
may-reply Client entry (channels.Open life) true (FlowOk active) = tt
may-reply Client entry (channels.Open life) false (FlowOk active) = tt
may-reply Server entry (channels.Open life) true (FlowOk active) = tt
may-reply Server entry (channels.Open life) false (FlowOk active) = tt
may-reply Client entry (channels.Open life) awaits kind = tt
may-reply Server entry (channels.Open life) awaits kind = tt

-- a content refused on an Open channel
may-refuse : (role : Role) (entry : ChannelEntry) (channel : Channel) (kind : Kind) (number : ℕ)
    → state_of channel ≡ State.Open → is_other kind ≡ true
    → may_put_here role (after_taken role entry channel kind) (Calls (channel_close number ContentTooLarge).method)
    ≡ true
may-refuse Client entry (channels.Open life) (Other begins) number e k = refl
may-refuse Server entry (channels.Open life) (Other begins) number e k = refl
may-refuse role entry (channels.Open life) kind number e k = absurd (false≢true k)
may-refuse role entry Free kind number e k = absurd cc
may-refuse role entry Opening kind number e k = absurd cc
may-refuse role entry Closing kind number e k = absurd cc

module _ (P : (role : Role) → Config role → End → History → Type 0) (k : IsKept P) where
  -- A frame of a channel above 0, taken by an end that is Running.
  module _ (role : Role) (config : Config role) (end : End) (history : History) (frame : Frame) (m : ℕ)
      (is_running : end.phase ≡ Running)
      (stands : P role config (end_after role config (suc m) (TookHere (reading frame) frame) end)
      (Took frame ∷ history)) where
    channel-is : (end_after role config (suc m) (TookHere (reading frame) frame) end).channels (suc m)
        ≡ after_taken role (TookHere (reading frame) frame) (end.channels (suc m)) (kind_of (reading frame))
    channel-is = let here : (suc m == suc m) ≡ true = eq-eqb (suc m) (suc m) refl in simp (here, is_running)

    one : (method : Method) → ReadsBack method → request_made (Calls method) ≡ []
        → may_put_here role (after_taken role (TookHere (reading frame) frame) (end.channels (suc m))
        (kind_of (reading frame))) (Calls method) ≡ true
        → P role config (end_after_owed role config (record { channel = suc m; method = method } ∷ [])
        (end_after role config (suc m) (TookHere (reading frame) frame) end))
        (then_put (map frame_of (record { channel = suc m; method = method } ∷ [])) (Took frame ∷ history))
    one method back quiet may =
        owed-follows P k.puts role config (end_after role config (suc m) (TookHere (reading frame) frame) end)
        (Took frame ∷ history) (record { channel = suc m; method = method }) stands back
        (inr (
          is_running,
          subst (λ channel. may_put_here role channel (Calls method) ≡ true)
              (sym channel-is) may,
          quiet-asks role _ (Calls method) quiet,
        ))

    by-owed : (event : lives.ChannelEvent) (owed : Option Kind)
        → MayReply role (after_taken role (TookHere (reading frame) frame) (end.channels (suc m))
        (kind_of (reading frame))) (lives.GoesOn event owed) → AllReadBack (map (on_channel (suc m)) (reply_to owed))
        → P role config (end_after_owed role config (map (on_channel (suc m)) (reply_to owed))
        (end_after role config (suc m) (TookHere (reading frame) frame) end))
        (then_put (map frame_of (map (on_channel (suc m)) (reply_to owed))) (Took frame ∷ history))
    by-owed event None may back = stands
    by-owed event (Some OpenOk) may back = one (without_arguments kinds.ChannelOpenOk) back.0 refl may
    by-owed event (Some CloseOk) may back = one (without_arguments kinds.ChannelCloseOk) back.0 refl may
    by-owed event (Some (FlowOk active)) may back = one (flow_as kinds.ChannelFlowOk active) back.0 refl may
    by-owed event (Some kind) may back = stands

    running-follows : (v : FrameVerdict) → AgreesWithLives role (suc m) (end.channels (suc m)) (reading frame) v
        → AllReadBack (methods_put (facts_at config end (suc m)) v)
        → P role config (end_after_owed role config (methods_put (facts_at config end (suc m)) v)
        (end_after role config (suc m) (TookHere (reading frame) frame) end))
        (then_put (map frame_of (methods_put (facts_at config end (suc m)) v)) (Took frame ∷ history))
    running-follows v (agrees event owed told e is) back =
        let may = subst
        (MayReply role (after_taken role (TookHere (reading frame) frame) (end.channels (suc m))
        (kind_of (reading frame)))) e (may-reply role (TookHere (reading frame) frame) (end.channels (suc m))
        (awaits_in (end.channels (suc m))) (kind_of (reading frame))) in
        let put : methods_put (facts_at config end (suc m)) v ≡ map (on_channel (suc m)) (reply_to owed) =
        ap (methods_put (facts_at config end (suc m))) is in
        subst (λ l.
        P role config
        (end_after_owed role config l (end_after role config (suc m) (TookHere (reading frame) frame) end))
        (then_put (map frame_of l) (Took frame ∷ history))) (sym put)
        (by-owed event owed may (subst AllReadBack put back))
    running-follows v (refuses e is) back =
        let put : methods_put (facts_at config end (suc m)) v ≡ channel_close (suc m) ContentTooLarge ∷ [] =
        ap (methods_put (facts_at config end (suc m))) is in
        let acted = acted-open role (state_of (end.channels (suc m))) (awaits_in (end.channels (suc m)))
        (kind_of (reading frame)) (ap is_acted e) in
        subst (λ l.
        P role config
        (end_after_owed role config l (end_after role config (suc m) (TookHere (reading frame) frame) end))
        (then_put (map frame_of l) (Took frame ∷ history))) (sym put)
        (one (channel_close (suc m) ContentTooLarge).method (subst AllReadBack put back).0 refl
        (may-refuse role (TookHere (reading frame) frame) (end.channels (suc m))
        (kind_of (reading frame)) (suc m) acted.0 acted.1))

  -- a frame of a channel above 0
  above-follows : (role : Role) (config : Config role) (end : End) (history : History) (frame : Frame) (m : ℕ)
      → P role config end history
      → P role config (end_after role config (suc m) (TookHere (reading frame) frame) end) (Took frame ∷ history)
      → AllReadBack
      (methods_put (facts_at config end (suc m)) (verdict_on (facts_at config end (suc m)) (reading frame)))
      → goes_on (verdict_on (facts_at config end (suc m)) (reading frame)) ≡ true → (phase : Phase)
      → end.phase ≡ phase
      → P role config
      (end_after_owed role config
      (methods_put (facts_at config end (suc m)) (verdict_on (facts_at config end (suc m)) (reading frame)))
      (end_after role config (suc m) (TookHere (reading frame) frame) end))
      (then_put (map frame_of
      (methods_put (facts_at config end (suc m)) (verdict_on (facts_at config end (suc m)) (reading frame))))
      (Took frame ∷ history))
  above-follows role config end history frame m stands taken back g Running p =
      running-follows role config end history frame m p taken (verdict_on (facts_at config end (suc m)) (reading frame))
      (frame-agrees config end.phase end.agreed (suc m) (end.channels (suc m)) (ap is_over p)
      (not-zero m) (reading frame) g) back
  above-follows role config end history frame m stands taken back g (Handshake step) p =
      handshake-stops config step end.agreed (suc m) (end.channels (suc m))
      (ap is_closing (k.free_before role config end history stands step p (suc m))) (not-zero m) (reading frame)
      (subst (λ p. goes_on (verdict_on (facts_in config p end.agreed (suc m) (end.channels (suc m))) (reading frame))
      ≡ true) p g)
  above-follows role config end history frame m stands taken back g Phase.Closing p =
      let none : methods_put (facts_at config end (suc m)) (verdict_on (facts_at config end (suc m)) (reading frame))
      ≡ [] = subst (λ p. methods_put (facts_in config p end.agreed (suc m) (end.channels (suc m)))
      (verdict_on (facts_in config p end.agreed (suc m) (end.channels (suc m))) (reading frame)) ≡ []) (sym p)
      (puts-none config end.agreed m (end.channels (suc m)) (reading frame)) in
      subst (λ l.
      P role config (end_after_owed role config l (end_after role config (suc m) (TookHere (reading frame) frame) end))
      (then_put (map frame_of l) (Took frame ∷ history))) (sym none) taken
  above-follows role config end history frame m stands taken back g Closed p =
      absurd (false≢true
      (subst (λ p. goes_on (verdict_on (facts_in config p end.agreed (suc m) (end.channels (suc m))) (reading frame))
      ≡ true) p g))
  above-follows role config end history frame m stands taken back g Failed p =
      absurd (false≢true
      (subst (λ p. goes_on (verdict_on (facts_in config p end.agreed (suc m) (end.channels (suc m))) (reading frame))
      ≡ true) p g))

  pub frame-kept : (role : Role) (config : Config role) (end : End) (history : History) (frame : Frame)
      → WritesReadBack role config → P role config end history → goes_on (end_verdict config end frame) ≡ true
      → P role config (end_after_taken role config end (reading frame) frame) (then_taken config end frame history)
  frame-kept role config end history frame back stands g =
      by-channel frame.channel refl (back.owed end frame.channel (reading frame)) g
      (k.took role config end history frame stands g)
    where
      by-channel : (c : ℕ) → frame.channel ≡ c
          → AllReadBack (methods_put (facts_at config end c) (verdict_on (facts_at config end c) (reading frame)))
          → goes_on (verdict_on (facts_at config end c) (reading frame)) ≡ true
          → P role config (end_after role config c (TookHere (reading frame) frame) end) (Took frame ∷ history)
          → P role config (failed_by (verdict_on (facts_at config end c) (reading frame))
          (end_after_owed role config
          (methods_put (facts_at config end c) (verdict_on (facts_at config end c) (reading frame)))
          (end_after role config c (TookHere (reading frame) frame) end)))
          (then_put (map frame_of
          (methods_put (facts_at config end c) (verdict_on (facts_at config end c) (reading frame))))
          (Took frame ∷ history))
      by-channel zero e back g taken =
          subst (λ after.
          P role config after
          (then_put (map frame_of
          (methods_put (facts_at config end 0) (verdict_on (facts_at config end 0) (reading frame))))
          (Took frame ∷ history))) (sym (not-failed (verdict_on (facts_at config end 0) (reading frame)) _ g))
          (zero-follow P k.puts role config _ _ (Took frame ∷ history)
          (verdict-zero (facts_at config end 0) refl (reading frame) g) back taken)
      by-channel (suc m) e back g taken =
          subst (λ after.
          P role config after
          (then_put (map frame_of
          (methods_put (facts_at config end (suc m)) (verdict_on (facts_at config end (suc m)) (reading frame))))
          (Took frame ∷ history))) (sym (not-failed (verdict_on (facts_at config end (suc m)) (reading frame)) _ g))
          (above-follows role config end history frame m stands taken back g end.phase refl)

pub frame-follows : FrameFollows
frame-follows = frame-kept Stands stands-kept
