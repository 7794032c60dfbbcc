-- What an end takes it takes as the lives of a channel allow.
use Rattle.std.proofs.Common.{◌≡◌, Bool, true, false, cond, ◌&&◌, ℕ, suc, ◌==◌, arith, List, []}
use Rattle.std.proofs.Common.{◌∷◌, ◌++◌, map, Option, Some, None, refl, sym, ap, ◌∙◌, subst}
use Rattle.std.proofs.lemmas.Bool.{false≢true, true≢false, eqb-true, eq-eqb}
use Rattle.amqp_method.specs.declared.kinds.Kind.TheVariants as kinds
use Rattle.amqp_model.specs.Wire.Frame.{Frame}
use Rattle.amqp_model.specs.Wire.Notes.{Role, Client, Server, Kind, Open, OpenOk, Close, CloseOk, Flow, FlowOk, Other}
use Rattle.amqp_model.specs.Wire.Notes.{Note}
use Rattle.amqp_model.specs.History.States.{State}
use Rattle.amqp_model.specs.History.Lives.{has_left, state_by, state, awaits_flow_ok}
use Rattle.amqp_model.specs.History.Verdict as lives
use Rattle.amqp_model.specs.History.Verdict.{verdict_at, verdict}
use Rattle.amqp_model.specs.Pair.Carried.{Carry}
use Rattle.amqp_model.specs.Pair.Runs.{IsNext, asks, takes, replies, may_put}
use Rattle.amqp_model.specs.Wire.Methods.{Method, ReadsBack}
use Rattle.amqp_model.specs.Wire.Readings.{Calls, reading, method_reading, is_call, kind_of}
use Rattle.amqp_model.specs.History.Histories.{Put, Took, History, ChannelEntry, PutHere, TookHere, LeftHere}
use Rattle.amqp_model.specs.History.Histories.{entries_on, notes, entries_before_leaving}
use Rattle.amqp_model.specs.End.Channels.{Life, Phase, Handshake, Running, Closed, HandshakeStep, state_of}
use Rattle.amqp_model.specs.End.Closes.{ContentTooLarge, AllReadBack, method_frame, frame_of, channel_close, reply_to}
use Rattle.amqp_model.specs.End.Closes.{without_arguments, flow_as}
use Rattle.amqp_model.specs.End.Events.{FrameVerdict}
use Rattle.amqp_model.specs.End.LawfulHistories.{then_put}
use Rattle.amqp_model.specs.End.StateFromHistory.{has_put, life_from, channel_in, channel_from}
use Rattle.amqp_model.specs.End.FrameVerdict.{Facts, awaits_in, on_channel, methods_put}
use Rattle.amqp_model.specs.Laws.EndLaws.{is_over, AgreesWithLives, agrees, refuses, ActsOn, rests, acts}
use Rattle.amqp_model.proofs.Following.{all-before}
use Rattle.amqp_model.proofs.Standing.{notes-before, state-reads}
use Rattle.amqp_model.proofs.Ends.{before_leaving_all}

apart : {A : Type 0} (m n : ℕ) → (m == suc n) ≡ true → (m == 0) ≡ true → A
apart m n e z =
    absurd (let a = eqb-true m (suc n) e in let b = eqb-true m 0 z in
    let c : suc n ≡ 0 = sym a ∙ b in suc-not-zero n c)
  where
    suc-not-zero : (n : ℕ) → suc n ≡ 0 → ⊥
    suc-not-zero n e = let h : suc n ≡ 0 = e in omega arith

-- connection.close is noted on every channel
pub left-noted : (history : History) (n : ℕ) → has_left (notes (entries_on (suc n) history))
    ≡ has_put kinds.ConnectionClose (entries_on 0 history)
left-noted [] n = refl
left-noted (Took frame ∷ history) n = cases (frame.channel == suc n) (frame.channel == 0) (left-noted history n)
  where
    cases : (a z : Bool) → has_left (notes (entries_on (suc n) history)) ≡ has_put kinds.ConnectionClose
        (entries_on 0 history)
        → has_left (notes (cond a (TookHere (reading frame) frame ∷ []) [] ++ entries_on (suc n) history))
        ≡ has_put kinds.ConnectionClose (cond z (TookHere (reading frame) frame ∷ []) [] ++ entries_on 0 history)
    cases true true e = e
    cases true false e = e
    cases false true e = e
    cases false false e = e
left-noted (Put frame ∷ history) n =
    cases (frame.channel == suc n) refl (frame.channel == 0) refl (is_call kinds.ConnectionClose (reading frame))
    refl (left-noted history n)
  where
    cases : (a : Bool) → (frame.channel == suc n) ≡ a → (z : Bool) → (frame.channel == 0) ≡ z → (k : Bool)
        → is_call kinds.ConnectionClose (reading frame) ≡ k → has_left (notes (entries_on (suc n) history))
        ≡ has_put kinds.ConnectionClose (entries_on 0 history)
        → has_left
        (notes (cond a (PutHere (reading frame) frame ∷ []) (cond (z && k) (LeftHere ∷ []) [])
        ++ entries_on (suc n) history)) ≡ has_put kinds.ConnectionClose
        (cond z (PutHere (reading frame) frame ∷ []) (cond (z && k) (LeftHere ∷ []) []) ++ entries_on 0 history)
    cases true a true z k kk e = apart frame.channel n a z
    cases true a false z k kk e = e
    cases false a true z true kk e = simp kk
    cases false a true z false kk e = simp kk e
    cases false a false z k kk e = e

-- the phases in which the end has not put connection.close, and the one in which it has
pub not-left : (closed put over : Bool) (step : HandshakeStep)
    → is_over (cond closed Closed (cond put Phase.Closing (cond over Running (Handshake step))))
    ≡ false → put ≡ false
not-left true put over step e = absurd (true≢false e)
not-left false true over step e = absurd (true≢false e)
not-left false false over step e = refl

-- the lives' verdict on a channel's notes is the one on its record
pub verdict-here : (role : Role) (entries : List ChannelEntry) (kind : Kind) → has_left (notes entries) ≡ false
    → verdict role (notes entries) kind ≡ verdict_at role (state_of (channel_from role entries))
    (awaits_in (channel_from role entries)) kind
verdict-here role entries kind stays =
    simp stays (sym (by-word (state_by role (notes before)) (life_from role before) ∙ same))
  where
    before : List ChannelEntry
    before = entries_before_leaving entries

    by-word : (word : State) (life : Life)
        → verdict_at role (state_of (channel_in word life)) (awaits_in (channel_in word life)) kind
        ≡ verdict_at role word life.awaits kind
    by-word State.Free life = refl
    by-word State.Opening life = refl
    by-word State.Closing life = refl
    by-word State.Open life = refl

    same : verdict_at role (state_by role (notes before)) (awaits_flow_ok role (notes before)) kind
        ≡ verdict_at role (state role (notes entries)) (awaits_flow_ok role (notes entries)) kind
    same =
        ap (λ s. verdict_at role s (awaits_flow_ok role (notes before)) kind)
        (ap (state_by role) (notes-before entries))
        ∙ ap (λ l. verdict_at role (state role (notes entries)) (awaits_flow_ok role (notes l)) kind)
        (all-before entries stays)

-- An end that takes a frame of the channel.

-- the lives owe no reply but open-ok, close-ok and flow-ok
abbrev is_answer : lives.Verdict → Bool
is_answer (lives.GoesOn event (Some Open)) = false
is_answer (lives.GoesOn event (Some Close)) = false
is_answer (lives.GoesOn event (Some (Flow active))) = false
is_answer (lives.GoesOn event (Some (Other begins))) = false
is_answer v = true

answers : (role : Role) (word : State) (a : Bool) (kind : Kind) → is_answer (verdict_at role word a kind) ≡ true
answers role State.Closing a Close = refl
answers role State.Closing a CloseOk = refl
answers role State.Closing a kind = refl
answers Server State.Free a Open = refl
answers Server State.Free a OpenOk = refl
answers Client State.Free a Open = refl
answers Client State.Free a kind = refl
answers Server State.Free a kind = refl
answers Client State.Opening a OpenOk = refl
answers Client State.Opening a kind = refl
answers Server State.Opening a Close = refl
answers Server State.Opening a kind = refl
answers role State.Open true (FlowOk active) = refl
answers role State.Open false (FlowOk active) = refl
answers Client State.Open a kind = refl
answers Server State.Open a kind = refl

-- the lives say no more than that a frame came: the channel is Open, and the frame a message
abbrev pub is_acted : lives.Verdict → Bool
is_acted (lives.GoesOn lives.Acted owed) = true
is_acted v = false

abbrev pub is_other : Kind → Bool
is_other (Other begins) = true
is_other kind = false

pub acted-open : (role : Role) (word : State) (a : Bool) (kind : Kind) → is_acted (verdict_at role word a kind)
    ≡ true → (word ≡ State.Open) × (is_other kind ≡ true)
acted-open role State.Open a (Other begins) e = (refl, refl)
acted-open role State.Open true (FlowOk active) e = absurd (false≢true e)
acted-open role State.Open false (FlowOk active) e = absurd (false≢true e)
acted-open Client State.Open a kind e = absurd (false≢true e)
acted-open Server State.Open a kind e = absurd (false≢true e)
acted-open role State.Closing a Close e = absurd (false≢true e)
acted-open role State.Closing a kind e = absurd (false≢true e)
acted-open Client State.Free a Open e = absurd (false≢true e)
acted-open Client State.Free a kind e = absurd (false≢true e)
acted-open Server State.Free a Open e = absurd (false≢true e)
acted-open Server State.Free a kind e = absurd (false≢true e)
acted-open Client State.Opening a Open e = absurd (false≢true e)
acted-open Client State.Opening a kind e = absurd (false≢true e)
acted-open Server State.Opening a Open e = absurd (false≢true e)
acted-open Server State.Opening a kind e = absurd (false≢true e)

pub seen-took : (frame : Frame) (history : History) (n : ℕ) → frame.channel ≡ suc n
    → entries_on (suc n) (Took frame ∷ history) ≡ TookHere (reading frame) frame ∷ entries_on (suc n) history
seen-took frame history n e = let here : (frame.channel == suc n) ≡ true = eq-eqb frame.channel (suc n) e in simp here

pub seen-put : (frame : Frame) (history : History) (n : ℕ) → frame.channel ≡ suc n
    → entries_on (suc n) (Put frame ∷ history) ≡ PutHere (reading frame) frame ∷ entries_on (suc n) history
seen-put frame history n e = let here : (frame.channel == suc n) ≡ true = eq-eqb frame.channel (suc n) e in simp here

pub reads-back : (channel : ℕ) (method : Method) → ReadsBack method
    → reading (method_frame channel method) ≡ Calls method
reads-back channel method back = ap method_reading back

-- a message leaves the state of the channel, whoever put it
pub message-keeps : (role : Role) (kind : Kind) (frame : Frame) (ns : List Note) → has_left ns ≡ false
    → is_other kind ≡ true → state role (Note.Took kind frame ∷ ns) ≡ state role ns
message-keeps role (Other begins) frame ns stays e = simp stays (ap (state_by role) (sym (before_leaving_all ns stays)))
message-keeps role kind frame ns stays e = absurd (false≢true e)

pub may-close : (role : Role) (ns : List Note) → has_left ns ≡ false → state role ns ≡ State.Open
    → may_put role ns Close ≡ true
may-close role ns stays e = simp (stays, e)

-- the frame's channel, at an end that has not put connection.close
pub acts-here : (role : Role) (history : History) (frame : Frame) (n : ℕ) (theirs : List Note)
    → frame.channel ≡ suc n → has_left (notes (entries_on (suc n) history)) ≡ false
    → IsNext theirs (notes (entries_on (suc n) history)) (Carry (kind_of (reading frame)) frame)
    → (v : FrameVerdict) → AgreesWithLives role (suc n) (channel_from role (entries_on (suc n) history))
    (reading frame) v → (facts : Facts role) → facts.number ≡ suc n → AllReadBack (methods_put facts v)
    → ActsOn role theirs (notes (entries_on (suc n) history))
    (notes (entries_on (suc n) (then_put (map frame_of (methods_put facts v)) (Took frame ∷ history))))
acts-here role history frame n theirs here stays next v agreeing facts number back = by-verdict v agreeing back
  where
    es : List ChannelEntry
    es = entries_on (suc n) history

    kind : Kind
    kind = kind_of (reading frame)

    taken : entries_on (suc n) (Took frame ∷ history) ≡ TookHere (reading frame) frame ∷ es
    taken = seen-took frame history n here

    counted : verdict role (notes es) kind ≡ verdict_at role (state_of (channel_from role es))
        (awaits_in (channel_from role es)) kind
    counted = verdict-here role es kind stays

    plain : (event : lives.ChannelEvent) → verdict role (notes es) kind ≡ lives.GoesOn event None
        → ActsOn role theirs (notes es) (notes (entries_on (suc n) (Took frame ∷ history)))
    plain event e =
        subst (λ l. ActsOn role theirs (notes es) (notes l)) (sym taken) (acts (takes kind frame event next e) rests)

    answered : (event : lives.ChannelEvent) (reply : Kind) (method : Method) → ReadsBack method
        → verdict role (notes es) kind ≡ lives.GoesOn event (Some reply) → kind_of (Calls method) ≡ reply
        → ActsOn role theirs (notes es)
        (notes (entries_on (suc n) (Put (method_frame (suc n) method) ∷ Took frame ∷ history)))
    answered event reply method back e k =
        let answer = method_frame (suc n) method in
        let said : kind_of (reading answer) ≡ reply = ap kind_of (reads-back (suc n) method back) ∙ k in
        subst (λ l. ActsOn role theirs (notes es) (notes l)) (sym (seen-put answer (Took frame ∷ history) n refl
        ∙ ap (λ l. PutHere (reading answer) answer ∷ l) taken))
        (subst (λ k. ActsOn role theirs (notes es) (Note.Put k answer ∷ Note.Took kind frame ∷ notes es))
        (sym said) (acts (replies kind frame event reply answer next e) rests))

    by-owed : (event : lives.ChannelEvent) (owed : Option Kind)
        → verdict role (notes es) kind ≡ lives.GoesOn event owed → is_answer (lives.GoesOn event owed) ≡ true
        → AllReadBack (map (on_channel (suc n)) (reply_to owed))
        → ActsOn role theirs (notes es)
        (notes (entries_on (suc n) (then_put (map frame_of (map (on_channel (suc n)) (reply_to owed)))
        (Took frame ∷ history))))
    by-owed event None e a back = plain event e
    by-owed event (Some OpenOk) e a back = answered event OpenOk (without_arguments kinds.ChannelOpenOk) back.0 e refl
    by-owed event (Some CloseOk) e a back =
        answered event CloseOk (without_arguments kinds.ChannelCloseOk) back.0 e refl
    by-owed event (Some (FlowOk active)) e a back =
        answered event (FlowOk active) (flow_as kinds.ChannelFlowOk active) back.0 e refl
    by-owed event (Some other) e a back = absurd (false≢true a)

    refused : ReadsBack (channel_close (suc n) ContentTooLarge).method
        → verdict role (notes es) kind ≡ lives.GoesOn lives.Acted None
        → (word : (state_of (channel_from role es) ≡ State.Open) × (is_other kind ≡ true))
        → ActsOn role theirs (notes es)
        (notes (entries_on (suc n) (Put (frame_of (channel_close (suc n) ContentTooLarge)) ∷ Took frame ∷ history)))
    refused back e word =
        let close = frame_of (channel_close (suc n) ContentTooLarge) in
        let said : kind_of (reading close) ≡ Close =
        ap kind_of (reads-back (suc n) (channel_close (suc n) ContentTooLarge).method back) in
        let opened : state role (Note.Took kind frame ∷ notes es) ≡ State.Open =
        message-keeps role kind frame (notes es) stays word.1 ∙ (sym (state-reads role es) ∙ word.0) in
        subst (λ l. ActsOn role theirs (notes es) (notes l)) (sym (seen-put close (Took frame ∷ history) n refl
        ∙ ap (λ l. PutHere (reading close) close ∷ l) taken))
        (subst (λ k. ActsOn role theirs (notes es) (Note.Put k close ∷ Note.Took kind frame ∷ notes es)) (sym said)
        (acts (takes kind frame lives.Acted next e)
        (acts (asks Close close (may-close role (Note.Took kind frame ∷ notes es) stays opened)) rests)))

    by-verdict : (v : FrameVerdict) → AgreesWithLives role (suc n) (channel_from role es) (reading frame) v
        → AllReadBack (methods_put facts v)
        → ActsOn role theirs (notes es)
        (notes (entries_on (suc n) (then_put (map frame_of (methods_put facts v)) (Took frame ∷ history))))
    by-verdict v (agrees event owed told e is) back =
        subst (λ v.
        ActsOn role theirs (notes es)
        (notes (entries_on (suc n) (then_put (map frame_of (methods_put facts v)) (Took frame ∷ history))))) (sym is)
        (by-owed event owed (counted ∙ e) (ap is_answer (sym e)
        ∙ answers role (state_of (channel_from role es)) (awaits_in (channel_from role es)) kind)
        (subst (λ v. AllReadBack (methods_put facts v)) is back))
    by-verdict v (refuses e is) back =
        subst (λ v.
        ActsOn role theirs (notes es)
        (notes (entries_on (suc n) (then_put (map frame_of (methods_put facts v)) (Took frame ∷ history))))) (sym is)
        (subst (λ c.
        ActsOn role theirs (notes es)
        (notes (entries_on (suc n) (Put (frame_of (channel_close c ContentTooLarge)) ∷ Took frame ∷ history))))
        (sym number) (refused (subst (λ v. AllReadBack (methods_put facts v)) is back).0 (counted ∙ e)
        (acted-open role (state_of (channel_from role es)) (awaits_in (channel_from role es)) kind (ap is_acted e))))
