-- A frame taken acts on each channel above 0 as the lives of a channel allow.
use Rattle.std.proofs.Common.{◌≡◌, Bool, true, false, cond, ◌&&◌, ℕ, suc, ◌==◌, arith, List, []}
use Rattle.std.proofs.Common.{◌∷◌, map, Option, Some, None, refl, sym, ap, ◌∙◌, subst}
use Rattle.std.proofs.lemmas.Bool.{false≢true, true≢false, eqb-true, ne_eqb}
use Rattle.amqp_method.specs.declared.kinds.Kind.TheVariants as kinds
use Rattle.amqp_model.specs.Wire.Notes.{Role}
use Rattle.amqp_model.specs.History.Lives.{has_left}
use Rattle.amqp_model.specs.History.Verdict as lives
use Rattle.amqp_model.specs.History.Verdict.{verdict}
use Rattle.amqp_model.specs.Pair.Runs.{takes}
use Rattle.amqp_model.specs.Wire.Readings.{Reading, reading, is_call, kind_of}
use Rattle.amqp_model.specs.History.Histories.{Took, History, ChannelEntry, entries_on, notes}
use Rattle.amqp_model.specs.End.Channels.{Channel, HandshakeStep, Phase, Handshake, Running, Closed, Failed, Agreed}
use Rattle.amqp_model.specs.End.Channels.{End}
use Rattle.amqp_model.specs.History.Negotiation.{Config}
use Rattle.amqp_model.specs.End.StateFromHistory.{has_put, is_closed, is_negotiated, step_from, end_from}
use Rattle.amqp_model.specs.End.Closes.{AllReadBack, frame_of}
use Rattle.amqp_model.specs.End.Events.{Event, Discarded, FrameVerdict, Proceeds}
use Rattle.amqp_model.specs.End.FrameVerdict.{verdict_on, methods_put}
use Rattle.amqp_model.specs.End.EndVerdict.{facts_at, goes_on}
use Rattle.amqp_model.specs.End.LawfulHistories.{then_put}
use Rattle.amqp_model.specs.Laws.EndLaws.{is_over, ActsOn, rests, acts, TakesActs}
use Rattle.amqp_model.proofs.Agreeing.{facts_in, frame-agrees}
use Rattle.amqp_model.proofs.Acting.{left-noted, not-left, seen-took, acts-here}
use Rattle.amqp_model.proofs.Elsewhere.{entries-away, verdict-away}

not-zero : (n : ℕ) → (suc n == 0) ≡ false
not-zero n = ne_eqb (suc n) 0 (λ e. let h : suc n ≡ 0 = e in omega arith)

-- an end that has put connection.close drops what comes on a channel
drops : (at_zero closes answers : Bool) (one other : FrameVerdict) (told : Event) → at_zero ≡ false
    → cond (at_zero && closes) one (cond (at_zero && answers) other (Proceeds (Some told) []))
    ≡ Proceeds (Some told) []
drops true closes answers one other told e = absurd (true≢false e)
drops false closes answers one other told e = refl

-- the phase in which it has
pub has-left : (closed put over : Bool) (step : HandshakeStep)
    → cond closed Closed (cond put Phase.Closing (cond over Running (Handshake step))) ≡ Phase.Closing
    → put ≡ true
has-left true put over step e = absurd cc
has-left false true over step e = refl
has-left false false true step e = absurd cc
has-left false false false step e = absurd cc

pub puts-none : {role : Role} (config : Config role) (agreed : Option Agreed) (n : ℕ) (channel : Channel)
    (r : Reading)
    → methods_put (facts_in config Phase.Closing agreed (suc n) channel)
    (verdict_on (facts_in config Phase.Closing agreed (suc n) channel) r) ≡ []
puts-none config agreed n channel r =
    ap (methods_put (facts_in config Phase.Closing agreed (suc n) channel))
    (drops (suc n == 0) (is_call kinds.ConnectionClose r) (is_call kinds.ConnectionCloseOk r) _ _
    (Discarded (suc n)) (not-zero n))

pub takes-acts : TakesActs
takes-acts role config history frame n theirs writes g next = cases (frame.channel == suc n) refl
  where
    back : AllReadBack (methods_put (facts_at config (end_from role config false history) frame.channel)
        (verdict_on (facts_at config (end_from role config false history) frame.channel) (reading frame)))
    back = writes.owed (end_from role config false history) frame.channel (reading frame)

    end : End
    end = end_from role config false history

    es : List ChannelEntry
    es = entries_on (suc n) history

    -- the history after the frame, were it on this channel
    after : ℕ → History
    after c =
        then_put (map frame_of
        (methods_put (facts_at config end c) (verdict_on (facts_at config end c) (reading frame))))
        (Took frame ∷ history)

    elsewhere : (frame.channel == suc n) ≡ false
        → ActsOn role theirs (notes es) (notes (entries_on (suc n) (after frame.channel)))
    elsewhere apart =
        let same : entries_on (suc n) (Took frame ∷ history) ≡ es = simp apart in
        subst (λ l. ActsOn role theirs (notes es) (notes l))
        (sym (entries-away n _ (Took frame ∷ history) back (verdict-away (facts_at config end frame.channel) n apart
        (reading frame) g) ∙ same)) rests

    -- the end has not put connection.close
    here : frame.channel ≡ suc n → is_over end.phase ≡ false
        → ActsOn role theirs (notes es) (notes (entries_on (suc n) (after (suc n))))
    here e stays =
        let put : has_put kinds.ConnectionClose (entries_on 0 history) ≡ false =
        not-left (is_closed (entries_on 0 history)) (has_put kinds.ConnectionClose (entries_on 0 history))
        (is_negotiated role (entries_on 0 history)) (step_from role (entries_on 0 history)) stays in
        let goes : goes_on (verdict_on (facts_at config end (suc n)) (reading frame)) ≡ true =
        subst (λ c. goes_on (verdict_on (facts_at config end c) (reading frame)) ≡ true) e g in
        acts-here role history frame n theirs e (left-noted history n ∙ put) (next e)
        (verdict_on (facts_at config end (suc n)) (reading frame))
        (frame-agrees config end.phase end.agreed (suc n) (end.channels (suc n)) stays (not-zero n)
        (reading frame) goes) (facts_at config end (suc n)) refl
        (subst (λ c.
        AllReadBack (methods_put (facts_at config end c) (verdict_on (facts_at config end c) (reading frame)))) e back)

    -- the end has put it, and drops the frame
    dropped : frame.channel ≡ suc n → has_put kinds.ConnectionClose (entries_on 0 history) ≡ true
        → ActsOn role theirs (notes es) (notes (entries_on (suc n) (Took frame ∷ history)))
    dropped e put =
        let left : has_left (notes es) ≡ true = left-noted history n ∙ put in
        let drops-it : verdict role (notes es) (kind_of (reading frame))
        ≡ lives.GoesOn lives.Discarded None = simp left in
        subst (λ l. ActsOn role theirs (notes es) (notes l)) (sym (seen-took frame history n e))
        (acts (takes (kind_of (reading frame)) frame lives.Discarded (next e) drops-it) rests)

    on-phase : frame.channel ≡ suc n → (phase : Phase) → end.phase ≡ phase
        → ActsOn role theirs (notes es) (notes (entries_on (suc n) (after (suc n))))
    on-phase e (Handshake step) p = here e (ap is_over p)
    on-phase e Running p = here e (ap is_over p)
    on-phase e Phase.Closing p =
        let put = has-left (is_closed (entries_on 0 history)) (has_put kinds.ConnectionClose (entries_on 0 history))
        (is_negotiated role (entries_on 0 history)) (step_from role (entries_on 0 history)) p in
        let none : methods_put (facts_at config end (suc n)) (verdict_on (facts_at config end (suc n)) (reading frame))
        ≡ [] = subst (λ p. methods_put (facts_in config p end.agreed (suc n) (end.channels (suc n)))
        (verdict_on (facts_in config p end.agreed (suc n) (end.channels (suc n))) (reading frame)) ≡ []) (sym p)
        (puts-none config end.agreed n (end.channels (suc n)) (reading frame)) in
        subst (λ l.
        ActsOn role theirs (notes es) (notes (entries_on (suc n) (then_put (map frame_of l) (Took frame ∷ history)))))
        (sym none) (dropped e put)
    on-phase e Closed p =
        absurd (false≢true
        (subst (λ p. goes_on (verdict_on (facts_in config p end.agreed frame.channel (end.channels frame.channel))
        (reading frame)) ≡ true) p g))
    on-phase e Failed p =
        absurd (false≢true
        (subst (λ p. goes_on (verdict_on (facts_in config p end.agreed frame.channel (end.channels frame.channel))
        (reading frame)) ≡ true) p g))

    cases : (b : Bool) → (frame.channel == suc n) ≡ b
        → ActsOn role theirs (notes es) (notes (entries_on (suc n) (after frame.channel)))
    cases false apart = elsewhere apart
    cases true same =
        let e = eqb-true frame.channel (suc n) same in
        subst (λ c. ActsOn role theirs (notes es) (notes (entries_on (suc n) (after c)))) (sym e)
        (on-phase e end.phase refl)
