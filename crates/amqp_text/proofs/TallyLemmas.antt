-- A body of the loop, octet by octet, and a tally, event by event.
use Rattle.std.proofs.Common.{◌≡◌, ◌↔◌, ℕ, ◌+◌, ◌%◌, ◌^◌, ◌<◌, List, [], ◌∷◌, ◌++◌, Bool, true, false, IsTrue, nat_eq, refl, sym, ◌∙◌, subst, arith}
use Rattle.std.proofs.lemmas.Bool.{eqb-true}
use Rattle.std.proofs.lemmas.List.FromFn.{map-range_with_len_more}
use Rattle.amqp_channel.specs.declared.events.Event.{Event}
use Rattle.amqp_channel.specs.declared.events.Event.TheVariants.{AnswerAsked, LoginAsked, OpenAsked, Negotiated, Opened, Told, Flow, FlowOk, ChannelClosed, ConnectionClosed, Discarded, Blocked, Unblocked, Quiet}
use Rattle.amqp_method.specs.MessageView.{message_view}
use Rattle.amqp_method.specs.declared.messages.Message.{Message}
use Rattle.amqp_text.specs.Tallies.{body_of, AreExactly, CountsOne, Heard, HearsAnother, Publishes, before, other, too_many}
use Rattle.amqp_text.specs.declared.tally.Tally.{Tally}

pub body-more : (n : ℕ) → body_of (n + 1) ≡ body_of n ++ n % 256 ∷ []
body-more n = map-range_with_len_more (λ place. place % 256) 0 n n (omega arith)

-- events tell exactly one number of contents
pub exactly-one : (body : List ℕ) (m n : ℕ) (events : List Event) → AreExactly body m events → AreExactly body n events → m ≡ n
exactly-one body m n [] a b = a ∙ sym b
exactly-one body m n (Told channel message ∷ events) a b =
    let fewer : a.1.0 ≡ b.1.0 = exactly-one body a.1.0 b.1.0 events a.1.2 b.1.2 in
    omega (arith, a.1.1, b.1.1)
exactly-one body m n (AnswerAsked ∷ events) a b = exactly-one body m n events a b
exactly-one body m n (LoginAsked ∷ events) a b = exactly-one body m n events a b
exactly-one body m n (OpenAsked ∷ events) a b = exactly-one body m n events a b
exactly-one body m n (Negotiated agreed ∷ events) a b = exactly-one body m n events a b
exactly-one body m n (Opened channel ∷ events) a b = exactly-one body m n events a b
exactly-one body m n (Flow channel active ∷ events) a b = exactly-one body m n events a b
exactly-one body m n (FlowOk channel active ∷ events) a b = exactly-one body m n events a b
exactly-one body m n (ChannelClosed channel reason ∷ events) a b = exactly-one body m n events a b
exactly-one body m n (ConnectionClosed reason ∷ events) a b = exactly-one body m n events a b
exactly-one body m n (Discarded channel ∷ events) a b = exactly-one body m n events a b
exactly-one body m n (Blocked reason ∷ events) a b = exactly-one body m n events a b
exactly-one body m n (Unblocked ∷ events) a b = exactly-one body m n events a b
exactly-one body m n (Quiet ∷ events) a b = exactly-one body m n events a b

-- a message more
pub heard-message : (old new : Tally) (channel : ℕ) (message : Message) (events : List Event) → Heard old events
    → (new.others ≡ false → CountsOne old new (message_view message)) → (new.others ≡ true → HearsAnother old (message_view message))
    → new.body.items ≡ old.body.items → Heard new (Told channel message ∷ events)
heard-message old new channel message events heard content another body = record {
  only = λ none.
      let one = content none in (
        subst (λ b. Publishes b (message_view message)) (sym body) one.publishes,
        (old.contents, one.one_more, subst (λ b. AreExactly b old.contents events) (sym body) (heard.only one.nothing_else)),
      );
  others = λ some count within exactly. refuted count within exactly (another some);
}
  where
    refuted : (count : ℕ) → count < 2 ^ 64 → AreExactly new.body.items count (Told channel message ∷ events) → HearsAnother old (message_view message) → ⊥
    refuted count within exactly (before some) =
        heard.others some exactly.1.0 (omega (arith, within, exactly.1.1)) (subst (λ b. AreExactly b exactly.1.0 events) body exactly.1.2)
    refuted count within exactly (other apart) = apart (subst (λ b. Publishes b (message_view message)) body exactly.0)
    refuted count within exactly (too_many none full) =
        let same : exactly.1.0 ≡ old.contents = exactly-one old.body.items exactly.1.0 old.contents events (subst (λ b. AreExactly b exactly.1.0 events) body exactly.1.2) (heard.only none) in
        omega (arith, within, exactly.1.1, full)

-- where the tally counts another number, so many of the contents did not come
pub counts-others : (tally : Tally) (count number : ℕ) (events : List Event) → number ≡ count → count < 2 ^ 64 → (tally.contents ≡ number → ⊥)
    → Heard tally events → IsTrue (nat_eq tally.contents number) ↔ AreExactly tally.body.items count events
counts-others tally count number events is within apart heard =
    ((λ same. absurd (apart (eqb-true tally.contents number same))), (λ exactly. absurd (refuted tally.others refl exactly)))
  where
    refuted : (others : Bool) → tally.others ≡ others → AreExactly tally.body.items count events → ⊥
    refuted true e exactly = heard.others e count within exactly
    refuted false e exactly = apart (exactly-one tally.body.items tally.contents count events (heard.only e) exactly ∙ sym is)
