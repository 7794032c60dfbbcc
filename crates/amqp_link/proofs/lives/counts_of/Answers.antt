-- One more telling.
use Rattle.std.proofs.Common.{◌≡◌, ◌+◌, ◌-◌, ◌<◌, ◌≤◌, ◌==◌, ℕ, cond, Vec, Global, length, map, get_or, set, sym, ap, ◌∙◌, subst, arith}
use Rattle.std.specs.Vec.{with_items}
use Rattle.std.proofs.lemmas.List.{with_items_is}
use Rattle.amqp_link.proofs.TallyCounts.{counts-none, counts-next, counts-stay, counts-bound}
use Rattle.amqp_link.proofs.lives.counts_of.Goals as goal
use Rattle.amqp_link.proofs.lives.counts_of.Goals.{then-channel-ne0+then-channel-len, else-channel-ne0, else-channel-ne0-via-then-channel-ne0+else-channel-len, else-channel-ne0-via-else-channel-ne0}

pub loop-telling-init : goal.loop-telling-init
loop-telling-init c = c.in_ok-counts.ensures ∙ counts-none c.args.begun.now

pub count-requires : goal.count-requires
count-requires c = λ k h.
    let one = c.index_mut.result.now in
    let place = c.telling-item.result.channel - 1 in
    let there : place < length c.loop-telling.counts.items = omega (arith, c.loop-telling.counts.ok.0) in
    let most : get_or one.items k 0 ≤ c.loop-telling.telling-index =
    counts-bound c.args.begun.now c.loop-telling.telling-index c.args.tellings.now c.loop-telling.counts.items place one k c.loop-telling.invariant there
    c.index_mut.ensures.value (subst (λ l. k < length l) c.deref_mut.ensures.value h) in
    let same : get_or c.deref_mut.result.now k 0 ≡ get_or one.items k 0 = ap (λ l. get_or l k 0) c.deref_mut.ensures.value in
    omega arith

pub loop-telling-preserved : goal.loop-telling-preserved
loop-telling-preserved c =
    let i = c.loop-telling.telling-index in
    let one = c.telling-item.result in
    let vectors = c.loop-telling.counts.items in
    elim c.if-channel-ne0.branch [
      | then-channel-ne0+then-channel-len w ↦
          let was = w.index_mut.result.now in
          let now = with_items was w.count.new.counts in
          let place = one.channel - 1 in
          let inner : now.items ≡ w.count.new.counts = with_items_is was w.count.new.counts (w.count.auto.counts ∙ w.deref_mut.ensures.len) in
          let outer : c.if-channel-ne0.counts.items ≡ set vectors place now = ap (λ (counts : Vec (Vec ℕ Global) Global). counts.items) w.counts-is in
          counts-next c.args.begun.now i c.args.tellings.now one vectors c.if-channel-ne0.counts.items place was now c.loop-telling-test.true c.telling-item.is
          (omega (arith, w.if-channel-ne0.true)) (omega (arith, w.if-channel-ne0.true, c.loop-telling.counts.ok.0)) c.loop-telling.invariant
          w.index_mut.ensures.value outer
          (ap length inner ∙ (w.count.auto.counts ∙ ap length w.deref_mut.ensures.value))
          (λ k h.
          ap (λ l. get_or l k 0) inner
          ∙ (w.count.ensures k (subst (λ l. k < length l) (sym w.deref_mut.ensures.value) h)
          ∙ ap (λ l. get_or l k 0 + cond (k + 1 == one.life) 1 0) w.deref_mut.ensures.value))
      | else-channel-ne0 w ↦
          ap (λ (counts : Vec (Vec ℕ Global) Global). map (λ (lives : Vec ℕ Global). lives.items) counts.items) w.counts-is
          ∙ counts-stay c.args.begun.now i c.args.tellings.now one vectors c.loop-telling-test.true c.telling-item.is
          (elim w.else-channel-ne0.branch [
            | else-channel-ne0-via-then-channel-ne0+else-channel-len v ↦ λ k h e. omega (arith, v.if-channel-len.false, v.len.ensures, c.loop-telling.counts.ok.0)
            | else-channel-ne0-via-else-channel-ne0 v ↦ λ k h e. omega (arith, v.if-channel-ne0.false)
          ])
          c.loop-telling.invariant
    ]
