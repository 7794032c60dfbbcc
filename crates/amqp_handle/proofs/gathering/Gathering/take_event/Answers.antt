use Rattle.std.proofs.Common.{◌≡◌, ◌++◌, [], refl, sym, ap, subst, ◌∙◌}
use Rattle.std.proofs.lemmas.List.{append-nil}
use Rattle.std.specs.Prelude.{slice_get}
use Rattle.amqp_core.specs.Stream.EventRefView.{event_ref_view}
use Rattle.amqp_handle.specs.Gathered.{told_at, AddsIf, Finishes, FinishesIf, IsThere, Nothing, Tells, Whole}
use Rattle.amqp_handle.specs.declared.gathering.Gathered.TheVariants as code
use Rattle.amqp_handle.proofs.Telling.{joined_none, whole_is}
use Rattle.amqp_handle.proofs.gathering.Gathering.take_event.Goals as goal

pub returns-then-whole-clause-tells : goal.returns-then-whole-clause-tells
returns-then-whole-clause-tells c =
    let last = c.in_ok-last-in-Part.ensures.last in
    let new = c.add_last.new.self in
    let channel = c.in-Part.channel in
    let part = c.in-Part.part.now in
    let told = told_at (code.Whole channel c.in_ok-last-in-Part.last) (slice_get new.places.items c.args.place) in
    let hand = last.between.at_hand in
    let told_is : told ≡ Whole channel hand.method.items hand.header.items (hand.body.items ++ part) =
    ap (λ there. told_at (code.Whole channel c.in_ok-last-in-Part.last) there) last.found
    ∙ whole_is channel _ _ _ _ _ _ (ap (λ octets. octets.items) last.method) (ap (λ octets. octets.items) last.header_is) last.body in
    let finishes : Finishes last.between channel part told new = record { told_is = told_is; away = last.away } in
    let adds : AddsIf c.in-Part.whole c.args.self.now channel part told new =
    subst (λ whole. AddsIf whole c.args.self.now channel part told new) (sym c.if-whole.true) (last.between, last.here, finishes) in
    subst (λ event. Tells (event_ref_view event) c.args.self.now told new) (sym c.in-Part.is) adds

pub returns-then-whole-clause-there : goal.returns-then-whole-clause-there
returns-then-whole-clause-there c =
    subst (λ there. IsThere (code.Whole c.in-Part.channel c.in_ok-last-in-Part.last) there) (sym c.in_ok-last-in-Part.ensures.last.found) tt

pub returns-then-whole-2-clause-there : goal.returns-then-whole-2-clause-there
returns-then-whole-2-clause-there c =
    let whole = code.Whole c.in-Heads.channel (record c.payload-payload.result { now = [] }) in
    subst (λ there. IsThere whole there) (sym c.in_ok-put_away-in-Heads.ensures.away.there) tt

pub returns-then-whole-2-clause-tells : goal.returns-then-whole-2-clause-tells
returns-then-whole-2-clause-tells c =
    let put = c.in_ok-put_away-in-Heads.ensures.away in
    let between = c.head.new.self in
    let new = c.put_away.new.self in
    let channel = c.in-Heads.channel in
    let hand = between.at_hand in
    let whole = code.Whole channel (record c.payload-payload.result { now = [] }) in
    let told = told_at whole (slice_get new.places.items c.args.place) in
    let told_is : told ≡ Whole channel hand.method.items hand.header.items (hand.body.items ++ []) =
    ap (λ there. told_at whole there) put.there
    ∙ whole_is channel _ _ _ _ _ _ refl refl (joined_none hand.body.items ∙ sym (append-nil hand.body.items)) in
    let finishes : Finishes between channel [] told new = record { told_is = told_is; away = put.away } in
    let finishes_if : FinishesIf c.in-Heads.whole between channel told new =
    subst (λ whole. FinishesIf whole between channel told new) (sym c.if-whole-2.true) finishes in
    subst (λ event. Tells (event_ref_view event) c.args.self.now told new) (sym c.in-Heads.is)
    (c.payload-payload.result.now, c.payload-payload.ensures.encodes, between, c.in_ok-head-in-Heads.ensures.comes, finishes_if)

pub returns-else-whole-2-clause-tells : goal.returns-else-whole-2-clause-tells
returns-else-whole-2-clause-tells c =
    let between = c.head.new.self in
    let finishes_if : FinishesIf c.in-Heads.whole between c.in-Heads.channel Nothing between =
    subst (λ whole. FinishesIf whole between c.in-Heads.channel Nothing between) (sym c.if-whole-2.false) (refl, refl) in
    subst (λ event. Tells (event_ref_view event) c.args.self.now Nothing between) (sym c.in-Heads.is)
    (c.payload-payload.result.now, c.payload-payload.ensures.encodes, between, c.in_ok-head-in-Heads.ensures.comes, finishes_if)
