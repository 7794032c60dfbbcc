use Rattle.std.proofs.Common.{◌≡◌, ◌+◌, ◌∷◌, [], length, take, refl, sym, ap, ◌∙◌, subst, rules, arith, List, length-append}
use Rattle.std.proofs.lemmas.List.{take_rest, length-drop}
use Rattle.amqp_outbox.specs.OutboxLaps.{laps_in, laps_of}
use Rattle.amqp_outbox.specs.OutboxWeaving.{slots_of}
use Rattle.amqp_outbox.specs.declared.weaving.Coming.{Coming}
use Rattle.amqp_outbox.proofs.WovenRows.{coming_at, Searching, searching-begun, rest-laps_lent, found-next, found-lap, found-places, slots-found}
use Rattle.amqp_outbox.proofs.weaving.find_places.Goals as goal

pub loop-waiting-init : goal.loop-waiting-init
loop-waiting-init c = record {
  count = search rules;
  slots_are = search rules;
  within = omega arith;
  left = omega arith;
  found = λ frames row staged_are row_are arranged channels staged_channels.
      let none : c.new-coming.result.items ≡ [] = search rules in
      subst (λ (cs : List Coming). Searching c.args.lap c.args.last c.args.channel cs 0 c.args.lap c.args.last [] row (laps_in c.args.row.now)) (sym none)
      (searching-begun c.args.lap c.args.last c.args.channel row (laps_in c.args.row.now) arranged channels (c.requires.laps_are ∙ ap (laps_of c.args.lap c.args.last) row_are));
}

pub place_of-found-requires-clause-laps_are : goal.place_of-found-requires-clause-laps_are
place_of-found-requires-clause-laps_are c =
    let l = c.loop-waiting in
    let r = c.requires.row in
    let t = c.requires.staged in
    rest-laps_lent c.args.lap c.args.last c.args.channel l.coming.items l.from l.now l.then _ r.0 c.args.row.now r.1 (l.invariant.found t.0 r.0 t.1 r.1 r.2 r.3 t.2)

pub place_of-found-requires-clause-fits : goal.place_of-found-requires-clause-fits
place_of-found-requires-clause-fits c =
    let l = c.loop-waiting in
    let a = ap length (take_rest c.args.row.now l.from) ∙ length-drop l.from c.args.row.now in
    let b = l.invariant.left in
    omega arith

pub loop-waiting-preserved : goal.loop-waiting-preserved
loop-waiting-preserved c =
    let l = c.loop-waiting in
    let i = l.invariant in
    let r = c.requires.row in
    let t = c.requires.staged in
    let p = c.place_of-found.ensures in
    let a = ap length (take_rest c.args.row.now l.from) ∙ length-drop l.from c.args.row.now in
    let b = p.within in
    let test = c.loop-waiting-test.true in
    let coming : Coming = coming_at _ c.place_of-found.result.lap (l.from + c.place_of-found.result.before) in
    let m = found-lap c.args.lap c.args.last c.args.channel c.args.row.now c.args.staged.now l.coming.items l.waiting-index l.from l.now l.then c.place_of-found.result.before c.place_of-found.result.lap t.0 r.0 _ _ c.requires.above t.1 r.1 test refl c.if-slot-channel.false b p.lap (i.found t.0 r.0 t.1 r.1 r.2 r.3 t.2) in
    let more = c.in_ok-push.ensures.items in
    record {
      count = let n = ap length more ∙ length-append l.coming.items (coming ∷ []) in omega arith;
      slots_are = ap slots_of more ∙ slots-found l.coming.items c.args.staged.now l.waiting-index coming _ test refl i.slots_are;
      within = omega arith;
      left = omega arith;
      found = λ frames row staged_are row_are arranged channels staged_channels.
          subst (λ (cs : List Coming). Searching c.args.lap c.args.last c.args.channel cs (l.from + c.place_of-found.result.before) c.place_of-found.result.lap c.args.channel (take (l.waiting-index + 1) frames) row (laps_in c.args.row.now)) (sym more)
          (found-next c.put_keeps_arranged.ensures.arranged c.put_keeps_arranged.ensures.place c.args.lap c.args.last c.args.channel c.args.row.now c.args.staged.now l.coming.items l.waiting-index l.from l.now l.then c.place_of-found.result.before c.place_of-found.result.lap _ frames row _ _
          (omega arith) c.requires.above staged_are row_are staged_channels test refl c.if-slot-channel.false i.within b refl p.place p.lap (i.found frames row staged_are row_are arranged channels staged_channels));
    }

pub returns : goal.returns
returns c =
    let l = c.loop-waiting in
    let i = l.invariant in
    found-places c.args.lap c.args.last c.args.channel c.args.row.now c.args.staged.now l.coming.items l.waiting-index l.from l.now l.then c.requires.row c.requires.staged i.count (omega arith) i.slots_are i.within i.found

pub returns-then-slot-channel : goal.returns-then-slot-channel
returns-then-slot-channel c =
    let l = c.loop-waiting in
    let i = l.invariant in
    found-places c.args.lap c.args.last c.args.channel c.args.row.now c.args.staged.now l.coming.items l.waiting-index l.from l.now l.then c.requires.row c.requires.staged i.count (omega arith) i.slots_are i.within i.found

pub returns-then-place-row : goal.returns-then-place-row
returns-then-place-row c =
    let l = c.loop-waiting in
    let i = l.invariant in
    found-places c.args.lap c.args.last c.args.channel c.args.row.now c.args.staged.now l.coming.items l.waiting-index l.from l.now l.then c.requires.row c.requires.staged i.count (omega arith) i.slots_are i.within i.found
