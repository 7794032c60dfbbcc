use Rattle.std.proofs.Common.{◌-◌, get_or, refl, ◌∙◌, arith}
use Rattle.amqp_outbox.proofs.WovenSteps.{no_coming, left-begun, last-left, place-left, slots-start, slots-woven, slots-end}
use Rattle.amqp_outbox.proofs.weaving.weave_slots.Goals as goal

pub loop-left-init : goal.loop-left-init
loop-left-init c = record {
  order = c.requires.order;
  left_is = left-begun c.args.coming.now _ (c.args.arranged - c.args.begun) refl c.requires.follow;
  count = refl;
  woven = λ before row dropped after size whole many now_is. slots-start c.args.coming.now c.args.begun c.args.arranged _ c.args.arranged _ before row dropped after refl refl size whole many now_is;
}

pub overflow_add-place : goal.overflow_add-place
overflow_add-place c =
    let l = c.loop-left in
    let i = l.invariant in
    let n = last-left c.args.coming.now l.left (l.left - 1) (l.end - c.args.begun) (c.args.arranged - c.args.begun) (get_or c.args.coming.now (l.left - 1) no_coming) no_coming (omega arith) refl i.left_is in
    let a = n.within in
    let b = i.order in
    omega arith

pub splice-requires-clause-order : goal.splice-requires-clause-order
splice-requires-clause-order c =
    let l = c.loop-left in
    let i = l.invariant in
    let n = last-left c.args.coming.now l.left (l.left - 1) (l.end - c.args.begun) (c.args.arranged - c.args.begun) (get_or c.args.coming.now (l.left - 1) no_coming) no_coming (omega arith) refl i.left_is in
    let a = n.within in
    let b = i.order in
    omega arith

pub splice-requires-clause-room : goal.splice-requires-clause-room
splice-requires-clause-room c =
    let l = c.loop-left in
    let i = l.invariant in
    let n = last-left c.args.coming.now l.left (l.left - 1) (l.end - c.args.begun) (c.args.arranged - c.args.begun) (get_or c.args.coming.now (l.left - 1) no_coming) no_coming (omega arith) refl i.left_is in
    let a = n.end_within in
    let b = i.order in
    let d = i.left_is.few in
    let e = i.count in
    let f = c.requires.there in
    let g = c.requires.order in
    omega arith

pub loop-left-preserved : goal.loop-left-preserved
loop-left-preserved c =
    let l = c.loop-left in
    let i = l.invariant in
    let n = last-left c.args.coming.now l.left (l.left - 1) (l.end - c.args.begun) (c.args.arranged - c.args.begun) (get_or c.args.coming.now (l.left - 1) no_coming) no_coming (omega arith) refl i.left_is in
    record {
      order = omega arith;
      left_is = place-left _ _ _ _ _ n.after;
      count = c.splice.ensures.count ∙ i.count;
      woven = λ before row dropped after size whole many now_is.
          slots-woven c.args.coming.now c.args.begun c.args.arranged l.left (l.left - 1) l.end _ _ l.slots.items c.splice.new.items.items _ before row after
          (omega arith) refl size whole i.order i.left_is refl c.splice.ensures.before c.splice.ensures.after (i.woven before row dropped after size whole many now_is);
    }

pub returns : goal.returns
returns c before row dropped after size whole many now_is =
    let l = c.loop-left in
    let i = l.invariant in
    slots-end c.args.coming.now c.args.begun c.args.arranged l.left l.end l.slots.items before row after (omega arith) size whole i.left_is (i.woven before row dropped after size whole many now_is)
