use Rattle.std.proofs.Common.{◌-◌, length, get_or, refl, sym, ap, ◌∙◌, arith}
use Rattle.std.proofs.lemmas.List.{length-take-le}
use Rattle.amqp_outbox.specs.OutboxSlots.{slots_length}
use Rattle.amqp_outbox.proofs.OutboxWaiting.{slots-before}
use Rattle.amqp_outbox.proofs.WovenSteps.{no_coming, last-left, octets-begun, octets-start, octets-next, octets-woven, octets-end, octets-within}
use Rattle.amqp_outbox.proofs.weaving.weave_octets.Goals as goal

pub loop-left-init : goal.loop-left-init
loop-left-init c = record {
  octets = octets-begun _ _ _ _ _ _ _ refl refl c.requires.follow c.requires.arranged c.requires.frames;
  count = refl;
  woven = λ before dropped after rows puts rows_are puts_are frames_are size dropped_size now_is.
      octets-start _ _ c.args.begun _ _ _ _ c.args.frames.now _ before dropped after rows puts refl refl c.requires.arranged refl rows_are puts_are frames_are size dropped_size now_is;
}

pub slice_bounds-length_from-end : goal.slice_bounds-length_from-end
slice_bounds-length_from-end c =
    let w = (octets-within _ _ _ _ _ _ _ c.loop-left.invariant.octets).2 in
    let e = length-take-le c.loop-left.row_end c.args.row.now w in
    sym e

pub length_from-moved-requires-clause-within : goal.length_from-moved-requires-clause-within
length_from-moved-requires-clause-within c =
    let l = c.loop-left in
    let last = last-left c.args.coming.now l.left (l.left - 1) l.row_end (length c.args.row.now) (get_or c.args.coming.now (l.left - 1) no_coming) no_coming (omega arith) refl l.invariant.octets.left_is in
    let a = last.within in
    let b = length-take-le l.row_end c.args.row.now last.end_within in
    omega arith

pub length_from-moved-requires-clause-total : goal.length_from-moved-requires-clause-total
length_from-moved-requires-clause-total c =
    let l = c.loop-left in
    let a = l.invariant.octets.end_is in
    let b = ap slots_length (slots-before l.row_end c.args.row.now) in
    omega arith

pub overflow_sub-place : goal.overflow_sub-place
overflow_sub-place c =
    let l = c.loop-left in
    let n = octets-next c.args.begun c.args.row.now c.args.coming.now l.row_end l.left (l.left - 1) l.end l.hole c.length-length.result c.length_from-moved.result _ _ (omega arith) refl c.length-length.ensures c.length_from-moved.ensures l.invariant.octets in
    let a = n.moved_within in
    omega arith

pub overflow_sub-hole : goal.overflow_sub-hole
overflow_sub-hole c =
    let l = c.loop-left in
    let n = octets-next c.args.begun c.args.row.now c.args.coming.now l.row_end l.left (l.left - 1) l.end l.hole c.length-length.result c.length_from-moved.result _ _ (omega arith) refl c.length-length.ensures c.length_from-moved.ensures l.invariant.octets in
    n.fits

pub overflow_sub-hole-in-loop-left : goal.overflow_sub-hole-in-loop-left
overflow_sub-hole-in-loop-left c =
    let l = c.loop-left in
    let n = octets-next c.args.begun c.args.row.now c.args.coming.now l.row_end l.left (l.left - 1) l.end l.hole c.length-length.result c.length_from-moved.result _ _ (omega arith) refl c.length-length.ensures c.length_from-moved.ensures l.invariant.octets in
    n.fits

pub slice_bounds-splice-end : goal.slice_bounds-splice-end
slice_bounds-splice-end c =
    let a = (octets-within _ _ _ _ _ _ _ c.loop-left.invariant.octets).0 in
    let b = c.requires.frames in
    omega arith

pub splice-requires-clause-room : goal.splice-requires-clause-room
splice-requires-clause-room c =
    let w = octets-within _ _ _ _ _ _ _ c.loop-left.invariant.octets in
    let a = w.0 in
    let b = w.1 in
    let d = c.requires.frames in
    let e = c.requires.arranged in
    let f = c.requires.there in
    let g = c.loop-left.invariant.count in
    omega arith

pub loop-left-preserved : goal.loop-left-preserved
loop-left-preserved c =
    let l = c.loop-left in
    let i = l.invariant in
    let n = octets-next c.args.begun c.args.row.now c.args.coming.now l.row_end l.left (l.left - 1) l.end l.hole c.length-length.result c.length_from-moved.result _ _ (omega arith) refl c.length-length.ensures c.length_from-moved.ensures i.octets in
    record {
      octets = n.after;
      count = c.splice.ensures.count ∙ i.count;
      woven = λ before dropped after rows puts rows_are puts_are frames_are size dropped_size now_is.
          octets-woven c.args.begun c.args.row.now c.args.coming.now l.row_end l.left (l.left - 1) l.end l.hole c.length-length.result c.length_from-moved.result _ _ c.args.frames.now l.octets.items c.splice.new.items.items _ before after rows puts
          (omega arith) refl c.length-length.ensures c.length_from-moved.ensures i.octets rows_are puts_are frames_are size refl c.splice.ensures.before c.splice.ensures.after (i.woven before dropped after rows puts rows_are puts_are frames_are size dropped_size now_is);
    }

pub returns-clause-octets : goal.returns-clause-octets
returns-clause-octets c before dropped after rows puts rows_are puts_are frames_are size dropped_size now_is =
    let l = c.loop-left in
    let i = l.invariant in
    octets-end c.args.row.now c.args.coming.now c.args.begun l.row_end l.left l.end l.hole l.octets.items before after rows puts (omega arith) rows_are i.octets (i.woven before dropped after rows puts rows_are puts_are frames_are size dropped_size now_is)
