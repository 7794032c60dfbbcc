use Rattle.std.proofs.Common.{◌≡◌, ◌+◌, ◌-◌, length, get_or, refl, ◌∙◌, subst, arith}
use Rattle.amqp_outbox.proofs.WovenDown.{Down, down-begun, down-next, settling-begun, octets-settled, octets-down}
use Rattle.amqp_outbox.proofs.WovenSteps.{no_coming}
use Rattle.amqp_outbox.proofs.weaving.weave_down.Goals as goal

pub loop-next-init : goal.loop-next-init
loop-next-init c = record {
  down = down-begun _ _ _ _ c.requires.follow c.requires.frames;
  count = refl;
  capacity = refl;
  settling = λ after rows puts rows_are puts_are frames_are now_is. settling-begun _ c.args.coming.now _ _ after rows puts frames_are now_is;
}

pub slice_bounds-length_of-count : goal.slice_bounds-length_of-count
slice_bounds-length_of-count c =
    let l = c.loop-next in
    (down-next _ _ _ l.next-index l.place l.from (length l.left.now) _ _ no_coming c.loop-next-test.true refl refl l.invariant.down).order

pub slice_bounds-length_of-start : goal.slice_bounds-length_of-start
slice_bounds-length_of-start c =
    let l = c.loop-next in
    (down-next _ _ _ l.next-index l.place l.from (length l.left.now) _ _ no_coming c.loop-next-test.true refl refl l.invariant.down).order

pub slice_bounds-length_of-end : goal.slice_bounds-length_of-end
slice_bounds-length_of-end c =
    let l = c.loop-next in
    (down-next _ _ _ l.next-index l.place l.from (length l.left.now) _ _ no_coming c.loop-next-test.true refl refl l.invariant.down).within

pub length_of-requires : goal.length_of-requires
length_of-requires c =
    let l = c.loop-next in
    let n = down-next _ _ _ l.next-index l.place l.from (length l.left.now) _ _ no_coming c.loop-next-test.true refl refl l.invariant.down in
    let a = n.end_within in
    let b = c.requires.there in
    omega arith

pub overflow_add-end : goal.overflow_add-end
overflow_add-end c =
    let l = c.loop-next in
    let n = down-next _ _ _ l.next-index l.place l.from (length l.left.now) _ _ no_coming c.loop-next-test.true c.length_of.ensures refl l.invariant.down in
    let a = n.end_within in
    let b = c.requires.there in
    omega arith

pub split_at-requires : goal.split_at-requires
split_at-requires c =
    let l = c.loop-next in
    (down-next _ _ _ l.next-index l.place l.from (length l.left.now) _ _ no_coming c.loop-next-test.true c.length_of.ensures c.length.ensures l.invariant.down).fits

pub settle-requires-clause-room : goal.settle-requires-clause-room
settle-requires-clause-room c =
    let l = c.loop-next in
    let n = down-next _ _ _ l.next-index l.place l.from (length l.left.now) _ _ no_coming c.loop-next-test.true c.length_of.ensures c.length.ensures l.invariant.down in
    let a = n.begun_at in
    let b = n.few in
    let d = c.requires.room in
    let e = c.requires.frames in
    omega arith

pub settle-requires-clause-part : goal.settle-requires-clause-part
settle-requires-clause-part c =
    let l = c.loop-next in
    let n = down-next _ _ _ l.next-index l.place l.from (length l.left.now) _ _ no_coming c.loop-next-test.true c.length_of.ensures c.length.ensures l.invariant.down in
    let a = n.fits in
    let b = c.split_at.ensures.front_len in
    omega arith

pub settle-requires-clause-there : goal.settle-requires-clause-there
settle-requires-clause-there c =
    let l = c.loop-next in
    let n = down-next _ _ _ l.next-index l.place l.from (length l.left.now) _ _ no_coming c.loop-next-test.true c.length_of.ensures c.length.ensures l.invariant.down in
    let a = n.end_within in
    let b = c.requires.there in
    let d = l.invariant.count in
    omega arith

pub loop-next-preserved : goal.loop-next-preserved
loop-next-preserved c =
    let l = c.loop-next in
    let i = l.invariant in
    let n = down-next _ _ _ l.next-index l.place l.from (length l.left.now) _ _ no_coming c.loop-next-test.true c.length_of.ensures c.length.ensures l.invariant.down in
    let a = n.begun_at in
    let b = n.few in
    let d = c.requires.room in
    let e = c.requires.frames in
    let size = c.split_at.ensures.back_len in
    let later : length l.left.now - c.length.result ≡ length c.split_at.result.1.now = omega arith in
    record {
      down = subst (λ m. Down c.args.begun c.args.row.now c.args.coming.now (l.next-index + 1) (get_or c.args.coming.now l.next-index no_coming).place (l.from + c.length_of.result) m) later n.after;
      count = c.settle.ensures.count ∙ i.count;
      capacity = c.settle.ensures.capacity ∙ i.capacity;
      settling = λ after rows puts rows_are puts_are frames_are now_is.
          octets-settled _ c.args.row.now c.args.coming.now l.next-index l.place l.from _ _ no_coming _ after l.left.now _ _ l.octets.items _ rows puts c.loop-next-test.true c.length_of.ensures c.length.ensures i.down
          rows_are puts_are (omega arith) c.split_at.ensures.front c.split_at.ensures.back c.settle.ensures.settled c.settle.ensures.rest (i.settling after rows puts rows_are puts_are frames_are now_is);
    }

pub returns-clause-octets : goal.returns-clause-octets
returns-clause-octets c after rows puts rows_are puts_are frames_are now_is =
    let l = c.loop-next in
    octets-down c.args.row.now c.args.coming.now _ after _ _ rows puts l.next-index l.place l.from (omega arith) puts_are (l.invariant.settling after rows puts rows_are puts_are frames_are now_is)
