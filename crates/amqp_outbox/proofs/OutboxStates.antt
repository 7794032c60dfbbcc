-- The fields of an outbox beside the lists that they stand for.
use Rattle.std.proofs.Common.{◌≡◌, ℕ, ◌+◌, ◌^◌, ◌<◌, ◌≤◌, List, [], ◌++◌, length, map, take, drop, All, sym, ap, ap₂, ◌∙◌, arith, append_assoc, length-append, length-drop}
use Rattle.std.proofs.lemmas.List.{drop_at, length-map, length-take-le}
use Rattle.amqp_frame.specs.Frame.{Frame}
use Rattle.amqp_frame.specs.Splitting.{stream}
use Rattle.amqp_model.specs.Output.Arrangement.{IsArranged, HasChannel}
use Rattle.amqp_outbox.specs.OutboxSlots.{slot_of, frames_in}
use Rattle.amqp_outbox.specs.OutboxLaps.{laps_of}
use Rattle.amqp_outbox.specs.OutboxView.{Outgoing}
use Rattle.amqp_outbox.specs.OutboxFields.{row_octets, row_slots, row_laps, row_of, staged_octets, staged_slots, staged_of, outgoing_of, all_octets, all_slots, all_laps, AsideFits, OutboxIsSound}
use Rattle.amqp_outbox.specs.declared.slots.Slot.{Slot}
use Rattle.amqp_outbox.specs.declared.outbox.Outbox.TheInside.{Inside}
use Rattle.amqp_outbox.proofs.OutboxAside.{aside-empty}
use Rattle.amqp_outbox.proofs.OutboxLaps.{length-laps}
use Rattle.amqp_outbox.proofs.OutboxLists.{second, three, four, length-second}
use Rattle.amqp_outbox.proofs.OutboxRows.{row-read}
use Rattle.amqp_outbox.proofs.OutboxWaiting.{count-slots, count-laps}

-- the octets and the slots, part by part
pub record IsLaidOut (x : Inside) (gone ahead : List ℕ) (past : List Slot) (row staged : List Frame) : Type 0 where
  pub octets : all_octets x ≡ gone ++ (ahead ++ (stream row ++ stream staged))
  pub slots : all_slots x ≡ past ++ (map slot_of row ++ map slot_of staged)
  pub written : x.written ≡ length gone
  pub begun : x.begun ≡ x.written + length ahead
  pub arranged : x.arranged ≡ x.begun + length (stream row)
  pub slots_begun : x.slots_begun ≡ length past
  pub slots_arranged : x.slots_arranged ≡ x.slots_begun + length row

-- what is kept of a row beside its octets
pub record IsKept (last : ℕ) (row staged : List Frame) : Type 0 where
  pub in_turn : IsArranged last row
  pub row_channels : All HasChannel row
  pub staged_channels : All HasChannel staged

abbrev pub outgoing : (ahead : List ℕ) (begun_on last : ℕ) (row staged : List Frame) → Outgoing
outgoing ahead begun_on last row staged = record { output = record { ahead = ahead; begun_on = begun_on; last = last; row = row }; staged = staged }

-- each part of such fields
pub record Parts (x : Inside) (ahead : List ℕ) (row staged : List Frame) : Type 0 where
  pub ahead_is : drop x.written (take x.begun (all_octets x)) ≡ ahead
  pub row_octets_are : row_octets x ≡ stream row
  pub row_slots_are : row_slots x ≡ map slot_of row
  pub staged_octets_are : staged_octets x ≡ stream staged
  pub staged_slots_are : staged_slots x ≡ map slot_of staged
  pub row_is : row_of x ≡ row
  pub staged_is : staged_of x ≡ staged

pub parts : (x : Inside) (gone ahead : List ℕ) (past : List Slot) (row staged : List Frame) → IsLaidOut x gone ahead past row staged → Parts x ahead row staged
parts x gone ahead past row staged l =
    let a : drop x.written (take x.begun (all_octets x)) ≡ ahead = ap (λ os. drop x.written (take x.begun os)) l.octets ∙ second gone ahead (stream row ++ stream staged) x.written x.begun l.written l.begun in
    let regrouped : all_octets x ≡ (gone ++ ahead) ++ (stream row ++ stream staged) = l.octets ∙ sym (append_assoc gone ahead (stream row ++ stream staged)) in
    let size = length-append gone ahead in
    let b : row_octets x ≡ stream row = ap (λ os. drop x.begun (take x.arranged os)) regrouped ∙ second (gone ++ ahead) (stream row) (stream staged) x.begun x.arranged (omega arith) l.arranged in
    let regrouped2 : all_octets x ≡ ((gone ++ ahead) ++ stream row) ++ stream staged = regrouped ∙ sym (append_assoc (gone ++ ahead) (stream row) (stream staged)) in
    let size2 = length-append (gone ++ ahead) (stream row) in
    let c : staged_octets x ≡ stream staged = ap (drop x.arranged) regrouped2 ∙ drop_at ((gone ++ ahead) ++ stream row) (stream staged) x.arranged (omega arith) in
    let count = length-map row slot_of in
    let d : row_slots x ≡ map slot_of row = ap (λ ss. drop x.slots_begun (take x.slots_arranged ss)) l.slots ∙ second past (map slot_of row) (map slot_of staged) x.slots_begun x.slots_arranged l.slots_begun (omega arith) in
    let count2 = length-append past (map slot_of row) in
    let e : staged_slots x ≡ map slot_of staged = ap (drop x.slots_arranged) (l.slots ∙ sym (append_assoc past (map slot_of row) (map slot_of staged))) ∙ drop_at (past ++ map slot_of row) (map slot_of staged) x.slots_arranged (omega arith) in
    record {
      ahead_is = a;
      row_octets_are = b;
      row_slots_are = d;
      staged_octets_are = c;
      staged_slots_are = e;
      row_is = ap₂ frames_in d b ∙ row-read row;
      staged_is = ap₂ frames_in e c ∙ row-read staged;
    }

-- the laps of a row, part by part: those of its frames stand after others, and more may stand after them
pub record IsInLaps (x : Inside) (past own rest : List ℕ) (row staged : List Frame) : Type 0 where
  pub laps : all_laps x ≡ past ++ (own ++ rest)
  pub past_are : length past ≡ x.slots_begun
  pub laps_are : own ≡ laps_of x.lap x.last (map slot_of row)
  pub rest_are : length staged ≤ length rest
  pub left : x.lap + (length row + length staged) + 1 < 2 ^ 64

-- the slots of the row are some of all
pub slots_within : (x : Inside) → OutboxIsSound x → x.slots_arranged ≤ length (all_slots x)
slots_within x s = let a = count-slots x.slots.items in let b = s.slots_arranged in omega arith

-- fields that are laid out so are sound
pub sound : (x : Inside) (gone ahead : List ℕ) (past : List Slot) (row staged : List Frame) (laps_past laps laps_rest : List ℕ) → IsLaidOut x gone ahead past row staged → IsKept x.last row staged → IsInLaps x laps_past laps laps_rest row staged → AsideFits x → OutboxIsSound x
sound x gone ahead past row staged laps_past laps laps_rest l k i aside =
    let p = parts x gone ahead past row staged l in
    let a = ap length l.octets ∙ length-append gone (ahead ++ (stream row ++ stream staged)) in
    let b = length-append ahead (stream row ++ stream staged) in
    let c = length-append (stream row) (stream staged) in
    let d = ap length l.slots ∙ length-append past (map slot_of row ++ map slot_of staged) in
    let e = length-append (map slot_of row) (map slot_of staged) in
    let f = length-map row slot_of in
    let staged_count = length-map staged slot_of in
    let count = ap length i.laps_are ∙ length-laps x.lap x.last (map slot_of row) in
    let in_part : row_laps x ≡ laps = ap (λ xs. drop x.slots_begun (take x.slots_arranged xs)) i.laps ∙ second laps_past laps laps_rest x.slots_begun x.slots_arranged (sym i.past_are) (let z = l.slots_arranged in omega arith) in
    let g = ap length i.laps ∙ length-append laps_past (laps ++ laps_rest) in
    let h = length-append laps laps_rest in
    let past_are = i.past_are in
    let rest_are = i.rest_are in
    let left = i.left in
    let all = count-slots x.slots.items in
    record {
      written = omega arith;
      begun = omega arith;
      arranged = omega arith;
      aside = aside;
      slots_begun = omega arith;
      slots_arranged = omega arith;
      row_encoded = ap stream p.row_is ∙ sym p.row_octets_are;
      row_described = ap (map slot_of) p.row_is ∙ sym p.row_slots_are;
      staged_encoded = ap stream p.staged_is ∙ sym p.staged_octets_are;
      staged_described = ap (map slot_of) p.staged_is ∙ sym p.staged_slots_are;
      in_turn = rw p.row_is k.in_turn;
      row_channels = rw p.row_is k.row_channels;
      staged_channels = rw p.staged_is k.staged_channels;
      laps_are = in_part ∙ (i.laps_are ∙ ap (laps_of x.lap x.last) (sym p.row_slots_are));
      laps_left = let z = l.slots_arranged in let y = l.slots_begun in omega arith;
    }

-- where nothing stands aside, there is room for it
pub fits-alone : (x : Inside) (gone ahead : List ℕ) (past : List Slot) (row staged : List Frame) → IsLaidOut x gone ahead past row staged → x.aside.items ≡ [] → AsideFits x
fits-alone x gone ahead past row staged l none =
    let a = ap length l.octets ∙ length-append gone (ahead ++ (stream row ++ stream staged)) in
    let b = length-append ahead (stream row ++ stream staged) in
    let c = length-append (stream row) (stream staged) in
    let d = length-append x.octets.items x.aside.items in
    let e = ap length none in
    let f = l.written in
    let g = l.begun in
    let h = l.arranged in
    aside-empty x none (omega arith)

-- and these lists are what they stand for
pub view : (x : Inside) (gone ahead : List ℕ) (past : List Slot) (row staged : List Frame) → IsLaidOut x gone ahead past row staged → outgoing_of x ≡ outgoing ahead x.begun_on x.last row staged
view x gone ahead past row staged l =
    let p = parts x gone ahead past row staged l in
    cc (p.ahead_is, p.row_is, p.staged_is)

-- sound fields are laid out
pub laid_out : (x : Inside) → OutboxIsSound x
    → IsLaidOut x (take x.written (all_octets x)) (drop x.written (take x.begun (all_octets x))) (take x.slots_begun (all_slots x)) (row_of x) (staged_of x)
laid_out x s =
    let a = length-take-le x.written (all_octets x) (omega arith) in
    let b = length-second (all_octets x) x.written x.begun s.written (omega arith) in
    let c = length-second (all_octets x) x.begun x.arranged s.begun s.arranged in
    let in_all = slots_within x s in
    let ordered = s.slots_begun in
    let d = length-take-le x.slots_begun (all_slots x) (omega arith) in
    let e = length-second (all_slots x) x.slots_begun x.slots_arranged s.slots_begun (slots_within x s) in
    let f = length-map (row_of x) slot_of in
    let g = ap length s.row_encoded in
    let h = ap length s.row_described in
    record {
      octets = four (all_octets x) x.written x.begun x.arranged s.written s.begun s.arranged ∙ ap₂ (λ y z. take x.written (all_octets x) ++ (drop x.written (take x.begun (all_octets x)) ++ (y ++ z))) (sym s.row_encoded) (sym s.staged_encoded);
      slots = three (all_slots x) x.slots_begun x.slots_arranged s.slots_begun (slots_within x s) ∙ ap₂ (λ y z. take x.slots_begun (all_slots x) ++ (y ++ z)) (sym s.row_described) (sym s.staged_described);
      written = sym a;
      begun = omega arith;
      arranged = omega arith;
      slots_begun = sym d;
      slots_arranged = omega arith;
    }

pub kept : (x : Inside) → OutboxIsSound x → IsKept x.last (row_of x) (staged_of x)
kept x s = record { in_turn = s.in_turn; row_channels = s.row_channels; staged_channels = s.staged_channels }

-- the laps of sound fields
pub in_laps : (x : Inside) → OutboxIsSound x → IsInLaps x (take x.slots_begun (all_laps x)) (row_laps x) (drop x.slots_arranged (all_laps x)) (row_of x) (staged_of x)
in_laps x s =
    let a = s.slots_begun in
    let b = slots_within x s in
    let c = count-laps x.slots.items in
    let c2 = count-slots x.slots.items in
    let d = length-map (row_of x) slot_of in
    let e = ap length s.row_described in
    let f = length-second (all_slots x) x.slots_begun x.slots_arranged s.slots_begun (slots_within x s) in
    let g = length-map (staged_of x) slot_of in
    let h = ap length s.staged_described in
    let i = length-drop x.slots_arranged (all_slots x) in
    let j = length-drop x.slots_arranged (all_laps x) in
    let left = s.laps_left in
    record {
      laps = three (all_laps x) x.slots_begun x.slots_arranged s.slots_begun (omega arith);
      past_are = length-take-le x.slots_begun (all_laps x) (omega arith);
      laps_are = s.laps_are ∙ ap (laps_of x.lap x.last) (sym s.row_described);
      rest_are = omega arith;
      left = omega arith;
    }
