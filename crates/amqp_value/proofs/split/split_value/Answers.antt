use Rattle.std.proofs.Common.{◌≡◌, ◌-◌, ◌∙◌, length, take, drop, Ok, ap, sym, subst, arith, length-drop}
use Rattle.std.proofs.lemmas.List.{take_all}
use Rattle.amqp_value.specs.Lent.{octets_of}
use Rattle.amqp_value.specs.Values.{items_of, array}
use Rattle.amqp_value.specs.Whole.{Tagged, items_encoded}
use Rattle.amqp_value.proofs.Whole.{fixed-of, string-of, bytes-of, array-of, nested-of}
use Rattle.amqp_value.specs.declared.tag.Tag.TheVariants.{Fixed}
use Rattle.amqp_value.proofs.split.split_value.Goals as goal

pub split_at-requires : goal.split_at-requires
split_at-requires c =
    let t : Tagged c.args.octets.now (Fixed c.in-Fixed.tag) c.split_tag-tag.result.1.now = subst (λ tag. Tagged c.args.octets.now tag c.split_tag-tag.result.1.now) c.in-Fixed.is c.split_tag-tag.ensures in
    let parts = fixed-of c.args.octets.now c.split_tag-tag.result.1.now c.in-Fixed.tag c.requires t in
    omega (arith, parts.0, c.width.ensures)

pub split_counted-requires : goal.split_counted-requires
split_counted-requires c = (string-of c.args.octets.now c.split_tag-tag.result.1.now c.requires (subst (λ tag. Tagged c.args.octets.now tag c.split_tag-tag.result.1.now) c.in-LongString.is c.split_tag-tag.ensures)).0

pub split_counted-requires-in-ByteArray : goal.split_counted-requires-in-ByteArray
split_counted-requires-in-ByteArray c = (bytes-of c.args.octets.now c.split_tag-tag.result.1.now c.requires (subst (λ tag. Tagged c.args.octets.now tag c.split_tag-tag.result.1.now) c.in-ByteArray.is c.split_tag-tag.ensures)).0

pub split_counted-requires-in-Array : goal.split_counted-requires-in-Array
split_counted-requires-in-Array c =
    (array-of c.args.octets.now c.split_tag-tag.result.1.now (λ i. omega (arith, c.type_inv.octets i)) c.requires (subst (λ tag. Tagged c.args.octets.now tag c.split_tag-tag.result.1.now) c.in-Array.is c.split_tag-tag.ensures)).0

pub of_checked-requires : goal.of_checked-requires
of_checked-requires c =
    let parts = array-of c.args.octets.now c.split_tag-tag.result.1.now (λ i. omega (arith, c.type_inv.octets i)) c.requires (subst (λ tag. Tagged c.args.octets.now tag c.split_tag-tag.result.1.now) c.in-Array.is c.split_tag-tag.ensures) in
    (parts.1 _ _ c.split_counted-in-Array.ensures).0

pub of_checked-table-requires : goal.of_checked-table-requires
of_checked-table-requires c =
    (nested-of c.args.octets.now c.split_tag-tag.result.1.now (λ i. omega (arith, c.type_inv.octets i)) c.requires (subst (λ tag. Tagged c.args.octets.now tag c.split_tag-tag.result.1.now) c.in-Table.is c.split_tag-tag.ensures)).0

pub returns-in-Fixed-clause-read : goal.returns-in-Fixed-clause-read
returns-in-Fixed-clause-read c =
    let t : Tagged c.args.octets.now (Fixed c.in-Fixed.tag) c.split_tag-tag.result.1.now = subst (λ tag. Tagged c.args.octets.now tag c.split_tag-tag.result.1.now) c.in-Fixed.is c.split_tag-tag.ensures in
    let parts = fixed-of c.args.octets.now c.split_tag-tag.result.1.now c.in-Fixed.tag c.requires t in
    rw (c.scalar_ref.ensures.value, c.split_at.ensures.front, c.split_at.ensures.back, c.width.ensures) parts.1

pub returns-in-LongString-clause-read : goal.returns-in-LongString-clause-read
returns-in-LongString-clause-read c =
    let parts = string-of c.args.octets.now c.split_tag-tag.result.1.now c.requires (subst (λ tag. Tagged c.args.octets.now tag c.split_tag-tag.result.1.now) c.in-LongString.is c.split_tag-tag.ensures) in
    parts.1 _ _ c.split_counted.ensures

pub returns-in-ByteArray-clause-read : goal.returns-in-ByteArray-clause-read
returns-in-ByteArray-clause-read c =
    let parts = bytes-of c.args.octets.now c.split_tag-tag.result.1.now c.requires (subst (λ tag. Tagged c.args.octets.now tag c.split_tag-tag.result.1.now) c.in-ByteArray.is c.split_tag-tag.ensures) in
    parts.1 _ _ c.split_counted-in-ByteArray.ensures

pub returns-in-Array-clause-read : goal.returns-in-Array-clause-read
returns-in-Array-clause-read c =
    let parts = array-of c.args.octets.now c.split_tag-tag.result.1.now (λ i. omega (arith, c.type_inv.octets i)) c.requires (subst (λ tag. Tagged c.args.octets.now tag c.split_tag-tag.result.1.now) c.in-Array.is c.split_tag-tag.ensures) in
    (parts.1 _ _ c.split_counted-in-Array.ensures).1 ∙ ap (λ body. Ok (array (items_of (items_encoded body)), c.split_counted-in-Array.result.1.now)) (sym c.of_checked.ensures)

pub returns-in-Table-clause-read : goal.returns-in-Table-clause-read
returns-in-Table-clause-read c =
    let rest = c.split_tag-tag.result.1.now in
    let own = octets_of c.of_checked-table.result in
    let parts = nested-of c.args.octets.now rest (λ i. omega (arith, c.type_inv.octets i)) c.requires (subst (λ tag. Tagged c.args.octets.now tag rest) c.in-Table.is c.split_tag-tag.ensures) in
    let found = parts.1 _ _ c.of_checked-table.ensures.exact in
    let left : take (length rest - length own) (drop (length own) rest) ≡ drop (length own) rest = take_all _ (drop (length own) rest) (omega (arith, length-drop (length own) rest)) in
    rw (c.octets.ensures.octets, left) found
