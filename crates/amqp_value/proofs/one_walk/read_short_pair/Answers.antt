use Rattle.std.proofs.Common.{◌≡◌, ◌∙◌, Some, Ok, refl, ap, sym, [], ◌∷◌, ◌++◌, map, take}
use Rattle.std.proofs.lemmas.List.{map_push}
use Rattle.amqp_value.specs.Reading.{width_of, scalar_of, value_at}
use Rattle.amqp_value.specs.Values.{scalar, long_string}
use Rattle.amqp_value.specs.View.{named_view}
use Rattle.amqp_value.specs.declared.tag.Tag.TheVariants.{LongString}
use Rattle.amqp_value.specs.declared.values.Value.TheVariants as values
use Rattle.amqp_value.proofs.Adding.{scalar-read, text-read, view-LongString}
use Rattle.amqp_value.proofs.Tags.{tag_of-octet}
use Rattle.amqp_value.proofs.Walking.{pair-read}
use Rattle.amqp_value.proofs.one_walk.read_short_pair.Goals as goal

pub returns-in_ok-after-in-Fixed-clause-added : goal.returns-in_ok-after-in-Fixed-clause-added
returns-in_ok-after-in-Fixed-clause-added c = λ levels end.
    let tag = sym c.tag_from.ensures ∙ c.in_ok-tag.was ∙ ap (λ tag. Some tag) c.in-Fixed.is in
    let octet = c.in_ok-octet.octet.now in
    let rest = c.in_ok-octet.rest.now in
    let after = c.in_ok-after-in-Fixed.after.now in
    let value = scalar (scalar_of c.in-Fixed.tag (take (width_of c.in-Fixed.tag) rest)) in
    let read : value_at levels end (octet ∷ rest) ≡ Ok (value, after) =
    rw c.in_ok-after-in-Fixed.ensures.after (scalar-read levels end octet rest c.in-Fixed.tag tag c.in_ok-after-in-Fixed.ensures.within) in
    record {
      element = (c.in_ok-name.name, value);
      is_read =
          pair-read levels end c.in_ok-length.length.now c.from-length.result c.args.octets.now c.in_ok-length.after.now c.in_ok-name.name (octet ∷ rest) after value c.in_ok-length.ensures.cases.0
          c.from-length.ensures c.if-after-length.false c.in_ok-name.ensures c.in_ok-octet.ensures.cases.0 read;
      is_added = c.in_ok-after-in-Fixed.ensures.added;
    }

pub returns-in_ok-own-in-LongString-clause-added : goal.returns-in_ok-own-in-LongString-clause-added
returns-in_ok-own-in-LongString-clause-added c = λ levels end.
    let tag = sym c.tag_from.ensures ∙ c.in_ok-tag.was ∙ ap (λ tag. Some tag) c.in-LongString.is in
    let octet = c.in_ok-octet.octet.now in
    let rest = c.in_ok-octet.rest.now in
    let own = c.in_ok-own-in-LongString.own in
    let read =
    text-read levels end octet c.read_u32-count.result rest _ (tag_of-octet octet LongString tag) c.if-rest-lt4.false c.read_u32-count.ensures refl c.if-text-count.false in
    record {
      element = (c.in_ok-name.name, long_string own);
      is_read =
          pair-read levels end c.in_ok-length.length.now c.from-length.result c.args.octets.now c.in_ok-length.after.now c.in_ok-name.name (octet ∷ rest) _ (long_string own) c.in_ok-length.ensures.cases.0
          c.from-length.ensures c.if-after-length.false c.in_ok-name.ensures c.in_ok-octet.ensures.cases.0 (rw c.in_ok-own-in-LongString.ensures read);
      is_added =
          ap (map named_view) c.push_reserved.ensures.items
          ∙ map_push named_view c.args.pairs.now.items (c.in_ok-name.name, values.LongString own)
          ∙ ap (λ v. map named_view c.args.pairs.now.items ++ (c.in_ok-name.name, v) ∷ []) (view-LongString own);
    }
