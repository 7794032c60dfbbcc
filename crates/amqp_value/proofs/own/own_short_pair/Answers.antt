use Rattle.std.proofs.Common.{◌≡◌, ◌∙◌, ap, subst, [], ◌∷◌, ◌++◌, length, take, map, arith}
use Rattle.std.proofs.lemmas.List.{map_push, take_rest}
use Rattle.amqp_value.specs.Reading.{scalar_of, value_at}
use Rattle.amqp_value.specs.Values.{scalar, long_string}
use Rattle.amqp_value.specs.View.{named_view}
use Rattle.amqp_value.specs.Whole.{Tagged}
use Rattle.amqp_value.specs.declared.tag.Tag.TheVariants.{Fixed, LongString}
use Rattle.amqp_value.specs.declared.values.Value.TheVariants as values
use Rattle.amqp_value.proofs.Adding.{name-after, counted-after, view-LongString}
use Rattle.amqp_value.proofs.Elements.{named-ok}
use Rattle.amqp_value.proofs.Owning.{pair-name, pair-value}
use Rattle.amqp_value.proofs.Whole.{fixed-of, string-of}
use Rattle.amqp_value.proofs.own.own_short_pair.Goals as goal

pub split_name-requires : goal.split_name-requires
split_name-requires c = pair-name c.args.octets.now c.requires

pub split_tag-tag-requires : goal.split_tag-tag-requires
split_tag-tag-requires c = pair-value c.args.octets.now c.split_name.result.0.now c.split_name.result.1.now c.requires c.split_name.ensures.read

pub split_at-requires : goal.split_at-requires
split_at-requires c =
    let field = c.split_name.result.1.now in
    let rest = c.split_tag-tag.result.1.now in
    let begins = pair-value c.args.octets.now c.split_name.result.0.now field c.requires c.split_name.ensures.read in
    let t : Tagged field (Fixed c.in-Fixed.tag) rest = subst (λ tag. Tagged field tag rest) c.in-Fixed.is c.split_tag-tag.ensures in
    omega (arith, (fixed-of field rest c.in-Fixed.tag begins t).0, c.width.ensures)

pub split_counted-requires : goal.split_counted-requires
split_counted-requires c =
    let field = c.split_name.result.1.now in
    let rest = c.split_tag-tag.result.1.now in
    let begins = pair-value c.args.octets.now c.split_name.result.0.now field c.requires c.split_name.ensures.read in
    let t : Tagged field LongString rest = subst (λ tag. Tagged field tag rest) c.in-LongString.is c.split_tag-tag.ensures in
    (string-of field rest begins t).0

pub returns-in-Fixed-clause-added : goal.returns-in-Fixed-clause-added
returns-in-Fixed-clause-added c =
    let octets = c.args.octets.now in
    let name = c.split_name.result.0.now in
    let field = c.split_name.result.1.now in
    let rest = c.split_tag-tag.result.1.now in
    let tag = c.in-Fixed.tag in
    let begins = pair-value octets name field c.requires c.split_name.ensures.read in
    let t : Tagged field (Fixed tag) rest = subst (λ tag. Tagged field tag rest) c.in-Fixed.is c.split_tag-tag.ensures in
    let same_name : c.in_ok-name.name ≡ name = c.in_ok-name.ensures ∙ ap (take (length name)) (take_rest octets 1) ∙ name-after octets name field c.split_name.ensures.read in
    let read = named-ok (value_at 31) 0 octets name field _ _ c.split_name.ensures.read (fixed-of field rest tag begins t).1 in
    record {
      element = (c.in_ok-name.name, scalar (scalar_of tag c.split_at.result.0.now));
      is_read = rw (same_name, c.split_at.ensures.front, c.split_at.ensures.back, c.width.ensures) read;
      is_added = c.push_scalar.ensures;
    }

pub returns-in_ok-text-in-LongString-clause-added : goal.returns-in_ok-text-in-LongString-clause-added
returns-in_ok-text-in-LongString-clause-added c =
    let octets = c.args.octets.now in
    let name = c.split_name.result.0.now in
    let field = c.split_name.result.1.now in
    let rest = c.split_tag-tag.result.1.now in
    let text = c.split_counted.result.0.now in
    let after = c.split_counted.result.1.now in
    let before = c.args.pairs.now.items in
    let own_text = c.in_ok-text-in-LongString.text in
    let begins = pair-value octets name field c.requires c.split_name.ensures.read in
    let t : Tagged field LongString rest = subst (λ tag. Tagged field tag rest) c.in-LongString.is c.split_tag-tag.ensures in
    let same_name : c.in_ok-name.name ≡ name = c.in_ok-name.ensures ∙ ap (take (length name)) (take_rest octets 1) ∙ name-after octets name field c.split_name.ensures.read in
    let same_text : own_text ≡ text = c.in_ok-text-in-LongString.ensures ∙ ap (take (length text)) (take_rest rest 4) ∙ counted-after rest text after c.split_counted.ensures in
    let read = named-ok (value_at 31) 0 octets name field after (long_string text) c.split_name.ensures.read ((string-of field rest begins t).1 text after c.split_counted.ensures) in
    record {
      element = (c.in_ok-name.name, long_string own_text);
      is_read = rw (same_name, same_text) read;
      is_added =
          ap (map named_view) c.push_reserved.ensures.items
          ∙ map_push named_view before (c.in_ok-name.name, values.LongString own_text)
          ∙ ap (λ v. map named_view before ++ (c.in_ok-name.name, v) ∷ []) (view-LongString own_text);
    }
