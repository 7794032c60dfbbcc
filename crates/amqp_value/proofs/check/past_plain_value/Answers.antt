use Rattle.std.proofs.Common.{Some, refl, ap, sym, ◌∙◌, arith}
use Rattle.std.proofs.lemmas.List.{take_rest}
use Rattle.amqp_value.specs.Checking.{skipped}
use Rattle.amqp_value.specs.declared.tag.Tag.TheVariants.{LongString}
use Rattle.amqp_value.proofs.Adding.{scalar-read, text-read}
use Rattle.amqp_value.proofs.Tags.{tag_of-octet}
use Rattle.amqp_value.proofs.check.past_plain_value.Goals as goal

pub returns-else-rest-width : goal.returns-else-rest-width
returns-else-rest-width c = λ levels end.
    let tag = sym c.tag_from.ensures ∙ c.in_ok-tag.was ∙ ap (λ tag. Some tag) c.in-Fixed.is in
    let rest = c.in_ok-octet.rest.now in
    rw (c.in_ok-octet.ensures.cases.0, take_rest rest c.width-width.result, c.width-width.ensures)
    (ap skipped (scalar-read levels end c.in_ok-octet.octet.now rest c.in-Fixed.tag tag (omega (arith, c.width-width.ensures, c.if-rest-width.false))))

pub returns-else-text-count : goal.returns-else-text-count
returns-else-text-count c = λ levels end.
    let tag = sym c.tag_from.ensures ∙ c.in_ok-tag.was ∙ ap (λ tag. Some tag) c.in-LongString.is in
    let octet = c.in_ok-octet.octet.now in
    rw c.in_ok-octet.ensures.cases.0
    (ap skipped (text-read levels end octet c.read_u32-count.result c.in_ok-octet.rest.now _ (tag_of-octet octet LongString tag) c.if-rest-lt4.false c.read_u32-count.ensures refl c.if-text-count.false))
