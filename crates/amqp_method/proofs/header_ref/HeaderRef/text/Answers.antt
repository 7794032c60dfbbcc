use Rattle.std.proofs.Common.{◌≤◌, Some, None, length, sym, ap, ◌∙◌, subst, arith, Option}
use Rattle.amqp_method.specs.Arguments.{Argument, short_string}
use Rattle.amqp_method.specs.HeaderRefs.{ReadsProperty}
use Rattle.amqp_method.specs.Reading.{no_bits, ends_run}
use Rattle.amqp_method.specs.declared.fields.FieldKind.TheVariants.{ShortStr}
use Rattle.amqp_method.proofs.HeaderRefs.{absent, present_as, not_faulty, property_reads, property_read}
use Rattle.amqp_method.proofs.KnownFields.{text_field}
use Rattle.amqp_method.proofs.header_ref.HeaderRef.text.Goals as goal

pub returns-then-not-is_flagged : goal.returns-then-not-is_flagged
returns-then-not-is_flagged c =
    let p = c.property_at in
    let same : length c.args.octets.now ≤ length c.args.octets.now = omega arith in
    subst (λ (property : Option Argument). ReadsProperty c.args.self c.args.place property c.args.octets.now) (sym c.requires.blank)
    (property_read c.args.self c.args.place None c.args.octets.now c.args.octets.now c.requires.place c.requires.left same
    (absent c.args.place p.result.now.flag c.args.self.flags (length c.args.self.payload.now) c.args.octets.now p.ensures.flag (sym c.is_flagged.ensures ∙ c.if-not-is_flagged.true)))

pub unreachable-requires : goal.unreachable-requires
unreachable-requires c =
    let p = c.property_at in let end = length c.args.self.payload.now in
    not_faulty c.args.place p.result.now.flag c.args.self.flags end ShortStr c.args.octets.now c.in_default.field-0 p.ensures.flag (sym c.requires.kind) (sym c.is_flagged.ensures ∙ c.if-not-is_flagged.false)
    (property_reads c.args.self c.args.place c.args.octets.now c.requires.place c.requires.left)
    (text_field no_bits end c.args.octets.now ∙ ap (ends_run short_string) c.in_default.ensures.read)

pub returns : goal.returns
returns c =
    let p = c.property_at in let end = length c.args.self.payload.now in
    subst (λ (property : Option Argument). ReadsProperty c.args.self c.args.place property c.in-Ok.after.now) (sym c.in_ok-put_text.ensures)
    (property_read c.args.self c.args.place (Some (short_string c.in-Ok.text.now)) c.args.octets.now c.in-Ok.after.now c.requires.place c.requires.left c.in-Ok.ensures.within
    (present_as c.args.place p.result.now.flag c.args.self.flags end ShortStr c.args.octets.now c.in-Ok.after.now (short_string c.in-Ok.text.now) no_bits p.ensures.flag (sym c.requires.kind) (sym c.is_flagged.ensures ∙ c.if-not-is_flagged.false)
    (text_field no_bits end c.args.octets.now ∙ ap (ends_run short_string) c.in-Ok.ensures.read)))
