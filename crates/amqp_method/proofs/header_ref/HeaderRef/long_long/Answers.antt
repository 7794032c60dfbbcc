use Rattle.std.proofs.Common.{◌≤◌, Some, None, length, sym, ap, ◌∙◌, subst, arith, Option}
use Rattle.amqp_method.specs.Arguments.{Argument, long_long}
use Rattle.amqp_method.specs.HeaderRefs.{ReadsProperty}
use Rattle.amqp_method.specs.Reading.{no_bits, ends_run}
use Rattle.amqp_method.specs.declared.fields.FieldKind.TheVariants.{LongLong}
use Rattle.amqp_method.proofs.HeaderRefs.{absent, present_as, not_faulty, property_reads, property_read}
use Rattle.amqp_method.proofs.KnownFields.{long_long_field}
use Rattle.amqp_method.proofs.header_ref.HeaderRef.long_long.Goals as goal

pub returns-then-not-is_flagged : goal.returns-then-not-is_flagged
returns-then-not-is_flagged c =
    let p = c.property_at in
    let same : length c.args.octets.now ≤ length c.args.octets.now = omega arith in
    subst (λ (property : Option Argument). ReadsProperty c.args.self c.args.place property c.args.octets.now) (sym c.requires.blank)
    (property_read c.args.self c.args.place None c.args.octets.now c.args.octets.now c.requires.place c.requires.left same
    (absent c.args.place p.result.now.flag c.args.self.flags (length c.args.self.payload.now) c.args.octets.now p.ensures.flag (sym c.is_flagged.ensures ∙ c.if-not-is_flagged.true)))

pub unreachable-requires : goal.unreachable-requires
unreachable-requires c =
    let p = c.property_at in let end = length c.args.self.payload.now in
    not_faulty c.args.place p.result.now.flag c.args.self.flags end LongLong c.args.octets.now c.in_default.field-0 p.ensures.flag (sym c.requires.kind) (sym c.is_flagged.ensures ∙ c.if-not-is_flagged.false)
    (property_reads c.args.self c.args.place c.args.octets.now c.requires.place c.requires.left)
    (long_long_field no_bits end c.args.octets.now ∙ ap (ends_run long_long) c.in_default.ensures.read)

pub returns : goal.returns
returns c =
    let p = c.property_at in let end = length c.args.self.payload.now in
    property_read c.args.self c.args.place (Some (long_long c.in-Ok.number)) c.args.octets.now c.in-Ok.after.now c.requires.place c.requires.left c.in-Ok.ensures.within
    (present_as c.args.place p.result.now.flag c.args.self.flags end LongLong c.args.octets.now c.in-Ok.after.now (long_long c.in-Ok.number) no_bits p.ensures.flag (sym c.requires.kind) (sym c.is_flagged.ensures ∙ c.if-not-is_flagged.false)
    (long_long_field no_bits end c.args.octets.now ∙ ap (ends_run long_long) c.in-Ok.ensures.read))
