use Rattle.std.proofs.Common.{◌≤◌, Some, None, length, sym, ap, ◌∙◌, subst, arith, Option, refl}
use Rattle.amqp_value.specs.Lent.{table_ref_view}
use Rattle.amqp_method.specs.Arguments.{Argument, table}
use Rattle.amqp_method.specs.HeaderRefs.{ReadsProperty}
use Rattle.amqp_method.specs.Reading.{no_bits, ends_run}
use Rattle.amqp_method.specs.declared.fields.FieldKind.TheVariants.{Table}
use Rattle.amqp_method.proofs.HeaderRefs.{absent, present_as, begins_table, property_reads, property_read}
use Rattle.amqp_method.proofs.KnownFields.{table_field}
use Rattle.amqp_method.proofs.header_ref.HeaderRef.table.Goals as goal

pub returns-then-not-is_flagged : goal.returns-then-not-is_flagged
returns-then-not-is_flagged c =
    let p = c.property_at in
    let same : length c.args.octets.now ≤ length c.args.octets.now = omega arith in
    subst (λ (property : Option Argument). ReadsProperty c.args.self c.args.place property c.args.octets.now) (sym c.requires.blank)
    (property_read c.args.self c.args.place None c.args.octets.now c.args.octets.now c.requires.place c.requires.left same
    (absent c.args.place p.result.now.flag c.args.self.flags (length c.args.self.payload.now) c.args.octets.now p.ensures.flag (sym c.is_flagged.ensures ∙ c.if-not-is_flagged.true)))

pub read_table-requires : goal.read_table-requires
read_table-requires c =
    let p = c.property_at in let end = length c.args.self.payload.now in
    begins_table c.args.place p.result.now.flag c.args.self.flags end Table c.args.octets.now p.ensures.flag (sym c.requires.kind) (sym c.is_flagged.ensures ∙ c.if-not-is_flagged.false)
    (property_reads c.args.self c.args.place c.args.octets.now c.requires.place c.requires.left) refl

pub returns : goal.returns
returns c =
    let p = c.property_at in let end = length c.args.self.payload.now in
    subst (λ (property : Option Argument). ReadsProperty c.args.self c.args.place property c.read_table.result.1.now) (sym c.in_ok-put_table.ensures)
    (property_read c.args.self c.args.place (Some (table (table_ref_view c.read_table.result.0))) c.args.octets.now c.read_table.result.1.now c.requires.place c.requires.left c.read_table.ensures.within
    (present_as c.args.place p.result.now.flag c.args.self.flags end Table c.args.octets.now c.read_table.result.1.now (table (table_ref_view c.read_table.result.0)) no_bits p.ensures.flag (sym c.requires.kind) (sym c.is_flagged.ensures ∙ c.if-not-is_flagged.false)
    (table_field no_bits end c.args.octets.now ∙ ap (ends_run table) (c.read_table.ensures.read end))))
