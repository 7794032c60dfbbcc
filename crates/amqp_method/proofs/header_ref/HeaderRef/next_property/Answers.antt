use Rattle.std.proofs.Common.{◌≤◌, Some, None, length, sym, ◌∙◌, arith}
use Rattle.amqp_method.specs.ArgRefView.{arg_ref_view}
use Rattle.amqp_method.specs.BitsView.{bits_view}
use Rattle.amqp_method.proofs.HeaderRefs.{absent, present_as, not_faulty, begins_table, property_reads, property_read}
use Rattle.amqp_method.proofs.header_ref.HeaderRef.next_property.Goals as goal

pub returns-then-not-is_flagged : goal.returns-then-not-is_flagged
returns-then-not-is_flagged c =
    let p = c.property_at-property in
    let same : length c.args.octets.now ≤ length c.args.octets.now = omega arith in
    property_read c.args.self c.args.place None c.args.octets.now c.args.octets.now c.requires.place c.requires.left same
    (absent c.args.place p.result.now.flag c.args.self.flags (length c.args.self.payload.now) c.args.octets.now p.ensures.flag (sym c.is_flagged.ensures ∙ c.if-not-is_flagged.true))

pub read_arg-requires-clause-checked : goal.read_arg-requires-clause-checked
read_arg-requires-clause-checked c =
    let p = c.property_at-property in
    begins_table c.args.place p.result.now.flag c.args.self.flags (length c.args.self.payload.now) p.result.now.kind c.args.octets.now p.ensures.flag p.ensures.kind
    (sym c.is_flagged.ensures ∙ c.if-not-is_flagged.false) (property_reads c.args.self c.args.place c.args.octets.now c.requires.place c.requires.left)

pub unreachable-requires : goal.unreachable-requires
unreachable-requires c =
    let p = c.property_at-property in
    not_faulty c.args.place p.result.now.flag c.args.self.flags (length c.args.self.payload.now) p.result.now.kind c.args.octets.now c.in-Err.field-0 p.ensures.flag p.ensures.kind
    (sym c.is_flagged.ensures ∙ c.if-not-is_flagged.false) (property_reads c.args.self c.args.place c.args.octets.now c.requires.place c.requires.left) c.in-Err.ensures.read

pub returns : goal.returns
returns c =
    let p = c.property_at-property in
    property_read c.args.self c.args.place (Some (arg_ref_view c.in-Ok.value)) c.args.octets.now c.in-Ok.after.now c.requires.place c.requires.left c.in-Ok.ensures.within
    (present_as c.args.place p.result.now.flag c.args.self.flags (length c.args.self.payload.now) p.result.now.kind c.args.octets.now c.in-Ok.after.now (arg_ref_view c.in-Ok.value) (bits_view c.read_arg.new.bits)
    p.ensures.flag p.ensures.kind (sym c.is_flagged.ensures ∙ c.if-not-is_flagged.false) c.in-Ok.ensures.read)
