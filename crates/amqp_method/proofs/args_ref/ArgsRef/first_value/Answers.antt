use Rattle.std.proofs.Common.{◌≤◌, length, map, ap, sym, ◌∙◌, arith}
use Rattle.amqp_method.specs.ArgRefView.{arg_ref_view}
use Rattle.amqp_method.specs.BitsView.{bits_view}
use Rattle.amqp_method.specs.Reading.{field_at}
use Rattle.amqp_method.specs.Rows.{field_view}
use Rattle.amqp_method.specs.declared.fields.FieldKind.{FieldKind}
use Rattle.amqp_method.proofs.RefLemmas.{first_value, no_fault, begins_table}
use Rattle.amqp_method.proofs.args_ref.ArgsRef.first_value.Goals as goal

pub read_arg-requires-clause-checked : goal.read_arg-requires-clause-checked
read_arg-requires-clause-checked c = λ is_table.
    let a = c.args.self in
    begins_table (map field_view a.fields.now) (field_view c.args.field.now) (map field_view c.args.fields.now) (bits_view a.bits) a.end a.octets.now
    (ap (map field_view) c.requires.first) a.reads (sym c.requires.kind ∙ is_table)

pub unreachable-requires : goal.unreachable-requires
unreachable-requires c =
    let a = c.args.self in
    no_fault (map field_view a.fields.now) (field_view c.args.field.now) (map field_view c.args.fields.now) (bits_view a.bits) a.end a.octets.now c.in-Err.field-0
    (ap (map field_view) c.requires.first) a.reads
    (ap (λ (k : FieldKind). field_at k (bits_view a.bits) a.end a.octets.now) (sym c.requires.kind) ∙ c.in-Err.ensures.read)

pub invariant_of-result : goal.invariant_of-result
invariant_of-result c =
    let a = c.args.self in
    let within : length c.in-Ok.octets.now ≤ a.end = omega (arith, a.within, c.in-Ok.ensures.within) in
    record {
      within = within;
      reads = (first_value (map field_view a.fields.now) (field_view c.args.field.now) (map field_view c.args.fields.now) (bits_view a.bits) (bits_view c.read_arg.new.bits) a.end a.octets.now c.in-Ok.octets.now (arg_ref_view c.in-Ok.arg)
          (ap (map field_view) c.requires.first) a.reads
          (ap (λ (k : FieldKind). field_at k (bits_view a.bits) a.end a.octets.now) (sym c.requires.kind) ∙ c.in-Ok.ensures.read)).reads;
    }

pub returns-clause-value : goal.returns-clause-value
returns-clause-value c =
    let a = c.args.self in
    (first_value (map field_view a.fields.now) (field_view c.args.field.now) (map field_view c.args.fields.now) (bits_view a.bits) (bits_view c.read_arg.new.bits) a.end a.octets.now c.in-Ok.octets.now (arg_ref_view c.in-Ok.arg)
    (ap (map field_view) c.requires.first) a.reads
    (ap (λ (k : FieldKind). field_at k (bits_view a.bits) a.end a.octets.now) (sym c.requires.kind) ∙ c.in-Ok.ensures.read)).values
