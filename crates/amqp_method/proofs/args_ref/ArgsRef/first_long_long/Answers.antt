use Rattle.std.proofs.Common.{◌≤◌, length, false, ap, ◌∙◌, arith}
use Rattle.amqp_method.specs.Arguments.{long_long}
use Rattle.amqp_method.specs.BitsView.{bits_view}
use Rattle.amqp_method.specs.Reading.{no_bits, ends_run}
use Rattle.amqp_method.specs.declared.fields.FieldKind.TheVariants.{LongLong}
use Rattle.amqp_method.proofs.KnownFields.{long_long_field, known_value, known_fits}
use Rattle.amqp_method.proofs.args_ref.ArgsRef.first_long_long.Goals as goal

pub unreachable-requires-in_default-read_long_long : goal.unreachable-requires-in_default-read_long_long
unreachable-requires-in_default-read_long_long c =
    let a = c.args.self in
    known_fits LongLong false a.fields.now c.in-Some.field-0-0.now c.in-Some.fields.now (bits_view a.bits) a.end a.octets.now c.in_default-read_long_long.field-0
    c.in-Some.ensures.cases.0 c.requires a.reads
    (long_long_field (bits_view a.bits) a.end a.octets.now ∙ ap (ends_run long_long) c.in_default-read_long_long.ensures.read)

pub invariant_of-result : goal.invariant_of-result
invariant_of-result c =
    let a = c.args.self in
    let within : length c.in-Ok.octets.now ≤ a.end = omega (arith, a.within, c.in-Ok.ensures.within) in
    record {
      within = within;
      reads = (known_value LongLong false a.fields.now c.in-Some.field-0-0.now c.in-Some.fields.now (bits_view a.bits) no_bits a.end a.octets.now c.in-Ok.octets.now (long_long c.in-Ok.number)
          c.in-Some.ensures.cases.0 c.requires a.reads
          (long_long_field (bits_view a.bits) a.end a.octets.now ∙ ap (ends_run long_long) c.in-Ok.ensures.read)).reads;
    }

pub returns-clause-value : goal.returns-clause-value
returns-clause-value c =
    let a = c.args.self in
    (known_value LongLong false a.fields.now c.in-Some.field-0-0.now c.in-Some.fields.now (bits_view a.bits) no_bits a.end a.octets.now c.in-Ok.octets.now (long_long c.in-Ok.number)
    c.in-Some.ensures.cases.0 c.requires a.reads
    (long_long_field (bits_view a.bits) a.end a.octets.now ∙ ap (ends_run long_long) c.in-Ok.ensures.read)).values
