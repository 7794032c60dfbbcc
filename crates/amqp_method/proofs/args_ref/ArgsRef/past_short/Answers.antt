use Rattle.std.proofs.Common.{◌≤◌, length, true, ap, ◌∙◌, arith}
use Rattle.amqp_method.specs.Arguments.{short}
use Rattle.amqp_method.specs.BitsView.{bits_view}
use Rattle.amqp_method.specs.Reading.{no_bits, ends_run}
use Rattle.amqp_method.specs.declared.fields.FieldKind.TheVariants.{Short}
use Rattle.amqp_method.proofs.KnownFields.{short_field, known_value, known_fits}
use Rattle.amqp_method.proofs.args_ref.ArgsRef.past_short.Goals as goal

pub unreachable-requires-in_default-read_short : goal.unreachable-requires-in_default-read_short
unreachable-requires-in_default-read_short c =
    let a = c.args.self in
    known_fits Short true a.fields.now c.in-Some.field-0-0.now c.in-Some.fields.now (bits_view a.bits) a.end a.octets.now c.in_default-read_short.field-0
    c.in-Some.ensures.cases.0 c.requires a.reads
    (short_field (bits_view a.bits) a.end a.octets.now ∙ ap (ends_run short) c.in_default-read_short.ensures.read)

pub invariant_of-result : goal.invariant_of-result
invariant_of-result c =
    let a = c.args.self in
    let within : length c.in-Ok.octets.now ≤ a.end = omega (arith, a.within, c.in-Ok.ensures.within) in
    record {
      within = within;
      reads = (known_value Short true a.fields.now c.in-Some.field-0-0.now c.in-Some.fields.now (bits_view a.bits) no_bits a.end a.octets.now c.in-Ok.octets.now (short c.in-Ok.field-0-0)
          c.in-Some.ensures.cases.0 c.requires a.reads
          (short_field (bits_view a.bits) a.end a.octets.now ∙ ap (ends_run short) c.in-Ok.ensures.read)).reads;
    }

pub returns-clause-value : goal.returns-clause-value
returns-clause-value c =
    let a = c.args.self in
    (known_value Short true a.fields.now c.in-Some.field-0-0.now c.in-Some.fields.now (bits_view a.bits) no_bits a.end a.octets.now c.in-Ok.octets.now (short c.in-Ok.field-0-0)
    c.in-Some.ensures.cases.0 c.requires a.reads
    (short_field (bits_view a.bits) a.end a.octets.now ∙ ap (ends_run short) c.in-Ok.ensures.read)).values
