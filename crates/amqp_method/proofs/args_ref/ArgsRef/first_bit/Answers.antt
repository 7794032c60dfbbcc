use Rattle.std.proofs.Common.{◌≤◌, length, false, ◌∙◌, arith}
use Rattle.amqp_method.specs.Arguments.{bit}
use Rattle.amqp_method.specs.BitsView.{bits_view}
use Rattle.amqp_method.specs.declared.fields.FieldKind.TheVariants.{Bit}
use Rattle.amqp_method.proofs.KnownFields.{bit_field, known_value, known_fits}
use Rattle.amqp_method.proofs.args_ref.ArgsRef.first_bit.Goals as goal

pub unreachable-requires-in_default-read_bit : goal.unreachable-requires-in_default-read_bit
unreachable-requires-in_default-read_bit c =
    let a = c.args.self in
    known_fits Bit false a.fields.now c.in-Some.field-0-0.now c.in-Some.fields.now (bits_view a.bits) a.end a.octets.now c.in_default-read_bit.field-0
    c.in-Some.ensures.cases.0 c.requires a.reads
    (bit_field (bits_view a.bits) a.end a.octets.now ∙ c.in_default-read_bit.ensures.read)

pub invariant_of-result : goal.invariant_of-result
invariant_of-result c =
    let a = c.args.self in
    let within : length c.in-Ok.octets.now ≤ a.end = omega (arith, a.within, c.in-Ok.ensures.within) in
    record {
      within = within;
      reads = (known_value Bit false a.fields.now c.in-Some.field-0-0.now c.in-Some.fields.now (bits_view a.bits) (bits_view c.read_bit.new.bits) a.end a.octets.now c.in-Ok.octets.now (bit c.in-Ok.holds)
          c.in-Some.ensures.cases.0 c.requires a.reads
          (bit_field (bits_view a.bits) a.end a.octets.now ∙ c.in-Ok.ensures.read)).reads;
    }

pub returns-clause-value : goal.returns-clause-value
returns-clause-value c =
    let a = c.args.self in
    (known_value Bit false a.fields.now c.in-Some.field-0-0.now c.in-Some.fields.now (bits_view a.bits) (bits_view c.read_bit.new.bits) a.end a.octets.now c.in-Ok.octets.now (bit c.in-Ok.holds)
    c.in-Some.ensures.cases.0 c.requires a.reads
    (bit_field (bits_view a.bits) a.end a.octets.now ∙ c.in-Ok.ensures.read)).values
