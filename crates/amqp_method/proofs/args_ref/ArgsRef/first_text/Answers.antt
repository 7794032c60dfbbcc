use Rattle.std.proofs.Common.{◌≤◌, length, false, ap, ◌∙◌, arith}
use Rattle.amqp_method.specs.Arguments.{short_string}
use Rattle.amqp_method.specs.BitsView.{bits_view}
use Rattle.amqp_method.specs.Reading.{no_bits, ends_run}
use Rattle.amqp_method.specs.declared.fields.FieldKind.TheVariants.{ShortStr}
use Rattle.amqp_method.proofs.KnownFields.{text_field, known_value, known_fits}
use Rattle.amqp_method.proofs.args_ref.ArgsRef.first_text.Goals as goal

pub unreachable-requires-in_default-read_short_octets : goal.unreachable-requires-in_default-read_short_octets
unreachable-requires-in_default-read_short_octets c =
    let a = c.args.self in
    known_fits ShortStr false a.fields.now c.in-Some.field-0-0.now c.in-Some.fields.now (bits_view a.bits) a.end a.octets.now c.in_default-read_short_octets.field-0
    c.in-Some.ensures.cases.0 c.requires a.reads
    (text_field (bits_view a.bits) a.end a.octets.now ∙ ap (ends_run short_string) c.in_default-read_short_octets.ensures.read)

pub invariant_of-result : goal.invariant_of-result
invariant_of-result c =
    let a = c.args.self in
    let within : length c.in-Ok.octets.now ≤ a.end = omega (arith, a.within, c.in-Ok.ensures.within) in
    record {
      within = within;
      reads = (known_value ShortStr false a.fields.now c.in-Some.field-0-0.now c.in-Some.fields.now (bits_view a.bits) no_bits a.end a.octets.now c.in-Ok.octets.now (short_string c.in-Ok.text.now)
          c.in-Some.ensures.cases.0 c.requires a.reads
          (text_field (bits_view a.bits) a.end a.octets.now ∙ ap (ends_run short_string) c.in-Ok.ensures.read)).reads;
    }

pub returns-clause-value : goal.returns-clause-value
returns-clause-value c =
    let a = c.args.self in
    (known_value ShortStr false a.fields.now c.in-Some.field-0-0.now c.in-Some.fields.now (bits_view a.bits) no_bits a.end a.octets.now c.in-Ok.octets.now (short_string c.in-Ok.text.now)
    c.in-Some.ensures.cases.0 c.requires a.reads
    (text_field (bits_view a.bits) a.end a.octets.now ∙ ap (ends_run short_string) c.in-Ok.ensures.read)).values
