use Rattle.std.proofs.Common.{rules}
use Rattle.amqp_method.specs.HeaderView.{properties_view}
use Rattle.amqp_method.specs.Properties.{header}
use Rattle.amqp_method.proofs.HeaderLemmas.{header_encoded}
use Rattle.amqp_method.proofs.PropertyKinds.{properties_have_kinds}
use Rattle.amqp_method.proofs.WritingLemmas.{both_ok}
use Rattle.amqp_method.proofs.header_octets.write_header_parts.Goals as goal

pub returns-else-is_err : goal.returns-else-is_err
returns-else-is_err c =
    record {
      ok = search rules;
      encoded = both_ok c.append_header-written.result
          (λ size fits. header_encoded (header c.args.body_size (properties_view c.args.properties.now)) size (properties_have_kinds c.args.properties.now) fits)
          c.append_header-written.ensures.size c.append_header-written.ensures.fits;
      too_long = search rules;
      err = search rules;
      same = search rules;
    }
