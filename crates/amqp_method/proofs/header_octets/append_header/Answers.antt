use Rattle.amqp_method.specs.HeaderView.{properties_view}
use Rattle.amqp_method.specs.Lent.{lent_views}
use Rattle.amqp_method.proofs.HeaderLemmas.{header_written}
use Rattle.amqp_method.proofs.WritingLemmas.{on_ok}
use Rattle.amqp_method.proofs.header_octets.append_header.Goals as goal

pub returns-clause-ok : goal.returns-clause-ok
returns-clause-ok c =
    on_ok c.append_present.result
    (header_written c.args.out.now.items c.append_prefix.new.out.items c.append_present.new.out.items c.args.body_size c.flags_word.result
    (lent_views c.lent_properties-present.result) (properties_view c.args.properties.now) c.flags_word.ensures c.lent_properties-present.ensures c.in_ok-append_prefix.ensures.ok)
    c.append_present.ensures.ok
