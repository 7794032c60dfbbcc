use Rattle.std.proofs.Common.{sym, ◌∙◌}
use Rattle.amqp_method.specs.HeaderReading.{header_at}
use Rattle.amqp_method.specs.HeaderRefView.{properties_read}
use Rattle.amqp_method.proofs.HeaderRefs.{none_later, none_after, later_in_order}
use Rattle.amqp_method.proofs.header_ref.HeaderRef.own_later.Goals as goal

pub returns-then-self-eq0-clause-later : goal.returns-then-self-eq0-clause-later
returns-then-self-eq0-clause-later c = none_later c.args.self c.args.octets.now c.requires.left c.if-self-eq0.true ∙ sym c.requires.blank

pub returns-clause-later : goal.returns-clause-later
returns-clause-later c =
    later_in_order (properties_read (header_at c.args.self.payload.now)) _ _ _ _ _ _ _ _ _
    c.in_ok-octets.ensures.is c.in_ok-octets-2.ensures.is c.in_ok-octets-3.ensures.is c.in_ok-octets-4.ensures.is c.long_long-octets.ensures.is
    c.in_ok-octets-5.ensures.is c.in_ok-octets-6.ensures.is c.in_ok-octets-7.ensures.is c.in_ok-text.ensures.is
    (none_after c.args.self c.in_ok-text.field-0.now c.in_ok-text.ensures.left)
