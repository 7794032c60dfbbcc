use Rattle.amqp_text.proofs.HexadecimalLemmas.{read_line, read_last}
use Rattle.amqp_text.proofs.hexadecimal.octets_of.Goals as goal

pub returns-in_default-clause-octets : goal.returns-in_default-clause-octets
returns-in_default-clause-octets c =
    read_last c.args.text.now c.loop-octets.octets.items c.loop-octets.rest.now c.cut_line.result.0.now c.append_line.new.octets.items c.loop-octets.before c.loop-octets.invariant
    (rw c.in_default.is at c.cut_line.ensures.lines) c.in-Ok.ensures.ok

pub loop-octets-preserved : goal.loop-octets-preserved
loop-octets-preserved c =
    read_line c.args.text.now c.loop-octets.octets.items c.loop-octets.rest.now c.cut_line.result.0.now c.in-Some.after.now c.append_line.new.octets.items c.loop-octets.before c.loop-octets.invariant
    (rw c.in-Some.is at c.cut_line.ensures.lines) c.in-Ok.ensures.ok (rw c.in-Some.is at c.cut_line.ensures.shorter)
