use Rattle.amqp_calls.proofs.Unwritten.{put_writes}
use Rattle.amqp_calls.proofs.ends.blaming.write_line.Goals as goal

pub returns : goal.returns
returns c = put_writes (λ octets. Unit {0}) ⊥ (λ fault. ⊥) c.args.room.now c.as_bytes.result.now tt c.put.result c.put.new.room c.put.ensures.put c.put.ensures.room
