use Rattle.amqp_model.specs.Wire.Methods.{plain_header}
use Rattle.amqp_core.proofs.refusing.header_passes.Goals as goal

pub returns : goal.returns
unfolding plain_header
returns c = λ size. c.passes.ensures _ (c.header_length-length.ensures size)
