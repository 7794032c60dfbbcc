-- The bits of an octet that are still to be read, as the code has them.
use Rattle.amqp_method.specs.Reading.{Bits}
use Rattle.amqp_method.specs.declared.field_octets.Bits.{Bits as CodeBits}

abbrev pub bits_view : CodeBits → Bits
bits_view bits = record { left = bits.left; packed = bits.packed }
