-- What was written reads back: octets that encode a method or a header are read as it.
use Rattle.std.proofs.Common.{ap}
use Rattle.amqp_method.specs.Encoding.{EncodesMethod}
use Rattle.amqp_method.specs.Laws.{MethodIsRead, HeaderIsRead}
use Rattle.amqp_method.specs.Plain as plain
use Rattle.amqp_method.specs.Properties.{EncodesHeader}
use Rattle.amqp_model.specs.Wire.Methods.{Method, Header, ReadsBack, method_at, header_at, method_read, header_read, plain_method, plain_header}
use Rattle.amqp_outbox.specs.OutboxFrames.{HeaderReadsBack}

pub method_reads_back : (method : Method) → MethodIsRead → EncodesMethod method (plain.plain_method method) → ReadsBack method
unfolding method_at plain_method
method_reads_back method law encoded = ap method_read (law method (plain.plain_method method) encoded)

pub header_reads_back : (header : Header) → HeaderIsRead → EncodesHeader header (plain.plain_header header) → HeaderReadsBack header
unfolding header_at plain_header
header_reads_back header law encoded = ap header_read (law header (plain.plain_header header) encoded)
