use Rattle.amqp_method.proofs.headers.Header.payload_length.Goals as goal

pub returns : goal.returns
returns c = c.header_length.ensures c.args.self.now.body_size
