-- The states of a channel at one end: AMQP 0-9-1 specification, sections 2.2.5 and 4.3.

-- No life; open put and open-ok not yet taken, which is the client's alone, since the server answers an open at
-- once; in use; close put and close-ok not yet taken
pub data State : Type 0 where
  Free Opening Open Closing : State
