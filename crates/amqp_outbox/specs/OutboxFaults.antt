-- Why a frame can't be staged, why nothing is handed over, and why octets of a body aren't written.
use Rattle.amqp_outbox.specs.declared.body.BodyFault.{BodyFault}
use Rattle.amqp_outbox.specs.declared.body.BodyFault.TheVariants as body_faults
use Rattle.amqp_outbox.specs.declared.handing.HandOverFault.{HandOverFault}
use Rattle.amqp_outbox.specs.declared.handing.HandOverFault.TheVariants.{Begun}
use Rattle.amqp_outbox.specs.declared.staging.StageFault.{StageFault}
use Rattle.amqp_outbox.specs.declared.staging.StageFault.TheVariants.{OutOfMemory, TooLong}

abbrev pub out_of_memory : StageFault
out_of_memory = OutOfMemory

abbrev pub too_long : StageFault
too_long = TooLong

abbrev pub begun : HandOverFault
begun = Begun

abbrev pub longer_than_body : BodyFault
longer_than_body = body_faults.TooLong
