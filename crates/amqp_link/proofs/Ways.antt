-- Either way of a connection.
use Rattle.std.proofs.Common.{◌≡◌, ℕ, subst, sym}
use Rattle.amqp_link.specs.ConnectionSteps.{ConnectionCarries}
use Rattle.amqp_link.specs.SeatSteps.{Answer, SidesCarry}
use Rattle.amqp_link.specs.Seats.{Joint}
use Rattle.amqp_link.specs.declared.steps.Direction.{Direction}
use Rattle.amqp_link.specs.declared.steps.Direction.TheVariants as directions

pub to-server : (direction : Direction) (octets : ℕ) (old new : Joint) (result : Answer) → direction ≡ directions.ToServer
    → SidesCarry octets old.client old.server result new.client new.server → ConnectionCarries direction octets old result new
to-server direction octets old new result is carries = subst (λ d. ConnectionCarries d octets old result new) (sym is) carries

pub to-client : (direction : Direction) (octets : ℕ) (old new : Joint) (result : Answer) → direction ≡ directions.ToClient
    → SidesCarry octets old.server old.client result new.server new.client → ConnectionCarries direction octets old result new
to-client direction octets old new result is carries = subst (λ d. ConnectionCarries d octets old result new) (sym is) carries
