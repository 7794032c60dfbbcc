-- Which octets are read and not fed, and the room for those of a read.
use Rattle.std.specs.Prelude.{◌≤◌, ◌<◌, ℕ, List, length, take, drop}
use Rattle.amqp_io.specs.Buffering.{Buffered}
use Rattle.amqp_io.specs.declared.unfed.Room.{Room}
use Rattle.amqp_io.specs.declared.unfed.Room.TheVariants.{Own, Given}
use Rattle.amqp_io.specs.declared.unfed.Unfed.TheInside.{Inside}

-- the octets of the room, whether read or not
abbrev octets_in : Room → List ℕ
octets_in (Own octets) = octets
octets_in (Given octets) = octets.items

-- those that were read, without those that were fed; and how many the room holds
abbrev pub buffered_of : Inside → Buffered
buffered_of x = record { octets = drop x.fed (take x.read (octets_in x.room)); room = length (octets_in x.room) }

abbrev pub ReadBufferIsSound : Inside → Type 0
ReadBufferIsSound x = (x.fed ≤ x.read) × (x.read ≤ length (octets_in x.room)) × (0 < length (octets_in x.room))
