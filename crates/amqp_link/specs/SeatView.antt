-- A side of the code, in these words.
use Rattle.amqp_core.specs.Config.Configs.{set_up_as}
use Rattle.amqp_core.specs.Traced.View.{settings_at, traced_of}
use Rattle.amqp_core.specs.declared.roles.Role.{Ghosts}
use Rattle.amqp_link.specs.Seats.{Seated}
use Rattle.amqp_link.specs.declared.seat.Seat.{Seat}

abbrev pub seat_view : {R H : Type 0} {G : Ghosts R H} → Seat R H G → Seated
seat_view seat = record { set_up = set_up_as (settings_at seat.end); kept = traced_of seat.end; dropped = seat.dropped }
