use Rattle.std.proofs.Common.{◌≡◌, [], take}
use Rattle.std.specs.Io.Slices.{io_slices_bytes}
use Rattle.amqp_io.proofs.vectored.first_octets.Given as goal

-- the slices so far have no octets
abbrev pub invariant-loop-slice : goal.invariant-loop-slice
invariant-loop-slice l = io_slices_bytes (take l.slice-index l.slices) ≡ []
