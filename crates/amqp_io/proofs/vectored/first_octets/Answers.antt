-- The slices before this one have no octets, so its own are the first of all.
use Rattle.std.proofs.Common.{◌≡◌, ◌+◌, ◌++◌, length, take, drop, sym, ap, ◌∙◌, arith, take-append-drop}
use Rattle.std.proofs.Math.Seq.{take-append_seam}
use Rattle.std.proofs.lemmas.Grind.{common_steps}
use Rattle.std.proofs.lemmas.List.Concat.{flat_map-append}
use Rattle.std.specs.Io.Slices.{io_slice_bytes, io_slices_bytes}
use Rattle.amqp_io.proofs.vectored.first_octets.Goals as goal

pub returns-then-not-is_empty-clause-starts : goal.returns-then-not-is_empty-clause-starts
returns-then-not-is_empty-clause-starts c =
    let slices = c.args.slices.now in
    let past = c.loop-slice.slice-index + 1 in
    let octets = c.as_slice-octets.result.now in
    let rest = io_slices_bytes (drop past slices) in
    let none_before = c.loop-slice.invariant in
    let first : io_slices_bytes (take past slices) ≡ octets = grind (arith, common_steps) in
    let parts : io_slices_bytes slices ≡ octets ++ rest = ap io_slices_bytes (sym (take-append-drop past slices))
    ∙ flat_map-append io_slice_bytes (take past slices) (drop past slices) ∙ ap (λ l. l ++ rest) first in
    sym (ap (take (length octets)) parts ∙ take-append_seam octets rest)
