-- The slices are the start of what waits.
use Rattle.std.proofs.Common.{[], ◌++◌, subst}
use Rattle.std.specs.Io.Slices.{io_slice_bytes}
use Rattle.amqp_model.specs.Output.Outputs.{output_octets}
use Rattle.amqp_io.proofs.VectoredLemmas.{Starts, appended_of_row, four_start, marks_of_row}
use Rattle.amqp_io.proofs.vectored.write_pieces.Goals as goal

pub returns-clause-appended : goal.returns-clause-appended
returns-clause-appended g c =
    let a = io_slice_bytes c.next_slice-first.result in
    let b = io_slice_bytes c.next_slice-second.result in
    let d = io_slice_bytes c.next_slice-third.result in
    let e = io_slice_bytes c.next_slice-fourth.result in
    let row = output_octets c.args.queue.now.output in
    let starts : Starts (a ++ (b ++ (d ++ (e ++ [])))) row = subst (Starts (a ++ (b ++ (d ++ (e ++ []))))) c.pieces-pieces.ensures.octets
    (four_start a b d e c.pieces-pieces.result c.next_slice-first.new.pieces c.next_slice-second.new.pieces c.next_slice-third.new.pieces c.next_slice-fourth.new.pieces
    c.next_slice-first.ensures.octets c.next_slice-second.ensures.octets c.next_slice-third.ensures.octets c.next_slice-fourth.ensures.octets c.next_slice-first.ensures.some) in
    appended_of_row c.write_vectored.result _ row _ _ starts c.write_vectored.ensures.within c.write_vectored.ensures.appended

pub returns-clause-failure : goal.returns-clause-failure
returns-clause-failure g c =
    let a = io_slice_bytes c.next_slice-first.result in
    let b = io_slice_bytes c.next_slice-second.result in
    let d = io_slice_bytes c.next_slice-third.result in
    let e = io_slice_bytes c.next_slice-fourth.result in
    let row = output_octets c.args.queue.now.output in
    let starts : Starts (a ++ (b ++ (d ++ (e ++ [])))) row = subst (Starts (a ++ (b ++ (d ++ (e ++ []))))) c.pieces-pieces.ensures.octets
    (four_start a b d e c.pieces-pieces.result c.next_slice-first.new.pieces c.next_slice-second.new.pieces c.next_slice-third.new.pieces c.next_slice-fourth.new.pieces
    c.next_slice-first.ensures.octets c.next_slice-second.ensures.octets c.next_slice-third.ensures.octets c.next_slice-fourth.ensures.octets c.next_slice-first.ensures.some) in
    marks_of_row c.write_vectored.result _ row _ _ starts c.write_vectored.ensures.failure
