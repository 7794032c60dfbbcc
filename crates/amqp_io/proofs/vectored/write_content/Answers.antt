-- The slices are the start of what is left.
use Rattle.std.proofs.Common.{[], ◌++◌}
use Rattle.std.specs.Io.Slices.{io_slice_bytes}
use Rattle.amqp_outbox.specs.LentFrames.{content_left}
use Rattle.amqp_io.proofs.VectoredLemmas.{Starts, appended_of_row, four_start, marks_of_row}
use Rattle.amqp_io.proofs.vectored.write_content.Goals as goal

pub returns-clause-appended : goal.returns-clause-appended
returns-clause-appended g c =
    let a = io_slice_bytes c.next_of_content-first.result in
    let b = io_slice_bytes c.next_of_content-second.result in
    let d = io_slice_bytes c.next_of_content-third.result in
    let e = io_slice_bytes c.last_of_write-fourth.result in
    let row = content_left c.args.frames.now in
    let starts : Starts (a ++ (b ++ (d ++ (e ++ [])))) row =
    (four_start a b d e row (content_left c.next_of_content-first.new.frames) (content_left c.next_of_content-second.new.frames) (content_left c.next_of_content-third.new.frames) (content_left c.last_of_write-fourth.new.frames)
    c.next_of_content-first.ensures.octets c.next_of_content-second.ensures.octets c.next_of_content-third.ensures.octets c.last_of_write-fourth.ensures c.next_of_content-first.ensures.some) in
    appended_of_row c.write_vectored.result _ row _ _ starts c.write_vectored.ensures.within c.write_vectored.ensures.appended

pub returns-clause-failure : goal.returns-clause-failure
returns-clause-failure g c =
    let a = io_slice_bytes c.next_of_content-first.result in
    let b = io_slice_bytes c.next_of_content-second.result in
    let d = io_slice_bytes c.next_of_content-third.result in
    let e = io_slice_bytes c.last_of_write-fourth.result in
    let row = content_left c.args.frames.now in
    let starts : Starts (a ++ (b ++ (d ++ (e ++ [])))) row =
    (four_start a b d e row (content_left c.next_of_content-first.new.frames) (content_left c.next_of_content-second.new.frames) (content_left c.next_of_content-third.new.frames) (content_left c.last_of_write-fourth.new.frames)
    c.next_of_content-first.ensures.octets c.next_of_content-second.ensures.octets c.next_of_content-third.ensures.octets c.last_of_write-fourth.ensures c.next_of_content-first.ensures.some) in
    marks_of_row c.write_vectored.result _ row _ _ starts c.write_vectored.ensures.failure
