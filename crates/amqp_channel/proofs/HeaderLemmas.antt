-- How many octets the header has of the content under way.
use Rattle.std.proofs.Common.{◌≡◌, ◌<◌, ◌^◌, ℕ, List, length, Result, Ok, Err, OnOk, OnErr, refl, ap, sym, ◌∙◌, arith}
use Rattle.amqp_value.specs.Lengths.{capped}
use Rattle.amqp_method.specs.declared.header_ref.HeaderRef.{HeaderRef}
use Rattle.amqp_method.specs.HeaderRefView.{lent_header}
use Rattle.amqp_method.specs.Properties.{EncodesHeader}
use Rattle.amqp_model.specs.End.Amounts.{header_octets, OneHeaderLength}
use Rattle.amqp_model.specs.Wire.Gathering.{Gathering, Nothing, HeaderDue, BodyDue}
use Rattle.amqp_model.specs.Wire.Readings.{Reading, BodyOf}
use Rattle.amqp_channel.specs.Contents.GatheringView.{gathering_view, header_kept}
use Rattle.amqp_channel.specs.ReadingView.{header_said, length_said}
use Rattle.amqp_channel.specs.Verdict.VerdictView.{continued_with, headed_with, IsHeaderDue}
use Rattle.amqp_channel.specs.declared.gathering.Gathering as code

-- a part of the body leaves the header
pub header_continued : (reading : Reading) (gathering : Gathering) → header_octets (continued_with reading gathering) ≡ header_octets gathering
header_continued (BodyOf octets) (BodyDue method size properties body) = refl
header_continued (BodyOf octets) Nothing = refl
header_continued (BodyOf octets) (HeaderDue method) = refl
header_continued reading gathering = refl

-- a header has as many octets as those that it was read of
pub length_measured : (header : HeaderRef) (octets : List ℕ) → OneHeaderLength → EncodesHeader (lent_header header) octets → length octets < 2 ^ 63
    → length octets ≡ length_said header
length_measured header octets law encodes small =
    let counted : length octets ≡ capped (length octets) = omega (arith, small) in
    counted ∙ ap capped (law (lent_header header) octets encodes)

-- of a header that has come the length is that of the content under way
header_headed : (header : HeaderRef) (gathering : Gathering) → IsHeaderDue gathering
    → header_octets (headed_with (header_said header) gathering) ≡ length_said header
header_headed header (HeaderDue method) due = refl
header_headed header Nothing due = absurd due
header_headed header (BodyDue method size properties body) due = absurd due

-- So of the content under way the length of the header is kept, whether it is taken or there is no memory for it.
pub measured_after : {A : Type 0} {E : Type 0} (answer : Result A E) (header : HeaderRef) (old new : code.Gathering)
    → IsHeaderDue (gathering_view old) → header_kept old ≡ header_octets (gathering_view old)
    → OnOk answer (gathering_view new ≡ headed_with (header_said header) (gathering_view old)) → OnOk answer (header_kept new ≡ length_said header)
    → OnErr answer (gathering_view new ≡ gathering_view old) → OnErr answer (header_kept new ≡ header_kept old)
    → header_kept new ≡ header_octets (gathering_view new)
measured_after (Ok done) header old new due before headed counted same kept =
    counted ∙ sym (ap header_octets headed ∙ header_headed header (gathering_view old) due)
measured_after (Err fault) header old new due before headed counted same kept = kept ∙ (before ∙ sym (ap header_octets same))

-- the same of a header that is taken without fail
pub measured_with : (header : HeaderRef) (old new : code.Gathering) → IsHeaderDue (gathering_view old)
    → gathering_view new ≡ headed_with (header_said header) (gathering_view old) → header_kept new ≡ length_said header
    → header_kept new ≡ header_octets (gathering_view new)
measured_with header old new due headed counted = counted ∙ sym (ap header_octets headed ∙ header_headed header (gathering_view old) due)
