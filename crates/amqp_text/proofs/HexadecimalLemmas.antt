-- Lines of a text, one after another.
use Rattle.std.proofs.Common.{◌≡◌, ℕ, ◌+◌, ◌≤◌, cond, List, [], ◌∷◌, ◌++◌, length, take, drop, Option, Some, None, Ok, refl, sym, ◌∙◌, arith, append_assoc, nat_lt, IsErr, length-append}
use Rattle.std.proofs.lemmas.List.{append-nil}
use Rattle.std.specs.List.{position, position_or_len}
use Rattle.std.proofs.lemmas.Bool.Decides.{nat_tests}
use Rattle.std.proofs.lemmas.List.Quantifiers.{position-Some}
use Rattle.std.proofs.lemmas.List.Sums.{position_or_len_is, fails_before_first}
use Rattle.std.proofs.lemmas.List.Splits.{slice_split_none, slice_split_first}
use Rattle.hex.specs.Hex.{decode_of}
use Rattle.amqp_text.specs.Hexadecimal.{bare, is_line_feed, lines, EncodeOctets, IsFirstWrong, AppendsLine}

-- a line feed ends a line
pub line_and_others : (text : List ℕ) (end : ℕ) → position is_line_feed text ≡ Some end → lines text ≡ take end text ∷ lines (drop (end + 1) text)
line_and_others text end found =
    let at = position-Some is_line_feed text end 0 found in
    let place : position_or_len is_line_feed text ≡ end = position_or_len_is is_line_feed text end 0 (omega (arith, at.0)) at.2 (λ _. at.1) in
    slice_split_first is_line_feed text 0 (rw place at.0) ∙ rw place refl

-- where a search finds nothing, its place is past the end
none_past : (n m : ℕ) → ◌≡◌ {A = Option ℕ} (cond (nat_lt n m) (Some n) None) None → m ≤ n
none_past n m none = grind (arith, nat_tests)

-- a text without a line feed is one line
pub one_line : (text : List ℕ) → position is_line_feed text ≡ None → lines text ≡ text ∷ []
one_line text none =
    let past = none_past (position_or_len is_line_feed text) (length text) none in
    slice_split_none is_line_feed text (λ k d within. fails_before_first is_line_feed text k d (omega arith))

-- the lines passed encode the octets, and the lines of the rest follow them
pub record ReadSoFar (text octets rest : List ℕ) (before : ℕ) : Type 0 where
  pub passed : List (List ℕ)
  pub lines_are : lines text ≡ passed ++ lines rest
  pub number : length passed ≡ before
  pub encoded : EncodeOctets passed octets
  pub room : before + length rest ≤ length text

-- a line more
EncodeOctets-push : (passed : List (List ℕ)) (line octets more : List ℕ) → EncodeOctets passed octets → decode_of (bare line) ≡ Ok more → EncodeOctets (passed ++ line ∷ []) (octets ++ more)
EncodeOctets-push [] line octets more encoded is = (more, [], is, refl, rw (encoded, append-nil) refl)
EncodeOctets-push (first ∷ passed) line octets more (prefix, rest, prefix_is, encoded, octets_are) is =
    (prefix, rest ++ more, prefix_is, EncodeOctets-push passed line rest more encoded is, rw octets_are (append_assoc prefix rest more))

pub read_nothing : (text : List ℕ) → ReadSoFar text [] text 0
read_nothing text = record { passed = []; lines_are = refl; number = refl; encoded = refl; room = omega arith }

pub read_line : (text octets rest line after new : List ℕ) (before : ℕ)
    → ReadSoFar text octets rest before → lines rest ≡ line ∷ lines after → AppendsLine line octets new → length line + 1 + length after ≡ length rest
    → ReadSoFar text new after (before + 1)
read_line text octets rest line after new before so_far cut appended shorter =
    let passed = so_far.passed in
    let room = so_far.room in
    let number = so_far.number in
    record {
      passed = passed ++ line ∷ [];
      lines_are = so_far.lines_are ∙ rw cut (sym (append_assoc passed (line ∷ []) (lines after)));
      number = simp length-append (omega arith);
      encoded = rw appended.2 (EncodeOctets-push passed line octets appended.0 so_far.encoded appended.1);
      room = omega arith;
    }

pub read_last : (text octets rest line new : List ℕ) (before : ℕ)
    → ReadSoFar text octets rest before → lines rest ≡ line ∷ [] → AppendsLine line octets new → EncodeOctets (lines text) new
read_last text octets rest line new before so_far cut appended =
    rw (so_far.lines_are, cut, appended.2) (EncodeOctets-push so_far.passed line octets appended.0 so_far.encoded appended.1)

pub read_wrong : (text octets rest line : List ℕ) (others : List (List ℕ)) (before : ℕ)
    → ReadSoFar text octets rest before → lines rest ≡ line ∷ others → IsErr (decode_of (bare line)) → IsFirstWrong (lines text) (before + 1)
read_wrong text octets rest line others before so_far cut wrong = record {
  before = so_far.passed;
  line = line;
  others = others;
  lines_are = so_far.lines_are ∙ rw cut refl;
  number = rw so_far.number refl;
  octets = octets;
  encoded = so_far.encoded;
  wrong = wrong;
}
