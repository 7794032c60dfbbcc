-- Pieces of octets, each in its place.
use Rattle.std.proofs.Common.{◌≡◌, ℕ, ◌+◌, ◌<◌, ◌≤◌, List, [], ◌∷◌, ◌++◌, length, take, drop, slice_set, sym, ap, ◌∙◌, append_assoc, append-nil, arith}
use Rattle.std.proofs.lemmas.List.{drop-set-lt, length-set, take_more_set}
use Rattle.amqp_calls.specs.LentContents.{joined}
use Rattle.amqp_calls.specs.declared.ends.slices.Piece.{Piece}
use Rattle.amqp_calls.proofs.SplitFrames.{later}

-- one piece more
joined_more : (pieces : List Piece) (piece : Piece) → joined (pieces ++ piece ∷ []) ≡ joined pieces ++ piece.octets.now
joined_more [] piece = append-nil piece.octets.now
joined_more (first ∷ pieces) piece =
    ap (λ (os : List ℕ). first.octets.now ++ os) (joined_more pieces piece) ∙ sym (append_assoc first.octets.now (joined pieces) piece.octets.now)

-- these pieces stand in their places, and these octets are left
pub record Placed (octets : List ℕ) (pieces now : List Piece) (count : ℕ) (rest : List ℕ) : Type 0 where
  pub within : count ≤ length now
  pub as_many : length now ≡ length pieces
  pub others : drop count now ≡ drop count pieces
  pub joined_are : joined (take count now) ++ rest ≡ octets

-- with one piece more in its place, the other places stay
pub one_placed : (octets : List ℕ) (pieces now : List Piece) (count : ℕ) (rest : List ℕ) (piece : Piece) (after : List ℕ)
    → Placed octets pieces now count rest → count < length now → rest ≡ piece.octets.now ++ after
    → Placed octets pieces (slice_set now count piece) (count + 1) after
one_placed octets pieces now count rest piece after before room is =
    record {
      within = rw (length-set now count piece) (omega (arith, room));
      as_many = length-set now count piece ∙ before.as_many;
      others = drop-set-lt (count + 1) now count piece (omega arith) ∙ later count now pieces before.others;
      joined_are = rw (take_more_set now count piece room) (ap (λ (os : List ℕ). os ++ after) (joined_more (take count now) piece)
          ∙ append_assoc (joined (take count now)) piece.octets.now after ∙ (ap (λ (os : List ℕ). joined (take count now) ++ os) (sym is) ∙ before.joined_are));
    }
