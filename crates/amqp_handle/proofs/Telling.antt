-- What is told of a content that is whole.
use Rattle.std.proofs.Common.{◌≡◌, ℕ, List, [], ◌∷◌, refl}
use Rattle.amqp_handle.specs.Gathered.{joined, Whole}

-- all of it came before
pub joined_none : (came : List ℕ) → joined came [] ≡ came
joined_none [] = refl
joined_none (octet ∷ came) = refl

-- none of it did
pub joined_all : (came last : List ℕ) → came ≡ [] → joined came last ≡ last
joined_all [] last is = refl
joined_all (octet ∷ came) last is = absurd cc

pub whole_is : (channel : ℕ) (a b c d e f : List ℕ) → a ≡ b → c ≡ d → e ≡ f → Whole channel a c e ≡ Whole channel b d f
whole_is channel a b c d e f p q r = cc
