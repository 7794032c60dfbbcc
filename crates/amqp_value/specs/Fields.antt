-- Numbers and strings as octets. Numbers are big-endian, signed ones in two's complement (AMQP 0-9-1 specification,
-- 4.2.5.1); a short string is a length octet and that many octets, a long string a length of four octets and that
-- many octets (4.2.5.3).
use Rattle.std.specs.Prelude.{◌≡◌, ℕ, ◌^◌, ◌<◌, List, ◌∷◌, ◌++◌, length, ℤ, FitsSigned}
use Rattle.std.specs.Int.{Width, byte_len, cast_unsigned}
use Rattle.byteorder.specs.Endian.{big_bytes}

-- an unsigned number of n octets
pub record EncodesNumber (n number : ℕ) (octets : List ℕ) : Type 0 where
  pub fits : number < 256 ^ n
  pub octets_are : octets ≡ big_bytes n number

-- a signed number of that width
pub record EncodesSigned (w : Width) (number : ℤ) (octets : List ℕ) : Type 0 where
  pub fits : FitsSigned w number
  pub octets_are : octets ≡ big_bytes (byte_len w) (cast_unsigned w number)

-- n octets, as they are
pub record EncodesOctets (n : ℕ) (text octets : List ℕ) : Type 0 where
  pub fits : length text ≡ n
  pub octets_are : octets ≡ text

pub record EncodesShortString (text octets : List ℕ) : Type 0 where
  pub fits : length text < 2 ^ 8
  pub octets_are : octets ≡ length text ∷ text

-- a long string, and likewise the octets of an array or a table after their count
pub record EncodesLongString (text octets : List ℕ) : Type 0 where
  pub fits : length text < 2 ^ 32
  pub octets_are : octets ≡ big_bytes 4 (length text) ++ text

-- the one encoding of a short string, and of a long one
abbrev pub plain_short_string : List ℕ → List ℕ
plain_short_string text = length text ∷ text

abbrev pub plain_long_string : List ℕ → List ℕ
plain_long_string text = big_bytes 4 (length text) ++ text
