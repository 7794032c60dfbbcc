-- The ids that a method's payload begins with: AMQP 0-9-1 specification, section 2.3.5.2.
use Rattle.std.specs.Prelude.{ℕ, List, length, drop, nat_lt, Option, None, if◌then◌else◌}
use Rattle.byteorder.specs.Endian.{big_number}
use Rattle.amqp_method.specs.Kinds.{kind_with}
use Rattle.amqp_method.specs.declared.kinds.Kind.{Kind}

-- the kind that the ids name, where they are whole
abbrev pub kind_of_ids : List ℕ → Option Kind
kind_of_ids octets =
    if nat_lt (length octets) 4 then None else kind_with (big_number 2 octets) (big_number 2 (drop 2 octets))
