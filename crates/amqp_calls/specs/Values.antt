-- What a value that crosses to C stands for.
use Rattle.std.specs.Prelude.{ℤ, List, map, not, Option, Some, None, if◌then◌else◌, nat_eq}
use Rattle.std.specs.Int.{w64, cast_signed}
use Rattle.byteorder.specs.Endian.{big_bytes}
use Rattle.amqp_value.specs.Values.{boolean, short_short_int, short_short_uint, errata_short_int, short_int, short_uint}
use Rattle.amqp_value.specs.Values.{long_int, long_uint, errata_long_long_int, long_long_int, float, double, decimal}
use Rattle.amqp_value.specs.Values.{timestamp, void, Datum, scalar, long_string as long_string_datum, byte_array, array}
use Rattle.amqp_value.specs.Values.{items_of, table as table_datum}
use Rattle.amqp_value.specs.Whole.{items_encoded, table_encoded}
use Rattle.amqp_method.specs.Arguments.{Argument, bit, octet, short, long, long_long, short_string, long_string, table}
use Rattle.amqp_calls.specs.declared.codec.values.Value.{Value}

-- the argument of a method, or a property, by the number of its kind: 0 says that there is none
abbrev pub argument_there : Value → Option Argument
argument_there v =
    if nat_eq v.kind 1 then Some (bit (not (nat_eq v.number 0)))
    else (if nat_eq v.kind 2 then Some (octet v.number)
    else (if nat_eq v.kind 3 then Some (short v.number)
    else (if nat_eq v.kind 4 then Some (long v.number)
    else (if nat_eq v.kind 5 then Some (long_long v.number)
    else (if nat_eq v.kind 6 then Some (short_string v.octets.now)
    else (if nat_eq v.kind 7 then Some (long_string v.octets.now)
    else (if nat_eq v.kind 8 then Some (table (table_encoded v.octets.now))
    else None)))))))

-- arguments, all of which are there
abbrev pub all_there : List Argument → List (Option Argument)
all_there args = map (λ (a : Argument). Some a) args

-- the number, as a signed one
abbrev pub signed_number : Value → ℤ
signed_number v = cast_signed w64 v.number

-- the value of a pair or of an array, by its tag: no other octet is one
abbrev pub datum_there : Value → Option Datum
datum_there v =
    if nat_eq v.kind 116 then Some (scalar (boolean (not (nat_eq v.number 0))))
    else (if nat_eq v.kind 98 then Some (scalar (short_short_int (signed_number v)))
    else (if nat_eq v.kind 66 then Some (scalar (short_short_uint v.number))
    else (if nat_eq v.kind 115 then Some (scalar (errata_short_int (signed_number v)))
    else (if nat_eq v.kind 85 then Some (scalar (short_int (signed_number v)))
    else (if nat_eq v.kind 117 then Some (scalar (short_uint v.number))
    else (if nat_eq v.kind 73 then Some (scalar (long_int (signed_number v)))
    else (if nat_eq v.kind 105 then Some (scalar (long_uint v.number))
    else (if nat_eq v.kind 108 then Some (scalar (errata_long_long_int (signed_number v)))
    else (if nat_eq v.kind 76 then Some (scalar (long_long_int (signed_number v)))
    else (if nat_eq v.kind 102 then Some (scalar (float (big_bytes 4 v.number)))
    else (if nat_eq v.kind 100 then Some (scalar (double (big_bytes 8 v.number)))
    else (if nat_eq v.kind 68 then Some (scalar (decimal v.scale v.number))
    else (if nat_eq v.kind 84 then Some (scalar (timestamp v.number))
    else (if nat_eq v.kind 86 then Some (scalar void)
    else (if nat_eq v.kind 83 then Some (long_string_datum v.octets.now)
    else (if nat_eq v.kind 120 then Some (byte_array v.octets.now)
    else (if nat_eq v.kind 65 then Some (array (items_of (items_encoded v.octets.now)))
    else (if nat_eq v.kind 70 then Some (table_datum (table_encoded v.octets.now))
    else None))))))))))))))))))

-- values, all of which are there
abbrev pub all_data : List Datum → List (Option Datum)
all_data values = map (λ (d : Datum). Some d) values
