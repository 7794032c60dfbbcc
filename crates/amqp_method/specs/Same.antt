-- When two arguments, methods or content headers are the same: they have one kind, and the same content.
use Rattle.std.specs.Prelude.{◌==◌, ◌&&◌, List, Bool, true, false, Option, Some, None}
use Rattle.std.specs.Bool.{beq}
use Rattle.std.specs.Cmp.Lexicographic.{pointwise}
use Rattle.std.specs.Str.{bytes_eq}
use Rattle.amqp_value.specs.Same.{same_pairs}
use Rattle.amqp_method.specs.Arguments.{Argument, bit, octet, short, long, long_long, short_string, long_string, table, Call}
use Rattle.amqp_method.specs.Kinds.{same_kind}
use Rattle.amqp_method.specs.Properties.{ContentHeader}

abbrev pub same_argument : Argument → Argument → Bool
same_argument (bit a) (bit b) = beq a b
same_argument (octet a) (octet b) = a == b
same_argument (short a) (short b) = a == b
same_argument (long a) (long b) = a == b
same_argument (long_long a) (long_long b) = a == b
same_argument (short_string a) (short_string b) = bytes_eq a b
same_argument (long_string a) (long_string b) = bytes_eq a b
same_argument (table a) (table b) = same_pairs a b
same_argument value other = false

abbrev pub same_arguments : List Argument → List Argument → Bool
same_arguments args others = pointwise same_argument args others

abbrev pub same_call : Call → Call → Bool
same_call call other = same_kind call.kind other.kind && same_arguments call.args other.args

-- a property that is there, or none of both
abbrev pub same_property : Option Argument → Option Argument → Bool
same_property None None = true
same_property (Some value) (Some other) = same_argument value other
same_property property other = false

abbrev pub same_properties : List (Option Argument) → List (Option Argument) → Bool
same_properties properties others = pointwise same_property properties others

abbrev pub same_header : ContentHeader → ContentHeader → Bool
same_header header other = (header.body_size == other.body_size) && same_properties header.properties other.properties
