-- The third argument of a tune, or of a tune-ok, is a number of 16 bits.
use Rattle.std.proofs.Common.{◌≡◌, ◌≢◌, List, [], ◌∷◌, map, None}
use Rattle.amqp_method.specs.Arguments.{Argument, bit, octet, short, long, long_long, short_string, long_string, table, kind_of, Call, call, Fits}
use Rattle.amqp_method.specs.Places.{argument_at, found, short_of}
use Rattle.amqp_method.specs.declared.fields.FieldKind.TheVariants.{Short, Long}
use Rattle.amqp_method.specs.declared.kinds.Kind.TheVariants as kinds
use Rattle.amqp_model.specs.Wire.Methods.{MethodKind}
use Rattle.amqp_core.specs.Connection.Handshakes.{SaysHeartbeat}

by_kinds : (args : List Argument) → map kind_of args ≡ Short ∷ Long ∷ Short ∷ [] → found short_of (argument_at 2 args) ≢ None
by_kinds [] e = cc
by_kinds (channels ∷ []) e = cc
by_kinds (channels ∷ frame ∷ []) e = cc
by_kinds (channels ∷ frame ∷ short n ∷ later) e = λ none. cc
by_kinds (channels ∷ frame ∷ bit holds ∷ later) e = cc
by_kinds (channels ∷ frame ∷ octet n ∷ later) e = cc
by_kinds (channels ∷ frame ∷ long n ∷ later) e = cc
by_kinds (channels ∷ frame ∷ long_long n ∷ later) e = cc
by_kinds (channels ∷ frame ∷ short_string text ∷ later) e = cc
by_kinds (channels ∷ frame ∷ long_string text ∷ later) e = cc
by_kinds (channels ∷ frame ∷ table pairs ∷ later) e = cc

by_kind : (kind : MethodKind) (args : List Argument) → SaysHeartbeat kind → Fits (call kind args) → found short_of (argument_at 2 args) ≢ None
by_kind kinds.ConnectionTune args says fits = by_kinds args fits
by_kind kinds.ConnectionTuneOk args says fits = by_kinds args fits
by_kind kind args says fits = absurd says

pub heartbeat_there : (method : Call) → SaysHeartbeat method.kind → Fits method → found short_of (argument_at 2 method.args) ≢ None
heartbeat_there method says fits = by_kind method.kind method.args says fits
