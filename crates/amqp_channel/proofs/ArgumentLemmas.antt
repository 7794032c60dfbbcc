-- The arguments of closes and of connection.blocked, by their place.
use Rattle.std.proofs.Common.{◌≡◌, List, [], ◌∷◌, map, None}
use Rattle.amqp_method.specs.Arguments.{Argument, kind_of, short, short_string, Call, call, Fits}
use Rattle.amqp_method.specs.Places.{argument_at, found, short_of, short_string_of}
use Rattle.amqp_method.specs.declared.fields.FieldKind.TheVariants.{Short, ShortStr}
use Rattle.amqp_method.specs.declared.kinds.Kind.TheVariants as kinds
use Rattle.amqp_model.specs.Wire.Methods.{MethodKind}
use Rattle.amqp_channel.specs.Events.Closes.{IsClose}

is_short : (arg : Argument) → kind_of arg ≡ Short → short_of arg ≡ None → ⊥
is_short (short n) e none = cc
is_short arg e none = cc

is_text : (arg : Argument) → kind_of arg ≡ ShortStr → short_string_of arg ≡ None → ⊥
is_text (short_string text) e none = cc
is_text arg e none = cc

pub record OfClose (args : List Argument) : Type 0 where
  pub code : found short_of (argument_at 0 args) ≡ None → ⊥
  pub text : found short_string_of (argument_at 1 args) ≡ None → ⊥
  pub class_id : found short_of (argument_at 2 args) ≡ None → ⊥
  pub method_id : found short_of (argument_at 3 args) ≡ None → ⊥

by_kinds : (args : List Argument) → map kind_of args ≡ Short ∷ ShortStr ∷ Short ∷ Short ∷ [] → OfClose args
by_kinds [] e = cc
by_kinds (code ∷ []) e = cc
by_kinds (code ∷ text ∷ []) e = cc
by_kinds (code ∷ text ∷ class_id ∷ []) e = cc
by_kinds (code ∷ text ∷ class_id ∷ method_id ∷ args) e =
    record { code = is_short code cc; text = is_text text cc; class_id = is_short class_id cc; method_id = is_short method_id cc }

by_kind : (kind : MethodKind) (args : List Argument) → IsClose kind → Fits (call kind args) → OfClose args
by_kind kinds.ChannelClose args h fits = by_kinds args fits
by_kind kinds.ConnectionClose args h fits = by_kinds args fits
by_kind kind args h fits = absurd h

-- the arguments of a close are its code, its text, and the class and the method that it is about
pub of_close : (method : Call) → IsClose method.kind → Fits method → OfClose method.args
of_close method h fits = by_kind method.kind method.args h fits

one_text : (args : List Argument) → map kind_of args ≡ ShortStr ∷ [] → found short_string_of (argument_at 0 args) ≡ None → ⊥
one_text [] e none = cc
one_text (text ∷ args) e none = is_text text (cc) none

blocked_by : (kind : MethodKind) (args : List Argument) → kind ≡ kinds.ConnectionBlocked → Fits (call kind args) → found short_string_of (argument_at 0 args) ≡ None → ⊥
blocked_by kinds.ConnectionBlocked args h fits none = one_text args fits none
blocked_by kind args h fits none = cc

-- those of connection.blocked are its reason
pub of_blocked : (method : Call) → method.kind ≡ kinds.ConnectionBlocked → Fits method → found short_string_of (argument_at 0 method.args) ≡ None → ⊥
of_blocked method h fits none = blocked_by method.kind method.args h fits none
