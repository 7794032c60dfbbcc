-- Requests and replies: what a method of a client asks for, and what a method of a server answers. The classes
-- connection and channel, 10 and 20, have answers of their own: the opening, the closing and the flow of a channel are
-- no requests.
use Rattle.std.specs.Prelude.{Bool, true, false, not, cond, ◌&&◌, ◌||◌, ℕ, nat_lt, List, [], ◌∷◌, codes, Option, Some, None, is_some}
use Rattle.amqp_method.specs.Arguments.{Call}
use Rattle.amqp_method.specs.Kinds.{kinds, class_of, same_kind, fields_of, sends}
use Rattle.amqp_method.specs.Methods.{Wanted, Always, Never, UnlessNoWait, row}
use Rattle.amqp_method.specs.Places.{bit_at, place_named}
use Rattle.amqp_method.specs.declared.kinds.Kind.{Kind}

-- what a client's method asks for
abbrev pub wants : Kind → Wanted
wants kind = (row kind).wanted

abbrev pub is_wanted : Call → Wanted → Bool
is_wanted call Always = true
is_wanted call Never = false
is_wanted call (UnlessNoWait place) = not (bit_at place call)

-- a client's method to which the server replies. Of a kind that both ends send, as basic.cancel, it says so whoever
-- sends it: who asks looks at the direction.
abbrev pub is_request : Call → Bool
is_request call = is_wanted call (wants call.kind)

-- not of the classes connection and channel
abbrev above_channels : Kind → Bool
above_channels kind = nat_lt 20 (class_of kind)

-- the request that a server's method answers
abbrev pub answered : Kind → Option Kind
answered kind = cond (above_channels kind) (row kind).answers None

-- a server's method that answers a request; of basic.cancel-ok, too, whoever sends it
abbrev pub is_reply : Kind → Bool
is_reply kind = is_some (answered kind)

abbrev is_kind : Kind → Option Kind → Bool
is_kind kind (Some other) = same_kind kind other
is_kind kind None = false

-- the reply answers the request
abbrev pub answers : (reply request : Kind) → Bool
answers reply request = is_kind request (answered reply)

-- whether the server answers no method of the kind, whatever its arguments are
abbrev pub is_never : Wanted → Bool
is_never Always = false
is_never Never = true
is_never (UnlessNoWait place) = false

-- A method that the client, or the server, may send, and that has nothing to do with requests: the server answers none
-- of its kind, or it is no reply.
abbrev pub is_one_way : (client : Bool) → Kind → Bool
is_one_way client kind =
    above_channels kind && sends client kind && cond client (is_never (wants kind)) (not (is_reply kind))

-- ---- what the columns of answers and of fields say of it

-- one of these kinds answers it
abbrev is_answered_by : Kind → List Kind → Bool
is_answered_by kind [] = false
is_answered_by kind (other ∷ later) = is_kind kind (row other).answers || is_answered_by kind later

abbrev wanted_by : Option ℕ → Wanted
wanted_by (Some place) = UnlessNoWait place
wanted_by None = Always

-- a reply, where some method answers the kind, and where the argument no-wait is 0 if it has one
abbrev pub wanted_in_table : Kind → Wanted
wanted_in_table kind =
    cond (above_channels kind && is_answered_by kind kinds)
    (wanted_by (place_named 0 (fields_of kind) (codes "no-wait"))) Never
