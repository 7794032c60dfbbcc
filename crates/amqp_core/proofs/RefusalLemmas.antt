-- The refusals of a message: those of its channel come first, and then those of the message itself.
use Rattle.std.proofs.Common.{◌≡◌, ◌<◌, ◌≤◌, ◌+◌, ◌==◌, ◌&&◌, ◌||◌, Bool, true, false, not, nat_lt, ℕ, List, [], ◌∷◌, length, Option, Some, None, refl, ap, ◌∙◌, arith}
use Rattle.std.proofs.lemmas.Bool.Decides.{nat_tests}
use Rattle.amqp_method.specs.declared.kinds.Kind.TheVariants as kinds
use Rattle.amqp_model.specs.End.Asks.{Refusal, Paused, NotSendable, TooLarge, Send, when, first_refusal, refusal, channel_max, is_sendable, is_pausable}
use Rattle.amqp_model.specs.End.Channels.{Channel, Life, Open, Agreed, End, Running}
use Rattle.amqp_model.specs.End.Events.{Message, Plain, Whole, method_of}
use Rattle.amqp_model.specs.Wire.Methods.{MethodKind, Method, Properties, bit_at, sends, plain_method, plain_header}
use Rattle.amqp_model.specs.Wire.Notes.{Role, Client, Server, is_client}
use Rattle.amqp_model.specs.Wire.Readings.{Calls, kind_of, kind_of_method}
use Rattle.amqp_model.specs.End.ReadingBack.{header_of}
use Rattle.amqp_channel.specs.Channel.LifeView.{IsOther}
use Rattle.amqp_channel.specs.Events.EventView.{message_by}
use Rattle.amqp_core.specs.Asks.Refusals.{IsOpenIn, passes, is_too_large, by_pause, by_kind, by_size, reply_refusal, refusal_in}

pub too_large_by : (frame_max : ℕ) (method : Method) (there : Option Properties) (body : List ℕ) (properties : Properties) → there ≡ Some properties
    → passes frame_max (plain_method method) ≡ false
    → is_too_large frame_max (message_by method there body) ≡ passes frame_max (plain_header (record { body_size = length body; properties = properties }))
too_large_by frame_max method there body properties is_there fits = rw (is_there, fits) refl

skip_client : (a b c r : Option Refusal) → first_refusal (a ∷ b ∷ c ∷ None ∷ None ∷ r ∷ None ∷ []) ≡ first_refusal (a ∷ b ∷ c ∷ r ∷ [])
skip_client (Some x) b c r = refl
skip_client None (Some x) c r = refl
skip_client None None (Some x) r = refl
skip_client None None None (Some x) = refl
skip_client None None None None = refl

skip_server : (a b c r : Option Refusal) → first_refusal (a ∷ b ∷ c ∷ None ∷ None ∷ None ∷ r ∷ []) ≡ first_refusal (a ∷ b ∷ c ∷ r ∷ [])
skip_server (Some x) b c r = refl
skip_server None (Some x) c r = refl
skip_server None None (Some x) r = refl
skip_server None None None (Some x) = refl
skip_server None None None None = refl

abbrev running : Agreed → (ℕ → Channel) → End
running agreed channels = record { phase = Running; agreed = Some agreed; channels = channels }

by_role : (role : Role) (agreed : Agreed) (channels : ℕ → Channel) (number : ℕ) (life : Life) (message : Message)
    → ((number == 0) || nat_lt agreed.channel_max number) ≡ false → channels number ≡ Open life
    → refusal role (running agreed channels) (Send number message) ≡ refusal_in role agreed.frame_max life message
by_role Client agreed channels number life (Plain method) number_fits life_is =
    rw (number_fits, life_is) (skip_client (by_pause life (Plain method)) (by_kind Client (Plain method)) (by_size agreed.frame_max (Plain method))
    (reply_refusal Client life.requests method))
by_role Client agreed channels number life (Whole content) number_fits life_is =
    rw (number_fits, life_is) (skip_client (by_pause life (Whole content)) (by_kind Client (Whole content)) (by_size agreed.frame_max (Whole content))
    (reply_refusal Client life.requests content.method))
by_role Server agreed channels number life (Plain method) number_fits life_is =
    rw (number_fits, life_is) (skip_server (by_pause life (Plain method)) (by_kind Server (Plain method)) (by_size agreed.frame_max (Plain method))
    (reply_refusal Server life.requests method))
by_role Server agreed channels number life (Whole content) number_fits life_is =
    rw (number_fits, life_is) (skip_server (by_pause life (Whole content)) (by_kind Server (Whole content)) (by_size agreed.frame_max (Whole content))
    (reply_refusal Server life.requests content.method))

same_running : (end : End) (agreed : Agreed) → end.phase ≡ Running → end.agreed ≡ Some agreed → end ≡ running agreed end.channels
same_running end agreed phase_is agreed_is =
    ap (λ p. record { phase = p; agreed = end.agreed; channels = end.channels }) phase_is
    ∙ ap (λ a. record { phase = Running; agreed = a; channels = end.channels }) agreed_is

number_fits : (number most : ℕ) → 0 < number → number ≤ most → ((number == 0) || nat_lt most number) ≡ false
number_fits number most above within = grind (arith, nat_tests)

most_is : (there : Option Agreed) (agreed : Agreed) (number : ℕ) → there ≡ Some agreed → number ≤ channel_max there → number ≤ agreed.channel_max
most_is there agreed number e h = let most : channel_max there ≡ agreed.channel_max = ap channel_max e in omega arith

-- on a channel that is Open, a message is refused by what it is itself
pub message_refusal : (role : Role) (end : End) (agreed : Agreed) (number : ℕ) (life : Life) (message : Message) → end.agreed ≡ Some agreed
    → IsOpenIn end number life → refusal role end (Send number message) ≡ refusal_in role agreed.frame_max life message
message_refusal role end agreed number life message agreed_is stands =
    ap (λ e. refusal role e (Send number message)) (same_running end agreed stands.running agreed_is)
    ∙ by_role role agreed end.channels number life message
    (number_fits number agreed.channel_max stands.above (most_is end.agreed agreed number agreed_is stands.within)) stands.life_is

alone : (r : Option Refusal) → first_refusal (r ∷ []) ≡ r
alone (Some x) = refl
alone None = refl

-- What is known of a message that isn't refused.

none_applies : (a b c : Bool) (r : Option Refusal) → first_refusal (when a Paused ∷ when (not b) NotSendable ∷ when c TooLarge ∷ r ∷ []) ≡ None
    → (b ≡ true) × (c ≡ false)
none_applies true b c r h = cc
none_applies false false c r h = cc
none_applies false true true r h = cc
none_applies false true false r h = (refl, refl)

no_and : (a : Bool) → (a && false) ≡ true → ⊥
no_and true h = cc
no_and false h = cc

pub other_kind : (role : Role) (kind : MethodKind) (active : Bool) → is_sendable role kind ≡ true → IsOther (kind_of_method kind active)
other_kind role kinds.ChannelOpen active h = absurd (no_and (sends (is_client role) kinds.ChannelOpen && true) h)
other_kind role kinds.ChannelOpenOk active h = absurd (no_and (sends (is_client role) kinds.ChannelOpenOk && true) h)
other_kind role kinds.ChannelClose active h = absurd (no_and (sends (is_client role) kinds.ChannelClose && true) h)
other_kind role kinds.ChannelCloseOk active h = absurd (no_and (sends (is_client role) kinds.ChannelCloseOk && true) h)
other_kind role kinds.ChannelFlow active h = absurd (no_and (sends (is_client role) kinds.ChannelFlow && true) h)
other_kind role kinds.ChannelFlowOk active h = absurd (no_and (sends (is_client role) kinds.ChannelFlowOk && true) h)
other_kind role kind active h = tt

pub sent_is_other : (role : Role) (frame_max : ℕ) (life : Life) (method : Method) (there : Option Properties) (body : List ℕ)
    → refusal_in role frame_max life (message_by method there body) ≡ None → IsOther (kind_of (Calls method))
sent_is_other role frame_max life method None body h =
    other_kind role method.kind (bit_at 0 method) (none_applies (is_pausable (Plain method) && life.paused) (is_sendable role method.kind)
    (is_too_large frame_max (Plain method)) (reply_refusal role life.requests method) h).0
sent_is_other role frame_max life method (Some properties) body h =
    let message : Message = Whole (record { method = method; properties = properties; body = body }) in
    other_kind role method.kind (bit_at 0 method) (none_applies (is_pausable (message) && life.paused) (is_sendable role method.kind)
    (is_too_large frame_max (message)) (reply_refusal role life.requests method) h).0

begins : (method : Method) → 0 < length (plain_method method)
unfolding plain_method
begins method = omega arith

has_room : (frame_max octets : ℕ) → 0 < octets → nat_lt frame_max (octets + 8) ≡ false → 8 < frame_max
has_room frame_max octets some fits = grind (arith, nat_tests)

neither : (a b : Bool) → (a || b) ≡ false → a ≡ false
neither true b h = cc
neither false b h = refl

pub sent_has_room : (role : Role) (frame_max : ℕ) (life : Life) (method : Method) (there : Option Properties) (body : List ℕ)
    → refusal_in role frame_max life (message_by method there body) ≡ None → 8 < frame_max
sent_has_room role frame_max life method None body h =
    has_room frame_max (length (plain_method method)) (begins method)
    (none_applies (is_pausable (Plain method) && life.paused) (is_sendable role method.kind) (is_too_large frame_max (Plain method))
    (reply_refusal role life.requests method) h).1
sent_has_room role frame_max life method (Some properties) body h =
    let message : Message = Whole (record { method = method; properties = properties; body = body }) in
    let fits : is_too_large frame_max message ≡ false = (none_applies (is_pausable (message) && life.paused) (is_sendable role method.kind)
    (is_too_large frame_max (message)) (reply_refusal role life.requests method) h).1 in
    has_room frame_max (length (plain_method method)) (begins method)
    (neither (passes frame_max (plain_method method))
    (passes frame_max (plain_header (header_of (record { method = method; properties = properties; body = body })))) fits)

pub method_is : (method : Method) (there : Option Properties) (body : List ℕ) → method_of (message_by method there body) ≡ method
method_is method None body = refl
method_is method (Some properties) body = refl

-- none of the first three applies
pub by_turn_alone : (role : Role) (frame_max : ℕ) (life : Life) (message : Message) (method : Method) → (is_pausable message && life.paused) ≡ false
    → is_sendable role (method_of message).kind ≡ true → is_too_large frame_max message ≡ false → method_of message ≡ method
    → refusal_in role frame_max life message ≡ reply_refusal role life.requests method
by_turn_alone role frame_max life message method on sent fits called =
    rw (on, sent, fits) (alone (reply_refusal role life.requests (method_of message)) ∙ ap (reply_refusal role life.requests) called)
