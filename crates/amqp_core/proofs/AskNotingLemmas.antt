-- The notes and the item of an accepted ask are those of its frames.
use Rattle.std.proofs.Common.{◌≡◌, ◌≤◌, ◌+◌, ◌*◌, ◌-◌, ◌/◌, Bool, true, false, not, ℕ, zero, suc, List, [], ◌∷◌, drop, length, map, replicate, Option, Some, None, refl, ap, sym, ◌∙◌, subst, arith}
use Rattle.std.proofs.lemmas.List.{length-map}
use Rattle.amqp_frame.specs.Splitting.{stream}
use Rattle.amqp_model.specs.End.Asks.{Ask, Refusal, BadChannel, NotSendable, Send, CloseChannel, Close, Blocked, Unblocked, bad_channel, first_refusal, flow_pending, frames_asked, message_payloads, frame_max, no_free_channel, no_such_request, not_running, opens_on, paused, not_open, not_sendable, payload_frame, refusal, reply_pending, too_large, when, is_sendable}
use Rattle.amqp_model.specs.End.Channels.{End}
use Rattle.amqp_model.specs.End.Closes.{method_frame}
use Rattle.amqp_model.specs.Wire.Contents as contents
use Rattle.amqp_model.specs.Wire.Contents.{first_pieces, pieces, room_in}
use Rattle.amqp_model.specs.End.Events.{Message, Plain, Whole, method_of}
use Rattle.amqp_model.specs.Laws.FittingLaws.{AllWithin}
use Rattle.amqp_model.specs.Wire.Frame.{Frame}
use Rattle.amqp_model.specs.History.Histories.{History}
use Rattle.amqp_model.specs.Wire.Items.{Item}
use Rattle.amqp_model.specs.Wire.Methods.{Header, Method, ReadsBack, bit_at, header_at}
use Rattle.amqp_model.specs.Wire.Notes.{Kind, Role}
use Rattle.amqp_model.specs.Output.Outputs.{Output, after_puts, output_octets}
use Rattle.amqp_model.specs.End.ReadingBack.{AskReadsBack}
use Rattle.amqp_model.specs.Wire.Readings.{Calls, header_reading, kind_of, method_reading}
use Rattle.amqp_model.specs.Pair.Sent.{life_on}
use Rattle.amqp_model.specs.Stream.Traces as traces
use Rattle.amqp_model.specs.Stream.Traces.{IsPut, Noted, Other, noted, said_by_ask, telling_at, trace, word_of}
use Rattle.amqp_channel.specs.Channel.LifeView.{IsOther}
use Rattle.amqp_core.specs.Traced.NotedAsks.{GrowsByFrames, IsChannelOf, frames_of_message, item_asked, notes_asked}
use Rattle.amqp_core.specs.Traced.Noting.{lives_in}
use Rattle.amqp_core.specs.Traced.Notes.{noted_as}
use Rattle.amqp_core.proofs.GrowthLemmas.{length_puts, length_row}
use Rattle.amqp_core.proofs.LifeCountLemmas.{life-counted}
use Rattle.amqp_core.proofs.RefusalLemmas.{other_kind}

-- Of an ask that isn't refused, none of the refusals applies.

sent_of : (a b c d : Option Refusal) (s : Bool) (later : List (Option Refusal)) → first_refusal (a ∷ b ∷ c ∷ d ∷ when (not s) NotSendable ∷ later) ≡ None → s ≡ true
sent_of (Some x) b c d s later e = cc
sent_of None (Some x) c d s later e = cc
sent_of None None (Some x) d s later e = cc
sent_of None None None (Some x) s later e = cc
sent_of None None None None true later e = refl
sent_of None None None None false later e = cc

sent : (role : Role) (end : End) (channel : ℕ) (message : Message) → refusal role end (Send channel message) ≡ None → is_sendable role (method_of message).kind ≡ true
sent role end channel message e =
    let ask : Ask = Send channel message in
    sent_of (not_running end) (bad_channel end ask) (not_open end ask) (paused end ask) (is_sendable role (method_of message).kind)
    (too_large end ask ∷ flow_pending end ask ∷ no_free_channel end ask ∷ reply_pending role end ask ∷ no_such_request role end ask ∷ []) e

bad_at : (a : Option Refusal) (later : List (Option Refusal)) → first_refusal (a ∷ Some BadChannel ∷ later) ≡ None → ⊥
bad_at (Some x) later e = cc
bad_at None later e = cc

abbrev later_than : Role → End → Ask → List (Option Refusal)
later_than role end ask =
    not_open end ask ∷ paused end ask ∷ not_sendable role ask ∷ too_large end ask ∷ flow_pending end ask ∷ no_free_channel end ask ∷ reply_pending role end ask ∷ no_such_request role end ask ∷ []

zero_refused : (role : Role) (end : End) (message : Message) → refusal role end (Send 0 message) ≡ None → ⊥
zero_refused role end message e = bad_at (not_running end) (later_than role end (Send 0 message)) e

zero_flow_refused : (role : Role) (end : End) (active : Bool) → refusal role end (Ask.Flow 0 active) ≡ None → ⊥
zero_flow_refused role end active e = bad_at (not_running end) (later_than role end (Ask.Flow 0 active)) e

-- Notes.

other_word : (kind : Kind) → IsOther kind → word_of kind ≡ Other
other_word (Kind.Other begins) h = refl
other_word Kind.Open h = absurd h
other_word Kind.OpenOk h = absurd h
other_word Kind.Close h = absurd h
other_word Kind.CloseOk h = absurd h
other_word (Kind.Flow active) h = absurd h
other_word (Kind.FlowOk active) h = absurd h

-- the note of a frame whose reading comes to this kind
method_noted : (channel : ℕ) (method : Method) → ReadsBack method → noted IsPut (method_frame channel method) ≡ noted_as IsPut channel (word_of (kind_of (Calls method)))
method_noted channel method back = ap (λ (r : _). noted_as IsPut channel (word_of (kind_of (method_reading r)))) back

header_other : (read : Option Header) → word_of (kind_of (header_reading read)) ≡ Other
header_other None = refl
header_other (Some header) = refl

header_noted : (channel size : ℕ) (properties : _) → noted IsPut (payload_frame channel (contents.Header size properties)) ≡ noted_as IsPut channel Other
header_noted channel size properties = ap (noted_as IsPut channel) (header_other (header_at (payload_frame channel (contents.Header size properties)).payload))

bodies_noted : (channel : ℕ) (parts : List (List ℕ)) → map (noted IsPut) (map (payload_frame channel) (map contents.Body parts)) ≡ replicate (length parts) (noted_as IsPut channel Other)
bodies_noted channel [] = refl
bodies_noted channel (part ∷ later) = ap (λ notes. noted_as IsPut channel Other ∷ notes) (bodies_noted channel later)

length-first : (n room : ℕ) (octets : List ℕ) → length (first_pieces n room octets) ≡ n
length-first zero room octets = refl
length-first (suc n) room octets = ap suc (length-first n room (drop room octets))

message_noted : (channel max : ℕ) (message : Message) → ReadsBack (method_of message) → word_of (kind_of (Calls (method_of message))) ≡ Other
    → map (noted IsPut) (map (payload_frame channel) (message_payloads max message)) ≡ replicate (frames_of_message max message) (noted_as IsPut channel Other)
message_noted channel max (Plain method) back other = ap (λ note. note ∷ []) (method_noted channel method back ∙ ap (noted_as IsPut channel) other)
message_noted channel max (Whole content) back other =
    let method = method_noted channel content.method back ∙ ap (noted_as IsPut channel) other in
    let bodies = bodies_noted channel (pieces (room_in max) content.body)
    ∙ ap (λ n. replicate n (noted_as IsPut channel Other)) (length-first ((length content.body + room_in max - 1) / room_in max) (room_in max) content.body) in
    ap (λ note. note ∷ map (noted IsPut) (map (payload_frame channel) (contents.Header (length content.body) content.properties ∷ map contents.Body (pieces (room_in max) content.body)))) method
    ∙ (ap (λ note. noted_as IsPut channel Other ∷ note ∷ map (noted IsPut) (map (payload_frame channel) (map contents.Body (pieces (room_in max) content.body)))) (header_noted channel (length content.body) content.properties)
    ∙ ap (λ notes. noted_as IsPut channel Other ∷ noted_as IsPut channel Other ∷ notes) bodies)

pub asked-noted : (role : Role) (end : End) (ask : Ask) (channel : ℕ) → refusal role end ask ≡ None → AskReadsBack ask → IsChannelOf end ask channel
    → map (noted IsPut) (frames_asked end ask) ≡ notes_asked (frame_max end.agreed) channel ask
asked-noted role end Ask.Open channel allowed back here =
    ap (λ (n : Option ℕ). map (noted IsPut) (opens_on n)) here ∙ ap (λ note. note ∷ []) (method_noted channel _ back.method)
asked-noted role end (Send number message) channel allowed back here =
    message_noted number (frame_max end.agreed) message back.method (other_word _ (other_kind role (method_of message).kind (bit_at 0 (method_of message)) (sent role end number message allowed)))
    ∙ ap (λ n. replicate (frames_of_message (frame_max end.agreed) message) (noted_as IsPut n Other)) (sym here)
asked-noted role end (Ask.Flow number active) channel allowed back here =
    ap (λ note. note ∷ []) (method_noted number _ back.method ∙ ap (λ n. noted_as IsPut n traces.Flow) (sym here))
asked-noted role end (CloseChannel number code text cause) channel allowed back here =
    ap (λ note. note ∷ []) (method_noted number _ back.method ∙ ap (λ n. noted_as IsPut n traces.Close) (sym here))
asked-noted role end (Close code text cause) channel allowed back here = ap (λ note. note ∷ []) (method_noted 0 _ back.method ∙ ap (λ n. noted_as IsPut n Other) (sym here))
asked-noted role end (Blocked reason) channel allowed back here = ap (λ note. note ∷ []) (method_noted 0 _ back.method ∙ ap (λ n. noted_as IsPut n Other) (sym here))
asked-noted role end Unblocked channel allowed back here = ap (λ note. note ∷ []) (method_noted 0 _ back.method ∙ ap (λ n. noted_as IsPut n Other) (sym here))

-- What is said, in the life that the channel has.

lives_agree : (role : Role) (notes : List Noted) (history : History) (n : ℕ) → notes ≡ trace history → lives_in role notes (suc n) ≡ life_on role (suc n) history
lives_agree role notes history n e = ap (λ ns. lives_in role ns (suc n)) e ∙ life-counted role n history

said_on : (role : Role) (notes : List Noted) (history : History) (number channel : ℕ) (item : Item) → notes ≡ trace history → (number ≡ 0 → ⊥) → channel ≡ number
    → telling_at number (life_on role number history) (Some item) ≡ telling_at channel (lives_in role notes channel) (Some item)
said_on role notes history zero channel item e above here = absurd (above refl)
said_on role notes history (suc n) channel item e above here =
    ap (λ life. telling_at (suc n) life (Some item)) (sym (lives_agree role notes history n e)) ∙ ap (λ c. telling_at c (lives_in role notes c) (Some item)) (sym here)

pub asked-said : (role : Role) (end : End) (ask : Ask) (channel : ℕ) (notes : List Noted) (history : History) → notes ≡ trace history
    → refusal role end ask ≡ None → IsChannelOf end ask channel
    → said_by_ask role ask history ≡ telling_at channel (lives_in role notes channel) (item_asked ask)
asked-said role end Ask.Open channel notes history e allowed here = refl
asked-said role end (Send number message) channel notes history e allowed here =
    said_on role notes history number channel _ e (λ z. zero_refused role end message (subst (λ n. refusal role end (Send n message) ≡ None) z allowed)) here
asked-said role end (Ask.Flow number active) channel notes history e allowed here =
    said_on role notes history number channel _ e (λ z. zero_flow_refused role end active (subst (λ n. refusal role end (Ask.Flow n active) ≡ None) z allowed)) here
asked-said role end (CloseChannel number code text cause) channel notes history e allowed here = refl
asked-said role end (Close code text cause) channel notes history e allowed here = refl
asked-said role end (Blocked reason) channel notes history e allowed here = refl
asked-said role end Unblocked channel notes history e allowed here = refl

-- The output grows by the frames.

most_of : (max : ℕ) (frames : List Frame) → AllWithin max frames → length (stream frames) ≤ length frames * max
most_of max [] within = omega arith
most_of max (f ∷ later) within =
    let row = length_row f later in
    let there = most_of max later within.1 in
    omega (arith, row, there, within.0)

length_replicate : (n : ℕ) (note : Noted) → length (replicate n note) ≡ n
length_replicate zero note = refl
length_replicate (suc n) note = ap suc (length_replicate n note)

pub asked-grows : (frames : List Frame) (count max : ℕ) (note : Noted) (old new : Output) → map (noted IsPut) frames ≡ replicate count note → AllWithin max frames
    → new ≡ after_puts frames old → GrowsByFrames count max old new
asked-grows frames count max note old new are within new_is =
    let many : length frames ≡ count = sym (length-map frames (noted IsPut)) ∙ (ap length are ∙ length_replicate count note) in
    let most = most_of max frames within in
    let put = length_puts frames old in
    subst (λ (o : Output). GrowsByFrames count max old o) (sym new_is) (subst (λ n. length (output_octets (after_puts frames old)) ≤ length (output_octets old) + n * max) many (omega (arith, put, most)))
