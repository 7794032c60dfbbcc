-- Each frame that an end puts fits its fields, and is no longer than the other end takes.
use Rattle.std.proofs.Common.{◌≡◌, ◌<◌, ◌≤◌, ◌+◌, ◌-◌, ◌/◌, ◌^◌, Bool, true, false}
use Rattle.std.proofs.Common.{◌||◌, ◌==◌, ℕ, zero, suc, arith, List, [], ◌∷◌, map, length, drop, Option}
use Rattle.std.proofs.Common.{Some, None, refl, subst, length-append, length-take}
use Rattle.std.specs.Prelude.{nat_lt}
use Rattle.std.specs.List.{AllByRecursion}
use Rattle.std.proofs.lemmas.Bool.{ltb-false, true≢false}
use Rattle.amqp_frame.specs.Frame.{frame_length}
use Rattle.amqp_frame.specs.Splitting.{AllFit}
use Rattle.amqp_method.specs.declared.kinds.Kind.TheVariants as kinds
use Rattle.amqp_model.specs.Wire.Frame.{Frame}
use Rattle.amqp_model.specs.Wire.Notes.{Role}
use Rattle.amqp_model.specs.Wire.Methods.{plain_method, plain_header}
use Rattle.amqp_model.specs.Wire.Contents as contents
use Rattle.amqp_model.specs.Wire.Contents.{Payload, first_pieces, room_in}
use Rattle.amqp_model.specs.Wire.Readings.{Reading}
use Rattle.amqp_model.specs.End.Channels.{End}
use Rattle.amqp_model.specs.History.Negotiation.{FRAME_MIN}
use Rattle.amqp_model.specs.End.Closes.{FrameError, Owed, without_arguments, flow_as, method_frame, frame_of}
use Rattle.amqp_model.specs.End.Events.{Message, Plain, Whole, Peer, Faults}
use Rattle.amqp_model.specs.End.FrameVerdict.{Facts, verdict_on, methods_put}
use Rattle.amqp_model.specs.End.Asks.{Ask, Open, Send, Flow, CloseChannel, Close, Blocked, Unblocked, Refusal}
use Rattle.amqp_model.specs.End.Asks.{channel_max, frame_max, lowest_free, refusal, bad_channel, too_large}
use Rattle.amqp_model.specs.End.Asks.{payload_frame, message_payloads, method_asked, opens_on, frames_asked}
use Rattle.amqp_model.specs.Laws.EndLaws.{FindsLowest}
use Rattle.amqp_model.specs.End.ReadingBack.{header_of, TextAskedFits}
use Rattle.amqp_model.specs.End.Fitting.{FRAME_MOST}
use Rattle.amqp_model.specs.Laws.FittingLaws.{StartFits, OwedFit, CloseFits, AskedFit, AllWithin, OwedAreShort}
use Rattle.amqp_model.specs.Laws.FittingLaws.{CloseIsShort, AskedAreWithin}
use Rattle.amqp_model.proofs.Asking.{accepted, not-when, accepted-none}
use Rattle.amqp_model.proofs.Lowest.{finds-lowest}
use Rattle.amqp_model.proofs.ReadBackOwed.{AllSound, fault-sound, owed-sound, connection_close-short}
use Rattle.amqp_model.proofs.ReadBackOwed.{channel_close-short}

-- ---- what verdicts put

all-fit : (number : ℕ) → number < 2 ^ 16 → (owed : List Owed) → AllSound number owed
    → AllFit (map frame_of owed)
all-fit number small [] sound = tt
all-fit number small (first ∷ later) sound =
    let short = sound.0.short in
    (record { channel = sound.0.channel small; size = omega arith }, all-fit number small later sound.1)

all-short : (number : ℕ) (owed : List Owed) → AllSound number owed → AllWithin FRAME_MIN (map frame_of owed)
all-short number [] sound = tt
all-short number (first ∷ later) sound = (sound.0.short, all-short number later sound.1)

pub start-fits_frame : StartFits
start-fits_frame config fits = let short = fits.greeting_short in record { channel = omega arith; size = omega arith }

pub owed-fit : OwedFit
owed-fit role facts reading fits small =
    all-fit facts.number small (methods_put facts (verdict_on facts reading)) (owed-sound role facts reading fits)

pub close-fits : CloseFits
close-fits role facts =
    all-fit 0 (omega arith) (methods_put facts (Faults (Peer FrameError))) (fault-sound role facts FrameError 0)

pub owed-short : (role : Role) (facts : Facts role) (reading : Reading) → OwedAreShort role facts reading
owed-short role facts reading fits =
    all-short facts.number (methods_put facts (verdict_on facts reading)) (owed-sound role facts reading fits)

pub close-short : (role : Role) (facts : Facts role) → CloseIsShort role facts
close-short role facts =
    all-short 0 (methods_put facts (Faults (Peer FrameError))) (fault-sound role facts FrameError 0)

-- ---- what asks put: the lengths

neither : (a b : Bool) → (a || b) ≡ false → (a ≡ false) × (b ≡ false)
neither true b e = absurd (true≢false e)
neither false b e = (refl, e)

pieces-within : (limit max : ℕ) → FRAME_MIN ≤ limit → max ≤ limit → (channel n : ℕ) (octets : List ℕ)
    → AllWithin limit (map (payload_frame channel) (map contents.Body (first_pieces n (room_in max) octets)))
pieces-within limit max least below channel zero octets = tt
pieces-within limit max least below channel (suc n) octets = (
  omega (arith, length-take (room_in max) octets),
  pieces-within limit max least below channel n
      (drop (room_in max) octets),
)

message-within : (limit channel : ℕ) (end : End) (message : Message) → FRAME_MIN ≤ limit
    → frame_max end.agreed ≤ limit → too_large end (Send channel message) ≡ None
    → AllWithin limit (frames_asked end (Send channel message))
message-within limit channel end (Plain method) least below e =
    let fits : length (plain_method method) + 8 ≤ frame_max end.agreed =
    ltb-false _ _ (not-when _ Refusal.TooLarge e) in
    (omega arith, tt)
message-within limit channel end (Whole content) least below e =
    let both = neither (nat_lt (frame_max end.agreed) (length (plain_method content.method) + 8))
    (nat_lt (frame_max end.agreed) (length (plain_header (header_of content)) + 8)) (not-when _ Refusal.TooLarge e) in
    let first : length (plain_method content.method) + 8 ≤ frame_max end.agreed = ltb-false _ _ both.0 in
    let second : length (plain_header (header_of content)) + 8 ≤ frame_max end.agreed = ltb-false _ _ both.1 in (
      omega arith,
      (
        omega arith,
        pieces-within limit (frame_max end.agreed) least below channel
            ((length content.body + room_in (frame_max end.agreed) - 1) / room_in (frame_max end.agreed)) content.body,
      ),
    )

open-within : (limit : ℕ) (free : Option ℕ) → FRAME_MIN ≤ limit → AllWithin limit (opens_on free)
unfolding plain_method
open-within limit (Some channel) least = (omega arith, tt)
open-within limit None least = tt

pub blocked-short : (reason : List ℕ) → length reason < 2 ^ 8
    → frame_length (method_frame 0 (method_asked (Blocked reason))) ≤ FRAME_MIN
unfolding plain_method
blocked-short reason small = omega (arith, length-append reason [])

flow-short : (channel : ℕ) (active : Bool)
    → frame_length (method_frame channel (flow_as kinds.ChannelFlow active)) ≤ FRAME_MIN
unfolding plain_method
flow-short channel active = omega arith

pub unblocked-short : frame_length (method_frame 0 (without_arguments kinds.ConnectionUnblocked)) ≤ FRAME_MIN
unfolding plain_method
unblocked-short = omega arith

asked-within : (limit : ℕ) (end : End) (ask : Ask) → FRAME_MIN ≤ limit → frame_max end.agreed ≤ limit
    → TextAskedFits ask → too_large end ask ≡ None → AllWithin limit (frames_asked end ask)
asked-within limit end Open least below text e = open-within limit (lowest_free end) least
asked-within limit end (Send channel message) least below text e =
    message-within limit channel end message least below e
asked-within limit end (Flow channel active) least below text e =
    let short = flow-short channel active in
    (omega arith, tt)
asked-within limit end (CloseChannel channel code words cause) least below text e =
    let short = channel_close-short channel code words cause text.0 in
    (omega arith, tt)
asked-within limit end (Close code words cause) least below text e =
    let short = connection_close-short 0 code words cause text.0 in
    (omega arith, tt)
asked-within limit end (Blocked reason) least below text e =
    let short = blocked-short reason text.0 in
    (omega arith, tt)
asked-within limit end Unblocked least below text e = let short = unblocked-short in (omega arith, tt)

pub asked-are-within : (role : Role) (end : End) (ask : Ask) (frames : List Frame)
    → AskedAreWithin role end ask frames
asked-are-within role end ask frames back least e =
    let put = accepted-none (refusal role end ask) (frames_asked end ask) frames e in
    subst (AllWithin (frame_max end.agreed)) put.1
    (asked-within (frame_max end.agreed) end ask least (omega arith) back.text (accepted role end ask put.0).short)

-- ---- what asks put: the channels

abbrev AllNumbered : List Frame → Type 0
AllNumbered frames = AllByRecursion (λ frame. frame.channel < 2 ^ 16) frames

payload-numbered : (channel : ℕ) (payload : Payload) → channel < 2 ^ 16
    → (payload_frame channel payload).channel < 2 ^ 16
payload-numbered channel (contents.Calls method) small = small
payload-numbered channel (contents.Header size properties) small = small
payload-numbered channel (contents.Body octets) small = small
payload-numbered channel contents.Unread small = small

payloads-numbered : (channel : ℕ) (payloads : List Payload) → channel < 2 ^ 16
    → AllNumbered (map (payload_frame channel) payloads)
payloads-numbered channel [] small = tt
payloads-numbered channel (payload ∷ payloads) small =
    (payload-numbered channel payload small, payloads-numbered channel payloads small)

open-numbered : (end : End) (free : Option ℕ) → channel_max end.agreed < 2 ^ 16
    → FindsLowest end.channels (channel_max end.agreed) 1 free → AllNumbered (opens_on free)
open-numbered end (Some channel) small found = let below = found.below_end in (omega arith, tt)
open-numbered end None small found = tt

-- a number that was not refused
good-number : (end : End) (channel : ℕ) → channel_max end.agreed < 2 ^ 16
    → ((channel == 0) || nat_lt (channel_max end.agreed) channel) ≡ false → channel < 2 ^ 16
good-number end channel small e =
    let within = ltb-false (channel_max end.agreed) channel (neither (channel == 0) _ e).1 in
    omega arith

asked-numbered : (end : End) (ask : Ask) → channel_max end.agreed < 2 ^ 16 → bad_channel end ask ≡ None
    → AllNumbered (frames_asked end ask)
asked-numbered end Open small e =
    open-numbered end (lowest_free end) small (finds-lowest end.channels (channel_max end.agreed) 1)
asked-numbered end (Send channel message) small e =
    payloads-numbered channel (message_payloads (frame_max end.agreed) message)
    (good-number end channel small (not-when _ Refusal.BadChannel e))
asked-numbered end (Flow channel active) small e = (good-number end channel small (not-when _ Refusal.BadChannel e), tt)
asked-numbered end (CloseChannel channel code text cause) small e =
    (good-number end channel small (not-when _ Refusal.BadChannel e), tt)
asked-numbered end (Close code text cause) small e = (omega arith, tt)
asked-numbered end (Blocked reason) small e = (omega arith, tt)
asked-numbered end Unblocked small e = (omega arith, tt)

numbered-fit : (frames : List Frame) → AllNumbered frames → AllWithin FRAME_MOST frames → AllFit frames
numbered-fit [] numbered within = tt
numbered-fit (frame ∷ frames) numbered within =
    let short = within.0 in
    (record { channel = numbered.0; size = omega arith }, numbered-fit frames numbered.1 within.1)

pub asked-fit : (role : Role) (end : End) (ask : Ask) (frames : List Frame) → AskedFit role end ask frames
asked-fit role end ask frames back agreed e =
    let put = accepted-none (refusal role end ask) (frames_asked end ask) frames e in
    subst AllFit put.1
    (numbered-fit (frames_asked end ask)
    (asked-numbered end ask agreed.channel_most (accepted role end ask put.0).numbered)
    (asked-within FRAME_MOST end ask (omega arith) agreed.frame_most back.text (accepted role end ask put.0).short))
