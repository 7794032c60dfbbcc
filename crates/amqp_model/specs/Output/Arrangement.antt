-- In which order the frames leave that an end has put. The standard asks that no busy channel starve another, and
-- leaves it to a peer how it balances them (AMQP 0-9-1 specification, section 4.3, "Channel Multiplexing"). This
-- profile does it frame by frame.
--
-- Each channel has a queue of frames that were put and are not begun: no octet of them is written. LAST is the
-- channel above 0 whose frame was begun most recently, 0 at first. The next frame to leave is
-- 1. the oldest plain frame of channel 0: one that is neither connection.close nor connection.close-ok;
-- 2. else the oldest frame of the channel that is met first, counting up from LAST + 1 (after 65535 comes 1);
-- 3. else the oldest connection.close or close-ok.
use Rattle.std.specs.Prelude.{◌≡◌, ℕ, ◌+◌, ◌-◌, ◌^◌, ◌<◌, ◌≤◌, Bool, true, false, cond}
use Rattle.std.specs.Prelude.{not, ◌&&◌, ◌||◌, ◌==◌, nat_lt, List, [], ◌∷◌, ◌++◌, All, filter}
use Rattle.amqp_frame.specs.declared.frames.FrameKind.{FrameKind}
use Rattle.amqp_frame.specs.declared.frames.FrameKind.TheVariants.{Method}
use Rattle.amqp_frame.specs.Frame.{Frame}

abbrev pub is_method : FrameKind → Bool
is_method Method = true
is_method _ = false

-- A method's payload begins with its class and its number in the class, of two octets each (section 4.2.4):
-- here class 10, connection, with 50, close, or 51, close-ok (`amqp0-9-1.xml`).
abbrev pub names_leaving : (payload : List ℕ) → Bool
names_leaving (a ∷ b ∷ c ∷ d ∷ arguments) = ((a == 0) && (b == 10)) && ((c == 0) && ((d == 50) || (d == 51)))
names_leaving _ = false

-- a connection.close or a connection.close-ok
abbrev pub is_leaving : Frame → Bool
is_leaving f = (f.channel == 0) && (is_method f.kind && names_leaving f.payload)

-- the queues: plain frames of channel 0, each channel above 0, and the frames that leave the connection
pub data Queue : Type 0 where
  PlainFrames LeavingFrames : Queue
  FramesOn : (channel : ℕ) → Queue

abbrev pub is_in : Queue → Frame → Bool
is_in PlainFrames f = (f.channel == 0) && not (is_leaving f)
is_in (FramesOn channel) f = nat_lt 0 channel && (f.channel == channel)
is_in LeavingFrames f = is_leaving f

-- the frames of a queue, in order
abbrev pub queued : Queue → List Frame → List Frame
queued queue frames = filter (is_in queue) frames

-- the frames of a channel, in order
abbrev pub on : ℕ → List Frame → List Frame
on channel frames = filter (λ f. f.channel == channel) frames

-- how many channels are met counting up from `from` + 1, to the channel `to` and with it; after 65535 comes 1
abbrev pub steps : (from to : ℕ) → ℕ
steps from to = cond (nat_lt from to) (to - from) ((to + 65535) - from)

-- How long a frame waits for its turn, after LAST: a plain frame of channel 0 not at all, one of a channel above 0
-- until its channel is met, and one that leaves the connection longer than for any channel.
abbrev pub turn : (last : ℕ) → Frame → ℕ
turn last f = cond (is_leaving f) 65536 (cond (f.channel == 0) 0 (steps last f.channel))

-- LAST, once a frame is begun: channel 0 doesn't move it
abbrev pub last_after : (last : ℕ) → Frame → ℕ
last_after last f = cond (f.channel == 0) last f.channel

-- LAST, once these frames are begun in turn
abbrev pub last_after_all : (last : ℕ) → List Frame → ℕ
last_after_all last [] = last
last_after_all last (f ∷ later) = last_after_all (last_after last f) later

-- none of the others has its turn before the frame
abbrev pub HasFirstTurn : (last : ℕ) → Frame → (others : List Frame) → Type 0
HasFirstTurn last f others = All (λ other. turn last f ≤ turn last other) others

-- A row of frames that are to be begun after LAST: each of them is next, once those before it are begun.
abbrev pub IsArranged : (last : ℕ) → (row : List Frame) → Type 0
IsArranged last [] = Unit {0}
IsArranged last (f ∷ later) = HasFirstTurn last f later × IsArranged (last_after last f) later

-- The row is that of the frames that wait, given in the order in which they were put: each queue is in that order.
pub record Arranges (last : ℕ) (waiting row : List Frame) : Type 0 where
  pub arranged : IsArranged last row
  pub queues : (queue : Queue) → queued queue row ≡ queued queue waiting

-- a number of 16 bits, as a frame has it for its channel
abbrev pub IsChannel : ℕ → Type 0
IsChannel channel = channel < 2 ^ 16

abbrev pub HasChannel : Frame → Type 0
HasChannel f = IsChannel f.channel

-- a row that a frame is put into: it stands before the first that has its turn later
abbrev pub placed : (last : ℕ) → Frame → (row : List Frame) → List Frame
placed last f [] = f ∷ []
placed last f (g ∷ later) =
    cond (nat_lt (turn last f) (turn last g)) (f ∷ g ∷ later) (g ∷ placed (last_after last g) f later)

-- a row that frames are put into, one after another
abbrev pub placed_all : (last : ℕ) → (frames row : List Frame) → List Frame
placed_all last [] row = row
placed_all last (f ∷ later) row = placed_all last later (placed last f row)

-- the row of the frames that wait, given in the order in which they were put
abbrev pub arranged : (last : ℕ) → (waiting : List Frame) → List Frame
arranged last waiting = placed_all last waiting []

-- A row gained a frame: no other one moved, and none of its queue stands after it.
pub record Gains (f : Frame) (row more : List Frame) : Type 0 where
  pub prefix : List Frame
  pub back : List Frame
  pub row_is : row ≡ prefix ++ back
  pub more_is : more ≡ prefix ++ f ∷ back
  pub newest : (queue : Queue) → is_in queue f ≡ true → queued queue back ≡ []
