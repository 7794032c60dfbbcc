-- The frames that wait, each in octets of its own, in a queue for each channel.
use Rattle.std.specs.Prelude.{◌≡◌, ℕ, suc, ◌+◌, ◌^◌, ◌<◌, ◌≤◌, Bool, true, false, cond, not, ◌&&◌, ◌==◌, ◌⊎◌, List, [], ◌∷◌, ◌++◌, length, map, All, slice_index_or, slice_set, Option, IsSome, option_to_list}
use Rattle.std.specs.List.{AllWithin}
use Rattle.std.specs.VecDeque.{deque_len, deque_capacity}
use Rattle.amqp_frame.specs.Frame.{Frame, octets}
use Rattle.amqp_model.specs.Output.Arrangement.{arranged}
use Rattle.amqp_model.specs.Output.ArrangementRules.{ComesNoLater}
use Rattle.amqp_outbox.specs.OutboxSlots.{slot_of, frame_in}
use Rattle.amqp_outbox.specs.declared.slots.Slot.{Slot}
use Rattle.amqp_outbox.specs.declared.queues.Chunk.{Chunk}
use Rattle.amqp_outbox.specs.declared.queues.Queue.{Queue}
use Rattle.amqp_outbox.specs.declared.queues.Queues.{Queues}

-- the frame that a chunk holds
abbrev pub frame_of : Chunk → Frame
frame_of chunk = frame_in chunk.slot chunk.octets.items

abbrev pub frames_of : List Chunk → List Frame
frames_of chunks = map frame_of chunks

-- the octets are those of the frame, and the slot is its slot
pub record IsChunk (chunk : Chunk) : Type 0 where
  pub encoded : octets (frame_of chunk) ≡ chunk.octets.items
  pub described : slot_of (frame_of chunk) ≡ chunk.slot
  pub channel : chunk.slot.channel < 2 ^ 16

-- which frames wait in which queue
abbrev pub is_plain : Slot → Bool
is_plain slot = (slot.channel == 0) && not slot.leaving

abbrev pub is_on : (channel : ℕ) → Slot → Bool
is_on channel slot = slot.channel == channel

abbrev pub IsPlain : Chunk → Type 0
IsPlain chunk = IsChunk chunk × (chunk.slot.channel ≡ 0) × (chunk.slot.leaving ≡ false)

abbrev pub IsLeaving : Chunk → Type 0
IsLeaving chunk = IsChunk chunk × (chunk.slot.leaving ≡ true)

abbrev pub IsOn : (channel : ℕ) → Chunk → Type 0
IsOn channel chunk = IsChunk chunk × (chunk.slot.channel ≡ channel)

pub record IsQueue (queue : Queue) : Type 0 where
  pub above : 0 < queue.channel
  pub channel : queue.channel < 2 ^ 16
  pub chunks : All (IsOn queue.channel) queue.frames.items

-- each queue is of a lower channel than those after it
abbrev pub Ascends : List Queue → Type 0
Ascends [] = Unit {0}
Ascends (queue ∷ later) = All (λ (other : Queue). queue.channel < other.channel) later × Ascends later

pub record AreSound (queues : Queues) : Type 0 where
  pub plain : All IsPlain queues.plain.items
  pub channels : All IsQueue queues.channels.items
  pub ascends : Ascends queues.channels.items
  pub leaving : All IsLeaving queues.leaving.items

-- the frames of the channels above 0
abbrev pub on_channels : List Queue → List Frame
on_channels [] = []
on_channels (queue ∷ later) = frames_of queue.frames.items ++ on_channels later

-- the row of the frames that wait
abbrev pub row_of_queues : (last : ℕ) → Queues → List Frame
row_of_queues last queues = frames_of queues.plain.items ++ (arranged last (on_channels queues.channels.items) ++ frames_of queues.leaving.items)

-- how many of the chunks wait in such a queue
abbrev pub count : (Slot → Bool) → List Chunk → ℕ
count is [] = 0
count is (chunk ∷ later) = cond (is chunk.slot) (suc (count is later)) (count is later)

-- a queue of the channel is there
abbrev pub HasQueue : (channel : ℕ) → List Queue → Type 0
HasQueue channel [] = channel ≡ 0
HasQueue channel (queue ∷ later) = (queue.channel ≡ channel) ⊎ HasQueue channel later

-- the queues of the channels have room for those of the chunks that go there
abbrev pub RoomOn : List Queue → (staged : List Chunk) → Type 0
RoomOn queues staged = All (λ (queue : Queue). deque_len queue.frames + count (is_on queue.channel) staged ≤ deque_capacity queue.frames) queues

-- there is a queue for each of the chunks
abbrev pub AreThere : List Queue → (staged : List Chunk) → Type 0
AreThere queues staged = All (λ (chunk : Chunk). HasQueue chunk.slot.channel queues) staged

abbrev pub is_leaving_slot : Slot → Bool
is_leaving_slot slot = slot.leaving

-- these chunks can be put without memory
pub record HaveRoom (queues : Queues) (staged : List Chunk) : Type 0 where
  pub plain : deque_len queues.plain + count is_plain staged ≤ deque_capacity queues.plain
  pub channels : RoomOn queues.channels.items staged
  pub there : AreThere queues.channels.items staged
  pub leaving : deque_len queues.leaving + count is_leaving_slot staged ≤ deque_capacity queues.leaving

-- of the channels up to a given one, and of those after it
abbrev pub IsUpTo : (channel : ℕ) → Queue → Type 0
IsUpTo channel queue = queue.channel ≤ channel

abbrev pub IsAfter : (channel : ℕ) → Queue → Type 0
IsAfter channel queue = channel < queue.channel

abbrev pub IsEmpty : Queue → Type 0
IsEmpty queue = deque_len queue.frames ≡ 0

abbrev pub Waits : Queue → Type 0
Waits queue = 0 < deque_len queue.frames

-- none of these queues has a frame
abbrev pub AllEmpty : (from end : ℕ) → List Queue → Type 0
AllEmpty from end queues = AllWithin IsEmpty queues from end

-- the first of some queues of which a frame waits
pub record IsFirstWaiting (from end at : ℕ) (queues : List Queue) : Type 0 where
  pub before : from ≤ at
  pub within : at < end
  pub empty : AllEmpty from at queues
  pub waits : (queue : Queue) → Waits (slice_index_or queues at queue)

-- The turn of a queue comes no later than that of another, or no frame waits in that: its channel is the lowest above LAST, or
-- else, where none is above, the lowest.
abbrev pub IsNoLater : (last channel : ℕ) → Queue → Type 0
IsNoLater last channel queue = IsEmpty queue ⊎ ComesNoLater last channel queue.channel

-- the turn of the queue at a place is next
pub record IsTurnOf (last at : ℕ) (queues : List Queue) : Type 0 where
  pub within : at < length queues
  pub waits : (queue : Queue) → Waits (slice_index_or queues at queue)
  pub first : (queue : Queue) → All (IsNoLater last (slice_index_or queues at queue).channel) queues

abbrev pub IsQueueOf : (channel at : ℕ) → List Queue → Type 0
IsQueueOf channel at queues = (at < length queues) × ((queue : Queue) → (slice_index_or queues at queue).channel ≡ channel)

-- the oldest chunk of a queue is taken, if it has any
pub record QueueGives (at : ℕ) (result : Option Chunk) (olds news : List Queue) : Type 0 where
  pub new : Queue
  pub news_are : news ≡ slice_set olds at new
  pub channel : new.channel ≡ (slice_index_or olds at new).channel
  pub chunks : (slice_index_or olds at new).frames.items ≡ option_to_list result ++ new.frames.items
  pub count : deque_len new.frames + length (option_to_list result) ≡ deque_len (slice_index_or olds at new).frames
  pub some : Waits (slice_index_or olds at new) → IsSome result
  pub room : deque_capacity new.frames ≡ deque_capacity (slice_index_or olds at new).frames

-- a chunk is added to the queue of its channel
pub record QueueTakes (chunk : Chunk) (olds news : List Queue) : Type 0 where
  pub at : ℕ
  pub within : at < length olds
  pub new : Queue
  pub news_are : news ≡ slice_set olds at new
  pub channel : new.channel ≡ (slice_index_or olds at new).channel
  pub own : new.channel ≡ chunk.slot.channel
  pub chunks : new.frames.items ≡ (slice_index_or olds at new).frames.items ++ chunk ∷ []
  pub count : deque_len new.frames ≡ deque_len (slice_index_or olds at new).frames + 1
  pub room : deque_capacity new.frames ≡ deque_capacity (slice_index_or olds at new).frames

-- The queues keep their frames: one that is empty may have come to them, or room for frames.
pub record QueuesStay (olds news : List Queue) : Type 0 where
  pub frames : on_channels news ≡ on_channels olds
  pub ascends : Ascends news
  pub sound : All IsQueue olds → All IsQueue news

abbrev pub RoomsKept : (olds news : List Queue) → Type 0
RoomsKept olds news = (staged : List Chunk) → RoomOn olds staged → AreThere olds staged → RoomOn news staged × AreThere news staged

-- with room for one chunk more of the channel, where fewer than so many are staged
abbrev pub RoomsMade : (channel more : ℕ) (olds news : List Queue) → Type 0
RoomsMade channel more olds news =
    (staged : List Chunk) (chunk : Chunk) → chunk.slot.channel ≡ channel → chunk.slot.leaving ≡ false → length staged < more
    → RoomOn olds staged → AreThere olds staged → RoomOn news (staged ++ chunk ∷ []) × AreThere news (staged ++ chunk ∷ [])

abbrev pub HasRoomOn : (channel : ℕ) → List Queue → Type 0
HasRoomOn channel queues = All (λ (queue : Queue). queue.channel ≡ channel → deque_len queue.frames < deque_capacity queue.frames) queues
