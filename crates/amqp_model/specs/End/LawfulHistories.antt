-- The histories that an end can have: each frame taken is followed by just the frames that its verdict puts, each
-- other frame put belongs to what its application asks or decides and the end accepts, whose frames stand together,
-- and after a fault nothing more comes.
use Rattle.std.specs.Prelude.{◌≡◌, Bool, true, false, List, [], ◌∷◌, Option, Some, None}
use Rattle.amqp_model.specs.Wire.Frame.{Frame}
use Rattle.amqp_model.specs.Wire.Notes.{Role, Server}
use Rattle.amqp_model.specs.History.Histories.{Put, Took, History}
use Rattle.amqp_model.specs.End.Channels.{End}
use Rattle.amqp_model.specs.History.Negotiation.{Config, start}
use Rattle.amqp_model.specs.End.StateFromHistory.{end_from}
use Rattle.amqp_model.specs.End.Closes.{method_frame}
use Rattle.amqp_model.specs.End.Asks.{Ask, is_made, Puts, ask_verdict}
use Rattle.amqp_model.specs.End.EndVerdict.{end_verdict, end_puts, too_large_puts, goes_on, takes_frames, takes_octets}
use Rattle.amqp_model.specs.End.EndVerdict.{CanTake}
use Rattle.amqp_model.specs.End.Controls.{Control, control_verdict}
use Rattle.amqp_model.specs.End.ReadingBack.{AskReadsBack, ControlReadsBack}

-- frames that an end put, the oldest first, after a history
abbrev pub then_put : List Frame → History → History
then_put [] history = history
then_put (frame ∷ later) history = then_put later (Put frame ∷ history)

-- the history with a frame taken, and the frames that its verdict puts
abbrev pub then_taken : {role : Role} → Config role → End → Frame → History → History
then_taken config end frame history = then_put (end_puts config end frame) (Took frame ∷ history)

-- the end that has not failed and has this history
abbrev pub end_of : {role : Role} → Config role → History → End
end_of {role} config history = end_from role config false history

-- One step of an end that has not failed: its history before, the frame that it takes if it takes one, whether it has
-- failed then, and its history after.
pub data Goes :
    (role : Role) → Config role → (before : History) → (taken : Option Frame)
    → (failed : Bool) → (after : History) → Type 0 where
  -- a server took the whole protocol header, and puts start
  greets : {config : Config Server} → Goes Server config [] None false (Put (method_frame 0 (start config)) ∷ [])
  -- it takes a frame, and goes on
  takes :
      {role : Role} {config : Config role} {before : History} (frame : Frame) → CanTake (end_of config before) frame
      → goes_on (end_verdict config (end_of config before) frame) ≡ true
      → Goes role config before (Some frame) false (then_taken config (end_of config before) frame before)
  -- it takes a frame, and finds fault with it
  faults :
      {role : Role} {config : Config role} {before : History} (frame : Frame) → CanTake (end_of config before) frame
      → goes_on (end_verdict config (end_of config before) frame) ≡ false
      → Goes role config before (Some frame) true (then_taken config (end_of config before) frame before)
  -- octets show a frame above the limit: it is not taken, and the connection is closed
  meets_too_large :
      {role : Role} {config : Config role} {before : History} → takes_frames (end_of config before).phase ≡ true
      → Goes role config before None true (then_put (too_large_puts config (end_of config before)) before)
  -- octets that can't be answered, or out of memory: nothing is put
  fails :
      {role : Role} {config : Config role} {before : History} → takes_octets (end_of config before).phase ≡ true
      → Goes role config before None true before
  -- an application asks what can be made and written, and the end accepts
  asks :
      {role : Role} {config : Config role} {before : History} (ask : Ask) (frames : List Frame) → is_made ask ≡ true
      → AskReadsBack ask
      → ask_verdict role (end_of config before) ask ≡ Puts frames
      → Goes role config before None false (then_put frames before)
  -- it beats, or decides in the handshake, what can be written, and the end accepts
  controls :
      {role : Role} {config : Config role} {before : History} (control : Control) (frames : List Frame)
      → ControlReadsBack role config control
      → control_verdict role config (end_of config before) control ≡ Puts frames
      → Goes role config before None false (then_put frames before)

-- A lawful history of an end, and whether it has failed: any steps, one after another.
pub data Lawful (role : Role) (config : Config role) : (failed : Bool) → History → Type 0 where
  begun : Lawful role config false []
  goes :
      {before after : History} {taken : Option Frame} {failed : Bool} → Lawful role config false before
      → Goes role config before taken failed after
      → Lawful role config failed after
