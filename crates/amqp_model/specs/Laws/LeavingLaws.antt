-- What an end puts after a close of the connection, and in which order its octets hold its frames: the statements.
use Rattle.std.specs.Prelude.{Bool, ℕ, List, ◌++◌}
use Rattle.amqp_model.specs.Wire.Notes.{Role}
use Rattle.amqp_model.specs.Output.Outputs.{Output, output_octets}
use Rattle.amqp_model.specs.Output.Departures.{IsOutputOf, LeavesLast, PutAs}
use Rattle.amqp_model.specs.History.Histories.{History}
use Rattle.amqp_model.specs.History.Negotiation.{Config}
use Rattle.amqp_model.specs.End.ReadingBack.{WritesReadBack}
use Rattle.amqp_model.specs.End.LawfulHistories.{Lawful}
use Rattle.amqp_model.specs.Stream.Octets.{frames_put}

-- an end puts nothing but connection.close and close-ok after one of these
abbrev pub ClosesArePutLast : (role : Role) → Config role → (failed : Bool) → History → Type 0
ClosesArePutLast role config failed history =
    WritesReadBack role config → Lawful role config failed history → LeavesLast (frames_put history)

-- An end puts nothing but closes of the connection after a close of it.
abbrev pub AllClosesArePutLast : Type 0
AllClosesArePutLast =
    (role : Role) (config : Config role) (failed : Bool) (history : History)
    → ClosesArePutLast role config failed history

-- So its octets, written or not, are what it began with and then its frames, each channel's in order, and no frame of a
-- channel above 0 after a close.
abbrev pub OctetsArePutAs : (role : Role) → Config role → (failed : Bool) → History
    → (opening written : List ℕ) → Output → Type 0
OctetsArePutAs role config failed history opening written output =
    WritesReadBack role config → Lawful role config failed history
    → IsOutputOf opening (frames_put history) written output
    → PutAs opening (written ++ output_octets output) (frames_put history)

-- The octets of an end, written or not, are what it began with and then its frames, in order.
abbrev pub AllOctetsArePutAs : Type 0
AllOctetsArePutAs =
    (role : Role) (config : Config role) (failed : Bool) (history : History) (opening written : List ℕ)
    (output : Output)
    → OctetsArePutAs role config failed history opening written output
