-- What callers see of an end that is kept with its history, and the histories that it is a trace of.
use Rattle.std.specs.Prelude.{◌≡◌, ◌≢◌, ◌⊎◌, Bool, true, false, ℕ, List, [], ◌++◌, take}
use Rattle.amqp_model.specs.End.Channels.{Failed}
use Rattle.amqp_model.specs.Stream.Endpoint.{Endpoint, Feeding}
use Rattle.amqp_model.specs.Stream.Grown.{Grows}
use Rattle.amqp_model.specs.History.Histories.{History}
use Rattle.amqp_model.specs.History.Negotiation.{Config, PROTOCOL_HEADER}
use Rattle.amqp_model.specs.Wire.Notes.{Role}
use Rattle.amqp_model.specs.Stream.Octets.{opening_written}
use Rattle.amqp_model.specs.Laws.OctetLaws.{EndpointStandsFor, HasFailed}
use Rattle.amqp_model.specs.Stream.RunningOut.{RanOut}
use Rattle.amqp_model.specs.Pair.Sent.{Telling, told, said}
use Rattle.amqp_model.specs.Output.Outputs.{Output}
use Rattle.amqp_model.specs.Stream.Traces.{Noted, trace}
use Rattle.amqp_core.specs.Faults.FaultShown.{EndsInFault}
use Rattle.amqp_core.specs.End.OutputOrder.{IsInOrder}

-- An end with what was noted, told and said, the octets that it was fed, and those of its output that were written.
pub record Kept : Type 0 where
  pub endpoint : Endpoint
  pub notes : List Noted
  pub told : List Telling
  pub said : List Telling
  pub fed : List ℕ
  pub written : List ℕ

-- the same end, once out of memory, with these octets unfinished: the end itself keeps none of them then
abbrev pub with_unfinished : Endpoint → (unfinished : List ℕ) → Endpoint
with_unfinished endpoint unfinished = record { end = endpoint.end; unfinished = unfinished; output = endpoint.output }

-- a server to which another protocol header came has put nothing, and writes that header
abbrev pub OpensWith : Role → History → (opening : List ℕ) → Type 0
OpensWith role history opening = (opening ≡ opening_written role) ⊎ ((opening ≡ PROTOCOL_HEADER) × (history ≡ []))

-- The end stands for the history; or it has failed with it, and the octets fed and the history end with the fault and
-- what it makes the end put; or it ran out of memory.
pub data Stands (role : Role) (config : Config role) (kept : Kept) (history : History) : Type 0 where
  stands : EndpointStandsFor role config kept.endpoint history kept.fed kept.written → Stands role config kept history
  failed :
      (limit : ℕ) (opening : List ℕ) → OpensWith role history opening
      → HasFailed role config limit opening history kept.fed kept.written kept.endpoint
      → EndsInFault role config limit history kept.fed → Stands role config kept history
  ran_out :
      (unfinished : List ℕ)
      → RanOut role config (with_unfinished kept.endpoint unfinished) history kept.fed kept.written
      → Stands role config kept history

-- It is a trace of the history: its notes are those of the history's frames, its items those that the history tells and
-- says, and the end is what the history, the octets fed and those written make of it.
pub record IsTraceOf (role : Role) (config : Config role) (kept : Kept) (history : History) : Type 0 where
  pub noted : kept.notes ≡ trace history
  pub told : kept.told ≡ told role config history
  pub said : kept.said ≡ said role history
  pub stands : Stands role config kept history

-- the octets written and the output are in order, after what the end began with
pub record IsWrittenInOrder (role : Role) (history : History) (written : List ℕ) (output : Output) : Type 0 where
  pub opening : List ℕ
  pub opens : OpensWith role history opening
  pub order : IsInOrder opening history written output

-- the lists are the same
pub record SameLists (one other : Kept) : Type 0 where
  pub notes : one.notes ≡ other.notes
  pub told : one.told ≡ other.told
  pub said : one.said ≡ other.said
  pub fed : one.fed ≡ other.fed
  pub written : one.written ≡ other.written

-- the history that follows, and of which the end is a trace then
pub record TraceGrows (role : Role) (config : Config role) (old : Endpoint) (piece : List ℕ) (fed : Feeding)
    (history : History) (new : Kept) : Type 0 where
  pub after : History
  pub grows : Grows role config old piece fed history after
  pub trace : IsTraceOf role config new after

-- After a piece: out of memory, the history that was; otherwise the one that follows.
abbrev pub TraceGoesOn : (role : Role) → Config role → (out_of_memory : Bool) → (old : Endpoint) → (piece : List ℕ)
    → Feeding → History → (new : Kept) → Type 0
TraceGoesOn role config true old piece fed history new = IsTraceOf role config new history
TraceGoesOn role config false old piece fed history new = TraceGrows role config old piece fed history new

-- the octets that were fed: out of memory none more
abbrev pub FedGrows : (out_of_memory : Bool) → (piece : List ℕ) → Feeding → (old new : Kept) → Type 0
FedGrows true piece fed old new = SameLists old new
FedGrows false piece fed old new = (new.fed ≡ old.fed ++ take fed.taken piece) × (new.written ≡ old.written)

-- an end that hasn't failed stands for each history that it is the trace of
abbrev pub StandsUnlessFailed : (role : Role) → Config role → Kept → History → Type 0
StandsUnlessFailed role config kept history =
    IsTraceOf role config kept history → kept.endpoint.end.phase ≢ Failed
    → EndpointStandsFor role config kept.endpoint history kept.fed kept.written

-- So it is of every end that is kept with a history.
abbrev pub UnfailedTracesStand : Type 0
UnfailedTracesStand =
    (role : Role) (config : Config role) (kept : Kept) (history : History)
    → StandsUnlessFailed role config kept history
