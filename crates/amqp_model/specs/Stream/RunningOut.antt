-- An end that ran out of memory. It fails, and what it was doing is not done: its history, the octets fed that are no
-- whole frame and its output are as they were. So of an end kept with its history there are three cases: it stands for
-- its history, it failed by octets that show why, or it ran out of memory.
use Rattle.std.specs.Prelude.{◌≡◌, ◌≤◌, true, ℕ, List, ◌++◌, length, take}
use Rattle.amqp_model.specs.Wire.Notes.{Role}
use Rattle.amqp_model.specs.History.Histories.{History}
use Rattle.amqp_model.specs.End.Channels.{Failed}
use Rattle.amqp_model.specs.History.Negotiation.{Config, frame_limit}
use Rattle.amqp_model.specs.End.EndVerdict.{takes_octets}
use Rattle.amqp_model.specs.Output.Outputs.{output_octets}
use Rattle.amqp_model.specs.Output.Departures.{IsOutputOf}
use Rattle.amqp_model.specs.End.LawfulHistories.{Lawful}
use Rattle.amqp_model.specs.End.Machine.{as_failed, StandsFor}
use Rattle.amqp_model.specs.Stream.Octets.{frames_put, opening_written, FedAs}
use Rattle.amqp_model.specs.Stream.Endpoint.{Endpoint, after_feed, after_wrote, Found}
use Rattle.amqp_model.specs.End.Events.{AlreadyFailed}
use Rattle.amqp_model.specs.Laws.OctetLaws.{EndpointStandsFor}

-- the history is lawful, and nothing else stands apart from it
pub record RanOut (role : Role) (config : Config role) (endpoint : Endpoint) (history : History)
    (fed written : List ℕ) : Type 0 where
  pub failed : endpoint.end.phase ≡ Failed
  pub lawful : Lawful role config true history
  pub stands : StandsFor role config true endpoint.end history
  pub read : FedAs role (frame_limit endpoint.end.agreed) history fed endpoint.unfinished
  pub out : IsOutputOf (opening_written role) (frames_put history) written endpoint.output

-- what is left of an end that runs out of memory
abbrev pub out_of_memory : Endpoint → Endpoint
out_of_memory endpoint =
    record { end = as_failed endpoint.end; unfinished = endpoint.unfinished; output = endpoint.output }

-- it stood for its history, and takes octets
abbrev pub RunsOut : (role : Role) → Config role → Endpoint → History → (fed written : List ℕ) → Type 0
RunsOut role config endpoint history fed written =
    EndpointStandsFor role config endpoint history fed written → takes_octets endpoint.end.phase ≡ true
    → RanOut role config (out_of_memory endpoint) history fed written

-- An end that stands for a history and runs out of memory has run out with that history.
abbrev pub EveryEndRunsOut : Type 0
EveryEndRunsOut =
    (role : Role) (config : Config role) (endpoint : Endpoint) (history : History) (fed written : List ℕ)
    → RunsOut role config endpoint history fed written

-- it still writes what it has put
abbrev pub RanOutWrites : (role : Role) → Config role → Endpoint → History
    → (fed written : List ℕ) → (n : ℕ) → Type 0
RanOutWrites role config endpoint history fed written n =
    RanOut role config endpoint history fed written → n ≤ length (output_octets endpoint.output)
    → RanOut role config (after_wrote n endpoint) history fed (written ++ take n (output_octets endpoint.output))

-- An end that ran out of memory writes on what it has put.
abbrev pub EveryRanOutEndWrites : Type 0
EveryRanOutEndWrites =
    (role : Role) (config : Config role) (endpoint : Endpoint) (history : History) (fed written : List ℕ) (n : ℕ)
    → RanOutWrites role config endpoint history fed written n

-- An end that ran out of memory takes no octet more.
abbrev pub RanOutStays : Type 0
RanOutStays =
    (role : Role) (config : Config role) (endpoint : Endpoint) (history : History) (fed written piece : List ℕ)
    → RanOut role config endpoint history fed written
    → after_feed role config endpoint piece ≡ record {
      endpoint = endpoint;
      taken = 0;
      outcome = Found AlreadyFailed;
    }
