-- Whole messages: AMQP 0-9-1 specification, section 4.2.6, "Content Framing". Payloads stand in their order here, the
-- oldest first.
use Rattle.std.specs.Prelude.{◌≡◌, Bool, true, ℕ, suc, List, [], ◌∷◌, ◌++◌, map, reverse}
use Rattle.amqp_model.specs.Wire.Frame.{Frame}
use Rattle.amqp_model.specs.Wire.Notes.{Role, Client, Server, is_message}
use Rattle.amqp_model.specs.Pair.Carried.{sent}
use Rattle.amqp_model.specs.Wire.Contents.{Payload}
use Rattle.amqp_model.specs.Wire.Gathering.{Gathering, Nothing, Step, Keeps, Completes, Breaks, step, remains}
use Rattle.amqp_model.specs.Wire.Gathering.{gathering}
use Rattle.amqp_model.specs.Wire.Readings.{reading, kind_of}
use Rattle.amqp_model.specs.History.Histories.{History}
use Rattle.amqp_model.specs.End.Channels.{Life, Open, Running}
use Rattle.amqp_model.specs.History.Negotiation.{Config}
use Rattle.amqp_model.specs.End.ReadingBack.{WritesReadBack}
use Rattle.amqp_model.specs.End.LawfulHistories.{end_of, Lawful}
use Rattle.amqp_model.specs.Pair.Pairs.{ComesNext, PairAt, config_of}
use Rattle.amqp_model.specs.Laws.EndLaws.{notes_on}
use Rattle.amqp_model.specs.Pair.Sent.{payload_in}

-- the payload can come next
abbrev pub FitsNext : Step → Type 0
FitsNext (Keeps kept) = Unit {0}
FitsNext (Completes content) = Unit {0}
FitsNext (Breaks misfit) = ⊥

-- where such is kept, each of these payloads can come next in turn, and nothing is under way after them
abbrev pub FitAfter : Gathering → List Payload → Type 0
FitAfter kept [] = kept ≡ Nothing
FitAfter kept (payload ∷ later) = FitsNext (step kept payload) × FitAfter (remains (step kept payload) payload) later

-- the payloads are whole messages, one after another
abbrev pub AreWholeMessages : List Payload → Type 0
AreWholeMessages payloads = FitAfter Nothing payloads

-- where payloads are whole messages, each can come next after those before it
abbrev pub EachFitsNext : Type 0
EachFitsNext =
    (prefix : List Payload) (payload : Payload) (later : List Payload)
    → AreWholeMessages (prefix ++ payload ∷ later) → FitsNext (step (gathering (reverse prefix)) payload)

-- what an end puts on a channel in a life is whole messages
abbrev pub PutsWholeMessages : Type 0
PutsWholeMessages =
    (role : Role) (config : Config role) (failed : Bool) (history : History) (n life : ℕ)
    → WritesReadBack role config → Lawful role config failed history
    → AreWholeMessages (map payload_in (sent role life (notes_on (suc n) history)))

-- a message that comes next to a Running end, on a channel that it has Open, fits after the content that it keeps
abbrev pub FitsWhatIsKept : Type 0
FitsWhatIsKept =
    (role : Role) (client_config : Config Client) (server_config : Config Server) (mine theirs : History) (n : ℕ)
    (frame : Frame)
    → PairAt role client_config server_config mine theirs
    → (end_of (config_of role client_config server_config) mine).phase ≡ Running
    → ComesNext theirs mine frame → frame.channel ≡ suc n → is_message (kind_of (reading frame)) ≡ true
    → (life : Life) → (end_of (config_of role client_config server_config) mine).channels (suc n) ≡ Open life
    → FitsNext (step life.content (payload_in frame))
