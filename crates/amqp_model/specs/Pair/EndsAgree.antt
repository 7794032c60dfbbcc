-- What two ends of a connection make of each other's frames: the lives that they count, and what a pause holds back.
-- These are the laws of the lives of a channel, said of the histories of two ends. `amqp0-9-1.xml`, channel.open and
-- channel.flow.
use Rattle.std.specs.Prelude.{◌≡◌, true, ℕ, suc, ◌∷◌, ◌++◌}
use Rattle.amqp_model.specs.Wire.Frame.{Frame}
use Rattle.amqp_model.specs.Wire.Notes.{Role, Client, Server, is_content}
use Rattle.amqp_model.specs.Pair.Sentences.{PausesOther}
use Rattle.amqp_model.specs.Laws.LifeLaws.{SidesAgree}
use Rattle.amqp_model.specs.Wire.Readings.{reading, kind_of}
use Rattle.amqp_model.specs.History.Histories.{Took, History}
use Rattle.amqp_model.specs.History.Negotiation.{Config}
use Rattle.amqp_model.specs.Laws.EndLaws.{notes_on}
use Rattle.amqp_model.specs.Pair.Agreement.{PairWrites}

-- on each channel the i-th frame that an end took has the life of the i-th frame that the other put
abbrev pub LivesAgree : Role → Config Client → Config Server → (mine theirs : History) → (n : ℕ) → Type 0
LivesAgree role client_config server_config mine theirs n =
    PairWrites role client_config server_config mine theirs
    → SidesAgree role (notes_on (suc n) mine) (notes_on (suc n) theirs)

-- The i-th frame that an end took on a channel has the life of the i-th frame that the other put.
abbrev pub AllLivesAgree : Type 0
AllLivesAgree =
    (role : Role) (client_config : Config Client) (server_config : Config Server) (mine theirs : History) (n : ℕ)
    → LivesAgree role client_config server_config mine theirs n

-- An end takes no content but get-ok on a channel where it has paused the other: where it took flow-ok with active 0,
-- after which came no opening of the channel and no flow with active 1 put.
abbrev pub NoContentFromPaused : Role → Config Client → Config Server
    → (mine theirs : History) → (n : ℕ) → Type 0
NoContentFromPaused role client_config server_config mine theirs n =
    PairWrites role client_config server_config mine theirs
    → (later before : History) (frame : Frame) → mine ≡ later ++ Took frame ∷ before → frame.channel ≡ suc n
    → is_content (kind_of (reading frame)) ≡ true
    → PausesOther role (notes_on (suc n) before) → ⊥

-- No content but get-ok comes to an end on a channel where it has paused the other.
abbrev pub NoContentFromAnyPaused : Type 0
NoContentFromAnyPaused =
    (role : Role) (client_config : Config Client) (server_config : Config Server) (mine theirs : History) (n : ℕ)
    → NoContentFromPaused role client_config server_config mine theirs n
