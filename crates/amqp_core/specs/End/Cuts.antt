-- How octets are cut into pieces changes nothing. AMQP 0-9-1 specification, section 2.3.4, "Delimiting Frames".
use Rattle.std.specs.Prelude.{◌≡◌, ℕ, List, [], ◌∷◌, drop, Option}
use Rattle.std.specs.List.{concat}
use Rattle.amqp_model.specs.Stream.Endpoint.{Endpoint, Outcome, Unfinished, Finished, Found, after_feed}
use Rattle.amqp_model.specs.End.Events.{Event, Fault}
use Rattle.amqp_model.specs.History.Negotiation.{Config}
use Rattle.amqp_model.specs.Wire.Notes.{Role}

-- An end is fed pieces, and what was not taken of a piece before the next one. The reports are what came of them, in
-- order: of each frame, and of the protocol header, an event or none; and last the fault, where one is found.
pub data IsFedPieces (role : Role) (config : Config role) :
    (endpoint : Endpoint) → (pieces : List (List ℕ)) → (reports : List Outcome) → (new : Endpoint) → Type 0 where
  ends : {endpoint : Endpoint} → IsFedPieces role config endpoint [] [] endpoint
  -- a piece without octets is not fed
  passes :
      {endpoint new : Endpoint} {pieces : List (List ℕ)} {reports : List Outcome}
      → IsFedPieces role config endpoint pieces reports new
      → IsFedPieces role config endpoint ([] ∷ pieces) reports new
  -- nothing comes of a piece
  waits :
      {endpoint new : Endpoint} {pieces : List (List ℕ)} {reports : List Outcome} (octet : ℕ) (later : List ℕ)
      → (after_feed role config endpoint (octet ∷ later)).outcome ≡ Unfinished
      → IsFedPieces role config (after_feed role config endpoint (octet ∷ later)).endpoint pieces reports new
      → IsFedPieces role config endpoint ((octet ∷ later) ∷ pieces) reports new
  -- something is whole, and the rest of the piece is fed next
  finishes :
      {endpoint new : Endpoint} {pieces : List (List ℕ)} {reports : List Outcome} (octet : ℕ) (later : List ℕ)
      (event : Option Event)
      → (after_feed role config endpoint (octet ∷ later)).outcome ≡ Finished event
      → IsFedPieces role config (after_feed role config endpoint (octet ∷ later)).endpoint
      (drop (after_feed role config endpoint (octet ∷ later)).taken (octet ∷ later) ∷ pieces) reports new
      → IsFedPieces role config endpoint ((octet ∷ later) ∷ pieces) (Finished event ∷ reports) new
  -- a fault is found, and nothing more is fed
  finds :
      {endpoint : Endpoint} {pieces : List (List ℕ)} (octet : ℕ) (later : List ℕ) (fault : Fault)
      → (after_feed role config endpoint (octet ∷ later)).outcome ≡ Found fault
      → IsFedPieces role config endpoint ((octet ∷ later) ∷ pieces) (Found fault ∷ [])
      (after_feed role config endpoint (octet ∷ later)).endpoint

-- the same is reported, and the same is left
pub record SameFed (reports others : List Outcome) (new next : Endpoint) : Type 0 where
  pub reports_are : reports ≡ others
  pub left : new ≡ next

-- The same octets, in any pieces: the same comes of them, so the end stands for the same histories then.
abbrev pub CutsChangeNothing : Type 0
CutsChangeNothing =
    (role : Role) (config : Config role) (endpoint : Endpoint) (pieces others : List (List ℕ))
    (reports told : List Outcome) (new next : Endpoint) → concat pieces ≡ concat others
    → IsFedPieces role config endpoint pieces reports new → IsFedPieces role config endpoint others told next
    → SameFed reports told new next
