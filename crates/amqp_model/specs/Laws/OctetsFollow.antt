-- What the laws of octets and pieces promise in one (`OctetsFollow`, `CutChangesNothing`, `UnfinishedIsHeld`). Read
-- before: the statements themselves (`OctetLaws`, `Pieces`).
use Rattle.amqp_model.specs.History.Negotiation.{Config}
use Rattle.amqp_model.specs.Laws.OctetLaws.{EveryAcceptedAskFollows, EveryClosedStaysClosed, EveryCutGoesOn}
use Rattle.amqp_model.specs.Laws.OctetLaws.{EveryCutStops, EveryFailedEndWrites, EveryFailedStaysFailed}
use Rattle.amqp_model.specs.Laws.OctetLaws.{EveryFeedFollows, EveryFeedTakesAll, EveryFeedTakesWithin}
use Rattle.amqp_model.specs.Laws.OctetLaws.{EveryWriteFollows, FeedProgresses, NewStands, OctetFollows, RefusedStays}
use Rattle.amqp_model.specs.Stream.Pieces.{EveryAskHolds, EveryFeedHolds, NewHolds, StandsHolds, WroteHolds}
use Rattle.amqp_model.specs.Wire.Notes.{Role}

-- A new end stands for nothing put or taken, fed or written.
abbrev pub EveryNewStands : Type 0
EveryNewStands = (role : Role) (config : Config role) → NewStands role config

pub record CutChangesNothing : Type 0 where
  -- Where nothing comes of a first piece, the two come to what the second comes to after it.
  pub goes_on : EveryCutGoesOn
  -- Where something comes of a first piece, what stands after it changes nothing.
  pub stops : EveryCutStops
  -- A piece that has octets loses one, unless the end is closed or has failed.
  pub progress : FeedProgresses
  -- No more octets are taken than a piece has.
  pub within : EveryFeedTakesWithin
  -- Where nothing comes of a piece all of it is taken.
  pub all : EveryFeedTakesAll
  -- An end that is closed takes nothing, and stays as it is.
  pub closed : EveryClosedStaysClosed
  -- So does one that has failed.
  pub failed : EveryFailedStaysFailed

pub record OctetsFollow : Type 0 where
  -- A new end stands for nothing put or taken, fed or written.
  pub new : EveryNewStands
  -- An end that stands for a history goes on to, or fails with one, after an octet.
  pub octet : OctetFollows
  -- So it does after a piece.
  pub feed : EveryFeedFollows
  -- An ask that is accepted adds its frames to the history.
  pub accepted : EveryAcceptedAskFollows
  -- An ask that is refused leaves the end as it was.
  pub refused : RefusedStays
  -- A write adds the octets written, and leaves the history.
  pub wrote : EveryWriteFollows
  -- So it does at an end that has failed.
  pub wrote_failed : EveryFailedEndWrites

pub record UnfinishedIsHeld : Type 0 where
  -- A new end has no unfinished octets.
  pub new : NewHolds
  -- What is unfinished at an end that stands for a history is of the protocol header or of one frame.
  pub stands : StandsHolds
  -- So it is after a piece.
  pub feed : EveryFeedHolds
  -- So it is after an ask.
  pub ask : EveryAskHolds
  -- So it is after a write.
  pub wrote : WroteHolds
