-- What the laws of contents promise in one: of the items that payloads encode (`ItemsFollow`), and of contents that are
-- lent (`ContentsAreStreamed`). Read before: the statements themselves (`ContentLaws`, `StreamingLaws`).
use Rattle.amqp_model.specs.Laws.ContentLaws.{ContentEncodedAfter, EncodedAfresh, ItemsOfPrefix, MethodStandsAlone}
use Rattle.amqp_model.specs.Laws.ContentLaws.{OneMoreEncoded, UnfinishedEncodesNothing}
use Rattle.amqp_model.specs.Laws.StreamingLaws.{CameIsKept, EachIsGathered, GathersAlike, RemainsAlike, StepsAlike}

pub record ItemsFollow : Type 0 where
  -- The items of a prefix are a prefix of the items.
  pub prefix : ItemsOfPrefix
  -- One more payload adds the item that it ends, if it ends one.
  pub one_more : OneMoreEncoded
  -- A content's payloads add that content.
  pub content : ContentEncodedAfter
  -- What is under way has added nothing.
  pub unfinished : UnfinishedEncodesNothing
  -- Where nothing is under way, the items of what comes after are added.
  pub later : EncodedAfresh
  -- A method that carries no content stands by itself.
  pub method : MethodStandsAlone

pub record ContentsAreStreamed : Type 0 where
  -- A payload does the same to what is kept of a content, whether its octets are gathered or lent.
  pub step : StepsAlike
  -- What remains of the content after it is the same.
  pub remains : RemainsAlike
  -- After any payloads as much is known of the content under way.
  pub taken : GathersAlike
  -- As many octets have come as are gathered.
  pub came : CameIsKept
  -- For whatever is known of a content under way there is a content of which exactly that is known.
  pub each : EachIsGathered
