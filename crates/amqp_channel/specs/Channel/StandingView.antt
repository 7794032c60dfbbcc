-- What stands on a channel beside the content under way, in the words of the model: the pause, the flow that is
-- unanswered, the requests without a reply (`amqp0-9-1.xml`, channel.flow). Read before: the model's `End.Channels`.
use Rattle.std.specs.Prelude.{Bool, List, []}
use Rattle.amqp_model.specs.Wire.Methods.{MethodKind}
use Rattle.amqp_channel.specs.declared.standing.Standing.{Standing}
use Rattle.amqp_channel.specs.declared.standing.Standing.TheVariants.{Quiet, Asked}

-- the other end has asked for no more contents
abbrev pub paused_in : Standing → Bool
paused_in (Quiet paused awaits) = paused
paused_in (Asked paused awaits requests) = paused

-- this end has asked for contents, or for none, and awaits flow-ok
abbrev pub awaits_in : Standing → Bool
awaits_in (Quiet paused awaits) = awaits
awaits_in (Asked paused awaits requests) = awaits

-- the requests without a reply, the oldest first
abbrev pub requests_in : Standing → List MethodKind
requests_in (Quiet paused awaits) = []
requests_in (Asked paused awaits requests) = requests.value.items
