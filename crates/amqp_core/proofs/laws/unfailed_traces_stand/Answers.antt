-- In the other two cases it has failed.
use Rattle.std.proofs.Common.{◌≢◌, sym}
use Rattle.amqp_model.specs.History.Histories.{History}
use Rattle.amqp_model.specs.History.Negotiation.{Config}
use Rattle.amqp_model.specs.Wire.Notes.{Role}
use Rattle.amqp_core.specs.Traced.Tracing as tracing
use Rattle.amqp_core.specs.Traced.Tracing.{Kept, Stands}
use Rattle.amqp_model.specs.End.Channels.{Failed}
use Rattle.amqp_model.specs.Laws.OctetLaws.{EndpointStandsFor}
use Rattle.amqp_core.proofs.laws.unfailed_traces_stand.Goals as goal

by_standing : (role : Role) (config : Config role) (kept : Kept) (history : History) → Stands role config kept history → kept.endpoint.end.phase ≢ Failed → EndpointStandsFor role config kept.endpoint history kept.fed kept.written
by_standing role config kept history (tracing.stands stands) running = stands
by_standing role config kept history (tracing.failed limit opening opens failed shown) running = absurd (running (sym failed.stands.phase))
by_standing role config kept history (tracing.ran_out unfinished out) running = absurd (running out.failed)

pub returns : goal.returns
returns c = λ role config kept history traced running. by_standing role config kept history traced.stands running
