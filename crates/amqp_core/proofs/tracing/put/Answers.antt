-- The lists go on with the frames that are put.
use Rattle.std.proofs.Common.{false, map, refl}
use Rattle.std.proofs.Math.Logic.{∥∥₁_map}
use Rattle.amqp_model.specs.End.Asks.{frames_asked}
use Rattle.amqp_channel.specs.Roles.{role_of}
use Rattle.amqp_core.specs.Asks.View.{lent_view}
use Rattle.amqp_core.specs.End.View.{config_at, endpoint_of, role_played}
use Rattle.amqp_core.specs.Traced.Fields.{kept_of}
use Rattle.amqp_core.specs.Traced.Notes.{item_there, telling_view}
use Rattle.amqp_core.proofs.AskTrace.{accepted-grows, ask-kept, traced-asked}
use Rattle.amqp_core.proofs.AnswerLemmas.{in_ok}
use Rattle.amqp_core.proofs.tracing.put.Goals as goal

pub returns-in-Ok-clause-history : goal.returns-in-Ok-clause-history
returns-in-Ok-clause-history g c = λ history traced.
    let end = c.args.end.now in
    let ledger = c.args.ledger.now in
    let role = role_played end in
    let config = config_at end in
    let ask = lent_view c.args.ask in
    let old = kept_of end ledger in
    let new = kept_of c.ask_lent.new.self c.put.new.self in
    traced-asked role config ask c.args.place.channel old new history
    (record {
      puts = c.frames_are_noted.ensures.put;
      puts_tell = c.events_are_told.ensures.put role config;
      says = c.messages_are_said.ensures.ask role config;
      verdict = c.ask_is_of_history.ensures role config false;
    })
    (∥∥₁_map end.kept.writes (c.owed_read_back.ensures.all role config))
    (ask-kept (role_of ledger.side) role config ask ask c.args.place.channel c.args.place.frame_max old new (item_there c.args.item)
    c.requires.plays refl c.requires.size c.requires.item (in_ok c.ask_lent.result _ _ c.in-Ok.is c.ask_lent.ensures.asked.accepted) c.requires.place
    c.put.ensures.notes (λ i. map telling_view (c.put.ensures.told_same i).items) c.put.ensures.said
    (λ i. (c.put.ensures.fed_same i).items) (λ i. (c.put.ensures.written_same i).items))
    traced

pub returns-in-Ok-clause-grows : goal.returns-in-Ok-clause-grows
returns-in-Ok-clause-grows g c =
    let end = c.args.end.now in
    let ask = lent_view c.args.ask in
    accepted-grows (role_played end) (config_at end) ask c.args.place.channel c.args.place.frame_max (endpoint_of end) (endpoint_of c.ask_lent.new.self)
    (in_ok c.ask_lent.result _ _ c.in-Ok.is c.ask_lent.ensures.asked.accepted) c.requires.place c.requires.size c.requires.least
    (c.frames_are_within.ensures.asked (role_played end) (endpoint_of end).end ask (frames_asked (endpoint_of end).end ask))
