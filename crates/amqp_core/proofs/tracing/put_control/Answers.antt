-- The lists go on with the frame that is put.
use Rattle.std.proofs.Common.{map}
use Rattle.amqp_core.specs.Asks.ControlView.{control_view}
use Rattle.amqp_core.specs.End.View.{config_at, endpoint_of, role_played}
use Rattle.amqp_core.specs.Traced.Notes.{telling_view}
use Rattle.amqp_core.specs.Traced.Fields.{kept_of}
use Rattle.amqp_core.proofs.AnswerLemmas.{in_ok}
use Rattle.amqp_core.proofs.ControlTrace.{controlled-grows, traced-controlled}
use Rattle.amqp_core.proofs.tracing.put_control.Goals as goal

pub returns-in-Ok-clause-history : goal.returns-in-Ok-clause-history
returns-in-Ok-clause-history g c = λ history traced.
    let end = c.args.end.now in
    let role = role_played end in
    let config = config_at end in
    let old = kept_of end c.args.ledger.now in
    let new = kept_of c.control.new.self c.note_other.new.self in
    traced-controlled role config (control_view c.args.control) old new history
    (record {
      puts = c.frames_are_noted.ensures.put;
      puts_tell = c.events_are_told.ensures.put role config;
      one = c.controls_follow.ensures.one;
      says = c.controls_follow.ensures.says;
    })
    (record {
      accepts = in_ok c.control.result _ _ c.in-Ok.is c.control.ensures.accepted;
      notes = c.note_other.ensures.notes;
      told = λ i. map telling_view (c.note_other.ensures.told_same i).items;
      said = λ i. map telling_view (c.note_other.ensures.said_same i).items;
      fed = λ i. (c.note_other.ensures.fed_same i).items;
      written = λ i. (c.note_other.ensures.written_same i).items;
    })
    traced

pub returns-in-Ok-clause-grows : goal.returns-in-Ok-clause-grows
returns-in-Ok-clause-grows g c =
    let end = c.args.end.now in
    controlled-grows (role_played end) (config_at end) (control_view c.args.control) (endpoint_of end) (endpoint_of c.control.new.self) end.kept.writes
    c.controls_are_written.ensures.fit c.controls_follow.ensures.one (in_ok c.control.result _ _ c.in-Ok.is c.control.ensures.accepted)
