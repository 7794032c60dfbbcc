use Rattle.std.proofs.Common.{◌≡◌, [], map, sym, ap, ap₂, ◌∙◌, subst}
use Rattle.amqp_model.specs.Output.Arrangement.{IsArranged}
use Rattle.amqp_model.specs.Output.Outputs.{output_octets}
use Rattle.amqp_outbox.specs.OutboxFields.{outgoing_of, row_of, row_slots}
use Rattle.amqp_outbox.specs.OutboxLaps.{laps_of}
use Rattle.amqp_outbox.specs.OutboxSlots.{slot_of}
use Rattle.amqp_outbox.specs.OutboxView.{Outgoing, with_output}
use Rattle.amqp_outbox.proofs.LentLemmas.{nothing-ahead, nothing-waits, passed, put_alone}
use Rattle.amqp_outbox.proofs.outbox.Outbox.pass.Goals as goal

pub invariant_of-self : goal.invariant_of-self
invariant_of-self c =
    let x = c.self.inside in
    let s = c.self.invariant in
    let none : row_of x ≡ [] = nothing-waits (outgoing_of x).output (ap (λ (v : Outgoing). output_octets v.output) c.self.view_is ∙ c.requires.nothing) in
    let no_slots : row_slots x ≡ [] = sym s.row_described ∙ ap (map slot_of) none in
    record {
      written = s.written;
      begun = s.begun;
      arranged = s.arranged;
      aside = record { row = s.aside.row; room = s.aside.room };
      slots_begun = s.slots_begun;
      slots_arranged = s.slots_arranged;
      row_encoded = s.row_encoded;
      row_described = s.row_described;
      staged_encoded = s.staged_encoded;
      staged_described = s.staged_described;
      in_turn = subst (λ row. IsArranged c.args.channel row) (sym none) (subst (λ row. IsArranged x.last row) none s.in_turn);
      row_channels = s.row_channels;
      staged_channels = s.staged_channels;
      laps_are = s.laps_are ∙ (ap (laps_of x.lap x.last) no_slots ∙ sym (ap (laps_of x.lap c.args.channel) no_slots));
      laps_left = s.laps_left;
    }

pub returns-clause-written : goal.returns-clause-written
returns-clause-written c f later all =
    let x = c.self.inside in
    let nothing = c.requires.nothing in
    let octets = ap (λ (v : Outgoing). output_octets v.output) c.self.view_is ∙ nothing in
    let view = c.self.view_is in
    ap₂ (λ a r. record { output = record { ahead = a; begun_on = c.args.channel; last = c.args.channel; row = r }; staged = (outgoing_of x).staged })
    (nothing-ahead (outgoing_of x).output octets) (nothing-waits (outgoing_of x).output octets)
    ∙ (ap (λ (v : Outgoing). record { output = record { ahead = []; begun_on = c.args.channel; last = c.args.channel; row = [] }; staged = v.staged }) view
    ∙ ap (with_output c.args.self.now) (sym (passed c.args.channel f later c.args.self.now.output c.requires.above all nothing)))

pub returns-clause-order : goal.returns-clause-order
returns-clause-order c frames all = ap output_octets (put_alone c.args.channel frames c.args.self.now.output c.requires.above all c.requires.nothing)
