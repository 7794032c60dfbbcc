-- One more channel.
use Rattle.std.proofs.Common.{◌+◌, ◌++◌, map, ap, ◌∙◌, arith}
use Rattle.amqp_core.specs.Traced.Notes.{note_view, telling_view}
use Rattle.amqp_link.specs.Tallies.{begun_on, tallies_on}
use Rattle.amqp_link.specs.TallyView.{tally_view}
use Rattle.amqp_link.proofs.TallyCounts.{vectors-long, channel-is, tallies-are, same-length, flat-more}
use Rattle.amqp_link.proofs.lives.add_tallies.Goals as goal

pub index-requires : goal.index-requires
index-requires c =
    let long = vectors-long c.last_begun-last.result (map note_view c.args.written.notes.now) (map telling_view c.args.written.client_said.now) c.deref.result.now
    c.in_ok-client_said.client_said.items (c.deref.ensures.value ∙ c.in_ok-begun.ensures) c.in_ok-client_said.ensures in
    omega (arith, long, c.in_ok-client_said.client_said.ok.0)

pub index-requires-in-loop-before : goal.index-requires-in-loop-before
index-requires-in-loop-before c =
    let long = vectors-long c.last_begun-last.result (map note_view c.args.written.notes.now) (map telling_view c.args.written.server_told.now) c.deref-2.result.now
    c.in_ok-server_told.server_told.items (c.deref-2.ensures.value ∙ c.in_ok-begun.ensures) c.in_ok-server_told.ensures in
    omega (arith, long, c.in_ok-server_told.server_told.ok.0)

pub index-requires-in-loop-before-2 : goal.index-requires-in-loop-before-2
index-requires-in-loop-before-2 c =
    let long = vectors-long c.last_begun-last.result (map note_view c.args.written.notes.now) (map telling_view c.args.written.server_said.now) c.deref-3.result.now
    c.in_ok-server_said.server_said.items (c.deref-3.ensures.value ∙ c.in_ok-begun.ensures) c.in_ok-server_said.ensures in
    omega (arith, long, c.in_ok-server_said.server_said.ok.0)

pub index-requires-in-loop-before-3 : goal.index-requires-in-loop-before-3
index-requires-in-loop-before-3 c =
    let long = vectors-long c.last_begun-last.result (map note_view c.args.written.notes.now) (map telling_view c.args.written.client_told.now) c.deref-4.result.now
    c.in_ok-client_told.client_told.items (c.deref-4.ensures.value ∙ c.in_ok-begun.ensures) c.in_ok-client_told.ensures in
    omega (arith, long, c.in_ok-client_told.client_told.ok.0)

pub add_lives-requires-clause-acted_to_server : goal.add_lives-requires-clause-acted_to_server
add_lives-requires-clause-acted_to_server c =
    same-length (c.loop-before.before + 1) (begun_on (c.loop-before.before + 1) (map note_view c.args.written.notes.now))
    (map telling_view c.args.written.client_said.now) (map telling_view c.args.written.server_told.now) c.as_slice.result.now c.as_slice-in-loop-before.result.now
    (c.as_slice.ensures.value
    ∙ channel-is c.last_begun-last.result (map note_view c.args.written.notes.now) (map telling_view c.args.written.client_said.now) c.deref.result.now
    c.in_ok-client_said.client_said.items c.loop-before.before c.index.result.now (c.deref.ensures.value ∙ c.in_ok-begun.ensures) c.in_ok-client_said.ensures
    c.loop-before-test.true c.index.ensures)
    (c.as_slice-in-loop-before.ensures.value
    ∙ channel-is c.last_begun-last.result (map note_view c.args.written.notes.now) (map telling_view c.args.written.server_told.now) c.deref-2.result.now
    c.in_ok-server_told.server_told.items c.loop-before.before c.index-in-loop-before.result.now (c.deref-2.ensures.value ∙ c.in_ok-begun.ensures) c.in_ok-server_told.ensures
    c.loop-before-test.true c.index-in-loop-before.ensures)

pub add_lives-requires-clause-sent_to_client : goal.add_lives-requires-clause-sent_to_client
add_lives-requires-clause-sent_to_client c =
    same-length (c.loop-before.before + 1) (begun_on (c.loop-before.before + 1) (map note_view c.args.written.notes.now))
    (map telling_view c.args.written.client_said.now) (map telling_view c.args.written.server_said.now) c.as_slice.result.now c.as_slice-in-loop-before-2.result.now
    (c.as_slice.ensures.value
    ∙ channel-is c.last_begun-last.result (map note_view c.args.written.notes.now) (map telling_view c.args.written.client_said.now) c.deref.result.now
    c.in_ok-client_said.client_said.items c.loop-before.before c.index.result.now (c.deref.ensures.value ∙ c.in_ok-begun.ensures) c.in_ok-client_said.ensures
    c.loop-before-test.true c.index.ensures)
    (c.as_slice-in-loop-before-2.ensures.value
    ∙ channel-is c.last_begun-last.result (map note_view c.args.written.notes.now) (map telling_view c.args.written.server_said.now) c.deref-3.result.now
    c.in_ok-server_said.server_said.items c.loop-before.before c.index-in-loop-before-2.result.now (c.deref-3.ensures.value ∙ c.in_ok-begun.ensures) c.in_ok-server_said.ensures
    c.loop-before-test.true c.index-in-loop-before-2.ensures)

pub add_lives-requires-clause-acted_to_client : goal.add_lives-requires-clause-acted_to_client
add_lives-requires-clause-acted_to_client c =
    same-length (c.loop-before.before + 1) (begun_on (c.loop-before.before + 1) (map note_view c.args.written.notes.now))
    (map telling_view c.args.written.client_said.now) (map telling_view c.args.written.client_told.now) c.as_slice.result.now c.as_slice-in-loop-before-3.result.now
    (c.as_slice.ensures.value
    ∙ channel-is c.last_begun-last.result (map note_view c.args.written.notes.now) (map telling_view c.args.written.client_said.now) c.deref.result.now
    c.in_ok-client_said.client_said.items c.loop-before.before c.index.result.now (c.deref.ensures.value ∙ c.in_ok-begun.ensures) c.in_ok-client_said.ensures
    c.loop-before-test.true c.index.ensures)
    (c.as_slice-in-loop-before-3.ensures.value
    ∙ channel-is c.last_begun-last.result (map note_view c.args.written.notes.now) (map telling_view c.args.written.client_told.now) c.deref-4.result.now
    c.in_ok-client_told.client_told.items c.loop-before.before c.index-in-loop-before-3.result.now (c.deref-4.ensures.value ∙ c.in_ok-begun.ensures) c.in_ok-client_told.ensures
    c.loop-before-test.true c.index-in-loop-before-3.ensures)

pub loop-before-preserved : goal.loop-before-preserved
loop-before-preserved c =
    let notes = map note_view c.args.written.notes.now in
    let channel = c.loop-before.before + 1 in
    let client_said = map telling_view c.args.written.client_said.now in
    let server_told = map telling_view c.args.written.server_told.now in
    let server_said = map telling_view c.args.written.server_said.now in
    let client_told = map telling_view c.args.written.client_told.now in
    flat-more (λ channel. tallies_on c.args.connection channel (begun_on channel notes) client_said server_told server_said client_told) c.loop-before.before
    (map tally_view c.args.tallies.now.items) (map tally_view c.loop-before.tallies.items) (map tally_view c.add_lives.new.tallies.items) c.loop-before.invariant
    (c.in_ok-add_lives.ensures
    ∙ ap (λ l. map tally_view c.loop-before.tallies.items ++ l)
    (tallies-are c.args.connection channel (begun_on channel notes) client_said server_told server_said client_told
    c.as_slice.result.now c.as_slice-in-loop-before.result.now c.as_slice-in-loop-before-2.result.now c.as_slice-in-loop-before-3.result.now
    (c.as_slice.ensures.value
    ∙ channel-is c.last_begun-last.result (map note_view c.args.written.notes.now) (map telling_view c.args.written.client_said.now) c.deref.result.now
    c.in_ok-client_said.client_said.items c.loop-before.before c.index.result.now (c.deref.ensures.value ∙ c.in_ok-begun.ensures) c.in_ok-client_said.ensures
    c.loop-before-test.true c.index.ensures)
    (c.as_slice-in-loop-before.ensures.value
    ∙ channel-is c.last_begun-last.result (map note_view c.args.written.notes.now) (map telling_view c.args.written.server_told.now) c.deref-2.result.now
    c.in_ok-server_told.server_told.items c.loop-before.before c.index-in-loop-before.result.now (c.deref-2.ensures.value ∙ c.in_ok-begun.ensures) c.in_ok-server_told.ensures
    c.loop-before-test.true c.index-in-loop-before.ensures)
    (c.as_slice-in-loop-before-2.ensures.value
    ∙ channel-is c.last_begun-last.result (map note_view c.args.written.notes.now) (map telling_view c.args.written.server_said.now) c.deref-3.result.now
    c.in_ok-server_said.server_said.items c.loop-before.before c.index-in-loop-before-2.result.now (c.deref-3.ensures.value ∙ c.in_ok-begun.ensures) c.in_ok-server_said.ensures
    c.loop-before-test.true c.index-in-loop-before-2.ensures)
    (c.as_slice-in-loop-before-3.ensures.value
    ∙ channel-is c.last_begun-last.result (map note_view c.args.written.notes.now) (map telling_view c.args.written.client_told.now) c.deref-4.result.now
    c.in_ok-client_told.client_told.items c.loop-before.before c.index-in-loop-before-3.result.now (c.deref-4.ensures.value ∙ c.in_ok-begun.ensures) c.in_ok-client_told.ensures
    c.loop-before-test.true c.index-in-loop-before-3.ensures)))
