-- Two gated ends, step by step.
use Rattle.std.proofs.Common.{◌≡◌, true, ℕ, suc, arith, codes, List, [], ◌∷◌, ◌++◌, Some, None, refl}
use Rattle.std.proofs.Common.{subst}
use Rattle.std.proofs.lemmas.Bool.{false≢true}
use Rattle.amqp_value.specs.Reading.{table_at, elements, many, named, after_tag, tagged, value_at}
use Rattle.amqp_method.specs.Kinds.{with_id}
use Rattle.amqp_method.specs.Reading as reading
use Rattle.amqp_method.specs.HeaderReading as header_reading
use Rattle.amqp_model.specs.Wire.Frame.{Frame}
use Rattle.amqp_model.specs.Wire.Notes.{Client, Server}
use Rattle.amqp_model.specs.Output.Arrangement.{is_leaving, on}
use Rattle.amqp_model.specs.Wire.Methods.{plain_method, plain_header, method_at, header_at}
use Rattle.amqp_model.specs.History.Histories.{Put, Took, History}
use Rattle.amqp_model.specs.History.Negotiation.{start, tune, tune_ok, connection_open, connection_open_ok}
use Rattle.amqp_model.specs.End.Asks.{Ask, Puts}
use Rattle.amqp_model.specs.End.Closes.{no_cause}
use Rattle.amqp_model.specs.End.Controls.{Control, Beat, Admit, Refuse, AnswerStart, heartbeat_frame, control_verdict}
use Rattle.amqp_model.specs.End.ReadingBack.{ControlReadsBack}
use Rattle.amqp_model.specs.End.LawfulHistories.{then_taken, greets, takes, asks, controls, end_of}
use Rattle.amqp_model.specs.End.Fitting.{ConfigFits, ConfigWrites}
use Rattle.amqp_model.specs.Laws.FittingLaws.{MethodReadsBack}
use Rattle.amqp_model.specs.Stream.Octets.{frames_put, frames_taken}
use Rattle.amqp_model.specs.Pair.Pairs.{ComesNext, Pair, both_begin, client_goes, server_goes}
use Rattle.amqp_model.specs.Laws.GatedExample.{gated_client, gated_server, settled_by_gated, frame_on_zero, chosen, closing}
use Rattle.amqp_model.specs.Laws.GatedExample.{refusing, GatedExamplesArePairs}
use Rattle.amqp_model.specs.Laws.PairExample.{close_ok}
use Rattle.amqp_model.proofs.ReadBack.{config-writes}
use Rattle.amqp_model.proofs.Matching.{takes-what-comes-next}
use Rattle.amqp_model.proofs.PairExample.{same-above, are-octets}

-- the two histories as they grow
abbrev s1 : History
s1 = Put (frame_on_zero (start gated_server)) ∷ []

abbrev c1 : History
c1 = Took (frame_on_zero (start gated_server)) ∷ []

abbrev c2 : History
c2 = Put (frame_on_zero chosen) ∷ c1

abbrev s2 : History
s2 = Took (frame_on_zero chosen) ∷ s1

abbrev s3 : History
s3 = Put (frame_on_zero (tune gated_server)) ∷ s2

abbrev c3 : History
c3 =
    Put (frame_on_zero (connection_open gated_client)) ∷ Put (frame_on_zero (tune_ok settled_by_gated))
    ∷ Took (frame_on_zero (tune gated_server)) ∷ c2

abbrev s4 : History
s4 = Took (frame_on_zero (tune_ok settled_by_gated)) ∷ s3

abbrev s5 : History
s5 = Took (frame_on_zero (connection_open gated_client)) ∷ s4

abbrev s6 : History
s6 = Put (frame_on_zero connection_open_ok) ∷ s5

abbrev c4 : History
c4 = Took (frame_on_zero connection_open_ok) ∷ c3

abbrev s7 : History
s7 = Put heartbeat_frame ∷ s6

abbrev c5 : History
c5 = Put heartbeat_frame ∷ c4

abbrev s8 : History
s8 = Put (frame_on_zero closing) ∷ s7

abbrev s9 : History
s9 = Took heartbeat_frame ∷ s8

abbrev c6 : History
c6 = Took heartbeat_frame ∷ c5

abbrev c7 : History
c7 = Put (frame_on_zero close_ok) ∷ Took (frame_on_zero closing) ∷ c6

abbrev s10 : History
s10 = Took (frame_on_zero close_ok) ∷ s9

abbrev r3 : History
r3 = Put (frame_on_zero refusing) ∷ s2

abbrev k3 : History
k3 = Put (frame_on_zero close_ok) ∷ Took (frame_on_zero refusing) ∷ c2

abbrev r4 : History
r4 = Took (frame_on_zero close_ok) ∷ r3

module _ (reads : MethodReadsBack) (client_writes : ConfigWrites gated_client)
    (server_writes : ConfigWrites gated_server) where
  client-takes : {client server after : History} → Pair gated_client gated_server client server
      → (frame : Frame) (later : List Frame) → on frame.channel (frames_put server)
      ≡ on frame.channel (frames_taken client) ++ frame ∷ later
      → (is_leaving frame ≡ true → (n : ℕ)
      → on (suc n) (frames_put server) ≡ on (suc n) (frames_taken client))
      → then_taken gated_client (end_of gated_client client) frame client ≡ after
      → Pair gated_client gated_server after server
  client-takes {client} {server} pair frame later next leaving is =
      let comes : ComesNext server client frame = record { later = later; next = next; at_leaving = leaving } in
      let well = takes-what-comes-next reads Client gated_client gated_server client server frame
      (record { client_writes = client_writes; server_writes = server_writes; pair = pair }) comes in
      subst (λ h. Pair gated_client gated_server h server) is
      (client_goes {taken = Some frame} pair comes (takes frame well.can well.goes))

  server-takes : {client server after : History} → Pair gated_client gated_server client server
      → (frame : Frame) (later : List Frame) → on frame.channel (frames_put client)
      ≡ on frame.channel (frames_taken server) ++ frame ∷ later
      → (is_leaving frame ≡ true → (n : ℕ)
      → on (suc n) (frames_put client) ≡ on (suc n) (frames_taken server))
      → then_taken gated_server (end_of gated_server server) frame server ≡ after
      → Pair gated_client gated_server client after
  server-takes {client} {server} pair frame later next leaving is =
      let comes : ComesNext client server frame = record { later = later; next = next; at_leaving = leaving } in
      let well = takes-what-comes-next reads Server gated_client gated_server server client frame
      (record { client_writes = client_writes; server_writes = server_writes; pair = pair }) comes in
      subst (λ h. Pair gated_client gated_server client h) is
      (server_goes {taken = Some frame} pair comes (takes frame well.can well.goes))

  client-does : {client server : History} → Pair gated_client gated_server client server
      → (control : Control) (frame : Frame) → ControlReadsBack Client gated_client control
      → control_verdict Client gated_client (end_of gated_client client) control ≡ Puts (frame ∷ [])
      → Pair gated_client gated_server (Put frame ∷ client) server
  client-does pair control frame back e = client_goes {taken = None} pair tt (controls control (frame ∷ []) back e)

  server-does : {client server : History} → Pair gated_client gated_server client server
      → (control : Control) (frame : Frame) → ControlReadsBack Server gated_server control
      → control_verdict Server gated_server (end_of gated_server server) control ≡ Puts (frame ∷ [])
      → Pair gated_client gated_server client (Put frame ∷ server)
  server-does pair control frame back e = server_goes {taken = None} pair tt (controls control (frame ∷ []) back e)

  p1 : Pair gated_client gated_server [] s1
  p1 = server_goes {taken = None} both_begin tt greets

  p2 : Pair gated_client gated_server c1 s1
  unfolding method_at header_at plain_method plain_header reading.method_at reading.args_at reading.field_at with_id
      header_reading.header_at header_reading.properties_at header_reading.optional_at table_at elements many
      named after_tag tagged value_at
  p2 = client-takes p1 (frame_on_zero (start gated_server)) [] refl (λ e. absurd (false≢true e)) refl

  p3 : Pair gated_client gated_server c2 s1
  unfolding method_at header_at plain_method plain_header reading.method_at reading.args_at reading.field_at with_id
      header_reading.header_at header_reading.properties_at header_reading.optional_at table_at elements many
      named after_tag tagged value_at
  p3 = client-does p2 (AnswerStart (codes "EXTERNAL") [] (codes "en_US")) (frame_on_zero chosen) refl refl

  p4 : Pair gated_client gated_server c2 s2
  unfolding method_at header_at plain_method plain_header reading.method_at reading.args_at reading.field_at with_id
      header_reading.header_at header_reading.properties_at header_reading.optional_at table_at elements many
      named after_tag tagged value_at
  p4 = server-takes p3 (frame_on_zero chosen) [] refl (λ e. absurd (false≢true e)) refl

  p5 : Pair gated_client gated_server c2 s3
  unfolding method_at header_at plain_method plain_header reading.method_at reading.args_at reading.field_at with_id
      header_reading.header_at header_reading.properties_at header_reading.optional_at table_at elements many
      named after_tag tagged value_at
  p5 = server-does p4 Admit (frame_on_zero (tune gated_server)) tt refl

  p6 : Pair gated_client gated_server c3 s3
  unfolding method_at header_at plain_method plain_header reading.method_at reading.args_at reading.field_at with_id
      header_reading.header_at header_reading.properties_at header_reading.optional_at table_at elements many
      named after_tag tagged value_at
  p6 = client-takes p5 (frame_on_zero (tune gated_server)) [] refl (λ e. absurd (false≢true e)) refl

  p7 : Pair gated_client gated_server c3 s4
  unfolding method_at header_at plain_method plain_header reading.method_at reading.args_at reading.field_at with_id
      header_reading.header_at header_reading.properties_at header_reading.optional_at table_at elements many
      named after_tag tagged value_at
  p7 =
      server-takes p6 (frame_on_zero (tune_ok settled_by_gated)) (frame_on_zero (connection_open gated_client) ∷ []) refl
      (λ e. absurd (false≢true e)) refl

  p8 : Pair gated_client gated_server c3 s5
  unfolding method_at header_at plain_method plain_header reading.method_at reading.args_at reading.field_at with_id
      header_reading.header_at header_reading.properties_at header_reading.optional_at table_at elements many
      named after_tag tagged value_at
  p8 = server-takes p7 (frame_on_zero (connection_open gated_client)) [] refl (λ e. absurd (false≢true e)) refl

  p9 : Pair gated_client gated_server c3 s6
  unfolding method_at header_at plain_method plain_header reading.method_at reading.args_at reading.field_at with_id
      header_reading.header_at header_reading.properties_at header_reading.optional_at table_at elements many
      named after_tag tagged value_at
  p9 = server-does p8 Admit (frame_on_zero connection_open_ok) tt refl

  p10 : Pair gated_client gated_server c4 s6
  unfolding method_at header_at plain_method plain_header reading.method_at reading.args_at reading.field_at with_id
      header_reading.header_at header_reading.properties_at header_reading.optional_at table_at elements many
      named after_tag tagged value_at
  p10 = client-takes p9 (frame_on_zero connection_open_ok) [] refl (λ e. absurd (false≢true e)) refl

  p11 : Pair gated_client gated_server c4 s7
  unfolding method_at header_at plain_method plain_header reading.method_at reading.args_at reading.field_at with_id
      header_reading.header_at header_reading.properties_at header_reading.optional_at table_at elements many
      named after_tag tagged value_at
  p11 = server-does p10 Beat heartbeat_frame tt refl

  p12 : Pair gated_client gated_server c5 s7
  unfolding method_at header_at plain_method plain_header reading.method_at reading.args_at reading.field_at with_id
      header_reading.header_at header_reading.properties_at header_reading.optional_at table_at elements many
      named after_tag tagged value_at
  p12 = client-does p11 Beat heartbeat_frame tt refl

  p13 : Pair gated_client gated_server c5 s8
  unfolding method_at header_at plain_method plain_header reading.method_at reading.args_at reading.field_at with_id
      header_reading.header_at header_reading.properties_at header_reading.optional_at table_at elements many
      named after_tag tagged value_at
  p13 =
      server_goes {taken = None} p12 tt (asks (Ask.Close 320 (codes "bye") no_cause) (frame_on_zero closing ∷ []) refl
      (record { method = refl; header = tt; text = (omega arith, are-octets (codes "bye") refl) }) refl)

  p14 : Pair gated_client gated_server c5 s9
  unfolding method_at header_at plain_method plain_header reading.method_at reading.args_at reading.field_at with_id
      header_reading.header_at header_reading.properties_at header_reading.optional_at table_at elements many
      named after_tag tagged value_at
  p14 = server-takes p13 heartbeat_frame [] refl (λ e. absurd (false≢true e)) refl

  p15 : Pair gated_client gated_server c6 s9
  unfolding method_at header_at plain_method plain_header reading.method_at reading.args_at reading.field_at with_id
      header_reading.header_at header_reading.properties_at header_reading.optional_at table_at elements many
      named after_tag tagged value_at
  p15 = client-takes p14 heartbeat_frame (frame_on_zero closing ∷ []) refl (λ e. absurd (false≢true e)) refl

  p16 : Pair gated_client gated_server c7 s9
  unfolding method_at header_at plain_method plain_header reading.method_at reading.args_at reading.field_at with_id
      header_reading.header_at header_reading.properties_at header_reading.optional_at table_at elements many
      named after_tag tagged value_at
  p16 =
      client-takes p15 (frame_on_zero closing) [] refl
      (λ e n. same-above n (frames_put s9) (frames_taken c6) refl refl refl) refl

  p17 : Pair gated_client gated_server c7 s10
  unfolding method_at header_at plain_method plain_header reading.method_at reading.args_at reading.field_at with_id
      header_reading.header_at header_reading.properties_at header_reading.optional_at table_at elements many
      named after_tag tagged value_at
  p17 =
      server-takes p16 (frame_on_zero close_ok) [] refl
      (λ e n. same-above n (frames_put c7) (frames_taken s9) refl refl refl) refl

  q5 : Pair gated_client gated_server c2 r3
  unfolding method_at header_at plain_method plain_header reading.method_at reading.args_at reading.field_at with_id
      header_reading.header_at header_reading.properties_at header_reading.optional_at table_at elements many
      named after_tag tagged value_at
  q5 =
      server-does p4 (Refuse 403 (codes "ACCESS_REFUSED")) (frame_on_zero refusing)
      (refl, (omega arith, are-octets (codes "ACCESS_REFUSED") refl)) refl

  q6 : Pair gated_client gated_server k3 r3
  unfolding method_at header_at plain_method plain_header reading.method_at reading.args_at reading.field_at with_id
      header_reading.header_at header_reading.properties_at header_reading.optional_at table_at elements many
      named after_tag tagged value_at
  q6 =
      client-takes q5 (frame_on_zero refusing) [] refl
      (λ e n. same-above n (frames_put r3) (frames_taken c2) refl refl refl) refl

  q7 : Pair gated_client gated_server k3 r4
  unfolding method_at header_at plain_method plain_header reading.method_at reading.args_at reading.field_at with_id
      header_reading.header_at header_reading.properties_at header_reading.optional_at table_at elements many
      named after_tag tagged value_at
  q7 =
      server-takes q6 (frame_on_zero close_ok) [] refl
      (λ e n. same-above n (frames_put k3) (frames_taken r3) refl refl refl) refl

client-fits : ConfigFits gated_client
unfolding plain_method
client-fits = record {
  channel_least = omega arith;
  channel_most = omega arith;
  frame_least = omega arith;
  frame_most = omega arith;
  body_most = omega arith;
  heartbeat_most = omega arith;
  hello = (
    (omega arith, (omega arith, tt)),
    (omega arith, tt),
    (omega arith, tt),
    (omega arith, tt),
    (omega arith, are-octets (codes "/") refl),
  );
  greeting_short = omega arith;
}

server-fits : ConfigFits gated_server
unfolding plain_method
server-fits = record {
  channel_least = omega arith;
  channel_most = omega arith;
  frame_least = omega arith;
  frame_most = omega arith;
  body_most = omega arith;
  heartbeat_most = omega arith;
  hello = (
    (omega arith, (omega arith, tt)),
    (omega arith, are-octets (codes "PLAIN EXTERNAL") refl),
    (omega arith, are-octets (codes "en_US") refl),
  );
  greeting_short = omega arith;
}

pub gated-examples-are-pairs : MethodReadsBack → GatedExamplesArePairs
unfolding method_at header_at plain_method plain_header reading.method_at reading.args_at reading.field_at with_id
    header_reading.header_at header_reading.properties_at header_reading.optional_at table_at elements many
    named after_tag tagged value_at
gated-examples-are-pairs reads = record {
  client_fits = client-fits;
  server_fits = server-fits;
  admitted = p17 reads (config-writes reads Client gated_client client-fits)
      (config-writes reads Server gated_server server-fits);
  client_closed = refl;
  server_closed = refl;
  client_agreed = refl;
  server_agreed = refl;
  refused = q7 reads (config-writes reads Client gated_client client-fits)
      (config-writes reads Server gated_server server-fits);
  client_turned_away = refl;
  server_turned_away = refl;
  client_has_none = refl;
  server_has_none = refl;
}
