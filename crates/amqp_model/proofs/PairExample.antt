-- A connection of two ends, step by step.
use Rattle.std.proofs.Common.{◌≡◌, Bool, true, false, cond, ℕ, zero as nought, suc, ◌==◌, arith, codes}
use Rattle.std.proofs.Common.{List, [], ◌∷◌, ◌++◌, Some, None, refl, sym, ◌∙◌, subst}
use Rattle.std.specs.Prelude.{nat_lt}
use Rattle.std.proofs.lemmas.Bool.{false≢true, cond-false, ne_eqb, ltb-true}
use Rattle.amqp_value.specs.Reading.{table_at, elements, many, named, after_tag, tagged, value_at}
use Rattle.amqp_method.specs.declared.kinds.Kind.TheVariants as kinds
use Rattle.amqp_method.specs.Kinds.{with_id}
use Rattle.amqp_method.specs.Reading as reading
use Rattle.amqp_method.specs.HeaderReading as header_reading
use Rattle.amqp_model.specs.Wire.Frame.{Frame}
use Rattle.amqp_model.specs.Wire.Notes.{Client, Server}
use Rattle.amqp_model.specs.Output.Arrangement.{is_leaving, on}
use Rattle.amqp_model.specs.Wire.Methods.{plain_method, plain_header, method_at, header_at}
use Rattle.amqp_model.specs.History.Histories.{Put, Took, History}
use Rattle.amqp_model.specs.History.Negotiation.{start, start_ok, tune, tune_ok, connection_open, connection_open_ok}
use Rattle.amqp_model.specs.End.Closes.{flow_as, close_as, no_cause}
use Rattle.amqp_model.specs.End.Events.{Plain, Whole}
use Rattle.amqp_model.specs.End.Asks.{Ask, is_made, Puts, ask_verdict}
use Rattle.amqp_model.specs.End.ReadingBack.{AskReadsBack}
use Rattle.amqp_model.specs.End.LawfulHistories.{then_put, then_taken, greets, takes, asks, end_of}
use Rattle.amqp_method.specs.Fitting.{AreOctets}
use Rattle.amqp_model.specs.End.Fitting.{ConfigFits, ConfigWrites}
use Rattle.amqp_model.specs.Laws.FittingLaws.{MethodReadsBack}
use Rattle.amqp_model.specs.Stream.Octets.{frames_put, frames_taken}
use Rattle.amqp_model.specs.Pair.Pairs.{ComesNext, Pair, both_begin, client_goes, server_goes}
use Rattle.amqp_model.specs.Laws.PairExample.{example_client, example_server, settled_example, zero, one, channel_open}
use Rattle.amqp_model.specs.Laws.PairExample.{channel_open_ok, channel_close_ok, close_ok, select, select_ok, published}
use Rattle.amqp_model.specs.Laws.PairExample.{delivered, header_frame, body_frame, ExampleIsPair}
use Rattle.amqp_model.proofs.ReadBack.{config-writes}
use Rattle.amqp_model.proofs.Matching.{takes-what-comes-next}

-- frames of the first two channels
abbrev all_low : List Frame → Bool
all_low [] = true
all_low (frame ∷ later) = cond (nat_lt frame.channel 2) (all_low later) false

none-high : (k : ℕ) (frames : List Frame) → all_low frames ≡ true → on (suc (suc k)) frames ≡ []
none-high k [] e = refl
none-high k (frame ∷ later) e = by (nat_lt frame.channel 2) refl e (none-high k later)
  where
    by : (b : Bool) → nat_lt frame.channel 2 ≡ b → cond b (all_low later) false ≡ true
        → (all_low later ≡ true → on (suc (suc k)) later ≡ []) → on (suc (suc k)) (frame ∷ later) ≡ []
    by true low e more =
        let below = ltb-true frame.channel 2 low in
        cond-false (frame.channel == suc (suc k)) _ _
        (ne_eqb frame.channel (suc (suc k)) (λ h. let same : frame.channel ≡ suc (suc k) = h in
        absurd (omega arith))) ∙ more e
    by false low e more = absurd (false≢true e)

pub same-above : (n : ℕ) (puts taken : List Frame) → all_low puts ≡ true → all_low taken ≡ true
    → on 1 puts ≡ on 1 taken → on (suc n) puts ≡ on (suc n) taken
same-above nought puts taken a b same = same
same-above (suc k) puts taken a b same = none-high k puts a ∙ sym (none-high k taken b)

-- the two histories as they grow
abbrev pub s1 : History
s1 = Put (zero (start example_server)) ∷ []

abbrev pub c1 : History
c1 = Put (zero (start_ok example_client)) ∷ Took (zero (start example_server)) ∷ []

abbrev pub s2 : History
s2 = Put (zero (tune example_server)) ∷ Took (zero (start_ok example_client)) ∷ s1

abbrev pub c2 : History
c2 =
    Put (zero (connection_open example_client)) ∷ Put (zero (tune_ok settled_example))
    ∷ Took (zero (tune example_server)) ∷ c1

abbrev pub s3 : History
s3 = Took (zero (tune_ok settled_example)) ∷ s2

abbrev pub s4 : History
s4 = Put (zero connection_open_ok) ∷ Took (zero (connection_open example_client)) ∷ s3

abbrev pub c3 : History
c3 = Took (zero connection_open_ok) ∷ c2

abbrev c4 : History
c4 = Put (one channel_open) ∷ c3

abbrev s5 : History
s5 = Put (one channel_open_ok) ∷ Took (one channel_open) ∷ s4

abbrev c5 : History
c5 = Took (one channel_open_ok) ∷ c4

abbrev c6 : History
c6 = Put (body_frame published) ∷ Put (header_frame published) ∷ Put (one published.method) ∷ c5

abbrev s6 : History
s6 = Took (one published.method) ∷ s5

abbrev s7 : History
s7 = Took (header_frame published) ∷ s6

abbrev s8 : History
s8 = Took (body_frame published) ∷ s7

abbrev s9 : History
s9 = Put (body_frame delivered) ∷ Put (header_frame delivered) ∷ Put (one delivered.method) ∷ s8

abbrev c7 : History
c7 = Took (one delivered.method) ∷ c6

abbrev c8 : History
c8 = Took (header_frame delivered) ∷ c7

abbrev c9 : History
c9 = Took (body_frame delivered) ∷ c8

abbrev s10 : History
s10 = Put (one (flow_as kinds.ChannelFlow false)) ∷ s9

abbrev c10 : History
c10 = Put (one (flow_as kinds.ChannelFlowOk false)) ∷ Took (one (flow_as kinds.ChannelFlow false)) ∷ c9

abbrev s11 : History
s11 = Took (one (flow_as kinds.ChannelFlowOk false)) ∷ s10

abbrev c11 : History
c11 = Put (one select) ∷ c10

abbrev s12 : History
s12 = Took (one select) ∷ s11

abbrev s13 : History
s13 = Put (one select_ok) ∷ s12

abbrev c12 : History
c12 = Took (one select_ok) ∷ c11

abbrev c13 : History
c13 = Put (one (close_as kinds.ChannelClose 200 [])) ∷ c12

abbrev s14 : History
s14 = Put (one (close_as kinds.ChannelClose 404 [])) ∷ s13

abbrev s15 : History
s15 = Put (one channel_close_ok) ∷ Took (one (close_as kinds.ChannelClose 200 [])) ∷ s14

abbrev c14 : History
c14 = Put (one channel_close_ok) ∷ Took (one (close_as kinds.ChannelClose 404 [])) ∷ c13

abbrev s16 : History
s16 = Took (one channel_close_ok) ∷ s15

abbrev c15 : History
c15 = Took (one channel_close_ok) ∷ c14

abbrev c16 : History
c16 = Put (zero (close_as kinds.ConnectionClose 200 [])) ∷ c15

abbrev s17 : History
s17 = Put (zero (close_as kinds.ConnectionClose 320 [])) ∷ s16

abbrev s18 : History
s18 = Put (zero close_ok) ∷ Took (zero (close_as kinds.ConnectionClose 200 [])) ∷ s17

abbrev c17 : History
c17 = Put (zero close_ok) ∷ Took (zero (close_as kinds.ConnectionClose 320 [])) ∷ c16

abbrev s19 : History
s19 = Took (zero close_ok) ∷ s18

abbrev c18 : History
c18 = Took (zero close_ok) ∷ c17

module _ (reads : MethodReadsBack) (client_writes : ConfigWrites example_client)
    (server_writes : ConfigWrites example_server) where
  client-takes : {client server after : History} → Pair example_client example_server client server
      → (frame : Frame) (later : List Frame) → on frame.channel (frames_put server)
      ≡ on frame.channel (frames_taken client) ++ frame ∷ later
      → (is_leaving frame ≡ true → (n : ℕ)
      → on (suc n) (frames_put server) ≡ on (suc n) (frames_taken client))
      → then_taken example_client (end_of example_client client) frame client ≡ after
      → Pair example_client example_server after server
  client-takes {client} {server} pair frame later next leaving is =
      let comes : ComesNext server client frame = record { later = later; next = next; at_leaving = leaving } in
      let well = takes-what-comes-next reads Client example_client example_server client server frame
      (record { client_writes = client_writes; server_writes = server_writes; pair = pair }) comes in
      subst (λ h. Pair example_client example_server h server) is
      (client_goes {taken = Some frame} pair comes (takes frame well.can well.goes))

  server-takes : {client server after : History} → Pair example_client example_server client server
      → (frame : Frame) (later : List Frame) → on frame.channel (frames_put client)
      ≡ on frame.channel (frames_taken server) ++ frame ∷ later
      → (is_leaving frame ≡ true → (n : ℕ)
      → on (suc n) (frames_put client) ≡ on (suc n) (frames_taken server))
      → then_taken example_server (end_of example_server server) frame server ≡ after
      → Pair example_client example_server client after
  server-takes {client} {server} pair frame later next leaving is =
      let comes : ComesNext client server frame = record { later = later; next = next; at_leaving = leaving } in
      let well = takes-what-comes-next reads Server example_client example_server server client frame
      (record { client_writes = client_writes; server_writes = server_writes; pair = pair }) comes in
      subst (λ h. Pair example_client example_server client h) is
      (server_goes {taken = Some frame} pair comes (takes frame well.can well.goes))

  client-asks : {client server after : History} → Pair example_client example_server client server
      → (ask : Ask) (frames : List Frame) → is_made ask ≡ true → AskReadsBack ask
      → ask_verdict Client (end_of example_client client) ask ≡ Puts frames → then_put frames client ≡ after
      → Pair example_client example_server after server
  client-asks {server = server} pair ask frames made back e is =
      subst (λ h. Pair example_client example_server h server) is
      (client_goes {taken = None} pair tt (asks ask frames made back e))

  server-asks : {client server after : History} → Pair example_client example_server client server
      → (ask : Ask) (frames : List Frame) → is_made ask ≡ true → AskReadsBack ask
      → ask_verdict Server (end_of example_server server) ask ≡ Puts frames → then_put frames server ≡ after
      → Pair example_client example_server client after
  server-asks {client = client} pair ask frames made back e is =
      subst (λ h. Pair example_client example_server client h) is
      (server_goes {taken = None} pair tt (asks ask frames made back e))

  p1 : Pair example_client example_server [] s1
  p1 = server_goes {taken = None} both_begin tt greets

  p2 : Pair example_client example_server c1 s1
  unfolding method_at header_at plain_method plain_header reading.method_at reading.args_at reading.field_at with_id
      header_reading.header_at header_reading.properties_at header_reading.optional_at table_at elements many
      named after_tag tagged value_at
  p2 = client-takes p1 (zero (start example_server)) ([]) refl (λ e. absurd (false≢true e)) refl

  p3 : Pair example_client example_server c1 s2
  unfolding method_at header_at plain_method plain_header reading.method_at reading.args_at reading.field_at with_id
      header_reading.header_at header_reading.properties_at header_reading.optional_at table_at elements many
      named after_tag tagged value_at
  p3 = server-takes p2 (zero (start_ok example_client)) ([]) refl (λ e. absurd (false≢true e)) refl

  p4 : Pair example_client example_server c2 s2
  unfolding method_at header_at plain_method plain_header reading.method_at reading.args_at reading.field_at with_id
      header_reading.header_at header_reading.properties_at header_reading.optional_at table_at elements many
      named after_tag tagged value_at
  p4 = client-takes p3 (zero (tune example_server)) ([]) refl (λ e. absurd (false≢true e)) refl

  p5 : Pair example_client example_server c2 s3
  unfolding method_at header_at plain_method plain_header reading.method_at reading.args_at reading.field_at with_id
      header_reading.header_at header_reading.properties_at header_reading.optional_at table_at elements many
      named after_tag tagged value_at
  p5 =
      server-takes p4 (zero (tune_ok settled_example)) ((zero (connection_open example_client)) ∷ []) refl
      (λ e. absurd (false≢true e)) refl

  p6 : Pair example_client example_server c2 s4
  unfolding method_at header_at plain_method plain_header reading.method_at reading.args_at reading.field_at with_id
      header_reading.header_at header_reading.properties_at header_reading.optional_at table_at elements many
      named after_tag tagged value_at
  p6 = server-takes p5 (zero (connection_open example_client)) ([]) refl (λ e. absurd (false≢true e)) refl

  p7 : Pair example_client example_server c3 s4
  unfolding method_at header_at plain_method plain_header reading.method_at reading.args_at reading.field_at with_id
      header_reading.header_at header_reading.properties_at header_reading.optional_at table_at elements many
      named after_tag tagged value_at
  p7 = client-takes p6 (zero connection_open_ok) ([]) refl (λ e. absurd (false≢true e)) refl

  p8 : Pair example_client example_server c4 s4
  unfolding method_at header_at plain_method plain_header reading.method_at reading.args_at reading.field_at with_id
      header_reading.header_at header_reading.properties_at header_reading.optional_at table_at elements many
      named after_tag tagged value_at
  p8 =
      client-asks p7 (Ask.Open) ((one channel_open) ∷ []) refl
      (record { method = refl; header = tt; text = tt }) refl refl

  p9 : Pair example_client example_server c4 s5
  unfolding method_at header_at plain_method plain_header reading.method_at reading.args_at reading.field_at with_id
      header_reading.header_at header_reading.properties_at header_reading.optional_at table_at elements many
      named after_tag tagged value_at
  p9 = server-takes p8 (one channel_open) ([]) refl (λ e. absurd (false≢true e)) refl

  p10 : Pair example_client example_server c5 s5
  unfolding method_at header_at plain_method plain_header reading.method_at reading.args_at reading.field_at with_id
      header_reading.header_at header_reading.properties_at header_reading.optional_at table_at elements many
      named after_tag tagged value_at
  p10 = client-takes p9 (one channel_open_ok) ([]) refl (λ e. absurd (false≢true e)) refl

  p11 : Pair example_client example_server c6 s5
  unfolding method_at header_at plain_method plain_header reading.method_at reading.args_at reading.field_at with_id
      header_reading.header_at header_reading.properties_at header_reading.optional_at table_at elements many
      named after_tag tagged value_at
  p11 =
      client-asks p10 (Ask.Send 1 (Whole published)) ((one published.method) ∷ (header_frame published)
      ∷ (body_frame published) ∷ []) refl (record { method = refl; header = refl; text = tt }) refl refl

  p12 : Pair example_client example_server c6 s6
  unfolding method_at header_at plain_method plain_header reading.method_at reading.args_at reading.field_at with_id
      header_reading.header_at header_reading.properties_at header_reading.optional_at table_at elements many
      named after_tag tagged value_at
  p12 =
      server-takes p11 (one published.method) ((header_frame published) ∷ (body_frame published) ∷ []) refl
      (λ e. absurd (false≢true e)) refl

  p13 : Pair example_client example_server c6 s7
  unfolding method_at header_at plain_method plain_header reading.method_at reading.args_at reading.field_at with_id
      header_reading.header_at header_reading.properties_at header_reading.optional_at table_at elements many
      named after_tag tagged value_at
  p13 = server-takes p12 (header_frame published) ((body_frame published) ∷ []) refl (λ e. absurd (false≢true e)) refl

  p14 : Pair example_client example_server c6 s8
  unfolding method_at header_at plain_method plain_header reading.method_at reading.args_at reading.field_at with_id
      header_reading.header_at header_reading.properties_at header_reading.optional_at table_at elements many
      named after_tag tagged value_at
  p14 = server-takes p13 (body_frame published) ([]) refl (λ e. absurd (false≢true e)) refl

  p15 : Pair example_client example_server c6 s9
  unfolding method_at header_at plain_method plain_header reading.method_at reading.args_at reading.field_at with_id
      header_reading.header_at header_reading.properties_at header_reading.optional_at table_at elements many
      named after_tag tagged value_at
  p15 =
      server-asks p14 (Ask.Send 1 (Whole delivered)) ((one delivered.method) ∷ (header_frame delivered)
      ∷ (body_frame delivered) ∷ []) refl (record { method = refl; header = refl; text = tt }) refl refl

  p16 : Pair example_client example_server c7 s9
  unfolding method_at header_at plain_method plain_header reading.method_at reading.args_at reading.field_at with_id
      header_reading.header_at header_reading.properties_at header_reading.optional_at table_at elements many
      named after_tag tagged value_at
  p16 =
      client-takes p15 (one delivered.method) ((header_frame delivered) ∷ (body_frame delivered) ∷ []) refl
      (λ e. absurd (false≢true e)) refl

  p17 : Pair example_client example_server c8 s9
  unfolding method_at header_at plain_method plain_header reading.method_at reading.args_at reading.field_at with_id
      header_reading.header_at header_reading.properties_at header_reading.optional_at table_at elements many
      named after_tag tagged value_at
  p17 = client-takes p16 (header_frame delivered) ((body_frame delivered) ∷ []) refl (λ e. absurd (false≢true e)) refl

  p18 : Pair example_client example_server c9 s9
  unfolding method_at header_at plain_method plain_header reading.method_at reading.args_at reading.field_at with_id
      header_reading.header_at header_reading.properties_at header_reading.optional_at table_at elements many
      named after_tag tagged value_at
  p18 = client-takes p17 (body_frame delivered) ([]) refl (λ e. absurd (false≢true e)) refl

  p19 : Pair example_client example_server c9 s10
  unfolding method_at header_at plain_method plain_header reading.method_at reading.args_at reading.field_at with_id
      header_reading.header_at header_reading.properties_at header_reading.optional_at table_at elements many
      named after_tag tagged value_at
  p19 =
      server-asks p18 (Ask.Flow 1 false) ((one (flow_as kinds.ChannelFlow false)) ∷ []) refl
      (record { method = refl; header = tt; text = tt }) refl refl

  p20 : Pair example_client example_server c10 s10
  unfolding method_at header_at plain_method plain_header reading.method_at reading.args_at reading.field_at with_id
      header_reading.header_at header_reading.properties_at header_reading.optional_at table_at elements many
      named after_tag tagged value_at
  p20 = client-takes p19 (one (flow_as kinds.ChannelFlow false)) ([]) refl (λ e. absurd (false≢true e)) refl

  p21 : Pair example_client example_server c10 s11
  unfolding method_at header_at plain_method plain_header reading.method_at reading.args_at reading.field_at with_id
      header_reading.header_at header_reading.properties_at header_reading.optional_at table_at elements many
      named after_tag tagged value_at
  p21 = server-takes p20 (one (flow_as kinds.ChannelFlowOk false)) ([]) refl (λ e. absurd (false≢true e)) refl

  p22 : Pair example_client example_server c11 s11
  unfolding method_at header_at plain_method plain_header reading.method_at reading.args_at reading.field_at with_id
      header_reading.header_at header_reading.properties_at header_reading.optional_at table_at elements many
      named after_tag tagged value_at
  p22 =
      client-asks p21 (Ask.Send 1 (Plain select)) ((one select) ∷ []) refl
      (record { method = refl; header = tt; text = tt }) refl refl

  p23 : Pair example_client example_server c11 s12
  unfolding method_at header_at plain_method plain_header reading.method_at reading.args_at reading.field_at with_id
      header_reading.header_at header_reading.properties_at header_reading.optional_at table_at elements many
      named after_tag tagged value_at
  p23 = server-takes p22 (one select) ([]) refl (λ e. absurd (false≢true e)) refl

  p24 : Pair example_client example_server c11 s13
  unfolding method_at header_at plain_method plain_header reading.method_at reading.args_at reading.field_at with_id
      header_reading.header_at header_reading.properties_at header_reading.optional_at table_at elements many
      named after_tag tagged value_at
  p24 =
      server-asks p23 (Ask.Send 1 (Plain select_ok)) ((one select_ok) ∷ []) refl
      (record { method = refl; header = tt; text = tt }) refl refl

  p25 : Pair example_client example_server c12 s13
  unfolding method_at header_at plain_method plain_header reading.method_at reading.args_at reading.field_at with_id
      header_reading.header_at header_reading.properties_at header_reading.optional_at table_at elements many
      named after_tag tagged value_at
  p25 = client-takes p24 (one select_ok) ([]) refl (λ e. absurd (false≢true e)) refl

  p26 : Pair example_client example_server c13 s13
  unfolding method_at header_at plain_method plain_header reading.method_at reading.args_at reading.field_at with_id
      header_reading.header_at header_reading.properties_at header_reading.optional_at table_at elements many
      named after_tag tagged value_at
  p26 =
      client-asks p25 (Ask.CloseChannel 1 200 [] no_cause) ((one (close_as kinds.ChannelClose 200 [])) ∷ []) refl
      (record { method = refl; header = tt; text = (omega arith, tt) }) refl refl

  p27 : Pair example_client example_server c13 s14
  unfolding method_at header_at plain_method plain_header reading.method_at reading.args_at reading.field_at with_id
      header_reading.header_at header_reading.properties_at header_reading.optional_at table_at elements many
      named after_tag tagged value_at
  p27 =
      server-asks p26 (Ask.CloseChannel 1 404 [] no_cause) ((one (close_as kinds.ChannelClose 404 [])) ∷ []) refl
      (record { method = refl; header = tt; text = (omega arith, tt) }) refl refl

  p28 : Pair example_client example_server c13 s15
  unfolding method_at header_at plain_method plain_header reading.method_at reading.args_at reading.field_at with_id
      header_reading.header_at header_reading.properties_at header_reading.optional_at table_at elements many
      named after_tag tagged value_at
  p28 = server-takes p27 (one (close_as kinds.ChannelClose 200 [])) ([]) refl (λ e. absurd (false≢true e)) refl

  p29 : Pair example_client example_server c14 s15
  unfolding method_at header_at plain_method plain_header reading.method_at reading.args_at reading.field_at with_id
      header_reading.header_at header_reading.properties_at header_reading.optional_at table_at elements many
      named after_tag tagged value_at
  p29 =
      client-takes p28 (one (close_as kinds.ChannelClose 404 [])) ((one channel_close_ok) ∷ []) refl
      (λ e. absurd (false≢true e)) refl

  p30 : Pair example_client example_server c14 s16
  unfolding method_at header_at plain_method plain_header reading.method_at reading.args_at reading.field_at with_id
      header_reading.header_at header_reading.properties_at header_reading.optional_at table_at elements many
      named after_tag tagged value_at
  p30 = server-takes p29 (one channel_close_ok) ([]) refl (λ e. absurd (false≢true e)) refl

  p31 : Pair example_client example_server c15 s16
  unfolding method_at header_at plain_method plain_header reading.method_at reading.args_at reading.field_at with_id
      header_reading.header_at header_reading.properties_at header_reading.optional_at table_at elements many
      named after_tag tagged value_at
  p31 = client-takes p30 (one channel_close_ok) ([]) refl (λ e. absurd (false≢true e)) refl

  p32 : Pair example_client example_server c16 s16
  unfolding method_at header_at plain_method plain_header reading.method_at reading.args_at reading.field_at with_id
      header_reading.header_at header_reading.properties_at header_reading.optional_at table_at elements many
      named after_tag tagged value_at
  p32 =
      client-asks p31 (Ask.Close 200 [] no_cause) ((zero (close_as kinds.ConnectionClose 200 [])) ∷ []) refl
      (record { method = refl; header = tt; text = (omega arith, tt) }) refl refl

  p33 : Pair example_client example_server c16 s17
  unfolding method_at header_at plain_method plain_header reading.method_at reading.args_at reading.field_at with_id
      header_reading.header_at header_reading.properties_at header_reading.optional_at table_at elements many
      named after_tag tagged value_at
  p33 =
      server-asks p32 (Ask.Close 320 [] no_cause) ((zero (close_as kinds.ConnectionClose 320 [])) ∷ []) refl
      (record { method = refl; header = tt; text = (omega arith, tt) }) refl refl

  p34 : Pair example_client example_server c16 s18
  unfolding method_at header_at plain_method plain_header reading.method_at reading.args_at reading.field_at with_id
      header_reading.header_at header_reading.properties_at header_reading.optional_at table_at elements many
      named after_tag tagged value_at
  p34 =
      server-takes p33 (zero (close_as kinds.ConnectionClose 200 [])) ([]) refl
      (λ e n. same-above n (frames_put c16) (frames_taken s17) refl refl refl) refl

  p35 : Pair example_client example_server c17 s18
  unfolding method_at header_at plain_method plain_header reading.method_at reading.args_at reading.field_at with_id
      header_reading.header_at header_reading.properties_at header_reading.optional_at table_at elements many
      named after_tag tagged value_at
  p35 =
      client-takes p34 (zero (close_as kinds.ConnectionClose 320 [])) ((zero close_ok) ∷ []) refl
      (λ e n. same-above n (frames_put s18) (frames_taken c16) refl refl refl) refl

  p36 : Pair example_client example_server c17 s19
  unfolding method_at header_at plain_method plain_header reading.method_at reading.args_at reading.field_at with_id
      header_reading.header_at header_reading.properties_at header_reading.optional_at table_at elements many
      named after_tag tagged value_at
  p36 =
      server-takes p35 (zero close_ok) ([]) refl
      (λ e n. same-above n (frames_put c17) (frames_taken s18) refl refl refl) refl

  p37 : Pair example_client example_server c18 s19
  unfolding method_at header_at plain_method plain_header reading.method_at reading.args_at reading.field_at with_id
      header_reading.header_at header_reading.properties_at header_reading.optional_at table_at elements many
      named after_tag tagged value_at
  p37 =
      client-takes p36 (zero close_ok) ([]) refl
      (λ e n. same-above n (frames_put s19) (frames_taken c17) refl refl refl) refl

abbrev all_small : List ℕ → Bool
all_small [] = true
all_small (octet ∷ octets) = cond (nat_lt octet 256) (all_small octets) false

pub are-octets : (octets : List ℕ) → all_small octets ≡ true → AreOctets octets
are-octets [] e = tt
are-octets (octet ∷ octets) e = here (nat_lt octet 256) refl e (are-octets octets)
  where
    here : (b : Bool) → nat_lt octet 256 ≡ b → cond b (all_small octets) false ≡ true
        → (all_small octets ≡ true → AreOctets octets) → AreOctets (octet ∷ octets)
    here true small e more = (ltb-true octet 256 small, more e)
    here false small e more = absurd (false≢true e)

client-fits : ConfigFits example_client
unfolding plain_method
client-fits = record {
  channel_least = omega arith;
  channel_most = omega arith;
  frame_least = omega arith;
  frame_most = omega arith;
  body_most = omega arith;
  heartbeat_most = omega arith;
  hello = (
    (omega arith, (omega arith, tt)),
    (omega arith, are-octets (codes "PLAIN") refl),
    (omega arith, tt),
    (omega arith, are-octets (codes "en_US") refl),
    (omega arith, are-octets (codes "/") refl),
  );
  greeting_short = omega arith;
}

server-fits : ConfigFits example_server
unfolding plain_method
server-fits = record {
  channel_least = omega arith;
  channel_most = omega arith;
  frame_least = omega arith;
  frame_most = omega arith;
  body_most = omega arith;
  heartbeat_most = omega arith;
  hello = (
    (omega arith, (omega arith, tt)),
    (omega arith, are-octets (codes "PLAIN") refl),
    (omega arith, are-octets (codes "en_US") refl),
  );
  greeting_short = omega arith;
}

pub example-is-pair : MethodReadsBack → ExampleIsPair
unfolding method_at header_at plain_method plain_header reading.method_at reading.args_at reading.field_at with_id
    header_reading.header_at header_reading.properties_at header_reading.optional_at table_at elements many
    named after_tag tagged value_at
example-is-pair reads = record {
  client_fits = client-fits;
  server_fits = server-fits;
  pair = p37 reads (config-writes reads Client example_client client-fits)
      (config-writes reads Server example_server server-fits);
  client_closed = refl;
  server_closed = refl;
  client_agreed = refl;
  server_agreed = refl;
  by_server = refl;
  by_client = refl;
}
