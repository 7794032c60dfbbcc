-- What a verdict puts stands on the frame's channel or on channel 0, and is no connection.close where the end goes on.
use Rattle.std.proofs.Common.{◌≡◌, Bool, true, false, cond, not, ◌&&◌, ℕ, suc, ◌==◌, arith, nat_lt}
use Rattle.std.proofs.Common.{nat_le, List, [], ◌∷◌, map, length, Option, Some, None, refl, ap, ◌∙◌}
use Rattle.std.proofs.lemmas.Bool.{false≢true, and_parts, ne_eqb}
use Rattle.amqp_method.specs.declared.kinds.Kind.TheVariants as kinds
use Rattle.amqp_model.specs.Wire.Notes.{Role, Client, Server, is_client, Kind, OpenOk, Close, CloseOk, FlowOk, Other}
use Rattle.amqp_model.specs.History.Verdict as lives
use Rattle.amqp_model.specs.History.Verdict.{verdict_at}
use Rattle.amqp_model.specs.Wire.Methods.{MethodKind, Method, class_of, sends, same_kind, carries_content, is_reply}
use Rattle.amqp_model.specs.Wire.Methods.{is_request}
use Rattle.amqp_model.specs.Wire.Gathering.{Gathering, HeaderDue, Step, Keeps, Completes, Breaks, Misfit, step}
use Rattle.amqp_model.specs.Wire.Readings.{Reading, Calls, UnknownMethod, MalformedMethod, HeaderOf, MalformedHeader}
use Rattle.amqp_model.specs.Wire.Readings.{BodyOf, Beat, reading, is_call, kind_of, payload_of}
use Rattle.amqp_model.specs.History.Histories.{Put, History, closes_connection, entries_on}
use Rattle.amqp_model.specs.End.Channels.{Life, Channel, Free, Closing, state_of, Phase, Handshake}
use Rattle.amqp_model.specs.End.Channels.{Closed, Failed, Agreed, AwaitsStart, AwaitsStartOk}
use Rattle.amqp_model.specs.End.Channels.{AwaitsTune, AwaitsTuneOk, AwaitsOpen, AwaitsOpenOk}
use Rattle.amqp_model.specs.End.Channels as channels
use Rattle.amqp_model.specs.History.Negotiation.{Config, Hello, OfClient, start_ok, connection_open, tunes_too_small}
use Rattle.amqp_model.specs.History.Negotiation.{agreed_in, in_range}
use Rattle.amqp_model.specs.End.Closes.{Owed, AllReadBack, connection_close_ok, frame_of}
use Rattle.amqp_model.specs.End.Events.{Event, AnswerAsked, LoginAsked, OpenAsked, FrameVerdict, Faults, Fault}
use Rattle.amqp_model.specs.End.FrameVerdict.{Facts, first_of, awaits_in, as_lives, lives_verdict, closed_by, asked_or}
use Rattle.amqp_model.specs.End.FrameVerdict.{on_awaited, is_awaited, on_connection, by_state, on_open, on_idle}
use Rattle.amqp_model.specs.End.FrameVerdict.{on_matched, part_on, on_part, after_part, on_message, is_no_channel}
use Rattle.amqp_model.specs.End.FrameVerdict.{is_gathering, on_rest, when_over, when_leaving, when_heartbeat}
use Rattle.amqp_model.specs.End.FrameVerdict.{when_channel_closing, when_unread, when_handshake, when_content, when_connection}
use Rattle.amqp_model.specs.End.FrameVerdict.{when_misdirected, when_no_channel, answers_first, MOST_REQUESTS}
use Rattle.amqp_model.specs.End.FrameVerdict.{verdict_on, methods_put}
use Rattle.amqp_model.specs.End.EndVerdict.{goes_on}
use Rattle.amqp_model.specs.End.LawfulHistories.{then_put}
use Rattle.amqp_model.proofs.Acting.{reads-back}

-- a method that channel n + 1 does not see
abbrev pub IsAway : ℕ → Owed → Type 0
IsAway n owed = ((owed.channel == suc n) ≡ false) × (same_kind owed.method.kind kinds.ConnectionClose ≡ false)

abbrev pub AllAway : ℕ → List Owed → Type 0
AllAway n [] = Unit {0}
AllAway n (owed ∷ later) = IsAway n owed × AllAway n later

pub entries-away : (n : ℕ) (owed : List Owed) (history : History) → AllReadBack owed → AllAway n owed
    → entries_on (suc n) (then_put (map frame_of owed) history) ≡ entries_on (suc n) history
entries-away n [] history back away = refl
entries-away n (owed ∷ later) history back away =
    entries-away n later (Put (frame_of owed) ∷ history) back.1 away.1 ∙ unseen
  where
    quiet : is_call kinds.ConnectionClose (reading (frame_of owed)) ≡ false
    quiet = ap (is_call kinds.ConnectionClose) (reads-back owed.channel owed.method back.0) ∙ away.0.1

    not_close : (b : Bool) → is_call kinds.ConnectionClose (reading (frame_of owed)) ≡ false
        → (b && is_call kinds.ConnectionClose (reading (frame_of owed))) ≡ false
    not_close true e = e
    not_close false e = refl

    unseen : entries_on (suc n) (Put (frame_of owed) ∷ history) ≡ entries_on (suc n) history
    unseen =
        let here : (owed.channel == suc n) ≡ false = away.0.0 in
        let shut : closes_connection (frame_of owed) ≡ false = not_close (owed.channel == 0) quiet in
        simp (here, shut)

start_ok-quiet : (config : Config Client) → same_kind (start_ok config).kind kinds.ConnectionClose ≡ false
start_ok-quiet config = go config.hello
  where
    go : (hello : Hello Client)
        → same_kind (start_ok (record config { hello = hello })).kind kinds.ConnectionClose ≡ false
    go (OfClient properties mechanism response locale virtual_host) = refl

connection_open-quiet : (config : Config Client)
    → same_kind (connection_open config).kind kinds.ConnectionClose ≡ false
connection_open-quiet config = go config.hello
  where
    go : (hello : Hello Client)
        → same_kind (connection_open (record config { hello = hello })).kind kinds.ConnectionClose ≡ false
    go (OfClient properties mechanism response locale virtual_host) = refl

start_ok-no-answer : (config : Config Client) → same_kind (start_ok config).kind kinds.ConnectionCloseOk ≡ false
start_ok-no-answer config = go config.hello
  where
    go : (hello : Hello Client)
        → same_kind (start_ok (record config { hello = hello })).kind kinds.ConnectionCloseOk ≡ false
    go (OfClient properties mechanism response locale virtual_host) = refl

connection_open-no-answer : (config : Config Client)
    → same_kind (connection_open config).kind kinds.ConnectionCloseOk ≡ false
connection_open-no-answer config = go config.hello
  where
    go : (hello : Hello Client)
        → same_kind (connection_open (record config { hello = hello })).kind kinds.ConnectionCloseOk ≡ false
    go (OfClient properties mechanism response locale virtual_host) = refl

start_ok-plain : (config : Config Client) → carries_content (start_ok config) ≡ false
start_ok-plain config = go config.hello
  where
    go : (hello : Hello Client) → carries_content (start_ok (record config { hello = hello })) ≡ false
    go (OfClient properties mechanism response locale virtual_host) = refl

connection_open-plain : (config : Config Client) → carries_content (connection_open config) ≡ false
connection_open-plain config = go config.hello
  where
    go : (hello : Hello Client) → carries_content (connection_open (record config { hello = hello })) ≡ false
    go (OfClient properties mechanism response locale virtual_host) = refl

-- no connection.close
abbrev pub IsQuiet : Method → Type 0
IsQuiet method = same_kind method.kind kinds.ConnectionClose ≡ false

-- no connection.close-ok either, and none that carries a content
abbrev pub IsMild : Method → Type 0
IsMild method =
    IsQuiet method × (same_kind method.kind kinds.ConnectionCloseOk ≡ false) × (carries_content method ≡ false)

abbrev pub Each : (Owed → Type 0) → List Owed → Type 0
Each P [] = Unit {0}
Each P (owed ∷ later) = P owed × Each P later

-- Whatever holds of each method that a verdict owes, given that it stands on the frame's channel or on channel 0, that
-- it is no connection.close, and that it is connection.close-ok only as the answer to a close.
module _ {role : Role} (facts : Facts role) (P : Owed → Type 0) (at_zero : (method : Method) → IsMild method
    → P (record { channel = 0; method = method })) (here : (method : Method) → IsMild method
    → P (record { channel = facts.number; method = method })) (said : Reading) (answer : (facts.number == 0) ≡ true
    → is_call kinds.ConnectionClose said ≡ true → P connection_close_ok) where
  abbrev Away : FrameVerdict → Type 0
  Away v = goes_on v ≡ true → Each P (methods_put facts v)

  faulted : (fault : Fault) → Away (Faults fault)
  faulted fault g = absurd (false≢true g)

  either : (b : Bool) (one other : FrameVerdict) → Away one → Away other → Away (cond b one other)
  either true one other h k = h
  either false one other h k = k

  -- what is decided by a test, knowing how it came out
  on-test : (b : Bool) (one other : FrameVerdict) → (b ≡ true → Away one) → (b ≡ false → Away other)
      → Away (cond b one other)
  on-test true one other h k = h refl
  on-test false one other h k = k refl

  abbrev MayAway : Option FrameVerdict → Type 0
  MayAway (Some v) = Away v
  MayAway None = Unit {0}

  after : (rule : Option FrameVerdict) (later : List (Option FrameVerdict)) (last : FrameVerdict) → MayAway rule
      → Away (first_of later last) → Away (first_of (rule ∷ later) last)
  after (Some v) later last h k = h
  after None later last h k = k

  lives-away : (r : Reading) (v : lives.Verdict) → Away (as_lives facts.number r v)
  lives-away r (lives.Fault code) = λ g. absurd (false≢true g)
  lives-away r (lives.GoesOn event None) = λ g. tt
  lives-away r (lives.GoesOn event (Some OpenOk)) = λ g. (here _ (refl, refl, refl), tt)
  lives-away r (lives.GoesOn event (Some CloseOk)) = λ g. (here _ (refl, refl, refl), tt)
  lives-away r (lives.GoesOn event (Some (FlowOk active))) = λ g. (here _ (refl, refl, refl), tt)
  lives-away r (lives.GoesOn event (Some kind)) = λ g. tt

  over : (phase : Phase) → MayAway (when_over phase)
  over Closed = λ g. absurd (false≢true g)
  over Failed = λ g. absurd (false≢true g)
  over phase = tt

  close-away : (method : Method) → said ≡ Calls method → (facts.number == 0) ≡ true
      → same_kind method.kind kinds.ConnectionClose ≡ true → Away (closed_by method)
  close-away method is zero closes = λ g. (answer zero (ap (is_call kinds.ConnectionClose) is ∙ closes), tt)

  leaving : (phase : Phase) (r : Reading) → said ≡ r → MayAway (when_leaving phase facts.number r)
  leaving Phase.Closing r is =
      on-test ((facts.number == 0) && is_call kinds.ConnectionClose r) _ _
      (λ both g. (
        answer (and_parts _ _ both).0 (ap (is_call kinds.ConnectionClose) is ∙ (and_parts _ _ both).1),
        tt,
      )) (λ other. either ((facts.number == 0) && is_call kinds.ConnectionCloseOk r) _ _ (λ g. tt) (λ g. tt))
  leaving phase r is = tt

  beat : (r : Reading) → MayAway (when_heartbeat facts.number r)
  beat (Beat empty) = either ((facts.number == 0) && empty) _ _ (λ g. tt) (λ g. absurd (false≢true g))
  beat r = tt

  closing : (channel : Channel) (r : Reading) → MayAway (when_channel_closing facts channel r)
  closing Closing r = lives-away r (verdict_at role (state_of facts.channel) (awaits_in facts.channel) (kind_of r))
  closing channel r = tt

  unread : (r : Reading) → MayAway (when_unread r)
  unread UnknownMethod = λ g. absurd (false≢true g)
  unread MalformedMethod = λ g. absurd (false≢true g)
  unread r = tt

  asks : (gated : Bool) (event : Event) (at_once : FrameVerdict) → Away at_once
      → Away (asked_or gated event at_once)
  asks true event at_once h = λ g. tt
  asks false event at_once h = h

  awaited : (r : Role) (config : Config r) (agreed : Option Agreed) (step : channels.HandshakeStep) (method : Method)
      → Away (on_awaited r config agreed step method)
  awaited Client config agreed AwaitsStart method =
      asks config.gated AnswerAsked _
      (λ g. (at_zero (start_ok config) (start_ok-quiet config, start_ok-no-answer config, start_ok-plain config), tt))
  awaited Client config agreed AwaitsTune method =
      either (tunes_too_small method) _ _ (λ g. absurd (false≢true g))
      (λ g. (
        at_zero _ (refl, refl, refl),
        (
          at_zero (connection_open config)
              (connection_open-quiet config, connection_open-no-answer config, connection_open-plain config),
          tt,
        ),
      ))
  awaited Client config agreed AwaitsOpenOk method = λ g. tt
  awaited Server config agreed AwaitsStartOk method =
      asks config.gated LoginAsked _ (λ g. (at_zero _ (refl, refl, refl), tt))
  awaited Server config agreed AwaitsTuneOk method =
      either (in_range config (agreed_in method)) _ _ (λ g. tt) (λ g. absurd (false≢true g))
  awaited Server config agreed AwaitsOpen method =
      asks config.gated OpenAsked _ (λ g. (at_zero _ (refl, refl, refl), tt))
  awaited Client config agreed step method = λ g. absurd (false≢true g)
  awaited Server config agreed step method = λ g. absurd (false≢true g)

  handshake : (phase : Phase) (r : Reading) → said ≡ r → MayAway (when_handshake facts phase r)
  handshake (Handshake step) (Calls method) is =
      on-test (facts.number == 0) _ _
      (λ zero. on-test (same_kind method.kind kinds.ConnectionClose) _ _ (close-away method is zero)
      (λ other. either (is_client role && same_kind method.kind kinds.ConnectionSecure) _ _
      (λ g. absurd (false≢true g))
      (either (is_awaited step method.kind) _ _ (awaited role facts.config facts.agreed step method)
      (λ g. absurd (false≢true g)))))
      (λ above g. absurd (false≢true g))
  handshake (Handshake step) r is = λ g. absurd (false≢true g)
  handshake phase r is = tt

  parted : (s : Step) → Away (after_part facts.number s)
  parted (Completes content) = λ g. tt
  parted (Keeps kept) = λ g. tt
  parted (Breaks Misfit.PastSize) = λ g. absurd (false≢true g)
  parted (Breaks misfit) = λ g. absurd (false≢true g)

  part : (kept : Gathering) (r : Reading) → Away (on_part facts kept r)
  part (HeaderDue method) MalformedHeader = λ g. absurd (false≢true g)
  part (HeaderDue method) (HeaderOf size properties) =
      either (nat_lt facts.config.max_body size) _ _ (λ g. (here _ (refl, refl, refl), tt)) (parted _)
  part kept r = parted (step kept (payload_of r))

  part-on : (channel : Channel) (r : Reading) → Away (part_on facts channel r)
  part-on (channels.Open life) r = part life.content r
  part-on Free r = λ g. absurd (false≢true g)
  part-on channel r = λ g. absurd (false≢true g)

  content : (r : Reading) → MayAway (when_content facts r)
  content (HeaderOf size properties) =
      either (is_no_channel facts) _ _ (λ g. absurd (false≢true g))
      (part-on facts.channel (HeaderOf size properties))
  content MalformedHeader =
      either (is_no_channel facts) _ _ (λ g. absurd (false≢true g)) (part-on facts.channel MalformedHeader)
  content (BodyOf octets) =
      either (is_no_channel facts) _ _ (λ g. absurd (false≢true g)) (part-on facts.channel (BodyOf octets))
  content r = tt

  if-some : (b : Bool) (v : FrameVerdict) → Away v → MayAway (cond b (Some v) None)
  if-some true v h = h
  if-some false v h = tt

  unless-some : (b : Bool) (v : FrameVerdict) → Away v → MayAway (cond b None (Some v))
  unless-some true v h = tt
  unless-some false v h = h

  connection : (r : Role) (method : Method) → said ≡ Calls method → (facts.number == 0) ≡ true
      → Away (on_connection r method)
  connection r method is zero =
      on-test (same_kind method.kind kinds.ConnectionClose) _ _ (close-away method is zero)
      (λ other. either (is_client r && same_kind method.kind kinds.ConnectionSecure) _ _
      (λ g. absurd (false≢true g))
      (either (is_client r && same_kind method.kind kinds.ConnectionBlocked) _ _ (λ g. tt)
      (either (is_client r && same_kind method.kind kinds.ConnectionUnblocked) _ _ (λ g. tt)
      (λ g. absurd (false≢true g)))))

  message : (method : Method) → Away (on_message facts.number method)
  message method = either (carries_content method) _ _ (λ g. tt) (λ g. tt)

  matched : (r : Role) (requests : List MethodKind) (method : Method)
      → Away (on_matched r facts.number requests method)
  matched Client requests method =
      either (is_reply method.kind && not (answers_first method.kind requests)) _ _
      (λ g. absurd (false≢true g)) (message method)
  matched Server requests method =
      either (is_request method && nat_le MOST_REQUESTS (length requests)) _ _
      (λ g. absurd (false≢true g)) (message method)

  by-lives : (r : Reading) (kind : Kind) → Away (lives_verdict facts r kind)
  by-lives r kind = lives-away r (verdict_at role (state_of facts.channel) (awaits_in facts.channel) kind)

  idle : (life : Life) (method : Method) (kind : Kind) → Away (on_idle facts life method kind)
  idle life method (Other begins) = matched role life.requests method
  idle life method kind = by-lives (Calls method) kind

  opened : (life : Life) (method : Method) (kind : Kind) → Away (on_open facts life method kind)
  opened life method Close = by-lives (Calls method) Close
  opened life method kind =
      either (is_gathering life.content) _ _ (λ g. absurd (false≢true g)) (idle life method kind)

  stated : (channel : Channel) (method : Method) → Away (by_state facts channel method)
  stated (channels.Open life) method = opened life method (kind_of (Calls method))
  stated Free method = by-lives (Calls method) (kind_of (Calls method))
  stated channel method = by-lives (Calls method) (kind_of (Calls method))

  rest : (r : Reading) → said ≡ r → Away (on_rest facts r)
  rest (Calls method) is =
      after (when_connection role facts.number method) _ _
      (if-some (class_of method.kind == 10) _ (on-test (facts.number == 0) _ _ (connection role method is)
      (λ above g. absurd (false≢true g))))
      (after (when_misdirected role method) _ _ (unless-some (sends (not (is_client role)) method.kind) _
      (λ g. absurd (false≢true g)))
      (after (when_no_channel facts) _ _ (if-some (is_no_channel facts) _ (λ g. absurd (false≢true g)))
      (stated facts.channel method)))
  rest r is = λ g. absurd (false≢true g)

  each-by : (r : Reading) → said ≡ r → Away (verdict_on facts r)
  each-by r is =
      after (when_over facts.phase) _ _ (over facts.phase)
      (after (when_leaving facts.phase facts.number r) _ _ (leaving facts.phase r is)
      (after (when_heartbeat facts.number r) _ _ (beat r)
      (after (when_channel_closing facts facts.channel r) _ _ (closing facts.channel r)
      (after (when_unread r) _ _ (unread r)
      (after (when_handshake facts facts.phase r) _ _ (handshake facts.phase r is)
      (after (when_content facts r) _ _ (content r) (rest r is)))))))

  pub each-owed : Away (verdict_on facts said)
  each-owed = each-by said refl

zero-apart : (n : ℕ) → (0 == suc n) ≡ false
zero-apart n = ne_eqb 0 (suc n) (λ e. let h : 0 ≡ suc n = e in omega arith)

all-away : (n : ℕ) (owed : List Owed) → Each (IsAway n) owed → AllAway n owed
all-away n [] each = tt
all-away n (owed ∷ later) each = (each.0, all-away n later each.1)

-- where the frame's channel is another, the channel sees nothing of it
pub verdict-away : {role : Role} (facts : Facts role) (n : ℕ) → (facts.number == suc n) ≡ false → (r : Reading)
    → goes_on (verdict_on facts r) ≡ true → AllAway n (methods_put facts (verdict_on facts r))
verdict-away facts n apart r g =
    all-away n (methods_put facts (verdict_on facts r))
    (each-owed facts (IsAway n) (λ method mild. (zero-apart n, mild.0)) (λ method mild. (apart, mild.0)) r
    (λ zero closes. (zero-apart n, refl)) g)

-- on channel 0 all that is owed stands on channel 0
pub verdict-zero : {role : Role} (facts : Facts role) → facts.number ≡ 0 → (r : Reading)
    → goes_on (verdict_on facts r) ≡ true
    → Each (λ owed. owed.channel ≡ 0) (methods_put facts (verdict_on facts r))
verdict-zero facts e r g =
    each-owed facts (λ owed. owed.channel ≡ 0) (λ method mild. refl) (λ method mild. e) r (λ zero closes. refl) g
