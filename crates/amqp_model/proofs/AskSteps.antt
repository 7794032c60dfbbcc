-- What an end keeps follows each ask that it accepts.
use Rattle.std.proofs.Common.{◌≡◌, inl, inr, Bool, true, false, cond, not, ◌&&◌, ◌||◌, nat_lt, ℕ, zero}
use Rattle.std.proofs.Common.{suc, ◌==◌, List, [], ◌∷◌, map, length, Option, Some, None, refl, sym, ap}
use Rattle.std.proofs.Common.{◌∙◌, subst, arith}
use Rattle.std.proofs.lemmas.Bool.{true≢false, eq-eqb, lt-ltb}
use Rattle.amqp_method.specs.declared.kinds.Kind.TheVariants as kinds
use Rattle.amqp_model.specs.Wire.Frame.{Frame}
use Rattle.amqp_model.specs.Wire.Notes.{Role, Client, Server, Other}
use Rattle.amqp_model.specs.Wire.Methods.{MethodKind, Method, header_at, ReadsBack, is_request, is_reply, class_of}
use Rattle.amqp_model.specs.Wire.Methods.{carries_content, same_kind, bit_at}
use Rattle.amqp_model.specs.Wire.Methods as methods
use Rattle.amqp_model.specs.Wire.Contents.{Payload, pieces, room_in}
use Rattle.amqp_model.specs.Wire.Readings.{Reading, Calls, reading, header_reading, kind_of}
use Rattle.amqp_model.specs.History.Histories.{Put, History, PutHere}
use Rattle.amqp_model.specs.End.Channels.{Life, Phase, Handshake, Running, Closed, Failed, End}
use Rattle.amqp_model.specs.End.Channels as channels
use Rattle.amqp_model.specs.History.Negotiation.{Config}
use Rattle.amqp_model.specs.End.Closes.{Cause, method_frame, flow_as, close_for, without_arguments}
use Rattle.amqp_model.specs.End.Events.{Message, Plain, Whole, method_of}
use Rattle.amqp_model.specs.End.FrameVerdict.{answers_first}
use Rattle.amqp_model.specs.End.Asks.{Ask, Refusal, frame_max, is_running, lowest_free, opens_on, channel_max, life_of}
use Rattle.amqp_model.specs.End.Asks.{in_life, method_asked, refusal, frames_asked, payload_frame, message_payloads}
use Rattle.amqp_model.specs.End.Asks.{reply_pending, no_such_request, is_made, Puts, ask_verdict}
use Rattle.amqp_model.specs.End.LawfulHistories.{then_put}
use Rattle.amqp_model.specs.History.Replies.{request_made}
use Rattle.amqp_model.specs.End.Machine.{is_open_method, life_after, open_after_putting, channel_after, answers_in_turn}
use Rattle.amqp_model.specs.End.Machine.{may_put_here, end_after, end_after_put}
use Rattle.amqp_model.specs.Laws.EndLaws.{AskFollows}
use Rattle.amqp_model.proofs.Acting.{reads-back}
use Rattle.amqp_model.proofs.Asking.{Accepted, accepted, accepted-none, not-when, has-life, free-found, is-free, IsPart}
use Rattle.amqp_model.proofs.Asking.{AllParts, first-false, part-kind, frame-channel, bodies-are-parts, sent-kind}
use Rattle.amqp_model.proofs.Asking.{message-class}
use Rattle.amqp_model.proofs.Walking.{is_none, may_ask_here, quiet-asks, MayPut, IsKeptByPuts, Stands, stands-kept}

pub is-running : (phase : Phase) → not (is_running phase) ≡ false → phase ≡ Running
is-running Running e = refl
is-running (Handshake step) e = absurd (true≢false e)
is-running Phase.Closing e = absurd (true≢false e)
is-running Closed e = absurd (true≢false e)
is-running Failed e = absurd (true≢false e)

module _ (P : (role : Role) → Config role → End → History → Type 0) (k : IsKeptByPuts P) where
  -- one method put where it fits
  one-follows : (role : Role) (config : Config role) (end : End) (history : History) (c : ℕ) (method : Method)
      → P role config end history → ReadsBack method → MayPut role end c (Calls method)
      → P role config (end_after_put role config (method_frame c method ∷ []) end)
      (then_put (method_frame c method ∷ []) history)
  one-follows role config end history c method stands back fits =
      k.put role config end history (method_frame c method) stands
      (subst (MayPut role end c) (sym (reads-back c method back)) fits)

-- flow and close, where the channel is Open
may-flow : (role : Role) (life : Life) (active : Bool)
    → may_put_here role (channels.Open life) (Calls (flow_as kinds.ChannelFlow active)) ≡ true
may-flow Client life active = refl
may-flow Server life active = refl

may-close : (role : Role) (life : Life) (code : ℕ) (text : List ℕ) (cause : Cause)
    → may_put_here role (channels.Open life) (Calls (close_for kinds.ChannelClose code text cause)) ≡ true
may-close Client life code text cause = refl
may-close Server life code text cause = refl

-- A message.

-- an Open channel stays Open where a message is put
after-message : (role : Role) (r : Reading) (frame : Frame) (life : Life) (begins : Bool) → kind_of r ≡ Other begins
    → (new : Life) × (channel_after role (PutHere r frame) (channels.Open life) ≡ channels.Open new)
after-message role r frame life begins e =
    (life_after role (PutHere r frame) life, ap (open_after_putting role (PutHere r frame) life) e)

-- a reading that is no method
abbrev calls_one : Reading → Bool
calls_one (Calls method) = true
calls_one r = false

part-in-turn : (role : Role) (requests : List MethodKind) (r : Reading) → calls_one r ≡ false
    → answers_in_turn role requests r ≡ true
part-in-turn Client requests r e = refl
part-in-turn Server requests (Calls method) e = absurd (true≢false e)
part-in-turn Server requests r e = refl

module _ (P : (role : Role) → Config role → End → History → Type 0) (k : IsKeptByPuts P) where
  -- the end is Running and has the channel Open, and stands for its history
  abbrev IsOpenAt : (role : Role) → Config role → End → History → ℕ → Type 0
  IsOpenAt role config end history m =
      P role config end history × (end.phase ≡ Running)
      × ((life : Life) × (end.channels (suc m) ≡ channels.Open life))

  still-open : (role : Role) (config : Config role) (end : End) (history : History) (frame : Frame) (m : ℕ)
      (begins : Bool) (life : Life) → frame.channel ≡ suc m → P role config end history → end.phase ≡ Running
      → end.channels (suc m) ≡ channels.Open life → kind_of (reading frame) ≡ Other begins
      → answers_in_turn role life.requests (reading frame) ≡ true
      → may_ask_here role (channels.Open life) (reading frame) ≡ true
      → IsOpenAt role config (end_after role config frame.channel (PutHere (reading frame) frame) end)
      (Put frame ∷ history) m
  still-open role config end history frame m begins life here stands runs opened kind in_turn asks = (
    k.put role config end history frame stands
        (inr (
          runs,
          may,
          subst (λ channel. may_ask_here role channel (reading frame) ≡ true)
              (sym (ap end.channels here ∙ opened)) asks,
        )),
    subst
        (λ c. (end_after role config c (PutHere (reading frame) frame) end).phase ≡ Running) (sym here) runs,
    subst
        (λ c. (life : Life) × ((end_after role config c (PutHere (reading frame) frame) end).channels (suc m)
        ≡ channels.Open life)) (sym here) (new.0, goes-on),
  )
    where
      may : may_put_here role (end.channels frame.channel) (reading frame) ≡ true
      may =
          subst (λ channel. may_put_here role channel (reading frame) ≡ true) (sym (ap end.channels here ∙ opened))
          (let closed : is_open_method (kind_of (reading frame)) ≡ false = ap is_open_method kind in simp (closed, in_turn))

      new : (new : Life)
          × (channel_after role (PutHere (reading frame) frame) (channels.Open life) ≡ channels.Open new)
      new = after-message role (reading frame) frame life begins kind

      goes-on : (end_after role config (suc m) (PutHere (reading frame) frame) end).channels (suc m)
          ≡ channels.Open new.0
      goes-on = let same : (suc m == suc m) ≡ true = eq-eqb (suc m) (suc m) refl in simp (same, runs, opened) new.1

part-reads : (c : ℕ) (payload : Payload) → IsPart payload
    → calls_one (reading (payload_frame c payload)) ≡ false
part-reads c (Payload.Calls method) p = absurd p
part-reads c (Payload.Header size properties) p =
    go (header_at (payload_frame c (Payload.Header size properties)).payload)
  where
    go : (header : Option methods.Header) → calls_one (header_reading header) ≡ false
    go None = refl
    go (Some header) = refl
part-reads c (Payload.Body octets) p = refl
part-reads c Payload.Unread p = refl

-- what is no method makes no request
part-quiet : (r : Reading) → calls_one r ≡ false → request_made r ≡ []
part-quiet (Calls method) e = absurd (true≢false e)
part-quiet r e = refl

module _ (P : (role : Role) → Config role → End → History → Type 0) (k : IsKeptByPuts P) where
  parts-follow : (role : Role) (config : Config role) (m : ℕ) (payloads : List Payload) (end : End)
      (history : History) → AllParts payloads → IsOpenAt P k role config end history m
      → P role config (end_after_put role config (map (payload_frame (suc m)) payloads) end)
      (then_put (map (payload_frame (suc m)) payloads) history)
  parts-follow role config m [] end history parts at = at.0
  parts-follow role config m (payload ∷ later) end history parts at =
      let f = payload_frame (suc m) payload in
      parts-follow role config m later (end_after role config f.channel (PutHere (reading f) f) end)
      (Put f ∷ history) parts.1 (still-open P k role config end history f m false at.2.0
      (frame-channel (suc m) payload) at.0 at.1 at.2.1 (part-kind (suc m) payload parts.0)
      (part-in-turn role at.2.0.requests (reading f) (part-reads (suc m) payload parts.0))
      (quiet-asks role (channels.Open at.2.0) (reading f)
      (part-quiet (reading f) (part-reads (suc m) payload parts.0))))

  message-follows : (role : Role) (config : Config role) (m : ℕ) (method : Method) (payloads : List Payload)
      (end : End) (history : History) (life : Life) → AllParts payloads → ReadsBack method
      → (class_of method.kind == 20) ≡ false → P role config end history → end.phase ≡ Running
      → end.channels (suc m) ≡ channels.Open life → answers_in_turn role life.requests (Calls method) ≡ true
      → may_ask_here role (channels.Open life) (Calls method) ≡ true
      → P role config (end_after_put role config (map (payload_frame (suc m)) (Payload.Calls method ∷ payloads))
      end) (then_put (map (payload_frame (suc m)) (Payload.Calls method ∷ payloads)) history)
  message-follows role config m method payloads end history life parts back class stands runs opened in_turn asks =
      let f = method_frame (suc m) method in
      let said = reads-back (suc m) method back in
      parts-follow role config m payloads (end_after role config f.channel (PutHere (reading f) f) end)
      (Put f ∷ history) parts
      (still-open P k role config end history f m
      (carries_content method && not (same_kind method.kind kinds.BasicGetOk)) life refl stands runs opened
      (ap kind_of said ∙ sent-kind method.kind (bit_at 0 method) class)
      (subst (λ r. answers_in_turn role life.requests r ≡ true) (sym said) in_turn)
      (subst (λ r. may_ask_here role (channels.Open life) r ≡ true) (sym said) asks))

-- a server's reply was not refused
answers-then : (role : Role) (end : End) (c : ℕ) (message : Message) (life : Life)
    → end.channels c ≡ channels.Open life → no_such_request role end (Ask.Send c message) ≡ None
    → answers_in_turn role life.requests (Calls (method_of message)) ≡ true
answers-then Client end c message life opened e = refl
answers-then Server end c message life opened e =
    from (is_reply (method_of message).kind) (answers_first (method_of message).kind life.requests)
    (sym (ap (λ channel. is_reply (method_of message).kind && in_life (life_of channel)
    (λ life. not (answers_first (method_of message).kind life.requests))) opened)
    ∙ not-when _ Refusal.NoSuchRequest e)
  where
    from : (b first : Bool) → (b && not first) ≡ false → (not b || first) ≡ true
    from false first e = refl
    from true true e = refl
    from true false e = absurd (true≢false e)

-- a client's request was not refused
asks-then : (role : Role) (end : End) (c : ℕ) (message : Message) (life : Life)
    → end.channels c ≡ channels.Open life → reply_pending role end (Ask.Send c message) ≡ None
    → may_ask_here role (channels.Open life) (Calls (method_of message)) ≡ true
asks-then Server end c message life opened e = refl
asks-then Client end c message life opened e =
    from (is_request (method_of message)) life.requests
    (sym (ap (λ channel. is_request (method_of message) && in_life (life_of channel)
    (λ life. nat_lt 0 (length life.requests))) opened) ∙ not-when _ Refusal.ReplyPending e)
  where
    from : (b : Bool) (requests : List MethodKind) → (b && nat_lt 0 (length requests)) ≡ false
        → (is_none (cond b ((method_of message).kind ∷ []) []) || is_none requests) ≡ true
    from false requests e = refl
    from true [] e = refl
    from true (request ∷ later) e =
        absurd (true≢false (sym (lt-ltb 0 (length (request ∷ later)) (omega arith)) ∙ e))

module _ (P : (role : Role) → Config role → End → History → Type 0) (k : IsKeptByPuts P) where
  send-follows : (role : Role) (config : Config role) (m max c : ℕ) (message : Message) (end : End)
      (history : History) (life : Life) → ReadsBack (method_of message) → (class_of (method_of message).kind == 20)
      ≡ false → P role config end history → end.phase ≡ Running → end.channels (suc m) ≡ channels.Open life
      → answers_in_turn role life.requests (Calls (method_of message)) ≡ true
      → may_ask_here role (channels.Open life) (Calls (method_of message)) ≡ true
      → P role config (end_after_put role config (map (payload_frame (suc m)) (message_payloads max message)) end)
      (then_put (map (payload_frame (suc m)) (message_payloads max message)) history)
  send-follows role config m max c (Plain method) end history life back class stands runs opened in_turn asks =
      message-follows P k role config m method [] end history life tt back class stands runs opened in_turn asks
  send-follows role config m max c (Whole content) end history life back class stands runs opened in_turn asks =
      message-follows P k role config m content.method (Payload.Header (length content.body) content.properties
      ∷ map Payload.Body (pieces (room_in max) content.body)) end history life
      (tt, bodies-are-parts (pieces (room_in max) content.body)) back class stands runs opened in_turn asks

  -- The asks, one by one.

  open-follows : (role : Role) (config : Config role) (end : End) (history : History) → P role config end history
      → ReadsBack (without_arguments kinds.ChannelOpen) → Accepted role end Ask.Open → (free : Option ℕ)
      → lowest_free end ≡ free
      → P role config (end_after_put role config (opens_on free) end) (then_put (opens_on free) history)
  open-follows role config end history stands back a None e = stands
  open-follows Server config end history stands back a (Some number) e = absurd (let h = a.sendable in cc)
  open-follows Client config end history stands back a (Some number) e =
      one-follows P k Client config end history number (without_arguments kinds.ChannelOpen) stands back
      (inr (
        is-running end.phase (not-when _ Refusal.NotRunning a.runs),
        subst
            (λ channel. may_put_here Client channel (Calls (without_arguments kinds.ChannelOpen)) ≡ true)
            (sym (is-free (end.channels number) (free-found end.channels (channel_max end.agreed) 1 number e))) refl,
        quiet-asks Client (end.channels number) (Calls (without_arguments kinds.ChannelOpen)) refl,
      ))

  ask-follows : (role : Role) (config : Config role) (end : End) (history : History) (ask : Ask)
      → P role config end history → ReadsBack (method_asked ask) → Accepted role end ask
      → P role config (end_after_put role config (frames_asked end ask) end) (then_put (frames_asked end ask) history)
  ask-follows role config end history Ask.Open stands back a =
      open-follows role config end history stands back a (lowest_free end) refl
  ask-follows role config end history (Ask.Send c message) stands back a = by-channel c refl
    where
      by-channel : (d : ℕ) → c ≡ d
          → P role config
          (end_after_put role config (map (payload_frame c) (message_payloads (frame_max end.agreed) message)) end)
          (then_put (map (payload_frame c) (message_payloads (frame_max end.agreed) message)) history)
      by-channel zero e =
          absurd (let bad : (c == 0) ≡ false = first-false (c == 0) _ (not-when _ Refusal.BadChannel a.numbered) in
          true≢false (sym (eq-eqb c 0 e) ∙ bad))
      by-channel (suc m) e =
          let life = has-life (end.channels c) (not-when _ Refusal.NotOpen a.opened) in
          subst (λ c.
          P role config
          (end_after_put role config (map (payload_frame c) (message_payloads (frame_max end.agreed) message)) end)
          (then_put (map (payload_frame c) (message_payloads (frame_max end.agreed) message)) history)) (sym e)
          (send-follows role config m (frame_max end.agreed) c message end history life.0 back
          (message-class role c message a.sendable) stands (is-running end.phase (not-when _ Refusal.NotRunning a.runs))
          (ap end.channels (sym e) ∙ life.1) (answers-then role end c message life.0 life.1 a.in_turn)
          (asks-then role end c message life.0 life.1 a.unasked))
  ask-follows role config end history (Ask.Flow c active) stands back a =
      let life = has-life (end.channels c) (not-when _ Refusal.NotOpen a.opened) in
      one-follows P k role config end history c (flow_as kinds.ChannelFlow active) stands back
      (inr (
        is-running end.phase (not-when _ Refusal.NotRunning a.runs),
        subst
            (λ channel. may_put_here role channel (Calls (flow_as kinds.ChannelFlow active)) ≡ true) (sym life.1)
            (may-flow role life.0 active),
        quiet-asks role (end.channels c) (Calls (flow_as kinds.ChannelFlow active)) refl,
      ))
  ask-follows role config end history (Ask.CloseChannel c code text cause) stands back a =
      let life = has-life (end.channels c) (not-when _ Refusal.NotOpen a.opened) in
      one-follows P k role config end history c (close_for kinds.ChannelClose code text cause) stands back
      (inr (
        is-running end.phase (not-when _ Refusal.NotRunning a.runs),
        subst
            (λ channel. may_put_here role channel (Calls (close_for kinds.ChannelClose code text cause)) ≡ true)
            (sym life.1) (may-close role life.0 code text cause),
        quiet-asks role (end.channels c)
            (Calls (close_for kinds.ChannelClose code text cause)) refl,
      ))
  ask-follows role config end history (Ask.Close code text cause) stands back a =
      one-follows P k role config end history 0 (close_for kinds.ConnectionClose code text cause) stands back (inl refl)
  ask-follows role config end history (Ask.Blocked reason) stands back a =
      one-follows P k role config end history 0 (method_asked (Ask.Blocked reason)) stands back (inl refl)
  ask-follows role config end history Ask.Unblocked stands back a =
      one-follows P k role config end history 0 (method_asked Ask.Unblocked) stands back (inl refl)

  pub ask-kept : (role : Role) (config : Config role) (end : End) (history : History) (ask : Ask) (frames : List Frame)
      → P role config end history → ReadsBack (method_asked ask) → is_made ask ≡ true
      → ask_verdict role end ask ≡ Puts frames
      → P role config (end_after_put role config frames end) (then_put frames history)
  ask-kept role config end history ask frames stands back made e =
      let parts = accepted-none (refusal role end ask) (frames_asked end ask) frames e in
      subst (λ frames. P role config (end_after_put role config frames end) (then_put frames history)) parts.1
      (ask-follows role config end history ask stands back (accepted role end ask parts.0))

pub asks-follow : AskFollows
asks-follow = ask-kept Stands stands-kept.puts
