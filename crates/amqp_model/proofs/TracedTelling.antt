-- What an end tells grows by the item of each event, and by nothing else.
use Rattle.std.proofs.Common.{◌≡◌, Bool, true, false, cond, not, ◌&&◌, ℕ, zero, suc, ◌==◌, List, []}
use Rattle.std.proofs.Common.{◌∷◌, ◌++◌, map, reverse, Option, Some, None, refl, sym, ap, ◌∙◌, subst}
use Rattle.std.proofs.lemmas.Bool.{false≢true, true≢false}
use Rattle.amqp_method.specs.declared.kinds.Kind.TheVariants as kinds
use Rattle.amqp_model.specs.Wire.Frame.{Frame}
use Rattle.amqp_model.specs.Wire.Notes.{Role, Client, Server, is_client, Note, is_message}
use Rattle.amqp_model.specs.Wire.Notes as notes_of
use Rattle.amqp_model.specs.History.Lives.{lives, has_left, state}
use Rattle.amqp_model.specs.Pair.Carried.{acts_next, acted}
use Rattle.amqp_model.specs.Pair.Carried as carried
use Rattle.amqp_model.specs.Wire.Methods.{Method, same_kind, sends, class_of}
use Rattle.amqp_model.specs.Wire.Gathering.{gathering}
use Rattle.amqp_model.specs.Wire.Items.{item_ended}
use Rattle.amqp_model.specs.Wire.Readings.{Reading, Calls, Beat, is_call, reading, kind_of}
use Rattle.amqp_model.specs.History.Histories.{Took, History, entries_on, notes}
use Rattle.amqp_model.specs.End.Channels.{Life, Channel, Free, Opening, Closing, HandshakeStep}
use Rattle.amqp_model.specs.End.Channels.{AwaitsStart, AwaitsStartOk, AwaitsTune, AwaitsTuneOk, AwaitsOpen}
use Rattle.amqp_model.specs.End.Channels.{AwaitsOpenOk, Phase, Handshake, Running, Closed, Failed, Agreed, End}
use Rattle.amqp_model.specs.End.Channels.{state_of}
use Rattle.amqp_model.specs.End.Channels as channels
use Rattle.amqp_model.specs.History.Negotiation.{Config, tunes_too_small, in_range, agreed_in, connection_open_ok}
use Rattle.amqp_model.specs.End.Closes.{CommandInvalid, ChannelError, connection_close_ok}
use Rattle.amqp_model.specs.End.Events.{Event, AnswerAsked, LoginAsked, OpenAsked, Quiet, ConnectionClosed, Discarded}
use Rattle.amqp_model.specs.End.Events.{Peer, FrameVerdict, Proceeds, Faults}
use Rattle.amqp_model.specs.End.FrameVerdict.{Facts, first_of, by_state, on_connection, on_zero, negotiated, asked_or}
use Rattle.amqp_model.specs.End.FrameVerdict.{on_awaited, in_step, is_awaited, verdict_on, event_told}
use Rattle.amqp_model.specs.End.EndVerdict.{facts_at, end_puts, goes_on}
use Rattle.amqp_model.specs.End.ReadingBack.{WritesReadBack}
use Rattle.amqp_model.specs.End.LawfulHistories.{end_of, Lawful}
use Rattle.amqp_model.specs.End.Machine.{ChannelStandsFor}
use Rattle.amqp_model.specs.Laws.EndLaws.{notes_on}
use Rattle.amqp_model.specs.Pair.Sent.{payload_in, life_on, Telling, ended_by, told_at, told}
use Rattle.amqp_model.specs.Stream.Traces.{item_told, item_in_event, telling_at, TellsEvent, PutsTellNothing}
use Rattle.amqp_model.proofs.Standing.{state-reads}
use Rattle.amqp_model.proofs.Following.{all-before}
use Rattle.amqp_model.proofs.Acting.{seen-took}
use Rattle.amqp_model.proofs.Agreeing.{facts_in, is_closing, handshake-stops}
use Rattle.amqp_model.proofs.EndSteps.{not-zero, stays-here, left-here}
use Rattle.amqp_model.proofs.ChannelWalks.{channel-walk, lawful-walks}
use Rattle.amqp_model.proofs.Walking.{Walked}
use Rattle.amqp_model.proofs.SentTelling.{told-put, no-item}
use Rattle.amqp_model.proofs.Turning.{KeepsOpen, message-lives}
use Rattle.amqp_model.proofs.Turned.{matched}
use Rattle.amqp_model.proofs.Tracing.{running-tells}

-- Channel 0 tells no item.
module _ {role : Role} (config : Config role) (phase : Phase) (agreed : Option Agreed) where
  abbrev on_0 : Facts role
  on_0 = record { config = config; phase = phase; agreed = agreed; number = 0; channel = Free }

  abbrev TellsNone : FrameVerdict → Type 0
  TellsNone v = goes_on v ≡ true → item_in_event (event_told on_0 v) ≡ None

  faulted : (v : FrameVerdict) → goes_on v ≡ false → TellsNone v
  faulted v f g = absurd (true≢false (sym g ∙ f))

  either : (b : Bool) (one other : FrameVerdict) → TellsNone one → TellsNone other → TellsNone (cond b one other)
  either true one other h k = h
  either false one other h k = k

  connection-tells : (method : Method) → TellsNone (on_connection role method)
  connection-tells method =
      either (same_kind method.kind kinds.ConnectionClose) _ _ (λ g. refl)
      (either (is_client role && same_kind method.kind kinds.ConnectionSecure) _ _ (λ g. absurd (false≢true g))
      (either (is_client role && same_kind method.kind kinds.ConnectionBlocked) _ _ (λ g. refl)
      (either (is_client role && same_kind method.kind kinds.ConnectionUnblocked) _ _ (λ g. refl)
      (λ g. absurd (false≢true g)))))

  asked-tells : (gated : Bool) (event : Event) (at_once : FrameVerdict) → item_told event ≡ None
      → TellsNone at_once → TellsNone (asked_or gated event at_once)
  asked-tells true event at_once none h = λ g. none
  asked-tells false event at_once none h = h

  awaited-tells : (r : Role) (config : Config r) (step : HandshakeStep) (method : Method)
      → TellsNone (on_awaited r config agreed step method)
  awaited-tells Client config AwaitsStart method = asked-tells config.gated AnswerAsked _ refl (λ g. refl)
  awaited-tells Client config AwaitsTune method =
      either (tunes_too_small method) _ _ (λ g. absurd (false≢true g)) (λ g. refl)
  awaited-tells Client config AwaitsOpenOk method = by-agreed agreed
    where
      by-agreed : (agreed : Option Agreed) → TellsNone (on_awaited Client config agreed AwaitsOpenOk method)
      by-agreed None g = refl
      by-agreed (Some agreed) g = refl
  awaited-tells Server config AwaitsStartOk method = asked-tells config.gated LoginAsked _ refl (λ g. refl)
  awaited-tells Server config AwaitsTuneOk method =
      either (in_range config (agreed_in method)) _ _ (λ g. refl) (λ g. absurd (false≢true g))
  awaited-tells Server config AwaitsOpen method = asked-tells config.gated OpenAsked _ refl (by-agreed agreed)
    where
      by-agreed : (agreed : Option Agreed)
          → TellsNone (Proceeds (negotiated agreed) (on_zero connection_open_ok ∷ []))
      by-agreed None g = refl
      by-agreed (Some agreed) g = refl
  awaited-tells Client config step method = λ g. absurd (false≢true g)
  awaited-tells Server config step method = λ g. absurd (false≢true g)

  step-tells : (step : HandshakeStep) (method : Method) → TellsNone (in_step role config agreed step method)
  step-tells step method =
      either (same_kind method.kind kinds.ConnectionClose) _ _ (λ g. refl)
      (either (is_client role && same_kind method.kind kinds.ConnectionSecure) _ _ (λ g. absurd (false≢true g))
      (either (is_awaited step method.kind) _ _ (awaited-tells role config step method)
      (λ g. absurd (false≢true g))))

zero-tells : {role : Role} (config : Config role) (phase : Phase) (agreed : Option Agreed) (r : Reading)
    → TellsNone config phase agreed (verdict_on (facts_in config phase agreed 0 Free) r)
zero-tells config Closed agreed r g = absurd (false≢true g)
zero-tells config Failed agreed r g = absurd (false≢true g)
zero-tells {role} config Phase.Closing agreed r g =
    either config Phase.Closing agreed (is_call kinds.ConnectionClose r) _ _ (λ g. refl)
    (either config Phase.Closing agreed (is_call kinds.ConnectionCloseOk r) _ _ (λ g. refl) (λ g. refl)) g
zero-tells config (Handshake step) agreed (Calls method) g = step-tells config (Handshake step) agreed step method g
zero-tells config (Handshake step) agreed (Beat empty) g =
    either config (Handshake step) agreed empty _ _ (λ g. refl) (λ g. absurd (false≢true g)) g
zero-tells config (Handshake step) agreed r g = absurd (false≢true g)
zero-tells config Running agreed (Beat empty) g =
    either config Running agreed empty _ _ (λ g. refl) (λ g. absurd (false≢true g)) g
zero-tells {role} config Running agreed (Calls method) g =
    by-class (class_of method.kind == 10) (sends (not (is_client role)) method.kind) g
  where
    by-class : (connection may_send : Bool)
        → TellsNone config Running agreed
        (first_of (cond connection (Some (on_connection role method)) None ∷ cond may_send None
        (Some (Faults (Peer CommandInvalid))) ∷ Some (Faults (Peer ChannelError)) ∷ [])
        (by_state (facts_in config Running agreed 0 Free) Free method))
    by-class true may_send g = connection-tells config Running agreed method g
    by-class false true g = absurd (false≢true g)
    by-class false false g = absurd (false≢true g)
zero-tells config Running agreed r g = absurd (false≢true g)

-- A channel above 0.

-- once the end has put connection.close it drops what comes there
leaving-tells : {role : Role} (config : Config role) (agreed : Option Agreed) (m : ℕ) (channel : Channel)
    (r : Reading)
    → item_in_event (event_told (facts_in config Phase.Closing agreed (suc m) channel)
    (verdict_on (facts_in config Phase.Closing agreed (suc m) channel) r)) ≡ None
leaving-tells config agreed m channel r =
    by-tests ((suc m == 0) && is_call kinds.ConnectionClose r) ((suc m == 0) && is_call kinds.ConnectionCloseOk r)
  where
    by-tests : (a b : Bool)
        → item_in_event (event_told (facts_in config Phase.Closing agreed (suc m) channel)
        (cond a (Proceeds (Some Quiet) (connection_close_ok ∷ []))
        (cond b (Proceeds (Some (ConnectionClosed None)) []) (Proceeds (Some (Discarded (suc m))) [])))) ≡ None
    by-tests true b = refl
    by-tests false true = refl
    by-tests false false = refl

module _ (role : Role) (config : Config role) (history : History) (frame : Frame) (m : ℕ)
    (back : WritesReadBack role config) (lawful : Lawful role config false history)
    (at_m : frame.channel ≡ suc m) where
  abbrev end : End
  end = end_of config history

  abbrev before : List Note
  before = notes_on (suc m) history

  walked : Walked role config end history
  walked = lawful-walks role config false history refl back lawful

  abbrev now_life : ℕ
  now_life = life_on role (suc m) (Took frame ∷ history)

  life_is : now_life ≡ lives role (notes_of.Took (kind_of (reading frame)) frame ∷ before)
  life_is = ap (λ entries. lives role (notes entries)) (seen-took frame history m at_m)

  abbrev told_here : List Telling
  told_here = ended_by (suc m) now_life (acted role now_life before) frame

  -- on an Open channel, that is the item which the record gives
  open-here : (life : Life) → end.channels (suc m) ≡ channels.Open life → has_left before ≡ false
      → told_here ≡ telling_at (suc m) (life_on role (suc m) history) (item_ended life.content (payload_in frame))
  open-here life opened stays = by-message (is_message (kind_of (reading frame))) refl
    where
      keeps : KeepsOpen role life (lives role before) before
      keeps =
          subst (λ entries. KeepsOpen role life (lives role (notes entries)) before)
          (all-before (entries_on (suc m) history) stays)
          ((matched role config (entries_on (suc m) history) (channel-walk role config m history walked.walks)).keeps
          (channels.Open life) (subst (λ channel. ChannelStandsFor role channel (entries_on (suc m) history)) opened
          (walked.stands.channels refl m)))

      by-message : (b : Bool) → is_message (kind_of (reading frame)) ≡ b
          → told_here ≡ telling_at (suc m) (life_on role (suc m) history)
          (item_ended life.content (payload_in frame))
      by-message true e =
          let same : now_life ≡ lives role before = life_is
          ∙ (message-lives role (kind_of (reading frame)) frame before e).1 in
          ap (λ life. ended_by (suc m) life (acted role life before) frame) same
          ∙ ap (λ kept. telling_at (suc m) (lives role before) (item_ended kept (payload_in frame))) keeps.content
      by-message false e =
          ap (telling_at (suc m) now_life)
          (no-item (gathering (reverse (map payload_in (acted role now_life before)))) (reading frame) e)
          ∙ ap (telling_at (suc m) (life_on role (suc m) history)) (sym (no-item life.content (reading frame) e))

  acts-not : (channel : Channel) → end.channels (suc m) ≡ channel → carried.state_is_open (state_of channel) ≡ false
      → acts_next role before ≡ false
  acts-not channel c e =
      off (has_left before) (ap carried.state_is_open (sym (state-reads role (entries_on (suc m) history)) ∙ ap state_of c)
      ∙ e)
    where
      off : (b : Bool) {acts : Bool} → acts ≡ false → (not b && acts) ≡ false
      off true e = refl
      off false e = e

  told-above : (phase : Phase) → end.phase ≡ phase → (channel : Channel) → end.channels (suc m) ≡ channel
      → goes_on (verdict_on (facts_in config phase end.agreed (suc m) channel) (reading frame)) ≡ true
      → cond (acts_next role before) told_here [] ≡ telling_at (suc m) (life_on role (suc m) history)
      (item_in_event (event_told (facts_in config phase end.agreed (suc m) channel)
      (verdict_on (facts_in config phase end.agreed (suc m) channel) (reading frame))))
  told-above Running p (channels.Open life) c g =
      let stays = stays-here role config end history m walked.stands p in
      let open_is : carried.state_is_open (state role before) ≡ true =
      ap carried.state_is_open (sym (state-reads role (entries_on (suc m) history)) ∙ ap state_of c) in
      let acts : acts_next role before ≡ true = simp (stays, open_is) in
      ap (λ b. cond b told_here []) acts
      ∙ (open-here life c stays ∙ ap (telling_at (suc m) (life_on role (suc m) history))
      (sym (running-tells config end.agreed (suc m) (channels.Open life) (reading frame) (not-zero m) g)))
  told-above Running p Free c g =
      ap (λ b. cond b told_here []) (acts-not Free c refl) ∙ ap (telling_at (suc m) (life_on role (suc m) history))
      (sym (running-tells config end.agreed (suc m) Free (reading frame) (not-zero m) g))
  told-above Running p Opening c g =
      ap (λ b. cond b told_here []) (acts-not Opening c refl)
      ∙ ap (telling_at (suc m) (life_on role (suc m) history))
      (sym (running-tells config end.agreed (suc m) Opening (reading frame) (not-zero m) g))
  told-above Running p Closing c g =
      ap (λ b. cond b told_here []) (acts-not Closing c refl)
      ∙ ap (telling_at (suc m) (life_on role (suc m) history))
      (sym (running-tells config end.agreed (suc m) Closing (reading frame) (not-zero m) g))
  told-above Phase.Closing p channel c g =
      let left = left-here role config end history m walked.stands p in
      let rests : acts_next role before ≡ false = simp left in
      ap (λ b. cond b told_here []) rests ∙ ap (telling_at (suc m) (life_on role (suc m) history))
      (sym (leaving-tells config end.agreed m channel (reading frame)))
  told-above (Handshake step) p channel c g =
      handshake-stops config step end.agreed (suc m) channel
      (ap is_closing (sym c ∙ walked.stands.free_before step p (suc m))) (not-zero m) (reading frame) g
  told-above Closed p channel c g = absurd (false≢true g)
  told-above Failed p channel c g = absurd (false≢true g)

pub puts-tell-nothing : (role : Role) (config : Config role) (frames : List Frame) (history : History)
    → PutsTellNothing role config frames history
puts-tell-nothing = told-put

pub tells-event : (role : Role) (config : Config role) (history : History) (frame : Frame)
    → TellsEvent role config history frame
tells-event role config history frame back lawful g =
    told-put role config (end_puts config (end_of config history) frame) (Took frame ∷ history)
    ∙ (ap (λ b. told role config history ++ cond b (told_at role frame.channel frame history) []) g
    ∙ ap (λ l. told role config history ++ l) (by-channel frame.channel refl g))
  where
    by-channel : (c : ℕ) → frame.channel ≡ c
        → goes_on (verdict_on (facts_at config (end_of config history) c) (reading frame)) ≡ true
        → told_at role c frame history ≡ telling_at c (life_on role c history)
        (item_in_event (event_told (facts_at config (end_of config history) c)
        (verdict_on (facts_at config (end_of config history) c) (reading frame))))
    by-channel zero e g =
        sym (ap (telling_at 0 (life_on role 0 history))
        (zero-tells config (end_of config history).phase (end_of config history).agreed (reading frame) g))
    by-channel (suc m) e g =
        told-above role config history frame m back lawful e (end_of config history).phase refl
        ((end_of config history).channels (suc m)) refl g
