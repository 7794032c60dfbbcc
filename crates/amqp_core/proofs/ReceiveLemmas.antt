-- What a frame leaves of an end, and what comes of it, by its verdict.
use Rattle.std.proofs.Common.{◌≡◌, ◌⊎◌, ◌<◌, inl, inr, Bool, true, arith, ℕ, List, [], ◌∷◌, map, Option, Some, None, Result, Ok, Err, OnOk, refl, ap, sym, ◌∙◌, subst}
use Rattle.amqp_frame.specs.declared.frames.FrameKind.{FrameKind}
use Rattle.amqp_frame.specs.declared.frames.FrameKind.TheVariants as kinds
use Rattle.std.proofs.lemmas.Bool.{true≢false}
use Rattle.amqp_model.specs.End.Channels.{Channel, End, Phase, Running}
use Rattle.amqp_model.specs.End.Closes.{frame_of, reply_to}
use Rattle.amqp_model.specs.End.EndVerdict.{end_puts, end_verdict, facts_at}
use Rattle.amqp_model.specs.Stream.Endpoint.{outcome_of}
use Rattle.amqp_model.specs.End.Events as events
use Rattle.amqp_model.specs.End.Events.{FrameVerdict}
use Rattle.amqp_model.specs.End.FrameVerdict.{methods_put, on_channel}
use Rattle.amqp_model.specs.End.Machine.{end_after_taken, set_channel, taken_verdict}
use Rattle.amqp_model.specs.Wire.Methods.{Header, header_at}
use Rattle.amqp_model.specs.Output.Outputs.{after_puts, Output}
use Rattle.amqp_model.specs.Wire.Readings.{Reading, Beat, BodyOf, Calls, HeaderOf, MalformedHeader, header_reading, reading as says}
use Rattle.amqp_outbox.specs.OutboxView.{Outgoing, only}
use Rattle.amqp_channel.specs.Channels.Used.{is_closing_at}
use Rattle.amqp_channel.specs.Verdict.VerdictView.{reply_there, IsPart}
use Rattle.amqp_channel.specs.Channels.ChannelsView.{OnlyAt}
use Rattle.amqp_channel.specs.declared.verdict.Verdict.TheVariants as ruled
use Rattle.amqp_channel.specs.declared.verdict.Told.TheVariants as told
use Rattle.amqp_channel.proofs.VerdictLemmas.{fits_event}
use Rattle.amqp_core.specs.Connection.View.{frame_at}
use Rattle.amqp_core.specs.Connection.Dropping.{DropsReading, IsDropped}
use Rattle.amqp_core.specs.End.Feeding.{IsMessage, SameButChannels}
use Rattle.amqp_core.specs.Connection.Outcomes.{ended_by, owed_by, told_by, SameEnd}
use Rattle.amqp_core.specs.Config.Settings.{config_view, role_for}
use Rattle.amqp_core.specs.Connection.Stages.{leaves}
use Rattle.amqp_core.specs.Connection.Verdicts.{content_of, end_left, ended_if, event_by, fault_by, noticed, outcome_with, verdict_here, verdict_view, FitsEventOf, FitsVerdict, FrameRules, StepsFrom}
use Rattle.amqp_core.specs.declared.settings.Settings.{Settings}
use Rattle.amqp_core.specs.declared.verdict.Notice.TheVariants as notice
use Rattle.amqp_core.specs.Connection.Rulings.{Ruling, OnChannel, OnConnection}
use Rattle.amqp_core.specs.declared.verdict.Verdict.{Verdict}
use Rattle.amqp_core.specs.declared.verdict.Verdict.TheVariants.{Proceeds, Faults}
use Rattle.amqp_core.proofs.ConnectionLemmas.{set_only}
use Rattle.amqp_core.proofs.EntryLemmas.{with_channel}
use Rattle.amqp_core.proofs.OutcomeLemmas.{end_is, owed_is, told_is}

-- the end with this channel changed alone
pub with_channel_is :
    (end : End) (number : ℕ) (after : ℕ → Channel) (channel : Channel) → OnlyAt number end.channels after → after number ≡ channel
    → record { phase = end.phase; agreed = end.agreed; channels = after } ≡ with_channel number channel end
with_channel_is end number after channel only same =
    ap (λ c. record { phase = end.phase; agreed = end.agreed; channels = c })
    (set_only number end.channels after only ∙ ap (λ c. set_channel number c end.channels) same)

pub fits_event_of : (end : End) (number : ℕ) (reading : Reading) (verdict : Ruling) → FitsVerdict end number reading verdict → FitsEventOf reading verdict
fits_event_of end number reading (OnChannel (ruled.Proceeds said answer)) fits = fits_event (end.channels number) reading said fits.2
fits_event_of end number reading (OnChannel ruled.RefusesContent) fits = tt
fits_event_of end number reading (OnChannel (ruled.Faults code)) fits = tt
fits_event_of end number reading (OnConnection (Proceeds notice stage owed)) fits = fits.0
fits_event_of end number reading (OnConnection (Faults fault)) fits = tt

pub steps_from : (end : End) (number : ℕ) (reading : Reading) (verdict : Verdict) → FitsVerdict end number reading (OnConnection verdict) → StepsFrom end verdict
steps_from end number reading (Proceeds notice stage owed) fits = fits.1
steps_from end number reading (Faults fault) fits = tt

-- the event looks at the content that is handed out alone
pub handed_event :
    (settings : Settings) (end : End) (number : ℕ) (reading : Reading) (verdict : Ruling)
    → event_by number (verdict_view settings number reading (content_of verdict (end.channels number) reading) verdict)
    ≡ event_by number (verdict_here settings end number reading verdict)
handed_event settings end number reading (OnChannel (ruled.Proceeds told.Method answer)) = refl
handed_event settings end number reading (OnChannel (ruled.Proceeds told.Begun answer)) = refl
handed_event settings end number reading (OnChannel (ruled.Proceeds told.Headed answer)) = refl
handed_event settings end number reading (OnChannel (ruled.Proceeds told.Continued answer)) = refl
handed_event settings end number reading (OnChannel (ruled.Proceeds told.Completed answer)) = refl
handed_event settings end number reading (OnChannel (ruled.Proceeds told.Opened answer)) = refl
handed_event settings end number reading (OnChannel (ruled.Proceeds (told.Flow active) answer)) = refl
handed_event settings end number reading (OnChannel (ruled.Proceeds (told.FlowOk active) answer)) = refl
handed_event settings end number reading (OnChannel (ruled.Proceeds told.ClosedByPeer answer)) = refl
handed_event settings end number reading (OnChannel (ruled.Proceeds told.ClosedByUs answer)) = refl
handed_event settings end number reading (OnChannel (ruled.Proceeds told.Discarded answer)) = refl
handed_event settings end number reading (OnChannel (ruled.Proceeds told.Quiet answer)) = refl
handed_event settings end number reading (OnChannel ruled.RefusesContent) = refl
handed_event settings end number reading (OnChannel (ruled.Faults code)) = refl
handed_event settings end number reading (OnConnection (Proceeds notice stage owed)) = refl
handed_event settings end number reading (OnConnection (Faults fault)) = refl

-- What comes of a verdict, as the definitions say it.

with_is : (number : ℕ) (verdict : FrameVerdict) → outcome_with (event_by number verdict) (fault_by verdict) ≡ told_by number verdict
with_is number (events.Proceeds event owed) = refl
with_is number events.RefusesContent = refl
with_is number (events.Faults fault) = refl

pub said_is :
    (settings : Settings) (end : End) (number : ℕ) (kind : FrameKind) (payload : List ℕ) (reading : Reading) (verdict : Ruling)
    (event : Option events.Event) (fault : Option events.Fault)
    → FrameRules settings end number reading verdict → reading ≡ says (frame_at number kind payload)
    → event ≡ event_by number (verdict_here settings end number reading verdict)
    → fault ≡ fault_by (verdict_here settings end number reading verdict)
    → outcome_with event fault
    ≡ outcome_of (facts_at (config_view settings) end number) (end_verdict (config_view settings) end (frame_at number kind payload))
said_is settings end number kind payload reading verdict event fault rules read event_is fault_is =
    let v : FrameVerdict = verdict_here settings end number reading verdict in
    ap (λ e. outcome_with e fault) event_is
    ∙ (ap (outcome_with (event_by number v)) fault_is
    ∙ (with_is number v
    ∙ (ap (told_by number) rules.verdict
    ∙ (told_is (role_for settings) (config_view settings) end number (taken_verdict (config_view settings) end number reading)
    ∙ ap (λ r. outcome_of (facts_at (config_view settings) end number) (taken_verdict (config_view settings) end number r)) read))))

if_is : (verdict : FrameVerdict) (end : End) → ended_if (fault_by verdict) end ≡ ended_by verdict end
if_is (events.Proceeds event owed) end = refl
if_is events.RefusesContent end = refl
if_is (events.Faults fault) end = refl

pub left_is :
    (settings : Settings) (end mid after : End) (number : ℕ) (kind : FrameKind) (payload : List ℕ) (reading : Reading) (verdict : Ruling)
    (fault : Option events.Fault)
    → FrameRules settings end number reading verdict → reading ≡ says (frame_at number kind payload)
    → mid ≡ end_left (role_for settings) number reading verdict end
    → fault ≡ fault_by (verdict_here settings end number reading verdict) → after ≡ ended_if fault mid
    → SameEnd (end_after_taken (role_for settings) (config_view settings) end (says (frame_at number kind payload)) (frame_at number kind payload)) after
left_is settings end mid after number kind payload reading verdict fault rules read mid_is fault_is after_is =
    let v : FrameVerdict = verdict_here settings end number reading verdict in
    let left : End = end_left (role_for settings) number reading verdict end in
    let ends : ended_by v left ≡ after = sym (after_is ∙ (ap (λ f. ended_if f mid) fault_is ∙ (if_is v mid ∙ ap (ended_by v) mid_is))) in
    let ended : SameEnd (end_after_taken (role_for settings) (config_view settings) end reading (frame_at number kind payload)) after =
    subst (λ (x : End). SameEnd (end_after_taken (role_for settings) (config_view settings) end reading (frame_at number kind payload)) x) ends
    (end_is (role_for settings) (config_view settings) end left number reading v kind payload rules.verdict rules.leaves) in
    subst (λ (r : Reading). SameEnd (end_after_taken (role_for settings) (config_view settings) end r (frame_at number kind payload)) after) read ended

pub owes_is :
    (settings : Settings) (end : End) (number : ℕ) (kind : FrameKind) (payload : List ℕ) (reading : Reading) (verdict : Ruling)
    → FrameRules settings end number reading verdict → reading ≡ says (frame_at number kind payload)
    → owed_by (leaves end.phase) number (verdict_here settings end number reading verdict)
    ≡ methods_put (facts_at (config_view settings) end number) (end_verdict (config_view settings) end (frame_at number kind payload))
owes_is settings end number kind payload reading verdict rules read =
    ap (owed_by (leaves end.phase) number) rules.verdict
    ∙ (owed_is (role_for settings) (config_view settings) end number (taken_verdict (config_view settings) end number reading)
    ∙ ap (λ r. methods_put (facts_at (config_view settings) end number) (taken_verdict (config_view settings) end number r)) read)

pub put_is :
    (settings : Settings) (end : End) (number : ℕ) (kind : FrameKind) (payload : List ℕ) (reading : Reading) (verdict : Ruling) (output : Output)
    → FrameRules settings end number reading verdict → reading ≡ says (frame_at number kind payload)
    → after_puts (map frame_of (owed_by (leaves end.phase) number (verdict_here settings end number reading verdict))) output
    ≡ after_puts (end_puts (config_view settings) end (frame_at number kind payload)) output
put_is settings end number kind payload reading verdict output rules read =
    ap (λ owed. after_puts (map frame_of owed) output) (owes_is settings end number kind payload reading verdict rules read)

-- A message that is told.

-- it is not answered, and leaves all but its channel as it was
pub record ToldAlone (number : ℕ) (end left : End) (closing : Bool) (said : FrameVerdict) : Type 0 where
  pub owes : owed_by closing number said ≡ []
  pub faultless : fault_by said ≡ None
  pub phase : left.phase ≡ end.phase
  pub agreed : left.agreed ≡ end.agreed

none_blocked : (number : ℕ) (reading : Reading) → IsMessage (noticed number reading notice.Blocked) → ⊥
none_blocked number (Calls method) told = told
none_blocked number reading told = told

told_alone :
    (settings : Settings) (end : End) (number : ℕ) (reading : Reading) (closing : Bool) (verdict : Ruling) → FitsVerdict end number reading verdict
    → IsMessage (event_by number (verdict_here settings end number reading verdict))
    → ToldAlone number end (end_left (role_for settings) number reading verdict end) closing (verdict_here settings end number reading verdict)
told_alone settings end number reading closing (OnChannel (ruled.Proceeds told.Method due)) fits is =
    record { owes = ap (λ d. map (on_channel number) (reply_to (reply_there d))) fits.3; faultless = refl; phase = refl; agreed = refl }
told_alone settings end number reading closing (OnChannel (ruled.Proceeds told.Completed due)) fits is =
    record { owes = ap (λ d. map (on_channel number) (reply_to (reply_there d))) fits.3; faultless = refl; phase = refl; agreed = refl }
told_alone settings end number reading closing (OnChannel (ruled.Proceeds told.Begun due)) fits is = absurd is
told_alone settings end number reading closing (OnChannel (ruled.Proceeds told.Headed due)) fits is = absurd is
told_alone settings end number reading closing (OnChannel (ruled.Proceeds told.Continued due)) fits is = absurd is
told_alone settings end number reading closing (OnChannel (ruled.Proceeds told.Opened due)) fits is = absurd is
told_alone settings end number reading closing (OnChannel (ruled.Proceeds (told.Flow active) due)) fits is = absurd is
told_alone settings end number reading closing (OnChannel (ruled.Proceeds (told.FlowOk active) due)) fits is = absurd is
told_alone settings end number reading closing (OnChannel (ruled.Proceeds told.ClosedByPeer due)) fits is = absurd is
told_alone settings end number reading closing (OnChannel (ruled.Proceeds told.ClosedByUs due)) fits is = absurd is
told_alone settings end number reading closing (OnChannel (ruled.Proceeds told.Discarded due)) fits is = absurd is
told_alone settings end number reading closing (OnChannel (ruled.Proceeds told.Quiet due)) fits is = absurd is
told_alone settings end number reading closing (OnChannel ruled.RefusesContent) fits is = absurd is
told_alone settings end number reading closing (OnChannel (ruled.Faults code)) fits is = absurd is
told_alone settings end number reading closing (OnConnection (Proceeds notice.Quiet stage owed)) fits is = absurd is
told_alone settings end number reading closing (OnConnection (Proceeds notice.Discarded stage owed)) fits is = absurd is
told_alone settings end number reading closing (OnConnection (Proceeds notice.AnswerAsked stage owed)) fits is = absurd is
told_alone settings end number reading closing (OnConnection (Proceeds notice.LoginAsked stage owed)) fits is = absurd is
told_alone settings end number reading closing (OnConnection (Proceeds notice.OpenAsked stage owed)) fits is = absurd is
told_alone settings end number reading closing (OnConnection (Proceeds (notice.Negotiated agreed) stage owed)) fits is = absurd is
told_alone settings end number reading closing (OnConnection (Proceeds notice.ClosedByPeer stage owed)) fits is = absurd is
told_alone settings end number reading closing (OnConnection (Proceeds notice.ClosedByUs stage owed)) fits is = absurd is
told_alone settings end number reading closing (OnConnection (Proceeds notice.Blocked stage owed)) fits is = absurd (none_blocked number reading is)
told_alone settings end number reading closing (OnConnection (Proceeds notice.Unblocked stage owed)) fits is = absurd is
told_alone settings end number reading closing (OnConnection (Faults fault)) fits is = absurd is

-- so much of what is left and put, of an end whose channel 0 is none
pub message_stays :
    (settings : Settings) (end mid after : End) (number : ℕ) (reading : Reading) (verdict : Ruling) (event : Option events.Event)
    (fault : Option events.Fault) (output : Output) (outgoing : Outgoing)
    → FitsVerdict end number reading verdict → event ≡ event_by number (verdict_here settings end number reading verdict)
    → mid ≡ end_left (role_for settings) number reading verdict end
    → fault ≡ fault_by (verdict_here settings end number reading verdict) → after ≡ ended_if fault mid
    → outgoing ≡ only (after_puts (map frame_of (owed_by (leaves end.phase) number (verdict_here settings end number reading verdict))) output)
    → end.channels 0 ≡ after.channels 0 → IsMessage event
    → SameButChannels (record { end = end; unfinished = []; output = output }) (record { end = after; unfinished = []; output = outgoing.output })
message_stays settings end mid after number reading verdict event fault output outgoing fits event_is mid_is fault_is after_is puts zero is =
    let alone = told_alone settings end number reading (leaves end.phase) verdict fits (subst IsMessage event_is is) in
    let same : after ≡ end_left (role_for settings) number reading verdict end = after_is ∙ (ap (λ f. ended_if f mid) (fault_is ∙ alone.faultless) ∙ mid_is) in
    record {
      phase = sym (ap (λ (e : End). e.phase) same ∙ alone.phase);
      agreed = sym (ap (λ (e : End). e.agreed) same ∙ alone.agreed);
      no_channel = zero;
      output = sym (ap (λ (o : Outgoing). o.output) puts ∙ ap (λ owed. after_puts (map frame_of owed) output) alone.owes);
    }

pub where_ok : {A B : Type 0} (result : Result A B) (P : Type 0) → P → OnOk result P
where_ok (Ok done) P p = p
where_ok (Err fault) P p = tt

-- Frames that are dropped.

header_drops : (phase : Phase) (channel : Channel) (number : ℕ) (read : Option Header) → (leaves phase ≡ true) ⊎ (is_closing_at channel ≡ true)
    → DropsReading phase channel number (header_reading read)
header_drops phase channel number (Some header) drops = drops
header_drops phase channel number None drops = drops

pub drops_reading : (phase : Phase) (channel : Channel) (number : ℕ) (kind : FrameKind) (payload : List ℕ) → IsDropped phase channel number kind payload
    → DropsReading phase channel number (says (frame_at number kind payload))
drops_reading phase channel number kinds.Method payload drops = absurd drops
drops_reading phase channel number kinds.Header payload drops = header_drops phase channel number (header_at payload) drops
drops_reading phase channel number kinds.Body payload drops = drops
drops_reading phase channel number kinds.Heartbeat [] (inl leaving) = inl leaving
drops_reading phase channel number kinds.Heartbeat [] (inr at_zero) = inr (at_zero.0, refl)
drops_reading phase channel number kinds.Heartbeat (octet ∷ later) (inl leaving) = inl leaving
drops_reading phase channel number kinds.Heartbeat (octet ∷ later) (inr empty) = cc

-- on a channel of a connection that is Running, this end has closed the channel, and the frame is a part of a content
pub dropped_part : (channel : Channel) (number : ℕ) (reading : Reading) → DropsReading Running channel number reading → 0 < number
    → (is_closing_at channel ≡ true) × IsPart reading
dropped_part channel number (HeaderOf size properties) (inl leaving) above = absurd (true≢false (sym leaving))
dropped_part channel number (HeaderOf size properties) (inr closing) above = (closing, tt)
dropped_part channel number MalformedHeader (inl leaving) above = absurd (true≢false (sym leaving))
dropped_part channel number MalformedHeader (inr closing) above = (closing, tt)
dropped_part channel number (BodyOf octets) (inl leaving) above = absurd (true≢false (sym leaving))
dropped_part channel number (BodyOf octets) (inr closing) above = (closing, tt)
dropped_part channel number (Beat empty) (inl leaving) above = absurd (true≢false (sym leaving))
dropped_part channel number (Beat empty) (inr at_zero) above = absurd (omega (arith, above, at_zero.0))
dropped_part channel number reading drops above = absurd drops
