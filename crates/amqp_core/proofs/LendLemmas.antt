-- A frame that is taken by an end whose events lend: what is told of it by its verdict, and what it leaves.
use Rattle.std.proofs.Common.{◌≡◌, ◌||◌, true, cond, ℕ, List, Option, Some, None, Result, Ok, Err, IfOk, refl, ap, sym, ◌∙◌, subst}
use Rattle.amqp_frame.specs.declared.frames.FrameKind.{FrameKind}
use Rattle.amqp_method.specs.declared.kinds.Kind.TheVariants as kinds
use Rattle.amqp_model.specs.End.Channels.{End}
use Rattle.amqp_model.specs.End.EndVerdict.{facts_at}
use Rattle.amqp_model.specs.End.Events as events
use Rattle.amqp_model.specs.End.Events.{FrameVerdict, reason_in}
use Rattle.amqp_model.specs.End.FrameVerdict.{event_told as told_of_verdict}
use Rattle.amqp_model.specs.End.Machine.{end_after_taken, taken_verdict}
use Rattle.amqp_model.specs.History.Negotiation.{Config}
use Rattle.amqp_model.specs.Laws.OctetLaws.{event_of_frame}
use Rattle.amqp_model.specs.Lent.Alike.{AlikeEnds, Other, lent, maybe_telling, part_lent}
use Rattle.amqp_model.specs.Wire.Contents.{Content}
use Rattle.amqp_model.specs.Wire.Methods.{Method, MethodKind, octets_at, same_kind}
use Rattle.amqp_model.specs.Wire.Notes.{Role}
use Rattle.amqp_model.specs.Wire.Readings.{Reading, Calls, reading as says}
use Rattle.amqp_channel.specs.Verdict.VerdictView.{IsWhole, event_told, whole_now}
use Rattle.amqp_channel.specs.declared.verdict.Reply.{Reply}
use Rattle.amqp_channel.specs.declared.verdict.Told.{Told}
use Rattle.amqp_channel.specs.declared.verdict.Told.TheVariants as told
use Rattle.amqp_channel.specs.declared.verdict.Verdict.TheVariants as ruled
use Rattle.amqp_core.specs.Connection.View.{frame_at}
use Rattle.amqp_core.specs.Stream.EventRefView.{channel_close_lent, channel_lent, close_lent, blocked_lent, notice_lent}
use Rattle.amqp_core.specs.Stream.Lending.{AlikeLeft}
use Rattle.amqp_core.specs.Connection.Outcomes.{SameEnd}
use Rattle.amqp_core.specs.Config.Settings.{config_view, role_for}
use Rattle.amqp_core.specs.Connection.Verdicts.{end_left, ended_if, event_by, fault_by, verdict_here, FitsVerdict, FrameRules}
use Rattle.amqp_core.specs.declared.owed.Owed.{Owed}
use Rattle.amqp_core.specs.declared.settings.Settings.{Settings}
use Rattle.amqp_core.specs.declared.stage.Stage.{Stage}
use Rattle.amqp_core.specs.declared.verdict.Notice.{Notice}
use Rattle.amqp_core.specs.declared.verdict.Notice.TheVariants as notice
use Rattle.amqp_core.specs.Connection.Rulings.{Ruling, OnChannel, OnConnection}
use Rattle.amqp_core.specs.declared.verdict.Verdict.TheVariants.{Proceeds}
use Rattle.amqp_core.proofs.ReceiveLemmas.{left_is}
use Rattle.amqp_core.proofs.StreamLemmas.{alike_left, left_onwards, same_left}

-- What is told.

whole_told : (number : ℕ) (reading : Reading) (whole : Option Content) → IsWhole whole → part_lent number reading true ≡ lent number reading (maybe_telling (event_told number reading whole told.Completed))
whole_told number reading (Some content) is = refl
whole_told number reading None is = absurd is

closes : (kind : MethodKind) → kind ≡ kinds.ChannelClose → (same_kind kind kinds.ChannelClose || same_kind kind kinds.ConnectionClose) ≡ true
closes kind e = ap (λ k. same_kind k kinds.ChannelClose || same_kind k kinds.ConnectionClose) e

closes_all : (kind : MethodKind) → kind ≡ kinds.ConnectionClose → (same_kind kind kinds.ChannelClose || same_kind kind kinds.ConnectionClose) ≡ true
closes_all kind e = ap (λ k. same_kind k kinds.ChannelClose || same_kind k kinds.ConnectionClose) e

blocks : (kind : MethodKind) → kind ≡ kinds.ConnectionBlocked → same_kind kind kinds.ConnectionBlocked ≡ true
blocks kind e = ap (λ k. same_kind k kinds.ConnectionBlocked) e

close_told : (number : ℕ) (method : Method) → method.kind ≡ kinds.ChannelClose → channel_close_lent number (Calls method) ≡ Some (Other (events.ChannelClosed number (Some (reason_in method))))
close_told number method e = ap (λ b. cond b (Some (Other (events.ChannelClosed number (Some (reason_in method))))) None) (closes method.kind e)

connection_close_told : (method : Method) → method.kind ≡ kinds.ConnectionClose → close_lent (Calls method) ≡ Some (Other (events.ConnectionClosed (Some (reason_in method))))
connection_close_told method e = ap (λ b. cond b (Some (Other (events.ConnectionClosed (Some (reason_in method))))) None) (closes_all method.kind e)

blocked_told : (method : Method) → method.kind ≡ kinds.ConnectionBlocked → blocked_lent (Calls method) ≡ Some (Other (events.Blocked (octets_at 0 method)))
blocked_told method e = ap (λ b. cond b (Some (Other (events.Blocked (octets_at 0 method)))) None) (blocks method.kind e)

-- a frame of a channel
pub told_lends : (settings : Settings) (end : End) (number : ℕ) (reading : Reading) (said : Told) (due : Option Reply) → FitsVerdict end number reading (OnChannel (ruled.Proceeds said due))
    → channel_lent number reading said ≡ lent number reading (maybe_telling (event_by number (verdict_here settings end number reading (OnChannel (ruled.Proceeds said due)))))
told_lends settings end number (Calls method) told.Method due fits = refl
told_lends settings end number reading told.Method due fits = absurd fits.2
told_lends settings end number reading told.Begun due fits = refl
told_lends settings end number reading told.Headed due fits = refl
told_lends settings end number reading told.Continued due fits = refl
told_lends settings end number reading told.Completed due fits = whole_told number reading (whole_now (end.channels number) reading) fits.2
told_lends settings end number reading told.Opened due fits = refl
told_lends settings end number reading (told.Flow active) due fits = refl
told_lends settings end number reading (told.FlowOk active) due fits = refl
told_lends settings end number (Calls method) told.ClosedByPeer due fits = close_told number method fits.2
told_lends settings end number reading told.ClosedByPeer due fits = absurd fits.2
told_lends settings end number reading told.ClosedByUs due fits = refl
told_lends settings end number reading told.Discarded due fits = refl
told_lends settings end number reading told.Quiet due fits = refl

-- a frame that tells of the connection
pub notice_lends : (settings : Settings) (end : End) (number : ℕ) (reading : Reading) (said : Notice) (stage : Stage) (due : Owed) → FitsVerdict end number reading (OnConnection (Proceeds said stage due))
    → notice_lent number reading said ≡ lent number reading (maybe_telling (event_by number (verdict_here settings end number reading (OnConnection (Proceeds said stage due)))))
notice_lends settings end number reading notice.Quiet stage due fits = refl
notice_lends settings end number reading notice.Discarded stage due fits = refl
notice_lends settings end number reading notice.AnswerAsked stage due fits = refl
notice_lends settings end number reading notice.LoginAsked stage due fits = refl
notice_lends settings end number reading notice.OpenAsked stage due fits = refl
notice_lends settings end number reading (notice.Negotiated agreed) stage due fits = refl
notice_lends settings end number (Calls method) notice.ClosedByPeer stage due fits = connection_close_told method fits.0
notice_lends settings end number reading notice.ClosedByPeer stage due fits = absurd fits.0
notice_lends settings end number reading notice.ClosedByUs stage due fits = refl
notice_lends settings end number (Calls method) notice.Blocked stage due fits = blocked_told method fits.0
notice_lends settings end number reading notice.Blocked stage due fits = absurd fits.0
notice_lends settings end number reading notice.Unblocked stage due fits = refl

events_are : {role : Role} (config : Config role) (end : End) (number : ℕ) (verdict : FrameVerdict) → event_by number verdict ≡ told_of_verdict (facts_at config end number) verdict
events_are config end number (events.Proceeds event owed) = refl
events_are config end number events.RefusesContent = refl
events_are config end number (events.Faults fault) = refl

-- the event is the one of the definitions
pub event_is : (settings : Settings) (end : End) (number : ℕ) (kind : FrameKind) (payload : List ℕ) (reading : Reading) (verdict : Ruling) → FrameRules settings end number reading verdict → reading ≡ says (frame_at number kind payload)
    → event_by number (verdict_here settings end number reading verdict) ≡ event_of_frame (config_view settings) end (frame_at number kind payload)
event_is settings end number kind payload reading verdict rules read =
    events_are (config_view settings) end number (verdict_here settings end number reading verdict)
    ∙ (ap (told_of_verdict (facts_at (config_view settings) end number)) rules.verdict
    ∙ ap (λ r. told_of_verdict (facts_at (config_view settings) end number) (taken_verdict (config_view settings) end number r)) read)

pub if_ok_map : {A B : Type 0} (result : Result A B) (P Q : A → Type 0) → ((a : A) → P a → Q a) → IfOk result P → IfOk result Q
if_ok_map (Ok value) P Q f p = f value p
if_ok_map (Err fault) P Q f p = tt

-- What is left.

ended_alike : (fault : Option events.Fault) (one other : End) → AlikeEnds one other → AlikeLeft (ended_if fault one) (ended_if fault other)
ended_alike None one other a = alike_left one other a
ended_alike (Some fault) one other a = record { phase = refl; agreed = a.agreed; no_channel = a.channels 0; channels = λ running n. a.channels n }

pub left_alike :
    (settings : Settings) (end mid after : End) (number : ℕ) (kind : FrameKind) (payload : List ℕ) (reading : Reading) (verdict : Ruling)
    (fault : Option events.Fault)
    → FrameRules settings end number reading verdict → reading ≡ says (frame_at number kind payload)
    → AlikeEnds (end_left (role_for settings) number reading verdict end) mid
    → fault ≡ fault_by (verdict_here settings end number reading verdict) → after ≡ ended_if fault mid
    → AlikeLeft (end_after_taken (role_for settings) (config_view settings) end (says (frame_at number kind payload)) (frame_at number kind payload)) after
left_alike settings end mid after number kind payload reading verdict fault rules read alike fault_is after_is =
    let left : End = end_left (role_for settings) number reading verdict end in
    let next : End = end_after_taken (role_for settings) (config_view settings) end (says (frame_at number kind payload)) (frame_at number kind payload) in
    let same : SameEnd next (ended_if fault left) = left_is settings end left (ended_if fault left) number kind payload reading verdict fault rules read refl fault_is refl in
    subst (λ (e : End). AlikeLeft next e) (sym after_is)
    (left_onwards next (ended_if fault left) (ended_if fault mid) (same_left next (ended_if fault left) same) (ended_alike fault left mid alike))
