-- Alike ends stay alike after each entry, and after a frame that they take.
use Rattle.std.proofs.Common.{◌≡◌, Bool, true, false, cond, ℕ, zero, suc, ◌==◌, List, [], ◌∷◌, drop}
use Rattle.std.proofs.Common.{refl, sym, ap, ◌∙◌, subst}
use Rattle.amqp_model.specs.Wire.Frame.{Frame}
use Rattle.amqp_model.specs.Wire.Notes.{Role, Client, Server, Kind, Open, OpenOk, Close, CloseOk, Flow, FlowOk, Other}
use Rattle.amqp_model.specs.Wire.Methods.{is_reply}
use Rattle.amqp_model.specs.Wire.Gathering.{Gathering, Step, Keeps, Completes, Breaks, step, remains}
use Rattle.amqp_model.specs.Lent.Streaming.{Streams, GoesOn, Ends, Stops, stream_step, stream_remains, streamed}
use Rattle.amqp_model.specs.Lent.Streaming.{streamed_step}
use Rattle.amqp_model.specs.Wire.Readings.{Reading, Calls, UnknownMethod, MalformedMethod, HeaderOf, MalformedHeader}
use Rattle.amqp_model.specs.Wire.Readings.{BodyOf, Beat, kind_of, payload_of, reading as reading_of}
use Rattle.amqp_model.specs.History.Histories.{ChannelEntry, PutHere, TookHere, LeftHere}
use Rattle.amqp_model.specs.History.Replies.{one_if, completes_reply, answered_by, asked_by}
use Rattle.amqp_model.specs.End.Channels as channels
use Rattle.amqp_model.specs.End.Channels.{Life, Channel, Free, Opening, Closing, Phase, Handshake, Running, Closed}
use Rattle.amqp_model.specs.End.Channels.{Failed, End}
use Rattle.amqp_model.specs.History.Negotiation.{Config}
use Rattle.amqp_model.specs.End.Closes.{Owed, frame_of}
use Rattle.amqp_model.specs.End.Events.{FrameVerdict, Proceeds, RefusesContent, Faults}
use Rattle.amqp_model.specs.End.FrameVerdict.{methods_put}
use Rattle.amqp_model.specs.End.EndVerdict.{facts_at}
use Rattle.amqp_model.specs.End.Machine.{paused_after, awaits_after, with_asked, requests_after, life_after}
use Rattle.amqp_model.specs.End.Machine.{open_after_putting, open_after_taking, channel_after_put, after_taken, channel_after}
use Rattle.amqp_model.specs.End.Machine.{unless_leaving, end_after, end_after_owed, end_after_put, failed_by, as_failed}
use Rattle.amqp_model.specs.End.Machine.{taken_verdict}
use Rattle.amqp_model.specs.Lent.Alike.{AlikeLives, AlikeChannels, AlikeEnds, VerdictTelling, Proceeding, Refusing}
use Rattle.amqp_model.specs.Lent.Alike.{Faulting, verdict_telling}
use Rattle.amqp_model.specs.Laws.StreamingLaws.{EntriesLeaveAlike, PuttingLeavesAlike, TakingLeavesAlike}
use Rattle.amqp_model.proofs.Streamed.{steps-alike, remains-alike}
use Rattle.amqp_model.proofs.AlikeVerdicts.{alike-end, verdicts-alike, puts-alike}

pub life-itself : (life : Life) → AlikeLives life life
life-itself life = record { content = refl; paused = refl; awaits = refl; requests = refl }

pub channel-itself : (channel : Channel) → AlikeChannels channel channel
channel-itself Free = tt
channel-itself Opening = tt
channel-itself Closing = tt
channel-itself (channels.Open life) = life-itself life

-- A life.

-- payloads do alike to contents of which as much is known
pub steps-both : (g h : Gathering) (reading : Reading) → streamed g ≡ streamed h
    → streamed_step (step g (payload_of reading)) ≡ streamed_step (step h (payload_of reading))
steps-both g h reading e =
    sym (steps-alike g (payload_of reading)) ∙ (ap (λ s. stream_step s (payload_of reading)) e
    ∙ steps-alike h (payload_of reading))

remains-both : (g h : Gathering) (reading : Reading) → streamed g ≡ streamed h
    → streamed (remains (step g (payload_of reading)) (payload_of reading))
    ≡ streamed (remains (step h (payload_of reading)) (payload_of reading))
remains-both g h reading e =
    sym (remains-alike g (payload_of reading))
    ∙ (ap (λ s. stream_remains (stream_step s (payload_of reading)) (payload_of reading)) e
    ∙ remains-alike h (payload_of reading))

replies_in : Streams → Bool
replies_in (GoesOn streaming) = false
replies_in (Ends kind) = is_reply kind
replies_in (Stops misfit) = false

replies-in : (s : Step) → completes_reply s ≡ replies_in (streamed_step s)
unfolding replies_in
replies-in (Keeps gathering) = refl
replies-in (Completes content) = refl
replies-in (Breaks misfit) = refl

answered-part : (g h : Gathering) (reading : Reading) → streamed g ≡ streamed h
    → one_if (completes_reply (step g (payload_of reading)))
    ≡ one_if (completes_reply (step h (payload_of reading)))
answered-part g h reading e =
    ap one_if (replies-in (step g (payload_of reading))
    ∙ (ap replies_in (steps-both g h reading e) ∙ sym (replies-in (step h (payload_of reading)))))

answered-alike : (role : Role) (entry : ChannelEntry) (g h : Gathering) → streamed g ≡ streamed h
    → answered_by role entry g ≡ answered_by role entry h
answered-alike Server (PutHere reading frame) g h e = refl
answered-alike Client (PutHere reading frame) g h e = refl
answered-alike Client (TookHere (Calls method) frame) g h e = refl
answered-alike Client (TookHere UnknownMethod frame) g h e = answered-part g h UnknownMethod e
answered-alike Client (TookHere MalformedMethod frame) g h e = answered-part g h MalformedMethod e
answered-alike Client (TookHere (HeaderOf size properties) frame) g h e = answered-part g h (HeaderOf size properties) e
answered-alike Client (TookHere MalformedHeader frame) g h e = answered-part g h MalformedHeader e
answered-alike Client (TookHere (BodyOf octets) frame) g h e = answered-part g h (BodyOf octets) e
answered-alike Client (TookHere (Beat empty) frame) g h e = answered-part g h (Beat empty) e
answered-alike Server (TookHere reading frame) g h e = refl
answered-alike Client LeftHere g h e = refl
answered-alike Server LeftHere g h e = refl

requests-alike : (role : Role) (entry : ChannelEntry) (one other : Life) → AlikeLives one other
    → requests_after role entry one.content one.requests ≡ requests_after role entry other.content other.requests
requests-alike role entry one other a =
    ap (λ n. with_asked (asked_by role entry) (drop n one.requests))
    (answered-alike role entry one.content other.content a.content)
    ∙ ap (λ requests. with_asked (asked_by role entry) (drop (answered_by role entry other.content) requests))
    a.requests

pub life-stays-alike : (role : Role) (entry : ChannelEntry) (one other : Life) → AlikeLives one other
    → AlikeLives (life_after role entry one) (life_after role entry other)
life-stays-alike role (PutHere reading frame) one other a =
    record {
      content = a.content;
      paused = ap (paused_after (PutHere reading frame)) a.paused;
      awaits = ap (awaits_after (PutHere reading frame)) a.awaits;
      requests =
          requests-alike role (PutHere reading frame) one other a;
    }
life-stays-alike role (TookHere reading frame) one other a =
    record {
      content = remains-both one.content other.content reading a.content;
      paused = ap (paused_after (TookHere reading frame)) a.paused;
      awaits = ap (awaits_after (TookHere reading frame)) a.awaits;
      requests =
          requests-alike role (TookHere reading frame) one other a;
    }
life-stays-alike role LeftHere one other a =
    record {
      content = a.content;
      paused = a.paused;
      awaits = a.awaits;
      requests = requests-alike role LeftHere one other a;
    }

-- A channel.

open-put : (role : Role) (entry : ChannelEntry) (one other : Life) (kind : Kind) → AlikeLives one other
    → AlikeChannels (open_after_putting role entry one kind) (open_after_putting role entry other kind)
open-put role entry one other Open a = life-stays-alike role entry one other a
open-put role entry one other OpenOk a = life-stays-alike role entry one other a
open-put role entry one other Close a = tt
open-put role entry one other CloseOk a = life-stays-alike role entry one other a
open-put role entry one other (Flow active) a = life-stays-alike role entry one other a
open-put role entry one other (FlowOk active) a = life-stays-alike role entry one other a
open-put role entry one other (Other begins) a = life-stays-alike role entry one other a

open-taken : (role : Role) (entry : ChannelEntry) (one other : Life) (kind : Kind) → AlikeLives one other
    → AlikeChannels (open_after_taking role entry one kind) (open_after_taking role entry other kind)
open-taken role entry one other Open a = life-stays-alike role entry one other a
open-taken role entry one other OpenOk a = life-stays-alike role entry one other a
open-taken role entry one other Close a = tt
open-taken role entry one other CloseOk a = life-stays-alike role entry one other a
open-taken role entry one other (Flow active) a = life-stays-alike role entry one other a
open-taken role entry one other (FlowOk active) a = life-stays-alike role entry one other a
open-taken role entry one other (Other begins) a = life-stays-alike role entry one other a

put-alike : (role : Role) (entry : ChannelEntry) (one other : Channel) (kind : Kind) → AlikeChannels one other
    → AlikeChannels (channel_after_put role entry one kind) (channel_after_put role entry other kind)
put-alike role entry Free Free kind a = channel-itself (channel_after_put role entry Free kind)
put-alike role entry Opening Opening kind a = tt
put-alike role entry Closing Closing kind a = tt
put-alike role entry (channels.Open one) (channels.Open other) kind a = open-put role entry one other kind a
put-alike role entry one other kind a = absurd a

taken-alike : (role : Role) (entry : ChannelEntry) (one other : Channel) (kind : Kind) → AlikeChannels one other
    → AlikeChannels (after_taken role entry one kind) (after_taken role entry other kind)
taken-alike role entry Free Free kind a = channel-itself (after_taken role entry Free kind)
taken-alike role entry Opening Opening kind a = channel-itself (after_taken role entry Opening kind)
taken-alike role entry Closing Closing kind a = channel-itself (after_taken role entry Closing kind)
taken-alike role entry (channels.Open one) (channels.Open other) kind a = open-taken role entry one other kind a
taken-alike role entry one other kind a = absurd a

pub channel-stays-alike : (role : Role) (entry : ChannelEntry) (one other : Channel) → AlikeChannels one other
    → AlikeChannels (channel_after role entry one) (channel_after role entry other)
channel-stays-alike role (PutHere reading frame) one other a =
    put-alike role (PutHere reading frame) one other (kind_of reading) a
channel-stays-alike role (TookHere reading frame) one other a =
    taken-alike role (TookHere reading frame) one other (kind_of reading) a
channel-stays-alike role LeftHere one other a = a

-- An end.

unless-alike : (phase : Phase) (before others after next : Channel) → AlikeChannels before others
    → AlikeChannels after next
    → AlikeChannels (unless_leaving phase before after) (unless_leaving phase others next)
unless-alike (Handshake step) before others after next b a = a
unless-alike Running before others after next b a = a
unless-alike Phase.Closing before others after next b a = b
unless-alike Closed before others after next b a = a
unless-alike Failed before others after next b a = a

set-alike : (b : Bool) (one other this that : Channel) → AlikeChannels one other → AlikeChannels this that
    → AlikeChannels (cond b one this) (cond b other that)
set-alike true one other this that a rest = a
set-alike false one other this that a rest = rest

-- an end with these channels, in the place of its own
abbrev with_channels : End → (ℕ → Channel) → End
with_channels end channels = record { phase = end.phase; agreed = end.agreed; channels = channels }

entry-alike : (role : Role) (config : Config role) (one : End) (others : ℕ → Channel) (number : ℕ)
    (entry : ChannelEntry) → ((n : ℕ) → AlikeChannels (one.channels n) (others n))
    → AlikeEnds (end_after role config number entry one)
    (end_after role config number entry (with_channels one others))
entry-alike role config one others zero entry a = record { phase = refl; agreed = refl; channels = a }
entry-alike role config one others (suc n) entry a =
    record {
      phase = refl;
      agreed = refl;
      channels = λ m.
          set-alike (m == suc n) _ _ _ _
          (unless-alike one.phase (one.channels (suc n)) (others (suc n)) _ _ (a (suc n))
          (channel-stays-alike role entry (one.channels (suc n)) (others (suc n)) (a (suc n)))) (a m);
    }

pub entries-leave-alike : EntriesLeaveAlike
entries-leave-alike role config one other number entry a =
    alike-end one other a (λ end. AlikeEnds (end_after role config number entry one)
    (end_after role config number entry end))
    (entry-alike role config one other.channels number entry a.channels)

owed-leaves-alike : (role : Role) (config : Config role) (owed : List Owed) (one other : End) → AlikeEnds one other
    → AlikeEnds (end_after_owed role config owed one) (end_after_owed role config owed other)
owed-leaves-alike role config [] one other a = a
owed-leaves-alike role config (owed ∷ later) one other a =
    owed-leaves-alike role config later _ _ (entries-leave-alike role config one other owed.channel
    (PutHere (Calls owed.method) (frame_of owed)) a)

pub puts-leave-alike : (role : Role) (config : Config role) (one other : End) (owed : List Owed) → AlikeEnds one other
    → AlikeEnds (end_after_owed role config owed one) (end_after_owed role config owed other)
puts-leave-alike role config one other owed a = owed-leaves-alike role config owed one other a

frames-leave-alike : (role : Role) (config : Config role) (frames : List Frame) (one other : End)
    → AlikeEnds one other
    → AlikeEnds (end_after_put role config frames one) (end_after_put role config frames other)
frames-leave-alike role config [] one other a = a
frames-leave-alike role config (frame ∷ later) one other a =
    frames-leave-alike role config later _ _ (entries-leave-alike role config one other frame.channel
    (PutHere (reading_of frame) frame) a)

pub putting-leaves-alike : PuttingLeavesAlike
putting-leaves-alike role config one other frames a = frames-leave-alike role config frames one other a

-- an end that the verdict says has failed
fails_in : VerdictTelling → Bool
fails_in (Proceeding event owed) = false
fails_in Refusing = false
fails_in (Faulting fault) = true

fails-in : (verdict : FrameVerdict) (end : End)
    → failed_by verdict end ≡ cond (fails_in (verdict_telling verdict)) (as_failed end) end
unfolding fails_in
fails-in (Proceeds event owed) end = refl
fails-in RefusesContent end = refl
fails-in (Faults fault) end = refl

cond-fails : (b : Bool) (one other : End) → AlikeEnds one other
    → AlikeEnds (cond b (as_failed one) one) (cond b (as_failed other) other)
cond-fails true one other a = record { phase = refl; agreed = a.agreed; channels = a.channels }
cond-fails false one other a = a

pub failed-alike : (verdict others : FrameVerdict) (one other : End)
    → verdict_telling verdict ≡ verdict_telling others → AlikeEnds one other
    → AlikeEnds (failed_by verdict one) (failed_by others other)
failed-alike verdict others one other e a =
    subst (λ end. AlikeEnds end (failed_by others other)) (sym (fails-in verdict one))
    (subst (AlikeEnds (cond (fails_in (verdict_telling verdict)) (as_failed one) one))
    (ap (λ v. cond (fails_in v) (as_failed other) other) e ∙ sym (fails-in others other))
    (cond-fails (fails_in (verdict_telling verdict)) one other a))

pub taking-leaves-alike : TakingLeavesAlike
taking-leaves-alike role config one other reading frame a =
    failed-alike _ _ _ _ (verdicts-alike role config one other frame.channel reading a)
    (subst (λ owed.
    AlikeEnds (end_after_owed role config
    (methods_put (facts_at config one frame.channel) (taken_verdict config one frame.channel reading))
    (end_after role config frame.channel (TookHere reading frame) one))
    (end_after_owed role config owed (end_after role config frame.channel (TookHere reading frame) other)))
    (puts-alike role config one other frame.channel reading a)
    (puts-leave-alike role config _ _
    (methods_put (facts_at config one frame.channel) (taken_verdict config one frame.channel reading))
    (entries-leave-alike role config one other frame.channel (TookHere reading frame) a)))
