-- A channel's step is the end's.
use Rattle.std.proofs.Common.{◌≡◌, ◌<◌, ◌==◌, Bool, true, false, cond, ℕ, zero, suc, List, [], ◌∷◌, map, refl, ap, sym, ◌∙◌, arith}
use Rattle.std.proofs.lemmas.Bool.{eq-eqb, false≢true}
use Rattle.amqp_frame.specs.declared.frames.FrameKind.{FrameKind}
use Rattle.amqp_method.specs.declared.kinds.Kind.TheVariants as kinds
use Rattle.amqp_model.specs.End.Channels.{Agreed, Channel}
use Rattle.amqp_model.specs.End.Closes.{ContentTooLarge, close_as, number_of, text_of, reply_to, frame_of}
use Rattle.amqp_model.specs.End.Events.{FrameVerdict}
use Rattle.amqp_model.specs.End.FrameVerdict.{on_channel, methods_put}
use Rattle.amqp_model.specs.History.Histories.{ChannelEntry, PutHere, TookHere}
use Rattle.amqp_model.specs.End.EndVerdict.{facts_at}
use Rattle.amqp_model.specs.End.Machine.{set_channel, channel_after, end_after, end_after_owed, failed_by}
use Rattle.amqp_model.specs.Wire.Methods.{Method}
use Rattle.amqp_model.specs.History.Negotiation.{Config}
use Rattle.amqp_model.specs.Wire.Readings.{Reading, Calls}
use Rattle.amqp_channel.specs.Roles.{role_of}
use Rattle.amqp_channel.specs.Verdict.Leaving.{after_owed}
use Rattle.amqp_channel.specs.Verdict.VerdictView.{reply_there}
use Rattle.amqp_channel.specs.declared.site.Site.{Site}
use Rattle.amqp_channel.specs.declared.verdict.Verdict.TheVariants as code
use Rattle.amqp_core.specs.Connection.OneChannel.{running_end, frame_here, StepsAsEnd}

pub entry_above : (site : Site) (config : Config (role_of site.side)) (limits : Agreed) (number : ℕ) (entry : ChannelEntry) (channels : ℕ → Channel) → 0 < number → end_after (role_of site.side) config number entry (running_end site limits channels) ≡ running_end site limits (set_channel number (channel_after (role_of site.side) entry (channels number)) channels)
entry_above site config limits zero entry channels h = absurd (omega arith)
entry_above site config limits (suc n) entry channels h = refl

set_once : (b : Bool) (first second before : Channel) → cond b second (cond b first before) ≡ cond b second before
set_once true first second before = refl
set_once false first second before = refl

pub set_twice : (number : ℕ) (first second : Channel) (channels : ℕ → Channel) → set_channel number second (set_channel number first channels) ≡ set_channel number second channels
set_twice number first second channels = λ i other. set_once (other == number) first second (channels other) i

same_number : (n : ℕ) → (n == n) ≡ true
same_number n = eq-eqb n n refl

pub set_here : (number : ℕ) (channel : Channel) (channels : ℕ → Channel) → set_channel number channel channels number ≡ channel
set_here number channel channels = rw (same_number number) refl

owed_above : (site : Site) (config : Config (role_of site.side)) (limits : Agreed) (methods : List Method) (channel : Channel) (channels : ℕ → Channel) → 0 < site.number → end_after_owed (role_of site.side) config (map (on_channel site.number) methods) (running_end site limits (set_channel site.number channel channels)) ≡ running_end site limits (set_channel site.number (after_owed (role_of site.side) (map (on_channel site.number) methods) channel) channels)
owed_above site config limits [] channel channels h = refl
owed_above site config limits (method ∷ methods) channel channels h =
    let entry : ChannelEntry = PutHere (Calls method) (frame_of (on_channel site.number method)) in
    let once : end_after (role_of site.side) config site.number entry (running_end site limits (set_channel site.number channel channels)) ≡ running_end site limits (set_channel site.number (channel_after (role_of site.side) entry channel) channels) =
    entry_above site config limits site.number entry (set_channel site.number channel channels) h
    ∙ (rw (set_here site.number channel channels, set_twice site.number channel (channel_after (role_of site.side) entry channel) channels) refl) in
    ap (end_after_owed (role_of site.side) config (map (on_channel site.number) methods)) once
    ∙ owed_above site config limits methods (channel_after (role_of site.side) entry channel) channels h

-- an equal verdict, the same end
by_verdict : (site : Site) (config : Config (role_of site.side)) (limits : Agreed) (channels : ℕ → Channel) (entry : ChannelEntry) (taken verdict : FrameVerdict) → taken ≡ verdict → failed_by taken (end_after_owed (role_of site.side) config (methods_put (facts_at config (running_end site limits channels) site.number) taken) (end_after (role_of site.side) config site.number entry (running_end site limits channels))) ≡ failed_by verdict (end_after_owed (role_of site.side) config (methods_put (facts_at config (running_end site limits channels) site.number) verdict) (end_after (role_of site.side) config site.number entry (running_end site limits channels)))
by_verdict site config limits channels entry taken verdict e =
    ap (λ v. failed_by v (end_after_owed (role_of site.side) config (methods_put (facts_at config (running_end site limits channels) site.number) v) (end_after (role_of site.side) config site.number entry (running_end site limits channels)))) e

-- the methods that a verdict of the code owes stand on the channel
step_by : (site : Site) (config : Config (role_of site.side)) (limits : Agreed) (channels : ℕ → Channel) (kind : FrameKind) (payload : List ℕ) (reading : Reading) (methods : List Method) (after : Channel) → 0 < site.number → after ≡ after_owed (role_of site.side) (map (on_channel site.number) methods) (channel_after (role_of site.side) (TookHere reading (frame_here site kind payload)) (channels site.number)) → end_after_owed (role_of site.side) config (map (on_channel site.number) methods) (end_after (role_of site.side) config site.number (TookHere reading (frame_here site kind payload)) (running_end site limits channels)) ≡ running_end site limits (set_channel site.number after channels)
step_by site config limits channels kind payload reading methods after h after_is =
    ap (end_after_owed (role_of site.side) config (map (on_channel site.number) methods)) (entry_above site config limits site.number (TookHere reading (frame_here site kind payload)) channels h)
    ∙ (owed_above site config limits methods (channel_after (role_of site.side) (TookHere reading (frame_here site kind payload)) (channels site.number)) channels h
    ∙ ap (λ c. running_end site limits (set_channel site.number c channels)) (sym after_is))

pub steps_as_end : StepsAsEnd
steps_as_end site config limits channels kind payload reading (code.Proceeds told due) h most rules goes =
    let same = sym (rules.verdict config limits most) in
    record {
      verdict_is = same;
      end_is =
          by_verdict site config limits channels (TookHere reading (frame_here site kind payload)) _ _ same
          ∙ step_by site config limits channels kind payload reading (reply_to (reply_there due)) _ h (rules.leaves (frame_here site kind payload));
    }
steps_as_end site config limits channels kind payload reading code.RefusesContent h most rules goes =
    let same = sym (rules.verdict config limits most) in
    record {
      verdict_is = same;
      end_is =
          by_verdict site config limits channels (TookHere reading (frame_here site kind payload)) _ _ same
          ∙ step_by site config limits channels kind payload reading (close_as kinds.ChannelClose (number_of ContentTooLarge) (text_of ContentTooLarge) ∷ []) _ h (rules.leaves (frame_here site kind payload));
    }
steps_as_end site config limits channels kind payload reading (code.Faults fault) h most rules goes = absurd (false≢true goes)
