-- What an accepted ask leaves: the end of its frames, and the output with them.
use Rattle.std.proofs.Common.{◌≡◌, ◌<◌, Bool, true, false, ℕ, List, [], ◌∷◌, ◌++◌, map, length, Some, None, refl, ap, sym, ◌∙◌, subst}
use Rattle.std.proofs.lemmas.Bool.{false≢true}
use Rattle.amqp_method.specs.Kinds.{has_content}
use Rattle.amqp_method.specs.MethodView.{method_view}
use Rattle.amqp_method.specs.Sorts.{sort_alone}
use Rattle.amqp_method.specs.declared.kinds.Kind.TheVariants as kinds
use Rattle.amqp_model.specs.End.Asks.{Ask, Open, Send, Close, Blocked, Unblocked, frames_asked, is_made, message_payloads, lowest_free, method_asked, is_running, opens_on, payload_frame, refusal}
use Rattle.amqp_model.specs.End.Channels.{Channel, End, Running}
use Rattle.amqp_model.specs.End.Closes.{Cause, method_frame, without_arguments}
use Rattle.amqp_model.specs.Wire.Contents as contents
use Rattle.amqp_model.specs.Wire.Contents.{Payload, pieces, room_in}
use Rattle.amqp_model.specs.End.Events.{Message, Plain, Whole}
use Rattle.amqp_model.specs.Wire.Frame.{Frame}
use Rattle.amqp_model.specs.History.Histories.{ChannelEntry, PutHere}
use Rattle.amqp_model.specs.End.Machine.{set_channel, channel_after, end_after, end_after_put}
use Rattle.amqp_model.specs.Wire.Methods.{Method, MethodKind, MethodRead, ReadsBack, carries_content, begins_content}
use Rattle.amqp_model.specs.History.Negotiation.{Config}
use Rattle.amqp_model.specs.Wire.Notes.{Role, Client, Server}
use Rattle.amqp_model.specs.Output.Outputs.{after_puts}
use Rattle.amqp_model.specs.End.ReadingBack.{AskReadsBack}
use Rattle.amqp_model.specs.Wire.Readings.{Calls, payload_of, method_reading, header_reading, reading}
use Rattle.amqp_outbox.specs.OutboxView.{Outgoing, only, with_staged, all_put}
use Rattle.amqp_channel.specs.Channels.ChannelsView.{OnlyAt}
use Rattle.amqp_channel.specs.Events.EventView.{agreed_view, message_of}
use Rattle.amqp_channel.specs.Channels.Payloads.{after_payloads}
use Rattle.amqp_channel.specs.Roles.{role_of}
use Rattle.amqp_channel.specs.declared.events.Agreed.{Agreed}
use Rattle.amqp_channel.specs.declared.site.Site.{Site}
use Rattle.amqp_core.specs.Asks.Outcomes.{IsAccepted, IsAllowed, IsRefusal, IsRefused}
use Rattle.amqp_core.specs.Connection.View.{site_at}
use Rattle.amqp_core.specs.Faults.Numbers.{refusal_view}
use Rattle.amqp_core.specs.Connection.OneChannel.{AreWritten, SayPayloads}
use Rattle.amqp_core.specs.Asks.LentForm.{KindFits, form_letter}
use Rattle.amqp_core.specs.Config.Settings.{config_view, role_for}
use Rattle.amqp_core.specs.Connection.Stages.{agreed_at, phase_at}
use Rattle.amqp_core.specs.declared.faults.AskFault.{AskFault}
use Rattle.amqp_core.specs.declared.lent_message.Form.{Form}
use Rattle.amqp_core.specs.declared.lent_message.Form.TheVariants as form
use Rattle.amqp_core.specs.declared.settings.Settings.{Settings}
use Rattle.amqp_core.specs.declared.stage.Stage.{Stage}
use Rattle.amqp_core.specs.declared.stage.Stage.TheVariants as stages
use Rattle.amqp_core.proofs.ConnectionLemmas.{set_only}
use Rattle.amqp_core.proofs.PutSteps.{puts_as_end}

-- an end at this stage, and one of a connection that is Running

abbrev pub end_at : Stage → (ℕ → Channel) → End
end_at stage channels = record { phase = phase_at stage; agreed = agreed_at stage; channels = channels }

abbrev pub running : Agreed → (ℕ → Channel) → End
running agreed channels = record { phase = Running; agreed = Some (agreed_view agreed); channels = channels }

-- Refusals.

-- at first, where nothing has changed
pub refused_first : (settings : Settings) (ask : Ask) (fault : AskFault) (end : End) (outgoing : Outgoing) → IsRefusal settings end ask fault
    → IsRefused settings ask fault end end outgoing outgoing
refused_first settings ask fault end outgoing refused = record { refused = refused; end_same = refl; output_same = refl }

pub refused_changed : (settings : Settings) (ask : Ask) (fault : AskFault) (before after : End) (outgoing : Outgoing) → IsRefusal settings before ask fault
    → after ≡ before → IsRefused settings ask fault before after outgoing outgoing
refused_changed settings ask fault before after outgoing refused same = record { refused = refused; end_same = same; output_same = refl }

-- out of memory, where no refusal applies
pub refused_late : (settings : Settings) (ask : Ask) (fault : AskFault) (before after : End) (old new : Outgoing) → IsAllowed settings before ask
    → refusal_view fault ≡ None → after ≡ before → new ≡ old → IsRefused settings ask fault before after old new
refused_late settings ask fault before after old new allowed none end output = record { refused = none ∙ sym allowed; end_same = end; output_same = output }

-- what is staged is dropped
pub dropped : (old staged new : Outgoing) → old.staged ≡ [] → staged.output ≡ old.output → new ≡ only staged.output → new ≡ old
dropped old staged new none output new_is =
    new_is ∙ (ap only output ∙ ap (λ l. record { output = old.output; staged = l }) (sym none))

-- channels that look the same
pub same_channels : (stage : Stage) (before after : ℕ → Channel) → ((number : ℕ) → after number ≡ before number) → end_at stage after ≡ end_at stage before
same_channels stage before after same = ap (end_at stage) (λ i number. same number i)

pub same_end : (stage then : Stage) (before after : ℕ → Channel) → then ≡ stage → ((number : ℕ) → after number ≡ before number)
    → end_at then after ≡ end_at stage before
same_end stage then before after then_is same = ap (λ s. end_at s after) then_is ∙ same_channels stage before after same

-- What is put.

-- these frames are put, and nothing is staged
abbrev pub IsPutOf : (frames : List Frame) → (old new : Outgoing) → Type 0
IsPutOf frames old new = new ≡ only (after_puts frames old.output)

pub all_are_put : (old staged new : Outgoing) (frames : List Frame) → old.staged ≡ [] → staged ≡ with_staged old frames → new ≡ all_put staged
    → IsPutOf frames old new
all_are_put old staged new frames none staged_is new_is =
    new_is ∙ (ap all_put staged_is ∙ ap (λ l. only (after_puts (l ++ frames) old.output)) none)

-- Frames of a channel.

channel_end : (settings : Settings) (agreed : Agreed) (number : ℕ) (payload : Payload) (later : List Payload) (before after : ℕ → Channel)
    → 0 < number → AreWritten (payload ∷ later) → SayPayloads number (payload ∷ later)
    → after number ≡ after_payloads (role_for settings) number (payload ∷ later) (before number) → OnlyAt number before after
    → running agreed after
    ≡ end_after_put (role_for settings) (config_view settings) (map (payload_frame number) (payload ∷ later)) (running agreed before)
channel_end settings agreed number payload later before after above written say left others =
    ap (running agreed) (set_only number before after others ∙ ap (λ c. set_channel number c before) left)
    ∙ sym (puts_as_end (site_at settings number agreed.channel_max) (config_view settings) (agreed_view agreed) before payload later above written say)

-- the channel of a site is left as these payloads leave it
abbrev pub LeavesHere : Site → List Payload → (before after : ℕ → Channel) → Type 0
LeavesHere site payloads before after =
    after site.number ≡ after_payloads (role_of site.side) site.number payloads (before site.number)

-- and the others as they were
abbrev pub Leaves : Site → List Payload → (before after : ℕ → Channel) → Type 0
Leaves site payloads before after = LeavesHere site payloads before after × OnlyAt site.number before after

-- the site is that of a channel above 0 of a connection that is Running
pub record IsSiteOf (settings : Settings) (stage : Stage) (agreed : Agreed) (number : ℕ) (site : Site) : Type 0 where
  pub running_is : stage ≡ stages.Running agreed
  pub site_is : site ≡ site_at settings number agreed.channel_max
  pub above : 0 < number

pub put_on_channel : (settings : Settings) (stage : Stage) (agreed : Agreed) (number : ℕ) (site : Site) (ask : Ask) (payload : Payload)
    (later : List Payload) (before after : ℕ → Channel) (old new : Outgoing)
    → IsSiteOf settings stage agreed number site → IsAllowed settings (end_at stage before) ask
    → frames_asked (end_at stage before) ask ≡ map (payload_frame number) (payload ∷ later)
    → AreWritten (payload ∷ later) → SayPayloads number (payload ∷ later) → Leaves site (payload ∷ later) before after
    → IsPutOf (map (payload_frame number) (payload ∷ later)) old new → AskReadsBack ask → is_made ask ≡ true
    → IsAccepted settings ask (end_at stage before) (end_at stage after) old new
put_on_channel settings stage agreed number site ask payload later before after old new here allowed frames_are written say leaves put reads made =
    let Q : Site → Type 0 = λ s. Leaves s (payload ∷ later) before after in
    let left : Q (site_at settings number agreed.channel_max) = subst Q here.site_is leaves in
    let after_all : End → End = end_after_put (role_for settings) (config_view settings) (map (payload_frame number) (payload ∷ later)) in
    let P : Stage → Type 0 = λ s. end_at s after ≡ after_all (end_at s before) in
    let end : P stage = subst P (sym here.running_is) (channel_end settings agreed number payload later before after here.above written say left.0 left.1)
    in
    record {
      allowed = allowed;
      end_is = end ∙ ap (λ frames. end_after_put (role_for settings) (config_view settings) frames (end_at stage before)) (sym frames_are);
      output_is = put ∙ ap (λ frames. only (after_puts frames old.output)) (sym frames_are);
      reads_back = reads;
      made = made;
    }

says_call : (number : ℕ) (method : Method) → ReadsBack method
    → payload_of (reading (payload_frame number (contents.Calls method))) ≡ contents.Calls method
says_call number method reads = ap (λ r. payload_of (method_reading r)) reads

put_as : (method called : Method) (number : ℕ) (old new : Outgoing) → called ≡ method → IsPutOf (method_frame number called ∷ []) old new
    → IsPutOf (method_frame number method ∷ []) old new
put_as method called number old new called_is put = put ∙ ap (λ m. only (after_puts (method_frame number m ∷ []) old.output)) called_is

-- one method, called so
pub one_on_channel : (settings : Settings) (stage : Stage) (agreed : Agreed) (number : ℕ) (site : Site) (ask : Ask) (method called : Method)
    (before after : ℕ → Channel) (old new : Outgoing)
    → IsSiteOf settings stage agreed number site → IsAllowed settings (end_at stage before) ask
    → frames_asked (end_at stage before) ask ≡ method_frame number method ∷ [] → Leaves site (contents.Calls method ∷ []) before after
    → called ≡ method → IsPutOf (method_frame number called ∷ []) old new → ReadsBack called → (ReadsBack method → AskReadsBack ask)
    → is_made ask ≡ true → IsAccepted settings ask (end_at stage before) (end_at stage after) old new
one_on_channel settings stage agreed number site ask method called before after old new here allowed frames_are leaves called_is put reads asked made =
    let reads_back : ReadsBack method = subst ReadsBack called_is reads in
    put_on_channel settings stage agreed number site ask (contents.Calls method) [] before after old new here allowed frames_are (tt, tt)
    (says_call number method reads_back, tt) leaves (put_as method called number old new called_is put) (asked reads_back) made

-- an open, which a client puts on a channel that is free
abbrev open_method : Method
open_method = without_arguments kinds.ChannelOpen

-- what an open leaves of a client's channel
abbrev pub Opens : (number : ℕ) → (before after : ℕ → Channel) → Type 0
Opens number before after =
    (frame : Frame) → after number ≡ channel_after Client (PutHere (Calls (without_arguments kinds.ChannelOpen)) frame) (before number)

pub open_put : (settings : Settings) (stage then : Stage) (number : ℕ) (called : Method) (before between after : ℕ → Channel) (old new : Outgoing)
    → is_running (phase_at stage) ≡ true → then ≡ stage → role_for settings ≡ Client → lowest_free (end_at stage before) ≡ Some number
    → 0 < number → IsAllowed settings (end_at stage before) Open → ((other : ℕ) → between other ≡ before other)
    → Opens number between after → OnlyAt number between after
    → called ≡ without_arguments kinds.ChannelOpen → IsPutOf (method_frame number called ∷ []) old new → ReadsBack called
    → IsAccepted settings Open (end_at stage before) (end_at then after) old new
open_put settings (stages.Running agreed) then number called before between after old new runs then_is client lowest above allowed same at others
    called_is put reads =
    let entry : ChannelEntry = PutHere (Calls open_method) (method_frame number open_method) in
    let left : after number ≡ channel_after (role_for settings) entry (before number) =
    at (method_frame number open_method)
    ∙ (ap (channel_after Client entry) (same number) ∙ ap (λ r. channel_after r entry (before number)) (sym client)) in
    let P : Stage → Type 0 = λ s. IsAccepted settings Open (end_at (stages.Running agreed) before) (end_at s after) old new in
    subst P (sym then_is)
    (one_on_channel settings (stages.Running agreed) agreed number (site_at settings number agreed.channel_max) Open open_method called before after old new
    (record { running_is = refl; site_is = refl; above = above }) allowed (ap opens_on lowest)
    (left, λ other differs. others other differs ∙ same other) called_is put reads (λ r. record { method = r; header = tt; text = tt }) refl)
open_put settings stage then number called before between after old new runs then_is client lowest above allowed same at others called_is put reads =
    absurd (false≢true runs)

-- A message.

bodies_written : (parts : List (List ℕ)) → AreWritten (map contents.Body parts)
bodies_written [] = tt
bodies_written (part ∷ parts) = (tt, bodies_written parts)

bodies_say : (number : ℕ) (parts : List (List ℕ)) → SayPayloads number (map contents.Body parts)
bodies_say number [] = tt
bodies_say number (part ∷ parts) = (refl, bodies_say number parts)

pub message_put : (settings : Settings) (stage : Stage) (agreed : Agreed) (number : ℕ) (site : Site) (message : Message) (before after : ℕ → Channel)
    (old new : Outgoing) → IsSiteOf settings stage agreed number site → IsAllowed settings (end_at stage before) (Send number message)
    → Leaves site (message_payloads agreed.frame_max message) before after
    → IsPutOf (map (payload_frame number) (message_payloads agreed.frame_max message)) old new
    → AskReadsBack (Send number message) → is_made (Send number message) ≡ true
    → IsAccepted settings (Send number message) (end_at stage before) (end_at stage after) old new
message_put settings stage agreed number site (Plain method) before after old new here allowed leaves put reads made =
    put_on_channel settings stage agreed number site (Send number (Plain method)) (contents.Calls method) [] before after old new here allowed refl (tt, tt)
    (says_call number method reads.method, tt) leaves put reads made
message_put settings stage agreed number site (Whole content) before after old new here allowed leaves put reads made =
    let parts : List (List ℕ) = pieces (room_in agreed.frame_max) content.body in
    let later : List Payload = contents.Header (length content.body) content.properties ∷ map contents.Body parts in
    let frames = ap (λ s. frames_asked (end_at s before) (Send number (Whole content))) here.running_is in
    put_on_channel settings stage agreed number site (Send number (Whole content)) (contents.Calls content.method) later before after old new here allowed
    frames (tt, (tt, bodies_written parts))
    (says_call number content.method reads.method, (ap (λ h. payload_of (header_reading h)) reads.header, bodies_say number parts)) leaves put reads made

-- a message is made of a method and of a content where the method carries one
begins_none : (kind : MethodKind) (active : Bool) → begins_content (sort_alone kind active) ≡ false
begins_none kinds.ChannelOpen active = refl
begins_none kinds.ChannelOpenOk active = refl
begins_none kinds.ChannelFlow active = refl
begins_none kinds.ChannelFlowOk active = refl
begins_none kinds.ChannelClose active = refl
begins_none kinds.ChannelCloseOk active = refl
begins_none kind active = refl

pub carries_if : (method : Method) → has_content method.kind ≡ true → carries_content method ≡ true
carries_if method h = rw h refl

carries_not : (method : Method) → has_content method.kind ≡ false → carries_content method ≡ false
carries_not method h = rw h (begins_none method.kind _)

pub message_made : (number : ℕ) (parts : Form) → KindFits parts → is_made (Send number (message_of (form_letter parts))) ≡ true
message_made number (form.Plain method) h = rw (carries_not (method_view method.now) h) refl
message_made number (form.Content method properties body) h = carries_if (method_view method.now) h

-- Methods of the connection.

-- what a method on channel 0 leaves of a connection that is Running
abbrev pub LeavesZero : Agreed → Method → (channels : ℕ → Channel) → (after : End) → Type 0
LeavesZero agreed method channels after =
    (role : Role) (config : Config role) (frame : Frame) → end_after role config 0 (PutHere (Calls method) frame) (running agreed channels) ≡ after

zero_end : (settings : Settings) (agreed : Agreed) (method : Method) (channels : ℕ → Channel) (after : End) → ReadsBack method
    → LeavesZero agreed method channels after
    → after ≡ end_after_put (role_for settings) (config_view settings) (method_frame 0 method ∷ []) (running agreed channels)
zero_end settings agreed method channels after reads left =
    let entry : MethodRead → ChannelEntry = λ r. PutHere (method_reading r) (method_frame 0 method) in
    sym (ap (λ r. end_after (role_for settings) (config_view settings) 0 (entry r) (running agreed channels)) reads
    ∙ left (role_for settings) (config_view settings) (method_frame 0 method))

pub put_on_zero : (settings : Settings) (stage then : Stage) (agreed : Agreed) (ask : Ask) (method called : Method) (channels : ℕ → Channel)
    (old new : Outgoing) → stage ≡ stages.Running agreed → IsAllowed settings (end_at stage channels) ask
    → frames_asked (end_at stage channels) ask ≡ method_frame 0 method ∷ [] → LeavesZero agreed method channels (end_at then channels)
    → called ≡ method → IsPutOf (method_frame 0 called ∷ []) old new → ReadsBack called → (ReadsBack method → AskReadsBack ask)
    → is_made ask ≡ true → IsAccepted settings ask (end_at stage channels) (end_at then channels) old new
put_on_zero settings stage then agreed ask method called channels old new stage_is allowed frames_are left called_is put reads asked made =
    let reads_back : ReadsBack method = subst ReadsBack called_is reads in
    let after_it : End → End = end_after_put (role_for settings) (config_view settings) (method_frame 0 method ∷ []) in
    let P : Stage → Type 0 = λ s. end_at then channels ≡ after_it (end_at s channels) in
    let end : P stage = subst P (sym stage_is) (zero_end settings agreed method channels (end_at then channels) reads_back left) in
    record {
      allowed = allowed;
      end_is = end ∙ ap (λ frames. end_after_put (role_for settings) (config_view settings) frames (end_at stage channels)) (sym frames_are);
      output_is = put_as method called 0 old new called_is put ∙ ap (λ frames. only (after_puts frames old.output)) (sym frames_are);
      reads_back = asked reads_back;
      made = made;
    }

-- the connection stays Running
pub put_on_zero_still : (settings : Settings) (stage : Stage) (agreed : Agreed) (ask : Ask) (method called : Method) (channels : ℕ → Channel)
    (old new : Outgoing) → stage ≡ stages.Running agreed → IsAllowed settings (end_at stage channels) ask
    → frames_asked (end_at stage channels) ask ≡ method_frame 0 method ∷ [] → LeavesZero agreed method channels (end_at (stages.Running agreed) channels)
    → called ≡ method → IsPutOf (method_frame 0 called ∷ []) old new → ReadsBack called → (ReadsBack method → AskReadsBack ask)
    → is_made ask ≡ true → IsAccepted settings ask (end_at stage channels) (end_at stage channels) old new
put_on_zero_still settings stage agreed ask method called channels old new stage_is allowed frames_are left called_is put reads asked made =
    let P : Stage → Type 0 = λ s. IsAccepted settings ask (end_at stage channels) (end_at s channels) old new in
    subst P (sym stage_is)
    (put_on_zero settings stage (stages.Running agreed) agreed ask method called channels old new stage_is allowed frames_are left called_is put reads asked
    made)

close_allowed_by : (role : Role) (agreed : Agreed) (channels : ℕ → Channel) (code : ℕ) (text : List ℕ) (cause : Cause)
    → refusal role (running agreed channels) (Close code text cause) ≡ None
close_allowed_by Client agreed channels code text cause = refl
close_allowed_by Server agreed channels code text cause = refl

-- nothing but that the connection isn't Running keeps a close from it
pub close_allowed : (settings : Settings) (stage : Stage) (agreed : Agreed) (channels : ℕ → Channel) (code : ℕ) (text : List ℕ) (cause : Cause)
    → stage ≡ stages.Running agreed → IsAllowed settings (end_at stage channels) (Close code text cause)
close_allowed settings stage agreed channels code text cause stage_is =
    subst (λ (s : Stage). IsAllowed settings (end_at s channels) (Close code text cause)) (sym stage_is)
    (close_allowed_by (role_for settings) agreed channels code text cause)

pub close_leaves : (agreed : Agreed) (code : ℕ) (text : List ℕ) (cause : Cause) (channels : ℕ → Channel)
    → LeavesZero agreed (method_asked (Close code text cause)) channels (end_at (stages.Closing (Some agreed)) channels)
close_leaves agreed code text cause channels Client config frame = refl
close_leaves agreed code text cause channels Server config frame = refl

pub blocked_leaves : (agreed : Agreed) (reason : List ℕ) (channels : ℕ → Channel)
    → LeavesZero agreed (method_asked (Blocked reason)) channels (end_at (stages.Running agreed) channels)
blocked_leaves agreed reason channels Client config frame = refl
blocked_leaves agreed reason channels Server config frame = refl

pub unblocked_leaves : (agreed : Agreed) (channels : ℕ → Channel)
    → LeavesZero agreed (method_asked Unblocked) channels (end_at (stages.Running agreed) channels)
unblocked_leaves agreed channels Client config frame = refl
unblocked_leaves agreed channels Server config frame = refl
