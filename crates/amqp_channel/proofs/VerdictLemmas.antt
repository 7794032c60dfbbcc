-- How the rules for a method on a channel come down to those of its state.
use Rattle.std.proofs.Common.{◌≡◌, ℕ, ◌<◌, ◌≤◌, ◌==◌, ◌||◌, ◌&&◌, nat_lt, cond, not, drop, List, Bool, true, false, Option, Some, None, [], ◌∷◌, refl, arith, sym, ap, ◌∙◌}
use Rattle.std.proofs.lemmas.Bool.Decides.{nat_tests}
use Rattle.amqp_model.specs.Wire.Gathering.{Gathering, Nothing, HeaderDue, step, remains}
use Rattle.amqp_model.specs.History.Histories.{ChannelEntry, TookHere}
use Rattle.amqp_model.specs.End.Machine.{paused_by, hears_flow_ok, life_after, open_after_taking, channel_after}
use Rattle.amqp_model.specs.History.Replies.{one_if}
use Rattle.amqp_model.specs.Wire.Notes as notes
use Rattle.amqp_channel.specs.Channel.LifeView.{IsOther}
use Rattle.amqp_channel.specs.declared.verdict.Told.{Told}
use Rattle.amqp_channel.specs.declared.verdict.Told.TheVariants as told
use Rattle.amqp_model.specs.End.Channels.{Agreed, Life, Channel, Free, Opening, Closing, Open}
use Rattle.amqp_model.specs.End.Events.{FrameVerdict}
use Rattle.amqp_model.specs.Wire.Frame.{Frame}
use Rattle.amqp_model.specs.End.FrameVerdict.{first_of, by_state, on_open, on_matched, verdict_on}
use Rattle.amqp_model.specs.Wire.Methods.{Method, MethodKind, class_of, sends, carries_content, is_reply}
use Rattle.amqp_model.specs.History.Negotiation.{Config}
use Rattle.amqp_model.specs.Wire.Notes.{Role, Client, Server, is_client}
use Rattle.amqp_model.specs.Wire.Readings.{Reading, Calls, kind_of}
use Rattle.amqp_channel.specs.Roles.{role_of}
use Rattle.amqp_channel.specs.Verdict.VerdictView.{Fits, FitsEvent, FitsTold, IsUnanswered, Rules, RulesByState, MessageRules, TellsMessage, SentOnChannel, verdict_view, whole_now, left_by, told_on, whole_of}
use Rattle.amqp_channel.specs.Verdict.Leaving.{LeavesAfter, facts_here}
use Rattle.amqp_channel.specs.declared.verdict.Verdict.{Verdict}
use Rattle.amqp_channel.specs.declared.verdict.Verdict.TheVariants.{Proceeds, Faults}
use Rattle.amqp_model.specs.Wire.Contents.{Content, Calls as PayloadCalls}
use Rattle.amqp_channel.specs.declared.site.Site.{Site}

no_rule : (b c d : Bool) (x y z last : FrameVerdict) → b ≡ false → c ≡ true → d ≡ false → first_of (cond b (Some x) None ∷ cond c None (Some y) ∷ cond d (Some z) None ∷ []) last ≡ last
no_rule b c d x y z last hb hc hd = rw (hb, hc, hd) refl

is_channel : (number most : ℕ) → 0 < number → number ≤ most → ((number == 0) || nat_lt most number) ≡ false
is_channel number most above within = grind (arith, nat_tests)

-- this end has not closed the channel
abbrev pub IsNotClosing : Channel → Type 0
IsNotClosing Closing = ⊥
IsNotClosing channel = Unit {0}

pub state_decides : (site : Site) (config : Config (role_of site.side)) (limits : Agreed) (channel : Channel) (method : Method) → SentOnChannel site method → IsNotClosing channel
    → verdict_on (facts_here site config limits channel) (Calls method) ≡ by_state (facts_here site config limits channel) channel method
state_decides site config limits Free method s h = no_rule (class_of method.kind == 10) (sends (not (is_client (role_of site.side))) method.kind) ((site.number == 0) || nat_lt site.channel_max site.number) _ _ _ _ s.not_of_connection s.by_other (is_channel site.number site.channel_max s.above s.within)
state_decides site config limits Opening method s h = no_rule (class_of method.kind == 10) (sends (not (is_client (role_of site.side))) method.kind) ((site.number == 0) || nat_lt site.channel_max site.number) _ _ _ _ s.not_of_connection s.by_other (is_channel site.number site.channel_max s.above s.within)
state_decides site config limits (Open life) method s h = no_rule (class_of method.kind == 10) (sends (not (is_client (role_of site.side))) method.kind) ((site.number == 0) || nat_lt site.channel_max site.number) _ _ _ _ s.not_of_connection s.by_other (is_channel site.number site.channel_max s.above s.within)
state_decides site config limits Closing method s h = absurd h

pub state_rules : (site : Site) (channel : Channel) (method : Method) (said : Verdict) → SentOnChannel site method → IsNotClosing channel → RulesByState site channel method said → Rules site channel (Calls method) said
state_rules site channel method said s h r =
    record {
      verdict = λ config limits most. r.verdict config limits ∙ sym (state_decides site config limits channel method s h);
      leaves = r.leaves;
      fits = r.fits;
      unanswered = r.unanswered;
    }

-- A message, where no content is under way.

none_whole : (life : Life) (method : Method) → life.content ≡ Nothing → whole_now (Open life) (Calls method) ≡ None
none_whole life method idle = rw idle refl

open_matches : (site : Site) (config : Config (role_of site.side)) (limits : Agreed) (life : Life) (method : Method) (kind : notes.Kind) → life.content ≡ Nothing → IsOther kind
    → on_open (facts_here site config limits (Open life)) life method kind ≡ on_matched (role_of site.side) site.number life.requests method
open_matches site config limits life method (notes.Other begins) idle h = rw idle refl
open_matches site config limits life method kind idle h = absurd h

-- an other neither pauses the channel nor answers a flow, and leaves it Open
paused_stays : (kind : notes.Kind) (paused : Bool) → IsOther kind → paused_by kind paused ≡ paused
paused_stays (notes.Other begins) paused h = refl
paused_stays kind paused h = absurd h

awaits_stays : (kind : notes.Kind) (awaits : Bool) → IsOther kind → hears_flow_ok kind awaits ≡ awaits
awaits_stays (notes.Other begins) awaits h = refl
awaits_stays kind awaits h = absurd h

stays_open : (role : Role) (entry : ChannelEntry) (life : Life) (kind : notes.Kind) → IsOther kind → open_after_taking role entry life kind ≡ Open (life_after role entry life)
stays_open role entry life (notes.Other begins) h = refl
stays_open role entry life kind h = absurd h

same_life : (c k : Gathering) (p q a w : Bool) (r s : List MethodKind) → c ≡ k → p ≡ q → a ≡ w → r ≡ s → Open (record { content = c; paused = p; awaits = a; requests = r }) ≡ Open (record { content = k; paused = q; awaits = w; requests = s })
same_life c k p q a w r s ec ep ea er =
    ap (λ x. Open (record { content = x; paused = p; awaits = a; requests = r })) ec
    ∙ (ap (λ x. Open (record { content = k; paused = x; awaits = a; requests = r })) ep
    ∙ (ap (λ x. Open (record { content = k; paused = q; awaits = x; requests = r })) ea ∙ ap (λ x. Open (record { content = k; paused = q; awaits = w; requests = x })) er))

begun_content : (life : Life) (method : Method) (b : Bool) → life.content ≡ Nothing → carries_content method ≡ b → cond b (HeaderDue method) Nothing ≡ remains (step life.content (PayloadCalls method)) (PayloadCalls method)
begun_content life method b idle c = sym (ap (λ g. remains (step g (PayloadCalls method)) (PayloadCalls method)) idle ∙ ap (λ b. cond b (HeaderDue method) Nothing) c)

plain_reply : (reply carries : Bool) (requests : List MethodKind) → carries ≡ false → drop (one_if reply) requests ≡ drop (one_if (reply && not carries)) requests
plain_reply true true requests e = absurd cc
plain_reply false true requests e = refl
plain_reply true false requests e = refl
plain_reply false false requests e = refl

no_reply_yet : (reply carries : Bool) (requests : List MethodKind) → carries ≡ true → requests ≡ drop (one_if (reply && not carries)) requests
no_reply_yet true true requests e = refl
no_reply_yet false true requests e = refl
no_reply_yet true false requests e = absurd cc
no_reply_yet false false requests e = absurd cc

-- the life after a message, whose content, if one follows, is begun
begun_left : (role : Role) (frame : Frame) (life : Life) (method : Method) → life.content ≡ Nothing → IsOther (kind_of (Calls method)) → carries_content method ≡ true
    → told_on role (Calls method) told.Begun (Open life) ≡ channel_after role (TookHere (Calls method) frame) (Open life)
begun_left Client frame life method idle h c =
    same_life _ _ _ _ _ _ _ _ (begun_content life method true idle c) (sym (paused_stays (kind_of (Calls method)) life.paused h)) (sym (awaits_stays (kind_of (Calls method)) life.awaits h)) (no_reply_yet (is_reply method.kind) (carries_content method) life.requests c)
    ∙ sym (stays_open Client (TookHere (Calls method) frame) life (kind_of (Calls method)) h)
begun_left Server frame life method idle h c =
    same_life _ _ _ _ _ _ _ _ (begun_content life method true idle c) (sym (paused_stays (kind_of (Calls method)) life.paused h)) (sym (awaits_stays (kind_of (Calls method)) life.awaits h)) refl
    ∙ sym (stays_open Server (TookHere (Calls method) frame) life (kind_of (Calls method)) h)

alone_left : (role : Role) (frame : Frame) (life : Life) (method : Method) → life.content ≡ Nothing → IsOther (kind_of (Calls method)) → carries_content method ≡ false
    → told_on role (Calls method) told.Method (Open life) ≡ channel_after role (TookHere (Calls method) frame) (Open life)
alone_left Client frame life method idle h c =
    same_life _ _ _ _ _ _ _ _ (idle ∙ begun_content life method false idle c) (sym (paused_stays (kind_of (Calls method)) life.paused h)) (sym (awaits_stays (kind_of (Calls method)) life.awaits h)) (plain_reply (is_reply method.kind) (carries_content method) life.requests c)
    ∙ sym (stays_open Client (TookHere (Calls method) frame) life (kind_of (Calls method)) h)
alone_left Server frame life method idle h c =
    same_life _ _ _ _ _ _ _ _ (idle ∙ begun_content life method false idle c) (sym (paused_stays (kind_of (Calls method)) life.paused h)) (sym (awaits_stays (kind_of (Calls method)) life.awaits h)) refl
    ∙ sym (stays_open Server (TookHere (Calls method) frame) life (kind_of (Calls method)) h)

message_leaves : (role : Role) (number : ℕ) (frame : Frame) (life : Life) (method : Method) (whole : Option Content) (said : Verdict) → life.content ≡ Nothing → IsOther (kind_of (Calls method)) → TellsMessage method said
    → LeavesAfter role number frame (Calls method) (verdict_view number (Calls method) whole said) (Open life) (left_by role (Calls method) said (Open life))
message_leaves role number frame life method whole (Proceeds told.Begun None) idle other tells = begun_left role frame life method idle other tells
message_leaves role number frame life method whole (Proceeds told.Method None) idle other tells = alone_left role frame life method idle other tells
message_leaves role number frame life method whole (Faults code) idle other tells = tt
message_leaves role number frame life method whole said idle other tells = absurd tells

message_fits : (channel : Channel) (method : Method) (said : Verdict) → TellsMessage method said → Fits channel (Calls method) said
message_fits channel method (Proceeds told.Begun None) tells = tells
message_fits channel method (Proceeds told.Method None) tells = tells
message_fits channel method (Faults code) tells = tt
message_fits channel method said tells = absurd tells

message_unanswered : (method : Method) (said : Verdict) → TellsMessage method said → IsUnanswered said
message_unanswered method (Proceeds told.Begun None) tells = tt
message_unanswered method (Proceeds told.Method None) tells = refl
message_unanswered method (Faults code) tells = tt
message_unanswered method said tells = absurd tells

-- a message on a channel with no content under way
pub message_rules : (site : Site) (life : Life) (method : Method) (said : Verdict) → life.content ≡ Nothing → IsOther (kind_of (Calls method)) → MessageRules (role_of site.side) life method said → TellsMessage method said
    → RulesByState site (Open life) method said
message_rules site life method said idle other rules tells =
    record {
      verdict = λ config limits.
          ap (λ whole. verdict_view site.number (Calls method) whole said) (none_whole life method idle)
          ∙ (rules site.number ∙ sym (open_matches site config limits life method (kind_of (Calls method)) idle other));
      leaves = λ frame. message_leaves (role_of site.side) site.number frame life method (whole_now (Open life) (Calls method)) said idle other tells;
      fits = message_fits (Open life) method said tells;
      unanswered = message_unanswered method said tells;
    }

-- where no content is whole, none is handed out
pub none_whole_of : (told : Told) → whole_of told None ≡ None
none_whole_of told.Completed = refl
none_whole_of told = refl

pub fits_event : (channel : Channel) (reading : Reading) (told : Told) → FitsTold channel reading told → FitsEvent reading told
fits_event channel reading told.Method fits = fits
fits_event channel reading told.ClosedByPeer fits = fits
fits_event channel reading told fits = tt
