-- What an end keeps stays within its bounds, by each frame and each ask.
use Rattle.std.proofs.Common.{◌≡◌, ◌≤◌, inl, inr, Bool, true, false, cond, ◌&&◌, ◌||◌, ℕ, zero}
use Rattle.std.proofs.Common.{suc, ◌==◌, nat_lt, nat_le, arith, List, [], ◌∷◌, ◌++◌, map, drop, length}
use Rattle.std.proofs.Common.{Option, Some, None, refl, sym, ap, ◌∙◌, subst, length-append}
use Rattle.std.proofs.lemmas.Bool.{cond-true, eq-eqb, false≢true, true≢false, ltb-true, ltb-false, lt-ltb}
use Rattle.std.proofs.lemmas.Bool.{leb-false}
use Rattle.std.proofs.lemmas.List.{length-drop}
use Rattle.amqp_model.specs.Wire.Frame.{Frame}
use Rattle.amqp_model.specs.Wire.Notes.{Role, Client, Server, Kind, Open, OpenOk, Close, CloseOk, Flow, FlowOk, Other}
use Rattle.amqp_model.specs.Wire.Notes.{is_message}
use Rattle.amqp_model.specs.Wire.Methods.{MethodKind, Method, Properties, carries_content, is_request, is_wanted}
use Rattle.amqp_model.specs.Wire.Methods.{bit_at}
use Rattle.amqp_model.specs.Wire.Contents.{Payload}
use Rattle.amqp_model.specs.Wire.Gathering.{kept as octets_kept, Gathering, Nothing, HeaderDue, BodyDue, Keeps}
use Rattle.amqp_model.specs.Wire.Gathering.{Completes, Breaks, Misfit, step, remains}
use Rattle.amqp_model.specs.Wire.Readings.{Reading, Calls, UnknownMethod, MalformedMethod, HeaderOf, MalformedHeader}
use Rattle.amqp_model.specs.Wire.Readings.{BodyOf, Beat, reading, kind_of, payload_of}
use Rattle.amqp_model.specs.History.Replies.{request_made}
use Rattle.amqp_model.specs.History.Histories.{History, PutHere, TookHere}
use Rattle.amqp_model.specs.End.Channels.{Life, Channel, Free, Opening, Closing, Phase, Handshake, Running, Closed}
use Rattle.amqp_model.specs.End.Channels.{Failed, Agreed, End, new_life}
use Rattle.amqp_model.specs.End.Channels as channels
use Rattle.amqp_model.specs.History.Negotiation.{Config}
use Rattle.amqp_model.specs.End.Closes.{Owed, ChannelError, ResourceError, ContentTooLarge, channel_close, reply_to}
use Rattle.amqp_model.specs.End.Closes.{frame_of}
use Rattle.amqp_model.specs.End.Events.{FrameVerdict, Peer, Proceeds, RefusesContent, Faults}
use Rattle.amqp_model.specs.End.FrameVerdict.{on_channel, on_open, on_idle, on_message, on_part, is_gathering}
use Rattle.amqp_model.specs.End.FrameVerdict.{is_no_channel, verdict_on, methods_put}
use Rattle.amqp_model.specs.End.EndVerdict.{facts_at, goes_on}
use Rattle.amqp_model.specs.End.Asks.{Ask, channel_max}
use Rattle.amqp_model.specs.End.Answers.{kept_by, kept_in}
use Rattle.amqp_model.specs.End.ReadingBack.{WritesReadBack}
use Rattle.amqp_model.specs.End.LawfulHistories.{end_of, Goes, greets, takes, faults, meets_too_large, fails, asks}
use Rattle.amqp_model.specs.End.LawfulHistories.{controls, Lawful, begun as at_start, goes}
use Rattle.amqp_model.specs.End.Machine.{with_asked, life_after, free_after_putting, channel_after_put, after_taken}
use Rattle.amqp_model.specs.End.Machine.{unless_leaving, set_channel, new_end, end_after, end_after_owed, failed_by}
use Rattle.amqp_model.specs.End.Machine.{StandsFor}
use Rattle.amqp_model.specs.Laws.EndLaws.{is_over, AgreesWithLives, agrees, refuses}
use Rattle.amqp_model.specs.End.Bounds.{KeepsPart, most_requests, LifeIsWithin, ChannelIsWithin, EndIsWithin}
use Rattle.amqp_model.specs.End.Bounds.{NewIsWithin, FrameStaysWithin, AskStaysWithin, StandsWithin, GatheredIsWithin}
use Rattle.amqp_model.specs.End.Bounds.{OthersAreFree}
use Rattle.amqp_model.proofs.Agreeing.{facts_in, handshake-stops, frame-agrees}
use Rattle.amqp_model.proofs.ClassMethods.{is_class_kind, class-plain}
use Rattle.amqp_model.proofs.Elsewhere.{Each, verdict-zero}
use Rattle.amqp_model.proofs.EndSteps.{not-zero, new-end-stands}
use Rattle.amqp_model.proofs.Standing.{end-stands}
use Rattle.amqp_model.proofs.ChannelWalks.{lawful-walks}
use Rattle.amqp_model.proofs.Taking.{puts-none}
use Rattle.amqp_model.proofs.FrameSteps.{not-failed, frame-follows}
use Rattle.amqp_model.proofs.AskSteps.{ask-kept, asks-follow}
use Rattle.amqp_model.proofs.Going.{running, method-goes, not-inside}
use Rattle.amqp_model.proofs.TurnLemmas.{no-message-asks}
use Rattle.amqp_model.proofs.Walking.{is_none, may_ask_here, quiet-asks, MayPut, Stands, stands-kept}
use Rattle.amqp_model.proofs.Controlling.{control-kept, control-channels, puts-at-zero}

pub new-within : NewIsWithin
new-within role config n = tt

-- A frame put.

one-asked : (r : Reading) → length (request_made r) ≤ 1
one-asked (Calls method) = cases (is_request method)
  where
    cases : (b : Bool) → length (cond b (method.kind ∷ []) []) ≤ 1
    cases true = omega arith
    cases false = omega arith
one-asked r = omega arith

client-asks : (asked requests : List MethodKind) → length asked ≤ 1 → length requests ≤ 1
    → (is_none asked || is_none requests) ≡ true → length (with_asked asked requests) ≤ 1
client-asks [] requests one most e = most
client-asks (kind ∷ later) [] one most e = one
client-asks (kind ∷ later) (request ∷ others) one most e = absurd (false≢true e)

fewer : (n : ℕ) (requests : List MethodKind) (most : ℕ) → length requests ≤ most
    → length (drop n requests) ≤ most
fewer n requests most h = let l = length-drop n requests in omega arith

put-life : (role : Role) (max : ℕ) (life : Life) (r : Reading) (frame : Frame) → LifeIsWithin role max life
    → may_ask_here role (channels.Open life) r ≡ true
    → LifeIsWithin role max (life_after role (PutHere r frame) life)
put-life Client max life r frame w may =
    record { content = w.content; requests = client-asks (request_made r) life.requests (one-asked r) w.requests may }
put-life Server max life r frame w may =
    record { content = w.content; requests = fewer _ life.requests 1024 w.requests }

put-within : (role : Role) (max : ℕ) (channel : Channel) (r : Reading) (frame : Frame) (kind : Kind)
    → ChannelIsWithin role max channel → may_ask_here role channel r ≡ true
    → ChannelIsWithin role max (channel_after_put role (PutHere r frame) channel kind)
put-within Client max Free r frame Open w may = tt
put-within role max Free r frame kind w may = tt
put-within role max Opening r frame kind w may = tt
put-within role max Closing r frame kind w may = tt
put-within role max (channels.Open life) r frame Close w may = tt
put-within role max (channels.Open life) r frame kind w may = put-life role max life r frame w may

-- the channel of an entry, and the others
set-within : (role : Role) (config : Config role) (end : End) (m : ℕ) (new : Channel) → EndIsWithin role config end
    → ChannelIsWithin role config.max_body new → (n : ℕ)
    → ChannelIsWithin role config.max_body
    (set_channel (suc m) (unless_leaving end.phase (end.channels (suc m)) new) end.channels n)
set-within role config end m new w here n = cases (n == suc m) end.phase
  where
    cases : (b : Bool) (phase : Phase)
        → ChannelIsWithin role config.max_body
        (cond b (unless_leaving phase (end.channels (suc m)) new) (end.channels n))
    cases true Phase.Closing = w (suc m)
    cases true (Handshake step) = here
    cases true Running = here
    cases true Closed = here
    cases true Failed = here
    cases false phase = w n

end-puts-within : (role : Role) (config : Config role) (c : ℕ) (r : Reading) (frame : Frame) (end : End)
    → EndIsWithin role config end → may_ask_here role (end.channels c) r ≡ true
    → EndIsWithin role config (end_after role config c (PutHere r frame) end)
end-puts-within role config zero r frame end w may = w
end-puts-within role config (suc m) r frame end w may =
    set-within role config end m _ w (put-within role config.max_body (end.channels (suc m)) r frame
    (kind_of r) (w (suc m)) may)

-- An ask.

put-keeps-within : (role : Role) (config : Config role) (end : End) (history : History) (frame : Frame)
    → EndIsWithin role config end → MayPut role end frame.channel (reading frame)
    → EndIsWithin role config (end_after role config frame.channel (PutHere (reading frame) frame) end)
put-keeps-within role config end history frame w (inl e) =
    subst (λ c. EndIsWithin role config (end_after role config c (PutHere (reading frame) frame) end)) (sym e) w
put-keeps-within role config end history frame w (inr may) =
    end-puts-within role config frame.channel (reading frame) frame end w may.2

abbrev IsWithin : (role : Role) → Config role → End → History → Type 0
IsWithin role config end history = EndIsWithin role config end

pub ask-stays-within : (role : Role) (config : Config role) (end : End) (ask : Ask) (frames : List Frame)
    → AskStaysWithin role config end ask frames
ask-stays-within role config end ask frames w back made e =
    ask-kept IsWithin (record { put = put-keeps-within }) role config end [] ask frames w back made e

-- A frame taken.

-- after a method nothing of a body is kept
method-part : (max : ℕ) (kept : Gathering) (method : Method)
    → KeepsPart max (remains (step kept (Payload.Calls method)) (Payload.Calls method))
method-part max kept method = by-kept kept
  where
    by-carries : (b : Bool) → KeepsPart max (cond b (HeaderDue method) Nothing)
    by-carries true = tt
    by-carries false = tt

    by-kept : (kept : Gathering) → KeepsPart max (remains (step kept (Payload.Calls method)) (Payload.Calls method))
    by-kept Nothing = by-carries (carries_content method)
    by-kept (HeaderDue other) = by-carries (carries_content method)
    by-kept (BodyDue other size properties body) = by-carries (carries_content method)

abbrev is_part : Payload → Bool
is_part (Payload.Calls method) = false
is_part payload = true

gathered-part : (max : ℕ) (method : Method) (size : ℕ) (properties : Properties) (body : List ℕ)
    (payload : Payload) → is_part payload ≡ true → size ≤ max → (whole short : Bool)
    → nat_lt (length body) size ≡ short
    → KeepsPart max
    (remains (cond whole (Completes (record { method = method; properties = properties; body = body }))
    (cond short (Keeps (BodyDue method size properties body)) (Breaks Misfit.PastSize))) payload)
gathered-part max method size properties body payload p most true short e = tt
gathered-part max method size properties body payload p most false true e = (ltb-true (length body) size e, most)
gathered-part max method size properties body (Payload.Calls other) p most false false e = absurd (false≢true p)
gathered-part max method size properties body (Payload.Header again others) p most false false e = tt
gathered-part max method size properties body (Payload.Body octets) p most false false e = tt
gathered-part max method size properties body Payload.Unread p most false false e = tt

-- a header that is not refused has a body that is small enough
abbrev TakesHeader : (max : ℕ) → Gathering → Reading → Type 0
TakesHeader max (HeaderDue method) (HeaderOf size properties) = size ≤ max
TakesHeader max kept r = Unit {0}

part-within : (max : ℕ) (kept : Gathering) (r : Reading) → KeepsPart max kept → TakesHeader max kept r
    → KeepsPart max (remains (step kept (payload_of r)) (payload_of r))
part-within max kept (Calls method) w small = method-part max kept method
part-within max Nothing (HeaderOf size properties) w small = tt
part-within max (HeaderDue method) (HeaderOf size properties) w small =
    gathered-part max method size properties [] (Payload.Header size properties) refl small
    (0 == size) (nat_lt 0 size) refl
part-within max (BodyDue method size properties body) (HeaderOf again others) w small = tt
part-within max Nothing (BodyOf octets) w small = tt
part-within max (HeaderDue method) (BodyOf octets) w small = tt
part-within max (BodyDue method size properties body) (BodyOf octets) w small =
    gathered-part max method size properties (body ++ octets) (Payload.Body octets) refl w.1
    (length (body ++ octets) == size) (nat_lt (length (body ++ octets)) size) refl
part-within max kept UnknownMethod w small = tt
part-within max kept MalformedMethod w small = tt
part-within max kept MalformedHeader w small = tt
part-within max kept (Beat empty) w small = tt

-- a verdict that neither fails nor refuses
abbrev proceeds : FrameVerdict → Bool
proceeds (Proceeds event owed) = true
proceeds verdict = false

abbrev is_header : Reading → Bool
is_header (HeaderOf size properties) = true
is_header r = false

no-header : (max : ℕ) (kept : Gathering) (r : Reading) → is_header r ≡ false → TakesHeader max kept r
no-header max kept (HeaderOf size properties) e = absurd (true≢false e)
no-header max Nothing r e = tt
no-header max (HeaderDue method) r e = tt
no-header max (BodyDue method size properties body) r e = tt

header-small : {role : Role} (config : Config role) (agreed : Option Agreed) (number : ℕ) (life : Life) (r : Reading)
    → proceeds (verdict_on (running config agreed number (channels.Open life)) r) ≡ true
    → TakesHeader config.max_body life.content r
header-small config agreed number life (HeaderOf size properties) p =
    by-content life.content (by-number (is_no_channel (running config agreed number (channels.Open life))) p)
  where
    by-number : (b : Bool)
        → proceeds
        (cond b (Faults (Peer ChannelError)) (on_part (running config agreed number (channels.Open life)) life.content
        (HeaderOf size properties))) ≡ true
        → proceeds (on_part (running config agreed number (channels.Open life)) life.content
        (HeaderOf size properties)) ≡ true
    by-number true p = absurd (false≢true p)
    by-number false p = p

    by-size : (b : Bool) → nat_lt config.max_body size ≡ b → (last : FrameVerdict)
        → proceeds (cond b RefusesContent last) ≡ true → size ≤ config.max_body
    by-size true e last p = absurd (false≢true p)
    by-size false e last p = ltb-false config.max_body size e

    by-content : (kept : Gathering)
        → proceeds (on_part (running config agreed number (channels.Open life)) kept (HeaderOf size properties))
        ≡ true → TakesHeader config.max_body kept (HeaderOf size properties)
    by-content Nothing p = tt
    by-content (HeaderDue method) p = by-size (nat_lt config.max_body size) refl _ p
    by-content (BodyDue method again others body) p = tt
header-small config agreed number life r p = no-header config.max_body life.content r refl

-- a server takes no request where it keeps so many
server-room : (config : Config Server) (agreed : Option Agreed) (number : ℕ) (life : Life) (method : Method)
    → (number == 0) ≡ false → is_message (kind_of (Calls method)) ≡ true → length life.requests ≤ 1024
    → goes_on (verdict_on (running config agreed number (channels.Open life)) (Calls method)) ≡ true
    → length (with_asked (request_made (Calls method)) life.requests) ≤ 1024
server-room config agreed number life method above m most g =
    by-kind (kind_of (Calls method)) refl m (method-goes config agreed number (channels.Open life) method above g)
  where
    room : (asks full : Bool) (last : FrameVerdict) → nat_le 1024 (length life.requests) ≡ full
        → goes_on (cond (asks && full) (Faults (Peer ResourceError)) last) ≡ true
        → length (with_asked (cond asks (method.kind ∷ []) []) life.requests) ≤ 1024
    room false full last e g = most
    room true true last e g = absurd (false≢true g)
    room true false last e g =
        let l = length-append life.requests (method.kind ∷ []) in
        let some = leb-false 1024 (length life.requests) e in
        omega arith

    class-quiet : is_class_kind (kind_of (Calls method)) ≡ true
        → length (with_asked (request_made (Calls method)) life.requests) ≤ 1024
    class-quiet e =
        let none : request_made (Calls method) ≡ [] =
        ap (λ wanted. cond (is_wanted method wanted) (method.kind ∷ []) [])
        (class-plain method.kind (bit_at 0 method) e).2 in
        subst (λ asked. length (with_asked asked life.requests) ≤ 1024) (sym none) most

    by-idle : (kind : Kind) → kind_of (Calls method) ≡ kind → is_message kind ≡ true
        → goes_on (on_idle (running config agreed number (channels.Open life)) life method kind) ≡ true
        → length (with_asked (request_made (Calls method)) life.requests) ≤ 1024
    by-idle (Other begins) e m g =
        room (is_request method) (nat_le 1024 (length life.requests)) (on_message number method) refl g
    by-idle (Flow active) e m g = class-quiet (ap is_class_kind e)
    by-idle (FlowOk active) e m g = class-quiet (ap is_class_kind e)
    by-idle kind e m g = absurd (false≢true m)

    by-kind : (kind : Kind) → kind_of (Calls method) ≡ kind → is_message kind ≡ true
        → goes_on (on_open (running config agreed number (channels.Open life)) life method kind) ≡ true
        → length (with_asked (request_made (Calls method)) life.requests) ≤ 1024
    by-kind Close e m g = absurd (false≢true m)
    by-kind kind e m g = by-idle kind e m (not-inside (is_gathering life.content) _ g).1

goes-on : (v : FrameVerdict) → proceeds v ≡ true → goes_on v ≡ true
goes-on (Proceeds event owed) e = refl
goes-on RefusesContent e = absurd (false≢true e)
goes-on (Faults fault) e = absurd (false≢true e)

new-life-within : (role : Role) (max : ℕ) → LifeIsWithin role max new_life
new-life-within role max = record { content = tt; requests = omega arith }

-- the requests of an Open channel, after a frame
took-requests : (role : Role) (config : Config role) (agreed : Option Agreed) (number : ℕ) (life : Life) (r : Reading)
    (frame : Frame) → (number == 0) ≡ false → length life.requests ≤ most_requests role
    → goes_on (verdict_on (running config agreed number (channels.Open life)) r) ≡ true
    → length (life_after role (TookHere r frame) life).requests ≤ most_requests role
took-requests Client config agreed number life r frame above most g = fewer _ life.requests 1 most
took-requests Server config agreed number life (Calls method) frame above most g =
    by-message (is_message (kind_of (Calls method))) refl
  where
    by-message : (b : Bool) → is_message (kind_of (Calls method)) ≡ b
        → length (with_asked (request_made (Calls method)) life.requests) ≤ 1024
    by-message true e = server-room config agreed number life method above e most g
    by-message false e =
        subst (λ asked. length (with_asked asked life.requests) ≤ 1024) (sym (no-message-asks (Calls method) e)) most
took-requests Server config agreed number life r frame above most g = most

took-channel : (role : Role) (config : Config role) (agreed : Option Agreed) (number : ℕ) (channel : Channel)
    (r : Reading) (frame : Frame) (kind : Kind) → (number == 0) ≡ false
    → ChannelIsWithin role config.max_body channel → proceeds (verdict_on (running config agreed number channel) r)
    ≡ true → ChannelIsWithin role config.max_body (after_taken role (TookHere r frame) channel kind)
took-channel Server config agreed number Free r frame Open above w p = new-life-within Server config.max_body
took-channel role config agreed number Free r frame kind above w p = tt
took-channel Client config agreed number Opening r frame OpenOk above w p = new-life-within Client config.max_body
took-channel role config agreed number Opening r frame Close above w p = tt
took-channel Client config agreed number Opening r frame kind above w p = tt
took-channel Server config agreed number Opening r frame kind above w p = tt
took-channel role config agreed number Closing r frame CloseOk above w p = tt
took-channel role config agreed number Closing r frame kind above w p = tt
took-channel role config agreed number (channels.Open life) r frame Close above w p = tt
took-channel role config agreed number (channels.Open life) r frame kind above w p = record {
  content = part-within config.max_body life.content r w.content (header-small config agreed number life r p);
  requests = took-requests role config agreed number life r frame above w.requests (goes-on _ p);
}

closing-channel : (role : Role) (config : Config role) (r : Reading) (frame : Frame) (kind : Kind)
    → ChannelIsWithin role config.max_body (after_taken role (TookHere r frame) Closing kind)
closing-channel role config r frame CloseOk = tt
closing-channel role config r frame kind = tt

-- what is owed asks nothing
owed-within : (role : Role) (config : Config role) (owed : List Owed) (end : End)
    → Each (λ owed. request_made (Calls owed.method) ≡ []) owed → EndIsWithin role config end
    → EndIsWithin role config (end_after_owed role config owed end)
owed-within role config [] end quiet w = w
owed-within role config (owed ∷ later) end quiet w =
    owed-within role config later _ quiet.1 (end-puts-within role config owed.channel (Calls owed.method)
    (frame_of owed) end w (quiet-asks role (end.channels owed.channel) (Calls owed.method) quiet.0))

reply-quiet : (number : ℕ) (owed : Option Kind)
    → Each (λ owed. request_made (Calls owed.method) ≡ []) (map (on_channel number) (reply_to owed))
reply-quiet number None = tt
reply-quiet number (Some OpenOk) = (refl, tt)
reply-quiet number (Some CloseOk) = (refl, tt)
reply-quiet number (Some (FlowOk active)) = (refl, tt)
reply-quiet number (Some kind) = tt

zero-within : (role : Role) (config : Config role) (owed : List Owed) (end : End)
    → Each (λ owed. owed.channel ≡ 0) owed → EndIsWithin role config end
    → EndIsWithin role config (end_after_owed role config owed end)
zero-within role config [] end zeros w = w
zero-within role config (owed ∷ later) end zeros w =
    zero-within role config later _ zeros.1
    (subst (λ c. EndIsWithin role config (end_after role config c (PutHere (Calls owed.method) (frame_of owed)) end))
    (sym zeros.0) w)

-- a frame of a channel above 0, while the end has not put connection.close
module _ (role : Role) (config : Config role) (end : End) (m : ℕ) (frame : Frame) (w : EndIsWithin role config end)
    (not_over : is_over end.phase ≡ false) where
  abbrev verdict_here : FrameVerdict
  verdict_here = verdict_on (facts_at config end (suc m)) (reading frame)

  abbrev then_end : End
  then_end = end_after role config (suc m) (TookHere (reading frame) frame) end

  by-verdict : (v : FrameVerdict) → AgreesWithLives role (suc m) (end.channels (suc m)) (reading frame) v
      → (proceeds v ≡ true
      → ChannelIsWithin role config.max_body (after_taken role (TookHere (reading frame) frame) (end.channels (suc m))
      (kind_of (reading frame))))
      → EndIsWithin role config (end_after_owed role config (methods_put (facts_at config end (suc m)) v) then_end)
  by-verdict v (agrees event owed told e is) here =
      subst (λ v.
      EndIsWithin role config (end_after_owed role config (methods_put (facts_at config end (suc m)) v) then_end))
      (sym is)
      (owed-within role config (map (on_channel (suc m)) (reply_to owed)) then_end (reply-quiet (suc m) owed)
      (set-within role config end m _ w (here (ap proceeds is))))
  by-verdict v (refuses e is) here =
      subst (λ v.
      EndIsWithin role config (end_after_owed role config (methods_put (facts_at config end (suc m)) v) then_end))
      (sym is) (λ n. refused n (n == suc m))
    where
      closes : (phase : Phase) → is_over phase ≡ false → (old : Channel)
          → ChannelIsWithin role config.max_body
          (unless_leaving phase old
          (channel_after_put role (PutHere (Calls (channel_close (suc m) ContentTooLarge).method)
          (frame_of (channel_close (suc m) ContentTooLarge))) old Close))
      closes Phase.Closing e old = absurd (true≢false e)
      closes Closed e old = absurd (true≢false e)
      closes Failed e old = absurd (true≢false e)
      closes (Handshake step) e Free = closed-free role
        where
          closed-free : (role : Role) → ChannelIsWithin role config.max_body (free_after_putting role Close)
          closed-free Client = tt
          closed-free Server = tt
      closes (Handshake step) e old = tt
      closes Running e Free = closed-free role
        where
          closed-free : (role : Role) → ChannelIsWithin role config.max_body (free_after_putting role Close)
          closed-free Client = tt
          closed-free Server = tt
      closes Running e old = tt

      refused : (n : ℕ) (b : Bool)
          → ChannelIsWithin role config.max_body
          (cond b (unless_leaving end.phase (then_end.channels (suc m))
          (channel_after_put role (PutHere (Calls (channel_close (suc m) ContentTooLarge).method)
          (frame_of (channel_close (suc m) ContentTooLarge))) (then_end.channels (suc m)) Close))
          (cond b (unless_leaving end.phase (end.channels (suc m))
          (after_taken role (TookHere (reading frame) frame) (end.channels (suc m)) (kind_of (reading frame))))
          (end.channels n)))
      refused n true = closes end.phase not_over (then_end.channels (suc m))
      refused n false = w n

  above-within : goes_on verdict_here ≡ true
      → EndIsWithin role config
      (end_after_owed role config (methods_put (facts_at config end (suc m)) verdict_here) then_end)
  above-within g =
      by-verdict verdict_here (frame-agrees config end.phase end.agreed (suc m) (end.channels (suc m)) not_over
      (not-zero m) (reading frame) g) (here end.phase refl (end.channels (suc m)) refl g (w (suc m)))
    where
      here : (phase : Phase) → end.phase ≡ phase → (channel : Channel) → end.channels (suc m) ≡ channel
          → goes_on (verdict_on (facts_in config phase end.agreed (suc m) channel) (reading frame)) ≡ true
          → ChannelIsWithin role config.max_body channel
          → proceeds (verdict_on (facts_in config phase end.agreed (suc m) channel) (reading frame)) ≡ true
          → ChannelIsWithin role config.max_body (after_taken role (TookHere (reading frame) frame) channel
          (kind_of (reading frame)))
      here Running e channel c g old p =
          took-channel role config end.agreed (suc m) channel (reading frame) frame
          (kind_of (reading frame)) (not-zero m) old p
      here (Handshake step) e Closing c g old p =
          closing-channel role config (reading frame) frame (kind_of (reading frame))
      here (Handshake step) e Free c g old p =
          handshake-stops config step end.agreed (suc m) Free refl (not-zero m) (reading frame) g
      here (Handshake step) e Opening c g old p =
          handshake-stops config step end.agreed (suc m) Opening refl (not-zero m) (reading frame) g
      here (Handshake step) e (channels.Open life) c g old p =
          handshake-stops config step end.agreed (suc m) (channels.Open life) refl (not-zero m) (reading frame) g
      here Phase.Closing e channel c g old p = absurd (true≢false (ap is_over (sym e) ∙ not_over))
      here Closed e channel c g old p = absurd (true≢false (ap is_over (sym e) ∙ not_over))
      here Failed e channel c g old p = absurd (true≢false (ap is_over (sym e) ∙ not_over))

-- once it has put one, nothing changes
leaving-within : (role : Role) (config : Config role) (agreed : Option Agreed) (all : ℕ → Channel) (m : ℕ)
    (frame : Frame) → EndIsWithin role config (record { phase = Phase.Closing; agreed = agreed; channels = all })
    → EndIsWithin role config
    (end_after_owed role config (methods_put (facts_in config Phase.Closing agreed (suc m) (all (suc m)))
    (verdict_on (facts_in config Phase.Closing agreed (suc m) (all (suc m))) (reading frame)))
    (end_after role config (suc m) (TookHere (reading frame) frame)
    (record { phase = Phase.Closing; agreed = agreed; channels = all })))
leaving-within role config agreed all m frame w =
    subst (λ owed.
    EndIsWithin role config
    (end_after_owed role config owed (end_after role config (suc m) (TookHere (reading frame) frame)
    (record { phase = Phase.Closing; agreed = agreed; channels = all }))))
    (sym (puts-none config agreed m (all (suc m)) (reading frame))) (λ n. cases n (n == suc m))
  where
    cases : (n : ℕ) (b : Bool) → ChannelIsWithin role config.max_body (cond b (all (suc m)) (all n))
    cases n true = w (suc m)
    cases n false = w n

pub frame-stays-within : (role : Role) (config : Config role) (end : End) (frame : Frame)
    → FrameStaysWithin role config end frame
frame-stays-within role config end frame w g = by-channel frame.channel g
  where
    by-phase : (m : ℕ) (phase : Phase) → end.phase ≡ phase
        → goes_on (verdict_on (facts_at config end (suc m)) (reading frame)) ≡ true
        → EndIsWithin role config
        (end_after_owed role config
        (methods_put (facts_at config end (suc m)) (verdict_on (facts_at config end (suc m)) (reading frame)))
        (end_after role config (suc m) (TookHere (reading frame) frame) end))
    by-phase m Running p g = above-within role config end m frame w (ap is_over p) g
    by-phase m (Handshake step) p g = above-within role config end m frame w (ap is_over p) g
    by-phase m Phase.Closing p g =
        subst (λ phase.
        EndIsWithin role config
        (end_after_owed role config (methods_put (facts_in config phase end.agreed (suc m) (end.channels (suc m)))
        (verdict_on (facts_in config phase end.agreed (suc m) (end.channels (suc m))) (reading frame)))
        (end_after role config (suc m) (TookHere (reading frame) frame) (record {
          phase = phase;
          agreed = end.agreed;
          channels = end.channels;
        })))) (sym p) (leaving-within role config end.agreed end.channels m frame w)
    by-phase m Closed p g =
        absurd (false≢true
        (subst (λ p. goes_on (verdict_on (facts_in config p end.agreed (suc m) (end.channels (suc m))) (reading frame))
        ≡ true) p g))
    by-phase m Failed p g =
        absurd (false≢true
        (subst (λ p. goes_on (verdict_on (facts_in config p end.agreed (suc m) (end.channels (suc m))) (reading frame))
        ≡ true) p g))

    by-channel : (c : ℕ) → goes_on (verdict_on (facts_at config end c) (reading frame)) ≡ true
        → EndIsWithin role config (failed_by (verdict_on (facts_at config end c) (reading frame))
        (end_after_owed role config
        (methods_put (facts_at config end c) (verdict_on (facts_at config end c) (reading frame)))
        (end_after role config c (TookHere (reading frame) frame) end)))
    by-channel zero g =
        subst (EndIsWithin role config) (sym (not-failed (verdict_on (facts_at config end 0) (reading frame)) _ g))
        (zero-within role config _ _ (verdict-zero (facts_at config end 0) refl (reading frame) g) w)
    by-channel (suc m) g =
        subst (EndIsWithin role config)
        (sym (not-failed (verdict_on (facts_at config end (suc m)) (reading frame)) _ g)) (by-phase m end.phase refl g)

-- Lawful histories.

goes-within : (role : Role) (config : Config role) (before : History) (taken : Option Frame) (failed : Bool)
    (after : History) → failed ≡ false → WritesReadBack role config
    → StandsFor role config false (end_of config before) before → EndIsWithin role config (end_of config before)
    → Goes role config before taken failed after → EndIsWithin role config (end_of config after)
goes-within role config before taken failed after e back stands w greets =
    subst (EndIsWithin role config)
    (sym (end-stands role config _ after (stands-kept.puts.put role config (end_of config []) [] _ stands (inl refl))))
    w
goes-within role config before taken failed after e back stands w (takes frame can g) =
    subst (EndIsWithin role config)
    (sym (end-stands role config _ after (frame-follows role config (end_of config before) before frame back stands g)))
    (frame-stays-within role config (end_of config before) frame w g)
goes-within role config before taken failed after e back stands w (asks ask frames made read v) =
    subst (EndIsWithin role config)
    (sym (end-stands role config _ after
    (asks-follow role config (end_of config before) before ask frames stands read.method made v)))
    (ask-stays-within role config (end_of config before) ask frames w read.method made v)
goes-within role config before taken failed after e back stands w (controls control frames read v) =
    let at = puts-at-zero role config (end_of config before) control frames back read v in
    subst (EndIsWithin role config)
    (sym (end-stands role config _ after
    (control-kept Stands stands-kept.puts role config (end_of config before) before frames stands at)))
    (λ n. subst (λ all. ChannelIsWithin role config.max_body (all n))
    (sym (control-channels role config frames (end_of config before) at)) (w n))
goes-within role config before taken failed after e back stands w (faults frame can g) = absurd (true≢false e)
goes-within role config before taken failed after e back stands w (meets_too_large p) = absurd (true≢false e)
goes-within role config before taken failed after e back stands w (fails p) = absurd (true≢false e)

lawful-within : (role : Role) (config : Config role) (failed : Bool) (history : History) → failed ≡ false
    → WritesReadBack role config → Lawful role config failed history
    → EndIsWithin role config (end_of config history)
lawful-within role config failed history e back at_start =
    subst (EndIsWithin role config) (sym (end-stands role config (new_end role) [] (new-end-stands role config)))
    (new-within role config)
lawful-within role config failed history e back (goes {before = before} {taken = taken} lawful step) =
    goes-within role config before taken failed history e back
    (lawful-walks role config false before refl back lawful).stands
    (lawful-within role config false before refl back lawful) step

pub stands-within : StandsWithin
stands-within role config end history back lawful stands =
    subst (EndIsWithin role config) (end-stands role config end history stands)
    (lawful-within role config false history refl back lawful)

pub gathered-within : (role : Role) (config : Config role) (end : End) (n : ℕ) → GatheredIsWithin role config end n
gathered-within role config end n w = by-phase end.phase (end.channels n) (w n)
  where
    by-content : (kept : Gathering) → KeepsPart config.max_body kept → length (octets_kept kept) ≤ config.max_body
    by-content Nothing k = omega arith
    by-content (HeaderDue method) k = omega arith
    by-content (BodyDue method size properties body) k = let less = k.0 in let most = k.1 in omega arith

    by-channel : (channel : Channel) → ChannelIsWithin role config.max_body channel
        → length (kept_by channel) ≤ config.max_body
    by-channel Free w = omega arith
    by-channel Opening w = omega arith
    by-channel Closing w = omega arith
    by-channel (channels.Open life) w = by-content life.content w.content

    by-phase : (phase : Phase) (channel : Channel) → ChannelIsWithin role config.max_body channel
        → length (kept_in phase channel) ≤ config.max_body
    by-phase Running channel w = by-channel channel w
    by-phase phase channel w = omega arith

pub others-free : (end : End) (n : ℕ) → OthersAreFree end n
others-free end n (inl e) =
    cond-true ((n == 0) || nat_lt (channel_max end.agreed) n) _ _
    (ap (λ b. b || nat_lt (channel_max end.agreed) n) (eq-eqb n 0 e))
others-free end n (inr above) =
    cond-true ((n == 0) || nat_lt (channel_max end.agreed) n) _ _
    (either (n == 0) (lt-ltb (channel_max end.agreed) n above))
  where
    either : (a : Bool) {b : Bool} → b ≡ true → (a || b) ≡ true
    either true e = refl
    either false e = e
