-- How long an output is after frames are put.
use Rattle.std.proofs.Common.{◌≡◌, ◌+◌, ◌≤◌, nat_lt, cond, Bool, true, false, ℕ, List, [], ◌∷◌, map, length, Result, refl, ap, sym, ◌∙◌, subst, arith}
use Rattle.std.specs.Coded.{le_prop}
use Rattle.std.proofs.Math.Logic.{∥∥₁_elim}
use Rattle.std.proofs.lemmas.List.{length-append, length-map}
use Rattle.amqp_frame.specs.Frame.{octets, frame_length}
use Rattle.amqp_frame.specs.Splitting.{stream}
use Rattle.amqp_frame.specs.declared.faults.FrameFaultKind.{FrameFaultKind}
use Rattle.amqp_frame.specs.declared.faults.FrameFaultKind.TheVariants as kinds
use Rattle.amqp_model.specs.Output.Arrangement.{turn, last_after, placed}
use Rattle.amqp_model.specs.End.Channels.{Agreed, End}
use Rattle.amqp_model.specs.End.Closes as closes
use Rattle.amqp_model.specs.End.Closes.{frame_of}
use Rattle.amqp_model.specs.Stream.Endpoint.{owed_at_start, owed_at_fault}
use Rattle.amqp_model.specs.End.EndVerdict.{end_puts, end_verdict, facts_at}
use Rattle.amqp_model.specs.End.Fitting.{ConfigWrites}
use Rattle.amqp_model.specs.Laws.FittingLaws.{AllWithin, OwedAreShort, CloseIsShort}
use Rattle.amqp_model.specs.Wire.Frame.{Frame}
use Rattle.amqp_model.specs.End.FrameVerdict.{methods_put}
use Rattle.amqp_model.specs.History.Negotiation.{Config, FRAME_MIN}
use Rattle.amqp_model.specs.Wire.Notes.{Role, Client, Server}
use Rattle.amqp_model.specs.Output.Outputs.{Output, output_octets, after_put, after_puts}
use Rattle.amqp_model.specs.Wire.Readings.{reading}
use Rattle.amqp_outbox.specs.OutboxView.{Outgoing, only}
use Rattle.amqp_channel.specs.Events.EventView.{agreed_view}
use Rattle.amqp_channel.specs.declared.verdict.Reply.TheVariants as replies
use Rattle.amqp_core.specs.Faults.Answering.{PutsAs, is_out_of_memory, ran_out}
use Rattle.amqp_core.specs.End.Growth.{GrowsLittle}
use Rattle.amqp_core.specs.Connection.Owed.{owed_view, starts, answers_start, tunes, answers_tune}
use Rattle.amqp_core.specs.Config.Settings.{config_view, role_for}
use Rattle.amqp_core.specs.declared.faults.CoreFault.{CoreFault}
use Rattle.amqp_core.specs.declared.owed.Owed.{Owed}
use Rattle.amqp_core.specs.declared.owed.Owed.TheVariants as code
use Rattle.amqp_core.specs.declared.settings.Settings.{Settings}

length-octets : (f : Frame) → length (octets f) ≡ frame_length f
unfolding octets
length-octets f = simp length-append (omega arith)

pub length_row : (f : Frame) (row : List Frame) → length (stream (f ∷ row)) ≡ frame_length f + length (stream row)
length_row f row = length-append (octets f) (stream row) ∙ ap (λ n. n + length (stream row)) (length-octets f)

length_cond : (b : Bool) (one other : List Frame) (n : ℕ) → length (stream one) ≡ n → length (stream other) ≡ n → length (stream (cond b one other)) ≡ n
length_cond true one other n h k = h
length_cond false one other n h k = k

length_placed : (last : ℕ) (f : Frame) (row : List Frame) → length (stream (placed last f row)) ≡ frame_length f + length (stream row)
length_placed last f [] = length_row f []
length_placed last f (g ∷ later) =
    let there = length_placed (last_after last g) f later in
    let put = length_row g (placed (last_after last g) f later) in
    let before = length_row g later in
    length_cond (nat_lt (turn last f) (turn last g)) (f ∷ g ∷ later) (g ∷ placed (last_after last g) f later) (frame_length f + length (stream (g ∷ later))) (length_row f (g ∷ later)) (omega (arith, there, put, before))

length_put : (f : Frame) (o : Output) → length (output_octets (after_put f o)) ≡ length (output_octets o) + frame_length f
length_put f o =
    let new = length-append o.ahead (stream (placed o.last f o.row)) in
    let old = length-append o.ahead (stream o.row) in
    let there = length_placed o.last f o.row in
    omega (arith, new, old, there)

pub length_puts : (frames : List Frame) (o : Output) → length (output_octets (after_puts frames o)) ≡ length (output_octets o) + length (stream frames)
length_puts [] o = omega arith
length_puts (f ∷ frames) o =
    let later = length_puts frames (after_put f o) in
    let first = length_put f o in
    let row = length_row f frames in
    omega (arith, later, first, row)

-- What an end owes in reply is two frames at most.

few : (frames : List Frame) → length frames ≤ 2 → AllWithin FRAME_MIN frames → length (stream frames) ≤ 8192
few [] h within = omega arith
few (f ∷ []) h within = let row = length_row f [] in omega (arith, row, within.0)
few (f ∷ g ∷ []) h within =
    let row = length_row f (g ∷ []) in
    let next = length_row g [] in
    omega (arith, row, next, within.0, within.1.0)
few (f ∷ g ∷ k ∷ later) h within = absurd (omega (arith, h))

few_starts : (role : Role) (config : Config role) → length (starts role config) ≤ 2
few_starts Client config = omega arith
few_starts Server config = omega arith

few_answers_start : (role : Role) (config : Config role) → length (answers_start role config) ≤ 2
few_answers_start Client config = omega arith
few_answers_start Server config = omega arith

few_tunes : (role : Role) (config : Config role) → length (tunes role config) ≤ 2
few_tunes Client config = omega arith
few_tunes Server config = omega arith

few_tune_ok : (role : Role) (config : Config role) (agreed : Agreed) → length (answers_tune role config agreed) ≤ 2
few_tune_ok Client config agreed = omega arith
few_tune_ok Server config agreed = omega arith

pub owed_few : (settings : Settings) (owed : Owed) → length (owed_view settings owed) ≤ 2
owed_few settings code.Nothing = omega arith
owed_few settings code.Start = few_starts (role_for settings) (config_view settings)
owed_few settings code.StartOk = few_answers_start (role_for settings) (config_view settings)
owed_few settings code.Tune = few_tunes (role_for settings) (config_view settings)
owed_few settings (code.TuneOkAndOpen agreed) = few_tune_ok (role_for settings) (config_view settings) (agreed_view agreed)
owed_few settings code.OpenOk = omega arith
owed_few settings (code.Close reason) = omega arith
owed_few settings code.CloseOk = omega arith
owed_few settings (code.OnChannel number replies.OpenOk) = omega arith
owed_few settings (code.OnChannel number replies.CloseOk) = omega arith
owed_few settings (code.OnChannel number (replies.FlowOk active)) = omega arith
owed_few settings (code.ChannelClose number reason) = omega arith

grown : (owed : List closes.Owed) (old : Output) → length owed ≤ 2 → AllWithin FRAME_MIN (map frame_of owed) → GrowsLittle old (after_puts (map frame_of owed) old)
grown owed old count within =
    let many = length-map owed frame_of in
    let put = length_puts (map frame_of owed) old in
    let most = few (map frame_of owed) (omega (arith, many, count)) within in
    omega (arith, put, most)

grown_by : (b : Bool) (owed : List closes.Owed) (old : Output) (new : Outgoing) → (b ≡ false → length owed ≤ 2) → AllWithin FRAME_MIN (map frame_of owed) → new ≡ only (cond b old (after_puts (map frame_of owed) old)) → GrowsLittle old new.output
grown_by true owed old new count within is = subst (λ (o : Output). GrowsLittle old o) (sym (ap (λ (x : Outgoing). x.output) is)) (omega arith)
grown_by false owed old new count within is = subst (λ (o : Output). GrowsLittle old o) (sym (ap (λ (x : Outgoing). x.output) is)) (grown owed old (count refl) within)

-- A frame is answered.
pub frame_grows : {A : Type 0} (settings : Settings) (end : End) (frame : Frame) (result : Result A CoreFault) (owed : Owed) (old : Output) (new : Outgoing)
    → ∥ ConfigWrites (config_view settings) ∥₁ → OwedAreShort (role_for settings) (facts_at (config_view settings) end frame.channel) (reading frame)
    → (ran_out result ≡ false → owed_view settings owed ≡ methods_put (facts_at (config_view settings) end frame.channel) (end_verdict (config_view settings) end frame))
    → PutsAs result old (after_puts (end_puts (config_view settings) end frame) old) new → GrowsLittle old new.output
frame_grows settings end frame result owed old new writes short owed_is puts =
    ∥∥₁_elim writes le_prop (λ w. grown_by (ran_out result) (methods_put (facts_at (config_view settings) end frame.channel) (end_verdict (config_view settings) end frame)) old new (λ e. subst (λ (o : List closes.Owed). length o ≤ 2) (owed_is e) (owed_few settings owed)) (short w) puts)

-- Octets show a fault.

stop_short : {role : Role} (config : Config role) (end : End) (kind : FrameFaultKind) → CloseIsShort role (facts_at config end 0) → AllWithin FRAME_MIN (map frame_of (owed_at_fault config end kind))
stop_short config end kinds.UnknownType short = tt
stop_short config end kinds.TooLarge short = short
stop_short config end kinds.BadEnd short = tt
stop_short config end kinds.OutOfMemory short = tt
stop_short config end kinds.Failed short = tt

pub stop_grows : (settings : Settings) (end : End) (kind : FrameFaultKind) (fault : CoreFault) (owed : Owed) (old : Output) (new : Outgoing)
    → CloseIsShort (role_for settings) (facts_at (config_view settings) end 0)
    → (is_out_of_memory fault ≡ false → owed_view settings owed ≡ owed_at_fault (config_view settings) end kind)
    → new ≡ only (cond (is_out_of_memory fault) old (after_puts (map frame_of (owed_at_fault (config_view settings) end kind)) old)) → GrowsLittle old new.output
stop_grows settings end kind fault owed old new short owed_is puts =
    grown_by (is_out_of_memory fault) (owed_at_fault (config_view settings) end kind) old new (λ e. subst (λ (o : List closes.Owed). length o ≤ 2) (owed_is e) (owed_few settings owed)) (stop_short (config_view settings) end kind short) puts

-- A server greets.

greeting_within : (role : Role) (config : Config role) → ConfigWrites config → AllWithin FRAME_MIN (map frame_of (owed_at_start role config))
greeting_within Client config writes = tt
greeting_within Server config writes = (writes.greeting_short, tt)

few_greeting : (role : Role) (config : Config role) → length (owed_at_start role config) ≤ 2
few_greeting Client config = omega arith
few_greeting Server config = omega arith

pub greeting_grows : (role : Role) (config : Config role) (old : Output) (new : Outgoing) → ∥ ConfigWrites config ∥₁ → new ≡ only (after_puts (map frame_of (owed_at_start role config)) old) → GrowsLittle old new.output
greeting_grows role config old new writes puts =
    ∥∥₁_elim writes le_prop (λ w. grown_by false (owed_at_start role config) old new (λ e. few_greeting role config) (greeting_within role config w) puts)
