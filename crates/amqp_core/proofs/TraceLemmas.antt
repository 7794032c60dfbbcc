-- What a frame that is taken, and the methods that are owed, make of the lists of a history.
use Rattle.std.proofs.Common.{◌≡◌, cond, ◌==◌, true, false, ℕ, zero, suc, List, [], ◌∷◌, ◌++◌, map, None, refl, ap, sym, ◌∙◌}
use Rattle.std.proofs.lemmas.Bool.{false≢true}
use Rattle.std.proofs.lemmas.List.{append-nil, append_assoc}
use Rattle.amqp_model.specs.End.Channels.{End}
use Rattle.amqp_model.specs.End.Closes as closes
use Rattle.amqp_model.specs.End.Closes.{AllReadBack, frame_of}
use Rattle.amqp_model.specs.Laws.EndLaws.{VerdictOfHistory}
use Rattle.amqp_model.specs.End.EndVerdict.{end_puts, end_verdict, facts_at, goes_on}
use Rattle.amqp_model.specs.Stream.Endpoint.{outcome_of}
use Rattle.amqp_model.specs.End.Events.{FrameVerdict, Proceeds, RefusesContent, Faults}
use Rattle.amqp_model.specs.Wire.Frame.{Frame}
use Rattle.amqp_model.specs.End.FrameVerdict.{event_told}
use Rattle.amqp_model.specs.History.Histories.{Took, History}
use Rattle.amqp_model.specs.End.LawfulHistories.{Lawful, end_of, then_put, then_taken}
use Rattle.amqp_model.specs.End.Machine.{StandsFor}
use Rattle.amqp_model.specs.Wire.Methods.{Method}
use Rattle.amqp_model.specs.History.Negotiation.{Config}
use Rattle.amqp_model.specs.Wire.Notes.{Role, Client, Server}
use Rattle.amqp_model.specs.End.ReadingBack.{WritesReadBack}
use Rattle.amqp_model.specs.Wire.Readings.{kind_of, method_reading}
use Rattle.amqp_model.specs.Pair.Sent.{Telling, life_on, told, said, told_at, goes_on_with}
use Rattle.amqp_model.specs.Stream.Traces.{Other, IsPut, IsTaken, noted, trace, word_of, TracePuts, TellsEvent, PutsTellNothing, SaysMethod, item_in_event, telling_at, telling_above}
use Rattle.amqp_channel.specs.Events.EventView.{agreed_view}
use Rattle.amqp_core.specs.Traced.AccountView.{item_in_outcome}
use Rattle.amqp_core.specs.Traced.Noting.{noted_owed, said_by_owed}
use Rattle.amqp_core.specs.Connection.Owed.{owed_view, starts, answers_start, tunes, answers_tune}
use Rattle.amqp_core.specs.Config.Settings.{config_view, role_for}
use Rattle.amqp_model.specs.End.Channels as channels
use Rattle.amqp_channel.specs.declared.verdict.Reply.TheVariants as replies
use Rattle.amqp_core.specs.declared.owed.Owed.{Owed}
use Rattle.amqp_core.specs.declared.owed.Owed.TheVariants as code
use Rattle.amqp_core.specs.declared.settings.Settings.{Settings}

-- Notes.

pub notes-owed : (owed : List closes.Owed) → AllReadBack owed → map (noted IsPut) (map frame_of owed) ≡ map noted_owed owed
notes-owed [] back = refl
notes-owed (first ∷ later) back =
    ap (λ (r : _). record { channel = first.channel; direction = IsPut; word = cond (first.channel == 0) Other (word_of (kind_of (method_reading r))) } ∷ map (noted IsPut) (map frame_of later)) back.0
    ∙ ap (λ notes. noted_owed first ∷ notes) (notes-owed later back.1)

-- a frame is taken, and methods are put
pub notes-taken : (frame : Frame) (owed : List closes.Owed) (history : History) → TracePuts (map frame_of owed) (Took frame ∷ history) → AllReadBack owed
    → trace (then_put (map frame_of owed) (Took frame ∷ history)) ≡ trace history ++ (noted IsTaken frame ∷ map noted_owed owed)
notes-taken frame owed history law back =
    law ∙ (ap (λ notes. (trace history ++ noted IsTaken frame ∷ []) ++ notes) (notes-owed owed back) ∙ append_assoc (trace history) (noted IsTaken frame ∷ []) (map noted_owed owed))

-- only methods are put
pub notes-put : (owed : List closes.Owed) (history : History) → TracePuts (map frame_of owed) history → AllReadBack owed → trace (then_put (map frame_of owed) history) ≡ trace history ++ map noted_owed owed
notes-put owed history law back = law ∙ ap (λ notes. trace history ++ notes) (notes-owed owed back)

-- What is told.

goes_told : {role : Role} (config : Config role) (end : End) (channel : ℕ) (verdict : FrameVerdict) → goes_on verdict ≡ true → item_in_event (event_told (facts_at config end channel) verdict) ≡ item_in_outcome (outcome_of (facts_at config end channel) verdict)
goes_told config end channel (Proceeds event owed) e = refl
goes_told config end channel RefusesContent e = refl
goes_told config end channel (Faults fault) e = absurd (false≢true e)

same_told : {role : Role} (config : Config role) (one other : End) (channel : ℕ) (verdict : FrameVerdict) → event_told (facts_at config one channel) verdict ≡ event_told (facts_at config other channel) verdict
same_told config one other channel (Proceeds event owed) = refl
same_told config one other channel RefusesContent = refl
same_told config one other channel (Faults fault) = refl

stops_told : {role : Role} (config : Config role) (end : End) (channel : ℕ) (verdict : FrameVerdict) → goes_on verdict ≡ false → item_in_outcome (outcome_of (facts_at config end channel) verdict) ≡ None
stops_told config end channel (Proceeds event owed) e = absurd (false≢true (sym e))
stops_told config end channel RefusesContent e = absurd (false≢true (sym e))
stops_told config end channel (Faults fault) e = refl

-- the item of a frame, where the end goes on
pub told-goes : (role : Role) (config : Config role) (end : End) (history : History) (frame : Frame)
    → VerdictOfHistory role config false end history frame → TellsEvent role config history frame → ((frames : List Frame) (h : History) → PutsTellNothing role config frames h)
    → WritesReadBack role config → Lawful role config false history → StandsFor role config false end history → goes_on (end_verdict config end frame) ≡ true
    → told role config (then_taken config end frame history)
    ≡ told role config history ++ telling_at frame.channel (life_on role frame.channel history) (item_in_outcome (outcome_of (facts_at config end frame.channel) (end_verdict config end frame)))
told-goes role config end history frame verdict_law law puts writes lawful stands on =
    let same = verdict_law stands in
    let counted = end_of config history in
    let there = law writes lawful (ap goes_on (sym same) ∙ on) in
    let event : event_told (facts_at config counted frame.channel) (end_verdict config counted frame) ≡ event_told (facts_at config end frame.channel) (end_verdict config end frame) =
    ap (event_told (facts_at config counted frame.channel)) (sym same) ∙ same_told config counted end frame.channel (end_verdict config end frame) in
    puts (end_puts config end frame) (Took frame ∷ history)
    ∙ (sym (puts (end_puts config counted frame) (Took frame ∷ history))
    ∙ (there ∙ ap (λ item. told role config history ++ telling_at frame.channel (life_on role frame.channel history) item) (ap item_in_event event ∙ goes_told config end frame.channel (end_verdict config end frame) on)))

-- and where it finds fault
pub told-stops : (role : Role) (config : Config role) (end : End) (history : History) (frame : Frame)
    → VerdictOfHistory role config false end history frame → ((frames : List Frame) (h : History) → PutsTellNothing role config frames h)
    → StandsFor role config false end history → goes_on (end_verdict config end frame) ≡ false
    → told role config (then_taken config end frame history)
    ≡ told role config history ++ telling_at frame.channel (life_on role frame.channel history) (item_in_outcome (outcome_of (facts_at config end frame.channel) (end_verdict config end frame)))
told-stops role config end history frame verdict_law puts stands on =
    let same : goes_on_with role config frame history ≡ false = ap goes_on (sym (verdict_law stands)) ∙ on in
    puts (end_puts config end frame) (Took frame ∷ history)
    ∙ (ap (λ b. told role config history ++ cond b (told_at role frame.channel frame history) []) same
    ∙ sym (ap (λ item. told role config history ++ telling_at frame.channel (life_on role frame.channel history) item) (stops_told config end frame.channel (end_verdict config end frame) on)))

-- What is said.

none_above : (channel life : ℕ) → telling_above channel life None ≡ []
none_above zero life = refl
none_above (suc n) life = refl

nothing_more : (role : Role) (history : History) (more : List Telling) → more ≡ [] → said role history ++ more ≡ said role history ++ []
nothing_more role history more e = ap (λ xs. said role history ++ xs) e

said_starts : (role : Role) (config : Config role) (history : History) → said role (then_put (map frame_of (starts role config)) history) ≡ said role history ++ []
said_starts Client config history = sym (append-nil (said Client history))
said_starts Server config history = refl

said_answers_start : (role : Role) (config : Config role) (history : History) → said role (then_put (map frame_of (answers_start role config)) history) ≡ said role history ++ []
said_answers_start Client config history = refl
said_answers_start Server config history = sym (append-nil (said Server history))

said_tunes : (role : Role) (config : Config role) (history : History) → said role (then_put (map frame_of (tunes role config)) history) ≡ said role history ++ []
said_tunes Client config history = sym (append-nil (said Client history))
said_tunes Server config history = refl

said_answers_tune : (role : Role) (config : Config role) (agreed : channels.Agreed) (history : History) → said role (then_put (map frame_of (answers_tune role config agreed)) history) ≡ said role history ++ []
said_answers_tune Client config agreed history = append-nil (said Client history ++ [])
said_answers_tune Server config agreed history = sym (append-nil (said Server history))

pub said-owed : (settings : Settings) (owed : Owed) (history : History)
    → ((channel : ℕ) (method : Method) (h : History) → SaysMethod (role_for settings) channel method h) → AllReadBack (owed_view settings owed)
    → said (role_for settings) (then_put (map frame_of (owed_view settings owed)) history) ≡ said (role_for settings) history ++ said_by_owed (λ channel. life_on (role_for settings) channel history) owed
said-owed settings code.Nothing history law back = sym (append-nil (said (role_for settings) history))
said-owed settings code.Start history law back = said_starts (role_for settings) (config_view settings) history
said-owed settings code.StartOk history law back = said_answers_start (role_for settings) (config_view settings) history
said-owed settings code.Tune history law back = said_tunes (role_for settings) (config_view settings) history
said-owed settings (code.TuneOkAndOpen agreed) history law back = said_answers_tune (role_for settings) (config_view settings) (agreed_view agreed) history
said-owed settings code.OpenOk history law back = refl
said-owed settings (code.Close reason) history law back = refl
said-owed settings code.CloseOk history law back = refl
said-owed settings (code.OnChannel number replies.OpenOk) history law back = law number _ history back.0
said-owed settings (code.OnChannel number replies.CloseOk) history law back = law number _ history back.0
said-owed settings (code.OnChannel number (replies.FlowOk active)) history law back = law number _ history back.0
said-owed settings (code.ChannelClose number reason) history law back =
    law number _ history back.0 ∙ nothing_more (role_for settings) history _ (none_above number (life_on (role_for settings) number history))
