-- What follows a piece is a trace of the history that follows.
use Rattle.std.proofs.Common.{◌≡◌, inl, inr, true, false, not, ℕ, List, [], ◌∷◌, ◌++◌, map, take, Option, Some, None, option_to_list, refl, ap, sym, ◌∙◌, subst}
use Rattle.std.proofs.lemmas.Bool.{false≢true, true≢false}
use Rattle.std.proofs.lemmas.List.{append-nil, append_assoc}
use Rattle.amqp_frame.specs.Frame.{octets as frame_octets}
use Rattle.amqp_frame.specs.Splitting.{stream}
use Rattle.amqp_frame.specs.declared.faults.FrameFaultKind.{FrameFaultKind}
use Rattle.amqp_frame.specs.declared.faults.FrameFaultKind.TheVariants as kinds
use Rattle.amqp_model.specs.End.Channels.{End, Phase, Closed}
use Rattle.amqp_model.specs.End.Closes as closes
use Rattle.amqp_model.specs.End.Closes.{AllReadBack, frame_of}
use Rattle.amqp_model.specs.Laws.EndLaws.{VerdictOfHistory}
use Rattle.amqp_model.specs.End.EndVerdict.{end_puts, end_verdict, facts_at, goes_on}
use Rattle.amqp_model.specs.Stream.Endpoint.{Endpoint, Feeding, awaits_opening, fault_told, owed_at_start, owed_at_fault, outcome_of}
use Rattle.amqp_model.specs.End.Events.{Fault, Faults}
use Rattle.amqp_model.specs.Wire.Frame.{Frame}
use Rattle.amqp_model.specs.End.FrameVerdict.{Facts, methods_put}
use Rattle.amqp_model.specs.History.Histories.{Took, History}
use Rattle.amqp_model.specs.Wire.Items.{Item}
use Rattle.amqp_model.specs.End.LawfulHistories.{then_put, then_taken}
use Rattle.amqp_model.specs.Wire.Methods.{Method}
use Rattle.amqp_model.specs.History.Negotiation.{Config, frame_limit}
use Rattle.amqp_model.specs.Wire.Notes.{Role, Client, Server}
use Rattle.amqp_model.specs.Laws.OctetLaws as octets
use Rattle.amqp_model.specs.Laws.OctetLaws.{EndpointStandsFor, HasFailed, Follows, TellsLast}
use Rattle.amqp_model.specs.Stream.Octets.{FedAs, frames_taken, has_opened, in_frames, in_opening, opening_read}
use Rattle.amqp_model.specs.End.ReadingBack.{WritesReadBack, GreetingReadsBack}
use Rattle.amqp_model.specs.Wire.Readings.{reading}
use Rattle.amqp_model.specs.Pair.Sent.{life_on, told}
use Rattle.amqp_model.specs.Stream.Traces.{IsTaken, Noted, noted, PutsTellNothing, SaysMethod, TellsEvent, TracePuts, telling_at}
use Rattle.amqp_core.specs.Traced.AccountView.{Came, IsAccount, item_in_outcome, puts_alone, came_of_frame}
use Rattle.amqp_core.specs.Faults.FaultShown as shows
use Rattle.amqp_core.specs.Faults.FaultShown.{EndsInFault}
use Rattle.amqp_core.specs.Traced.Noting.{lives_in, notes_owed, said_by_owed, note_tells}
use Rattle.amqp_core.specs.Connection.Owed.{owed_view}
use Rattle.amqp_core.specs.Config.Settings.{config_view, role_for}
use Rattle.amqp_core.specs.Traced.Tracing as tracing
use Rattle.amqp_model.specs.Stream.Grown as grown
use Rattle.amqp_core.specs.Traced.Tracing.{Kept, IsTraceOf, Stands, OpensWith, TraceGrows}
use Rattle.amqp_core.specs.declared.owed.Owed.{Owed}
use Rattle.amqp_core.specs.declared.settings.Settings.{Settings}
use Rattle.amqp_core.proofs.FeedTrace.{Lists, frame-listed, puts-listed}
use Rattle.amqp_core.proofs.OfHistoryLemmas.{ReadsEach, facts_same, puts_same}
use Rattle.amqp_core.proofs.TraceLemmas.{told-goes, told-stops}

-- the laws of traces, of an end with these settings
pub record TraceLaws (role : Role) (config : Config role) : Type 0 where
  pub puts : (frames : List Frame) (history : History) → TracePuts frames history
  pub tells : (history : History) (frame : Frame) → TellsEvent role config history frame
  pub puts_tell : (frames : List Frame) (history : History) → PutsTellNothing role config frames history
  pub says : (channel : ℕ) (method : Method) (history : History) → SaysMethod role channel method history
  pub verdict : (end : End) (history : History) (frame : Frame) → VerdictOfHistory role config false end history frame
  pub reads : (end : End) (history : History) → ReadsEach role end history
  pub writes : WritesReadBack role config

-- how the lists have grown by what came
pub record ListsGrow (role : Role) (old new : Kept) (took : Option Noted) (item : Option Item) (owed : Owed) : Type 0 where
  pub notes : new.notes ≡ old.notes ++ (option_to_list took ++ notes_owed role owed)
  pub told : new.told ≡ old.told ++ note_tells (lives_in role old.notes) took item
  pub said : new.said ≡ old.said ++ said_by_owed (lives_in role (old.notes ++ option_to_list took)) owed

greeting_back : (role : Role) (config : Config role) → GreetingReadsBack role config → AllReadBack (owed_at_start role config)
greeting_back Client config back = tt
greeting_back Server config back = (back, tt)

fault_back : (role : Role) (config : Config role) (end : End) (kind : FrameFaultKind) → WritesReadBack role config → AllReadBack (owed_at_fault config end kind)
fault_back role config end kinds.UnknownType writes = tt
fault_back role config end kinds.TooLarge writes = writes.too_large end
fault_back role config end kinds.BadEnd writes = tt
fault_back role config end kinds.OutOfMemory writes = tt
fault_back role config end kinds.Failed writes = tt

-- methods were put, and no frame was taken
alone : (settings : Settings) (old new : Kept) (took : Option Noted) (item : Option Item) (owed : Owed) (put : List closes.Owed) (history : History)
    → TraceLaws (role_for settings) (config_view settings) → ListsGrow (role_for settings) old new took item owed
    → ◌≡◌ {A = Came} (record { took = took; item = item; owed = owed_view settings owed }) (puts_alone put) → AllReadBack put
    → IsTraceOf (role_for settings) (config_view settings) old history
    → Lists (role_for settings) (config_view settings) new.notes new.told new.said (then_put (map frame_of put) history)
alone settings old new took item owed put history laws grow came back traced =
    let role = role_for settings in
    let none : took ≡ None = ap (λ (c : Came). c.took) came in
    let notes : new.notes ≡ old.notes ++ notes_owed role owed = grow.notes ∙ ap (λ (t : Option Noted). old.notes ++ (option_to_list t ++ notes_owed role owed)) none in
    let tells : new.told ≡ old.told = grow.told ∙ (ap (λ (t : Option Noted). old.told ++ note_tells (lives_in role old.notes) t item) none ∙ append-nil old.told) in
    let says : new.said ≡ old.said ++ said_by_owed (lives_in role old.notes) owed =
    grow.said ∙ (ap (λ (t : Option Noted). old.said ++ said_by_owed (lives_in role (old.notes ++ option_to_list t)) owed) none ∙ ap (λ ns. old.said ++ said_by_owed (lives_in role ns) owed) (append-nil old.notes)) in
    let lists = puts-listed settings owed put history old.notes new.notes old.told old.said new.said laws.puts laws.puts_tell laws.says (ap (λ (c : Came). c.owed) came) back (record { noted = traced.noted; told = traced.told; said = traced.said }) notes says in
    record { noted = lists.noted; told = tells ∙ lists.told; said = lists.said }

-- a frame was taken
with_frame : (settings : Settings) (old new : Kept) (end : End) (frame : Frame) (took : Option Noted) (item : Option Item) (owed : Owed) (history : History)
    → TraceLaws (role_for settings) (config_view settings) → ListsGrow (role_for settings) old new took item owed
    → ◌≡◌ {A = Came} (record { took = took; item = item; owed = owed_view settings owed }) (came_of_frame (config_view settings) end frame)
    → told (role_for settings) (config_view settings) (then_taken (config_view settings) end frame history)
    ≡ told (role_for settings) (config_view settings) history ++ telling_at frame.channel (life_on (role_for settings) frame.channel history) (item_in_outcome (outcome_of (facts_at (config_view settings) end frame.channel) (end_verdict (config_view settings) end frame)))
    → IsTraceOf (role_for settings) (config_view settings) old history
    → Lists (role_for settings) (config_view settings) new.notes new.told new.said (then_taken (config_view settings) end frame history)
with_frame settings old new end frame took item owed history laws grow came law traced =
    let role = role_for settings in
    let config = config_view settings in
    let this : Noted = noted IsTaken frame in
    let tells_item = item_in_outcome (outcome_of (facts_at config end frame.channel) (end_verdict config end frame)) in
    let took_is : took ≡ Some this = ap (λ (c : Came). c.took) came in
    let item_is : item ≡ tells_item = ap (λ (c : Came). c.item) came in
    let notes : new.notes ≡ (old.notes ++ this ∷ []) ++ notes_owed role owed =
    grow.notes ∙ (ap (λ (t : Option Noted). old.notes ++ (option_to_list t ++ notes_owed role owed)) took_is ∙ sym (append_assoc old.notes (this ∷ []) (notes_owed role owed))) in
    let tells : new.told ≡ old.told ++ note_tells (lives_in role old.notes) (Some this) tells_item =
    grow.told ∙ (ap (λ (t : Option Noted). old.told ++ note_tells (lives_in role old.notes) t item) took_is ∙ ap (λ (i : Option Item). old.told ++ note_tells (lives_in role old.notes) (Some this) i) item_is) in
    let says : new.said ≡ old.said ++ said_by_owed (lives_in role (old.notes ++ this ∷ [])) owed =
    grow.said ∙ ap (λ (t : Option Noted). old.said ++ said_by_owed (lives_in role (old.notes ++ option_to_list t)) owed) took_is in
    let here : told role config (Took frame ∷ history) ≡ told role config history ++ telling_at frame.channel (life_on role frame.channel history) tells_item = sym (laws.puts_tell (end_puts config end frame) (Took frame ∷ history)) ∙ law in
    let first = frame-listed settings frame tells_item history old.notes old.told old.said here (record { noted = traced.noted; told = traced.told; said = traced.said }) in
    let lists = puts-listed settings owed (methods_put (facts_at config end frame.channel) (end_verdict config end frame)) (Took frame ∷ history) (old.notes ++ this ∷ []) new.notes (old.told ++ note_tells (lives_in role old.notes) (Some this) tells_item) old.said new.said
    laws.puts laws.puts_tell laws.says (ap (λ (c : Came). c.owed) came) (laws.writes.owed end frame.channel (reading frame)) first notes says in
    record { noted = lists.noted; told = tells ∙ lists.told; said = lists.said }

-- the standing, where the octets are those fed and written
pub stood : (role : Role) (config : Config role) (new : Kept) (history : History) (fed written : List ℕ) → new.fed ≡ fed → new.written ≡ written → EndpointStandsFor role config new.endpoint history fed written → Stands role config new history
stood role config new history fed written f w stands = tracing.stands
    (subst (λ xs. EndpointStandsFor role config new.endpoint history xs new.written) (sym f) (subst (λ ys. EndpointStandsFor role config new.endpoint history fed ys) (sym w) stands))

fell : (role : Role) (config : Config role) (limit : ℕ) (opening : List ℕ) (new : Kept) (history : History) (fed written : List ℕ) → OpensWith role history opening → new.fed ≡ fed → new.written ≡ written → HasFailed role config limit opening history fed written new.endpoint → EndsInFault role config limit history fed → Stands role config new history
fell role config limit opening new history fed written opens f w failed shown = tracing.failed limit opening opens
    (subst (λ xs. HasFailed role config limit opening history xs new.written new.endpoint) (sym f) (subst (λ ys. HasFailed role config limit opening history fed ys new.endpoint) (sym w) failed))
    (subst (λ xs. EndsInFault role config limit history xs) (sym f) shown)

-- The octets fed end with those that are unfinished, and then with those taken.

record EndsWith (xs last : List ℕ) : Type 0 where
  pub earlier : List ℕ
  pub octets_are : xs ≡ earlier ++ last

ends_unfinished : (role : Role) (limit : ℕ) (history : History) (fed unfinished : List ℕ) → FedAs role limit history fed unfinished → EndsWith fed unfinished
ends_unfinished role limit history fed unfinished (in_opening missing some opening none is) = record { earlier = []; octets_are = sym is }
ends_unfinished role limit history fed unfinished (in_frames opened is fit rest) = record {
  earlier = opening_read role ++ stream (frames_taken history);
  octets_are = is ∙ sym (append_assoc (opening_read role) (stream (frames_taken history)) unfinished);
}

ends_taken : (fed unfinished taken last : List ℕ) → EndsWith fed unfinished → unfinished ++ taken ≡ last → EndsWith (fed ++ taken) last
ends_taken fed unfinished taken last ends is = record {
  earlier = ends.earlier;
  octets_are = ap (λ xs. xs ++ taken) ends.octets_are ∙ (append_assoc ends.earlier unfinished taken ∙ ap (λ xs. ends.earlier ++ xs) is);
}

-- So of an end that fails it is known with what its history ends.

shown_in_frame : (role : Role) (config : Config role) (old : Endpoint) (history : History) (fed written piece : List ℕ) (count : ℕ) (frame : Frame) (fault : Fault)
    → EndpointStandsFor role config old history fed written → ReadsEach role old.end history → old.unfinished ++ take count piece ≡ frame_octets frame → end_verdict config old.end frame ≡ Faults fault
    → VerdictOfHistory role config false old.end history frame → EndsInFault role config (frame_limit old.end.agreed) (then_taken config old.end frame history) (fed ++ take count piece)
shown_in_frame role config old history fed written piece count frame fault stands reads whole verdict law =
    let ends = ends_taken fed old.unfinished (take count piece) (frame_octets frame) (ends_unfinished role (frame_limit old.end.agreed) history fed old.unfinished stands.read) whole in
    shows.in_frame history frame fault ends.earlier stands.lawful (sym (law stands.stands) ∙ verdict)
    (ap (λ puts. then_put puts (Took frame ∷ history)) (puts_same role config old.end history frame reads stands.stands)) ends.octets_are

shown_in_octets : (role : Role) (config : Config role) (old : Endpoint) (history : History) (fed written piece : List ℕ) (count : ℕ) (kind : FrameFaultKind)
    → EndpointStandsFor role config old history fed written → ReadsEach role old.end history → TellsLast (frame_limit old.end.agreed) (old.unfinished ++ take count piece) kind
    → EndsInFault role config (frame_limit old.end.agreed) (then_put (map frame_of (owed_at_fault config old.end kind)) history) (fed ++ take count piece)
shown_in_octets role config old history fed written piece count kind stands reads tells =
    let ends = ends_taken fed old.unfinished (take count piece) (old.unfinished ++ take count piece) (ends_unfinished role (frame_limit old.end.agreed) history fed old.unfinished stands.read) refl in
    shows.in_octets history kind ends.earlier (old.unfinished ++ take count piece) stands.lawful tells
    (ap (λ (facts : Facts role). then_put (map frame_of (methods_put facts (Faults (fault_told kind)))) history) (facts_same role config old.end history 0 reads stands.stands)) ends.octets_are

traced_by : (role : Role) (config : Config role) (new : Kept) (after : History) → Lists role config new.notes new.told new.said after → Stands role config new after → IsTraceOf role config new after
traced_by role config new after lists standing = record { noted = lists.noted; told = lists.told; said = lists.said; stands = standing }

-- nothing was put where the protocol header is awaited
none_put : (role : Role) (history : History) (phase : Phase) → awaits_opening role phase ≡ true → awaits_opening role phase ≡ not (has_opened role history) → history ≡ []
none_put Client history phase awaits opens = absurd (false≢true awaits)
none_put Server [] phase awaits opens = refl
none_put Server (entry ∷ before) phase awaits opens = absurd (true≢false (sym awaits ∙ opens))

-- A piece that didn't run out of memory.
pub follow-trace : (settings : Settings) (old new : Kept) (piece : List ℕ) (fed : Feeding) (count : ℕ) (took : Option Noted) (item : Option Item) (owed : Owed) (history : History)
    → TraceLaws (role_for settings) (config_view settings) → ListsGrow (role_for settings) old new took item owed
    → IsAccount (role_for settings) (config_view settings) old.endpoint piece fed count (record { took = took; item = item; owed = owed_view settings owed })
    → new.fed ≡ old.fed ++ take fed.taken piece → new.written ≡ old.written
    → IsTraceOf (role_for settings) (config_view settings) old history
    → EndpointStandsFor (role_for settings) (config_view settings) old.endpoint history old.fed old.written
    → ((closed : old.endpoint.end.phase ≡ Closed) → ⊥)
    → Follows (role_for settings) (config_view settings) old.endpoint history old.fed old.written piece (record { endpoint = new.endpoint; taken = fed.taken; outcome = fed.outcome })
    → TraceGrows (role_for settings) (config_view settings) old.endpoint piece fed history new
follow-trace settings old new piece fed count took item owed history laws grow account f w traced stands not_closed (octets.waits outcome stands_then) =
    let role = role_for settings in
    let lists = alone settings old new took item owed [] history laws grow (account.waits outcome) tt traced in
    record { after = history; grows = grown.waits outcome; trace = traced_by role (config_view settings) new history lists (stood role (config_view settings) new history _ _ f w stands_then) }
follow-trace settings old new piece fed count took item owed history laws grow account f w traced stands not_closed (octets.greets awaits none outcome stands_then) =
    let role = role_for settings in
    let config = config_view settings in
    let lists = alone settings old new took item owed (owed_at_start role config) history laws grow (account.greets awaits outcome) (greeting_back role config laws.writes.greeting) traced in
    record { after = then_put (map frame_of (owed_at_start role config)) history; grows = grown.greets awaits none outcome; trace = traced_by role config new _ lists (stood role config new _ _ _ f w stands_then) }
follow-trace settings old new piece fed count took item owed history laws grow account f w traced stands not_closed (octets.takes frame phase whole on outcome stands_then) =
    let role = role_for settings in
    let config = config_view settings in
    let law = told-goes role config old.endpoint.end history frame (laws.verdict old.endpoint.end history frame) (laws.tells history frame) laws.puts_tell laws.writes stands.lawful stands.stands on in
    let lists = with_frame settings old new old.endpoint.end frame took item owed history laws grow (account.takes frame phase whole) law traced in
    record { after = then_taken config old.endpoint.end frame history; grows = grown.takes frame phase whole on outcome; trace = traced_by role config new _ lists (stood role config new _ _ _ f w stands_then) }
follow-trace settings old new piece fed count took item owed history laws grow account f w traced stands not_closed (octets.faults frame fault phase whole verdict outcome failed) =
    let role = role_for settings in
    let config = config_view settings in
    let law = told-stops role config old.endpoint.end history frame (laws.verdict old.endpoint.end history frame) laws.puts_tell stands.stands (ap goes_on verdict) in
    let lists = with_frame settings old new old.endpoint.end frame took item owed history laws grow (account.takes frame phase whole) law traced in
    record {
      after = then_taken config old.endpoint.end frame history;
      grows = grown.faults frame fault phase whole verdict outcome;
      trace = traced_by role config new _ lists (fell role config _ _ new _ _ _ (inl refl) f w failed
          (shown_in_frame role config old.endpoint history old.fed old.written piece fed.taken frame fault stands (laws.reads old.endpoint.end history) whole.is_frame verdict (laws.verdict old.endpoint.end history frame)));
    }
follow-trace settings old new piece fed count took item owed history laws grow account f w traced stands not_closed (octets.tells kind phase tells outcome failed) =
    let role = role_for settings in
    let config = config_view settings in
    let lists = alone settings old new took item owed (owed_at_fault config old.endpoint.end kind) history laws grow (account.tells kind phase tells) (fault_back role config old.endpoint.end kind laws.writes) traced in
    record {
      after = then_put (map frame_of (owed_at_fault config old.endpoint.end kind)) history;
      grows = grown.tells kind phase tells outcome;
      trace = traced_by role config new _ lists (fell role config _ _ new _ _ _ (inl refl) f w failed
          (shown_in_octets role config old.endpoint history old.fed old.written piece fed.taken kind stands (laws.reads old.endpoint.end history) tells));
    }
follow-trace settings old new piece fed count took item owed history laws grow account f w traced stands not_closed (octets.differs awaits outcome failed) =
    let role = role_for settings in
    let config = config_view settings in
    let lists = alone settings old new took item owed [] history laws grow (account.differs awaits outcome) tt traced in
    record {
      after = history;
      grows = grown.differs awaits outcome;
      trace = traced_by role config new history lists (fell role config _ _ new history _ _ (inr (refl, none_put role history old.endpoint.end.phase awaits stands.opens)) f w failed
          (shows.in_opening (none_put role history old.endpoint.end.phase awaits stands.opens)));
    }
follow-trace settings old new piece fed count took item owed history laws grow account f w traced stands not_closed (octets.refuses closed is) = absurd (not_closed closed)
