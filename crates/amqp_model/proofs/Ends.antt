-- One end: where it stands in its life, how a note moves it, and that its notes count to just that.
use Rattle.std.proofs.Common.{◌≡◌, Bool, true, false, not, ◌||◌, ℕ, suc, List, [], ◌∷◌, Option, Some}
use Rattle.std.proofs.Common.{None, refl, sym, ap, ◌∙◌, true≢false}
use Rattle.std.proofs.lemmas.Bool.{false≢true, and_parts, not-true}
use Rattle.amqp_model.specs.Wire.Frame.{Frame}
use Rattle.amqp_model.specs.Wire.Notes.{Role, Client, Server, is_server, Kind, Open, OpenOk, Close, CloseOk, Flow}
use Rattle.amqp_model.specs.Wire.Notes.{FlowOk, Other, Note, Put, Took, Leaving, is_content}
use Rattle.amqp_model.specs.History.States.{State, Free, Opening, Closing}
use Rattle.amqp_model.specs.History.Lives.{waits, lives, is_alive, has_open_ok, awaits_flow_ok, has_left}
use Rattle.amqp_model.specs.History.Lives.{before_leaving, state_by, state, is_paused}
use Rattle.amqp_model.specs.History.Verdict.{ChannelEvent, Opened, Acted, ClosedByUs, ClosedByPeer, Discarded, Quiet}
use Rattle.amqp_model.specs.History.Verdict.{FlowAsked, FlowAnswered, Verdict, GoesOn, Fault, verdict_at, verdict}
use Rattle.amqp_model.specs.Pair.Runs.{may_ask, may_put}

-- a state, the number of the life, and whether a flow-ok is awaited
pub data Standing : Type 0 where
  Is : State → ℕ → Bool → Standing

-- what the notes count to in a state
abbrev pub StandsIn : State → Role → List Note → Type 0
StandsIn Free role history = (is_alive role history ≡ false) × (waits history ≡ false)
StandsIn Opening role history =
    (is_alive role history ≡ true) × (waits history ≡ false)
    × ((is_server role || has_open_ok role history) ≡ false)
StandsIn State.Open role history =
    (is_alive role history ≡ true) × (waits history ≡ false)
    × ((is_server role || has_open_ok role history) ≡ true)
StandsIn Closing role history = (is_alive role history ≡ true) × (waits history ≡ true)

-- the notes of an end, all of them counted, stand here
pub data Stands (role : Role) (history : List Note) : Standing → Type 0 where
  stands : {word : State} {n : ℕ} {a : Bool} → lives role history ≡ n → awaits_flow_ok role history ≡ a
      → StandsIn word role history → Stands role history (Is word n a)

-- the frames that a channel carries while it is open
pub data IsMessage : Kind → Type 0 where
  a_flow : {active : Bool} → IsMessage (Flow active)
  a_flow_ok : {active : Bool} → IsMessage (FlowOk active)
  an_other : {begins_content : Bool} → IsMessage (Other begins_content)

-- the frames that answer another, and the state in which the end is then
pub data IsReply : Kind → State → Type 0 where
  to_open : IsReply OpenOk State.Open
  to_close : {word : State} → IsReply CloseOk word
  to_flow : {active : Bool} → IsReply (FlowOk active) State.Open

-- an application asks for a frame, and the end puts it
pub data Asking : Role → Standing → Kind → Standing → Type 0 where
  opens : {n : ℕ} {a : Bool} → Asking Client (Is Free n a) Open (Is Opening (suc n) false)
  closes : {role : Role} {n : ℕ} {a : Bool} → Asking role (Is State.Open n a) Close (Is Closing n a)
  flows : {role : Role} {n : ℕ} {active : Bool}
      → Asking role (Is State.Open n false) (Flow active) (Is State.Open n true)
  sends : {role : Role} {n : ℕ} {a : Bool} {begins_content : Bool}
      → Asking role (Is State.Open n a) (Other begins_content) (Is State.Open n a)

-- an end takes a frame and owes a reply
pub data Taking : Role → Standing → Kind → Option Kind → Standing → Type 0 where
  accepts : {n : ℕ} {a : Bool} → Taking Server (Is Free n a) Open (Some OpenOk) (Is State.Open (suc n) false)
  begins : {n : ℕ} {a : Bool} → Taking Client (Is Opening n a) OpenOk None (Is State.Open n a)
  ends : {role : Role} {n : ℕ} {a : Bool} → Taking role (Is State.Open n a) Close (Some CloseOk) (Is Free n a)
  pauses : {role : Role} {n : ℕ} {a active : Bool}
      → Taking role (Is State.Open n a) (Flow active) (Some (FlowOk active)) (Is State.Open n a)
  hears : {role : Role} {n : ℕ} {active : Bool}
      → Taking role (Is State.Open n true) (FlowOk active) None (Is State.Open n false)
  acts : {role : Role} {n : ℕ} {a begins_content : Bool}
      → Taking role (Is State.Open n a) (Other begins_content) None (Is State.Open n a)
  crosses : {role : Role} {n : ℕ} {a : Bool} → Taking role (Is Closing n a) Close (Some CloseOk) (Is Closing n a)
  frees : {role : Role} {n : ℕ} {a : Bool} → Taking role (Is Closing n a) CloseOk None (Is Free n a)
  drops : {role : Role} {n : ℕ} {a : Bool} {kind : Kind} → IsMessage kind
      → Taking role (Is Closing n a) kind None (Is Closing n a)

-- the verdict on a frame that an end may take
pub taking_verdict : {role : Role} {word : State} {n : ℕ} {a : Bool} {kind : Kind} {owed : Option Kind}
    {after : Standing} → Taking role (Is word n a) kind owed after → (event : ChannelEvent)
    × (verdict_at role word a kind ≡ GoesOn event owed)
taking_verdict accepts = (Opened, refl)
taking_verdict begins = (Opened, refl)
taking_verdict ends = (ClosedByPeer, refl)
taking_verdict (pauses {active = b}) = (FlowAsked b, refl)
taking_verdict (hears {active = b}) = (FlowAnswered b, refl)
taking_verdict acts = (Acted, refl)
taking_verdict crosses = (Quiet, refl)
taking_verdict frees = (ClosedByUs, refl)
taking_verdict (drops a_flow) = (Discarded, refl)
taking_verdict (drops a_flow_ok) = (Discarded, refl)
taking_verdict (drops an_other) = (Discarded, refl)

-- the state is the one that the notes count to
pub stands_state : {role : Role} {history : List Note} (word : State) {n : ℕ} {a : Bool}
    → Stands role history (Is word n a) → state_by role history ≡ word
stands_state Free (stands l e h) = simp (h.0, h.1)
stands_state Opening (stands l e h) = simp (h.0, h.1, h.2)
stands_state State.Open (stands l e h) = simp (h.0, h.1, h.2)
stands_state Closing (stands l e h) = simp (h.0, h.1)

pub stands_awaits : {role : Role} {history : List Note} {word : State} {n : ℕ} {a : Bool}
    → Stands role history (Is word n a) → awaits_flow_ok role history ≡ a
stands_awaits (stands l e h) = e

pub stands_lives : {role : Role} {history : List Note} {word : State} {n : ℕ} {a : Bool}
    → Stands role history (Is word n a) → lives role history ≡ n
stands_lives (stands l e h) = l

-- what an application asks moves the end
pub asks_stand : {role : Role} {before : Standing} {kind : Kind} {after : Standing} → Asking role before kind after
    → (history : List Note) (frame : Frame) → Stands role history before
    → Stands role (Put kind frame ∷ history) after
asks_stand opens history frame (stands l e h) = stands (ap suc l) refl (refl, h.1, refl)
asks_stand closes history frame (stands l e h) = stands l e (h.0, refl)
asks_stand flows history frame (stands l e h) = stands l refl h
asks_stand sends history frame (stands l e h) = stands l e h

-- a reply moves nothing
pub replies_stand : {role : Role} {kind : Kind} {word : State} {n : ℕ} {a : Bool} → IsReply kind word
    → (history : List Note) (frame : Frame) → Stands role history (Is word n a)
    → Stands role (Put kind frame ∷ history) (Is word n a)
replies_stand to_open history frame (stands l e h) = stands l e h
replies_stand {word = Free} to_close history frame (stands l e h) = stands l e h
replies_stand {word = Opening} to_close history frame (stands l e h) = stands l e h
replies_stand {word = State.Open} to_close history frame (stands l e h) = stands l e h
replies_stand {word = Closing} to_close history frame (stands l e h) = stands l e h
replies_stand to_flow history frame (stands l e h) = stands l e h

-- what an end takes moves it
pub takes_stand : {role : Role} {before : Standing} {kind : Kind} {owed : Option Kind} {after : Standing}
    → Taking role before kind owed after → (history : List Note) (frame : Frame) → Stands role history before
    → Stands role (Took kind frame ∷ history) after
takes_stand accepts history frame (stands l e h) = stands (simp h.1 (ap suc l)) (simp h.1) (simp h.1, h.1, refl)
takes_stand begins history frame (stands l e h) = stands l e (h.0, h.1, simp h.1)
takes_stand ends history frame (stands l e h) = stands l e (simp h.1, h.1)
takes_stand pauses history frame (stands l e h) = stands l e h
takes_stand hears history frame (stands l e h) = stands l (simp h.1) h
takes_stand acts history frame (stands l e h) = stands l e h
takes_stand crosses history frame (stands l e h) = stands l e (simp h.1 h.0, h.1)
takes_stand frees history frame (stands l e h) = stands l e (simp h.1, refl)
takes_stand (drops a_flow) history frame (stands l e h) = stands l e h
takes_stand (drops a_flow_ok) history frame (stands l e h) = stands l (simp h.1 e) h
takes_stand (drops an_other) history frame (stands l e h) = stands l e h

-- an end that has not put connection.close has all its notes counted
pub before_leaving_all : (history : List Note) → has_left history ≡ false → before_leaving history ≡ history
before_leaving_all [] e = refl
before_leaving_all (Leaving ∷ before) e = elim (true≢false e) [ ]
before_leaving_all (Put kind frame ∷ before) e = simp e
before_leaving_all (Took kind frame ∷ before) e = simp e

-- connection.close counts for no life
pub leaves_stand : {role : Role} (word : State) {n : ℕ} {a : Bool} (history : List Note)
    → Stands role history (Is word n a) → Stands role (Leaving ∷ history) (Is word n a)
leaves_stand Free history (stands l e h) = stands l e h
leaves_stand Opening history (stands l e h) = stands l e h
leaves_stand State.Open history (stands l e h) = stands l e h
leaves_stand Closing history (stands l e h) = stands l e h

-- the state that an end which has not left shows
pub here_state : {role : Role} (history : List Note) {word : State} {n : ℕ} {a : Bool} → has_left history ≡ false
    → Stands role history (Is word n a) → state role history ≡ word
here_state {role} history {word} here s = ap (state_by role) (before_leaving_all history here) ∙ stands_state word s

pub here_verdict : {role : Role} (history : List Note) {word : State} {n : ℕ} {a : Bool} (kind : Kind)
    → has_left history ≡ false → Stands role history (Is word n a)
    → verdict role history kind ≡ verdict_at role word a kind
here_verdict {role} history {word} kind here s = simp (here, here_state history here s, stands_awaits s)

pub left_verdict : (role : Role) (history : List Note) (kind : Kind) → has_left history ≡ true
    → verdict role history kind ≡ GoesOn Discarded None
left_verdict role history kind left = simp left

abbrev owed_by : Verdict → Option Kind
owed_by (GoesOn event owed) = owed
owed_by (Fault code) = None

-- the reply that an end owes is the one of the frame that it may take
pub here_owed : {role : Role} (history : List Note) {word : State} {n : ℕ} {a : Bool} {kind : Kind}
    {owed owed' : Option Kind} {event : ChannelEvent} {after : Standing} → has_left history ≡ false
    → Stands role history (Is word n a) → Taking role (Is word n a) kind owed after
    → verdict role history kind ≡ GoesOn event owed' → owed ≡ owed'
here_owed history here s taking e =
    ap owed_by (sym (taking_verdict taking).1 ∙ (sym (here_verdict history _ here s) ∙ e))

pub left_owed : (role : Role) (history : List Note) (kind : Kind) {owed : Option Kind} {event : ChannelEvent}
    → has_left history ≡ true → verdict role history kind ≡ GoesOn event owed → owed ≡ None
left_owed role history kind left e = ap owed_by (sym e ∙ left_verdict role history kind left)

-- what an application may ask is one of the acts
pub data Asked (role : Role) (before : Standing) (kind : Kind) : Type 0 where
  asked : {word : State} {n : ℕ} {a : Bool} → Asking role before kind (Is word n a) → Asked role before kind

pub may_asked : (role : Role) (word : State) (n : ℕ) (a paused : Bool) (kind : Kind)
    → may_ask role word a paused kind ≡ true → Asked role (Is word n a) kind
may_asked Client Free n a paused Open e = asked opens
may_asked Server Free n a paused Open e = absurd (false≢true e)
may_asked role State.Open n a paused Close e = asked closes
may_asked role State.Open n false paused (Flow active) e = asked flows
may_asked role State.Open n a paused (Other begins_content) e = asked sends
may_asked role word n a paused kind e = absurd (false≢true e)

pub may_put_parts : {role : Role} (history : List Note) {word : State} {n : ℕ} {a : Bool} (kind : Kind)
    → Stands role history (Is word n a) → may_put role history kind ≡ true → (has_left history ≡ false)
    × (may_ask role word a (is_paused role history) kind ≡ true)
may_put_parts {role} history kind s e =
    let parts = and_parts (not (has_left history)) _ e in
    let here = not-true (has_left history) parts.0 in
    (here, simp (here_state history here s, stands_awaits s) at parts.1)

-- the notes of an end that does as its standing allows
pub data Lawful (role : Role) : List Note → Standing → Type 0 where
  begun : Lawful role [] (Is Free 0 false)
  has_asked : {history : List Note} {before : Standing} {kind : Kind} {after : Standing} (frame : Frame)
      → has_left history ≡ false → Lawful role history before → Asking role before kind after
      → Lawful role (Put kind frame ∷ history) after
  has_replied : {history : List Note} {kind : Kind} {word : State} {n : ℕ} {a : Bool} (frame : Frame)
      → Lawful role history (Is word n a) → IsReply kind word
      → Lawful role (Put kind frame ∷ history) (Is word n a)
  has_taken : {history : List Note} {before : Standing} {kind : Kind} {owed : Option Kind} {after : Standing}
      (frame : Frame) → Lawful role history before → Taking role before kind owed after
      → Lawful role (Took kind frame ∷ history) after
  has_left_now : {history : List Note} {word : State} {n : ℕ} {a : Bool} → Lawful role history (Is word n a)
      → Lawful role (Leaving ∷ history) (Is word n a)

pub lawful_stands : {role : Role} {history : List Note} {standing : Standing} → Lawful role history standing
    → Stands role history standing
lawful_stands begun = stands refl refl (refl, refl)
lawful_stands (has_asked frame here lawful asking) = asks_stand asking _ frame (lawful_stands lawful)
lawful_stands (has_replied frame lawful is_reply) = replies_stand is_reply _ frame (lawful_stands lawful)
lawful_stands (has_taken frame lawful taking) = takes_stand taking _ frame (lawful_stands lawful)
lawful_stands (has_left_now {word = word} lawful) = leaves_stand word _ (lawful_stands lawful)

pub lawful_lives : {role : Role} {history : List Note} {word : State} {n : ℕ} {a : Bool}
    → Lawful role history (Is word n a) → lives role history ≡ n
lawful_lives lawful = stands_lives (lawful_stands lawful)

-- a paused end begins no content
pub may_content : (role : Role) (word : State) (a paused : Bool) (kind : Kind)
    → may_ask role word a paused kind ≡ true → is_content kind ≡ true → paused ≡ false
may_content role State.Open a false (Other begins_content) may content = refl
may_content role State.Open a true (Other true) may content = absurd (false≢true may)
may_content role word a paused (Other false) may content = absurd (false≢true content)
may_content role Free a paused (Other begins_content) may content = absurd (false≢true may)
may_content role Opening a paused (Other begins_content) may content = absurd (false≢true may)
may_content role Closing a paused (Other begins_content) may content = absurd (false≢true may)
may_content role word a paused kind may content = absurd (false≢true content)
