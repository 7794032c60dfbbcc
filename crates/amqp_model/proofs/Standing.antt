-- What an end keeps is what its history counts to, where it stands for that history.
use Rattle.std.proofs.Common.{◌≡◌, Bool, true, false, cond, ◌||◌, ℕ, zero, suc, ◌==◌, nat_lt, List, []}
use Rattle.std.proofs.Common.{◌∷◌, None, refl, sym, ap, ◌∙◌}
use Rattle.amqp_model.specs.Wire.Notes.{Role}
use Rattle.amqp_model.specs.Wire.Frame.{Frame}
use Rattle.amqp_model.specs.Wire.Readings.{reading}
use Rattle.amqp_model.specs.History.Histories.{History, ChannelEntry, PutHere, TookHere, LeftHere, notes}
use Rattle.amqp_model.specs.History.Histories.{entries_before_leaving}
use Rattle.amqp_model.specs.History.States.{State}
use Rattle.amqp_model.specs.History.Lives.{has_left, before_leaving, state_by, state}
use Rattle.amqp_model.specs.End.Channels.{Channel, Free, Opening, Closing, Open, Life, Phase, Failed, End, state_of}
use Rattle.amqp_model.specs.History.Negotiation.{Config}
use Rattle.amqp_model.specs.End.StateFromHistory.{life_from, channel_in, channel_by, channel_from, channel_at, end_from}
use Rattle.amqp_model.specs.End.Events.{Faults, AlreadyFailed}
use Rattle.amqp_model.specs.End.FrameVerdict.{verdict_on}
use Rattle.amqp_model.specs.End.Answers.{state_in, channel_state, octets_gathered, reply_due}
use Rattle.amqp_model.specs.End.Asks.{channel_max, Ask, NotRunning, Refused, ask_verdict}
use Rattle.amqp_model.specs.End.EndVerdict.{end_verdict}
use Rattle.amqp_model.specs.End.Machine.{Counts, CountsOpen, StandsFor}
use Rattle.amqp_model.specs.Laws.EndLaws.{VerdictOfHistory, AskOfHistory, AnswersOfHistory}

life-counts : (role : Role) (life : Life) (entries : List ChannelEntry) → CountsOpen role life entries
    → life_from role entries ≡ life
life-counts role life entries c =
    λ i. record { content = c.content i; paused = c.paused i; awaits = c.awaits i; requests = c.requests i }

pub counted : (role : Role) (channel : Channel) (entries : List ChannelEntry) → Counts role channel entries
    → channel_by role entries ≡ channel
counted role Free entries c = simp (c.0, c.1)
counted role Opening entries c = simp (c.alive, c.stays, c.unopened)
counted role Closing entries c = simp (c.0, c.1)
counted role (Open life) entries c = simp (c.alive, c.stays, c.opened) (ap Open (life-counts role life entries c))

pub channel-stands : (role : Role) (config : Config role) (end : End) (history : History)
    → StandsFor role config false end history → (n : ℕ) → channel_at role history n ≡ end.channels n
channel-stands role config end history stands zero = sym stands.no_channel
channel-stands role config end history stands (suc n) = counted role (end.channels (suc n)) _ (stands.channels refl n)

pub end-stands : (role : Role) (config : Config role) (end : End) (history : History)
    → StandsFor role config false end history → end_from role config false history ≡ end
end-stands role config end history stands =
    λ i. record {
      phase = stands.phase i;
      agreed = stands.agreed i;
      channels = λ n. channel-stands role config end history stands n i;
    }

-- an end that has failed says so of every frame, and refuses every ask
failed-verdict : (role : Role) (config : Config role) (end : End) (frame : Frame) → end.phase ≡ Failed
    → end_verdict config end frame ≡ Faults AlreadyFailed
failed-verdict role config end frame e =
    ap (λ phase. verdict_on (record {
      config = config;
      phase = phase;
      agreed = end.agreed;
      number = frame.channel;
      channel = end.channels frame.channel;
    }) (reading frame)) e

failed-ask : (role : Role) (end : End) (ask : Ask) → end.phase ≡ Failed
    → ask_verdict role end ask ≡ Refused NotRunning
failed-ask role end ask e = simp e

pub verdict-stands : (role : Role) (config : Config role) (failed : Bool) (end : End) (history : History)
    (frame : Frame) → VerdictOfHistory role config failed end history frame
verdict-stands role config false end history frame stands =
    ap (λ end. end_verdict config end frame) (sym (end-stands role config end history stands))
verdict-stands role config true end history frame stands =
    failed-verdict role config end frame (sym stands.phase)
    ∙ sym (failed-verdict role config (end_from role config true history) frame refl)

pub ask-stands : (role : Role) (config : Config role) (failed : Bool) (end : End) (history : History) (ask : Ask)
    → AskOfHistory role config failed end history ask
ask-stands role config false end history ask stands =
    ap (λ end. ask_verdict role end ask) (sym (end-stands role config end history stands))
ask-stands role config true end history ask stands =
    failed-ask role end ask (sym stands.phase) ∙ sym (failed-ask role (end_from role config true history) ask refl)

-- so it does of its channels
failed-state : (limit : ℕ) (number : ℕ) (phase : Phase) (channel : Channel) → phase ≡ Failed
    → cond ((number == 0) || nat_lt limit number) State.Free (state_in phase channel) ≡ State.Free
failed-state limit number phase channel e =
    ap (λ phase. cond ((number == 0) || nat_lt limit number) State.Free (state_in phase channel)) e
    ∙ always ((number == 0) || nat_lt limit number)
  where
    always : (b : Bool) → cond b State.Free State.Free ≡ State.Free
    always true = refl
    always false = refl

failed-answers : (end : End) (number : ℕ) → end.phase ≡ Failed → (channel_state end number ≡ State.Free)
    × (octets_gathered end number ≡ 0) × (reply_due end number ≡ None)
failed-answers end number e =
    (failed-state (channel_max end.agreed) number end.phase (end.channels number) e, simp e, simp e)

pub answers-stand : (role : Role) (config : Config role) (failed : Bool) (end : End) (history : History) (number : ℕ)
    → AnswersOfHistory role config failed end history number
answers-stand role config false end history number stands =
    let same = sym (end-stands role config end history stands) in
    record {
      state = ap (λ end. channel_state end number) same;
      octets = ap (λ end. octets_gathered end number) same;
      request = ap (λ end. reply_due end number) same;
    }
answers-stand role config true end history number stands =
    let mine = failed-answers end number (sym stands.phase) in
    let theirs = failed-answers (end_from role config true history) number refl in
    record { state = mine.0 ∙ sym theirs.0; octets = mine.1 ∙ sym theirs.1; request = mine.2 ∙ sym theirs.2 }

-- the state of a record is the one that the notes count to
word-in : (word : State) (life : Life) → state_of (channel_in word life) ≡ word
word-in State.Free life = refl
word-in State.Opening life = refl
word-in State.Closing life = refl
word-in State.Open life = refl

-- the notes of the entries before connection.close are the notes before it
pub notes-before : (entries : List ChannelEntry) → notes (entries_before_leaving entries)
    ≡ before_leaving (notes entries)
notes-before [] = refl
notes-before (LeftHere ∷ before) = notes-before before
notes-before (PutHere r frame ∷ before) = cases (has_left (notes before)) (notes-before before)
  where
    cases : (b : Bool) → notes (entries_before_leaving before) ≡ before_leaving (notes before)
        → notes (cond b (entries_before_leaving before) (PutHere r frame ∷ before))
        ≡ cond b (before_leaving (notes before)) (notes (PutHere r frame ∷ before))
    cases true e = e
    cases false e = refl
notes-before (TookHere r frame ∷ before) = cases (has_left (notes before)) (notes-before before)
  where
    cases : (b : Bool) → notes (entries_before_leaving before) ≡ before_leaving (notes before)
        → notes (cond b (entries_before_leaving before) (TookHere r frame ∷ before))
        ≡ cond b (before_leaving (notes before)) (notes (TookHere r frame ∷ before))
    cases true e = e
    cases false e = refl

pub state-reads : (role : Role) (entries : List ChannelEntry) → state_of (channel_from role entries)
    ≡ state role (notes entries)
state-reads role entries =
    word-in (state_by role (notes (entries_before_leaving entries))) (life_from role (entries_before_leaving entries))
    ∙ ap (state_by role) (notes-before entries)
