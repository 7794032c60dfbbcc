-- After the payloads that an end acted on in a life, the next one fits.
use Rattle.std.proofs.Common.{◌≡◌, ◌<◌, inr, Bool, true, false, cond, not, ◌&&◌, ℕ, suc, ◌==◌}
use Rattle.std.proofs.Common.{arith, List, [], ◌∷◌, ◌++◌, map, reverse, refl, sym, ap, ◌∙◌, subst}
use Rattle.std.proofs.lemmas.Bool.{true≢false, false≢true, and_from, eq-eqb, cond-true}
use Rattle.std.proofs.lemmas.List.{map-append, reverse-append}
use Rattle.amqp_method.specs.declared.kinds.Kind.TheVariants as kinds
use Rattle.amqp_model.specs.Wire.Frame.{Frame}
use Rattle.amqp_model.specs.Wire.Notes.{Role, Client, Server, Kind, Open, OpenOk, Note, Put, Took, Leaving, is_message}
use Rattle.amqp_model.specs.History.States.{State, Free, Opening, Closing}
use Rattle.amqp_model.specs.History.Lives.{lives, has_left}
use Rattle.amqp_model.specs.Pair.Carried.{takes, messages, acted}
use Rattle.amqp_model.specs.Wire.Methods.{MethodKind, Method, carries_content, begins_content, sort_by, bit_at}
use Rattle.amqp_model.specs.Wire.Contents.{Payload}
use Rattle.amqp_model.specs.Wire.Gathering.{Gathering, Nothing, HeaderDue, BodyDue, step, remains, gathering}
use Rattle.amqp_model.specs.Wire.Readings.{Reading, Calls, UnknownMethod, MalformedMethod, HeaderOf, MalformedHeader}
use Rattle.amqp_model.specs.Wire.Readings.{BodyOf, Beat, reading, kind_of, kind_of_method, payload_of}
use Rattle.amqp_model.specs.History.Histories.{Put as PutEntry, Took as TookEntry, History, ChannelEntry, PutHere}
use Rattle.amqp_model.specs.History.Histories.{TookHere, LeftHere, closes_connection, entries_on, notes, payloads_taken}
use Rattle.amqp_model.specs.History.Histories.{under_way}
use Rattle.amqp_model.specs.Laws.EndLaws.{notes_on}
use Rattle.amqp_model.specs.Pair.Sent.{payload_in}
use Rattle.amqp_model.specs.History.Lives.{state, state_by, is_paused, awaits_flow_ok}
use Rattle.amqp_model.specs.Wire.Notes.{other_end}
use Rattle.amqp_model.specs.Pair.Carried.{sent, message_frames}
use Rattle.amqp_model.specs.Pair.Runs.{RunAt, IsNext}
use Rattle.amqp_model.specs.End.Channels.{Life}
use Rattle.amqp_model.specs.End.Channels as channels
use Rattle.amqp_model.specs.End.StateFromHistory.{life_from, channel_in, channel_from}
use Rattle.amqp_model.specs.History.Histories.{entries_before_leaving}
use Rattle.amqp_model.specs.End.Asks.{when, is_running, NotRunning}
use Rattle.amqp_model.specs.Pair.Pairs.{PairOf, config_of}
use Rattle.amqp_model.specs.Laws.CarryingLaws.{as_carried}
use Rattle.amqp_model.specs.Pair.WholeMessages.{FitsNext, AreWholeMessages, FitsWhatIsKept}
use Rattle.amqp_model.proofs.Following.{all-before}
use Rattle.amqp_model.proofs.Asking.{open-reads, running-stays}
use Rattle.amqp_model.proofs.Runs.{Linked, linked, run_at_linked}
use Rattle.amqp_model.proofs.Laws.{sent_so_far}
use Rattle.amqp_model.proofs.Carrying.{next-noted}
use Rattle.amqp_model.proofs.Pairing.{pair-lawful}
use Rattle.amqp_model.proofs.Sent.{pair-runs_at}
use Rattle.amqp_model.proofs.WholeMessages.{puts-whole-messages, each-fits-next}
use Rattle.amqp_model.proofs.Lists.{messages-append, messages_other}
use Rattle.amqp_model.proofs.Ends.{Is, Lawful, lawful_stands, here_state, begun as nothing, has_asked, has_replied}
use Rattle.amqp_model.proofs.Ends.{has_taken, has_left_now, lawful_lives, to_open, to_close, to_flow, opens, closes}
use Rattle.amqp_model.proofs.Ends.{flows, sends, accepts, begins, ends, pauses, hears, acts, crosses, frees, drops}
use Rattle.amqp_model.proofs.Acted.{is_live, lawful_heard}

-- the payloads that notes took, the newest first
abbrev payloads_of : List Note → List Payload
payloads_of [] = []
payloads_of (Took kind frame ∷ before) = payload_in frame ∷ payloads_of before
payloads_of (Put kind frame ∷ before) = payloads_of before
payloads_of (Leaving ∷ before) = payloads_of before

-- each note says what its frame is to the channel
abbrev AllRead : List Note → Type 0
AllRead [] = Unit {0}
AllRead (Took kind frame ∷ before) = (kind ≡ kind_of (reading frame)) × AllRead before
AllRead (Put kind frame ∷ before) = AllRead before
AllRead (Leaving ∷ before) = AllRead before

-- after a method without content nothing is under way
begun-nothing : (kept : Gathering) (method : Method) → carries_content method ≡ false
    → remains (step kept (Payload.Calls method)) (Payload.Calls method) ≡ Nothing
begun-nothing Nothing method e = simp e
begun-nothing (HeaderDue other) method e = simp e
begun-nothing (BodyDue other size properties body) method e = simp e

abbrev opens_channel : Kind → Bool
opens_channel Open = true
opens_channel OpenOk = true
opens_channel kind = false

kind-plain : (kind : MethodKind) (active : Bool) → opens_channel (kind_of_method kind active) ≡ true
    → begins_content (sort_by kind active) ≡ false
kind-plain kinds.ChannelOpen active e = refl
kind-plain kinds.ChannelOpenOk active e = refl
kind-plain kind active e = absurd (false≢true e)

-- open and open-ok leave nothing under way
opened-afresh : (kept : Gathering) (r : Reading) → opens_channel (kind_of r) ≡ true
    → remains (step kept (payload_of r)) (payload_of r) ≡ Nothing
opened-afresh kept (Calls method) e = begun-nothing kept method (kind-plain method.kind (bit_at 0 method) e)
opened-afresh kept UnknownMethod e = absurd (false≢true e)
opened-afresh kept MalformedMethod e = absurd (false≢true e)
opened-afresh kept (HeaderOf size properties) e = absurd (false≢true e)
opened-afresh kept MalformedHeader e = absurd (false≢true e)
opened-afresh kept (BodyOf octets) e = absurd (false≢true e)
opened-afresh kept (Beat empty) e = absurd (false≢true e)

-- what the frames acted on in the life leave under way
abbrev gathered_in : Role → (life : ℕ) → List Note → Gathering
gathered_in role life history = gathering (reverse (map payload_in (messages life (takes role history))))

-- while the channel is Open that is under way; while it is Opening nothing of the life was taken
abbrev Keeps : Role → List Note → State → ℕ → Type 0
Keeps role history State.Open n = gathering (payloads_of history) ≡ gathered_in role n history
Keeps role history Opening n = messages n (takes role history) ≡ []
Keeps role history Free n = Unit {0}
Keeps role history Closing n = Unit {0}

-- nothing of a later life was taken
later-none : {role : Role} {history : List Note} {word : State} {n : ℕ} {a : Bool}
    → Lawful role history (Is word n a) → (m : ℕ) → n < m → messages m (takes role history) ≡ []
later-none lawful m h = (lawful_heard m lawful).later h

-- a message that an Open channel takes
message-keeps : (role : Role) (history : List Note) (kind : Kind) (frame : Frame) (n : ℕ) → is_message kind ≡ true
    → lives role (Took kind frame ∷ history) ≡ n → Keeps role history State.Open n
    → Keeps role (Took kind frame ∷ history) State.Open n
message-keeps role history kind frame n m l keeps =
    ap (λ kept. remains (step kept (payload_in frame)) (payload_in frame)) keeps
    ∙ sym (ap gathering (ap (λ l. reverse (map payload_in l)) more
    ∙ (ap reverse (map-append payload_in (messages n (takes role history)) (frame ∷ []))
    ∙ reverse-append (map payload_in (messages n (takes role history))) (payload_in frame ∷ []))))
  where
    here : (is_message kind && (lives role (Took kind frame ∷ history) == n)) ≡ true
    here = and_from (is_message kind) _ m (eq-eqb _ n l)

    more : messages n (takes role (Took kind frame ∷ history)) ≡ messages n (takes role history) ++ frame ∷ []
    more =
        messages-append n (takes role history) _
        ∙ ap (λ b. messages n (takes role history) ++ cond b (frame ∷ []) []) here

-- one end, note by note
kept : {role : Role} {history : List Note} {word : State} {n : ℕ} {a : Bool} → Lawful role history (Is word n a)
    → AllRead history → has_left history ≡ false → Keeps role history word n
kept nothing all here = tt
kept {n = n} (has_asked {before = Is old m b} frame h lawful opens) all here = later-none lawful n (omega arith)
kept (has_asked frame h lawful closes) all here = tt
kept (has_asked frame h lawful flows) all here = kept lawful all here
kept (has_asked frame h lawful sends) all here = kept lawful all here
kept {word = Free} (has_replied frame lawful to_close) all here = tt
kept {word = Opening} (has_replied frame lawful to_close) all here = kept lawful all here
kept {word = State.Open} (has_replied frame lawful to_close) all here = kept lawful all here
kept {word = Closing} (has_replied frame lawful to_close) all here = tt
kept (has_replied frame lawful to_open) all here = kept lawful all here
kept (has_replied frame lawful to_flow) all here = kept lawful all here
kept {role} {n = n} (has_taken {history = h} frame lawful accepts) all here =
    opened-afresh (gathering (payloads_of h)) (reading frame) (ap opens_channel (sym all.0))
    ∙ sym (ap (λ l. gathering (reverse (map payload_in l))) (messages_other n (takes role h) Open _ frame refl
    ∙ later-none lawful n (omega arith)))
kept {role} {n = n} (has_taken {history = h} frame lawful begins) all here =
    opened-afresh (gathering (payloads_of h)) (reading frame) (ap opens_channel (sym all.0))
    ∙ sym (ap (λ l. gathering (reverse (map payload_in l))) (messages_other n (takes role h) OpenOk _ frame refl
    ∙ kept lawful all.1 here))
kept (has_taken frame lawful ends) all here = tt
kept {role} {n = n} (has_taken {history = h} {kind = k} frame lawful pauses) all here =
    message-keeps role h k frame n refl (lawful_lives lawful) (kept lawful all.1 here)
kept {role} {n = n} (has_taken {history = h} {kind = k} frame lawful hears) all here =
    message-keeps role h k frame n refl (lawful_lives lawful) (kept lawful all.1 here)
kept {role} {n = n} (has_taken {history = h} {kind = k} frame lawful acts) all here =
    message-keeps role h k frame n refl (lawful_lives lawful) (kept lawful all.1 here)
kept (has_taken frame lawful crosses) all here = tt
kept (has_taken frame lawful frees) all here = tt
kept (has_taken frame lawful (drops message)) all here = tt
kept (has_left_now lawful) all here = absurd (true≢false here)

-- The notes of a history say what their frames are.
notes-read : (channel : ℕ) (history : History) → AllRead (notes_on channel history)
notes-read channel [] = tt
notes-read channel (TookEntry frame ∷ history) = cases (frame.channel == channel) (notes-read channel history)
  where
    cases : (b : Bool) → AllRead (notes_on channel history)
        → AllRead (notes (cond b (TookHere (reading frame) frame ∷ []) [] ++ entries_on channel history))
    cases true all = (refl, all)
    cases false all = all
notes-read channel (PutEntry frame ∷ history) =
    cases (frame.channel == channel) (closes_connection frame) (notes-read channel history)
  where
    cases : (b c : Bool) → AllRead (notes_on channel history)
        → AllRead (notes (cond b (PutHere (reading frame) frame ∷ []) (cond c (LeftHere ∷ []) [])
        ++ entries_on channel history))
    cases true c all = all
    cases false true all = all
    cases false false all = all

payloads-same : (channel : ℕ) (history : History) → payloads_taken (entries_on channel history)
    ≡ payloads_of (notes_on channel history)
payloads-same channel [] = refl
payloads-same channel (TookEntry frame ∷ history) = cases (frame.channel == channel) (payloads-same channel history)
  where
    cases : (b : Bool) → payloads_taken (entries_on channel history) ≡ payloads_of (notes_on channel history)
        → payloads_taken (cond b (TookHere (reading frame) frame ∷ []) [] ++ entries_on channel history)
        ≡ payloads_of (notes (cond b (TookHere (reading frame) frame ∷ []) [] ++ entries_on channel history))
    cases true e = ap (λ l. payload_in frame ∷ l) e
    cases false e = e
payloads-same channel (PutEntry frame ∷ history) =
    cases (frame.channel == channel) (closes_connection frame) (payloads-same channel history)
  where
    cases : (b c : Bool) → payloads_taken (entries_on channel history) ≡ payloads_of (notes_on channel history)
        → payloads_taken (cond b (PutHere (reading frame) frame ∷ []) (cond c (LeftHere ∷ []) [])
        ++ entries_on channel history)
        ≡ payloads_of
        (notes (cond b (PutHere (reading frame) frame ∷ []) (cond c (LeftHere ∷ []) [])
        ++ entries_on channel history))
    cases true c e = e
    cases false true e = e
    cases false false e = e

-- An Open channel keeps what its entries leave under way.
content-reads : (role : Role) (entries : List ChannelEntry) (life : Life) → has_left (notes entries) ≡ false
    → channel_from role entries ≡ channels.Open life → under_way entries ≡ life.content
content-reads role entries life stays e =
    ap under_way (sym (all-before entries stays))
    ∙ ap (λ l. l.content) (by-word (state_by role (notes (entries_before_leaving entries)))
    (life_from role (entries_before_leaving entries)) e)
  where
    by-word : (word : State) (old : Life) → channel_in word old ≡ channels.Open life → old ≡ life
    by-word State.Open old e = cc
    by-word Free old e = absurd cc
    by-word Opening old e = absurd cc
    by-word Closing old e = absurd cc

pub fits-what-is-kept : FitsWhatIsKept
fits-what-is-kept role client_config server_config mine theirs n frame at runs comes here message life open_is =
    go (run_at_linked role _ _ run)
  where
    run : RunAt role (notes_on (suc n) mine) (notes_on (suc n) theirs)
    run = pair-runs_at role client_config server_config mine theirs n at

    stays : has_left (notes_on (suc n) mine) ≡ false
    stays =
        running-stays role (config_of role client_config server_config) mine n
        (ap (λ phase. when (not (is_running phase)) NotRunning) runs)

    read : (state role (notes_on (suc n) mine) ≡ State.Open)
        × (is_paused role (notes_on (suc n) mine) ≡ life.paused)
        × (awaits_flow_ok role (notes_on (suc n) mine) ≡ life.awaits)
    read = open-reads role (entries_on (suc n) mine) life stays open_is

    next : IsNext (notes_on (suc n) theirs) (notes_on (suc n) mine) (as_carried frame)
    next = next-noted theirs mine frame n comes here

    way : sent (other_end role) (lives role (notes_on (suc n) mine)) (notes_on (suc n) theirs)
        ≡ acted role (lives role (notes_on (suc n) mine)) (notes_on (suc n) mine) ++ frame ∷ message_frames next.0
    way =
        sent_so_far role _ _ run (as_carried frame ∷ next.0) (record { stays = stays; state_is = inr read.0 }) next.1
        ∙ ap (λ l. acted role (lives role (notes_on (suc n) mine)) (notes_on (suc n) mine) ++ l)
        (cond-true (is_message (kind_of (reading frame))) _ _ message)

    theirs-whole : AreWholeMessages
        (map payload_in (sent (other_end role) (lives role (notes_on (suc n) mine)) (notes_on (suc n) theirs)))
    theirs-whole = by-role role at.pair
      where
        by-role : (role : Role) → PairOf role client_config server_config mine theirs
            → AreWholeMessages
            (map payload_in (sent (other_end role) (lives role (notes_on (suc n) mine)) (notes_on (suc n) theirs)))
        by-role Client pair =
            puts-whole-messages Server server_config false theirs n (lives Client (notes_on (suc n) mine))
            at.server_writes (pair-lawful client_config server_config mine theirs pair).1
        by-role Server pair =
            puts-whole-messages Client client_config false theirs n (lives Server (notes_on (suc n) mine))
            at.client_writes (pair-lawful client_config server_config theirs mine pair).0

    fits : FitsNext
        (step (gathering
        (reverse (map payload_in (acted role (lives role (notes_on (suc n) mine)) (notes_on (suc n) mine)))))
        (payload_in frame))
    fits =
        each-fits-next (map payload_in (acted role (lives role (notes_on (suc n) mine)) (notes_on (suc n) mine)))
        (payload_in frame) (map payload_in (message_frames next.0))
        (subst AreWholeMessages (ap (map payload_in) way
        ∙ map-append payload_in _ (frame ∷ message_frames next.0)) theirs-whole)

    go : Linked role (notes_on (suc n) mine) (notes_on (suc n) theirs)
        → FitsNext (step life.content (payload_in frame))
    go (linked {word = word} {n = m} q r owed owed' s s' e e' w w' joint) =
        let word_is : word ≡ State.Open = sym (here_state (notes_on (suc n) mine) stays (lawful_stands s))
        ∙ read.0 in
        let all = subst (λ word. Keeps role (notes_on (suc n) mine) word m) word_is
        (kept s (notes-read (suc n) mine) stays) in
        let heard = (lawful_heard m s).all stays (ap is_live word_is) refl in
        let same : gathering (reverse (map payload_in (acted role m (notes_on (suc n) mine)))) ≡ life.content =
        ap (λ l. gathering (reverse (map payload_in l))) heard
        ∙ (sym all ∙ (ap gathering (sym (payloads-same (suc n) mine))
        ∙ content-reads role (entries_on (suc n) mine) life stays open_is)) in
        subst (λ k. FitsNext (step k (payload_in frame))) same
        (subst (λ l. FitsNext (step (gathering (reverse (map payload_in (acted role l (notes_on (suc n) mine)))))
        (payload_in frame))) (lawful_lives s) fits)
