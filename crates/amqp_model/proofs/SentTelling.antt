-- What an end tells and says, channel by channel and life by life.
use Rattle.std.proofs.Common.{◌≡◌, Bool, true, false, cond, ◌&&◌, ◌==◌, ◌⊎◌, inl, inr, ℕ, zero}
use Rattle.std.proofs.Common.{suc, List, [], ◌∷◌, ◌++◌, map, filter, reverse, Option, Some, None, refl, sym}
use Rattle.std.proofs.Common.{ap, ◌∙◌, subst, append-nil, arith}
use Rattle.std.specs.Option.{option_to_list}
use Rattle.std.proofs.lemmas.Bool.{true≢false, false≢true, eqb-true, eq-eqb, ne_eqb, cases_eq, and_from, and_left}
use Rattle.std.proofs.lemmas.Bool.{and_right}
use Rattle.std.proofs.lemmas.List.{map-append}
use Rattle.std.proofs.lemmas.List.Elements.{filter-append}
use Rattle.amqp_method.specs.declared.kinds.Kind.TheVariants as kinds
use Rattle.amqp_model.specs.Wire.Frame.{Frame}
use Rattle.amqp_model.specs.Wire.Notes.{Role, Note, is_message}
use Rattle.amqp_model.specs.History.Lives.{lives}
use Rattle.amqp_model.specs.Pair.Carried.{NoteInLife, At, puts, acts_next, acted_takes, messages, sent, acted}
use Rattle.amqp_model.specs.Wire.Methods.{MethodKind, Method, sort_by, bit_at}
use Rattle.amqp_model.specs.Wire.Gathering.{Gathering, gathering}
use Rattle.amqp_model.specs.Wire.Items.{Item, item_of, item_ended, items}
use Rattle.amqp_model.specs.Wire.Readings.{Reading, Calls, reading, kind_of_method, kind_of, payload_of}
use Rattle.amqp_model.specs.History.Histories.{Put, Took, History, PutHere, TookHere, LeftHere, closes_connection}
use Rattle.amqp_model.specs.History.Histories.{notes, entries_on}
use Rattle.amqp_model.specs.Laws.EndLaws.{notes_on}
use Rattle.amqp_model.specs.Pair.Sent.{payload_in, items_in, items_sent, items_acted, life_on, Telling, ended_by}
use Rattle.amqp_model.specs.Pair.Sent.{goes_on_with, told_at, said_at, told, said, items_of}
use Rattle.amqp_model.specs.History.Negotiation.{Config}
use Rattle.amqp_model.specs.End.StateFromHistory.{end_from}
use Rattle.amqp_model.specs.End.EndVerdict.{end_puts}
use Rattle.amqp_model.specs.End.LawfulHistories.{then_put, Goes, greets, takes, faults, meets_too_large, fails, asks}
use Rattle.amqp_model.specs.End.LawfulHistories.{controls, Lawful, begun, goes}
use Rattle.amqp_model.specs.Laws.SentLaws.{TellsWhatIsActedOn, FaultTellsNothing, SaysWhatIsSent, NothingOfChannel0}
use Rattle.amqp_model.proofs.Lists.{messages-append, messages_elsewhere}
use Rattle.amqp_model.proofs.ItemLemmas.{items-more}

-- a method that opens or closes a channel is no item
method-quiet : (method : Method) (kind : MethodKind) (active : Bool) → is_message (kind_of_method kind active)
    ≡ false → item_of method (sort_by kind active) ≡ None
method-quiet method kinds.ChannelOpen active e = refl
method-quiet method kinds.ChannelOpenOk active e = refl
method-quiet method kinds.ChannelClose active e = refl
method-quiet method kinds.ChannelCloseOk active e = refl
method-quiet method kind active e = absurd (true≢false e)

pub no-item : (kept : Gathering) (r : Reading) → is_message (kind_of r) ≡ false
    → item_ended kept (payload_of r) ≡ None
no-item kept (Calls method) e = method-quiet method method.kind (bit_at 0 method) e
no-item kept r e = absurd (true≢false e)

-- what is told of a channel and life of two lists of tellings
of-append : (channel life : ℕ) (xs ys : List Telling)
    → items_of channel life (xs ++ ys) ≡ items_of channel life xs ++ items_of channel life ys
of-append channel life xs ys =
    ap (map (λ telling. telling.item))
    (filter-append (λ telling. (telling.channel == channel) && (telling.life == life)) xs ys)
    ∙ map-append (λ telling. telling.item)
    (filter (λ telling. (telling.channel == channel) && (telling.life == life)) xs) _

-- tellings of another channel or another life
of-other : (channel life at_channel at_life : ℕ) (earlier : List Frame) (frame : Frame)
    → ((at_channel == channel) && (at_life == life)) ≡ false
    → items_of channel life (ended_by at_channel at_life earlier frame) ≡ []
of-other channel life at_channel at_life earlier frame e =
    cases (item_ended (gathering (reverse (map payload_in earlier))) (payload_in frame))
  where
    cases : (o : Option Item)
        → items_of channel life (map (λ item. record { channel = at_channel; life = at_life; item = item })
        (option_to_list o)) ≡ []
    cases None = refl
    cases (Some item) = simp e

-- those of this channel and this life
of-this : (channel life : ℕ) (earlier : List Frame) (frame : Frame) → ((channel == channel) && (life == life))
    ≡ true → items_of channel life (ended_by channel life earlier frame)
    ≡ option_to_list (item_ended (gathering (reverse (map payload_in earlier))) (payload_in frame))
of-this channel life earlier frame e =
    cases (item_ended (gathering (reverse (map payload_in earlier))) (payload_in frame))
  where
    cases : (o : Option Item)
        → items_of channel life (map (λ item. record { channel = channel; life = life; item = item })
        (option_to_list o)) ≡ option_to_list o
    cases None = refl
    cases (Some item) = simp e

and_true : (x y : Bool) → y ≡ true → (x && y) ≡ x
and_true true y e = e
and_true false y e = refl

-- one more frame, put or taken with its life: the items of a life grow by what it ends
grows : (channel life at_life : ℕ) (entries : List NoteInLife) (frame : Frame)
    → items_in (messages life (entries ++ At (kind_of (reading frame)) at_life frame ∷ []))
    ≡ items_in (messages life entries) ++ items_of channel life
    (ended_by channel at_life (messages at_life entries) frame)
grows channel life at_life entries frame = cases (cases_eq at_life life)
  where
    earlier : List Frame
    earlier = messages life entries

    last : List Item
    last = option_to_list (item_ended (gathering (reverse (map payload_in earlier))) (payload_in frame))

    now : (b : Bool) → is_message (kind_of (reading frame)) ≡ b → items_in (earlier ++ cond b (frame ∷ []) [])
        ≡ items_in earlier ++ last
    now true e =
        ap items (map-append payload_in earlier (frame ∷ []))
        ∙ items-more (map payload_in earlier) (payload_in frame)
    now false e =
        ap items_in (append-nil earlier)
        ∙ (sym (append-nil (items_in earlier))
        ∙ ap (λ o. items_in earlier ++ option_to_list o)
        (sym (no-item (gathering (reverse (map payload_in earlier))) (reading frame) e)))

    same_life : (life == life) ≡ true
    same_life = eq-eqb life life refl

    its_life : messages life (entries ++ At (kind_of (reading frame)) life frame ∷ [])
        ≡ earlier ++ cond (is_message (kind_of (reading frame))) (frame ∷ []) []
    its_life =
        messages-append life entries _
        ∙ ap (λ b. earlier ++ cond b (frame ∷ []) []) (and_true (is_message (kind_of (reading frame))) _ same_life)

    here : items_in (messages life (entries ++ At (kind_of (reading frame)) life frame ∷ [])) ≡ items_in earlier
        ++ items_of channel life (ended_by channel life earlier frame)
    here =
        ap items_in its_life ∙ (now (is_message (kind_of (reading frame))) refl
        ∙ ap (λ l. items_in earlier ++ l)
        (sym (of-this channel life earlier frame (and_from _ _ (eq-eqb channel channel refl) same_life))))

    cases : (at_life ≡ life) ⊎ (at_life ≡ life → ⊥)
        → items_in (messages life (entries ++ At (kind_of (reading frame)) at_life frame ∷ [])) ≡ items_in earlier
        ++ items_of channel life (ended_by channel at_life (messages at_life entries) frame)
    cases (inl e) =
        subst (λ l. items_in (messages life (entries ++ At (kind_of (reading frame)) l frame ∷ []))
        ≡ items_in earlier ++ items_of channel life (ended_by channel l (messages l entries) frame)) (sym e) here
    cases (inr apart) =
        let e = ne_eqb at_life life apart in
        ap items_in (messages_elsewhere life entries (kind_of (reading frame)) at_life frame e)
        ∙ (sym (append-nil (items_in earlier))
        ∙ ap (λ l. items_in earlier ++ l)
        (sym (of-other channel life channel at_life (messages at_life entries) frame
        (and_right (channel == channel) _ e))))

-- what a frame of another channel tells or says is of that channel
told-elsewhere : (role : Role) (channel life at_channel : ℕ) (frame : Frame) (before : History)
    → (at_channel == channel) ≡ false → items_of channel life (told_at role at_channel frame before) ≡ []
told-elsewhere role channel life zero frame before e = refl
told-elsewhere role channel life (suc m) frame before e = cases (acts_next role (notes_on (suc m) before))
  where
    at_life : ℕ
    at_life = life_on role (suc m) (Took frame ∷ before)

    cases : (b : Bool)
        → items_of channel life
        (cond b (ended_by (suc m) at_life (acted role at_life (notes_on (suc m) before)) frame) []) ≡ []
    cases true =
        of-other channel life (suc m) at_life (acted role at_life (notes_on (suc m) before)) frame
        (and_left (suc m == channel) _ e)
    cases false = refl

said-elsewhere : (role : Role) (channel life at_channel : ℕ) (frame : Frame) (before : History)
    → (at_channel == channel) ≡ false → items_of channel life (said_at role at_channel frame before) ≡ []
said-elsewhere role channel life zero frame before e = refl
said-elsewhere role channel life (suc m) frame before e =
    of-other channel life (suc m) at_life (sent role at_life (notes_on (suc m) before)) frame
    (and_left (suc m == channel) _ e)
  where
    at_life : ℕ
    at_life = life_on role (suc m) (Put frame ∷ before)

-- one more frame taken
told-more : (role : Role) (n life : ℕ) (frame : Frame) (before : History)
    → items_acted role (suc n) life before ++ items_of (suc n) life (told_at role frame.channel frame before)
    ≡ items_acted role (suc n) life (Took frame ∷ before)
told-more role n life frame before = cases (frame.channel == suc n) refl
  where
    older : List Note
    older = notes_on (suc n) before

    newer : Bool → List Note
    newer b = notes (cond b (TookHere (reading frame) frame ∷ []) [] ++ entries_on (suc n) before)

    acts : (b : Bool)
        → items_in (acted role life older) ++ items_of (suc n) life
        (cond b (ended_by (suc n) (lives role (newer true)) (acted role (lives role (newer true)) older) frame) [])
        ≡ items_in
        (messages life (cond b (acted_takes role older ++ At (kind_of (reading frame)) (lives role (newer true)) frame
        ∷ []) (acted_takes role older)))
    acts true = sym (grows (suc n) life (lives role (newer true)) (acted_takes role older) frame)
    acts false = append-nil _

    here : (b : Bool) → b ≡ true
        → items_in (acted role life older) ++ items_of (suc n) life
        (cond (acts_next role older) (ended_by (suc n) (lives role (newer b)) (acted role (lives role (newer b)) older)
        frame) []) ≡ items_in (acted role life (newer b))
    here true e = acts (acts_next role older)
    here false e = absurd (false≢true e)

    cases : (b : Bool) → (frame.channel == suc n) ≡ b
        → items_acted role (suc n) life before ++ items_of (suc n) life (told_at role frame.channel frame before)
        ≡ items_acted role (suc n) life (Took frame ∷ before)
    cases true e =
        subst (λ c. items_acted role (suc n) life before ++ items_of (suc n) life (told_at role c frame before)
        ≡ items_acted role (suc n) life (Took frame ∷ before)) (sym (eqb-true frame.channel (suc n) e))
        (here (frame.channel == suc n) e)
    cases false e =
        ap (λ l. items_in (acted role life older) ++ l) (told-elsewhere role (suc n) life frame.channel frame before e)
        ∙ (append-nil _ ∙ ap (λ b. items_in (acted role life (newer b))) (sym e))

-- one more frame put
said-more : (role : Role) (n life : ℕ) (frame : Frame) (before : History)
    → items_sent role (suc n) life before ++ items_of (suc n) life (said_at role frame.channel frame before)
    ≡ items_sent role (suc n) life (Put frame ∷ before)
said-more role n life frame before = cases (frame.channel == suc n) refl
  where
    older : List Note
    older = notes_on (suc n) before

    newer : Bool → List Note
    newer b =
        notes (cond b (PutHere (reading frame) frame ∷ []) (cond (closes_connection frame) (LeftHere ∷ []) [])
        ++ entries_on (suc n) before)

    here : (b : Bool) → b ≡ true
        → items_in (sent role life older) ++ items_of (suc n) life
        (ended_by (suc n) (lives role (newer b)) (sent role (lives role (newer b)) older) frame)
        ≡ items_in (sent role life (newer b))
    here true e = sym (grows (suc n) life (lives role (newer true)) (puts role older) frame)
    here false e = absurd (false≢true e)

    elsewhere : (b c : Bool) → b ≡ false
        → items_in (sent role life older)
        ≡ items_in
        (sent role life
        (notes (cond b (PutHere (reading frame) frame ∷ []) (cond c (LeftHere ∷ []) [])
        ++ entries_on (suc n) before)))
    elsewhere true c e = absurd (true≢false e)
    elsewhere false true e = refl
    elsewhere false false e = refl

    cases : (b : Bool) → (frame.channel == suc n) ≡ b
        → items_sent role (suc n) life before ++ items_of (suc n) life (said_at role frame.channel frame before)
        ≡ items_sent role (suc n) life (Put frame ∷ before)
    cases true e =
        subst (λ c. items_sent role (suc n) life before ++ items_of (suc n) life (said_at role c frame before)
        ≡ items_sent role (suc n) life (Put frame ∷ before)) (sym (eqb-true frame.channel (suc n) e))
        (here (frame.channel == suc n) e)
    cases false e =
        ap (λ l. items_in (sent role life older) ++ l) (said-elsewhere role (suc n) life frame.channel frame before e)
        ∙ (append-nil _ ∙ elsewhere (frame.channel == suc n) (closes_connection frame) e)

-- a frame put is not acted on, and one taken is not sent
acted-beside : (role : Role) (n life : ℕ) (frame : Frame) (before : History) → items_acted role (suc n) life before
    ≡ items_acted role (suc n) life (Put frame ∷ before)
acted-beside role n life frame before = cases (frame.channel == suc n) (closes_connection frame)
  where
    cases : (b c : Bool) → items_acted role (suc n) life before
        ≡ items_in
        (acted role life
        (notes (cond b (PutHere (reading frame) frame ∷ []) (cond c (LeftHere ∷ []) [])
        ++ entries_on (suc n) before)))
    cases true c = refl
    cases false true = refl
    cases false false = refl

sent-beside : (role : Role) (n life : ℕ) (frame : Frame) (before : History) → items_sent role (suc n) life before
    ≡ items_sent role (suc n) life (Took frame ∷ before)
sent-beside role n life frame before = cases (frame.channel == suc n)
  where
    cases : (b : Bool) → items_sent role (suc n) life before
        ≡ items_in
        (sent role life (notes (cond b (TookHere (reading frame) frame ∷ []) [] ++ entries_on (suc n) before)))
    cases true = refl
    cases false = refl

-- all the items that the frames taken end, whatever the end found of them
abbrev all_told : Role → History → List Telling
all_told role [] = []
all_told role (Took frame ∷ before) = all_told role before ++ told_at role frame.channel frame before
all_told role (Put frame ∷ before) = all_told role before

tells-all : (role : Role) (n : ℕ) (history : History) (life : ℕ) → items_of (suc n) life (all_told role history)
    ≡ items_acted role (suc n) life history
tells-all role n [] life = refl
tells-all role n (Put frame ∷ before) life = tells-all role n before life ∙ acted-beside role n life frame before
tells-all role n (Took frame ∷ before) life =
    of-append (suc n) life (all_told role before) (told_at role frame.channel frame before)
    ∙ (ap (λ l. l ++ items_of (suc n) life (told_at role frame.channel frame before)) (tells-all role n before life)
    ∙ told-more role n life frame before)

-- what is put tells nothing
pub told-put : (role : Role) (config : Config role) (frames : List Frame) (history : History)
    → told role config (then_put frames history) ≡ told role config history
told-put role config [] history = refl
told-put role config (f ∷ later) history = told-put role config later (Put f ∷ history)

all-told-put : (role : Role) (frames : List Frame) (history : History)
    → all_told role (then_put frames history) ≡ all_told role history
all-told-put role [] history = refl
all-told-put role (f ∷ later) history = all-told-put role later (Put f ∷ history)

-- while the end has not failed, it went on with each frame that it took
goes-tell : (role : Role) (config : Config role) (before : History) (taken : Option Frame) (failed : Bool)
    (after : History) → failed ≡ false → Goes role config before taken failed after
    → told role config before ≡ all_told role before → told role config after ≡ all_told role after
goes-tell role config before taken failed after e greets same = refl
goes-tell role config before taken failed after e (takes frame p g) same =
    told-put role config (end_puts config (end_from role config false before) frame) (Took frame ∷ before)
    ∙ (ap (λ b. told role config before ++ cond b (told_at role frame.channel frame before) []) g
    ∙ (ap (λ l. l ++ told_at role frame.channel frame before) same
    ∙ sym (all-told-put role (end_puts config (end_from role config false before) frame) (Took frame ∷ before))))
goes-tell role config before taken failed after e (asks ask frames made read v) same =
    told-put role config frames before ∙ (same ∙ sym (all-told-put role frames before))
goes-tell role config before taken failed after e (controls control frames read v) same =
    told-put role config frames before ∙ (same ∙ sym (all-told-put role frames before))
goes-tell role config before taken failed after e (faults frame p g) same = absurd (true≢false e)
goes-tell role config before taken failed after e (meets_too_large p) same = absurd (true≢false e)
goes-tell role config before taken failed after e (fails p) same = absurd (true≢false e)

lawful-tells : (role : Role) (config : Config role) (failed : Bool) (history : History) → failed ≡ false
    → Lawful role config failed history → told role config history ≡ all_told role history
lawful-tells role config failed history e begun = refl
lawful-tells role config failed history e (goes {before = before} {taken = taken} lawful step) =
    goes-tell role config before taken failed history e step (lawful-tells role config false before refl lawful)

pub tells-what-is-acted-on : (role : Role) (config : Config role) (n : ℕ) (history : History)
    → TellsWhatIsActedOn role config (suc n) history
tells-what-is-acted-on role config n history lawful life =
    ap (items_of (suc n) life) (lawful-tells role config false history refl lawful) ∙ tells-all role n history life

pub fault-tells-nothing : FaultTellsNothing
fault-tells-nothing role config history frame g =
    told-put role config (end_puts config (end_from role config false history) frame) (Took frame ∷ history)
    ∙ (ap (λ b. told role config history ++ cond b (told_at role frame.channel frame history) []) g
    ∙ append-nil (told role config history))

pub says-what-is-sent : (role : Role) (n : ℕ) (history : History) → SaysWhatIsSent role (suc n) history
says-what-is-sent role n [] life = refl
says-what-is-sent role n (Took frame ∷ before) life =
    says-what-is-sent role n before life ∙ sent-beside role n life frame before
says-what-is-sent role n (Put frame ∷ before) life =
    of-append (suc n) life (said role before) (said_at role frame.channel frame before)
    ∙ (ap (λ l. l ++ items_of (suc n) life (said_at role frame.channel frame before))
    (says-what-is-sent role n before life) ∙ said-more role n life frame before)

-- the tellings of a frame are never of channel 0
suc-apart : (m : ℕ) → (suc m == 0) ≡ false
suc-apart m = ne_eqb (suc m) 0 (λ e. let h : suc m ≡ 0 = e in absurd (omega arith))

told-above-0 : (role : Role) (life channel : ℕ) (frame : Frame) (before : History)
    → items_of 0 life (told_at role channel frame before) ≡ []
told-above-0 role life zero frame before = refl
told-above-0 role life (suc m) frame before = told-elsewhere role 0 life (suc m) frame before (suc-apart m)

said-above-0 : (role : Role) (life channel : ℕ) (frame : Frame) (before : History)
    → items_of 0 life (said_at role channel frame before) ≡ []
said-above-0 role life zero frame before = refl
said-above-0 role life (suc m) frame before = said-elsewhere role 0 life (suc m) frame before (suc-apart m)

told-or-not : (role : Role) (life channel : ℕ) (frame : Frame) (before : History) (b : Bool)
    → items_of 0 life (cond b (told_at role channel frame before) []) ≡ []
told-or-not role life channel frame before true = told-above-0 role life channel frame before
told-or-not role life channel frame before false = refl

pub nothing-of-channel-0 : (role : Role) (config : Config role) (history : History)
    → NothingOfChannel0 role config history
nothing-of-channel-0 role config [] life = (refl, refl)
nothing-of-channel-0 role config (Took frame ∷ before) life =
    let older = nothing-of-channel-0 role config before life in (
      of-append 0 life (told role config before)
          (cond (goes_on_with role config frame before) (told_at role frame.channel frame before) [])
          ∙ (ap (λ l.
          l ++ items_of 0 life
          (cond (goes_on_with role config frame before) (told_at role frame.channel frame before) []))
          older.0 ∙ told-or-not role life frame.channel frame before (goes_on_with role config frame before)),
      older.1,
    )
nothing-of-channel-0 role config (Put frame ∷ before) life =
    let older = nothing-of-channel-0 role config before life in (
      older.0,
      of-append 0 life (said role before) (said_at role frame.channel frame before)
          ∙ (ap (λ l. l ++ items_of 0 life (said_at role frame.channel frame before)) older.1
          ∙ said-above-0 role life frame.channel frame before),
    )
