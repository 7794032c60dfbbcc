-- What one end acts on in a life: a prefix of what it takes in that life, and all of it while the life goes on.
use Rattle.std.proofs.Common.{◌≡◌, ℕ, suc, ◌<◌, List, [], ◌∷◌, ◌++◌, ◌⊎◌, inl, inr, Bool}
use Rattle.std.proofs.Common.{true, false, cond, refl, sym, ap, ◌∙◌, subst, append-nil, arith}
use Rattle.std.proofs.lemmas.Bool.{ne_eqb, cases_eq, false≢true, true≢false}
use Rattle.amqp_model.specs.Wire.Frame.{Frame}
use Rattle.amqp_model.specs.Wire.Notes.{Role, Kind, Open, OpenOk, Close, CloseOk, Note, Put, Took, Leaving, is_message}
use Rattle.amqp_model.specs.History.States.{State, Opening, Closing}
use Rattle.amqp_model.specs.History.Lives.{lives, has_left}
use Rattle.amqp_model.specs.Pair.Carried.{At, takes, state_is_open, acts_next, acted_takes, messages, acted}
use Rattle.amqp_model.specs.Output.Prefixes.{IsPrefixOf}
use Rattle.amqp_model.proofs.Lists.{prefix_none, prefix_more, messages-append, messages_other, messages_elsewhere}
use Rattle.amqp_model.proofs.Ends.{Is, Lawful, begun, has_asked, has_replied, has_taken, has_left_now, lawful_stands}
use Rattle.amqp_model.proofs.Ends.{lawful_lives, here_state, opens, closes, flows, sends, accepts, begins, ends, pauses}
use Rattle.amqp_model.proofs.Ends.{hears, acts, crosses, frees, drops, a_flow, a_flow_ok, an_other}

-- a state in which all that is taken in the life so far was acted on
abbrev pub is_live : State → Bool
is_live Opening = true
is_live State.Open = true
is_live _ = false

-- of a life m, with the end in life n: what it acted on and what it took
pub record Heard (role : Role) (history : List Note) (word : State) (n : ℕ) (m : ℕ) : Type 0 where
  pub prefix : IsPrefixOf (acted role m history) (messages m (takes role history))
  pub later : n < m → messages m (takes role history) ≡ []
  pub all : has_left history ≡ false → is_live word ≡ true → m ≡ n
      → acted role m history ≡ messages m (takes role history)

-- whether the end acts on what comes next
pub acts_here : {role : Role} {history : List Note} {word : State} {n : ℕ} {a : Bool}
    → Lawful role history (Is word n a) → has_left history ≡ false → acts_next role history ≡ state_is_open word
acts_here {history = history} lawful here = simp (here, here_state history here (lawful_stands lawful))

pub acts_left : (role : Role) (history : List Note) → has_left history ≡ true → acts_next role history ≡ false
acts_left role history left = simp left

-- one more note taken that is no message changes neither list
takes_other : (role : Role) (history : List Note) (kind : Kind) (frame : Frame) (m : ℕ) → is_message kind ≡ false
    → messages m (takes role (Took kind frame ∷ history)) ≡ messages m (takes role history)
takes_other role history kind frame m e = messages_other m (takes role history) kind _ frame e

pub acted_other : (role : Role) (history : List Note) (kind : Kind) (frame : Frame) (m : ℕ)
    → is_message kind ≡ false → acted role m (Took kind frame ∷ history) ≡ acted role m history
acted_other role history kind frame m e = go (acts_next role history)
  where
    n : ℕ
    n = lives role (Took kind frame ∷ history)

    go : (b : Bool)
        → messages m (cond b (acted_takes role history ++ At kind n frame ∷ []) (acted_takes role history))
        ≡ acted role m history
    go true = messages_other m (acted_takes role history) kind n frame e
    go false = refl

-- one more note taken while the end acts on nothing
pub acted_dropped : (role : Role) (history : List Note) (kind : Kind) (frame : Frame) (m : ℕ)
    → acts_next role history ≡ false → acted role m (Took kind frame ∷ history) ≡ acted role m history
acted_dropped role history kind frame m e = simp e

-- one more note taken while the end acts on it
pub acted_here : (role : Role) (history : List Note) (kind : Kind) (frame : Frame) (m : ℕ)
    → acts_next role history ≡ true → acted role m (Took kind frame ∷ history)
    ≡ messages m (acted_takes role history ++ At kind (lives role (Took kind frame ∷ history)) frame ∷ [])
acted_here role history kind frame m e = simp e

-- how a note that is no message, or that is put, moves the end: it stays in its life, or goes to the next
data Moves (word : State) (n : ℕ) (word' : State) : ℕ → Type 0 where
  stays : (is_live word' ≡ true → is_live word ≡ true) → Moves word n word' n
  goes_on : Moves word n word' (suc n)

heard_same : {role : Role} {history : List Note} {word : State} {n : ℕ} {m : ℕ} (history' : List Note)
    (word' : State) (n' : ℕ) → Moves word n word' n'
    → (has_left history' ≡ false → has_left history ≡ false) → acted role m history' ≡ acted role m history
    → messages m (takes role history') ≡ messages m (takes role history) → Heard role history word n m
    → Heard role history' word' n' m
heard_same {role} {history} {word} {n} {m} history' word' n' moves here same_acted same_takes heard =
    record {
      prefix = (
        heard.prefix.0,
        same_takes
            ∙ (heard.prefix.1 ∙ ap (λ l. l ++ heard.prefix.0) (sym same_acted)),
      );
      later = later moves;
      all = all moves;
    }
  where
    later : {n' : ℕ} → Moves word n word' n' → n' < m → messages m (takes role history') ≡ []
    later (stays _) lt = same_takes ∙ heard.later lt
    later goes_on lt = same_takes ∙ heard.later (omega arith)

    all : {n' : ℕ} → Moves word n word' n' → has_left history' ≡ false → is_live word' ≡ true → m ≡ n'
        → acted role m history' ≡ messages m (takes role history')
    all (stays live) h l e = same_acted ∙ (heard.all (here h) (live l) e ∙ sym same_takes)
    all goes_on h l e =
        let none = heard.later (omega arith) in
        let acted_none = prefix_none (acted role m history) (heard.prefix.0, sym none ∙ heard.prefix.1) in
        same_acted ∙ (acted_none ∙ (sym none ∙ sym same_takes))

-- a note taken that is no message
heard_other : {role : Role} {history : List Note} {word : State} {n : ℕ} {m : ℕ} (kind : Kind) (frame : Frame)
    (word' : State) (n' : ℕ) → is_message kind ≡ false → Moves word n word' n' → Heard role history word n m
    → Heard role (Took kind frame ∷ history) word' n' m
heard_other {role} {history} {m = m} kind frame word' n' e moves heard =
    heard_same (Took kind frame ∷ history) word' n' moves (λ h. h) (acted_other role history kind frame m e)
    (takes_other role history kind frame m e) heard

-- a message taken in another life
takes_elsewhere : (role : Role) (history : List Note) (kind : Kind) (frame : Frame) (n m : ℕ)
    → lives role (Took kind frame ∷ history) ≡ n → (n ≡ m → ⊥)
    → messages m (takes role (Took kind frame ∷ history)) ≡ messages m (takes role history)
takes_elsewhere role history kind frame n m l apart =
    messages_elsewhere m (takes role history) kind _ frame (ne_eqb _ m (λ e. apart (sym l ∙ e)))

takes_more : (role : Role) (history : List Note) (kind : Kind) (frame : Frame) (m : ℕ)
    → messages m (takes role (Took kind frame ∷ history)) ≡ messages m (takes role history)
    ++ messages m (At kind (lives role (Took kind frame ∷ history)) frame ∷ [])
takes_more role history kind frame m = messages-append m (takes role history) _

-- a message taken and not acted on
heard_dropped : {role : Role} {history : List Note} {word : State} {n : ℕ} {m : ℕ} (kind : Kind) (frame : Frame)
    → acts_next role history ≡ false → lives role (Took kind frame ∷ history) ≡ n
    → (has_left history ≡ false → is_live word ≡ true → ⊥) → Heard role history word n m
    → Heard role (Took kind frame ∷ history) word n m
heard_dropped {role} {history} {word} {n} {m} kind frame idle l dead heard =
    record {
      prefix = subst (λ xs. IsPrefixOf xs (messages m (takes role (Took kind frame ∷ history))))
          (sym (acted_dropped role history kind frame m idle)) (subst (λ ys. IsPrefixOf (acted role m history) ys)
          (sym (takes_more role history kind frame m)) (prefix_more _ _ _ heard.prefix));
      later = λ lt. takes_elsewhere role history kind frame n m l (λ e. omega arith) ∙ heard.later lt;
      all = λ h live _. absurd (dead h live);
    }

-- a message taken and acted on
heard_acted : {role : Role} {history : List Note} {n : ℕ} {m : ℕ} (kind : Kind) (frame : Frame)
    → has_left history ≡ false → acts_next role history ≡ true → lives role (Took kind frame ∷ history)
    ≡ n → Heard role history State.Open n m → Heard role (Took kind frame ∷ history) State.Open n m
heard_acted {role} {history} {n} {m} kind frame here busy l heard = go (cases_eq n m)
  where
    more : List Frame
    more = messages m (At kind (lives role (Took kind frame ∷ history)) frame ∷ [])

    same : n ≡ m → acted role m (Took kind frame ∷ history)
        ≡ messages m (takes role (Took kind frame ∷ history))
    same e =
        acted_here role history kind frame m busy
        ∙ (messages-append m (acted_takes role history) _
        ∙ (ap (λ xs. xs ++ messages m (At kind (lives role (Took kind frame ∷ history)) frame ∷ []))
        (heard.all here refl (sym e)) ∙ sym (takes_more role history kind frame m)))

    go : (n ≡ m) ⊎ (n ≡ m → ⊥) → Heard role (Took kind frame ∷ history) State.Open n m
    go (inl e) =
        record {
          prefix = ([], sym (same e) ∙ sym (append-nil _));
          later = λ lt. absurd (omega arith);
          all = λ _ _ _. same e;
        }
    go (inr apart) =
        heard_same (Took kind frame ∷ history) State.Open n (stays (λ h. h)) (λ h. h)
        (acted_here role history kind frame m busy ∙ messages_elsewhere m (acted_takes role history) kind _ frame
        (ne_eqb _ m (λ e. apart (sym l ∙ e)))) (takes_elsewhere role history kind frame n m l apart) heard

-- a message taken while the channel is Open: acted on, unless the end has left
heard_open : {role : Role} {history : List Note} {n : ℕ} {a : Bool} {m : ℕ} (kind : Kind) (frame : Frame)
    → Lawful role history (Is State.Open n a) → lives role (Took kind frame ∷ history) ≡ n
    → Heard role history State.Open n m → Heard role (Took kind frame ∷ history) State.Open n m
heard_open {role} {history} {n} {m = m} kind frame lawful l heard = go (has_left history) refl
  where
    go : (b : Bool) → has_left history ≡ b → Heard role (Took kind frame ∷ history) State.Open n m
    go true left =
        heard_dropped kind frame (acts_left role history left) l (λ here _. true≢false (sym left ∙ here)) heard
    go false here = heard_acted kind frame here (acts_here lawful here) l heard

-- a message taken while the end waits: dropped
heard_closing : {role : Role} {history : List Note} {n : ℕ} {a : Bool} {m : ℕ} (kind : Kind) (frame : Frame)
    → Lawful role history (Is Closing n a) → lives role (Took kind frame ∷ history) ≡ n
    → Heard role history Closing n m → Heard role (Took kind frame ∷ history) Closing n m
heard_closing {role} {history} {n} {m = m} kind frame lawful l heard =
    heard_dropped kind frame (go (has_left history) refl) l (λ _ live. false≢true live) heard
  where
    go : (b : Bool) → has_left history ≡ b → acts_next role history ≡ false
    go true left = acts_left role history left
    go false here = acts_here lawful here

pub lawful_heard : {role : Role} {history : List Note} {word : State} {n : ℕ} {a : Bool} (m : ℕ)
    → Lawful role history (Is word n a) → Heard role history word n m
lawful_heard m begun = record { prefix = ([], refl); later = λ _. refl; all = λ _ _ _. refl }
lawful_heard m (has_asked {history = h} {kind = k} frame here lawful opens) =
    heard_same (Put k frame ∷ h) _ _ goes_on (λ h. h) refl refl (lawful_heard m lawful)
lawful_heard m (has_asked {history = h} {kind = k} frame here lawful closes) =
    heard_same (Put k frame ∷ h) _ _ (stays (λ live. absurd (false≢true live)))
    (λ h. h) refl refl (lawful_heard m lawful)
lawful_heard m (has_asked {history = h} {kind = k} frame here lawful flows) =
    heard_same (Put k frame ∷ h) _ _ (stays (λ h. h)) (λ h. h) refl refl (lawful_heard m lawful)
lawful_heard m (has_asked {history = h} {kind = k} frame here lawful sends) =
    heard_same (Put k frame ∷ h) _ _ (stays (λ h. h)) (λ h. h) refl refl (lawful_heard m lawful)
lawful_heard m (has_replied {history = h} {kind = k} frame lawful is_reply) =
    heard_same (Put k frame ∷ h) _ _ (stays (λ h. h)) (λ h. h) refl refl (lawful_heard m lawful)
lawful_heard m (has_left_now {history = h} lawful) =
    heard_same (Leaving ∷ h) _ _ (stays (λ h. h)) (λ h. absurd (true≢false h)) refl refl (lawful_heard m lawful)
lawful_heard m (has_taken frame lawful accepts) = heard_other Open frame _ _ refl goes_on (lawful_heard m lawful)
lawful_heard m (has_taken frame lawful begins) =
    heard_other OpenOk frame _ _ refl (stays (λ h. refl)) (lawful_heard m lawful)
lawful_heard m (has_taken frame lawful ends) =
    heard_other Close frame _ _ refl (stays (λ live. refl)) (lawful_heard m lawful)
lawful_heard m (has_taken frame lawful pauses) = heard_open _ frame lawful (lawful_lives lawful) (lawful_heard m lawful)
lawful_heard m (has_taken frame lawful hears) = heard_open _ frame lawful (lawful_lives lawful) (lawful_heard m lawful)
lawful_heard m (has_taken frame lawful acts) = heard_open _ frame lawful (lawful_lives lawful) (lawful_heard m lawful)
lawful_heard m (has_taken frame lawful crosses) =
    heard_other Close frame _ _ refl (stays (λ h. h)) (lawful_heard m lawful)
lawful_heard m (has_taken frame lawful frees) =
    heard_other CloseOk frame _ _ refl (stays (λ h. h)) (lawful_heard m lawful)
lawful_heard m (has_taken frame lawful (drops a_flow)) =
    heard_closing _ frame lawful (lawful_lives lawful) (lawful_heard m lawful)
lawful_heard m (has_taken frame lawful (drops a_flow_ok)) =
    heard_closing _ frame lawful (lawful_lives lawful) (lawful_heard m lawful)
lawful_heard m (has_taken frame lawful (drops an_other)) =
    heard_closing _ frame lawful (lawful_lives lawful) (lawful_heard m lawful)
