-- What one end puts in a life after it has put close in it: nothing that the other would act on.
use Rattle.std.proofs.Common.{◌≡◌, ℕ, suc, ◌<◌, List, [], ◌∷◌, ◌++◌, Option, ◌⊎◌, inl, inr}
use Rattle.std.proofs.Common.{Bool, false, refl, ap, ◌∙◌, subst, arith}
use Rattle.std.proofs.lemmas.Bool.{ne_eqb}
use Rattle.amqp_model.specs.Wire.Frame.{Frame}
use Rattle.amqp_model.specs.Wire.Notes.{Role, Kind, Open, OpenOk, Close, CloseOk, Flow, FlowOk, Other, Note, Put}
use Rattle.amqp_model.specs.Wire.Notes.{is_message}
use Rattle.amqp_model.specs.History.States.{State, Free, Opening, Closing}
use Rattle.amqp_model.specs.History.Lives.{lives}
use Rattle.amqp_model.specs.Pair.Carried.{NoteInLife, At, puts, messages}
use Rattle.amqp_model.proofs.Lists.{snoc_cases, messages_other, messages_elsewhere}
use Rattle.amqp_model.proofs.Ends.{Is, Lawful, begun, has_asked, has_replied, has_taken, has_left_now, lawful_lives}
use Rattle.amqp_model.proofs.Ends.{to_open, to_close, to_flow, opens, closes, flows, sends, Taking, accepts, begins}
use Rattle.amqp_model.proofs.Ends.{ends, pauses, hears, acts, crosses, frees, drops}

-- the end sends no more in life m
pub data IsPast (m : ℕ) : State → ℕ → Type 0 where
  beyond : {word : State} {n : ℕ} → m < n → IsPast m word n
  closing : {n : ℕ} → m ≡ n → IsPast m Closing n
  freed : {n : ℕ} → m ≡ n → IsPast m Free n

pub past_opens : {n m : ℕ} → IsPast m Free n → IsPast m Opening (suc n)
past_opens (beyond lt) = beyond (omega arith)
past_opens (freed e) = beyond (omega arith)

pub past_closes : {n m : ℕ} → IsPast m State.Open n → IsPast m Closing n
past_closes (beyond lt) = beyond lt

pub past_taken : {role : Role} {word word' : State} {n n' : ℕ} {a a' : Bool} {kind : Kind} {owed : Option Kind}
    {m : ℕ} → Taking role (Is word n a) kind owed (Is word' n' a') → IsPast m word n → IsPast m word' n'
past_taken accepts (beyond lt) = beyond (omega arith)
past_taken accepts (freed e) = beyond (omega arith)
past_taken begins (beyond lt) = beyond lt
past_taken ends (beyond lt) = beyond lt
past_taken pauses (beyond lt) = beyond lt
past_taken hears (beyond lt) = beyond lt
past_taken acts (beyond lt) = beyond lt
past_taken crosses past = past
past_taken frees (beyond lt) = beyond lt
past_taken frees (closing e) = freed e
past_taken (drops is_message) past = past

-- what stands after a close in the notes put holds no message of its life
pub record Ended (word : State) (n m : ℕ) (after : List NoteInLife) : Type 0 where
  pub past : IsPast m word n
  pub silent : messages m after ≡ []

-- one more note put
more_ended : {role : Role} {history : List Note} {word word' : State} {n n' m : ℕ} {a : Bool}
    {after : List NoteInLife} (prefix : List NoteInLife) (close_frame : Frame) (kind : Kind) (frame : Frame)
    → Lawful role (Put kind frame ∷ history) (Is word' n' a) → (kind ≡ Close → IsPast n' word' n')
    → (IsPast m word n → IsPast m word' n') → (IsPast m word n → (is_message kind ≡ false) ⊎ (m < n'))
    → ((after' : List NoteInLife) → puts role history ≡ prefix ++ At Close m close_frame ∷ after'
    → Ended word n m after') → puts role (Put kind frame ∷ history) ≡ prefix ++ At Close m close_frame ∷ after
    → Ended word' n' m after
more_ended {role} {history} {word} {word'} {n} {n'} {m} {after = after} prefix close_frame kind frame lawful here moves
    quiet before e =
    go (snoc_cases prefix (At Close m close_frame) after (puts role history)
    (At kind (lives role (Put kind frame ∷ history)) frame) e)
  where
    life : lives role (Put kind frame ∷ history) ≡ n'
    life = lawful_lives lawful

    extended : (after' : List NoteInLife) → messages m after' ≡ [] → (is_message kind ≡ false) ⊎ (m < n')
        → messages m (after' ++ At kind (lives role (Put kind frame ∷ history)) frame ∷ []) ≡ []
    extended after' none (inl other) = messages_other m after' kind _ frame other ∙ none
    extended after' none (inr lt) =
        messages_elsewhere m after' kind _ frame (ne_eqb _ m (λ same. omega (arith, life))) ∙ none

    go : ((after ≡ []) × (At kind (lives role (Put kind frame ∷ history)) frame ≡ At Close m close_frame)
        × (puts role history ≡ prefix))
        ⊎ ((after' : List NoteInLife)
        × (after ≡ after' ++ At kind (lives role (Put kind frame ∷ history)) frame ∷ [])
        × (puts role history ≡ prefix ++ At Close m close_frame ∷ after')) → Ended word' n' m after
    go (inl h) =
        let same_kind : kind ≡ Close = let k = h.1 in cc in
        let same_life : n' ≡ m = let k = h.1 in cc life in
        record { past = subst (λ m. IsPast m word' n') same_life (here same_kind); silent = ap (messages m) h.0 }
    go (inr h) =
        let ended = before h.0 h.2 in
        record {
          past = moves ended.past;
          silent = ap (messages m) h.1
              ∙ extended h.0 ended.silent (quiet ended.past);
        }

same_ended : {word word' : State} {n n' m : ℕ} {after : List NoteInLife} → (IsPast m word n → IsPast m word' n')
    → Ended word n m after → Ended word' n' m after
same_ended moves ended = record { past = moves ended.past; silent = ended.silent }

pub open_beyond : {m n : ℕ} → IsPast m State.Open n → m < n
open_beyond (beyond lt) = lt

pub lawful_ended : {role : Role} {history : List Note} {word : State} {n : ℕ} {a : Bool} (m : ℕ)
    (prefix after : List NoteInLife) (frame : Frame) → Lawful role history (Is word n a)
    → puts role history ≡ prefix ++ At Close m frame ∷ after → Ended word n m after
lawful_ended m [] after f begun e = absurd cc
lawful_ended m (x ∷ prefix) after f begun e = absurd cc
lawful_ended m prefix after f (has_asked frame here lawful opens) e =
    more_ended prefix f Open frame (has_asked frame here lawful opens) (λ k. absurd cc) past_opens (λ past. inl refl)
    (λ b. lawful_ended m prefix b f lawful) e
lawful_ended m prefix after f (has_asked frame here lawful closes) e =
    more_ended prefix f Close frame (has_asked frame here lawful closes) (λ k. closing refl) past_closes
    (λ past. inl refl) (λ b. lawful_ended m prefix b f lawful) e
lawful_ended m prefix after f (has_asked frame here lawful flows) e =
    more_ended prefix f (Flow _) frame (has_asked frame here lawful flows) (λ k. absurd cc) (λ past. past)
    (λ past. inr (open_beyond past)) (λ b. lawful_ended m prefix b f lawful) e
lawful_ended m prefix after f (has_asked frame here lawful sends) e =
    more_ended prefix f (Other _) frame (has_asked frame here lawful sends) (λ k. absurd cc) (λ past. past)
    (λ past. inr (open_beyond past)) (λ b. lawful_ended m prefix b f lawful) e
lawful_ended m prefix after f (has_replied frame lawful to_open) e =
    more_ended prefix f OpenOk frame (has_replied frame lawful to_open) (λ k. absurd cc) (λ past. past)
    (λ past. inl refl) (λ b. lawful_ended m prefix b f lawful) e
lawful_ended m prefix after f (has_replied frame lawful to_close) e =
    more_ended prefix f CloseOk frame (has_replied frame lawful to_close) (λ k. absurd cc) (λ past. past)
    (λ past. inl refl) (λ b. lawful_ended m prefix b f lawful) e
lawful_ended m prefix after f (has_replied frame lawful to_flow) e =
    more_ended prefix f (FlowOk _) frame (has_replied frame lawful to_flow) (λ k. absurd cc) (λ past. past)
    (λ past. inr (open_beyond past)) (λ b. lawful_ended m prefix b f lawful) e
lawful_ended m prefix after f (has_left_now lawful) e = lawful_ended m prefix after f lawful e
lawful_ended m prefix after f (has_taken {before = Is word n a} frame lawful taking) e =
    same_ended (past_taken taking) (lawful_ended m prefix after f lawful e)
