-- A piece that goes on: the lists are those of the history that follows.
use Rattle.std.proofs.Common.{◌≡◌, cond, Bool, true, false, ℕ, zero, suc, List, [], ◌∷◌, ◌++◌, length, map, Option, Some, None, refl, ap, sym, ◌∙◌, subst, arith}
use Rattle.std.proofs.lemmas.List.{length-append}
use Rattle.amqp_model.specs.End.Closes as closes
use Rattle.amqp_model.specs.End.Closes.{AllReadBack, frame_of}
use Rattle.amqp_model.specs.Wire.Frame.{Frame}
use Rattle.amqp_model.specs.History.Histories.{Took, History}
use Rattle.amqp_model.specs.Wire.Items.{Item}
use Rattle.amqp_model.specs.End.LawfulHistories.{then_put}
use Rattle.amqp_model.specs.Wire.Methods.{Method}
use Rattle.amqp_model.specs.History.Negotiation.{Config}
use Rattle.amqp_model.specs.Wire.Notes.{Role, Client, Server}
use Rattle.amqp_model.specs.Pair.Sent.{Telling, life_on, told, said, told_at, goes_on_with}
use Rattle.amqp_model.specs.Stream.Traces.{IsTaken, Noted, noted, trace, PutsTellNothing, SaysMethod, TracePuts, telling_at, telling_above}
use Rattle.amqp_channel.specs.Events.EventView.{agreed_view}
use Rattle.amqp_channel.specs.declared.verdict.Reply.TheVariants as replies
use Rattle.amqp_core.specs.Traced.Noting.{item_of_reply, lives_in, noted_owed, notes_owed, said_by_owed, note_tells}
use Rattle.amqp_core.specs.Connection.Owed.{owed_view, starts, answers_start, tunes, answers_tune}
use Rattle.amqp_core.specs.Config.Settings.{config_view, role_for}
use Rattle.amqp_core.specs.declared.owed.Owed.{Owed}
use Rattle.amqp_core.specs.declared.owed.Owed.TheVariants as code
use Rattle.amqp_core.specs.declared.settings.Settings.{Settings}
use Rattle.amqp_core.proofs.LifeCountLemmas.{life-counted}
use Rattle.amqp_core.proofs.TraceLemmas.{notes-put, said-owed}

-- What the code notes of what it owes is what the methods are noted as.

starts_noted : (role : Role) (config : Config role) → notes_owed role code.Start ≡ map noted_owed (starts role config)
starts_noted Client config = refl
starts_noted Server config = refl

answers_start_noted : (role : Role) (config : Config role) → notes_owed role code.StartOk ≡ map noted_owed (answers_start role config)
answers_start_noted Client config = refl
answers_start_noted Server config = refl

tunes_noted : (role : Role) (config : Config role) → notes_owed role code.Tune ≡ map noted_owed (tunes role config)
tunes_noted Client config = refl
tunes_noted Server config = refl

answers_tune_noted : (role : Role) (config : Config role) (agreed : _) → notes_owed role (code.TuneOkAndOpen agreed) ≡ map noted_owed (answers_tune role config (agreed_view agreed))
answers_tune_noted Client config agreed = refl
answers_tune_noted Server config agreed = refl

pub owed-noted : (settings : Settings) (owed : Owed) → notes_owed (role_for settings) owed ≡ map noted_owed (owed_view settings owed)
owed-noted settings code.Nothing = refl
owed-noted settings code.Start = starts_noted (role_for settings) (config_view settings)
owed-noted settings code.StartOk = answers_start_noted (role_for settings) (config_view settings)
owed-noted settings code.Tune = tunes_noted (role_for settings) (config_view settings)
owed-noted settings (code.TuneOkAndOpen agreed) = answers_tune_noted (role_for settings) (config_view settings) agreed
owed-noted settings code.OpenOk = refl
owed-noted settings (code.Close reason) = refl
owed-noted settings code.CloseOk = refl
owed-noted settings (code.OnChannel number replies.OpenOk) = refl
owed-noted settings (code.OnChannel number replies.CloseOk) = refl
owed-noted settings (code.OnChannel number (replies.FlowOk active)) = refl
owed-noted settings (code.ChannelClose number reason) = refl

-- Only the lives of channels above 0 matter.

above_agrees : (one other : ℕ → ℕ) (number : ℕ) (item : Option Item) → ((n : ℕ) → one (suc n) ≡ other (suc n)) → telling_above number (one number) item ≡ telling_above number (other number) item
above_agrees one other zero item e = refl
above_agrees one other (suc n) item e = ap (λ life. telling_at (suc n) life item) (e n)

said_agrees : (one other : ℕ → ℕ) (owed : Owed) → ((n : ℕ) → one (suc n) ≡ other (suc n)) → said_by_owed one owed ≡ said_by_owed other owed
said_agrees one other code.Nothing e = refl
said_agrees one other code.Start e = refl
said_agrees one other code.StartOk e = refl
said_agrees one other code.Tune e = refl
said_agrees one other (code.TuneOkAndOpen agreed) e = refl
said_agrees one other code.OpenOk e = refl
said_agrees one other (code.Close reason) e = refl
said_agrees one other code.CloseOk e = refl
said_agrees one other (code.OnChannel number answer) e = above_agrees one other number (item_of_reply answer) e
said_agrees one other (code.ChannelClose number reason) e = refl

lives-agree : (role : Role) (notes : List Noted) (history : History) → notes ≡ trace history → (n : ℕ) → lives_in role notes (suc n) ≡ life_on role (suc n) history
lives-agree role notes history e n = ap (λ xs. lives_in role xs (suc n)) e ∙ life-counted role n history

-- The lists, after methods are put.
pub record Lists (role : Role) (config : Config role) (notes : List Noted) (tells says : List Telling) (after : History) : Type 0 where
  pub noted : notes ≡ trace after
  pub told : tells ≡ told role config after
  pub said : says ≡ said role after

-- methods alone, after a history
pub puts-listed : (settings : Settings) (owed : Owed) (put : List closes.Owed) (history : History) (notes new_notes : List Noted) (tells says new_says : List Telling)
    → ((frames : List Frame) (h : History) → TracePuts frames h) → ((frames : List Frame) (h : History) → PutsTellNothing (role_for settings) (config_view settings) frames h)
    → ((channel : ℕ) (method : Method) (h : History) → SaysMethod (role_for settings) channel method h)
    → owed_view settings owed ≡ put → AllReadBack put
    → Lists (role_for settings) (config_view settings) notes tells says history
    → new_notes ≡ notes ++ notes_owed (role_for settings) owed → new_says ≡ says ++ said_by_owed (lives_in (role_for settings) notes) owed
    → Lists (role_for settings) (config_view settings) new_notes tells new_says (then_put (map frame_of put) history)
puts-listed settings owed put history notes new_notes tells says new_says puts told_law says_law put_is back lists notes_are says_are =
    let role = role_for settings in
    let here : AllReadBack (owed_view settings owed) = subst AllReadBack (sym put_is) back in
    subst (λ p. Lists role (config_view settings) new_notes tells new_says (then_put (map frame_of p) history)) put_is
    (record {
      noted = notes_are ∙ (ap (λ ns. ns ++ notes_owed role owed) lists.noted ∙ (ap (λ more. trace history ++ more) (owed-noted settings owed) ∙ sym (notes-put (owed_view settings owed) history (puts (map frame_of (owed_view settings owed)) history) here)));
      told = lists.told ∙ sym (told_law (map frame_of (owed_view settings owed)) history);
      said = says_are ∙ (ap (λ ss. ss ++ said_by_owed (lives_in role notes) owed) lists.said
          ∙ (ap (λ more. said role history ++ more) (said_agrees (lives_in role notes) (λ channel. life_on role channel history) owed (lives-agree role notes history lists.noted))
          ∙ sym (said-owed settings owed history says_law here)));
    })

-- A frame that is taken on channel 0 tells nothing.

one_more : (xs : List Telling) (x : Telling) → xs ++ [] ≡ xs ++ x ∷ [] → ⊥
one_more xs x e =
    let short = length-append xs [] in
    let long = length-append xs (x ∷ []) in
    let same : length (xs ++ []) ≡ length (xs ++ x ∷ []) = ap length e in
    omega (arith, short, long, same)

either_nothing : (b : Bool) (xs : List Telling) → xs ++ cond b [] [] ≡ xs ++ []
either_nothing true xs = refl
either_nothing false xs = refl

zero_agrees : (role : Role) (config : Config role) (frame : Frame) (history : History) (channel life other : ℕ) (item : Option Item) → frame.channel ≡ channel → channel ≡ 0
    → told role config (Took frame ∷ history) ≡ told role config history ++ telling_at channel life item → telling_at channel other item ≡ telling_at channel life item
zero_agrees role config frame history channel life other None e none law = refl
zero_agrees role config frame history channel life other (Some item) e none law =
    let here : told role config (Took frame ∷ history) ≡ told role config history ++ [] =
    ap (λ c. told role config history ++ cond (goes_on_with role config frame history) (told_at role c frame history) []) (e ∙ none) ∙ either_nothing (goes_on_with role config frame history) (told role config history) in
    absurd (one_more (told role config history) (record { channel = channel; life = life; item = item }) (sym here ∙ law))

told_agrees : (role : Role) (config : Config role) (frame : Frame) (history : History) (notes : List Noted) (channel : ℕ) (item : Option Item) → frame.channel ≡ channel → notes ≡ trace history
    → told role config (Took frame ∷ history) ≡ told role config history ++ telling_at channel (life_on role channel history) item
    → telling_at channel (lives_in role notes channel) item ≡ telling_at channel (life_on role channel history) item
told_agrees role config frame history notes zero item e notes_are law = zero_agrees role config frame history zero (life_on role 0 history) (lives_in role notes 0) item e refl law
told_agrees role config frame history notes (suc n) item e notes_are law = ap (λ life. telling_at (suc n) life item) (lives-agree role notes history notes_are n)

-- A frame is taken, and then methods are put.
pub frame-listed : (settings : Settings) (frame : Frame) (item : Option Item) (history : History) (notes : List Noted) (tells says : List Telling)
    → told (role_for settings) (config_view settings) (Took frame ∷ history) ≡ told (role_for settings) (config_view settings) history ++ telling_at frame.channel (life_on (role_for settings) frame.channel history) item
    → Lists (role_for settings) (config_view settings) notes tells says history
    → Lists (role_for settings) (config_view settings) (notes ++ noted IsTaken frame ∷ []) (tells ++ note_tells (lives_in (role_for settings) notes) (Some (noted IsTaken frame)) item) says (Took frame ∷ history)
frame-listed settings frame item history notes tells says law lists =
    let role = role_for settings in
    let config = config_view settings in
    record {
      noted = ap (λ ns. ns ++ noted IsTaken frame ∷ []) lists.noted;
      told = ap (λ ts. ts ++ telling_at frame.channel (lives_in role notes frame.channel) item) lists.told
          ∙ (ap (λ more. told role config history ++ more) (told_agrees role config frame history notes frame.channel item refl lists.noted law) ∙ sym law);
      said = lists.said;
    }
