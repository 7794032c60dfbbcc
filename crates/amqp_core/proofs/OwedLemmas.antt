-- What an end owes in the handshake, by the hello of its settings.
use Rattle.std.proofs.Common.{◌≡◌, List, [], ◌∷◌, ◌++◌, map, refl, sym, ap, ◌∙◌, append_assoc}
use Rattle.amqp_frame.specs.Frame.{Frame}
use Rattle.amqp_model.specs.End.Channels.{Agreed}
use Rattle.amqp_model.specs.End.Closes as closes
use Rattle.amqp_model.specs.End.Closes.{frame_of}
use Rattle.amqp_model.specs.End.Fitting.{greeting}
use Rattle.amqp_model.specs.End.FrameVerdict.{on_zero}
use Rattle.amqp_model.specs.Wire.Methods.{Method}
use Rattle.amqp_model.specs.History.Negotiation.{Config, tune_ok}
use Rattle.amqp_model.specs.Wire.Notes.{Role}
use Rattle.amqp_outbox.specs.OutboxView.{Outgoing, with_staged}
use Rattle.amqp_core.specs.Connection.HandshakeMethods.{IsOpen, IsTune}
use Rattle.amqp_core.specs.Connection.Owed.{starts, answers_start, tunes, answers_tune}
use Rattle.amqp_core.specs.Config.Settings.{role_for, config_view}
use Rattle.amqp_core.specs.declared.settings.ClientHello.{ClientHello}
use Rattle.amqp_core.specs.declared.settings.ServerHello.{ServerHello}
use Rattle.amqp_core.specs.declared.settings.Hello.TheVariants as code
use Rattle.amqp_core.specs.declared.settings.Settings.{Settings}
use Rattle.amqp_core.proofs.SettingsLemmas.{by_hello, config_with}

-- What is owed is the one method that was made, or the two.

abbrev one : Method → List closes.Owed
one method = on_zero method ∷ []

abbrev two : (first later : Method) → List closes.Owed
two first later = on_zero first ∷ on_zero later ∷ []

abbrev Starts : Method → (role : Role) → Config role → Type 0
Starts method role config = method ≡ greeting role config → starts role config ≡ one method

abbrev AnswersStart : Method → (role : Role) → Config role → Type 0
AnswersStart method role config = method ≡ greeting role config → answers_start role config ≡ one method

abbrev Tunes : Method → (role : Role) → Config role → Type 0
Tunes method role config = tunes role config ≡ one method

abbrev AnswersTune : Agreed → (settled opening : Method) → (role : Role) → Config role → Type 0
AnswersTune agreed settled opening role config = answers_tune role config agreed ≡ two settled opening

pub starts-server : (settings : Settings) (hello : ServerHello) (method : Method) → settings.hello ≡ code.Server hello
    → Starts method (role_for settings) (config_view settings)
starts-server settings hello method is = by_hello (Starts method) settings (code.Server hello) is (λ e. ap one (sym e))

pub answers_start-client : (settings : Settings) (hello : ClientHello) (method : Method) → settings.hello ≡ code.Client hello
    → AnswersStart method (role_for settings) (config_view settings)
answers_start-client settings hello method is = by_hello (AnswersStart method) settings (code.Client hello) is (λ e. ap one (sym e))

pub tunes-server : (settings : Settings) (hello : ServerHello) (method : Method) → settings.hello ≡ code.Server hello
    → IsTune settings.channel_max settings.frame_max settings.heartbeat method → Tunes method (role_for settings) (config_view settings)
tunes-server settings hello method is said =
    by_hello (Tunes method) settings (code.Server hello) is (ap one (sym (said (config_with settings (code.Server hello)) refl refl refl)))

pub answers_tune-client : (settings : Settings) (hello : ClientHello) (agreed : Agreed) (settled opening : Method) → settings.hello ≡ code.Client hello
    → settled ≡ tune_ok agreed → IsOpen hello opening → AnswersTune agreed settled opening (role_for settings) (config_view settings)
answers_tune-client settings hello agreed settled opening is settles said =
    let opens = said (config_with settings (code.Client hello)) refl in
    by_hello (AnswersTune agreed settled opening) settings (code.Client hello) is
    (ap (two (tune_ok agreed)) (sym opens) ∙ ap (λ (first : Method). two first opening) (sym settles))

-- Frames that are staged in two steps are staged as one list, and so is what is staged for methods that are owed.

abbrev stages : Outgoing → List closes.Owed → Outgoing
stages outgoing owed = with_staged outgoing (map frame_of owed)

pub staged_twice : (outgoing : Outgoing) (first later : List Frame)
    → with_staged (with_staged outgoing first) later ≡ with_staged outgoing (first ++ later)
staged_twice outgoing first later =
    let put : List Frame → Outgoing = λ frames. record { output = outgoing.output; staged = frames } in
    ap put (append_assoc outgoing.staged first later)

pub staged_as : (old new : Outgoing) (made owed : List closes.Owed) → owed ≡ made → new ≡ stages old made → new ≡ stages old owed
staged_as old new made owed is staged = staged ∙ ap (stages old) (sym is)

pub staged_both : (old between new : Outgoing) (first later : closes.Owed) (owed : List closes.Owed) → owed ≡ first ∷ later ∷ []
    → between ≡ stages old (first ∷ []) → new ≡ stages between (later ∷ []) → new ≡ stages old owed
staged_both old between new first later owed is before after =
    let joined = staged_twice old (map frame_of (first ∷ [])) (map frame_of (later ∷ [])) in
    staged_as old new (first ∷ later ∷ []) owed is (after ∙ (ap (λ (o : Outgoing). stages o (later ∷ [])) before ∙ joined))
