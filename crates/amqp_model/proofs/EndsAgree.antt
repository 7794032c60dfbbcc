-- The laws of the lives of a channel, said of the histories of two ends.
use Rattle.std.proofs.Common.{◌≡◌, ℕ, suc, [], ◌∷◌, ◌++◌, refl, sym, ap, ◌∙◌, append_assoc}
use Rattle.std.proofs.lemmas.List.{map-append}
use Rattle.amqp_model.specs.Wire.Frame.{Frame}
use Rattle.amqp_model.specs.Wire.Notes.{Role, Client, Server, Note}
use Rattle.amqp_model.specs.Wire.Readings.{reading, kind_of}
use Rattle.amqp_model.specs.History.Histories.{Took, History, TookHere, note_of, seen_on, entries_on, notes}
use Rattle.amqp_model.specs.History.Negotiation.{Config}
use Rattle.amqp_model.specs.Laws.EndLaws.{notes_on}
use Rattle.amqp_model.specs.Laws.FittingLaws.{MethodReadsBack}
use Rattle.amqp_model.specs.Pair.EndsAgree.{LivesAgree, NoContentFromPaused}
use Rattle.amqp_model.proofs.Acting.{seen-took}
use Rattle.amqp_model.proofs.Laws.{sides_agree}
use Rattle.amqp_model.proofs.PausedContents.{no_pause}
use Rattle.amqp_model.proofs.Sent.{pair-runs_at}
use Rattle.amqp_model.proofs.NoFault.{pair-at}

entries-join : (channel : ℕ) (later before : History) → entries_on channel (later ++ before)
    ≡ entries_on channel later ++ entries_on channel before
entries-join channel [] before = refl
entries-join channel (entry ∷ later) before =
    ap (λ l. seen_on channel entry ++ l) (entries-join channel later before)
    ∙ sym (append_assoc (seen_on channel entry) (entries_on channel later) (entries_on channel before))

took-noted : (n : ℕ) (later before : History) (frame : Frame) → frame.channel ≡ suc n
    → notes_on (suc n) (later ++ Took frame ∷ before) ≡ notes_on (suc n) later
    ++ Note.Took (kind_of (reading frame)) frame ∷ notes_on (suc n) before
took-noted n later before frame here =
    ap notes (entries-join (suc n) later (Took frame ∷ before)
    ∙ ap (λ l. entries_on (suc n) later ++ l) (seen-took frame before n here))
    ∙ map-append note_of (entries_on (suc n) later) (TookHere (reading frame) frame ∷ entries_on (suc n) before)

pub lives-agree : (reads : MethodReadsBack) (role : Role) (client_config : Config Client)
    (server_config : Config Server) (mine theirs : History) (n : ℕ)
    → LivesAgree role client_config server_config mine theirs n
lives-agree reads role client_config server_config mine theirs n p =
    sides_agree role (notes_on (suc n) mine) (notes_on (suc n) theirs)
    (pair-runs_at role client_config server_config mine theirs n
    (pair-at reads role client_config server_config mine theirs p))

pub no-content-from-paused : (reads : MethodReadsBack) (role : Role) (client_config : Config Client)
    (server_config : Config Server) (mine theirs : History) (n : ℕ)
    → NoContentFromPaused role client_config server_config mine theirs n
no-content-from-paused reads role client_config server_config mine theirs n p later before frame is here content =
    no_pause role (notes_on (suc n) mine) (notes_on (suc n) theirs)
    (pair-runs_at role client_config server_config mine theirs n
    (pair-at reads role client_config server_config mine theirs p)) (notes_on (suc n) later) (kind_of (reading frame))
    frame (notes_on (suc n) before) (ap (notes_on (suc n)) is ∙ took-noted n later before frame here) content
