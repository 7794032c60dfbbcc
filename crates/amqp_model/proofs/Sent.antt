-- The items that two ends send each other and act on, from the laws of the lives of a channel.
use Rattle.std.proofs.Common.{◌≡◌, Bool, ℕ, suc, ◌<◌, List, [], ◌∷◌, map, refl, ap, ◌∙◌, subst}
use Rattle.std.proofs.Common.{arith}
use Rattle.std.proofs.lemmas.Bool.{ne_eqb}
use Rattle.std.proofs.lemmas.List.{map-append}
use Rattle.amqp_model.specs.Wire.Frame.{Frame}
use Rattle.amqp_model.specs.Wire.Notes.{Role, Client, Server, Kind, Open, OpenOk, Close, CloseOk, Note, Put}
use Rattle.amqp_model.specs.History.States.{State, Free, Opening, Closing}
use Rattle.amqp_model.specs.History.Lives.{lives}
use Rattle.amqp_model.specs.Pair.Carried.{puts, sent, acted}
use Rattle.amqp_model.specs.Pair.Runs.{RunAt}
use Rattle.amqp_model.specs.Output.Prefixes.{IsPrefixOf}
use Rattle.amqp_model.specs.History.Histories.{History}
use Rattle.amqp_model.specs.History.Negotiation.{Config}
use Rattle.amqp_model.specs.Laws.EndLaws.{notes_on}
use Rattle.amqp_model.specs.Pair.Sent.{payload_in, items_in}
use Rattle.amqp_model.specs.Pair.Pairs.{PairAt}
use Rattle.amqp_model.specs.Laws.SentLaws.{ActsOnPrefixOfItems, AllItemsActedOnAtClose}
use Rattle.amqp_model.specs.Laws.SentLaws.{AllItemsActedOnAtConnectionClose, ItemsSentAreActedOnOrInFlight}
use Rattle.amqp_model.specs.Laws.SentLaws.{NoItemsBeforeFirstLife}
use Rattle.amqp_model.proofs.Lists.{prefix_none, messages_other, messages_elsewhere}
use Rattle.amqp_model.proofs.Ends.{Is, Lawful, begun, has_asked, has_replied, has_taken, has_left_now, lawful_lives}
use Rattle.amqp_model.proofs.Ends.{to_open, to_close, to_flow, opens, closes, flows, sends, accepts, begins, ends}
use Rattle.amqp_model.proofs.Ends.{pauses, hears, acts, crosses, frees, drops}
use Rattle.amqp_model.proofs.Runs.{Linked, linked, run_at_linked}
use Rattle.amqp_model.proofs.Laws.{acts_prefix, sent_so_far, all_acted, all_acted_connection}
use Rattle.amqp_model.proofs.ItemLemmas.{items-prefix}
use Rattle.amqp_model.proofs.Carrying.{all-noted}
use Rattle.amqp_model.proofs.Pairing.{pair-runs}

pub pair-runs_at : (role : Role) (client_config : Config Client) (server_config : Config Server) (mine theirs : History)
    (n : ℕ) → PairAt role client_config server_config mine theirs
    → RunAt role (notes_on (suc n) mine) (notes_on (suc n) theirs)
pair-runs_at Client client_config server_config mine theirs n at =
    pair-runs client_config server_config mine theirs at.client_writes at.server_writes at.pair n
pair-runs_at Server client_config server_config mine theirs n at =
    pair-runs client_config server_config theirs mine at.client_writes at.server_writes at.pair n

-- the items of a prefix of frames are a prefix
items-of-prefix : (prefix whole : List Frame) → IsPrefixOf prefix whole
    → IsPrefixOf (items_in prefix) (items_in whole)
items-of-prefix prefix whole f =
    items-prefix (map payload_in prefix) (map payload_in whole) (
      map payload_in f.0,
      ap (map payload_in) f.1
          ∙ map-append payload_in prefix f.0,
    )

pub acts-on-prefix : (role : Role) (client_config : Config Client) (server_config : Config Server)
    (mine theirs : History) (n : ℕ) → PairAt role client_config server_config mine theirs
    → ActsOnPrefixOfItems role (suc n) mine theirs
acts-on-prefix role client_config server_config mine theirs n pair life =
    items-of-prefix _ _ (acts_prefix role _ _ (pair-runs_at role client_config server_config mine theirs n pair) life)

pub all-at-close : (role : Role) (client_config : Config Client) (server_config : Config Server) (mine theirs : History)
    (n : ℕ) → PairAt role client_config server_config mine theirs
    → AllItemsActedOnAtClose role (suc n) mine theirs
all-at-close role client_config server_config mine theirs n pair life closed =
    ap items_in (all_acted role _ _ (pair-runs_at role client_config server_config mine theirs n pair) life closed)

pub all-at-connection_close : (role : Role) (client_config : Config Client) (server_config : Config Server)
    (mine theirs : History) (n : ℕ) → PairAt role client_config server_config mine theirs
    → AllItemsActedOnAtConnectionClose role (suc n) mine theirs
all-at-connection_close role client_config server_config mine theirs n pair frame live comes leaving =
    ap items_in (all_acted_connection role _ _ (pair-runs_at role client_config server_config mine theirs n pair) live
    (all-noted theirs mine n (comes.at_leaving leaving n)))

pub sent-is-acted-or-coming : (role : Role) (client_config : Config Client) (server_config : Config Server)
    (mine theirs : History) (n : ℕ) → PairAt role client_config server_config mine theirs
    → ItemsSentAreActedOnOrInFlight role (suc n) mine theirs
sent-is-acted-or-coming role client_config server_config mine theirs n pair rest live way =
    ap items_in (sent_so_far role _ _ (pair-runs_at role client_config server_config mine theirs n pair) rest live way)

-- where a channel is not Free, it has had a life
abbrev IsInLife : State → ℕ → Type 0
IsInLife Free n = Unit {0}
IsInLife Opening n = 0 < n
IsInLife State.Open n = 0 < n
IsInLife Closing n = 0 < n

in-life : {role : Role} {history : List Note} {word : State} {n : ℕ} {a : Bool}
    → Lawful role history (Is word n a) → IsInLife word n
in-life begun = tt
in-life (has_asked frame here lawful opens) = omega arith
in-life (has_asked frame here lawful closes) = in-life lawful
in-life (has_asked frame here lawful flows) = in-life lawful
in-life (has_asked frame here lawful sends) = in-life lawful
in-life (has_replied frame lawful is_reply) = in-life lawful
in-life (has_taken frame lawful accepts) = omega arith
in-life (has_taken frame lawful begins) = in-life lawful
in-life (has_taken frame lawful ends) = tt
in-life (has_taken frame lawful pauses) = in-life lawful
in-life (has_taken frame lawful hears) = in-life lawful
in-life (has_taken frame lawful acts) = in-life lawful
in-life (has_taken frame lawful crosses) = in-life lawful
in-life (has_taken frame lawful frees) = tt
in-life (has_taken frame lawful (drops kind)) = in-life lawful
in-life (has_left_now lawful) = in-life lawful

-- what is put once there was a life is none of the life 0
later-life : (role : Role) (history : List Note) (kind : Kind) (frame : Frame) (n : ℕ)
    → lives role (Put kind frame ∷ history) ≡ n → 0 < n
    → sent role 0 (Put kind frame ∷ history) ≡ sent role 0 history
later-life role history kind frame n l some =
    messages_elsewhere 0 (puts role history) kind _ frame (ne_eqb _ 0 (λ e. absurd (omega arith)))

-- nothing is sent before the first opening note
none-sent : {role : Role} {history : List Note} {word : State} {n : ℕ} {a : Bool}
    → Lawful role history (Is word n a) → sent role 0 history ≡ []
none-sent begun = refl
none-sent {role} (has_asked {history = h} frame here lawful opens) =
    messages_other 0 (puts role h) Open _ frame refl ∙ none-sent lawful
none-sent {role} (has_asked {history = h} frame here lawful closes) =
    messages_other 0 (puts role h) Close _ frame refl ∙ none-sent lawful
none-sent {role} (has_asked {history = h} {kind = k} frame here lawful flows) =
    later-life role h k frame _ (lawful_lives lawful) (in-life lawful) ∙ none-sent lawful
none-sent {role} (has_asked {history = h} {kind = k} frame here lawful sends) =
    later-life role h k frame _ (lawful_lives lawful) (in-life lawful) ∙ none-sent lawful
none-sent {role} (has_replied {history = h} frame lawful to_open) =
    messages_other 0 (puts role h) OpenOk _ frame refl ∙ none-sent lawful
none-sent {role} (has_replied {history = h} frame lawful to_close) =
    messages_other 0 (puts role h) CloseOk _ frame refl ∙ none-sent lawful
none-sent {role} (has_replied {history = h} {kind = k} frame lawful to_flow) =
    later-life role h k frame _ (lawful_lives lawful) (in-life lawful) ∙ none-sent lawful
none-sent (has_taken {before = Is word n a} frame lawful taking) = none-sent lawful
none-sent (has_left_now lawful) = none-sent lawful

pub none-before-first : (role : Role) (client_config : Config Client) (server_config : Config Server)
    (mine theirs : History) (n : ℕ) → PairAt role client_config server_config mine theirs
    → NoItemsBeforeFirstLife role (suc n) mine
none-before-first role client_config server_config mine theirs n pair = go (run_at_linked role _ _ run)
  where
    run : RunAt role (notes_on (suc n) mine) (notes_on (suc n) theirs)
    run = pair-runs_at role client_config server_config mine theirs n pair

    go : Linked role (notes_on (suc n) mine) (notes_on (suc n) theirs) → NoItemsBeforeFirstLife role (suc n) mine
    go (linked q r owed owed' s s' e e' w w' joint) =
        let prefix = subst (λ l. IsPrefixOf (acted role 0 (notes_on (suc n) mine)) l) (none-sent s')
        (acts_prefix role _ _ run 0) in
        (ap items_in (none-sent s), ap items_in (prefix_none _ prefix))
