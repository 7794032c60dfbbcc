-- Replies are in turn to the requests of their life, along each channel of a lawful history.
use Rattle.std.proofs.Common.{◌≡◌, ◌⊎◌, inl, inr, Bool, true, false, ℕ, zero, suc, ◌==◌, arith, List}
use Rattle.std.proofs.Common.{[], ◌∷◌, map, reverse, drop, length, Option, refl, sym, ap, ◌∙◌, subst}
use Rattle.std.proofs.lemmas.Bool.{false≢true, true≢false}
use Rattle.amqp_model.specs.Wire.Frame.{Frame}
use Rattle.amqp_model.specs.Wire.Notes.{Role, Client, Server, is_client, Kind, Open, OpenOk, Close, CloseOk, Note, Took}
use Rattle.amqp_model.specs.Wire.Notes.{Leaving, is_message}
use Rattle.amqp_model.specs.History.Lives.{lives, has_left, state}
use Rattle.amqp_model.specs.Pair.Carried.{acts_next, sent, acted}
use Rattle.amqp_model.specs.Pair.Carried as carried
use Rattle.amqp_model.specs.Wire.Methods.{MethodKind, Method}
use Rattle.amqp_model.specs.Wire.Gathering.{gathering}
use Rattle.amqp_model.specs.Wire.Readings.{Calls, reading, kind_of}
use Rattle.amqp_model.specs.History.Histories.{ChannelEntry, PutHere, TookHere, LeftHere, notes, entries_before_leaving}
use Rattle.amqp_model.specs.End.Channels.{Life, Channel, Free, Opening, Closing, Agreed, new_life, state_of}
use Rattle.amqp_model.specs.End.Channels as channels
use Rattle.amqp_model.specs.History.Negotiation.{Config}
use Rattle.amqp_model.specs.End.FrameVerdict.{verdict_on}
use Rattle.amqp_model.specs.End.EndVerdict.{goes_on}
use Rattle.amqp_model.specs.End.Machine.{life_after, free_after_taking, opening_after_taking, closing_after_taking}
use Rattle.amqp_model.specs.End.Machine.{open_after_taking, channel_after_put, after_taken, may_put_here, HasItsRequest, Counts}
use Rattle.amqp_model.specs.End.Machine.{ChannelStandsFor}
use Rattle.amqp_model.specs.Pair.Sent.{payload_in, items_in}
use Rattle.amqp_model.specs.Pair.InTurn.{requests_in, InTurn}
use Rattle.amqp_model.proofs.Standing.{counted, state-reads}
use Rattle.amqp_model.proofs.Following.{all-before, follows-put, takes-counted}
use Rattle.amqp_model.proofs.Going.{running, running-free, running-opening, running-open, OpenTakes}
use Rattle.amqp_model.proofs.Walking.{may_ask_here}
use Rattle.amqp_model.proofs.ChannelWalks.{ChannelWalk, nothing, leaves, puts, hears, drops}
use Rattle.amqp_model.proofs.TurnLemmas.{begun_in, told-first}
use Rattle.amqp_model.proofs.Turning.{requests, replies, KeepsOpen, Keeps, OneMore, Matched, later-none, acted-same}
use Rattle.amqp_model.proofs.Turning.{message-lives, one-record, put-in-turn, put-one-more, put-keeps, open-answers}
use Rattle.amqp_model.proofs.Turning.{rest-requests, rest-replies, rest-in-turn, rest-one-more, Answers, took-in-turn}
use Rattle.amqp_model.proofs.Turning.{took-one-more, took-keeps-open}

-- Where the end does not act.

keeps-left : (role : Role) (channel : Channel) (number : ℕ) (history : List Note)
    → Keeps role channel number history → Keeps role channel number (Leaving ∷ history)
keeps-left Client (channels.Open life) number history k = record { requests = k.requests; content = k.content }
keeps-left Server (channels.Open life) number history k = record { requests = k.requests; content = k.content }
keeps-left role Opening number history k = k
keeps-left role Free number history k = tt
keeps-left role Closing number history k = tt

left-matched : (role : Role) (entries : List ChannelEntry) → Matched role entries
    → Matched role (LeftHere ∷ entries)
left-matched Client entries old =
    record {
      in_turn = old.in_turn;
      one_more = old.one_more;
      keeps = λ channel stands.
          keeps-left Client channel _ (notes entries) (old.keeps channel stands);
    }
left-matched Server entries old =
    record {
      in_turn = old.in_turn;
      one_more = old.one_more;
      keeps = λ channel stands.
          keeps-left Server channel _ (notes entries) (old.keeps channel stands);
    }

keeps-rest : (role : Role) (frame : Frame) (channel : Channel) (number : ℕ) (history : List Note)
    → acts_next role history ≡ false → Keeps role channel number history
    → Keeps role channel number (Took (kind_of (reading frame)) frame ∷ history)
keeps-rest role frame (channels.Open life) number history rests k = record {
  requests = k.requests
      ∙ (ap (λ l. drop (length l) (requests role number history))
      (sym (rest-replies frame history role rests number))
      ∙ ap (drop (length (replies role number (Took (kind_of (reading frame)) frame ∷ history))))
      (sym (rest-requests frame history role rests number)));
  content = ap (λ l. gathering (reverse (map payload_in l)))
      (acted-same role number (kind_of (reading frame)) frame history rests) ∙ k.content;
}
keeps-rest role frame Opening number history rests k =
    (k.0, acted-same role number (kind_of (reading frame)) frame history rests ∙ k.1)
keeps-rest role frame Free number history rests k = tt
keeps-rest role frame Closing number history rests k = tt

dropped-matched : (role : Role) (frame : Frame) (entries : List ChannelEntry) → has_left (notes entries) ≡ true
    → Matched role entries → Matched role (TookHere (reading frame) frame ∷ entries)
dropped-matched role frame entries left old = record {
  in_turn = λ life. rest-in-turn frame (notes entries) role rests life (old.in_turn life);
  one_more = λ life. rest-one-more frame (notes entries) role rests life (old.one_more life);
  keeps = λ channel stands.
      subst (λ l. Keeps role channel (lives role (notes l)) (Took (kind_of (reading frame)) frame ∷ notes entries))
      (sym same) (keeps-rest role frame channel _ (notes entries) rests
      (old.keeps channel (subst (Counts role channel) same stands)));
}
  where
    rests : acts_next role (notes entries) ≡ false
    rests = simp left

    same : entries_before_leaving (TookHere (reading frame) frame ∷ entries) ≡ entries_before_leaving entries
    same = simp left

-- What the channel keeps after a frame that a Running end takes.

-- an Open channel takes a message
opened-keeps : (role : Role) (frame : Frame) (life : Life) (kind : Kind) (history : List Note)
    → kind_of (reading frame) ≡ kind → is_message kind ≡ true → acts_next role history ≡ true
    → InTurn (replies role (lives role history) history) (requests role (lives role history) history)
    → KeepsOpen role life (lives role history) history
    → Keeps role (open_after_taking role (TookHere (reading frame) frame) life kind)
    (lives role (Took (kind_of (reading frame)) frame ∷ history)) (Took (kind_of (reading frame)) frame ∷ history)
opened-keeps role frame life Close history e m acts turn k = absurd (false≢true m)
opened-keeps role frame life kind history e m acts turn k =
    let message = ap is_message e ∙ m in
    subst (λ n. KeepsOpen role (life_after role (TookHere (reading frame) frame) life) n
    (Took (kind_of (reading frame)) frame ∷ history))
    (sym (message-lives role (kind_of (reading frame)) frame history message).1)
    (took-keeps-open frame history role life acts message turn k)

-- a new life has no frames
fresh-keeps : (role : Role) (number : ℕ) (history : List Note) → sent role number history ≡ []
    → acted role number history ≡ [] → KeepsOpen role new_life number history
fresh-keeps Client number history s a =
    record {
      requests = sym (ap (λ l. drop (length (replies Client number history)) (requests_in (items_in l))) s
          ∙ none (length (replies Client number history)));
      content = ap (λ l. gathering (reverse (map payload_in l))) a;
    }
  where
    none : (n : ℕ) → drop {A = MethodKind} n [] ≡ []
    none zero = refl
    none (suc n) = refl
fresh-keeps Server number history s a =
    record {
      requests = sym (ap (λ l. drop (length (begun_in l)) (requests Server number history)) s
          ∙ ap (λ l. requests_in (items_in l)) a);
      content = ap (λ l. gathering (reverse (map payload_in l))) a;
    }

pub takes-keeps : (role : Role) (config : Config role) (agreed : Option Agreed) (number : ℕ) (channel : Channel)
    (frame : Frame) (entries : List ChannelEntry) → (number == 0) ≡ false → Counts role channel entries
    → goes_on (verdict_on (running config agreed number channel) (reading frame)) ≡ true
    → acts_next role (notes entries) ≡ carried.state_is_open (state_of channel)
    → InTurn (replies role (lives role (notes entries)) (notes entries))
    (requests role (lives role (notes entries)) (notes entries))
    → Keeps role channel (lives role (notes entries)) (notes entries)
    → Keeps role (after_taken role (TookHere (reading frame) frame) channel (kind_of (reading frame)))
    (lives role (Took (kind_of (reading frame)) frame ∷ notes entries))
    (Took (kind_of (reading frame)) frame ∷ notes entries)
takes-keeps Client config agreed number Free frame entries above counts g acts turn k =
    absurd (let h = running-free config agreed number above (reading frame) g in let e : Client ≡ Server = h.2 in
    true≢false (ap is_client e))
takes-keeps Server config agreed number Free frame entries above counts g acts turn k =
    subst (λ kind. Keeps Server (free_after_taking Server kind) (lives Server (Took kind frame ∷ notes entries))
    (Took kind frame ∷ notes entries)) (sym opens)
    (fresh-keeps Server _ _ later.0 (acted-same Server _ Open frame (notes entries) acts ∙ later.1))
  where
    opens : kind_of (reading frame) ≡ Open
    opens = let h = running-free config agreed number above (reading frame) g in ap kind_of h.1 ∙ h.3

    begins : lives Server (Took Open frame ∷ notes entries) ≡ suc (lives Server (notes entries))
    begins = let w = counts.1 in simp w

    later : (sent Server (lives Server (Took Open frame ∷ notes entries)) (notes entries) ≡ [])
        × (acted Server (lives Server (Took Open frame ∷ notes entries)) (notes entries) ≡ [])
    later = later-none Server (notes entries) _ (let b = begins in omega arith)
takes-keeps Server config agreed number Opening frame entries above counts g acts turn k =
    absurd (true≢false counts.unopened)
takes-keeps Client config agreed number Opening frame entries above counts g acts turn k =
    by-kind (running-opening config agreed number above (reading frame) g)
  where
    opened : kind_of (reading frame) ≡ OpenOk → Keeps Client (opening_after_taking Client (kind_of (reading frame)))
        (lives Client (Took (kind_of (reading frame)) frame ∷ notes entries))
        (Took (kind_of (reading frame)) frame ∷ notes entries)
    opened e =
        subst (λ kind. Keeps Client (opening_after_taking Client kind)
        (lives Client (Took kind frame ∷ notes entries)) (Took kind frame ∷ notes entries)) (sym e)
        (fresh-keeps Client _ _ k.0 (acted-same Client _ OpenOk frame (notes entries) acts ∙ k.1))

    closed : kind_of (reading frame) ≡ Close → Keeps Client (opening_after_taking Client (kind_of (reading frame)))
        (lives Client (Took (kind_of (reading frame)) frame ∷ notes entries))
        (Took (kind_of (reading frame)) frame ∷ notes entries)
    closed e =
        subst (λ kind. Keeps Client (opening_after_taking Client kind)
        (lives Client (Took kind frame ∷ notes entries)) (Took kind frame ∷ notes entries)) (sym e) tt

    by-kind : (method : Method) × (reading frame ≡ Calls method)
        × ((kind_of (Calls method) ≡ OpenOk) ⊎ (kind_of (Calls method) ≡ Close))
        → Keeps Client (opening_after_taking Client (kind_of (reading frame)))
        (lives Client (Took (kind_of (reading frame)) frame ∷ notes entries))
        (Took (kind_of (reading frame)) frame ∷ notes entries)
    by-kind (method, r, inl e) = opened (ap kind_of r ∙ e)
    by-kind (method, r, inr e) = closed (ap kind_of r ∙ e)
takes-keeps role config agreed number Closing frame entries above counts g acts turn k =
    by-kind (kind_of (reading frame)) _
  where
    by-kind : (kind : Kind) (n : ℕ)
        → Keeps role (closing_after_taking kind) n (Took (kind_of (reading frame)) frame ∷ notes entries)
    by-kind CloseOk n = tt
    by-kind kind n = tt
takes-keeps role config agreed number (channels.Open life) frame entries above counts g acts turn k =
    by-takes (running-open config agreed number life above counts.answerable (reading frame) g)
  where
    by-takes : OpenTakes role life.content life.requests (reading frame)
        → Keeps role (open_after_taking role (TookHere (reading frame) frame) life (kind_of (reading frame)))
        (lives role (Took (kind_of (reading frame)) frame ∷ notes entries))
        (Took (kind_of (reading frame)) frame ∷ notes entries)
    by-takes (inl e) =
        subst (λ kind. Keeps role (open_after_taking role (TookHere (reading frame) frame) life kind)
        (lives role (Took (kind_of (reading frame)) frame ∷ notes entries))
        (Took (kind_of (reading frame)) frame ∷ notes entries)) (sym e) tt
    by-takes (inr h) = opened-keeps role frame life (kind_of (reading frame)) (notes entries) refl h.0 acts turn k

-- what a client takes on an Open channel is a reply to the first of its requests, if it is one
client-answers : (role : Role) (config : Config role) (agreed : Option Agreed) (number : ℕ) (life : Life)
    (frame : Frame) (history : List Note) → (number == 0) ≡ false → HasItsRequest role life.content life.requests
    → goes_on (verdict_on (running config agreed number (channels.Open life)) (reading frame)) ≡ true
    → Answers frame history role life
client-answers Server config agreed number life frame history above has g = tt
client-answers Client config agreed number life frame history above has g =
    λ m. told-first life.content (reading frame) life.requests has
    (λ method e. open-answers config agreed number life method above
    (subst (λ r. goes_on (verdict_on (running config agreed number (channels.Open life)) r) ≡ true) e g)
    (subst (λ r. is_message (kind_of r) ≡ true) e m))

heard-matched : (role : Role) (config : Config role) (agreed : Option Agreed) (number : ℕ) (channel : Channel)
    (frame : Frame) (entries : List ChannelEntry) → has_left (notes entries) ≡ false → Counts role channel entries
    → (number == 0) ≡ false → goes_on (verdict_on (running config agreed number channel) (reading frame)) ≡ true
    → Matched role entries → Matched role (TookHere (reading frame) frame ∷ entries)
heard-matched role config agreed number channel frame entries stays counts above g old = record {
  in_turn = λ life. by-channel channel counts g acts kept life (old.in_turn life);
  one_more = λ life. more (carried.state_is_open (state_of channel)) acts life (old.one_more life);
  keeps = keeps;
}
  where
    history : List Note
    history = notes entries

    stands : ChannelStandsFor role channel entries
    stands = subst (Counts role channel) (sym (all-before entries stays)) counts

    kept : Keeps role channel (lives role (notes entries)) (notes entries)
    kept =
        subst (λ l. Keeps role channel (lives role (notes l)) (notes entries)) (all-before entries stays)
        (old.keeps channel stands)

    state_is : state role (notes entries) ≡ state_of channel
    state_is =
        sym (state-reads role entries) ∙ ap state_of (counted role channel (entries_before_leaving entries) stands)

    acts : acts_next role (notes entries) ≡ carried.state_is_open (state_of channel)
    acts = let open_is = ap carried.state_is_open state_is in simp stays open_is

    by-channel : (channel : Channel) → Counts role channel entries
        → goes_on (verdict_on (running config agreed number channel) (reading frame)) ≡ true
        → acts_next role (notes entries) ≡ carried.state_is_open (state_of channel)
        → Keeps role channel (lives role (notes entries)) (notes entries) → (life : ℕ)
        → InTurn (replies role life (notes entries)) (requests role life (notes entries))
        → InTurn (replies role life (notes (TookHere (reading frame) frame ∷ entries)))
        (requests role life (notes (TookHere (reading frame) frame ∷ entries)))
    by-channel (channels.Open open_life) counts g acts kept life turn =
        took-in-turn frame (notes entries) role open_life acts (client-answers role config agreed number open_life frame
        (notes entries) above counts.answerable g) kept life turn
    by-channel Free counts g acts kept life turn = rest-in-turn frame (notes entries) role acts life turn
    by-channel Opening counts g acts kept life turn = rest-in-turn frame (notes entries) role acts life turn
    by-channel Closing counts g acts kept life turn = rest-in-turn frame (notes entries) role acts life turn

    more : (b : Bool) → acts_next role (notes entries) ≡ b → (life : ℕ) → OneMore role life (notes entries)
        → OneMore role life (notes (TookHere (reading frame) frame ∷ entries))
    more true acts life old = took-one-more frame (notes entries) role acts life old
    more false rests life old = rest-one-more frame (notes entries) role rests life old

    keeps : (other : Channel) → ChannelStandsFor role other (TookHere (reading frame) frame ∷ entries)
        → Keeps role other (lives role (notes (entries_before_leaving (TookHere (reading frame) frame ∷ entries))))
        (notes (TookHere (reading frame) frame ∷ entries))
    keeps other other_stands =
        let whole = all-before (TookHere (reading frame) frame ∷ entries) stays in
        let now = subst (Counts role _) (sym whole) (takes-counted role config agreed number channel above
        (reading frame) frame entries counts g) in
        subst (λ channel.
        Keeps role channel (lives role (notes (entries_before_leaving (TookHere (reading frame) frame ∷ entries))))
        (notes (TookHere (reading frame) frame ∷ entries)))
        (one-record role _ other (TookHere (reading frame) frame ∷ entries) now other_stands)
        (subst (λ l. Keeps role (after_taken role (TookHere (reading frame) frame) channel (kind_of (reading frame)))
        (lives role (notes l)) (notes (TookHere (reading frame) frame ∷ entries))) (sym whole)
        (takes-keeps role config agreed number channel frame entries above counts g acts
        (old.in_turn (lives role (notes entries))) kept))

put-matched : (role : Role) (channel : Channel) (frame : Frame) (entries : List ChannelEntry)
    → has_left (notes entries) ≡ false → Counts role channel entries → may_put_here role channel (reading frame)
    ≡ true → may_ask_here role channel (reading frame) ≡ true → Matched role entries
    → Matched role (PutHere (reading frame) frame ∷ entries)
put-matched role channel frame entries stays counts may asks old = record {
  in_turn = λ life. put-in-turn frame (notes entries) role channel may kept life (old.in_turn life);
  one_more = λ life. put-one-more frame (notes entries) role channel may asks kept life (old.one_more life);
  keeps = keeps;
}
  where
    stands : ChannelStandsFor role channel entries
    stands = subst (Counts role channel) (sym (all-before entries stays)) counts

    kept : Keeps role channel (lives role (notes entries)) (notes entries)
    kept =
        subst (λ l. Keeps role channel (lives role (notes l)) (notes entries)) (all-before entries stays)
        (old.keeps channel stands)

    keeps : (other : Channel) → ChannelStandsFor role other (PutHere (reading frame) frame ∷ entries)
        → Keeps role other (lives role (notes (entries_before_leaving (PutHere (reading frame) frame ∷ entries))))
        (notes (PutHere (reading frame) frame ∷ entries))
    keeps other other_stands =
        let whole = all-before (PutHere (reading frame) frame ∷ entries) stays in
        subst (λ channel.
        Keeps role channel (lives role (notes (entries_before_leaving (PutHere (reading frame) frame ∷ entries))))
        (notes (PutHere (reading frame) frame ∷ entries)))
        (one-record role _ other (PutHere (reading frame) frame ∷ entries)
        (follows-put role channel (reading frame) frame entries stays stands may) other_stands)
        (subst (λ l. Keeps role (channel_after_put role (PutHere (reading frame) frame) channel (kind_of (reading frame)))
        (lives role (notes l)) (notes (PutHere (reading frame) frame ∷ entries))) (sym whole)
        (put-keeps frame (notes entries) role channel (kind_of (reading frame)) refl may
        (old.in_turn (lives role (notes entries))) kept))

none-matched : (role : Role) → Matched role []
none-matched role =
    record {
      in_turn = in-turn role;
      one_more = one-more role;
      keeps = λ channel stands.
          subst (λ channel. Keeps role channel 0 []) (one-record role Free channel [] (refl, refl) stands) tt;
    }
  where
    in-turn : (role : Role) (life : ℕ) → InTurn (replies role life []) (requests role life [])
    in-turn Client life = tt
    in-turn Server life = tt

    one-more : (role : Role) (life : ℕ) → OneMore role life []
    one-more Client life = omega arith
    one-more Server life = tt

pub matched : (role : Role) (config : Config role) (entries : List ChannelEntry)
    → ChannelWalk role config entries → Matched role entries
matched role config _ nothing = none-matched role
matched role config _ (leaves {entries = entries} walk) = left-matched role entries (matched role config entries walk)
matched role config _ (puts {entries = entries} channel frame stays counts may asks walk) =
    put-matched role channel frame entries stays counts may asks (matched role config entries walk)
matched role config _ (hears {entries = entries} agreed number channel frame stays counts above g walk) =
    heard-matched role config agreed number channel frame entries stays counts above g
    (matched role config entries walk)
matched role config _ (drops {entries = entries} frame left walk) =
    dropped-matched role frame entries left (matched role config entries walk)
