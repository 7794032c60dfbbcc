-- What an end answers of its channels is what its history says of them.
use Rattle.std.proofs.Common.{◌≡◌, ◌≢◌, Bool, true, false, cond, ◌||◌, ℕ, suc, ◌==◌, nat_lt, List}
use Rattle.std.proofs.Common.{length, None, refl, sym, ap, ◌∙◌, subst}
use Rattle.std.proofs.lemmas.Bool.{true≢false, cond-false, le-ltb}
use Rattle.amqp_model.specs.Wire.Notes.{Role}
use Rattle.amqp_model.specs.History.States.{State}
use Rattle.amqp_model.specs.Wire.Contents.{Payload}
use Rattle.amqp_model.specs.Wire.Gathering.{Nothing, gathering, kept}
use Rattle.amqp_model.specs.History.Histories.{History, entries_on, entries_before_leaving, under_way}
use Rattle.amqp_model.specs.End.Channels.{Life, Channel, Free, Opening, Closing, Open, Phase, Handshake, Running}
use Rattle.amqp_model.specs.End.Channels.{Closed, Failed, End, state_of}
use Rattle.amqp_model.specs.End.Channels as channels
use Rattle.amqp_model.specs.History.Negotiation.{Config}
use Rattle.amqp_model.specs.End.Asks.{channel_max}
use Rattle.amqp_model.specs.End.Answers.{state_in, kept_by, kept_in, due_by, due_in, octets_gathered}
use Rattle.amqp_model.specs.End.EndVerdict.{takes_octets}
use Rattle.amqp_model.specs.End.Machine.{ChannelStandsFor, CountsOpen, StandsFor}
use Rattle.amqp_model.specs.Laws.AnswersInWords.{taken_on, StateIsOfNotes, ClosedIsFree, GatheredIsUnderWay}
use Rattle.amqp_model.specs.Laws.AnswersInWords.{NoneIsGathered, OnlyOpenGathers, OnlyOpenIsDue}
use Rattle.amqp_model.proofs.EndSteps.{not-zero, stays-here}
use Rattle.amqp_model.proofs.Following.{all-before}
use Rattle.amqp_model.proofs.GatheringLemmas.{keeps-octets, keeps-under_way}
use Rattle.amqp_model.proofs.Standing.{channel-stands, state-reads}

pub state-is-of-notes : (role : Role) (config : Config role) (end : End) (history : History) (n : ℕ)
    → StateIsOfNotes role config end history n
state-is-of-notes role config end history n stands takes within =
    cond-false ((suc n == 0) || nat_lt (channel_max end.agreed) (suc n)) _ _
    (either (not-zero n) (le-ltb (channel_max end.agreed) (suc n) within))
    ∙ (by-phase end.phase takes ∙ (ap state_of (sym (channel-stands role config end history stands (suc n)))
    ∙ state-reads role (entries_on (suc n) history)))
  where
    either : {a b : Bool} → a ≡ false → b ≡ false → (a || b) ≡ false
    either e f = simp (e, f)

    by-phase : (phase : Phase) → takes_octets phase ≡ true → state_in phase (end.channels (suc n))
        ≡ state_of (end.channels (suc n))
    by-phase (Handshake step) e = refl
    by-phase Running e = refl
    by-phase Phase.Closing e = refl
    by-phase Closed e = absurd (true≢false (sym e))
    by-phase Failed e = absurd (true≢false (sym e))

pub closed-is-free : ClosedIsFree
closed-is-free end n e =
    ap (λ phase. cond ((n == 0) || nat_lt (channel_max end.agreed) n) State.Free (state_in phase (end.channels n))) e
    ∙ always ((n == 0) || nat_lt (channel_max end.agreed) n)
  where
    always : (b : Bool) → cond b State.Free State.Free ≡ State.Free
    always true = refl
    always false = refl

-- what is kept of a content is what the payloads taken leave under way
content-is : (role : Role) (config : Config role) (end : End) (history : History) (n : ℕ) (life : Life)
    → StandsFor role config false end history → end.phase ≡ Running
    → end.channels (suc n) ≡ channels.Open life
    → octets_gathered end (suc n) ≡ length (kept (gathering (taken_on (suc n) history)))
content-is role config end history n life stands runs opened =
    ap (λ phase. length (kept_in phase (end.channels (suc n)))) runs
    ∙ (ap (λ channel. length (kept_by channel)) opened ∙ ap (λ content. length (kept content)) (sym counts.content
    ∙ ap under_way (all-before (entries_on (suc n) history) (stays-here role config end history n stands runs))))
  where
    counts : CountsOpen role life (entries_before_leaving (entries_on (suc n) history))
    counts =
        subst (λ channel. ChannelStandsFor role channel (entries_on (suc n) history)) opened (stands.channels refl n)

pub gathered-is-under-way : (role : Role) (config : Config role) (end : End) (history : History) (n : ℕ) (life : Life)
    (since : List Payload) → GatheredIsUnderWay role config end history n life since
gathered-is-under-way role config end history n life since stands runs opened under =
    content-is role config end history n life stands runs opened
    ∙ ap length (keeps-octets (taken_on (suc n) history) since under)

pub none-is-gathered : (role : Role) (config : Config role) (end : End) (history : History) (n : ℕ) (life : Life)
    → NoneIsGathered role config end history n life
none-is-gathered role config end history n life stands runs opened none =
    content-is role config end history n life stands runs opened
    ∙ ap (λ content. length (kept content)) ((keeps-under_way (taken_on (suc n) history) Nothing).1 none)

pub only-open-gathers : OnlyOpenGathers
only-open-gathers end n some = cases end.phase refl (end.channels n) refl some
  where
    cases : (phase : Phase) → end.phase ≡ phase → (channel : Channel) → end.channels n ≡ channel
        → length (kept_in phase channel) ≢ 0 → (life : Life) × (end.phase ≡ Running)
        × (end.channels n ≡ channels.Open life)
    cases Running p (channels.Open life) c some = (life, p, c)
    cases Running p Free c some = absurd (some refl)
    cases Running p Opening c some = absurd (some refl)
    cases Running p Closing c some = absurd (some refl)
    cases (Handshake step) p channel c some = absurd (some refl)
    cases Phase.Closing p channel c some = absurd (some refl)
    cases Closed p channel c some = absurd (some refl)
    cases Failed p channel c some = absurd (some refl)

pub only-open-is-due : OnlyOpenIsDue
only-open-is-due end n some = cases end.phase refl (end.channels n) refl some
  where
    by-channel : takes_octets end.phase ≡ true → (channel : Channel) → end.channels n ≡ channel
        → due_by channel ≢ None → (life : Life) × (takes_octets end.phase ≡ true)
        × (end.channels n ≡ channels.Open life)
    by-channel t (channels.Open life) c some = (life, t, c)
    by-channel t Free c some = absurd (some refl)
    by-channel t Opening c some = absurd (some refl)
    by-channel t Closing c some = absurd (some refl)

    cases : (phase : Phase) → end.phase ≡ phase → (channel : Channel) → end.channels n ≡ channel
        → due_in phase channel ≢ None → (life : Life) × (takes_octets end.phase ≡ true)
        × (end.channels n ≡ channels.Open life)
    cases (Handshake step) p channel c some = by-channel (ap takes_octets p) channel c some
    cases Running p channel c some = by-channel (ap takes_octets p) channel c some
    cases Phase.Closing p channel c some = by-channel (ap takes_octets p) channel c some
    cases Closed p channel c some = absurd (some refl)
    cases Failed p channel c some = absurd (some refl)
