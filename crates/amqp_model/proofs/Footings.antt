-- Where an end is with the connection itself: its phase, and what was agreed. Frames of channel 0 alone move it.
use Rattle.std.proofs.Common.{◌≡◌, ℕ, zero, suc, arith, List, [], ◌∷◌, Option, refl, ap, ◌∙◌}
use Rattle.amqp_model.specs.Wire.Frame.{Frame}
use Rattle.amqp_model.specs.Wire.Notes.{Role}
use Rattle.amqp_model.specs.Wire.Readings.{Reading, Calls, reading}
use Rattle.amqp_model.specs.History.Histories.{ChannelEntry, PutHere, TookHere}
use Rattle.amqp_model.specs.End.Channels.{Free, Phase, Agreed, End}
use Rattle.amqp_model.specs.History.Negotiation.{Config}
use Rattle.amqp_model.specs.End.Closes.{Owed, frame_of}
use Rattle.amqp_model.specs.End.Events.{FrameVerdict}
use Rattle.amqp_model.specs.End.FrameVerdict.{Facts, verdict_on, methods_put}
use Rattle.amqp_model.specs.End.Machine.{phase_after, agreed_after, end_after, end_after_owed, end_after_put}
use Rattle.amqp_model.proofs.Elsewhere.{Each}

pub record Footing : Type 0 where
  pub phase : Phase
  pub agreed : Option Agreed

abbrev pub footing_of : End → Footing
footing_of end = record { phase = end.phase; agreed = end.agreed }

-- an entry of this channel
abbrev pub footing_after : (role : Role) → Config role → (number : ℕ) → ChannelEntry → Footing → Footing
footing_after role config zero entry footing =
    record {
      phase = phase_after role entry footing.phase;
      agreed = agreed_after role config footing.phase entry footing.agreed;
    }
footing_after role config (suc n) entry footing = footing

-- methods owed
abbrev pub footing_owed : (role : Role) → Config role → List Owed → Footing → Footing
footing_owed role config [] footing = footing
footing_owed role config (owed ∷ later) footing =
    footing_owed role config later
    (footing_after role config owed.channel (PutHere (Calls owed.method) (frame_of owed)) footing)

-- frames put
abbrev pub footing_put : (role : Role) → Config role → List Frame → Footing → Footing
footing_put role config [] footing = footing
footing_put role config (frame ∷ later) footing =
    footing_put role config later (footing_after role config frame.channel (PutHere (reading frame) frame) footing)

pub after-footing : (role : Role) (config : Config role) (number : ℕ) (entry : ChannelEntry) (end : End)
    → footing_of (end_after role config number entry end) ≡ footing_after role config number entry (footing_of end)
after-footing role config zero entry end = refl
after-footing role config (suc n) entry end = refl

pub owed-footing : (role : Role) (config : Config role) (owed : List Owed) (end : End)
    → footing_of (end_after_owed role config owed end) ≡ footing_owed role config owed (footing_of end)
owed-footing role config [] end = refl
owed-footing role config (owed ∷ later) end =
    owed-footing role config later _
    ∙ ap (footing_owed role config later)
    (after-footing role config owed.channel (PutHere (Calls owed.method) (frame_of owed)) end)

pub put-footing : (role : Role) (config : Config role) (frames : List Frame) (end : End)
    → footing_of (end_after_put role config frames end) ≡ footing_put role config frames (footing_of end)
put-footing role config [] end = refl
put-footing role config (frame ∷ later) end =
    put-footing role config later _
    ∙ ap (footing_put role config later) (after-footing role config frame.channel (PutHere (reading frame) frame) end)

-- What is taken on channel 0.

abbrev pub facts_of : {role : Role} → Config role → Footing → Facts role
facts_of config footing =
    record { config = config; phase = footing.phase; agreed = footing.agreed; number = 0; channel = Free }

abbrev pub verdict_of : {role : Role} → Config role → Footing → Reading → FrameVerdict
verdict_of config footing r = verdict_on (facts_of config footing) r

abbrev pub owed_of : {role : Role} → Config role → Footing → Reading → List Owed
owed_of config footing r = methods_put (facts_of config footing) (verdict_of config footing r)

abbrev pub footing_heard : (role : Role) → Config role → Footing → Reading → Frame → Footing
footing_heard role config footing r frame =
    footing_owed role config (owed_of config footing r) (footing_after role config 0 (TookHere r frame) footing)

-- methods owed on channel 0 leave the channels, and such of another channel the footing
pub zero-channels : (role : Role) (config : Config role) (owed : List Owed) (end : End) (n : ℕ)
    → Each (λ owed. owed.channel ≡ 0) owed → (end_after_owed role config owed end).channels n ≡ end.channels n
zero-channels role config [] end n each = refl
zero-channels role config (owed ∷ later) end n each =
    zero-channels role config later _ n each.1 ∙ here owed.channel each.0
  where
    here : (c : ℕ) → c ≡ 0
        → (end_after role config c (PutHere (Calls owed.method) (frame_of owed)) end).channels n ≡ end.channels n
    here zero e = refl
    here (suc m) e = absurd (let h : suc m ≡ 0 = e in omega arith)
