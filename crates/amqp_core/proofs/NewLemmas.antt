-- An end as it begins.
use Rattle.std.proofs.Common.{◌≡◌, ℕ, Option, None, ap, ◌∙◌}
use Rattle.amqp_model.specs.End.Channels.{Channel, Free, Phase, End, Agreed}
use Rattle.amqp_model.specs.End.Machine.{new_end}
use Rattle.amqp_model.specs.Wire.Notes.{Role}

pub new_is : (role : Role) (phase : Phase) (agreed : Option Agreed) (channels : ℕ → Channel) → phase ≡ (new_end role).phase → agreed ≡ None → ((n : ℕ) → channels n ≡ Free) → record { phase = phase; agreed = agreed; channels = channels } ≡ new_end role
new_is role phase agreed channels p a c =
    let free : channels ≡ (λ (n : ℕ). Free) = λ i n. c n i in
    let Q : (ℕ → Channel) → End = λ x. record { phase = phase; agreed = agreed; channels = x } in
    ap Q free
    ∙ (ap (λ (x : Option Agreed). record { phase = phase; agreed = x; channels = λ (n : ℕ). Free }) a
    ∙ ap (λ (x : Phase). record { phase = x; agreed = None; channels = λ (n : ℕ). Free }) p)
