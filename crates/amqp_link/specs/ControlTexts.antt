-- The texts of controls, in the words of the program's scripts: texts stand without quotes.
use Rattle.std.specs.Prelude.{ℕ, List, [], ◌∷◌, ◌++◌, codes}
use Rattle.std.specs.Fmt.{decimal}
use Rattle.amqp_value.specs.Text.{escaped, hexadecimal}
use Rattle.amqp_link.specs.declared.controls.Control.{Control}
use Rattle.amqp_link.specs.declared.controls.Control.TheVariants as control

-- a response in hexadecimal, `-` where it has no octets
abbrev pub response_text : List ℕ → List ℕ
response_text [] = codes "-"
response_text (octet ∷ octets) = hexadecimal (octet ∷ octets)

abbrev pub answer_text : (mechanism response locale : List ℕ) → List ℕ
answer_text mechanism response locale =
    codes "answer-start " ++ (escaped mechanism ++ (codes " "
    ++ (response_text response ++ (codes " " ++ escaped locale))))

abbrev pub control_text : Control → List ℕ
control_text control.Beat = codes "beat"
control_text control.Admit = codes "admit"
control_text (control.Refuse code text) = codes "refuse " ++ (decimal code ++ (codes " " ++ escaped text))
control_text (control.AnswerStart mechanism response locale) = answer_text mechanism response.items locale
