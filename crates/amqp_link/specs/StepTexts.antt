-- The texts of steps, in the words of the program's scripts.
use Rattle.std.specs.Prelude.{ℕ, List, ◌+◌, ◌++◌, codes}
use Rattle.std.specs.Fmt.{decimal}
use Rattle.amqp_value.specs.Text.{escaped}
use Rattle.amqp_channel.specs.Events.EventTexts.{channel_text, side_text}
use Rattle.amqp_core.specs.Texts.{ask_text}
use Rattle.amqp_core.specs.declared.asks.Ask.{Ask}
use Rattle.amqp_core.specs.declared.asks.Ask.TheVariants as ask
use Rattle.amqp_link.specs.ControlTexts.{control_text}
use Rattle.amqp_link.specs.declared.steps.Direction.{Direction}
use Rattle.amqp_link.specs.declared.steps.Direction.TheVariants.{ToServer, ToClient}
use Rattle.amqp_link.specs.declared.steps.Step.{Step}
use Rattle.amqp_link.specs.declared.steps.Step.TheVariants as step

abbrev pub way_text : Direction → List ℕ
way_text ToServer = codes "to-server"
way_text ToClient = codes "to-client"

-- a word, and a connection as a script numbers it, from 1
abbrev pub place_text : (word : List ℕ) → (connection : ℕ) → List ℕ
place_text word connection = word ++ (codes " " ++ decimal (connection + 1))

-- an ask as the script has it: texts stand without quotes
abbrev pub asked_text : Ask → List ℕ
asked_text (ask.CloseChannel channel code text) = channel_text (codes "close-channel") channel
    ++ (codes " " ++ (decimal code ++ (codes " " ++ escaped text)))
asked_text (ask.Close code text) = codes "close " ++ (decimal code ++ (codes " " ++ escaped text))
asked_text (ask.Blocked reason) = codes "blocked " ++ escaped reason
asked_text a = ask_text a

abbrev pub step_text : Step → List ℕ
step_text step.Begin = codes "begin"
step_text (step.Ask connection side a) = place_text (codes "ask") connection
    ++ (codes " " ++ (side_text side ++ (codes " " ++ asked_text a)))
step_text (step.Control connection side control) =
    place_text (codes "ask") connection ++ (codes " " ++ (side_text side ++ (codes " " ++ control_text control)))
step_text (step.Carry connection way octets) = place_text (codes "carry") connection
    ++ (codes " " ++ (way_text way ++ (codes " " ++ decimal octets)))
step_text (step.Drop connection side) = place_text (codes "drop") connection ++ (codes " " ++ side_text side)
