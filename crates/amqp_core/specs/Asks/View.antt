-- The asks of the code, in the words of the model.
use Rattle.amqp_method.specs.MessageView.{message_view}
use Rattle.amqp_model.specs.End.Asks as model
use Rattle.amqp_model.specs.End.Closes.{no_cause}
use Rattle.amqp_channel.specs.Events.EventView.{message_of}
use Rattle.amqp_core.specs.Heard.View.{cause_view}
use Rattle.amqp_core.specs.Asks.LentLetter.{lent_letter}
use Rattle.amqp_core.specs.declared.asks.Ask.{Ask}
use Rattle.amqp_core.specs.declared.asks.LentAsk.{LentAsk}
use Rattle.amqp_core.specs.declared.asks.LentAsk.TheVariants as lent
use Rattle.amqp_core.specs.declared.asks.Ask.TheVariants.{Open, Send, Flow, CloseChannel, Close, Blocked, Unblocked}

-- a close is about no method
abbrev pub ask_view : Ask → model.Ask
ask_view Open = model.Open
ask_view (Send channel message) = model.Send channel (message_of (message_view message))
ask_view (Flow channel active) = model.Flow channel active
ask_view (CloseChannel channel code text) = model.CloseChannel channel code text no_cause
ask_view (Close code text) = model.Close code text no_cause
ask_view (Blocked reason) = model.Blocked reason
ask_view Unblocked = model.Unblocked

-- the same of an ask that is lent
abbrev pub lent_view : LentAsk → model.Ask
lent_view lent.Open = model.Open
lent_view (lent.Send channel message) = model.Send channel (message_of (lent_letter message))
lent_view (lent.Flow channel active) = model.Flow channel active
lent_view (lent.CloseChannel channel code text cause) = model.CloseChannel channel code text.now (cause_view cause)
lent_view (lent.Close code text cause) = model.Close code text.now (cause_view cause)
lent_view (lent.Blocked reason) = model.Blocked reason.now
lent_view lent.Unblocked = model.Unblocked
