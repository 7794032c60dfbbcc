-- Lives and states of a channel, counted in the notes of one end.
--
-- A history is a list of notes, the newest first: what stands before a note is the list after it. A channel's
-- number is used again, and no frame says to which life of the number it belongs: each end counts.
--
-- Opening and closing: AMQP 0-9-1 specification, sections 2.2.5 and 2.3.7, and `amqp0-9-1.xml`, channel.open and
-- channel.close. Who has put close drops all it takes but close and close-ok, and answers a close with close-ok. This
-- profile adds that it keeps the number until it takes close-ok, also where the other's close crosses its own.
-- Flow: `amqp0-9-1.xml`, channel.flow. A new channel is active; that a flow waits for the one before it to be
-- answered is this profile's rule.
use Rattle.std.specs.Prelude.{Bool, true, false, cond, not, ◌&&◌, ◌||◌, ℕ, suc, List, [], ◌∷◌}
use Rattle.amqp_model.specs.History.States.{State, Free, Opening, Closing}
use Rattle.amqp_model.specs.Wire.Notes.{Role, is_client, is_server, Open, OpenOk, Close, CloseOk, Flow, FlowOk, Note}
use Rattle.amqp_model.specs.Wire.Notes.{Put, Took, Leaving}

-- a test of a note, given what stands before it
abbrev pub Test : Type 0
Test = Note → List Note → Bool

-- some note was such, and none of the notes since was so
abbrev pub since : Test → Test → List Note → Bool
since such so [] = false
since such so (note ∷ before) = cond (such note before) true (cond (so note before) false (since such so before))

-- how many notes were such
abbrev pub how_many : Test → List Note → ℕ
how_many such [] = 0
how_many such (note ∷ before) = cond (such note before) (suc (how_many such before)) (how_many such before)

-- one test or the other
abbrev pub either : Test → Test → Test
either this that note before = this note before || that note before

abbrev pub puts_close : Test
puts_close (Put Close frame) before = true
puts_close _ before = false

abbrev pub takes_close_ok : Test
takes_close_ok (Took CloseOk frame) before = true
takes_close_ok _ before = false

-- the end put close, and has taken no close-ok since
abbrev pub waits : List Note → Bool
waits history = since puts_close takes_close_ok history

-- taken while the end waits, and neither close nor close-ok: such a note does not count
abbrev is_dropped : Test
is_dropped (Took Close frame) before = false
is_dropped (Took CloseOk frame) before = false
is_dropped (Took kind frame) before = waits before
is_dropped _ before = false

abbrev pub counts : Test
counts note before = not (is_dropped note before)

-- an open that counts: put by the client, taken by the server
abbrev pub is_opening : Role → Test
is_opening role (Put Open frame) before = is_client role
is_opening role (Took Open frame) before = is_server role && counts (Took Open frame) before
is_opening role _ before = false

-- the life of the newest note: how many opening notes there are up to and with it
abbrev pub lives : Role → List Note → ℕ
lives role history = how_many (is_opening role) history

-- a close-ok that the end waited for, or the other's close where it did not wait
abbrev pub ends_life : Test
ends_life (Took CloseOk frame) before = waits before
ends_life (Took Close frame) before = not (waits before)
ends_life _ before = false

-- a life began, and nothing has ended it since
abbrev pub is_alive : Role → List Note → Bool
is_alive role history = since (is_opening role) ends_life history

abbrev pub takes_open_ok : Test
takes_open_ok (Took OpenOk frame) before = counts (Took OpenOk frame) before
takes_open_ok _ before = false

-- an open-ok was taken in this life
abbrev pub has_open_ok : Role → List Note → Bool
has_open_ok role history = since takes_open_ok (is_opening role) history

abbrev pub puts_flow : Test
puts_flow (Put (Flow active) frame) before = true
puts_flow _ before = false

abbrev pub takes_flow_ok : Test
takes_flow_ok (Took (FlowOk active) frame) before = counts (Took (FlowOk active) frame) before
takes_flow_ok _ before = false

-- the end put a flow in this life, and has taken no flow-ok since
abbrev pub awaits_flow_ok : Role → List Note → Bool
awaits_flow_ok role history = since puts_flow (either (is_opening role) takes_flow_ok) history

abbrev pub takes_flow : Test
takes_flow (Took (Flow active) frame) before = counts (Took (Flow active) frame) before
takes_flow _ before = false

abbrev pub takes_pause : Test
takes_pause (Took (Flow false) frame) before = counts (Took (Flow false) frame) before
takes_pause _ before = false

-- the last flow that the end took in this life had active 0: it begins no content but get-ok
abbrev pub is_paused : Role → List Note → Bool
is_paused role history = since takes_pause (either (is_opening role) takes_flow) history

-- also one that is dropped: what is said of the time after it holds then, too
abbrev pub takes_pause_ok : Test
takes_pause_ok (Took (FlowOk false) frame) before = true
takes_pause_ok _ before = false

abbrev pub puts_restart : Test
puts_restart (Put (Flow true) frame) before = true
puts_restart _ before = false

-- the end has paused the other: it took flow-ok with active 0 in this life, and has put no flow with active 1 since
abbrev pub pauses_other : Role → List Note → Bool
pauses_other role history = since takes_pause_ok (either (is_opening role) puts_restart) history

-- the end put connection.close
abbrev pub has_left : List Note → Bool
has_left [] = false
has_left (Leaving ∷ before) = true
has_left (_ ∷ before) = has_left before

-- the notes before the end put connection.close, all of them where it did not
abbrev pub before_leaving : List Note → List Note
before_leaving [] = []
before_leaving (Leaving ∷ before) = before_leaving before
before_leaving (note ∷ before) = cond (has_left before) (before_leaving before) (note ∷ before)

abbrev pub state_word : (alive waiting opened : Bool) → State
state_word false waiting opened = Free
state_word true true opened = Closing
state_word true false true = State.Open
state_word true false false = Opening

-- the state of a channel of which all these notes count
abbrev pub state_by : Role → List Note → State
state_by role history = state_word (is_alive role history) (waits history) (is_server role || has_open_ok role history)

-- The state of the channel: what follows the end's connection.close does not change it. The lives go on being
-- counted, since the other end opens channels until it takes that close.
abbrev pub state : Role → List Note → State
state role history = state_by role (before_leaving history)
