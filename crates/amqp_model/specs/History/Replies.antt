-- Requests and replies, counted in the entries of a channel. A request is a client's method to which the server
-- replies, a reply a server's method that answers one; open, close and flow have answers of their own.
-- `amqp0-9-1.xml`: the methods with a response; that they are answered in their order is this profile's rule.
use Rattle.std.specs.Prelude.{Bool, true, false, cond, not, ◌&&◌, ℕ, ◌+◌, List, [], ◌∷◌, ◌++◌, drop}
use Rattle.amqp_model.specs.Wire.Notes.{Role, Client, Server}
use Rattle.amqp_model.specs.History.Lives.{counts, is_opening}
use Rattle.amqp_model.specs.Wire.Methods.{MethodKind, carries_content, is_request, is_reply}
use Rattle.amqp_model.specs.Wire.Gathering.{Gathering, Keeps, Completes, Breaks, Step, step}
use Rattle.amqp_model.specs.Wire.Readings.{Reading, Calls, payload_of}
use Rattle.amqp_model.specs.History.Histories.{ChannelEntry, PutHere, TookHere, note_of, notes, under_way}

-- the request that a frame makes, if it makes one
abbrev pub request_made : Reading → List MethodKind
request_made (Calls method) = cond (is_request method) (method.kind ∷ []) []
request_made reading = []

-- a reply that carries no content, which answers as it is taken
abbrev replies_plainly : Reading → Bool
replies_plainly (Calls method) = is_reply method.kind && not (carries_content method)
replies_plainly reading = false

-- a content that is a reply, and is whole now
abbrev pub completes_reply : Step → Bool
completes_reply (Completes content) = is_reply content.method.kind
completes_reply (Keeps gathering) = false
completes_reply (Breaks misfit) = false

-- the method frame of a reply, which a server puts together with all that follows it
abbrev pub begins_reply : Reading → Bool
begins_reply (Calls method) = is_reply method.kind
begins_reply reading = false

abbrev pub one_if : Bool → ℕ
one_if true = 1
one_if false = 0

-- a client asks with what it puts, a server is asked with what it takes
abbrev pub asked_by : Role → ChannelEntry → List MethodKind
asked_by Client (PutHere reading frame) = request_made reading
asked_by Server (TookHere reading frame) = request_made reading
asked_by role entry = []

-- a server answers with the method frame of what it puts; a client is answered by what it takes, a content once
-- that is whole
abbrev pub answered_by : Role → ChannelEntry → (kept : Gathering) → ℕ
answered_by Server (PutHere reading frame) kept = one_if (begins_reply reading)
answered_by Client (TookHere (Calls method) frame) kept = one_if (replies_plainly (Calls method))
answered_by Client (TookHere reading frame) kept = one_if (completes_reply (step kept (payload_of reading)))
answered_by role entry kept = 0

-- the requests of the life, the oldest first: what is dropped does not count
abbrev pub requested : Role → List ChannelEntry → List MethodKind
requested role [] = []
requested role (entry ∷ before) =
    cond (is_opening role (note_of entry) (notes before)) []
    (cond (counts (note_of entry) (notes before)) (requested role before ++ asked_by role entry)
    (requested role before))

-- how many replies there were in the life
abbrev pub replied : Role → List ChannelEntry → ℕ
replied role [] = 0
replied role (entry ∷ before) =
    cond (is_opening role (note_of entry) (notes before)) 0
    (cond (counts (note_of entry) (notes before)) (replied role before + answered_by role entry (under_way before))
    (replied role before))

-- the requests of the life without a reply, the oldest first
abbrev pub unreplied : Role → List ChannelEntry → List MethodKind
unreplied role entries = drop (replied role entries) (requested role entries)
