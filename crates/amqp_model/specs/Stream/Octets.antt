-- What an end was fed: the protocol header at a server, then the frames that it took, then a rest. AMQP 0-9-1
-- specification, sections 2.3.4, "Delimiting Frames", and 4.2.2, "Protocol Header". What it put is said in
-- `Departures`.
use Rattle.std.specs.Prelude.{◌≡◌, ◌≢◌, ◌+◌, Bool, true, false, ℕ, List, [], ◌∷◌, ◌++◌}
use Rattle.std.specs.Prelude.{length}
use Rattle.amqp_frame.specs.Splitting.{stream, AllFit, IsRest, TellsFirst}
use Rattle.amqp_frame.specs.declared.faults.FrameFaultKind.{FrameFaultKind}
use Rattle.amqp_model.specs.Wire.Frame.{Frame}
use Rattle.amqp_model.specs.Wire.Notes.{Role, Client, Server}
use Rattle.amqp_model.specs.History.Histories.{Put, Took, History}
use Rattle.amqp_model.specs.History.Negotiation.{PROTOCOL_HEADER}

-- the frames that the end took, the oldest first
abbrev pub frames_taken : History → List Frame
frames_taken [] = []
frames_taken (Took frame ∷ before) = frames_taken before ++ frame ∷ []
frames_taken (Put frame ∷ before) = frames_taken before

-- the frames that it put, the oldest first
abbrev pub frames_put : History → List Frame
frames_put [] = []
frames_put (Put frame ∷ before) = frames_put before ++ frame ∷ []
frames_put (Took frame ∷ before) = frames_put before

-- what stands before the frames that an end reads, and before those that it writes; a server to which another protocol
-- header comes writes that header too, and nothing else
abbrev pub opening_read : Role → List ℕ
opening_read Client = []
opening_read Server = PROTOCOL_HEADER

abbrev pub opening_written : Role → List ℕ
opening_written Client = PROTOCOL_HEADER
opening_written Server = []

-- the opening was read: a server puts start as it has read the whole of it
abbrev pub has_opened : Role → History → Bool
has_opened Client history = true
has_opened Server [] = false
has_opened Server (entry ∷ before) = true

-- What was fed to an end that has not failed, and the octets of it that are no whole frame yet, nor the whole opening.
-- An end that is closed takes no octet more.
pub data FedAs (role : Role) (limit : ℕ) (history : History) (fed unfinished : List ℕ) : Type 0 where
  in_opening :
      (missing : List ℕ) → missing ≢ [] → opening_read role ≡ fed ++ missing
      → history ≡ [] → unfinished ≡ fed → FedAs role limit history fed unfinished
  in_frames :
      has_opened role history ≡ true → fed ≡ opening_read role ++ (stream (frames_taken history) ++ unfinished)
      → AllFit (frames_taken history)
      → IsRest limit unfinished → FedAs role limit history fed unfinished

-- What was fed to an end up to the octet that showed a fault: an octet that is not the opening's, the last octet of the
-- frame that it took last, or an octet by which the rest shows a fault.
pub data FailedAt (role : Role) (limit : ℕ) (history : History) (fed : List ℕ) : Type 0 where
  off_opening :
      (prefix later : List ℕ) (octet wanted : ℕ) → opening_read role ≡ prefix ++ wanted ∷ later
      → fed ≡ prefix ++ octet ∷ []
      → octet ≢ wanted
      → history ≡ [] → FailedAt role limit history fed
  at_frame :
      (earlier : List Frame) (last : Frame) → frames_taken history ≡ earlier ++ last ∷ []
      → has_opened role history ≡ true
      → fed ≡ opening_read role ++ stream (frames_taken history) → AllFit (frames_taken history)
      → FailedAt role limit history fed
  in_rest :
      (rest : List ℕ) (place : ℕ) (kind : FrameFaultKind) → has_opened role history ≡ true
      → fed ≡ opening_read role ++ (stream (frames_taken history) ++ rest) → AllFit (frames_taken history)
      → length rest ≡ place + 1
      → TellsFirst limit rest kind place → FailedAt role limit history fed
