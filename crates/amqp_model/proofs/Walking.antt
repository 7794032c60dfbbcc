-- What each entry of a lawful history is to what its end keeps: one walk along a history, for all that such entries
-- keep.
use Rattle.std.proofs.Common.{◌≡◌, ◌⊎◌, inl, inr, Bool, true, false, ◌||◌, ℕ, List, [], ◌∷◌}
use Rattle.std.proofs.Common.{refl}
use Rattle.amqp_model.specs.Wire.Frame.{Frame}
use Rattle.amqp_model.specs.Wire.Notes.{Role, Client, Server}
use Rattle.amqp_model.specs.Wire.Methods.{MethodKind}
use Rattle.amqp_model.specs.Wire.Readings.{Reading, reading}
use Rattle.amqp_model.specs.History.Replies.{request_made}
use Rattle.amqp_model.specs.History.Histories.{Entry, Put, Took, History, PutHere, TookHere}
use Rattle.amqp_model.specs.End.Channels.{Channel, Free, Open, HandshakeStep, Handshake, Running, End}
use Rattle.amqp_model.specs.History.Negotiation.{Config}
use Rattle.amqp_model.specs.End.EndVerdict.{end_verdict, goes_on}
use Rattle.amqp_model.specs.End.Machine.{may_put_here, end_after, StandsFor}
use Rattle.amqp_model.specs.Laws.EndLaws.{EntryFits}
use Rattle.amqp_model.proofs.EndSteps.{end-follows}

abbrev pub is_none : List MethodKind → Bool
is_none [] = true
is_none (kind ∷ later) = false

-- a client makes a request only where none waits
abbrev pub may_ask_here : Role → Channel → Reading → Bool
may_ask_here Client (Open life) r = is_none (request_made r) || is_none life.requests
may_ask_here role channel r = true

-- what makes no request may stand anywhere
pub quiet-asks : (role : Role) (channel : Channel) (r : Reading) → request_made r ≡ []
    → may_ask_here role channel r ≡ true
quiet-asks Client (Open life) r e = simp e
quiet-asks Client channel r e = refl
quiet-asks Server channel r e = refl

-- an end may put this on this channel
abbrev pub MayPut : Role → End → (channel : ℕ) → Reading → Type 0
MayPut role end channel r =
    (channel ≡ 0) ⊎ ((end.phase ≡ Running) × (may_put_here role (end.channels channel) r ≡ true)
    × (may_ask_here role (end.channels channel) r ≡ true))

-- the end goes on with a frame that it takes, and may put one that it puts
abbrev pub EntrySound : (role : Role) → Config role → End → Entry → Type 0
EntrySound role config end (Took frame) = goes_on (end_verdict config end frame) ≡ true
EntrySound role config end (Put frame) = MayPut role end frame.channel (reading frame)

pub sound-fits : (role : Role) (config : Config role) (end : End) (entry : Entry) → EntrySound role config end entry
    → EntryFits role config end entry
sound-fits role config end (Took frame) s = s
sound-fits role config end (Put frame) (inl e) = inl e
sound-fits role config end (Put frame) (inr s) = inr (s.0, s.1)

-- what holds of an end and its history, and of the next one with each frame that it puts
pub record IsKeptByPuts (P : (role : Role) → Config role → End → History → Type 0) : Type 0 where
  pub put : (role : Role) (config : Config role) (end : End) (history : History) (frame : Frame)
      → P role config end history → MayPut role end frame.channel (reading frame)
      → P role config (end_after role config frame.channel (PutHere (reading frame) frame) end)
      (Put frame ∷ history)

-- and with each frame that it takes; while the handshake goes on every channel is Free
pub record IsKept (P : (role : Role) → Config role → End → History → Type 0) : Type 0 where
  pub puts : IsKeptByPuts P
  pub took : (role : Role) (config : Config role) (end : End) (history : History) (frame : Frame)
      → P role config end history → goes_on (end_verdict config end frame) ≡ true
      → P role config (end_after role config frame.channel (TookHere (reading frame) frame) end)
      (Took frame ∷ history)
  pub free_before : (role : Role) (config : Config role) (end : End) (history : History) → P role config end history
      → (step : HandshakeStep) → end.phase ≡ Handshake step → (n : ℕ) → end.channels n ≡ Free

-- that it stands for its history is such
abbrev pub Stands : (role : Role) → Config role → End → History → Type 0
Stands role config end history = StandsFor role config false end history

put-stands : (role : Role) (config : Config role) (end : End) (history : History) (frame : Frame)
    → Stands role config end history → MayPut role end frame.channel (reading frame)
    → Stands role config (end_after role config frame.channel (PutHere (reading frame) frame) end)
    (Put frame ∷ history)
put-stands role config end history frame s may =
    end-follows role config end history (Put frame) s (sound-fits role config end (Put frame) may)

pub stands-kept : IsKept Stands
stands-kept = record {
  puts = record { put = put-stands };
  took = λ role config end history frame s g. end-follows role config end history (Took frame) s g;
  free_before = λ role config end history s. s.free_before;
}

-- each entry is sound where what is kept stands for what is before it
pub data Walks (role : Role) (config : Config role) : History → Type 0 where
  at_start : Walks role config []
  entered : {history : History} (end : End) (entry : Entry) → StandsFor role config false end history
      → EntrySound role config end entry → Walks role config history → Walks role config (entry ∷ history)

pub record Walked (role : Role) (config : Config role) (end : End) (history : History) : Type 0 where
  pub stands : StandsFor role config false end history
  pub walks : Walks role config history

put-walked : (role : Role) (config : Config role) (end : End) (history : History) (frame : Frame)
    → Walked role config end history → MayPut role end frame.channel (reading frame)
    → Walked role config (end_after role config frame.channel (PutHere (reading frame) frame) end)
    (Put frame ∷ history)
put-walked role config end history frame w may =
    record {
      stands = put-stands role config end history frame w.stands may;
      walks = entered end (Put frame) w.stands may w.walks;
    }

took-walked : (role : Role) (config : Config role) (end : End) (history : History) (frame : Frame)
    → Walked role config end history → goes_on (end_verdict config end frame) ≡ true
    → Walked role config (end_after role config frame.channel (TookHere (reading frame) frame) end)
    (Took frame ∷ history)
took-walked role config end history frame w g =
    record {
      stands = end-follows role config end history (Took frame) w.stands g;
      walks = entered end (Took frame) w.stands g w.walks;
    }

pub walked-kept : IsKept Walked
walked-kept = record {
  puts = record { put = put-walked };
  took = took-walked;
  free_before = λ role config end history w. w.stands.free_before;
}
