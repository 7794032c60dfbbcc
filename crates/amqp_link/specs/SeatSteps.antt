-- What is done with one side of a connection, and with both where octets are carried.
use Rattle.std.specs.Prelude.{◌≡◌, ◌≢◌, ◌<◌, ◌≤◌, ◌+◌, ◌-◌, true, false, ℕ, List, [], ◌++◌, length, take, Option, None, Result, Ok, Err}
use Rattle.amqp_model.specs.End.Asks.{Ask, AskVerdict, Refusal, frames_asked, refusal}
use Rattle.amqp_model.specs.End.Controls.{Control}
use Rattle.amqp_model.specs.Stream.Endpoint.{Feeding, after_feed, after_wrote, new_endpoint}
use Rattle.amqp_model.specs.History.Histories.{History}
use Rattle.amqp_model.specs.End.LawfulHistories.{then_put}
use Rattle.amqp_model.specs.History.Negotiation.{Config}
use Rattle.amqp_model.specs.Wire.Notes.{Role}
use Rattle.amqp_model.specs.Output.Outputs.{output_octets}
use Rattle.amqp_core.specs.Faults.Answering.{ran_out}
use Rattle.amqp_core.specs.Asks.Effects.{AcceptsAsk}
use Rattle.amqp_core.specs.Asks.Controlled.{frames_by, refusal_by}
use Rattle.amqp_core.specs.Asks.Controlling.{AcceptsControl, verdict_at}
use Rattle.amqp_core.specs.Faults.Numbers.{refusal_view}
use Rattle.amqp_core.specs.End.Feeding.{IsFed, seen}
use Rattle.amqp_core.specs.Traced.Tracing.{FedGrows, IsTraceOf, TraceGoesOn}
use Rattle.amqp_core.specs.declared.taken.Taken.{Taken}
use Rattle.amqp_core.specs.declared.faults.CoreFault.{CoreFault}
use Rattle.amqp_core.specs.declared.faults.CoreFault.TheVariants as core
use Rattle.amqp_link.specs.Seats.{Seated}
use Rattle.amqp_link.specs.declared.faults.LinkFault.{LinkFault}
use Rattle.amqp_link.specs.declared.faults.OutOfMemory.{OutOfMemory}
use Rattle.amqp_link.specs.declared.faults.LinkFault.TheVariants as faults

-- what is answered to what is done with a side
abbrev pub Answer : Type 0
Answer = Result (Unit {0}) LinkFault

-- the octets that a side has to write
abbrev pub to_write : Seated → List ℕ
to_write seated = output_octets seated.kept.endpoint.output

-- A side as it begins: nothing was taken, put, fed or written.
pub record IsNew (set_up : (role : Role) × Config role) (seated : Seated) : Type 0 where
  pub set_up_so : seated.set_up ≡ set_up
  pub endpoint : seated.kept.endpoint ≡ new_endpoint set_up.0
  pub trace : IsTraceOf set_up.0 set_up.1 seated.kept []
  pub fed : seated.kept.fed ≡ []
  pub written : seated.kept.written ≡ []
  pub there : seated.dropped ≡ false

-- What an application does.

-- What comes of it, by the answer: the end accepts it; or the side was dropped, or its end has this refusal, or else
-- memory was refused, and nothing has changed.
abbrev pub SideAnswers : (refused : Option Refusal) → (Accepts : Type 0) → (old : Seated) → Answer → (new : Seated)
    → Type 0
SideAnswers refused Accepts old (Ok done) new = Accepts
SideAnswers refused Accepts old (Err faults.Dropped) new = (old.dropped ≡ true) × (new ≡ old)
SideAnswers refused Accepts old (Err (faults.Ask fault)) new =
    (old.dropped ≡ false) × (refused ≡ refusal_view fault) × (refusal_view fault ≢ None) × (new ≡ old)
SideAnswers refused Accepts old (Err faults.OutOfMemory) new = (old.dropped ≡ false) × (refused ≡ None) × (new ≡ old)
SideAnswers refused Accepts old (Err faults.NoSuchConnection) new = ⊥
SideAnswers refused Accepts old (Err faults.NotSoMany) new = ⊥

-- Asks.

-- which refusal of its end an ask meets, if it meets one
abbrev pub refusal_at : Seated → Ask → Option Refusal
refusal_at seated ask = refusal seated.set_up.0 seated.kept.endpoint.end ask

-- An ask is accepted: the end is left as the definitions say, and each history that it was the trace of goes on with
-- the frames of the ask.
pub record AcceptsBy (set_up : (role : Role) × Config role) (ask : Ask) (old new : Seated) : Type 0 where
  pub was_there : old.dropped ≡ false
  pub is_there : new.dropped ≡ false
  pub set_up_same : new.set_up ≡ old.set_up
  pub accepts : AcceptsAsk set_up.0 set_up.1 ask old.kept.endpoint new.kept.endpoint
  pub history : (history : History) → IsTraceOf set_up.0 set_up.1 old.kept history
      → ∥ IsTraceOf set_up.0 set_up.1 new.kept (then_put (frames_asked old.kept.endpoint.end ask) history) ∥₁
  pub fed : new.kept.fed ≡ old.kept.fed
  pub written : new.kept.written ≡ old.kept.written

abbrev pub SideAccepts : Ask → (old new : Seated) → Type 0
SideAccepts ask old new = AcceptsBy old.set_up ask old new

-- what an ask makes of a side
abbrev pub SideAsked : Ask → (old : Seated) → Answer → (new : Seated) → Type 0
SideAsked ask old answer new = SideAnswers (refusal_at old ask) (SideAccepts ask old new) old answer new

-- Heartbeats, and what is decided in the handshake.

-- what comes of it at the end of a side that is set up so
abbrev pub verdict_by : (set_up : (role : Role) × Config role) → Seated → Control → AskVerdict
verdict_by set_up seated control = verdict_at set_up.0 set_up.1 control seated.kept.endpoint

-- It is accepted: the end puts one frame and is left as the definitions say, and each history that it was the trace of
-- goes on with the frame.
pub record AcceptsControlBy (set_up : (role : Role) × Config role) (control : Control) (old new : Seated) : Type 0 where
  pub was_there : old.dropped ≡ false
  pub is_there : new.dropped ≡ false
  pub set_up_same : new.set_up ≡ old.set_up
  pub accepts : AcceptsControl set_up.0 set_up.1 control old.kept.endpoint new.kept.endpoint
  pub history : (history : History) → IsTraceOf set_up.0 set_up.1 old.kept history
      → ∥ IsTraceOf set_up.0 set_up.1 new.kept (then_put (frames_by (verdict_by set_up old control)) history) ∥₁
  pub fed : new.kept.fed ≡ old.kept.fed
  pub written : new.kept.written ≡ old.kept.written

abbrev pub SideAcceptsControl : Control → (old new : Seated) → Type 0
SideAcceptsControl control old new = AcceptsControlBy old.set_up control old new

-- what a control makes of a side
abbrev pub SideControlled : Control → (old : Seated) → Answer → (new : Seated) → Type 0
SideControlled control old answer new =
    SideAnswers (refusal_by (verdict_by old.set_up old control)) (SideAcceptsControl control old new) old answer new

-- Drops.

-- a side is dropped, and all that it keeps stays
pub record SideDrops (old new : Seated) : Type 0 where
  pub was_there : old.dropped ≡ false
  pub is_dropped : new.dropped ≡ true
  pub set_up : new.set_up ≡ old.set_up
  pub kept : new.kept ≡ old.kept

abbrev pub SideDropped : (old : Seated) → Answer → (new : Seated) → Type 0
SideDropped old (Ok done) new = SideDrops old new
SideDropped old (Err faults.Dropped) new = (old.dropped ≡ true) × (new ≡ old)
SideDropped old (Err fault) new = ⊥

-- Octets that are carried.

-- the octets of a piece that is fed, if the writer's output begins with it
abbrev pub piece_of : (octets : ℕ) → (writer : Seated) → List ℕ
piece_of octets writer = take octets (to_write writer)

-- what the definitions make of a piece at a reader that is set up so
abbrev pub feeding_of : (set_up : (role : Role) × Config role) → (piece : List ℕ) → (reader : Seated) → Feeding
feeding_of set_up piece reader = after_feed set_up.0 set_up.1 reader.kept.endpoint piece

-- What a reader makes of a piece, whatever it answers: what the definitions make of it, and what they make of each
-- history that it was the trace of.
pub record FedBy (set_up : (role : Role) × Config role) (piece : List ℕ) (answer : Result Taken CoreFault)
    (reader after : Seated) : Type 0 where
  pub set_up_same : after.set_up ≡ reader.set_up
  pub fed : IsFed (seen answer) reader.kept.endpoint (feeding_of set_up piece reader) after.kept.endpoint
  pub octets_are : FedGrows (ran_out answer) piece (feeding_of set_up piece reader) reader.kept after.kept
  pub history : (history : History) → IsTraceOf set_up.0 set_up.1 reader.kept history
      → ∥ TraceGoesOn set_up.0 set_up.1 (ran_out answer) reader.kept.endpoint piece
      (feeding_of set_up piece reader) history after.kept ∥₁

abbrev pub SideFed : (octets : ℕ) → Result Taken CoreFault → (writer reader after : Seated) → Type 0
SideFed octets answer writer reader after = FedBy reader.set_up (piece_of octets writer) answer reader after

-- So many octets of a side's output were written; each history that it was the trace of, it is still the trace of.
pub record WroteBy (set_up : (role : Role) × Config role) (count : ℕ) (old new : Seated) : Type 0 where
  pub set_up_same : new.set_up ≡ old.set_up
  pub endpoint : new.kept.endpoint ≡ after_wrote count old.kept.endpoint
  pub written : new.kept.written ≡ old.kept.written ++ take count (to_write old)
  pub fed : new.kept.fed ≡ old.kept.fed
  pub history : (history : History) → IsTraceOf set_up.0 set_up.1 old.kept history
      → IsTraceOf set_up.0 set_up.1 new.kept history
  pub dropped : new.dropped ≡ old.dropped

abbrev pub SideWrote : (count : ℕ) → (old new : Seated) → Type 0
SideWrote count old new = WroteBy old.set_up count old new

-- The first octets of what a writer has to write are fed to the reader, as far as the end of a frame, and the writer
-- has written them.
pub record HandsOver (octets count : ℕ) (writer reader writer_after reader_after : Seated) : Type 0 where
  pub taken : Taken
  pub counted : taken.octets ≡ count
  pub some : 0 < count
  pub within : count ≤ octets
  pub reads : SideFed octets (Ok taken) writer reader reader_after
  pub was_there : reader.dropped ≡ false
  pub is_there : reader_after.dropped ≡ false
  pub writes : SideWrote count writer writer_after

-- Memory was refused to the reader: it is dropped, nothing was fed to it, and the writer has written nothing.
pub record RunsOut (octets : ℕ) (writer reader writer_after reader_after : Seated) : Type 0 where
  pub reads : SideFed octets (Err core.OutOfMemory) writer reader reader_after
  pub is_dropped : reader_after.dropped ≡ true
  pub writer_same : writer_after ≡ writer

-- so much is handed over, or memory was refused
abbrev pub HandsOverOr : (octets : ℕ) → Result ℕ OutOfMemory → (writer reader writer_after reader_after : Seated)
    → Type 0
HandsOverOr octets
    (Ok count) writer reader writer_after reader_after = HandsOver octets count writer reader writer_after reader_after
HandsOverOr octets
    (Err out) writer reader writer_after reader_after = RunsOut octets writer reader writer_after reader_after

-- Turn by turn, so many octets are carried: each turn hands over what is left to carry, as far as the end of a frame.
pub data Carries (octets : ℕ) (writer reader : Seated) : (carried : ℕ) → (writer_after reader_after : Seated)
    → Type 0 where
  none : Carries octets writer reader 0 writer reader
  more : {carried count : ℕ} {writer_then reader_then writer_after reader_after : Seated}
      → Carries octets writer reader carried writer_then reader_then
      → HandsOver (octets - carried) count writer_then reader_then writer_after reader_after
      → Carries octets writer reader (carried + count) writer_after reader_after

-- Memory was refused to the reader after some of the octets: from then on it is dropped.
pub record CarriesSome (octets : ℕ) (writer reader writer_after reader_after : Seated) : Type 0 where
  pub carried : ℕ
  pub fewer : carried < octets
  pub writer_then : Seated
  pub reader_then : Seated
  pub carries : Carries octets writer reader carried writer_then reader_then
  pub runs_out : RunsOut (octets - carried) writer_then reader_then writer_after reader_after

-- nothing of either side has changed
abbrev BothSame : (writer reader writer_after reader_after : Seated) → Type 0
BothSame writer reader writer_after reader_after = (writer_after ≡ writer) × (reader_after ≡ reader)

-- What carrying so many octets makes of both sides, by the answer. Where it is refused, the reader was dropped, or
-- fewer octets wait.
abbrev pub SidesCarry : (octets : ℕ) → (writer reader : Seated) → Answer → (writer_after reader_after : Seated) → Type 0
SidesCarry octets writer reader (Ok done) writer_after reader_after =
    (reader.dropped ≡ false) × (octets ≤ length (to_write writer))
    × Carries octets writer reader octets writer_after reader_after
SidesCarry octets writer reader (Err faults.Dropped) writer_after reader_after =
    (reader.dropped ≡ true) × BothSame writer reader writer_after reader_after
SidesCarry octets writer reader (Err faults.NotSoMany) writer_after reader_after =
    (reader.dropped ≡ false) × (length (to_write writer) < octets) × BothSame writer reader writer_after reader_after
SidesCarry octets writer reader (Err faults.OutOfMemory) writer_after reader_after =
    (reader.dropped ≡ false) × (octets ≤ length (to_write writer))
    × CarriesSome octets writer reader writer_after reader_after
SidesCarry octets writer reader (Err (faults.Ask fault)) writer_after reader_after = ⊥
SidesCarry octets writer reader (Err faults.NoSuchConnection) writer_after reader_after = ⊥
