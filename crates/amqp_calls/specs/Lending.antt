-- What a handle is once what its splitter lent is given back.
use Rattle.std.specs.Prelude.{◌≡◌, ℕ, List, Option, Some, None, Result}
use Rattle.std.specs.Borrow.{Fml, MutBor, Lends}
use Rattle.std.specs.Io.BufRead.{Rests}
use Rattle.amqp_frame.specs.Splitter.{after_feed_ref}
use Rattle.amqp_frame.specs.declared.faults.FrameFault.{FrameFault}
use Rattle.amqp_frame.specs.declared.splitting.FedRef.{FedRef}
use Rattle.amqp_handle.specs.Lending.{holding}
use Rattle.amqp_handle.specs.declared.held.Held.{Held}
use Rattle.amqp_handle.specs.declared.held.Held.TheVariants.{Splitter, Content}
use Rattle.amqp_handle.specs.contracts.slot.Slot.{the_row as slot}
use Rattle.amqp_frame.specs.contracts.splitting.Splitter.{the_row as splitter}

abbrev pub IsSplitter : Option Held → Type 0
IsSplitter None = ⊥
IsSplitter (Some (Splitter s)) = Unit {0}
IsSplitter (Some (Content c)) = ⊥

-- it holds a content
abbrev pub HoldsContent : Option Held → Type 0
HoldsContent None = ⊥
HoldsContent (Some (Splitter s)) = ⊥
HoldsContent (Some (Content c)) = Unit {0}

abbrev pub FollowsSplitter : MutBor slot.Denot → MutBor splitter.Denot → Fml
FollowsSplitter s r = Lends slot splitter s r (λ stream. holding s.now (Splitter stream))

-- what a handle holds after its splitter was fed
abbrev after_fed : Option Held → List ℕ → Result FedRef FrameFault → Option Held
after_fed None piece answer = None
after_fed (Some (Splitter s)) piece answer = Some (Splitter (after_feed_ref s piece answer))
after_fed (Some (Content c)) piece answer = Some (Content c)

-- what the handle is once the frame that it lent is given up
abbrev pub LeavesSlot : MutBor slot.Denot → List ℕ → Result FedRef FrameFault → Fml
LeavesSlot s piece answer = Rests slot s (λ new. new.value ≡ after_fed s.now.value piece answer)
