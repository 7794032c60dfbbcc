-- An end's slot may go to another thread: what it owns is the same, whichever thread has it.
use mathlib.Core.List.{List, [], ◌∷◌}
use Prim.Native.Nat.{ℕ}
use base.Fraction.{full_share}
use base.Shift.{Keyless}
use mir.Val.{Val}
use denote.Memory.{cell_at, part_of}
use denote.Param.Send.{IsSend, fixed_send, owning_send, plain_send}
use denote.RawPtr.{Ptr, block_ptr, null_ptr, lies_at}
use Rattle.libc.specs.Heap.{chunk-Keyless}
use Rattle.std.specs.Prelude.{Option, Some, None}
use Rattle.amqp_handle.specs.EndSlots.{slot_owns}
use Rattle.amqp_handle.specs.contracts.kept.HeldEnd.{the_row as held}
use Rattle.amqp_handle.specs.contracts.end_slot.EndSlot.{the_row as slot, the_view, the_invariant, the_inverse}
use Rattle.amqp_handle.specs.contracts.end_slot.EndSlot.TheInside as inside
use Rattle.amqp_handle.proofs.Crossing.Held.{held_sent}

-- the octets of a value are the same for each thread
cell_sent : (vs : List Val) (b o : ℕ) → Keyless (cell_at full_share held.mir vs b o)
cell_sent [] b o = tt
cell_sent (v ∷ []) b o = tt
cell_sent (v ∷ w ∷ vs) b o = tt

value_sent : (at : Ptr) (x : held.Denot) → Keyless (lies_at held full_share at x)
unfolding part_of
value_sent (block_ptr b o) x = λ vs. (cell_sent vs b o, held_sent.owned x vs)
value_sent null_ptr x = tt

owned_sent : (at : Ptr) (h : Option held.Denot) → Keyless (slot_owns at h)
owned_sent at None = tt
owned_sent at (Some x) = (value_sent at x, chunk-Keyless _ at)

pub send : IsSend slot
send = fixed_send inside.the_row _ _ the_inverse the_view the_invariant (owning_send inside.the_type (plain_send _ _ _ _ _, (plain_send _ _ _ _ _, tt)) (λ d. owned_sent d.at d.value) (λ k d w. tt))
