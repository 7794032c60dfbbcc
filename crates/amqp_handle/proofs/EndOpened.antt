-- A slot that a `&mut` leads to, while the reference is open: its fields in memory, and what it owns beside them.
use mathlib.Core.Path.{◌≡◌, refl, sym, subst}
use mathlib.Core.Bool.{Bool, true}
use mathlib.Core.List.{List, [], ◌∷◌}
use Prim.Native.Nat.{ℕ}
use seplogic.Ra.Ura.{Ura}
use base.Fraction.{full_share}
use base.Stored.{Gv}
use base.Logic.{SProp, ent, sep}
use base.Fml.{Fml, Lft, Share, GName, ftrue, fsep, flft, fobs, fauth, fbor, fobor}
use mir.Raw.{raw}
use mir.Val.{Val, vbool, vstruct, vcons, vnil, of_list}
use types.Logic.{Logic, sem}
use types.Kit.{Item, Goal, Soaks, Step, step, ‵, ◌$◌, ◌∵◌, !, qed, done, move, drop, rewrite, fsplit, fjoin, fpack, feq_i}
use types.SemTy.{Body}
use denote.Laws.{Is, shows}
use denote.Memory.{cell_at, lone, mem, part_of}
use denote.RattleType.{Valss, flat, owns}
use denote.RawPtr.{Ptr, block_ptr, ptr_val}
use denote.Steps.{opens, closes, peeks, nothing}
use denote.Struct.Struct.{within}
use denote.Struct.Owning.{Owning, fields, shape, to, row}
use Rattle.libc.specs.Heap.{chunk}
use Rattle.std.specs.Prelude.{Some, is_some}
use Rattle.amqp_handle.specs.EndSlots.{EndHandle, slot_owns}
use Rattle.amqp_handle.specs.contracts.kept.HeldEnd.{the_row as held}
use Rattle.amqp_handle.specs.contracts.end_slot.EndSlot.{the_row as slot, the_view, the_invariant, the_inverse}
use Rattle.amqp_handle.specs.contracts.end_slot.EndSlot.TheInside as inside
use Rattle.amqp_handle.proofs.end_slot.EndSlot.TheInside.TheLaws.{lowers}

-- a slot's pointer and its flag, as the machine keeps them
abbrev pub words : Ptr → Bool → List Val
words at flag = vstruct (vcons (ptr_val at) (vcons (vbool flag) vnil)) ∷ []

-- those of a handle
abbrev pub fields_of : EndHandle → List Val
fields_of h = words h.at (is_some h.value)

-- a slot's place in memory
abbrev pub Lies : List Val → ℕ → ℕ → Fml
Lies vs b o = cell_at full_share slot.mir vs b o

module _ {M : Type 1} {𝓤 : Ura M} {𝓛 : Logic 𝓤} {K : Type 0} {Γ : List (Item 𝓤)} where
  open 𝓛 use {H}

  module _ {G : Goal 𝓤 H} where
    -- a `&mut` to a slot, once it is open, shows the slot's fields and what the slot owns
    pub unfolds : K → Soaks G → {κ : Lft} {q : Share} {γ : GName} (h : EndHandle) (b o : ℕ)
        → Step K 𝓛 (‵ (slot_owns h.at h.value) ∷ ‵ (Lies (fields_of h) b o) ∷ ‵ (fobor κ q (Body (mem slot) b o γ)) ∷ ‵ (fobs γ (slot.coded.code h)) ∷ ‵ (fauth γ (slot.coded.code h)) ∷ Γ) G
        (‵ (fobs γ (slot.coded.code h)) ∷ ‵ (fbor κ (Body (mem slot) b o γ)) ∷ ‵ (flft κ q) ∷ Γ) G
    unfolds t z h b o = step (λ s.
        opens t z slot b o (λ us. move t (1 ∷ []) $ fsplit t $ move t (1 ∷ []) $ drop t $
        peeks t inside.the_row (Is inside.the_row) (shows 𝓛 inside.the_row) (the_inverse h) us (λ is. fsplit t $ drop t $
        rewrite t 1 (λ (vs : List Val). ‵ (Lies vs b o)) (lowers.val_is (the_inverse h) us is) refl $ s)))

    -- a struct that owns memory is made of its fields, each at its machine values, and of that memory
    pub is_owner : K → (T : Owning) (d : T.D) (vss : Valss (fields T))
        → Step K 𝓛 (‵ ((row T).own_val d (vstruct (of_list (flat (fields T) vss)) ∷ [])) ∷ Γ) G (‵ (owns (fields T) (to T d) vss) ∷ ‵ (T.heap d) ∷ Γ) G
    is_owner t T d vss =
        let vs : List Val = vstruct (of_list (flat (fields T) vss)) ∷ [] in
        step (λ s. feq_i t (List Val) vs vs refl $ fjoin t $ fpack t (Valss (fields T)) (within (shape T) (to T d) vs) vss $ fjoin t $ s)

module _ {M : Type 1} {𝓤 : Ura M} {𝓛 : Logic 𝓤} {K : Type 0} {Γ : List (Item 𝓤)} where
  open 𝓛 use {H}

  module _ {G : Goal 𝓤 H} where
    -- a slot is its pointer and flag, and what it owns at them
    pub is_slot : K → (h : EndHandle) → Step K 𝓛 (‵ (slot.own_val h (fields_of h)) ∷ Γ) G (‵ (slot_owns h.at h.value) ∷ Γ) G
    is_slot t h =
        let at : List Val = ptr_val h.at ∷ [] in let flag : List Val = vbool (is_some h.value) ∷ [] in step (λ s.
        nothing t $ feq_i t (List Val) flag flag refl $ fjoin t $ feq_i t (List Val) at at refl $ fjoin t $ is_owner t inside.the_type (the_inverse h) (at, (flag, tt)) $
        nothing t $ fpack t ((the_view (the_inverse h) ≡ h) × the_invariant (the_inverse h)) (λ _. ftrue) (refl, refl) $ move t (1 ∷ 0 ∷ []) $ fjoin t $ s)

module _ {M : Type 1} {𝓤 : Ura M} {𝓛 : Logic 𝓤} {K : Type 0} {Γ : List (Item 𝓤)} where
  open 𝓛 use {H}

  module _ {G : Goal 𝓤 H} where
    -- fields, and what a slot owns at them, are a slot again, and the `&mut` to it is whole
    pub folds : K → Soaks G → {κ : Lft} {q : Share} {u v : Gv} {γ : GName} (h : EndHandle) (b o : ℕ)
        → Step K 𝓛 (‵ (fobs γ (slot.coded.code h)) ∷ ‵ (fbor κ (Body (mem slot) b o γ)) ∷ ‵ (flft κ q) ∷ Γ) G
        (‵ (slot_owns h.at h.value) ∷ ‵ (Lies (fields_of h) b o) ∷ ‵ (fobor κ q (Body (mem slot) b o γ)) ∷ ‵ (fobs γ u) ∷ ‵ (fauth γ v) ∷ Γ) G
    folds t z h b o = step (λ s. is_slot t h $ move t (1 ∷ 0 ∷ []) $ closes t z slot h (fields_of h) b o $ s)

module _ {M : Type 1} {𝓤 : Ura M} (𝓛 : Logic 𝓤) (b o b' o' : ℕ) where
  -- what is left of an open slot while its value, at (b', o'), is lent
  abbrev pub Lender : SProp 𝓤
  Lender = sep 𝓤 (sem 𝓛 (chunk (raw (lone held.mir)) (block_ptr b' o'))) (sem 𝓛 (Lies (words (block_ptr b' o') true) b o))

  -- whatever value comes back, the slot holds it
  pub holds_last : (at : Ptr) → at ≡ block_ptr b' o' → (x : held.Denot)
      → ent 𝓤 (sep 𝓤 (sem 𝓛 ((mem held).own_at x b' o')) Lender) (sem 𝓛 ((mem slot).own_at (record { at = at; value = Some x }) b o))
  unfolding part_of
  holds_last at there x =
      let h : EndHandle = record { at = block_ptr b' o'; value = Some x } in
      subst (λ (p : Ptr). ent 𝓤 (sep 𝓤 (sem 𝓛 ((mem held).own_at x b' o')) Lender) (sem 𝓛 ((mem slot).own_at (record { at = p; value = Some x }) b o))) (sym there)
      (qed 𝓛 (‵ ((mem held).own_at x b' o') ∷ ‵ (chunk (raw (lone held.mir)) (block_ptr b' o')) ∷ ‵ (Lies (fields_of h) b o) ∷ []) ∵
      fjoin ! $ is_slot ! h $ move ! (1 ∷ 0 ∷ []) $ fjoin ! $ fpack ! (List Val) (λ us. fsep (Lies us b o) (slot.own_val h us)) (fields_of h) $ done !)
