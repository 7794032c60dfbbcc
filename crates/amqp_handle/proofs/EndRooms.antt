-- The room of a held value: with the value in it, and empty.
use mathlib.Core.Path.{◌≡◌, refl, sym, ap, subst, ◌∙◌}
use mathlib.Core.Bool.{Bool, true, false, ◌&&◌}
use mathlib.Core.List.{List, [], ◌∷◌}
use Prim.Native.Nat.{ℕ}
use lib.Dec.{T}
use seplogic.Ra.Ura.{Ura}
use base.Fraction.{full_share}
use base.Logic.{id⊢, fst∗, never}
use base.Fml.{fat, froom, fsep}
use mir.Syntax.{Ty}
use mir.Raw.{raw as bare}
use mir.Val.{Val, vptr, vstruct, vcons, vnil, has_ty, WT}
use types.Logic.{Logic, sem}
use types.Kit.{Item, Goal, Seq, Step, step, ‵, ◌$◌, move, drop, use1, rewrite, fsplit, fjoin, fpick, fpack, feq_i}
use denote.Exit.{yes, Last, left}
use denote.Param.Mute.{blank}
use denote.Laws.{Is, shows}
use denote.Memory.{lone, cell_at, part_of}
use denote.Param.Steps.{one_value}
use denote.RattleType.{RattleType, Valss}
use denote.RawPtr.{Ptr, block_ptr, null_ptr, ptr_val, lies_at, in_a_block}
use denote.Steps.{peeks, nothing}
use denote.Struct.Struct.{within}
use denote.Struct.Laws.{RawPtr-laws}
use denote.Struct.OwningLaws.{tells}
use denote.Param.Laws.{row_laws}
use denote.Struct.Declared.{shape as declared_shape}
use denote.Struct.Tuple.{Tuple, tuple_type}
use denote.Struct.Owning.{Owning}
use Rattle.libc.specs.Heap.{chunk}
use Rattle.std.specs.Prelude.{Option, Some, None, is_some}
use Rattle.std.proofs.lemmas.Bool.{false≢true}
use Rattle.std_alloc.specs.Vacant.{vacant as vacant_of}
use Rattle.std_alloc.specs.contracts.room.vacant.Vacant as vacant
use Rattle.std_heap.proofs.Global.TheLaws.{the_row_laws as heap_laws}
use Rattle.std_heap.specs.contracts.Global.{the_row as heap}
use Rattle.std_heap.specs.contracts.GlobalAllocator.TheImpl.{ghosts}
use Rattle.std_heap.proofs.Handle.{heap_val, heap_Tells}
use Rattle.amqp_handle.specs.declared.kept.HeldEnd.TheVariants.{Client, Server}
use Rattle.amqp_handle.specs.EndSlots.{slot_owns}
use Rattle.amqp_handle.specs.contracts.kept.HeldEnd.{the_row as held}
use Rattle.amqp_handle.proofs.EndOpened.{is_owner}
use Rattle.amqp_handle.proofs.kept.HeldEnd.TheLaws.{the_row_laws}

-- the type of a held value, as code writes it
abbrev pub held_ty : Ty
held_ty = lone held.mir

-- room for a held value, with the handle that it goes back to
abbrev pub Room : Owning
Room = vacant.the_type held heap ghosts

abbrev pub room : RattleType
room = vacant.the_row held heap ghosts

-- the allocator's handle is of its type
pub heap_fits : T (has_ty (lone heap.mir) heap_val) × WT heap_val
heap_fits = (tt, ((tt, tt), tt))

-- room at this place, as a contract sees it and as the machine keeps it
abbrev pub room_at : heap.Denot → ℕ → ℕ → room.Denot
room_at alloc b o = record { ptr = block_ptr b o; alloc = alloc }

abbrev pub room_words : Ptr → List Val
room_words at = vstruct (vcons (ptr_val at) (vcons heap_val vnil)) ∷ []

abbrev pub room_word : ℕ → ℕ → Val
room_word b o = vstruct (vcons (vptr b o) (vcons heap_val vnil))

room_tells : (d : room.Denot) (vs : List Val) → Is room d vs → vs ≡ room_words d.ptr
room_tells = tells Room (RawPtr-laws, (row_laws heap heap_laws (record { val = λ _. heap_val; tells = heap_Tells }), tt))

pub room_fits : (b o : ℕ) → T (has_ty (lone room.mir) (room_word b o)) × WT (room_word b o)
room_fits b o = (tt, (tt, (heap_fits.1, tt)))

-- a value that was taken out of its room, and the room
abbrev Taken : List RattleType
Taken = held ∷ room ∷ []

abbrev pub taken : RattleType
taken = Tuple Taken

abbrev pub taken_word : Val → ℕ → ℕ → Val
taken_word w b o = vstruct (vcons w (vcons (room_word b o) vnil))

-- what holds whether or not something is gathered
by_gathering : {A : Type 0} (P : Option A → Type 0) → P None → ((a : A) → P (Some a)) → (g : Option A) → P g
by_gathering P none some None = none
by_gathering P none some (Some a) = some a

-- nothing is said of a held value that was given away
pub held_blank : (x : held.Denot) (w : Last (held.exit yes) x) → T (blank (left (held.exit yes) x w))
held_blank (Client kept) w =
    by_gathering (λ g. (w : Last (held.exit yes) (Client (record kept { gathering = g })))
    → T (blank (left (held.exit yes) (Client (record kept { gathering = g })) w))) (λ w. tt) (λ g w. tt) kept.gathering w
held_blank (Server kept) w =
    by_gathering (λ g. (w : Last (held.exit yes) (Server (record kept { gathering = g })))
    → T (blank (left (held.exit yes) (Server (record kept { gathering = g })) w))) (λ w. tt) (λ g w. tt) kept.gathering w

both : (x y : Bool) → T x → T y → T (x && y)
both true y p q = q
both false y p q = absurd p

pub taken_fits : (w : Val) (b o : ℕ) → T (has_ty held_ty w) × WT w → T (has_ty (lone taken.mir) (taken_word w b o)) × WT (taken_word w b o)
taken_fits w b o fits = (both (has_ty held_ty w) true fits.0 tt, (fits.1, ((room_fits b o).1, tt)))

module _ {M : Type 1} {𝓤 : Ura M} {𝓛 : Logic 𝓤} {K : Type 0} {Γ : List (Item 𝓤)} where
  open 𝓛 use {H}

  -- a held value is one value of the machine, of its type
  pub is_one : K → (P : List Val → Goal 𝓤 H) (x : held.Denot) (vs : List Val)
      → ((w : Val) → T (has_ty held_ty w) × WT w → Seq K 𝓛 (‵ (held.own_val x (w ∷ [])) ∷ Γ) (P (w ∷ [])))
      → Seq K 𝓛 (‵ (held.own_val x vs) ∷ Γ) (P vs)
  is_one t P x vs k =
      peeks t held (Is held) (shows 𝓛 held) x vs (λ is. one_value held_ty (λ ws. Seq K 𝓛 (‵ (held.own_val x ws) ∷ Γ) (P ws)) vs ((the_row_laws.lawful 𝓛).typed x vs is) k)

  -- a `Vacant` is room, and the right to free it
  pub room_in : K → (P : List Val → Goal 𝓤 H) (d : room.Denot) (vs : List Val)
      → ((b o : ℕ) → Seq K 𝓛 (‵ (froom (bare held_ty) b o) ∷ ‵ (chunk (bare held_ty) (block_ptr b o)) ∷ Γ) (P (room_word b o ∷ [])))
      → Seq K 𝓛 (‵ (room.own_val d vs) ∷ Γ) (P vs)
  room_in t P d vs k =
      peeks t room (Is room) (shows 𝓛 room) d vs (λ is. fsplit t $ drop t $
      in_a_block t d.ptr (vacant_of chunk held) (fst∗ 𝓤 (never 𝓤) (sem 𝓛 (chunk (bare held_ty) null_ptr))) (λ b o there. fsplit t $
      subst (λ (us : List Val). Seq K 𝓛 (‵ (froom (bare held_ty) b o) ∷ ‵ (chunk (bare held_ty) (block_ptr b o)) ∷ Γ) (P us))
      (sym (room_tells d vs is ∙ ap (λ (p : Ptr). room_words p) there)) (k b o)))

module _ {M : Type 1} {𝓤 : Ura M} {𝓛 : Logic 𝓤} {K : Type 0} {Γ : List (Item 𝓤)} where
  open 𝓛 use {H}

  module _ {G : Goal 𝓤 H} where
    -- a value that stands somewhere is one value of the machine, of its type
    pub stands : K → (x : held.Denot) (b o : ℕ)
        → ((w : Val) → T (has_ty held_ty w) × WT w → Seq K 𝓛 (‵ (fat full_share held_ty b o w) ∷ ‵ (held.own_val x (w ∷ [])) ∷ Γ) G)
        → Seq K 𝓛 (‵ (lies_at held full_share (block_ptr b o) x) ∷ Γ) G
    unfolding part_of
    stands t x b o k =
        fpick t (λ vs. fsplit t $ move t (1 ∷ []) $ peeks t held (Is held) (shows 𝓛 held) x vs (λ is.
        one_value held_ty (λ ws. Seq K 𝓛 (‵ (held.own_val x ws) ∷ ‵ (cell_at full_share held.mir ws b o) ∷ Γ) G) vs ((the_row_laws.lawful 𝓛).typed x vs is) (λ w ok.
        move t (1 ∷ []) $ use1 𝓛 (‵ (fat full_share held_ty b o w)) (𝓛.laws.raw_at full_share held_ty b o w) $ k w ok)))

module _ {M : Type 1} {𝓤 : Ura M} {𝓛 : Logic 𝓤} {K : Type 0} {Γ : List (Item 𝓤)} where
  open 𝓛 use {H}

  module _ {G : Goal 𝓤 H} where
    -- an open slot's pointer leads to what it holds, and may be freed
    pub leads : K → (at : Ptr) (h : Option held.Denot) → is_some h ≡ true
        → ((x : held.Denot) (b o : ℕ) → h ≡ Some x → at ≡ block_ptr b o
        → Seq K 𝓛 (‵ (lies_at held full_share (block_ptr b o) x) ∷ ‵ (chunk (bare held_ty) (block_ptr b o)) ∷ Γ) G)
        → Seq K 𝓛 (‵ (slot_owns at h) ∷ Γ) G
    leads t at None e k = absurd (false≢true e)
    leads t at (Some x) e k =
        fsplit t $ in_a_block t at (λ p. lies_at held full_share p x) (id⊢ 𝓤 _) (λ b o there.
        rewrite t 1 (λ (p : Ptr). ‵ (chunk (bare held_ty) p)) there refl $ k x b o refl there)

    -- a value at a pointer, with the right to free it, is what an open slot owns
    pub is_held : K → (x : held.Denot) (w : Val) (b o : ℕ)
        → Step K 𝓛 (‵ (slot_owns (block_ptr b o) (Some x)) ∷ Γ) G
        (‵ (fat full_share held_ty b o w) ∷ ‵ (held.own_val x (w ∷ [])) ∷ ‵ (chunk (bare held_ty) (block_ptr b o)) ∷ Γ) G
    unfolding part_of
    is_held t x w b o = step (λ s.
        use1 𝓛 (‵ (cell_at full_share held.mir (w ∷ []) b o)) (𝓛.laws.at_raw full_share held_ty b o w) $ fjoin t $
        fpack t (List Val) (λ vs. fsep (cell_at full_share held.mir vs b o) (held.own_val x vs)) (w ∷ []) $ fjoin t $ s)

    -- room, and the right to free it, are a `Vacant`
    pub is_room : K → (alloc : heap.Denot) (b o : ℕ)
        → Step K 𝓛 (‵ (room.own_val (room_at alloc b o) (room_word b o ∷ [])) ∷ Γ) G
        (‵ (froom (bare held_ty) b o) ∷ ‵ (chunk (bare held_ty) (block_ptr b o)) ∷ ‵ (heap.own_val alloc (heap_val ∷ [])) ∷ Γ) G
    is_room t alloc b o = step (λ s.
        move t (2 ∷ []) $ nothing t $ move t (1 ∷ 0 ∷ []) $ fjoin t $ feq_i t (List Val) (vptr b o ∷ []) (vptr b o ∷ []) refl $ fjoin t $
        move t (1 ∷ 2 ∷ []) $ fjoin t $ move t (1 ∷ 0 ∷ []) $ is_owner t Room (room_at alloc b o) (vptr b o ∷ [], (heap_val ∷ [], tt)) $ s)

module _ {M : Type 1} {𝓤 : Ura M} {𝓛 : Logic 𝓤} {K : Type 0} {Γ : List (Item 𝓤)} where
  open 𝓛 use {H}

  module _ {G : Goal 𝓤 H} where
    -- what was taken owns what the value owns, the room and the right to free it
    pub is_taken : K → (x : held.Denot) (alloc : heap.Denot) (w : Val) (b o : ℕ)
        → Step K 𝓛 (‵ (taken.own_val (x, room_at alloc b o) (taken_word w b o ∷ [])) ∷ Γ) G
        (‵ (held.own_val x (w ∷ [])) ∷ ‵ (froom (bare held_ty) b o) ∷ ‵ (chunk (bare held_ty) (block_ptr b o)) ∷ ‵ (heap.own_val alloc (heap_val ∷ [])) ∷ Γ) G
    is_taken t x alloc w b o = step (λ s.
        move t (1 ∷ 2 ∷ 3 ∷ []) $ is_room t alloc b o $ nothing t $ move t (1 ∷ 0 ∷ []) $ fjoin t $ move t (1 ∷ 0 ∷ []) $ fjoin t $
        feq_i t (List Val) (taken_word w b o ∷ []) (taken_word w b o ∷ []) refl $ fjoin t $
        fpack t (Valss Taken) (within (declared_shape (tuple_type Taken)) (x, (room_at alloc b o, tt)) (taken_word w b o ∷ [])) (w ∷ [], (room_word b o ∷ [], tt)) $ s)
