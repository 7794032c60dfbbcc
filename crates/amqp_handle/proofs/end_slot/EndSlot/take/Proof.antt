-- A walk through `take`: the value is read where the slot's pointer leads, and its room leaves the slot, which is closed.
use mathlib.Core.Path.{◌≡◌, refl, sym}
use mathlib.Core.List.{[], ◌∷◌}
use mathlib.Core.Bool.{true}
use base.Fml.{ftrue, flft}
use mir.Syntax.{named}
use contract.Monad.{fact}
use contract.Running.{tables}
use types.Kit.{‵, raw, ◌⊛◌, at_ret, ◌$◌, ◌∵◌, !, qed, done, move, keep, rewrite, frame, group, split, join, suffices, fsplit3}
use types.Part.{whole, sub, look_in, store_in, agg}
use types.Run.{enter, of_opd, false_lit, load, look, stop, fld, and_then, no_more, assigns, forget, first, blocks, exec, returns}
use types.ByLocal.{alloc_all, pass_all, free_all, look_at, get, through, sets, sets_last, env}
use denote.RawPtr.{Ptr, block_ptr}
use denote.Exit.{yes}
use denote.Ref.{MutRef, mut_vals, mut_Tells}
use denote.Signature.{plain}
use denote.Steps.{heard, nothing}
use denote.Triple.Walked.{Stays, walk_of, stay_ref, stay_dropped, says, ends_at, Goes-ref, Goes-dropped}
use Rattle.std.proofs.RawLayout.{as_raw}
use Rattle.std.proofs.raw_atomic.Walks.{proved}
use Rattle.std.specs.Prelude.{None, is_some}
use Rattle.std_heap.specs.contracts.Global.{the_row as heap}
use Rattle.std_heap.proofs.Handle.{heap_val, heap_Tells}
use Rattle.amqp_handle.specs.contracts.end_slot.EndSlot.{the_row as slot}
use Rattle.amqp_handle.specs.contracts.end_slot.EndSlot.take as f
use Rattle.amqp_handle.proofs.end_slot.EndSlot.take.Code as code
use Rattle.amqp_handle.proofs.end_slot.EndSlot.take.Statement.{statement}
use Rattle.amqp_handle.proofs.EndOpened.{Lies, words, unfolds, folds}
use Rattle.amqp_handle.proofs.EndRooms.{held_ty, heap_fits, room_at, room_fits, leads, stands, taken_word, taken_fits, is_taken}

abbrev stayed : Stays f.ended.signature.params f.ended.kept
stayed = (stay_ref (0 ∷ []) tt (plain (λ _. slot)), (stay_dropped _ yes, tt))

pub take_spec : {M : Type 1} → statement M
take_spec 𝓤 𝓛 𝓜 𝓡 wired =
    let c = f.clauses 𝓛 𝓜.mem 𝓡.returns in let W = walk_of 𝓛 f.ended stayed c in let 𝓣 = tables 𝓤 𝓛.H 𝓜 𝓡 𝓡.env in
    proved 𝓛 f.ended stayed c 𝓜 𝓡 (Goes-ref 𝓛 1 0 tt (plain (λ _. slot)), (Goes-dropped 𝓛 1 (plain (λ _. heap)) yes (λ κs x w. refl), tt))
    f.Key.name code.function (code.unfolded 𝓤 𝓛.H 𝓜 𝓡 wired)
    (λ κs. (mut_vals, ((λ _. heap_val ∷ []), tt))) (λ κs. (mut_Tells (named 0) κs.0 slot, (heap_Tells, tt))) (λ κs qs bounds a _ are.
    let κ = κs.0 in let q = qs.0 in let r = a.0 in let alloc = a.1.0 in let b = r.ref_ptr.0 in let o = r.ref_ptr.1 in
    let y : W.Ghost = ((κs, qs, bounds, a, (mut_vals r, (heap_val ∷ [], tt))), tt) in
    qed 𝓛 (((‵ (flft κ q) ⊛ ‵ ftrue) ⊛ ‵ ((MutRef (named 0) κ slot).own_val r (mut_vals r)) ⊛ ‵ (heap.own_val alloc (heap_val ∷ [])) ⊛ ‵ ftrue) ∷ raw (fact 𝓤 (is_some r.now.value ≡ true)) ∷ []) ∵
    move ! (1 ∷ []) $ heard ! _ (λ is.
    split ! $ split ! $ move ! (2 ∷ []) $ split ! $ move ! (1 ∷ []) $ split ! $ keep ! (2 ∷ 3 ∷ 0 ∷ []) $
    enter ! _ _ _ _ _ $ alloc_all ! (λ l. pass_all ! refl ((tt, tt), (heap_fits, tt)) $
    fsplit3 ! $ move ! (1 ∷ 2 ∷ 3 ∷ []) $ unfolds ! tt r.now b o $ leads ! r.now.at r.now.value is (λ x b' o' was there. stands ! x b' o' (λ w fits.
    rewrite ! 3 (λ (p : Ptr). ‵ (Lies (words p (is_some r.now.value)) b o)) there refl $
    -- [the value in its room; what it owns; the right to free it; the slot's fields; the open borrow, in three entries]
    sets ! (of_opd ! (load ! (through ! refl (fld ! refl (stop !))) (look_in ! 3 (sub ! 0 refl (whole !))))) refl (tt, tt) $
    sets ! (of_opd ! (get ! refl)) refl (tt, tt) $
    assigns ! (of_opd ! (false_lit !)) (through ! refl (fld ! refl (stop !))) (store_in ! 3 (sub ! 1 refl (whole !)) (tt, tt)) $
    first ! $ blocks ! $ sets_last ! (of_opd ! (load ! (through ! refl (stop !)) (look ! 0 refl))) refl fits $
    exec ! 𝓣.C 𝓣.Λ (env code.Mir.locals l) code.Mir.t-5 (at_ret _ (W.post y)) $
    sets ! (of_opd ! (get ! refl)) refl fits $ sets ! (of_opd ! (get ! refl)) refl fits $
    sets ! (agg ! (and_then ! (get ! refl) (and_then ! (get ! refl) (no_more !)))) refl (room_fits b' o') $
    sets ! (agg ! (and_then ! (get ! refl) (and_then ! (get ! refl) (no_more !)))) refl (taken_fits w b' o' fits) $
    forget ! 0 refl $ as_raw ! held_ty b' o' $
    move ! (3 ∷ 4 ∷ 5 ∷ 6 ∷ []) $ nothing ! $ folds ! tt (record { at = block_ptr b' o'; value = None }) b o $
    -- [the `&mut`, in three entries; the room; what the value owns; the right to free the room; the `&mut`'s address; the handle]
    returns ! (look_at ! 0 refl) $ free_all ! refl $ move ! (4 ∷ 3 ∷ 5 ∷ 7 ∷ []) $ is_taken ! x alloc w b' o' $
    suffices ! _ (ends_at 𝓛 f.ended stayed c y (taken_word w b' o') (x, room_at alloc b' o') (record { at = block_ptr b' o'; value = None }, (tt, tt)) (tt, (tt, tt))) $ says ! (sym was, refl) $
    move ! (4 ∷ 1 ∷ 2 ∷ []) $ group ! 3 $ nothing ! $ nothing ! $ join ! $ move ! (1 ∷ 0 ∷ []) $ join ! $
    nothing ! $ move ! (3 ∷ 0 ∷ []) $ join ! $ frame ! $ frame ! $ done !)))))
