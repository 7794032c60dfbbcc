-- A walk through `held`: the slot's pointer is followed, and what it leads to is lent for as long as the slot is.
use mathlib.Core.Path.{◌≡◌, refl, sym}
use mathlib.Core.Bool.{true}
use mathlib.Core.List.{[], ◌∷◌}
use Prim.Native.Nat.{ℕ}
use base.Fml.{ftrue, flft}
use mir.Syntax.{named}
use mir.Val.{vptr}
use contract.Monad.{fact}
use contract.Running.{tables}
use types.Kit.{‵, raw, some, later, ◌⊛◌, at_ret, ◌$◌, ◌∵◌, !, qed, done, move, keep, use1, pick, await, rewrite, frame, group, split, split3, join, suffices, fsplit3}
use types.Part.{whole, sub, look_in}
use types.Run.{enter, of_opd, load, stop, fld, addr, first, blocks, exec, returns}
use types.ByLocal.{alloc_all, pass_all, free_all, look_at, get, through, sets, sets_last, env}
use denote.Exit.{no}
use denote.Follow.{follows, lends_Part}
use denote.RawPtr.{Ptr, block_ptr}
use denote.Ref.{MutRef, MutBor, mut_vals, mut_Tells}
use denote.Signature.{plain}
use denote.Steps.{heard, nothing}
use denote.Triple.Walked.{Stays, walk_of, stay_dropped, says, ends_at, Goes-spent_ref}
use Rattle.std.proofs.raw_atomic.Walks.{proved}
use Rattle.std.specs.Prelude.{Option, is_some}
use Rattle.amqp_handle.specs.contracts.kept.HeldEnd.{the_row as held}
use Rattle.amqp_handle.specs.contracts.end_slot.EndSlot.{the_row as slot}
use Rattle.amqp_handle.specs.contracts.end_slot.EndSlot.held as f
use Rattle.amqp_handle.specs.EndLending.{holding}
use Rattle.amqp_handle.proofs.end_slot.EndSlot.held.Code as code
use Rattle.amqp_handle.proofs.end_slot.EndSlot.held.Statement.{statement}
use Rattle.amqp_handle.proofs.EndOpened.{Lies, words, unfolds, Lender, holds_last}
use Rattle.amqp_handle.proofs.EndRooms.{leads}

abbrev stayed : Stays f.ended.signature.params f.ended.kept
stayed = (stay_dropped _ no, tt)

pub held_spec : {M : Type 1} → statement M
held_spec 𝓤 𝓛 𝓜 𝓡 wired =
    let c = f.clauses 𝓛 𝓜.mem 𝓡.returns in let W = walk_of 𝓛 f.ended stayed c in let 𝓣 = tables 𝓤 𝓛.H 𝓜 𝓡 𝓡.env in
    proved 𝓛 f.ended stayed c 𝓜 𝓡 (Goes-spent_ref 𝓛 1 (0 ∷ []) tt (plain (λ _. slot)), tt)
    f.Key.name code.function (code.unfolded 𝓤 𝓛.H 𝓜 𝓡 wired)
    (λ κs. (mut_vals, tt)) (λ κs. (mut_Tells (named 0) κs.0 slot, tt)) (λ κs qs bounds a _ are.
    let κ = κs.0 in let q = qs.0 in let r = a.0 in let b = r.ref_ptr.0 in let o = r.ref_ptr.1 in
    let y : W.Ghost = ((κs, qs, bounds, a, (mut_vals r, tt)), tt) in
    qed 𝓛 (((‵ (flft κ q) ⊛ ‵ ftrue) ⊛ ‵ ((MutRef (named 0) κ slot).own_val r (mut_vals r)) ⊛ ‵ ftrue) ∷ raw (fact 𝓤 (is_some r.now.value ≡ true)) ∷ []) ∵
    move ! (1 ∷ []) $ heard ! _ (λ is.
    split ! $ split ! $ move ! (2 ∷ []) $ split ! $ keep ! (0 ∷ 2 ∷ []) $
    enter ! _ _ _ _ _ $ alloc_all ! (λ l. pass_all ! refl ((tt, tt), tt) $
    fsplit3 ! $ move ! (1 ∷ 2 ∷ 3 ∷ []) $ unfolds ! tt r.now b o $ leads ! r.now.at r.now.value is (λ x b' o' was there.
    rewrite ! 2 (λ (p : Ptr). ‵ (Lies (words p (is_some r.now.value)) b o)) there refl $ rewrite ! 2 (λ (h : Option held.Denot). ‵ (Lies (words (block_ptr b' o') (is_some h)) b o)) was refl $
    -- [the value; the right to free its room; the slot's fields; the open borrow, in three entries]
    first ! $ blocks ! $ sets ! (of_opd ! (load ! (through ! refl (fld ! refl (stop !))) (look_in ! 2 (sub ! 0 refl (whole !))))) refl (tt, tt) $
    sets ! (of_opd ! (get ! refl)) refl (tt, tt) $ sets_last ! (addr ! (through ! refl (stop !))) refl (tt, tt) $
    exec ! 𝓣.C 𝓣.Λ (env code.Mir.locals l) code.Mir.t-2 (at_ret _ (W.post y)) $
    sets ! (of_opd ! (get ! refl)) refl (tt, tt) $
    let lent : ℕ → MutBor held.Denot = λ γ. record { ref_ptr = (b', o'); ghost_name = γ; now = x } in
    move ! (3 ∷ 4 ∷ 5 ∷ 0 ∷ 1 ∷ 2 ∷ []) $ group ! 6 $
    use1 𝓛 (later (some (λ (γ : ℕ). ‵ ((MutRef (named 0) κ held).own_val (lent γ) (vptr b' o' ∷ [])) ⊛ ‵ (flft κ q) ⊛ ‵ (follows slot held r.ghost_name γ (holding r.now)))))
    (lends_Part 𝓛 slot held (holding r.now) (named 0) κ q b o b' o' r.ghost_name (Lender 𝓛 b o b' o') (holds_last 𝓛 b o b' o' r.now.at there) _ _ x) $ await ! tt $ pick ! (λ γ. split3 ! $
    returns ! (look_at ! 0 refl) $ free_all ! refl $ keep ! (0 ∷ 1 ∷ 2 ∷ []) $
    suffices ! _ (ends_at 𝓛 f.ended stayed c y (vptr b' o') (lent γ) (tt, tt) (tt, tt)) $
    nothing ! $ nothing ! $ join ! $ nothing ! $ move ! (3 ∷ 0 ∷ []) $ join ! $ group ! 3 $ frame ! $ says ! (sym was) $ done !)))))
