-- A walk through `put`: the room and the value are taken apart, the value is written, and the slot is closed over both.
use mathlib.Core.Path.{◌≡◌, refl}
use mathlib.Core.List.{List, [], ◌∷◌, ◌++◌}
use base.Fml.{ftrue, flft}
use mir.Syntax.{named}
use mir.Val.{Val, vunit}
use prog.Wp.{WpFn}
use contract.Monad.{fact}
use contract.Running.{tables}
use types.Kit.{‵, raw, prop, Goal, ◌⊛◌, at_ret, ◌$◌, ◌∵◌, !, qed, done, move, keep, drop, rewrite, regoal, frame, group, split, join, suffices, fsplit3, feq_i}
use types.Part.{whole, sub, store_in}
use types.Run.{enter, of_opd, unit_lit, true_lit, stop, fld, init, assigns, assigns_last, first, blocks, exec, returns}
use types.ByLocal.{alloc_all, pass_all, free_all, look_at, get, get_in, through, sets, env}
use denote.Exit.{yes, rest}
use denote.RawPtr.{block_ptr}
use denote.Ref.{MutRef, mut_vals, mut_Tells}
use denote.Signature.{plain}
use denote.Steps.{heard, nothing}
use denote.Triple.Walked.{Stays, walk_of, stay_ref, stay_dropped, says, ends_at, Goes-ref}
use Rattle.std.proofs.RawLayout.{as_written}
use Rattle.std.proofs.alloc.Calls.{Goes-blank}
use Rattle.std.proofs.raw_atomic.Walks.{proved_at}
use Rattle.std.specs.Prelude.{Some, None}
use Rattle.amqp_handle.specs.contracts.kept.HeldEnd.{the_row as held}
use Rattle.amqp_handle.specs.contracts.end_slot.EndSlot.{the_row as slot}
use Rattle.amqp_handle.specs.contracts.end_slot.EndSlot.put as f
use Rattle.amqp_handle.proofs.end_slot.EndSlot.put.Code as code
use Rattle.amqp_handle.proofs.end_slot.EndSlot.put.Statement.{statement}
use Rattle.amqp_handle.proofs.EndOpened.{unfolds, folds}
use Rattle.amqp_handle.proofs.EndRooms.{held_blank, held_ty, room, room_word, room_fits, room_in, is_one, is_held}

abbrev stayed : Stays f.ended.signature.params f.ended.kept
stayed = (stay_ref (0 ∷ []) tt (plain (λ _. slot)), (stay_dropped _ yes, (stay_dropped _ yes, tt)))

pub put_spec : {M : Type 1} → statement M
put_spec 𝓤 𝓛 𝓜 𝓡 wired =
    let c = f.clauses 𝓛 𝓜.mem 𝓡.returns in let W = walk_of 𝓛 f.ended stayed c in let 𝓣 = tables 𝓤 𝓛.H 𝓜 𝓡 𝓡.env in
    proved_at 𝓛 f.ended stayed c 𝓜 𝓡
    (Goes-ref 𝓛 1 0 tt (plain (λ _. slot)), (Goes-blank 𝓛 1 (plain (λ _. room)) yes (λ κs x w. tt), (Goes-blank 𝓛 1 (plain (λ _. held)) yes (λ κs. held_blank), tt)))
    f.Key.name code.function (code.unfolded 𝓤 𝓛.H 𝓜 𝓡 wired) (λ z are.
    let κs = z.0.0 in let κ = κs.0 in let q = z.0.1.0 in let a = z.0.3 in let r = a.0 in let x = a.1.1.0 in let b = r.ref_ptr.0 in let o = r.ref_ptr.1 in
    let us = z.0.4.0 in let vs = z.0.4.1.0 in let ws = z.0.4.1.1.0 in
    let y : List Val → List Val → List Val → W.Ghost = λ us vs ws. ((κs, z.0.1, z.0.2, a, (us, (vs, (ws, tt)))), tt) in
    let goes : List Val → List Val → List Val → Goal 𝓤 𝓛.H = λ us vs ws. prop (WpFn 𝓤 𝓛.H 𝓣.C 𝓣.Λ code.function (us ++ (vs ++ (ws ++ []))) (W.post (y us vs ws))) in
    qed 𝓛 (((‵ (flft κ q) ⊛ ‵ ftrue) ⊛ ‵ ((MutRef (named 0) κ slot).own_val r us) ⊛ ‵ (room.own_val a.1.0 vs) ⊛ ‵ (held.own_val x ws) ⊛ ‵ ftrue) ∷ raw (fact 𝓤 (r.now.value ≡ None)) ∷ []) ∵
    move ! (1 ∷ []) $ heard ! _ (λ _.
    split ! $ split ! $ move ! (2 ∷ []) $ split ! $ move ! (1 ∷ []) $ split ! $ move ! (1 ∷ []) $ split ! $ keep ! (2 ∷ 0 ∷ 3 ∷ 4 ∷ []) $
    let told = mut_Tells (named 0) κ slot r us are.0 in
    regoal ! (λ (us' : List Val). goes us' vs ws) told refl $ rewrite ! 2 (λ (us' : List Val). ‵ ((MutRef (named 0) κ slot).own_val r us')) told refl $
    room_in ! (λ vs'. goes (mut_vals r) vs' ws) a.1.0 vs (λ b' o'. move ! (2 ∷ []) $
    is_one ! (λ ws'. goes (mut_vals r) (room_word b' o' ∷ []) ws') x ws (λ w fits. move ! (1 ∷ []) $ as_written ! held_ty b' o' $
    let y' = y (mut_vals r) (room_word b' o' ∷ []) (w ∷ []) in
    enter ! _ _ _ _ _ $ alloc_all ! (λ l. pass_all ! refl ((tt, tt), (room_fits b' o', (fits, tt))) $
    move ! (3 ∷ []) $ fsplit3 ! $ move ! (1 ∷ 2 ∷ 6 ∷ []) $ unfolds ! tt r.now b o $
    -- [what the slot owned; its fields; the open borrow, in three entries; the `&mut`'s address; the room; what the value owns; the right to free the room]
    sets ! (of_opd ! (get_in ! (fld ! refl (stop !)) (sub ! 0 refl (whole !)))) refl (tt, tt) $
    first ! $ blocks ! $ sets ! (of_opd ! (get ! refl)) refl fits $ assigns_last ! (of_opd ! (get ! refl)) (through ! refl (stop !)) (init ! 6 refl fits) $
    exec ! 𝓣.C 𝓣.Λ (env code.Mir.locals l) code.Mir.t-3 (at_ret _ (W.post y')) $
    sets ! (of_opd ! (get ! refl)) refl (tt, tt) $
    assigns ! (of_opd ! (get ! refl)) (through ! refl (fld ! refl (stop !))) (store_in ! 1 (sub ! 0 refl (whole !)) (tt, tt)) $
    assigns ! (of_opd ! (true_lit !)) (through ! refl (fld ! refl (stop !))) (store_in ! 1 (sub ! 1 refl (whole !)) (tt, tt)) $
    sets ! (of_opd ! (unit_lit !)) refl (tt, tt) $
    drop ! $ move ! (5 ∷ 6 ∷ 7 ∷ []) $ is_held ! x w b' o' $ folds ! tt (record { at = block_ptr b' o'; value = Some x }) b o $
    returns ! (look_at ! 0 refl) $ free_all ! refl $ keep ! (3 ∷ 0 ∷ 1 ∷ 2 ∷ []) $
    suffices ! _ (ends_at 𝓛 f.ended stayed c y' vunit tt (record { at = block_ptr b' o'; value = Some x }, (tt, (rest (held.exit yes) x, tt))) (tt, (tt, (tt, tt)))) $ says ! refl $
    group ! 3 $ nothing ! $ nothing ! $ join ! $ nothing ! $ join ! $ move ! (1 ∷ 0 ∷ []) $ join ! $
    nothing ! $ move ! (2 ∷ 0 ∷ []) $ join ! $ frame ! $ frame ! $ feq_i ! _ (vunit ∷ []) _ refl $ done !)))))
