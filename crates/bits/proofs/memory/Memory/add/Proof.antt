-- A word is written through the pointer, after the others.
use Rattle.bits.specs.contracts.memory.Memory.add as f
use Rattle.bits.proofs.memory.Memory.add.Statement.{statement}
use Rattle.bits.proofs.memory.Memory.add.Code as code
use Rattle.bits.specs.contracts.memory.Memory.{the_row as R}
use Rattle.bits.proofs.memory.Memory.TheLaws.{lowers}
use Rattle.bits.proofs.Cells.{before, nowhere, place_after, place_in, place_out}
use Rattle.bits.specs.Ownership.{memory_owns}
use Rattle.std.proofs.Common.{List, [], ap, arith, length, length-append, refl, subst, sym, w64, ℕ, ◌*◌, ◌++◌, ◌+◌, ◌<◌, ◌^◌, ◌∙◌, ◌∷◌, ◌≡◌}
use Rattle.std.proofs.VecSteps.Shapes.{after}
use Rattle.std.proofs.mem.Facts.{says_two}
use Rattle.std.proofs.raw_atomic.Walks.{proved}
use base.Fml.{fat, flft, froom, fsep, ftrue}
use base.Fraction.{full_share}
use contract.Monad.{fact}
use contract.Running.{tables}
use denote.Builtin.{u64, usize}
use denote.Exit.{yes}
use denote.Laws.{shows}
use denote.Memory.{cell_at}
use denote.Plain.{uint_Tells, uint_vals}
use denote.RattleType.{owns}
use denote.RawPtr.{Ptr, block_ptr, in_a_block}
use denote.Ref.{MutRef, mut_Tells, mut_vals}
use denote.Signature.{plain}
use denote.Steps.{closes, heard, nothing, opens, peeks}
use denote.Triple.Walked.{Goes-dropped, Goes-ref, Stays, ends_at, stay_dropped, stay_ref, walk_of}
use mir.Syntax.{named, ty_int}
use mir.Val.{Val, vint, vunit}
use types.ByLocal.{alloc_all, env, free_all, get, look_at, pass_all, sets, through}
use types.Kit.{ !, at_ret, done, feq_i, fjoin, frame, fsplit, fsplit3, group, join, keep, move, qed, raw, rewrite, split, suffices, use1, ‵, ◌$◌, ◌∵◌, ◌⊛◌}
use types.Part.{look_in, sub, whole}
use types.Run.{assigns_last, bin, blocks, enter, exec, first, fld, init, lit, load, of_opd, returns, stop, unit_lit}

abbrev stayed : Stays f.ended.signature.params f.ended.kept
stayed = (stay_ref (0 ∷ []) tt (plain (λ _. R)), (stay_dropped (plain (λ _. usize)) yes, (stay_dropped (plain (λ _. u64)) yes, tt)))

pub add_spec : {M : Type 1} → statement M
add_spec 𝓤 𝓛 𝓜 𝓡 wired =
    let c = f.clauses 𝓛 𝓜.mem 𝓡.returns in let W = walk_of 𝓛 f.ended stayed c in let 𝓣 = tables 𝓤 𝓛.H 𝓜 𝓡 𝓡.env in
    proved 𝓛 f.ended stayed c 𝓜 𝓡 (Goes-ref 𝓛 1 0 tt (plain (λ _. R)), (Goes-dropped 𝓛 1 (plain (λ _. usize)) yes (λ κs x w. refl), (Goes-dropped 𝓛 1 (plain (λ _. u64)) yes (λ κs x w. refl), tt)))
    f.Key.name code.function (code.unfolded 𝓤 𝓛.H 𝓜 𝓡 wired)
    (λ κs. (mut_vals, (uint_vals w64, (uint_vals w64, tt)))) (λ κs. (mut_Tells (named 0) κs.0 R, (uint_Tells w64, (uint_Tells w64, tt)))) (λ κs qs bounds a _ are.
    let b = a.0.ref_ptr.0 in let o = a.0.ref_ptr.1 in let h = a.0.now in let n = a.1.0 in let x = a.1.1.0 in
    let y : W.Ghost = ((κs, qs, bounds, a, (mut_vals a.0, (vint w64 n ∷ [], (vint w64 x ∷ [], tt)))), tt) in
    qed 𝓛 (((‵ (flft κs.0 qs.0) ⊛ ‵ ftrue) ⊛ ‵ (owns (MutRef (named 0) κs.0 R ∷ usize ∷ u64 ∷ []) a y.0.4)) ∷ (raw (fact 𝓤 (n ≡ length h.words)) ⊛ raw (fact 𝓤 (n < h.room))) ∷ []) ∵
    move ! (1 ∷ []) $ split ! $ heard ! _ (λ same. heard ! _ (λ near.
    let few = h.fits in
    let less : length h.words < h.room = subst (λ (k : ℕ). k < h.room) same near in
    let far : n * 8 < 2 ^ 64 = omega (arith, few, near) in
    let new : R.Denot = record { start = h.start; words = h.words ++ x ∷ []; room = h.room; fits = (omega (arith, length-append h.words (x ∷ []), less), few.1) } in
    split ! $ split ! $ move ! (2 ∷ []) $ fsplit ! $ keep ! (0 ∷ 2 ∷ []) $
    enter ! _ _ _ _ _ $ alloc_all ! (λ l. pass_all ! refl ((tt, tt), ((tt, record { fits = are.1.0.1 }), ((tt, record { fits = are.1.1.0.1 }), tt))) $
    fsplit3 ! $ move ! (1 ∷ 2 ∷ 3 ∷ []) $ opens ! tt R b o (λ us.
    move ! (1 ∷ []) $ peeks ! R _ (shows 𝓛 R) h us (λ is. fsplit ! $ move ! (1 ∷ []) $
    in_a_block ! h.start (λ p. memory_owns p h.words h.room) (nowhere 𝓛 h.words h.room) (λ b' o' e.
    let word = lowers.val_is h us is ∙ ap (λ (p : Ptr). lowers.lowered (record h { start = p }) ∷ []) e in
    let Cell = λ (ws : List Val). ‵ (cell_at full_share R.mir ws b o) in
    use1 𝓛 (‵ (fsep (place_after h.words h.room b' o') (before h.words h.room b' o'))) (place_out 𝓛 h.words h.room b' o' less) $ fsplit ! $
    rewrite ! 0 (λ (k : ℕ). ‵ (froom (ty_int w64) b' (k * 8 + o'))) (sym same) refl $
    -- [the place; the rest of the block; what the fields own; the struct's cell; the open borrow, in three entries]
    rewrite ! 3 Cell word refl $
    first ! $ blocks ! $
    sets ! (of_opd ! (load ! (through ! refl (fld ! refl (stop !))) (look_in ! 3 (sub ! 0 refl (whole !))))) refl (tt, tt) $
    sets ! (bin ! (get ! refl) (lit ! tt) (record { fits = far })) refl (tt, record { fits = far }) $
    sets ! (bin ! (get ! refl) (get ! refl) tt) refl (tt, tt) $
    assigns_last ! (of_opd ! (get ! refl)) (through ! refl (stop !)) (init ! 0 refl (tt, record { fits = are.1.1.0.1 })) $
    exec ! 𝓣.C 𝓣.Λ (env code.Mir.locals l) (after 1 (code.function).body) (at_ret _ (W.post y)) $
    sets ! (of_opd ! (unit_lit !)) refl (tt, tt) $
    rewrite ! 0 (λ (k : ℕ). ‵ (fat full_share (ty_int w64) b' (k * 8 + o') (vint w64 x))) same refl $
    fjoin ! $ use1 𝓛 (‵ (memory_owns (block_ptr b' o') (h.words ++ x ∷ []) h.room)) (place_in 𝓛 h.words h.room b' o' x less) $
    rewrite ! 0 (λ (p : Ptr). ‵ (memory_owns p (h.words ++ x ∷ []) h.room)) (sym e) refl $ rewrite ! 2 Cell (sym word) refl $
    move ! (1 ∷ []) $ fjoin ! $ move ! (1 ∷ []) $ closes ! tt R new us b o $
    -- [two parts of self; the token; self's first part]
    returns ! (look_at ! 0 refl) $ free_all ! refl $ move ! (3 ∷ []) $
    suffices ! _ (ends_at 𝓛 f.ended stayed c y vunit tt (new, (tt, (tt, tt))) (tt, (tt, (tt, tt)))) $ says_two ! (refl, refl) $
    group ! 3 $ nothing ! $ nothing ! $ join ! $ nothing ! $ join ! $ move ! (1 ∷ 0 ∷ []) $ join ! $ nothing ! $ move ! (2 ∷ 0 ∷ []) $ join ! $ frame ! $ frame ! $
    feq_i ! _ (vunit ∷ []) _ refl $ done !)))))))
