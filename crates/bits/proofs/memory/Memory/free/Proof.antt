-- The block goes back to the heap. Its words are let go.
use Rattle.bits.specs.contracts.memory.Memory.free as f
use Rattle.bits.proofs.memory.Memory.free.Statement.{statement}
use Rattle.bits.proofs.memory.Memory.free.Code as code
use Rattle.bits.specs.contracts.memory.Memory.{the_row as R}
use Rattle.bits.proofs.memory.Memory.TheLaws.{lowers}
use Rattle.std.specs.contracts.alloc.Global as global
use Rattle.std.specs.contracts.impls.GlobalAllocator.deallocate as g
use Rattle.std.proofs.impls.GlobalAllocator.deallocate.Met.{met}  --k
use Rattle.bits.proofs.Cells.{all_room, bare, nowhere}
use Rattle.bits.specs.Ownership.{memory_owns}
use Rattle.std.proofs.Common.{List, [], ap, arith, lit<, refl, subst, sym, w64, ◌*◌, ◌<◌, ◌^◌, ◌∷◌, ◌≡◌}
use Rattle.std.proofs.VecSteps.Shapes.{after}
use Rattle.std.proofs.alloc.Calls.{Goes-blank}
use Rattle.std.proofs.raw_atomic.Walks.{proved}
use Rattle.std.specs.Allocator.{array_of}
use base.Fml.{flft, ftrue}
use base.Logic.{emp, id⊢}
use contract.Monad.{fact, fact_i}
use contract.Running.{tables}
use denote.Builtin.{RefOf, u64, unit, usize}
use denote.Exit.{yes}
use denote.Plain.{uint_Makes, uint_Tells, uint_vals}
use denote.RattleType.{owns}
use denote.RawPtr.{Ptr, block_ptr, in_a_block}
use denote.Ref.{ShrRef, shr_Tells, shr_vals}
use denote.Signature.{Slot, plain}
use denote.Steps.{heard, nothing, only, owned}
use denote.Triple.Call.{calls_at_last}
use denote.Triple.Clauses.{lasts}
use denote.Triple.Spec.{triple_of}
use denote.Triple.Table.{framed}
use denote.Triple.Walked.{Goes-dropped, Stays, ends_at, stay_dropped, walk_of}
use lib.Dec.{T}
use mir.Syntax.{Ty, named, ty_unit}
use mir.Val.{Val, WT, has_ty, vint, vptr, vunit}
use prog.Capped.{capped_is}
use prog.Memory.{align, capped, size}
use prog.Wp.{WpFn}
use types.ByLocal.{alloc_all, env, free_all, get, get_in, lands_last, look_at, pass_all, sets}
use types.Kit.{ !, at_ret, await, done, drop, feq_i, feq_l, fjoin, fsplit, join, keep, later, move, pick, prop, qed, raw, regoal, rewrite, some, split, suffices, use0, use1, ‵, ◌$◌, ◌∵◌, ◌⊛◌}
use types.Part.{sub, whole}
use types.Run.{and_then, bin, blocks, enter, exec, first, fld, lit, no_more, of_opd, returns, stop, unit_lit}

abbrev handle : Slot 1
handle = RefOf (0 ∷ []) tt (plain (λ _. global.the_row)) (λ _. tt)

abbrev stayed : Stays f.ended.signature.params f.ended.kept
stayed = (stay_dropped (plain (λ _. R)) yes, (stay_dropped handle yes, (stay_dropped (plain (λ _. usize)) yes, tt)))

pub free_spec : {M : Type 1} → statement M
free_spec 𝓤 𝓛 𝓜 𝓡 wired =
    let c = f.clauses 𝓛 𝓜.mem 𝓡.returns in let W = walk_of 𝓛 f.ended stayed c in let 𝓣 = tables 𝓤 𝓛.H 𝓜 𝓡 𝓡.env in
    proved 𝓛 f.ended stayed c 𝓜 𝓡 (Goes-blank 𝓛 1 (plain (λ _. R)) yes (λ κs x w. tt), (Goes-dropped 𝓛 1 handle yes (λ κs x w. refl), (Goes-dropped 𝓛 1 (plain (λ _. usize)) yes (λ κs x w. refl), tt)))
    f.Key.name code.function (code.unfolded 𝓤 𝓛.H 𝓜 𝓡 wired)
    (λ κs. ((λ d. lowers.lowered d ∷ []), (shr_vals, (uint_vals w64, tt)))) (λ κs. (lowers.val_is, (shr_Tells (named 0) κs.0 global.the_row, (uint_Tells w64, tt)))) (λ κs qs bounds a _ are.
    let κ = κs.0 in let h = a.0 in let r = a.1.0 in let n = a.1.1.0 in
    let y : W.Ghost = ((κs, qs, bounds, a, (lowers.lowered h ∷ [], (shr_vals r, (vint w64 n ∷ [], tt)))), tt) in
    let τ : Ty = array_of u64 n in
    let few = h.fits.1 in
    qed 𝓛 (((‵ (flft κ qs.0) ⊛ ‵ ftrue) ⊛ ‵ (owns (R ∷ ShrRef (named 0) κ global.the_row ∷ usize ∷ []) a y.0.4)) ∷ raw (fact 𝓤 (n ≡ h.room)) ∷ []) ∵
    move ! (1 ∷ []) $ heard ! _ (λ same.
    let bytes : n * 8 < 2 ^ 64 = omega (arith, few, same) in
    let Asked : Type 0 = (capped (size τ) ≡ n * 8) × (capped (align τ) ≡ 8) in
    let asked : Asked = (capped_is (n * 8) bytes, capped_is 8 (lit< tt)) in
    split ! $ split ! $ move ! (2 ∷ []) $ fsplit ! $ fsplit ! $ drop ! $
    in_a_block ! h.start (λ p. memory_owns p h.words h.room) (nowhere 𝓛 h.words h.room) (λ b o e.
    use1 𝓛 (‵ (bare 𝓛 b h.room o)) (all_room 𝓛 b h.room o h.words h.fits.0) $ rewrite ! 0 (λ k. ‵ (bare 𝓛 b k o)) (sym same) refl $
    move ! (1 ∷ []) $ fsplit ! $ keep ! (2 ∷ 0 ∷ 3 ∷ []) $
    -- [the block; the `&` to the heap; its token]
    regoal ! (λ (p : Ptr). prop (WpFn 𝓤 𝓛.H 𝓣.C 𝓣.Λ code.function (lowers.lowered (record h { start = p }) ∷ vptr r.ref_ptr.0 r.ref_ptr.1 ∷ vint w64 n ∷ []) (W.post y))) e refl $
    enter ! _ _ _ _ _ $ alloc_all ! (λ l. pass_all ! refl ((tt, (tt, tt)), ((tt, tt), ((tt, record { fits = are.1.1.0.1 }), tt))) $
    sets ! (of_opd ! (get_in ! (fld ! refl (stop !)) (sub ! 0 refl (whole !)))) refl (tt, tt) $
    first ! $ blocks ! $
    sets ! (of_opd ! (get ! refl)) refl (tt, tt) $
    sets ! (bin ! (get ! refl) (lit ! tt) (record { fits = bytes })) refl (tt, record { fits = bytes }) $
    let p : Ptr = block_ptr b o in
    let G = triple_of 𝓛 g.signature (g.spec 𝓛 𝓜.mem 𝓡.returns) in
    let z : G.Ghost = ((κs, qs, bounds, (r, (p, (n * 8, (8, tt)))), (shr_vals r, (vptr b o ∷ [], (vint w64 (n * 8) ∷ [], (vint w64 8 ∷ [], tt))))), τ) in
    nothing ! $ owned ! usize _ (uint_Makes 𝓛 w64) 8 _ (refl, lit< tt) $ fjoin ! $ owned ! usize _ (uint_Makes 𝓛 w64) (n * 8) _ (refl, bytes) $ fjoin ! $
    feq_i ! (List Val) (vptr b o ∷ []) (vptr b o ∷ []) refl $ fjoin ! $ move ! (2 ∷ 0 ∷ []) $ fjoin ! $
    nothing ! $ move ! (3 ∷ 0 ∷ []) $ join ! $ join ! $
    use0 𝓛 (raw (fact 𝓤 Asked)) (fact_i 𝓤 Asked (emp 𝓤) asked) $ move ! (0 ∷ 2 ∷ []) $ join ! $ move ! (1 ∷ 0 ∷ []) $ join ! $ use1 𝓛 (raw (G.pre z)) (id⊢ 𝓤 _) $
    calls_at_last ! (framed 𝓤 𝓛.H 𝓜 𝓣) G (met 𝓤 𝓛 𝓜 𝓡 (code.calls-std_heap::GlobalAllocator::deallocate 𝓡.env wired)) z
    (and_then ! (get ! refl) (and_then ! (get ! refl) (and_then ! (get ! refl) (and_then ! (lit ! tt) (no_more !))))) (λ v.
    use1 𝓛 (later (some (λ (u : Unit {0}). ((‵ (flft κ qs.0) ⊛ ‵ ftrue) ⊛ ‵ (unit.own_val u (v ∷ []))) ⊛
    some (λ (ws : Unit {0} × (Unit {0} × (Unit {0} × (Unit {0} × Unit {0})))). ‵ (lasts g.ended κs z.0.3 ws) ⊛ ‵ ftrue)))) (id⊢ 𝓤 _) $ await ! tt $ pick ! (λ u.
    split ! $ move ! (1 ∷ []) $ drop ! $ split ! $ move ! (1 ∷ []) $ feq_l ! (λ is_unit.
    lands_last ! refl (subst (λ (x : Val). T (has_ty ty_unit x) × WT x) (sym (ap only is_unit)) (tt, tt)) $
    exec ! 𝓣.C 𝓣.Λ (env code.Mir.locals l) (after 2 (code.function).body) (at_ret _ (W.post y)) $
    sets ! (of_opd ! (unit_lit !)) refl (tt, tt) $ returns ! (look_at ! 0 refl) $ free_all ! refl $ keep ! (0 ∷ []) $
    suffices ! _ (ends_at 𝓛 f.ended stayed c y vunit tt (tt, (tt, (tt, tt))) (tt, (tt, (tt, tt)))) $
    nothing ! $ feq_i ! _ (vunit ∷ []) _ refl $ nothing ! $ nothing ! $ fjoin ! $ nothing ! $ fjoin ! $ nothing ! $ fjoin ! $ join ! $ move ! (2 ∷ 0 ∷ []) $ join ! $ join ! $ done !)))))))
