-- The heap is asked for a block. What it hands out is room, and the right to free it.
use Rattle.bits.specs.contracts.memory.Memory as memory
use Rattle.bits.specs.contracts.memory.Memory.allocate as f
use Rattle.bits.proofs.memory.Memory.allocate.Statement.{statement}
use Rattle.bits.proofs.memory.Memory.allocate.Code as code
use Rattle.bits.specs.contracts.memory.Memory.{the_row as R}
use Rattle.std.specs.contracts.alloc.Global as global
use Rattle.std.specs.contracts.alloc.AllocError as error
use Rattle.std.specs.contracts.result.Result as result
use denote.Struct.Declared as declared
use Rattle.std.specs.contracts.impls.GlobalAllocator.allocate as g
use Rattle.std.proofs.impls.GlobalAllocator.allocate.Met.{met}  --k
use Rattle.bits.proofs.Cells.{none_yet}
use Rattle.bits.specs.Block.{max_words}
use Rattle.bits.specs.Ownership.{heap, memory_owns}
use Rattle.std.proofs.Common.{[], arith, false, lit<, refl, true, w64, ◌*◌, ◌<◌, ◌^◌, ◌∷◌, ◌≡◌, ◌≤◌}
use Rattle.std.proofs.ResultValues.{err_of, ok_of}
use Rattle.std.proofs.VecSteps.Shapes.{after}
use Rattle.std.proofs.alloc.Calls.{Answer, Answer-typed}
use Rattle.std.proofs.alloc.Resizes.{Flagged, by_flag, flagged}
use Rattle.std.proofs.alloc.Shapes.{arm_body, head}
use Rattle.std.proofs.raw_atomic.Walks.{proved}
use Rattle.std.specs.Allocator.{array_of, block_if_ok}
use Rattle.std.specs.Prelude.{Err, Ok}
use Rattle.std.specs.contracts.impls.GlobalAllocator.TheImpl.{ghosts}
use base.Fml.{Fml, flft, ftrue}
use base.Logic.{emp, ex, fst∗, id⊢, never}
use contract.Monad.{fact, fact_i}
use contract.Running.{tables}
use denote.Builtin.{RefOf, u64, usize}
use denote.Exit.{yes}
use denote.Laws.{Is}
use denote.Plain.{uint_Makes, uint_Tells, uint_vals}
use denote.RattleType.{RattleType, owns}
use denote.RawPtr.{Ptr, block_ptr, null_ptr}
use denote.Ref.{ShrRef, shr_Tells, shr_vals}
use denote.Signature.{Slot, plain}
use denote.Steps.{heard, nothing, owned}
use denote.Struct.Owning.{shape}
use denote.Struct.Struct.{Struct, Struct-Makes}
use denote.Triple.Call.{calls_at}
use denote.Triple.Clauses.{lasts}
use denote.Triple.Spec.{triple_of}
use denote.Triple.Table.{framed}
use denote.Triple.Walked.{Goes-dropped, Stays, ends_at, says, stay_dropped, walk_of}
use mir.Syntax.{Ty, named}
use mir.Val.{Val, vcons, vint, vnil, vptr, vstruct}
use prog.Capped.{capped_is}
use prog.Memory.{align, capped, size}
use prog.Wp.{Wp, after_seq, at_return}
use types.ByLocal.{alloc_all, env, free_all, get, get_in, get_tag, lands_as, look_at, pass_all, sets, sets_last}
use types.Kit.{ !, Post, any_q, at_ret, await, done, drop, fjoin, frame, fsplit, join, keep, later, move, pick, qed, raw, some, split, suffices, use0, use1, use2, ‵, ◌$◌, ◌∵◌, ◌⊛◌}
use types.Logic.{sem}
use types.Match.{in_variant, live, vrt}
use types.Part.{agg, whole}
use types.Run.{and_then, bin, enter, exec, first, fld, lit, no_more, of_opd, returns, stop, switches_on}

abbrev self : Slot 1
self = RefOf (0 ∷ []) tt (plain (λ _. global.the_row)) (λ _. tt)

abbrev stayed : Stays f.ended.signature.params f.ended.kept
stayed = (stay_dropped self yes, (stay_dropped (plain (λ _. usize)) yes, tt))

abbrev Fields : RattleType
Fields = Struct (shape memory.the_type)

abbrev Refusal : RattleType
Refusal = Struct (declared.shape error.the_type)

abbrev Out : RattleType
Out = result.the_row R error.the_row

pub allocate_spec : {M : Type 1} → statement M
allocate_spec 𝓤 𝓛 𝓜 𝓡 wired =
    let c = f.clauses 𝓛 𝓜.mem 𝓡.returns in let W = walk_of 𝓛 f.ended stayed c in let 𝓣 = tables 𝓤 𝓛.H 𝓜 𝓡 𝓡.env in
    proved 𝓛 f.ended stayed c 𝓜 𝓡 (Goes-dropped 𝓛 1 self yes (λ κs x w. refl), (Goes-dropped 𝓛 1 (plain (λ _. usize)) yes (λ κs x w. refl), tt))
    f.Key.name code.function (code.unfolded 𝓤 𝓛.H 𝓜 𝓡 wired)
    (λ κs. (shr_vals, (uint_vals w64, tt))) (λ κs. (shr_Tells (named 0) κs.0 global.the_row, (uint_Tells w64, tt))) (λ κs qs bounds a _ are.
    let κ = κs.0 in let h = a.0.now in let n = a.1.0 in
    let y : W.Ghost = ((κs, qs, bounds, a, (shr_vals a.0, (vint w64 n ∷ [], tt))), tt) in
    let τ : Ty = array_of u64 n in
    let G = triple_of 𝓛 g.signature (g.spec 𝓛 𝓜.mem 𝓡.returns) in
    let z : G.Ghost = (((κs, qs, bounds, (a.0, (n * 8, (8, tt))), (shr_vals a.0, (vint w64 (n * 8) ∷ [], (vint w64 8 ∷ [], tt))))), τ) in
    let Got : Answer.Denot → Fml = block_if_ok (ghosts.dealloc_token heap) τ in
    qed 𝓛 (((‵ (flft κ qs.0) ⊛ ‵ ftrue) ⊛ ‵ (owns (ShrRef (named 0) κ global.the_row ∷ usize ∷ []) a y.0.4)) ∷ raw (fact 𝓤 (n ≤ max_words)) ∷ []) ∵
    move ! (1 ∷ []) $ heard ! _ (λ few.
    let bytes : n * 8 < 2 ^ 64 = omega (arith, few) in
    let Asked : Type 0 = (capped (size τ) ≡ n * 8) × (capped (align τ) ≡ 8) in
    let asked : Asked = (capped_is (n * 8) bytes, capped_is 8 (lit< tt)) in
    split ! $ split ! $ move ! (2 ∷ []) $ fsplit ! $ keep ! (0 ∷ 2 ∷ []) $
    enter ! _ _ _ _ _ $ alloc_all ! (λ l. pass_all ! refl ((tt, tt), ((tt, record { fits = are.1.0.1 }), tt)) $
    let En = env code.Mir.locals l in
    let choice = head (after 2 (code.function).body) in
    let Then : Post 𝓤 𝓛.H = any_q (after_seq 𝓤 𝓛.H (Wp 𝓤 𝓛.H 𝓣.C 𝓣.Λ En (after 3 (code.function).body) (at_return 𝓤 𝓛.H En (W.post y))) (at_return 𝓤 𝓛.H En (W.post y))) in
    sets ! (bin ! (get ! refl) (lit ! tt) (record { fits = bytes })) refl (tt, record { fits = bytes }) $
    -- [the `&` to the heap; its token]
    nothing ! $ owned ! usize _ (uint_Makes 𝓛 w64) 8 _ (refl, lit< tt) $ fjoin ! $ owned ! usize _ (uint_Makes 𝓛 w64) (n * 8) _ (refl, bytes) $ fjoin ! $
    move ! (1 ∷ 0 ∷ []) $ fjoin ! $ nothing ! $ move ! (2 ∷ 0 ∷ []) $ join ! $ join ! $
    use0 𝓛 (raw (fact 𝓤 Asked)) (fact_i 𝓤 Asked (emp 𝓤) asked) $ move ! (1 ∷ 0 ∷ []) $ join ! $ use1 𝓛 (raw (G.pre z)) (id⊢ 𝓤 _) $
    calls_at ! (framed 𝓤 𝓛.H 𝓜 𝓣) G (met 𝓤 𝓛 𝓜 𝓡 (code.calls-std_heap::GlobalAllocator::allocate 𝓡.env wired)) z
    (and_then ! (get ! refl) (and_then ! (get ! refl) (and_then ! (lit ! tt) (no_more !)))) (λ v.
    use1 𝓛 (later (some (λ (r : Answer.Denot). ((‵ (flft κ qs.0) ⊛ ‵ ftrue) ⊛ ‵ (Answer.own_val r (v ∷ []))) ⊛
    some (λ (ws : Unit {0} × (Unit {0} × (Unit {0} × Unit {0}))). ‵ (lasts g.ended κs z.0.3 ws) ⊛ ‵ (Got r))))) (id⊢ 𝓤 _) $ await ! tt $ pick ! (λ r.
    split ! $ move ! (1 ∷ []) $ pick ! (λ ws. split ! $ drop ! $ move ! (1 ∷ []) $ split ! $ move ! (1 ∷ 2 ∷ []) $
    use2 𝓛 (raw (ex 𝓤 (Flagged 𝓛 Got v))) (by_flag 𝓛 Got (fst∗ 𝓤 (never 𝓤) (sem 𝓛 (ghosts.dealloc_token heap τ null_ptr))) v r) $
    -- [what the heap hands out; the token of κ]
    flagged ! v Got
    (λ b o e.
    let p : Ptr = block_ptr b o in
    let new : R.Denot = record { start = p; words = []; room = n; fits = (omega arith, few) } in
    let made : Val = vstruct (vcons (vptr b o) vnil) in
    lands_as ! e refl (Answer-typed true b o) $ first ! $ switches_on ! (get_tag ! (vrt ! refl (fld ! refl (stop !))) (whole !)) $ exec ! 𝓣.C 𝓣.Λ En (arm_body 0 choice) Then $
    sets ! (of_opd ! (get_in ! (vrt ! refl (fld ! refl (stop !))) (in_variant ! 0 0 refl refl (whole !)))) refl (tt, tt) $
    sets ! (of_opd ! (get ! refl)) refl (tt, tt) $
    sets ! (agg ! (and_then ! (get ! refl) (no_more !))) refl (tt, (tt, tt)) $
    sets_last ! (agg ! (and_then ! (lit ! tt) (and_then ! (get ! refl) (no_more !)))) refl (tt, (record { fits = lit< tt }, ((tt, tt), tt))) $
    exec ! 𝓣.C 𝓣.Λ En (after 3 (code.function).body) (at_ret _ (W.post y)) $
    sets ! (of_opd ! (get ! refl)) refl (tt, (record { fits = lit< tt }, ((tt, tt), tt))) $
    use1 𝓛 (‵ (memory_owns p [] n)) (none_yet 𝓛 b n o) $
    owned ! Fields (Is Fields) (Struct-Makes 𝓛 (shape memory.the_type) (λ x us. tt, tt)) (p, tt) (made ∷ []) ((vptr b o ∷ [], tt), (refl, (refl, tt))) $ fjoin ! $
    use1 𝓛 (‵ (Out.own_val (Ok new) (live 0 (vcons made vnil) ∷ []))) (ok_of 𝓛 R error.the_row new made) $
    returns ! (look_at ! 0 refl) $ free_all ! refl $ keep ! (0 ∷ 1 ∷ []) $
    suffices ! _ (ends_at 𝓛 f.ended stayed c y (live 0 (vcons made vnil)) (Ok new) (tt, (tt, tt)) (tt, (tt, tt))) $ says ! (refl, refl) $
    move ! (1 ∷ 0 ∷ []) $ frame ! $ nothing ! $ nothing ! $ fjoin ! $ nothing ! $ fjoin ! $ done !)
    (λ e.
    let none : Val = live 1 (vcons (vstruct vnil) vnil) in
    drop ! $ lands_as ! e refl (Answer-typed false 0 0) $ first ! $ switches_on ! (get_tag ! (vrt ! refl (fld ! refl (stop !))) (whole !)) $ exec ! 𝓣.C 𝓣.Λ En (arm_body 1 choice) Then $
    sets ! (of_opd ! (get_in ! (vrt ! refl (fld ! refl (stop !))) (in_variant ! 1 0 refl refl (whole !)))) refl (tt, tt) $
    sets_last ! (agg ! (and_then ! (lit ! tt) (and_then ! (get ! refl) (no_more !)))) refl (tt, (record { fits = lit< tt }, (tt, tt))) $
    exec ! 𝓣.C 𝓣.Λ En (after 3 (code.function).body) (at_ret _ (W.post y)) $
    sets ! (of_opd ! (get ! refl)) refl (tt, (record { fits = lit< tt }, (tt, tt))) $
    owned ! Refusal (Is Refusal) (Struct-Makes 𝓛 (declared.shape error.the_type) tt) tt (vstruct vnil ∷ []) (tt, (refl, tt)) $
    use1 𝓛 (‵ (Out.own_val (Err (record {})) (none ∷ []))) (err_of 𝓛 R error.the_row (record {}) (vstruct vnil)) $
    returns ! (look_at ! 0 refl) $ free_all ! refl $ keep ! (0 ∷ 1 ∷ []) $
    suffices ! _ (ends_at 𝓛 f.ended stayed c y none (Err (record {})) (tt, (tt, tt)) (tt, (tt, tt))) $ says ! tt $
    move ! (1 ∷ 0 ∷ []) $ frame ! $ nothing ! $ nothing ! $ fjoin ! $ nothing ! $ fjoin ! $ done !)))))))
