-- The heap is asked for a larger block. The block keeps the words, even if it moves.
use Rattle.bits.specs.contracts.memory.Memory as memory
use Rattle.bits.specs.contracts.memory.Memory.grow as f
use Rattle.bits.proofs.memory.Memory.grow.Statement.{statement}
use Rattle.bits.proofs.memory.Memory.grow.Code as code
use Rattle.bits.specs.contracts.memory.Memory.{the_row as R}
use Rattle.bits.proofs.memory.Memory.TheLaws.{lowers}
use Rattle.std.specs.contracts.alloc.AllocError as error
use Rattle.std.specs.contracts.alloc.Global as global
use Rattle.std.specs.contracts.result.Result as result
use Rattle.std.specs.contracts.impls.GlobalAllocator.grow as g
use Rattle.std.proofs.impls.GlobalAllocator.grow.Met.{met}  --k
use denote.Struct.Declared as declared
use Rattle.bits.proofs.Cells.{nowhere, word_laws}
use Rattle.bits.specs.Block.{max_words}
use Rattle.bits.specs.Ownership.{heap, memory_owns}
use Rattle.std.proofs.Common.{List, [], ap, arith, false, length, lit<, refl, subst, sym, true, w64, ℕ, ◌*◌, ◌-◌, ◌<◌, ◌^◌, ◌∙◌, ◌∷◌, ◌≡◌, ◌≤◌}
use Rattle.std.proofs.ResultValues.{err_of, ok_of}
use Rattle.std.proofs.VecSteps.Facts.{Says-All, and_fact, last_fact}
use Rattle.std.proofs.VecSteps.Shapes.{after}
use Rattle.std.proofs.alloc.Calls.{Answer, Answer-typed}
use Rattle.std.proofs.alloc.Resizes.{Flagged, by_flag, flagged}
use Rattle.std.proofs.alloc.Shapes.{arm_body, head}
use Rattle.std.proofs.raw_atomic.Walks.{proved}
use Rattle.std.specs.Allocator.{array_of, block_with_items, resized_if_ok}
use Rattle.std.specs.Prelude.{Err, Ok}
use Rattle.std.specs.contracts.impls.GlobalAllocator.TheImpl.{ghosts}
use base.Fml.{Fml, flft, fsep, ftrue}
use base.Share
use base.Fraction.{full_share}
use base.Logic.{emp, ex, fst∗, id⊢, never}
use contract.BorrowLft.{⊑_static, ◌⊑◌}
use contract.Monad.{fact, fact_i}
use contract.Running.{tables}
use denote.Builtin.{RefOf, u64, unit, usize}
use denote.Exit.{yes}
use denote.Laws.{Is, shows}
use denote.Memory.{cell_at}
use denote.Param.{layout}
use denote.Plain.{uint_Makes, uint_Tells, uint_vals}
use denote.RattleType.{RattleType, owns}
use denote.RawPtr.{Ptr, block_ptr, in_a_block, null_ptr, room_for}
use denote.Ref.{MutRef, ShrRef, mut_Tells, mut_vals, shr_Tells, shr_vals}
use denote.Signature.{Slot, plain}
use denote.Steps.{closes, heard, nothing, opens, owned, peeks}
use denote.Struct.Owning.{shape}
use denote.Struct.Struct.{Struct, Struct-Makes}
use denote.Triple.Call.{calls_at_last}
use denote.Triple.Clauses.{lasts}
use denote.Triple.Spec.{triple_of}
use denote.Triple.Table.{framed}
use denote.Triple.Walked.{Goes-dropped, Goes-ref, Stays, ends_at, stay_dropped, stay_ref, walk_of}
use lib.Dec.{T}
use mir.Syntax.{named}
use mir.Val.{Val, WT, has_ty, vcons, vint, vnil, vptr, vstruct, vunit}
use prog.Wp.{Wp, after_seq, at_return}
use types.ByLocal.{alloc_all, env, free_all, get, get_in, get_tag, is, lands_last, look_at, pass_all, sets, sets_last, through}
use types.Kit.{ !, Post, any_q, at_ret, await, done, drop, feq_i, fjoin, frame, fsplit, fsplit3, group, join, keep, later, move, pick, qed, raw, rewrite, some, split, split3, suffices, use0, use1, use2, ‵, ◌$◌, ◌∵◌, ◌⊛◌}
use types.Logic.{sem}
use types.Match.{in_variant, live, vrt}
use types.Part.{agg, look_in, store_in, sub, whole}
use types.Run.{and_then, assigns, blocks, enter, exec, first, fld, lit, load, no_more, of_opd, returns, stop, switches_on, unit_lit}

abbrev handle : Slot 2
handle = RefOf (1 ∷ []) tt (plain (λ _. global.the_row)) (λ _. tt)

abbrev number : Slot 2
number = plain (λ _. usize)

abbrev stayed : Stays f.ended.signature.params f.ended.kept
stayed = (stay_ref (0 ∷ []) tt (plain (λ _. R)), (stay_dropped handle yes, (stay_dropped number yes, (stay_dropped number yes, (stay_dropped number yes, tt)))))

abbrev Fields : RattleType
Fields = Struct (shape memory.the_type)

abbrev Refusal : RattleType
Refusal = Struct (declared.shape error.the_type)

abbrev Out : RattleType
Out = result.the_row unit error.the_row

pub grow_spec : {M : Type 1} → statement M
grow_spec 𝓤 𝓛 𝓜 𝓡 wired =
    let c = f.clauses 𝓛 𝓜.mem 𝓡.returns in let W = walk_of 𝓛 f.ended stayed c in let 𝓣 = tables 𝓤 𝓛.H 𝓜 𝓡 𝓡.env in
    proved 𝓛 f.ended stayed c 𝓜 𝓡 (Goes-ref 𝓛 2 0 tt (plain (λ _. R)), (Goes-dropped 𝓛 2 handle yes (λ κs x w. refl), (Goes-dropped 𝓛 2 number yes (λ κs x w. refl), (Goes-dropped 𝓛 2 number yes (λ κs x w. refl), (Goes-dropped 𝓛 2 number yes (λ κs x w. refl), tt)))))
    f.Key.name code.function (code.unfolded 𝓤 𝓛.H 𝓜 𝓡 wired)
    (λ κs. (mut_vals, (shr_vals, (uint_vals w64, (uint_vals w64, (uint_vals w64, tt)))))) (λ κs. (mut_Tells (named 0) κs.0 R, (shr_Tells (named 1) κs.1.0 global.the_row, (uint_Tells w64, (uint_Tells w64, (uint_Tells w64, tt)))))) (λ κs qs bounds a _ are.
    let κ = κs.1.0 in let q = qs.1.0 in
    let b = a.0.ref_ptr.0 in let o = a.0.ref_ptr.1 in let h = a.0.now in let r = a.1.0 in let len = a.1.1.0 in let old = a.1.1.1.0 in let new = a.1.1.1.1.0 in
    let y : W.Ghost = ((κs, qs, bounds, a, (mut_vals a.0, (shr_vals r, (vint w64 len ∷ [], (vint w64 old ∷ [], (vint w64 new ∷ [], tt)))))), tt) in
    let fits_len = are.1.1.0.1 in let fits_old = are.1.1.1.0.1 in let fits_new = are.1.1.1.1.0.1 in
    qed 𝓛 (((‵ (flft κs.0 qs.0) ⊛ ‵ (flft κ q) ⊛ ‵ ftrue) ⊛ ‵ (owns (MutRef (named 0) κs.0 R ∷ ShrRef (named 1) κ global.the_row ∷ usize ∷ usize ∷ usize ∷ []) a y.0.4))
    ∷ (raw (fact 𝓤 (len ≡ length h.words)) ⊛ raw (fact 𝓤 (old ≡ h.room)) ⊛ raw (fact 𝓤 (old ≤ new)) ⊛ raw (fact 𝓤 (new ≤ max_words))) ∷ []) ∵
    move ! (1 ∷ []) $ split ! $ heard ! _ (λ same. split ! $ heard ! _ (λ wide. split ! $ heard ! _ (λ more. heard ! _ (λ small.
    let few = h.fits in
    let Sizes : Type 0 = (len ≤ old) × (old ≤ new) × (new * 8 < 2 ^ 63) in
    let sizes : Sizes = (omega (arith, few.0, same, wide), more, omega (arith, small)) in
    split ! $ split3 ! $ move ! (3 ∷ []) $ fsplit ! $ move ! (1 ∷ []) $ fsplit ! $ keep ! (2 ∷ 3 ∷ 0 ∷ 4 ∷ []) $
    -- [self; its token; the `&` to the heap; its token]
    enter ! _ _ _ _ _ $ alloc_all ! (λ l. pass_all ! refl ((tt, tt), ((tt, tt), ((tt, record { fits = fits_len }), ((tt, record { fits = fits_old }), ((tt, record { fits = fits_new }), tt))))) $
    let En = env code.Mir.locals l in
    let choice = head (after 2 (code.function).body) in
    let Then : Post 𝓤 𝓛.H = any_q (after_seq 𝓤 𝓛.H (Wp 𝓤 𝓛.H 𝓣.C 𝓣.Λ En (after 3 (code.function).body) (at_return 𝓤 𝓛.H En (W.post y))) (at_return 𝓤 𝓛.H En (W.post y))) in
    fsplit3 ! $ move ! (1 ∷ 2 ∷ 3 ∷ []) $ opens ! tt R b o (λ us.
    move ! (1 ∷ []) $ peeks ! R _ (shows 𝓛 R) h us (λ shown. fsplit ! $ move ! (1 ∷ []) $
    in_a_block ! h.start (λ p. memory_owns p h.words h.room) (nowhere 𝓛 h.words h.room) (λ b' o' e.
    let p : Ptr = block_ptr b' o' in
    let word = lowers.val_is h us shown ∙ ap (λ (p : Ptr). lowers.lowered (record h { start = p }) ∷ []) e in
    let Cell = λ (ws : List Val). ‵ (cell_at full_share R.mir ws b o) in
    let Held = λ (k n : ℕ). block_with_items (ghosts.dealloc_token heap) u64 p k n h.words in
    let Got : Answer.Denot → Fml = resized_if_ok (ghosts.dealloc_token heap) u64 p len old new h.words in
    rewrite ! 0 (λ (k : ℕ). ‵ (Held k h.room)) (sym same) refl $ rewrite ! 0 (λ (n : ℕ). ‵ (Held len n)) (sym wide) refl $
    rewrite ! 2 Cell word refl $
    -- [the block; what the fields own; the struct's cell; the open borrow, in three entries; self's first part; the
    -- `&`; its token]
    first ! $ blocks ! $
    sets ! (of_opd ! (load ! (through ! refl (fld ! refl (stop !))) (look_in ! 2 (sub ! 0 refl (whole !))))) refl (tt, tt) $
    let G = triple_of 𝓛 (g.signature u64) (g.spec u64 𝓛 𝓜.mem 𝓡.returns) in
    let z : G.Ghost = (((κ, (κ, tt)), (Share.left q, (Share.right q, tt)), tt, (r, (p, (len, (old, (new, tt))))), (shr_vals r, (vptr b' o' ∷ [], (vint w64 len ∷ [], (vint w64 old ∷ [], (vint w64 new ∷ [], tt)))))), h.words) in
    move ! (8 ∷ 7 ∷ 0 ∷ []) $ use1 𝓛 (‵ (flft κ (Share.left q)) ⊛ ‵ (flft κ (Share.right q))) (𝓛.lfts.lft_split κ q) $ split ! $
    nothing ! $ move ! (2 ∷ 0 ∷ []) $ join ! $ move ! (1 ∷ 0 ∷ []) $ join ! $
    -- [two halves of the token; the `&`; the block]
    nothing ! $ owned ! usize _ (uint_Makes 𝓛 w64) new _ (refl, fits_new) $ fjoin ! $ owned ! usize _ (uint_Makes 𝓛 w64) old _ (refl, fits_old) $ fjoin ! $
    owned ! usize _ (uint_Makes 𝓛 w64) len _ (refl, fits_len) $ fjoin ! $
    feq_i ! (List Val) (vptr b' o' ∷ []) (vptr b' o' ∷ []) refl $ fjoin ! $ move ! (2 ∷ 0 ∷ []) $ fjoin ! $ move ! (1 ∷ 0 ∷ []) $ join ! $
    use0 𝓛 (raw (fact 𝓤 Sizes)) (fact_i 𝓤 Sizes (emp 𝓤) sizes) $ move ! (0 ∷ 2 ∷ []) $ join ! $
    use0 𝓛 (raw (fact 𝓤 (κ ⊑ u64.lives))) (fact_i 𝓤 (κ ⊑ u64.lives) (emp 𝓤) (⊑_static κ)) $ join ! $ move ! (1 ∷ 0 ∷ []) $ join ! $ use1 𝓛 (raw (G.pre z)) (id⊢ 𝓤 _) $
    calls_at_last ! (framed 𝓤 𝓛.H 𝓜 𝓣) G (met 𝓤 𝓛 𝓜 𝓡 (code.calls-std_heap::GlobalAllocator::grow 𝓡.env wired) u64 word_laws) z
    (and_then ! (get ! refl) (and_then ! (get ! refl) (and_then ! (get ! refl) (and_then ! (get ! refl) (and_then ! (get ! refl) (no_more !)))))) (λ v.
    use1 𝓛 (later (some (λ (r : Answer.Denot). ((‵ (flft κ (Share.left q)) ⊛ ‵ (flft κ (Share.right q)) ⊛ ‵ ftrue) ⊛ ‵ (Answer.own_val r (v ∷ []))) ⊛
    some (λ (ws : Unit {0} × (Unit {0} × (Unit {0} × (Unit {0} × (Unit {0} × Unit {0}))))). ‵ (lasts (g.ended u64) z.0.0 z.0.3 ws) ⊛ ‵ (Got r))))) (id⊢ 𝓤 _) $ await ! tt $ pick ! (λ r.
    split ! $ move ! (1 ∷ []) $ pick ! (λ ws. split ! $ drop ! $ move ! (1 ∷ []) $ split ! $ split3 ! $
    use2 𝓛 (‵ (flft κ q)) (𝓛.lfts.lft_join κ q) $ move ! (2 ∷ 3 ∷ []) $
    use2 𝓛 (raw (ex 𝓤 (Flagged 𝓛 Got v))) (by_flag 𝓛 Got (fst∗ 𝓤 (never 𝓤) (sem 𝓛 (fsep (room_for (array_of u64 (new - len)) null_ptr) (ghosts.dealloc_token heap (array_of u64 new) null_ptr)))) v r) $
    -- [what the heap hands out; the token; nothing; what the fields own; the struct's cell; the open borrow, in three
    -- entries; self's first part]
    flagged ! v Got
    (λ b₂ o₂ e₂.
    let p₂ : Ptr = block_ptr b₂ o₂ in
    let grown : R.Denot = record { start = p₂; words = h.words; room = new; fits = (omega (arith, few.0, wide, more), small) } in
    let made : Val = vstruct (vcons (vptr b₂ o₂) vnil) in
    lands_last ! refl (subst (λ (x : Val). T (has_ty (layout Answer) x) × WT x) (sym e₂) (Answer-typed true b₂ o₂)) $
    exec ! 𝓣.C 𝓣.Λ En (after 1 (code.function).body) (at_ret En (W.post y)) $
    sets ! (is ! (of_opd ! (get ! refl)) e₂) refl (Answer-typed true b₂ o₂) $
    first ! $ switches_on ! (get_tag ! (vrt ! refl (fld ! refl (stop !))) (whole !)) $ exec ! 𝓣.C 𝓣.Λ En (arm_body 0 choice) Then $
    sets ! (of_opd ! (get_in ! (vrt ! refl (fld ! refl (stop !))) (in_variant ! 0 0 refl refl (whole !)))) refl (tt, tt) $
    assigns ! (of_opd ! (get ! refl)) (through ! refl (fld ! refl (stop !))) (store_in ! 4 (sub ! 0 refl (whole !)) (tt, tt)) $
    sets_last ! (agg ! (and_then ! (lit ! tt) (and_then ! (unit_lit !) (no_more !)))) refl (tt, (record { fits = lit< tt }, (tt, tt))) $
    exec ! 𝓣.C 𝓣.Λ En (after 3 (code.function).body) (at_ret En (W.post y)) $
    sets ! (of_opd ! (get ! refl)) refl (tt, (record { fits = lit< tt }, (tt, tt))) $
    rewrite ! 0 (λ (k : ℕ). ‵ (block_with_items (ghosts.dealloc_token heap) u64 p₂ k new h.words)) same refl $ move ! (3 ∷ []) $ drop ! $
    owned ! Fields (Is Fields) (Struct-Makes 𝓛 (shape memory.the_type) (λ x us. tt, tt)) (p₂, tt) (made ∷ []) ((vptr b₂ o₂ ∷ [], tt), (refl, (refl, tt))) $ fjoin ! $
    move ! (3 ∷ 0 ∷ 4 ∷ 5 ∷ 6 ∷ []) $ closes ! tt R grown (made ∷ []) b o $
    -- [two parts of self; its token; the other token; nothing; self's first part]
    returns ! (look_at ! 0 refl) $ free_all ! refl $ move ! (5 ∷ 0 ∷ 1 ∷ []) $
    suffices ! _ (ends_at 𝓛 f.ended stayed c y (live 0 (vcons vunit vnil)) (Ok tt) (grown, (tt, (tt, (tt, (tt, tt))))) (tt, (tt, (tt, (tt, (tt, tt)))))) $ Says-All ! (and_fact 𝓤 refl (and_fact 𝓤 refl (last_fact 𝓤 tt))) $
    group ! 3 $ nothing ! $ nothing ! $ join ! $ nothing ! $ join ! $ nothing ! $ join ! $ nothing ! $ join ! $ move ! (1 ∷ 0 ∷ []) $ join ! $
    move ! (1 ∷ 2 ∷ 3 ∷ []) $ group ! 3 $ frame ! $ frame ! $ feq_i ! (List Val) (vunit ∷ []) (vunit ∷ []) refl $
    use1 𝓛 (‵ (Out.own_val (Ok tt) (live 0 (vcons vunit vnil) ∷ []))) (ok_of 𝓛 unit error.the_row tt vunit) $ done !)
    (λ e₂.
    let none : Val = live 1 (vcons (vstruct vnil) vnil) in
    lands_last ! refl (subst (λ (x : Val). T (has_ty (layout Answer) x) × WT x) (sym e₂) (Answer-typed false 0 0)) $
    exec ! 𝓣.C 𝓣.Λ En (after 1 (code.function).body) (at_ret En (W.post y)) $
    sets ! (is ! (of_opd ! (get ! refl)) e₂) refl (Answer-typed false 0 0) $
    first ! $ switches_on ! (get_tag ! (vrt ! refl (fld ! refl (stop !))) (whole !)) $ exec ! 𝓣.C 𝓣.Λ En (arm_body 1 choice) Then $
    sets ! (of_opd ! (get_in ! (vrt ! refl (fld ! refl (stop !))) (in_variant ! 1 0 refl refl (whole !)))) refl (tt, tt) $
    sets_last ! (agg ! (and_then ! (lit ! tt) (and_then ! (get ! refl) (no_more !)))) refl (tt, (record { fits = lit< tt }, (tt, tt))) $
    exec ! 𝓣.C 𝓣.Λ En (after 3 (code.function).body) (at_ret En (W.post y)) $
    sets ! (of_opd ! (get ! refl)) refl (tt, (record { fits = lit< tt }, (tt, tt))) $
    rewrite ! 0 (λ (n : ℕ). ‵ (Held len n)) wide refl $ rewrite ! 0 (λ (k : ℕ). ‵ (Held k h.room)) same refl $
    rewrite ! 0 (λ (p : Ptr). ‵ (memory_owns p h.words h.room)) (sym e) refl $ rewrite ! 4 Cell (sym word) refl $
    move ! (3 ∷ 0 ∷ []) $ fjoin ! $ move ! (3 ∷ 0 ∷ 4 ∷ 5 ∷ 6 ∷ []) $ closes ! tt R h us b o $
    returns ! (look_at ! 0 refl) $ free_all ! refl $ move ! (5 ∷ 0 ∷ 1 ∷ []) $
    suffices ! _ (ends_at 𝓛 f.ended stayed c y none (Err (record {})) (h, (tt, (tt, (tt, (tt, tt))))) (tt, (tt, (tt, (tt, (tt, tt)))))) $ Says-All ! (and_fact 𝓤 refl (and_fact 𝓤 tt (last_fact 𝓤 refl))) $
    group ! 3 $ nothing ! $ nothing ! $ join ! $ nothing ! $ join ! $ nothing ! $ join ! $ nothing ! $ join ! $ move ! (1 ∷ 0 ∷ []) $ join ! $
    move ! (1 ∷ 2 ∷ 3 ∷ []) $ group ! 3 $ frame ! $ frame ! $
    owned ! Refusal (Is Refusal) (Struct-Makes 𝓛 (declared.shape error.the_type) tt) tt (vstruct vnil ∷ []) (tt, (refl, tt)) $
    use1 𝓛 (‵ (Out.own_val (Err (record {})) (none ∷ []))) (err_of 𝓛 unit error.the_row (record {}) (vstruct vnil)) $ done !)))))))))))))
