-- The words are borrowed from the pointer on, as long as the block is.
use Rattle.bits.specs.contracts.memory.Memory as memory
use Rattle.bits.specs.contracts.memory.Memory.lend as f
use Rattle.bits.proofs.memory.Memory.lend.Statement.{statement}
use Rattle.bits.proofs.memory.Memory.lend.Code as code
use Rattle.bits.specs.contracts.memory.Memory.{the_row as R}
use Rattle.bits.specs.Ownership.{memory_lends}
use Rattle.std.proofs.Common.{List, [], ap, arith, length, refl, w64, ℕ, ◌*◌, ◌+◌, ◌<◌, ◌^◌, ◌∷◌, ◌≡◌}
use Rattle.std.proofs.VecSteps.Shapes.{after}
use Rattle.std.proofs.Words.{pointer_in, pointer_out}
use Rattle.std.proofs.raw_atomic.Walks.{proved}
use base.Fml.{Fml, Lft, fhide, flft, ftrue}
use base.Logic.{ent, sep}
use contract.Monad.{fact}
use contract.Running.{tables}
use denote.Builtin.{RefOf, usize}
use denote.Exit.{yes}
use denote.Memory.{hidden_shr}
use denote.Opens.{hide, shr_dup, unhide}
use denote.Plain.{uint_Tells, uint_vals}
use denote.RattleType.{RattleType, owns}
use denote.RawPtr.{InBlock, Ptr, RawPtr, block_of, count_of, ptr_row_laws}
use denote.Ref.{ShrRef, shr_Tells, shr_vals}
use denote.Signature.{Slot, plain}
use denote.Slice.{slice_val}
use denote.Steps.{heard, nothing}
use denote.Struct.Lending.{in_block_says, lent_out}
use denote.Struct.Owning.{shape}
use denote.Struct.Struct.{Struct, Struct-row_laws}
use denote.Triple.Walked.{Goes-dropped, Stays, ends_at, says, stay_dropped, walk_of}
use mir.Syntax.{named}
use mir.Val.{Val, vint}
use seplogic.Ra.Ura.{Ura}
use types.ByLocal.{alloc_all, env, free_all, get, look_at, pass_all, sets, sets_last, through}
use types.Kit.{ !, at_ret, done, drop, feq_i, fjoin, flt_i, frame, fsplit, join, keep, move, qed, raw, split, suffices, use1, ‵, ◌$◌, ◌∵◌, ◌⊛◌}
use types.Logic.{Logic, sem}
use types.Part.{agg}
use types.Run.{and_then, blocks, enter, exec, first, fld, load, look, no_more, of_opd, returns, stop}

abbrev self : Slot 1
self = RefOf (0 ∷ []) tt (plain (λ _. R)) (λ _. tt)

abbrev stayed : Stays f.ended.signature.params f.ended.kept
stayed = (stay_dropped self yes, (stay_dropped (plain (λ _. usize)) yes, tt))

-- a `&` to the fields is one to the pointer
abbrev Fields : RattleType
Fields = Struct (shape memory.the_type)

module _ {M : Type 1} {𝓤 : Ura M} (𝓛 : Logic 𝓤) (κ : Lft) (b o : ℕ) (p : Ptr) where
  abbrev lent : Fml
  lent = hidden_shr Fields κ (p, tt) b o

  shows_start : ent 𝓤 (sem 𝓛 lent) (sep 𝓤 (sem 𝓛 (hidden_shr RawPtr κ p b (o + 0))) (sem 𝓛 lent))
  shows_start = qed 𝓛 (‵ lent ∷ []) ∵ shr_dup ! Fields (Struct-row_laws (shape memory.the_type) (ptr_row_laws, tt)) (p, tt) b o κ $
      unhide ! $ fsplit ! $ fsplit ! $ hide ! $ keep ! (0 ∷ 3 ∷ []) $ done !

pub lend_spec : {M : Type 1} → statement M
lend_spec 𝓤 𝓛 𝓜 𝓡 wired =
    let c = f.clauses 𝓛 𝓜.mem 𝓡.returns in let W = walk_of 𝓛 f.ended stayed c in let 𝓣 = tables 𝓤 𝓛.H 𝓜 𝓡 𝓡.env in
    proved 𝓛 f.ended stayed c 𝓜 𝓡 (Goes-dropped 𝓛 1 self yes (λ κs x w. refl), (Goes-dropped 𝓛 1 (plain (λ _. usize)) yes (λ κs x w. refl), tt))
    f.Key.name code.function (code.unfolded 𝓤 𝓛.H 𝓜 𝓡 wired)
    (λ κs. (shr_vals, (uint_vals w64, tt))) (λ κs. (shr_Tells (named 0) κs.0 R, (uint_Tells w64, tt))) (λ κs qs bounds a _ are.
    let κ = κs.0 in let b = a.0.ref_ptr.0 in let o = a.0.ref_ptr.1 in let h = a.0.now in let n = a.1.0 in
    let at : ℕ × ℕ = (block_of h.start, count_of h.start) in
    let y : W.Ghost = ((κs, qs, bounds, a, (shr_vals a.0, (vint w64 n ∷ [], tt))), tt) in
    qed 𝓛 (((‵ (flft κ qs.0) ⊛ ‵ ftrue) ⊛ ‵ (owns (ShrRef (named 0) κ R ∷ usize ∷ []) a y.0.4)) ∷ raw (fact 𝓤 (n ≡ length h.words)) ∷ []) ∵
    move ! (1 ∷ []) $ heard ! _ (λ long.
    let few = h.fits in
    let fits : length h.words * 8 < 2 ^ 63 = omega (arith, few) in
    let fine : length h.words < 2 ^ 64 = omega (arith, few) in
    split ! $ split ! $ move ! (2 ∷ []) $ fsplit ! $ fsplit ! $ drop ! $ keep ! (0 ∷ 2 ∷ []) $
    enter ! _ _ _ _ _ $ alloc_all ! (λ l. pass_all ! refl ((tt, tt), ((tt, record { fits = are.1.0.1 }), tt)) $
    use1 𝓛 (‵ (hidden_shr Fields κ (h.start, tt) b o) ⊛ ‵ (fhide (memory_lends h.start h.words κ))) (lent_out 𝓛 memory.struct memory.the_codes memory.the_heap memory.the_lent κ h b o) $ split ! $ move ! (1 ∷ []) $
    unhide ! $ fsplit ! $ use1 𝓛 (raw (fact 𝓤 (InBlock h.start))) (in_block_says 𝓛 h.start) $ heard ! (InBlock h.start) (λ inb. fsplit ! $ drop ! $ hide ! $
    -- [what a `&` to each word holds; what one to the fields holds; the token]
    move ! (1 ∷ 2 ∷ []) $ first ! $ blocks ! $
    pointer_in ! tt h.start inb b (o + 0) (shows_start 𝓛 κ b o h.start) (λ q.
    sets ! (of_opd ! (load ! (through ! refl (fld ! refl (stop !))) (look ! 1 refl))) refl (tt, tt) $
    pointer_out ! tt h.start inb b (o + 0) $
    sets_last ! (agg ! (and_then ! (get ! refl) (and_then ! (get ! refl) (no_more !)))) refl (tt, (tt, (record { fits = are.1.0.1 }, tt))) $
    exec ! 𝓣.C 𝓣.Λ (env code.Mir.locals l) (after 1 (code.function).body) (at_ret _ (W.post y)) $
    sets ! (of_opd ! (get ! refl)) refl (tt, (tt, (record { fits = are.1.0.1 }, tt))) $ move ! (2 ∷ 0 ∷ []) $
    flt_i ! (length h.words * 8) (2 ^ 63) fits $ flt_i ! (length h.words) (2 ^ 64) fine $ fjoin ! $
    feq_i ! (List Val) (slice_val at n ∷ []) (slice_val at (length h.words) ∷ []) (ap (λ (k : ℕ). slice_val at k ∷ []) long) $ fjoin ! $ fjoin ! $
    returns ! (look_at ! 0 refl) $ free_all ! refl $ keep ! (1 ∷ 0 ∷ []) $
    suffices ! _ (ends_at 𝓛 f.ended stayed c y (slice_val at n) (record { ref_ptr = at; now = h.words }) (tt, (tt, tt)) (tt, (tt, tt))) $ says ! refl $
    nothing ! $ move ! (1 ∷ 0 ∷ []) $ join ! $ frame ! $ nothing ! $ nothing ! $ fjoin ! $ nothing ! $ fjoin ! $ done !)))))
