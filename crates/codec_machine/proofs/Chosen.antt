-- Values that are written with one header, in which are contents that hold no others.
use Rattle.std.proofs.Common.{arith, ◌≡◌, ℕ, zero, suc, ◌<◌, ◌≤◌, List, [], ◌∷◌, length, drop, refl, sym, subst}
use Rattle.std.specs.Prelude.{Some, slice_get}
use Rattle.asn_base.specs.declared.schema.TypeId.{TypeId}
use Rattle.asn_base.specs.Abstract.{AbstractValue, alternative}
use Rattle.asn_base.specs.Types.{Resolved}
use Rattle.codec_code.specs.declared.step.Head.{Head as Head'}
use Rattle.codec_code.specs.declared.step.RowKind.TheVariants.{Leaf as LeafRow}
use Rattle.codec_code.specs.declared.step.Step.{Step}
use Rattle.codec_code.specs.declared.step.Step.TheVariants.{Head, Leaf, End, Pick, Call}
use Rattle.codec_code.specs.Events.{Event, opens, puts, closes}
use Rattle.codec_code.specs.Routines.{routine_at}
use Rattle.codec_code.specs.Steps.{Steps, finished, head, leaf, ending, pick}
use Rattle.encodings.specs.declared.leaf_kind.LeafKind.{LeafKind}
use Rattle.codec_machine.specs.Frames.{AddsWhole, EmitsLeaf, EmitsNothing, HasNoContents, Ran}
use Rattle.codec_machine.specs.declared.fault.RunFault.{RunFault}
use Rattle.codec_machine.specs.declared.fault.RunFault.TheVariants.{NotOfType}
use Rattle.codec_machine.proofs.Inversion.{after_head, contents_of_leaf, of_pick, called_type}

-- the value itself
pub itself : (s : List Resolved) (t : ℕ) (v : AbstractValue) (h : Head') (k : LeafKind)
    → routine_at s t ≡ Head h ∷ Leaf k ∷ End ∷ []
    → h.row ≡ LeafRow
    → EmitsLeaf s t v h k v
itself s t v h k e row = record {
  row = row;
  emits = λ x has. subst (λ q. Steps s t q v (opens h.tag h.constructed h.row ∷ puts x ∷ closes ∷ [])) (sym e)
      (head (leaf has (ending finished)));
  only = λ es d. contents_of_leaf (after_head (subst (λ q. Steps s t q v es) e d)).emitted;
}

none_after : (n : ℕ) (ss : List Step) → length ss ≤ n → drop n ss ≡ []
none_after zero [] h = refl
none_after (suc n) [] h = refl
none_after zero (x ∷ ss) h = absurd (omega (arith, h))
none_after (suc n) (x ∷ ss) h = none_after n ss (omega (arith, h))

-- the value of an alternative
pub alternative_in : (s : List Resolved) (t n i : ℕ) (u : TypeId) (calls : List Step) (v w : AbstractValue) (h : Head')
    (k : LeafKind)
    → routine_at s t ≡ Pick n ∷ calls
    → length calls ≤ n
    → i < n
    → v ≡ alternative i w
    → slice_get calls i ≡ Some (Call u)
    → routine_at s u.index ≡ Head h ∷ Leaf k ∷ End ∷ []
    → h.row ≡ LeafRow
    → EmitsLeaf s t v h k w
alternative_in s t n i u calls v w h k e few lt is at f row = record {
  row = row;
  emits = λ x has.
      let es = opens h.tag h.constructed h.row ∷ puts x ∷ closes ∷ [] in
      let called = (itself s u.index w h k f row).emits x has in
      let last = subst (λ q. Steps s t q (alternative i w) []) (sym (none_after n calls few)) finished in
      subst (λ q. Steps s t q v es) (sym e) (subst (λ q. Steps s t (Pick n ∷ calls) q es) (sym is) (pick lt at called last refl));
  only = λ es d.
      let c = called_type is at (of_pick (subst (λ q. Steps s t q v es) e d)) in
      (itself s u.index w h k f row).only c.events c.emitted;
}

-- the events of such a value were added
pub leaf_ran : {S : Type 0} {s : List Resolved} {t : ℕ} {v : AbstractValue} {adds : S → List Event → S → Type 0} {a b : S}
    (w : AbstractValue) (h : Head') (k : LeafKind)
    → EmitsLeaf s t v h k w
    → AddsWhole adds h k w a b
    → Ran s t v adds a b
leaf_ran w h k e ad = record { events = _; steps = e.emits ad.0 ad.1; added = ad.2 }

-- a value without contents of the kind has no events
pub leaf_not_ran : {s : List Resolved} {t : ℕ} {v : AbstractValue} {fault : RunFault} (w : AbstractValue) (h : Head')
    (k : LeafKind)
    → EmitsLeaf s t v h k w
    → (fault ≡ NotOfType → HasNoContents k w)
    → EmitsNothing (Steps s t (routine_at s t) v) fault
leaf_not_ran w h k e none n es d = let q = e.only es d in none n q.0 q.1
