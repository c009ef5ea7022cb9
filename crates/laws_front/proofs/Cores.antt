-- A type has one core, and an assignment has one module.
use Rattle.std.proofs.Common.{◌≡◌, ℕ, zero, suc, List, Option, Some, None, refl, sym, ap, ◌∙◌}
use Rattle.std.specs.Prelude.{slice_get}
use Rattle.std.proofs.lemmas.Option.{same_Some, none-some}
use Rattle.trees.specs.declared.module.TagDefault.{TagDefault}
use Rattle.trees.specs.Values.{Name}
use Rattle.type_table.specs.Walks.{follow, onward}
use Rattle.type_table.specs.Table.{WrittenKind, Type', IsUnderlying, next}
use Rattle.range_ends.specs.Ends.{IsTypeOfKind}
use Rattle.resolve.specs.Program.{Program, IsAssignment}

same_end : (f : ℕ → Option ℕ) (k m i c d : ℕ)
    → follow f k i ≡ Some c
    → f c ≡ None
    → follow f m i ≡ Some d
    → f d ≡ None
    → c ≡ d
same_end f zero zero i c d e n g o = same_Some c d (sym e ∙ g)
same_end f zero (suc m) i c d e n g o = absurd (go (f i) refl)
  where
    go : (x : Option ℕ) → f i ≡ x → ⊥
    go None q = none-some d (sym (ap (λ y. onward y (λ j. follow f m j)) q) ∙ g)
    go (Some j) q = none-some j (sym n ∙ sym (ap f (same_Some i c e)) ∙ q)
same_end f (suc k) zero i c d e n g o = absurd (go (f i) refl)
  where
    go : (x : Option ℕ) → f i ≡ x → ⊥
    go None q = none-some c (sym (ap (λ y. onward y (λ j. follow f k j)) q) ∙ e)
    go (Some j) q = none-some j (sym o ∙ sym (ap f (same_Some i d g)) ∙ q)
same_end f (suc k) (suc m) i c d e n g o = go (f i) refl (λ j. same_end f k m j c d)
  where
    go : (x : Option ℕ)
        → f i ≡ x
        → ((j : ℕ) → follow f k j ≡ Some c → f c ≡ None → follow f m j ≡ Some d → f d ≡ None → c ≡ d)
        → c ≡ d
    go None q more = absurd (none-some c (sym (ap (λ y. onward y (λ j. follow f k j)) q) ∙ e))
    go (Some j) q more =
        more j (sym (ap (λ y. onward y (λ j. follow f k j)) q) ∙ e) n
        (sym (ap (λ y. onward y (λ j. follow f m j)) q) ∙ g) o

-- a type has one core
pub one_core : (ts : List Type') (i c d : ℕ) → IsUnderlying ts i c → IsUnderlying ts i d → c ≡ d
one_core ts i c d a b = same_end (next ts) a.steps b.steps i c d a.chain a.ends b.chain b.ends

-- the core is one written type
pub one_type : (ts : List Type') (i c d : ℕ) (t u : Type')
    → IsUnderlying ts i c
    → slice_get ts c ≡ Some t
    → IsUnderlying ts i d
    → slice_get ts d ≡ Some u
    → t ≡ u
one_type ts i c d t u a e b f = same_Some t u (sym e ∙ ap (slice_get ts) (one_core ts i c d a b) ∙ f)

-- which has the kind of the type
pub kind_of_core : (ts : List Type') (i c : ℕ) (t : Type') (k : WrittenKind)
    → IsUnderlying ts i c
    → slice_get ts c ≡ Some t
    → IsTypeOfKind ts i k
    → k ≡ t.kind
kind_of_core ts i c t k a e h =
    sym h.kind ∙ ap (λ (u : Type'). u.kind) (one_type ts i h.core c h.type t h.chain h.there a e)

-- an assignment is in one module
pub one_home : (p : Program) (a : ℕ) (M K x y : Name) → IsAssignment p a M x → IsAssignment p a K y → M ≡ K
one_home p a M K x y f g =
    let o : f.owner ≡ g.owner =
    ap (λ (z : ℕ × Name). z.0) (same_Some (f.owner, x) (g.owner, y) (sym f.assigned ∙ g.assigned)) in
    ap (λ (z : Name × TagDefault). z.0)
    (same_Some (M, f.tags) (K, g.tags) (sym f.header ∙ ap (slice_get p.headers) o ∙ g.header))
