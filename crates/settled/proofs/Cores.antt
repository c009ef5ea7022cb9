-- What a type is after its references and tags, and that it reaches that type.
use Rattle.std.proofs.Common.{◌≡◌, ℕ, zero, suc, ◌<◌, ◌≤◌, List, [], ◌∷◌, length, Option, Some, None, refl, sym, ap, subst, ◌∙◌}
use Rattle.std.specs.Prelude.{slice_get}
use Rattle.std.proofs.lemmas.Option.{same_Some, none-some}
use Rattle.trees.specs.declared.module.TagDefault.{TagDefault}
use Rattle.type_table.specs.Walks.{follow, onward}
use Rattle.type_table.specs.Table.{WrittenKind, Type', simple, reference, tagged, members, elements, IsUnderlying, IsWrittenType, next, target, target_of}
use Rattle.circles.specs.Circles.{Reaches, itself, onward as further, IsPart, referred, target_tag}
use Rattle.range_ends.specs.Ends.{IsTypeOfKind}

-- ---- one core

same_end : (f : ℕ → Option ℕ) (k m i c d : ℕ) → follow f k i ≡ Some c → f c ≡ None → follow f m i ≡ Some d → f d ≡ None → c ≡ d
same_end f zero zero i c d e n g o = same_Some c d (sym e ∙ g)
same_end f zero (suc m) i c d e n g o = absurd (go (f i) refl)
  where
    go : (x : Option ℕ) → f i ≡ x → ⊥
    go None q = none-some d (sym (ap (λ y. onward y (λ j. follow f m j)) q) ∙ g)
    go (Some j) q = none-some j (sym n ∙ sym (ap f (same_Some i c e)) ∙ q)
same_end f (suc k) zero i c d e n g o = absurd (go (f i) refl)
  where
    go : (x : Option ℕ) → f i ≡ x → ⊥
    go None q = none-some c (sym (ap (λ y. onward y (λ j. follow f k j)) q) ∙ e)
    go (Some j) q = none-some j (sym o ∙ sym (ap f (same_Some i d g)) ∙ q)
same_end f (suc k) (suc m) i c d e n g o = go (f i) refl (λ j. same_end f k m j c d)
  where
    go : (x : Option ℕ) → f i ≡ x → ((j : ℕ) → follow f k j ≡ Some c → f c ≡ None → follow f m j ≡ Some d → f d ≡ None → c ≡ d) → c ≡ d
    go None q more = absurd (none-some c (sym (ap (λ y. onward y (λ j. follow f k j)) q) ∙ e))
    go (Some j) q more = more j (sym (ap (λ y. onward y (λ j. follow f k j)) q) ∙ e) n (sym (ap (λ y. onward y (λ j. follow f m j)) q) ∙ g) o

pub one_core : (ts : List Type') (i c d : ℕ) → IsUnderlying ts i c → IsUnderlying ts i d → c ≡ d
one_core ts i c d a b = same_end (next ts) a.steps b.steps i c d a.chain a.ends b.chain b.ends

-- what the core is, is what the type is
pub kind_of_core : (ts : List Type') (i c : ℕ) (t : Type') (k : WrittenKind) → IsUnderlying ts i c → slice_get ts c ≡ Some t → IsTypeOfKind ts i k → k ≡ t.kind
kind_of_core ts i c t k a e h = sym h.kind ∙ ap (λ (u : Type'). u.kind) (same_Some h.type t (sym h.there ∙ ap (slice_get ts) (one_core ts i h.core c h.chain a) ∙ e))

-- ---- what is reached

pub joined : {ts : List Type'} {i j k : ℕ} → Reaches ts i j → Reaches ts j k → Reaches ts i k
joined itself r = r
joined (further m t e p q) r = further m t e p (joined q r)

part_target : (k : WrittenKind) (j : ℕ) → target k ≡ Some j → IsPart j k
part_target (reference m) j e = subst (λ z. IsPart z (reference m)) (same_Some m j e) referred
part_target (tagged g w m) j e = subst (λ z. IsPart z (tagged g w m)) (same_Some m j e) target_tag
part_target (simple p) j e = absurd (none-some j e)
part_target (members l m cs) j e = absurd (none-some j e)
part_target (elements y m) j e = absurd (none-some j e)

-- a type reaches the type after its references and tags
reaches_next : (ts : List Type') (i j k : ℕ) → next ts i ≡ Some j → Reaches ts j k → Reaches ts i k
reaches_next ts i j k e r = go (slice_get ts i) refl
  where
    go : (o : Option Type') → slice_get ts i ≡ o → Reaches ts i k
    go None q = absurd (none-some j (sym (ap target_of q) ∙ e))
    go (Some t) q = further j t q (part_target t.kind j (sym (ap target_of q) ∙ e)) r

reaches_end : (ts : List Type') (n i c : ℕ) → follow (next ts) n i ≡ Some c → Reaches ts i c
reaches_end ts zero i c e = subst (Reaches ts i) (same_Some i c e) itself
reaches_end ts (suc n) i c e = go (next ts i) refl (λ j. reaches_end ts n j c)
  where
    go : (o : Option ℕ) → next ts i ≡ o → ((j : ℕ) → follow (next ts) n j ≡ Some c → Reaches ts j c) → Reaches ts i c
    go None q more = absurd (none-some c (sym (ap (λ y. onward y (λ j. follow (next ts) n j)) q) ∙ e))
    go (Some j) q more = reaches_next ts i j c q (more j (sym (ap (λ y. onward y (λ j. follow (next ts) n j)) q) ∙ e))

pub reaches_core : (ts : List Type') (i c : ℕ) → IsUnderlying ts i c → Reaches ts i c
reaches_core ts i c a = reaches_end ts a.steps i c a.chain

-- ---- a type with its kind

pub is_kind : (ts : List Type') (i : ℕ) (t : Type') (k : WrittenKind) → slice_get ts i ≡ Some t → t.kind ≡ k → IsWrittenType ts i k t.default t.place
is_kind ts i t k e q = subst (λ l. IsWrittenType ts i l t.default t.place) q (record { constraints = t.constraints; assignment = t.assignment; found = e })
