-- Texts with a dot between two names, and what they name.
use Rattle.std.proofs.Common.{◌≡◌, ◌↔◌, ℕ, ◌<◌, List, [], ◌∷◌, ◌++◌, length, Option, Some, None, refl, sym, ◌∙◌, arith, subst, get_or}
use Rattle.std.specs.Prelude.{IfSome, MatchOption}
use Rattle.std.specs.Borrow.{Bor}
use Rattle.std.proofs.lemmas.Str.Pattern.{IsSplitOnceResult, split_parts, split_after}
use Rattle.trees.specs.Values.{Name}
use Rattle.names.specs.declared.scope.Assigned.{Assigned}
use Rattle.names.specs.declared.scope.Assigned.TheVariants as assigned
use Rattle.names.specs.Names.{Meaning}
use Rattle.resolve.specs.Program.{Program, IsThere}
use Rattle.named_values.specs.Named.{IsQualified, IsQualifiedName, Names}

dot_there : (M x : Name) → get_or (M ++ 46 ∷ x) (length M) 0 ≡ 46
dot_there [] x = refl
dot_there (y ∷ M) x = dot_there M x

dot_within : (M x : Name) → length M < length (M ++ 46 ∷ x)
dot_within [] x = omega arith
dot_within (y ∷ M) x = let l = dot_within M x in omega (arith, l)

pub dot_parts : (text : List ℕ) (r : Option (Bor (List ℕ) × Bor (List ℕ))) → IsSplitOnceResult 46 text r →
    MatchOption r ((M x : Name) → IsQualified text M x → ⊥) (λ p. IsQualified text p.0.now p.1.now)
dot_parts text None s = λ M x q. split_parts 46 text None s (omega arith) (length M) (subst (λ t. length M < length t) (sym q.spelled) (dot_within M x)) (subst (λ t. get_or t (length M) 0 ≡ 46) (sym q.spelled) (dot_there M x))
dot_parts text (Some p) s = let h = split_parts 46 text (Some p) s (omega arith) in record { spelled = h.0; plain = h.1 }

pub dot_only : (text : List ℕ) (r : Option (Bor (List ℕ) × Bor (List ℕ))) → IsSplitOnceResult 46 text r →
    IfSome r (λ p. (M x : Name) → IsQualified text M x → (M ≡ p.0.now) × (x ≡ p.1.now))
dot_only text None s = tt
dot_only text (Some p) s = λ M x q. (let h = split_after 46 text M x (Some p) s (omega arith) q.spelled q.plain in (sym h.0, sym h.1))

pub named_there : (p : Program) (W y : Name) (r : Option Assigned) →
    ((M x : Name) (a : Assigned) → Meaning p.modules M x a → IsThere p a) →
    ((a : Assigned) → (r ≡ Some a ↔ Meaning p.modules W y a)) → IfSome r (IsThere p)
named_there p W y None w h = tt
named_there p W y (Some a) w h = w W y a ((h a).0 refl)

pub no_type : (p : Program) (text : List ℕ) (r : Option Assigned) →
    ((a : Assigned) → (r ≡ Some a ↔ IsQualifiedName p text a)) → ((t : ℕ) → r ≡ Some (assigned.Type t) → ⊥) → (t : ℕ) →
    IsQualifiedName p text (assigned.Type t) → ⊥
no_type p text r h n t k = n t ((h (assigned.Type t)).1 k)

pub no_value : (p : Program) (text : List ℕ) (r : Option Assigned) →
    ((a : Assigned) → (r ≡ Some a ↔ IsQualifiedName p text a)) → ((t : ℕ) → r ≡ Some (assigned.Value t) → ⊥) → (t : ℕ) →
    IsQualifiedName p text (assigned.Value t) → ⊥
no_value p text r h n t k = n t ((h (assigned.Value t)).1 k)

-- a text names one type at most
pub one_named : (p : Program) (name : List ℕ) (r : Option Assigned) (n : ℕ)
    → ((a : Assigned) → (r ≡ Some a ↔ IsQualifiedName p name a))
    → r ≡ Some (assigned.Type n)
    → Names p name n
one_named p name r n h e = record {
  is = (h (assigned.Type n)).0 e;
  only = λ u k. (let f = sym e ∙ (h (assigned.Type u)).1 k in cc);
}
