-- Components and alternatives, one after the other.
use Rattle.std.proofs.Common.{◌≡◌, ◌+◌, ◌<◌, ◌≤◌, ℕ, zero, suc, refl, sym, ap, subst, ◌∙◌, arith}
use Rattle.std.specs.Prelude.{Bool, true, false, List, [], ◌∷◌, ◌++◌, map, take, length, Option, Some, None, slice_get}
use Rattle.std.proofs.lemmas.List.{take_more}
use Rattle.std.proofs.lemmas.Option.{none-some, slice_get_within, get_or_from_slice_get}
use Rattle.asn_base.specs.Abstract.{AbstractValue}
use Rattle.asn_base.specs.Types.{Alternative, Component}
use Rattle.asn_base.specs.Types as types
use Rattle.trees.specs.declared.module.TagDefault.{TagDefault}
use Rattle.trees.specs.declared.types.ListKind.{ListKind}
use Rattle.trees.specs.declared.types.ListKind.TheVariants.{Sequence, Set, Choice}
use Rattle.trees.specs.declared.types.Standing.TheVariants.{Root, Addition}
use Rattle.trees.specs.Values.{Name, Tree}
use Rattle.trees.specs.Types.{PresenceTree, mandatory, optional, default}
use Rattle.type_table.specs.Table.{WrittenKind, Part, Type', IsWrittenType, members}
use Rattle.resolve.specs.Program.{Program}
use Rattle.tagging.specs.First as first
use Rattle.settled.specs.additions.Additions.{IsAdded, KeepAdditions, has_default}
use Rattle.settled.specs.schema_of.SchemaOf as schema_of
use Rattle.settled.specs.schema_of.SchemaOf.{AreComponentsOf, no_component, component_and, IsComponentOf, AreAlternativesOf, no_alternative, root_and, addition_and, IsAlternativeOf, IsPresenceOf}
use Rattle.extensions.specs.proving.Defaults.{IsDefaultOf, AreDefaultsOf}
use Rattle.extensions.specs.proving.Cores.{AdditionsLast, HaveNoDefaultAfter, IsCoreOf, IsGiven, is_optional}

pub taken_at : {A : Type 0} (xs : List A) (n : ℕ) (x : A) → slice_get xs n ≡ Some x → take (n + 1) xs ≡ take n xs ++ x ∷ []
taken_at xs n x e =
    take_more xs n x (slice_get_within xs n x e) ∙ ap (λ y. take n xs ++ y ∷ []) (get_or_from_slice_get xs n x x e)

-- ---- components

component_more : {p : Program} {M : Name} {cs : List Part} {ds : List Component} {c : Part} {d : Component}
    → AreComponentsOf p M cs ds
    → IsComponentOf p M c d
    → AreComponentsOf p M (cs ++ c ∷ []) (ds ++ d ∷ [])
component_more no_component i = component_and i no_component
component_more (component_and j r) i = component_and j (component_more r i)

pub next_component : (p : Program) (M : Name) (cs : List Part) (n : ℕ) (c : Part) (ds es : List Component) (d : Component)
    → slice_get cs n ≡ Some c
    → es ≡ ds ++ d ∷ []
    → AreComponentsOf p M (take n cs) ds
    → IsComponentOf p M c d
    → AreComponentsOf p M (take (n + 1) cs) es
next_component p M cs n c ds es d e f r i =
    subst (λ xs. AreComponentsOf p M xs es) (sym (taken_at cs n c e))
    (subst (λ ys. AreComponentsOf p M (take n cs ++ c ∷ []) ys) (sym f) (component_more r i))

is_given : (p : Program) (M : Name) (c : Part) (v : Option AbstractValue) → IsDefaultOf p M c v → IsGiven c v
is_given p M c None d n e q = d n e
is_given p M c (Some v) d n e q = none-some v (sym q)

pub given_at : (p : Program) (M : Name) (cs : List Part) (vs : List (Option AbstractValue)) (n : ℕ) (c : Part)
    (v : Option AbstractValue)
    → AreDefaultsOf p M cs vs
    → slice_get cs n ≡ Some c
    → slice_get vs n ≡ Some v
    → IsGiven c v
given_at p M cs vs n c v d e f = is_given p M c v (d.each n c v e f)

-- ---- whether they may be absent

pub default_there : (p : Program) (M : Name) (c : Part) (n : Tree) (v : Option AbstractValue) (r : types.Presence)
    → c.standing ≡ Root
    → c.presence ≡ default n
    → IsDefaultOf p M c v
    → ((w : AbstractValue) → v ≡ Some w → r ≡ types.default w)
    → IsPresenceOf p M c r
default_there p M c n None r st e d same = absurd (d n e)
default_there p M c n (Some w) r st e d same =
    subst (IsPresenceOf p M c) (sym (same w refl)) (schema_of.has_default st d.1 d.2.is_so)

pub added_presence : (p : Program) (M : Name) (c : Part) (g : Option ℕ) (t : PresenceTree)
    → c.standing ≡ Addition g
    → c.presence ≡ t
    → has_default t ≡ false
    → IsPresenceOf p M c (types.addition (is_optional t) g)
added_presence p M c g mandatory st e h = schema_of.is_addition st e
added_presence p M c g optional st e h = schema_of.is_optional_addition st e
added_presence p M c g (default n) st e h = absurd cc

-- ---- alternatives

root_more : {cs : List Part} {root more : List Alternative} {c : Part} {a : Alternative}
    → AreAlternativesOf cs root more
    → more ≡ []
    → c.standing ≡ Root
    → IsAlternativeOf c a
    → AreAlternativesOf (cs ++ c ∷ []) (root ++ a ∷ []) []
root_more no_alternative e st i = root_and st i no_alternative
root_more (root_and s j r) e st i = root_and s j (root_more r e st i)
root_more (addition_and g s j r) e st i = absurd cc

addition_more : {cs : List Part} {root more : List Alternative} {c : Part} {a : Alternative} (g : Option ℕ)
    → AreAlternativesOf cs root more
    → c.standing ≡ Addition g
    → IsAlternativeOf c a
    → AreAlternativesOf (cs ++ c ∷ []) root (more ++ a ∷ [])
addition_more g no_alternative st i = addition_and g st i no_alternative
addition_more g (root_and s j r) st i = root_and s j (addition_more g r st i)
addition_more g (addition_and h s j r) st i = addition_and h s j (addition_more g r st i)

-- if there is an alternative after the marker, an addition is written
one_added : {cs : List Part} {root more : List Alternative}
    → AreAlternativesOf cs root more
    → (more ≡ [] → ⊥)
    → (m : ℕ) × (d : Part) × (slice_get cs m ≡ Some d) × IsAdded d
one_added no_alternative some = absurd (some refl)
one_added (root_and s j r) some = let w = one_added r some in (suc w.0, w.1, w.2, w.3)
one_added (addition_and {c = c} g s j r) some = (zero, c, refl, added c g s)
  where
    added : (c : Part) (g : Option ℕ) → c.standing ≡ Addition g → IsAdded c
    added c g e = ap first.is_added_member e

no_alternative_after : {cs : List Part} {root : List Alternative} (more : List Alternative) (c : Part)
    → AreAlternativesOf cs root more
    → ((m : ℕ) (d : Part) → slice_get cs m ≡ Some d → IsAdded d → IsAdded c)
    → c.standing ≡ Root
    → more ≡ []
no_alternative_after [] c r following st = refl
no_alternative_after (a ∷ as') c r following st =
    let w = one_added r (λ e. absurd cc) in
    let is : first.is_added_member c.standing ≡ true = following w.0 w.1 w.2 w.3 in
    let e : false ≡ true = sym (ap first.is_added_member st) ∙ is in
    absurd cc

pub put_root : (cs : List Part) (root : List Alternative) (more : List Alternative) (c : Part) (a : Alternative)
    → AreAlternativesOf cs root more
    → ((m : ℕ) (d : Part) → slice_get cs m ≡ Some d → IsAdded d → IsAdded c)
    → c.standing ≡ Root
    → IsAlternativeOf c a
    → AreAlternativesOf (cs ++ c ∷ []) (root ++ a ∷ []) more
put_root cs root more c a r following st i =
    let none = no_alternative_after more c r following st in
    subst (λ x. AreAlternativesOf (cs ++ c ∷ []) (root ++ a ∷ []) x) (sym none) (root_more r none st i)

pub put_addition : (cs : List Part) (root : List Alternative) (more : List Alternative) (c : Part) (a : Alternative) (g : Option ℕ)
    → AreAlternativesOf cs root more
    → c.standing ≡ Addition g
    → IsAlternativeOf c a
    → AreAlternativesOf (cs ++ c ∷ []) root (more ++ a ∷ [])
put_addition cs root more c a g r st i = addition_more g r st i

-- ---- lists

-- what extension markers ask of a list
is_list : (ts : List Type') (i : ℕ) (t : Type') (k : WrittenKind)
    → slice_get ts i ≡ Some t
    → t.kind ≡ k
    → IsWrittenType ts i k t.default t.place
is_list ts i t k e q =
    record {
      constraints = t.constraints;
      assignment = t.assignment;
      found = e ∙ ap (λ (x : WrittenKind). Some (record { kind = x; constraints = t.constraints; default = t.default; place = t.place; assignment = t.assignment })) q;
    }

pub none_after : (ts : List Type') (i : ℕ) (t : Type') (l : ListKind) (m : Bool) (cs : List Part)
    → KeepAdditions ts
    → slice_get ts i ≡ Some t
    → t.kind ≡ members l m cs
    → HaveNoDefaultAfter cs
none_after ts i t l m cs keep e k n c f added =
    ((keep i n).member l m cs t.default t.place c (is_list ts i t (members l m cs) e k) f).no_default added

pub all_after : (ts : List Type') (i : ℕ) (t : Type') (l : ListKind) (m : Bool) (cs : List Part)
    → KeepAdditions ts
    → slice_get ts i ≡ Some t
    → t.kind ≡ members l m cs
    → AdditionsLast cs
all_after ts i t l m cs keep e k a n d c before f g added =
    ((keep i n).member l m cs t.default t.place c (is_list ts i t (members l m cs) e k) g).placed.following a d before f added

pub sequence_core : (p : Program) (i : ℕ) (M : Name) (m : Bool) (cs : List Part) (ds : List Component)
    → AreComponentsOf p M cs ds
    → IsCoreOf p i M (members Sequence m cs) (types.a_sequence m ds)
sequence_core p i M m cs ds r = record { kind = schema_of.sequence r; constrained = tt; items = tt }

pub set_core : (p : Program) (i : ℕ) (M : Name) (m : Bool) (cs : List Part) (ds : List Component)
    → AreComponentsOf p M cs ds
    → IsCoreOf p i M (members Set m cs) (types.a_set m ds)
set_core p i M m cs ds r = record { kind = schema_of.set r; constrained = tt; items = tt }

pub choice_core : (p : Program) (i : ℕ) (M : Name) (m n : Bool) (cs : List Part) (root more : List Alternative)
    → n ≡ m
    → AreAlternativesOf cs root more
    → IsCoreOf p i M (members Choice m cs) (types.a_choice root n more)
choice_core p i M m n cs root more e r =
    subst (λ x. IsCoreOf p i M (members Choice m cs) (types.a_choice root x more)) (sym e)
    (record { kind = schema_of.choice r; constrained = tt; items = tt })

-- ---- one after the other

pub taken_get : {A : Type 0} (xs : List A) (n m : ℕ) (x : A) → slice_get (take n xs) m ≡ Some x → (m < n) × (slice_get xs m ≡ Some x)
taken_get [] zero m x e = absurd (none-some x e)
taken_get [] (suc n) m x e = absurd (none-some x e)
taken_get (y ∷ xs) zero m x e = absurd (none-some x e)
taken_get (y ∷ xs) (suc n) zero x e = (omega arith, e)
taken_get (y ∷ xs) (suc n) (suc m) x e = let r = taken_get xs n m x e in (omega (arith, r.0), r.1)

pub next_alternative : (cs : List Part) (n : ℕ) (c : Part) (root more : List Alternative)
    → slice_get cs n ≡ Some c
    → AreAlternativesOf (take n cs ++ c ∷ []) root more
    → AreAlternativesOf (take (n + 1) cs) root more
next_alternative cs n c root more e r = subst (λ xs. AreAlternativesOf xs root more) (sym (taken_at cs n c e)) r

pub added_before : (cs : List Part) (n : ℕ) (c : Part)
    → AdditionsLast cs
    → slice_get cs n ≡ Some c
    → (m : ℕ) (d : Part)
    → slice_get (take n cs) m ≡ Some d
    → IsAdded d
    → IsAdded c
added_before cs n c following e m d f added = let r = taken_get cs n m d f in following m n d c r.0 r.1 e added

pub all_taken : {A : Type 0} (xs : List A) (n : ℕ) → length xs ≤ n → take n xs ≡ xs
all_taken [] zero l = refl
all_taken [] (suc n) l = refl
all_taken (x ∷ xs) zero l = absurd (omega (arith, l))
all_taken (x ∷ xs) (suc n) l = ap (λ ys. x ∷ ys) (all_taken xs n (omega (arith, l)))
