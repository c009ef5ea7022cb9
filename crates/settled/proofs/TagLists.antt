-- The lists of a schema beside those that are written.
use Rattle.std.proofs.Common.{◌≡◌, ℕ, zero, suc, ◌<◌, Bool, true, false, List, [], ◌∷◌, ◌++◌, Some, refl, sym, ap, subst, ◌∙◌, arith}
use Rattle.std.specs.Prelude.{ℤ, map, slice_get, if◌then◌else◌}
use Rattle.std.specs.List.{AllByRecursion}
use Rattle.asn_base.specs.Types.{Alternative, Component, Presence, Resolved}
use Rattle.asn_base.specs.Types as types
use Rattle.asn_base.specs.Tags.{AreApart, AllApart, IsChoice, is_mandatory, first_run}
use Rattle.trees.specs.Values.{Name}
use Rattle.trees.specs.declared.types.ListKind.TheVariants.{Sequence, Set, Choice}
use Rattle.type_table.specs.Table.{Part, WrittenKind, members}
use Rattle.resolve.specs.Program.{Program}
use Rattle.tagging.specs.Tags.{own}
use Rattle.tagging.specs.First.{AllMayBeAbsent, member_can_be_absent}
use Rattle.schema_of.specs.SchemaOf as schema_of
use Rattle.schema_of.specs.SchemaOf.{IsKindOf, IsPresenceOf, AreComponentsOf, AreAlternativesOf}

-- ---- parts and their types

pub alike_components : {p : Program} {M : Name} {cs : List Part} {ds : List Component} → AreComponentsOf p M cs ds → map (λ d. d.type) ds ≡ map (λ c. c.ty) cs
alike_components schema_of.no_component = refl
alike_components (schema_of.component_and {c} {cs} {d} {ds} a as') = let e = alike_components as' in let f = a.type in cc

pub alike_alternatives : {cs : List Part} {root more : List Alternative} → AreAlternativesOf cs root more → map (λ a. a.type) (root ++ more) ≡ map (λ c. c.ty) cs
alike_alternatives schema_of.no_alternative = refl
alike_alternatives (schema_of.root_and e a as') = let q = alike_alternatives as' in let f = a.type in cc
alike_alternatives (schema_of.addition_and g e a as') = let q = alike_alternatives as' in let f = a.type in cc

pub components_of : {p : Program} {A : ℕ → ℤ → Type 0} {C : ℕ → ℕ → Type 0} {i : ℕ} {M : Name} {K : WrittenKind} {m : Bool} {ds : List Component} →
    IsKindOf p A C i M K (types.a_sequence m ds) → (cs : List Part) × (K ≡ members Sequence m cs) × AreComponentsOf p M cs ds
components_of (schema_of.sequence {cs} a) = (cs, refl, a)

pub set_of : {p : Program} {A : ℕ → ℤ → Type 0} {C : ℕ → ℕ → Type 0} {i : ℕ} {M : Name} {K : WrittenKind} {m : Bool} {ds : List Component} →
    IsKindOf p A C i M K (types.a_set m ds) → (cs : List Part) × (K ≡ members Set m cs) × AreComponentsOf p M cs ds
set_of (schema_of.set {cs} a) = (cs, refl, a)

pub alternatives_of : {p : Program} {A : ℕ → ℤ → Type 0} {C : ℕ → ℕ → Type 0} {i : ℕ} {M : Name} {K : WrittenKind} {m : Bool} {root more : List Alternative} →
    IsKindOf p A C i M K (types.a_choice root m more) → (cs : List Part) × (K ≡ members Choice m cs) × AreAlternativesOf cs root more
alternatives_of (schema_of.choice {cs} a) = (cs, refl, a)

pub choice_of : {p : Program} {A : ℕ → ℤ → Type 0} {C : ℕ → ℕ → Type 0} {i : ℕ} {M : Name} {m : Bool} {cs : List Part} {k : types.Kind} →
    IsKindOf p A C i M (members Choice m cs) k → (root : List Alternative) × (more : List Alternative) × (k ≡ types.a_choice root m more) × AreAlternativesOf cs root more
choice_of (schema_of.choice {root} {more} a) = (root, more, refl, a)

pub is_choice : {p : Program} {A : ℕ → ℤ → Type 0} {C : ℕ → ℕ → Type 0} {i : ℕ} {M : Name} {K : WrittenKind} {k : types.Kind} → IsKindOf p A C i M K k → own K ≡ Some [] → IsChoice k
is_choice (schema_of.choice a) e = tt
is_choice k e = absurd cc

-- ---- lists without repetition and in order

pub all_apart : (s : List Resolved) (cs : List Part) → ((i j : ℕ) (c d : Part) → i < j → slice_get cs i ≡ Some c → slice_get cs j ≡ Some d → AreApart s c.ty d.ty) → AllApart s (map (λ c. c.ty) cs)
all_apart s [] f = tt
all_apart s (c ∷ cs) f = (
  all_types (λ t. AreApart s c.ty t) cs (λ j d e. f zero (suc j) c d (omega arith) refl e),
  all_apart s cs (λ i j c d l e g. f (suc i) (suc j) c d (omega arith) e g),
)
  where
    all_types : (P : ℕ → Type 0) (cs : List Part) → ((j : ℕ) (d : Part) → slice_get cs j ≡ Some d → P d.ty) → AllByRecursion P (map (λ c. c.ty) cs)
    all_types P [] f = tt
    all_types P (c ∷ cs) f = (f zero c refl, all_types P cs (λ j d e. f (suc j) d e))

-- a component that may be absent in the schema may be so in the program
pub may_be : {p : Program} {M : Name} {q : Presence} (x : Name) (t : ℕ) (c : Part) → IsPresenceOf p M c q → is_mandatory (record { name = x; type = t; presence = q }) ≡ false → member_can_be_absent c ≡ true
may_be x t c (schema_of.is_mandatory e f) g = absurd cc
may_be x t c (schema_of.is_optional e f) g = rw e (rw f refl)
may_be x t c (schema_of.has_default e f n) g = rw e (rw f refl)
may_be x t c (schema_of.is_addition e f) g = rw e refl
may_be x t c (schema_of.is_optional_addition e f) g = rw e refl

-- with one more before them
pub one_before : (c : Part) (cs : List Part) (q : ℕ) → member_can_be_absent c ≡ true → AllMayBeAbsent cs 0 q → AllMayBeAbsent (c ∷ cs) 0 (suc q)
one_before c cs q e m zero b l u h = let z : c ≡ b = cc in subst (λ b. member_can_be_absent b ≡ true) z e
one_before c cs q e m (suc r) b l u h = m r b (omega arith) (omega arith) h

pub all_shifted : (c : Part) (cs : List Part) (q r : ℕ) → AllMayBeAbsent cs q r → AllMayBeAbsent (c ∷ cs) (suc q) (suc r)
all_shifted c cs q r m zero z l u h = absurd (omega (arith, l))
all_shifted c cs q r m (suc n) z l u h = m n z (omega arith) (omega arith) h

-- what holds for each component that can come next holds for the run
pub run_of : (p : Program) (M : Name) (Q : ℕ → Type 0) {cs : List Part} {ds : List Component} → AreComponentsOf p M cs ds →
    ((q : ℕ) (c : Part) → slice_get cs q ≡ Some c → AllMayBeAbsent cs 0 q → Q c.ty) → AllByRecursion (λ d. Q d.type) (first_run ds)
run_of p M Q schema_of.no_component f = tt
run_of p M Q (schema_of.component_and {c} {cs} {d} {ds} a as') f =
    go (is_mandatory d) refl (λ e. run_of p M Q as' (λ q b h m. f (suc q) b h (one_before c cs q (may_be d.name d.type c a.presence e) m)))
  where
    this : Q d.type
    this = subst Q (sym a.type) (f zero c refl (λ r b l m e. absurd (omega (arith, l, m))))

    go : (m : Bool) → is_mandatory d ≡ m → (is_mandatory d ≡ false → AllByRecursion (λ d. Q d.type) (first_run ds)) →
        AllByRecursion (λ d. Q d.type) (if m then d ∷ [] else d ∷ first_run ds)
    go true e r = (this, tt)
    go false e r = (this, r e)

pub each_component : (p : Program) (M : Name) (Q : ℕ → Type 0) {cs : List Part} {ds : List Component} → AreComponentsOf p M cs ds →
    ((n : ℕ) (c : Part) → slice_get cs n ≡ Some c → Q c.ty) → AllByRecursion (λ d. Q d.type) ds
each_component p M Q schema_of.no_component f = tt
each_component p M Q (schema_of.component_and {c} a as') f = (subst Q (sym a.type) (f zero c refl), each_component p M Q as' (λ n d e. f (suc n) d e))

-- the alternative that a written one is
pub record Chosen (root more : List Alternative) (n : ℕ) (c : Part) : Type 0 where
  pub alternative : Alternative
  pub there : slice_get (root ++ more) n ≡ Some alternative
  pub type : alternative.type ≡ c.ty

pub chosen_of : {cs : List Part} {root more : List Alternative} (n : ℕ) (c : Part) → AreAlternativesOf cs root more → slice_get cs n ≡ Some c → Chosen root more n c
chosen_of n c schema_of.no_alternative e = absurd cc
chosen_of zero c (schema_of.root_and {c = d} {a} f h hs) e = let q : d ≡ c = cc in record { alternative = a; there = refl; type = h.type ∙ ap (λ c. c.ty) q }
chosen_of (suc n) c (schema_of.root_and f h hs) e = let r = chosen_of n c hs e in record { alternative = r.alternative; there = r.there; type = r.type }
chosen_of zero c (schema_of.addition_and {c = d} {a} g f h hs) e = let q : d ≡ c = cc in record { alternative = a; there = refl; type = h.type ∙ ap (λ c. c.ty) q }
chosen_of (suc n) c (schema_of.addition_and g f h hs) e = let r = chosen_of n c hs e in record { alternative = r.alternative; there = r.there; type = r.type }
