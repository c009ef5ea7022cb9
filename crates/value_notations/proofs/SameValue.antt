-- A notation stands for at most one value.
use Rattle.std.proofs.Common.{◌≡◌, ℕ, refl, sym, ap, subst, ◌∙◌, Some}
use Rattle.std.specs.Prelude.{List, slice_get}
use Rattle.asn_base.specs.Abstract.{AbstractValue, fields, list, alternative, Row, absent, present}
use Rattle.trees.specs.declared.types.ListKind.{ListKind}
use Rattle.trees.specs.declared.types.ListKind.TheVariants.{Sequence, Set, Choice}
use Rattle.trees.specs.Values.{Name, Tree}
use Rattle.names.specs.Modules.{OccursIn, AreDifferent}
use Rattle.names.specs.Names.{IsApart}
use Rattle.type_table.specs.Table.{WrittenKind, Part}
use Rattle.type_table.specs.Lists.{AreSound, IsSoundKind}
use Rattle.resolve.specs.Program.{Program}
use Rattle.value_notations.specs.References.{IsLast}
use Rattle.value_notations.specs.Notations.{Notation, NotationOf, Fields, NotatedElements, AreArranged, field_names, part_names, fields_in, values_in}
use Rattle.value_notations.specs.Notations as family
use Rattle.value_notations.specs.proving.Places.{one_some, one_place, mapped_at, occurs_mapped}
use Rattle.value_notations.specs.proving.Following.{one_kind, sound_kind, one_last}
use Rattle.value_notations.proofs.SameLeaf.{one_leaf}

-- what programs keep
pub record IsKept (p : Program) : Type 0 where
  pub apart : IsApart p.modules
  pub sound : AreSound p.types

pub distinct_fields : (k : ListKind) (cs : List Part) (fs : List (Name × Tree))
    → AreArranged k (part_names cs) (field_names fs)
    → AreDifferent (field_names fs)
distinct_fields Sequence cs fs a = a.0
distinct_fields Set cs fs a = a.0
distinct_fields Choice cs fs a = absurd a

no_choice : (cs : List Part) (fs : List (Name × Tree)) → AreArranged Choice (part_names cs) (field_names fs) → ⊥
no_choice cs fs a = a

-- a name has one field
pub one_field : (fs : List (Name × Tree)) (x : Name) (n m : Tree)
    → AreDifferent (field_names fs)
    → OccursIn fs (x, n)
    → OccursIn fs (x, m)
    → n ≡ m
one_field fs x n m d a b =
    let first = mapped_at (λ (f : Name × Tree). f.0) fs a.0 (x, n) a.1 in
    let second = mapped_at (λ (f : Name × Tree). f.0) fs b.0 (x, m) b.1 in
    let same = one_place (field_names fs) x a.0 b.0 d first second in
    ap (λ (f : Name × Tree). f.1)
    (one_some (slice_get fs a.0) (x, n) (x, m) a.1 (subst (λ (i : ℕ). slice_get fs i ≡ Some (x, m)) (sym same) b.1))

named_at : (cs : List Part) (i : ℕ) (c : Part) (x : Name)
    → slice_get cs i ≡ Some c
    → c.name ≡ x
    → slice_get (part_names cs) i ≡ Some x
named_at cs i c x e f =
    mapped_at (λ (c : Part). c.name) cs i c e ∙ ap Some f

-- moves what a notation stands for along equations
pub carried : {p : Program} {os ps : List ℕ} {K L : Name} {k j : WrittenKind} {l m : Tree} {w : AbstractValue}
    → j ≡ k
    → ps ≡ os
    → L ≡ K
    → m ≡ l
    → NotationOf p ps L j m w
    → NotationOf p os K k l w
carried {p} {os} {ps} {K} {L} {k} {j} {l} {m} {w} e f g h d =
    subst (λ (x : Tree). NotationOf p os K k x w) h
    (subst (λ (x : Name). NotationOf p os x k m w) g
    (subst (λ (x : List ℕ). NotationOf p x L k m w) f (subst (λ (x : WrittenKind). NotationOf p ps L x m w) e d)))

mutual
  pub one_notation : {p : Program} {os : List ℕ} {M : Name} {i : ℕ} {n : Tree} {v w : AbstractValue}
      → IsKept p
      → Notation p os M i n v
      → Notation p os M i n w
      → v ≡ w
  one_notation {p} {os} {M} {i} {n} {v} {w} s (family.notation {ps = ps} {K = K} {l = l} {k = k} a e h) (family.notation {ps = qs} {K = L} {l = m} {k = j} b f g) =
      let kinds = one_kind p.types i j k b a in
      let lasts = one_last s.apart (subst (λ (x : WrittenKind). IsLast p x os M n qs L m) kinds f) e in
      same_means s (sound_kind p.types i k s.sound a) h (carried kinds lasts.opened lasts.within lasts.notation g)

  same_means : {p : Program} {os : List ℕ} {M : Name} {k : WrittenKind} {n : Tree} {v w : AbstractValue}
      → IsKept p
      → IsSoundKind k
      → NotationOf p os M k n v
      → NotationOf p os M k n w
      → v ≡ w
  same_means s d (family.of_leaf h) (family.of_leaf g) = one_leaf d h g
  same_means {p} {os} {M} s d (family.of_fields {n = n} {k = k} {cs = cs} {fs = fs} {r = r} e a h w) (family.of_fields {fs = gs} {r = q} f b g z) =
      let same = one_some (fields_in n) gs fs f e in
      ap fields (same_rows s (distinct_fields k cs fs a) h (subst (λ (x : List (Name × Tree)). Fields p os M x cs q) same g))
  same_means {p} {os} {M} s d (family.of_fields {cs = cs} {fs = fs} e a h w) (family.of_choice f x g) = absurd (no_choice cs fs a)
  same_means {p} {os} {M} s d (family.of_choice f x g) (family.of_fields {cs = cs} {fs = fs} e a h w) = absurd (no_choice cs fs a)
  same_means {p} {os} {M} s d (family.of_list {n = n} {j = j} {ts = ts} {r = r} e h) (family.of_list {ts = us} {r = q} f g) =
      let same = one_some (values_in n) us ts f e in
      ap list (same_elements s h (subst (λ (x : List Tree). NotatedElements p os M j x q) same g))
  same_means {p} {os} {M} s d (family.of_choice {n = n} {x = x} {cs = cs} {c = c} {a = a} {v = v} e f h) (family.of_choice {c = b} {a = i} {v = w} g k m) =
      let places = one_place (part_names cs) x i a d.names (named_at cs i b x g k) (named_at cs a c x e f) in
      let parts = one_some (slice_get cs a) b c (subst (λ (z : ℕ). slice_get cs z ≡ Some b) places g) e in
      ap (λ z. alternative z v) (sym places)
      ∙ ap (λ z. alternative i z) (one_notation s h (subst (λ (z : Part). Notation p os M z.ty n w) parts m))

  same_rows : {p : Program} {os : List ℕ} {M : Name} {fs : List (Name × Tree)} {cs : List Part} {r q : Row}
      → IsKept p
      → AreDifferent (field_names fs)
      → Fields p os M fs cs r
      → Fields p os M fs cs q
      → r ≡ q
  same_rows s d family.no_part family.no_part = refl
  same_rows s d (family.part_absent a b h) (family.part_absent x y g) = ap absent (same_rows s d h g)
  same_rows {fs = fs} s d (family.part_absent a b h) (family.part_present {c = c} {n = n} e m g) =
      absurd (a (occurs_mapped (λ (f : Name × Tree). f.0) fs (c.name, n) e))
  same_rows {fs = fs} s d (family.part_present {c = c} {n = n} e m g) (family.part_absent a b h) =
      absurd (a (occurs_mapped (λ (f : Name × Tree). f.0) fs (c.name, n) e))
  same_rows {p} {os} {M} {fs} s d (family.part_present {c = c} {n = n} {v = v} {r = r} a h k) (family.part_present {n = m} {v = w} {r = q} b g l) =
      let same = one_field fs c.name m n d b a in
      ap (λ z. present z r) (one_notation s h (subst (λ (x : Tree). Notation p os M c.ty x w) same g))
      ∙ ap (λ z. present w z) (same_rows s d k l)

  same_elements : {p : Program} {os : List ℕ} {M : Name} {i : ℕ} {ts : List Tree} {r q : Row}
      → IsKept p
      → NotatedElements p os M i ts r
      → NotatedElements p os M i ts q
      → r ≡ q
  same_elements s family.no_element family.no_element = refl
  same_elements s (family.one_element {v = v} {r = r} h k) (family.one_element {v = w} {r = q} g l) =
      ap (λ z. present z r) (one_notation s h g) ∙ ap (λ z. present w z) (same_elements s k l)
