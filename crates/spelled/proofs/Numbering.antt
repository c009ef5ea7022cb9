-- The types of linked modules are spelled as those that are written.
use Rattle.std.proofs.Common.{◌≡◌, ◌≤◌, ◌+◌, arith, ℕ, zero, suc, List, [], ◌∷◌, ◌++◌, length, map, refl, sym, subst, ap}
use Rattle.std.specs.List.{All, AllByRecursion}
use Rattle.std.proofs.lemmas.List.Elements.{All-head, All-tail}
use Rattle.std.proofs.lemmas.Option.{same_Some}
use Rattle.asn_base.specs.Names.{IsIdentifier}
use Rattle.trees.specs.Values.{Name}
use Rattle.trees.specs.declared.module.TagDefault.{TagDefault}
use Rattle.trees.specs.Types.{TypeTree, a_type, FormTree, a_simple, a_reference, a_list, an_elements, a_tagged, TypeMembers, no_member, member_and}
use Rattle.trees.specs.Modules.{AssignmentTree, assigns_type, assigns_value, ModuleTree}
use Rattle.names.specs.ByNumber.{root_of, roots_from, roots_of}
use Rattle.names.specs.Modules.{all_assignments}
use Rattle.names.specs.Names.{Module}
use Rattle.names.specs.Sources.{Source}
use Rattle.type_table.specs.Lists.{root_count, in_root}
use Rattle.type_table.specs.Numbering.{type_form, member_sources, parts_of, all_parts, numbered, IsKind, AreTops, AreNumberedTypes}
use Rattle.type_table.specs.Table.{Part, WrittenKind, Type'}
use Rattle.spelled.specs.Written.{roots_in, HasRoot, IsSpelledTree, IsSpelledForm, AreSpelledMembers, IsSpelledAssignment, IsSpelledModule}
use Rattle.spelled.specs.Spelled.{IsSpelledKind, AreSpelled}
use Rattle.spelled.proofs.Keeping.{all_joined}

-- ---- the types of the assignments

abbrev IsSpelledSource : Source → Type 0
IsSpelledSource s = IsSpelledTree s.tree

root_spelled : (n : ℕ) (g : AssignmentTree) → IsSpelledAssignment g → IsSpelledSource (root_of n g)
root_spelled n (assigns_type x t) h = h
root_spelled n (assigns_value x t v) h = h

roots_spelled : (n : ℕ) (gs : List AssignmentTree)
    → AllByRecursion IsSpelledAssignment gs
    → AllByRecursion IsSpelledSource (roots_from n gs)
roots_spelled n [] h = tt
roots_spelled n (g ∷ gs) h = (root_spelled n g h.0, roots_spelled (suc n) gs h.1)

assignments_spelled : (ms : List ModuleTree)
    → All IsSpelledModule ms
    → AllByRecursion IsSpelledAssignment (all_assignments ms)
assignments_spelled [] h = tt
assignments_spelled (m ∷ ms) h =
    all_joined IsSpelledAssignment m.assignments (all_assignments ms) (All-head IsSpelledModule m ms h)
    (assignments_spelled ms (All-tail IsSpelledModule m ms h))

-- ---- the types in them

abbrev mutual
  -- how many types are in a type, itself included
  size : TypeTree → ℕ
  size (a_type f cs) = suc (form_size f)

  form_size : FormTree → ℕ
  form_size (a_simple p) = zero
  form_size (a_reference N x) = zero
  form_size (a_list l m us) = members_size us
  form_size (an_elements e t) = size t
  form_size (a_tagged g w t) = size t

  members_size : TypeMembers → ℕ
  members_size no_member = zero
  members_size (member_and x t o g ms) = size t + members_size ms

-- types of at least this size are spelled by the rules
abbrev IsSpelledFrom : ℕ → Source → Type 0
IsSpelledFrom n s = n ≤ size s.tree → IsSpelledSource s

-- or of one less
abbrev IsSpelledFromLess : ℕ → Source → Type 0
IsSpelledFromLess n s = n ≤ suc (size s.tree) → IsSpelledSource s

members_spelled : (n a i k whole : ℕ) (us : TypeMembers)
    → members_size us ≤ whole
    → (n ≤ suc whole → AreSpelledMembers us)
    → AllByRecursion (IsSpelledFromLess n) (member_sources a i k us)
members_spelled n a i k whole no_member le h = tt
members_spelled n a i k whole (member_and x t o g us) le h =
    ((λ small. (h (omega (arith, small, le))).1), members_spelled n a i (suc k) whole us (omega (arith, le)) (λ small. (h small).2))

-- a type directly in another one is smaller
parts_spelled : (n a i : ℕ) (t : TypeTree)
    → (n ≤ size t → IsSpelledTree t)
    → AllByRecursion (IsSpelledFromLess n) (parts_of a i t)
parts_spelled n a i (a_type (a_simple p) cs) h = tt
parts_spelled n a i (a_type (a_reference N x) cs) h = tt
parts_spelled n a i (a_type (a_list l m us) cs) h = members_spelled n a i 0 (members_size us) us (omega arith) (λ small. (h small).0)
parts_spelled n a i (a_type (an_elements e t) cs) h = ((λ small. h small), tt)
parts_spelled n a i (a_type (a_tagged g w t) cs) h = ((λ small. h small), tt)

all_parts_spelled : (n i : ℕ) (ss : List Source)
    → AllByRecursion (IsSpelledFrom n) ss
    → AllByRecursion (IsSpelledFromLess n) (all_parts i ss)
all_parts_spelled n i [] h = tt
all_parts_spelled n i (s ∷ ss) h =
    all_joined (IsSpelledFromLess n) (parts_of s.assignment i s.tree) (all_parts (suc i) ss)
    (parts_spelled n s.assignment i s.tree h.0)
    (all_parts_spelled n (suc i) ss h.1)

all_of : {A : Type 0} (P Q : A → Type 0) → ((x : A) → P x → Q x) → (xs : List A) → AllByRecursion P xs → AllByRecursion Q xs
all_of P Q f [] h = tt
all_of P Q f (x ∷ xs) h = (f x h.0, all_of P Q f xs h.1)

-- more than the size of each of these types
abbrev total : List Source → ℕ
total [] = 1
total (s ∷ ss) = size s.tree + total ss

some_total : (ss : List Source) → 1 ≤ total ss
some_total [] = omega arith
some_total (s ∷ ss) = omega (arith, some_total ss)

none_so_large : (n : ℕ) (ss : List Source) → total ss ≤ n → AllByRecursion (IsSpelledFrom n) ss
none_so_large n [] le = tt
none_so_large n (s ∷ ss) le =
    ((λ large. absurd (omega (arith, large, le, some_total ss))), none_so_large n ss (omega (arith, le)))

module _ (roots sources : List Source) (all : sources ≡ roots ++ all_parts 0 sources)
    (known : AllByRecursion IsSpelledSource roots) where
  -- the parts of types are spelled once these are
  smaller : (n : ℕ) → AllByRecursion (IsSpelledFrom (suc n)) sources → AllByRecursion (IsSpelledFrom n) sources
  smaller n h =
      subst (AllByRecursion (IsSpelledFrom n)) (sym all)
      (all_joined (IsSpelledFrom n) roots (all_parts 0 sources)
      (all_of IsSpelledSource (IsSpelledFrom n) (λ s k le. k) roots known)
      (all_of (IsSpelledFromLess (suc n)) (IsSpelledFrom n) (λ s k le. k (omega (arith, le))) (all_parts 0 sources) (all_parts_spelled (suc n) 0 sources h)))

  down : (d n : ℕ) → AllByRecursion (IsSpelledFrom (d + n)) sources → AllByRecursion (IsSpelledFrom n) sources
  down zero n h = let e : 0 + n ≡ n = omega arith in subst (λ (k : ℕ). AllByRecursion (IsSpelledFrom k) sources) e h
  down (suc d) n h =
      let e : suc d + n ≡ d + suc n = omega arith in
      smaller n (down d (suc n) (subst (λ (k : ℕ). AllByRecursion (IsSpelledFrom k) sources) e h))

  sources_spelled : AllByRecursion IsSpelledSource sources
  sources_spelled =
      all_of (IsSpelledFrom 0) IsSpelledSource (λ s k. k (omega arith)) sources
      (down (total sources) 0 (none_so_large (total sources + 0) sources (omega arith)))

-- ---- the types of the table

names_spelled : (n : ℕ) (us : TypeMembers)
    → AreSpelledMembers us
    → AllByRecursion IsIdentifier (map (λ (c : Part). c.name) (numbered n us))
names_spelled n no_member h = tt
names_spelled n (member_and x t o g us) h = (h.0, names_spelled (suc n) us h.2)

roots_counted : (n : ℕ) (us : TypeMembers) → root_count (numbered n us) ≡ roots_in us
roots_counted n no_member = refl
roots_counted n (member_and x t o g us) = ap (λ (k : ℕ). in_root g + k) (roots_counted (suc n) us)

kind_spelled : (ms : List (Name × Module)) (M : Name) (n : ℕ) (f : FormTree) (k : WrittenKind)
    → IsKind ms M n f k
    → IsSpelledForm f
    → IsSpelledKind k
kind_spelled ms M n (a_simple p) k e h = subst IsSpelledKind (sym e) h
kind_spelled ms M n (a_reference N x) k e h = subst IsSpelledKind (sym e.2) tt
kind_spelled ms M n (a_list l m us) k e h =
    subst IsSpelledKind (sym e)
    (names_spelled n us h.0, subst (HasRoot l) (sym (roots_counted n us)) h.1)
kind_spelled ms M n (an_elements z t) k e h = subst IsSpelledKind (sym e) tt
kind_spelled ms M n (a_tagged g w t) k e h = subst IsSpelledKind (sym e) tt

-- of a type's form as much is known as of the type
form_spelled : (t : TypeTree) → IsSpelledTree t → IsSpelledForm (type_form t)
form_spelled (a_type f cs) h = h

abbrev IsSpelledType : Type' → Type 0
IsSpelledType t = IsSpelledKind t.kind

module _ (ms : List (Name × Module)) (hs : List (Name × TagDefault)) (gs : List (ℕ × Name)) where
  tops_spelled : (i n : ℕ) (ss : List Source) (ts : List Type')
      → AreTops ms hs gs i n ss ts
      → AllByRecursion IsSpelledSource ss
      → AllByRecursion IsSpelledType ts
  tops_spelled i n [] [] a h = tt
  tops_spelled i n [] (t ∷ ts) a h = absurd a
  tops_spelled i n (s ∷ ss) [] a h = absurd a
  tops_spelled i n (s ∷ ss) (t ∷ ts) a h =
      (kind_spelled ms a.0.within n (type_form s.tree) t.kind a.0.kind (form_spelled s.tree h.0), tops_spelled (suc i) (n + length (parts_of s.assignment i s.tree)) ss ts a.1 h.1)

one_of : (ts : List Type') → AllByRecursion IsSpelledType ts → AreSpelled ts
one_of [] h i t e = absurd cc
one_of (u ∷ ts) h zero t e = subst IsSpelledType (same_Some u t e) h.0
one_of (u ∷ ts) h (suc i) t e = one_of ts h.1 i t e

pub types_spelled : (ms : List ModuleTree) (xs : List (Name × Module)) (hs : List (Name × TagDefault)) (gs : List (ℕ × Name)) (ts : List Type')
    → AreNumberedTypes xs hs gs (roots_of ms) ts
    → All IsSpelledModule ms
    → AreSpelled ts
types_spelled ms xs hs gs ts a h =
    one_of ts
    (tops_spelled xs hs gs 0 (length (roots_of ms)) a.sources ts a.tops
    (sources_spelled (roots_of ms) a.sources a.all (roots_spelled 0 (all_assignments ms) (assignments_spelled ms h))))
