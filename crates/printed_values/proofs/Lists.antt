-- Names and places of components, and trees in braces.
use Rattle.std.proofs.Common.{◌≡◌, ℕ, zero, suc, ◌<◌, true, List, [], ◌∷◌, Some, refl, sym, ap, subst, ◌∙◌, arith, inl, inr}
use Rattle.std.specs.Prelude.{◌⊎◌, slice_get, map}
use Rattle.asn_base.specs.Abstract.{Row}
use Rattle.asn_base.specs.Names.{IsMember, is_first, is_later}
use Rattle.asn_base.specs.Names as base
use Rattle.asn_base.specs.Types.{Component, Presence, Resolved}
use Rattle.asn_base.specs.Typed.{MayBeAbsent}
use Rattle.trees.specs.Values.{Name, Tree, trees, named_trees}
use Rattle.names.specs.Modules.{OccursIn, OccursTwice}
use Rattle.names.specs.Modules as modules
use Rattle.type_table.specs.Table.{Part}
use Rattle.resolve.specs.Program.{Program}
use Rattle.laws_print.specs.Back.{fields_tree, items_tree}
use Rattle.value_notations.specs.Notations.{list_of, named_list, values_in, fields_in, field_names, part_names, may_lack_value, IsPartOf, none_left, left_out, taken, Fields, no_part, part_absent, part_present}
use Rattle.schema_of.specs.SchemaOf.{IsPresenceOf, is_mandatory, is_optional, has_default, is_addition, is_optional_addition, AreComponentsOf}
use Rattle.schema_of.specs.SchemaOf as schema_of

-- ---- braces

list_back : (ts : List Tree) → list_of (trees ts) ≡ ts
list_back [] = refl
list_back (t ∷ ts) = ap (λ q. t ∷ q) (list_back ts)

named_back : (ms : List (Name × Tree)) → named_list (named_trees ms) ≡ ms
named_back [] = refl
named_back (m ∷ ms) = ap (λ q. m ∷ q) (named_back ms)

pub values_back : (ts : List Tree) → values_in (items_tree ts) ≡ Some ts
values_back [] = refl
values_back (t ∷ ts) = ap Some (list_back (t ∷ ts))

pub fields_back : (ms : List (Name × Tree)) → fields_in (fields_tree ms) ≡ Some ms
fields_back [] = refl
fields_back (m ∷ ms) = ap Some (named_back (m ∷ ms))

-- ---- distinct names

-- an element at a place is a member
at_place : {A : Type 0} (x : A) (xs : List A) (i : ℕ) → slice_get xs i ≡ Some x → IsMember x xs
at_place x [] i e = absurd cc
at_place x (y ∷ xs) zero e = let q : y ≡ x = cc in subst (λ z. IsMember z (y ∷ xs)) q is_first
at_place x (y ∷ xs) (suc i) e = is_later (at_place x xs i e)

pub distinct : {A : Type 0} (xs : List A) → base.AreDistinct xs → modules.AreDifferent xs
distinct [] d x t = absurd (let e = t.here in cc)
distinct (y ∷ xs) d x t = go t.first t.second t.apart t.here t.there (λ u. distinct xs d.1 x u)
  where
    go : (i j : ℕ) → i < j → slice_get (y ∷ xs) i ≡ Some x → slice_get (y ∷ xs) j ≡ Some x → (OccursTwice xs x → ⊥) → ⊥
    go i zero l e f more = absurd (omega (arith, l))
    go zero (suc j) l e f more = let q : y ≡ x = cc in d.0 (subst (λ z. IsMember z xs) (sym q) (at_place x xs j f))
    go (suc i) (suc j) l e f more = more (record { first = i; second = j; apart = omega (arith, l); here = e; there = f })

pub in_whole : {A : Type 0} {xs ys : List A} {x : A} → IsPartOf xs ys → IsMember x xs → IsMember x ys
in_whole none_left m = m
in_whole (left_out p) m = is_later (in_whole p m)
in_whole (taken p) is_first = is_first
in_whole (taken p) (is_later m) = is_later (in_whole p m)

pub distinct_part : {A : Type 0} {xs ys : List A} → IsPartOf xs ys → base.AreDistinct ys → base.AreDistinct xs
distinct_part none_left d = tt
distinct_part (left_out p) d = distinct_part p d.1
distinct_part (taken p) d = (λ m. d.0 (in_whole p m), distinct_part p d.1)

pub placed : {A : Type 0} {x : A} {xs : List A} → IsMember x xs → OccursIn xs x
placed is_first = (0, refl)
placed (is_later m) = let r = placed m in (suc r.0, r.1)

pub member_of_place : {A : Type 0} (x : A) (xs : List A) → OccursIn xs x → IsMember x xs
member_of_place x xs s = at_place x xs s.0 s.1

-- ---- components

pub names_alike : {p : Program} {M : Name} {cs : List Part} {ds : List Component} → AreComponentsOf p M cs ds → map (λ (d : Component). d.name) ds ≡ part_names cs
names_alike schema_of.no_component = refl
names_alike (schema_of.component_and {c} {cs} {d} {ds} h hs) =
    ap (λ x. x ∷ map (λ (d : Component). d.name) ds) h.name ∙ ap (λ xs. c.name ∷ xs) (names_alike hs)

pub absent_too : {p : Program} {M : Name} {s : List Resolved} {n t : ℕ} {q : Presence} (c : Part) → IsPresenceOf p M c q → MayBeAbsent s n t q → may_lack_value c ≡ true
absent_too c (is_mandatory e f) m = elim m [ ]
absent_too c (is_optional e f) m = rw e (rw f refl)
absent_too c (has_default e f n) m = rw e (rw f refl)
absent_too c (is_addition e f) m = rw e (rw f refl)
absent_too c (is_optional_addition e f) m = rw e (rw f refl)

-- ---- fields

-- a field in front whose name isn't that of one of these components changes nothing
pub one_more : {p : Program} {os : List ℕ} {M : Name} {fs : List (Name × Tree)} {cs : List Part} {r : Row} (f : Name × Tree)
    → (IsMember f.0 (part_names cs) → ⊥)
    → Fields p os M fs cs r
    → Fields p os M (f ∷ fs) cs r
one_more f other no_part = no_part
one_more {fs} f other (part_absent {c} {cs} out may rest) =
    part_absent (λ s. elim (front s) [ inl e ↦ other (subst (λ z. IsMember z (c.name ∷ part_names cs)) (sym e) is_first) | inr b ↦ out b ]) may (one_more f (λ m. other (is_later m)) rest)
  where
    front : OccursIn (f.0 ∷ field_names fs) c.name → (f.0 ≡ c.name) ⊎ OccursIn (field_names fs) c.name
    front (zero, e) = inl (let q : f.0 ≡ c.name = cc in q)
    front (suc i, e) = inr (i, e)
one_more f other (part_present {c} {cs} there n rest) =
    part_present (suc there.0, there.1) n (one_more f (λ m. other (is_later m)) rest)
