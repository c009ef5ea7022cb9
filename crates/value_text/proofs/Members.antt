-- The members of a value as loops go over them.
use Rattle.std.proofs.Common.{arith, ◌≡◌, ℕ, zero, suc, ◌+◌, ◌<◌, Bool, true, false, List, [], ◌∷◌, ◌++◌, length, drop, map, refl, subst, get_or, Option, Some, None}
use Rattle.std.specs.List.{AllByRecursion}
use Rattle.asn_base.specs.declared.schema.Component.{Component as Component'}
use Rattle.asn_base.specs.Abstract.{AbstractValue}
use Rattle.asn_base.specs.Typed.{IsValue, ValueIn, value_in}
use Rattle.asn_base.specs.Seen.{component_of}
use Rattle.asn_base.specs.Types.{Resolved, Item}
use Rattle.std.specs.Prelude.{ℤ, if◌then◌else◌, slice_get}
use Rattle.std.specs.Ordering.{int_eq}
use Rattle.value_text.specs.Print.{name_with}
use Rattle.value_text.proofs.Steps.{drop_at}

-- what holds of all mapped members holds of the one at a place
pub at_place : {X Y : Type 0} (f : X → Y) (P : Y → Type 0) (xs : List X) (i : ℕ) (x : X) → drop i xs ≡ x ∷ drop (i + 1) xs → AllByRecursion P (map f xs) → P (f x)
at_place {X = X} f P xs i x e a = (subst (λ l. AllByRecursion P (map f l)) e (all_dropped xs i a)).0
  where
    all_dropped : (xs : List X) (i : ℕ) → AllByRecursion P (map f xs) → AllByRecursion P (map f (drop i xs))
    all_dropped xs zero a = a
    all_dropped [] (suc i) a = tt
    all_dropped (y ∷ xs) (suc i) a = all_dropped xs i a.1

pub type_there : (cs : List Component') (n i : ℕ) (c : Component') → AllByRecursion (λ c. c.type < n) (map component_of cs) → i < length cs → c ≡ get_or cs i c → c.ty.index < n
type_there cs n i c a l e = at_place component_of (λ c. c.type < n) cs i c (drop_at cs i c c l e) a

found_below : {X : Type 0} (xs : List X) (i : ℕ) (x : X) → slice_get xs i ≡ Some x → i < length xs
found_below [] i x e = absurd cc
found_below (y ∷ xs) zero x e = omega arith
found_below (y ∷ xs) (suc i) x e = let h = found_below xs i x e in omega (arith, h)

in_schema : {s : List Resolved} {n t : ℕ} {v : AbstractValue} → ValueIn s n t v → t < length s
in_schema {s} {n} {t} {v} (value_in {tags} {k} is of) = found_below s t _ is.found

-- the type of a value is one of the schema
pub value_there : (s : List Resolved) (t : ℕ) (v : AbstractValue) → IsValue s t v → t < length s
value_there s t v h = in_schema h.shaped

-- ---- items

pub name_first : (is js : List Item) (z : ℤ) (x : List ℕ) → name_with is z ≡ Some x → name_with (is ++ js) z ≡ Some x
name_first [] js z x e = absurd cc
name_first (i ∷ is) js z x e = of_test (int_eq i.number z) (name_with is z) (name_with (is ++ js) z) e (name_first is js z x)
  where
    of_test : (b : Bool) (o p : Option (List ℕ)) → (if b then Some i.name else o) ≡ Some x → (o ≡ Some x → p ≡ Some x) → (if b then Some i.name else p) ≡ Some x
    of_test true o p e f = e
    of_test false o p e f = f e

pub name_after : (is js : List Item) (z : ℤ) → name_with is z ≡ None → name_with (is ++ js) z ≡ name_with js z
name_after [] js z e = refl
name_after (i ∷ is) js z e = of_test (int_eq i.number z) (name_with is z) (name_with (is ++ js) z) e (name_after is js z)
  where
    of_test : (b : Bool) (o p : Option (List ℕ)) → (if b then Some i.name else o) ≡ None → (o ≡ None → p ≡ name_with js z) → (if b then Some i.name else p) ≡ name_with js z
    of_test true o p e f = absurd cc
    of_test false o p e f = f e
