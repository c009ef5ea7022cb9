-- The item that is printed for a number is one of the type's, with this number.
use Rattle.std.proofs.Common.{◌≡◌, ℕ, zero, suc, Bool, true, false, List, [], ◌∷◌, ◌++◌, Some, refl, sym, ap, subst, ◌∙◌, arith, inl, inr}
use Rattle.std.specs.Prelude.{◌⊎◌, ℤ, pos, negsuc, if◌then◌else◌, slice_get, map}
use Rattle.std.specs.Ordering.{int_eq}
use Rattle.std.proofs.lemmas.Bool.Decides.{nat_tests}
use Rattle.asn_base.specs.Names.{IsMember, is_first, is_later}
use Rattle.asn_base.specs.Types as types
use Rattle.asn_base.specs.Typed.{HasNumber}
use Rattle.trees.specs.Values.{Name}
use Rattle.names.specs.Modules.{OccursIn}
use Rattle.names.specs.Names.{names_of}
use Rattle.type_table.specs.Items.{WrittenItem}
use Rattle.value_text.specs.Print.{name_with, name_in}
use Rattle.value_notations.specs.Leaves.{IsItem}
use Rattle.schema_of.specs.SchemaOf.{numbered_item}

same_number : (y z : ℤ) → int_eq y z ≡ true → y ≡ z
same_number (pos m) (pos n) e = let q : m ≡ n = grind (arith, nat_tests) in ap pos q
same_number (negsuc m) (negsuc n) e = let q : m ≡ n = grind (arith, nat_tests) in ap negsuc q
same_number (pos m) (negsuc n) e = absurd cc
same_number (negsuc m) (pos n) e = absurd cc

equal_number : (z : ℤ) → int_eq z z ≡ true
equal_number (pos n) = grind (arith, nat_tests)
equal_number (negsuc n) = grind (arith, nat_tests)

-- the first item with the number
pub found_item : (is : List types.Item) (z : ℤ) → HasNumber is z → IsMember (numbered_item (name_in (name_with is z)) z) is
found_item [] z h = absurd h
found_item (i ∷ is) z h = of_test (int_eq i.number z) refl h (λ g. found_item is z g)
  where
    of_test : (b : Bool) → int_eq i.number z ≡ b → (i.number ≡ z) ⊎ HasNumber is z → (HasNumber is z → IsMember (numbered_item (name_in (name_with is z)) z) is)
        → IsMember (numbered_item (name_in (if b then Some i.name else name_with is z)) z) (i ∷ is)
    of_test true e h more = subst (λ (y : ℤ). IsMember (numbered_item i.name y) (i ∷ is)) (same_number i.number z e) is_first
    of_test false e (inl same) more = absurd (let f : int_eq i.number z ≡ true = ap (λ y. int_eq y z) same ∙ equal_number z in let g = sym e ∙ f in cc)
    of_test false e (inr g) more = is_later (more g)

pub mapped_at : {A B : Type 0} (f : A → B) (xs : List A) (i : ℕ) (x : A) → slice_get xs i ≡ Some x → slice_get (map f xs) i ≡ Some (f x)
mapped_at f [] i x e = absurd cc
mapped_at f (y ∷ xs) zero x e = let q : y ≡ x = cc in ap (λ z. Some (f z)) q
mapped_at f (y ∷ xs) (suc i) x e = mapped_at f xs i x e

-- and so a name of the type
pub own_item : (root more : List WrittenItem) (x : Name) (z : ℤ) → IsItem root more x z →
    OccursIn (names_of (root ++ more)) x
own_item root more x z i = (i.place, mapped_at (λ (e : WrittenItem). e.0) (root ++ more) i.place i.item i.there ∙ ap Some i.named)
