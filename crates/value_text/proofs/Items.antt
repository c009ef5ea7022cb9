-- The item that has a number, if items ascend.
use Rattle.std.proofs.Common.{arith, ◌≡◌, ℕ, zero, suc, ◌<◌, Bool, true, false, List, [], ◌∷◌, ◌++◌, length, map, inl, inr, refl, sym, ap, subst, ◌∙◌, get_or, Some, None, string_bytes}
use Rattle.std.specs.Prelude.{ℤ, ◌<ℤ◌, if◌then◌else◌}
use Rattle.std.specs.List.{AllByRecursion}
use Rattle.std.specs.Ordering.{int_eq}
use Rattle.std.proofs.lemmas.Bool.Decides.{Decides-int_eq}
use Rattle.std.proofs.lemmas.Int.{ints}
use Rattle.asn_base.specs.declared.schema.Item.{Item as Item'}
use Rattle.asn_base.specs.Schemas.{AreItems, NumbersAscend}
use Rattle.asn_base.specs.Seen.{item_of}
use Rattle.asn_base.specs.Typed.{HasNumber}
use Rattle.asn_base.specs.Types.{Item}
use Rattle.value_text.specs.Print.{name_with}
use Rattle.value_text.proofs.Members.{at_place, name_first, name_after}
use Rattle.value_text.proofs.Steps.{drop_at}

-- what `if` answers by a test that is known
when_true : {A : Type 0} (b : Bool) (x y : A) → b ≡ true → (if b then x else y) ≡ x
when_true true x y e = refl
when_true false x y e = absurd cc

when_false : {A : Type 0} (b : Bool) (x y : A) → b ≡ false → (if b then x else y) ≡ y
when_false true x y e = absurd cc
when_false false x y e = refl

not_true : (b : Bool) → (b ≡ true → ⊥) → b ≡ false
not_true true h = absurd (h refl)
not_true false h = refl

same_number : (i : Item) (is : List Item) (z : ℤ) → i.number ≡ z → name_with (i ∷ is) z ≡ Some i.name
same_number i is z e = when_true (int_eq i.number z) _ _ ((Decides-int_eq i.number z).1 e)

other_number : (i : Item) (is : List Item) (z : ℤ) → (i.number ≡ z → ⊥) → name_with (i ∷ is) z ≡ name_with is z
other_number i is z n = when_false (int_eq i.number z) _ _ (not_true _ (λ t. n ((Decides-int_eq i.number z).0 t)))

lower : (y z : ℤ) → y <ℤ z → y ≡ z → ⊥
lower y z l e = omega (arith, ints, l, e)

-- the item at a place is the first with its number
pub name_at : (is : List Item') (i : ℕ) (x : Item') (z : ℤ) → i < length is → x ≡ get_or is i x → x.number ≡ z
    → NumbersAscend (map item_of is)
    → name_with (map item_of is) z ≡ Some (string_bytes x.name)
name_at [] i x z l e n a = absurd (omega (arith, l))
name_at (y ∷ is) zero x z l e n a =
    same_number (item_of y) (map item_of is) z (ap (λ (q : Item'). q.number) (sym e) ∙ n) ∙ ap (λ (q : Item'). Some (string_bytes q.name)) (sym e)
name_at (y ∷ is) (suc i) x z l e n a =
    let m : i < length is = omega (arith, l) in
    let behind = at_place item_of (λ j. y.number <ℤ j.number) is i x (drop_at is i x x m e) a.0 in
    other_number (item_of y) (map item_of is) z (λ h. lower y.number x.number behind (h ∙ sym n)) ∙ name_at is i x z m e n a.1

-- no item of the root has the number of one after the marker
no_name : (is : List Item) (z : ℤ) → (HasNumber is z → ⊥) → name_with is z ≡ None
no_name [] z h = refl
no_name (i ∷ is) z h = other_number i is z (λ e. h (inl e)) ∙ no_name is z (λ g. h (inr g))

apart : (is js : List Item) (z : ℤ) (x : List ℕ) → AllByRecursion (λ j. HasNumber is j.number → ⊥) js
    → name_with js z ≡ Some x → HasNumber is z → ⊥
apart is [] z x a e h = absurd cc
apart is (j ∷ js) z x a e h = by (int_eq j.number z) refl (λ f. apart is js z x a.1 f h)
  where
    by : (b : Bool) → int_eq j.number z ≡ b → (name_with js z ≡ Some x → ⊥) → ⊥
    by true t f = a.0 (subst (HasNumber is) (sym ((Decides-int_eq j.number z).0 t)) h)
    by false t f = f (sym (when_false (int_eq j.number z) _ _ t) ∙ e)

pub in_root : {b : Bool} (is js : List Item) (z : ℤ) (x : List ℕ) → AreItems b is js → name_with is z ≡ Some x
    → name_with (is ++ js) z ≡ Some x
in_root is js z x a e = name_first is js z x e

pub after_root : {b : Bool} (is js : List Item) (z : ℤ) (x : List ℕ) → AreItems b is js → name_with js z ≡ Some x
    → name_with (is ++ js) z ≡ Some x
after_root is js z x a e = name_after is js z (no_name is z (apart is js z x a.apart e)) ∙ e
