-- The items of an enumeration before and after its marker.
use Rattle.std.proofs.Common.{◌≡◌, ◌+◌, ◌<◌, ◌≤◌, ◌⊎◌, inl, inr, ℕ, suc, ℤ, pos, max, Bool, false, ◌^◌, refl, sym, ap, subst, ◌∙◌, arith}
use Rattle.std.specs.Prelude.{◌↔◌, List, [], ◌∷◌, ◌++◌, drop, length, Option, Some, None, slice_get}
use Rattle.std.proofs.lemmas.List.{length-append}
use Rattle.std.proofs.lemmas.Option.{none-some, slice_get_within}
use Rattle.asn_base.specs.Names.{IsMember}
use Rattle.asn_base.specs.Schemas.{NumbersAscend}
use Rattle.asn_base.specs.Types as types
use Rattle.trees.specs.Types.{an_enumerated}
use Rattle.trees.specs.Values.{Name}
use Rattle.names.specs.Modules.{AreDifferent}
use Rattle.names.specs.proving.Distinct.{left, right, either}
use Rattle.type_table.specs.Items as written
use Rattle.type_table.specs.Items.{numbers_of}
use Rattle.type_table.specs.Lists.{IsSoundEnumeration}
use Rattle.type_table.specs.Table.{simple}
use Rattle.resolve.specs.Program.{Program}
use Rattle.settled.specs.schema_of.SchemaOf as schema_of
use Rattle.settled.specs.schema_of.SchemaOf.{IsRootItem, IsAddedItem}
use Rattle.extensions.specs.proving.Cores.{IsCoreOf}
use Rattle.extensions.specs.proving.Items.{item_with, with_numbers}
use Rattle.extensions.proofs.Numbers.{placed, at_place, drop_get}

pub root_members : (root more : List written.WrittenItem) (x : Name) (z : ℤ)
    → (IsMember (item_with x z) (with_numbers root (drop 0 (numbers_of root more))) ↔ IsRootItem root more x z)
root_members root more x z = (
  λ m.
      let r = placed root (drop 0 (numbers_of root more)) x z m in
      let e : 0 + r.0 ≡ r.0 = omega arith in
      record {
        item = record {
          place = r.0;
          item = r.1;
          there = left root more r.0 r.1 r.2;
          named = r.3;
          numbered = ap (slice_get (numbers_of root more)) (sym e) ∙ sym (drop_get (numbers_of root more) 0 r.0) ∙ r.4;
        };
        in_root = slice_get_within root r.0 r.1 r.2;
      },
  λ r.
      let n = r.item.place in
      let e : 0 + n ≡ n = omega arith in
      at_place root (drop 0 (numbers_of root more)) x z n r.item.item
      (elim (either root more n r.item.item r.item.there) [
        | inl f ↦ f
        | inr q ↦ absurd (omega (arith, q.1, r.in_root))
      ])
      r.item.named
      (drop_get (numbers_of root more) 0 n ∙ ap (slice_get (numbers_of root more)) e ∙ r.item.numbered),
)

pub added_members : (root more : List written.WrittenItem) (k : ℕ) (x : Name) (z : ℤ)
    → k ≡ length root
    → (IsMember (item_with x z) (with_numbers more (drop k (numbers_of root more))) ↔ IsAddedItem root more x z)
added_members root more k x z same = (
  λ m.
      let r = placed more (drop k (numbers_of root more)) x z m in
      let e : length root + r.0 ≡ k + r.0 = omega (arith, same) in
      record {
        item = record {
          place = length root + r.0;
          item = r.1;
          there = right root more r.0 ∙ r.2;
          named = r.3;
          numbered = ap (slice_get (numbers_of root more)) e ∙ sym (drop_get (numbers_of root more) k r.0) ∙ r.4;
        };
        following = omega arith;
      },
  λ r.
      let n = r.item.place in
      elim (either root more n r.item.item r.item.there) [
        | inl f ↦ absurd (let h = slice_get_within root n r.item.item f in omega (arith, h, r.following))
        | inr q ↦
            let e : k + q.0 ≡ n = omega (arith, same, q.1) in
            at_place more (drop k (numbers_of root more)) x z q.0 r.item.item q.2 r.item.named
            (drop_get (numbers_of root more) k q.0 ∙ ap (slice_get (numbers_of root more)) e ∙ r.item.numbered)
      ],
)

-- ---- how many

root_long : (given : List ℤ) (n : ℕ) (is : List written.WrittenItem) → length (written.root_from given n is) ≡ length is
root_long given n [] = refl
root_long given n (i ∷ is) = ap suc (root_long given (written.counted_to n given i.1) is)

more_long : (root : List ℤ) (n : ℕ) (is : List written.WrittenItem) →
    length (written.additions_from root n is) ≡ length is
more_long root n [] = refl
more_long root n (i ∷ is) = ap suc (more_long root (max n (written.past (written.number_or n root i.1))) is)

pub numbers_long : (root more : List written.WrittenItem) (zs : List ℤ) → zs ≡ numbers_of root more → length zs ≡ length root + length more
numbers_long root more zs e =
    let a : length (written.root_numbers root) ≡ length root = root_long (written.given_numbers root) 0 root in
    let b : length (written.addition_numbers root more) ≡ length more = more_long (written.root_numbers root) 0 more in
    let c : length zs ≡ length (written.root_numbers root ++ written.addition_numbers root more) = ap length e in
    let d = length-append (written.root_numbers root) (written.addition_numbers root more) in
    omega (arith, a, b, c, d)

-- distinct numbers stay distinct after the first ones are removed
pub drop_distinct : (zs : List ℤ) (k : ℕ) → AreDifferent zs → AreDifferent (drop k zs)
drop_distinct zs k d x t =
    d x (record {
      first = k + t.first;
      second = k + t.second;
      apart = omega (arith, t.apart);
      here = sym (drop_get zs k t.first) ∙ t.here;
      there = sym (drop_get zs k t.second) ∙ t.there;
    })

-- the number of no addition is too great
pub none_great : (root more : List written.WrittenItem) (i : ℕ)
    → IsSoundEnumeration root more
    → slice_get (written.additions_from (written.root_numbers root) 0 more) i ≡ Some (pos (2 ^ 127))
    → ⊥
none_great root more i s e =
    let there = right (written.root_numbers root) (written.addition_numbers root more) i ∙ e in
    let w = s.within (length (written.root_numbers root) + i) (pos (2 ^ 127)) there in
    omega (arith, w)

pub enumeration_core : (p : Program) (i : ℕ) (M : Name) (root : List written.WrittenItem) (more : Option
    (List written.WrittenItem))
    (in_root added : List types.Item) (marker : Bool)
    → ((x : Name) (z : ℤ) → (IsMember (item_with x z) in_root ↔ IsRootItem root (written.additions_of more) x z))
    → ((x : Name) (z : ℤ) → (IsMember (item_with x z) added ↔ IsAddedItem root (written.additions_of more) x z))
    → (marker ≡ false ↔ more ≡ None)
    → NumbersAscend in_root
    → NumbersAscend added
    → IsCoreOf p i M (simple (an_enumerated root more)) (types.an_enumerated in_root marker added)
enumeration_core p i M root more in_root added marker a b c d e = record {
  kind = schema_of.enumerated (record { roots = a; additions = b; marked = c });
  constrained = tt;
  items = (d, e);
}

pub ordered : (P : Type 0) (xs ys zs : List types.Item) (i : types.Item)
    → (IsMember i xs ↔ IsMember i ys)
    → ys ≡ zs
    → (IsMember i zs ↔ P)
    → (IsMember i xs ↔ P)
ordered P xs ys zs i a e b =
    (λ m. b.0 (subst (IsMember i) e (a.0 m)), λ q. a.1 (subst (IsMember i) (sym e) (b.1 q)))
