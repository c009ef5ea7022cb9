-- The items of a settled enumeration keep what a schema asks of them.
use Rattle.std.proofs.Common.{◌≡◌, ℕ, zero, suc, ◌+◌, ◌<◌, ◌≤◌, Bool, false, List, [], ◌∷◌, ◌++◌, length, Option, Some, None, refl, sym, ap, subst, ◌∙◌, arith, inl, inr}
use Rattle.std.proofs.lemmas.Int.{ints}
use Rattle.std.specs.Prelude.{◌⊎◌, ℤ, ◌<ℤ◌, max, map, slice_get}
use Rattle.std.specs.List.{AllByRecursion}
use Rattle.std.proofs.lemmas.List.{length-append, length-map}
use Rattle.std.proofs.lemmas.Option.{same_Some, none-some, slice_get_within}
use Rattle.asn_base.specs.Names.{IsMember, is_first, is_later, AreDistinct, AreNames, IsIdentifier}
use Rattle.asn_base.specs.Typed.{HasNumber, IsWithinLimit}
use Rattle.asn_base.specs.Schemas.{NumbersAscend, AreItems}
use Rattle.asn_base.specs.Types as types
use Rattle.trees.specs.Values.{Name}
use Rattle.names.specs.Modules.{OccursIn, OccursTwice}
use Rattle.type_table.specs.Items.{WrittenItem, additions_of, numbers_of, root_from, root_numbers, additions_from, addition_numbers, given_numbers, counted_to, number_or, past}
use Rattle.type_table.specs.Lists.{IsSoundEnumeration}
use Rattle.value_notations.specs.Leaves.{IsItem}
use Rattle.schema_of.specs.SchemaOf.{IsRootItem, IsAddedItem, AreItemsOf, numbered_item}
use Rattle.settled.proofs.Lists.{member_at, in_part, all_members, of_all, all_mapped, value_of, one_place, no_more, in_front, in_back, value_at, there_too, no_members, some_member, distinct_by, distinct_append}

-- ---- numbers that ascend are distinct

no_less : (z : ℤ) → z <ℤ z → ⊥
no_less z l = omega (arith, ints, l)

ascending_distinct : (is : List types.Item) → NumbersAscend is → AreDistinct (map (λ i. i.number) is)
ascending_distinct [] a = tt
ascending_distinct (i ∷ is) a = (
  (λ m. (let v = value_of (λ (j : types.Item). j.number) is i.number m in
      no_less i.number (subst (λ z. i.number <ℤ z) v.same (of_all (λ j. i.number <ℤ j.number) is v.argument a.0 v.member)))),
  ascending_distinct is a.1,
)

-- items that ascend, and whose numbers are among these, aren't more than these
no_more_items : (is : List types.Item) (zs : List ℤ) → NumbersAscend is → ((i : types.Item) → IsMember i is → IsMember i.number zs) → length is ≤ length zs
no_more_items is zs a f =
    let l = no_more (map (λ (i : types.Item). i.number) is) zs (ascending_distinct is a)
    (λ z m. (let v = value_of (λ (j : types.Item). j.number) is z m in subst (λ w. IsMember w zs) v.same (f v.argument v.member))) in
    let e = length-map is (λ (i : types.Item). i.number) in
    omega (arith, l, e)

item_with : (is : List types.Item) (z : ℤ) → HasNumber is z → (i : types.Item) × IsMember i is × (i.number ≡ z)
item_with [] z h = absurd h
item_with (i ∷ is) z (inl e) = (i, is_first, e)
item_with (i ∷ is) z (inr h) = let r = item_with is z h in (r.0, is_later r.1, r.2)

-- ---- how many numbers items have

root_long : (given : List ℤ) (is : List WrittenItem) (n : ℕ) → length (root_from given n is) ≡ length is
root_long given [] n = refl
root_long given (i ∷ is) n = ap suc (root_long given is (counted_to n given i.1))

added_long : (root : List ℤ) (is : List WrittenItem) (n : ℕ) → length (additions_from root n is) ≡ length is
added_long root [] n = refl
added_long root (i ∷ is) n = ap suc (added_long root is (max n (past (number_or n root i.1))))

root_count : (root : List WrittenItem) → length (root_numbers root) ≡ length root
root_count root = root_long (given_numbers root) root 0

added_count : (root more : List WrittenItem) → length (addition_numbers root more) ≡ length more
added_count root more = added_long (root_numbers root) more 0

module _ (root : List WrittenItem) (more : Option (List WrittenItem)) (in_root added : List types.Item) (marker : Bool)
    (a : AreItemsOf root more in_root marker added) (sound : IsSoundEnumeration root (additions_of more)) where
  all : List WrittenItem
  all = root ++ additions_of more

  written_root : (i : types.Item) → IsMember i in_root → IsRootItem root (additions_of more) i.name i.number
  written_root i m = (a.roots i.name i.number).0 m

  written_added : (i : types.Item) → IsMember i added → IsAddedItem root (additions_of more) i.name i.number
  written_added i m = (a.additions i.name i.number).0 m

  written : (i : types.Item) → IsMember i (in_root ++ added) → IsItem root (additions_of more) i.name i.number
  written i m = elim (in_part i in_root added m) [ inl n ↦ (written_root i n).item | inr n ↦ (written_added i n).item ]

  -- items of one name have one number
  one_number : (i j : types.Item) → IsItem root (additions_of more) i.name i.number → IsItem root (additions_of more) j.name j.number → i.name ≡ j.name → i.number ≡ j.number
  one_number i j f g e =
      let names = map (λ (i : WrittenItem). i.0) (root ++ additions_of more) in
      let p = value_at (λ (i : WrittenItem). i.0) (root ++ additions_of more) f.place f.item f.there ∙ ap Some
      (f.named ∙ e) in
      let q = value_at (λ (i : WrittenItem). i.0) (root ++ additions_of more) g.place g.item g.there ∙ ap Some g.named in
      let same = one_place names j.name f.place g.place sound.names p q in
      same_Some i.number j.number (sym f.numbered ∙ ap (slice_get (numbers_of root (additions_of more))) same ∙ g.numbered)

  -- a number of the root isn't one after the marker
  apart : (i j : types.Item) → IsMember i in_root → IsMember j added → i.number ≡ j.number → ⊥
  apart i j m n e =
      let f = written_root i m in
      let g = written_added j n in
      let same = one_place (numbers_of root (additions_of more)) j.number f.item.place g.item.place sound.numbers (f.item.numbered ∙ ap Some e) g.item.numbered in
      let l = f.in_root in
      let k = g.following in
      omega (arith, same, l, k)

  distinct_names : NumbersAscend in_root → NumbersAscend added → AreDistinct (map (λ i. i.name) (in_root ++ added))
  distinct_names r s =
      distinct_by (λ (i : types.Item). i.number) (λ (i : types.Item). i.name) (in_root ++ added)
      (λ i j m n e. one_number i j (written i m) (written j n) e)
      (distinct_append (λ (i : types.Item). i.number) in_root added (ascending_distinct in_root r) (ascending_distinct added s) apart)

  root_among : (i : types.Item) → IsMember i in_root → IsMember i.number (root_numbers root)
  root_among i m =
      let f = written_root i m in
      let l = f.in_root in
      let e = root_count root in
      member_at i.number (root_numbers root) f.item.place
      (in_front (root_numbers root) (addition_numbers root (additions_of more)) f.item.place i.number (omega (arith, l, e)) f.item.numbered)

  added_among : (i : types.Item) → IsMember i added → IsMember i.number (addition_numbers root (additions_of more))
  added_among i m =
      let f = written_added i m in
      let l = f.following in
      let e = root_count root in
      let s = in_back (root_numbers root) (addition_numbers root (additions_of more)) f.item.place i.number (omega (arith, l, e)) f.item.numbered in
      member_at i.number (addition_numbers root (additions_of more)) s.0 s.1

  unmarked : marker ≡ false → added ≡ []
  unmarked e =
      let n = a.marked.0 e in
      no_members added (λ i m. (
      let f = written_added i m in
      let l = f.following in
      let w = slice_get_within (root ++ additions_of more) f.item.place f.item.item f.item.there in
      let c = length-append root (additions_of more) in
      let z : length (additions_of more) ≡ 0 = ap (λ (o : Option (List WrittenItem)). length (additions_of o)) n in
      omega (arith, l, w, c, z)))

  -- the first item of the root is one of the schema
  some_root : 1 ≤ length root → 1 ≤ length in_root
  some_root l = go root refl l
    where
      go : (r : List WrittenItem) → root ≡ r → 1 ≤ length r → 1 ≤ length in_root
      go [] e l = absurd (omega (arith, l))
      go (i ∷ is) e l =
          let h : slice_get (root ++ additions_of more) 0 ≡ Some i = ap (λ (r : List WrittenItem). slice_get (r ++ additions_of more) 0) e in
          let c = root_count root in
          let d = added_count root (additions_of more) in
          let b = length-append root (additions_of more) in
          let k = length-append (root_numbers root) (addition_numbers root (additions_of more)) in
          let z = there_too (root ++ additions_of more) (numbers_of root (additions_of more)) 0 i (omega (arith, c, d, b, k)) h in
          let q : 1 ≤ length root = subst (λ (r : List WrittenItem). 1 ≤ length r) (sym e) l in
          some_member (numbered_item i.0 z.0) in_root ((a.roots i.0 z.0).1 (record {
            item = record { place = 0; item = i; there = h; named = refl; numbered = z.1 };
            in_root = omega (arith, q);
          }))

  pub items_kept : 1 ≤ length root → AllByRecursion IsIdentifier (map (λ i. i.0) (root ++ additions_of more)) →
      NumbersAscend in_root → NumbersAscend added → AreItems marker in_root added
  items_kept some spelled r s = record {
    some = some_root some;
    names = record {
      identifiers = all_mapped IsIdentifier (λ (i : types.Item). i.name) (in_root ++ added)
          (all_members (λ i. IsIdentifier i.name) (in_root ++ added) (λ i m. (
          let f = written i m in
          let e = value_at (λ (i : WrittenItem). i.0) (root ++ additions_of more) f.place f.item f.there in
          subst IsIdentifier f.named (of_all IsIdentifier (map (λ i. i.0) (root ++ additions_of more)) f.item.0 spelled
          (member_at f.item.0 (map (λ i. i.0) (root ++ additions_of more)) f.place e)))));
      distinct = distinct_names r s;
    };
    limits = all_members (λ i. IsWithinLimit i.number) (in_root ++ added) (λ i m. (let f = written i m in sound.within f.place i.number f.numbered));
    root_ascends = r;
    more_ascend = s;
    apart = all_members (λ i. HasNumber in_root i.number → ⊥) added (λ i m h. (let j = item_with in_root i.number h in apart j.0 i j.1 m j.2));
    marked = unmarked;
    few_root = (let l = no_more_items in_root (root_numbers root) r root_among in let c = root_count root in let f = sound.root_few in omega (arith, l, c, f));
    few_more = (let l = no_more_items added (addition_numbers root (additions_of more)) s added_among in let c = added_count root (additions_of more) in let f = sound.more_few in omega (arith, l, c, f));
  }
