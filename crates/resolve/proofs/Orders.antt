-- Names in their order, and searching them by halves.
use Rattle.std.proofs.Common.{◌≡◌, ◌<◌, ◌≤◌, ◌⊎◌, ℕ, zero, suc, ◌+◌, ◌-◌, ◌++◌, List, [], ◌∷◌, None, Some, length, refl, sym, subst, ap, ◌∙◌, arith, inl, inr}
use Rattle.std.specs.Prelude.{slice_get}
use Rattle.std.specs.List.{All}
use Rattle.std.specs.List.Sorted.{IsPermutation}
use Rattle.std.specs.Cmp.Lexicographic.{slice_cmp}
use Rattle.std.specs.Ordering.{nat_cmp, is_eq, ordering_reverse}
use Rattle.std.specs.declared.cmp.Ordering.TheVariants.{Less, Equal, Greater}
use Rattle.std.proofs.lemmas.Cmp.{nat_list_cmp_total, tied_itself}
use Rattle.std.proofs.lemmas.Bool.{cases_order}
use Rattle.std.proofs.lemmas.List.Sorted.{All-permutation, IsPermutation-sym}
use Rattle.std.proofs.lemmas.Map.Text.{is_eq-slice_cmp}
use Rattle.std.proofs.lemmas.Option.{same_Some, slice_get_within, slice_get-get_or, get_or_from_slice_get}
use Rattle.std.proofs.lemmas.Slice.Eq.{bytes_eq-Decides}
use Rattle.trees.specs.Values.{Name}
use Rattle.names.specs.Modules.{OccursIn}
use Rattle.type_table.specs.declared.table.TypeNode.{TypeNode}
use Rattle.type_table.specs.Seen.{kind_of}
use Rattle.resolve.specs.Listed.{IsPlaceOf}
use Rattle.resolve.specs.declared.name_index.NameIndex.{NameIndex}
use Rattle.resolve.specs.proving.Ordered.{AreIndexes, ComesBefore, IsIndexOf, IsOrderOf, RisesTo}

-- ---- the order of texts

pub text_itself : (x : Name) → slice_cmp nat_cmp x x ≡ Equal
text_itself x = tied_itself nat_list_cmp_total x

pub text_exact : (x y : Name) → slice_cmp nat_cmp x y ≡ Equal → x ≡ y
text_exact x y e = (bytes_eq-Decides x y).0 (sym (is_eq-slice_cmp x y) ∙ ap is_eq e)

pub turned : (x y : Name) → slice_cmp nat_cmp x y ≡ Less → slice_cmp nat_cmp y x ≡ Greater
turned x y e = nat_list_cmp_total.antisymm y x ∙ ap ordering_reverse e

pub turned_back : (x y : Name) → slice_cmp nat_cmp x y ≡ Greater → slice_cmp nat_cmp y x ≡ Less
turned_back x y e = nat_list_cmp_total.antisymm y x ∙ ap ordering_reverse e

not_less : (x : Name) → slice_cmp nat_cmp x x ≡ Less → ⊥
not_less x e = let f = sym (text_itself x) ∙ e in absurd cc

not_greater : (x : Name) → slice_cmp nat_cmp x x ≡ Greater → ⊥
not_greater x e = let f = sym (text_itself x) ∙ e in absurd cc

-- ---- places that are moved

module _ (n : ℕ) (xs ys : List ℕ) (long : length xs ≡ n) (each : (p : ℕ) → p < n → slice_get xs p ≡ Some p) (moved : IsPermutation xs ys) where
  pub moved_inside : (k p : ℕ) → slice_get ys k ≡ Some p → p < n
  moved_inside k p e =
      let below : All (λ q. q < n) xs = λ i d l.
      let m : i < n = omega (arith, l, long) in
      subst (λ q. q < n) (sym (get_or_from_slice_get xs i i d (each i m))) m in
      let all = All-permutation (λ q. q < n) xs ys moved below in
      let w = slice_get_within ys k p e in
      subst (λ q. q < n) (get_or_from_slice_get ys k p p e) (all k p w)

  pub moved_whole : (p : ℕ) → p < n → (k : ℕ) × (slice_get ys k ≡ Some p)
  moved_whole p l =
      let there : All (λ q. (k : ℕ) × (slice_get ys k ≡ Some q)) ys = λ i d m. (i, slice_get-get_or ys i d m) in
      let all = All-permutation (λ q. (k : ℕ) × (slice_get ys k ≡ Some q)) ys xs (IsPermutation-sym xs ys moved) there in
      let m : p < length xs = omega (arith, l, long) in
      subst (λ q. (k : ℕ) × (slice_get ys k ≡ Some q)) (get_or_from_slice_get xs p p p (each p l)) (all p p m)

-- ---- names that rise

module _ (xs : List Name) where
  pub before_both : (p q r : ℕ) → ComesBefore xs p q → ComesBefore xs q r → ComesBefore xs p r
  before_both p q r f g =
      let same : f.other ≡ g.one = same_Some f.other g.one (sym f.there ∙ g.here) in
      record {
        one = f.one;
        other = g.other;
        here = f.here;
        there = g.there;
        less = nat_list_cmp_total.trans f.one g.one g.other (subst (λ y. slice_cmp nat_cmp f.one y ≡ Less) same f.less) g.less;
      }

  module _ (order : List ℕ) where
    pub rises_from : (n : ℕ) → n ≤ 1 → RisesTo xs order n
    rises_from n l j k p q a b e f = absurd (omega (arith, l, a, b))

    pub rises_less : (m n : ℕ) → n ≤ m → RisesTo xs order m → RisesTo xs order n
    rises_less m n l h j k p q a b e f = h j k p q a (omega (arith, l, b)) e f

    pub rises_more : (n p q : ℕ) → 1 ≤ n → slice_get order (n - 1) ≡ Some p → slice_get order n ≡ Some q →
        RisesTo xs order n → ComesBefore xs p q → RisesTo xs order (n + 1)
    rises_more n p q o e f h s j k a b l m d g =
        elim (cases_order k n) [
          | inl t ↦ (
              let v : b ≡ q = same_Some b q (sym g ∙ ap (slice_get order) t ∙ f) in
              let last : ComesBefore xs p b = subst (λ z. ComesBefore xs p z) (sym v) s in
              elim (cases_order j (n - 1)) [
                | inl u ↦ (
                    let w : a ≡ p = same_Some a p (sym d ∙ ap (slice_get order) u ∙ e) in
                    subst (λ z. ComesBefore xs z b) (sym w) last)
                | inr u ↦ elim u [
                  | inl i ↦ before_both a p b (h j (n - 1) a p i (omega (arith, o)) d e) last
                  | inr i ↦ absurd (omega (arith, l, t, i, o))
                ]
              ])
          | inr t ↦ elim t [
            | inl i ↦ h j k a b l i d g
            | inr i ↦ absurd (omega (arith, m, i))
          ]
        ]

-- ---- searching by halves

-- The name is at none of the first `low` places in `order`, whose names come before it. It is at none from `high` on,
-- whose names come after it.
pub record IsBetween (xs : List Name) (order : List ℕ) (x : Name) (low high : ℕ) : Type 0 where
  pub most : high ≤ length order
  pub below : (k p : ℕ) (y : Name) → k < low → slice_get order k ≡ Some p → slice_get xs p ≡ Some y →
      slice_cmp nat_cmp y x ≡ Less
  pub above : (k p : ℕ) (y : Name) → high ≤ k → slice_get order k ≡ Some p → slice_get xs p ≡ Some y →
      slice_cmp nat_cmp y x ≡ Greater

module _ (xs : List Name) (order : List ℕ) (x : Name) (is : IsOrderOf xs order) where
  pub between_all : IsBetween xs order x 0 (length order)
  between_all = record {
    most = omega arith;
    below = λ k p y l e f. absurd (omega (arith, l));
    above = λ k p y l e f. (let w = slice_get_within order k p e in absurd (omega (arith, l, w)));
  }

  -- of two places, the name at the first comes before that at the second
  pair : (j k p q : ℕ) (y z : Name) → j < k → slice_get order j ≡ Some p → slice_get order k ≡ Some q →
      slice_get xs p ≡ Some y → slice_get xs q ≡ Some z → slice_cmp nat_cmp y z ≡ Less
  pair j k p q y z l e f g h =
      let s = is.rises j k p q l (slice_get_within order k q f) e f in
      let a : s.one ≡ y = same_Some s.one y (sym s.here ∙ g) in
      let b : s.other ≡ z = same_Some s.other z (sym s.there ∙ h) in
      subst (λ v. slice_cmp nat_cmp v z ≡ Less) a (subst (λ v. slice_cmp nat_cmp s.one v ≡ Less) b s.less)

  pub between_upper : (low high m p : ℕ) (y : Name) → IsBetween xs order x low high → slice_get order m ≡ Some p →
      slice_get xs p ≡ Some y → slice_cmp nat_cmp y x ≡ Less → IsBetween xs order x (m + 1) high
  between_upper low high m p y b e f c = record {
    most = b.most;
    below = λ k q z l g h.
        elim (cases_order k m) [
          | inl t ↦ (
              let s : q ≡ p = same_Some q p (sym g ∙ ap (slice_get order) t ∙ e) in
              let r : z ≡ y = same_Some z y (sym h ∙ ap (slice_get xs) s ∙ f) in
              subst (λ v. slice_cmp nat_cmp v x ≡ Less) (sym r) c)
          | inr t ↦ elim t [
            | inl o ↦ nat_list_cmp_total.trans z y x (pair k m q p z y o g e h f) c
            | inr o ↦ absurd (omega (arith, l, o))
          ]
        ];
    above = b.above;
  }

  pub between_lower : (low high m p : ℕ) (y : Name) → IsBetween xs order x low high → slice_get order m ≡ Some p →
      slice_get xs p ≡ Some y → slice_cmp nat_cmp y x ≡ Greater → IsBetween xs order x low m
  between_lower low high m p y b e f c = record {
    most = (let w = slice_get_within order m p e in omega (arith, w));
    below = b.below;
    above = λ k q z l g h.
        elim (cases_order k m) [
          | inl t ↦ (
              let s : q ≡ p = same_Some q p (sym g ∙ ap (slice_get order) t ∙ e) in
              let r : z ≡ y = same_Some z y (sym h ∙ ap (slice_get xs) s ∙ f) in
              subst (λ v. slice_cmp nat_cmp v x ≡ Greater) (sym r) c)
          | inr t ↦ elim t [
            | inl o ↦ absurd (omega (arith, l, o))
            | inr o ↦ turned x z (nat_list_cmp_total.trans x y z (turned_back y x c) (pair m k p q y z o e g f h))
          ]
        ];
  }

  -- a name that is between no places is nowhere
  pub nowhere : (low high : ℕ) → IsBetween xs order x low high → high ≤ low → OccursIn xs x → ⊥
  nowhere low high b l s =
      let w = is.whole s.0 (slice_get_within xs s.0 x s.1) in
      elim (cases_order w.0 low) [
        | inl t ↦ not_greater x (b.above w.0 s.0 x (omega (arith, l, t)) w.1 s.1)
        | inr t ↦ elim t [
          | inl o ↦ not_less x (b.below w.0 s.0 x o w.1 s.1)
          | inr o ↦ not_greater x (b.above w.0 s.0 x (omega (arith, l, o)) w.1 s.1)
        ]
      ]

  -- a name that is found is at no other place
  pub only_place : (m p : ℕ) (y : Name) → slice_get order m ≡ Some p → slice_get xs p ≡ Some y →
      slice_cmp nat_cmp y x ≡ Equal → IsPlaceOf xs x (Some p)
  only_place m p y e f c =
      let same : y ≡ x = text_exact y x c in
      let here : slice_get xs p ≡ Some x = f ∙ ap Some same in (
        here,
        λ j l h.
            let w = is.whole j (slice_get_within xs j x h) in
            elim (cases_order w.0 m) [
              | inl t ↦ (
                  let s : j ≡ p = same_Some j p (sym w.1 ∙ ap (slice_get order) t ∙ e) in
                  absurd (omega (arith, l, s)))
              | inr t ↦ elim t [
                | inl o ↦ not_less x (pair w.0 m j p x x o w.1 e h here)
                | inr o ↦ not_less x (pair m w.0 p j x x o e w.1 here h)
              ]
            ],
      )

  -- the name at a place in the order is there
  pub name_there : (m p : ℕ) → slice_get order m ≡ Some p → slice_get xs p ≡ None → ⊥
  name_there m p e f =
      let l = is.inside m p e in
      let g = slice_get-get_or xs p x l in
      let h = sym f ∙ g in
      absurd cc

-- ---- indexes of types

-- no types have no indexes
pub no_indexes : (ts : List TypeNode) (ns : List NameIndex) → ns ≡ [] → AreIndexes ts ns
no_indexes ts ns e i t n f g = let h : slice_get {X = NameIndex} [] i ≡ Some n = ap (λ l. slice_get l i) (sym e) ∙ g in absurd cc

-- one index more
pub index_more : (ts : List TypeNode) (ns : List NameIndex) (t : TypeNode) (n : NameIndex) →
    slice_get ts (length ns) ≡ Some t →
    IsIndexOf (kind_of t.shape) n.order.items n.numbers.items →
    AreIndexes ts ns →
    AreIndexes ts (ns ++ n ∷ [])
index_more ts ns t n e s h i u m f g =
    elim (parted ns i m g) [
      | inl o ↦ h i u m f o
      | inr o ↦ (
          let a : u ≡ t = same_Some u t (sym f ∙ ap (slice_get ts) o.0 ∙ e) in
          subst (λ (v : TypeNode). IsIndexOf (kind_of v.shape) m.order.items m.numbers.items) (sym a)
          (subst (λ (v : NameIndex). IsIndexOf (kind_of t.shape) v.order.items v.numbers.items) o.1 s))
    ]
  where
    parted : (ns : List NameIndex) (i : ℕ) (m : NameIndex) → slice_get (ns ++ n ∷ []) i ≡ Some m →
        (slice_get ns i ≡ Some m) ⊎ ((i ≡ length ns) × (n ≡ m))
    parted [] zero m g = inr (refl, same_Some n m g)
    parted [] (suc i) m g = absurd cc
    parted (x ∷ ns) zero m g = inl g
    parted (x ∷ ns) (suc i) m g =
        elim (parted ns i m g) [
          | inl o ↦ inl o
          | inr o ↦ inr (ap suc o.0, o.1)
        ]
