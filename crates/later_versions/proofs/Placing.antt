-- Bits in a list, by their places in the string.
use Rattle.std.proofs.Common.{arith, inl, inr, ◌≡◌, ℕ, zero, suc, ◌+◌, ◌<◌, ◌≤◌, List, [], ◌∷◌, length, map, refl, sym, ap, subst, ◌∙◌, Bool, true, false, cond}
use Rattle.std.specs.Prelude.{slice_get, ◌⊎◌, ◌↔◌, Some, None, Option, IsSome}
use Rattle.std.specs.BTreeMap.{BTreeMap, get, is_at}
use Rattle.std.specs.Ordering.{is_eq, nat_cmp, MatchOrdering}
use Rattle.std.specs.declared.cmp.Ordering.{Ordering}
use Rattle.std.specs.declared.cmp.Ordering.TheVariants.{Less, Equal, Greater}
use Rattle.std.proofs.lemmas.Bool.{cases_lt}
use Rattle.std.proofs.lemmas.Cmp.{ranked, tied_itself, nat_cmp_total}
use Rattle.std.proofs.lemmas.Option.{slice_get_within, same_Some}
use Rattle.asn_base.specs.Names.{AreDistinct, IsMember, is_first, is_later}
use Rattle.asn_base.specs.Types.{NamedBit}
use Rattle.later_versions.specs.Later.{NameSame}
use Rattle.later_versions.specs.proving.Placed.{ArePlaced}
use Rattle.asn_base.specs.proving.Orderings.{nat_exact, nat_itself}

-- the first n of the bits
pub record PlacedTo (bs : List NamedBit) (m : BTreeMap ℕ ℕ) (n : ℕ) : Type 0 where
  pub leads : (p k : ℕ) → get nat_cmp m p ≡ Some k → (b : NamedBit) × (slice_get bs k ≡ Some b) × (b.place ≡ p)
  pub all : (k : ℕ) (b : NamedBit) → k < n → slice_get bs k ≡ Some b → IsSome (get nat_cmp m b.place)

split_cond : (p q i k : ℕ) (t : Bool) (o : Option ℕ)
    → is_eq (nat_cmp p q) ≡ t
    → cond t (Some i) o ≡ Some k
    → ((p ≡ q) × (i ≡ k)) ⊎ (o ≡ Some k)
split_cond p q i k true o e f = inl (nat_exact p q e, same_Some i k f)
split_cond p q i k false o e f = inr f

still_some : (t : Bool) (i : ℕ) (o : Option ℕ) → IsSome o → IsSome (cond t (Some i) o)
still_some true i o h = refl
still_some false i o h = h

some_now : (p i : ℕ) (o : Option ℕ) → IsSome (cond (is_eq (nat_cmp p p)) (Some i) o)
some_now p i o = subst (λ t. IsSome (cond t (Some i) o)) (sym (nat_itself p)) refl

pub placed_next : (bs : List NamedBit) (m n : BTreeMap ℕ ℕ) (i : ℕ) (b : NamedBit)
    → slice_get bs i ≡ Some b
    → ((q : ℕ) → get nat_cmp n q ≡ cond (is_at (nat_cmp b.place) q) (Some i) (get nat_cmp m q))
    → PlacedTo bs m i
    → PlacedTo bs n (i + 1)
placed_next bs m n i b e f so = record {
  leads = λ p k g. elim (split_cond b.place p i k (is_eq (nat_cmp b.place p)) (get nat_cmp m p) refl (sym (f p) ∙ g)) [
    | inl h ↦ (b, subst (λ j. slice_get bs j ≡ Some b) h.1 e, h.0)
    | inr h ↦ so.leads p k h
  ];
  all = λ k x l g. subst IsSome (sym (f x.place)) (elim (cases_lt k i) [
    | inl h ↦ still_some (is_eq (nat_cmp b.place x.place)) i (get nat_cmp m x.place) (so.all k x h g)
    | inr h ↦ (
        let s : k ≡ i = omega (arith, h, l) in
        let t : b ≡ x = same_Some b x (sym e ∙ ap (slice_get bs) (sym s) ∙ g) in
        subst (λ y. IsSome (cond (is_eq (nat_cmp b.place y.place)) (Some i) (get nat_cmp m y.place))) t (some_now b.place i (get nat_cmp m b.place))
        )
  ]);
}

pub placed_all : (bs : List NamedBit) (m : BTreeMap ℕ ℕ) (i : ℕ) → length bs ≤ i → PlacedTo bs m i → ArePlaced bs m
placed_all bs m i l so = record {
  leads = so.leads;
  all = λ k b e. so.all k b (let w = slice_get_within bs k b e in omega (arith, w, l)) e;
}

-- ---- whether a bit is one of them

place_of : {A : Type 0} {x : A} {xs : List A} → IsMember x xs → (i : ℕ) × (slice_get xs i ≡ Some x)
place_of is_first = (0, refl)
place_of (is_later h) = let m = place_of h in (suc m.0, m.1)

pub at_place : {A : Type 0} (xs : List A) (i : ℕ) (x : A) → slice_get xs i ≡ Some x → IsMember x xs
at_place [] i x e = absurd cc
at_place (y ∷ xs) zero x e = let h : y ≡ x = cc in subst (λ z. IsMember x (z ∷ xs)) (sym h) is_first
at_place (y ∷ xs) (suc i) x e = is_later (at_place xs i x e)

mapped_member : {A B : Type 0} (f : A → B) {x : A} {xs : List A} → IsMember x xs → IsMember (f x) (map f xs)
mapped_member f is_first = is_first
mapped_member f (is_later h) = is_later (mapped_member f h)

-- bits at one place are one
one_place : {x y : NamedBit} {bs : List NamedBit}
    → AreDistinct (map (λ b. b.place) bs)
    → IsMember x bs
    → IsMember y bs
    → x.place ≡ y.place
    → x ≡ y
one_place d is_first is_first e = refl
one_place {bs = z ∷ bs} d is_first (is_later h) e =
    absurd (d.0 (subst (λ p. IsMember p (map (λ b. b.place) bs)) (sym e) (mapped_member (λ b. b.place) h)))
one_place {bs = z ∷ bs} d (is_later h) is_first e =
    absurd (d.0 (subst (λ p. IsMember p (map (λ b. b.place) bs)) e (mapped_member (λ b. b.place) h)))
one_place d (is_later g) (is_later h) e = one_place d.1 g h e

-- the map leads to this bit exactly if this bit is among them
pub same_bit : (bs : List NamedBit) (m : BTreeMap ℕ ℕ) (k : ℕ) (b x : NamedBit)
    → ArePlaced bs m
    → AreDistinct (map (λ b. b.place) bs)
    → get nat_cmp m x.place ≡ Some k
    → slice_get bs k ≡ Some b
    → (b.name ≡ x.name) ↔ IsMember x bs
same_bit bs m k b x a d e f =
    let l = a.leads x.place k e in
    let s : b ≡ l.0 = same_Some b l.0 (sym f ∙ l.1) in
    let p : b.place ≡ x.place = ap (λ c. c.place) s ∙ l.2 in
    let h = at_place bs k b f in (
      λ n. subst (λ c. IsMember c bs) (same_parts b x n p) h,
      λ i. ap (λ c. c.name) (one_place d h i p),
    )
  where
    same_parts : (b x : NamedBit) → b.name ≡ x.name → b.place ≡ x.place → b ≡ x
    same_parts b x n p = ap (λ q. record { name = q; place = b.place }) n ∙ ap (λ q. record { name = x.name; place = q }) p

pub no_bit : (bs : List NamedBit) (m : BTreeMap ℕ ℕ) (x : NamedBit)
    → ArePlaced bs m
    → get nat_cmp m x.place ≡ None
    → IsMember x bs
    → ⊥
no_bit bs m x a e h =
    let p = place_of h in
    let s = a.all p.0 x p.1 in
    absurd (none_some (get nat_cmp m x.place) e s)
  where
    none_some : (o : Option ℕ) → o ≡ None → IsSome o → ⊥
    none_some None e s = absurd cc
    none_some (Some k) e s = absurd cc

pub no_place : (bs : List NamedBit) (m : BTreeMap ℕ ℕ) (k : ℕ) (x : NamedBit)
    → ArePlaced bs m
    → get nat_cmp m x.place ≡ Some k
    → slice_get bs k ≡ None
    → ⊥
no_place bs m k x a e f = let l = a.leads x.place k e in absurd (let g = sym f ∙ l.1 in cc)

-- ---- one bit after the other

abbrev pub HasTo : List NamedBit → List NamedBit → ℕ → Type 0
HasTo bs cs n = (i : ℕ) (x : NamedBit) → i < n → slice_get cs i ≡ Some x → IsMember x bs

pub has_next : (bs cs : List NamedBit) (i : ℕ) (x : NamedBit)
    → slice_get cs i ≡ Some x
    → IsMember x bs
    → HasTo bs cs i
    → HasTo bs cs (i + 1)
has_next bs cs i x e m so = λ j y l g. elim (cases_lt j i) [
  | inl h ↦ so j y h g
  | inr h ↦ (
      let s : i ≡ j = omega (arith, h, l) in
      subst (λ z. IsMember z bs) (same_Some x y (sym e ∙ ap (slice_get cs) s ∙ g)) m
      )
]

pub has_all : (bs cs : List NamedBit) (i : ℕ)
    → length cs ≤ i
    → HasTo bs cs i
    → (x : NamedBit)
    → IsMember x cs
    → IsMember x bs
has_all bs cs i l so x h =
    let p = place_of h in
    so p.0 x (let w = slice_get_within cs p.0 x p.1 in omega (arith, w, l)) p.1

-- lists of the same bits in the same order name the same
pub named_alike : (bs cs : List NamedBit) → bs ≡ cs → NameSame bs cs
named_alike bs cs e = λ b. (λ m. subst (IsMember b) e m, λ m. subst (IsMember b) (sym e) m)
