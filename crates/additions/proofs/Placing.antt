-- Members of a list, each at its place.
use Rattle.std.proofs.Common.{◌≡◌, inl, inr, ℕ, zero, suc, ◌+◌, ◌-◌, ◌<◌, Bool, true, false, List, [], ◌∷◌, length, map, Option, Some, None, refl, sym, ap, ◌∙◌, arith, subst, get_or}
use Rattle.std.specs.Prelude.{slice_get, All, not, IsTrue, MatchOption}
use Rattle.std.proofs.lemmas.Option.{slice_get_read}
use Rattle.std.proofs.lemmas.Bool.{cases_lt}
use Rattle.std.proofs.lemmas.List.{length-map}
use Rattle.asn_base.specs.declared.tag.Tag.{Tag}
use Rattle.trees.specs.declared.types.ListKind.{ListKind}
use Rattle.trees.specs.declared.types.ListKind.TheVariants.{Choice}
use Rattle.trees.specs.declared.types.Standing.{Standing}
use Rattle.trees.specs.declared.types.Standing.TheVariants.{Addition}
use Rattle.names.specs.proving.Distinct.{item_at}
use Rattle.type_table.specs.declared.table.ListMember.{ListMember}
use Rattle.type_table.specs.Seen.{part_of}
use Rattle.type_table.specs.Table.{Part, Type', IsLinked}
use Rattle.tagging.specs.declared.path.FormedTag.{FormedTag}
use Rattle.tagging.specs.declared.path.TagForm.{TagForm}
use Rattle.tagging.specs.Tags.{Label, Path, path_of, label, Tags}
use Rattle.tagging.specs.First.{CanBeFirst, outermost, is_added_member}
use Rattle.tagging.specs.Tagged.{IsTagged, HaveOneFirst}
use Rattle.additions.specs.Additions.{IsAdded, IsInGroup, IsTogether, IsPlaced, IsParted, IsMisplaced, after_addition, LabelBefore, IsInOrder, IsTagOutOfOrder, Keeps}
use Rattle.additions.specs.proving.Checks.{IsChecked, IsSeenBefore, FollowsAddition, ArePlacedBefore, AreTogetherBefore, KeepBefore}

some_one : {X : Type 0} {a b : X} → Some a ≡ Some b → a ≡ b
some_one h = cc

pub part_at : (cs : List ListMember) (i : ℕ) (c : ListMember) → i < length cs → c ≡ get_or cs i c →
    slice_get (map part_of cs) i ≡ Some (part_of c)
part_at cs i c l e = item_at part_of cs i c l e

pub parts_long : (cs : List ListMember) → length (map part_of cs) ≡ length cs
parts_long cs = length-map cs part_of

pub negated : (b : Bool) → not b ≡ false → b ≡ true
negated true e = refl
negated false e = absurd cc

pub not_negated : (b : Bool) → not b ≡ true → b ≡ false
not_negated true e = absurd cc
not_negated false e = refl

pub not_both : (b : Bool) → b ≡ true → b ≡ false → ⊥
not_both b e f = let x = sym e ∙ f in absurd cc

-- the member at a place is the one that lies there
pub same_part : (cs : List ListMember) (i : ℕ) (c : ListMember) (x : Part) → i < length cs → c ≡ get_or cs i c →
    slice_get (map part_of cs) i ≡ Some x → part_of c ≡ x
same_part cs i c x l e f = some_one (sym (part_at cs i c l e) ∙ f)

pub component_at : (cs : List ListMember) (i : ℕ) (c : ListMember) → i < length cs → c ≡ get_or cs i c →
    slice_get cs i ≡ Some c
component_at cs i c l e = slice_get_read cs (length cs) i c refl l e

pub some_of : {A : Type 0} (P : Type 0) (R : A → Type 0) (o : Option A) (a : A) → o ≡ Some a → MatchOption o P R → R a
some_of P R None a e h = absurd cc
some_of P R (Some b) a e h = let q : b ≡ a = cc in subst R q h

pub none_of : {A : Type 0} (P : Type 0) (R : A → Type 0) (o : Option A) → o ≡ None → MatchOption o P R → P
none_of P R None e h = h
none_of P R (Some a) e h = absurd cc

pub at_index : {X : Type 0} (f : X → ℕ) (xs : List X) (n : ℕ) (x : X) → n < length xs → x ≡ get_or xs n x →
    (y : X) × (slice_get xs n ≡ Some y) × (f y ≡ f (get_or xs n x))
at_index f xs n x l e = (x, slice_get_read xs (length xs) n x refl l e, ap f e)

-- there is one before each
there_before : (cs : List Part) (n : ℕ) (c : Part) → slice_get cs (suc n) ≡ Some c →
    (b : Part) × (slice_get cs n ≡ Some b)
there_before [] n c e = absurd cc
there_before (x ∷ xs) zero c e = (x, refl)
there_before (x ∷ xs) (suc n) c e = there_before xs n c e

pub is_there : (n : ℕ) (cs : List Part) (k : ℕ) (c : Part) → All (λ x. x.ty < n) cs → slice_get cs k ≡ Some c → c.ty < n
is_there n [] k c a e = absurd cc
is_there n (x ∷ cs) zero c a e = let s : x ≡ c = cc in subst (λ z. z.ty < n) s (a zero x (omega arith))
is_there n (x ∷ cs) (suc k) c a e = is_there n cs k c (λ m d l. a (suc m) d (omega arith)) e

-- ---- version brackets

pub unseen_more : (cs : List Part) (n g : ℕ) (c : Part) → slice_get cs n ≡ Some c → (IsInGroup g c → ⊥) →
    (IsSeenBefore cs n g → ⊥) → IsSeenBefore cs (n + 1) g → ⊥
unseen_more cs n g c e nay h s = elim (cases_lt s.place n) [
  | inl l ↦ h (record { place = s.place; before = l; member = s.member; there = s.there; of_group = s.of_group })
  | inr m ↦ (
      let b = s.before in
      let q : s.place ≡ n = omega (arith, m, b) in
      let f : s.member ≡ c = some_one (sym s.there ∙ ap (slice_get cs) q ∙ e) in
      nay (subst (IsInGroup g) f s.of_group)
      )
]

pub seen_here : (cs : List Part) (n k g : ℕ) (c : Part) → k < n → slice_get cs k ≡ Some c → IsInGroup g c →
    IsSeenBefore cs n g
seen_here cs n k g c l e h = record { place = k; before = l; member = c; there = e; of_group = h }

pub seen_none : (cs : List Part) (g : ℕ) → IsSeenBefore cs 0 g → ⊥
seen_none cs g s = let b = s.before in absurd (omega (arith, b))

pub together_none : (cs : List Part) (n : ℕ) (c : Part) → ((g : ℕ) → IsInGroup g c → ⊥) → IsTogether cs n c
together_none cs n c nay = λ l m g d e ll lm a b h i. absurd (nay g i)

pub together_first : (cs : List Part) (n : ℕ) (c : Part) → n ≡ 0 → IsTogether cs n c
together_first cs n c z = λ l m g d e ll lm a b h i. absurd (omega (arith, z, lm))

same_group : (g h : ℕ) (s : Standing) → s ≡ Addition (Some g) → s ≡ Addition (Some h) → g ≡ h
same_group g h s e f = cc

pub together_next : (cs : List Part) (n g : ℕ) (c b : Part) → slice_get cs (n - 1) ≡ Some b → IsInGroup g b →
    IsInGroup g c → IsTogether cs (n - 1) b → IsTogether cs n c
together_next cs n g c b e hb hc t = λ l m k d x ll lm a f h i.
    let s = same_group g k c.standing hc i in
    let kb : IsInGroup k b = subst (λ z. IsInGroup z b) s hb in
    elim (cases_lt m (n - 1)) [
      | inl q ↦ t l m k d x ll q a f h kb
      | inr q ↦ (
          let p : m ≡ n - 1 = omega (arith, q, lm) in
          let y : b ≡ x = some_one (sym e ∙ ap (slice_get cs) (sym p) ∙ f) in
          subst (IsInGroup k) y kb
          )
    ]

pub together_unseen : (cs : List Part) (n g : ℕ) (c : Part) → IsInGroup g c → (IsSeenBefore cs (n - 1) g → ⊥) →
    IsTogether cs n c
together_unseen cs n g c hc nay = λ l m k d x ll lm a f h i.
    let s = same_group k g c.standing i hc in
    absurd (nay (seen_here cs (n - 1) l g d (omega (arith, ll, lm)) a (subst (λ z. IsInGroup z d) s h)))

pub parted : (cs : List Part) (n g : ℕ) (c b : Part) → 0 < n → slice_get cs n ≡ Some c →
    slice_get cs (n - 1) ≡ Some b → IsInGroup g c → (IsInGroup g b → ⊥) → IsSeenBefore cs (n - 1) g → IsParted cs n
parted cs n g c b z e f h nay s = record {
  group = g;
  member = c;
  there = e;
  of_group = h;
  one = s.place;
  other = n - 1;
  in_turn = s.before;
  before = omega (arith, z);
  within = s.member;
  at_one = s.there;
  within_group = s.of_group;
  outside = b;
  at_other = f;
  left = nay;
}

pub together_same : (cs : List ListMember) (n g : ℕ) (c b : ListMember) → 0 < n → n < length cs → c ≡ get_or cs n c →
    b ≡ get_or cs (n - 1) b → IsInGroup g (part_of c) → IsInGroup g (part_of b) → AreTogetherBefore (map part_of cs) n →
    (x : Part) → slice_get (map part_of cs) n ≡ Some x → IsTogether (map part_of cs) n x
together_same cs n g c b z l ec eb hc hb t x f =
    let there = part_at cs (n - 1) b (omega (arith, z, l)) eb in
    let hx = subst (IsInGroup g) (same_part cs n c x l ec f) hc in
    together_next (map part_of cs) n g x (part_of b) there hb hx (t (n - 1) (part_of b) (omega (arith, z)) there)

-- ---- places

pub follows : (cs : List ListMember) (n : ℕ) (c : ListMember) (b : Bool) → 0 < n → n < length cs →
    c ≡ get_or cs (n - 1) c → b ≡ is_added_member (part_of c).standing →
    (IsTrue b → FollowsAddition (map part_of cs) n) × (FollowsAddition (map part_of cs) n → IsTrue b)
follows cs n c b z l e q =
    let there = part_at cs (n - 1) c (omega (arith, z, l)) e in (
      λ t. record { positive = z; member = part_of c; there = there; added = sym q ∙ t },
      λ f. q ∙ subst IsAdded (some_one (sym f.there ∙ there)) f.added,
    )

not_of_group : (g : ℕ) (s : Standing) → is_added_member s ≡ false → s ≡ Addition (Some g) → ⊥
not_of_group g s e f = let x = ap is_added_member f in absurd cc

-- if no addition is directly before n, no addition is before n at all
none_before : (marker : Bool) (cs : List Part) (n : ℕ) (c : Part) → slice_get cs n ≡ Some c →
    (FollowsAddition cs n → ⊥) → ArePlacedBefore marker cs n →
    (m : ℕ) (d : Part) → m < n → slice_get cs m ≡ Some d → IsAdded d → ⊥
none_before marker cs zero c e nay h m d l f a = omega (arith, l)
none_before marker cs (suc n) c e nay h m d l f a =
    let b = there_before cs n c e in
    let s : suc n - 1 ≡ n = omega arith in
    elim (cases_lt m n) [
      | inl q ↦ nay (record { positive = omega arith; member = b.0; there = ap (slice_get cs) s ∙ b.1; added = (h n b.0 (omega arith) b.1).following m d q f a })
      | inr q ↦ (
          let p : m ≡ n = omega (arith, q, l) in
          nay (record { positive = omega arith; member = d; there = ap (slice_get cs) (s ∙ sym p) ∙ f; added = a })
          )
    ]

pub placed_root : (marker : Bool) (cs : List Part) (n : ℕ) (c : Part) → slice_get cs n ≡ Some c →
    is_added_member c.standing ≡ false → (FollowsAddition cs n → ⊥) → ArePlacedBefore marker cs n → IsPlaced marker cs n c
placed_root marker cs n c e r nay h = record {
  marked = λ a. absurd cc;
  following = λ m d l f a. absurd (none_before marker cs n c e nay h m d l f a);
  together = λ l m g d x ll lm a f i j. absurd (not_of_group g c.standing r j);
}

pub placed_added : (marker : Bool) (cs : List Part) (n : ℕ) (c : Part) → marker ≡ true → IsAdded c →
    IsTogether cs n c → IsPlaced marker cs n c
placed_added marker cs n c m a t = record { marked = λ x. m; following = λ k d l f x. a; together = t }

pub misplaced_root : (marker : Bool) (cs : List Part) (n : ℕ) (c : Part) → slice_get cs n ≡ Some c →
    is_added_member c.standing ≡ false → FollowsAddition cs n → IsMisplaced marker cs n
misplaced_root marker cs n c e r f =
    let p = f.positive in
    after_addition (n - 1) c f.member e (omega (arith, p)) f.there f.added (λ a. absurd cc)

pub are_placed : (ts : List Type') (k : ListKind) (marker : Bool) (cs : List Part) (n : ℕ) →
    KeepBefore ts k marker cs n → ArePlacedBefore marker cs n
are_placed ts k marker cs n h = λ m d l e. (h m d l e).placed

pub are_together : (marker : Bool) (cs : List Part) (n : ℕ) → ArePlacedBefore marker cs n → AreTogetherBefore cs n
are_together marker cs n h = λ m d l e. (h m d l e).together

-- ---- tags

pub outermost_first : (xs : List FormedTag) (x : FormedTag) → Some x ≡ slice_get xs 0 →
    (f : TagForm) × (p : Path) × (path_of xs ≡ (label x.tag, f) ∷ p)
outermost_first [] x e = absurd cc
outermost_first (y ∷ ys) x e =
    let s : x ≡ y = some_one e in
    (y.form, path_of ys, ap (λ (z : FormedTag). (label z.tag, y.form) ∷ path_of ys) (sym s))

pub first_at : (ts : List Type') (i : ℕ) (xs ys : List FormedTag) (t : Tag) → Tags ts i (path_of xs) → ys ≡ xs →
    ((f : TagForm) × (p : Path) × (path_of ys ≡ (label t, f) ∷ p)) → CanBeFirst ts i (label t)
first_at ts i xs ys t g e h = outermost (subst (Tags ts i) h.2 (subst (λ z. Tags ts i (path_of z)) (sym e) g))

before_both : (a b c : Label) → LabelBefore a b → LabelBefore b c → LabelBefore a c
before_both a b c (inl p) (inl q) = inl (omega (arith, p, q))
before_both a b c (inl p) (inr q) = let e = q.0 in inl (omega (arith, p, e))
before_both a b c (inr p) (inl q) = let e = p.0 in inl (omega (arith, e, q))
before_both a b c (inr p) (inr q) = let u = p.1 in let v = q.1 in inr (p.0 ∙ q.0, omega (arith, u, v))

-- the members of a CHOICE are types of the table, none an untagged CHOICE, each with one first tag
pub alternative_there : (ts : List Type') (cs : List Part) (n k : ℕ) (c : Part) → IsLinked ts → IsChecked ts Choice cs n →
    slice_get cs k ≡ Some c → c.ty < length ts
alternative_there ts cs n k c l h e =
    is_there (length ts) cs k c (l.parts h.list Choice h.marker cs h.is.default h.is.place h.is.is) e

pub alternative_tagged : (ts : List Type') (cs : List Part) (n k : ℕ) (c : Part) → IsTagged ts → IsChecked ts Choice cs n →
    slice_get cs k ≡ Some c → Tags ts c.ty [] → ⊥
alternative_tagged ts cs n k c t h e g = t.bear h.list Choice h.marker cs h.is.default h.is.place h.is.is k c e g

one_tag : (ts : List Type') (cs : List Part) (n k : ℕ) (c : Part) (g f : Label) → HaveOneFirst ts →
    IsChecked ts Choice cs n → slice_get cs k ≡ Some c → CanBeFirst ts c.ty g → CanBeFirst ts c.ty f → g ≡ f
one_tag ts cs n k c g f o h e a b =
    let one = o h.list Choice h.marker cs h.is.default h.is.place k c h.is.is (inl refl) e in
    one.only g a ∙ sym (one.only f b)

pub in_order_root : (ts : List Type') (cs : List Part) (n : ℕ) (c : Part) → is_added_member c.standing ≡ false →
    IsInOrder ts cs n c
in_order_root ts cs n c r = λ m d g f l e a b x y. absurd cc

pub in_order_first : (ts : List Type') (cs : List Part) (n : ℕ) (c : Part) → IsChecked ts Choice cs n →
    slice_get cs n ≡ Some c → (FollowsAddition cs n → ⊥) → IsInOrder ts cs n c
in_order_first ts cs n c h e nay = λ m d g f l s a b x y.
    absurd (none_before h.marker cs n c e nay (are_placed ts Choice h.marker cs n h.keep) m d l s a)

pub in_order_next : (ts : List Type') (cs : List Part) (n : ℕ) (c b : Part) (t u : Label) → HaveOneFirst ts →
    IsChecked ts Choice cs n → slice_get cs n ≡ Some c → (n ≡ 0 → ⊥) → slice_get cs (n - 1) ≡ Some b → IsAdded b →
    CanBeFirst ts b.ty t → CanBeFirst ts c.ty u → LabelBefore t u → IsInOrder ts cs n c
in_order_next ts cs n c b t u o h e z eb ab ft fu before = λ m d g f l s a x p q.
    let w = one_tag ts cs n n c u f o h e fu q in
    elim (cases_lt m (n - 1)) [
      | inl k ↦ (
          let r = (h.keep (n - 1) b (pred n z) eb).ordered refl m d g t k s a ab p ft in
          subst (LabelBefore g) w (before_both g t u r before)
          )
      | inr k ↦ (
          let i : m ≡ n - 1 = omega (arith, k, l) in
          let y : b ≡ d = some_one (sym eb ∙ ap (slice_get cs) (sym i) ∙ s) in
          let v = one_tag ts cs n (n - 1) b g t o h eb (subst (λ j. CanBeFirst ts j.ty g) (sym y) p) ft in
          subst (LabelBefore g) w (subst (λ j. LabelBefore j u) (sym v) before)
          )
    ]
  where
    pred : (n : ℕ) → (n ≡ 0 → ⊥) → n - 1 < n
    pred zero z = absurd (z refl)
    pred (suc n) z = omega arith

pub out_of_order : (ts : List Type') (cs : List Part) (n : ℕ) (c : Part) (t u : Label) → slice_get cs n ≡ Some c →
    IsAdded c → (s : FollowsAddition cs n) → CanBeFirst ts s.member.ty t → CanBeFirst ts c.ty u →
    (LabelBefore t u → ⊥) → IsTagOutOfOrder ts cs n
out_of_order ts cs n c t u e a s ft fu nay = let p = s.positive in record {
  member = c;
  there = e;
  added = a;
  place = n - 1;
  before = omega (arith, p);
  earlier = s.member;
  is_so = s.there;
  earlier_added = s.added;
  first = t;
  of_earlier = ft;
  second = u;
  of_member = fu;
  not_before = nay;
}

pub keep_more : (ts : List Type') (k : ListKind) (marker : Bool) (cs : List Part) (n : ℕ) → KeepBefore ts k marker cs n →
    ((c : Part) → slice_get cs n ≡ Some c → Keeps ts k marker cs n c) → KeepBefore ts k marker cs (n + 1)
keep_more ts k marker cs n h f = λ m d l e. elim (cases_lt m n) [
  | inl q ↦ h m d q e
  | inr q ↦ (
      let p : n ≡ m = omega (arith, q, l) in
      subst (λ j. Keeps ts k marker cs j d) p (f d (ap (slice_get cs) p ∙ e))
      )
]
