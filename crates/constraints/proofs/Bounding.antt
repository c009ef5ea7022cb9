-- What is answered of types for which limits are noted.
use Rattle.std.proofs.Common.{◌≡◌, ◌⊎◌, ◌↔◌, inl, inr, ℕ, zero, suc, ◌<◌, ◌≤◌, ℤ, List, [], ◌∷◌, Option, Some, None, Bool, true, false, length, refl, sym, ap, ◌∙◌, subst, arith, option_map}
use Rattle.std.specs.Prelude.{IsSomeAnd, MatchOption, slice_get}
use Rattle.std.proofs.lemmas.Option.{same_Some, slice_get_within, slice_get_past}
use Rattle.std.specs.Borrow.{Bor}
use Rattle.asn_base.specs.Names.{IsMember, is_first, is_later}
use Rattle.asn_base.specs.Schemas.{IsNumber, IsSize, IsLeast, IsGreatest, AreBounds, CodesAscend, is_character}
use Rattle.std.specs.Prelude.{IsTrue}
use Rattle.std.specs.List.{AllByRecursion}
use Rattle.asn_base.specs.declared.strings.StringKind.{StringKind}
use Rattle.asn_base.specs.Types.{Bounds, Range, Constraint}
use Rattle.asn_base.specs.Typed.{IsInSome, IsAllowed as Allows}
use Rattle.trees.specs.Types.{a_restricted_string}
use Rattle.type_table.specs.Walks.{onward, follow}
use Rattle.type_table.specs.Table.{Type', WrittenKind, simple, walk, next, target_of}
use Rattle.resolve.specs.Program.{Program}
use Rattle.range_ends.specs.Ends.{IsTypeOfKind}
use Rattle.constraints.specs.Constraints.{has_alphabet, has_size}
use Rattle.constraints.specs.Allowed.{IsCounted, IsInRoot, IsNumberAllowed, AreVisible, AreCharacters, IsConstraintOf, AreCodesOf, LeaveTheSame, HaveOneAlphabet}
use Rattle.constraints.specs.Bounded.{AreBounded, HasCharacters}
use Rattle.constraints.specs.declared.limit.Limit.{Limit}
use Rattle.constraints.specs.proving.Columns.{AreAllowed, IsLeft, IsLimitOf, AreAllNoted, limit_noted, number_in, number_noted}
use Rattle.asn_base.specs.declared.constraint.Bounds.{Bounds as Bounds'}
use Rattle.asn_base.specs.Seen.{bounds_of, constraint_of}
use Rattle.constraints.proofs.Noting.{noted_is}
use Rattle.ranges.specs.Numbers.{AreSizes, HasRoot}
use Rattle.constraints.proofs.Senses.{counted_number, counted_size}
use Rattle.constraints.proofs.Trails.{kind_once}

pub le_or : (a b : ℕ) → (a < b) ⊎ (b ≤ a)
le_or a zero = inr (omega arith)
le_or zero (suc b) = inl (omega arith)
le_or (suc a) (suc b) =
    elim (le_or a b) [
      | inl h ↦ inl (omega (arith, h))
      | inr h ↦ inr (omega (arith, h))
    ]

pub there_by : (ts : List Type') (i c s : ℕ) → walk ts s i ≡ Some c → c < length ts → (i < length ts) ⊎ (length ts ≤ i) → i < length ts
there_by ts i c s e l (inl h) = h
there_by ts i c zero e l (inr h) = let q : i ≡ c = cc in omega (arith, q, l)
there_by ts i c (suc s) e l (inr h) =
    let f : next ts i ≡ None = ap target_of (slice_get_past ts i h) in
    let g : None ≡ Some c = sym (ap (λ o. onward o (λ j. follow (next ts) s j)) f) ∙ e in
    absurd cc

-- what has a kind is there
kind_there : (ts : List Type') (i : ℕ) (k : WrittenKind) → IsTypeOfKind ts i k → i < length ts
kind_there ts i k u =
    there_by ts i u.core u.chain.steps u.chain.chain (slice_get_within ts u.core u.type u.there) (le_or i (length ts))

some_member : (cs : List ℕ) → 0 < length cs → (c : ℕ) × IsMember c cs
some_member [] l = absurd (omega (arith, l))
some_member (c ∷ cs) l = (c, is_first)

pub characters_by : (p : Program) (k : WrittenKind) (i : ℕ) (l : Limit) → IsLeft p k i l → HasCharacters p k i
characters_by p (simple (a_restricted_string s)) i l f =
    let m = some_member l.codes (f.some.codes refl) in
    (m.0, (f.codes m.0).0 m.1)
characters_by p k i l f = tt

pub limit_there : (p : Program) (at : List (Option ℕ)) (limits : List Limit) (i : ℕ) →
    AreAllNoted p at limits →
    i < length p.types →
    (l : Limit) × (limit_noted at limits i ≡ Some l) × IsLimitOf p i l
limit_there p at limits i a l = noted_is p at limits i a.noted (a.all i l)

pub bounded_by : (p : Program) (at : List (Option ℕ)) (limits : List Limit) → AreAllNoted p at limits → AreBounded p
bounded_by p at limits a = record {
  fitting = λ i n k M c w. (limit_there p at limits i a (slice_get_within p.types i w.type w.there)).2.good.fitting 0 i n k M c refl w;
  last = λ i r. (limit_there p at limits i a (slice_get_within p.types i r.listed.type r.listed.there)).2.good.last 0 i refl r;
  numbers = λ i k u. (
      let f = (limit_there p at limits i a (kind_there p.types i k u)).2.left k u in
      (f.some.number.0, (f.numbers f.some.number.0).0 f.some.number.1));
  characters = λ i k u. (
      let m = limit_there p at limits i a (kind_there p.types i k u) in
      characters_by p k i m.0 (m.2.left k u));
}

-- ---- types with one limit

number_there : (o : Option (Option ℕ)) (a : ℕ) → number_in o ≡ Some a → o ≡ Some (Some a)
number_there None a e = absurd cc
number_there (Some None) a e = absurd cc
number_there (Some (Some b)) a e = ap Some e

one_alphabet : (p : Program) (k : WrittenKind) (i j : ℕ) (l : Limit) → IsLeft p k i l → IsLeft p k j l → HaveOneAlphabet p k i j
one_alphabet p (simple (a_restricted_string s)) i j l f g =
    λ c. (λ h. (g.codes c).0 ((f.codes c).1 h), λ h. (f.codes c).0 ((g.codes c).1 h))
one_alphabet p k i j l f g = tt

leave_by : (p : Program) (k : WrittenKind) (i j : ℕ) (l : Limit) → IsLeft p k i l → IsLeft p k j l →
    LeaveTheSame p k i j
leave_by p k i j l f g = record {
  root = λ z. (λ h. (g.numbers z).0 ((f.numbers z).1 h), λ h. (f.numbers z).0 ((g.numbers z).1 h));
  extensible = (λ h. g.extensible.0 (f.extensible.1 h), λ h. f.extensible.0 (g.extensible.1 h));
  alphabet = one_alphabet p k i j l f g;
}

pub one_limit : (p : Program) (at : List (Option ℕ)) (limits : List Limit) (i j a b : ℕ) →
    AreAllNoted p at limits →
    number_noted at i ≡ Some a →
    number_noted at j ≡ Some b →
    a ≡ b →
    (k : WrittenKind) →
    IsTypeOfKind p.types i k →
    IsTypeOfKind p.types j k →
    LeaveTheSame p k i j
one_limit p at limits i j a b n e f q k u v =
    let x = n.noted.each i a (number_there (slice_get at i) a e) in
    let y = n.noted.each j a (number_there (slice_get at j) a (f ∙ ap Some (sym q))) in
    let same : y.0 ≡ x.0 = same_Some y.0 x.0 (sym y.1 ∙ x.1) in
    leave_by p k i j x.0 (x.2.left k u) (subst (λ (l : Limit). IsLeft p k j l) same (y.2.left k v))

-- ---- what is seen

same_least : (P Q : ℤ → Type 0) (o : Option ℤ) → ((z : ℤ) → (P z ↔ Q z)) → IsLeast P o → IsLeast Q o
same_least P Q None s l = λ m h. l m (λ z i. h z ((s z).0 i))
same_least P Q (Some z) s l = ((s z).0 l.0, λ y i. l.1 y ((s y).1 i))

same_greatest : (P Q : ℤ → Type 0) (o : Option ℤ) → ((z : ℤ) → (P z ↔ Q z)) → IsGreatest P o → IsGreatest Q o
same_greatest P Q None s l = λ m h. l m (λ z i. h z ((s z).0 i))
same_greatest P Q (Some z) s l = ((s z).0 l.0, λ y i. l.1 y ((s y).1 i))

pub visible_is : (p : Program) (k : WrittenKind) (i : ℕ) (l : Limit) (b : Bounds) →
    IsLeft p k i l →
    IsLeast (λ z. IsInSome z l.numbers) b.least →
    IsGreatest (λ z. IsInSome z l.numbers) b.greatest →
    b.extensible ≡ l.extensible →
    AreVisible p k i b
visible_is p k i l b f least greatest e = record {
  least = same_least (λ z. IsInSome z l.numbers) (IsInRoot p k i) b.least f.numbers least;
  greatest = same_greatest (λ z. IsInSome z l.numbers) (IsInRoot p k i) b.greatest f.numbers greatest;
  extensible = (λ h. f.extensible.0 (sym e ∙ h), λ h. e ∙ f.extensible.1 h);
}

pub characters_are : (p : Program) (k : WrittenKind) (i : ℕ) (l : Limit) →
    has_alphabet k ≡ true →
    IsLeft p k i l →
    AreCharacters p k i l.codes
characters_are p (simple (a_restricted_string s)) i l h f = f.codes
characters_are p k i l h f = absurd cc

-- ---- what is allowed

pub allowed_by : (p : Program) (k : WrittenKind) (i : ℕ) (l : Limit) (z : ℤ) →
    IsLeft p k i l →
    IsInSome z l.numbers ⊎ ((l.extensible ≡ true) × IsCounted k z) →
    IsNumberAllowed p k i z
allowed_by p k i l z f (inl m) = inl ((f.numbers z).0 m)
allowed_by p k i l z f (inr m) = inr (m.1, f.extensible.0 m.0)

pub allowed_back : (p : Program) (k : WrittenKind) (i : ℕ) (l : Limit) (z : ℤ) →
    IsLeft p k i l →
    IsNumberAllowed p k i z →
    IsInSome z l.numbers ⊎ ((l.extensible ≡ true) × IsCounted k z)
allowed_back p k i l z f (inl m) = inl ((f.numbers z).1 m)
allowed_back p k i l z f (inr m) = inr (f.extensible.1 m.1, m.0)

pub limit_some : (p : Program) (at : List (Option ℕ)) (limits : List Limit) (i : ℕ) (r : Option (Bor Limit)) →
    AreAllNoted p at limits →
    i < length p.types →
    option_map (λ l. l.now) r ≡ limit_noted at limits i →
    IsSomeAnd r (λ l. (k : WrittenKind) → IsTypeOfKind p.types i k → IsLeft p k i l.now)
limit_some p at limits i None a l e =
    let n = limit_there p at limits i a l in
    let q : None ≡ Some n.0 = e ∙ n.1 in
    absurd cc
limit_some p at limits i (Some r) a l e =
    let n = limit_there p at limits i a l in
    let q : Some r.now ≡ Some n.0 = e ∙ n.1 in
    let s : r.now ≡ n.0 = cc in
    λ k u. subst (IsLeft p k i) (sym s) (n.2.left k u)

-- ---- answers for the kind that is found

pub has_not : (ts : List Type') (i : ℕ) (f : WrittenKind → Bool) (h : WrittenKind) →
    IsTypeOfKind ts i h →
    f h ≡ false →
    (k : WrittenKind) → IsTypeOfKind ts i k → f k ≡ false
has_not ts i f h u e k v = subst (λ j. f j ≡ false) (kind_once ts i h k u v) e

pub has_it : (ts : List Type') (i : ℕ) (f : WrittenKind → Bool) (h : WrittenKind) →
    IsTypeOfKind ts i h →
    f h ≡ true →
    (k : WrittenKind) → IsTypeOfKind ts i k → f k ≡ true
has_it ts i f h u e k v = subst (λ j. f j ≡ true) (kind_once ts i h k u v) e

pub seen_is : (p : Program) (i : ℕ) (f : WrittenKind → Bool) (h : WrittenKind) (r : Option Bounds') →
    IsTypeOfKind p.types i h →
    f h ≡ true →
    IsSomeAnd r (λ b. (k : WrittenKind) → IsTypeOfKind p.types i k → AreVisible p k i (bounds_of b)) →
    (k : WrittenKind) → IsTypeOfKind p.types i k → MatchOption r (f k ≡ false) (λ b. (f k ≡ true) × AreVisible p k i
    (bounds_of b))
seen_is p i f h None u e s k v = absurd s
seen_is p i f h (Some b) u e s k v = (has_it p.types i f h u e k v, s k v)

pub left_allows : (p : Program) (i : ℕ) (h : WrittenKind) (l : Limit) (z : ℤ) (A : Type 0) →
    IsTypeOfKind p.types i h →
    ((k : WrittenKind) → IsTypeOfKind p.types i k → IsLeft p k i l) →
    (A ↔ (IsInSome z l.numbers ⊎ ((l.extensible ≡ true) × IsCounted h z))) →
    (k : WrittenKind) → IsTypeOfKind p.types i k → (A ↔ IsNumberAllowed p k i z)
left_allows p i h l z A u f a k v =
    subst (λ j. A ↔ IsNumberAllowed p j i z) (kind_once p.types i h k u v)
    (λ x. allowed_by p h i l z (f h u) (a.0 x), λ x. a.1 (allowed_back p h i l z (f h u) x))

-- ---- what a resolved type keeps

left_sizes : (p : Program) (k : WrittenKind) (i : ℕ) (l : Limit) → has_size k ≡ true → IsLeft p k i l →
    AreSizes l.numbers
left_sizes p k i l h f = λ z m. (counted_size k z h).0 ((f.numbers z).0 m).counted

-- ranges that have all numbers for which P holds are a root of all of them
all_bounds : (P : ℤ → Type 0) (l : Limit) (b : Bounds') →
    ((z : ℤ) → (IsInSome z l.numbers ↔ P z)) →
    IsLeast (λ z. IsInSome z l.numbers) b.least →
    IsGreatest (λ z. IsInSome z l.numbers) b.greatest →
    b.extensible ≡ false →
    AreBounds P (constraint_of (record { allowed = None; visible = b }))
all_bounds P l b s least greatest e = record {
  root = None;
  least = same_least (λ z. IsInSome z l.numbers) (λ z. P z × Unit {0}) b.least (both s) least;
  greatest = same_greatest (λ z. IsInSome z l.numbers) (λ z. P z × Unit {0}) b.greatest (both s) greatest;
  not_extensible = λ h. refl;
  extensible = λ h. let q : false ≡ true = sym e ∙ h in absurd cc;
}
  where
    both : ((z : ℤ) → (IsInSome z l.numbers ↔ P z)) → (z : ℤ) → (IsInSome z l.numbers ↔ (P z × Unit {0}))
    both s z = (λ m. ((s z).0 m, tt), λ h. (s z).1 h.0)

limited_is : (p : Program) (k : WrittenKind) (i : ℕ) (l : Limit) (o : Option (List Range)) (b : Bounds') →
    ((c : Constraint) (rs : List Range) →
    HasRoot c rs →
    IsLeast (λ z. IsInSome z rs) c.visible.least →
    IsGreatest (λ z. IsInSome z rs) c.visible.greatest →
    AreBounds IsNumber c) →
    ((c : Constraint) (rs : List Range) →
    HasRoot c rs →
    AreSizes rs →
    IsLeast (λ z. IsInSome z rs) c.visible.least →
    IsGreatest (λ z. IsInSome z rs) c.visible.greatest →
    AreBounds IsSize c) →
    IsLeft p k i l →
    HasRoot (constraint_of (record { allowed = o; visible = b })) l.numbers →
    ((z : ℤ) → IsCounted k z →
    (Allows (constraint_of (record { allowed = o; visible = b })) z ↔ IsNumberAllowed p k i z)) →
    IsLeast (λ z. IsInSome z l.numbers) b.least →
    IsGreatest (λ z. IsInSome z l.numbers) b.greatest →
    b.extensible ≡ l.extensible →
    IsConstraintOf p k i (constraint_of (record { allowed = o; visible = b }))
limited_is p k i l o b numbers sizes f r g least greatest e = record {
  numbers = λ h. numbers (constraint_of (record { allowed = o; visible = b })) l.numbers r least greatest;
  sizes = λ h. sizes (constraint_of (record { allowed = o; visible = b })) l.numbers r (left_sizes p k i l h f)
      least greatest;
  allowed = g;
  visible = visible_is p k i l (bounds_of b) f least greatest e;
}

pub constraint_is : (p : Program) (k : WrittenKind) (i : ℕ) (l : Limit) (o : Option (List Range)) (b : Bounds') →
    ((c : Constraint) (rs : List Range) →
    HasRoot c rs →
    IsLeast (λ z. IsInSome z rs) c.visible.least →
    IsGreatest (λ z. IsInSome z rs) c.visible.greatest →
    AreBounds IsNumber c) →
    ((c : Constraint) (rs : List Range) →
    HasRoot c rs →
    AreSizes rs →
    IsLeast (λ z. IsInSome z rs) c.visible.least →
    IsGreatest (λ z. IsInSome z rs) c.visible.greatest →
    AreBounds IsSize c) →
    IsLeft p k i l →
    AreAllowed k l o →
    IsLeast (λ z. IsInSome z l.numbers) b.least →
    IsGreatest (λ z. IsInSome z l.numbers) b.greatest →
    b.extensible ≡ l.extensible →
    IsConstraintOf p k i (constraint_of (record { allowed = o; visible = b }))
constraint_is p k i l None b numbers sizes f (inl a) least greatest e =
    limited_is p k i l None b numbers sizes f (inr (e ∙ a, refl))
    (λ z c. (λ x. inr (c, f.extensible.0 a), λ x. tt)) least greatest e
constraint_is p k i l None b numbers sizes f (inr a) least greatest e = record {
  numbers = λ h. all_bounds IsNumber l b (λ z. (λ m. tt, λ n. a.1 z (counted_number k z h))) least greatest
      (e ∙ a.0);
  sizes = λ h. all_bounds IsSize l b (λ z. (left_sizes p k i l h f z, λ n. a.1 z ((counted_size k z h).1 n)))
      least greatest (e ∙ a.0);
  allowed = λ z c. (λ x. inl ((f.numbers z).0 (a.1 z c)), λ x. tt);
  visible = visible_is p k i l (bounds_of b) f least greatest e;
}
constraint_is p k i l (Some v) b numbers sizes f a least greatest e =
    limited_is p k i l (Some v) b numbers sizes f (inl (e ∙ a.0, ap Some a.1))
    (λ z c. (λ x. inl ((f.numbers z).0 (subst (IsInSome z) a.1 x)), λ x. subst (IsInSome z) (sym a.1) (root z x)))
    least greatest e
  where
    root : (z : ℤ) → IsNumberAllowed p k i z → IsInSome z l.numbers
    root z (inl r) = (f.numbers z).1 r
    root z (inr r) = let q : false ≡ true = sym a.0 ∙ f.extensible.1 r.1 in absurd cc

-- ---- the characters that it keeps

all_such : (P : ℕ → Type 0) (cs : List ℕ) → ((c : ℕ) → IsMember c cs → P c) → AllByRecursion P cs
all_such P [] f = tt
all_such P (c ∷ cs) f = (f c is_first, all_such P cs (λ d m. f d (is_later m)))

pub codes_are : (p : Program) (s : StringKind) (i : ℕ) (l : Limit) (v : List ℕ) →
    IsLeft p (simple (a_restricted_string s)) i l →
    CodesAscend l.codes →
    AllByRecursion (λ c. c < 128) l.codes →
    v ≡ l.codes →
    AreCodesOf p s i v
codes_are p s i l v f a b e =
    subst (AreCodesOf p s i) (sym e) (record {
      alphabet = record {
        some = (let h = f.some.codes refl in omega (arith, h));
        ascend = a;
        below_128 = b;
        are_characters = all_such (λ c. IsTrue (is_character s c)) l.codes (λ c m. ((f.codes c).0 m).character);
      };
      same = f.codes;
    })
