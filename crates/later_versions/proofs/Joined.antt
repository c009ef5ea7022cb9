-- Groups whose members are next to each other can be found by neighbours.
use Rattle.std.proofs.Common.{arith, inl, inr, ◌≡◌, ℕ, zero, suc, ◌+◌, ◌-◌, ◌<◌, ◌≤◌, List, [], ◌∷◌, ◌++◌, length, refl, sym, ap, subst, ◌∙◌, true, false}
use Rattle.std.specs.Prelude.{slice_get, ◌↔◌, Some}
use Rattle.std.specs.List.{AllByRecursion}
use Rattle.std.proofs.lemmas.Bool.{cases_lt}
use Rattle.std.proofs.lemmas.Option.{same_Some, slice_get_within}
use Rattle.asn_base.specs.Types.{Component, Presence, Resolved, mandatory, optional, default, addition}
use Rattle.asn_base.specs.Typed.{IsOfGroup, group_of}
use Rattle.asn_base.specs.Schemas.{GroupsTogether, is_addition}
use Rattle.later_versions.specs.Later.{AreInOneGroup, AreLater}
use Rattle.later_versions.specs.proving.Groups.{AreJoined, HaveOtherGroups, HaveSameGroups}

-- the component at a place is of group g
abbrev IsAt : ℕ → List Component → ℕ → Type 0
IsAt g cs i = (c : Component) × (slice_get cs i ≡ Some c) × IsOfGroup g c

one_of : (cs : List Component) (i j g : ℕ) → IsAt g cs i → IsAt g cs j → AreInOneGroup cs i j
one_of cs i j g a b = record {
  group = g;
  first = a.0;
  second = b.0;
  at_first = a.1;
  at_second = b.1;
  of_first = a.2;
  of_second = b.2;
}

left_of : {cs : List Component} {i j : ℕ} (o : AreInOneGroup cs i j) → IsAt o.group cs i
left_of o = (o.first, o.at_first, o.of_first)

right_of : {cs : List Component} {i j : ℕ} (o : AreInOneGroup cs i j) → IsAt o.group cs j
right_of o = (o.second, o.at_second, o.of_second)

-- a component is of one group at most
same_group : (g h : ℕ) (cs : List Component) (i : ℕ) → IsAt g cs i → IsAt h cs i → g ≡ h
same_group g h cs i a b =
    let s = same_Some a.0 b.0 (sym a.1 ∙ b.1) in
    same_Some g h (sym a.2 ∙ ap (λ c. group_of c.presence) s ∙ b.2)

moved : (g h : ℕ) (cs : List Component) (i j : ℕ) → IsAt g cs i → IsAt h cs i → IsAt h cs j → IsAt g cs j
moved g h cs i j a b c = subst (λ k. IsAt k cs j) (sym (same_group g h cs i a b)) c

none_at : (P : Component → Type 0) (cs : List Component) (i : ℕ) (c : Component)
    → AllByRecursion P cs
    → slice_get cs i ≡ Some c
    → P c
none_at P [] i c a e = absurd cc
none_at P (x ∷ cs) zero c a e = subst P (same_Some x c e) a.0
none_at P (x ∷ cs) (suc i) c a e = none_at P cs i c a.1 e

before_last : (g : ℕ) (cs : List Component) (i j : ℕ)
    → GroupsTogether cs
    → IsAt g cs i
    → IsAt g cs (suc j)
    → i ≤ j
    → IsAt g cs j
before_last g [] i j t a b l = absurd (let e = b.1 in cc)
before_last g (c ∷ []) i j t a b l = absurd (let e = b.1 in cc)
before_last g (c ∷ d ∷ cs) zero zero t a b l = a
before_last g (c ∷ d ∷ cs) zero (suc j) t a b l =
    let e = same_Some c a.0 a.1 in
    elim (t.0 g (subst (IsOfGroup g) (sym e) a.2)) [
      | inl h ↦ before_last g (d ∷ cs) zero j t.1 (d, refl, h) b (omega arith)
      | inr n ↦ absurd (none_at (λ b. IsOfGroup g b → ⊥) (d ∷ cs) (suc j) b.0 n b.1 b.2)
    ]
before_last g (c ∷ d ∷ cs) (suc i) zero t a b l = absurd (omega (arith, l))
before_last g (c ∷ d ∷ cs) (suc i) (suc j) t a b l = before_last g (d ∷ cs) i j t.1 a b (omega (arith, l))

between : (g : ℕ) (cs : List Component) (i k d : ℕ)
    → GroupsTogether cs
    → IsAt g cs i
    → IsAt g cs (d + k)
    → i ≤ k
    → IsAt g cs k
between g cs i k zero t a b l = subst (IsAt g cs) (let e : zero + k ≡ k = omega arith in e) b
between g cs i k (suc d) t a b l =
    between g cs i k d t a
    (before_last g cs i (d + k) t a (subst (IsAt g cs) (let e : suc d + k ≡ suc (d + k) = omega arith in e) b) (omega (arith, l))) l

-- what is carried over from neighbour to neighbour
carried : (cs ds : List Component) (n : ℕ)
    → GroupsTogether cs
    → ((i : ℕ) → i < n → AreInOneGroup cs i i → AreInOneGroup ds i i)
    → ((i : ℕ) → i < n → AreJoined cs i → AreJoined ds i)
    → (i d : ℕ)
    → d + i < n
    → AreInOneGroup cs i (d + i)
    → AreInOneGroup ds i (d + i)
carried cs ds n t f g i zero l o =
    let e : zero + i ≡ i = omega arith in
    subst (AreInOneGroup ds i) (sym e) (f i (omega (arith, l)) (subst (AreInOneGroup cs i) e o))
carried cs ds n t f g i (suc d) l o =
    let e : suc d + i ≡ suc (d + i) = omega arith in
    let p : suc (d + i) ≡ d + i + 1 = omega arith in
    let last : IsAt o.group cs (suc (d + i)) = subst (IsAt o.group cs) e (right_of o) in
    let next = before_last o.group cs i (d + i) t (left_of o) last (omega arith) in
    let whole = carried cs ds n t f g i d (omega (arith, l)) (one_of cs i (d + i) o.group (left_of o) next) in
    let join = g (suc (d + i)) (omega (arith, l)) (record { before = d + i; next = p; one = one_of cs (d + i) (suc (d + i)) o.group next last }) in
    let same : join.before ≡ d + i = (let q = join.next in omega (arith, q)) in
    let here : IsAt join.one.group ds (d + i) = subst (IsAt join.one.group ds) same (left_of join.one) in
    one_of ds i (suc d + i) whole.group (left_of whole)
    (subst (IsAt whole.group ds) (sym e) (moved whole.group join.one.group ds (d + i) (suc (d + i)) (right_of whole) here (right_of join.one)))

turned : (cs : List Component) (i j : ℕ) → AreInOneGroup cs i j → AreInOneGroup cs j i
turned cs i j o = one_of cs j i o.group (right_of o) (left_of o)

carried_all : (cs ds : List Component) (n : ℕ)
    → GroupsTogether cs
    → ((i : ℕ) → i < n → AreInOneGroup cs i i → AreInOneGroup ds i i)
    → ((i : ℕ) → i < n → AreJoined cs i → AreJoined ds i)
    → (i j : ℕ)
    → i < n
    → j < n
    → AreInOneGroup cs i j
    → AreInOneGroup ds i j
carried_all cs ds n t f g i j l m o = elim (cases_lt i j) [
  | inl a ↦ (
      let e : j - i + i ≡ j = omega (arith, a) in
      subst (AreInOneGroup ds i) e (carried cs ds n t f g i (j - i) (omega (arith, e, m)) (subst (AreInOneGroup cs i) (sym e) o))
      )
  | inr a ↦ (
      let e : i - j + j ≡ i = omega (arith, a) in
      turned ds j i (subst (AreInOneGroup ds j) e (carried cs ds n t f g j (i - j) (omega (arith, e, l)) (subst (AreInOneGroup cs j) (sym e) (turned cs i j o))))
      )
]

-- groups that are the same by neighbours are the same, and whole
pub groups_same : (cs ds : List Component)
    → GroupsTogether cs
    → GroupsTogether ds
    → HaveSameGroups cs ds
    → (i j : ℕ)
    → i < length cs
    → j < length cs
    → AreInOneGroup cs i j ↔ AreInOneGroup ds i j
groups_same cs ds t u h i j l m = (
  carried_all cs ds (length cs) t (λ k b. (h.grouped k b).0) (λ k b. (h.joined k b).0) i j l m,
  carried_all ds cs (length cs) u (λ k b. (h.grouped k b).1) (λ k b. (h.joined k b).1) i j l m,
)

pub groups_whole : (cs ds : List Component)
    → GroupsTogether ds
    → HaveSameGroups cs ds
    → (i j : ℕ)
    → i < length cs
    → length cs ≤ j
    → AreInOneGroup ds i j
    → ⊥
groups_whole cs ds u h i j l m o =
    let n = length cs in
    let e : j - n + n ≡ j = omega (arith, m) in
    let p : suc (n - 1) ≡ n = omega (arith, l) in
    let b = between o.group ds i n (j - n) u (left_of o) (subst (IsAt o.group ds) (sym e) (right_of o)) (omega (arith, l)) in
    let a = before_last o.group ds i (n - 1) u (left_of o) (subst (IsAt o.group ds) (sym p) b) (omega (arith, l)) in
    h.after (record { before = n - 1; next = omega (arith, l); one = one_of ds (n - 1) n o.group a b })

-- ---- components of a schema

not_of : (g : ℕ) (c : Component) → is_addition c ≡ false → IsOfGroup g c → ⊥
not_of g c e h = of_presence c.presence refl
  where
    of_presence : (p : Presence) → c.presence ≡ p → ⊥
    of_presence mandatory q = absurd (let i = sym (ap group_of q) ∙ h in cc)
    of_presence optional q = absurd (let i = sym (ap group_of q) ∙ h in cc)
    of_presence (default d) q = absurd (let i = sym (ap group_of q) ∙ h in cc)
    of_presence (addition o k) q =
        absurd (let i = sym (ap (λ p. elim p [ mandatory ↦ false | optional ↦ false | default d ↦ false | addition o g ↦ true ]) q) ∙ e in cc)

-- components of the root are of no group
pub together_append : (root more : List Component)
    → AllByRecursion (λ c. is_addition c ≡ false) root
    → GroupsTogether more
    → GroupsTogether (root ++ more)
together_append [] more a t = t
together_append (c ∷ []) [] a t = tt
together_append (c ∷ []) (d ∷ more) a t = (λ g h. absurd (not_of g c a.0 h), t)
together_append (c ∷ d ∷ root) more a t = (λ g h. absurd (not_of g c a.0 h), together_append (d ∷ root) more a.1 t)

-- ---- one component after the other

pub record SameTo (cs ds : List Component) (n : ℕ) : Type 0 where
  pub grouped : (i : ℕ) → i < n → (AreInOneGroup cs i i ↔ AreInOneGroup ds i i)
  pub joined : (i : ℕ) → i < n → (AreJoined cs i ↔ AreJoined ds i)

pub same_next : (cs ds : List Component) (n : ℕ)
    → (AreInOneGroup cs n n ↔ AreInOneGroup ds n n)
    → (AreJoined cs n ↔ AreJoined ds n)
    → SameTo cs ds n
    → SameTo cs ds (n + 1)
same_next cs ds n g j so = record {
  grouped = λ i l. elim (cases_lt i n) [
    | inl h ↦ so.grouped i h
    | inr h ↦ (let e : n ≡ i = omega (arith, h, l) in subst (λ k. AreInOneGroup cs k k ↔ AreInOneGroup ds k k) e g)
  ];
  joined = λ i l. elim (cases_lt i n) [
    | inl h ↦ so.joined i h
    | inr h ↦ (let e : n ≡ i = omega (arith, h, l) in subst (λ k. AreJoined cs k ↔ AreJoined ds k) e j)
  ];
}

pub same_all : (cs ds : List Component) (n : ℕ) → length cs ≤ n → (AreJoined ds (length cs) → ⊥) → SameTo cs ds n → HaveSameGroups cs ds
same_all cs ds n l b so = record {
  grouped = λ i h. so.grouped i (omega (arith, h, l));
  joined = λ i h. so.joined i (omega (arith, h, l));
  after = b;
}

-- groups that differ
pub other_grouped : (cs ds : List Component) (i : ℕ)
    → i < length cs
    → SameTo cs ds i
    → (AreInOneGroup cs i i ↔ AreInOneGroup ds i i → ⊥)
    → HaveOtherGroups cs ds i
other_grouped cs ds i l so n = record {
  within = omega (arith, l);
  grouped = so.grouped;
  joined = so.joined;
  other = λ f. n (f i l (omega arith));
}

joined_both : (cs ds : List Component) (i : ℕ)
    → i ≤ length cs
    → ((j : ℕ) → j < length cs → j ≤ i → (AreInOneGroup cs j i ↔ AreInOneGroup ds j i))
    → AreJoined cs i ↔ AreJoined ds i
joined_both cs ds i l f = (
  λ j. (
      let e = j.next in
      let b = f j.before (omega (arith, e, l)) (omega (arith, e)) in
      record { before = j.before; next = j.next; one = b.0 j.one }
      ),
  λ j. (
      let e = j.next in
      let b = f j.before (omega (arith, e, l)) (omega (arith, e)) in
      record { before = j.before; next = j.next; one = b.1 j.one }
      ),
)

pub other_joined : (cs ds : List Component) (i : ℕ)
    → i ≤ length cs
    → SameTo cs ds i
    → (AreJoined cs i ↔ AreJoined ds i → ⊥)
    → HaveOtherGroups cs ds i
other_joined cs ds i l so n = record {
  within = l;
  grouped = so.grouped;
  joined = so.joined;
  other = λ f. n (joined_both cs ds i l f);
}

-- what is the same by neighbours before place n is the same there
pub groups_before : (cs ds : List Component) (n : ℕ)
    → GroupsTogether cs
    → GroupsTogether ds
    → ((i : ℕ) → i < n → (AreInOneGroup cs i i ↔ AreInOneGroup ds i i))
    → ((i : ℕ) → i < n → (AreJoined cs i ↔ AreJoined ds i))
    → (i j : ℕ)
    → i < n
    → j < n
    → AreInOneGroup cs i j ↔ AreInOneGroup ds i j
groups_before cs ds n t u g h i j l m = (
  carried_all cs ds n t (λ k b. (g k b).0) (λ k b. (h k b).0) i j l m,
  carried_all ds cs n u (λ k b. (g k b).1) (λ k b. (h k b).1) i j l m,
)

-- a later version has the same groups
pub groups_not : (s : List Resolved) (cs ds : List Component) (i : ℕ)
    → (((j : ℕ) → j < length cs → j ≤ i → (AreInOneGroup cs j i ↔ AreInOneGroup ds j i)) → ⊥)
    → AreLater s cs ds
    → ⊥
groups_not s cs ds i n l = n (λ j m b. elim (cases_lt i (length cs)) [
  | inl k ↦ l.groups j i m k
  | inr k ↦ (
    λ o. absurd (let w = slice_get_within cs i o.second o.at_second in omega (arith, w, k)),
    λ o. absurd (l.whole j i m k o),
  )
])
