-- Pairs of types, one after the other.
use Rattle.std.proofs.Common.{arith, inl, inr, ◌≡◌, ℕ, zero, suc, ◌+◌, ◌<◌, ◌≤◌, List, [], ◌∷◌, ◌++◌, length, map, refl, sym, ap, subst, ◌∙◌, Bool, true, false, cond, append_assoc}
use Rattle.std.specs.Prelude.{slice_get, ◌/◌, ◌%◌, ◌⊎◌, ◌↔◌, Some, None, MatchOption, Option, option_map}
use Rattle.std.specs.BTreeMap.{BTreeMap, get, is_at}
use Rattle.std.specs.List.{AllByRecursion}
use Rattle.std.specs.Ordering.{is_eq, nat_cmp, ordering_then, MatchOrdering}
use Rattle.std.specs.declared.cmp.Ordering.{Ordering}
use Rattle.std.specs.declared.cmp.Ordering.TheVariants.{Less, Equal, Greater}
use Rattle.std.proofs.lemmas.Bool.{cases_lt}
use Rattle.std.proofs.lemmas.Cmp.{ranked}
use Rattle.std.proofs.lemmas.List.{length-map, map-append}
use Rattle.std.proofs.lemmas.Option.{slice_get_within, slice_get-map, same_Some}
use Rattle.asn_base.specs.Names.{IsMember, is_first, is_later}
use Rattle.asn_base.specs.Types.{Resolved}
use Rattle.ranges.specs.proving.Masking.{IsBetween}
use Rattle.later_versions.specs.Projected.{members_of}
use Rattle.later_versions.specs.Later.{IsLaterKind, IsLaterType, Later, leads}
use Rattle.later_versions.proofs.Fronts.{slice_get_some}
use Rattle.later_versions.proofs.Placing.{at_place}
use Rattle.later_versions.specs.Differences.{KindDiffers, with_tags}
use Rattle.later_versions.specs.proving.Pairs.{AreKnown, AreMembersNoted, IsFine, IsIn, IsMemberPair, IsMemberPairAt, IsMetAt, IsNotedOnce, IsSoFar, HasMet, PairDiffers, codes_in, entry_codes, key_of, met, met_pair}
use Rattle.later_versions.specs.declared.reason.Reason.{Reason}
use Rattle.later_versions.specs.declared.pairs.Met.{Met}
use Rattle.later_versions.specs.declared.pairs.Pairs.{Pairs}
use Rattle.asn_base.specs.proving.Orderings.{pair_exact, pair_cmp}

-- ---- members of lists

pub member_place : {A : Type 0} {x : A} {xs : List A} → IsMember x xs → (i : ℕ) × (slice_get xs i ≡ Some x)
member_place is_first = (0, refl)
member_place (is_later h) = let m = member_place h in (suc m.0, m.1)

member_left : {A : Type 0} {x : A} {xs : List A} (ys : List A) → IsMember x xs → IsMember x (xs ++ ys)
member_left ys is_first = is_first
member_left ys (is_later h) = is_later (member_left ys h)

pub member_last : {A : Type 0} (x : A) (xs : List A) → IsMember x (xs ++ x ∷ [])
member_last x [] = is_first
member_last x (y ∷ xs) = is_later (member_last x xs)

member_of_two : {A : Type 0} {x : A} (xs ys : List A) → IsMember x (xs ++ ys) → IsMember x xs ⊎ IsMember x ys
member_of_two [] ys h = inr h
member_of_two (y ∷ xs) ys is_first = inl is_first
member_of_two (y ∷ xs) ys (is_later h) = elim (member_of_two xs ys h) [ inl a ↦ inl (is_later a) | inr b ↦ inr b ]

all_member : {A : Type 0} (P : A → Type 0) {x : A} {xs : List A} → AllByRecursion P xs → IsMember x xs → P x
all_member P a is_first = a.0
all_member P a (is_later h) = all_member P a.1 h

pub get_left : {A : Type 0} (xs ys : List A) (i : ℕ) → i < length xs → slice_get (xs ++ ys) i ≡ slice_get xs i
get_left [] ys i l = absurd (omega (arith, l))
get_left (x ∷ xs) ys zero l = refl
get_left (x ∷ xs) ys (suc i) l = get_left xs ys i (omega (arith, l))

all_append : {A : Type 0} (P : A → Type 0) (xs ys : List A) → AllByRecursion P xs → AllByRecursion P ys → AllByRecursion P (xs ++ ys)
all_append P [] ys a b = b
all_append P (x ∷ xs) ys a b = (a.0, all_append P xs ys a.1 b)

pub append-none : {A : Type 0} (xs : List A) → xs ≡ xs ++ []
append-none [] = refl
append-none (x ∷ xs) = ap (λ q. x ∷ q) (append-none xs)

-- ---- places

pub leads_on : (s : List Resolved) (places : List ℕ) (o : Option ℕ) (w : ℕ)
    → (elim o [ None ↦ None | Some u ↦ leads s u places ]) ≡ Some w
    → (u : ℕ) × (o ≡ Some u) × (leads s u places ≡ Some w)
leads_on s places None w e = absurd cc
leads_on s places (Some u) w e = (u, refl, e)

pub leads_further : (s : List Resolved) (t u v i : ℕ) (places : List ℕ)
    → leads s t places ≡ Some u
    → slice_get (members_of s u) i ≡ Some v
    → leads s t (places ++ i ∷ []) ≡ Some v
leads_further s t u v i [] e m =
    let h : slice_get (members_of s t) i ≡ Some v = subst (λ q. slice_get (members_of s q) i ≡ Some v) (sym (same_Some t u e)) m in
    ap (λ o. elim o [ None ↦ None | Some w ↦ Some w ]) h
leads_further s t u v i (j ∷ places) e m =
    let h = leads_on s places (slice_get (members_of s t) j) u e in
    ap (λ o. elim o [ None ↦ None | Some w ↦ leads s w (places ++ i ∷ []) ]) h.1
    ∙ leads_further s h.0 u v i places h.2 m

-- ---- pairs

pub reached_first : (s : List Resolved) (t : ℕ) (s' : List Resolved) (t' : ℕ) (ps : List (ℕ × ℕ))
    → ps ≡ (t, t') ∷ []
    → IsSoFar s t s' t' ps 0
reached_first s t s' t' ps e = record {
  start = subst (IsMember (t, t')) (sym e) is_first;
  reached = λ p h. (
      let q = only p (subst (IsMember p) e h) in
      ([], ap (λ r. Some r.0) (sym q), ap (λ r. Some r.1) (sym q))
      );
  fine = λ i p l. absurd (omega (arith, l));
  members = λ i p q l. absurd (omega (arith, l));
}
  where
    only : (p : ℕ × ℕ) → IsMember p ((t, t') ∷ []) → p ≡ (t, t')
    only p is_first = refl
    only p (is_later h) = elim h [ ]

pub reached_next : (s : List Resolved) (t : ℕ) (s' : List Resolved) (t' : ℕ) (ps new : List (ℕ × ℕ)) (at : ℕ) (p : ℕ × ℕ)
    → slice_get ps at ≡ Some p
    → IsFine s s' p
    → (more : List (ℕ × ℕ)) × (new ≡ ps ++ more) × AllByRecursion (IsMemberPair s s' p) more
    → ((q : ℕ × ℕ) → IsMemberPair s s' p q → IsMember q new)
    → IsSoFar s t s' t' ps at
    → IsSoFar s t s' t' new (at + 1)
reached_next s t s' t' ps new at p e f n m so =
    let within = slice_get_within ps at p e in
    let old : (i : ℕ) → i < at + 1 → slice_get new i ≡ slice_get ps i =
    λ i l. ap (λ q. slice_get q i) n.1 ∙ get_left ps n.0 i (omega (arith, l, within)) in
    let projected : (q : ℕ × ℕ) → IsMember q ps → IsMember q new =
    λ q h. subst (IsMember q) (sym n.1) (member_left n.0 h) in
    record {
      start = projected (t, t') so.start;
      reached = λ q h. elim (member_of_two ps n.0 (subst (IsMember q) n.1 h)) [
        | inl a ↦ so.reached q a
        | inr b ↦ (
            let r = so.reached p (at_place ps at p e) in
            let c = all_member (IsMemberPair s s' p) n.2 b in
            (r.0 ++ c.0 ∷ [], leads_further s t p.0 q.0 c.0 r.0 r.1 c.1, leads_further s' t' p.1 q.1 c.0 r.0 r.2 c.2)
            )
      ];
      fine = λ i q l g. elim (cases_lt i at) [
        | inl b ↦ so.fine i q b (sym (old i l) ∙ g)
        | inr b ↦ subst (IsFine s s') (same_here i l b q (sym (old i l) ∙ g)) f
      ];
      members = λ i q r l g h. elim (cases_lt i at) [
        | inl b ↦ projected r (so.members i q r b (sym (old i l) ∙ g) h)
        | inr b ↦ m r (subst (λ z. IsMemberPair s s' z r) (sym (same_here i l b q (sym (old i l) ∙ g))) h)
      ];
    }
  where
    same_here : (i : ℕ) → i < at + 1 → at ≤ i → (q : ℕ × ℕ) → slice_get ps i ≡ Some q → p ≡ q
    same_here i l b q g =
        let h : at ≡ i = omega (arith, l, b) in
        same_Some p q (sym e ∙ ap (slice_get ps) h ∙ g)

follow : (s : List Resolved) (t : ℕ) (s' : List Resolved) (t' : ℕ) (ps : List (ℕ × ℕ)) (at : ℕ)
    → length ps ≤ at
    → IsSoFar s t s' t' ps at
    → (places : List ℕ) (v v' u u' : ℕ)
    → IsMember (v, v') ps
    → leads s v places ≡ Some u
    → leads s' v' places ≡ Some u'
    → IsMember (u, u') ps
follow s t s' t' ps at l so [] v v' u u' m a b =
    subst (λ q. IsMember (q, u') ps) (same_Some v u a) (subst (λ q. IsMember (v, q) ps) (same_Some v' u' b) m)
follow s t s' t' ps at l so (i ∷ places) v v' u u' m a b =
    let f = leads_on s places (slice_get (members_of s v) i) u a in
    let g = leads_on s' places (slice_get (members_of s' v') i) u' b in
    let h = member_place m in
    let w = slice_get_within ps h.0 (v, v') h.1 in
    let n = so.members h.0 (v, v') (f.0, g.0) (omega (arith, w, l)) h.1 (i, f.1, g.1) in
    follow s t s' t' ps at l so places f.0 g.0 u u' n f.2 g.2

-- all pairs that were met are fine
pub all_fine : (s : List Resolved) (t : ℕ) (s' : List Resolved) (t' : ℕ) (ps : List (ℕ × ℕ)) (at : ℕ)
    → length ps ≤ at
    → IsSoFar s t s' t' ps at
    → Later s t s' t'
all_fine s t s' t' ps at l so places u u' q r a b c d =
    let m = follow s t s' t' ps at l so places t t' u u' so.start a b in
    let h = member_place m in
    let w = slice_get_within ps h.0 (u, u') h.1 in
    so.fine h.0 (u, u') (omega (arith, w, l)) h.1 q r c d

-- ---- the set of pairs

split_entry : (k q : ℕ × ℕ) (cs : List ℕ) (o : Option (List ℕ)) (c : ℕ) (t : Bool)
    → is_eq (pair_cmp k q) ≡ t
    → IsMember c (entry_codes (cond t (Some cs) o))
    → ((k ≡ q) × IsMember c cs) ⊎ IsMember c (entry_codes o)
split_entry k q cs o c true e h = inl (pair_exact k q e, h)
split_entry k q cs o c false e h = inr h

same_number : (a b : ℕ) → a / 128 ≡ b / 128 → a % 128 ≡ b % 128 → a ≡ b
same_number a b e f = omega (arith, e, f)

same_pair : (p q : ℕ × ℕ) → key_of p ≡ key_of q → p.1 % 128 ≡ q.1 % 128 → p ≡ q
same_pair p q e f =
    let a : p.0 ≡ q.0 = ap (λ (x : ℕ × ℕ). x.0) e in
    let b : p.1 ≡ q.1 = same_number p.1 q.1 (ap (λ (x : ℕ × ℕ). x.1) e) f in
    ap (λ z. (z, p.1)) a ∙ ap (λ z. (q.0, z)) b

only_between : (a c : ℕ) → IsBetween a a c → a ≡ c
only_between a c b = let l = b.0 in let g = b.1 in omega (arith, l, g)

-- the new set has what the old one has, and pair p, whose entry has these numbers now
pub put_pair : (m n : BTreeMap (ℕ × ℕ) (List ℕ)) (p : ℕ × ℕ) (cs : List ℕ)
    → ((k : ℕ × ℕ) → get pair_cmp n k ≡ cond (is_at (pair_cmp (key_of p)) k) (Some cs) (get pair_cmp m k))
    → ((c : ℕ) → IsMember c cs
    ↔ (IsMember c (codes_in m (key_of p)) ⊎ (IsBetween (p.1 % 128) (p.1 % 128) c × (c < 128))))
    → (q : ℕ × ℕ)
    → IsIn n q
    → IsIn m q ⊎ (p ≡ q)
put_pair m n p cs f g q h =
    let there = subst (λ o. IsMember (q.1 % 128) (entry_codes o)) (f (key_of q)) h in
    elim (split_entry (key_of p) (key_of q) cs (get pair_cmp m (key_of q)) (q.1 % 128) (is_eq (pair_cmp (key_of p) (key_of q))) refl there) [
      | inl a ↦ elim ((g (q.1 % 128)).0 a.1) [
        | inl b ↦ inl (subst (λ z. IsMember (q.1 % 128) (codes_in m z)) a.0 b)
        | inr b ↦ inr (same_pair p q a.0 (only_between (p.1 % 128) (q.1 % 128) b.0))
      ]
      | inr b ↦ inl b
    ]

-- ---- what is noted

pub met_more : (old new : Pairs) (more : List Met) → new.list.items ≡ old.list.items ++ more → met new ≡ met old ++ map met_pair more
met_more old new more e = ap (map met_pair) e ∙ map-append met_pair old.list.items more

-- the first pair that is noted is the only one
pub first_noted : (old : List Met) (new : Pairs) (x : Met)
    → old ≡ []
    → (new.list.items ≡ old) ⊎ (new.list.items ≡ old ++ x ∷ [])
    → HasMet new (met_pair x)
    → new.list.items ≡ x ∷ []
first_noted old new x e once h = elim once [
  | inl f ↦ elim (subst (IsMember (met_pair x)) (ap (map met_pair) (f ∙ e)) h) [ ]
  | inr f ↦ f ∙ ap (λ q. q ++ x ∷ []) e
]

-- the pairs that were met last are those of members
pub members_met : (s s' : List Resolved) (at : ℕ) (p : ℕ × ℕ) (more : List Met)
    → AllByRecursion (IsMetAt s s' at p) more
    → AllByRecursion (IsMemberPair s s' p) (map met_pair more)
members_met s s' at p [] a = tt
members_met s s' at p (x ∷ more) a = ((x.place, a.0.1.0, a.0.1.1), members_met s s' at p more a.1)

-- ---- the pairs of members at one place after the other

pub record NotedTo (s s' : List Resolved) (at : ℕ) (p : ℕ × ℕ) (old new : Pairs) (n : ℕ) : Type 0 where
  pub known : AreKnown new
  pub more : List Met
  pub items : new.list.items ≡ old.list.items ++ more
  pub are : AllByRecursion (IsMetAt s s' at p) more
  pub low : (i : ℕ) (x : Met) → slice_get more i ≡ Some x → x.place < n
  pub ascend : (i j : ℕ) (x y : Met) → i < j → slice_get more i ≡ Some x → slice_get more j ≡ Some y → x.place < y.place
  pub each : (m : ℕ) (q : ℕ × ℕ)
      → m < n
      → IsMemberPairAt s s' p m q
      → HasMet old q ⊎ ((k : ℕ) × (x : Met) × (slice_get more k ≡ Some x) × (met_pair x ≡ q) × (x.place ≤ m))

pub noted_first : (s s' : List Resolved) (at : ℕ) (p : ℕ × ℕ) (old : Pairs) → AreKnown old → NotedTo s s' at p old old 0
noted_first s s' at p old k = record {
  known = k;
  more = [];
  items = append-none old.list.items;
  are = tt;
  low = λ i x e. absurd cc;
  ascend = λ i j x y l e. absurd cc;
  each = λ m q l. absurd (omega (arith, l));
}

-- a pair that was met is one of the earlier ones or one of the others
met_or_more : (old : Pairs) (items more : List Met) (q : ℕ × ℕ)
    → items ≡ old.list.items ++ more
    → IsMember q (map met_pair items)
    → HasMet old q ⊎ ((k : ℕ) × (x : Met) × (slice_get more k ≡ Some x) × (met_pair x ≡ q))
met_or_more old items more q e h =
    elim (member_of_two (met old) (map met_pair more) (subst (IsMember q) (ap (map met_pair) e ∙ map-append met_pair old.list.items more) h)) [
      | inl a ↦ inl a
      | inr b ↦ (
          let m = member_place b in
          let z = slice_get_some more m.0 (let w = slice_get_within (map met_pair more) m.0 q m.1 in let c = length-map more met_pair in omega (arith, w, c)) in
          inr (m.0, z.0, z.1, same_Some (met_pair z.0) q (sym (slice_get-map met_pair more m.0 ∙ ap (option_map met_pair) z.1) ∙ m.1))
          )
    ]

-- an element of a list with one more at its end
last_or_before : (xs : List Met) (x y : Met) (i : ℕ)
    → slice_get (xs ++ x ∷ []) i ≡ Some y
    → (slice_get xs i ≡ Some y) ⊎ ((i ≡ length xs) × (y ≡ x))
last_or_before [] x y zero e = inr (refl, sym (same_Some x y e))
last_or_before [] x y (suc i) e = absurd cc
last_or_before (z ∷ xs) x y zero e = inl e
last_or_before (z ∷ xs) x y (suc i) e = elim (last_or_before xs x y i e) [
  | inl h ↦ inl h
  | inr h ↦ inr (ap suc h.0, h.1)
]

at_last : (xs : List Met) (x : Met) → slice_get (xs ++ x ∷ []) (length xs) ≡ Some x
at_last [] x = refl
at_last (y ∷ xs) x = at_last xs x

pub noted_next : (s s' : List Resolved) (at : ℕ) (p : ℕ × ℕ) (x : Met) (old mid new : Pairs) (n : ℕ)
    → IsMetAt s s' at p x
    → x.place ≡ n
    → AreKnown new
    → HasMet new (met_pair x)
    → IsNotedOnce mid new x
    → NotedTo s s' at p old mid n
    → NotedTo s s' at p old new (n + 1)
noted_next s s' at p x old mid new n m w k h once so = elim once [
  | inl e ↦ record {
    known = k;
    more = so.more;
    items = e ∙ so.items;
    are = so.are;
    low = λ i y f. let l = so.low i y f in omega (arith, l);
    ascend = so.ascend;
    each = λ j q l c. elim (cases_lt j n) [
      | inl d ↦ so.each j q d c
      | inr d ↦ elim (met_or_more old new.list.items so.more q (e ∙ so.items) (subst (λ z. IsMember z (met new)) (here j q l d c) h)) [
        | inl a ↦ inl a
        | inr b ↦ inr (b.0, b.1, b.2, b.3, (let g = so.low b.0 b.1 b.2 in omega (arith, g, d)))
      ]
    ];
  }
  | inr e ↦ record {
    known = k;
    more = so.more ++ x ∷ [];
    items = e ∙ ap (λ q. q ++ x ∷ []) so.items ∙ append_assoc old.list.items so.more (x ∷ []);
    are = all_append (IsMetAt s s' at p) so.more (x ∷ []) so.are (m, tt);
    low = λ i y f. elim (last_or_before so.more x y i f) [
      | inl a ↦ (let l = so.low i y a in omega (arith, l))
      | inr b ↦ (let g = ap (λ (z : Met). z.place) b.1 in omega (arith, g, w))
    ];
    ascend = λ i j y z l f g. elim (last_or_before so.more x y i f) [
      | inl a ↦ elim (last_or_before so.more x z j g) [
        | inl c ↦ so.ascend i j y z l a c
        | inr d ↦ (let t = so.low i y a in let v = ap (λ (z : Met). z.place) d.1 in omega (arith, t, v, w))
      ]
      | inr b ↦ elim (last_or_before so.more x z j g) [
        | inl c ↦ absurd (let t = slice_get_within so.more j z c in let v = b.0 in omega (arith, t, v, l))
        | inr d ↦ absurd (let u = b.0 in let v = d.0 in omega (arith, u, v, l))
      ]
    ];
    each = λ j q l c. elim (cases_lt j n) [
      | inl d ↦ elim (so.each j q d c) [
        | inl a ↦ inl a
        | inr b ↦ inr (b.0, b.1, get_left so.more (x ∷ []) b.0 (slice_get_within so.more b.0 b.1 b.2) ∙ b.2, b.3, b.4)
      ]
      | inr d ↦ inr (length so.more, x, at_last so.more x, here j q l d c, omega (arith, w, d))
    ];
  }
]
  where
    here : (j : ℕ) (q : ℕ × ℕ) → j < n + 1 → n ≤ j → IsMemberPairAt s s' p j q → met_pair x ≡ q
    here j q l d c =
        let e : x.place ≡ j = omega (arith, d, l, w) in
        let f = same_Some x.pair.first.index q.0 (sym m.1.0 ∙ ap (slice_get (members_of s p.0)) e ∙ c.0) in
        let g = same_Some x.pair.second.index q.1 (sym m.1.1 ∙ ap (slice_get (members_of s' p.1)) e ∙ c.1) in
        ap (λ z. (z, x.pair.second.index)) f ∙ ap (λ z. (q.0, z)) g

-- after the last member of one of the two
pub noted_all : (s s' : List Resolved) (at : ℕ) (p : ℕ × ℕ) (old new : Pairs) (n : ℕ)
    → (slice_get (members_of s p.0) n ≡ None) ⊎ (slice_get (members_of s' p.1) n ≡ None)
    → NotedTo s s' at p old new n
    → AreMembersNoted s s' at p old new
noted_all s s' at p old new n e so = record {
  more = so.more;
  items = so.items;
  are = so.are;
  ascend = so.ascend;
  each = λ j q c. so.each j q (elim e [
    | inl a ↦ before_none (members_of s p.0) j n q.0 c.0 a
    | inr a ↦ before_none (members_of s' p.1) j n q.1 c.1 a
  ]) c;
}
  where
    before_none : {A : Type 0} (xs : List A) (i n : ℕ) (x : A) → slice_get xs i ≡ Some x → slice_get xs n ≡ None → i < n
    before_none [] i n x e f = absurd cc
    before_none (y ∷ xs) i zero x e f = absurd cc
    before_none (y ∷ xs) zero (suc n) x e f = omega arith
    before_none (y ∷ xs) (suc i) (suc n) x e f = let h = before_none xs i n x e f in omega (arith, h)

-- all pairs of members were met
pub members_noted : (s s' : List Resolved) (at : ℕ) (p : ℕ × ℕ) (old new : Pairs)
    → AreMembersNoted s s' at p old new
    → (q : ℕ × ℕ)
    → IsMemberPair s s' p q
    → HasMet new q
members_noted s s' at p old new h q m = subst (IsMember q) (sym (met_more old new h.more h.items)) (elim (h.each m.0 q (m.1, m.2)) [
  | inl a ↦ member_left (map met_pair h.more) a
  | inr b ↦ member_right (met old) (subst (λ z. IsMember z (map met_pair h.more)) b.3 (at_place (map met_pair h.more) b.0 (met_pair b.1) (slice_get-map met_pair h.more b.0 ∙ ap (option_map met_pair) b.2)))
])
  where
    member_right : {A : Type 0} {x : A} (xs : List A) {ys : List A} → IsMember x ys → IsMember x (xs ++ ys)
    member_right [] h = h
    member_right (y ∷ xs) h = is_later (member_right xs h)

pub put_known : (m n : BTreeMap (ℕ × ℕ) (List ℕ)) (ps qs : List (ℕ × ℕ)) (k : ℕ × ℕ)
    → ((q : ℕ × ℕ) → IsIn n q → IsIn m q ⊎ (k ≡ q))
    → ((p : ℕ × ℕ) → IsIn m p → IsMember p ps)
    → qs ≡ ps ++ k ∷ []
    → (p : ℕ × ℕ)
    → IsIn n p
    → IsMember p qs
put_known m n ps qs k f known e p h =
    subst (IsMember p) (sym e) (elim (f p h) [
      | inl a ↦ member_left (k ∷ []) (known p a)
      | inr b ↦ subst (λ x. IsMember x (ps ++ k ∷ [])) b (member_last k ps)
    ])

-- ---- one pair

pub pair_judged : (s s' : List Resolved) (p : ℕ × ℕ) (q r : Resolved) (o : Option Reason)
    → slice_get s p.0 ≡ Some q
    → slice_get s' p.1 ≡ Some r
    → q.tags ≡ r.tags
    → MatchOption o (IsLaterKind s q.kind r.kind) (KindDiffers s q.kind r.kind)
    → MatchOption o (IsFine s s' p) (PairDiffers s s' p)
pair_judged s s' p q r None a b t h = λ x y d e.
    subst (λ z. IsLaterType s z y) (same_Some q x (sym a ∙ d))
    (subst (IsLaterType s q) (same_Some r y (sym b ∙ e)) (record { tags = t; kind = h }))
pair_judged s s' p q r (Some e) a b t h = record { one = q; other = r; at_first = a; at_second = b; differs = with_tags t h }
