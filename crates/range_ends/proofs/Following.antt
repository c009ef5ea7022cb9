-- The numbers to which ends lead.
use Rattle.std.proofs.Common.{◌≡◌, ◌↔◌, ℕ, zero, suc, ◌<◌, ◌≤◌, ℤ, List, [], ◌∷◌, length, Option, Some, None, refl, sym, ap, ◌∙◌, subst, arith}
use Rattle.std.specs.Prelude.{slice_get, Result, Ok, Err, MatchResult}
use Rattle.trees.specs.Values.{Name, Tree, number, reference}
use Rattle.names.specs.declared.scope.Assigned.TheVariants as assigned
use Rattle.names.specs.Names.{Refers}
use Rattle.type_table.specs.Table.{WrittenKind}
use Rattle.resolve.specs.Program.{Program, IsWhole}
use Rattle.range_ends.specs.declared.ends.EndFault.{EndFault}
use Rattle.range_ends.specs.declared.ends.EndFault.TheVariants as ends
use Rattle.range_ends.specs.Answers.{DenotesOnly, IsEndFault}
use Rattle.range_ends.specs.Ends.{IsValueAt, named, direct_number, Means, ReferencePath, there, onward, DenotesNumber, HasNoNumber, RefersTo, RefersFar, directly, through, IsMetTwice, here, later, IsCircularEnd}
use Rattle.range_ends.specs.proving.Steps.{MeansValue, listed, AreReferred, number_by, number_at, unless, next}
use Rattle.type_table.specs.Walks as walks
use Rattle.type_table.specs.Walks.{follow, EndsAt, ComesBack, IsWithin}
use Rattle.range_ends.specs.proving.Ways.{Ends, EndsWithout, Turns, IsWayFault}
use Rattle.range_ends.proofs.Circles.{below, ends_next, ends_unique, ends_after}
use Rattle.type_table.specs.proving.Walks.{ends_not_back}
use Rattle.range_ends.proofs.Doubling.{far_back}
use Rattle.range_ends.specs.proving.Turning.{ComesRound}
use Rattle.range_ends.proofs.Turning.{first_step}
use Rattle.range_ends.proofs.References.{some_same, value_once, its_meaning, refers_within}

-- ---- one step

pub number_here : (p : Program) (k : WrittenKind) (i : ℕ) (M : Name) (n : Tree) → IsValueAt p i M n → number_at p k i ≡ direct_number k n
number_here p k i M n a = ap (number_by k) a.there ∙ ap (direct_number k) a.notation

pub next_number : (p : Program) (k : WrittenKind) (os : List (Option ℕ)) (i : ℕ) (z : ℤ) →
    number_at p k i ≡ Some z →
    next p k os i ≡ None
next_number p k os i z e = ap (λ o. unless o (listed os i)) e

pub next_on : (p : Program) (k : WrittenKind) (os : List (Option ℕ)) (i : ℕ) →
    number_at p k i ≡ None →
    next p k os i ≡ listed os i
next_on p k os i e = ap (λ o. unless o (listed os i)) e

unless_some : (o : Option ℤ) (r : Option ℕ) (j : ℕ) → unless o r ≡ Some j → (o ≡ None) × (r ≡ Some j)
unless_some None r j e = (refl, e)
unless_some (Some z) r j e = absurd cc

pub next_listed : (p : Program) (k : WrittenKind) (os : List (Option ℕ)) (i j : ℕ) → next p k os i ≡ Some j → listed os i ≡ Some j
next_listed p k os i j e = (unless_some (number_at p k i) (listed os i) j e).1

pub within_next : (p : Program) (k : WrittenKind) (os : List (Option ℕ)) → IsWithin (listed os) (length os) → IsWithin (next p k os) (length os)
within_next p k os w i j e = w i j (unless_some (number_at p k i) (listed os i) j e).1

there_is : {X : Type 0} (xs : List X) (i : ℕ) → i < length xs → (x : X) × (slice_get xs i ≡ Some x)
there_is [] i l = absurd (omega (arith, l))
there_is (x ∷ xs) zero l = (x, refl)
there_is (x ∷ xs) (suc i) l = there_is xs i (omega (arith, l))

-- each value has its notation
value_is : (p : Program) (i : ℕ) → IsWhole p → i < length p.values → (M : Name) × (n : Tree) × IsValueAt p i M n
value_is p i w l =
    let v = there_is p.values i l in
    let a = there_is p.assignments v.0.assignment (w.valued i v.0 v.1).1 in
    let h = there_is p.headers a.0.0 (w.placed v.0.assignment a.0 a.1) in (
      h.0.0,
      v.0.notation,
      record {
        value = v.0;
        there = v.1;
        notation = refl;
        assigns = a.0.1;
        is_so = record { owner = a.0.0; tags = h.0.1; assigned = a.1; header = h.1 };
      },
    )

as_value : (p : Program) (k : WrittenKind) (M : Name) (n : Tree) (j : ℕ) → Means p k M n j → (direct_number k n ≡ None) × MeansValue p M n j
as_value p k M (reference q x) j m = m
as_value p k M n j m = absurd m

as_means : (p : Program) (k : WrittenKind) (M : Name) (n : Tree) (j : ℕ) → direct_number k n ≡ None → MeansValue p M n j → Means p k M n j
as_means p k M (reference q x) j e m = (e, m)
as_means p k M n j e m = absurd m

module _ (p : Program) (k : WrittenKind) (os : List (Option ℕ)) (a : AreReferred p os) (w : IsWhole p) where
  means_next : (i : ℕ) (M : Name) (n : Tree) (j : ℕ) → IsValueAt p i M n → Means p k M n j → next p k os i ≡ Some j
  means_next i M n j at m =
      let v = as_value p k M n j m in
      next_on p k os i (number_here p k i M n at ∙ v.0)
      ∙ (a.each i j).1 (record { within = M; notation = n; at = at; means = v.1 })

  next_means : (i : ℕ) (M : Name) (n : Tree) (j : ℕ) → IsValueAt p i M n → next p k os i ≡ Some j → Means p k M n j
  next_means i M n j at e =
      let u = unless_some (number_at p k i) (listed os i) j e in
      as_means p k M n j (sym (number_here p k i M n at) ∙ u.0) (its_meaning p i M n j at ((a.each i j).0 u.1))

  next_there : (i j : ℕ) → next p k os i ≡ Some j → j < length p.values
  next_there i j e = let l = within_next p k os (refers_within p os w a) i j e in omega (arith, l, a.all)

  walk_there : (s i c : ℕ) → i < length p.values → follow (next p k os) s i ≡ Some c → c < length p.values
  walk_there s i c l e =
      below (next p k os) (length p.values) s i c next_there l e

  -- ---- many steps

  leads_on : (s i c : ℕ) (M : Name) (n : Tree) (K : Name) (l : Tree) (o : Option ℕ) →
      next p k os i ≡ o →
      IsValueAt p i M n →
      ((j : ℕ) (N : Name) (m : Tree) → follow (next p k os) s j ≡ Some c → IsValueAt p j N m → ReferencePath p k N m K l) →
      walks.onward o (λ j. follow (next p k os) s j) ≡ Some c →
      ReferencePath p k M n K l
  leads_on s i c M n K l None f at go e = absurd cc
  leads_on s i c M n K l (Some j) f at go e =
      let v = value_is p j w (next_there i j f) in
      onward j (next_means i M n j at f) v.2 (go j v.0 v.1 e v.2)

  walk_leads : (s i c : ℕ) (M : Name) (n : Tree) (K : Name) (l : Tree) →
      follow (next p k os) s i ≡ Some c →
      IsValueAt p i M n →
      IsValueAt p c K l →
      ReferencePath p k M n K l
  walk_leads zero i c M n K l e at to =
      let q : i ≡ c = cc in
      let s = value_once p c M K n l (subst (λ z. IsValueAt p z M n) q at) to in
      subst (λ N. ReferencePath p k M n N l) s.0 (subst (λ t. ReferencePath p k M n M t) s.1 there)
  walk_leads (suc s) i c M n K l e at to =
      leads_on s i c M n K l (next p k os i) refl at (λ j N m f b. walk_leads s j c N m K l f b to) e

  leads_ends : (i : ℕ) (M : Name) (n : Tree) (K : Name) (l : Tree) (z : ℤ) →
      IsValueAt p i M n →
      ReferencePath p k M n K l →
      direct_number k l ≡ Some z →
      (c : ℕ) × EndsAt (next p k os) i c × (number_at p k c ≡ Some z)
  leads_ends i M n K l z at there e =
      let t = number_here p k i M n at ∙ e in
      (i, record { steps = 0; chain = refl; ends = next_number p k os i z t }, t)
  leads_ends i M n K l z at (onward {N = N} {m = m} j means to rest) e =
      let r = leads_ends j N m K l z to rest e in
      (r.0, ends_next (next p k os) i j r.0 (means_next i M n j at means) r.1, r.2)

  -- the number of a value is that at the end
  stands_ends : (i : ℕ) (M : Name) (n : Tree) (z : ℤ) →
      IsValueAt p i M n →
      DenotesNumber p k M n z →
      (c : ℕ) × EndsAt (next p k os) i c × (number_at p k c ≡ Some z)
  stands_ends i M n z at s = leads_ends i M n s.within s.notation z at s.chain s.number_is

  pub value_only : (i : ℕ) (M : Name) (n : Tree) (z : ℤ) →
      i < length p.values →
      IsValueAt p i M n →
      Ends p k os i z →
      DenotesOnly p k M n z
  value_only i M n z l at e =
      let v = value_is p e.last w (walk_there e.way.steps i e.last l e.way.chain) in
      record {
        is_so = record {
          within = v.0;
          notation = v.1;
          chain = walk_leads e.way.steps i e.last M n v.0 v.1 e.way.chain at v.2;
          number_is = sym (number_here p k e.last v.0 v.1 v.2) ∙ e.number_is;
        };
        only_one = λ y s. (
            let r = stands_ends i M n y at s in
            let q = ends_unique (next p k os) i r.0 e.last r.1 e.way in
            some_same y z (sym r.2 ∙ ap (number_at p k) q ∙ e.number_is));
      }

  pub value_lost : (i : ℕ) (M : Name) (n : Tree) →
      i < length p.values →
      IsValueAt p i M n →
      EndsWithout p k os i →
      HasNoNumber p k M n
  value_lost i M n l at e =
      let v = value_is p e.last w (walk_there e.way.steps i e.last l e.way.chain) in
      record {
        nothing = λ z s. (
            let r = stands_ends i M n z at s in
            let q = ends_unique (next p k os) i r.0 e.last r.1 e.way in
            let f : None ≡ Some z = sym e.number_is ∙ sym (ap (number_at p k) q) ∙ r.2 in
            absurd cc);
        within = v.0;
        notation = v.1;
        chain = walk_leads e.way.steps i e.last M n v.0 v.1 e.way.chain at v.2;
        no_number = sym (number_here p k e.last v.0 v.1 v.2) ∙ e.number_is;
        no_value = λ j m. (
            let f : None ≡ Some j = sym e.way.ends ∙ means_next e.last v.0 v.1 j v.2 m in
            absurd cc);
      }

  -- ---- circles

  leads_to : (i j : ℕ) → i < length p.values → next p k os i ≡ Some j → RefersTo p k i j
  leads_to i j l e =
      let v = value_is p i w l in
      record { within = v.0; notation = v.1; at = v.2; means = next_means i v.0 v.1 j v.2 e }

  on_to : (i j : ℕ) → RefersTo p k i j → next p k os i ≡ Some j
  on_to i j t = means_next i t.within t.notation j t.at t.means

  far_walk : (i j : ℕ) → RefersFar p k i j → (s : ℕ) × (follow (next p k os) (suc s) i ≡ Some j)
  far_walk i j (directly t) = (0, first_step (next p k os) 0 i j (on_to i j t))
  far_walk i j (through h t r) =
      let f = far_walk h j r in
      (suc f.0, first_step (next p k os) (suc f.0) i h (on_to i h t) ∙ f.1)

  walk_once : (i j : ℕ) (o : Option ℕ) →
      i < length p.values →
      next p k os i ≡ o →
      walks.onward o (λ h. Some h) ≡ Some j →
      RefersFar p k i j
  walk_once i j None l f x = absurd cc
  walk_once i j (Some h) l f x = directly (leads_to i j l (f ∙ x))

  walk_again : (s i j : ℕ) (o : Option ℕ) →
      i < length p.values →
      next p k os i ≡ o →
      ((h : ℕ) → next p k os i ≡ Some h → follow (next p k os) (suc s) h ≡ Some j → RefersFar p k h j) →
      walks.onward o (λ h. follow (next p k os) (suc s) h) ≡ Some j →
      RefersFar p k i j
  walk_again s i j None l f go x = absurd cc
  walk_again s i j (Some h) l f go x = through h (leads_to i h l f) (go h f x)

  walk_far : (s i j : ℕ) → i < length p.values → follow (next p k os) (suc s) i ≡ Some j → RefersFar p k i j
  walk_far zero i j l e = walk_once i j (next p k os i) l refl e
  walk_far (suc s) i j l e =
      walk_again s i j (next p k os i) l refl (λ h f x. walk_far s h j (next_there i h f) x) e

  -- none of the places of the first s steps comes back to itself
  abbrev NoneBack : ℕ → ℕ → Type 0
  NoneBack s i = (t q : ℕ) → t < s → follow (next p k os) t i ≡ Some q → ComesBack (next p k os) q → ⊥

  none_on : (s i j : ℕ) → next p k os i ≡ Some j → NoneBack (suc s) i → NoneBack s j
  none_on s i j f n t q h y z = n (suc t) q (omega (arith, h)) (first_step (next p k os) t i j f ∙ y) z

  twice_on : (s i v : ℕ) (o : Option ℕ) →
      i < length p.values →
      next p k os i ≡ o →
      NoneBack (suc s) i →
      ((j : ℕ) → next p k os i ≡ Some j → follow (next p k os) s j ≡ Some v → IsMetTwice p k j v) →
      walks.onward o (λ h. follow (next p k os) s h) ≡ Some v →
      IsMetTwice p k i v
  twice_on s i v None l f n go x = absurd cc
  twice_on s i v (Some j) l f n go x =
      later j
      (λ r. (let c = far_walk i i r in n 0 i (omega arith) refl (record { steps = c.0; back = c.1 })))
      (leads_to i j l f)
      (go j f x)

  twice : (s i v : ℕ) →
      i < length p.values →
      follow (next p k os) s i ≡ Some v →
      ComesBack (next p k os) v →
      NoneBack s i →
      IsMetTwice p k i v
  twice zero i v l e b n =
      let q : i ≡ v = some_same i v e in
      subst (IsMetTwice p k i) q
      (here (walk_far b.steps i i l (subst (λ z. follow (next p k os) (suc b.steps) z ≡ Some z) (sym q) b.back)))
  twice (suc s) i v l e b n =
      twice_on s i v (next p k os i) l refl n
      (λ j f x. twice s j v (next_there i j f) x b (none_on s i j f n)) e

  pub value_twice : (i v : ℕ) → i < length p.values → Turns p k os i v → IsMetTwice p k i v
  value_twice i v l t = twice t.steps i v l t.chain t.back t.first

  pub round_nothing : (i v : ℕ) (M : Name) (n : Tree) (z : ℤ) →
      IsValueAt p i M n →
      Turns p k os i v →
      DenotesNumber p k M n z → ⊥
  round_nothing i v M n z at t s =
      let r = stands_ends i M n z at s in
      ends_not_back (next p k os) v r.0 (ends_after (next p k os) i v r.0 t.steps t.chain r.1) t.back

-- as many references as there are values, or more, lead into a circle
pub long_way : (p : Program) (k : WrittenKind) (os : List (Option ℕ)) (s i c : ℕ) →
    IsWhole p →
    AreReferred p os →
    i < length p.values →
    length os ≤ s →
    follow (next p k os) s i ≡ Some c →
    ComesRound (next p k os) i c
long_way p k os s i c w a l m e = record {
  reaches = record { steps = s; chain = e };
  back = far_back (next p k os) (length os) s i c (within_next p k os (refers_within p os w a)) (omega (arith, l, a.all)) m e;
}

-- ---- an end itself

number_stands : (p : Program) (k : WrittenKind) (M : Name) (z y : ℤ) → DenotesNumber p k M (number z) y → y ≡ z
number_stands p k M z y s = go s.within s.notation s.chain s.number_is
  where
    go : (K : Name) (l : Tree) → ReferencePath p k M (number z) K l → direct_number k l ≡ Some y → y ≡ z
    go K l there e = some_same y z (sym e)
    go K l (onward j means to rest) e = absurd means

pub number_only : (p : Program) (k : WrittenKind) (M : Name) (z : ℤ) → DenotesOnly p k M (number z) z
number_only p k M z = record {
  is_so = record { within = M; notation = number z; chain = there; number_is = refl };
  only_one = number_stands p k M z;
}

pub named_only : (p : Program) (k : WrittenKind) (M : Name) (q : Option Name) (x : Name) (z : ℤ) →
    named k q x ≡ Some z →
    DenotesOnly p k M (reference q x) z
named_only p k M q x z e = record {
  is_so = record { within = M; notation = reference q x; chain = there; number_is = e };
  only_one = λ y s. go y s.within s.notation s.chain s.number_is;
}
  where
    go : (y : ℤ) (K : Name) (l : Tree) → ReferencePath p k M (reference q x) K l → direct_number k l ≡ Some y → y ≡ z
    go y K l there f = some_same y z (sym f ∙ e)
    go y K l (onward j means to rest) f = let g : None ≡ Some z = sym means.0 ∙ e in absurd cc

-- a name that stands for value i, and for no other
target_denotes : (p : Program) (k : WrittenKind) (M : Name) (q : Option Name) (x : Name) (i : ℕ) (N : Name) (m : Tree) (z : ℤ) →
    named k q x ≡ None →
    ((j : ℕ) → Means p k M (reference q x) j → j ≡ i) →
    IsValueAt p i N m →
    DenotesNumber p k M (reference q x) z →
    DenotesNumber p k N m z
target_denotes p k M q x i N m z e only at s = go s.within s.notation s.chain s.number_is
  where
    go : (K : Name) (l : Tree) → ReferencePath p k M (reference q x) K l → direct_number k l ≡ Some z → DenotesNumber p k N m z
    go K l there f = let g : None ≡ Some z = sym e ∙ f in absurd cc
    go K l (onward {N = O} {m = o} j means to rest) f =
        let v = value_once p i O N o m (subst (λ t. IsValueAt p t O o) (only j means) to) at in
        subst (λ t. DenotesNumber p k t m z) v.0
        (subst (λ t. DenotesNumber p k O t z) v.1 (record { within = K; notation = l; chain = rest; number_is = f }))

further : (p : Program) (k : WrittenKind) (M : Name) (n : Tree) (i : ℕ) (N : Name) (m : Tree) (z : ℤ) →
    Means p k M n i →
    IsValueAt p i N m →
    DenotesNumber p k N m z →
    DenotesNumber p k M n z
further p k M n i N m z means at s = record {
  within = s.within;
  notation = s.notation;
  chain = onward i means at s.chain;
  number_is = s.number_is;
}

module _ (p : Program) (k : WrittenKind) (M : Name) (q : Option Name) (x : Name) (i : ℕ) (N : Name) (m : Tree)
    (e : named k q x ≡ None)
    (means : Means p k M (reference q x) i)
    (only : (j : ℕ) → Means p k M (reference q x) j → j ≡ i)
    (at : IsValueAt p i N m) where
  pub only_target : (z : ℤ) → DenotesOnly p k N m z → DenotesOnly p k M (reference q x) z
  only_target z s = record {
    is_so = further p k M (reference q x) i N m z means at s.is_so;
    only_one = λ y t. s.only_one y (target_denotes p k M q x i N m y e only at t);
  }

  pub target_lost : HasNoNumber p k N m → HasNoNumber p k M (reference q x)
  target_lost s = record {
    nothing = λ z t. s.nothing z (target_denotes p k M q x i N m z e only at t);
    within = s.within;
    notation = s.notation;
    chain = onward i means at s.chain;
    no_number = s.no_number;
    no_value = s.no_value;
  }

  pub target_round : (v : ℕ) →
      ((z : ℤ) → DenotesNumber p k N m z → ⊥) →
      IsMetTwice p k i v →
      IsCircularEnd p k M (reference q x) v
  target_round v none t = record {
    nothing = λ z s. none z (target_denotes p k M q x i N m z e only at s);
    start = i;
    means = means;
    twice = t;
  }

-- a name that stands for nothing
pub lost_here : (p : Program) (k : WrittenKind) (M : Name) (q : Option Name) (x : Name) →
    named k q x ≡ None →
    ((j : ℕ) → Refers p.modules M q x (assigned.Value j) → ⊥) →
    HasNoNumber p k M (reference q x)
lost_here p k M q x e none = record {
  nothing = λ z s. go z s.within s.notation s.chain s.number_is;
  within = M;
  notation = reference q x;
  chain = there;
  no_number = e;
  no_value = λ j means. none j means.1;
}
  where
    go : (z : ℤ) (K : Name) (l : Tree) → ReferencePath p k M (reference q x) K l → direct_number k l ≡ Some z → ⊥
    go z K l there f = let g : None ≡ Some z = sym e ∙ f in absurd cc
    go z K l (onward j means to rest) f = none j means.1

-- a name that stands for a value stands for what that does
module _ (p : Program) (k : WrittenKind) (os : List (Option ℕ)) (M : Name) (q : Option Name) (x : Name) (i : ℕ)
    (a : AreReferred p os)
    (w : IsWhole p)
    (e : named k q x ≡ None)
    (l : i < length p.values)
    (h : (j : ℕ) → (Some i ≡ Some j ↔ Refers p.modules M q x (assigned.Value j))) where
  means_it : Means p k M (reference q x) i
  means_it = (e, (h i).0 refl)

  means_only : (j : ℕ) → Means p k M (reference q x) j → j ≡ i
  means_only j n = sym (some_same i j ((h j).1 n.1))

  fault_at : (f : EndFault) (N : Name) (m : Tree) →
      IsValueAt p i N m →
      IsWayFault p k os i f →
      IsEndFault p k M (reference q x) f
  fault_at ends.NoMeaning N m at s =
      target_lost p k M q x i N m e means_it means_only at (value_lost p k os a w i N m l at s)
  fault_at (ends.Circular v) N m at s =
      target_round p k M q x i N m e means_it means_only at v (λ z. round_nothing p k os a w i v N m z at s)
      (value_twice p k os a w i v l s)

  pub end_answers : (r : Result ℤ EndFault) →
      MatchResult r (Ends p k os i) (IsWayFault p k os i) →
      MatchResult r (DenotesOnly p k M (reference q x)) (IsEndFault p k M (reference q x))
  end_answers (Ok z) s =
      let v = value_is p i w l in
      only_target p k M q x i v.0 v.1 e means_it means_only v.2 z (value_only p k os a w i v.0 v.1 z l v.2 s)
  end_answers (Err f) s = let v = value_is p i w l in fault_at f v.0 v.1 v.2 s
