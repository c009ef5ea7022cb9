-- Marks of numbers, one after the other, and what marked numbers lead to; what ranks say of circles.
use Rattle.std.proofs.Common.{◌≡◌, ◌⊎◌, inl, inr, ℕ, zero, suc, ◌+◌, ◌<◌, ◌≤◌, ◌==◌, Bool, false, cond, eqb, List, [], ◌∷◌, ◌++◌, length, Some, refl, sym, subst, ap, ◌∙◌, arith, set, replicate, get_or, eq-eqb}
use Rattle.std.specs.Prelude.{slice_get, slice_index, IsTrue}
use Rattle.std.specs.List.{AllByRecursion}
use Rattle.std.proofs.lemmas.Bool.{eqb-true, cases_Bool, cases_lt}
use Rattle.std.proofs.lemmas.List.{length-set}
use Rattle.std.proofs.lemmas.Option.{slice_get_within, slice_get-get_or, get_or_from_slice_get, same_Some}
use Rattle.asn_base.specs.Names.{IsMember, is_first, is_later}
use Rattle.asn_base.specs.Depths.{row_at}
use Rattle.asn_base.specs.proving.Reaching.{Reaches, itself, onward, RowReaches, OccursIn, IsMarked, unmarked, Marks, MarksReached, AreFrom, AreAbove, Rise}
use Rattle.asn_base.specs.proving.Lists.{set_kept, set_here, set_only, last, stays}

-- ---- lists of numbers

abbrev bit : Bool → ℕ
bit b = cond b 0 1

differ : (v s : ℕ) → (v ≡ s → ⊥) → (v == s) ≡ false
differ v s n = elim (cases_Bool (v == s)) [ inl e ↦ absurd (n (eqb-true v s e)) | inr e ↦ e ]

set_count : (xs : List ℕ) (i v : ℕ) → slice_get xs i ≡ Some v → (v ≡ 1 → ⊥) → unmarked (set xs i 1) + 1 ≡ unmarked xs
set_count [] i v e f = absurd cc
set_count (x ∷ xs) zero v e f =
    let q : x ≡ v = cc in
    let g : (x == 1) ≡ false = ap (λ z. z == 1) q ∙ differ v 1 f in
    number (cond (x == 1) 0 1) (unmarked xs) (ap bit g)
  where
    number : (b n : ℕ) → b ≡ 1 → 0 + n + 1 ≡ b + n
    number b n f = omega (arith, f)
set_count (x ∷ xs) (suc i) v e f =
    let h = set_count xs i v e f in
    omega (arith, h)

either : (xs : List ℕ) (x k j : ℕ) → slice_get (xs ++ x ∷ []) k ≡ Some j → OccursIn xs j ⊎ (x ≡ j)
either [] x zero j e = let q : x ≡ j = cc in inr q
either [] x (suc k) j e = absurd cc
either (y ∷ xs) x zero j e = inl (zero, e)
either (y ∷ xs) x (suc k) j e = elim (either xs x k j e) [ inl h ↦ inl (suc h.0, h.1) | inr h ↦ inr h ]

-- ---- marking

pub marked_now : (i v : ℕ) (marks waiting : List ℕ) → slice_get marks i ≡ Some v → (v ≡ 1 → ⊥) → Marks (λ j. j ≡ i) marks (set marks i 1) waiting (waiting ++ i ∷ [])
marked_now i v marks waiting e f =
    let here : IsMarked (set marks i 1) i = set_here marks i 1 (slice_get_within marks i v e) in
    record {
      long = length-set marks i 1;
      all = λ j q. subst (λ z. IsMarked (set marks i 1) z) (sym q) here;
      kept = λ j h. set_kept marks i j 1 h;
      only = λ j h. elim (set_only marks i j 1 1 h) [ inl g ↦ inl g | inr g ↦ inr (g.0, (length waiting, last waiting i ∙ ap Some (sym g.0))) ];
      wait = λ j h. (h.0, stays waiting (i ∷ []) h.0 j h.1);
      marked = λ g j h. elim (either waiting i h.0 j h.1) [ inl k ↦ set_kept marks i j 1 (g j k) | inr k ↦ subst (λ z. IsMarked (set marks i 1) z) k here ];
      count = counted i v marks waiting e f;
    }
  where
    counted : (i v : ℕ) (marks waiting : List ℕ) → slice_get marks i ≡ Some v → (v ≡ 1 → ⊥) → unmarked (set marks i 1) + length (waiting ++ i ∷ []) ≡ unmarked marks + length waiting
    counted i v marks waiting e f = omega (arith, set_count marks i v e f, longer waiting i)
      where
        longer : (xs : List ℕ) (x : ℕ) → length (xs ++ x ∷ []) ≡ length xs + 1
        longer [] x = refl
        longer (y ∷ xs) x = let h = longer xs x in omega (arith, h)

pub marks_none : (Q : ℕ → Type 0) (marks waiting : List ℕ) → ((j : ℕ) → Q j → IsMarked marks j) → Marks Q marks marks waiting waiting
marks_none Q marks waiting all = record {
  long = refl;
  all = all;
  kept = λ j h. h;
  only = λ j h. inl h;
  wait = λ j h. h;
  marked = λ f. f;
  count = refl;
}

marks_both : (Q R P : ℕ → Type 0) (m m' m'' w w' w'' : List ℕ) → Marks Q m m' w w' → Marks R m' m'' w' w'' → ((j : ℕ) → P j → Q j ⊎ R j) → ((j : ℕ) → Q j → P j) → ((j : ℕ) → R j → P j) → Marks P m m'' w w''
marks_both Q R P m m' m'' w w' w'' a b split left right = record {
  long = b.long ∙ a.long;
  all = λ j p. elim (split j p) [ inl q ↦ b.kept j (a.all j q) | inr r ↦ b.all j r ];
  kept = λ j h. b.kept j (a.kept j h);
  only = λ j h. elim (b.only j h) [
    | inl g ↦ elim (a.only j g) [ inl k ↦ inl k | inr k ↦ inr (left j k.0, b.wait j k.1) ]
    | inr g ↦ inr (right j g.0, g.1)
  ];
  wait = λ j h. b.wait j (a.wait j h);
  marked = λ f. b.marked (a.marked f);
  count = b.count ∙ a.count;
}

marks_alike : (Q P : ℕ → Type 0) (m m' w w' : List ℕ) → Marks Q m m' w w' → ((j : ℕ) → P j → Q j) → ((j : ℕ) → Q j → P j) → Marks P m m' w w'
marks_alike Q P m m' w w' a to from = record {
  long = a.long;
  all = λ j p. a.all j (to j p);
  kept = a.kept;
  only = λ j h. elim (a.only j h) [ inl g ↦ inl g | inr g ↦ inr (from j g.0, g.1) ];
  wait = a.wait;
  marked = a.marked;
  count = a.count;
}

-- ---- a row, number by number

-- j is one of the first n numbers of the row
abbrev pub IsBelow : List ℕ → ℕ → ℕ → Type 0
IsBelow row n j = (i : ℕ) × (i < n) × (slice_get row i ≡ Some j)

pub member_of : (row : List ℕ) (i j : ℕ) → slice_get row i ≡ Some j → IsMember j row
member_of [] i j e = absurd cc
member_of (x ∷ row) zero j e = let q : x ≡ j = cc in subst (λ z. IsMember z (x ∷ row)) q is_first
member_of (x ∷ row) (suc i) j e = is_later (member_of row i j e)

place_of_member : (row : List ℕ) (j : ℕ) → IsMember j row → OccursIn row j
place_of_member [] j m = elim m [ ]
place_of_member (x ∷ row) j is_first = (0, refl)
place_of_member (x ∷ row) j (is_later m) = let p = place_of_member row j m in (suc p.0, p.1)

pub row_none : (row m w : List ℕ) → Marks (λ j. IsBelow row 0 j) m m w w
row_none row m w = marks_none (λ j. IsBelow row 0 j) m w (λ j b. let l = b.1 in absurd (omega (arith, l)))

pub row_more : (row : List ℕ) (n x : ℕ) (m m' m'' w w' w'' : List ℕ) → slice_get row n ≡ Some x → Marks (λ j. IsBelow row n j) m m' w w' → Marks (λ j. j ≡ x) m' m'' w' w'' → Marks (λ j. IsBelow row (n + 1) j) m m'' w w''
row_more row n x m m' m'' w w' w'' e a b =
    marks_both (λ j. IsBelow row n j) (λ j. j ≡ x) (λ j. IsBelow row (n + 1) j) m m' m'' w w' w'' a b (λ j p. split j p.0 p.1 p.2) (λ j p. (p.0, let l = p.1 in omega (arith, l), p.2)) (λ j p. (n, omega arith, e ∙ ap Some (sym p)))
  where
    split : (j i : ℕ) → i < n + 1 → slice_get row i ≡ Some j → IsBelow row n j ⊎ (j ≡ x)
    split j i l g = elim (cases_lt i n) [
      | inl h ↦ inl (i, h, g)
      | inr h ↦ (let q : i ≡ n = omega (arith, h, l) in inr (same_Some j x (sym g ∙ ap (slice_get row) q ∙ e)))
    ]

pub row_all : (row : List ℕ) (n : ℕ) (m m' w w' : List ℕ) → length row ≤ n → Marks (λ j. IsBelow row n j) m m' w w' → Marks (λ j. IsMember j row) m m' w w'
row_all row n m m' w w' l a = marks_alike (λ j. IsBelow row n j) (λ j. IsMember j row) m m' w w' a (λ j p. let q = place_of_member row j p in (q.0, let h = slice_get_within row q.0 j q.1 in omega (arith, h, l), q.1)) (λ j p. member_of row p.0 j p.2)

-- ---- what marked numbers lead to

-- some marked numbers still wait
pub record IsSearching (g : List (List ℕ)) (first marks waiting : List ℕ) : Type 0 where
  pub long : length marks ≡ length first
  pub kept : (j : ℕ) → IsMarked first j → IsMarked marks j
  pub marked : (j : ℕ) → OccursIn waiting j → IsMarked marks j
  pub closed : (i : ℕ) → IsMarked marks i → OccursIn waiting i ⊎ ((k : ℕ) → IsMember k (row_at g i) → IsMarked marks k)
  pub only : (j : ℕ) → IsMarked marks j → (i : ℕ) × IsMarked first i × Reaches g j i

pub searching_first : (g : List (List ℕ)) (marks waiting : List ℕ) → ((j : ℕ) → IsMarked marks j → OccursIn waiting j) → ((j : ℕ) → OccursIn waiting j → IsMarked marks j) → IsSearching g marks marks waiting
searching_first g marks waiting wait marked = record {
  long = refl;
  kept = λ j h. h;
  marked = marked;
  closed = λ i h. inl (wait i h);
  only = λ j h. (j, h, itself);
}

reaches_more : {g : List (List ℕ)} {j k i : ℕ} → Reaches g j i → IsMember k (row_at g j) → Reaches g k i
reaches_more itself m = onward m itself
reaches_more (onward n r) m = onward n (reaches_more r m)

pub searching_next : (g : List (List ℕ)) (at : ℕ) (first marks marks' waiting waiting' : List ℕ) → IsSearching g first marks (waiting ++ at ∷ []) → Marks (λ k. IsMember k (row_at g at)) marks marks' waiting waiting' → IsSearching g first marks' waiting'
searching_next g at first marks marks' waiting waiting' h m =
    let here : IsMarked marks at = h.marked at (length waiting, last waiting at) in
    record {
      long = m.long ∙ h.long;
      kept = λ j k. m.kept j (h.kept j k);
      marked = m.marked (λ j k. h.marked j (k.0, stays waiting (at ∷ []) k.0 j k.1));
      closed = λ i k. elim (m.only i k) [
        | inl n ↦ elim (h.closed i n) [
          | inl w ↦ elim (either waiting at w.0 i w.1) [
            | inl v ↦ inl (m.wait i v)
            | inr q ↦ inr (λ p is. m.all p (subst (λ z. IsMember p (row_at g z)) (sym q) is))
          ]
          | inr c ↦ inr (λ p is. m.kept p (c p is))
        ]
        | inr n ↦ inl n.1
      ];
      only = λ j k. elim (m.only j k) [
        | inl n ↦ h.only j n
        | inr n ↦ (let o = h.only at here in (o.0, o.1, reaches_more o.2 n.0))
      ];
    }

pub searching_below : (g : List (List ℕ)) (at : ℕ) (first marks waiting : List ℕ) → IsSearching g first marks (waiting ++ at ∷ []) → at < length marks
searching_below g at first marks waiting h = slice_get_within marks at 1 (h.marked at (length waiting, last waiting at))

pub searching_last : (g : List (List ℕ)) (first marks waiting : List ℕ) → length waiting ≡ 0 → IsSearching g first marks waiting → MarksReached g first marks
searching_last g first marks waiting z h = record {
  long = h.long;
  kept = h.kept;
  closed = λ i k m p. elim (h.closed i m) [ inl w ↦ absurd (none waiting z w.0 i w.1) | inr c ↦ c k p ];
  only = h.only;
}
  where
    none : (xs : List ℕ) → length xs ≡ 0 → (k i : ℕ) → slice_get xs k ≡ Some i → ⊥
    none xs z k i e = let l = slice_get_within xs k i e in absurd (omega (arith, l, z))

reached_marked : {g : List (List ℕ)} {first marks : List ℕ} {j i : ℕ} → MarksReached g first marks → IsMarked marks i → Reaches g j i → IsMarked marks j
reached_marked m h itself = h
reached_marked m h (onward {k = k} n r) = reached_marked m (m.closed _ k h n) r

-- ---- one search

pub no_marks : (n j : ℕ) → IsMarked (replicate n 0) j → ⊥
no_marks zero j e = absurd cc
no_marks (suc n) zero e = absurd cc
no_marks (suc n) (suc j) e = no_marks n j e

pub first_wait : (Q : ℕ → Type 0) (m m' w w' : List ℕ) → ((j : ℕ) → IsMarked m j → ⊥) → Marks Q m m' w w' → (j : ℕ) → IsMarked m' j → OccursIn w' j
first_wait Q m m' w w' fresh a j h = elim (a.only j h) [ inl g ↦ absurd (fresh j g) | inr g ↦ g.1 ]

pub first_marked : (Q : ℕ → Type 0) (m m' w w' : List ℕ) → w ≡ [] → Marks Q m m' w w' → (j : ℕ) → OccursIn w' j → IsMarked m' j
first_marked Q m m' w w' e a = a.marked (λ j h. absurd (none w e h.0 j h.1))
  where
    none : (xs : List ℕ) → xs ≡ [] → (k i : ℕ) → slice_get xs k ≡ Some i → ⊥
    none [] z k i e = absurd cc
    none (x ∷ xs) z k i e = absurd cc

pub found : (g : List (List ℕ)) (row : List ℕ) (j : ℕ) (m m' m'' w w' : List ℕ) → ((j : ℕ) → IsMarked m j → ⊥) → Marks (λ k. IsMember k row) m m' w w' → MarksReached g m' m'' → j < length m'' → IsTrue (eqb (get_or m'' j 0) 1) → RowReaches g row j
found g row j m m' m'' w w' fresh a b l t =
    let e : get_or m'' j 0 ≡ 1 = eqb-true (get_or m'' j 0) 1 t in
    let o = b.only j (slice_get-get_or m'' j 0 l ∙ ap Some e) in
    elim (a.only o.0 o.1) [ inl h ↦ absurd (fresh o.0 h) | inr h ↦ (o.0, h.0, o.2) ]

pub finds : (g : List (List ℕ)) (row : List ℕ) (j : ℕ) (m m' m'' w w' : List ℕ) → Marks (λ k. IsMember k row) m m' w w' → MarksReached g m' m'' → RowReaches g row j → IsTrue (eqb (get_or m'' j 0) 1)
finds g row j m m' m'' w w' a b h = eq-eqb (get_or m'' j 0) 1 (get_or_from_slice_get m'' j 1 0 (reached_marked b (b.kept h.0 (a.all h.0 h.1)) h.2))

-- ---- ranks

all_member : (P : ℕ → Type 0) (xs : List ℕ) (x : ℕ) → AllByRecursion P xs → IsMember x xs → P x
all_member P [] x a m = elim m [ ]
all_member P (y ∷ xs) x a is_first = a.0
all_member P (y ∷ xs) x a (is_later m) = all_member P xs x a.1 m

reaches_up : (g : List (List ℕ)) (ranks : List ℕ) {j i : ℕ} → Rise g ranks → Reaches g j i → slice_index ranks i ≤ slice_index ranks j
reaches_up g ranks rise itself = omega arith
reaches_up g ranks {j} {i} rise (onward {k = k} m r) =
    let a = all_member (λ z. slice_index ranks i ≤ slice_index ranks z) (row_at g i) k (rise i) m in
    let b = reaches_up g ranks rise r in
    omega (arith, a, b)

pub not_back : (g : List (List ℕ)) (ranks row : List ℕ) (j : ℕ) → Rise g ranks → AreAbove (slice_index ranks j) ranks row → RowReaches g row j → ⊥
not_back g ranks row j rise above r =
    let a = all_member (λ z. slice_index ranks j < slice_index ranks z) row r.0 above r.1 in
    let b = reaches_up g ranks rise r.2 in
    absurd (omega (arith, a, b))

pub row_end : (g : List (List ℕ)) (i : ℕ) → length g ≤ i → row_at g i ≡ []
row_end [] i l = refl
row_end (r ∷ g) zero l = absurd (omega arith)
row_end (r ∷ g) (suc i) l = row_end g i (omega arith)

pub rise_end : (g : List (List ℕ)) (ranks : List ℕ) (n : ℕ) → length g ≤ n → ((i : ℕ) → i < n → AreFrom (slice_index ranks i) ranks (row_at g i)) → Rise g ranks
rise_end g ranks n l f i = elim (cases_lt i n) [
  | inl h ↦ f i h
  | inr h ↦ subst (AreFrom (slice_index ranks i) ranks) (sym (row_end g i (omega (arith, l, h)))) tt
]

pub none_reach : (g d : List (List ℕ)) (n k : ℕ) → length d ≤ n → ((k : ℕ) → k < n → RowReaches g (row_at d k) k → ⊥) → RowReaches g (row_at d k) k → ⊥
none_reach g d n k l f r = elim (cases_lt k n) [
  | inl h ↦ f k h r
  | inr h ↦ (let e = row_end d k (omega (arith, l, h)) in empty (subst (IsMember r.0) e r.1))
]
  where
    empty : {x : ℕ} → IsMember x [] → ⊥
    empty m = elim m [ ]
