-- Components that were read, some of which may still be missing.
use Rattle.std.proofs.Common.{arith, ◌≡◌, ℕ, zero, suc, ◌+◌, ◌≤◌, Bool, true, false, List, [], ◌∷◌, ◌++◌, refl, sym, ap, subst}
use Rattle.std.specs.Prelude.{Some, None, slice_get, max}
use Rattle.asn_base.specs.Abstract.{AbstractValue, Row, end, absent, present}
use Rattle.asn_base.specs.Tags.{is_mandatory}
use Rattle.asn_base.specs.Types.{Component, Resolved}
use Rattle.encodings.specs.Rules.{Basic}
use Rattle.encodings.specs.Orders.{EncodingInserted, here, there, Permutes, permutes_more, Merges, merges_none, merges_second}
use Rattle.encodings.specs.Encoding.{EncodesTo, Members, no_member, left_out, member}
use Rattle.encodings.specs.Levels.{levels, member_levels}
use Rattle.laws_reading.specs.TokensShow.{blank, with_at, IsAbsentAt}

-- encodings of some components, in order of definition
pub data Partly (s : List Resolved) : List Component → Row → ℕ → List (List ℕ) → Type 0 where
  none_there : Partly s [] end 0 []
  missing : {c : Component} {cs : List Component} {ws : Row} {n : ℕ} {xs : List (List ℕ)}
      → Partly s cs ws n xs
      → Partly s (c ∷ cs) (absent ws) n xs
  comes : {c : Component} {cs : List Component} {w : AbstractValue} {ws : Row} {j n : ℕ} {x : List ℕ} {xs : List (List ℕ)}
      → EncodesTo s Basic c.type w j x
      → Partly s cs ws n xs
      → Partly s (c ∷ cs) (present w ws) (j + n) (x ∷ xs)

abbrev pub partly_levels : {s : List Resolved} {cs : List Component} {ws : Row} {n : ℕ} {xs : List (List ℕ)} → Partly s cs ws n xs → ℕ
partly_levels none_there = 0
partly_levels (missing p) = partly_levels p
partly_levels (comes a p) = max (levels a) (partly_levels p)

abbrev pub IsPresentAt : Row → ℕ → Type 0
IsPresentAt end i = ⊥
IsPresentAt (absent ws) zero = ⊥
IsPresentAt (present w ws) zero = Unit {0}
IsPresentAt (absent ws) (suc i) = IsPresentAt ws i
IsPresentAt (present w ws) (suc i) = IsPresentAt ws i

pub all_missing : {s : List Resolved} (cs : List Component) → (p : Partly s cs (blank cs) 0 []) × (partly_levels p ≡ 0)
all_missing [] = (none_there, refl)
all_missing (c ∷ cs) = let r = all_missing cs in (missing r.0, r.1)

pub blank_absent : (cs : List Component) (i : ℕ) → IsAbsentAt (blank cs) i
blank_absent [] i = tt
blank_absent (c ∷ cs) zero = tt
blank_absent (c ∷ cs) (suc i) = blank_absent cs i

some_same : {A : Type 0} {x y : A} → Some x ≡ Some y → x ≡ y
some_same e = cc

none_some : {A : Type 0} {x : A} → None ≡ Some x → ⊥
none_some e = cc

-- one component more
pub record Put (s : List Resolved) (cs : List Component) (ws : Row) (xs : List (List ℕ)) (i : ℕ) (w : AbstractValue) (x : List ℕ) (many : ℕ) (d : ℕ) : Type 0 where
  pub row : Row
  pub is_row : row ≡ with_at ws i w
  pub count : ℕ
  pub as_many : count ≡ many
  pub encodings : List (List ℕ)
  pub partly : Partly s cs row count encodings
  pub few : partly_levels partly + d ≤ 400
  pub inserted : EncodingInserted x xs encodings
  pub is_there : IsPresentAt row i
  pub others_absent : (k : ℕ) → (k ≡ i → ⊥) → IsAbsentAt ws k → IsAbsentAt row k
  pub others_present : (k : ℕ) → IsPresentAt ws k → IsPresentAt row k

pub put : {s : List Resolved} {cs : List Component} {ws : Row} {n : ℕ} {xs : List (List ℕ)} {c : Component} {w : AbstractValue} {j : ℕ} {x : List ℕ}
    (d : ℕ) (p : Partly s cs ws n xs) (i : ℕ)
    → slice_get cs i ≡ Some c
    → IsAbsentAt ws i
    → (a : EncodesTo s Basic c.type w j x)
    → levels a + d ≤ 400
    → partly_levels p + d ≤ 400
    → Put s cs ws xs i w x (j + n) d
put d none_there i e f a l m = absurd (none_some e)
put {s} {cs = b ∷ cs} {c = c} {w = w} {j = j} {x = x} d (missing {ws = ws} {n = n} {xs = xs} p) zero e f a l m =
    let a2 = subst (λ q. (z : EncodesTo s Basic q.type w j x) × (levels z + d ≤ 400)) (some_same (sym e)) (a, l) in
    let l2 = a2.1 in
    record {
      row = present w ws;
      is_row = refl;
      count = j + n;
      as_many = refl;
      encodings = x ∷ xs;
      partly = comes a2.0 p;
      few = omega arith;
      inserted = here;
      is_there = tt;
      others_absent = λ k. by_absent k;
      others_present = λ k. by_present k;
    }
  where
    by_absent : (k : ℕ) → (k ≡ zero → ⊥) → IsAbsentAt (absent ws) k → IsAbsentAt (present w ws) k
    by_absent zero n g = n refl
    by_absent (suc k) n g = g

    by_present : (k : ℕ) → IsPresentAt (absent ws) k → IsPresentAt (present w ws) k
    by_present zero g = tt
    by_present (suc k) g = g
put d (comes b p) zero e f a l m = absurd f
put {x = x} d (missing {ws = ws} p) (suc i) e f a l m =
    let r = put d p i e f a l m in
    record {
      row = absent r.row;
      is_row = ap absent r.is_row;
      count = r.count;
      as_many = r.as_many;
      encodings = r.encodings;
      partly = missing r.partly;
      few = r.few;
      inserted = r.inserted;
      is_there = r.is_there;
      others_absent = λ k. later_absent ws r.row i r.others_absent k;
      others_present = λ k. later_present ws r.row r.others_present k;
    }
  where
    later_absent : (ws vs : Row) (i : ℕ) → ((k : ℕ) → (k ≡ i → ⊥) → IsAbsentAt ws k → IsAbsentAt vs k) → (k : ℕ) → (k ≡ suc i → ⊥) → IsAbsentAt (absent ws) k → IsAbsentAt (absent vs) k
    later_absent ws vs i h zero n g = tt
    later_absent ws vs i h (suc k) n g = h k (λ e. n (ap suc e)) g

    later_present : (ws vs : Row) → ((k : ℕ) → IsPresentAt ws k → IsPresentAt vs k) → (k : ℕ) → IsPresentAt (absent ws) k → IsPresentAt (absent vs) k
    later_present ws vs h zero g = g
    later_present ws vs h (suc k) g = h k g
put {x = x} d (comes {w = v} {ws = ws} {j = j} {x = y} b p) (suc i) e f a l m =
    let r = put d p i e f a l (omega arith) in
    let g = r.few in
    record {
      row = present v r.row;
      is_row = ap (λ q. present v q) r.is_row;
      count = j + r.count;
      as_many = (let z = r.as_many in omega arith);
      encodings = y ∷ r.encodings;
      partly = comes b r.partly;
      few = omega arith;
      inserted = there r.inserted;
      is_there = r.is_there;
      others_absent = λ k. later_absent v ws r.row i r.others_absent k;
      others_present = λ k. later_present v ws r.row r.others_present k;
    }
  where
    later_absent : (w : AbstractValue) (ws vs : Row) (i : ℕ) → ((k : ℕ) → (k ≡ i → ⊥) → IsAbsentAt ws k → IsAbsentAt vs k) → (k : ℕ) → (k ≡ suc i → ⊥) → IsAbsentAt (present w ws) k → IsAbsentAt (present w vs) k
    later_absent w ws vs i h zero n g = g
    later_absent w ws vs i h (suc k) n g = h k (λ e. n (ap suc e)) g

    later_present : (w : AbstractValue) (ws vs : Row) → ((k : ℕ) → IsPresentAt ws k → IsPresentAt vs k) → (k : ℕ) → IsPresentAt (present w ws) k → IsPresentAt (present w vs) k
    later_present w ws vs h zero g = g
    later_present w ws vs h (suc k) g = h k g

-- if those that must be present are, they are members
pub all_there : {s : List Resolved} {cs : List Component} {ws : Row} {n : ℕ} {xs : List (List ℕ)} (p : Partly s cs ws n xs)
    → ((i : ℕ) (c : Component) → slice_get cs i ≡ Some c → is_mandatory c ≡ true → IsPresentAt ws i)
    → (m : Members s Basic cs ws n xs) × (member_levels m ≡ partly_levels p)
all_there none_there h = (no_member, refl)
all_there {s} {cs = c ∷ cs} (missing {ws = ws} {n = n} {xs = xs} p) h =
    let r = all_there p (λ i d f g. h (suc i) d f g) in
    by (is_mandatory c) refl r
  where
    by : (b : Bool) → is_mandatory c ≡ b → (m : Members s Basic cs ws n xs) × (member_levels m ≡ partly_levels p) → (m : Members s Basic (c ∷ cs) (absent ws) n xs) × (member_levels m ≡ partly_levels p)
    by true e r = absurd (h 0 c refl e)
    by false e r = (left_out e r.0, r.1)
all_there (comes a p) h =
    let r = all_there p (λ i d f g. h (suc i) d f g) in
    (member a tt r.0, ap (λ q. max (levels a) q) r.1)

-- ---- orders

pub one_before : {x : List ℕ} {xs ys zs : List (List ℕ)} → EncodingInserted x xs ys → Permutes xs zs → Permutes ys (x ∷ zs)
one_before here p = permutes_more p here
one_before (there i) (permutes_more p q) = permutes_more (one_before i p) (there q)

pub all_second : (us : List (List ℕ)) → Merges [] us us
all_second [] = merges_none
all_second (u ∷ us) = merges_second (all_second us)

pub seconds_before : {xs us ys : List (List ℕ)} (vs : List (List ℕ)) → Merges xs us ys → Merges xs (vs ++ us) (vs ++ ys)
seconds_before [] m = m
seconds_before (v ∷ vs) m = merges_second (seconds_before vs m)
