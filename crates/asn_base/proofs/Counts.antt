-- How often values of a type are in two rows, up to being alike. Two rows with as many members are alike in some order
-- exactly if each member of the first is alike to more members of the second than there are such members before it.
use Rattle.std.proofs.Common.{arith, ◌≡◌, ℕ, zero, suc, ◌-◌, ◌<◌, inl, inr, List, [], ◌∷◌, length, drop, take, refl, sym, ap, subst, ◌∙◌}
use Rattle.asn_base.specs.Abstract.{AbstractValue, Row, present, row_of_list}
use Rattle.asn_base.specs.Decided.{Count, no_more, counted, passed, IsRarer}
use Rattle.asn_base.specs.Types.{Resolved}
use Rattle.asn_base.specs.Typed.{members, ValueIn, AreElements, no_element, one_element}
use Rattle.asn_base.specs.Same.{Inserted, here, there, Alike, AlikeInAnyOrder, none_left, pair}
use Rattle.asn_base.proofs.AlikeOrNot.{decided}
use Rattle.asn_base.proofs.Levels.{take_out}
use Rattle.asn_base.proofs.Sameness.{alike_self, alike_sym, alike_trans}

pub one_count : {s : List Resolved} {u : ℕ} {x : AbstractValue} {vs : Row} {m n : ℕ} → Count s u x vs m → Count s u x vs n → m ≡ n
one_count no_more no_more = refl
one_count (counted h a) (counted g b) = ap suc (one_count a b)
one_count (counted h a) (passed g b) = absurd (g h)
one_count (passed h a) (counted g b) = absurd (h g)
one_count (passed h a) (passed g b) = one_count a b

-- the members can be counted
pub counts : {s : List Resolved} {n u : ℕ} {x : AbstractValue} {vs : Row} → ValueIn s n u x → AreElements s n u vs → (k : ℕ) × Count s u x vs k
counts x no_element = (0, no_more)
counts x (one_element v a) =
    let c = counts x a in
    elim (decided x v) [ inl h ↦ (suc c.0, counted h c.1) | inr h ↦ (c.0, passed h c.1) ]

-- the count of what is alike is the same
recounted : {s : List Resolved} {u : ℕ} {x y : AbstractValue} {vs : Row} {n : ℕ} → Alike s u x y → Count s u x vs n → Count s u y vs n
recounted e no_more = no_more
recounted e (counted h a) = counted (alike_trans (alike_sym e) h) (recounted e a)
recounted e (passed h a) = passed (λ g. h (alike_trans e g)) (recounted e a)

insert_counted : {s : List Resolved} {u n : ℕ} {x w : AbstractValue} {ws xs : Row} → Inserted w ws xs → Alike s u x w → Count s u x ws n → Count s u x xs (suc n)
insert_counted here h c = counted h c
insert_counted (there i) h (counted g c) = counted g (insert_counted i h c)
insert_counted (there i) h (passed g c) = passed g (insert_counted i h c)

insert_passed : {s : List Resolved} {u n : ℕ} {x w : AbstractValue} {ws xs : Row} → Inserted w ws xs → (Alike s u x w → ⊥) → Count s u x ws n → Count s u x xs n
insert_passed here h c = passed h c
insert_passed (there i) h (counted g c) = counted g (insert_passed i h c)
insert_passed (there i) h (passed g c) = passed g (insert_passed i h c)

-- rows that are alike have as many
same_count : {s : List Resolved} {u n : ℕ} {x : AbstractValue} {vs ws : Row} → AlikeInAnyOrder s u vs ws → Count s u x vs n → Count s u x ws n
same_count none_left no_more = no_more
same_count (pair e a i) (counted h c) = insert_counted i (alike_trans h e) (same_count a c)
same_count (pair e a i) (passed h c) = insert_passed i (λ g. h (alike_trans g (alike_sym e))) (same_count a c)

-- fewer are counted before a member that is alike than in all
record Before (s : List Resolved) (u : ℕ) (x : AbstractValue) (vs : Row) (k : ℕ) : Type 0 where
  many : ℕ
  fewer : many < k
  before : Count s u x vs many

before : {s : List Resolved} {u k : ℕ} {x : AbstractValue} (j : ℕ) (vs : List AbstractValue) {os : List AbstractValue} → drop j vs ≡ x ∷ os → Alike s u x x → Count s u x (row_of_list vs) k → Before s u x (row_of_list (take j vs)) k
before zero [] e h c = absurd cc
before (suc j) [] e h c = absurd cc
before zero (v ∷ vs) e h (counted g c) = record { many = 0; fewer = omega arith; before = no_more }
before {s} {u} {x = x} zero (v ∷ vs) e h (passed g c) = absurd (g (subst (λ q. Alike s u x q) (let q : x ≡ v = cc in q) h))
before (suc j) (v ∷ vs) e h (counted g c) =
    let b = before j vs e h c in
    record { many = suc b.many; fewer = let l = b.fewer in omega arith; before = counted g b.before }
before (suc j) (v ∷ vs) e h (passed g c) =
    let b = before j vs e h c in
    record { many = b.many; fewer = b.fewer; before = passed g b.before }

-- of rows that are alike, the first has fewer before a member than the second has
pub rarer_before : {s : List Resolved} {n u : ℕ} {x : AbstractValue} (j : ℕ) (vs : List AbstractValue) {os : List AbstractValue} {ws : Row} → drop j vs ≡ x ∷ os → ValueIn s n u x → AreElements s n u (row_of_list vs) → AlikeInAnyOrder s u (row_of_list vs) ws → IsRarer s u x (row_of_list (take j vs)) ws
rarer_before j vs e a b c =
    let k = counts a b in
    let f = before j vs e (alike_self a) k.1 in
    (f.many, k.0, f.fewer, f.before, same_count c k.1)

-- the last member that is counted: one fewer is counted before it
record Last (s : List Resolved) (u : ℕ) (x : AbstractValue) (vs : List AbstractValue) (k : ℕ) : Type 0 where
  place : ℕ
  it : AbstractValue
  rest : List AbstractValue
  within : place < length vs
  at : drop place vs ≡ it ∷ rest
  with_it : Alike s u x it
  before : Count s u x (row_of_list (take place vs)) k

last : {s : List Resolved} {u k : ℕ} {x : AbstractValue} (vs : List AbstractValue) {n : ℕ} → n ≡ suc k → Count s u x (row_of_list vs) n → Last s u x vs k
last [] e no_more = absurd (omega arith)
last {k = zero} (v ∷ vs) e (counted h c) = record { place = 0; it = v; rest = vs; within = omega arith; at = refl; with_it = h; before = no_more }
last {k = suc k} (v ∷ vs) e (counted h c) =
    let l = last {k = k} vs (omega arith) c in
    record { place = suc l.place; it = l.it; rest = l.rest; within = let w = l.within in omega arith; at = l.at; with_it = l.with_it; before = counted h l.before }
last (v ∷ vs) e (passed h c) =
    let l = last vs e c in
    record { place = suc l.place; it = l.it; rest = l.rest; within = let w = l.within in omega arith; at = l.at; with_it = l.with_it; before = passed h l.before }

-- the one that is counted
record Counted (s : List Resolved) (u : ℕ) (x : AbstractValue) (ws : Row) : Type 0 where
  it : AbstractValue
  left : Row
  with_it : Alike s u x it
  at : Inserted it left ws

counted_one : {s : List Resolved} {u : ℕ} {x : AbstractValue} {ws : Row} {n : ℕ} (k : ℕ) → n ≡ suc k → Count s u x ws n → Counted s u x ws
counted_one k e no_more = absurd (omega arith)
counted_one k e (counted {v = v} {vs = vs} h c) = record { it = v; left = vs; with_it = h; at = here }
counted_one k e (passed {v = v} h c) = let o = counted_one k e c in record { it = o.it; left = present v o.left; with_it = o.with_it; at = there o.at }

take_counted : {s : List Resolved} {u n : ℕ} {x w : AbstractValue} {ls ws : Row} → Inserted w ls ws → Alike s u x w → Count s u x ws n → (m : ℕ) × (n ≡ suc m) × Count s u x ls m
take_counted here h (counted {n = n} g c) = (n, refl, c)
take_counted here h (passed g c) = absurd (g h)
take_counted (there i) h (counted g c) = let t = take_counted i h c in (suc t.0, ap suc t.1, counted g t.2)
take_counted (there i) h (passed g c) = let t = take_counted i h c in (t.0, t.1, passed g t.2)

take_passed : {s : List Resolved} {u n : ℕ} {x w : AbstractValue} {ls ws : Row} → Inserted w ls ws → (Alike s u x w → ⊥) → Count s u x ws n → Count s u x ls n
take_passed here h (counted g c) = absurd (h g)
take_passed here h (passed g c) = c
take_passed (there i) h (counted g c) = counted g (take_passed i h c)
take_passed (there i) h (passed g c) = passed g (take_passed i h c)

one_fewer : {w : AbstractValue} {ls ws : Row} → Inserted w ls ws → members ws ≡ suc (members ls)
one_fewer here = refl
one_fewer (there i) = ap suc (one_fewer i)

-- a value that is in the first row is at least as often in the second
abbrev AsOften : List Resolved → ℕ → ℕ → Row → Row → Type 0
AsOften s n u vs ws = (x : AbstractValue) (k : ℕ) → ValueIn s n u x → Count s u x vs (suc k) → (m : ℕ) × (k < m) × Count s u x ws m

count_at : {s : List Resolved} {u m n : ℕ} {x : AbstractValue} {vs : Row} → m ≡ n → Count s u x vs m → Count s u x vs n
count_at {s} {u} {x = x} {vs = vs} e c = subst (λ q. Count s u x vs q) e c

without_both : {s : List Resolved} {n u : ℕ} {v w : AbstractValue} {vs ls ws : Row} → ValueIn s n u v → Alike s u v w → Inserted w ls ws → AsOften s n u (present v vs) ws → AsOften s n u vs ls
without_both a e i f x k y c = elim (decided y a) [
  | inl h ↦
      let o = f x (suc k) y (counted h c) in
      let t = take_counted i (alike_trans h e) o.2 in
      (t.0, (let g = t.1 in let l = o.1 in omega arith), t.2)
  | inr h ↦
      let o = f x k y (passed h c) in
      (o.0, o.1, take_passed i (λ g. h (alike_trans g (alike_sym e))) o.2)
]

paired : {s : List Resolved} {n u : ℕ} {vs ws : Row} → AreElements s n u vs → AreElements s n u ws → members vs ≡ members ws → AsOften s n u vs ws → AlikeInAnyOrder s u vs ws
paired no_element no_element e f = none_left
paired no_element (one_element w b) e f = absurd (omega arith)
paired (one_element {v = v} a as') b e f =
    let c = counts a as' in
    let p = f v c.0 a (counted (alike_self a) c.1) in
    let o = counted_one (p.0 - 1) (let l = p.1 in omega arith) p.2 in
    pair o.with_it (paired as' (take_out o.at b).rest (let g = one_fewer o.at in omega arith) (without_both a o.with_it o.at f)) o.at

-- two rows of values of a type with as many members, if each member of the first is rarer before it than in the second
pub all_paired : {s : List Resolved} {n u : ℕ} (vs : List AbstractValue) {ws : Row} → AreElements s n u (row_of_list vs) → AreElements s n u ws → members (row_of_list vs) ≡ members ws → ((j : ℕ) (x : AbstractValue) (os : List AbstractValue) → j < length vs → drop j vs ≡ x ∷ os → IsRarer s u x (row_of_list (take j vs)) ws) → AlikeInAnyOrder s u (row_of_list vs) ws
all_paired vs a b e f = paired a b e (λ x k y c.
    let l = last vs refl c in
    let r = f l.place l.it l.rest l.within l.at in
    let q = one_count l.before (recounted (alike_sym l.with_it) r.3) in
    (r.1, (let m = r.2 in omega arith), recounted (alike_sym l.with_it) r.4))

-- a row that is alike has as many members
pub as_many_members : {s : List Resolved} {u : ℕ} {vs ws : Row} → AlikeInAnyOrder s u vs ws → members vs ≡ members ws
as_many_members none_left = refl
as_many_members (pair e a i) = ap suc (as_many_members a) ∙ sym (one_fewer i)
