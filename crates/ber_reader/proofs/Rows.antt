-- Rows of components, by the members in them.
use Rattle.std.proofs.Common.{arith, ◌≡◌, ℕ, zero, suc, ◌+◌, ◌<◌, ◌⊎◌, inl, inr, true, false, List, [], ◌∷◌, length, refl, sym, ap, ◌∙◌}
use Rattle.std.specs.Prelude.{Option, Some, None, cond, ◌==◌, slice_get}
use Rattle.std.proofs.lemmas.Bool.Decides.{nat_tests}
use Rattle.asn_base.specs.Abstract.{AbstractValue, Row, end, absent, present, row_of_options}
use Rattle.asn_base.specs.Types.{Component}
use Rattle.views.specs.Tree.{ViewTree, ViewMembers, no_member, member, value_of, placed, component_value, joined}
use Rattle.laws_reading.specs.TokensShow.{blank, with_at, IsAbsentAt}
use Rattle.ber_reader.proofs.Plain.{none_some}

abbrev pub at_row : Row → ℕ → Option AbstractValue
at_row end i = None
at_row (absent ws) zero = None
at_row (present w ws) zero = Some w
at_row (absent ws) (suc i) = at_row ws i
at_row (present w ws) (suc i) = at_row ws i

abbrev pub many : Row → ℕ
many end = 0
many (absent ws) = suc (many ws)
many (present w ws) = suc (many ws)

-- a row is given by what is at each place
pub row_is : (n : ℕ) (ws : Row) (f : ℕ → Option AbstractValue) → many ws ≡ n → ((i : ℕ) → f i ≡ at_row ws i) → row_of_options (placed n f) ≡ ws
row_is zero end f m h = refl
row_is (suc n) end f m h = absurd (omega arith)
row_is zero (absent ws) f m h = absurd (omega arith)
row_is zero (present w ws) f m h = absurd (omega arith)
row_is (suc n) (absent ws) f m h = by_first f ws n (h zero) (row_is n ws (λ i. f (i + 1)) (omega arith) (λ i. (let e : i + 1 ≡ suc i = omega arith in ap f e) ∙ h (suc i)))
  where
    by_first : (f : ℕ → Option AbstractValue) (ws : Row) (n : ℕ) → f 0 ≡ None → row_of_options (placed n (λ i. f (i + 1))) ≡ ws → row_of_options (f 0 ∷ placed n (λ i. f (i + 1))) ≡ absent ws
    by_first f ws n e r = ap (λ q. row_of_options (q ∷ placed n (λ i. f (i + 1)))) e ∙ ap absent r
row_is (suc n) (present w ws) f m h = by_first f ws n w (h zero) (row_is n ws (λ i. f (i + 1)) (omega arith) (λ i. (let e : i + 1 ≡ suc i = omega arith in ap f e) ∙ h (suc i)))
  where
    by_first : (f : ℕ → Option AbstractValue) (ws : Row) (n : ℕ) (w : AbstractValue) → f 0 ≡ Some w → row_of_options (placed n (λ i. f (i + 1))) ≡ ws → row_of_options (f 0 ∷ placed n (λ i. f (i + 1))) ≡ present w ws
    by_first f ws n w e r = ap (λ q. row_of_options (q ∷ placed n (λ i. f (i + 1)))) e ∙ ap (present w) r

-- ---- members

pub joined_none : (ms : ViewMembers) → joined ms no_member ≡ ms
joined_none no_member = refl
joined_none (member k t ms) = ap (member k t) (joined_none ms)

pub joined_more : (ms ns os : ViewMembers) → joined (joined ms ns) os ≡ joined ms (joined ns os)
joined_more no_member ns os = refl
joined_more (member k t ms) ns os = ap (member k t) (joined_more ms ns os)

test_same : (i j : ℕ) → (i ≡ j) → (i == j) ≡ true
test_same i j e = grind (arith, nat_tests)

test_other : (i j : ℕ) → (i ≡ j → ⊥) → (i == j) ≡ false
test_other i j e = grind (arith, nat_tests)

-- the member itself, and the others
pub here_member : (i j : ℕ) (t : ViewTree) (ms : ViewMembers) → i ≡ j → component_value (member i t ms) j ≡ Some (value_of t)
here_member i j t ms e = ap (λ q. cond q (Some (value_of t)) (component_value ms j)) (test_same i j e)

pub other_member : (i j : ℕ) (t : ViewTree) (ms : ViewMembers) → (i ≡ j → ⊥) → component_value (member i t ms) j ≡ component_value ms j
other_member i j t ms e = ap (λ q. cond q (Some (value_of t)) (component_value ms j)) (test_other i j e)

-- ---- SEQUENCE: members from place i on are those of the row

pub record Ordered (i : ℕ) (ws : Row) (ms : ViewMembers) : Type 0 where
  pub before : (j : ℕ) → j < i → component_value ms j ≡ None
  pub from : (j : ℕ) → component_value ms (i + j) ≡ at_row ws j

pub ordered_none : (i : ℕ) → Ordered i end no_member
ordered_none i = record { before = λ j l. refl; from = λ j. refl }

pub ordered_absent : (i : ℕ) (ws : Row) (ms : ViewMembers) → Ordered (suc i) ws ms → Ordered i (absent ws) ms
ordered_absent i ws ms o = record { before = λ j l. o.before j (omega arith); from = at }
  where
    at : (j : ℕ) → component_value ms (i + j) ≡ at_row (absent ws) j
    at zero = (let e : i + zero ≡ i = omega arith in ap (component_value ms) e) ∙ o.before i (omega arith)
    at (suc j) = (let e : i + suc j ≡ suc i + j = omega arith in ap (component_value ms) e) ∙ o.from j

pub ordered_present : (i : ℕ) (ws : Row) (ms : ViewMembers) (t : ViewTree) (w : AbstractValue) → value_of t ≡ w → Ordered (suc i) ws ms → Ordered i (present w ws) (member i t ms)
ordered_present i ws ms t w v o = record { before = λ j l. other_member i j t ms (λ e. omega arith) ∙ o.before j (omega arith); from = at }
  where
    at : (j : ℕ) → component_value (member i t ms) (i + j) ≡ at_row (present w ws) j
    at zero = here_member i (i + zero) t ms (omega arith) ∙ ap Some v
    at (suc j) = other_member i (i + suc j) t ms (λ e. omega arith) ∙ (let e : i + suc j ≡ suc i + j = omega arith in ap (component_value ms) e) ∙ o.from j

pub ordered_row : (n : ℕ) (ws : Row) (ms : ViewMembers) → many ws ≡ n → Ordered 0 ws ms → row_of_options (placed n (λ i. component_value ms i)) ≡ ws
ordered_row n ws ms m o = row_is n ws (λ i. component_value ms i) m (λ i. (let e : i ≡ 0 + i = omega arith in ap (component_value ms) e) ∙ o.from i)

-- ---- SET: members in any order

pub blank_many : (cs : List Component) → many (blank cs) ≡ length cs
blank_many [] = refl
blank_many (c ∷ cs) = ap suc (blank_many cs)

pub blank_none : (cs : List Component) (j : ℕ) → at_row (blank cs) j ≡ None
blank_none [] j = refl
blank_none (c ∷ cs) zero = refl
blank_none (c ∷ cs) (suc j) = blank_none cs j

pub with_many : (ws : Row) (i : ℕ) (w : AbstractValue) → many (with_at ws i w) ≡ many ws
with_many end i w = refl
with_many (absent ws) zero w = refl
with_many (present v ws) zero w = refl
with_many (absent ws) (suc i) w = ap suc (with_many ws i w)
with_many (present v ws) (suc i) w = ap suc (with_many ws i w)

pub with_here : (ws : Row) (i : ℕ) (w : AbstractValue) → IsAbsentAt ws i → i < many ws → at_row (with_at ws i w) i ≡ Some w
with_here end i w a l = absurd (omega arith)
with_here (absent ws) zero w a l = refl
with_here (present v ws) zero w a l = absurd a
with_here (absent ws) (suc i) w a l = with_here ws i w a (omega arith)
with_here (present v ws) (suc i) w a l = with_here ws i w a (omega arith)

pub with_other : (ws : Row) (i j : ℕ) (w : AbstractValue) → (i ≡ j → ⊥) → at_row (with_at ws i w) j ≡ at_row ws j
with_other end i j w n = refl
with_other (absent ws) zero zero w n = absurd (n refl)
with_other (absent ws) zero (suc j) w n = refl
with_other (present v ws) zero j w n = refl
with_other (absent ws) (suc i) zero w n = refl
with_other (present v ws) (suc i) zero w n = refl
with_other (absent ws) (suc i) (suc j) w n = with_other ws i j w (λ e. n (ap suc e))
with_other (present v ws) (suc i) (suc j) w n = with_other ws i j w (λ e. n (ap suc e))

pub found_below : {A : Type 0} (xs : List A) (i : ℕ) (x : A) → slice_get xs i ≡ Some x → i < length xs
found_below [] i x e = none_some e
found_below (y ∷ xs) zero x e = omega arith
found_below (y ∷ xs) (suc i) x e = let r = found_below xs i x e in omega arith

same_or_other : (i j : ℕ) → (i ≡ j) ⊎ (i ≡ j → ⊥)
same_or_other zero zero = inl refl
same_or_other zero (suc j) = inr (λ e. omega arith)
same_or_other (suc i) zero = inr (λ e. omega arith)
same_or_other (suc i) (suc j) = by (same_or_other i j)
  where
    by : (i ≡ j) ⊎ (i ≡ j → ⊥) → (suc i ≡ suc j) ⊎ (suc i ≡ suc j → ⊥)
    by (inl e) = inl (ap suc e)
    by (inr n) = inr (λ e. n (omega arith))

pub record Mixed (n : ℕ) (ws : Row) (ms : ViewMembers) : Type 0 where
  pub many_rows : many ws ≡ n
  pub each : (j : ℕ) → component_value ms j ≡ at_row ws j

pub mixed_none : (cs : List Component) → Mixed (length cs) (blank cs) no_member
mixed_none cs = record { many_rows = blank_many cs; each = λ j. sym (blank_none cs j) }

pub mixed_more : (n : ℕ) (ws : Row) (ms : ViewMembers) (i : ℕ) (t : ViewTree) (w : AbstractValue) → value_of t ≡ w → IsAbsentAt ws i → i < n → Mixed n ws ms → Mixed n (with_at ws i w) (member i t ms)
mixed_more n ws ms i t w v a l m = record { many_rows = with_many ws i w ∙ m.many_rows; each = λ j. at j (same_or_other i j) }
  where
    at : (j : ℕ) → (i ≡ j) ⊎ (i ≡ j → ⊥) → component_value (member i t ms) j ≡ at_row (with_at ws i w) j
    at j (inl e) = here_member i j t ms e ∙ ap Some v ∙ sym (with_here ws i w a (let f = m.many_rows in omega arith)) ∙ ap (at_row (with_at ws i w)) e
    at j (inr d) = other_member i j t ms d ∙ m.each j ∙ sym (with_other ws i j w d)

pub mixed_row : (n : ℕ) (ws : Row) (ms : ViewMembers) → Mixed n ws ms → row_of_options (placed n (λ i. component_value ms i)) ≡ ws
mixed_row n ws ms m = row_is n ws (λ i. component_value ms i) m.many_rows (λ i. m.each i)
