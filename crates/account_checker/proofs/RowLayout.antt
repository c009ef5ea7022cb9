-- The contents of the first row.
use Rattle.std.proofs.Common.{◌≡◌, ℕ, Bool, List, ◌∷◌, ◌++◌, refl, sym, ap, subst, ◌∙◌}
use Rattle.std.specs.Prelude.{slice_get, Some, Option, None}
use Rattle.asn_base.specs.Abstract.{AbstractValue}
use Rattle.asn_base.specs.Types.{Kind, Component, Alternative, Resolved, a_sequence}
use Rattle.asn_base.specs.Typed.{ValueIn}
use Rattle.asn_base.specs.Schemas.{HasValue, IsSound}
use Rattle.asn_base.specs.Decided.{IsChosen}
use Rattle.std.specs.List.{AllByRecursion}
use Rattle.encodings.specs.Account.{Numbers, Account, header, Inside, leaf_row, wrap_row, seq_row, seqof_row, Rows}
use Rattle.octet_account.specs.declared.row.Numbers.{Numbers as Numbers'}
use Rattle.octet_account.specs.declared.row.RowLayout.{RowLayout}
use Rattle.octet_account.specs.declared.row.RowLayout.TheVariants as listed
use Rattle.octet_account.specs.Flat.{FlatRow, a_leaf, a_seq, a_seqof, an_absent, a_default, rows_of, count}
use Rattle.octet_account.specs.Seen.{flat_row}
use Rattle.account_checker.specs.declared.checks.Checks.{Checks}
use Rattle.account_checker.specs.Follows.{InsideFollows}
use Rattle.account_checker.specs.Parts.{Member, is_absent, is_default, is_written, rows_in}
use Rattle.account_checker.proofs.Rows.{Opened, opened, first_or}
use Rattle.account_checker.proofs.Steps.{row_is_wrap}

numbers_at : Account → Numbers
numbers_at (header z i) = z

inside_at : Account → Inside
inside_at (header z i) = i

pub to_header : {s : List Resolved} {q : Checks} {k : Kind} {v : AbstractValue} {x : List ℕ} {z y : Numbers} {i j : Inside} → header z i ≡ header y j → InsideFollows s q k v y.contents x j → InsideFollows s q k v z.contents x i
unfolding numbers_at inside_at
to_header {s} {q} {k} {v} {x} {z} {y} {i} {j} e d = subst (λ w. InsideFollows s q k v (numbers_at w).contents x (inside_at w)) (sym e) d

pub from_header : {s : List Resolved} {q : Checks} {k : Kind} {v : AbstractValue} {x : List ℕ} {z y : Numbers} {i j : Inside} → header z i ≡ header y j → InsideFollows s q k v z.contents x i → InsideFollows s q k v y.contents x j
from_header e d = to_header (sym e) d

-- the account whose first row is this
pub row_opened_at : (t u : RowLayout) (a : Account) (q rest : List FlatRow) → t ≡ u → flat_row t ∷ q ≡ rows_of a ++ rest → Opened a (flat_row u) q rest
row_opened_at t u a q rest e f = opened a (flat_row u) q rest (sym (ap (λ w. flat_row w ∷ q) e) ∙ f)

pub row_is_leaf : (t : RowLayout) (z : Numbers) → flat_row t ≡ a_leaf z → (w : Numbers') × (t ≡ listed.Leaf w)
row_is_leaf (listed.Leaf y) z e = (y, refl)
row_is_leaf q z e = absurd (cc)

pub row_is_seq : (t : RowLayout) (z : Numbers) (n : ℕ) → flat_row t ≡ a_seq z n → (w : Numbers') × (m : ℕ) × (t ≡ listed.Seq w m)
row_is_seq (listed.Seq y m) z n e = (y, m, refl)
row_is_seq q z n e = absurd (cc)

pub row_is_seqof : (t : RowLayout) (z : Numbers) (n : ℕ) → flat_row t ≡ a_seqof z n → (w : Numbers') × (m : ℕ) × (t ≡ listed.SeqOf w m)
row_is_seqof (listed.SeqOf y m) z n e = (y, m, refl)
row_is_seqof q z n e = absurd (cc)

row_is_absent : (t : RowLayout) → flat_row t ≡ an_absent → t ≡ listed.Absent
row_is_absent listed.Absent e = refl
row_is_absent q e = absurd (cc)

row_is_default : (t : RowLayout) → flat_row t ≡ a_default → t ≡ listed.Default
row_is_default listed.Default e = refl
row_is_default q e = absurd (cc)

-- the first row, if the inside is known
pub first_is : (t : RowLayout) (z : Numbers) (i j : Inside) (q rest : List FlatRow) → flat_row t ∷ q ≡ rows_of (header z i) ++ rest → i ≡ j → flat_row t ≡ first_or (flat_row t) (rows_of (header z j) ++ rest)
first_is t z i j q rest e f = ap (first_or (flat_row t)) (e ∙ ap (λ w. rows_of (header z w) ++ rest) f)

pub no_leaf : (t : RowLayout) (z : Numbers) (i : Inside) (q rest : List FlatRow) → flat_row t ∷ q ≡ rows_of (header z i) ++ rest → ((w : Numbers') → t ≡ listed.Leaf w → ⊥) → i ≡ leaf_row → ⊥
no_leaf t z i q rest e none f = let r = row_is_leaf t z (first_is t z i leaf_row q rest e f) in none r.0 r.1

pub no_wrap_row : (t : RowLayout) (z : Numbers) (i : Inside) (b : Account) (q rest : List FlatRow) → flat_row t ∷ q ≡ rows_of (header z i) ++ rest → ((w : Numbers') → t ≡ listed.Wrap w → ⊥) → i ≡ wrap_row b → ⊥
no_wrap_row t z i b q rest e none f = let r = row_is_wrap t z (first_is t z i (wrap_row b) q rest e f) in none r.0 r.1

pub no_seq : (t : RowLayout) (z : Numbers) (i : Inside) (rs : Rows) (q rest : List FlatRow) → flat_row t ∷ q ≡ rows_of (header z i) ++ rest → ((w : Numbers') (m : ℕ) → t ≡ listed.Seq w m → ⊥) → i ≡ seq_row rs → ⊥
no_seq t z i rs q rest e none f = let r = row_is_seq t z (count rs) (first_is t z i (seq_row rs) q rest e f) in none r.0 r.1 r.2

pub no_seqof : (t : RowLayout) (z : Numbers) (i : Inside) (rs : Rows) (q rest : List FlatRow) → flat_row t ∷ q ≡ rows_of (header z i) ++ rest → ((w : Numbers') (m : ℕ) → t ≡ listed.SeqOf w m → ⊥) → i ≡ seqof_row rs → ⊥
no_seqof t z i rs q rest e none f = let r = row_is_seqof t z (count rs) (first_is t z i (seqof_row rs) q rest e f) in none r.0 r.1 r.2

-- a member that is neither left out
pub is_account : (m : Member) (t : RowLayout) (q rest : List FlatRow) → flat_row t ∷ q ≡ rows_in m ++ rest → (t ≡ listed.Absent → ⊥) → (t ≡ listed.Default → ⊥) → (a : Account) × (m ≡ is_written a)
is_account is_absent t q rest e f g = absurd (f (row_is_absent t (ap (first_or (flat_row t)) e)))
is_account is_default t q rest e f g = absurd (g (row_is_default t (ap (first_or (flat_row t)) e)))
is_account (is_written a) t q rest e f g = (a, refl)

pub chosen_value : {s : List Resolved} {n t : ℕ} (as' : List Alternative) (i : ℕ) {v : AbstractValue} → IsChosen s n as' i v → (b : Alternative) × (slice_get as' i ≡ Some b) × (b.type ≡ t) → ValueIn s n t v
chosen_value {s} {n} {t} as' i {v} h r = subst (λ w. ValueIn s n w v) (ap type_in (sym h.1 ∙ r.1) ∙ r.2) h.2
  where
    type_in : Option Alternative → ℕ
    type_in None = 0
    type_in (Some a) = a.type

pub defaults_of : (s : List Resolved) {k : Kind} {e : Bool} {cs : List Component} → k ≡ a_sequence e cs → IsSound s k → AllByRecursion (HasValue s) cs
defaults_of s f d = (subst (IsSound s) f d).defaults
