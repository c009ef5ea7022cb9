-- Accounts of SET and SET OF, whose members have places.
use Rattle.std.proofs.Common.{◌≡◌, ℕ, Bool, List, ◌∷◌, ◌++◌, length, get_or, refl, sym, subst}
use Rattle.std.specs.Prelude.{Box}
use Rattle.std.specs.List.{sum, AllByRecursion}
use Rattle.std.specs.declared.alloc.Global.{Global}
use Rattle.asn_base.specs.Abstract.{AbstractValue, Row, fields, list}
use Rattle.asn_base.specs.Types.{Constraint, Kind, a_set, a_set_of, Component, Resolved}
use Rattle.asn_base.specs.Typed.{ValueOf, of_leaf, of_set, of_set_of, AreComponents, AreElements}
use Rattle.asn_base.specs.Schemas.{HasValue, IsSound}
use Rattle.encodings.specs.Account.{Numbers, header, Inside, set_row, setof_row, Rows, ArePlaces}
use Rattle.octet_account.specs.declared.row.Numbers.{Numbers as Numbers'}
use Rattle.octet_account.specs.declared.row.Places.{Places}
use Rattle.octet_account.specs.declared.row.RowLayout.{RowLayout}
use Rattle.octet_account.specs.declared.row.RowLayout.TheVariants as listed
use Rattle.octet_account.specs.Flat.{FlatRow, a_set as set_listed, a_setof as set_of_listed, rows_of, count}
use Rattle.octet_account.specs.Seen.{flat_row}
use Rattle.account_checker.specs.declared.checks.Checks.{Checks}
use Rattle.account_checker.specs.declared.order.Order.{Order}
use Rattle.account_checker.specs.declared.order.Order.TheVariants.{InOrder, Placed}
use Rattle.account_checker.specs.Follows.{Checked, sizes, before, by_place, InsideFollows, leaf_follows, set_follows, set_of_follows, MembersFollow, ElementsFollow}
use Rattle.account_checker.specs.Parts.{FieldsFollow, ListFollows}
use Rattle.account_checker.proofs.RowLayout.{first_is}

-- these are the order's places and the members of places
abbrev pub IsPlaced : Order → List ℕ → List ℕ → Type 0
IsPlaced InOrder p i = ⊥
IsPlaced (Placed b) p i = (b.now.places.items ≡ p) × (b.now.inverse.items ≡ i)

abbrev FieldsPlaced : List Resolved → Checks → List ℕ → List ℕ → List Component → AbstractValue → ℕ → List ℕ → Rows → Type 0
FieldsPlaced s q p i cs v n x rs = (vs : Row) × (v ≡ fields vs) × Checked q.numbers (n ≡ sum (sizes rs)) × Checked q.places (ArePlaces (length (sizes rs)) p i) × MembersFollow s q (λ k. before (by_place (sizes rs) i) (get_or p k 0)) cs vs 0 x rs

abbrev ListPlaced : List Resolved → Checks → List ℕ → List ℕ → ℕ → AbstractValue → ℕ → List ℕ → Rows → Type 0
ListPlaced s q p i u v n x rs = (vs : Row) × (v ≡ list vs) × Checked q.numbers (n ≡ sum (sizes rs)) × Checked q.places (ArePlaces (length (sizes rs)) p i) × ElementsFollow s q (λ k. before (by_place (sizes rs) i) (get_or p k 0)) u vs 0 x rs

fields_placed : {s : List Resolved} {q : Checks} {cs : List Component} {v : AbstractValue} (n : ℕ) {x : List ℕ} {rs : Rows} (o : Order) (p i : List ℕ) → IsPlaced o p i → FieldsFollow s q o cs v n x rs → FieldsPlaced s q p i cs v n x rs
fields_placed n InOrder p i h d = absurd h
fields_placed {s} {q} {cs} {v} n {x} {rs} (Placed b) p i h d = subst (λ w. FieldsPlaced s q w i cs v n x rs) h.0 (subst (λ w. FieldsPlaced s q b.now.places.items w cs v n x rs) h.1 d)

placed_fields : {s : List Resolved} {q : Checks} {cs : List Component} {v : AbstractValue} (n : ℕ) {x : List ℕ} {rs : Rows} (o : Order) (p i : List ℕ) → IsPlaced o p i → FieldsPlaced s q p i cs v n x rs → FieldsFollow s q o cs v n x rs
placed_fields n InOrder p i h d = absurd h
placed_fields {s} {q} {cs} {v} n {x} {rs} (Placed b) p i h d = subst (λ w. FieldsPlaced s q b.now.places.items w cs v n x rs) (sym h.1) (subst (λ w. FieldsPlaced s q w i cs v n x rs) (sym h.0) d)

list_placed : {s : List Resolved} {q : Checks} {u : ℕ} {v : AbstractValue} (n : ℕ) {x : List ℕ} {rs : Rows} (o : Order) (p i : List ℕ) → IsPlaced o p i → ListFollows s q o u v n x rs → ListPlaced s q p i u v n x rs
list_placed n InOrder p i h d = absurd h
list_placed {s} {q} {u} {v} n {x} {rs} (Placed b) p i h d = subst (λ w. ListPlaced s q w i u v n x rs) h.0 (subst (λ w. ListPlaced s q b.now.places.items w u v n x rs) h.1 d)

placed_list : {s : List Resolved} {q : Checks} {u : ℕ} {v : AbstractValue} (n : ℕ) {x : List ℕ} {rs : Rows} (o : Order) (p i : List ℕ) → IsPlaced o p i → ListPlaced s q p i u v n x rs → ListFollows s q o u v n x rs
placed_list n InOrder p i h d = absurd h
placed_list {s} {q} {u} {v} n {x} {rs} (Placed b) p i h d = subst (λ w. ListPlaced s q b.now.places.items w u v n x rs) (sym h.1) (subst (λ w. ListPlaced s q w i u v n x rs) (sym h.0) d)

-- ---- within a header

pub set_within : {s : List Resolved} {q : Checks} {k : Kind} {v : AbstractValue} {n : ℕ} {x : List ℕ} {rs : Rows} {e : Bool} {cs : List Component} (o : Order) {p i : List ℕ} → IsPlaced o p i → k ≡ a_set e cs → FieldsFollow s q o cs v n x rs → InsideFollows s q k v n x (set_row rs p i)
set_within {s} {q} {k} {v} {n} {x} {rs} {e} {cs} o {p} {i} h f d =
    let r = fields_placed n o p i h d in
    subst (λ w. InsideFollows s q w v n x (set_row rs p i)) (sym f) (subst (λ w. InsideFollows s q (a_set e cs) w n x (set_row rs p i)) (sym r.1) (set_follows r.2 r.3 r.4))

set_placed : {s : List Resolved} {q : Checks} {v : AbstractValue} {n : ℕ} {x : List ℕ} {rs : Rows} {e : Bool} {cs : List Component} {p i : List ℕ} → InsideFollows s q (a_set e cs) v n x (set_row rs p i) → FieldsPlaced s q p i cs v n x rs
set_placed (set_follows {vs = vs} h a d) = (vs, refl, h, a, d)

pub set_same : {s : List Resolved} {q : Checks} {k : Kind} {v : AbstractValue} {n : ℕ} {x : List ℕ} {rs : Rows} {e : Bool} {cs : List Component} (o : Order) {p i : List ℕ} → IsPlaced o p i → k ≡ a_set e cs → InsideFollows s q k v n x (set_row rs p i) → FieldsFollow s q o cs v n x rs
set_same {s} {q} {k} {v} {n} {x} {rs} {e} {cs} o {p} {i} h f d = placed_fields n o p i h (set_placed (subst (λ w. InsideFollows s q w v n x (set_row rs p i)) f d))

pub set_parts : {s : List Resolved} {q : Checks} {k : Kind} {v : AbstractValue} {n : ℕ} {x : List ℕ} {i : Inside} {e : Bool} {cs : List Component} → k ≡ a_set e cs → InsideFollows s q k v n x i → (rs : Rows) × (p : List ℕ) × (r : List ℕ) × (i ≡ set_row rs p r)
set_parts {s} {q} {k} {v} {n} {x} {i} {e} {cs} f d = by (subst (λ w. InsideFollows s q w v n x i) f d)
  where
    by : {v : AbstractValue} {i : Inside} → InsideFollows s q (a_set e cs) v n x i → (rs : Rows) × (p : List ℕ) × (r : List ℕ) × (i ≡ set_row rs p r)
    by (leaf_follows l a b) = absurd l
    by (set_follows {rs = rs} {p = p} {i = r} h a d) = (rs, p, r, refl)

pub set_of_within : {s : List Resolved} {q : Checks} {k : Kind} {v : AbstractValue} {n : ℕ} {x : List ℕ} {rs : Rows} {c : Constraint} {u : ℕ} (o : Order) {p i : List ℕ} → IsPlaced o p i → k ≡ a_set_of c u → ListFollows s q o u v n x rs → InsideFollows s q k v n x (setof_row rs p i)
set_of_within {s} {q} {k} {v} {n} {x} {rs} {c} {u} o {p} {i} h f d =
    let r = list_placed n o p i h d in
    subst (λ w. InsideFollows s q w v n x (setof_row rs p i)) (sym f) (subst (λ w. InsideFollows s q (a_set_of c u) w n x (setof_row rs p i)) (sym r.1) (set_of_follows r.2 r.3 r.4))

set_of_placed : {s : List Resolved} {q : Checks} {v : AbstractValue} {n : ℕ} {x : List ℕ} {rs : Rows} {c : Constraint} {u : ℕ} {p i : List ℕ} → InsideFollows s q (a_set_of c u) v n x (setof_row rs p i) → ListPlaced s q p i u v n x rs
set_of_placed (set_of_follows {vs = vs} h a d) = (vs, refl, h, a, d)

pub set_of_same : {s : List Resolved} {q : Checks} {k : Kind} {v : AbstractValue} {n : ℕ} {x : List ℕ} {rs : Rows} {c : Constraint} {u : ℕ} (o : Order) {p i : List ℕ} → IsPlaced o p i → k ≡ a_set_of c u → InsideFollows s q k v n x (setof_row rs p i) → ListFollows s q o u v n x rs
set_of_same {s} {q} {k} {v} {n} {x} {rs} {c} {u} o {p} {i} h f d = placed_list n o p i h (set_of_placed (subst (λ w. InsideFollows s q w v n x (setof_row rs p i)) f d))

pub set_of_parts : {s : List Resolved} {q : Checks} {k : Kind} {v : AbstractValue} {n : ℕ} {x : List ℕ} {i : Inside} {c : Constraint} {u : ℕ} → k ≡ a_set_of c u → InsideFollows s q k v n x i → (rs : Rows) × (p : List ℕ) × (r : List ℕ) × (i ≡ setof_row rs p r)
set_of_parts {s} {q} {k} {v} {n} {x} {i} {c} {u} f d = by (subst (λ w. InsideFollows s q w v n x i) f d)
  where
    by : {v : AbstractValue} {i : Inside} → InsideFollows s q (a_set_of c u) v n x i → (rs : Rows) × (p : List ℕ) × (r : List ℕ) × (i ≡ setof_row rs p r)
    by (leaf_follows l a b) = absurd l
    by (set_of_follows {rs = rs} {p = p} {i = r} h a d) = (rs, p, r, refl)

-- ---- values of these kinds

pub set_value : {s : List Resolved} {n : ℕ} {k : Kind} {w : AbstractValue} {e : Bool} {cs : List Component} → k ≡ a_set e cs → ValueOf s n k w → (vs : Row) → w ≡ fields vs → AreComponents s n cs vs
set_value {s} {n} {k} {w} {e} {cs} f d vs g = by (subst (λ q. ValueOf s n (a_set e cs) q) g (subst (λ q. ValueOf s n q w) f d))
  where
    by : ValueOf s n (a_set e cs) (fields vs) → AreComponents s n cs vs
    by (of_leaf f) = elim f [ ]
    by (of_set a h) = a

pub set_of_value : {s : List Resolved} {n : ℕ} {k : Kind} {w : AbstractValue} {c : Constraint} {u : ℕ} → k ≡ a_set_of c u → ValueOf s n k w → (vs : Row) → w ≡ list vs → AreElements s n u vs
set_of_value {s} {n} {k} {w} {c} {u} f d vs g = by (subst (λ q. ValueOf s n (a_set_of c u) q) g (subst (λ q. ValueOf s n q w) f d))
  where
    by : ValueOf s n (a_set_of c u) (list vs) → AreElements s n u vs
    by (of_leaf f) = elim f [ ]
    by (of_set_of a h) = a

pub set_defaults : (s : List Resolved) {k : Kind} {e : Bool} {cs : List Component} → k ≡ a_set e cs → IsSound s k → AllByRecursion (HasValue s) cs
set_defaults s f d = (subst (IsSound s) f d).0.defaults

-- ---- the first row

row_is_set : (t : RowLayout) (z : Numbers) (n : ℕ) (p i : List ℕ) → flat_row t ≡ set_listed z n p i → (w : Numbers') × (b : Box Places Global) × (t ≡ listed.Set w b)
row_is_set (listed.Set y b) z n p i e = (y, b, refl)
row_is_set q z n p i e = absurd (cc)

row_is_set_of : (t : RowLayout) (z : Numbers) (n : ℕ) (p i : List ℕ) → flat_row t ≡ set_of_listed z n p i → (w : Numbers') × (b : Box Places Global) × (t ≡ listed.SetOf w b)
row_is_set_of (listed.SetOf y b) z n p i e = (y, b, refl)
row_is_set_of q z n p i e = absurd (cc)

pub no_set : (t : RowLayout) (z : Numbers) (i : Inside) (rs : Rows) (p r : List ℕ) (q rest : List FlatRow) → flat_row t ∷ q ≡ rows_of (header z i) ++ rest → ((w : Numbers') (b : Box Places Global) → t ≡ listed.Set w b → ⊥) → i ≡ set_row rs p r → ⊥
no_set t z i rs p r q rest e none f =
    let a = row_is_set t z (count rs) p r (first_is t z i (set_row rs p r) q rest e f) in none a.0 a.1 a.2

pub no_set_of : (t : RowLayout) (z : Numbers) (i : Inside) (rs : Rows) (p r : List ℕ) (q rest : List FlatRow) → flat_row t ∷ q ≡ rows_of (header z i) ++ rest → ((w : Numbers') (b : Box Places Global) → t ≡ listed.SetOf w b → ⊥) → i ≡ setof_row rs p r → ⊥
no_set_of t z i rs p r q rest e none f =
    let a = row_is_set_of t z (count rs) p r (first_is t z i (setof_row rs p r) q rest e f) in none a.0 a.1 a.2
