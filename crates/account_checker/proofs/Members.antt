-- Members one by one: what is left, and where the next one is.
use Rattle.account_checker.proofs.Fronts.{same_rest}
use Rattle.std.proofs.Common.{arith, Bool, true, false, ◌≡◌, ℕ, zero, suc, ◌+◌, ◌<◌, List, [], ◌∷◌, ◌++◌, length, drop, take, refl, sym, ap, subst, ◌∙◌, append_assoc, length-append}
use Rattle.std.specs.Prelude.{◌↔◌, Option, Some, None}
use Rattle.std.specs.List.{fold, sum, AllByRecursion}
use Rattle.std.proofs.lemmas.List.Sums.{fold-append}
use Rattle.asn_base.specs.Abstract.{AbstractValue, fields, list, Row, row_of_options, row_of_list}
use Rattle.asn_base.specs.Types.{Presence, mandatory, optional, default, addition, Component, Resolved}
use Rattle.encodings.specs.Encoding.{IsDefault}
use Rattle.asn_base.specs.Typed.{members, ValueIn, AreComponents, component_absent, component_present, AreElements, one_element}
use Rattle.asn_base.specs.Decided.{IsComponent}
use Rattle.encodings.specs.Account.{Account, Rows, no_row, absent_row, default_row, written}
use Rattle.octet_account.specs.Flat.{FlatRow, count, rows_of, member_rows}
use Rattle.account_checker.specs.declared.checks.Checks.{Checks}
use Rattle.account_checker.specs.Follows.{Checked, Slice, SliceAt, Follows, sizes, before, total_octets, MembersFollow, none_follows, absent_follows, left_out_follows, default_follows, default_written, member_follows, ElementsFollow, no_element_follows, element_follows}
use Rattle.account_checker.specs.Parts.{Member, is_absent, is_default, is_written, put, rows_in, size_in, size_or, count_or, WrittenAt, MemberAt, ElementAt}

-- the number of written members up to and with this one
abbrev pub next : Member → ℕ → ℕ
next is_absent k = k
next is_default k = k
next (is_written a) k = suc k

abbrev pub sizes_of : Member → List ℕ
sizes_of is_absent = []
sizes_of is_default = []
sizes_of (is_written a) = total_octets a ∷ []

pub members_step : {s : List Resolved} {q : Checks} {place : ℕ → ℕ} {ds : List Component} (c : Component) (cs : List Component) {vs : Row} {k : ℕ} {x : List ℕ} {rs : Rows} (v : Option AbstractValue) (ws : List (Option AbstractValue)) (m : Member) → ds ≡ c ∷ cs → vs ≡ row_of_options (v ∷ ws) → MembersFollow s q place ds vs k x (put m rs) ↔ MemberAt s q (place k) c v x m × MembersFollow s q place cs (row_of_options ws) (next m k) x rs
members_step {s} {q} {place} {ds} c cs {vs} {k} {x} {rs} v ws m f e = (
  λ d. to v m (subst (λ y. MembersFollow s q place y (row_of_options (v ∷ ws)) k x (put m rs)) f (subst (λ y. MembersFollow s q place ds y k x (put m rs)) e d)),
  λ d. subst (λ y. MembersFollow s q place ds y k x (put m rs)) (sym e) (subst (λ y. MembersFollow s q place y (row_of_options (v ∷ ws)) k x (put m rs)) (sym f) (from v m d.0 d.1)),
)
  where
    to : (v : Option AbstractValue) (m : Member) → MembersFollow s q place (c ∷ cs) (row_of_options (v ∷ ws)) k x (put m rs) → MemberAt s q (place k) c v x m × MembersFollow s q place cs (row_of_options ws) (next m k) x rs
    to None is_absent (absent_follows n d) = (n, d)
    to None is_default (left_out_follows w e d) = ((w, e), d)
    to None (is_written a) (default_written {y = y} w e n p f d) = ((w, e, n, (y, p, f)), d)
    to (Some v) is_absent d = elim d [ ]
    to (Some v) is_default (default_follows w e n d) = (((w, e), n), d)
    to (Some v) (is_written a) (member_follows {y = y} n p f d) = ((n, (y, p, f)), d)

    from : (v : Option AbstractValue) (m : Member) → MemberAt s q (place k) c v x m → MembersFollow s q place cs (row_of_options ws) (next m k) x rs → MembersFollow s q place (c ∷ cs) (row_of_options (v ∷ ws)) k x (put m rs)
    from None is_absent a d = absent_follows a d
    from None is_default a d = left_out_follows a.0 a.1 d
    from None (is_written b) a d = default_written a.0 a.1 a.2 a.3.1 a.3.2 d
    from (Some v) is_absent a d = absurd a
    from (Some v) is_default a d = default_follows a.0.0 a.0.1 a.1 d
    from (Some v) (is_written b) a d = member_follows a.0 a.1.1 a.1.2 d

pub elements_step : {s : List Resolved} {q : Checks} {place : ℕ → ℕ} {u : ℕ} {vs : Row} {k : ℕ} {x : List ℕ} {rs : Rows} (v : AbstractValue) (ws : List AbstractValue) (m : Member) → vs ≡ row_of_list (v ∷ ws) → ElementsFollow s q place u vs k x (put m rs) ↔ ElementAt s q (place k) u v x m × ElementsFollow s q place u (row_of_list ws) (next m k) x rs
elements_step {s} {q} {place} {u} {vs} {k} {x} {rs} v ws m e = (λ d. to m (subst (λ y. ElementsFollow s q place u y k x (put m rs)) e d), λ d. subst (λ y. ElementsFollow s q place u y k x (put m rs)) (sym e) (from m d.0 d.1))
  where
    to : (m : Member) → ElementsFollow s q place u (row_of_list (v ∷ ws)) k x (put m rs) → ElementAt s q (place k) u v x m × ElementsFollow s q place u (row_of_list ws) (next m k) x rs
    to is_absent d = elim d [ ]
    to is_default d = elim d [ ]
    to (is_written a) (element_follows {y = y} p f d) = ((y, p, f), d)

    from : (m : Member) → ElementAt s q (place k) u v x m → ElementsFollow s q place u (row_of_list ws) (next m k) x rs → ElementsFollow s q place u (row_of_list (v ∷ ws)) k x (put m rs)
    from is_absent a d = absurd a
    from is_default a d = absurd a
    from (is_written b) a d = element_follows a.1 a.2 d

-- ---- what is left

pub record LeftAt (W : Type 0) (P : ℕ → Rows → Type 0) (all : List ℕ) (left rest : List FlatRow) (n place number : ℕ) : Type 0 where
  pub rows : Rows
  pub are : left ≡ member_rows rows ++ rest
  pub many : count rows ≡ n
  pub done : List ℕ
  pub split : all ≡ done ++ sizes rows
  pub there : sum done ≡ place
  pub counted : length done ≡ number
  pub same : W ↔ P number rows

pub all_left : {P : ℕ → Rows → Type 0} {left rest : List FlatRow} {n : ℕ} (rs : Rows) → left ≡ member_rows rs ++ rest → count rs ≡ n → LeftAt (P 0 rs) P (sizes rs) left rest n 0 0
all_left rs e f = record { rows = rs; are = e; many = f; done = []; split = refl; there = refl; counted = refl; same = (λ d. d, λ d. d) }

-- the first one of some
pub record First (rs : Rows) : Type 0 where
  pub member : Member
  pub following : Rows
  pub is : rs ≡ put member following

pub first_of : (rs : Rows) → 0 < count rs → First rs
first_of no_row l = absurd (omega arith)
first_of (absent_row rs) l = record { member = is_absent; following = rs; is = refl }
first_of (default_row rs) l = record { member = is_default; following = rs; is = refl }
first_of (written a rs) l = record { member = is_written a; following = rs; is = refl }

pub rows_put : (m : Member) (rs : Rows) (rest : List FlatRow) → member_rows (put m rs) ++ rest ≡ rows_in m ++ (member_rows rs ++ rest)
rows_put is_absent rs rest = refl
rows_put is_default rs rest = refl
rows_put (is_written a) rs rest = append_assoc (rows_of a) (member_rows rs) rest

pub count_put : (m : Member) (rs : Rows) → count (put m rs) ≡ suc (count rs)
count_put is_absent rs = refl
count_put is_default rs = refl
count_put (is_written a) rs = refl

sizes_put : (m : Member) (rs : Rows) → sizes (put m rs) ≡ sizes_of m ++ sizes rs
sizes_put is_absent rs = refl
sizes_put is_default rs = refl
sizes_put (is_written a) rs = refl

pub take_front : (f x : List ℕ) → take (length f) (f ++ x) ≡ f
take_front [] [] = refl
take_front [] (a ∷ x) = refl
take_front (a ∷ f) x = ap (λ q. a ∷ q) (take_front f x)

fold_from : (a : ℕ) (xs : List ℕ) → fold ◌+◌ a xs ≡ a + sum xs
fold_from a [] = omega arith
fold_from a (x ∷ xs) = let e = fold_from (a + x) xs in let f = fold_from (0 + x) xs in e ∙ (let g : (a + x) + sum xs ≡ a + ((0 + x) + sum xs) = omega arith in g) ∙ ap (λ q. a + q) (sym f)

pub sum_append : (xs ys : List ℕ) → sum (xs ++ ys) ≡ sum xs + sum ys
sum_append xs ys = fold-append ◌+◌ 0 xs ys ∙ fold_from (sum xs) ys

sum_of : (m : Member) → sum (sizes_of m) ≡ size_or (size_in m)
sum_of is_absent = refl
sum_of is_default = refl
sum_of (is_written a) = omega arith

length_of : (m : Member) (done : List ℕ) → length (done ++ sizes_of m) ≡ next m (length done)
length_of is_absent done = let e = length-append done [] in omega arith
length_of is_default done = let e = length-append done [] in omega arith
length_of (is_written a) done = let e = length-append done (total_octets a ∷ []) in omega arith

module _ {W : Type 0} {P : ℕ → Rows → Type 0} {all : List ℕ} {left rest : List FlatRow} {n place number : ℕ} (h : LeftAt W P all left rest n place number) (some : 0 < n) where
  abbrev pub first : First h.rows
  first = first_of h.rows (let e = h.many in omega arith)

  -- the rows that the next member is asked of
  pub asked_of : left ≡ rows_in first.member ++ (member_rows first.following ++ rest)
  asked_of = h.are ∙ ap (λ r. member_rows r ++ rest) first.is ∙ rows_put first.member first.following rest

-- the octets of the members before the next one
pub at_place : {W : Type 0} {P : ℕ → Rows → Type 0} {all : List ℕ} {left rest : List FlatRow} {n place number : ℕ} → LeftAt W P all left rest n place number → before all number ≡ place
at_place {all = all} h = ap (λ k. sum (take k all)) (sym h.counted) ∙ ap (λ q. sum (take (length h.done) q)) h.split ∙ ap sum (take_front h.done (sizes h.rows)) ∙ h.there

next_more : (m : Member) (k : ℕ) → next m k ≡ k + count_or (size_in m)
next_more is_absent k = omega arith
next_more is_default k = omega arith
next_more (is_written a) k = omega arith

module _ {W : Type 0} (P Q : ℕ → Rows → Type 0) (A : Member → Type 0) {all : List ℕ} {left rest : List FlatRow} {n place number : ℕ} (h : LeftAt W P all left rest n place number) (some : 0 < n) (step : (m : Member) (rs : Rows) → P number (put m rs) ↔ A m × Q (next m number) rs) where
  abbrev it : First h.rows
  it = first h some

  opened : W ↔ A it.member × Q (next it.member number) it.following
  opened = (λ w. (step it.member it.following).0 (subst (P number) it.is (h.same.0 w)), λ p. h.same.1 (subst (P number) (sym it.is) ((step it.member it.following).1 p)))

  pub not_first : (A it.member → ⊥) → W → ⊥
  not_first none w = none (opened.0 w).0

  pub passed : {left' : List FlatRow} {n' place' number' : ℕ} → A it.member → left' ≡ member_rows it.following ++ rest → suc n' ≡ n → place' ≡ place + size_or (size_in it.member) → number' ≡ number + count_or (size_in it.member) → LeftAt W Q all left' rest n' place' number'
  passed {number' = number'} a e f g c =
      let same : number' ≡ next it.member number = c ∙ sym (next_more it.member number) in
      record {
        rows = it.following;
        are = e;
        many = (let c = h.many in let d = ap count it.is ∙ count_put it.member it.following in omega arith);
        done = h.done ++ sizes_of it.member;
        split = h.split ∙ ap (λ q. h.done ++ q) (ap sizes it.is ∙ sizes_put it.member it.following) ∙ sym (append_assoc h.done (sizes_of it.member) (sizes it.following));
        there = (let c = h.there in let d = sum_of it.member in let e = sum_append h.done (sizes_of it.member) in omega arith);
        counted = length_of it.member h.done ∙ ap (next it.member) h.counted ∙ sym same;
        same = (λ w. subst (λ k. Q k it.following) (sym same) (opened.0 w).1, λ p. opened.1 (a, subst (λ k. Q k it.following) same p));
      }

-- none is left
pub none_left : (rs : Rows) → count rs ≡ 0 → rs ≡ no_row
none_left no_row e = refl
none_left (absent_row rs) e = absurd (omega arith)
none_left (default_row rs) e = absurd (omega arith)
none_left (written a rs) e = absurd (omega arith)

pub append_nil : (xs : List ℕ) → xs ++ [] ≡ xs
append_nil [] = refl
append_nil (x ∷ xs) = ap (λ q. x ∷ q) (append_nil xs)

pub at_end : {W : Type 0} {P : ℕ → Rows → Type 0} {all : List ℕ} {left rest : List FlatRow} {n place number : ℕ} → LeftAt W P all left rest n place number → n ≡ 0 → ((k : ℕ) → P k no_row) → W × (left ≡ rest) × (place ≡ sum all) × (number ≡ length all)
at_end {P = P} {rest = rest} {number = number} h z ends =
    let e = none_left h.rows (h.many ∙ z) in
    let f = h.split ∙ ap (λ r. h.done ++ sizes r) e ∙ append_nil h.done in (
      h.same.1 (subst (P number) (sym e) (ends number)),
      h.are ∙ ap (λ r. member_rows r ++ rest) e,
      sym h.there ∙ sym (ap sum f),
      sym h.counted ∙ sym (ap length f),
    )

-- ---- values from a place on

pub components_from : {s : List Resolved} {n : ℕ} (cs : List Component) (vs : List (Option AbstractValue)) (i : ℕ) → AreComponents s n cs (row_of_options vs) → AreComponents s n (drop i cs) (row_of_options (drop i vs))
components_from cs vs zero a = a
components_from [] [] (suc i) a = a
components_from [] (None ∷ vs) (suc i) a = elim a [ ]
components_from [] (Some v ∷ vs) (suc i) a = elim a [ ]
components_from (c ∷ cs) [] (suc i) a = elim a [ ]
components_from (c ∷ cs) (None ∷ vs) (suc i) (component_absent m a) = components_from cs vs i a
components_from (c ∷ cs) (Some v ∷ vs) (suc i) (component_present m a) = components_from cs vs i a

pub component_first : {s : List Resolved} {n : ℕ} {ds : List Component} {ws : List (Option AbstractValue)} (c : Component) (cs : List Component) (v : Option AbstractValue) (vs : List (Option AbstractValue)) → ds ≡ c ∷ cs → ws ≡ v ∷ vs → AreComponents s n ds (row_of_options ws) → IsComponent s n c v
component_first {s} {n} {ds} {ws} c cs v vs e f a = by v (subst (λ q. AreComponents s n q (row_of_options (v ∷ vs))) e (subst (λ q. AreComponents s n ds (row_of_options q)) f a))
  where
    by : (v : Option AbstractValue) → AreComponents s n (c ∷ cs) (row_of_options (v ∷ vs)) → IsComponent s n c v
    by None (component_absent m a) = m
    by (Some v) (component_present m a) = m

pub all_from : (P : Component → Type 0) (cs : List Component) (i : ℕ) → AllByRecursion P cs → AllByRecursion P (drop i cs)
all_from P cs zero a = a
all_from P [] (suc i) a = a
all_from P (c ∷ cs) (suc i) a = all_from P cs i a.1

pub all_first : (P : Component → Type 0) {ds : List Component} (c : Component) (cs : List Component) → ds ≡ c ∷ cs → AllByRecursion P ds → P c
all_first P c cs e a = (subst (AllByRecursion P) e a).0

pub elements_from : {s : List Resolved} {n u : ℕ} (vs : List AbstractValue) (i : ℕ) → AreElements s n u (row_of_list vs) → AreElements s n u (row_of_list (drop i vs))
elements_from vs zero a = a
elements_from [] (suc i) a = a
elements_from (v ∷ vs) (suc i) (one_element m a) = elements_from vs i a

pub element_first : {s : List Resolved} {n u : ℕ} {ws : List AbstractValue} (v : AbstractValue) (vs : List AbstractValue) → ws ≡ v ∷ vs → AreElements s n u (row_of_list ws) → ValueIn s n u v
element_first {s} {n} {u} v vs e a = by (subst (λ q. AreElements s n u (row_of_list q)) e a)
  where
    by : AreElements s n u (row_of_list (v ∷ vs)) → ValueIn s n u v
    by (one_element m a) = m

-- ---- one member

default_at : Presence → AbstractValue → AbstractValue
default_at (default d) v = d
default_at mandatory v = v
default_at optional v = v
default_at (addition o g) v = v

same_default : {p : Presence} {d e : AbstractValue} → p ≡ default d → p ≡ default e → d ≡ e
unfolding default_at
same_default {p} {d} f g = ap (λ w. default_at w d) (sym f ∙ g)

pub present_made : {s : List Resolved} {q : Checks} (place : ℕ) (c : Component) {ov : Option AbstractValue} (x : List ℕ) (m : Member) (a : Account) (v : AbstractValue) → m ≡ is_written a → ov ≡ Some v → Checked q.omitted (IsDefault s c v → ⊥) → WrittenAt s q place c.type v x a → MemberAt s q place c ov x m
present_made {s} {q} place c {ov} x m a v e f n d = subst (λ w. MemberAt s q place c ov x w) (sym e) (subst (λ w. MemberAt s q place c w x (is_written a)) (sym f) (n, d))

pub present_parts : {s : List Resolved} {q : Checks} (place : ℕ) (c : Component) {ov : Option AbstractValue} (x : List ℕ) (m : Member) (a : Account) (v : AbstractValue) → m ≡ is_written a → ov ≡ Some v → MemberAt s q place c ov x m → Checked q.omitted (IsDefault s c v → ⊥) × WrittenAt s q place c.type v x a
present_parts {s} {q} place c {ov} x m a v e f d = subst (λ w. MemberAt s q place c w x (is_written a)) f (subst (λ w. MemberAt s q place c ov x w) e d)

pub lacking_made : {s : List Resolved} {q : Checks} (place : ℕ) (c : Component) {ov : Option AbstractValue} (x : List ℕ) (m : Member) (a : Account) (d : AbstractValue) → m ≡ is_written a → ov ≡ None → c.presence ≡ default d → q.omitted ≡ false → WrittenAt s q place c.type d x a → MemberAt s q place c ov x m
lacking_made {s} {q} place c {ov} x m a d e f g n w = subst (λ y. MemberAt s q place c ov x y) (sym e) (subst (λ y. MemberAt s q place c y x (is_written a)) (sym f) (d, g, subst (λ b. Checked b ⊥) (sym n) tt, w))

pub lacking_parts : {s : List Resolved} {q : Checks} (place : ℕ) (c : Component) {ov : Option AbstractValue} (x : List ℕ) (m : Member) (a : Account) → m ≡ is_written a → ov ≡ None → MemberAt s q place c ov x m → (d : AbstractValue) × (c.presence ≡ default d) × Checked q.omitted ⊥ × WrittenAt s q place c.type d x a
lacking_parts {s} {q} place c {ov} x m a e f w = subst (λ y. MemberAt s q place c y x (is_written a)) f (subst (λ y. MemberAt s q place c ov x y) e w)

pub lacking_same : {s : List Resolved} {q : Checks} (place : ℕ) (c : Component) {ov : Option AbstractValue} (x : List ℕ) (m : Member) (a : Account) (d : AbstractValue) → m ≡ is_written a → ov ≡ None → c.presence ≡ default d → MemberAt s q place c ov x m → WrittenAt s q place c.type d x a
lacking_same {s} {q} place c {ov} x m a d e f g w = let p = lacking_parts place c x m a e f w in subst (λ y. WrittenAt s q place c.type y x a) (same_default p.1 g) p.3

pub element_made : {s : List Resolved} {q : Checks} {u : ℕ} {v : AbstractValue} (place : ℕ) (x : List ℕ) (m : Member) (a : Account) → m ≡ is_written a → WrittenAt s q place u v x a → ElementAt s q place u v x m
element_made {s} {q} {u} {v} place x m a e d = subst (λ w. ElementAt s q place u v x w) (sym e) d

pub element_parts : {s : List Resolved} {q : Checks} {u : ℕ} {v : AbstractValue} (place : ℕ) (x : List ℕ) (m : Member) (a : Account) → m ≡ is_written a → ElementAt s q place u v x m → WrittenAt s q place u v x a
element_parts {s} {q} {u} {v} place x m a e d = subst (λ w. ElementAt s q place u v x w) e d

-- as many values as rows

pub fields_count : {s : List Resolved} {q : Checks} {place : ℕ → ℕ} {cs : List Component} {vs : Row} {k : ℕ} {x : List ℕ} {rs : Rows} → MembersFollow s q place cs vs k x rs → (count rs ≡ length cs) × (members vs ≡ length cs)
fields_count none_follows = (refl, refl)
fields_count (absent_follows n d) = let r = fields_count d in (ap suc r.0, ap suc r.1)
fields_count (left_out_follows w e d) = let r = fields_count d in (ap suc r.0, ap suc r.1)
fields_count (default_follows w e n d) = let r = fields_count d in (ap suc r.0, ap suc r.1)
fields_count (default_written w e n p f d) = let r = fields_count d in (ap suc r.0, ap suc r.1)
fields_count (member_follows n p f d) = let r = fields_count d in (ap suc r.0, ap suc r.1)

pub list_count : {s : List Resolved} {q : Checks} {place : ℕ → ℕ} {u : ℕ} {vs : Row} {k : ℕ} {x : List ℕ} {rs : Rows} → ElementsFollow s q place u vs k x rs → count rs ≡ members vs
list_count no_element_follows = refl
list_count (element_follows p f d) = ap suc (list_count d)

pub options_count : (os : List (Option AbstractValue)) → members (row_of_options os) ≡ length os
options_count [] = refl
options_count (None ∷ os) = ap suc (options_count os)
options_count (Some v ∷ os) = ap suc (options_count os)

pub values_count : (os : List AbstractValue) → members (row_of_list os) ≡ length os
values_count [] = refl
values_count (v ∷ os) = ap suc (values_count os)

fields_in : Row → AbstractValue → Row
fields_in d (fields vs) = vs
fields_in d (list vs) = vs
fields_in d v = d

pub same_fields : {vs ws : Row} → fields vs ≡ fields ws → vs ≡ ws
unfolding fields_in
same_fields {vs} e = ap (fields_in vs) e

pub same_list : {vs ws : Row} → list vs ≡ list ws → vs ≡ ws
unfolding fields_in
same_list {vs} e = ap (fields_in vs) e

-- the octets at a place

slice_one : (o : List ℕ) (p n : ℕ) (x y : List ℕ) → SliceAt o p n x → SliceAt o p n y → y ≡ x
slice_one o p n x y a b =
    let f : a.front ≡ b.front = sym (take_front a.front (x ++ a.following)) ∙ ap (take (length a.front)) (sym a.whole ∙ b.whole) ∙ ap (λ k. take k (b.front ++ (y ++ b.following))) (a.there ∙ sym b.there) ∙ take_front b.front (y ++ b.following) in
    let g : x ++ a.following ≡ y ++ b.following = same_rest a.front (x ++ a.following) (y ++ b.following) (sym a.whole ∙ b.whole ∙ ap (λ k. k ++ (y ++ b.following)) (sym f)) in
    sym (take_front y b.following) ∙ ap (take (length y)) (sym g) ∙ ap (λ k. take k (x ++ a.following)) (b.as_many ∙ sym a.as_many) ∙ take_front x a.following

pub part_one : (b : Bool) (o : List ℕ) (p n : ℕ) (x y : List ℕ) → Slice b o p n x → Slice b o p n y → y ≡ x
part_one true o p n x y f g = slice_one o p n x y f g
part_one false o p n x y f g = g ∙ sym f

pub not_written : (s : List Resolved) (q : Checks) (place n t : ℕ) (v : AbstractValue) (x y : List ℕ) (a : Account) → total_octets a ≡ n → Slice q.headers x place n y → (Follows s q t v y a → ⊥) → WrittenAt s q place t v x a → ⊥
not_written s q place n t v x y a e p none w = none (subst (λ z. Follows s q t v z a) (sym (part_one q.headers x place n w.0 y (subst (λ k. Slice q.headers x place k w.0) e w.1) p)) w.2)

-- a member at one offset is at another if these are the same or headers aren't asked about

where_sym : (b : Bool) (m n : ℕ) → Checked b (m ≡ n) → Checked b (n ≡ m)
where_sym true m n e = sym e
where_sym false m n e = e

part_moved : (b : Bool) (o : List ℕ) (m n k : ℕ) (x : List ℕ) → Checked b (m ≡ n) → Slice b o m k x → Slice b o n k x
part_moved true o m n k x e a = subst (λ j. SliceAt o j k x) e a
part_moved false o m n k x e a = a

written_moved : (s : List Resolved) (q : Checks) (m n t : ℕ) (v : AbstractValue) (x : List ℕ) (a : Account) → Checked q.headers (m ≡ n) → WrittenAt s q m t v x a → WrittenAt s q n t v x a
written_moved s q m n t v x a e w = (w.0, part_moved q.headers x m n (total_octets a) w.0 e w.1, w.2)

member_moved : (s : List Resolved) (q : Checks) (m n : ℕ) (c : Component) (v : Option AbstractValue) (x : List ℕ) (i : Member) → Checked q.headers (m ≡ n) → MemberAt s q m c v x i → MemberAt s q n c v x i
member_moved s q m n c None x is_absent e a = a
member_moved s q m n c None x is_default e a = a
member_moved s q m n c None x (is_written b) e a = (a.0, a.1, a.2, written_moved s q m n c.type a.0 x b e a.3)
member_moved s q m n c (Some v) x is_absent e a = a
member_moved s q m n c (Some v) x is_default e a = a
member_moved s q m n c (Some v) x (is_written b) e a = (a.0, written_moved s q m n c.type v x b e a.1)

element_moved : (s : List Resolved) (q : Checks) (m n u : ℕ) (v : AbstractValue) (x : List ℕ) (i : Member) → Checked q.headers (m ≡ n) → ElementAt s q m u v x i → ElementAt s q n u v x i
element_moved s q m n u v x is_absent e a = a
element_moved s q m n u v x is_default e a = a
element_moved s q m n u v x (is_written b) e a = written_moved s q m n u v x b e a

-- the next component, and the next element

abbrev pub MembersLeft : List Resolved → Checks → (ℕ → ℕ) → List Component → List (Option AbstractValue) → List ℕ → ℕ → Rows → Type 0
MembersLeft s q places ds us x k ms = MembersFollow s q places ds (row_of_options us) k x ms

module _ (s : List Resolved) (q : Checks) {W : Type 0} (all : List ℕ) (places : ℕ → ℕ) {left rest : List FlatRow} {n place number : ℕ} (at : ℕ) (ds : List Component) (us : List (Option AbstractValue)) (x : List ℕ) (c : Component) (cs : List Component) (v : Option AbstractValue) (ws : List (Option AbstractValue)) (h : LeftAt W (MembersLeft s q places ds us x) all left rest n place number) (some : 0 < n) (e : ds ≡ c ∷ cs) (f : us ≡ v ∷ ws) (o : Checked q.headers (places number ≡ at)) where
  component_step : (m : Member) (ms : Rows) → MembersLeft s q places ds us x number (put m ms) ↔ MemberAt s q at c v x m × MembersLeft s q places cs ws x (next m number) ms
  component_step m ms =
      let r = members_step c cs v ws m e (ap row_of_options f) in (
        λ d. (let g = r.0 d in (member_moved s q (places number) at c v x m o g.0, g.1)),
        λ d. r.1 (member_moved s q at (places number) c v x m (where_sym q.headers (places number) at o) d.0, d.1),
      )

  pub none_next : (MemberAt s q at c v x (first h some).member → ⊥) → W → ⊥
  none_next none w = not_first (MembersLeft s q places ds us x) (MembersLeft s q places cs ws x) (λ m. MemberAt s q at c v x m) h some component_step none w

  pub next_component : {left' : List FlatRow} {n' place' number' : ℕ} → MemberAt s q at c v x (first h some).member → left' ≡ member_rows (first h some).following ++ rest → suc n' ≡ n → place' ≡ place + size_or (size_in (first h some).member) → number' ≡ number + count_or (size_in (first h some).member) → LeftAt W (MembersLeft s q places cs ws x) all left' rest n' place' number'
  next_component a b d g j = passed (MembersLeft s q places ds us x) (MembersLeft s q places cs ws x) (λ m. MemberAt s q at c v x m) h some component_step a b d g j

abbrev pub ElementsLeft : List Resolved → Checks → (ℕ → ℕ) → ℕ → List AbstractValue → List ℕ → ℕ → Rows → Type 0
ElementsLeft s q places u us x k ms = ElementsFollow s q places u (row_of_list us) k x ms

module _ (s : List Resolved) (q : Checks) {W : Type 0} (all : List ℕ) (places : ℕ → ℕ) {left rest : List FlatRow} {n place number : ℕ} (at u : ℕ) (us : List AbstractValue) (x : List ℕ) (v : AbstractValue) (ws : List AbstractValue) (h : LeftAt W (ElementsLeft s q places u us x) all left rest n place number) (some : 0 < n) (f : us ≡ v ∷ ws) (o : Checked q.headers (places number ≡ at)) where
  element_step : (m : Member) (ms : Rows) → ElementsLeft s q places u us x number (put m ms) ↔ ElementAt s q at u v x m × ElementsLeft s q places u ws x (next m number) ms
  element_step m ms =
      let r = elements_step v ws m (ap row_of_list f) in (
        λ d. (let g = r.0 d in (element_moved s q (places number) at u v x m o g.0, g.1)),
        λ d. r.1 (element_moved s q at (places number) u v x m (where_sym q.headers (places number) at o) d.0, d.1),
      )

  pub no_next : (ElementAt s q at u v x (first h some).member → ⊥) → W → ⊥
  no_next none w = not_first (ElementsLeft s q places u us x) (ElementsLeft s q places u ws x) (λ m. ElementAt s q at u v x m) h some element_step none w

  pub next_element : {left' : List FlatRow} {n' place' number' : ℕ} → ElementAt s q at u v x (first h some).member → left' ≡ member_rows (first h some).following ++ rest → suc n' ≡ n → place' ≡ place + size_or (size_in (first h some).member) → number' ≡ number + count_or (size_in (first h some).member) → LeftAt W (ElementsLeft s q places u ws x) all left' rest n' place' number'
  next_element a b d g j = passed (ElementsLeft s q places u us x) (ElementsLeft s q places u ws x) (λ m. ElementAt s q at u v x m) h some element_step a b d g j

-- with none left

pub members_end : (s : List Resolved) (q : Checks) (places : ℕ → ℕ) (ds : List Component) (us : List (Option AbstractValue)) (x : List ℕ) → ds ≡ [] → us ≡ [] → (k : ℕ) → MembersLeft s q places ds us x k no_row
members_end s q places ds us x e f k = subst (λ y. MembersLeft s q places y us x k no_row) (sym e) (subst (λ y. MembersLeft s q places [] y x k no_row) (sym f) none_follows)

pub elements_end : (s : List Resolved) (q : Checks) (places : ℕ → ℕ) (u : ℕ) (us : List AbstractValue) (x : List ℕ) → us ≡ [] → (k : ℕ) → ElementsLeft s q places u us x k no_row
elements_end s q places u us x f k = subst (λ y. ElementsLeft s q places u y x k no_row) (sym f) no_element_follows
