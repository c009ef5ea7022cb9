-- What becomes of a number or of a size, by what is known of the constraint.
use Rattle.std.proofs.Common.{rules, arith, ◌≡◌, ℕ, ◌+◌, ◌^◌, ◌<◌, ◌≤◌, Bool, true, false, ap, refl, subst, sym, ◌∙◌}
use mir.Syntax.{w128}
use Rattle.std.specs.Prelude.{nat_lt, if◌then◌else◌, ◌&&◌, ℤ, pos, ◌+ℤ◌, Some, None, Result, Ok, Err, IfOk, IfErr, IfNone, FitsSigned, Option}
use Rattle.asn_base.specs.Abstract.{AbstractValue, integer}
use Rattle.asn_base.specs.Types.{Constraint}
use Rattle.encodings.specs.Header.{Octets}
use Rattle.packed_encodings.specs.Lengths.{Bits}
use Rattle.packed_encodings.specs.Computed.{is_in_root}
use Rattle.decode_faults.specs.declared.refusal.Refusal.{Refusal}
use Rattle.decode_faults.specs.declared.refusal.Refusal.TheVariants as why
use Rattle.packed_readings.specs.Outcome.{Judged, Outcome, found, good, bad, judging, onward, stops, verdict}
use Rattle.packed_readings.specs.Code.{above_judge, outside_judge, root_judge}
use Rattle.packed_readings.specs.proving.Numbers.{limited}
use Rattle.packed_readings.proofs.Judging.{above_past, above_read, other_read, other_refused, root_read, root_refused}
use Rattle.packed_readings.specs.Counts.{at_once, is_allowed, size_fault, size_of}
use Rattle.packed_readings.specs.Leaves.{is_within_limit, number_between, root_number, other_number, signed_number, unsigned_number}

-- ---- numbers

pub root_apart : (c : Constraint) (z y : ℤ) (a : Bool) → y ≡ z → is_within_limit z ≡ true → a ≡ is_in_root c.visible y → a ≡ false
    → root_number c z ≡ bad why.Outside
root_apart c z y a i h e f = search rules

pub root_allowed : (c : Constraint) (z y : ℤ) (a b : Bool) → y ≡ z → is_within_limit z ≡ true → a ≡ is_in_root c.visible y → a ≡ true
    → b ≡ is_allowed c y → b ≡ true → root_number c z ≡ good (integer y)
root_allowed c z y a b i h e f g k = search rules

pub root_barred : (c : Constraint) (z y : ℤ) (a b : Bool) → y ≡ z → is_within_limit z ≡ true → a ≡ is_in_root c.visible y → a ≡ true
    → b ≡ is_allowed c y → b ≡ false → root_number c z ≡ bad why.Outside
root_barred c z y a b i h e f g k = search rules

pub other_inside : (c : Constraint) (z y : ℤ) (a : Bool) → y ≡ z → is_within_limit z ≡ true → a ≡ is_in_root c.visible y → a ≡ true
    → other_number c z ≡ bad why.NotCanonical
other_inside c z y a i h e f = search rules

pub other_allowed : (c : Constraint) (z y : ℤ) (a b : Bool) → y ≡ z → is_within_limit z ≡ true → a ≡ is_in_root c.visible y → a ≡ false
    → b ≡ is_allowed c y → b ≡ true → other_number c z ≡ good (integer y)
other_allowed c z y a b i h e f g k = search rules

pub other_barred : (c : Constraint) (z y : ℤ) (a b : Bool) → y ≡ z → is_within_limit z ≡ true → a ≡ is_in_root c.visible y → a ≡ false
    → b ≡ is_allowed c y → b ≡ false → other_number c z ≡ bad why.Outside
other_barred c z y a b i h e f g k = search rules

-- what a call answers is said of another judgment that is the same
pub moved_ok : (j k : Judged AbstractValue) (r : Result ℤ Refusal) → j ≡ k → IfOk r (λ z. j ≡ good (integer z))
    → IfOk r (λ z. k ≡ good (integer z))
moved_ok j k r e h = subst (λ i. IfOk r (λ z. i ≡ good (integer z))) e h

pub moved_err : (j k : Judged AbstractValue) (r : Result ℤ Refusal) → j ≡ k → IfErr r (λ e. j ≡ bad e) → IfErr r (λ e. k ≡ bad e)
moved_err j k r e h = subst (λ i. IfErr r (λ e. i ≡ bad e)) e h

-- what follows from an answer, or from a refusal
pub on_ok : {A E : Type 0} (P Q : A → Type 0) (r : Result A E) → ((a : A) → P a → Q a) → IfOk r P → IfOk r Q
on_ok P Q (Ok a) f h = f a h
on_ok P Q (Err e) f h = tt

pub on_err : {A E : Type 0} (P Q : E → Type 0) (r : Result A E) → ((e : E) → P e → Q e) → IfErr r P → IfErr r Q
on_err P Q (Ok a) f h = tt
on_err P Q (Err e) f h = f e h

-- the number above the least one is past the span
pub past_span : (c : Constraint) (l : ℤ) (m n : ℕ) → m < n → number_between c l m n ≡ bad why.Outside
past_span c l m n h = search rules

pub in_span : (c : Constraint) (l : ℤ) (m n : ℕ) → n ≤ m → number_between c l m n ≡ root_number c (l +ℤ pos n)
in_span c l m n h = search rules

-- the text has as many characters as the number says
pub as_many : (c : Constraint) (n : ℕ) (z : ℤ) (b : Bool) → z ≡ pos n → b ≡ is_allowed c z → b ≡ is_allowed c (pos n)
as_many c n z b i e = e ∙ ap (is_allowed c) i

-- a number above the least one
pub above_ok : (c : Constraint) (l : ℤ) (n : ℕ) (y : ℤ) (r : Result ℤ Refusal) → y ≡ l +ℤ pos n
    → IfOk r (λ z. root_number c y ≡ good (integer z)) → IfOk r (λ z. root_number c (l +ℤ pos n) ≡ good (integer z))
above_ok c l n y r e h = moved_ok (root_number c y) (root_number c (l +ℤ pos n)) r (ap (root_number c) e) h

pub above_err : (c : Constraint) (l : ℤ) (n : ℕ) (y : ℤ) (r : Result ℤ Refusal) → y ≡ l +ℤ pos n
    → IfErr r (λ e. root_number c y ≡ bad e) → IfErr r (λ e. root_number c (l +ℤ pos n) ≡ bad e)
above_err c l n y r e h = moved_err (root_number c y) (root_number c (l +ℤ pos n)) r (ap (root_number c) e) h

same_sum : (c : Constraint) (l k : ℤ) (m n p : ℕ) → k ≡ l → p ≡ n → n ≤ m → root_number c (k +ℤ pos p) ≡ number_between c l m n
same_sum c l k m n p e f h =
    ap (λ x. root_number c (x +ℤ pos p)) e ∙ ap (λ x. root_number c (l +ℤ pos x)) f ∙ sym (in_span c l m n h)

pub between_ok : (c : Constraint) (l k : ℤ) (m n p : ℕ) (r : Result ℤ Refusal) → k ≡ l → p ≡ n → n ≤ m
    → IfOk r (λ z. root_number c (k +ℤ pos p) ≡ good (integer z)) → IfOk r (λ z. number_between c l m n ≡ good (integer z))
between_ok c l k m n p r e f h i = moved_ok (root_number c (k +ℤ pos p)) (number_between c l m n) r (same_sum c l k m n p e f h) i

pub between_err : (c : Constraint) (l k : ℤ) (m n p : ℕ) (r : Result ℤ Refusal) → k ≡ l → p ≡ n → n ≤ m
    → IfErr r (λ e. root_number c (k +ℤ pos p) ≡ bad e) → IfErr r (λ e. number_between c l m n ≡ bad e)
between_err c l k m n p r e f h i = moved_err (root_number c (k +ℤ pos p)) (number_between c l m n) r (same_sum c l k m n p e f h) i

pub same_between : (c : Constraint) (l k : ℤ) (m n p q : ℕ) (j : Judged AbstractValue) → k ≡ l → p ≡ m → q ≡ n
    → number_between c k p q ≡ j → number_between c l m n ≡ j
same_between c l k m n p q j e f g h =
    sym (ap (λ x. number_between c x p q) e ∙ ap (λ x. number_between c l x q) f ∙ ap (λ x. number_between c l m x) g) ∙ h

-- what octets say, judged
pub root_judged : (c : Constraint) (o : Octets) (z y : ℤ) (r : Result ℤ Refusal) → y ≡ z → limited (signed_number o) ≡ good z
    → IfOk r (λ v. root_number c y ≡ good (integer v)) → IfOk r (λ v. root_judge c o ≡ good (integer v))
root_judged c o z y r i e h =
    on_ok (λ v. root_number c y ≡ good (integer v)) (λ v. root_judge c o ≡ good (integer v)) r
    (λ v g. root_read c o z (integer v) e (sym (ap (root_number c) i) ∙ g)) h

pub root_unread : (c : Constraint) (o : Octets) (z y : ℤ) (r : Result ℤ Refusal) → y ≡ z → limited (signed_number o) ≡ good z
    → IfErr r (λ e. root_number c y ≡ bad e) → IfErr r (λ e. root_judge c o ≡ bad e)
root_unread c o z y r i e h =
    on_err (λ d. root_number c y ≡ bad d) (λ d. root_judge c o ≡ bad d) r
    (λ d g. root_refused c o z d e (sym (ap (root_number c) i) ∙ g)) h

pub other_judged : (c : Constraint) (o : Octets) (z y : ℤ) (r : Result ℤ Refusal) → y ≡ z → limited (signed_number o) ≡ good z
    → IfOk r (λ v. other_number c y ≡ good (integer v)) → IfOk r (λ v. outside_judge c o ≡ good (integer v))
other_judged c o z y r i e h =
    on_ok (λ v. other_number c y ≡ good (integer v)) (λ v. outside_judge c o ≡ good (integer v)) r
    (λ v g. other_read c o z (integer v) e (sym (ap (other_number c) i) ∙ g)) h

pub other_unread : (c : Constraint) (o : Octets) (z y : ℤ) (r : Result ℤ Refusal) → y ≡ z → limited (signed_number o) ≡ good z
    → IfErr r (λ e. other_number c y ≡ bad e) → IfErr r (λ e. outside_judge c o ≡ bad e)
other_unread c o z y r i e h =
    on_err (λ d. other_number c y ≡ bad d) (λ d. outside_judge c o ≡ bad d) r
    (λ d g. other_refused c o z d e (sym (ap (other_number c) i) ∙ g)) h

pub above_judged : (c : Constraint) (l k : ℤ) (o : Octets) (n p : ℕ) (r : Result ℤ Refusal) → k ≡ l → p ≡ n
    → unsigned_number o ≡ good n → IfOk r (λ z. root_number c (k +ℤ pos p) ≡ good (integer z))
    → IfOk r (λ z. above_judge c l o ≡ good (integer z))
above_judged c l k o n p r e f g h =
    moved_ok (root_number c (k +ℤ pos p)) (above_judge c l o) r
    (ap (λ x. root_number c (x +ℤ pos p)) e ∙ ap (λ x. root_number c (l +ℤ pos x)) f
    ∙ sym (above_read c l o n (root_number c (l +ℤ pos n)) g refl)) h

pub above_unread : (c : Constraint) (l k : ℤ) (o : Octets) (n p : ℕ) (r : Result ℤ Refusal) → k ≡ l → p ≡ n
    → unsigned_number o ≡ good n → IfErr r (λ e. root_number c (k +ℤ pos p) ≡ bad e) → IfErr r (λ e. above_judge c l o ≡ bad e)
above_unread c l k o n p r e f g h =
    moved_err (root_number c (k +ℤ pos p)) (above_judge c l o) r
    (ap (λ x. root_number c (x +ℤ pos p)) e ∙ ap (λ x. root_number c (l +ℤ pos x)) f
    ∙ sym (above_read c l o n (root_number c (l +ℤ pos n)) g refl)) h

-- the octets have a number that doesn't fit
pub none_past : (c : Constraint) (l : ℤ) (o : Octets) → FitsSigned w128 l → (r : Option ℕ) → r ≡ None
    → IfNone r ((n : ℕ) × (2 ^ 128 ≤ n) × (unsigned_number o ≡ good n)) → above_judge c l o ≡ bad why.IntegerLimit
none_past c l o f None e h = above_past c l o h.0 f h.1 h.2
none_past c l o f (Some x) e h = absurd (cc)

-- the number is written in another way
pub good_same : (j : Judged AbstractValue) (z y : ℤ) → y ≡ z → j ≡ good (integer z) → j ≡ good (integer y)
good_same j z y i e = e ∙ sym (ap (λ x. good (integer x)) i)

-- what is read is judged
pub judged_good : {X Y : Type 0} (j : X → Judged Y) (f : Bits → Outcome X) (b r : Bits) (n : X) (v : Y) → f b ≡ found n r
    → j n ≡ good v → judging j f b ≡ found v r
judged_good j f b r n v e g = ap (λ o. onward o (λ v r. verdict (j v) b r)) e ∙ ap (λ q. verdict q b r) g

pub judged_bad : {X Y : Type 0} (j : X → Judged Y) (f : Bits → Outcome X) (b r : Bits) (n : X) (d : Refusal) → f b ≡ found n r
    → j n ≡ bad d → judging j f b ≡ stops d b
judged_bad j f b r n d e g = ap (λ o. onward o (λ v r. verdict (j v) b r)) e ∙ ap (λ q. verdict q b r) g

-- ---- sizes

pub fault_twice : (c : Constraint) (o : Bool) (n : ℕ) (z : ℤ) (a : Bool) → z ≡ pos n → a ≡ is_in_root c.visible z → a ≡ true
    → o ≡ true → Some why.NotCanonical ≡ size_fault c o n
fault_twice c o n z a e f g h = search rules

pub fault_root : (c : Constraint) (o : Bool) (n : ℕ) (z : ℤ) (a b : Bool) → z ≡ pos n → a ≡ is_in_root c.visible z → a ≡ true
    → o ≡ false → b ≡ is_allowed c z → b ≡ true → None ≡ size_fault c o n
fault_root c o n z a b e f g h k l = search rules

pub fault_refused : (c : Constraint) (o : Bool) (n : ℕ) (z : ℤ) (b : Bool) → z ≡ pos n
    → b ≡ is_allowed c z → b ≡ false → o ≡ false → Some why.Outside ≡ size_fault c o n
fault_refused c o n z b e f g h = search rules

pub fault_inside : (c : Constraint) (o : Bool) (n : ℕ) (z : ℤ) (a : Bool) → z ≡ pos n → a ≡ is_in_root c.visible z → a ≡ false
    → o ≡ false → Some why.Outside ≡ size_fault c o n
fault_inside c o n z a e f g h = search rules

pub fault_other : (c : Constraint) (o : Bool) (n : ℕ) (z : ℤ) (a b : Bool) → z ≡ pos n → a ≡ is_in_root c.visible z → a ≡ false
    → o ≡ true → b ≡ is_allowed c z → b ≡ true → None ≡ size_fault c o n
fault_other c o n z a b e f g h k l = search rules

pub fault_none : (c : Constraint) (o : Bool) (n : ℕ) (z : ℤ) (a b : Bool) → z ≡ pos n → a ≡ is_in_root c.visible z → a ≡ false
    → o ≡ true → b ≡ is_allowed c z → b ≡ false → Some why.Outside ≡ size_fault c o n
fault_none c o n z a b e f g h k l = search rules

pub over_past : (c : Constraint) (l m n : ℕ) → m < n → size_of c l m n ≡ bad why.Outside
over_past c l m n h = search rules

pub over_allowed : (c : Constraint) (l m n : ℕ) (z : ℤ) (b : Bool) → n ≤ m → z ≡ pos (l + n) → b ≡ is_allowed c z → b ≡ true
    → size_of c l m n ≡ good (at_once (l + n))
over_allowed c l m n z b h e f g = search rules

pub over_refused : (c : Constraint) (l m n : ℕ) (z : ℤ) (b : Bool) → n ≤ m → z ≡ pos (l + n) → b ≡ is_allowed c z → b ≡ false
    → size_of c l m n ≡ bad why.Outside
over_refused c l m n z b h e f g = search rules
