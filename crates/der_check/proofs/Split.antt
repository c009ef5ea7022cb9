-- Encodings that follow one another have only one division.
use Rattle.std.proofs.Common.{arith, ◌≡◌, ℕ, zero, suc, ◌+◌, ◌≤◌, Bool, List, [], ◌∷◌, ◌++◌, length, drop, refl, sym, ap, subst, ◌∙◌, append_assoc, length-append}
use Rattle.std.specs.Prelude.{Option, Some, None, slice_get}
use Rattle.std.specs.List.{concat, AllByRecursion}
use Rattle.asn_base.specs.declared.tag.Tag.{Tag}
use Rattle.encodings.specs.Header.{Header, LengthOf, short, long, identifier}
use Rattle.octet_answers.specs.Units.{UnitAt}
use Rattle.der_check.specs.Units.{IsUnit}

-- no header begins another one
abbrev pub HeadersApart : Type 0
HeadersApart = (t u : Tag) (b c : Bool) (n m : ℕ) (h g x y : List ℕ) → Header t b n h → Header u c m g → h ++ x ≡ g ++ y → (t ≡ u) × (b ≡ c) × (n ≡ m) × (h ≡ g) × (x ≡ y)

abbrev head_in : {A : Type 0} → List A → Option A
head_in [] = None
head_in (x ∷ xs) = Some x

abbrev tail_in : {A : Type 0} → List A → List A
tail_in [] = []
tail_in (x ∷ xs) = xs

some_same : {A : Type 0} {x y : A} → Some x ≡ Some y → x ≡ y
some_same e = cc

pub split_front : {A : Type 0} (x y p q : List A) → length x ≡ length y → x ++ p ≡ y ++ q → (x ≡ y) × (p ≡ q)
split_front [] [] p q l e = (refl, e)
split_front [] (b ∷ y) p q l e = absurd (omega arith)
split_front (a ∷ x) [] p q l e = absurd (omega arith)
split_front (a ∷ x) (b ∷ y) p q l e =
    let r = split_front x y p q (omega arith) (ap tail_in e) in
    (let h = some_same (ap head_in e) in let z = r.0 in cc, r.1)

drop_by : {A : Type 0} (xs : List A) (i : ℕ) {y : A} {ys : List A} → drop i xs ≡ y ∷ ys → (slice_get xs i ≡ Some y) × (drop (suc i) xs ≡ ys)
drop_by [] zero e = absurd (let l = ap length e in omega arith)
drop_by [] (suc i) e = absurd (let l = ap length e in omega arith)
drop_by (x ∷ xs) zero e = (ap head_in e, ap tail_in e)
drop_by (x ∷ xs) (suc i) e = drop_by xs i e

-- the element at a place of a list, and those after it
pub drop_next : {A : Type 0} (xs : List A) (i : ℕ) {y : A} {ys : List A} → drop i xs ≡ y ∷ ys → (slice_get xs i ≡ Some y) × (drop (i + 1) xs ≡ ys)
drop_next xs i {ys = ys} e = let r = drop_by xs i e in (r.0, subst (λ q. drop q xs ≡ ys) (let z : suc i ≡ i + 1 = omega arith in z) r.1)

-- two units at one front are the same
pub record OneUnit (g f : Tag) (x y p q : List ℕ) : Type 0 where
  pub tags : g ≡ f
  pub octets : x ≡ y
  pub rests : p ≡ q

pub one_unit : HeadersApart → {g f : Tag} {x y p q : List ℕ} → IsUnit g x → IsUnit f y → x ++ p ≡ y ++ q → OneUnit g f x y p q
one_unit law {g} {f} {x} {y} {p} {q} u v e =
    let d : u.header ++ (u.contents ++ p) ≡ v.header ++ (v.contents ++ q) = sym (append_assoc u.header u.contents p) ∙ ap (λ z. z ++ p) (sym u.whole) ∙ e ∙ ap (λ z. z ++ q) v.whole ∙ append_assoc v.header v.contents q in
    let r = law g f u.constructed v.constructed (length u.contents) (length v.contents) u.header v.header (u.contents ++ p) (v.contents ++ q) u.is_header v.is_header d in
    let c = split_front u.contents v.contents p q r.2 r.4 in
    record {
      tags = r.0;
      octets = u.whole ∙ ap (λ z. z ++ u.contents) r.3 ∙ ap (λ z. v.header ++ z) c.0 ∙ sym v.whole;
      rests = c.1;
    }

size_some : {n : ℕ} {x : List ℕ} → LengthOf n x → 1 ≤ length x
size_some (short l) = omega arith
size_some (long l) = omega arith

pub unit_some : {g : Tag} {o : List ℕ} → IsUnit g o → 1 ≤ length o
unit_some {g} u =
    let h = u.is_header in
    let a = ap length u.whole in
    let b = length-append u.header u.contents in
    let c = ap length h.whole in
    let d = length-append (identifier g.class g.number u.constructed) h.size in
    let e = size_some h.is_size in
    omega (arith, a, b, c, d, e)

abbrev pub AllUnits : List (List ℕ) → Type 0
AllUnits ys = AllByRecursion (λ y. (g : Tag) × IsUnit g y) ys

pub units_list : HeadersApart → (xs ys : List (List ℕ)) → AllUnits xs → AllUnits ys → concat xs ≡ concat ys → xs ≡ ys
units_list law [] [] a b e = refl
units_list law [] (y ∷ ys) a b e = absurd (let l = ap length e in omega (arith, l, unit_some b.0.1, length-append y (concat ys)))
units_list law (x ∷ xs) [] a b e = absurd (let l = ap length e in omega (arith, l, unit_some a.0.1, length-append x (concat xs)))
units_list law (x ∷ xs) (y ∷ ys) a b e =
    let r = one_unit law a.0.1 b.0.1 e in
    let h = r.octets in
    let t : xs ≡ ys = units_list law xs ys a.1 b.1 r.rests in
    cc

-- ---- the encoding at the front

-- the octets of a unit, cut off
pub front_unit : {g : Tag} {c : Bool} {k : ℕ} {x r o : List ℕ} (a b : List ℕ) → UnitAt g c k x r o → o ≡ a ++ b → length a ≡ k + length x → IsUnit g a
front_unit {g} {c} {k} {x} {r} {o} a b u e l =
    let d : a ++ b ≡ (u.header ++ x) ++ r = sym e ∙ u.whole ∙ sym (append_assoc u.header x r) in
    let m = length-append u.header x in
    let n = u.long in
    let s = split_front a (u.header ++ x) b r (omega arith) d in
    record { constructed = c; header = u.header; contents = x; is_header = u.is_header; whole = s.0 }

pub within_unit : {g : Tag} {c : Bool} {k : ℕ} {x r o : List ℕ} → UnitAt g c k x r o → k + length x ≤ length o
within_unit {x = x} {r = r} u =
    let e = ap length u.whole in
    let a = length-append u.header (x ++ r) in
    let b = length-append x r in
    let l = u.long in
    omega (arith, e, a, b, l)

pub unit_at : {g : Tag} {x : List ℕ} (r o : List ℕ) (u : IsUnit g x) → o ≡ x ++ r → length o ≤ 16777216 → UnitAt g u.constructed (length u.header) u.contents r o
unit_at {g} {x} r o u e l = record {
  header = u.header;
  is_header = u.is_header;
  few = (let a = ap length e in let b = length-append x r in let c = ap length u.whole in let d = length-append u.header u.contents in omega arith);
  long = refl;
  whole = e ∙ ap (λ q. q ++ r) u.whole ∙ append_assoc u.header u.contents r;
}

-- two headers with contents at one front are one
pub record SameUnit (g f : Tag) (c d : Bool) (k m : ℕ) (x y r q : List ℕ) : Type 0 where
  pub tags : g ≡ f
  pub forms : c ≡ d
  pub counts : k ≡ m
  pub contents : x ≡ y
  pub rests : r ≡ q

pub same_unit : HeadersApart → {g f : Tag} {c d : Bool} {k m : ℕ} {x y r q o : List ℕ} → UnitAt g c k x r o → UnitAt f d m y q o → SameUnit g f c d k m x y r q
same_unit law {g} {f} {c} {d} {x = x} {y = y} {r = r} {q = q} u v =
    let e = law g f c d (length x) (length y) u.header v.header (x ++ r) (y ++ q) u.is_header v.is_header (sym u.whole ∙ v.whole) in
    let z = split_front x y r q e.2 e.4 in
    record { tags = e.0; forms = e.1; counts = sym u.long ∙ ap length e.3 ∙ v.long; contents = z.0; rests = z.1 }
