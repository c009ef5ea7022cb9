-- What follows if a comparison says that two numbers, or two pairs of numbers, are equal.
use Rattle.std.proofs.Common.{◌≡◌, ℕ, ◌<◌, true, sym, refl, ap, ◌∙◌}
use Rattle.std.specs.Prelude.{ℤ, ◌<ℤ◌}
use Rattle.std.specs.Cmp.{IsTotalOrder}
use Rattle.std.specs.Ordering.{is_eq, MatchOrdering, nat_cmp, int_cmp, ordering_then}
use Rattle.std.specs.declared.cmp.Ordering.{Ordering}
use Rattle.std.specs.declared.cmp.Ordering.TheVariants.{Less, Equal, Greater}
use Rattle.std.proofs.lemmas.Cmp.{ranked, int_ranked, tied_itself, nat_cmp_total}

pub equal_by : (P Q R : Type 0) (o : Ordering) → is_eq o ≡ true → MatchOrdering o P Q R → Q
equal_by P Q R Less e m = absurd cc
equal_by P Q R Equal e m = m
equal_by P Q R Greater e m = absurd cc

pub nat_exact : (x y : ℕ) → is_eq (nat_cmp x y) ≡ true → x ≡ y
nat_exact x y e = equal_by (x < y) (x ≡ y) (y < x) (nat_cmp x y) e (ranked x y (nat_cmp x y) refl)

pub nat_itself : (x : ℕ) → is_eq (nat_cmp x x) ≡ true
nat_itself x = ap is_eq (tied_itself nat_cmp_total x)

pub int_exact : (x y : ℤ) → is_eq (int_cmp x y) ≡ true → x ≡ y
int_exact x y e = equal_by (x <ℤ y) (x ≡ y) (y <ℤ x) (int_cmp x y) e (int_ranked x y (int_cmp x y) refl)

pub itself : {A : Type 0} {cmp : A → A → Ordering} → IsTotalOrder cmp → (x y : A) → x ≡ y → is_eq (cmp x y) ≡ true
itself {cmp = cmp} o x y e = ap (λ z. is_eq (cmp x z)) (sym e) ∙ ap is_eq (tied_itself o x)

-- ---- pairs of numbers, in order of the first numbers, and those with one first number in order of the second ones

abbrev pub pair_cmp : ℕ × ℕ → ℕ × ℕ → Ordering
pair_cmp x y = ordering_then (nat_cmp x.0 y.0) (nat_cmp x.1 y.1)

then_left : (o p : Ordering) → is_eq (ordering_then o p) ≡ true → is_eq o ≡ true
then_left Less p e = absurd cc
then_left Equal p e = refl
then_left Greater p e = absurd cc

then_right : (o p : Ordering) → is_eq (ordering_then o p) ≡ true → is_eq p ≡ true
then_right Less p e = absurd cc
then_right Equal p e = e
then_right Greater p e = absurd cc

pub pair_exact : (x y : ℕ × ℕ) → is_eq (pair_cmp x y) ≡ true → x ≡ y
pair_exact x y e =
    let a = nat_exact x.0 y.0 (then_left (nat_cmp x.0 y.0) (nat_cmp x.1 y.1) e) in
    let b = nat_exact x.1 y.1 (then_right (nat_cmp x.0 y.0) (nat_cmp x.1 y.1) e) in
    ap (λ z. (z, x.1)) a ∙ ap (λ z. (y.0, z)) b

pub pair_itself : (x y : ℕ × ℕ) → x ≡ y → is_eq (pair_cmp x y) ≡ true
pair_itself x y e =
    ap (λ z. is_eq (pair_cmp x z)) (sym e)
    ∙ ap (λ o. is_eq (ordering_then o (nat_cmp x.1 x.1))) (tied_itself nat_cmp_total x.0)
    ∙ ap is_eq (tied_itself nat_cmp_total x.1)
