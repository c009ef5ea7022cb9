-- What holds of all elements.
use Rattle.std.proofs.Common.{◌≡◌, ℕ, zero, suc, ◌+◌, ◌<◌, ◌≤◌, arith, take}
use Rattle.std.specs.Prelude.{List, [], ◌∷◌, length, slice_index_or}
use Rattle.std.specs.List.{AllByRecursion}

pub all_more : {A : Type 0} (P : A → Type 0) (xs : List A) (i : ℕ) (d : A)
    → i < length xs
    → AllByRecursion P (take i xs)
    → P (slice_index_or xs i d)
    → AllByRecursion P (take (i + 1) xs)
all_more P [] i d h a p = absurd (omega arith)
all_more P (x ∷ xs) zero d h a p = (p, tt)
all_more P (x ∷ xs) (suc i) d h a p =
    let q : suc i + 1 ≡ suc (i + 1) = omega arith in
    rw q (a.0, all_more P xs i d (omega arith) a.1 p)

pub all_of : {A : Type 0} (P : A → Type 0) (xs : List A) (i : ℕ)
    → length xs ≤ i
    → AllByRecursion P (take i xs)
    → AllByRecursion P xs
all_of P [] i h a = tt
all_of P (x ∷ xs) zero h a = absurd (omega arith)
all_of P (x ∷ xs) (suc i) h a = (a.0, all_of P xs i (omega arith) a.1)

pub one_of : {A : Type 0} (P : A → Type 0) (xs : List A) (i : ℕ) (d : A)
    → i < length xs
    → AllByRecursion P xs
    → P (slice_index_or xs i d)
one_of P [] i d h a = absurd (omega arith)
one_of P (x ∷ xs) zero d h a = a.0
one_of P (x ∷ xs) (suc i) d h a = one_of P xs i d (omega arith) a.1

-- octets below 128 are of ASCII
pub all_ascii : (xs : List ℕ) → AllByRecursion (λ c. c < 128) xs → (i : ℕ) → slice_index_or xs i 0 < 128
all_ascii [] a i = omega arith
all_ascii (x ∷ xs) a zero = a.0
all_ascii (x ∷ xs) a (suc i) = all_ascii xs a.1 i

pub each_weaker : {A : Type 0} (P Q : A → Type 0) (xs : List A)
    → ((x : A) → P x → Q x)
    → AllByRecursion P xs
    → AllByRecursion Q xs
each_weaker P Q [] f a = tt
each_weaker P Q (x ∷ xs) f a = (f x a.0, each_weaker P Q xs f a.1)
