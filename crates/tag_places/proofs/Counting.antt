-- Keys in ascending order: those below a key come first.
use Rattle.std.proofs.Common.{arith, ◌≡◌, ℕ, zero, suc, ◌+◌, ◌≤◌, Bool, true, false, nat_lt, List, [], ◌∷◌, length, ap}
use Rattle.std.specs.Prelude.{cond}
use Rattle.std.specs.List.Sorted.{IsPartitionPoint}
use Rattle.std.proofs.lemmas.List.Sums.{sum_by-cons}
use Rattle.tag_places.specs.Keys.{below}

abbrev pub one_if : Bool → ℕ
one_if b = cond b 1 0

pub below_more : (x : ℕ) (ks : List ℕ) (k : ℕ) → below (x ∷ ks) k ≡ one_if (nat_lt x k) + below ks k
below_more x ks k = sum_by-cons (λ y. one_if (nat_lt y k)) x ks

-- as many are below as come before the point
pub counted : (ks : List ℕ) (k p : ℕ) → p ≤ length ks
    → IsPartitionPoint (λ y. nat_lt y k ≡ true) (λ y. nat_lt y k ≡ false) ks p → below ks k ≡ p
counted [] k p l q = omega (arith, l)
counted (x ∷ ks) k zero l q =
    let e : one_if (nat_lt x k) ≡ 0 = ap one_if (q.1 0 x (omega arith) (omega arith)) in
    let r = counted ks k zero (omega arith)
    (λ j d a b. absurd (omega (arith, b)), λ j d a b. q.1 (suc j) d (omega arith) (omega (arith, b))) in
    let m = below_more x ks k in
    omega (arith, e, r, m)
counted (x ∷ ks) k (suc p) l q =
    let e : one_if (nat_lt x k) ≡ 1 = ap one_if (q.0 0 x (omega arith) (omega arith)) in
    let r = counted ks k p (omega (arith, l))
    (λ j d a b. q.0 (suc j) d (omega arith) (omega (arith, b)), λ j d a b. q.1 (suc j) d (omega (arith, a)) (omega (arith, b))) in
    let m = below_more x ks k in
    omega (arith, e, r, m)
