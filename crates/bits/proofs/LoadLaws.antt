-- Octets read as bits.
use Rattle.std.proofs.Common.{arith, ◌≡◌, ℕ, zero, suc, ◌+◌, ◌-◌, ◌*◌, ◌/◌, ◌%◌, ◌^◌, ◌<◌, ◌≤◌, false, List, [], ◌∷◌, ◌++◌, length, refl, sym, ap, ◌∙◌, append_assoc, take, drop, get_or}
use Rattle.std.specs.Prelude.{replicate}
use Rattle.std.proofs.lemmas.Nat.{shr_split, or_shifted, shr_below, shr_high, pow_below, pow-add}
use Rattle.std.specs.Int.RustNames.{bit_or}
use Rattle.std.proofs.lemmas.List.{take_at, drop_at, take-append-drop, take-append-le, take_more, take_all, drop_more, drop-drop, drop-take, drop_all}
use Rattle.bits.specs.Words.{low_bits, octet_bits}
use Rattle.bits.proofs.SplitLaws.{word_split, word_length, word_up, word_cut, word_low, word_both, no_bits, fronts}
use Rattle.bits.proofs.PackLaws.{flat_append, flat_push}

pub octets_drop : (i : ℕ) (os : List ℕ) → drop (8 * i) (octet_bits os) ≡ octet_bits (drop i os)
octets_drop zero os = refl
octets_drop (suc i) [] = drop_all (8 * suc i) [] (omega arith)
octets_drop (suc i) (o ∷ os) =
    ap (λ q. drop q (low_bits 8 o ++ octet_bits os)) (let c : 8 * suc i ≡ 8 + 8 * i = omega arith in c)
    ∙ sym (drop-drop (8 * i) 8 (low_bits 8 o ++ octet_bits os))
    ∙ ap (drop (8 * i)) (drop_at (low_bits 8 o) (octet_bits os) 8 (word_length 8 o))
    ∙ octets_drop i os

-- what is left is the n bits that were loaded, and what is after
pub loaded : (os : List ℕ) (at n v : ℕ) → low_bits n v ≡ take n (drop at (octet_bits os)) → drop at (octet_bits os) ≡ low_bits n v ++ drop (at + n) (octet_bits os)
loaded os at n v e =
    sym (take-append-drop n (drop at (octet_bits os)))
    ∙ ap (λ q. q ++ drop n (drop at (octet_bits os))) (sym e)
    ∙ ap (λ q. low_bits n v ++ q) (drop-drop n at (octet_bits os))

-- the first n bits of a number of w bits
pub first_bits_of : (w n x : ℕ) → n ≤ w → low_bits n (x / 2 ^ (w - n)) ≡ take n (low_bits w x)
first_bits_of w n x l =
    let e : low_bits w x ≡ low_bits n (x / 2 ^ (w - n)) ++ low_bits (w - n) x = word_split n (w - n) w x (omega (arith, l)) in
    sym (ap (take n) e ∙ take_at (low_bits n (x / 2 ^ (w - n))) (low_bits (w - n) x) n (word_length n (x / 2 ^ (w - n))))

-- a number moved up shows its lower bits
pub moved_up : (u n x : ℕ) → u ≤ 64 → n ≤ 64 - u → take n (low_bits 64 (x * 2 ^ u % 2 ^ 64)) ≡ drop u (take (u + n) (low_bits 64 x))
moved_up u n x l m =
    let a : low_bits 64 (x * 2 ^ u % 2 ^ 64) ≡ low_bits (64 - u) x ++ replicate u false = word_cut 64 64 (x * 2 ^ u) (omega arith) ∙ word_up (64 - u) u 64 x (omega (arith, l)) in
    let b : low_bits 64 x ≡ low_bits u (x / 2 ^ (64 - u)) ++ low_bits (64 - u) x = word_split u (64 - u) 64 x (omega (arith, l)) in
    let long : n ≤ length (low_bits (64 - u) x) = rw (word_length (64 - u) x) m in
    ap (take n) a ∙ take-append-le n (low_bits (64 - u) x) (replicate u false) long
    ∙ ap (take n) (sym (ap (drop u) b ∙ drop_at (low_bits u (x / 2 ^ (64 - u))) (low_bits (64 - u) x) u (word_length u (x / 2 ^ (64 - u)))))
    ∙ sym (drop-take u n (low_bits 64 x))

-- the bits at a place are those of the octet there, without the ones before them
bits_there : (os : List ℕ) (at : ℕ) → drop (at % 8) (octet_bits (drop (at / 8) os)) ≡ drop at (octet_bits os)
bits_there os at =
    ap (drop (at % 8)) (sym (octets_drop (at / 8) os))
    ∙ drop-drop (at % 8) (8 * (at / 8)) (octet_bits os)
    ∙ ap (λ q. drop q (octet_bits os)) (let c : 8 * (at / 8) + at % 8 ≡ at = omega arith in c)

-- n bits at a place, of the eight octets there
pub some_loaded : (os : List ℕ) (at n w : ℕ) → at % 8 + n ≤ 64 → take (at % 8 + n) (low_bits 64 w) ≡ take (at % 8 + n) (octet_bits (drop (at / 8) os)) → low_bits n (w * 2 ^ (at % 8) % 2 ^ 64 / 2 ^ (64 - n)) ≡ take n (drop at (octet_bits os))
some_loaded os at n w l e =
    first_bits_of 64 n (w * 2 ^ (at % 8) % 2 ^ 64) (omega (arith, l))
    ∙ moved_up (at % 8) n w (omega arith) (omega (arith, l))
    ∙ ap (drop (at % 8)) e
    ∙ drop-take (at % 8) n (octet_bits (drop (at / 8) os))
    ∙ ap (take n) (bits_there os at)

-- a number moved up by u bits, and the first u bits of an octet in its place
filled_up : (u x o : ℕ) → u ≤ 8 → o < 256 → low_bits 64 (bit_or (x * 2 ^ u % 2 ^ 64) (o / 2 ^ (8 - u))) ≡ low_bits (64 - u) x ++ take u (low_bits 8 o)
filled_up u x o l m =
    let f = x * 2 ^ u % 2 ^ 64 in
    let h = o / 2 ^ (8 - u) in
    let up : low_bits 64 f ≡ low_bits (64 - u) x ++ replicate u false = word_cut 64 64 (x * 2 ^ u) (omega arith) ∙ word_up (64 - u) u 64 x (omega (arith, l)) in
    let low : low_bits u f ≡ replicate u false = word_cut 64 u (x * 2 ^ u) (omega (arith, l)) ∙ word_up 0 u u x (omega arith) in
    let none : f % 2 ^ u ≡ 0 = no_bits u f low in
    let few : h < 2 ^ u = shr_below o u (8 - u) (rw (let c : u + (8 - u) ≡ 8 = omega (arith, l) in c) m) in
    let whole : f ≡ f / 2 ^ u * 2 ^ u = sym (shr_split f u) ∙ ap (λ q. f / 2 ^ u * 2 ^ u + q) none ∙ (let z : f / 2 ^ u * 2 ^ u + 0 ≡ f / 2 ^ u * 2 ^ u = omega arith in z) in
    let sum : bit_or f h ≡ f + h = ap (λ q. bit_or q h) whole ∙ or_shifted (f / 2 ^ u) u h few ∙ ap (λ q. q + h) (sym whole) in
    let front : low_bits (64 - u) (f / 2 ^ u) ≡ low_bits (64 - u) x =
    (fronts (low_bits (64 - u) (f / 2 ^ u)) (low_bits u f) (low_bits (64 - u) x) (replicate u false) (word_length (64 - u) (f / 2 ^ u) ∙ sym (word_length (64 - u) x))
    (sym (word_split (64 - u) u 64 f (omega (arith, l))) ∙ up)).0 in
    ap (low_bits 64) sum ∙ word_both (64 - u) u 64 f h (omega (arith, l)) none few ∙ ap (λ q. q ++ low_bits u h) front ∙ ap (λ q. low_bits (64 - u) x ++ q) (first_bits_of 8 u o l)

-- an octet is the first eight of the bits from it on
octet_there : (os : List ℕ) (i : ℕ) → i < length os → take 8 (octet_bits (drop i os)) ≡ low_bits 8 (get_or os i 0)
octet_there os i l = ap (λ q. take 8 (octet_bits q)) (drop_more os i 0 l) ∙ take_at (low_bits 8 (get_or os i 0)) (octet_bits (drop (i + 1) os)) 8 (word_length 8 (get_or os i 0))

-- n bits at a place, of the eight octets there and the next one
pub nine_loaded : (os : List ℕ) (at n w : ℕ) → n ≤ 64 → at / 8 + 8 < length os → get_or os (at / 8 + 8) 0 < 256 → take 64 (low_bits 64 w) ≡ take 64 (octet_bits (drop (at / 8) os))
    → low_bits n (bit_or (w * 2 ^ (at % 8) % 2 ^ 64) (get_or os (at / 8 + 8) 0 / 2 ^ (8 - at % 8)) / 2 ^ (64 - n)) ≡ take n (drop at (octet_bits os))
nine_loaded os at n w l inside m e =
    let u = at % 8 in
    let o = get_or os (at / 8 + 8) 0 in
    let few : u ≤ 8 = omega arith in
    let bits = octet_bits (drop (at / 8) os) in
    let first = low_bits u (w / 2 ^ (64 - u)) in
    let second = low_bits (64 - u) w in
    let behind = drop 8 (drop 64 bits) in
    let y = bit_or (w * 2 ^ u % 2 ^ 64) (o / 2 ^ (8 - u)) in
    let eight : take 64 bits ≡ first ++ second = sym e ∙ take_all 64 (low_bits 64 w) (rw (word_length 64 w) (omega arith)) ∙ word_split u (64 - u) 64 w (omega (arith, few)) in
    let next : take 8 (drop 64 bits) ≡ low_bits 8 o = ap (take 8) (octets_drop 8 (drop (at / 8) os) ∙ ap octet_bits (drop-drop 8 (at / 8) os)) ∙ octet_there os (at / 8 + 8) inside in
    let parts : bits ≡ first ++ (second ++ (low_bits 8 o ++ behind)) =
    sym (take-append-drop 64 bits) ∙ ap (λ q. q ++ drop 64 bits) eight ∙ append_assoc first second (drop 64 bits)
    ∙ ap (λ q. first ++ (second ++ q)) (sym (take-append-drop 8 (drop 64 bits)) ∙ ap (λ q. q ++ behind) next) in
    let left : drop u bits ≡ (second ++ take u (low_bits 8 o)) ++ (drop u (low_bits 8 o) ++ behind) =
    ap (drop u) parts ∙ drop_at first (second ++ (low_bits 8 o ++ behind)) u (word_length u (w / 2 ^ (64 - u)))
    ∙ ap (λ q. second ++ (q ++ behind)) (sym (take-append-drop u (low_bits 8 o)))
    ∙ ap (λ q. second ++ q) (append_assoc (take u (low_bits 8 o)) (drop u (low_bits 8 o)) behind)
    ∙ sym (append_assoc second (take u (low_bits 8 o)) (drop u (low_bits 8 o) ++ behind)) in
    let filled = filled_up u w o few m in
    let long : n ≤ length (second ++ take u (low_bits 8 o)) = rw (sym (ap length filled) ∙ word_length 64 y) l in
    first_bits_of 64 n y l ∙ ap (take n) filled ∙ sym (take-append-le n (second ++ take u (low_bits 8 o)) (drop u (low_bits 8 o) ++ behind) long)
    ∙ ap (take n) (sym left ∙ bits_there os at)

pub small_high : (n x : ℕ) → n ≤ 64 → x < 2 ^ 64 → x / 2 ^ (64 - n) < 2 ^ n
small_high n x l f = shr_below x n (64 - n) (rw (let c : n + (64 - n) ≡ 64 = omega (arith, l) in c) f)

shr_is : (a k b : ℕ) → b < 2 ^ k → (a * 2 ^ k + b) / 2 ^ k ≡ a
shr_is = shr_high

-- fewer than eight octets
pub few_first : (os : List ℕ) (n v : ℕ) → length os < 8 → low_bits (8 * length os) v ≡ octet_bits os → n ≤ 8 * length os → take n (low_bits 64 (v * 2 ^ (64 - 8 * length os) % 2 ^ 64)) ≡ take n (octet_bits os)
few_first os n v l e m =
    let k = 64 - 8 * length os in
    let a : low_bits 64 (v * 2 ^ k % 2 ^ 64) ≡ low_bits (8 * length os) v ++ replicate k false = word_cut 64 64 (v * 2 ^ k) (omega arith) ∙ word_up (8 * length os) k 64 v (omega (arith, l)) in
    let long : n ≤ length (low_bits (8 * length os) v) = rw (word_length (8 * length os) v) m in
    ap (take n) a ∙ take-append-le n (low_bits (8 * length os) v) (replicate k false) long ∙ ap (take n) e

-- eight octets, of more
pub eight_loaded : (os front : List ℕ) (n v : ℕ) → front ≡ take 8 os → 8 ≤ length os → low_bits 64 v ≡ octet_bits front → n ≤ 64 → take n (low_bits 64 v) ≡ take n (octet_bits os)
eight_loaded os front n v f l e m =
    let long : n ≤ length (low_bits 64 v) = rw (word_length 64 v) m in
    sym (ap (take n) (ap octet_bits (sym (take-append-drop 8 os)) ∙ flat_append 8 (take 8 os) (drop 8 os) ∙ ap (λ q. q ++ octet_bits (drop 8 os)) (ap octet_bits (sym f) ∙ sym e))
    ∙ take-append-le n (low_bits 64 v) (octet_bits (drop 8 os)) long)

-- one octet more
pub number_more : (os : List ℕ) (i x v : ℕ) → i < length os → x ≡ get_or os i 0 → x < 256 → low_bits (8 * i) v ≡ octet_bits (take i os) → low_bits (8 * (i + 1)) (v * 256 + x) ≡ octet_bits (take (i + 1) os)
number_more os i x v l e m h =
    word_split (8 * i) 8 (8 * (i + 1)) (v * 256 + x) (omega arith)
    ∙ ap (λ q. low_bits (8 * i) q ++ low_bits 8 (v * 256 + x)) (shr_is v 8 x m)
    ∙ ap (λ q. low_bits (8 * i) v ++ q) (word_low 8 v x)
    ∙ ap (λ q. q ++ low_bits 8 x) h
    ∙ ap (λ q. octet_bits (take i os) ++ low_bits 8 q) e
    ∙ sym (flat_push 8 (take i os) (get_or os i 0))
    ∙ ap octet_bits (sym (take_more os i 0 l))

-- a number of fewer than seven octets
pub few_octets : (i v : ℕ) → i < 7 → v < 2 ^ (8 * i) → v < 2 ^ 56
few_octets i v l m = let p : 2 ^ (8 * i) < 2 ^ 56 = pow_below (8 * i) 56 (omega (arith, l)) in omega (arith, p, m)

pub octet_more : (i v x : ℕ) → v < 2 ^ (8 * i) → x < 256 → v * 256 + x < 2 ^ (8 * (i + 1))
octet_more i v x l m =
    let p : 2 ^ (8 * (i + 1)) ≡ 256 * 2 ^ (8 * i) = ap (λ q. 2 ^ q) (let c : 8 * (i + 1) ≡ 8 + 8 * i = omega arith in c) ∙ pow-add 2 8 (8 * i) in
    omega (arith, p, l, m)
