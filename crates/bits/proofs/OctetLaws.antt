-- Octets and words.
use Rattle.std.proofs.Common.{arith, ◌≡◌, ℕ, zero, suc, ◌+◌, ◌-◌, ◌*◌, ◌/◌, ◌%◌, ◌^◌, ◌<◌, ◌≤◌, Bool, false, List, [], ◌∷◌, ◌++◌, length, refl, sym, ap, ◌∙◌, append_assoc, take, drop, get_or}
use Rattle.std.specs.Prelude.{◌==◌, flat_map, slice_get, Some, None}
use Rattle.std.specs.Int.{bytes_high_first, to_be_bytes, from_be_bytes, byte_at, w64}
use Rattle.std.proofs.Math.Nat.{pow-succ'}
use Rattle.std.proofs.lemmas.Nat.{be_bytes_8, pow-add}
use Rattle.std.proofs.lemmas.List.{take_at, take-append-drop, get_or-take, length-take-le, take_more}
use Rattle.std.proofs.lemmas.List.Concat.{get_or-flat_map}
use Rattle.bits.specs.Words.{low_bits, octet_bits, word_bits}
use Rattle.bits.specs.Packed.{Holds, first_bits}
use Rattle.bits.proofs.SplitLaws.{word_split, word_length, word_rest}
use Rattle.bits.proofs.PackLaws.{flat_append, flat_long, flat_push, held, view_is}

octet_power : (k : ℕ) → 256 ^ k ≡ 2 ^ (8 * k)
octet_power zero = refl
octet_power (suc k) = pow-succ' 256 k ∙ ap (λ q. 256 * q) (octet_power k) ∙ sym (pow-add 2 8 (8 * k)) ∙ ap (λ q. 2 ^ q) (let c : 8 + 8 * k ≡ 8 * suc k = omega arith in c)

byte_is : (k n : ℕ) → byte_at k n ≡ n / 2 ^ (8 * k) % 2 ^ 8
byte_is zero n = let e : n % 256 ≡ n / 1 % 256 = omega arith in e
byte_is (suc k) n = ap (λ q. n / q % 256) (octet_power (suc k))

-- the low k octets of a number
bytes_bits : (k n : ℕ) → octet_bits (bytes_high_first k n) ≡ low_bits (8 * k) n
bytes_bits zero n = refl
bytes_bits (suc k) n =
    let a : low_bits 8 (byte_at k n) ≡ low_bits 8 (n / 2 ^ (8 * k)) = ap (low_bits 8) (byte_is k n) ∙ word_rest 8 (n / 2 ^ (8 * k)) in
    ap (λ q. low_bits 8 (byte_at k n) ++ q) (bytes_bits k n) ∙ ap (λ q. q ++ low_bits (8 * k) n) a
    ∙ sym (word_split 8 (8 * k) (8 * suc k) n (let c : 8 + 8 * k ≡ 8 * suc k = omega arith in c))

pub bytes_out : (n : ℕ) → octet_bits (to_be_bytes w64 n) ≡ low_bits 64 n
bytes_out n = bytes_bits 8 n

pub bytes_in : (bs : List ℕ) (n : ℕ) → length bs ≡ 8 → ((i : ℕ) → get_or bs i 0 < 256) → n ≡ from_be_bytes w64 bs → low_bits 64 n ≡ octet_bits bs
bytes_in bs n l b e = sym (bytes_out n) ∙ ap octet_bits (be_bytes_8 bs n l b e)

-- ---- one bit

bit_of : (k j n : ℕ) → j < k → get_or (low_bits k n) j false ≡ (n / 2 ^ (k - 1 - j) % 2 == 1)
bit_of zero j n l = elim (let f : j < 0 → ⊥ = (λ g. omega (arith, g)) in f l) [ ]
bit_of (suc k) zero n l = ap (λ q. n / 2 ^ q % 2 == 1) (let e : k ≡ suc k - 1 - 0 = omega arith in e)
bit_of (suc k) (suc j) n l = bit_of k j n (omega (arith, l)) ∙ ap (λ q. n / 2 ^ q % 2 == 1) (let e : k - 1 - j ≡ suc k - 1 - suc j = omega arith in e)

some_at : (xs : List Bool) (i : ℕ) → i < length xs → slice_get xs i ≡ Some (get_or xs i false)
some_at [] i l = elim (let f : i < 0 → ⊥ = (λ g. omega (arith, g)) in f l) [ ]
some_at (x ∷ xs) zero l = refl
some_at (x ∷ xs) (suc i) l = some_at xs i (omega (arith, l))

pub none_at : (xs : List Bool) (i : ℕ) → length xs ≤ i → slice_get xs i ≡ None
none_at [] i l = refl
none_at (x ∷ xs) zero l = elim (let f : suc (length xs) ≤ 0 → ⊥ = (λ g. omega (arith, g)) in f l) [ ]
none_at (x ∷ xs) (suc i) l = none_at xs i (omega (arith, l))

word_bit : (w : ℕ) (ws : List ℕ) (i j : ℕ) → i < length ws → j < w → get_or (flat_map (low_bits w) ws) (i * w + j) false ≡ (get_or ws i 0 / 2 ^ (w - 1 - j) % 2 == 1)
word_bit w ws i j l m =
    let long : length (flat_map (low_bits w) (take i ws)) ≡ i * w = flat_long w (take i ws) ∙ ap (λ q. q * w) (length-take-le i ws (omega (arith, l))) in
    let inside : j < length (low_bits w (get_or ws i 0)) = rw (word_length w (get_or ws i 0)) m in
    ap (λ q. get_or (flat_map (low_bits w) ws) (q + j) false) (sym long)
    ∙ get_or-flat_map (low_bits w) ws i j 0 false l inside
    ∙ bit_of w j (get_or ws i 0) m

pub bit_at : (ws : List ℕ) (n p : ℕ) → Holds ws n (first_bits ws n) → p < n → p / 64 < length ws → Some (get_or ws (p / 64) 0 / 2 ^ (63 - p % 64) % 2 == 1) ≡ slice_get (first_bits ws n) p
bit_at ws n p h l at =
    let e : get_or (first_bits ws n) p false ≡ (get_or ws (p / 64) 0 / 2 ^ (64 - 1 - p % 64) % 2 == 1) =
    get_or-take n (word_bits ws) p false l
    ∙ ap (λ q. get_or (word_bits ws) q false) (let c : p ≡ p / 64 * 64 + p % 64 = omega arith in c)
    ∙ word_bit 64 ws (p / 64) (p % 64) at (omega arith) in
    let s = some_at (first_bits ws n) p (rw h.long l) in
    sym (s ∙ ap (λ q. Some q) e ∙ ap (λ q. Some (get_or ws (p / 64) 0 / 2 ^ q % 2 == 1)) (let c : 64 - 1 - p % 64 ≡ 63 - p % 64 = omega arith in c))

-- ---- words as octets

pub octets_word : (os ps : List ℕ) (ws : List ℕ) (i x : ℕ) → i < length ws → x ≡ get_or ws i 0 → octet_bits os ≡ word_bits (take i ws) → ps ≡ os ++ to_be_bytes w64 x → octet_bits ps ≡ word_bits (take (i + 1) ws)
octets_word os ps ws i x l e h f =
    ap octet_bits f ∙ flat_append 8 os (to_be_bytes w64 x) ∙ ap (λ q. q ++ octet_bits (to_be_bytes w64 x)) h
    ∙ ap (λ q. word_bits (take i ws) ++ q) (bytes_out x) ∙ ap (λ q. word_bits (take i ws) ++ low_bits 64 q) e
    ∙ sym (flat_push 64 (take i ws) (get_or ws i 0)) ∙ ap word_bits (sym (take_more ws i 0 l))

-- the octets of the first bits
pub octets_cut : (os ws : List ℕ) (n : ℕ) → n % 8 ≡ 0 → n ≤ 64 * length ws → octet_bits os ≡ word_bits ws → octet_bits (take (n / 8) os) ≡ first_bits ws n
octets_cut os ws n z l h =
    let many : length os * 8 ≡ length ws * 64 = sym (flat_long 8 os) ∙ ap length h ∙ flat_long 64 ws in
    let long : length (octet_bits (take (n / 8) os)) ≡ n = flat_long 8 (take (n / 8) os) ∙ ap (λ q. q * 8) (length-take-le (n / 8) os (omega (arith, many, l))) ∙ (let c : n / 8 * 8 ≡ n = omega (arith, z) in c) in
    sym (take_at (octet_bits (take (n / 8) os)) (octet_bits (drop (n / 8) os)) n long)
    ∙ ap (take n) (sym (flat_append 8 (take (n / 8) os) (drop (n / 8) os)) ∙ ap octet_bits (take-append-drop (n / 8) os) ∙ h)

-- ---- octets put after bits

-- k bits more, that are the first of what is left
pub more_held : (new : List ℕ) (at k : ℕ) (before added rest after all : List Bool) → Holds new (at + k) (before ++ added) → rest ≡ added ++ after → before ++ rest ≡ all → (Holds new (at + k) (first_bits new (at + k))) × (first_bits new (at + k) ++ after ≡ all)
more_held new at k before added rest after all h e a = (
  held new (at + k) (before ++ added) h,
  ap (λ q. q ++ after) (view_is new (at + k) (before ++ added) h) ∙ append_assoc before added after ∙ ap (λ q. before ++ q) (sym e) ∙ a,
)

-- k octets first
pub first_octets : (k : ℕ) (rest front after : List ℕ) (bits : List Bool) → front ≡ take k rest → after ≡ drop k rest → bits ≡ octet_bits front → octet_bits rest ≡ bits ++ octet_bits after
first_octets k rest front after bits f b e =
    ap octet_bits (sym (take-append-drop k rest) ∙ ap (λ q. q ++ drop k rest) (sym f) ∙ ap (λ q. front ++ q) (sym b))
    ∙ flat_append 8 front after
    ∙ ap (λ q. q ++ octet_bits after) (sym e)
