-- Length octets at the front, and why there are none.
use Rattle.std.proofs.Common.{arith, ◌≡◌, ℕ, zero, suc, ◌+◌, ◌-◌, ◌<◌, ◌≤◌, List, [], ◌∷◌, ◌++◌, length, replicate, get_or, refl, sym, ap, ◌∙◌, length-append}
use Rattle.std.specs.Int.Digits.{number_from_digits, number_from_digits_after, AllBelowBase}
use Rattle.encodings.specs.Header.{short, long}
use Rattle.octets.specs.declared.header_fault.HeaderFault.TheVariants.{Truncated, Indefinite, BadLength}
use Rattle.octets.specs.Scans.{SizeAt, NoSize, cut_size, indefinite, reserved_size, great_size}

-- octets as the type of a slice says it
abbrev pub AreOctets : List ℕ → Type 0
AreOctets o = (i : ℕ) → get_or o i 0 < 256

pub all_below : (o : List ℕ) → AreOctets o → AllBelowBase 256 o
all_below [] h = tt
all_below (x ∷ o) h = (h 0, all_below o (λ i. h (suc i)))

after : {x : ℕ} {o b : List ℕ} → o ≡ x ∷ b → AllBelowBase 256 o → AllBelowBase 256 b
after {o = []} e h = absurd (let f = ap length e in omega arith)
after {o = y ∷ o} e h = rw (sym (ap tail_of e)) h.1
  where
    tail_of : List ℕ → List ℕ
    tail_of [] = []
    tail_of (x ∷ xs) = xs

both_below : (a b : List ℕ) → AllBelowBase 256 a → AllBelowBase 256 b → AllBelowBase 256 (a ++ b)
both_below [] b h k = k
both_below (x ∷ a) b h k = (h.0, both_below a b h.1 k)

front_below : (a b : List ℕ) → AllBelowBase 256 (a ++ b) → AllBelowBase 256 a
front_below [] b h = tt
front_below (x ∷ a) b h = (h.0, front_below a b h.1)

zeros_below : (n : ℕ) → AllBelowBase 256 (replicate n 0)
zeros_below zero = tt
zeros_below (suc n) = (omega arith, zeros_below n)

zeros_long : (n : ℕ) → length {A = ℕ} (replicate n 0) ≡ n
zeros_long zero = refl
zeros_long (suc n) = ap suc (zeros_long n)

pub size_short : (x : ℕ) (o rest : List ℕ) → o ≡ x ∷ rest → x < 128 → SizeAt x rest o
size_short x o rest e l = record { size = x ∷ []; is_size = short l; few = omega arith; whole = e }

digits_below : {x : ℕ} {o b : List ℕ} (ds rest : List ℕ) → o ≡ x ∷ b → b ≡ ds ++ rest → AreOctets o → AllBelowBase 256 ds
digits_below {o = o} {b = b} ds rest e f h = front_below ds rest (rw (sym f) (after e (all_below o h)))

pub size_long : (x n : ℕ) (o b ds rest : List ℕ) → o ≡ x ∷ b → b ≡ ds ++ rest → x ≡ 128 + length ds → 1 ≤ length ds → length ds ≤ 126 → AreOctets o → n ≡ number_from_digits_after 256 0 ds → n ≤ 16777216 → SizeAt n rest o
size_long x n o b ds rest e f g some few all worth most = record {
  size = (128 + length ds) ∷ ds;
  is_size = long (record { some = some; at_most = few; octets = digits_below ds rest e f all; worth = sym worth });
  few = most;
  whole = e ∙ ap (λ q. q ∷ b) g ∙ ap (λ q. (128 + length ds) ∷ q) f;
}

pub size_great : (x : ℕ) (o b ds rest : List ℕ) → o ≡ x ∷ b → b ≡ ds ++ rest → x ≡ 128 + length ds → 1 ≤ length ds → length ds ≤ 126 → AreOctets o → 16777216 < number_from_digits_after 256 0 ds → NoSize o BadLength
size_great x o b ds rest e f g some few all great =
    great_size rest (long (record { some = some; at_most = few; octets = digits_below ds rest e f all; worth = refl })) great
    (e ∙ ap (λ q. q ∷ b) g ∙ ap (λ q. (128 + length ds) ∷ q) f)

pub size_none : (o : List ℕ) → length o ≡ 0 → NoSize o Truncated
size_none [] e = cut_size {n = 0} (0 ∷ []) (short (omega arith)) refl (omega arith)
size_none (x ∷ o) e = absurd (omega arith)

pub size_indefinite : (x : ℕ) (o b : List ℕ) → o ≡ x ∷ b → x ≡ 128 → NoSize o Indefinite
size_indefinite x o b e f = indefinite b (e ∙ ap (λ q. q ∷ b) f)

pub size_reserved : (x : ℕ) (o b : List ℕ) → o ≡ x ∷ b → x ≡ 255 → NoSize o BadLength
size_reserved x o b e f = reserved_size b (e ∙ ap (λ q. q ∷ b) f)

pub size_cut : (x : ℕ) (o b : List ℕ) → o ≡ x ∷ b → 129 ≤ x → x ≤ 254 → AreOctets o → length b < x - 128 → NoSize o Truncated
size_cut x o b e some few all lt =
    let more = x - 128 - length b in
    let ds = b ++ replicate more 0 in
    let z = zeros_long more in
    let l = length-append b (replicate more 0) in
    let k : length ds ≡ x - 128 = omega (arith, z, l) in
    let w : x ≡ 128 + length ds = omega (arith, k) in
    cut_size {n = number_from_digits 256 ds} (replicate more 0)
    (long {ds = ds} (record { some = omega (arith, k); at_most = omega (arith, k); octets = both_below b (replicate more 0) (after e (all_below o all)) (zeros_below more); worth = refl }))
    (ap (λ q. q ∷ ds) (sym w) ∙ ap (λ q. q ++ replicate more 0) (sym e))
    (omega (arith, z))
