-- Items after their number, part by part.
use Rattle.std.proofs.Common.{◌≡◌, ℕ, zero, suc, ◌-◌, ◌*◌, ◌/◌, ◌<◌, ◌≤◌, ◌⊎◌, inl, inr, ⊎_elim, Bool, true, false, List, [], ◌∷◌, ◌++◌, length, take, drop, refl, sym, ap, subst, ◌∙◌, arith, append_assoc}
use Rattle.std.proofs.lemmas.Bool.{lt-ltb, le-ltb}
use Rattle.std.proofs.lemmas.Grind.{common_steps}
use Rattle.std.proofs.lemmas.List.{take-append-drop, length-drop}
use Rattle.std.specs.Prelude.{nat_lt, min, if◌then◌else◌}
use Rattle.bits.specs.Words.{low_bits, octet_bits}
use Rattle.packed_encodings.specs.Lengths.{Bits, Items, all_bits, Counted, short, long, fragment}
use Rattle.std.specs.Prelude.{map}
use Rattle.std.proofs.lemmas.List.{length-map}
use Rattle.packed_counts.specs.Counts.{items_next, count_bits, Adds}

if_true : {X : Type 0} (b : Bool) (x y : X) → b ≡ true → (if b then x else y) ≡ x
if_true b x y e = ap (λ t. if t then x else y) e

if_false : {X : Type 0} (b : Bool) (x y : X) → b ≡ false → (if b then x else y) ≡ y
if_false b x y e = ap (λ t. if t then x else y) e

pub few_bits : (n : ℕ) → n < 128 → count_bits n ≡ false ∷ low_bits 7 n
few_bits n l = if_true (nat_lt n 128) (false ∷ low_bits 7 n) (if nat_lt n 16384 then true ∷ (false ∷ low_bits 14 n) else true ∷ (true ∷ low_bits 6 (min 4 (n / 16384)))) (lt-ltb n 128 l)

pub some_bits : (n : ℕ) → 128 ≤ n → n < 16384 → count_bits n ≡ true ∷ (false ∷ low_bits 14 n)
some_bits n h l =
    if_false (nat_lt n 128) (false ∷ low_bits 7 n) (if nat_lt n 16384 then true ∷ (false ∷ low_bits 14 n) else true ∷ (true ∷ low_bits 6 (min 4 (n / 16384)))) (le-ltb n 128 h)
    ∙ if_true (nat_lt n 16384) (true ∷ (false ∷ low_bits 14 n)) (true ∷ (true ∷ low_bits 6 (min 4 (n / 16384)))) (lt-ltb n 16384 l)

pub part_bits : (n m : ℕ) → 16384 ≤ n → m ≡ min 4 (n / 16384) → count_bits n ≡ true ∷ (true ∷ low_bits 6 m)
part_bits n m h e =
    if_false (nat_lt n 128) (false ∷ low_bits 7 n) (if nat_lt n 16384 then true ∷ (false ∷ low_bits 14 n) else true ∷ (true ∷ low_bits 6 (min 4 (n / 16384)))) (le-ltb n 128 (omega arith))
    ∙ if_false (nat_lt n 16384) (true ∷ (false ∷ low_bits 14 n)) (true ∷ (true ∷ low_bits 6 (min 4 (n / 16384)))) (le-ltb n 16384 h)
    ∙ ap (λ q. true ∷ (true ∷ low_bits 6 q)) (sym e)

pub all_next : (n : ℕ) → n < 16384 → items_next n ≡ n
all_next n l = if_true (nat_lt n 16384) n (16384 * min 4 (n / 16384)) (lt-ltb n 16384 l)

pub part_next : (n m : ℕ) → 16384 ≤ n → m ≡ min 4 (n / 16384) → items_next n ≡ 16384 * m
part_next n m h e = if_false (nat_lt n 16384) n (16384 * min 4 (n / 16384)) (le-ltb n 16384 h) ∙ ap (λ q. 16384 * q) (sym e)

pub times_below : (n : ℕ) → 16384 ≤ n → n < 65536 → n / 16384 ≡ min 4 (n / 16384)
times_below n h l = grind arith

pub times_four : (n : ℕ) → 65536 ≤ n → 4 ≡ min 4 (n / 16384)
times_four n h = grind arith

lt_or_ge : (m n : ℕ) → (m < n) ⊎ (n ≤ m)
lt_or_ge zero zero = inr (omega arith)
lt_or_ge zero (suc n) = inl (omega arith)
lt_or_ge (suc m) zero = inr (omega arith)
lt_or_ge (suc m) (suc n) = ⊎_elim (λ l. inl (omega arith)) (λ g. inr (omega arith)) (lt_or_ge m n)

-- how many times 16,384 items there are
record Times (n m : ℕ) : Type 0 where
  is : m ≡ min 4 (n / 16384)
  low : 1 ≤ m
  high : m ≤ 4
  there : 16384 * m ≤ n
  left : (n - 16384 * m < 16384) ⊎ (m ≡ 4)

times_of : (n : ℕ) → 16384 ≤ n → (m : ℕ) × Times n m
times_of n h = ⊎_elim
    (λ l. (n / 16384, record { is = times_below n h l; low = omega arith; high = omega arith; there = omega arith; left = inl (omega arith) }))
    (λ g. (4, record { is = times_four n g; low = omega arith; high = omega arith; there = omega arith; left = inr refl }))
    (lt_or_ge n 65536)

pub at_most : (n : ℕ) → items_next n ≤ n
at_most n = ⊎_elim (λ l. let e = all_next n l in omega (arith, e)) (λ h. let t = times_of n h in let e = part_next n t.0 h t.1.is in let k = t.1.there in omega (arith, e, k)) (lt_or_ge n 16384)

pub some : (n : ℕ) → 16384 ≤ n → 16384 ≤ items_next n
some n h = let t = times_of n h in let e = part_next n t.0 h t.1.is in let k = t.1.low in omega (arith, e, k)

pub at_once : (xs : Items) → length xs < 16384 → Counted xs (count_bits (length xs) ++ all_bits xs)
at_once xs l = ⊎_elim
    (λ f. subst (λ q. Counted xs (q ++ all_bits xs)) (sym (few_bits (length xs) f)) (short f))
    (λ g. subst (λ q. Counted xs (q ++ all_bits xs)) (sym (some_bits (length xs) g l)) (long g l))
    (lt_or_ge (length xs) 128)

pub part : (xs : Items) (b : Bits) → 16384 ≤ length xs → Counted (drop (items_next (length xs)) xs) b → Counted xs (count_bits (length xs) ++ (all_bits (take (items_next (length xs)) xs) ++ b))
part xs b h c =
    let t = times_of (length xs) h in
    let m = t.0 in
    let e : items_next (length xs) ≡ 16384 * m = part_next (length xs) m h t.1.is in
    let k : 16384 * m ≤ length xs = t.1.there in
    let x : length (take (16384 * m) xs) ≡ 16384 * m = grind (arith, common_steps) in
    let y : length (drop (16384 * m) xs) ≡ length xs - 16384 * m = length-drop (16384 * m) xs in
    let d : Counted (drop (16384 * m) xs) b = subst (λ q. Counted (drop q xs) b) e c in
    let o : (length (drop (16384 * m) xs) < 16384) ⊎ (m ≡ 4) = subst (λ q. (q < 16384) ⊎ (m ≡ 4)) (sym y) t.1.left in
    let f : Counted (take (16384 * m) xs ++ drop (16384 * m) xs) (true ∷ (true ∷ (low_bits 6 m ++ (all_bits (take (16384 * m) xs) ++ b)))) = fragment m (take (16384 * m) xs) (drop (16384 * m) xs) t.1.low t.1.high x o d in
    let g : Counted xs (true ∷ (true ∷ (low_bits 6 m ++ (all_bits (take (16384 * m) xs) ++ b)))) = subst (λ q. Counted q (true ∷ (true ∷ (low_bits 6 m ++ (all_bits (take (16384 * m) xs) ++ b))))) (take-append-drop (16384 * m) xs) f in
    let r : Counted xs (count_bits (length xs) ++ (all_bits (take (16384 * m) xs) ++ b)) = subst (λ q. Counted xs (q ++ (all_bits (take (16384 * m) xs) ++ b))) (sym (part_bits (length xs) m h t.1.is)) g in
    subst (λ q. Counted xs (count_bits (length xs) ++ (all_bits (take q xs) ++ b))) (sym e) r

pub octets_are : (o : List ℕ) → all_bits (map (low_bits 8) o) ≡ octet_bits o
octets_are [] = refl
octets_are (x ∷ o) = ap (λ q. low_bits 8 x ++ q) (octets_are o)

map_take : (n : ℕ) (xs : List ℕ) → map (low_bits 8) (take n xs) ≡ take n (map (low_bits 8) xs)
map_take zero xs = refl
map_take (suc n) [] = refl
map_take (suc n) (x ∷ xs) = ap (λ q. low_bits 8 x ∷ q) (map_take n xs)

map_drop : (n : ℕ) (xs : List ℕ) → map (low_bits 8) (drop n xs) ≡ drop n (map (low_bits 8) xs)
map_drop zero xs = refl
map_drop (suc n) [] = refl
map_drop (suc n) (x ∷ xs) = map_drop n xs

pub octets_at_once : (o : List ℕ) (a b d : Bits) → length o < 16384 → b ≡ a ++ count_bits (length o) → d ≡ b ++ all_bits (map (low_bits 8) o) → Adds (Counted (map (low_bits 8) o)) a d
octets_at_once o a b d l e f =
    let xs = map (low_bits 8) o in
    let k : length xs ≡ length o = length-map o (low_bits 8) in
    record {
      bits = count_bits (length xs) ++ all_bits xs;
      is = at_once xs (omega (arith, k, l));
      whole = f ∙ ap (λ q. q ++ all_bits xs) (e ∙ ap (λ q. a ++ count_bits q) (sym k)) ∙ append_assoc a (count_bits (length xs)) (all_bits xs);
    }

pub octets_in_part : (o x y : List ℕ) (n : ℕ) (a b d f : Bits) → 16384 ≤ length o → n ≡ items_next (length o) → x ≡ take n o → y ≡ drop n o → b ≡ a ++ count_bits (length o) → d ≡ b ++ all_bits (map (low_bits 8) x) → Adds (Counted (map (low_bits 8) y)) d f → Adds (Counted (map (low_bits 8) o)) a f
octets_in_part o x y n a b d f h m ex ey eb ed r =
    let xs = map (low_bits 8) o in
    let k : length xs ≡ length o = length-map o (low_bits 8) in
    let i : n ≡ items_next (length xs) = m ∙ ap items_next (sym k) in
    let first : map (low_bits 8) x ≡ take (items_next (length xs)) xs = ap (map (low_bits 8)) ex ∙ map_take n o ∙ ap (λ q. take q xs) i in
    let rest : map (low_bits 8) y ≡ drop (items_next (length xs)) xs = ap (map (low_bits 8)) ey ∙ map_drop n o ∙ ap (λ q. drop q xs) i in
    let c : Counted (drop (items_next (length xs)) xs) r.bits = subst (λ q. Counted q r.bits) rest r.is in
    let z = all_bits (map (low_bits 8) x) in
    let w : f ≡ a ++ (count_bits (length xs) ++ (z ++ r.bits))
    = r.whole ∙ ap (λ q. q ++ r.bits) (ed ∙ ap (λ q. q ++ z) (eb ∙ ap (λ q. a ++ count_bits q) (sym k)))
    ∙ append_assoc (a ++ count_bits (length xs)) z r.bits ∙ append_assoc a (count_bits (length xs)) (z ++ r.bits) in
    record {
      bits = count_bits (length xs) ++ (all_bits (take (items_next (length xs)) xs) ++ r.bits);
      is = part xs r.bits (omega (arith, k, h)) c;
      whole = w ∙ ap (λ q. a ++ (count_bits (length xs) ++ (all_bits q ++ r.bits))) first;
    }
