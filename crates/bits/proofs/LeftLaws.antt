-- What is left of some bits.
use Rattle.std.proofs.Common.{arith, ◌≡◌, ℕ, ◌+◌, ◌-◌, ◌*◌, ◌≤◌, List, ◌++◌, length, sym, ap, ◌∙◌, take, drop, take-add}
use Rattle.std.proofs.lemmas.List.{take_at, drop_at, take_all, length-drop, length-take-le, drop-drop, take-take, drop-take}
use Rattle.bits.specs.Words.{low_bits, octet_bits}
use Rattle.bits.specs.Left.{Took}
use Rattle.bits.proofs.PackLaws.{flat_long}

pub all_left : (os : List ℕ) → take (length os * 8 - 0) (drop 0 (octet_bits os)) ≡ octet_bits os
all_left os = take_all (length os * 8 - 0) (octet_bits os) (let l = flat_long 8 os in omega (arith, l))

module _ (os : List ℕ) (at end : ℕ) (i : at ≤ end) (w : end ≤ 8 * length os) where
  pub left_count : length (take (end - at) (drop at (octet_bits os))) ≡ end - at
  left_count =
      let l = flat_long 8 os in
      let d = length-drop at (octet_bits os) in
      length-take-le (end - at) (drop at (octet_bits os)) (omega (arith, l, d, i, w))

  pub left_front : (n : ℕ) → n ≤ end - at → take (at + n - at) (drop at (octet_bits os)) ≡ take n (take (end - at) (drop at (octet_bits os)))
  left_front n l = ap (λ q. take q (drop at (octet_bits os))) (let c : at + n - at ≡ n = omega arith in c) ∙ sym (take-take n (end - at) (drop at (octet_bits os)) l)

  -- what is after the next n bits
  after : (n : ℕ) → n ≤ end - at → drop n (take (end - at) (drop at (octet_bits os))) ≡ take (end - (at + n)) (drop (at + n) (octet_bits os))
  after n l =
      ap (λ q. drop n (take q (drop at (octet_bits os)))) (let c : end - at ≡ n + (end - (at + n)) = omega (arith, l, i) in c)
      ∙ drop-take n (end - (at + n)) (drop at (octet_bits os))
      ∙ ap (take (end - (at + n))) (drop-drop n at (octet_bits os))

  pub left_skipped : (n : ℕ) → n ≤ end - at → take (end - (at + n)) (drop (at + n) (octet_bits os)) ≡ drop n (take (end - at) (drop at (octet_bits os)))
  left_skipped n l = sym (after n l)

  pub left_taken : (n v : ℕ) → n ≤ end - at → low_bits n v ≡ take n (drop at (octet_bits os)) → take (end - at) (drop at (octet_bits os)) ≡ low_bits n v ++ take (end - (at + n)) (drop (at + n) (octet_bits os))
  left_taken n v l e =
      ap (λ q. take q (drop at (octet_bits os))) (let c : end - at ≡ n + (end - (at + n)) = omega (arith, l, i) in c)
      ∙ take-add n (end - (at + n)) (drop at (octet_bits os))
      ∙ ap (λ q. q ++ take (end - (at + n)) (drop n (drop at (octet_bits os)))) (sym e)
      ∙ ap (λ q. low_bits n v ++ take (end - (at + n)) q) (drop-drop n at (octet_bits os))

  pub left_took : (count : ℕ) (old new : List ℕ) → 8 * count ≤ end - at → Took count old new (drop at (octet_bits os)) (drop (at + 8 * count) (octet_bits os))
      → Took count old new (take (end - at) (drop at (octet_bits os))) (take (end - (at + 8 * count)) (drop (at + 8 * count) (octet_bits os)))
  left_took count old new l t =
      let long : length (octet_bits t.octets) ≡ 8 * count = let f = flat_long 8 t.octets in let m = t.many in omega (arith, f, m) in
      let rest = drop (at + 8 * count) (octet_bits os) in
      record {
        octets = t.octets;
        many = t.many;
        joined = t.joined;
        taken =
            ap (λ q. take q (drop at (octet_bits os))) (let c : end - at ≡ 8 * count + (end - (at + 8 * count)) = omega (arith, l, i) in c)
            ∙ ap (take (8 * count + (end - (at + 8 * count)))) t.taken
            ∙ take-add (8 * count) (end - (at + 8 * count)) (octet_bits t.octets ++ rest)
            ∙ ap (λ q. q ++ take (end - (at + 8 * count)) (drop (8 * count) (octet_bits t.octets ++ rest))) (take_at (octet_bits t.octets) rest (8 * count) long)
            ∙ ap (λ q. octet_bits t.octets ++ take (end - (at + 8 * count)) q) (drop_at (octet_bits t.octets) rest (8 * count) long);
      }
