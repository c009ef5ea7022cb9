-- Octets taken at any place.
use Rattle.std.proofs.Common.{arith, ◌≡◌, ℕ, ◌+◌, ◌*◌, ◌/◌, ◌%◌, ◌≤◌, Bool, List, [], ◌∷◌, ◌++◌, length, refl, sym, ap, ◌∙◌, length-append, append_assoc, take, drop}
use Rattle.std.specs.Int.{to_be_bytes, w64}
use Rattle.std.proofs.lemmas.List.{append-nil, take-append-drop, length-take-le, length-drop, drop-drop}
use Rattle.bits.specs.Words.{low_bits, octet_bits}
use Rattle.bits.specs.Left.{Took}
use Rattle.bits.proofs.PackLaws.{flat_append}
use Rattle.bits.proofs.OctetLaws.{bytes_out}
use Rattle.bits.proofs.LoadLaws.{octets_drop, loaded}

pub took_none : (old : List ℕ) (left : List Bool) → Took 0 old old left left
took_none old left = record { octets = []; many = refl; joined = sym (append-nil old); taken = refl }

pub took_more : (k m : ℕ) (old mid new os : List ℕ) (left between after : List Bool) → Took k old mid left between → new ≡ mid ++ os → length os ≡ m → between ≡ octet_bits os ++ after → Took (k + m) old new left after
took_more k m old mid new os left between after t e l b = record {
  octets = t.octets ++ os;
  many = length-append t.octets os ∙ ap (λ q. q + length os) t.many ∙ ap (λ q. k + q) l;
  joined = e ∙ ap (λ q. q ++ os) t.joined ∙ append_assoc old t.octets os;
  taken = t.taken ∙ ap (λ q. octet_bits t.octets ++ q) b ∙ sym (append_assoc (octet_bits t.octets) (octet_bits os) after) ∙ ap (λ q. q ++ after) (sym (flat_append 8 t.octets os));
}

-- eight more, from bit at + 8 * k on
pub took_eight : (os : List ℕ) (at k v : ℕ) (old mid new : List ℕ) → Took k old mid (drop at (octet_bits os)) (drop (at + 8 * k) (octet_bits os)) → new ≡ mid ++ to_be_bytes w64 v → low_bits 64 v ≡ take 64 (drop (at + 8 * k) (octet_bits os))
    → Took (k + 8) old new (drop at (octet_bits os)) (drop (at + 8 * (k + 8)) (octet_bits os))
took_eight os at k v old mid new t e w =
    took_more k 8 old mid new (to_be_bytes w64 v) (drop at (octet_bits os)) (drop (at + 8 * k) (octet_bits os)) (drop (at + 8 * (k + 8)) (octet_bits os)) t e refl
    (loaded os (at + 8 * k) 64 v w ∙ ap (λ q. q ++ drop (at + 8 * k + 64) (octet_bits os)) (sym (bytes_out v)) ∙ ap (λ q. octet_bits (to_be_bytes w64 v) ++ drop q (octet_bits os)) (let c : at + 8 * k + 64 ≡ at + 8 * (k + 8) = omega arith in c))

-- one more
pub took_one : (os : List ℕ) (at k v : ℕ) (old mid new : List ℕ) → Took k old mid (drop at (octet_bits os)) (drop (at + 8 * k) (octet_bits os)) → new ≡ mid ++ v ∷ [] → low_bits 8 v ≡ take 8 (drop (at + 8 * k) (octet_bits os))
    → Took (k + 1) old new (drop at (octet_bits os)) (drop (at + 8 * (k + 1)) (octet_bits os))
took_one os at k v old mid new t e w =
    took_more k 1 old mid new (v ∷ []) (drop at (octet_bits os)) (drop (at + 8 * k) (octet_bits os)) (drop (at + 8 * (k + 1)) (octet_bits os)) t e refl
    (loaded os (at + 8 * k) 8 v w ∙ ap (λ q. q ++ drop (at + 8 * k + 8) (octet_bits os)) (sym (append-nil (low_bits 8 v))) ∙ ap (λ q. octet_bits (v ∷ []) ++ drop q (octet_bits os)) (let c : at + 8 * k + 8 ≡ at + 8 * (k + 1) = omega arith in c))

-- octets that begin at the place of one
pub took_whole : (os : List ℕ) (at count : ℕ) (old new some : List ℕ) → at % 8 ≡ 0 → at + 8 * count ≤ 8 * length os → some ≡ take count (drop (at / 8) os) → new ≡ old ++ some
    → Took count old new (drop at (octet_bits os)) (drop (at + 8 * count) (octet_bits os))
took_whole os at count old new some z i s e =
    let from = at / 8 in
    let place : at ≡ 8 * from = omega (arith, z) in
    let end : at + 8 * count ≡ 8 * (from + count) = omega (arith, z) in
    let long = length-drop from os in
    record {
      octets = some;
      many = ap length s ∙ length-take-le count (drop from os) (omega (arith, long, i, place));
      joined = e;
      taken =
          ap (λ q. drop q (octet_bits os)) place ∙ octets_drop from os
          ∙ ap octet_bits (sym (take-append-drop count (drop from os)))
          ∙ flat_append 8 (take count (drop from os)) (drop count (drop from os))
          ∙ ap (λ q. octet_bits q ++ octet_bits (drop count (drop from os))) (sym s)
          ∙ ap (λ q. octet_bits some ++ q) (ap octet_bits (drop-drop count from os) ∙ sym (octets_drop (from + count) os) ∙ ap (λ q. drop q (octet_bits os)) (sym end));
    }
