-- Items after their number, also in parts, and as SIZE bounds it.
use Rattle.std.proofs.Common.{◌≡◌, ℕ, zero, suc, ◌<◌, ◌≤◌, Bool, true, false, List, [], ◌∷◌, ◌++◌, length, take, drop}
use Rattle.std.proofs.Common.{map, refl, sym, ap, subst, ◌∙◌, arith, append_assoc}
use Rattle.asn_base.specs.Types.{Bounds}
use Rattle.packed_encodings.specs.Computed.{sized_bits}
use Rattle.packed_encodings.specs.Lengths.{Bits, Items, all_bits, Counted, Sized}
use Rattle.packed_counts.specs.Counts.{items_next, count_bits, Adds, IsHead}

pub drop-map : {X Y : Type 0} (f : X → Y) (n : ℕ) (xs : List X) → drop n (map f xs) ≡ map f (drop n xs)
drop-map f zero xs = refl
drop-map f (suc n) [] = refl
drop-map f (suc n) (x ∷ xs) = drop-map f n xs

-- the laws of packed_counts
abbrev pub AtOnce : Type 0
AtOnce = (xs : Items) → length xs < 16384 → Counted xs (count_bits (length xs) ++ all_bits xs)

abbrev pub Part : Type 0
Part = (xs : Items) (b : Bits)
    → 16384 ≤ length xs
    → Counted (drop (items_next (length xs)) xs) b
    → Counted xs (count_bits (length xs) ++ (all_bits (take (items_next (length xs)) xs) ++ b))

pub all_at_once : (once : AtOnce) (xs : Items) (n : ℕ) (a b d : Bits)
    → n ≡ length xs
    → n < 16384
    → b ≡ a ++ count_bits n
    → d ≡ b ++ all_bits xs
    → Adds (Counted xs) a d
all_at_once once xs n a b d k l e f = record {
  bits = count_bits (length xs) ++ all_bits xs;
  is = once xs (omega (arith, k, l));
  whole =
      f ∙ ap (λ q. q ++ all_bits xs) (e ∙ ap (λ q. a ++ count_bits q) k)
      ∙ append_assoc a (count_bits (length xs)) (all_bits xs);
}

pub first_part : (part : Part) (xs first rest : Items) (n m : ℕ) (a b d f : Bits)
    → n ≡ length xs
    → 16384 ≤ n
    → m ≡ items_next n
    → first ≡ take m xs
    → rest ≡ drop m xs
    → b ≡ a ++ count_bits n
    → d ≡ b ++ all_bits first
    → Adds (Counted rest) d f
    → Adds (Counted xs) a f
first_part part xs first rest n m a b d f k h em ef er eb ed r =
    let i : m ≡ items_next (length xs) = em ∙ ap items_next k in
    let c : Counted (drop (items_next (length xs)) xs) r.bits =
    subst (λ q. Counted q r.bits) (er ∙ ap (λ q. drop q xs) i) r.is in
    let z = all_bits first in
    let w : f ≡ a ++ (count_bits (length xs) ++ (z ++ r.bits)) =
    r.whole
    ∙ ap (λ q. q ++ r.bits) (ed ∙ ap (λ q. q ++ z) (eb ∙ ap (λ q. a ++ count_bits q) k))
    ∙ append_assoc (a ++ count_bits (length xs)) z r.bits
    ∙ append_assoc a (count_bits (length xs)) (z ++ r.bits) in
    record {
      bits = count_bits (length xs) ++ (all_bits (take (items_next (length xs)) xs) ++ r.bits);
      is = part xs r.bits (omega (arith, k, h)) c;
      whole =
          w ∙ ap (λ q. a ++ (count_bits (length xs) ++ (all_bits q ++ r.bits))) (ef ∙ ap (λ q. take q xs) i);
    }

-- ---- SIZE

abbrev pub SizedLaw : Type 0
SizedLaw = (z : Bounds) (xs : Items) (b : Bits) → Sized z xs b → sized_bits z xs ≡ b

pub at_once : SizedLaw → (z : Bounds) (xs : Items) (n : ℕ) (once : Bool) (old mid new : Bits)
    → length xs ≡ n
    → once ≡ true
    → Adds (IsHead z n once) old mid
    → new ≡ mid ++ all_bits xs
    → new ≡ old ++ sized_bits z xs
at_once law z xs n once old mid new l t h e =
    e ∙ ap (λ q. q ++ all_bits xs) h.whole
    ∙ append_assoc old h.bits (all_bits xs)
    ∙ ap (λ q. old ++ q) (sym (law z xs (h.bits ++ all_bits xs) (h.is.once t xs l)))

pub counted : SizedLaw → (z : Bounds) (xs : Items) (n : ℕ) (once : Bool) (old mid new : Bits)
    → length xs ≡ n
    → once ≡ false
    → Adds (IsHead z n once) old mid
    → Adds (Counted xs) mid new
    → new ≡ old ++ sized_bits z xs
counted law z xs n once old mid new l t h a =
    a.whole ∙ ap (λ q. q ++ a.bits) h.whole
    ∙ append_assoc old h.bits a.bits
    ∙ ap (λ q. old ++ q) (sym (law z xs (h.bits ++ a.bits) (h.is.counted t xs a.bits l a.is)))
