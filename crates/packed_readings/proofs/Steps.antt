-- What code answers is what the functions compute.
use Rattle.std.proofs.Common.{arith, ◌≡◌, ℕ, suc, ◌+◌, ◌-◌, ◌^◌, ◌<◌, ◌≤◌, List, [], ◌∷◌, ◌++◌, map, refl, sym, ap, subst, ◌∙◌, append_assoc}
use Rattle.std.proofs.lemmas.List.{append-nil, length-map}
use Rattle.std.specs.Int.Digits.{AllBelowBase}
use Rattle.bits.specs.Words.{low_bits, octet_bits}
use Rattle.bits.specs.Left.{Took}
use Rattle.packed_encodings.specs.Lengths.{Bits, all_bits}
use Rattle.decode_faults.specs.declared.refusal.Refusal.{Refusal}
use Rattle.packed_readings.specs.Outcome.{Outcome, found, stops, onward, field_from, each_from}
use Rattle.packed_readings.specs.Counts.{several_octets}
use Rattle.packed_readings.specs.Code.{Gained}
use Rattle.packed_readings.specs.declared.refusal.PackedFault.{PackedFault}
use Rattle.packed_readings.specs.declared.refusal.PackedFault.TheVariants.{Memory, Refused}
use Rattle.packed_readings.specs.Outcome.{IsFault}
use Rattle.packed_readings.specs.proving.Progress.{Added, Faults}
use Rattle.packed_readings.proofs.Fields.{field, octets_read}
use Rattle.packed_readings.proofs.Octets.{items_of_octets}

-- a field that was taken
pub field_taken : (w v : ℕ) (b r : Bits) → b ≡ low_bits w v ++ r → v < 2 ^ w → field_from w b ≡ found v r
field_taken w v b r e l = ap (field_from w) e ∙ (field w).whole v (low_bits w v) r (record { fits = l; is = refl })

-- ---- octets

all_below : (old o : List ℕ) → AllBelowBase 256 (old ++ o) → AllBelowBase 256 o
all_below [] o a = a
all_below (x ∷ old) o a = all_below old o a.1

words_are : (o : List ℕ) → all_bits (map (low_bits 8) o) ≡ octet_bits o
words_are [] = refl
words_are (x ∷ o) = ap (λ q. low_bits 8 x ++ q) (words_are o)

pub octets_taken : (n : ℕ) (old new : List ℕ) (left after : Bits) → AllBelowBase 256 new → Took n old new left after → Gained (several_octets n left) old new after
octets_taken n old new left after a t =
    let below : AllBelowBase 256 t.octets = all_below old t.octets (subst (AllBelowBase 256) t.joined a) in
    record {
      values = t.octets;
      is =
          ap (several_octets n) t.taken
          ∙ (octets_read n).whole t.octets (octet_bits t.octets) after (record { items = map (low_bits 8) t.octets; are = items_of_octets t.octets below; many = length-map t.octets (low_bits 8) ∙ t.many; whole = sym (words_are t.octets) });
      joined = t.joined;
    }

-- ---- one after the other

all_of : {X : Type 0} (o : Outcome (List X)) → o ≡ onward o (λ ys s. found ys s)
all_of (found ys s) = refl
all_of (stops e s) = refl

pub added_none : {X : Type 0} (f : Bits → Outcome X) (first : Bits) (old : List X) → Added f 0 first old old first
added_none f first old = record {
  values = [];
  joined = sym (append-nil old);
  goes_on = λ m. ap (λ q. each_from f q first) (let k : 0 + m ≡ m = omega arith in k) ∙ all_of (each_from f m first);
}

then_one : {X : Type 0} (o : Outcome (List X)) (v : X) (vs : List X) → onward (onward o (λ xs s. found (v ∷ xs) s)) (λ ys s. found (vs ++ ys) s) ≡ onward o (λ ys s. found ((vs ++ (v ∷ [])) ++ ys) s)
then_one (found ys s) v vs = ap (λ q. found q s) (sym (append_assoc vs (v ∷ []) ys))
then_one (stops e s) v vs = refl

pub added_one : {X : Type 0} (f : Bits → Outcome X) (i : ℕ) (first left rest : Bits) (old mid new : List X) (v : X) → Added f i first old mid left → f left ≡ found v rest → new ≡ mid ++ (v ∷ []) → Added f (i + 1) first old new rest
added_one f i first left rest old mid new v a e n = record {
  values = a.values ++ (v ∷ []);
  joined = n ∙ ap (λ q. q ++ (v ∷ [])) a.joined ∙ append_assoc old a.values (v ∷ []);
  goes_on = λ m.
      ap (λ q. each_from f q first) (let k : i + 1 + m ≡ i + suc m = omega arith in k)
      ∙ a.goes_on (suc m)
      ∙ ap (λ o. onward (onward o (λ x r. onward (each_from f m r) (λ xs s. found (x ∷ xs) s))) (λ ys s. found (a.values ++ ys) s)) e
      ∙ then_one (each_from f m rest) v a.values;
}

pub added_all : {X : Type 0} (f : Bits → Outcome X) (i n : ℕ) (first left : Bits) (old new : List X) → Added f i first old new left → n ≡ i → Gained (each_from f n first) old new left
added_all f i n first left old new a e = record {
  values = a.values;
  is = ap (λ q. each_from f q first) (let k : n ≡ i + 0 = omega (arith, e) in k) ∙ a.goes_on 0 ∙ ap (λ q. found q left) (append-nil a.values);
  joined = a.joined;
}

pub added_stops : {X : Type 0} (f : Bits → Outcome X) (i n : ℕ) (first left rest : Bits) (old new : List X) (e : Refusal) → Added f i first old new left → i < n → f left ≡ stops e rest → each_from f n first ≡ stops e rest
added_stops f i n first left rest old new e a l d =
    ap (λ q. each_from f q first) (let k : n ≡ i + suc (n - i - 1) = omega (arith, l) in k)
    ∙ a.goes_on (suc (n - i - 1))
    ∙ ap (λ o. onward (onward o (λ x r. onward (each_from f (n - i - 1) r) (λ xs s. found (x ∷ xs) s))) (λ ys s. found (a.values ++ ys) s)) d

-- ---- several at once

then_more : {X : Type 0} (o : Outcome (List X)) (vs ws : List X) → onward (onward o (λ ys s. found (ws ++ ys) s)) (λ ys s. found (vs ++ ys) s) ≡ onward o (λ ys s. found ((vs ++ ws) ++ ys) s)
then_more (found ys s) vs ws = ap (λ q. found q s) (sym (append_assoc vs ws ys))
then_more (stops e s) vs ws = refl

pub added_more : {X : Type 0} (f : Bits → Outcome X) (i k n : ℕ) (first left rest : Bits) (old mid new : List X) → Added f i first old mid left → Added f k left mid new rest → n ≡ i + k → Added f n first old new rest
added_more f i k n first left rest old mid new a b e = record {
  values = a.values ++ b.values;
  joined = b.joined ∙ ap (λ q. q ++ b.values) a.joined ∙ append_assoc old a.values b.values;
  goes_on = λ m.
      ap (λ q. each_from f q first) (let c : n + m ≡ i + (k + m) = omega (arith, e) in c)
      ∙ a.goes_on (k + m)
      ∙ ap (λ o. onward o (λ ys s. found (a.values ++ ys) s)) (b.goes_on m)
      ∙ then_more (each_from f m rest) a.values b.values;
}

pub added_fault : {X : Type 0} (f : Bits → Outcome X) (i k n : ℕ) (first left rest : Bits) (old mid : List X) (e : PackedFault) → Added f i first old mid left → Faults f k left e rest → i + k ≤ n → IsFault (each_from f n first) e rest
added_fault f i k n first left rest old mid Memory a h l = tt
added_fault f i k n first left rest old mid (Refused e) a h l =
    ap (λ q. each_from f q first) (let c : n ≡ i + (n - i) = omega (arith, l) in c)
    ∙ a.goes_on (n - i)
    ∙ ap (λ o. onward o (λ ys s. found (a.values ++ ys) s)) (h (n - i) (omega (arith, l)))
