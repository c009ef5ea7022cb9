-- Values that constraints allow or leave out.
use Rattle.std.proofs.Common.{◌≡◌, ℕ, zero, suc, ◌+◌, ◌*◌, ◌-◌, ◌<◌, ◌≤◌, Bool, List, [], ◌∷◌, Some, length, take, refl, sym, subst, ap, inl, inr, arith}
use Rattle.std.specs.Prelude.{ℤ, pos, ◌↔◌, IsTrue, chars, flat_map, slice_index_or}
use Rattle.std.specs.List.{AllByRecursion}
use Rattle.std.proofs.lemmas.List.{length-append}
use Rattle.std.proofs.lemmas.Option.{same_Some}
use Rattle.asn_base.specs.declared.strings.StringKind.{StringKind}
use Rattle.asn_base.specs.Abstract.{AbstractValue, boolean, integer, enumerated, bits, octets, text, null, oid, relative_oid, fields, list, alternative, bits_of_octet}
use Rattle.trees.specs.Types.{an_integer, a_bit_string, an_octet_string, a_utf8_string, a_restricted_string}
use Rattle.trees.specs.Values.{Name}
use Rattle.type_table.specs.Table.{WrittenKind, simple}
use Rattle.resolve.specs.Program.{Program}
use Rattle.range_ends.specs.Ends.{IsTypeOfKind}
use Rattle.constraints.specs.Allowed.{IsNumberAllowed, IsInAlphabet}
use Rattle.values.specs.Allowing.{Allows, AllowsCode}
use Rattle.values.specs.proving.Judging.{Judges, integer_in, bits_in, octets_in, text_in}

-- ---- counting bits

eight_each : (s : List ℕ) → length (flat_map bits_of_octet s) ≡ 8 * length s
eight_each [] = refl
eight_each (x ∷ s) =
    let e : length (flat_map bits_of_octet (x ∷ s)) ≡ 8 + length (flat_map bits_of_octet s) = length-append (bits_of_octet x) (flat_map bits_of_octet s) in
    let h = eight_each s in
    omega arith

taken : {A : Type 0} (n : ℕ) (xs : List A) → n ≤ length xs → length (take n xs) ≡ n
taken zero xs h = refl
taken (suc n) [] h = absurd (omega arith)
taken (suc n) (x ∷ xs) h = ap suc (taken n xs (omega arith))

pub bits_long : (s : List ℕ) (unused : ℕ) → length (take (8 * length s - unused) (flat_map bits_of_octet s)) ≡ 8 * length s - unused
bits_long s unused = let e = eight_each s in taken (8 * length s - unused) (flat_map bits_of_octet s) (omega arith)

-- ---- what constraints say

module _ (p : Program) (i : ℕ) where
  pub decided : (k : WrittenKind) (z : ℤ) (b : Bool) → IsTypeOfKind p.types i k →
      ((j : WrittenKind) → IsTypeOfKind p.types i j → (IsTrue b ↔ IsNumberAllowed p j i z)) → IsTrue b ↔ Allows p i z
  decided k z b is f = (λ t j l. (f j l).0 t, λ a. (f k is).1 (a k is))

  pub decided_code : (s : StringKind) (n : ℕ) (b : Bool) → IsTypeOfKind p.types i (simple (a_restricted_string s)) →
      ((t : StringKind) → IsTypeOfKind p.types i (simple (a_restricted_string t)) → (IsTrue b ↔ IsInAlphabet p t i n)) →
      IsTrue b ↔ AllowsCode p i n
  decided_code s n b is f = (λ t u l. (f u l).0 t, λ a. (f s is).1 (a s is))

  pub judge_integer : (ns : List (Name × ℤ)) (v : AbstractValue) (x : ℤ) (b : Bool) → Some x ≡ integer_in v →
      (IsTrue b ↔ Allows p i x) →
      Judges p i (an_integer ns) v b
  judge_integer ns (boolean y) x b e d0 is u = absurd u
  judge_integer ns (integer y) x b e d0 is u =
      let q = same_Some x y e in
      record { allowed = λ t. (u.0, subst (Allows p i) q (d0.0 t)); left_out = λ n. λ a. n (d0.1 (subst (Allows p i) (sym q) a)) }
  judge_integer ns (enumerated y) x b e d0 is u = absurd u
  judge_integer ns (bits y) x b e d0 is u = absurd u
  judge_integer ns (octets y) x b e d0 is u = absurd u
  judge_integer ns (text y) x b e d0 is u = absurd u
  judge_integer ns null x b e d0 is u = absurd u
  judge_integer ns (oid y) x b e d0 is u = absurd u
  judge_integer ns (relative_oid y) x b e d0 is u = absurd u
  judge_integer ns (fields y) x b e d0 is u = absurd u
  judge_integer ns (list y) x b e d0 is u = absurd u
  judge_integer ns (alternative y w) x b e d0 is u = absurd u

  pub judge_bits : (v : AbstractValue) (x : List Bool) (b : Bool) → Some x ≡ bits_in v →
      (IsTrue b ↔ Allows p i (pos (length x))) →
      Judges p i (a_bit_string []) v b
  judge_bits (boolean y) x b e d0 is u = absurd u
  judge_bits (integer y) x b e d0 is u = absurd u
  judge_bits (enumerated y) x b e d0 is u = absurd u
  judge_bits (bits y) x b e d0 is u =
      let q = same_Some x y e in
      record { allowed = λ t. subst (λ z. Allows p i (pos (length z))) q (d0.0 t); left_out = λ n. λ a. n (d0.1 (subst (λ z. Allows p i (pos (length z))) (sym q) a)) }
  judge_bits (octets y) x b e d0 is u = absurd u
  judge_bits (text y) x b e d0 is u = absurd u
  judge_bits null x b e d0 is u = absurd u
  judge_bits (oid y) x b e d0 is u = absurd u
  judge_bits (relative_oid y) x b e d0 is u = absurd u
  judge_bits (fields y) x b e d0 is u = absurd u
  judge_bits (list y) x b e d0 is u = absurd u
  judge_bits (alternative y w) x b e d0 is u = absurd u

  pub judge_octets : (v : AbstractValue) (x : List ℕ) (b : Bool) → Some x ≡ octets_in v →
      (IsTrue b ↔ Allows p i (pos (length x))) →
      Judges p i an_octet_string v b
  judge_octets (boolean y) x b e d0 is u = absurd u
  judge_octets (integer y) x b e d0 is u = absurd u
  judge_octets (enumerated y) x b e d0 is u = absurd u
  judge_octets (bits y) x b e d0 is u = absurd u
  judge_octets (octets y) x b e d0 is u =
      let q = same_Some x y e in
      record { allowed = λ t. (u.0, subst (λ z. Allows p i (pos (length z))) q (d0.0 t)); left_out = λ n. λ a. n (d0.1 (subst (λ z. Allows p i (pos (length z))) (sym q) a)) }
  judge_octets (text y) x b e d0 is u = absurd u
  judge_octets null x b e d0 is u = absurd u
  judge_octets (oid y) x b e d0 is u = absurd u
  judge_octets (relative_oid y) x b e d0 is u = absurd u
  judge_octets (fields y) x b e d0 is u = absurd u
  judge_octets (list y) x b e d0 is u = absurd u
  judge_octets (alternative y w) x b e d0 is u = absurd u

  pub judge_utf8 : (v : AbstractValue) (x : List ℕ) (b : Bool) → Some x ≡ text_in v →
      (IsTrue b ↔ Allows p i (pos (length (chars x)))) →
      Judges p i a_utf8_string v b
  judge_utf8 (boolean y) x b e d0 is u = absurd u
  judge_utf8 (integer y) x b e d0 is u = absurd u
  judge_utf8 (enumerated y) x b e d0 is u = absurd u
  judge_utf8 (bits y) x b e d0 is u = absurd u
  judge_utf8 (octets y) x b e d0 is u = absurd u
  judge_utf8 (text y) x b e d0 is u =
      let q = same_Some x y e in
      record { allowed = λ t. (u.0, subst (λ z. Allows p i (pos (length (chars z)))) q (d0.0 t)); left_out = λ n. λ a. n (d0.1 (subst (λ z. Allows p i (pos (length (chars z)))) (sym q) a)) }
  judge_utf8 null x b e d0 is u = absurd u
  judge_utf8 (oid y) x b e d0 is u = absurd u
  judge_utf8 (relative_oid y) x b e d0 is u = absurd u
  judge_utf8 (fields y) x b e d0 is u = absurd u
  judge_utf8 (list y) x b e d0 is u = absurd u
  judge_utf8 (alternative y w) x b e d0 is u = absurd u

  pub judge_size : (s : StringKind) (v : AbstractValue) (x : List ℕ) (b : Bool) → Some x ≡ text_in v →
      (IsTrue b → ⊥) →
      (Allows p i (pos (length x)) → ⊥) →
      Judges p i (a_restricted_string s) v b
  judge_size s (boolean y) x b e d0 d1 is u = absurd u
  judge_size s (integer y) x b e d0 d1 is u = absurd u
  judge_size s (enumerated y) x b e d0 d1 is u = absurd u
  judge_size s (bits y) x b e d0 d1 is u = absurd u
  judge_size s (octets y) x b e d0 d1 is u = absurd u
  judge_size s (text y) x b e d0 d1 is u =
      let q = same_Some x y e in
      record { allowed = λ t. absurd (d0 t); left_out = λ n. inl (λ a. d1 (subst (λ z. Allows p i (pos (length z))) (sym q) a)) }
  judge_size s null x b e d0 d1 is u = absurd u
  judge_size s (oid y) x b e d0 d1 is u = absurd u
  judge_size s (relative_oid y) x b e d0 d1 is u = absurd u
  judge_size s (fields y) x b e d0 d1 is u = absurd u
  judge_size s (list y) x b e d0 d1 is u = absurd u
  judge_size s (alternative y w) x b e d0 d1 is u = absurd u

  pub judge_text : (s : StringKind) (v : AbstractValue) (x : List ℕ) (b : Bool) → Some x ≡ text_in v →
      Allows p i (pos (length x)) →
      (IsTrue b ↔ AllByRecursion (AllowsCode p i) x) →
      Judges p i (a_restricted_string s) v b
  judge_text s (boolean y) x b e d0 d1 is u = absurd u
  judge_text s (integer y) x b e d0 d1 is u = absurd u
  judge_text s (enumerated y) x b e d0 d1 is u = absurd u
  judge_text s (bits y) x b e d0 d1 is u = absurd u
  judge_text s (octets y) x b e d0 d1 is u = absurd u
  judge_text s (text y) x b e d0 d1 is u =
      let q = same_Some x y e in
      record { allowed = λ t. (subst (AllByRecursion (AllowsCode p i)) q (d1.0 t), subst (λ z. Allows p i (pos (length z))) q d0); left_out = λ n. inr (λ a. n (d1.1 (subst (AllByRecursion (AllowsCode p i)) (sym q) a))) }
  judge_text s null x b e d0 d1 is u = absurd u
  judge_text s (oid y) x b e d0 d1 is u = absurd u
  judge_text s (relative_oid y) x b e d0 d1 is u = absurd u
  judge_text s (fields y) x b e d0 d1 is u = absurd u
  judge_text s (list y) x b e d0 d1 is u = absurd u
  judge_text s (alternative y w) x b e d0 d1 is u = absurd u

-- ---- what holds of all

pub all_more : {A : Type 0} (P : A → Type 0) (xs : List A) (i : ℕ) (d : A) → i < length xs →
    AllByRecursion P (take i xs) → P (slice_index_or xs i d) → AllByRecursion P (take (i + 1) xs)
all_more P [] i d h a p = absurd (omega arith)
all_more P (x ∷ xs) zero d h a p = (p, tt)
all_more P (x ∷ xs) (suc i) d h a p =
    let q : suc i + 1 ≡ suc (i + 1) = omega arith in
    rw q (a.0, all_more P xs i d (omega arith) a.1 p)

pub all_of : {A : Type 0} (P : A → Type 0) (xs : List A) (i : ℕ) → length xs ≤ i → AllByRecursion P (take i xs) →
    AllByRecursion P xs
all_of P [] i h a = tt
all_of P (x ∷ xs) zero h a = absurd (omega arith)
all_of P (x ∷ xs) (suc i) h a = (a.0, all_of P xs i (omega arith) a.1)

pub one_of : {A : Type 0} (P : A → Type 0) (xs : List A) (i : ℕ) (d : A) → i < length xs → AllByRecursion P xs →
    P (slice_index_or xs i d)
one_of P [] i d h a = absurd (omega arith)
one_of P (x ∷ xs) zero d h a = a.0
one_of P (x ∷ xs) (suc i) d h a = one_of P xs i d (omega arith) a.1
