-- Messages are read as what their octets say.
use Rattle.std.proofs.Common.{arith, ◌≡◌, ℕ, zero, suc, ◌+◌, ◌*◌, ◌-◌, ◌<◌, ◌≤◌, ◌⊎◌, inl, inr, Bool, true, false, List, [], ◌∷◌, ◌++◌, length, replicate, refl, sym, ap, subst, ◌∙◌, append_assoc, length-append}
use Rattle.std.specs.Prelude.{if◌then◌else◌, nat_lt, not, ◌==◌}
use Rattle.std.proofs.lemmas.List.{length-replicate}
use Rattle.std.proofs.lemmas.Bool.{lt-ltb, le-ltb, ltb-true, ltb-false, eq-eqb, eqb-true, ne_eqb}
use Rattle.std.specs.Int.Digits.{AllBelowBase}
use Rattle.bits.specs.Words.{low_bits, octet_bits}
use Rattle.asn_base.specs.Abstract.{AbstractValue}
use Rattle.asn_base.specs.Types.{TypeNumber, Resolved}
use Rattle.asn_base.specs.Typed.{IsValue, nodes}
use Rattle.packed_encodings.specs.Weights.{weight}
use Rattle.encodings.specs.Header.{Octets}
use Rattle.packed_encodings.specs.Lengths.{Bits, CountedOctets}
use Rattle.packed_encodings.specs.Padding.{Padded, padded_none, padded}
use Rattle.packed_encodings.specs.Packing.{lenient, EncodesPer, Reads}
use Rattle.decode_faults.specs.declared.refusal.Refusal.{Refusal}
use Rattle.decode_faults.specs.declared.refusal.Refusal.TheVariants as why
use Rattle.packed_reader.specs.Readings.{Fault, Reading, read, refused, stop, next, Taken, taken, IsExact}
use Rattle.packed_reader.specs.Structures.{all_clear, is_filling, filled_from}
use Rattle.packed_reader.specs.Values.{IsValueRead, value_from, answers, too_long, faulty, answer_of, message_from}
use Rattle.packed_reader.proofs.Exact.{not_both, one_fault, same_fault, further}
use Rattle.packed_encodings.specs.proving.Tests.{both_true, true_both}
use Rattle.packed_reader.proofs.Opening.{not_true, Held, filled_sound, filled_whole, filling_padded, used_length}

abbrev most : ℕ
most = 16777216

answers_is : {v w : AbstractValue} {j k : ℕ} → answers v j ≡ answers w k → (v ≡ w) × (j ≡ k)
answers_is e = (cc, cc)

joined_bits : (o m : Octets) → octet_bits (o ++ m) ≡ octet_bits o ++ octet_bits m
joined_bits [] m = refl
joined_bits (x ∷ o) m = ap (λ q. low_bits 8 x ++ q) (joined_bits o m) ∙ sym (append_assoc (low_bits 8 x) (octet_bits o) (octet_bits m))

bits_length : (o : Octets) → length (octet_bits o) ≡ 8 * length o
bits_length [] = refl
bits_length (x ∷ o) = let e = bits_length o in let l = length-append (low_bits 8 x) (octet_bits o) in omega arith

pub is_truncated : (e : Refusal) → (e ≡ why.Truncated) ⊎ (e ≡ why.Truncated → ⊥)
is_truncated why.Truncated = inl refl
is_truncated q = inr (λ e. absurd (cc))

module _ (s : List Resolved) (t : TypeNumber)
    (front : (o r : Octets) (a b p q : Bits) → CountedOctets o a → CountedOctets r b → a ++ p ≡ b ++ q → (o ≡ r) × (p ≡ q))
    (V : IsExact (IsValueRead s 64 t most) (value_from s 64 t most)) where
  abbrev from : Bits → Reading (Taken AbstractValue)
  from = value_from s 64 t most

  -- where there aren't too many octets
  not_long : (x : ℕ) (o : Octets) → length (x ∷ o) ≤ most → message_from s t (x ∷ o) ≡ answer_of (octet_bits (x ∷ o)) (filled_from from (octet_bits (x ∷ o)))
  not_long x o l = ap (λ q. if q then too_long else answer_of (octet_bits (x ∷ o)) (filled_from from (octet_bits (x ∷ o)))) (le-ltb most (length (x ∷ o)) l)

  long : (o : Octets) → most < length o → message_from s t o ≡ too_long
  long [] l = absurd (omega arith)
  long (x ∷ o) l = ap (λ q. if q then too_long else answer_of (octet_bits (x ∷ o)) (filled_from from (octet_bits (x ∷ o)))) (lt-ltb most (length (x ∷ o)) l)

  few_or_many : (o : Octets) → (length o ≤ most) ⊎ (most < length o)
  few_or_many o = by (nat_lt most (length o)) refl
    where
      by : (b : Bool) → nat_lt most (length o) ≡ b → (length o ≤ most) ⊎ (most < length o)
      by true e = inr (ltb-true most (length o) e)
      by false e = inl (ltb-false most (length o) e)

  pub too_long_only : (o : Octets) → message_from s t o ≡ too_long → most < length o
  too_long_only [] e = absurd (cc)
  too_long_only (x ∷ o) e = by (few_or_many (x ∷ o))
    where
      no_answer : (b : Bits) (g : Reading (Taken AbstractValue)) → answer_of b g ≡ too_long → ⊥
      no_answer b (read w r) h = absurd (cc)
      no_answer b (refused d r) h = absurd (cc)

      by : (length (x ∷ o) ≤ most) ⊎ (most < length (x ∷ o)) → most < length (x ∷ o)
      by (inr l) = l
      by (inl l) = absurd (no_answer (octet_bits (x ∷ o)) (filled_from from (octet_bits (x ∷ o))) (sym (not_long x o l) ∙ e))

  pub many_too_long : (o : Octets) → most < length o → message_from s t o ≡ too_long
  many_too_long o l = long o l

  -- a message that is read
  value_of : ((v : AbstractValue) → nodes v ≤ weight v) → (w : Taken AbstractValue) (o : Octets) → Held (IsValueRead s 64 t most) o w → Reads s t w.it w.skipped o
  value_of few w o h = record {
    value = record { shaped = h.is.value; few_nodes = (let c = h.is.counted in let f = few w.it in let e : nodes w.it ≤ most = omega (arith, c, f) in e) };
    light = (let c = h.is.counted in let e : weight w.it ≤ most = omega (arith, c) in e);
    bits = h.inside;
    says_it = h.is.says_it;
    filled = h.is_padded;
  }

  answered : (b : Bits) (g : Reading (Taken AbstractValue)) (w : AbstractValue) (k : ℕ) → answer_of b g ≡ answers w k → (v : Taken AbstractValue) × (r : Bits) × (g ≡ read v r) × (v.it ≡ w) × (v.skipped ≡ k)
  answered b (read v r) w k e = let i = answers_is e in (v, r, refl, i.0, i.1)
  answered b (refused d r) w k e = absurd (cc)

  not_too_long : (w : AbstractValue) (k : ℕ) → answers w k ≡ too_long → ⊥
  not_too_long w k e = absurd (cc)

  pub answer_reads : ((v : AbstractValue) → nodes v ≤ weight v) → (o : Octets) (w : AbstractValue) (k : ℕ) → AllBelowBase 256 o → message_from s t o ≡ answers w k → Reads s t w k o × (length o ≤ most)
  answer_reads few [] w k h e = absurd (cc)
  answer_reads few (x ∷ o) w k h e = by (few_or_many (x ∷ o))
    where
      by : (length (x ∷ o) ≤ most) ⊎ (most < length (x ∷ o)) → Reads s t w k (x ∷ o) × (length (x ∷ o) ≤ most)
      by (inr l) = absurd (not_too_long w k (sym e ∙ long (x ∷ o) l))
      by (inl l) =
          let a = answered (octet_bits (x ∷ o)) (filled_from from (octet_bits (x ∷ o))) w k (sym (not_long x o l) ∙ e) in
          let f = (filled_sound front V (x ∷ o) a.0 a.1 h a.2).0 in
          (subst (λ j. Reads s t w j (x ∷ o)) a.4 (subst (λ v. Reads s t v a.0.skipped (x ∷ o)) a.3 (value_of few a.0 (x ∷ o) f)), l)

  some_octet : {x : Bits} → Padded x [] → ⊥
  some_octet (padded {b = x} n some few below e) = let l : 0 ≡ length (x ++ replicate n false) = ap length e in let m = length-append x (replicate n false) in absurd (omega arith)

  pub reads_answer : (o : Octets) (w : AbstractValue) (k : ℕ) → Reads s t w k o → length o ≤ most → message_from s t o ≡ answers w k
  reads_answer [] w k a l = absurd (some_octet a.filled)
  reads_answer (x ∷ o) w k a l =
      let light = a.light in
      let v = taken w k (most - weight w) in
      let h : Held (IsValueRead s 64 t most) (x ∷ o) v = record { inside = a.bits; is = record { says_it = a.says_it; value = a.value.shaped; counted = omega arith }; is_padded = a.filled } in
      not_long x o l ∙ ap (answer_of (octet_bits (x ∷ o))) (filled_whole front V (x ∷ o) v h)

  -- what the octets begin with
  abbrev reading : (x : ℕ) (o : Octets) → Reading (Taken AbstractValue)
  reading x o = from (octet_bits (x ∷ o))

  filled_refused : (b r : Bits) (d : Fault) → from b ≡ refused d r → filled_from from b ≡ refused d r
  filled_refused b r d e = ap (λ q. next q (λ v z. if is_filling (length b - length z) z then read v [] else stop why.Padding z)) e

  -- a whole message is read at its front
  whole_read : (o : Octets) (w : AbstractValue) (k : ℕ) → Reads s t w k o → (r : Bits) × (from (octet_bits o) ≡ read (taken w k (most - weight w)) r)
  whole_read o w k a = by a.filled
    where
      by : Padded a.bits o → (r : Bits) × (from (octet_bits o) ≡ read (taken w k (most - weight w)) r)
      by f =
          let light = a.light in
          let is : IsValueRead s 64 t most (taken w k (most - weight w)) a.bits = record { says_it = a.says_it; value = a.value.shaped; counted = omega arith } in
          let p = padding_after f in
          (p.0, ap from p.1 ∙ V.whole (taken w k (most - weight w)) a.bits p.0 is)
        where
          padding_after : {x : Bits} {o : Octets} → Padded x o → (z : Bits) × (octet_bits o ≡ x ++ z)
          padding_after padded_none = (octet_bits (0 ∷ []), refl)
          padding_after (padded n some few below e) = (replicate n false, e)

  -- octets that end within such a message
  padded_lengths : {x : Bits} {o : Octets} → Padded x o → (8 * length o < length x + 8) ⊎ (length o ≡ 1)
  padded_lengths padded_none = inr refl
  padded_lengths (padded {b = x} {o = o} n some few below e) =
      let l : length (octet_bits o) ≡ length x + n = ap length e ∙ length-append x (replicate n false) ∙ ap (λ q. length x + q) (length-replicate n false) in
      let m = bits_length o in
      inl (omega arith)

  padded_short : (x z : Bits) (o m : Octets) → Padded x (o ++ m) → octet_bits (o ++ m) ≡ x ++ (z ++ octet_bits m) → 1 ≤ length o → 1 ≤ length m → ⊥
  padded_short x z o m f e a b =
      let l : length (octet_bits (o ++ m)) ≡ length x + (length z + 8 * length m) = ap length e ∙ length-append x (z ++ octet_bits m) ∙ ap (λ q. length x + q) (length-append z (octet_bits m) ∙ ap (λ q. length z + q) (bits_length m)) in
      let k = bits_length (o ++ m) in
      let j = length-append o m in
      by (padded_lengths f) l k j
    where
      by : (8 * length (o ++ m) < length x + 8) ⊎ (length (o ++ m) ≡ 1) → length (octet_bits (o ++ m)) ≡ length x + (length z + 8 * length m) → length (octet_bits (o ++ m)) ≡ 8 * length (o ++ m) → length (o ++ m) ≡ length o + length m → ⊥
      by (inl c) l k j = absurd (omega arith)
      by (inr c) l k j = absurd (omega arith)

  module _ (only_filled : (j k : ℕ) (v w : AbstractValue) (x p : Bits) (o : Octets) → EncodesPer s lenient t v j x → octet_bits o ≡ x ++ p → Reads s t w k o → Padded x o × (w ≡ v) × (k ≡ j)) where
    pub front_truncated : (o m : Octets) (w : AbstractValue) (k : ℕ) → Reads s t w k (o ++ m) → length (o ++ m) ≤ most → 1 ≤ length m → (e : Fault) × (i : ℕ) × (message_from s t o ≡ faulty e i) × (e.why ≡ why.Truncated)
    front_truncated [] m w k a l some = (record { why = why.Truncated; path = [] }, 0, refl, refl)
    front_truncated (x ∷ o) m w k a l some = by (reading x o) refl
      where
        all : octet_bits ((x ∷ o) ++ m) ≡ octet_bits (x ∷ o) ++ octet_bits m
        all = joined_bits (x ∷ o) m

        by : (g : Reading (Taken AbstractValue)) → reading x o ≡ g → (e : Fault) × (i : ℕ) × (message_from s t (x ∷ o) ≡ faulty e i) × (e.why ≡ why.Truncated)
        by (read v z) e =
            let p = V.sound (octet_bits (x ∷ o)) z v e in
            let h : octet_bits ((x ∷ o) ++ m) ≡ p.0 ++ (z ++ octet_bits m) = all ∙ further p.0 z (octet_bits m) p.2 in
            let f = (only_filled v.skipped k v.it w p.0 (z ++ octet_bits m) ((x ∷ o) ++ m) p.1.says_it h a).0 in
            absurd (padded_short p.0 z (x ∷ o) m f h (omega arith) some)
        by (refused d r) e = at (is_truncated d.why)
          where
            short : length (x ∷ o) ≤ most
            short = let j = length-append (x ∷ o) m in omega arith

            at : (d.why ≡ why.Truncated) ⊎ (d.why ≡ why.Truncated → ⊥) → (e : Fault) × (i : ℕ) × (message_from s t (x ∷ o) ≡ faulty e i) × (e.why ≡ why.Truncated)
            at (inl f) = (d, length (octet_bits (x ∷ o)) - length r, not_long x o short ∙ ap (answer_of (octet_bits (x ∷ o))) (filled_refused (octet_bits (x ∷ o)) r d e), f)
            at (inr n) =
                let q = whole_read ((x ∷ o) ++ m) w k a in
                absurd (not_both (sym q.1 ∙ ap from all ∙ V.firm (octet_bits (x ∷ o)) r (octet_bits m) d e n))

  -- an encoding before bits that don't fill its last octet
  pub not_filled : (o : Octets) (w : AbstractValue) (k : ℕ) (x p : Bits) → AllBelowBase 256 o → 1 ≤ length o → length o ≤ most → EncodesPer s lenient t w k x → IsValue s t w → weight w ≤ most → octet_bits o ≡ x ++ p → (Padded x o → ⊥) → message_from s t o ≡ faulty (record { why = why.Padding; path = [] }) (length x)
  not_filled [] w k x p h some l a v light e n = absurd (omega arith)
  not_filled (y ∷ o) w k x p h some l a v light e n =
      let is : IsValueRead s 64 t most (taken w k (most - weight w)) x = record { says_it = a; value = v.shaped; counted = omega arith } in
      let g : from (octet_bits (y ∷ o)) ≡ read (taken w k (most - weight w)) p = ap from e ∙ V.whole (taken w k (most - weight w)) x p is in
      let u : length (octet_bits (y ∷ o)) - length p ≡ length x = ap (λ q. length q - length p) e ∙ used_length x p in
      let f : is_filling (length x) p ≡ false = by (is_filling (length x) p) refl in
      not_long y o l
      ∙ ap (λ q. answer_of (octet_bits (y ∷ o)) (next q (λ v z. if is_filling (length (octet_bits (y ∷ o)) - length z) z then read v [] else stop why.Padding z))) g
      ∙ ap (λ q. answer_of (octet_bits (y ∷ o)) (if is_filling q p then read (taken w k (most - weight w)) [] else stop why.Padding p)) u
      ∙ ap (λ q. answer_of (octet_bits (y ∷ o)) (if q then read (taken w k (most - weight w)) [] else stop why.Padding p)) f
      ∙ ap (faulty (record { why = why.Padding; path = [] })) u
    where
      by : (b : Bool) → is_filling (length x) p ≡ b → is_filling (length x) p ≡ false
      by false c = c
      by true c = absurd (n (filling_padded front x p (y ∷ o) h e c))

  -- ---- the first fault

  no_fault : (e : Fault) (i : ℕ) → too_long ≡ faulty e i → ⊥
  no_fault e i h = absurd (cc)

  fault_is : {d e : Fault} {i j : ℕ} → faulty d i ≡ faulty e j → (d ≡ e) × (i ≡ j)
  fault_is h = (cc, cc)

  refusal : (b : Bits) (g : Reading (Taken AbstractValue)) (e : Fault) (i : ℕ) → answer_of b g ≡ faulty e i → (r : Bits) × (g ≡ refused e r) × (length b - length r ≡ i)
  refusal b (read v r) e i h = absurd (cc)
  refusal b (refused d r) e i h = let k = fault_is h in (r, same_fault k.0 refl, k.1)

  -- a fault is at one of the bits, or at their end
  pub place_within : (o : Octets) (e : Fault) (i : ℕ) → message_from s t o ≡ faulty e i → i ≤ 8 * length o
  place_within [] e i h = let z = (fault_is h).1 in omega arith
  place_within (x ∷ o) e i h = by (few_or_many (x ∷ o))
    where
      by : (length (x ∷ o) ≤ most) ⊎ (most < length (x ∷ o)) → i ≤ 8 * length (x ∷ o)
      by (inr l) = absurd (no_fault e i (sym (long (x ∷ o) l) ∙ h))
      by (inl l) =
          let r = refusal (octet_bits (x ∷ o)) (filled_from from (octet_bits (x ∷ o))) e i (sym (not_long x o l) ∙ h) in
          let a = bits_length (x ∷ o) in
          let c = r.2 in
          omega arith

  clear_front : (z w : Bits) → all_clear (z ++ w) ≡ true → all_clear z ≡ true
  clear_front [] w e = refl
  clear_front (b ∷ z) w e = let p = true_both (not b) (all_clear (z ++ w)) e in both_true (not b) (all_clear z) p.0 (clear_front z w p.1)

  -- what doesn't fill octets doesn't with more bits
  still_not_filling : (n j : ℕ) (z w : Bits) → 1 ≤ j → n + length z ≡ 8 * j → is_filling n z ≡ false → is_filling n (z ++ w) ≡ false
  still_not_filling n j z w some whole f = by (is_filling n (z ++ w)) refl
    where
      fills : is_filling n (z ++ w) ≡ true → is_filling n z ≡ true
      fills e = at n refl
        where
          both : (all_clear (z ++ w) ≡ true) × ((if n == 0 then length (z ++ w) == 8 else nat_lt (length (z ++ w)) 8) ≡ true)
          both = true_both (all_clear (z ++ w)) (if n == 0 then length (z ++ w) == 8 else nat_lt (length (z ++ w)) 8) e

          l : length (z ++ w) ≡ length z + length w
          l = length-append z w

          at : (m : ℕ) → n ≡ m → is_filling n z ≡ true
          at zero g =
              let t0 : (n == 0) ≡ true = eq-eqb n 0 g in
              let k = eqb-true (length (z ++ w)) 8 (sym (ap (λ q. if q then length (z ++ w) == 8 else nat_lt (length (z ++ w)) 8) t0) ∙ both.1) in
              both_true (all_clear z) (if n == 0 then length z == 8 else nat_lt (length z) 8) (clear_front z w both.0)
              (ap (λ q. if q then length z == 8 else nat_lt (length z) 8) t0 ∙ eq-eqb (length z) 8 (let h = l in omega arith))
          at (suc m) g =
              let t0 : (n == 0) ≡ false = ne_eqb n 0 (λ q. omega arith) in
              let k = ltb-true (length (z ++ w)) 8 (sym (ap (λ q. if q then length (z ++ w) == 8 else nat_lt (length (z ++ w)) 8) t0) ∙ both.1) in
              both_true (all_clear z) (if n == 0 then length z == 8 else nat_lt (length z) 8) (clear_front z w both.0)
              (ap (λ q. if q then length z == 8 else nat_lt (length z) 8) t0 ∙ lt-ltb (length z) 8 (let h = l in omega arith))

      by : (b : Bool) → is_filling n (z ++ w) ≡ b → is_filling n (z ++ w) ≡ false
      by false e = e
      by true e = absurd (not_true (sym f ∙ fills e))

  -- it stays whatever octets follow
  pub fault_stays : (o m : Octets) (e : Fault) (i : ℕ) → message_from s t o ≡ faulty e i → (e.why ≡ why.Truncated → ⊥) → length (o ++ m) ≤ most → message_from s t (o ++ m) ≡ faulty e i
  fault_stays [] m e i h n l = absurd (n (sym (ap (λ d. d.why) (fault_is h).0)))
  fault_stays (x ∷ o) m e i h n l =
      let a = length-append (x ∷ o) m in
      let short : length (x ∷ o) ≤ most = omega arith in
      let r = refusal (octet_bits (x ∷ o)) (filled_from from (octet_bits (x ∷ o))) e i (sym (not_long x o short) ∙ h) in
      not_long x (o ++ m) l ∙ ap (λ b. answer_of b (filled_from from b)) (joined_bits (x ∷ o) m)
      ∙ ap (answer_of (octet_bits (x ∷ o) ++ octet_bits m)) (by (reading x o) refl r.0 r.1)
      ∙ ap (faulty e) (lengths (octet_bits (x ∷ o)) r.0 (octet_bits m) ∙ r.2)
    where
      lengths : (b r w : Bits) → length (b ++ w) - length (r ++ w) ≡ length b - length r
      lengths b r w = let p = length-append b w in let q = length-append r w in omega arith

      refused_there : (c : Bool) (v : Taken AbstractValue) (z r : Bits) → (if c then read v [] else stop why.Padding z) ≡ refused e r → (c ≡ false) × (record { why = why.Padding; path = [] } ≡ e) × (z ≡ r)
      refused_there true v z r g = absurd (not_both g)
      refused_there false v z r g = let k = one_fault g in (refl, k.0, k.1)

      by : (g : Reading (Taken AbstractValue)) → reading x o ≡ g → (r : Bits) → filled_from from (octet_bits (x ∷ o)) ≡ refused e r → filled_from from (octet_bits (x ∷ o) ++ octet_bits m) ≡ refused e (r ++ octet_bits m)
      by (refused d z) g r k =
          let f = one_fault (sym (filled_refused (octet_bits (x ∷ o)) z d g) ∙ k) in
          let there : reading x o ≡ refused e r = g ∙ same_fault f.0 f.1 in
          filled_refused (octet_bits (x ∷ o) ++ octet_bits m) (r ++ octet_bits m) e (V.firm (octet_bits (x ∷ o)) r (octet_bits m) e there n)
      by (read v z) g r k =
          let b = octet_bits (x ∷ o) in
          let w = octet_bits m in
          let p = V.sound b z v g in
          let u : length b - length z ≡ length p.0 = ap (λ q. length q - length z) p.2 ∙ used_length p.0 z in
          let c = refused_there (is_filling (length b - length z) z) v z r (sym (ap (λ q. next q (λ v z. if is_filling (length b - length z) z then read v [] else stop why.Padding z)) g) ∙ k) in
          let whole : length p.0 + length z ≡ 8 * length (x ∷ o) = sym (length-append p.0 z) ∙ sym (ap length p.2) ∙ bits_length (x ∷ o) in
          let not' : is_filling (length p.0) (z ++ w) ≡ false = still_not_filling (length p.0) (length (x ∷ o)) z w (omega arith) whole (ap (λ q. is_filling q z) (sym u) ∙ c.0) in
          let more : from (b ++ w) ≡ read v (z ++ w) = ap from (further p.0 z w p.2) ∙ V.whole v p.0 (z ++ w) p.1 in
          let u2 : length (b ++ w) - length (z ++ w) ≡ length p.0 = lengths b z w ∙ u in
          ap (λ q. next q (λ v z. if is_filling (length (b ++ w) - length z) z then read v [] else stop why.Padding z)) more
          ∙ ap (λ q. if is_filling q (z ++ w) then read v [] else stop why.Padding (z ++ w)) u2
          ∙ ap (λ q. if q then read v [] else stop why.Padding (z ++ w)) not'
          ∙ same_fault c.1 (ap (λ q. q ++ w) c.2)
