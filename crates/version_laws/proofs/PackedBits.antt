-- The bits for additions that are present, in two versions.
use Rattle.std.proofs.Common.{arith, ◌≡◌, ℕ, zero, suc, ◌+◌, ◌-◌, ◌⊎◌, inl, inr, Bool, true, false, [], ◌∷◌, ◌++◌, length, replicate, refl, sym, ap, subst, ◌∙◌, append_assoc}
use Rattle.std.proofs.lemmas.List.{append-nil, replicate-append-replicate}
use Rattle.bits.specs.Words.{low_bits}
use Rattle.packed_encodings.specs.Lengths.{Bits}
use Rattle.packed_encodings.specs.Padding.{UnknownAdditions, no_bit, clear_bit, set_bit}
use Rattle.packed_encodings.specs.Packing.{any_set, lenient, Extended, no_marker, no_member_present, some_member_present}

abbrev pub zeros : ℕ → Bits
zeros n = replicate n false

not_empty : {b : Bool} {x : Bits} → b ∷ x ≡ [] → ⊥
not_empty e = cc

heads : {a b : Bool} {x y : Bits} → a ∷ x ≡ b ∷ y → a ≡ b
heads e = cc

tails : {a b : Bool} {x y : Bits} → a ∷ x ≡ b ∷ y → x ≡ y
tails e = cc

both_parts : {a b : Bool} {x y : Bits} → a ≡ b → x ≡ y → a ∷ x ≡ b ∷ y
both_parts e f = cc

-- ---- clear bits

pub all_zeros : (n : ℕ) (x y : Bits) → x ++ y ≡ zeros n → (x ≡ zeros (length x)) × (y ≡ zeros (length y))
all_zeros n [] y e = (refl, only n y e)
  where
    only : (n : ℕ) (y : Bits) → y ≡ zeros n → y ≡ zeros (length y)
    only n [] e = refl
    only zero (b ∷ y) e = absurd (not_empty e)
    only (suc n) (b ∷ y) e = both_parts (heads e) (only n y (tails e))
all_zeros zero (b ∷ x) y e = absurd (not_empty e)
all_zeros (suc n) (b ∷ x) y e = let r = all_zeros n x y (tails e) in (both_parts (heads e) r.0, r.1)

none_set : (x y : Bits) → any_set (x ++ y) ≡ false → (any_set x ≡ false) × (any_set y ≡ false)
none_set [] y e = (refl, e)
none_set (true ∷ x) y e = absurd (let f : true ≡ false = e in cc)
none_set (false ∷ x) y e = none_set x y e

pub zeros_clear : (n : ℕ) → any_set (zeros n) ≡ false
zeros_clear zero = refl
zeros_clear (suc n) = zeros_clear n

clear_joined : (x y : Bits) → any_set x ≡ false → any_set y ≡ false → any_set (x ++ y) ≡ false
clear_joined [] y e f = f
clear_joined (true ∷ x) y e f = absurd (let g : true ≡ false = e in cc)
clear_joined (false ∷ x) y e f = clear_joined x y e f

-- ---- additions that a type lacks

unknown_at : {u v x y : Bits} {j k : ℕ} → u ≡ v → j ≡ k → x ≡ y → UnknownAdditions u j x → UnknownAdditions v k y
unknown_at {u} {v} {x} {y} {j} {k} e f g a = subst (λ q. UnknownAdditions q k y) e (subst (λ q. UnknownAdditions u q y) f (subst (λ q. UnknownAdditions u j q) g a))

-- no set bit, no addition
pub clear_unknown : {u x : Bits} {k : ℕ} → UnknownAdditions u k x → any_set u ≡ false → (k ≡ 0) × (x ≡ [])
clear_unknown no_bit e = (refl, refl)
clear_unknown (clear_bit a) e = clear_unknown a e
clear_unknown (set_bit m o a) e = absurd (let f : true ≡ false = e in cc)

pub unknown_clear : {u x : Bits} {k : ℕ} → UnknownAdditions u k x → k ≡ 0 → (u ≡ zeros (length u)) × (x ≡ [])
unknown_clear no_bit e = (refl, refl)
unknown_clear (clear_bit a) e = let r = unknown_clear a e in (both_parts refl r.0, r.1)
unknown_clear (set_bit m o a) e = absurd (omega (arith, e))

pub zeros_unknown : (n : ℕ) → UnknownAdditions (zeros n) 0 []
zeros_unknown zero = no_bit
zeros_unknown (suc n) = clear_bit (zeros_unknown n)

unknown_joined : {u v x y : Bits} {j k : ℕ} → UnknownAdditions u j x → UnknownAdditions v k y → UnknownAdditions (u ++ v) (j + k) (x ++ y)
unknown_joined no_bit b = unknown_at refl (omega arith) refl b
unknown_joined (clear_bit a) b = clear_bit (unknown_joined a b)
unknown_joined {y = y} (set_bit {x = x} {b = z} m o a) b = unknown_at refl (omega arith) (sym (append_assoc x z y)) (set_bit m o (unknown_joined a b))

-- clear bits at the end are for no addition
unknown_front : (u : Bits) (n : ℕ) {k : ℕ} {x w : Bits} → w ≡ u ++ zeros n → UnknownAdditions w k x → UnknownAdditions u k x
unknown_front [] n e a =
    let r = clear_unknown a (ap any_set e ∙ zeros_clear n) in
    unknown_at refl (sym r.0) (sym r.1) no_bit
unknown_front (b ∷ u) n e no_bit = absurd (not_empty (sym e))
unknown_front (b ∷ u) n e (clear_bit {u = v} a) =
    unknown_at (ap (λ q. q ∷ u) (heads e)) refl refl (clear_bit (unknown_front u n (tails e) a))
unknown_front (b ∷ u) n e (set_bit {u = v} m o a) =
    unknown_at (ap (λ q. q ∷ u) (heads e)) refl refl (set_bit m o (unknown_front u n (tails e) a))

-- ---- two parts

record LongerSecond (x y z w : Bits) : Type 0 where
  between : Bits
  second : z ≡ x ++ between
  rest : y ≡ between ++ w

record LongerFirst (x y z w : Bits) : Type 0 where
  between : Bits
  first : x ≡ z ++ between
  rest : w ≡ between ++ y

cut : (x y z w : Bits) → x ++ y ≡ z ++ w → LongerSecond x y z w ⊎ LongerFirst x y z w
cut [] y z w e = inl (record { between = z; second = refl; rest = e })
cut (a ∷ x) y [] w e = inr (record { between = a ∷ x; first = refl; rest = sym e })
cut (a ∷ x) y (b ∷ z) w e = elim (cut x y z w (tails e)) [
  | inl r ↦ inl (record { between = r.between; second = both_parts (sym (heads e)) r.second; rest = r.rest })
  | inr r ↦ inr (record { between = r.between; first = both_parts (heads e) r.first; rest = r.rest })
]

less_or_not : (m n : ℕ) → ((c : ℕ) × (n ≡ m + c)) ⊎ ((c : ℕ) × (m ≡ n + c))
less_or_not zero n = inl (n, omega arith)
less_or_not (suc m) zero = inr (suc m, omega arith)
less_or_not (suc m) (suc n) = elim (less_or_not m n) [
  | inl r ↦ inl (r.0, (let e = r.1 in omega (arith, e)))
  | inr r ↦ inr (r.0, (let e = r.1 in omega (arith, e)))
]

-- ---- the root and additions

abbrev tail_of : Bits → Bits → Bits → Bits
tail_of r m d = true ∷ (r ++ (false ∷ (low_bits 6 (length m - 1) ++ (m ++ d))))

extended_at : {e : Bool} {r q d y z : Bits} {j k : ℕ} → j ≡ k → y ≡ z → Extended lenient e r q d j y → Extended lenient e r q d k z
extended_at {e} {r} {q} {d} {y} {z} {j} {k} f g a = subst (λ n. Extended lenient e r q d n z) f (subst (λ n. Extended lenient e r q d j n) g a)

of_empty : (x y : Bits) → [] ≡ x ++ y → (x ≡ []) × (y ≡ [])
of_empty [] y e = (refl, sym e)
of_empty (b ∷ x) y e = absurd (not_empty (sym e))

-- the earlier version has the first of these additions, q, and lacks those of u
pub extended_older : {e : Bool} {r q' d' y : Bits} {n : ℕ} (q u d x : Bits) (k : ℕ) → Extended lenient e r q' d' n y → q' ≡ q ++ u → d' ≡ d ++ x → UnknownAdditions u k x → n ≡ 0 → Extended lenient e r q d k y
extended_older {r = r} q u d x k no_marker f g a z =
    let p = of_empty q u f in
    let w = of_empty d x g in
    let c = clear_unknown a (ap any_set p.1) in
    subst (λ n. Extended lenient false r q d n r) (sym c.0) (subst (λ n. Extended lenient false r n d 0 r) (sym p.0) (subst (λ n. Extended lenient false r [] n 0 r) (sym w.0) no_marker))
extended_older {r = r} q u d x k (no_member_present h) f g a z =
    let p = none_set q u (ap any_set (sym f) ∙ h) in
    let w = of_empty d x g in
    let c = clear_unknown a p.1 in
    subst (λ n. Extended lenient true r q d n (false ∷ r)) (sym c.0) (subst (λ n. Extended lenient true r q n 0 (false ∷ r)) (sym w.0) (no_member_present p.0))
extended_older {r = r} {d' = d'} q u d x k (some_member_present {q = q'} {u = u'} {x = x'} m (inl t) h l b) f g a z =
    let same = ap (λ n. tail_of r m n) (ap (λ n. n ++ x') g ∙ append_assoc d x x') in
    let told = t ∙ ap (λ n. n ++ u') f ∙ append_assoc q u u' in
    extended_at (omega (arith, z)) (sym same) (some_member_present m (inl told) h l (unknown_joined a b))
extended_older {r = r} {d' = d'} q u d x k (some_member_present {q = q'} {u = u'} {x = x'} m (inr t) h l b) f g a z =
    let nothing = clear_unknown b (ap any_set t.0) in
    let same = ap (λ n. tail_of r m n) (ap (λ n. d' ++ n) nothing.1 ∙ append-nil d' ∙ g) in
    elim (cut q u m (zeros t.1) (sym f ∙ t.2)) [
      | inl c ↦ extended_at refl (sym same) (some_member_present m (inl c.second) h l (unknown_front c.between t.1 c.rest a))
      | inr c ↦ (let w = all_zeros t.1 c.between u (sym c.rest) in
          let none = clear_unknown a (ap any_set w.1 ∙ zeros_clear (length u)) in
          let told = c.first ∙ ap (λ n. m ++ n) w.0 in
          extended_at (sym none.0) (ap (λ n. tail_of r m (d ++ n)) (sym none.1) ∙ sym same) (some_member_present m (inr (refl, length c.between, told)) h l no_bit))
    ]

-- the later version has a more additions, all absent
pub extended_newer : {e : Bool} {r q d y : Bits} {n : ℕ} (a : ℕ) → Extended lenient e r q d n y → (e ≡ false → a ≡ 0) → n ≡ 0 → Extended lenient e r (q ++ zeros a) d 0 y
extended_newer {r = r} a no_marker h z = subst (λ n. Extended lenient false r n [] 0 r) (ap zeros (sym (h refl))) no_marker
extended_newer {q = q} a (no_member_present f) h z = no_member_present (clear_joined q (zeros a) f (zeros_clear a))
extended_newer {r = r} {d = d} a (some_member_present {q = q} {u = u} {x = x} m (inl t) f l b) h z =
    let c = unknown_clear b z in
    let told = t ∙ ap (λ n. q ++ n) c.0 in
    elim (less_or_not a (length u)) [
      | inl s ↦ extended_at refl (ap (λ n. tail_of r m (d ++ n)) (sym c.1))
          (some_member_present m (inl (told ∙ ap (λ n. q ++ zeros n) s.1 ∙ ap (λ n. q ++ n) (sym (replicate-append-replicate a s.0 false)) ∙ sym (append_assoc q (zeros a) (zeros s.0)))) f l (zeros_unknown s.0))
      | inr s ↦ extended_at refl (ap (λ n. tail_of r m (d ++ n)) (sym c.1))
          (some_member_present m (inr (refl, s.0, ap (λ n. q ++ zeros n) s.1 ∙ ap (λ n. q ++ n) (sym (replicate-append-replicate (length u) s.0 false)) ∙ sym (append_assoc q (zeros (length u)) (zeros s.0)) ∙ ap (λ n. n ++ zeros s.0) (sym told))) f l no_bit)
    ]
extended_newer {r = r} {d = d} a (some_member_present {q = q} {u = u} {x = x} m (inr t) f l b) h z =
    let c = unknown_clear b z in
    extended_at refl (ap (λ n. tail_of r m (d ++ n)) (sym c.1))
    (some_member_present m (inr (refl, t.1 + a, ap (λ n. n ++ zeros a) t.2 ∙ append_assoc m (zeros t.1) (zeros a) ∙ ap (λ n. m ++ n) (replicate-append-replicate t.1 a false))) f l no_bit)
