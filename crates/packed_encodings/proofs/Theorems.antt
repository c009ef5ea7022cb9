-- Theorems on whole packed encodings.
use Rattle.std.proofs.Common.{arith, ◌≡◌, ℕ, ◌≤◌, List, [], ◌∷◌, ◌++◌, length, refl, sym, ap, subst, ◌∙◌, append_assoc, length-append}
use Rattle.bits.specs.Words.{low_bits, octet_bits}
use Rattle.asn_base.specs.Abstract.{AbstractValue}
use Rattle.asn_base.specs.Types.{Resolved}
use Rattle.asn_base.specs.Typed.{IsValue}
use Rattle.asn_base.specs.Same.{Alike, Same}
use Rattle.asn_base.specs.Schemas.{IsSchema}
use Rattle.encodings.specs.Header.{Octets}
use Rattle.packed_encodings.specs.Lengths.{Bits}
use Rattle.packed_encodings.specs.Padding.{Padded}
use Rattle.packed_encodings.specs.Packing.{Form, exact, lenient, EncodesPer, Packed, Reads}
use Rattle.packed_encodings.proofs.Words.{in_front_of}
use Rattle.packed_encodings.proofs.Fronts.{front, padded_bits}
use Rattle.packed_encodings.proofs.Weaker.{encodes_lenient}
use Rattle.packed_encodings.proofs.Single.{padded_only}
use Rattle.packed_encodings.proofs.Only.{only}
use Rattle.packed_encodings.specs.Weights.{weight}
use Rattle.packed_encodings.proofs.Weighing.{few, few_nodes}

pub none_begins_another : (s : List Resolved) (f : Form) (t j k : ℕ) (v w : AbstractValue) (x y p q : Bits) → IsSchema s → EncodesPer s f t v j x → EncodesPer s f t w k y → x ++ p ≡ y ++ q → (v ≡ w) × (j ≡ k) × (x ≡ y) × (p ≡ q)
none_begins_another s f t j k v w x y p q i a b e =
    let r = front s f i p q a b e in
    (r.0, r.1, in_front_of x y q (subst (λ z. x ++ z ≡ y ++ q) r.2 e), r.2)

pub one_message : (s : List Resolved) (t j k : ℕ) (v w : AbstractValue) (o : Octets) → IsSchema s → Reads s t v j o → Reads s t w k o → (v ≡ w) × (j ≡ k)
one_message s t j k v w o i a b =
    let f = padded_bits a.filled in
    let g = padded_bits b.filled in
    let r = front s lenient i f.0 g.0 a.says_it b.says_it (sym f.1 ∙ g.1) in
    (r.0, r.1)

pub only_filled : (s : List Resolved) (t j k : ℕ) (v w : AbstractValue) (x p : Bits) (o : Octets) → IsSchema s → EncodesPer s lenient t v j x → octet_bits o ≡ x ++ p → Reads s t w k o → Padded x o × (w ≡ v) × (k ≡ j)
only_filled s t j k v w x p o i a e b =
    let g = padded_bits b.filled in
    let n = none_begins_another s lenient t k j w v b.bits x g.0 p i b.says_it a (sym g.1 ∙ e) in
    (subst (λ z. Padded z o) n.2 b.filled, n.0, n.1)

joined_octets : (o r : Octets) → octet_bits (o ++ r) ≡ octet_bits o ++ octet_bits r
joined_octets [] r = refl
joined_octets (n ∷ o) r = ap (λ z. low_bits 8 n ++ z) (joined_octets o r) ∙ sym (append_assoc (low_bits 8 n) (octet_bits o) (octet_bits r))

no_octets : (r : Octets) → length r ≡ 0 → r ≡ []
no_octets [] e = refl
no_octets (n ∷ r) e = absurd (omega arith)

pub no_message_begins : (s : List Resolved) (t j k : ℕ) (v w : AbstractValue) (o r : Octets) → IsSchema s → Reads s t v j o → Reads s t w k (o ++ r) → r ≡ []
no_message_begins s t j k v w o r i a b =
    let f = padded_bits a.filled in
    let g = padded_bits b.filled in
    let e : a.bits ++ (f.0 ++ octet_bits r) ≡ b.bits ++ g.0 = sym (append_assoc a.bits f.0 (octet_bits r)) ∙ ap (λ z. z ++ octet_bits r) (sym f.1) ∙ sym (joined_octets o r) ∙ g.1 in
    let n = none_begins_another s lenient t j k v w a.bits b.bits (f.0 ++ octet_bits r) g.0 i a.says_it b.says_it e in
    let h : o ++ r ≡ o = padded_only a.filled b.filled n.2 in
    let l : length (o ++ r) ≡ length o = ap length h in
    no_octets r (omega (arith, l, length-append o r))

module _ (turn : (s : List Resolved) (t : ℕ) (v w : AbstractValue) → Alike s t v w → Alike s t w v) (follow : (s : List Resolved) (t : ℕ) (v w x : AbstractValue) → Alike s t v w → Alike s t w x → Alike s t v x) where
  pub one_list : (s : List Resolved) (t : ℕ) (v w : AbstractValue) (x y : Bits) → IsSchema s → Same s t v w → Packed s t v x → Packed s t w y → y ≡ x
  one_list s t v w x y i e a b = only s (turn s) i a.2 (follow s t a.0 w b.0 (follow s t a.0 v w (turn s t v a.0 a.1.are_alike) e.are_alike) b.1.are_alike) b.2

module _ (turn : (s : List Resolved) (t : ℕ) (v w : AbstractValue) → Same s t v w → Same s t w v) (follow : (s : List Resolved) (t : ℕ) (v w x : AbstractValue) → Same s t v w → Same s t w x → Same s t v x) where
  pub one_value : (s : List Resolved) (t : ℕ) (v w : AbstractValue) (x : Bits) → IsSchema s → Packed s t v x → Packed s t w x → Same s t v w
  one_value s t v w x i a b =
      let r = front s exact i [] [] a.2 b.2 refl in
      follow s t v a.0 w a.1 (turn s t w a.0 (subst (Same s t w) (sym r.0) b.1))

-- what is written of a value of a type is read as one
pub a_message : (s : List Resolved) → ((t : ℕ) (v w : AbstractValue) → Alike s t v w → Alike s t w v) → (t : ℕ) (v : AbstractValue) (x : Bits) (o : Octets) → IsValue s t v → weight v ≤ 16777216 → Packed s t v x → Padded x o → (w : AbstractValue) × Same s t v w × Reads s t w 0 o
a_message s turn t v x o i l a p =
    let n = few s turn a.1.are_alike a.2 in
    let m = few_nodes a.0 in
    (a.0, a.1, record { value = record { shaped = a.1.second; few_nodes = omega (arith, n, m, l) }; light = omega (arith, n, l); bits = x; says_it = encodes_lenient s a.2; filled = p })
