-- Contents of leaves: those of the distinguished rules are the only ones and the fewest.
use Rattle.std.proofs.Common.{arith, ◌≡◌, ℕ, ◌≤◌, ◌^◌, ℤ, Bool, false, List, [], ◌∷◌, ◌++◌, length, refl, sym, ap, ◌∙◌, length-append}
use Rattle.asn_base.specs.Abstract.{AbstractValue}
use Rattle.asn_base.specs.Types.{Kind}
use Rattle.asn_base.specs.Same.{IsLeaf}
use Rattle.encodings.specs.Rules.{Rules, Basic, Unsorted, Distinguished, Strictly}
use Rattle.encodings.specs.Strings.{Pieces, whole, cut, Segments, no_segment, segment, BitPieces}
use Rattle.encodings.specs.Contents.{TwosComplement, not_negative, negative, Number, FilledWithZeros, Contents, of_false, of_true, of_integer, of_enumerated, of_bits, of_named_bits, of_octets, of_null, of_oid, of_relative_oid, of_utf8, of_restricted}
use Rattle.encodings.proofs.Digits.{same_digits}
use Rattle.encodings.proofs.BitLaws.{bits_least, pieces_are_whole, filled_only}

mutual
  -- the pieces of a string hold at least its octets
  pub pieces_long : {s : List ℕ} {c : Bool} {o : List ℕ} → Pieces s c o → length s ≤ length o
  pieces_long (whole b) = omega arith
  pieces_long (cut g) = segments_long g

  segments_long : {s o : List ℕ} → Segments s o → length s ≤ length o
  segments_long no_segment = omega arith
  segments_long (segment {h = h} {x = x} {p = p} {s = s} {o = o} hd ps gs) =
      omega (arith, pieces_long ps, segments_long gs, length-append x s, length-append (h ++ p) o, length-append h p)

pub pieces_whole : {s : List ℕ} {c : Bool} {o : List ℕ} → Pieces s c o → c ≡ false → o ≡ s
pieces_whole (whole b) e = refl
pieces_whole (cut g) e = absurd (cc)

twos_same : {z : ℤ} {o p : List ℕ} → TwosComplement z o → TwosComplement z p → length o ≡ length p → o ≡ p
twos_same {o = o} {p = p} (not_negative l b e h) (not_negative m c f i) same = same_digits o p b c same (e ∙ sym f)
twos_same {o = o} {p = p} (negative {n = n} l b e h) (negative m c f i) same =
    let sizes : 256 ^ length o ≡ 256 ^ length p = ap (λ k. 256 ^ k) same in
    same_digits o p b c same (omega arith)

pub number_only : {z : ℤ} {o p : List ℕ} → Number z o → Number z p → p ≡ o
number_only {o = o} {p = p} a b =
    let l = a.shortest p b.is in
    let m = b.shortest o a.is in
    sym (twos_same a.is b.is (omega arith))

-- what an encoding by the distinguished rules is beside one by any
pub record Best (r : Rules) (o p : List ℕ) : Type 0 where
  pub least : length o ≤ length p
  pub only : Strictly r (p ≡ o)

pub same_best : (r : Rules) (o p : List ℕ) → p ≡ o → Best r o p
same_best r o p e = record { least = let l = ap length e in omega arith; only = by r }
  where
    by : (r : Rules) → Strictly r (p ≡ o)
    by Basic = tt
    by Unsorted = e
    by Distinguished = e

pieces_best : (r : Rules) {s : List ℕ} {b c : Bool} {o p : List ℕ} → Pieces s b o → b ≡ false → Pieces s c p → Strictly r (c ≡ false) → Best r o p
pieces_best r {s} {b} {c} {o} {p} a e d f =
    let is = pieces_whole a e in
    record { least = let l = ap length is in omega (arith, pieces_long d); only = by r f }
  where
    by : (r : Rules) → Strictly r (c ≡ false) → Strictly r (p ≡ o)
    by Basic f = tt
    by Unsorted f = pieces_whole d f ∙ sym (pieces_whole a e)
    by Distinguished f = pieces_whole d f ∙ sym (pieces_whole a e)

true_best : (r : Rules) (x y : ℕ) → x ≡ 255 → Strictly r (y ≡ 255) → Best r (x ∷ []) (y ∷ [])
true_best r x y e f = record { least = omega arith; only = by r f }
  where
    by : (r : Rules) → Strictly r (y ≡ 255) → Strictly r ((y ∷ []) ≡ (x ∷ []))
    by Basic f = tt
    by Unsorted f = ap (λ z. z ∷ []) (f ∙ sym e)
    by Distinguished f = ap (λ z. z ∷ []) (f ∙ sym e)

-- bits of which the first are the same, or no more
pub bits_best : (r : Rules) {a b : List Bool} {c d : Bool} {o p : List ℕ} → BitPieces a c o → c ≡ false → FilledWithZeros a o → BitPieces b d p → Strictly r (d ≡ false) → Strictly r (FilledWithZeros b p) → length a ≤ length b → Strictly r (a ≡ b) → Best r o p
bits_best r {a} {b} {c} {d} {o} {p} x e f y g h le same = record { least = bits_least (pieces_are_whole x e) y le; only = by r g h same }
  where
    by : (r : Rules) → Strictly r (d ≡ false) → Strictly r (FilledWithZeros b p) → Strictly r (a ≡ b) → Strictly r (p ≡ o)
    by Basic g h same = tt
    by Unsorted g h same = filled_only x y e g f h same
    by Distinguished g h same = filled_only x y e g f h same

itself : (r : Rules) {A : Type 0} (a : A) → Strictly r (a ≡ a)
itself Basic a = tt
itself Unsorted a = refl
itself Distinguished a = refl

pub contents_best : {r : Rules} {k : Kind} {v : AbstractValue} {b c : Bool} {x y : List ℕ} → Contents Distinguished k v b x → Contents r k v c y → Best r x y
contents_best {r} of_false of_false = same_best r _ _ refl
contents_best {r} (of_true a l e) (of_true b m f) = true_best r _ _ e f
contents_best {r} (of_integer a) (of_integer b) = same_best r _ _ (number_only a b)
contents_best {r} (of_enumerated a) (of_enumerated b) = same_best r _ _ (number_only a b)
contents_best {r} (of_bits {s = s} a e f) (of_bits b g h) = bits_best r a e f b g h (omega arith) (itself r s)
contents_best {r} (of_named_bits {s = s} a e f t) (of_named_bits b g h u) = bits_best r a e f b g h (omega arith) (itself r s)
contents_best {r} (of_octets a e) (of_octets b f) = pieces_best r a e b f
contents_best {r} of_null of_null = same_best r _ _ refl
contents_best {r} (of_oid a) (of_oid b) = same_best r _ _ refl
contents_best {r} (of_relative_oid a) (of_relative_oid b) = same_best r _ _ refl
contents_best {r} (of_utf8 a e) (of_utf8 b f) = pieces_best r a e b f
contents_best {r} (of_restricted a e) (of_restricted b f) = pieces_best r a e b f

pub contents_leaf : {r : Rules} {k : Kind} {v : AbstractValue} {c : Bool} {x : List ℕ} → Contents r k v c x → IsLeaf k
contents_leaf of_false = tt
contents_leaf (of_true a l e) = tt
contents_leaf (of_integer a) = tt
contents_leaf (of_enumerated a) = tt
contents_leaf (of_bits a e y) = tt
contents_leaf (of_named_bits a e y z) = tt
contents_leaf (of_octets a e) = tt
contents_leaf of_null = tt
contents_leaf (of_oid a) = tt
contents_leaf (of_relative_oid a) = tt
contents_leaf (of_utf8 a e) = tt
contents_leaf (of_restricted a e) = tt
