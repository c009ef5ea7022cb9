-- The computed test decides equality of abstract values.
use Rattle.std.specs.Prelude.{◌≡◌, ◌==◌, ◌&&◌, Bool, true, false, refl}
use Rattle.std.proofs.Common.{sym, ap, subst}
use Rattle.std.specs.Bool.{Decides}
use Rattle.std.specs.Cmp.{IsEquivalence, decided, booleans_Decides, signed_Decides, unsigned_Decides}
use Rattle.std.specs.Cmp.Lexicographic.{pointwise_decides}
use mathlib.Core.Bool.{true≢false}
use Rattle.asn_base.specs.Abstract.{AbstractValue, boolean, integer, enumerated, bits, octets, text, null, oid, relative_oid}
use Rattle.asn_base.specs.Abstract.{fields, list, alternative, Row, end, absent, present}
use Rattle.asn_base.specs.Equal.{are_equal, are_equal_rows}

both_of : (s t : Bool) → (s && t) ≡ true → (s ≡ true) × (t ≡ true)
both_of true true h = (refl, refl)
both_of true false h = absurd (true≢false (sym h))
both_of false t h = absurd (true≢false (sym h))

mutual
  sound : (v w : AbstractValue) → are_equal v w ≡ true → v ≡ w
  sound (boolean a) (boolean b) h = ap boolean ((booleans_Decides a b).0 h)
  sound (boolean a) (integer b) h = absurd (true≢false (sym h))
  sound (boolean a) (enumerated b) h = absurd (true≢false (sym h))
  sound (boolean a) (bits b) h = absurd (true≢false (sym h))
  sound (boolean a) (octets b) h = absurd (true≢false (sym h))
  sound (boolean a) (text b) h = absurd (true≢false (sym h))
  sound (boolean a) null h = absurd (true≢false (sym h))
  sound (boolean a) (oid b) h = absurd (true≢false (sym h))
  sound (boolean a) (relative_oid b) h = absurd (true≢false (sym h))
  sound (boolean a) (fields q) h = absurd (true≢false (sym h))
  sound (boolean a) (list q) h = absurd (true≢false (sym h))
  sound (boolean a) (alternative j w) h = absurd (true≢false (sym h))
  sound (integer a) (boolean b) h = absurd (true≢false (sym h))
  sound (integer a) (integer b) h = ap integer ((signed_Decides a b).0 h)
  sound (integer a) (enumerated b) h = absurd (true≢false (sym h))
  sound (integer a) (bits b) h = absurd (true≢false (sym h))
  sound (integer a) (octets b) h = absurd (true≢false (sym h))
  sound (integer a) (text b) h = absurd (true≢false (sym h))
  sound (integer a) null h = absurd (true≢false (sym h))
  sound (integer a) (oid b) h = absurd (true≢false (sym h))
  sound (integer a) (relative_oid b) h = absurd (true≢false (sym h))
  sound (integer a) (fields q) h = absurd (true≢false (sym h))
  sound (integer a) (list q) h = absurd (true≢false (sym h))
  sound (integer a) (alternative j w) h = absurd (true≢false (sym h))
  sound (enumerated a) (boolean b) h = absurd (true≢false (sym h))
  sound (enumerated a) (integer b) h = absurd (true≢false (sym h))
  sound (enumerated a) (enumerated b) h = ap enumerated ((signed_Decides a b).0 h)
  sound (enumerated a) (bits b) h = absurd (true≢false (sym h))
  sound (enumerated a) (octets b) h = absurd (true≢false (sym h))
  sound (enumerated a) (text b) h = absurd (true≢false (sym h))
  sound (enumerated a) null h = absurd (true≢false (sym h))
  sound (enumerated a) (oid b) h = absurd (true≢false (sym h))
  sound (enumerated a) (relative_oid b) h = absurd (true≢false (sym h))
  sound (enumerated a) (fields q) h = absurd (true≢false (sym h))
  sound (enumerated a) (list q) h = absurd (true≢false (sym h))
  sound (enumerated a) (alternative j w) h = absurd (true≢false (sym h))
  sound (bits a) (boolean b) h = absurd (true≢false (sym h))
  sound (bits a) (integer b) h = absurd (true≢false (sym h))
  sound (bits a) (enumerated b) h = absurd (true≢false (sym h))
  sound (bits a) (bits b) h = ap bits ((pointwise_decides booleans_Decides a b).0 h)
  sound (bits a) (octets b) h = absurd (true≢false (sym h))
  sound (bits a) (text b) h = absurd (true≢false (sym h))
  sound (bits a) null h = absurd (true≢false (sym h))
  sound (bits a) (oid b) h = absurd (true≢false (sym h))
  sound (bits a) (relative_oid b) h = absurd (true≢false (sym h))
  sound (bits a) (fields q) h = absurd (true≢false (sym h))
  sound (bits a) (list q) h = absurd (true≢false (sym h))
  sound (bits a) (alternative j w) h = absurd (true≢false (sym h))
  sound (octets a) (boolean b) h = absurd (true≢false (sym h))
  sound (octets a) (integer b) h = absurd (true≢false (sym h))
  sound (octets a) (enumerated b) h = absurd (true≢false (sym h))
  sound (octets a) (bits b) h = absurd (true≢false (sym h))
  sound (octets a) (octets b) h = ap octets ((pointwise_decides unsigned_Decides a b).0 h)
  sound (octets a) (text b) h = absurd (true≢false (sym h))
  sound (octets a) null h = absurd (true≢false (sym h))
  sound (octets a) (oid b) h = absurd (true≢false (sym h))
  sound (octets a) (relative_oid b) h = absurd (true≢false (sym h))
  sound (octets a) (fields q) h = absurd (true≢false (sym h))
  sound (octets a) (list q) h = absurd (true≢false (sym h))
  sound (octets a) (alternative j w) h = absurd (true≢false (sym h))
  sound (text a) (boolean b) h = absurd (true≢false (sym h))
  sound (text a) (integer b) h = absurd (true≢false (sym h))
  sound (text a) (enumerated b) h = absurd (true≢false (sym h))
  sound (text a) (bits b) h = absurd (true≢false (sym h))
  sound (text a) (octets b) h = absurd (true≢false (sym h))
  sound (text a) (text b) h = ap text ((pointwise_decides unsigned_Decides a b).0 h)
  sound (text a) null h = absurd (true≢false (sym h))
  sound (text a) (oid b) h = absurd (true≢false (sym h))
  sound (text a) (relative_oid b) h = absurd (true≢false (sym h))
  sound (text a) (fields q) h = absurd (true≢false (sym h))
  sound (text a) (list q) h = absurd (true≢false (sym h))
  sound (text a) (alternative j w) h = absurd (true≢false (sym h))
  sound null (boolean b) h = absurd (true≢false (sym h))
  sound null (integer b) h = absurd (true≢false (sym h))
  sound null (enumerated b) h = absurd (true≢false (sym h))
  sound null (bits b) h = absurd (true≢false (sym h))
  sound null (octets b) h = absurd (true≢false (sym h))
  sound null (text b) h = absurd (true≢false (sym h))
  sound null null h = refl
  sound null (oid b) h = absurd (true≢false (sym h))
  sound null (relative_oid b) h = absurd (true≢false (sym h))
  sound null (fields q) h = absurd (true≢false (sym h))
  sound null (list q) h = absurd (true≢false (sym h))
  sound null (alternative j w) h = absurd (true≢false (sym h))
  sound (oid a) (boolean b) h = absurd (true≢false (sym h))
  sound (oid a) (integer b) h = absurd (true≢false (sym h))
  sound (oid a) (enumerated b) h = absurd (true≢false (sym h))
  sound (oid a) (bits b) h = absurd (true≢false (sym h))
  sound (oid a) (octets b) h = absurd (true≢false (sym h))
  sound (oid a) (text b) h = absurd (true≢false (sym h))
  sound (oid a) null h = absurd (true≢false (sym h))
  sound (oid a) (oid b) h = ap oid ((pointwise_decides unsigned_Decides a b).0 h)
  sound (oid a) (relative_oid b) h = absurd (true≢false (sym h))
  sound (oid a) (fields q) h = absurd (true≢false (sym h))
  sound (oid a) (list q) h = absurd (true≢false (sym h))
  sound (oid a) (alternative j w) h = absurd (true≢false (sym h))
  sound (relative_oid a) (boolean b) h = absurd (true≢false (sym h))
  sound (relative_oid a) (integer b) h = absurd (true≢false (sym h))
  sound (relative_oid a) (enumerated b) h = absurd (true≢false (sym h))
  sound (relative_oid a) (bits b) h = absurd (true≢false (sym h))
  sound (relative_oid a) (octets b) h = absurd (true≢false (sym h))
  sound (relative_oid a) (text b) h = absurd (true≢false (sym h))
  sound (relative_oid a) null h = absurd (true≢false (sym h))
  sound (relative_oid a) (oid b) h = absurd (true≢false (sym h))
  sound (relative_oid a) (relative_oid b) h = ap relative_oid ((pointwise_decides unsigned_Decides a b).0 h)
  sound (relative_oid a) (fields q) h = absurd (true≢false (sym h))
  sound (relative_oid a) (list q) h = absurd (true≢false (sym h))
  sound (relative_oid a) (alternative j w) h = absurd (true≢false (sym h))
  sound (fields r) (boolean b) h = absurd (true≢false (sym h))
  sound (fields r) (integer b) h = absurd (true≢false (sym h))
  sound (fields r) (enumerated b) h = absurd (true≢false (sym h))
  sound (fields r) (bits b) h = absurd (true≢false (sym h))
  sound (fields r) (octets b) h = absurd (true≢false (sym h))
  sound (fields r) (text b) h = absurd (true≢false (sym h))
  sound (fields r) null h = absurd (true≢false (sym h))
  sound (fields r) (oid b) h = absurd (true≢false (sym h))
  sound (fields r) (relative_oid b) h = absurd (true≢false (sym h))
  sound (fields r) (fields q) h = ap fields (sound_rows r q h)
  sound (fields r) (list q) h = absurd (true≢false (sym h))
  sound (fields r) (alternative j w) h = absurd (true≢false (sym h))
  sound (list r) (boolean b) h = absurd (true≢false (sym h))
  sound (list r) (integer b) h = absurd (true≢false (sym h))
  sound (list r) (enumerated b) h = absurd (true≢false (sym h))
  sound (list r) (bits b) h = absurd (true≢false (sym h))
  sound (list r) (octets b) h = absurd (true≢false (sym h))
  sound (list r) (text b) h = absurd (true≢false (sym h))
  sound (list r) null h = absurd (true≢false (sym h))
  sound (list r) (oid b) h = absurd (true≢false (sym h))
  sound (list r) (relative_oid b) h = absurd (true≢false (sym h))
  sound (list r) (fields q) h = absurd (true≢false (sym h))
  sound (list r) (list q) h = ap list (sound_rows r q h)
  sound (list r) (alternative j w) h = absurd (true≢false (sym h))
  sound (alternative i v) (boolean b) h = absurd (true≢false (sym h))
  sound (alternative i v) (integer b) h = absurd (true≢false (sym h))
  sound (alternative i v) (enumerated b) h = absurd (true≢false (sym h))
  sound (alternative i v) (bits b) h = absurd (true≢false (sym h))
  sound (alternative i v) (octets b) h = absurd (true≢false (sym h))
  sound (alternative i v) (text b) h = absurd (true≢false (sym h))
  sound (alternative i v) null h = absurd (true≢false (sym h))
  sound (alternative i v) (oid b) h = absurd (true≢false (sym h))
  sound (alternative i v) (relative_oid b) h = absurd (true≢false (sym h))
  sound (alternative i v) (fields q) h = absurd (true≢false (sym h))
  sound (alternative i v) (list q) h = absurd (true≢false (sym h))
  sound (alternative i v) (alternative j w) h =
      let e = both_of (i == j) (are_equal v w) h in
      λ k. alternative ((unsigned_Decides i j).0 e.0 k) (sound v w e.1 k)

  sound_rows : (r q : Row) → are_equal_rows r q ≡ true → r ≡ q
  sound_rows end end h = refl
  sound_rows end (absent q) h = absurd (true≢false (sym h))
  sound_rows end (present w q) h = absurd (true≢false (sym h))
  sound_rows (absent r) end h = absurd (true≢false (sym h))
  sound_rows (absent r) (absent q) h = ap absent (sound_rows r q h)
  sound_rows (absent r) (present w q) h = absurd (true≢false (sym h))
  sound_rows (present v r) end h = absurd (true≢false (sym h))
  sound_rows (present v r) (absent q) h = absurd (true≢false (sym h))
  sound_rows (present v r) (present w q) h =
      let e = both_of (are_equal v w) (are_equal_rows r q) h in
      λ k. present (sound v w e.0 k) (sound_rows r q e.1 k)

mutual
  itself : (v : AbstractValue) → are_equal v v ≡ true
  itself (boolean a) = (booleans_Decides a a).1 refl
  itself (integer a) = (signed_Decides a a).1 refl
  itself (enumerated a) = (signed_Decides a a).1 refl
  itself (bits a) = (pointwise_decides booleans_Decides a a).1 refl
  itself (octets a) = (pointwise_decides unsigned_Decides a a).1 refl
  itself (text a) = (pointwise_decides unsigned_Decides a a).1 refl
  itself null = refl
  itself (oid a) = (pointwise_decides unsigned_Decides a a).1 refl
  itself (relative_oid a) = (pointwise_decides unsigned_Decides a a).1 refl
  itself (fields r) = itself_rows r
  itself (list r) = itself_rows r
  itself (alternative i v) = λ k. (unsigned_Decides i i).1 refl k && itself v k

  itself_rows : (r : Row) → are_equal_rows r r ≡ true
  itself_rows end = refl
  itself_rows (absent r) = itself_rows r
  itself_rows (present v r) = λ k. itself v k && itself_rows r k

pub equal_decides : (v w : AbstractValue) → Decides (are_equal v w) (v ≡ w)
equal_decides v w = (sound v w, λ e. subst (λ q. are_equal v q ≡ true) e (itself v))

pub equal_values : IsEquivalence are_equal
equal_values = decided are_equal equal_decides
