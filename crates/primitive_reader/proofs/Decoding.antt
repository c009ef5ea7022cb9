-- What is read of each kind, and what is refused.
use Rattle.std.proofs.Common.{arith, Bor, ◌≡◌, ℕ, ℤ, pos, negsuc, ◌<◌, ◌≤◌, true, false, List, [], ◌∷◌, length, refl, sym, ap, subst, ◌∙◌, to_z, of_z}
use Rattle.std.specs.Prelude.{flat_map, IsTrue, IsUtf8, IfErr, IfOk, Result}
use Rattle.std.specs.List.{AllByRecursion}
use Rattle.std.specs.Int.Digits.{AllBelowBase}
use Rattle.std.proofs.lemmas.Int.{ints}
use mir.Syntax.{w128}
use Rattle.asn_base.specs.Abstract.{boolean, integer, enumerated, text, null, oid, relative_oid}
use Rattle.asn_base.specs.Schemas.{is_character}
use Rattle.asn_base.specs.declared.strings.StringKind.{StringKind}
use Rattle.asn_base.specs.Typed.{IsWithinLimit, IsObjectIdentifier, IsRelativeOid}
use Rattle.encodings.specs.Header.{septets}
use Rattle.encodings.specs.Strings.{whole}
use Rattle.encodings.specs.Contents.{joined, of_false, of_true, of_integer, of_enumerated, of_null, of_oid, of_relative_oid, of_utf8, of_restricted}
use Rattle.encodings.specs.declared.leaf_kind.LeafKind.{LeafKind}
use Rattle.encodings.specs.declared.leaf_kind.LeafKind.TheVariants as kinds
use Rattle.primitive_reader.specs.declared.fault.LeafFault.{LeafFault}
use Rattle.primitive_reader.specs.declared.fault.LeafFault.TheVariants.{BadContents, IntegerLimit, OidLimit}
use Rattle.primitive_reader.specs.declared.leaf.Leaf.{Leaf}
use Rattle.primitive_reader.specs.declared.leaf.Leaf.TheVariants as leaves
use Rattle.primitive_reader.specs.Leaves.{IsReadAs, ReadsContents}
use Rattle.primitive_reader.specs.Refused.{IsRightFault, without_form, integer_past, enumerated_past}
use Rattle.primitive_reader.specs.proving.Numbers.{IsNumber, IsNone}

-- ---- BOOLEAN

pub read_false : (x : List ℕ) (n : ℕ) (b : List ℕ) → x ≡ n ∷ b → length b ≤ 0 → n ≡ 0 → ReadsContents kinds.Boolean x (leaves.Bool false)
read_false x n [] e l z = subst (λ q. ReadsContents kinds.Boolean q (leaves.Bool false)) (sym (e ∙ ap (λ k. k ∷ []) z)) (record { value = boolean false; means = refl; is_read = record { contents = of_false; suits = tt } })
read_false x n (y ∷ b) e l z = absurd (omega arith)

pub read_true : (x : List ℕ) (n : ℕ) (b : List ℕ) → x ≡ n ∷ b → length b ≤ 0 → 0 < n → AllBelowBase 256 x → ReadsContents kinds.Boolean x (leaves.Bool true)
read_true x n [] e l g all = subst (λ q. ReadsContents kinds.Boolean q (leaves.Bool true)) (sym e) (record { value = boolean true; means = refl; is_read = record { contents = of_true g (subst (λ q. AllBelowBase 256 q) e all).0 tt; suits = tt } })
read_true x n (y ∷ b) e l g all = absurd (omega arith)

pub no_boolean : (x : List ℕ) → length x ≡ 0 → IsRightFault BadContents kinds.Boolean x
no_boolean x l = without_form (λ f. (let e = ap length f.1 in omega (arith, e, l)))

pub long_boolean : (x : List ℕ) (n : ℕ) (b : List ℕ) → x ≡ n ∷ b → 0 < length b → IsRightFault BadContents kinds.Boolean x
long_boolean x n b e l = without_form (λ f. (let g = ap length (sym e ∙ f.1) in omega (arith, g, l)))

-- ---- numbers

pub same_number : (z : ℤ) → IsWithinLimit z → to_z w128 (of_z w128 z) ≡ z
same_number (pos n) l = omega (arith, ints)
same_number (negsuc n) l = omega (arith, ints)

pub read_integer : (x : List ℕ) (z : ℤ) → IsNumber z x → ReadsContents kinds.Integer x (leaves.Int (to_z w128 (of_z w128 z)))
read_integer x z n = subst (λ q. ReadsContents kinds.Integer x (leaves.Int q)) (sym (same_number z n.within)) (record { value = integer z; means = refl; is_read = record { contents = of_integer n.number; suits = n.within } })

pub read_enumerated : (x : List ℕ) (z : ℤ) → IsNumber z x → ReadsContents kinds.Enumerated x (leaves.Enum (to_z w128 (of_z w128 z)))
read_enumerated x z n = subst (λ q. ReadsContents kinds.Enumerated x (leaves.Enum q)) (sym (same_number z n.within)) (record { value = enumerated z; means = refl; is_read = record { contents = of_enumerated n.number; suits = n.within } })

pub number_within : (x : List ℕ) (z : ℤ) → IsNumber z x → IsNumber (to_z w128 (of_z w128 z)) x
number_within x z n = subst (λ q. IsNumber q x) (sym (same_number z n.within)) n

pub no_integer : (e : LeafFault) (x : List ℕ) → IsNone e x → IsRightFault e kinds.Integer x
no_integer BadContents x n = without_form (λ f. n f.0 f.1)
no_integer IntegerLimit x n = integer_past n.1 n.2
no_integer OidLimit x n = elim n [ ]

pub no_enumerated : (e : LeafFault) (x : List ℕ) → IsNone e x → IsRightFault e kinds.Enumerated x
no_enumerated BadContents x n = without_form (λ f. n f.0 f.1)
no_enumerated IntegerLimit x n = enumerated_past n.1 n.2
no_enumerated OidLimit x n = elim n [ ]

-- ---- NULL

pub read_null : (x : List ℕ) → length x ≡ 0 → ReadsContents kinds.Null x leaves.Null
read_null [] l = record { value = null; means = refl; is_read = record { contents = of_null; suits = tt } }
read_null (y ∷ x) l = absurd (omega arith)

pub no_null : (x : List ℕ) → (length x ≡ 0 → ⊥) → IsRightFault BadContents kinds.Null x
no_null x h = without_form (λ f. h (ap length f))

-- ---- OBJECT IDENTIFIER and RELATIVE-OID

pub oid_contents : (x ns : List ℕ) → IsObjectIdentifier ns → x ≡ flat_map septets (joined ns) → IsReadAs kinds.ObjectIdentifier (oid ns) x
oid_contents x ns a e = subst (λ q. IsReadAs kinds.ObjectIdentifier (oid ns) q) (sym e) (record { contents = of_oid a; suits = tt })

pub relative_contents : (x ns : List ℕ) → IsRelativeOid ns → x ≡ flat_map septets ns → IsReadAs kinds.RelativeOid (relative_oid ns) x
relative_contents x ns a e = subst (λ q. IsReadAs kinds.RelativeOid (relative_oid ns) q) (sym e) (record { contents = of_relative_oid a; suits = tt })

-- ---- texts

pub is_text : (t x : List ℕ) → t ≡ x → IsUtf8 x → IsUtf8 t
is_text t x e u = subst IsUtf8 (sym e) u

pub read_text : (x : List ℕ) (t : Bor (List ℕ)) → t.now ≡ x → IsUtf8 x → AllBelowBase 256 x → ReadsContents kinds.Utf8String x (leaves.Text t)
read_text x t e u all = record {
  value = text t.now;
  means = refl;
  is_read = subst (λ q. IsReadAs kinds.Utf8String (text q) x) (sym e) (record { contents = of_utf8 (whole all) tt; suits = u });
}

pub read_characters : (k : StringKind) (x : List ℕ) (t : Bor (List ℕ)) → t.now ≡ x → AllByRecursion (λ c. IsTrue (is_character k c)) x → AllBelowBase 256 x → ReadsContents (kinds.RestrictedString k) x (leaves.Text t)
read_characters k x t e u all = record {
  value = text t.now;
  means = refl;
  is_read = subst (λ q. IsReadAs (kinds.RestrictedString k) (text q) x) (sym e) (record { contents = of_restricted (whole all) tt; suits = u });
}

-- ---- the same of a kind that is known

pub given : {k m : LeafKind} (x : List ℕ) (r : Result Leaf LeafFault) → k ≡ m → IfOk r (ReadsContents m x) → IfOk r (ReadsContents k x)
given x r e h = subst (λ q. IfOk r (ReadsContents q x)) (sym e) h

pub refused : {k m : LeafKind} (x : List ℕ) (r : Result Leaf LeafFault) → k ≡ m → IfErr r (λ f. IsRightFault f m x) → IfErr r (λ f. IsRightFault f k x)
refused x r e h = subst (λ q. IfErr r (λ f. IsRightFault f q x)) (sym e) h
