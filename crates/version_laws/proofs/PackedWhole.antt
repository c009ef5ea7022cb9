-- Packed bits and messages as wholes, read by the other version.
use Rattle.std.proofs.Common.{arith, ◌≡◌, ℕ, ◌<◌, ◌≤◌, List, [], ◌∷◌, length, refl, sym, subst}
use Rattle.asn_base.specs.Abstract.{AbstractValue, boolean, integer, enumerated, bits, octets, text, null, oid, relative_oid, fields, list, alternative, Row, end, absent, present}
use Rattle.asn_base.specs.Types.{Resolved}
use Rattle.asn_base.specs.Typed.{IsValueWithoutNodes, nodes, row_nodes}
use Rattle.asn_base.specs.Same.{Same}
use Rattle.asn_base.specs.Schemas.{IsSchema}
use Rattle.later_versions.specs.Projected.{members_of, member_of, projected, projected_row, projected_elements}
use Rattle.later_versions.specs.Later.{Later}
use Rattle.packed_encodings.specs.Lengths.{Bits}
use Rattle.packed_encodings.specs.Packing.{lenient, EncodesPer, Reads}
use Rattle.version_laws.specs.LeftOut.{left_out_packed}
use Rattle.version_laws.specs.Versions.{IsKnown}
use Rattle.packed_encodings.specs.Weights.{weight, row_weight}
use Rattle.version_laws.specs.Lifted.{all_absent, lifted, lifted_row, lifted_elements}
use Rattle.version_laws.proofs.Apart.{type_there}
use Rattle.version_laws.proofs.Alikes.{Laws, alike_kept}
use Rattle.version_laws.proofs.Wide.{wide_nodes}
use Rattle.version_laws.proofs.PackedCounts.{same_count}
use Rattle.version_laws.proofs.PackedOlder.{older}
use Rattle.version_laws.proofs.PackedNewer.{newer}

-- ---- nodes

mutual
  fewer_nodes : (s : List Resolved) (t : ℕ) (v : AbstractValue) → nodes (projected s t v) ≤ nodes v
  fewer_nodes s t (boolean b) = omega arith
  fewer_nodes s t (integer z) = omega arith
  fewer_nodes s t (enumerated z) = omega arith
  fewer_nodes s t (bits b) = omega arith
  fewer_nodes s t (octets o) = omega arith
  fewer_nodes s t (text o) = omega arith
  fewer_nodes s t null = omega arith
  fewer_nodes s t (oid ns) = omega arith
  fewer_nodes s t (relative_oid ns) = omega arith
  fewer_nodes s t (fields vs) = let r = fewer_in_row s (members_of s t) vs in omega (arith, r)
  fewer_nodes s t (list vs) = let r = fewer_in_elements s (member_of s t 0) vs in omega (arith, r)
  fewer_nodes s t (alternative i v) = let r = fewer_nodes s (member_of s t i) v in omega (arith, r)

  fewer_in_row : (s : List Resolved) (us : List ℕ) (vs : Row) → row_nodes (projected_row s us vs) ≤ row_nodes vs
  fewer_in_row s us end = omega arith
  fewer_in_row s [] (absent vs) = omega arith
  fewer_in_row s [] (present v vs) = omega arith
  fewer_in_row s (u ∷ us) (absent vs) = fewer_in_row s us vs
  fewer_in_row s (u ∷ us) (present v vs) = let a = fewer_nodes s u v in let r = fewer_in_row s us vs in omega (arith, a, r)

  fewer_in_elements : (s : List Resolved) (u : ℕ) (vs : Row) → row_nodes (projected_elements s u vs) ≤ row_nodes vs
  fewer_in_elements s u end = omega arith
  fewer_in_elements s u (absent vs) = fewer_in_elements s u vs
  fewer_in_elements s u (present v vs) = let a = fewer_nodes s u v in let r = fewer_in_elements s u vs in omega (arith, a, r)

-- ---- weights

mutual
  kept_weight : (s : List Resolved) (t : ℕ) (v : AbstractValue) → weight (projected s t v) ≤ weight v
  kept_weight s t (boolean b) = omega arith
  kept_weight s t (integer z) = omega arith
  kept_weight s t (enumerated z) = omega arith
  kept_weight s t (bits b) = omega arith
  kept_weight s t (octets o) = omega arith
  kept_weight s t (text o) = omega arith
  kept_weight s t null = omega arith
  kept_weight s t (oid ns) = omega arith
  kept_weight s t (relative_oid ns) = omega arith
  kept_weight s t (fields vs) = let r = kept_row_weight s (members_of s t) vs in omega (arith, r)
  kept_weight s t (list vs) = let r = kept_elements_weight s (member_of s t 0) vs in omega (arith, r)
  kept_weight s t (alternative i v) = let r = kept_weight s (member_of s t i) v in omega (arith, r)

  kept_row_weight : (s : List Resolved) (us : List ℕ) (vs : Row) → row_weight (projected_row s us vs) ≤ row_weight vs
  kept_row_weight s us end = omega arith
  kept_row_weight s [] (absent vs) = omega arith
  kept_row_weight s [] (present v vs) = omega arith
  kept_row_weight s (u ∷ us) (absent vs) = kept_row_weight s us vs
  kept_row_weight s (u ∷ us) (present v vs) = let a = kept_weight s u v in let r = kept_row_weight s us vs in omega (arith, a, r)

  kept_elements_weight : (s : List Resolved) (u : ℕ) (vs : Row) → row_weight (projected_elements s u vs) ≤ row_weight vs
  kept_elements_weight s u end = omega arith
  kept_elements_weight s u (absent vs) = kept_elements_weight s u vs
  kept_elements_weight s u (present v vs) = let a = kept_weight s u v in let r = kept_elements_weight s u vs in omega (arith, a, r)

no_weight : (us : List ℕ) → row_weight (all_absent us) ≤ 0
no_weight [] = omega arith
no_weight (u ∷ us) = no_weight us

mutual
  wide_weight : (s : List Resolved) (t : ℕ) (v : AbstractValue) → weight (lifted s t v) ≤ weight v
  wide_weight s t (boolean b) = omega arith
  wide_weight s t (integer z) = omega arith
  wide_weight s t (enumerated z) = omega arith
  wide_weight s t (bits b) = omega arith
  wide_weight s t (octets o) = omega arith
  wide_weight s t (text o) = omega arith
  wide_weight s t null = omega arith
  wide_weight s t (oid ns) = omega arith
  wide_weight s t (relative_oid ns) = omega arith
  wide_weight s t (fields vs) = let r = wide_row_weight s (members_of s t) vs in omega (arith, r)
  wide_weight s t (list vs) = let r = wide_elements_weight s (member_of s t 0) vs in omega (arith, r)
  wide_weight s t (alternative i v) = let r = wide_weight s (member_of s t i) v in omega (arith, r)

  wide_row_weight : (s : List Resolved) (us : List ℕ) (vs : Row) → row_weight (lifted_row s us vs) ≤ row_weight vs
  wide_row_weight s us end = no_weight us
  wide_row_weight s [] (absent vs) = omega arith
  wide_row_weight s [] (present v vs) = omega arith
  wide_row_weight s (u ∷ us) (absent vs) = wide_row_weight s us vs
  wide_row_weight s (u ∷ us) (present v vs) = let a = wide_weight s u v in let r = wide_row_weight s us vs in omega (arith, a, r)

  wide_elements_weight : (s : List Resolved) (u : ℕ) (vs : Row) → row_weight (lifted_elements s u vs) ≤ row_weight vs
  wide_elements_weight s u end = omega arith
  wide_elements_weight s u (absent vs) = wide_elements_weight s u vs
  wide_elements_weight s u (present v vs) = let a = wide_weight s u v in let r = wide_elements_weight s u vs in omega (arith, a, r)

-- ---- wholes

module _ (laws : Laws) (s s' : List Resolved) (t t' : ℕ) (schema : IsSchema s) (schema' : IsSchema s') (l : Later s t s' t') where
  pub older_bits : {w : AbstractValue} {b : Bits} → IsKnown s t w → IsValueWithoutNodes s' t' w → EncodesPer s' lenient t' w 0 b → EncodesPer s lenient t (projected s t w) (left_out_packed s t s' t' w) b
  older_bits known v a = older laws s s' schema schema' l a known v refl

  pub kept_same : {v w : AbstractValue} → IsKnown s t v → Same s' t' v w → Same s t (projected s t v) (projected s t w)
  kept_same known a =
      let k = alike_kept laws s s' l a.are_alike known in
      record { first = known; second = k.value; are_alike = k.are_alike }

  pub as_many : {v w : AbstractValue} → IsKnown s t v → Same s' t' v w → left_out_packed s t s' t' v ≡ left_out_packed s t s' t' w
  as_many known a = same_count laws s s' l a.are_alike known a.first a.second

  pub older_same : {v w : AbstractValue} {b : Bits} → IsKnown s t v → Same s' t' v w → EncodesPer s' lenient t' w 0 b → EncodesPer s lenient t (projected s t w) (left_out_packed s t s' t' v) b
  older_same {v} {w} {b} known a x =
      subst (λ n. EncodesPer s lenient t (projected s t w) n b) (sym (as_many known a)) (older_bits (kept_same known a).second a.second x)

  pub older_message : {w : AbstractValue} {o : List ℕ} → IsKnown s t w → Reads s' t' w 0 o → Reads s t (projected s t w) (left_out_packed s t s' t' w) o
  older_message {w} known r =
      let n = fewer_nodes s t w in
      let m = r.value.few_nodes in
      let j = kept_weight s t w in
      let k = r.light in
      record { value = record { shaped = known; few_nodes = omega (arith, n, m) }; light = omega (arith, j, k); bits = r.bits; says_it = older_bits known r.value.shaped r.says_it; filled = r.filled }

  pub older_message_same : {v w : AbstractValue} {o : List ℕ} → IsKnown s t v → Same s' t' v w → Reads s' t' w 0 o → Reads s t (projected s t w) (left_out_packed s t s' t' v) o
  older_message_same {v} {w} {o} known a r =
      subst (λ n. Reads s t (projected s t w) n o) (sym (as_many known a)) (older_message (kept_same known a).second r)

  pub newer_bits : {w : AbstractValue} {b : Bits} → t' < length s' → IsValueWithoutNodes s t w → EncodesPer s lenient t w 0 b → EncodesPer s' lenient t' (lifted s' t' w) 0 b
  newer_bits h v a = newer laws s s' schema schema' l (type_there s' t' h) a v refl

  pub newer_message : {w : AbstractValue} {o : List ℕ} → t' < length s' → Reads s t w 0 o → Reads s' t' (lifted s' t' w) 0 o
  newer_message {w} h r =
      let j = wide_weight s' t' w in
      let k = r.light in
      record { value = wide_nodes laws s s' t t' schema' l h w r.value; light = omega (arith, j, k); bits = r.bits; says_it = newer_bits h r.value.shaped r.says_it; filled = r.filled }
