use Rattle.std.proofs.Common.{◌≡◌, ℕ, List, sym, subst}
use Rattle.asn_base.specs.Abstract.{AbstractValue}
use Rattle.asn_base.specs.Schemas.{IsSchema}
use Rattle.asn_base.specs.Types.{Resolved}
use Rattle.packed_encodings.specs.Computed.{DefaultTest, DecidesDefaults, bits_by, is_default}
use Rattle.packed_encodings.specs.Lengths.{Bits}
use Rattle.packed_encodings.specs.Packing.{Packed}
use Rattle.packed_encodings.proofs.ComputedBits.{computed}
use Rattle.packed_encodings.proofs.Deciding.{tells}
use Rattle.packed_encodings.proofs.packing_law.computing_laws.Goals as goal

pub returns : goal.returns
returns c =
    let q = c.lemma_sameness.ensures in
    let e = c.existence_laws.ensures in
    let only : (s : List Resolved) (test : DefaultTest) (t : ℕ) (v : AbstractValue) (x : Bits) → IsSchema s → DecidesDefaults s test → Packed s t v x → bits_by test s v t ≡ x
    = λ s test t v x i d p. computed s i (q.alike_turned s) (q.alike_joined s) test d.is_default d.no_default p.1.first p.1.are_alike p.2 in
    let bitmap : (s : List Resolved) → DecidesDefaults s (is_default s)
    = λ s. tells s (q.alike_turned s) (q.alike_joined s) (c.lemma_alike_values.ensures.levels s) in
    record {
      only = only;
      defaults = bitmap;
      packed = λ s t v i a. (let p = e.bits s t v i a in subst (Packed s t v) (sym (only s (is_default s) t v p.0 i (bitmap s) p.1)) p.1);
    }
