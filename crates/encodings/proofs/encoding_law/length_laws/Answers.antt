use Rattle.std.proofs.Common.{ℕ, ◌⊎◌, ◌^◌, List}
use Rattle.asn_base.specs.Abstract.{AbstractValue}
use Rattle.asn_base.specs.Schemas.{IsSchema}
use Rattle.asn_base.specs.Typed.{IsValueWithoutNodes}
use Rattle.asn_base.specs.Types.{Resolved}
use Rattle.encodings.specs.Encoding.{Ber, Der}
use Rattle.encodings.proofs.Encodable.{encodable_or_none, few_digits}
use Rattle.encodings.proofs.Theorems.{no_longer, within}
use Rattle.encodings.proofs.encoding_law.length_laws.Goals as goal

pub returns : goal.returns
returns c =
    let q = c.lemma_sameness.ensures in
    let l = c.lemma_alike_values.ensures in
    let d = c.der_laws.ensures in
    let e : (s : List Resolved) → IsSchema s → (t : ℕ) (v : AbstractValue) → IsValueWithoutNodes s t v → ((o : List ℕ) × Der s t v 0 o) ⊎ ((p : List ℕ) → Ber s t v 0 p → ⊥)
    = λ s i t v a. encodable_or_none s i (q.alike_turned s) (q.alike_joined s) (l.groups s) (l.levels s) (l.decided s) (256 ^ 126) few_digits t v a in
    record {
      least = λ s t v p i b. no_longer s t v p b (e s i t v b.1.first) (d.shortest s t v);
      within = λ s t m v i a. within s t m v (e s i t v a) (d.shortest s t v);
    }
