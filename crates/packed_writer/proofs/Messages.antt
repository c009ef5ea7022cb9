-- The one message of a value.
use Rattle.std.proofs.Common.{◌≡◌, ℕ, ◌≤◌, ◌<◌, List, length, sym, subst}
use Rattle.asn_base.specs.Abstract.{AbstractValue}
use Rattle.asn_base.specs.Schemas.{IsSchema}
use Rattle.asn_base.specs.Same.{Same}
use Rattle.asn_base.specs.Typed.{IsValue}
use Rattle.asn_base.specs.Types.{Resolved}
use Rattle.packed_encodings.specs.Lengths.{Bits}
use Rattle.packed_encodings.specs.Packing.{Packed}
use Rattle.packed_encodings.specs.Padding.{Padded}
use Rattle.packed_encodings.specs.Weights.{weight}
use Rattle.packed_writer.specs.Message.{IsMessage}

abbrev pub OneList : Type 0
OneList = (s : List Resolved) (t : ℕ) (v w : AbstractValue) (x y : Bits) → IsSchema s → Same s t v w → Packed s t v x → Packed s t w y → y ≡ x

abbrev pub OneFilling : Type 0
OneFilling = (x : Bits) (o r : List ℕ) → Padded x o → Padded x r → r ≡ o

pub only : OneList → OneFilling → (s : List Resolved) (t : ℕ) (v : AbstractValue) (x : Bits) (o : List ℕ) → IsSchema s → Same s t v v → Packed s t v x → Padded x o → (b : Bits) (p : List ℕ) → Packed s t v b → Padded b p → p ≡ o
only one filling s t v x o schema same k f b p l g = filling x o p f (subst (λ q. Padded q p) (one s t v v x b schema same k l) g)

pub message : OneList → OneFilling → (s : List Resolved) (t : ℕ) (v : AbstractValue) (x : Bits) (o : List ℕ) → IsSchema s → Same s t v v → IsValue s t v → weight v ≤ 16777216 → Packed s t v x → Padded x o → length o ≤ 16777216 → IsMessage s t v o
message one filling s t v x o schema same a h k f l = record { value = a; light = h; bits = x; packed = k; filled = f; only = only one filling s t v x o schema same k f; not_too_long = l }

pub longer : OneList → OneFilling → (s : List Resolved) (t : ℕ) (v : AbstractValue) (x : Bits) (o : List ℕ) → IsSchema s → Same s t v v → Packed s t v x → Padded x o → 16777216 < length o → (b : Bits) (p : List ℕ) → Packed s t v b → Padded b p → 16777216 < length p
longer one filling s t v x o schema same k f l b p h g = subst (λ q. 16777216 < length q) (sym (only one filling s t v x o schema same k f b p h g)) l
