-- What a packed routine writes of a value, step by step: the bits of a component, an element or an alternative are
-- those of its value.
use Rattle.std.specs.Prelude.{ℕ, zero, suc, ◌-◌, ℤ, ◌-ℤ◌, nat_abs, Bool, true, false, ◌||◌, if◌then◌else◌, List, []}
use Rattle.std.specs.Prelude.{◌∷◌, ◌++◌, Option, Some, slice_get}
use Rattle.bits.specs.Words.{low_bits}
use Rattle.asn_base.specs.Abstract.{AbstractValue, integer, fields, list, alternative, Row, end, absent, present}
use Rattle.asn_base.specs.Schemas.{components}
use Rattle.asn_base.specs.Types.{Kind, a_sequence_of, a_set_of, TypeNumber, Resolved}
use Rattle.packed_encodings.specs.Lengths.{Bits, Items}
use Rattle.packed_encodings.specs.Leaves.{root_bit}
use Rattle.packed_encodings.specs.Orders.{Member, missing, standing}
use Rattle.packed_encodings.specs.Packing.{any_set}
use Rattle.packed_encodings.specs.Computed.{sized_bits, leaf_bits, open_bits, is_default, sorted, members_by, elements_by}
use Rattle.packed_encodings.specs.Computed.{kind_at, bits_of}
use Rattle.packed_code.specs.declared.step.PackedField.{PackedField}
use Rattle.packed_code.specs.declared.step.PackedStep.{PackedStep}
use Rattle.packed_code.specs.declared.step.PackedStep.TheVariants as steps

-- ---- components

-- the components of a value of type t, with the bits of those that are written: present, and different from a DEFAULT
abbrev pub members_of : List Resolved → TypeNumber → AbstractValue → List (Member Bits)
members_of s t (fields ws) = members_by (is_default s) s ws (components (kind_at s t))
members_of s t v = []

abbrev pub is_written : List (Member Bits) → ℕ → Bool
is_written [] i = false
is_written (missing c ∷ ms) zero = false
is_written (standing c x ∷ ms) zero = true
is_written (m ∷ ms) (suc i) = is_written ms i

abbrev pub bits_at : List (Member Bits) → ℕ → Bits
bits_at [] i = []
bits_at (missing c ∷ ms) zero = []
bits_at (standing c x ∷ ms) zero = x
bits_at (m ∷ ms) (suc i) = bits_at ms i

-- a component at this place or after it is present
abbrev pub any_from : ℕ → Row → Bool
any_from i end = false
any_from zero (absent ws) = any_from zero ws
any_from zero (present w ws) = true
any_from (suc i) (absent ws) = any_from i ws
any_from (suc i) (present w ws) = any_from i ws

abbrev pub mark_bit : ℕ → AbstractValue → Bool
mark_bit i (fields ws) = any_from i ws
mark_bit i v = false

-- the fields of the next n steps
abbrev pub next_fields : ℕ → List PackedStep → List PackedField
next_fields zero ss = []
next_fields (suc n) [] = []
next_fields (suc n) (steps.Field f ∷ ss) = f ∷ next_fields n ss
next_fields (suc n) (steps.Member f ∷ ss) = f ∷ next_fields n ss
next_fields (suc n) (st ∷ ss) = next_fields n ss

-- a bit for each field that has one
abbrev pub map_bits : List (Member Bits) → List PackedField → Bits
map_bits ms [] = []
map_bits ms (f ∷ fs) = if f.with_bit then is_written ms f.place ∷ map_bits ms fs else map_bits ms fs

abbrev pub any_written : List (Member Bits) → List PackedField → Bool
any_written ms [] = false
any_written ms (f ∷ fs) = is_written ms f.place || any_written ms fs

abbrev pub field_bits : List (Member Bits) → List PackedField → Bits
field_bits ms [] = []
field_bits ms (f ∷ fs) = bits_at ms f.place ++ field_bits ms fs

-- a bit for each addition of these steps
abbrev pub addition_map : List (Member Bits) → List PackedStep → Bits
addition_map ms [] = []
addition_map ms (steps.Added f ∷ ss) = is_written ms f.place ∷ addition_map ms ss
addition_map ms (steps.Group n ∷ ss) = any_written ms (next_fields n ss) ∷ addition_map ms ss
addition_map ms (st ∷ ss) = addition_map ms ss

abbrev pub bitmap_bits : ℕ → (map : Bits) → Bits
bitmap_bits n q = if any_set q then false ∷ (low_bits 6 (n - 1) ++ q) else []

abbrev pub group_bits : List (Member Bits) → List PackedField → Bits
group_bits ms fs = if any_written ms fs then open_bits (map_bits ms fs ++ field_bits ms fs) else []

-- ---- elements and alternatives

abbrev pub items_of : List Resolved → TypeNumber → AbstractValue → Items
items_of s u (list ws) = elements_by (is_default s) s ws u
items_of s u v = []

abbrev pub listed_bits : Kind → Items → Bits
listed_bits (a_sequence_of c u) xs = sized_bits c.visible xs
listed_bits (a_set_of c u) xs = sized_bits c.visible xs
listed_bits k xs = []

abbrev pub call_bits : List Resolved → AbstractValue → Option PackedStep → Bits
call_bits s w (Some (steps.Root r)) = root_bit r.extensible ++ (low_bits r.width r.rank ++ bits_of s w r.ty.index)
call_bits s w (Some (steps.More i u)) = true ∷ (false ∷ (low_bits 6 i ++ open_bits (bits_of s w u.index)))
call_bits s w o = []

abbrev pub pick_bits : List Resolved → AbstractValue → List PackedStep → Bits
pick_bits s (alternative i w) ss = call_bits s w (slice_get ss i)
pick_bits s v ss = []

-- ---- steps

abbrev pub number_bits : ℤ → ℕ → AbstractValue → Bits
number_bits l n (integer z) = low_bits n (nat_abs (z -ℤ l))
number_bits l n v = []

-- the bits of one step of type t's routine, which comes before other steps
abbrev pub step_bits : List Resolved → TypeNumber → AbstractValue → PackedStep → List PackedStep → Bits
step_bits s t v steps.Bit ss = leaf_bits (kind_at s t) v
step_bits s t v (steps.Number l n) ss = number_bits l n v
step_bits s t v steps.Leaf ss = leaf_bits (kind_at s t) v
step_bits s t v (steps.ExtensionBit i) ss = mark_bit i v ∷ []
step_bits s t v (steps.Map n) ss = map_bits (members_of s t v) (next_fields n ss)
step_bits s t v (steps.Field f) ss = bits_at (members_of s t v) f.place
step_bits s t v (steps.Bitmap n) ss = bitmap_bits n (addition_map (members_of s t v) ss)
step_bits s t v (steps.Added f) ss =
    if is_written (members_of s t v) f.place then open_bits (bits_at (members_of s t v) f.place) else []
step_bits s t v (steps.Group n) ss = group_bits (members_of s t v) (next_fields n ss)
step_bits s t v (steps.Member f) ss = []
step_bits s t v steps.Rest ss = []
step_bits s t v (steps.Each u) ss = listed_bits (kind_at s t) (items_of s u.index v)
step_bits s t v (steps.EachSorted u) ss = listed_bits (kind_at s t) (sorted (items_of s u.index v))
step_bits s t v (steps.Pick n) ss = pick_bits s v ss
step_bits s t v (steps.Root r) ss = []
step_bits s t v (steps.More i u) ss = []

-- the bits that steps of type t's routine write of a value
abbrev pub steps_bits : List Resolved → TypeNumber → AbstractValue → List PackedStep → Bits
steps_bits s t v [] = []
steps_bits s t v (st ∷ ss) = step_bits s t v st ss ++ steps_bits s t v ss
