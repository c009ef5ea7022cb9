-- The packed routine of each type (X.691, 12 to 23).
use Rattle.std.specs.Prelude.{ℕ, suc, ◌+◌, ℤ, ◌-ℤ◌, nat_abs, Bool, true, false, if◌then◌else◌, List, [], ◌∷◌, ◌++◌}
use Rattle.std.specs.Prelude.{length, map, flat_map, Option, Some, None, slice_get}
use Rattle.asn_base.specs.declared.schema.TypeId.{TypeId}
use Rattle.asn_base.specs.Types.{Alternative, Kind, a_boolean, an_integer}
use Rattle.asn_base.specs.Types.{a_sequence, a_set, a_sequence_of, a_set_of}
use Rattle.asn_base.specs.Types.{a_choice, mandatory, optional, default, addition, Presence, TypeNumber, Component}
use Rattle.asn_base.specs.Types.{Resolved}
use Rattle.packed_encodings.specs.Lengths.{fewest_bits}
use Rattle.packed_encodings.specs.Leaves.{place_width}
use Rattle.packed_encodings.specs.Orders.{canonical_place, Member, missing, standing, component, root_members}
use Rattle.packed_encodings.specs.Orders.{past_marker, canonical, has_bit}
use Rattle.packed_encodings.specs.Orders.{Addition, alone, bracketed, additions}
use Rattle.packed_code.specs.declared.step.PackedField.{PackedField}
use Rattle.packed_code.specs.declared.step.PackedStep.{PackedStep}
use Rattle.packed_code.specs.declared.step.PackedStep.TheVariants as steps

abbrev pub id_of : TypeNumber → TypeId
id_of t = record { index = t }

-- ---- components

abbrev pub has_default : Presence → Bool
has_default mandatory = false
has_default optional = false
has_default (default d) = true
has_default (addition o g) = false

abbrev pub field_of : ℕ → Component → PackedField
field_of i c = record {
  place = i;
  with_bit = has_bit c.presence;
  with_default = has_default c.presence;
  ty = id_of c.type;
}

-- each component with its place in order of definition
abbrev pub placed_from : ℕ → List Component → List (Member ℕ)
placed_from i [] = []
placed_from i (c ∷ cs) = standing c i ∷ placed_from (suc i) cs

abbrev pub place_in : Member ℕ → ℕ
place_in (missing c) = 0
place_in (standing c i) = i

abbrev pub field_at : Member ℕ → PackedField
field_at m = field_of (place_in m) (component m)

abbrev pub root_steps : List (Member ℕ) → List PackedStep
root_steps = map (λ m. steps.Field (field_at m))

abbrev pub member_steps : List (Member ℕ) → List PackedStep
member_steps = map (λ m. steps.Member (field_at m))

abbrev pub addition_steps : List (Addition ℕ) → List PackedStep
addition_steps [] = []
addition_steps (alone m ∷ ds) = steps.Added (field_at m) ∷ addition_steps ds
addition_steps (bracketed ms ∷ ds) = steps.Group (length ms) ∷ (member_steps ms ++ addition_steps ds)

-- the step before the root of an extensible type whose root has n components
abbrev pub mark_if : Bool → ℕ → List PackedStep
mark_if e n = if e then steps.ExtensionBit n ∷ [] else []

-- the steps after the root of an extensible type
abbrev pub rest_if : Bool → List (Addition ℕ) → List PackedStep
rest_if e ds = if e then steps.Bitmap (length ds) ∷ (addition_steps ds ++ steps.Rest ∷ []) else []

-- the steps of a SEQUENCE or SET, from its root's components in the order in which they are encoded, and all components
abbrev pub structure : Bool → (root all : List (Member ℕ)) → List PackedStep
structure e root all =
    mark_if e (length (root_members all))
    ++ (steps.Map (length root) ∷ (root_steps root ++ rest_if e (additions (past_marker all))))

-- ---- alternatives

abbrev pub root_calls : List Resolved → Bool → (all root : List Alternative) → List PackedStep
root_calls s e all [] = []
root_calls s e all (a ∷ as') =
    steps.Root (record {
      extensible = e;
      width = place_width (length all);
      rank = canonical_place s all a.type;
      ty = id_of a.type;
    })
    ∷ root_calls s e all as'

abbrev pub more_calls : ℕ → List Alternative → List PackedStep
more_calls i [] = []
more_calls i (a ∷ as') = steps.More i (id_of a.type) ∷ more_calls (suc i) as'

-- ---- routines

abbrev pub integer_step : (extensible : Bool) → (least greatest : Option ℤ) → PackedStep
integer_step false (Some l) (Some u) = steps.Number l (fewest_bits (nat_abs (u -ℤ l)))
integer_step e l u = steps.Leaf

unfoldable pub routine_of : List Resolved → Kind → List PackedStep
routine_of s a_boolean = steps.Bit ∷ []
routine_of s (an_integer c) = integer_step c.visible.extensible c.visible.least c.visible.greatest ∷ []
routine_of s (a_sequence e cs) = structure e (root_members (placed_from 0 cs)) (placed_from 0 cs)
routine_of s (a_set e cs) = structure e (canonical s (root_members (placed_from 0 cs))) (placed_from 0 cs)
routine_of s (a_sequence_of c u) = steps.Each (id_of u) ∷ []
routine_of s (a_set_of c u) = steps.EachSorted (id_of u) ∷ []
routine_of s (a_choice root e more) =
    steps.Pick (length root + length more) ∷ (root_calls s e root root ++ more_calls 0 more)
routine_of s k = steps.Leaf ∷ []

-- the routine of a type; no steps if there is no such type
abbrev pub routine_at : List Resolved → TypeNumber → List PackedStep
routine_at s t = elim (slice_get s t) [ None ↦ [] | Some r ↦ routine_of s r.kind ]

-- ---- one table

-- all routines, one after the other
abbrev pub table_of : List Resolved → List PackedStep
table_of s = flat_map (λ r. routine_of s r.kind) s

-- the index at which the routine of each of some types begins, after n steps, and the index at which the last one ends
abbrev pub starts_from : List Resolved → ℕ → List Resolved → List ℕ
starts_from s n [] = n ∷ []
starts_from s n (r ∷ rs) = n ∷ starts_from s (n + length (routine_of s r.kind)) rs

abbrev pub starts_of : List Resolved → List ℕ
starts_of s = starts_from s 0 s
