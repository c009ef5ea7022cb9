-- Worked rows: which parts values have, and which wrong part is reported first.
use Rattle.std.proofs.Common.{◌≡◌, Bool, true, List, [], ◌∷◌, refl}
use Rattle.std.specs.Prelude.{Some}
use Rattle.asn_base.specs.Abstract.{AbstractValue, fields, list, alternative, null, end, absent, present}
use Rattle.asn_base.specs.Typed.{IsValue}
use Rattle.asn_base.specs.Types.{TypeNumber, Alternative, Component, Constraint, Kind, a_sequence, a_set, a_sequence_of, a_set_of, a_choice, Resolved}
use Rattle.ber_reader.specs.declared.open.Part.TheVariants as a_part
use Rattle.ber_reader.specs.Judged.{placed, element_pieces, parts, FirstWrong, wrong_here, right_here}

-- a component has the number of its place, whichever before it are absent
absent_ones_are_numbered : (e : Bool) (c d f : Component) (v w : AbstractValue)
    → parts (a_sequence e (c ∷ d ∷ f ∷ [])) (fields (absent (present v (present w end)))) ≡ placed (a_part.Component 1) d.type v ∷ placed (a_part.Component 2) f.type w ∷ []
absent_ones_are_numbered e c d f v w = refl

components_of_a_set : (e : Bool) (c d : Component) (v w : AbstractValue)
    → parts (a_set e (c ∷ d ∷ [])) (fields (present v (present w end))) ≡ placed (a_part.Component 0) c.type v ∷ placed (a_part.Component 1) d.type w ∷ []
components_of_a_set e c d v w = refl

elements_are_numbered : (c : Constraint) (u : TypeNumber) (v w : AbstractValue)
    → parts (a_sequence_of c u) (list (present v (present w end))) ≡ placed (a_part.Element 0) u v ∷ placed (a_part.Element 1) u w ∷ []
elements_are_numbered c u v w = refl

elements_of_a_set : (c : Constraint) (u : TypeNumber) (v w : AbstractValue)
    → parts (a_set_of c u) (list (present v (present w end))) ≡ placed (a_part.Element 0) u v ∷ placed (a_part.Element 1) u w ∷ []
elements_of_a_set c u v w = refl

-- alternatives are counted over the root and the additions
an_addition_of_a_choice : (a b : Alternative) (v : AbstractValue) → parts (a_choice (a ∷ []) true (b ∷ [])) (alternative 1 v) ≡ placed (a_part.Alternative 1) b.type v ∷ []
an_addition_of_a_choice a b v = refl

no_parts_of_null : (k : Kind) → parts k null ≡ []
no_parts_of_null k = refl

-- after a first element that is one of its type the second is reported, whatever follows it
the_second_element : (s : List Resolved) (u : TypeNumber) (v w x : AbstractValue)
    → IsValue s u v
    → (IsValue s u w → ⊥)
    → FirstWrong s (element_pieces 0 u (present v (present w (present x end)))) (Some (placed (a_part.Element 1) u w))
the_second_element s u v w x a n = right_here a (wrong_here n)

-- the second of two that are none is not
not_the_second_element : (s : List Resolved) (u : TypeNumber) (v w : AbstractValue)
    → (IsValue s u v → ⊥)
    → FirstWrong s (element_pieces 0 u (present v (present w end))) (Some (placed (a_part.Element 1) u w))
    → ⊥
not_the_second_element s u v w n (right_here a f) = n a
